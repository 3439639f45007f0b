use Rattle.std.proofs.Common.{sym, subst}
use Rattle.lhg_union.specs.PolyLists.{AllVars}
use Rattle.lhg_jump.proofs.hits.push_hit.Goals as goal

pub covered-requires : goal.covered-requires
covered-requires c = record {
  vars = c.args.vars;
  first = subst (AllVars c.args.vars) (sym c.from_ref.ensures.value) (c.requires.piece, tt);
  second = subst (AllVars c.args.vars) (sym c.deref.ensures.value) c.requires.kept.piece_vars;
}
