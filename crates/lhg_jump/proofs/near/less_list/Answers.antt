use Rattle.std.proofs.Common.{[], cond, sym, ap, ◌∙◌, subst}
use Rattle.std.proofs.lemmas.Bool.{ne_eqb}
use Rattle.lhg_num.specs.FracArithmetic.{frac_arithmetic}
use Rattle.lhg_row.specs.Lists.{minus}
use Rattle.lhg_union.specs.PolyLists.{lines_of, AllVars}
use Rattle.lhg_jump.proofs.NearSteps.{minus-none}
use Rattle.lhg_jump.proofs.near.less_list.Goals as goal

pub returns-then-switch-l-clause-calculus : goal.returns-then-switch-l-clause-calculus
returns-then-switch-l-clause-calculus c =
    let n = c.args.vars in
    let near = lines_of c.args.near.items in
    minus-none n near ∙ ap (λ b. (minus frac_arithmetic n near (cond b (lines_of c.args.list.now) [])).value) (sym (ne_eqb c.args.switch.now.from c.args.l c.if-switch-l.true))

pub minus-requires : goal.minus-requires
minus-requires c = record {
  vars = c.args.vars;
  first = subst (AllVars c.args.vars) (sym c.deref.ensures.value) c.requires.near;
  second = c.requires.list;
}
