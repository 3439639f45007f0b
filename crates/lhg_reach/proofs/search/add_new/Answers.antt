use Rattle.std.proofs.Common.{refl, sym, ap, ◌∙◌, subst}
use Rattle.std.proofs.lemmas.List.{map-append}
use Rattle.lhg_union.specs.PolyLists.{lines_of, AllVars}
use Rattle.lhg_reach.specs.FoundParts.{plain_found, plain_founds}
use Rattle.lhg_reach.proofs.Searches.{on_ok_map, kept_halts, new-step}
use Rattle.lhg_reach.proofs.search.add_new.Goals as goal

pub covered-requires : goal.covered-requires
covered-requires g c = record {
  vars = c.args.piece.width;
  first = subst (AllVars c.args.piece.width) (sym c.from_ref.ensures.value) (refl, tt);
  second = subst (AllVars c.args.piece.width) (sym c.deref.ensures.value) c.requires;
}

pub returns-clause-step : goal.returns-clause-step
returns-clause-step g c = λ base s.
    let a = g.N.Scalar.arithmetic in
    let n = c.args.piece.width in
    let olds = plain_founds c.args.search.now.found.items in
    let one = subst (AllVars n) (sym c.from_ref.ensures.value) (refl, tt) in
    let others = subst (AllVars n) (sym c.deref.ensures.value) c.requires in
    kept_halts c.push_new.result _ _ _ _ c.push_new.ensures.known
    (on_ok_map c.push_new.result _ _
    (λ e. ap plain_founds e ∙ map-append plain_found c.args.search.now.found.items _
    ∙ sym (new-step a n base olds c.args.piece.lines _ (lines_of c.deref.result.now) (lines_of c.from_ref.result.now) (ap lines_of c.deref.ensures.value ∙ s) (ap lines_of c.from_ref.ensures.value) c.in_ok-is_covered.is_covered (c.in_ok-is_covered.ensures.calculus n one others) c.if-is_covered.false))
    c.push_new.ensures.found)
