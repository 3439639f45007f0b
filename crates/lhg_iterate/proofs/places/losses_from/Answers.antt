use Rattle.std.proofs.Common.{◌≡◌, ◌+◌, ◌≤◌, ◌++◌, List, length, sym, ap, ◌∙◌, subst, arith, length-append}
use Rattle.std.proofs.lemmas.List.{length-map}
use Rattle.lhg_math.specs.Tests.{AllOf}
use Rattle.lhg_num.specs.FracArithmetic.{frac_arithmetic}
use Rattle.lhg_num.specs.MarkedLaws.{IsPart}
use Rattle.lhg_num.proofs.Halted.{part_halts}
use Rattle.lhg_row.specs.Lists.{piece_limit}
use Rattle.lhg_row.specs.Members.{all-append}
use Rattle.lhg_row.specs.Piece.{PlainPiece}
use Rattle.lhg_row.specs.System.{PlainSystem}
use Rattle.lhg_motion.specs.ReachCalculus.{reach}
use Rattle.lhg_motion.specs.ReachCases.{found-polys}
use Rattle.lhg_plant.specs.OutCalculus.{hit_pieces}
use Rattle.lhg_union.specs.PolyLists.{lines_of, AllVars}
use Rattle.lhg_union.proofs.ListFacts.{lines_of-append}
use Rattle.lhg_jump.specs.HitViews.{plain_hit, plain_hits}
use Rattle.lhg_reach.specs.FoundParts.{plain_found, plain_founds, plain_reached}
use Rattle.lhg_reach.specs.Widths.{AllOverVars}
use Rattle.lhg_loss.specs.Records.{hit_losses, found_losses, found_cause, reached_losses}
use Rattle.lhg_loss.specs.RoundFacts.{AreReached}
use Rattle.lhg_loss.specs.Views.{plain_loss, plain_losses}
use Rattle.lhg_iterate.specs.Naming.{IsNameable}
use Rattle.lhg_iterate.proofs.Halting.{on_memory, from_memory, on_ok, ok_memory}
use Rattle.lhg_iterate.proofs.PlaceSteps.{from-part, from-value, nameable, few-found, hits-fewer}
use Rattle.lhg_iterate.proofs.RecordSteps.{length-hits, length-found}
use Rattle.lhg_iterate.proofs.places.losses_from.Goals as goal

pub returns-in_err-bad-clause-losses : goal.returns-in_err-bad-clause-losses
returns-in_err-bad-clause-losses c =
    on_memory c.from_residual.result c.in_err-bad.field-0.0 _ (λ v. plain_losses v.items) _ (λ v. lines_of v.items) c.from_residual.ensures.1 c.in_err-bad.ensures.pieces

pub reach-requires : goal.reach-requires
reach-requires c =
    let n = c.args.vars in
    record {
      vars = n;
      over = record {
        first = subst (AllVars n) (sym c.deref.ensures.value) (c.in_ok-bad.ensures.vars n c.requires.away c.requires.hits);
        second = subst (AllVars n) (sym c.deref-2.ensures.value) c.requires.near;
        rows = c.requires.flow;
      };
    }

pub returns-in_err-reached-clause-losses : goal.returns-in_err-reached-clause-losses
returns-in_err-reached-clause-losses c =
    let n = c.args.vars in
    let s = c.args.site in
    let flow = c.args.flow.now in
    let away = lines_of c.args.away.now in
    let hits = plain_hits c.args.hits.now in
    let near = lines_of c.args.near.items in
    let over : AllOverVars n c.deref.result.now c.deref-2.result.now flow = record {
      first = subst (AllVars n) (sym c.deref.ensures.value) (c.in_ok-bad.ensures.vars n c.requires.away c.requires.hits);
      second = subst (AllVars n) (sym c.deref-2.ensures.value) c.requires.near;
      rows = c.requires.flow;
    } in
    let same = ap (λ b. reach frac_arithmetic n b (lines_of c.deref-2.result.now) flow) (ap lines_of c.deref.ensures.value ∙ c.in_ok-bad.ensures.pieces)
    ∙ ap (λ x. reach frac_arithmetic n (away ++ hit_pieces hits) x flow) (ap lines_of c.deref-2.ensures.value) in
    part_halts c.from_residual-in_err-reached.result c.in_err-reached.field-0.0 _ (λ v. plain_losses v.items) _ plain_reached c.from_residual-in_err-reached.ensures.1 (c.in_err-reached.ensures.calculus n over)
    (subst (IsPart (reached_losses n s.round s.loc s.first away hits near flow)) (sym same) (from-part n s.round s.first s.loc away hits near flow))

pub returns-in_err-ways-clause-losses : goal.returns-in_err-ways-clause-losses
returns-in_err-ways-clause-losses c =
    on_memory c.from_residual-in_err-ways.result c.in_err-ways.field-0.0 _ (λ v. plain_losses v.items) _ (λ v. v.items) c.from_residual-in_err-ways.ensures.1 c.in_err-ways.ensures

pub records-requires-clause-named : goal.records-requires-clause-named
records-requires-clause-named c =
    let n = c.args.vars in
    let s = c.args.site in
    let flow = c.args.flow.now in
    let bad = c.deref.result.now in
    let near = c.deref-2.result.now in
    let fs = c.in_ok-reached.reached.found.items in
    let over : AllOverVars n bad near flow = record {
      first = subst (AllVars n) (sym c.deref.ensures.value) (c.in_ok-bad.ensures.vars n c.requires.away c.requires.hits);
      second = subst (AllVars n) (sym c.deref-2.ensures.value) c.requires.near;
      rows = c.requires.flow;
    } in
    let lines : PlainSystem → PlainPiece = λ p. p.lines in
    let few = few-found (lines_of bad) fs c.in_ok-reached.ensures.within in
    let fits = c.requires.fits in
    let all = nameable s.first piece_limit n (lines_of near) (lines_of bad ++ lines_of near) (lines_of bad) flow fs (c.in_ok-reached.ensures.named n over) few (omega arith) in
    let ways = ap length (c.deref-3.ensures.value ∙ c.in_ok-ways.ensures) ∙ length-append c.in_ok-bad.bad.items c.args.near.items in
    let many : length (lines_of bad ++ lines_of near) ≡ length c.deref-3.result.now = omega (arith, length-append (lines_of bad) (lines_of near), length-map bad lines, length-map near lines, ap length c.deref.ensures.value, ap length c.deref-2.ensures.value, ways) in
    subst (AllOf (IsNameable s.first (length c.deref-3.result.now))) (sym c.deref-4.ensures.value) (subst (λ k. AllOf (IsNameable s.first k) fs) many all)

pub records-requires-clause-fits : goal.records-requires-clause-fits
records-requires-clause-fits c =
    let bad = c.deref.result.now in
    let fs = c.in_ok-reached.reached.found.items in
    let few = few-found (lines_of bad) fs c.in_ok-reached.ensures.within in
    let fewer = hits-fewer (lines_of c.args.away.now) c.args.hits.now (lines_of bad) (ap lines_of c.deref.ensures.value ∙ c.in_ok-bad.ensures.pieces) in
    let fits = c.requires.fits in
    let same = ap length c.deref-4.ensures.value in
    omega arith

pub returns-clause-losses : goal.returns-clause-losses
returns-clause-losses c =
    let n = c.args.vars in
    let s = c.args.site in
    let flow = c.args.flow.now in
    let away = lines_of c.args.away.now in
    let hits = plain_hits c.args.hits.now in
    let near = lines_of c.args.near.items in
    let over : AllOverVars n c.deref.result.now c.deref-2.result.now flow = record {
      first = subst (AllVars n) (sym c.deref.ensures.value) (c.in_ok-bad.ensures.vars n c.requires.away c.requires.hits);
      second = subst (AllVars n) (sym c.deref-2.ensures.value) c.requires.near;
      rows = c.requires.flow;
    } in
    let same = ap (λ b. reach frac_arithmetic n b (lines_of c.deref-2.result.now) flow) (ap lines_of c.deref.ensures.value ∙ c.in_ok-bad.ensures.pieces)
    ∙ ap (λ x. reach frac_arithmetic n (away ++ hit_pieces hits) x flow) (ap lines_of c.deref-2.ensures.value) in
    let found_is = ap plain_founds c.deref-4.ensures.value ∙ ap (λ r. r.found) (c.in_ok-reached.ensures.calculus n over) ∙ ap (λ m. m.value.found) same in
    let ways_are = ap lines_of (c.deref-3.ensures.value ∙ c.in_ok-ways.ensures) ∙ lines_of-append c.in_ok-bad.bad.items c.args.near.items ∙ ap (λ b. b ++ near) c.in_ok-bad.ensures.pieces in
    let value = from-value n s.round s.first s.loc away hits near flow (lines_of c.deref-3.result.now) (length c.args.hits.now) (plain_founds c.deref-4.result.now) ways_are (sym (length-map c.args.hits.now plain_hit)) found_is in
    from_memory c.records.result _ (λ v. plain_losses v.items) _ (λ v. plain_losses v.items) c.records.ensures.losses (λ v e. e ∙ value)

pub returns-clause-reached : goal.returns-clause-reached
returns-clause-reached c =
    let n = c.args.vars in
    let flow = c.args.flow.now in
    let bad = lines_of c.args.away.now ++ hit_pieces (plain_hits c.args.hits.now) in
    let near = lines_of c.args.near.items in
    let held = lines_of c.deref.result.now in
    let beside = lines_of c.deref-2.result.now in
    let over : AllOverVars n c.deref.result.now c.deref-2.result.now flow = record {
      first = subst (AllVars n) (sym c.deref.ensures.value) (c.in_ok-bad.ensures.vars n c.requires.away c.requires.hits);
      second = subst (AllVars n) (sym c.deref-2.ensures.value) c.requires.near;
      rows = c.requires.flow;
    } in
    let fs = plain_founds c.in_ok-reached.reached.found.items in
    let here : AreReached n held beside flow fs = record { polys = found-polys frac_arithmetic n fs (c.in_ok-reached.ensures.polys n over); exact = c.in_ok-reached.ensures.points n over; named = c.in_ok-reached.ensures.named n over } in
    let of : List PlainPiece → List PlainPiece → Type 0 = λ b x. AreReached n b x flow (reach frac_arithmetic n b x flow).value.found in
    let there : of held beside = subst (AreReached n held beside flow) (ap (λ r. r.found) (c.in_ok-reached.ensures.calculus n over)) here in
    on_ok c.records.result (of bad near) (subst (of bad) (ap lines_of c.deref-2.ensures.value) (subst (λ b. of b beside) (ap lines_of c.deref.ensures.value ∙ c.in_ok-bad.ensures.pieces) there))

pub returns-clause-few : goal.returns-clause-few
returns-clause-few c =
    let s = c.args.site in
    let bad = c.deref.result.now in
    let fs = c.in_ok-reached.reached.found.items in
    let few = few-found (lines_of bad) fs c.in_ok-reached.ensures.within in
    let fewer = hits-fewer (lines_of c.args.away.now) c.args.hits.now (lines_of bad) (ap lines_of c.deref.ensures.value ∙ c.in_ok-bad.ensures.pieces) in
    let same = ap length c.deref-4.ensures.value in
    let why = found_cause (lines_of c.args.away.now) (lines_of c.deref-3.result.now) s.first in
    let first = hit_losses s.round s.loc s.first (plain_hits c.args.hits.now) in
    let next = s.first + length c.args.hits.now in
    let others = found_losses s.round s.loc why next (plain_founds c.deref-4.result.now) in
    ok_memory c.records.result _ (λ v. plain_losses v.items) (λ v. length v.items ≤ piece_limit) c.records.ensures.losses
    (λ v e. omega (arith, length-map v.items plain_loss, ap length e, length-append first others, length-hits s.round s.loc s.first (plain_hits c.args.hits.now), length-map c.args.hits.now plain_hit, length-found s.round s.loc why next (plain_founds c.deref-4.result.now), length-map c.deref-4.result.now plain_found))

pub returns-clause-vars : goal.returns-clause-vars
returns-clause-vars c =
    let n = c.args.vars in
    let over : AllOverVars n c.deref.result.now c.deref-2.result.now c.args.flow.now = record {
      first = subst (AllVars n) (sym c.deref.ensures.value) (c.in_ok-bad.ensures.vars n c.requires.away c.requires.hits);
      second = subst (AllVars n) (sym c.deref-2.ensures.value) c.requires.near;
      rows = c.requires.flow;
    } in
    let ways = subst (AllVars n) (sym (c.deref-3.ensures.value ∙ c.in_ok-ways.ensures)) (all-append (λ p. p.width ≡ n) c.in_ok-bad.bad.items c.args.near.items (c.in_ok-bad.ensures.vars n c.requires.away c.requires.hits) c.requires.near) in
    c.records.ensures.vars n c.requires.hits c.requires.away ways (subst (AllOf (λ f. f.piece.width ≡ n)) (sym c.deref-4.ensures.value) (c.in_ok-reached.ensures.vars n over))
