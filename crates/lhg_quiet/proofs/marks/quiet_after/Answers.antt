use Rattle.std.proofs.Common.{◌≡◌, ℕ, true, false, length, get_or, sym, ap, ◌∙◌, subst, rules}
use Rattle.std.proofs.lemmas.List.{length-map}
use Rattle.lhg_plant.specs.Views.{plain_plant, plain_location}
use Rattle.lhg_quiet.specs.Quiet.{IsUnmarked}
use Rattle.lhg_quiet.proofs.ChangeSteps.{mark-more}
use Rattle.lhg_quiet.proofs.marks.quiet_after.Goals as goal

pub loop-l-init : goal.loop-l-init
loop-l-init c = record { many = search rules; marked = λ k h. (let x : false ≡ true = sym (ap (λ xs. get_or xs k false) c.in_ok-marks.ensures.items) ∙ h in cc) }

pub loop-l-preserved : goal.loop-l-preserved
loop-l-preserved c =
    let a = plain_plant c.args.plant.now in
    let changed = c.args.changed.now in
    let l = c.loop-l.l in
    record {
      many = search rules;
      marked = λ k h. mark-more c.loop-l.marks.items c.is_unmarked-mark.result false true k l (λ e. cc) c.loop-l.invariant.many (sym (ap (λ xs. get_or xs k false) c.in_ok-push.ensures.items) ∙ h)
          (λ less. c.loop-l.invariant.marked k) (λ same m. subst (λ (j : ℕ). IsUnmarked a changed j) (sym same) (c.is_unmarked-mark.ensures m));
    }

pub returns : goal.returns
returns c = λ region next h.
    let p = c.args.plant.now in
    let many : length c.loop-l.marks.items ≡ length p.locs.items = search rules in
    (c.law_changes.ensures (plain_plant p) region).quiet next c.args.changed.now c.loop-l.marks.items h (many ∙ sym (length-map p.locs.items plain_location)) c.loop-l.invariant.marked
