use Rattle.std.proofs.Common.{◌≡◌, true, false, length, get_or, sym, ap, ◌∙◌, rules}
use Rattle.std.proofs.lemmas.List.{length-map}
use Rattle.lhg_plant.specs.Views.{plain_location}
use Rattle.lhg_quiet.proofs.MarkSteps.{none-more}
use Rattle.lhg_quiet.proofs.marks.none_quiet.Goals as goal

pub loop-l-init : goal.loop-l-init
loop-l-init c = record { many = search rules; none = λ k. ap (λ xs. get_or xs k false) c.in_ok-marks.ensures.items }

pub loop-l-preserved : goal.loop-l-preserved
loop-l-preserved c = record {
  many = search rules;
  none = λ k. ap (λ xs. get_or xs k false) c.in_ok-push.ensures.items ∙ none-more c.loop-l.marks.items k (c.loop-l.invariant.none k);
}

pub returns : goal.returns
returns c = λ region.
    let p = c.args.plant.now in
    let many : length c.loop-l.marks.items ≡ length p.locs.items = search rules in
    record {
      many = many ∙ sym (length-map p.locs.items plain_location);
      quiet = λ l place there h. (let x : false ≡ true = sym (c.loop-l.invariant.none l) ∙ h in cc);
    }
