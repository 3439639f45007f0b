use Rattle.std.proofs.Common.{◌∙◌, sym, refl}
use Rattle.lhg_read.proofs.DraftSteps.{place_locs}
use Rattle.lhg_read.proofs.switches.placed.Goals as goal

pub returns-in_default : goal.returns-in_default
returns-in_default c = rw (sym (place_locs c.args.written.from c.args.locs.now) ∙ sym c.in_default.ensures.place) refl

pub returns-in_default-place_in : goal.returns-in_default-place_in
returns-in_default-place_in c =
    rw (sym (place_locs c.args.written.from c.args.locs.now) ∙ sym c.in-Some.ensures.place, sym (place_locs c.args.written.to c.args.locs.now) ∙ sym c.in_default-place_in.ensures.place) refl

pub returns : goal.returns
returns c =
    rw (sym (place_locs c.args.written.from c.args.locs.now) ∙ sym c.in-Some.ensures.place, sym (place_locs c.args.written.to c.args.locs.now) ∙ sym c.in-Some-place_in.ensures.place) refl
