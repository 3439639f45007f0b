use Rattle.std.proofs.Common.{◌≡◌, ◌<◌, length, map, sym, subst, arith}
use Rattle.lhg_num.specs.FracArithmetic.{frac_arithmetic}
use Rattle.lhg_num.specs.Halting.{IsWideBy}
use Rattle.lhg_row.specs.Truths.{piece_truth}
use Rattle.lhg_row.specs.Width.{AllWide}
use Rattle.lhg_plant.specs.Proper.{IsLocation}
use Rattle.lhg_plant.specs.Views.{plain_location}
use Rattle.lhg_plant.proofs.LegalSteps.{image_at, all_at, told_there}
use Rattle.lhg_plant.proofs.legal.is_inside.Goals as goal

pub all_hold-requires : goal.all_hold-requires
all_hold-requires c =
    let p = c.args.plant.now in
    let below : c.args.loc < length p.locs.items = omega (arith, c.requires.there, p.locs.ok.0) in
    let same : length p.vars.items ≡ length c.args.at.now = omega (arith, c.requires.lengths, p.vars.ok.0) in
    let l = all_at (IsLocation (length p.vars.items)) (map plain_location p.locs.items) c.args.loc _ p.proper.locs (image_at plain_location p.locs.items c.args.loc c.index-location.result.now below c.index-location.ensures) in
    subst (λ rows. AllWide (length c.args.at.now) rows) (sym c.deref.ensures.value) (subst (λ n. AllWide n c.index-location.result.now.inv.items) same l.inv.wide)

pub returns : goal.returns
returns c =
    let p = c.args.plant.now in
    let below : c.args.loc < length p.locs.items = omega (arith, c.requires.there, p.locs.ok.0) in
    told_there c.all_hold.result (λ l. piece_truth frac_arithmetic l.inv c.args.at.now) _ _ (image_at plain_location p.locs.items c.args.loc c.index-location.result.now below c.index-location.ensures)
    (subst (λ rows. IsWideBy c.all_hold.result (piece_truth frac_arithmetic rows c.args.at.now) (λ b. b)) c.deref.ensures.value c.all_hold.ensures.calculus)
