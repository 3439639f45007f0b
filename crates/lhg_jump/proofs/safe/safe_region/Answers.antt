use Rattle.std.proofs.Common.{◌≡◌, ◌↔◌, ℕ, length, sym, subst, rules}
use Rattle.lhg_num.proofs.Halted.{part_halts_rows}
use Rattle.lhg_plant.specs.SafeRegion.{safe_list, safe_region}
use Rattle.lhg_plant.specs.Views.{plain_plant}
use Rattle.lhg_plant.specs.Region.{PlainRegion, InRegion}
use Rattle.lhg_plant.specs.State.{PlainState, IsSafe}
use Rattle.lhg_plant.specs.Inside.{AllInside}
use Rattle.lhg_plant.specs.Invariants.{pieces_at}
use Rattle.lhg_plant.proofs.SafeStates.{safe_region_is, safe_region-inside}
use Rattle.lhg_union.specs.PolyLists.{lines_of}
use Rattle.lhg_union.specs.Regions.{plain_region}
use Rattle.lhg_jump.proofs.RegionSteps.{safe-each, placed-proper, placed-part, placed-step, placed-end}
use Rattle.lhg_jump.proofs.safe.safe_region.Goals as goal

pub safe_pieces-requires : goal.safe_pieces-requires
safe_pieces-requires c =
    let p = c.args.plant.now in
    let many : c.len-in-loop-location.result ≡ length p.vars.items = search rules in
    placed-proper p c.deref-location-items.result.now c.deref-location-items.ensures.value c.loop-location.location-index c.len-in-loop-location.result many c.location-item.result c.location-item.is c.loop-location-test.true

pub returns-in_err-safe-clause-calculus : goal.returns-in_err-safe-clause-calculus
returns-in_err-safe-clause-calculus c =
    let p = c.args.plant.now in
    let a = plain_plant p in
    let many : c.len-in-loop-location.result ≡ length p.vars.items = search rules in
    part_halts_rows c.from_residual-in_err-safe.result c.in_err-safe.field-0.0 _ (λ r. plain_region r.pieces.items) _ (λ v. lines_of v.items) c.from_residual-in_err-safe.ensures.1 c.in_err-safe.ensures.calculus
    (placed-part safe_list p c.deref-location-items.result.now c.deref-location-items.ensures.value (safe_region a) (safe-each a) c.loop-location.pieces.items c.loop-location.location-index c.loop-location.invariant.built
    c.len-in-loop-location.result many c.location-item.result c.location-item.is c.loop-location-test.true)

pub loop-location-preserved : goal.loop-location-preserved
loop-location-preserved c =
    let p = c.args.plant.now in
    let a = plain_plant p in
    let many : c.len-in-loop-location.result ≡ length p.vars.items = search rules in
    let next =
    placed-step safe_list p c.deref-location-items.result.now c.deref-location-items.ensures.value (safe_region a) (safe-each a) c.loop-location.pieces.items c.loop-location.location-index c.loop-location.invariant.built
    c.len-in-loop-location.result many c.location-item.result c.location-item.is c.loop-location-test.true
    c.loop-location.invariant.vars c.in_ok-safe.safe c.push.new.self.items c.in_ok-safe.ensures.calculus c.in_ok-safe.ensures.vars c.in_ok-push.ensures.items in
    record { built = next.built; vars = next.vars; many = search rules }

pub returns-clause-calculus : goal.returns-clause-calculus
returns-clause-calculus c =
    let p = c.args.plant.now in
    let a = plain_plant p in
    placed-end safe_list p c.deref-location-items.result.now c.deref-location-items.ensures.value (safe_region a) (safe-each a) c.loop-location.pieces.items c.loop-location.location-index c.loop-location.invariant.built
    c.loop-location-test.false

pub returns-clause-region : goal.returns-clause-region
returns-clause-region c =
    let p = c.args.plant.now in
    let a = plain_plant p in
    let P : PlainRegion → Type 0 = λ r. (l : ℕ) → AllInside a l (pieces_at r l) in
    record {
      has_lists = record { many = search rules; vars = c.loop-location.invariant.vars };
      inside = subst P (sym (returns-clause-calculus c)) (safe_region-inside a p.proper).inside;
    }

pub returns-clause-points : goal.returns-clause-points
returns-clause-points c =
    let a = plain_plant c.args.plant.now in
    let P : PlainRegion → Type 0 = λ r. (s : PlainState) → InRegion a r s ↔ IsSafe a s in
    subst P (sym (returns-clause-calculus c)) (safe_region_is a c.args.plant.now.proper)
