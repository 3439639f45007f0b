-- The joined lists of the switches of a location are its states in Back, and guards are the states of the region in Back by their switch.
use Rattle.std.proofs.Common.{◌≡◌, ◌↔◌, ℕ, [], length, get_or, slice_get, IsSomeAnd, Option, Some, None, refl, sym, ap, ◌∙◌, subst}
use Rattle.std.specs.Prelude.{IfSome}
use Rattle.lhg_num.specs.FracArithmetic.{frac_arithmetic, frac_is_lawful}
use Rattle.lhg_row.specs.Row.{PlainPoint}
use Rattle.lhg_row.specs.Piece.{InSome}
use Rattle.lhg_row.specs.PieceFacts.{AllPolys}
use Rattle.lhg_row.specs.MinusLaws.{minus-exact}
use Rattle.lhg_row.specs.MeetListsLaws.{meet_lists-exact}
use Rattle.lhg_row.specs.CoveredLaws.{polys-over}
use Rattle.lhg_row.specs.Lists.{minus, meet_lists}
use Rattle.lhg_plant.specs.Plant.{PlainSwitch, PlainPlant}
use Rattle.lhg_plant.specs.Proper.{IsProper}
use Rattle.lhg_plant.specs.State.{PlainState, IsState}
use Rattle.lhg_plant.specs.OutBack.{StaysBy, BackBy, Back}
use Rattle.lhg_plant.specs.Region.{PlainRegion, PlainGuards, InRegion, InGuard}
use Rattle.lhg_plant.specs.Laws.{HasExactGuards}
use Rattle.lhg_plant.specs.Invariants.{pieces_at, invariants}
use Rattle.lhg_plant.specs.OutCalculus.{away, out}
use Rattle.lhg_plant.specs.BackCalculus.{back, joined_at, near_at, guard_by, guards}
use Rattle.lhg_plant.specs.Inside.{AllInside, IsRegionOver, IsRegionInside}
use Rattle.lhg_plant.specs.SwitchFacts.{state_at, IsOutside, AreBacks, IsBack, IsNear}
use Rattle.lhg_plant.specs.SwitchLaws.{KeepLaws}
use Rattle.lhg_plant.proofs.Options.{some_there}
use Rattle.lhg_plant.proofs.ListSteps.{difference-in, intersection-in}
use Rattle.lhg_plant.proofs.InsideStates.{some_inside}
use Rattle.lhg_plant.proofs.JoinedLists.{InListOf, joined-in, joined-polys}
use Rattle.lhg_plant.proofs.OutStates.{out-states}
use Rattle.lhg_plant.proofs.BackStates.{each-at, back-list, back-states}

module _ (a : PlainPlant) (proper : IsProper a) (region : PlainRegion) (region_in : IsRegionInside a region) where
  abbrev n : ℕ
  n = length a.vars

  over : IsRegionOver a region
  over = region_in.over

  abbrev S : PlainState → Type 0
  S = InRegion a region

  abbrev outside : PlainRegion
  outside = (out a region).value.away

  outside-over : IsRegionOver a outside
  outside-over l = polys-over frac_arithmetic n (pieces_at outside l) ((out-states a proper region over).away l).polys

  outside-is : IsOutside a region outside
  outside-is l = ((out-states a proper region over).away l).exact

  abbrev backs : PlainGuards
  backs = (back a region outside).value

  backs-are : AreBacks a region backs
  backs-are = back-states a proper region outside region_in outside-over outside-is

  -- ---- in one location
  module _ (l : ℕ) where
    joined-over : AllPolys frac_arithmetic n (joined_at l a.switches backs)
    joined-over = joined-polys n l a.switches backs backs-are.polys

    if_there : {A : Type 0} (P : A → Type 0) (o : Option A) (w : A) → o ≡ Some w → IfSome o P → P w
    if_there P o w e h = subst (λ o. IfSome o P) e h

    joined-back : IsBack a S l (joined_at l a.switches backs)
    joined-back p fits = (
      λ h.
          let r = (joined-in l a.switches backs p).0 h in
          (r.number, (backs-are.exact r.number (state_at l p)).0 (record { state = state r (slice_get a.switches r.number) refl r.leaves; leaves = r.leaves; some = r.some })),
      λ b.
          let g = (backs-are.exact b.0 (state_at l p)).1 b.1 in
          (joined-in l a.switches backs p).1 (record { number = b.0; leaves = g.leaves; some = g.some }),
    )
      where
        state : (r : InListOf l a.switches backs p) (o : Option PlainSwitch) → slice_get a.switches r.number ≡ o → IsSomeAnd o (λ w. w.from ≡ l) → IsState a (state_at l p)
        state r None is leaves = absurd leaves
        state r (Some w) is leaves = subst (λ k. IsState a (state_at k p)) leaves (some_inside a w.from (get_or backs r.number []) p fits (if_there (λ v. AllInside a v.from (get_or backs r.number [])) (slice_get a.switches r.number) w is (backs-are.inside r.number)) r.some)

    near-states : IsNear a S l (near_at a region backs l).value
    unfolding near_at
    near-states p fits =
        let ks = joined_at l a.switches backs in
        let d = difference-in n (pieces_at region l) ks (minus frac_arithmetic n (pieces_at region l) ks).value p fits
        (minus-exact frac_arithmetic n (pieces_at region l) ks frac_is_lawful (over l) (polys-over frac_arithmetic n ks joined-over)) in
        let b = joined-back p fits in (
          λ h. let k = d.0 h in (record { state = some_inside a l (pieces_at region l) p fits (region_in.inside l) k.0; some = k.0 }, λ c. k.1 (b.1 c)),
          λ h. d.1 (h.0.some, λ c. h.1 (b.0 c)),
        )

    pub keep-states : KeepLaws a region backs l
    keep-states = record { back = joined-back; near = near-states }

  -- ---- guards
  module _ (e : ℕ) (w : PlainSwitch) (is : slice_get a.switches e ≡ Some w) where
    guard-list : get_or (guards a region).value e [] ≡ (meet_lists frac_arithmetic n (get_or backs e []) (pieces_at region w.from)).value
    unfolding guards out
    guard-list =
        each-at (guard_by n (invariants a).value region outside) a.switches e w is
        ∙ ap (λ ks. (meet_lists frac_arithmetic n ks (pieces_at region w.from)).value) (sym (back-list a proper region outside region_in outside-over outside-is e w is))

    guard-points : (p : PlainPoint) → length p ≡ n → InSome (get_or (guards a region).value e []) p ↔ (InSome (get_or backs e []) p × InSome (pieces_at region w.from) p)
    guard-points p fits =
        let ks = get_or backs e [] in
        subst (λ gs. InSome gs p ↔ (InSome ks p × InSome (pieces_at region w.from) p)) (sym guard-list)
        (intersection-in n ks (pieces_at region w.from) (meet_lists frac_arithmetic n ks (pieces_at region w.from)).value p fits
        (meet_lists-exact frac_arithmetic n ks (pieces_at region w.from) frac_is_lawful (polys-over frac_arithmetic n ks (backs-are.polys e)) (over w.from)))

    guard-states : (s : PlainState) → InGuard a (guards a region).value e s ↔ (S s × BackBy a S e s)
    guard-states s = (
      λ g.
          let leaves = some_there (slice_get a.switches e) w (λ v. v.from ≡ s.loc) is g.leaves in
          let both = (guard-points s.at g.state.fits).0 g.some in (
            record { state = g.state; some = subst (λ k. InSome (pieces_at region k) s.at) leaves both.1 },
            (backs-are.exact e s).0 (record { state = g.state; leaves = g.leaves; some = both.0 }),
          ),
      λ h.
          let g = (backs-are.exact e s).1 h.1 in
          let leaves = some_there (slice_get a.switches e) w (λ v. v.from ≡ s.loc) is g.leaves in
          record { state = g.state; leaves = g.leaves; some = (guard-points s.at g.state.fits).1 (g.some, subst (λ k. InSome (pieces_at region k) s.at) (sym leaves) h.0.some) },
    )

  exact : (e : ℕ) (s : PlainState) (o : Option PlainSwitch) → slice_get a.switches e ≡ o → InGuard a (guards a region).value e s ↔ (S s × BackBy a S e s)
  exact e s None is = (λ g. absurd (subst (λ o. IsSomeAnd o (λ w. w.from ≡ s.loc)) is g.leaves), λ h. absurd (subst (λ o. IsSomeAnd o (λ w. StaysBy w.side a S e s)) is h.1))
  exact e s (Some w) is = guard-states e w is s

  -- guards are exact
  pub guards-states : HasExactGuards a (record { region = region; guards = (guards a region).value })
  guards-states e s = exact e s (slice_get a.switches e) refl
