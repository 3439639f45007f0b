-- A plant with a switch whose result the controller picks.
use Rattle.std.proofs.Common.{◌≡◌, refl, [], ◌∷◌, true, false, ℕ, zero, suc, inl, inr, pos}
use Rattle.lhg_math.specs.Gcd.{gcd}
use Rattle.lhg_math.specs.Number.{add, mul, neg, sub, lt, nought, unit, half, whole, ratio, ratio_suc, inverse, quot, mid}
use Rattle.lhg_row.specs.Trim.{trim}
use Rattle.lhg_row.specs.Eliminate.{eliminate}
use Rattle.lhg_row.specs.Pieces.{make}
use Rattle.lhg_plant.specs.declared.plants.Side.{Side}
use Rattle.lhg_plant.specs.declared.plants.Side.TheVariants.{Ctl, Pick}
use Rattle.lhg_plant.specs.State.{PlainState, IsSafe}
use Rattle.lhg_plant.specs.Legal.{LegalSwitch}
use Rattle.lhg_plant.specs.OutBack.{BackBy, Back}
use Rattle.lhg_plant.specs.PickExample.{one_more, lift, run_at_eight, LiftFacts}

-- rest at n
abbrev rest_at : ℕ → PlainState
rest_at n = record { loc = 1; at = whole (pos n) ∷ [] }

-- from 8 the switch leads to 0
to_nought : LegalSwitch (lift Pick) 0 run_at_eight (rest_at 0)
unfolding gcd lt add mul neg sub nought unit half whole ratio ratio_suc
to_nought = record {
  switch = record { name = 103 ∷ 111 ∷ []; from = 0; to = 1; side = Pick; jump = one_more ∷ [] };
  is_there = refl;
  leaves = refl;
  enters = refl;
  start = record { fits = refl; inside = (refl, (refl, tt)) };
  result = record { fits = refl; inside = (refl, (refl, tt)) };
  jump = (refl, tt);
}

-- and to 6
to_six : LegalSwitch (lift Ctl) 0 run_at_eight (rest_at 6)
unfolding gcd lt add mul neg sub nought unit half whole ratio ratio_suc
to_six = record {
  switch = record { name = 103 ∷ 111 ∷ []; from = 0; to = 1; side = Ctl; jump = one_more ∷ [] };
  is_there = refl;
  leaves = refl;
  enters = refl;
  start = record { fits = refl; inside = (refl, (refl, tt)) };
  result = record { fits = refl; inside = (refl, (refl, tt)) };
  jump = (refl, tt);
}

-- 0 is safe
nought_is_safe : IsSafe (lift Pick) (rest_at 0)
unfolding gcd lt add mul neg sub nought unit half whole ratio ratio_suc
nought_is_safe = record { state = record { fits = refl; inside = (refl, (refl, tt)) }; safe = inl (refl, tt) }

-- 6 is not
six_is_unsafe : IsSafe (lift Ctl) (rest_at 6) → ⊥
unfolding gcd lt add mul neg sub nought unit half whole ratio ratio_suc
six_is_unsafe h = elim h.safe [ inl k ↦ (let e : false ≡ true = k.0 in cc) | inr k ↦ k ]

-- so 8 does not stay among the safe states by a switch whose result the plant picks
not_by : (e : ℕ) → BackBy (lift Ctl) (IsSafe (lift Ctl)) e run_at_eight → ⊥
not_by zero h = six_is_unsafe (h.1 (rest_at 6) to_six)
not_by (suc e) h = h

-- the lift
pub lifted : LiftFacts
unfolding gcd ratio_suc ratio add mul neg sub whole lt nought unit inverse quot half mid trim eliminate make
lifted = record {
  back = (0, (rest_at 0, to_nought, nought_is_safe));
  not_back = λ h. not_by h.0 h.1;
  row = refl;
  first = refl;
  in_order = refl;
  passed_over = refl;
  none = refl;
  empty = refl;
}
