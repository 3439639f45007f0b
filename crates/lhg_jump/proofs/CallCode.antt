-- What is left of the calls of switch sets after their first steps, and which marks are theirs.
use Rattle.std.proofs.Common.{◌≡◌, ℕ, [], length, sym, ap, subst}
use Rattle.std.specs.List.{range_with_len}
use Rattle.lhg_num.specs.Marked.{Marked, and_then, each, IsRest}
use Rattle.lhg_num.specs.MarkedLaws.{IsPart, and_then-part, and_then-rest, rest_part, rest_rest}
use Rattle.lhg_plant.specs.declared.plants.Side.TheVariants.{Ctl, Env, Pick}
use Rattle.lhg_plant.specs.Plant.{PlainSwitch, PlainPlant}
use Rattle.lhg_plant.specs.Region.{PlainRegion}
use Rattle.lhg_plant.specs.Invariants.{pieces_at, invariants}
use Rattle.lhg_plant.specs.Pre.{pre_by}
use Rattle.lhg_plant.specs.OutCalculus.{away, hits_at, outs_of, out}
use Rattle.lhg_plant.specs.BackCalculus.{kept_by, kept_side, back_by, back, guard_by, guards}

-- ---- three steps
module _ {A B C : Type 0} (m : Marked A) (n : A → Marked B) (f : A → B → Marked C) where
  abbrev three : Marked C
  three = and_then m (λ x. and_then (n x) (f x))

  -- the marks of the first
  pub first-part : IsPart three m
  first-part = and_then-part m (λ x. and_then (n x) (f x))

  -- those of the second
  pub second-part : IsPart three (n m.value)
  second-part = rest_part three (and_then (n m.value) (f m.value)) (n m.value) (and_then-rest m (λ x. and_then (n x) (f x))) (and_then-part (n m.value) (f m.value))

  -- the third is left
  pub third-rest : IsRest three (f m.value (n m.value).value)
  third-rest = rest_rest three (and_then (n m.value) (f m.value)) (f m.value (n m.value).value) (and_then-rest m (λ x. and_then (n x) (f x))) (and_then-rest (n m.value) (f m.value))

-- what is left sets no marks of its own
pub rest-is_part : {A : Type 0} (m n : Marked A) → IsRest m n → IsPart m n
rest-is_part m n r = record { wide = r.wide; rows = r.rows; pieces = r.pieces }

-- ---- one switch
-- one whose result the plant picks
pub by-ctl : (n : ℕ) (invs region away : PlainRegion) (w : PlainSwitch) → w.side ≡ Ctl → kept_by n invs away w ≡ back_by n invs region away w
unfolding back_by
by-ctl n invs region away w side = sym (ap (kept_side n invs region away w) side)

-- one whose result the controller picks
pub by-pick : (n : ℕ) (invs region away : PlainRegion) (w : PlainSwitch) → w.side ≡ Pick → pre_by n invs w (pieces_at region w.to) ≡ back_by n invs region away w
unfolding back_by
by-pick n invs region away w side = sym (ap (kept_side n invs region away w) side)

-- an uncontrollable one
pub by-none : (n : ℕ) (invs region away : PlainRegion) (w : PlainSwitch) → w.side ≡ Env → [] ≡ (back_by n invs region away w).value
unfolding back_by
by-none n invs region away w side = sym (ap (λ d. (kept_side n invs region away w d).value) side)

-- ---- the calls
module _ (a : PlainPlant) (region : PlainRegion) (invs : PlainRegion) (invs_are : invs ≡ (invariants a).value) where
  abbrev n : ℕ
  n = length a.vars

  pub out-first : IsPart (out a region) (invariants a)
  unfolding out
  out-first = first-part (invariants a) (λ is. away n is region) (λ is. outs_of a is region)

  pub guards-first : IsPart (guards a region) (invariants a)
  unfolding guards
  guards-first = first-part (invariants a) (λ is. away n is region) (λ is outside. each (guard_by n is region outside) a.switches)

  module _ (others : PlainRegion) where
    pub back-first : IsPart (back a region others) (invariants a)
    unfolding back
    back-first = and_then-part (invariants a) (λ is. each (back_by n is region others) a.switches)

    pub back-each : IsRest (back a region others) (each (back_by n invs region others) a.switches)
    unfolding back
    back-each =
        subst (λ is. IsRest (back a region others) (each (back_by n is region others) a.switches)) (sym invs_are) (and_then-rest (invariants a) (λ is. each (back_by n is region others) a.switches))

  pub out-away : IsPart (out a region) (away n invs region)
  unfolding out
  out-away = subst (λ is. IsPart (out a region) (away n is region)) (sym invs_are) (second-part (invariants a) (λ is. away n is region) (λ is. outs_of a is region))

  pub guards-away : IsPart (guards a region) (away n invs region)
  unfolding guards
  guards-away = subst (λ is. IsPart (guards a region) (away n is region)) (sym invs_are) (second-part (invariants a) (λ is. away n is region) (λ is outside. each (guard_by n is region outside) a.switches))

  module _ (outside : PlainRegion) (outside_is : outside ≡ (away n invs region).value) where
    pub guards-each : IsRest (guards a region) (each (guard_by n invs region outside) a.switches)
    unfolding guards
    guards-each =
        let f : PlainRegion → PlainRegion → Marked PlainRegion = λ is os. each (guard_by n is region os) a.switches in
        subst (λ os. IsRest (guards a region) (f invs os)) (sym outside_is)
        (subst (λ is. IsRest (guards a region) (f is (away n is region).value)) (sym invs_are) (third-rest (invariants a) (λ is. away n is region) f))

    pub out-rest : IsRest (out a region) (outs_of a invs region outside)
    unfolding out
    out-rest =
        subst (λ os. IsRest (out a region) (outs_of a invs region os)) (sym outside_is)
        (subst (λ is. IsRest (out a region) (outs_of a is region (away n is region).value)) (sym invs_are) (third-rest (invariants a) (λ is. away n is region) (λ is. outs_of a is region)))

    pub out-hits : IsPart (out a region) (each (hits_at a invs outside region) (range_with_len 0 (length a.locs)))
    out-hits = let p = rest-is_part (out a region) (outs_of a invs region outside) out-rest in record { wide = p.wide; rows = p.rows; pieces = p.pieces }
