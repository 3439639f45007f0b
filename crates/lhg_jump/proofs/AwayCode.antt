-- Steps of the loops over the locations of a region.
use Rattle.std.proofs.Common.{◌≡◌, ◌<◌, ℕ, List, length, get_or, sym, ap, ◌∙◌, subst, arith}
use Rattle.std.specs.Global.{Vec}
use Rattle.std.specs.List.{range_with_len}
use Rattle.std.proofs.lemmas.List.{length-map}
use Rattle.lhg_num.specs.FracArithmetic.{frac_arithmetic}
use Rattle.lhg_num.specs.Marked.{each}
use Rattle.lhg_row.specs.Lists.{minus}
use Rattle.lhg_row.specs.System.{PlainSystem}
use Rattle.lhg_union.specs.PolyLists.{lines_of, AllVars}
use Rattle.lhg_union.proofs.ListFacts.{all_at}
use Rattle.lhg_math.specs.Tests.{AllOf}
use Rattle.lhg_union.specs.Regions.{polys_of, plain_region}
use Rattle.lhg_plant.specs.declared.plants.Plant.{Plant}
use Rattle.lhg_plant.specs.Invariants.{pieces_at}
use Rattle.lhg_plant.specs.OutCalculus.{away_at, away}
use Rattle.lhg_jump.specs.PlantLists.{AreListsOf}
use Rattle.lhg_jump.proofs.RangeSteps.{lines-at}

-- a region has a list for each list that the code holds
pub region-length : (xs : List (Vec PlainSystem)) → length (plain_region xs) ≡ length xs
region-length xs = length-map (polys_of xs) lines_of ∙ length-map xs (λ (v : Vec PlainSystem). v.items)

-- the states outside are those of each place
pub away-whole : (n : ℕ) (invs region : List (Vec PlainSystem))
    → each (away_at n (plain_region invs) (plain_region region)) (range_with_len 0 (length invs)) ≡ away n (plain_region invs) (plain_region region)
unfolding away
away-whole n invs region = ap (λ m. each (away_at n (plain_region invs) (plain_region region)) (range_with_len 0 m)) (sym (region-length invs))

-- the list at a place is over n variables where all lists are
pub vars-at : (n : ℕ) (xs : List (Vec PlainSystem)) (l : ℕ) (v : Vec PlainSystem) (ps : List PlainSystem) → ps ≡ v.items → v ≡ get_or xs l v → l < length xs → AllOf (λ qs. AllVars n qs.items) xs → AllVars n ps
vars-at n xs l v ps e is there h = subst (AllVars n) (sym e) (all_at (λ qs. AllVars n qs.items) xs l v is there h)

-- what the code holds of two lists of lists for one place, of which one is taken from the other
pub record IsLessAt (n : ℕ) (xs ys : List (Vec PlainSystem)) (l : ℕ) (ps qs : List PlainSystem) : Type 0 where
  pub first : AllVars n ps
  pub second : AllVars n qs
  pub same : minus frac_arithmetic n (lines_of ps) (lines_of qs) ≡ minus frac_arithmetic n (pieces_at (plain_region xs) l) (pieces_at (plain_region ys) l)

pub less-at : (p : Plant) (xs ys : List (Vec PlainSystem)) (l : ℕ) → AreListsOf p xs → AreListsOf p ys → l < length p.locs.items → (x y : Vec PlainSystem) → x ≡ get_or xs l x → y ≡ get_or ys l y → (ps qs : List PlainSystem) → ps ≡ x.items → qs ≡ y.items
    → IsLessAt (length p.vars.items) xs ys l ps qs
less-at p xs ys l held others below x y x_is y_is ps qs ps_are qs_are =
    let n = length p.vars.items in
    let in_xs : l < length xs = let m = held.many in omega arith in
    let in_ys : l < length ys = let m = others.many in omega arith in
    record {
      first = vars-at n xs l x ps ps_are x_is in_xs held.vars;
      second = vars-at n ys l y qs qs_are y_is in_ys others.vars;
      same = ap (λ rs. minus frac_arithmetic n rs (lines_of qs)) (ap lines_of ps_are ∙ lines-at xs l x x_is in_xs)
          ∙ ap (minus frac_arithmetic n (pieces_at (plain_region xs) l)) (ap lines_of qs_are ∙ lines-at ys l y y_is in_ys);
    }
