-- Steps of the lists of records.
use Rattle.std.proofs.Common.{◌≡◌, ◌+◌, ◌<◌, ℕ, List, [], ◌∷◌, length, drop, get_or, suc, refl, ap, ◌∙◌, arith}
use Rattle.lhg_motion.specs.Found.{PlainFound}
use Rattle.lhg_math.specs.ListFacts.{drop_cons}
use Rattle.lhg_plant.specs.Loss.{PlainCause}
use Rattle.lhg_plant.specs.OutCalculus.{PlainHit}
use Rattle.lhg_jump.specs.declared.hits.Hit.{Hit}
use Rattle.lhg_jump.specs.HitViews.{plain_hit, plain_hits}
use Rattle.lhg_reach.specs.declared.found.Found.{Found}
use Rattle.lhg_reach.specs.FoundParts.{plain_found, plain_founds}
use Rattle.lhg_loss.specs.Records.{hit_loss, hit_losses, found_loss, found_losses}

module _ (round l first i : ℕ) where
  same-number : first + i + 1 ≡ first + (i + 1)
  same-number = omega arith

  -- the record of the next hit
  pub hits-next : (hits : List Hit) (h : Hit) → h ≡ get_or hits i h → i < length hits
      → hit_losses round l (first + i) (plain_hits (drop i hits)) ≡ hit_loss round l (first + i) (plain_hit h) ∷ hit_losses round l (first + (i + 1)) (plain_hits (drop (i + 1) hits))
  hits-next hits h is there =
      ap (λ hs. hit_losses round l (first + i) (plain_hits hs)) (drop_cons hits i h is there)
      ∙ ap (λ k. hit_loss round l (first + i) (plain_hit h) ∷ hit_losses round l k (plain_hits (drop (i + 1) hits))) same-number

  -- the record of the next found piece
  pub found-next : {N : Type 0} (why : PlainFound → PlainCause) (fs : List (Found N)) (f : Found N) → f ≡ get_or fs i f → i < length fs
      → found_losses round l why (first + i) (plain_founds (drop i fs)) ≡ found_loss round l why (first + i) (plain_found f) ∷ found_losses round l why (first + (i + 1)) (plain_founds (drop (i + 1) fs))
  found-next why fs f is there =
      ap (λ gs. found_losses round l why (first + i) (plain_founds gs)) (drop_cons fs i f is there)
      ∙ ap (λ k. found_loss round l why (first + i) (plain_found f) ∷ found_losses round l why k (plain_founds (drop (i + 1) fs))) same-number

-- how many records there are
pub length-hits : (round l first : ℕ) (hits : List PlainHit) → length (hit_losses round l first hits) ≡ length hits
length-hits round l first [] = refl
length-hits round l first (h ∷ hs) = ap suc (length-hits round l (first + 1) hs)

pub length-found : (round l : ℕ) (why : PlainFound → PlainCause) (number : ℕ) (fs : List PlainFound) → length (found_losses round l why number fs) ≡ length fs
length-found round l why number [] = refl
length-found round l why number (f ∷ fs) = ap suc (length-found round l why (number + 1) fs)
