-- A location that lost nothing loses nothing again, where nothing of what it rests on has changed.
use Rattle.std.proofs.Common.{◌≡◌, ◌+◌, ℕ, List, [], ◌∷◌, ◌++◌, length, get_or, refl, sym, ap, ◌∙◌, subst, append-nil}
use Rattle.lhg_num.specs.FracArithmetic.{frac_arithmetic}
use Rattle.lhg_num.specs.Marked.{Marked, and_then}
use Rattle.lhg_row.specs.Piece.{PlainPiece}
use Rattle.lhg_row.specs.Lists.{minus}
use Rattle.lhg_motion.specs.Found.{PlainFound}
use Rattle.lhg_motion.specs.ReachCalculus.{reach}
use Rattle.lhg_plant.specs.Plant.{PlainPlant, PlainLocation}
use Rattle.lhg_plant.specs.Region.{PlainRegion}
use Rattle.lhg_plant.specs.Invariants.{pieces_at}
use Rattle.lhg_plant.specs.OutCalculus.{PlainHit, hit_pieces}
use Rattle.lhg_plant.specs.BackCalculus.{near_at}
use Rattle.lhg_plant.specs.Loss.{PlainLoss}
use Rattle.lhg_loss.specs.Records.{PlainRound, pieces_lost, losses_from, reached_losses, losses_at, round_at}
use Rattle.lhg_loss.specs.RoundFacts.{AreReached, IsReachedAt}
use Rattle.lhg_quiet.specs.Quiet.{outs_from, backs_from, AgreeAt, IsQuietAt}
use Rattle.lhg_quiet.specs.QuietLaws.{QuietLaws}
use Rattle.lhg_quiet.proofs.Agreeing.{outside-same, hits-same, near-same}

-- ---- records
-- the same records under other numbers
none-again : (l : ℕ) (away near : List PlainPiece) (hits : List PlainHit) (found : List PlainFound) (round first number start : ℕ)
    → losses_from round l first away hits near found ≡ [] → losses_from number l start away hits near found ≡ []
none-again l away near [] [] round first number start h = refl
none-again l away near [] (f ∷ fs) round first number start h = cc
none-again l away near (x ∷ xs) found round first number start h = cc

-- a list without nothing
pub minus-none : (n : ℕ) (ps : List PlainPiece) → (minus frac_arithmetic n ps []).value ≡ ps
unfolding minus
minus-none n ps = refl

module _ (a : PlainPlant) (l : ℕ) (place : PlainLocation) where
  abbrev n : ℕ
  n = length a.vars

  -- ---- where two regions agree
  losses-same : (region next : PlainRegion) (round first : ℕ) → AgreeAt a l region next
      → losses_at a next (outs_from a next) (backs_from a next) round first (l, place) ≡ losses_at a region (outs_from a region) (backs_from a region) round first (l, place)
  unfolding losses_at
  losses-same region next round first h =
      let form : List PlainPiece → List PlainHit → Marked (List PlainPiece) → Marked (List PlainLoss) = λ x y z. and_then z (λ near. reached_losses n round l first x y near place.flow) in
      ap (λ x. form x (get_or (outs_from a next).hits l []) (near_at a next (backs_from a next) l)) (outside-same a region next l h)
      ∙ ap (λ y. form (pieces_at (outs_from a region).away l) y (near_at a next (backs_from a next) l)) (hits-same a region next l h)
      ∙ ap (form (pieces_at (outs_from a region).away l) (get_or (outs_from a region).hits l [])) (near-same a region next l h)

  reached-same : (region next : PlainRegion) → AgreeAt a l region next → IsReachedAt a region (outs_from a region) (backs_from a region) l place → IsReachedAt a next (outs_from a next) (backs_from a next) l place
  reached-same region next h r =
      let of : List PlainPiece → List PlainHit → List PlainPiece → Type 0 = λ x y z. AreReached n (x ++ hit_pieces y) z place.flow (reach frac_arithmetic n (x ++ hit_pieces y) z place.flow).value.found in
      subst (λ z. of (pieces_at (outs_from a next).away l) (get_or (outs_from a next).hits l []) z) (sym (ap (λ m. m.value) (near-same a region next l h)))
      (subst (λ y. of (pieces_at (outs_from a next).away l) y (near_at a region (backs_from a region) l).value) (sym (hits-same a region next l h))
      (subst (λ x. of x (get_or (outs_from a region).hits l []) (near_at a region (backs_from a region) l).value) (sym (outside-same a region next l h)) r))

  -- ---- quiet
  pub made-quiet : (region : PlainRegion) (round first : ℕ) → IsReachedAt a region (outs_from a region) (backs_from a region) l place
      → (losses_at a region (outs_from a region) (backs_from a region) round first (l, place)).value ≡ [] → IsQuietAt a region l place
  unfolding losses_at
  made-quiet region round first r h =
      let away = pieces_at (outs_from a region).away l in
      let hits = get_or (outs_from a region).hits l [] in
      let near = (near_at a region (backs_from a region) l).value in
      let found = (reach frac_arithmetic n (away ++ hit_pieces hits) near place.flow).value.found in
      record { reached = r; none = λ number start. none-again l away near hits found round first number start h }

  pub stays-quiet : (region next : PlainRegion) → AgreeAt a l region next → IsQuietAt a region l place → IsQuietAt a next l place
  stays-quiet region next h q = record {
    reached = reached-same region next h q.reached;
    none = λ round first. ap (λ m. m.value) (losses-same region next round first h) ∙ q.none round first;
  }

  skip-quiet : (region : PlainRegion) (round first : ℕ) (so_far : PlainRound) → IsQuietAt a region l place
      → (round_at a region (outs_from a region) (backs_from a region) round first so_far (l, place)).value ≡ record { losses = so_far.losses; next = so_far.next ++ pieces_at region l ∷ [] }
  skip-quiet region round first so_far q =
      let here = pieces_at region l in
      let with : List PlainLoss → PlainRound = λ ls. record { losses = so_far.losses ++ ls; next = so_far.next ++ (minus frac_arithmetic n here (pieces_lost ls)).value ∷ [] } in
      let end : List PlainLoss → List PlainPiece → PlainRound = λ x z. record { losses = x; next = so_far.next ++ z ∷ [] } in
      ap with (q.none round (first + length so_far.losses)) ∙ ap (λ z. end (so_far.losses ++ []) z) (minus-none n here) ∙ ap (λ x. end x here) (append-nil so_far.losses)

-- ---- all
pub quiet_laws : (a : PlainPlant) → QuietLaws a
quiet_laws a = record {
  same = λ region next l place round first h. losses-same a l place region next round first h;
  quiet = λ region l place round first r h. made-quiet a l place region round first r h;
  again = λ region next l place h q. stays-quiet a l place region next h q;
  skipped = λ region l place round first so_far q. skip-quiet a l place region round first so_far q;
}
