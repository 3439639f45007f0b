-- Steps of the loop that copies the pieces of the records of a location.
use Rattle.std.proofs.Common.{◌≡◌, ◌<◌, ◌+◌, ℕ, true, false, List, [], ◌∷◌, ◌++◌, length, map, take, get_or, nat_eq, refl, sym, ap, ◌∙◌, subst, append-nil}
use Rattle.std.proofs.lemmas.List.{take_more, map-append}
use Rattle.lhg_math.specs.Tests.{AllOf, by_bool}
use Rattle.lhg_row.specs.Piece.{PlainPiece}
use Rattle.lhg_row.specs.Members.{all-append}
use Rattle.lhg_plant.specs.Loss.{PlainLoss}
use Rattle.lhg_loss.specs.declared.losses.Loss.{Loss}
use Rattle.lhg_loss.specs.Records.{pieces_lost}
use Rattle.lhg_loss.specs.Holding.{losses_in}
use Rattle.lhg_loss.specs.Views.{plain_loss, plain_losses}

-- one record more, of the location
in_more : (l : ℕ) (losses : List PlainLoss) (r : PlainLoss) → nat_eq r.loc l ≡ true → losses_in l (losses ++ r ∷ []) ≡ losses_in l losses ++ r ∷ []
in_more l [] r e = rw e refl
in_more l (x ∷ xs) r e = by_bool (nat_eq x.loc l) (λ f. rw f (ap (λ w. x ∷ w) (in_more l xs r e))) (λ f. rw f (in_more l xs r e))

-- one record more, of another location
out_more : (l : ℕ) (losses : List PlainLoss) (r : PlainLoss) → nat_eq r.loc l ≡ false → losses_in l (losses ++ r ∷ []) ≡ losses_in l losses
out_more l [] r e = rw e refl
out_more l (x ∷ xs) r e = by_bool (nat_eq x.loc l) (λ f. rw f (ap (λ w. x ∷ w) (out_more l xs r e))) (λ f. rw f (out_more l xs r e))

module _ (l : ℕ) (losses : List Loss) (i : ℕ) (r : Loss) (is : r ≡ get_or losses i r) (less : i < length losses) where
  taken : plain_losses (take (i + 1) losses) ≡ plain_losses (take i losses) ++ plain_loss r ∷ []
  taken = ap plain_losses (take_more losses i r less ∙ ap (λ w. take i losses ++ w ∷ []) (sym is)) ∙ map-append plain_loss (take i losses) (r ∷ [])

  -- the pieces so far, with that of a record of the location
  pub pieces_more : (out : List PlainPiece) → out ≡ pieces_lost (losses_in l (plain_losses (take i losses))) → nat_eq r.loc l ≡ true → out ++ r.piece.lines ∷ [] ≡ pieces_lost (losses_in l (plain_losses (take (i + 1) losses)))
  pieces_more out e f =
      ap (λ w. w ++ r.piece.lines ∷ []) e
      ∙ sym (map-append (λ (x : PlainLoss). x.piece) (losses_in l (plain_losses (take i losses))) (plain_loss r ∷ []))
      ∙ ap pieces_lost (sym (in_more l (plain_losses (take i losses)) (plain_loss r) f))
      ∙ ap (λ w. pieces_lost (losses_in l w)) (sym taken)

  -- and without that of another location
  pub pieces_same : (out : List PlainPiece) → out ≡ pieces_lost (losses_in l (plain_losses (take i losses))) → nat_eq r.loc l ≡ false → out ≡ pieces_lost (losses_in l (plain_losses (take (i + 1) losses)))
  pieces_same out e f = e ∙ ap pieces_lost (sym (out_more l (plain_losses (take i losses)) (plain_loss r) f)) ∙ ap (λ w. pieces_lost (losses_in l w)) (sym taken)
