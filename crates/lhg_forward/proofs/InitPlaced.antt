-- What lines of first states say can be made: places of locations, and rows over the variables.
use Rattle.std.proofs.Common.{◌≡◌, ◌⊎◌, inl, inr, ℕ, List, [], ◌∷◌, length, map, subst, Option, Some, None, codes}
use Rattle.std.specs.Prelude.{if◌then◌else◌}
use Rattle.std.specs.Option.{option_map}
use Rattle.std.proofs.lemmas.Option.{none-some, same_Some}
use Rattle.lhg_math.specs.Tests.{AllOf}
use Rattle.lhg_lex.specs.LineTokens.{Spot}
use Rattle.lhg_lex.specs.PlainToken.{PlainToken}
use Rattle.lhg_lex.specs.Reading.{Reading}
use Rattle.lhg_row.specs.Piece.{PlainPiece}
use Rattle.lhg_plant.specs.Plant.{PlainPlant}
use Rattle.lhg_plant.specs.Proper.{IsProper}
use Rattle.lhg_read.specs.Listed.{ListLine, item, end, alone, said_items}
use Rattle.lhg_read.specs.PlantText.{said_in}
use Rattle.lhg_read.specs.Signs.{is_word}
use Rattle.lhg_read.specs.StateText.{location_in}
use Rattle.lhg_read.specs.TokenText.{ReadsText}
use Rattle.lhg_read.proofs.Answered.{one_of, was_there}
use Rattle.lhg_ctl.specs.ControllerLine.{placed_rows}
use Rattle.lhg_ctl.specs.DraftStates.{IsPlaced}
use Rattle.lhg_ctl.proofs.GivenDrafts.{location_placed}
use Rattle.lhg_forward.specs.InitText.{init_line, init_in, IsInit}

-- what a line may say
abbrev IsGood : PlainPlant → ListLine (ℕ × PlainPiece) → Type 0
IsGood a (item x) = IsPlaced (length a.vars) (length a.locs) x
IsGood a end = Unit {0}

module _ (a : PlainPlant) (proper : IsProper a) where
  states_good : (tokens : List PlainToken) (l : ListLine (ℕ × PlainPiece)) → option_map (λ x. item x) (placed_rows a (location_in a) tokens) ≡ Some l → IsGood a l
  states_good tokens l e =
      let m = was_there (λ x. item x) (placed_rows a (location_in a) tokens) l e in
      subst (IsGood a) m.2 (location_placed a proper tokens m.0 m.1)

  end_good : (tokens : List PlainToken) (l : ListLine (ℕ × PlainPiece)) → alone end tokens ≡ Some l → IsGood a l
  end_good [] l e = subst (IsGood a) (same_Some end l e) tt
  end_good (token ∷ tokens) l e = absurd (none-some l e)

  line_good : (tokens : List PlainToken) (l : ListLine (ℕ × PlainPiece)) → init_line a tokens ≡ Some l → IsGood a l
  line_good [] l e = absurd (none-some l e)
  line_good (first ∷ tokens) l e = by_init (one_of (is_word (codes "init") first) _ _ l e)
    where
      by_end : (alone end tokens ≡ Some l) ⊎ (None ≡ Some l) → IsGood a l
      by_end (inl f) = end_good tokens l f
      by_end (inr f) = absurd (none-some l f)

      by_init : (option_map (λ x. item x) (placed_rows a (location_in a) tokens) ≡ Some l) ⊎ ((if is_word (codes "end") first then alone end tokens else None) ≡ Some l) → IsGood a l
      by_init (inl f) = states_good tokens l f
      by_init (inr f) = by_end (one_of (is_word (codes "end") first) _ _ l f)

  -- all lines
  all_placed : (lines : List (List Spot)) (ps : List (ℕ × PlainPiece)) → map (init_in a) lines ≡ map (λ v. Some v) (said_items ps) → AllOf (IsPlaced (length a.vars) (length a.locs)) ps
  all_placed lines [] h = tt
  all_placed [] (x ∷ ps) h = absurd cc
  all_placed (l ∷ lines) (x ∷ ps) h =
      let here : init_line a (said_in l) ≡ Some (item x) = cc in
      let later : map (init_in a) lines ≡ map (λ v. Some v) (said_items ps) = cc in
      (line_good (said_in l) (item x) here, all_placed lines ps later)

  -- what is read can be made
  pub read_placed : (old new : Reading) (ps : List (ℕ × PlainPiece)) → ReadsText (λ tokens. IsInit a tokens ps) old new → AllOf (IsPlaced (length a.vars) (length a.locs)) ps
  read_placed old new ps h = all_placed h.text.tokens ps h.text.is.are
