-- A list of constraints is read one after another.
use Rattle.std.proofs.Common.{◌≡◌, ◌<◌, ◌≤◌, ◌+◌, ◌-◌, inl, inr, ℕ, List, [], ◌++◌, length, take, drop, map, refl, sym, ap, ◌∙◌, true, false, Option, Some, None, arith, append-nil, length-append, nat_le}
use Rattle.std.specs.Option.{option_and_then}
use Rattle.std.proofs.lemmas.Bool.Decides.{nat_tests}
use Rattle.std.proofs.lemmas.Bool.{cases_lt}
use Rattle.lhg_row.specs.Piece.{PlainPiece}
use Rattle.lhg_lex.specs.PlainToken.{PlainToken}
use Rattle.lhg_lex.specs.TextTokens.{plain_of}
use Rattle.lhg_lex.specs.declared.tokens.Token.{Token}
use Rattle.lhg_read.specs.Cut.{cut, parts_of}
use Rattle.lhg_read.specs.Options.{joined}
use Rattle.lhg_read.specs.OptionLaws.{joined_assoc, joined_back}
use Rattle.lhg_read.specs.Signs.{is_comma}
use Rattle.lhg_read.specs.Rows.{constraint_of, constraints_of, within_limit}
use Rattle.lhg_read.specs.declared.forms.Form.{Form}
use Rattle.lhg_read.proofs.Cuts.{IsBlind, ahead, last_part, inner_part}
use Rattle.lhg_read.proofs.SumSteps.{a_token}

-- commas are told without the text
pub commas_blind : IsBlind is_comma
commas_blind v w = refl

-- the rows of the constraints between commas, however many they are
abbrev pub rows_at : Form → List (List ℕ) → List PlainToken → Option PlainPiece
rows_at form vars tokens = constraints_of form vars (parts_of (cut is_comma tokens))

module _ (form : Form) (vars : List (List ℕ)) (text : List ℕ) (tokens : List Token) (at n : ℕ) (within : at ≤ length tokens) (is : n ≡ ahead is_comma tokens at) where
  -- the constraint up to the next comma
  abbrev pub here : Option PlainPiece
  here = constraint_of form vars (map (plain_of text) (take (at + n - at) (drop at tokens)))

  abbrev pub now : Option PlainPiece
  now = rows_at form vars (map (plain_of text) (drop at tokens))

  last_here : length tokens ≤ at + n → now ≡ here
  last_here h = ap (λ c. constraints_of form vars (parts_of c)) (last_part is_comma commas_blind text tokens at n within is h) ∙ joined_back here

  more_here : (d : Token) → at + n < length tokens → now ≡ joined here (rows_at form vars (map (plain_of text) (drop (at + n + 1) tokens)))
  more_here d h = ap (λ c. constraints_of form vars (parts_of c)) (inner_part is_comma commas_blind text tokens at n within is d h)

  -- here and what follows, whatever that is
  begins : (rest : Option PlainPiece) × (now ≡ joined here rest)
  begins = elim (cases_lt (at + n) (length tokens)) [
    | inl more ↦ (_, more_here a_token more)
    | inr past ↦ (Some [], last_here past ∙ sym (joined_back here))
  ]

  module _ (all : Option PlainPiece) (old : PlainPiece) (left : all ≡ joined (Some old) now) where
    -- no constraint
    pub no_constraint : here ≡ None → option_and_then within_limit all ≡ None
    no_constraint h = let b = begins in ap (option_and_then within_limit) (left ∙ ap (joined (Some old)) (b.1 ∙ ap (λ o. joined o b.0) h))

    module _ (new : PlainPiece) (e : joined (Some old) here ≡ Some new) where
      starts_with : (rest : Option PlainPiece) → now ≡ joined here rest → all ≡ joined (Some new) rest
      starts_with rest f = left ∙ ap (joined (Some old)) f ∙ sym (joined_assoc (Some old) here rest) ∙ ap (λ o. joined o rest) e

      -- too many rows
      pub too_many : 64 < length new → option_and_then within_limit all ≡ None
      too_many h = let b = begins in ap (option_and_then within_limit) (starts_with b.0 b.1) ∙ over b.0
        where
          over : (rest : Option PlainPiece) → option_and_then within_limit (joined (Some new) rest) ≡ None
          over None = refl
          over (Some more) = let f : nat_le (length (new ++ more)) 64 ≡ false = let k = length-append new more in let m : 64 < length (new ++ more) = omega (arith, k, h) in grind (arith, nat_tests, m) in rw f refl

      -- the last constraint
      pub last_constraint : length new ≤ 64 → length tokens ≤ at + n → option_and_then within_limit all ≡ Some new
      last_constraint h past =
          ap (option_and_then within_limit) (starts_with (Some []) (last_here past ∙ sym (joined_back here)) ∙ ap (λ r. Some r) (append-nil new))
          ∙ (let f : nat_le (length new) 64 ≡ true = grind (arith, nat_tests, h) in rw f refl)

      -- a constraint with more behind it
      pub goes_on : at + n < length tokens → all ≡ joined (Some new) (rows_at form vars (map (plain_of text) (drop (at + n + 1) tokens)))
      goes_on more = starts_with _ (more_here a_token more)
