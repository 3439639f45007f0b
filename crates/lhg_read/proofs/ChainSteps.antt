-- Two or three sums with operators between are read from left to right.
use Rattle.std.proofs.Common.{◌≡◌, ◌<◌, ◌≤◌, ◌+◌, ◌-◌, inl, inr, ℕ, List, [], ◌∷◌, ◌++◌, length, take, drop, map, refl, sym, ap, ◌∙◌, Option, Some, None, arith, get_or, append_assoc}
use Rattle.std.specs.List.{position_or_len}
use Rattle.std.proofs.lemmas.List.{take_rest, take_all, length-drop}
use Rattle.std.proofs.lemmas.Bool.{cases_lt}
use Rattle.lhg_row.specs.Piece.{PlainPiece}
use Rattle.lhg_lex.specs.PlainToken.{PlainToken}
use Rattle.lhg_lex.specs.TextTokens.{plain_of}
use Rattle.lhg_lex.specs.declared.tokens.Token.{Token}
use Rattle.lhg_read.specs.Cut.{Cut, cut}
use Rattle.lhg_read.specs.Options.{joined}
use Rattle.lhg_read.specs.Signs.{is_operator}
use Rattle.lhg_read.specs.Pair.{pair_of}
use Rattle.lhg_read.specs.Rows.{chain_of}
use Rattle.lhg_read.specs.declared.forms.Form.{Form}
use Rattle.lhg_read.proofs.Cuts.{IsBlind, without_text, behind, ahead, only_part, first_part, last_part, inner_part}
use Rattle.lhg_read.proofs.SumSteps.{a_token}
use Rattle.lhg_read.specs.OptionLaws.{joined_none}

-- operators are told without the text, and so are the rows of a pair
operators_blind : IsBlind is_operator
operators_blind v w = refl

pair_blind : (form : Form) (vars : List (List ℕ)) (left : List PlainToken) (text : List ℕ) (op : Token) (right : List PlainToken) → pair_of form vars left (plain_of text op) right ≡ pair_of form vars left (plain_of [] op) right
unfolding pair_of
pair_blind form vars left text op right = without_text (λ o. pair_of form vars left o right) (λ v w. refl) text op

-- the rows of a chain that is cut
abbrev pub chain_at : Form → List (List ℕ) → Cut PlainToken → Option PlainPiece
chain_at form vars c = chain_of form vars c.first c.others

-- what is appended twice is appended once
together : (old mid new : PlainPiece) (a b : Option PlainPiece) → joined (Some old) a ≡ Some mid → joined (Some mid) b ≡ Some new → joined (Some old) (joined a b) ≡ Some new
together old mid new None b e f = absurd cc
together old mid new (Some xs) None e f = absurd cc
together old mid new (Some xs) (Some ys) e f =
    let g : old ++ xs ≡ mid = cc in
    ap (λ rows. Some rows) (sym (append_assoc old xs ys)) ∙ ap (λ rows. Some (rows ++ ys)) g ∙ f

-- where the first pair is none, so is the chain
first_none : (form : Form) (vars : List (List ℕ)) (left : List PlainToken) (op : PlainToken) (k : Cut PlainToken) → pair_of form vars left op k.first ≡ None → chain_at form vars (behind left op k) ≡ None
first_none form vars left op k h = by_others k.others
  where
    by_others : (others : List (PlainToken × List PlainToken)) → chain_of form vars left ((op, k.first) ∷ others) ≡ None
    by_others [] = h
    by_others (c ∷ []) = ap (λ o. joined o (pair_of form vars k.first c.0 c.1)) h
    by_others (c ∷ d ∷ more) = refl

module _ (form : Form) (vars : List (List ℕ)) (text : List ℕ) (tokens : List Token) (first : ℕ) (is : first ≡ position_or_len (λ token. is_operator (plain_of [] token)) tokens) where
  -- the rows of all tokens
  abbrev pub all : Option PlainPiece
  all = chain_at form vars (cut is_operator (map (plain_of text) tokens))

  -- one sum is no chain
  pub one_sum : length tokens ≤ first → all ≡ None
  one_sum h = ap (chain_at form vars) (only_part is_operator operators_blind text tokens first is h)

  module _ (lt : first < length tokens) (op : Token) (op_is : op ≡ get_or tokens first op) (n : ℕ) (next : n ≡ ahead is_operator tokens (first + 1)) where
    abbrev pub left : List PlainToken
    left = map (plain_of text) (take first tokens)

    abbrev pub middle : List PlainToken
    middle = map (plain_of text) (take (first + 1 + n - (first + 1)) (drop (first + 1) tokens))

    -- the rows of the first two sums
    abbrev pub two : Option PlainPiece
    two = pair_of form vars left (plain_of [] op) middle

    behind_first : all ≡ chain_at form vars (behind left (plain_of text op) (cut is_operator (map (plain_of text) (drop (first + 1) tokens))))
    behind_first =
        ap (chain_at form vars) (first_part is_operator operators_blind text tokens first is op lt)
        ∙ ap (λ t. chain_at form vars (behind left (plain_of text t) (cut is_operator (map (plain_of text) (drop (first + 1) tokens))))) (sym op_is)

    at_most : length tokens ≤ first + 1 + n → all ≡ two
    at_most h =
        behind_first
        ∙ ap (λ k. chain_at form vars (behind left (plain_of text op) k)) (last_part is_operator operators_blind text tokens (first + 1) n (omega arith) next h)
        ∙ pair_blind form vars left text op middle

    beyond : (d : Token) → first + 1 + n < length tokens
        → all ≡ chain_at form vars (behind left (plain_of text op) (behind middle (plain_of text (get_or tokens (first + 1 + n) d)) (cut is_operator (map (plain_of text) (drop (first + 1 + n + 1) tokens)))))
    beyond d h = behind_first ∙ ap (λ k. chain_at form vars (behind left (plain_of text op) k)) (inner_part is_operator operators_blind text tokens (first + 1) n (omega arith) next d h)

    -- two sums
    pub two_sums : length tokens ≤ first + 1 + n → (old new : PlainPiece) → joined (Some old) two ≡ Some new → joined (Some old) all ≡ Some new
    two_sums h old new e = ap (joined (Some old)) (at_most h) ∙ e

    -- where the first two are no pair
    pub no_pair : two ≡ None → all ≡ None
    no_pair h = elim (cases_lt (first + 1 + n) (length tokens)) [
      | inl more ↦ beyond a_token more ∙ first_none form vars left (plain_of text op) (behind middle _ _) (pair_blind form vars left text op middle ∙ h)
      | inr past ↦ at_most past ∙ h
    ]

    module _ (more : first + 1 + n < length tokens) (m : ℕ) (far : m ≡ ahead is_operator tokens (first + 1 + n + 1)) where
      -- four sums are no chain
      pub four_sums : first + 1 + n + 1 + m < length tokens → all ≡ None
      four_sums h =
          beyond a_token more
          ∙ ap (λ k. chain_at form vars (behind left (plain_of text op) (behind middle (plain_of text (get_or tokens (first + 1 + n) a_token)) k)))
          (inner_part is_operator operators_blind text tokens (first + 1 + n + 1) m (omega arith) far a_token h)

      module _ (op2 : Token) (op2_is : op2 ≡ get_or tokens (first + 1 + n) op2) (past : length tokens ≤ first + 1 + n + 1 + m) where
        abbrev pub right : List PlainToken
        right = map (plain_of text) (take (length tokens - (first + 1 + n + 1)) (drop (first + 1 + n + 1) tokens))

        -- the rows of the last two sums
        abbrev pub last_two : Option PlainPiece
        last_two = pair_of form vars middle (plain_of [] op2) right

        same_right : map (plain_of text) (take (first + 1 + n + 1 + m - (first + 1 + n + 1)) (drop (first + 1 + n + 1) tokens)) ≡ right
        same_right = let e : length (drop (first + 1 + n + 1) tokens) ≤ first + 1 + n + 1 + m - (first + 1 + n + 1) = omega (arith, length-drop (first + 1 + n + 1) tokens) in ap (map (plain_of text)) (take_all (first + 1 + n + 1 + m - (first + 1 + n + 1)) (drop (first + 1 + n + 1) tokens) e ∙ sym (take_rest tokens (first + 1 + n + 1)))

        three_sums : all ≡ joined two last_two
        three_sums =
            beyond op2 more
            ∙ ap (λ t. chain_at form vars (behind left (plain_of text op) (behind middle (plain_of text t) (cut is_operator (map (plain_of text) (drop (first + 1 + n + 1) tokens)))))) (sym op2_is)
            ∙ ap (λ k. chain_at form vars (behind left (plain_of text op) (behind middle (plain_of text op2) k))) (last_part is_operator operators_blind text tokens (first + 1 + n + 1) m (omega arith) far past)
            ∙ ap (λ r. joined (pair_of form vars left (plain_of text op) middle) (pair_of form vars middle (plain_of text op2) r)) same_right
            ∙ ap (λ o. joined o (pair_of form vars middle (plain_of text op2) right)) (pair_blind form vars left text op middle)
            ∙ ap (joined two) (pair_blind form vars middle text op2 right)

        -- the last two are no pair
        pub no_last : last_two ≡ None → all ≡ None
        no_last h = three_sums ∙ ap (joined two) h ∙ joined_none two

        -- three sums
        pub both_pairs : (old mid new : PlainPiece) → joined (Some old) two ≡ Some mid → joined (Some mid) last_two ≡ Some new → joined (Some old) all ≡ Some new
        both_pairs old mid new e f = ap (joined (Some old)) three_sums ∙ together old mid new two last_two e f
