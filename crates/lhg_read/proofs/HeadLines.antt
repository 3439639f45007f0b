-- The head of a plant, or of another part, is told by its tokens.
use Rattle.std.proofs.Common.{◌≡◌, ◌+◌, ◌-◌, ◌==◌, ℕ, List, [], ◌∷◌, map, refl, sym, ap, ◌∙◌, Bool, true, false, ◌&&◌, arith}
use Rattle.std.proofs.lemmas.Bool.{eqb-true, and_parts}
use Rattle.std.proofs.lemmas.Slice.Eq.{bytes_eq-Decides}
use Rattle.lhg_math.specs.Number.{unit}
use Rattle.lhg_math.specs.Signs.{same_number}
use Rattle.lhg_math.specs.SignLaws.{same_is, same_number-self}
use Rattle.lhg_math.specs.Tests.{false_true}
use Rattle.lhg_lex.specs.Lines.{lines_of}
use Rattle.lhg_lex.specs.PlainToken.{PlainToken, word, number, sign, two_signs}
use Rattle.lhg_lex.specs.LineTokens.{Spot}
use Rattle.lhg_lex.specs.TextTokens.{plain_of, placed}
use Rattle.lhg_lex.specs.Reading.{Reading, start_of, IsTokenLine}
use Rattle.lhg_lex.specs.declared.tokens.Line.{Line}
use Rattle.lhg_read.specs.Signs.{is_word}
use Rattle.lhg_read.specs.PlantText.{said_in, IsHeadOf}
use Rattle.lhg_read.specs.HeadTest.{is_unit, head_test}

-- the same test on the tokens of the line
abbrev pub spots_test : List ℕ → List Spot → Bool
spots_test w [] = false
spots_test w (x ∷ []) = false
spots_test w (x ∷ y ∷ []) = is_word w x.says && (is_unit y.says && (y.to - y.from == 1))
spots_test w (x ∷ y ∷ z ∷ more) = false

unit_kind : (start from to : ℕ) (says : PlainToken) → is_unit (plain_of [] (placed start (record { says = says; from = from; to = to }))) ≡ is_unit says
unit_kind start from to (word w) = refl
unit_kind start from to (number q) = refl
unit_kind start from to (sign b) = refl
unit_kind start from to (two_signs b c) = refl

first_eq : (x y : PlainToken) (xs ys : List PlainToken) → x ∷ xs ≡ y ∷ ys → x ≡ y
first_eq x y xs ys e = cc

same_test : (w text : List ℕ) (start : ℕ) (spots : List Spot) → map (plain_of text) (map (placed start) spots) ≡ said_in spots → head_test w text (map (placed start) spots) ≡ spots_test w spots
same_test w text start [] e = refl
same_test w text start (x ∷ []) e = refl
same_test w text start (x ∷ y ∷ []) e =
    let a : plain_of text (placed start x) ≡ x.says = first_eq _ _ _ _ e in
    let b : is_unit (plain_of [] (placed start y)) ≡ is_unit y.says = unit_kind start y.from y.to y.says in
    let d : start + y.to - (start + y.from) ≡ y.to - y.from = omega arith in
    ap (λ t. is_word w t && (is_unit (plain_of [] (placed start y)) && (start + y.to - (start + y.from) == 1))) a
    ∙ ap (λ u. is_word w x.says && (u && (start + y.to - (start + y.from) == 1))) b
    ∙ ap (λ k. is_word w x.says && (is_unit y.says && (k == 1))) d
same_test w text start (x ∷ y ∷ z ∷ more) e = refl

the_word : (w : List ℕ) (t : PlainToken) → is_word w t ≡ true → t ≡ word w
the_word w (word v) e = ap (λ x. word x) ((bytes_eq-Decides v w).0 e)
the_word w (number q) e = absurd cc
the_word w (sign b) e = absurd cc
the_word w (two_signs b c) e = absurd cc

the_unit : (t : PlainToken) → is_unit t ≡ true → t ≡ number unit
the_unit (word w) e = absurd cc
the_unit (number q) e = ap (λ x. number x) (same_is q unit e)
the_unit (sign b) e = absurd cc
the_unit (two_signs b c) e = absurd cc

-- where the test passes it is a head
pub spots_head : (w : List ℕ) (spots : List Spot) → spots_test w spots ≡ true → IsHeadOf w spots
spots_head w [] e = absurd cc
spots_head w (x ∷ []) e = absurd cc
spots_head w (x ∷ y ∷ []) e =
    let a = and_parts (is_word w x.says) (is_unit y.says && (y.to - y.from == 1)) e in
    let b = and_parts (is_unit y.says) (y.to - y.from == 1) a.1 in
    let d = eqb-true (y.to - y.from) 1 b.1 in
    let end : y.to ≡ y.from + 1 = omega (arith, d) in
    record {
      from = x.from;
      to = x.to;
      at = y.from;
      is = two_spots x.says (word w) x.from x.to y.says (number unit) y.from y.to (y.from + 1) (the_word w x.says a.0) (the_unit y.says b.0) end;
    }
  where
    two_spots : (s t : PlainToken) (f g : ℕ) (u v : PlainToken) (h i j : ℕ) → s ≡ t → u ≡ v → i ≡ j
        → (let a : Spot = record { says = s; from = f; to = g } in let b : Spot = record { says = u; from = h; to = i } in let c : Spot = record { says = t; from = f; to = g } in let d : Spot = record { says = v; from = h; to = j } in a ∷ b ∷ [] ≡ c ∷ d ∷ [])
    two_spots s t f g u v h i j p q r = cc
spots_head w (x ∷ y ∷ z ∷ more) e = absurd cc

-- and the test passes at each head
pub head_spots : (w : List ℕ) (spots : List Spot) → IsHeadOf w spots → spots_test w spots ≡ true
head_spots w spots h = ap (spots_test w) h.is ∙ ap (λ b. b && (same_number unit unit && (h.at + 1 - h.at == 1))) ((bytes_eq-Decides w w).1 refl) ∙ passes h.at
  where
    passes : (at : ℕ) → (same_number unit unit && (at + 1 - at == 1)) ≡ true
    passes at = let d : at + 1 - at ≡ 1 = omega arith in ap (λ b. b && (at + 1 - at == 1)) (same_number-self unit) ∙ ap (λ k. k == 1) d

-- the test of the code on the line is that on its tokens
pub test_is : (w : List ℕ) (s : Reading) (line : Line) (h : IsTokenLine s line) → head_test w s.bytes line.tokens.items ≡ spots_test w h.spots
test_is w s line h =
    let start = start_of h.before (lines_of s.bytes) in
    ap (head_test w s.bytes) h.placed_at ∙ same_test w s.bytes start h.spots (ap (map (plain_of s.bytes)) (sym h.placed_at) ∙ ap (λ l. l.tokens) h.says)

-- so it is one where the test of the code passes
pub head_true : (w : List ℕ) (s : Reading) (line : Line) (h : IsTokenLine s line) → head_test w s.bytes line.tokens.items ≡ true → IsHeadOf w h.spots
head_true w s line h e = spots_head w h.spots (sym (test_is w s line h) ∙ e)

-- and none where it fails
pub head_false : (w : List ℕ) (s : Reading) (line : Line) (h : IsTokenLine s line) → head_test w s.bytes line.tokens.items ≡ false → ¬ IsHeadOf w h.spots
head_false w s line h e k = false_true (sym e ∙ test_is w s line h ∙ head_spots w h.spots k)
