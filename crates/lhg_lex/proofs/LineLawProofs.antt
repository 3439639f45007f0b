-- What counts of a line, and that its two readings agree.
use Rattle.std.proofs.Common.{◌≡◌, ◌≢◌, ℕ, List, [], ◌∷◌, ◌++◌, length, refl, ap, ◌∙◌, subst, false, arith, ◌==◌, Ok, Err, ne_eqb}
use Rattle.std.proofs.lemmas.Bool.{or_parts}
use Rattle.std.specs.List.{list_any, before_first}
use Rattle.lhg_lex.specs.LineTokens.{content_of, without_return, tokens_from, tokens_of, Spot, Fault}
use Rattle.lhg_lex.specs.LineReading.{Reads, EndsWell, EndsIn, IsReadAs, AreSlices}
use Rattle.lhg_lex.specs.Laws.{ContentLaws, LineLaws}
use Rattle.lhg_lex.proofs.Fronts.{suc_is}
use Rattle.lhg_lex.proofs.ContentFronts.{content_front}
use Rattle.lhg_lex.proofs.LineReadings.{reading_of}
use Rattle.lhg_lex.proofs.ReadingAnswers.{answer_well, answer_in, slices_of}

-- a carriage return at the end is dropped
returned : (line : List ℕ) → without_return (line ++ (13 ∷ [])) ≡ line
returned [] = refl
returned (b ∷ []) = refl
returned (b ∷ c ∷ line) = ap (λ w. b ∷ w) (returned (c ∷ line))

-- another last byte stays
kept : (line : List ℕ) (b : ℕ) → b ≢ 13 → without_return (line ++ (b ∷ [])) ≡ line ++ (b ∷ [])
kept [] b h = let t : (b == 13) ≡ false = ne_eqb b 13 h in rw t refl
kept (a ∷ []) b h = ap (λ w. a ∷ w) (kept [] b h)
kept (a ∷ c ∷ line) b h = ap (λ w. a ∷ w) (kept (c ∷ line) b h)

-- a comment's last byte may be dropped, and no other
still_comment : (line more : List ℕ) → (rest : List ℕ) × (without_return (line ++ (35 ∷ more)) ≡ line ++ (35 ∷ rest))
still_comment [] [] = ([], refl)
still_comment [] (c ∷ more) = (without_return (c ∷ more), refl)
still_comment (b ∷ []) more = let p = still_comment [] more in (p.0, ap (λ w. b ∷ w) p.1)
still_comment (b ∷ c ∷ line) more = let p = still_comment (c ∷ line) more in (p.0, ap (λ w. b ∷ w) p.1)

-- what stands before the first `#`
before_comment : (line rest : List ℕ) → list_any (λ b. b == 35) line ≡ false → before_first (λ b. b == 35) (line ++ (35 ∷ rest)) ≡ line
before_comment [] rest h = refl
before_comment (b ∷ line) rest h =
    let p = or_parts (b == 35) (list_any (λ c. c == 35) line) h in
    let e = p.0 in
    rw (e, suc_is) (ap (λ w. b ∷ w) (before_comment line rest p.1))

-- a comment does not count
comment : (line more : List ℕ) → list_any (λ b. b == 35) line ≡ false → content_of (line ++ (35 ∷ more)) ≡ line
comment line more h = let p = still_comment line more in ap (before_first (λ b. b == 35)) p.1 ∙ before_comment line p.0 h

-- the laws of what counts
pub content_laws : ContentLaws
content_laws = record { front = content_front; returned = returned; kept = kept; comment = comment }

-- an answer with tokens tells a reading
well : (at : ℕ) (bytes : List ℕ) (spots : List Spot) → tokens_from 0 at bytes ≡ Ok spots → Reads EndsWell at bytes spots
well at bytes spots e = subst (λ r. IsReadAs at bytes r) e (reading_of (length bytes) at bytes (omega arith))

-- an answer with an error tells a reading up to it
in_fault : (at : ℕ) (bytes : List ℕ) (fault : Fault) → tokens_from 0 at bytes ≡ Err fault → (spots : List Spot) × Reads (EndsIn fault) at bytes spots
in_fault at bytes fault e = subst (λ r. IsReadAs at bytes r) e (reading_of (length bytes) at bytes (omega arith))

-- the tokens are slices of what counts
line_slices : (line : List ℕ) (spots : List Spot) → tokens_of line ≡ Ok spots → AreSlices (content_of line) 0 spots
unfolding tokens_of
line_slices line spots e = slices_of (content_of line) spots e

-- the laws of a line
pub line_laws : LineLaws
line_laws = record {
  tokens = λ at bytes spots. (well at bytes spots, answer_well at bytes spots);
  fault = λ at bytes fault. (in_fault at bytes fault, λ r. answer_in fault at bytes r.0 r.1);
  slices = line_slices;
}
