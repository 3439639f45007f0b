-- Steps of the loops of a search.
use Rattle.std.proofs.Common.{◌≡◌, ℕ, suc, zero, ◌+◌, ◌<◌, ◌≤◌, List, [], ◌∷◌, ◌++◌, length, drop, get_or, Bool, false, Result, Ok, Err, sym, ap, ◌∙◌, subst, arith, add-one}
use Rattle.std.specs.Prelude.{OnOk}
use Rattle.std.proofs.lemmas.List.{drop_all, get_or_append_left, length-map}
use Rattle.lhg_num.specs.Arithmetic.{Arithmetic}
use Rattle.lhg_num.specs.Marked.{Marked, done, and_then, walk, IsRest}
use Rattle.lhg_num.specs.MarkedLaws.{IsPart, rest_self, walk-step, walk-part}
use Rattle.lhg_num.specs.Halting.{IsHaltedBy, IsHaltedByMemory}
use Rattle.lhg_num.specs.declared.refusals.Halt.{Halt}
use Rattle.lhg_num.specs.declared.refusals.Halt.TheVariants.{Wide, Rows, Pieces, Memory}
use Rattle.lhg_row.specs.Piece.{PlainPiece}
use Rattle.lhg_row.specs.System.{PlainSystem}
use Rattle.lhg_row.specs.Lists.{covered}
use Rattle.lhg_motion.specs.Found.{PlainFound, pieces_of}
use Rattle.lhg_motion.specs.ReachCalculus.{numbered, added_unless}
use Rattle.lhg_math.specs.ListFacts.{drop_cons}
use Rattle.lhg_union.specs.PolyLists.{lines_of}
use Rattle.lhg_reach.specs.declared.found.Found.{Found}
use Rattle.lhg_reach.specs.FoundParts.{plain_founds}
use Rattle.lhg_reach.specs.Searching.{IsSearch}

-- ---- answers
-- what follows from a fact of a value
pub on_ok_map : {T : Type 0} (r : Result T Halt) (P Q : Type 0) → (P → Q) → OnOk r P → OnOk r Q
on_ok_map (Ok x) P Q f h = f h
on_ok_map (Err e) P Q f h = h

-- an answer that only memory refuses, of a value that stands elsewhere
pub kept_halts : {T A B : Type 0} (r : Result T Halt) (x : B) (h : T → B) (m : Marked A) (v : A) → IsHaltedByMemory r (done x) h → OnOk r (v ≡ m.value) → IsHaltedBy r m (λ _. v)
kept_halts (Ok y) x h m v k e = e
kept_halts (Err Wide) x h m v k e = absurd k
kept_halts (Err Rows) x h m v k e = absurd k
kept_halts (Err Pieces) x h m v k e = absurd k
kept_halts (Err Memory) x h m v k e = tt

-- ---- one new piece
-- a piece that is not covered stands at the end
pub new-step : (a : Arithmetic) (n : ℕ) (base : List PlainPiece) (olds : List PlainFound) (p : PlainPiece) (f : PlainFound) (known one : List PlainPiece) → known ≡ base ++ pieces_of olds → one ≡ p ∷ [] → (b : Bool) → b ≡ (covered a n one known).value → b ≡ false
    → (and_then (covered a n (p ∷ []) (base ++ pieces_of olds)) (λ c. done (added_unless c olds f))).value ≡ olds ++ f ∷ []
new-step a n base olds p f known one e g b h k =
    let t : (covered a n (p ∷ []) (base ++ pieces_of olds)).value ≡ false = ap (λ w. (covered a n (p ∷ []) w).value) (sym e) ∙ ap (λ w. (covered a n w known).value) (sym g) ∙ sym h ∙ k in
    ap (λ c. added_unless c olds f) t

-- ---- loops
-- what is found so far, and the members that are left
pub record IsSearching {N A : Type 0} (f : List PlainFound → A → Marked (List PlainFound)) (items : List A) (start : List PlainFound) (base : List PlainPiece) (known : List PlainSystem) (found : List (Found N)) (rest : List A) : Type 0 where
  pub left : IsRest (walk f start items) (walk f (plain_founds found) rest)
  pub search : IsSearch base known found

module _ {N A : Type 0} (f : List PlainFound → A → Marked (List PlainFound)) (items : List A) (base : List PlainPiece) where
  -- at the start all are left
  pub searching-start : (known : List PlainSystem) (found : List (Found N)) → IsSearch base known found → IsSearching f items (plain_founds found) base known found items
  searching-start known found h = record { left = rest_self (walk f (plain_founds found) items); search = h }

  module _ (start : List PlainFound) (known : List PlainSystem) (found : List (Found N)) (rest : List A) (x : A) (more : List A) (is : rest ≡ x ∷ more) (h : IsSearching f items start base known found rest) where
    here : IsRest (walk f start items) (walk f (plain_founds found) (x ∷ more))
    here = subst (λ r. IsRest (walk f start items) (walk f (plain_founds found) r)) is h.left

    -- the marks of the next step
    pub searching-part : IsPart (walk f start items) (f (plain_founds found) x)
    searching-part = walk-part f (walk f start items) (plain_founds found) x more here

    -- one step more
    pub searching-step : (known2 : List PlainSystem) (found2 : List (Found N)) → plain_founds found2 ≡ (f (plain_founds found) x).value → IsSearch base known2 found2 → IsSearching f items start base known2 found2 more
    searching-step known2 found2 e s = record { left = walk-step f (walk f start items) (plain_founds found) (plain_founds found2) x more here e; search = s }

  -- at the end what is found is the answer
  pub searching-end : (start : List PlainFound) (known : List PlainSystem) (found : List (Found N)) (rest : List A) → rest ≡ [] → IsSearching f items start base known found rest → plain_founds found ≡ (walk f start items).value
  searching-end start known found rest is h = sym (ap (λ r. (walk f (plain_founds found) r).value) is) ∙ h.left.same

-- ---- members with their places
-- the piece at a place is the first that is left
pub numbered_next : (ps : List PlainSystem) (i : ℕ) (p : PlainSystem) → p ≡ get_or ps i p → i < length ps → numbered i (lines_of (drop i ps)) ≡ record { place = i; piece = p.lines } ∷ numbered (i + 1) (lines_of (drop (i + 1) ps))
numbered_next ps i p is there = ap (λ qs. numbered i (lines_of qs)) (drop_cons ps i p is there) ∙ ap (λ k. record { place = i; piece = p.lines } ∷ numbered k (lines_of (drop (i + 1) ps))) (sym (add-one i))

-- the same by the place alone
pub place_next : (ps : List PlainSystem) (i k : ℕ) → i < length ps → numbered k (lines_of (drop i ps)) ≡ record { place = k; piece = get_or (lines_of ps) i [] } ∷ numbered (k + 1) (lines_of (drop (i + 1) ps))
place_next [] i k h = absurd (omega arith)
place_next (p ∷ ps) zero k h = ap (λ j. record { place = k; piece = p.lines } ∷ numbered j (lines_of ps)) (sym (add-one k))
place_next (p ∷ ps) (suc i) k h =
    place_next ps i k (omega arith) ∙ ap (λ j. record { place = k; piece = get_or (lines_of ps) i [] } ∷ numbered (k + 1) (lines_of (drop j ps))) (add-one i)
    ∙ ap (λ j. record { place = k; piece = get_or (lines_of ps) i [] } ∷ numbered (k + 1) (lines_of (drop j (p ∷ ps)))) (sym (add-one (suc i)))

-- at the end no piece is left
pub numbered_none : (ps : List PlainSystem) (i : ℕ) → length ps ≤ i → numbered i (lines_of (drop i ps)) ≡ []
numbered_none ps i h = ap (λ qs. numbered i (lines_of qs)) (drop_all i ps h)

-- pieces that are found stand behind those that were known
pub known_place : {N : Type 0} (base : List PlainSystem) (known : List PlainSystem) (found : List (Found N)) (i : ℕ) → i < length base → IsSearch (lines_of base) known found → get_or (lines_of base) i [] ≡ get_or (lines_of known) i []
known_place base known found i h s =
    sym (ap (λ w. get_or w i []) s ∙ get_or_append_left (lines_of base) (pieces_of (plain_founds found)) [] i (omega (arith, length-map base (λ (p : PlainSystem). p.lines))))
