-- What does a walk over a list keep, and what does it leave behind at each member? What is the place of a numbered piece?
use Rattle.std.specs.Prelude.{◌≡◌, ℕ, suc, ◌<◌, List, [], ◌∷◌, ◌++◌, length, get_or}
use Rattle.std.proofs.Common.{refl, sym, ap, ◌∙◌, arith, subst, append_assoc, inl, inr}
use Rattle.std.proofs.lemmas.List.{length-append}
use Rattle.std.proofs.Math.Seq.{get_or-append_seam}
use Rattle.lhg_math.specs.Tests.{AllOf}
use Rattle.lhg_num.specs.Marked.{Marked, walk}
use Rattle.lhg_row.specs.Piece.{PlainPiece}
use Rattle.lhg_row.specs.Members.{SomeOf, all_some}
use Rattle.lhg_motion.specs.ReachCalculus.{Placed, numbered}
use Rattle.lhg_math.specs.ListFacts.{all-map, all-both}

-- from state s to state t: t is sound, has grown from s, and has what each member leaves
pub record HasWalked {S A : Type 0} (P : S → Type 0) (G : S → S → Type 0) (Q : A → S → Type 0) (s : S) (xs : List A) (t : S) : Type 0 where
  pub sound : P t
  pub grown : G s t
  pub left : AllOf (λ x. Q x t) xs

-- one step: the next state is sound, has grown, and has what the member leaves
pub record HasStepped {S : Type 0} (P : S → Type 0) (G : S → S → Type 0) (Q : S → Type 0) (s t : S) : Type 0 where
  pub sound : P t
  pub grown : G s t
  pub left : Q t

module _ {S A : Type 0} (P : S → Type 0) (G : S → S → Type 0) (Q : A → S → Type 0) (T : A → Type 0) (f : S → A → Marked S)
    (same : (s : S) → G s s) (on : (s t u : S) → G s t → G t u → G s u) (keep : (x : A) (s t : S) → G s t → Q x s → Q x t)
    (step : (x : A) → T x → (s : S) → P s → HasStepped P G (λ t. Q x t) s (f s x).value) where
  -- where each step does so, the walk does
  pub walked : (xs : List A) → AllOf T xs → (s : S) → P s → HasWalked P G Q s xs (walk f s xs).value
  walked [] h s p = record { sound = p; grown = same s; left = tt }
  walked (x ∷ xs) h s p =
      let one = step x h.0 s p in
      let t = (f s x).value in
      let rest = walked xs h.1 t one.sound in
      let u = (walk f t xs).value in
      record { sound = rest.sound; grown = on s t u one.grown rest.grown; left = (keep x t u rest.grown one.left, rest.left) }

-- ---- numbered pieces
-- the piece stands at its place
pub record StandsAt (ps : List PlainPiece) (p : Placed) : Type 0 where
  pub there : p.place < length ps
  pub is : get_or ps p.place [] ≡ p.piece

-- the same of a list behind another
numbered_after : (before ps : List PlainPiece) (k : ℕ) → length before ≡ k → AllOf (λ p. StandsAt (before ++ ps) p) (numbered k ps)
numbered_after before [] k e = tt
numbered_after before (p ∷ ps) k e = (
  record { there = omega (arith, length-append before (p ∷ ps)); is = ap (λ i. get_or (before ++ p ∷ ps) i []) (sym e) ∙ get_or-append_seam before p ps [] },
  subst (λ (w : List PlainPiece). AllOf (λ q. StandsAt w q) (numbered (suc k) ps)) (append_assoc before (p ∷ []) ps)
      (numbered_after (before ++ p ∷ []) ps (suc k) (omega (arith, length-append before (p ∷ [])))),
)

-- each numbered piece stands at its place
pub numbered_stand : (ps : List PlainPiece) → AllOf (λ p. StandsAt ps p) (numbered 0 ps)
numbered_stand ps = numbered_after [] ps 0 refl

-- what holds of all pieces holds of all numbered ones
pub numbered-all : (P : PlainPiece → Type 0) (k : ℕ) (ps : List PlainPiece) → AllOf P ps → AllOf (λ p. P p.piece) (numbered k ps)
numbered-all P k [] h = tt
numbered-all P k (p ∷ ps) h = (h.0, numbered-all P (suc k) ps h.1)

-- and back
pub all-numbered : (P : PlainPiece → Type 0) (k : ℕ) (ps : List PlainPiece) → AllOf (λ p. P p.piece) (numbered k ps) → AllOf P ps
all-numbered P k [] h = tt
all-numbered P k (p ∷ ps) h = (h.0, all-numbered P (suc k) ps h.1)

-- what holds of all members holds of one of them
pub all_at : {A : Type 0} (P : A → Type 0) (x : A) (xs : List A) → AllOf P xs → SomeOf (λ y. y ≡ x) xs → P x
all_at P x xs h m = all_some P (λ y. y ≡ x) (P x) (λ y p e. subst P e p) xs h m

-- each member is one of the list
pub all_members : {A : Type 0} (xs : List A) → AllOf (λ x. SomeOf (λ y. y ≡ x) xs) xs
all_members [] = tt
all_members (x ∷ xs) = (inl refl, all-map (λ z. SomeOf (λ y. y ≡ z) xs) (λ z. SomeOf (λ y. y ≡ z) (x ∷ xs)) (λ z h. inr h) xs (all_members xs))
