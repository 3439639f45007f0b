-- Steps of a loop that looks for the first piece of the lists of all places.
use Rattle.std.proofs.Common.{◌≡◌, ◌<◌, ◌≤◌, ◌+◌, ℕ, zero, suc, List, [], ◌∷◌, length, get_or, slice_get, Option, Some, None, Result, Ok, Err, refl, sym, ap, ◌∙◌, subst, inl, inr, arith}
use Rattle.std.specs.Prelude.{IfSome, OnOk}
use Rattle.lhg_num.specs.Marked.{Marked, valued, each, IsRest}
use Rattle.lhg_num.specs.MarkedLaws.{IsPart, part_part}
use Rattle.lhg_row.specs.Decisions.{nat_decided}
use Rattle.lhg_row.specs.Piece.{PlainPiece}
use Rattle.lhg_row.specs.System.{PlainSystem}
use Rattle.lhg_plant.specs.OutCalculus.{numbered}
use Rattle.lhg_check.specs.Check.{first_of, first_piece}
use Rattle.lhg_check.specs.declared.firsts.First.{First}
use Rattle.lhg_check.specs.Views.{plain_piece, plain_first}
use Rattle.lhg_check.proofs.CheckLists.{at_or, is_empty, first_at, first_none, each_numbered, each_part, each_length}

-- ---- another value of the same marks
-- what is left, with another value made of it
pub valued_rest : {A B : Type 0} (g : A → B) (whole rest : Marked A) → IsRest whole rest → IsRest (valued g whole) (valued g rest)
valued_rest g whole rest r = record { same = ap g r.same; wide = r.wide; rows = r.rows; pieces = r.pieces }

-- a part, where both have other values
pub valued_part : {A B C D : Type 0} (g : A → B) (h : C → D) (whole : Marked A) (part : Marked C) → IsPart whole part → IsPart (valued g whole) (valued h part)
valued_part g h whole part p = record { wide = p.wide; rows = p.rows; pieces = p.pieces }

-- a part, where the whole has another value
pub whole_part : {A B C : Type 0} (g : A → B) (whole : Marked A) (part : Marked C) → IsPart whole part → IsPart (valued g whole) part
whole_part g whole part p = record { wide = p.wide; rows = p.rows; pieces = p.pieces }

-- a part with another value
pub part_valued : {A B C : Type 0} (h : B → C) (whole : Marked A) (part : Marked B) → IsPart whole part → IsPart whole (valued h part)
part_valued h whole part p = record { wide = p.wide; rows = p.rows; pieces = p.pieces }

-- what is left, without its value, is a part
pub rest_part_of : {A B : Type 0} (g : B → A) (whole : Marked A) (part : Marked B) → IsRest whole (valued g part) → IsPart whole part
rest_part_of g whole part r = record { wide = r.wide; rows = r.rows; pieces = r.pieces }

-- what is left is a part
pub rest_is_part : {A : Type 0} (whole rest : Marked A) → IsRest whole rest → IsPart whole rest
rest_is_part whole rest r = record { wide = r.wide; rows = r.rows; pieces = r.pieces }

-- ---- places
-- a member is there
pub there_is : {A : Type 0} (xs : List A) (k : ℕ) → k < length xs → (x : A) × (slice_get xs k ≡ Some x)
there_is [] k h = absurd (omega arith)
there_is (x ∷ xs) zero h = (x, refl)
there_is (x ∷ xs) (suc k) h = there_is xs k (omega arith)

-- no list before place k has a piece
abbrev pub IsClear : List (List PlainPiece) → ℕ → Type 0
IsClear pss k = (i : ℕ) → i < k → get_or pss i [] ≡ []

module _ {A : Type 0} (f : ℕ × A → Marked (List PlainPiece)) (xs : List A) where
  abbrev all : Marked (List (List PlainPiece))
  all = each f (numbered 0 xs)

  module _ (k : ℕ) (x : A) (is : slice_get xs k ≡ Some x) where
    here_list : get_or all.value k [] ≡ (f (k, x)).value
    here_list = each_numbered f xs k ∙ ap (at_or f k) is

    -- the marks of a place are marks of all
    pub here_part : IsPart (valued first_piece all) (valued first_of (f (k, x)))
    here_part = valued_part first_piece first_of all (f (k, x)) (each_part f xs k x is)

    -- its first piece is the first of all
    pub here_first : (piece : PlainPiece) → IsClear all.value k → first_of (f (k, x)).value ≡ Some piece → first_piece all.value ≡ Some (k, piece)
    here_first piece clear e = first_at all.value k piece (ap first_of here_list ∙ e) clear

    -- or it has none
    pub here_none : IsClear all.value k → first_of (f (k, x)).value ≡ None → IsClear all.value (k + 1)
    here_none clear e i l = elim (nat_decided i k) [
      | inl same ↦ ap (λ j. get_or all.value j []) same ∙ here_list ∙ is_empty (f (k, x)).value e
      | inr other ↦ clear i (omega arith)
    ]

  -- after the last one there is none
  pub end_none : (k : ℕ) → length xs ≤ k → IsClear all.value k → first_piece all.value ≡ None
  end_none k past clear = first_none all.value (λ i l. clear i (let many : length all.value ≡ length xs = each_length f xs in omega arith))

  -- ---- where these are what is left of a whole
  module _ (whole : Marked (List (List PlainPiece))) (rest : IsRest whole all) where
    -- the marks of a place are marks of the whole
    pub at_part : (k : ℕ) (x : A) → slice_get xs k ≡ Some x → IsPart (valued first_piece whole) (valued first_of (f (k, x)))
    at_part k x is = part_part (valued first_piece whole) (valued first_piece all) (valued first_of (f (k, x))) (rest_is_part (valued first_piece whole) (valued first_piece all) (valued_rest first_piece whole all rest)) (here_part k x is)

    -- its first piece is the first of the whole
    pub at_first : (k : ℕ) (x : A) → slice_get xs k ≡ Some x → (piece : PlainPiece) → IsClear all.value k → first_of (f (k, x)).value ≡ Some piece → Some (k, piece) ≡ first_piece whole.value
    at_first k x is piece clear e = sym (here_first k x is piece clear e) ∙ ap first_piece rest.same

    -- after the last one there is none
    pub at_end : (k : ℕ) → length xs ≤ k → IsClear all.value k → None ≡ first_piece whole.value
    at_end k past clear = sym (end_none k past clear) ∙ ap first_piece rest.same

-- ---- options
-- the rows of the piece that is there
pub piece_some : (o : Option PlainSystem) (p : PlainSystem) (e : Option PlainPiece) → o ≡ Some p → plain_piece o ≡ e → e ≡ Some p.lines
piece_some o p e is same = sym same ∙ ap plain_piece is

pub piece_none : (o : Option PlainSystem) (e : Option PlainPiece) → o ≡ None → plain_piece o ≡ e → e ≡ None
piece_none o e is same = sym same ∙ ap plain_piece is

-- the first piece that is there, with its place
pub first_some : (o : Option First) (f : First) (e : Option (ℕ × PlainPiece)) → o ≡ Some f → plain_first o ≡ e → e ≡ Some (f.place, f.piece.lines)
first_some o f e is same = sym same ∙ ap plain_first is

pub first_missing : (o : Option First) (e : Option (ℕ × PlainPiece)) → o ≡ None → plain_first o ≡ e → e ≡ None
first_missing o e is same = sym same ∙ ap plain_first is

-- what holds where there is a value holds of the value that is there
pub some_if : {A : Type 0} (P : A → Type 0) (o : Option A) (x : A) → o ≡ Some x → IfSome o P → P x
some_if {A = A} P o x e h = subst (λ (q : Option A). IfSome q P) e h

-- ---- answers
-- a fact of an answer gives another one
pub ok_then : {T E : Type 0} (r : Result T E) (P Q : Type 0) → (P → Q) → OnOk r P → OnOk r Q
ok_then (Ok x) P Q f h = f h
ok_then (Err e) P Q f h = tt
