-- Steps of loops over a list that gather pieces, of which each member gives one or none, or a list.
use Rattle.std.proofs.Common.{◌≡◌, ℕ, ◌+◌, ◌<◌, ◌≤◌, List, [], ◌∷◌, ◌++◌, Option, length, drop, get_or, refl, sym, ap, ◌∙◌, subst, append-nil}
use Rattle.std.proofs.lemmas.List.{drop_all}
use Rattle.lhg_num.specs.Marked.{Marked, and_then, valued}
use Rattle.lhg_num.specs.MarkedLaws.{IsPart, IsBuilt}
use Rattle.lhg_math.specs.ListFacts.{drop_cons}
use Rattle.lhg_row.specs.Piece.{PlainPiece}
use Rattle.lhg_row.specs.System.{PlainSystem}
use Rattle.lhg_row.specs.Eliminate.{each_joined}
use Rattle.lhg_row.specs.Lists.{listed, counted_pieces}
use Rattle.lhg_union.specs.PolyLists.{lines_of}
use Rattle.lhg_union.proofs.ListFacts.{lines_of-append, listed-append}
use Rattle.lhg_union.proofs.GatherSteps.{more-part, more-step, counted-part, joined-part}

-- what the members so far give, where `all` is what those of a list give
abbrev pub IsGiven : {B : Type 0} → (List B → Marked (List PlainPiece)) → List B → List PlainSystem → ℕ → Type 0
IsGiven all qs out i = IsBuilt (all qs) (lines_of out) (all (drop i qs))

-- at the end this is what all of them give
pub given-end : {B : Type 0} (all : List B → Marked (List PlainPiece)) (qs : List B) (out : List PlainSystem) (i : ℕ) → (all []).value ≡ [] → length qs ≤ i → IsGiven all qs out i
    → lines_of out ≡ (all qs).value
given-end all qs out i none h w = sym (append-nil (lines_of out)) ∙ sym (ap (λ ps. lines_of out ++ ps) (ap (λ rs. (all rs).value) (drop_all i qs h) ∙ none)) ∙ w.same

-- ---- a piece or none from each member
-- the first member gives what `f` says, and the others give the rest
abbrev pub IsByPiece : {B : Type 0} → (B → Marked (Option PlainPiece)) → (List B → Marked (List PlainPiece)) → Type 0
IsByPiece {B} f all = (q : B) (qs : List B) → all (q ∷ qs) ≡ and_then (f q) (λ o. valued (listed o) (all qs))

module _ {B : Type 0} (f : B → Marked (Option PlainPiece)) (all : List B → Marked (List PlainPiece)) (next : IsByPiece f all) (qs : List B) (out : List PlainSystem) (i : ℕ) (q : B)
    (is : q ≡ get_or qs i q) (there : i < length qs) (h : IsGiven all qs out i) where
  here : IsBuilt (all qs) (lines_of out) (and_then (f q) (λ o. valued (λ ps. listed o [] ++ ps) (all (drop (i + 1) qs))))
  here =
      let b : IsBuilt (all qs) (lines_of out) (and_then (f q) (λ o. valued (listed o) (all (drop (i + 1) qs)))) =
      subst (λ m. IsBuilt (all qs) (lines_of out) m) (ap all (drop_cons qs i q is there) ∙ next q (drop (i + 1) qs)) h in
      record { same = ap (λ ps. lines_of out ++ ps) (sym (listed-append (f q).value (all (drop (i + 1) qs)).value)) ∙ b.same; part = record { wide = b.part.wide; rows = b.part.rows; pieces = b.part.pieces } }

  -- the marks of the next member, whatever is made of it
  pub piece-part : {C : Type 0} (made : Option PlainPiece → C) → IsPart (all qs) (valued made (f q))
  piece-part made = let p = more-part (all qs) (lines_of out) (f q) (λ o. listed o []) (all (drop (i + 1) qs)) here in record { wide = p.wide; rows = p.rows; pieces = p.pieces }

  -- the next member
  pub piece-step : (more : List PlainSystem) → lines_of more ≡ lines_of out ++ listed (f q).value [] → IsGiven all qs more (i + 1)
  piece-step more e =
      subst (λ ps. IsBuilt (all qs) ps (all (drop (i + 1) qs))) (sym e) (more-step (all qs) (lines_of out) (f q) (λ o. listed o []) (all (drop (i + 1) qs)) here (f q).value refl)

-- ---- a list from each piece, which are counted when they are joined
-- what the pieces so far give
abbrev pub IsJoined : (PlainPiece → Marked (List PlainPiece)) → List PlainSystem → List PlainSystem → ℕ → Type 0
IsJoined f ss out i = IsGiven (λ (rs : List PlainSystem). each_joined f (lines_of rs)) ss out i

module _ (f : PlainPiece → Marked (List PlainPiece)) (ss out : List PlainSystem) (i : ℕ) (s : PlainSystem) (is : s ≡ get_or ss i s) (there : i < length ss) (h : IsJoined f ss out i) where
  abbrev whole : Marked (List PlainPiece)
  whole = each_joined f (lines_of ss)

  abbrev later : Marked (List PlainPiece)
  later = each_joined f (lines_of (drop (i + 1) ss))

  list-here : IsBuilt whole (lines_of out) (each_joined f (s.lines ∷ lines_of (drop (i + 1) ss)))
  list-here = subst (λ rs. IsBuilt whole (lines_of out) (each_joined f (lines_of rs))) (drop_cons ss i s is there) h

  -- the marks of the next list
  pub list-marks : IsPart whole (f s.lines)
  list-marks = more-part whole (lines_of out) (f s.lines) (λ ys. ys) later list-here

  pub list-part : IsPart (and_then whole counted_pieces) (f s.lines)
  list-part = joined-part whole (f s.lines) list-marks

  -- the next list, as lines
  pub list-built : (found : List PlainPiece) → found ≡ (f s.lines).value → IsBuilt whole (lines_of out ++ found) later
  list-built found e = more-step whole (lines_of out) (f s.lines) (λ ys. ys) later list-here found e

  -- a list that is past its limits is so in the end
  pub limit-part : (found : List PlainSystem) → lines_of found ≡ (f s.lines).value → IsPart (and_then whole counted_pieces) (counted_pieces (lines_of (out ++ found)))
  limit-part found e =
      subst (λ ps. IsPart (and_then whole counted_pieces) (counted_pieces ps)) (sym (lines_of-append out found)) (counted-part whole (lines_of out ++ lines_of found) later (list-built (lines_of found) e))

  -- the next list
  pub list-step : (found more : List PlainSystem) → lines_of found ≡ (f s.lines).value → more ≡ out ++ found → IsJoined f ss more (i + 1)
  list-step found more e g = subst (λ ps. IsBuilt whole ps later) (sym (ap lines_of g ∙ lines_of-append out found)) (list-built (lines_of found) e)

-- at the end these are all
pub joined-end : (f : PlainPiece → Marked (List PlainPiece)) (ss out : List PlainSystem) (i : ℕ) → length ss ≤ i → IsJoined f ss out i → lines_of out ≡ (and_then (each_joined f (lines_of ss)) counted_pieces).value
joined-end f ss out i = given-end (λ rs. each_joined f (lines_of rs)) ss out i refl
