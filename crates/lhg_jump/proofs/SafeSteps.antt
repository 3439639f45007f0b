-- Steps of the functions that make the pieces of the safe states.
use Rattle.std.proofs.Common.{◌≡◌, true, false, ℕ, ◌+◌, ◌<◌, ◌≤◌, List, [], ◌∷◌, ◌++◌, length, map, get_or, refl, sym, ap, ◌∙◌, subst}
use Rattle.std.specs.Global.{Vec}
use Rattle.lhg_num.specs.FracArithmetic.{frac_arithmetic}
use Rattle.lhg_num.specs.Marked.{Marked, valued, IsRest}
use Rattle.lhg_num.specs.MarkedLaws.{IsPart, and_then-part, and_then-rest}
use Rattle.lhg_row.specs.Row.{PlainRow}
use Rattle.lhg_row.specs.Piece.{PlainPiece}
use Rattle.lhg_row.specs.Pieces.{meet}
use Rattle.lhg_row.specs.Lists.{is_nil, listed, meet_each, counted_pieces}
use Rattle.lhg_math.specs.Tests.{AllOf, false_true}
use Rattle.lhg_row.specs.Width.{AllWide}
use Rattle.lhg_row.specs.System.{PlainSystem}
use Rattle.lhg_plant.specs.Plant.{PlainLocation}
use Rattle.lhg_plant.specs.Proper.{IsLine, IsLocation}
use Rattle.lhg_plant.specs.Invariants.{invariant_list}
use Rattle.lhg_plant.specs.SafeRegion.{safe_within, safe_list}
use Rattle.lhg_plant.specs.Views.{plain_location}
use Rattle.lhg_plant.specs.declared.plants.Location.{Location}
use Rattle.lhg_union.specs.PolyLists.{lines_of, AllVars}
use Rattle.lhg_union.proofs.ListFacts.{all_at}
use Rattle.lhg_union.proofs.MeetSteps.{IsMeeting, meeting-part, meeting-step, meeting-end}

-- the rows of a line
abbrev pub rows_in : Vec PlainRow → PlainPiece
rows_in line = line.items

-- another value with the same marks is a part as well
valued-part : {A B C : Type 0} (whole : Marked C) (m : Marked A) (f : A → B) → IsPart whole m → IsPart whole (valued f m)
valued-part whole m f h = record { wide = h.wide; rows = h.rows; pieces = h.pieces }

-- what holds of the images of all members holds of that of one
all_map_at : {A B : Type 0} (P : B → Type 0) (f : A → B) (xs : List A) (i : ℕ) (x : A) → AllOf P (map f xs) → i < length xs → x ≡ get_or xs i x → P (f x)
all_map_at P f xs i x h l e = all_at (λ y. P (f y)) xs i x e l (mapped P f xs h)
  where
    mapped : {A B : Type 0} (P : B → Type 0) (f : A → B) (xs : List A) → AllOf P (map f xs) → AllOf (λ y. P (f y)) xs
    mapped P f [] h = tt
    mapped P f (x ∷ xs) h = (h.0, mapped P f xs h.1)

-- ---- the safe lines of one location
module _ (n : ℕ) (l : Location) (lines : List (Vec PlainRow)) (same : lines ≡ l.safe.items) (out : List PlainSystem) (i : ℕ) where
  -- at the end the pieces are those of all lines
  pub lines-end : length lines ≤ i → IsMeeting frac_arithmetic n l.inv.items rows_in lines out i → lines_of out ≡ (meet_each frac_arithmetic n l.inv.items (map rows_in l.safe.items)).value
  lines-end h w = meeting-end frac_arithmetic n l.inv.items rows_in lines out i h w ∙ ap (λ ls. (meet_each frac_arithmetic n l.inv.items (map rows_in ls)).value) same

  module _ (line : Vec PlainRow) (line_is : line ≡ get_or lines i line) (in_lines : i < length lines) where
    -- the rows of the next line have their width
    pub line-wide : IsLocation n (plain_location l) → AllWide n line.items
    line-wide h = (all_map_at (IsLine n) rows_in lines i line (subst (λ ls. AllOf (IsLine n) (map rows_in ls)) (sym same) h.safe) in_lines line_is).wide

    module _ (inv rows : PlainPiece) (inv_is : inv ≡ l.inv.items) (rows_are : rows ≡ line.items) (w : IsMeeting frac_arithmetic n l.inv.items rows_in lines out i) where
      met : meet frac_arithmetic n l.inv.items line.items ≡ meet frac_arithmetic n inv rows
      met = sym (ap (λ p. meet frac_arithmetic n p rows) inv_is ∙ ap (meet frac_arithmetic n l.inv.items) rows_are)

      -- the marks of the next piece are among those of all lines
      pub line-part : IsPart (meet_each frac_arithmetic n l.inv.items (map rows_in l.safe.items)) (valued (λ o. lines_of out ++ listed o []) (meet frac_arithmetic n inv rows))
      line-part =
          let part : IsPart (meet_each frac_arithmetic n l.inv.items (map rows_in lines)) (meet frac_arithmetic n inv rows) =
          subst (IsPart (meet_each frac_arithmetic n l.inv.items (map rows_in lines))) met (meeting-part frac_arithmetic n l.inv.items rows_in lines out i line line_is in_lines w) in
          valued-part _ _ (λ o. lines_of out ++ listed o []) (subst (λ ls. IsPart (meet_each frac_arithmetic n l.inv.items (map rows_in ls)) (meet frac_arithmetic n inv rows)) same part)

      -- one line more
      pub line-step : (more : List PlainSystem) → lines_of more ≡ lines_of out ++ listed (meet frac_arithmetic n inv rows).value [] → AllVars n more → IsMeeting frac_arithmetic n l.inv.items rows_in lines more (i + 1)
      line-step more e v = meeting-step frac_arithmetic n l.inv.items rows_in lines out i line line_is in_lines w more (e ∙ ap (λ m. lines_of out ++ listed m.value []) (sym met)) v

-- ---- one location, whose invariant is made first
module _ (n : ℕ) (l : PlainLocation) where
  -- the marks of the invariant
  pub inv-part : IsPart (safe_list n l) (invariant_list n l)
  inv-part = and_then-part (invariant_list n l) (safe_within n l)

  module _ (invs : List PlainPiece) (is : invs ≡ (invariant_list n l).value) where
    -- where it has no piece, there is none
    pub no-piece : is_nil invs ≡ true → invs ≡ (safe_list n l).value
    no-piece none = let e = empty invs none in e ∙ ap (λ ps. (safe_within n l ps).value) (sym e ∙ is)
      where
        empty : (ps : List PlainPiece) → is_nil ps ≡ true → ps ≡ []
        empty [] e = refl
        empty (p ∷ ps) e = absurd (false_true e)

    -- where it has one, the lines are left
    pub lines-rest : is_nil invs ≡ false → IsRest (safe_list n l) (meet_each frac_arithmetic n l.inv l.safe)
    lines-rest some = of invs is some
      where
        of : (ps : List PlainPiece) → ps ≡ (invariant_list n l).value → is_nil ps ≡ false → IsRest (safe_list n l) (meet_each frac_arithmetic n l.inv l.safe)
        of [] e f = absurd (false_true (sym f))
        of (p ∷ ps) e f =
            let lines = meet_each frac_arithmetic n l.inv l.safe in
            let rest : IsRest (safe_list n l) (safe_within n l (p ∷ ps)) = subst (λ qs. IsRest (safe_list n l) (safe_within n l qs)) (sym e) (and_then-rest (invariant_list n l) (safe_within n l)) in
            let part = and_then-part lines counted_pieces in
            record { same = rest.same; wide = λ h. rest.wide (part.wide h); rows = λ h. rest.rows (part.rows h); pieces = λ h. rest.pieces (part.pieces h) }
