-- A call that hands a halt on, at the words that callers have.
use Rattle.std.proofs.Common.{◌≡◌, true, Result, Ok, Err, sym, subst}
use Rattle.std.specs.Prelude.{IfOk}
use Rattle.std.specs.Result.{IsErrAnd}
use Rattle.lhg_num.specs.Marked.{Marked, IsRest}
use Rattle.lhg_num.specs.MarkedLaws.{IsPart}
use Rattle.lhg_num.specs.declared.refusals.Halt.{Halt}
use Rattle.lhg_num.specs.declared.refusals.Halt.TheVariants.{Wide}
use Rattle.lhg_num.specs.Halting.{of_all, of_rows, of_numbers, of_pieces, IsHaltedBy, IsHaltedByRows, IsHaltedByWide, IsHaltedByPieces}
use Rattle.lhg_num.specs.AnswerLaws.{among_all, numbers_among_rows, halts_for_more, part_halts_for, more_halts_for, rest_halts_for, exact_for}

-- ---- from a word to a wider one
-- from numbers to rows
pub rows_from_wide : {T A : Type 0} (r : Result T Halt) (m : Marked A) (f : T → A) → IsHaltedByWide r m f → IsHaltedByRows r m f
rows_from_wide r m f h = halts_for_more of_numbers of_rows r m f numbers_among_rows h

-- from rows to all
pub all_from_rows : {T A : Type 0} (r : Result T Halt) (m : Marked A) (f : T → A) → IsHaltedByRows r m f → IsHaltedBy r m f
all_from_rows r m f h = halts_for_more of_rows of_all r m f (among_all of_rows) h

-- from pieces to all
pub all_from_pieces : {T A : Type 0} (r : Result T Halt) (m : Marked A) (f : T → A) → IsHaltedByPieces r m f → IsHaltedBy r m f
all_from_pieces r m f h = halts_for_more of_pieces of_all r m f (among_all of_pieces) h

-- ---- operations of a type
-- a Wide that became a halt
pub wide_halts : {T A : Type 0} (r : Result T Halt) (m : Marked A) (f : T → A) → IsErrAnd r (λ e. e ≡ Wide) → m.wide ≡ true → IsHaltedByWide r m f
wide_halts (Ok x) m f h k = absurd h
wide_halts {T} (Err e) m f h k = subst (λ (d : Halt). IsHaltedByWide {T = T} (Err d) m f) (sym h) k

-- ---- what is left, and what is exact
-- what is exact of the value of the calculus is exact of an answer that is this value
pub rows_exact : {T A : Type 0} (r : Result T Halt) (m : Marked A) (f : T → A) (P : A → Type 0) → IsHaltedByRows r m f → P m.value → IfOk r (λ x. P (f x))
rows_exact = exact_for of_rows

pub all_exact : {T A : Type 0} (r : Result T Halt) (m : Marked A) (f : T → A) (P : A → Type 0) → IsHaltedBy r m f → P m.value → IfOk r (λ x. P (f x))
all_exact = exact_for of_all

pub halted_exact : {T A : Type 0} (r : Result T Halt) (m : Marked A) (f : T → A) (P : A → Type 0) → IsHaltedByWide r m f → P m.value → IfOk r (λ x. P (f x))
halted_exact = exact_for of_numbers

-- an answer of what is left is one of the whole
pub rest_halts : {T A : Type 0} (r : Result T Halt) (whole rest : Marked A) (f : T → A) → IsRest whole rest → IsHaltedBy r rest f → IsHaltedBy r whole f
rest_halts = rest_halts_for of_all

pub rest_halts_rows : {T A : Type 0} (r : Result T Halt) (whole rest : Marked A) (f : T → A) → IsRest whole rest → IsHaltedByRows r rest f → IsHaltedByRows r whole f
rest_halts_rows = rest_halts_for of_rows

pub rest_halts_wide : {T A : Type 0} (r : Result T Halt) (whole rest : Marked A) (f : T → A) → IsRest whole rest → IsHaltedByWide r rest f → IsHaltedByWide r whole f
rest_halts_wide = rest_halts_for of_numbers

-- ---- a halt of a part is a halt of the whole
pub part_halts : {T U A B : Type 0} (r : Result T Halt) (e : Halt) (m : Marked A) (f : T → A) (n : Marked B) (h : U → B)
    → IsErrAnd r (λ d. d ≡ e) → IsHaltedBy {T = U} (Err e) n h → IsPart m n → IsHaltedBy r m f
part_halts = part_halts_for of_all

pub part_halts_rows : {T U A B : Type 0} (r : Result T Halt) (e : Halt) (m : Marked A) (f : T → A) (n : Marked B) (h : U → B)
    → IsErrAnd r (λ d. d ≡ e) → IsHaltedByRows {T = U} (Err e) n h → IsPart m n → IsHaltedByRows r m f
part_halts_rows = part_halts_for of_rows

pub part_halts_wide : {T U A B : Type 0} (r : Result T Halt) (e : Halt) (m : Marked A) (f : T → A) (n : Marked B) (h : U → B)
    → IsErrAnd r (λ d. d ≡ e) → IsHaltedByWide {T = U} (Err e) n h → IsPart m n → IsHaltedByWide r m f
part_halts_wide = part_halts_for of_numbers

-- a part that halts for less
pub rows_on_wide : {T U A B : Type 0} (r : Result T Halt) (e : Halt) (whole : Marked A) (f : T → A) (part : Marked B) (h : U → B)
    → IsErrAnd r (λ d. d ≡ e) → IsHaltedByWide {T = U} (Err e) part h → IsPart whole part → IsHaltedByRows r whole f
rows_on_wide {T} {U} r e whole f part h i k p = more_halts_for of_numbers of_rows {T = T} {U = U} r e whole f part h numbers_among_rows i k p

pub all_on_rows : {T U A B : Type 0} (r : Result T Halt) (e : Halt) (whole : Marked A) (f : T → A) (part : Marked B) (h : U → B)
    → IsErrAnd r (λ d. d ≡ e) → IsHaltedByRows {T = U} (Err e) part h → IsPart whole part → IsHaltedBy r whole f
all_on_rows {T} {U} r e whole f part h i k p = more_halts_for of_rows of_all {T = T} {U = U} r e whole f part h (among_all of_rows) i k p

pub all_on_pieces : {T U A B : Type 0} (r : Result T Halt) (e : Halt) (whole : Marked A) (f : T → A) (part : Marked B) (h : U → B)
    → IsErrAnd r (λ d. d ≡ e) → IsHaltedByPieces {T = U} (Err e) part h → IsPart whole part → IsHaltedBy r whole f
all_on_pieces {T} {U} r e whole f part h i k p = more_halts_for of_pieces of_all {T = T} {U = U} r e whole f part h (among_all of_pieces) i k p
