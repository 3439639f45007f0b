-- The rows beside two others, in three parts.
use Rattle.std.proofs.Common.{◌≡◌, ℕ, suc, ◌+◌, ◌-◌, ◌<◌, not, ◌++◌, length, map, take, drop, get_or, refl, sym, ap, ◌∙◌, subst, arith}
use Rattle.std.specs.List.{between}
use Rattle.std.proofs.lemmas.List.{take-take, drop-take, take-append-le, drop-append-le, length-take, length-drop, take_all}
use Rattle.lhg_num.specs.Arithmetic.{Arithmetic}
use Rattle.lhg_num.specs.Marked.{Marked}
use Rattle.lhg_num.specs.MarkedLaws.{IsPart, part_self}
use Rattle.lhg_row.specs.Row.{PlainRow}
use Rattle.lhg_row.specs.Piece.{PlainPiece}
use Rattle.lhg_row.specs.Column.{level_at, drop_column}
use Rattle.lhg_row.specs.Combine.{comb}
use Rattle.lhg_row.specs.Eliminate.{partner, with_pair, row_at, beside}
use Rattle.lhg_elim.specs.Pushed.{pushed}
use Rattle.lhg_elim.proofs.PairSteps.{row_at-is}
use Rattle.lhg_elim.proofs.Additive.{both, each-additive, additive-append, IsPushed, both_left-part, both_left-step, pushed-end, valued-part}

-- the rows before the first place, those between the two, and those after the second
pub beside-is : (rows : PlainPiece) (i j : ℕ) → i < j → j < length rows → beside rows i j ≡ take i rows ++ (between (i + 1) j rows ++ between (j + 1) (length rows) rows)
beside-is rows i j h l =
    let n : length (take j rows) ≡ j = length-take j rows ∙ omega arith in
    let first : take i (take j rows ++ drop (suc j) rows) ≡ take i rows = take-append-le i (take j rows) (drop (suc j) rows) (omega arith) ∙ take-take i j rows (omega arith) in
    let m : suc i + (j - suc i) ≡ j = omega arith in
    let middle : drop (suc i) (take j rows) ≡ take (j - suc i) (drop (suc i) rows) = ap (λ x. drop (suc i) (take x rows)) (sym m) ∙ drop-take (suc i) (j - suc i) rows in
    let last : drop (suc i) (take j rows ++ drop (suc j) rows) ≡ take (j - suc i) (drop (suc i) rows) ++ drop (suc j) rows =
    drop-append-le (suc i) (take j rows) (drop (suc j) rows) (omega arith) ∙ ap (λ ys. ys ++ drop (suc j) rows) middle in
    let all : between (j + 1) (length rows) rows ≡ drop (j + 1) rows = let d = length-drop (j + 1) rows in take_all (length rows - (j + 1)) (drop (j + 1) rows) (omega arith) in
    let si : suc i ≡ i + 1 = omega arith in
    let sj : suc j ≡ j + 1 = omega arith in
    ap (λ ys. ys ++ drop (suc i) (take j rows ++ drop (suc j) rows)) first ∙ ap (λ ys. take i rows ++ ys) last ∙ ap (λ n. take i rows ++ (take (j - n) (drop n rows) ++ drop (suc j) rows)) si
    ∙ ap (λ n. take i rows ++ (take (j - (i + 1)) (drop (i + 1) rows) ++ drop n rows)) sj ∙ ap (λ ys. take i rows ++ (take (j - (i + 1)) (drop (i + 1) rows) ++ ys)) (sym all)

module _ (a : Arithmetic) (k : ℕ) (rows : PlainPiece) (i j : ℕ) (one other : PlainRow) (in_order : i < j) (in_list : j < length rows) (one_is : one ≡ get_or rows i one) (other_is : other ≡ get_or rows j other) (old : PlainPiece) where
  -- what is made of some rows
  abbrev made : PlainPiece → Marked PlainPiece
  made rs = with_pair a k one other rs

  -- and of those before the first place
  abbrev first : Marked PlainPiece
  first = made (take i rows)

  -- between the two
  abbrev second : Marked PlainPiece
  second = made (between (i + 1) j rows)

  -- and after the second
  abbrev third : Marked PlainPiece
  third = made (between (j + 1) (length rows) rows)

  -- what is made of all rows beside the two
  abbrev pub whole : Marked PlainPiece
  whole = with_pair a k (row_at rows i) (row_at rows j) (beside rows i j)

  -- it is made of the three parts
  parts : whole ≡ both first (both second third)
  parts =
      let additive = each-additive (λ r. not (level_at k r)) (λ r. comb a r (partner k one other r) k) in
      let e = row_at-is rows i one one_is (omega arith) in
      let f = row_at-is rows j other other_is in_list in
      ap (λ (o : PlainRow). with_pair a k o (row_at rows j) (beside rows i j)) e ∙ ap (λ (o : PlainRow). with_pair a k one o (beside rows i j)) f ∙ ap made (beside-is rows i j in_order in_list)
      ∙ additive-append made additive (take i rows) (between (i + 1) j rows ++ between (j + 1) (length rows) rows)
      ∙ ap (both first) (additive-append made additive (between (i + 1) j rows) (between (j + 1) (length rows) rows))

  -- at the start they are left
  start : IsPushed (drop_column k) old whole old (both first (both second third))
  start = subst (IsPushed (drop_column k) old whole old) parts (record { same = refl; part = part_self whole })

  -- the marks of the first part are among those of the whole
  pub first-part : (now : PlainPiece) → IsPart (pushed k old whole) (pushed k now first)
  first-part now = valued-part whole (λ rs. old ++ map (drop_column k) rs) first (λ rs. now ++ map (drop_column k) rs) (both_left-part (drop_column k) old whole old first (both second third) start)

  module _ (before : PlainPiece) (b : before ≡ (pushed k old first).value) where
    -- after the first the second and the third are left
    after_first : IsPushed (drop_column k) old whole before (both second third)
    after_first = both_left-step (drop_column k) old whole old first (both second third) start before b

    -- those of the second
    pub second-part : (now : PlainPiece) → IsPart (pushed k old whole) (pushed k now second)
    second-part now = valued-part whole (λ rs. old ++ map (drop_column k) rs) second (λ rs. now ++ map (drop_column k) rs) (both_left-part (drop_column k) old whole before second third after_first)

    module _ (after : PlainPiece) (d : after ≡ (pushed k before second).value) where
      -- after the second the third is left
      after_second : IsPushed (drop_column k) old whole after third
      after_second = both_left-step (drop_column k) old whole before second third after_first after d

      -- and those of the third
      pub third-part : (now : PlainPiece) → IsPart (pushed k old whole) (pushed k now third)
      third-part now = valued-part whole (λ rs. old ++ map (drop_column k) rs) third (λ rs. now ++ map (drop_column k) rs) after_second.part

      -- with the third part the whole is at the end
      pub beside-end : (more : PlainPiece) → more ≡ (pushed k after third).value → more ≡ (pushed k old whole).value
      beside-end more e = pushed-end (drop_column k) old whole after third after_second more e
