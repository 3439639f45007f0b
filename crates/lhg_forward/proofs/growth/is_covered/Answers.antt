use Rattle.std.proofs.Common.{◌≡◌, ◌++◌, [], ◌∷◌, refl, sym, ap, ◌∙◌, subst}
use Rattle.std.specs.Prelude.{◌==◌}
use Rattle.lhg_num.specs.FracArithmetic.{frac_arithmetic}
use Rattle.lhg_num.specs.MarkedLaws.{IsPart}
use Rattle.lhg_num.proofs.Halted.{part_halts}
use Rattle.lhg_row.specs.Lists.{is_nil, minus, covered}
use Rattle.lhg_union.specs.PolyLists.{lines_of, AllVars}
use Rattle.lhg_union.proofs.ListFacts.{nil_test}
use Rattle.lhg_forward.proofs.CoverCode.{cover-part, cover-then, cover-value}
use Rattle.lhg_forward.proofs.growth.is_covered.Goals as goal

pub minus-requires : goal.minus-requires
minus-requires c =
    let n = c.args.piece.now.width in
    record { vars = n; first = subst (AllVars n) (sym c.from_ref.ensures.value) (refl, tt); second = c.requires.older }

pub returns-in_err-beside : goal.returns-in_err-beside
returns-in_err-beside c =
    let n = c.args.piece.now.width in
    let p = c.args.piece.now.lines in
    let older = lines_of c.args.older.now in
    let newer = lines_of c.args.newer.now in
    let first : AllVars n c.from_ref.result.now = subst (AllVars n) (sym c.from_ref.ensures.value) (refl, tt) in
    part_halts c.from_residual.result c.in_err-beside.field-0.0 _ _ _ (λ v. lines_of v.items) c.from_residual.ensures.1 (c.in_err-beside.ensures.calculus n first c.requires.older)
    (subst (λ ps. IsPart (covered frac_arithmetic n (p ∷ []) (older ++ newer)) (minus frac_arithmetic n ps older)) (sym (ap lines_of c.from_ref.ensures.value)) (cover-part n (p ∷ []) older newer))

pub minus-requires-2 : goal.minus-requires-2
minus-requires-2 c =
    let n = c.args.piece.now.width in
    let first : AllVars n c.from_ref.result.now = subst (AllVars n) (sym c.from_ref.ensures.value) (refl, tt) in
    record { vars = n; first = subst (AllVars n) (sym c.deref.ensures.value) (c.in_ok-beside.ensures.vars n first c.requires.older); second = c.requires.newer }

pub returns-in_err-left : goal.returns-in_err-left
returns-in_err-left c =
    let n = c.args.piece.now.width in
    let p = c.args.piece.now.lines in
    let older = lines_of c.args.older.now in
    let newer = lines_of c.args.newer.now in
    let first : AllVars n c.from_ref.result.now = subst (AllVars n) (sym c.from_ref.ensures.value) (refl, tt) in
    let again : AllVars n c.deref.result.now = subst (AllVars n) (sym c.deref.ensures.value) (c.in_ok-beside.ensures.vars n first c.requires.older) in
    let is : lines_of c.deref.result.now ≡ (minus frac_arithmetic n (p ∷ []) older).value =
    ap lines_of c.deref.ensures.value ∙ c.in_ok-beside.ensures.calculus n first c.requires.older ∙ ap (λ ps. (minus frac_arithmetic n (lines_of ps) older).value) c.from_ref.ensures.value in
    part_halts c.from_residual-in_err-left.result c.in_err-left.field-0.0 _ _ _ (λ v. lines_of v.items) c.from_residual-in_err-left.ensures.1 (c.in_err-left.ensures.calculus n again c.requires.newer)
    (cover-then n (p ∷ []) older newer (lines_of c.deref.result.now) is)

pub returns : goal.returns
returns c =
    let n = c.args.piece.now.width in
    let p = c.args.piece.now.lines in
    let older = lines_of c.args.older.now in
    let newer = lines_of c.args.newer.now in
    let first : AllVars n c.from_ref.result.now = subst (AllVars n) (sym c.from_ref.ensures.value) (refl, tt) in
    let again : AllVars n c.deref.result.now = subst (AllVars n) (sym c.deref.ensures.value) (c.in_ok-beside.ensures.vars n first c.requires.older) in
    let is : lines_of c.deref.result.now ≡ (minus frac_arithmetic n (p ∷ []) older).value =
    ap lines_of c.deref.ensures.value ∙ c.in_ok-beside.ensures.calculus n first c.requires.older ∙ ap (λ ps. (minus frac_arithmetic n (lines_of ps) older).value) c.from_ref.ensures.value in
    let left = c.in_ok-left.left in
    let none : is_nil (lines_of left.items) ≡ c.is_empty.result = nil_test left.items ∙ sym (ap (λ k. k == 0) left.ok.0) ∙ sym c.is_empty.ensures in
    sym none ∙ cover-value n (p ∷ []) older newer (lines_of c.deref.result.now) is (lines_of left.items) (c.in_ok-left.ensures.calculus n again c.requires.newer)
