use Rattle.std.proofs.Common.{◌≡◌, ◌+◌, ◌-◌, None, refl, sym, ap, ◌∙◌, subst, inl, inr}
use Rattle.std.proofs.lemmas.Result.{IfOk-weaker}
use Rattle.lhg_num.specs.Arithmetic.{IsLawful}
use Rattle.lhg_row.specs.Piece.{PlainPiece}
use Rattle.lhg_row.specs.Width.{AllWide}
use Rattle.lhg_row.specs.Eliminate.{pair_at, eliminate_last}
use Rattle.lhg_prune.specs.Chosen.{IsChosen}
use Rattle.lhg_prune.specs.Pruning.{IsLeft}
use Rattle.lhg_prune.specs.Pruned.{before-wide, last_left, chosen-pruning}
use Rattle.lhg_prune.proofs.ProjectSteps.{value_has}
use Rattle.lhg_prune.proofs.pruning.left_rows.Goals as goal

pub is_short-requires : goal.is_short-requires
is_short-requires g c =
    let a = g.N.Scalar.arithmetic in
    let laws : IsLawful a = g.met.N.Scalar.lawful in
    subst (AllWide (c.args.keep + 1)) (sym c.deref.ensures.value) (before-wide a c.args.vars c.args.keep c.args.rows.items c.in_ok-before.before.items laws c.requires.keep c.requires.wide c.in_ok-before.ensures)

pub eliminate_later-requires-then-short-clause-wide : goal.eliminate_later-requires-then-short-clause-wide
eliminate_later-requires-then-short-clause-wide g c =
    let a = g.N.Scalar.arithmetic in
    let laws : IsLawful a = g.met.N.Scalar.lawful in
    before-wide a c.args.vars c.args.keep c.args.rows.items c.in_ok-before.before.items laws c.requires.keep c.requires.wide c.in_ok-before.ensures

pub chosen-requires-clause-wide : goal.chosen-requires-clause-wide
chosen-requires-clause-wide g c =
    let a = g.N.Scalar.arithmetic in
    let laws : IsLawful a = g.met.N.Scalar.lawful in
    subst (AllWide (c.args.keep + 1)) (sym c.deref-2.ensures.value) (before-wide a c.args.vars c.args.keep c.args.rows.items c.in_ok-before.before.items laws c.requires.keep c.requires.wide c.in_ok-before.ensures)

pub returns-then-short : goal.returns-then-short
returns-then-short g c =
    let a = g.N.Scalar.arithmetic in
    let n = c.args.vars in
    let k = c.args.keep in
    let rows = c.args.rows.items in
    let before = c.in_ok-before.before.items in
    value_has c.eliminate_later-then-short.result (eliminate_last a k (k + 1 - k) before) (λ v. v.items) (eliminate_last a k (k + 1 - k) before).value (λ (rs : PlainPiece). IsLeft a n k rows rs) c.eliminate_later-then-short.ensures refl
    (inl (last_left a n k rows before c.requires.keep c.in_ok-before.ensures))

pub returns : goal.returns
returns g c =
    let a = g.N.Scalar.arithmetic in
    let laws : IsLawful a = g.met.N.Scalar.lawful in
    let n = c.args.vars in
    let k = c.args.keep in
    let rows = c.args.rows.items in
    let before = c.in_ok-before.before.items in
    let alone : (pair_at a k 0 before).value ≡ None = ap (λ (rs : PlainPiece). (pair_at a k 0 rs).value) (sym c.deref.ensures.value) ∙ c.in_ok-short.ensures c.if-short.false in
    IfOk-weaker c.chosen.result (λ v. IsChosen a k c.deref-2.result.now v.items) (λ v. IsLeft a n k rows v.items)
    (λ v f. inr (chosen-pruning a n k rows before v.items laws c.requires.keep c.requires.wide c.in_ok-before.ensures alone (subst (λ (rs : PlainPiece). IsChosen a k rs v.items) c.deref-2.ensures.value f)))
    c.chosen.ensures
