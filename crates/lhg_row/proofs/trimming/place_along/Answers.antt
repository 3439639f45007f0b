use Rattle.std.proofs.Common.{◌≡◌, ◌<◌, ◌+◌, ◌∷◌, ◌∙◌, Some, false, cond, drop, length, sym, subst, rules}
use Rattle.lhg_num.specs.Marked.{done, IsRest}
use Rattle.lhg_row.specs.Piece.{PlainPiece}
use Rattle.lhg_row.specs.Trim.{same_direction, place_along}
use Rattle.lhg_math.specs.ListFacts.{drop_cons}
use Rattle.lhg_num.specs.PartLaws.{rest_step}
use Rattle.lhg_row.proofs.trimming.place_along.Goals as goal

pub loop-i-preserved : goal.loop-i-preserved
loop-i-preserved g c =
    let a = g.N.Scalar.arithmetic in
    let row = c.args.row.now in
    let kept = c.args.kept.now in
    let i = c.loop-i.i in
    let r = c.index-kept-i.result in
    let rest = drop (i + 1) kept in
    let whole = place_along a row 0 kept in
    let there : i < length kept = search rules in
    let e : drop i kept ≡ r ∷ rest = drop_cons kept i r c.index-kept-i.is there in
    let here : IsRest whole (place_along a row i (r ∷ rest)) = subst (λ (ss : PlainPiece). IsRest whole (place_along a row i ss)) e c.loop-i.invariant in
    rest_step whole (same_direction a row r) (λ same. cond same (done (Some i)) (place_along a row (i + 1) rest)) false here (sym c.if-same.false ∙ c.in_ok-same.ensures)
