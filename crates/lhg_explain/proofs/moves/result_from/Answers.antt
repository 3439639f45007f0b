use Rattle.std.proofs.Common.{◌≡◌, ◌++◌, length, refl, sym, ap, ◌∙◌, subst, arith}
use Rattle.std.proofs.lemmas.List.{length-map}
use Rattle.lhg_math.specs.Number.{Number}
use Rattle.lhg_row.specs.Piece.{PlainPiece}
use Rattle.lhg_row.specs.Width.{AllWide}
use Rattle.lhg_row.specs.HasValue.{HasPoint}
use Rattle.lhg_explain.proofs.SamplePoints.{results-wide, results-point}
use Rattle.lhg_explain.proofs.moves.result_from.Goals as goal

pub sample_of-requires-clause-wide : goal.sample_of-requires-clause-wide
sample_of-requires-clause-wide c =
    let x = c.args.x.now in
    let n = length x in
    let long = length-map c.x.inside.at.items (λ (q : Number). q) in
    let seen = ap length c.x.view_is in
    let many : c.len.result ≡ n = omega (arith, long, seen, c.len.ensures, c.x.inside.at.ok.0) in
    let rows = c.in_ok-append_rows.ensures.list ∙ ap (λ (rs : PlainPiece). rs ++ c.args.into.now) c.in_ok-rows.ensures.calculus in
    subst (λ k. AllWide k c.append_rows.new.out.items) (sym many) (subst (AllWide n) (sym rows) (results-wide n c.args.jump.now x c.args.into.now refl c.requires.jump c.requires.into))

pub sample_of-requires-clause-point : goal.sample_of-requires-clause-point
sample_of-requires-clause-point c =
    let x = c.args.x.now in
    let n = length x in
    let long = length-map c.x.inside.at.items (λ (q : Number). q) in
    let seen = ap length c.x.view_is in
    let many : c.len.result ≡ n = omega (arith, long, seen, c.len.ensures, c.x.inside.at.ok.0) in
    let rows = c.in_ok-append_rows.ensures.list ∙ ap (λ (rs : PlainPiece). rs ++ c.args.into.now) c.in_ok-rows.ensures.calculus in
    let y = c.requires.result in
    subst (λ k. HasPoint k c.append_rows.new.out.items) (sym many) (subst (HasPoint n) (sym rows) (results-point n c.args.jump.now x c.args.into.now refl c.requires.jump c.requires.into y.0 y.1))
