use Rattle.std.proofs.Common.{◌≡◌, ◌++◌, ap, sym, ◌∙◌, subst}
use Rattle.lhg_row.specs.Piece.{PlainPiece}
use Rattle.lhg_row.specs.Width.{AllWide}
use Rattle.lhg_plant.specs.Pick.{result_rows}
use Rattle.lhg_pick.proofs.PickSteps.{result_rows-wide}
use Rattle.lhg_pick.proofs.picks.result_rows.Goals as goal

pub returns-clause-wide : goal.returns-clause-wide
returns-clause-wide c =
    let x = c.args.point.now in
    let jump = c.args.jump.now in
    let piece = c.args.piece.now in
    let e : c.append_rows.new.out.items ≡ (result_rows x jump piece).value = c.in_ok-append_rows.ensures.list ∙ ap (λ (rs : PlainPiece). rs ++ piece) c.in_ok-rows.ensures.calculus in
    subst (λ (rs : PlainPiece). AllWide c.args.vars rs) (sym e) (result_rows-wide c.args.vars x jump piece c.requires.fits c.requires.wide c.requires.same)
