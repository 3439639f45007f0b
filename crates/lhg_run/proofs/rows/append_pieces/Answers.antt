use Rattle.std.proofs.Common.{◌≡◌, ◌++◌, List, ap, sym, ◌∙◌, append_assoc, drop, ◌+◌}
use Rattle.lhg_math.specs.ListFacts.{drop_cons}
use Rattle.lhg_row.specs.System.{PlainSystem}
use Rattle.lhg_motion.specs.CheckPoint.{rows_of}
use Rattle.lhg_union.specs.PolyLists.{lines_of}
use Rattle.lhg_run.proofs.RowSteps.{wide-more}
use Rattle.lhg_run.proofs.rows.append_pieces.Goals as goal

pub loop-piece-preserved : goal.loop-piece-preserved
loop-piece-preserved c =
    let ps = c.args.pieces.now in
    let i = c.loop-piece.piece-index in
    let p = c.piece-item.result in
    let old = c.loop-piece.rows.items in
    let new : c.append_rows.new.out.items ≡ old ++ c.rows.result.now = c.in_ok-append_rows.ensures.list in
    let rest = rows_of (lines_of (drop (i + 1) ps)) in
    record {
      rows = ap (λ us. us ++ rest) (new ∙ ap (λ us. old ++ us) c.rows.ensures.rows) ∙ append_assoc old p.lines rest
          ∙ ap (λ (qs : List PlainSystem). old ++ rows_of (lines_of qs)) (sym (drop_cons ps i p c.piece-item.is c.loop-piece-test.true)) ∙ c.loop-piece.invariant.rows;
      wide = λ n vars first. wide-more n ps i p c.piece-item.is c.loop-piece-test.true vars c.rows.ensures.poly.wide old c.rows.result.now c.append_rows.new.out.items c.rows.ensures.rows new (c.loop-piece.invariant.wide n vars first);
    }
