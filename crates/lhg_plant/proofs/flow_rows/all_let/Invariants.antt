use Rattle.std.proofs.Common.{drop, length}
use Rattle.lhg_num.specs.Marked.{IsRest}
use Rattle.lhg_row.specs.Width.{AllWide}
use Rattle.lhg_plant.specs.LegalTruths.{flow_rows_truth}
use Rattle.lhg_plant.proofs.flow_rows.all_let.Given as goal

abbrev pub invariant-loop-row : goal.invariant-loop-row
invariant-loop-row g l =
    let a = g.N.Scalar.arithmetic in
    let t = g.N.Scalar.meaning l.time in
    record { left : IsRest (flow_rows_truth a l.rows l.from t l.to) (flow_rows_truth a (drop l.row-index l.rows) l.from t l.to); wide : AllWide (length l.from) l.rows }
