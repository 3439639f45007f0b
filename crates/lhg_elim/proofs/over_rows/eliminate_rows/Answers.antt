use Rattle.std.proofs.Common.{◌-◌, sym, subst}
use Rattle.lhg_num.specs.Arithmetic.{IsLawful}
use Rattle.lhg_num.specs.Marked.{and_then, IsRest}
use Rattle.lhg_num.proofs.Halted.{rows_exact, rest_halts_rows, part_halts_rows}
use Rattle.lhg_row.specs.Piece.{PlainPiece}
use Rattle.lhg_row.specs.Width.{AllWide}
use Rattle.lhg_row.specs.HasValue.{IsElimination}
use Rattle.lhg_row.specs.Trim.{counted, trim}
use Rattle.lhg_row.specs.Eliminate.{eliminate}
use Rattle.lhg_row.specs.EliminateLaws.{eliminate-exact}
use Rattle.lhg_elim.proofs.EliminateSteps.{left, has_variable, left-wide, left-part, left-rest}
use Rattle.lhg_elim.proofs.over_rows.eliminate_rows.Goals as goal

pub without-requires : goal.without-requires
without-requires g c = has_variable g.N.Scalar.arithmetic c.args.k c.args.vars c.args.rows.now c.requires.there c.requires.wide

pub returns-in_err-left-clause-list : goal.returns-in_err-left-clause-list
returns-in_err-left-clause-list g c =
    let a = g.N.Scalar.arithmetic in
    let k = c.args.k in
    let rows = c.args.rows.now in
    part_halts_rows c.from_residual.result c.in_err-left.field-0.0 (eliminate a k rows) (λ t. t.lines) (and_then (left a k rows) counted) (λ v. v.items) c.from_residual.ensures.1 c.in_err-left.ensures
    (left-part a k c.args.vars rows c.requires.there c.requires.wide)

pub trim-requires : goal.trim-requires
trim-requires g c =
    subst (AllWide (c.args.vars - 1)) (sym c.in_ok-left.ensures) (left-wide g.N.Scalar.arithmetic c.args.k c.args.vars c.args.rows.now c.requires.there c.requires.wide)

pub returns-clause-list : goal.returns-clause-list
returns-clause-list g c =
    let a = g.N.Scalar.arithmetic in
    let k = c.args.k in
    let rows = c.args.rows.now in
    let more = c.in_ok-left.left.items in
    let rest : IsRest (eliminate a k rows) (trim a more) = subst (λ (rs : PlainPiece). IsRest (eliminate a k rows) (trim a rs)) (sym c.in_ok-left.ensures) (left-rest a k c.args.vars rows c.requires.there c.requires.wide) in
    rest_halts_rows c.trim.result (eliminate a k rows) (trim a more) (λ t. t.lines) rest c.trim.ensures.list

pub returns-clause-points : goal.returns-clause-points
returns-clause-points g c =
    let a = g.N.Scalar.arithmetic in
    let laws : IsLawful a = g.met.N.Scalar.lawful in
    let k = c.args.k in
    let n = c.args.vars in
    let rows = c.args.rows.now in
    let more = c.in_ok-left.left.items in
    let rest : IsRest (eliminate a k rows) (trim a more) = subst (λ (rs : PlainPiece). IsRest (eliminate a k rows) (trim a rs)) (sym c.in_ok-left.ensures) (left-rest a k n rows c.requires.there c.requires.wide) in
    let list = rest_halts_rows c.trim.result (eliminate a k rows) (trim a more) (λ t. t.lines) rest c.trim.ensures.list in
    rows_exact c.trim.result (eliminate a k rows) (λ t. t.lines) (IsElimination n k rows) list (λ x e. eliminate-exact a k n rows x laws c.requires.there (sym e) c.requires.wide)
