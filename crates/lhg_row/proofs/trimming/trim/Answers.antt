use Rattle.std.proofs.Common.{◌≡◌, ◌<◌, ◌∙◌, length, vec_len, ap, subst, sym, arith}
use Rattle.lhg_num.specs.Arithmetic.{IsLawful}
use Rattle.lhg_num.specs.Marked.{each}
use Rattle.lhg_num.specs.MarkedLaws.{IsPart}
use Rattle.lhg_num.specs.PartLaws.{rest_is_part}
use Rattle.lhg_num.proofs.Halted.{rows_on_wide}
use Rattle.lhg_row.specs.Piece.{PlainPiece, in_piece}
use Rattle.lhg_row.specs.System.{PlainSystem}
use Rattle.lhg_row.specs.Width.{AllWide}
use Rattle.lhg_row.specs.Trim.{row_limit, canon, settled, trim, IsTrimmed}
use Rattle.lhg_row.specs.TrimLaws.{trim-holds}
use Rattle.lhg_row.specs.TrimmedLaws.{trim-trimmed}
use Rattle.lhg_row.specs.WidthLaws.{canons-wide, trim-wide}
use Rattle.lhg_row.proofs.TrimSteps.{trim-long, trim-canons_part, trim-settled_rest}
use Rattle.lhg_row.proofs.trimming.trim.Goals as goal

pub returns-then-len-gt-ROW_LIMIT-clause-list : goal.returns-then-len-gt-ROW_LIMIT-clause-list
returns-then-len-gt-ROW_LIMIT-clause-list g c =
    let n : vec_len c.args.rows ≡ length c.args.rows.items = c.args.rows.ok.0 in
    let long : row_limit < length c.args.rows.items = omega arith in
    trim-long g.N.Scalar.arithmetic c.args.rows.items long

pub returns-in_err-scaled-clause-list : goal.returns-in_err-scaled-clause-list
returns-in_err-scaled-clause-list g c =
    rows_on_wide c.from_residual.result c.in_err-scaled.field-0.0 _ (λ s. s.lines) _ _ c.from_residual.ensures.1 c.in_err-scaled.ensures (trim-canons_part g.N.Scalar.arithmetic c.args.rows.items)

pub settled-requires : goal.settled-requires
settled-requires g c =
    let a = g.N.Scalar.arithmetic in
    let laws : IsLawful a = g.met.N.Scalar.lawful in
    subst (AllWide c.args.vars) (sym c.in_ok-scaled.ensures) (canons-wide a c.args.vars c.args.rows.items laws c.requires)

pub returns-in_err-kept-clause-list : goal.returns-in_err-kept-clause-list
returns-in_err-kept-clause-list g c =
    let a = g.N.Scalar.arithmetic in
    let part = rest_is_part (trim a c.args.rows.items) (settled a (each (canon a) c.args.rows.items).value) (trim-settled_rest a c.args.rows.items) in
    rows_on_wide c.from_residual-in_err-kept.result c.in_err-kept.field-0.0 _ (λ s. s.lines) _ _ c.from_residual-in_err-kept.ensures.1 c.in_err-kept.ensures
    (subst (λ (rs : PlainPiece). IsPart (trim a c.args.rows.items) (settled a rs)) (sym c.in_ok-scaled.ensures) part)

pub of-requires : goal.of-requires
of-requires g c =
    let a = g.N.Scalar.arithmetic in
    let laws : IsLawful a = g.met.N.Scalar.lawful in
    let is : c.in_ok-kept.kept.items ≡ (trim a c.args.rows.items).value = c.in_ok-kept.ensures ∙ ap (λ rs. (settled a rs).value) c.in_ok-scaled.ensures ∙ (trim-settled_rest a c.args.rows.items).same in
    record {
      wide = subst (AllWide c.args.vars) (sym is) (trim-wide a c.args.vars c.args.rows.items laws c.requires);
      trimmed = subst (IsTrimmed a) (sym is) (trim-trimmed a c.args.rows.items laws);
    }

pub returns-clause-list : goal.returns-clause-list
returns-clause-list g c =
    let a = g.N.Scalar.arithmetic in
    ap (λ (s : PlainSystem). s.lines) c.of.ensures ∙ c.in_ok-kept.ensures ∙ ap (λ rs. (settled a rs).value) c.in_ok-scaled.ensures ∙ (trim-settled_rest a c.args.rows.items).same

pub returns-clause-points : goal.returns-clause-points
returns-clause-points g c =
    let a = g.N.Scalar.arithmetic in
    let laws : IsLawful a = g.met.N.Scalar.lawful in
    let is : c.of.result.lines ≡ (trim a c.args.rows.items).value =
    ap (λ (s : PlainSystem). s.lines) c.of.ensures ∙ c.in_ok-kept.ensures ∙ ap (λ rs. (settled a rs).value) c.in_ok-scaled.ensures ∙ (trim-settled_rest a c.args.rows.items).same in
    λ x. ap (λ rs. in_piece rs x) is ∙ trim-holds a c.args.rows.items x laws
