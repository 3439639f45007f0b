use Rattle.std.proofs.Common.{Some, sym, ap, ◌∙◌, subst}
use Rattle.std.specs.Prelude.{option_map}
use Rattle.lhg_num.proofs.Halted.{part_halts_rows}
use Rattle.lhg_row.specs.System.{PlainSystem}
use Rattle.lhg_row.specs.PieceFacts.{IsMade}
use Rattle.lhg_row.specs.MakeLaws.{make-exact}
use Rattle.lhg_poly.proofs.MakeSteps.{make-trim_part, make-empty_part, make-none, make-thin_part, make-some}
use Rattle.lhg_poly.proofs.AskSteps.{known-is}
use Rattle.lhg_poly.proofs.making.formed.Goals as goal

pub returns-in_err-system-clause-calculus : goal.returns-in_err-system-clause-calculus
returns-in_err-system-clause-calculus g c =
    part_halts_rows c.from_residual.result c.in_err-system.field-0.0 _ (option_map (λ p. p.lines)) _ (λ s. s.lines) c.from_residual.ensures.1 c.in_err-system.ensures.list
    (make-trim_part g.N.Scalar.arithmetic c.args.vars c.args.rows.items)

pub returns-in_err-empty-clause-calculus : goal.returns-in_err-empty-clause-calculus
returns-in_err-empty-clause-calculus g c =
    part_halts_rows c.from_residual-in_err-empty.result c.in_err-empty.field-0.0 _ (option_map (λ p. p.lines)) _ (λ b. b) c.from_residual-in_err-empty.ensures.1 c.in_err-empty.ensures
    (make-empty_part g.N.Scalar.arithmetic c.args.vars c.args.rows.items c.in_ok-system.system.width c.in_ok-system.system.lines c.in_ok-system.ensures.width c.in_ok-system.ensures.list)

pub returns-then-empty-clause-calculus : goal.returns-then-empty-clause-calculus
returns-then-empty-clause-calculus g c =
    make-none g.N.Scalar.arithmetic c.args.vars c.args.rows.items c.in_ok-system.system.width c.in_ok-system.system.lines c.in_ok-system.ensures.width c.in_ok-system.ensures.list
    c.in_ok-empty.empty c.in_ok-empty.ensures c.if-empty.true

pub returns-then-empty-clause-points : goal.returns-then-empty-clause-points
returns-then-empty-clause-points g c =
    let a = g.N.Scalar.arithmetic in
    let n = c.args.vars in
    let rows = c.args.rows.items in
    let none = make-none a n rows c.in_ok-system.system.width c.in_ok-system.system.lines c.in_ok-system.ensures.width c.in_ok-system.ensures.list
    c.in_ok-empty.empty c.in_ok-empty.ensures c.if-empty.true in
    subst (IsMade a n rows) (sym none) (make-exact a n rows g.met.N.Scalar.lawful c.requires.wide)

pub returns-in_err-kept-clause-calculus : goal.returns-in_err-kept-clause-calculus
returns-in_err-kept-clause-calculus g c =
    part_halts_rows c.from_residual-in_err-kept.result c.in_err-kept.field-0.0 _ (option_map (λ p. p.lines)) _ (λ v. v.items) c.from_residual-in_err-kept.ensures.1 c.in_err-kept.ensures
    (make-thin_part g.N.Scalar.arithmetic c.args.vars c.args.rows.items c.in_ok-system.system.width c.in_ok-system.system.lines c.in_ok-system.ensures.width c.in_ok-system.ensures.list
    c.in_ok-empty.empty c.in_ok-empty.ensures c.if-empty.false c.into_rows.result.items (c.into_rows.ensures.rows ∙ c.in_ok-system.ensures.list))

pub of-requires : goal.of-requires
of-requires g c =
    let a = g.N.Scalar.arithmetic in
    let n = c.args.vars in
    let rows = c.args.rows.items in
    let some = make-some a n rows c.in_ok-system.system.width c.in_ok-system.system.lines c.in_ok-system.ensures.width c.in_ok-system.ensures.list
    c.in_ok-empty.empty c.in_ok-empty.ensures c.if-empty.false c.into_rows.result.items (c.into_rows.ensures.rows ∙ c.in_ok-system.ensures.list)
    c.in_ok-kept.kept.items c.in_ok-kept.ensures in
    (subst (IsMade a n rows) (sym some) (make-exact a n rows g.met.N.Scalar.lawful c.requires.wide)).poly

pub returns-clause-calculus : goal.returns-clause-calculus
returns-clause-calculus g c =
    ap (λ (s : PlainSystem). Some s.lines) c.of.ensures
    ∙ make-some g.N.Scalar.arithmetic c.args.vars c.args.rows.items c.in_ok-system.system.width c.in_ok-system.system.lines c.in_ok-system.ensures.width c.in_ok-system.ensures.list
    c.in_ok-empty.empty c.in_ok-empty.ensures c.if-empty.false c.into_rows.result.items (c.into_rows.ensures.rows ∙ c.in_ok-system.ensures.list)
    c.in_ok-kept.kept.items c.in_ok-kept.ensures

pub returns-clause-points : goal.returns-clause-points
returns-clause-points g c =
    let a = g.N.Scalar.arithmetic in
    let n = c.args.vars in
    let rows = c.args.rows.items in
    let some = ap (λ (s : PlainSystem). Some s.lines) c.of.ensures
    ∙ make-some a n rows c.in_ok-system.system.width c.in_ok-system.system.lines c.in_ok-system.ensures.width c.in_ok-system.ensures.list
    c.in_ok-empty.empty c.in_ok-empty.ensures c.if-empty.false c.into_rows.result.items (c.into_rows.ensures.rows ∙ c.in_ok-system.ensures.list)
    c.in_ok-kept.kept.items c.in_ok-kept.ensures in
    subst (IsMade a n rows) (sym some) (make-exact a n rows g.met.N.Scalar.lawful c.requires.wide)

pub emptiness-requires : goal.emptiness-requires
emptiness-requires g c =
    known-is g.N.Scalar.arithmetic c.args.vars c.args.rows.items g.met.N.Scalar.lawful c.requires.wide c.args.known c.requires.known c.in_ok-system.system.width c.in_ok-system.system.lines c.in_ok-system.ensures.width c.in_ok-system.ensures.list
