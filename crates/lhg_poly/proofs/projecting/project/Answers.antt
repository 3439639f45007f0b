use Rattle.std.proofs.Common.{◌≡◌, ◌-◌, true, false, sym, ◌∙◌, subst}
use Rattle.std.specs.Prelude.{option_map, unwrap_or}
use Rattle.std.proofs.lemmas.Result.{IfOk-weaker}
use Rattle.lhg_row.specs.Width.{AllWide}
use Rattle.lhg_row.specs.HasValue.{IsLastElimination}
use Rattle.lhg_row.specs.PieceFacts.{IsMade, IsProjection}
use Rattle.lhg_row.specs.ProjectLaws.{projected}
use Rattle.lhg_row.specs.HasValue.{IsEmptiness}
use Rattle.lhg_row.specs.ProjectLaws.{project-exact}
use Rattle.lhg_poly.proofs.AskSteps.{none-known, none_projected}
use Rattle.lhg_poly.proofs.projecting.project.Goals as goal

pub make-requires : goal.make-requires
make-requires g c =
    let l = c.in_ok-left.left in
    subst (AllWide c.args.keep) (sym c.into_rows.ensures.rows) (subst (λ n. AllWide n l.lines) c.in_ok-left.ensures.width c.into_rows.ensures.trimmed.wide)

pub returns-clause-points : goal.returns-clause-points
returns-clause-points g c =
    let a = g.N.Scalar.arithmetic in
    let s = c.args.sys.now in
    let keep = c.args.keep in
    let count = s.width - keep in
    let rows = c.into_rows.result.items in
    let same : IsLastElimination keep count s.lines rows = subst (IsLastElimination keep count s.lines) (sym c.into_rows.ensures.rows) c.in_ok-left.ensures.points in
    IfOk-weaker c.make.result (λ o. IsMade a keep rows (option_map (λ p. p.lines) o)) (λ o. IsProjection a keep count s.lines (option_map (λ p. p.lines) o))
    (λ o f. projected a keep count s.lines rows (option_map (λ p. p.lines) o) same f) c.make.ensures.points

pub returns-then-none-clause-calculus : goal.returns-then-none-clause-calculus
returns-then-none-clause-calculus g c =
    let s = c.args.sys.now in
    let e : unwrap_or c.in_ok-known.known false ≡ true = sym c.unwrap_or-none.ensures ∙ c.if-none.true in
    let none = none-known c.vars.result c.rows.result.now c.in_ok-known.known c.in_ok-known.ensures.points e in
    let here : IsEmptiness s.width s.lines true = subst (λ rs. IsEmptiness s.width rs true) c.rows.ensures.rows (subst (λ n. IsEmptiness n c.rows.result.now true) c.vars.ensures none) in
    none_projected g.N.Scalar.arithmetic s.width s.lines g.met.N.Scalar.lawful c.rows.ensures.trimmed.wide c.args.keep c.requires here

pub returns-then-none-clause-points : goal.returns-then-none-clause-points
returns-then-none-clause-points g c =
    let a = g.N.Scalar.arithmetic in
    let s = c.args.sys.now in
    let e : unwrap_or c.in_ok-known.known false ≡ true = sym c.unwrap_or-none.ensures ∙ c.if-none.true in
    let none = none-known c.vars.result c.rows.result.now c.in_ok-known.known c.in_ok-known.ensures.points e in
    let here : IsEmptiness s.width s.lines true = subst (λ rs. IsEmptiness s.width rs true) c.rows.ensures.rows (subst (λ n. IsEmptiness n c.rows.result.now true) c.vars.ensures none) in
    let w = c.rows.ensures.trimmed.wide in
    subst (IsProjection a c.args.keep (s.width - c.args.keep) s.lines) (sym (none_projected a s.width s.lines g.met.N.Scalar.lawful w c.args.keep c.requires here)) (project-exact a s.width c.args.keep s.lines g.met.N.Scalar.lawful c.requires w)
