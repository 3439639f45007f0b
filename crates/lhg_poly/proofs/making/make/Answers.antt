use Rattle.lhg_poly.proofs.AskSteps.{none-known, none_made}
use Rattle.std.proofs.Common.{◌≡◌, true, sym, ◌∙◌, false, subst}
use Rattle.lhg_simplex.specs.Verdict.{IsAnswer}
use Rattle.std.specs.Prelude.{unwrap_or}
use Rattle.lhg_poly.proofs.making.make.Goals as goal

pub returns-then-none-clause-calculus : goal.returns-then-none-clause-calculus
returns-then-none-clause-calculus g c =
    let e : unwrap_or c.in_ok-known.known false ≡ true = sym c.unwrap_or-none.ensures ∙ c.if-none.true in
    none_made g.N.Scalar.arithmetic c.args.vars c.args.rows.items g.met.N.Scalar.lawful c.requires (none-known c.args.vars c.args.rows.items c.in_ok-known.known (subst (λ rs. IsAnswer c.args.vars rs c.in_ok-known.known) c.deref.ensures.value c.in_ok-known.ensures.points) e)

pub returns-then-none-clause-points : goal.returns-then-none-clause-points
returns-then-none-clause-points g c =
    let e : unwrap_or c.in_ok-known.known false ≡ true = sym c.unwrap_or-none.ensures ∙ c.if-none.true in
    none-known c.args.vars c.args.rows.items c.in_ok-known.known (subst (λ rs. IsAnswer c.args.vars rs c.in_ok-known.known) c.deref.ensures.value c.in_ok-known.ensures.points) e
