use Rattle.std.proofs.Common.{◌≡◌, ◌↔◌, ◌+◌, ◌-◌, ◌∙◌, ap, sym, subst, arith}
use Rattle.lhg_num.specs.Arithmetic.{IsLawful}
use Rattle.lhg_row.specs.Piece.{PlainPiece, InPiece}
use Rattle.lhg_row.specs.System.{PlainSystem, IsSystem}
use Rattle.lhg_row.specs.HasValue.{Completes}
use Rattle.lhg_row.specs.Eliminate.{eliminate_last}
use Rattle.lhg_row.specs.LastLaws.{eliminate_last-exact}
use Rattle.lhg_elim.specs.SystemLaws.{eliminate_last-system}
use Rattle.lhg_elim.proofs.elimination.eliminate_later_plain.Goals as goal

pub of-requires : goal.of-requires
of-requires g c =
    let a = g.N.Scalar.arithmetic in
    let laws : IsLawful a = g.met.N.Scalar.lawful in
    let s = c.args.sys.now in
    let keep = c.args.keep in
    let all : s.width ≡ keep + (s.width - keep) = omega (arith, c.requires) in
    let is : c.in_ok-left.left.items ≡ (eliminate_last a keep (s.width - keep) s.lines).value =
    c.in_ok-left.ensures ∙ ap (λ n. (eliminate_last a keep (n - keep) c.in_ok-rows.rows.items).value) c.vars.ensures ∙ ap (λ (rs : PlainPiece). (eliminate_last a keep (s.width - keep) rs).value) (c.in_ok-rows.ensures ∙ c.rows.ensures.rows) in
    subst (IsSystem a keep) (sym is) (eliminate_last-system a keep (s.width - keep) s.width s.lines laws all c.rows.ensures.trimmed)

pub returns-clause-points : goal.returns-clause-points
returns-clause-points g c =
    let a = g.N.Scalar.arithmetic in
    let laws : IsLawful a = g.met.N.Scalar.lawful in
    let s = c.args.sys.now in
    let keep = c.args.keep in
    let count = s.width - keep in
    let all : s.width ≡ keep + count = omega (arith, c.requires) in
    let is : c.of.result.lines ≡ (eliminate_last a keep count s.lines).value =
    ap (λ (t : PlainSystem). t.lines) c.of.ensures ∙ c.in_ok-left.ensures ∙ ap (λ n. (eliminate_last a keep (n - keep) c.in_ok-rows.rows.items).value) c.vars.ensures
    ∙ ap (λ (rs : PlainPiece). (eliminate_last a keep count rs).value) (c.in_ok-rows.ensures ∙ c.rows.ensures.rows) in
    λ x e. subst (λ (rs : PlainPiece). InPiece rs x ↔ Completes count s.lines x) (sym is) (eliminate_last-exact a keep count s.width s.lines x laws all c.rows.ensures.trimmed.wide e)
