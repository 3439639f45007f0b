use Rattle.std.proofs.Common.{◌≡◌, ◌↔◌, ◌+◌, ◌-◌, ◌∙◌, ap, sym, subst, arith}
use Rattle.lhg_num.specs.Arithmetic.{IsLawful}
use Rattle.lhg_row.specs.Piece.{PlainPiece, InPiece}
use Rattle.lhg_row.specs.HasValue.{Completes}
use Rattle.lhg_row.specs.Width.{AllWide}
use Rattle.lhg_row.specs.System.{PlainSystem}
use Rattle.lhg_row.specs.Eliminate.{eliminate_last}
use Rattle.lhg_row.specs.LastLaws.{eliminate_last-exact}
use Rattle.lhg_whole.specs.WholeArithmetic.{whole_arithmetic}
use Rattle.lhg_elim.specs.Alike.{AllAlike}
use Rattle.lhg_elim.specs.Turned.{AllTurned}
use Rattle.lhg_elim.proofs.WholeSteps.{alike-wide, whole_last-back, whole_last-system}
use Rattle.lhg_elim.proofs.by_whole.eliminate_later_whole.Goals as goal

pub eliminate_later-requires-clause-wide : goal.eliminate_later-requires-clause-wide
eliminate_later-requires-clause-wide g c =
    let s = c.args.sys.now in
    let wide = alike-wide g.N.Scalar.arithmetic s.width c.rows-lines.result.now c.in_ok-wholes.wholes.items c.in_ok-wholes.ensures (subst (AllWide s.width) (sym c.rows-lines.ensures.rows) c.rows-lines.ensures.trimmed.wide) in
    subst (λ n. AllWide n c.in_ok-wholes.wholes.items) (sym c.vars-n.ensures) wide

pub of-requires : goal.of-requires
of-requires g c =
    let a = g.N.Scalar.arithmetic in
    let laws : IsLawful a = g.met.N.Scalar.lawful in
    let s = c.args.sys.now in
    let keep = c.args.keep in
    let wholes = c.in_ok-wholes.wholes.items in
    let left = c.in_ok-left.left.items in
    let back = c.in_ok-back.back.items in
    let alike : AllAlike a s.lines wholes = subst (λ (rs : PlainPiece). AllAlike a rs wholes) c.rows-lines.ensures.rows c.in_ok-wholes.ensures in
    let turned : AllTurned a left back = subst (λ (rs : PlainPiece). AllTurned a rs back) c.deref.ensures.value c.in_ok-back.ensures in
    let is : left ≡ (eliminate_last whole_arithmetic keep (s.width - keep) wholes).value = c.in_ok-left.ensures ∙ ap (λ n. (eliminate_last whole_arithmetic keep (n - keep) wholes).value) c.vars-n.ensures in
    whole_last-system a laws s.width s.lines wholes left back c.rows-lines.ensures.trimmed alike turned keep c.requires is

pub returns : goal.returns
returns g c =
    let a = g.N.Scalar.arithmetic in
    let laws : IsLawful a = g.met.N.Scalar.lawful in
    let s = c.args.sys.now in
    let keep = c.args.keep in
    let count = s.width - keep in
    let wholes = c.in_ok-wholes.wholes.items in
    let left = c.in_ok-left.left.items in
    let back = c.in_ok-back.back.items in
    let alike : AllAlike a s.lines wholes = subst (λ (rs : PlainPiece). AllAlike a rs wholes) c.rows-lines.ensures.rows c.in_ok-wholes.ensures in
    let turned : AllTurned a left back = subst (λ (rs : PlainPiece). AllTurned a rs back) c.deref.ensures.value c.in_ok-back.ensures in
    let is : left ≡ (eliminate_last whole_arithmetic keep count wholes).value = c.in_ok-left.ensures ∙ ap (λ n. (eliminate_last whole_arithmetic keep (n - keep) wholes).value) c.vars-n.ensures in
    let list : c.of.result.lines ≡ (eliminate_last a keep count s.lines).value =
    ap (λ (t : PlainSystem). t.lines) c.of.ensures ∙ whole_last-back a laws s.width s.lines wholes left back c.rows-lines.ensures.trimmed alike turned keep c.requires is in
    let all : s.width ≡ keep + count = omega (arith, c.requires) in
    record {
      list = list;
      width = ap (λ (t : PlainSystem). t.width) c.of.ensures;
      points = λ x e. subst (λ (rs : PlainPiece). InPiece rs x ↔ Completes count s.lines x) (sym list) (eliminate_last-exact a keep count s.width s.lines x laws all c.rows-lines.ensures.trimmed.wide e);
    }
