use Rattle.std.proofs.Common.{◌≡◌, ◌-◌, ◌∙◌, ap, sym, subst, arith}
use Rattle.lhg_num.specs.Arithmetic.{IsLawful}
use Rattle.lhg_row.specs.Piece.{PlainPiece}
use Rattle.lhg_row.specs.HasValue.{IsElimination}
use Rattle.lhg_row.specs.Width.{AllWide}
use Rattle.lhg_row.specs.System.{PlainSystem, IsSystem}
use Rattle.lhg_row.specs.Eliminate.{eliminate}
use Rattle.lhg_row.specs.EliminateLaws.{eliminate-exact}
use Rattle.lhg_whole.specs.WholeArithmetic.{whole_arithmetic}
use Rattle.lhg_elim.specs.Alike.{AllAlike}
use Rattle.lhg_elim.specs.Turned.{AllTurned}
use Rattle.lhg_elim.proofs.WholeSteps.{alike-wide, whole-back, whole-system}
use Rattle.lhg_elim.proofs.by_whole.eliminate_whole.Goals as goal

pub eliminate_rows-requires-clause-wide : goal.eliminate_rows-requires-clause-wide
eliminate_rows-requires-clause-wide g c =
    let s = c.args.sys.now in
    let wide = alike-wide g.N.Scalar.arithmetic s.width c.rows-lines.result.now c.in_ok-wholes.wholes.items c.in_ok-wholes.ensures (subst (AllWide s.width) (sym c.rows-lines.ensures.rows) c.rows-lines.ensures.trimmed.wide) in
    subst (λ n. AllWide n c.deref.result.now) (sym c.vars-n.ensures) (subst (AllWide s.width) (sym c.deref.ensures.value) wide)

pub of-requires : goal.of-requires
of-requires g c =
    let a = g.N.Scalar.arithmetic in
    let laws : IsLawful a = g.met.N.Scalar.lawful in
    let s = c.args.sys.now in
    let k = c.args.k in
    let wholes = c.in_ok-wholes.wholes.items in
    let left = c.in_ok-left.left.lines in
    let back = c.in_ok-back.back.items in
    let alike : AllAlike a s.lines wholes = subst (λ (rs : PlainPiece). AllAlike a rs wholes) c.rows-lines.ensures.rows c.in_ok-wholes.ensures in
    let turned : AllTurned a left back = subst (λ (rs : PlainPiece). AllTurned a rs back) c.rows-shown.ensures.rows c.in_ok-back.ensures in
    let is : left ≡ (eliminate whole_arithmetic k wholes).value = c.in_ok-left.ensures.list ∙ ap (λ (rs : PlainPiece). (eliminate whole_arithmetic k rs).value) c.deref.ensures.value in
    subst (λ n. IsSystem a (n - 1) back) (sym c.vars-n.ensures) (whole-system a laws s.width s.lines wholes left back c.rows-lines.ensures.trimmed alike turned k c.requires is)

pub returns : goal.returns
returns g c =
    let a = g.N.Scalar.arithmetic in
    let laws : IsLawful a = g.met.N.Scalar.lawful in
    let s = c.args.sys.now in
    let k = c.args.k in
    let wholes = c.in_ok-wholes.wholes.items in
    let left = c.in_ok-left.left.lines in
    let back = c.in_ok-back.back.items in
    let alike : AllAlike a s.lines wholes = subst (λ (rs : PlainPiece). AllAlike a rs wholes) c.rows-lines.ensures.rows c.in_ok-wholes.ensures in
    let turned : AllTurned a left back = subst (λ (rs : PlainPiece). AllTurned a rs back) c.rows-shown.ensures.rows c.in_ok-back.ensures in
    let is : left ≡ (eliminate whole_arithmetic k wholes).value = c.in_ok-left.ensures.list ∙ ap (λ (rs : PlainPiece). (eliminate whole_arithmetic k rs).value) c.deref.ensures.value in
    let list : c.of.result.lines ≡ (eliminate a k s.lines).value =
    ap (λ (t : PlainSystem). t.lines) c.of.ensures ∙ whole-back a laws s.width s.lines wholes left back c.rows-lines.ensures.trimmed alike turned k c.requires is in
    record {
      list = list;
      width = let w : c.of.result.width ≡ c.vars-n.result - 1 = ap (λ (t : PlainSystem). t.width) c.of.ensures in omega (arith, c.vars-n.ensures, c.requires);
      points = subst (IsElimination s.width k s.lines) (sym list) (λ x e. eliminate-exact a k s.width s.lines x laws c.requires (sym e) c.rows-lines.ensures.trimmed.wide);
    }
