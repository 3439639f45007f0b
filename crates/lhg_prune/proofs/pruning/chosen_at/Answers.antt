use Rattle.std.proofs.Common.{◌≡◌, None, false, take, sym, ap, ◌∙◌, subst, arith}
use Rattle.std.specs.Prelude.{filter}
use Rattle.lhg_math.specs.Tests.{AllOf}
use Rattle.lhg_row.specs.Members.{SomeOf}
use Rattle.lhg_row.specs.Piece.{PlainPiece}
use Rattle.lhg_row.specs.Row.{PlainRow, PlainPoint, holds_at}
use Rattle.lhg_row.specs.Width.{AllWide}
use Rattle.lhg_row.specs.WithoutLaws.{filter-wide}
use Rattle.lhg_row.specs.Trim.{trim}
use Rattle.lhg_row.specs.Eliminate.{without}
use Rattle.lhg_prune.specs.Directions.{is_wanted}
use Rattle.lhg_prune.specs.Seat.{IsSeat}
use Rattle.lhg_prune.specs.Touch.{strictly}
use Rattle.lhg_prune.proofs.ListSteps.{without_none-wide, all-seated}
use Rattle.lhg_prune.proofs.pruning.chosen_at.Goals as goal

pub trim-requires : goal.trim-requires
trim-requires g c =
    let a = g.N.Scalar.arithmetic in
    let k = c.args.keep in
    let wanted = c.in_ok-wanted.wanted.items in
    let all = (without a k c.args.before.now None).value in
    let is : c.in_ok-left.left.items ≡ filter (is_wanted a wanted) all = c.in_ok-left.ensures ∙ ap (λ (ws : PlainPiece). filter (is_wanted a ws) all) c.deref-5.ensures.value in
    subst (AllWide k) (sym is) (filter-wide k (is_wanted a wanted) all (without_none-wide a k k c.args.before.now (omega arith) c.requires.wide))

pub returns-clause-choice : goal.returns-clause-choice
returns-clause-choice g c =
    let a = g.N.Scalar.arithmetic in
    let k = c.args.keep in
    let before = c.args.before.now in
    let points = c.args.points.now in
    let rows = c.into_rows-rows.result.items in
    let wanted = c.in_ok-wanted.wanted.items in
    let all = (without a k before None).value in
    let is : c.in_ok-left.left.items ≡ filter (is_wanted a wanted) all = c.in_ok-left.ensures ∙ ap (λ (ws : PlainPiece). filter (is_wanted a ws) all) c.deref-5.ensures.value in
    let seats = subst (λ (ws : PlainPiece). AllOf (IsSeat a k before (is_wanted a ws)) points) c.deref-4.ensures.value (c.in_ok-seats.ensures c.if-not-seats.false) in
    let tight = subst (λ (rs : PlainPiece). AllOf (λ (r : PlainRow). SomeOf (λ (z : PlainPoint). holds_at (strictly r) (take k z) ≡ false) points) rs) c.deref-6.ensures.value (c.in_ok-tight.ensures c.if-not-tight.false) in
    record {
      wanted = wanted;
      is = c.into_rows-rows.ensures.rows ∙ c.in_ok-system.ensures.list ∙ ap (λ (rs : PlainPiece). (trim a rs).value) is;
      seated = all-seated a k before rows (is_wanted a wanted) points seats tight;
    }
