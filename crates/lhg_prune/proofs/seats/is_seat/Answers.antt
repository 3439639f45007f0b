use Rattle.std.proofs.Common.{◌≡◌, ◌+◌, true, None, map, sym, ap, ◌∙◌, subst}
use Rattle.std.proofs.lemmas.Result.{IfOk-weaker}
use Rattle.lhg_math.specs.Tests.{AllOf}
use Rattle.lhg_row.specs.Row.{PlainRow, relaxed}
use Rattle.lhg_row.specs.Piece.{PlainPiece, in_piece}
use Rattle.lhg_row.specs.Width.{AllWide}
use Rattle.lhg_row.specs.MappedLaws.{mapped-wide}
use Rattle.lhg_row.specs.Eliminate.{without}
use Rattle.lhg_prune.specs.Directions.{is_wanted}
use Rattle.lhg_prune.specs.Seat.{IsSeat}
use Rattle.lhg_prune.proofs.ListSteps.{relaxed-hold}
use Rattle.lhg_prune.proofs.seats.is_seat.Goals as goal

pub all_hold-requires : goal.all_hold-requires
all_hold-requires g c =
    let n = c.args.keep + 1 in
    subst (λ k. AllWide k c.args.weak.now) (sym c.requires.point) (subst (AllWide n) (sym c.requires.weak) (mapped-wide n n relaxed (λ r e. e) c.args.rows.now c.requires.wide))

pub returns : goal.returns
returns g c =
    let a = g.N.Scalar.arithmetic in
    let k = c.args.keep in
    let rows = c.args.rows.now in
    let z = c.args.point.now in
    let wanted = c.args.wanted.now in
    let firm = c.in_ok-firm.firm.items in
    let made : c.deref-2.result.now ≡ (without a k firm None).value =
    c.deref-2.ensures.value ∙ c.in_ok-made.ensures.list ∙ ap (λ (rs : PlainPiece). (without a k rs None).value) c.deref.ensures.value in
    let inside : in_piece (map relaxed rows) z ≡ true = sym (ap (λ (rs : PlainPiece). in_piece rs z) c.requires.weak) ∙ sym c.in_ok-inside.ensures.exact ∙ c.if-not-inside.false in
    IfOk-weaker c.are_wanted.result (λ b. b ≡ true → AllOf (λ (r : PlainRow). is_wanted a wanted r ≡ true) c.deref-2.result.now) (λ b. b ≡ true → IsSeat a k rows (is_wanted a wanted) z)
    (λ b f e. record {
      wide = c.requires.point;
      weak = relaxed-hold rows z inside;
      firm = firm;
      told = c.in_ok-firm.ensures.told;
      made = subst (AllOf (λ (r : PlainRow). is_wanted a wanted r ≡ true)) made (f e);
    })
    c.are_wanted.ensures
