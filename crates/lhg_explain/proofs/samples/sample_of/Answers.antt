use Rattle.std.proofs.Common.{◌≡◌, length, None, sym, ap, ◌∙◌, subst}
use Rattle.std.specs.Prelude.{option_map}
use Rattle.lhg_num.specs.FracArithmetic.{frac_arithmetic}
use Rattle.lhg_row.specs.Constant.{varies}
use Rattle.lhg_row.specs.Members.{all-filter}
use Rattle.lhg_row.specs.Pieces.{make}
use Rattle.lhg_row.specs.Row.{PlainRow}
use Rattle.lhg_row.specs.Piece.{PlainPiece}
use Rattle.lhg_row.specs.Width.{AllWide}
use Rattle.lhg_explain.proofs.SamplePoints.{sample_of-made}
use Rattle.lhg_explain.proofs.samples.sample_of.Goals as goal

pub make-requires : goal.make-requires
make-requires c =
    subst (AllWide c.args.vars) (sym c.in_ok-left.ensures) (all-filter (λ (r : PlainRow). length r.coefs ≡ c.args.vars) varies c.args.rows.items c.requires.wide)

pub unreachable-requires : goal.unreachable-requires
unreachable-requires c =
    let none : (make frac_arithmetic c.args.vars c.in_ok-left.left.items).value ≡ None = sym c.in_ok-made.ensures.calculus ∙ ap (option_map (λ p. p.lines)) c.in-None.is in
    sample_of-made c.args.vars c.args.rows.items c.requires.wide c.requires.point (ap (λ (rs : PlainPiece). (make frac_arithmetic c.args.vars rs).value) (sym c.in_ok-left.ensures) ∙ none)
