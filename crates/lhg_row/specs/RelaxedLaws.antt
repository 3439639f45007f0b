-- Where do rows over more variables hold once they are made weak?
use Rattle.std.specs.Prelude.{◌≡◌, ℕ, ◌+◌, ◌++◌, map, length}
use Rattle.std.proofs.Common.{sym, ap, ◌∙◌}
use Rattle.lhg_math.specs.Tests.{all_of}
use Rattle.lhg_row.specs.Row.{PlainPoint, holds_at, relaxed}
use Rattle.lhg_row.specs.Piece.{PlainPiece, in_piece}
use Rattle.lhg_row.specs.Width.{AllWide}
use Rattle.lhg_row.specs.Widened.{widened}
use Rattle.lhg_row.specs.WidenedLaws.{widened-holds, widened-length}
use Rattle.lhg_row.specs.MappedLaws.{in_piece-mapped, mapped-wide}

module _ (before after n : ℕ) (rows : PlainPiece) (wide : AllWide n rows) where
  -- they have so many coefficients more
  pub relaxed_widened-wide : AllWide (before + n + after) (map (λ r. widened before after (relaxed r)) rows)
  relaxed_widened-wide = mapped-wide n (before + n + after) (λ r. widened before after (relaxed r)) (λ r e. widened-length before after (relaxed r) ∙ ap (λ k. before + k + after) e) rows wide

  -- and hold where the weak rows hold at their own variables
  pub relaxed_widened-hold : (x y w : PlainPoint) → length x ≡ before → length y ≡ n → in_piece (map (λ r. widened before after (relaxed r)) rows) (x ++ y ++ w) ≡ all_of (λ r. holds_at (relaxed r) y) rows
  relaxed_widened-hold x y w lx ly = in_piece-mapped n (λ r. widened before after (relaxed r)) (λ r. holds_at (relaxed r) y) (x ++ y ++ w) (λ r e. widened-holds before after (relaxed r) x y w lx (e ∙ sym ly)) rows wide
