use Rattle.std.proofs.Common.{◌≡◌, true, Some, length, sym, ap, ◌∙◌, subst, rules}
use Rattle.std.specs.Prelude.{IfSome, option_map}
use Rattle.std.proofs.lemmas.Result.{IfOk-weaker}
use Rattle.lhg_num.specs.FracArithmetic.{frac_arithmetic}
use Rattle.lhg_row.specs.Piece.{PlainPiece, in_piece}
use Rattle.lhg_row.specs.PieceFacts.{IsMade, IsInclusion}
use Rattle.lhg_row.specs.PieceLemmas.{in_piece_is}
use Rattle.lhg_row.specs.Row.{PlainPoint}
use Rattle.lhg_row.specs.System.{PlainSystem}
use Rattle.lhg_prune.proofs.pruning.is_within.Goals as goal

pub returns-in-Some-2 : goal.returns-in-Some-2
returns-in-Some-2 g c =
    let k = c.args.keep in
    let rows = c.args.rows.now in
    let piece = c.args.piece.now.lines in
    let q = c.in-Some-2.chosen in
    let same : c.in-Some.lines.items ≡ rows = search rules in
    let made : IsMade frac_arithmetic k c.in-Some.lines.items (option_map (λ (p : PlainSystem). p.lines) (Some q)) = subst (λ o. IsMade frac_arithmetic k c.in-Some.lines.items (option_map (λ (p : PlainSystem). p.lines) o)) c.in-Some-2.is c.in_ok-chosen.ensures.points in
    let width : q.width ≡ k = subst (λ o. IfSome o (λ (p : PlainSystem). p.width ≡ k)) c.in-Some-2.is c.in_ok-chosen.ensures.vars in
    IfOk-weaker c.includes.result (IsInclusion q.width piece q.lines) (λ b. b ≡ true → (x : PlainPoint) → length x ≡ k → in_piece rows x ≡ true → in_piece piece x ≡ true)
    (λ b f e x l i.
    let all = subst (IsInclusion q.width piece q.lines) e f in
    let there : in_piece q.lines x ≡ true = made.points x l ∙ ap (λ (rs : PlainPiece). in_piece rs x) same ∙ i in
    (in_piece_is piece x).0 (all x (l ∙ sym width) ((in_piece_is q.lines x).1 there)))
    c.includes.ensures.points
