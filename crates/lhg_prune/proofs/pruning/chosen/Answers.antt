use Rattle.std.proofs.Common.{◌≡◌, ◌+◌, ◌-◌, ◌++◌, Some, length, sym, ap, ◌∙◌, subst, rules, arith}
use Rattle.std.specs.Prelude.{IfSome, option_map}
use Rattle.std.proofs.lemmas.List.{length-append}
use Rattle.lhg_num.specs.FracArithmetic.{frac_arithmetic}
use Rattle.lhg_row.specs.Piece.{PlainPiece, InPiece, in_piece}
use Rattle.lhg_row.specs.PieceFacts.{IsMade, IsProjection}
use Rattle.lhg_row.specs.PieceLemmas.{in_piece_is}
use Rattle.lhg_row.specs.HasValue.{HasPoint}
use Rattle.lhg_row.specs.System.{PlainSystem}
use Rattle.lhg_row.specs.Width.{AllWide}
use Rattle.lhg_prune.proofs.ListSteps.{last-value}
use Rattle.lhg_prune.proofs.pruning.chosen.Goals as goal

pub is_within-requires-clause-rows : goal.is_within-requires-clause-rows
is_within-requires-clause-rows g c = subst (AllWide c.args.keep) (sym c.deref-4.ensures.value) c.in_ok-rows.ensures.wide

pub returns : goal.returns
returns g c =
    let k = c.args.keep in
    let before = c.args.before.now in
    let whole = c.in-Some-2.whole in
    let left = c.in-Some-3.left in
    let rows = c.in_ok-rows.rows.items in
    let same : c.in-Some.lines.items ≡ before = search rules in
    let copied : c.in_ok-copies.copies.items ≡ before = c.in_ok-copies.ensures ∙ c.deref.ensures.value ∙ same in
    let made : IsMade frac_arithmetic c.args.vars c.in_ok-copies.copies.items (option_map (λ (p : PlainSystem). p.lines) (Some whole)) =
    subst (λ o. IsMade frac_arithmetic c.args.vars c.in_ok-copies.copies.items (option_map (λ (p : PlainSystem). p.lines) o)) c.in-Some-2.is c.in_ok-whole.ensures.points in
    let width : whole.width ≡ c.args.vars = subst (λ o. IfSome o (λ (p : PlainSystem). p.width ≡ c.args.vars)) c.in-Some-2.is c.in_ok-whole.ensures.vars in
    let shadow : IsProjection frac_arithmetic k (whole.width - k) whole.lines (option_map (λ (p : PlainSystem). p.lines) (Some left)) =
    subst (λ (s : PlainSystem). IsProjection frac_arithmetic k (s.width - k) s.lines (option_map (λ (p : PlainSystem). p.lines) (Some left))) c.system.ensures.system
    (subst (λ o. IsProjection frac_arithmetic k (c.system.result.now.width - k) c.system.result.now.lines (option_map (λ (p : PlainSystem). p.lines) o)) c.in-Some-3.is c.in_ok-left.ensures.points) in
    let one : whole.width - k ≡ 1 = let v = c.requires.vars in omega (arith, width, v) in
    let point = made.poly.point in
    let some : HasPoint (k + 1) before = record {
      point = point.point;
      wide = point.wide ∙ c.requires.vars;
      holds = (in_piece_is before point.point).1 (sym (ap (λ (rs : PlainPiece). in_piece rs point.point) copied) ∙ sym (made.points point.point point.wide) ∙ (in_piece_is whole.lines point.point).0 point.holds);
    } in
    record {
      some = some;
      choice = c.in_ok-rows.ensures.choice;
      points = λ x l i.
          let there = c.in_ok-within.ensures c.if-not-within.false x l (ap (λ (rs : PlainPiece). in_piece rs x) c.deref-4.ensures.value ∙ i) in
          let f = (shadow.points x l).0 ((in_piece_is left.lines x).1 there) in
          let wide : length (x ++ f.later) ≡ c.args.vars = let m = f.many in let v = c.requires.vars in length-append x f.later ∙ omega (arith, l, m, one, v) in
          let inside : InPiece before (x ++ f.later) =
          (in_piece_is before (x ++ f.later)).1 (sym (ap (λ (rs : PlainPiece). in_piece rs (x ++ f.later)) copied) ∙ sym (made.points (x ++ f.later) wide) ∙ (in_piece_is whole.lines (x ++ f.later)).0 f.inside) in
          last-value k before x l (record { later = f.later; many = f.many ∙ one; inside = inside });
    }
