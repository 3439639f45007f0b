use Rattle.std.proofs.Common.{◌≡◌, ◌++◌, sym, ap, ◌∙◌, subst, codes, true}
use Rattle.std.proofs.lemmas.Result.{on_ok_weaker}
use Rattle.lhg_math.specs.Number.{lt, nought}
use Rattle.lhg_row_text.specs.RowText.{size_text}
use Rattle.lhg_row_text.specs.Short.{IsShort}
use Rattle.lhg_row_text.proofs.Appended.{appended}
use Rattle.lhg_row_text.proofs.Shorts.{short_neg, neg_unsigned, number_text-negative}
use Rattle.lhg_row_text.proofs.numbers.push_number.Goals as goal

pub push_size-requires : goal.push_size-requires
push_size-requires c = ap (λ y. lt y nought) c.neg.ensures ∙ neg_unsigned c.args.x.now (sym c.is_negative.ensures ∙ c.if-is_negative.true)

pub returns-then-is_negative-clause-text : goal.returns-then-is_negative-clause-text
returns-then-is_negative-clause-text c =
    let e : lt c.args.x.now nought ≡ true = sym c.is_negative.ensures ∙ c.if-is_negative.true in
    appended c.push_size.result _ _ _ (codes "-") _ _ c.push_size.ensures.text c.in_ok-extend_from_slice.ensures.items (number_text-negative c.args.x.now e ∙ ap (λ y. codes "-" ++ size_text y) (sym c.neg.ensures))

pub returns-then-is_negative-clause-short : goal.returns-then-is_negative-clause-short
returns-then-is_negative-clause-short c = on_ok_weaker c.push_size.result (λ h. short_neg c.args.x.now (subst IsShort c.neg.ensures h)) c.push_size.ensures.short
