use Rattle.std.proofs.Common.{◌≡◌, get_or, sym, ap, ◌∙◌, rules}
use Rattle.std.proofs.lemmas.List.{get_or_default}
use Rattle.std.proofs.lemmas.Result.{on_ok_weaker}
use Rattle.lhg_math.specs.Number.{lt, nought}
use Rattle.lhg_row_text.specs.RowText.{jump_names, turned}
use Rattle.lhg_row_text.proofs.Appended.{appended, appended_as}
use Rattle.lhg_row_text.proofs.RowTexts.{row_text-some, row_text-none}
use Rattle.lhg_row_text.proofs.Shorts.{unsigned_turned, short_found, short_nowhere}
use Rattle.lhg_row_text.proofs.rows.push_parts.Goals as goal

pub push_terms_from-requires-clause-unsigned : goal.push_terms_from-requires-clause-unsigned
push_terms_from-requires-clause-unsigned c =
    let c0 = c.index-coefs-place.result in
    let at : get_or c.args.coefs.now c.in-Some.place nought ≡ c0 = get_or_default c.args.coefs.now c.in-Some.place nought c0 (search rules) ∙ sym c.index-coefs-place.is in
    ap (λ x. lt (turned c.is_negative-flip.result x) nought) at ∙ unsigned_turned c.is_negative-flip.result c0 c.is_negative-flip.ensures

pub returns-in-None-clause-text : goal.returns-in-None-clause-text
returns-in-None-clause-text c =
    appended_as _ _ _ _ _ c.push_bound.ensures.text (row_text-none (jump_names c.args.vars.now) (record { coefs = c.args.coefs.now; strict = c.args.strict; bound = c.args.bound.now }) c.in-None.ensures)

pub returns-in-None-clause-coefs : goal.returns-in-None-clause-coefs
returns-in-None-clause-coefs c = on_ok_weaker c.push_bound.result (λ h. short_nowhere c.args.coefs.now c.in-None.ensures) c.push_bound.ensures.short

pub returns-in_ok-push_terms_from-in-Some-clause-text : goal.returns-in_ok-push_terms_from-in-Some-clause-text
returns-in_ok-push_terms_from-in-Some-clause-text c =
    appended _ _ _ _ _ _ _ c.push_bound-in-Some.ensures.text c.in_ok-push_terms_from-in-Some.ensures.text
    (row_text-some (jump_names c.args.vars.now) (record { coefs = c.args.coefs.now; strict = c.args.strict; bound = c.args.bound.now }) c.in-Some.place c.index-coefs-place.result c.is_negative-flip.result c.in-Some.ensures c.index-coefs-place.is c.is_negative-flip.ensures)

pub returns-in_ok-push_terms_from-in-Some-clause-coefs : goal.returns-in_ok-push_terms_from-in-Some-clause-coefs
returns-in_ok-push_terms_from-in-Some-clause-coefs c =
    on_ok_weaker c.push_bound-in-Some.result (λ h. short_found c.args.coefs.now c.in-Some.place c.in-Some.ensures c.in_ok-push_terms_from-in-Some.ensures.short) c.push_bound-in-Some.ensures.short
