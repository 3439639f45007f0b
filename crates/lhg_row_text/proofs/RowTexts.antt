-- The text of a row, by the place of its first coefficient that is not zero.
use Rattle.std.proofs.Common.{◌≡◌, ◌≤◌, ◌++◌, ℕ, Bool, false, List, length, map, get_or, Some, None, sym, ap, ◌∙◌, not}
use Rattle.std.specs.List.{position}
use Rattle.std.proofs.lemmas.List.{length-map}
use Rattle.lhg_math.specs.Number.{Number, lt, nought}
use Rattle.lhg_math.specs.NumberOrder.{lt_irrefl}
use Rattle.lhg_math.specs.Signs.{is_nought, lead}
use Rattle.lhg_row.specs.Row.{PlainRow}
use Rattle.lhg_row_text.specs.RowText.{row_text, row_text_by, terms_from, operator_text, number_text, turned, leads_negative}
use Rattle.lhg_row_text.proofs.RowTerms.{found_place, no_place, lead-place, lead-none, terms_text-place, terms_from-past, place_of}

-- with a coefficient c that is not zero, the first such, at place k
pub row_text-some : (vars : List (List ℕ)) (r : PlainRow) (k : ℕ) (c : Number) (flip : Bool) → Some k ≡ position (λ x. not (is_nought x)) r.coefs → c ≡ get_or r.coefs k c → flip ≡ lt c nought
    → row_text vars r ≡ terms_from k vars (map (turned flip) r.coefs) ++ (operator_text flip r.strict ++ number_text (turned flip r.bound))
row_text-some vars r k c flip found at is =
    let f = found_place r.coefs k found in
    let leading : lead r.coefs ≡ c = lead-place r.coefs c f.0 ∙ ap (λ m. get_or r.coefs m c) f.1 ∙ sym at in
    let same : leads_negative r ≡ flip = ap (λ x. lt x nought) leading ∙ sym is in
    ap (λ b. row_text_by b vars r) same
    ∙ ap (λ t. t ++ (operator_text flip r.strict ++ number_text (turned flip r.bound))) (terms_text-place flip vars r.coefs ∙ ap (λ m. terms_from m vars (map (turned flip) r.coefs)) f.1)

-- with no such coefficient
pub row_text-none : (vars : List (List ℕ)) (r : PlainRow) → None ≡ position (λ x. not (is_nought x)) r.coefs
    → row_text vars r ≡ operator_text false r.strict ++ number_text (turned false r.bound)
row_text-none vars r none =
    let past = no_place r.coefs none in
    let same : leads_negative r ≡ false = ap (λ x. lt x nought) (lead-none r.coefs past) ∙ lt_irrefl nought in
    let short : length (map (turned false) r.coefs) ≤ place_of r.coefs = simp length-map past in
    ap (λ b. row_text_by b vars r) same
    ∙ ap (λ t. t ++ (operator_text false r.strict ++ number_text (turned false r.bound))) (terms_text-place false vars r.coefs ∙ terms_from-past (place_of r.coefs) vars (map (turned false) r.coefs) short)
