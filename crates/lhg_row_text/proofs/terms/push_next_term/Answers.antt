use Rattle.std.proofs.Common.{◌++◌, sym, ap, ◌∙◌, subst, codes, get_or, []}
use Rattle.std.proofs.lemmas.Result.{on_ok_weaker}
use Rattle.lhg_math.specs.Number.{lt, nought}
use Rattle.lhg_row_text.specs.RowText.{jump_names, term_text}
use Rattle.lhg_row_text.specs.Short.{IsShort}
use Rattle.lhg_row_text.proofs.Appended.{appended}
use Rattle.lhg_row_text.proofs.Shorts.{negative_is, neg_unsigned, short_neg, short_equal, next_term-negative}
use Rattle.lhg_row_text.proofs.terms.push_next_term.Goals as goal

pub push_term-requires-clause-unsigned : goal.push_term-requires-clause-unsigned
push_term-requires-clause-unsigned c = ap (λ y. lt y nought) c.neg.ensures ∙ neg_unsigned c.args.coefficient.now (negative_is c.args.coefficient.now c.in-Less.ensures)

pub returns-in-Equal-clause-short : goal.returns-in-Equal-clause-short
returns-in-Equal-clause-short c = short_equal c.args.coefficient.now c.in-Equal.ensures

pub returns-in_ok-extend_from_slice-in-Less-clause-text : goal.returns-in_ok-extend_from_slice-in-Less-clause-text
returns-in_ok-extend_from_slice-in-Less-clause-text c =
    let v = get_or (jump_names c.args.vars.now) c.args.place [] in
    appended c.push_term.result _ _ _ (codes " - ") _ _ c.push_term.ensures.text c.in_ok-extend_from_slice-in-Less.ensures.items
    (next_term-negative c.args.coefficient.now v (negative_is c.args.coefficient.now c.in-Less.ensures) ∙ ap (λ y. codes " - " ++ term_text y v) (sym c.neg.ensures))

pub returns-in_ok-extend_from_slice-in-Less-clause-short : goal.returns-in_ok-extend_from_slice-in-Less-clause-short
returns-in_ok-extend_from_slice-in-Less-clause-short c = on_ok_weaker c.push_term.result (λ h. short_neg c.args.coefficient.now (subst IsShort c.neg.ensures h)) c.push_term.ensures.short
