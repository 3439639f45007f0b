use Rattle.std.proofs.Common.{◌<◌, length, arith, subst}
use Rattle.std.proofs.lemmas.Result.{on_ok_weaker}
use Rattle.lhg_row_text.specs.RowText.{jump_names, turned}
use Rattle.lhg_row_text.specs.Short.{IsShort}
use Rattle.lhg_row_text.proofs.Appended.{appended}
use Rattle.lhg_row_text.proofs.Members.{all_from}
use Rattle.lhg_row_text.proofs.RowTerms.{terms_from-at, length-jump_names}
use Rattle.lhg_row_text.proofs.Shorts.{short_turned}
use Rattle.lhg_row_text.proofs.terms.push_terms_from.Goals as goal

pub returns-clause-text : goal.returns-clause-text
returns-clause-text c =
    let names = jump_names c.args.vars.now in
    let size = length-jump_names c.args.vars.now in
    let named : c.args.place < length names = omega (arith, size) in
    appended c.push_next_terms.result _ _ _ _ _ _ c.push_next_terms.ensures.text c.in_ok-push_term.ensures.text
    (terms_from-at (turned c.args.flip) names c.args.coefs.now c.args.place c.index-coefs-place.result c.turned.result named c.requires.there c.index-coefs-place.is c.turned.ensures)

pub returns-clause-short : goal.returns-clause-short
returns-clause-short c =
    let x = c.index-coefs-place.result in
    let first = short_turned c.args.flip x (subst IsShort c.turned.ensures c.in_ok-push_term.ensures.short) in
    on_ok_weaker c.push_next_terms.result (λ more. all_from IsShort c.args.coefs.now c.args.place x c.requires.there c.index-coefs-place.is first more) c.push_next_terms.ensures.short
