use Rattle.std.proofs.Common.{◌<◌, length, arith, subst}
use Rattle.lhg_row_text.specs.RowText.{jump_names, turned}
use Rattle.lhg_row_text.specs.Short.{IsShort}
use Rattle.lhg_row_text.proofs.Appended.{stepped, finished}
use Rattle.lhg_row_text.proofs.Members.{all_from}
use Rattle.lhg_row_text.proofs.RowTerms.{next_terms-from, next_terms-past, length-jump_names}
use Rattle.lhg_row_text.proofs.Shorts.{short_turned}
use Rattle.lhg_row_text.proofs.terms.push_next_terms.Goals as goal

pub loop-i-preserved : goal.loop-i-preserved
loop-i-preserved c =
    let i = c.loop-i.i in
    let x = c.index-coefs-i.result in
    let names = jump_names c.args.vars.now in
    let coefs = c.args.coefs.now in
    let size = length-jump_names c.args.vars.now in
    let named : i < length names = omega (arith, size) in
    let step = next_terms-from (turned c.args.flip) names coefs i x c.turned.result named c.loop-i-test.true c.index-coefs-i.is c.turned.ensures in
    record {
      text = stepped _ _ _ _ _ _ c.in_ok-push_next_term.ensures.text step c.loop-i.invariant.text;
      short = λ more. c.loop-i.invariant.short (all_from IsShort coefs i x c.loop-i-test.true c.index-coefs-i.is (short_turned c.args.flip x (subst IsShort c.turned.ensures c.in_ok-push_next_term.ensures.short)) more);
    }

pub returns-clause-text : goal.returns-clause-text
returns-clause-text c = finished _ _ _ (next_terms-past (turned c.args.flip) (jump_names c.args.vars.now) c.args.coefs.now c.loop-i.i (omega arith)) c.loop-i.invariant.text
