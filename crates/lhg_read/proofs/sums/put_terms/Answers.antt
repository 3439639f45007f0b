use Rattle.std.proofs.Common.{sym, ◌∙◌, ap, arith}
use Rattle.std.specs.Option.{option_and_then}
use Rattle.lhg_read.specs.Collect.{collected}
use Rattle.lhg_read.proofs.SumSteps.{finished, goes_on, refused, term_put, put_as, starts_minus, starts_plain, some_minus}
use Rattle.lhg_read.proofs.sums.put_terms.Goals.{then-minus, else-minus}
use Rattle.lhg_read.proofs.sums.put_terms.Goals as goal

pub loop-term-init : goal.loop-term-init
loop-term-init c = elim c.if-minus.branch [
  | then-minus w ↦
      let e = sym c.begins_with_minus-minus.ensures ∙ w.if-minus.true in
      let some = some_minus c.args.tokens.now e in
      record {
        within = omega (arith, w.at-is, some);
        wide = c.requires.wide;
        left = rw (w.if-minus.true, w.at-is) (starts_minus c.args.form c.args.vars.now c.args.lines.now.bytes c.args.tokens.now c.args.turned _ e);
      }
  | else-minus w ↦
      let e = sym c.begins_with_minus-minus.ensures ∙ w.if-minus.false in
      record {
        within = omega (arith, w.at-is);
        wide = c.requires.wide;
        left = rw (w.if-minus.false, w.at-is) (starts_plain c.args.form c.args.vars.now c.args.lines.now.bytes c.args.tokens.now c.args.turned _ e);
      }
]

pub returns-in_default-clause-put : goal.returns-in_default-clause-put
returns-in_default-clause-put c =
    c.loop-term.invariant.left
    ∙ refused c.args.form c.args.vars.now c.args.lines.now.bytes c.args.tokens.now c.loop-term.at c.before_sign.result c.loop-term.invariant.within c.before_sign.ensures.place
    c.args.turned _ c.loop-term.minus (ap (term_put c.args.turned (collected c.loop-term.sum) c.loop-term.minus) (sym c.in_default.ensures.term))

pub returns-then-not-put-clause-put : goal.returns-then-not-put-clause-put
returns-then-not-put-clause-put c =
    c.loop-term.invariant.left
    ∙ refused c.args.form c.args.vars.now c.args.lines.now.bytes c.args.tokens.now c.loop-term.at c.before_sign.result c.loop-term.invariant.within c.before_sign.ensures.place
    c.args.turned _ c.loop-term.minus
    (put_as c.args.turned _ c.loop-term.minus c.in-Some.term c.signed.result c.signed-in-loop-term.result _ _ c.in-Some.ensures.term c.signed.ensures c.signed-in-loop-term.ensures c.if-not-put.ensures.put)

pub returns-then-end-tokens-clause-put : goal.returns-then-end-tokens-clause-put
returns-then-end-tokens-clause-put c =
    c.loop-term.invariant.left
    ∙ finished c.args.form c.args.vars.now c.args.lines.now.bytes c.args.tokens.now c.loop-term.at c.before_sign.result c.loop-term.invariant.within c.before_sign.ensures.place
    c.args.turned _ c.loop-term.minus c.if-end-tokens.true
    ∙ put_as c.args.turned _ c.loop-term.minus c.in-Some.term c.signed.result c.signed-in-loop-term.result _ _ c.in-Some.ensures.term c.signed.ensures c.signed-in-loop-term.ensures c.if-not-put.ensures.put

pub loop-term-preserved : goal.loop-term-preserved
loop-term-preserved c = record {
  within = omega arith;
  wide = c.if-not-put.ensures.wide ∙ c.loop-term.invariant.wide;
  left = rw c.is_minus-minus.ensures
      (c.loop-term.invariant.left
      ∙ goes_on c.args.form c.args.vars.now c.args.lines.now.bytes c.args.tokens.now c.loop-term.at c.before_sign.result c.loop-term.invariant.within c.before_sign.ensures.place
      c.args.turned _ c.loop-term.minus c.index-tokens-end.result (omega arith) c.index-tokens-end.is
      ∙ ap (option_and_then _) (put_as c.args.turned _ c.loop-term.minus c.in-Some.term c.signed.result c.signed-in-loop-term.result _ _ c.in-Some.ensures.term c.signed.ensures c.signed-in-loop-term.ensures c.if-not-put.ensures.put));
}
