use Rattle.std.proofs.Common.{◌≡◌, ◌∷◌, [], ◌++◌, length, ◌∙◌, refl, sym, ap, arith, true, false, length-append}
use Rattle.lhg_plant.specs.Differ.{all_differ, is_among}
use Rattle.lhg_plant.specs.Limits.{most_variables}
use Rattle.lhg_read.proofs.VariableSteps.{too_many_now, before_now, named_now, differ_more}
use Rattle.lhg_read.proofs.names.read_variables.Goals as goal

pub returns-then-len-eq-MOST_VARIABLES : goal.returns-then-len-eq-MOST_VARIABLES
returns-then-len-eq-MOST_VARIABLES c =
    let full : length c.loop-token.vars.items ≡ most_variables = omega (arith, c.loop-token.vars.ok.0) in
    c.loop-token.invariant.left
    ∙ too_many_now c.args.lines.now.bytes c.args.tokens.now c.loop-token.token-index c.token-item.result c.loop-token-test.true c.token-item.is c.loop-token.vars.items c.in-Some.name c.in-Some.ensures full

pub returns-then-is_among : goal.returns-then-is_among
returns-then-is_among c =
    let there : is_among c.in-Some.name c.loop-token.vars.items ≡ true = ap (is_among c.in-Some.name) (sym c.deref.ensures.value) ∙ sym c.is_among.ensures ∙ c.if-is_among.true in
    c.loop-token.invariant.left
    ∙ before_now c.args.lines.now.bytes c.args.tokens.now c.loop-token.token-index c.token-item.result c.loop-token-test.true c.token-item.is c.loop-token.vars.items c.in-Some.name c.in-Some.ensures there

pub loop-token-preserved : goal.loop-token-preserved
loop-token-preserved c =
    let items : c.push.new.self.items ≡ c.loop-token.vars.items ++ c.in-Some.name ∷ [] = c.in_ok-push.ensures.items in
    let fresh : is_among c.in-Some.name c.loop-token.vars.items ≡ false = ap (is_among c.in-Some.name) (sym c.deref.ensures.value) ∙ sym c.is_among.ensures ∙ c.if-is_among.false in
    record {
      few = let e = ap length items in let k = length-append c.loop-token.vars.items (c.in-Some.name ∷ []) in omega (arith, e, k, c.loop-token.vars.ok.0);
      differ = ap all_differ items ∙ differ_more c.loop-token.vars.items c.in-Some.name c.loop-token.invariant.differ fresh;
      left =
          c.loop-token.invariant.left
          ∙ named_now c.args.lines.now.bytes c.args.tokens.now c.loop-token.token-index c.token-item.result c.loop-token-test.true c.token-item.is c.loop-token.vars.items c.in-Some.name c.in-Some.ensures
          ∙ rw items refl;
    }
