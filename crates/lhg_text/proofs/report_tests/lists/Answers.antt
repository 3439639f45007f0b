use Rattle.std.proofs.Common.{◌∷◌, [], sym, subst, rules}
use Rattle.std.specs.Global.{Vec}
use Rattle.lhg_math.specs.Tests.{AllOf}
use Rattle.lhg_row.specs.Members.{all-append}
use Rattle.lhg_row.specs.System.{PlainSystem}
use Rattle.lhg_union.specs.PolyLists.{AllVars}
use Rattle.lhg_text.proofs.report_tests.lists.Goals as goal

pub loop-i-preserved : goal.loop-i-preserved
loop-i-preserved c =
    let wide : Vec PlainSystem → Type 0 = λ ps. AllVars 1 ps.items in
    record {
      count = search rules;
      vars = subst (AllOf wide) (sym c.in_ok-push.ensures.items) (all-append wide c.loop-i.out.items (c.in_ok-next.next ∷ []) c.loop-i.invariant.vars (c.in_ok-next.ensures, tt));
    }
