use Rattle.std.proofs.Common.{rules, FitsSigned}
use Rattle.std.proofs.lemmas.Result.{on_ok_weaker}
use mir.Syntax.{w128}
use Rattle.lhg_row_text.proofs.Shorts.{short_top}
use Rattle.lhg_row_text.proofs.numbers.push_size.Goals as goal

pub returns-clause-short : goal.returns-clause-short
returns-clause-short c =
    let fits : FitsSigned w128 c.numer.result = search rules in
    on_ok_weaker c.push_denominator.result (λ bottom. record { top = short_top c.args.x.now c.numer.result fits c.numer.ensures.value c.requires; bottom = bottom }) c.push_denominator.ensures.short
