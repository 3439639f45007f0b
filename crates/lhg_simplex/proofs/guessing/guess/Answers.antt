use Rattle.std.proofs.Common.{◌∙◌, sym, ap}
use Rattle.lhg_simplex.specs.Boxes.{are_boxed}
use Rattle.lhg_simplex.proofs.BoxSteps.{none-promised}
use Rattle.lhg_simplex.proofs.guessing.guess.Goals as goal

pub returns-then-not-are_boxed-clause-promise : goal.returns-then-not-are_boxed-clause-promise
returns-then-not-are_boxed-clause-promise c =
    none-promised c.args.sys.now.width c.args.sys.now.lines c.guess_rows.result (ap are_boxed (sym c.rows-rows.ensures.rows) ∙ sym c.are_boxed.ensures ∙ c.if-not-are_boxed.true)
