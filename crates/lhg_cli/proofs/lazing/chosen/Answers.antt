use Rattle.std.proofs.Common.{ap}
use Rattle.lhg_plant.specs.Views.{plain_plant}
use Rattle.lhg_ctl.specs.Views.{plain_controller}
use Rattle.lhg_check.specs.Views.{plain_verdict}
use Rattle.lhg_cli.proofs.LazySteps.{says_valid, cut_told, full_told}
use Rattle.lhg_cli.proofs.lazing.chosen.Goals as goal

pub returns-in-Valid : goal.returns-in-Valid
returns-in-Valid c =
    cut_told (plain_plant c.args.plant.now) (plain_controller c.args.controller.now) (plain_controller c.args.lazy.now) c.requires.made c.requires.candidate c.told.result (c.requires.exact.at_valid.0 (ap plain_verdict c.in-Valid.is)) c.told.ensures.status c.told.ensures.text

pub returns-in_default : goal.returns-in_default
returns-in_default c =
    full_told (plain_plant c.args.plant.now) (plain_controller c.args.controller.now) (plain_controller c.args.lazy.now) c.requires.made c.requires.candidate c.told-in_default.result c.requires.valid
    (λ v. c.in_default.not-Valid (says_valid c.args.verdict.now (c.requires.exact.at_valid.1 v))) c.told-in_default.ensures.status c.told-in_default.ensures.text
