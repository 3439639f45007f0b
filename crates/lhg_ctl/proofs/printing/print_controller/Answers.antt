use Rattle.std.proofs.Common.{◌++◌, sym, ap, ◌∙◌, subst}
use Rattle.lhg_lex.specs.Lines.{lines_of}
use Rattle.lhg_plant.specs.Views.{plain_plant}
use Rattle.lhg_ctl.specs.ControllerGrammar.{IsControllerText}
use Rattle.lhg_ctl.specs.ControllerText.{controller_text}
use Rattle.lhg_ctl.specs.Draft.{draft_of}
use Rattle.lhg_ctl.specs.Views.{plain_controller}
use Rattle.lhg_ctl.proofs.NamedSteps.{same_count}
use Rattle.lhg_ctl.proofs.PrintedControllers.{controller_reads}
use Rattle.lhg_ctl.proofs.printing.print_controller.Goals as goal

pub returns-clause-reads_back : goal.returns-clause-reads_back
returns-clause-reads_back c = λ short.
    let a = plain_plant c.args.plant.now in
    let k = plain_controller c.args.controller.now in
    let written = c.in_ok-push_controller.ensures.written in
    let text = c.in_ok-push_controller.ensures.text ∙ ap (λ w. w ++ controller_text a k) c.new-text.ensures.items in
    subst (λ bytes. IsControllerText a (lines_of bytes) (draft_of k)) (sym text)
    (controller_reads a k c.args.plant.now.proper
    (record {
      locs = same_count c.args.controller.now.region.pieces.items ∙ c.requires.locs;
      switches = same_count c.args.controller.now.guards.items ∙ c.requires.switches;
      region = written.region;
      guards = written.guards;
    })
    c.requires.ctl short)
