use Rattle.lhg_check.proofs.tests.checked.Goals as goal

pub check-requires-clause-inside : goal.check-requires-clause-inside
check-requires-clause-inside c = c.in_ok-controller.ensures.inside.inside

pub controller_of-requires : goal.controller_of-requires
controller_of-requires c = c.in_ok-draft.ensures.given.draft
