use Rattle.std.proofs.Common.{◌≡◌, ◌∙◌, [], get_or, length, sym, ap}
use Rattle.lhg_plant.specs.Differ.{is_among}
use Rattle.lhg_ctl.specs.NameLists.{list_of, lists_in}
use Rattle.lhg_ctl.specs.Views.{plain_open, plain_placed}
use Rattle.lhg_ctl.proofs.GuardSteps.{named_step, name_refused}
use Rattle.lhg_ctl.proofs.Listing.{list_total}
use Rattle.lhg_ctl.proofs.open_drafts.OpenDraft.take_named.Goals as goal

pub is_listed-requires : goal.is_listed-requires
is_listed-requires c = ap length c.deref.ensures.value ∙ sym (list_total c.args.self.now.name_lists.items) ∙ c.requires.counted.names.many

pub returns-then-is_listed-clause-step : goal.returns-then-is_listed-clause-step
returns-then-is_listed-clause-step c =
    let old = c.args.self.now in
    let name = c.args.name in
    let among : is_among name old.draft.names.items ≡ c.is_listed.result =
    sym (c.requires.counted.names.each name) ∙ ap (λ ls. is_among name (get_or (lists_in ls) (list_of name) [])) (sym c.deref.ensures.value) ∙ sym c.is_listed.ensures in
    name_refused (plain_open old) name (plain_placed (c.args.place, c.args.rows)) (among ∙ c.if-is_listed.true)

pub returns-clause-step : goal.returns-clause-step
returns-clause-step c =
    let old = c.args.self.now in
    let name = c.args.name in
    let among : is_among name old.draft.names.items ≡ c.is_listed.result =
    sym (c.requires.counted.names.each name) ∙ ap (λ ls. is_among name (get_or (lists_in ls) (list_of name) [])) (sym c.deref.ensures.value) ∙ sym c.is_listed.ensures in
    rw (sym (named_step (plain_open old) name (plain_placed (c.args.place, c.args.rows)) c.requires.version (among ∙ c.if-is_listed.false))) c.push_guard.ensures.pushed
