use Rattle.std.proofs.Common.{◌≡◌, ◌-◌, ℕ, length, get_or, sym, ap, ◌∙◌, subst, arith}
use Rattle.lhg_num.proofs.Halted.{part_halts_rows}
use Rattle.lhg_plant.specs.Loss.{PlainLoss, InLoss}
use Rattle.lhg_plant.specs.Views.{plain_plant, plain_state}
use Rattle.lhg_loss.specs.declared.losses.Loss.{Loss}
use Rattle.lhg_loss.specs.Views.{plain_losses}
use Rattle.lhg_loss.specs.Explanation.{loss_at, way_within, explanation}
use Rattle.lhg_loss.specs.ExplainFacts.{AreRecords}
use Rattle.lhg_plant.specs.Explained.{IsExplained}
use Rattle.lhg_explain.specs.Views.{plain_way}
use Rattle.lhg_play.specs.Views.{plain_escape}
use Rattle.lhg_explain.proofs.Fitting.{explained_fits}
use Rattle.lhg_explain.proofs.HeldRecords.{record_at}
use Rattle.lhg_explain.proofs.NextSteps.{place_below, loss_plain}
use Rattle.lhg_explain.proofs.WaySteps.{escape_of, explanation-part, explanation-value}
use Rattle.lhg_explain.proofs.explaining.explain.Goals as goal

pub way_from-requires-clause-records : goal.way_from-requires-clause-records
way_from-requires-clause-records c = record { counted = c.requires.counted; sound = c.requires.sound; wide = c.tell_losses.ensures (length c.args.plant.now.vars.items) c.requires.vars }

pub way_from-requires-clause-held : goal.way_from-requires-clause-held
way_from-requires-clause-held c =
    let a = plain_plant c.args.plant.now in
    let L = plain_losses c.args.losses.now in
    let z = plain_state c.args.state.now in
    let records : AreRecords a L = record { counted = c.requires.counted; sound = c.requires.sound; wide = c.tell_losses.ensures (length c.args.plant.now.vars.items) c.requires.vars } in
    let held = c.requires.held in
    let at = record_at a L records c.args.number z held in
    record { loss = held.loss; listed = held.listed; number = held.number; holds = subst (λ (l : ℕ). InLoss a held.loss (record { loc = l; at = z.at })) at.holds.here held.holds }

pub returns-in_err-way-clause-calculus : goal.returns-in_err-way-clause-calculus
returns-in_err-way-clause-calculus c =
    let a = plain_plant c.args.plant.now in
    let L = plain_losses c.args.losses.now in
    let z = plain_state c.args.state.now in
    let m = c.args.number in
    part_halts_rows c.from_residual-in_err-way.result c.in_err-way.field-0.0 (explanation a L m z) plain_escape (way_within m a L (loss_at L m) z.at) plain_way c.from_residual-in_err-way.ensures.1 c.in_err-way.ensures
    (explanation-part a L m z)

pub overflow_sub-result : goal.overflow_sub-result
overflow_sub-result c =
    let a = plain_plant c.args.plant.now in
    let L = plain_losses c.args.losses.now in
    let records : AreRecords a L = record { counted = c.requires.counted; sound = c.requires.sound; wide = c.tell_losses.ensures (length c.args.plant.now.vars.items) c.requires.vars } in
    let at = record_at a L records c.args.number (plain_state c.args.state.now) c.requires.held in
    let e = at.counted in
    omega (arith, e)

pub bounds-losses-number : goal.bounds-losses-number
bounds-losses-number c =
    let a = plain_plant c.args.plant.now in
    let L = plain_losses c.args.losses.now in
    let z = plain_state c.args.state.now in
    let records : AreRecords a L = record { counted = c.requires.counted; sound = c.requires.sound; wide = c.tell_losses.ensures (length c.args.plant.now.vars.items) c.requires.vars } in
    place_below a c.args.losses.now c.args.number z (record_at a L records c.args.number z c.requires.held)

pub bounds-losses-number-in_ok-way : goal.bounds-losses-number-in_ok-way
bounds-losses-number-in_ok-way c =
    let a = plain_plant c.args.plant.now in
    let L = plain_losses c.args.losses.now in
    let z = plain_state c.args.state.now in
    let records : AreRecords a L = record { counted = c.requires.counted; sound = c.requires.sound; wide = c.tell_losses.ensures (length c.args.plant.now.vars.items) c.requires.vars } in
    place_below a c.args.losses.now c.args.number z (record_at a L records c.args.number z c.requires.held)

pub returns-clause-calculus : goal.returns-clause-calculus
returns-clause-calculus c =
    let a = plain_plant c.args.plant.now in
    let losses = c.args.losses.now in
    let L = plain_losses losses in
    let z = plain_state c.args.state.now in
    let m = c.args.number in
    let loss = c.index-losses-number.result in
    let records : AreRecords a L = record { counted = c.requires.counted; sound = c.requires.sound; wide = c.tell_losses.ensures (length c.args.plant.now.vars.items) c.requires.vars } in
    let below = place_below a losses m z (record_at a L records m z c.requires.held) in
    let round : (get_or losses (m - 1) loss).round ≡ (loss_at L m).round =
    ap (λ (r : Loss). r.round) (sym c.index-losses-number.is) ∙ sym (ap (λ (r : PlainLoss). r.round) (loss_plain losses m loss c.index-losses-number.is below)) in
    ap (λ k. escape_of k (plain_state c.in_ok-start.start) (plain_way c.in_ok-way.way)) round
    ∙ ap (λ s. escape_of (loss_at L m).round s (plain_way c.in_ok-way.way)) c.in_ok-start.ensures
    ∙ ap (λ w. escape_of (loss_at L m).round z w) c.in_ok-way.ensures
    ∙ sym (explanation-value a L m z)

pub returns-clause-escape : goal.returns-clause-escape
returns-clause-escape c =
    let p = c.args.plant.now in
    let a = plain_plant p in
    let losses = c.args.losses.now in
    let L = plain_losses losses in
    let z = plain_state c.args.state.now in
    let m = c.args.number in
    let loss = c.index-losses-number.result in
    let records : AreRecords a L = record { counted = c.requires.counted; sound = c.requires.sound; wide = c.tell_losses.ensures (length p.vars.items) c.requires.vars } in
    let below = place_below a losses m z (record_at a L records m z c.requires.held) in
    let round : (get_or losses (m - 1) loss).round ≡ (loss_at L m).round =
    ap (λ (r : Loss). r.round) (sym c.index-losses-number.is) ∙ sym (ap (λ (r : PlainLoss). r.round) (loss_plain losses m loss c.index-losses-number.is below)) in
    let same = ap (λ k. escape_of k (plain_state c.in_ok-start.start) (plain_way c.in_ok-way.way)) round
    ∙ ap (λ s. escape_of (loss_at L m).round s (plain_way c.in_ok-way.way)) c.in_ok-start.ensures
    ∙ ap (λ w. escape_of (loss_at L m).round z w) c.in_ok-way.ensures
    ∙ sym (explanation-value a L m z) in
    subst (IsExplained a z) (sym same) (c.law_explain.ensures a p.proper L records m z c.requires.held)

pub returns-clause-fits : goal.returns-clause-fits
returns-clause-fits c = explained_fits (plain_plant c.args.plant.now) (plain_state c.args.state.now) _ (returns-clause-escape c)
