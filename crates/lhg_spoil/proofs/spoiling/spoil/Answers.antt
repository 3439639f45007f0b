use Rattle.std.proofs.Common.{◌≡◌, ◌+◌, ℕ, suc, subst, sym, ap, ◌∙◌, arith}
use Rattle.lhg_plant.specs.Views.{plain_plant, plain_state}
use Rattle.lhg_loss.specs.Views.{plain_losses}
use Rattle.lhg_play.specs.Views.{plain_spoil_steps}
use Rattle.lhg_spoil.specs.declared.stops.Spoiled.{Spoiled}
use Rattle.lhg_spoil.specs.Standing.{IsTurn}
use Rattle.lhg_spoil.specs.Stops.{IsSpoilStop, IsStoppedBefore}
use Rattle.lhg_spoil.specs.Views.{plain_ctl_moves}
use Rattle.lhg_spoil.proofs.SpoilCall.{IsSpoiling, spoiling-begun, spoiling-more, spoiling-won, spoiling-illegal, spoiling-halted, spoiling-bound, start_wide}
use Rattle.lhg_spoil.proofs.spoiling.spoil.Goals as goal

pub returns-in-Err-clause-stop : goal.returns-in-Err-clause-stop
returns-in-Err-clause-stop g c =
    start_wide (plain_plant c.args.plant.now) (plain_losses c.args.losses.now) (g.T.Teller.upto c.args.teller.now) (plain_state c.args.start.now) (plain_ctl_moves c.args.moves.now) c.requires.start c.in-Err.ensures.wide

pub loop-n-init : goal.loop-n-init
loop-n-init g c =
    let p = c.args.plant.now in
    spoiling-begun (plain_plant p) (plain_losses c.args.losses.now) p.proper (g.T.Teller.upto c.args.teller.now) (plain_state c.args.start.now) (plain_ctl_moves c.args.moves.now) c.in_ok-stand.stand c.in_ok-stand.ensures c.requires.start

pub returns-in-Ok-Ended-clause-ok : goal.returns-in-Ok-Ended-clause-ok
returns-in-Ok-Ended-clause-ok g c =
    let p = c.args.plant.now in
    let a = plain_plant p in
    let L = plain_losses c.args.losses.now in
    let start = plain_state c.args.start.now in
    let moves = plain_ctl_moves c.args.moves.now in
    let n = c.loop-n.n in
    let old = c.loop-n.stand in
    let new = c.in-Ok-Ended.next in
    let told = subst (IsTurn a L moves old) c.in-Ok-Ended.field-0-is c.in-Ok-Ended.ensures in
    let count : n + 1 ≡ suc n = omega arith in
    let ending : ℕ → Spoiled = λ (k : ℕ). record { steps = new.steps; last = new.state; exchanges = k } in
    spoiling-won a L p.proper (g.T.Teller.upto c.args.teller.now) start moves n old new c.loop-n.invariant c.requires.start told.0 told.1 c.ended.result (c.ended.ensures ∙ ap ending count)

pub returns-in-Ok-Illegal-clause-stop : goal.returns-in-Ok-Illegal-clause-stop
returns-in-Ok-Illegal-clause-stop g c =
    let p = c.args.plant.now in
    let a = plain_plant p in
    let L = plain_losses c.args.losses.now in
    let start = plain_state c.args.start.now in
    let moves = plain_ctl_moves c.args.moves.now in
    let n = c.loop-n.n in
    let old = c.loop-n.stand in
    let new = c.in-Ok-Illegal.next in
    let told = subst (IsTurn a L moves old) c.in-Ok-Illegal.field-0-is c.in-Ok-Illegal.ensures in
    let count : suc new.answered ≡ new.answered + 1 = omega arith in
    subst (IsSpoilStop a L start moves) (sym c.illegal.ensures)
    (subst (λ (k : ℕ). IsStoppedBefore a L start moves k (plain_spoil_steps new.steps.items)) count
    (spoiling-illegal a L p.proper (g.T.Teller.upto c.args.teller.now) start moves n old new c.loop-n.invariant c.requires.start told))

pub returns-in-Err-take_turn-clause-stop : goal.returns-in-Err-take_turn-clause-stop
returns-in-Err-take_turn-clause-stop g c =
    let p = c.args.plant.now in
    let a = plain_plant p in
    let L = plain_losses c.args.losses.now in
    let moves = plain_ctl_moves c.args.moves.now in
    let n = c.loop-n.n in
    let old = c.loop-n.stand in
    let count : suc n ≡ n + 1 = omega arith in
    spoiling-halted a L p.proper (g.T.Teller.upto c.args.teller.now) (plain_state c.args.start.now) moves n old old c.loop-n.invariant (IsTurn a L moves old) c.in-Err-take_turn.halt (n + 1) count c.stop_at.result c.stop_at.ensures
    c.in-Err-take_turn.ensures

pub loop-n-preserved : goal.loop-n-preserved
loop-n-preserved g c =
    let p = c.args.plant.now in
    let a = plain_plant p in
    let L = plain_losses c.args.losses.now in
    let start = plain_state c.args.start.now in
    let moves = plain_ctl_moves c.args.moves.now in
    let upto = g.T.Teller.upto c.args.teller.now in
    let n = c.loop-n.n in
    let old = c.loop-n.stand in
    let new = c.in-Ok-On.next in
    let told = subst (IsTurn a L moves old) c.in-Ok-On.field-0-is c.in-Ok-On.ensures in
    let count : suc n ≡ n + 1 = omega arith in
    subst (λ (k : ℕ). IsSpoiling a L upto start moves k new) count (spoiling-more a L p.proper upto start moves n old new c.loop-n.invariant told.0 told.1)

pub unreachable-requires : goal.unreachable-requires
unreachable-requires g c =
    let p = c.args.plant.now in
    let a = plain_plant p in
    let L = plain_losses c.args.losses.now in
    let start = plain_state c.args.start.now in
    let upto = g.T.Teller.upto c.args.teller.now in
    let old = c.loop-n.stand in
    let less = spoiling-bound a L p.proper upto start (plain_ctl_moves c.args.moves.now) c.loop-n.n old old c.loop-n.invariant c.in-Ok.round c.requires.start (c.in-Ok.ensures.rank a upto c.requires.start) in
    omega (arith, less, c.loop-n-test.false)
