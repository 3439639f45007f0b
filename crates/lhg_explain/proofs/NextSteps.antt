-- What is known where the code takes a step from a state of a record?
use Rattle.std.proofs.Common.{◌≡◌, ◌-◌, ◌<◌, ◌≤◌, ℕ, zero, suc, List, [], ◌∷◌, length, get_or, slice_get, Some, IsSomeAnd, sym, ap, ◌∙◌, subst, arith}
use Rattle.std.proofs.lemmas.List.{length-map}
use Rattle.std.proofs.lemmas.Option.{get_or_from_slice_get}
use Rattle.lhg_num.specs.Marked.{Marked}
use Rattle.lhg_num.specs.MarkedLaws.{IsPart}
use Rattle.lhg_row.specs.Row.{PlainPoint}
use Rattle.lhg_row.specs.Piece.{PlainPiece}
use Rattle.lhg_row.specs.System.{PlainSystem}
use Rattle.lhg_row.specs.Width.{AllWide}
use Rattle.lhg_motion.specs.Crossing.{HasCrossing}
use Rattle.lhg_union.proofs.ListFacts.{all_at}
use Rattle.lhg_plant.specs.declared.plants.Plant.{Plant}
use Rattle.lhg_plant.specs.Plant.{PlainPlant, PlainSwitch}
use Rattle.lhg_plant.specs.Proper.{IsProper}
use Rattle.lhg_plant.specs.State.{PlainState, States}
use Rattle.lhg_plant.specs.Round.{InRound}
use Rattle.lhg_plant.specs.Loss.{PlainCause, by_env, by_leave, by_flow, PlainLoss, InLoss}
use Rattle.lhg_plant.specs.Sound.{Shows, ShowsEnv, ShowsLeave, ShowsFlow, IsSoundBetween}
use Rattle.lhg_plant.specs.Views.{plain_location, plain_switch, plain_plant}
use Rattle.lhg_plant.proofs.LegalSteps.{image_at}
use Rattle.lhg_plant.proofs.Options.{there_some}
use Rattle.lhg_loss.specs.declared.losses.Cause.{Cause}
use Rattle.lhg_loss.specs.declared.losses.Cause.TheVariants.{Env, Leave, Flow}
use Rattle.lhg_loss.specs.declared.losses.Loss.{Loss}
use Rattle.lhg_loss.specs.Views.{plain_cause, plain_loss, plain_losses, CauseVars, LossVars, AllHaveVars}
use Rattle.lhg_loss.specs.Explanation.{PlainNext, no_loss, loss_at, flow_rows, next_by}
use Rattle.lhg_loss.specs.ExplainFacts.{IsWideCause, IsWideLoss, AreRecords, IsHeldBy, state_in}
use Rattle.lhg_loss.specs.Results.{HasResult, HasResultBy}
use Rattle.lhg_explain.proofs.HeldRecords.{IsRecordAt, record_at, wide_at, earlier_at, earlier-flow}
use Rattle.lhg_explain.proofs.RecordSteps.{crosses, taken, taken-there, known-in}

-- ---- lists
-- a member is at a place below the length
pub there_below : {A : Type 0} (xs : List A) (k : ℕ) (x : A) → slice_get xs k ≡ Some x → k < length xs
there_below [] k x e = cc
there_below (y ∷ xs) zero x e = omega arith
there_below (y ∷ xs) (suc k) x e = let l = there_below xs k x e in omega arith

-- the same of a member with a property
pub some_below : {A : Type 0} (P : A → Type 0) (xs : List A) (k : ℕ) → IsSomeAnd (slice_get xs k) P → k < length xs
some_below P [] k h = absurd h
some_below P (y ∷ xs) zero h = omega arith
some_below P (y ∷ xs) (suc k) h = let l = some_below P xs k h in omega arith

-- ---- the record of a step
-- a sound record over the plant's variables, which holds the point in its location
pub record IsTakenFrom (a : PlainPlant) (losses : List PlainLoss) (l : PlainLoss) (x : PlainPoint) : Type 0 where
  pub before : ℕ
  pub sound : IsSoundBetween a (InRound a before) (InRound a (suc before)) losses l
  pub wide : IsWideLoss (length a.vars) l
  pub holds : InLoss a l (record { loc = l.loc; at = x })

-- the record that the code holds is the one with the number m
pub record IsStepFrom (a : PlainPlant) (losses : List Loss) (m : ℕ) (x : PlainPoint) (loss : Loss) : Type 0 where
  pub below : m - 1 < length losses
  pub same : loss_at (plain_losses losses) m ≡ plain_loss loss
  pub taken_from : IsTakenFrom a (plain_losses losses) (plain_loss loss) x

-- the number is that of a place
pub place_below : (a : PlainPlant) (losses : List Loss) (m : ℕ) (s : PlainState) → IsRecordAt a (plain_losses losses) m s → m - 1 < length losses
place_below a losses m s at =
    let e = at.counted in
    let l = there_below (plain_losses losses) at.place (loss_at (plain_losses losses) m) at.is_there in
    let size = length-map losses plain_loss in
    omega arith

-- the record at the place before its number
pub loss_plain : (losses : List Loss) (m : ℕ) (loss : Loss) → loss ≡ get_or losses (m - 1) loss → m - 1 < length losses → loss_at (plain_losses losses) m ≡ plain_loss loss
loss_plain losses m loss is below = get_or_from_slice_get (plain_losses losses) (m - 1) (plain_loss loss) no_loss (image_at plain_loss losses (m - 1) loss below is)

pub step_from : (a : PlainPlant) (losses : List Loss) (m : ℕ) (x : PlainPoint) (loss : Loss) → AreRecords a (plain_losses losses) → IsHeldBy a (plain_losses losses) m (state_in (plain_losses losses) m x) → loss ≡ get_or losses (m - 1) loss
    → IsStepFrom a losses m x loss
step_from a losses m x loss h held is =
    let L = plain_losses losses in
    let at = record_at a L h m (state_in L m x) held in
    let below = place_below a losses m (state_in L m x) at in
    let same = loss_plain losses m loss is below in
    record {
      below = below;
      same = same;
      taken_from = record {
        before = at.before;
        sound = subst (λ (r : PlainLoss). IsSoundBetween a (InRound a at.before) (InRound a (suc at.before)) L r) same at.sound;
        wide = subst (λ (r : PlainLoss). IsWideLoss (length a.vars) r) same at.wide;
        holds = subst (λ (r : PlainLoss). InLoss a r (record { loc = r.loc; at = x })) same at.holds;
      };
    }

-- its pieces are over the plant's variables
pub vars_at : (n m : ℕ) (losses : List Loss) (loss : Loss) → AllHaveVars n losses → loss ≡ get_or losses (m - 1) loss → m - 1 < length losses → LossVars n loss
vars_at n m losses loss h is below = all_at (LossVars n) losses (m - 1) loss is below h

-- ---- its step
pub next_is : (a : PlainPlant) (losses : List PlainLoss) (m : ℕ) (l : PlainLoss) (x : PlainPoint) (c : PlainCause) → loss_at losses m ≡ l → l.cause ≡ c
    → next_by a losses (loss_at losses m) x (loss_at losses m).cause ≡ next_by a losses l x c
next_is a losses m l x c e f = ap (λ (r : PlainLoss). next_by a losses r x r.cause) e ∙ ap (λ (q : PlainCause). next_by a losses l x q) f

module _ (a : PlainPlant) (proper : IsProper a) (losses : List PlainLoss) (l : PlainLoss) (x : PlainPoint) (t : IsTakenFrom a losses l x) where
  abbrev S : States
  S = InRound a t.before

  abbrev s : PlainState
  s = record { loc = l.loc; at = x }

  -- its location is there
  pub loc_there : l.loc < length a.locs
  loc_there = some_below _ a.locs l.loc t.holds.state.inside

  -- a switch that leads out
  module _ (e : ℕ) (into : PlainPiece) (is : l.cause ≡ by_env e into) where
    abbrev shows : ShowsEnv a S l e into
    shows = subst (λ (c : PlainCause). Shows a S losses l c) is t.sound.shows

    abbrev wi : AllWide (length a.vars) into
    wi = subst (λ (c : PlainCause). IsWideCause (length a.vars) c) is t.wide.cause

    pub switch_there : e < length a.switches
    switch_there = there_below a.switches e (taken a proper S l e into shows wi s t.holds) (taken-there a proper S l e into shows wi s t.holds)

    pub has_result : HasResultBy (slice_get a.switches e) (length x) x into
    has_result =
        let w = taken a proper S l e into shows wi s t.holds in
        let there = taken-there a proper S l e into shows wi s t.holds in
        let result : HasResult (length a.vars) w.jump x into = (_, known-in a proper S l e into shows wi s t.holds) in
        subst (λ k. HasResultBy (slice_get a.switches e) k x into) (sym t.holds.state.fits) (there_some (slice_get a.switches e) w (λ (v : PlainSwitch). HasResult (length a.vars) v.jump x into) there result)

  -- a flow that leads out
  pub crosses_out : (through into : PlainPiece) → l.cause ≡ by_leave through into → HasCrossing l.piece through into (flow_rows (slice_get a.locs l.loc)) x
  crosses_out through into is =
      let shows : ShowsLeave a S l through into = subst (λ (c : PlainCause). Shows a S losses l c) is t.sound.shows in
      let w : AllWide (length a.vars) through × AllWide (length a.vars) into = subst (λ (c : PlainCause). IsWideCause (length a.vars) c) is t.wide.cause in
      crosses a proper l s t.holds through into t.wide.piece w.0 w.1 (shows.flow s t.holds)

  -- a flow to a state of another record
  module _ (h : AreRecords a losses) (m : ℕ) (through : PlainPiece) (is : l.cause ≡ by_flow m through) where
    abbrev flows : ShowsFlow a S losses l m through
    flows = subst (λ (c : PlainCause). Shows a S losses l c) is t.sound.shows

    pub crosses_on : HasCrossing l.piece through (loss_at losses m).piece (flow_rows (slice_get a.locs l.loc)) x
    crosses_on =
        let w : AllWide (length a.vars) through = subst (λ (c : PlainCause). IsWideCause (length a.vars) c) is t.wide.cause in
        let g = earlier_at a losses h S l m through flows in
        crosses a proper l s t.holds through (loss_at losses m).piece t.wide.piece w (wide_at a losses h g.index (loss_at losses m) g.is_there).piece (earlier-flow a losses h S l m through flows s t.holds)

    -- which is one of the list
    pub next_counted : (1 ≤ m) × (m - 1 < length losses)
    next_counted =
        let g = earlier_at a losses h S l m through flows in
        let c = h.counted g.index (loss_at losses m) g.is_there in
        let n = g.number in
        let b = there_below losses g.index (loss_at losses m) g.is_there in
        (omega arith, omega arith)

-- ---- variables of causes
pub env_vars : (n : ℕ) (loss : Loss) (e : ℕ) (into : PlainSystem) → loss.cause ≡ Env e into → LossVars n loss → into.width ≡ n
env_vars n loss e into is h = subst (λ (c : Cause). CauseVars n c) is h.1

pub leave_vars : (n : ℕ) (loss : Loss) (through into : PlainSystem) → loss.cause ≡ Leave through into → LossVars n loss → (through.width ≡ n) × (into.width ≡ n)
leave_vars n loss through into is h = subst (λ (c : Cause). CauseVars n c) is h.1

pub flow_vars : (n : ℕ) (loss : Loss) (m : ℕ) (through : PlainSystem) → loss.cause ≡ Flow m through → LossVars n loss → through.width ≡ n
flow_vars n loss m through is h = subst (λ (c : Cause). CauseVars n c) is h.1

-- ---- what the code knows of the record that it holds
module _ (p : Plant) {losses : List Loss} {m : ℕ} {x : PlainPoint} {loss : Loss} (f : IsStepFrom (plain_plant p) losses m x loss) where
  -- its location is there
  pub step_loc : loss.loc < length p.locs.items
  step_loc =
      let less = loc_there (plain_plant p) p.proper (plain_losses losses) (plain_loss loss) x f.taken_from in
      let size = length-map p.locs.items plain_location in
      omega (arith, less, size)

  -- its pieces are over the plant's variables
  pub step_vars : AllHaveVars (length p.vars.items) losses → loss ≡ get_or losses (m - 1) loss → LossVars (length p.vars.items) loss
  step_vars h is = vars_at (length p.vars.items) m losses loss h is f.below

  -- its step is that of its cause
  module _ (c : PlainCause) (is : (plain_loss loss).cause ≡ c) where
    pub step_part : {B : Type 0} (part : Marked B) → IsPart (next_by (plain_plant p) (plain_losses losses) (plain_loss loss) x c) part
        → IsPart (next_by (plain_plant p) (plain_losses losses) (loss_at (plain_losses losses) m) x (loss_at (plain_losses losses) m).cause) part
    step_part part h = subst (λ w. IsPart w part) (sym (next_is (plain_plant p) (plain_losses losses) m (plain_loss loss) x c f.same is)) h

    pub step_value : (next_by (plain_plant p) (plain_losses losses) (plain_loss loss) x c).value ≡ (next_by (plain_plant p) (plain_losses losses) (loss_at (plain_losses losses) m) x (loss_at (plain_losses losses) m).cause).value
    step_value = sym (ap (λ (w : Marked PlainNext). w.value) (next_is (plain_plant p) (plain_losses losses) m (plain_loss loss) x c f.same is))

  -- where a switch leads out
  module _ (e : ℕ) (into : PlainSystem) (is : loss.cause ≡ Env e into) where
    pub step_switch : e < length p.switches.items
    step_switch =
        let less = switch_there (plain_plant p) p.proper (plain_losses losses) (plain_loss loss) x f.taken_from e into.lines (ap plain_cause is) in
        let size = length-map p.switches.items plain_switch in
        omega (arith, less, size)

    pub step_result : HasResultBy (slice_get (plain_plant p).switches e) (length x) x into.lines
    step_result = has_result (plain_plant p) p.proper (plain_losses losses) (plain_loss loss) x f.taken_from e into.lines (ap plain_cause is)

  -- where a flow leads to a state of another record
  module _ (records : AreRecords (plain_plant p) (plain_losses losses)) (k : ℕ) (through : PlainSystem) (is : loss.cause ≡ Flow k through) where
    pub step_counted : (1 ≤ k) × (k - 1 < length losses)
    step_counted =
        let n = next_counted (plain_plant p) p.proper (plain_losses losses) (plain_loss loss) x f.taken_from records k through.lines (ap plain_cause is) in
        let size = length-map losses plain_loss in
        let low = n.1 in
        (n.0, omega (arith, low, size))

    module _ (further : Loss) (there : further ≡ get_or losses (k - 1) further) where
      pub step_further : loss_at (plain_losses losses) k ≡ plain_loss further
      step_further = loss_plain losses k further there step_counted.1

      pub step_crosses : HasCrossing loss.piece.lines through.lines further.piece.lines (flow_rows (slice_get (plain_plant p).locs loss.loc)) x
      step_crosses =
          subst (λ (q : PlainLoss). HasCrossing loss.piece.lines through.lines q.piece (flow_rows (slice_get (plain_plant p).locs loss.loc)) x) step_further
          (crosses_on (plain_plant p) p.proper (plain_losses losses) (plain_loss loss) x f.taken_from records k through.lines (ap plain_cause is))
