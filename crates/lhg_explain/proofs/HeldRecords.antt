-- What is known of the record with a number, where it holds a state?
use Rattle.std.proofs.Common.{◌≡◌, ◌<◌, ◌-◌, ℕ, zero, suc, List, [], ◌∷◌, length, get_or, slice_get, Option, Some, None, refl, sym, ap, ◌∙◌, subst, arith}
use Rattle.std.specs.Prelude.{Contains}
use Rattle.std.proofs.lemmas.Option.{get_or_from_slice_get}
use Rattle.lhg_row.specs.Row.{PlainPoint}
use Rattle.lhg_row.specs.Piece.{PlainPiece}
use Rattle.lhg_motion.specs.Play.{PlainMove}
use Rattle.lhg_plant.specs.Plant.{PlainPlant, PlainSwitch}
use Rattle.lhg_plant.specs.Proper.{IsProper}
use Rattle.lhg_plant.specs.State.{PlainState, States, IsState}
use Rattle.lhg_plant.specs.Round.{InRound}
use Rattle.lhg_plant.specs.Loss.{PlainCause, by_env, by_leave, by_flow, PlainLoss, InPieceAt, InLoss, IsEarlierLoss}
use Rattle.lhg_plant.specs.Sound.{IsInside, HasFlowThrough, Shows, ShowsFlow, IsSoundBetween}
use Rattle.lhg_loss.proofs.Numbers.{all_contained}
use Rattle.lhg_loss.specs.Explanation.{flows_on, no_loss, loss_at, flow_by, switch_by, next_by}
use Rattle.lhg_loss.specs.ExplainFacts.{IsWideCause, IsWideLoss, AreRecords, IsHeldBy, state_in}
use Rattle.lhg_explain.proofs.RecordSteps.{found-ends}

-- ---- lists
-- a member at a place is one of the list
pub there_listed : {A : Type 0} (xs : List A) (k : ℕ) (x : A) → slice_get xs k ≡ Some x → Contains xs x
there_listed [] k x e = cc
there_listed (y ∷ xs) zero x e = (zero, omega arith, cc)
there_listed (y ∷ xs) (suc k) x e = let t = there_listed xs k x e in (suc t.0, (let l = t.1 in omega arith), t.2)

-- one of the list is a member at a place
pub listed_there : {A : Type 0} (xs : List A) (x : A) (k : ℕ) → k < length xs → get_or xs k x ≡ x → slice_get xs k ≡ Some x
listed_there [] x k l e = absurd (omega arith)
listed_there (y ∷ xs) x zero l e = ap Some e
listed_there (y ∷ xs) x (suc k) l e = listed_there xs x k (omega arith) e

-- ---- records
module _ (a : PlainPlant) (losses : List PlainLoss) (h : AreRecords a losses) where
  -- the record with its number
  pub number_at : (k : ℕ) (r : PlainLoss) → slice_get losses k ≡ Some r → loss_at losses r.number ≡ r
  number_at k r e =
      let c = h.counted k r e in
      let same : k ≡ r.number - 1 = omega arith in
      get_or_from_slice_get losses (r.number - 1) r no_loss (subst (λ j. slice_get losses j ≡ Some r) same e)

  -- a record of the round after i is sound
  pub sound_at : (i k : ℕ) (r : PlainLoss) → slice_get losses k ≡ Some r → r.round ≡ suc i → IsSoundBetween a (InRound a i) (InRound a (suc i)) losses r
  sound_at i k r e q =
      let b = h.sound r (there_listed losses k r e) in
      let same : b.round ≡ i = (let n = b.number in omega arith) in
      subst (λ (j : ℕ). IsSoundBetween a (InRound a j) (InRound a (suc j)) losses r) same b.sound_between

  -- a record is over the plant's variables
  pub wide_at : (k : ℕ) (r : PlainLoss) → slice_get losses k ≡ Some r → IsWideLoss (length a.vars) r
  wide_at k r e = all_contained (IsWideLoss (length a.vars)) losses r h.wide (there_listed losses k r e)

  -- the record to which a sound record flows
  pub earlier_at : (S : States) (r : PlainLoss) (m : ℕ) (through : PlainPiece) → ShowsFlow a S losses r m through → IsEarlierLoss losses m r (loss_at losses m)
  earlier_at S r m through shows =
      let g = shows.is_earlier in
      subst (λ (x : PlainLoss). IsEarlierLoss losses m r x) (sym (ap (loss_at losses) (sym g.number) ∙ number_at g.index shows.earlier g.is_there)) g

  -- and its flows
  pub earlier-flow : (S : States) (r : PlainLoss) (m : ℕ) (through : PlainPiece) (shows : ShowsFlow a S losses r m through) (s : PlainState) → InLoss a r s
      → HasFlowThrough a through (InPieceAt a r.loc (loss_at losses m).piece) s
  earlier-flow S r m through shows s t =
      let g = shows.is_earlier in
      let f = subst (λ (x : PlainLoss). HasFlowThrough a through (InLoss a x) s) (sym (ap (loss_at losses) (sym g.number) ∙ number_at g.index shows.earlier g.is_there)) (shows.flow s t) in
      subst (λ (l : ℕ). HasFlowThrough a through (InPieceAt a l (loss_at losses m).piece) s) (earlier_at S r m through shows).same_loc f

-- what is known of the record with the number m, which holds the state
pub record IsRecordAt (a : PlainPlant) (losses : List PlainLoss) (m : ℕ) (s : PlainState) : Type 0 where
  pub place : ℕ
  pub counted : m ≡ suc place
  pub is_there : slice_get losses place ≡ Some (loss_at losses m)
  pub number : (loss_at losses m).number ≡ m
  pub before : ℕ
  pub round : (loss_at losses m).round ≡ suc before
  pub sound : IsSoundBetween a (InRound a before) (InRound a (suc before)) losses (loss_at losses m)
  pub wide : IsWideLoss (length a.vars) (loss_at losses m)
  pub holds : InLoss a (loss_at losses m) s

record_of : (a : PlainPlant) (losses : List PlainLoss) → AreRecords a losses → (m : ℕ) (s : PlainState) (k : ℕ) (r : PlainLoss) → slice_get losses k ≡ Some r → r.number ≡ m → InLoss a r s → loss_at losses m ≡ r → IsRecordAt a losses m s
record_of a losses h m s k r e n t same =
    let b = h.sound r (there_listed losses k r e) in
    record {
      place = k;
      counted = (let c = h.counted k r e in omega arith);
      is_there = e ∙ ap Some (sym same);
      number = ap (λ (x : PlainLoss). x.number) same ∙ n;
      before = b.round;
      round = ap (λ (x : PlainLoss). x.round) same ∙ b.number;
      sound = subst (λ (x : PlainLoss). IsSoundBetween a (InRound a b.round) (InRound a (suc b.round)) losses x) (sym same) b.sound_between;
      wide = subst (λ (x : PlainLoss). IsWideLoss (length a.vars) x) (sym same) (wide_at a losses h k r e);
      holds = subst (λ (x : PlainLoss). InLoss a x s) (sym same) t;
    }

pub record_at : (a : PlainPlant) (losses : List PlainLoss) → AreRecords a losses → (m : ℕ) (s : PlainState) → IsHeldBy a losses m s → IsRecordAt a losses m s
record_at a losses h m s held =
    let r = held.loss in
    let k = held.listed.0 in
    let e = listed_there losses r k held.listed.1 held.listed.2 in
    record_of a losses h m s k r e held.number held.holds (ap (loss_at losses) (sym held.number) ∙ number_at a losses h k r e)

-- ---- the next record
-- a step by a switch is no flow
switch_no_flow : (n e : ℕ) (x : PlainPoint) (into : PlainPiece) (o : Option PlainSwitch) (move : PlainMove) (m : ℕ) → flows_on move m ≡ (switch_by n e x into o).value → ⊥
switch_no_flow n e x into None move m h = cc
switch_no_flow n e x into (Some w) move m h = cc

-- the record to which the state of a record flows holds the end of the flow, and has a smaller number
pub record IsOnward (a : PlainPlant) (losses : List PlainLoss) (m : ℕ) (move : PlainMove) (next : ℕ) : Type 0 where
  pub smaller : next < m
  pub held : IsHeldBy a losses next (state_in losses next move.to)

module _ (a : PlainPlant) (proper : IsProper a) (losses : List PlainLoss) (h : AreRecords a losses) (m : ℕ) (s : PlainState) (at : IsRecordAt a losses m s) where
  abbrev r : PlainLoss
  r = loss_at losses m

  abbrev S : States
  S = InRound a at.before

  flow_onward : (k : ℕ) (through : PlainPiece) → IsWideCause (length a.vars) (by_flow k through) → ShowsFlow a S losses r k through → IsOnward a losses m (flow_by a r s.at through (loss_at losses k).piece).value k
  flow_onward k through w shows =
      let g = earlier_at a losses h S r k through shows in
      let next = loss_at losses k in
      let round : next.round ≡ suc at.before = g.same_round ∙ at.round in
      let inside = subst (λ (l : ℕ). IsInside a l next.piece) g.same_loc (sound_at a losses h at.before g.index next g.is_there round).inside in
      let ends = found-ends a proper r s at.holds through next.piece at.wide.piece w (wide_at a losses h g.index next g.is_there).piece inside (earlier-flow a losses h S r k through shows s at.holds) in
      record {
        smaller = (let n = at.number in let l = g.smaller in omega arith);
        held = record {
          loss = next;
          listed = there_listed losses g.index next g.is_there;
          number = g.number;
          holds = record { state = subst (λ (l : ℕ). IsState a (record { loc = l; at = (flow_by a r s.at through next.piece).value.to })) (at.holds.here ∙ sym g.same_loc) ends.state; here = refl; inside = ends.inside };
        };
      }

  by_cause : (c : PlainCause) → IsWideCause (length a.vars) c → Shows a S losses r c → (move : PlainMove) (k : ℕ) → flows_on move k ≡ (next_by a losses r s.at c).value → IsOnward a losses m move k
  by_cause (by_env e into) w shows move k is = absurd (switch_no_flow (length a.vars) e s.at into (slice_get a.switches e) move k is)
  by_cause (by_leave through into) w shows move k is = cc
  by_cause (by_flow j through) w shows move k is =
      let same : move ≡ (flow_by a r s.at through (loss_at losses j).piece).value = cc in
      let number : k ≡ j = cc in
      subst (λ (i : ℕ). IsOnward a losses m move i) (sym number) (subst (λ (v : PlainMove). IsOnward a losses m v j) (sym same) (flow_onward j through w shows))

  pub onward_at : (move : PlainMove) (k : ℕ) → flows_on move k ≡ (next_by a losses r s.at r.cause).value → IsOnward a losses m move k
  onward_at move k is = by_cause r.cause at.wide.cause at.sound.shows move k is
