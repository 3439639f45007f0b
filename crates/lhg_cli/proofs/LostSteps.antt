-- The first record that holds a lost state, the round in which it was removed, and the places of its escape.
use Rattle.std.proofs.Common.{◌≡◌, ◌<◌, ◌≤◌, ◌-◌, ℕ, zero, suc, List, [], ◌∷◌, length, get_or, slice_get, Option, Some, None, inl, inr, refl, sym, ap, ◌∙◌, subst, arith}
use Rattle.std.specs.Prelude.{IsSomeAnd}
use Rattle.lhg_math.specs.Tests.{AllOf}
use Rattle.lhg_row.specs.Row.{PlainPoint}
use Rattle.lhg_row.specs.Piece.{PlainPiece}
use Rattle.lhg_motion.specs.Play.{PlainMove, IsPlay}
use Rattle.lhg_plant.specs.Loss.{PlainLoss, InLoss}
use Rattle.lhg_plant.specs.Plant.{PlainPlant, PlainLocation}
use Rattle.lhg_plant.specs.Round.{InRound, IsRemovedIn}
use Rattle.lhg_plant.specs.State.{PlainState, States}
use Rattle.lhg_plant.specs.declared.states.State.{State}
use Rattle.lhg_loss.specs.Holding.{HoldsState, IsFirstHolding}
use Rattle.lhg_loss.specs.Views.{plain_loss, plain_losses}
use Rattle.lhg_loss.specs.declared.losses.Loss.{Loss}
use Rattle.lhg_iterate.specs.Seeking.{IsLost}
use Rattle.lhg_plant.specs.Explained.{PlainEscape}
use Rattle.lhg_loss.specs.ExplainFacts.{IsHeldBy}
use Rattle.lhg_plant.specs.Explained.{IsLeft, IsExplained}
use Rattle.lhg_play.specs.Views.{plain_last}
use Rattle.lhg_explain.proofs.HeldRecords.{there_listed}
use Rattle.lhg_text.specs.EscapeText.{plain_exit, IsFittingMove, IsPlacedExit}
use Rattle.lhg_text.proofs.RecordPlaces.{there}
use Rattle.lhg_cli.proofs.Placed.{round_state, placed_state}

-- ---- the record
-- a record of the list with this number holds the state
pub record IsHolder (z : PlainState) (losses : List PlainLoss) (m : ℕ) : Type 0 where
  pub place : ℕ
  pub loss : PlainLoss
  pub is_there : slice_get losses place ≡ Some loss
  pub holds : HoldsState loss z
  pub number : loss.number ≡ m

pub holder : (z : PlainState) (losses : List PlainLoss) (m : ℕ) → IsFirstHolding z losses (Some m) → IsHolder z losses m
holder z [] m h = absurd cc
holder z (r ∷ losses) m (inl h) = let e = h.1 in record { place = 0; loss = r; is_there = refl; holds = h.0; number = cc }
holder z (r ∷ losses) m (inr h) =
    let k = holder z losses m h.1 in
    record { place = suc k.place; loss = k.loss; is_there = k.is_there; holds = k.holds; number = k.number }

module _ (a : PlainPlant) (budget m : ℕ) (losses : List PlainLoss) (z : PlainState) (h : IsLost a budget m losses z) where
  its : IsHolder z losses m
  its = holder z losses m h.first

  in_loss : InLoss a its.loss z
  in_loss = record { state = round_state a h.removed.round z h.removed.kept; here = sym its.holds.here; inside = its.holds.inside }

  pub lost_held : IsHeldBy a losses m z
  lost_held = record { loss = its.loss; listed = there_listed losses its.place its.loss its.is_there; number = its.number; holds = in_loss }

  -- its number is that of its place
  lost_counted : m ≡ suc its.place
  lost_counted = let c = h.counted its.place its.loss its.is_there in let n = its.number in omega (arith, c, n)

  -- and it names the round in which the state was removed
  lost_round : IsRemovedIn a its.loss.round z
  lost_round =
      let s = h.sound its.loss (there_listed losses its.place its.loss its.is_there) in
      record {
        round = s.round;
        number = s.number;
        kept = s.sound_between.is_true.kept z in_loss;
        gone = subst (λ (i : ℕ). ¬ InRound a i z) (sym s.number) (s.sound_between.is_true.gone z in_loss);
      }

-- the record that the code holds at this place
plain_at : (losses : List Loss) (k : ℕ) (loss : PlainLoss) (d : Loss) → slice_get (plain_losses losses) k ≡ Some loss → loss ≡ plain_loss (get_or losses k d)
plain_at [] k loss d e = absurd cc
plain_at (x ∷ losses) zero loss d e = cc
plain_at (x ∷ losses) (suc k) loss d e = plain_at losses k loss d e

there_below : (losses : List Loss) (k : ℕ) (loss : PlainLoss) → slice_get (plain_losses losses) k ≡ Some loss → k < length losses
there_below [] k loss e = absurd cc
there_below (x ∷ losses) zero loss e = omega arith
there_below (x ∷ losses) (suc k) loss e = let l = there_below losses k loss e in omega (arith, l)

module _ (a : PlainPlant) (budget m : ℕ) (losses : List Loss) (z : PlainState) (h : IsLost a budget m (plain_losses losses) z) where
  pub lost_place : m - 1 < length losses
  lost_place =
      let c = lost_counted a budget m (plain_losses losses) z h in
      let k = its a budget m (plain_losses losses) z h in
      let l = there_below losses k.place k.loss k.is_there in
      omega (arith, c, l)

  pub lost_positive : 1 ≤ m
  lost_positive = let c = lost_counted a budget m (plain_losses losses) z h in omega (arith, c)

  pub lost_removed : (d : Loss) → IsRemovedIn a (get_or losses (m - 1) d).round z
  lost_removed d =
      let k = its a budget m (plain_losses losses) z h in
      let c = lost_counted a budget m (plain_losses losses) z h in
      let place : k.place ≡ m - 1 = omega (arith, c) in
      let same = plain_at losses k.place k.loss d k.is_there in
      subst (λ (i : ℕ). IsRemovedIn a i z) (ap (λ (l : PlainLoss). l.round) same ∙ ap (λ (j : ℕ). (get_or losses j d).round) place) (lost_round a budget m (plain_losses losses) z h)

-- ---- the escape
-- each point of a play has one coordinate per variable
fitting : (a : PlainPlant) (inv flow : PlainPiece) (x : PlainPoint) (moves : List PlainMove) → length x ≡ length a.vars → IsPlay inv flow x moves → AllOf (IsFittingMove a) moves
fitting a inv flow x [] fits h = tt
fitting a inv flow x (m ∷ moves) fits h =
    let here : length m.to ≡ length a.vars = sym h.0.same_length ∙ fits in
    (here, fitting a inv flow m.to moves here h.1)

fitting_at : (a : PlainPlant) (o : Option PlainLocation) (x : PlainPoint) (moves : List PlainMove) → length x ≡ length a.vars → IsSomeAnd o (λ l. IsPlay l.inv l.flow x moves) → AllOf (IsFittingMove a) moves
fitting_at a None x moves fits h = absurd h
fitting_at a (Some l) x moves fits h = fitting a l.inv l.flow x moves fits h

pub escape_moves : (a : PlainPlant) (z : PlainState) (e : PlainEscape) → IsExplained a z e → AllOf (IsFittingMove a) e.way.moves
escape_moves a z e h = fitting_at a (slice_get a.locs z.loc) z.at e.way.moves h.escape.play.start.fits h.escape.play.play

placed_exit : (a : PlainPlant) (S : States) (s : PlainState) (last : Option (ℕ × PlainState)) → IsLeft a S s last → IsPlacedExit a last
placed_exit a S s None h = tt
placed_exit a S s (Some last) h = (there _ a.switches last.0 (slice_get a.switches last.0) refl h.0, placed_state a last.1 h.1.result)

-- the last switch is seen alike by those who explain and by those who print
pub exit_is : (last : Option (ℕ × State)) → plain_last last ≡ plain_exit last
exit_is None = refl
exit_is (Some last) = refl

pub escape_exit : (a : PlainPlant) (z : PlainState) (e : PlainEscape) (last : Option (ℕ × State)) → e.way.last ≡ plain_last last → IsExplained a z e → IsPlacedExit a (plain_exit last)
escape_exit a z e last is h = subst (IsPlacedExit a) (is ∙ exit_is last) (placed_exit a (InRound a h.before) _ e.way.last h.left)
