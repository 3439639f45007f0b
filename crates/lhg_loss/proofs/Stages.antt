-- Stages of the iteration are rounds of the game, and the last one solves it.
use Rattle.std.proofs.Common.{◌≡◌, ◌⊎◌, ◌↔◌, ◌<◌, ◌≤◌, ◌+◌, ℕ, zero, suc, true, false, cond, List, [], ◌∷◌, ◌++◌, length, get_or, refl, sym, inl, inr, subst, arith}
use Rattle.std.specs.Prelude.{Contains}
use Rattle.std.proofs.lemmas.List.Elements.{Contains-append_left, Contains-append_right, Contains-append_cases}
use Rattle.lhg_math.specs.Tests.{AllOf, by_bool, false_true}
use Rattle.lhg_num.specs.FracArithmetic.{frac_arithmetic}
use Rattle.lhg_row.specs.Decisions.{nat_decided}
use Rattle.lhg_row.specs.CoveredLaws.{polys-over}
use Rattle.lhg_row.specs.PieceFacts.{IsPoly, AllOver, AllPolys}
use Rattle.lhg_row.specs.SampleLaws.{sample-in}
use Rattle.lhg_row.specs.Piece.{PlainPiece}
use Rattle.lhg_row.specs.Sample.{sample}
use Rattle.lhg_plant.specs.Plant.{PlainPlant}
use Rattle.lhg_plant.specs.Proper.{IsProper}
use Rattle.lhg_plant.specs.State.{PlainState, IsSafe}
use Rattle.lhg_plant.specs.Round.{InRound, IsRemovedIn, RemovesNothing, IsLastRound}
use Rattle.lhg_plant.specs.Region.{PlainRegion, PlainGuards, InRegion}
use Rattle.lhg_plant.specs.Controller.{PlainController}
use Rattle.lhg_plant.specs.Loss.{PlainLoss, InLoss}
use Rattle.lhg_plant.specs.Sound.{IsSoundLoss}
use Rattle.lhg_plant.specs.Solution.{InSomeLoss}
use Rattle.lhg_plant.specs.Inside.{IsRegionInside}
use Rattle.lhg_plant.specs.Laws.{HasExactGuards}
use Rattle.lhg_plant.specs.BackCalculus.{guards}
use Rattle.lhg_plant.proofs.Decided.{region_decided}
use Rattle.lhg_plant.proofs.Picks.{picks_legal}
use Rattle.lhg_plant.proofs.Solutions.{last_solves}
use Rattle.lhg_loss.specs.Records.{PlainRound, pieces_lost}
use Rattle.lhg_loss.specs.Iterate.{PlainStage, PlainSolution, solved, next_round, after_round, none_lost, spent_state, solution_within}
use Rattle.lhg_loss.specs.RoundFacts.{IsRegion, IsExactRound}
use Rattle.lhg_loss.specs.StageFacts.{RemovesSome, AreCounted, IsStage, AreExactRounds, AreExactGuards, IsSolved, IsSpent, IsSolvedWithin}
use Rattle.lhg_loss.proofs.Transfer.{next_same, sound_same, within_left, within_right, sound_within}
use Rattle.lhg_loss.proofs.Numbers.{no_member, numbered_round, numbered_at, split_there}
use Rattle.lhg_loss.proofs.PlaceRound.{polys_at}

-- a region of pieces inside the invariants
pub region_inside : (a : PlainPlant) (region : PlainRegion) → IsRegion a region → IsRegionInside a region
region_inside a region shape = record {
  over = λ l. let n = length a.vars in polys-over frac_arithmetic n (get_or region l []) (polys_at n region l shape.polys);
  inside = shape.inside;
}

-- ---- one round more
module _ (a : PlainPlant) (i : ℕ) (s : PlainStage) (r : PlainRound) (h : IsStage a i s) (e : IsExactRound a s.region (suc i) (length s.losses + 1) r) where
  -- the region is the next round
  pub round_exact : (z : PlainState) → InRegion a r.next z ↔ InRound a (suc i) z
  round_exact z = (
    (λ k. next_same a (InRegion a s.region) (InRound a i) h.exact z ((e.exact z).0 k)),
    (λ k. (e.exact z).1 (next_same a (InRound a i) (InRegion a s.region) (λ w. ((h.exact w).1, (h.exact w).0)) z k)),
  )

  new_sound : (loss : PlainLoss) → Contains r.losses loss → IsSoundLoss a (s.losses ++ r.losses) loss
  new_sound loss c = record {
    round = i;
    number = numbered_round (suc i) (length s.losses + 1) r.losses loss e.numbered c;
    sound_between = sound_within a r.losses (s.losses ++ r.losses) (within_right s.losses r.losses) (InRound a i) (InRound a (suc i)) loss
        (sound_same a (InRegion a s.region) (InRound a i) h.exact (InRegion a r.next) (InRound a (suc i)) r.losses loss (λ z _ k. (round_exact z).1 k) (e.sound loss c));
  }

  old_sound : (loss : PlainLoss) → Contains s.losses loss → IsSoundLoss a (s.losses ++ r.losses) loss
  old_sound loss c =
      let k = h.sound loss c in
      record { round = k.round; number = k.number; sound_between = sound_within a s.losses (s.losses ++ r.losses) (within_left s.losses r.losses) (InRound a k.round) (InRound a (suc k.round)) loss k.sound_between }

  -- all records so far are sound
  all_sound : (loss : PlainLoss) → Contains (s.losses ++ r.losses) loss → IsSoundLoss a (s.losses ++ r.losses) loss
  all_sound loss c = elim (Contains-append_cases s.losses r.losses loss c) [ inl k ↦ old_sound loss k | inr k ↦ new_sound loss k ]

  -- and hold all safe states that are lost
  pub all_lost : (z : PlainState) → IsSafe a z → ¬ InRegion a r.next z → InSomeLoss a (s.losses ++ r.losses) z
  all_lost z safe out =
      elim (region_decided a s.region z) [
        | inl k ↦ (let l = e.lost z k out in (l.0, Contains-append_right s.losses r.losses l.0 l.1, l.2))
        | inr k ↦ (let l = h.lost z safe k in (l.0, Contains-append_left s.losses r.losses l.0 l.1, l.2))
      ]

  -- and are numbered
  all_counted : AreCounted (s.losses ++ r.losses)
  all_counted k loss there =
      elim (split_there s.losses r.losses k loss there) [
        | inl t ↦ h.counted k loss t
        | inr t ↦ (let n = numbered_at (suc i) (length s.losses + 1) r.losses t.0 loss e.numbered t.2 in let p = t.1 in omega arith)
      ]

  -- each point of a record of the round is removed in it
  pub loss_removed : (loss : PlainLoss) → Contains r.losses loss → (z : PlainState) → InLoss a loss z → IsRemovedIn a (suc i) z
  loss_removed loss c z k =
      let b = (e.sound loss c).is_true in
      record { round = i; number = refl; kept = (h.exact z).0 (b.kept z k); gone = λ v. b.gone z k ((round_exact z).1 v) }

-- the sample of the first record is one of its states
sample_lost : (a : PlainPlant) (s : PlainStage) (number first : ℕ) (r : PlainRound) (losses : List PlainLoss) → r.losses ≡ losses → IsExactRound a s.region number first r → none_lost losses ≡ false
    → (loss : PlainLoss) × Contains r.losses loss × InLoss a loss (spent_state a losses).value
sample_lost a s number first r [] same e n = false_true (sym n)
sample_lost a s number first r (x ∷ xs) same e n =
    let polys = subst (λ (w : List PlainLoss). AllOf (IsPoly frac_arithmetic (length a.vars)) (pieces_lost w)) same e.polys in
    let there : Contains r.losses x = subst (λ (w : List PlainLoss). Contains w x) (sym same) (zero, omega arith, refl) in
    let p = sample-in (length a.vars) x.piece polys.0.wide polys.0.point in
    (x, there, record { state = (e.sound x there).inside (sample (length a.vars) x.piece).value p.wide p.inside; here = refl; inside = p.inside })

module _ (a : PlainPlant) (i : ℕ) (s : PlainStage) (r : PlainRound) (h : IsStage a i s) (e : IsExactRound a s.region (suc i) (length s.losses + 1) r) where
  -- a round with a record removes the sample of the first one
  pub sample_removed : none_lost r.losses ≡ false → IsRemovedIn a (suc i) (spent_state a r.losses).value
  sample_removed n = let l = sample_lost a s (suc i) (length s.losses + 1) r r.losses refl e n in loss_removed a i s r h e l.0 l.1 (spent_state a r.losses).value l.2

  -- and its stage is the next one
  pub stage_step : none_lost r.losses ≡ false → IsStage a (suc i) (after_round s r)
  stage_step n = record {
    region_is = e.next_is;
    exact = round_exact a i s r h e;
    counted = all_counted a i s r h e;
    rounds = λ loss c. elim (Contains-append_cases s.losses r.losses loss c) [
      | inl k ↦ (let l = h.rounds loss k in omega arith)
      | inr k ↦ (let l = numbered_round (suc i) (length s.losses + 1) r.losses loss e.numbered k in omega arith)
    ];
    sound = all_sound a i s r h e;
    lost = all_lost a i s r h e;
    removes = λ j l m. elim (last_or_before j m) [
      | inl k ↦ h.removes j l k
      | inr k ↦ subst (λ (w : ℕ). RemovesSome a w) (sym k) ((spent_state a r.losses).value, sample_removed n)
    ];
  }
    where
      last_or_before : (j : ℕ) → j ≤ suc i → (j ≤ i) ⊎ (j ≡ suc i)
      last_or_before j m = elim (nat_decided j (suc i)) [ inl k ↦ inr k | inr k ↦ inl (omega arith) ]

  -- a round without a record removes nothing
  stays_here : none_lost r.losses ≡ true → (z : PlainState) → InRound a i z → InRegion a r.next z
  stays_here n z k =
      elim (region_decided a r.next z) [
        | inl t ↦ t
        | inr t ↦ (let l = e.lost z ((h.exact z).1 k) t in absurd (no_member l.0 (subst (λ (w : List PlainLoss). Contains w l.0) (none r.losses n) l.1)))
      ]
    where
      none : (losses : List PlainLoss) → none_lost losses ≡ true → losses ≡ []
      none [] n = refl
      none (x ∷ xs) n = false_true n

  removes_nothing : none_lost r.losses ≡ true → RemovesNothing a (suc i)
  removes_nothing n z g =
      let same : g.round ≡ i = (let m = g.number in omega arith) in
      g.gone ((round_exact a i s r h e z).0 (stays_here n z (subst (λ (w : ℕ). InRound a w z) same g.kept)))

  -- so it is the last
  pub is_last : none_lost r.losses ≡ true → IsLastRound a (suc i)
  is_last n = record {
    counted = omega arith;
    settled = removes_nothing n;
    first = λ j l m k. (let g = h.removes j l (omega arith) in k g.0 g.1);
  }

  -- and its region solves the game
  pub stage_settled : IsProper a → (g : PlainGuards) → none_lost r.losses ≡ true → HasExactGuards a (record { region = r.next; guards = g })
      → IsSolved a (suc i) (record { region = r.next; guards = g }) (suc i) (s.losses ++ r.losses)
  stage_settled proper g n exact = record {
    region_is = e.next_is;
    exact = round_exact a i s r h e;
    solution = last_solves a (record { region = r.next; guards = g }) i (s.losses ++ r.losses) (is_last n) (λ z. ((λ k. ((round_exact a i s r h e z).0 k).0), stays_here n z)) exact (all_lost a i s r h e)
        (λ loss c. (let k = all_sound a i s r h e loss c in record { round = k.round; number = k.number; true_between = k.sound_between.is_true }));
    guards = exact;
    picked = picks_legal a r.next proper (region_inside a r.next e.next_is);
    within = omega arith;
    counted = all_counted a i s r h e;
    sound = all_sound a i s r h e;
  }

-- ---- all rounds
-- a solution within a budget is one within a larger one
solved_more : (a : PlainPlant) (budget more : ℕ) (c : PlainController) (rounds : ℕ) (losses : List PlainLoss) → budget ≤ more → IsSolved a budget c rounds losses → IsSolved a more c rounds losses
solved_more a budget more c rounds losses l h =
    record { region_is = h.region_is; exact = h.exact; solution = h.solution; guards = h.guards; picked = h.picked; within = (let w = h.within in omega arith); counted = h.counted; sound = h.sound }

-- from a stage on
pub solves_within : (left : ℕ) (a : PlainPlant) (budget i : ℕ) (s : PlainStage) → left + i ≡ budget → 0 < budget → IsProper a → AreExactGuards a → IsStage a i s
    → (0 < i → IsRemovedIn a i (spent_state a s.last).value) → AreExactRounds left a i s → IsSolvedWithin a budget (solution_within left a i s)
solves_within zero a budget i s sum some proper kept h lost exact =
    let same : i ≡ budget = omega arith in
    subst (λ (w : ℕ). IsSpent a w (spent_state a s.last).value) same (record { removed = lost (omega arith); removes = h.removes })
solves_within (suc left) a budget i s sum some proper kept h lost exact =
    let r = (next_round a (suc i) s).value in
    let e = exact.0 in
    let now : PlainSolution = solved (suc i) r.next (guards a r.next).value (s.losses ++ r.losses) in
    let later : PlainSolution = solution_within left a (suc i) (after_round s r) in
    by_bool (none_lost r.losses)
    (λ n. subst (λ b. IsSolvedWithin a budget (cond b now later)) (sym n)
    (solved_more a (suc i) budget (record { region = r.next; guards = (guards a r.next).value }) (suc i) (s.losses ++ r.losses) (omega arith) (stage_settled a i s r h e proper (guards a r.next).value n (kept r.next e.next_is))))
    (λ n. subst (λ b. IsSolvedWithin a budget (cond b now later)) (sym n)
    (solves_within left a budget (suc i) (after_round s r) (omega arith) some proper kept (stage_step a i s r h e n) (λ _. sample_removed a i s r h e n) (exact.1 n)))
