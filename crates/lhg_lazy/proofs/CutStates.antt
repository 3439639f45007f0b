-- The guards that are cut hold exactly the states of the guards in the rim, and candidates of one controller are valid together.
use Rattle.std.proofs.Common.{◌≡◌, ◌↔◌, inl, inr, ℕ, ◌+◌, List, [], length, get_or, slice_get, IsSomeAnd, Option, Some, None, refl, sym, ap, ◌∙◌, subst, arith}
use Rattle.std.proofs.lemmas.Option.{slice_get_cases}
use Rattle.lhg_num.specs.FracArithmetic.{frac_arithmetic, frac_is_lawful}
use Rattle.lhg_row.specs.Row.{PlainPoint}
use Rattle.lhg_row.specs.Piece.{PlainPiece, InSome}
use Rattle.lhg_row.specs.Lists.{meet_lists}
use Rattle.lhg_row.specs.MeetListsLaws.{meet_lists-exact}
use Rattle.lhg_plant.specs.Plant.{PlainPlant, PlainSwitch}
use Rattle.lhg_plant.specs.State.{PlainState, States}
use Rattle.lhg_plant.specs.Escape.{HasEscape}
use Rattle.lhg_plant.specs.Region.{PlainRegion, PlainGuards, InRegion, InGuard, InSomeGuard}
use Rattle.lhg_plant.specs.Controller.{PlainController, IsValid}
use Rattle.lhg_plant.specs.Invariants.{pieces_at}
use Rattle.lhg_plant.specs.Inside.{IsRegionOver}
use Rattle.lhg_plant.proofs.ListSteps.{range-at, intersection-in}
use Rattle.lhg_plant.proofs.Options.{some_there}
use Rattle.lhg_ctl.specs.Making.{source_in, source_at}
use Rattle.lhg_lazy.specs.Rim.{IsCandidate}
use Rattle.lhg_lazy.specs.RimCalculus.{cut_at, cut_guards}
use Rattle.lhg_lazy.specs.RimFacts.{IsRim, AreGuardsOver, AreCut}
use Rattle.lhg_lazy.specs.RimLaws.{CutLaw, CandidateLaws}

-- ---- cut guards
module _ (a : PlainPlant) (guards : PlainGuards) (rim : PlainRegion) (over : AreGuardsOver a guards) (rim_over : IsRegionOver a rim) (e : ℕ) (w : PlainSwitch) (is : slice_get a.switches e ≡ Some w) where
  abbrev n : ℕ
  n = length a.vars

  -- the list of one switch
  pub cut-points : (x : PlainPoint) → length x ≡ n → InSome (cut_at a guards rim e).value x ↔ (InSome (pieces_at guards e) x × InSome (pieces_at rim w.from) x)
  cut-points x fits =
      let source_is : source_at a e ≡ w.from = ap source_in is in
      subst (λ l. InSome (meet_lists frac_arithmetic n (pieces_at guards e) (pieces_at rim l)).value x ↔ (InSome (pieces_at guards e) x × InSome (pieces_at rim w.from) x)) (sym source_is)
      (intersection-in n (pieces_at guards e) (pieces_at rim w.from) (meet_lists frac_arithmetic n (pieces_at guards e) (pieces_at rim w.from)).value x fits
      (meet_lists-exact frac_arithmetic n (pieces_at guards e) (pieces_at rim w.from) frac_is_lawful (over e) (rim_over w.from)))

  module _ (cut : PlainGuards) (list : get_or cut e [] ≡ (cut_at a guards rim e).value) (s : PlainState) where
    pub cut-states : InGuard a cut e s ↔ (InGuard a guards e s × InRegion a rim s)
    cut-states = (
      λ g.
          let leaves = some_there (slice_get a.switches e) w (λ v. v.from ≡ s.loc) is g.leaves in
          let both = (cut-points s.at g.state.fits).0 (subst (λ (ps : List PlainPiece). InSome ps s.at) list g.some) in (
            record { state = g.state; leaves = g.leaves; some = both.0 },
            record { state = g.state; some = subst (λ l. InSome (pieces_at rim l) s.at) leaves both.1 },
          ),
      λ h.
          let leaves = some_there (slice_get a.switches e) w (λ v. v.from ≡ s.loc) is h.0.leaves in
          record {
            state = h.0.state;
            leaves = h.0.leaves;
            some = subst (λ (ps : List PlainPiece). InSome ps s.at) (sym list) ((cut-points s.at h.0.state.fits).1 (h.0.some, subst (λ l. InSome (pieces_at rim l) s.at) (sym leaves) h.1.some));
          },
    )

pub cut-exact : (a : PlainPlant) → CutLaw a
unfolding cut_guards
cut-exact a guards rim over rim_over e s = elim (slice_get_cases a.switches e).1 [
  | inl there ↦
      let zero_first : 0 + e ≡ e = omega arith in
      let list = range-at (cut_at a guards rim) 0 (length a.switches) e there.1 ∙ ap (λ i. (cut_at a guards rim i).value) zero_first in
      cut-states a guards rim over rim_over e there.0 there.2 (cut_guards a guards rim).value list s
  | inr past ↦ (λ g. absurd (no_switch past.1 g.leaves), λ h. absurd (no_switch past.1 h.0.leaves))
]
  where
    no_switch : slice_get a.switches e ≡ None → IsSomeAnd (slice_get a.switches e) (λ w. w.from ≡ s.loc) → ⊥
    no_switch none leaves = subst (λ (o : Option PlainSwitch). IsSomeAnd o (λ w. w.from ≡ s.loc)) none leaves

-- ---- candidates
module _ (a : PlainPlant) (c : PlainController) where
  -- guards cut to the rim make one
  made-candidate : (rim : PlainRegion) (guards : PlainGuards) → IsRim a c.region rim → AreCut a c.guards rim guards → IsCandidate a c (record { region = c.region; guards = guards })
  made-candidate rim guards rim_is cut = record {
    region = refl;
    guards = λ e s. (
      λ g. let h = (cut e s).0 g in (h.0, (rim_is s.loc s.at h.0.state.fits).0 h.1.some),
      λ h. (cut e s).1 (h.0, record { state = h.0.state; some = (rim_is s.loc s.at h.0.state.fits).1 h.1 }),
    );
  }

-- an escape past some guards is one past guards with fewer states
fewer_escape : (a : PlainPlant) (S K L : States) → ((s : PlainState) → L s → K s) → (s : PlainState) → HasEscape a S K s → HasEscape a S L s
fewer_escape a S K L sub s (moves, e) = (moves, record { play = e.play; ends = e.ends; earlier = λ k p i. elim (e.earlier k p i) [ inl out ↦ inl out | inr off ↦ inr (λ h. off (sub _ h)) ] })

-- guards with the same states are valid together
same_valid : (a : PlainPlant) (region : PlainRegion) (g h : PlainGuards) → ((e : ℕ) (s : PlainState) → InGuard a g e s ↔ InGuard a h e s) → IsValid a (record { region = region; guards = g }) → IsValid a (record { region = region; guards = h })
same_valid a region g h same v = record {
  safe = v.safe;
  guarded = λ e s k. v.guarded e s ((same e s).1 k);
  closed = λ s i escape. v.closed s i (fewer_escape a (InRegion a region) (InSomeGuard a h) (InSomeGuard a g) (λ z k. (k.0, (same k.0 z).0 k.1)) s escape);
}

-- so are two candidates of a controller
candidates_valid : (a : PlainPlant) (c d other : PlainController) → IsCandidate a c d → IsCandidate a c other → IsValid a d → IsValid a other
candidates_valid a c d other p q v =
    let same : (e : ℕ) (s : PlainState) → InGuard a d.guards e s ↔ InGuard a other.guards e s = λ e s. (λ k. (q.guards e s).1 ((p.guards e s).0 k), λ k. (p.guards e s).1 ((q.guards e s).0 k)) in
    subst (λ (r : PlainRegion). IsValid a (record { region = r; guards = other.guards })) (p.region ∙ sym q.region) (same_valid a d.region d.guards other.guards same v)

pub candidate-laws : (a : PlainPlant) (c : PlainController) → CandidateLaws a c
candidate-laws a c = record {
  cut = made-candidate a c;
  lies_in = λ d p e s g. ((p.guards e s).0 g).0;
  same = λ d other p q. (candidates_valid a c d other p q, candidates_valid a c other d q p);
}
