-- What rounds hand on to the next one, and the sets of switches that a round forms.
use Rattle.std.proofs.Common.{◌≡◌, ◌∙◌, ℕ, Bool, false, List, [], length, get_or, refl, sym, ap, subst}
use Rattle.std.specs.Global.{Vec}
use Rattle.lhg_num.specs.MarkedLaws.{IsPart, and_then-part, part_part}
use Rattle.lhg_row.specs.System.{PlainSystem}
use Rattle.lhg_plant.specs.declared.plants.Plant.{Plant}
use Rattle.lhg_plant.specs.Plant.{PlainPlant}
use Rattle.lhg_plant.specs.Region.{PlainGuards}
use Rattle.lhg_plant.specs.Invariants.{invariant_list, invariants, pieces_at}
use Rattle.lhg_plant.specs.OutCalculus.{PlainHit, out}
use Rattle.lhg_plant.specs.BackCalculus.{back, joined_at}
use Rattle.lhg_plant.specs.SafeRegion.{safe_within, safe_list, safe_region}
use Rattle.lhg_plant.specs.Views.{plain_plant}
use Rattle.lhg_union.specs.Regions.{plain_region}
use Rattle.lhg_jump.specs.PlantLists.{AreInvariantsOf, AreAwayOf}
use Rattle.lhg_loss.specs.Records.{one_round}
use Rattle.lhg_quiet.specs.Masked.{busy_hits, busy_back, MaskedLaws, MaskedLaw}
use Rattle.lhg_quiet.specs.Outside.{AreStillOutside}
use Rattle.lhg_quiet.specs.Quiet.{outs_from, backs_from, AreChanges}
use Rattle.lhg_quiet.specs.QuietLaws.{ChangeLaws}
use Rattle.lhg_quiet.proofs.Masking.{each-parts}
use Rattle.lhg_iterate.specs.Carrying.{IsCarriedTo, IsRenewedFor}
use Rattle.lhg_iterate.specs.declared.carried.Carried.{Carried}
use Rattle.lhg_iterate.proofs.RoundSteps.{one-out, one-back}

-- the invariants are made for the safe states
pub safe-invariants : (a : PlainPlant) → IsPart (safe_region a) (invariants a)
unfolding invariants safe_region
safe-invariants a = each-parts (safe_list (length a.vars)) (invariant_list (length a.vars)) a.locs (λ l. and_then-part (invariant_list (length a.vars) l) (safe_within (length a.vars) l))

-- what a round hands on
pub handed-on : (p : Plant) (region next : List (Vec PlainSystem)) (changed : List Bool) (c d : Carried) → ChangeLaws (plain_plant p) (plain_region region) → AreChanges (plain_plant p) (plain_region region) (plain_region next) changed
    → length changed ≡ length p.locs.items → IsRenewedFor p region c → d.invs.items ≡ c.invs.items → d.outs.away.pieces.items ≡ c.outs.away.pieces.items → d.changed.items ≡ changed → IsCarriedTo p next d
handed-on p region next changed c d laws changes many h invs_are outside_is changed_are =
    let still : AreStillOutside p next changed c.outs.away.pieces.items = record {
      has_lists = h.away.has_lists;
      same = λ l unset. ap (λ r. pieces_at r l) h.away.same ∙ laws.outside (plain_region next) changed changes l unset;
    } in
    record {
      invs = subst (AreInvariantsOf p) (sym invs_are) h.invs;
      marks = ap length changed_are ∙ many;
      away = λ some. subst (AreStillOutside p next d.changed.items) (sym outside_is) (subst (λ ms. AreStillOutside p next ms c.outs.away.pieces.items) (sym changed_are) still);
    }

-- what a round leaves for its own region
pub still-carried : (p : Plant) (region : List (Vec PlainSystem)) (c : Carried) → IsRenewedFor p region c → IsCarriedTo p region c
still-carried p region c h = record {
  invs = h.invs;
  marks = h.marks;
  away = λ some. record { has_lists = h.away.has_lists; same = λ l unset. ap (λ r. pieces_at r l) h.away.same };
}

-- ---- the sets of a round
module _ (p : Plant) (region : List (Vec PlainSystem)) (quiet : List Bool) (law : MaskedLaw (plain_plant p)) (invs outside held : List (Vec PlainSystem)) (invs_are : AreInvariantsOf p invs) (outside_are : AreAwayOf p region outside) (held_is : held ≡ region) where
  abbrev a : PlainPlant
  a = plain_plant p

  laws : MaskedLaws a (plain_region region) quiet (plain_region invs) (plain_region outside)
  laws = law (plain_region region) quiet (plain_region invs) (plain_region outside) invs_are.same outside_are.same

  -- their marks are marks of the round
  pub hits-of-round : (number first : ℕ) → IsPart (one_round a (plain_region region) number first) (busy_hits a quiet (plain_region invs) (plain_region outside) (plain_region held))
  hits-of-round number first =
      let r = plain_region region in
      let hits = busy_hits a quiet (plain_region invs) (plain_region outside) r in
      subst (λ rs. IsPart (one_round a r number first) (busy_hits a quiet (plain_region invs) (plain_region outside) (plain_region rs))) (sym held_is)
      (part_part (one_round a r number first) (out a r) hits (one-out a r number first) laws.hits)

  pub back-of-round : (number first : ℕ) → IsPart (one_round a (plain_region region) number first) (busy_back a quiet (plain_region invs) (plain_region held) (plain_region outside))
  back-of-round number first =
      let r = plain_region region in
      let kept = busy_back a quiet (plain_region invs) r (plain_region outside) in
      subst (λ rs. IsPart (one_round a r number first) (busy_back a quiet (plain_region invs) (plain_region rs) (plain_region outside))) (sym held_is)
      (part_part (one_round a r number first) (back a r (outs_from a r).away) kept (one-back a r number first (outs_from a r) refl) laws.back)

  -- in a location that is not quiet they are those of the region
  module _ (l : ℕ) (busy : get_or quiet l false ≡ false) where
    pub hits-there : (hits : List (List PlainHit)) → hits ≡ (busy_hits a quiet (plain_region invs) (plain_region outside) (plain_region held)).value → get_or hits l [] ≡ get_or (outs_from a (plain_region region)).hits l []
    hits-there hits same =
        ap (λ hs. get_or hs l []) (same ∙ ap (λ rs. (busy_hits a quiet (plain_region invs) (plain_region outside) (plain_region rs)).value) held_is) ∙ (laws.sets l busy).hits

    pub joined-there : (kss : PlainGuards) → kss ≡ (busy_back a quiet (plain_region invs) (plain_region held) (plain_region outside)).value → joined_at l a.switches kss ≡ joined_at l a.switches (backs_from a (plain_region region))
    joined-there kss same =
        ap (joined_at l a.switches) (same ∙ ap (λ rs. (busy_back a quiet (plain_region invs) (plain_region rs) (plain_region outside)).value) held_is) ∙ (laws.sets l busy).joined

    pub outside-there : pieces_at (plain_region outside) l ≡ pieces_at (outs_from a (plain_region region)).away l
    outside-there = (laws.sets l busy).outside
