-- Locations that a round passes over.
use Rattle.std.proofs.Common.{◌≡◌, ℕ, [], ◌∷◌, ◌++◌, get_or, sym, ap, ◌∙◌}
use Rattle.lhg_plant.specs.Plant.{PlainPlant, PlainLocation}
use Rattle.lhg_plant.specs.Region.{PlainRegion, PlainGuards}
use Rattle.lhg_plant.specs.Invariants.{pieces_at}
use Rattle.lhg_plant.specs.OutCalculus.{PlainOuts}
use Rattle.lhg_plant.specs.BackCalculus.{back, joined_at}
use Rattle.lhg_loss.specs.Records.{round_at}
use Rattle.lhg_loss.specs.Views.{plain_losses}
use Rattle.lhg_union.specs.Regions.{plain_region}
use Rattle.lhg_quiet.specs.Quiet.{outs_from, backs_from, IsQuietAt, HasSetsAt}
use Rattle.lhg_quiet.specs.QuietLaws.{QuietLaws}
use Rattle.lhg_iterate.specs.declared.rounds.Round.{Round}
use Rattle.lhg_iterate.specs.RoundViews.{plain_round}
use Rattle.lhg_iterate.proofs.PlaceSteps.{round_from}

-- the sets of switches of the region are its own
pub given-sets : (a : PlainPlant) (region : PlainRegion) (outs : PlainOuts) → outs ≡ outs_from a region → (kss : PlainGuards) → kss ≡ (back a region outs.away).value → (l : ℕ) → HasSetsAt a region l outs kss
given-sets a region outs outs_are kss kss_are l =
    let backs_are : kss ≡ backs_from a region = kss_are ∙ ap (λ (o : PlainOuts). (back a region o.away).value) outs_are in
    record {
      outside = ap (λ (o : PlainOuts). pieces_at o.away l) outs_are;
      hits = ap (λ (o : PlainOuts). get_or o.hits l []) outs_are;
      joined = ap (joined_at l a.switches) backs_are;
    }

-- a location that keeps its pieces
pub passed-over : (a : PlainPlant) (region : PlainRegion) (number first l : ℕ) (place : PlainLocation) (old new : Round) → QuietLaws a → IsQuietAt a region l place → new.losses.items ≡ old.losses.items
    → plain_region new.next.pieces.items ≡ plain_region old.next.pieces.items ++ pieces_at region l ∷ []
    → plain_round new ≡ (round_at a region (outs_from a region) (backs_from a region) number first (plain_round old) (l, place)).value
passed-over a region number first l place old new laws q losses next =
    ap (λ x. round_from (plain_losses x) (plain_region new.next.pieces.items)) losses ∙ ap (round_from (plain_losses old.losses.items)) next
    ∙ sym (laws.skipped region l place number first (plain_round old) q)
