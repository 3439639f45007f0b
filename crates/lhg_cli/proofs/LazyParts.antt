-- What is left of the trial of a controller after each of its steps, and which marks are its own?
use Rattle.std.proofs.Common.{◌≡◌, sym, subst}
use Rattle.lhg_num.specs.Marked.{Marked, and_then, IsRest}
use Rattle.lhg_num.specs.MarkedLaws.{IsPart, and_then-part, and_then-rest, part_part, rest_part, rest_rest}
use Rattle.lhg_jump.proofs.CallCode.{rest-is_part}
use Rattle.lhg_plant.specs.Controller.{PlainController}
use Rattle.lhg_plant.specs.Plant.{PlainPlant}
use Rattle.lhg_plant.specs.Region.{PlainRegion}
use Rattle.lhg_check.specs.Check.{PlainVerdict, check}
use Rattle.lhg_lazy.specs.RimCalculus.{away, rim, candidate}
use Rattle.lhg_cli.specs.LazyAnswer.{candidate_of, trial_of}

module _ (a : PlainPlant) (c : PlainController) where
  abbrev whole : Marked PlainVerdict
  whole = trial_of a c

  making : IsPart whole (candidate_of a c)
  making = and_then-part (candidate_of a c) (check a)

  -- the marks of what is outside the region
  pub away-part : IsPart whole (away a c.region)
  away-part =
      part_part whole (candidate_of a c) (away a c.region) making (and_then-part (away a c.region) (λ outside. and_then (rim a c.region outside) (λ edge. candidate a c.region c.guards edge)))

  module _ (outside : PlainRegion) (outside_is : outside ≡ (away a c.region).value) where
    abbrev later : Marked PlainController
    later = and_then (rim a c.region outside) (λ edge. candidate a c.region c.guards edge)

    after_away : IsRest (candidate_of a c) later
    after_away =
        subst (λ (o : PlainRegion). IsRest (candidate_of a c) (and_then (rim a c.region o) (λ edge. candidate a c.region c.guards edge))) (sym outside_is)
        (and_then-rest (away a c.region) (λ o. and_then (rim a c.region o) (λ edge. candidate a c.region c.guards edge)))

    -- those of the rim
    pub rim-part : IsPart whole (rim a c.region outside)
    rim-part =
        part_part whole (candidate_of a c) (rim a c.region outside) making
        (rest_part (candidate_of a c) later (rim a c.region outside) after_away (and_then-part (rim a c.region outside) (λ edge. candidate a c.region c.guards edge)))

    module _ (edge : PlainRegion) (edge_is : edge ≡ (rim a c.region outside).value) where
      -- after it the candidate is left
      pub candidate-rest : IsRest (candidate_of a c) (candidate a c.region c.guards edge)
      candidate-rest =
          rest_rest (candidate_of a c) later (candidate a c.region c.guards edge) after_away
          (subst (λ (r : PlainRegion). IsRest later (candidate a c.region c.guards r)) (sym edge_is) (and_then-rest (rim a c.region outside) (λ r. candidate a c.region c.guards r)))

      -- the marks of the candidate
      pub candidate-part : IsPart whole (candidate a c.region c.guards edge)
      candidate-part = part_part whole (candidate_of a c) (candidate a c.region c.guards edge) making (rest-is_part (candidate_of a c) (candidate a c.region c.guards edge) candidate-rest)

-- after the candidate the check is left
pub check-rest : (a : PlainPlant) (c d : PlainController) → d ≡ (candidate_of a c).value → IsRest (trial_of a c) (check a d)
check-rest a c d is = subst (λ (k : PlainController). IsRest (trial_of a c) (check a k)) (sym is) (and_then-rest (candidate_of a c) (check a))
