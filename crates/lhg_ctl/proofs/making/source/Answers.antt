use Rattle.std.proofs.Common.{◌<◌, length, map, subst}
use Rattle.std.proofs.lemmas.List.{length-map}
use Rattle.lhg_plant.specs.Proper.{IsSwitch}
use Rattle.lhg_plant.specs.Views.{plain_location, plain_switch}
use Rattle.lhg_math.specs.ListFacts.{all_map_at}
use Rattle.lhg_ctl.proofs.making.source.Goals as goal

pub returns-clause-below : goal.returns-clause-below
returns-clause-below c =
    let p = c.args.plant.now in
    let w = all_map_at (IsSwitch (length p.vars.items) (length (map plain_location p.locs.items))) plain_switch p.switches.items c.args.place c.index.result.now p.proper.switches c.requires c.index.ensures in
    subst (λ m. c.index.result.now.from < m) (length-map p.locs.items plain_location) w.from
