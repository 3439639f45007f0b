use Rattle.std.proofs.Common.{length, sym, ap, ◌∙◌, subst}
use Rattle.lhg_math.specs.ListFacts.{all_map_at}
use Rattle.lhg_plant.specs.declared.plants.Location.{Location}
use Rattle.lhg_plant.specs.Proper.{IsLocation}
use Rattle.lhg_plant.specs.Views.{plain_location}
use Rattle.lhg_row.specs.Width.{AllWide}
use Rattle.lhg_row_text.proofs.tests.push_each.Goals as goal

pub push_rows-requires : goal.push_rows-requires
push_rows-requires c =
    let location = all_map_at (IsLocation (length c.args.vars.now)) plain_location c.args.locs.now c.loop-i.i c.index-locs-i.result c.requires c.loop-i-test.true c.index-locs-i.is in
    subst (AllWide (length c.args.vars.now)) (sym (c.deref.ensures.value ∙ ap (λ (l : Location). l.inv.items) (sym c.index-locs-i.is))) location.inv.wide
