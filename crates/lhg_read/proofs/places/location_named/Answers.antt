use Rattle.std.proofs.Common.{◌∙◌, sym, ap, map}
use Rattle.lhg_lex.specs.TextTokens.{plain_of}
use Rattle.lhg_plant.specs.Views.{plain_location, plain_plant}
use Rattle.lhg_read.proofs.StateSteps.{location_is}
use Rattle.lhg_read.proofs.places.location_named.Goals as goal

pub returns-in_default-place_in-clause-place : goal.returns-in_default-place_in-clause-place
returns-in_default-place_in-clause-place c =
    sym (location_is (plain_plant c.args.plant.now) (plain_of c.args.lines.now.bytes c.args.token.now) c.in-Some.name c.deref.result.now _ (sym c.read_name.ensures ∙ c.in-Some.is) (ap (map plain_location) c.deref.ensures.value) c.place_in.ensures.place
    ∙ c.in_default-place_in.is)

pub returns-clause-place : goal.returns-clause-place
returns-clause-place c =
    sym (location_is (plain_plant c.args.plant.now) (plain_of c.args.lines.now.bytes c.args.token.now) c.in-Some.name c.deref.result.now _ (sym c.read_name.ensures ∙ c.in-Some.is) (ap (map plain_location) c.deref.ensures.value) c.place_in.ensures.place
    ∙ c.in-Some-place_in.is)
