use Rattle.lhg_plant.proofs.NameBytes.{kept_copy}
use Rattle.lhg_plant.proofs.names.Name.new.Goals as goal

pub invariant_of-result : goal.invariant_of-result
invariant_of-result c = kept_copy c.copy_from_slice.new.self c.args.bytes.now c.copy_from_slice.ensures.after c.requires
