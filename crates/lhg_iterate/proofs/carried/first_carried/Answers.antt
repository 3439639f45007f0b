use Rattle.std.proofs.Common.{[], length, ap, ◌∙◌, arith}
use Rattle.std.proofs.lemmas.List.{length-map}
use Rattle.lhg_plant.specs.Views.{plain_location}
use Rattle.lhg_iterate.proofs.carried.first_carried.Goals as goal

pub returns-clause-carried : goal.returns-clause-carried
returns-clause-carried c = λ region. record {
  invs = record { has_lists = c.in_ok-invs.ensures.lists; same = c.in_ok-invs.ensures.calculus };
  marks = (c.in_ok-changed.ensures []).many ∙ length-map c.args.plant.now.locs.items plain_location;
  away = λ some. (let none = ap length c.new.ensures.items in absurd (omega arith));
}
