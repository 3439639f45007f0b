use Rattle.std.proofs.Common.{◌≡◌, ◌++◌, ◌∷◌, drop}
use Rattle.std.specs.List.{flat_map}
use Rattle.lhg_text.proofs.plants.push_names.Given as goal

abbrev pub invariant-loop-name : goal.invariant-loop-name
invariant-loop-name l = l.text.items ++ flat_map (λ w. 32 ∷ w) (drop l.name-index l.names) ≡ l.fn.text.items ++ flat_map (λ w. 32 ∷ w) l.names
