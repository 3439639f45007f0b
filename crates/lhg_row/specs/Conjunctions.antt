-- In which order may tests stand?
use Rattle.std.specs.Prelude.{◌≡◌, Bool, ◌&&◌}
use Rattle.std.proofs.Common.{sym, ap, ◌∙◌}
use Rattle.std.proofs.Math.Bool.{and_comm, and_assoc}

-- the second of three tests may come first
pub and_left_comm : (a b c : Bool) → (a && (b && c)) ≡ (b && (a && c))
and_left_comm a b c = sym (and_assoc a b c) ∙ ap (λ d. d && c) (and_comm a b) ∙ and_assoc b a c
