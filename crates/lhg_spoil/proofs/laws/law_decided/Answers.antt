use Rattle.std.proofs.Common.{◌≡◌, ℕ, Option, Some, None, inl, inr}
use Rattle.lhg_row.specs.Row.{PlainPoint}
use Rattle.lhg_spoil.specs.Exchange.{stands_at}
use Rattle.lhg_spoil.proofs.Decided.{outcome_from}
use Rattle.lhg_spoil.proofs.laws.law_decided.Goals as goal

nothing_again : {P : Type 0} (act : ℕ × Option PlainPoint) → None ≡ Some act → P
nothing_again act h = absurd cc

pub returns : goal.returns
returns c = λ a losses k proper known offers i start moves within rank.
    elim (outcome_from a losses k known proper offers moves k i 0 (stands_at start) within within rank (λ act h. nothing_again act h)) [
      | inl h ↦ inl h
      | inr h ↦ inr (h.1, h.2, (h.0, h.3))
    ]
