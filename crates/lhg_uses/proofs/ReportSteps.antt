-- What the report of a plant is for its text.
use Rattle.std.proofs.Common.{◌≡◌, ℕ, List, Result, Ok, Err, sym, subst}
use Rattle.std.specs.Global.{Vec}
use Rattle.std.specs.Prelude.{IfOk, IfErr}
use Rattle.lhg_lex.specs.Lines.{lines_of}
use Rattle.lhg_plant.specs.Plant.{PlainPlant}
use Rattle.lhg_read.specs.PlantText.{IsPlantText}
use Rattle.lhg_uses.specs.Report.{IsReport, IsReportOf, IsUnsolved, IsUnreported}
use Rattle.lhg_uses.specs.declared.reporting.NoReport.{NoReport}
use Rattle.lhg_uses.specs.declared.reporting.NoReport.TheVariants.{Text, Game, Memory}

-- without memory nothing is promised
pub no_memory : (a : PlainPlant) (budget : ℕ) (r : Result (Vec ℕ) NoReport) → IfErr r (λ e. e ≡ Memory) → IfErr r (IsUnsolved a budget)
no_memory a budget (Ok v) h = tt
no_memory a budget (Err e) h = subst (IsUnsolved a budget) (sym h) tt

module _ (bytes : List ℕ) (budget : ℕ) (a : PlainPlant) (written : IsPlantText (lines_of bytes) a) where
  -- the report of a plant is that of its text
  pub reported : (r : Result (Vec ℕ) NoReport) → IfOk r (λ v. IsReport a budget v.items) → IfOk r (λ v. IsReportOf bytes budget v.items)
  reported (Ok v) h = record { plant = a; written = written; report = h }
  reported (Err e) h = tt

  -- why a plant has none is why its text has none
  pub unreported : (r : Result (Vec ℕ) NoReport) → IfErr r (IsUnsolved a budget) → IfErr r (IsUnreported bytes budget)
  unreported (Ok v) h = tt
  unreported (Err (Text stop)) h = absurd h
  unreported (Err (Game stop)) h = (a, written, h)
  unreported (Err Memory) h = tt
