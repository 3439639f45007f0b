-- A guard comes by its name, which is its own or that of its number.
use Rattle.std.proofs.Common.{◌≡◌, ◌+◌, ℕ, List, length, refl, sym, ap, ◌∙◌, Bool, true, false, ◌&&◌, not, cond, Some, None}
use Rattle.lhg_row.specs.Piece.{PlainPiece}
use Rattle.lhg_plant.specs.Differ.{is_among}
use Rattle.lhg_ctl.specs.ControllerLine.{guard}
use Rattle.lhg_ctl.specs.ControllerSteps.{PlainOpen, fits, next_name, pushed, step}
use Rattle.lhg_ctl.specs.Draft.{guard_name}
use Rattle.lhg_ctl.specs.declared.versions.Version.{Version}
use Rattle.lhg_ctl.specs.declared.versions.Version.TheVariants.{First, Second}

-- a guard without a name
pub plain_step : (o : PlainOpen) (w : List ℕ) (g : ℕ × PlainPiece) → o.version ≡ First → w ≡ guard_name (length o.draft.guards + 1) → pushed o w g ≡ step o (guard None g)
plain_step o w g e f = ap (λ x. pushed o x g) f ∙ sym (ap (λ (v : Version). cond (fits v None && true) (pushed o (next_name o.draft None) g) None) e)

-- a guard with a name that is new
pub named_step : (o : PlainOpen) (w : List ℕ) (g : ℕ × PlainPiece) → o.version ≡ Second → is_among w o.draft.names ≡ false → pushed o w g ≡ step o (guard (Some w) g)
named_step o w g e f =
    sym (
    ap (λ (v : Version). cond (fits v (Some w) && not (is_among w o.draft.names)) (pushed o w g) None) e
    ∙ ap (λ b. cond (not b) (pushed o w g) None) f
    )

-- a guard with a name that is not new
pub name_refused : (o : PlainOpen) (w : List ℕ) (g : ℕ × PlainPiece) → is_among w o.draft.names ≡ true → step o (guard (Some w) g) ≡ None
name_refused o w g f = ap (λ b. cond (fits o.version (Some w) && not b) (pushed o w g) None) f ∙ by_fit (fits o.version (Some w))
  where
    by_fit : (b : Bool) → cond (b && false) (pushed o w g) None ≡ None
    by_fit true = refl
    by_fit false = refl
