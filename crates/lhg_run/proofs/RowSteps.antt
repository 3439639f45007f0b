-- Steps of the loop that gathers the rows of guards.
use Rattle.std.proofs.Common.{◌≡◌, ℕ, zero, suc, ◌+◌, ◌<◌, List, [], ◌∷◌, ◌++◌, length, map, drop, get_or, Bool, false, cond, nat_eq, refl, sym, ap, ◌∙◌, subst, append_assoc, arith, Result, Ok, Err}
use Rattle.std.specs.Prelude.{OnOk, IfErr}
use Rattle.std.specs.Result.{IsErrAnd}
use Rattle.lhg_num.specs.Halting.{IsHaltedByMemory}
use Rattle.lhg_num.specs.Marked.{Marked, done}
use Rattle.lhg_num.specs.declared.refusals.Halt.{Halt}
use Rattle.lhg_num.specs.declared.refusals.Halt.TheVariants.{Wide, Rows, Pieces, Memory}
use Rattle.std.proofs.lemmas.Bool.{eq-eqb, eqb-true}
use Rattle.std.specs.Global.{Vec}
use Rattle.lhg_math.specs.Tests.{AllOf, by_bool}
use Rattle.lhg_math.specs.ListFacts.{drop_cons}
use Rattle.lhg_row.specs.Row.{PlainRow}
use Rattle.lhg_row.specs.System.{PlainSystem}
use Rattle.lhg_row.specs.Width.{AllWide}
use Rattle.lhg_row.specs.WidthLaws.{append-wide}
use Rattle.lhg_motion.specs.CheckPoint.{rows_of}
use Rattle.lhg_plant.specs.declared.plants.Switch.{Switch}
use Rattle.lhg_plant.specs.Plant.{PlainSwitch}
use Rattle.lhg_plant.specs.Region.{PlainGuards}
use Rattle.lhg_plant.specs.Run.{guard_rows}
use Rattle.lhg_plant.specs.Views.{plain_switch}
use Rattle.lhg_union.specs.PolyLists.{lines_of, AllVars}
use Rattle.lhg_union.proofs.ListFacts.{all_at}
use Rattle.lhg_union.specs.Regions.{plain_region}

-- unequal numbers do not pass the test of equality
unequal : (m n : ℕ) → ¬ (m ≡ n) → nat_eq m n ≡ false
unequal m n f = by_bool (nat_eq m n) (λ e. absurd (f (eqb-true m n e))) (λ e. e)

module _ (ws : List Switch) (gs : List (Vec PlainSystem)) (l e : ℕ) (w : Switch) (g : Vec PlainSystem) (w_is : w ≡ get_or ws e w) (g_is : g ≡ get_or gs e g) (in_ws : e < length ws) (in_gs : e < length gs) (total now : List PlainRow)
    (h : now ++ guard_rows (map plain_switch (drop e ws)) (plain_region (drop e gs)) l ≡ total) where
  -- the rows of the guards behind
  abbrev behind : List PlainRow
  behind = guard_rows (map plain_switch (drop (e + 1) ws)) (plain_region (drop (e + 1) gs)) l

  here : now ++ (cond (nat_eq w.from l) (rows_of (lines_of g.items)) [] ++ behind) ≡ total
  here =
      ap (λ us. now ++ guard_rows (map plain_switch us) (plain_region (g ∷ drop (e + 1) gs)) l) (sym (drop_cons ws e w w_is in_ws))
      ∙ ap (λ us. now ++ guard_rows (map plain_switch (drop e ws)) (plain_region us) l) (sym (drop_cons gs e g g_is in_gs)) ∙ h

  -- the guard of a switch that leaves the location
  pub guards-taken : (more : List PlainRow) → w.from ≡ l → more ≡ now ++ rows_of (lines_of g.items) → more ++ behind ≡ total
  guards-taken more same e =
      ap (λ us. us ++ behind) e ∙ append_assoc now (rows_of (lines_of g.items)) behind
      ∙ ap (λ (b : Bool). now ++ (cond b (rows_of (lines_of g.items)) [] ++ behind)) (sym (eq-eqb w.from l same)) ∙ here

  -- that of another
  pub guards-passed : ¬ (w.from ≡ l) → now ++ behind ≡ total
  guards-passed not = ap (λ (b : Bool). now ++ (cond b (rows_of (lines_of g.items)) [] ++ behind)) (sym (unequal w.from l not)) ∙ here

-- ---- answers
-- what follows from a list that was appended
pub ok_then : {A : Type 0} (r : Result (Unit {0}) Halt) (v new : A) (P : Type 0) → IsHaltedByMemory r (done v) (λ _. new) → (new ≡ v → P) → OnOk r P
ok_then (Ok x) v new P h f = f h
ok_then (Err e) v new P h f = tt

-- ---- widths
-- what holds of all lists holds of the one that stands at a place
pub vars-at : (n : ℕ) (gs : List (Vec PlainSystem)) (e : ℕ) (g : Vec PlainSystem) → g ≡ get_or gs e g → e < length gs → AllOf (λ ps. AllVars n ps.items) gs → AllVars n g.items
vars-at n [] e g is h k = absurd (omega arith)
vars-at n (x ∷ gs) zero g is h k = subst (λ (v : Vec PlainSystem). AllVars n v.items) (sym is) k.0
vars-at n (x ∷ gs) (suc e) g is h k = vars-at n gs e g is (omega arith) k.1

-- the rows of one piece more
pub wide-more : (n : ℕ) (pieces : List PlainSystem) (i : ℕ) (p : PlainSystem) → p ≡ get_or pieces i p → i < length pieces → AllVars n pieces → AllWide p.width p.lines
    → (rows lines new : List PlainRow) → lines ≡ p.lines → new ≡ rows ++ lines → AllWide n rows → AllWide n new
wide-more n pieces i p is h vars poly rows lines new e f wide =
    let width = all_at (λ (q : PlainSystem). q.width ≡ n) pieces i p is h vars in
    subst (AllWide n) (sym (f ∙ ap (λ us. rows ++ us) e)) (append-wide n rows p.lines wide (subst (λ k. AllWide k p.lines) width poly))

-- ---- the rows of a run
module _ (region guards : PlainGuards) (ws : List PlainSwitch) (l : ℕ) where
  pub joined-rows : (none first all pieces : List PlainRow) (rs : List PlainRow) → none ≡ [] → first ≡ none ++ pieces → pieces ≡ rows_of (get_or region l []) → all ≡ first ++ rs → rs ≡ guard_rows ws guards l
      → all ≡ rows_of (get_or region l []) ++ guard_rows ws guards l
  joined-rows none first all pieces rs e f g h k =
      h ∙ ap (λ us. us ++ rs) (f ∙ ap (λ us. us ++ pieces) e ∙ g) ∙ ap (λ us. rows_of (get_or region l []) ++ us) k
