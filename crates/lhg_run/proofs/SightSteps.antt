-- What the tests of rows tell of regions and guards, and which numbers they form.
use Rattle.std.proofs.Common.{◌≡◌, ◌↔◌, inl, inr, ◌+◌, ℕ, zero, suc, ◌<◌, List, [], ◌∷◌, ◌++◌, length, IsSomeAnd, slice_get, get_or, Bool, true, false, cond, nat_eq, ◌||◌, Option, Result, Ok, Err, refl, sym, ap, ◌∙◌, subst, arith}
use Rattle.std.proofs.lemmas.Bool.{or_left, or_right, eq-eqb}
use Rattle.std.proofs.lemmas.List.{get_or-map, length-map}
use Rattle.std.specs.Global.{Vec}
use Rattle.std.specs.Prelude.{IfOk, IfErr, IsTrue}
use Rattle.lhg_math.specs.Number.{Number}
use Rattle.lhg_math.specs.Tests.{AllOf, by_bool, false_true}
use Rattle.lhg_num.specs.FracArithmetic.{frac_arithmetic}
use Rattle.lhg_num.specs.Halting.{IsWideBy}
use Rattle.lhg_num.specs.Marked.{Marked}
use Rattle.lhg_num.specs.declared.refusals.Wide.{Wide}
use Rattle.lhg_row.specs.Decisions.{nat_decided}
use Rattle.lhg_row.specs.MarkedTests.{marked_all}
use Rattle.lhg_row.specs.Piece.{PlainPiece, in_some}
use Rattle.lhg_row.specs.PieceLemmas.{in_some_is}
use Rattle.lhg_row.specs.Row.{PlainPoint}
use Rattle.lhg_row.specs.System.{PlainSystem}
use Rattle.lhg_row.specs.Values.{truth}
use Rattle.lhg_row.specs.Truths.{piece_truth, some_truth, some_truth-value}
use Rattle.lhg_motion.specs.CheckPoint.{rows_of}
use Rattle.lhg_motion.specs.Segment.{along}
use Rattle.lhg_play.specs.Cut.{point_at}
use Rattle.lhg_plant.specs.Plant.{PlainPlant, PlainSwitch}
use Rattle.lhg_plant.specs.State.{PlainState, IsState}
use Rattle.lhg_plant.specs.Inside.{IsRegionInside}
use Rattle.lhg_plant.specs.Region.{PlainRegion, PlainGuards, InRegion, InGuard, InSomeGuard}
use Rattle.lhg_plant.specs.Controller.{PlainController}
use Rattle.lhg_plant.specs.Run.{guard_rows, run_rows, state_along}
use Rattle.lhg_plant.proofs.InsideStates.{some_inside}
use Rattle.lhg_union.specs.PolyLists.{lines_of}
use Rattle.lhg_union.specs.Regions.{polys_of, polys_at, plain_region}
use Rattle.lhg_run.specs.Numbers.{sight}
use Rattle.lhg_run.specs.Seen.{IsGuardAt}

-- ---- lists
-- the pieces of a region at a place are the rows of the list there
pub lines-at : (xs : List (Vec PlainSystem)) (l : ℕ) (v : Vec PlainSystem) → v ≡ get_or xs l v → l < length xs → lines_of v.items ≡ get_or (plain_region xs) l []
lines-at xs l v e h =
    let long : l < length (polys_of xs) = omega (arith, h, length-map xs (λ (w : Vec PlainSystem). w.items)) in
    ap (λ (w : Vec PlainSystem). lines_of w.items) e
    ∙ sym (get_or-map lines_of (polys_of xs) l [] [] long ∙ ap lines_of (get_or-map (λ (w : Vec PlainSystem). w.items) xs l v [] h))

-- the same of the list by its place
pub polys-at : (xs : List (Vec PlainSystem)) (l : ℕ) → l < length xs → lines_of (polys_at xs l) ≡ get_or (plain_region xs) l []
polys-at xs l h =
    let long : l < length (polys_of xs) = omega (arith, h, length-map xs (λ (w : Vec PlainSystem). w.items)) in
    sym (get_or-map lines_of (polys_of xs) l [] [] long)

-- what holds of all lists holds of the one at a place
pub list-at : (P : List PlainSystem → Type 0) (xs : List (Vec PlainSystem)) (l : ℕ) → l < length xs → AllOf (λ ps. P ps.items) xs → P (polys_at xs l)
list-at P [] l h k = absurd (omega arith)
list-at P (v ∷ xs) zero h k = k.0
list-at P (v ∷ xs) (suc l) h k = list-at P xs l (omega arith) k.1

-- what is there is not past the end
pub there_short : {A : Type 0} (xs : List A) (e : ℕ) (P : A → Type 0) → IsSomeAnd (slice_get xs e) P → e < length xs
there_short [] e P h = absurd h
there_short (x ∷ xs) zero P h = omega arith
there_short (x ∷ xs) (suc e) P h = let k = there_short xs e P h in omega arith

-- ---- truths
-- the region holds at a point of its location where its pieces do
pub region_is : (a : PlainPlant) (region : PlainRegion) (s : PlainState) → IsRegionInside a region → length s.at ≡ length a.vars
    → InRegion a region s ↔ (in_some (get_or region s.loc []) s.at ≡ true)
region_is a region s inside fits = (
  λ h. (in_some_is (get_or region s.loc []) s.at).0 h.some,
  λ h. let k = (in_some_is (get_or region s.loc []) s.at).1 h in
      record { state = some_inside a s.loc (get_or region s.loc []) s.at fits (inside.inside s.loc) k; some = k },
)

-- the guard of a switch that leaves the location holds at a state where its pieces do
pub guard_is : (a : PlainPlant) (guards : PlainGuards) (e : ℕ) (s : PlainState) → IsState a s → IsSomeAnd (slice_get a.switches e) (λ w. w.from ≡ s.loc)
    → InGuard a guards e s ↔ (in_some (get_or guards e []) s.at ≡ true)
guard_is a guards e s state leaves = (
  λ h. (in_some_is (get_or guards e []) s.at).0 h.some,
  λ h. record { state = state; leaves = leaves; some = (in_some_is (get_or guards e []) s.at).1 h },
)

-- ---- numbers
-- two lists form the numbers of both
all-append_wide : {A : Type 0} (t : A → Marked Bool) (xs ys : List A) → (marked_all t (xs ++ ys)).wide ≡ ((marked_all t xs).wide || (marked_all t ys).wide)
all-append_wide t [] ys = refl
all-append_wide t (x ∷ xs) ys = by_bool (t x).wide (λ e. rw e refl) (λ e. rw e (all-append_wide t xs ys))

-- pieces form the numbers of their rows
pieces-wide : (ps : List PlainPiece) (x : PlainPoint) → (some_truth frac_arithmetic ps x).wide ≡ (piece_truth frac_arithmetic (rows_of ps) x).wide
pieces-wide [] x = refl
pieces-wide (p ∷ ps) x =
    ap (λ w. (piece_truth frac_arithmetic p x).wide || w) (pieces-wide ps x)
    ∙ sym (all-append_wide (λ r. truth frac_arithmetic r x) p (rows_of ps))

-- past the end of the guards there is no piece
no_guard : (e : ℕ) → get_or {A = List PlainPiece} [] e [] ≡ []
no_guard zero = refl
no_guard (suc e) = refl

-- a guard's numbers are among those of the guards of its location
pub guard-wide : (ws : List PlainSwitch) (gs : PlainGuards) (l e : ℕ) (x : PlainPoint) → IsSomeAnd (slice_get ws e) (λ w. w.from ≡ l)
    → (some_truth frac_arithmetic (get_or gs e []) x).wide ≡ true → (piece_truth frac_arithmetic (guard_rows ws gs l) x).wide ≡ true
guard-wide [] gs l e x leaves h = absurd leaves
guard-wide (w ∷ ws) [] l e x leaves h = false_true (sym (ap (λ (g : List PlainPiece). (some_truth frac_arithmetic g x).wide) (no_guard e)) ∙ h)
guard-wide (w ∷ ws) (g ∷ gs) l zero x leaves h =
    let same : nat_eq w.from l ≡ true = eq-eqb w.from l leaves in
    let first : (piece_truth frac_arithmetic (cond (nat_eq w.from l) (rows_of g) []) x).wide ≡ true =
    ap (λ (b : Bool). (piece_truth frac_arithmetic (cond b (rows_of g) []) x).wide) same ∙ sym (pieces-wide g x) ∙ h in
    all-append_wide (λ r. truth frac_arithmetic r x) (cond (nat_eq w.from l) (rows_of g) []) (guard_rows ws gs l)
    ∙ or_left _ _ first
guard-wide (w ∷ ws) (g ∷ gs) l (suc e) x leaves h =
    all-append_wide (λ r. truth frac_arithmetic r x) (cond (nat_eq w.from l) (rows_of g) []) (guard_rows ws gs l)
    ∙ or_right _ _ (guard-wide ws gs l e x leaves h)

module _ (a : PlainPlant) (c : PlainController) (s : PlainState) (y : PlainPoint) (p : Number) where
  -- the point's numbers are among those of what is seen
  pub sight-point : (point_at s.at y p).wide ≡ true → (sight a c s y p).wide ≡ true
  sight-point h = or_left _ _ h

  -- so are the region's
  pub sight-region : (z : PlainPoint) → z ≡ (point_at s.at y p).value → (some_truth frac_arithmetic (get_or c.region s.loc []) z).wide ≡ true → (sight a c s y p).wide ≡ true
  sight-region z e h =
      or_right _ _ (ap (λ w. (piece_truth frac_arithmetic (run_rows a c s.loc) w).wide) (sym e)
      ∙ all-append_wide (λ r. truth frac_arithmetic r z) (rows_of (get_or c.region s.loc [])) (guard_rows a.switches c.guards s.loc)
      ∙ or_left _ _ (sym (pieces-wide (get_or c.region s.loc []) z) ∙ h))

  -- and those of the guards
  pub sight-guards : (z : PlainPoint) → z ≡ (point_at s.at y p).value → (piece_truth frac_arithmetic (guard_rows a.switches c.guards s.loc) z).wide ≡ true → (sight a c s y p).wide ≡ true
  sight-guards z e h =
      or_right _ _ (ap (λ w. (piece_truth frac_arithmetic (run_rows a c s.loc) w).wide) (sym e)
      ∙ all-append_wide (λ r. truth frac_arithmetic r z) (rows_of (get_or c.region s.loc [])) (guard_rows a.switches c.guards s.loc)
      ∙ or_right _ _ h)

-- ---- guards
-- none of the guards holds
pub none-at : (a : PlainPlant) (guards : PlainGuards) (s : PlainState) → ((d : ℕ) → d < length a.switches → ¬ InGuard a guards d s) → ¬ InSomeGuard a guards s
none-at a guards s none h = none h.0 (there_short a.switches h.0 (λ w. w.from ≡ s.loc) h.1.leaves) h.1

-- what holds below a number and at it holds below the next
pub below-more : (P : ℕ → Type 0) (e : ℕ) → ((d : ℕ) → d < e → P d) → P e → (d : ℕ) → d < e + 1 → P d
below-more P e f h d l = elim (nat_decided d e) [ inl same ↦ subst P (sym same) h | inr other ↦ f d (omega arith) ]

-- ---- what is seen
module _ (a : PlainPlant) (guards : PlainGuards) (e : ℕ) (s : PlainState) (state : IsState a s) (leaves : IsSomeAnd (slice_get a.switches e) (λ w. w.from ≡ s.loc)) (ps : List PlainPiece) (is : ps ≡ get_or guards e []) where
  -- a guard's test
  pub guard-exact : (r : Result Bool Wide) → IsWideBy r (some_truth frac_arithmetic ps s.at) (λ b. b) → IfOk r (λ b. IsTrue b ↔ InGuard a guards e s)
  guard-exact (Ok b) h =
      let told : b ≡ in_some (get_or guards e []) s.at = h ∙ some_truth-value frac_arithmetic ps s.at ∙ ap (λ qs. in_some qs s.at) is in
      (λ t. (guard_is a guards e s state leaves).1 (sym told ∙ t), λ g. told ∙ (guard_is a guards e s state leaves).0 g)
  guard-exact (Err w) h = tt

  -- its numbers
  pub guard-refused : (r : Result Bool Wide) → IsWideBy r (some_truth frac_arithmetic ps s.at) (λ b. b) → IfErr r (λ _. (piece_truth frac_arithmetic (guard_rows a.switches guards s.loc) s.at).wide ≡ true)
  guard-refused (Ok b) h = tt
  guard-refused (Err w) h = guard-wide a.switches guards s.loc e s.at leaves (ap (λ qs. (some_truth frac_arithmetic qs s.at).wide) (sym is) ∙ h)

module _ (a : PlainPlant) (c : PlainController) (s : PlainState) (y : PlainPoint) (p : Number) (z : PlainPoint) (z_is : z ≡ along s.at y p) where
  -- the region's test
  module _ (inside : IsRegionInside a c.region) (fits : length (along s.at y p) ≡ length a.vars) (ps : List PlainPiece) (is : ps ≡ get_or c.region s.loc []) (b : Bool) (told : b ≡ in_some ps z) where
    truth-is : b ≡ in_some (get_or c.region s.loc []) (along s.at y p)
    truth-is = told ∙ ap (λ qs. in_some qs z) is ∙ ap (in_some (get_or c.region s.loc [])) z_is

    pub seen-outside : b ≡ false → ¬ InRegion a c.region (state_along s y p)
    seen-outside e h = false_true (sym e ∙ truth-is ∙ (region_is a c.region (state_along s y p) inside fits).0 h)

    pub seen-inside : b ≡ true → InRegion a c.region (state_along s y p)
    seen-inside e = (region_is a c.region (state_along s y p) inside fits).1 (sym truth-is ∙ e)

  -- the point is one of a state
  pub seen-state : IsState a (state_along s y p) → IsState a (record { loc = s.loc; at = z })
  seen-state h = subst (λ (w : PlainPoint). IsState a (record { loc = s.loc; at = w })) (sym z_is) h

  -- what is told of the guards at the point
  pub seen-guards : (o : Option ℕ) → IsGuardAt a c.guards (record { loc = s.loc; at = z }) o → IsGuardAt a c.guards (state_along s y p) o
  seen-guards o h = subst (λ (w : PlainPoint). IsGuardAt a c.guards (record { loc = s.loc; at = w }) o) z_is h

-- ---- the start
module _ (a : PlainPlant) (region : PlainRegion) (s : PlainState) (inside : IsRegionInside a region) (fits : length s.at ≡ length a.vars) (ps : List PlainPiece) (is : ps ≡ get_or region s.loc []) (b : Bool) (told : b ≡ in_some ps s.at) where
  -- the region's test tells whether the start is in it
  pub start-outside : b ≡ false → ¬ InRegion a region s
  start-outside e h = false_true (sym e ∙ told ∙ ap (λ qs. in_some qs s.at) is ∙ (region_is a region s inside fits).0 h)

  pub start-inside : b ≡ true → InRegion a region s
  start-inside e = (region_is a region s inside fits).1 (sym (told ∙ ap (λ qs. in_some qs s.at) is) ∙ e)
