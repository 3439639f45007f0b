-- An answer of the whole is told by an answer of a part.
use Rattle.std.proofs.Common.{◌≡◌, inl, inr, true, ℕ, List, Result, Ok, Err, refl, sym, subst}
use Rattle.std.specs.Result.{IsErrAnd}
use Rattle.lhg_num.specs.Marked.{Marked, done}
use Rattle.lhg_num.specs.Halting.{IsHaltedBy, IsHaltedByRows, IsHaltedByWide, IsHaltedByMemory}
use Rattle.lhg_num.specs.declared.refusals.Halt.{Halt}
use Rattle.lhg_num.specs.declared.refusals.Halt.TheVariants.{Wide, Rows, Pieces, Memory}
use Rattle.lhg_num.proofs.Halted.{all_from_rows, rows_from_wide}
use Rattle.lhg_num.specs.FracArithmetic.{frac_arithmetic}
use Rattle.lhg_plant.specs.LegalTruths.{safe_truth}
use Rattle.lhg_plant.specs.Loss.{PlainLoss}
use Rattle.lhg_plant.specs.Plant.{PlainPlant}
use Rattle.lhg_plant.specs.State.{PlainState}
use Rattle.lhg_loss.specs.Holding.{holding}
use Rattle.lhg_spoil.specs.Replies.{IsAnsweredBy, IsWideHold}
use Rattle.lhg_spoil.specs.Work.{only, IsSettleWork}

-- what a call may have formed
abbrev pub Works : Type 1
Works = Marked (Unit {0}) → Type 0

-- an answer of the calculus, whose marks are formed
pub answered-all : {T A : Type 0} (r : Result T Halt) (m : Marked A) (f : T → A) (P : T → Type 0) (F : Works) → IsHaltedBy r m f → F (only m) → ((x : T) → f x ≡ m.value → P x) → IsAnsweredBy r P F
answered-all (Ok x) m f P F h w p = p x h
answered-all (Err Wide) m f P F h w p = (only m, w, h)
answered-all (Err Rows) m f P F h w p = (only m, w, h)
answered-all (Err Pieces) m f P F h w p = (only m, w, h)
answered-all (Err Memory) m f P F h w p = tt

pub answered-rows : {T A : Type 0} (r : Result T Halt) (m : Marked A) (f : T → A) (P : T → Type 0) (F : Works) → IsHaltedByRows r m f → F (only m) → ((x : T) → f x ≡ m.value → P x) → IsAnsweredBy r P F
answered-rows r m f P F h w p = answered-all r m f P F (all_from_rows r m f h) w p

-- an answer that only memory refuses
pub answered-memory : {T A : Type 0} (r : Result T Halt) (x : A) (f : T → A) (P : T → Type 0) (F : Works) → IsHaltedByMemory r (done x) f → ((y : T) → f y ≡ x → P y) → IsAnsweredBy r P F
answered-memory (Ok y) x f P F h p = p y h
answered-memory (Err Wide) x f P F h p = absurd h
answered-memory (Err Rows) x f P F h p = absurd h
answered-memory (Err Pieces) x f P F h p = absurd h
answered-memory (Err Memory) x f P F h p = tt

-- an answer with weaker facts
pub answered-as : {T : Type 0} (r : Result T Halt) (P Q : T → Type 0) (F G : Works) → IsAnsweredBy r P F → ((x : T) → P x → Q x) → ((m : Marked (Unit {0})) → F m → G m) → IsAnsweredBy r Q G
answered-as (Ok x) P Q F G h p w = p x h
answered-as (Err Wide) P Q F G h p w = (h.0, w h.0 h.1, h.2)
answered-as (Err Rows) P Q F G h p w = (h.0, w h.0 h.1, h.2)
answered-as (Err Pieces) P Q F G h p w = (h.0, w h.0 h.1, h.2)
answered-as (Err Memory) P Q F G h p w = tt

-- ---- a halt that is handed on
pub err-answered : {T U : Type 0} (r : Result T Halt) (e : Halt) (P : T → Type 0) (Q : U → Type 0) (F G : Works) → IsErrAnd r (λ d. d ≡ e) → IsAnsweredBy {T = U} (Err e) Q G → ((m : Marked (Unit {0})) → G m → F m) → IsAnsweredBy r P F
err-answered (Ok x) e P Q F G i h w = absurd i
err-answered {T} {U} (Err d) e P Q F G i h w = subst (λ (x : Halt). IsAnsweredBy {T = T} (Err x) P F) (sym i) (on e h)
  where
    on : (e : Halt) → IsAnsweredBy {T = U} (Err e) Q G → IsAnsweredBy {T = T} (Err e) P F
    on Wide k = (k.0, w k.0 k.1, k.2)
    on Rows k = (k.0, w k.0 k.1, k.2)
    on Pieces k = (k.0, w k.0 k.1, k.2)
    on Memory k = tt

-- of the calculus
pub err-all : {T U A : Type 0} (r : Result T Halt) (e : Halt) (P : T → Type 0) (m : Marked A) (f : U → A) (F : Works) → IsErrAnd r (λ d. d ≡ e) → IsHaltedBy {T = U} (Err e) m f → F (only m) → IsAnsweredBy r P F
err-all {T} {U} r e P m f F i h w = err-answered r e P (λ (x : U). Unit {0}) F F i (answered-all {T = U} (Err e) m f (λ x. Unit {0}) F h w (λ x k. tt)) (λ n k. k)

pub err-rows : {T U A : Type 0} (r : Result T Halt) (e : Halt) (P : T → Type 0) (m : Marked A) (f : U → A) (F : Works) → IsErrAnd r (λ d. d ≡ e) → IsHaltedByRows {T = U} (Err e) m f → F (only m) → IsAnsweredBy r P F
err-rows {T} {U} r e P m f F i h w = err-all r e P m f F i (all_from_rows {T = U} (Err e) m f h) w

pub err-wide : {T U A : Type 0} (r : Result T Halt) (e : Halt) (P : T → Type 0) (m : Marked A) (f : U → A) (F : Works) → IsErrAnd r (λ d. d ≡ e) → IsHaltedByWide {T = U} (Err e) m f → F (only m) → IsAnsweredBy r P F
err-wide {T} {U} r e P m f F i h w = err-rows r e P m f F i (rows_from_wide {T = U} (Err e) m f h) w

pub err-memory : {T U A : Type 0} (r : Result T Halt) (e : Halt) (P : T → Type 0) (x : A) (f : U → A) (F : Works) → IsErrAnd r (λ d. d ≡ e) → IsHaltedByMemory {T = U} (Err e) (done x) f → IsAnsweredBy r P F
err-memory {T} {U} r e P x f F i h = err-answered r e P (λ (y : U). Unit {0}) F F i (answered-memory {T = U} (Err e) x f (λ y. Unit {0}) F h (λ y k. tt)) (λ n k. k)

-- a wide number that became a halt
pub wide-answered : {T : Type 0} (r : Result T Halt) (P : T → Type 0) (F : Works) (m : Marked (Unit {0})) → IsErrAnd r (λ e. e ≡ Wide) → F m → m.wide ≡ true → IsAnsweredBy r P F
wide-answered (Ok x) P F m i w h = absurd i
wide-answered {T} (Err e) P F m i w h = subst (λ (d : Halt). IsAnsweredBy {T = T} (Err d) P F) (sym i) (m, w, h)

-- whether a row holds at the state
pub hold-answered : {T : Type 0} (r : Result T Halt) (P : T → Type 0) (a : PlainPlant) (losses : List PlainLoss) (j : ℕ) (s : PlainState) → IsErrAnd r (λ e. e ≡ Wide) → IsWideHold a losses s
    → IsAnsweredBy r P (IsSettleWork a losses j s)
hold-answered r P a losses j s i (inl h) = wide-answered r P (IsSettleWork a losses j s) (only (safe_truth frac_arithmetic a s)) i (inl (inl refl)) h
hold-answered r P a losses j s i (inr h) = wide-answered r P (IsSettleWork a losses j s) (only (holding s losses)) i (inl (inr refl)) h
