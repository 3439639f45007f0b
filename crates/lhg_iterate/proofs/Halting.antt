-- Which halts of a part are halts of the whole, and which are stops of the iteration?
use Rattle.std.proofs.Common.{◌≡◌, ◌≤◌, ℕ, Result, Ok, Err, subst, sym}
use Rattle.std.specs.Prelude.{IfOk, OnOk}
use Rattle.std.specs.Result.{IsErrAnd}
use Rattle.lhg_num.specs.Marked.{Marked}
use Rattle.lhg_num.specs.MarkedLaws.{IsPart}
use Rattle.lhg_num.specs.Halting.{IsHaltedBy, IsHaltedByMemory}
use Rattle.lhg_num.specs.declared.refusals.Halt.{Halt}
use Rattle.lhg_num.specs.declared.refusals.Halt.TheVariants.{Wide, Rows, Pieces, Memory}
use Rattle.lhg_plant.specs.Plant.{PlainPlant}
use Rattle.lhg_loss.specs.Iterate.{work}
use Rattle.lhg_loss.specs.LimitFacts.{IsComputed}
use Rattle.lhg_iterate.specs.Outcomes.{IsStoppedBy, stop_of}

-- an answer that only memory refuses
pub on_memory : {T U A B : Type 0} (r : Result T Halt) (e : Halt) (whole : Marked A) (f : T → A) (part : Marked B) (h : U → B)
    → IsErrAnd r (λ d. d ≡ e) → IsHaltedByMemory {T = U} (Err e) part h → IsHaltedBy r whole f
on_memory (Ok x) e whole f part h i k = absurd i
on_memory {T} {U} {A} {B} (Err d) e whole f part h i k = subst (λ (w : Halt). IsHaltedBy {T = T} (Err w) whole f) (sym i) (on e k)
  where
    on : (e : Halt) → IsHaltedByMemory {T = U} (Err e) part h → IsHaltedBy {T = T} (Err e) whole f
    on Wide k = absurd k
    on Rows k = absurd k
    on Pieces k = absurd k
    on Memory k = tt

-- an answer that only memory refuses, where its value is that of the calculus
pub from_memory : {T A B : Type 0} (r : Result T Halt) (part : Marked B) (f : T → B) (whole : Marked A) (h : T → A) → IsHaltedByMemory r part f → ((x : T) → f x ≡ part.value → h x ≡ whole.value) → IsHaltedBy r whole h
from_memory (Ok x) part f whole h k e = e x k
from_memory (Err Wide) part f whole h k e = absurd k
from_memory (Err Rows) part f whole h k e = absurd k
from_memory (Err Pieces) part f whole h k e = absurd k
from_memory (Err Memory) part f whole h k e = tt

-- a halt in the work of a round that is computed
pub stop_in : {T A : Type 0} (a : PlainPlant) (budget i : ℕ) (e : Halt) (part : Marked A) (f : T → A) → i ≤ budget → IsComputed a i → IsPart (work a budget i) part
    → IsHaltedBy {T = T} (Err e) part f → IsStoppedBy a budget (stop_of e i)
stop_in a budget i Wide part f within computed p h = record { within = within; computed = computed; marked = p.wide h }
stop_in a budget i Rows part f within computed p h = record { within = within; computed = computed; marked = p.rows h }
stop_in a budget i Pieces part f within computed p h = record { within = within; computed = computed; marked = p.pieces h }
stop_in a budget i Memory part f within computed p h = tt

-- ---- facts of an answer
-- what holds anyway holds where there is a value
pub on_ok : {T E : Type 0} (r : Result T E) (P : Type 0) → P → OnOk r P
on_ok (Ok x) P h = h
on_ok (Err e) P h = tt

-- what follows from the value of a call that only memory refuses
pub ok_memory : {T B : Type 0} (r : Result T Halt) (part : Marked B) (f : T → B) (P : T → Type 0) → IsHaltedByMemory r part f → ((x : T) → f x ≡ part.value → P x) → IfOk r P
ok_memory (Ok x) part f P h e = e x h
ok_memory (Err d) part f P h e = tt

-- a fact of an answer gives another one
pub ok_then : {T E : Type 0} (r : Result T E) (P Q : Type 0) → (P → Q) → OnOk r P → OnOk r Q
ok_then (Ok x) P Q f h = f h
ok_then (Err e) P Q f h = tt
