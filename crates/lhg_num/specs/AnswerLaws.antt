-- What is known of an answer that may halt, and of the halt that a call hands on, whichever halts may come?
use Rattle.std.specs.Prelude.{◌≡◌, Bool, true, false, cond, Result, Ok, Err, IfOk, IfErr, OnOk}
use Rattle.std.proofs.Common.{refl, sym, ◌∙◌, subst}
use Rattle.std.specs.Result.{IsErr, IsErrAnd}
use Rattle.lhg_math.specs.Tests.{false_true}
use Rattle.lhg_num.specs.Marked.{Marked, IsRest}
use Rattle.lhg_num.specs.MarkedLaws.{IsPart}
use Rattle.lhg_num.specs.declared.refusals.Halt.{Halt}
use Rattle.lhg_num.specs.declared.refusals.Halt.TheVariants.{Wide, Rows, Pieces, Memory}
use Rattle.lhg_num.specs.Halting.{Halts, of_all, of_rows, of_numbers, of_pieces, of_memory, IsHalted, IsHaltedByMemory, IsWideBy}

-- ---- who may halt for less may halt for more
-- the halts of one call are among those of another
pub record AreAmong (may more : Halts) : Type 0 where
  pub wide : may.wide ≡ true → more.wide ≡ true
  pub rows : may.rows ≡ true → more.rows ≡ true
  pub pieces : may.pieces ≡ true → more.pieces ≡ true

pub among_self : (may : Halts) → AreAmong may may
among_self may = record { wide = λ h. h; rows = λ h. h; pieces = λ h. h }

pub among_all : (may : Halts) → AreAmong may of_all
among_all may = record { wide = λ h. refl; rows = λ h. refl; pieces = λ h. refl }

pub numbers_among_rows : AreAmong of_numbers of_rows
numbers_among_rows = record { wide = λ h. h; rows = λ h. false_true h; pieces = λ h. h }

pub memory_among : (more : Halts) → AreAmong of_memory more
memory_among more = record { wide = λ h. false_true h; rows = λ h. false_true h; pieces = λ h. false_true h }

tied : {X Y : Type 0} (b c : Bool) → (b ≡ true → c ≡ true) → (X → Y) → cond b X ⊥ → cond c Y ⊥
tied {X} {Y} true c g f x = subst (λ d. cond d Y ⊥) (sym (g refl)) (f x)
tied false c g f x = absurd x

-- an answer of a call that halts for less is one that halts for more
pub halts_for_more : (may more : Halts) {T A : Type 0} (r : Result T Halt) (m : Marked A) (f : T → A) → AreAmong may more → IsHalted may r m f → IsHalted more r m f
halts_for_more may more (Ok x) m f w h = h
halts_for_more may more (Err Wide) m f w h = tied may.wide more.wide w.wide (λ x. x) h
halts_for_more may more (Err Rows) m f w h = tied may.rows more.rows w.rows (λ x. x) h
halts_for_more may more (Err Pieces) m f w h = tied may.pieces more.pieces w.pieces (λ x. x) h
halts_for_more may more (Err Memory) m f w h = h

-- ---- a halt of a part is a halt of the whole
-- whatever both may halt for
pub part_halts_for : (may : Halts) {T U A B : Type 0} (r : Result T Halt) (e : Halt) (m : Marked A) (f : T → A) (n : Marked B) (h : U → B)
    → IsErrAnd r (λ d. d ≡ e) → IsHalted {T = U} may (Err e) n h → IsPart m n → IsHalted may r m f
part_halts_for may (Ok x) e m f n h i k p = absurd i
part_halts_for may {T} {U} {A} {B} (Err d) e m f n h i k p = subst (λ (w : Halt). IsHalted {T = T} may (Err w) m f) (sym i) (on e k)
  where
    on : (e : Halt) → IsHalted {T = U} may (Err e) n h → IsHalted {T = T} may (Err e) m f
    on Wide k = tied may.wide may.wide (λ x. x) p.wide k
    on Rows k = tied may.rows may.rows (λ x. x) p.rows k
    on Pieces k = tied may.pieces may.pieces (λ x. x) p.pieces k
    on Memory k = tt

-- the same, where the whole may halt for more
pub more_halts_for : (may more : Halts) {T U A B : Type 0} (r : Result T Halt) (e : Halt) (m : Marked A) (f : T → A) (n : Marked B) (h : U → B)
    → AreAmong may more → IsErrAnd r (λ d. d ≡ e) → IsHalted {T = U} may (Err e) n h → IsPart m n → IsHalted more r m f
more_halts_for may more {T} {U} r e m f n h w i k p = part_halts_for more r e m f n h i (halts_for_more may more {T = U} (Err e) n h w k) p

-- ---- what is left of a calculation, and what is exact of it
-- an answer of what is left is one of the whole
pub rest_halts_for : (may : Halts) {T A : Type 0} (r : Result T Halt) (whole rest : Marked A) (f : T → A) → IsRest whole rest → IsHalted may r rest f → IsHalted may r whole f
rest_halts_for may (Ok x) whole rest f i h = h ∙ i.same
rest_halts_for may (Err Wide) whole rest f i h = tied may.wide may.wide (λ x. x) i.wide h
rest_halts_for may (Err Rows) whole rest f i h = tied may.rows may.rows (λ x. x) i.rows h
rest_halts_for may (Err Pieces) whole rest f i h = tied may.pieces may.pieces (λ x. x) i.pieces h
rest_halts_for may (Err Memory) whole rest f i h = h

-- what is exact of the value of the calculus is exact of an answer that is this value
pub exact_for : (may : Halts) {T A : Type 0} (r : Result T Halt) (m : Marked A) (f : T → A) (P : A → Type 0) → IsHalted may r m f → P m.value → IfOk r (λ x. P (f x))
exact_for may (Ok x) m f P h p = subst P (sym h) p
exact_for may (Err e) m f P h p = tt

-- what follows from the value of the calculus holds of an answer
pub ok_for : (may : Halts) {T A : Type 0} (r : Result T Halt) (m : Marked A) (f : T → A) (P : T → Type 0) → IsHalted may r m f → ((x : T) → f x ≡ m.value → P x) → IfOk r P
ok_for may (Ok x) m f P h e = e x h
ok_for may (Err d) m f P h e = tt

-- ---- answers that only memory refuses
-- one that gives the value of another calculation, whatever that may halt for
pub memory_halts_for : (may : Halts) {T A B : Type 0} (r : Result T Halt) (part : Marked B) (f : T → B) (whole : Marked A) (h : T → A)
    → IsHaltedByMemory r part f → ((x : T) → f x ≡ part.value → h x ≡ whole.value) → IsHalted may r whole h
memory_halts_for may (Ok x) part f whole h k e = e x k
memory_halts_for may (Err Wide) part f whole h k e = absurd k
memory_halts_for may (Err Rows) part f whole h k e = absurd k
memory_halts_for may (Err Pieces) part f whole h k e = absurd k
memory_halts_for may (Err Memory) part f whole h k e = tt

-- its error is want of memory
pub err_memory : {T A : Type 0} (r : Result T Halt) (m : Marked A) (f : T → A) → IsHaltedByMemory r m f → IfErr r (λ h. h ≡ Memory)
err_memory (Ok x) m f h = tt
err_memory (Err Wide) m f h = absurd h
err_memory (Err Rows) m f h = absurd h
err_memory (Err Pieces) m f h = absurd h
err_memory (Err Memory) m f h = refl

-- want of memory may come whatever the call may halt for
pub memory_on : (may : Halts) {T A : Type 0} (r : Result T Halt) (e : Halt) (m : Marked A) (f : T → A) → IsErrAnd r (λ d. d ≡ e) → e ≡ Memory → IsHalted may r m f
memory_on may (Ok x) e m f i k = absurd i
memory_on may {T} (Err d) e m f i k = subst (λ (w : Halt). IsHalted {T = T} may (Err w) m f) (sym (i ∙ k)) tt

-- ---- answers that may be refused for a number
-- an answer of what is left is one of the whole
pub rest_answers : {T E A : Type 0} (r : Result T E) (whole rest : Marked A) (f : T → A) → IsRest whole rest → IsWideBy r rest f → IsWideBy r whole f
rest_answers (Ok x) whole rest f i h = h ∙ i.same
rest_answers (Err e) whole rest f i h = i.wide h

-- what is exact of the value of the calculus is exact of an answer that is this value
pub wide_exact : {T E A : Type 0} (r : Result T E) (m : Marked A) (f : T → A) (P : A → Type 0) → IsWideBy r m f → P m.value → IfOk r (λ x. P (f x))
wide_exact (Ok x) m f P h p = subst P (sym h) p
wide_exact (Err e) m f P h p = tt

-- a refusal that is handed on is one of the whole
pub wide_on : {T E A B : Type 0} (r : Result T E) (whole : Marked A) (f : T → A) (part : Marked B) → IsErr r → IsPart whole part → part.wide ≡ true → IsWideBy r whole f
wide_on (Ok x) whole f part h p k = false_true h
wide_on (Err e) whole f part h p k = p.wide k

-- ---- facts of a value
-- what holds anyway holds where there is a value
pub on_ok : {T E : Type 0} (r : Result T E) (P : Type 0) → P → OnOk r P
on_ok (Ok x) P h = h
on_ok (Err e) P h = tt

-- a fact of an answer gives another one
pub on_ok_then : {T E : Type 0} (r : Result T E) (P Q : Type 0) → (P → Q) → OnOk r P → OnOk r Q
on_ok_then (Ok x) P Q f h = f h
on_ok_then (Err e) P Q f h = tt
