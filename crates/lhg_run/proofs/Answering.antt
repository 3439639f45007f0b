-- Answers and halts that are handed on.
use Rattle.std.proofs.Common.{◌≡◌, true, Result, Ok, Err, sym, subst}
use Rattle.std.specs.Result.{IsErrAnd}
use Rattle.lhg_num.specs.Halting.{IsHaltedByWide, IsHaltedByRows, IsHaltedByMemory}
use Rattle.lhg_num.specs.Marked.{Marked}
use Rattle.lhg_num.specs.declared.refusals.Halt.{Halt}
use Rattle.lhg_num.specs.declared.refusals.Halt.TheVariants.{Wide, Rows, Pieces, Memory}
use Rattle.lhg_run.specs.Answers.{IsAnswered}

module _ {T : Type 0} (r : Result T Halt) (P : T → Type 0) (W R : Type 0) where
  -- a halt with its cause
  by_halt : (e : Halt) → IsErrAnd r (λ d. d ≡ e) → IsAnswered {T = T} (Err e) P W R → IsAnswered r P W R
  by_halt e i h = go r i
    where
      go : (q : Result T Halt) → IsErrAnd q (λ d. d ≡ e) → IsAnswered q P W R
      go (Ok x) k = absurd k
      go (Err d) k = subst (λ (w : Halt). IsAnswered {T = T} (Err w) P W R) (sym k) h

  -- a number of the whole is refused
  pub answered-number : IsErrAnd r (λ d. d ≡ Wide) → W → IsAnswered r P W R
  answered-number i w = by_halt Wide i w

  -- memory is out
  pub answered-memory : IsErrAnd r (λ d. d ≡ Memory) → IsAnswered r P W R
  answered-memory i = by_halt Memory i tt

  module _ {U : Type 0} (e : Halt) (i : IsErrAnd r (λ d. d ≡ e)) where
    -- a call that halts for numbers
    pub answered-wide : {B : Type 0} (m : Marked B) (f : U → B) → IsHaltedByWide {T = U} (Err e) m f → (m.wide ≡ true → W) → IsAnswered r P W R
    answered-wide m f h w = by_halt e i (go e h)
      where
        go : (d : Halt) → IsHaltedByWide {T = U} (Err d) m f → IsAnswered {T = T} (Err d) P W R
        go Wide k = w k
        go Rows k = absurd k
        go Pieces k = absurd k
        go Memory k = tt

    -- a call that halts for numbers and rows
    pub answered-rows : {B : Type 0} (m : Marked B) (f : U → B) → IsHaltedByRows {T = U} (Err e) m f → (m.wide ≡ true → W) → (m.rows ≡ true → R) → IsAnswered r P W R
    answered-rows m f h w s = by_halt e i (go e h)
      where
        go : (d : Halt) → IsHaltedByRows {T = U} (Err d) m f → IsAnswered {T = T} (Err d) P W R
        go Wide k = w k
        go Rows k = s k
        go Pieces k = absurd k
        go Memory k = tt

    -- a call that halts for want of memory alone
    pub answered-none : {B : Type 0} (m : Marked B) (f : U → B) → IsHaltedByMemory {T = U} (Err e) m f → IsAnswered r P W R
    answered-none m f h = by_halt e i (go e h)
      where
        go : (d : Halt) → IsHaltedByMemory {T = U} (Err d) m f → IsAnswered {T = T} (Err d) P W R
        go Wide k = absurd k
        go Rows k = absurd k
        go Pieces k = absurd k
        go Memory k = tt

    -- a call of a run
    pub answered-on : (Q : U → Type 0) (V S : Type 0) → IsAnswered {T = U} (Err e) Q V S → (V → W) → (S → R) → IsAnswered r P W R
    answered-on Q V S h w s = by_halt e i (go e h)
      where
        go : (d : Halt) → IsAnswered {T = U} (Err d) Q V S → IsAnswered {T = T} (Err d) P W R
        go Wide k = w k
        go Rows k = s k
        go Pieces k = absurd k
        go Memory k = tt

-- an answer of a call of a run that is handed on
pub answered-as : {T : Type 0} (r : Result T Halt) (P Q : T → Type 0) (W V R S : Type 0) → IsAnswered r Q V S → ((x : T) → Q x → P x) → (V → W) → (S → R) → IsAnswered r P W R
answered-as (Ok x) P Q W V R S h f w s = f x h
answered-as (Err Wide) P Q W V R S h f w s = w h
answered-as (Err Rows) P Q W V R S h f w s = s h
answered-as (Err Pieces) P Q W V R S h f w s = h
answered-as (Err Memory) P Q W V R S h f w s = tt
