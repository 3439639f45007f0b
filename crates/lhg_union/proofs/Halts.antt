-- How is an answer of the whole told by an answer of a part?
use Rattle.std.proofs.Common.{◌≡◌, Result, Ok, Err, ap, ◌∙◌}
use Rattle.std.specs.Result.{IsErrAnd}
use Rattle.lhg_num.specs.Marked.{Marked, done}
use Rattle.lhg_num.specs.MarkedLaws.{IsPart}
use Rattle.lhg_num.specs.Halting.{IsHaltedBy, IsHaltedByRows, IsHaltedByPieces, IsHaltedByMemory}
use Rattle.lhg_num.specs.declared.refusals.Halt.{Halt}
use Rattle.lhg_num.specs.declared.refusals.Halt.TheVariants.{Wide, Rows, Pieces, Memory}
use Rattle.lhg_num.proofs.Halted.{all_from_rows, all_from_pieces, part_halts}

-- an answer that only memory refuses
pub rows_of_memory : {T A B : Type 0} (r : Result T Halt) (x : A) (f : T → A) (m : Marked B) (h : A → B) → IsHaltedByMemory r (done x) f → h x ≡ m.value → IsHaltedByRows r m (λ t. h (f t))
rows_of_memory (Ok y) x f m h k e = ap h k ∙ e
rows_of_memory (Err Wide) x f m h k e = absurd k
rows_of_memory (Err Rows) x f m h k e = absurd k
rows_of_memory (Err Pieces) x f m h k e = absurd k
rows_of_memory (Err Memory) x f m h k e = tt

-- a halt of a part that halts for numbers and rows
pub all_on_rows : {T U A B : Type 0} (r : Result T Halt) (e : Halt) (whole : Marked A) (f : T → A) (part : Marked B) (h : U → B)
    → IsErrAnd r (λ d. d ≡ e) → IsHaltedByRows {T = U} (Err e) part h → IsPart whole part → IsHaltedBy r whole f
all_on_rows {T} {U} r e whole f part h i k p = part_halts r e whole f part h i (all_from_rows {T = U} (Err e) part h k) p

-- a halt of a part that halts for pieces
pub all_on_pieces : {T U A B : Type 0} (r : Result T Halt) (e : Halt) (whole : Marked A) (f : T → A) (part : Marked B) (h : U → B)
    → IsErrAnd r (λ d. d ≡ e) → IsHaltedByPieces {T = U} (Err e) part h → IsPart whole part → IsHaltedBy r whole f
all_on_pieces {T} {U} r e whole f part h i k p = part_halts r e whole f part h i (all_from_pieces {T = U} (Err e) part h k) p
