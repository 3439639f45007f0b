-- A refusal is handed on.
use Rattle.std.proofs.Common.{◌≡◌, List, Option, Some, None, Result, Ok, Err}
use Rattle.lhg_read.specs.Options.{joined}
use Rattle.lhg_read.specs.Refusals.{IsRefused, IsAppended}
use Rattle.lhg_read.specs.declared.refusal.Refusal.{Refusal}
use Rattle.lhg_read.specs.declared.refusal.Refusal.TheVariants.{NotHere, Memory}

-- where the part is none, so is the whole
pub refused_whole : {A B : Type 0} (r : Refusal) (part : Option A) (all : Option B) → (part ≡ None → all ≡ None) → IsRefused r part → IsRefused r all
refused_whole NotHere part all f h = f h
refused_whole Memory part all f h = tt

-- what is appended by the last call
pub appended_last : {T A : Type 0} (r : Result T Refusal) (old mid new : List A) (o all : Option (List A)) → (o ≡ None → all ≡ None) → (joined (Some mid) o ≡ Some new → joined (Some old) all ≡ Some new)
    → IsAppended r mid new o → IsAppended r old new all
appended_last (Ok x) old mid new o all f g h = g h
appended_last (Err r) old mid new o all f g h = refused_whole r o all f h
