-- What equations between answers say.
use Rattle.std.proofs.Common.{◌≡◌, Result, Ok, Err}

-- equal values
pub ok_same : {A B : Type 0} {x y : A} → ◌≡◌ {A = Result A B} (Ok x) (Ok y) → x ≡ y
ok_same e = cc

-- equal errors
pub err_same : {A B : Type 0} {x y : B} → ◌≡◌ {A = Result A B} (Err x) (Err y) → x ≡ y
err_same e = cc

-- a value is no error
pub ok_not_err : {A B : Type 0} {x : A} {y : B} → ◌≡◌ {A = Result A B} (Ok x) (Err y) → ⊥
ok_not_err e = cc
