-- How are the bytes of a name kept in an array of 32 bytes?
use Rattle.std.specs.Prelude.{◌≡◌, ◌≤◌, ℕ, ◌-◌, List, ◌++◌, length, take, drop, replicate}
use Rattle.std.proofs.Common.{ap, sym, ◌∙◌, arith}
use Rattle.std.proofs.lemmas.List.{take-append-drop, length-take-le}
use Rattle.lhg_plant.specs.Word.{IsName}
use Rattle.lhg_plant.specs.declared.names.Name.TheInside.{Inside}

-- the bytes in use: the first ones of the array
abbrev pub name_bytes : Inside → List ℕ
name_bytes n = take n.used n.array

-- the bytes in use are a name, and the others are 0
pub record IsKeptName (n : Inside) : Type 0 where
  pub whole : length n.array ≡ 32
  pub within : n.used ≤ 32
  pub name : IsName (take n.used n.array)
  pub rest : drop n.used n.array ≡ replicate (32 - n.used) 0

-- an array, of which so many bytes are in use
abbrev pub inside : List ℕ → ℕ → Inside
inside array used = record { array = array; used = used }

-- the array that keeps these bytes
abbrev pub fields_of : List ℕ → Inside
fields_of bytes = inside (bytes ++ replicate (32 - length bytes) 0) (length bytes)

-- the bytes in use determine the array
pub fields_back : (n : Inside) → IsKeptName n → fields_of (name_bytes n) ≡ n
fields_back n h =
    let used : length (take n.used n.array) ≡ n.used = length-take-le n.used n.array (omega (arith, h.whole, h.within)) in
    ap (λ (m : ℕ). inside (take n.used n.array ++ replicate (32 - m) 0) m) used
    ∙ ap (λ r. inside (take n.used n.array ++ r) n.used) (sym h.rest)
    ∙ ap (λ r. inside r n.used) (take-append-drop n.used n.array)
