-- A name that is copied to the front of an array of zeros is kept there.
use Rattle.std.proofs.Common.{◌≡◌, ◌-◌, ℕ, List, ◌++◌, length, drop, replicate, sym, ap, ◌∙◌, subst, arith, length-append}
use Rattle.std.proofs.Math.Seq.{take-append_seam, drop-append_seam}
use Rattle.std.proofs.lemmas.List.{length-replicate, drop-replicate}
use Rattle.lhg_plant.specs.Word.{IsName}
use Rattle.lhg_plant.specs.NameModel.{IsKeptName, inside}

-- the bytes of a name, and zeros up to 32
pub kept_name : (bytes : List ℕ) → IsName bytes → IsKeptName (inside (bytes ++ drop (length bytes) (replicate 32 0)) (length bytes))
kept_name bytes h =
    let rest : List ℕ = drop (length bytes) (replicate 32 0) in
    let same : rest ≡ replicate (32 - length bytes) 0 = drop-replicate (length bytes) 32 0 in
    let long : length rest ≡ 32 - length bytes = ap length same ∙ length-replicate {A = ℕ} (32 - length bytes) 0 in
    record {
      whole = omega (arith, h.fits, length-append bytes rest, long);
      within = h.fits;
      name = subst (λ (b : List ℕ). IsName b) (sym (take-append_seam bytes rest)) h;
      rest = drop-append_seam bytes rest ∙ same;
    }

-- the same of a copy of the bytes
pub kept_copy : (copied bytes : List ℕ) → copied ≡ bytes → IsName bytes
    → IsKeptName (inside (copied ++ drop (length bytes) (replicate 32 0)) (length bytes))
kept_copy copied bytes e h = subst (λ (b : List ℕ). IsKeptName (inside (b ++ drop (length bytes) (replicate 32 0)) (length bytes))) (sym e) (kept_name bytes h)
