-- Counts say how many pieces stand at each place, also where one comes.
use Rattle.std.proofs.Common.{◌≡◌, ◌≢◌, ◌<◌, ◌+◌, ℕ, zero, suc, List, [], ◌∷◌, ◌++◌, length, get_or, set, replicate, map, refl, sym, ap, ◌∙◌, subst, ◌==◌, arith, eqb-true}
use Rattle.std.specs.Prelude.{nat_lt}
use Rattle.std.specs.Global.{Vec}
use Rattle.std.proofs.lemmas.List.{get_or-set_same, get_or-set_other, length-set, map-append}
use Rattle.lhg_math.specs.Tests.{by_bool, false_true}
use Rattle.lhg_row.specs.Piece.{PlainPiece}
use Rattle.lhg_row.specs.Row.{PlainRow}
use Rattle.lhg_read.proofs.Collecting.{same_eq}
use Rattle.lhg_ctl.specs.ControllerGrammar.{count_at}
use Rattle.lhg_ctl.specs.Counted.{AreCounts}
use Rattle.lhg_ctl.specs.Views.{plain_placed}
use Rattle.lhg_ctl.proofs.ControllerRuns.{count-here, count-elsewhere}

-- nothing is counted at the beginning
pub none_counted : (n : ℕ) (counts : List ℕ) → counts ≡ replicate n 0 → AreCounts n counts []
none_counted n counts e = record { many = ap length e ∙ size n; each = λ k lt. ap (λ (xs : List ℕ). get_or xs k 0) e ∙ zeros n k }
  where
    size : (n : ℕ) → length {A = ℕ} (replicate n 0) ≡ n
    size zero = refl
    size (suc n) = ap (λ (k : ℕ). suc k) (size n)

    zeros : (n k : ℕ) → get_or {A = ℕ} (replicate n 0) k 0 ≡ 0
    zeros zero k = refl
    zeros (suc n) zero = refl
    zeros (suc n) (suc k) = zeros n k

-- the count at a place says whether there is room
pub same_room : (n : ℕ) (counts : List ℕ) (ps : List (ℕ × PlainPiece)) (k : ℕ) → k < n → AreCounts n counts ps → nat_lt (get_or counts k 0) 4096 ≡ nat_lt (count_at k ps) 4096
same_room n counts ps k lt h = ap (λ (m : ℕ). nat_lt m 4096) (h.each k lt)

-- one more at a place
pub one_counted : (n : ℕ) (counts : List ℕ) (ps : List (ℕ × PlainPiece)) (p : ℕ × PlainPiece) → p.0 < n → AreCounts n counts ps → AreCounts n (set counts p.0 (get_or counts p.0 0 + 1)) (ps ++ p ∷ [])
one_counted n counts ps p lt h = record { many = length-set counts p.0 (get_or counts p.0 0 + 1) ∙ h.many; each = each }
  where
    new : List ℕ
    new = set counts p.0 (get_or counts p.0 0 + 1)

    there : p.0 < length counts
    there = let e = h.many in omega (arith, e, lt)

    here : get_or new p.0 0 ≡ count_at p.0 (ps ++ p ∷ [])
    here = get_or-set_same counts p.0 (get_or counts p.0 0 + 1) 0 there ∙ ap (λ (m : ℕ). m + 1) (h.each p.0 lt) ∙ sym (count-here ps p)

    each : (k : ℕ) → k < n → get_or new k 0 ≡ count_at k (ps ++ p ∷ [])
    each k below =
        by_bool (p.0 == k)
        (λ e. subst (λ (i : ℕ). get_or new i 0 ≡ count_at i (ps ++ p ∷ [])) (eqb-true p.0 k e) here)
        (λ e. let apart : k ≢ p.0 = λ f. false_true (sym e ∙ ap (λ (i : ℕ). p.0 == i) f ∙ same_eq p.0) in
        get_or-set_other counts p.0 k (get_or counts p.0 0 + 1) 0 apart ∙ h.each k below ∙ sym (count-elsewhere k ps p e))

-- the same of the pieces that the code holds
pub counted_more : (n : ℕ) (counts new : List ℕ) (xs ys : List (ℕ × Vec PlainRow)) (p : ℕ × Vec PlainRow) → p.0 < n → AreCounts n counts (map plain_placed xs) → new ≡ set counts p.0 (get_or counts p.0 0 + 1) → ys ≡ xs ++ p ∷ [] → AreCounts n new (map plain_placed ys)
counted_more n counts new xs ys p lt h e f =
    subst (λ (cs : List ℕ). AreCounts n cs (map plain_placed ys)) (sym e)
    (subst (AreCounts n (set counts p.0 (get_or counts p.0 0 + 1))) (sym (ap (map plain_placed) f ∙ map-append plain_placed xs (p ∷ []))) (one_counted n counts (map plain_placed xs) (plain_placed p) lt h))
