-- A part is refused: the first line that cannot stand in it is the first that cannot stand in the whole.
use Rattle.std.proofs.Common.{◌≡◌, ◌+◌, ◌-◌, inl, inr, ℕ, List, [], ◌∷◌, ◌++◌, length, take, drop, refl, sym, ap, ◌∙◌, subst, arith, append_assoc, append-nil, length-append, take_at}
use Rattle.std.specs.Prelude.{slice_get}
use Rattle.std.proofs.Math.Seq.{take-append-add}
use Rattle.std.proofs.lemmas.List.{take-append-le, take-append-drop}
use Rattle.std.proofs.lemmas.Bool.{cases_lt}
use Rattle.lhg_lex.specs.FirstBad.{CanStand}
use Rattle.lhg_lex.specs.Lines.{lines_of}
use Rattle.lhg_lex.specs.Reading.{Reading, left_of}
use Rattle.lhg_lex.specs.declared.stops.ReadStop.{ReadStop}
use Rattle.lhg_lex.specs.declared.stops.ReadStop.TheVariants.{Bad, Memory}
use Rattle.lhg_lex.specs.declared.stops.What.{What}
use Rattle.lhg_read.specs.Rest.{AreBlank}
use Rattle.lhg_read.specs.TokenText.{HasCause, IsFirstFault, fault_at}
use Rattle.lhg_input.specs.Then.{IsThen, IsSome}
use Rattle.lhg_input.proofs.Parts.{IsPart, IsLaterPart, behind_first}
use Rattle.lhg_input.proofs.Readings.{start, Stands}
use Rattle.lhg_input.proofs.Splits.{split, get_behind}

-- the later ones of blank lines are blank
blank_rest : (xs ys : List (List ℕ)) → AreBlank (xs ++ ys) → AreBlank ys
blank_rest [] ys h = h
blank_rest (x ∷ xs) ys h = blank_rest xs ys h.1

module _ {V W : Type 0} (First : List (List ℕ) → V → Type 0) (Second : V → List (List ℕ) → W → Type 0) where
  -- ---- the first part

  module _ (follows : (lines : List (List ℕ)) (v : V) → First lines v → CanStand (IsSome (Second v)) []) where
    -- what can stand in the first part can stand in the whole
    stands_in_both : (lines : List (List ℕ)) → CanStand (IsSome First) lines → CanStand (IsSome (IsThen First Second)) lines
    stands_in_both lines c =
        let s = follows (lines ++ c.0) c.1.value c.1.text in (
          c.0 ++ s.0,
          record {
            value = (c.1.value, s.1.value);
            text = record { front = lines ++ c.0; rest = s.0; lines_are = sym (append_assoc lines c.0 s.0); first = c.1.text; second = s.1.text };
          },
        )

    module _ (lines : List (List ℕ)) (none : (k : ℕ) → ¬ IsSome First (take k lines)) where
      -- no beginning is a text of the first part
      no_front : (front rest : List (List ℕ)) (v : V) → lines ≡ front ++ rest → First front v → ⊥
      no_front front rest v e h = none (length front) (record { value = v; text = subst (λ ls. First ls v) (sym (ap (take (length front)) e ∙ take_at front rest (length front) refl)) h })

      -- so none is a text of both
      no_beginning : (k : ℕ) (front rest : List (List ℕ)) (v : V) → take k lines ≡ front ++ rest → First front v → ⊥
      no_beginning k front rest v e h = no_front front (rest ++ drop k lines) v (sym (take-append-drop k lines) ∙ ap (λ ls. ls ++ drop k lines) e ∙ append_assoc front rest (drop k lines)) h

      -- nor does one go on as a text of both where it does not go on as one of the first
      not_in_both : (n : ℕ) → ¬ CanStand (IsSome First) (take n lines) → ¬ CanStand (IsSome (IsThen First Second)) (take n lines)
      not_in_both n bad c =
          let t = c.1.text in
          elim (split (take n lines) c.0 t.front t.rest t.lines_are) [
            | inl l ↦ bad (l.between, record { value = c.1.value.0; text = subst (λ ls. First ls c.1.value.0) l.front t.first })
            | inr l ↦ no_beginning n t.front l.between c.1.value.0 l.front t.first
          ]

    first_fault : (s : Reading) (line column : ℕ) (what : What) → IsFirstFault (IsSome First) s line column what → IsFirstFault (IsSome (IsThen First Second)) s line column what
    first_fault s line column what h =
        let left = left_of s in
        record {
          n = h.n;
          none = λ k t. no_beginning left h.none k t.text.front t.text.rest t.value.0 t.text.lines_are t.text.first;
          counted = h.counted;
          first = record {
            counted = h.first.counted;
            before = stands_in_both (take (h.n - 1) left) h.first.before;
            bad = elim h.first.bad [
              | inl e ↦ inl (e.0, not_in_both left h.none h.n e.1)
              | inr e ↦ inr (e.0, λ t. no_front left h.none t.text.front t.text.rest t.value.0 t.text.lines_are t.text.first)
            ];
          };
          fault = h.fault;
        }

    -- the first part is refused
    pub first_refused : (s : Reading) (stop : ReadStop) → HasCause (IsSome First) s stop → HasCause (IsSome (IsThen First Second)) s stop
    first_refused s Memory h = tt
    first_refused s (Bad line column what) h = first_fault s line column what h

  -- ---- the second part

  module _ (a : IsPart First) (b : (v : V) → IsLaterPart (Second v)) (bytes : List ℕ) (s : Reading) (v : V) (r : Stands First bytes s v) where
    abbrev all : List (List ℕ)
    all = lines_of bytes

    abbrev left : List (List ℕ)
    left = left_of s

    -- the lines up to one that is left
    up_to : (n k : ℕ) → n ≡ length r.front + k → take n all ≡ r.front ++ take k left
    up_to n k e = ap (λ m. take m all) e ∙ ap (take (length r.front + k)) r.left ∙ take-append-add r.front left k

    -- a text of both that begins with the lines that are read
    second_of : (lines more : List (List ℕ)) (value : V × W) → lines ≡ r.front ++ more → IsThen First Second lines value → Second v more value.1
    second_of lines more value e t = (behind_first First Second a b r.front more v value r.text (subst (λ ls. IsThen First Second ls value) e t)).1

    -- and one that ends before them
    none_before : (k : ℕ) (value : V × W) → take k r.front ≡ take k all → IsThen First Second (take k all) value → Second v [] value.1
    none_before k value e t =
        let behind = drop k r.front in
        let whole : r.front ≡ t.front ++ (t.rest ++ behind) = sym (take-append-drop k r.front) ∙ ap (λ ls. ls ++ behind) (e ∙ t.lines_are) ∙ append_assoc t.front t.rest behind in
        let blank = a.end.ends t.front (t.rest ++ behind) value.0 v t.first (subst (λ ls. First ls v) whole r.text) in
        let longer : IsThen First Second r.front value = record {
          front = t.front;
          rest = t.rest ++ behind;
          lines_are = whole;
          first = t.first;
          second = (b value.0).part.end.goes_on t.rest behind value.1 t.second (blank_rest t.rest behind blank);
        } in
        second_of r.front [] value (sym (append-nil r.front)) longer

    -- no beginning is a text of both
    no_both : ((k : ℕ) → ¬ IsSome (Second v) (take k left)) → (k : ℕ) → ¬ IsSome (IsThen First Second) (take k all)
    no_both none k t =
        elim (cases_lt k (length r.front)) [
          | inl lt ↦
              let e : take k r.front ≡ take k all = sym (ap (take k) r.left ∙ take-append-le k r.front left (omega (arith, lt))) in
              none 0 (record { value = t.value.1; text = none_before k t.value e t.text })
          | inr ge ↦
              let j = k - length r.front in
              let e : k ≡ length r.front + j = omega (arith, ge) in
              none j (record { value = t.value.1; text = second_of (take k all) (take j left) t.value (up_to k j e) t.text })
        ]

    -- what can stand in the second part can stand in the whole
    stands_behind : (lines more : List (List ℕ)) → lines ≡ r.front ++ more → CanStand (IsSome (Second v)) more → CanStand (IsSome (IsThen First Second)) lines
    stands_behind lines more e c = (
      c.0,
      record {
        value = (v, c.1.value);
        text = record { front = r.front; rest = more ++ c.0; lines_are = ap (λ ls. ls ++ c.0) e ∙ append_assoc r.front more c.0; first = r.text; second = c.1.text };
      },
    )

    not_behind : (lines more : List (List ℕ)) → lines ≡ r.front ++ more → ¬ CanStand (IsSome (Second v)) more → ¬ CanStand (IsSome (IsThen First Second)) lines
    not_behind lines more e bad c = bad (
      c.0,
      record { value = c.1.value.1; text = second_of (lines ++ c.0) (more ++ c.0) c.1.value (ap (λ ls. ls ++ c.0) e ∙ append_assoc r.front more c.0) c.1.text },
    )

    second_fault : (line column : ℕ) (what : What) → IsFirstFault (IsSome (Second v)) s line column what → IsFirstFault (IsSome (IsThen First Second)) (start bytes) line column what
    second_fault line column what h =
        let n = length r.front + h.n in
        let counted = h.counted in
        let some = h.first.counted in
        let read = r.count in
        let size : length all ≡ length r.front + length left = ap length r.left ∙ length-append r.front left in
        let place : n - 1 ≡ length r.front + (h.n - 1) = omega (arith, some) in
        record {
          n = n;
          none = no_both h.none;
          counted = omega (arith, counted, read);
          first = record {
            counted = omega (arith, some);
            before = stands_behind (take (n - 1) all) (take (h.n - 1) left) (up_to (n - 1) (h.n - 1) place) h.first.before;
            bad = elim h.first.bad [
              | inl e ↦ let few = e.0 in inl (omega (arith, few, size), not_behind (take n all) (take h.n left) (up_to n h.n refl) e.1)
              | inr e ↦ let past = e.0 in inr (omega (arith, past, size), λ t. e.1 (record { value = t.value.1; text = second_of all left t.value r.left t.text }))
            ];
          };
          fault = ap fault_at (ap (slice_get all) place ∙ ap (λ ls. slice_get ls (length r.front + (h.n - 1))) r.left ∙ get_behind r.front left (h.n - 1)) ∙ h.fault;
        }

    -- the second part is refused
    pub second_refused : (stop : ReadStop) → HasCause (IsSome (Second v)) s stop → HasCause (IsSome (IsThen First Second)) (start bytes) stop
    second_refused Memory h = tt
    second_refused (Bad line column what) h = second_fault line column what h
