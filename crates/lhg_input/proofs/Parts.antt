-- Parts of an input, one behind the other: what is said of each part holds of the whole.
use Rattle.std.proofs.Common.{◌≡◌, inl, inr, ℕ, List, ◌++◌, sym, ap, ◌∙◌, subst, append_assoc}
use Rattle.lhg_read.specs.Rest.{AreBlank}
use Rattle.lhg_read.specs.TextLaws.{HasBlankEnd}
use Rattle.lhg_input.specs.Then.{IsThen}
use Rattle.lhg_input.proofs.Splits.{split}

-- blank lines may follow a text of the grammar; where it goes on as one only blank lines do; and it has one value at most
pub record IsPart {V : Type 0} (Is : List (List ℕ) → V → Type 0) : Type 0 where
  pub end : HasBlankEnd Is
  pub one_value : (lines : List (List ℕ)) (v w : V) → Is lines v → Is lines w → v ≡ w

-- blank lines may stand in front of it too, and change nothing
pub record IsLaterPart {V : Type 0} (Is : List (List ℕ) → V → Type 0) : Type 0 where
  pub part : IsPart Is
  pub put : (blanks lines : List (List ℕ)) (v : V) → AreBlank blanks → Is lines v → Is (blanks ++ lines) v
  pub dropped : (blanks lines : List (List ℕ)) (v : V) → AreBlank blanks → Is (blanks ++ lines) v → Is lines v

same_pair : {V W : Type 0} (v w : V × W) → v.0 ≡ w.0 → v.1 ≡ w.1 → v ≡ w
same_pair v w e f = ap (λ x. (x, v.1)) e ∙ ap (λ y. (w.0, y)) f

module _ {V W : Type 0} (First : List (List ℕ) → V → Type 0) (Second : V → List (List ℕ) → W → Type 0) (a : IsPart First) (b : (v : V) → IsLaterPart (Second v)) where
  -- behind a text of the first part stands one of the second
  pub behind_first : (front more : List (List ℕ)) (v : V) (value : V × W) → First front v → IsThen First Second (front ++ more) value → (value.0 ≡ v) × Second v more value.1
  behind_first front more v value h t = elim (split front more t.front t.rest t.lines_are) [
    | inl l ↦
        let text : First (front ++ l.between) value.0 = subst (λ ls. First ls value.0) l.front t.first in
        let blank = a.end.ends front l.between v value.0 h text in
        let same : value.0 ≡ v = a.one_value (front ++ l.between) value.0 v text (a.end.goes_on front l.between v h blank) in
        (same, subst (λ ls. Second v ls value.1) (sym l.rest) ((b v).put l.between t.rest value.1 blank (subst (λ u. Second u t.rest value.1) same t.second)))
    | inr l ↦
        let text : First (t.front ++ l.between) v = subst (λ ls. First ls v) l.front h in
        let blank = a.end.ends t.front l.between value.0 v t.first text in
        let same : value.0 ≡ v = a.one_value (t.front ++ l.between) value.0 v (a.end.goes_on t.front l.between value.0 t.first blank) text in
        (same, (b v).dropped l.between more value.1 blank (subst (λ ls. Second v ls value.1) l.rest (subst (λ u. Second u t.rest value.1) same t.second)))
  ]

  -- the lines of a text of both, with further lines
  further : (lines more : List (List ℕ)) (v w : V × W) (h : IsThen First Second lines v) → IsThen First Second (lines ++ more) w → IsThen First Second (h.front ++ (h.rest ++ more)) w
  further lines more v w h k = subst (λ ls. IsThen First Second ls w) (ap (λ ls. ls ++ more) h.lines_are ∙ append_assoc h.front h.rest more) k

  -- both together are a part again
  pub both_parts : IsPart (IsThen First Second)
  both_parts = record {
    end = record {
      goes_on = λ lines more v h blank. record {
        front = h.front;
        rest = h.rest ++ more;
        lines_are = ap (λ ls. ls ++ more) h.lines_are ∙ append_assoc h.front h.rest more;
        first = h.first;
        second = (b v.0).part.end.goes_on h.rest more v.1 h.second blank;
      };
      ends = λ lines more v w h k.
          let s = behind_first h.front (h.rest ++ more) v.0 w h.first (further lines more v w h k) in
          (b v.0).part.end.ends h.rest more v.1 w.1 h.second s.1;
    };
    one_value = λ lines v w h k.
        let s = behind_first h.front h.rest v.0 w h.first (subst (λ ls. IsThen First Second ls w) h.lines_are k) in
        same_pair v w (sym s.0) ((b v.0).part.one_value h.rest v.1 w.1 h.second s.1);
  }
