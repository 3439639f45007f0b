-- Why does a list come back from its alike rows?
use Rattle.std.specs.Prelude.{◌≡◌, true, false, [], ◌∷◌, map, length}
use Rattle.std.proofs.Common.{refl, sym, ap, ◌∙◌, inl, inr}
use Rattle.std.proofs.lemmas.Bool.{not-true}
use Rattle.std.proofs.lemmas.List.{map-append}
use Rattle.lhg_math.specs.Number.{mul}
use Rattle.lhg_math.specs.NumberOrder.{mul_positive}
use Rattle.lhg_math.specs.Tests.{AllOf, Every, false_true}
use Rattle.lhg_num.specs.Arithmetic.{Arithmetic, IsLawful, IsMultiple, scaled, scaled-held}
use Rattle.lhg_num.specs.FracCanon.{canon_frac, canon_multiple}
use Rattle.lhg_row.specs.Row.{PlainRow}
use Rattle.lhg_row.specs.Piece.{PlainPiece}
use Rattle.lhg_row.specs.Constant.{is_constant, varies, is_never}
use Rattle.lhg_row.specs.ConstantLaws.{is_never-is}
use Rattle.lhg_row.specs.ValueLaws.{scaled_row}
use Rattle.lhg_row.specs.Trim.{entries_of, row_of, canon, IsScaled, IsSettledOrNothing}
use Rattle.lhg_row.specs.TrimLaws.{row_of-scaled}
use Rattle.lhg_elim.specs.Alike.{IsAlike, AllAlike}
use Rattle.lhg_elim.specs.AlikeRows.{scaled-map}
use Rattle.lhg_elim.specs.AlikeTrim.{never-multiple, held_entries}
use Rattle.lhg_elim.specs.Turned.{IsTurned, AllTurned}

module _ (a : Arithmetic) (laws : IsLawful a) where
  module _ (q s r : PlainRow) (h : IsAlike a q s) (t : IsTurned a s r) where
    -- the entries that are scaled are a multiple of those of the first row
    multiple : IsMultiple (entries_of q) (canon_frac (entries_of s))
    multiple =
        let m = canon_multiple (entries_of s) in
        let entries : entries_of s ≡ map (λ x. mul h.factor x) (entries_of q) = ap entries_of h.is ∙ sym (map-append (λ x. mul h.factor x) q.coefs (q.bound ∷ [])) in
        record {
          factor = mul m.factor h.factor;
          positive = mul_positive m.factor h.factor m.positive h.positive;
          entries = m.entries ∙ ap (map (λ x. mul m.factor x)) entries ∙ scaled-map m.factor h.factor (entries_of q);
        }

    -- so the type makes of them what it makes of the first row
    made : r ≡ row_of q.strict (a.canon_of (entries_of q))
    made =
        t.is ∙ ap (row_of s.strict) (laws.same (entries_of q) (canon_frac (entries_of s)) (held_entries a a q s h) t.held multiple)
        ∙ ap (λ (u : PlainRow). row_of u.strict (a.canon_of (entries_of q))) h.is

    -- which is the first row where that is scaled
    scaled-back : is_constant q ≡ false → IsScaled a q → r ≡ q
    scaled-back e i =
        let c : (canon a q).value ≡ row_of q.strict (scaled a (entries_of q)) = rw e refl in
        made ∙ ap (row_of q.strict) (sym (scaled-held a (entries_of q) (held_entries a a q s h))) ∙ sym c ∙ i

    -- and where it is 0 < 0
    never-back : is_never q ≡ true → r ≡ q
    never-back e =
        let m = laws.multiple (entries_of q) (held_entries a a q s h) in
        let is = is_never-is q e in
        made ∙ ap (row_of q.strict) m.entries ∙ row_of-scaled m.factor q ∙ ap (scaled_row m.factor) is ∙ never-multiple m.factor (length q.coefs) ∙ sym is

  -- scaled rows with a variable come back
  settled-back : (qs ss rs : PlainPiece) → Every varies qs → AllOf (IsScaled a) qs → AllAlike a qs ss → AllTurned a ss rs → rs ≡ qs
  settled-back [] [] [] v c h t = refl
  settled-back [] [] (r ∷ rs) v c h t = absurd t
  settled-back [] (s ∷ ss) rs v c h t = absurd h
  settled-back (q ∷ qs) [] rs v c h t = absurd h
  settled-back (q ∷ qs) (s ∷ ss) [] v c h t = absurd t
  settled-back (q ∷ qs) (s ∷ ss) (r ∷ rs) v c h t =
      ap (λ u. u ∷ rs) (scaled-back q s r h.0 t.0 (not-true (is_constant q) v.0) c.0) ∙ ap (λ us. q ∷ us) (settled-back qs ss rs v.1 c.1 h.1 t.1)

  -- and so does 0 < 0
  nothing-back : (q : PlainRow) (ss rs : PlainPiece) → is_never q ≡ true → AllAlike a (q ∷ []) ss → AllTurned a ss rs → rs ≡ q ∷ []
  nothing-back q [] rs e h t = absurd h
  nothing-back q (s ∷ []) [] e h t = absurd t
  nothing-back q (s ∷ []) (r ∷ []) e h t = ap (λ u. u ∷ []) (never-back q s r h.0 t.0 e)
  nothing-back q (s ∷ []) (r ∷ u ∷ rs) e h t = absurd t.1
  nothing-back q (s ∷ u ∷ ss) rs e h t = absurd h.1

  -- a list that trim leaves as it is comes back from its alike rows
  pub turned-back : (qs ss rs : PlainPiece) → IsSettledOrNothing a qs → AllAlike a qs ss → AllTurned a ss rs → rs ≡ qs
  turned-back [] ss rs (inl e) h t = false_true e
  turned-back (q ∷ []) ss rs (inl e) h t = nothing-back q ss rs e h t
  turned-back (q ∷ p ∷ qs) ss rs (inl e) h t = false_true e
  turned-back qs ss rs (inr i) h t = settled-back qs ss rs i.vary i.scaled h t
