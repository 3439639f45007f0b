-- A layer is made piece by piece: each crossing that the pieces so far do not cover is a new piece.
use Rattle.std.specs.Prelude.{◌≡◌, ◌⊎◌, ℕ, List, [], ◌∷◌, ◌++◌, length}
use Rattle.std.proofs.Common.{sym, inl, inr, subst}
use Rattle.lhg_row.specs.Row.{PlainPoint}
use Rattle.lhg_row.specs.Piece.{PlainPiece, InSome}
use Rattle.lhg_motion.specs.Reach.{IsSettled, IsLayer, AreCrossings, IsKept}
use Rattle.lhg_row.specs.SomeLists.{in_left, in_right, in_either}

-- what is known of the new pieces so far
record KeptFacts (n : ℕ) (known so_far crossings layer : List PlainPiece) : Type 0 where
  from_crossings : (x : PlainPoint) → InSome layer x → InSome so_far x ⊎ InSome crossings x
  keeps : (x : PlainPoint) → InSome so_far x → InSome layer x
  covers : (x : PlainPoint) → length x ≡ n → InSome crossings x → InSome (known ++ layer) x
  adds : (layer ≡ so_far) ⊎ ((x : PlainPoint) × length x ≡ n × InSome layer x × ¬ InSome known x)

-- crossings gone over in order show these facts
kept_facts : (n : ℕ) (known so_far crossings layer : List PlainPiece) → IsKept n known so_far crossings layer → KeptFacts n known so_far crossings layer
kept_facts n known so_far [] layer h = record {
  from_crossings = λ x k. inl (subst (λ (w : List PlainPiece). InSome w x) (sym h) k);
  keeps = λ x k. subst (λ (w : List PlainPiece). InSome w x) h k;
  covers = λ x e k. absurd k;
  adds = inl (sym h);
}
kept_facts n known so_far (c ∷ cs) layer (inl h) =
    let f = kept_facts n known so_far cs layer h.1 in
    record {
      from_crossings = λ x k. elim (f.from_crossings x k) [ inl j ↦ inl j | inr j ↦ inr (inr j) ];
      keeps = f.keeps;
      covers = λ x e k. elim k [
        | inl j ↦ elim (in_either known so_far x (h.0 x e j)) [ inl i ↦ in_left known layer x i | inr i ↦ in_right known layer x (f.keeps x i) ]
        | inr j ↦ f.covers x e j
      ];
      adds = f.adds;
    }
kept_facts n known so_far (c ∷ cs) layer (inr h) =
    let f = kept_facts n known (so_far ++ (c ∷ [])) cs layer h.1 in
    record {
      from_crossings = λ x k. elim (f.from_crossings x k) [
        | inl j ↦ elim (in_either so_far (c ∷ []) x j) [ inl i ↦ inl i | inr i ↦ elim i [ inl z ↦ inr (inl z) | inr z ↦ absurd z ] ]
        | inr j ↦ inr (inr j)
      ];
      keeps = λ x k. f.keeps x (in_left so_far (c ∷ []) x k);
      covers = λ x e k. elim k [
        | inl j ↦ in_right known layer x (f.keeps x (in_right so_far (c ∷ []) x (inl j)))
        | inr j ↦ f.covers x e j
      ];
      adds = inr (h.0.at, h.0.fits, f.keeps h.0.at (in_right so_far (c ∷ []) h.0.at (inl h.0.point_in)), λ k. h.0.not_known (in_left known so_far h.0.at k));
    }

-- either nothing more is found, or a layer is
pub layer_made : (n : ℕ) (near ways known crossings layer : List PlainPiece) (flow : PlainPiece) → AreCrossings n near ways known flow crossings → IsKept n known [] crossings layer
    → ((layer ≡ []) × IsSettled n near ways known flow) ⊎ IsLayer n near ways known flow layer
layer_made n near ways known crossings layer flow a h =
    let f = kept_facts n known [] crossings layer h in
    elim f.adds [
      | inl e ↦ inl (e, λ x g s. elim (in_either known layer x (f.covers x g ((a x g).1 s))) [ inl k ↦ k | inr k ↦ absurd (subst (λ (w : List PlainPiece). InSome w x) e k) ])
      | inr m ↦ inr (record {
        crosses = λ x g k. elim (f.from_crossings x k) [ inl j ↦ absurd j | inr j ↦ (a x g).0 j ];
        all = λ x g s. f.covers x g ((a x g).1 s);
        new = m.0;
        new_fits = m.1;
        new_in = m.2;
        not_known = m.3;
      })
    ]
