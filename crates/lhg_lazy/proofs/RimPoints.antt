-- The pieces of the rim hold exactly the points with a flow through one piece outside into it.
use Rattle.std.proofs.Common.{◌≡◌, ◌↔◌, ◌⊎◌, inl, inr, ℕ, List, [], ◌∷◌, length, Option, Some, None}
use Rattle.lhg_num.specs.FracArithmetic.{frac_arithmetic, frac_is_lawful}
use Rattle.lhg_row.specs.Row.{PlainPoint}
use Rattle.lhg_row.specs.Piece.{PlainPiece, InSome}
use Rattle.lhg_row.specs.Width.{AllWide}
use Rattle.lhg_row.specs.Eliminate.{each_joined}
use Rattle.lhg_row.specs.Lists.{listed}
use Rattle.lhg_row.specs.Members.{SomeOf, all-append}
use Rattle.lhg_row.specs.SomeLists.{some_each, joined-some}
use Rattle.lhg_row.specs.PieceFacts.{IsPoly, AllOver, AllPolys}
use Rattle.lhg_motion.specs.Crossing.{HasCrossing}
use Rattle.lhg_motion.specs.CrossFact.{IsCross}
use Rattle.lhg_motion.specs.CrossCalculus.{cross}
use Rattle.lhg_motion.specs.CrossLaws.{cross-exact}
use Rattle.lhg_lazy.specs.RimCalculus.{rim_from, rim_list}
use Rattle.lhg_lazy.specs.RimFacts.{LeavesThrough}

module _ (n : ℕ) (flow : PlainPiece) (wf : AllWide n flow) where
  -- the crossing through one piece, and those through the others
  one-points : (s q : PlainPiece) (o : Option PlainPiece) (rest : List PlainPiece) (x : PlainPoint) → length x ≡ n → IsCross frac_arithmetic n s q q flow o
      → InSome (listed o rest) x ↔ (HasCrossing s q q flow x ⊎ InSome rest x)
  one-points s q None rest x l h = (λ k. inr k, λ k. elim k [ inl c ↦ absurd (h x l c) | inr r ↦ r ])
  one-points s q (Some p) rest x l h = (
    λ k. elim k [ inl i ↦ inl ((h.points x l).0 i) | inr r ↦ inr r ],
    λ k. elim k [ inl c ↦ inl ((h.points x l).1 c) | inr r ↦ inr r ],
  )

  one-polys : (s q : PlainPiece) (o : Option PlainPiece) (rest : List PlainPiece) → IsCross frac_arithmetic n s q q flow o → AllPolys frac_arithmetic n rest → AllPolys frac_arithmetic n (listed o rest)
  one-polys s q None rest h k = k
  one-polys s q (Some p) rest h k = (h.poly, k)

  -- from one piece
  from-points : (s : PlainPiece) (qs : List PlainPiece) (x : PlainPoint) → length x ≡ n → AllWide n s → AllOver n qs → InSome (rim_from n flow qs s).value x ↔ SomeOf (λ q. HasCrossing s q q flow x) qs
  from-points s [] x l v w = (λ k. k, λ k. k)
  from-points s (q ∷ qs) x l v w =
      let one = one-points s q (cross frac_arithmetic n s q q flow).value (rim_from n flow qs s).value x l (cross-exact frac_arithmetic n frac_is_lawful s q q flow v w.0 w.0 wf) in
      let rest = from-points s qs x l v w.1 in (
        λ k. elim (one.0 k) [ inl c ↦ inl c | inr r ↦ inr (rest.0 r) ],
        λ k. elim k [ inl c ↦ one.1 (inl c) | inr r ↦ one.1 (inr (rest.1 r)) ],
      )

  from-polys : (s : PlainPiece) (qs : List PlainPiece) → AllWide n s → AllOver n qs → AllPolys frac_arithmetic n (rim_from n flow qs s).value
  from-polys s [] v w = tt
  from-polys s (q ∷ qs) v w =
      one-polys s q (cross frac_arithmetic n s q q flow).value (rim_from n flow qs s).value (cross-exact frac_arithmetic n frac_is_lawful s q q flow v w.0 w.0 wf) (from-polys s qs v w.1)

  -- from each piece of a list
  pub list-points : (here outside : List PlainPiece) (x : PlainPoint) → length x ≡ n → AllOver n here → AllOver n outside
      → InSome (rim_list n flow here outside).value x ↔ LeavesThrough flow here outside x
  unfolding rim_list
  list-points here outside x l v w =
      let f = rim_from n flow outside in
      let joined = joined-some f here x in
      let P : PlainPiece → Type 0 = λ s. InSome (f s).value x in
      let Q : PlainPiece → Type 0 = λ s. SomeOf (λ q. HasCrossing s q q flow x) outside in (
        λ k. some_each (AllWide n) P Q here v (λ s ws h. (from-points s outside x l ws w).0 h) (joined.0 k),
        λ k. joined.1 (some_each (AllWide n) Q P here v (λ s ws h. (from-points s outside x l ws w).1 h) k),
      )

  all-polys : (here outside : List PlainPiece) → AllOver n here → AllOver n outside → AllPolys frac_arithmetic n (each_joined (rim_from n flow outside) here).value
  all-polys [] outside v w = tt
  all-polys (s ∷ here) outside v w =
      all-append (IsPoly frac_arithmetic n) (rim_from n flow outside s).value (each_joined (rim_from n flow outside) here).value (from-polys s outside v.0 w) (all-polys here outside v.1 w)

  -- they are pieces
  pub list-polys : (here outside : List PlainPiece) → AllOver n here → AllOver n outside → AllPolys frac_arithmetic n (rim_list n flow here outside).value
  unfolding rim_list
  list-polys here outside v w = all-polys here outside v w
