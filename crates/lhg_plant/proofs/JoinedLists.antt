-- The joined lists of the switches that leave a location.
use Rattle.std.proofs.Common.{◌≡◌, ◌↔◌, inl, inr, ℕ, zero, suc, cond, List, [], ◌∷◌, get_or, slice_get, nat_eq, IsSomeAnd, sym, subst}
use Rattle.std.proofs.lemmas.Bool.{eq-eqb, eqb-true}
use Rattle.lhg_math.specs.Tests.{by_bool}
use Rattle.lhg_num.specs.FracArithmetic.{frac_arithmetic}
use Rattle.lhg_row.specs.Row.{PlainPoint}
use Rattle.lhg_row.specs.Piece.{PlainPiece, InSome}
use Rattle.lhg_row.specs.PieceFacts.{IsPoly, AllPolys}
use Rattle.lhg_row.specs.Members.{all-append}
use Rattle.lhg_row.specs.SomeLists.{in_left, in_right, in_either}
use Rattle.lhg_plant.specs.Plant.{PlainSwitch}
use Rattle.lhg_plant.specs.Region.{PlainGuards}
use Rattle.lhg_plant.specs.BackCalculus.{joined_at}

-- the point is in the list of some switch that leaves the location
pub record InListOf (l : ℕ) (ws : List PlainSwitch) (kss : PlainGuards) (p : PlainPoint) : Type 0 where
  pub number : ℕ
  pub leaves : IsSomeAnd (slice_get ws number) (λ w. w.from ≡ l)
  pub some : InSome (get_or kss number []) p

-- the list of one switch, or one of the others
into_joined : (l : ℕ) (w : PlainSwitch) (ws : List PlainSwitch) (ks : List PlainPiece) (kss : PlainGuards) (p : PlainPoint) → (InListOf l ws kss p → InSome (joined_at l ws kss) p)
    → (e : ℕ) → IsSomeAnd (slice_get (w ∷ ws) e) (λ w. w.from ≡ l) → InSome (get_or (ks ∷ kss) e []) p → InSome (joined_at l (w ∷ ws) (ks ∷ kss)) p
into_joined l w ws ks kss p rest zero leaves some = in_left (cond (nat_eq w.from l) ks []) (joined_at l ws kss) p (subst (λ b. InSome (cond b ks []) p) (sym (eq-eqb w.from l leaves)) some)
into_joined l w ws ks kss p rest (suc e) leaves some = in_right (cond (nat_eq w.from l) ks []) (joined_at l ws kss) p (rest (record { number = e; leaves = leaves; some = some }))

-- a point is in the joined lists exactly where it is in one of these
pub joined-in : (l : ℕ) (ws : List PlainSwitch) (kss : PlainGuards) (p : PlainPoint) → InSome (joined_at l ws kss) p ↔ InListOf l ws kss p
joined-in l [] kss p = (λ h. absurd h, λ h. absurd h.leaves)
joined-in l (w ∷ ws) [] p = (λ h. absurd h, λ h. absurd h.some)
joined-in l (w ∷ ws) (ks ∷ kss) p = (
  λ h. elim (in_either (cond (nat_eq w.from l) ks []) (joined_at l ws kss) p h) [
    | inl k ↦ by_bool (nat_eq w.from l)
        (λ t. record { number = 0; leaves = eqb-true w.from l t; some = subst (λ b. InSome (cond b ks []) p) t k })
        (λ f. absurd (subst (λ b. InSome (cond b ks []) p) f k))
    | inr k ↦ let r = (joined-in l ws kss p).0 k in record { number = suc r.number; leaves = r.leaves; some = r.some }
  ],
  λ h. into_joined l w ws ks kss p (λ r. (joined-in l ws kss p).1 r) h.number h.leaves h.some,
)

-- the joined lists of pieces are pieces
pub joined-polys : (n l : ℕ) (ws : List PlainSwitch) (kss : PlainGuards) → ((e : ℕ) → AllPolys frac_arithmetic n (get_or kss e [])) → AllPolys frac_arithmetic n (joined_at l ws kss)
joined-polys n l [] kss h = tt
joined-polys n l (w ∷ ws) [] h = tt
joined-polys n l (w ∷ ws) (ks ∷ kss) h =
    all-append (IsPoly frac_arithmetic n) (cond (nat_eq w.from l) ks []) (joined_at l ws kss)
    (by_bool (nat_eq w.from l) (λ t. rw t (h 0)) (λ f. rw f tt)) (joined-polys n l ws kss (λ e. h (suc e)))
