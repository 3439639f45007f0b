-- What one result adds to a level: nothing where it is covered, and else a new piece.
use Rattle.std.proofs.Common.{◌≡◌, ◌≢◌, ◌<◌, ◌⊎◌, inl, inr, ℕ, Bool, true, false, List, [], ◌∷◌, ◌++◌, length, get_or, set, Option, Some, None, refl, sym, ap, ◌∙◌, subst, arith}
use Rattle.std.proofs.lemmas.List.{get_or-set_same, get_or-set_other, length-set}
use Rattle.lhg_math.specs.Tests.{AllOf, false_true, by_bool}
use Rattle.lhg_num.specs.FracArithmetic.{frac_arithmetic, frac_is_lawful}
use Rattle.lhg_row.specs.Row.{PlainPoint}
use Rattle.lhg_row.specs.Piece.{PlainPiece, InPiece, InSome, in_some}
use Rattle.lhg_row.specs.PieceLemmas.{in_some_is}
use Rattle.lhg_row.specs.Width.{AllWide}
use Rattle.lhg_row.specs.Members.{all-append}
use Rattle.lhg_row.specs.SomeLists.{in_left, in_right, in_either}
use Rattle.lhg_row.specs.Decisions.{nat_decided}
use Rattle.lhg_row.specs.PieceFacts.{IsPoly, AllPolys, AllOver, IsCovering, HasUncovered}
use Rattle.lhg_row.specs.Lists.{covered}
use Rattle.lhg_row.specs.CoveredLaws.{covered-exact, polys-over}
use Rattle.lhg_motion.specs.WalkLaws.{HasStepped}
use Rattle.lhg_plant.specs.Plant.{PlainPlant}
use Rattle.lhg_plant.specs.State.{PlainState}
use Rattle.lhg_plant.specs.Region.{PlainRegion, InRegion}
use Rattle.lhg_plant.specs.Invariants.{pieces_at}
use Rattle.lhg_plant.specs.SwitchFacts.{state_at}
use Rattle.lhg_forward.specs.Level.{FollowsFrom}
use Rattle.lhg_forward.specs.AfterFacts.{HasPoints, HasPointsOr}
use Rattle.lhg_forward.specs.Growth.{PlainGrowth, first_or, grown_unless, add_new}
use Rattle.lhg_forward.specs.GrowthFacts.{known_at, HasNewFirst, HasFirst, IsGrowth}

-- no point fewer
abbrev pub HaveGrown : PlainGrowth → PlainGrowth → Type 0
HaveGrown g h = (l : ℕ) (x : PlainPoint) → InSome (pieces_at g.new l) x → InSome (pieces_at h.new l) x

-- each point over n variables with the fact is known in location l
abbrev pub Knows : ℕ → PlainRegion → ℕ → (PlainPoint → Type 0) → PlainGrowth → Type 0
Knows n region l P g = (y : PlainPoint) → length y ≡ n → P y → InSome (known_at region g l) y

-- what is known stays known
pub knows_more : (n : ℕ) (region : PlainRegion) (l : ℕ) (P : PlainPoint → Type 0) (g h : PlainGrowth) → HaveGrown g h → Knows n region l P g → Knows n region l P h
knows_more n region l P g h grown k y e p =
    elim (in_either (pieces_at region l) (pieces_at g.new l) y (k y e p)) [
      | inl i ↦ in_left (pieces_at region l) (pieces_at h.new l) y i
      | inr i ↦ in_right (pieces_at region l) (pieces_at h.new l) y (grown l y i)
    ]

only_piece : (p : PlainPiece) (x : PlainPoint) → InSome (p ∷ []) x → InPiece p x
only_piece p x (inl h) = h
only_piece p x (inr h) = absurd h

module _ (a : PlainPlant) (region : PlainRegion) (over : (l : ℕ) → AllOver (length a.vars) (pieces_at region l)) where
  abbrev n : ℕ
  n = length a.vars

  abbrev Sound : PlainGrowth → Type 0
  Sound g = IsGrowth a region g

  -- ---- one new piece
  module _ (g : PlainGrowth) (l : ℕ) (p : PlainPiece) (h : Sound g) (there : l < length a.locs) where
    abbrev more : PlainGrowth
    more = grown_unless g l p false

    here : pieces_at more.new l ≡ pieces_at g.new l ++ p ∷ []
    here = get_or-set_same g.new l (pieces_at g.new l ++ p ∷ []) [] (let m = h.many in omega arith)

    elsewhere : (k : ℕ) → k ≢ l → pieces_at more.new k ≡ pieces_at g.new k
    elsewhere k apart = get_or-set_other g.new l k (pieces_at g.new l ++ p ∷ []) [] apart

    keeps : HaveGrown g more
    keeps k x i = elim (nat_decided k l) [
      | inl e ↦ subst (λ (w : ℕ). InSome (pieces_at more.new w) x) (sym e) (subst (λ ps. InSome ps x) (sym here) (in_left (pieces_at g.new l) (p ∷ []) x (subst (λ (w : ℕ). InSome (pieces_at g.new w) x) e i)))
      | inr f ↦ subst (λ ps. InSome ps x) (sym (elsewhere k f)) i
    ]

    holds : (x : PlainPoint) → InPiece p x → InSome (pieces_at more.new l) x
    holds x i = subst (λ ps. InSome ps x) (sym here) (in_right (pieces_at g.new l) (p ∷ []) x (inl i))

    more_polys : IsPoly frac_arithmetic n p → (k : ℕ) → AllPolys frac_arithmetic n (pieces_at more.new k)
    more_polys poly k = elim (nat_decided k l) [
      | inl e ↦ subst (λ (w : ℕ). AllPolys frac_arithmetic n (pieces_at more.new w)) (sym e)
          (subst (AllPolys frac_arithmetic n) (sym here) (all-append (IsPoly frac_arithmetic n) (pieces_at g.new l) (p ∷ []) (h.polys l) (poly, tt)))
      | inr f ↦ subst (AllPolys frac_arithmetic n) (sym (elsewhere k f)) (h.polys k)
    ]

    more_sound : ((y : PlainPoint) → length y ≡ n → InPiece p y → FollowsFrom a (InRegion a region) (state_at l y))
        → (z : PlainState) → length z.at ≡ n → InSome (pieces_at more.new z.loc) z.at → FollowsFrom a (InRegion a region) z
    more_sound f z e i = elim (nat_decided z.loc l) [
      | inl same ↦
          (let there : InSome (pieces_at g.new l ++ p ∷ []) z.at = subst (λ ps. InSome ps z.at) here (subst (λ (w : ℕ). InSome (pieces_at more.new w) z.at) same i) in
          subst (λ (w : ℕ). FollowsFrom a (InRegion a region) (state_at w z.at)) (sym same)
          (elim (in_either (pieces_at g.new l) (p ∷ []) z.at there) [
            | inl k ↦ h.sound (state_at l z.at) e k
            | inr k ↦ f z.at e (only_piece p z.at k)
          ]))
      | inr apart ↦ h.sound z e (subst (λ ps. InSome ps z.at) (elsewhere z.loc apart) i)
    ]

    -- what is not known is in no piece of the location
    uncovered_there : HasUncovered n (p ∷ []) (known_at region g l) → HasUncovered n (p ∷ []) (pieces_at region l)
    uncovered_there c = record {
      point = c.point;
      wide = c.wide;
      inside = c.inside;
      outside = by_bool (in_some (pieces_at region l) c.point)
          (λ t. false_true (sym c.outside ∙ (in_some_is (known_at region g l) c.point).0 (in_left (pieces_at region l) (pieces_at g.new l) c.point ((in_some_is (pieces_at region l) c.point).1 t))))
          (λ f. f);
    }

    more_adds : (o : Option ℕ) → HasFirst n (length a.locs) region g.new o → HasUncovered n (p ∷ []) (known_at region g l) → HasFirst n (length a.locs) region more.new (first_or l o)
    more_adds None none c = (there, record { piece = p; others = []; is = here ∙ ap (λ ps. ps ++ p ∷ []) (none l); uncovered = uncovered_there c })
    more_adds (Some k) some c = (
      some.0,
      elim (nat_decided k l) [
        | inl e ↦ record {
          piece = some.1.piece;
          others = some.1.others ++ p ∷ [];
          is = ap (λ (w : ℕ). pieces_at more.new w) e ∙ here ∙ ap (λ (w : ℕ). pieces_at g.new w ++ p ∷ []) (sym e) ∙ ap (λ ps. ps ++ p ∷ []) some.1.is;
          uncovered = some.1.uncovered;
        }
        | inr f ↦ record { piece = some.1.piece; others = some.1.others; is = elsewhere k f ∙ some.1.is; uncovered = some.1.uncovered }
      ],
    )

    more_is : IsPoly frac_arithmetic n p → ((y : PlainPoint) → length y ≡ n → InPiece p y → FollowsFrom a (InRegion a region) (state_at l y))
        → HasUncovered n (p ∷ []) (known_at region g l) → Sound more
    more_is poly f c = record {
      many = length-set g.new l (pieces_at g.new l ++ p ∷ []) ∙ h.many;
      polys = more_polys poly;
      sound = more_sound f;
      adds = more_adds g.first h.adds c;
    }

  -- ---- one result
  module _ (l : ℕ) (there : l < length a.locs) (P : PlainPoint → Type 0) (follows : (y : PlainPoint) → length y ≡ n → P y → FollowsFrom a (InRegion a region) (state_at l y)) where
    decided : (g : PlainGrowth) (p : PlainPiece) (b : Bool) → Sound g → HasPoints n P p → IsCovering n (p ∷ []) (known_at region g l) b
        → HasStepped Sound HaveGrown (Knows n region l P) g (grown_unless g l p b)
    decided g p true h e c = record {
      sound = h;
      grown = λ k x i. i;
      left = λ y f k. (in_some_is (known_at region g l) y).1 (c y f ((in_some_is (p ∷ []) y).0 (inl ((e.points y f).1 k))));
    }
    decided g p false h e c = record {
      sound = more_is g l p h there e.poly (λ y f i. follows y f ((e.points y f).0 i)) c;
      grown = keeps g l p h there;
      left = λ y f k. in_right (pieces_at region l) (pieces_at (grown_unless g l p false).new l) y (holds g l p h there y ((e.points y f).1 k));
    }

    known_over : (g : PlainGrowth) → Sound g → AllOver n (known_at region g l)
    known_over g h = all-append (AllWide n) (pieces_at region l) (pieces_at g.new l) (over l) (polys-over frac_arithmetic n (pieces_at g.new l) (h.polys l))

    pub added : (o : Option PlainPiece) → HasPointsOr n P o → (g : PlainGrowth) → Sound g → HasStepped Sound HaveGrown (Knows n region l P) g (add_new n region l g o).value
    added None e g h = record { sound = h; grown = λ k x i. i; left = λ y f k. absurd (e y f k) }
    added (Some p) e g h =
        decided g p (covered frac_arithmetic n (p ∷ []) (known_at region g l)).value h e
        (covered-exact frac_arithmetic n (p ∷ []) (known_at region g l) frac_is_lawful (e.poly, tt) (known_over g h))
