-- What does one crossing of a layer add?
use Rattle.std.specs.Prelude.{◌≡◌, ◌⊎◌, ◌<◌, ℕ, Bool, true, false, List, [], ◌∷◌, ◌++◌, length, get_or, Option, Some, None}
use Rattle.std.proofs.Common.{refl, sym, ◌∙◌, inl, inr, subst}
use Rattle.std.proofs.lemmas.List.{map-append}
use Rattle.lhg_math.specs.Tests.{AllOf, false_true}
use Rattle.lhg_num.specs.Arithmetic.{Arithmetic, IsLawful}
use Rattle.lhg_row.specs.Row.{PlainPoint}
use Rattle.lhg_row.specs.Piece.{PlainPiece, InPiece, InSome}
use Rattle.lhg_row.specs.PieceLemmas.{in_some_is}
use Rattle.lhg_row.specs.Members.{SomeOf, all-append}
use Rattle.lhg_row.specs.Width.{AllWide}
use Rattle.lhg_row.specs.Lists.{covered}
use Rattle.lhg_row.specs.PieceFacts.{IsPoly, AllOver, IsCovering}
use Rattle.lhg_row.specs.CoveredLaws.{covered-exact}
use Rattle.lhg_motion.specs.Crossing.{HasCrossing}
use Rattle.lhg_motion.specs.CrossCalculus.{cross}
use Rattle.lhg_motion.specs.CrossFact.{IsCross, CrossIsExact}
use Rattle.lhg_motion.specs.Found.{PlainFound, pieces_of}
use Rattle.lhg_motion.specs.ReachCalculus.{Placed, found_by, added_unless, add_new, attempt}
use Rattle.lhg_row.specs.SomeLists.{in_left, in_right, in_either, some_map}
use Rattle.lhg_motion.specs.WalkLaws.{HasStepped, StandsAt}

-- a found piece: its layer, its places, and a near piece from each of whose found points the named crossing leads
pub record IsFound (a : Arithmetic) (n : ℕ) (near ways known : List PlainPiece) (flow : PlainPiece) (layer : ℕ) (f : PlainFound) : Type 0 where
  pub number : f.layer ≡ layer
  pub through_there : f.through < length ways
  pub to_there : f.to < length known
  pub poly : IsPoly a n f.piece
  pub crosses : SomeOf (λ from. (x : PlainPoint) → length x ≡ n → InPiece f.piece x → HasCrossing from (get_or ways f.through []) (get_or known f.to []) flow x) near

-- some point of the pieces is in none that was known
pub record HasNewPoint (n : ℕ) (known new : List PlainPiece) : Type 0 where
  pub at : PlainPoint
  pub fits : length at ≡ n
  pub in_new : InSome new at
  pub not_known : ¬ InSome known at

-- each new piece so far is a found one; and there is none, or some point is new
pub record AreNew (a : Arithmetic) (n : ℕ) (near ways known : List PlainPiece) (flow : PlainPiece) (layer : ℕ) (new : List PlainFound) : Type 0 where
  pub each : AllOf (λ f. IsFound a n near ways known flow layer f) new
  pub adds : (new ≡ []) ⊎ HasNewPoint n known (pieces_of new)

-- the new pieces have no point fewer
abbrev pub HaveGrown : List PlainFound → List PlainFound → Type 0
HaveGrown s t = (x : PlainPoint) → InSome (pieces_of s) x → InSome (pieces_of t) x

-- each point with the crossing is known or new
abbrev pub IsCoveredBy : ℕ → PlainPiece → List PlainPiece → PlainPiece → PlainPiece → PlainPiece → List PlainFound → Type 0
IsCoveredBy n flow known start through into new = (x : PlainPoint) → length x ≡ n → HasCrossing start through into flow x → InSome (known ++ pieces_of new) x

-- known pieces and new ones have no point fewer
pub known_grow : (known : List PlainPiece) (s t : List PlainFound) → HaveGrown s t → (x : PlainPoint) → InSome (known ++ pieces_of s) x → InSome (known ++ pieces_of t) x
known_grow known s t g x h = elim (in_either known (pieces_of s) x h) [ inl k ↦ in_left known (pieces_of t) x k | inr k ↦ in_right known (pieces_of t) x (g x k) ]

module _ (a : Arithmetic) (n : ℕ) (laws : IsLawful a) (exact : CrossIsExact a n) (near ways known : List PlainPiece) (flow : PlainPiece) (layer : ℕ)
    (near_over : AllOver n near) (ways_over : AllOver n ways) (known_over : AllOver n known) (flow_wide : AllWide n flow) where
  -- the facts of this layer
  abbrev Sound : List PlainFound → Type 0
  Sound s = AreNew a n near ways known flow layer s

  -- new pieces are over n variables
  new_over : (s : List PlainFound) → AllOf (λ f. IsFound a n near ways known flow layer f) s → AllOver n (pieces_of s)
  new_over [] h = tt
  new_over (f ∷ fs) h = (h.0.poly.wide, new_over fs h.1)

  -- a piece at the end
  appended : (s : List PlainFound) (f : PlainFound) (x : PlainPoint) → InSome (pieces_of s) x ⊎ InPiece f.piece x → InSome (pieces_of (s ++ f ∷ [])) x
  appended s f x h =
      subst (λ (w : List PlainPiece). InSome w x) (sym (map-append (λ g. g.piece) s (f ∷ [])))
      (elim h [ inl k ↦ in_left (pieces_of s) (f.piece ∷ []) x k | inr k ↦ in_right (pieces_of s) (f.piece ∷ []) x (inl k) ])

  -- a new piece that is not covered
  adds_one : (s : List PlainFound) (f : PlainFound) → Sound s → IsFound a n near ways known flow layer f → IsCovering n (f.piece ∷ []) (known ++ pieces_of s) false → Sound (s ++ f ∷ [])
  adds_one s f p i c = record {
    each = all-append (λ g. IsFound a n near ways known flow layer g) s (f ∷ []) p.each (i, tt);
    adds = inr (record {
      at = c.point;
      fits = c.wide;
      in_new = appended s f c.point (inr (only f.piece c.point ((in_some_is (f.piece ∷ []) c.point).1 c.inside)));
      not_known = λ k. false_true (sym c.outside ∙ (in_some_is (known ++ pieces_of s) c.point).0 (in_left known (pieces_of s) c.point k));
    });
  }
    where
      only : (piece : PlainPiece) (x : PlainPoint) → InSome (piece ∷ []) x → InPiece piece x
      only piece x (inl h) = h
      only piece x (inr h) = absurd h

  module _ (into : Placed) (into_stands : StandsAt known into) (into_wide : AllWide n into.piece)
      (start : PlainPiece) (start_near : SomeOf (λ y. y ≡ start) near) (start_wide : AllWide n start)
      (way : Placed) (way_stands : StandsAt ways way) (way_wide : AllWide n way.piece) where
    found_is : (p : PlainPiece) → IsPoly a n p → ((x : PlainPoint) → length x ≡ n → InPiece p x → HasCrossing start way.piece into.piece flow x)
        → IsFound a n near ways known flow layer (found_by way into layer p)
    found_is p poly h = record {
      number = refl;
      through_there = way_stands.there;
      to_there = into_stands.there;
      poly = poly;
      crosses = some_map (λ y. y ≡ start) (λ from. (x : PlainPoint) → length x ≡ n → InPiece p x → HasCrossing from (get_or ways way.place []) (get_or known into.place []) flow x)
          (λ y z x e i. subst (λ (w : PlainPiece). HasCrossing y w (get_or known into.place []) flow x) (sym way_stands.is)
          (subst (λ (w : PlainPiece). HasCrossing y way.piece w flow x) (sym into_stands.is)
          (subst (λ (w : PlainPiece). HasCrossing w way.piece into.piece flow x) (sym z) (h x e i)))) near start_near;
    }

    -- the piece of a crossing is covered, or becomes a new piece
    decided : (s : List PlainFound) (p : PlainPiece) (b : Bool) → Sound s → IsPoly a n p
        → ((x : PlainPoint) → length x ≡ n → InPiece p x → HasCrossing start way.piece into.piece flow x)
        → ((x : PlainPoint) → length x ≡ n → HasCrossing start way.piece into.piece flow x → InPiece p x)
        → IsCovering n (p ∷ []) (known ++ pieces_of s) b
        → HasStepped Sound HaveGrown (λ t. IsCoveredBy n flow known start way.piece into.piece t) s (added_unless b s (found_by way into layer p))
    decided s p true h poly to back c = record {
      sound = h;
      grown = λ x k. k;
      left = λ x e k. (in_some_is (known ++ pieces_of s) x).1 (c x e ((in_some_is (p ∷ []) x).0 (inl (back x e k))));
    }
    decided s p false h poly to back c =
        let f = found_by way into layer p in
        record {
          sound = adds_one s f h (found_is p poly to) c;
          grown = λ x k. appended s f x (inl k);
          left = λ x e k. in_right known (pieces_of (s ++ f ∷ [])) x (appended s f x (inr (back x e k)));
        }

    added : (s : List PlainFound) (o : Option PlainPiece) → Sound s → IsCross a n start way.piece into.piece flow o
        → HasStepped Sound HaveGrown (λ t. IsCoveredBy n flow known start way.piece into.piece t) s (add_new a n known s (found_by way into layer) o).value
    added s None h none = record { sound = h; grown = λ x k. k; left = λ x e k. absurd (none x e k) }
    added s (Some p) h c =
        decided s p (covered a n (p ∷ []) (known ++ pieces_of s)).value h c.poly (λ x e i. (c.points x e).0 i) (λ x e k. (c.points x e).1 k)
        (covered-exact a n (p ∷ []) (known ++ pieces_of s) laws (c.poly, tt) (all-append (AllWide n) known (pieces_of s) known_over (new_over s h.each)))

    -- one crossing
    pub attempted : (s : List PlainFound) → Sound s
        → HasStepped Sound HaveGrown (λ t. IsCoveredBy n flow known start way.piece into.piece t) s (attempt a n flow known layer into start s way).value
    attempted s h = added s (cross a n start way.piece into.piece flow).value h (exact start way.piece into.piece flow start_wide way_wide into_wide flow_wide)
