-- What does one layer of the calculus find?
use Rattle.std.specs.Prelude.{◌≡◌, ℕ, List, [], ◌++◌, length}
use Rattle.std.proofs.Common.{refl, inl}
use Rattle.lhg_math.specs.Tests.{AllOf}
use Rattle.lhg_num.specs.Arithmetic.{Arithmetic, IsLawful}
use Rattle.lhg_num.specs.Marked.{walk}
use Rattle.lhg_math.specs.ListFacts.{all-both, all-map}
use Rattle.lhg_row.specs.Row.{PlainPoint}
use Rattle.lhg_row.specs.Piece.{PlainPiece, InSome}
use Rattle.lhg_row.specs.Members.{SomeOf}
use Rattle.lhg_row.specs.Width.{AllWide}
use Rattle.lhg_row.specs.PieceFacts.{AllOver}
use Rattle.lhg_motion.specs.Crossing.{HasCrossing}
use Rattle.lhg_motion.specs.CrossFact.{CrossIsExact}
use Rattle.lhg_motion.specs.Reach.{HasStep}
use Rattle.lhg_motion.specs.Found.{PlainFound, pieces_of}
use Rattle.lhg_motion.specs.ReachCalculus.{Placed, numbered, attempt, through_ways, from_near, layer_of}
use Rattle.lhg_row.specs.SomeLists.{some_out}
use Rattle.lhg_motion.specs.WalkLaws.{HasWalked, HasStepped, walked, StandsAt, numbered_stand, numbered-all, all-numbered, all_at, all_members}
use Rattle.lhg_motion.specs.AttemptLaws.{AreNew, HaveGrown, IsCoveredBy, known_grow, attempted}

module _ (a : Arithmetic) (n : ℕ) (laws : IsLawful a) (exact : CrossIsExact a n) (near ways known : List PlainPiece) (flow : PlainPiece) (layer : ℕ)
    (near_over : AllOver n near) (ways_over : AllOver n ways) (known_over : AllOver n known) (flow_wide : AllWide n flow) where
  abbrev Sound : List PlainFound → Type 0
  Sound s = AreNew a n near ways known flow layer s

  -- a piece over n variables, at its place
  record Stands (ps : List PlainPiece) (p : Placed) : Type 0 where
    at : StandsAt ps p
    wide : AllWide n p.piece

  -- a near piece over n variables
  record IsNear (start : PlainPiece) : Type 0 where
    member : SomeOf (λ y. y ≡ start) near
    wide : AllWide n start

  -- the pieces of a list stand at their places
  stand : (ps : List PlainPiece) → AllOver n ps → AllOf (λ p. Stands ps p) (numbered 0 ps)
  stand ps over = all-both (λ p. StandsAt ps p) (λ p. AllWide n p.piece) (λ p. Stands ps p) (λ p s w. record { at = s; wide = w }) (numbered 0 ps) (numbered_stand ps) (numbered-all (AllWide n) 0 ps over)

  -- the near pieces are near pieces
  nears : AllOf (λ start. IsNear start) near
  nears = all-both (λ x. SomeOf (λ y. y ≡ x) near) (AllWide n) (λ start. IsNear start) (λ x m w. record { member = m; wide = w }) near (all_members near) near_over

  -- what is left behind by the crossings of one way, of all ways, and of all near pieces
  abbrev ByWay : Placed → PlainPiece → Placed → List PlainFound → Type 0
  ByWay into start way t = IsCoveredBy n flow known start way.piece into.piece t

  -- by the crossings through all ways
  abbrev ByNear : Placed → PlainPiece → List PlainFound → Type 0
  ByNear into start t = AllOf (λ way. ByWay into start way t) (numbered 0 ways)

  -- by those from all near pieces
  abbrev ByKnown : Placed → List PlainFound → Type 0
  ByKnown into t = AllOf (λ start. ByNear into start t) near

  -- nothing has fewer points than itself
  same : (s : List PlainFound) → HaveGrown s s
  same s = λ x h. h

  -- growth goes on
  on : (s t u : List PlainFound) → HaveGrown s t → HaveGrown t u → HaveGrown s u
  on s t u g h = λ x k. h x (g x k)

  -- what is left behind by one crossing stays
  keep_way : (into : Placed) (start : PlainPiece) (way : Placed) (s t : List PlainFound) → HaveGrown s t → ByWay into start way s → ByWay into start way t
  keep_way into start way s t g h = λ x e c. known_grow known s t g x (h x e c)

  -- the same for all ways
  keep_near : (into : Placed) (start : PlainPiece) (s t : List PlainFound) → HaveGrown s t → ByNear into start s → ByNear into start t
  keep_near into start s t g h = all-map (λ way. ByWay into start way s) (λ way. ByWay into start way t) (λ way. keep_way into start way s t g) (numbered 0 ways) h

  -- and for all near pieces
  keep_known : (into : Placed) (s t : List PlainFound) → HaveGrown s t → ByKnown into s → ByKnown into t
  keep_known into s t g h = all-map (λ start. ByNear into start s) (λ start. ByNear into start t) (λ start. keep_near into start s t g) near h

  -- the crossings through all ways
  through : (into : Placed) → Stands known into → (start : PlainPiece) → IsNear start → (s : List PlainFound) → Sound s
      → HasStepped Sound HaveGrown (λ t. ByNear into start t) s (through_ways a n flow known layer (numbered 0 ways) into s start).value
  through into si start ns s h =
      let w = walked Sound HaveGrown (ByWay into start) (λ way. Stands ways way) (attempt a n flow known layer into start) same on (keep_way into start)
      (λ way sw t k. attempted a n laws exact near ways known flow layer near_over ways_over known_over flow_wide into si.at si.wide start ns.member ns.wide way sw.at sw.wide t k)
      (numbered 0 ways) (stand ways ways_over) s h in
      record { sound = w.sound; grown = w.grown; left = w.left }

  -- those from all near pieces
  from_all : (into : Placed) → Stands known into → (s : List PlainFound) → Sound s
      → HasStepped Sound HaveGrown (λ t. ByKnown into t) s (from_near a n flow known layer near (numbered 0 ways) s into).value
  from_all into si s h =
      let w = walked Sound HaveGrown (ByNear into) (λ start. IsNear start) (through_ways a n flow known layer (numbered 0 ways) into) same on (keep_near into) (λ start ns t k. through into si start ns t k) near nears s h in
      record { sound = w.sound; grown = w.grown; left = w.left }

  -- those into all known pieces
  into_all : HasWalked Sound HaveGrown ByKnown [] (numbered 0 known) (walk (from_near a n flow known layer near (numbered 0 ways)) [] (numbered 0 known)).value
  into_all = walked Sound HaveGrown ByKnown (λ into. Stands known into) (from_near a n flow known layer near (numbered 0 ways)) same on keep_known from_all (numbered 0 known) (stand known known_over) [] (record { each = tt; adds = inl refl })

  -- each crossing into a known piece starts in a known piece or in a new one
  crossed : (t : List PlainFound) → AllOf (λ into. ByKnown into t) (numbered 0 known) → (x : PlainPoint) → length x ≡ n → HasStep near ways known flow x → InSome (known ++ pieces_of t) x
  crossed t h x e s =
      some_out (λ from. SomeOf (λ through. SomeOf (λ into. HasCrossing from through into flow x) known) ways) (InSome (known ++ pieces_of t) x) near
      (λ from f. some_out (λ through. SomeOf (λ into. HasCrossing from through into flow x) known) (InSome (known ++ pieces_of t) x) ways
      (λ through g. some_out (λ into. HasCrossing from through into flow x) (InSome (known ++ pieces_of t) x) known
      (λ into i c.
      let by_known = all_at (λ w. AllOf (λ start. AllOf (λ way. IsCoveredBy n flow known start way.piece w t) (numbered 0 ways)) near) into known (all-numbered (λ w. AllOf (λ start. AllOf (λ way. IsCoveredBy n flow known start way.piece w t) (numbered 0 ways)) near) 0 known h) (i (λ y. y ≡ into) refl) in
      let by_near = all_at (λ w. AllOf (λ way. IsCoveredBy n flow known w way.piece into t) (numbered 0 ways)) from near by_known (f (λ y. y ≡ from) refl) in
      let by_way = all_at (λ w. IsCoveredBy n flow known from w into t) through ways (all-numbered (λ w. IsCoveredBy n flow known from w into t) 0 ways by_near) (g (λ y. y ≡ through) refl) in
      by_way x e c))) s

-- one layer: what is found, and that each crossing into a known piece starts in a known piece or in a new one
pub record IsLayerFound (a : Arithmetic) (n : ℕ) (near ways known : List PlainPiece) (flow : PlainPiece) (layer : ℕ) (new : List PlainFound) : Type 0 where
  pub sound : AreNew a n near ways known flow layer new
  pub all : (x : PlainPoint) → length x ≡ n → HasStep near ways known flow x → InSome (known ++ pieces_of new) x

-- the layer of the calculus is such a one
pub layer_found : (a : Arithmetic) (n : ℕ) → IsLawful a → CrossIsExact a n → (near ways known : List PlainPiece) (flow : PlainPiece) (layer : ℕ) → AllOver n near → AllOver n ways → AllOver n known → AllWide n flow
    → IsLayerFound a n near ways known flow layer (layer_of a n flow near ways known layer).value
unfolding layer_of
layer_found a n laws exact near ways known flow layer near_over ways_over known_over flow_wide =
    let w = into_all a n laws exact near ways known flow layer near_over ways_over known_over flow_wide in
    record {
      sound = w.sound;
      all = λ x e s. crossed a n laws exact near ways known flow layer near_over ways_over known_over flow_wide (walk (from_near a n flow known layer near (numbered 0 ways)) [] (numbered 0 known)).value w.left x e s;
    }
