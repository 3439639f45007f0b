-- All check points of a segment, with the middles, and the first of them with a property.
use Rattle.std.specs.Prelude.{◌≡◌, ◌⊎◌, ◌↔◌, true, false, List, [], ◌∷◌, ◌++◌, length}
use Rattle.std.proofs.Common.{refl, sym, ap, ◌∙◌, inl, inr, subst}
use Rattle.lhg_math.specs.Number.{Number, lt, mid}
use Rattle.lhg_math.specs.NumberOrder.{lt_irrefl, lt_antisymm, lt_trans}
use Rattle.lhg_math.specs.Quotients.{lt-mid, mid-lt}
use Rattle.lhg_math.specs.Places.{IsPlace}
use Rattle.lhg_math.specs.Tests.{AllOf, by_bool}
use Rattle.lhg_row.specs.Row.{PlainRow, PlainPoint}
use Rattle.lhg_motion.specs.CheckPoint.{AreNeighbours, IsCheckPoint, IsBetween, IsEnclosed}
use Rattle.lhg_row.specs.Members.{SomeOf, some_left, some_right}
use Rattle.lhg_row.specs.Decisions.{clash}
use Rattle.lhg_motion.specs.CheckLemmas.{inside_place}
use Rattle.lhg_motion.specs.Enclose.{enclose}
use Rattle.lhg_motion.specs.CheckList.{CutPlace, CheckPlace, AllCuts, all_cuts}

-- the middle lies strictly between the two
pub mid_between : (l r : Number) → lt l r ≡ true → IsBetween l r (mid l r)
mid_between l r h = record { left = lt-mid l r ∙ h; right = mid-lt l r ∙ h }

-- no check point but the middle lies strictly between two neighbours
pub only_middle : (rows : List PlainRow) (x y : PlainPoint) (a b p : Number) → AreNeighbours rows x y a b → IsBetween a b p → IsCheckPoint rows x y p
    → p ≡ mid a b
only_middle rows x y a b p n i (inl cut) = absurd (n.clear p cut i.left i.right)
only_middle rows x y a b p n i (inr m) =
    let o = m.neighbours in
    let k = mid_between m.left m.right o.order in
    let l1 : lt m.left p ≡ true = ap (λ w. lt m.left w) m.middle ∙ k.left in
    let r1 : lt p m.right ≡ true = ap (λ w. lt w m.right) m.middle ∙ k.right in
    let l_le : lt a m.left ≡ false = by_bool (lt a m.left) (λ e. absurd (n.clear m.left o.left e (lt_trans m.left p b l1 i.right))) (λ e. e) in
    let l_ge : lt m.left a ≡ false = by_bool (lt m.left a) (λ e. absurd (o.clear a n.left e (lt_trans a p m.right i.left r1))) (λ e. e) in
    let r_le : lt m.right b ≡ false = by_bool (lt m.right b) (λ e. absurd (n.clear m.right o.right (lt_trans a p m.right i.left r1) e)) (λ e. e) in
    let r_ge : lt b m.right ≡ false = by_bool (lt b m.right) (λ e. absurd (o.clear b n.right (lt_trans m.left p b l1 i.right) e)) (λ e. e) in
    m.middle ∙ ap (λ w. mid w m.right) (lt_antisymm m.left a l_ge l_le) ∙ ap (λ w. mid a w) (lt_antisymm m.right b r_le r_ge)

-- a check point is a place
pub check_is_place : (rows : List PlainRow) (x y : PlainPoint) (p : Number) → IsCheckPoint rows x y p → IsPlace p
check_is_place rows x y p (inl cut) = cut.place
check_is_place rows x y p (inr m) = subst (λ (w : Number). IsPlace w) (sym m.middle) (inside_place m.left m.right _ m.neighbours.left.place m.neighbours.right.place (mid_between m.left m.right m.neighbours.order))

-- the middle of the neighbours round a place
abbrev pub middle_of : (rows : List PlainRow) (x y : PlainPoint) (p : Number) → IsEnclosed rows x y p → CheckPlace rows x y
middle_of rows x y p f = record { at = mid f.left f.right; check = inr (record { left = f.left; right = f.right; neighbours = f.neighbours; middle = refl }) }

module _ (rows : List PlainRow) (x y : PlainPoint) (same : length x ≡ length y) where
  -- cuts as check points
  abbrev cut_checks : List (CutPlace rows x y) → List (CheckPlace rows x y)
  cut_checks [] = []
  cut_checks (c ∷ cs) = record { at = c.at; check = inl c.cut } ∷ cut_checks cs

  -- a cut that was listed is listed as a check point
  cut_there : (p : Number) (cs : List (CutPlace rows x y)) → SomeOf (λ c. c.at ≡ p) cs → SomeOf (λ c. c.at ≡ p) (cut_checks cs)
  cut_there p [] h = absurd h
  cut_there p (c ∷ cs) (inl h) = inl h
  cut_there p (c ∷ cs) (inr h) = inr (cut_there p cs h)

  -- the middle of a and b, where they are neighbours
  record PairFound (a b : Number) : Type 0 where
    found : List (CheckPlace rows x y)
    all : AreNeighbours rows x y a b → SomeOf (λ c. c.at ≡ mid a b) found

  -- for each two places
  pair_found : (a b : Number) → IsPlace a → IsPlace b → PairFound a b
  pair_found a b i j =
      by_bool (lt a b)
      (λ e.
      let m = mid a b in
      let k = mid_between a b e in
      elim (enclose rows x y m same (inside_place a b m i j k)) [
        | inl cut ↦ record { found = []; all = λ n. n.clear m cut k.left k.right }
        | inr f ↦ record { found = middle_of rows x y m f ∷ []; all = λ n. inl (sym (only_middle rows x y f.left f.right m f.neighbours f.between (inr (record { left = a; right = b; neighbours = n; middle = refl })))) }
      ])
      (λ e. record { found = []; all = λ n. clash (lt a b) n.order e })

  -- the middles of a and each place of a list, where they are neighbours
  record RowFound (a : Number) (ds : List (CutPlace rows x y)) : Type 0 where
    found : List (CheckPlace rows x y)
    all : (b : Number) → SomeOf (λ d. d.at ≡ b) ds → AreNeighbours rows x y a b → SomeOf (λ c. c.at ≡ mid a b) found

  -- for each place and list
  row_found : (a : Number) → IsPlace a → (ds : List (CutPlace rows x y)) → RowFound a ds
  row_found a i [] = record { found = []; all = λ b h n. absurd h }
  row_found a i (d ∷ ds) =
      let first = pair_found a d.at i d.cut.place in
      let more = row_found a i ds in
      record { found = first.found ++ more.found; all = λ b h n. elim h [ inl e ↦ some_left _ first.found more.found (subst (λ (w : Number). AreNeighbours rows x y a w → SomeOf (λ c. c.at ≡ mid a w) first.found) e first.all n) | inr k ↦ some_right _ first.found more.found (more.all b k n) ] }

  -- the middles of each place of a list and each of another, where they are neighbours
  record AllFound (cs ds : List (CutPlace rows x y)) : Type 0 where
    found : List (CheckPlace rows x y)
    all : (a b : Number) → SomeOf (λ d. d.at ≡ a) cs → SomeOf (λ d. d.at ≡ b) ds → AreNeighbours rows x y a b → SomeOf (λ c. c.at ≡ mid a b) found

  -- for each two lists
  all_found : (cs ds : List (CutPlace rows x y)) → AllFound cs ds
  all_found [] ds = record { found = []; all = λ a b h k n. absurd h }
  all_found (c ∷ cs) ds =
      let first = row_found c.at c.cut.place ds in
      let more = all_found cs ds in
      record {
        found = first.found ++ more.found;
        all = λ a b h k n. elim h [
          | inl e ↦ some_left _ first.found more.found (subst (λ (w : Number). AreNeighbours rows x y w b → SomeOf (λ d. d.at ≡ mid w b) first.found) e (first.all b k) n)
          | inr l ↦ some_right _ first.found more.found (more.all a b l k n)
        ];
      }

  -- all check points, each with the fact that it is one
  pub record AllChecks : Type 0 where
    pub checks : List (CheckPlace rows x y)
    pub all : (p : Number) → IsCheckPoint rows x y p → SomeOf (λ c. c.at ≡ p) checks

  -- a listed place may be exchanged for an equal one
  some_equal : (p q : Number) (cs : List (CheckPlace rows x y)) → q ≡ p → SomeOf (λ c. c.at ≡ q) cs → SomeOf (λ c. c.at ≡ p) cs
  some_equal p q cs e h = subst (λ (w : Number). SomeOf (λ c. c.at ≡ w) cs) e h

  -- the cuts, and the middles of all pairs of cuts that are neighbours
  pub all_checks : AllChecks
  all_checks =
      let cuts = all_cuts x y same rows in
      let mids = all_found cuts.cuts cuts.cuts in
      record { checks = cut_checks cuts.cuts ++ mids.found; all = λ p h. there cuts mids p h }
    where
      there : (cuts : AllCuts x y same rows) (mids : AllFound cuts.cuts cuts.cuts) (p : Number) → IsCheckPoint rows x y p
          → SomeOf (λ c. c.at ≡ p) (cut_checks cuts.cuts ++ mids.found)
      there cuts mids p (inl cut) = some_left _ (cut_checks cuts.cuts) mids.found (cut_there p cuts.cuts (cuts.all p cut))
      there cuts mids p (inr m) = some_right _ (cut_checks cuts.cuts) mids.found (some_equal p (mid m.left m.right) mids.found (sym m.middle) (mids.all m.left m.right (cuts.all m.left m.neighbours.left) (cuts.all m.right m.neighbours.right) m.neighbours))

-- the member with the least key of those with a property
pub record Least {A : Type 0} (key : A → Number) (P : A → Type 0) (xs : List A) : Type 0 where
  pub member : A
  pub holds : P member
  pub least : AllOf (λ x. P x → lt (key x) (key member) ≡ false) xs

-- what is not below a is not below a smaller b
all_below : {A : Type 0} (key : A → Number) (P : A → Type 0) (a b : Number) → lt b a ≡ true → (xs : List A)
    → AllOf (λ x. P x → lt (key x) a ≡ false) xs → AllOf (λ x. P x → lt (key x) b ≡ false) xs
all_below key P a b h [] k = tt
all_below key P a b h (x ∷ xs) k = ((λ i. by_bool (lt (key x) b) (λ e. clash (lt (key x) a) (lt_trans (key x) b a e h) (k.0 i)) (λ e. e)), all_below key P a b h xs k.1)

-- of members without the property nothing is asked
all_false : {A : Type 0} (key : A → Number) (P : A → Type 0) (a : Number) (xs : List A) → AllOf (λ x. ¬ P x) xs
    → AllOf (λ x. P x → lt (key x) a ≡ false) xs
all_false key P a [] h = tt
all_false key P a (x ∷ xs) h = ((λ i. absurd (h.0 i)), all_false key P a xs h.1)

-- a list has no member with a decidable property, or one with the least key
pub find_least : {A : Type 0} (key : A → Number) (P : A → Type 0) → ((x : A) → P x ⊎ ¬ P x) → (xs : List A) → AllOf (λ x. ¬ P x) xs ⊎ Least key P xs
find_least key P decide [] = inl tt
find_least key P decide (x ∷ xs) =
    elim (find_least key P decide xs) [
      | inl none ↦ elim (decide x) [ inl h ↦ inr (record { member = x; holds = h; least = ((λ i. lt_irrefl (key x)), all_false key P (key x) xs none) }) | inr h ↦ inl (h, none) ]
      | inr l ↦ elim (decide x) [
        | inl h ↦ by_bool (lt (key x) (key l.member))
            (λ e. inr (record { member = x; holds = h; least = ((λ i. lt_irrefl (key x)), all_below key P (key l.member) (key x) e xs l.least) }))
            (λ e. inr (record { member = l.member; holds = l.holds; least = ((λ i. e), l.least) }))
        | inr h ↦ inr (record { member = l.member; holds = l.holds; least = ((λ i. absurd (h i)), l.least) })
      ]
    ]

-- the list of the places alone
abbrev places_of : {rows : List PlainRow} {x y : PlainPoint} → List (CheckPlace rows x y) → List Number
places_of [] = []
places_of (c ∷ cs) = c.at ∷ places_of cs

-- a check point that was listed is in the list of the places
place_there : {rows : List PlainRow} {x y : PlainPoint} (p : Number) (cs : List (CheckPlace rows x y)) → SomeOf (λ c. c.at ≡ p) cs
    → SomeOf (λ q. q ≡ p) (places_of cs)
place_there p [] h = absurd h
place_there p (c ∷ cs) (inl h) = inl h
place_there p (c ∷ cs) (inr h) = inr (place_there p cs h)

-- a place of the list is a check point
there_check : {rows : List PlainRow} {x y : PlainPoint} (p : Number) (cs : List (CheckPlace rows x y)) → SomeOf (λ q. q ≡ p) (places_of cs)
    → IsCheckPoint rows x y p
there_check p [] h = absurd h
there_check {rows} {x} {y} p (c ∷ cs) (inl h) = subst (λ (w : Number). IsCheckPoint rows x y w) h c.check
there_check p (c ∷ cs) (inr h) = there_check p cs h

-- the check points of a segment are the members of a list
pub check_places : (rows : List PlainRow) (x y : PlainPoint) → length x ≡ length y
    → (places : List Number) × ((p : Number) → IsCheckPoint rows x y p ↔ SomeOf (λ q. q ≡ p) places)
check_places rows x y e = let a = all_checks rows x y e in (places_of a.checks, λ p. (λ h. place_there p a.checks (a.all p h), there_check p a.checks))
