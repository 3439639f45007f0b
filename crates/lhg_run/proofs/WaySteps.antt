-- Steps of the search for the place at which a flow is stopped.
use Rattle.std.proofs.Common.{◌≡◌, ◌⊎◌, inl, inr, ℕ, ◌+◌, ◌<◌, List, [], ◌∷◌, ◌++◌, length, take, drop, get_or, add-one, Option, Some, None, true, false, refl, sym, ap, ◌∙◌, subst}
use Rattle.std.specs.Option.{IsSome}
use Rattle.std.specs.Prelude.{IfSome}
use Rattle.std.proofs.lemmas.List.{take-append-drop}
use Rattle.std.proofs.Math.Seq.{take-suc}
use Rattle.lhg_math.specs.Number.{Number, lt}
use Rattle.lhg_math.specs.NumberOrder.{lt_irrefl, lt_asym, lt-le_trans}
use Rattle.lhg_math.specs.Places.{IsPlace}
use Rattle.lhg_math.specs.Tests.{AllOf, by_bool, false_true}
use Rattle.lhg_math.specs.ListFacts.{drop_cons}
use Rattle.lhg_row.specs.Decisions.{clash}
use Rattle.lhg_row.specs.Members.{SomeOf, all_some, some_left, some_right, all-append, all_split}
use Rattle.lhg_row.specs.Row.{PlainPoint}
use Rattle.lhg_motion.specs.Segment.{along}
use Rattle.lhg_motion.specs.CheckPlaces.{check_is_place}
use Rattle.lhg_play.specs.Checks.{IsAscending, AreChecks}
use Rattle.lhg_plant.specs.Plant.{PlainPlant}
use Rattle.lhg_plant.specs.State.{PlainState}
use Rattle.lhg_plant.specs.Legal.{LegalFlow}
use Rattle.lhg_plant.specs.Region.{InRegion, InSomeGuard}
use Rattle.lhg_plant.specs.Controller.{PlainController, IsValid}
use Rattle.lhg_plant.specs.Run.{run_rows, IsCheckOf, state_along, PassesWhole, IsFirstOutside, IsFirstGuard, StopsAt}
use Rattle.lhg_plant.proofs.RunAnswers.{flow_answers}
use Rattle.lhg_run.specs.Seen.{IsWay, IsSight, is_outside, later, IsLastGuard, IsLastOf}
use Rattle.lhg_run.specs.declared.sights.Sight.{Sight}
use Rattle.lhg_run.specs.declared.sights.Sight.TheVariants.{Outside, Inside, Guarded}
use Rattle.lhg_run.specs.declared.ways.Stop.{Stop}
use Rattle.lhg_run.specs.declared.ways.Way.{Way}
use Rattle.lhg_run.specs.declared.ways.Way.TheVariants.{Stopped}

-- in an ascending list what stands in front of a place is below it, and what stands behind it above
in_front : (before : List Number) (p : Number) (after : List Number) → IsAscending (before ++ p ∷ after) → AllOf (λ q. lt q p ≡ true) before
in_front [] p after h = tt
in_front (b ∷ before) p after h = ((all_split (λ q. lt b q ≡ true) before (p ∷ after) h.0).1.0, in_front before p after h.1)

behind : (before : List Number) (p : Number) (after : List Number) → IsAscending (before ++ p ∷ after) → AllOf (λ q. lt p q ≡ true) after
behind [] p after h = h.0
behind (b ∷ before) p after h = behind before p after h.1

-- what is in two lists is in the first or in the second
in_either : (P : Number → Type 0) (xs ys : List Number) → SomeOf P (xs ++ ys) → SomeOf P xs ⊎ SomeOf P ys
in_either P [] ys h = inr h
in_either P (x ∷ xs) ys (inl h) = inl (inl h)
in_either P (x ∷ xs) ys (inr h) = elim (in_either P xs ys h) [ inl k ↦ inl (inr k) | inr k ↦ inr k ]

-- all facts of members that follow from another
weaker : (P Q : Number → Type 0) → ((q : Number) → P q → Q q) → (xs : List Number) → AllOf P xs → AllOf Q xs
weaker P Q f [] h = tt
weaker P Q f (x ∷ xs) h = (f x h.0, weaker P Q f xs h.1)

module _ (a : PlainPlant) (c : PlainController) (s : PlainState) (y : PlainPoint) where
  -- the region holds at the place
  abbrev IsIn : Number → Type 0
  IsIn q = InRegion a c.region (state_along s y q)

  -- some guard holds there
  abbrev HasGuard : Number → Type 0
  HasGuard q = InSomeGuard a c.guards (state_along s y q)

  -- the region holds at all places so far, and the last of them with a guard is known
  pub record IsFollowed (before : List Number) (last : Option Stop) : Type 0 where
    pub inside : AllOf IsIn before
    pub last_of : IsLastOf a c s y before last

  -- at the start there is none
  pub followed-start : IsFollowed [] None
  followed-start = record { inside = tt; last_of = tt }

  -- a place without a guard
  pub followed-inside : (before : List Number) (p : Number) (last : Option Stop) → IsFollowed before last → IsIn p → ¬ HasGuard p → IsFollowed (before ++ p ∷ []) last
  followed-inside before p last h inside none = record { inside = all-append IsIn before (p ∷ []) h.inside (inside, tt); last_of = more last h.last_of }
    where
      more : (last : Option Stop) → IsLastOf a c s y before last → IsLastOf a c s y (before ++ p ∷ []) last
      more None k = all-append (λ q. ¬ HasGuard q) before (p ∷ []) k (none, tt)
      more (Some stop) k = record {
        there = some_left (λ q. q ≡ stop.place) before (p ∷ []) k.there;
        guard = k.guard;
        point = k.point;
        last = all-append (λ q. lt stop.place q ≡ true → ¬ HasGuard q) before (p ∷ []) k.last ((λ l. none), tt);
      }

  -- a place with a guard
  pub followed-guarded : (before : List Number) (p : Number) (last : Option Stop) (stop : Stop) → IsFollowed before last → AllOf (λ q. lt q p ≡ true) before
      → IsIn p → stop.place ≡ p → IsFirstGuard a c.guards (state_along s y p) stop.switch → stop.at ≡ along s.at y p
      → IsFollowed (before ++ p ∷ []) (Some stop)
  followed-guarded before p last stop h below inside e guard point = record {
    inside = all-append IsIn before (p ∷ []) h.inside (inside, tt);
    last_of = record {
      there = some_right (λ q. q ≡ stop.place) before (p ∷ []) (inl (sym e));
      guard = subst (λ w. IsFirstGuard a c.guards (state_along s y w) stop.switch) (sym e) guard;
      point = point ∙ ap (λ w. along s.at y w) (sym e);
      last = all-append (λ q. lt stop.place q ≡ true → ¬ HasGuard q) before (p ∷ [])
          (weaker (λ q. lt q p ≡ true) (λ q. lt stop.place q ≡ true → ¬ HasGuard q) (λ q k l. clash (lt p q) (ap (λ w. lt w q) (sym e) ∙ l) (lt_asym q p k)) before below)
          ((λ l. clash (lt p p) (ap (λ w. lt w p) (sym e) ∙ l) (lt_irrefl p)), tt);
    };
  }

  -- one place more
  pub followed-seen : (before : List Number) (p : Number) (last : Option Stop) (sight : Sight) → IsFollowed before last → AllOf (λ q. lt q p ≡ true) before
      → IsSight a c s y p sight → is_outside sight ≡ false → IsFollowed (before ++ p ∷ []) (later last p sight)
  followed-seen before p last Outside h below k e = false_true (sym e)
  followed-seen before p last Inside h below k e = followed-inside before p last h k.0 k.1
  followed-seen before p last (Guarded e at) h below k f = followed-guarded before p last (record { place = p; at = at; switch = e }) h below k.0 refl k.1 k.2

  -- a place outside
  pub seen-out : (p : Number) (sight : Sight) → IsSight a c s y p sight → is_outside sight ≡ true → ¬ IsIn p
  seen-out p Outside k e = k
  seen-out p Inside k e = false_true e
  seen-out p (Guarded d at) k e = false_true e

  module _ (places : List Number) (checks : AreChecks (run_rows a c s.loc) s.at y places) where
    -- each of the places is a check point
    pub listed_check : (p : Number) → SomeOf (λ q. q ≡ p) places → IsCheckOf a c s y p
    listed_check p h = (checks.all p).1 h

    -- and a place
    pub listed_place : (p : Number) → SomeOf (λ q. q ≡ p) places → IsPlace p
    listed_place p h = check_is_place (run_rows a c s.loc) s.at y p (listed_check p h)

    -- where all are passed the flow passes whole
    pub passes : (last : Option Stop) → IsFollowed places last → PassesWhole a c s y
    passes last h q check = all_some IsIn (λ w. w ≡ q) (IsIn q) (λ w i e. subst IsIn e i) places h.inside ((checks.all q).0 check)

    module _ (before : List Number) (p : Number) (after : List Number) (is : places ≡ before ++ p ∷ after) where
      up : IsAscending (before ++ p ∷ after)
      up = subst IsAscending is checks.ascending

      -- the places in front are below
      pub below : AllOf (λ q. lt q p ≡ true) before
      below = in_front before p after up

      -- p is one of the places
      pub here_listed : SomeOf (λ q. q ≡ p) places
      here_listed = subst (SomeOf (λ q. q ≡ p)) (sym is) (some_right (λ q. q ≡ p) before (p ∷ after) (inl refl))

      -- so is each in front
      front_listed : (q : Number) → SomeOf (λ w. w ≡ q) before → SomeOf (λ w. w ≡ q) places
      front_listed q h = subst (SomeOf (λ w. w ≡ q)) (sym is) (some_left (λ w. w ≡ q) before (p ∷ after) h)

      -- a check point before p stands in front
      before_listed : (q : Number) → IsCheckOf a c s y q → lt q p ≡ true → SomeOf (λ w. w ≡ q) before
      before_listed q check less =
          elim (in_either (λ w. w ≡ q) before (p ∷ after) (subst (SomeOf (λ w. w ≡ q)) is ((checks.all q).0 check))) [
            | inl k ↦ k
            | inr k ↦ elim k [
              | inl e ↦ clash (lt q p) less (ap (λ w. lt q w) e ∙ lt_irrefl q)
              | inr m ↦ all_some (λ w. lt p w ≡ true) (λ w. w ≡ q) (SomeOf (λ w. w ≡ q) before) (λ w i e. clash (lt q p) less (lt_asym p q (ap (λ v. lt p v) (sym e) ∙ i))) after (behind before p after up) m
            ]
          ]

      module _ (last : Option Stop) (h : IsFollowed before last) (out : ¬ IsIn p) where
        -- p is the first check point outside
        first : IsFirstOutside a c s y p
        first = record {
          check = listed_check p here_listed;
          outside = out;
          before = λ q check less. all_some IsIn (λ w. w ≡ q) (IsIn q) (λ w i e. subst IsIn e i) before h.inside (before_listed q check less);
        }

        -- the flow is stopped at the last place with a guard
        stops_by : (stop : Stop) → IsLastGuard a c s y before stop → StopsAt a c s y stop.place stop.switch
        stops_by stop k = record {
          end_place = p;
          first = first;
          check = listed_check stop.place (front_listed stop.place k.there);
          before = all_some (λ w. lt w p ≡ true) (λ w. w ≡ stop.place) (lt stop.place p ≡ true) (λ w i e. ap (λ v. lt v p) (sym e) ∙ i) before below k.there;
          guard = k.guard;
          last = λ q d check more less guard. all_some (λ w. lt stop.place w ≡ true → ¬ HasGuard w) (λ w. w ≡ q) ⊥
              (λ w i e. i (ap (λ v. lt stop.place v) e ∙ more) (subst HasGuard (sym e) (d, guard))) before k.last (before_listed q check less);
        }

        -- there is one, for a valid controller from a state of the region
        module _ (valid : IsValid a c) (t : Number) (flow : LegalFlow a s t y) (start : InRegion a c.region s) where
          none_guarded : AllOf (λ q. ¬ HasGuard q) before → ⊥
          none_guarded none =
              elim (flow_answers a c valid s t y flow start) [
                | inl whole ↦ out (whole p (listed_check p here_listed))
                | inr stop ↦
                    (let k = stop.2 in
                    let late : lt p k.end_place ≡ false = by_bool (lt p k.end_place) (λ e. absurd (out (k.first.before p (listed_check p here_listed) e))) (λ e. e) in
                    all_some (λ q. ¬ HasGuard q) (λ w. w ≡ stop.0) ⊥ (λ w i e. i (subst HasGuard (sym e) (stop.1, k.guard.holds))) before none
                    (before_listed stop.0 k.check (lt-le_trans stop.0 k.end_place p k.before late)))
              ]

          some_by : (last : Option Stop) → IsLastOf a c s y before last → IsSome last
          some_by None k = absurd (none_guarded k)
          some_by (Some stop) k = refl

          pub is_stopped : IsSome last
          is_stopped = some_by last h.last_of

-- the answer at a place outside
pub stop_answer : (a : PlainPlant) (c : PlainController) (s : PlainState) (y : PlainPoint) (places : List Number) (checks : AreChecks (run_rows a c s.loc) s.at y places)
    (before : List Number) (p : Number) (after : List Number) (is : places ≡ before ++ p ∷ after) (last : Option Stop) (stop : Stop) → last ≡ Some stop
    → IsFollowed a c s y before last → ¬ InRegion a c.region (state_along s y p)
    → StopsAt a c s y stop.place stop.switch × (stop.at ≡ along s.at y stop.place)
stop_answer a c s y places checks before p after is last stop e h out =
    let k : IsLastGuard a c s y before stop = subst (IsLastOf a c s y before) e h.last_of in
    (stops_by a c s y places checks before p after is last h out stop k, k.point)

-- a list is what is before a place, the place, and what is behind it
pub split_at : (places : List Number) (i : ℕ) (p : Number) → p ≡ get_or places i p → i < length places → places ≡ take i places ++ p ∷ drop (i + 1) places
split_at places i p e h = sym (take-append-drop i places) ∙ ap (λ w. take i places ++ w) (drop_cons places i p e h)

-- one place more
pub take-more : (places : List Number) (i : ℕ) (p : Number) → p ≡ get_or places i p → i < length places → take (i + 1) places ≡ take i places ++ p ∷ []
take-more places i p e h = ap (λ k. take k places) (add-one i) ∙ take-suc places i p h ∙ ap (λ w. take i places ++ w ∷ []) (sym e)

-- the way that a stop tells
pub way-stopped : (a : PlainPlant) (c : PlainController) (s : PlainState) (y : PlainPoint) (last : Option Stop) (way : Way) → IsSome last → IfSome last (λ stop. way ≡ Stopped stop)
    → ((stop : Stop) → last ≡ Some stop → StopsAt a c s y stop.place stop.switch × (stop.at ≡ along s.at y stop.place)) → IsWay a c s y way
way-stopped a c s y None way h e f = false_true h
way-stopped a c s y (Some stop) way h e f = subst (IsWay a c s y) (sym e) (f stop refl)
