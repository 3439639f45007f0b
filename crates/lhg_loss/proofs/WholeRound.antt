-- A round goes over the locations in order, and is exact.
use Rattle.std.proofs.Common.{◌≡◌, ◌↔◌, ◌<◌, ◌+◌, ℕ, zero, suc, List, [], ◌∷◌, ◌++◌, length, slice_get, get_or, Some, IsSomeAnd, refl, sym, ap, ◌∙◌, inl, inr, subst, arith, length-append}
use Rattle.std.specs.Prelude.{Contains}
use Rattle.std.proofs.lemmas.List.{map-append, get_or_append_left, get_or-append-add}
use Rattle.std.proofs.lemmas.List.Elements.{Contains-append_left, Contains-append_right}
use Rattle.lhg_math.specs.Tests.{AllOf}
use Rattle.lhg_num.specs.FracArithmetic.{frac_arithmetic}
use Rattle.lhg_num.specs.Marked.{walk}
use Rattle.lhg_row.specs.Row.{PlainPoint}
use Rattle.lhg_row.specs.Piece.{PlainPiece, InPiece, InSome}
use Rattle.lhg_row.specs.PieceFacts.{IsPoly, AllPolys}
use Rattle.lhg_row.specs.Decisions.{nat_decided}
use Rattle.lhg_row.specs.Members.{all-append}
use Rattle.lhg_row.specs.Lists.{minus}
use Rattle.lhg_plant.specs.Plant.{PlainLocation, PlainPlant}
use Rattle.lhg_plant.specs.State.{PlainState, IsState}
use Rattle.lhg_plant.specs.OutBack.{Back}
use Rattle.lhg_plant.specs.Escape.{HasEscape}
use Rattle.lhg_plant.specs.Round.{Next}
use Rattle.lhg_plant.specs.Region.{PlainRegion, PlainGuards, InRegion}
use Rattle.lhg_plant.specs.Loss.{PlainLoss}
use Rattle.lhg_plant.specs.Sound.{IsSoundBetween}
use Rattle.lhg_plant.specs.Invariants.{pieces_at}
use Rattle.lhg_plant.specs.OutCalculus.{PlainOuts, numbered}
use Rattle.lhg_plant.specs.SwitchFacts.{state_at}
use Rattle.lhg_loss.specs.Records.{PlainRound, pieces_lost, losses_at, no_round, round_at, round_over}
use Rattle.lhg_loss.specs.RoundFacts.{AreNumbered, IsPlaceRound, IsExactRound}
use Rattle.lhg_loss.proofs.Transfer.{sound_same, within_left, within_right, sound_within}
use Rattle.lhg_loss.proofs.Numbers.{all_contained, numbered_append}
use Rattle.lhg_plant.proofs.InsideStates.{inside_from}

-- ---- lists
all_weaken : {A : Type 0} (P Q : A → Type 0) → ((x : A) → P x → Q x) → (xs : List A) → AllOf P xs → AllOf Q xs
all_weaken P Q f [] h = tt
all_weaken P Q f (x ∷ xs) h = (f x h.0, all_weaken P Q f xs h.1)

all_both : {A : Type 0} (P Q R : A → Type 0) → ((x : A) → P x → Q x → R x) → (xs : List A) → AllOf P xs → AllOf Q xs → AllOf R xs
all_both P Q R f [] h k = tt
all_both P Q R f (x ∷ xs) h k = (f x h.0 k.0, all_both P Q R f xs h.1 k.1)

-- a place of a list with a piece is one of the list
in_range : (region : PlainRegion) (l : ℕ) (p : PlainPoint) → InSome (get_or region l []) p → l < length region
in_range [] l p h = absurd h
in_range (ps ∷ region) zero p h = omega arith
in_range (ps ∷ region) (suc l) p h = let k = in_range region l p h in omega arith

there_in : {A : Type 0} (P : A → Type 0) (xs : List A) (k : ℕ) → IsSomeAnd (slice_get xs k) P → k < length xs
there_in P [] k h = absurd h
there_in P (x ∷ xs) zero h = omega arith
there_in P (x ∷ xs) (suc k) h = let l = there_in P xs k h in omega arith

-- a point of a lost piece is one of a record
record HasRecord (losses : List PlainLoss) (l : ℕ) (p : PlainPoint) : Type 0 where
  loss : PlainLoss
  listed : Contains losses loss
  place : loss.loc ≡ l
  inside : InPiece loss.piece p

has_record : (losses : List PlainLoss) (l : ℕ) (p : PlainPoint) → AllOf (λ r. r.loc ≡ l) losses → InSome (pieces_lost losses) p → HasRecord losses l p
has_record [] l p h k = absurd k
has_record (r ∷ rs) l p h (inl k) = record { loss = r; listed = (zero, omega arith, refl); place = h.0; inside = k }
has_record (r ∷ rs) l p h (inr k) =
    let t = has_record rs l p h.1 k in
    record { loss = t.loss; listed = Contains-append_right (r ∷ []) rs t.loss t.listed; place = t.place; inside = t.inside }

-- ---- the locations so far
module _ (a : PlainPlant) (S : PlainState → Type 0) (round first : ℕ) where
  abbrev n : ℕ
  n = length a.vars

  -- after the first k locations
  record IsPartial (k : ℕ) (r : PlainRound) : Type 0 where
    listed : length r.next ≡ k
    polys : AllOf (AllPolys frac_arithmetic n) r.next
    exact : (l : ℕ) → l < k → (p : PlainPoint) → length p ≡ n → InSome (get_or r.next l []) p ↔ Next a S (state_at l p)
    counted : AreNumbered round first r.losses
    lost_polys : AllPolys frac_arithmetic n (pieces_lost r.losses)
    places : AllOf (λ x. x.loc < k) r.losses
    sound : AllOf (IsSoundBetween a S (λ s. InSome (get_or r.next s.loc []) s.at) r.losses) r.losses
    lost : (l : ℕ) → l < k → (p : PlainPoint) → length p ≡ n → S (state_at l p) → ¬ InSome (get_or r.next l []) p → HasRecord r.losses l p
    escapes : (l : ℕ) → l < k → (p : PlainPoint) → length p ≡ n → S (state_at l p) → ¬ InSome (get_or r.next l []) p → HasEscape a S (Back a S) (state_at l p)

  partial_none : IsPartial 0 no_round
  partial_none = record {
    listed = refl;
    polys = tt;
    exact = λ l h. absurd (omega arith);
    counted = tt;
    lost_polys = tt;
    places = tt;
    sound = tt;
    lost = λ l h. absurd (omega arith);
    escapes = λ l h. absurd (omega arith);
  }

  module _ (k : ℕ) (r : PlainRound) (h : IsPartial k r) (losses : List PlainLoss) (rest : List PlainPiece) (e : IsPlaceRound a S k round (first + length r.losses) losses rest) where
    abbrev more : List (List PlainPiece)
    more = r.next ++ rest ∷ []

    old_at : (l : ℕ) → l < k → get_or more l [] ≡ get_or r.next l []
    old_at l less = get_or_append_left r.next (rest ∷ []) [] l (let m = h.listed in omega arith)

    new_at : (l : ℕ) → l ≡ k → get_or more l [] ≡ rest
    new_at l same = let m = h.listed in let place : l ≡ length r.next + 0 = omega arith in ap (λ w. get_or more w []) place ∙ get_or-append-add r.next (rest ∷ []) 0 []

    -- a fact of each place so far
    each_place : (P : ℕ → List PlainPiece → Type 0) → ((l : ℕ) → l < k → P l (get_or r.next l [])) → P k rest → (l : ℕ) → l < suc k → P l (get_or more l [])
    each_place P old new l less =
        elim (nat_decided l k) [
          | inl same ↦ subst (λ (w : List PlainPiece). P l w) (sym (new_at l same)) (subst (λ (w : ℕ). P w rest) (sym same) new)
          | inr other ↦ (let before : l < k = omega arith in subst (λ (w : List PlainPiece). P l w) (sym (old_at l before)) (old l before))
        ]

    old_sound : (x : PlainLoss) → x.loc < k → IsSoundBetween a S (λ s. InSome (get_or r.next s.loc []) s.at) r.losses x → IsSoundBetween a S (λ s. InSome (get_or more s.loc []) s.at) (r.losses ++ losses) x
    old_sound x less b =
        sound_within a r.losses (r.losses ++ losses) (within_left r.losses losses) S (λ s. InSome (get_or more s.loc []) s.at) x
        (sound_same a S S (λ s. ((λ t. t), (λ t. t))) (λ s. InSome (get_or r.next s.loc []) s.at) (λ s. InSome (get_or more s.loc []) s.at) r.losses x
        (λ s i v. subst (λ (w : List PlainPiece). InSome w s.at) (old_at s.loc (subst (λ (w : ℕ). w < k) (sym i.here) less)) v) b)

    new_sound : (x : PlainLoss) → x.loc ≡ k → IsSoundBetween a S (λ s. InSome rest s.at) losses x → IsSoundBetween a S (λ s. InSome (get_or more s.loc []) s.at) (r.losses ++ losses) x
    new_sound x same b =
        sound_within a losses (r.losses ++ losses) (within_right r.losses losses) S (λ s. InSome (get_or more s.loc []) s.at) x
        (sound_same a S S (λ s. ((λ t. t), (λ t. t))) (λ s. InSome rest s.at) (λ s. InSome (get_or more s.loc []) s.at) losses x
        (λ s i v. subst (λ (w : List PlainPiece). InSome w s.at) (new_at s.loc (i.here ∙ same)) v) b)

    -- one location more
    partial_step : IsPartial (suc k) (record { losses = r.losses ++ losses; next = more })
    partial_step = record {
      listed = (let m = h.listed in let long = length-append r.next (rest ∷ []) in omega arith);
      polys = all-append (AllPolys frac_arithmetic n) r.next (rest ∷ []) h.polys (e.rest_polys, tt);
      exact = each_place (λ l w. (p : PlainPoint) → length p ≡ n → InSome w p ↔ Next a S (state_at l p)) h.exact e.exact;
      counted = numbered_append round first r.losses losses h.counted e.numbered;
      lost_polys = subst (λ (w : List PlainPiece). AllPolys frac_arithmetic n w) (sym (map-append (λ (x : PlainLoss). x.piece) r.losses losses))
          (all-append (IsPoly frac_arithmetic n) (pieces_lost r.losses) (pieces_lost losses) h.lost_polys e.polys);
      places = all-append (λ x. x.loc < suc k) r.losses losses (all_weaken (λ x. x.loc < k) (λ x. x.loc < suc k) (λ x l. omega arith) r.losses h.places)
          (all_weaken (λ x. x.loc ≡ k) (λ x. x.loc < suc k) (λ x l. omega arith) losses e.places);
      sound = all-append (IsSoundBetween a S (λ s. InSome (get_or more s.loc []) s.at) (r.losses ++ losses)) r.losses losses
          (all_both (λ x. x.loc < k) (IsSoundBetween a S (λ s. InSome (get_or r.next s.loc []) s.at) r.losses) (IsSoundBetween a S (λ s. InSome (get_or more s.loc []) s.at) (r.losses ++ losses)) old_sound r.losses h.places h.sound)
          (all_both (λ x. x.loc ≡ k) (IsSoundBetween a S (λ s. InSome rest s.at) losses) (IsSoundBetween a S (λ s. InSome (get_or more s.loc []) s.at) (r.losses ++ losses)) new_sound losses e.places e.sound);
      lost = each_place (λ l w. (p : PlainPoint) → length p ≡ n → S (state_at l p) → ¬ InSome w p → HasRecord (r.losses ++ losses) l p)
          (λ l less p f s v. (let t = h.lost l less p f s v in record { loss = t.loss; listed = Contains-append_left r.losses losses t.loss t.listed; place = t.place; inside = t.inside }))
          (λ p f s v. (let t = has_record losses k p e.places (e.lost p f s v) in record { loss = t.loss; listed = Contains-append_right r.losses losses t.loss t.listed; place = t.place; inside = t.inside }));
      escapes = each_place (λ l w. (p : PlainPoint) → length p ≡ n → S (state_at l p) → ¬ InSome w p → HasEscape a S (Back a S) (state_at l p)) h.escapes e.escapes;
    }

-- ---- all locations
module _ (a : PlainPlant) (region : PlainRegion) (outs : PlainOuts) (kss : PlainGuards) (round first : ℕ)
    (each_is : (k : ℕ) (place : PlainLocation) → slice_get a.locs k ≡ Some place → (m : ℕ) → IsPlaceRound a (InRegion a region) k round m (losses_at a region outs kss round m (k, place)).value
    (minus frac_arithmetic (length a.vars) (pieces_at region k) (pieces_lost (losses_at a region outs kss round m (k, place)).value)).value) where
  abbrev S : PlainState → Type 0
  S = InRegion a region

  over_places : (locs : List PlainLocation) (k : ℕ) (r : PlainRound) → IsPartial a S round first k r → ((j : ℕ) (place : PlainLocation) → slice_get locs j ≡ Some place → slice_get a.locs (k + j) ≡ Some place)
      → IsPartial a S round first (k + length locs) (walk (round_at a region outs kss round first) r (numbered k locs)).value
  over_places [] k r h there = subst (λ (w : ℕ). IsPartial a S round first w r) (omega arith) h
  over_places (place ∷ locs) k r h there =
      let here : slice_get a.locs k ≡ Some place = subst (λ (w : ℕ). slice_get a.locs w ≡ Some place) (omega arith) (there 0 place refl) in
      let m = first + length r.losses in
      let losses = (losses_at a region outs kss round m (k, place)).value in
      let rest = (minus frac_arithmetic (length a.vars) (pieces_at region k) (pieces_lost losses)).value in
      let next : PlainRound = record { losses = r.losses ++ losses; next = r.next ++ rest ∷ [] } in
      let more = over_places locs (suc k) next (partial_step a S round first k r h losses rest (each_is k place here m))
      (λ j x e. subst (λ (w : ℕ). slice_get a.locs w ≡ Some x) (omega arith) (there (suc j) x e)) in
      subst (λ (w : ℕ). IsPartial a S round first w (walk (round_at a region outs kss round first) next (numbered (suc k) locs)).value) (omega arith) more

  -- the round is exact
  pub round_exact : IsExactRound a region round first (round_over a region outs kss round first).value
  round_exact =
      let r = (round_over a region outs kss round first).value in
      let h : IsPartial a S round first (length a.locs) r =
      subst (λ (w : ℕ). IsPartial a S round first w r) (omega arith) (over_places a.locs 0 no_round (partial_none a S round first) (λ j x e. subst (λ (w : ℕ). slice_get a.locs w ≡ Some x) (omega arith) e)) in
      let in_locs : (l : ℕ) (p : PlainPoint) → InSome (get_or r.next l []) p → l < length a.locs = λ l p k. (let i = in_range r.next l p k in let m = h.listed in omega arith) in
      let state_in : (s : PlainState) → IsState a s → s.loc < length a.locs = λ s i. there_in _ a.locs s.loc i.inside in
      record {
        next_is = record {
          listed = h.listed;
          polys = h.polys;
          inside = λ l. inside_from a l (get_or r.next l []) (λ p e k. ((h.exact l (in_locs l p k) p e).0 k).0.state);
        };
        exact = λ s. (
          (λ k. (h.exact s.loc (in_locs s.loc s.at k.some) s.at k.state.fits).0 k.some),
          (λ k. record { state = k.0.state; some = (h.exact s.loc (state_in s k.0.state) s.at k.0.state.fits).1 k }),
        );
        numbered = h.counted;
        polys = h.lost_polys;
        sound = λ loss c. sound_same a S S (λ s. ((λ t. t), (λ t. t))) (λ s. InSome (get_or r.next s.loc []) s.at) (InRegion a r.next) r.losses loss (λ s i v. v.some)
            (all_contained (IsSoundBetween a S (λ s. InSome (get_or r.next s.loc []) s.at) r.losses) r.losses loss h.sound c);
        lost = λ s k v. (let t = h.lost s.loc (state_in s k.state) s.at k.state.fits k (λ w. v (record { state = k.state; some = w })) in
            (t.loss, t.listed, record { state = k.state; here = sym t.place; inside = t.inside }));
        escapes = λ s k v. h.escapes s.loc (state_in s k.state) s.at k.state.fits k (λ w. v (record { state = k.state; some = w }));
      }
