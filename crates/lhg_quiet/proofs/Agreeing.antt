-- The sets of switches of a location rest on the region there, and where its switches lead.
use Rattle.std.proofs.Common.{◌≡◌, ◌+◌, ℕ, zero, suc, Bool, ◌||◌, cond, List, [], ◌∷◌, ◌++◌, length, get_or, nat_eq, refl, sym, ap, ◌∙◌, subst, arith}
use Rattle.std.specs.List.{range_with_len}
use Rattle.std.proofs.lemmas.Bool.{eqb-true}
use Rattle.lhg_math.specs.Tests.{AllOf, by_bool}
use Rattle.lhg_num.specs.FracArithmetic.{frac_arithmetic}
use Rattle.lhg_num.specs.Marked.{Marked, done, and_then, each, walk}
use Rattle.lhg_row.specs.Piece.{PlainPiece}
use Rattle.lhg_row.specs.Lists.{counted_pieces, minus}
use Rattle.lhg_plant.specs.declared.plants.Side.{Side}
use Rattle.lhg_plant.specs.declared.plants.Side.TheVariants.{Ctl, Env, Pick}
use Rattle.lhg_plant.specs.Plant.{PlainPlant, PlainSwitch}
use Rattle.lhg_plant.specs.Region.{PlainRegion}
use Rattle.lhg_plant.specs.Invariants.{pieces_at, invariants}
use Rattle.lhg_plant.specs.Pre.{pre_by}
use Rattle.lhg_plant.specs.OutCalculus.{PlainHit, away_at, away, numbered, hit_side, hit_by, counted_hits, hits_at, out}
use Rattle.lhg_plant.specs.BackCalculus.{kept_side, back_by, back, joined_at, near_at}
use Rattle.lhg_quiet.specs.Quiet.{outs_from, backs_from, AgreeAt}

-- ---- marked values
-- the next step is made from the value alone
then-same : {A B : Type 0} (m : Marked A) (f g : A → Marked B) → f m.value ≡ g m.value → and_then m f ≡ and_then m g
then-same {A} {B} m f g h =
    let form : Marked B → Marked B = λ k. record { value = k.value; wide = m.wide || k.wide; rows = m.rows || k.rows; pieces = m.pieces || k.pieces } in
    ap form h

-- one member of what is made of a range
pub range-same : {B : Type 0} (f g : ℕ → Marked B) (m k j i : ℕ) (d : B) → i ≡ k + j → (f i).value ≡ (g i).value → get_or (each f (range_with_len k m)).value j d ≡ get_or (each g (range_with_len k m)).value j d
range-same f g zero k j i d e h = refl
range-same f g (suc m) k zero i d e h = let at : i ≡ k = omega arith in subst (λ x. (f x).value ≡ (g x).value) at h
range-same f g (suc m) k (suc j) i d e h = range-same f g m (k + 1) j i d (omega arith) h

-- ---- outside
pub away-same : (n : ℕ) (invs region next : PlainRegion) (l : ℕ) → pieces_at next l ≡ pieces_at region l → pieces_at (away n invs next).value l ≡ pieces_at (away n invs region).value l
unfolding away
away-same n invs region next l h =
    range-same (away_at n invs next) (away_at n invs region) (length invs) 0 l l [] (omega arith) (ap (λ ps. (minus frac_arithmetic n (pieces_at invs l) ps).value) h)

-- ---- one location
module _ (n : ℕ) (invs region next before after : PlainRegion) (l : ℕ) (here : pieces_at next l ≡ pieces_at region l) where
  -- the two agree where the switch leads
  record AgreeBy (w : PlainSwitch) : Type 0 where
    inside : pieces_at next w.to ≡ pieces_at region w.to
    outside : pieces_at after w.to ≡ pieces_at before w.to

  abbrev Agree : PlainSwitch → Type 0
  Agree w = w.from ≡ l → AgreeBy w

  -- hits
  hit-same : (hits : List PlainHit) (e : ℕ) (w : PlainSwitch) → Agree w → hit_by n invs after next l hits (e, w) ≡ hit_by n invs before region l hits (e, w)
  hit-same hits e w h =
      let by : Bool → List PlainPiece → List PlainPiece → Marked (List PlainHit) = λ b ps qs. cond b (hit_side n (pieces_at invs l) ps qs e w.jump hits w.side) (done hits) in
      by_bool (nat_eq w.from l)
      (λ t. ap (λ ps. by (nat_eq w.from l) ps (pieces_at after w.to)) here ∙ ap (λ qs. by (nat_eq w.from l) (pieces_at region l) qs) (h (eqb-true w.from l t)).outside)
      (λ f. subst (λ b. by b (pieces_at next l) (pieces_at after w.to) ≡ by b (pieces_at region l) (pieces_at before w.to)) (sym f) refl)

  walk-same : (ws : List PlainSwitch) (k : ℕ) (hits : List PlainHit) → AllOf Agree ws → walk (hit_by n invs after next l) hits (numbered k ws) ≡ walk (hit_by n invs before region l) hits (numbered k ws)
  walk-same [] k hits h = refl
  walk-same (w ∷ ws) k hits h =
      let old : List PlainHit → Marked (List PlainHit) = λ t. walk (hit_by n invs before region l) t (numbered (suc k) ws) in
      let new : List PlainHit → Marked (List PlainHit) = λ t. walk (hit_by n invs after next l) t (numbered (suc k) ws) in
      let step = hit_by n invs before region l hits (k, w) in
      ap (λ m. and_then m new) (hit-same hits k w h.0) ∙ then-same step new old (walk-same ws (suc k) step.value h.1)

  -- back
  kept-same : (w : PlainSwitch) (s : Side) → AgreeBy w → kept_side n invs next after w s ≡ kept_side n invs region before w s
  kept-same w Ctl h = ap (λ qs. and_then (pre_by n invs w (pieces_at invs w.to)) (λ all. and_then (pre_by n invs w qs) (minus frac_arithmetic n all))) h.outside
  kept-same w Env h = refl
  kept-same w Pick h = ap (pre_by n invs w) h.inside

  back-same : (w : PlainSwitch) → AgreeBy w → back_by n invs next after w ≡ back_by n invs region before w
  unfolding back_by
  back-same w h = kept-same w w.side h

  part-same : (w : PlainSwitch) → Agree w → cond (nat_eq w.from l) (back_by n invs next after w).value [] ≡ cond (nat_eq w.from l) (back_by n invs region before w).value []
  part-same w h =
      let by : Bool → List PlainPiece → List PlainPiece = λ b ks. cond b ks [] in
      let new = (back_by n invs next after w).value in
      let old = (back_by n invs region before w).value in
      by_bool (nat_eq w.from l)
      (λ t. ap (λ m. by (nat_eq w.from l) m.value) (back-same w (h (eqb-true w.from l t))))
      (λ f. subst (λ b. by b new ≡ by b old) (sym f) refl)

  joined-same : (ws : List PlainSwitch) → AllOf Agree ws → joined_at l ws (each (back_by n invs next after) ws).value ≡ joined_at l ws (each (back_by n invs region before) ws).value
  joined-same [] h = refl
  joined-same (w ∷ ws) h =
      ap (λ ks. ks ++ joined_at l ws (each (back_by n invs next after) ws).value) (part-same w h.0)
      ∙ ap (λ ks. cond (nat_eq w.from l) (back_by n invs region before w).value [] ++ ks) (joined-same ws h.1)

-- ---- of the plant
module _ (a : PlainPlant) (region next : PlainRegion) (l : ℕ) (h : AgreeAt a l region next) where
  abbrev n : ℕ
  n = length a.vars

  abbrev invs : PlainRegion
  invs = (invariants a).value

  abbrev before : PlainRegion
  before = (away n invs region).value

  abbrev after : PlainRegion
  after = (away n invs next).value

  agree : (ws : List PlainSwitch) → AllOf (λ w. w.from ≡ l → pieces_at next w.to ≡ pieces_at region w.to) ws → AllOf (Agree n invs region next before after l h.here) ws
  agree [] k = tt
  agree (w ∷ ws) k = (λ e. record { inside = k.0 e; outside = away-same n invs region next w.to (k.0 e) }, agree ws k.1)

  -- the pieces outside
  pub outside-same : pieces_at (outs_from a next).away l ≡ pieces_at (outs_from a region).away l
  unfolding out
  outside-same = away-same n invs region next l h.here

  hits-here : hits_at a invs after next l ≡ hits_at a invs before region l
  unfolding hits_at
  hits-here = ap (λ m. and_then m counted_hits) (walk-same n invs region next before after l h.here a.switches 0 [] (agree a.switches h.targets))

  -- the hits
  pub hits-same : get_or (outs_from a next).hits l [] ≡ get_or (outs_from a region).hits l []
  unfolding out
  hits-same = range-same (hits_at a invs after next) (hits_at a invs before region) (length a.locs) 0 l l [] (omega arith) (ap (λ m. m.value) hits-here)

  lists-same : joined_at l a.switches (backs_from a next) ≡ joined_at l a.switches (backs_from a region)
  unfolding out back
  lists-same = joined-same n invs region next before after l h.here a.switches (agree a.switches h.targets)

  -- the near pieces
  pub near-same : near_at a next (backs_from a next) l ≡ near_at a region (backs_from a region) l
  unfolding near_at
  near-same =
      let form : List PlainPiece → List PlainPiece → Marked (List PlainPiece) = λ ks ps. and_then (counted_pieces ks) (minus frac_arithmetic n ps) in
      ap (λ ks. form ks (pieces_at next l)) lists-same ∙ ap (form (joined_at l a.switches (backs_from a region))) h.here
