-- Steps of the functions that gather hits.
use Rattle.std.proofs.Common.{◌≡◌, ◌<◌, ℕ, Bool, true, false, not, cond, List, [], length, map, get_or, refl, sym, ap, ◌∙◌}
use Rattle.std.specs.Global.{Vec}
use Rattle.std.proofs.lemmas.Bool.{or_right, eq-eqb}
use Rattle.std.proofs.lemmas.List.{get_or-map}
use Rattle.lhg_num.specs.Marked.{Marked, done, walk}
use Rattle.lhg_num.specs.MarkedLaws.{IsPart, part_part, and_then-part}
use Rattle.lhg_row.specs.Lists.{is_past_list}
use Rattle.lhg_plant.specs.declared.plants.Side.TheVariants.{Env}
use Rattle.lhg_plant.specs.Plant.{PlainSwitch, PlainPlant}
use Rattle.lhg_plant.specs.Region.{PlainRegion}
use Rattle.lhg_plant.specs.Invariants.{pieces_at}
use Rattle.lhg_plant.specs.OutCalculus.{PlainHit, hit_pieces, hit_into, hit_side, hit_by, numbered, counted_hits, hits_at}
use Rattle.lhg_jump.specs.declared.hits.Hit.{Hit}
use Rattle.lhg_jump.specs.HitViews.{plain_hits}

-- an uncontrollable switch that leaves the location
pub by-env : (n : ℕ) (invs away region : PlainRegion) (l : ℕ) (hits : List PlainHit) (e : ℕ) (w : PlainSwitch) → w.from ≡ l → w.side ≡ Env
    → walk (hit_into n (pieces_at invs l) (pieces_at region l) e w.jump) hits (pieces_at away w.to) ≡ hit_by n invs away region l hits (e, w)
by-env n invs away region l hits e w from env =
    sym (ap (λ b. cond b (hit_side n (pieces_at invs l) (pieces_at region l) (pieces_at away w.to) e w.jump hits w.side) (done hits)) (eq-eqb w.from l from)
    ∙ ap (hit_side n (pieces_at invs l) (pieces_at region l) (pieces_at away w.to) e w.jump hits) env)

-- the hits of a location are those of the list at its place
pub plain_hits-at : (xs : List (Vec Hit)) (l : ℕ) (v : Vec Hit) → v ≡ get_or xs l v → l < length xs → plain_hits v.items ≡ get_or (map (λ (hs : Vec Hit). plain_hits hs.items) xs) l []
plain_hits-at xs l v e h = ap (λ (w : Vec Hit). plain_hits w.items) e ∙ sym (get_or-map (λ (hs : Vec Hit). plain_hits hs.items) xs l v [] h)

-- a test that fails
pub not_false : (b : Bool) → not b ≡ false → b ≡ true
not_false true e = refl
not_false false e = sym e

module _ (a : PlainPlant) (invs away region : PlainRegion) (l : ℕ) where
  -- all hits, before they are counted
  abbrev pub gathered : Marked (List PlainHit)
  gathered = walk (hit_by (length a.vars) invs away region l) [] (numbered 0 a.switches)

  -- the marks of a part
  pub hits-part : {B : Type 0} (part : Marked B) → IsPart gathered part → IsPart (hits_at a invs away region l) part
  unfolding hits_at
  hits-part part p = part_part (hits_at a invs away region l) gathered part (and_then-part gathered counted_hits) p

  -- the hits
  pub hits-value : (hits_at a invs away region l).value ≡ gathered.value
  unfolding hits_at
  hits-value = refl

  -- where their pieces are past the limits of a list
  pub hits-past : is_past_list (hit_pieces gathered.value) ≡ true → (hits_at a invs away region l).pieces ≡ true
  unfolding hits_at
  hits-past h = or_right gathered.pieces _ h
