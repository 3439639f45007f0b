-- What is formed of the locations that are not marked is a part of what is formed of all, and the same there.
use Rattle.std.proofs.Common.{◌≡◌, ℕ, Bool, true, false, ◌||◌, cond, List, [], ◌∷◌, ◌++◌, length, get_or, nat_eq, refl, sym, ap, ◌∙◌, subst, arith}
use Rattle.std.specs.List.{range_with_len}
use Rattle.std.proofs.lemmas.Bool.{eqb-true, or_left, or_right}
use Rattle.lhg_math.specs.Tests.{by_bool}
use Rattle.lhg_num.specs.Marked.{Marked, done, each}
use Rattle.lhg_num.specs.MarkedLaws.{IsPart, part_self, part_part}
use Rattle.lhg_row.specs.Piece.{PlainPiece}
use Rattle.lhg_plant.specs.Plant.{PlainPlant, PlainSwitch}
use Rattle.lhg_plant.specs.Region.{PlainRegion}
use Rattle.lhg_plant.specs.Invariants.{pieces_at, invariants}
use Rattle.lhg_plant.specs.OutCalculus.{away, hits_at, out}
use Rattle.lhg_plant.specs.BackCalculus.{back_by, back, joined_at}
use Rattle.lhg_jump.proofs.CallCode.{rest-is_part, back-each, out-hits}
use Rattle.lhg_quiet.specs.Masked.{busy_hits_at, busy_hits, busy_back_by, busy_back, MaskedLaw}
use Rattle.lhg_quiet.specs.Quiet.{outs_from, backs_from, HasSetsAt}
use Rattle.lhg_quiet.proofs.Agreeing.{range-same}

-- ---- marks
-- one of two marks is set in the whole where it is set in the part
either : (x y u v : Bool) → (x ≡ true → u ≡ true) → (y ≡ true → v ≡ true) → x || y ≡ true → u || v ≡ true
either true y u v h k e = or_left u v (h refl)
either false y u v h k e = or_right u v (k e)

-- what is made of each member is a part, where it is one of each member
pub each-parts : {A B : Type 0} (f g : A → Marked B) (xs : List A) → ((x : A) → IsPart (f x) (g x)) → IsPart (each f xs) (each g xs)
each-parts f g [] h = record { wide = λ e. e; rows = λ e. e; pieces = λ e. e }
each-parts f g (x ∷ xs) h =
    let first = h x in
    let rest = each-parts f g xs h in
    record {
      wide = either (g x).wide (each g xs).wide (f x).wide (each f xs).wide first.wide rest.wide;
      rows = either (g x).rows (each g xs).rows (f x).rows (each f xs).rows first.rows rest.rows;
      pieces = either (g x).pieces (each g xs).pieces (f x).pieces (each f xs).pieces first.pieces rest.pieces;
    }

-- what is not formed has no mark
unless-part : {A : Type 0} (b : Bool) (d : A) (m : Marked A) → IsPart m (cond b (done d) m)
unless-part true d m = record { wide = λ e. cc; rows = λ e. cc; pieces = λ e. cc }
unless-part false d m = part_self m

-- ---- sets of switches
module _ (a : PlainPlant) (region : PlainRegion) (quiet : List Bool) (invs outside : PlainRegion) (invs_are : invs ≡ (invariants a).value) (outside_is : outside ≡ (away (length a.vars) (invariants a).value region).value) where
  abbrev n : ℕ
  n = length a.vars

  -- the states outside are those without the given invariants
  outside-given : outside ≡ (away n invs region).value
  outside-given = outside_is ∙ ap (λ is. (away n is region).value) (sym invs_are)

  hits-part : IsPart (out a region) (busy_hits a quiet invs outside region)
  hits-part =
      let places = range_with_len 0 (length a.locs) in
      part_part (out a region) (each (hits_at a invs outside region) places) (busy_hits a quiet invs outside region) (out-hits a region invs invs_are outside outside-given)
      (each-parts (hits_at a invs outside region) (busy_hits_at a quiet invs outside region) places (λ l. unless-part (get_or quiet l false) [] (hits_at a invs outside region l)))

  -- those of the region are taken with the states outside that it has
  out-away : (outs_from a region).away ≡ outside
  unfolding out
  out-away = sym outside_is

  back-part : IsPart (back a region (outs_from a region).away) (busy_back a quiet invs region outside)
  back-part =
      let all = each (back_by n invs region outside) a.switches in
      let whole : IsPart (back a region outside) all = rest-is_part (back a region outside) all (back-each a region invs invs_are outside) in
      subst (λ os. IsPart (back a region os) (busy_back a quiet invs region outside)) (sym out-away)
      (part_part (back a region outside) all (busy_back a quiet invs region outside) whole
      (each-parts (back_by n invs region outside) (busy_back_by n quiet invs region outside) a.switches (λ w. unless-part (get_or quiet w.from false) [] (back_by n invs region outside w))))

  module _ (l : ℕ) (clear : get_or quiet l false ≡ false) where
    hits-there : get_or (busy_hits a quiet invs outside region).value l [] ≡ get_or (outs_from a region).hits l []
    unfolding out
    hits-there =
        let all : PlainRegion → PlainRegion → List _ = λ is os. get_or (each (hits_at a is os region) (range_with_len 0 (length a.locs))).value l [] in
        range-same (busy_hits_at a quiet invs outside region) (hits_at a invs outside region) (length a.locs) 0 l l [] (omega arith)
        (ap (λ b. (cond b (done []) (hits_at a invs outside region l)).value) clear)
        ∙ ap (λ is. all is outside) invs_are ∙ ap (all (invariants a).value) outside_is

    back-there : (w : PlainSwitch) → cond (nat_eq w.from l) (busy_back_by n quiet invs region outside w).value [] ≡ cond (nat_eq w.from l) (back_by n invs region outside w).value []
    back-there w =
        let by : Bool → List PlainPiece → List PlainPiece = λ b ks. cond b ks [] in
        let some = (busy_back_by n quiet invs region outside w).value in
        let all = (back_by n invs region outside w).value in
        let form : Bool → List PlainPiece = λ b. (cond b (done []) (back_by n invs region outside w)).value in
        by_bool (nat_eq w.from l)
        (λ t. ap (by (nat_eq w.from l)) (ap form (ap (λ k. get_or quiet k false) (eqb-true w.from l t) ∙ clear)))
        (λ f. subst (λ b. by b some ≡ by b all) (sym f) refl)

    joined-there : (ws : List PlainSwitch) → joined_at l ws (each (busy_back_by n quiet invs region outside) ws).value ≡ joined_at l ws (each (back_by n invs region outside) ws).value
    joined-there [] = refl
    joined-there (w ∷ ws) =
        ap (λ ks. ks ++ joined_at l ws (each (busy_back_by n quiet invs region outside) ws).value) (back-there w)
        ∙ ap (λ ks. cond (nat_eq w.from l) (back_by n invs region outside w).value [] ++ ks) (joined-there ws)

    back-are : (each (back_by n invs region outside) a.switches).value ≡ backs_from a region
    unfolding out back
    back-are =
        let all : PlainRegion → PlainRegion → PlainRegion = λ is os. (each (back_by n is region os) a.switches).value in
        ap (λ is. all is outside) invs_are ∙ ap (all (invariants a).value) outside_is

    sets-there : HasSetsAt a region l (record { away = outside; hits = (busy_hits a quiet invs outside region).value }) (busy_back a quiet invs region outside).value
    sets-there = record {
      outside = ap (λ os. pieces_at os l) (sym out-away);
      hits = hits-there;
      joined = joined-there a.switches ∙ ap (joined_at l a.switches) back-are;
    }

-- ---- all
pub masked_laws : (a : PlainPlant) → MaskedLaw a
masked_laws a region quiet invs outside invs_are outside_is = record {
  hits = hits-part a region quiet invs outside invs_are outside_is;
  back = back-part a region quiet invs outside invs_are outside_is;
  sets = λ l clear. sets-there a region quiet invs outside invs_are outside_is l clear;
}
