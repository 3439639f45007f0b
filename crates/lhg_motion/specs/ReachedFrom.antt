-- What has been found from what was found before: layers one after another, and at the end nothing more.
use Rattle.std.specs.Prelude.{◌≡◌, ◌⊎◌, ℕ, suc, ◌+◌, false, List, [], ◌∷◌, ◌++◌, length, get_or, map}
use Rattle.std.proofs.Common.{sym, ap, ◌∙◌, inl, inr, arith, subst, append_assoc, append-nil}
use Rattle.std.proofs.lemmas.List.{map-append, length-append, get_or_append_left}
use Rattle.lhg_math.specs.Tests.{AllOf}
use Rattle.lhg_num.specs.Arithmetic.{Arithmetic}
use Rattle.lhg_math.specs.ListFacts.{all-map}
use Rattle.lhg_row.specs.Row.{PlainPoint}
use Rattle.lhg_row.specs.Piece.{PlainPiece, InPiece, InSome}
use Rattle.lhg_row.specs.Members.{SomeOf, all-append}
use Rattle.lhg_row.specs.Lists.{is_past_list}
use Rattle.lhg_row.specs.PieceFacts.{IsPoly}
use Rattle.lhg_motion.specs.Crossing.{HasCrossing}
use Rattle.lhg_motion.specs.Reach.{HasStep, IsSettled, IsLayer, AreLayers}
use Rattle.lhg_motion.specs.Found.{PlainFound, PlainReached, pieces_of, NamesCrossing, EachNamed}
use Rattle.lhg_motion.specs.Reached.{all_found, AreNumbered, IsInside, EachInside, EachPoly}
use Rattle.lhg_motion.specs.ReachCalculus.{with_layer}
use Rattle.lhg_row.specs.SomeLists.{some_map, some_at}
use Rattle.lhg_motion.specs.AttemptLaws.{IsFound, HasNewPoint}
use Rattle.lhg_motion.specs.LayerFound.{IsLayerFound}

-- from what is known and was found so far to what is found at the end
pub record IsReachedFrom (a : Arithmetic) (n : ℕ) (bad near ways known : List PlainPiece) (flow : PlainPiece) (so_far r : PlainReached) : Type 0 where
  pub lists : List (List PlainFound)
  pub found : so_far.found ++ all_found lists ≡ r.found
  pub many : so_far.layers + length lists ≡ r.layers
  pub layers : AreLayers n near ways known flow (map pieces_of lists)
  pub numbers : AreNumbered (suc so_far.layers) lists
  pub named : EachNamed n near ways known flow (all_found lists)
  pub inside : EachInside n near (all_found lists)
  pub polys : EachPoly a n (all_found lists)
  pub settled : is_past_list (bad ++ pieces_of r.found) ≡ false → IsSettled n near ways (known ++ pieces_of (all_found lists)) flow

module _ (a : Arithmetic) (n : ℕ) (bad near ways : List PlainPiece) (flow : PlainPiece) where
  -- nothing more is found
  pub found_none : (known : List PlainPiece) (so_far : PlainReached) → (is_past_list (bad ++ pieces_of so_far.found) ≡ false → IsSettled n near ways known flow) → IsReachedFrom a n bad near ways known flow so_far so_far
  found_none known so_far h = record {
    lists = [];
    found = append-nil so_far.found;
    many = omega arith;
    layers = tt;
    numbers = tt;
    named = tt;
    inside = tt;
    polys = tt;
    settled = λ p. subst (λ (w : List PlainPiece). IsSettled n near ways w flow) (sym (append-nil known)) (h p);
  }

  -- found pieces of one layer name crossings, whatever pieces are found between
  names_one : (known more : List PlainPiece) (layer : ℕ) (f : PlainFound) → IsFound a n near ways known flow layer f → NamesCrossing n near ways (known ++ more) flow f
  names_one known more layer f h = record {
    through_there = h.through_there;
    to_there = let t = h.to_there in omega (arith, length-append known more);
    crosses = λ x e i. some_map (λ from. (y : PlainPoint) → length y ≡ n → InPiece f.piece y → HasCrossing from (get_or ways f.through []) (get_or known f.to []) flow y)
        (λ from. HasCrossing from (get_or ways f.through []) (get_or (known ++ more) f.to []) flow x)
        (λ from g. subst (λ (w : PlainPiece). HasCrossing from (get_or ways f.through []) w flow x) (sym (get_or_append_left known more [] f.to h.to_there)) (g x e i)) near h.crosses;
  }

  -- the pieces of one layer, and those after it, name crossings
  layer_named : (known more all : List PlainPiece) → all ≡ known ++ more → (layer : ℕ) (new rest : List PlainFound) → AllOf (λ f. IsFound a n near ways known flow layer f) new
      → EachNamed n near ways (all ++ pieces_of new) flow rest → EachNamed n near ways all flow (new ++ rest)
  layer_named known more all e layer [] rest h k = subst (λ (w : List PlainPiece). EachNamed n near ways w flow rest) (append-nil all) k
  layer_named known more all e layer (f ∷ fs) rest h k = (
    subst (λ (w : List PlainPiece). NamesCrossing n near ways w flow f) (sym e) (names_one known more layer f h.0),
    layer_named known (more ++ f.piece ∷ []) (all ++ f.piece ∷ []) (ap (λ w. w ++ f.piece ∷ []) e ∙ append_assoc known more (f.piece ∷ [])) layer fs rest h.1
        (subst (λ (w : List PlainPiece). EachNamed n near ways w flow rest) (sym (append_assoc all (f.piece ∷ []) (pieces_of fs))) k),
  )

  -- a point of a new piece has a crossing into a known piece
  found_step : (known : List PlainPiece) (layer : ℕ) (new : List PlainFound) → AllOf (λ f. IsFound a n near ways known flow layer f) new → (x : PlainPoint) → length x ≡ n → InSome (pieces_of new) x → HasStep near ways known flow x
  found_step known layer [] h x e i = absurd i
  found_step known layer (f ∷ fs) h x e (inl i) =
      some_map (λ from. (y : PlainPoint) → length y ≡ n → InPiece f.piece y → HasCrossing from (get_or ways f.through []) (get_or known f.to []) flow y)
      (λ from. SomeOf (λ through. SomeOf (λ into. HasCrossing from through into flow x) known) ways)
      (λ from g. some_at (λ through. SomeOf (λ into. HasCrossing from through into flow x) known) [] ways f.through h.0.through_there
      (some_at (λ into. HasCrossing from (get_or ways f.through []) into flow x) [] known f.to h.0.to_there (g x e i))) near h.0.crosses
  found_step known layer (f ∷ fs) h x e (inr i) = found_step known layer fs h.1 x e i

  -- a layer with a new piece
  is_layer : (known : List PlainPiece) (layer : ℕ) (f : PlainFound) (fs : List PlainFound) → IsLayerFound a n near ways known flow layer (f ∷ fs) → IsLayer n near ways known flow (pieces_of (f ∷ fs))
  is_layer known layer f fs h = with_point (point h.sound.adds)
    where
      point : ((f ∷ fs) ≡ []) ⊎ HasNewPoint n known (pieces_of (f ∷ fs)) → HasNewPoint n known (pieces_of (f ∷ fs))
      point (inl e) = absurd (let k = ap length e in omega arith)
      point (inr p) = p

      with_point : HasNewPoint n known (pieces_of (f ∷ fs)) → IsLayer n near ways known flow (pieces_of (f ∷ fs))
      with_point p = record { crosses = found_step known layer (f ∷ fs) h.sound.each; all = h.all; new = p.at; new_fits = p.fits; new_in = p.in_new; not_known = p.not_known }

  -- a layer and what is found after it
  pub found_more : (known : List PlainPiece) (so_far r : PlainReached) (f : PlainFound) (fs : List PlainFound) → IsLayerFound a n near ways known flow (suc so_far.layers) (f ∷ fs)
      → IsReachedFrom a n bad near ways (known ++ pieces_of (f ∷ fs)) flow (with_layer so_far (f ∷ fs)) r → IsReachedFrom a n bad near ways known flow so_far r
  found_more known so_far r f fs h k =
      let new = f ∷ fs in
      let layer = suc so_far.layers in
      let m = k.many in
      record {
        lists = new ∷ k.lists;
        found = sym (append_assoc so_far.found new (all_found k.lists)) ∙ k.found;
        many = omega arith;
        layers = (is_layer known layer f fs h, k.layers);
        numbers = (all-map (λ g. IsFound a n near ways known flow layer g) (λ g. g.layer ≡ layer) (λ g i. i.number) new h.sound.each, k.numbers);
        named = layer_named known [] known (sym (append-nil known)) layer new (all_found k.lists) h.sound.each k.named;
        inside = all-append (λ g. SomeOf (λ from. IsInside n from g.piece) near) new (all_found k.lists)
            (all-map (λ g. IsFound a n near ways known flow layer g) (λ g. SomeOf (λ from. IsInside n from g.piece) near)
            (λ g i. some_map (λ from. (y : PlainPoint) → length y ≡ n → InPiece g.piece y → HasCrossing from (get_or ways g.through []) (get_or known g.to []) flow y) (λ from. IsInside n from g.piece) (λ from c x e j. (c x e j).from_in) near i.crosses)
            new h.sound.each) k.inside;
        polys = all-append (λ g. IsPoly a n g.piece) new (all_found k.lists) (all-map (λ g. IsFound a n near ways known flow layer g) (λ g. IsPoly a n g.piece) (λ g i. i.poly) new h.sound.each) k.polys;
        settled = λ p. subst (λ (w : List PlainPiece). IsSettled n near ways w flow)
            (append_assoc known (pieces_of new) (pieces_of (all_found k.lists)) ∙ ap (λ w. known ++ w) (sym (map-append (λ g. g.piece) new (all_found k.lists)))) (k.settled p);
      }
