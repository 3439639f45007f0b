-- Steps of the work of reach: from one layer to the next.
use Rattle.std.proofs.Common.{◌≡◌, ℕ, suc, ◌+◌, ◌-◌, ◌<◌, List, [], ◌∷◌, ◌++◌, length, Bool, true, false, refl, sym, ap, ◌∙◌, subst, arith, append_assoc, add-one}
use Rattle.std.specs.Prelude.{cond, ◌||◌}
use Rattle.std.proofs.lemmas.Bool.{or_left}
use Rattle.std.proofs.lemmas.List.{map-append, length-append}
use Rattle.lhg_math.specs.Tests.{false_true}
use Rattle.lhg_num.specs.Arithmetic.{Arithmetic}
use Rattle.lhg_num.specs.Marked.{Marked, done, and_then, IsRest}
use Rattle.lhg_num.specs.MarkedLaws.{IsPart, rest_self, rest_rest, rest_part, and_then-rest, and_then-part}
use Rattle.lhg_row.specs.Piece.{PlainPiece}
use Rattle.lhg_row.specs.Lists.{is_past_list, counted_pieces}
use Rattle.lhg_motion.specs.Found.{PlainFound, PlainReached, pieces_of}
use Rattle.lhg_motion.specs.ReachCalculus.{layer_of, with_layer, go_on, reach_within, layer_limit, none_reached, reach}
use Rattle.lhg_reach.specs.Searching.{counted_layer}

-- a later step of a calculation sets no mark that the later step of another does not set
pub then-part : {A B C : Type 0} (m : Marked A) (f : A → Marked B) (g : A → Marked C) → IsPart (f m.value) (g m.value) → IsPart (and_then m f) (and_then m g)
then-part m f g p = record {
  wide = λ h. both (m.wide) _ _ p.wide h;
  rows = λ h. both (m.rows) _ _ p.rows h;
  pieces = λ h. both (m.pieces) _ _ p.pieces h;
}
  where
    both : (b c d : Bool) → (d ≡ true → c ≡ true) → (b || d) ≡ true → (b || c) ≡ true
    both true c d k h = refl
    both false c d k h = k h

module _ (a : Arithmetic) (n : ℕ) (flow : PlainPiece) (bad near ways known : List PlainPiece) (fuel : ℕ) (so_far : PlainReached) (is : known ≡ bad ++ pieces_of so_far.found) where
  abbrev pub rest : List PlainFound → Marked PlainReached
  rest new = reach_within fuel a n flow bad near ways (with_layer so_far new)

  abbrev pub one : Marked (List PlainFound)
  one = layer_of a n flow near ways known (suc so_far.layers)

  abbrev pub whole : Marked PlainReached
  whole = and_then one (λ new. go_on bad so_far new (rest new))

  -- the pieces that are counted
  counted-same : (new : List PlainFound) → known ++ pieces_of new ≡ bad ++ pieces_of (so_far.found ++ new)
  counted-same new = ap (λ w. w ++ pieces_of new) is ∙ append_assoc bad (pieces_of so_far.found) (pieces_of new) ∙ ap (λ w. bad ++ w) (sym (map-append (λ f. f.piece) so_far.found new))

  go_on-part : (new : List PlainFound) (on : Marked PlainReached) → IsPart (go_on bad so_far new on) (counted_layer known so_far.found new)
  go_on-part [] on = record { wide = λ h. h; rows = λ h. h; pieces = λ h. h }
  go_on-part (f ∷ fs) on = record {
    wide = λ h. false_true h;
    rows = λ h. false_true h;
    pieces = λ h. or_left (is_past_list (bad ++ pieces_of (so_far.found ++ f ∷ fs))) _ (ap is_past_list (sym (counted-same (f ∷ fs))) ∙ h);
  }

  -- the marks of a layer and of its count
  pub layer-part : IsPart whole (and_then one (counted_layer known so_far.found))
  layer-part = then-part one (λ new. go_on bad so_far new (rest new)) (counted_layer known so_far.found) (go_on-part one.value (rest one.value))

  stop : (new : List PlainFound) (on : Marked PlainReached) (more : Bool) (fs : List PlainFound) → (more, fs) ≡ (counted_layer known so_far.found new).value → more ≡ false → (go_on bad so_far new on).value ≡ so_far
  stop [] on more fs e k = refl
  stop (f ∷ gs) on more fs e k = false_true (sym k ∙ ap (λ p. p.0) e)

  -- a layer without a new piece ends the work
  pub layer-stop : (more : Bool) (fs : List PlainFound) → (more, fs) ≡ (and_then one (counted_layer known so_far.found)).value → more ≡ false → so_far ≡ whole.value
  layer-stop more fs e k = sym (stop one.value (rest one.value) more fs e k)

  -- and leaves what was found
  pub layer-same : (more : Bool) (fs : List PlainFound) → (more, fs) ≡ (and_then one (counted_layer known so_far.found)).value → more ≡ false → fs ≡ so_far.found
  layer-same more fs e k = go one.value e
    where
      go : (new : List PlainFound) → (more, fs) ≡ (counted_layer known so_far.found new).value → fs ≡ so_far.found
      go [] f = ap (λ p. p.1) f
      go (g ∷ gs) f = false_true (sym k ∙ ap (λ p. p.0) f)

  -- a layer with a new piece has more
  pub layer-more : (more : Bool) (fs : List PlainFound) → (more, fs) ≡ (and_then one (counted_layer known so_far.found)).value → more ≡ true → length so_far.found < length fs
  layer-more more fs e k = go one.value e
    where
      go : (new : List PlainFound) → (more, fs) ≡ (counted_layer known so_far.found new).value → length so_far.found < length fs
      go [] f = false_true (sym (ap (λ p. p.0) f) ∙ k)
      go (g ∷ gs) f = let s = ap (λ p. length p.1) f in omega (arith, length-append so_far.found (g ∷ gs))

  cond-rest : (b : Bool) (m on : Marked PlainReached) → b ≡ false → IsRest (cond b m on) on
  cond-rest true m on e = false_true (sym e)
  cond-rest false m on e = rest_self on

  on_with : (new : List PlainFound) (more : Bool) (fs : List PlainFound) → (more, fs) ≡ (counted_layer known so_far.found new).value → more ≡ true → is_past_list (bad ++ pieces_of fs) ≡ false
      → IsRest (go_on bad so_far new (rest new)) (reach_within fuel a n flow bad near ways (record { found = fs; layers = suc so_far.layers }))
  on_with [] more fs e k p = false_true (sym (ap (λ q. q.0) e) ∙ k)
  on_with (f ∷ gs) more fs e k p =
      let same : fs ≡ so_far.found ++ f ∷ gs = ap (λ q. q.1) e in
      let next = with_layer so_far (f ∷ gs) in
      let past = is_past_list (bad ++ pieces_of next.found) in
      let within : past ≡ false = ap (λ w. is_past_list (bad ++ pieces_of w)) (sym same) ∙ p in
      subst (λ w. IsRest (go_on bad so_far (f ∷ gs) (rest (f ∷ gs))) (reach_within fuel a n flow bad near ways (record { found = w; layers = suc so_far.layers }))) (sym same)
      (rest_rest (go_on bad so_far (f ∷ gs) (rest (f ∷ gs))) (cond past (done next) (rest (f ∷ gs))) (rest (f ∷ gs))
      (and_then-rest (counted_pieces (bad ++ pieces_of next.found)) (λ ps. cond (is_past_list ps) (done next) (rest (f ∷ gs)))) (cond-rest past (done next) (rest (f ∷ gs)) within))

  -- a layer with a new piece is counted, and the work goes on
  pub layer-on : (more : Bool) (fs : List PlainFound) → (more, fs) ≡ (and_then one (counted_layer known so_far.found)).value → more ≡ true → is_past_list (bad ++ pieces_of fs) ≡ false
      → IsRest whole (reach_within fuel a n flow bad near ways (record { found = fs; layers = suc so_far.layers }))
  layer-on more fs e k p =
      rest_rest whole (go_on bad so_far one.value (rest one.value)) (reach_within fuel a n flow bad near ways (record { found = fs; layers = suc so_far.layers }))
      (and_then-rest one (λ new. go_on bad so_far new (rest new))) (on_with one.value more fs e k p)

-- one layer fewer may be counted
fewer : (i : ℕ) → i < layer_limit → layer_limit - i ≡ suc (layer_limit - (i + 1))
fewer i h = omega arith

-- ---- the loop over layers
-- after some layers: what is left of the work
pub record IsReaching (a : Arithmetic) (n : ℕ) (flow : PlainPiece) (bad near : List PlainPiece) (layers : ℕ) (found : List PlainFound) : Type 0 where
  pub left : IsRest (reach a n bad near flow) (reach_within (layer_limit - layers) a n flow bad near (bad ++ near) (record { found = found; layers = layers }))

-- before the first layer
pub reaching-start : (a : Arithmetic) (n : ℕ) (flow : PlainPiece) (bad near : List PlainPiece) → IsReaching a n flow bad near 0 []
unfolding reach
reaching-start a n flow bad near = record {
  left = subst (λ m. IsRest (reach a n bad near flow) (reach_within m a n flow bad near (bad ++ near) none_reached)) (start_limit)
      (and_then-rest (counted_pieces (bad ++ near)) (λ ways. reach_within layer_limit a n flow bad near ways none_reached));
}
  where
    start_limit : layer_limit ≡ layer_limit - 0
    start_limit = omega arith

module _ (a : Arithmetic) (n : ℕ) (flow : PlainPiece) (bad near : List PlainPiece) (i : ℕ) (found : List PlainFound) (known : List PlainPiece) (is : known ≡ bad ++ pieces_of found)
    (h : IsReaching a n flow bad near i found) (less : i < layer_limit) (number : ℕ) (num : number ≡ suc i) where
  abbrev so_far : PlainReached
  so_far = record { found = found; layers = i }

  abbrev all : Marked PlainReached
  all = reach a n bad near flow

  -- the next layer and its count
  abbrev pub next_layer : Marked (Bool × List PlainFound)
  next_layer = and_then (layer_of a n flow near (bad ++ near) known number) (counted_layer known found)

  abbrev by_suc : Marked (Bool × List PlainFound)
  by_suc = and_then (layer_of a n flow near (bad ++ near) known (suc i)) (counted_layer known found)

  same_layer : next_layer ≡ by_suc
  same_layer = ap (λ k. and_then (layer_of a n flow near (bad ++ near) known k) (counted_layer known found)) num

  now : IsRest all (whole a n flow bad near (bad ++ near) known (layer_limit - (i + 1)) so_far is)
  now =
      subst (λ k. IsRest all (and_then (layer_of a n flow near (bad ++ near) k (suc i)) (λ new. go_on bad so_far new (reach_within (layer_limit - (i + 1)) a n flow bad near (bad ++ near) (with_layer so_far new))))) (sym is)
      (subst (λ m. IsRest all (reach_within m a n flow bad near (bad ++ near) so_far)) (fewer i less) h.left)

  -- the marks of the next layer are among those of the whole
  pub reaching-part : IsPart all next_layer
  reaching-part = subst (λ m. IsPart all m) (sym same_layer) (rest_part all (whole a n flow bad near (bad ++ near) known (layer_limit - (i + 1)) so_far is) by_suc now (layer-part a n flow bad near (bad ++ near) known (layer_limit - (i + 1)) so_far is))

  module _ (more : Bool) (fs : List PlainFound) (e : (more, fs) ≡ next_layer.value) where
    by : (more, fs) ≡ by_suc.value
    by = e ∙ ap (λ m. m.value) same_layer

    -- a layer without a new piece leaves what was found
    pub reaching-same : more ≡ false → fs ≡ found
    reaching-same k = layer-same a n flow bad near (bad ++ near) known (layer_limit - (i + 1)) so_far is more fs by k

    -- which is then the answer
    pub reaching-stop : more ≡ false → record { found = fs; layers = i } ≡ all.value
    reaching-stop k = ap (λ w. record { found = w; layers = i }) (reaching-same k) ∙ layer-stop a n flow bad near (bad ++ near) known (layer_limit - (i + 1)) so_far is more fs by k ∙ now.same

    -- a layer with a new piece has more
    pub reaching-more : more ≡ true → length found < length fs
    reaching-more k = layer-more a n flow bad near (bad ++ near) known (layer_limit - (i + 1)) so_far is more fs by k

    -- and within the limit the work goes on
    pub reaching-on : more ≡ true → is_past_list (bad ++ pieces_of fs) ≡ false → IsReaching a n flow bad near (i + 1) fs
    reaching-on k p = record {
      left = subst (λ j. IsRest all (reach_within (layer_limit - (i + 1)) a n flow bad near (bad ++ near) (record { found = fs; layers = j }))) (sym (add-one i))
          (rest_rest all (whole a n flow bad near (bad ++ near) known (layer_limit - (i + 1)) so_far is) (reach_within (layer_limit - (i + 1)) a n flow bad near (bad ++ near) (record { found = fs; layers = suc i }))
          now (layer-on a n flow bad near (bad ++ near) known (layer_limit - (i + 1)) so_far is more fs by k p));
    }

-- the count of the ways
pub ways-part : (a : Arithmetic) (n : ℕ) (bad near : List PlainPiece) (flow : PlainPiece) → IsPart (reach a n bad near flow) (counted_pieces (bad ++ near))
unfolding reach
ways-part a n bad near flow = and_then-part (counted_pieces (bad ++ near)) (λ ways. reach_within layer_limit a n flow bad near ways none_reached)
