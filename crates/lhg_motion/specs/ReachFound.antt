-- What does the calculus of reach find?
use Rattle.std.specs.Prelude.{◌≡◌, ◌<◌, ◌≤◌, ℕ, zero, suc, ◌+◌, Bool, true, false, cond, List, [], ◌∷◌, ◌++◌, length}
use Rattle.std.proofs.Common.{refl, sym, ap, ◌∙◌, inl, inr, arith, subst, append_assoc, append-nil}
use Rattle.std.proofs.lemmas.List.{map-append, length-append, length-map}
use Rattle.lhg_math.specs.Tests.{AllOf, false_true}
use Rattle.lhg_num.specs.Arithmetic.{Arithmetic, IsLawful}
use Rattle.lhg_num.specs.Marked.{Marked, done}
use Rattle.lhg_row.specs.Piece.{PlainPiece}
use Rattle.lhg_row.specs.Members.{all-append}
use Rattle.lhg_row.specs.Width.{AllWide}
use Rattle.lhg_row.specs.Lists.{piece_limit, is_past_list}
use Rattle.lhg_row.specs.PieceFacts.{AllOver}
use Rattle.lhg_motion.specs.CrossFact.{CrossIsExact}
use Rattle.lhg_motion.specs.Reach.{IsSettled}
use Rattle.lhg_motion.specs.Found.{PlainFound, PlainReached, pieces_of, EachNamed}
use Rattle.lhg_motion.specs.Reached.{EachInside, EachPoly, IsReached}
use Rattle.lhg_motion.specs.ReachCalculus.{layer_of, with_layer, go_on, reach_within, layer_limit, none_reached, reach}
use Rattle.lhg_row.specs.SomeLists.{in_either}
use Rattle.lhg_row.specs.ListLimits.{within-length}
use Rattle.lhg_motion.specs.AttemptLaws.{IsFound}
use Rattle.lhg_motion.specs.LayerFound.{IsLayerFound, layer_found}
use Rattle.lhg_motion.specs.ReachedFrom.{IsReachedFrom, found_none, found_more}

module _ (a : Arithmetic) (n : ℕ) (laws : IsLawful a) (exact : CrossIsExact a n) (bad near ways : List PlainPiece) (flow : PlainPiece)
    (near_over : AllOver n near) (ways_over : AllOver n ways) (flow_wide : AllWide n flow) where
  abbrev From : List PlainPiece → PlainReached → PlainReached → Type 0
  From known so_far r = IsReachedFrom a n bad near ways known flow so_far r

  -- a layer without a new piece: nothing more is there to be found
  nothing_new : (known : List PlainPiece) (layer : ℕ) → IsLayerFound a n near ways known flow layer [] → IsSettled n near ways known flow
  nothing_new known layer h x e s = elim (in_either known [] x (h.all x e s)) [ inl k ↦ k | inr k ↦ absurd k ]

  -- past the limit the work ends, and else goes on
  by_limit : (known : List PlainPiece) (next : PlainReached) (on : Marked PlainReached) (b : Bool) → is_past_list (bad ++ pieces_of next.found) ≡ b → From known next on.value → From known next (cond b (done next) on).value
  by_limit known next on true e k = found_none a n bad near ways flow known next (λ p. false_true (sym p ∙ e))
  by_limit known next on false e k = k

  -- after a layer the list is past its limit, or the work goes on
  after : (known : List PlainPiece) (so_far : PlainReached) (new : List PlainFound) (on : Marked PlainReached) → IsLayerFound a n near ways known flow (suc so_far.layers) new
      → (1 ≤ length new → From (known ++ pieces_of new) (with_layer so_far new) on.value) → From known so_far (go_on bad so_far new on).value
  after known so_far [] on h k = found_none a n bad near ways flow known so_far (λ p. nothing_new known (suc so_far.layers) h)
  after known so_far (f ∷ fs) on h k =
      let next = with_layer so_far (f ∷ fs) in
      let past = is_past_list (bad ++ pieces_of next.found) in
      found_more a n bad near ways flow known so_far (cond past (done next) on).value f fs h (by_limit (known ++ pieces_of (f ∷ fs)) next on past refl (k (omega arith)))

  -- found pieces are over n variables
  found_over : (fs : List PlainFound) (known : List PlainPiece) (layer : ℕ) → AllOf (λ f. IsFound a n near ways known flow layer f) fs → AllOver n (pieces_of fs)
  found_over [] known layer h = tt
  found_over (f ∷ fs) known layer h = (h.0.poly.wide, found_over fs known layer h.1)

  -- more layers than may be counted are not needed: after as many the list is past its limit
  within : (fuel : ℕ) (known : List PlainPiece) (so_far : PlainReached) → known ≡ bad ++ pieces_of so_far.found → AllOver n known → piece_limit < fuel + length so_far.found
      → From known so_far (reach_within fuel a n flow bad near ways so_far).value
  within zero known so_far e w many =
      found_none a n bad near ways flow known so_far
      (λ p. let l = within-length (bad ++ pieces_of so_far.found) p in absurd (omega (arith, length-append bad (pieces_of so_far.found), length-map so_far.found (λ f. f.piece))))
  within (suc fuel) known so_far e w many =
      let l = layer_of a n flow near ways (bad ++ pieces_of so_far.found) (suc so_far.layers) in
      let h : IsLayerFound a n near ways known flow (suc so_far.layers) l.value =
      subst (λ (v : List PlainPiece). IsLayerFound a n near ways known flow (suc so_far.layers) (layer_of a n flow near ways v (suc so_far.layers)).value) e
      (layer_found a n laws exact near ways known flow (suc so_far.layers) near_over ways_over w flow_wide) in
      after known so_far l.value (reach_within fuel a n flow bad near ways (with_layer so_far l.value)) h
      (λ some. within fuel (known ++ pieces_of l.value) (with_layer so_far l.value)
      (ap (λ v. v ++ pieces_of l.value) e ∙ append_assoc bad (pieces_of so_far.found) (pieces_of l.value) ∙ ap (λ v. bad ++ v) (sym (map-append (λ f. f.piece) so_far.found l.value)))
      (all-append (AllWide n) known (pieces_of l.value) w (found_over l.value known (suc so_far.layers) h.sound.each))
      (omega (arith, length-append so_far.found l.value)))

-- what the calculus finds, with what is known at the end
pub record IsWhole (a : Arithmetic) (n : ℕ) (bad near : List PlainPiece) (flow : PlainPiece) (r : PlainReached) : Type 0 where
  pub reached : IsReached a n bad near flow r
  pub settled : is_past_list (bad ++ pieces_of r.found) ≡ false → IsSettled n near (bad ++ near) (bad ++ pieces_of r.found) flow

-- what is found from nothing is found
whole_of : (a : Arithmetic) (n : ℕ) (bad near : List PlainPiece) (flow : PlainPiece) (r : PlainReached) → IsReachedFrom a n bad near (bad ++ near) bad flow none_reached r → IsWhole a n bad near flow r
whole_of a n bad near flow r k = record {
  reached = record {
    layers = record { lists = k.lists; found = k.found; many = let m = k.many in omega arith; layers = k.layers; numbers = k.numbers };
    named = subst (λ (w : List PlainFound). EachNamed n near (bad ++ near) bad flow w) k.found k.named;
    inside = subst (λ (w : List PlainFound). EachInside n near w) k.found k.inside;
    polys = subst (λ (w : List PlainFound). EachPoly a n w) k.found k.polys;
  };
  settled = λ p. subst (λ (w : List PlainFound). IsSettled n near (bad ++ near) (bad ++ pieces_of w) flow) k.found (k.settled p);
}

-- the found pieces of the calculus are those of layers, and within the limit a further layer adds nothing
pub reach_found : (a : Arithmetic) (n : ℕ) → IsLawful a → CrossIsExact a n → (bad near : List PlainPiece) (flow : PlainPiece) → AllOver n bad → AllOver n near → AllWide n flow → IsWhole a n bad near flow (reach a n bad near flow).value
unfolding reach
reach_found a n laws exact bad near flow bad_over near_over flow_wide =
    whole_of a n bad near flow (reach_within layer_limit a n flow bad near (bad ++ near) none_reached).value
    (within a n laws exact bad near (bad ++ near) flow near_over (all-append (AllWide n) bad near bad_over near_over) flow_wide layer_limit bad none_reached (sym (append-nil bad)) bad_over (omega arith))
