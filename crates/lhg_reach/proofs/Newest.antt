-- Which crossings of a layer leave the new pieces as they are? Those that start in known pieces alone: so those into older pieces, and those from a piece that is apart from the way.
use Rattle.std.proofs.Common.{◌≡◌, ℕ, suc, ◌+◌, Bool, true, false, List, [], ◌∷◌, ◌++◌, length, take, drop, Option, Some, None, refl, sym, ap, ◌∙◌, subst, inl, inr, arith, append_assoc, append-nil}
use Rattle.std.proofs.lemmas.List.{map-append, length-append, take-append-drop, length-take-le, length-map, drop-map}
use Rattle.std.proofs.Math.Seq.{take-append_seam}
use Rattle.lhg_math.specs.Tests.{AllOf, false_true}
use Rattle.lhg_num.specs.Arithmetic.{Arithmetic, IsLawful}
use Rattle.lhg_num.specs.Marked.{Marked, and_then, walk, IsRest}
use Rattle.lhg_num.specs.MarkedLaws.{walk-append}
use Rattle.lhg_row.specs.Row.{PlainPoint}
use Rattle.lhg_row.specs.Piece.{PlainPiece, InPiece, InSome}
use Rattle.lhg_row.specs.System.{PlainSystem}
use Rattle.lhg_row.specs.PieceLemmas.{in_some_is}
use Rattle.lhg_row.specs.Members.{SomeOf, all-append, all_split}
use Rattle.lhg_row.specs.Width.{AllWide}
use Rattle.lhg_row.specs.Lists.{covered}
use Rattle.lhg_row.specs.PieceFacts.{AllOver, IsCovering}
use Rattle.lhg_row.specs.CoveredLaws.{covered-exact}
use Rattle.lhg_row.specs.SomeLists.{some_map}
use Rattle.lhg_motion.specs.Crossing.{HasCrossing}
use Rattle.lhg_motion.specs.CrossCalculus.{cross}
use Rattle.lhg_motion.specs.CrossFact.{IsCross}
use Rattle.lhg_motion.specs.CrossLaws.{cross-exact}
use Rattle.lhg_motion.specs.Reach.{HasStep}
use Rattle.lhg_motion.specs.StepLemmas.{step_to}
use Rattle.lhg_motion.specs.AttemptLaws.{IsFound}
use Rattle.lhg_motion.specs.LayerFound.{IsLayerFound, layer_found}
use Rattle.lhg_motion.specs.Found.{PlainFound, pieces_of}
use Rattle.lhg_motion.specs.ReachCalculus.{Placed, numbered, found_by, added_unless, add_new, attempt, through_ways, from_near, layer_of}
use Rattle.lhg_motion.specs.WalkLaws.{numbered-all, all_members}
use Rattle.lhg_math.specs.ListFacts.{all-both, all-map}
use Rattle.lhg_union.specs.PolyLists.{lines_of}
use Rattle.lhg_reach.specs.declared.found.Found.{Found}
use Rattle.lhg_reach.specs.FoundParts.{plain_founds}
use Rattle.lhg_reach.specs.Newest.{IsNewest}
use Rattle.lhg_reach.specs.Searching.{IsSearch, counted_layer}

-- where no step changes the state, the walk doesn't
pub walk-stays : {S A : Type 0} (f : S → A → Marked S) (s : S) (xs : List A) → AllOf (λ x. (f s x).value ≡ s) xs → (walk f s xs).value ≡ s
walk-stays f s [] h = refl
walk-stays f s (x ∷ xs) h = ap (λ t. (walk f t xs).value) h.0 ∙ walk-stays f s xs h.1

module _ (a : Arithmetic) (n : ℕ) (laws : IsLawful a) (known : List PlainPiece) (flow : PlainPiece) (layer : ℕ) (known_over : AllOver n known) (flow_wide : AllWide n flow)
    (new : List PlainFound) (new_over : AllOver n (pieces_of new)) where
  -- a crossing that starts in known and new pieces alone adds nothing
  pub attempt-stays : (into : Placed) (start : PlainPiece) (way : Placed) → AllWide n start → AllWide n way.piece → AllWide n into.piece
      → ((x : PlainPoint) → length x ≡ n → HasCrossing start way.piece into.piece flow x → InSome (known ++ pieces_of new) x) → (attempt a n flow known layer into start new way).value ≡ new
  attempt-stays into start way ws ww wi every = stays (cross a n start way.piece into.piece flow).value (cross-exact a n laws start way.piece into.piece flow ws ww wi flow_wide)
    where
      decided : (p : PlainPiece) (b : Bool) → ((x : PlainPoint) → length x ≡ n → InPiece p x → HasCrossing start way.piece into.piece flow x) → IsCovering n (p ∷ []) (known ++ pieces_of new) b → added_unless b new (found_by way into layer p) ≡ new
      decided p true to c = refl
      decided p false to c =
          elim ((in_some_is (p ∷ []) c.point).1 c.inside) [
            | inl i ↦ false_true (sym c.outside ∙ (in_some_is (known ++ pieces_of new) c.point).0 (every c.point c.wide (to c.point c.wide i)))
            | inr i ↦ absurd i
          ]

      stays : (o : Option PlainPiece) → IsCross a n start way.piece into.piece flow o → (add_new a n known new (found_by way into layer) o).value ≡ new
      stays None c = refl
      stays (Some p) c =
          decided p (covered a n (p ∷ []) (known ++ pieces_of new)).value (λ x e i. (c.points x e).0 i)
          (covered-exact a n (p ∷ []) (known ++ pieces_of new) laws (c.poly, tt) (all-append (AllWide n) known (pieces_of new) known_over new_over))

-- ---- older pieces
-- the places of two lists, one after the other
numbered-append : (k : ℕ) (ps qs : List PlainPiece) → numbered k (ps ++ qs) ≡ numbered k ps ++ numbered (k + length ps) qs
numbered-append k [] qs = ap (λ i. numbered i qs) (omega arith)
numbered-append k (p ∷ ps) qs = ap (λ rest. record { place = k; piece = p } ∷ rest) (numbered-append (suc k) ps qs ∙ ap (λ i. numbered (suc k) ps ++ numbered i qs) (omega arith))

-- a member of a list, over n variables
record IsMember (n : ℕ) (ps : List PlainPiece) (p : PlainPiece) : Type 0 where
  member : SomeOf (λ q. q ≡ p) ps
  wide : AllWide n p

-- each piece is a member of its list
members : (n : ℕ) (ps : List PlainPiece) → AllOver n ps → AllOf (λ p. IsMember n ps p) ps
members n ps h = all-both (λ p. SomeOf (λ q. q ≡ p) ps) (AllWide n) (λ p. IsMember n ps p) (λ p m w. record { member = m; wide = w }) ps (all_members ps) h

module _ (a : Arithmetic) (n : ℕ) (laws : IsLawful a) (near ways old newest : List PlainPiece) (flow : PlainPiece) (layer : ℕ)
    (near_over : AllOver n near) (ways_over : AllOver n ways) (old_over : AllOver n old) (newest_over : AllOver n newest) (flow_wide : AllWide n flow)
    (before : (x : PlainPoint) → length x ≡ n → HasStep near ways old flow x → InSome (old ++ newest) x) where
  abbrev known : List PlainPiece
  known = old ++ newest

  abbrev step : List PlainFound → Placed → Marked (List PlainFound)
  step = from_near a n flow known layer near (numbered 0 ways)

  -- a crossing into an older piece was made before
  old-covered : (into : PlainPiece) → IsMember n old into → (start : PlainPiece) → IsMember n near start → (way : PlainPiece) → IsMember n ways way
      → (x : PlainPoint) → length x ≡ n → HasCrossing start way into flow x → InSome (known ++ pieces_of []) x
  old-covered into mi start ms way mw x e c =
      subst (λ (ps : List PlainPiece). InSome ps x) (sym (append-nil known))
      (before x e (some_map (λ q. q ≡ start) (λ from. SomeOf (λ through. SomeOf (λ i. HasCrossing from through i flow x) old) ways)
      (λ from ef. some_map (λ q. q ≡ way) (λ through. SomeOf (λ i. HasCrossing from through i flow x) old)
      (λ through et. some_map (λ q. q ≡ into) (λ i. HasCrossing from through i flow x)
      (λ i ei. subst (λ (p : PlainPiece). HasCrossing from through p flow x) (sym ei) (subst (λ (p : PlainPiece). HasCrossing from p into flow x) (sym et) (subst (λ (p : PlainPiece). HasCrossing p way into flow x) (sym ef) c)))
      old mi.member) ways mw.member) near ms.member))

  attempt-old : (into : Placed) → IsMember n old into.piece → (start : PlainPiece) → IsMember n near start → (way : Placed) → IsMember n ways way.piece → (attempt a n flow known layer into start [] way).value ≡ []
  attempt-old into mi start ms way mw =
      attempt-stays a n laws known flow layer (all-append (AllWide n) old newest old_over newest_over) flow_wide [] tt into start way ms.wide mw.wide mi.wide (old-covered into.piece mi start ms way.piece mw)

  through-old : (into : Placed) → IsMember n old into.piece → (start : PlainPiece) → IsMember n near start → (through_ways a n flow known layer (numbered 0 ways) into [] start).value ≡ []
  through-old into mi start ms =
      walk-stays (attempt a n flow known layer into start) [] (numbered 0 ways)
      (all-map (λ way. IsMember n ways way.piece) (λ way. (attempt a n flow known layer into start [] way).value ≡ []) (λ way mw. attempt-old into mi start ms way mw) (numbered 0 ways) (numbered-all (λ p. IsMember n ways p) 0 ways (members n ways ways_over)))

  from-old : (into : Placed) → IsMember n old into.piece → (step [] into).value ≡ []
  from-old into mi =
      walk-stays (through_ways a n flow known layer (numbered 0 ways) into) [] near
      (all-map (λ start. IsMember n near start) (λ start. (through_ways a n flow known layer (numbered 0 ways) into [] start).value ≡ []) (λ start ms. through-old into mi start ms) near (members n near near_over))

  into-old : (walk step [] (numbered 0 old)).value ≡ []
  into-old =
      walk-stays step [] (numbered 0 old)
      (all-map (λ into. IsMember n old into.piece) (λ into. (step [] into).value ≡ []) from-old (numbered 0 old) (numbered-all (λ p. IsMember n old p) 0 old (members n old old_over)))

  -- the crossings into the newest pieces are what is left of a layer
  pub layer-newest : IsRest (layer_of a n flow near ways known layer) (walk step [] (numbered (length old) newest))
  unfolding layer_of
  layer-newest =
      let from_nought : 0 + length old ≡ length old = omega arith in
      subst (λ ps. IsRest (walk step [] ps) (walk step [] (numbered (length old) newest))) (sym (numbered-append 0 old newest ∙ ap (λ i. numbered 0 old ++ numbered i newest) from_nought))
      (subst (λ s. IsRest (walk step [] (numbered 0 old ++ numbered (length old) newest)) (walk step s (numbered (length old) newest))) into-old
      (walk-append step [] (numbered 0 old) (numbered (length old) newest)))

-- ---- from layer to layer
-- the crossings into the pieces from the first new one on are what is left of a layer
pub newest-rest : (a : Arithmetic) (n : ℕ) → IsLawful a → (near ways known : List PlainPiece) (flow : PlainPiece) (first layer : ℕ) → AllWide n flow → IsNewest n near ways known flow first
    → IsRest (layer_of a n flow near ways known layer) (walk (from_near a n flow known layer near (numbered 0 ways)) [] (numbered first (drop first known)))
newest-rest a n laws near ways known flow first layer w h =
    let old = take first known in
    let newest = drop first known in
    let joined : old ++ newest ≡ known = take-append-drop first known in
    let parts = all_split (AllWide n) old newest (subst (λ ps. AllOver n ps) (sym joined) h.known_over) in
    let rest = layer-newest a n laws near ways old newest flow layer h.near_over h.ways_over parts.0 parts.1 w (λ x e s. subst (λ (ps : List PlainPiece). InSome ps x) (sym joined) (h.before x e s)) in
    subst (λ i. IsRest (layer_of a n flow near ways known layer) (walk (from_near a n flow known layer near (numbered 0 ways)) [] (numbered i newest))) (length-take-le first known h.there)
    (subst (λ ps. IsRest (layer_of a n flow near ways ps layer) (walk (from_near a n flow ps layer near (numbered 0 ways)) [] (numbered (length old) newest))) joined rest)

-- before the first layer all known pieces are new
pub newest-first : (n : ℕ) (near ways bad : List PlainPiece) (flow : PlainPiece) → AllOver n near → AllOver n ways → AllOver n bad → IsNewest n near ways bad flow 0
newest-first n near ways bad flow hn hw hb = record {
  near_over = hn;
  ways_over = hw;
  known_over = hb;
  there = omega arith;
  before = λ x e s. absurd (step_to near ways [] flow x s).into;
}

-- found pieces are over n variables
found_over : (a : Arithmetic) (n : ℕ) (near ways known : List PlainPiece) (flow : PlainPiece) (layer : ℕ) (fs : List PlainFound) → AllOf (λ f. IsFound a n near ways known flow layer f) fs → AllOver n (pieces_of fs)
found_over a n near ways ps flow layer [] h = tt
found_over a n near ways ps flow layer (f ∷ fs) h = (h.0.poly.wide, found_over a n near ways ps flow layer fs h.1)

-- after a layer its pieces are new
newest-next : (a : Arithmetic) (n : ℕ) → IsLawful a → (near ways known : List PlainPiece) (flow : PlainPiece) (first layer : ℕ) → AllWide n flow → IsNewest n near ways known flow first
    → (new : List PlainFound) → IsLayerFound a n near ways known flow layer new → IsNewest n near ways (known ++ pieces_of new) flow (length known)
newest-next a n laws near ways known flow first layer w h new l = record {
  near_over = h.near_over;
  ways_over = h.ways_over;
  known_over = all-append (AllWide n) known (pieces_of new) h.known_over (found_over a n near ways known flow layer new l.sound.each);
  there = omega (arith, length-append known (pieces_of new));
  before = λ x e s. l.all x e (subst (λ ps. HasStep near ways ps flow x) (take-append_seam known (pieces_of new)) s);
}

-- what a layer with a new piece leaves
layer-value : (known : List PlainPiece) (before fs new : List PlainFound) (more : Bool) → (more, fs) ≡ (counted_layer known before new).value → more ≡ true → fs ≡ before ++ new
layer-value ps before fs [] more e k = false_true (sym (ap (λ p. p.0) e) ∙ k)
layer-value ps before fs (f ∷ new) more e k = ap (λ p. p.1) e

-- the same of what the code holds
pub newest-on : (a : Arithmetic) (n : ℕ) → IsLawful a → (bad near ways known known2 : List PlainPiece) (flow : PlainPiece) (first layer : ℕ) → AllWide n flow → IsNewest n near ways known flow first
    → (found fs : List PlainFound) (more : Bool) → known ≡ bad ++ pieces_of found → known2 ≡ bad ++ pieces_of fs → (more, fs) ≡ (and_then (layer_of a n flow near ways known layer) (counted_layer known found)).value → more ≡ true
    → IsNewest n near ways known2 flow (length known)
newest-on a n laws bad near ways known known2 flow first layer w h found fs more e f g k =
    let new = (layer_of a n flow near ways known layer).value in
    let is : known2 ≡ known ++ pieces_of new =
    f ∙ ap (λ gs. bad ++ pieces_of gs) (layer-value known found fs new more g k) ∙ ap (λ ps. bad ++ ps) (map-append (λ p. p.piece) found new) ∙ sym (append_assoc bad (pieces_of found) (pieces_of new)) ∙ ap (λ ps. ps ++ pieces_of new) (sym e) in
    subst (λ ps. IsNewest n near ways ps flow (length known)) (sym is)
    (newest-next a n laws near ways known flow first layer w h new (layer_found a n laws (cross-exact a n laws) near ways known flow layer h.near_over h.ways_over h.known_over w))

-- ---- crossings left out
-- where there is no crossing, the new pieces stay
pub skipped : (a : Arithmetic) (n : ℕ) (flow : PlainPiece) (known : List PlainPiece) (layer : ℕ) (into : Placed) (start : PlainPiece) (new : List PlainFound) (way : Placed) → (cross a n start way.piece into.piece flow).value ≡ None
    → new ≡ (attempt a n flow known layer into start new way).value
skipped a n flow known layer into start new way e = sym (ap (λ o. (add_new a n known new (found_by way into layer) o).value) e)

-- ---- what the code holds
-- the crossings into the pieces that the code goes over are what is left of a layer
pub code-rest : (a : Arithmetic) (n : ℕ) → IsLawful a → (near ways : List PlainPiece) (entry : List PlainSystem) (flow : PlainPiece) (first layer : ℕ) → AllWide n flow → IsNewest n near ways (lines_of entry) flow first
    → IsRest (layer_of a n flow near ways (lines_of entry) layer) (walk (from_near a n flow (lines_of entry) layer near (numbered 0 ways)) [] (numbered first (lines_of (drop first entry))))
code-rest a n laws near ways entry flow first layer w h =
    subst (λ ps. IsRest (layer_of a n flow near ways (lines_of entry) layer) (walk (from_near a n flow (lines_of entry) layer near (numbered 0 ways)) [] (numbered first ps)))
    (drop-map (λ (p : PlainSystem). p.lines) first entry) (newest-rest a n laws near ways (lines_of entry) flow first layer w h)

-- how many pieces are known
pub known-length : {N : Type 0} (bad known : List PlainSystem) (found : List (Found N)) (fs : List PlainFound) → IsSearch (lines_of bad) known found → fs ≡ plain_founds found → length known ≡ length bad + length fs
known-length bad known found fs s e =
    let k = ap length s in
    let m = ap length e in
    omega (arith, length-map known (λ (p : PlainSystem). p.lines), length-map bad (λ (p : PlainSystem). p.lines), length-map (plain_founds found) (λ f. f.piece), length-append (lines_of bad) (pieces_of (plain_founds found)))
