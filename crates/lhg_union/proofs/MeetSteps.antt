-- Steps of the loops that meet one piece with a list, and a list with a list.
use Rattle.std.proofs.Common.{◌≡◌, ℕ, ◌+◌, ◌<◌, ◌≤◌, List, [], ◌∷◌, ◌++◌, length, map, drop, get_or, refl, sym, ap, ◌∙◌, subst, append-nil}
use Rattle.std.proofs.lemmas.List.{drop_all}
use Rattle.lhg_num.specs.Arithmetic.{Arithmetic}
use Rattle.lhg_num.specs.Marked.{Marked, and_then, valued}
use Rattle.lhg_num.specs.MarkedLaws.{IsPart, IsBuilt}
use Rattle.lhg_math.specs.ListFacts.{drop_cons}
use Rattle.lhg_row.specs.Piece.{PlainPiece}
use Rattle.lhg_row.specs.System.{PlainSystem}
use Rattle.lhg_row.specs.Eliminate.{each_joined}
use Rattle.lhg_row.specs.Pieces.{meet}
use Rattle.lhg_row.specs.Lists.{listed, counted_pieces, meet_each, meet_lists}
use Rattle.lhg_union.specs.PolyLists.{lines_of, AllVars}
use Rattle.lhg_union.proofs.ListFacts.{listed-append, lines_of-append, all_at}
use Rattle.lhg_union.proofs.GatherSteps.{more-part, more-step, counted-part, joined-part}
use Rattle.lhg_row.specs.Members.{all-append}

-- ---- one piece with a list
-- the meets so far with the rows of each member of a list
pub record IsMeeting (a : Arithmetic) (n : ℕ) (p : PlainPiece) {Q : Type 0} (rows : Q → PlainPiece) (qs : List Q) (out : List PlainSystem) (i : ℕ) : Type 0 where
  pub built : IsBuilt (meet_each a n p (map rows qs)) (lines_of out) (meet_each a n p (map rows (drop i qs)))
  pub vars : AllVars n out

module _ (a : Arithmetic) (n : ℕ) (p : PlainPiece) {Q : Type 0} (rows : Q → PlainPiece) (qs : List Q) (out : List PlainSystem) (i : ℕ) (q : Q) (q_is : q ≡ get_or qs i q) (in_qs : i < length qs) (h : IsMeeting a n p rows qs out i) where
  abbrev whole : Marked (List PlainPiece)
  whole = meet_each a n p (map rows qs)

  abbrev behind : Marked (List PlainPiece)
  behind = meet_each a n p (map rows (drop (i + 1) qs))

  here : IsBuilt whole (lines_of out) (and_then (meet a n p (rows q)) (λ o. valued (λ ps. listed o [] ++ ps) behind))
  here =
      let f : IsBuilt whole (lines_of out) (and_then (meet a n p (rows q)) (λ o. valued (listed o) behind)) = subst (λ rs. IsBuilt whole (lines_of out) (meet_each a n p (map rows rs))) (drop_cons qs i q q_is in_qs) h.built in
      record { same = ap (λ ps. lines_of out ++ ps) (sym (listed-append (meet a n p (rows q)).value behind.value)) ∙ f.same; part = record { wide = f.part.wide; rows = f.part.rows; pieces = f.part.pieces } }

  -- the marks of the next meet
  pub meeting-part : IsPart whole (meet a n p (rows q))
  meeting-part = more-part whole (lines_of out) (meet a n p (rows q)) (λ o. listed o []) behind here

  -- the next meet
  pub meeting-step : (more : List PlainSystem) → lines_of more ≡ lines_of out ++ listed (meet a n p (rows q)).value [] → AllVars n more → IsMeeting a n p rows qs more (i + 1)
  meeting-step more e v = record {
    built = subst (λ ps. IsBuilt whole ps behind) (sym e) (more-step whole (lines_of out) (meet a n p (rows q)) (λ o. listed o []) behind here (meet a n p (rows q)).value refl);
    vars = v;
  }

-- at the end the meets are all that there are
pub meeting-end : (a : Arithmetic) (n : ℕ) (p : PlainPiece) {Q : Type 0} (rows : Q → PlainPiece) (qs : List Q) (out : List PlainSystem) (i : ℕ) → length qs ≤ i → IsMeeting a n p rows qs out i → lines_of out ≡ (meet_each a n p (map rows qs)).value
meeting-end a n p rows qs out i h w = sym (append-nil (lines_of out)) ∙ sym (ap (λ rs. lines_of out ++ (meet_each a n p (map rows rs)).value) (drop_all i qs h)) ∙ w.built.same

-- ---- a list with a list
-- the meets of the pieces so far, whatever n their variables are
pub record IsGathering (a : Arithmetic) (n : ℕ) (ps qs out : List PlainSystem) (i : ℕ) : Type 0 where
  pub built : IsBuilt (each_joined (λ p. meet_each a n p (lines_of qs)) (lines_of ps)) (lines_of out) (each_joined (λ p. meet_each a n p (lines_of qs)) (lines_of (drop i ps)))
  pub vars : AllVars n out

module _ (a : Arithmetic) (n : ℕ) (ps qs out : List PlainSystem) (i : ℕ) (p : PlainSystem) (p_is : p ≡ get_or ps i p) (in_ps : i < length ps) (over : AllVars n ps) (h : IsGathering a n ps qs out i) where
  abbrev f : PlainPiece → Marked (List PlainPiece)
  f r = meet_each a n r (lines_of qs)

  each-here : IsBuilt (each_joined f (lines_of ps)) (lines_of out) (each_joined f (p.lines ∷ lines_of (drop (i + 1) ps)))
  each-here = subst (λ rs. IsBuilt (each_joined f (lines_of ps)) (lines_of out) (each_joined f (lines_of rs))) (drop_cons ps i p p_is in_ps) h.built

  -- the next piece is over n variables
  pub gathering-width : p.width ≡ n
  gathering-width = all_at (λ (s : PlainSystem). s.width ≡ n) ps i p p_is in_ps over

  -- the marks of the next piece
  pub gathering-part : IsPart (each_joined f (lines_of ps)) (meet_each a p.width p.lines (lines_of qs))
  gathering-part =
      subst (λ m. IsPart (each_joined f (lines_of ps)) (meet_each a m p.lines (lines_of qs))) (sym gathering-width)
      (more-part (each_joined f (lines_of ps)) (lines_of out) (f p.lines) (λ ys. ys) (each_joined f (lines_of (drop (i + 1) ps))) each-here)

  -- the meets of one piece more
  pub gathering-built : (met : List PlainPiece) → met ≡ (meet_each a p.width p.lines (lines_of qs)).value → IsBuilt (each_joined f (lines_of ps)) (lines_of out ++ met) (each_joined f (lines_of (drop (i + 1) ps)))
  gathering-built met e =
      more-step (each_joined f (lines_of ps)) (lines_of out) (f p.lines) (λ ys. ys) (each_joined f (lines_of (drop (i + 1) ps))) each-here met (e ∙ ap (λ m. (meet_each a m p.lines (lines_of qs)).value) gathering-width)

  -- one piece more
  pub gathering-step : (met new : List PlainSystem) → lines_of met ≡ (meet_each a p.width p.lines (lines_of qs)).value → AllVars p.width met → new ≡ out ++ met → IsGathering a n ps qs new (i + 1)
  gathering-step met new e v g = record {
    built = subst (λ rs. IsBuilt (each_joined f (lines_of ps)) rs (each_joined f (lines_of (drop (i + 1) ps)))) (sym (ap lines_of g ∙ lines_of-append out met)) (gathering-built (lines_of met) e);
    vars = subst (AllVars n) (sym g) (all-append (λ (s : PlainSystem). s.width ≡ n) out met h.vars (subst (λ m. AllVars m met) gathering-width v));
  }

module _ (a : Arithmetic) (n : ℕ) (ps qs : List PlainSystem) where
  abbrev joined : Marked (List PlainPiece)
  joined = each_joined (λ p. meet_each a n p (lines_of qs)) (lines_of ps)

  -- the marks of what is joined are among those of the whole
  pub whole-part : {B : Type 0} (part : Marked B) → IsPart joined part → IsPart (meet_lists a n (lines_of ps) (lines_of qs)) part
  unfolding meet_lists
  whole-part part p = joined-part joined part p

  -- a list that is past its limits before all is joined is so in the end
  pub limit-part : (out : List PlainPiece) (rest : Marked (List PlainPiece)) → IsBuilt joined out rest → IsPart (meet_lists a n (lines_of ps) (lines_of qs)) (counted_pieces out)
  unfolding meet_lists
  limit-part out rest b = counted-part joined out rest b

  -- at the end what is joined is the answer
  pub gathering-end : (out : List PlainSystem) (i : ℕ) → length ps ≤ i → IsGathering a n ps qs out i → lines_of out ≡ (meet_lists a n (lines_of ps) (lines_of qs)).value
  unfolding meet_lists
  gathering-end out i h w =
      sym (append-nil (lines_of out)) ∙ sym (ap (λ rs. lines_of out ++ (each_joined (λ p. meet_each a n p (lines_of qs)) (lines_of rs)).value) (drop_all i ps h)) ∙ w.built.same
