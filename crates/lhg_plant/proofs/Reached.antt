-- Escapes in one location are plays inside the bad and near pieces that end in a bad one.
use Rattle.std.proofs.Common.{◌≡◌, List, [], ◌∷◌, ◌++◌, slice_get, length, refl, sym, ◌∙◌, inl, inr}
use Rattle.lhg_row.specs.Row.{PlainPoint}
use Rattle.lhg_row.specs.Piece.{PlainPiece, InPiece, InSome}
use Rattle.lhg_row.specs.PieceLemmas.{some_decided}
use Rattle.lhg_motion.specs.Convex.{piece_convex}
use Rattle.lhg_motion.specs.Play.{PlainMove, IsPlay, last_point, EachPoint}
use Rattle.lhg_motion.specs.PlayLemmas.{earlier_none}
use Rattle.lhg_motion.specs.Reach.{HasPlay}
use Rattle.lhg_row.specs.SomeLists.{in_left, in_right, in_either}
use Rattle.lhg_motion.specs.PlayPoints.{inside_more, play_inside, play_outside, each_both, each_length}
use Rattle.lhg_plant.specs.Plant.{PlainPlant, PlainLocation}
use Rattle.lhg_plant.specs.State.{PlainState, States, IsState, moved_to}
use Rattle.lhg_plant.specs.OutBack.{Out}
use Rattle.lhg_plant.specs.Escape.{MayPass, HasEscape}
use Rattle.lhg_plant.specs.Split.{AreSplit}
use Rattle.lhg_plant.proofs.Options.{some_there, there_some}

-- each point of a play is in the invariant
each_inside : (inv flow : PlainPiece) (x : PlainPoint) (moves : List PlainMove) → IsPlay inv flow x moves → EachPoint (λ p. InPiece inv p) x moves
each_inside inv flow x [] h = (earlier_none (λ p. InPiece inv p) x, h)
each_inside inv flow x (m ∷ ms) h =
    inside_more (λ p. InPiece inv p) x m ms (λ p i. piece_convex inv x m.to p h.0.same_length h.0.from_in h.0.to_in i) (each_inside inv flow m.to ms h.1)

-- what is in Out is a state
pub out_state : (a : PlainPlant) (S : States) (s : PlainState) → Out a S s → IsState a s
out_state a S s (inl h) = h.0
out_state a S s (inr h) = h.legal.start

module _ (a : PlainPlant) (S K : States) (s : PlainState) (l : PlainLocation) (bad near : List PlainPiece) (start : IsState a s) (split : AreSplit a S K s l bad near) where
  state_here : (p : PlainPoint) → length p ≡ length s.at → InPiece l.inv p → IsState a (moved_to s p)
  state_here p e h = record { fits = e ∙ start.fits; inside = there_some (slice_get a.locs s.loc) l (λ k. InPiece k.inv p) split.is_there h }

  way_state : (p : PlainPoint) → length p ≡ length s.at → InSome (bad ++ near) p → IsState a (moved_to s p) × MayPass a S K (moved_to s p)
  way_state p e h =
      elim (in_either bad near p h) [
        | inl k ↦ (let o = split.bad_in p (e ∙ start.fits) k in (out_state a S (moved_to s p) o, inl o))
        | inr k ↦ (let n = split.near_in p (e ∙ start.fits) k in (n.0, inr n.1))
      ]

  pass_way : (p : PlainPoint) → IsState a (moved_to s p) → MayPass a S K (moved_to s p) → InSome (bad ++ near) p
  pass_way p i (inl o) = in_left bad near p (split.bad_all p o)
  pass_way p i (inr k) =
      elim (some_decided bad p) [ inl b ↦ in_left bad near p b | inr n ↦ in_right bad near p (split.near_all p i (λ o. n (split.bad_all p o)) k) ]

  -- an escape is a play
  pub escape_play : HasEscape a S K s → HasPlay bad near l.flow s.at
  escape_play h =
      let moves = h.0 in
      let e = h.1 in
      let play : IsPlay l.inv l.flow s.at moves = some_there (slice_get a.locs s.loc) l (λ k. IsPlay k.inv k.flow s.at moves) split.is_there e.play.play in
      let states : EachPoint (λ p. IsState a (moved_to s p)) s.at moves =
      each_both (λ p. length p ≡ length s.at) (λ p. InPiece l.inv p) (λ p. IsState a (moved_to s p)) state_here s.at moves (each_length (length s.at) l.inv l.flow s.at moves refl play) (each_inside l.inv l.flow s.at moves play) in
      record {
        moves = moves;
        legal = play_outside l.inv l.flow s.at moves play;
        inside = each_both (λ p. IsState a (moved_to s p)) (λ p. MayPass a S K (moved_to s p)) (λ p. InSome (bad ++ near) p) pass_way s.at moves states (e.earlier, inl e.ends);
        ends = split.bad_all (last_point s.at moves) e.ends;
      }

  -- a play is an escape
  pub play_escape : HasPlay bad near l.flow s.at → HasEscape a S K s
  play_escape h =
      let moves = h.moves in
      let lengths = each_length (length s.at) [] l.flow s.at moves refl h.legal in
      let both : EachPoint (λ p. IsState a (moved_to s p) × MayPass a S K (moved_to s p)) s.at moves =
      each_both (λ p. length p ≡ length s.at) (λ p. InSome (bad ++ near) p) (λ p. IsState a (moved_to s p) × MayPass a S K (moved_to s p)) way_state s.at moves lengths h.inside in
      let play : IsPlay l.inv l.flow s.at moves =
      play_inside l.inv l.flow (λ p. IsState a (moved_to s p) × MayPass a S K (moved_to s p)) (λ p k. some_there (slice_get a.locs s.loc) l (λ w. InPiece w.inv p) split.is_there k.0.inside) s.at moves h.legal both in (
        moves,
        record {
          play = record { start = start; play = there_some (slice_get a.locs s.loc) l (λ k. IsPlay k.inv k.flow s.at moves) split.is_there play };
          ends = split.bad_in (last_point s.at moves) (lengths.1 ∙ start.fits) h.ends;
          earlier = λ k p i. (both.0 k p i).1;
        },
      )
