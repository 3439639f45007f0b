-- The controller of a draft has exactly the states of the draft, in pieces inside the invariants.
use Rattle.std.proofs.Common.{◌≡◌, ℕ, ap, ◌∙◌, length}
use Rattle.std.specs.Prelude.{slice_get, IsSomeAnd}
use Rattle.lhg_row.specs.Piece.{in_piece}
use Rattle.lhg_plant.specs.State.{IsState}
use Rattle.lhg_ctl.specs.Making.{inv_at, source_at, controller_of}
use Rattle.lhg_ctl.specs.MakingLaws.{MakingLaws}
use Rattle.lhg_ctl.proofs.MakingExact.{made-in, inv_holds, source_is}
use Rattle.lhg_ctl.proofs.MakingInside.{made_inside}

pub making_laws : MakingLaws
unfolding controller_of
making_laws = record {
  region = λ a d s proper h.
      let m = λ (t : IsState a s). made-in a proper (λ l. l) s.loc s.at t.fits (inv_holds (slice_get a.locs s.loc) s.at t.inside) (length a.locs) d.pieces h.pieces in (
        (λ r. record { state = r.state; some = (m r.state).0 r.some }),
        (λ r. record { state = r.state; some = (m r.state).1 r.some }),
      );
  guards = λ a d e s proper h.
      let m = λ (t : IsState a s) (f : IsSomeAnd (slice_get a.switches e) (λ w. w.from ≡ s.loc)).
      made-in a proper (source_at a) e s.at t.fits (ap (λ (l : ℕ). in_piece (inv_at a l) s.at) (source_is (slice_get a.switches e) s.loc f) ∙ inv_holds (slice_get a.locs s.loc) s.at t.inside) (length a.switches) d.guards h.guards in (
        (λ r. record { state = r.state; leaves = r.leaves; some = (m r.state r.leaves).0 r.some }),
        (λ r. record { state = r.state; leaves = r.leaves; some = (m r.state r.leaves).1 r.some }),
      );
  inside = made_inside;
}
