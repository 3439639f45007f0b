use Rattle.std.proofs.Common.{sym, subst}
use Rattle.lhg_row.specs.System.{PlainSystem}
use Rattle.lhg_reach.specs.Neighbours.{EachWith, IsEdge, IsFlag, IsHint}
use Rattle.lhg_reach.proofs.Pairs.{told-flags, edges_over}
use Rattle.lhg_reach.proofs.layer.into_aim.Goals as goal

pub hints-requires : goal.hints-requires
hints-requires g c =
    let a = g.N.Scalar.arithmetic in
    edges_over a c.args.aim.now.piece.width c.args.ways.now c.deref.result.now c.requires.ways
    (subst (λ es. EachWith (IsEdge a) c.args.ways.now es) (sym c.deref.ensures.value) c.requires.kept.closures)

pub from_near-requires-clause-flags : goal.from_near-requires-clause-flags
from_near-requires-clause-flags g c =
    let a = g.N.Scalar.arithmetic in
    let aim = c.args.aim.now.piece in
    subst (λ bs. EachWith (λ (way : PlainSystem) b. IsFlag a aim.width aim.lines way.lines b) c.args.ways.now bs) (sym c.deref-5.ensures.value)
    (told-flags a aim g.met.N.Scalar.lawful c.hints.ensures.wide c.args.ways.now c.args.kept.now.edges.items c.in_ok-flags.flags.items c.requires.ways c.requires.kept.pieces c.requires.kept.closures
    (subst (λ es. EachWith (IsHint a aim.width aim.lines) es c.in_ok-flags.flags.items) c.deref.ensures.value c.in_ok-flags.ensures.told))
