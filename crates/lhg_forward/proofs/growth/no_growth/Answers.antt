use Rattle.std.proofs.Common.{◌≡◌, ℕ, List, [], length, replicate, ap, ◌∙◌, rules}
use Rattle.lhg_row.specs.Piece.{PlainPiece}
use Rattle.lhg_forward.proofs.GrowthCode.{empty_lists}
use Rattle.lhg_forward.proofs.growth.no_growth.Goals as goal

pub returns-clause-lists : goal.returns-clause-lists
returns-clause-lists c =
    let p = c.args.plant.now in
    let many : c.loop-l._l ≡ length p.locs.items = search rules in
    empty_lists p c.loop-l.pieces.items (c.loop-l.invariant ∙ ap (λ (k : ℕ). replicate k (let ps : List PlainPiece = [] in ps)) many)
