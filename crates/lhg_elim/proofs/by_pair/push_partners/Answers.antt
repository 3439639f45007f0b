use Rattle.std.proofs.Common.{not, [], ◌∷◌, ◌++◌, map}
use Rattle.lhg_num.specs.Marked.{valued}
use Rattle.lhg_num.proofs.Halted.{part_halts_wide}
use Rattle.lhg_row.specs.Piece.{PlainPiece}
use Rattle.lhg_row.specs.Column.{level_at, drop_column}
use Rattle.lhg_row.specs.Combine.{comb}
use Rattle.lhg_row.specs.Eliminate.{partner, with_pair}
use Rattle.lhg_elim.proofs.Additive.{each-additive, pushed-step, pushed-part, valued-part}
use Rattle.lhg_elim.proofs.by_pair.push_partners.Goals as goal

pub returns-in_err-push_partner : goal.returns-in_err-push_partner
returns-in_err-push_partner g c =
    let a = g.N.Scalar.arithmetic in
    let k = c.args.k in
    let made = λ (rows : PlainPiece). with_pair a k c.args.one.now c.args.other.now rows in
    let part = pushed-part (drop_column k) made (each-additive (λ r. not (level_at k r)) (λ r. comb a r (partner k c.args.one.now c.args.other.now r) k)) c.args.rows.now c.loop-row.row-index c.row-item.result c.row-item.is
    c.loop-row-test.true c.args.out.now.items (made c.args.rows.now) c.loop-row.out.items c.loop-row.invariant in
    let old = c.args.out.now.items in
    let before = c.loop-row.out.items in
    part_halts_wide c.from_residual.result c.in_err-push_partner.field-0.0 (valued (λ cs. old ++ map (drop_column k) cs) (made c.args.rows.now)) (λ u. c.push_partner.new.out.items)
    (valued (λ cs. before ++ map (drop_column k) cs) (made (c.row-item.result ∷ []))) (λ u. c.push_partner.new.out.items) c.from_residual.ensures.1 c.in_err-push_partner.ensures
    (valued-part (made c.args.rows.now) (λ cs. old ++ map (drop_column k) cs) (made (c.row-item.result ∷ [])) (λ cs. before ++ map (drop_column k) cs) part)

pub loop-row-preserved : goal.loop-row-preserved
loop-row-preserved g c =
    let a = g.N.Scalar.arithmetic in
    let k = c.args.k in
    let made = λ (rows : PlainPiece). with_pair a k c.args.one.now c.args.other.now rows in
    pushed-step (drop_column k) made (each-additive (λ r. not (level_at k r)) (λ r. comb a r (partner k c.args.one.now c.args.other.now r) k)) c.args.rows.now c.loop-row.row-index c.row-item.result c.row-item.is c.loop-row-test.true
    c.args.out.now.items (made c.args.rows.now) c.loop-row.out.items c.loop-row.invariant c.push_partner.new.out.items c.in_ok-push_partner.ensures
