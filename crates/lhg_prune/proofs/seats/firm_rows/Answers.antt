use Rattle.std.proofs.Common.{◌≡◌, length}
use Rattle.lhg_row.specs.Row.{PlainRow, Holds}
use Rattle.lhg_prune.specs.Touch.{strictly}
use Rattle.lhg_prune.proofs.ListSteps.{all-item, grown-wide, firm-step}
use Rattle.lhg_prune.proofs.seats.firm_rows.Goals as goal

pub loop-i-preserved : goal.loop-i-preserved
loop-i-preserved g c =
    let r = c.index-rows-i.result in
    let n = length c.args.point.now in
    let rows = c.args.rows.now in
    let Q = λ (q : PlainRow). Holds (strictly q) c.args.point.now in
    let e = all-item (λ (q : PlainRow). length q.coefs ≡ n) rows c.loop-i.i r c.index-rows-i.is c.loop-i-test.true c.requires.wide in
    let out = c.loop-i.out.items in
    let new = c.push_firm.new.out.items in
    record {
      told = firm-step Q rows c.loop-i.i r c.index-rows-i.is c.loop-i-test.true out new c.loop-i.invariant.told c.in_ok-push_firm.ensures;
      wide = grown-wide n (Q r) out new r c.in_ok-push_firm.ensures e c.loop-i.invariant.wide;
    }
