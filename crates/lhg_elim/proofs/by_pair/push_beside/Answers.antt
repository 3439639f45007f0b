use Rattle.lhg_num.proofs.Halted.{part_halts_wide}
use Rattle.lhg_row.specs.Eliminate.{with_pair, row_at, beside}
use Rattle.lhg_elim.specs.Pushed.{pushed}
use Rattle.lhg_elim.proofs.BesideSteps.{first-part, second-part, third-part, beside-end}
use Rattle.lhg_elim.proofs.by_pair.push_beside.Goals as goal

pub returns-in_err-push_partners : goal.returns-in_err-push_partners
returns-in_err-push_partners g c =
    let a = g.N.Scalar.arithmetic in
    let k = c.args.k in
    let rows = c.args.rows.now in
    let one = c.index-rows-i.result in
    let other = c.index-rows-j.result in
    let old = c.args.out.now.items in
    let part = first-part a k rows c.args.i c.args.j one other c.requires.in_order c.requires.in_list c.index-rows-i.is c.index-rows-j.is old old in
    part_halts_wide c.from_residual.result c.in_err-push_partners.field-0.0 (pushed k old (with_pair a k (row_at rows c.args.i) (row_at rows c.args.j) (beside rows c.args.i c.args.j))) (λ u. c.push_partners.new.out.items) _ (λ u. c.push_partners.new.out.items)
    c.from_residual.ensures.1 c.in_err-push_partners.ensures part

pub returns-in_err-push_partners-2 : goal.returns-in_err-push_partners-2
returns-in_err-push_partners-2 g c =
    let a = g.N.Scalar.arithmetic in
    let k = c.args.k in
    let rows = c.args.rows.now in
    let one = c.index-rows-i.result in
    let other = c.index-rows-j.result in
    let old = c.args.out.now.items in
    let part = second-part a k rows c.args.i c.args.j one other c.requires.in_order c.requires.in_list c.index-rows-i.is c.index-rows-j.is old c.push_partners.new.out.items c.in_ok-push_partners.ensures c.push_partners.new.out.items in
    part_halts_wide c.from_residual-in_err-push_partners-2.result c.in_err-push_partners-2.field-0.0 (pushed k old (with_pair a k (row_at rows c.args.i) (row_at rows c.args.j) (beside rows c.args.i c.args.j))) (λ u. c.push_partners-2.new.out.items) _ (λ u. c.push_partners-2.new.out.items)
    c.from_residual-in_err-push_partners-2.ensures.1 c.in_err-push_partners-2.ensures part

pub returns-in_err-push_partners-3 : goal.returns-in_err-push_partners-3
returns-in_err-push_partners-3 g c =
    let a = g.N.Scalar.arithmetic in
    let k = c.args.k in
    let rows = c.args.rows.now in
    let one = c.index-rows-i.result in
    let other = c.index-rows-j.result in
    let old = c.args.out.now.items in
    let part = third-part a k rows c.args.i c.args.j one other c.requires.in_order c.requires.in_list c.index-rows-i.is c.index-rows-j.is old c.push_partners.new.out.items c.in_ok-push_partners.ensures c.push_partners-2.new.out.items c.in_ok-push_partners-2.ensures c.push_partners-2.new.out.items in
    part_halts_wide c.from_residual-in_err-push_partners-3.result c.in_err-push_partners-3.field-0.0 (pushed k old (with_pair a k (row_at rows c.args.i) (row_at rows c.args.j) (beside rows c.args.i c.args.j))) (λ u. c.push_partners-3.new.out.items) _ (λ u. c.push_partners-3.new.out.items)
    c.from_residual-in_err-push_partners-3.ensures.1 c.in_err-push_partners-3.ensures part

pub returns : goal.returns
returns g c =
    let a = g.N.Scalar.arithmetic in
    let k = c.args.k in
    let rows = c.args.rows.now in
    let one = c.index-rows-i.result in
    let other = c.index-rows-j.result in
    let old = c.args.out.now.items in
    beside-end a k rows c.args.i c.args.j one other c.requires.in_order c.requires.in_list c.index-rows-i.is c.index-rows-j.is old c.push_partners.new.out.items c.in_ok-push_partners.ensures c.push_partners-2.new.out.items c.in_ok-push_partners-2.ensures c.push_partners-3.new.out.items c.in_ok-push_partners-3.ensures
