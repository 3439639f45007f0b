use Rattle.std.proofs.Common.{◌<◌, length, ap, arith, subst}
use Rattle.lhg_row.specs.PieceFacts.{IsDifference}
use Rattle.lhg_plant.specs.Views.{plain_state}
use Rattle.lhg_union.specs.PolyLists.{lines_of, AllVars}
use Rattle.lhg_union.proofs.Halts.{all_on_rows}
use Rattle.lhg_forward.proofs.SampleCode.{one_vars, left_there, at_part, at_value}
use Rattle.lhg_forward.proofs.forwarding.new_state.Goals as goal

pub minus-requires : goal.minus-requires
minus-requires c =
    let n = c.args.vars in
    record {
      vars = n;
      first = one_vars n c.args.loc c.args.earlier.now c.args.newest.now c.index-newest-0.result c.index-newest-0.is c.requires.new c.requires.newest c.from_ref.result.now c.from_ref.ensures.value;
      second = c.requires.earlier;
    }

pub index-requires : goal.index-requires
index-requires c =
    let n = c.args.vars in
    let first = one_vars n c.args.loc c.args.earlier.now c.args.newest.now c.index-newest-0.result c.index-newest-0.is c.requires.new c.requires.newest c.from_ref.result.now c.from_ref.ensures.value in
    let left = c.in_ok-left.left in
    let some = left_there n c.args.loc c.args.earlier.now c.args.newest.now c.index-newest-0.result c.index-newest-0.is c.requires.new c.requires.newest c.from_ref.result.now c.from_ref.ensures.value left.items
    (c.in_ok-left.ensures.points n first c.requires.earlier) in
    omega (arith, some, left.ok.0)

pub returns-in_err-at : goal.returns-in_err-at
returns-in_err-at c =
    let n = c.args.vars in
    let first = one_vars n c.args.loc c.args.earlier.now c.args.newest.now c.index-newest-0.result c.index-newest-0.is c.requires.new c.requires.newest c.from_ref.result.now c.from_ref.ensures.value in
    let left = c.in_ok-left.left.items in
    let some = left_there n c.args.loc c.args.earlier.now c.args.newest.now c.index-newest-0.result c.index-newest-0.is c.requires.new c.requires.newest c.from_ref.result.now c.from_ref.ensures.value left
    (c.in_ok-left.ensures.points n first c.requires.earlier) in
    all_on_rows c.from_residual-in_err-at.result c.in_err-at.field-0.0 _ plain_state _ (λ x. x) c.from_residual-in_err-at.ensures.1 c.in_err-at.ensures.calculus
    (at_part n c.args.loc c.args.earlier.now c.args.newest.now c.index-newest-0.result c.index-newest-0.is c.requires.new c.requires.newest c.from_ref.result.now c.from_ref.ensures.value left
    (c.in_ok-left.ensures.calculus n first c.requires.earlier) (c.in_ok-left.ensures.vars n first c.requires.earlier) some c.index.result.now c.index.ensures)

pub returns : goal.returns
returns c =
    let n = c.args.vars in
    let first = one_vars n c.args.loc c.args.earlier.now c.args.newest.now c.index-newest-0.result c.index-newest-0.is c.requires.new c.requires.newest c.from_ref.result.now c.from_ref.ensures.value in
    let left = c.in_ok-left.left.items in
    let some = left_there n c.args.loc c.args.earlier.now c.args.newest.now c.index-newest-0.result c.index-newest-0.is c.requires.new c.requires.newest c.from_ref.result.now c.from_ref.ensures.value left
    (c.in_ok-left.ensures.points n first c.requires.earlier) in
    at_value n c.args.loc c.args.earlier.now c.args.newest.now c.index-newest-0.result c.index-newest-0.is c.requires.new c.requires.newest c.from_ref.result.now c.from_ref.ensures.value left
    (c.in_ok-left.ensures.calculus n first c.requires.earlier) (c.in_ok-left.ensures.vars n first c.requires.earlier) some c.index.result.now c.index.ensures c.in_ok-at.at c.in_ok-at.ensures.calculus
