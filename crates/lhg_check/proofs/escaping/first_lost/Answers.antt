use Rattle.std.proofs.Common.{◌<◌, ◌≤◌, ℕ, length, below_more, rules, arith}
use Rattle.std.proofs.lemmas.List.{length-map}
use Rattle.std.proofs.lemmas.Option.{slice_get_within}
use Rattle.lhg_num.specs.Marked.{valued}
use Rattle.lhg_num.specs.MarkedLaws.{rest_self}
use Rattle.lhg_num.proofs.Halted.{part_halts}
use Rattle.lhg_plant.specs.Views.{plain_location, plain_plant}
use Rattle.lhg_jump.specs.OutViews.{plain_outs}
use Rattle.lhg_jump.proofs.Answering.{location-there}
use Rattle.lhg_ctl.specs.Views.{plain_controller}
use Rattle.lhg_check.specs.Check.{first_of, first_piece, lost_at, lost_pieces}
use Rattle.lhg_check.specs.CheckFacts.{IsReachedPast}
use Rattle.lhg_check.specs.Views.{plain_piece, plain_first}
use Rattle.lhg_check.proofs.FirstSteps.{at_part, at_first, at_end, here_none, piece_some, piece_none}
use Rattle.lhg_check.proofs.escaping.first_lost.Goals as goal

pub returns-in_err-piece-clause-calculus : goal.returns-in_err-piece-clause-calculus
returns-in_err-piece-clause-calculus c =
    let p = c.args.plant.now in
    let a = plain_plant p in
    let ct = plain_controller c.args.controller.now in
    let o = plain_outs c.args.outs.now in
    let l = c.loop-l.l in
    let k = c.index-location.result.now in
    let below : l < length p.locs.items = search rules in
    let is = location-there p l k below c.index-location.ensures in
    part_halts c.from_residual.result c.in_err-piece.field-0.0 (valued first_piece (lost_pieces a ct o)) plain_first (valued first_of (lost_at a ct o (l, plain_location k))) plain_piece c.from_residual.ensures.1 c.in_err-piece.ensures.calculus
    (at_part (lost_at a ct o) a.locs (lost_pieces a ct o) (rest_self (lost_pieces a ct o)) l (plain_location k) is)

pub returns-in-Some-clause-calculus : goal.returns-in-Some-clause-calculus
returns-in-Some-clause-calculus c =
    let p = c.args.plant.now in
    let a = plain_plant p in
    let ct = plain_controller c.args.controller.now in
    let o = plain_outs c.args.outs.now in
    let l = c.loop-l.l in
    let k = c.index-location.result.now in
    let below : l < length p.locs.items = search rules in
    let is = location-there p l k below c.index-location.ensures in
    at_first (lost_at a ct o) a.locs (lost_pieces a ct o) (rest_self (lost_pieces a ct o)) l (plain_location k) is c.in-Some.piece.lines c.loop-l.invariant.clear
    (piece_some c.in_ok-piece.piece c.in-Some.piece (first_of (lost_at a ct o (l, plain_location k)).value) c.in-Some.is c.in_ok-piece.ensures.calculus)

pub loop-l-preserved : goal.loop-l-preserved
loop-l-preserved c =
    let p = c.args.plant.now in
    let a = plain_plant p in
    let ct = plain_controller c.args.controller.now in
    let o = plain_outs c.args.outs.now in
    let l = c.loop-l.l in
    let k = c.index-location.result.now in
    let below : l < length p.locs.items = search rules in
    let is = location-there p l k below c.index-location.ensures in
    record {
      clear = here_none (lost_at a ct o) a.locs l (plain_location k) is c.loop-l.invariant.clear
          (piece_none c.in_ok-piece.piece (first_of (lost_at a ct o (l, plain_location k)).value) c.in_default.is c.in_ok-piece.ensures.calculus);
      reached = below_more (λ (i : ℕ). IsReachedPast a ct o i) l c.loop-l.invariant.reached c.in_ok-piece.ensures.reached;
    }

pub returns-clause-calculus : goal.returns-clause-calculus
returns-clause-calculus c =
    let p = c.args.plant.now in
    let a = plain_plant p in
    let ct = plain_controller c.args.controller.now in
    let o = plain_outs c.args.outs.now in
    let past : length p.locs.items ≤ c.loop-l.l = search rules in
    let all : length a.locs ≤ c.loop-l.l = omega (arith, past, length-map p.locs.items plain_location) in
    at_end (lost_at a ct o) a.locs (lost_pieces a ct o) (rest_self (lost_pieces a ct o)) c.loop-l.l all c.loop-l.invariant.clear

pub returns-clause-reached : goal.returns-clause-reached
returns-clause-reached c =
    let p = c.args.plant.now in
    let a = plain_plant p in
    let past : length p.locs.items ≤ c.loop-l.l = search rules in
    λ i place is none.
    let within = slice_get_within a.locs i place is in
    let below : i < c.loop-l.l = omega (arith, past, length-map p.locs.items plain_location) in
    c.loop-l.invariant.reached i below place is none
