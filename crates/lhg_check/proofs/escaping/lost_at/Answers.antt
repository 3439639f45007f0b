use Rattle.std.proofs.Common.{◌≡◌, ◌<◌, List, [], ◌∷◌, length, slice_get, Some, sym, ap, ◌∙◌, subst, arith}
use Rattle.std.specs.Global.{Vec}
use Rattle.lhg_math.specs.Tests.{AllOf}
use Rattle.lhg_num.specs.Halting.{IsHaltedBy}
use Rattle.lhg_num.specs.Marked.{valued}
use Rattle.lhg_row.specs.Piece.{PlainPiece}
use Rattle.lhg_row.specs.System.{PlainSystem}
use Rattle.lhg_plant.specs.Plant.{PlainLocation}
use Rattle.lhg_plant.specs.Invariants.{pieces_at}
use Rattle.lhg_plant.specs.OutCalculus.{PlainHit}
use Rattle.lhg_plant.specs.Views.{plain_location, plain_plant}
use Rattle.lhg_plant.proofs.Options.{some_same}
use Rattle.lhg_union.specs.PolyLists.{lines_of}
use Rattle.lhg_union.specs.Regions.{plain_region}
use Rattle.lhg_union.proofs.ListFacts.{all_at}
use Rattle.lhg_jump.specs.declared.hits.Hit.{Hit}
use Rattle.lhg_jump.specs.HitViews.{plain_hit, plain_hits, HasVars}
use Rattle.lhg_jump.specs.OutViews.{plain_outs}
use Rattle.lhg_jump.proofs.Answering.{rest_halts}
use Rattle.lhg_jump.proofs.AwayCode.{vars-at}
use Rattle.lhg_jump.proofs.HitCode.{plain_hits-at}
use Rattle.lhg_jump.proofs.RangeSteps.{lines-at}
use Rattle.lhg_ctl.specs.Views.{plain_controller}
use Rattle.lhg_check.specs.Check.{first_of, found_from, lost_at}
use Rattle.lhg_check.specs.CheckFacts.{IsReachedFrom, IsReachedPast}
use Rattle.lhg_check.specs.Views.{plain_piece}
use Rattle.lhg_check.proofs.EscapeSteps.{hits-begin, hits-none, hit-first, found-left}
use Rattle.lhg_check.proofs.FirstSteps.{ok_then}
use Rattle.lhg_check.proofs.InsideSteps.{location-below}
use Rattle.lhg_check.proofs.escaping.lost_at.Goals as goal

pub returns-in-Some-clause-calculus : goal.returns-in-Some-clause-calculus
returns-in-Some-clause-calculus c =
    let p = c.args.plant.now in
    let o = c.args.outs.now in
    let l = c.args.l in
    let place = plain_location c.args.location.now in
    let v = c.index.result.now in
    let hit = c.in-Some.hit.now in
    let below : l < length o.hits.items = let b = location-below p l c.args.location.now c.requires.location in let m = c.requires.hits.many in omega arith in
    let begins = hits-begin c.deref.result.now hit c.in-Some.ensures.value in
    let here = sym (plain_hits-at o.hits.items l v c.index.ensures below) ∙ ap plain_hits (sym c.deref.ensures.value ∙ begins.1) in
    ap (λ (q : PlainSystem). Some q.lines) c.in_ok-piece.ensures.copy ∙ hit-first (plain_plant p) (plain_controller c.args.controller.now) (plain_outs o) l place (plain_hit hit) (plain_hits begins.0) here

pub returns-in-Some-clause-vars : goal.returns-in-Some-clause-vars
returns-in-Some-clause-vars c =
    let p = c.args.plant.now in
    let n = length p.vars.items in
    let o = c.args.outs.now in
    let l = c.args.l in
    let v = c.index.result.now in
    let hit = c.in-Some.hit.now in
    let below : l < length o.hits.items = let b = location-below p l c.args.location.now c.requires.location in let m = c.requires.hits.many in omega arith in
    let begins = hits-begin c.deref.result.now hit c.in-Some.ensures.value in
    let all = all_at (λ (hs : Vec Hit). AllOf (HasVars n) hs.items) o.hits.items l v c.index.ensures below c.requires.hits.vars in
    let first = subst (AllOf (HasVars n)) (sym c.deref.ensures.value ∙ begins.1) all in
    ap (λ (q : PlainSystem). q.width) c.in_ok-piece.ensures.copy ∙ first.0.1

pub returns-in-Some-clause-reached : goal.returns-in-Some-clause-reached
returns-in-Some-clause-reached c =
    let p = c.args.plant.now in
    let o = c.args.outs.now in
    let l = c.args.l in
    let v = c.index.result.now in
    let hit = c.in-Some.hit.now in
    let below : l < length o.hits.items = let b = location-below p l c.args.location.now c.requires.location in let m = c.requires.hits.many in omega arith in
    let begins = hits-begin c.deref.result.now hit c.in-Some.ensures.value in
    let here = sym (plain_hits-at o.hits.items l v c.index.ensures below) ∙ ap plain_hits (sym c.deref.ensures.value ∙ begins.1) in
    λ place is none. absurd (not_both (plain_hit hit) (plain_hits begins.0) (sym here ∙ none))
  where
    not_both : (h : PlainHit) (hs : List PlainHit) → h ∷ hs ≡ [] → ⊥
    not_both h hs e = cc

pub index-requires-2 : goal.index-requires-2
index-requires-2 c =
    let b = location-below c.args.plant.now c.args.l c.args.location.now c.requires.location in
    let m = c.requires.away.many in
    let v = c.args.outs.now.away.pieces in
    let k = v.ok.0 in
    omega arith

pub found_from-requires-clause-bad : goal.found_from-requires-clause-bad
found_from-requires-clause-bad c =
    let p = c.args.plant.now in
    let l = c.args.l in
    let ys = c.args.outs.now.away.pieces.items in
    let below : l < length ys = let b = location-below p l c.args.location.now c.requires.location in let m = c.requires.away.many in omega arith in
    vars-at (length p.vars.items) ys l c.index-2.result.now c.deref-2.result.now c.deref-2.ensures.value c.index-2.ensures below c.requires.away.vars

pub returns-clause-calculus : goal.returns-clause-calculus
returns-clause-calculus c =
    let p = c.args.plant.now in
    let a = plain_plant p in
    let ct = plain_controller c.args.controller.now in
    let o = c.args.outs.now in
    let l = c.args.l in
    let place = plain_location c.args.location.now in
    let ys = o.away.pieces.items in
    let in_locs = location-below p l c.args.location.now c.requires.location in
    let in_hits : l < length o.hits.items = let m = c.requires.hits.many in omega arith in
    let in_away : l < length ys = let m = c.requires.away.many in omega arith in
    let none = sym (plain_hits-at o.hits.items l c.index.result.now c.index.ensures in_hits) ∙ ap plain_hits (sym c.deref.ensures.value ∙ hits-none c.deref.result.now c.in_default.ensures.value) in
    let same = ap lines_of c.deref-2.ensures.value ∙ lines-at ys l c.index-2.result.now c.index-2.ensures in_away in
    rest_halts c.found_from.result (valued first_of (lost_at a ct (plain_outs o) (l, place))) (valued first_of (found_from a ct (pieces_at (plain_region ys) l) (l, place))) plain_piece (found-left a ct (plain_outs o) l place none)
    (subst (λ (ps : List PlainPiece). IsHaltedBy c.found_from.result (valued first_of (found_from a ct ps (l, place))) plain_piece) same c.found_from.ensures.calculus)

pub returns-clause-reached : goal.returns-clause-reached
returns-clause-reached c =
    let p = c.args.plant.now in
    let a = plain_plant p in
    let ct = plain_controller c.args.controller.now in
    let o = c.args.outs.now in
    let l = c.args.l in
    let ys = o.away.pieces.items in
    let in_locs = location-below p l c.args.location.now c.requires.location in
    let in_away : l < length ys = let m = c.requires.away.many in omega arith in
    let same = ap lines_of c.deref-2.ensures.value ∙ lines-at ys l c.index-2.result.now c.index-2.ensures in_away in
    ok_then c.found_from.result (IsReachedFrom a ct (lines_of c.deref-2.result.now) l (plain_location c.args.location.now)) (IsReachedPast a ct (plain_outs o) l)
    (λ h place is none.
    subst (λ (w : PlainLocation). IsReachedFrom a ct (pieces_at (plain_region ys) l) l w) (some_same (slice_get a.locs l) (plain_location c.args.location.now) place c.requires.location is)
    (subst (λ (ps : List PlainPiece). IsReachedFrom a ct ps l (plain_location c.args.location.now)) same h))
    c.found_from.ensures.reached
