use Rattle.std.proofs.Common.{◌≡◌, ◌+◌, ◌<◌, ◌≤◌, true, false, length, set, sym, ap, ◌∙◌, subst, rules, arith}
use Rattle.std.proofs.lemmas.List.{get_or_default}
use Rattle.lhg_num.proofs.Halted.{part_halts}
use Rattle.lhg_union.specs.PolyLists.{lines_of}
use Rattle.lhg_jump.proofs.AwayCode.{less-at}
use Rattle.lhg_quiet.proofs.Renewing.{AreRenewed, renewed-kept, renewed-part, renewed-step, renewed-end}
use Rattle.lhg_quiet.proofs.outside.renew_away.Goals.{then-changed-l+in_ok-outside, else-changed-l}
use Rattle.lhg_quiet.proofs.outside.renew_away.Goals as goal

pub minus-requires : goal.minus-requires
minus-requires c =
    let p = c.args.plant.now in
    let l = c.loop-l.l in
    let there : l < length p.locs.items = search rules in
    let r = less-at p c.args.invs.now c.args.region.now l c.requires.invs.has_lists c.requires.region there c.index-invs-l.result c.index-region-l.result c.index-invs-l.is c.index-region-l.is
    c.deref.result.now c.deref-then-changed-l.result.now c.deref.ensures.value c.deref-then-changed-l.ensures.value in
    record { vars = length p.vars.items; first = r.first; second = r.second }

pub returns-in_err-outside-clause-calculus : goal.returns-in_err-outside-clause-calculus
returns-in_err-outside-clause-calculus c =
    let p = c.args.plant.now in
    let n = length p.vars.items in
    let l = c.loop-l.l in
    let there : l < length p.locs.items = search rules in
    let ps = c.deref.result.now in
    let qs = c.deref-then-changed-l.result.now in
    let r = less-at p c.args.invs.now c.args.region.now l c.requires.invs.has_lists c.requires.region there c.index-invs-l.result c.index-region-l.result c.index-invs-l.is c.index-region-l.is
    ps qs c.deref.ensures.value c.deref-then-changed-l.ensures.value in
    part_halts c.from_residual-in_err-outside.result c.in_err-outside.field-0.0 _ _ _ (λ v. lines_of v.items) c.from_residual-in_err-outside.ensures.1 (c.in_err-outside.ensures.calculus n r.first r.second)
    (renewed-part p c.args.invs.now c.args.region.now c.requires.invs c.args.changed.now l c.loop-l.away.items c.loop-l.invariant there ps qs r.same)

pub loop-l-preserved : goal.loop-l-preserved
loop-l-preserved c =
    let p = c.args.plant.now in
    let n = length p.vars.items in
    let invs = c.args.invs.now in
    let region = c.args.region.now in
    let changed = c.args.changed.now in
    let l = c.loop-l.l in
    let away = c.loop-l.away.items in
    let there : l < length p.locs.items = search rules in
    elim c.if-changed-l.branch [
      | then-changed-l+in_ok-outside w ↦
          let ps = w.deref.result.now in
          let qs = w.deref-then-changed-l.result.now in
          let r = less-at p invs region l c.requires.invs.has_lists c.requires.region there w.index-invs-l.result w.index-region-l.result w.index-invs-l.is w.index-region-l.is
          ps qs w.deref.ensures.value w.deref-then-changed-l.ensures.value in
          let more = w.in_ok-outside.outside in
          let items : c.if-changed-l.away.items ≡ set away l more = ap (λ v. v.items) w.away-is in
          subst (AreRenewed p region changed (l + 1)) (sym items)
          (renewed-step p invs region c.requires.invs changed l away c.loop-l.invariant there ps qs r.same more (w.in_ok-outside.ensures.calculus n r.first r.second) (w.in_ok-outside.ensures.vars n r.first r.second))
      | else-changed-l w ↦
          let many = c.requires.changed in
          let within : l < length changed = omega arith in
          let items : c.if-changed-l.away.items ≡ away = ap (λ v. v.items) w.away-is in
          subst (AreRenewed p region changed (l + 1)) (sym items)
          (renewed-kept p invs region c.requires.invs changed l away c.loop-l.invariant there (get_or_default changed l true false within ∙ w.if-changed-l.false))
    ]

pub returns-clause-calculus : goal.returns-clause-calculus
returns-clause-calculus c =
    let p = c.args.plant.now in
    let past : length p.locs.items ≤ c.loop-l.l = search rules in
    renewed-end p c.args.invs.now c.args.region.now c.requires.invs c.args.changed.now c.loop-l.l c.loop-l.away.items c.loop-l.invariant past

pub returns-clause-outside : goal.returns-clause-outside
returns-clause-outside c = record { has_lists = c.loop-l.invariant.has_lists; same = returns-clause-calculus c }
