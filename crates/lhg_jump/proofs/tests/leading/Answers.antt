use Rattle.std.proofs.Common.{◌<◌, length, sym, ap, ◌∙◌, subst, arith}
use Rattle.std.specs.Prelude.{IsSomeAnd}
use Rattle.lhg_plant.specs.Inside.{AllInside}
use Rattle.lhg_plant.specs.Views.{plain_plant}
use Rattle.lhg_union.specs.PolyLists.{lines_of}
use Rattle.lhg_jump.proofs.Answering.{switch-there, switch-proper}
use Rattle.lhg_jump.proofs.RangeSteps.{lines-at}
use Rattle.lhg_jump.proofs.tests.leading.Goals as goal

pub pre-requires-clause-inside : goal.pre-requires-clause-inside
pre-requires-clause-inside c =
    let p = c.args.plant.now in
    let lists = c.args.region.now.pieces.items in
    let w = c.index.result.now in
    let is = switch-there p 0 w c.requires.there c.index.ensures in
    let there : w.to < length lists = omega (arith, (switch-proper p 0 w c.requires.there c.index.ensures).to, c.requires.region.has_lists.many) in
    let pieces = ap lines_of c.deref.ensures.value ∙ lines-at lists w.to c.index-2.result.now c.index-2.ensures there in
    subst (λ o. IsSomeAnd o (λ v. AllInside (plain_plant p) v.to (lines_of c.deref.result.now))) (sym is)
    (subst (AllInside (plain_plant p) w.to) (sym pieces) (c.requires.region.inside w.to))
