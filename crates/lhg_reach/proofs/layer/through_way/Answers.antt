use Rattle.std.proofs.Common.{◌≡◌, true, false, subst, rules}
use Rattle.lhg_reach.specs.FoundParts.{plain_founds}
use Rattle.lhg_row.specs.Width.{AllWide}
use Rattle.lhg_reach.specs.Before.{IsOpening}
use Rattle.lhg_reach.specs.Neighbours.{IsEntry, IsFlag}
use Rattle.lhg_reach.proofs.Newest.{skipped}
use Rattle.lhg_reach.proofs.Pairs.{count-entry}
use Rattle.lhg_reach.proofs.layer.through_way.Goals as goal

pub returns-then-not-entry-clause-step : goal.returns-then-not-entry-clause-step
returns-then-not-entry-clause-step g c = λ base s.
    let p = c.args in
    let none : p.entry ≡ false = search rules in
    let a = g.N.Scalar.arithmetic in
    let n = p.from.now.width in
    skipped a n p.flow.now base p.aim.now.layer (record { place = p.aim.now.place; piece = p.aim.now.piece.lines }) p.from.now.lines (plain_founds p.search.now.found.items) (record { place = p.through; piece = p.way.now.lines })
    (subst (λ b. IsEntry a n p.from.now.lines p.way.now.lines b) none c.requires.entry p.aim.now.piece.lines p.flow.now c.requires.aim_wide c.requires.flow)

pub returns-then-not-flag-clause-step : goal.returns-then-not-flag-clause-step
returns-then-not-flag-clause-step g c = λ base s.
    let p = c.args in
    let none : p.flag ≡ false = search rules in
    let a = g.N.Scalar.arithmetic in
    let n = p.from.now.width in
    skipped a n p.flow.now base p.aim.now.layer (record { place = p.aim.now.place; piece = p.aim.now.piece.lines }) p.from.now.lines (plain_founds p.search.now.found.items) (record { place = p.through; piece = p.way.now.lines })
    (subst (λ b. IsFlag a n p.aim.now.piece.lines p.way.now.lines b) none c.requires.flag p.from.now.lines p.flow.now c.rows.ensures.poly.wide c.requires.flow)

pub returns-then-not-opening-clause-step : goal.returns-then-not-opening-clause-step
returns-then-not-opening-clause-step g c = λ base s.
    let p = c.args in
    let none : p.opening ≡ false = search rules in
    let a = g.N.Scalar.arithmetic in
    let n = p.from.now.width in
    skipped a n p.flow.now base p.aim.now.layer (record { place = p.aim.now.place; piece = p.aim.now.piece.lines }) p.from.now.lines (plain_founds p.search.now.found.items) (record { place = p.through; piece = p.way.now.lines })
    (subst (λ b. IsOpening a n p.aim.now.piece.lines p.flow.now p.from.now.lines b) none c.requires.opening p.way.now.lines (subst (λ m. AllWide m p.way.now.lines) c.requires.way c.rows-then-not-opening.ensures.poly.wide))

pub returns-clause-count : goal.returns-clause-count
returns-clause-count g c =
    let p = c.args in
    let yes : p.entry ≡ true = search rules in
    count-entry g.N.Scalar.arithmetic p.from.now.width p.from.now.lines p.way.now.lines p.entry c.requires.entry yes p.tally.now c.attempt.new.tally c.attempt.ensures.count
