use Rattle.std.proofs.Common.{◌≡◌, map, sym, ap, ◌∙◌, subst}
use Rattle.std.proofs.lemmas.List.{map-id}
use Rattle.lhg_math.specs.Number.{Number}
use Rattle.lhg_row.specs.System.{PlainSystem}
use Rattle.lhg_row.specs.PieceFacts.{IsPointOf}
use Rattle.lhg_row.specs.Sample.{sample}
use Rattle.lhg_row.specs.SampleLaws.{sample-in}
use Rattle.lhg_sample.proofs.points.sample.Goals as goal

pub returns-clause-point : goal.returns-clause-point
returns-clause-point c =
    let p = c.args.p.now in
    let items = c.in_ok-values.field-0.items in
    let is : items ≡ (sample p.width p.lines).value = c.in_ok-values.ensures.calculus ∙ ap (λ (s : PlainSystem). (sample s.width s.lines).value) c.system.ensures.system in
    let same : map (λ (q : Number). q) items ≡ (sample p.width p.lines).value = map-id items ∙ is in
    subst (IsPointOf p.width p.lines) (sym same) (sample-in p.width p.lines c.system.ensures.poly.wide c.system.ensures.poly.point)
