use Rattle.std.proofs.Common.{pos, ap, ◌∙◌}
use Rattle.std.specs.Ordering.{int_cmp}
use Rattle.lhg_math.specs.Number.{whole, compare}
use Rattle.lhg_whole.specs.ContentLaws.{zero_is}
use Rattle.lhg_whole.proofs.Fields.{compare-whole}
use Rattle.lhg_whole.proofs.whole.WholeScalar.sign.Goals as goal

pub returns : goal.returns
returns c =
    let a = c.args.self.now in
    c.cmp.ensures ∙ ap (λ n. int_cmp n (pos 0)) c.self.view_is ∙ compare-whole a (pos 0) ∙ ap (λ n. compare (whole a) n) zero_is
