use Rattle.std.proofs.Common.{sym, ◌∙◌, ap}
use Rattle.lhg_row.specs.Row.{holds_at}
use Rattle.lhg_simplex.proofs.OtherLaws.{here-is, outside-told}
use Rattle.lhg_simplex.proofs.thinning.is_outside.Goals as goal

pub returns : goal.returns
returns g c =
    let x = c.args.point.now in
    let rows = c.args.rows.now in
    let i = c.args.i in
    let fails = ap (λ r. holds_at r x) (sym (here-is rows i c.index-rows-i.result c.index-rows-i.is c.requires.there)) ∙ sym c.in_ok-held.ensures.exact ∙ c.if-held.false in
    outside-told rows i x fails (sym c.in_ok-before.ensures.exact ∙ c.if-not-before.false) c.all_hold-2.result c.all_hold-2.ensures.exact
