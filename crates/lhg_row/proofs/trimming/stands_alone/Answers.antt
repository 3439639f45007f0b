use Rattle.std.proofs.Common.{◌∙◌, map, ap}
use Rattle.std.specs.Ordering.{ordering_reverse}
use Rattle.lhg_row.specs.Row.{row_with}
use Rattle.lhg_row.specs.Constant.{stands_alone}
use Rattle.lhg_row.specs.Kinds.{is_strict}
use Rattle.lhg_row.specs.Values.{fits_order}
use Rattle.lhg_row.proofs.TrimSteps.{fits-alone}
use Rattle.lhg_row.proofs.trimming.stands_alone.Goals as goal

pub returns : goal.returns
returns g c =
    let m = g.N.Scalar.meaning in
    let r = c.row.inside in
    let strict = is_strict r.kind in
    c.fits.ensures ∙ ap (fits_order strict) (c.reverse.ensures ∙ ap ordering_reverse c.sign.ensures) ∙ fits-alone (row_with (map m r.coefs.items) strict (m r.bound)) ∙ ap stands_alone c.row.view_is
