use Rattle.std.proofs.Common.{◌∙◌, ap, map, length}
use Rattle.lhg_math.specs.ListFacts.{written_over}
use Rattle.lhg_elim.proofs.turning.scaled_numbers.Goals as goal

pub returns : goal.returns
returns g c =
    let m = g.N.Scalar.meaning in
    let a = g.N.Scalar.arithmetic in
    ap (map m) (written_over c.args.numbers.len c.canon.new.row c.args.numbers.items c.args.numbers.ok.0 (c.canon.auto.row ∙ ap length c.deref_mut.ensures.value)) ∙ c.in_ok-canon.ensures.exact.1
    ∙ ap (λ xs. a.canon_of (map m xs)) c.deref_mut.ensures.value
