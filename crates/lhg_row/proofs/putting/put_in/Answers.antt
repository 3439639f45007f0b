use Rattle.std.proofs.lemmas.List.{length-map}
use Rattle.std.proofs.Common.{◌≡◌, ◌∙◌, ap, arith, drop, length, map, rules}
use Rattle.lhg_row.specs.Row.{PlainRow, holds_at, row_with}
use Rattle.lhg_row.specs.Kinds.{is_strict}
use Rattle.lhg_row.specs.PutIn.{lessened_bound, put_in}
use Rattle.lhg_row.specs.PutInLaws.{put_in-holds}
use Rattle.lhg_row.proofs.putting.put_in.Goals as goal

pub returns-clause-points : goal.returns-clause-points
returns-clause-points g c =
    let m = g.N.Scalar.meaning in
    let a = g.N.Scalar.arithmetic in
    let row = c.args.row.now in
    let x = c.args.point.now in
    let long = length-map c.point.inside.at.items m in
    let seen = ap length c.point.view_is in
    let many : c.len.result ≡ length x = omega (arith, long, seen, c.len.ensures, c.point.inside.at.ok.0) in
    let further : map m c.in_ok-coefs.coefs.items ≡ drop c.len.result row.coefs = search rules in
    let bound : m c.in_ok-bound.bound ≡ (lessened_bound a x row).value = search rules in
    let kind : is_strict c.row.inside.kind ≡ row.strict = search rules in
    let k : row_with (map m c.in_ok-coefs.coefs.items) (is_strict c.row.inside.kind) (m c.in_ok-bound.bound) ≡ (put_in a x row).value =
    ap (λ cs. row_with cs (is_strict c.row.inside.kind) (m c.in_ok-bound.bound)) (further ∙ ap (λ n. drop n row.coefs) many)
    ∙ ap (λ s. row_with (drop (length x) row.coefs) s (m c.in_ok-bound.bound)) kind ∙ ap (row_with (drop (length x) row.coefs) row.strict) bound in
    λ y. ap (λ (q : PlainRow). holds_at q y) k ∙ put_in-holds a x row y
