use Rattle.std.proofs.Common.{◌≡◌, false, List, length, map, take, sym, ap, ◌∙◌, subst, rules}
use Rattle.lhg_math.specs.Tests.{AllOf}
use Rattle.lhg_row.specs.Members.{SomeOf}
use Rattle.lhg_row.specs.Piece.{PlainPiece}
use Rattle.lhg_row.specs.Row.{PlainRow, PlainPoint, holds_at}
use Rattle.lhg_prune.specs.Touch.{strictly}
use Rattle.lhg_prune.proofs.ListSteps.{strict-fit, tight-back}
use Rattle.lhg_prune.proofs.pruning.are_tight.Goals as goal

pub fail_somewhere-requires : goal.fail_somewhere-requires
fail_somewhere-requires g c =
    let k = c.args.keep in
    let rows = c.args.rows.now in
    let points = c.args.points.now in
    let same : c.in-Some.lines.items ≡ rows = search rules in
    let strict : c.deref-2.result.now ≡ map strictly rows = c.deref-2.ensures.value ∙ c.in_ok-strict.ensures ∙ ap (map strictly) (c.deref.ensures.value ∙ same) in
    let firsts : c.deref-3.result.now ≡ map (take k) points = c.deref-3.ensures.value ∙ c.in_ok-firsts.ensures in
    subst (λ (rs : PlainPiece). AllOf (λ (r : PlainRow). AllOf (λ (x : PlainPoint). length r.coefs ≡ length x) c.deref-3.result.now) rs) (sym strict)
    (subst (λ (xs : List PlainPoint). AllOf (λ (r : PlainRow). AllOf (λ (x : PlainPoint). length r.coefs ≡ length x) xs) (map strictly rows)) (sym firsts) (strict-fit k rows points c.requires.rows c.requires.points))

pub returns : goal.returns
returns g c = λ t.
    let k = c.args.keep in
    let rows = c.args.rows.now in
    let points = c.args.points.now in
    let same : c.in-Some.lines.items ≡ rows = search rules in
    let strict : c.deref-2.result.now ≡ map strictly rows = c.deref-2.ensures.value ∙ c.in_ok-strict.ensures ∙ ap (map strictly) (c.deref.ensures.value ∙ same) in
    let firsts : c.deref-3.result.now ≡ map (take k) points = c.deref-3.ensures.value ∙ c.in_ok-firsts.ensures in
    tight-back k rows points
    (subst (λ (xs : List PlainPoint). AllOf (λ (r : PlainRow). SomeOf (λ (x : PlainPoint). holds_at r x ≡ false) xs) (map strictly rows)) firsts
    (subst (λ (rs : PlainPiece). AllOf (λ (r : PlainRow). SomeOf (λ (x : PlainPoint). holds_at r x ≡ false) c.deref-3.result.now) rs) strict (c.in_ok-tight.ensures t)))
