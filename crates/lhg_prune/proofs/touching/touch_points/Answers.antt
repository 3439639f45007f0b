use Rattle.std.proofs.Common.{sym, ◌∙◌, subst}
use Rattle.lhg_row.specs.Row.{relaxed}
use Rattle.lhg_row.specs.Width.{AllWide}
use Rattle.lhg_row.specs.MappedLaws.{mapped-wide}
use Rattle.lhg_prune.proofs.touching.touch_points.Goals as goal

pub with_rooms-requires-clause-weak : goal.with_rooms-requires-clause-weak
with_rooms-requires-clause-weak c =
    let n = c.args.vars in
    subst (AllWide n) (sym (c.deref.ensures.value ∙ c.in_ok-weak.ensures)) (mapped-wide n n relaxed (λ r e. e) c.args.rows.now c.requires.rows)

pub push_point-requires-clause-weak : goal.push_point-requires-clause-weak
push_point-requires-clause-weak c =
    let n = c.args.vars in
    subst (AllWide n) (sym (c.deref-in-loop-i.ensures.value ∙ c.in_ok-weak.ensures)) (mapped-wide n n relaxed (λ r e. e) c.args.rows.now c.requires.rows)
