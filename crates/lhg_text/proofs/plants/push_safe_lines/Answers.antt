use Rattle.std.proofs.Common.{length, sym, subst}
use Rattle.lhg_row.specs.Width.{AllWide}
use Rattle.lhg_math.specs.ListFacts.{all_map_at}
use Rattle.lhg_text.proofs.plants.push_safe_lines.Goals as goal

pub push_rows_line-requires : goal.push_rows_line-requires
push_rows_line-requires c =
    subst (AllWide (length c.args.vars.now)) (sym c.deref.ensures.value)
    (all_map_at (AllWide (length c.args.vars.now)) (λ rows. rows.items) c.args.safe.now c.loop-i.i c.index-safe-i.result c.requires c.loop-i-test.true c.index-safe-i.is)
