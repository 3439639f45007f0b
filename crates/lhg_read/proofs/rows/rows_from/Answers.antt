use Rattle.std.proofs.Common.{◌∙◌, sym, ap, Some}
use Rattle.lhg_read.specs.Rows.{rows_of}
use Rattle.lhg_read.proofs.rows.rows_from.Goals as goal

pub returns-then-is_one_word : goal.returns-then-is_one_word
unfolding rows_of
returns-then-is_one_word c = rw (sym c.is_one_word.ensures ∙ c.if-is_one_word.true) (ap (λ rows. Some rows) (sym c.new.ensures.items))

pub returns-then-is_still : goal.returns-then-is_still
unfolding rows_of
returns-then-is_still c =
    rw (sym c.is_one_word.ensures ∙ c.if-is_one_word.false, sym c.is_still.ensures ∙ c.if-is_still.true) (ap (λ rows. Some rows) (sym c.in_ok-still_rows.ensures))

pub returns : goal.returns
unfolding rows_of
returns c = rw (sym c.is_one_word.ensures ∙ c.if-is_one_word.false, sym c.is_still.ensures ∙ c.if-is_still.false) c.read_list.ensures
