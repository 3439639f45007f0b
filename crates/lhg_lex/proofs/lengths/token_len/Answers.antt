use Rattle.std.proofs.Common.{length, sym, ◌∙◌, eq-eqb}
use Rattle.lhg_lex.proofs.LongestLemmas.{word_longest}
use Rattle.lhg_lex.proofs.lengths.token_len.Goals as goal

pub returns-then-begins_word : goal.returns-then-begins_word
returns-then-begins_word c =
    word_longest c.args.text.now c.word_len.result
    (λ e. let t = eq-eqb (length c.args.text.now) 0 e in let f = c.is_empty.ensures in let g = c.if-is_empty.false in cc)
    (sym c.begins_word.ensures ∙ c.if-begins_word.true) c.word_len.ensures
