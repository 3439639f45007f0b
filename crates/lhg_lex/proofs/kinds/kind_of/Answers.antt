use Rattle.std.proofs.Common.{ap, sym, ◌∙◌}
use Rattle.lhg_lex.specs.TextTokens.{kind_said}
use Rattle.lhg_lex.proofs.TokenStarts.{word_said, number_is_said, signs_are_said, some_from_not_empty}
use Rattle.lhg_lex.proofs.kinds.kind_of.Goals as goal

pub signs-requires : goal.signs-requires
signs-requires c =
    let some = some_from_not_empty c.args.token.now c.is_empty.result c.is_empty.ensures c.if-is_empty.false in
    (signs_are_said c.args.token.now some (c.requires some) (sym c.begins_word.ensures ∙ c.if-begins_word.false) (sym c.is_digit.ensures ∙ c.if-is_digit.false)).0

pub returns-then-begins_word : goal.returns-then-begins_word
returns-then-begins_word c =
    let some = some_from_not_empty c.args.token.now c.is_empty.result c.is_empty.ensures c.if-is_empty.false in
    ap kind_said (sym (word_said c.args.token.now some (c.requires some) (sym c.begins_word.ensures ∙ c.if-begins_word.true)))

pub returns-then-is_digit : goal.returns-then-is_digit
returns-then-is_digit c =
    let some = some_from_not_empty c.args.token.now c.is_empty.result c.is_empty.ensures c.if-is_empty.false in
    c.number.ensures ∙ ap kind_said (sym (number_is_said c.args.token.now some (c.requires some) (sym c.is_digit.ensures ∙ c.if-is_digit.true)).1)

pub number-requires : goal.number-requires
number-requires c =
    let some = some_from_not_empty c.args.token.now c.is_empty.result c.is_empty.ensures c.if-is_empty.false in
    (number_is_said c.args.token.now some (c.requires some) (sym c.is_digit.ensures ∙ c.if-is_digit.true)).0

pub returns-else-is_digit : goal.returns-else-is_digit
returns-else-is_digit c =
    let some = some_from_not_empty c.args.token.now c.is_empty.result c.is_empty.ensures c.if-is_empty.false in
    c.signs.ensures ∙ ap kind_said (sym (signs_are_said c.args.token.now some (c.requires some) (sym c.begins_word.ensures ∙ c.if-begins_word.false) (sym c.is_digit.ensures ∙ c.if-is_digit.false)).1)
