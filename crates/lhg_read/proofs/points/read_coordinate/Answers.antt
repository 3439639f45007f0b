use Rattle.std.proofs.Common.{◌∙◌, sym, ap}
use Rattle.lhg_lex.specs.TextTokens.{plain_of}
use Rattle.lhg_read.specs.Signs.{is_word}
use Rattle.lhg_read.proofs.PointSteps.{coordinate_by}
use Rattle.lhg_read.proofs.points.read_coordinate.Goals as goal

pub returns-in-len2-up : goal.returns-in-len2-up
returns-in-len2-up c =
    c.signed_number.ensures
    ∙ sym (coordinate_by c.args.name.now c.args.lines.now.bytes c.args.tokens.now c.first-item.result c.second-item.result c.in-len2-up.len_at_least c.first-item.is c.second-item.is
    (ap (λ w. is_word w (plain_of c.args.lines.now.bytes c.first-item.result)) (sym c.bytes.ensures.same) ∙ sym c.is_word.ensures ∙ c.if-is_word.true) (sym c.is_equals.ensures ∙ c.if-is_equals.true))
