use Rattle.std.proofs.Common.{◌∙◌, sym, subst}
use Rattle.std.specs.List.{All}
use Rattle.std.proofs.lemmas.List.{take_rest}
use Rattle.std.proofs.lemmas.List.Elements.{All-drop}
use Rattle.lhg_lex.specs.TextTokens.{IsSpan}
use Rattle.lhg_plant.specs.Views.{plain_plant}
use Rattle.lhg_read.proofs.StateSteps.{too_short, other_word, after_word}
use Rattle.lhg_read.proofs.states.state_by.Goals as goal

pub returns-in_default : goal.returns-in_default
returns-in_default c = too_short c.args.word.now (plain_plant c.args.plant.now) c.args.lines.now.bytes c.args.tokens.now c.in_default.len_below

pub returns-then-not-is_word : goal.returns-then-not-is_word
returns-then-not-is_word c =
    other_word c.args.word.now (plain_plant c.args.plant.now) c.args.lines.now.bytes c.args.tokens.now c.first-item.result c.in-len2-up.len_at_least c.first-item.is
    (sym c.is_word.ensures ∙ c.if-not-is_word.true)

pub state_from-requires-clause-spans : goal.state_from-requires-clause-spans
state_from-requires-clause-spans c =
    let text = c.args.lines.now.bytes in
    subst (λ tokens. All (IsSpan text) tokens) (sym (take_rest c.args.tokens.now 2)) (All-drop (IsSpan text) 2 c.args.tokens.now c.requires.spans)

pub returns : goal.returns
returns c =
    rw (after_word c.args.word.now (plain_plant c.args.plant.now) c.args.lines.now.bytes c.args.tokens.now c.first-item.result c.name-item.result c.in-len2-up.len_at_least c.first-item.is c.name-item.is
    (sym c.is_word.ensures ∙ c.if-not-is_word.false)) c.state_from.ensures
