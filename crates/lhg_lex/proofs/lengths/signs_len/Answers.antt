use Rattle.std.proofs.Common.{sym, ◌∙◌, inl, inr}
use Rattle.lhg_lex.proofs.LongestLemmas.{pair_longest, sign_longest, none_longest}
use Rattle.lhg_lex.proofs.lengths.signs_len.Goals as goal
use Rattle.lhg_lex.proofs.lengths.signs_len.Goals.{else-text-gt1-via-then-text-gt1+else-is_pair, else-text-gt1-via-else-text-gt1}

pub returns-then-is_pair : goal.returns-then-is_pair
returns-then-is_pair c = pair_longest c.args.text.now c.if-text-gt1.true c.requires.no_letter c.requires.no_digit (sym c.is_pair.ensures ∙ c.if-is_pair.true)

pub returns-then-is_sign_byte : goal.returns-then-is_sign_byte
returns-then-is_sign_byte c =
    sign_longest c.args.text.now c.requires.some c.requires.no_letter c.requires.no_digit (elim c.else-text-gt1.branch [
      | else-text-gt1-via-then-text-gt1+else-is_pair w ↦ inr (sym w.is_pair.ensures ∙ w.if-is_pair.false)
      | else-text-gt1-via-else-text-gt1 w ↦ inl w.if-text-gt1.false
    ])
    (sym c.is_sign_byte.ensures ∙ c.if-is_sign_byte.true)

pub returns-else-is_sign_byte : goal.returns-else-is_sign_byte
returns-else-is_sign_byte c =
    none_longest c.args.text.now c.requires.some c.requires.no_letter c.requires.no_digit (sym c.is_sign_byte.ensures ∙ c.if-is_sign_byte.false)
