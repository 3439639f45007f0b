use Rattle.std.proofs.Common.{length, take, drop, sym, ◌∙◌, arith, inl, inr, ◌+◌, ◌-◌, length-take, length-drop}
use Rattle.std.proofs.lemmas.List.Sums.{prefix_len-le-length}
use Rattle.lhg_lex.specs.Word.{is_digit}
use Rattle.lhg_lex.proofs.NumberLengths.{plain_longest, bare_longest, parted_longest}
use Rattle.lhg_lex.proofs.lengths.number_len.Goals as goal
use Rattle.lhg_lex.proofs.lengths.number_len.Goals.{then-whole-text-via-then-whole-text, then-whole-text-via-else-whole-text+then-not-is_mark}

pub bounds-text-whole : goal.bounds-text-whole
bounds-text-whole c = omega (arith, prefix_len-le-length is_digit c.args.text.now, c.digit_run-whole.ensures)

pub returns-then-whole-text : goal.returns-then-whole-text
returns-then-whole-text c =
    plain_longest c.args.text.now c.digit_run-whole.result c.digit_run-whole.ensures c.requires.some c.requires.digit (elim c.then-whole-text.branch [
      | then-whole-text-via-then-whole-text w ↦ inl w.if-whole-text.true
      | then-whole-text-via-else-whole-text+then-not-is_mark w ↦ inr (sym w.is_mark.ensures ∙ w.if-not-is_mark.true)
    ])

pub overflow_add-result-else-part-eq0 : goal.overflow_add-result-else-part-eq0
overflow_add-result-else-part-eq0 c =
    let t = c.args.text.now in
    let n = c.digit_run-whole.result in
    let p = prefix_len-le-length is_digit t in
    let q = prefix_len-le-length is_digit (take (length t - (n + 1)) (drop (n + 1) t)) in
    omega (arith, p, q, c.digit_run-whole.ensures, c.digit_run-part.ensures, length-take (length t - (n + 1)) (drop (n + 1) t), length-drop (n + 1) t)

pub returns-then-part-eq0 : goal.returns-then-part-eq0
returns-then-part-eq0 c =
    bare_longest c.args.text.now c.digit_run-whole.result c.digit_run-part.result c.digit_run-whole.ensures c.requires.some c.requires.digit c.digit_run-part.ensures c.if-part-eq0.true

pub returns-else-part-eq0 : goal.returns-else-part-eq0
returns-else-part-eq0 c =
    parted_longest c.args.text.now c.digit_run-whole.result c.digit_run-part.result c.digit_run-whole.ensures c.requires.some c.requires.digit
    (omega (arith, prefix_len-le-length is_digit c.args.text.now, c.digit_run-whole.ensures))
    (sym c.is_mark.ensures ∙ c.if-not-is_mark.false)
    c.digit_run-part.ensures (omega arith)
