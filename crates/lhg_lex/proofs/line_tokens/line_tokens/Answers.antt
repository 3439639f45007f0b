use Rattle.std.proofs.Common.{sym, ◌∙◌, refl}
use Rattle.lhg_lex.proofs.Scanning.{scan_separator, scan_token, scan_fault, token_slice}
use Rattle.lhg_lex.proofs.line_tokens.line_tokens.Goals as goal

pub loop-at-preserved-then-is_separator : goal.loop-at-preserved-then-is_separator
loop-at-preserved-then-is_separator c =
    scan_separator c.args.start c.args.line.now c.loop-at.tokens.items c.loop-at.at c.loop-at.invariant c.loop-at-test.true (sym c.is_separator.ensures ∙ c.if-is_separator.true)

pub kind_of-requires : goal.kind_of-requires
kind_of-requires c = token_slice c.args.line.now c.loop-at.at c.token_len-len.result c.token_len-len.ensures

pub loop-at-preserved : goal.loop-at-preserved
loop-at-preserved c =
    rw c.in_ok-push-in-Ok.ensures.items
    (scan_token c.args.start c.args.line.now c.loop-at.tokens.items c.loop-at.at c.token_len-len.result c.in-Ok.kind c.loop-at.invariant c.loop-at-test.true
    (sym c.is_separator.ensures ∙ c.if-is_separator.false) c.token_len-len.ensures c.in-Ok.ensures)

pub returns-in-Err-clause-err : goal.returns-in-Err-clause-err
returns-in-Err-clause-err c = (
  refl,
  scan_fault c.args.start c.args.line.now c.loop-at.tokens.items c.loop-at.at c.token_len-len.result c.in-Err.what c.loop-at.invariant c.loop-at-test.true
      (sym c.is_separator.ensures ∙ c.if-is_separator.false) c.token_len-len.ensures c.in-Err.ensures,
)
