use Rattle.std.proofs.Common.{◌+◌, ◌-◌, ◌≡◌, ◌∙◌, sym, ap, length, arith, vec_len}
use Rattle.lhg_read.proofs.DraftSteps.{safe_last}
use Rattle.lhg_read.proofs.draft.safe_lines.Goals as goal

pub returns : goal.returns
returns c =
    let last : length c.args.locs.now - 1 + 1 ≡ length c.args.locs.now = omega (arith, c.if-n-eq0.false) in
    c.len.ensures ∙ ap (λ l. vec_len l.safe) (sym c.index-locs-n.is) ∙ c.index-locs-n.result.safe.ok.0
    ∙ safe_last c.args.locs.now (length c.args.locs.now - 1) c.index-locs-n.result last c.index-locs-n.is
