use Rattle.std.proofs.Common.{◌≡◌, ℕ, [], ◌∷◌, ◌++◌, codes, ap, sym, ◌∙◌}
use Rattle.std.specs.Global.{Vec}
use Rattle.lhg_plant.specs.Views.{plain_plant, plain_state}
use Rattle.lhg_row_text.specs.PointText.{state_text}
use Rattle.lhg_row_text.specs.PrintedLine.{line}
use Rattle.lhg_row_text.proofs.HeldNames.{switch_at}
use Rattle.lhg_check.specs.Check.{bad_guard}
use Rattle.lhg_cli.specs.Verdict.{verdict_text}
use Rattle.lhg_cli.proofs.AnswerSteps.{ok_by}
use Rattle.lhg_cli.proofs.VerdictSteps.{put_together}
use Rattle.lhg_cli.proofs.judging.bad_guard.Goals as goal

pub returns : goal.returns
returns c =
    let a = plain_plant c.args.plant.now in
    let s = plain_state c.args.state.now in
    let name = c.bytes.ensures.same ∙ sym (switch_at c.args.plant.now.switches.items c.args.place c.index.result.now c.requires.place c.index.ensures) in
    let head = c.deref.ensures.value ∙ c.in_ok-extend_from_slice-2.ensures.items ∙ ap (λ t. t ++ 32 ∷ []) (c.in_ok-extend_from_slice.ensures.items ∙ ap (λ t. t ++ c.bytes.result.now) c.in_ok-words.ensures.items) in
    ok_by (λ (v : Vec ℕ). v.items ≡ line (c.deref.result.now ++ state_text a s)) (λ (v : Vec ℕ). v.items ≡ line (verdict_text a (bad_guard c.args.place s))) c.shown.result
    (λ v e. e ∙ ap (λ t. line (t ++ state_text a s)) head ∙ put_together (codes "bad guard ") c.bytes.result.now (state_text a s) ∙ ap (λ n. line (codes "bad guard " ++ (n ++ 32 ∷ state_text a s))) name)
    c.shown.ensures
