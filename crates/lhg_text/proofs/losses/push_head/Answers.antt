use Rattle.std.proofs.Common.{◌∷◌, ap, sym, ◌∙◌, codes, decimal}
use Rattle.lhg_row_text.proofs.HeldNames.{location_at}
use Rattle.lhg_text.proofs.ReportTexts.{appended_five}
use Rattle.lhg_text.proofs.losses.push_head.Goals as goal

pub returns-clause-text : goal.returns-clause-text
returns-clause-text c =
    let name = location_at c.args.plant.now.locs.items c.args.loss.now.loc c.index.result.now c.requires c.index.ensures in
    appended_five c.push_word-2.result c.args.text.now.items c.extend_from_slice.new.self.items c.push_whole.new.text.items c.push_word.new.text.items c.push_whole-2.new.text.items c.push_word-2.new.text.items
    (codes "loss") (32 ∷ decimal c.args.loss.now.number) (32 ∷ codes "round") (32 ∷ decimal c.args.loss.now.round) (32 ∷ c.bytes.result.now) _
    c.in_ok-extend_from_slice.ensures.items c.in_ok-push_whole.ensures.text c.in_ok-push_word.ensures c.in_ok-push_whole-2.ensures.text c.push_word-2.ensures (ap (λ w. 32 ∷ w) (c.bytes.ensures.same ∙ sym name))
