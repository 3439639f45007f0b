-- The text of a report, part by part.
use Rattle.std.proofs.Common.{◌≡◌, ◌++◌, ◌∷◌, [], ℕ, List, map, sym, ap, ◌∙◌, append-nil, append_assoc, codes, decimal, Result, Ok, Err, OnOk}
use Rattle.std.specs.Prelude.{slice_get}
use Rattle.std.specs.List.{flat_map}
use Rattle.std.proofs.lemmas.Grind.{flat_map-append}
use Rattle.lhg_plant.specs.Controller.{PlainController}
use Rattle.lhg_plant.specs.Loss.{PlainLoss}
use Rattle.lhg_plant.specs.Plant.{PlainPlant}
use Rattle.lhg_row_text.specs.PrintedLine.{line, location_name}
use Rattle.lhg_row_text.specs.RowText.{rows_text}
use Rattle.lhg_ctl.specs.ControllerText.{controller_lines, controller_text}
use Rattle.lhg_text.specs.ReportText.{cause_words, loss_line, report_text}
use Rattle.lhg_text.proofs.SpacedWords.{spaced-flat}

-- the words of a record behind the first, up to its location
abbrev pub head_words : PlainPlant → PlainLoss → List (List ℕ)
head_words a loss = decimal loss.number ∷ codes "round" ∷ decimal loss.round ∷ location_name (slice_get a.locs loss.loc) ∷ []

-- the line of a record: its head, its cause and its rows
pub loss_parts : (a : PlainPlant) (loss : PlainLoss) → loss_line a loss ≡ (codes "loss" ++ flat_map (λ w. 32 ∷ w) (head_words a loss)) ++ (flat_map (λ w. 32 ∷ w) (cause_words a loss.cause) ++ 32 ∷ rows_text a.vars loss.piece)
loss_parts a loss =
    let behind = λ (w : List ℕ). 32 ∷ w in
    let head = head_words a loss in
    let cause = cause_words a loss.cause in
    let rows = rows_text a.vars loss.piece in
    spaced-flat (codes "loss") (head ++ (cause ++ rows ∷ []))
    ∙ ap (λ t. codes "loss" ++ t) (flat_map-append behind head (cause ++ rows ∷ []) ∙ ap (λ t. flat_map behind head ++ t) (flat_map-append behind cause (rows ∷ []) ∙ ap (λ t. flat_map behind cause ++ 32 ∷ t) (append-nil rows)))
    ∙ sym (append_assoc (codes "loss") (flat_map behind head) (flat_map behind cause ++ 32 ∷ rows))

-- the text of a report: its head, the controller, the records and the end
pub report_parts : (a : PlainPlant) (rounds : ℕ) (c : PlainController) (losses : List PlainLoss)
    → report_text a rounds c losses ≡ line (codes "report 1") ++ (line (codes "rounds" ++ 32 ∷ decimal rounds) ++ (controller_text a c ++ (flat_map line (map (loss_line a) losses) ++ line (codes "end"))))
report_parts a rounds c losses =
    let records = map (loss_line a) losses in
    ap (λ t. line (codes "report 1") ++ (line (codes "rounds" ++ 32 ∷ decimal rounds) ++ t))
    (flat_map-append line (controller_lines a c) (records ++ codes "end" ∷ []) ∙ ap (λ t. controller_text a c ++ t) (flat_map-append line records (codes "end" ∷ [])))

-- what holds, holds where the call succeeds
pub on_ok_always : {T E P : Type 0} (r : Result T E) → P → OnOk r P
on_ok_always (Ok x) p = p
on_ok_always (Err x) p = tt

-- a text that grows five times, the last time where there is memory
pub appended_five : {T E : Type 0} (r : Result T E) (t0 t1 t2 t3 t4 t5 a b c d e f : List ℕ) → t1 ≡ t0 ++ a → t2 ≡ t1 ++ b → t3 ≡ t2 ++ c → t4 ≡ t3 ++ d → OnOk r (t5 ≡ t4 ++ e) → e ≡ f → OnOk r (t5 ≡ t0 ++ (a ++ (b ++ (c ++ (d ++ (f ++ []))))))
appended_five (Ok x) t0 t1 t2 t3 t4 t5 a b c d e f h1 h2 h3 h4 h5 g =
    h5 ∙ ap (λ w. w ++ e) (h4 ∙ ap (λ w. w ++ d) (h3 ∙ ap (λ w. w ++ c) (h2 ∙ ap (λ w. w ++ b) h1)))
    ∙ append_assoc (((t0 ++ a) ++ b) ++ c) d e ∙ append_assoc ((t0 ++ a) ++ b) c (d ++ e) ∙ append_assoc (t0 ++ a) b (c ++ (d ++ e)) ∙ append_assoc t0 a (b ++ (c ++ (d ++ e)))
    ∙ ap (λ w. t0 ++ (a ++ (b ++ (c ++ (d ++ w))))) (g ∙ sym (append-nil f))
appended_five (Err x) t0 t1 t2 t3 t4 t5 a b c d e f h1 h2 h3 h4 h5 g = tt
