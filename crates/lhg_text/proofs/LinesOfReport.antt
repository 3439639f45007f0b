-- The lines of a report have the values that it was made of.
use Rattle.std.proofs.Common.{◌≡◌, ◌<◌, ◌≤◌, ℕ, List, [], ◌∷◌, ◌++◌, length, map, refl, sym, ap, ◌∙◌, subst, true, Some, codes, decimal, append-nil, lit≤}
use Rattle.std.proofs.lemmas.Fmt.{decimal_digit}
use Rattle.std.proofs.Math.IntN.{pos}
use Rattle.std.specs.Prelude.{slice_get}
use Rattle.std.specs.Option.{unwrap_or}
use Rattle.lhg_math.specs.Number.{whole}
use Rattle.lhg_math.specs.Tests.{AllOf}
use Rattle.lhg_lex.specs.Literal.{limit}
use Rattle.lhg_lex.specs.PlainToken.{PlainToken, word, number}
use Rattle.lhg_lex.specs.Word.{is_word}
use Rattle.lhg_row.specs.Piece.{PlainPiece}
use Rattle.lhg_plant.specs.Controller.{PlainController}
use Rattle.lhg_plant.specs.Loss.{PlainLoss, PlainCause, by_env, by_leave, by_flow}
use Rattle.lhg_plant.specs.Plant.{PlainPlant}
use Rattle.lhg_plant.specs.Proper.{IsProper}
use Rattle.lhg_read.specs.PlantSteps.{loc_names}
use Rattle.lhg_row_text.specs.PrintedLine.{spaced, location_name, switch_name}
use Rattle.lhg_row_text.specs.RowText.{rows_text}
use Rattle.lhg_row_text.proofs.LineItems.{AreItems, word_item, number_item, items_say}
use Rattle.lhg_row_text.proofs.LineText.{Says, says_end, says_token}
use Rattle.lhg_row_text.proofs.NamePlaces.{is_named, place_back}
use Rattle.lhg_row_text.proofs.NamedRows.{AreNames, word_says}
use Rattle.lhg_row_text.proofs.NumberTokens.{decimal_token}
use Rattle.lhg_ctl.specs.ControllerText.{piece_line, guard_line, draft_lines}
use Rattle.lhg_ctl.specs.Draft.{PlainDraft, draft_of}
use Rattle.lhg_ctl.proofs.PlacedRows.{IsPlacedOf}
use Rattle.lhg_text.proofs.RowsBack.{tokens_of_rows, rows_said, rows_again, rows_back}
use Rattle.lhg_ctl.proofs.SwitchPlaces.{switch_named, switch_back}
use Rattle.lhg_text.specs.ReportLaws.{PrintedCause, env, leave, flow, IsWrittenCause, IsWrittenLoss, printed_cause, printed_loss}
use Rattle.lhg_text.specs.ReportText.{cause_words, loss_line, report_lines}
use Rattle.lhg_text.proofs.LineValues.{ReportLine, rounds, piece, guard, loss, other, natural, place_said, loss_by, line_said, IsLineOf, AreLinesOf, lines-append, natural_back}

-- equal bytes say the same
says_as : {xs ys : List ℕ} {tokens : List PlainToken} → xs ≡ ys → Says xs tokens → Says ys tokens
says_as {xs} {ys} {tokens} e s = subst (λ bytes. Says bytes tokens) e s

-- a whole number at the end of a line
number_says : (n : ℕ) → n ≤ limit → Says (decimal n) (number (whole (pos n)) ∷ [])
number_says n h = says_as (append-nil (decimal n)) (says_token (decimal n) [] (number (whole (pos n))) (decimal_token n [] h refl) says_end)

-- a word and a whole number
word_number : (w : List ℕ) (n : ℕ) → is_word w ≡ true → n ≤ limit → Says (spaced (w ∷ decimal n ∷ [])) (word w ∷ number (whole (pos n)) ∷ [])
word_number w n h k = items_say (w ∷ []) (word w ∷ []) (decimal n) (number (whole (pos n)) ∷ []) (word_item w h, tt) (number_says n k)

-- a word and the number 1
pub word_one : (w : List ℕ) → is_word w ≡ true → Says (spaced (w ∷ codes "1" ∷ [])) (word w ∷ number (whole (pos 1)) ∷ [])
word_one w h = says_as (ap (λ d. spaced (w ∷ d ∷ [])) (decimal_digit 1 (lit≤ tt))) (word_number w 1 h (lit≤ tt))

-- the values of the lines of a controller
abbrev pub draft_values : PlainDraft → List ReportLine
draft_values d = other ∷ (map (λ p. piece p) d.pieces ++ (map (λ g. guard g) d.guards ++ other ∷ []))

-- the values of the lines of a report
abbrev pub values_of : ℕ → PlainDraft → List PlainLoss → List ReportLine
values_of n d losses = other ∷ rounds n ∷ (draft_values d ++ (map (λ l. loss (printed_loss l)) losses ++ other ∷ []))

module _ (a : PlainPlant) (proper : IsProper a) where
  names : AreNames a.vars
  names = record { names = proper.vars; differ = proper.vars_differ }

  -- ---- lines of one value alone

  report_head : IsLineOf a (codes "report 1") other
  report_head = record { tokens = word (codes "report") ∷ number (whole (pos 1)) ∷ []; says = word_one (codes "report") refl; value_is = refl }

  controller_head : IsLineOf a (codes "controller 1") other
  controller_head = record { tokens = word (codes "controller") ∷ number (whole (pos 1)) ∷ []; says = word_one (codes "controller") refl; value_is = refl }

  pub end_line : IsLineOf a (codes "end") other
  end_line = record { tokens = word (codes "end") ∷ []; says = word_says (codes "end") refl; value_is = refl }

  pub rounds_line : (n : ℕ) → n ≤ limit → IsLineOf a (spaced (codes "rounds" ∷ decimal n ∷ [])) (rounds n)
  rounds_line n h = record { tokens = word (codes "rounds") ∷ number (whole (pos n)) ∷ []; says = word_number (codes "rounds") n refl h; value_is = ap (λ k. rounds k) (natural_back n) }

  -- ---- pieces and guards

  piece_is : (p : ℕ × PlainPiece) → IsPlacedOf (length a.vars) (length a.locs) p → IsLineOf a (piece_line a p) (piece p)
  piece_is p h =
      let name = location_name (slice_get a.locs p.0) in
      let named = is_named (length a.vars) a.locs p.0 h.place proper.locs in
      let back = place_back a.locs p.0 h.place proper.locs_differ in
      let rows = rows_again a.vars p.1 names h.rows in
      record {
        tokens = word (codes "piece") ∷ word name ∷ tokens_of_rows a.vars p.1;
        says = items_say (codes "piece" ∷ name ∷ []) (word (codes "piece") ∷ word name ∷ []) (rows_text a.vars p.1) (tokens_of_rows a.vars p.1)
            (word_item (codes "piece") refl, (word_item name named.word, tt)) (rows_said a.vars p.1 names h.rows);
        value_is = ap (λ o. piece (unwrap_or o 0, rows_back a.vars (tokens_of_rows a.vars p.1))) back ∙ ap (λ rs. piece (p.0, rs)) rows;
      }

  guard_is : (g : ℕ × PlainPiece) → IsPlacedOf (length a.vars) (length a.switches) g → IsLineOf a (guard_line a g) (guard g)
  guard_is g h =
      let name = switch_name (slice_get a.switches g.0) in
      let named = switch_named (length a.vars) (length a.locs) a.switches g.0 h.place proper.switches in
      let back = switch_back a.switches g.0 h.place proper.switches_differ in
      let rows = rows_again a.vars g.1 names h.rows in
      record {
        tokens = word (codes "guard") ∷ word name ∷ tokens_of_rows a.vars g.1;
        says = items_say (codes "guard" ∷ name ∷ []) (word (codes "guard") ∷ word name ∷ []) (rows_text a.vars g.1) (tokens_of_rows a.vars g.1)
            (word_item (codes "guard") refl, (word_item name named.word, tt)) (rows_said a.vars g.1 names h.rows);
        value_is = ap (λ o. guard (unwrap_or o 0, rows_back a.vars (tokens_of_rows a.vars g.1))) back ∙ ap (λ rs. guard (g.0, rs)) rows;
      }

  pub pieces_are : (ps : List (ℕ × PlainPiece)) → AllOf (IsPlacedOf (length a.vars) (length a.locs)) ps → AreLinesOf a (map (piece_line a) ps) (map (λ p. piece p) ps)
  pieces_are [] h = tt
  pieces_are (p ∷ ps) h = (piece_is p h.0, pieces_are ps h.1)

  guards_are : (gs : List (ℕ × PlainPiece)) → AllOf (IsPlacedOf (length a.vars) (length a.switches)) gs → AreLinesOf a (map (guard_line a) gs) (map (λ g. guard g) gs)
  guards_are [] h = tt
  guards_are (g ∷ gs) h = (guard_is g h.0, guards_are gs h.1)

  -- ---- records

  -- the tokens of a cause
  cause_tokens : PlainCause → List PlainToken
  cause_tokens (by_env e into) = word (codes "env") ∷ word (switch_name (slice_get a.switches e)) ∷ []
  cause_tokens (by_leave through into) = word (codes "leave") ∷ []
  cause_tokens (by_flow m through) = word (codes "flow") ∷ number (whole (pos m)) ∷ []

  cause_items : (cause : PlainCause) → IsWrittenCause a cause → AreItems (cause_words a cause) (cause_tokens cause)
  unfolding cause_tokens
  cause_items (by_env e into) h = (word_item (codes "env") refl, (word_item _ (switch_named (length a.vars) (length a.locs) a.switches e h proper.switches).word, tt))
  cause_items (by_leave through into) h = (word_item (codes "leave") refl, tt)
  cause_items (by_flow m through) h = (word_item (codes "flow") refl, (number_item m h, tt))

  -- the tokens of a record in front of its cause
  loss_tokens : PlainLoss → List PlainToken → List PlainToken
  loss_tokens l more = word (codes "loss") ∷ number (whole (pos l.number)) ∷ word (codes "round") ∷ number (whole (pos l.round)) ∷ word (location_name (slice_get a.locs l.loc)) ∷ more

  loss_items : (l : PlainLoss) → IsWrittenLoss a l
      → AreItems (codes "loss" ∷ decimal l.number ∷ codes "round" ∷ decimal l.round ∷ location_name (slice_get a.locs l.loc) ∷ cause_words a l.cause) (loss_tokens l (cause_tokens l.cause))
  unfolding loss_tokens
  loss_items l h =
      let named = is_named (length a.vars) a.locs l.loc h.loc proper.locs in
      (word_item (codes "loss") refl, (number_item l.number h.number, (word_item (codes "round") refl, (number_item l.round h.round, (word_item _ named.word, cause_items l.cause h.cause)))))

  -- a record whose parts are found again
  record_back : (l : PlainLoss) → IsWrittenLoss a l → (cause : PrintedCause × List PlainToken) → cause ≡ (printed_cause l.cause, tokens_of_rows a.vars l.piece)
      → loss_by a (natural (number (whole (pos l.number)))) (natural (number (whole (pos l.round)))) (place_said (loc_names a.locs) (word (location_name (slice_get a.locs l.loc)))) cause ≡ loss (printed_loss l)
  record_back l h cause e =
      let n = natural_back l.number in
      let i = natural_back l.round in
      let back = place_back a.locs l.loc h.loc proper.locs_differ in
      let rows = rows_again a.vars l.piece names h.rows in
      ap (λ k. loss_by a k (natural (number (whole (pos l.round)))) (place_said (loc_names a.locs) (word (location_name (slice_get a.locs l.loc)))) cause) n
      ∙ ap (λ k. loss_by a l.number k (place_said (loc_names a.locs) (word (location_name (slice_get a.locs l.loc)))) cause) i
      ∙ ap (λ o. loss_by a l.number l.round (unwrap_or o 0) cause) back
      ∙ ap (loss_by a l.number l.round l.loc) e
      ∙ ap (λ rs. loss (record { number = l.number; round = l.round; loc = l.loc; cause = printed_cause l.cause; rows = rs })) rows

  -- and so is its cause
  loss_by_cause : (l : PlainLoss) → IsWrittenLoss a l → (cause : PlainCause) → l.cause ≡ cause → IsWrittenCause a cause → line_said a (loss_tokens l (cause_tokens cause) ++ tokens_of_rows a.vars l.piece) ≡ loss (printed_loss l)
  unfolding cause_tokens loss_tokens
  loss_by_cause l h (by_env e into) is k =
      record_back l h _ (ap (λ o. (env (unwrap_or o 0), tokens_of_rows a.vars l.piece)) (switch_back a.switches e k proper.switches_differ) ∙ ap (λ c. (printed_cause c, tokens_of_rows a.vars l.piece)) (sym is))
  loss_by_cause l h (by_leave through into) is k = record_back l h _ (ap (λ c. (printed_cause c, tokens_of_rows a.vars l.piece)) (sym is))
  loss_by_cause l h (by_flow m through) is k =
      record_back l h _ (ap (λ n. (flow n, tokens_of_rows a.vars l.piece)) (natural_back m) ∙ ap (λ c. (printed_cause c, tokens_of_rows a.vars l.piece)) (sym is))

  loss_is : (l : PlainLoss) → IsWrittenLoss a l → IsLineOf a (loss_line a l) (loss (printed_loss l))
  loss_is l h = record {
    tokens = loss_tokens l (cause_tokens l.cause) ++ tokens_of_rows a.vars l.piece;
    says = items_say (codes "loss" ∷ decimal l.number ∷ codes "round" ∷ decimal l.round ∷ location_name (slice_get a.locs l.loc) ∷ cause_words a l.cause) (loss_tokens l (cause_tokens l.cause))
        (rows_text a.vars l.piece) (tokens_of_rows a.vars l.piece) (loss_items l h) (rows_said a.vars l.piece names h.rows);
    value_is = loss_by_cause l h l.cause refl h.cause;
  }

  losses_are : (ls : List PlainLoss) → AllOf (IsWrittenLoss a) ls → AreLinesOf a (map (loss_line a) ls) (map (λ l. loss (printed_loss l)) ls)
  losses_are [] h = tt
  losses_are (l ∷ ls) h = (loss_is l h.0, losses_are ls h.1)

  -- ---- all lines

  draft_are : (d : PlainDraft) → AllOf (IsPlacedOf (length a.vars) (length a.locs)) d.pieces → AllOf (IsPlacedOf (length a.vars) (length a.switches)) d.guards
      → AreLinesOf a (draft_lines a d) (draft_values d)
  draft_are d h k = (
    controller_head,
    lines-append a (map (piece_line a) d.pieces) (map (λ p. piece p) d.pieces) (map (guard_line a) d.guards ++ codes "end" ∷ []) (map (λ g. guard g) d.guards ++ other ∷ []) (pieces_are d.pieces h)
        (lines-append a (map (guard_line a) d.guards) (map (λ g. guard g) d.guards) (codes "end" ∷ []) (other ∷ []) (guards_are d.guards k) (end_line, tt)),
  )

  -- the lines of a report have these values
  pub report_are : (n : ℕ) (c : PlainController) (losses : List PlainLoss) → n ≤ limit
      → AllOf (IsPlacedOf (length a.vars) (length a.locs)) (draft_of c).pieces → AllOf (IsPlacedOf (length a.vars) (length a.switches)) (draft_of c).guards → AllOf (IsWrittenLoss a) losses
      → AreLinesOf a (report_lines a n c losses) (values_of n (draft_of c) losses)
  report_are n c losses few h k l = (
    report_head,
    (
      rounds_line n few,
      lines-append a (draft_lines a (draft_of c)) (draft_values (draft_of c)) (map (loss_line a) losses ++ codes "end" ∷ []) (map (λ l. loss (printed_loss l)) losses ++ other ∷ []) (draft_are (draft_of c) h k)
          (lines-append a (map (loss_line a) losses) (map (λ l. loss (printed_loss l)) losses) (codes "end" ∷ []) (other ∷ []) (losses_are losses l) (end_line, tt)),
    ),
  )
