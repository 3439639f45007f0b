-- The text of a draft is a controller of the grammar, whose value is the draft.
use Rattle.std.proofs.Common.{◌≡◌, ◌≤◌, ◌+◌, ◌-◌, ◌*◌, ℕ, List, [], ◌∷◌, ◌++◌, length, map, refl, sym, ap, ◌∙◌, subst, false, cond, ◌&&◌, not, ◌==◌, Some, None, Ok, arith, le-leb, codes, decimal, append-nil}
use Rattle.std.specs.Prelude.{ℤ, pos, nat_lt}
use Rattle.std.proofs.lemmas.Bool.Decides.{nat_tests}
use Rattle.std.specs.Int.RustNames.{unsigned_abs}
use Rattle.std.specs.Option.{option_and_then, option_map}
use Rattle.lhg_math.specs.Inverses.{whole_parts}
use Rattle.lhg_math.specs.Number.{whole, lt, nought}
use Rattle.lhg_math.specs.Tests.{AllOf}
use Rattle.lhg_row.specs.Piece.{PlainPiece}
use Rattle.lhg_lex.specs.Lines.{lines_of}
use Rattle.lhg_lex.specs.LineTokens.{Spot, taken, tokens_from, tokens_of}
use Rattle.lhg_lex.specs.PlainToken.{PlainToken, word, number}
use Rattle.lhg_lex.specs.Token.{said}
use Rattle.lhg_lex.proofs.LongestLemmas.{longest_is}
use Rattle.lhg_lex.proofs.Scanning.{step_over, one_taken}
use Rattle.lhg_lex.proofs.TokenStarts.{nothing_said}
use Rattle.lhg_lex.proofs.ReadingAnswers.{token_begins}
use Rattle.std.proofs.Math.Seq.{take-append_seam, drop-append_seam}
use Rattle.lhg_plant.specs.Plant.{PlainPlant}
use Rattle.lhg_plant.specs.Proper.{IsProper}
use Rattle.lhg_plant.specs.Word.{IsName}
use Rattle.lhg_read.specs.Options.{joined}
use Rattle.lhg_read.specs.TokenText.{token_line, token_lines}
use Rattle.lhg_read.proofs.Collecting.{same_eq}
use Rattle.lhg_row_text.specs.Short.{AllShort}
use Rattle.lhg_row_text.proofs.LineText.{Says, IsToken, line_says}
use Rattle.lhg_row_text.proofs.LinesBack.{IsInner, lines_back}
use Rattle.lhg_row_text.proofs.NumberTokens.{decimal_token}
use Rattle.lhg_row_text.proofs.TokenKinds.{word_token}
use Rattle.lhg_ctl.specs.ControllerGrammar.{IsControllerText}
use Rattle.lhg_ctl.specs.ControllerLine.{ControllerLine, rounds, most_rounds, controller_line}
use Rattle.lhg_ctl.specs.ControllerText.{piece_line, named_guard_lines, rounds_text, second_lines, second_text}
use Rattle.lhg_ctl.specs.Draft.{PlainDraft}
use Rattle.lhg_ctl.specs.DraftStates.{IsPlaced, IsGiven, IsGivenDraft}
use Rattle.lhg_read.specs.Numbered.{natural_in, in_digits}
use Rattle.lhg_ctl.specs.declared.versions.Version.TheVariants.{Second}
use Rattle.lhg_ctl.proofs.ControllerRuns.{line_in}
use Rattle.lhg_ctl.proofs.HeadLine.{second_line, second_tokens, second_some, second_is}
use Rattle.lhg_ctl.proofs.LinesRead.{lines_read}
use Rattle.lhg_ctl.proofs.PlacedRows.{IsPlacedOf}
use Rattle.lhg_ctl.proofs.PrintedLines.{HasFewRows, second_are}

-- ---- the number of rounds

-- a token in front of tokens that are known
token_read : (bytes rest : List ℕ) (token : PlainToken) (at : ℕ) (spots : List Spot) → IsToken bytes token rest → tokens_from 0 (at + length bytes) rest ≡ Ok spots
    → tokens_from 0 at (bytes ++ rest) ≡ Ok (record { says = token; from = at; to = at + length bytes } ∷ spots)
token_read [] rest token at spots t h = absurd (nothing_said token t.says)
token_read (b ∷ bytes) rest token at spots t h =
    let n = length (b ∷ bytes) in
    one_taken at n b (bytes ++ rest) token (token_begins b bytes token t.says) (longest_is _ n t.longest) (ap said (take-append_seam (b ∷ bytes) rest) ∙ t.says)
    ∙ ap (taken at n (Ok token)) (ap (tokens_from 0 (at + n)) (drop-append_seam (b ∷ bytes) rest) ∙ h)

-- the tokens of the line `rounds R`, from a place on
abbrev rounds_spots : ℕ → ℕ → List Spot
rounds_spots n at = record { says = word (codes "rounds"); from = at; to = at + 6 } ∷ record { says = number (whole (pos n)); from = at + 6 + 1; to = at + 6 + 1 + length (decimal n) } ∷ []

-- it says them
rounds_say : (n : ℕ) → n ≤ most_rounds → Says (rounds_text n) (word (codes "rounds") ∷ number (whole (pos n)) ∷ [])
rounds_say n few =
    let first = word_token (codes "rounds") (32 ∷ decimal n) refl refl in
    let second = decimal_token n [] (omega arith) refl in
    let inner = second.inner in
    record {
      spots = rounds_spots n;
      read = λ at.
          token_read (codes "rounds") (32 ∷ decimal n) (word (codes "rounds")) at _ first
          (step_over (at + 6) 32 (decimal n) refl ∙ ap (tokens_from 0 (at + 6 + 1)) (sym (append-nil (decimal n))) ∙ token_read (decimal n) [] (number (whole (pos n))) (at + 6 + 1) [] second refl);
      says = λ at. refl;
      inner = inner;
    }

rounds_tokens : (n : ℕ) → n ≤ most_rounds → tokens_of (rounds_text n) ≡ Ok (rounds_spots n 0)
unfolding rounds_say
rounds_tokens n few = line_says (rounds_say n few)

not_below : (n : ℕ) → lt (whole (pos n)) nought ≡ false
unfolding lt nought
not_below n = rw ((whole_parts (pos n)).0, (whole_parts (pos n)).1, (whole_parts (pos 0)).0, (whole_parts (pos 0)).1) (above (n * 1))
  where
    above : (m : ℕ) → nat_lt m 0 ≡ false
    above m = grind (arith, nat_tests)

-- and they say the number
rounds_read : (a : PlainPlant) (n : ℕ) → n ≤ most_rounds → line_in Second a (rounds_spots n 0) ≡ Some (rounds n)
unfolding controller_line
rounds_read a n few =
    let top = (whole_parts (pos n)).0 in
    let bottom = (whole_parts (pos n)).1 in
    let up = not_below n in
    let natural : natural_in (number (whole (pos n))) ≡ Some n =
    ap (λ (m : ℕ). cond ((m == 1) && not (lt (whole (pos n)) nought)) (Some (unsigned_abs (whole (pos n)).top)) None) bottom
    ∙ ap (λ b. cond (not b) (Some (unsigned_abs (whole (pos n)).top)) None) up ∙ ap (λ (z : ℤ). Some (unsigned_abs z)) top in
    let size : 0 + 6 + 1 + length (decimal n) - (0 + 6 + 1) ≡ length (decimal n) = omega arith in
    let small = le-leb n most_rounds few in
    let same = same_eq (length (decimal n)) in
    let digits : in_digits most_rounds (0 + 6 + 1 + length (decimal n) - (0 + 6 + 1)) n ≡ Some n = rw (size, small, same) refl in
    ap (λ o. option_map (λ m. rounds m) (option_and_then (in_digits most_rounds (0 + 6 + 1 + length (decimal n) - (0 + 6 + 1))) o)) natural ∙ ap (option_map (λ m. rounds m)) digits

-- ---- the text

-- what lines give is written, where its numbers can be read
written : (n count : ℕ) (ps : List (ℕ × PlainPiece)) → AllOf (IsPlaced n count) ps → AllOf (λ p. IsGiven p.1) ps → AllOf (λ p. AllShort p.1) ps → AllOf (IsPlacedOf n count) ps
written n count [] h g s = tt
written n count (p ∷ ps) h g s = (record { place = h.0.place; rows = record { wide = h.0.wide; vary = g.0.vary; short = s.0 } }, written n count ps h.1 g.1 s.1)

few_rows : (ps : List (ℕ × PlainPiece)) → AllOf (λ p. IsGiven p.1) ps → AllOf HasFewRows ps
few_rows [] g = tt
few_rows (p ∷ ps) g = (g.0.few, few_rows ps g.1)

pub second_reads : (a : PlainPlant) (d : PlainDraft) → IsProper a → IsGivenDraft a d → AllOf IsName d.names → AllOf (λ p. AllShort p.1) d.pieces → AllOf (λ g. AllShort g.1) d.guards → IsControllerText a (lines_of (second_text a d)) d
second_reads a d proper h names short_ps short_gs =
    let rest = map (piece_line a) d.pieces ++ (named_guard_lines a d.names d.guards ++ codes "end" ∷ []) in
    let t = lines_read ControllerLine (controller_line Second a) rest _
    (second_are a proper d (written (length a.vars) (length a.locs) d.pieces h.draft.pieces h.piece_rows short_ps) (few_rows d.pieces h.piece_rows)
    (written (length a.vars) (length a.switches) d.guards h.draft.guards h.guard_rows short_gs) h.draft.ctl (few_rows d.guards h.guard_rows) names) in
    let says = rounds_say d.rounds h.few_rounds in
    let inner : AllOf IsInner (second_lines a d) = (record { inner = refl }, (record { inner = says.inner }, t.inner)) in
    subst (λ lines. IsControllerText a lines d) (sym (lines_back (second_lines a d) inner))
    (record {
      tokens = second_line ∷ rounds_spots d.rounds 0 ∷ t.tokens;
      are =
          ap (λ r. joined (token_line r) (token_lines (rounds_text d.rounds ∷ rest))) second_tokens
          ∙ ap (λ o. joined o (token_lines (rounds_text d.rounds ∷ rest))) second_some
          ∙ ap (λ o. joined (Some (second_line ∷ [])) (joined (token_line o) (token_lines rest))) (rounds_tokens d.rounds h.few_rounds)
          ∙ ap (λ o. joined (Some (second_line ∷ [])) (joined (Some (rounds_spots d.rounds 0 ∷ [])) o)) t.are;
      is = record {
        version = Second;
        head = second_line;
        rest = rounds_spots d.rounds 0 ∷ t.tokens;
        lines_are = refl;
        head_is = second_is;
        rest_are = ap (λ o. o ∷ map (line_in Second a) t.tokens) (rounds_read a d.rounds h.few_rounds) ∙ ap (λ os. Some (rounds d.rounds) ∷ os) t.say;
        few_pieces = h.few_pieces;
        few_guards = h.few_guards;
        names = (h.named, h.differ);
      };
    })
