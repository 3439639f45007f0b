-- Moves are read: the lines, one after another, and the end.
use Rattle.std.proofs.Common.{◌≡◌, List, [], ◌∷◌, map, refl, sym, ap, ◌∙◌, true, false, Some, Ok, codes}
use Rattle.std.specs.Option.{option_map}
use Rattle.lhg_lex.specs.TextTokens.{plain_of}
use Rattle.lhg_lex.specs.Reading.{Reading, IsTokenLine}
use Rattle.lhg_lex.specs.declared.stops.ReadStop.{ReadStop}
use Rattle.lhg_lex.specs.declared.tokens.Line.{Line}
use Rattle.lhg_lex.specs.declared.tokens.Token.{Token}
use Rattle.lhg_plant.specs.Plant.{PlainPlant}
use Rattle.lhg_read.specs.Listed.{end, OpenList, with_line, list_taken}
use Rattle.lhg_read.specs.ListedLaws as list
use Rattle.lhg_read.specs.Machine.{IsMachine}
use Rattle.lhg_read.specs.Numbered.{sizes_in, sizes_of}
use Rattle.lhg_read.specs.ReadsLaws.{said_after}
use Rattle.lhg_read.specs.Refusals.{stop_at, IsRefused}
use Rattle.lhg_read.specs.TextLaws.{HasOneReading, HasBlankEnd}
use Rattle.lhg_read.specs.TokenText.{token_line, ReadsText, HasCause, IsNoLine}
use Rattle.lhg_read.specs.declared.refusal.Refusal.{Refusal}
use Rattle.lhg_read.proofs.EndLine.{end_line, end_tokens}
use Rattle.lhg_read.proofs.LineSizes.{sizes_are}
use Rattle.lhg_read.proofs.TextEnds.{one_reading, blank_end}
use Rattle.lhg_spoil.specs.Moves.{PlainCtlMove}
use Rattle.lhg_spoil.specs.MovesText.{move_line, move_in, IsMoves, IsMovesText, IsSomeMoves, IsSomeMovesText}

-- what is read so far
abbrev pub MovesSoFar : PlainPlant → Reading → Reading → OpenList PlainCtlMove → Type 0
MovesSoFar p old s o = list.ListSoFar PlainCtlMove (move_in p) old s o

end_some : token_line (Ok end_line) ≡ Some (end_line ∷ [])
unfolding end_line
end_some = refl

module _ (p : PlainPlant) where
  end_said : move_in p end_line ≡ Some end
  unfolding end_line
  end_said = refl

  -- moves are read line by line
  pub moves : IsMachine (OpenList PlainCtlMove) (list.begin PlainCtlMove (move_in p)) (list.take PlainCtlMove (move_in p)) (list.is_ended PlainCtlMove (move_in p)) (IsSomeMoves p)
  moves = list.lists PlainCtlMove (move_in p) (codes "end") end_line end_tokens end_some end_said

  module _ (old s : Reading) (o : OpenList PlainCtlMove) (b : MovesSoFar p old s o) (going : o.ended ≡ false) where
    -- no line before the end
    pub no_end : (stop : ReadStop) → IsNoLine s stop → HasCause (IsSomeMovesText p) old stop
    no_end stop h = list.no_line PlainCtlMove (move_in p) (codes "end") end_line end_tokens end_some end_said old s o b going stop h

    module _ (line : Line) (new : Reading) (h : IsTokenLine s line) (e : new ≡ record s { read = line.number }) (tokens : List Token) (f : tokens ≡ line.tokens.items) where
      same : list_taken (move_in p) o h.spots ≡ option_map (with_line o) (move_line p (map (plain_of new.bytes) tokens) (sizes_of tokens))
      same =
          ap (λ ts. option_map (with_line o) (move_line p ts (sizes_in h.spots))) (sym (said_after s line new h e tokens f))
          ∙ ap (λ ss. option_map (with_line o) (move_line p (map (plain_of new.bytes) tokens) ss)) (sym (sizes_are s line h tokens f))

      -- a line that is not taken
      pub line_refused : (r : Refusal) → IsRefused r (option_map (with_line o) (move_line p (map (plain_of new.bytes) tokens) (sizes_of tokens))) → HasCause (IsSomeMovesText p) old (stop_at r line.number)
      line_refused r k =
          list.refused PlainCtlMove (move_in p) (codes "end") end_line end_tokens end_some end_said old s o b going line new h e r (option_map (with_line o) (move_line p (map (plain_of new.bytes) tokens) (sizes_of tokens))) same k

      -- a line that is taken
      pub line_taken : (x : OpenList PlainCtlMove) → option_map (with_line o) (move_line p (map (plain_of new.bytes) tokens) (sizes_of tokens)) ≡ Some x → MovesSoFar p old new x
      line_taken x k = list.taken PlainCtlMove (move_in p) (codes "end") end_line end_tokens end_some end_said old s o b going line new h e x (same ∙ k)

  -- the end
  pub moves_read : (old s : Reading) (o : OpenList PlainCtlMove) → MovesSoFar p old s o → o.ended ≡ true → ReadsText (λ tokens. IsMoves p tokens o.values) old s
  moves_read old s o b t = list.whole PlainCtlMove (move_in p) (codes "end") end_line end_tokens end_some end_said old s o b t

  -- ---- laws

  pub moves_reading : HasOneReading (IsMovesText p) (IsSomeMovesText p)
  moves_reading = one_reading (IsMoves p) (list.one_list PlainCtlMove (move_in p))

  pub moves_end : HasBlankEnd (IsMovesText p)
  moves_end = blank_end (IsMoves p) (list.no_more PlainCtlMove (move_in p))
