-- First states are read: the lines, one after another, and the end.
use Rattle.std.proofs.Common.{◌≡◌, ℕ, List, [], ◌∷◌, map, refl, sym, ap, ◌∙◌, true, false, Some, Ok, codes}
use Rattle.std.specs.Option.{option_map}
use Rattle.lhg_lex.specs.TextTokens.{plain_of}
use Rattle.lhg_lex.specs.Reading.{Reading, IsTokenLine}
use Rattle.lhg_lex.specs.declared.stops.ReadStop.{ReadStop}
use Rattle.lhg_lex.specs.declared.tokens.Line.{Line}
use Rattle.lhg_lex.specs.declared.tokens.Token.{Token}
use Rattle.lhg_row.specs.Piece.{PlainPiece}
use Rattle.lhg_plant.specs.Plant.{PlainPlant}
use Rattle.lhg_read.specs.Listed.{end, OpenList, with_line, list_taken}
use Rattle.lhg_read.specs.ListedLaws as list
use Rattle.lhg_read.specs.Machine.{IsMachine}
use Rattle.lhg_read.specs.ReadsLaws.{said_after}
use Rattle.lhg_read.specs.Refusals.{stop_at, IsRefused}
use Rattle.lhg_read.specs.TextLaws.{HasOneReading, HasBlankEnd}
use Rattle.lhg_read.specs.TokenText.{token_line, ReadsText, HasCause, IsNoLine}
use Rattle.lhg_read.specs.declared.refusal.Refusal.{Refusal}
use Rattle.lhg_read.proofs.EndLine.{end_line, end_tokens}
use Rattle.lhg_read.proofs.TextEnds.{one_reading, blank_end}
use Rattle.lhg_forward.specs.InitText.{init_line, init_in, IsInit, IsInitText, IsSomeInit, IsSomeInitText}

-- what is read so far
abbrev pub InitSoFar : PlainPlant → Reading → Reading → OpenList (ℕ × PlainPiece) → Type 0
InitSoFar p old s o = list.ListSoFar (ℕ × PlainPiece) (init_in p) old s o

end_some : token_line (Ok end_line) ≡ Some (end_line ∷ [])
unfolding end_line
end_some = refl

module _ (p : PlainPlant) where
  end_said : init_in p end_line ≡ Some end
  unfolding end_line
  end_said = refl

  -- first states are read line by line
  pub inits : IsMachine (OpenList (ℕ × PlainPiece)) (list.begin (ℕ × PlainPiece) (init_in p)) (list.take (ℕ × PlainPiece) (init_in p)) (list.is_ended (ℕ × PlainPiece) (init_in p)) (IsSomeInit p)
  inits = list.lists (ℕ × PlainPiece) (init_in p) (codes "end") end_line end_tokens end_some end_said

  module _ (old s : Reading) (o : OpenList (ℕ × PlainPiece)) (b : InitSoFar p old s o) (going : o.ended ≡ false) where
    -- no line before the end
    pub no_end : (stop : ReadStop) → IsNoLine s stop → HasCause (IsSomeInitText p) old stop
    no_end stop h = list.no_line (ℕ × PlainPiece) (init_in p) (codes "end") end_line end_tokens end_some end_said old s o b going stop h

    module _ (line : Line) (new : Reading) (h : IsTokenLine s line) (e : new ≡ record s { read = line.number }) (tokens : List Token) (f : tokens ≡ line.tokens.items) where
      same : list_taken (init_in p) o h.spots ≡ option_map (with_line o) (init_line p (map (plain_of new.bytes) tokens))
      same = ap (λ ts. option_map (with_line o) (init_line p ts)) (sym (said_after s line new h e tokens f))

      -- a line that is not taken
      pub line_refused : (r : Refusal) → IsRefused r (option_map (with_line o) (init_line p (map (plain_of new.bytes) tokens))) → HasCause (IsSomeInitText p) old (stop_at r line.number)
      line_refused r k = list.refused (ℕ × PlainPiece) (init_in p) (codes "end") end_line end_tokens end_some end_said old s o b going line new h e r (option_map (with_line o) (init_line p (map (plain_of new.bytes) tokens))) same k

      -- a line that is taken
      pub line_taken : (x : OpenList (ℕ × PlainPiece)) → option_map (with_line o) (init_line p (map (plain_of new.bytes) tokens)) ≡ Some x → InitSoFar p old new x
      line_taken x k = list.taken (ℕ × PlainPiece) (init_in p) (codes "end") end_line end_tokens end_some end_said old s o b going line new h e x (same ∙ k)

  -- the end
  pub init_read : (old s : Reading) (o : OpenList (ℕ × PlainPiece)) → InitSoFar p old s o → o.ended ≡ true → ReadsText (λ tokens. IsInit p tokens o.values) old s
  init_read old s o b t = list.whole (ℕ × PlainPiece) (init_in p) (codes "end") end_line end_tokens end_some end_said old s o b t

  -- ---- laws
  pub init_reading : HasOneReading (IsInitText p) (IsSomeInitText p)
  init_reading = one_reading (IsInit p) (list.one_list (ℕ × PlainPiece) (init_in p))

  pub init_end : HasBlankEnd (IsInitText p)
  init_end = blank_end (IsInit p) (list.no_more (ℕ × PlainPiece) (init_in p))
