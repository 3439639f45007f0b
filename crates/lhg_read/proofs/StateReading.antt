-- A state is read of one line: what holds then, and where the line cannot stand.
use Rattle.std.proofs.Common.{◌≡◌, List, [], ◌∷◌, map, refl, sym, ap, ◌∙◌, Bool, true, Option, Some, None}
use Rattle.lhg_math.specs.Tests.{false_true}
use Rattle.lhg_lex.specs.LineTokens.{Spot}
use Rattle.lhg_lex.specs.TextTokens.{plain_of}
use Rattle.lhg_lex.specs.Reading.{Reading, IsTokenLine}
use Rattle.lhg_lex.specs.declared.stops.ReadStop.{ReadStop}
use Rattle.lhg_lex.specs.declared.tokens.Line.{Line}
use Rattle.lhg_lex.specs.declared.tokens.Token.{Token}
use Rattle.lhg_plant.specs.Plant.{PlainPlant}
use Rattle.lhg_plant.specs.State.{PlainState}
use Rattle.lhg_read.specs.PlantText.{said_in}
use Rattle.lhg_read.specs.Refusals.{stop_at, IsRefused}
use Rattle.lhg_read.specs.StateText.{state_line, IsStateText, IsSomeState}
use Rattle.lhg_read.specs.TokenText.{IsTextBy, IsNoLine, ReadsText, HasCause}
use Rattle.lhg_read.specs.declared.refusal.Refusal.{Refusal}
use Rattle.lhg_read.specs.Machine.{IsMachine}
use Rattle.lhg_read.specs.MachineLaws.{nothing_comes, first_refused}
use Rattle.lhg_read.specs.ReadsLaws.{said_after, reads_text}
use Rattle.lhg_read.specs.Reads.{CanGoOn}
use Rattle.lhg_read.specs.ReadsLaws.{reads_nothing, reads_more}

module _ (p : PlainPlant) (can : CanGoOn (IsSomeState p) []) (old : Reading) where
  -- the one line begins a state and ends it
  abbrev begin_at : List Spot → Option PlainState
  begin_at line = state_line p (said_in line)

  abbrev none_behind : PlainState → List Spot → Option PlainState
  none_behind s line = None

  abbrev has_ended : PlainState → Bool
  has_ended s = true

  states : IsMachine PlainState begin_at none_behind has_ended (IsSomeState p)
  states = record {
    whole = λ lines h. (h.0, record { head = h.1.line; rest = []; start = h.0; lines_are = h.1.lines_are; begins = h.1.says; taken = refl }, refl);
    can_begin = can;
    can_end = λ lines s b going. false_true (sym going);
  }

  -- no line comes
  pub no_line : (stop : ReadStop) → IsNoLine old stop → HasCause (IsTextBy (IsSomeState p)) old stop
  no_line stop h = nothing_comes PlainState begin_at none_behind has_ended (IsSomeState p) states old stop h

  module _ (line : Line) (new : Reading) (h : IsTokenLine old line) (e : new ≡ record old { read = line.number }) (tokens : List Token) (f : tokens ≡ line.tokens.items) where
    -- the line is refused
    pub not_state : (r : Refusal) → IsRefused r (state_line p (map (plain_of new.bytes) tokens)) → HasCause (IsTextBy (IsSomeState p)) old (stop_at r line.number)
    not_state r k =
        first_refused PlainState begin_at none_behind has_ended (IsSomeState p) states old line new h e r (state_line p (map (plain_of new.bytes) tokens))
        (λ bad. ap (state_line p) (sym (said_after old line new h e tokens f)) ∙ bad) k

-- the line is a state
pub state_read : (p : PlainPlant) (old : Reading) (line : Line) (new : Reading) (h : IsTokenLine old line) → new ≡ record old { read = line.number } → (tokens : List Token) → tokens ≡ line.tokens.items
    → (s : PlainState) → state_line p (map (plain_of new.bytes) tokens) ≡ Some s → ReadsText (λ lines. IsStateText p lines s) old new
state_read p old line new h e tokens f s k =
    reads_text (λ lines. IsStateText p lines s) old new (h.spots ∷ []) (reads_more old old [] line new (reads_nothing old) h e)
    (record { line = h.spots; lines_are = refl; says = ap (state_line p) (sym (said_after old line new h e tokens f)) ∙ k }) (λ q. absurd cc)
