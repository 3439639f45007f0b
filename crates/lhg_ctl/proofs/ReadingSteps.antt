-- A controller is read: its head, the lines behind it, and its end.
use Rattle.std.proofs.Common.{◌≡◌, ◌+◌, ◌-◌, ℕ, List, [], ◌∷◌, map, refl, sym, ap, ◌∙◌, true, false, Option, Some, None, arith, codes}
use Rattle.std.specs.Option.{option_and_then, option_map}
use Rattle.lhg_lex.specs.LineTokens.{Spot}
use Rattle.lhg_lex.specs.TextTokens.{plain_of}
use Rattle.lhg_lex.specs.Reading.{Reading, IsTokenLine}
use Rattle.lhg_lex.specs.declared.stops.ReadStop.{ReadStop}
use Rattle.lhg_lex.specs.declared.tokens.Line.{Line}
use Rattle.lhg_lex.specs.declared.tokens.Token.{Token}
use Rattle.lhg_plant.specs.Plant.{PlainPlant}
use Rattle.lhg_read.specs.Machine.{Between}
use Rattle.lhg_read.specs.MachineLaws.{nothing_comes, first_refused, first_taken, no_end_comes, not_taken, one_taken, whole_read}
use Rattle.lhg_read.specs.Numbered.{numbered, sizes_in, sizes_of}
use Rattle.lhg_read.specs.ReadsLaws.{said_after}
use Rattle.lhg_read.specs.Refusals.{stop_at, IsRefused}
use Rattle.lhg_read.specs.TokenText.{ReadsText, HasCause, IsNoLine}
use Rattle.lhg_read.specs.declared.refusal.Refusal.{Refusal}
use Rattle.lhg_read.specs.declared.refusal.Refusal.TheVariants.{NotHere}
use Rattle.lhg_read.proofs.LineSizes.{sizes_are}
use Rattle.lhg_ctl.specs.ControllerGrammar.{version_by, version_in, IsController, IsSomeController, IsSomeControllerText}
use Rattle.lhg_ctl.specs.ControllerSteps.{PlainOpen, open_with, taken}
use Rattle.lhg_ctl.specs.declared.versions.Version.{Version}
use Rattle.lhg_ctl.proofs.ControllerMachine.{begin_at, controllers, controller_of_begun}
use Rattle.lhg_ctl.proofs.ControllerRuns.{is_ended, taken_at}

-- between two lines of a controller
abbrev pub ReadSoFar : PlainPlant → Reading → Reading → PlainOpen → Type 0
ReadSoFar p old s o = Between PlainOpen begin_at (taken_at p) is_ended old s o

module _ (p : PlainPlant) where
  -- no line at the beginning
  pub nothing : (old : Reading) (stop : ReadStop) → IsNoLine old stop → HasCause (IsSomeControllerText p) old stop
  nothing old stop h = nothing_comes PlainOpen begin_at (taken_at p) is_ended (IsSomeController p) (controllers p) old stop h

  module _ (old : Reading) (line : Line) (new : Reading) (h : IsTokenLine old line) (e : new ≡ record old { read = line.number }) (tokens : List Token) (f : tokens ≡ line.tokens.items) where
    test : (v : Option Version) → v ≡ option_and_then version_by (numbered (codes "controller") 2 (map (plain_of new.bytes) tokens) (sizes_of tokens)) → version_in h.spots ≡ v
    test v k =
        ap (λ ts. option_and_then version_by (numbered (codes "controller") 2 ts (sizes_in h.spots))) (sym (said_after old line new h e tokens f))
        ∙ ap (λ ss. option_and_then version_by (numbered (codes "controller") 2 (map (plain_of new.bytes) tokens) ss)) (sym (sizes_are old line h tokens f)) ∙ sym k

    -- another first line
    pub no_head : (v : Option Version) → v ≡ option_and_then version_by (numbered (codes "controller") 2 (map (plain_of new.bytes) tokens) (sizes_of tokens)) → v ≡ None → HasCause (IsSomeControllerText p) old (stop_at NotHere line.number)
    no_head v k none =
        first_refused PlainOpen begin_at (taken_at p) is_ended (IsSomeController p) (controllers p) old line new h e NotHere (begin_at h.spots) (λ n. n) (ap (option_map open_with) (test v k ∙ none))

    -- the head
    pub head_read : (v : Option Version) (w : Version) (o : PlainOpen) → v ≡ option_and_then version_by (numbered (codes "controller") 2 (map (plain_of new.bytes) tokens) (sizes_of tokens)) → v ≡ Some w → o ≡ open_with w → ReadSoFar p old new o
    head_read v w o k some g =
        first_taken PlainOpen begin_at (taken_at p) is_ended (IsSomeController p) (controllers p) old line new h e o (ap (option_map open_with) (test v k ∙ some) ∙ ap (λ x. Some x) (sym g))

  module _ (old s : Reading) (o : PlainOpen) (b : ReadSoFar p old s o) (going : o.ended ≡ false) where
    -- no line before the end
    pub no_end : (stop : ReadStop) → IsNoLine s stop → HasCause (IsSomeControllerText p) old stop
    no_end stop h = no_end_comes PlainOpen begin_at (taken_at p) is_ended (IsSomeController p) (controllers p) old s o b going stop h

    module _ (line : Line) (new : Reading) (h : IsTokenLine s line) (e : new ≡ record s { read = line.number }) (tokens : List Token) (f : tokens ≡ line.tokens.items) where
      -- what the line changes, in the text and by its tokens
      same : taken_at p o h.spots ≡ taken p o (map (plain_of new.bytes) tokens) (sizes_of tokens)
      same = ap (λ ts. taken p o ts (sizes_in h.spots)) (sym (said_after s line new h e tokens f)) ∙ ap (taken p o (map (plain_of new.bytes) tokens)) (sym (sizes_are s line h tokens f))

      -- a line that is not taken
      pub line_refused : (r : Refusal) → IsRefused r (taken p o (map (plain_of new.bytes) tokens) (sizes_of tokens)) → HasCause (IsSomeControllerText p) old (stop_at r line.number)
      line_refused r k = not_taken PlainOpen begin_at (taken_at p) is_ended (IsSomeController p) (controllers p) old s o b going line new h e r (taken p o (map (plain_of new.bytes) tokens) (sizes_of tokens)) same k

      -- a line that is taken
      pub line_taken : (x : PlainOpen) → taken p o (map (plain_of new.bytes) tokens) (sizes_of tokens) ≡ Some x → ReadSoFar p old new x
      line_taken x k = one_taken PlainOpen begin_at (taken_at p) is_ended (IsSomeController p) (controllers p) old s o b going line new h e x (same ∙ k)

  -- what is read at the end
  pub controller_read : (old s : Reading) (o : PlainOpen) (b : ReadSoFar p old s o) → o.ended ≡ true → IsController p b.0 o.draft
  controller_read old s o b t = controller_of_begun p b.0 o b.2 t

  -- the end
  pub text_read : (old s : Reading) (o : PlainOpen) → ReadSoFar p old s o → o.ended ≡ true → ReadsText (λ tokens. IsController p tokens o.draft) old s
  text_read old s o b t = whole_read PlainOpen begin_at (taken_at p) is_ended (IsSomeController p) (controllers p) old s o b (λ tokens. IsController p tokens o.draft) (controller_read old s o b t)
