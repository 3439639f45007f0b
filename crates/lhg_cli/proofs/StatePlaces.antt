-- The location of a state that is read is there, and the state has a value for each variable.
use Rattle.std.proofs.Common.{◌≡◌, ◌<◌, ℕ, suc, Bool, true, false, List, [], ◌∷◌, length, Option, Some, None, refl, sym, ap, ◌∙◌, subst, arith}
use Rattle.std.specs.Prelude.{if◌then◌else◌, codes}
use Rattle.std.proofs.lemmas.List.{length-map}
use Rattle.std.proofs.lemmas.List.Quantifiers.{position-Some}
use Rattle.std.proofs.lemmas.Option.{option_and_then_some}
use Rattle.std.specs.Str.{bytes_eq}
use Rattle.lhg_lex.specs.PlainToken.{PlainToken}
use Rattle.lhg_math.specs.Number.{Number}
use Rattle.lhg_row.specs.Row.{PlainPoint}
use Rattle.lhg_plant.specs.Plant.{PlainPlant, PlainLocation}
use Rattle.lhg_plant.specs.State.{PlainState}
use Rattle.lhg_read.specs.Cut.{cut, parts_of}
use Rattle.lhg_read.specs.Names.{name_of}
use Rattle.lhg_read.specs.Options.{consed}
use Rattle.lhg_read.specs.PlantSteps.{loc_names}
use Rattle.lhg_read.specs.PlantText.{said_in}
use Rattle.lhg_read.specs.PointText.{coordinate_of, coordinates_of, point_of}
use Rattle.lhg_read.specs.Signs.{is_word, is_comma}
use Rattle.lhg_read.specs.StateText.{location_in, state_of, state_by}
use Rattle.lhg_read.proofs.Answered.{was_there}
use Rattle.lhg_text.specs.TraceText.{IsPlacedState}
use Rattle.lhg_input.specs.Inputs.{IsStateInput}

-- a point has one value for each name
one_more : (x : Option Number) (rest : Option PlainPoint) (n : ℕ) (at : PlainPoint) → ((xs : PlainPoint) → rest ≡ Some xs → length xs ≡ n) → consed x rest ≡ Some at → length at ≡ suc n
one_more None rest n at h e = absurd cc
one_more (Some x) None n at h e = absurd cc
one_more (Some x) (Some xs) n at h e = let same : x ∷ xs ≡ at = cc in let more = h xs refl in ap length (sym same) ∙ omega (arith, more)

point_length : (names : List (List ℕ)) (parts : List (List PlainToken)) (at : PlainPoint) → coordinates_of names parts ≡ Some at → length at ≡ length names
point_length [] [] at e = let same : [] ≡ at = cc in ap length (sym same)
point_length [] (part ∷ parts) at e = absurd cc
point_length (name ∷ names) [] at e = absurd cc
point_length (name ∷ names) (part ∷ parts) at e = one_more (coordinate_of name part) (coordinates_of names parts) (length names) at (λ xs is. point_length names parts xs is) e

pub point_fits : (names : List (List ℕ)) (tokens : List PlainToken) (at : PlainPoint) → point_of names tokens ≡ Some at → length at ≡ length names
unfolding point_of
point_fits names tokens at e = point_length names (parts_of (cut is_comma tokens)) at e

-- a named location is there
location_there : (a : PlainPlant) (token : PlainToken) (loc : ℕ) → location_in a token ≡ Some loc → loc < length a.locs
location_there a token loc e =
    option_and_then_some _ (name_of token) loc e
    (λ name is f.
    let low = (position-Some (λ w. bytes_eq w name) (loc_names a.locs) loc [] f).0 in
    let size = length-map a.locs (λ (l : PlainLocation). l.name) in
    omega (arith, low, size))

-- a state that is read is placed
of_state : (a : PlainPlant) (tokens : List PlainToken) (z : PlainState) → state_of a tokens ≡ Some z → IsPlacedState a z
of_state a [] z e = absurd cc
of_state a (name ∷ point) z e =
    option_and_then_some _ (location_in a name) z e
    (λ loc is f.
    let at = was_there (λ x. let s : PlainState = record { loc = loc; at = x } in s) (point_of a.vars point) z f in
    subst (IsPlacedState a) at.2 (record { loc = location_there a name loc is; fits = point_fits a.vars point at.0 at.1 }))

by_word : (a : PlainPlant) (tokens : List PlainToken) (z : PlainState) (b : Bool) → (if b then state_of a tokens else None) ≡ Some z → IsPlacedState a z
by_word a tokens z true e = of_state a tokens z e
by_word a tokens z false e = absurd cc

pub of_line : (w : List ℕ) (a : PlainPlant) (tokens : List PlainToken) (z : PlainState) → state_by w a tokens ≡ Some z → IsPlacedState a z
unfolding state_by
of_line w a [] z e = absurd cc
of_line w a (first ∷ tokens) z e = by_word a tokens z (is_word w first) e

pub state_place : (lines : List (List ℕ)) (a : PlainPlant) (z : PlainState) → IsStateInput lines (a, z) → z.loc < length a.locs
state_place lines a z h = (of_line (codes "state") a (said_in h.second.is.line) z h.second.is.says).loc

pub state_fits : (lines : List (List ℕ)) (a : PlainPlant) (z : PlainState) → IsStateInput lines (a, z) → length z.at ≡ length a.vars
state_fits lines a z h = (of_line (codes "state") a (said_in h.second.is.line) z h.second.is.says).fits
