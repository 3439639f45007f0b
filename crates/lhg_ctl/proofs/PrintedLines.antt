-- The lines of a printed controller are read as its pieces, its guards and the end.
use Rattle.std.proofs.Common.{◌≡◌, ◌≤◌, ℕ, List, [], ◌∷◌, ◌++◌, length, map, refl, ap, ◌∙◌, cond, Option, Some, None, codes}
use Rattle.std.specs.Prelude.{slice_get}
use Rattle.std.specs.Option.{option_and_then, option_map}
use Rattle.lhg_math.specs.Tests.{AllOf}
use Rattle.lhg_row.specs.Piece.{PlainPiece}
use Rattle.lhg_lex.specs.PlainToken.{PlainToken, word}
use Rattle.lhg_plant.specs.Limits.{most_line_rows}
use Rattle.lhg_plant.specs.Plant.{PlainPlant}
use Rattle.lhg_plant.specs.Proper.{IsProper}
use Rattle.lhg_plant.specs.Word.{IsName}
use Rattle.lhg_read.specs.PlantSteps.{loc_names, switch_names}
use Rattle.lhg_read.specs.Rows.{rows_of}
use Rattle.lhg_read.specs.StateText.{location_in}
use Rattle.lhg_read.specs.Term.{place_of}
use Rattle.lhg_read.specs.declared.forms.Form.TheVariants.{Plain}
use Rattle.lhg_row_text.specs.PrintedLine.{location_name, switch_name}
use Rattle.lhg_row_text.specs.RowText.{rows_text}
use Rattle.lhg_row_text.proofs.LineItems.{word_item, items_say}
use Rattle.lhg_row_text.proofs.NamePlaces.{is_named, place_back}
use Rattle.lhg_row_text.proofs.NamedRows.{AreNames, AreRead, rows_are_read, name_read, word_says}
use Rattle.lhg_ctl.specs.ControllerGrammar.{named_guards, said_lines}
use Rattle.lhg_ctl.specs.ControllerLine.{ControllerLine, piece, guard, end, placed_rows, guard_of, controller_line}
use Rattle.lhg_read.specs.SwitchName.{is_controllable, if_of, switch_in}
use Rattle.lhg_ctl.specs.ControllerText.{piece_line, guard_line, named_guard_line, named_guard_lines}
use Rattle.lhg_ctl.specs.Draft.{PlainDraft}
use Rattle.lhg_ctl.specs.DraftStates.{IsOfController}
use Rattle.lhg_ctl.specs.Written.{IsWritten}
use Rattle.lhg_ctl.specs.declared.versions.Version.{Version}
use Rattle.lhg_ctl.specs.declared.versions.Version.TheVariants.{First, Second}
use Rattle.lhg_ctl.proofs.LinesRead.{IsLineBy, AreLinesBy, lines_by-append}
use Rattle.lhg_ctl.proofs.PlacedRows.{IsPlacedOf}
use Rattle.lhg_ctl.proofs.SwitchPlaces.{switch_named, switch_back}

-- few rows
abbrev pub HasFewRows : ℕ × PlainPiece → Type 0
HasFewRows p = length p.1 ≤ most_line_rows

module _ (a : PlainPlant) (proper : IsProper a) where
  names : AreNames a.vars
  names = record { names = proper.vars; differ = proper.vars_differ }

  rows_read : (p : ℕ × PlainPiece) → IsWritten (length a.vars) p.1 → HasFewRows p → AreRead Plain a.vars p.1
  rows_read p h few = rows_are_read Plain a.vars p.1 names (record { line = record { wide = h.wide; few = few }; vary = h.vary; short = h.short })

  -- a name with a place and rows
  placed : (place : PlainToken → Option ℕ) (name : PlainToken) (p : ℕ × PlainPiece) (tokens : List PlainToken) → place name ≡ Some p.0 → rows_of Plain a.vars tokens ≡ Some p.1 → placed_rows a place (name ∷ tokens) ≡ Some p
  placed place name p tokens e f = rw (e, f) refl

  piece_is : (v : Version) (p : ℕ × PlainPiece) → IsPlacedOf (length a.vars) (length a.locs) p → HasFewRows p → IsLineBy ControllerLine (controller_line v a) (piece_line a p) (piece p)
  unfolding controller_line
  piece_is v p h few =
      let name = location_name (slice_get a.locs p.0) in
      let named = is_named (length a.vars) a.locs p.0 h.place proper.locs in
      let loc : location_in a (word name) ≡ Some p.0 = ap (option_and_then (λ w. place_of w (loc_names a.locs))) (name_read name named) ∙ place_back a.locs p.0 h.place proper.locs_differ in
      let r = rows_read p h.rows few in
      record {
        first = word (codes "piece");
        others = word name ∷ r.tokens;
        says = items_say (codes "piece" ∷ name ∷ []) (word (codes "piece") ∷ word name ∷ []) (rows_text a.vars p.1) r.tokens (word_item (codes "piece") refl, (word_item name named.word, tt)) r.says;
        reads = λ sizes. ap (option_map (λ x. piece x)) (placed (location_in a) (word name) p r.tokens loc r.reads);
      }

  -- a controllable switch is found by its name
  switch_is : (g : ℕ × PlainPiece) → IsPlacedOf (length a.vars) (length a.switches) g → IsOfController a g → switch_in is_controllable a (word (switch_name (slice_get a.switches g.0))) ≡ Some g.0
  switch_is g h ctl =
      let name = switch_name (slice_get a.switches g.0) in
      let named = switch_named (length a.vars) (length a.locs) a.switches g.0 h.place proper.switches in
      ap (λ o. option_and_then (if_of is_controllable a) (option_and_then (λ w. place_of w (switch_names a.switches)) o)) (name_read name named)
      ∙ ap (option_and_then (if_of is_controllable a)) (switch_back a.switches g.0 h.place proper.switches_differ) ∙ ap (λ b. cond b (Some g.0) None) ctl

  guard_is : (g : ℕ × PlainPiece) → IsPlacedOf (length a.vars) (length a.switches) g → IsOfController a g → HasFewRows g → IsLineBy ControllerLine (controller_line First a) (guard_line a g) (guard None g)
  unfolding controller_line
  guard_is g h ctl few =
      let name = switch_name (slice_get a.switches g.0) in
      let named = switch_named (length a.vars) (length a.locs) a.switches g.0 h.place proper.switches in
      let r = rows_read g h.rows few in
      record {
        first = word (codes "guard");
        others = word name ∷ r.tokens;
        says = items_say (codes "guard" ∷ name ∷ []) (word (codes "guard") ∷ word name ∷ []) (rows_text a.vars g.1) r.tokens (word_item (codes "guard") refl, (word_item name named.word, tt)) r.says;
        reads = λ sizes. ap (option_map (λ x. guard None x)) (placed (switch_in is_controllable a) (word name) g r.tokens (switch_is g h ctl) r.reads);
      }

  named_is : (w : List ℕ) (g : ℕ × PlainPiece) → IsName w → IsPlacedOf (length a.vars) (length a.switches) g → IsOfController a g → HasFewRows g → IsLineBy ControllerLine (controller_line Second a) (named_guard_line a w g) (guard (Some w) g)
  unfolding controller_line
  named_is w g is h ctl few =
      let name = switch_name (slice_get a.switches g.0) in
      let named = switch_named (length a.vars) (length a.locs) a.switches g.0 h.place proper.switches in
      let r = rows_read g h.rows few in
      record {
        first = word (codes "guard");
        others = word name ∷ word w ∷ r.tokens;
        says = items_say (codes "guard" ∷ name ∷ w ∷ []) (word (codes "guard") ∷ word name ∷ word w ∷ []) (rows_text a.vars g.1) r.tokens (word_item (codes "guard") refl, (word_item name named.word, (word_item w is.word, tt))) r.says;
        reads = λ sizes.
            ap (option_and_then (λ x. guard_of a (Some x) (word name ∷ r.tokens))) (name_read w is) ∙ ap (option_map (λ x. guard (Some w) x)) (placed (switch_in is_controllable a) (word name) g r.tokens (switch_is g h ctl) r.reads);
      }

  end_is : (v : Version) → IsLineBy ControllerLine (controller_line v a) (codes "end") end
  unfolding controller_line
  end_is v = record { first = word (codes "end"); others = []; says = word_says (codes "end") refl; reads = λ sizes. refl }

  pieces_are : (v : Version) (ps : List (ℕ × PlainPiece)) → AllOf (IsPlacedOf (length a.vars) (length a.locs)) ps → AllOf HasFewRows ps → AreLinesBy ControllerLine (controller_line v a) (map (piece_line a) ps) (map (λ p. piece p) ps)
  pieces_are v [] h few = tt
  pieces_are v (p ∷ ps) h few = (piece_is v p h.0 few.0, pieces_are v ps h.1 few.1)

  guards_are : (gs : List (ℕ × PlainPiece)) → AllOf (IsPlacedOf (length a.vars) (length a.switches)) gs → AllOf (IsOfController a) gs → AllOf HasFewRows gs
      → AreLinesBy ControllerLine (controller_line First a) (map (guard_line a) gs) (map (λ g. guard None g) gs)
  guards_are [] h ctl few = tt
  guards_are (g ∷ gs) h ctl few = (guard_is g h.0 ctl.0 few.0, guards_are gs h.1 ctl.1 few.1)

  named_are : (names : List (List ℕ)) (gs : List (ℕ × PlainPiece)) → AllOf IsName names → AllOf (IsPlacedOf (length a.vars) (length a.switches)) gs → AllOf (IsOfController a) gs → AllOf HasFewRows gs
      → AreLinesBy ControllerLine (controller_line Second a) (named_guard_lines a names gs) (named_guards names gs)
  named_are [] gs is h ctl few = tt
  named_are (w ∷ names) [] is h ctl few = tt
  named_are (w ∷ names) (g ∷ gs) is h ctl few = (named_is w g is.0 h.0 ctl.0 few.0, named_are names gs is.1 h.1 ctl.1 few.1)

  -- the lines behind the head of version 1
  pub draft_are : (d : PlainDraft) → AllOf (IsPlacedOf (length a.vars) (length a.locs)) d.pieces → AllOf HasFewRows d.pieces
      → AllOf (IsPlacedOf (length a.vars) (length a.switches)) d.guards → AllOf (IsOfController a) d.guards → AllOf HasFewRows d.guards
      → AreLinesBy ControllerLine (controller_line First a) (map (piece_line a) d.pieces ++ (map (guard_line a) d.guards ++ codes "end" ∷ [])) (said_lines First d)
  draft_are d p few_p g ctl few_g =
      lines_by-append ControllerLine (controller_line First a) (map (piece_line a) d.pieces) (map (λ p. piece p) d.pieces) (map (guard_line a) d.guards ++ codes "end" ∷ []) (map (λ g. guard None g) d.guards ++ end ∷ []) (pieces_are First d.pieces p few_p)
      (lines_by-append ControllerLine (controller_line First a) (map (guard_line a) d.guards) (map (λ g. guard None g) d.guards) (codes "end" ∷ []) (end ∷ []) (guards_are d.guards g ctl few_g) (end_is First, tt))

  -- the lines behind the number of rounds
  pub second_are : (d : PlainDraft) → AllOf (IsPlacedOf (length a.vars) (length a.locs)) d.pieces → AllOf HasFewRows d.pieces
      → AllOf (IsPlacedOf (length a.vars) (length a.switches)) d.guards → AllOf (IsOfController a) d.guards → AllOf HasFewRows d.guards → AllOf IsName d.names
      → AreLinesBy ControllerLine (controller_line Second a) (map (piece_line a) d.pieces ++ (named_guard_lines a d.names d.guards ++ codes "end" ∷ [])) (map (λ p. piece p) d.pieces ++ (named_guards d.names d.guards ++ end ∷ []))
  second_are d p few_p g ctl few_g names =
      lines_by-append ControllerLine (controller_line Second a) (map (piece_line a) d.pieces) (map (λ p. piece p) d.pieces) (named_guard_lines a d.names d.guards ++ codes "end" ∷ []) (named_guards d.names d.guards ++ end ∷ []) (pieces_are Second d.pieces p few_p)
      (lines_by-append ControllerLine (controller_line Second a) (named_guard_lines a d.names d.guards) (named_guards d.names d.guards) (codes "end" ∷ []) (end ∷ []) (named_are d.names d.guards names g ctl few_g) (end_is Second, tt))
