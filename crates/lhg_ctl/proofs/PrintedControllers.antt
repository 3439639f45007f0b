-- The text of a controller is a controller of the grammar, and its value has the rows of its pieces and guards.
use Rattle.std.proofs.Common.{◌≡◌, ◌<◌, ◌≤◌, ◌+◌, ℕ, zero, suc, List, [], ◌∷◌, ◌++◌, length, get_or, map, refl, sym, ap, ◌∙◌, subst, true, false, Option, Some, None, arith, codes, zero-add}
use Rattle.std.specs.Prelude.{slice_get, IsSomeAnd}
use Rattle.lhg_math.specs.Tests.{AllOf, by_bool}
use Rattle.lhg_row.specs.Lists.{piece_limit}
use Rattle.lhg_row.specs.Members.{all-append}
use Rattle.lhg_row.specs.Piece.{PlainPiece}
use Rattle.lhg_lex.specs.Lines.{lines_of}
use Rattle.lhg_plant.specs.declared.plants.Side.{Side}
use Rattle.lhg_plant.specs.declared.plants.Side.TheVariants.{Ctl, Env, Pick}
use Rattle.lhg_plant.specs.Controller.{PlainController}
use Rattle.lhg_plant.specs.Limits.{most_line_rows}
use Rattle.lhg_plant.specs.Plant.{PlainPlant, PlainSwitch}
use Rattle.lhg_plant.specs.Proper.{IsProper}
use Rattle.lhg_row_text.proofs.LinesBack.{IsInner, lines_back}
use Rattle.lhg_ctl.specs.ControllerGrammar.{IsControllerText}
use Rattle.lhg_ctl.specs.ControllerLine.{ControllerLine, controller_line}
use Rattle.lhg_read.specs.SwitchName.{is_controllable, is_of}
use Rattle.lhg_ctl.specs.ControllerText.{piece_line, guard_line, controller_lines, controller_text}
use Rattle.lhg_ctl.specs.Draft.{draft_of, all_at, placed_from}
use Rattle.lhg_ctl.specs.DraftStates.{IsOfController}
use Rattle.lhg_ctl.specs.Written.{IsWrittenController, AreOfController, IsShortList, IsShortController}
use Rattle.lhg_ctl.specs.declared.versions.Version.TheVariants.{First}
use Rattle.lhg_ctl.proofs.HeadLine.{head_line, head_tokens, head_is}
use Rattle.lhg_ctl.proofs.LinesRead.{lines_read}
use Rattle.lhg_ctl.proofs.PlacedRows.{placed_all, few_at}
use Rattle.lhg_ctl.proofs.PrintedLines.{HasFewRows, draft_are}

-- ---- what is asked of lists holds of their pieces

few_rows : (k : ℕ) (lists : List (List PlainPiece)) → AllOf IsShortList lists → AllOf HasFewRows (placed_from k lists)
few_rows k [] h = tt
few_rows k (ps ∷ lists) h = all-append HasFewRows (all_at k ps) (placed_from (suc k) lists) (each ps h.0.rows) (few_rows (suc k) lists h.1)
  where
    each : (ps : List PlainPiece) → AllOf (λ rows. length rows ≤ most_line_rows) ps → AllOf HasFewRows (all_at k ps)
    each [] h = tt
    each (p ∷ ps) h = (h.0, each ps h.1)

few_pieces : (lists : List (List PlainPiece)) → AllOf IsShortList lists → AllOf (λ ps. length ps ≤ piece_limit) lists
few_pieces [] h = tt
few_pieces (ps ∷ lists) h = (h.0.few, few_pieces lists h.1)

-- ---- each guard is of a controllable switch

not_ctl : (o : Option PlainSwitch) → is_of is_controllable o ≡ false → (o ≡ None → ⊥) → IsSomeAnd o (λ w. w.side ≡ Env)
not_ctl None e some = absurd (some refl)
not_ctl (Some w) e some = by_side w.side e
  where
    by_side : (s : Side) → is_controllable s ≡ false → s ≡ Env
    by_side Ctl e = absurd cc
    by_side Env e = refl
    by_side Pick e = absurd cc

there : (switches : List PlainSwitch) (e : ℕ) → e < length switches → slice_get switches e ≡ None → ⊥
there [] e h f = omega arith
there (s ∷ switches) zero h f = absurd cc
there (s ∷ switches) (suc e) h f = there switches e (omega arith) f

module _ (a : PlainPlant) (guards : List (List PlainPiece)) (ctl : AreOfController a guards) where
  all_ctl : (k : ℕ) (lists : List (List PlainPiece)) → ((j : ℕ) → get_or lists j [] ≡ get_or guards (k + j) []) → k + length lists ≤ length a.switches → AllOf (IsOfController a) (placed_from k lists)
  all_ctl k [] same few = tt
  all_ctl k (ps ∷ lists) same few =
      all-append (IsOfController a) (all_at k ps) (placed_from (suc k) lists)
      (by_bool (is_of is_controllable (slice_get a.switches k)) (λ e. each ps e)
      (λ e. let none : ps ≡ [] = same 0 ∙ ap (λ j. get_or guards j []) (plus_zero k) ∙ ctl k (not_ctl (slice_get a.switches k) e (there a.switches k (omega arith))) in
      subst (λ qs. AllOf (IsOfController a) (all_at k qs)) (sym none) tt))
      (all_ctl (suc k) lists (λ j. same (suc j) ∙ ap (λ i. get_or guards i []) (plus_suc k j)) (omega arith))
    where
      each : (qs : List PlainPiece) → is_of is_controllable (slice_get a.switches k) ≡ true → AllOf (IsOfController a) (all_at k qs)
      each [] e = tt
      each (q ∷ qs) e = (e, each qs e)

      plus_zero : (n : ℕ) → n + 0 ≡ n
      plus_zero n = omega arith

      plus_suc : (n j : ℕ) → n + suc j ≡ suc n + j
      plus_suc n j = omega arith

-- ---- the text

-- the text of a controller with short lists is read as it is written
pub controller_reads : (a : PlainPlant) (c : PlainController) → IsProper a → IsWrittenController a c → AreOfController a c.guards → IsShortController c → IsControllerText a (lines_of (controller_text a c)) (draft_of c)
unfolding head_line
controller_reads a c proper h ctl short =
    let d = draft_of c in
    let locs = h.locs in
    let switches = h.switches in
    let rest = map (piece_line a) d.pieces ++ (map (guard_line a) d.guards ++ codes "end" ∷ []) in
    let t = lines_read ControllerLine (controller_line First a) rest _
    (draft_are a proper d (placed_all (length a.vars) (length a.locs) 0 c.region (omega (arith, locs)) h.region) (few_rows 0 c.region short.region)
    (placed_all (length a.vars) (length a.switches) 0 c.guards (omega (arith, switches)) h.guards) (all_ctl a c.guards ctl 0 c.guards (λ j. ap (λ (i : ℕ). get_or c.guards i []) (sym (zero-add j))) (omega (arith, switches))) (few_rows 0 c.guards short.guards)) in
    let inner : AllOf IsInner (controller_lines a c) = (record { inner = refl }, t.inner) in
    let head = head_tokens in
    let more = t.are in
    subst (λ lines. IsControllerText a lines d) (sym (lines_back (controller_lines a c) inner))
    (record {
      tokens = head_line ∷ t.tokens;
      are = rw (head, more) refl;
      is = record {
        version = First;
        head = head_line;
        rest = t.tokens;
        lines_are = refl;
        head_is = head_is;
        rest_are = t.say;
        few_pieces = few_at piece_limit 0 c.region (few_pieces c.region short.region);
        few_guards = few_at piece_limit 0 c.guards (few_pieces c.guards short.guards);
        names = (refl, refl);
      };
    })
