-- A report of a plant has one reading.
use Rattle.std.proofs.Common.{◌≡◌, ◌<◌, ℕ, suc, zero, ◌+◌, List, [], ◌∷◌, ◌++◌, length, map, refl, sym, ap, ◌∙◌, subst, arith, append_assoc, append-nil}
use Rattle.std.specs.List.{flat_map}
use Rattle.lhg_math.specs.Tests.{AllOf}
use Rattle.lhg_lex.specs.Lines.{lines_of}
use Rattle.lhg_row.specs.Piece.{PlainPiece}
use Rattle.lhg_plant.specs.Controller.{PlainController}
use Rattle.lhg_plant.specs.Loss.{PlainLoss}
use Rattle.lhg_plant.specs.Plant.{PlainPlant}
use Rattle.lhg_plant.specs.Proper.{IsProper}
use Rattle.lhg_row_text.specs.PrintedLine.{line}
use Rattle.lhg_row_text.proofs.LinesBack.{IsInner, lines_back}
use Rattle.lhg_ctl.specs.Draft.{PlainDraft, draft_of, placed_from}
use Rattle.lhg_text.proofs.Placed.{same_lists}
use Rattle.lhg_ctl.proofs.PlacedRows.{placed_all}
use Rattle.lhg_text.specs.ReportLaws.{PrintedLoss, printed_loss, IsWrittenReport, SameReport}
use Rattle.lhg_text.specs.ReportText.{report_lines, report_text}
use Rattle.lhg_text.proofs.LineValues.{ReportLine, rounds, piece, guard, loss, other, IsLineOf, AreLinesOf, one_values}
use Rattle.lhg_text.proofs.LinesOfReport.{values_of, report_are}

-- ---- the parts of the values

rounds_at : ReportLine → List ℕ
rounds_at (rounds n) = n ∷ []
rounds_at (piece p) = []
rounds_at (guard g) = []
rounds_at (loss l) = []
rounds_at other = []

pieces_at : ReportLine → List (ℕ × PlainPiece)
pieces_at (rounds n) = []
pieces_at (piece p) = p ∷ []
pieces_at (guard g) = []
pieces_at (loss l) = []
pieces_at other = []

guards_at : ReportLine → List (ℕ × PlainPiece)
guards_at (rounds n) = []
guards_at (piece p) = []
guards_at (guard g) = g ∷ []
guards_at (loss l) = []
guards_at other = []

losses_at : ReportLine → List PrintedLoss
losses_at (rounds n) = []
losses_at (piece p) = []
losses_at (guard g) = []
losses_at (loss l) = l ∷ []
losses_at other = []

-- what is picked of two lists
pick-append : {B : Type 0} (f : ReportLine → List B) (xs ys : List ReportLine) → flat_map f (xs ++ ys) ≡ flat_map f xs ++ flat_map f ys
pick-append f [] ys = refl
pick-append f (x ∷ xs) ys = ap (λ zs. f x ++ zs) (pick-append f xs ys) ∙ sym (append_assoc (f x) (flat_map f xs) (flat_map f ys))

map_id : {A : Type 0} (xs : List A) → map (λ x. x) xs ≡ xs
map_id [] = refl
map_id (x ∷ xs) = ap (λ ys. x ∷ ys) (map_id xs)

-- all members are picked
pick_all : {A B : Type 0} (f : ReportLine → List B) (g : A → ReportLine) (k : A → B) → ((x : A) → f (g x) ≡ k x ∷ []) → (xs : List A) → flat_map f (map g xs) ≡ map k xs
pick_all f g k h [] = refl
pick_all f g k h (x ∷ xs) = ap (λ ys. ys ++ flat_map f (map g xs)) (h x) ∙ ap (λ ys. k x ∷ ys) (pick_all f g k h xs)

-- or none
pick_none : {A B : Type 0} (f : ReportLine → List B) (g : A → ReportLine) → ((x : A) → f (g x) ≡ []) → (xs : List A) → flat_map f (map g xs) ≡ []
pick_none f g h [] = refl
pick_none f g h (x ∷ xs) = ap (λ ys. ys ++ flat_map f (map g xs)) (h x) ∙ pick_none f g h xs

-- a line that is not picked, in front of lines and behind them
headed : {B : Type 0} (f : ReportLine → List B) (xs : List ReportLine) → f other ≡ [] → flat_map f (other ∷ xs) ≡ flat_map f xs
headed f xs none = ap (λ ys. ys ++ flat_map f xs) none

tailed : {B : Type 0} (f : ReportLine → List B) (xs : List ReportLine) → f other ≡ [] → flat_map f (xs ++ other ∷ []) ≡ flat_map f xs
tailed f xs none = pick-append f xs (other ∷ []) ∙ ap (λ ys. flat_map f xs ++ (ys ++ [])) none ∙ append-nil (flat_map f xs)

module _ (n : ℕ) (d : PlainDraft) (losses : List PlainLoss) where
  -- what is picked of the lines of a report
  picked : {B : Type 0} (f : ReportLine → List B) (ps gs ls : List B) → f other ≡ [] → flat_map f (map (λ p. piece p) d.pieces) ≡ ps → flat_map f (map (λ g. guard g) d.guards) ≡ gs → flat_map f (map (λ l. loss (printed_loss l)) losses) ≡ ls
      → flat_map f (values_of n d losses) ≡ f (rounds n) ++ ((ps ++ gs) ++ ls)
  picked f ps gs ls none p g l =
      let xs = map (λ p. piece p) d.pieces in
      let ys = map (λ g. guard g) d.guards in
      let zs = map (λ l. loss (printed_loss l)) losses in
      let draft = other ∷ (xs ++ (ys ++ other ∷ [])) in
      let front : flat_map f draft ≡ ps ++ gs = headed f (xs ++ (ys ++ other ∷ [])) none ∙ pick-append f xs (ys ++ other ∷ []) ∙ ap (λ us. us ++ flat_map f (ys ++ other ∷ [])) p ∙ ap (λ us. ps ++ us) (tailed f ys none ∙ g) in
      headed f (rounds n ∷ (draft ++ (zs ++ other ∷ []))) none
      ∙ ap (λ us. f (rounds n) ++ us) (pick-append f draft (zs ++ other ∷ []) ∙ ap (λ us. us ++ flat_map f (zs ++ other ∷ [])) front ∙ ap (λ us. (ps ++ gs) ++ us) (tailed f zs none ∙ l))

  rounds_found : flat_map rounds_at (values_of n d losses) ≡ n ∷ []
  unfolding rounds_at
  rounds_found = picked rounds_at [] [] [] refl (pick_none rounds_at (λ p. piece p) (λ p. refl) d.pieces) (pick_none rounds_at (λ g. guard g) (λ g. refl) d.guards) (pick_none rounds_at (λ l. loss (printed_loss l)) (λ l. refl) losses)

  pieces_found : flat_map pieces_at (values_of n d losses) ≡ d.pieces
  unfolding pieces_at
  pieces_found =
      picked pieces_at d.pieces [] [] refl (pick_all pieces_at (λ p. piece p) (λ p. p) (λ p. refl) d.pieces ∙ map_id d.pieces) (pick_none pieces_at (λ g. guard g) (λ g. refl) d.guards) (pick_none pieces_at (λ l. loss (printed_loss l)) (λ l. refl) losses)
      ∙ append-nil (d.pieces ++ []) ∙ append-nil d.pieces

  guards_found : flat_map guards_at (values_of n d losses) ≡ d.guards
  unfolding guards_at
  guards_found =
      picked guards_at [] d.guards [] refl (pick_none guards_at (λ p. piece p) (λ p. refl) d.pieces) (pick_all guards_at (λ g. guard g) (λ g. g) (λ g. refl) d.guards ∙ map_id d.guards) (pick_none guards_at (λ l. loss (printed_loss l)) (λ l. refl) losses)
      ∙ append-nil d.guards

  losses_found : flat_map losses_at (values_of n d losses) ≡ map printed_loss losses
  unfolding losses_at
  losses_found = picked losses_at [] [] (map printed_loss losses) refl (pick_none losses_at (λ p. piece p) (λ p. refl) d.pieces) (pick_none losses_at (λ g. guard g) (λ g. refl) d.guards) (pick_all losses_at (λ l. loss (printed_loss l)) printed_loss (λ l. refl) losses)

-- ---- lines

pub lines_inner : (a : PlainPlant) (lines : List (List ℕ)) (values : List ReportLine) → AreLinesOf a lines values → AllOf IsInner lines
lines_inner a [] [] h = tt
lines_inner a [] (v ∷ values) h = absurd h
lines_inner a (l ∷ lines) [] h = absurd h
lines_inner a (l ∷ lines) (v ∷ values) h = (record { inner = h.0.says.inner }, lines_inner a lines values h.1)

module _ (a : PlainPlant) (proper : IsProper a) where
  values_are : (n : ℕ) (c : PlainController) (losses : List PlainLoss) → IsWrittenReport a n c losses → AreLinesOf a (report_lines a n c losses) (values_of n (draft_of c) losses)
  values_are n c losses h =
      let r = h.controller.locs in
      let g = h.controller.switches in
      report_are a proper n c losses h.few_rounds (placed_all (length a.vars) (length a.locs) 0 c.region (omega (arith, r)) h.controller.region) (placed_all (length a.vars) (length a.switches) 0 c.guards (omega (arith, g)) h.controller.guards) h.each_loss

  -- the lines are found again in the bytes
  lines_found : (n : ℕ) (c : PlainController) (losses : List PlainLoss) → IsWrittenReport a n c losses → lines_of (report_text a n c losses) ≡ report_lines a n c losses
  lines_found n c losses h = lines_back (report_lines a n c losses) (lines_inner a (report_lines a n c losses) (values_of n (draft_of c) losses) (values_are n c losses h))

same_first : (x y : ℕ) → x ∷ [] ≡ y ∷ [] → x ≡ y
same_first x y h = cc

-- a report of a plant has one reading
pub one_reading : (a : PlainPlant) (m : ℕ) (c : PlainController) (ks : List PlainLoss) (n : ℕ) (d : PlainController) (ls : List PlainLoss)
    → IsProper a → IsWrittenReport a m c ks → IsWrittenReport a n d ls → report_text a m c ks ≡ report_text a n d ls → SameReport m c ks n d ls
one_reading a m c ks n d ls proper h k e =
    let lines : report_lines a m c ks ≡ report_lines a n d ls = sym (lines_found a proper m c ks h) ∙ ap lines_of e ∙ lines_found a proper n d ls k in
    let v = values_of m (draft_of c) ks in
    let w = values_of n (draft_of d) ls in
    let values : v ≡ w = one_values a (report_lines a n d ls) v w (subst (λ x. AreLinesOf a x v) lines (values_are a proper m c ks h)) (values_are a proper n d ls k) in
    let pieces : placed_from 0 c.region ≡ placed_from 0 d.region = sym (pieces_found m (draft_of c) ks) ∙ ap (flat_map pieces_at) values ∙ pieces_found n (draft_of d) ls in
    let guards : placed_from 0 c.guards ≡ placed_from 0 d.guards = sym (guards_found m (draft_of c) ks) ∙ ap (flat_map guards_at) values ∙ guards_found n (draft_of d) ls in
    record {
      rounds = same_first m n (sym (rounds_found m (draft_of c) ks) ∙ ap (flat_map rounds_at) values ∙ rounds_found n (draft_of d) ls);
      region = same_lists 0 c.region d.region (h.controller.locs ∙ sym k.controller.locs) pieces;
      guards = same_lists 0 c.guards d.guards (h.controller.switches ∙ sym k.controller.switches) guards;
      losses = sym (losses_found m (draft_of c) ks) ∙ ap (flat_map losses_at) values ∙ losses_found n (draft_of d) ls;
    }
