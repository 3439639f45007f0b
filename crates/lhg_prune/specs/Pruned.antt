-- Which rows of the last elimination are enough for the piece that a system projects to?
use Rattle.std.specs.Prelude.{◌≡◌, ◌⊎◌, ℕ, zero, suc, ◌+◌, ◌-◌, ◌<◌, ◌≤◌, Bool, true, false, not, [], ◌∷◌, ◌++◌, length, take, drop, filter, Some, None}
use Rattle.std.proofs.Common.{refl, sym, ap, ◌∙◌, arith, subst, inl, inr}
use Rattle.std.proofs.lemmas.List.{take-append-drop, length-take-le, length-drop, length-append}
use Rattle.std.proofs.lemmas.Bool.{and_parts}
use Rattle.std.specs.declared.cmp.Ordering.{Ordering}
use Rattle.std.specs.declared.cmp.Ordering.TheVariants.{Less, Equal, Greater}
use Rattle.lhg_math.specs.Number.{Number, lt, nought}
use Rattle.lhg_math.specs.ListFacts.{all-map}
use Rattle.lhg_math.specs.Tests.{AllOf, by_bool, false_true}
use Rattle.lhg_num.specs.Arithmetic.{Arithmetic, IsLawful, scaled_multiple}
use Rattle.lhg_num.specs.Marked.{each}
use Rattle.lhg_row.specs.Row.{PlainRow, PlainPoint, Holds, holds_at, relaxed}
use Rattle.lhg_row.specs.Piece.{PlainPiece, InPiece, in_piece}
use Rattle.lhg_row.specs.PieceLemmas.{in_piece_is}
use Rattle.lhg_row.specs.Members.{all-filter}
use Rattle.lhg_row.specs.Constant.{is_constant, is_true, is_nothing}
use Rattle.lhg_row.specs.ConstantLaws.{nothing-fails}
use Rattle.lhg_row.specs.ValueLaws.{scaled_row, holds-scaled}
use Rattle.lhg_row.specs.Width.{AllWide}
use Rattle.lhg_row.specs.WidthLaws.{without-wide}
use Rattle.lhg_row.specs.WithoutLaws.{filter-wide}
use Rattle.lhg_row.specs.HasValue.{HasPoint, HasValue, IsEmptiness}
use Rattle.lhg_row.specs.System.{IsSystem}
use Rattle.lhg_row.specs.Trim.{canon, entries_of, tighter, trim, IsTrimmed}
use Rattle.lhg_row.specs.TrimLaws.{row_of-canon, gathered-all, trim-holds}
use Rattle.lhg_row.specs.Eliminate.{pair_at, without, eliminate, eliminate_last}
use Rattle.lhg_row.specs.EliminateLaws.{eliminate-exact}
use Rattle.lhg_row.specs.LastLaws.{eliminate_last-exact, eliminate_last-wide}
use Rattle.lhg_row.specs.Pieces.{are_empty, thin, make, project}
use Rattle.lhg_row.specs.EntailLaws.{are_empty-exact}
use Rattle.lhg_row.specs.MakeLaws.{make-thin}
use Rattle.lhg_elim.specs.SystemLaws.{eliminate_last-system}
use Rattle.lhg_prune.specs.ThinLaws.{thin-filter}
use Rattle.lhg_prune.specs.Directions.{IsByDirection, is_wanted}
use Rattle.lhg_prune.specs.DirectionLaws.{wanted-by_direction}
use Rattle.lhg_prune.specs.TrimFilter.{trim-filter, settled-gathered, no_false}
use Rattle.lhg_prune.specs.Pruning.{IsPruning}
use Rattle.lhg_prune.specs.Touch.{strictly, IsTouchedBy, IsTouched, AreEnough}
use Rattle.lhg_prune.specs.Chosen.{IsSeated, IsChosen}
use Rattle.lhg_prune.specs.SeatLaws.{all-each, seat_told}

-- ---- trim of rows that are touched
-- a positive multiple of a row holds weakly, and has room, where the row does
pub multiple_touched : (a : Arithmetic) (keeps : PlainRow → Bool) → IsByDirection a keeps → (c : PlainPoint) (k : Number) (r : PlainRow) → lt nought k ≡ true → IsTouchedBy keeps c r → IsTouchedBy keeps c (scaled_row k r)
multiple_touched a keeps by c k r h t = record { weak = holds-scaled k (relaxed r) c h ∙ t.weak; room = on t.room }
  where
    on : (keeps r ≡ true) ⊎ Holds (strictly r) c → (keeps (scaled_row k r) ≡ true) ⊎ Holds (strictly (scaled_row k r)) c
    on (inl e) = inl (by.multiple k r h ∙ e)
    on (inr e) = inr (holds-scaled k (strictly r) c h ∙ e)

module _ (a : Arithmetic) (keeps : PlainRow → Bool) (by : IsByDirection a keeps) (laws : IsLawful a) (c : PlainPoint) where
  abbrev Told : PlainRow → Type 0
  Told r = IsTouchedBy keeps c r

  canon_told : (r : PlainRow) → Told r → Told (canon a r).value
  canon_told r h =
      by_bool (is_constant r) (λ e. rw e h)
      (λ e. let m = scaled_multiple a (entries_of r) laws in rw e (subst Told (sym (row_of-canon a r laws)) (multiple_touched a keeps by c m.factor r m.positive h)))

  canons_told : (rows : PlainPiece) → AllOf Told rows → AllOf (λ r. Told (canon a r).value) rows
  canons_told [] h = tt
  canons_told (r ∷ rows) h = (canon_told r h.0, canons_told rows h.1)

  tighter_told : (o : Ordering) (s r : PlainRow) → Told s → Told r → Told (tighter o s r)
  tighter_told Less s r h k = k
  tighter_told Equal s r h k = record { weak = h.weak; room = on h.room }
    where
      on : (keeps s ≡ true) ⊎ Holds (strictly s) c → (keeps (tighter Equal s r) ≡ true) ⊎ Holds (strictly (tighter Equal s r)) c
      on (inl e) = inl (by.coefs (tighter Equal s r) s refl ∙ e)
      on (inr e) = inr e
  tighter_told Greater s r h k = h

  -- what trim leaves of such rows
  trim_told : (rows : PlainPiece) (x : PlainPoint) → in_piece rows x ≡ true → AllOf Told rows → AllOf Told (trim a rows).value
  unfolding trim
  trim_told rows x i h =
      let all = (each (canon a) rows).value in
      let told : AllOf Told all = all-each Told (canon a) rows (canons_told rows h) in
      let rest = filter (λ s. not (is_true s)) all in
      subst (AllOf Told) (sym (settled-gathered a keeps by all (no_false a keeps by laws rows x i)))
      (gathered-all a Told tighter_told [] rest tt (all-filter Told (λ s. not (is_true s)) all told))

-- ---- the piece
-- rows with a point are not empty
not_empty : (a : Arithmetic) (n : ℕ) (rows : PlainPiece) → IsLawful a → AllWide n rows → HasPoint n rows → (are_empty a n rows).value ≡ false
not_empty a n rows laws w p =
    by_bool (are_empty a n rows).value
    (λ e. absurd ((subst (IsEmptiness n rows) e (are_empty-exact a n rows laws w)) p.point p.wide p.holds))
    (λ e. e)

-- some of the rows hold where all do
fewer_hold : (keeps : PlainRow → Bool) (x : PlainPoint) (rows : PlainPiece) → in_piece rows x ≡ true → in_piece (filter keeps rows) x ≡ true
fewer_hold keeps x [] i = refl
fewer_hold keeps x (r ∷ rows) i =
    let q = and_parts (holds_at r x) (in_piece rows x) i in
    by_bool (keeps r) (λ e. rw (e, q.0, fewer_hold keeps x rows q.1) refl) (λ e. rw e (fewer_hold keeps x rows q.1))

-- of a trimmed list with a point, the rows that are kept are trimmed
pub filter-trimmed : (a : Arithmetic) (n : ℕ) (rows : PlainPiece) → IsLawful a → (keeps : PlainRow → Bool) → IsByDirection a keeps → IsTrimmed a rows → HasPoint n rows → IsTrimmed a (filter keeps rows)
filter-trimmed a n rows laws keeps by t p = trim-filter a keeps by laws rows p.point ((in_piece_is rows p.point).0 p.holds) ∙ ap (filter keeps) t

-- and make its piece, where they are enough
pub thin_piece : (a : Arithmetic) (n : ℕ) → IsLawful a → (rows : PlainPiece) (keeps : PlainRow → Bool) → IsByDirection a keeps → IsSystem a n rows → HasPoint n rows → AreEnough n rows keeps
    → (make a n rows).value ≡ (make a n (filter keeps rows)).value
thin_piece a n laws rows keeps by s p enough =
    let fewer = filter keeps rows in
    let pf : HasPoint n fewer = record { point = p.point; wide = p.wide; holds = (in_piece_is fewer p.point).1 (fewer_hold keeps p.point rows ((in_piece_is rows p.point).0 p.holds)) } in
    make-thin a n rows (not_empty a n rows laws s.wide p)
    ∙ ap (λ rs. Some (thin a n (length rs) rs).value) s.trimmed
    ∙ ap Some (thin-filter a n laws rows keeps enough s.wide)
    ∙ ap (λ rs. Some (thin a n (length rs) rs).value) (sym (filter-trimmed a n rows laws keeps by s.trimmed p))
    ∙ sym (make-thin a n fewer (not_empty a n fewer laws (filter-wide n keeps rows s.wide) pf))

-- ---- the last elimination
-- the variable that is eliminated last
last_first : (a : Arithmetic) (kept count : ℕ) (rows : PlainPiece)
    → (eliminate_last a kept (suc count) rows).value ≡ (eliminate a kept (eliminate_last a (kept + 1) count rows).value).value
last_first a kept zero rows = let e : kept + 0 ≡ kept = omega arith in ap (λ k. (eliminate a k rows).value) e
last_first a kept (suc count) rows =
    let e : kept + suc count ≡ kept + 1 + count = omega arith in
    last_first a kept count (eliminate a (kept + suc count) rows).value
    ∙ ap (λ k. (eliminate a kept (eliminate_last a (kept + 1) count (eliminate a k rows).value).value).value) e

-- a point of the rows gives one of what is left
pub point_left : (a : Arithmetic) (kept count n : ℕ) (rows : PlainPiece) → IsLawful a → n ≡ kept + count → AllWide n rows → HasPoint n rows → HasPoint kept (eliminate_last a kept count rows).value
point_left a kept count n rows laws e w p =
    let z = p.point in
    let few : kept ≤ length z = omega (arith, e, p.wide) in
    let l : length (take kept z) ≡ kept = length-take-le kept z few in
    record {
      point = take kept z;
      wide = l;
      holds = (eliminate_last-exact a kept count n rows (take kept z) laws e w l).1
          (record { later = drop kept z; many = length-drop kept z ∙ omega (arith, e, p.wide); inside = subst (InPiece rows) (sym (take-append-drop kept z)) p.holds });
    }

-- and a point of what is left one of the rows
point_before : (a : Arithmetic) (kept count n : ℕ) (rows : PlainPiece) → IsLawful a → n ≡ kept + count → AllWide n rows → HasPoint kept (eliminate_last a kept count rows).value → HasPoint n rows
point_before a kept count n rows laws e w p =
    let c = (eliminate_last-exact a kept count n rows p.point laws e w p.wide).0 p.holds in
    record { point = p.point ++ c.later; wide = let m = c.many in let l = p.wide in length-append p.point c.later ∙ omega (arith, e, m, l); holds = c.inside }

-- the last elimination of the rows before it leaves what is left of all
pub last_left : (a : Arithmetic) (n keep : ℕ) (rows before : PlainPiece) → keep < n → before ≡ (eliminate_last a (keep + 1) (n - (keep + 1)) rows).value
    → (eliminate_last a keep (keep + 1 - keep) before).value ≡ (eliminate_last a keep (n - keep) rows).value
last_left a n keep rows before h e =
    let count = n - (keep + 1) in
    let one : keep + 1 - keep ≡ suc zero = omega arith in
    let m : n - keep ≡ suc count = omega (arith, h) in
    ap (λ c. (eliminate_last a keep c before).value) one
    ∙ last_first a keep zero before
    ∙ ap (λ rs. (eliminate a keep rs).value) e
    ∙ sym (last_first a keep count rows)
    ∙ ap (λ c. (eliminate_last a keep c rows).value) (sym m)

-- the rows before the last elimination are over one variable more
pub before-wide : (a : Arithmetic) (n keep : ℕ) (rows before : PlainPiece) → IsLawful a → keep < n → AllWide n rows → before ≡ (eliminate_last a (keep + 1) (n - (keep + 1)) rows).value → AllWide (keep + 1) before
before-wide a n keep rows before laws h w is =
    let first : n ≡ keep + 1 + (n - (keep + 1)) = omega (arith, h) in
    subst (AllWide (keep + 1)) (sym is) (eliminate_last-wide a (keep + 1) (n - (keep + 1)) n rows laws first w)

-- what a test leaves out of a list is told of the rows that pass it
all_passed : (Q : PlainRow → Type 0) (keeps : PlainRow → Bool) (rows : PlainPiece) → AllOf Q (filter keeps rows) → AllOf (λ r. keeps r ≡ true → Q r) rows
all_passed Q keeps [] h = tt
all_passed Q keeps (r ∷ rows) h =
    by_bool (keeps r)
    (λ e. let g : Q r × AllOf Q (filter keeps rows) = rw e at h in ((λ f. g.0), all_passed Q keeps rows g.1))
    (λ e. let g : AllOf Q (filter keeps rows) = rw e at h in ((λ f. false_true (sym e ∙ f)), all_passed Q keeps rows g))

module _ (a : Arithmetic) (keep : ℕ) (laws : IsLawful a) (before : PlainPiece) (w : AllWide (keep + 1) before) (some : HasPoint (keep + 1) before) (alone : (pair_at a keep 0 before).value ≡ None)
    (keeps : PlainRow → Bool) (by : IsByDirection a keeps) where
  abbrev formed : PlainPiece
  formed = (without a keep before None).value

  abbrev left : PlainPiece
  left = (trim a formed).value

  more : keep + 1 ≡ suc keep
  more = omega arith

  wide : AllWide (suc keep) before
  wide = subst (λ m. AllWide m before) more w

  -- the elimination is the trim of what is formed
  elimination : (eliminate a keep before).value ≡ left
  unfolding eliminate
  elimination =
      by_bool (is_nothing before)
      (λ e. false_true (sym (nothing-fails before some.point e) ∙ (in_piece_is before some.point).0 some.holds))
      (λ e. rw e (ap (λ o. (trim a (without a keep before o).value).value) alone))

  formed-wide : AllWide keep formed
  formed-wide = subst (λ o. AllWide keep (without a keep before o).value) alone (without-wide a keep keep before (omega arith) wide)

  -- the points of what is left are those that some value completes
  points : (x : PlainPoint) → length x ≡ keep → HasValue keep before x → in_piece left x ≡ true
  points x l h = (in_piece_is left x).0 (subst (λ rs. InPiece rs x) elimination ((eliminate-exact a keep (suc keep) before x laws (omega arith) (ap suc (sym l)) wide).1 h))

  module _ (p : HasPoint keep left) where
    -- the point is one of what is formed
    formed_there : in_piece formed p.point ≡ true
    formed_there = sym (trim-holds a formed p.point laws) ∙ (in_piece_is left p.point).0 p.holds

    -- a seated row is touched
    touched : (r : PlainRow) → IsSeated a keep before keeps r → IsTouched keep left keeps r
    touched r s =
        let t = seat_told a keep before keeps s.point wide s.seat in
        record {
          point = take keep s.point;
          wide = t.0;
          touches = trim_told a keeps by laws (take keep s.point) formed p.point formed_there t.1;
          tight = s.tight;
        }

    -- so are all that pass the test, if each of these is seated
    pub enough : (chosen : PlainPiece) → chosen ≡ filter keeps left → ((x : PlainPoint) → length x ≡ keep → in_piece chosen x ≡ true → HasValue keep before x) → AllOf (IsSeated a keep before keeps) chosen
        → AreEnough keep left keeps
    enough chosen is few seated = record {
      points = λ x l i. points x l (few x l (ap (λ rs. in_piece rs x) is ∙ i));
      touched = all_passed (IsTouched keep left keeps) keeps left (all-map (IsSeated a keep before keeps) (IsTouched keep left keeps) touched (filter keeps left) (subst (AllOf (IsSeated a keep before keeps)) is seated));
    }

-- the rows that are chosen are a pruning
pub chosen-pruning : (a : Arithmetic) (n keep : ℕ) (rows before chosen : PlainPiece) → IsLawful a → keep < n → AllWide n rows
    → before ≡ (eliminate_last a (keep + 1) (n - (keep + 1)) rows).value → (pair_at a keep 0 before).value ≡ None → IsChosen a keep before chosen → IsPruning a n keep rows chosen
chosen-pruning a n keep rows before chosen laws h w e alone f =
    let keeps = is_wanted a f.choice.wanted in
    let by = wanted-by_direction a f.choice.wanted in
    let count = n - (keep + 1) in
    let m : n - keep ≡ suc count = omega (arith, h) in
    let first : n ≡ keep + 1 + count = omega (arith, h) in
    let all : n ≡ keep + suc count = omega (arith, h) in
    let wb : AllWide (keep + 1) before = before-wide a n keep rows before laws h w e in
    let pb : HasPoint (keep + 1) before = f.some in
    let p : HasPoint n rows = point_before a (keep + 1) count n rows laws first w (subst (HasPoint (keep + 1)) e pb) in
    let made = (without a keep before None).value in
    let is : (eliminate_last a keep (suc count) rows).value ≡ (trim a made).value =
    last_first a keep count rows ∙ ap (λ rs. (eliminate a keep rs).value) (sym e) ∙ elimination a keep laws before wb pb alone keeps by in
    let pl : HasPoint keep (trim a made).value = subst (HasPoint keep) is (point_left a keep (suc count) n rows laws all w p) in
    let left : (eliminate_last a keep (n - keep) rows).value ≡ (trim a made).value = ap (λ c. (eliminate_last a keep c rows).value) m ∙ is in
    let fewer : chosen ≡ filter keeps (trim a made).value = f.choice.is ∙ trim-filter a keeps by laws made pl.point (formed_there a keep laws before wb pb alone keeps by pl) in
    record {
      some = p;
      keeps = keeps;
      by = by;
      is = fewer ∙ ap (filter keeps) (sym left);
      enough = subst (λ rs. AreEnough keep rs keeps) (sym left) (enough a keep laws before wb pb alone keeps by pl chosen fewer f.points f.choice.seated);
    }

-- the piece of what is left is that of its pruning
pub pruning-piece : (a : Arithmetic) (n keep : ℕ) (rows kept : PlainPiece) → IsLawful a → keep ≤ n → IsSystem a n rows → (p : IsPruning a n keep rows kept)
    → (project a n keep rows).value ≡ (make a keep (filter p.keeps (eliminate_last a keep (n - keep) rows).value)).value
pruning-piece a n keep rows kept laws h s p =
    let all : n ≡ keep + (n - keep) = omega (arith, h) in
    let left = (eliminate_last a keep (n - keep) rows).value in
    let sl : IsSystem a keep left = eliminate_last-system a keep (n - keep) n rows laws all s in
    let pl : HasPoint keep left = point_left a keep (n - keep) n rows laws all s.wide p.some in
    thin_piece a keep laws left p.keeps p.by sl pl p.enough
