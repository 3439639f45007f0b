-- The lists that are made of lines hold pieces inside the invariants.
use Rattle.std.proofs.Common.{◌≡◌, ◌≢◌, ◌<◌, ℕ, zero, suc, List, [], ◌∷◌, ◌++◌, length, get_or, set, replicate, refl, sym, ap, ◌∙◌, subst, true, ◌==◌, ◌&&◌, Option, Some, None, eqb-true, arith}
use Rattle.std.specs.Prelude.{slice_get, IfSome, IsSomeAnd}
use Rattle.std.proofs.lemmas.Bool.{and_parts}
use Rattle.std.proofs.lemmas.List.{get_or-set_same, get_or-set_other}
use Rattle.lhg_math.specs.Tests.{AllOf, by_bool, false_true}
use Rattle.lhg_num.specs.FracArithmetic.{frac_arithmetic}
use Rattle.lhg_num.specs.Marked.{walk}
use Rattle.lhg_row.specs.EliminateLaws.{in_piece-append}
use Rattle.lhg_row.specs.Members.{all-append}
use Rattle.lhg_row.specs.Piece.{PlainPiece, InPiece, in_piece}
use Rattle.lhg_row.specs.PieceFacts.{IsPoly, AllPolys, IsMade}
use Rattle.lhg_row.specs.PieceLemmas.{in_piece_is}
use Rattle.lhg_row.specs.Row.{PlainPoint}
use Rattle.lhg_plant.specs.declared.plants.Side.TheVariants.{Env}
use Rattle.lhg_plant.specs.Inside.{AllInside}
use Rattle.lhg_plant.specs.Plant.{PlainLocation, PlainSwitch, PlainPlant}
use Rattle.lhg_plant.specs.Proper.{IsProper, IsSwitch}
use Rattle.lhg_plant.specs.Sound.{IsInside}
use Rattle.lhg_read.proofs.Collecting.{same_eq}
use Rattle.lhg_ctl.specs.Conditions.{IsInsideController}
use Rattle.lhg_read.specs.SwitchName.{is_controllable, is_of}
use Rattle.lhg_ctl.specs.Draft.{PlainDraft}
use Rattle.lhg_ctl.specs.DraftStates.{IsPlaced, IsOfController, IsDraft}
use Rattle.lhg_ctl.specs.Making.{made_in, put, inv_in, inv_at, source_in, source_at, line_made, all_made, controller_of}
use Rattle.lhg_ctl.proofs.MakingExact.{put-length, inv_wide, made_in-exact}

-- ---- what holds of each piece that is put

-- what holds of the members of the lists and of a piece holds where this is put
put-all : (P : ℕ → PlainPiece → Type 0) (lists : List (List PlainPiece)) (k : ℕ) (o : Option PlainPiece) → k < length lists → IfSome o (P k) → ((j : ℕ) → AllOf (P j) (get_or lists j [])) → (j : ℕ) → AllOf (P j) (get_or (put lists k o).value j [])
put-all P lists k None lt g h j = h j
put-all P lists k (Some p) lt g h j =
    let ps = get_or lists k [] ++ p ∷ [] in
    by_bool (k == j)
    (λ e. let same : k ≡ j = eqb-true k j e in
    subst (λ (i : ℕ). AllOf (P i) (get_or (set lists k ps) i [])) same (subst (AllOf (P k)) (sym (get_or-set_same lists k ps [] lt)) (all-append (P k) (get_or lists k []) (p ∷ []) (h k) (g, tt))))
    (λ e. let apart : j ≢ k = λ f. false_true (sym e ∙ ap (λ (i : ℕ). k == i) f ∙ same_eq k) in
    subst (AllOf (P j)) (sym (get_or-set_other lists k j ps [] apart)) (h j))

module _ (a : PlainPlant) (loc : ℕ → ℕ) (P : ℕ → PlainPiece → Type 0) (count : ℕ)
    (good : (p : ℕ × PlainPiece) → IsPlaced (length a.vars) count p → IfSome (made_in (length a.vars) (inv_at a (loc p.0)) p.1).value (P p.0)) where
  walk-all : (lists : List (List PlainPiece)) (ps : List (ℕ × PlainPiece)) → count ≡ length lists → AllOf (IsPlaced (length a.vars) count) ps → ((j : ℕ) → AllOf (P j) (get_or lists j []))
      → (j : ℕ) → AllOf (P j) (get_or (walk (line_made a loc) lists ps).value j [])
  walk-all lists [] e h all = all
  walk-all lists (p ∷ ps) e h all =
      let o = (made_in (length a.vars) (inv_at a (loc p.0)) p.1).value in
      walk-all (line_made a loc lists p).value ps (e ∙ sym (put-length lists p.0 o)) h.1 (put-all P lists p.0 o (subst (λ (n : ℕ). p.0 < n) e h.0.place) (good p h.0) all)

  -- each piece that is made
  made-all : (ps : List (ℕ × PlainPiece)) → AllOf (IsPlaced (length a.vars) count) ps → (j : ℕ) → AllOf (P j) (get_or (all_made a loc count ps).value j [])
  made-all ps h = walk-all (replicate count []) ps (size count) h (none count)
    where
      size : (n : ℕ) → n ≡ length (replicate n (let e : List PlainPiece = [] in e))
      size zero = refl
      size (suc n) = ap (λ (k : ℕ). suc k) (size n)

      nothing : (Q : PlainPiece → Type 0) (n j : ℕ) → AllOf Q (get_or (replicate n (let e : List PlainPiece = [] in e)) j [])
      nothing Q zero j = tt
      nothing Q (suc n) zero = tt
      nothing Q (suc n) (suc j) = nothing Q n j

      none : (n j : ℕ) → AllOf (P j) (get_or (replicate n (let e : List PlainPiece = [] in e)) j [])
      none n j = nothing (P j) n j

-- ---- how many lists, and which of them stay empty

walk-length : (a : PlainPlant) (loc : ℕ → ℕ) (lists : List (List PlainPiece)) (ps : List (ℕ × PlainPiece)) → length (walk (line_made a loc) lists ps).value ≡ length lists
walk-length a loc lists [] = refl
walk-length a loc lists (p ∷ ps) = walk-length a loc (line_made a loc lists p).value ps ∙ put-length lists p.0 (made_in (length a.vars) (inv_at a (loc p.0)) p.1).value

made-length : (a : PlainPlant) (loc : ℕ → ℕ) (count : ℕ) (ps : List (ℕ × PlainPiece)) → length (all_made a loc count ps).value ≡ count
made-length a loc count ps = walk-length a loc (replicate count []) ps ∙ size count
  where
    size : (n : ℕ) → length (replicate n (let e : List PlainPiece = [] in e)) ≡ n
    size zero = refl
    size (suc n) = ap (λ (k : ℕ). suc k) (size n)

put-other : (lists : List (List PlainPiece)) (k j : ℕ) (o : Option PlainPiece) → j ≢ k → get_or (put lists k o).value j [] ≡ get_or lists j []
put-other lists k j None h = refl
put-other lists k j (Some p) h = get_or-set_other lists k j (get_or lists k [] ++ p ∷ []) [] h

walk-other : (a : PlainPlant) (loc : ℕ → ℕ) (j : ℕ) (lists : List (List PlainPiece)) (ps : List (ℕ × PlainPiece)) → AllOf (λ p. j ≢ p.0) ps → get_or (walk (line_made a loc) lists ps).value j [] ≡ get_or lists j []
walk-other a loc j lists [] h = refl
walk-other a loc j lists (p ∷ ps) h =
    walk-other a loc j (line_made a loc lists p).value ps h.1 ∙ put-other lists p.0 j (made_in (length a.vars) (inv_at a (loc p.0)) p.1).value h.0

none-made : (a : PlainPlant) (loc : ℕ → ℕ) (count j : ℕ) (ps : List (ℕ × PlainPiece)) → AllOf (λ p. j ≢ p.0) ps → get_or (all_made a loc count ps).value j [] ≡ []
none-made a loc count j ps h = walk-other a loc j (replicate count []) ps h ∙ empty count j
  where
    empty : (n k : ℕ) → get_or (replicate n (let e : List PlainPiece = [] in e)) k [] ≡ []
    empty zero k = refl
    empty (suc n) zero = refl
    empty (suc n) (suc k) = empty n k

-- ---- inside

-- a piece over the plant's variables that lies inside the invariant of a location
record IsKept (a : PlainPlant) (l : ℕ) (p : PlainPiece) : Type 0 where
  poly : IsPoly frac_arithmetic (length a.vars) p
  inside : IsInside a l p

there : (locs : List PlainLocation) (l : ℕ) (x : PlainPoint) → l < length locs → in_piece (inv_in (slice_get locs l)) x ≡ true → IsSomeAnd (slice_get locs l) (λ y. InPiece y.inv x)
there [] l x h e = absurd (omega arith)
there (y ∷ locs) zero x h e = (in_piece_is y.inv x).1 e
there (y ∷ locs) (suc l) x h e = there locs l x (omega arith) e

made-kept : (a : PlainPlant) → IsProper a → (l : ℕ) (rows : PlainPiece) → l < length a.locs → (wide : IsPlaced (length a.vars) (length a.locs) (l, rows)) → IfSome (made_in (length a.vars) (inv_at a l) rows).value (IsKept a l)
made-kept a proper l rows lt wide = by_piece (made_in n (inv_at a l) rows).value (made_in-exact n (inv_at a l) rows (inv_wide n a.locs l proper.locs) wide.wide)
  where
    n : ℕ
    n = length a.vars

    all : PlainPiece
    all = inv_at a l ++ rows

    by_piece : (o : Option PlainPiece) → IsMade frac_arithmetic n all o → IfSome o (IsKept a l)
    by_piece None h = tt
    by_piece (Some p) h = record {
      poly = h.poly;
      inside = λ x fits k.
          let e : (in_piece (inv_at a l) x && in_piece rows x) ≡ true = sym (in_piece-append (inv_at a l) rows x) ∙ sym (h.points x fits) ∙ (in_piece_is p x).0 k in
          record { fits = fits; inside = there a.locs l x lt (and_parts (in_piece (inv_at a l) x) (in_piece rows x) e).0 };
    }

-- the parts of what holds of each
polys_in : (a : PlainPlant) (l : ℕ) (ps : List PlainPiece) → AllOf (IsKept a l) ps → AllPolys frac_arithmetic (length a.vars) ps
polys_in a l [] h = tt
polys_in a l (p ∷ ps) h = (h.0.poly, polys_in a l ps h.1)

inside_in : (a : PlainPlant) (l : ℕ) (ps : List PlainPiece) → AllOf (IsKept a l) ps → AllInside a l ps
inside_in a l [] h = tt
inside_in a l (p ∷ ps) h = (h.0.inside, inside_in a l ps h.1)

all_lists : (P : List PlainPiece → Type 0) (lists : List (List PlainPiece)) → ((j : ℕ) → P (get_or lists j [])) → AllOf P lists
all_lists P [] h = tt
all_lists P (ps ∷ lists) h = (h 0, all_lists P lists (λ j. h (suc j)))

-- the switch at a place leaves a location of the plant
source_below : (n m : ℕ) (switches : List PlainSwitch) (e : ℕ) → e < length switches → AllOf (IsSwitch n m) switches → source_in (slice_get switches e) < m
source_below n m [] e h k = absurd (omega arith)
source_below n m (w ∷ switches) zero h k = k.0.from
source_below n m (w ∷ switches) (suc e) h k = source_below n m switches e (omega arith) k.1

by_source : (a : PlainPlant) (o : Option PlainSwitch) (ps : List PlainPiece) → AllInside a (source_in o) ps → IfSome o (λ w. AllInside a w.from ps)
by_source a None ps h = tt
by_source a (Some w) ps h = h

-- no guard of a controllable switch is one of a switch of the plant
apart : (a : PlainPlant) (e : ℕ) → IsSomeAnd (slice_get a.switches e) (λ w. w.side ≡ Env) → (gs : List (ℕ × PlainPiece)) → AllOf (IsOfController a) gs → AllOf (λ g. e ≢ g.0) gs
apart a e env [] h = tt
apart a e env (g ∷ gs) h = ((λ f. never (slice_get a.switches e) env (ap (λ (i : ℕ). is_of is_controllable (slice_get a.switches i)) f ∙ h.0)), apart a e env gs h.1)
  where
    never : (o : Option PlainSwitch) → IsSomeAnd o (λ w. w.side ≡ Env) → is_of is_controllable o ≡ true → ⊥
    never None k t = absurd k
    never (Some w) k t = false_true (sym (ap is_controllable k) ∙ t)

pub made_inside : (a : PlainPlant) (d : PlainDraft) → IsProper a → IsDraft a d → IsInsideController a (controller_of a d).value
unfolding controller_of
made_inside a d proper h =
    let n = length a.vars in
    let region = made-all a (λ l. l) (IsKept a) (length a.locs) (λ p k. made-kept a proper p.0 p.1 k.place k) d.pieces h.pieces in
    let below = λ (p : ℕ × PlainPiece) (k : IsPlaced n (length a.switches) p). source_below n (length a.locs) a.switches p.0 k.place proper.switches in
    let guards = made-all a (source_at a) (λ e. IsKept a (source_at a e)) (length a.switches) (λ p k. made-kept a proper (source_at a p.0) p.1 (below p k) (record { place = below p k; wide = k.wide })) d.guards h.guards in
    let lists = (all_made a (λ l. l) (length a.locs) d.pieces).value in
    let gss = (all_made a (source_at a) (length a.switches) d.guards).value in
    record {
      locs = made-length a (λ l. l) (length a.locs) d.pieces;
      switches = made-length a (source_at a) (length a.switches) d.guards;
      region_polys = all_lists (AllPolys frac_arithmetic n) lists (λ l. polys_in a l (get_or lists l []) (region l));
      guard_polys = λ e. polys_in a (source_at a e) (get_or gss e []) (guards e);
      inside = record {
        region = λ l. inside_in a l (get_or lists l []) (region l);
        guards = λ e. by_source a (slice_get a.switches e) (get_or gss e []) (inside_in a (source_at a e) (get_or gss e []) (guards e));
      };
      ctl = λ e env. none-made a (source_at a) (length a.switches) e d.guards (apart a e env d.guards h.ctl);
    }
