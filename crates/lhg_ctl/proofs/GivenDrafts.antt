-- A controller that is read can be made and printed: what its lines say is right.
use Rattle.std.proofs.Common.{◌≡◌, ◌<◌, ◌≤◌, ◌+◌, ◌⊎◌, inl, inr, ℕ, zero, suc, List, [], ◌∷◌, ◌++◌, length, map, refl, ap, ◌∙◌, subst, true, false, ◌&&◌, ◌||◌, ◌==◌, Option, Some, None, arith, nat_le, codes, decimal}
use Rattle.std.specs.Prelude.{slice_get, if◌then◌else◌, ◌^◌}
use Rattle.std.specs.Option.{option_and_then, option_map}
use Rattle.std.specs.Str.{bytes_eq}
use Rattle.std.proofs.lemmas.Bool.{and_parts}
use Rattle.std.proofs.lemmas.Bool.Decides.{nat_tests}
use Rattle.std.proofs.lemmas.Fmt.{decimal_injective}
use Rattle.std.proofs.lemmas.List.{length-map}
use Rattle.std.proofs.lemmas.Option.{none-some, same_Some, cond_some, option_and_then_some}
use Rattle.std.proofs.lemmas.Slice.Eq.{bytes_eq-Decides}
use Rattle.lhg_math.specs.Tests.{AllOf, by_bool}
use Rattle.lhg_row.specs.Members.{all_split}
use Rattle.lhg_row.specs.Piece.{PlainPiece}
use Rattle.lhg_lex.specs.LineTokens.{Spot}
use Rattle.lhg_lex.specs.PlainToken.{PlainToken}
use Rattle.lhg_plant.specs.Differ.{is_among, all_differ}
use Rattle.lhg_plant.specs.Plant.{PlainPlant}
use Rattle.lhg_plant.specs.Proper.{IsProper}
use Rattle.lhg_read.specs.Listed.{alone}
use Rattle.lhg_read.specs.Names.{name_of}
use Rattle.lhg_read.specs.PlantSteps.{loc_names, switch_names}
use Rattle.lhg_read.specs.Rows.{rows_of}
use Rattle.lhg_read.specs.Signs.{is_word}
use Rattle.lhg_read.specs.StateText.{location_in}
use Rattle.lhg_read.specs.Term.{place_of}
use Rattle.lhg_read.specs.declared.forms.Form.TheVariants.{Plain}
use Rattle.lhg_read.proofs.Answered.{one_of, was_there}
use Rattle.lhg_read.proofs.LineRows.{rows_read}
use Rattle.lhg_read.proofs.PairSteps.{place_below}
use Rattle.lhg_read.proofs.VariableSteps.{differ_more}
use Rattle.lhg_ctl.specs.ControllerGrammar.{said_rounds, named_guards, said_guards, said_lines, AreNames, IsController}
use Rattle.lhg_ctl.specs.ControllerLine.{ControllerLine, rounds, piece, guard, end, most_rounds, placed_rows, guard_of, named_guard, guard_by, controller_by, rounds_line, controller_line}
use Rattle.lhg_read.specs.SwitchName.{is_controllable, is_of, switch_in}
use Rattle.lhg_ctl.specs.Draft.{PlainDraft, guard_name, guard_names}
use Rattle.lhg_ctl.specs.DraftStates.{IsPlaced, IsOfController, IsGiven, IsGivenDraft}
use Rattle.lhg_read.specs.Numbered.{natural_in, in_digits, numbered}
use Rattle.lhg_ctl.specs.declared.versions.Version.{Version}
use Rattle.lhg_ctl.specs.declared.versions.Version.TheVariants.{First, Second}
use Rattle.lhg_ctl.proofs.ControllerRuns.{line_in, names_one}

-- ---- one line

-- a piece or a guard at one of so many places, whose rows a line gives
record IsGivenAt (n count : ℕ) (p : ℕ × PlainPiece) : Type 0 where
  placed : IsPlaced n count p
  given : IsGiven p.1

-- what a line may say
abbrev IsGood : PlainPlant → ControllerLine → Type 0
IsGood a (rounds n) = n ≤ most_rounds
IsGood a (piece p) = IsGivenAt (length a.vars) (length a.locs) p
IsGood a (guard name g) = IsGivenAt (length a.vars) (length a.switches) g × IsOfController a g
IsGood a end = Unit {0}

module _ (a : PlainPlant) (proper : IsProper a) where
  -- a name with a place and rows
  placed_good : (place : PlainToken → Option ℕ) (P : ℕ → Type 0) → ((token : PlainToken) (k : ℕ) → place token ≡ Some k → P k) → (tokens : List PlainToken) (x : ℕ × PlainPiece) → placed_rows a place tokens ≡ Some x
      → P x.0 × ((count : ℕ) → x.0 < count → IsGivenAt (length a.vars) count x)
  placed_good place P good [] x e = absurd (none-some x e)
  placed_good place P good (name ∷ rows) x e =
      option_and_then_some _ (place name) x e (λ k is f.
      let m = was_there (λ (r : PlainPiece). (k, r)) (rows_of Plain a.vars rows) x f in
      let r = rows_read Plain a.vars rows m.0 proper.few_vars m.1 in
      subst (λ (y : ℕ × PlainPiece). P y.0 × ((count : ℕ) → y.0 < count → IsGivenAt (length a.vars) count y)) m.2
      (good name k is, λ count lt. record { placed = record { place = lt; wide = r.line.wide }; given = record { few = r.line.few; vary = r.vary } }))

  location_good : (token : PlainToken) (k : ℕ) → location_in a token ≡ Some k → k < length a.locs
  location_good token k e = option_and_then_some _ (name_of token) k e (λ w is f. subst (λ (n : ℕ). k < n) (length-map a.locs (λ l. l.name)) (place_below w (loc_names a.locs) (Some k) f))

  -- a location with rows can be made
  pub location_placed : (tokens : List PlainToken) (x : ℕ × PlainPiece) → placed_rows a (location_in a) tokens ≡ Some x → IsPlaced (length a.vars) (length a.locs) x
  location_placed tokens x e = let p = placed_good (location_in a) (λ k. k < length a.locs) location_good tokens x e in (p.1 (length a.locs) p.0).placed

  -- a switch on the controller's side
  record IsThere (k : ℕ) : Type 0 where
    below : k < length a.switches
    side : is_of is_controllable (slice_get a.switches k) ≡ true

  switch_good : (token : PlainToken) (k : ℕ) → switch_in is_controllable a token ≡ Some k → IsThere k
  switch_good token k e =
      option_and_then_some _ (option_and_then (λ w. place_of w (switch_names a.switches)) (name_of token)) k e (λ j at f.
      option_and_then_some _ (name_of token) j at (λ w is g.
      let c = cond_some (is_of is_controllable (slice_get a.switches j)) j k f in
      subst IsThere c.1 (record { below = subst (λ (n : ℕ). j < n) (length-map a.switches (λ s. s.name)) (place_below w (switch_names a.switches) (Some j) g); side = c.0 })))

  piece_good : (tokens : List PlainToken) (l : ControllerLine) → option_map (λ x. piece x) (placed_rows a (location_in a) tokens) ≡ Some l → IsGood a l
  piece_good tokens l e =
      let m = was_there (λ x. piece x) (placed_rows a (location_in a) tokens) l e in
      let p = placed_good (location_in a) (λ k. k < length a.locs) location_good tokens m.0 m.1 in
      subst (IsGood a) m.2 (p.1 (length a.locs) p.0)

  guard_good : (name : Option (List ℕ)) (tokens : List PlainToken) (l : ControllerLine) → guard_of a name tokens ≡ Some l → IsGood a l
  guard_good name tokens l e =
      let m = was_there (λ g. guard name g) (placed_rows a (switch_in is_controllable a) tokens) l e in
      let p = placed_good (switch_in is_controllable a) IsThere switch_good tokens m.0 m.1 in
      subst (IsGood a) m.2 (p.1 (length a.switches) p.0.below, p.0.side)

  named_good : (tokens : List PlainToken) (l : ControllerLine) → named_guard a tokens ≡ Some l → IsGood a l
  named_good [] l e = absurd (none-some l e)
  named_good (switch ∷ []) l e = absurd (none-some l e)
  named_good (switch ∷ name ∷ rows) l e = option_and_then_some _ (name_of name) l e (λ w is f. guard_good (Some w) (switch ∷ rows) l f)

  by_version : (v : Version) (tokens : List PlainToken) (l : ControllerLine) → guard_by v a tokens ≡ Some l → IsGood a l
  by_version First tokens l e = guard_good None tokens l e
  by_version Second tokens l e = named_good tokens l e

  end_good : (tokens : List PlainToken) (l : ControllerLine) → alone end tokens ≡ Some l → IsGood a l
  end_good [] l e = subst (IsGood a) (same_Some end l e) tt
  end_good (token ∷ tokens) l e = absurd (none-some l e)

  other_good : (v : Version) (first : PlainToken) (tokens : List PlainToken) (l : ControllerLine) → controller_by v a first tokens ≡ Some l → IsGood a l
  other_good v first tokens l e = by_piece (one_of (is_word (codes "piece") first) _ _ l e)
    where
      by_end : (alone end tokens ≡ Some l) ⊎ (None ≡ Some l) → IsGood a l
      by_end (inl f) = end_good tokens l f
      by_end (inr f) = absurd (none-some l f)

      by_guard : (guard_by v a tokens ≡ Some l) ⊎ ((if is_word (codes "end") first then alone end tokens else None) ≡ Some l) → IsGood a l
      by_guard (inl f) = by_version v tokens l f
      by_guard (inr f) = by_end (one_of (is_word (codes "end") first) _ _ l f)

      by_piece : (option_map (λ x. piece x) (placed_rows a (location_in a) tokens) ≡ Some l) ⊎ ((if is_word (codes "guard") first then guard_by v a tokens else (if is_word (codes "end") first then alone end tokens else None)) ≡ Some l) → IsGood a l
      by_piece (inl f) = piece_good tokens l f
      by_piece (inr f) = by_guard (one_of (is_word (codes "guard") first) _ _ l f)

  digits_good : (most size n k : ℕ) → in_digits most size n ≡ Some k → k ≤ most
  digits_good most size n k e =
      let c = cond_some (nat_le n most && (size == length (decimal n))) n k e in
      let b = and_parts (nat_le n most) (size == length (decimal n)) c.0 in
      subst (λ (m : ℕ). m ≤ most) c.1 (let t = b.0 in grind (arith, nat_tests, t))

  numbered_good : (w : List ℕ) (most : ℕ) (tokens : List PlainToken) (sizes : List ℕ) (k : ℕ) → numbered w most tokens sizes ≡ Some k → k ≤ most
  numbered_good w most [] sizes k e = absurd (none-some k e)
  numbered_good w most (x ∷ []) sizes k e = absurd (none-some k e)
  numbered_good w most (x ∷ y ∷ z ∷ tokens) sizes k e = absurd (none-some k e)
  numbered_good w most (x ∷ y ∷ []) [] k e = absurd (none-some k e)
  numbered_good w most (x ∷ y ∷ []) (m ∷ []) k e = absurd (none-some k e)
  numbered_good w most (x ∷ y ∷ []) (m ∷ n ∷ i ∷ sizes) k e = absurd (none-some k e)
  numbered_good w most (x ∷ y ∷ []) (m ∷ n ∷ []) k e = by_word (one_of (is_word w x) _ _ k e)
    where
      by_word : (option_and_then (in_digits most n) (natural_in y) ≡ Some k) ⊎ (None ≡ Some k) → k ≤ most
      by_word (inl f) = option_and_then_some (in_digits most n) (natural_in y) k f (λ i is g. digits_good most n i k g)
      by_word (inr f) = absurd (none-some k f)

  rounds_good : (tokens : List PlainToken) (sizes : List ℕ) (l : ControllerLine) → rounds_line tokens sizes ≡ Some l → IsGood a l
  rounds_good tokens sizes l e =
      let m = was_there (λ n. rounds n) (numbered (codes "rounds") most_rounds tokens sizes) l e in subst (IsGood a) m.2 (numbered_good (codes "rounds") most_rounds tokens sizes m.0 m.1)

  -- what a line says is right
  line_good : (v : Version) (tokens : List PlainToken) (sizes : List ℕ) (l : ControllerLine) → controller_line v a tokens sizes ≡ Some l → IsGood a l
  unfolding controller_line
  line_good v [] sizes l e = absurd (none-some l e)
  line_good v (first ∷ tokens) sizes l e = by_rounds (one_of (is_word (codes "rounds") first) _ _ l e)
    where
      by_rounds : (rounds_line (first ∷ tokens) sizes ≡ Some l) ⊎ (controller_by v a first tokens ≡ Some l) → IsGood a l
      by_rounds (inl f) = rounds_good (first ∷ tokens) sizes l f
      by_rounds (inr f) = other_good v first tokens l f

  -- ---- all lines

  all_good : (v : Version) (lines : List (List Spot)) (values : List ControllerLine) → map (line_in v a) lines ≡ map (λ x. Some x) values → AllOf (IsGood a) values
  all_good v [] [] e = tt
  all_good v [] (x ∷ values) e = absurd cc
  all_good v (l ∷ lines) [] e = absurd cc
  all_good v (l ∷ lines) (x ∷ values) e =
      let here : line_in v a l ≡ Some x = cc in
      let later : map (line_in v a) lines ≡ map (λ x. Some x) values = cc in
      (line_good v _ _ x here, all_good v lines values later)

  pieces_of : (ps : List (ℕ × PlainPiece)) → AllOf (IsGood a) (map (λ p. piece p) ps) → AllOf (IsGivenAt (length a.vars) (length a.locs)) ps
  pieces_of [] h = tt
  pieces_of (p ∷ ps) h = (h.0, pieces_of ps h.1)

  abbrev IsGuard : ℕ × PlainPiece → Type 0
  IsGuard g = IsGivenAt (length a.vars) (length a.switches) g × IsOfController a g

  plain_guards : (gs : List (ℕ × PlainPiece)) → AllOf (IsGood a) (map (λ g. guard None g) gs) → AllOf IsGuard gs
  plain_guards [] h = tt
  plain_guards (g ∷ gs) h = (h.0, plain_guards gs h.1)

  with_names : (names : List (List ℕ)) (gs : List (ℕ × PlainPiece)) → length names ≡ length gs → AllOf (IsGood a) (named_guards names gs) → AllOf IsGuard gs
  with_names [] [] e h = tt
  with_names [] (g ∷ gs) e h = absurd (omega arith)
  with_names (w ∷ names) [] e h = tt
  with_names (w ∷ names) (g ∷ gs) e h = (h.0, with_names names gs (omega arith) h.1)

  guards_of : (v : Version) (d : PlainDraft) → AreNames v d → AllOf (IsGood a) (said_guards v d.names d.guards) → AllOf IsGuard d.guards
  guards_of First d n h = plain_guards d.guards h
  guards_of Second d n h = with_names d.names d.guards n.0 h

  few_rounds : (v : Version) (d : PlainDraft) → AreNames v d → AllOf (IsGood a) (said_rounds v d.rounds) → d.rounds ≤ most_rounds
  few_rounds First d n h = let e = n.0 in omega (arith, e)
  few_rounds Second d n h = h.0

-- ---- the parts of what holds of each

placed_in : (n count : ℕ) (ps : List (ℕ × PlainPiece)) → AllOf (IsGivenAt n count) ps → AllOf (IsPlaced n count) ps
placed_in n count [] h = tt
placed_in n count (p ∷ ps) h = (h.0.placed, placed_in n count ps h.1)

given_in : (n count : ℕ) (ps : List (ℕ × PlainPiece)) → AllOf (IsGivenAt n count) ps → AllOf (λ p. IsGiven p.1) ps
given_in n count [] h = tt
given_in n count (p ∷ ps) h = (h.0.given, given_in n count ps h.1)

firsts : {A : Type 0} (P Q : A → Type 0) (xs : List A) → AllOf (λ x. P x × Q x) xs → AllOf P xs
firsts P Q [] h = tt
firsts P Q (x ∷ xs) h = (h.0.0, firsts P Q xs h.1)

seconds : {A : Type 0} (P Q : A → Type 0) (xs : List A) → AllOf (λ x. P x × Q x) xs → AllOf Q xs
seconds P Q [] h = tt
seconds P Q (x ∷ xs) h = (h.0.1, seconds P Q xs h.1)

-- ---- names

-- a later name is none of these
is_later : (k n m : ℕ) → k + n ≤ m → m < 2 ^ 64 → is_among (guard_name m) (guard_names k n) ≡ false
is_later k zero m h lt = refl
is_later k (suc n) m h lt =
    let other : bytes_eq (guard_name k) (guard_name m) ≡ false = by_bool (bytes_eq (guard_name k) (guard_name m)) (λ e. absurd (differ (decimal_injective k m (omega arith) lt (tails ((bytes_eq-Decides (guard_name k) (guard_name m)).0 e))))) (λ e. e) in
    ap (λ b. b || is_among (guard_name m) (guard_names (suc k) n)) other ∙ is_later (suc k) n m (omega arith) lt
  where
    differ : k ≡ m → ⊥
    differ e = omega arith

    tails : guard_name k ≡ guard_name m → decimal k ≡ decimal m
    tails e = cc

-- g1, g2 and so on are all different
names_differ : (n : ℕ) → n < 2 ^ 64 → all_differ (guard_names 1 n) ≡ true
names_differ zero h = refl
names_differ (suc n) h = ap all_differ (names_one 1 n) ∙ differ_more (guard_names 1 n) (guard_name (1 + n)) (names_differ n (omega arith)) (is_later 1 n (1 + n) (omega arith) (omega arith))

names_count : (k n : ℕ) → length (guard_names k n) ≡ n
names_count k zero = refl
names_count k (suc n) = ap (λ (m : ℕ). suc m) (names_count (suc k) n)

named : (v : Version) (d : PlainDraft) → AreNames v d → length d.names ≡ length d.guards
named First d n = ap length n.1 ∙ names_count 1 (length d.guards)
named Second d n = n.0

differ : (v : Version) (d : PlainDraft) → length d.guards < 2 ^ 64 → AreNames v d → all_differ d.names ≡ true
differ First d few n = ap all_differ n.1 ∙ names_differ (length d.guards) few
differ Second d few n = n.1

-- a controller of a text can be made and printed
pub given_draft : (a : PlainPlant) → IsProper a → (lines : List (List Spot)) (d : PlainDraft) → IsController a lines d → length d.guards < 2 ^ 64 → IsGivenDraft a d
given_draft a proper lines d h few =
    let v = h.version in
    let all = all_split (IsGood a) (said_rounds v d.rounds) (map (λ p. piece p) d.pieces ++ (said_guards v d.names d.guards ++ end ∷ [])) (all_good a proper v h.rest (said_lines v d) h.rest_are) in
    let rest = all_split (IsGood a) (map (λ p. piece p) d.pieces) (said_guards v d.names d.guards ++ end ∷ []) all.1 in
    let last = all_split (IsGood a) (said_guards v d.names d.guards) (end ∷ []) rest.1 in
    let pieces = pieces_of a proper d.pieces rest.0 in
    let guards = guards_of a proper v d h.names last.0 in
    let at = firsts (IsGivenAt (length a.vars) (length a.switches)) (IsOfController a) d.guards guards in
    record {
      draft = record {
        pieces = placed_in (length a.vars) (length a.locs) d.pieces pieces;
        guards = placed_in (length a.vars) (length a.switches) d.guards at;
        ctl = seconds (IsGivenAt (length a.vars) (length a.switches)) (IsOfController a) d.guards guards;
      };
      piece_rows = given_in (length a.vars) (length a.locs) d.pieces pieces;
      guard_rows = given_in (length a.vars) (length a.switches) d.guards at;
      few_pieces = h.few_pieces;
      few_guards = h.few_guards;
      few_rounds = few_rounds a proper v d h.names all.0;
      named = named v d h.names;
      differ = differ v d few h.names;
    }
