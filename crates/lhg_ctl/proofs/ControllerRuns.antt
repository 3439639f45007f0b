-- The lines of a controller are taken one after another, and lines that are taken up to the end are a controller.
use Rattle.std.proofs.Common.{◌≡◌, ◌<◌, ◌≤◌, ◌+◌, ℕ, zero, suc, List, [], ◌∷◌, ◌++◌, length, map, refl, sym, ap, ◌∙◌, subst, Bool, true, false, cond, not, ◌&&◌, ◌==◌, Option, Some, None, arith, append_assoc, append-nil, length-append, zero-add}
use Rattle.std.specs.Prelude.{nat_lt}
use Rattle.std.specs.Option.{option_and_then}
use Rattle.std.proofs.lemmas.Bool.{and_parts, lt-ltb}
use Rattle.std.proofs.lemmas.Bool.Decides.{nat_tests}
use Rattle.std.proofs.lemmas.Option.{none-some, same_Some}
use Rattle.lhg_math.specs.Tests.{by_bool, false_true}
use Rattle.lhg_row.specs.Piece.{PlainPiece}
use Rattle.lhg_lex.specs.LineTokens.{Spot}
use Rattle.lhg_plant.specs.Differ.{is_among, differ_from}
use Rattle.lhg_plant.specs.Plant.{PlainPlant}
use Rattle.lhg_read.specs.Machine.{all_taken}
use Rattle.lhg_read.specs.PlantSteps.{is_nil}
use Rattle.lhg_read.specs.PlantText.{said_in}
use Rattle.lhg_read.proofs.Collecting.{same_eq}
use Rattle.lhg_read.proofs.VariableSteps.{differ_more}
use Rattle.lhg_ctl.specs.ControllerGrammar.{count_at, named_guards, said_guards, said_lines, AreNames}
use Rattle.lhg_ctl.specs.ControllerLine.{ControllerLine, rounds, piece, guard, end, controller_line}
use Rattle.lhg_ctl.specs.ControllerSteps.{PlainOpen, open_with, fits, is_new, may_piece, may_guard, next_name, with_rounds, with_piece, with_guard, pushed, step, taken}
use Rattle.lhg_ctl.specs.Draft.{PlainDraft, guard_name, guard_names}
use Rattle.lhg_read.specs.Numbered.{sizes_in}
use Rattle.lhg_ctl.specs.declared.versions.Version.{Version}
use Rattle.lhg_ctl.specs.declared.versions.Version.TheVariants.{First, Second}

-- whether a controller has ended
abbrev pub is_ended : PlainOpen → Bool
is_ended o = o.ended

-- what a line changes
abbrev pub taken_at : PlainPlant → PlainOpen → List Spot → Option PlainOpen
taken_at p o line = taken p o (said_in line) (sizes_in line)

-- what lines change, one after the other
abbrev pub steps : PlainOpen → List ControllerLine → Option PlainOpen
steps o [] = Some o
steps o (v ∷ vs) = cond o.ended None (option_and_then (λ e. steps e vs) (step o v))

-- a controller as it is written, by its parts
abbrev pub parts : List (ℕ × PlainPiece) → List (ℕ × PlainPiece) → ℕ → List (List ℕ) → PlainDraft
parts ps gs n names = record { pieces = ps; guards = gs; rounds = n; names = names }

-- a controller whose number of rounds is known, and which has not ended
abbrev pub open_of : Version → List (ℕ × PlainPiece) → List (ℕ × PlainPiece) → ℕ → List (List ℕ) → PlainOpen
open_of v ps gs n names = record { version = v; begun = true; ended = false; draft = parts ps gs n names }

-- one that has ended
abbrev pub closed_of : Version → PlainDraft → PlainOpen
closed_of v d = record { version = v; begun = true; ended = true; draft = d }

-- what the tokens of a line say
abbrev pub line_in : Version → PlainPlant → List Spot → Option ControllerLine
line_in v p l = controller_line v p (said_in l) (sizes_in l)

-- ---- the version stays

if_passes : (b : Bool) (x new : PlainOpen) → cond b (Some x) None ≡ Some new → new ≡ x
if_passes true x new h = sym (same_Some x new h)
if_passes false x new h = absurd (none-some new h)

if_fails : (b : Bool) (x new : PlainOpen) → cond b None (Some x) ≡ Some new → new ≡ x
if_fails true x new h = absurd (none-some new h)
if_fails false x new h = sym (same_Some x new h)

if_some : (b : Bool) (x : Option PlainOpen) (new : PlainOpen) → cond b x None ≡ Some new → x ≡ Some new
if_some true x new h = h
if_some false x new h = absurd (none-some new h)

version_of : (x new : PlainOpen) → new ≡ x → new.version ≡ x.version
version_of x new e = ap (λ (o : PlainOpen). o.version) e

same_version : (o new : PlainOpen) (value : ControllerLine) → step o value ≡ Some new → new.version ≡ o.version
same_version o new (rounds n) h = let x : PlainOpen = record o { begun = true; draft = with_rounds n o.draft } in version_of x new (if_fails o.begun x new h)
same_version o new (piece p) h = let x : PlainOpen = record o { draft = with_piece p o.draft } in version_of x new (if_passes (may_piece o p.0) x new h)
same_version o new (guard name g) h =
    let w = next_name o.draft name in
    let x : PlainOpen = record o { draft = with_guard w g o.draft } in
    version_of x new (if_passes (may_guard o g.0) x new (if_some (fits o.version name && is_new name o.draft.names) (pushed o w g) new h))
same_version o new end h = let x : PlainOpen = record o { ended = true } in version_of x new (if_passes o.begun x new h)

-- ---- what tokens say, and what that changes

module _ (p : PlainPlant) where
  -- lines with these values are taken as the values are
  pub taken_as : (v : Version) (o : PlainOpen) (lines : List (List Spot)) (values : List ControllerLine) → o.version ≡ v → map (line_in v p) lines ≡ map (λ x. Some x) values → all_taken (taken_at p) is_ended o lines ≡ steps o values
  taken_as v o [] [] e h = refl
  taken_as v o [] (x ∷ xs) e h = absurd cc
  taken_as v o (l ∷ ls) [] e h = absurd cc
  taken_as v o (l ∷ ls) (x ∷ xs) e h =
      let here : line_in v p l ≡ Some x = cc in
      let later : map (line_in v p) ls ≡ map (λ w. Some w) xs = cc in
      let same : line_in o.version p l ≡ Some x = ap (λ w. line_in w p l) e ∙ here in
      ap (λ y. cond o.ended None (option_and_then (λ z. all_taken (taken_at p) is_ended z ls) (option_and_then (step o) y))) same
      ∙ ap (λ y. cond o.ended None y) (each (step o x) (λ z k. taken_as v z ls xs (same_version o z x k ∙ e) later) refl)
    where
      each : (y : Option PlainOpen) → ((z : PlainOpen) → step o x ≡ Some z → all_taken (taken_at p) is_ended z ls ≡ steps z xs) → step o x ≡ y → option_and_then (λ z. all_taken (taken_at p) is_ended z ls) y ≡ option_and_then (λ z. steps z xs) y
      each None f k = refl
      each (Some z) f k = f z k

  -- what lines that are taken say
  pub record Say (v : Version) (o new : PlainOpen) (lines : List (List Spot)) : Type 0 where
    pub values : List ControllerLine
    pub said : map (line_in v p) lines ≡ map (λ x. Some x) values
    pub stepped : steps o values ≡ Some new

  say_more : (v : Version) (o new : PlainOpen) (l : List Spot) (ls : List (List Spot)) → ((z : PlainOpen) → z.version ≡ v → all_taken (taken_at p) is_ended z ls ≡ Some new → Say v z new ls) → o.version ≡ v → (x : ControllerLine) (y : Option PlainOpen) → o.ended ≡ false → line_in v p l ≡ Some x → step o x ≡ y
      → option_and_then (λ z. all_taken (taken_at p) is_ended z ls) y ≡ Some new → Say v o new (l ∷ ls)
  say_more v o new l ls rest e x None t f s k = absurd (none-some new k)
  say_more v o new l ls rest e x (Some y) t f s k =
      let more = rest y (same_version o y x s ∙ e) k in
      record {
        values = x ∷ more.values;
        said = ap (λ z. z ∷ map (line_in v p) ls) f ∙ ap (λ zs. Some x ∷ zs) more.said;
        stepped = ap (λ b. cond b None (option_and_then (λ z. steps z more.values) (step o x))) t ∙ ap (option_and_then (λ z. steps z more.values)) s ∙ more.stepped;
      }

  say_line : (v : Version) (o new : PlainOpen) (l : List Spot) (ls : List (List Spot)) → ((z : PlainOpen) → z.version ≡ v → all_taken (taken_at p) is_ended z ls ≡ Some new → Say v z new ls) → o.version ≡ v → (b : Bool) (x : Option ControllerLine) → o.ended ≡ b → line_in v p l ≡ x
      → cond b None (option_and_then (λ z. all_taken (taken_at p) is_ended z ls) (option_and_then (step o) x)) ≡ Some new → Say v o new (l ∷ ls)
  say_line v o new l ls rest e true x t f k = absurd (none-some new k)
  say_line v o new l ls rest e false None t f k = absurd (none-some new k)
  say_line v o new l ls rest e false (Some x) t f k = say_more v o new l ls rest e x (step o x) t f refl k

  -- lines that are taken have said so
  pub say_all : (v : Version) (o new : PlainOpen) (lines : List (List Spot)) → o.version ≡ v → all_taken (taken_at p) is_ended o lines ≡ Some new → Say v o new lines
  say_all v o new [] e h = record { values = []; said = refl; stepped = h }
  say_all v o new (l ∷ ls) e h = say_line v o new l ls (λ z f k. say_all v z new ls f k) e o.ended (line_in v p l) refl refl (ap (λ w. cond o.ended None (option_and_then (λ z. all_taken (taken_at p) is_ended z ls) (option_and_then (step o) (line_in w p l)))) (sym e) ∙ h)

-- ---- how many

count-append : (k : ℕ) (xs ys : List (ℕ × PlainPiece)) → count_at k (xs ++ ys) ≡ count_at k xs + count_at k ys
count-append k [] ys = sym (zero-add (count_at k ys))
count-append k (x ∷ xs) ys =
    let more = count-append k xs ys in
    by_bool (x.0 == k) (λ e. rw e (omega (arith, more))) (λ e. rw e more)

count-same : (p : ℕ × PlainPiece) (ps : List (ℕ × PlainPiece)) → count_at p.0 (p ∷ ps) ≡ suc (count_at p.0 ps)
count-same p ps = let e = same_eq p.0 in rw e refl

-- one more at a place is counted there
pub count-here : (xs : List (ℕ × PlainPiece)) (p : ℕ × PlainPiece) → count_at p.0 (xs ++ p ∷ []) ≡ count_at p.0 xs + 1
count-here xs p = let sum = count-append p.0 xs (p ∷ []) in let same = count-same p [] in omega (arith, sum, same)

-- and nowhere else
pub count-elsewhere : (k : ℕ) (xs : List (ℕ × PlainPiece)) (p : ℕ × PlainPiece) → (p.0 == k) ≡ false → count_at k (xs ++ p ∷ []) ≡ count_at k xs
count-elsewhere k xs p e = let sum = count-append k xs (p ∷ []) in let none : count_at k (p ∷ []) ≡ 0 = rw e refl in omega (arith, sum, none)

-- one more at a place is not too many where there was room
count_more : (k : ℕ) (xs : List (ℕ × PlainPiece)) (p : ℕ × PlainPiece) → nat_lt (count_at p.0 xs) 4096 ≡ true → count_at k xs ≤ 4096 → count_at k (xs ++ p ∷ []) ≤ 4096
count_more k xs p room few =
    let sum = count-append k xs (p ∷ []) in
    by_bool (p.0 == k)
    (λ e. let same : p.0 ≡ k = grind (arith, nat_tests, e) in let lt : count_at p.0 xs < 4096 = grind (arith, nat_tests, room) in
    let one : count_at k (p ∷ []) ≡ 1 = rw e refl in let at : count_at p.0 xs ≡ count_at k xs = ap (λ (n : ℕ). count_at n xs) same in omega (arith, sum, one, at, lt))
    (λ e. let none : count_at k (p ∷ []) ≡ 0 = rw e refl in omega (arith, sum, none, few))

-- there is room for one of pieces that are not too many
room_for : (xs ps : List (ℕ × PlainPiece)) (p : ℕ × PlainPiece) → count_at p.0 (xs ++ p ∷ ps) ≤ 4096 → nat_lt (count_at p.0 xs) 4096 ≡ true
room_for xs ps p few =
    let sum = count-append p.0 xs (p ∷ ps) in
    let same = count-same p ps in
    lt-ltb (count_at p.0 xs) 4096 (omega (arith, sum, same, few))

-- ---- names

-- one name more of guards without names
pub names_one : (k n : ℕ) → guard_names k (suc n) ≡ guard_names k n ++ guard_name (k + n) ∷ []
names_one k zero = ap (λ (m : ℕ). guard_name m ∷ []) (plus_zero k)
  where
    plus_zero : (k : ℕ) → k ≡ k + 0
    plus_zero k = omega arith
names_one k (suc n) = ap (λ ws. guard_name k ∷ ws) (names_one (suc k) n ∙ ap (λ (m : ℕ). guard_names (suc k) n ++ guard_name m ∷ []) (next k n))
  where
    next : (k n : ℕ) → suc k + n ≡ k + suc n
    next k n = omega arith

-- the names of so many guards, and of one more
names_more : (gs : List (ℕ × PlainPiece)) (g : ℕ × PlainPiece) → guard_names 1 (length (gs ++ g ∷ [])) ≡ guard_names 1 (length gs) ++ guard_name (length gs + 1) ∷ []
names_more gs g =
    ap (guard_names 1) (longer gs g) ∙ names_one 1 (length gs) ∙ ap (λ (m : ℕ). guard_names 1 (length gs) ++ guard_name m ∷ []) (turn (length gs))
  where
    turn : (n : ℕ) → 1 + n ≡ n + 1
    turn n = omega arith

    longer : (gs : List (ℕ × PlainPiece)) (g : ℕ × PlainPiece) → length (gs ++ g ∷ []) ≡ suc (length gs)
    longer gs g = let e = length-append gs (g ∷ []) in omega (arith, e)

-- the names stay right where a guard comes
still_names : (v : Version) (ps gs : List (ℕ × PlainPiece)) (n : ℕ) (names : List (List ℕ)) (name : Option (List ℕ)) (g : ℕ × PlainPiece) → fits v name ≡ true → is_new name names ≡ true
    → AreNames v (parts ps gs n names) → AreNames v (parts ps (gs ++ g ∷ []) n (names ++ next_name (parts ps gs n names) name ∷ []))
still_names First ps gs n names None g f new h = (h.0, ap (λ ws. ws ++ guard_name (length gs + 1) ∷ []) h.1 ∙ sym (names_more gs g))
still_names First ps gs n names (Some w) g f new h = absurd cc
still_names Second ps gs n names None g f new h = absurd cc
still_names Second ps gs n names (Some w) g f new h =
    let a = length-append names (w ∷ []) in
    let b = length-append gs (g ∷ []) in
    let e = h.0 in
    (omega (arith, a, b, e), differ_more names w h.1 (not_true (is_among w names) new))
  where
    not_true : (b : Bool) → not b ≡ true → b ≡ false
    not_true true k = absurd cc
    not_true false k = refl

-- what a guard says before further guards
said_more : (v : Version) (d : PlainDraft) (name : Option (List ℕ)) (g : ℕ × PlainPiece) (names : List (List ℕ)) (gs : List (ℕ × PlainPiece)) → fits v name ≡ true
    → guard name g ∷ said_guards v names gs ≡ said_guards v (next_name d name ∷ names) (g ∷ gs)
said_more First d None g names gs h = refl
said_more First d (Some w) g names gs h = absurd cc
said_more Second d None g names gs h = absurd cc
said_more Second d (Some w) g names gs h = refl

-- ---- from a controller to its lines

pieces_run : (v : Version) (n : ℕ) (ps xs : List (ℕ × PlainPiece)) (rest : List ControllerLine) → ((k : ℕ) → count_at k (xs ++ ps) ≤ 4096) → steps (open_of v xs [] n []) (map (λ p. piece p) ps ++ rest) ≡ steps (open_of v (xs ++ ps) [] n []) rest
pieces_run v n [] xs rest few = ap (λ ys. steps (open_of v ys [] n []) rest) (sym (append-nil xs))
pieces_run v n (p ∷ ps) xs rest few =
    let room = room_for xs ps p (few p.0) in
    let whole = append_assoc xs (p ∷ []) ps in
    ap (λ b. option_and_then (λ e. steps e (map (λ q. piece q) ps ++ rest)) (cond b (Some (open_of v (xs ++ p ∷ []) [] n [])) None)) room
    ∙ pieces_run v n ps (xs ++ p ∷ []) rest (λ k. subst (λ ys. count_at k ys ≤ 4096) (sym whole) (few k)) ∙ ap (λ ys. steps (open_of v ys [] n []) rest) whole

-- guards without names
plain_run : (n : ℕ) (ps gs xs : List (ℕ × PlainPiece)) (rest : List ControllerLine) → ((k : ℕ) → count_at k (xs ++ gs) ≤ 4096)
    → steps (open_of First ps xs n (guard_names 1 (length xs))) (map (λ g. guard None g) gs ++ rest) ≡ steps (open_of First ps (xs ++ gs) n (guard_names 1 (length (xs ++ gs)))) rest
plain_run n ps [] xs rest few = ap (λ ys. steps (open_of First ps ys n (guard_names 1 (length ys))) rest) (sym (append-nil xs))
plain_run n ps (g ∷ gs) xs rest few =
    let room = room_for xs gs g (few g.0) in
    let whole = append_assoc xs (g ∷ []) gs in
    ap (λ b. option_and_then (λ e. steps e (map (λ q. guard None q) gs ++ rest)) (cond b (Some (open_of First ps (xs ++ g ∷ []) n (guard_names 1 (length xs) ++ guard_name (length xs + 1) ∷ []))) None)) room
    ∙ ap (λ ws. steps (open_of First ps (xs ++ g ∷ []) n ws) (map (λ q. guard None q) gs ++ rest)) (sym (names_more xs g))
    ∙ plain_run n ps gs (xs ++ g ∷ []) rest (λ k. subst (λ ys. count_at k ys ≤ 4096) (sym whole) (few k)) ∙ ap (λ ys. steps (open_of First ps ys n (guard_names 1 (length ys))) rest) whole

-- guards with names
named_run : (n : ℕ) (ps gs xs : List (ℕ × PlainPiece)) (names seen : List (List ℕ)) (rest : List ControllerLine) → ((k : ℕ) → count_at k (xs ++ gs) ≤ 4096) → length names ≡ length gs → differ_from seen names ≡ true
    → steps (open_of Second ps xs n seen) (named_guards names gs ++ rest) ≡ steps (open_of Second ps (xs ++ gs) n (seen ++ names)) rest
named_run n ps [] xs [] seen rest few e d = ap (λ ys. steps (open_of Second ps ys n seen) rest) (sym (append-nil xs)) ∙ ap (λ ws. steps (open_of Second ps (xs ++ []) n ws) rest) (sym (append-nil seen))
named_run n ps [] xs (w ∷ names) seen rest few e d = absurd (omega arith)
named_run n ps (g ∷ gs) xs [] seen rest few e d = absurd (omega arith)
named_run n ps (g ∷ gs) xs (w ∷ names) seen rest few e d =
    let room = room_for xs gs g (few g.0) in
    let whole = append_assoc xs (g ∷ []) gs in
    let parts = and_parts (not (is_among w seen)) (differ_from (seen ++ w ∷ []) names) d in
    let next = open_of Second ps (xs ++ g ∷ []) n (seen ++ w ∷ []) in
    ap (λ b. option_and_then (λ z. steps z (named_guards names gs ++ rest)) (cond b (cond (nat_lt (count_at g.0 xs) 4096) (Some next) None) None)) parts.0
    ∙ ap (λ b. option_and_then (λ z. steps z (named_guards names gs ++ rest)) (cond b (Some next) None)) room
    ∙ named_run n ps gs (xs ++ g ∷ []) names (seen ++ w ∷ []) rest (λ k. subst (λ ys. count_at k ys ≤ 4096) (sym whole) (few k)) (omega arith) parts.1
    ∙ ap (λ ys. steps (open_of Second ps ys n ((seen ++ w ∷ []) ++ names)) rest) whole ∙ ap (λ ws. steps (open_of Second ps (xs ++ g ∷ gs) n ws) rest) (append_assoc seen (w ∷ []) names)

-- all lines of a controller are taken
pub draft_run : (v : Version) (d : PlainDraft) → ((k : ℕ) → count_at k d.pieces ≤ 4096) → ((k : ℕ) → count_at k d.guards ≤ 4096) → AreNames v d → steps (open_with v) (said_lines v d) ≡ Some (closed_of v d)
draft_run First d few_pieces few_guards names =
    pieces_run First 0 d.pieces [] (said_guards First d.names d.guards ++ end ∷ []) few_pieces ∙ plain_run 0 d.pieces d.guards [] (end ∷ []) few_guards
    ∙ ap (λ n. Some (closed_of First (parts d.pieces d.guards n (guard_names 1 (length d.guards))))) (sym names.0)
    ∙ ap (λ ws. Some (closed_of First (parts d.pieces d.guards d.rounds ws))) (sym names.1)
draft_run Second d few_pieces few_guards names =
    pieces_run Second d.rounds d.pieces [] (said_guards Second d.names d.guards ++ end ∷ []) few_pieces ∙ named_run d.rounds d.pieces d.guards [] d.names [] (end ∷ []) few_guards names.0 names.1

-- ---- from lines to a controller

-- what values that end a controller are: further pieces, further guards with their names, and the end
pub record IsShape (v : Version) (ps gs : List (ℕ × PlainPiece)) (n : ℕ) (names : List (List ℕ)) (values : List ControllerLine) (new : PlainOpen) : Type 0 where
  pub pieces : List (ℕ × PlainPiece)
  pub guards : List (ℕ × PlainPiece)
  pub further : List (List ℕ)
  pub values_are : values ≡ map (λ p. piece p) pieces ++ (said_guards v further guards ++ end ∷ [])
  pub pieces_are : new.draft.pieces ≡ ps ++ pieces
  pub guards_are : new.draft.guards ≡ gs ++ guards
  pub names_are : new.draft.names ≡ names ++ further
  pub rounds_are : new.draft.rounds ≡ n
  pub few_pieces : (k : ℕ) → count_at k new.draft.pieces ≤ 4096
  pub few_guards : (k : ℕ) → count_at k new.draft.guards ≤ 4096
  pub right : AreNames v new.draft
  pub none_behind : is_nil gs ≡ false → pieces ≡ []

not_nil : {A : Type 0} (xs : List A) (x : A) → is_nil (xs ++ x ∷ []) ≡ false
not_nil [] x = refl
not_nil (y ∷ xs) x = refl

-- a piece more
piece_shape : (v : Version) (p : ℕ × PlainPiece) (vs : List ControllerLine) (ps gs : List (ℕ × PlainPiece)) (n : ℕ) (names : List (List ℕ)) (new : PlainOpen) → ((k : ℕ) → count_at k ps ≤ 4096)
    → (((k : ℕ) → count_at k (ps ++ p ∷ []) ≤ 4096) → steps (open_of v (ps ++ p ∷ []) gs n names) vs ≡ Some new → IsShape v (ps ++ p ∷ []) gs n names vs new)
    → (b : Bool) → may_piece (open_of v ps gs n names) p.0 ≡ b → option_and_then (λ e. steps e vs) (cond b (Some (open_of v (ps ++ p ∷ []) gs n names)) None) ≡ Some new → IsShape v ps gs n names (piece p ∷ vs) new
piece_shape v p vs ps gs n names new few rest false m k = absurd (none-some new k)
piece_shape v p vs ps gs n names new few rest true m k =
    let a = and_parts (is_nil gs) (nat_lt (count_at p.0 ps) 4096) m in
    let r = rest (λ i. count_more i ps p a.1 (few i)) k in
    record {
      pieces = p ∷ r.pieces;
      guards = r.guards;
      further = r.further;
      values_are = ap (λ ws. piece p ∷ ws) r.values_are;
      pieces_are = r.pieces_are ∙ append_assoc ps (p ∷ []) r.pieces;
      guards_are = r.guards_are;
      names_are = r.names_are;
      rounds_are = r.rounds_are;
      few_pieces = r.few_pieces;
      few_guards = r.few_guards;
      right = r.right;
      none_behind = λ f. false_true (sym f ∙ a.0);
    }

-- a guard more, which may come
guard_shape : (v : Version) (name : Option (List ℕ)) (g : ℕ × PlainPiece) (vs : List ControllerLine) (ps gs : List (ℕ × PlainPiece)) (n : ℕ) (names : List (List ℕ)) (new : PlainOpen) → fits v name ≡ true → ((k : ℕ) → count_at k gs ≤ 4096)
    → (w : List ℕ) → w ≡ next_name (parts ps gs n names) name
    → (((k : ℕ) → count_at k (gs ++ g ∷ []) ≤ 4096) → steps (open_of v ps (gs ++ g ∷ []) n (names ++ w ∷ [])) vs ≡ Some new → IsShape v ps (gs ++ g ∷ []) n (names ++ w ∷ []) vs new)
    → (b : Bool) → nat_lt (count_at g.0 gs) 4096 ≡ b → option_and_then (λ e. steps e vs) (cond b (Some (open_of v ps (gs ++ g ∷ []) n (names ++ w ∷ []))) None) ≡ Some new → IsShape v ps gs n names (guard name g ∷ vs) new
guard_shape v name g vs ps gs n names new fit few w is rest false m k = absurd (none-some new k)
guard_shape v name g vs ps gs n names new fit few w is rest true m k =
    let r = rest (λ i. count_more i gs g m (few i)) k in
    let none = r.none_behind (not_nil gs g) in
    record {
      pieces = [];
      guards = g ∷ r.guards;
      further = w ∷ r.further;
      values_are =
          ap (λ ws. guard name g ∷ ws) (r.values_are ∙ ap (λ qs. map (λ q. piece q) qs ++ (said_guards v r.further r.guards ++ end ∷ [])) none)
          ∙ ap (λ ws. ws ++ end ∷ []) (said_more v (parts ps gs n names) name g r.further r.guards fit ∙ ap (λ x. said_guards v (x ∷ r.further) (g ∷ r.guards)) (sym is));
      pieces_are = r.pieces_are ∙ ap (λ qs. ps ++ qs) none;
      guards_are = r.guards_are ∙ append_assoc gs (g ∷ []) r.guards;
      names_are = r.names_are ∙ append_assoc names (w ∷ []) r.further;
      rounds_are = r.rounds_are;
      few_pieces = r.few_pieces;
      few_guards = r.few_guards;
      right = r.right;
      none_behind = λ f. refl;
    }

-- what makes a test fail leaves nothing
test_passes : {A : Type 0} (b : Bool) (x : Option A) (f : A → Option PlainOpen) (new : PlainOpen) → option_and_then f (cond b x None) ≡ Some new → (b ≡ true) × (option_and_then f x ≡ Some new)
test_passes true x f new h = (refl, h)
test_passes false x f new h = absurd (none-some new h)

-- lines that are taken up to the end have this shape
pub shape_of : (v : Version) (values : List ControllerLine) (ps gs : List (ℕ × PlainPiece)) (n : ℕ) (names : List (List ℕ)) (new : PlainOpen) → ((k : ℕ) → count_at k ps ≤ 4096) → ((k : ℕ) → count_at k gs ≤ 4096) → AreNames v (parts ps gs n names)
    → steps (open_of v ps gs n names) values ≡ Some new → new.ended ≡ true → IsShape v ps gs n names values new
shape_of v [] ps gs n names new few_ps few_gs right h t = false_true (ap is_ended (same_Some (open_of v ps gs n names) new h) ∙ t)
shape_of v (rounds m ∷ vs) ps gs n names new few_ps few_gs right h t = absurd (none-some new h)
shape_of v (piece p ∷ vs) ps gs n names new few_ps few_gs right h t =
    piece_shape v p vs ps gs n names new few_ps (λ few k. shape_of v vs (ps ++ p ∷ []) gs n names new few few_gs (more_pieces v ps gs p n names right) k t) (may_piece (open_of v ps gs n names) p.0) refl h
  where
    more_pieces : (v : Version) (ps gs : List (ℕ × PlainPiece)) (p : ℕ × PlainPiece) (n : ℕ) (names : List (List ℕ)) → AreNames v (parts ps gs n names) → AreNames v (parts (ps ++ p ∷ []) gs n names)
    more_pieces First ps gs p n names r = r
    more_pieces Second ps gs p n names r = r
shape_of v (guard name g ∷ vs) ps gs n names new few_ps few_gs right h t =
    let w = next_name (parts ps gs n names) name in
    let passed = test_passes (fits v name && is_new name names) (pushed (open_of v ps gs n names) w g) (λ e. steps e vs) new h in
    let tests = and_parts (fits v name) (is_new name names) passed.0 in
    guard_shape v name g vs ps gs n names new tests.0 few_gs w refl
    (λ few k. shape_of v vs ps (gs ++ g ∷ []) n (names ++ w ∷ []) new few_ps few (still_names v ps gs n names name g tests.0 tests.1 right) k t)
    (nat_lt (count_at g.0 gs) 4096) refl passed.1
shape_of v (end ∷ []) ps gs n names new few_ps few_gs right h t =
    let e = same_Some (closed_of v (parts ps gs n names)) new h in
    let d = ap (λ (o : PlainOpen). o.draft) (sym e) in
    record {
      pieces = [];
      guards = [];
      further = [];
      values_are = nothing v;
      pieces_are = ap (λ (x : PlainDraft). x.pieces) d ∙ sym (append-nil ps);
      guards_are = ap (λ (x : PlainDraft). x.guards) d ∙ sym (append-nil gs);
      names_are = ap (λ (x : PlainDraft). x.names) d ∙ sym (append-nil names);
      rounds_are = ap (λ (x : PlainDraft). x.rounds) d;
      few_pieces = λ k. subst (λ (x : PlainDraft). count_at k x.pieces ≤ 4096) (sym d) (few_ps k);
      few_guards = λ k. subst (λ (x : PlainDraft). count_at k x.guards ≤ 4096) (sym d) (few_gs k);
      right = subst (λ (x : PlainDraft). AreNames v x) (sym d) right;
      none_behind = λ f. refl;
    }
  where
    nothing : (v : Version) → end ∷ [] ≡ said_guards v [] [] ++ end ∷ []
    nothing First = refl
    nothing Second = refl
shape_of v (end ∷ x ∷ vs) ps gs n names new few_ps few_gs right h t = absurd (none-some new h)

-- ---- the whole text behind the head

-- the lines behind a head that are taken up to the end are those of a controller
pub record IsRun (v : Version) (values : List ControllerLine) (new : PlainOpen) : Type 0 where
  pub values_are : values ≡ said_lines v new.draft
  pub few_pieces : (k : ℕ) → count_at k new.draft.pieces ≤ 4096
  pub few_guards : (k : ℕ) → count_at k new.draft.guards ≤ 4096
  pub right : AreNames v new.draft

none_at : (k : ℕ) → count_at k [] ≤ 4096
none_at k = omega arith

-- said of the parts, and so of the draft
said_parts : (v : Version) (n : ℕ) (values : List ControllerLine) (new : PlainOpen) → (s : IsShape v [] [] n [] values new) → values ≡ map (λ p. piece p) new.draft.pieces ++ (said_guards v new.draft.names new.draft.guards ++ end ∷ [])
said_parts v n values new s =
    s.values_are
    ∙ ap (λ ps. map (λ p. piece p) ps ++ (said_guards v s.further s.guards ++ end ∷ [])) (sym s.pieces_are)
    ∙ ap (λ gs. map (λ p. piece p) new.draft.pieces ++ (said_guards v s.further gs ++ end ∷ [])) (sym s.guards_are)
    ∙ ap (λ ws. map (λ p. piece p) new.draft.pieces ++ (said_guards v ws new.draft.guards ++ end ∷ [])) (sym s.names_are)

pub run_of : (v : Version) (values : List ControllerLine) (new : PlainOpen) → steps (open_with v) values ≡ Some new → new.ended ≡ true → IsRun v values new
run_of First values new h t =
    let s = shape_of First values [] [] 0 [] new none_at none_at (refl, refl) h t in
    record { values_are = said_parts First 0 values new s; few_pieces = s.few_pieces; few_guards = s.few_guards; right = s.right }
run_of Second [] new h t = false_true (ap is_ended (same_Some (open_with Second) new h) ∙ t)
run_of Second (rounds n ∷ vs) new h t =
    let s = shape_of Second vs [] [] n [] new none_at none_at (refl, refl) h t in
    record {
      values_are = ap (λ ws. rounds n ∷ ws) (said_parts Second n vs new s) ∙ ap (λ m. rounds m ∷ (map (λ p. piece p) new.draft.pieces ++ (said_guards Second new.draft.names new.draft.guards ++ end ∷ []))) (sym s.rounds_are);
      few_pieces = s.few_pieces;
      few_guards = s.few_guards;
      right = s.right;
    }
run_of Second (piece p ∷ vs) new h t = absurd (none-some new h)
run_of Second (guard None g ∷ vs) new h t = absurd (none-some new h)
run_of Second (guard (Some w) g ∷ vs) new h t = absurd (none-some new h)
run_of Second (end ∷ vs) new h t = absurd (none-some new h)
