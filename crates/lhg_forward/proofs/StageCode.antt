-- The stages as the code holds them.
use Rattle.std.proofs.Common.{◌≡◌, ◌<◌, ◌≤◌, ◌+◌, ℕ, zero, suc, List, [], ◌∷◌, ◌++◌, map, take, drop, length, get_or, Option, Some, None, refl, sym, ap, ◌∙◌, subst, arith}
use Rattle.std.specs.Global.{Vec}
use Rattle.std.specs.List.{range_with_len}
use Rattle.std.proofs.lemmas.List.{length-map, length-append}
use Rattle.lhg_math.specs.Tests.{AllOf}
use Rattle.lhg_num.specs.Marked.{Marked, each, done, and_then, valued, IsRest}
use Rattle.lhg_num.specs.MarkedLaws.{IsPart, and_then-part, and_then-rest, rest_part, rest_rest, part_part}
use Rattle.lhg_row.specs.Piece.{PlainPiece}
use Rattle.lhg_row.specs.System.{PlainSystem}
use Rattle.lhg_row.specs.Lists.{counted_pieces}
use Rattle.lhg_plant.specs.Plant.{PlainPlant}
use Rattle.lhg_plant.specs.Region.{PlainRegion}
use Rattle.lhg_plant.specs.Invariants.{pieces_at}
use Rattle.lhg_plant.specs.declared.plants.Plant.{Plant}
use Rattle.lhg_union.specs.PolyLists.{lines_of, AllVars}
use Rattle.lhg_union.specs.Regions.{polys_of, polys_at, plain_region}
use Rattle.lhg_jump.specs.PlantLists.{AreOver, AreListsOf}
use Rattle.lhg_jump.proofs.AwayCode.{region-length}
use Rattle.lhg_forward.specs.declared.stages.Stage.{Stage}
use Rattle.lhg_forward.specs.Growth.{PlainGrowth, PlainStage, joined_at, joined, grown_stage, growth, staged, first_stage}
use Rattle.lhg_forward.specs.Views.{plain_stage, IsStageOf}
use Rattle.lhg_forward.proofs.StageSteps.{joined-at}

-- ---- joined lists
pub joined-whole : (m : ℕ) (region new : PlainRegion) → each (joined_at region new) (range_with_len 0 m) ≡ joined m region new
unfolding joined
joined-whole m region new = refl

-- the list of a place, told of the pieces and of their rows
pub lists_same : (xs : List (Vec PlainSystem)) (l : ℕ) → lines_of (polys_at xs l) ≡ pieces_at (plain_region xs) l
lists_same xs l = go (polys_of xs) l
  where
    go : (ys : List (List PlainSystem)) (l : ℕ) → lines_of (get_or ys l []) ≡ get_or (map lines_of ys) l []
    go [] l = refl
    go (y ∷ ys) zero = refl
    go (y ∷ ys) (suc l) = go ys l

pub length-lists : (xs : List (Vec PlainSystem)) (l : ℕ) → length (polys_at xs l) ≡ length (pieces_at (plain_region xs) l)
length-lists xs l = sym (length-map (polys_at xs l) (λ (p : PlainSystem). p.lines)) ∙ ap length (lists_same xs l)

-- ---- how many pieces each location has
pub counted-lists : (xs : List (Vec PlainSystem)) → map (λ (v : Vec PlainSystem). length v.items) xs ≡ map length (plain_region xs)
counted-lists [] = refl
counted-lists (v ∷ xs) = ap (λ (k : ℕ). k ∷ map (λ (v : Vec PlainSystem). length v.items) xs) (sym (length-map v.items (λ (p : PlainSystem). p.lines))) ∙ ap (λ ks. length (lines_of v.items) ∷ ks) (counted-lists xs)

counted-at : (region : PlainRegion) (l : ℕ) → get_or (map length region) l 0 ≡ length (pieces_at region l)
counted-at [] l = refl
counted-at (ps ∷ region) zero = refl
counted-at (ps ∷ region) (suc l) = counted-at region l

-- the stage after a level has its lists, and its older pieces are no more than its pieces
pub stage_lists : (p : Plant) (old new : List (Vec PlainSystem)) (t : Stage) → AreListsOf p old → AreListsOf p new → AreListsOf p t.region.pieces.items
    → plain_region t.region.pieces.items ≡ (joined (length p.locs.items) (plain_region old) (plain_region new)).value → t.older.items ≡ map length (plain_region old) → IsStageOf p t
stage_lists p old new t held more lists e f =
    let many : length (plain_region old) ≡ length p.locs.items = region-length old ∙ held.many in
    let new_many : length (plain_region new) ≡ length p.locs.items = region-length new ∙ more.many in
    record {
      lists = lists;
      older_many = ap length f ∙ length-map (plain_region old) length ∙ many;
      older_few = λ l.
          let k : get_or t.older.items l 0 ≡ length (pieces_at (plain_region old) l) = ap (λ ks. get_or ks l 0) f ∙ counted-at (plain_region old) l in
          let n : length (polys_at t.region.pieces.items l) ≡ length (pieces_at (plain_region old) l ++ pieces_at (plain_region new) l) =
          length-lists t.region.pieces.items l ∙ ap (λ r. length (pieces_at r l)) e ∙ ap length (joined-at (length p.locs.items) (plain_region old) (plain_region new) many new_many l) in
          omega (arith, k, n, length-append (pieces_at (plain_region old) l) (pieces_at (plain_region new) l));
    }

-- ---- the steps of a stage
module _ (a : PlainPlant) (s : PlainStage) where
  abbrev then_joined : PlainGrowth → Marked PlainStage
  then_joined g = valued (grown_stage s g.first) (joined (length a.locs) s.region g.new)

  pub staged-first : IsPart (staged a s) (growth a s)
  staged-first = and_then-part (growth a s) then_joined

  pub staged-second : (g : PlainGrowth) → g ≡ (growth a s).value → IsPart (staged a s) (joined (length a.locs) s.region g.new)
  staged-second g e =
      let r = and_then-rest (growth a s) then_joined in
      subst (λ (h : PlainGrowth). IsPart (staged a s) (joined (length a.locs) s.region h.new)) (sym e) (record { wide = r.wide; rows = r.rows; pieces = r.pieces })

  pub staged-value : (g : PlainGrowth) (region : PlainRegion) → g ≡ (growth a s).value → region ≡ (joined (length a.locs) s.region g.new).value → grown_stage s g.first region ≡ (staged a s).value
  staged-value g region e f =
      ap (grown_stage s g.first) f ∙ ap (λ (h : PlainGrowth). grown_stage s h.first (joined (length a.locs) s.region h.new).value) e

-- ---- the first stage
none_region : (xs : List (Vec PlainSystem)) (none : Vec PlainSystem → ℕ) → ((v : Vec PlainSystem) → none v ≡ zero) → map none xs ≡ map (λ (ps : List PlainPiece). zero) (plain_region xs)
none_region [] none h = refl
none_region (v ∷ xs) none h = ap (λ (k : ℕ). k ∷ map none xs) (h v) ∙ ap (λ ks. zero ∷ ks) (none_region xs none h)

pub first-is : (init pieces : List (Vec PlainSystem)) (older : List ℕ) (none : Vec PlainSystem → ℕ) → ((v : Vec PlainSystem) → none v ≡ zero) → polys_of pieces ≡ polys_of init → older ≡ map none init
    → record { region = plain_region pieces; older = older; first = None } ≡ first_stage (plain_region init)
first-is init pieces older none h same counts =
    let nobody : Option ℕ = None in
    ap (λ r. record { region = r; older = older; first = nobody }) (ap (map lines_of) same)
    ∙ ap (λ ks. record { region = plain_region init; older = ks; first = nobody }) (counts ∙ none_region init none h)

over_forth : (n : ℕ) (lists : List (Vec PlainSystem)) → AllOf (λ ps. AllVars n ps.items) lists → AllOf (AllVars n) (polys_of lists)
over_forth n [] h = tt
over_forth n (ps ∷ lists) h = (h.0, over_forth n lists h.1)

over_back : (n : ℕ) (lists : List (Vec PlainSystem)) → AllOf (AllVars n) (polys_of lists) → AllOf (λ ps. AllVars n ps.items) lists
over_back n [] h = tt
over_back n (ps ∷ lists) h = (h.0, over_back n lists h.1)

all_none : (none : Vec PlainSystem → ℕ) → ((v : Vec PlainSystem) → none v ≡ zero) → (xs : List (Vec PlainSystem)) (l : ℕ) → get_or (map none xs) l zero ≡ zero
all_none none h [] l = refl
all_none none h (v ∷ xs) zero = h v
all_none none h (v ∷ xs) (suc l) = all_none none h xs l

-- it belongs to the plant
pub first_lists : (p : Plant) (init pieces : List (Vec PlainSystem)) (s : Stage) (none : Vec PlainSystem → ℕ) → ((v : Vec PlainSystem) → none v ≡ zero) → AreListsOf p init → s.region.pieces.items ≡ pieces → polys_of pieces ≡ polys_of init → s.older.items ≡ map none init
    → IsStageOf p s
first_lists p init pieces s none h held e same older =
    let n = length p.vars.items in
    record {
      lists = record {
        many = ap length e ∙ sym (length-map pieces (λ (v : Vec PlainSystem). v.items)) ∙ ap length same ∙ length-map init (λ (v : Vec PlainSystem). v.items) ∙ held.many;
        vars = subst (λ xs. AllOf (λ ps. AllVars n ps.items) xs) (sym e) (over_back n pieces (subst (AllOf (AllVars n)) (sym same) (over_forth n init held.vars)));
      };
      older_many = ap length older ∙ length-map init none ∙ held.many;
      older_few = λ l. (let k : get_or s.older.items l zero ≡ zero = ap (λ ks. get_or ks l zero) older ∙ all_none none h init l in omega (arith, k));
    }
