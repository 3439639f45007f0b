-- Which pieces does a level add, in which order, which lists are formed for it, and where does the iteration over the levels end?
use Rattle.std.specs.Prelude.{ℕ, zero, suc, ◌+◌, Bool, true, false, cond, List, [], ◌∷◌, ◌++◌, map, drop, take, length, replicate, set, get_or, nat_eq, Option, Some, None}
use Rattle.std.specs.List.{range_with_len}
use Rattle.lhg_num.specs.FracArithmetic.{frac_arithmetic}
use Rattle.lhg_num.specs.Marked.{Marked, done, and_then, valued, each, walk}
use Rattle.lhg_row.specs.Piece.{PlainPiece}
use Rattle.lhg_row.specs.Lists.{counted_pieces, minus, covered}
use Rattle.lhg_row.specs.Sample.{sample}
use Rattle.lhg_plant.specs.Plant.{PlainSwitch, PlainPlant}
use Rattle.lhg_plant.specs.State.{PlainState}
use Rattle.lhg_plant.specs.Region.{PlainRegion}
use Rattle.lhg_plant.specs.Invariants.{pieces_at}
use Rattle.lhg_plant.specs.OutCalculus.{numbered}
use Rattle.lhg_forward.specs.After.{after_flow, after_switch}

-- ---- a level
-- the new pieces of a level, location by location, each list in the order in which they were found, and the location of the first of all
pub record PlainGrowth : Type 0 where
  pub new : PlainRegion
  pub first : Option ℕ

-- the location that was first, or this one where none was
abbrev pub first_or : ℕ → Option ℕ → Option ℕ
first_or l None = Some l
first_or l (Some k) = Some k

-- one piece more in location l, unless it is covered
abbrev pub grown_unless : PlainGrowth → ℕ → PlainPiece → Bool → PlainGrowth
grown_unless g l p true = g
grown_unless g l p false = record { new = set g.new l (pieces_at g.new l ++ p ∷ []); first = first_or l g.first }

-- a result in location l, where there is one: it is new unless the pieces of the location and the new ones there cover it
abbrev pub add_new : ℕ → PlainRegion → ℕ → PlainGrowth → Option PlainPiece → Marked PlainGrowth
add_new n region l g None = done g
add_new n region l g (Some p) = valued (grown_unless g l p) (covered frac_arithmetic n (p ∷ []) (pieces_at region l ++ pieces_at g.new l))

-- after a flow from the piece q of location l
abbrev pub add_flow : PlainPlant → PlainRegion → ℕ → PlainPiece → PlainGrowth → Marked PlainGrowth
add_flow a region l q g = and_then (after_flow a l q) (add_new (length a.vars) region l g)

-- after a switch with its place in the plant's list
abbrev pub add_result : PlainPlant → PlainRegion → PlainPiece → PlainGrowth → ℕ → PlainSwitch → Marked PlainGrowth
add_result a region q g e w = and_then (after_switch a e q) (add_new (length a.vars) region w.to g)

-- the same where the switch leaves location l
abbrev pub add_switch : PlainPlant → PlainRegion → ℕ → PlainPiece → PlainGrowth → ℕ × PlainSwitch → Marked PlainGrowth
add_switch a region l q g (e, w) =
    let here = add_result a region q g e w in
    cond (nat_eq w.from l) here (done g)

-- after a flow from the piece q of location l, and then after each switch from there, in order
abbrev pub add_piece : PlainPlant → PlainRegion → ℕ → PlainGrowth → PlainPiece → Marked PlainGrowth
add_piece a region l g q = and_then (add_flow a region l q g) (λ h. walk (add_switch a region l q) h (numbered 0 a.switches))

-- ---- stages
-- after a level: the pieces of each location, how many of them are older than the newest ones, and the location of the first of these to be found
pub record PlainStage : Type 0 where
  pub region : PlainRegion
  pub older : List ℕ
  pub first : Option ℕ

-- how many pieces of location l are older than the newest ones
abbrev pub older_at : PlainStage → ℕ → ℕ
older_at s l = get_or s.older l 0

-- the newest pieces of location l, and the older ones
abbrev pub newest_at : PlainStage → ℕ → List PlainPiece
newest_at s l = drop (older_at s l) (pieces_at s.region l)

abbrev pub oldest_at : PlainStage → ℕ → List PlainPiece
oldest_at s l = take (older_at s l) (pieces_at s.region l)

-- from each newest piece of a location, in order
abbrev pub add_location : PlainPlant → PlainStage → PlainGrowth → ℕ → Marked PlainGrowth
add_location a s g l = walk (add_piece a s.region l) g (newest_at s l)

-- nothing is new yet
abbrev pub no_growth : ℕ → PlainGrowth
no_growth m = record { new = replicate m []; first = None }

-- the new pieces of the level after the stage
unfoldable pub growth : PlainPlant → PlainStage → Marked PlainGrowth
growth a s = walk (add_location a s) (no_growth (length a.locs)) (range_with_len 0 (length a.locs))

-- the pieces of location l with the new ones behind them, which are counted
abbrev pub joined_at : PlainRegion → PlainRegion → ℕ → Marked (List PlainPiece)
joined_at region new l = counted_pieces (pieces_at region l ++ pieces_at new l)

-- those of each of m locations
unfoldable pub joined : ℕ → PlainRegion → PlainRegion → Marked PlainRegion
joined m region new = each (joined_at region new) (range_with_len 0 m)

-- the stage with this region after the one before: its own pieces are older than those that the growth has
abbrev pub grown_stage : PlainStage → Option ℕ → PlainRegion → PlainStage
grown_stage s first region = record { region = region; older = map length s.region; first = first }

-- the stage after a level, on the stage before it
abbrev pub staged : PlainPlant → PlainStage → Marked PlainStage
staged a s = and_then (growth a s) (λ g. valued (grown_stage s g.first) (joined (length a.locs) s.region g.new))

-- no piece is older at first
abbrev pub first_stage : PlainRegion → PlainStage
first_stage init = record { region = init; older = map (λ ps. 0) init; first = None }

-- the stage after level i, with the marks of level i alone
unfoldable pub stage : PlainPlant → PlainRegion → ℕ → Marked PlainStage
stage a init zero = done (first_stage init)
stage a init (suc i) = staged a (stage a init i).value

-- ---- the end
-- the first level without a new piece, with the region; or a state that the last level of a budget adds
pub data PlainForward : Type 0 where
  ended : (rounds : ℕ) → (region : PlainRegion) → PlainForward
  spent : (state : PlainState) → PlainForward

-- the level had no new piece
abbrev pub none_new : Option ℕ → Bool
none_new None = true
none_new (Some l) = false

-- the sample of the first piece of a list
abbrev pub first_sample : ℕ → ℕ → List PlainPiece → Marked PlainState
first_sample n l [] = done (record { loc = 0; at = [] })
first_sample n l (p ∷ ps) = valued (λ x. record { loc = l; at = x }) (sample n p)

-- the sample of the first piece of what the earlier pieces of its location leave of the level's first new piece
abbrev pub new_state : ℕ → ℕ → List PlainPiece → List PlainPiece → Marked PlainState
new_state n l earlier [] = done (record { loc = 0; at = [] })
new_state n l earlier (p ∷ ps) = and_then (minus frac_arithmetic n (p ∷ []) earlier) (first_sample n l)

abbrev pub spent_at : ℕ → PlainStage → Option ℕ → Marked PlainState
spent_at n s None = done (record { loc = 0; at = [] })
spent_at n s (Some l) = new_state n l (oldest_at s l) (newest_at s l)

-- of a stage
abbrev pub spent_state : PlainPlant → PlainStage → Marked PlainState
spent_state a s = spent_at (length a.vars) s s.first

-- from the stage of level i on, for at most so many levels more
abbrev pub forward_within : ℕ → PlainPlant → ℕ → PlainStage → PlainForward
forward_within zero a i s = spent (spent_state a s).value
forward_within (suc left) a i s =
    let t = (staged a s).value in
    let on = forward_within left a (suc i) t in
    cond (none_new t.first) (ended (suc i) t.region) on

-- from the first pieces on, within a budget
unfoldable pub forward_sets : PlainPlant → PlainRegion → ℕ → PlainForward
forward_sets a init budget = forward_within budget a 0 (stage a init 0).value

-- ---- marks
-- a calculation of which the marks alone count
abbrev pub nothing : {A : Type 0} → A → Unit {0}
nothing x = tt

-- all that is formed in the work of level i, of which the sample belongs to the last level of the budget
unfoldable pub work : PlainPlant → PlainRegion → ℕ → ℕ → Marked (Unit {0})
work a init budget i =
    and_then (stage a init i) (λ s.
    let last = valued nothing (spent_state a s) in
    cond (nat_eq i budget) last (done tt))
