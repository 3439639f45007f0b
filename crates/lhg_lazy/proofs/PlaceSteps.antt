-- Steps of the loops that make a list for each location, and for each switch.
use Rattle.std.proofs.Common.{◌≡◌, ◌<◌, ℕ, List, length, get_or, sym, ap, ◌∙◌, subst, arith}
use Rattle.std.specs.Global.{Vec}
use Rattle.lhg_num.specs.FracArithmetic.{frac_arithmetic}
use Rattle.lhg_row.specs.Lists.{meet_lists}
use Rattle.lhg_row.specs.Piece.{PlainPiece}
use Rattle.lhg_row.specs.System.{PlainSystem}
use Rattle.lhg_row.specs.Width.{AllWide}
use Rattle.lhg_plant.specs.declared.plants.Location.{Location}
use Rattle.lhg_plant.specs.declared.plants.Plant.{Plant}
use Rattle.lhg_plant.specs.declared.plants.Switch.{Switch}
use Rattle.lhg_plant.specs.Invariants.{pieces_at}
use Rattle.lhg_plant.specs.Views.{plain_plant}
use Rattle.lhg_union.specs.PolyLists.{lines_of, AllVars}
use Rattle.lhg_union.specs.Regions.{plain_region}
use Rattle.lhg_union.proofs.ListFacts.{all_at}
use Rattle.lhg_jump.specs.PlantLists.{AreListsOf, AreGuardsOf}
use Rattle.lhg_jump.proofs.Answering.{switch-there, switch-proper, location-there, location-is}
use Rattle.lhg_jump.proofs.AwayCode.{vars-at}
use Rattle.lhg_jump.proofs.RangeSteps.{lines-at}
use Rattle.lhg_ctl.specs.Making.{source_in, source_at}
use Rattle.lhg_lazy.specs.RimCalculus.{rim_from, rim_list, flow_in, flow_at, rim_at, cut_at}

-- ---- a location
-- what the code holds of the region and of what is outside it for one location
pub record IsRimAt (p : Plant) (region away : List (Vec PlainSystem)) (l : ℕ) (here outside : List PlainSystem) : Type 0 where
  pub here_vars : AllVars (length p.vars.items) here
  pub outside_vars : AllVars (length p.vars.items) outside
  pub same : rim_list (length p.vars.items) (flow_at (plain_plant p) l) (lines_of here) (lines_of outside) ≡ rim_at (plain_plant p) (plain_region region) (plain_region away) l

pub rim-here : (p : Plant) (region away : List (Vec PlainSystem)) (l : ℕ) → AreListsOf p region → AreListsOf p away → l < length p.locs.items → (x y : Vec PlainSystem) → x ≡ get_or region l x → y ≡ get_or away l y → (here outside : List PlainSystem) → here ≡ x.items → outside ≡ y.items
    → IsRimAt p region away l here outside
rim-here p region away l held others below x y x_is y_is here outside here_is outside_is =
    let n = length p.vars.items in
    let flow = flow_at (plain_plant p) l in
    let in_region : l < length region = let m = held.many in omega arith in
    let in_away : l < length away = let m = others.many in omega arith in
    record {
      here_vars = vars-at n region l x here here_is x_is in_region held.vars;
      outside_vars = vars-at n away l y outside outside_is y_is in_away others.vars;
      same = ap (λ ps. rim_list n flow ps (lines_of outside)) (ap lines_of here_is ∙ lines-at region l x x_is in_region)
          ∙ ap (rim_list n flow (pieces_at (plain_region region) l)) (ap lines_of outside_is ∙ lines-at away l y y_is in_away);
    }

-- what the code holds of one piece of the region in a location
pub record IsAtPiece (p : Plant) (l : ℕ) (outside : List PlainSystem) (flow : PlainPiece) (s : PlainSystem) : Type 0 where
  pub width : s.width ≡ length p.vars.items
  pub wide : AllWide s.width flow
  pub same : rim_from s.width flow (lines_of outside) s.lines ≡ rim_from (length p.vars.items) (flow_at (plain_plant p) l) (lines_of outside) s.lines

pub at-piece : (p : Plant) (l : ℕ) (here outside : List PlainSystem) → l < length p.locs.items → AllVars (length p.vars.items) here → AllVars (length p.vars.items) outside → (place : Location) → place ≡ get_or p.locs.items l place → (flow : PlainPiece) → flow ≡ place.flow.items
    → (i : ℕ) (s : PlainSystem) → s ≡ get_or here i s → i < length here → IsAtPiece p l outside flow s
at-piece p l here outside below v w place place_is flow flow_is i s is there =
    let n = length p.vars.items in
    let width : s.width ≡ n = all_at (λ (q : PlainSystem). q.width ≡ n) here i s is there v in
    let found = location-there p l place below place_is in
    let same_flow : flow ≡ flow_at (plain_plant p) l = flow_is ∙ sym (ap flow_in found) in
    record {
      width = width;
      wide = subst (λ (k : ℕ). AllWide k flow) (sym width) (subst (λ (rows : PlainPiece). AllWide n rows) (sym flow_is) (location-is p l place found).flow.wide);
      same = ap (λ k. rim_from k flow (lines_of outside) s.lines) width ∙ ap (λ rows. rim_from n rows (lines_of outside) s.lines) same_flow;
    }

-- ---- a switch
-- what the code holds of the guard of one switch and of the rim where it leaves
pub record IsCutAt (p : Plant) (guards rim : List (Vec PlainSystem)) (e : ℕ) (guard edge : List PlainSystem) : Type 0 where
  pub guard_vars : AllVars (length p.vars.items) guard
  pub edge_vars : AllVars (length p.vars.items) edge
  pub same : meet_lists frac_arithmetic (length p.vars.items) (lines_of guard) (lines_of edge) ≡ cut_at (plain_plant p) (plain_region guards) (plain_region rim) e

-- the location that it leaves is there
pub source-below : (p : Plant) (e : ℕ) (w : Switch) → e < length p.switches.items → w ≡ get_or p.switches.items e w → w.from < length p.locs.items
source-below p e w there is = (switch-proper p e w there is).from

pub cut-here : (p : Plant) (guards rim : List (Vec PlainSystem)) (e : ℕ) → AreGuardsOf p guards → AreListsOf p rim → (w : Switch) → e < length p.switches.items → w ≡ get_or p.switches.items e w → (x y : Vec PlainSystem) → x ≡ get_or guards e x → y ≡ get_or rim w.from y → (guard edge : List PlainSystem) → guard ≡ x.items → edge ≡ y.items
    → IsCutAt p guards rim e guard edge
cut-here p guards rim e held others w there w_is x y x_is y_is guard edge guard_is edge_is =
    let n = length p.vars.items in
    let in_guards : e < length guards = let m = held.many in omega arith in
    let from = source-below p e w there w_is in
    let in_rim : w.from < length rim = let m = others.many in omega arith in
    let source_is : w.from ≡ source_at (plain_plant p) e = sym (ap source_in (switch-there p e w there w_is)) in
    record {
      guard_vars = vars-at n guards e x guard guard_is x_is in_guards held.vars;
      edge_vars = vars-at n rim w.from y edge edge_is y_is in_rim others.vars;
      same = ap (λ ps. meet_lists frac_arithmetic n ps (lines_of edge)) (ap lines_of guard_is ∙ lines-at guards e x x_is in_guards)
          ∙ ap (meet_lists frac_arithmetic n (pieces_at (plain_region guards) e)) (ap lines_of edge_is ∙ lines-at rim w.from y y_is in_rim ∙ ap (pieces_at (plain_region rim)) source_is);
    }
