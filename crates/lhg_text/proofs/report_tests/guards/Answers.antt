use Rattle.std.proofs.Common.{◌≡◌, ◌<◌, ℕ, zero, suc, List, ◌∷◌, ◌++◌, [], length, map, get_or, refl, sym, ap, ◌∙◌, subst, arith, rules}
use Rattle.std.specs.Global.{Vec}
use Rattle.std.specs.Prelude.{slice_get, IsSomeAnd}
use Rattle.lhg_math.specs.Tests.{AllOf}
use Rattle.lhg_row.specs.Members.{all-append}
use Rattle.lhg_row.specs.System.{PlainSystem}
use Rattle.lhg_plant.specs.declared.plants.Side.{Side}
use Rattle.lhg_plant.specs.declared.plants.Side.TheVariants.{Env}
use Rattle.lhg_plant.specs.declared.plants.Switch.{Switch}
use Rattle.lhg_plant.specs.Views.{plain_switch, plain_plant}
use Rattle.lhg_union.specs.PolyLists.{lines_of, AllVars}
use Rattle.lhg_union.specs.Regions.{plain_region}
use Rattle.lhg_ctl.specs.Written.{AreOfController}
use Rattle.lhg_text.proofs.report_tests.guards.Goals as goal

-- a list more
one_more : (gs : List (Vec PlainSystem)) (g : Vec PlainSystem) (e : ℕ) → get_or (plain_region gs) e [] ≡ [] → (e ≡ length gs → g.items ≡ []) → get_or (plain_region (gs ++ g ∷ [])) e [] ≡ []
one_more [] g zero h k = ap lines_of (k refl)
one_more [] g (suc e) h k = refl
one_more (x ∷ gs) g zero h k = h
one_more (x ∷ gs) g (suc e) h k = one_more gs g e h (λ f. k (ap suc f))

-- the side of the switch at a place
side_at : (switches : List Switch) (i : ℕ) (w : Switch) → i < length switches → w ≡ get_or switches i w → IsSomeAnd (slice_get (map plain_switch switches) i) (λ v. v.side ≡ Env) → w.side ≡ Env
side_at [] i w h e s = absurd (omega arith)
side_at (v ∷ switches) zero w h e s = ap (λ x. x.side) e ∙ s
side_at (v ∷ switches) (suc i) w h e s = side_at switches i w (omega arith) e s

pub loop-i-preserved : goal.loop-i-preserved
loop-i-preserved c =
    let wide : Vec PlainSystem → Type 0 = λ ps. AllVars 1 ps.items in
    let next = c.in_ok-next.next in
    let old = c.loop-i.out.items in
    let switches = c.args.plant.now.switches.items in
    let below : c.loop-i.i < length switches = search rules in
    record {
      count = search rules;
      vars = subst (AllOf wide) (sym c.in_ok-push.ensures.items) (all-append wide old (next ∷ []) c.loop-i.invariant.vars (c.in_ok-next.ensures.vars, tt));
      ctl = subst (λ gs. AreOfController (plain_plant c.args.plant.now) (plain_region gs)) (sym c.in_ok-push.ensures.items)
          (λ e side. one_more old next e (c.loop-i.invariant.ctl e side)
          (λ f. c.in_ok-next.ensures.none (side_at switches c.loop-i.i c.index.result.now below c.index.ensures (subst (λ k. IsSomeAnd (slice_get (map plain_switch switches) k) (λ v. v.side ≡ Env)) (f ∙ c.loop-i.invariant.count) side))));
    }
