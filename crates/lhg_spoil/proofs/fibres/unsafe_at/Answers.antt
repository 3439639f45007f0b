use Rattle.std.specs.Prelude.{vec_len}
use Rattle.lhg_plant.specs.declared.plants.Plant.{Plant}
use Rattle.std.proofs.Common.{◌≡◌, ◌<◌, ℕ, arith, length, sym, ap, ◌∙◌, subst, rules}
use Rattle.lhg_num.specs.FracArithmetic.{frac_arithmetic}
use Rattle.lhg_num.specs.Halting.{IsHaltedBy}
use Rattle.lhg_num.specs.MarkedLaws.{IsPart}
use Rattle.lhg_row.specs.Width.{AllWide}
use Rattle.lhg_row.specs.Lists.{minus}
use Rattle.lhg_plant.specs.Invariants.{invariant_list}
use Rattle.lhg_plant.specs.Proper.{IsLocation}
use Rattle.lhg_plant.specs.SafeRegion.{safe_list}
use Rattle.lhg_plant.specs.Views.{plain_plant}
use Rattle.lhg_union.specs.PolyLists.{lines_of, AllVars}
use Rattle.lhg_union.proofs.Halts.{all_on_rows}
use Rattle.lhg_jump.proofs.Answering.{rest_halts, location-there, location-is}
use Rattle.lhg_plant.specs.Parts.{plain_location}
use Rattle.lhg_spoil.specs.Fibres.{unsafe_at}
use Rattle.lhg_spoil.proofs.FibreCode.{unsafe-inv, unsafe-safe, unsafe-rest}
use Rattle.lhg_spoil.proofs.fibres.unsafe_at.Goals as goal

below : (l : ℕ) (p : Plant) → l < vec_len p.locs → l < length p.locs.items
below l p h = omega (arith, h, p.locs.ok.0)

pub invariant_list-requires : goal.invariant_list-requires
invariant_list-requires c =
    let p = c.args.plant.now in
    let l = c.index-location.result.now in
    let many : c.len.result ≡ length p.vars.items = search rules in
    subst (λ n. AllWide n l.inv.items) (sym many) (location-is p c.args.loc l (location-there p c.args.loc l (below c.args.loc p c.requires.there) c.index-location.ensures)).inv.wide

pub returns-in_err-inv-clause-calculus : goal.returns-in_err-inv-clause-calculus
returns-in_err-inv-clause-calculus c =
    let p = c.args.plant.now in
    let a = plain_plant p in
    let l = c.index-location.result.now in
    let many : c.len.result ≡ length p.vars.items = search rules in
    let is = location-there p c.args.loc l (below c.args.loc p c.requires.there) c.index-location.ensures in
    all_on_rows c.from_residual.result c.in_err-inv.field-0.0 _ (λ v. lines_of v.items) _ (λ v. lines_of v.items) c.from_residual.ensures.1 c.in_err-inv.ensures.calculus
    (subst (λ n. IsPart (unsafe_at a c.args.loc) (invariant_list n (plain_location l))) (sym many) (unsafe-inv a c.args.loc (plain_location l) is))

pub safe_pieces-requires : goal.safe_pieces-requires
safe_pieces-requires c =
    let p = c.args.plant.now in
    let l = c.index-location.result.now in
    let many : c.len-2.result ≡ length p.vars.items = search rules in
    subst (λ n. IsLocation n (plain_location l)) (sym many) (location-is p c.args.loc l (location-there p c.args.loc l (below c.args.loc p c.requires.there) c.index-location.ensures))

pub returns-in_err-safe-clause-calculus : goal.returns-in_err-safe-clause-calculus
returns-in_err-safe-clause-calculus c =
    let p = c.args.plant.now in
    let a = plain_plant p in
    let l = c.index-location.result.now in
    let many : c.len-2.result ≡ length p.vars.items = search rules in
    let is = location-there p c.args.loc l (below c.args.loc p c.requires.there) c.index-location.ensures in
    all_on_rows c.from_residual-in_err-safe.result c.in_err-safe.field-0.0 _ (λ v. lines_of v.items) _ (λ v. lines_of v.items) c.from_residual-in_err-safe.ensures.1 c.in_err-safe.ensures.calculus
    (subst (λ n. IsPart (unsafe_at a c.args.loc) (safe_list n (plain_location l))) (sym many) (unsafe-safe a c.args.loc (plain_location l) is))

pub returns-clause-calculus : goal.returns-clause-calculus
returns-clause-calculus c =
    let p = c.args.plant.now in
    let a = plain_plant p in
    let n = length p.vars.items in
    let l = c.index-location.result.now in
    let one : c.len.result ≡ n = search rules in
    let two : c.len-2.result ≡ n = search rules in
    let is = location-there p c.args.loc l (below c.args.loc p c.requires.there) c.index-location.ensures in
    let inv : lines_of c.deref.result.now ≡ (invariant_list n (plain_location l)).value = ap lines_of c.deref.ensures.value ∙ c.in_ok-inv.ensures.calculus ∙ ap (λ k. (invariant_list k (plain_location l)).value) one in
    let safe : lines_of c.deref-2.result.now ≡ (safe_list n (plain_location l)).value = ap lines_of c.deref-2.ensures.value ∙ c.in_ok-safe.ensures.calculus ∙ ap (λ k. (safe_list k (plain_location l)).value) two in
    let inv_vars = subst (λ ps. AllVars n ps) (sym c.deref.ensures.value) (subst (λ k. AllVars k c.in_ok-inv.inv.items) one c.in_ok-inv.ensures.vars) in
    let safe_vars = subst (λ ps. AllVars n ps) (sym c.deref-2.ensures.value) (subst (λ k. AllVars k c.in_ok-safe.safe.items) two c.in_ok-safe.ensures.vars) in
    let same = ap (λ ps. minus frac_arithmetic n ps (lines_of c.deref-2.result.now)) inv ∙ ap (λ qs. minus frac_arithmetic n (invariant_list n (plain_location l)).value qs) safe in
    rest_halts c.minus.result (unsafe_at a c.args.loc) (minus frac_arithmetic n (invariant_list n (plain_location l)).value (safe_list n (plain_location l)).value) (λ v. lines_of v.items)
    (unsafe-rest a c.args.loc (plain_location l) is)
    (subst (λ m. IsHaltedBy c.minus.result m (λ v. lines_of v.items)) same (c.minus.ensures.calculus n inv_vars safe_vars))
