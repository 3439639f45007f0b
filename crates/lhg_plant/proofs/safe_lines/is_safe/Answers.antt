use Rattle.std.proofs.Common.{◌≡◌, ◌<◌, length, map, sym, subst, arith}
use Rattle.lhg_math.specs.Tests.{AllOf}
use Rattle.lhg_num.specs.FracArithmetic.{frac_arithmetic}
use Rattle.lhg_num.specs.Halting.{IsWideBy}
use Rattle.lhg_row.specs.Truths.{some_truth}
use Rattle.lhg_row.specs.Width.{AllWide}
use Rattle.lhg_plant.specs.Proper.{IsLocation}
use Rattle.lhg_plant.specs.Views.{plain_plant, plain_state, plain_location}
use Rattle.lhg_plant.proofs.LegalSteps.{image_at, all_at, told_there}
use Rattle.lhg_plant.proofs.LegalExact.{exact_by}
use Rattle.lhg_plant.proofs.SafeLines.{safe_exact, lines_wide}
use Rattle.lhg_plant.proofs.safe_lines.is_safe.Goals as goal

pub some_holds-requires : goal.some_holds-requires
some_holds-requires c =
    let p = c.args.plant.now in
    let z = c.args.state.now in
    let below : z.loc < length p.locs.items = omega (arith, c.requires.there, p.locs.ok.0) in
    let same : length p.vars.items ≡ length z.at = omega (arith, c.requires.lengths, p.vars.ok.0) in
    let l = all_at (IsLocation (length p.vars.items)) (map plain_location p.locs.items) z.loc _ p.proper.locs (image_at plain_location p.locs.items z.loc c.index.result.now below c.index.ensures) in
    subst (λ lines. AllOf (λ rows. AllWide (length z.at) rows.items) lines) (sym c.deref.ensures.value)
    (subst (λ n. AllOf (λ rows. AllWide n rows.items) c.index.result.now.safe.items) same (lines_wide (length p.vars.items) (λ rows. rows.items) c.index.result.now.safe.items l.safe))

pub returns-clause-calculus : goal.returns-clause-calculus
returns-clause-calculus c =
    let p = c.args.plant.now in
    let z = c.args.state.now in
    let below : z.loc < length p.locs.items = omega (arith, c.requires.there, p.locs.ok.0) in
    told_there c.some_holds.result (λ l. some_truth frac_arithmetic l.safe z.at) _ _ (image_at plain_location p.locs.items z.loc c.index.result.now below c.index.ensures)
    (subst (λ lines. IsWideBy c.some_holds.result (some_truth frac_arithmetic (map (λ rows. rows.items) lines) z.at) (λ b. b)) c.deref.ensures.value c.some_holds.ensures)

pub returns-clause-exact : goal.returns-clause-exact
returns-clause-exact c = λ st.
    let p = c.args.plant.now in
    let z = c.args.state.now in
    let below : z.loc < length p.locs.items = omega (arith, c.requires.there, p.locs.ok.0) in
    exact_by c.some_holds.result _
    (told_there c.some_holds.result (λ l. some_truth frac_arithmetic l.safe z.at) _ _ (image_at plain_location p.locs.items z.loc c.index.result.now below c.index.ensures)
    (subst (λ lines. IsWideBy c.some_holds.result (some_truth frac_arithmetic (map (λ rows. rows.items) lines) z.at) (λ b. b)) c.deref.ensures.value c.some_holds.ensures))
    (safe_exact frac_arithmetic (plain_plant p) (plain_state z) st)
