use Rattle.std.proofs.Common.{◌≡◌, ◌++◌, length, sym, ap, ◌∙◌, subst, rules}
use Rattle.std.specs.Prelude.{option_map, IfSome}
use Rattle.lhg_num.specs.MarkedLaws.{IsPart}
use Rattle.lhg_num.proofs.Halted.{all_from_pieces}
use Rattle.lhg_row.specs.System.{PlainSystem}
use Rattle.lhg_row.specs.Width.{AllWide}
use Rattle.lhg_plant.specs.Proper.{IsLocation}
use Rattle.lhg_plant.specs.Views.{plain_location, plain_plant}
use Rattle.lhg_union.specs.Regions.{plain_region}
use Rattle.lhg_union.proofs.Halts.{all_on_rows}
use Rattle.lhg_math.specs.ListFacts.{all_map_at}
use Rattle.lhg_ctl.specs.Making.{made_in, line_at}
use Rattle.lhg_ctl.proofs.MakingSteps.{rest_halts, inv_is, made_part, put_rest}
use Rattle.lhg_ctl.proofs.making.put_line.Goals as goal

pub made-requires-clause-inv : goal.made-requires-clause-inv
made-requires-clause-inv c =
    let n : c.len.result ≡ length c.args.plant.now.vars.items = search rules in
    let l = all_map_at (IsLocation (length c.args.plant.now.vars.items)) plain_location c.args.plant.now.locs.items c.args.location c.index.result.now c.args.plant.now.proper.locs c.requires.location c.index.ensures in
    subst (AllWide c.len.result) (sym c.deref.ensures.value) (subst (λ m. AllWide m c.index.result.now.inv.items) (sym n) l.inv.wide)

pub returns-in_err-piece-clause-calculus : goal.returns-in_err-piece-clause-calculus
returns-in_err-piece-clause-calculus c =
    let a = plain_plant c.args.plant.now in
    let n : c.len.result ≡ length c.args.plant.now.vars.items = search rules in
    let lists = plain_region c.args.lists.now.pieces.items in
    let rows = c.args.rows.now in
    let inv = inv_is c.args.plant.now.locs.items c.args.location c.index.result.now c.requires.location c.index.ensures ∙ sym c.deref.ensures.value in
    all_on_rows c.from_residual.result c.in_err-piece.field-0.0 _ _ _ (option_map (λ (p : PlainSystem). p.lines)) c.from_residual.ensures.1 c.in_err-piece.ensures.calculus
    (subst (λ m. IsPart (line_at a c.args.location lists (c.args.place, rows)) (made_in m c.deref.result.now rows)) (sym n) (made_part a c.args.location lists c.args.place c.deref.result.now rows inv))

pub returns-clause-calculus : goal.returns-clause-calculus
returns-clause-calculus c =
    let a = plain_plant c.args.plant.now in
    let n : c.len.result ≡ length c.args.plant.now.vars.items = search rules in
    let lists = plain_region c.args.lists.now.pieces.items in
    let rows = c.args.rows.now in
    let inv = inv_is c.args.plant.now.locs.items c.args.location c.index.result.now c.requires.location c.index.ensures ∙ sym c.deref.ensures.value in
    rest_halts c.put.result _ _ _
    (put_rest a c.args.location lists c.args.place c.deref.result.now rows (option_map (λ (p : PlainSystem). p.lines) c.in_ok-piece.piece) inv (c.in_ok-piece.ensures.calculus ∙ ap (λ m. (made_in m c.deref.result.now rows).value) n))
    (all_from_pieces c.put.result _ _ c.put.ensures.calculus)

pub returns-clause-vars : goal.returns-clause-vars
returns-clause-vars c =
    let n : c.len.result ≡ length c.args.plant.now.vars.items = search rules in
    c.put.ensures.vars (length c.args.plant.now.vars.items) c.requires.vars (subst (λ m. IfSome c.in_ok-piece.piece (λ p. p.width ≡ m)) n c.in_ok-piece.ensures.vars)
