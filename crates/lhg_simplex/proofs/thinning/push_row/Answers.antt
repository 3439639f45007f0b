use Rattle.std.proofs.Common.{sym, ap, ◌∙◌, subst}
use Rattle.lhg_row.specs.Moves.{negated}
use Rattle.lhg_simplex.specs.Others.{others, IsFrom}
use Rattle.lhg_simplex.proofs.OtherLaws.{here-is, opposite-from, other-from, from-push}
use Rattle.lhg_simplex.proofs.thinning.push_row.Goals as goal

pub returns-in_ok-push-clause-rows : goal.returns-in_ok-push-clause-rows
returns-in_ok-push-clause-rows g c =
    let n = c.args.vars in
    let rows = c.args.rows.now in
    let i = c.args.i in
    let is = c.in_ok-opposite.ensures.row ∙ ap negated (here-is rows i c.index-rows-i.result c.index-rows-i.is c.requires.there) in
    from-push n (others rows i) c.args.out.now.items c.in_ok-opposite.opposite c.push.new.self.items c.requires.from
    (subst (IsFrom n (others rows i)) (sym is) (opposite-from n rows i c.requires.wide c.requires.there)) c.in_ok-push.ensures.items

pub returns-in_ok-push-2-clause-rows : goal.returns-in_ok-push-2-clause-rows
returns-in_ok-push-2-clause-rows g c =
    let n = c.args.vars in
    let rows = c.args.rows.now in
    let i = c.args.i in
    let is = c.in_ok-copy.ensures ∙ here-is rows c.args.place c.index-rows-place.result c.index-rows-place.is c.if-place-rows.true in
    from-push n (others rows i) c.args.out.now.items c.in_ok-copy.copy c.push-then-place-rows.new.self.items c.requires.from
    (subst (IsFrom n (others rows i)) (sym is) (other-from n rows i c.requires.wide c.requires.there c.args.place c.if-place-i.false c.if-place-rows.true)) c.in_ok-push-2.ensures.items
