use Rattle.std.proofs.Common.{◌<◌, ◌++◌, ◌∷◌, [], ap, ◌∙◌, get_or, length, set, arith}
use Rattle.lhg_ctl.specs.NameLists.{lists_in}
use Rattle.lhg_ctl.proofs.Listing.{set_more}
use Rattle.lhg_ctl.proofs.name_lists.list_name.Goals as goal

pub returns : goal.returns
returns c =
    let xs = c.args.lists.now.items in
    let k = c.list_of-place.result in
    let there : k < length xs = let many = c.requires in let below = c.list_of-place.ensures.below in omega (arith, many, below) in
    set_more xs k c.index_mut.result.now c.push.new.self c.index_mut.ensures.value there c.args.name c.in_ok-push.ensures.items
    ∙ ap (λ place. set (lists_in xs) place (get_or (lists_in xs) place [] ++ c.args.name ∷ [])) c.list_of-place.ensures.list
