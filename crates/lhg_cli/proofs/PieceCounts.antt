-- How many pieces do the first lists have in all?
use Rattle.std.proofs.Common.{◌≡◌, ◌+◌, ◌<◌, ℕ, zero, suc, List, [], ◌∷◌, length, take, get_or, arith, ap, ◌∙◌}
use Rattle.std.specs.Global.{Vec}
use Rattle.std.proofs.lemmas.List.{length-map}
use Rattle.std.proofs.lemmas.List.Sums.{sum_by-cons}
use Rattle.lhg_row.specs.System.{PlainSystem}
use Rattle.lhg_union.specs.PolyLists.{lines_of}
use Rattle.lhg_union.specs.Regions.{plain_region}
use Rattle.lhg_cli.specs.Summary.{pieces_in}

-- of one list and others
split : (x : Vec PlainSystem) (lists : List (Vec PlainSystem)) (i : ℕ)
    → pieces_in (plain_region (take (suc i) (x ∷ lists))) ≡ length (lines_of x.items) + pieces_in (plain_region (take i lists))
split x lists i = sum_by-cons (λ ps. length ps) (lines_of x.items) (plain_region (take i lists))

-- one list more
next : (lists : List (Vec PlainSystem)) (i : ℕ) (d : Vec PlainSystem) → i < length lists
    → pieces_in (plain_region (take (suc i) lists)) ≡ pieces_in (plain_region (take i lists)) + length (get_or lists i d).items
next [] i d low = absurd (omega (arith, low))
next (x ∷ lists) zero d low = let n : length (lines_of x.items) ≡ length x.items = length-map x.items _ in split x lists 0 ∙ omega (arith, n)
next (x ∷ lists) (suc i) d low =
    let more : pieces_in (plain_region (take (suc i) lists)) ≡ pieces_in (plain_region (take i lists)) + length (get_or (x ∷ lists) (suc i) d).items = next lists i d (omega (arith, low)) in
    let l = split x lists (suc i) in
    let r = split x lists i in
    omega (arith, more, l, r)

pub one_more : (lists : List (Vec PlainSystem)) (i : ℕ) (d : Vec PlainSystem) → i < length lists
    → pieces_in (plain_region (take (i + 1) lists)) ≡ pieces_in (plain_region (take i lists)) + length (get_or lists i d).items
one_more lists i d low =
    let e : i + 1 ≡ suc i = omega arith in
    ap (λ n. pieces_in (plain_region (take n lists))) e ∙ next lists i d low
