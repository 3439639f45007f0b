-- Which bytes are taken and copied in two steps?
use Rattle.std.proofs.Common.{◌≡◌, ◌+◌, ◌-◌, ℕ, List, ◌++◌, length, take, drop, sym, ap, ◌∙◌, arith, take_at}
use Rattle.std.proofs.Math.Seq.{take-add}
use Rattle.std.proofs.lemmas.List.{take_rest, take-append-drop, drop-drop}

-- the next n bytes of the rest join those taken before
pub take_two : (d n : ℕ) (bs : List ℕ) → take d bs ++ take n (take (length bs - d) (drop d bs)) ≡ take (d + n) bs
take_two d n bs = ap (λ z. take d bs ++ take n z) (take_rest bs d) ∙ sym (take-add d n bs)

-- n bytes copied from d on to the front of a buffer, and those behind them, are the bytes from d on
pub copied : (d n : ℕ) (bs out rest : List ℕ) → length out ≡ n → out ≡ take ((d + n) - d) (drop d bs) → drop d bs ≡ take n (out ++ rest) ++ drop (d + n) bs
copied d n bs out rest size is =
    let k : (d + n) - d ≡ n = omega arith in
    let is' : out ≡ take n (drop d bs) = is ∙ ap (λ z. take z (drop d bs)) k in
    rw (take_at out rest n size, is') (sym (take-append-drop n (drop d bs)) ∙ ap (λ z. take n (drop d bs) ++ z) (drop-drop n d bs))
