-- Why do rows of one direction share their code?
use Rattle.std.proofs.Common.{◌≡◌, ◌⊎◌, ℕ, ◌<◌, ◌*◌, ◌+◌, true, false, List, [], ◌∷◌, map, refl, sym, ap, ◌∙◌, subst, inl, inr, arith}
use Rattle.lhg_math.specs.Number.{Number, mul, quot, inverse, unit}
use Rattle.lhg_math.specs.NumberRing.{mul_comm, mul_assoc, mul_left_comm, mul-unit}
use Rattle.lhg_math.specs.Quotients.{quot-is, mul-inverse}
use Rattle.lhg_math.specs.Signs.{is_nought}
use Rattle.lhg_math.specs.SignLaws.{abs_pos}
use Rattle.lhg_math.specs.Tests.{by_bool}
use Rattle.lhg_num.specs.Arithmetic.{Arithmetic}
use Rattle.lhg_row.specs.Row.{PlainRow}
use Rattle.lhg_row.specs.Trim.{lead_size, same_direction}
use Rattle.lhg_row.specs.TrimLaws.{agree-same}
use Rattle.lhg_row.specs.Codes.{unknown, mixed, codes_from, code, IsKnown, IsCode}

-- two products that are the same, each without its factor
crossed : (f g c d : Number) → is_nought f ≡ false → is_nought g ≡ false → mul f c ≡ mul g d → quot c g ≡ quot d f
crossed f g c d hf hg e =
    let i = inverse f in
    let j = inverse g in
    let uf : mul f i ≡ unit = mul-inverse f (abs_pos f hf) in
    let ug : mul g j ≡ unit = mul-inverse g (abs_pos g hg) in
    let left : mul (mul f c) (mul i j) ≡ mul c j =
    mul_assoc f c (mul i j) ∙ mul_left_comm f c (mul i j) ∙ ap (mul c) (sym (mul_assoc f i j) ∙ ap (λ u. mul u j) uf ∙ mul_comm unit j ∙ mul-unit j) in
    let right : mul (mul g d) (mul i j) ≡ mul d i =
    mul_assoc g d (mul i j) ∙ mul_left_comm g d (mul i j) ∙ ap (mul d) (mul_left_comm g i j ∙ ap (mul i) ug ∙ mul-unit i) in
    quot-is c g ∙ sym left ∙ ap (λ p. mul p (mul i j)) e ∙ right ∙ sym (quot-is d f)

-- so of lists of them
codes-same : (f g : Number) → is_nought f ≡ false → is_nought g ≡ false → (h : ℕ) (cs ds : List Number) → map (λ x. mul f x) cs ≡ map (λ x. mul g x) ds
    → codes_from g h cs ≡ codes_from f h ds
codes-same f g hf hg h [] [] e = refl
codes-same f g hf hg h [] (d ∷ ds) e = cc
codes-same f g hf hg h (c ∷ cs) [] e = cc
codes-same f g hf hg h (c ∷ cs) (d ∷ ds) e =
    let first : mul f c ≡ mul g d = cc in
    let others : map (λ x. mul f x) cs ≡ map (λ x. mul g x) ds = cc in
    ap (λ q. codes_from g (mixed h q) cs) (crossed f g c d hf hg first) ∙ codes-same f g hf hg (mixed h (quot d f)) cs ds others

-- rows with different codes have different directions
pub codes-apart : (a : Arithmetic) (r s : PlainRow) (b c : ℕ) → IsCode b r.coefs → IsCode c s.coefs → b < unknown → c < unknown → ¬ (b ≡ c) → false ≡ (same_direction a r s).value
codes-apart a r s b c (inl e) k hb hc n = absurd (omega (arith, e, hb))
codes-apart a r s b c (inr j) (inl e) hb hc n = absurd (omega (arith, e, hc))
codes-apart a r s b c (inr j) (inr k) hb hc n =
    by_bool (same_direction a r s).value
    (λ e.
    let same = codes-same (lead_size s) (lead_size r) k.0 j.0 0 r.coefs s.coefs (agree-same a (λ y. y) (lead_size s) (lead_size r) r.coefs s.coefs e) in
    absurd (n (j.1 ∙ same ∙ sym k.1)))
    (λ e. sym e)
