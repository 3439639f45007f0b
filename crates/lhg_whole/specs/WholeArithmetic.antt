-- The arithmetic of whole numbers in 128 bits, and that it is lawful.
use Rattle.std.specs.Prelude.{false}
use Rattle.lhg_math.specs.Number.{add, sub, mul}
use Rattle.lhg_num.specs.Limits.{is_past}
use Rattle.lhg_num.specs.Arithmetic.{Arithmetic, IsLawful}
use Rattle.lhg_whole.specs.Content.{is_whole, canon_whole}
use Rattle.lhg_whole.specs.ContentLaws.{canon_multiple, canon_same, canon_held, nought_whole, unit_whole, add_whole, mul_whole, neg_whole}

-- an operation is refused where its result is past the limit; comparisons and scaling never are
abbrev pub whole_arithmetic : Arithmetic
whole_arithmetic = record {
  holds = is_whole;
  refuses_add = λ x y. is_past (add x y).top;
  refuses_sub = λ x y. is_past (sub x y).top;
  refuses_mul = λ x y. is_past (mul x y).top;
  refuses_cmp = λ x y. false;
  refuses_canon = λ row. false;
  canon_of = canon_whole;
}

-- whole numbers keep the laws of a number type
pub whole_is_lawful : IsLawful whole_arithmetic
whole_is_lawful = record {
  multiple = canon_multiple;
  same = canon_same;
  nought_held = nought_whole;
  unit_held = unit_whole;
  add_held = add_whole;
  mul_held = mul_whole;
  neg_held = neg_whole;
  canon_held = canon_held;
}
