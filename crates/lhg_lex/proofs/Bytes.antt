-- Which class a byte belongs to: letters, digits and signs are apart.
use Rattle.std.proofs.Common.{◌≡◌, ℕ, ◌≤◌, true, false, arith}
use Rattle.std.proofs.lemmas.Bool.Decides.{nat_tests}
use Rattle.lhg_lex.specs.Word.{begins_word, is_digit}
use Rattle.lhg_lex.specs.Token.{is_sign_byte, is_pair}
use Rattle.lhg_lex.specs.LineTokens.{is_separator}

-- a digit lies from 0 to 9
pub digit_from : (b : ℕ) → is_digit b ≡ true → (48 ≤ b) × (b ≤ 57)
digit_from b h = grind (arith, nat_tests)

-- what begins a word is no digit
pub word_not_digit : (b : ℕ) → begins_word b ≡ true → is_digit b ≡ false
word_not_digit b h = grind (arith, nat_tests)

-- a digit begins no word
pub digit_not_word : (b : ℕ) → is_digit b ≡ true → begins_word b ≡ false
digit_not_word b h = grind (arith, nat_tests)

-- what begins a word is no sign
pub word_not_sign : (b : ℕ) → begins_word b ≡ true → is_sign_byte b ≡ false
word_not_sign b h = grind (arith, nat_tests)

-- a digit is no sign
pub digit_not_sign : (b : ℕ) → is_digit b ≡ true → is_sign_byte b ≡ false
digit_not_sign b h = grind (arith, nat_tests)

-- what begins a word begins no two signs
pub word_not_pair : (b c : ℕ) → begins_word b ≡ true → is_pair b c ≡ false
word_not_pair b c h = grind (arith, nat_tests)

-- a digit begins no two signs
pub digit_not_pair : (b c : ℕ) → is_digit b ≡ true → is_pair b c ≡ false
digit_not_pair b c h = grind (arith, nat_tests)

-- two signs begin with a sign
pub pair_needs_sign : (b c : ℕ) → is_sign_byte b ≡ false → is_pair b c ≡ false
pair_needs_sign b c h = grind (arith, nat_tests)

-- a separator is of no other class
pub separator_not_word : (b : ℕ) → is_separator b ≡ true → begins_word b ≡ false
separator_not_word b h = grind (arith, nat_tests)

-- a separator is no digit
pub separator_not_digit : (b : ℕ) → is_separator b ≡ true → is_digit b ≡ false
separator_not_digit b h = grind (arith, nat_tests)

-- a separator is no sign
pub separator_not_sign : (b : ℕ) → is_separator b ≡ true → is_sign_byte b ≡ false
separator_not_sign b h = grind (arith, nat_tests)
