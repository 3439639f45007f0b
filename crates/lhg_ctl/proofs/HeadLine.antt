-- The first line of a controller is its head.
use Rattle.std.proofs.Common.{◌≡◌, List, [], ◌∷◌, refl, Some, Ok, codes}
use Rattle.std.proofs.Math.IntN.{pos}
use Rattle.std.specs.Fmt.{digits}
use Rattle.lhg_math.specs.Gcd.{gcd}
use Rattle.lhg_math.specs.Number.{unit, whole, ratio, ratio_suc, lt, nought}
use Rattle.lhg_lex.specs.LineTokens.{Spot, tokens_of}
use Rattle.lhg_lex.specs.Longest.{longest}
use Rattle.lhg_lex.specs.PlainToken.{word, number}
use Rattle.lhg_read.specs.TokenText.{token_line}
use Rattle.lhg_ctl.specs.ControllerGrammar.{version_in}
use Rattle.lhg_ctl.specs.declared.versions.Version.TheVariants.{First, Second}

-- the tokens of the head of version 1
unfoldable pub head_line : List Spot
head_line = record { says = word (codes "controller"); from = 0; to = 10 } ∷ record { says = number unit; from = 11; to = 12 } ∷ []

-- it says them
pub head_tokens : tokens_of (codes "controller 1") ≡ Ok head_line
unfolding longest tokens_of unit head_line
head_tokens = refl

-- they are not none
pub head_some : token_line (Ok head_line) ≡ Some (head_line ∷ [])
unfolding head_line
head_some = refl

-- they are a head
pub head_is : version_in head_line ≡ Some First
unfolding head_line digits unit lt nought whole ratio ratio_suc gcd
head_is = refl

-- the same of version 2
unfoldable pub second_line : List Spot
second_line = record { says = word (codes "controller"); from = 0; to = 10 } ∷ record { says = number (whole (pos 2)); from = 11; to = 12 } ∷ []

pub second_tokens : tokens_of (codes "controller 2") ≡ Ok second_line
unfolding longest tokens_of second_line whole
second_tokens = refl

pub second_some : token_line (Ok second_line) ≡ Some (second_line ∷ [])
unfolding second_line
second_some = refl

pub second_is : version_in second_line ≡ Some Second
unfolding second_line digits lt nought whole ratio ratio_suc gcd
second_is = refl
