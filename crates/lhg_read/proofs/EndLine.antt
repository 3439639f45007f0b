-- The line `end` has one token.
use Rattle.std.proofs.Common.{◌≡◌, List, [], ◌∷◌, refl, Ok, codes}
use Rattle.lhg_lex.specs.LineTokens.{Spot, tokens_of}
use Rattle.lhg_lex.specs.Longest.{longest}
use Rattle.lhg_lex.specs.PlainToken.{word}

-- its tokens
unfoldable pub end_line : List Spot
end_line = record { says = word (codes "end"); from = 0; to = 3 } ∷ []

-- it says them
pub end_tokens : tokens_of (codes "end") ≡ Ok end_line
unfolding longest tokens_of end_line
end_tokens = refl
