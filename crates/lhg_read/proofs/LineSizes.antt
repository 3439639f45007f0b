-- How long are the tokens of a line, in its text and by themselves?
use Rattle.std.proofs.Common.{◌≡◌, ◌+◌, ◌-◌, ℕ, List, [], ◌∷◌, map, refl, ap, ◌∙◌, arith}
use Rattle.lhg_lex.specs.Lines.{lines_of}
use Rattle.lhg_lex.specs.LineTokens.{Spot}
use Rattle.lhg_lex.specs.Reading.{Reading, start_of, IsTokenLine}
use Rattle.lhg_lex.specs.TextTokens.{placed}
use Rattle.lhg_lex.specs.declared.tokens.Line.{Line}
use Rattle.lhg_lex.specs.declared.tokens.Token.{Token}
use Rattle.lhg_read.specs.Numbered.{sizes_in, sizes_of}

-- the tokens of a line in a text have the sizes of its spots
placed_sizes : (start : ℕ) (spots : List Spot) → sizes_of (map (placed start) spots) ≡ sizes_in spots
placed_sizes start [] = refl
placed_sizes start (x ∷ spots) = let e : start + x.to - (start + x.from) ≡ x.to - x.from = omega arith in ap (λ k. k ∷ sizes_of (map (placed start) spots)) e ∙ ap (λ ks. (x.to - x.from) ∷ ks) (placed_sizes start spots)

-- those of a line that was read
pub sizes_are : (s : Reading) (line : Line) (h : IsTokenLine s line) (tokens : List Token) → tokens ≡ line.tokens.items → sizes_of tokens ≡ sizes_in h.spots
sizes_are s line h tokens f = ap sizes_of (f ∙ h.placed_at) ∙ placed_sizes (start_of h.before (lines_of s.bytes)) h.spots
