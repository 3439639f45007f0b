-- What holds of what is read so far?
use Rattle.std.proofs.Common.{◌≡◌, ◌+◌, inl, inr, ℕ, List, [], ◌∷◌, ◌++◌, map, refl, sym, ap, ◌∙◌, subst, Some, Ok, arith, append_assoc, append-nil, length-append}
use Rattle.std.specs.List.{AllByRecursion}
use Rattle.lhg_lex.specs.LineTokens.{Spot, tokens_of, IsBlankLine}
use Rattle.lhg_lex.specs.Reading.{Reading, left_of, IsNext, IsTokenLine}
use Rattle.lhg_lex.specs.TextTokens.{plain_of}
use Rattle.lhg_lex.specs.declared.tokens.Line.{Line}
use Rattle.lhg_lex.specs.declared.tokens.Token.{Token}
use Rattle.lhg_read.specs.Options.{joined}
use Rattle.lhg_read.specs.PlantText.{said_in}
use Rattle.lhg_read.specs.Reads.{EndsFull, Reads, CanGoOn}
use Rattle.lhg_read.specs.TokenLineLaws.{token_lines-append, blank_lines, token_line_of, has_tokens}
use Rattle.lhg_read.specs.TokenText.{token_line, token_lines, IsReadTo, ReadsText}

-- nothing is read
pub reads_nothing : (s : Reading) → Reads s s []
reads_nothing s = record { front = []; read = record { left = refl; bytes = refl; count = omega arith }; are = refl; full = inl refl }

-- the lines up to the next
pub front_more : (old s : Reading) (tokens : List (List Spot)) (r : Reads old s tokens) (n : ℕ) (line : List ℕ) (h : IsNext s n line) → left_of old ≡ (r.front ++ h.blanks) ++ (line ∷ left_of (record s { read = n + 1 }))
front_more old s tokens r n line h = r.read.left ∙ ap (λ ls. r.front ++ ls) h.left ∙ sym (append_assoc r.front h.blanks (line ∷ left_of (record s { read = n + 1 })))

-- and their tokens
pub front_tokens : (old s : Reading) (tokens : List (List Spot)) (r : Reads old s tokens) (blanks : List (List ℕ)) → AllByRecursion IsBlankLine blanks → token_lines (r.front ++ blanks) ≡ Some tokens
front_tokens old s tokens r blanks h = token_lines-append r.front blanks ∙ ap (λ o. joined o (token_lines blanks)) r.are ∙ ap (joined (Some tokens)) (blank_lines blanks h) ∙ ap (λ ts. Some ts) (append-nil tokens)

-- a line with tokens is read
pub reads_more : (old s : Reading) (tokens : List (List Spot)) (line : Line) (new : Reading) (r : Reads old s tokens) (h : IsTokenLine s line) → new ≡ record s { read = line.number } → Reads old new (tokens ++ h.spots ∷ [])
reads_more old s tokens line new r h e = subst (λ x. Reads old x (tokens ++ h.spots ∷ [])) (sym e) (record {
  front = (r.front ++ h.next.blanks) ++ h.bytes ∷ [];
  read = record {
    left =
        front_more old s tokens r h.before h.bytes h.next
        ∙ ap (λ k. (r.front ++ h.next.blanks) ++ (h.bytes ∷ left_of (record s { read = k }))) (sym h.counted)
        ∙ sym (append_assoc (r.front ++ h.next.blanks) (h.bytes ∷ []) (left_of (record s { read = line.number })));
    bytes = r.read.bytes;
    count =
        let a = length-append (r.front ++ h.next.blanks) (h.bytes ∷ []) in
        let b = length-append r.front h.next.blanks in
        let c = r.read.count in
        let d = h.next.count in
        let f = h.counted in
        omega (arith, a, b, c, d, f);
  };
  are =
      token_lines-append (r.front ++ h.next.blanks) (h.bytes ∷ [])
      ∙ ap (λ o. joined o (token_lines (h.bytes ∷ []))) (front_tokens old s tokens r h.next.blanks h.next.blank)
      ∙ ap (λ o. joined (Some tokens) (joined (token_line o) (Some []))) h.reads
      ∙ ap (λ o. joined (Some tokens) (joined o (Some []))) (token_line_of h.spots h.some);
  full = inr (r.front ++ h.next.blanks, h.bytes, refl, has_tokens h.bytes h.spots h.reads h.some);
})

-- where a text goes on behind a line, it goes on before it
pub on_by : (Is : List (List Spot) → Type 0) (tokens : List (List Spot)) (line : List ℕ) (spots : List Spot) → tokens_of line ≡ Ok spots → token_line (Ok spots) ≡ Some (spots ∷ []) → CanGoOn Is (tokens ++ spots ∷ []) → CanGoOn Is tokens
on_by Is tokens line spots e f c = record {
  more = line ∷ c.more;
  further = spots ∷ c.further;
  are = ap (λ o. joined (token_line o) (token_lines c.more)) e ∙ ap (λ o. joined o (token_lines c.more)) f ∙ ap (joined (Some (spots ∷ []))) c.are;
  is = subst (λ ts. Is ts) (append_assoc tokens (spots ∷ []) c.further) c.is;
}

-- lines with tokens that are read are a text where their tokens are in the grammar
pub reads_text : (Is : List (List Spot) → Type 0) (old s : Reading) (tokens : List (List Spot)) (r : Reads old s tokens) → Is tokens → (tokens ≡ [] → ⊥) → ReadsText Is old s
reads_text Is old s tokens r is some = by_full r.full
  where
    same : (ts us : List (List Spot)) → Some ts ≡ Some us → us ≡ ts
    same ts us e = cc

    by_full : EndsFull r.front → ReadsText Is old s
    by_full (inl e) = absurd (some (same [] tokens (ap token_lines (sym e) ∙ r.are)))
    by_full (inr x) = record {
      before = x.0;
      last = x.1;
      read = subst (λ ls. IsReadTo old s ls) x.2 r.read;
      text = record { tokens = tokens; are = ap token_lines (sym x.2) ∙ r.are; is = is };
      not_blank = x.3;
    }

-- what the tokens of a line say, in the text and by themselves
pub said_is : (s : Reading) (line : Line) (h : IsTokenLine s line) → map (plain_of s.bytes) line.tokens.items ≡ said_in h.spots
said_is s line h = ap (λ l. l.tokens) h.says

pub same_bytes : (s new : Reading) (n : ℕ) → new ≡ record s { read = n } → new.bytes ≡ s.bytes
same_bytes s new n e = ap (λ (x : Reading). x.bytes) e

-- what the tokens of a line say, in the text behind it
pub said_after : (s : Reading) (line : Line) (new : Reading) (h : IsTokenLine s line) → new ≡ record s { read = line.number } → (tokens : List Token) → tokens ≡ line.tokens.items → map (plain_of new.bytes) tokens ≡ said_in h.spots
said_after s line new h e tokens f = ap (λ b. map (plain_of b) tokens) (same_bytes s new line.number e) ∙ ap (map (plain_of s.bytes)) f ∙ said_is s line h
