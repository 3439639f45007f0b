-- What do the lines of a generated plant say?
use Rattle.std.proofs.Common.{◌≡◌, ◌+◌, ◌≤◌, ℕ, zero, suc, List, [], ◌∷◌, ◌++◌, map, refl, ap, ◌∙◌, true, false, Some, arith, codes}
use Rattle.std.specs.Prelude.{pos}
use Rattle.std.specs.List.{list_all, flat_map, range_with_len}
use Rattle.std.specs.Option.{option_map}
use Rattle.lhg_math.specs.Number.{neg, unit, whole}
use Rattle.lhg_math.specs.NumberRing.{neg_neg}
use Rattle.lhg_math.specs.Tests.{AllOf}
use Rattle.lhg_lex.specs.Longest.{longest}
use Rattle.lhg_lex.specs.LineTokens.{Spot, tokens_of}
use Rattle.lhg_lex.specs.PlainToken.{PlainToken, word, number, sign, two_signs}
use Rattle.lhg_plant.specs.Example.{at_most, at_least}
use Rattle.lhg_plant.specs.Word.{IsName}
use Rattle.lhg_plant.specs.declared.plants.Side.TheVariants.{Ctl}
use Rattle.lhg_read.specs.Keep.{keep_rows}
use Rattle.lhg_read.specs.Options.{joined}
use Rattle.lhg_read.specs.Pair.{pair_of}
use Rattle.lhg_read.specs.PlantLine.{inv, flow, safe, WrittenSwitch, PlantLine, loc, block, switch, end, switch_of, line_of}
use Rattle.lhg_read.specs.PlantText.{Block, block_lines, said_in}
use Rattle.lhg_read.specs.Rows.{constraint_of, rows_of}
use Rattle.lhg_read.specs.Sum.{sum_of}
use Rattle.lhg_read.specs.TokenLineLaws.{token_lines-append}
use Rattle.lhg_read.specs.TokenText.{token_lines}
use Rattle.lhg_read.specs.declared.forms.Form.TheVariants.{Jump}
use Rattle.lhg_row_text.specs.PrintedLine.{spaced}
use Rattle.lhg_row_text.proofs.LineText.{Says, is_inner}
use Rattle.lhg_row_text.proofs.LinesBack.{IsInner, token_lines-cons}
use Rattle.lhg_row_text.proofs.NamedRows.{words_say, word_says, name_read}
use Rattle.lhg_row_text.proofs.RowReads.{cons_eq}
use Rattle.lhg_gen.specs.GeneratedText.{location_word, switch_word, location_lines, switch_line}
use Rattle.lhg_gen.proofs.NumberedNames.{lettered}

-- the one variable
abbrev pub vars : List (List ℕ)
vars = codes "x" ∷ []

-- ---- one line

-- the line has tokens that say this
pub record IsLineOf (line : List ℕ) (value : PlantLine) : Type 0 where
  pub spots : List Spot
  pub tokens : token_lines (line ∷ []) ≡ Some (spots ∷ [])
  pub reads : line_of vars (said_in spots) ≡ Some value
  pub inner : list_all is_inner line ≡ true

by_says : (line : List ℕ) (first : PlainToken) (others : List PlainToken) (value : PlantLine) → Says line (first ∷ others) → line_of vars (first ∷ others) ≡ Some value → IsLineOf line value
by_says line first others value s h = record {
  spots = s.spots 0;
  tokens = token_lines-cons line [] first others [] s refl;
  reads = ap (line_of vars) (s.says 0) ∙ h;
  inner = s.inner;
}

spot : PlainToken → ℕ → ℕ → Spot
spot says from to = record { says = says; from = from; to = to }

inv_line : IsLineOf (codes "inv 0 <= x <= 10") (block (inv (at_least 0 ∷ at_most 10 ∷ [])))
unfolding longest tokens_of spot line_of rows_of constraint_of pair_of sum_of
inv_line = record {
  spots =
      spot (word (codes "inv")) 0 3 ∷ spot (number (whole (pos 0))) 4 5 ∷ spot (two_signs 60 61) 6 8 ∷ spot (word (codes "x")) 9 10 ∷ spot (two_signs 60 61) 11 13
      ∷ spot (number (whole (pos 10))) 14 16 ∷ [];
  tokens = refl;
  reads = ap (λ q. Some (block (inv (at_least 0 ∷ record { coefs = unit ∷ []; strict = false; bound = q } ∷ [])))) (neg_neg (whole (pos 10)));
  inner = refl;
}

flow_line : IsLineOf (codes "flow x = 1") (block (flow (at_most 1 ∷ at_least 1 ∷ [])))
unfolding longest tokens_of spot line_of rows_of constraint_of pair_of sum_of
flow_line = record {
  spots = spot (word (codes "flow")) 0 4 ∷ spot (word (codes "x")) 5 6 ∷ spot (sign 61) 7 8 ∷ spot (number (whole (pos 1))) 9 10 ∷ [];
  tokens = refl;
  reads =
      ap (λ q. Some (block (flow (record { coefs = unit ∷ []; strict = false; bound = q } ∷ record { coefs = neg unit ∷ []; strict = false; bound = neg q } ∷ []))))
      (neg_neg (whole (pos 1)));
  inner = refl;
}

low_line : IsLineOf (codes "safe x <= 8") (block (safe (at_most 8 ∷ [])))
unfolding longest tokens_of spot line_of rows_of constraint_of pair_of sum_of
low_line = record {
  spots = spot (word (codes "safe")) 0 4 ∷ spot (word (codes "x")) 5 6 ∷ spot (two_signs 60 61) 7 9 ∷ spot (number (whole (pos 8))) 10 11 ∷ [];
  tokens = refl;
  reads = ap (λ q. Some (block (safe (record { coefs = unit ∷ []; strict = false; bound = q } ∷ [])))) (neg_neg (whole (pos 8)));
  inner = refl;
}

high_line : IsLineOf (codes "safe x >= 9") (block (safe (at_least 9 ∷ [])))
unfolding longest tokens_of spot line_of rows_of constraint_of pair_of sum_of
high_line = record {
  spots = spot (word (codes "safe")) 0 4 ∷ spot (word (codes "x")) 5 6 ∷ spot (two_signs 62 61) 7 9 ∷ spot (number (whole (pos 9))) 10 11 ∷ [];
  tokens = refl;
  reads = ap (λ q. Some (block (safe (record { coefs = neg unit ∷ []; strict = false; bound = q } ∷ [])))) (neg_neg (neg (whole (pos 9))));
  inner = refl;
}

end_line : IsLineOf (codes "end") end
unfolding longest tokens_of spot line_of
end_line = record { spots = spot (word (codes "end")) 0 3 ∷ []; tokens = refl; reads = refl; inner = refl }

loc_line : (name : List ℕ) → IsName name → IsLineOf (spaced (codes "loc" ∷ name ∷ [])) (loc name)
unfolding line_of
loc_line name h =
    by_says (spaced (codes "loc" ∷ name ∷ [])) (word (codes "loc")) (word name ∷ []) (loc name)
    (words_say (codes "loc" ∷ []) name (word name ∷ []) (record { word = refl }, tt) (word_says name h.word)) (ap (option_map (λ n. loc n)) (name_read name h))

-- ---- a switch

-- the switch as it is written
abbrev pub written : ℕ → WrittenSwitch
written i = record { name = switch_word i; side = Ctl; from = location_word i; to = location_word (i + 1); jump = keep_rows 1 }

keep_read : rows_of Jump vars (word (codes "keep") ∷ []) ≡ Some (keep_rows 1)
unfolding rows_of constraint_of
keep_read = refl

module _ (name from to : List ℕ) (n : IsName name) (f : IsName from) (t : IsName to) where
  abbrev written_as : WrittenSwitch
  written_as = record { name = name; side = Ctl; from = from; to = to; jump = keep_rows 1 }

  switch_read : switch_of vars (word name ∷ word (codes "ctl") ∷ word from ∷ word to ∷ word (codes "keep") ∷ []) ≡ Some written_as
  switch_read =
      let a = name_read name n in
      let b = name_read from f in
      let d = name_read to t in
      let k = keep_read in
      rw (a, b, d, k) refl

  switch_says : Says (spaced (codes "switch" ∷ name ∷ codes "ctl" ∷ from ∷ to ∷ codes "keep" ∷ [])) (word (codes "switch") ∷ word name ∷ word (codes "ctl") ∷ word from ∷ word to ∷ word (codes "keep") ∷ [])
  switch_says =
      words_say (codes "switch" ∷ name ∷ codes "ctl" ∷ from ∷ to ∷ []) (codes "keep") (word (codes "keep") ∷ [])
      (record { word = refl }, (record { word = n.word }, (record { word = refl }, (record { word = f.word }, (record { word = t.word }, tt))))) (word_says (codes "keep") refl)

  switch_is : IsLineOf (spaced (codes "switch" ∷ name ∷ codes "ctl" ∷ from ∷ to ∷ codes "keep" ∷ [])) (switch written_as)
  unfolding line_of
  switch_is =
      by_says (spaced (codes "switch" ∷ name ∷ codes "ctl" ∷ from ∷ to ∷ codes "keep" ∷ [])) (word (codes "switch")) (word name ∷ word (codes "ctl") ∷ word from ∷ word to ∷ word (codes "keep") ∷ []) (switch written_as)
      switch_says (ap (option_map (λ s. switch s)) switch_read)

-- ---- lines one after the other

-- the tokens of lines, and what they say
pub record AreTokens (lines : List (List ℕ)) (values : List PlantLine) : Type 0 where
  pub tokens : List (List Spot)
  pub are : token_lines lines ≡ Some tokens
  pub say : map (λ l. line_of vars (said_in l)) tokens ≡ map (λ v. Some v) values
  pub inner : AllOf IsInner lines

no_tokens : AreTokens [] []
no_tokens = record { tokens = []; are = refl; say = refl; inner = tt }

-- a line more
more_tokens : {line : List ℕ} {value : PlantLine} {lines : List (List ℕ)} {values : List PlantLine} → IsLineOf line value → AreTokens lines values → AreTokens (line ∷ lines) (value ∷ values)
more_tokens {line} {value} {lines} {values} h m = record {
  tokens = h.spots ∷ m.tokens;
  are = token_lines-append (line ∷ []) lines ∙ ap (λ o. joined o (token_lines lines)) h.tokens ∙ ap (joined (Some (h.spots ∷ []))) m.are;
  say = cons_eq h.reads m.say;
  inner = (record { inner = h.inner }, m.inner);
}

-- a location as it is written
abbrev pub written_block : ℕ → Block
written_block i = record { name = location_word i; lines = inv (at_least 0 ∷ at_most 10 ∷ []) ∷ flow (at_most 1 ∷ at_least 1 ∷ []) ∷ safe (at_most 8 ∷ []) ∷ safe (at_least 9 ∷ []) ∷ [] }

-- the locations from number a on, and what stands behind them
pub locations_say : {lines : List (List ℕ)} {values : List PlantLine} (a n : ℕ) → a + n ≤ 100 → AreTokens lines values
    → AreTokens (flat_map location_lines (range_with_len a n) ++ lines) (flat_map block_lines (map written_block (range_with_len a n)) ++ values)
locations_say a zero h m = m
locations_say a (suc n) h m =
    more_tokens (loc_line (location_word a) (lettered 97 a refl (omega arith)))
    (more_tokens inv_line (more_tokens flow_line (more_tokens low_line (more_tokens high_line (locations_say (a + 1) n (omega arith) m)))))

-- the switches from number a on, and the end
pub switches_say : (a n : ℕ) → a + n ≤ 99 → AreTokens (map switch_line (range_with_len a n) ++ codes "end" ∷ []) (map (λ s. switch s) (map written (range_with_len a n)) ++ end ∷ [])
switches_say a zero h = more_tokens end_line no_tokens
switches_say a (suc n) h =
    more_tokens (switch_is (switch_word a) (location_word a) (location_word (a + 1)) (lettered 103 a refl (omega arith)) (lettered 97 a refl (omega arith)) (lettered 97 (a + 1) refl (omega arith)))
    (switches_say (a + 1) n (omega arith))
