-- Variables are read one after another.
use Rattle.std.proofs.Common.{◌≡◌, ◌<◌, ◌+◌, ℕ, suc, List, [], ◌∷◌, ◌++◌, length, drop, map, refl, sym, ap, ◌∙◌, Bool, true, false, not, cond, ◌&&◌, Option, Some, None, arith, get_or, append_assoc, append-nil, length-append, nat_le}
use Rattle.std.specs.Option.{option_and_then}
use Rattle.std.proofs.Math.Seq.{drop-cons}
use Rattle.std.proofs.lemmas.Bool.Decides.{nat_tests}
use Rattle.std.proofs.Math.Bool.{and-false}
use Rattle.lhg_lex.specs.PlainToken.{PlainToken}
use Rattle.lhg_lex.specs.TextTokens.{plain_of}
use Rattle.lhg_lex.specs.declared.tokens.Token.{Token}
use Rattle.lhg_read.specs.Options.{consed}
use Rattle.lhg_plant.specs.Differ.{is_among, differ_from, all_differ}
use Rattle.lhg_plant.specs.Limits.{most_variables}
use Rattle.lhg_read.specs.Names.{variable_name, variable_names, proper_variables}

-- the variables of further tokens, behind those that are read
abbrev pub further : List (List ℕ) → List PlainToken → Option (List (List ℕ))
further seen ts = option_and_then (λ more. proper_variables (seen ++ more)) (variable_names ts)

and_assoc : (a b c : Bool) → (a && (b && c)) ≡ ((a && b) && c)
and_assoc true b c = refl
and_assoc false b c = refl

-- names that differ, and further ones that differ from them too
pub differ-append : (before xs ys : List (List ℕ)) → differ_from before (xs ++ ys) ≡ (differ_from before xs && differ_from (before ++ xs) ys)
differ-append before [] ys = ap (λ b. differ_from b ys) (sym (append-nil before))
differ-append before (x ∷ xs) ys =
    ap (λ b. not (is_among x before) && b) (differ-append (before ++ x ∷ []) xs ys ∙ ap (λ b. differ_from (before ++ x ∷ []) xs && differ_from b ys) (append_assoc before (x ∷ []) xs))
    ∙ and_assoc (not (is_among x before)) (differ_from (before ++ x ∷ []) xs) (differ_from (before ++ x ∷ xs) ys)

-- one name more
pub differ_more : (seen : List (List ℕ)) (n : List ℕ) → all_differ seen ≡ true → is_among n seen ≡ false → all_differ (seen ++ n ∷ []) ≡ true
differ_more seen n h k = differ-append [] seen (n ∷ []) ∙ rw (h, k) refl

-- a name that is among those before it
pub differ_not : (seen : List (List ℕ)) (n : List ℕ) (more : List (List ℕ)) → is_among n seen ≡ true → all_differ (seen ++ n ∷ more) ≡ false
differ_not seen n more h = differ-append [] seen (n ∷ more) ∙ rw h (and-false (all_differ seen))

consed_some : (n : List ℕ) (seen : List (List ℕ)) (o : Option (List (List ℕ))) → option_and_then (λ more. proper_variables (seen ++ more)) (consed (Some n) o) ≡ option_and_then (λ more. proper_variables ((seen ++ n ∷ []) ++ more)) o
consed_some n seen None = refl
consed_some n seen (Some more) = ap proper_variables (sym (append_assoc seen (n ∷ []) more))

improper : (seen : List (List ℕ)) (n : List ℕ) (o : Option (List (List ℕ))) → ((more : List (List ℕ)) → proper_variables (seen ++ n ∷ more) ≡ None) → option_and_then (λ more. proper_variables (seen ++ more)) (consed (Some n) o) ≡ None
improper seen n None h = refl
improper seen n (Some more) h = h more

module _ (seen : List (List ℕ)) (t : PlainToken) (ts : List PlainToken) where
  module _ (n : List ℕ) (e : Some n ≡ variable_name t) where
    here : further seen (t ∷ ts) ≡ option_and_then (λ more. proper_variables (seen ++ more)) (consed (Some n) (variable_names ts))
    here = ap (λ o. option_and_then (λ more. proper_variables (seen ++ more)) (consed o (variable_names ts))) (sym e)

    -- too many
    pub one_too_many : length seen ≡ most_variables → further seen (t ∷ ts) ≡ None
    one_too_many h = here ∙ improper seen n (variable_names ts) over
      where
        over : (more : List (List ℕ)) → proper_variables (seen ++ n ∷ more) ≡ None
        over more =
            let k = length-append seen (n ∷ more) in
            let m : most_variables < length (seen ++ n ∷ more) = omega (arith, k, h) in
            let f : nat_le (length (seen ++ n ∷ more)) most_variables ≡ false = grind (arith, nat_tests, m) in
            rw f (ap (λ b. cond b (Some (seen ++ n ∷ more)) None) (and-false (nat_le 1 (length (seen ++ n ∷ more)))))

    -- a name that is there already
    pub named_before : is_among n seen ≡ true → further seen (t ∷ ts) ≡ None
    named_before h = here ∙ improper seen n (variable_names ts) again
      where
        again : (more : List (List ℕ)) → proper_variables (seen ++ n ∷ more) ≡ None
        again more =
            let f = differ_not seen n more h in
            rw f (ap (λ b. cond (nat_le 1 (length (seen ++ n ∷ more)) && b) (Some (seen ++ n ∷ more)) None) (and-false (nat_le (length (seen ++ n ∷ more)) most_variables)) ∙ ap (λ b. cond b (Some (seen ++ n ∷ more)) None) (and-false (nat_le 1 (length (seen ++ n ∷ more)))))

    -- a variable more
    pub named : further seen (t ∷ ts) ≡ further (seen ++ n ∷ []) ts
    named = here ∙ consed_some n seen (variable_names ts)

-- ---- the turns of the loop

next_token : (text : List ℕ) (tokens : List Token) (i : ℕ) (t : Token) → i < length tokens → t ≡ get_or tokens i t → map (plain_of text) (drop i tokens) ≡ plain_of text t ∷ map (plain_of text) (drop (i + 1) tokens)
next_token text tokens i t h e =
    ap (map (plain_of text)) (drop-cons tokens i t h) ∙ ap (λ x. plain_of text x ∷ map (plain_of text) (drop (suc i) tokens)) (sym e)
    ∙ ap (λ k. plain_of text t ∷ map (plain_of text) (drop k tokens)) (later i)
  where
    later : (i : ℕ) → suc i ≡ i + 1
    later i = omega arith

module _ (text : List ℕ) (tokens : List Token) (i : ℕ) (t : Token) (h : i < length tokens) (e : t ≡ get_or tokens i t) (seen : List (List ℕ)) where
  abbrev pub now : Option (List (List ℕ))
  now = further seen (map (plain_of text) (drop i tokens))

  opened : now ≡ further seen (plain_of text t ∷ map (plain_of text) (drop (i + 1) tokens))
  opened = ap (further seen) (next_token text tokens i t h e)

  pub too_many_now : (n : List ℕ) → Some n ≡ variable_name (plain_of text t) → length seen ≡ most_variables → now ≡ None
  too_many_now n k l = opened ∙ one_too_many seen (plain_of text t) (map (plain_of text) (drop (i + 1) tokens)) n k l

  pub before_now : (n : List ℕ) → Some n ≡ variable_name (plain_of text t) → is_among n seen ≡ true → now ≡ None
  before_now n k l = opened ∙ named_before seen (plain_of text t) (map (plain_of text) (drop (i + 1) tokens)) n k l

  pub named_now : (n : List ℕ) → Some n ≡ variable_name (plain_of text t) → now ≡ further (seen ++ n ∷ []) (map (plain_of text) (drop (i + 1) tokens))
  named_now n k = opened ∙ named seen (plain_of text t) (map (plain_of text) (drop (i + 1) tokens)) n k
