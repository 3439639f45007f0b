-- Which tokens are a sum?
use Rattle.std.specs.Prelude.{ℕ, Bool, true, false, if◌then◌else◌, List, [], ◌∷◌, drop, Option, Some}
use Rattle.std.specs.Option.{option_map}
use Rattle.lhg_math.specs.Number.{neg}
use Rattle.lhg_lex.specs.PlainToken.{PlainToken}
use Rattle.lhg_read.specs.Cut.{Cut, cut}
use Rattle.lhg_read.specs.Options.{consed}
use Rattle.lhg_read.specs.Signs.{is_minus, is_plus_or_minus}
use Rattle.lhg_read.specs.Term.{term_of}
use Rattle.lhg_read.specs.declared.forms.Form.{Form}
use Rattle.lhg_read.specs.declared.terms.Term.{Term}
use Rattle.lhg_read.specs.declared.terms.Term.TheVariants.{Times, Alone}

-- the term with the other sign
abbrev pub opposite : Term → Term
opposite (Times q i) = Times (neg q) i
opposite (Alone q) = Alone (neg q)

-- the term, behind a minus or not
abbrev pub signed : Bool → Term → Term
signed minus term = if minus then opposite term else term

-- terms, each behind a `+` or `-`
abbrev pub terms_behind : Form → List (List ℕ) → List (PlainToken × List PlainToken) → Option (List Term)
terms_behind form vars [] = Some []
terms_behind form vars (part ∷ parts) = consed (option_map (signed (is_minus part.0)) (term_of form vars part.1)) (terms_behind form vars parts)

-- a term, behind a minus or not, and then terms each behind a `+` or `-`
abbrev pub terms_from : Form → List (List ℕ) → Bool → Cut PlainToken → Option (List Term)
terms_from form vars minus c = consed (option_map (signed minus) (term_of form vars c.first)) (terms_behind form vars c.others)

-- the first token is a `-`
abbrev pub begins_with_minus : List PlainToken → Bool
begins_with_minus [] = false
begins_with_minus (token ∷ tokens) = is_minus token

-- a sum: an optional `-`, a term, and then terms each behind a `+` or `-`
unfoldable pub sum_of : Form → List (List ℕ) → List PlainToken → Option (List Term)
sum_of form vars tokens =
    if begins_with_minus tokens then terms_from form vars true (cut is_plus_or_minus (drop 1 tokens)) else
    terms_from form vars false (cut is_plus_or_minus tokens)
