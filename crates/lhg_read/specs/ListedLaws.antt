-- What holds of a list that is read line by line?
use Rattle.std.proofs.Common.{◌≡◌, ◌⊎◌, inl, inr, ℕ, List, [], ◌∷◌, ◌++◌, map, refl, sym, ap, ◌∙◌, subst, Bool, true, false, Option, Some, None, Ok, append_assoc, append-nil, codes}
use Rattle.std.specs.Option.{option_and_then, option_map}
use Rattle.std.proofs.lemmas.Option.{none-some, same_Some}
use Rattle.lhg_math.specs.Tests.{false_true}
use Rattle.lhg_lex.specs.LineTokens.{Spot, tokens_of}
use Rattle.lhg_lex.specs.Reading.{Reading, IsTokenLine}
use Rattle.lhg_lex.specs.declared.stops.ReadStop.{ReadStop}
use Rattle.lhg_lex.specs.declared.tokens.Line.{Line}
use Rattle.lhg_read.specs.Listed.{ListLine, item, end, said_items, IsListed, IsSomeListed, OpenList, nothing_yet, with_line, list_taken}
use Rattle.lhg_read.specs.Machine.{all_taken, IsBegun, IsWhole, Between, IsMachine}
use Rattle.lhg_read.specs.MachineLaws.{begun_first, begun_more, one_begun, none_behind, nothing_comes, first_refused, first_taken, no_end_comes, not_taken, one_taken, whole_read}
use Rattle.lhg_read.specs.Options.{joined}
use Rattle.lhg_read.specs.Reads.{CanGoOn}
use Rattle.lhg_read.specs.ReadsLaws.{on_by}
use Rattle.lhg_read.specs.Refusals.{stop_at, IsRefused}
use Rattle.lhg_read.specs.TokenText.{token_line, token_lines, IsTextBy, ReadsText, HasCause, IsNoLine}
use Rattle.lhg_read.specs.declared.refusal.Refusal.{Refusal}

module _ (V : Type 0) (says : List Spot → Option (ListLine V)) where
  -- whether a list has ended
  abbrev pub is_ended : OpenList V → Bool
  is_ended o = o.ended

  -- what a line changes
  abbrev pub take : OpenList V → List Spot → Option (OpenList V)
  take o line = list_taken says o line

  -- what a first line changes
  abbrev pub begin : List Spot → Option (OpenList V)
  begin line = list_taken says nothing_yet line

  abbrev open_of : List V → OpenList V
  open_of vs = record { values = vs; ended = false }

  abbrev ended_of : List V → OpenList V
  ended_of vs = record { values = vs; ended = true }

  -- ---- a list is taken line by line

  run : (vs done : List V) (lines : List (List Spot)) → map says lines ≡ map (λ v. Some v) (said_items vs) → all_taken take is_ended (open_of done) lines ≡ Some (ended_of (done ++ vs))
  run [] done [] h = absurd cc
  run [] done (l ∷ []) h =
      let here : says l ≡ Some end = cc in
      ap (λ o. option_and_then (λ x. all_taken take is_ended x []) (option_map (with_line (open_of done)) o)) here ∙ ap (λ xs. Some (ended_of xs)) (sym (append-nil done))
  run [] done (l ∷ k ∷ lines) h = absurd cc
  run (v ∷ vs) done [] h = absurd cc
  run (v ∷ vs) done (l ∷ lines) h =
      let here : says l ≡ Some (item v) = cc in
      let later : map says lines ≡ map (λ w. Some w) (said_items vs) = cc in
      ap (λ o. option_and_then (λ x. all_taken take is_ended x lines) (option_map (with_line (open_of done)) o)) here ∙ run vs (done ++ v ∷ []) lines later ∙ ap (λ xs. Some (ended_of xs)) (append_assoc done (v ∷ []) vs)

  -- lines that begin and end a list are taken from the first on
  begun_by : (lines : List (List Spot)) (o : OpenList V) → all_taken take is_ended nothing_yet lines ≡ Some o → o.ended ≡ true → IsBegun (OpenList V) begin take is_ended lines o
  begun_by [] o h t = false_true (ap is_ended (same_Some nothing_yet o h) ∙ t)
  begun_by (l ∷ lines) o h t = by_first (begin l) refl h
    where
      by_first : (b : Option (OpenList V)) → begin l ≡ b → option_and_then (λ x. all_taken take is_ended x lines) b ≡ Some o → IsBegun (OpenList V) begin take is_ended (l ∷ lines) o
      by_first None e k = absurd (none-some o k)
      by_first (Some s) e k = record { head = l; rest = lines; start = s; lines_are = refl; begins = e; taken = k }

  begun_of : (lines : List (List Spot)) (vs : List V) → IsListed V says lines vs → IsBegun (OpenList V) begin take is_ended lines (ended_of vs)
  begun_of lines vs h = begun_by lines (ended_of vs) (run vs [] lines h.are) refl

  whole_of : (lines : List (List Spot)) (vs : List V) → IsListed V says lines vs → IsWhole (OpenList V) begin take is_ended lines
  whole_of lines vs h = (ended_of vs, begun_of lines vs h, refl)

  -- ---- what is taken is a list

  -- what lines that end a list say: further values and the end
  record IsShape (done : List V) (lines : List (List Spot)) (new : OpenList V) : Type 0 where
    values : List V
    said : map says lines ≡ map (λ v. Some v) (said_items values)
    values_are : new.values ≡ done ++ values

  end_shape : (done : List V) (l : List Spot) (new : OpenList V) (lines : List (List Spot)) → says l ≡ Some end → all_taken take is_ended (ended_of done) lines ≡ Some new → IsShape done (l ∷ lines) new
  end_shape done l new [] e k = record {
    values = [];
    said = ap (λ o. o ∷ []) e;
    values_are = ap (λ (o : OpenList V). o.values) (sym (same_Some (ended_of done) new k)) ∙ sym (append-nil done);
  }
  end_shape done l new (x ∷ rest) e k = absurd (none-some new k)

  line_shape : (done : List V) (l : List Spot) (lines : List (List Spot)) (new : OpenList V) → ((v : V) → all_taken take is_ended (open_of (done ++ v ∷ [])) lines ≡ Some new → IsShape (done ++ v ∷ []) lines new)
      → (o : Option (ListLine V)) → says l ≡ o → option_and_then (λ x. all_taken take is_ended x lines) (option_map (with_line (open_of done)) o) ≡ Some new → IsShape done (l ∷ lines) new
  line_shape done l lines new rest None e k = absurd (none-some new k)
  line_shape done l lines new rest (Some (item v)) e k =
      let r = rest v k in
      record {
        values = v ∷ r.values;
        said = ap (λ o. o ∷ map says lines) e ∙ ap (λ xs. Some (item v) ∷ xs) r.said;
        values_are = r.values_are ∙ append_assoc done (v ∷ []) r.values;
      }
  line_shape done l lines new rest (Some end) e k = end_shape done l new lines e k

  shape_of : (done : List V) (lines : List (List Spot)) (new : OpenList V) → all_taken take is_ended (open_of done) lines ≡ Some new → new.ended ≡ true → IsShape done lines new
  shape_of done [] new h t = false_true (ap is_ended (same_Some (open_of done) new h) ∙ t)
  shape_of done (l ∷ lines) new h t = line_shape done l lines new (λ v k. shape_of (done ++ v ∷ []) lines new k t) (says l) refl h

  -- all that is taken
  all_of : (lines : List (List Spot)) (o : OpenList V) → IsBegun (OpenList V) begin take is_ended lines o → all_taken take is_ended nothing_yet lines ≡ Some o
  all_of lines o b = ap (all_taken take is_ended nothing_yet) b.lines_are ∙ ap (option_and_then (λ x. all_taken take is_ended x b.rest)) b.begins ∙ b.taken

  listed_of : (lines : List (List Spot)) (o : OpenList V) → IsBegun (OpenList V) begin take is_ended lines o → o.ended ≡ true → IsListed V says lines o.values
  listed_of lines o b t =
      let f = shape_of [] lines o (all_of lines o b) t in
      record { are = f.said ∙ ap (λ vs. map (λ v. Some v) (said_items vs)) (sym f.values_are) }

  -- a list has one value
  pub one_list : (lines : List (List Spot)) (vs ws : List V) → IsListed V says lines vs → IsListed V says lines ws → vs ≡ ws
  one_list lines vs ws h k = ap (λ (o : OpenList V). o.values) (one_begun (OpenList V) begin take is_ended lines (ended_of vs) (ended_of ws) (begun_of lines vs h) (begun_of lines ws k))

  -- no further tokens follow those of a list
  pub no_more : (tokens more : List (List Spot)) (vs ws : List V) → IsListed V says tokens vs → IsListed V says (tokens ++ more) ws → more ≡ []
  no_more tokens more vs ws h k = none_behind (OpenList V) begin take is_ended tokens more (whole_of tokens vs h) (whole_of (tokens ++ more) ws k)

  -- nothing is read, or some lines are
  abbrev pub ListSoFar : Reading → Reading → OpenList V → Type 0
  ListSoFar old s o = ((s ≡ old) × (o ≡ nothing_yet)) ⊎ Between (OpenList V) begin take is_ended old s o

  -- ---- where some line is the end

  module _ (text : List ℕ) (spots : List Spot) (tokens_are : tokens_of text ≡ Ok spots) (line_is : token_line (Ok spots) ≡ Some (spots ∷ [])) (says_end : says spots ≡ Some end) where
    can_begin : CanGoOn (IsSomeListed V says) []
    can_begin = record { more = text ∷ []; further = spots ∷ []; are = one_line; is = ([], record { are = ap (λ o. o ∷ []) says_end }) }
      where
        one_line : token_lines (text ∷ []) ≡ Some (spots ∷ [])
        one_line = ap (λ r. joined (token_line r) (Some [])) tokens_are ∙ ap (λ o. joined o (Some [])) line_is

    can_end : (lines : List (List Spot)) (o : OpenList V) → IsBegun (OpenList V) begin take is_ended lines o → o.ended ≡ false → CanGoOn (IsSomeListed V says) lines
    can_end lines o b going =
        let last : OpenList V = record o { ended = true } in
        let whole = begun_more (OpenList V) begin take is_ended lines o last spots b going (ap (option_map (with_line o)) says_end) in
        on_by (IsSomeListed V says) lines text spots tokens_are line_is
        (record { more = []; further = []; are = refl; is = (o.values, subst (λ ls. IsListed V says ls o.values) (sym (append-nil (lines ++ spots ∷ []))) (listed_of (lines ++ spots ∷ []) last whole refl)) })

    -- lists are read line by line
    pub lists : IsMachine (OpenList V) begin take is_ended (IsSomeListed V says)
    lists = record { whole = λ lines h. whole_of lines h.0 h.1; can_begin = can_begin; can_end = can_end }

    -- ---- reading

    -- no line before the end
    pub no_line : (old s : Reading) (o : OpenList V) → ListSoFar old s o → o.ended ≡ false → (stop : ReadStop) → IsNoLine s stop → HasCause (IsTextBy (IsSomeListed V says)) old stop
    no_line old s o (inl x) going stop h = nothing_comes (OpenList V) begin take is_ended (IsSomeListed V says) lists old stop (subst (λ r. IsNoLine r stop) x.0 h)
    no_line old s o (inr b) going stop h = no_end_comes (OpenList V) begin take is_ended (IsSomeListed V says) lists old s o b going stop h

    -- a first line that is not taken
    IsFirstRefused : Reading → Reading → Type 0
    IsFirstRefused old s =
        (line : Line) (new : Reading) (h : IsTokenLine s line) → new ≡ record s { read = line.number } → (r : Refusal) (t : Option (OpenList V)) → begin h.spots ≡ t → IsRefused r t → HasCause (IsTextBy (IsSomeListed V says)) old (stop_at r line.number)

    first_not : (old : Reading) → IsFirstRefused old old
    unfolding IsFirstRefused
    first_not old line new h e r t same k = first_refused (OpenList V) begin take is_ended (IsSomeListed V says) lists old line new h e r t (λ none. same ∙ none) k

    -- a line that is not taken
    pub refused : (old s : Reading) (o : OpenList V) → ListSoFar old s o → o.ended ≡ false → (line : Line) (new : Reading) (h : IsTokenLine s line) → new ≡ record s { read = line.number } → (r : Refusal) (t : Option (OpenList V)) → take o h.spots ≡ t
        → IsRefused r t → HasCause (IsTextBy (IsSomeListed V says)) old (stop_at r line.number)
    unfolding IsFirstRefused
    refused old s o (inl x) going line new h e r t same k =
        let first : IsFirstRefused old s = subst (IsFirstRefused old) (sym x.0) (first_not old) in
        first line new h e r t (ap (λ q. take q h.spots) (sym x.1) ∙ same) k
    refused old s o (inr b) going line new h e r t same k = not_taken (OpenList V) begin take is_ended (IsSomeListed V says) lists old s o b going line new h e r t same k

    -- a first line that is taken
    IsFirstTaken : Reading → Reading → Type 0
    IsFirstTaken old s = (line : Line) (new : Reading) (h : IsTokenLine s line) → new ≡ record s { read = line.number } → (x : OpenList V) → begin h.spots ≡ Some x → ListSoFar old new x

    first_is : (old : Reading) → IsFirstTaken old old
    unfolding IsFirstTaken
    first_is old line new h e x k = inr (first_taken (OpenList V) begin take is_ended (IsSomeListed V says) lists old line new h e x k)

    -- a line that is taken
    pub taken : (old s : Reading) (o : OpenList V) → ListSoFar old s o → o.ended ≡ false → (line : Line) (new : Reading) (h : IsTokenLine s line) → new ≡ record s { read = line.number } → (x : OpenList V) → take o h.spots ≡ Some x → ListSoFar old new x
    unfolding IsFirstTaken
    taken old s o (inl y) going line new h e x k =
        let first : IsFirstTaken old s = subst (IsFirstTaken old) (sym y.0) (first_is old) in
        first line new h e x (ap (λ q. take q h.spots) (sym y.1) ∙ k)
    taken old s o (inr b) going line new h e x k = inr (one_taken (OpenList V) begin take is_ended (IsSomeListed V says) lists old s o b going line new h e x k)

    -- the end
    pub whole : (old s : Reading) (o : OpenList V) → ListSoFar old s o → o.ended ≡ true → ReadsText (λ tokens. IsListed V says tokens o.values) old s
    whole old s o (inl x) t = false_true (ap is_ended (sym x.1) ∙ t)
    whole old s o (inr b) t = whole_read (OpenList V) begin take is_ended (IsSomeListed V says) lists old s o b (λ tokens. IsListed V says tokens o.values) (listed_of b.0 o b.2 t)
