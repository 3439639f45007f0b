-- What a walk that gathers hits keeps: sound hits, all hits before, and the points that each step has to cover.
use Rattle.std.proofs.Common.{◌&&◌, ◌↔◌, ◌≡◌, ◌⊎◌, inl, inr, ℕ, Bool, true, false, List, [], ◌∷◌, ◌++◌, map, length, Option, Some, None, refl, sym, ap, ◌∙◌, subst}
use Rattle.std.proofs.lemmas.Bool.{and_parts}
use Rattle.std.proofs.lemmas.List.{map-append}
use Rattle.lhg_math.specs.Tests.{AllOf}
use Rattle.lhg_num.specs.FracArithmetic.{frac_arithmetic, frac_is_lawful}
use Rattle.lhg_num.specs.Marked.{Marked, walk}
use Rattle.lhg_row.specs.Row.{PlainPoint}
use Rattle.lhg_row.specs.Piece.{PlainPiece, InPiece, in_piece, InSome}
use Rattle.lhg_row.specs.PieceLemmas.{in_piece_is, in_some_is}
use Rattle.lhg_row.specs.Width.{AllWide}
use Rattle.lhg_row.specs.Members.{SomeOf, all-append}
use Rattle.lhg_row.specs.SomeLists.{in_left, in_right}
use Rattle.lhg_row.specs.Pieces.{meet}
use Rattle.lhg_row.specs.PieceFacts.{IsPoly, AllOver, IsMeet, IsCovering}
use Rattle.lhg_row.specs.MeetLaws.{meet-exact}
use Rattle.lhg_row.specs.Lists.{covered}
use Rattle.lhg_row.specs.CoveredLaws.{covered-exact}
use Rattle.lhg_plant.specs.OutCalculus.{PlainHit, hit_pieces, hit_unless, hit_where, hit_piece}
use Rattle.lhg_plant.proofs.ListSteps.{all_weaker}

-- from some hits to more: sound ones, which have the points of those before, and the points that are to be covered
pub record Adds (Good : PlainHit → Type 0) (n : ℕ) (Cover : PlainPoint → Type 0) (hits more : List PlainHit) : Type 0 where
  pub good : AllOf Good more
  pub keeps : (x : PlainPoint) → InSome (hit_pieces hits) x → InSome (hit_pieces more) x
  pub covers : (x : PlainPoint) → length x ≡ n → Cover x → InSome (hit_pieces more) x

module _ (Good : PlainHit → Type 0) (n : ℕ) where
  -- nothing has to be covered
  pub adds_none : (Cover : PlainPoint → Type 0) (hits : List PlainHit) → AllOf Good hits → ((x : PlainPoint) → length x ≡ n → ¬ Cover x) → Adds Good n Cover hits hits
  adds_none Cover hits g f = record { good = g; keeps = λ x h. h; covers = λ x l c. absurd (f x l c) }

  -- what covers more covers less
  pub adds_less : (Cover Less : PlainPoint → Type 0) (hits more : List PlainHit) → ((x : PlainPoint) → length x ≡ n → Less x → Cover x) → Adds Good n Cover hits more → Adds Good n Less hits more
  adds_less Cover Less hits more f s = record { good = s.good; keeps = s.keeps; covers = λ x l c. s.covers x l (f x l c) }

  -- step by step
  pub walk-adds : {A : Type 0} (f : List PlainHit → A → Marked (List PlainHit)) (Cover : A → PlainPoint → Type 0) (W : A → Type 0)
      → ((hits : List PlainHit) (y : A) → AllOf Good hits → W y → Adds Good n (Cover y) hits (f hits y).value)
      → (hits : List PlainHit) (ys : List A) → AllOf Good hits → AllOf W ys → Adds Good n (λ x. SomeOf (λ y. Cover y x) ys) hits (walk f hits ys).value
  walk-adds f Cover W step hits [] g w = record { good = g; keeps = λ x h. h; covers = λ x l c. absurd c }
  walk-adds f Cover W step hits (y ∷ ys) g w =
      let first = step hits y g w.0 in
      let rest = walk-adds f Cover W step (f hits y).value ys first.good w.1 in
      record {
        good = rest.good;
        keeps = λ x h. rest.keeps x (first.keeps x h);
        covers = λ x l c. elim c [ inl k ↦ rest.keeps x (first.covers x l k) | inr k ↦ rest.covers x l k ];
      }

-- ---- one hit
-- the points of a meet, as facts
meet-in : (q s piece : PlainPiece) (x : PlainPoint) → in_piece piece x ≡ (in_piece q x && in_piece s x) → InPiece piece x ↔ (InPiece q x × InPiece s x)
meet-in q s piece x e = (
  λ i. let both = and_parts (in_piece q x) (in_piece s x) (sym e ∙ (in_piece_is piece x).0 i) in ((in_piece_is q x).1 both.0, (in_piece_is s x).1 both.1),
  λ c. (in_piece_is piece x).1 (e ∙ met (in_piece q x) (in_piece s x) ((in_piece_is q x).0 c.0) ((in_piece_is s x).0 c.1)),
)
  where
    met : (b c : Bool) → b ≡ true → c ≡ true → (b && c) ≡ true
    met b c e f = rw (e, f) refl

module _ (Good : PlainHit → Type 0) (n : ℕ) (over : (h : PlainHit) → Good h → AllWide n h.piece) (e : ℕ) (into : PlainPiece) where
  hits-over : (hits : List PlainHit) → AllOf Good hits → AllOver n (hit_pieces hits)
  hits-over [] g = tt
  hits-over (h ∷ hits) g = (over h g.0, hits-over hits g.1)

  abbrev made : PlainPiece → PlainHit
  made piece = record { switch = e; into = into; piece = piece }

  unless-adds : (hits : List PlainHit) (piece : PlainPiece) (b : Bool) → AllOf Good hits → Good (made piece) → IsCovering n (piece ∷ []) (hit_pieces hits) b → Adds Good n (InPiece piece) hits (hit_unless hits e into piece b)
  unless-adds hits piece true g k c = record {
    good = g;
    keeps = λ x h. h;
    covers = λ x l i. (in_some_is (hit_pieces hits) x).1 (c x l ((in_some_is (piece ∷ []) x).0 (inl i)));
  }
  unless-adds hits piece false g k c =
      let split = map-append (λ (h : PlainHit). h.piece) hits (made piece ∷ []) in
      record {
        good = all-append Good hits (made piece ∷ []) g (k, tt);
        keeps = λ x h. subst (λ ps. InSome ps x) (sym split) (in_left (hit_pieces hits) (piece ∷ []) x h);
        covers = λ x l i. subst (λ ps. InSome ps x) (sym split) (in_right (hit_pieces hits) (piece ∷ []) x (inl i));
      }

  where-adds : (q s : PlainPiece) (hits : List PlainHit) (o : Option PlainPiece) → AllOf Good hits → IsMeet frac_arithmetic n q s o
      → ((piece : PlainPiece) → IsPoly frac_arithmetic n piece → ((x : PlainPoint) → length x ≡ n → InPiece piece x → InPiece q x × InPiece s x) → Good (made piece))
      → Adds Good n (λ x. InPiece q x × InPiece s x) hits (hit_where n hits e into o).value
  where-adds q s hits None g m k = adds_none Good n (λ x. InPiece q x × InPiece s x) hits g (λ x l c. m x l c.0 c.1)
  where-adds q s hits (Some piece) g m k =
      let sound : Good (made piece) = k piece m.poly (λ x l. (meet-in q s piece x (m.points x l)).0) in
      adds_less Good n (InPiece piece) (λ x. InPiece q x × InPiece s x) hits (hit_where n hits e into (Some piece)).value (λ x l. (meet-in q s piece x (m.points x l)).1)
      (unless-adds hits piece (covered frac_arithmetic n (piece ∷ []) (hit_pieces hits)).value g sound (covered-exact frac_arithmetic n (piece ∷ []) (hit_pieces hits) frac_is_lawful (m.poly, tt) (hits-over hits g)))

  -- the meet of two pieces, where there is one and it is not covered
  pub piece-adds : (q s : PlainPiece) (hits : List PlainHit) → AllOf Good hits → AllWide n q → AllWide n s
      → ((piece : PlainPiece) → IsPoly frac_arithmetic n piece → ((x : PlainPoint) → length x ≡ n → InPiece piece x → InPiece q x × InPiece s x) → Good (made piece))
      → Adds Good n (λ x. InPiece q x × InPiece s x) hits (hit_piece n e into q hits s).value
  piece-adds q s hits g wq ws k = where-adds q s hits (meet frac_arithmetic n q s).value g (meet-exact frac_arithmetic n q s frac_is_lawful wq ws) k
