-- What do the pieces of a region become where the list of one location is written, and where its lists are copied?
use Rattle.std.proofs.Common.{◌≡◌, ℕ, ◌+◌, ◌<◌, ◌≤◌, List, [], ◌∷◌, ◌++◌, length, take, get_or, set, Result, Ok, Err, sym, ap, ◌∙◌, subst, arith}
use Rattle.std.specs.Global.{Vec}
use Rattle.std.specs.Prelude.{IfOk, OnErr}
use Rattle.std.proofs.lemmas.List.{get_or-map, map-set, get_or-set_same, length-map, map-append, take_all}
use Rattle.std.proofs.Math.Seq.{map-set_same}
use Rattle.lhg_num.specs.Marked.{Marked}
use Rattle.lhg_num.specs.Halting.{IsWideBy}
use Rattle.lhg_row.specs.System.{PlainSystem}
use Rattle.lhg_union.specs.Regions.{polys_of, polys_at}
use Rattle.lhg_union.proofs.ListFacts.{taken-step}

-- what holds anyway holds of a refusal
pub on_err : {T E : Type 0} (r : Result T E) (P : Type 0) → P → OnErr r P
on_err (Ok x) P p = tt
on_err (Err e) P p = p

module _ (xs : List (Vec PlainSystem)) (k : ℕ) (v : Vec PlainSystem) (v_is : v ≡ get_or xs k v) (in_xs : k < length xs) where
  -- the list of the location
  pub at-is : v.items ≡ polys_at xs k
  at-is = ap (λ (w : Vec PlainSystem). w.items) v_is ∙ sym (get_or-map (λ (w : Vec PlainSystem). w.items) xs k v [] in_xs)

  module _ (new : Vec PlainSystem) where
    -- a list with the same pieces
    pub set-same : new.items ≡ v.items → polys_of (set xs k new) ≡ polys_of xs
    set-same e = map-set_same (λ (w : Vec PlainSystem). w.items) xs k new v (e ∙ ap (λ (w : Vec PlainSystem). w.items) v_is)

    -- a list with one piece more
    pub set-more : (p : PlainSystem) → new.items ≡ v.items ++ p ∷ [] → polys_of (set xs k new) ≡ set (polys_of xs) k (polys_at xs k ++ p ∷ [])
    set-more p e = map-set (λ (w : Vec PlainSystem). w.items) xs k new ∙ ap (set (polys_of xs) k) (e ∙ ap (λ ps. ps ++ p ∷ []) at-is)

    -- is the location's list
    pub at-more : (p : PlainSystem) → new.items ≡ v.items ++ p ∷ [] → polys_at (set xs k new) k ≡ polys_at xs k ++ p ∷ []
    at-more p e =
        ap (λ ys. get_or ys k []) (set-more p e)
        ∙ get_or-set_same (polys_of xs) k (polys_at xs k ++ p ∷ []) [] (omega (arith, length-map xs (λ (w : Vec PlainSystem). w.items)))

module _ (xs ws : List (Vec PlainSystem)) (same : ws ≡ xs) (i : ℕ) (out : List (Vec PlainSystem)) (copied : polys_of out ≡ take i (polys_of xs)) where
  -- the lists before place i are copied, and that of place i is copied next
  pub copied-step : (x : Vec PlainSystem) → x ≡ get_or ws i x → i < length ws → (more : List (Vec PlainSystem)) (y : Vec PlainSystem) → more ≡ out ++ y ∷ [] → y.items ≡ x.items → polys_of more ≡ take (i + 1) (polys_of xs)
  copied-step x is there more y e k =
      let items : Vec PlainSystem → List PlainSystem = λ v. v.items in
      taken-step (polys_of xs) i x.items (ap items is ∙ sym (get_or-map items ws i x x.items there) ∙ ap (λ zs. get_or (polys_of zs) i x.items) same)
      (omega (arith, there, length-map xs items, ap length same)) (polys_of out) (polys_of more) y.items copied (ap polys_of e ∙ map-append items out (y ∷ [])) k

  -- all are copied
  pub copied-end : length ws ≤ i → polys_of out ≡ polys_of xs
  copied-end past = copied ∙ take_all i (polys_of xs) (omega (arith, past, length-map xs (λ (v : Vec PlainSystem). v.items), ap length same))
