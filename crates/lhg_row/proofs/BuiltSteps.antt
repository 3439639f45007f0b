-- Steps of loops that build a list, whose next member is told by an equation.
use Rattle.std.proofs.Common.{◌≡◌, List, [], ◌∷◌, ◌++◌, sym, subst}
use Rattle.lhg_num.specs.Marked.{Marked, each}
use Rattle.lhg_num.specs.MarkedLaws.{IsBuilt, IsPart, each-step, each-part}

module _ {A B : Type 0} (f : A → Marked B) (xs : List A) (x : A) (rest : List A) (is : xs ≡ x ∷ rest) (whole : Marked (List B)) (out : List B) (b : IsBuilt whole out (each f xs)) where
  -- the marks of the next member are among those of the whole
  pub taken-part : IsPart whole (f x)
  taken-part = each-part f whole out x rest (subst (λ ys. IsBuilt whole out (each f ys)) is b)

  -- the next member is done
  pub taken-step : (more : List B) (y : B) → more ≡ out ++ y ∷ [] → y ≡ (f x).value → IsBuilt whole more (each f rest)
  taken-step more y e h = subst (λ ys. IsBuilt whole ys (each f rest)) (sym e) (each-step f whole out x rest y (subst (λ ys. IsBuilt whole out (each f ys)) is b) h)
