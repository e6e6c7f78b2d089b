-- When one expression stands for another at a point.
use Rattle.std.proofs.Common.{◌≡◌, List, ℕ, refl, sym, ap, ◌∙◌, subst}
use Rattle.index_expr.specs.declared.operation.Operation.{Operation}
use Rattle.index_expr.specs.Expression.{Expression, Binary}
use Rattle.index_expr.specs.Values.{operate, exact, IsWord, HasWordArgumentsAt, HasNoZeroDivisorAt}
use Rattle.index_simplify.specs.Ranges.{AreWithin}
use Rattle.index_simplify.specs.Simplified.{StandsFor}

module _ (sizes variables : List ℕ) where
  pub stands_by : (e s : Expression) → exact sizes variables s ≡ exact sizes variables e → (HasWordArgumentsAt sizes variables e → HasWordArgumentsAt sizes variables s) → (HasNoZeroDivisorAt sizes variables e → HasNoZeroDivisorAt sizes variables s) → AreWithin variables s → StandsFor sizes variables e s
  stands_by e s value words divisors own = record {
    value = value;
    words = words;
    ranged = λ h. (words h.0, subst IsWord (sym value) h.1);
    divisors = divisors;
    own = own;
  }

  pub stands_itself : (e : Expression) → AreWithin variables e → StandsFor sizes variables e e
  stands_itself e own = stands_by e e refl (λ h. h) (λ h. h) own

  pub stands_then : (e f g : Expression) → StandsFor sizes variables e f → StandsFor sizes variables f g → StandsFor sizes variables e g
  stands_then e f g x y = stands_by e g (y.value ∙ x.value) (λ h. y.words (x.words h)) (λ h. y.divisors (x.divisors h)) y.own

  pub stands_joined : (o : Operation) (a b c d : Expression) → StandsFor sizes variables a c → StandsFor sizes variables b d → StandsFor sizes variables (Binary o a b) (Binary o c d)
  stands_joined o a b c d x y =
      stands_by (Binary o a b) (Binary o c d)
      (ap (λ z. operate o z (exact sizes variables d)) x.value ∙ ap (operate o (exact sizes variables a)) y.value)
      (λ h. ((λ w. (subst IsWord (sym x.value) (h.0 w).0, subst IsWord (sym y.value) (h.0 w).1)), x.words h.1, y.words h.2))
      (λ h. ((λ w e. h.0 w (sym y.value ∙ e)), x.divisors h.1, y.divisors h.2))
      (x.own, y.own)
