-- A call whose stages come to one end is refused where they stop.
use Rattle.std.proofs.Common.{◌≡◌, ◌⊎◌, subst, sym, refl, Result, Ok, Err, inl, inr}
use Rattle.std.specs.Result.{IsErrAnd}
use Rattle.stages.specs.Stages.{IsOne}
use Rattle.stages.proofs.One.{err_same}

-- no cause stops what is made
pub made_stands : {A E : Type 0} (P : Type 0) (R : Result A E → Type 0) → IsOne R → (a : A) (e : E) → R (Ok a) → R (Err e) → P
made_stands P R one a e h k = absurd (cc (one (Ok a) (Err e) h k))

-- a refusal for a cause or a free one, as it is told, is the free one or for just that cause
pub refused_for : {A T E F : Type 0} (R : Result A F → Type 0) (of : E → F) (free : F → Type 0) → IsOne R → (r : Result T E) (e : E) → IsErrAnd r (λ x. x ≡ e)
    → free (of e) ⊎ R (Err (of e)) → (why : F) → R (Err why) → IsErrAnd r (λ x. (of x ≡ why) ⊎ free (of x))
refused_for R of free one (Ok v) e same h why cause = absurd same
refused_for R of free one (Err x) e same (inl h) why cause = inr (subst (λ y. free (of y)) (sym same) h)
refused_for R of free one (Err x) e same (inr h) why cause = inl (subst (λ y. of y ≡ why) (sym same) (err_same _ (of e) why refl (one (Err (of e)) (Err why) h cause)))
