-- A refusal that is handed on.
use Rattle.std.proofs.Common.{◌≡◌, Err, Ok, Result, subst, sym}
use Rattle.std.specs.Prelude.{IfErr}
use Rattle.std.specs.Result.{IsErrAnd}

-- it keeps its cause
pub handed_on : {V R : Type 0} (P : R → Type 0) (r : Result V R) (e : R) → IsErrAnd r (λ x. x ≡ e) → P e → IfErr r P
handed_on P (Ok v) e same h = tt
handed_on P (Err x) e same h = subst P (sym same) h

-- one that is told as something has what that has
pub told_on : {V E F : Type 0} (of : E → F) (P : F → Type 0) (r : Result V E) (f : F) → IsErrAnd r (λ x. of x ≡ f) → P f → IfErr r (λ x. P (of x))
told_on of P (Ok v) f same h = tt
told_on of P (Err x) f same h = subst P (sym same) h
