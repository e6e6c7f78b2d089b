-- Why a call fails, and that it fails where its stages stop.
use Rattle.std.proofs.Common.{◌≡◌, ◌⊎◌, ℕ, List, ap, refl, subst, sym, Result, Ok, Err, inl, inr}
use Rattle.std.specs.Result.{IsErrAnd}
use Rattle.lift_tree.specs.Programs.{PlainProgram}
use Rattle.fault_lines.specs.Failure.{Failure, Memory, source_failed}
use Rattle.fault_lines.specs.Shown.{failure_of}
use Rattle.fault_lines.specs.declared.failure.Failure as code
use Rattle.fault_lines.specs.declared.refusal.Refusal.{Refusal}
use Rattle.program_source.specs.Ends.{FailsFor, HasOneEnd, OnSource}
use Rattle.program_source.specs.Program.{OnProgram, StopsFor}
use Rattle.stages.specs.Stages.{As, Passed, Then}

-- what stops a program and a script stops a call for them
pub source_fails : {A B : Type 0} (text : List ℕ) (S : PlainProgram → Result A Refusal → Type 0) (R : PlainProgram → A → Result B Failure → Type 0) (why : Refusal)
    → StopsFor (OnProgram text S) why → FailsFor (OnSource text (λ p. Then (As source_failed (S p)) (R p))) (source_failed why)
source_fails text S R why (inl memory) = inl (ap source_failed memory)
source_fails text S R why (inr (inl (e, h, is))) = inr (inl (e, h, ap source_failed is))
source_fails text S R why (inr (inr (p, read, h))) = inr (inr (p, read, inl (why, h, refl)))

-- where that is all of a command's stages, it stops these
pub source_stops : {A : Type 0} (text : List ℕ) (S : PlainProgram → Result A Refusal → Type 0) (why : Refusal)
    → StopsFor (OnProgram text S) why → FailsFor (OnSource text (λ p. Passed (As source_failed (S p)))) (source_failed why)
source_stops text S why (inl memory) = inl (ap source_failed memory)
source_stops text S why (inr (inl (e, h, is))) = inr (inl (e, h, ap source_failed is))
source_stops text S why (inr (inr (p, read, h))) = inr (inr (p, read, (why, h, refl)))

module _ {A : Type 0} (text : List ℕ) (S : PlainProgram → Result A Failure → Type 0) (ends : HasOneEnd text (λ p. Passed (S p))) where
  -- a failure for a cause is for just that cause
  pub failed_for : (e : Failure) → FailsFor (OnSource text S) e → (why : Failure) → OnSource text S (Err why) → (e ≡ why) ⊎ (e ≡ Memory)
  failed_for e (inl memory) why cause = inr memory
  failed_for e (inr h) why cause = inl (ends.cause e why h cause)

  -- so is one that is handed on
  pub handed_for : {T : Type 0} (r : Result T code.Failure) (e : code.Failure) → IsErrAnd r (λ x. x ≡ e) → FailsFor (OnSource text S) (failure_of e) → (why : Failure) → OnSource text S (Err why)
      → IsErrAnd r (λ x. (failure_of x ≡ why) ⊎ (failure_of x ≡ Memory))
  handed_for (Ok v) e same h why cause = absurd same
  handed_for (Err x) e same h why cause = subst (λ y. (failure_of y ≡ why) ⊎ (failure_of y ≡ Memory)) (sym same) (failed_for (failure_of e) h why cause)

  -- and one that is told
  pub told_for : {T : Type 0} (r : Result T code.Failure) (f : Failure) → IsErrAnd r (λ x. failure_of x ≡ f) → FailsFor (OnSource text S) f → (why : Failure) → OnSource text S (Err why)
      → IsErrAnd r (λ x. (failure_of x ≡ why) ⊎ (failure_of x ≡ Memory))
  told_for (Ok v) f same h why cause = absurd same
  told_for (Err x) f same h why cause = subst (λ (y : Failure). (y ≡ why) ⊎ (y ≡ Memory)) (sym same) (failed_for f h why cause)
