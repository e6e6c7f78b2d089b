-- Tidied, the work of an element stays: it has no index and no loop.
use Rattle.std.proofs.Common.{ℕ, Bool, true, false, List, ◌∷◌, Option, ap}
use Rattle.kernel_tree.specs.Code.{Code}
use Rattle.lift_ir.specs.Types.{Ty, Scalar, PairOf, ArrayOf}
use Rattle.lift_ir.specs.Terms.{Term, Literal, Bound, Apply, ApplyNumber, ApplyLanes, DivideLanes, Select, Both, Project, LetElement, push}
use Rattle.printed_form.specs.Counts.{Count, more, held_count, let_variables}
use Rattle.printed_form.specs.Marks.{Marks, held_marks}
use Rattle.printed_form.specs.Expressions.{Expr, held, exprs}
use Rattle.printed_form.specs.Form.{IsAssigned, IsReassigned, IsElementWork}
use Rattle.tidy_indices.specs.Around.{Around}
use Rattle.tidy_indices.specs.Laws.{Change}
use Rattle.tidy_kernels.specs.Pass.{tidied_code}

module _ (tidy : Change) (around : List Around) where
  abbrev tidied : Code → Code
  tidied = tidied_code tidy around

  pub assigned : (ty : Ty) (f : List Bool → Option Expr) (n : Count) (code rest : Code) → IsAssigned ty f n code rest → IsAssigned ty f n (tidied code) (tidied rest)
  assigned Scalar f n code rest h = (h.0, h.1, ap tidied h.2)
  assigned (PairOf a b) f n code rest h = (tidied h.0, assigned a (λ cs. f (false ∷ cs)) n code h.0 h.1, assigned b (λ cs. f (true ∷ cs)) (more n (held_count a)) h.0 rest h.2)
  assigned (ArrayOf m t) f n code rest h = (h.0, h.1, h.2, ap tidied h.3)

  pub reassigned : (ty : Ty) (f : List Bool → Option Expr) (acc n : Count) (code rest : Code) → IsReassigned ty f acc n code rest → IsReassigned ty f acc n (tidied code) (tidied rest)
  reassigned Scalar f acc n code rest h = assigned Scalar f acc code rest h
  reassigned (PairOf a b) f acc n code rest h =
      (tidied h.0, assigned (PairOf a b) f n code h.0 h.1, assigned (PairOf a b) (λ cs. held (held_marks (PairOf a b) n cs)) acc h.0 rest h.2)
  reassigned (ArrayOf m t) f acc n code rest h = assigned (ArrayOf m t) f acc code rest h

  pub element : {A : Type 0} → (env : ℕ → Marks) (n : Count) (t : Term A) (code rest : Code) → IsElementWork env n t code rest → IsElementWork env n t (tidied code) (tidied rest)
  element env n (Literal c) code rest h = ap tidied h
  element env n (Bound v) code rest h = ap tidied h
  element env n (Apply o a b) code rest h = (tidied h.0, element env n a code h.0 h.1, element env (more n (let_variables a)) b h.0 rest h.2)
  element env n (ApplyNumber o m a) code rest h = element env n a code rest h
  element env n (ApplyLanes o l r a b) code rest h = (tidied h.0, element env n a code h.0 h.1, element env (more n (let_variables a)) b h.0 rest h.2)
  element env n (DivideLanes o m a) code rest h = element env n a code rest h
  element env n (Select c a b) code rest h = (
    tidied h.0,
    tidied h.1,
    element env n c code h.0 h.2,
    element env (more n (let_variables c)) a h.0 h.1 h.3,
    element env (more (more n (let_variables c)) (let_variables a)) b h.1 rest h.4,
  )
  element env n (Both zips a b) code rest h = (tidied h.0, element env n a code h.0 h.1, element env (more n (let_variables a)) b h.0 rest h.2)
  element env n (Project s a) code rest h = element env n a code rest h
  element env n (LetElement ty v b) code rest h = (
    tidied h.0,
    tidied h.1,
    element env n v code h.0 h.2,
    assigned ty (exprs env n v) (more n (let_variables v)) h.0 h.1 h.3,
    element (push (held_marks ty (more n (let_variables v))) env) (more (more n (let_variables v)) (held_count ty)) b h.1 rest h.4,
  )
  element env n _ code rest h = absurd h
