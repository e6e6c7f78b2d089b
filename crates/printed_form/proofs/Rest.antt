-- Code that is printed for something stays so before whatever follows it:
-- what an `if`'s body goes on to.
use Rattle.std.proofs.Common.{ℕ, ◌+◌, Bool, true, false, List, ◌∷◌, Option, ap}
use Rattle.kernel_tree.specs.Code.{Private, Code, then_rest}
use Rattle.kernel_tree.specs.Launch.{Launch}
use Rattle.lift_ir.specs.Types.{Ty, Scalar, PairOf, ArrayOf}
use Rattle.lift_ir.specs.Layouts.{result_position}
use Rattle.lift_ir.specs.Terms.{LoadSet, Skip, Take, TakeFour, Each, Over, Sequential, LocalMemory, PrivateMemory, Term, Literal, Bound, Source, Apply, ApplyNumber, ApplyLanes, DivideLanes, Select, Both, Project, Reshape, LetArray, LetElement, Map, Fold, Store, Copy, push}
use Rattle.lift_ir.specs.Scalars.{at_index}
use Rattle.printed_form.specs.Counts.{Count, more, held_count, let_variables, load_count, variable_count, private_count}
use Rattle.printed_form.specs.Marks.{Marks, laid_in, held_marks}
use Rattle.printed_form.specs.Expressions.{Expr, held, exprs}
use Rattle.printed_form.specs.Form.{IsAssigned, IsElementWork, IsStored, IsLoaded, IsArgumentWork, IsWritten, argument_marks}

-- what follows
module _ (on : Code) where
  pub assigned_on : (ty : Ty) (f : List Bool → Option Expr) (n : Count) (code rest : Code) → IsAssigned ty f n code rest → IsAssigned ty f n (then_rest code on) (then_rest rest on)
  assigned_on Scalar f n code rest h = (h.0, h.1, ap (λ c. then_rest c on) h.2)
  assigned_on (PairOf a b) f n code rest h =
      (then_rest h.0 on, assigned_on a (λ cs. f (false ∷ cs)) n code h.0 h.1, assigned_on b (λ cs. f (true ∷ cs)) (more n (held_count a)) h.0 rest h.2)
  assigned_on (ArrayOf m t) f n code rest h = (h.0, h.1, h.2, ap (λ c. then_rest c on) h.3)

  pub element_on : {A : Type 0} (env : ℕ → Marks) (n : Count) (t : Term A) (code rest : Code) → IsElementWork env n t code rest → IsElementWork env n t (then_rest code on) (then_rest rest on)
  element_on env n (Literal c) code rest h = ap (λ c. then_rest c on) h
  element_on env n (Bound v) code rest h = ap (λ c. then_rest c on) h
  element_on env n (Apply o a b) code rest h = (then_rest h.0 on, element_on env n a code h.0 h.1, element_on env (more n (let_variables a)) b h.0 rest h.2)
  element_on env n (ApplyNumber o m a) code rest h = element_on env n a code rest h
  element_on env n (ApplyLanes o i j a b) code rest h = (then_rest h.0 on, element_on env n a code h.0 h.1, element_on env (more n (let_variables a)) b h.0 rest h.2)
  element_on env n (DivideLanes o m a) code rest h = element_on env n a code rest h
  element_on env n (Select c a b) code rest h =
      (then_rest h.0 on, then_rest h.1 on, element_on env n c code h.0 h.2, element_on env (more n (let_variables c)) a h.0 h.1 h.3, element_on env (more (more n (let_variables c)) (let_variables a)) b h.1 rest h.4)
  element_on env n (Both zips a b) code rest h = (then_rest h.0 on, element_on env n a code h.0 h.1, element_on env (more n (let_variables a)) b h.0 rest h.2)
  element_on env n (Project s a) code rest h = element_on env n a code rest h
  element_on env n (LetElement ty v b) code rest h = (
    then_rest h.0 on,
    then_rest h.1 on,
    element_on env n v code h.0 h.2,
    assigned_on ty (exprs env n v) (more n (let_variables v)) h.0 h.1 h.3,
    element_on (push (held_marks ty (more n (let_variables v))) env) (more (more n (let_variables v)) (held_count ty)) b h.1 rest h.4,
  )
  element_on env n (Source s) code rest h = absurd h
  element_on env n (Reshape y a) code rest h = absurd h
  element_on env n (LetArray v b) code rest h = absurd h
  element_on env n (Map k len loads xs b) code rest h = absurd h
  element_on env n (Fold len loads ty xs s b) code rest h = absurd h
  element_on env n (Store ty a) code rest h = absurd h
  element_on env n (Copy space ty a) code rest h = absurd h

  -- as this item comes there
  module _ (l : Launch) (item : ℕ) (ins : ℕ → Marks) where
    pub stored_on : (ts : List ℕ) (ty : Ty) (f : List Bool → Option Expr) (w : Marks) (code rest : Code) → IsStored l item ins ts ty f w code rest → IsStored l item ins ts ty f w (then_rest code on) (then_rest rest on)
    stored_on ts Scalar f w code rest h = (h.0, h.1, h.2, h.3, h.4, ap (λ c. then_rest c on) h.5)
    stored_on ts (PairOf a b) f w code rest h =
        (then_rest h.0 on, stored_on ts a (λ cs. f (false ∷ cs)) (λ cs. w (false ∷ cs)) code h.0 h.1, stored_on ts b (λ cs. f (true ∷ cs)) (λ cs. w (true ∷ cs)) h.0 rest h.2)
    stored_on ts (ArrayOf m t) f w code rest h = (h.0, h.1, h.2, h.3, h.4, h.5, ap (λ c. then_rest c on) h.6)

    pub loaded_on : (ts : List ℕ) (loads : LoadSet) (x : Marks) (n : Count) (code rest : Code) → IsLoaded l item ins ts loads x n code rest → IsLoaded l item ins ts loads x n (then_rest code on) (then_rest rest on)
    loaded_on ts Skip x n code rest h = ap (λ c. then_rest c on) h
    loaded_on ts Take x n code rest h = (h.0, h.1, h.2, ap (λ c. then_rest c on) h.3)
    loaded_on ts TakeFour x n code rest h = (h.0, h.1, h.2, ap (λ c. then_rest c on) h.3)
    loaded_on ts (Each a b) x n code rest h =
        (then_rest h.0 on, loaded_on ts a (λ cs. x (false ∷ cs)) n code h.0 h.1, loaded_on ts b (λ cs. x (true ∷ cs)) (more n (load_count a)) h.0 rest h.2)

    mutual
      pub argument_on : {A : Type 0} (num : A → ℕ) (ts : List ℕ) (env : ℕ → Marks) (a : ℕ) (n : Count) (t : Term A) (code rest : Code) → IsArgumentWork l item ins num ts env a n t code rest → IsArgumentWork l item ins num ts env a n t (then_rest code on) (then_rest rest on)
      argument_on num ts env a n (Bound v) code rest h = ap (λ c. then_rest c on) h
      argument_on num ts env a n (Source s) code rest h = ap (λ c. then_rest c on) h
      argument_on num ts env a n (Both zips x y) code rest h =
          (then_rest h.0 on, argument_on num ts env a n x code h.0 h.1, argument_on num ts env (a + private_count x) (more n (variable_count x)) y h.0 rest h.2)
      argument_on num ts env a n (Project s x) code rest h = argument_on num ts env a n x code rest h
      argument_on num ts env a n (Reshape y x) code rest h = argument_on num ts env a n x code rest h
      argument_on num ts env a n (LetArray v b) code rest h = (
        then_rest h.0 on,
        argument_on num ts env a n v code h.0 h.1,
        argument_on num ts (push (argument_marks l ins num env a v) env) (a + private_count v) (more n (variable_count v)) b h.0 rest h.2,
      )
      argument_on num ts env a n (Copy PrivateMemory ty x) code rest h = written_on num ts env a n x (laid_in Private (a + private_count x) ty) code rest h
      argument_on num ts env a n (Copy LocalMemory ty x) code rest h = absurd h
      argument_on num ts env a n (Literal c) code rest h = absurd h
      argument_on num ts env a n (Apply o x y) code rest h = absurd h
      argument_on num ts env a n (ApplyNumber o m x) code rest h = absurd h
      argument_on num ts env a n (ApplyLanes o i j x y) code rest h = absurd h
      argument_on num ts env a n (DivideLanes o m x) code rest h = absurd h
      argument_on num ts env a n (Select c x y) code rest h = absurd h
      argument_on num ts env a n (LetElement ty v b) code rest h = absurd h
      argument_on num ts env a n (Map k len loads xs b) code rest h = absurd h
      argument_on num ts env a n (Fold len loads ty xs s b) code rest h = absurd h
      argument_on num ts env a n (Store ty x) code rest h = absurd h

      pub written_on : {A : Type 0} (num : A → ℕ) (ts : List ℕ) (env : ℕ → Marks) (a : ℕ) (n : Count) (t : Term A) (w : Marks) (code rest : Code) → IsWritten l item ins num ts env a n t w code rest → IsWritten l item ins num ts env a n t w (then_rest code on) (then_rest rest on)
      written_on num ts env a n (Store ty t) w code rest h = (then_rest h.0 on, element_on env n t code h.0 h.1, stored_on ts ty (exprs env n t) w h.0 rest h.2)
      written_on num ts env a n (Reshape y t) w code rest h = (h.0, written_on num ts env a n t (λ cs q. w cs (result_position num y q)) code rest h.1)
      written_on num ts env a n (LetArray v b) w code rest h = (
        then_rest h.0 on,
        argument_on num ts env a n v code h.0 h.1,
        written_on num ts (push (argument_marks l ins num env a v) env) (a + private_count v) (more n (variable_count v)) b w h.0 rest h.2,
      )
      written_on num ts env a n (LetElement ty v b) w code rest h = (
        then_rest h.0 on,
        then_rest h.1 on,
        element_on env n v code h.0 h.2,
        assigned_on ty (exprs env n v) (more n (let_variables v)) h.0 h.1 h.3,
        written_on num ts (push (held_marks ty (more n (let_variables v))) env) a (more (more n (let_variables v)) (held_count ty)) b w h.1 rest h.4,
      )
      written_on num ts env a n (Map Sequential len loads xs b) w code rest h =
          (then_rest h.0 on, argument_on num ts env a n xs code h.0 h.1, (h.2.0, h.2.1, ap (λ c. then_rest c on) h.2.2, h.2.3, h.2.4))
      written_on num ts env a n (Fold len loads ty xs s b) w code rest h = (
        then_rest h.0 on,
        then_rest h.1 on,
        then_rest h.2 on,
        then_rest h.3 on,
        argument_on num ts env a n xs code h.0 h.4,
        element_on env (more n (variable_count xs)) s h.0 h.1 h.5,
        assigned_on ty (exprs env (more n (variable_count xs)) s) (more (more n (variable_count xs)) (let_variables s)) h.1 h.2 h.6,
        (h.7.0, h.7.1, ap (λ c. then_rest c on) h.7.2, h.7.3, h.7.4),
        stored_on ts ty (λ cs. held (held_marks ty (more (more n (variable_count xs)) (let_variables s)) cs)) (at_index 0 w) h.3 rest h.8,
      )
      written_on num ts env a n (Map (Over _ _) len loads xs b) w code rest h = absurd h
      written_on num ts env a n (Literal c) w code rest h = absurd h
      written_on num ts env a n (Bound v) w code rest h = absurd h
      written_on num ts env a n (Source s) w code rest h = absurd h
      written_on num ts env a n (Apply o x y) w code rest h = absurd h
      written_on num ts env a n (ApplyNumber o m x) w code rest h = absurd h
      written_on num ts env a n (ApplyLanes o i j x y) w code rest h = absurd h
      written_on num ts env a n (DivideLanes o m x) w code rest h = absurd h
      written_on num ts env a n (Select c x y) w code rest h = absurd h
      written_on num ts env a n (Both zips x y) w code rest h = absurd h
      written_on num ts env a n (Project s x) w code rest h = absurd h
      written_on num ts env a n (Copy space ty x) w code rest h = absurd h
