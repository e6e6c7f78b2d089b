-- A kernel printed for a term: by one work-item, or for a map over the launch.
use Rattle.std.specs.Prelude.{◌≡◌, ℕ, ◌+◌, ◌<◌, ◌^◌, ◌⊎◌, Bool, false, List, [], ◌∷◌, ◌++◌, length, map, replicate, slice_index}
use Rattle.lift_tree.specs.declared.term.Level.TheVariants as level
use Rattle.lift_tree.specs.declared.term.Dimension.TheVariants.{X, Y}
use Rattle.kernel_tree.specs.Code.{Input, Output, Code, End, Kernel}
use Rattle.kernel_tree.specs.Launch as launch
use Rattle.kernel_tree.specs.Launch.{Launch, Cells, IsWhole, item_count}
use Rattle.kernel_tree.specs.Device.{row}
use Rattle.lift_ir.specs.Types.{Ty, width, size, IsPosition, IsFlat}
use Rattle.lift_ir.specs.Layouts.{result_position, IsInvertible}
use Rattle.lift_ir.specs.Terms.{Over, PrivateMemory, Term, Reshape, LetArray, Map, push, HasType, no_type}
use Rattle.lift_ir.specs.Owner.{is_in_rows}
use Rattle.lift_ir.specs.Scalars.{Scalars, at_index}
use Rattle.printed_form.specs.Counts.{Count, more, no_variables, load_count, variable_count, private_count, copy_lengths}
use Rattle.printed_form.specs.Marks.{Mark, Nowhere, Spot, Marks, laid_in, loaded_marks}
use Rattle.printed_form.specs.Form.{argument_marks, IsLoaded, IsLoop, IsArgumentWork, IsWritten}

-- a map along a row of the launch, through layouts, as this item runs it in loops with these
-- variables
abbrev pub IsAlongRow : {A : Type 0} → Launch → (item : ℕ) → (ℕ → Marks) → (A → ℕ) → List ℕ
    → (ℕ → Marks) → (a : ℕ) → (n : Count) → Term A → Marks → (code rest : Code) → Type 0
IsAlongRow l item ins num ts env a n (Reshape y t) w code rest =
    IsInvertible y
    × IsAlongRow l item ins num ts env a n t (λ cs q. w cs (result_position num y q)) code rest
IsAlongRow l item ins num ts env a n (Map (Over level.Launch X) len loads xs b) w code rest =
    (mid : Code) × IsArgumentWork l item ins num ts env a n xs code mid
    × IsLoop l item ins (Over level.Launch X) (num len)
    (λ i body. (inner : Code)
    × IsLoaded l item ins (ts ++ i ∷ []) loads (at_index i (argument_marks l ins num env a xs))
    (more n (variable_count xs)) body inner
    × IsWritten l item ins num (ts ++ i ∷ [])
    (push
    (loaded_marks loads (at_index i (argument_marks l ins num env a xs))
    (more n (variable_count xs))) env) (a + private_count xs)
    (more (more n (variable_count xs)) (load_count loads)) b (at_index i w) inner End)
    mid rest
IsAlongRow l item ins num ts env a n _ w code rest = ⊥

-- a map over the launch, along its one row or over its rows, through layouts and lets of arrays, as
-- this item runs it
abbrev pub IsOverLaunch : {A : Type 0} → Launch → (item : ℕ) → (ℕ → Marks) → (A → ℕ) → (ℕ → Marks)
    → (a : ℕ) → (n : Count) → Term A → Marks → (code rest : Code) → Type 0
IsOverLaunch l item ins num env a n (Reshape y t) w code rest =
    IsInvertible y
    × IsOverLaunch l item ins num env a n t (λ cs q. w cs (result_position num y q)) code rest
IsOverLaunch l item ins num env a n (LetArray v b) w code rest =
    (mid : Code) × IsArgumentWork l item ins num [] env a n v code mid
    × IsOverLaunch l item ins num (push (argument_marks l ins num env a v) env)
    (a + private_count v)
    (more n (variable_count v)) b w mid rest
IsOverLaunch l item ins num env a n (Map (Over level.Launch X) len loads xs b) w code rest =
    IsAlongRow l item ins num [] env a n (Map (Over level.Launch X) len loads xs b) w code rest
IsOverLaunch l item ins num env a n (Map (Over level.Launch Y) len loads xs b) w code rest =
    (mid : Code) × IsArgumentWork l item ins num [] env a n xs code mid
    × IsLoop l item ins (Over level.Launch Y) (num len)
    (λ i body. (inner : Code)
    × IsLoaded l item ins ([] ++ i ∷ []) loads (at_index i (argument_marks l ins num env a xs))
    (more n (variable_count xs)) body inner
    × IsAlongRow l item ins num ([] ++ i ∷ [])
    (push
    (loaded_marks loads (at_index i (argument_marks l ins num env a xs))
    (more n (variable_count xs))) env) (a + private_count xs)
    (more (more n (variable_count xs)) (load_count loads)) b (at_index i w) inner End)
    mid rest
IsOverLaunch l item ins num env a n _ w code rest = ⊥

-- nothing stands for any binder
abbrev pub no_marks : ℕ → Marks
no_marks v = λ cs q. Nowhere

-- where a value of this type goes in the outputs
abbrev pub output_marks : Ty → Marks
output_marks ty = laid_in Output 0 ty

-- the code is printed for the term as each item of the launch runs it: by the one item that there
-- is, or by each at its own turns of a map over the launch
abbrev pub IsCode : {A : Type 0} → Launch → (ℕ → Marks) → (A → ℕ) → Term A → Ty → Code → Type 0
IsCode l ins num t ty code =
    ((item_count l ≡ 1)
    × IsWritten l 0 ins num [] no_marks 0 no_variables t (output_marks ty) code End)
    ⊎ ((item : ℕ) → item < item_count l
    → IsOverLaunch l item ins num no_marks 0 no_variables t (output_marks ty) code End)

-- an input's scalar as the cells hold it
abbrev pub IsGiven : Cells → Mark → ℕ → Type 0
IsGiven c (Spot (Input a) i) v = (i < length (row c.ins a)) × (slice_index (row c.ins a) i ≡ v)
IsGiven c _ v = ⊥

-- but for its code the kernel is one for the term of this type, at
-- this launch and with these cells:
-- the launch is one row but for a term with a map over rows on top; the term has the type, the
-- kernel declares its variables and its private arrays, and the cells are as many as the value's,
-- with the inputs' scalars where these stand
pub record IsMadeFor {A : Type 0} (l : Launch) (num : A → ℕ) (src : ℕ → Ty) (ins : ℕ → Marks)
    (sources : ℕ → Scalars) (t : Term A) (ty : Ty) (k : Kernel) (c : Cells) : Type 0 where
  pub whole : IsWhole l
  pub flat : is_in_rows t ≡ false → launch.IsFlat l
  pub some : 0 < item_count l
  pub few : item_count l < 2 ^ 31
  pub typed : HasType num src no_type t ty
  pub flat_type : IsFlat ty
  pub variables : k.variables ≡ (variable_count t).words
  pub vectors : k.vectors ≡ (variable_count t).fours
  pub privates : k.privates ≡ copy_lengths PrivateMemory t
  pub outputs : map length c.outs ≡ replicate (width ty) (size ty)
  pub inputs : (v : ℕ) (cs : List Bool) (q : List ℕ) → IsPosition (src v) cs q
      → IsGiven c (ins v cs q) (sources v cs q)

-- and so it is with its code
pub record IsPrinted {A : Type 0} (l : Launch) (num : A → ℕ) (src : ℕ → Ty) (ins : ℕ → Marks)
    (sources : ℕ → Scalars) (t : Term A) (ty : Ty) (k : Kernel) (c : Cells) : Type 0 where
  pub made : IsMadeFor l num src ins sources t ty k c
  pub code : IsCode l ins num t ty k.code
