-- What holds of terms and their values.
use Rattle.std.specs.Prelude.{◌≡◌, ℕ, ◌<◌, Bool, List, [], Some, length, slice_get, slice_index}
use Rattle.size_arith.specs.declared.poly.Monomial.{Monomial}
use Rattle.size_arith.specs.Ranges.{Admissible}
use Rattle.lift_tree.specs.Tree.{Tree}
use Rattle.lift_tree.specs.Types as types
use Rattle.lift_tree.specs.Types.{PlainTy}
use Rattle.lift_tree.specs.Typing.{Declared, IsDeclared, IsAdmissible}
use Rattle.lift_tree.specs.Annotations.{Annotation, type_in, Annotates}
use Rattle.lift_tree.specs.Values.{Value, nth}
use Rattle.lift_tree.specs.Meaning.{World, meaning}
use Rattle.lift_tree.specs.Launches as launches
use Rattle.kernel_tree.specs.Launch.{Launch, IsWhole, item_count}
use Rattle.kernel_tree.specs.Device.{row}
use Rattle.lift_ir.specs.Types.{Ty, IsPosition, IsFlat, component, flat}
use Rattle.lift_ir.specs.Layouts.{Layout, operand_position, result_position, Reshapes, IsInvertible}
use Rattle.lift_ir.specs.Terms.{Term, HasType, no_type}
use Rattle.lift_ir.specs.Scalars.{Scalars, scalars_of, no_scalars, HasScalars, scalars_in, lists_of, AreLists}
use Rattle.lift_ir.specs.Sources.{IsLayout, Lowers}
use Rattle.lift_ir.specs.AtLaunch.{length_at, ty_at}
use Rattle.lift_ir.specs.Lowering.{Written, lower}
use Rattle.lift_ir.specs.Lowerable.{IsLowerable, IsStaged}
use Rattle.lift_ir.specs.Loads.{none, LoadsSuffice}
use Rattle.lift_ir.specs.Owner.{owner}

-- a layout leads each position of its result to one of its operand; one that is invertible leads
-- back, and no two positions to one
pub record LayoutsLeadPositions : Type 0 where
  pub forth : (num : List Monomial → ℕ) (l : Layout (List Monomial)) (t u : Ty) (cs : List Bool)
      (q : List ℕ)
      → Reshapes num l t u → IsPosition u cs q → IsPosition t cs (operand_position num l q)
  pub back : (num : List Monomial → ℕ) (l : Layout (List Monomial)) (t u : Ty) (cs : List Bool)
      (q : List ℕ)
      → IsInvertible l → Reshapes num l t u → IsPosition t cs q
      → IsPosition u cs (result_position num l q)
      × (operand_position num l (result_position num l q) ≡ q)
  pub again : (num : List Monomial → ℕ) (l : Layout (List Monomial)) (t u : Ty) (cs : List Bool)
      (q : List ℕ)
      → IsInvertible l → Reshapes num l t u → IsPosition u cs q
      → result_position num l (operand_position num l q) ≡ q

-- a layout of nested lists has its operand's scalars at the positions that it leads to
abbrev pub LayoutsAreByPosition : Type 0
LayoutsAreByPosition =
    (num : List Monomial → ℕ) (w : World) (vs : List Value) (whole part : Tree)
    (l : Layout (List Monomial)) (t u : Ty) (s : Scalars)
    → IsLayout num w whole l part → Reshapes num l t u → HasScalars t (meaning w vs part) s
    → HasScalars u (meaning w vs whole) (λ cs q. s cs (operand_position num l q))

-- the source value of a typed term has the term's scalars
abbrev pub TermsHaveTheSourceValue : Type 0
TermsHaveTheSourceValue =
    (num : List Monomial → ℕ) (w : World) (inputs : ℕ) (src : ℕ → Ty) (sources : ℕ → Scalars)
    (source : Tree) (t : Term (List Monomial)) (ty : Ty)
    → Lowers num w 0 inputs source t → HasType num src no_type t ty
    → ((i : ℕ) → i < inputs → HasScalars (src i) (nth w.inputs i) (sources i))
    → HasScalars ty (meaning w [] source) (scalars_of num sources no_scalars t)

-- a value that has a type has scalars, and its lists hold them in row-major order
pub record ValuesAreByPosition : Type 0 where
  pub scalars : (bases : List ℕ) (a : PlainTy) (v : Value) → types.HasType bases a v
      → HasScalars (ty_at bases a) v (scalars_in (ty_at bases a) v)
  pub lists : (bases : List ℕ) (a : PlainTy) (v : Value)
      → launches.lists_of a v ≡ lists_of (ty_at bases a) v
  pub at_each : (t : Ty) (v : Value) (s : Scalars) → IsFlat t → HasScalars t v s
      → AreLists t s (lists_of t v)
  pub each_at : (t : Ty) (v : Value) (s : Scalars) (cs : List Bool) (q : List ℕ) → IsFlat t
      → IsPosition t cs q → HasScalars t v s
      → (flat t q < length (row (lists_of t v) (component t cs)))
      × (slice_index (row (lists_of t v) (component t cs)) (flat t q) ≡ s cs q)

-- what a typed term is lowered to is the source's, has its type at each admissible launch, and what
-- it loads is all that its element terms name
pub record LoweredTermsServe : Type 0 where
  pub source : (d : Declared) (w : World) (t : Tree) (a : Annotation) → IsDeclared d
      → IsAdmissible d w → Annotates d [] t a → IsLowerable w.bases Written t a
      → Lowers (length_at w.bases) w 0 (length d.inputs) t (lower d.names Written t a)
  pub typed : (d : Declared) (bases : List ℕ) (src : ℕ → Ty) (t : Tree) (a : Annotation)
      → IsDeclared d → Admissible d.names bases
      → ((i : ℕ) (b : PlainTy) → slice_get d.inputs i ≡ Some b → ty_at bases b ≡ src i)
      → Annotates d [] t a → IsLowerable bases Written t a
      → HasType (length_at bases) src no_type (lower d.names Written t a)
      (ty_at bases (type_in a))
  pub loads : (d : Declared) (bases : List ℕ) (t : Tree) (a : Annotation) → Annotates d [] t a
      → IsLowerable bases Written t a → IsStaged Written t a
      → LoadsSuffice (λ v. none) (lower d.names Written t a)

-- each scalar's owner is a work-item of the launch
abbrev pub OwnersAreOfTheLaunch : Type 0
OwnersAreOfTheLaunch =
    (num : List Monomial → ℕ) (l : Launch) (t : Term (List Monomial)) (q : List ℕ) → IsWhole l
    → 0 < item_count l → owner num l t q < item_count l
