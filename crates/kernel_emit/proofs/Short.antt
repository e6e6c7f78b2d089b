-- Copies are short in one way.
use Rattle.std.specs.Coded.{×_prop, Unit-prop, le_prop}
use Rattle.std.proofs.Common.{◌≡◌, ◌<◌, ℕ, true}
use Rattle.std.proofs.Math.Bool.{Bool-set}
use Rattle.kernel_tree.specs.Code.{Kernel}
use Rattle.kernel_tree.specs.Grammar.{is_kernel}
use Rattle.lift_ir.specs.Types.{IsShort, Ty, Scalar, PairOf, ArrayOf}
use Rattle.lift_ir.specs.Terms.{Term, Literal, Bound, Source, Apply, ApplyNumber, ApplyLanes, DivideLanes, Select, Both, Project, Reshape, LetArray, LetElement, Map, Fold, Store, Copy}
use Rattle.item_emit.specs.Copies.{HasShortCopies, IsShortCopy}

short_once : (ty : Ty) → IsProp (IsShort ty)
short_once Scalar = Unit-prop
short_once (PairOf a b) = ×_prop (short_once a) (short_once b)
short_once (ArrayOf n t) = ×_prop le_prop (short_once t)

below_once : (m n : ℕ) → IsProp (m < n)
below_once m n = le_prop

copy_once : (ty : Ty) → IsProp (IsShortCopy ty)
copy_once ty = hlevel (short_once, below_once)

pub copies_once : {A : Type 0} → (t : Term A) → IsProp (HasShortCopies t)
copies_once (Literal c) = Unit-prop
copies_once (Bound v) = Unit-prop
copies_once (Source v) = Unit-prop
copies_once (Apply o a b) = Unit-prop
copies_once (ApplyNumber o n a) = Unit-prop
copies_once (ApplyLanes o l r a b) = Unit-prop
copies_once (DivideLanes o n a) = Unit-prop
copies_once (Select c a b) = Unit-prop
copies_once (Both zips a b) = ×_prop (copies_once a) (copies_once b)
copies_once (Project second a) = copies_once a
copies_once (Reshape l a) = copies_once a
copies_once (LetArray v b) = ×_prop (copies_once v) (copies_once b)
copies_once (LetElement ty v b) = copies_once b
copies_once (Map k n loads xs b) = ×_prop (copies_once xs) (copies_once b)
copies_once (Fold n loads ty xs s b) = copies_once xs
copies_once (Store ty a) = Unit-prop
copies_once (Copy space ty a) = ×_prop (copy_once ty) (copies_once a)

pub grammar_once : (k : Kernel) → IsProp (is_kernel k ≡ true)
grammar_once k = Bool-set (is_kernel k) true
