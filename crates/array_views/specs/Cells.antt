-- The cells of views by position, at a point.
use Rattle.std.specs.Prelude.{◌≡◌, ℕ, ◌+◌, ◌<◌, ◌⊎◌, pos, true, false, List, [], ◌∷◌}
use Rattle.kernel_tree.specs.Code.{Array}
use Rattle.lift_ir.specs.AtLaunch.{natural}
use Rattle.lift_ir.specs.Types.{Shape, Ty, Scalar, PairOf, ArrayOf, four, measured, width, size, IsShort, IsPlaced}
use Rattle.lift_ir.specs.Layouts.{Layout, operand_position, result_position, Reshapes, IsInvertible, HasWordStep}
use Rattle.lift_ir.specs.Scalars.{by_side, at_index}
use Rattle.printed_form.specs.Marks.{Mark, Nowhere, Register, Lane, Spot, Marks, laid_in, in_lanes}
use Rattle.index_expr.specs.Expression.{Expression}
use Rattle.index_expr.specs.Values.{exact, IsRangedAt, HasNoZeroDivisorAt}
use Rattle.array_views.specs.Arrays.{array_with}
use Rattle.array_views.specs.Layouts.{EachLength}
use Rattle.array_views.specs.Views.{PlainView, Nothing, Variable, Vector, Placed, Both, Component, At, Reading, Writing}
use Rattle.array_views.specs.Accesses as access
use Rattle.array_views.specs.Accesses.{PlainAccess}

-- a mark within its array, where arrays are so long
abbrev pub IsWithin : (Array → ℕ) → Mark → Type 0
IsWithin long (Spot a n) = n < long a
IsWithin long _ = Unit {0}

-- where a value goes: arrays, through layouts and at elements
abbrev pub IsGoal : PlainView → Type 0
IsGoal (Placed k n s) = Unit {0}
IsGoal (At i x) = IsGoal x
IsGoal (Writing y x) = IsGoal x
IsGoal _ = ⊥

-- the same of a whole value
abbrev pub IsWholeGoal : PlainView → Type 0
IsWholeGoal (Placed k n s) = Unit {0}
IsWholeGoal (Writing y x) = IsWholeGoal x
IsWholeGoal _ = ⊥

-- the values of sizes and of loop variables
module _ (sizes variables : List ℕ) where
  -- the value of a length
  abbrev pub number_at : Expression → ℕ
  number_at e = natural (exact sizes variables e)

  -- an index of this value: no operation in it wraps, and none divides by 0
  pub record IsIndex (e : Expression) (n : ℕ) : Type 0 where
    pub value : exact sizes variables e ≡ pos n
    pub ranged : IsRangedAt sizes variables e
    pub divisors : HasNoZeroDivisorAt sizes variables e

  -- indices of these values, one each
  abbrev pub AreIndices : List Expression → List ℕ → Type 0
  AreIndices [] [] = Unit {0}
  AreIndices (e ∷ es) (n ∷ q) = IsIndex e n × AreIndices es q
  AreIndices _ _ = ⊥

  -- a length has its value without a wrap
  abbrev pub IsLength : Expression → Type 0
  IsLength e = IsIndex e (number_at e)

  -- so have all lengths of a type
  abbrev pub HasLengths : Shape Expression → Type 0
  HasLengths Scalar = Unit {0}
  HasLengths (PairOf a b) = HasLengths a × HasLengths b
  HasLengths (ArrayOf n t) = IsLength n × HasLengths t

  -- a layout from the first type to the second
  pub record Leads (y : Layout Expression) (t u : Ty) : Type 0 where
    pub shapes : Reshapes number_at y t u
    pub operand : IsShort t
    pub result : IsShort u
    pub step : HasWordStep y
    pub lengths : EachLength IsLength y

  -- the view is of a value of this type
  abbrev pub IsViewOf : PlainView → Ty → Type 0
  IsViewOf Nothing t = ⊥
  IsViewOf (Variable n) t = t ≡ Scalar
  IsViewOf (Vector n) t = t ≡ four
  IsViewOf (Placed k n s) t = (t ≡ measured number_at s) × IsPlaced number_at s × HasLengths s
  IsViewOf (Both x y) t =
      ((a b : Ty) × (t ≡ PairOf a b) × IsViewOf x a × IsViewOf y b)
      ⊎
      ((n : ℕ) × (a b : Ty) × (t ≡ ArrayOf n (PairOf a b)) × IsViewOf x (ArrayOf n a)
      × IsViewOf y (ArrayOf n b))
  IsViewOf (Component false x) t = (u : Ty) × IsViewOf x (PairOf t u)
  IsViewOf (Component true x) t = (u : Ty) × IsViewOf x (PairOf u t)
  IsViewOf (At i x) t = (n : ℕ) × IsViewOf x (ArrayOf n t) × IsLength i × (number_at i < n)
  IsViewOf (Reading y x) t = (u : Ty) × IsViewOf x u × Leads y u t
  IsViewOf (Writing y x) t = (u : Ty) × IsViewOf x u × Leads y t u × IsInvertible y

  -- what stands for the scalar at a position
  abbrev pub marks_at : PlainView → Marks
  marks_at Nothing = λ cs q. Nowhere
  marks_at (Variable n) = λ cs q. Register n
  marks_at (Vector n) = λ cs q. in_lanes n q
  marks_at (Placed k n s) = laid_in (array_with k) n (measured number_at s)
  marks_at (Both x y) = by_side (λ q. Nowhere) (marks_at x) (marks_at y)
  marks_at (Component s x) = λ cs q. marks_at x (s ∷ cs) q
  marks_at (At i x) = at_index (number_at i) (marks_at x)
  marks_at (Reading y x) = λ cs q. marks_at x cs (operand_position number_at y q)
  marks_at (Writing y x) = λ cs q. marks_at x cs (result_position number_at y q)

  -- the access is to this
  abbrev pub IsAccessTo : PlainAccess → Mark → Type 0
  IsAccessTo (access.Variable n) (Register v) = n ≡ v
  IsAccessTo (access.Vector n) (Lane v j) = n ≡ v
  IsAccessTo (access.InCell a e) (Spot b n) = (a ≡ b) × IsIndex e n
  IsAccessTo _ _ = ⊥

  -- the arrays are as long as their values
  abbrev pub HasArrays : (Array → ℕ) → PlainView → Type 0
  HasArrays long (Placed k n s) =
      (c : ℕ) → c < width s → long (array_with k (n + c)) ≡ size (measured number_at s)
  HasArrays long (Both x y) = HasArrays long x × HasArrays long y
  HasArrays long (Component s x) = HasArrays long x
  HasArrays long (At i x) = HasArrays long x
  HasArrays long (Reading y x) = HasArrays long x
  HasArrays long (Writing y x) = HasArrays long x
  HasArrays long _ = Unit {0}

  -- a cell of its arrays
  abbrev pub IsCellOf : PlainView → Mark → Type 0
  IsCellOf (Placed k n s) m =
      (c i : ℕ) × (c < width s) × (i < size (measured number_at s))
      × (m ≡ Spot (array_with k (n + c)) i)
  IsCellOf (Writing y x) m = IsCellOf x m
  IsCellOf _ m = ⊥
