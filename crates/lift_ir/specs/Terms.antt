-- The intermediate representation (Lift IR, CGO 2017): terms whose lengths are of any kind, and
-- their types at one launch.
use Rattle.std.specs.Prelude.{◌≡◌, ℕ, zero, suc, ◌<◌, ◌^◌, Bool, true, false}
use Rattle.scalar_ops.specs.declared.op.Op.{Op}
use Rattle.scalar_ops.specs.declared.op.Op.TheVariants.{Lt, Eq}
use Rattle.lift_tree.specs.declared.term.Level.{Level}
use Rattle.lift_tree.specs.declared.term.Dimension.{Dimension}
use Rattle.kernel_tree.specs.Formula.{divides}
use Rattle.lift_ir.specs.Types.{Ty, Scalar, PairOf, ArrayOf, four, IsFour, IsElement, IsFlat, IsShort}
use Rattle.lift_ir.specs.Layouts.{Layout, Reshapes, HasWordStep}

-- which scalars of a bound element are loaded into private variables
pub data LoadSet : Type 0 where
  Skip Take TakeFour : LoadSet
  Each : (left right : LoadSet) → LoadSet

-- how a map is run: over the launch's work-items, its work-groups or the work-items of a group,
-- along a row or from row to row; or by one work-item
pub data Kind : Type 0 where
  Over : (level : Level) → (dimension : Dimension) → Kind
  Sequential : Kind

-- where a copy lies: in a work-group's local memory, or in a work-item's private memory
pub data Space : Type 0 where
  LocalMemory PrivateMemory : Space

-- a term, whose lengths are of A. Binders are counted from the nearest; a fold binds
-- the element, then the accumulator
pub data Term (A : Type 0) : Type 0 where
  Literal : ℕ → Term A
  Bound : (binder : ℕ) → Term A
  Source : (input : ℕ) → Term A
  Apply : Op → (a b : Term A) → Term A  -- an operator of two operands
  ApplyNumber : Op → (n : ℕ) → (a : Term A) → Term A  -- quotient and remainder by a number
  -- the same lane by lane; an operand that is no vector stands for equal lanes
  ApplyLanes : Op → (left right : Bool) → (a b : Term A) → Term A
  DivideLanes : Op → (n : ℕ) → (a : Term A) → Term A
  Select : (c a b : Term A) → Term A
  Both : (zips : Bool) → (a b : Term A) → Term A  -- zip and pair
  Project : (second : Bool) → (a : Term A) → Term A
  Reshape : Layout A → (a : Term A) → Term A
  LetArray : (value body : Term A) → Term A  -- of an array
  LetElement : Ty → (value body : Term A) → Term A  -- of an element of this type
  Map : Kind → (n : A) → LoadSet → (array body : Term A) → Term A
  Fold : (n : A) → LoadSet → Ty → (array start body : Term A) → Term A
  Store : Ty → (a : Term A) → Term A  -- an element term of this type, in writing position
  Copy : Space → Ty → (a : Term A) → Term A  -- toLocal and toPrivate, of an array of this type

-- scalars and vectors alone are loaded
abbrev pub LoadsScalars : LoadSet → Ty → Type 0
LoadsScalars Skip t = Unit {0}
LoadsScalars Take Scalar = Unit {0}
LoadsScalars Take (PairOf a b) = ⊥
LoadsScalars Take (ArrayOf n t) = ⊥
LoadsScalars TakeFour Scalar = ⊥
LoadsScalars TakeFour (PairOf a b) = ⊥
LoadsScalars TakeFour (ArrayOf n t) = IsFour n t
LoadsScalars (Each x y) Scalar = ⊥
LoadsScalars (Each x y) (PairOf a b) = LoadsScalars x a × LoadsScalars y b
LoadsScalars (Each x y) (ArrayOf n t) = ⊥

-- what stands for the binders, with one more
abbrev pub push : {A : Type 0} → A → (ℕ → A) → ℕ → A
push x env zero = x
push x env (suc v) = env v

-- an operator that acts lane by lane
abbrev pub acts_on_lanes : Op → Bool
acts_on_lanes Lt = false
acts_on_lanes Eq = false
acts_on_lanes _ = true

-- a vector, or a number that stands for one
abbrev pub lane_type : (vector : Bool) → Ty
lane_type true = four
lane_type false = Scalar

-- one of two is a vector
abbrev pub SomeVector : (left right : Bool) → Type 0
SomeVector false false = ⊥
SomeVector _ _ = Unit {0}

-- the term has this type at a launch, where the inputs and the binders have these
abbrev pub HasType : {A : Type 0} → (A → ℕ) → (ℕ → Ty) → (ℕ → Ty) → Term A → Ty → Type 0
HasType num src g (Literal n) t = t ≡ Scalar
HasType num src g (Bound v) t = t ≡ g v
HasType num src g (Source a) t = t ≡ src a
HasType num src g (Apply o a b) t =
    (t ≡ Scalar) × (divides o ≡ false) × HasType num src g a Scalar × HasType num src g b Scalar
HasType num src g (ApplyNumber o n a) t = (t ≡ Scalar) × (0 < n) × HasType num src g a Scalar
HasType num src g (ApplyLanes o l r a b) t =
    (t ≡ four) × (divides o ≡ false) × (acts_on_lanes o ≡ true) × SomeVector l r
    × HasType num src g a (lane_type l)
    × HasType num src g b (lane_type r)
HasType num src g (DivideLanes o n a) t = (t ≡ four) × (0 < n) × HasType num src g a four
HasType num src g (Select c a b) t =
    (t ≡ Scalar) × HasType num src g c Scalar × HasType num src g a Scalar
    × HasType num src g b Scalar
HasType num src g (Both false a b) t =
    (x y : Ty) × (t ≡ PairOf x y) × IsElement x × IsElement y × HasType num src g a x
    × HasType num src g b y
HasType num src g (Both true a b) t =
    (n : ℕ) × (x y : Ty) × (t ≡ ArrayOf n (PairOf x y)) × HasType num src g a (ArrayOf n x)
    × HasType num src g b (ArrayOf n y)
HasType num src g (Project false a) t = (u : Ty) × HasType num src g a (PairOf t u)
HasType num src g (Project true a) t = (u : Ty) × HasType num src g a (PairOf u t)
HasType num src g (Reshape l a) t =
    (u : Ty) × HasType num src g a u × Reshapes num l u t × IsShort u × IsShort t × HasWordStep l
HasType num src g (LetArray v b) t =
    (u : Ty) × HasType num src g v u × HasType num src (push u g) b t
HasType num src g (LetElement u v b) t =
    IsElement u × HasType num src g v u × HasType num src (push u g) b t
HasType num src g (Map k n loads xs b) t =
    (x y : Ty) × (num n < 2 ^ 31) × LoadsScalars loads x × HasType num src g xs (ArrayOf (num n) x)
    × HasType num src (push x g) b y × (t ≡ ArrayOf (num n) y)
HasType num src g (Fold n loads y xs s b) t =
    (x : Ty) × (num n < 2 ^ 31) × LoadsScalars loads x × IsElement y
    × HasType num src g xs (ArrayOf (num n) x) × HasType num src g s y
    × HasType num src (push x (push y g)) b y × (t ≡ ArrayOf 1 y)
HasType num src g (Store u a) t = (t ≡ u) × IsElement u × HasType num src g a t
HasType num src g (Copy space u a) t = (t ≡ u) × IsFlat u × HasType num src g a t

-- no binder is in scope
abbrev pub no_type : ℕ → Ty
no_type v = ArrayOf 0 Scalar
