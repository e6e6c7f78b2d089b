-- Which code is printed for a term, as one work-item runs it, at
-- given turns of the loops around it:
-- any index expressions and bounds of the right values.
use Rattle.std.specs.Prelude.{◌≡◌, ℕ, ◌+◌, ◌*◌, ◌<◌, Bool, true, false, List, [], ◌∷◌, ◌++◌, Option, Some}
use Rattle.lift_tree.specs.declared.term.Level.TheVariants as level
use Rattle.lift_tree.specs.declared.term.Dimension.{Dimension}
use Rattle.lift_tree.specs.declared.term.Dimension.TheVariants.{X, Y}
use Rattle.kernel_tree.specs.declared.tree.Dimension as kernel
use Rattle.kernel_tree.specs.declared.tree.Dimension.TheVariants as in_kernel
use Rattle.kernel_tree.specs.Formula.{Formula, Vars, value, bound_value, Lanes}
use Rattle.kernel_tree.specs.Code.{Array, Private, Start, FromZero, FromGlobalId, FromGroupId, FromLocalId, Stride, ByOne, ByGlobalSize, ByGroupCount, ByLocalSize, start_value, stride_value, Code, End, Performs, Assigns, Loads, Stores, Loops, AssignsFour, LoadsFour, StoresFour}
use Rattle.kernel_tree.specs.Launch.{Launch, ids_of}
use Rattle.lift_ir.specs.Types.{Ty, Scalar, PairOf, ArrayOf, IsFour, width, size}
use Rattle.lift_ir.specs.Layouts.{result_position, IsInvertible}
use Rattle.lift_ir.specs.Terms.{LoadSet, Skip, Take, Each, Kind, Over, Sequential, LocalMemory, PrivateMemory, Term, Literal, Bound, Source, Apply, ApplyNumber, Select, Both, Project, Reshape, LetArray, LetElement, Map, Fold, Store, Copy, push, TakeFour, ApplyLanes, DivideLanes}
use Rattle.lift_ir.specs.Scalars.{at_index}
use Rattle.printed_form.specs.Arguments.{private_arrays, marks_in}
use Rattle.printed_form.specs.Counts.{Count, more, held_count, let_variables, load_count, variable_count, private_count}
use Rattle.printed_form.specs.Marks.{Mark, Spot, Marks, AreFourCells, laid_in, held_marks, loaded_marks}
use Rattle.printed_form.specs.Expressions.{Expr, OneWord, FourWords, held, exprs}

-- a dimension, as a kernel has it
abbrev pub dimension_of : Dimension → kernel.Dimension
dimension_of X = in_kernel.X
dimension_of Y = in_kernel.Y

-- where an item's turns of a map of a kind begin
abbrev pub start_of : Kind → Start
start_of (Over level.Launch d) = FromGlobalId (dimension_of d)
start_of (Over level.Groups d) = FromGroupId (dimension_of d)
start_of (Over level.Items d) = FromLocalId (dimension_of d)
start_of Sequential = FromZero

-- and how far they are from one another
abbrev pub stride_of : Kind → Stride
stride_of (Over level.Launch d) = ByGlobalSize (dimension_of d)
stride_of (Over level.Groups d) = ByGroupCount (dimension_of d)
stride_of (Over level.Items d) = ByLocalSize (dimension_of d)
stride_of Sequential = ByOne

-- a turn that an item takes of a loop: from its start on, stride by stride
abbrev pub IsTurn : Launch → (item : ℕ) → Start → Stride → ℕ → Type 0
IsTurn l item s c i =
    (t : ℕ) × (i ≡ start_value (ids_of l item) s + t * stride_value (ids_of l item) c)

-- a turn that it takes of a map of a kind
abbrev pub IsTurnOf : Launch → (item : ℕ) → Kind → ℕ → Type 0
IsTurnOf l item k i = IsTurn l item (start_of k) (stride_of k) i

-- one assignment for each component, each to the next variable
abbrev pub IsAssigned : Ty → (List Bool → Option Expr) → Count → (code rest : Code) → Type 0
IsAssigned Scalar f n code rest =
    (e : Formula) × (f [] ≡ Some (OneWord e)) × (code ≡ Performs (Assigns n.words e) rest)
IsAssigned (PairOf a b) f n code rest =
    (mid : Code) × IsAssigned a (λ cs. f (false ∷ cs)) n code mid
    × IsAssigned b (λ cs. f (true ∷ cs)) (more n (held_count a)) mid rest
IsAssigned (ArrayOf m t) f n code rest =
    IsFour m t × (e : Lanes) × (f [] ≡ Some (FourWords e))
    × (code ≡ Performs (AssignsFour n.fours e) rest)

-- the new accumulator, from variable n on where it goes through temporaries
abbrev pub IsReassigned : Ty → (List Bool → Option Expr) → (acc n : Count) → (code rest : Code)
    → Type 0
IsReassigned Scalar f acc n code rest = IsAssigned Scalar f acc code rest
IsReassigned (PairOf a b) f acc n code rest =
    (mid : Code) × IsAssigned (PairOf a b) f n code mid
    × IsAssigned (PairOf a b) (λ cs. held (held_marks (PairOf a b) n cs)) acc mid rest
IsReassigned (ArrayOf m t) f acc n code rest = IsAssigned (ArrayOf m t) f acc code rest

-- the lets of an element term, from variable n on
abbrev pub IsElementWork : {A : Type 0} → (ℕ → Marks) → Count → Term A → (code rest : Code) → Type 0
IsElementWork env n (Literal c) code rest = code ≡ rest
IsElementWork env n (Bound v) code rest = code ≡ rest
IsElementWork env n (Apply o a b) code rest =
    (mid : Code) × IsElementWork env n a code mid
    × IsElementWork env (more n (let_variables a)) b mid rest
IsElementWork env n (ApplyNumber o m a) code rest = IsElementWork env n a code rest
IsElementWork env n (ApplyLanes o l r a b) code rest =
    (mid : Code) × IsElementWork env n a code mid
    × IsElementWork env (more n (let_variables a)) b mid rest
IsElementWork env n (DivideLanes o m a) code rest = IsElementWork env n a code rest
IsElementWork env n (Select c a b) code rest =
    (mid mid2 : Code) × IsElementWork env n c code mid
    × IsElementWork env (more n (let_variables c)) a mid mid2
    × IsElementWork env (more (more n (let_variables c)) (let_variables a)) b mid2 rest
IsElementWork env n (Both zips a b) code rest =
    (mid : Code) × IsElementWork env n a code mid
    × IsElementWork env (more n (let_variables a)) b mid rest
IsElementWork env n (Project s a) code rest = IsElementWork env n a code rest
IsElementWork env n (LetElement ty v b) code rest =
    (mid mid2 : Code) × IsElementWork env n v code mid
    × IsAssigned ty (exprs env n v) (more n (let_variables v)) mid mid2
    × IsElementWork (push (held_marks ty (more n (let_variables v))) env)
    (more (more n (let_variables v)) (held_count ty)) b mid2 rest
IsElementWork env n _ code rest = ⊥

module _ (l : Launch) (ins : ℕ → Marks) where
  -- a bound's value is this length
  abbrev pub IsLength : Formula → ℕ → Type 0
  IsLength b n = bound_value l.sizes b ≡ Some n

  -- what stands for an argument, whose first private array is this
  abbrev pub argument_marks : {A : Type 0} → (A → ℕ) → (ℕ → Marks) → ℕ → Term A → Marks
  argument_marks num env a t = marks_in private_arrays num ins env a t

-- as this item comes there
module _ (l : Launch) (item : ℕ) (ins : ℕ → Marks) where
  -- an index expression's value, whatever the variables hold
  abbrev pub IsIndex : List ℕ → Formula → ℕ → Type 0
  IsIndex ts i n = (vs : Vars) → value (ids_of l item) ts vs i ≡ Some n

  -- the mark is a cell of this array, whose index is the expression's value
  abbrev pub IsSpot : List ℕ → Mark → Array → Formula → Type 0
  IsSpot ts (Spot a n) b i = (b ≡ a) × IsIndex ts i n
  IsSpot ts _ b i = ⊥

  -- the marks are the four cells at an offset of this array, which is the expression's value
  abbrev pub IsFourSpot : List ℕ → (List ℕ → Mark) → Array → Formula → Type 0
  IsFourSpot ts x a i = (n : ℕ) × AreFourCells x a n × IsIndex ts i n

  -- one store for each component
  abbrev pub IsStored : List ℕ → Ty → (List Bool → Option Expr) → Marks → (code rest : Code)
      → Type 0
  IsStored ts Scalar f w code rest =
      (a : Array) × (i e : Formula) × (f [] ≡ Some (OneWord e)) × IsSpot ts (w [] []) a i
      × (code ≡ Performs (Stores a i e) rest)
  IsStored ts (PairOf a b) f w code rest =
      (mid : Code) × IsStored ts a (λ cs. f (false ∷ cs)) (λ cs. w (false ∷ cs)) code mid
      × IsStored ts b (λ cs. f (true ∷ cs)) (λ cs. w (true ∷ cs)) mid rest
  IsStored ts (ArrayOf m t) f w code rest =
      IsFour m t × (a : Array) × (i : Formula) × (e : Lanes) × (f [] ≡ Some (FourWords e))
      × IsFourSpot ts (w []) a i × (code ≡ Performs (StoresFour a i e) rest)

  -- one load for each of these components, each into the next variable
  abbrev pub IsLoaded : List ℕ → LoadSet → Marks → Count → (code rest : Code) → Type 0
  IsLoaded ts Skip x n code rest = code ≡ rest
  IsLoaded ts Take x n code rest =
      (a : Array) × (i : Formula) × IsSpot ts (x [] []) a i
      × (code ≡ Performs (Loads n.words a i) rest)
  IsLoaded ts TakeFour x n code rest =
      (a : Array) × (i : Formula) × IsFourSpot ts (x []) a i
      × (code ≡ Performs (LoadsFour n.fours a i) rest)
  IsLoaded ts (Each a b) x n code rest =
      (mid : Code) × IsLoaded ts a (λ cs. x (false ∷ cs)) n code mid
      × IsLoaded ts b (λ cs. x (true ∷ cs)) (more n (load_count a)) mid rest

  -- a loop of a kind over n, whose body is printed so at each turn that the item takes
  abbrev pub IsLoop : Kind → ℕ → (ℕ → Code → Type 0) → (code rest : Code) → Type 0
  IsLoop k n B code rest =
      (b : Formula) × (body : Code) × (code ≡ Loops (start_of k) b (stride_of k) body rest)
      × IsLength l ins b n × ((i : ℕ) → i < n → IsTurnOf l item k i → B i body)

  -- a turn of a fold, whose accumulator is held from variable acc on
  abbrev pub IsFoldTurn : {A : Type 0} → List ℕ → (ℕ → Marks) → LoadSet → Ty → Marks → (acc : Count)
      → Term A → Code → Type 0
  IsFoldTurn ts env loads ty x acc b body =
      (mid mid2 : Code) × IsLoaded ts loads x (more acc (held_count ty)) body mid
      × IsElementWork
      (push (loaded_marks loads x (more acc (held_count ty))) (push (held_marks ty acc) env))
      (more (more acc (held_count ty)) (load_count loads)) b mid mid2
      × IsReassigned ty
      (exprs (push (loaded_marks loads x (more acc (held_count ty))) (push (held_marks ty acc) env))
      (more (more acc (held_count ty)) (load_count loads)) b) acc
      (more (more (more acc (held_count ty)) (load_count loads)) (let_variables b)) mid2 End

  abbrev mutual
    -- the work of an argument: its copies to private arrays, from private array a and variable n on
    pub IsArgumentWork : {A : Type 0} → (A → ℕ) → List ℕ → (ℕ → Marks) → (a : ℕ) → (n : Count)
        → Term A → (code rest : Code) → Type 0
    IsArgumentWork num ts env a n (Bound v) code rest = code ≡ rest
    IsArgumentWork num ts env a n (Source s) code rest = code ≡ rest
    IsArgumentWork num ts env a n (Both zips x y) code rest =
        (mid : Code) × IsArgumentWork num ts env a n x code mid
        × IsArgumentWork num ts env (a + private_count x) (more n (variable_count x)) y mid rest
    IsArgumentWork num ts env a n (Project s x) code rest =
        IsArgumentWork num ts env a n x code rest
    IsArgumentWork num ts env a n (Reshape y x) code rest =
        IsArgumentWork num ts env a n x code rest
    IsArgumentWork num ts env a n (LetArray v b) code rest =
        (mid : Code) × IsArgumentWork num ts env a n v code mid
        × IsArgumentWork num ts (push (argument_marks l ins num env a v) env) (a + private_count v)
        (more n (variable_count v)) b mid rest
    IsArgumentWork num ts env a n (Copy PrivateMemory ty x) code rest =
        IsWritten num ts env a n x (laid_in Private (a + private_count x) ty) code rest
    IsArgumentWork num ts env a n _ code rest = ⊥

    -- a term in writing position, which goes to w
    pub IsWritten : {A : Type 0} → (A → ℕ) → List ℕ → (ℕ → Marks) → (a : ℕ) → (n : Count)
        → Term A → Marks → (code rest : Code) → Type 0
    IsWritten num ts env a n (Store ty t) w code rest =
        (mid : Code) × IsElementWork env n t code mid × IsStored ts ty (exprs env n t) w mid rest
    IsWritten num ts env a n (Reshape y t) w code rest =
        IsInvertible y
        × IsWritten num ts env a n t (λ cs q. w cs (result_position num y q)) code rest
    IsWritten num ts env a n (LetArray v b) w code rest =
        (mid : Code) × IsArgumentWork num ts env a n v code mid
        × IsWritten num ts (push (argument_marks l ins num env a v) env) (a + private_count v)
        (more n (variable_count v)) b w mid rest
    IsWritten num ts env a n (LetElement ty v b) w code rest =
        (mid mid2 : Code) × IsElementWork env n v code mid
        × IsAssigned ty (exprs env n v) (more n (let_variables v)) mid mid2
        × IsWritten num ts (push (held_marks ty (more n (let_variables v))) env) a
        (more (more n (let_variables v)) (held_count ty)) b w mid2 rest
    IsWritten num ts env a n (Map Sequential len loads xs b) w code rest =
        (mid : Code) × IsArgumentWork num ts env a n xs code mid
        × IsLoop Sequential (num len)
        (λ i body. (inner : Code)
        × IsLoaded (ts ++ i ∷ []) loads (at_index i (argument_marks l ins num env a xs))
        (more n (variable_count xs)) body inner
        × IsWritten num (ts ++ i ∷ [])
        (push
        (loaded_marks loads (at_index i (argument_marks l ins num env a xs))
        (more n (variable_count xs))) env) (a + private_count xs)
        (more (more n (variable_count xs)) (load_count loads)) b (at_index i w) inner End)
        mid rest
    IsWritten num ts env a n (Fold len loads ty xs s b) w code rest =
        (mid mid2 mid3 mid4 : Code) × IsArgumentWork num ts env a n xs code mid
        × IsElementWork env (more n (variable_count xs)) s mid mid2
        × IsAssigned ty (exprs env (more n (variable_count xs)) s)
        (more (more n (variable_count xs)) (let_variables s)) mid2 mid3
        × IsLoop Sequential (num len)
        (λ i body. IsFoldTurn (ts ++ i ∷ []) env loads ty
        (at_index i (argument_marks l ins num env a xs))
        (more (more n (variable_count xs)) (let_variables s)) b body)
        mid3 mid4
        × IsStored ts ty
        (λ cs. held (held_marks ty (more (more n (variable_count xs)) (let_variables s)) cs))
        (at_index 0 w) mid4 rest
    IsWritten num ts env a n _ w code rest = ⊥

-- the private arrays of a term, the first of which is this, are as long as their values
abbrev pub Declares : {A : Type 0} → (Array → ℕ) → ℕ → Term A → Type 0
Declares long a (Both zips x y) = Declares long a x × Declares long (a + private_count x) y
Declares long a (Project s x) = Declares long a x
Declares long a (Reshape y x) = Declares long a x
Declares long a (LetArray v b) = Declares long a v × Declares long (a + private_count v) b
Declares long a (LetElement ty v b) = Declares long a b
Declares long a (Map k n loads xs b) = Declares long a xs × Declares long (a + private_count xs) b
Declares long a (Fold n loads ty xs s b) = Declares long a xs
Declares long a (Copy PrivateMemory ty x) =
    Declares long a x
    × ((c : ℕ) → c < width ty → long (Private (a + private_count x + c)) ≡ size ty)
Declares long a (Copy LocalMemory ty x) = Declares long a x
Declares long a _ = Unit {0}
