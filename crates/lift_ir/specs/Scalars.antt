-- Values by position: the scalar at each pair choice and index, of terms,
-- and of values on nested lists.
use Rattle.std.specs.Prelude.{◌≡◌, ℕ, zero, suc, ◌<◌, Bool, true, false, List, [], ◌∷◌, length, map, get_or, slice_index}
use Rattle.scalar_ops.specs.Operators.{apply_op, choose}
use Rattle.kernel_tree.specs.Device.{row}
use Rattle.lift_tree.specs.Values.{Value, Word, array, list_of, members, word, first, second}
use Rattle.lift_tree.specs.Values as value
use Rattle.lift_ir.specs.Types.{Ty, Scalar, PairOf, ArrayOf, IsPosition, choices_of, component, flat}
use Rattle.lift_ir.specs.Layouts.{operand_position}
use Rattle.lift_ir.specs.Terms.{Term, Literal, Bound, Source, Apply, ApplyNumber, ApplyLanes, DivideLanes, Select, Both, Project, Reshape, LetArray, LetElement, Map, Fold, Store, Copy, push}

-- a value: its scalars, by pair choices and indices
abbrev pub Scalars : Type 0
Scalars = List Bool → List ℕ → ℕ

-- whatever stands at pair choices, by the first of these
abbrev pub by_side : {A : Type 0} → A → (List Bool → A) → (List Bool → A) → List Bool → A
by_side none f g [] = none
by_side none f g (false ∷ cs) = f cs
by_side none f g (true ∷ cs) = g cs

-- the element at i of whatever is by position
abbrev pub at_index : {A : Type 0} → ℕ → (List Bool → List ℕ → A) → List Bool → List ℕ → A
at_index i x = λ cs q. x cs (i ∷ q)

-- the scalars of a map, a function of its element
abbrev pub mapped : (Scalars → Scalars) → Scalars → Scalars
mapped f x cs [] = 0
mapped f x cs (i ∷ p) = f (at_index i x) cs p

-- the accumulator after so many turns
abbrev pub folded : (ℕ → Scalars → Scalars) → Scalars → ℕ → Scalars
folded f s zero = s
folded f s (suc t) = f t (folded f s t)

-- an array of one element
abbrev pub single : Scalars → Scalars
single x cs [] = 0
single x cs (i ∷ q) = x cs q

-- where a lane's scalar of an operand is: a number has one for all lanes
abbrev pub in_lane : (vector : Bool) → List ℕ → List ℕ
in_lane true p = p
in_lane false p = []

-- a term's scalars at a launch, where the inputs and the binders have these
abbrev pub scalars_of : {A : Type 0} → (A → ℕ) → (ℕ → Scalars) → (ℕ → Scalars) → Term A → Scalars
scalars_of num ins env (Literal n) = λ cs p. n
scalars_of num ins env (Bound v) = env v
scalars_of num ins env (Source a) = ins a
scalars_of num ins env (Apply o a b) =
    λ cs p. apply_op o (scalars_of num ins env a [] []) (scalars_of num ins env b [] [])
scalars_of num ins env (ApplyNumber o n a) = λ cs p. apply_op o (scalars_of num ins env a [] []) n
scalars_of num ins env (ApplyLanes o l r a b) =
    λ cs p. apply_op o (scalars_of num ins env a [] (in_lane l p))
    (scalars_of num ins env b [] (in_lane r p))
scalars_of num ins env (DivideLanes o n a) = λ cs p. apply_op o (scalars_of num ins env a [] p) n
scalars_of num ins env (Select c a b) =
    λ cs p. choose (scalars_of num ins env c [] []) (scalars_of num ins env a [] [])
    (scalars_of num ins env b [] [])
scalars_of num ins env (Both zips a b) =
    by_side (λ p. 0) (scalars_of num ins env a) (scalars_of num ins env b)
scalars_of num ins env (Project s a) = λ cs p. scalars_of num ins env a (s ∷ cs) p
scalars_of num ins env (Reshape l a) =
    λ cs p. scalars_of num ins env a cs (operand_position num l p)
scalars_of num ins env (LetArray v b) = scalars_of num ins (push (scalars_of num ins env v) env) b
scalars_of num ins env (LetElement ty v b) =
    scalars_of num ins (push (scalars_of num ins env v) env) b
scalars_of num ins env (Map k n loads xs b) =
    mapped (λ x. scalars_of num ins (push x env) b) (scalars_of num ins env xs)
scalars_of num ins env (Fold n loads ty xs s b) =
    single
    (folded
    (λ t acc. scalars_of num ins
    (push (at_index t (scalars_of num ins env xs)) (push acc env)) b)
    (scalars_of num ins env s) (num n))
scalars_of num ins env (Store ty a) = scalars_of num ins env a
scalars_of num ins env (Copy space ty a) = scalars_of num ins env a

-- no binder is in scope
abbrev pub no_scalars : ℕ → Scalars
no_scalars v = λ cs q. 0

-- a value on nested lists is of this type, and has these scalars
abbrev pub HasScalars : Ty → Value → Scalars → Type 0
HasScalars Scalar v s = v ≡ Word (s [] [])
HasScalars (PairOf a b) v s =
    (x y : Value) × (v ≡ value.Both x y) × HasScalars a x (λ cs. s (false ∷ cs))
    × HasScalars b y (λ cs. s (true ∷ cs))
HasScalars (ArrayOf n t) v s =
    (xs : List Value) × (v ≡ array xs) × (length xs ≡ n)
    × ((i : ℕ) → i < n → HasScalars t (get_or xs i (Word 0)) (at_index i s))

-- an array of these elements
abbrev pub array_of : (ℕ → Scalars) → Scalars
array_of f cs [] = 0
array_of f cs (i ∷ q) = f i cs q

-- the scalars of a value of this type on nested lists; 0 elsewhere
abbrev pub scalars_in : Ty → Value → Scalars
scalars_in Scalar v = λ cs q. word v
scalars_in (PairOf a b) v = by_side (λ q. 0) (scalars_in a (first v)) (scalars_in b (second v))
scalars_in (ArrayOf n t) v = array_of (λ i. scalars_in t (get_or (members v) i (Word 0)))

-- the side of a pair that is chosen
abbrev pub side_of : Bool → value.Side
side_of false = value.Left
side_of true = value.Right

-- the lists of a value, one for each component
abbrev pub lists_of : Ty → Value → List (List ℕ)
lists_of ty v = map (λ cs. list_of v (map side_of cs)) (choices_of ty)

-- the lists hold the value, one for each component
abbrev pub AreLists : Ty → Scalars → List (List ℕ) → Type 0
AreLists ty s lists =
    (a i : ℕ) → i < length (row lists a)
    → (cs : List Bool) × (q : List ℕ) × IsPosition ty cs q × (component ty cs ≡ a) × (flat ty q ≡ i)
    × (slice_index (row lists a) i ≡ s cs q)
