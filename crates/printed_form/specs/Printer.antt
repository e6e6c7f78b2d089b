-- A printer of terms: its code is one for all launches.
use Rattle.std.specs.Prelude.{ℕ, suc, ◌+◌, Bool, true, false, List, [], ◌∷◌, Option, Some, None}
use Rattle.kernel_tree.specs.Formula.{Formula, Number, LoopVariable, Binary, Lanes, Spread}
use Rattle.kernel_tree.specs.Formula as formula
use Rattle.kernel_tree.specs.Code.{Input, Private, Output, Code, End, Performs, Assigns, Loads, Stores, AssignsFour, LoadsFour, StoresFour, Loops}
use Rattle.lift_ir.specs.Types.{Shape, Ty, Scalar, PairOf, ArrayOf, measured}
use Rattle.lift_ir.specs.Terms.{LoadSet, Skip, Take, TakeFour, Each, Sequential, PrivateMemory, Term, Literal, Bound, Apply, ApplyNumber, ApplyLanes, DivideLanes, Select, Both, Project, Reshape, LetArray, LetElement, Map, Fold, Store, Copy, push}
use Rattle.lift_ir.specs.Scalars.{by_side}
use Rattle.printed_form.specs.Arguments.{private_arrays, argument_view}
use Rattle.printed_form.specs.Counts.{Count, more, no_variables, held_count, let_variables, load_count, variable_count, private_count}
use Rattle.printed_form.specs.Marks.{Marks, laid_in}
use Rattle.printed_form.specs.Expressions.{Expr, OneWord, FourWords, of_one, of_both, of_three, in_fours, of_lanes, operation, selection}
use Rattle.printed_form.specs.Form.{start_of, stride_of}
use Rattle.printed_form.specs.Views.{Sign, Blank, Read, View, held_sign, held_view, loaded_view, view_at, rewritten_view, placed_view, laid_view}

-- 0 where there is no expression of a word
abbrev pub or_number : Option Expr → Formula
or_number (Some (OneWord e)) = e
or_number _ = Number 0

-- and 0 in each lane where there is none of four
abbrev pub or_lanes : Option Expr → Lanes
or_lanes (Some (FourWords e)) = e
or_lanes _ = Spread (Number 0)

-- the expressions of an element term
abbrev pub sign_exprs : {A : Type 0} → (ℕ → View) → Count → Term A → List Bool → Option Expr
sign_exprs env n (Literal c) = λ cs. Some (OneWord (Number c))
sign_exprs env n (Bound v) = λ cs. held_sign (env v cs [])
sign_exprs env n (Apply o a b) =
    λ cs. of_both (operation o) (sign_exprs env n a [])
    (sign_exprs env (more n (let_variables a)) b [])
sign_exprs env n (ApplyNumber o m a) =
    λ cs. of_one (λ x. Binary o x (Number m)) (sign_exprs env n a [])
sign_exprs env n (ApplyLanes o l r a b) =
    λ cs. of_lanes (formula.Each o) (in_fours l (sign_exprs env n a []))
    (in_fours r (sign_exprs env (more n (let_variables a)) b []))
sign_exprs env n (DivideLanes o m a) =
    λ cs. of_lanes (formula.Each o) (in_fours true (sign_exprs env n a []))
    (Some (Spread (Number m)))
sign_exprs env n (Select c a b) =
    λ cs. of_three selection (sign_exprs env n c [])
    (sign_exprs env (more n (let_variables c)) a [])
    (sign_exprs env (more (more n (let_variables c)) (let_variables a)) b [])
sign_exprs env n (Both zips a b) =
    by_side None (sign_exprs env n a) (sign_exprs env (more n (let_variables a)) b)
sign_exprs env n (Project s a) = λ cs. sign_exprs env n a (s ∷ cs)
sign_exprs env n (LetElement ty v b) =
    sign_exprs (push (held_view ty (more n (let_variables v))) env)
    (more (more n (let_variables v)) (held_count ty)) b
sign_exprs env n _ = λ cs. None

-- one assignment for each component, each to the next variable
abbrev pub print_assigned : Ty → (List Bool → Option Expr) → Count → (rest : Code) → Code
print_assigned Scalar f n rest = Performs (Assigns n.words (or_number (f []))) rest
print_assigned (PairOf a b) f n rest =
    print_assigned a (λ cs. f (false ∷ cs)) n
    (print_assigned b (λ cs. f (true ∷ cs)) (more n (held_count a)) rest)
print_assigned (ArrayOf m t) f n rest = Performs (AssignsFour n.fours (or_lanes (f []))) rest

-- the new accumulator, from variable n on where it goes through temporaries
abbrev pub print_reassigned : Ty → (List Bool → Option Expr) → (acc n : Count) → (rest : Code)
    → Code
print_reassigned Scalar f acc n rest = print_assigned Scalar f acc rest
print_reassigned (PairOf a b) f acc n rest =
    print_assigned (PairOf a b) f n
    (print_assigned (PairOf a b) (λ cs. held_sign (held_view (PairOf a b) n cs [])) acc rest)
print_reassigned (ArrayOf m t) f acc n rest = print_assigned (ArrayOf m t) f acc rest

-- the lets of an element term, from variable n on
abbrev pub print_element : {A : Type 0} → (ℕ → View) → Count → Term A → (rest : Code) → Code
print_element env n (Apply o a b) rest =
    print_element env n a (print_element env (more n (let_variables a)) b rest)
print_element env n (ApplyNumber o m a) rest = print_element env n a rest
print_element env n (ApplyLanes o l r a b) rest =
    print_element env n a (print_element env (more n (let_variables a)) b rest)
print_element env n (DivideLanes o m a) rest = print_element env n a rest
print_element env n (Select c a b) rest =
    print_element env n c
    (print_element env (more n (let_variables c)) a
    (print_element env (more (more n (let_variables c)) (let_variables a)) b rest))
print_element env n (Both zips a b) rest =
    print_element env n a (print_element env (more n (let_variables a)) b rest)
print_element env n (Project s a) rest = print_element env n a rest
print_element env n (LetElement ty v b) rest =
    print_element env n v
    (print_assigned ty (sign_exprs env n v) (more n (let_variables v))
    (print_element (push (held_view ty (more n (let_variables v))) env)
    (more (more n (let_variables v)) (held_count ty)) b rest))
print_element env n _ rest = rest

-- a store, where an array holds the scalar
abbrev pub print_store : Sign → Formula → (rest : Code) → Code
print_store (Read a i) e rest = Performs (Stores a i e) rest
print_store _ e rest = rest

-- and of four, by their offset
abbrev pub print_store_four : Sign → Lanes → (rest : Code) → Code
print_store_four (Read a i) e rest = Performs (StoresFour a i e) rest
print_store_four _ e rest = rest

-- a load to this variable, where an array holds the scalar
abbrev pub print_load : Sign → ℕ → (rest : Code) → Code
print_load (Read a i) n rest = Performs (Loads n a i) rest
print_load _ n rest = rest

-- and of four, by their offset
abbrev pub print_load_four : Sign → ℕ → (rest : Code) → Code
print_load_four (Read a i) n rest = Performs (LoadsFour n a i) rest
print_load_four _ n rest = rest

-- one store for each component
abbrev pub print_stored : Ty → (List Bool → Option Expr) → View → (rest : Code) → Code
print_stored Scalar f w rest = print_store (w [] []) (or_number (f [])) rest
print_stored (PairOf a b) f w rest =
    print_stored a (λ cs. f (false ∷ cs)) (λ cs. w (false ∷ cs))
    (print_stored b (λ cs. f (true ∷ cs)) (λ cs. w (true ∷ cs)) rest)
print_stored (ArrayOf m t) f w rest = print_store_four (w [] []) (or_lanes (f [])) rest

-- one load for each of these components, each to the next variable
abbrev pub print_loaded : LoadSet → View → Count → (rest : Code) → Code
print_loaded Skip x n rest = rest
print_loaded Take x n rest = print_load (x [] []) n.words rest
print_loaded TakeFour x n rest = print_load_four (x [] []) n.fours rest
print_loaded (Each a b) x n rest =
    print_loaded a (λ cs. x (false ∷ cs)) n
    (print_loaded b (λ cs. x (true ∷ cs)) (more n (load_count a)) rest)

-- a turn of a fold: its element is loaded, and goes into the accumulator
abbrev pub print_fold_turn : {A : Type 0} → (ℕ → View) → LoadSet → Ty → View → (acc : Count)
    → Term A → Code
print_fold_turn env loads ty x acc b =
    print_loaded loads x (more acc (held_count ty))
    (print_element
    (push (loaded_view loads x (more acc (held_count ty))) (push (held_view ty acc) env))
    (more (more acc (held_count ty)) (load_count loads)) b
    (print_reassigned ty
    (sign_exprs
    (push (loaded_view loads x (more acc (held_count ty))) (push (held_view ty acc) env))
    (more (more acc (held_count ty)) (load_count loads)) b) acc
    (more (more (more acc (held_count ty)) (load_count loads)) (let_variables b)) End))

-- lengths are spelled so, and the inputs stand so
module _ {A : Type 0} (spell : A → Formula) (ins : ℕ → View) where
  abbrev mutual
    -- the copies of an argument, from these private arrays and variables on, within so many loops
    pub print_argument : (depth : ℕ) → (ℕ → View) → (a : ℕ) → (n : Count) → Term A → (rest : Code)
        → Code
    print_argument depth env a n (Both zips x y) rest =
        print_argument depth env a n x
        (print_argument depth env (a + private_count x) (more n (variable_count x)) y rest)
    print_argument depth env a n (Project s x) rest = print_argument depth env a n x rest
    print_argument depth env a n (Reshape y x) rest = print_argument depth env a n x rest
    print_argument depth env a n (LetArray v b) rest =
        print_argument depth env a n v
        (print_argument depth (push (argument_view private_arrays spell ins env a v) env)
        (a + private_count v) (more n (variable_count v)) b rest)
    print_argument depth env a n (Copy PrivateMemory ty x) rest =
        print_written depth env a n x (laid_view Private (a + private_count x) ty) rest
    print_argument depth env a n _ rest = rest

    -- a term in writing position, which goes to w, within so many loops
    pub print_written : (depth : ℕ) → (ℕ → View) → (a : ℕ) → (n : Count) → Term A → View
        → (rest : Code) → Code
    print_written depth env a n (Store ty t) w rest =
        print_element env n t (print_stored ty (sign_exprs env n t) w rest)
    print_written depth env a n (Reshape y t) w rest =
        print_written depth env a n t (rewritten_view spell y w) rest
    print_written depth env a n (LetArray v b) w rest =
        print_argument depth env a n v
        (print_written depth (push (argument_view private_arrays spell ins env a v) env)
        (a + private_count v) (more n (variable_count v)) b w rest)
    print_written depth env a n (LetElement ty v b) w rest =
        print_element env n v
        (print_assigned ty (sign_exprs env n v) (more n (let_variables v))
        (print_written depth (push (held_view ty (more n (let_variables v))) env) a
        (more (more n (let_variables v)) (held_count ty)) b w rest))
    print_written depth env a n (Map k len loads xs b) w rest =
        print_argument depth env a n xs
        (Loops (start_of k) (spell len) (stride_of k)
        (print_loaded loads
        (view_at (LoopVariable depth) (argument_view private_arrays spell ins env a xs))
        (more n (variable_count xs))
        (print_written (suc depth)
        (push
        (loaded_view loads
        (view_at (LoopVariable depth) (argument_view private_arrays spell ins env a xs))
        (more n (variable_count xs))) env) (a + private_count xs)
        (more (more n (variable_count xs)) (load_count loads)) b (view_at (LoopVariable depth) w)
        End))
        rest)
    print_written depth env a n (Fold len loads ty xs s b) w rest =
        print_argument depth env a n xs
        (print_element env (more n (variable_count xs)) s
        (print_assigned ty (sign_exprs env (more n (variable_count xs)) s)
        (more (more n (variable_count xs)) (let_variables s))
        (Loops (start_of Sequential) (spell len) (stride_of Sequential)
        (print_fold_turn env loads ty
        (view_at (LoopVariable depth) (argument_view private_arrays spell ins env a xs))
        (more (more n (variable_count xs)) (let_variables s)) b)
        (print_stored ty
        (λ cs. held_sign (held_view ty (more (more n (variable_count xs)) (let_variables s)) cs []))
        (view_at (Number 0) w) rest))))
    print_written depth env a n _ w rest = rest

-- nothing stands for any binder
abbrev pub no_view : ℕ → View
no_view v = λ cs is. Blank

-- what stands for each input, whose first array has a given number
abbrev pub input_views : {A : Type 0} → (A → Formula) → (first : ℕ → ℕ) → (ℕ → Shape A) → ℕ → View
input_views spell first src v = placed_view spell Input (first v) (src v)

-- and where its scalars lie, by lengths that are numbers
abbrev pub input_marks : {A : Type 0} → (A → ℕ) → (first : ℕ → ℕ) → (ℕ → Shape A) → ℕ → Marks
input_marks num first src v = laid_in Input (first v) (measured num (src v))

-- the code of a term that one work-item runs, or all of the launch, where input v's arrays begin
-- with the number `first v`. It is the same at all launches
abbrev pub kernel_code : {A : Type 0} → (A → Formula) → (first : ℕ → ℕ) → (ℕ → Shape A) → Term A
    → Shape A → Code
kernel_code spell first src t ty =
    print_written spell (input_views spell first src) 0 no_view 0 no_variables t
    (placed_view spell Output 0 ty) End
