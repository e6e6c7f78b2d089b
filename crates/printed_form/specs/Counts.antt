-- What a term needs: private variables, in the order of their first assignment, and arrays, in
-- postorder.
use Rattle.std.specs.Prelude.{ℕ, ◌+◌, ◌≤◌, List, [], ◌++◌, replicate}
use Rattle.lift_ir.specs.Types.{Ty, Scalar, PairOf, ArrayOf, width, size}
use Rattle.lift_ir.specs.Terms.{LoadSet, Skip, Take, TakeFour, Each, Space, LocalMemory, PrivateMemory, Term, Apply, ApplyNumber, ApplyLanes, DivideLanes, Select, Both, Project, Reshape, LetArray, LetElement, Map, Fold, Store, Copy}

-- how many private variables of a word, and of four
pub record Count : Type 0 where
  pub words : ℕ
  pub fours : ℕ

-- no more of both kinds
pub record AtMost (n m : Count) : Type 0 where
  pub words : n.words ≤ m.words
  pub fours : n.fours ≤ m.fours

-- so many, and so many more
abbrev pub more : Count → Count → Count
more n m = record { words = n.words + m.words; fours = n.fours + m.fours }

abbrev pub no_variables : Count
no_variables = record { words = 0; fours = 0 }

abbrev pub one_word : Count
one_word = record { words = 1; fours = 0 }

abbrev pub one_four : Count
one_four = record { words = 0; fours = 1 }

-- how many hold an element of this type: an array among elements is a vector
abbrev pub held_count : Ty → Count
held_count Scalar = one_word
held_count (PairOf a b) = more (held_count a) (held_count b)
held_count (ArrayOf n t) = one_four

-- how many private variables are first assigned in an element term
abbrev pub let_variables : {A : Type 0} → Term A → Count
let_variables (Apply o a b) = more (let_variables a) (let_variables b)
let_variables (ApplyNumber o n a) = let_variables a
let_variables (ApplyLanes o l r a b) = more (let_variables a) (let_variables b)
let_variables (DivideLanes o n a) = let_variables a
let_variables (Select c a b) = more (let_variables c) (more (let_variables a) (let_variables b))
let_variables (Both zips a b) = more (let_variables a) (let_variables b)
let_variables (Project s a) = let_variables a
let_variables (LetElement ty v b) =
    more (let_variables v) (more (held_count ty) (let_variables b))
let_variables _ = no_variables

-- how many variables the scalars and vectors of a bound element are loaded into
abbrev pub load_count : LoadSet → Count
load_count Skip = no_variables
load_count Take = one_word
load_count TakeFour = one_four
load_count (Each a b) = more (load_count a) (load_count b)

-- how many temporaries the new accumulator goes through
abbrev pub temporaries : Ty → Count
temporaries (PairOf a b) = more (held_count a) (held_count b)
temporaries _ = no_variables

-- how many private variables a term in writing position, or an argument, has
abbrev pub variable_count : {A : Type 0} → Term A → Count
variable_count (Both zips a b) = more (variable_count a) (variable_count b)
variable_count (Project s a) = variable_count a
variable_count (Reshape l a) = variable_count a
variable_count (LetArray v b) = more (variable_count v) (variable_count b)
variable_count (LetElement ty v b) =
    more (let_variables v) (more (held_count ty) (variable_count b))
variable_count (Map k n loads xs b) =
    more (variable_count xs) (more (load_count loads) (variable_count b))
variable_count (Fold n loads ty xs s b) =
    more (variable_count xs)
    (more (let_variables s)
    (more (held_count ty) (more (load_count loads) (more (let_variables b) (temporaries ty)))))
variable_count (Store ty a) = let_variables a
variable_count (Copy space ty a) = variable_count a
variable_count _ = no_variables

-- how many private arrays a term has
abbrev pub private_count : {A : Type 0} → Term A → ℕ
private_count (Both zips a b) = private_count a + private_count b
private_count (Project s a) = private_count a
private_count (Reshape l a) = private_count a
private_count (LetArray v b) = private_count v + private_count b
private_count (LetElement ty v b) = private_count b
private_count (Map k n loads xs b) = private_count xs + private_count b
private_count (Fold n loads ty xs s b) = private_count xs
private_count (Copy PrivateMemory ty a) = private_count a + width ty
private_count (Copy LocalMemory ty a) = private_count a
private_count _ = 0

-- how many local arrays a term outside the maps of a group's items has, where all copies are local
abbrev pub local_count : {A : Type 0} → Term A → ℕ
local_count (Both zips a b) = local_count a + local_count b
local_count (Project s a) = local_count a
local_count (Reshape l a) = local_count a
local_count (LetArray v b) = local_count v + local_count b
local_count (Map k n loads xs b) = local_count xs
local_count (Copy space ty a) = local_count a + width ty
local_count _ = 0

-- the arrays of a copy, where these are asked for
abbrev pub copied : (asked space : Space) → Ty → List ℕ
copied LocalMemory LocalMemory ty = replicate (width ty) (size ty)
copied PrivateMemory PrivateMemory ty = replicate (width ty) (size ty)
copied _ _ ty = []

-- the lengths of a term's local or private arrays, in postorder of its copies, by component
abbrev pub copy_lengths : {A : Type 0} → Space → Term A → List ℕ
copy_lengths s (Both zips a b) = copy_lengths s a ++ copy_lengths s b
copy_lengths s (Project second a) = copy_lengths s a
copy_lengths s (Reshape l a) = copy_lengths s a
copy_lengths s (LetArray v b) = copy_lengths s v ++ copy_lengths s b
copy_lengths s (LetElement ty v b) = copy_lengths s b
copy_lengths s (Map k n loads xs b) = copy_lengths s xs ++ copy_lengths s b
copy_lengths s (Fold n loads ty xs start b) = copy_lengths s xs
copy_lengths s (Copy space ty a) = copy_lengths s a ++ copied s space ty
copy_lengths s _ = []
