-- What stands around a term: the sizes' names, the types of the binders,
-- and the types of its own nodes.
use Rattle.std.specs.Prelude.{ℕ, zero, suc, ◌≡◌, List, [], ◌∷◌, Option, Some, None, option_map, option_and_then, map}
use Rattle.size_arith.specs.declared.names.Name.{Name}
use Rattle.lift_tree.specs.declared.typed.Context.{Context}
use Rattle.lift_tree.specs.Lists.{Every}
use Rattle.lift_tree.specs.Tree.{Tree, Let, Map, Fold}
use Rattle.lift_tree.specs.Types.{PlainTy, U32, U32x4, PairOf, ArrayOf, IsFormed, ty_of}
use Rattle.lift_tree.specs.Typing.{Declared, IsDeclared}
use Rattle.lift_tree.specs.Annotations.{Annotation, One, Two, Three, annotation_of, type_in, Annotates}
use Rattle.lift_tree.specs.Places.{child_at}

-- the sizes' names, the binders' types and the nodes' types
pub record Around : Type 0 where
  pub names : List Name
  -- the nearest first
  pub binders : List PlainTy
  -- of the node, and of all nodes below it
  pub types : Annotation

-- what a context in memory says of them
abbrev pub context_of : Context → Around
context_of c =
    record { names = c.names; binders = map ty_of c.binders.items; types = annotation_of c.types }

-- this stands around the term, in a program with these sizes and inputs
pub record IsAround (d : Declared) (a : Around) (t : Tree) : Type 0 where
  pub declared : IsDeclared d
  pub names : a.names ≡ d.names
  pub binders : Every (IsFormed d.names) a.binders
  pub nodes : Annotates d a.binders t a.types

-- the term is typed, and this stands around it
abbrev pub IsTypedIn : Around → Tree → Type 0
IsTypedIn a t = (d : Declared) × IsAround d a t

-- ---- what stands around the nodes below
abbrev pub element_of : PlainTy → PlainTy
element_of U32 = U32
element_of U32x4 = U32
element_of (PairOf a b) = U32
element_of (ArrayOf a n) = a

-- the types of a child and of all nodes below it
abbrev pub child_types : Annotation → ℕ → Option Annotation
child_types (One a n) zero = Some n
child_types (Two a n m) zero = Some n
child_types (Two a n m) (suc zero) = Some m
child_types (Three a n m k) zero = Some n
child_types (Three a n m k) (suc zero) = Some m
child_types (Three a n m k) (suc (suc zero)) = Some k
child_types n i = None

-- the types of the binders around a child: a let's body has the value's, a map's the element's, a
-- fold's the element's and the start's
abbrev pub child_binders : Tree → ℕ → Annotation → List PlainTy → List PlainTy
child_binders (Let v b) (suc zero) (Two a n m) g = type_in n ∷ g
child_binders (Map h xs b) (suc zero) (Two a n m) g = element_of (type_in n) ∷ g
child_binders (Fold h xs s b) (suc (suc zero)) (Three a n m k) g =
    element_of (type_in n) ∷ type_in m ∷ g
child_binders t i n g = g

-- what stands around a child
abbrev pub around_child : Around → Tree → ℕ → Option Around
around_child a t i =
    option_map
    (λ n. record { names = a.names; binders = child_binders t i a.types a.binders; types = n })
    (child_types a.types i)

-- what stands around the node at a place; none where there is no such place
abbrev pub around_at : Around → Tree → List ℕ → Option Around
around_at a t [] = Some a
around_at a t (i ∷ is) =
    option_and_then (λ c. option_and_then (λ b. around_at b c is) (around_child a t i))
    (child_at t i)
