-- The types of all nodes of a term.
use Rattle.std.specs.Prelude.{◌≡◌, ◌<◌, ◌^◌, List, [], ◌∷◌, Some, slice_get}
use Rattle.size_arith.specs.declared.poly.Monomial.{Monomial}
use Rattle.lift_tree.specs.declared.typed.NodeTypes as held
use Rattle.lift_tree.specs.declared.typed.NodeTypes.{NodeTypes}
use Rattle.lift_tree.specs.declared.typed.Typed.{Typed}
use Rattle.lift_tree.specs.Tree.{Tree, Variable, Number, Input, Unary, Binary, Select, Let, Map, Fold, tree_of}
use Rattle.lift_tree.specs.Types.{PlainTy, U32, ArrayOf, IsElement, IsOutput, ty_of}
use Rattle.lift_tree.specs.Typing.{Declared, UnaryRow, BinaryRow, Types, constant, declared_by, IsDeclared}
use Rattle.lift_tree.specs.Programs.{program_of}

-- a node's type, and those below it
pub data Annotation : Type 0 where
  Leaf : PlainTy → Annotation
  One : PlainTy → Annotation → Annotation
  Two : PlainTy → Annotation → Annotation → Annotation
  Three : PlainTy → Annotation → Annotation → Annotation → Annotation

-- the types of all nodes that lie in memory
abbrev pub annotation_of : NodeTypes → Annotation
annotation_of (held.Leaf a) = Leaf (ty_of a)
annotation_of (held.One' a p n) = One (ty_of a) (annotation_of n)
annotation_of (held.Two' a p n q m) = Two (ty_of a) (annotation_of n) (annotation_of m)
annotation_of (held.Three' a p n q m r k) =
    Three (ty_of a) (annotation_of n) (annotation_of m) (annotation_of k)

-- the node's own type
abbrev pub type_in : Annotation → PlainTy
type_in (Leaf a) = a
type_in (One a n) = a
type_in (Two a n m) = a
type_in (Three a n m k) = a

-- each node has the type that stands for it
abbrev pub Annotates : Declared → List PlainTy → Tree → Annotation → Type 0
Annotates d g (Variable n) (Leaf a) = slice_get g n ≡ Some a
Annotates d g (Number n) (Leaf a) = (n < 2 ^ 32) × (a ≡ U32)
Annotates d g (Input n) (Leaf a) = slice_get d.inputs n ≡ Some a
Annotates d g (Unary f t) (One a n) = Annotates d g t n × UnaryRow d.names f (type_in n) a
Annotates d g (Binary f t u) (Two a n m) =
    Annotates d g t n × Annotates d g u m × BinaryRow f (type_in n) (type_in m) a
Annotates d g (Select t u v) (Three a n m k) =
    Annotates d g t n × Annotates d g u m × Annotates d g v k × (type_in n ≡ U32)
    × (type_in m ≡ U32) × (type_in k ≡ U32) × (a ≡ U32)
Annotates d g (Let v b) (Two a n m) =
    Annotates d g v n × Annotates d (type_in n ∷ g) b m × (a ≡ type_in m)
Annotates d g (Map h xs b) (Two a n m) =
    (x : PlainTy) × (l : List Monomial) × Annotates d g xs n × (type_in n ≡ ArrayOf x l)
    × Annotates d (x ∷ g) b m × (a ≡ ArrayOf (type_in m) l)
Annotates d g (Fold h xs s b) (Three a n m k) =
    (x : PlainTy) × (l : List Monomial) × Annotates d g xs n × (type_in n ≡ ArrayOf x l)
    × Annotates d g s m × IsElement (type_in m)
    × Annotates d (x ∷ type_in m ∷ g) b k × (type_in k ≡ type_in m)
    × (a ≡ ArrayOf (type_in m) (constant 1))
Annotates d g _ _ = ⊥

-- a typed term of a program: the sizes and inputs are proper, each node has its
-- type, and the whole an output's
pub record IsTyped (t : Typed) : Type 0 where
  pub declared : IsDeclared (declared_by (program_of t.program))
  pub nodes : Annotates (declared_by (program_of t.program)) [] (tree_of t.term)
      (annotation_of t.types)
  pub output : IsOutput (type_in (annotation_of t.types))

-- where each node has its type, the term has the root's
abbrev pub AnnotatedIsTyped : Type 0
AnnotatedIsTyped =
    (d : Declared) (g : List PlainTy) (t : Tree) (n : Annotation) → Annotates d g t n
    → Types d g t (type_in n)
