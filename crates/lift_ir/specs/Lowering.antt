-- From typed terms of the source to terms whose lengths are polynomials.
use Rattle.std.specs.Prelude.{ℕ, suc, Bool, true, false, List, [], ◌∷◌, if◌then◌else◌, nat_eq}
use Rattle.scalar_ops.specs.declared.op.Op.{Op}
use Rattle.scalar_ops.specs.declared.op.Op.TheVariants.{Div, Rem}
use Rattle.size_arith.specs.declared.names.Name.{Name}
use Rattle.size_arith.specs.declared.poly.Monomial.{Monomial}
use Rattle.size_arith.specs.Polynomial.{of_monomial, quotient}
use Rattle.lift_tree.specs.declared.layout.Layout.TheVariants as layout
use Rattle.lift_tree.specs.declared.length.Factor.{Factor}
use Rattle.lift_tree.specs.declared.term.UnaryForm.{UnaryForm}
use Rattle.lift_tree.specs.declared.term.UnaryForm.TheVariants as unary
use Rattle.lift_tree.specs.declared.term.BinaryForm.{BinaryForm}
use Rattle.lift_tree.specs.declared.term.BinaryForm.TheVariants as binary
use Rattle.lift_tree.specs.declared.term.MapKind.{MapKind}
use Rattle.lift_tree.specs.declared.term.MapKind.TheVariants as map_kind
use Rattle.lift_tree.specs.Tree as tree
use Rattle.lift_tree.specs.Tree.{Tree}
use Rattle.lift_tree.specs.Types as types
use Rattle.lift_tree.specs.Types.{PlainTy}
use Rattle.lift_tree.specs.Meaning.{scalar_op}
use Rattle.lift_tree.specs.WorkedOut.{product_of}
use Rattle.lift_tree.specs.Annotations.{Annotation, One, Two, Three, type_in}
use Rattle.lift_ir.specs.Types.{Ty, Scalar, PairOf, four}
use Rattle.lift_ir.specs.Layouts.{Split, Join, Transpose}
use Rattle.lift_ir.specs.Terms.{LoadSet, Skip, Take, TakeFour, Each, Kind, Over, Sequential, LocalMemory, PrivateMemory, Term, Literal, Bound, Source, Apply, ApplyNumber, ApplyLanes, DivideLanes, Select, Both, Project, Reshape, LetArray, LetElement, Map, Fold, Store, Copy}
use Rattle.lift_ir.specs.AtLaunch.{ty_at, outer_of, layout_of}

-- what a term stands for where it is: it is written, it is an argument, or an element is worked out
pub data Place : Type 0 where
  Written Argument Element : Place

-- an element type has no lengths
abbrev pub element_ty : PlainTy → Ty
element_ty types.U32 = Scalar
element_ty types.U32x4 = four
element_ty (types.PairOf a b) = PairOf (element_ty a) (element_ty b)
element_ty (types.ArrayOf a n) = Scalar

-- numbers, vectors, and pairs of these
abbrev pub is_element : PlainTy → Bool
is_element types.U32 = true
is_element types.U32x4 = true
is_element (types.PairOf a b) = if is_element a then is_element b else false
is_element (types.ArrayOf a n) = false

-- a term whose lengths are polynomials
abbrev pub Lowered : Type 0
Lowered = Term (List Monomial)

-- an element term of this type: in writing position it is stored
abbrev pub placed : Place → PlainTy → Lowered → Lowered
placed Written a t = Store (element_ty a) t
placed Argument a t = t
placed Element a t = t

-- how a map is run; a plain one as a sequential one
abbrev pub kind_of : MapKind → Kind
kind_of map_kind.Plain = Sequential
kind_of (map_kind.Over l d) = Over l d
kind_of map_kind.Sequential = Sequential

-- all scalars of an element of this type
abbrev pub all_scalars : PlainTy → LoadSet
all_scalars types.U32 = Take
all_scalars types.U32x4 = TakeFour
all_scalars (types.PairOf a b) = Each (all_scalars a) (all_scalars b)
all_scalars (types.ArrayOf a n) = Skip

-- the scalars of an element of this type below these pair choices
abbrev pub reached : PlainTy → List Bool → LoadSet
reached a [] = all_scalars a
reached (types.PairOf a b) (false ∷ p) = Each (reached a p) Skip
reached (types.PairOf a b) (true ∷ p) = Each Skip (reached b p)
reached _ (c ∷ p) = Skip

-- what one of two sets has
abbrev pub merged : LoadSet → LoadSet → LoadSet
merged Skip y = y
merged Take y = Take
merged TakeFour y = TakeFour
merged (Each a b) Skip = Each a b
merged (Each a b) Take = Take
merged (Each a b) TakeFour = TakeFour
merged (Each a b) (Each c d) = Each (merged a c) (merged b d)

-- what a term, below this chain of first and second, names of the binder v of this type
abbrev pub named : ℕ → PlainTy → List Bool → Tree → LoadSet
named v a p (tree.Variable u) = if nat_eq u v then reached a p else Skip
named v a p (tree.Number n) = Skip
named v a p (tree.Input n) = Skip
named v a p (tree.Unary unary.First t) = named v a (false ∷ p) t
named v a p (tree.Unary unary.Second t) = named v a (true ∷ p) t
named v a p (tree.Unary f t) = named v a [] t
named v a p (tree.Binary f t u) = merged (named v a [] t) (named v a [] u)
named v a p (tree.Select t u w) = merged (named v a [] t) (merged (named v a [] u) (named v a [] w))
named v a p (tree.Let x b) = merged (named v a [] x) (named (suc v) a [] b)
named v a p (tree.Map k xs b) = merged (named v a [] xs) (named (suc v) a [] b)
named v a p (tree.Fold k xs s b) =
    merged (named v a [] xs) (merged (named v a [] s) (named (suc (suc v)) a [] b))

-- the type of an array's elements
abbrev pub element_of : PlainTy → PlainTy
element_of (types.ArrayOf a n) = a
element_of a = a

-- where the operand of a form stands, if the form stands here
abbrev pub operand_place : UnaryForm → Place → Place
operand_place (unary.Div n) p = Element
operand_place (unary.Rem n) p = Element
operand_place unary.First Written = Element
operand_place unary.Second Written = Element
operand_place unary.ToPrivate p = Written
operand_place unary.ToLocal p = Written
operand_place unary.First Argument = Argument
operand_place unary.First Element = Element
operand_place unary.Second Argument = Argument
operand_place unary.Second Element = Element
operand_place (unary.Layout l) p = p
operand_place (unary.Slide s t) p = p
operand_place (unary.Pad l r) p = p
operand_place unary.Then p = p

-- a stride by the factors' product of an array of type b: the rows of that many elements,
-- transposed and one after another
abbrev pub lower_stride : List Name → List Factor → (b : PlainTy) → Lowered → Lowered
lower_stride names fs b t =
    let step = product_of names fs in
    Reshape (Join (quotient step (outer_of b)))
    (Reshape Transpose (Reshape (Split (of_monomial step)) t))

-- a vector's type
abbrev pub is_vector : PlainTy → Bool
is_vector types.U32x4 = true
is_vector _ = false

-- a quotient or remainder of type a by a number
abbrev pub divided : (vector : Bool) → Op → ℕ → Lowered → Lowered
divided false o n t = ApplyNumber o n t
divided true o n t = DivideLanes o n t

-- an operator of type a on operands of types b and c
abbrev pub applied : (vector left right : Bool) → Op → (t u : Lowered) → Lowered
applied false l r o t u = Apply o t u
applied true l r o t u = ApplyLanes o l r t u

-- a form of type a over an operand of type b
abbrev pub lower_unary : List Name → Place → UnaryForm → (a b : PlainTy) → Lowered → Lowered
lower_unary names p (unary.Div n) a b t = placed p a (divided (is_vector a) Div n t)
lower_unary names p (unary.Rem n) a b t = placed p a (divided (is_vector a) Rem n t)
lower_unary names p unary.First a b t = placed p a (Project false t)
lower_unary names p unary.Second a b t = placed p a (Project true t)
lower_unary names p unary.ToPrivate a b t = Copy PrivateMemory (ty_at [] a) t
lower_unary names p unary.ToLocal a b t = Copy LocalMemory (ty_at [] a) t
lower_unary names p unary.Then a b t = Literal 0
lower_unary names p (unary.Layout (layout.Stride fs)) a b t = lower_stride names fs b t
lower_unary names p f a b t = Reshape (layout_of f a b) t

-- where the operands of a form of two stand
abbrev pub binary_place : BinaryForm → Place
binary_place binary.Zip = Argument
binary_place _ = Element

-- a form of type a over operands of types b and c
abbrev pub lower_binary : Place → BinaryForm → (a b c : PlainTy) → (t u : Lowered) → Lowered
lower_binary p (binary.Operator o) a b c t u =
    placed p a (applied (is_vector a) (is_vector b) (is_vector c) (scalar_op o) t u)
lower_binary p binary.Pair a b c t u = placed p a (Both false t u)
lower_binary p binary.Zip a b c t u = Both true t u
lower_binary p (binary.Reduce r) a b c t u = Literal 0

-- where a let's value stands: an element is set, an array is let
abbrev pub value_place : Annotation → Place
value_place n = if is_element (type_in n) then Element else Argument

-- where the body of a let of this type stands: in writing position of an element the whole
-- let is an element
abbrev pub body_place : Place → PlainTy → Place
body_place Written a = if is_element a then Element else Written
body_place Argument a = Argument
body_place Element a = Element

-- a let of a value of this type
abbrev pub lower_let : (value : PlainTy) → (v b : Lowered) → Lowered
lower_let c v b = if is_element c then LetElement (element_ty c) v b else LetArray v b

-- a let of this type: an element is stored in writing position
abbrev pub placed_element : Place → PlainTy → Lowered → Lowered
placed_element p a t = if is_element a then placed p a t else t

-- what a typed term is lowered to in this place, where sizes have these ranges
abbrev pub lower : List Name → Place → Tree → Annotation → Lowered
lower names p (tree.Variable v) n = placed p (type_in n) (Bound v)
lower names p (tree.Number c) n = placed p (type_in n) (Literal c)
lower names p (tree.Input i) n = Source i
lower names p (tree.Unary f t) (One a n) =
    lower_unary names p f a (type_in n) (lower names (operand_place f p) t n)
lower names p (tree.Binary f t u) (Two a n m) =
    lower_binary p f a (type_in n) (type_in m) (lower names (binary_place f) t n)
    (lower names (binary_place f) u m)
lower names p (tree.Select t u v) (Three a n m k) =
    placed p a
    (Select (lower names Element t n) (lower names Element u m) (lower names Element v k))
lower names p (tree.Let v b) (Two a n m) =
    placed_element p a
    (lower_let (type_in n) (lower names (value_place n) v n) (lower names (body_place p a) b m))
lower names p (tree.Map k xs b) (Two a n m) =
    Map (kind_of k) (outer_of (type_in n)) (named 0 (element_of (type_in n)) [] b)
    (lower names Argument xs n) (lower names Written b m)
lower names p (tree.Fold k xs s b) (Three a n m l) =
    Fold (outer_of (type_in n)) (named 0 (element_of (type_in n)) [] b) (element_ty (type_in m))
    (lower names Argument xs n) (lower names Element s m) (lower names Element b l)
lower names p _ n = Literal 0
