-- The limits on types: what they count, and which programs lie within them.
use Rattle.std.specs.Prelude.{ℕ, suc, ◌*◌, ◌≤◌, max, List, [], ◌∷◌, ◌++◌, length, map, pos}
use Rattle.size_arith.specs.declared.names.Name.{Name}
use Rattle.size_arith.specs.declared.poly.Monomial.{Monomial}
use Rattle.size_arith.specs.Polynomial.{number, of_monomial, plus, minus, times, quotient, degree, greatest}
use Rattle.size_arith.specs.Shown.{largest}
use Rattle.lift_tree.specs.declared.length.Factor.{Factor}
use Rattle.lift_tree.specs.declared.length.Part.{Part}
use Rattle.lift_tree.specs.declared.layout.Layout as layout
use Rattle.lift_tree.specs.declared.layout.Layout.TheVariants.{Join, Transpose, Split, Reverse, Stride, AsVector, AsScalar}
use Rattle.lift_tree.specs.declared.term.UnaryForm.{UnaryForm}
use Rattle.lift_tree.specs.declared.term.UnaryForm.TheVariants.{Div, Rem, First, Second, Layout, Slide, Pad, ToLocal, ToPrivate, Then}
use Rattle.lift_tree.specs.Tree.{Tree, Variable, Number, Input, Unary, Binary, Select, Let, Map, Fold}
use Rattle.lift_tree.specs.InputTypes as written
use Rattle.lift_tree.specs.InputTypes.{Written}
use Rattle.lift_tree.specs.Types.{PlainTy, U32, U32x4, PairOf, ArrayOf}
use Rattle.lift_tree.specs.Typing.{constant, Declared, declared_by, IsDeclared}
use Rattle.lift_tree.specs.WorkedOut.{factor_monomial, product_of, with_part, length_of, worked_out, range_of}
use Rattle.lift_tree.specs.Lists.{Every}
use Rattle.lift_tree.specs.Programs.{PlainInput, PlainProgram}
use Rattle.lift_tree.specs.Values.{Side, Left, Right}
use Rattle.lift_tree.specs.Annotations.{Annotation, Leaf, One, Two, Three, type_in}

-- the most arrays around a scalar
abbrev pub arrays : PlainTy → ℕ
arrays U32 = 0
arrays U32x4 = 0
arrays (PairOf a b) = max (arrays a) (arrays b)
arrays (ArrayOf a n) = suc (arrays a)

-- the ways to the components, from left to right
abbrev pub components : PlainTy → List (List Side)
components U32 = [] ∷ []
components U32x4 = [] ∷ []
components (PairOf a b) = map (λ c. Left ∷ c) (components a) ++ map (λ c. Right ∷ c) (components b)
components (ArrayOf a n) = components a

-- ---- lengths
-- a polynomial within its limits
pub record IsSmall (p : List Monomial) : Type 0 where
  pub terms : length p ≤ 32
  pub degree : degree p ≤ 4
  pub coefficients : greatest p ≤ 4294967296

-- each product as it arises, from left to right
abbrev pub ProductFits : List Name → (so_far : List Monomial) → List Factor → Type 0
ProductFits names p [] = Unit {0}
ProductFits names p (f ∷ fs) =
    let q = times p (of_monomial (factor_monomial names f)) in
    IsSmall q × ProductFits names q fs

-- each product of a length, and each sum as it arises, from left to right
abbrev pub SumFits : List Name → (so_far : List Monomial) → List Part → Type 0
SumFits names s [] = Unit {0}
SumFits names s (p ∷ ps) =
    let next = with_part p.sign s (of_monomial (product_of names p.product)) in
    ProductFits names (constant 1) p.product × IsSmall next × SumFits names next ps

-- ---- arrays
-- for each component, the products of the lengths inwards, where those outside have this product
abbrev pub ProductsAreSmall : (outside : List Monomial) → PlainTy → Type 0
ProductsAreSmall p U32 = Unit {0}
ProductsAreSmall p U32x4 = Unit {0}
ProductsAreSmall p (PairOf a b) = ProductsAreSmall p a × ProductsAreSmall p b
ProductsAreSmall p (ArrayOf a n) = IsSmall (times p n) × ProductsAreSmall (times p n) a

-- each component has at most 2147483647 scalars at the largest sizes, four a vector
abbrev pub ScalarsAreFew : List Name → (outside : List Monomial) → PlainTy → Type 0
ScalarsAreFew names p U32 = largest names p ≤ 2147483647
ScalarsAreFew names p U32x4 = 4 * largest names p ≤ 2147483647
ScalarsAreFew names p (PairOf a b) = ScalarsAreFew names p a × ScalarsAreFew names p b
ScalarsAreFew names p (ArrayOf a n) = ScalarsAreFew names (times p n) a

-- the array of these elements and this length
pub record ArrayFits (names : List Name) (a : PlainTy) (n : List Monomial) : Type 0 where
  pub arrays : arrays (ArrayOf a n) ≤ 4
  pub components : length (components a) ≤ 4
  pub products : ProductsAreSmall n a
  pub scalars : ScalarsAreFew names n a

-- the type's outer array, if it is one
abbrev pub OuterFits : List Name → PlainTy → Type 0
OuterFits names U32 = Unit {0}
OuterFits names U32x4 = Unit {0}
OuterFits names (PairOf a b) = Unit {0}
OuterFits names (ArrayOf a n) = ArrayFits names a n

-- the scalars of the type's outer arrays
abbrev pub HasFewScalars : List Name → PlainTy → Type 0
HasFewScalars names U32 = Unit {0}
HasFewScalars names U32x4 = Unit {0}
HasFewScalars names (PairOf a b) = HasFewScalars names a × HasFewScalars names b
HasFewScalars names (ArrayOf a n) = ScalarsAreFew names n a

-- ---- terms
-- what a split of n elements a works out and forms: pieces, and the array of them
abbrev pub SplitFits : List Name → List Factor → PlainTy → Type 0
SplitFits names fs (ArrayOf a n) =
    let m = product_of names fs in
    ProductFits names (constant 1) fs
    × ArrayFits names a (of_monomial m)
    × ArrayFits names (ArrayOf a (of_monomial m)) (quotient m n)
SplitFits names fs _ = ⊥

-- what a slide works out and forms: windows, how many there are, and the array of them
abbrev pub SlideFits : List Name → (size step : ℕ) → PlainTy → Type 0
SlideFits names s t (ArrayOf a n) =
    let left = minus n (constant s) in
    let count = plus (quotient (number (pos t)) left) (constant 1) in
    IsSmall left × ArrayFits names a (constant s) × IsSmall count
    × ArrayFits names (ArrayOf a (constant s)) count
SlideFits names s t _ = ⊥

-- what a pad works out and forms: the length with what stands before, then with both
abbrev pub PadFits : List Name → (before after : ℕ) → PlainTy → Type 0
PadFits names l r (ArrayOf a n) =
    let m = plus (constant l) n in
    IsSmall m × IsSmall (plus m (constant r)) × ArrayFits names a (plus m (constant r))
PadFits names l r _ = ⊥

-- what a join works out and forms: the product of both lengths, and the array of it
abbrev pub JoinFits : List Name → PlainTy → Type 0
JoinFits names (ArrayOf (ArrayOf a m) n) =
    IsSmall (times n m) × ArrayFits names a (times n m)
JoinFits names _ = ⊥

-- what a transposition forms: the new rows, and the array of them
abbrev pub TransposeFits : List Name → PlainTy → Type 0
TransposeFits names (ArrayOf (ArrayOf a m) n) =
    ArrayFits names a n × ArrayFits names (ArrayOf a n) m
TransposeFits names _ = ⊥

-- what vectors of an array's elements form
abbrev pub VectorsFit : List Name → PlainTy → Type 0
VectorsFit names (ArrayOf a n) = ArrayFits names U32x4 (quotient (number (pos 4)) n)
VectorsFit names _ = ⊥

-- what the scalars of an array of vectors work out and form
abbrev pub ScalarsFit : List Name → PlainTy → Type 0
ScalarsFit names (ArrayOf a n) =
    IsSmall (times n (constant 4)) × ArrayFits names U32 (times n (constant 4))
ScalarsFit names _ = ⊥

-- what a layout of a child of this type works out and forms: reverse and stride form no array anew
abbrev pub LayoutFits : List Name → layout.Layout → PlainTy → Type 0
LayoutFits names Join a = JoinFits names a
LayoutFits names Transpose a = TransposeFits names a
LayoutFits names (Split fs) a = SplitFits names fs a
LayoutFits names Reverse a = Unit {0}
LayoutFits names (Stride fs) a = ProductFits names (constant 1) fs
LayoutFits names AsVector a = VectorsFit names a
LayoutFits names AsScalar a = ScalarsFit names a

-- what a form with one child of this type works out and forms
abbrev pub UnaryFits : List Name → UnaryForm → PlainTy → Type 0
UnaryFits names (Div n) a = Unit {0}
UnaryFits names (Rem n) a = Unit {0}
UnaryFits names First a = Unit {0}
UnaryFits names Second a = Unit {0}
UnaryFits names (Layout l) a = LayoutFits names l a
UnaryFits names (Slide s t) a = SlideFits names s t a
UnaryFits names (Pad l r) a = PadFits names l r a
UnaryFits names ToLocal a = Unit {0}
UnaryFits names ToPrivate a = Unit {0}
UnaryFits names Then a = Unit {0}

-- the nodes of a term that have these types
abbrev pub NodesFit : List Name → Tree → Annotation → Type 0
NodesFit names (Variable n) (Leaf a) = Unit {0}
NodesFit names (Number n) (Leaf a) = Unit {0}
NodesFit names (Input n) (Leaf a) = Unit {0}
NodesFit names (Unary f t) (One a n) = NodesFit names t n × UnaryFits names f (type_in n)
NodesFit names (Binary f t u) (Two a n m) =
    NodesFit names t n × NodesFit names u m × OuterFits names a
NodesFit names (Select t u v) (Three a n m k) =
    NodesFit names t n × NodesFit names u m × NodesFit names v k
NodesFit names (Let v b) (Two a n m) = NodesFit names v n × NodesFit names b m
NodesFit names (Map h xs b) (Two a n m) =
    NodesFit names xs n × NodesFit names b m × OuterFits names a
NodesFit names (Fold h xs s b) (Three a n m k) =
    NodesFit names xs n × NodesFit names s m × NodesFit names b k × OuterFits names a
NodesFit names _ _ = ⊥

-- ---- programs
abbrev pub InputFits : List Name → Written → Type 0
InputFits names written.Number = Unit {0}
InputFits names (written.Pair a b) = InputFits names a × InputFits names b
InputFits names (written.Array a n) =
    InputFits names a × SumFits names [] n
    × ArrayFits names (worked_out names a) (length_of names n)

-- the inputs of a program, and the nodes of a term of it that have these types, pass no limit
pub record IsWithinLimits (p : PlainProgram) (t : Tree) (n : Annotation) : Type 0 where
  pub inputs : Every (λ (i : PlainInput). InputFits (map range_of p.sizes) i.ty) p.inputs
  pub nodes : NodesFit (map range_of p.sizes) t n

-- ---- what may be named
-- each length has few enough terms, of a low enough degree
abbrev pub LengthsFit : PlainTy → Type 0
LengthsFit U32 = Unit {0}
LengthsFit U32x4 = Unit {0}
LengthsFit (PairOf a b) = LengthsFit a × LengthsFit b
LengthsFit (ArrayOf a n) = (length n ≤ 32) × (degree n ≤ 4) × LengthsFit a

-- a type as a whole, wherever it comes from
pub record TypeFits (names : List Name) (a : PlainTy) : Type 0 where
  pub lengths : LengthsFit a
  pub arrays : arrays a ≤ 4
  pub scalars : HasFewScalars names a

-- the inputs' types, and the nodes of a term over them that have these types, pass no limit
pub record TypesFit (d : Declared) (t : Tree) (n : Annotation) : Type 0 where
  pub inputs : Every (TypeFits d.names) d.inputs
  pub nodes : NodesFit d.names t n

-- those of a program within its limits don't
abbrev pub LimitsFit : Type 0
LimitsFit =
    (p : PlainProgram) (t : Tree) (n : Annotation) → IsWithinLimits p t n
    → TypesFit (declared_by p) t n

-- the program is declared, and the scalars of its inputs are few: what a launch file is read for
pub record HasProperInputs (p : PlainProgram) : Type 0 where
  pub declared : IsDeclared (declared_by p)
  pub scalars : Every (HasFewScalars (declared_by p).names) (declared_by p).inputs
