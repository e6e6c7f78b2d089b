-- Which types terms have, one row a form.
use Rattle.std.specs.Prelude.{ℕ, Bool, true, false, ◌^◌, ◌<◌, ◌≡◌, List, [], ◌∷◌, Some, slice_get, pos, map, length, ◌≤◌}
use Rattle.size_arith.specs.declared.names.Name.{Name}
use Rattle.size_arith.specs.declared.poly.Monomial.{Monomial}
use Rattle.size_arith.specs.Ranges.{AreNames, Admissible, sizes_at}
use Rattle.size_arith.specs.Polynomial.{number, of_monomial, plus, minus, times, AllDivide, quotient}
use Rattle.size_arith.specs.Shown.{ShownAtLeast}
use Rattle.lift_tree.specs.declared.layout.Layout as layout
use Rattle.lift_tree.specs.declared.layout.Layout.TheVariants.{Join, Transpose, Split, Reverse, Stride, AsVector, AsScalar}
use Rattle.lift_tree.specs.declared.term.Operator.{Operator}
use Rattle.lift_tree.specs.declared.term.Operator.TheVariants as operator
use Rattle.lift_tree.specs.declared.term.UnaryForm.{UnaryForm}
use Rattle.lift_tree.specs.declared.term.UnaryForm.TheVariants.{Div, Rem, First, Second, Layout, Slide, Pad, ToLocal, ToPrivate, Then}
use Rattle.lift_tree.specs.declared.term.BinaryForm.{BinaryForm}
use Rattle.lift_tree.specs.declared.term.BinaryForm.TheVariants as binary
use Rattle.lift_tree.specs.Tree.{Tree, Variable, Number, Input, Unary, Binary, Select, Let, Map, Fold}
use Rattle.lift_tree.specs.Types.{PlainTy, U32, U32x4, PairOf, ArrayOf, IsElement, IsFormed, IsInput, IsOutput, HasType, HaveTypes}
use Rattle.lift_tree.specs.WorkedOut.{product_of, worked_out, range_of}
use Rattle.lift_tree.specs.Programs.{PlainProgram}
use Rattle.lift_tree.specs.Meaning.{World, meaning}
use Rattle.lift_tree.specs.Lists.{Every}
use Rattle.lift_tree.specs.Values.{Value}

-- the ranges of the declared sizes, and the inputs' types
pub record Declared : Type 0 where
  pub names : List Name
  pub inputs : List PlainTy

-- a number as a length
abbrev pub constant : ℕ → List Monomial
constant k = of_monomial (number (pos k))

-- a layout of an array of type b has type a; the arrays that it forms have lengths shown at least 1
abbrev pub LayoutRow : List Name → layout.Layout → (b a : PlainTy) → Type 0
LayoutRow names Join b a =
    (x : PlainTy) × (m n : List Monomial) × (b ≡ ArrayOf (ArrayOf x m) n)
    × (a ≡ ArrayOf x (times n m)) × IsFormed names a
LayoutRow names Transpose b a =
    (x : PlainTy) × (m n : List Monomial) × (b ≡ ArrayOf (ArrayOf x m) n)
    × (a ≡ ArrayOf (ArrayOf x n) m) × IsFormed names a
LayoutRow names (Split fs) b a =
    let m = product_of names fs in
    (x : PlainTy) × (n : List Monomial) × (b ≡ ArrayOf x n) × AllDivide m n
    × (a ≡ ArrayOf (ArrayOf x (of_monomial m)) (quotient m n)) × IsFormed names a
LayoutRow names Reverse b a =
    (x : PlainTy) × (n : List Monomial) × (b ≡ ArrayOf x n) × (a ≡ ArrayOf x n)
LayoutRow names (Stride fs) b a =
    (x : PlainTy) × (n : List Monomial) × (b ≡ ArrayOf x n) × AllDivide (product_of names fs) n
    × (a ≡ ArrayOf x n)
LayoutRow names AsVector b a =
    (n : List Monomial) × (b ≡ ArrayOf U32 n) × AllDivide (number (pos 4)) n
    × (a ≡ ArrayOf U32x4 (quotient (number (pos 4)) n)) × IsFormed names a
LayoutRow names AsScalar b a =
    (n : List Monomial) × (b ≡ ArrayOf U32x4 n) × (a ≡ ArrayOf U32 (times n (constant 4)))
    × IsFormed names a

-- numbers, and vectors of them
abbrev pub IsNumeric : PlainTy → Type 0
IsNumeric U32 = Unit {0}
IsNumeric U32x4 = Unit {0}
IsNumeric _ = ⊥

-- an operator that acts lane by lane
abbrev pub is_lane_operator : Operator → Bool
is_lane_operator (operator.Regrouping r) = true
is_lane_operator operator.Sub = true
is_lane_operator operator.Shl = true
is_lane_operator operator.Shr = true
is_lane_operator operator.Lt = false
is_lane_operator operator.Eq = false

-- an operator on operands of types b and c has type a: a vector where one of them is
abbrev pub OperatorRow : Operator → (b c a : PlainTy) → Type 0
OperatorRow o U32 U32 a = a ≡ U32
OperatorRow o U32 U32x4 a = (is_lane_operator o ≡ true) × (a ≡ U32x4)
OperatorRow o U32x4 U32 a = (is_lane_operator o ≡ true) × (a ≡ U32x4)
OperatorRow o U32x4 U32x4 a = (is_lane_operator o ≡ true) × (a ≡ U32x4)
OperatorRow o _ _ a = ⊥

-- a form with one child of type b has type a; its arrays have lengths shown at least 1
abbrev pub UnaryRow : List Name → UnaryForm → (b a : PlainTy) → Type 0
UnaryRow names (Div n) b a = (0 < n) × IsNumeric b × (a ≡ b)
UnaryRow names (Rem n) b a = (0 < n) × IsNumeric b × (a ≡ b)
UnaryRow names First b a = (c : PlainTy) × (b ≡ PairOf a c)
UnaryRow names Second b a = (c : PlainTy) × (b ≡ PairOf c a)
UnaryRow names (Layout l) b a = LayoutRow names l b a
UnaryRow names (Slide s t) b a =
    (x : PlainTy) × (n : List Monomial) × (b ≡ ArrayOf x n) × (0 < t)
    × ShownAtLeast 0 names (minus n (constant s))
    × AllDivide (number (pos t)) (minus n (constant s))
    ×
    (a
    ≡ ArrayOf (ArrayOf x (constant s))
    (plus (quotient (number (pos t)) (minus n (constant s))) (constant 1)))
    × IsFormed names a
UnaryRow names (Pad l r) b a =
    (x : PlainTy) × (n : List Monomial) × (b ≡ ArrayOf x n)
    × (a ≡ ArrayOf x (plus (plus (constant l) n) (constant r))) × IsFormed names a
UnaryRow names ToLocal b a = b ≡ a
UnaryRow names ToPrivate b a = b ≡ a
UnaryRow names Then b a = b ≡ a

-- a form with children of types b and c has type a
abbrev pub BinaryRow : BinaryForm → (b c a : PlainTy) → Type 0
BinaryRow (binary.Operator o) b c a = OperatorRow o b c a
BinaryRow binary.Pair b c a = IsElement b × IsElement c × (a ≡ PairOf b c)
BinaryRow binary.Zip b c a =
    (x y : PlainTy) × (n : List Monomial) × (b ≡ ArrayOf x n) × (c ≡ ArrayOf y n)
    × (a ≡ ArrayOf (PairOf x y) n)
BinaryRow (binary.Reduce r) b c a =
    (n : List Monomial) × (b ≡ ArrayOf U32 n) × (c ≡ U32) × (a ≡ ArrayOf U32 (constant 1))

-- the term has this type, where the binders have these, the nearest first; maps
-- and folds however they are run
abbrev pub Types : Declared → List PlainTy → Tree → PlainTy → Type 0
Types d g (Variable n) a = slice_get g n ≡ Some a
Types d g (Number n) a = (n < 2 ^ 32) × (a ≡ U32)
Types d g (Input n) a = slice_get d.inputs n ≡ Some a
Types d g (Unary f t) a = (b : PlainTy) × Types d g t b × UnaryRow d.names f b a
Types d g (Binary f t u) a = (b c : PlainTy) × Types d g t b × Types d g u c × BinaryRow f b c a
Types d g (Select t u v) a = Types d g t U32 × Types d g u U32 × Types d g v U32 × (a ≡ U32)
Types d g (Let v b) a = (c : PlainTy) × Types d g v c × Types d (c ∷ g) b a
Types d g (Map k xs b) a =
    (x y : PlainTy) × (n : List Monomial) × Types d g xs (ArrayOf x n) × Types d (x ∷ g) b y
    × (a ≡ ArrayOf y n)
Types d g (Fold k xs s b) a =
    (x y : PlainTy) × (n : List Monomial) × Types d g xs (ArrayOf x n) × Types d g s y × IsElement y
    × Types d (x ∷ y ∷ g) b y × (a ≡ ArrayOf y (constant 1))

-- ---- programs
-- at most eight sizes, each with its range, and inputs: arrays whose pairs hold numbers only, and
-- whose lengths are shown at least 1
pub record IsDeclared (d : Declared) : Type 0 where
  pub few : length d.names ≤ 8
  pub names : AreNames d.names
  pub arrays : Every IsInput d.inputs
  pub inputs : Every (IsFormed d.names) d.inputs

-- what a program declares, its inputs' types worked out
abbrev pub declared_by : PlainProgram → Declared
declared_by p =
    let names = map range_of p.sizes in record {
      names = names;
      inputs = map
          (λ i. worked_out names i.ty) p.inputs;
    }

-- the program, with this term in its body's place, has the output's type
pub record HasOutput (p : PlainProgram) (t : Tree) (a : PlainTy) : Type 0 where
  pub declared : IsDeclared (declared_by p)
  pub typed : Types (declared_by p) [] t a
  pub output : IsOutput a

-- the sizes lie in their ranges, and the inputs have their types
pub record IsAdmissible (d : Declared) (w : World) : Type 0 where
  pub bases : Admissible d.names w.bases
  pub sizes : w.sizes ≡ sizes_at d.names w.bases
  pub inputs : HaveTypes w.bases d.inputs w.inputs

-- a typed term's value has its type, at all admissible sizes and inputs and all values of binders
abbrev pub ValuesHaveTypes : Type 0
ValuesHaveTypes =
    (d : Declared) (w : World) (g : List PlainTy) (vs : List Value) (t : Tree) (a : PlainTy)
    → IsDeclared d → IsAdmissible d w → Every (IsFormed d.names) g → HaveTypes w.bases g vs
    → Types d g t a → HasType w.bases a (meaning w vs t)

-- a term has one type
abbrev pub OneType : Type 0
OneType =
    (d : Declared) (g : List PlainTy) (t : Tree) (a b : PlainTy) → Types d g t a → Types d g t b
    → a ≡ b
