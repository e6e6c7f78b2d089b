-- What a refusal says, by the typing relation: the first spot without a type within the limits.
use Rattle.std.specs.Prelude.{ℕ, zero, suc, ◌*◌, true, ◌≡◌, ◌≤◌, ◌<◌, ◌⊎◌, List, [], ◌∷◌, ◌++◌, codes, length, map, pos, Option, Some, None, Err}
use Rattle.size_arith.specs.declared.names.Name.{Name}
use Rattle.size_arith.specs.declared.poly.Monomial.{Monomial}
use Rattle.size_arith.specs.Polynomial.{number, of_monomial, plus, minus, times, quotient, AllDivide, degree, greatest}
use Rattle.size_arith.specs.Ranges.{AreNames}
use Rattle.size_arith.specs.Shown.{ShownAtLeast, largest}
use Rattle.lift_tree.specs.declared.length.Factor.{Factor}
use Rattle.lift_tree.specs.declared.length.Part.{Part}
use Rattle.lift_tree.specs.declared.layout.Layout as layout
use Rattle.lift_tree.specs.declared.layout.Layout.TheVariants.{Join, Transpose, Split, Reverse, Stride, AsVector, AsScalar}
use Rattle.lift_tree.specs.declared.term.Operator.{Operator}
use Rattle.lift_tree.specs.declared.term.UnaryForm.{UnaryForm}
use Rattle.lift_tree.specs.declared.term.UnaryForm.TheVariants.{Div, Rem, First, Second, Layout, Slide, Pad, ToLocal, ToPrivate, Then}
use Rattle.lift_tree.specs.declared.term.BinaryForm.{BinaryForm}
use Rattle.lift_tree.specs.declared.term.BinaryForm.TheVariants as binary
use Rattle.lift_tree.specs.Annotations.{Annotation, Annotates, type_in}
use Rattle.lift_tree.specs.Belonging.{IsInputType, IsTermOf}
use Rattle.lift_tree.specs.InputTypes as written
use Rattle.lift_tree.specs.InputTypes.{Written}
use Rattle.lift_tree.specs.Limits.{arrays, components, InputFits, NodesFit}
use Rattle.lift_tree.specs.Lists.{Every}
use Rattle.lift_tree.specs.Programs.{PlainInput, PlainProgram}
use Rattle.lift_tree.specs.Tree.{Tree, Variable, Number, Input, Unary, Binary, Select, Let, Map, Fold}
use Rattle.lift_tree.specs.Types.{PlainTy, U32, U32x4, PairOf, ArrayOf, IsElement, IsFormed, IsOutput}
use Rattle.lift_tree.specs.Typing.{Declared, IsDeclared, IsNumeric, constant, declared_by, is_lane_operator}
use Rattle.lift_tree.specs.WorkedOut.{factor_monomial, product_of, with_part, length_of, worked_out, range_of}
use Rattle.pattern_types.specs.declared.refusal.Rule.{Rule}
use Rattle.pattern_types.specs.declared.refusal.Rule.TheVariants as rule
use Rattle.pattern_types.specs.declared.refusal.TypeLimit.{TypeLimit}
use Rattle.pattern_types.specs.declared.refusal.TypeLimit.TheVariants as limit
use Rattle.pattern_types.specs.declared.refusal.Spot.{Spot}
use Rattle.pattern_types.specs.declared.refusal.Spot.TheVariants as spot
use Rattle.pattern_types.specs.declared.refusal.TypeRefusal.{TypeRefusal}
use Rattle.pattern_types.specs.declared.refusal.TypeRefusal.TheVariants as refusal
use Rattle.pattern_types.specs.declared.fault.Fault.{Fault}
use Rattle.pattern_types.specs.declared.fault.Fault.TheVariants.{Breaks, Passes, Memory}
use Rattle.pattern_types.specs.Judged.{counted, program_judged}
use Rattle.pattern_types.specs.Numbers.{NumbersFit}

-- some element of the list has the property
abbrev pub Any : {A : Type 0} → (A → Type 0) → List A → Type 0
Any P [] = ⊥
Any P (x ∷ xs) = P x ⊎ Any P xs

-- ---- quantities
-- the most that a limit lets pass
abbrev pub most : TypeLimit → ℕ
most limit.Arrays = 4
most limit.Components = 4
most limit.Terms = 32
most limit.Degree = 4
most limit.Coefficient = 4294967296
most limit.Scalars = 2147483647

-- the quantity is so much, of a sum or a product
abbrev pub CountsLength : TypeLimit → ℕ → List Monomial → Type 0
CountsLength limit.Arrays c p = ⊥
CountsLength limit.Components c p = ⊥
CountsLength limit.Terms c p = c ≡ length p
CountsLength limit.Degree c p = c ≡ degree p
CountsLength limit.Coefficient c p = c ≡ greatest p
CountsLength limit.Scalars c p = ⊥

-- of a component's scalars, or of a product of the lengths inwards, where those outside have
-- this one
abbrev pub CountsInside : List Name → TypeLimit → ℕ → (outside : List Monomial) → PlainTy → Type 0
CountsInside names l c p U32 = (l ≡ limit.Scalars) × (c ≡ largest names p)
CountsInside names l c p U32x4 = (l ≡ limit.Scalars) × (c ≡ 4 * largest names p)
CountsInside names l c p (PairOf a b) = CountsInside names l c p a ⊎ CountsInside names l c p b
CountsInside names l c p (ArrayOf a n) =
    CountsLength l c (times p n) ⊎ CountsInside names l c (times p n) a

-- an array that is formed
pub record Formed : Type 0 where
  pub element : PlainTy
  pub length : List Monomial

-- the array of this element type and this length
abbrev pub formed : PlainTy → List Monomial → Formed
formed a n = record { element = a; length = n }

-- the quantity is so much, of an array's type: how many arrays it has, or components
abbrev pub CountsOuter : TypeLimit → ℕ → Formed → Type 0
CountsOuter limit.Arrays c a = c ≡ counted (arrays (ArrayOf a.element a.length))
CountsOuter limit.Components c a = c ≡ counted (length (components a.element))
CountsOuter limit.Terms c a = ⊥
CountsOuter limit.Degree c a = ⊥
CountsOuter limit.Coefficient c a = ⊥
CountsOuter limit.Scalars c a = ⊥

-- the quantity is so much, of an array, or of the lengths in it
abbrev pub CountsArray : List Name → TypeLimit → ℕ → Formed → Type 0
CountsArray names l c a = CountsOuter l c a ⊎ CountsInside names l c a.length a.element

-- a rule's name in messages
abbrev pub rule_name : Rule → List ℕ
rule_name rule.Operator = codes "operator"
rule_name rule.Pair = codes "pair"
rule_name rule.Project = codes "project"
rule_name rule.Map = codes "map"
rule_name rule.Reduce = codes "reduce"
rule_name rule.Fold = codes "fold"
rule_name rule.Zip = codes "zip"
rule_name rule.Split = codes "split"
rule_name rule.Join = codes "join"
rule_name rule.Transpose = codes "transpose"
rule_name rule.Reverse = codes "reverse"
rule_name rule.Stride = codes "stride"
rule_name rule.Slide = codes "slide"
rule_name rule.Pad = codes "pad"
rule_name rule.Output = codes "output"
rule_name rule.Length = codes "length"

-- ---- faults
-- the demand of the rule isn't met; or it is, and an array that is formed has a length that isn't
-- shown to be at least 1; or a quantity of such an array, or of a sum or a product that is worked
-- out, is this count, above its limit
abbrev pub IsFault : List Name → Option Rule → (demand : Type 0) → List Formed
    → (lengths : List (List Monomial)) → Fault → Type 0
IsFault names r demand made ps (Breaks s) =
    ((Some s ≡ r) × ¬ demand)
    ⊎ ((s ≡ rule.Length) × demand × Any (λ (a : Formed). ¬ ShownAtLeast 1 names a.length) made)
IsFault names r demand made ps (Passes l c) =
    (most l < c) × (Any (CountsArray names l c) made ⊎ Any (CountsLength l c) ps)
IsFault names r demand made ps Memory = ⊥

-- ---- the table
-- a form's rule, what it demands, the arrays that are formed, the inner first, and the sums and
-- products that are worked out, in order

-- the products as the factors are multiplied one after another
abbrev pub products_along : List Name → (so_far : List Monomial) → List Factor
    → List (List Monomial)
products_along names p [] = []
products_along names p (f ∷ fs) =
    let q = times p (of_monomial (factor_monomial names f)) in q ∷ products_along names q fs

-- the products of a sum's parts and the sums so far, in the order in which they are worked out
abbrev pub sums_along : List Name → (so_far : List Monomial) → List Part → List (List Monomial)
sums_along names s [] = []
sums_along names s (p ∷ ps) =
    let next = with_part p.sign s (of_monomial (product_of names p.product)) in
    products_along names (constant 1) p.product ++ next ∷ sums_along names next ps

-- the rule of a layout
abbrev pub layout_rule : layout.Layout → Rule
layout_rule Join = rule.Join
layout_rule Transpose = rule.Transpose
layout_rule (Split fs) = rule.Split
layout_rule Reverse = rule.Reverse
layout_rule (Stride fs) = rule.Stride
layout_rule AsVector = rule.Split
layout_rule AsScalar = rule.Join

-- the rule of a form with one child; a copy and a `then` have none
abbrev pub unary_rule : UnaryForm → Option Rule
unary_rule (Div n) = Some rule.Operator
unary_rule (Rem n) = Some rule.Operator
unary_rule First = Some rule.Project
unary_rule Second = Some rule.Project
unary_rule (Layout l) = Some (layout_rule l)
unary_rule (Slide s t) = Some rule.Slide
unary_rule (Pad l r) = Some rule.Pad
unary_rule ToLocal = None
unary_rule ToPrivate = None
unary_rule Then = None

-- the type is a pair's
abbrev pub IsPair : PlainTy → Type 0
IsPair b = (x y : PlainTy) × (b ≡ PairOf x y)

-- the type is an array's
abbrev pub IsArray : PlainTy → Type 0
IsArray b = (x : PlainTy) × (n : List Monomial) × (b ≡ ArrayOf x n)

-- the type is that of an array of arrays
abbrev pub IsArrayOfArrays : PlainTy → Type 0
IsArrayOfArrays b = (x : PlainTy) × (m n : List Monomial) × (b ≡ ArrayOf (ArrayOf x m) n)

-- the type is an array's, and the product of the factors divides its length
abbrev pub IsDivided : List Name → List Factor → PlainTy → Type 0
IsDivided names fs b =
    (x : PlainTy) × (n : List Monomial) × (b ≡ ArrayOf x n) × AllDivide (product_of names fs) n

-- the type is that of an array of numbers whose length 4 divides
abbrev pub IsInFours : PlainTy → Type 0
IsInFours b = (n : List Monomial) × (b ≡ ArrayOf U32 n) × AllDivide (number (pos 4)) n

-- the type is that of an array of vectors
abbrev pub IsOfVectors : PlainTy → Type 0
IsOfVectors b = (n : List Monomial) × (b ≡ ArrayOf U32x4 n)

-- what a layout demands of its child's type
abbrev pub LayoutDemand : List Name → layout.Layout → PlainTy → Type 0
LayoutDemand names Join b = IsArrayOfArrays b
LayoutDemand names Transpose b = IsArrayOfArrays b
LayoutDemand names (Split fs) b = IsDivided names fs b
LayoutDemand names Reverse b = IsArray b
LayoutDemand names (Stride fs) b = IsDivided names fs b
LayoutDemand names AsVector b = IsInFours b
LayoutDemand names AsScalar b = IsOfVectors b

-- what a form demands of its one child's type
abbrev pub UnaryDemand : List Name → UnaryForm → PlainTy → Type 0
UnaryDemand names (Div n) b = IsNumeric b
UnaryDemand names (Rem n) b = IsNumeric b
UnaryDemand names First b = IsPair b
UnaryDemand names Second b = IsPair b
UnaryDemand names (Layout l) b = LayoutDemand names l b
UnaryDemand names (Slide s t) b =
    (x : PlainTy) × (n : List Monomial) × (b ≡ ArrayOf x n)
    × ShownAtLeast 0 names (minus n (constant s))
    × AllDivide (number (pos t)) (minus n (constant s))
UnaryDemand names (Pad l r) b = IsArray b
UnaryDemand names ToLocal b = Unit {0}
UnaryDemand names ToPrivate b = Unit {0}
UnaryDemand names Then b = Unit {0}

-- how many windows of this size there are, so many elements apart, in an array of length n
abbrev pub windows : (size step : ℕ) → List Monomial → List Monomial
windows s t n = plus (quotient (number (pos t)) (minus n (constant s))) (constant 1)

-- the arrays that a layout forms, none where the type isn't such as it demands; reverse and stride
-- form no array anew
abbrev pub layout_formed : List Name → layout.Layout → PlainTy → List Formed
layout_formed names Join (ArrayOf (ArrayOf x m) n) = formed x (times n m) ∷ []
layout_formed names Transpose (ArrayOf (ArrayOf x m) n) = formed x n ∷ formed (ArrayOf x n) m ∷ []
layout_formed names (Split fs) (ArrayOf x n) =
    let m = product_of names fs in
    formed x (of_monomial m) ∷ formed (ArrayOf x (of_monomial m)) (quotient m n) ∷ []
layout_formed names AsVector (ArrayOf U32 n) =
    formed U32x4 (quotient (number (pos 4)) n) ∷ []
layout_formed names AsScalar (ArrayOf U32x4 n) = formed U32 (times n (constant 4)) ∷ []
layout_formed names l b = []

-- the arrays that a form with one child forms
abbrev pub unary_formed : List Name → UnaryForm → PlainTy → List Formed
unary_formed names (Layout l) b = layout_formed names l b
unary_formed names (Slide s t) (ArrayOf x n) =
    formed x (constant s) ∷ formed (ArrayOf x (constant s)) (windows s t n) ∷ []
unary_formed names (Pad l r) (ArrayOf x n) =
    formed x (plus (plus (constant l) n) (constant r)) ∷ []
unary_formed names f b = []

-- the sums and products that are worked out for a layout
abbrev pub layout_lengths : List Name → layout.Layout → PlainTy → List (List Monomial)
layout_lengths names Join (ArrayOf (ArrayOf x m) n) = times n m ∷ []
layout_lengths names (Split fs) b = products_along names (constant 1) fs
layout_lengths names (Stride fs) b = products_along names (constant 1) fs
layout_lengths names AsScalar (ArrayOf U32x4 n) = times n (constant 4) ∷ []
layout_lengths names l b = []

-- the sums and products that are worked out for a form with one child
abbrev pub unary_lengths : List Name → UnaryForm → PlainTy → List (List Monomial)
unary_lengths names (Layout l) b = layout_lengths names l b
unary_lengths names (Slide s t) (ArrayOf x n) = minus n (constant s) ∷ windows s t n ∷ []
unary_lengths names (Pad l r) (ArrayOf x n) =
    plus (constant l) n ∷ plus (plus (constant l) n) (constant r) ∷ []
unary_lengths names f b = []

-- a fault of a node with one child of this type
abbrev pub UnaryFault : List Name → UnaryForm → PlainTy → Fault → Type 0
UnaryFault names f b =
    IsFault names (unary_rule f) (UnaryDemand names f b) (unary_formed names f b)
    (unary_lengths names f b)

-- the rule of a form with two children
abbrev pub binary_rule : BinaryForm → Rule
binary_rule (binary.Operator o) = rule.Operator
binary_rule binary.Pair = rule.Pair
binary_rule binary.Zip = rule.Zip
binary_rule (binary.Reduce r) = rule.Reduce

-- what an operator demands of its operands' types: numbers, or also vectors where it acts lane
-- by lane
abbrev pub OperatorDemand : Operator → (b c : PlainTy) → Type 0
OperatorDemand o b c =
    ((b ≡ U32) × (c ≡ U32)) ⊎ ((is_lane_operator o ≡ true) × IsNumeric b × IsNumeric c)

-- what a form demands of its two children's types
abbrev pub BinaryDemand : BinaryForm → (b c : PlainTy) → Type 0
BinaryDemand (binary.Operator o) b c = OperatorDemand o b c
BinaryDemand binary.Pair b c = IsElement b × IsElement c
BinaryDemand binary.Zip b c =
    (x y : PlainTy) × (n : List Monomial) × (b ≡ ArrayOf x n) × (c ≡ ArrayOf y n)
BinaryDemand (binary.Reduce r) b c = (n : List Monomial) × (b ≡ ArrayOf U32 n) × (c ≡ U32)

-- the arrays that a form with two children forms
abbrev pub binary_formed : BinaryForm → (b c : PlainTy) → List Formed
binary_formed binary.Zip (ArrayOf x n) (ArrayOf y m) = formed (PairOf x y) n ∷ []
binary_formed (binary.Reduce r) b c = formed U32 (constant 1) ∷ []
binary_formed binary.Zip b c = []
binary_formed binary.Pair b c = []
binary_formed (binary.Operator o) b c = []

-- a fault of a node with two children of these types
abbrev pub BinaryFault : List Name → BinaryForm → (b c : PlainTy) → Fault → Type 0
BinaryFault names f b c =
    IsFault names (Some (binary_rule f)) (BinaryDemand f b c) (binary_formed f b c) []

-- a fault of a rule alone
abbrev pub RuleFault : List Name → Rule → (demand : Type 0) → Fault → Type 0
RuleFault names r demand = IsFault names (Some r) demand [] []

-- ---- terms
-- the term has these types, within the limits
abbrev pub Fits : Declared → List PlainTy → Tree → Annotation → Type 0
Fits d g t n = Annotates d g t n × NodesFit d.names t n

-- the node itself is refused: its children that are judged before have types
abbrev pub IsRefusedHere : Declared → List PlainTy → Tree → Fault → Type 0
IsRefusedHere d g (Variable i) f = ⊥
IsRefusedHere d g (Number i) f = ⊥
IsRefusedHere d g (Input i) f = ⊥
IsRefusedHere d g (Unary o t) f =
    (n : Annotation) × Fits d g t n × UnaryFault d.names o (type_in n) f
IsRefusedHere d g (Binary o t u) f =
    (n m : Annotation) × Fits d g t n × Fits d g u m
    × BinaryFault d.names o (type_in n) (type_in m) f
IsRefusedHere d g (Select t u v) f =
    (n m k : Annotation) × Fits d g t n × Fits d g u m × Fits d g v k
    × RuleFault d.names rule.Operator ((type_in n ≡ U32) × (type_in m ≡ U32) × (type_in k ≡ U32)) f
IsRefusedHere d g (Let v b) f = ⊥
IsRefusedHere d g (Map h xs b) f =
    (n : Annotation) × Fits d g xs n
    × (RuleFault d.names rule.Map (IsArray (type_in n)) f
    ⊎ ((x : PlainTy) × (l : List Monomial) × (m : Annotation) × (type_in n ≡ ArrayOf x l)
    × Fits d (x ∷ g) b m × IsFault d.names None (Unit {0}) (formed (type_in m) l ∷ []) [] f))
IsRefusedHere d g (Fold h xs s b) f =
    (n m : Annotation) × Fits d g xs n × Fits d g s m
    × (RuleFault d.names rule.Fold (IsArray (type_in n) × IsElement (type_in m)) f
    ⊎ ((x : PlainTy) × (l : List Monomial) × (k : Annotation) × (type_in n ≡ ArrayOf x l)
    × IsElement (type_in m) × Fits d (x ∷ type_in m ∷ g) b k
    × IsFault d.names (Some rule.Fold) (type_in m ≡ type_in k)
    (formed (type_in m) (constant 1) ∷ []) [] f))

-- the node at the place is refused: all nodes that end before it have types
abbrev pub IsRefusedAt : Declared → List PlainTy → Tree → (place : List ℕ) → Fault → Type 0
IsRefusedAt d g t [] f = IsRefusedHere d g t f
IsRefusedAt d g (Unary o t) (zero ∷ is) f = IsRefusedAt d g t is f
IsRefusedAt d g (Binary o t u) (zero ∷ is) f = IsRefusedAt d g t is f
IsRefusedAt d g (Binary o t u) (suc zero ∷ is) f =
    (n : Annotation) × Fits d g t n × IsRefusedAt d g u is f
IsRefusedAt d g (Select t u v) (zero ∷ is) f = IsRefusedAt d g t is f
IsRefusedAt d g (Select t u v) (suc zero ∷ is) f =
    (n : Annotation) × Fits d g t n × IsRefusedAt d g u is f
IsRefusedAt d g (Select t u v) (suc (suc zero) ∷ is) f =
    (n m : Annotation) × Fits d g t n × Fits d g u m × IsRefusedAt d g v is f
IsRefusedAt d g (Let v b) (zero ∷ is) f = IsRefusedAt d g v is f
IsRefusedAt d g (Let v b) (suc zero ∷ is) f =
    (n : Annotation) × Fits d g v n × IsRefusedAt d (type_in n ∷ g) b is f
IsRefusedAt d g (Map h xs b) (zero ∷ is) f = IsRefusedAt d g xs is f
IsRefusedAt d g (Map h xs b) (suc zero ∷ is) f =
    (n : Annotation) × (x : PlainTy) × (l : List Monomial) × Fits d g xs n
    × (type_in n ≡ ArrayOf x l) × IsRefusedAt d (x ∷ g) b is f
IsRefusedAt d g (Fold h xs s b) (zero ∷ is) f = IsRefusedAt d g xs is f
IsRefusedAt d g (Fold h xs s b) (suc zero ∷ is) f =
    (n : Annotation) × Fits d g xs n × IsRefusedAt d g s is f
IsRefusedAt d g (Fold h xs s b) (suc (suc zero) ∷ is) f =
    (n m : Annotation) × (x : PlainTy) × (l : List Monomial) × Fits d g xs n × Fits d g s m
    × (type_in n ≡ ArrayOf x l) × IsElement (type_in m) × IsRefusedAt d (x ∷ type_in m ∷ g) b is f
IsRefusedAt d g _ _ f = ⊥

-- ---- programs

-- the arrays that an input's written type forms
abbrev pub input_formed : List Name → Written → List Formed
input_formed names written.Number = []
input_formed names (written.Pair a b) = input_formed names a ++ input_formed names b
input_formed names (written.Array a n) =
    input_formed names a ++ formed (worked_out names a) (length_of names n) ∷ []

-- the sums and products that are worked out for an input's written type
abbrev pub input_lengths : List Name → Written → List (List Monomial)
input_lengths names written.Number = []
input_lengths names (written.Pair a b) = input_lengths names a ++ input_lengths names b
input_lengths names (written.Array a n) = input_lengths names a ++ sums_along names [] n

-- of the inputs from number i on the first that is refused has number j
abbrev pub IsInputRefused : List Name → (i : ℕ) → List PlainInput → (j : ℕ) → Fault → Type 0
IsInputRefused names i [] j f = ⊥
IsInputRefused names i (x ∷ xs) j f =
    ((j ≡ i) × IsFault names None (Unit {0}) (input_formed names x.ty) (input_lengths names x.ty) f)
    ⊎ (IsFormed names (worked_out names x.ty) × InputFits names x.ty
    × IsInputRefused names (suc i) xs j f)

-- the whole has types, but no output's
abbrev pub IsNoOutput : Declared → Tree → (place : List ℕ) → Fault → Type 0
IsNoOutput d t place f =
    (place ≡ []) × (f ≡ Breaks rule.Output) × (n : Annotation) × Fits d [] t n
    × ¬ IsOutput (type_in n)

-- the first spot that is refused
abbrev pub IsFirst : PlainProgram → Tree → Spot → Fault → Type 0
IsFirst p t (spot.Input j) f = IsInputRefused (map range_of p.sizes) 0 p.inputs j f
IsFirst p t (spot.Node place) f =
    IsDeclared (declared_by p)
    × Every (λ (x : PlainInput). InputFits (map range_of p.sizes) x.ty) p.inputs
    × (IsRefusedAt (declared_by p) [] t place f ⊎ IsNoOutput (declared_by p) t place f)

-- the refusal names the first spot and what is wrong there
abbrev pub Names : TypeRefusal → PlainProgram → Tree → Type 0
Names (refusal.IllTyped s r) p t = IsFirst p t s (Breaks r)
Names (refusal.Limit l s c) p t = IsFirst p t s (Passes l c)
Names refusal.Memory p t = Unit {0}

-- a refusal names the first spot, and what is wrong there
abbrev pub RefusalsNameTheFirst : Type 0
RefusalsNameTheFirst =
    (p : PlainProgram) (t : Tree) (e : TypeRefusal)
    → length p.sizes ≤ 8 → AreNames (map range_of p.sizes)
    → Every (λ (i : PlainInput). IsInputType i.ty) p.inputs → NumbersFit t → IsTermOf p t
    → program_judged p t ≡ Err e → Names e p t
