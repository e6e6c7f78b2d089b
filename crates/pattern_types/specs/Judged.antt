-- Types, judged in order: the type, or the first refusal.
use Rattle.std.specs.Prelude.{◌≡◌, ℕ, suc, ◌*◌, min, Bool, true, false, ◌&&◌, if◌then◌else◌, nat_lt, List, [], ◌∷◌, length, map, Result, Ok, Err, Option, Some, None}
use Rattle.size_arith.specs.declared.names.Name.{Name}
use Rattle.size_arith.specs.declared.poly.Monomial.{Monomial}
use Rattle.size_arith.specs.declared.poly.PolyNo.{PolyNo}
use Rattle.size_arith.specs.declared.poly.PolyNo.TheVariants as no
use Rattle.size_arith.specs.Polynomial.{of_monomial, plus, minus, times, limited}
use Rattle.size_arith.specs.Shown.{largest}
use Rattle.size_arith.specs.Decisions.{is_shown, is_same}
use Rattle.lift_tree.specs.declared.length.Factor.{Factor}
use Rattle.lift_tree.specs.declared.length.Part.{Part}
use Rattle.lift_tree.specs.declared.layout.Layout as layout
use Rattle.lift_tree.specs.declared.layout.Layout.TheVariants.{Join, Transpose, Split, Reverse, Stride, AsVector, AsScalar}
use Rattle.lift_tree.specs.declared.term.Operator.{Operator}
use Rattle.lift_tree.specs.declared.term.UnaryForm.{UnaryForm}
use Rattle.lift_tree.specs.declared.term.UnaryForm.TheVariants.{Div, Rem, First, Second, Layout, Slide, Pad, ToLocal, ToPrivate, Then}
use Rattle.lift_tree.specs.declared.term.BinaryForm.{BinaryForm}
use Rattle.lift_tree.specs.declared.term.BinaryForm.TheVariants as binary
use Rattle.lift_tree.specs.Tree.{Tree, Variable, Number, Input, Unary, Binary, Select, Let, Map, Fold}
use Rattle.lift_tree.specs.InputTypes as written
use Rattle.lift_tree.specs.InputTypes.{Written}
use Rattle.lift_tree.specs.Programs.{PlainInput, PlainProgram}
use Rattle.lift_tree.specs.Types.{PlainTy, U32, U32x4, PairOf, ArrayOf, is_element}
use Rattle.lift_tree.specs.Typing.{Declared, constant, is_lane_operator}
use Rattle.lift_tree.specs.WorkedOut.{factor_monomial, with_part, range_of}
use Rattle.lift_tree.specs.Limits.{arrays, components}
use Rattle.lift_tree.specs.Annotations.{Annotation, Leaf, One, Two, Three, type_in}
use Rattle.pattern_types.specs.declared.refusal.Rule.{Rule}
use Rattle.pattern_types.specs.declared.refusal.Rule.TheVariants as rule
use Rattle.pattern_types.specs.declared.refusal.TypeLimit.{TypeLimit}
use Rattle.pattern_types.specs.declared.refusal.TypeLimit.TheVariants as limit
use Rattle.pattern_types.specs.declared.refusal.Spot.{Spot}
use Rattle.pattern_types.specs.declared.refusal.Spot.TheVariants as spot
use Rattle.pattern_types.specs.declared.refusal.TypeRefusal.{TypeRefusal}
use Rattle.pattern_types.specs.declared.refusal.TypeRefusal.TheVariants as refusal
use Rattle.pattern_types.specs.declared.fault.Fault.{Fault}
use Rattle.pattern_types.specs.declared.fault.Fault.TheVariants.{Breaks, Passes, Memory}
use Rattle.pattern_types.specs.declared.fault.NodeFault.{NodeFault}
use Rattle.pattern_types.specs.Scopes.{nth_type}
use Rattle.pattern_types.specs.Tests.{exact_quotient, is_output, is_same_element}

-- what follows, of the answer before; or the first fault
abbrev pub and_then : {A B E : Type 0} → Result A E → (A → Result B E) → Result B E
and_then (Ok a) f = f a
and_then (Err e) f = Err e

-- the rule is broken where its test fails
abbrev pub demand : Bool → Rule → Result (Unit {0}) Fault
demand true r = Ok tt
demand false r = Err (Breaks r)

-- ---- lengths

-- the fault that is a passed limit of a sum or a product
abbrev pub fault_of : PolyNo → Fault
fault_of (no.Terms n) = Passes limit.Terms n
fault_of (no.Degree n) = Passes limit.Degree n
fault_of (no.Coefficient n) = Passes limit.Coefficient n
fault_of no.Memory = Memory

-- a sum or product, or its limit as a fault
abbrev pub faulty : Result (List Monomial) PolyNo → Result (List Monomial) Fault
faulty (Ok p) = Ok p
faulty (Err e) = Err (fault_of e)

-- the sum or product, within its limits
abbrev pub within : List Monomial → Result (List Monomial) Fault
within p = faulty (limited p)

-- the factors multiplied to a product, from left to right
abbrev pub product_judged : List Name → List Monomial → List Factor → Result (List Monomial) Fault
product_judged names p [] = Ok p
product_judged names p (f ∷ fs) =
    and_then (within (times p (of_monomial (factor_monomial names f)))) (λ q.
    product_judged names q fs)

-- the parts added to a sum, from left to right
abbrev pub sum_judged : List Name → List Monomial → List Part → Result (List Monomial) Fault
sum_judged names sum [] = Ok sum
sum_judged names sum (p ∷ ps) =
    and_then (product_judged names (constant 1) p.product) (λ q.
    and_then (within (with_part p.sign sum q)) (λ r. sum_judged names r ps))

-- ---- arrays
-- a count, which stands still at 2^64 - 1
abbrev pub counted : ℕ → ℕ
counted n = min n 18446744073709551615

-- the limit is passed where the count is above the most
abbrev pub at_most : ℕ → TypeLimit → ℕ → Result (Unit {0}) Fault
at_most most which n = if nat_lt most n then Err (Passes which n) else Ok tt

-- each component's product of lengths, where those outside have this product
abbrev pub scalars_judged : List Name → List Monomial → PlainTy → Result (Unit {0}) Fault
scalars_judged names p U32 = at_most 2147483647 limit.Scalars (largest names p)
scalars_judged names p U32x4 = at_most 2147483647 limit.Scalars (4 * largest names p)
scalars_judged names p (PairOf a b) =
    and_then (scalars_judged names p a) (λ _. scalars_judged names p b)
scalars_judged names p (ArrayOf a n) = and_then (within (times p n)) (λ q. scalars_judged names q a)

-- an array that is formed
abbrev pub formed : List Name → PlainTy → List Monomial → Result PlainTy Fault
formed names a n =
    and_then (demand (is_shown 1 names n) rule.Length) (λ _.
    and_then (at_most 4 limit.Arrays (counted (arrays (ArrayOf a n)))) (λ _.
    and_then (at_most 4 limit.Components (counted (length (components a)))) (λ _.
    and_then (scalars_judged names n a) (λ _. Ok (ArrayOf a n)))))

-- ---- the table, one row a form

-- an operand that is a number
abbrev pub number_row : PlainTy → Result PlainTy Fault
number_row U32 = Ok U32
number_row _ = Err (Breaks rule.Operator)

-- an operand that is a number, or four
abbrev pub numeric_row : PlainTy → Result PlainTy Fault
numeric_row U32 = Ok U32
numeric_row U32x4 = Ok U32x4
numeric_row _ = Err (Breaks rule.Operator)

-- a pair's first part
abbrev pub first_row : PlainTy → Result PlainTy Fault
first_row (PairOf a b) = Ok a
first_row _ = Err (Breaks rule.Project)

-- a pair's second part
abbrev pub second_row : PlainTy → Result PlainTy Fault
second_row (PairOf a b) = Ok b
second_row _ = Err (Breaks rule.Project)

-- an array of arrays, joined to one array
abbrev pub join_row : List Name → PlainTy → Result PlainTy Fault
join_row names (ArrayOf (ArrayOf a m) n) = and_then (within (times n m)) (λ l. formed names a l)
join_row names _ = Err (Breaks rule.Join)

-- an array of arrays, with its two lengths exchanged
abbrev pub transpose_row : List Name → PlainTy → Result PlainTy Fault
transpose_row names (ArrayOf (ArrayOf a m) n) =
    and_then (formed names a n) (λ row. formed names row m)
transpose_row names _ = Err (Breaks rule.Transpose)

-- pieces of length m of an array that has the quotient of them
abbrev pub pieces_row : List Name → PlainTy → List Monomial → Option (List Monomial)
    → Result PlainTy Fault
pieces_row names a m None = Err (Breaks rule.Split)
pieces_row names a m (Some q) = and_then (formed names a m) (λ piece. formed names piece q)

-- an array in pieces of the length m
abbrev pub split_row : List Name → List Monomial → PlainTy → Result PlainTy Fault
split_row names m (ArrayOf a n) = pieces_row names a m (exact_quotient m n)
split_row names m _ = Err (Breaks rule.Split)

-- an array in the opposite order, of the same type
abbrev pub reverse_row : PlainTy → Result PlainTy Fault
reverse_row (ArrayOf a n) = Ok (ArrayOf a n)
reverse_row _ = Err (Breaks rule.Reverse)

-- the array itself, where its length has a quotient
abbrev pub strided_row : PlainTy → List Monomial → Option (List Monomial) → Result PlainTy Fault
strided_row a n None = Err (Breaks rule.Stride)
strided_row a n (Some q) = Ok (ArrayOf a n)

-- an array read in strides of m, of the same type
abbrev pub stride_row : List Monomial → PlainTy → Result PlainTy Fault
stride_row m (ArrayOf a n) = strided_row a n (exact_quotient m n)
stride_row m _ = Err (Breaks rule.Stride)

-- as many vectors as the quotient says, where there is one
abbrev pub vectors_row : List Name → Option (List Monomial) → Result PlainTy Fault
vectors_row names None = Err (Breaks rule.Split)
vectors_row names (Some q) = formed names U32x4 q

-- an array of numbers in vectors of four
abbrev pub as_vector_row : List Name → PlainTy → Result PlainTy Fault
as_vector_row names (ArrayOf U32 n) = vectors_row names (exact_quotient (constant 4) n)
as_vector_row names _ = Err (Breaks rule.Split)

-- the numbers of an array of vectors
abbrev pub as_scalar_row : List Name → PlainTy → Result PlainTy Fault
as_scalar_row names (ArrayOf U32x4 n) =
    and_then (within (times n (constant 4))) (λ l. formed names U32 l)
as_scalar_row names _ = Err (Breaks rule.Join)

-- what each layout makes of a type
abbrev pub layout_row : List Name → layout.Layout → PlainTy → Result PlainTy Fault
layout_row names Join a = join_row names a
layout_row names Transpose a = transpose_row names a
layout_row names (Split fs) a =
    and_then (product_judged names (constant 1) fs) (λ m. split_row names m a)
layout_row names Reverse a = reverse_row a
layout_row names (Stride fs) a =
    and_then (product_judged names (constant 1) fs) (λ m. stride_row m a)
layout_row names AsVector a = as_vector_row names a
layout_row names AsScalar a = as_scalar_row names a

-- windows of length s, one more than the steps that fit
abbrev pub windows_row : List Name → PlainTy → ℕ → Option (List Monomial) → Result PlainTy Fault
windows_row names a s None = Err (Breaks rule.Slide)
windows_row names a s (Some q) =
    and_then (formed names a (constant s)) (λ window.
    and_then (within (plus q (constant 1))) (λ n. formed names window n))

-- an array's windows of this size, each so many elements behind the one before
abbrev pub slide_row : List Name → (size step : ℕ) → PlainTy → Result PlainTy Fault
slide_row names s t (ArrayOf a n) =
    and_then (within (minus n (constant s))) (λ left.
    and_then (demand (is_shown 0 names left) rule.Slide) (λ _.
    windows_row names a s (exact_quotient (constant t) left)))
slide_row names s t _ = Err (Breaks rule.Slide)

-- an array with so many elements more before and after it
abbrev pub pad_row : List Name → (before after : ℕ) → PlainTy → Result PlainTy Fault
pad_row names l r (ArrayOf a n) =
    and_then (within (plus (constant l) n)) (λ m.
    and_then (within (plus m (constant r))) (λ k. formed names a k))
pad_row names l r _ = Err (Breaks rule.Pad)

-- the type of a node with one child, from the child's type
abbrev pub unary_row : List Name → UnaryForm → PlainTy → Result PlainTy Fault
unary_row names (Div n) a = numeric_row a
unary_row names (Rem n) a = numeric_row a
unary_row names First a = first_row a
unary_row names Second a = second_row a
unary_row names (Layout l) a = layout_row names l a
unary_row names (Slide s t) a = slide_row names s t a
unary_row names (Pad l r) a = pad_row names l r a
unary_row names ToLocal a = Ok a
unary_row names ToPrivate a = Ok a
unary_row names Then a = Ok a

-- the type of an operator of which an operand is a vector: it acts lane by lane
abbrev pub lanes_row : Operator → Result PlainTy Fault
lanes_row o = and_then (demand (is_lane_operator o) rule.Operator) (λ _. Ok U32x4)

-- the type of an operator on two operands, numbers or vectors
abbrev pub operator_row : Operator → PlainTy → PlainTy → Result PlainTy Fault
operator_row o U32 U32 = Ok U32
operator_row o U32 U32x4 = lanes_row o
operator_row o U32x4 U32 = lanes_row o
operator_row o U32x4 U32x4 = lanes_row o
operator_row o _ _ = Err (Breaks rule.Operator)

-- the type of a pair of two elements
abbrev pub pair_row : PlainTy → PlainTy → Result PlainTy Fault
pair_row a b = and_then (demand (is_element a && is_element b) rule.Pair) (λ _. Ok (PairOf a b))

-- the type of two arrays of one length, element by element
abbrev pub zip_row : List Name → PlainTy → PlainTy → Result PlainTy Fault
zip_row names (ArrayOf a n) (ArrayOf b m) =
    and_then (demand (is_same n m) rule.Zip) (λ _. formed names (PairOf a b) n)
zip_row names _ _ = Err (Breaks rule.Zip)

-- the type of a reduction, from its array's type and its start's
abbrev pub reduce_row : List Name → PlainTy → PlainTy → Result PlainTy Fault
reduce_row names (ArrayOf U32 n) U32 = formed names U32 (constant 1)
reduce_row names _ _ = Err (Breaks rule.Reduce)

-- the type of a node with two children, from the children's types
abbrev pub binary_row : List Name → BinaryForm → PlainTy → PlainTy → Result PlainTy Fault
binary_row names (binary.Operator o) a b = operator_row o a b
binary_row names binary.Pair a b = pair_row a b
binary_row names binary.Zip a b = zip_row names a b
binary_row names (binary.Reduce r) a b = reduce_row names a b

-- the type of a choice between two numbers by a third
abbrev pub select_row : PlainTy → PlainTy → PlainTy → Result PlainTy Fault
select_row a b c =
    and_then (number_row a) (λ _. and_then (number_row b) (λ _. number_row c))

-- the element type of an array, which the rule demands
abbrev pub element_in : Rule → PlainTy → Result PlainTy Fault
element_in r (ArrayOf a n) = Ok a
element_in r _ = Err (Breaks r)

-- a map's type, from its array's and its body's
abbrev pub map_end : List Name → PlainTy → PlainTy → Result PlainTy Fault
map_end names (ArrayOf a n) b = formed names b n
map_end names _ b = Err (Breaks rule.Map)

-- the element type that a fold's body is given, from its array's type and its start's
abbrev pub fold_start : PlainTy → PlainTy → Result PlainTy Fault
fold_start a s =
    and_then (element_in rule.Fold a) (λ x. and_then (demand (is_element s) rule.Fold) (λ _. Ok x))

-- a fold's type, from its start's and its body's
abbrev pub fold_end : List Name → PlainTy → PlainTy → Result PlainTy Fault
fold_end names s b =
    and_then (demand (is_same_element s b) rule.Fold) (λ _. formed names s (constant 1))

-- ---- terms

-- the answer, or its fault as one of the node itself
abbrev pub here : {A : Type 0} → Result A Fault → Result A NodeFault
here (Ok a) = Ok a
here (Err f) = Err (record { place = []; fault = f })

-- the answer, or its fault as one of the child of this number
abbrev pub under : {A : Type 0} → ℕ → Result A NodeFault → Result A NodeFault
under i (Ok a) = Ok a
under i (Err f) = Err (record { place = i ∷ f.place; fault = f.fault })

-- a node with one child, from it
abbrev pub unary_node : List Name → UnaryForm → Annotation → Result Annotation NodeFault
unary_node names f n = and_then (here (unary_row names f (type_in n))) (λ a. Ok (One a n))

-- a node with two children, from them
abbrev pub binary_node : List Name → BinaryForm → (n m : Annotation) → Result Annotation NodeFault
binary_node names f n m =
    and_then (here (binary_row names f (type_in n) (type_in m))) (λ a. Ok (Two a n m))

-- a choice, from its three children
abbrev pub select_node : (n m k : Annotation) → Result Annotation NodeFault
select_node n m k =
    and_then (here (select_row (type_in n) (type_in m) (type_in k))) (λ a. Ok (Three a n m k))

-- a map, from its array and its body
abbrev pub map_node : List Name → (array body : Annotation) → Result Annotation NodeFault
map_node names n m =
    and_then (here (map_end names (type_in n) (type_in m))) (λ a. Ok (Two a n m))

-- a fold, from its array, its start and its body
abbrev pub fold_node : List Name → (array start body : Annotation) → Result Annotation NodeFault
fold_node names n m k =
    and_then (here (fold_end names (type_in m) (type_in k))) (λ a. Ok (Three a n m k))

-- the types of all nodes under binders of these types; or the first fault, and its place
abbrev pub judged : Declared → List PlainTy → Tree → Result Annotation NodeFault
judged d g (Variable n) = Ok (Leaf (nth_type g n))
judged d g (Number n) = Ok (Leaf U32)
judged d g (Input n) = Ok (Leaf (nth_type d.inputs n))
judged d g (Unary f t) = and_then (under 0 (judged d g t)) (λ n. unary_node d.names f n)
judged d g (Binary f t u) =
    and_then (under 0 (judged d g t)) (λ n.
    and_then (under 1 (judged d g u)) (λ m. binary_node d.names f n m))
judged d g (Select t u v) =
    and_then (under 0 (judged d g t)) (λ n.
    and_then (under 1 (judged d g u)) (λ m.
    and_then (under 2 (judged d g v)) (λ k. select_node n m k)))
judged d g (Let v b) =
    and_then (under 0 (judged d g v)) (λ n.
    and_then (under 1 (judged d (type_in n ∷ g) b)) (λ m. Ok (Two (type_in m) n m)))
judged d g (Map k xs b) =
    and_then (under 0 (judged d g xs)) (λ n.
    and_then (here (element_in rule.Map (type_in n))) (λ x.
    and_then (under 1 (judged d (x ∷ g) b)) (λ m. map_node d.names n m)))
judged d g (Fold k xs s b) =
    and_then (under 0 (judged d g xs)) (λ n.
    and_then (under 1 (judged d g s)) (λ m.
    and_then (here (fold_start (type_in n) (type_in m))) (λ x.
    and_then (under 2 (judged d (x ∷ type_in m ∷ g) b)) (λ k. fold_node d.names n m k))))

-- ---- programs

-- the type that is written for an input
abbrev pub input_judged : List Name → Written → Result PlainTy Fault
input_judged names written.Number = Ok U32
input_judged names (written.Pair a b) =
    and_then (input_judged names a) (λ x. and_then (input_judged names b) (λ y. Ok (PairOf x y)))
input_judged names (written.Array a n) =
    and_then (input_judged names a) (λ x. and_then (sum_judged names [] n) (λ m. formed names x m))

-- the refusal that a fault at the spot is
abbrev pub refusal_at : Spot → Fault → TypeRefusal
refusal_at s (Breaks r) = refusal.IllTyped s r
refusal_at s (Passes l n) = refusal.Limit l s n
refusal_at s Memory = refusal.Memory

-- the answer, or its fault as one of the input of this number
abbrev pub at_input : {A : Type 0} → ℕ → Result A Fault → Result A TypeRefusal
at_input i (Ok a) = Ok a
at_input i (Err f) = Err (refusal_at (spot.Input i) f)

-- the answer, or its fault as one of the node at its place
abbrev pub at_node : {A : Type 0} → Result A NodeFault → Result A TypeRefusal
at_node (Ok a) = Ok a
at_node (Err f) = Err (refusal_at (spot.Node f.place) f.fault)

-- the inputs' types, from the number i on
abbrev pub inputs_judged : List Name → ℕ → List PlainInput → Result (List PlainTy) TypeRefusal
inputs_judged names i [] = Ok []
inputs_judged names i (x ∷ xs) =
    and_then (at_input i (input_judged names x.ty)) (λ a.
    and_then (inputs_judged names (suc i) xs) (λ types. Ok (a ∷ types)))

-- the whole's types, which has to be an output's
abbrev pub output_judged : Annotation → Result Annotation NodeFault
output_judged n = and_then (here (demand (is_output (type_in n)) rule.Output)) (λ _. Ok n)

-- the inputs in order, then the term, at last the output's type
abbrev pub program_judged : PlainProgram → Tree → Result Annotation TypeRefusal
program_judged p t =
    let names = map range_of p.sizes in
    and_then (inputs_judged names 0 p.inputs) (λ inputs.
    at_node (and_then (judged (record { names = names; inputs = inputs }) [] t) output_judged))

-- these types are those that its inputs are judged to have
abbrev pub AreInputs : PlainProgram → List PlainTy → Type 0
AreInputs p types =
    (length types ≡ length p.inputs) × (inputs_judged (map range_of p.sizes) 0 p.inputs ≡ Ok types)
