-- The rows are the grammar's: at each piece a form has at most one alternative. A reader of kernels
-- gives this proof as its law `decides`, and a law's proof has to stand among the definitions.
use Rattle.std.proofs.Common.{◌≡◌, ℕ, zero, suc, ◌*◌, ◌^◌, ◌<◌, ◌≤◌, List, [], ◌∷◌, ◌++◌, Option, Some, None, Bool, true, false, cond, refl, ap, sym, ◌∙◌, subst, inl, inr, length, replicate, arith, lit≤, lit<}
use Rattle.std.specs.Prelude.{bytes_eq, nat_eq, nat_lt, nat_le, not, ◌&&◌, ◌⊎◌, option_map, option_and_then, decimal, codes}
use Rattle.std.proofs.lemmas.Bool.{ltb-true, lt-ltb, leb-true, le-leb, eqb-true, eq-eqb, and_from, and_parts}
use Rattle.std.proofs.lemmas.Option.{same_Some, cond_some}
use Rattle.std.proofs.lemmas.List.{length-replicate}
use Rattle.readings.specs.Readings.{Token, Form, Mark}
use Rattle.readings.specs.Running.{Decides}
use Rattle.scalar_ops.specs.declared.op.Op.{Op}
use Rattle.kernel_tree.specs.declared.tree.Array as held
use Rattle.kernel_tree.specs.declared.tree.Array.TheVariants as array
use Rattle.kernel_tree.specs.declared.tree.Dimension.{Dimension}
use Rattle.kernel_tree.specs.declared.tree.Dimension.TheVariants.{X, Y}
use Rattle.kernel_tree.specs.Formula.{IdForm, GlobalId, GroupId, LocalId, GlobalSize, GroupCount, LocalSize, Formula, Id}
use Rattle.kernel_tree.specs.Formula as formula
use Rattle.kernel_tree.specs.Code as code
use Rattle.kernel_tree.specs.Grammar.{deepest, is_readable, is_writable, is_shared, largest_group}
use Rattle.kernel_tree.specs.Tree.{array_of}
use Rattle.kernel_tree.specs.KernelText.{Piece, space, comma, equals, less, greater, opens, closes, index_ends, block_ends, global, local, const, uint, uint4, loads_four, stores_four, for, whether, barrier, local_flag, global_flag, dimension, void, attribute, id_name, indent, array_name, array_number, size, variable, vector, loop_variable, literal, zero_literal, one_literal, number_limit, Part, Launching, GroupWidth, GroupHeight, Parameter, Pointer, NewInput, NewOutput, AfterOutput, OutputOrSize, NewSize, AfterSize, Locals, NewLocal, LocalLength, Privates, Declared, PrivateLength, Variables, NewVariable, Vectors, NewVector, Statement, Next, Source, SourceOfFour, LoadedFour, StoredFour, Fence, AfterLocal, Beginning, BeginningId, BeginningAlong, Step, StepId, StepAlong, Turn, Indent, Value, Opened, InLanes, LanesOpened, LanesRest, LanesAfterLess, IdName, IdAlong, Rest, AfterLess, Note, DeclareLocal, DeclarePrivate, Leaf, Assign, AssignFour, LoadFour, StoreFour, Notes, counted, Item, Names, a_variable, a_loop_variable, a_size, IsSign, adds, subtracts, multiplies, divides, leaves, ands, ors, xors, IsCall, takes_least, takes_greatest, is_id, start_at, stride_by, stored, another_line, loop_head, loop_body, guard_head, after_start, in_dimension, operated, operated_each, Gives, any_group, fixed_group, group_width, group_height, an_input, pointer_to_const, pointer, new_input, new_output, last_output, more_outputs, another_output, first_size, new_size, last_size, more_sizes, a_local, no_local, new_local, local_length, a_declaration, no_declaration, new_private, first_variable, private_length, another_variable, no_variable, new_variable, a_vector, statements, new_vector, assign, store, loop, guard, meet, load, value, assign_four, load_four, loaded_four, value_of_four, store_four, stored_four, another, end, end_of_block, indented, fences_local, fences_global, local_alone, fences_both, turn, from_zero, from_id, from_this_id, from_along, by_one, by_count, by_this_count, by_along, number, named_value, call, open_value, an_id, both, this_id, id_along, sign, shift_right, equal, less_or_shift, shift_left, is_less, vector_value, lanes_call, open_lanes, spread_out, both_lanes, lanes_sign, lanes_right, lanes_less, lanes_left, kernels}
use Rattle.kernel_spelling.specs.declared.kinds.Kind.{Kind}
use Rattle.kernel_spelling.specs.declared.kinds.Kind.TheVariants.{Array, Size, Variable, Vector, LoopVariable, Literal, Decimal, Other}
use Rattle.kernel_spelling.specs.Kinds.{number_in, named_in, literal_in, kind_or, number_kind, array_kind, kind_of, beside, ids, signs, calls, dimensions, id_in, sign_in, call_in, dimension_in}
use Rattle.kernel_spelling.specs.Rows.{width_row, height_row, is_next, new_input_row, new_output_row, new_size_row, leaf, calling, whole_row, value_row, opened_row, id_row, id_along_row, rest_row, calling_each, whole_lanes_row, lanes_row, lanes_opened_row, lanes_rest_row, storing, loading, storing_four, statement_row, source_row, source_of_four_row, loaded_four_row, stored_four_row, end_row, next_row, turn_row, beginning_id_row, beginning_along_row, step_id_row, step_along_row, new_variable_row, new_local_row, declared_row, length_row, new_vector_row, vectors_row, privates_row, row, table}
use Rattle.kernel_spelling.specs.Numbers.{itself, same, number_decimal, number_is, cond_then, named_is, literal_is, literal_spelled, not_named, no_name, no_literal, no_number}

-- ---- kinds

abbrev Spelled : Piece → Kind → Type 0
Spelled p (Array a) = (array_number (array_of a) < 2 ^ 32) × (p ≡ array_name (array_of a))
Spelled p (Size k) = (k < 2 ^ 32) × (p ≡ size k)
Spelled p (Variable k) = (k < 2 ^ 32) × (p ≡ variable k)
Spelled p (Vector k) = (k < 2 ^ 32) × (p ≡ vector k)
Spelled p (LoopVariable k) = (k < 2 ^ 32) × (p ≡ loop_variable k)
Spelled p (Literal v) = (v < 2 ^ 32) × (p ≡ literal v)
Spelled p (Decimal v) = (v < 2 ^ 32) × (p ≡ decimal v)
Spelled p Other = Unit {0}

or_spelled : (p : Piece) (f : ℕ → Kind) (o : Option ℕ) (rest : Kind)
    → ((k : ℕ) → o ≡ Some k → Spelled p (f k)) → Spelled p rest → Spelled p (kind_or f o rest)
or_spelled p f (Some k) rest h g = h k refl
or_spelled p f None rest h g = g

kind_spelled : (p : Piece) → Spelled p (kind_of p)
kind_spelled p =
    or_spelled p Variable (named_in 118 p) _ (named_is 118 p) (
    or_spelled p Vector (named_in 119 p) _ (named_is 119 p) (
    or_spelled p LoopVariable (named_in 105 p) _ (named_is 105 p) (
    or_spelled p Size (named_in 115 p) _ (named_is 115 p) (
    or_spelled p (λ k. Array (array.Input k)) (named_in 97 p) _ (named_is 97 p) (
    or_spelled p (λ k. Array (array.Output k)) (named_in 111 p) _ (named_is 111 p) (
    or_spelled p (λ k. Array (array.Local k)) (named_in 108 p) _ (named_is 108 p) (
    or_spelled p (λ k. Array (array.Private k)) (named_in 112 p) _ (named_is 112 p) (
    or_spelled p Literal (literal_in p) _ (literal_is p) (
    or_spelled p Decimal (number_in p) Other (number_is p) tt)))))))))

abbrev from_private : Piece → Kind
from_private p = kind_or (λ k. Array (array.Private k)) (named_in 112 p) (number_kind p)

abbrev from_local : Piece → Kind
from_local p = kind_or (λ k. Array (array.Local k)) (named_in 108 p) (from_private p)

abbrev from_output : Piece → Kind
from_output p = kind_or (λ k. Array (array.Output k)) (named_in 111 p) (from_local p)

abbrev from_size : Piece → Kind
from_size p = kind_or Size (named_in 115 p) (array_kind p)

abbrev from_loop_variable : Piece → Kind
from_loop_variable p = kind_or LoopVariable (named_in 105 p) (from_size p)

abbrev from_vector : Piece → Kind
from_vector p = kind_or Vector (named_in 119 p) (from_loop_variable p)

variable_kind : (k : ℕ) → k < 2 ^ 32 → kind_of (variable k) ≡ Variable k
variable_kind k h = ap (λ o. kind_or Variable o (from_vector (variable k))) (number_decimal k h)

vector_kind : (k : ℕ) → k < 2 ^ 32 → kind_of (vector k) ≡ Vector k
vector_kind k h = ap (λ o. kind_or Vector o (from_loop_variable (vector k))) (number_decimal k h)

loop_variable_kind : (k : ℕ) → k < 2 ^ 32 → kind_of (loop_variable k) ≡ LoopVariable k
loop_variable_kind k h =
    ap (λ o. kind_or LoopVariable o (from_size (loop_variable k))) (number_decimal k h)

size_kind : (k : ℕ) → k < 2 ^ 32 → kind_of (size k) ≡ Size k
size_kind k h = ap (λ o. kind_or Size o (array_kind (size k))) (number_decimal k h)

abbrev held_of : code.Array → held.Array
held_of (code.Input k) = array.Input k
held_of (code.Output k) = array.Output k
held_of (code.Local k) = array.Local k
held_of (code.Private k) = array.Private k

held_is : (a : code.Array) → array_of (held_of a) ≡ a
held_is (code.Input k) = refl
held_is (code.Output k) = refl
held_is (code.Local k) = refl
held_is (code.Private k) = refl

array_kind_is : (a : code.Array) → array_number a < 2 ^ 32
    → kind_of (array_name a) ≡ Array (held_of a)
array_kind_is (code.Input k) h =
    ap (λ o. kind_or (λ k. Array (array.Input k)) o (from_output (array_name (code.Input k))))
    (number_decimal k h)
array_kind_is (code.Output k) h =
    ap (λ o. kind_or (λ k. Array (array.Output k)) o (from_local (array_name (code.Output k))))
    (number_decimal k h)
array_kind_is (code.Local k) h =
    ap (λ o. kind_or (λ k. Array (array.Local k)) o (from_private (array_name (code.Local k))))
    (number_decimal k h)
array_kind_is (code.Private k) h =
    ap (λ o. kind_or (λ k. Array (array.Private k)) o (number_kind (array_name (code.Private k))))
    (number_decimal k h)

-- a piece that is no name
unnamed : (p : Piece) → ((letter : ℕ) → 58 ≤ letter → named_in letter p ≡ None)
    → kind_of p ≡ number_kind p
unnamed p h =
    ap (λ o. kind_or Variable o (from_vector p)) (h 118 (lit≤ tt))
    ∙ ap (λ o. kind_or Vector o (from_loop_variable p)) (h 119 (lit≤ tt))
    ∙ ap (λ o. kind_or LoopVariable o (from_size p)) (h 105 (lit≤ tt))
    ∙ ap (λ o. kind_or Size o (array_kind p)) (h 115 (lit≤ tt))
    ∙ ap (λ o. kind_or (λ k. Array (array.Input k)) o (from_output p)) (h 97 (lit≤ tt))
    ∙ ap (λ o. kind_or (λ k. Array (array.Output k)) o (from_local p)) (h 111 (lit≤ tt))
    ∙ ap (λ o. kind_or (λ k. Array (array.Local k)) o (from_private p)) (h 108 (lit≤ tt))
    ∙ ap (λ o. kind_or (λ k. Array (array.Private k)) o (number_kind p)) (h 112 (lit≤ tt))

literal_kind : (v : ℕ) → v < 2 ^ 32 → kind_of (literal v) ≡ Literal v
literal_kind v h =
    unnamed (literal v) (λ letter high. not_named letter v high h)
    ∙ ap (λ o. kind_or Literal o (kind_or Decimal (number_in (literal v)) Other))
    (literal_spelled v h)

decimal_kind : (v : ℕ) → v < 2 ^ 32 → kind_of (decimal v) ≡ Decimal v
decimal_kind v h =
    unnamed (decimal v) (λ letter high. no_name letter v high h)
    ∙ ap (λ o. kind_or Literal o (kind_or Decimal (number_in (decimal v)) Other)) (no_literal v h)
    ∙ ap (λ o. kind_or Decimal o Other) (number_decimal v h)

-- the words and the parenthesis with which statements and expressions begin
word_kind : (b : ℕ) (bs : List ℕ) → (48 ≤ b → b ≤ 57 → ⊥)
    → kind_or Decimal (number_in (b ∷ bs)) Other ≡ Other
word_kind b bs apart = ap (λ o. kind_or Decimal o Other) (no_number b bs apart)

past_digits : (b : ℕ) → 58 ≤ b → 48 ≤ b → b ≤ 57 → ⊥
past_digits b high h k = omega (arith, high, k)

for_kind : kind_of for ≡ Other
for_kind = word_kind 102 (codes "or") (past_digits 102 (lit≤ tt))

barrier_kind : kind_of barrier ≡ Other
barrier_kind = word_kind 98 (codes "arrier") (past_digits 98 (lit≤ tt))

if_kind : kind_of whether ≡ Other
if_kind =
    ap (λ o. kind_or LoopVariable o (from_size whether))
    (no_number 102 [] (past_digits 102 (lit≤ tt)))
    ∙ word_kind 105 (codes "f") (past_digits 105 (lit≤ tt))

stores_kind : kind_of stores_four ≡ Other
stores_kind =
    ap (λ o. kind_or Variable o (from_vector stores_four))
    (no_number 115 (codes "tore4") (past_digits 115 (lit≤ tt)))
    ∙ word_kind 118 (codes "store4") (past_digits 118 (lit≤ tt))

uint_kind : kind_of uint ≡ Other
uint_kind = word_kind 117 (codes "int") (past_digits 117 (lit≤ tt))

call_kind : (p : Piece) (op : Op) → IsCall p op → kind_of p ≡ Other
call_kind p op takes_least = word_kind 109 (codes "in") (past_digits 109 (lit≤ tt))
call_kind p op takes_greatest = word_kind 109 (codes "ax") (past_digits 109 (lit≤ tt))

opens_kind : kind_of opens ≡ Other
opens_kind = word_kind 40 [] (λ h k. let w : 48 ≤ 40 = h in omega (arith, w))

-- ---- tests

split : {A : Type 0} (b : Bool) (p q r : A) → cond b p q ≡ r
    → ((b ≡ true) × (p ≡ r)) ⊎ ((b ≡ false) × (q ≡ r))
split true p q r e = inl (refl, e)
split false p q r e = inr (refl, e)

holding : {A : Type 0} (b : Bool) (x y : A) → b ≡ true → cond b x y ≡ x
holding b x y e = ap (λ v. cond v x y) e

pass : {A : Type 0} (b : Bool) (x y : A) → b ≡ false → cond b x y ≡ y
pass b x y e = ap (λ v. cond v x y) e

differ : (a b : Piece) → (a ≡ b → ⊥) → bytes_eq a b ≡ false
differ a b h = at_test (bytes_eq a b) refl where
  at_test : (v : Bool) → bytes_eq a b ≡ v → bytes_eq a b ≡ false
  at_test true e = absurd (h (same a b e))
  at_test false e = e

indents : (l m : ℕ) → indent l ≡ indent m → l ≡ m
indents l m e =
    let k : length (replicate (2 * l) 32) ≡ length (replicate (2 * m) 32) = ap length e in
    omega (arith, k, length-replicate {A = ℕ} (2 * l) 32, length-replicate {A = ℕ} (2 * m) 32)

-- a test of bytes that holds, in the place of a piece
in_place : (n : Notes) (f : Part) (p w : Piece) (x alt : List Item) → bytes_eq p w ≡ true
    → Some x ≡ Some alt → Gives n f w x → Gives n f p alt
in_place n f p w x alt h e g =
    subst (λ z. Gives n f z alt) (sym (same p w h)) (subst (Gives n f w) (same_Some _ _ e) g)

only_one : (n : Notes) (f : Part) (p w : Piece) (x alt : List Item)
    → cond (bytes_eq p w) (Some x) None ≡ Some alt → Gives n f w x → Gives n f p alt
only_one n f p w x alt e g =
    let h = cond_some (bytes_eq p w) x alt e in in_place n f p w x alt h.0 (ap Some h.1) g

one_or : (n : Notes) (f : Part) (p w : Piece) (x alt : List Item) (other : Option (List Item))
    → cond (bytes_eq p w) (Some x) other ≡ Some alt → Gives n f w x
    → (other ≡ Some alt → Gives n f p alt) → Gives n f p alt
one_or n f p w x alt other e g rest = elim (split (bytes_eq p w) (Some x) other (Some alt) e) [
  | inl h ↦ in_place n f p w x alt h.0 h.1 g
  | inr h ↦ rest h.1
]

either : (n : Notes) (f : Part) (p v w : Piece) (x y alt : List Item)
    → cond (bytes_eq p v) (Some x) (cond (bytes_eq p w) (Some y) None) ≡ Some alt → Gives n f v x
    → Gives n f w y → Gives n f p alt
either n f p v w x y alt e g k = one_or n f p v x alt _ e g (λ h. only_one n f p w y alt h k)

map_some : {A B : Type 0} (f : A → B) (o : Option A) (y : B) → option_map f o ≡ Some y
    → (x : A) × (o ≡ Some x) × (f x ≡ y)
map_some f None y e = absurd (cc (e))
map_some f (Some x) y e = (x, refl, same_Some _ _ e)

then_some : {A B : Type 0} (f : A → Option B) (o : Option A) (y : B) → option_and_then f o ≡ Some y
    → (x : A) × (o ≡ Some x) × (f x ≡ Some y)
then_some f None y e = absurd (cc (e))
then_some f (Some x) y e = (x, refl, e)

-- ---- words and signs

abbrev Each : {A : Type 0} → (Piece → A → Type 0) → List (Piece × A) → Type 0
Each P [] = Unit {0}
Each P (x ∷ xs) = P x.0 x.1 × Each P xs

beside_is : {A : Type 0} (P : Piece → A → Type 0) (xs : List (Piece × A)) (p : Piece) (x : A)
    → Each P xs → beside xs p ≡ Some x → P p x
beside_is P [] p x h e = absurd (cc (e))
beside_is P (w ∷ ws) p x h e = elim (split (bytes_eq p w.0) (Some w.1) (beside ws p) (Some x) e) [
  | inl q ↦ subst (λ z. P z x) (sym (same p w.0 q.0)) (subst (P w.0) (same_Some _ _ q.1) h.0)
  | inr q ↦ beside_is P ws p x h.1 q.1
]

id_is : (p : Piece) (form : IdForm) → id_in p ≡ Some form → p ≡ id_name form
id_is p form e =
    beside_is (λ p form. p ≡ id_name form) ids p form
    (refl, (refl, (refl, (refl, (refl, (refl, tt)))))) e

sign_is : (p : Piece) (op : Op) → sign_in p ≡ Some op → IsSign p op
sign_is p op e =
    beside_is IsSign signs p op
    (adds, (subtracts, (multiplies, (divides, (leaves, (ands, (ors, (xors, tt)))))))) e

call_is : (p : Piece) (op : Op) → call_in p ≡ Some op → IsCall p op
call_is p op e = beside_is IsCall calls p op (takes_least, (takes_greatest, tt)) e

dimension_is : (p : Piece) (d : Dimension) → dimension_in p ≡ Some d → p ≡ dimension d
dimension_is p d e = beside_is (λ p d. p ≡ dimension d) dimensions p d (refl, (refl, tt)) e

named_dimension : (d : Dimension) → dimension_in (dimension d) ≡ Some d
named_dimension X = refl
named_dimension Y = refl

named_id : (form : IdForm) → id_in (id_name form) ≡ Some form
named_id GlobalId = refl
named_id GroupId = refl
named_id LocalId = refl
named_id GlobalSize = refl
named_id GroupCount = refl
named_id LocalSize = refl

signed : (p : Piece) (op : Op) → IsSign p op → sign_in p ≡ Some op
signed p op adds = refl
signed p op subtracts = refl
signed p op multiplies = refl
signed p op divides = refl
signed p op leaves = refl
signed p op ands = refl
signed p op ors = refl
signed p op xors = refl

-- a sign begins nothing else
no_other : (p : Piece) (op : Op) → IsSign p op
    → (bytes_eq p less ≡ false) × (bytes_eq p greater ≡ false) × (bytes_eq p equals ≡ false)
no_other p op adds = (refl, refl, refl)
no_other p op subtracts = (refl, refl, refl)
no_other p op multiplies = (refl, refl, refl)
no_other p op divides = (refl, refl, refl)
no_other p op leaves = (refl, refl, refl)
no_other p op ands = (refl, refl, refl)
no_other p op ors = (refl, refl, refl)
no_other p op xors = (refl, refl, refl)

-- ---- what a row has is in the grammar

next_name : (k count : ℕ) → is_next k count ≡ true → (k ≡ count) × (suc count < 2 ^ 32)
next_name k count e =
    let q = and_parts (nat_eq k count) (nat_lt (suc count) number_limit) e in
    (eqb-true k count q.0, ltb-true (suc count) (2 ^ 32) q.1)

-- a new name of the kind f
found_new : (n : Notes) (f : Part) (p : Piece) (name : ℕ → Piece) (k count : ℕ) (x alt : List Item)
    → p ≡ name k → cond (is_next k count) (Some x) None ≡ Some alt
    → (suc count < 2 ^ 32 → Gives n f (name count) x) → Gives n f p alt
found_new n f p name k count x alt s e g =
    let h = cond_some (is_next k count) x alt e in
    let q = next_name k count h.0 in
    subst (λ z. Gives n f z alt) (sym (s ∙ ap name q.0))
    (subst (Gives n f (name count)) h.1 (g q.1))

found_input : (n : Notes) (p : Piece) (kind : Kind) (alt : List Item) → Spelled p kind
    → new_input_row n kind ≡ Some alt → Gives n NewInput p alt
found_input n p (Array (array.Input k)) alt s e =
    found_new n NewInput p (λ k. array_name (code.Input k)) k n.inputs _ alt s.1 e
    (λ small. new_input small)
found_input n p _ alt s e = absurd (cc (e))

found_output : (n : Notes) (p : Piece) (kind : Kind) (alt : List Item) → Spelled p kind
    → new_output_row n kind ≡ Some alt → Gives n NewOutput p alt
found_output n p (Array (array.Output k)) alt s e =
    found_new n NewOutput p (λ k. array_name (code.Output k)) k n.outputs _ alt s.1 e
    (λ small. new_output small)
found_output n p _ alt s e = absurd (cc (e))

found_size : (n : Notes) (p : Piece) (kind : Kind) (alt : List Item) → Spelled p kind
    → new_size_row n kind ≡ Some alt → Gives n NewSize p alt
found_size n p (Size k) alt s e =
    found_new n NewSize p size k n.sizes _ alt s.1 e (λ small. new_size small)
found_size n p _ alt s e = absurd (cc (e))

found_variable : (n : Notes) (p : Piece) (kind : Kind) (alt : List Item) → Spelled p kind
    → new_variable_row n kind ≡ Some alt → Gives n NewVariable p alt
found_variable n p (Variable k) alt s e =
    found_new n NewVariable p variable k n.variables _ alt s.1 e (λ small. new_variable small)
found_variable n p _ alt s e = absurd (cc (e))

found_vector : (n : Notes) (p : Piece) (kind : Kind) (alt : List Item) → Spelled p kind
    → new_vector_row n kind ≡ Some alt → Gives n NewVector p alt
found_vector n p (Vector k) alt s e =
    found_new n NewVector p vector k n.vectors _ alt s.1 e (λ small. new_vector small)
found_vector n p _ alt s e = absurd (cc (e))

found_local : (n : Notes) (p : Piece) (kind : Kind) (alt : List Item) → Spelled p kind
    → new_local_row n kind ≡ Some alt → Gives n NewLocal p alt
found_local n p (Array (array.Local k)) alt s e =
    found_new n NewLocal p (λ k. array_name (code.Local k)) k (length n.locals) _ alt s.1 e
    (λ small. new_local small)
found_local n p _ alt s e = absurd (cc (e))

found_declared : (n : Notes) (p : Piece) (kind : Kind) (alt : List Item) → Spelled p kind
    → declared_row n kind ≡ Some alt → Gives n Declared p alt
found_declared n p (Array (array.Private k)) alt s e =
    found_new n Declared p (λ k. array_name (code.Private k)) k (length n.privates) _ alt s.1 e
    (λ small. new_private small)
found_declared n p (Array (array.Input k)) alt s e = absurd (cc (e))
found_declared n p (Array (array.Output k)) alt s e = absurd (cc (e))
found_declared n p (Array (array.Local k)) alt s e = absurd (cc (e))
found_declared n p (Variable k) alt s e = first_variable (found_variable n p (Variable k) alt s e)
found_declared n p (Vector k) alt s e = absurd (cc (e))
found_declared n p (Size k) alt s e = absurd (cc (e))
found_declared n p (LoopVariable k) alt s e = absurd (cc (e))
found_declared n p (Literal v) alt s e = absurd (cc (e))
found_declared n p (Decimal v) alt s e = absurd (cc (e))
found_declared n p Other alt s e = absurd (cc (e))

found_length : (n : Notes) (note : ℕ → Note) (f g : Part) (p : Piece) (kind : Kind)
    (alt : List Item)
    → Spelled p kind → length_row note g kind ≡ Some alt
    →
    ((v : ℕ) → 0 < v → v < 2 ^ 32
    → Gives n f (decimal v) (Mark (note v) ∷ Token index_ends ∷ another_line g))
    → Gives n f p alt
found_length n note f g p (Decimal v) alt s e has =
    let h = cond_some (nat_lt 0 v) _ alt e in
    subst (λ z. Gives n f z alt) (sym s.1)
    (subst (Gives n f (decimal v)) h.1 (has v (ltb-true 0 v h.0) s.0))
found_length n note f g p _ alt s e has = absurd (cc (e))

found_width : (n : Notes) (p : Piece) (kind : Kind) (alt : List Item) → Spelled p kind
    → width_row kind ≡ Some alt → Gives n GroupWidth p alt
found_width n p (Decimal v) alt s e =
    let h = cond_some (nat_lt 0 v && nat_le v largest_group) _ alt e in
    let q = and_parts (nat_lt 0 v) (nat_le v largest_group) h.0 in
    subst (λ z. Gives n GroupWidth z alt) (sym s.1)
    (subst (Gives n GroupWidth (decimal v)) h.1
    (group_width (ltb-true 0 v q.0) (leb-true v largest_group q.1)))
found_width n p _ alt s e = absurd (cc (e))

found_height : (n : Notes) (v : ℕ) (p : Piece) (kind : Kind) (alt : List Item) → Spelled p kind
    → height_row v kind ≡ Some alt → Gives n (GroupHeight v) p alt
found_height n v p (Decimal w) alt s e =
    let h = cond_some (nat_lt 0 w && nat_le (v * w) largest_group) _ alt e in
    let q = and_parts (nat_lt 0 w) (nat_le (v * w) largest_group) h.0 in
    subst (λ z. Gives n (GroupHeight v) z alt) (sym s.1)
    (subst (Gives n (GroupHeight v) (decimal w)) h.1
    (group_height (ltb-true 0 w q.0) s.0 (leb-true (v * w) largest_group q.1)))
found_height n v p _ alt s e = absurd (cc (e))

found_block : (n : Notes) (l nest : ℕ) (p : Piece) (alt : List Item)
    → cond (bytes_eq p whether) (cond (nat_lt nest deepest) (Some (guard_head l nest)) None)
    (cond (bytes_eq p barrier) (Some (Token opens ∷ Form (Fence l nest) ∷ []))
    (cond (bytes_eq p stores_four) (Some (storing_four l nest)) None))
    ≡ Some alt
    → Gives n (Statement l nest) p alt
found_block n l nest p alt e =
    elim
    (split (bytes_eq p whether) (cond (nat_lt nest deepest) (Some (guard_head l nest)) None) _
    (Some alt) e) [
      | inl h ↦ let q =
          cond_some (nat_lt nest deepest) (guard_head l nest) alt h.1 in in_place n
          (Statement l nest) p whether (guard_head l nest) alt h.0 (ap Some q.1)
          (guard (ltb-true nest deepest q.0))
      | inr h ↦ either n (Statement l nest) p barrier stores_four _ _ alt h.1 meet store_four
    ]

found_statement : (n : Notes) (l nest : ℕ) (p : Piece) (kind : Kind) (alt : List Item)
    → Spelled p kind → statement_row n l nest p kind ≡ Some alt → Gives n (Statement l nest) p alt
found_statement n l nest p (Variable k) alt s e =
    let h = cond_some (nat_lt k n.variables) _ alt e in
    subst (λ z. Gives n (Statement l nest) z alt) (sym s.1)
    (subst (Gives n (Statement l nest) (variable k)) h.1
    (assign s.0 (ltb-true k n.variables h.0)))
found_statement n l nest p (Vector k) alt s e =
    let h = cond_some (nat_lt k n.vectors) _ alt e in
    subst (λ z. Gives n (Statement l nest) z alt) (sym s.1)
    (subst (Gives n (Statement l nest) (vector k)) h.1
    (assign_four s.0 (ltb-true k n.vectors h.0)))
found_statement n l nest p (Array a) alt s e =
    let h = cond_some (is_writable (counted n) (array_of a)) _ alt e in
    subst (λ z. Gives n (Statement l nest) z alt) (sym s.1)
    (subst (Gives n (Statement l nest) (array_name (array_of a))) h.1
    (store {array = array_of a} s.0 h.0))
found_statement n l nest p Other alt s e =
    elim
    (split (bytes_eq p for) (cond (nat_lt nest deepest) (Some (loop_head l nest)) None) _
    (Some alt) e) [
      | inl h ↦ let q =
          cond_some (nat_lt nest deepest) (loop_head l nest) alt h.1 in in_place n
          (Statement l nest) p for (loop_head l nest) alt h.0 (ap Some q.1)
          (loop (ltb-true nest deepest q.0))
      | inr h ↦ found_block n l nest p alt h.1
    ]
found_statement n l nest p _ alt s e = absurd (cc (e))

found_leaf : (n : Notes) (b : Bool) (l d : ℕ) (p w : Piece) (may : Bool) (x : Formula)
    (alt : List Item)
    → leaf may x ≡ Some alt → p ≡ w → (may ≡ true → Gives n (Value b l d) w (Mark (Leaf x) ∷ []))
    → Gives n (Value b l d) p alt
found_leaf n b l d p w may x alt e is g =
    let h = cond_some may (Mark (Leaf x) ∷ []) alt e in
    subst (λ z. Gives n (Value b l d) z alt) (sym is) (subst (Gives n (Value b l d) w) h.1 (g h.0))

not_bound : (b : Bool) (n : Notes) (l d : ℕ) (w : Piece) (x : Formula) → not b ≡ true → d ≤ deepest
    → Names n false l w x → Gives n (Value b l d) w (Mark (Leaf x) ∷ [])
not_bound false n l d w x h deep known = named_value deep known
not_bound true n l d w x h deep known = absurd (cc (h))

found_whole : (n : Notes) (b : Bool) (l d : ℕ) (p : Piece) (alt : List Item) → d ≤ deepest
    → whole_row b l d p ≡ Some alt → Gives n (Value b l d) p alt
found_whole n b l d p alt deep e = one_or n (Value b l d) p opens _ alt _ e (open_value deep) (λ h.
    let q = map_some (calling b l (suc d)) (call_in p) alt h in
    subst (Gives n (Value b l d) p) q.2 (call deep (call_is p q.0 q.1)))

found_value : (n : Notes) (b : Bool) (l d : ℕ) (p : Piece) (kind : Kind) (alt : List Item)
    → Spelled p kind → value_row n b l d p kind ≡ Some alt → Gives n (Value b l d) p alt
found_value n b l d p (Variable k) alt s e =
    found_leaf n b l d p (variable k) _ (formula.Variable k) alt e s.1 (λ h.
    let q = and_parts (not b) (nat_lt k n.variables && nat_le d deepest) h in
    let r = and_parts (nat_lt k n.variables) (nat_le d deepest) q.1 in
    not_bound b n l d _ _ q.0 (leb-true d deepest r.1)
    (a_variable s.0 (ltb-true k n.variables r.0)))
found_value n b l d p (LoopVariable k) alt s e =
    found_leaf n b l d p (loop_variable k) _ (formula.LoopVariable k) alt e s.1 (λ h.
    let q = and_parts (not b) (nat_lt k l && nat_le d deepest) h in
    let r = and_parts (nat_lt k l) (nat_le d deepest) q.1 in
    not_bound b n l d _ _ q.0 (leb-true d deepest r.1) (a_loop_variable s.0 (ltb-true k l r.0)))
found_value n b l d p (Size k) alt s e =
    found_leaf n b l d p (size k) _ (formula.Size k) alt e s.1 (λ h.
    let r = and_parts (nat_lt k n.sizes) (nat_le d deepest) h in
    named_value (leb-true d deepest r.1) (a_size s.0 (ltb-true k n.sizes r.0)))
found_value n b l d p (Literal v) alt s e =
    found_leaf n b l d p (literal v) _ (formula.Number v) alt e s.1
    (λ h. number (leb-true d deepest h) s.0)
found_value n b l d p Other alt s e =
    let h = cond_then (nat_le d deepest) (whole_row b l d p) alt e in
    found_whole n b l d p alt (leb-true d deepest h.0) h.1
found_value n b l d p _ alt s e = absurd (cc (e))

found_id : (n : Notes) (b : Bool) (l d : ℕ) (p : Piece) (alt : List Item) → bytes_eq p uint ≡ true
    → cond b None (Some (Token closes ∷ Form IdName ∷ [])) ≡ Some alt → Gives n (Opened b l d) p alt
found_id n false l d p alt h e = in_place n (Opened false l d) p uint _ alt h e an_id
found_id n true l d p alt h e = absurd (cc (e))

found_opened : (n : Notes) (b : Bool) (l d : ℕ) (p : Piece) (kind : Kind) (alt : List Item)
    → Spelled p kind → opened_row n b l d p kind ≡ Some alt → Gives n (Opened b l d) p alt
found_opened n b l d p kind alt s e = elim (split (bytes_eq p uint) _ _ (Some alt) e) [
  | inl h ↦ found_id n b l d p alt h.0 h.1
  | inr h ↦ let q =
      map_some (λ given. given ++ Token space ∷ Form (Rest b l (suc d)) ∷ [])
      (value_row n b l (suc d) p kind) alt h.1 in subst (Gives n (Opened b l d) p) q.2
      (both (found_value n b l (suc d) p kind q.0 s q.1))
]

found_rest : (n : Notes) (b : Bool) (l d : ℕ) (p : Piece) (alt : List Item)
    → rest_row b l d p ≡ Some alt → Gives n (Rest b l d) p alt
found_rest n b l d p alt e =
    one_or n (Rest b l d) p less _ alt _ e less_or_shift (λ h.
    one_or n (Rest b l d) p greater _ alt _ h shift_right (λ g.
    one_or n (Rest b l d) p equals _ alt _ g equal (λ k.
    let q = map_some (λ op. Token space ∷ operated b l d op) (sign_in p) alt k in
    subst (Gives n (Rest b l d) p) q.2 (sign (sign_is p q.0 q.1)))))

found_assigned : (n : Notes) (l nest k : ℕ) (p : Piece) (kind : Kind) (alt : List Item)
    → Spelled p kind
    → option_map (λ given. given ++ stored l nest (Assign k)) (value_row n false l 1 p kind)
    ≡ Some alt
    → Gives n (Source l nest k) p alt
found_assigned n l nest k p kind alt s e =
    let h =
    map_some (λ given. given ++ stored l nest (Assign k))
    (value_row n false l 1 p kind) alt e in
    subst (Gives n (Source l nest k) p) h.2 (value (found_value n false l 1 p kind h.0 s h.1))

found_source : (n : Notes) (l nest k : ℕ) (p : Piece) (kind : Kind) (alt : List Item)
    → Spelled p kind → source_row n l nest k p kind ≡ Some alt → Gives n (Source l nest k) p alt
found_source n l nest k p (Array a) alt s e =
    let h = cond_some (is_readable (counted n) (array_of a)) _ alt e in
    subst (λ z. Gives n (Source l nest k) z alt) (sym s.1)
    (subst (Gives n (Source l nest k) (array_name (array_of a))) h.1
    (load {array = array_of a} s.0 h.0))
found_source n l nest k p (Size j) alt s e = found_assigned n l nest k p (Size j) alt s e
found_source n l nest k p (Variable j) alt s e = found_assigned n l nest k p (Variable j) alt s e
found_source n l nest k p (Vector j) alt s e = found_assigned n l nest k p (Vector j) alt s e
found_source n l nest k p (LoopVariable j) alt s e =
    found_assigned n l nest k p (LoopVariable j) alt s e
found_source n l nest k p (Literal v) alt s e = found_assigned n l nest k p (Literal v) alt s e
found_source n l nest k p (Decimal v) alt s e = found_assigned n l nest k p (Decimal v) alt s e
found_source n l nest k p Other alt s e = found_assigned n l nest k p Other alt s e

-- ---- expressions of four words

found_whole_lanes : (n : Notes) (l d : ℕ) (p : Piece) (alt : List Item) → d ≤ deepest
    → whole_lanes_row l d p ≡ Some alt → Gives n (InLanes l d) p alt
found_whole_lanes n l d p alt deep e =
    one_or n (InLanes l d) p opens _ alt _ e (open_lanes deep) (λ h.
    let q = map_some (calling_each l (suc d)) (call_in p) alt h in
    subst (Gives n (InLanes l d) p) q.2 (lanes_call deep (call_is p q.0 q.1)))

found_lanes : (n : Notes) (l d : ℕ) (p : Piece) (kind : Kind) (alt : List Item) → Spelled p kind
    → lanes_row n l d p kind ≡ Some alt → Gives n (InLanes l d) p alt
found_lanes n l d p (Vector k) alt s e =
    let h = cond_some (nat_lt k n.vectors && nat_le d deepest) _ alt e in
    let q = and_parts (nat_lt k n.vectors) (nat_le d deepest) h.0 in
    subst (λ z. Gives n (InLanes l d) z alt) (sym s.1)
    (subst (Gives n (InLanes l d) (vector k)) h.1
    (vector_value (leb-true d deepest q.1) s.0 (ltb-true k n.vectors q.0)))
found_lanes n l d p Other alt s e =
    let h = cond_then (nat_le d deepest) (whole_lanes_row l d p) alt e in
    found_whole_lanes n l d p alt (leb-true d deepest h.0) h.1
found_lanes n l d p _ alt s e = absurd (cc (e))

found_lanes_opened : (n : Notes) (l d : ℕ) (p : Piece) (kind : Kind) (alt : List Item)
    → Spelled p kind → lanes_opened_row n l d p kind ≡ Some alt → Gives n (LanesOpened l d) p alt
found_lanes_opened n l d p kind alt s e =
    one_or n (LanesOpened l d) p uint4 _ alt _ e spread_out (λ h.
    let q =
    map_some (λ given. given ++ Token space ∷ Form (LanesRest l (suc d)) ∷ [])
    (lanes_row n l (suc d) p kind) alt h in
    subst (Gives n (LanesOpened l d) p) q.2 (both_lanes (found_lanes n l (suc d) p kind q.0 s q.1)))

found_lanes_rest : (n : Notes) (l d : ℕ) (p : Piece) (alt : List Item)
    → lanes_rest_row l d p ≡ Some alt → Gives n (LanesRest l d) p alt
found_lanes_rest n l d p alt e =
    one_or n (LanesRest l d) p less _ alt _ e lanes_less (λ h.
    one_or n (LanesRest l d) p greater _ alt _ h lanes_right (λ g.
    let q = map_some (λ op. Token space ∷ operated_each l d op) (sign_in p) alt g in
    subst (Gives n (LanesRest l d) p) q.2 (lanes_sign (sign_is p q.0 q.1))))

found_source_of_four : (n : Notes) (l nest k : ℕ) (p : Piece) (kind : Kind) (alt : List Item)
    → Spelled p kind → source_of_four_row n l nest k p kind ≡ Some alt
    → Gives n (SourceOfFour l nest k) p alt
found_source_of_four n l nest k p kind alt s e =
    one_or n (SourceOfFour l nest k) p loads_four _ alt _ e load_four (λ h.
    let q =
    map_some (λ given. given ++ stored l nest (AssignFour k)) (lanes_row n l 1 p kind) alt h in
    subst (Gives n (SourceOfFour l nest k) p) q.2
    (value_of_four (found_lanes n l 1 p kind q.0 s q.1)))

found_loaded_four : (n : Notes) (l nest k : ℕ) (p : Piece) (kind : Kind) (alt : List Item)
    → Spelled p kind → loaded_four_row n l nest k kind ≡ Some alt
    → Gives n (LoadedFour l nest k) p alt
found_loaded_four n l nest k p (Array a) alt s e =
    let h = cond_some (is_shared (array_of a) && is_readable (counted n) (array_of a)) _ alt e in
    let q = and_parts (is_shared (array_of a)) (is_readable (counted n) (array_of a)) h.0 in
    subst (λ z. Gives n (LoadedFour l nest k) z alt) (sym s.1)
    (subst (Gives n (LoadedFour l nest k) (array_name (array_of a))) h.1
    (loaded_four {array = array_of a} s.0 q.0 q.1))
found_loaded_four n l nest k p _ alt s e = absurd (cc (e))

found_stored_four : (n : Notes) (l nest : ℕ) (p : Piece) (kind : Kind) (alt : List Item)
    → Spelled p kind → stored_four_row n l nest kind ≡ Some alt → Gives n (StoredFour l nest) p alt
found_stored_four n l nest p (Array a) alt s e =
    let h = cond_some (is_shared (array_of a) && is_writable (counted n) (array_of a)) _ alt e in
    let q = and_parts (is_shared (array_of a)) (is_writable (counted n) (array_of a)) h.0 in
    subst (λ z. Gives n (StoredFour l nest) z alt) (sym s.1)
    (subst (Gives n (StoredFour l nest) (array_name (array_of a))) h.1
    (stored_four {array = array_of a} s.0 q.0 q.1))
found_stored_four n l nest p _ alt s e = absurd (cc (e))

-- ---- the line of a loop or an if

found_turn : (n : Notes) (l : ℕ) (p : Piece) (kind : Kind) (alt : List Item) → Spelled p kind
    → turn_row l kind ≡ Some alt → Gives n (Turn l) p alt
found_turn n l p (LoopVariable k) alt s e =
    let h = cond_some (nat_eq k l) [] alt e in
    let same_loop = eqb-true k l h.0 in
    subst (λ z. Gives n (Turn l) z alt) (sym (s.1 ∙ ap loop_variable same_loop))
    (subst (Gives n (Turn l) (loop_variable l)) h.1
    (turn (subst (λ z. z < 2 ^ 32) same_loop s.0)))
found_turn n l p _ alt s e = absurd (cc (e))

found_beginning_id : (n : Notes) (g : Bool) (l nest : ℕ) (p : Piece) (alt : List Item)
    → beginning_id_row g l nest p ≡ Some alt → Gives n (BeginningId g l nest) p alt
found_beginning_id n g l nest p alt e =
    let h =
    then_some
    (λ form. cond (is_id form) (Some (in_dimension (BeginningAlong g l nest form))) None)
    (id_in p) alt e in
    let q = cond_some (is_id h.0) (in_dimension (BeginningAlong g l nest h.0)) alt h.2 in
    subst (λ z. Gives n (BeginningId g l nest) z alt) (sym (id_is p h.0 h.1))
    (subst (Gives n (BeginningId g l nest) (id_name h.0)) q.1 (from_this_id {form = h.0} q.0))

found_beginning_along : (n : Notes) (g : Bool) (l nest : ℕ) (form : IdForm) (p : Piece)
    (alt : List Item)
    → beginning_along_row g l nest form p ≡ Some alt → Gives n (BeginningAlong g l nest form) p alt
found_beginning_along n g l nest form p alt e =
    let h =
    map_some (λ s. Token closes ∷ after_start g l nest s)
    (option_and_then (start_at form) (dimension_in p)) alt e in
    let q = then_some (start_at form) (dimension_in p) h.0 h.1 in
    subst (λ z. Gives n (BeginningAlong g l nest form) z alt) (sym (dimension_is p q.0 q.1))
    (subst (Gives n (BeginningAlong g l nest form) (dimension q.0)) h.2
    (from_along {form = form} q.0 q.2))

found_step_id : (n : Notes) (l nest : ℕ) (s : code.Start) (p : Piece) (alt : List Item)
    → step_id_row l nest s p ≡ Some alt → Gives n (StepId l nest s) p alt
found_step_id n l nest s p alt e =
    let h =
    then_some (λ form. cond (is_id form) None (Some (in_dimension (StepAlong l nest s form))))
    (id_in p) alt e in
    elim (split (is_id h.0) None (Some (in_dimension (StepAlong l nest s h.0))) (Some alt) h.2) [
      | inl q ↦ absurd (let w = q.1 in cc (w))
      | inr q ↦ subst (λ z. Gives n (StepId l nest s) z alt) (sym (id_is p h.0 h.1))
          (subst (Gives n (StepId l nest s) (id_name h.0)) (same_Some _ _ q.1)
          (by_this_count {form = h.0} q.0))
    ]

found_step_along : (n : Notes) (l nest : ℕ) (s : code.Start) (form : IdForm) (p : Piece)
    (alt : List Item)
    → step_along_row l nest s form p ≡ Some alt → Gives n (StepAlong l nest s form) p alt
found_step_along n l nest s form p alt e =
    let h =
    map_some (λ c. Token closes ∷ loop_body l nest s c)
    (option_and_then (stride_by form) (dimension_in p)) alt e in
    let q = then_some (stride_by form) (dimension_in p) h.0 h.1 in
    subst (λ z. Gives n (StepAlong l nest s form) z alt) (sym (dimension_is p q.0 q.1))
    (subst (Gives n (StepAlong l nest s form) (dimension q.0)) h.2
    (by_along {form = form} q.0 q.2))

found_id_name : (n : Notes) (p : Piece) (alt : List Item) → id_row p ≡ Some alt
    → Gives n IdName p alt
found_id_name n p alt e =
    let h = map_some (λ form. in_dimension (IdAlong form)) (id_in p) alt e in
    subst (λ z. Gives n IdName z alt) (sym (id_is p h.0 h.1))
    (subst (Gives n IdName (id_name h.0)) h.2 (this_id {form = h.0}))

found_id_along : (n : Notes) (form : IdForm) (p : Piece) (alt : List Item)
    → id_along_row form p ≡ Some alt → Gives n (IdAlong form) p alt
found_id_along n form p alt e =
    let h = map_some (λ d. Token closes ∷ Mark (Leaf (Id d form)) ∷ []) (dimension_in p) alt e in
    subst (λ z. Gives n (IdAlong form) z alt) (sym (dimension_is p h.0 h.1))
    (subst (Gives n (IdAlong form) (dimension h.0)) h.2 (id_along {form = form} {d = h.0}))

found_end : (n : Notes) (l nest : ℕ) (p : Piece) (alt : List Item) → end_row nest p ≡ Some alt
    → Gives n (Next l nest) p alt
found_end n l zero p alt e = only_one n (Next l 0) p block_ends _ alt e end
found_end n l (suc nest) p alt e =
    only_one n (Next l (suc nest)) p (indent (suc nest)) _ alt e end_of_block

found_vectors : (n : Notes) (p : Piece) (alt : List Item) → vectors_row n p ≡ Some alt
    → Gives n Vectors p alt
found_vectors n p alt e =
    one_or n Vectors p uint4 _ alt _ e a_vector
    (λ h. statements (found_statement n 0 0 p (kind_of p) alt (kind_spelled p) h))

found_privates : (n : Notes) (p : Piece) (alt : List Item) → privates_row n p ≡ Some alt
    → Gives n Privates p alt
found_privates n p alt e =
    one_or n Privates p uint _ alt _ e a_declaration (λ h. no_declaration (found_vectors n p alt h))

found : (n : Notes) (f : Part) (p : Piece) (alt : List Item) → row n f p ≡ Some alt
    → Gives n f p alt
found n Launching p alt e = either n Launching p void attribute _ _ alt e any_group fixed_group
found n GroupWidth p alt e = found_width n p (kind_of p) alt (kind_spelled p) e
found n (GroupHeight v) p alt e = found_height n v p (kind_of p) alt (kind_spelled p) e
found n Parameter p alt e = only_one n Parameter p global _ alt e an_input
found n Pointer p alt e = either n Pointer p const uint _ _ alt e pointer_to_const pointer
found n NewInput p alt e = found_input n p (kind_of p) alt (kind_spelled p) e
found n NewOutput p alt e = found_output n p (kind_of p) alt (kind_spelled p) e
found n AfterOutput p alt e = either n AfterOutput p closes comma _ _ alt e last_output more_outputs
found n OutputOrSize p alt e =
    either n OutputOrSize p global const _ _ alt e another_output first_size
found n NewSize p alt e = found_size n p (kind_of p) alt (kind_spelled p) e
found n AfterSize p alt e = either n AfterSize p closes comma _ _ alt e last_size more_sizes
found n Locals p alt e =
    one_or n Locals p local _ alt _ e a_local (λ h. no_local (found_privates n p alt h))
found n NewLocal p alt e = found_local n p (kind_of p) alt (kind_spelled p) e
found n LocalLength p alt e =
    found_length n DeclareLocal LocalLength Locals p (kind_of p) alt (kind_spelled p) e
    (λ v some small. local_length some small)
found n Privates p alt e = found_privates n p alt e
found n Declared p alt e = found_declared n p (kind_of p) alt (kind_spelled p) e
found n PrivateLength p alt e =
    found_length n DeclarePrivate PrivateLength Privates p (kind_of p) alt (kind_spelled p) e
    (λ v some small. private_length some small)
found n Variables p alt e =
    one_or n Variables p uint _ alt _ e another_variable
    (λ h. no_variable (found_vectors n p alt h))
found n NewVariable p alt e = found_variable n p (kind_of p) alt (kind_spelled p) e
found n Vectors p alt e = found_vectors n p alt e
found n NewVector p alt e = found_vector n p (kind_of p) alt (kind_spelled p) e
found n (Statement l nest) p alt e = found_statement n l nest p (kind_of p) alt (kind_spelled p) e
found n (Next l nest) p alt e =
    one_or n (Next l nest) p (indent (suc nest)) _ alt _ e another (found_end n l nest p alt)
found n (Source l nest k) p alt e = found_source n l nest k p (kind_of p) alt (kind_spelled p) e
found n (SourceOfFour l nest k) p alt e =
    found_source_of_four n l nest k p (kind_of p) alt (kind_spelled p) e
found n (LoadedFour l nest k) p alt e =
    found_loaded_four n l nest k p (kind_of p) alt (kind_spelled p) e
found n (StoredFour l nest) p alt e =
    found_stored_four n l nest p (kind_of p) alt (kind_spelled p) e
found n (Fence l nest) p alt e =
    either n (Fence l nest) p local_flag global_flag _ _ alt e fences_local fences_global
found n (AfterLocal l nest) p alt e =
    either n (AfterLocal l nest) p closes space _ _ alt e local_alone fences_both
found n (Beginning g l nest) p alt e =
    either n (Beginning g l nest) p zero_literal opens _ _ alt e from_zero from_id
found n (BeginningId g l nest) p alt e = found_beginning_id n g l nest p alt e
found n (BeginningAlong g l nest form) p alt e = found_beginning_along n g l nest form p alt e
found n (Step l nest s) p alt e =
    either n (Step l nest s) p one_literal opens _ _ alt e by_one by_count
found n (StepId l nest s) p alt e = found_step_id n l nest s p alt e
found n (StepAlong l nest s form) p alt e = found_step_along n l nest s form p alt e
found n (Turn l) p alt e = found_turn n l p (kind_of p) alt (kind_spelled p) e
found n (Indent l) p alt e = only_one n (Indent l) p (indent l) [] alt e indented
found n (Value b l d) p alt e = found_value n b l d p (kind_of p) alt (kind_spelled p) e
found n (Opened b l d) p alt e = found_opened n b l d p (kind_of p) alt (kind_spelled p) e
found n (InLanes l d) p alt e = found_lanes n l d p (kind_of p) alt (kind_spelled p) e
found n (LanesOpened l d) p alt e = found_lanes_opened n l d p (kind_of p) alt (kind_spelled p) e
found n (LanesRest l d) p alt e = found_lanes_rest n l d p alt e
found n (LanesAfterLess l d) p alt e = only_one n (LanesAfterLess l d) p less _ alt e lanes_left
found n IdName p alt e = found_id_name n p alt e
found n (IdAlong form) p alt e = found_id_along n form p alt e
found n (Rest b l d) p alt e = found_rest n b l d p alt e
found n (AfterLess b l d) p alt e =
    either n (AfterLess b l d) p less space _ _ alt e shift_left is_less

-- ---- what the grammar has is in a row

is_the_next : (count : ℕ) → suc count < 2 ^ 32 → is_next count count ≡ true
is_the_next count h =
    and_from (nat_eq count count) (nat_lt (suc count) (2 ^ 32)) (eq-eqb count count refl)
    (lt-ltb (suc count) (2 ^ 32) h)

before_last : (count : ℕ) → suc count < 2 ^ 32 → count < 2 ^ 32
before_last count h = omega (arith, h)

only_statement : (n : Notes) (l nest : ℕ) (p : Piece) (alt : List Item)
    → Gives n (Statement l nest) p alt → statement_row n l nest p (kind_of p) ≡ Some alt
only_statement n l nest p alt (assign {k = k} small fits) =
    ap (statement_row n l nest (variable k)) (variable_kind k small)
    ∙ holding (nat_lt k n.variables) _ None (lt-ltb k n.variables fits)
only_statement n l nest p alt (assign_four {k = k} small fits) =
    ap (statement_row n l nest (vector k)) (vector_kind k small)
    ∙ holding (nat_lt k n.vectors) _ None (lt-ltb k n.vectors fits)
only_statement n l nest p alt (store {array = a} small may) =
    ap (statement_row n l nest (array_name a)) (array_kind_is a small)
    ∙ ap (λ z. cond (is_writable (counted n) z) (Some (storing l nest z)) None) (held_is a)
    ∙ holding (is_writable (counted n) a) _ None may
only_statement n l nest p alt (loop fits) =
    ap (statement_row n l nest for) for_kind
    ∙ holding (nat_lt nest deepest) _ None (lt-ltb nest deepest fits)
only_statement n l nest p alt (guard fits) =
    ap (statement_row n l nest whether) if_kind
    ∙ holding (nat_lt nest deepest) _ None (lt-ltb nest deepest fits)
only_statement n l nest p alt meet = ap (statement_row n l nest barrier) barrier_kind
only_statement n l nest p alt store_four = ap (statement_row n l nest stores_four) stores_kind

-- a statement begins with no word of a declaration
no_declared : (n : Notes) (l nest : ℕ) (p : Piece) (alt : List Item)
    → Gives n (Statement l nest) p alt
    → (bytes_eq p uint ≡ false) × (bytes_eq p local ≡ false) × (bytes_eq p uint4 ≡ false)
no_declared n l nest p alt (assign small fits) = (refl, refl, refl)
no_declared n l nest p alt (assign_four small fits) = (refl, refl, refl)
no_declared n l nest p alt (store {array = code.Input k} small may) = (refl, refl, refl)
no_declared n l nest p alt (store {array = code.Output k} small may) = (refl, refl, refl)
no_declared n l nest p alt (store {array = code.Local k} small may) = (refl, refl, refl)
no_declared n l nest p alt (store {array = code.Private k} small may) = (refl, refl, refl)
no_declared n l nest p alt (loop fits) = (refl, refl, refl)
no_declared n l nest p alt (guard fits) = (refl, refl, refl)
no_declared n l nest p alt meet = (refl, refl, refl)
no_declared n l nest p alt store_four = (refl, refl, refl)

only_vectors : (n : Notes) (p : Piece) (alt : List Item) → Gives n Vectors p alt
    → vectors_row n p ≡ Some alt
only_vectors n p alt a_vector = refl
only_vectors n p alt (statements g) =
    pass (bytes_eq p uint4) _ _ (no_declared n 0 0 p alt g).2 ∙ only_statement n 0 0 p alt g

-- nor does a variable of four words
no_other_declared : (n : Notes) (p : Piece) (alt : List Item) → Gives n Vectors p alt
    → (bytes_eq p uint ≡ false) × (bytes_eq p local ≡ false)
no_other_declared n p alt a_vector = (refl, refl)
no_other_declared n p alt (statements g) = let q = no_declared n 0 0 p alt g in (q.0, q.1)

only_width : (n : Notes) (p : Piece) (alt : List Item) → Gives n GroupWidth p alt
    → width_row (kind_of p) ≡ Some alt
only_width n p alt (group_width {v = v} some few) =
    let small : v < 2 ^ 32 =
    let w : 256 < 2 ^ 32 = lit< tt in let k : v ≤ 256 = few in omega (arith, w, k) in
    ap width_row (decimal_kind v small)
    ∙ holding (nat_lt 0 v && nat_le v largest_group) _ None
    (and_from (nat_lt 0 v) (nat_le v largest_group) (lt-ltb 0 v some)
    (le-leb v largest_group few))

only_height : (n : Notes) (v : ℕ) (p : Piece) (alt : List Item) → Gives n (GroupHeight v) p alt
    → height_row v (kind_of p) ≡ Some alt
only_height n v p alt (group_height {w = w} some small few) =
    ap (height_row v) (decimal_kind w small)
    ∙ holding (nat_lt 0 w && nat_le (v * w) largest_group) _ None
    (and_from (nat_lt 0 w) (nat_le (v * w) largest_group) (lt-ltb 0 w some)
    (le-leb (v * w) largest_group few))

called_row : (b : Bool) (l d : ℕ) (p : Piece) (op : Op) → IsCall p op
    → whole_row b l d p ≡ Some (calling b l (suc d) op)
called_row b l d p op takes_least = refl
called_row b l d p op takes_greatest = refl

only_value : (n : Notes) (b : Bool) (l d : ℕ) (p : Piece) (alt : List Item)
    → Gives n (Value b l d) p alt → value_row n b l d p (kind_of p) ≡ Some alt
only_value n b l d p alt (number {v = v} deep small) =
    ap (value_row n b l d (literal v)) (literal_kind v small)
    ∙ holding (nat_le d deepest) _ None (le-leb d deepest deep)
only_value n b l d p alt (named_value deep (a_variable {k = k} small fits)) =
    ap (value_row n b l d (variable k)) (variable_kind k small)
    ∙ holding (nat_lt k n.variables && nat_le d deepest) _ None
    (and_from (nat_lt k n.variables) (nat_le d deepest) (lt-ltb k n.variables fits)
    (le-leb d deepest deep))
only_value n b l d p alt (named_value deep (a_loop_variable {k = k} small fits)) =
    ap (value_row n b l d (loop_variable k)) (loop_variable_kind k small)
    ∙ holding (nat_lt k l && nat_le d deepest) _ None
    (and_from (nat_lt k l) (nat_le d deepest) (lt-ltb k l fits) (le-leb d deepest deep))
only_value n b l d p alt (named_value deep (a_size {k = k} small fits)) =
    ap (value_row n b l d (size k)) (size_kind k small)
    ∙ holding (nat_lt k n.sizes && nat_le d deepest) _ None
    (and_from (nat_lt k n.sizes) (nat_le d deepest) (lt-ltb k n.sizes fits)
    (le-leb d deepest deep))
only_value n b l d p alt (call {op = op} deep is) =
    ap (value_row n b l d p) (call_kind p op is)
    ∙ holding (nat_le d deepest) _ None (le-leb d deepest deep)
    ∙ called_row b l d p op is
only_value n b l d p alt (open_value deep) =
    ap (value_row n b l d opens) opens_kind
    ∙ holding (nat_le d deepest) _ None (le-leb d deepest deep)

no_cast : (n : Notes) (b : Bool) (l d : ℕ) (p : Piece) (alt : List Item)
    → Gives n (Value b l d) p alt → bytes_eq p uint ≡ false
no_cast n b l d p alt (number {v = v} deep small) =
    differ (literal v) uint
    (λ e. let w : Literal v ≡ Other = sym (literal_kind v small) ∙ ap kind_of e
    ∙ uint_kind in cc (w))
no_cast n b l d p alt (named_value deep (a_variable small fits)) = refl
no_cast n b l d p alt (named_value deep (a_loop_variable small fits)) = refl
no_cast n b l d p alt (named_value deep (a_size small fits)) = refl
no_cast n b l d p alt (call deep takes_least) = refl
no_cast n b l d p alt (call deep takes_greatest) = refl
no_cast n b l d p alt (open_value deep) = refl

only_opened : (n : Notes) (b : Bool) (l d : ℕ) (p : Piece) (alt : List Item)
    → Gives n (Opened b l d) p alt → opened_row n b l d p (kind_of p) ≡ Some alt
only_opened n b l d p alt an_id = refl
only_opened n b l d p alt (both {alternative = given} g) =
    pass (bytes_eq p uint) _ _ (no_cast n b l (suc d) p given g)
    ∙ ap (option_map (λ given. given ++ Token space ∷ Form (Rest b l (suc d)) ∷ []))
    (only_value n b l (suc d) p given g)

only_rest : (n : Notes) (b : Bool) (l d : ℕ) (p : Piece) (alt : List Item)
    → Gives n (Rest b l d) p alt → rest_row b l d p ≡ Some alt
only_rest n b l d p alt (sign {op = op} is) =
    let q = no_other p op is in
    pass (bytes_eq p less) _ _ q.0 ∙ pass (bytes_eq p greater) _ _ q.1
    ∙ pass (bytes_eq p equals) _ _ q.2
    ∙ ap (option_map (λ op. Token space ∷ operated b l d op)) (signed p op is)
only_rest n b l d p alt shift_right = refl
only_rest n b l d p alt equal = refl
only_rest n b l d p alt less_or_shift = refl

assigned : (n : Notes) (l nest k : ℕ) (p : Piece) (kind : Kind) (alt : List Item)
    → value_row n false l 1 p kind ≡ Some alt
    → source_row n l nest k p kind ≡ Some (alt ++ stored l nest (Assign k))
assigned n l nest k p (Array a) alt e = absurd (cc (e))
assigned n l nest k p (Size j) alt e =
    ap (option_map (λ given. given ++ stored l nest (Assign k))) e
assigned n l nest k p (Variable j) alt e =
    ap (option_map (λ given. given ++ stored l nest (Assign k))) e
assigned n l nest k p (Vector j) alt e = absurd (cc (e))
assigned n l nest k p (LoopVariable j) alt e =
    ap (option_map (λ given. given ++ stored l nest (Assign k))) e
assigned n l nest k p (Literal v) alt e =
    ap (option_map (λ given. given ++ stored l nest (Assign k))) e
assigned n l nest k p (Decimal v) alt e =
    ap (option_map (λ given. given ++ stored l nest (Assign k))) e
assigned n l nest k p Other alt e = ap (option_map (λ given. given ++ stored l nest (Assign k))) e

only_source : (n : Notes) (l nest k : ℕ) (p : Piece) (alt : List Item)
    → Gives n (Source l nest k) p alt → source_row n l nest k p (kind_of p) ≡ Some alt
only_source n l nest k p alt (load {array = a} small may) =
    ap (source_row n l nest k (array_name a)) (array_kind_is a small)
    ∙ ap (λ z. cond (is_readable (counted n) z) (Some (loading l nest k z)) None) (held_is a)
    ∙ holding (is_readable (counted n) a) _ None may
only_source n l nest k p alt (value {alternative = given} g) =
    assigned n l nest k p (kind_of p) given (only_value n false l 1 p given g)

-- ---- expressions of four words

called_lanes : (l d : ℕ) (p : Piece) (op : Op) → IsCall p op
    → whole_lanes_row l d p ≡ Some (calling_each l (suc d) op)
called_lanes l d p op takes_least = refl
called_lanes l d p op takes_greatest = refl

only_lanes : (n : Notes) (l d : ℕ) (p : Piece) (alt : List Item) → Gives n (InLanes l d) p alt
    → lanes_row n l d p (kind_of p) ≡ Some alt
only_lanes n l d p alt (vector_value {k = k} deep small fits) =
    ap (lanes_row n l d (vector k)) (vector_kind k small)
    ∙ holding (nat_lt k n.vectors && nat_le d deepest) _ None
    (and_from (nat_lt k n.vectors) (nat_le d deepest) (lt-ltb k n.vectors fits)
    (le-leb d deepest deep))
only_lanes n l d p alt (lanes_call {op = op} deep is) =
    ap (lanes_row n l d p) (call_kind p op is)
    ∙ holding (nat_le d deepest) _ None (le-leb d deepest deep)
    ∙ called_lanes l d p op is
only_lanes n l d p alt (open_lanes deep) =
    ap (lanes_row n l d opens) opens_kind
    ∙ holding (nat_le d deepest) _ None (le-leb d deepest deep)

-- such an expression begins with no word
no_lanes_word : (n : Notes) (l d : ℕ) (p : Piece) (alt : List Item) → Gives n (InLanes l d) p alt
    → (bytes_eq p uint4 ≡ false) × (bytes_eq p loads_four ≡ false)
no_lanes_word n l d p alt (vector_value deep small fits) = (refl, refl)
no_lanes_word n l d p alt (lanes_call deep takes_least) = (refl, refl)
no_lanes_word n l d p alt (lanes_call deep takes_greatest) = (refl, refl)
no_lanes_word n l d p alt (open_lanes deep) = (refl, refl)

only_lanes_opened : (n : Notes) (l d : ℕ) (p : Piece) (alt : List Item)
    → Gives n (LanesOpened l d) p alt → lanes_opened_row n l d p (kind_of p) ≡ Some alt
only_lanes_opened n l d p alt spread_out = refl
only_lanes_opened n l d p alt (both_lanes {alternative = given} g) =
    pass (bytes_eq p uint4) _ _ (no_lanes_word n l (suc d) p given g).0
    ∙ ap (option_map (λ given. given ++ Token space ∷ Form (LanesRest l (suc d)) ∷ []))
    (only_lanes n l (suc d) p given g)

only_lanes_rest : (n : Notes) (l d : ℕ) (p : Piece) (alt : List Item)
    → Gives n (LanesRest l d) p alt → lanes_rest_row l d p ≡ Some alt
only_lanes_rest n l d p alt (lanes_sign {op = op} is) =
    let q = no_other p op is in
    pass (bytes_eq p less) _ _ q.0 ∙ pass (bytes_eq p greater) _ _ q.1
    ∙ ap (option_map (λ op. Token space ∷ operated_each l d op)) (signed p op is)
only_lanes_rest n l d p alt lanes_right = refl
only_lanes_rest n l d p alt lanes_less = refl

only_source_of_four : (n : Notes) (l nest k : ℕ) (p : Piece) (alt : List Item)
    → Gives n (SourceOfFour l nest k) p alt → source_of_four_row n l nest k p (kind_of p) ≡ Some alt
only_source_of_four n l nest k p alt load_four = refl
only_source_of_four n l nest k p alt (value_of_four {alternative = given} g) =
    pass (bytes_eq p loads_four) _ _ (no_lanes_word n l 1 p given g).1
    ∙ ap (option_map (λ given. given ++ stored l nest (AssignFour k))) (only_lanes n l 1 p given g)

only_loaded_four : (n : Notes) (l nest k : ℕ) (p : Piece) (alt : List Item)
    → Gives n (LoadedFour l nest k) p alt → loaded_four_row n l nest k (kind_of p) ≡ Some alt
only_loaded_four n l nest k p alt (loaded_four {array = a} small shared may) =
    ap (loaded_four_row n l nest k) (array_kind_is a small)
    ∙ ap
    (λ z. cond (is_shared z && is_readable (counted n) z)
    (Some (Token closes ∷ stored l nest (LoadFour k z))) None)
    (held_is a)
    ∙ holding (is_shared a && is_readable (counted n) a) _ None
    (and_from (is_shared a) (is_readable (counted n) a) shared may)

only_stored_four : (n : Notes) (l nest : ℕ) (p : Piece) (alt : List Item)
    → Gives n (StoredFour l nest) p alt → stored_four_row n l nest (kind_of p) ≡ Some alt
only_stored_four n l nest p alt (stored_four {array = a} small shared may) =
    ap (stored_four_row n l nest) (array_kind_is a small)
    ∙ ap
    (λ z. cond (is_shared z && is_writable (counted n) z)
    (Some (Token closes ∷ stored l nest (StoreFour z))) None)
    (held_is a)
    ∙ holding (is_shared a && is_writable (counted n) a) _ None
    (and_from (is_shared a) (is_writable (counted n) a) shared may)

-- ---- declarations

only_vector : (n : Notes) (p : Piece) (alt : List Item) → Gives n NewVector p alt
    → new_vector_row n (kind_of p) ≡ Some alt
only_vector n p alt (new_vector small) =
    ap (new_vector_row n) (vector_kind n.vectors (before_last n.vectors small))
    ∙ holding (is_next n.vectors n.vectors) _ None (is_the_next n.vectors small)

only_variable : (n : Notes) (p : Piece) (alt : List Item) → Gives n NewVariable p alt
    → new_variable_row n (kind_of p) ≡ Some alt
only_variable n p alt (new_variable small) =
    ap (new_variable_row n) (variable_kind n.variables (before_last n.variables small))
    ∙ holding (is_next n.variables n.variables) _ None (is_the_next n.variables small)

only_declared : (n : Notes) (p : Piece) (alt : List Item) → Gives n Declared p alt
    → declared_row n (kind_of p) ≡ Some alt
only_declared n p alt (new_private small) =
    let k = length n.privates in
    ap (declared_row n) (array_kind_is (code.Private k) (before_last k small))
    ∙ holding (is_next k k) _ None (is_the_next k small)
only_declared n p alt (first_variable (new_variable small)) =
    ap (declared_row n) (variable_kind n.variables (before_last n.variables small))
    ∙ holding (is_next n.variables n.variables) _ None (is_the_next n.variables small)

only_privates : (n : Notes) (p : Piece) (alt : List Item) → Gives n Privates p alt
    → privates_row n p ≡ Some alt
only_privates n p alt a_declaration = refl
only_privates n p alt (no_declaration g) =
    pass (bytes_eq p uint) _ _ (no_other_declared n p alt g).0 ∙ only_vectors n p alt g

no_local_word : (n : Notes) (p : Piece) (alt : List Item) → Gives n Privates p alt
    → bytes_eq p local ≡ false
no_local_word n p alt a_declaration = refl
no_local_word n p alt (no_declaration g) = (no_other_declared n p alt g).1

only_length : (v : ℕ) (note : ℕ → Note) (f : Part) → 0 < v → v < 2 ^ 32
    → length_row note f (kind_of (decimal v))
    ≡ Some (Mark (note v) ∷ Token index_ends ∷ another_line f)
only_length v note f some small =
    ap (length_row note f) (decimal_kind v small) ∙ holding (nat_lt 0 v) _ None (lt-ltb 0 v some)

only_next : (n : Notes) (l nest : ℕ) (p : Piece) (alt : List Item) → Gives n (Next l nest) p alt
    → next_row l nest p ≡ Some alt
only_next n l nest p alt another =
    holding (bytes_eq (indent (suc nest)) (indent (suc nest))) _ _ (itself (indent (suc nest)))
only_next n l nest p alt end = refl
only_next n l nest p alt (end_of_block {e = m}) =
    pass (bytes_eq (indent (suc m)) (indent (suc (suc m)))) _ _
    (differ (indent (suc m)) (indent (suc (suc m)))
    (λ e. let w : suc m
    ≡ suc (suc m) = indents (suc m) (suc (suc m)) e in omega (arith, w)))
    ∙ holding (bytes_eq (indent (suc m)) (indent (suc m))) _ None (itself (indent (suc m)))

only : (n : Notes) (f : Part) (p : Piece) (alt : List Item) → Gives n f p alt → row n f p ≡ Some alt
only n f p alt any_group = refl
only n f p alt fixed_group = refl
only n f p alt (group_width some few) = only_width n p alt (group_width some few)
only n f p alt (group_height {v = v} some small few) =
    only_height n v p alt (group_height some small few)
only n f p alt an_input = refl
only n f p alt pointer_to_const = refl
only n f p alt pointer = refl
only n f p alt (new_input small) =
    ap (new_input_row n) (array_kind_is (code.Input n.inputs) (before_last n.inputs small))
    ∙ holding (is_next n.inputs n.inputs) _ None (is_the_next n.inputs small)
only n f p alt (new_output small) =
    ap (new_output_row n) (array_kind_is (code.Output n.outputs) (before_last n.outputs small))
    ∙ holding (is_next n.outputs n.outputs) _ None (is_the_next n.outputs small)
only n f p alt last_output = refl
only n f p alt more_outputs = refl
only n f p alt another_output = refl
only n f p alt first_size = refl
only n f p alt (new_size small) =
    ap (new_size_row n) (size_kind n.sizes (before_last n.sizes small))
    ∙ holding (is_next n.sizes n.sizes) _ None (is_the_next n.sizes small)
only n f p alt last_size = refl
only n f p alt more_sizes = refl
only n f p alt a_local = refl
only n f p alt (no_local g) =
    pass (bytes_eq p local) _ _ (no_local_word n p alt g) ∙ only_privates n p alt g
only n f p alt (new_local small) =
    let k = length n.locals in
    ap (new_local_row n) (array_kind_is (code.Local k) (before_last k small))
    ∙ holding (is_next k k) _ None (is_the_next k small)
only n f p alt (local_length {v = v} some small) = only_length v DeclareLocal Locals some small
only n f p alt a_declaration = refl
only n f p alt (no_declaration g) = only_privates n p alt (no_declaration g)
only n f p alt (new_private small) = only_declared n p alt (new_private small)
only n f p alt (first_variable g) = only_declared n p alt (first_variable g)
only n f p alt (private_length {v = v} some small) =
    only_length v DeclarePrivate Privates some small
only n f p alt another_variable = refl
only n f p alt (no_variable g) =
    pass (bytes_eq p uint) _ _ (no_other_declared n p alt g).0 ∙ only_vectors n p alt g
only n f p alt (new_variable small) = only_variable n p alt (new_variable small)
only n f p alt a_vector = refl
only n f p alt (statements g) = only_vectors n p alt (statements g)
only n f p alt (new_vector small) = only_vector n p alt (new_vector small)
only n f p alt (assign {l = l} {e = nest} small fits) =
    only_statement n l nest p alt (assign small fits)
only n f p alt (store {l = l} {e = nest} {array = a} small may) =
    only_statement n l nest p alt (store {array = a} small may)
only n f p alt (loop {l = l} {e = nest} fits) = only_statement n l nest p alt (loop fits)
only n f p alt (guard {l = l} {e = nest} fits) = only_statement n l nest p alt (guard fits)
only n f p alt (meet {l = l} {e = nest}) = only_statement n l nest p alt meet
only n f p alt (load {l = l} {e = nest} {k = k} {array = a} small may) =
    only_source n l nest k p alt (load {array = a} small may)
only n f p alt (value {l = l} {e = nest} {k = k} g) = only_source n l nest k p _ (value g)
only n f p alt (assign_four {l = l} {e = nest} small fits) =
    only_statement n l nest p alt (assign_four small fits)
only n f p alt load_four = refl
only n f p alt (loaded_four {l = l} {e = nest} {k = k} {array = a} small shared may) =
    only_loaded_four n l nest k p alt (loaded_four {array = a} small shared may)
only n f p alt (value_of_four {l = l} {e = nest} {k = k} g) =
    only_source_of_four n l nest k p _ (value_of_four g)
only n f p alt (store_four {l = l} {e = nest}) = only_statement n l nest p alt store_four
only n f p alt (stored_four {l = l} {e = nest} {array = a} small shared may) =
    only_stored_four n l nest p alt (stored_four {array = a} small shared may)
only n f p alt (another {l = l} {e = nest}) = only_next n l nest p alt another
only n f p alt end = refl
only n f p alt (end_of_block {l = l} {e = nest}) = only_next n l (suc nest) p alt end_of_block
only n f p alt (indented {l = l}) =
    holding (bytes_eq (indent l) (indent l)) _ None (itself (indent l))
only n f p alt fences_local = refl
only n f p alt fences_global = refl
only n f p alt local_alone = refl
only n f p alt fences_both = refl
only n f p alt (turn {l = l} small) =
    ap (turn_row l) (loop_variable_kind l small) ∙ holding (nat_eq l l) _ None (eq-eqb l l refl)
only n f p alt from_zero = refl
only n f p alt from_id = refl
only n f p alt (from_this_id {g = g} {l = l} {e = nest} {form = form} is) =
    ap
    (option_and_then
    (λ form. cond (is_id form) (Some (in_dimension (BeginningAlong g l nest form))) None))
    (named_id form)
    ∙ holding (is_id form) _ None is
only n f p alt (from_along {g = g} {l = l} {e = nest} {form = form} d e) =
    ap
    (λ o. option_map (λ s. Token closes ∷ after_start g l nest s)
    (option_and_then (start_at form) o))
    (named_dimension d)
    ∙ ap (option_map (λ s. Token closes ∷ after_start g l nest s)) e
only n f p alt by_one = refl
only n f p alt by_count = refl
only n f p alt (by_this_count {l = l} {e = nest} {s = s} {form = form} is) =
    ap
    (option_and_then
    (λ form. cond (is_id form) None (Some (in_dimension (StepAlong l nest s form)))))
    (named_id form)
    ∙ pass (is_id form) _ _ is
only n f p alt (by_along {l = l} {e = nest} {s = s} {form = form} d e) =
    ap
    (λ o. option_map (λ c. Token closes ∷ loop_body l nest s c)
    (option_and_then (stride_by form) o))
    (named_dimension d)
    ∙ ap (option_map (λ c. Token closes ∷ loop_body l nest s c)) e
only n f p alt (number {b = b} {l = l} {d = d} deep small) =
    only_value n b l d p alt (number deep small)
only n f p alt (named_value {b = b} {l = l} {d = d} deep known) =
    only_value n b l d p alt (named_value deep known)
only n f p alt (call {b = b} {l = l} {d = d} deep is) = only_value n b l d p alt (call deep is)
only n f p alt (open_value {b = b} {l = l} {d = d} deep) =
    only_value n b l d p alt (open_value deep)
only n f p alt an_id = refl
only n f p alt (both {b = b} {l = l} {d = d} g) = only_opened n b l d p _ (both g)
only n f p alt (this_id {form = form}) =
    ap (option_map (λ form. in_dimension (IdAlong form))) (named_id form)
only n f p alt (id_along {form = form} {d = d}) =
    ap (option_map (λ d. Token closes ∷ Mark (Leaf (Id d form)) ∷ [])) (named_dimension d)
only n f p alt (sign {b = b} {l = l} {d = d} is) = only_rest n b l d p alt (sign is)
only n f p alt shift_right = refl
only n f p alt equal = refl
only n f p alt less_or_shift = refl
only n f p alt shift_left = refl
only n f p alt is_less = refl
only n f p alt (vector_value {l = l} {d = d} deep small fits) =
    only_lanes n l d p alt (vector_value deep small fits)
only n f p alt (lanes_call {l = l} {d = d} deep is) = only_lanes n l d p alt (lanes_call deep is)
only n f p alt (open_lanes {l = l} {d = d} deep) = only_lanes n l d p alt (open_lanes deep)
only n f p alt spread_out = refl
only n f p alt (both_lanes {l = l} {d = d} g) = only_lanes_opened n l d p _ (both_lanes g)
only n f p alt (lanes_sign {l = l} {d = d} is) = only_lanes_rest n l d p alt (lanes_sign is)
only n f p alt lanes_right = refl
only n f p alt lanes_less = refl
only n f p alt lanes_left = refl

-- the table is the kernel grammar's
pub decided : Decides kernels table
decided = record { same = same; itself = itself; found = found; only = only; marked = λ m n. refl }
