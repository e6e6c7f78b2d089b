-- How deep a lowered term nests, by the height of the term.
use Rattle.std.proofs.Common.{ℕ, ◌+◌, ◌≤◌, Bool, true, false, List, arith}
use Rattle.std.specs.Prelude.{max, if◌then◌else◌}
use Rattle.scalar_ops.specs.declared.op.Op.{Op}
use Rattle.scalar_ops.specs.declared.op.Op.TheVariants.{Div, Rem}
use Rattle.size_arith.specs.declared.names.Name.{Name}
use Rattle.lift_tree.specs.declared.term.UnaryForm.{UnaryForm}
use Rattle.lift_tree.specs.declared.term.UnaryForm.TheVariants as unary
use Rattle.lift_tree.specs.declared.term.BinaryForm.{BinaryForm}
use Rattle.lift_tree.specs.declared.term.BinaryForm.TheVariants as binary
use Rattle.lift_tree.specs.Tree as tree
use Rattle.lift_tree.specs.Tree.{Tree, height}
use Rattle.lift_tree.specs.Meaning.{scalar_op}
use Rattle.lift_tree.specs.Types.{PlainTy}
use Rattle.lift_tree.specs.Annotations.{Annotation, Leaf, One, Two, Three, type_in}
use Rattle.lift_ir.specs.Terms.{Literal, Bound, Source, Apply, ApplyNumber, ApplyLanes, DivideLanes, Select, Both, Project, Reshape, LetArray, LetElement, Map, Fold, Store, Copy}
use Rattle.lift_ir.specs.Lowering.{Place, Written, Argument, Element, Lowered, is_element, is_vector, element_ty, divided, applied, placed, placed_element, lower, lower_unary, lower_binary, lower_let, operand_place, binary_place, value_place, body_place}
use Rattle.lift_ir.proofs.Reshaped.{through_layout}
use Rattle.printed_form.specs.Sound.{AreLow, expression_height, loop_depth}

-- a lowered term that stands in the place of a term this high
pub record Low (h : ℕ) (t : Lowered) : Type 0 where
  pub elements : AreLow h t
  pub expressions : expression_height t ≤ h
  pub loops : loop_depth t ≤ h

placed_low : (p : Place) (a : PlainTy) (h : ℕ) (t : Lowered) → AreLow h t → expression_height t ≤ h → loop_depth t ≤ h → 1 ≤ h → Low h (placed p a t)
placed_low Written a h t e x l one = record { elements = x; expressions = omega arith; loops = omega arith }
placed_low Argument a h t e x l one = record { elements = e; expressions = x; loops = l }
placed_low Element a h t e x l one = record { elements = e; expressions = x; loops = l }

are_low_more : (h i : ℕ) (t : Lowered) → h ≤ i → AreLow h t → AreLow i t
are_low_more h i (Literal c) le e = tt
are_low_more h i (Bound v) le e = tt
are_low_more h i (Source v) le e = tt
are_low_more h i (Apply o x y) le e = tt
are_low_more h i (ApplyNumber o m x) le e = tt
are_low_more h i (ApplyLanes o l r x y) le e = tt
are_low_more h i (DivideLanes o m x) le e = tt
are_low_more h i (Select c x y) le e = tt
are_low_more h i (Both z x y) le e = (are_low_more h i x le e.0, are_low_more h i y le e.1)
are_low_more h i (Project s x) le e = are_low_more h i x le e
are_low_more h i (Reshape l x) le e = are_low_more h i x le e
are_low_more h i (LetArray v b) le e = (are_low_more h i v le e.0, are_low_more h i b le e.1)
are_low_more h i (LetElement ty v b) le e = ((let x = e.0 in omega arith), are_low_more h i b le e.1)
are_low_more h i (Map k n ls xs b) le e = (are_low_more h i xs le e.0, are_low_more h i b le e.1)
are_low_more h i (Fold n ls ty xs s b) le e = (are_low_more h i xs le e.0, (let x = e.1 in omega arith), (let x = e.2 in omega arith))
are_low_more h i (Store ty x) le e = (let y : expression_height x ≤ h = e in omega arith)
are_low_more h i (Copy m ty x) le e = are_low_more h i x le e

pub low_more : (h i : ℕ) (t : Lowered) → h ≤ i → Low h t → Low i t
low_more h i t le l = record { elements = are_low_more h i t le l.elements; expressions = (let x = l.expressions in omega arith); loops = (let x = l.loops in omega arith) }

literal_low : (h : ℕ) → 1 ≤ h → Low h (Literal 0)
literal_low h one = record { elements = tt; expressions = omega arith; loops = omega arith }

divided_low : (p : Place) (a : PlainTy) (vector : Bool) (o : Op) (m h : ℕ) (t : Lowered) → Low h t → Low (h + 1) (placed p a (divided vector o m t))
divided_low p a false o m h t l = let x = l.expressions in placed_low p a (h + 1) (ApplyNumber o m t) tt (omega arith) (omega arith) (omega arith)
divided_low p a true o m h t l = let x = l.expressions in placed_low p a (h + 1) (DivideLanes o m t) tt (omega arith) (omega arith) (omega arith)

applied_low : (p : Place) (a : PlainTy) (vector left right : Bool) (o : Op) (h i : ℕ) (t u : Lowered) → Low h t → Low i u → Low (max h i + 1) (placed p a (applied vector left right o t u))
applied_low p a false left right o h i t u l r = let x = l.expressions in let y = r.expressions in placed_low p a (max h i + 1) (Apply o t u) tt (omega arith) (omega arith) (omega arith)
applied_low p a true left right o h i t u l r = let x = l.expressions in let y = r.expressions in placed_low p a (max h i + 1) (ApplyLanes o left right t u) tt (omega arith) (omega arith) (omega arith)

unary_low : (names : List Name) (p : Place) (f : UnaryForm) (a b : PlainTy) (h : ℕ) (t : Lowered) → Low h t → Low (h + 1) (lower_unary names p f a b t)
unary_low names p (unary.Div m) a b h t l = divided_low p a (is_vector a) Div m h t l
unary_low names p (unary.Rem m) a b h t l = divided_low p a (is_vector a) Rem m h t l
unary_low names p unary.First a b h t l = let m = low_more h (h + 1) t (omega arith) l in placed_low p a (h + 1) (Project false t) m.elements m.expressions m.loops (omega arith)
unary_low names p unary.Second a b h t l = let m = low_more h (h + 1) t (omega arith) l in placed_low p a (h + 1) (Project true t) m.elements m.expressions m.loops (omega arith)
unary_low names p unary.ToPrivate a b h t l = let m = low_more h (h + 1) t (omega arith) l in record { elements = m.elements; expressions = omega arith; loops = m.loops }
unary_low names p unary.ToLocal a b h t l = let m = low_more h (h + 1) t (omega arith) l in record { elements = m.elements; expressions = omega arith; loops = m.loops }
unary_low names p unary.Then a b h t l = literal_low (h + 1) (omega arith)
unary_low names p (unary.Layout y) a b h t l =
    through_layout (Low (h + 1)) (λ z u i k. record { elements = k.elements; expressions = omega arith; loops = k.loops }) names p y a b t (low_more h (h + 1) t (omega arith) l)
unary_low names p (unary.Slide s k) a b h t l = let m = low_more h (h + 1) t (omega arith) l in record { elements = m.elements; expressions = omega arith; loops = m.loops }
unary_low names p (unary.Pad s k) a b h t l = let m = low_more h (h + 1) t (omega arith) l in record { elements = m.elements; expressions = omega arith; loops = m.loops }

binary_low : (p : Place) (f : BinaryForm) (a b c : PlainTy) (h i : ℕ) (t u : Lowered) → Low h t → Low i u → Low (max h i + 1) (lower_binary p f a b c t u)
binary_low p (binary.Operator o) a b c h i t u l r = applied_low p a (is_vector a) (is_vector b) (is_vector c) (scalar_op o) h i t u l r
binary_low p binary.Pair a b c h i t u l r =
    let m = low_more h (max h i + 1) t (omega arith) l in let n = low_more i (max h i + 1) u (omega arith) r in
    let x = m.expressions in let y = n.expressions in let z = m.loops in let w = n.loops in
    placed_low p a (max h i + 1) (Both false t u) (m.elements, n.elements) (omega arith) (omega arith) (omega arith)
binary_low p binary.Zip a b c h i t u l r =
    let m = low_more h (max h i + 1) t (omega arith) l in let n = low_more i (max h i + 1) u (omega arith) r in
    let x = m.expressions in let y = n.expressions in let z = m.loops in let w = n.loops in
    record { elements = (m.elements, n.elements); expressions = omega arith; loops = omega arith }
binary_low p (binary.Reduce o) a b c h i t u l r = literal_low (max h i + 1) (omega arith)

let_low : (c : PlainTy) (h i : ℕ) (v b : Lowered) → Low h v → Low i b → Low (max h i + 1) (lower_let c v b)
let_low c h i v b l r = by_test (is_element c) where
  m : Low (max h i + 1) v
  m = low_more h (max h i + 1) v (omega arith) l

  n : Low (max h i + 1) b
  n = low_more i (max h i + 1) b (omega arith) r

  by_test : (e : Bool) → Low (max h i + 1) (if e then LetElement (element_ty c) v b else LetArray v b)
  by_test true = let x = m.expressions in let y = n.expressions in let w = n.loops in record { elements = (m.expressions, n.elements); expressions = omega arith; loops = omega arith }
  by_test false = let x = m.loops in let w = n.loops in record { elements = (m.elements, n.elements); expressions = omega arith; loops = omega arith }

placed_element_low : (p : Place) (a : PlainTy) (h : ℕ) (t : Lowered) → 1 ≤ h → Low h t → Low h (placed_element p a t)
placed_element_low p a h t one l = by_test (is_element a) where
  by_test : (e : Bool) → Low h (if e then placed p a t else t)
  by_test true = placed_low p a h t l.elements l.expressions l.loops one
  by_test false = l

pub lower_low : (names : List Name) (p : Place) (t : Tree) (n : Annotation) → Low (height t) (lower names p t n)
lower_low names p (tree.Variable v) n = placed_low p (type_in n) 1 (Bound v) tt (omega arith) (omega arith) (omega arith)
lower_low names p (tree.Number c) n = placed_low p (type_in n) 1 (Literal c) tt (omega arith) (omega arith) (omega arith)
lower_low names p (tree.Input i) n = record { elements = tt; expressions = omega arith; loops = omega arith }
lower_low names p (tree.Unary f t) (One a n) = unary_low names p f a (type_in n) (height t) (lower names (operand_place f p) t n) (lower_low names (operand_place f p) t n)
lower_low names p (tree.Unary f t) (Leaf a) = literal_low (height t + 1) (omega arith)
lower_low names p (tree.Unary f t) (Two a n m) = literal_low (height t + 1) (omega arith)
lower_low names p (tree.Unary f t) (Three a n m k) = literal_low (height t + 1) (omega arith)
lower_low names p (tree.Binary f t u) (Two a n m) = binary_low p f a (type_in n) (type_in m) (height t) (height u) (lower names (binary_place f) t n) (lower names (binary_place f) u m) (lower_low names (binary_place f) t n) (lower_low names (binary_place f) u m)
lower_low names p (tree.Binary f t u) (Leaf a) = literal_low (max (height t) (height u) + 1) (omega arith)
lower_low names p (tree.Binary f t u) (One a n) = literal_low (max (height t) (height u) + 1) (omega arith)
lower_low names p (tree.Binary f t u) (Three a n m k) = literal_low (max (height t) (height u) + 1) (omega arith)
lower_low names p (tree.Select t u v) (Three a n m k) =
    let x = (lower_low names Element t n).expressions in let y = (lower_low names Element u m).expressions in let z = (lower_low names Element v k).expressions in
    placed_low p a (max (max (height t) (height u)) (height v) + 1) (Select (lower names Element t n) (lower names Element u m) (lower names Element v k)) tt (omega arith) (omega arith) (omega arith)
lower_low names p (tree.Select t u v) (Leaf a) = literal_low (max (max (height t) (height u)) (height v) + 1) (omega arith)
lower_low names p (tree.Select t u v) (One a n) = literal_low (max (max (height t) (height u)) (height v) + 1) (omega arith)
lower_low names p (tree.Select t u v) (Two a n m) = literal_low (max (max (height t) (height u)) (height v) + 1) (omega arith)
lower_low names p (tree.Let v b) (Two a n m) =
    placed_element_low p a (max (height v) (height b) + 1) (lower_let (type_in n) (lower names (value_place n) v n) (lower names (body_place p a) b m)) (omega arith)
    (let_low (type_in n) (height v) (height b) (lower names (value_place n) v n) (lower names (body_place p a) b m) (lower_low names (value_place n) v n) (lower_low names (body_place p a) b m))
lower_low names p (tree.Let v b) (Leaf a) = literal_low (max (height v) (height b) + 1) (omega arith)
lower_low names p (tree.Let v b) (One a n) = literal_low (max (height v) (height b) + 1) (omega arith)
lower_low names p (tree.Let v b) (Three a n m k) = literal_low (max (height v) (height b) + 1) (omega arith)
lower_low names p (tree.Map h xs b) (Two a n m) =
    let l = low_more (height xs) (max (height xs) (height b) + 1) (lower names Argument xs n) (omega arith) (lower_low names Argument xs n) in
    let r = low_more (height b) (max (height xs) (height b) + 1) (lower names Written b m) (omega arith) (lower_low names Written b m) in
    let x = l.loops in let y = (lower_low names Written b m).loops in
    record { elements = (l.elements, r.elements); expressions = omega arith; loops = omega arith }
lower_low names p (tree.Map h xs b) (Leaf a) = literal_low (max (height xs) (height b) + 1) (omega arith)
lower_low names p (tree.Map h xs b) (One a n) = literal_low (max (height xs) (height b) + 1) (omega arith)
lower_low names p (tree.Map h xs b) (Three a n m k) = literal_low (max (height xs) (height b) + 1) (omega arith)
lower_low names p (tree.Fold h xs s b) (Three a n m k) =
    let i = max (max (height xs) (height s)) (height b) + 1 in
    let l = low_more (height xs) i (lower names Argument xs n) (omega arith) (lower_low names Argument xs n) in
    let x = (lower_low names Element s m).expressions in let y = (lower_low names Element b k).expressions in let z = l.loops in
    record { elements = (l.elements, omega arith, omega arith); expressions = omega arith; loops = omega arith }
lower_low names p (tree.Fold h xs s b) (Leaf a) = literal_low (max (max (height xs) (height s)) (height b) + 1) (omega arith)
lower_low names p (tree.Fold h xs s b) (One a n) = literal_low (max (max (height xs) (height s)) (height b) + 1) (omega arith)
lower_low names p (tree.Fold h xs s b) (Two a n m) = literal_low (max (max (height xs) (height s)) (height b) + 1) (omega arith)
