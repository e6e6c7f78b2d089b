-- How large the terms of a script are: their variables' numbers and heights are below 2^31.
use Rattle.std.proofs.Common.{◌≡◌, ℕ, zero, suc, ◌+◌, ◌*◌, ◌≤◌, ◌^◌, List, [], ◌∷◌, Option, Some, None, refl, subst, arith}
use Rattle.std.specs.Prelude.{option_and_then}
use Rattle.lift_tree.specs.declared.typed.Typed.{Typed}
use Rattle.lift_tree.specs.Programs.{program_of}
use Rattle.lift_tree.specs.Typing.{declared_by, HasOutput}
use Rattle.lift_tree.specs.Tree.{Tree, Variable, Number, Input, Unary, Binary, Select, Let, Map, Fold, nodes, height, tree_of}
use Rattle.lift_tree.specs.Annotations.{AnnotatedIsTyped, annotation_of, type_in, IsTyped}
use Rattle.lift_tree.specs.Renumbering.{AllBelow, IsRenumberable}
use Rattle.lift_tree.specs.Places.{child_at, node_at}
use Rattle.lift_tree.specs.Belonging.{Belongs}
use Rattle.pattern_types.specs.Judgement.{OutputsBelong}
use Rattle.strategy_script.specs.Laws.{FewNodesAreReady}

-- a term's variables are below the number, and its height at most that one
record IsBelow (n m : ℕ) (t : Tree) : Type 0 where
  numbers : AllBelow n t
  height : height t ≤ m

the_same : (n m : ℕ) (t c : Tree) → Some t ≡ Some c → AllBelow n t → height t ≤ m → IsBelow n m c
the_same n m t c e a h = let q : t ≡ c = cc in subst (IsBelow n m) q (record { numbers = a; height = h })

child_below : (n m : ℕ) (t c : Tree) (i : ℕ) → child_at t i ≡ Some c → AllBelow n t → height t ≤ m → IsBelow n m c
child_below n m (Variable k) c i e a h = absurd (cc)
child_below n m (Number k) c i e a h = absurd (cc)
child_below n m (Input k) c i e a h = absurd (cc)
child_below n m (Unary f t) c zero e a h = the_same n m t c e a (omega arith)
child_below n m (Unary f t) c (suc i) e a h = absurd (cc)
child_below n m (Binary f t u) c zero e a h = the_same n m t c e a.0 (omega arith)
child_below n m (Binary f t u) c (suc zero) e a h = the_same n m u c e a.1 (omega arith)
child_below n m (Binary f t u) c (suc (suc i)) e a h = absurd (cc)
child_below n m (Select t u v) c zero e a h = the_same n m t c e a.0 (omega arith)
child_below n m (Select t u v) c (suc zero) e a h = the_same n m u c e a.1 (omega arith)
child_below n m (Select t u v) c (suc (suc zero)) e a h = the_same n m v c e a.2 (omega arith)
child_below n m (Select t u v) c (suc (suc (suc i))) e a h = absurd (cc)
child_below n m (Let t u) c zero e a h = the_same n m t c e a.0 (omega arith)
child_below n m (Let t u) c (suc zero) e a h = the_same n m u c e a.1 (omega arith)
child_below n m (Let t u) c (suc (suc i)) e a h = absurd (cc)
child_below n m (Map k t u) c zero e a h = the_same n m t c e a.0 (omega arith)
child_below n m (Map k t u) c (suc zero) e a h = the_same n m u c e a.1 (omega arith)
child_below n m (Map k t u) c (suc (suc i)) e a h = absurd (cc)
child_below n m (Fold k t u v) c zero e a h = the_same n m t c e a.0 (omega arith)
child_below n m (Fold k t u v) c (suc zero) e a h = the_same n m u c e a.1 (omega arith)
child_below n m (Fold k t u v) c (suc (suc zero)) e a h = the_same n m v c e a.2 (omega arith)
child_below n m (Fold k t u v) c (suc (suc (suc i))) e a h = absurd (cc)

then_some : {A B : Type 0} (f : A → Option B) (o : Option A) (u : B) → option_and_then f o ≡ Some u → (v : A) × (o ≡ Some v) × (f v ≡ Some u)
then_some f None u e = absurd (cc)
then_some f (Some v) u e = (v, refl, e)

below_at : (n m : ℕ) (t r : Tree) (place : List ℕ) → node_at t place ≡ Some r → AllBelow n t → height t ≤ m → IsBelow n m r
below_at n m t r [] e a h = the_same n m t r e a h
below_at n m t r (i ∷ is) e a h =
    let next = then_some (λ c. node_at c is) (child_at t i) r e in
    let b = child_below n m t next.0 i next.1 a h in
    below_at n m next.0 r is next.2 b.numbers b.height

pub node_renumberable : (t r : Tree) (place : List ℕ) → node_at t place ≡ Some r → IsRenumberable t → IsRenumberable r
node_renumberable t r place e h =
    let small : height t ≤ 2147483647 = omega (arith, h.height) in
    let b = below_at (2 ^ 31) 2147483647 t r place e h.numbers small in
    record { numbers = b.numbers; height = omega (arith, b.height) }

all_below_more : (m n : ℕ) (t : Tree) → m ≤ n → AllBelow m t → AllBelow n t
all_below_more m n (Variable k) h a = omega arith
all_below_more m n (Number k) h a = tt
all_below_more m n (Input k) h a = tt
all_below_more m n (Unary f t) h a = all_below_more m n t h a
all_below_more m n (Binary f t u) h a = (all_below_more m n t h a.0, all_below_more m n u h a.1)
all_below_more m n (Select t u v) h a = (all_below_more m n t h a.0, all_below_more m n u h a.1, all_below_more m n v h a.2)
all_below_more m n (Let t u) h a = (all_below_more m n t h a.0, all_below_more m n u h a.1)
all_below_more m n (Map k t u) h a = (all_below_more m n t h a.0, all_below_more m n u h a.1)
all_below_more m n (Fold k t u v) h a = (all_below_more m n t h a.0, all_below_more m n u h a.1, all_below_more m n v h a.2)

-- each node puts at most two binders around those below
named_below : (s i b : ℕ) (t : Tree) → Belongs s i b t → AllBelow (b + 2 * height t) t
named_below s i b (Variable n) h = omega arith
named_below s i b (Number n) h = tt
named_below s i b (Input n) h = tt
named_below s i b (Unary f t) h = all_below_more (b + 2 * height t) _ t (omega arith) (named_below s i b t h.1)
named_below s i b (Binary f t u) h = (all_below_more (b + 2 * height t) _ t (omega arith) (named_below s i b t h.0), all_below_more (b + 2 * height u) _ u (omega arith) (named_below s i b u h.1))
named_below s i b (Select t u v) h = (
  all_below_more (b + 2 * height t) _ t (omega arith) (named_below s i b t h.0),
  all_below_more (b + 2 * height u) _ u (omega arith) (named_below s i b u h.1),
  all_below_more (b + 2 * height v) _ v (omega arith) (named_below s i b v h.2),
)
named_below s i b (Let t u) h = (all_below_more (b + 2 * height t) _ t (omega arith) (named_below s i b t h.0), all_below_more (suc b + 2 * height u) _ u (omega arith) (named_below s i (suc b) u h.1))
named_below s i b (Map k t u) h = (all_below_more (b + 2 * height t) _ t (omega arith) (named_below s i b t h.0), all_below_more (suc b + 2 * height u) _ u (omega arith) (named_below s i (suc b) u h.1))
named_below s i b (Fold k t u v) h = (
  all_below_more (b + 2 * height t) _ t (omega arith) (named_below s i b t h.0),
  all_below_more (b + 2 * height u) _ u (omega arith) (named_below s i b u h.1),
  all_below_more (suc (suc b) + 2 * height v) _ v (omega arith) (named_below s i (suc (suc b)) v h.2),
)

-- a term that belongs to a program, and isn't too high, may be renumbered
pub low_renumberable : (s i : ℕ) (t : Tree) → Belongs s i 0 t → height t ≤ 4096 → IsRenumberable t
low_renumberable s i t h low = record { numbers = all_below_more (0 + 2 * height t) (2 ^ 31) t (omega arith) (named_below s i 0 t h); height = omega arith }

height_nodes : (t : Tree) → height t ≤ nodes t
height_nodes (Variable n) = omega arith
height_nodes (Number n) = omega arith
height_nodes (Input n) = omega arith
height_nodes (Unary f t) = omega (arith, height_nodes t)
height_nodes (Binary f t u) = omega (arith, height_nodes t, height_nodes u)
height_nodes (Select t u v) = omega (arith, height_nodes t, height_nodes u, height_nodes v)
height_nodes (Let t u) = omega (arith, height_nodes t, height_nodes u)
height_nodes (Map k t u) = omega (arith, height_nodes t, height_nodes u)
height_nodes (Fold k t u v) = omega (arith, height_nodes t, height_nodes u, height_nodes v)

has_output : AnnotatedIsTyped → (t : Typed) → IsTyped t → HasOutput (program_of t.program) (tree_of t.term) (type_in (annotation_of t.types))
has_output annotated t h = record { declared = h.declared; typed = annotated (declared_by (program_of t.program)) [] (tree_of t.term) (annotation_of t.types) h.nodes; output = h.output }

-- so a script may be run from a typed term with no more nodes than a program may have
pub few_nodes_are_ready : AnnotatedIsTyped → OutputsBelong → FewNodesAreReady
few_nodes_are_ready annotated belong t proper typed few =
    let belongs = (belong (program_of t.program) (tree_of t.term) _ (has_output annotated t typed)).0 in
    let low : height (tree_of t.term) ≤ 4096 = omega (arith, height_nodes (tree_of t.term)) in
    record { proper = proper; typed = typed; small = low_renumberable _ _ (tree_of t.term) belongs low }
