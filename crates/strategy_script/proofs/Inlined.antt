-- How many nodes a term has once a let's value stands in its body.
use Rattle.std.proofs.Common.{◌≡◌, ◌⊎◌, ℕ, zero, suc, ◌+◌, ◌-◌, ◌<◌, ◌≤◌, List, [], ◌∷◌, Option, Some, None, Bool, true, false, refl, sym, ap, ◌∙◌, subst, inl, inr, arith}
use Rattle.std.specs.Prelude.{Err, Ok, if◌then◌else◌, nat_eq, nat_lt, option_map, option_and_then}
use Rattle.std.proofs.lemmas.Bool.{cases_order, eqb-false, eqb-true, lt-ltb}
use Rattle.lift_tree.proofs.Numbers.{down-after, down-at, down-before}
use Rattle.lift_tree.specs.Places.{child_at, with_at, with_child}
use Rattle.lift_tree.specs.Programs.{program_of}
use Rattle.lift_tree.specs.Renumbering.{down, put, put_variable, shift, substitute}
use Rattle.lift_tree.specs.Tree.{Tree, Variable, Number, Input, Unary, Binary, Select, Let, Map, Fold, height, nodes, tree_of}
use Rattle.lift_tree.specs.Typing.{declared_by}
use Rattle.lift_tree.specs.declared.typed.Typed.{Typed}
use Rattle.lift_tree.specs.Annotations.{IsTyped}
use Rattle.pattern_types.specs.Judged.{and_then, counted}
use Rattle.rewriting.specs.Laws.{PlacesHaveContexts}
use Rattle.strategy_script.specs.Inlined.{PutsInto, nodes_filled}
use Rattle.strategy_script.specs.RuleAnswers.{answer}
use Rattle.strategy_script.specs.Steps.{answered, at_most, limited, state_of, stepped, whole}
use Rattle.strategy_script.specs.declared.faults.Fault.TheVariants.{Passes}
use Rattle.strategy_script.specs.declared.faults.StepLimit.TheVariants.{Depth, Nodes}
use Rattle.strategy_script.specs.declared.rule.Rule.{Rule}
use Rattle.strategy_script.specs.declared.script.Step.{Step}
use Rattle.strategy_script.proofs.Rewritten.{rewrites}
use Rattle.strategy_script.proofs.Stepping.{not_limited, whole_around}

-- ---- the value moved to where it is mentioned
nodes_shift : (more k : ℕ) (t : Tree) → nodes (shift more k t) ≡ nodes t
nodes_shift more k (Variable n) = refl
nodes_shift more k (Number n) = refl
nodes_shift more k (Input n) = refl
nodes_shift more k (Unary f t) = omega (arith, nodes_shift more k t)
nodes_shift more k (Binary f t u) = omega (arith, nodes_shift more k t, nodes_shift more k u)
nodes_shift more k (Select t u v) = omega (arith, nodes_shift more k t, nodes_shift more k u, nodes_shift more k v)
nodes_shift more k (Let v b) = omega (arith, nodes_shift more k v, nodes_shift more (suc k) b)
nodes_shift more k (Map h xs b) = omega (arith, nodes_shift more k xs, nodes_shift more (suc k) b)
nodes_shift more k (Fold h xs s b) = omega (arith, nodes_shift more k xs, nodes_shift more k s, nodes_shift more (suc (suc k)) b)

nodes_variable : (k n : ℕ) (v : Tree) → nodes (put_variable k v (down k n)) ≡ if nat_eq n k then nodes v else 1
nodes_variable k n v = by_test (nat_eq n k) refl where
  by_order : (n ≡ k) ⊎ ((n < k) ⊎ (k < n)) → nat_eq n k ≡ false → nodes (put_variable k v (down k n)) ≡ 1
  by_order (inl same) e = absurd (eqb-false n k e same)
  by_order (inr (inl before)) e = ap (λ (o : Option ℕ). nodes (put_variable k v o)) (down-before k n before)
  by_order (inr (inr after)) e = ap (λ (o : Option ℕ). nodes (put_variable k v o)) (down-after k n after)

  by_test : (b : Bool) → nat_eq n k ≡ b → nodes (put_variable k v (down k n)) ≡ if b then nodes v else 1
  by_test true e = ap (λ (o : Option ℕ). nodes (put_variable k v o)) (down-at k n (eqb-true n k e)) ∙ nodes_shift k 0 v
  by_test false e = by_order (cases_order n k) e

-- ---- the term with the value
nodes_put : (k : ℕ) (v t : Tree) → nodes (put k v t) ≡ nodes_filled k (nodes v) t
nodes_put k v (Variable n) = nodes_variable k n v
nodes_put k v (Number n) = refl
nodes_put k v (Input n) = refl
nodes_put k v (Unary f t) = omega (arith, nodes_put k v t)
nodes_put k v (Binary f t u) = omega (arith, nodes_put k v t, nodes_put k v u)
nodes_put k v (Select t u w) = omega (arith, nodes_put k v t, nodes_put k v u, nodes_put k v w)
nodes_put k v (Let t b) = omega (arith, nodes_put k v t, nodes_put (suc k) v b)
nodes_put k v (Map h xs b) = omega (arith, nodes_put k v xs, nodes_put (suc k) v b)
nodes_put k v (Fold h xs s b) = omega (arith, nodes_put k v xs, nodes_put k v s, nodes_put (suc (suc k)) v b)

-- the value's nodes may be counted up to 2^64 - 1 alone
counted_filled : (k m : ℕ) (t : Tree) → counted (nodes_filled k (counted m) t) ≡ counted (nodes_filled k m t)
counted_filled k m (Variable n) = by_test (nat_eq n k) where
  by_test : (b : Bool) → counted (if b then counted m else 1) ≡ counted (if b then m else 1)
  by_test true = omega arith
  by_test false = refl
counted_filled k m (Number n) = refl
counted_filled k m (Input n) = refl
counted_filled k m (Unary f t) = omega (arith, counted_filled k m t)
counted_filled k m (Binary f t u) = omega (arith, counted_filled k m t, counted_filled k m u)
counted_filled k m (Select t u v) = omega (arith, counted_filled k m t, counted_filled k m u, counted_filled k m v)
counted_filled k m (Let t b) = omega (arith, counted_filled k m t, counted_filled (suc k) m b)
counted_filled k m (Map h xs b) = omega (arith, counted_filled k m xs, counted_filled (suc k) m b)
counted_filled k m (Fold h xs s b) = omega (arith, counted_filled k m xs, counted_filled k m s, counted_filled (suc (suc k)) m b)

counted_inlined : (v b : Tree) → counted (nodes_filled 0 (counted (nodes v)) b) ≡ counted (nodes (substitute b v))
counted_inlined v b = counted_filled 0 (nodes v) b ∙ ap counted (sym (nodes_put 0 v b))

-- ---- the whole term
child_nodes : (t c x y : Tree) (i : ℕ) → child_at t i ≡ Some c → nodes (with_child t i x) + nodes y ≡ nodes (with_child t i y) + nodes x
child_nodes (Variable k) c x y i e = absurd (cc)
child_nodes (Number k) c x y i e = absurd (cc)
child_nodes (Input k) c x y i e = absurd (cc)
child_nodes (Unary f t) c x y zero e = omega arith
child_nodes (Unary f t) c x y (suc i) e = absurd (cc)
child_nodes (Binary f t u) c x y zero e = omega arith
child_nodes (Binary f t u) c x y (suc zero) e = omega arith
child_nodes (Binary f t u) c x y (suc (suc i)) e = absurd (cc)
child_nodes (Select t u v) c x y zero e = omega arith
child_nodes (Select t u v) c x y (suc zero) e = omega arith
child_nodes (Select t u v) c x y (suc (suc zero)) e = omega arith
child_nodes (Select t u v) c x y (suc (suc (suc i))) e = absurd (cc)
child_nodes (Let t u) c x y zero e = omega arith
child_nodes (Let t u) c x y (suc zero) e = omega arith
child_nodes (Let t u) c x y (suc (suc i)) e = absurd (cc)
child_nodes (Map k t u) c x y zero e = omega arith
child_nodes (Map k t u) c x y (suc zero) e = omega arith
child_nodes (Map k t u) c x y (suc (suc i)) e = absurd (cc)
child_nodes (Fold k t u v) c x y zero e = omega arith
child_nodes (Fold k t u v) c x y (suc zero) e = omega arith
child_nodes (Fold k t u v) c x y (suc (suc zero)) e = omega arith
child_nodes (Fold k t u v) c x y (suc (suc (suc i))) e = absurd (cc)

then_some : {A B : Type 0} (f : A → Option B) (o : Option A) (u : B) → option_and_then f o ≡ Some u → (v : A) × (o ≡ Some v) × (f v ≡ Some u)
then_some f None u e = absurd (cc)
then_some f (Some v) u e = (v, refl, e)

map_some : {A B : Type 0} (f : A → B) (o : Option A) (u : B) → option_map f o ≡ Some u → (v : A) × (o ≡ Some v) × (f v ≡ u)
map_some f None u e = absurd (cc)
map_some f (Some v) u e = (v, refl, cc)

-- where one node can stand so can another, and this makes no other difference to the count
other_node : (t s u w : Tree) (place : List ℕ) → with_at t place s ≡ Some w → (v : Tree) × (with_at t place u ≡ Some v) × (nodes v + nodes s ≡ nodes w + nodes u)
other_node t s u w [] e = let same : s ≡ w = cc in (u, refl, subst (λ (z : Tree). nodes u + nodes s ≡ nodes z + nodes u) same (omega arith))
other_node t s u w (i ∷ is) e =
    let found = then_some (λ c. option_map (with_child t i) (with_at c is s)) (child_at t i) w e in
    let made = map_some (with_child t i) (with_at found.0 is s) w found.2 in
    let below = other_node found.0 s u made.0 is made.1 in
    let count : nodes below.0 + nodes s ≡ nodes made.0 + nodes u = below.2 in
    let here : nodes (with_child t i below.0) + nodes made.0 ≡ nodes (with_child t i made.0) + nodes below.0 = child_nodes t found.0 below.0 made.0 i found.1 in
    let whole : nodes (with_child t i made.0) ≡ nodes w = ap nodes made.2 in (
      with_child t i below.0,
      ap (option_and_then (λ c. option_map (with_child t i) (with_at c is u))) found.1 ∙ ap (option_map (with_child t i)) below.1,
      omega (arith, count, here, whole),
    )

some_nodes : (t : Tree) → 1 ≤ nodes t
some_nodes (Variable n) = omega arith
some_nodes (Number n) = omega arith
some_nodes (Input n) = omega arith
some_nodes (Unary f t) = omega arith
some_nodes (Binary f t u) = omega arith
some_nodes (Select t u v) = omega arith
some_nodes (Let t u) = omega arith
some_nodes (Map k t u) = omega arith
some_nodes (Fold k t u v) = omega arith

-- ---- the step
-- a count above the limit
too_many : (t : Tree) (n : ℕ) → n ≡ counted (nodes t) → 4096 < n → limited t ≡ Err (Passes Nodes n)
too_many t n e h =
    let above : nat_lt 4096 (counted (nodes t)) ≡ true = lt-ltb 4096 (counted (nodes t)) (omega (arith, e)) in
    ap (λ (b : Bool). and_then (if b then Err (Passes Nodes (counted (nodes t))) else Ok tt) (λ _. at_most 256 Depth (counted (height t)))) above
    ∙ ap (λ (m : ℕ). Err (Passes Nodes m)) (sym e)

-- the step that puts a let's value into its body makes a term of so many nodes
pub passes_nodes : PlacesHaveContexts → (s : Typed) (step : Step) (v b w : Tree) (n : ℕ) → IsTyped s → PutsInto step (tree_of s.term) v b
    → with_at (tree_of s.term) step.place (Number 0) ≡ Some w → n ≡ counted (nodes_filled 0 (counted (nodes v)) b) → 4096 < n
    → stepped (program_of s.program) step (state_of s) ≡ Err (Passes Nodes (counted ((counted (nodes w) - 1) + n)))
passes_nodes contexts s step v b w n typed puts put is above =
    let p = program_of s.program in
    let t = tree_of s.term in
    let u = substitute b v in
    let around = contexts (declared_by p) (whole s) t (Let v b) step.place (whole_around s typed) puts.1 in
    let other = other_node t (Number 0) u w step.place put in
    let answers : answered (answer step.rule around.0 (Let v b)) ≡ Ok u = ap (λ (r : Rule). answered (answer r around.0 (Let v b))) puts.0 in
    let filled : n ≡ counted (nodes u) = is ∙ counted_inlined v b in
    let same : nodes other.0 + 1 ≡ nodes w + nodes u = other.2 in
    let some : 1 ≤ nodes w = some_nodes w in
    let count : counted ((counted (nodes w) - 1) + n) ≡ counted (nodes other.0) = omega (arith, filled, same, some) in
    let more : 4096 < counted ((counted (nodes w) - 1) + n) = omega (arith, some, above) in
    not_limited p step (state_of s) other.0 (Passes Nodes (counted ((counted (nodes w) - 1) + n)))
    (rewrites step (whole s) around.0 t (Let v b) u other.0 puts.1 around.1 answers other.1)
    (too_many other.0 (counted ((counted (nodes w) - 1) + n)) count more)
