-- An index has no more nodes than the formulas put into one another.
use Rattle.std.proofs.Common.{ℕ, ◌+◌, ◌≤◌, Bool, true, false, List, [], ◌∷◌, Some, arith}
use Rattle.std.proofs.lemmas.Int.{clamps}
use Rattle.std.specs.Prelude.{◌==◌, ◌%◌, ◌&&◌, max, nat_lt, if◌then◌else◌, map}
use Rattle.lift_ir.specs.Types.{Shape, Scalar, PairOf, ArrayOf}
use Rattle.lift_ir.specs.Layouts.{Layout, Split, Join, Transpose, Reverse, Slide, Pad}
use Rattle.index_expr.specs.declared.operation.Operation.{Operation}
use Rattle.index_expr.specs.declared.operation.Operation.TheVariants.{Sum, Product, Quotient}
use Rattle.index_expr.specs.Expression.{Expression, Variable, Literal, Size, Binary, nodes, short_nodes, short_operation, divisor_of, scaled_nodes}
use Rattle.index_simplify.specs.Laws.{first_part}
use Rattle.index_simplify.specs.Tests.{same}
use Rattle.array_views.specs.Layouts.{are_parts, asked_row, cell_in_rows, expressions, gathered, row_number, to_operand, to_result}
use Rattle.array_views.specs.Views as view
use Rattle.array_views.specs.Views.{PlainView}
use Rattle.array_views.specs.Accesses as access
use Rattle.array_views.specs.Accesses.{PlainAccess, in_rows, row_major, row_major_from, access_at}
use Rattle.array_views.specs.NodeCounts.{node_counts, operand_nodes, result_nodes, gathered_nodes, row_major_nodes, placed_nodes, nodes_at, index_nodes, HaveNoMoreNodes}
use Rattle.array_views.proofs.Layouts.{AllBy, AreAlike, operand_alike, result_alike}

-- a count of nodes, which may leave some out
pub record IsCount (count : Expression → ℕ) : Type 0 where
  pub literal : (n : ℕ) → count (Literal n) ≤ 1
  pub operation : (o : Operation) (a b : Expression) → count (Binary o a b) ≤ count a + count b + 1
  pub first : (o : Operation) (a b : Expression) → count a ≤ count (Binary o a b)

pub all_nodes : IsCount nodes
all_nodes = record { literal = λ n. omega arith; operation = λ o a b. omega arith; first = λ o a b. omega arith }

-- ---- counted in short
scaled_below : (c d plain : ℕ) → 3 ≤ plain → scaled_nodes c d plain ≤ plain
scaled_below c d plain le = go (nat_lt 0 d && (c % d == 0)) (c == d)
  where
    go : (x y : Bool) → (if x then (if y then 1 else 3) else plain) ≤ plain
    go true true = omega arith
    go true false = omega arith
    go false y = omega arith

whole_below : (b : Bool) (plain : ℕ) → 1 ≤ plain → (if b then 1 else plain) ≤ plain
whole_below true plain le = le
whole_below false plain le = omega arith

scaled_some : (c d plain : ℕ) → 1 ≤ plain → 1 ≤ scaled_nodes c d plain
scaled_some c d plain le = go (nat_lt 0 d && (c % d == 0)) (c == d)
  where
    go : (x y : Bool) → 1 ≤ (if x then (if y then 1 else 3) else plain)
    go true true = omega arith
    go true false = omega arith
    go false y = le

whole_some : (b : Bool) (plain : ℕ) → 1 ≤ plain → 1 ≤ (if b then 1 else plain)
whole_some true plain le = omega arith
whole_some false plain le = le

short_below : (o : Operation) (a b : Expression) (plain : ℕ) → 3 ≤ plain → short_operation o a b plain ≤ plain
short_below Product (Literal c) b plain le = scaled_below c (divisor_of b) plain le
short_below Quotient (Size k) (Literal d) plain le = whole_below (d == 1) plain (omega arith)
short_below _ _ _ plain le = omega arith

short_above : (o : Operation) (a b : Expression) (plain : ℕ) → short_nodes a ≤ plain → 1 ≤ plain → short_nodes a ≤ short_operation o a b plain
short_above Product (Literal c) b plain le some = scaled_some c (divisor_of b) plain some
short_above Quotient (Size k) (Literal d) plain le some = whole_some (d == 1) plain some
short_above _ _ _ plain le some = le

short_some : (e : Expression) → 1 ≤ short_nodes e
short_some (Variable k l g) = omega arith
short_some (Literal n) = omega arith
short_some (Size k) = omega arith
short_some (Binary o a b) =
    let x = short_some a in
    let y = short_above o a b (short_nodes a + short_nodes b + 1) (omega arith) (omega arith) in
    omega arith

pub in_short : IsCount short_nodes
in_short = record {
  literal = λ n. omega arith;
  operation = λ o a b. let x = short_some a in let y = short_some b in short_below o a b (short_nodes a + short_nodes b + 1) (omega arith);
  first = λ o a b. short_above o a b (short_nodes a + short_nodes b + 1) (omega arith) (omega arith);
}

module _ (count : Expression → ℕ) (counts : IsCount count) where
  -- at most so many nodes
  abbrev IsWithin : Expression → ℕ → Type 0
  IsWithin e n = count e ≤ n

  -- indices of at most so many
  abbrev AreWithin : List Expression → List ℕ → Type 0
  AreWithin = AllBy IsWithin

  themselves : (is : List Expression) → AreWithin is (map count is)
  themselves [] = tt
  themselves (i ∷ is) = (omega arith, themselves is)

  binary_within : (o : Operation) (a b : Expression) (m n : ℕ) → count a ≤ m → count b ≤ n → count (Binary o a b) ≤ m + n + 1
  binary_within o a b m n x y = let z = counts.operation o a b in omega arith

  first_within : (e : Expression) (n : ℕ) → count e ≤ n → count (first_part e) ≤ n
  first_within (Variable k l g) n le = le
  first_within (Literal m) n le = le
  first_within (Size k) n le = le
  first_within (Binary o a b) n le = let x = counts.first o a b in omega arith

  step_within : (i m j : Expression) (a l b : ℕ) → count i ≤ a → count m ≤ l → count j ≤ b → count (Binary Sum (Binary Product i m) j) ≤ a + l + 1 + b + 1
  step_within i m j a l b x y z = binary_within Sum (Binary Product i m) j (a + l + 1) b (binary_within Product i m a l x y) z

  cell_within : (i m j : Expression) (a l b : ℕ) → count i ≤ a → count m ≤ l → count j ≤ b → count (cell_in_rows i m j) ≤ a + l + 1 + b + 1
  cell_within i m j a l b x y z = go (are_parts i m j)
    where
      go : (p : Bool) → count (if p then first_part i else Binary Sum (Binary Product i m) j) ≤ a + l + 1 + b + 1
      go true = first_within i (a + l + 1 + b + 1) (omega arith)
      go false = step_within i m j a l b x y z

  within_counts : AreAlike expressions node_counts IsWithin
  within_counts = record { number = counts.literal; operation = binary_within; cell = cell_within }

  operand_within : (y : Layout Expression) (is : List Expression) (ns : List ℕ) → AreWithin is ns → AreWithin (to_operand y is) (operand_nodes count y ns)
  operand_within = operand_alike expressions node_counts IsWithin within_counts (λ m. m) count (λ m. omega arith)

  result_within : (y : Layout Expression) (is : List Expression) (ns : List ℕ) → AreWithin is ns → AreWithin (to_result y is) (result_nodes count y ns)
  result_within = result_alike expressions node_counts IsWithin within_counts (λ m. m) count (λ m. omega arith)

  from_within : (i : Expression) (a : ℕ) (t : Shape Expression) (is : List Expression) (ns : List ℕ) → count i ≤ a → AreWithin is ns → count (row_major_from i t is) ≤ row_major_nodes count a t ns
  from_within i a Scalar is ns x h = x
  from_within i a (PairOf s t) is ns x h = x
  from_within i a (ArrayOf n t) [] [] x h = x
  from_within i a (ArrayOf n t) (j ∷ is) (b ∷ ns) x h = from_within (Binary Sum (Binary Product i n) j) (a + count n + 1 + b + 1) t is ns (step_within i n j a (count n) b x (omega arith) h.0) h.1
  from_within i a t _ _ x h = absurd (assumption)

  row_within : (t : Shape Expression) (is : List Expression) (ns : List ℕ) → AreWithin is ns → count (row_major t is) ≤ placed_nodes count t ns
  row_within Scalar is ns h = counts.literal 0
  row_within (PairOf s t) is ns h = counts.literal 0
  row_within (ArrayOf n t) [] [] h = counts.literal 0
  row_within (ArrayOf n t) (i ∷ is) (a ∷ ns) h = from_within i a t is ns h.0 h.1
  row_within t _ _ h = absurd (assumption)

  -- a row that is asked for whole
  row_number_within : (i m f : Expression) (n k : ℕ) → count i ≤ n → count f ≤ k → count (row_number (record { index = i; length = m }) f) ≤ max n (k + count m + 1)
  row_number_within i m f n k x y = go (same f (Binary Sum (Binary Product i m) (Literal 0)))
    where
      go : (b : Bool) → count (if b then i else Binary Quotient f m) ≤ max n (k + count m + 1)
      go true = omega (arith, clamps)
      go false = let z = binary_within Quotient f m k (count m) y (omega arith) in omega (arith, clamps)

  row_within_rows : (i m : Expression) (n k : ℕ) (a : PlainAccess) → count i ≤ n → index_nodes count a ≤ k → index_nodes count (in_rows (Some (record { index = i; length = m })) a) ≤ max n (k + count m + 1)
  row_within_rows i m n k access.Nothing x y = omega (arith, clamps)
  row_within_rows i m n k (access.Variable v) x y = omega (arith, clamps)
  row_within_rows i m n k (access.Vector v) x y = omega (arith, clamps)
  row_within_rows i m n k (access.InCell a f) x y = row_number_within i m f n k x y

  gathered_within : (m : Expression) (x : List Expression → PlainAccess) (k : List ℕ → ℕ) → ((is : List Expression) (ns : List ℕ) → AreWithin is ns → index_nodes count (x is) ≤ k ns) → (is : List Expression) (ns : List ℕ) → AreWithin is ns → index_nodes count (in_rows (asked_row m is) (x (gathered m is))) ≤ gathered_nodes count (count m) k ns
  gathered_within m x k f [] [] h = f [] [] tt
  gathered_within m x k f (i ∷ []) (a ∷ []) h =
      row_within_rows i m a (k ((a + count m + 1 + 1 + 1) ∷ [])) (x (cell_in_rows i m (Literal 0) ∷ [])) h.0
      (f (cell_in_rows i m (Literal 0) ∷ []) ((a + count m + 1 + 1 + 1) ∷ []) (cell_within i m (Literal 0) a (count m) 1 h.0 (omega arith) (counts.literal 0), tt))
  gathered_within m x k f (i ∷ j ∷ is) (a ∷ b ∷ ns) h = f (cell_in_rows i m j ∷ is) ((a + count m + 1 + b + 1) ∷ ns) (cell_within i m j a (count m) b h.0 (omega arith) h.1.0, h.1.1)
  gathered_within m x k f _ _ h = absurd (assumption)

  within : (v : PlainView) (cs : List Bool) (is : List Expression) (ns : List ℕ) → AreWithin is ns → index_nodes count (access_at v cs is) ≤ nodes_at count v cs ns
  within view.Nothing cs is ns h = omega arith
  within (view.Variable n) cs is ns h = omega arith
  within (view.Vector n) cs is ns h = omega arith
  within (view.Placed k n t) cs is ns h = row_within t is ns h
  within (view.Both x y) [] is ns h = omega arith
  within (view.Both x y) (false ∷ cs) is ns h = within x cs is ns h
  within (view.Both x y) (true ∷ cs) is ns h = within y cs is ns h
  within (view.Component s x) cs is ns h = within x (s ∷ cs) is ns h
  within (view.At i x) cs is ns h = within x cs (i ∷ is) (count i ∷ ns) (omega arith, h)
  within (view.Reading (Split m) x) cs is ns h = gathered_within m (access_at x cs) (nodes_at count x cs) (within x cs) is ns h
  within (view.Reading (Join m) x) cs is ns h = within x cs (to_operand (Join m) is) (operand_nodes count (Join m) ns) (operand_within (Join m) is ns h)
  within (view.Reading Transpose x) cs is ns h = within x cs (to_operand Transpose is) (operand_nodes count Transpose ns) (operand_within Transpose is ns h)
  within (view.Reading (Reverse n) x) cs is ns h = within x cs (to_operand (Reverse n) is) (operand_nodes count (Reverse n) ns) (operand_within (Reverse n) is ns h)
  within (view.Reading (Slide s t) x) cs is ns h = within x cs (to_operand (Slide s t) is) (operand_nodes count (Slide s t) ns) (operand_within (Slide s t) is ns h)
  within (view.Reading (Pad l r n) x) cs is ns h = within x cs (to_operand (Pad l r n) is) (operand_nodes count (Pad l r n) ns) (operand_within (Pad l r n) is ns h)
  within (view.Writing (Split m) x) cs is ns h = within x cs (to_result (Split m) is) (result_nodes count (Split m) ns) (result_within (Split m) is ns h)
  within (view.Writing (Join m) x) cs is ns h = gathered_within m (access_at x cs) (nodes_at count x cs) (within x cs) is ns h
  within (view.Writing Transpose x) cs is ns h = within x cs (to_result Transpose is) (result_nodes count Transpose ns) (result_within Transpose is ns h)
  within (view.Writing (Reverse n) x) cs is ns h = within x cs (to_result (Reverse n) is) (result_nodes count (Reverse n) ns) (result_within (Reverse n) is ns h)
  within (view.Writing (Slide s t) x) cs is ns h = within x cs (to_result (Slide s t) is) (result_nodes count (Slide s t) ns) (result_within (Slide s t) is ns h)
  within (view.Writing (Pad l r n) x) cs is ns h = within x cs (to_result (Pad l r n) is) (result_nodes count (Pad l r n) ns) (result_within (Pad l r n) is ns h)

  pub no_more_nodes : HaveNoMoreNodes count
  no_more_nodes v cs is = within v cs is (map count is) (themselves is)
