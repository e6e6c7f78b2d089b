-- The nodes of the layouts' formulas put into one another, from the nodes of the indices.
use Rattle.std.specs.Prelude.{ℕ, ◌+◌, ◌≤◌, max, Bool, true, false, List, [], ◌∷◌, map}
use Rattle.lift_ir.specs.Types.{Shape, ArrayOf}
use Rattle.lift_ir.specs.Layouts.{Layout, Split, Join}
use Rattle.index_expr.specs.Expression.{Expression, nodes, short_nodes}
use Rattle.array_views.specs.Layouts.{Arithmetic, flattened, operand_of, result_of}
use Rattle.array_views.specs.Views.{PlainView, Placed, Both, Component, At, Reading, Writing}
use Rattle.array_views.specs.Accesses as access
use Rattle.array_views.specs.Accesses.{PlainAccess, access_at}

-- an operation is a node, i * m + j two
abbrev pub node_counts : Arithmetic ℕ
node_counts =
    record {
      number = λ n. 1;
      operation = λ o a b. a + b + 1;
      cell = λ i m j. i + m + 1 + j + 1;
    }

-- lengths and indices at elements are counted so
module _ (count : Expression → ℕ) where
  -- in the operand, from those in the result
  abbrev pub operand_nodes : Layout Expression → List ℕ → List ℕ
  operand_nodes y ns = operand_of node_counts count y ns

  -- in the result, from those in the operand
  abbrev pub result_nodes : Layout Expression → List ℕ → List ℕ
  result_nodes y ns = result_of node_counts count y ns

  -- of an index in rows of this length, where these are the nodes at indices in all rows; of a row
  -- alone those of its number: its index, or its first cell by the length
  abbrev pub gathered_nodes : (length : ℕ) → (List ℕ → ℕ) → List ℕ → ℕ
  gathered_nodes m x (n ∷ []) = max n (x ((n + m + 1 + 1 + 1) ∷ []) + m + 1)
  gathered_nodes m x ns = x (flattened node_counts m ns)

  -- of what is read through a layout, from the operand's
  abbrev pub read_nodes : Layout Expression → (List ℕ → ℕ) → List ℕ → ℕ
  read_nodes (Split m) x ns = gathered_nodes (count m) x ns
  read_nodes y x ns = x (operand_nodes y ns)

  -- of where the operand goes, from the result's
  abbrev pub written_nodes : Layout Expression → (List ℕ → ℕ) → List ℕ → ℕ
  written_nodes (Join m) x ns = gathered_nodes (count m) x ns
  written_nodes y x ns = x (result_nodes y ns)

  -- i, then i * m + j for each further index j below m
  abbrev pub row_major_nodes : ℕ → Shape Expression → List ℕ → ℕ
  row_major_nodes i (ArrayOf m t) (j ∷ q) = row_major_nodes (i + count m + 1 + j + 1) t q
  row_major_nodes i _ _ = i

  -- of the index in row-major order, which for an array of one dimension is the index alone
  abbrev pub placed_nodes : Shape Expression → List ℕ → ℕ
  placed_nodes (ArrayOf n t) (i ∷ q) = row_major_nodes i t q
  placed_nodes _ _ = 1

  -- of a view's index at pair choices
  abbrev pub nodes_at : PlainView → List Bool → List ℕ → ℕ
  nodes_at (Placed k n t) cs ns = placed_nodes t ns
  nodes_at (Both x y) (false ∷ cs) ns = nodes_at x cs ns
  nodes_at (Both x y) (true ∷ cs) ns = nodes_at y cs ns
  nodes_at (Component s x) cs ns = nodes_at x (s ∷ cs) ns
  nodes_at (At i x) cs ns = nodes_at x cs (count i ∷ ns)
  nodes_at (Reading y x) cs ns = read_nodes y (nodes_at x cs) ns
  nodes_at (Writing y x) cs ns = written_nodes y (nodes_at x cs) ns
  nodes_at _ cs ns = 0

  -- of a cell's index
  abbrev pub index_nodes : PlainAccess → ℕ
  index_nodes (access.InCell a e) = count e
  index_nodes _ = 0

  -- no view's index has more nodes, so counted
  abbrev pub HaveNoMoreNodes : Type 0
  HaveNoMoreNodes =
      (v : PlainView) (cs : List Bool) (is : List Expression)
      → index_nodes (access_at v cs is) ≤ nodes_at v cs (map count is)

-- an index has no more nodes than the formulas put into one another, counted in full and in short
abbrev pub IndicesHaveNoMoreNodes : Type 0
IndicesHaveNoMoreNodes = HaveNoMoreNodes nodes × HaveNoMoreNodes short_nodes
