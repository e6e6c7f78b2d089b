-- Simplified index expressions as expressions of a kernel.
use Rattle.std.specs.Prelude.{ℕ, ◌+◌}
use Rattle.index_expr.specs.Expression.{Expression}
use Rattle.kernel_tree.specs.Formula.{Formula, Binary, Choose}
use Rattle.length_spelling.specs.Formulas.{index_formula}
use Rattle.index_simplify.specs.PlainRanges.{PlainRanges}
use Rattle.index_simplify.specs.Operations.{simple}

-- a simplified index expression, spelled
abbrev pub simple_formula : PlainRanges → Expression → Formula
simple_formula r e = index_formula (simple r e)

-- how many nodes an expression of a kernel has
abbrev pub formula_nodes : Formula → ℕ
formula_nodes (Binary o a b) = formula_nodes a + formula_nodes b + 1
formula_nodes (Choose c a b x y) =
    formula_nodes a + formula_nodes b + formula_nodes x + formula_nodes y + 1
formula_nodes _ = 1
