-- What is forbidden to the indices and the bounds of a term's kernel.
use Rattle.std.specs.Prelude.{◌≡◌, ◌≤◌, ℕ, List, [], Option, Some}
use Rattle.size_arith.specs.declared.names.Name.{Name}
use Rattle.lift_tree.specs.Annotations.{Annotation}
use Rattle.lift_tree.specs.Tree.{Tree}
use Rattle.lift_tree.specs.Typing.{Declared}
use Rattle.index_expr.specs.Expression.{Expression, short_nodes}
use Rattle.kernel_tree.specs.Formula.{Formula}
use Rattle.kernel_tree.specs.Code.{Kernel}
use Rattle.index_simplify.specs.Simplified.{AreDeclared}
use Rattle.tidy_indices.specs.Formulas.{formula_nodes}
use Rattle.tidy_indices.specs.Redundant.{IsIrredundant}
use Rattle.tidy_indices.specs.Reading.{reading, IsIndexFormula}
use Rattle.tidy_indices.specs.Places.{ranges_outside}
use Rattle.tidy_indices.specs.Around.{Around}
use Rattle.tidy_indices.specs.Laws.{Change, HaveIndexBounds}
use Rattle.tidy_printed.specs.Indices.{EachWithin, indices_then}
use Rattle.tidy_printed.specs.Limits.{limits_of}

-- no part of it is redundant, and it has at most so many nodes
pub record IsTidyIndex (most : ℕ) (f : Formula) : Type 0 where
  pub irredundant : IsIrredundant f
  pub short : formula_nodes f ≤ most

-- so is each index of the kernel, which has no more nodes than the term's formulas put into one
-- another, each offset of four, which has no more than the vector's index or its first scalar's by
-- 4, and each bound, which has no more than its length
abbrev pub IsTidyFor : Declared → (local : Option (ℕ × ℕ)) → Tree → Annotation → Kernel → Type 0
IsTidyFor d local t a k = EachWithin IsTidyIndex (limits_of d local t a) (indices_then k.code [])

-- in ifs, and in loops whose bounds spell index expressions, it makes of each such formula one
-- without redundant parts and, where sizes are divided as they are declared, with no more nodes
-- than are counted in short
pub record MakesTidy (names : List Name) (tidy : Change) : Type 0 where
  pub irredundant : (around : List Around) (f : Formula) → HaveIndexBounds around
      → IsIndexFormula f → IsIrredundant (tidy around f)
  pub short :
      (around : List Around) (f : Formula) (e : Expression) → HaveIndexBounds around
      → reading f ≡ Some e → AreDeclared (ranges_outside names) e
      → formula_nodes (tidy around f) ≤ short_nodes e
