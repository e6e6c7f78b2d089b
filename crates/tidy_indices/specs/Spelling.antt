-- What simplified spellings are worth, and how large they are.
use Rattle.std.specs.Prelude.{ℕ, ◌≡◌, ◌≤◌, pos, true, List, Some}
use Rattle.index_expr.specs.Expression.{Expression}
use Rattle.index_expr.specs.Values.{exact, IsRangedAt, HasNoZeroDivisorAt}
use Rattle.kernel_tree.specs.Formula.{Formula, Ids, Vars, value}
use Rattle.kernel_tree.specs.Code.{Kernel}
use Rattle.kernel_tree.specs.Grammar.{height, is_constant, names_declared}
use Rattle.length_spelling.specs.Turns.{turns_of}
use Rattle.length_spelling.specs.Formulas.{index_formula}
use Rattle.length_spelling.specs.Laws.{AreWords}
use Rattle.index_simplify.specs.PlainRanges.{PlainRanges}
use Rattle.index_simplify.specs.Ranges.{IsPoint}
use Rattle.index_simplify.specs.Simplified.{HasWordLiterals}
use Rattle.tidy_indices.specs.Formulas.{formula_nodes, simple_formula}
use Rattle.tidy_indices.specs.Redundant.{IsIrredundant}

-- among words, where an expression is ranged and divides by no 0, it has its exact value
abbrev pub RangedFormulasHaveTheValues : Type 0
RangedFormulasHaveTheValues =
    (ids : Ids) (loops : List ℕ) (variables : Vars) (e : Expression) (n : ℕ)
    → AreWords ids.sizes → AreWords (turns_of ids loops) → HasWordLiterals e
    → IsRangedAt ids.sizes (turns_of ids loops) e
    → HasNoZeroDivisorAt ids.sizes (turns_of ids loops) e
    → exact ids.sizes (turns_of ids loops) e ≡ pos n
    → value ids loops variables (index_formula e) ≡ Some n

-- and simplified too, at a point of the ranges
abbrev pub SimpleFormulasHaveTheValues : Type 0
SimpleFormulasHaveTheValues =
    (r : PlainRanges) (ids : Ids) (loops : List ℕ) (variables : Vars) (e : Expression) (n : ℕ)
    → AreWords ids.sizes → AreWords (turns_of ids loops) → HasWordLiterals e
    → IsPoint r ids.sizes (turns_of ids loops) e → IsRangedAt ids.sizes (turns_of ids loops) e
    → HasNoZeroDivisorAt ids.sizes (turns_of ids loops) e
    → exact ids.sizes (turns_of ids loops) e ≡ pos n
    → value ids loops variables (simple_formula r e) ≡ Some n

-- the second is of the kernel grammar where the first is, and no larger
pub record IsNoLarger (one other : Formula) : Type 0 where
  pub declared : (k : Kernel) (loops : ℕ) → names_declared k loops one ≡ true
      → names_declared k loops other ≡ true
  pub constant : is_constant one ≡ true → is_constant other ≡ true
  pub low : height other ≤ height one
  pub nodes : formula_nodes other ≤ formula_nodes one

-- the simplified spelling is no larger than the plain one
abbrev pub SimpleFormulasAreNoLarger : Type 0
SimpleFormulasAreNoLarger =
    (r : PlainRanges) (e : Expression) → IsNoLarger (index_formula e) (simple_formula r e)

-- no part of a simplified spelling is redundant
abbrev pub SimpleFormulasAreIrredundant : Type 0
SimpleFormulasAreIrredundant =
    (r : PlainRanges) (e : Expression) → IsIrredundant (simple_formula r e)
