-- What a spelled index expression, and a spelled length, are worth, and that
-- they are of the kernel grammar.
use Rattle.std.specs.Prelude.{ℕ, ◌≡◌, ◌<◌, ◌≤◌, ◌^◌, true, pos, List, Some, length, slice_index}
use Rattle.size_arith.specs.declared.names.Name.{Name}
use Rattle.size_arith.specs.declared.poly.Monomial.{Monomial}
use Rattle.size_arith.specs.Ranges.{AreNames, Admissible, sizes_at}
use Rattle.size_arith.specs.Polynomial.{AllSmall, degree, value_at}
use Rattle.index_expr.specs.Expression.{Expression}
use Rattle.index_expr.specs.Values.{HasNoZeroDivisorInWordsAt, wrapped}
use Rattle.index_expr.specs.Lengths.{length_expression}
use Rattle.kernel_tree.specs.Formula.{Formula, Ids, Vars, value}
use Rattle.kernel_tree.specs.Code.{Kernel}
use Rattle.kernel_tree.specs.Grammar.{height, is_constant, names_declared}
use Rattle.length_spelling.specs.Turns.{turns_of}
use Rattle.length_spelling.specs.Formulas.{in_words, index_formula, length_formula, spelled_length}

-- all of them are words
abbrev pub AreWords : List ℕ → Type 0
AreWords xs = (k : ℕ) → slice_index xs k < 2 ^ 32

-- among words, an index expression of words is spelled with its value on words
abbrev pub IndicesAreSpelled : Type 0
IndicesAreSpelled =
    (ids : Ids) (loops : List ℕ) (variables : Vars) (e : Expression)
    → AreWords ids.sizes → AreWords (turns_of ids loops)
    → HasNoZeroDivisorInWordsAt ids.sizes (turns_of ids loops) e
    → value ids loops variables (index_formula (in_words e))
    ≡ Some (wrapped ids.sizes (turns_of ids loops) e)

-- at admissible sizes a length is spelled with its value, in whatever loops
abbrev pub LengthsAreSpelled : Type 0
LengthsAreSpelled =
    (names : List Name) (bases : List ℕ) (ids : Ids) (loops : List ℕ) (variables : Vars)
    (p : List Monomial) (n : ℕ)
    → AreNames names → Admissible names bases → ids.sizes ≡ sizes_at names bases
    → value_at bases p ≡ pos n → n < 2 ^ 32
    → value ids loops variables (length_formula names p) ≡ Some n

-- how high the expression of a length is at most
abbrev pub length_height : ℕ
length_height = 40

-- may stand in a loop's bound, and is at most so high
pub record IsBound (k : Kernel) (high : ℕ) (e : Formula) : Type 0 where
  pub constant : is_constant e ≡ true
  pub declared : (loops : ℕ) → names_declared k loops e ≡ true
  pub low : height e ≤ high

-- a length of at most 32 monomials, each of at most four names, may stand in a bound
abbrev pub LengthsAreBounds : Type 0
LengthsAreBounds =
    (names : List Name) (k : Kernel) (p : List Monomial)
    → k.sizes ≡ length names → length p ≤ 32 → degree p ≤ 4
    → IsBound k length_height (length_formula names p)

-- a length whose coefficients are within the limit is spelled by its expression as it is
abbrev pub LengthsAreOfWords : Type 0
LengthsAreOfWords =
    (names : List Name) (p : List Monomial) → AreNames names → AllSmall (2 ^ 32) p
    → spelled_length names p ≡ length_expression names p
