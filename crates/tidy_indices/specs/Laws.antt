-- What a tidy expression has in common with the one that it is made of, and what more.
use Rattle.std.specs.Prelude.{ℕ, ◌≡◌, ◌≤◌, ◌<◌, List, [], ◌∷◌, Option, Some}
use Rattle.size_arith.specs.declared.names.Name.{Name}
use Rattle.size_arith.specs.Ranges.{AreNames, Admissible, sizes_at}
use Rattle.index_expr.specs.Expression.{Expression, short_nodes}
use Rattle.kernel_tree.specs.Formula.{Formula, Vars, value, bound_value}
use Rattle.kernel_tree.specs.Launch.{Launch, IsWhole, HasLocal, item_count, ids_of}
use Rattle.index_simplify.specs.Simplified.{AreDeclared}
use Rattle.tidy_indices.specs.Formulas.{formula_nodes}
use Rattle.tidy_indices.specs.Redundant.{IsIrredundant}
use Rattle.tidy_indices.specs.Spelling.{IsNoLarger}
use Rattle.tidy_indices.specs.Reading.{reading, IsIndexFormula}
use Rattle.tidy_indices.specs.Around.{Around, InLoop, InIf, StandsIn}
use Rattle.tidy_indices.specs.Places.{ranges_outside}
use Rattle.tidy_indices.specs.Tidy.{tidy_formula}

-- a change of expressions in these loops and ifs, the outermost first
abbrev pub Change : Type 0
Change = List Around → Formula → Formula

-- at this launch it leaves each value: that of an index, for each item of the launch that is in the
-- loops and ifs around, at its turns, and that of a bound
pub record KeepsValues (change : Change) (l : Launch) : Type 0 where
  pub index :
      (item : ℕ) (around : List Around) (turns : List ℕ) (variables : Vars) (f : Formula) (n : ℕ)
      → item < item_count l → StandsIn (ids_of l item) around turns
      → value (ids_of l item) turns variables f ≡ Some n
      → value (ids_of l item) turns variables (change around f) ≡ Some n
  pub bound :
      (b : Formula) (n : ℕ)
      → bound_value l.sizes b ≡ Some n → bound_value l.sizes (change [] b) ≡ Some n

-- it leaves expressions no larger, and of the kernel grammar
abbrev pub KeepsSmall : Change → Type 0
KeepsSmall change = (around : List Around) (f : Formula) → IsNoLarger f (change around f)

-- each bound of a loop spells an index expression
abbrev pub HaveIndexBounds : List Around → Type 0
HaveIndexBounds [] = Unit {0}
HaveIndexBounds (InLoop b ∷ around) = IsIndexFormula b × HaveIndexBounds around
HaveIndexBounds (InIf s b ∷ around) = HaveIndexBounds around

-- a launch of a kernel that asks for groups of this size, where it asks for one: groups are whole,
-- and there are items, at most 65,536
pub record IsLaunchFor (local : Option (ℕ × ℕ)) (l : Launch) : Type 0 where
  pub whole : IsWhole l
  pub size : HasLocal local l
  pub some : 0 < item_count l
  pub few : item_count l ≤ 65536

-- at admissible sizes values stay, whether or not anything wraps
abbrev pub TidyFormulasKeepValues : Type 0
TidyFormulasKeepValues =
    (names : List Name) (bases : List ℕ) (local : Option (ℕ × ℕ)) (l : Launch)
    → AreNames names → Admissible names bases → l.sizes ≡ sizes_at names bases
    → IsLaunchFor local l → KeepsValues (tidy_formula names local) l

-- at any sizes, they are no larger, and of the kernel grammar
abbrev pub TidyFormulasAreNoLarger : Type 0
TidyFormulasAreNoLarger =
    (names : List Name) (local : Option (ℕ × ℕ)) → KeepsSmall (tidy_formula names local)

-- no part of an index is redundant, in loops whose bounds spell index expressions
abbrev pub TidyFormulasAreIrredundant : Type 0
TidyFormulasAreIrredundant =
    (names : List Name) (local : Option (ℕ × ℕ)) (around : List Around) (f : Formula)
    → HaveIndexBounds around → IsIndexFormula f
    → IsIrredundant (tidy_formula names local around f)

-- where sizes are divided by what they are declared multiples of, it has no more nodes than are
-- counted in short
abbrev pub TidyFormulasAreShort : Type 0
TidyFormulasAreShort =
    (names : List Name) (local : Option (ℕ × ℕ)) (around : List Around) (f : Formula)
    (e : Expression)
    → HaveIndexBounds around → reading f ≡ Some e → AreDeclared (ranges_outside names) e
    → formula_nodes (tidy_formula names local around f) ≤ short_nodes e
