-- What spells a turn: a leaf, and of each turn another.
use Rattle.std.proofs.Common.{◌≡◌, ◌∙◌, ℕ, zero, suc, false, Some, List, refl, sym, ap}
use Rattle.std.specs.Prelude.{slice_index}
use Rattle.scalar_ops.specs.declared.op.Op.{Op}
use Rattle.kernel_tree.specs.declared.tree.Dimension.TheVariants.{X, Y}
use Rattle.kernel_tree.specs.Formula.{Formula, Number, LoopVariable, Size, Id, GroupId, LocalId, Binary, Ids, Vars, value}
use Rattle.kernel_tree.specs.Grammar.{height, is_constant}
use Rattle.length_spelling.specs.Turns.{loop_turn, turn_formula, turns_of}
use Rattle.tidy_indices.specs.Formulas.{formula_nodes}
use Rattle.tidy_indices.specs.Redundant.{IsIrredundant}

pub turn_value : (ids : Ids) (loops : List ℕ) (variables : Vars) (k : ℕ) → value ids loops variables (turn_formula k) ≡ Some (slice_index (turns_of ids loops) k)
turn_value ids loops variables zero = refl
turn_value ids loops variables (suc zero) = refl
turn_value ids loops variables (suc (suc zero)) = refl
turn_value ids loops variables (suc (suc (suc zero))) = refl
turn_value ids loops variables (suc (suc (suc (suc k)))) = refl

pub turn_nodes : (k : ℕ) → formula_nodes (turn_formula k) ≡ 1
turn_nodes zero = refl
turn_nodes (suc zero) = refl
turn_nodes (suc (suc zero)) = refl
turn_nodes (suc (suc (suc zero))) = refl
turn_nodes (suc (suc (suc (suc k)))) = refl

pub turn_height : (k : ℕ) → height (turn_formula k) ≡ 1
turn_height zero = refl
turn_height (suc zero) = refl
turn_height (suc (suc zero)) = refl
turn_height (suc (suc (suc zero))) = refl
turn_height (suc (suc (suc (suc k)))) = refl

pub turn_varies : (k : ℕ) → is_constant (turn_formula k) ≡ false
turn_varies zero = refl
turn_varies (suc zero) = refl
turn_varies (suc (suc zero)) = refl
turn_varies (suc (suc (suc zero))) = refl
turn_varies (suc (suc (suc (suc k)))) = refl

pub turn_irredundant : (k : ℕ) → IsIrredundant (turn_formula k)
turn_irredundant zero = tt
turn_irredundant (suc zero) = tt
turn_irredundant (suc (suc zero)) = tt
turn_irredundant (suc (suc (suc zero))) = tt
turn_irredundant (suc (suc (suc (suc k)))) = tt

pub no_number : (k n : ℕ) → turn_formula k ≡ Number n → ⊥
no_number zero n h = absurd (cc h)
no_number (suc zero) n h = absurd (cc h)
no_number (suc (suc zero)) n h = absurd (cc h)
no_number (suc (suc (suc zero))) n h = absurd (cc h)
no_number (suc (suc (suc (suc k)))) n h = absurd (cc h)

pub no_size : (k s : ℕ) → turn_formula k ≡ Size s → ⊥
no_size zero s h = absurd (cc h)
no_size (suc zero) s h = absurd (cc h)
no_size (suc (suc zero)) s h = absurd (cc h)
no_size (suc (suc (suc zero))) s h = absurd (cc h)
no_size (suc (suc (suc (suc k)))) s h = absurd (cc h)

pub no_operation : (k : ℕ) (o : Op) (a b : Formula) → turn_formula k ≡ Binary o a b → ⊥
no_operation zero o a b h = absurd (cc h)
no_operation (suc zero) o a b h = absurd (cc h)
no_operation (suc (suc zero)) o a b h = absurd (cc h)
no_operation (suc (suc (suc zero))) o a b h = absurd (cc h)
no_operation (suc (suc (suc (suc k)))) o a b h = absurd (cc h)

-- the turn that a formula spells
abbrev turn_of : Formula → ℕ
turn_of (Id X GroupId) = 0
turn_of (Id X LocalId) = 1
turn_of (Id Y GroupId) = 2
turn_of (Id Y LocalId) = 3
turn_of (LoopVariable k) = loop_turn k
turn_of _ = 0

turn_number : (k : ℕ) → turn_of (turn_formula k) ≡ k
turn_number zero = refl
turn_number (suc zero) = refl
turn_number (suc (suc zero)) = refl
turn_number (suc (suc (suc zero))) = refl
turn_number (suc (suc (suc (suc k)))) = refl

pub turn_back : (k i : ℕ) → turn_formula k ≡ turn_formula i → k ≡ i
turn_back k i h = sym (turn_number k) ∙ ap turn_of h ∙ turn_number i
