-- Whose each scalar of a term is.
use Rattle.std.specs.Prelude.{ℕ, ◌+◌, ◌*◌, ◌%◌, Bool, true, false, List, ◌∷◌}
use Rattle.lift_tree.specs.declared.term.Level.TheVariants as level
use Rattle.lift_tree.specs.declared.term.Dimension.{Dimension}
use Rattle.lift_tree.specs.declared.term.Dimension.TheVariants.{X, Y}
use Rattle.kernel_tree.specs.Launch.{Launch, groups_across, groups_down, item_at}
use Rattle.lift_ir.specs.Layouts.{operand_position}
use Rattle.lift_ir.specs.Terms.{Term, Over, Reshape, LetArray, Map}

-- in which column of its group the work-item is whose the scalar at a position is, or in which
-- row: under a local map's index j along that dimension in the one of number j mod L, where a group
-- has L there
abbrev pub local_along : Dimension → {A : Type 0} → (A → ℕ) → Launch → Term A → List ℕ → ℕ
local_along d num l (Reshape y t) q = local_along d num l t (operand_position num y q)
local_along d num l (LetArray v b) q = local_along d num l b q
local_along X num l (Map (Over level.Items X) n loads xs b) (j ∷ q) = j % l.local.0
local_along X num l (Map (Over level.Items Y) n loads xs b) (j ∷ q) = local_along X num l b q
local_along Y num l (Map (Over level.Groups X) n loads xs b) (i ∷ q) = local_along Y num l b q
local_along Y num l (Map (Over level.Items Y) n loads xs b) (j ∷ q) = j % l.local.1
local_along d num l _ q = 0

-- and in which column of the launch, or in which row: under a global map's index i in the one of
-- number i mod G, where the launch has G there; under a work-group map's index i in one of the
-- groups of number i mod the count of groups there; with no parallel map along it in the first
abbrev pub owner_along : Dimension → {A : Type 0} → (A → ℕ) → Launch → Term A → List ℕ → ℕ
owner_along d num l (Reshape y t) q = owner_along d num l t (operand_position num y q)
owner_along d num l (LetArray v b) q = owner_along d num l b q
owner_along X num l (Map (Over level.Launch X) n loads xs b) (i ∷ q) = i % l.global.0
owner_along X num l (Map (Over level.Groups X) n loads xs b) (i ∷ q) =
    (i % groups_across l) * l.local.0 + local_along X num l b q
owner_along X num l (Map (Over level.Launch Y) n loads xs b) (i ∷ q) = owner_along X num l b q
owner_along X num l (Map (Over level.Groups Y) n loads xs b) (i ∷ q) = owner_along X num l b q
owner_along Y num l (Map (Over level.Launch Y) n loads xs b) (i ∷ q) = i % l.global.1
owner_along Y num l (Map (Over level.Groups Y) n loads xs b) (i ∷ q) =
    (i % groups_down l) * l.local.1 + local_along Y num l b q
owner_along d num l _ q = 0

-- the work-item of the scalar at a position
abbrev pub owner : {A : Type 0} → (A → ℕ) → Launch → Term A → List ℕ → ℕ
owner num l t q = item_at l (owner_along X num l t q) (owner_along Y num l t q)

-- whether a map over rows is on top
abbrev pub is_in_rows : {A : Type 0} → Term A → Bool
is_in_rows (Reshape y t) = is_in_rows t
is_in_rows (LetArray v b) = is_in_rows b
is_in_rows (Map (Over level.Launch Y) n loads xs b) = true
is_in_rows (Map (Over level.Groups Y) n loads xs b) = true
is_in_rows _ = false
