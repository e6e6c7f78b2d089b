-- Which launches are admissible, over numbers and lists.
use Rattle.std.specs.Prelude.{ℕ, ◌≡◌, ◌≤◌, ◌*◌, ◌%◌, Bool, true, List, [], ◌∷◌, ◌++◌, map, Option, Some, None}
use Rattle.size_arith.specs.declared.names.Name.{Name}
use Rattle.size_arith.specs.Ranges.{Admissible}
use Rattle.lift_tree.specs.Types.{PlainTy}
use Rattle.lift_tree.specs.Limits.{components}
use Rattle.lift_tree.specs.Values.{Value, list_of}

-- what a term and its script ask of each launch: one work-item alone, one row of them,
-- and the local size that is fixed
pub record Asks : Type 0 where
  pub alone : Bool
  pub flat : Bool
  pub local : Option (ℕ × ℕ)

-- a local size is the one that is fixed, where one is
abbrev pub IsFixedSize : Option (ℕ × ℕ) → (local : ℕ × ℕ) → Type 0
IsFixedSize None local = Unit {0}
IsFixedSize (Some size) local = local ≡ size

-- the sizes lie in their ranges, along each dimension the local size divides the global size, there
-- are few enough work-items in a group and in all, and what is asked is met
pub record IsAdmissibleLaunch (names : List Name) (asks : Asks) (bases : List ℕ)
    (global local : ℕ × ℕ) : Type 0 where
  pub sizes : Admissible names bases
  pub local_least : (1 ≤ local.0) × (1 ≤ local.1)
  pub local_most : local.0 * local.1 ≤ 256
  pub global_least : (1 ≤ global.0) × (1 ≤ global.1)
  pub global_most : global.0 * global.1 ≤ 65536
  pub divides : (global.0 % local.0 ≡ 0) × (global.1 % local.1 ≡ 0)
  pub fixed : IsFixedSize asks.local local
  pub alone : asks.alone ≡ true → global.0 * global.1 ≡ 1
  pub flat : asks.flat ≡ true → global.1 ≡ 1

-- the lists of a value of this type, one for each component
abbrev pub lists_of : PlainTy → Value → List (List ℕ)
lists_of a v = map (list_of v) (components a)

-- what the inputs' buffers hold: the inputs' lists in order
abbrev pub buffers_of : List PlainTy → List Value → List (List ℕ)
buffers_of [] vs = []
buffers_of (a ∷ tys) [] = []
buffers_of (a ∷ tys) (v ∷ vs) = lists_of a v ++ buffers_of tys vs
