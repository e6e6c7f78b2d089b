-- Work-items that take as many turns of each map of a term.
use Rattle.std.specs.Prelude.{◌≡◌, ℕ, List}
use Rattle.kernel_tree.specs.Formula.{Ids, IdsAlong, ids_along}
use Rattle.lift_ir.specs.AtLaunch.{length_at}
use Rattle.lift_ir.specs.Lowering.{Lowered}
use Rattle.lift_ir.specs.Terms.{Term, Both, Project, Reshape, LetArray, LetElement, Map, Fold, Copy}
use Rattle.term_traffic.specs.Traffic.{traffic_of, turns_of}

-- what an item knows that is in this column of a row
abbrev pub ids_at : (global local column : ℕ) → (row : IdsAlong) → (sizes : List ℕ) → Ids
ids_at global local column row sizes =
    record { x = ids_along global local column; y = row; sizes = sizes }

-- as many of each, at a launch where lengths are these numbers
abbrev pub TakeAlike : {A : Type 0} → (A → ℕ) → (one other : Ids) → Term A → Type 0
TakeAlike num i j (Both zips a b) = TakeAlike num i j a × TakeAlike num i j b
TakeAlike num i j (Project s a) = TakeAlike num i j a
TakeAlike num i j (Reshape y a) = TakeAlike num i j a
TakeAlike num i j (LetArray v b) = TakeAlike num i j v × TakeAlike num i j b
TakeAlike num i j (LetElement ty v b) = TakeAlike num i j b
TakeAlike num i j (Map kind n loads xs b) =
    (turns_of i kind (num n) ≡ turns_of j kind (num n)) × TakeAlike num i j xs × TakeAlike num i j b
TakeAlike num i j (Fold n loads ty xs s b) = TakeAlike num i j xs
TakeAlike num i j (Copy space ty a) = TakeAlike num i j a
TakeAlike num i j _ = Unit {0}

-- such items have the same traffic
abbrev pub AlikeItemsHaveOneTraffic : Type 0
AlikeItemsHaveOneTraffic =
    (bases : List ℕ) (t : Lowered) (one other : Ids) → TakeAlike (length_at bases) one other t
    → traffic_of (length_at bases) one t ≡ traffic_of (length_at bases) other t
