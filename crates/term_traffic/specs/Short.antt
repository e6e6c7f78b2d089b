-- Terms whose maps and folds are over less than 2^31.
use Rattle.std.specs.Prelude.{◌<◌, ◌^◌, ℕ}
use Rattle.lift_ir.specs.Terms.{Term, Both, Project, Reshape, LetArray, LetElement, Map, Fold, Copy}

-- at a launch where lengths are these numbers
abbrev pub HasShortLoops : {A : Type 0} → (A → ℕ) → Term A → Type 0
HasShortLoops num (Both zips a b) = HasShortLoops num a × HasShortLoops num b
HasShortLoops num (Project s a) = HasShortLoops num a
HasShortLoops num (Reshape y a) = HasShortLoops num a
HasShortLoops num (LetArray v b) = HasShortLoops num v × HasShortLoops num b
HasShortLoops num (LetElement ty v b) = HasShortLoops num b
HasShortLoops num (Map kind n loads xs b) =
    (num n < 2 ^ 31) × HasShortLoops num xs × HasShortLoops num b
HasShortLoops num (Fold n loads ty xs s b) = (num n < 2 ^ 31) × HasShortLoops num xs
HasShortLoops num (Copy space ty a) = HasShortLoops num a
HasShortLoops num _ = Unit {0}
