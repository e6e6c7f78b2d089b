-- The pass over a kernel: each index of a load or a store, each offset of four, and each bound of a
-- loop or an `if` becomes what is made of it; all else stays.
use Rattle.std.specs.Prelude.{List, [], ◌∷◌, ◌++◌}
use Rattle.kernel_tree.specs.Formula.{Formula}
use Rattle.kernel_tree.specs.Code.{Statement, Loads, Stores, LoadsFour, StoresFour, Code, End, Performs, Loops, Guards, Kernel}
use Rattle.tidy_indices.specs.Around.{Around, InLoop, InIf}
use Rattle.tidy_indices.specs.Laws.{Change}

-- a statement with its index or its offset of four, where it has one, made into another
abbrev pub with_index : (Formula → Formula) → Statement → Statement
with_index make (Loads v a i) = Loads v a (make i)
with_index make (Stores a i e) = Stores a (make i) e
with_index make (LoadsFour v a i) = LoadsFour v a (make i)
with_index make (StoresFour a i e) = StoresFour a (make i) e
with_index make s = s

-- a bound names no turn, so it is tidied as if nothing stood around it
abbrev pub tidied_code : Change → List Around → Code → Code
tidied_code tidy around End = End
tidied_code tidy around (Performs s after) =
    Performs (with_index (tidy around) s) (tidied_code tidy around after)
tidied_code tidy around (Loops s b c body after) =
    Loops s (tidy [] b) c (tidied_code tidy (around ++ InLoop b ∷ []) body)
    (tidied_code tidy around after)
tidied_code tidy around (Guards s b body after) =
    Guards s (tidy [] b) (tidied_code tidy (around ++ InIf s b ∷ []) body)
    (tidied_code tidy around after)

-- a kernel with its code tidied
abbrev pub tidied_kernel : Change → Kernel → Kernel
tidied_kernel tidy k = record k { code = tidied_code tidy [] k.code }
