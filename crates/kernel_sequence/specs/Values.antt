-- The values of scratch arrays.
use Rattle.std.specs.Prelude.{ℕ, suc, ◌≡◌, List, [], ◌∷◌, ◌++◌, take}
use Rattle.lift_tree.specs.Values.{Value, nth}
use Rattle.lift_tree.specs.Meaning.{World, meaning}
use Rattle.kernel_sequence.specs.Cut.{Part}

-- a world with more inputs behind its own
abbrev pub with_more : World → List Value → World
with_more w us = record w { inputs = w.inputs ++ us }

-- from the k-th on each scratch array holds the value of its kernel's term, in this world
abbrev pub Hold : World → (scratch : List Value) → (k : ℕ) → List Part → Type 0
Hold w us k [] = Unit {0}
Hold w us k (p ∷ ps) = (nth us k ≡ meaning w [] p.tree) × Hold w us (suc k) ps

-- the same where each kernel has the scratch arrays before its own alone, as it is run
abbrev pub HoldInTurn : World → (scratch : List Value) → (k : ℕ) → List Part → Type 0
HoldInTurn w us k [] = Unit {0}
HoldInTurn w us k (p ∷ ps) =
    (nth us k ≡ meaning (with_more w (take k us)) [] p.tree) × HoldInTurn w us (suc k) ps
