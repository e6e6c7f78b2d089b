-- How deep statements stand.
use Rattle.std.specs.Prelude.{◌≡◌, ℕ, true}
use Rattle.kernel_tree.specs.Code.{Code, Kernel}
use Rattle.kernel_tree.specs.Grammar.{are_statements}

-- statements of some kernel within so many loops, at this depth in loops and ifs
abbrev pub StandWithin : (loops nest : ℕ) → Code → Type 0
StandWithin loops nest c = (k : Kernel) × (are_statements k loops nest c ≡ true)
