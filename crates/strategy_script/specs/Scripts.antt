-- A script as contracts see it.
use Rattle.std.specs.Prelude.{ℕ, List, Option}
use Rattle.strategy_script.specs.declared.script.Step.{Step}

-- the local size that it fixes, where it fixes one, and its steps in order
pub record PlainScript : Type 0 where
  pub local : Option (ℕ × ℕ)
  pub steps : List Step
