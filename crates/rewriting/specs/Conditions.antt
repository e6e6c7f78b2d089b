-- The conditions' names in messages.
use Rattle.std.specs.Prelude.{ℕ, List, codes}
use Rattle.rewriting.specs.declared.refused.Condition.{Condition}
use Rattle.rewriting.specs.declared.refused.Condition.TheVariants.{Positive, Divides, Length, Lanes, Same, Mentions, Array, Whole, Closed}

-- the word for a condition
abbrev pub condition_name : Condition → List ℕ
condition_name Positive = codes "positive"
condition_name Divides = codes "divides"
condition_name Length = codes "length"
condition_name Lanes = codes "lanes"
condition_name Same = codes "same"
condition_name Mentions = codes "mentions"
condition_name Array = codes "array"
condition_name Whole = codes "whole"
condition_name Closed = codes "closed"
