-- What a rule says of a term, and a call that says the same.
use Rattle.std.specs.Prelude.{◌≡◌, Result, Ok, Err}
use Rattle.lift_tree.specs.declared.term.Term.{Term}
use Rattle.lift_tree.specs.Tree.{Tree, tree_of}
use Rattle.rewriting.specs.declared.refused.Condition.{Condition}
use Rattle.rewriting.specs.declared.refused.Refused.{Refused}
use Rattle.rewriting.specs.declared.refused.Refused.TheVariants as refused

-- what the term becomes; or the term isn't of the rule's shape; or it is, and this is
-- the first condition that is false
pub data Answer : Type 0 where
  Becomes : Tree → Answer
  NoShape : Answer
  NoSide : Condition → Answer

-- the refusal is the rule's, and hands the very term back; want of memory is free
abbrev pub IsRefusal : Answer → Term → Refused → Type 0
IsRefusal a t (refused.Shape u) = (a ≡ NoShape) × (u ≡ t)
IsRefusal a t (refused.Side c u) = (a ≡ NoSide c) × (u ≡ t)
IsRefusal a t refused.Memory = Unit {0}

-- the call's answer is the rule's
abbrev pub IsAnswer : Answer → Term → Result Term Refused → Type 0
IsAnswer a t (Ok u) = a ≡ Becomes (tree_of u)
IsAnswer a t (Err r) = IsRefusal a t r
