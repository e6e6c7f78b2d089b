-- How deep the types of a term's nodes lie.
use Rattle.std.proofs.Common.{ℕ, ◌+◌, max}
use Rattle.lift_tree.specs.Annotations.{Annotation, Leaf, One, Two, Three}

abbrev pub depth : Annotation → ℕ
depth (Leaf a) = 1
depth (One a n) = depth n + 1
depth (Two a n m) = max (depth n) (depth m) + 1
depth (Three a n m k) = max (max (depth n) (depth m)) (depth k) + 1
