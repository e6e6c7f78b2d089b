-- No number of a list is above their sum.
use Rattle.std.proofs.Common.{ℕ, ◌<◌, ◌≤◌, List, length, get_or}
use Rattle.std.specs.List.{sum}
use Rattle.std.proofs.lemmas.List.Sums.{get_or-le-sum_by}

pub each_small : (xs : List ℕ) (i d : ℕ) → i < length xs → get_or xs i d ≤ sum xs
each_small xs i d h = get_or-le-sum_by (λ y. y) xs i d h
