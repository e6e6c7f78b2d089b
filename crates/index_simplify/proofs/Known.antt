-- What is known of a loop's length, in memory or not.
use Rattle.std.proofs.Common.{◌≡◌, ℕ, List}
use Rattle.std.specs.Prelude.{map, slice_get}
use Rattle.std.specs.Option.{option_map}
use Rattle.std.proofs.lemmas.Option.{slice_get-map}
use Rattle.index_expr.specs.declared.index.Index.{Index}
use Rattle.index_expr.specs.Expression.{expression_of}

-- the expression of what stands there
pub known_length : (xs : List Index) (k : ℕ) → slice_get (map expression_of xs) k ≡ option_map expression_of (slice_get xs k)
known_length xs k = slice_get-map expression_of xs k
