-- Tests of types.
use Rattle.std.specs.Prelude.{ℕ, zero, suc, Bool, true, false, ◌||◌, List, [], ◌∷◌}
use Rattle.size_arith.specs.declared.poly.Monomial.{Monomial}
use Rattle.lift_tree.specs.Types.{PlainTy, U32, U32x4, PairOf, ArrayOf}

-- of the powers of a monomial one is above 0
abbrev pub names_a_size : List ℕ → Bool
names_a_size [] = false
names_a_size (zero ∷ powers) = names_a_size powers
names_a_size (suc p ∷ powers) = true

-- a monomial of the length names a size
abbrev pub is_over_sizes : List Monomial → Bool
is_over_sizes [] = false
is_over_sizes (m ∷ ms) = names_a_size m.powers || is_over_sizes ms

-- a length of the type names a size
abbrev pub hangs_on_sizes : PlainTy → Bool
hangs_on_sizes U32 = false
hangs_on_sizes U32x4 = false
hangs_on_sizes (PairOf a b) = hangs_on_sizes a || hangs_on_sizes b
hangs_on_sizes (ArrayOf a n) = is_over_sizes n || hangs_on_sizes a

-- a vector is in a value of the type
abbrev pub holds_vectors : PlainTy → Bool
holds_vectors U32 = false
holds_vectors U32x4 = true
holds_vectors (PairOf a b) = holds_vectors a || holds_vectors b
holds_vectors (ArrayOf a n) = holds_vectors a
