-- The rules' conditions on lengths, as tests.
use Rattle.std.specs.Prelude.{ℕ, Bool, true, ◌&&◌, List, [], ◌∷◌, pos, int_rem}
use Rattle.size_arith.specs.declared.poly.Monomial.{Monomial}
use Rattle.size_arith.specs.Polynomial.{is_zero}

-- the number divides the length exactly: it divides each coefficient
abbrev pub divides : ℕ → List Monomial → Bool
divides k [] = true
divides k (m ∷ n) = is_zero (int_rem m.coefficient (pos k)) && divides k n
