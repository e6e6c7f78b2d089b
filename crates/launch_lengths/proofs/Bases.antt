-- The base names' values at an admissible launch.
use Rattle.std.proofs.Common.{◌≡◌, ℕ, ◌*◌, ◌≤◌, List, [], ◌∷◌, refl, ap, ap₂, ◌∙◌, arith}
use Rattle.std.specs.Prelude.{min}
use Rattle.std.proofs.Math.Nat.{min-eq_left, mul-div_cancel_left}
use Rattle.std.proofs.lemmas.Nat.{mul-le}
use Rattle.size_arith.specs.declared.names.Name.{Name}
use Rattle.size_arith.specs.Ranges.{AllUpTo, AreNames, Admissible, sizes_at}
use Rattle.launch_lengths.specs.Bases.{bases_of}

-- sizes are of one list of values
pub bases_back : (names : List Name) (bases : List ℕ) → AreNames names → Admissible names bases → bases_of names (sizes_at names bases) ≡ bases
bases_back [] [] are ok = refl
bases_back [] (y ∷ ys) are ok = absurd ok
bases_back (n ∷ ns) [] are ok = absurd ok
bases_back (n ∷ ns) (y ∷ ys) are ok =
    let least = are.0.positive in
    let most = are.0.limit in
    let high = ok.0.1 in
    let m = mul-le 1 y n.multiple y least (omega arith) in
    let z : 1 * y ≡ y = omega arith in
    let low : y ≤ 1048576 = omega arith in
    ap₂ (λ x xs. x ∷ xs) (ap (λ x. min x 1048576) (mul-div_cancel_left y least) ∙ min-eq_left low) (bases_back ns ys are.1 ok.1)

pub small_bases : (names : List Name) (sizes : List ℕ) → AllUpTo 1048576 (bases_of names sizes)
small_bases [] ss = tt
small_bases (n ∷ ns) [] = tt
small_bases (n ∷ ns) (s ∷ ss) = (omega arith, small_bases ns ss)
