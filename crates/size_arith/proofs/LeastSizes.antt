-- Sizes may all be at their least: what is shown at least 1 is at least 1 there, and so isn't 0.
use Rattle.std.proofs.Common.{◌≡◌, ℕ, zero, suc, pos, neg_ℤ, ◌+ℤ◌, ◌*ℤ◌, ◌≤ℤ◌, List, [], ◌∷◌, length, refl, ap, subst, arith}
use Rattle.std.specs.Prelude.{replicate}
use Rattle.std.proofs.Math.Nat.{div-add-mod}
use Rattle.std.proofs.lemmas.Int.{ints}
use Rattle.size_arith.specs.declared.names.Name.{Name}
use Rattle.size_arith.specs.declared.poly.Monomial.{Monomial}
use Rattle.size_arith.specs.Polynomial.{no_powers, value_at}
use Rattle.size_arith.specs.Ranges.{AreNames, Admissible, leasts}
use Rattle.size_arith.specs.Shown.{part, ShownAtLeast}
use Rattle.size_arith.proofs.Soundness.{shown_at_least}

pub leasts_are_admissible : (names : List Name) → AreNames names → Admissible names (leasts names)
leasts_are_admissible [] are = tt
leasts_are_admissible (n ∷ names) are =
    let whole = div-add-mod n.from n.multiple in
    let none = are.0.from_divides in
    let ordered = are.0.ordered in
    ((omega (arith, whole, none), omega (arith, whole, none, ordered)), leasts_are_admissible names are.1)

pub at_least_one : (names : List Name) (p : List Monomial) → AreNames names → ShownAtLeast 1 names p → pos 1 ≤ℤ value_at (leasts names) p
at_least_one names p are h = shown_at_least names (leasts names) are (leasts_are_admissible names are) 1 p h

-- ---- whatever the names' ranges
-- no name is raised above its least value
abbrev not_raised : List ℕ → List ℕ
not_raised [] = []
not_raised (l ∷ ls) = 0 ∷ not_raised ls

as_many : (ls : List ℕ) → length (not_raised ls) ≡ length ls
as_many [] = refl
as_many (l ∷ ls) = ap suc (as_many ls)

one_part : (k : ℕ) (ls : List ℕ) → part ls (replicate k 0) (not_raised ls) ≡ 1
one_part k [] = refl
one_part zero (l ∷ ls) = let r = one_part zero ls in omega (arith, r)
one_part (suc k) (l ∷ ls) = let r = one_part k ls in omega (arith, r)

not_shown : (k : ℕ) → k ≡ 1 → pos 0 ≤ℤ ((neg_ℤ (pos 1) *ℤ pos k) +ℤ pos 0) → ⊥
not_shown k e h = let g = subst (λ x. pos 0 ≤ℤ ((neg_ℤ (pos 1) *ℤ pos x) +ℤ pos 0)) e h in omega (arith, ints)

pub none_shown : (names : List Name) → ShownAtLeast 1 names [] → ⊥
none_shown names h =
    let ls = leasts names in
    not_shown (part ls no_powers (not_raised ls)) (one_part 8 ls) (h (not_raised ls) (as_many ls))
