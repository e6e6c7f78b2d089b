-- Four times a sum of positive monomials is small.
use Rattle.std.proofs.Common.{◌*◌, ◌<◌, ◌≤◌, ◌^◌, List, length, refl, arith}
use Rattle.size_arith.specs.declared.names.Name.{Name}
use Rattle.size_arith.specs.declared.poly.Monomial.{Monomial}
use Rattle.size_arith.specs.Polynomial.{IsPoly}
use Rattle.size_arith.specs.Ranges.{AreNames, greatests}
use Rattle.size_arith.specs.Shown.{largest}
use Rattle.size_arith.proofs.Caps.{positives_cap}
use Rattle.size_arith.proofs.Limits.{small_of, low_of}
use Rattle.size_arith.proofs.Ranges.{small-greatests}

pub four_fit : (names : List Name) (p : List Monomial) → AreNames names → IsPoly p → 4 * largest names p < 2 ^ 128
four_fit names p a h =
    let most : largest names p ≤ length p * 2 ^ 112 =
    positives_cap (greatests names) p (small-greatests names a) (small_of (2 ^ 32) p p (omega arith) refl h) (low_of p p refl h) in
    let few = h.terms in
    omega (arith, most, few)
