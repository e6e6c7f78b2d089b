use Rattle.std.proofs.Common.{ℕ, List, [], ◌∷◌, ◌*◌, ◌^◌, ◌≤◌, arith}
use Rattle.std.specs.Prelude.{slice_index_or}
use Rattle.std.proofs.lemmas.Grind.{common_steps}
use Rattle.size_arith.specs.Polynomial.{total}
use Rattle.size_arith.proofs.Caps.{pow_fits, pow_product_fits}
use Rattle.launch_lengths.proofs.Bases.{small_bases}
use Rattle.launch_lengths.proofs.lengths.+product_at.Goals as goal

first_low : (ms : List ℕ) → total ms ≤ 4 → slice_index_or ms 0 0 ≤ 4
first_low [] h = omega arith
first_low (m ∷ ms) h = omega arith

pub pow-requires : goal.pow-requires
pow-requires t c =
    let base = c.min-base.ensures in
    let f = pow_fits c.min-base.result (slice_index_or c.args.powers.now 0 0) (omega (arith, base)) (first_low c.args.powers.now c.requires.low) in
    omega (arith, f)

pub overflow_mul-result : goal.overflow_mul-result
overflow_mul-result t c =
    let base = c.min-base.ensures in
    let f : c.pow.result * c.product_at.result ≤ 2 ^ 80 =
    rw (c.pow.ensures, c.product_at.ensures.value) (pow_product_fits c.min-base.result (slice_index_or c.args.powers.now 0 0) _ _ (omega (arith, base)) (small_bases _ _) (grind (arith, common_steps))) in
    record { fits = omega arith }

pub returns-in-len1-up-powers-clause-cap : goal.returns-in-len1-up-powers-clause-cap
returns-in-len1-up-powers-clause-cap t c =
    let base = c.min-base.ensures in
    rw (c.pow.ensures, c.product_at.ensures.value) (pow_product_fits c.min-base.result (slice_index_or c.args.powers.now 0 0) _ _ (omega (arith, base)) (small_bases _ _) (grind (arith, common_steps)))
