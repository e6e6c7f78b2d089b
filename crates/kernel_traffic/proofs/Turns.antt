-- The turns below a bound, one by one.
use Rattle.std.proofs.Common.{◌≡◌, ℕ, suc, ◌+◌, ◌-◌, ◌/◌, ◌%◌, ◌<◌, ◌≤◌, ap, ◌∙◌, arith, ⊎_elim}
use Rattle.std.specs.Prelude.{min}
use Rattle.std.proofs.Math.Nat.{add-div_right, add-mod_right, div-eq_of_lt, mod-eq_of_lt, zero-div, zero-mod}
use Rattle.std.proofs.lemmas.Bool.{cases_lt}
use Rattle.kernel_traffic.specs.Traffic.{turns_below}

-- past the bound there is none
pub no_turn : (from bound stride : ℕ) → bound ≤ from → turns_below from bound stride ≡ 0
no_turn from bound stride h =
    let none : bound - from ≡ 0 = omega arith in
    ap (λ n. n / stride + min 1 (n % stride)) none ∙ (let q = zero-div stride in let r = zero-mod stride in omega arith)

-- and below it one more than from the next on
pub next_turn : (from bound stride : ℕ) → 0 < stride → from < bound → turns_below from bound stride ≡ suc (turns_below (from + stride) bound stride)
next_turn from bound stride some h = ⊎_elim near far (cases_lt (bound - from) stride)
  where
    near : (bound - from) < stride → turns_below from bound stride ≡ suc (turns_below (from + stride) bound stride)
    near lt =
        let q = div-eq_of_lt {n = bound - from} {m = stride} lt in
        let r = mod-eq_of_lt {n = bound - from} {m = stride} lt in
        let past : turns_below (from + stride) bound stride ≡ 0 = no_turn (from + stride) bound stride (omega arith) in
        omega arith

    far : stride ≤ (bound - from) → turns_below from bound stride ≡ suc (turns_below (from + stride) bound stride)
    far le =
        let m = bound - (from + stride) in
        let e : bound - from ≡ m + stride = omega arith in
        let q = add-div_right m {k = stride} some in
        let r = add-mod_right m stride in
        ap (λ n. n / stride + min 1 (n % stride)) e ∙ (omega arith)
