-- Products of factors in 32 bits, and steps that are words.
use Rattle.std.proofs.Common.{◌≡◌, ◌∙◌, ℕ, zero, suc, ◌-◌, ◌*◌, ◌%◌, ◌<◌, List, [], ◌∷◌, length, drop, take, get_or, refl, sym, ap, subst, arith}
use Rattle.std.proofs.Math.Nat.{mod-eq_of_lt}
use Rattle.std.proofs.lemmas.List.{take_rest}
use Rattle.std.proofs.lemmas.Nat.{mul-mod_second}
use Rattle.lift_tree.specs.declared.length.Factor.{Factor}
use Rattle.lift_tree.specs.declared.length.Factor.TheVariants.{Number}
use Rattle.lift_tree.specs.Meaning.{factor_at, nth_size, product_at}
use Rattle.lift_tree.specs.Types.{PlainTy, U32, U32x4, PairOf, ArrayOf}
use Rattle.lift_ir.specs.AtLaunch.{length_at, ty_at}
use Rattle.lift_ir.specs.Types.{size}
use Rattle.output_owner.specs.Numbers.{IsOfComponent, IsStepOf, strided}
use Rattle.output_owner.proofs.Rows.{step_word}

pub get_or-nth_size : (xs : List ℕ) (n : ℕ) → get_or xs n 0 ≡ nth_size xs n
get_or-nth_size [] n = refl
get_or-nth_size (x ∷ xs) zero = refl
get_or-nth_size (x ∷ xs) (suc n) = get_or-nth_size xs n

pub ruleset sizes_by_number = (get_or-nth_size)

-- the first factor times what the others come to
pub times_first : (sizes : List ℕ) (fs : List Factor) (v r : ℕ) → 0 < length fs → v ≡ factor_at sizes (get_or fs 0 (Number 0)) → r ≡ product_at sizes (take (length fs - 1) (drop 1 fs)) % 4294967296
    → v * r % 4294967296 ≡ product_at sizes fs % 4294967296
times_first sizes [] v r some e h = absurd (omega arith)
times_first sizes (f ∷ fs) v r some e h =
    let rest : product_at sizes (take (length (f ∷ fs) - 1) (drop 1 (f ∷ fs))) ≡ product_at sizes fs = ap (λ xs. product_at sizes xs) (take_rest (f ∷ fs) 1) in
    ap (λ z. z * r % 4294967296) e ∙ ap (λ z. factor_at sizes f * z % 4294967296) (h ∙ ap (λ z. z % 4294967296) rest) ∙ mul-mod_second (factor_at sizes f) (product_at sizes fs) 4294967296

-- a step in 32 bits is the step
pub record IsSame (bases : List ℕ) (step other : ℕ) (b : PlainTy) (k : ℕ) : Type 0 where
  pub is_step : IsStepOf bases other b
  pub number : strided bases other b k ≡ strided bases step b k

pub in_32_bits : (bases : List ℕ) (step : ℕ) (b : PlainTy) (k : ℕ) → IsOfComponent bases b k → IsStepOf bases step b → IsSame bases step (step % 4294967296) b k
in_32_bits bases step U32 k h is = record { is_step = tt; number = refl }
in_32_bits bases step U32x4 k h is = record { is_step = tt; number = refl }
in_32_bits bases step (PairOf a b) k h is = record { is_step = tt; number = refl }
in_32_bits bases step (ArrayOf x n) k h is =
    let low = h.below in
    let word : step < 4294967296 = step_word (length_at bases n) step (size (ty_at bases x)) is.1 (omega arith) h.few in
    let e : step % 4294967296 ≡ step = mod-eq_of_lt word in
    record { is_step = subst (λ z. IsStepOf bases z (ArrayOf x n)) (sym e) is; number = ap (λ z. strided bases z (ArrayOf x n) k) e }
