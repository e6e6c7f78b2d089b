-- The lengths of a copy's arrays.
use Rattle.std.proofs.Common.{◌≡◌, ◌∙◌, ℕ, ◌+◌, ◌*◌, ◌<◌, ◌≤◌, ◌^◌, ℤ, pos, negsuc, true, List, [], ◌∷◌, length, nat_lt, refl, ap, arith}
use Rattle.std.specs.Prelude.{nat_abs, replicate, ◌&&◌}
use Rattle.std.specs.List.{sum}
use Rattle.std.proofs.lemmas.Bool.{ltb-true, and_parts}
use Rattle.std.proofs.lemmas.List.Sums.{sum_by-cons}
use Rattle.size_arith.specs.Polynomial.{value_at}
use Rattle.lift_tree.specs.declared.term.UnaryForm.TheVariants as unary
use Rattle.lift_tree.specs.Types as types
use Rattle.lift_tree.specs.Types.{PlainTy}
use Rattle.kernel_tree.specs.Grammar.{are_lengths}
use Rattle.lift_ir.specs.Types as ir
use Rattle.lift_ir.specs.Types.{size}
use Rattle.lift_ir.specs.Terms.{LocalMemory, PrivateMemory}
use Rattle.lift_ir.specs.AtLaunch.{natural, ty_at}
use Rattle.value_lists.specs.Lists.{scalars, width}
use Rattle.buffer_allocation.specs.Copies.{held, buffers_for, kept}
use Rattle.buffer_allocation.specs.declared.copies.Memory.{Memory}
use Rattle.buffer_allocation.specs.declared.copies.Memory.TheVariants.{Local, Private}
use Rattle.printed_form.specs.Counts.{copied}
use Rattle.printed_form.specs.Sound.{AllLengths}
use Rattle.kernel_premises.specs.Arrays.{space_of}

same_length : (z : ℤ) → natural z < 2 ^ 32 → nat_abs z ≡ natural z
same_length (pos m) h = refl
same_length (negsuc m) h = absurd (omega arith)

same_scalars : (a : PlainTy) → AllLengths (λ n. n < 2 ^ 32) (ty_at [] a) → scalars [] a ≡ size (ty_at [] a)
same_scalars types.U32 h = refl
same_scalars types.U32x4 h = refl
same_scalars (types.PairOf a b) h = refl
same_scalars (types.ArrayOf a n) h = ap (λ z. z * scalars [] a) (same_length (value_at [] n) h.0) ∙ ap (λ z. natural (value_at [] n) * z) (same_scalars a h.1)

same_width : (a : PlainTy) → width a ≡ ir.width (ty_at [] a)
same_width types.U32 = refl
same_width types.U32x4 = refl
same_width (types.PairOf a b) = ap (λ z. z + width b) (same_width a) ∙ ap (λ z. ir.width (ty_at [] a) + z) (same_width b)
same_width (types.ArrayOf a n) = same_width a

held_is : (n : ℕ) → n < 2 ^ 32 → held n ≡ n
held_is n h = omega arith

-- a copy's
module _ (a : PlainTy) (words : AllLengths (λ n. n < 2 ^ 32) (ty_at [] a)) (small : size (ty_at [] a) < 2 ^ 32) where
  same_buffers : buffers_for a ≡ replicate (ir.width (ty_at [] a)) (size (ty_at [] a))
  same_buffers = ap (λ z. replicate z (held (scalars [] a))) (same_width a) ∙ ap (λ z. replicate (ir.width (ty_at [] a)) (held z)) (same_scalars a words) ∙ ap (replicate (ir.width (ty_at [] a))) (held_is (size (ty_at [] a)) small)

  pub local_kept : (m : Memory) → kept m unary.ToLocal a ≡ copied (space_of m) LocalMemory (ty_at [] a)
  local_kept Local = same_buffers
  local_kept Private = refl

  pub private_kept : (m : Memory) → kept m unary.ToPrivate a ≡ copied (space_of m) PrivateMemory (ty_at [] a)
  private_kept Local = refl
  private_kept Private = same_buffers

-- no array is empty
pub no_more : (xs : List ℕ) → are_lengths xs ≡ true → length xs ≤ sum xs
no_more [] h = omega arith
no_more (x ∷ xs) h =
    let p = and_parts (nat_lt 0 x) (nat_lt x (2 ^ 32) && are_lengths xs) h in
    let some = ltb-true 0 x p.0 in
    let rest = no_more xs (and_parts (nat_lt x (2 ^ 32)) (are_lengths xs) p.1).1 in
    let e : sum (x ∷ xs) ≡ x + sum xs = sum_by-cons (λ y. y) x xs in
    omega (arith, e, some, rest)
