-- The laws of the operators that may be regrouped. They stand among the definitions since each
-- operator's type carries its own (src/regroup).
use Rattle.std.proofs.Common.{ℕ, ◌≡◌, ◌*◌, ◌%◌, ◌^◌, ◌<◌, ◌∙◌, sym, ap, arith}
use Rattle.std.specs.Prelude.{bit_or}
use Rattle.std.proofs.lemmas.Nat.{mul-mod_first, mul-mod_second, and_assoc, and_comm, and_mask, or_comm, or_lt, xor_comm, xor_lt}
use Rattle.std.proofs.lemmas.Nat.Bits.{bit_at_or, same_from_bits}
use Rattle.std.specs.Int.Bits.{and_lt, xor_assoc, or_zero_l, xor_zero_l}
use Rattle.scalar_ops.specs.declared.op.Reducer.{Reducer}
use Rattle.scalar_ops.specs.declared.op.Reducer.TheVariants as reducer
use Rattle.scalar_ops.specs.Operators.{combine, neutral}
use Rattle.scalar_ops.specs.Regroup.{IsRegroup}

-- the seven operators may be regrouped on numbers below 2^32
pub regroups : (r : Reducer) → IsRegroup (combine r) (neutral r)
regroups reducer.Add = record {
  closed = λ a b p q. omega arith;
  associative = λ a b c p q r. omega arith;
  commutative = λ a b p q. omega arith;
  fits = omega arith;
  neutral = λ a p. omega arith;
}
regroups reducer.Mul = record {
  closed = λ a b p q. omega arith;
  associative =
      λ a b c p q r. mul-mod_first (a * b) c (2 ^ 32) ∙ ap (λ n. n % 2 ^ 32) (product a b c)
      ∙ sym (mul-mod_second a (b * c) (2 ^ 32));
  commutative = λ a b p q. omega arith;
  fits = omega arith;
  neutral = λ a p. omega arith;
}
  where
    product : (a b c : ℕ) → a * b * c ≡ a * (b * c)
    product a b c = omega arith
regroups reducer.Min = record {
  closed = λ a b p q. omega arith;
  associative = λ a b c p q r. omega arith;
  commutative = λ a b p q. omega arith;
  fits = omega arith;
  neutral = λ a p. omega arith;
}
regroups reducer.Max = record {
  closed = λ a b p q. omega arith;
  associative = λ a b c p q r. omega arith;
  commutative = λ a b p q. omega arith;
  fits = omega arith;
  neutral = λ a p. omega arith;
}
regroups reducer.And = record {
  closed = λ a b p q. and_lt 32 a b p q;
  associative = λ a b c p q r. and_assoc c a b;
  commutative = λ a b p q. and_comm a b;
  fits = omega arith;
  neutral = λ a p. and_comm 4294967295 a ∙ and_mask a 32 ∙ omega arith;
}
regroups reducer.Or = record {
  closed = λ a b p q. or_lt 32 a b p q;
  associative = λ a b c p q r. or_assoc a b c;
  commutative = λ a b p q. or_comm a b;
  fits = omega arith;
  neutral = λ a p. or_zero_l a;
}
  where
    or_assoc : (a b c : ℕ) → bit_or (bit_or a b) c ≡ bit_or a (bit_or b c)
    or_assoc a b c =
        same_from_bits _ _
        (λ i. omega (
          arith,
          bit_at_or (bit_or a b) c i,
          bit_at_or a b i,
          bit_at_or a
              (bit_or b c) i,
          bit_at_or b c i,
        ))
regroups reducer.Xor = record {
  closed = λ a b p q. xor_lt 32 a b p q;
  associative = λ a b c p q r. xor_assoc a b c;
  commutative = λ a b p q. xor_comm a b;
  fits = omega arith;
  neutral = λ a p. xor_zero_l a;
}
