-- Where an expression is ranged, its value on words is the exact value.
use Rattle.std.proofs.Common.{◌≡◌, ℕ, ℤ, pos, negsuc, ◌%◌, ◌^◌, ◌<◌, ◌+ℤ◌, ◌-ℤ◌, ◌*ℤ◌, neg_ℤ, min, max, List, refl, sym, ap, ◌∙◌, w32, arith}
use Rattle.std.specs.Prelude.{slice_index}
use Rattle.std.specs.Int.{int_wrap, int_min, int_max, cast_signed, cast_unsigned}
use Rattle.std.proofs.Math.Nat.{mod-lt, mod-le, mod-eq_of_lt, div-le_self}
use Rattle.std.proofs.lemmas.Int.{ints, clamps, of_z-to_z, wrapping_add-bits, wrapping_sub-bits, wrapping_mul-bits, int_wrap-add_left, int_wrap-add_right, int_wrap-sub_right, int_wrap-mul_left, int_wrap-mul_right}
use Rattle.index_expr.specs.declared.operation.Operation.{Operation}
use Rattle.index_expr.specs.declared.operation.Operation.TheVariants.{Sum, Difference, Product, Quotient, Remainder, Least, Greatest}
use Rattle.index_expr.specs.Expression.{Expression, Variable, Literal, Size, Binary}
use Rattle.index_expr.specs.Values.{operate, operate_words, exact, wrapped, Divides, WantsWords, IsWord, HasWordArgumentsAt, IsRangedAt, HasNoZeroDivisorAt, HasNoZeroDivisorInWordsAt}

-- ---- words
wraps_to : (n : ℕ) → cast_signed w32 (n % 2 ^ 32) ≡ int_wrap w32 (pos n)
unfolding int_wrap
wraps_to n = refl

as_word : (n : ℕ) → n < 2 ^ 32 → cast_signed w32 n ≡ int_wrap w32 (pos n)
as_word n lt = ap (cast_signed w32) (sym (mod-eq_of_lt lt)) ∙ wraps_to n

-- a word that is a number up to wrapping is that number
is_that : (m : ℕ) (z : ℤ) → m < 2 ^ 32 → cast_signed w32 m ≡ int_wrap w32 z → IsWord z → pos m ≡ z
is_that m (pos n) lt e w =
    let small : n < 2 ^ 32 = omega (arith, ints) in
    let same = ap (cast_unsigned w32) (e ∙ sym (as_word n small)) in
    ap pos (sym (of_z-to_z w32 m lt) ∙ same ∙ of_z-to_z w32 n small)
is_that m (negsuc n) lt e w = absurd (omega (arith, ints))

operation_word : (o : Operation) (x y : ℕ) → x < 2 ^ 32 → y < 2 ^ 32 → operate_words o x y < 2 ^ 32
operation_word Sum x y h k = mod-lt _ (omega arith)
operation_word Difference x y h k = mod-lt _ (omega arith)
operation_word Product x y h k = mod-lt _ (omega arith)
operation_word Quotient x y h k = let l = div-le_self x y in omega arith
operation_word Remainder x y h k = let l = mod-le x y in omega arith
operation_word Least x y h k = omega arith
operation_word Greatest x y h k = omega arith

sub_left : (a b : ℤ) → int_wrap w32 (int_wrap w32 a -ℤ b) ≡ int_wrap w32 (a -ℤ b)
sub_left a b = int_wrap-add_left w32 a (neg_ℤ b)

least_is : (x y : ℕ) → int_min (pos x) (pos y) ≡ pos (min x y)
least_is x y = omega (arith, ints, clamps)

greatest_is : (x y : ℕ) → int_max (pos x) (pos y) ≡ pos (max x y)
greatest_is x y = omega (arith, ints, clamps)

-- an operation that is asked of words gives on them the exact result
on_words : (o : Operation) (x y : ℕ) → WantsWords o → operate o (pos x) (pos y) ≡ pos (operate_words o x y)
on_words Sum x y w = absurd w
on_words Difference x y w = absurd w
on_words Product x y w = absurd w
on_words Quotient x y w = refl
on_words Remainder x y w = refl
on_words Least x y w = least_is x y
on_words Greatest x y w = greatest_is x y

module _ (sizes variables : List ℕ) where
  pub word : (e : Expression) → wrapped sizes variables e < 2 ^ 32
  word (Variable k l g) = mod-lt _ (omega arith)
  word (Literal n) = mod-lt _ (omega arith)
  word (Size k) = mod-lt _ (omega arith)
  word (Binary o a b) = operation_word o _ _ (word a) (word b)

  wanted : (o : Operation) (a b : Expression) → WantsWords o → IsWord (exact sizes variables a) × IsWord (exact sizes variables b) → cast_signed w32 (wrapped sizes variables a) ≡ int_wrap w32 (exact sizes variables a) → cast_signed w32 (wrapped sizes variables b) ≡ int_wrap w32 (exact sizes variables b) → cast_signed w32 (operate_words o (wrapped sizes variables a) (wrapped sizes variables b)) ≡ int_wrap w32 (operate o (exact sizes variables a) (exact sizes variables b))
  wanted o a b wants words first second =
      let m = wrapped sizes variables a in
      let n = wrapped sizes variables b in
      let x = is_that m (exact sizes variables a) (word a) first words.0 in
      let y = is_that n (exact sizes variables b) (word b) second words.1 in
      as_word (operate_words o m n) (operation_word o m n (word a) (word b))
      ∙ ap (int_wrap w32) (sym (on_words o m n wants) ∙ ap (λ z. operate o z (pos n)) x ∙ ap (λ z. operate o (exact sizes variables a) z) y)

  any : (o : Operation) (a b : Expression) → (WantsWords o → IsWord (exact sizes variables a) × IsWord (exact sizes variables b)) → cast_signed w32 (wrapped sizes variables a) ≡ int_wrap w32 (exact sizes variables a) → cast_signed w32 (wrapped sizes variables b) ≡ int_wrap w32 (exact sizes variables b) → cast_signed w32 (operate_words o (wrapped sizes variables a) (wrapped sizes variables b)) ≡ int_wrap w32 (operate o (exact sizes variables a) (exact sizes variables b))
  any Sum a b words first second =
      wrapping_add-bits w32 (wrapped sizes variables a) (wrapped sizes variables b) (word a) (word b)
      ∙ ap (int_wrap w32) (ap (λ z. z +ℤ cast_signed w32 (wrapped sizes variables b)) first ∙ ap (λ z. int_wrap w32 (exact sizes variables a) +ℤ z) second)
      ∙ int_wrap-add_left w32 (exact sizes variables a) (int_wrap w32 (exact sizes variables b))
      ∙ int_wrap-add_right w32 (exact sizes variables a) (exact sizes variables b)
  any Difference a b words first second =
      wrapping_sub-bits w32 (wrapped sizes variables a) (wrapped sizes variables b) (word a) (word b)
      ∙ ap (int_wrap w32) (ap (λ z. z -ℤ cast_signed w32 (wrapped sizes variables b)) first ∙ ap (λ z. int_wrap w32 (exact sizes variables a) -ℤ z) second)
      ∙ sub_left (exact sizes variables a) (int_wrap w32 (exact sizes variables b))
      ∙ int_wrap-sub_right w32 (exact sizes variables a) (exact sizes variables b)
  any Product a b words first second =
      wrapping_mul-bits w32 (wrapped sizes variables a) (wrapped sizes variables b) (word a) (word b)
      ∙ ap (int_wrap w32) (ap (λ z. z *ℤ cast_signed w32 (wrapped sizes variables b)) first ∙ ap (λ z. int_wrap w32 (exact sizes variables a) *ℤ z) second)
      ∙ int_wrap-mul_left w32 (exact sizes variables a) (int_wrap w32 (exact sizes variables b))
      ∙ int_wrap-mul_right w32 (exact sizes variables a) (exact sizes variables b)
  any Quotient a b words first second = wanted Quotient a b tt (words tt) first second
  any Remainder a b words first second = wanted Remainder a b tt (words tt) first second
  any Least a b words first second = wanted Least a b tt (words tt) first second
  any Greatest a b words first second = wanted Greatest a b tt (words tt) first second

  agrees : (e : Expression) → HasWordArgumentsAt sizes variables e → cast_signed w32 (wrapped sizes variables e) ≡ int_wrap w32 (exact sizes variables e)
  agrees (Variable k l g) h = wraps_to (slice_index variables k)
  agrees (Literal n) h = wraps_to n
  agrees (Size k) h = wraps_to (slice_index sizes k)
  agrees (Binary o a b) h = any o a b h.0 (agrees a h.1) (agrees b h.2)

  pub ranged_is_exact : (e : Expression) → IsRangedAt sizes variables e → pos (wrapped sizes variables e) ≡ exact sizes variables e
  ranged_is_exact e h = is_that (wrapped sizes variables e) (exact sizes variables e) (word e) (agrees e h.0) h.1

  wants_words : (o : Operation) → Divides o → WantsWords o
  wants_words Quotient d = tt
  wants_words Remainder d = tt
  wants_words _ d = absurd d

  divisors : (e : Expression) → HasWordArgumentsAt sizes variables e → HasNoZeroDivisorAt sizes variables e → HasNoZeroDivisorInWordsAt sizes variables e
  divisors (Variable k l g) h none = tt
  divisors (Literal n) h none = tt
  divisors (Size k) h none = tt
  divisors (Binary o a b) h none = (
    λ d zero. none.0 d (sym (is_that (wrapped sizes variables b) (exact sizes variables b) (word b) (agrees b h.2) (h.0 (wants_words o d)).1) ∙ ap pos zero),
    divisors a h.1 none.1,
    divisors b h.2 none.2,
  )

  pub ranged_divisors : (e : Expression) → IsRangedAt sizes variables e → HasNoZeroDivisorAt sizes variables e → HasNoZeroDivisorInWordsAt sizes variables e
  ranged_divisors e h none = divisors e h.0 none
