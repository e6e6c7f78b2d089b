-- Which bytes are read as a number, and which aren't.
use Rattle.std.proofs.Common.{◌≡◌, ℕ, ◌^◌, ◌<◌, List, Option, Some, None, true, refl, ap, sym, ◌∙◌}
use Rattle.std.specs.Prelude.{bytes_eq, decimal}
use Rattle.kernel_spelling.specs.Kinds.{number_in}
use Rattle.kernel_spelling.specs.Numbers.{same, number_decimal, number_is}

-- what is no number's decimal isn't read as a number
pub none_at : (ds : List ℕ) → ((n : ℕ) → n < 2 ^ 32 → ds ≡ decimal n → ⊥) → None ≡ number_in ds
none_at ds h = at_answer (number_in ds) refl where
  at_answer : (o : Option ℕ) → number_in ds ≡ o → None ≡ number_in ds
  at_answer None e = sym e
  at_answer (Some n) e = absurd (let q = number_is ds n e in h n q.0 q.1)

-- what is equal to a number's decimal is read as the number
pub some_at : (ds : List ℕ) (n : ℕ) → n < 2 ^ 32 → bytes_eq (decimal n) ds ≡ true
    → Some n ≡ number_in ds
some_at ds n h e = sym (number_decimal n h) ∙ ap number_in (same (decimal n) ds e)
