-- Numbers and names in pieces: what the proof that the rows are the grammar's (Decided) rests on.
-- It stands beside that, since a definition can cite no proof of its own crate.
use Rattle.std.proofs.Common.{◌≡◌, ℕ, ◌-◌, ◌+◌, ◌^◌, ◌<◌, ◌≤◌, List, [], ◌∷◌, ◌++◌, Option, Some, None, Bool, true, false, cond, refl, ap, sym, ◌∙◌, subst, arith, lit<, length, take, drop}
use Rattle.std.specs.Prelude.{bytes_eq, nat_lt, nat_eq, ◌&&◌, decimal, codes}
use Rattle.std.specs.Str.Parse.{digits_value}
use Rattle.std.specs.Cmp.Lexicographic.{same_text}
use Rattle.std.proofs.lemmas.Bool.{ltb-true, lt-ltb, and_from, and_parts, eq-eqb, eqb-true}
use Rattle.std.proofs.lemmas.Option.{cond_some}
use Rattle.std.proofs.lemmas.Fmt.{decimal_is_IsNumeral}
use Rattle.std.proofs.lemmas.List.{take-append-drop, length-append, append-nil}
use Rattle.std.proofs.Math.Seq.{take-append_seam, drop-append_seam}
use Rattle.std.specs.Str.Parse.{AllDigits}
use Rattle.std.proofs.lemmas.Str.Parse.{IsDigitsTest, tells_digits}
use Rattle.kernel_tree.specs.KernelText.{number_limit}
use Rattle.kernel_spelling.specs.Kinds.{number_in, named_in, literal_in}

-- a number of 32 bits is one of 64
pub small : (n : ℕ) → n < 2 ^ 32 → n < 2 ^ 64
small n h = let w : 2 ^ 32 < 2 ^ 64 = lit< tt in omega (arith, h, w)

-- bytes are equal to themselves
pub itself : (x : List ℕ) → bytes_eq x x ≡ true
itself [] = refl
itself (b ∷ x) = and_from (nat_eq b b) (bytes_eq x x) (eq-eqb b b refl) (itself x)

-- equal bytes are the same
pub same : (x y : List ℕ) → bytes_eq x y ≡ true → x ≡ y
same x y e = same_text x y (sym e)

-- a number is read from its decimal
pub number_decimal : (n : ℕ) → n < 2 ^ 32 → number_in (decimal n) ≡ Some n
number_decimal n h =
    let value : digits_value 10 (decimal n) ≡ n = (decimal_is_IsNumeral n (small n h)).1 in
    ap (λ v. cond (nat_lt v number_limit && bytes_eq (decimal v) (decimal n)) (Some v) None) value
    ∙ ap (λ b. cond b (Some n) None)
    (and_from (nat_lt n (2 ^ 32)) (bytes_eq (decimal n) (decimal n)) (lt-ltb n (2 ^ 32) h)
    (itself (decimal n)))

-- what is read as a number is its decimal
pub number_is : (ds : List ℕ) (n : ℕ) → number_in ds ≡ Some n → (n < 2 ^ 32) × (ds ≡ decimal n)
number_is ds n e =
    let v = digits_value 10 ds in
    let h = cond_some (nat_lt v (2 ^ 32) && bytes_eq (decimal v) ds) v n e in
    let q = and_parts (nat_lt v (2 ^ 32)) (bytes_eq (decimal v) ds) h.0 in (
      subst (λ z. z < 2 ^ 32) h.1 (ltb-true v (2 ^ 32) q.0),
      sym (same (decimal v) ds q.1)
          ∙ ap decimal h.1,
    )

-- where there is an answer, the test holds and the answer is the first
pub cond_then : {A : Type 0} (b : Bool) (o : Option A) (x : A) → cond b o None ≡ Some x
    → (b ≡ true) × (o ≡ Some x)
cond_then true o x e = (refl, e)
cond_then false o x e = absurd (cc (e))

-- what is read as a name is its letter and its number's decimal
pub named_is : (letter : ℕ) (p : List ℕ) (k : ℕ) → named_in letter p ≡ Some k
    → (k < 2 ^ 32) × (p ≡ letter ∷ decimal k)
named_is letter p k e =
    let h = cond_then (bytes_eq (take 1 p) (letter ∷ [])) (number_in (drop 1 p)) k e in
    let q = number_is (drop 1 p) k h.1 in (
      q.0,
      sym (take-append-drop 1 p) ∙ ap (λ z. z ++ drop 1 p) (same (take 1 p) (letter ∷ []) h.0)
          ∙ ap (λ z. letter ∷ z) q.1,
    )

-- what is read as a literal is its value's decimal and u
pub literal_is : (p : List ℕ) (v : ℕ) → literal_in p ≡ Some v
    → (v < 2 ^ 32) × (p ≡ decimal v ++ codes "u")
literal_is p v e =
    let m = length p - 1 in
    let h = cond_then (bytes_eq (drop m p) (codes "u")) (number_in (take m p)) v e in
    let q = number_is (take m p) v h.1 in (
      q.0,
      sym (take-append-drop m p) ∙ ap (λ z. take m p ++ z) (same (drop m p) (codes "u") h.0)
          ∙ ap (λ z. z ++ codes "u") q.1,
    )

literal_at : (ds : List ℕ) (m : ℕ) → length ds ≡ m
    → cond (bytes_eq (drop m (ds ++ codes "u")) (codes "u"))
    (number_in (take m (ds ++ codes "u"))) None
    ≡ number_in ds
literal_at ds m e =
    subst
    (λ z. cond (bytes_eq (drop z (ds ++ codes "u")) (codes "u"))
    (number_in (take z (ds ++ codes "u"))) None
    ≡ number_in ds) e
    (ap (λ z. cond (bytes_eq z (codes "u")) (number_in (take (length ds) (ds ++ codes "u"))) None)
    (drop-append_seam ds (codes "u"))
    ∙ ap number_in (take-append_seam ds (codes "u")))

-- a literal is read from its spelling
pub literal_spelled : (v : ℕ) → v < 2 ^ 32 → literal_in (decimal v ++ codes "u") ≡ Some v
literal_spelled v h =
    literal_at (decimal v) (length (decimal v ++ codes "u") - 1)
    (let e : length (decimal v ++ codes "u")
    ≡ length (decimal v) + 1 = length-append (decimal v) (codes "u") in omega (arith, e))
    ∙ number_decimal v h

-- what begins with a digit is no name
not_named_at : (letter : ℕ) (w back : List ℕ) → 58 ≤ letter → 0 < length w → AllDigits 10 w
    → named_in letter (w ++ back) ≡ None
not_named_at letter [] back high some digits = absurd (omega (arith, some))
not_named_at letter (d ∷ ds) back high some digits =
    let differ : nat_eq d letter ≡ false = other_at (nat_eq d letter) refl in
    ap (λ b. cond (b && bytes_eq [] []) (number_in (ds ++ back)) None) differ where
      other_at : (v : Bool) → nat_eq d letter ≡ v → nat_eq d letter ≡ false
      other_at true e =
          absurd
          (let q = IsDigitsTest.parts tells_digits d ds digits in
          let w = eqb-true d letter e in
          let k = q.0.1 in omega (arith, w, high, k))
      other_at false e = e

-- a literal is no name
pub not_named : (letter v : ℕ) → 58 ≤ letter → v < 2 ^ 32
    → named_in letter (decimal v ++ codes "u") ≡ None
not_named letter v high h =
    let q = (decimal_is_IsNumeral v (small v h)).0 in
    not_named_at letter (decimal v) (codes "u") high q.0 q.1

-- a decimal is no name
pub no_name : (letter v : ℕ) → 58 ≤ letter → v < 2 ^ 32 → named_in letter (decimal v) ≡ None
no_name letter v high h =
    let q = (decimal_is_IsNumeral v (small v h)).0 in
    ap (named_in letter) (sym (append-nil (decimal v)))
    ∙ not_named_at letter (decimal v) [] high q.0 q.1

-- digits don't end with u
no_suffix : (w : List ℕ) → AllDigits 10 (w ++ codes "u") → ⊥
no_suffix [] digits =
    let q = IsDigitsTest.parts tells_digits 117 [] digits in let k : 117 ≤ 57 = q.0.1 in omega
    (arith, k)
no_suffix (d ∷ ds) digits =
    no_suffix ds (IsDigitsTest.parts tells_digits d (ds ++ codes "u") digits).1

-- a decimal is no literal
pub no_literal : (v : ℕ) → v < 2 ^ 32 → literal_in (decimal v) ≡ None
no_literal v h = at_answer (literal_in (decimal v)) refl where
  at_answer : (o : Option ℕ) → literal_in (decimal v) ≡ o → literal_in (decimal v) ≡ None
  at_answer None e = e
  at_answer (Some k) e =
      absurd
      (no_suffix (decimal k)
      (subst (AllDigits 10) (literal_is (decimal v) k e).1
      (decimal_is_IsNumeral v (small v h)).0.1))

-- what begins with no digit is no number
pub no_number : (b : ℕ) (bs : List ℕ) → (48 ≤ b → b ≤ 57 → ⊥) → number_in (b ∷ bs) ≡ None
no_number b bs apart = at_answer (number_in (b ∷ bs)) refl where
  at_answer : (o : Option ℕ) → number_in (b ∷ bs) ≡ o → number_in (b ∷ bs) ≡ None
  at_answer None e = e
  at_answer (Some k) e = absurd (
      let q = number_is (b ∷ bs) k e in
      let digits = subst (AllDigits 10) (sym q.1) (decimal_is_IsNumeral k (small k q.0)).0.1 in
      let d = IsDigitsTest.parts tells_digits b bs digits in apart d.0.0 d.0.1)
