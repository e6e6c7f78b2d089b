-- Where an expression has a span, nothing in it wraps, and its exact value lies in the span.
use Rattle.std.proofs.Common.{◌≡◌, ◌≢◌, ℕ, zero, suc, ℤ, pos, ◌+◌, ◌-◌, ◌*◌, ◌/◌, ◌%◌, ◌^◌, ◌<◌, ◌≤◌, ◌-ℤ◌, min, max, Bool, true, false, Option, Some, None, List, refl, sym, ap, ◌∙◌, subst, arith}
use Rattle.std.specs.Prelude.{nat_lt, nat_le, if◌then◌else◌, slice_get, slice_index}
use Rattle.std.proofs.Math.Nat.{mod-lt, mod-le, div-le_self, div-mul-le_self}
use Rattle.std.proofs.lemmas.Nat.{le-div, mul-le}
use Rattle.std.proofs.lemmas.Bool.{ltb-true, leb-true}
use Rattle.std.proofs.lemmas.Option.{same_Some}
use Rattle.std.proofs.lemmas.Int.{ints, clamps}
use Rattle.size_arith.specs.declared.names.Name.{Name}
use Rattle.index_expr.specs.declared.operation.Operation.{Operation}
use Rattle.index_expr.specs.declared.operation.Operation.TheVariants.{Sum, Difference, Product, Quotient, Remainder, Least, Greatest}
use Rattle.index_expr.specs.Expression.{Expression, Variable, Literal, Size, Binary}
use Rattle.index_expr.specs.Values.{operate, exact, Divides, IsWord, IsRangedAt, HasWordArgumentsAt, HasNoZeroDivisorAt}
use Rattle.index_simplify.specs.Literals.{word, difference}
use Rattle.index_simplify.specs.Simplified.{HasWordLiterals}
use Rattle.tidy_indices.specs.declared.spans.Span.{Span}
use Rattle.tidy_indices.specs.Spans.{from_to, between, quotient, operated, operated_on, turns_up_to, declared_from_to, span_of}

-- a word of the span
pub record IsIn (s : Span) (x : ℕ) : Type 0 where
  pub above : s.least ≤ x
  pub below : x ≤ s.greatest
  pub fits : s.greatest < 2 ^ 32

-- ---- what the ends of a span are made of
record AreBoth (x y : Option ℕ) (s : Span) : Type 0 where
  low : ℕ
  high : ℕ
  low_is : x ≡ Some low
  high_is : y ≡ Some high
  same : from_to low high ≡ s

are_both : (x y : Option ℕ) (s : Span) → between x y ≡ Some s → AreBoth x y s
are_both (Some l) (Some g) s h = record { low = l; high = g; low_is = refl; high_is = refl; same = cc h }
are_both (Some l) None s h = absurd (cc h)
are_both None y s h = absurd (cc h)

word_is : (n m : ℕ) → word n ≡ Some m → (n ≡ m) × (m < 2 ^ 32)
word_is n m h = go (nat_lt n (2 ^ 32)) refl h
  where
    go : (b : Bool) → nat_lt n (2 ^ 32) ≡ b → (if b then Some n else None) ≡ Some m → (n ≡ m) × (m < 2 ^ 32)
    go true e h = (same_Some n m h, subst (λ z. z < 2 ^ 32) (same_Some n m h) (ltb-true n (2 ^ 32) e))
    go false e h = absurd (cc h)

difference_is : (m n d : ℕ) → difference m n ≡ Some d → (n ≤ m) × (m - n ≡ d)
difference_is m n d h = go (nat_le n m) refl h
  where
    go : (b : Bool) → nat_le n m ≡ b → (if b then Some (m - n) else None) ≡ Some d → (n ≤ m) × (m - n ≡ d)
    go true e h = (leb-true n m e, same_Some (m - n) d h)
    go false e h = absurd (cc h)

quotient_is : (m n q : ℕ) → quotient m n ≡ Some q → (0 < n) × (m / n ≡ q)
quotient_is m zero q h = absurd (cc h)
quotient_is m (suc n) q h = (omega arith, same_Some (m / suc n) q h)

-- ---- the result on words of two spans
record HasResult (o : Operation) (s : Span) (x y : ℕ) : Type 0 where
  at : ℕ
  exact_is : operate o (pos x) (pos y) ≡ pos at
  within : IsIn s at
  divisor : Divides o → y ≢ 0

abbrev IsGiven : Operation → Type 0
IsGiven o = (a b s : Span) (x y : ℕ) → operated o a b ≡ Some s → IsIn a x → IsIn b y → HasResult o s x y

sum_given : IsGiven Sum
sum_given a b s x y h p q =
    let ends = are_both (word (a.least + b.least)) (word (a.greatest + b.greatest)) s h in
    let low = word_is (a.least + b.least) ends.low ends.low_is in
    let high = word_is (a.greatest + b.greatest) ends.high ends.high_is in
    let above : ends.low ≤ x + y = (let e = low.0 in let f = p.above in let g = q.above in omega arith) in
    let below : x + y ≤ ends.high = (let e = high.0 in let f = p.below in let g = q.below in omega arith) in
    subst (λ z. HasResult Sum z x y) ends.same (record { at = x + y; exact_is = refl; within = record { above = above; below = below; fits = high.1 }; divisor = λ w. absurd w })

difference_given : IsGiven Difference
difference_given a b s x y h p q =
    let ends = are_both (difference a.least b.greatest) (difference a.greatest b.least) s h in
    let low = difference_is a.least b.greatest ends.low ends.low_is in
    let high = difference_is a.greatest b.least ends.high ends.high_is in
    let above : ends.low ≤ x - y = (let e = low.1 in let f = p.above in let g = q.below in omega arith) in
    let below : x - y ≤ ends.high = (let e = high.1 in let f = p.below in let g = q.above in omega arith) in
    let enough : y ≤ x = (let e = low.0 in let f = p.above in let g = q.below in omega arith) in
    let fits : ends.high < 2 ^ 32 = (let e = high.1 in let f = p.fits in omega arith) in
    subst (λ z. HasResult Difference z x y) ends.same
    (record { at = x - y; exact_is = left x y enough; within = record { above = above; below = below; fits = fits }; divisor = λ w. absurd w })
  where
    left : (m n : ℕ) → n ≤ m → pos m -ℤ pos n ≡ pos (m - n)
    left m n le = omega (arith, ints)

product_given : IsGiven Product
product_given a b s x y h p q =
    let ends = are_both (word (a.least * b.least)) (word (a.greatest * b.greatest)) s h in
    let low = word_is (a.least * b.least) ends.low ends.low_is in
    let high = word_is (a.greatest * b.greatest) ends.high ends.high_is in
    let above : ends.low ≤ x * y = subst (λ z. z ≤ x * y) low.0 (mul-le a.least b.least x y p.above q.above) in
    let below : x * y ≤ ends.high = subst (λ z. x * y ≤ z) high.0 (mul-le x y a.greatest b.greatest p.below q.below) in
    subst (λ z. HasResult Product z x y) ends.same (record { at = x * y; exact_is = refl; within = record { above = above; below = below; fits = high.1 }; divisor = λ w. absurd w })

div-mono : (l g x y : ℕ) → l ≤ x → y ≤ g → 0 < y → l / g ≤ x / y
div-mono l g x y le ge some =
    le-div (l / g) x y some (let most = mul-le (l / g) y (l / g) g (omega arith) ge in let all = div-mul-le_self l g in omega arith)

quotient_given : IsGiven Quotient
quotient_given a b s x y h p q =
    let ends = are_both (quotient a.least b.greatest) (quotient a.greatest b.least) s h in
    let low = quotient_is a.least b.greatest ends.low ends.low_is in
    let high = quotient_is a.greatest b.least ends.high ends.high_is in
    let many : 0 < y = (let e = high.0 in let f = q.above in omega arith) in
    let above : ends.low ≤ x / y = subst (λ z. z ≤ x / y) low.1 (div-mono a.least b.greatest x y p.above q.below many) in
    let below : x / y ≤ ends.high = subst (λ z. x / y ≤ z) high.1 (div-mono x y a.greatest b.least p.below q.above high.0) in
    let fits : ends.high < 2 ^ 32 = subst (λ z. z < 2 ^ 32) high.1 (let e = div-le_self a.greatest b.least in let f = p.fits in omega arith) in
    subst (λ z. HasResult Quotient z x y) ends.same
    (record { at = x / y; exact_is = refl; within = record { above = above; below = below; fits = fits }; divisor = λ w e. absurd (omega arith) })

remainder_given : IsGiven Remainder
remainder_given a b s x y h p q = go (nat_lt 0 b.least) refl h
  where
    go : (t : Bool) → nat_lt 0 b.least ≡ t → (if t then Some (from_to 0 (min a.greatest (b.greatest - 1))) else None) ≡ Some s → HasResult Remainder s x y
    go true e h =
        let some_least = ltb-true 0 b.least e in
        let many : 0 < y = (let f = q.above in omega arith) in
        let below : x % y ≤ min a.greatest (b.greatest - 1) = (let f = p.below in let g = q.below in let i = mod-lt x many in let j = mod-le x y in omega arith) in
        let fits : min a.greatest (b.greatest - 1) < 2 ^ 32 = (let f = p.fits in omega arith) in
        subst (λ z. HasResult Remainder z x y) (same_Some _ _ h)
        (record { at = x % y; exact_is = refl; within = record { above = omega arith; below = below; fits = fits }; divisor = λ w f. absurd (omega arith) })
    go false e h = absurd (cc h)

least_given : IsGiven Least
least_given a b s x y h p q =
    let above : min a.least b.least ≤ min x y = (let f = p.above in let g = q.above in omega arith) in
    let below : min x y ≤ min a.greatest b.greatest = (let f = p.below in let g = q.below in omega arith) in
    let fits : min a.greatest b.greatest < 2 ^ 32 = (let f = p.fits in omega arith) in
    subst (λ z. HasResult Least z x y) (same_Some _ _ h)
    (record { at = min x y; exact_is = omega (arith, ints, clamps); within = record { above = above; below = below; fits = fits }; divisor = λ w. absurd w })

greatest_given : IsGiven Greatest
greatest_given a b s x y h p q =
    let above : max a.least b.least ≤ max x y = (let f = p.above in let g = q.above in omega arith) in
    let below : max x y ≤ max a.greatest b.greatest = (let f = p.below in let g = q.below in omega arith) in
    let fits : max a.greatest b.greatest < 2 ^ 32 = (let f = p.fits in let g = q.fits in omega arith) in
    subst (λ z. HasResult Greatest z x y) (same_Some _ _ h)
    (record { at = max x y; exact_is = omega (arith, ints, clamps); within = record { above = above; below = below; fits = fits }; divisor = λ w. absurd w })

given : (o : Operation) → IsGiven o
given Sum = sum_given
given Difference = difference_given
given Product = product_given
given Quotient = quotient_given
given Remainder = remainder_given
given Least = least_given
given Greatest = greatest_given

-- ---- the whole expression
-- each size lies in its range
abbrev pub AreSizesOf : List Name → List ℕ → Type 0
AreSizesOf names sizes = (k : ℕ) (n : Name) → slice_get names k ≡ Some n → IsIn (from_to n.from n.to) (slice_index sizes k)

-- each turn is at most the last
abbrev pub AreUpTo : List ℕ → List ℕ → Type 0
AreUpTo lasts turns = (k g : ℕ) → slice_get lasts k ≡ Some g → IsIn (from_to 0 g) (slice_index turns k)

module _ (names : List Name) (sizes lasts turns : List ℕ) (sizes_are : AreSizesOf names sizes) (turns_are : AreUpTo lasts turns) where
  pub record IsShown (e : Expression) (s : Span) : Type 0 where
    pub at : ℕ
    pub exact_is : exact sizes turns e ≡ pos at
    pub within : IsIn s at
    pub words : HasWordArgumentsAt sizes turns e
    pub divisors : HasNoZeroDivisorAt sizes turns e

  is_word : (z : ℤ) (x : ℕ) (s : Span) → z ≡ pos x → IsIn s x → IsWord z
  is_word z x s e w = let f = w.below in let g = w.fits in (omega (arith, ints), omega (arith, ints))

  turn_shown : (k l g : ℕ) (s : Span) (last : Option ℕ) → slice_get lasts k ≡ last → turns_up_to last ≡ Some s → IsShown (Variable k l g) s
  turn_shown k l g s None e h = absurd (cc h)
  turn_shown k l g s (Some m) e h = record { at = slice_index turns k; exact_is = refl; within = subst (λ z. IsIn z (slice_index turns k)) (same_Some _ _ h) (turns_are k m e); words = tt; divisors = tt }

  size_shown : (k : ℕ) (s : Span) (name : Option Name) → slice_get names k ≡ name → declared_from_to name ≡ Some s → IsShown (Size k) s
  size_shown k s None e h = absurd (cc h)
  size_shown k s (Some n) e h = record { at = slice_index sizes k; exact_is = refl; within = subst (λ z. IsIn z (slice_index sizes k)) (same_Some _ _ h) (sizes_are k n e); words = tt; divisors = tt }

  literal_shown : (n : ℕ) (s : Span) → n < 2 ^ 32 → Some (from_to n n) ≡ Some s → IsShown (Literal n) s
  literal_shown n s lt h = record { at = n; exact_is = refl; within = subst (λ z. IsIn z n) (same_Some _ _ h) (record { above = omega arith; below = omega arith; fits = lt }); words = tt; divisors = tt }

  operation_shown : (o : Operation) (a b : Expression) (s p q : Span) → operated o p q ≡ Some s → IsShown a p → IsShown b q → IsShown (Binary o a b) s
  operation_shown o a b s p q h x y =
      let r = given o p q s x.at y.at h x.within y.within in
      record {
        at = r.at;
        exact_is = ap (λ z. operate o z (exact sizes turns b)) x.exact_is ∙ ap (operate o (pos x.at)) y.exact_is ∙ r.exact_is;
        within = r.within;
        words = ((λ w. (is_word (exact sizes turns a) x.at p x.exact_is x.within, is_word (exact sizes turns b) y.at q y.exact_is y.within)), x.words, y.words);
        divisors = ((λ d zero. r.divisor d (let same : pos y.at ≡ pos 0 = sym y.exact_is ∙ zero in cc same)), x.divisors, y.divisors);
      }

  both_shown : (o : Operation) (a b : Expression) (s : Span) (p q : Option Span) → operated_on o p q ≡ Some s → ((t : Span) → p ≡ Some t → IsShown a t) → ((t : Span) → q ≡ Some t → IsShown b t) → IsShown (Binary o a b) s
  both_shown o a b s (Some p) (Some q) h x y = operation_shown o a b s p q h (x p refl) (y q refl)
  both_shown o a b s (Some p) None h x y = absurd (cc h)
  both_shown o a b s None q h x y = absurd (cc h)

  pub is_shown : (e : Expression) (s : Span) → HasWordLiterals e → span_of names lasts e ≡ Some s → IsShown e s
  is_shown (Variable k l g) s lits h = turn_shown k l g s (slice_get lasts k) refl h
  is_shown (Literal n) s lits h = literal_shown n s lits h
  is_shown (Size k) s lits h = size_shown k s (slice_get names k) refl h
  is_shown (Binary o a b) s lits h = both_shown o a b s (span_of names lasts a) (span_of names lasts b) h (λ t e. is_shown a t lits.0 e) (λ t e. is_shown b t lits.1 e)

  pub is_ranged : (e : Expression) (s : Span) → IsShown e s → IsRangedAt sizes turns e
  is_ranged e s h = (h.words, is_word (exact sizes turns e) h.at s h.exact_is h.within)
