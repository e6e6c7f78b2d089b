-- Where the divisors of sizes are as they are declared, a simplified expression has no more nodes
-- than the expression counted in short.
use Rattle.std.proofs.Common.{◌≡◌, ℕ, zero, suc, ◌+◌, ◌*◌, ◌/◌, ◌%◌, ◌<◌, ◌≤◌, Bool, true, false, Option, Some, None, refl, sym, ap, ◌∙◌, subst, arith}
use Rattle.std.specs.Prelude.{◌==◌, ◌&&◌, nat_lt, if◌then◌else◌}
use Rattle.std.proofs.Common.{⊎_elim}
use Rattle.std.proofs.lemmas.Bool.{and_parts, cases_Bool, eqb-true, eq-eqb, ltb-true, lt-ltb}
use Rattle.std.proofs.Math.Nat.{div-add-mod}
use Rattle.index_expr.specs.declared.operation.Operation.{Operation}
use Rattle.index_expr.specs.declared.operation.Operation.TheVariants.{Product, Quotient}
use Rattle.index_expr.specs.Expression.{Expression, Variable, Literal, Size, Binary, nodes, divisor_of, scaled_nodes, short_nodes}
use Rattle.index_simplify.specs.PlainRanges.{PlainRanges}
use Rattle.index_simplify.specs.declared.law.Law.{Law}
use Rattle.index_simplify.specs.declared.law.Law.TheVariants as law
use Rattle.index_simplify.specs.declared.law.TheConstants.{LAWS}
use Rattle.index_simplify.specs.Tests.{is_multiple, is_part_of}
use Rattle.index_simplify.specs.Laws.{applies, applied}
use Rattle.index_simplify.specs.Operations.{first_law, by_law, operation_on, tabled}
use Rattle.index_simplify.specs.Simplified.{AreDeclared}
use Rattle.index_simplify.proofs.Parts.{applied_small}
use Rattle.index_simplify.proofs.Shapes.{found_applies, none_applies, fails_each, clash}

no_zero : (c : ℕ) → (0 == c) ≡ false → c ≡ 0 → ⊥
no_zero c many z = let e : (0 == c) ≡ true = eq-eqb 0 c (sym z) in absurd (cc (e, many))

above_times : (c d q : ℕ) → 0 < d → d * q ≡ c → (c ≡ d → ⊥) → (c ≡ 0 → ⊥) → d < c
above_times c d zero some e other many = absurd (many (omega arith))
above_times c d (suc zero) some e other many = absurd (other (omega arith))
above_times c d (suc (suc q)) some e other many = let f : d * suc (suc q) ≡ d * q + (d + d) = omega arith in omega arith

above : (c d : ℕ) → 0 < d → c % d ≡ 0 → (c ≡ d → ⊥) → (c ≡ 0 → ⊥) → d < c
above c d some rest other many = let same = div-add-mod c d in let fits : d * (c / d) ≡ c = omega arith in above_times c d (c / d) some fits other many

-- a number times a size over its divisor
module _ (r : PlainRanges) (c k d : ℕ) where
  abbrev Base : Expression
  Base = Binary Quotient (Size k) (Literal d)

  -- whatever law it is, it leaves no more than three nodes
  few : (l : Law) → nodes (applied l Product (Literal c) Base) ≤ 3
  few law.Computed = omega arith
  few law.PlusZero = omega arith
  few law.ZeroPlus = omega arith
  few law.MinusZero = omega arith
  few law.MinusItself = omega arith
  few law.TimesOne = omega arith
  few law.OneTimes = omega arith
  few law.TimesZero = omega arith
  few law.ZeroTimes = omega arith
  few law.OverOne = omega arith
  few law.ModuloOne = omega arith
  few law.WholeSize = omega arith
  few law.ScaledSize = omega arith
  few law.RowOfCell = omega arith
  few law.ColumnOfCell = omega arith
  few law.CellOfParts = omega arith
  few law.GreatestZero = omega arith
  few law.ZeroGreatest = omega arith
  few law.LeastZero = omega arith
  few law.ZeroLeast = omega arith

  -- and one, where it is the divisor's number
  one_left : (1 == c) ≡ false → (l : Law) → d ≡ c → applies r l Product (Literal c) Base ≡ true → nodes (applied l Product (Literal c) Base) ≤ 1
  one_left more law.Computed same h = omega arith
  one_left more law.PlusZero same h = omega arith
  one_left more law.ZeroPlus same h = absurd (cc h)
  one_left more law.MinusZero same h = omega arith
  one_left more law.MinusItself same h = omega arith
  one_left more law.TimesOne same h = omega arith
  one_left more law.OneTimes same h = absurd (cc (more, h))
  one_left more law.TimesZero same h = omega arith
  one_left more law.ZeroTimes same h = omega arith
  one_left more law.OverOne same h = omega arith
  one_left more law.ModuloOne same h = omega arith
  one_left more law.WholeSize same h = omega arith
  one_left more law.ScaledSize same h =
      let parts = and_parts (is_part_of c (Literal d)) (is_multiple r (Size k) (Literal d)) h in
      let front = and_parts (nat_lt 0 d && nat_lt d c) (c % d == 0) parts.0 in
      let most = and_parts (nat_lt 0 d) (nat_lt d c) front.0 in
      let less = ltb-true d c most.1 in absurd (omega arith)
  one_left more law.RowOfCell same h = omega arith
  one_left more law.ColumnOfCell same h = omega arith
  one_left more law.CellOfParts same h = omega arith
  one_left more law.GreatestZero same h = absurd (cc h)
  one_left more law.ZeroGreatest same h = absurd (cc h)
  one_left more law.LeastZero same h = omega arith
  one_left more law.ZeroLeast same h = omega arith

  -- some law is of it
  whole_law : is_multiple r (Size k) (Literal d) ≡ true → c ≡ d → applies r law.WholeSize Product (Literal c) Base ≡ true
  whole_law m same = let e : (c == d) ≡ true = eq-eqb c d same in rw (e, m) refl

  zero_law : c ≡ 0 → applies r law.ZeroTimes Product (Literal c) Base ≡ true
  zero_law same = eq-eqb 0 c (sym same)

  part_law : is_multiple r (Size k) (Literal d) ≡ true → 0 < d → d < c → c % d ≡ 0 → applies r law.ScaledSize Product (Literal c) Base ≡ true
  part_law m some less rest =
      let x : nat_lt 0 d ≡ true = lt-ltb 0 d some in
      let y : nat_lt d c ≡ true = lt-ltb d c less in
      let z : (c % d == 0) ≡ true = eq-eqb (c % d) 0 rest in
      rw (x, y, z, m) refl

  by_some : (limit : ℕ) → ((l : Law) → applies r l Product (Literal c) Base ≡ true → nodes (applied l Product (Literal c) Base) ≤ limit) → (l : Law) → applies r l Product (Literal c) Base ≡ true → nodes (operation_on r Product (Literal c) Base) ≤ limit
  by_some limit each l h = go (first_law r Product (Literal c) Base LAWS) refl
    where
      go : (found : Option Law) → first_law r Product (Literal c) Base LAWS ≡ found → nodes (by_law found Product (Literal c) Base) ≤ limit
      go None e = absurd (clash r Product (Literal c) Base (applies r l Product (Literal c) Base) h (fails_each r Product (Literal c) Base (none_applies r Product (Literal c) Base LAWS e) l))
      go (Some m) e = each m (found_applies r Product (Literal c) Base LAWS m e)

module _ (r : PlainRanges) where
  no_more : (o : Operation) (a b : Expression) → nodes (operation_on r o a b) ≤ nodes a + nodes b + 1
  no_more o a b = go (first_law r o a b LAWS)
    where
      go : (found : Option Law) → nodes (by_law found o a b) ≤ nodes a + nodes b + 1
      go None = omega arith
      go (Some l) = (applied_small l o a b).nodes

  base_stays : (k d : ℕ) → (1 == d) ≡ false → tabled r (Binary Quotient (Size k) (Literal d)) ≡ Binary Quotient (Size k) (Literal d)
  base_stays k d e = ap (λ (b : Bool). by_law (if b then Some law.OverOne else None) Quotient (Size k) (Literal d)) e

  base_of_one : (k d : ℕ) → (1 == d) ≡ true → tabled r (Binary Quotient (Size k) (Literal d)) ≡ Size k
  base_of_one k d e = ap (λ (b : Bool). by_law (if b then Some law.OverOne else None) Quotient (Size k) (Literal d)) e

  one_size : (c k : ℕ) → c ≡ 1 → nodes (operation_on r Product (Literal c) (Size k)) ≤ 1
  one_size c k e = subst (λ x. nodes (operation_on r Product (Literal x) (Size k)) ≤ 1) (sym e) (omega arith)

  plain_short : (o : Operation) (a b : Expression) → nodes (tabled r a) ≤ short_nodes a → nodes (tabled r b) ≤ short_nodes b → nodes (tabled r (Binary o a b)) ≤ short_nodes a + short_nodes b + 1
  plain_short o a b x y = let most = no_more o (tabled r a) (tabled r b) in omega arith

  other_short : (c : ℕ) (b : Expression) → divisor_of b ≡ 0 → nodes (tabled r b) ≤ short_nodes b → nodes (tabled r (Binary Product (Literal c) b)) ≤ short_nodes (Binary Product (Literal c) b)
  other_short c b e y = subst (λ d. nodes (tabled r (Binary Product (Literal c) b)) ≤ scaled_nodes c d (1 + short_nodes b + 1)) (sym e) (plain_short Product (Literal c) b (omega arith) y)

  -- the number of the divisor
  whole_short : (c k d : ℕ) → is_multiple r (Size k) (Literal d) ≡ true → c ≡ d → nodes (operation_on r Product (Literal c) (tabled r (Binary Quotient (Size k) (Literal d)))) ≤ 1
  whole_short c k d m same =
      ⊎_elim
      (λ one. rw (base_of_one k d one) (one_size c k (same ∙ sym (eqb-true 1 d one))))
      (λ more. rw (base_stays k d more) (by_some r c k d 1 (λ l h. one_left r c k d (ap (λ x. 1 == x) same ∙ more) l (sym same) h) law.WholeSize (whole_law r c k d m same)))
      (cases_Bool (1 == d))

  part_short : (c k d : ℕ) → is_multiple r (Size k) (Literal d) ≡ true → 0 < d → c % d ≡ 0 → (c ≡ d → ⊥) → nodes (operation_on r Product (Literal c) (tabled r (Binary Quotient (Size k) (Literal d)))) ≤ 3
  part_short c k d m some rest other =
      ⊎_elim
      (λ one. rw (base_of_one k d one) (no_more Product (Literal c) (Size k)))
      (λ more.
      rw (base_stays k d more)
      (⊎_elim
      (λ zero. by_some r c k d 3 (λ l h. few r c k d l) law.ZeroTimes (zero_law r c k d (sym (eqb-true 0 c zero))))
      (λ many. by_some r c k d 3 (λ l h. few r c k d l) law.ScaledSize (part_law r c k d m some (above c d some rest other (no_zero c many)) rest))
      (cases_Bool (0 == c))))
      (cases_Bool (1 == d))

  quotient_short : (k d : ℕ) → nodes (tabled r (Binary Quotient (Size k) (Literal d))) ≤ short_nodes (Binary Quotient (Size k) (Literal d))
  quotient_short k d = go (d == 1) refl
    where
      go : (b : Bool) → (d == 1) ≡ b → nodes (tabled r (Binary Quotient (Size k) (Literal d))) ≤ (if b then 1 else 3)
      go true e = let f : (1 == d) ≡ true = eq-eqb 1 d (sym (eqb-true d 1 e)) in rw (base_of_one k d f) (omega arith)
      go false e = no_more Quotient (Size k) (Literal d)

  base_short : (c k d : ℕ) → is_multiple r (Size k) (Literal d) ≡ true → nodes (tabled r (Binary Product (Literal c) (Binary Quotient (Size k) (Literal d)))) ≤ short_nodes (Binary Product (Literal c) (Binary Quotient (Size k) (Literal d)))
  base_short c k d m = go (nat_lt 0 d && (c % d == 0)) refl
    where
      whole_or : (b : Bool) → (c == d) ≡ b → 0 < d → c % d ≡ 0 → nodes (tabled r (Binary Product (Literal c) (Binary Quotient (Size k) (Literal d)))) ≤ (if b then 1 else 3)
      whole_or true e some rest = whole_short c k d m (eqb-true c d e)
      whole_or false e some rest = part_short c k d m some rest (λ same. let f : (c == d) ≡ true = eq-eqb c d same in absurd (cc (e, f)))

      go : (b : Bool) → (nat_lt 0 d && (c % d == 0)) ≡ b → nodes (tabled r (Binary Product (Literal c) (Binary Quotient (Size k) (Literal d)))) ≤ (if b then (if c == d then 1 else 3) else (1 + short_nodes (Binary Quotient (Size k) (Literal d)) + 1))
      go true e = let parts = and_parts (nat_lt 0 d) (c % d == 0) e in whole_or (c == d) refl (ltb-true 0 d parts.0) (eqb-true (c % d) 0 parts.1)
      go false e = plain_short Product (Literal c) (Binary Quotient (Size k) (Literal d)) (omega arith) (quotient_short k d)

  product_short : (c : ℕ) (b : Expression) → AreDeclared r b → nodes (tabled r b) ≤ short_nodes b → nodes (tabled r (Binary Product (Literal c) b)) ≤ short_nodes (Binary Product (Literal c) b)
  product_short c (Binary Quotient (Size k) (Literal d)) all y = base_short c k d all.0
  product_short c b all y = other_short c b refl y

  binary_short : (o : Operation) (a b : Expression) → AreDeclared r (Binary o a b) → nodes (tabled r a) ≤ short_nodes a → nodes (tabled r b) ≤ short_nodes b → nodes (tabled r (Binary o a b)) ≤ short_nodes (Binary o a b)
  binary_short Product (Literal c) b all x y = product_short c b all.2 y
  binary_short Quotient (Size k) (Literal d) all x y = quotient_short k d
  binary_short o a b all x y = plain_short o a b x y

  pub tabled_is_short : (e : Expression) → AreDeclared r e → nodes (tabled r e) ≤ short_nodes e
  tabled_is_short (Variable k l g) all = omega arith
  tabled_is_short (Literal n) all = omega arith
  tabled_is_short (Size k) all = omega arith
  tabled_is_short (Binary o a b) all = binary_short o a b all (tabled_is_short a all.1) (tabled_is_short b all.2)
