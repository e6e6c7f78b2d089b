-- The values of what layouts make of indices, and of those in row-major order: no operation in them
-- wraps.
use Rattle.std.proofs.Common.{◌≡◌, ℕ, ℤ, pos, ◌+◌, ◌*◌, ◌-◌, ◌/◌, ◌%◌, ◌<◌, ◌≤◌, ◌^◌, ◌-ℤ◌, Bool, true, false, List, [], ◌∷◌, refl, sym, ap, ◌∙◌, subst, min, max, arith}
use Rattle.std.specs.Prelude.{◌&&◌, if◌then◌else◌, unsigned_abs}
use Rattle.std.specs.Int.{int_min, int_max}
use Rattle.std.proofs.lemmas.Bool.{and_parts}
use Rattle.std.proofs.lemmas.Int.{ints, clamps}
use Rattle.std.proofs.Math.Nat.{div-le_self, mod-le, mul-le-mul_left, mod-add-div'}
use Rattle.lift_ir.specs.Types.{Shape, Ty, Scalar, PairOf, ArrayOf, measured, size, flat, IsPosition, IsFlat}
use Rattle.lift_ir.proofs.Numbers.{flat_below}
use Rattle.index_expr.specs.declared.operation.Operation.{Operation}
use Rattle.index_expr.specs.declared.operation.Operation.TheVariants.{Sum, Difference, Product, Quotient, Remainder, Least, Greatest}
use Rattle.index_expr.specs.Expression.{Expression, Literal, Binary}
use Rattle.index_expr.specs.Values.{exact, operate, Divides, WantsWords, IsWord}
use Rattle.index_simplify.specs.Laws.{first_part}
use Rattle.index_simplify.specs.Tests.{same}
use Rattle.index_simplify.specs.Promises.{SameExpressionsHaveOneValue}
use Rattle.array_views.specs.Layouts.{are_parts, cell_in_rows}
use Rattle.array_views.specs.Accesses.{row_major, row_major_from}
use Rattle.array_views.specs.Cells.{number_at, IsIndex, AreIndices, HasLengths}

word_of : (z : ℤ) (n : ℕ) → z ≡ pos n → n < 2 ^ 32 → IsWord z
word_of z n e lt = subst IsWord (sym e) (omega (arith, ints), omega (arith, ints))

word_below : (n : ℕ) → IsWord (pos n) → n < 2 ^ 32
word_below n w = let a = w.1 in omega (arith, ints)

max_is : (x y : ℕ) → int_max (pos x) (pos y) ≡ pos (max x y)
max_is x y = omega (arith, ints, clamps)

min_is : (x y : ℕ) → int_min (pos x) (pos y) ≡ pos (min x y)
min_is x y = omega (arith, ints, clamps)

less_is : (x y : ℕ) → y ≤ x → pos x -ℤ pos y ≡ pos (x - y)
less_is x y le = omega (arith, ints)

module _ (sizes variables : List ℕ) where
  abbrev num : Expression → ℕ
  num = number_at sizes variables

  pub fits : (e : Expression) (n : ℕ) → IsIndex sizes variables e n → n < 2 ^ 32
  fits e n h = word_below n (subst IsWord h.value h.ranged.1)

  pub literal : (n : ℕ) → n < 2 ^ 32 → IsIndex sizes variables (Literal n) n
  literal n lt = record { value = refl; ranged = (tt, word_of (pos n) n refl lt); divisors = tt }

  -- an operation that may wrap, where it doesn't
  plain : (o : Operation) (a b : Expression) (m n k : ℕ) → (WantsWords o → ⊥) → (Divides o → ⊥) → IsIndex sizes variables a m → IsIndex sizes variables b n → operate o (pos m) (pos n) ≡ pos k → k < 2 ^ 32 → IsIndex sizes variables (Binary o a b) k
  plain o a b m n k words divides x y e lt =
      let value : operate o (exact sizes variables a) (exact sizes variables b) ≡ pos k = ap (λ z. operate o z (exact sizes variables b)) x.value ∙ ap (λ z. operate o (pos m) z) y.value ∙ e in
      record { value = value; ranged = ((λ w. absurd (words w), x.ranged.0, y.ranged.0), word_of _ k value lt); divisors = (λ d. absurd (divides d), x.divisors, y.divisors) }

  -- one of words
  of_words : (o : Operation) (a b : Expression) (m n k : ℕ) → (Divides o → 0 < n) → IsIndex sizes variables a m → IsIndex sizes variables b n → operate o (pos m) (pos n) ≡ pos k → k < 2 ^ 32 → IsIndex sizes variables (Binary o a b) k
  of_words o a b m n k some x y e lt =
      let value : operate o (exact sizes variables a) (exact sizes variables b) ≡ pos k = ap (λ z. operate o z (exact sizes variables b)) x.value ∙ ap (λ z. operate o (pos m) z) y.value ∙ e in
      record {
        value = value;
        ranged = ((λ w. (x.ranged.1, y.ranged.1), x.ranged.0, y.ranged.0), word_of _ k value lt);
        divisors = (λ d zero. (let h = some d in let same : n ≡ 0 = ap unsigned_abs (sym y.value ∙ zero) in absurd (omega arith)), x.divisors, y.divisors);
      }

  -- a step of an index: i * m + j
  step : (f g h : Expression) (i m j : ℕ) → IsIndex sizes variables f i → IsIndex sizes variables g m → IsIndex sizes variables h j → i * m + j < 2 ^ 32 → IsIndex sizes variables (Binary Sum (Binary Product f g) h) (i * m + j)
  step f g h i m j a b c lt = plain Sum (Binary Product f g) h (i * m) j (i * m + j) (λ w. w) (λ d. d) (plain Product f g i m (i * m) (λ w. w) (λ d. d) a b refl (omega arith)) c refl lt

  -- ---- the row and the column of one index
  natural_of : (z : ℤ) → IsWord z → (v : ℕ) × (z ≡ pos v)
  natural_of (pos v) w = (v, refl)
  natural_of _ w = absurd (omega (arith, ints, w.0))

  -- of its quotient and its remainder an index is known
  divided : (e n f k : Expression) (i m j : ℕ) → exact sizes variables n ≡ pos m → exact sizes variables k ≡ pos m → exact sizes variables e ≡ exact sizes variables f → IsIndex sizes variables (Binary Quotient e n) i → IsIndex sizes variables (Binary Remainder f k) j → IsIndex sizes variables e (i * m + j)
  divided e n f k i m j n_is k_is same_value a b =
      let w = natural_of (exact sizes variables e) (a.ranged.0.0 tt).0 in
      let x = w.0 in
      let row : x / m ≡ i = ap unsigned_abs (sym (ap (λ z. operate Quotient z (exact sizes variables n)) w.1 ∙ ap (operate Quotient (pos x)) n_is) ∙ a.value) in
      let column : x % m ≡ j = ap unsigned_abs (sym (ap (λ z. operate Remainder z (exact sizes variables k)) (sym same_value ∙ w.1) ∙ ap (operate Remainder (pos x)) k_is) ∙ b.value) in
      record {
        value = w.1 ∙ ap pos (sym (mod-add-div' x m) ∙ ap (λ z. z + x / m * m) column ∙ ap (λ z. j + z * m) row ∙ turned i m j);
        ranged = (a.ranged.0.1, (a.ranged.0.0 tt).0);
        divisors = a.divisors.1;
      }
    where
      turned : (i m j : ℕ) → j + i * m ≡ i * m + j
      turned i m j = omega arith

  whole : SameExpressionsHaveOneValue → (f g h : Expression) (i m j : ℕ) → are_parts f g h ≡ true → IsIndex sizes variables f i → IsIndex sizes variables g m → IsIndex sizes variables h j → IsIndex sizes variables (first_part f) (i * m + j)
  whole one_value (Binary Quotient e n) g (Binary Remainder f k) i m j p a c b =
      let front = and_parts (same e f && same n g) (same k g) p in
      let x = and_parts (same e f) (same n g) front.0 in
      divided e n f k i m j (one_value sizes variables n g x.1 ∙ c.value) (one_value sizes variables k g front.1 ∙ c.value) (one_value sizes variables e f x.0) a b
  whole one_value _ _ _ i m j p a c b = absurd (cc p)

  -- the index of a column in a row
  pub cell : SameExpressionsHaveOneValue → (f g h : Expression) (i m j : ℕ) → IsIndex sizes variables f i → IsIndex sizes variables g m → IsIndex sizes variables h j → i * m + j < 2 ^ 32 → IsIndex sizes variables (cell_in_rows f g h) (i * m + j)
  cell one_value f g h i m j a c b lt = go (are_parts f g h) refl
    where
      go : (z : Bool) → are_parts f g h ≡ z → IsIndex sizes variables (if z then first_part f else Binary Sum (Binary Product f g) h) (i * m + j)
      go true e = whole one_value f g h i m j e a c b
      go false e = step f g h i m j a c b lt

  pub parts : (f g : Expression) (i m : ℕ) → 0 < m → IsIndex sizes variables f i → IsIndex sizes variables g m → IsIndex sizes variables (Binary Quotient f g) (i / m) × IsIndex sizes variables (Binary Remainder f g) (i % m)
  parts f g i m some a b =
      let lt = fits f i a in
      let q = div-le_self i m in
      let r = mod-le i m in
      (of_words Quotient f g i m (i / m) (λ d. some) a b refl (omega arith), of_words Remainder f g i m (i % m) (λ d. some) a b refl (omega arith))

  pub clamp : (f g : Expression) (i l n : ℕ) → IsIndex sizes variables f i → IsIndex sizes variables g n → l < 2 ^ 32 → 0 < n → IsIndex sizes variables (Binary Least (Binary Difference (Binary Greatest f (Literal l)) (Literal l)) (Binary Difference g (Literal 1))) (min (max i l - l) (n - 1))
  clamp f g i l n a b small some =
      let x = fits f i a in
      let y = fits g n b in
      let left = literal l small in
      let past = of_words Greatest f (Literal l) i l (max i l) (λ d. absurd d) a left (max_is i l) (omega arith) in
      let back = plain Difference (Binary Greatest f (Literal l)) (Literal l) (max i l) l (max i l - l) (λ w. w) (λ d. d) past left (less_is (max i l) l (omega arith)) (omega arith) in
      let last = plain Difference g (Literal 1) n 1 (n - 1) (λ w. w) (λ d. d) b (literal 1 (omega arith)) (less_is n 1 (omega arith)) (omega arith) in
      of_words Least (Binary Difference (Binary Greatest f (Literal l)) (Literal l)) (Binary Difference g (Literal 1)) (max i l - l) (n - 1) (min (max i l - l) (n - 1)) (λ d. absurd d) back last (min_is (max i l - l) (n - 1)) (omega arith)

  pub turn : (f g : Expression) (i n : ℕ) → IsIndex sizes variables f i → IsIndex sizes variables g n → i < n → IsIndex sizes variables (Binary Difference (Binary Difference g (Literal 1)) f) (n - 1 - i)
  turn f g i n a b lt =
      let y = fits g n b in
      let last = plain Difference g (Literal 1) n 1 (n - 1) (λ w. w) (λ d. d) b (literal 1 (omega arith)) (less_is n 1 (omega arith)) (omega arith) in
      plain Difference (Binary Difference g (Literal 1)) f (n - 1) i (n - 1 - i) (λ w. w) (λ d. d) last a (less_is (n - 1) i (omega arith)) (omega arith)

  -- ---- the number of a scalar
  regroup : (i m j s f : ℕ) → (i * m + j) * s + f ≡ i * (m * s) + (j * s + f)
  regroup i m j s f = let e : (i * m + j) * s ≡ i * (m * s) + j * s = grind arith in omega arith

  size_pos : (t : Ty) (cs : List Bool) (q : List ℕ) → IsFlat t → IsPosition t cs q → 1 ≤ size t
  size_pos t cs q f w = let a = flat_below t cs q f w in omega arith

  from_exact : (f : Expression) (i : ℕ) (s : Shape Expression) (cs : List Bool) (is : List Expression) (q : List ℕ) → IsFlat (measured num s) → HasLengths sizes variables s → IsPosition (measured num s) cs q → IsIndex sizes variables f i → i * size (measured num s) + flat (measured num s) q < 2 ^ 32 → AreIndices sizes variables is q → IsIndex sizes variables (row_major_from f s is) (i * size (measured num s) + flat (measured num s) q)
  from_exact f i Scalar cs is q e h w a lt g = subst (IsIndex sizes variables f) (let one : i ≡ i * 1 + 0 = omega arith in one) a
  from_exact f i (PairOf x y) cs is q e h w a lt g = subst (IsIndex sizes variables f) (let one : i ≡ i * 1 + 0 = omega arith in one) a
  from_exact f i (ArrayOf m t) cs is [] e h w a lt g = absurd w
  from_exact f i (ArrayOf m t) cs [] (j ∷ q) e h w a lt g = absurd g
  from_exact f i (ArrayOf m t) cs (k ∷ fs) (j ∷ q) e h w a lt g =
      let same = regroup i (num m) j (size (measured num t)) (flat (measured num t) q) in
      let n = i * num m + j in
      let more = mul-le-mul_left {m = 1} {n = size (measured num t)} n (size_pos (measured num t) cs q e w.1) in
      subst (IsIndex sizes variables (row_major_from f (ArrayOf m t) (k ∷ fs))) same
      (from_exact (Binary Sum (Binary Product f m) k) n t cs fs q e h.1 w.1 (step f m k i (num m) j a h.0 g.0 (omega arith)) (omega arith) g.1)

  pub row_major_exact : (s : Shape Expression) (cs : List Bool) (is : List Expression) (q : List ℕ) → IsFlat (measured num s) → size (measured num s) < 2 ^ 31 → HasLengths sizes variables s → IsPosition (measured num s) cs q → AreIndices sizes variables is q → IsIndex sizes variables (row_major s is) (flat (measured num s) q)
  row_major_exact Scalar cs is q e small h w g = literal 0 (omega arith)
  row_major_exact (PairOf a b) cs is q e small h w g = literal 0 (omega arith)
  row_major_exact (ArrayOf n t) cs is [] e small h w g = absurd w
  row_major_exact (ArrayOf n t) cs [] (i ∷ q) e small h w g = absurd g
  row_major_exact (ArrayOf n t) cs (f ∷ fs) (i ∷ q) e small h w g =
      let below = flat_below (measured num (ArrayOf n t)) cs (i ∷ q) e w in
      from_exact f i t cs fs q e h.1 w.1 g.0 (omega arith) g.1
