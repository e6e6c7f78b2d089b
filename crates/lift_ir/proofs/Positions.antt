-- Layouts, case by case: they lead positions of a type to positions of the operand's, and values on
-- nested lists as they lead positions.
use Rattle.std.proofs.Common.{◌≡◌, ℕ, zero, suc, ◌+◌, ◌-◌, ◌*◌, ◌/◌, ◌%◌, ◌<◌, ◌≤◌, Bool, true, false, List, [], ◌∷◌, refl, sym, ap, ◌∙◌, subst, arith, length, get_or, ⊎_elim}
use Rattle.std.proofs.Math.Nat.{mul-le-mul_right, mod-lt, div-lt_iff_lt-mul, mul-add-div_right, mul-add-mod_self_right, mod-eq_of_lt, div-eq_of_lt, mul-div_cancel}
use Rattle.std.specs.Prelude.{map, min, max, reverse}
use Rattle.std.proofs.lemmas.List.{get_or-reverse, length-reverse}
use Rattle.lift_tree.specs.Values.{Value, Word, members, array}
use Rattle.lift_tree.specs.Lists.{concat, pieces, pieces_that_fit, padded, width, columns, strided}
use Rattle.lift_tree.specs.Meaning.{rows, array_of_rows, World, meaning, product_at}
use Rattle.lift_tree.specs.Tree.{Tree}
use Rattle.lift_tree.proofs.Members.{length-map, length-columns, length-padded}
use Rattle.lift_tree.proofs.Strides.{rows_array, strided_through}
use Rattle.lift_ir.specs.Types.{Ty, Scalar, PairOf, ArrayOf, IsPosition, IsWords}
use Rattle.lift_ir.specs.Layouts.{Layout, Split, Join, Transpose, Reverse, Slide, Pad, operand_position, Reshapes, result_position, IsInvertible}
use Rattle.lift_ir.specs.Scalars.{at_index, Scalars, HasScalars}
use Rattle.lift_ir.specs.Sources.{IsJoin, IsLayout}
use Rattle.lift_ir.proofs.Nested.{at_padded, column_at, concat_at, concat_long, is_as, members_of, pieces_is, row_at, width_is}

-- an element has one scalar a component
pub element_position : (t : Ty) (cs : List Bool) (q : List ℕ) → IsWords t → IsPosition t cs q → q ≡ []
element_position Scalar [] [] e w = refl
element_position Scalar [] (i ∷ q) e w = absurd w
element_position Scalar (c ∷ cs) q e w = absurd w
element_position (PairOf a b) [] q e w = absurd w
element_position (PairOf a b) (false ∷ cs) q e w = element_position a cs q e.0 w
element_position (PairOf a b) (true ∷ cs) q e w = element_position b cs q e.1 w
element_position (ArrayOf n t) cs q e w = absurd e

-- ---- positions
split_in : (i j m n : ℕ) → n / m * m ≡ n → i < n / m → j < m → i * m + j < n
split_in i j m n e a b = let h = mul-le-mul_right {m = suc i} {n = n / m} m a in omega arith

slide_in : (i j s t n : ℕ) → s ≤ n → (n - s) / t * t ≡ n - s → i < (n - s) / t + 1 → j < s → i * t + j < n
slide_in i j s t n a e h b = let c = mul-le-mul_right {m = i} {n = (n - s) / t} t (omega arith) in omega arith

relaid_in : (u v : Ty) (cs : List Bool) (q : List ℕ) → u ≡ v → IsPosition u cs q → IsPosition v cs q
relaid_in u v cs q e w = subst (λ t. IsPosition t cs q) e w

pub operand_in : {A : Type 0} (num : A → ℕ) (l : Layout A) (t u : Ty) (cs : List Bool) (q : List ℕ) → Reshapes num l t u → IsPosition u cs q → IsPosition t cs (operand_position num l q)
operand_in num (Split m) (ArrayOf n t) u cs q a w = go q (relaid_in u _ cs q a.2 w)
  where
    go : (q : List ℕ) → IsPosition (ArrayOf (n / (num m)) (ArrayOf (num m) t)) cs q → IsPosition (ArrayOf n t) cs (operand_position num (Split m) q)
    go [] w = absurd w
    go (i ∷ []) w = absurd w.1
    go (i ∷ j ∷ q) w = (split_in i j (num m) n a.1 w.0 w.1.0, w.1.1)
operand_in num (Join m) (ArrayOf n (ArrayOf k t)) u cs q a w = go q (relaid_in u _ cs q a.2 w)
  where
    go : (q : List ℕ) → IsPosition (ArrayOf (n * (num m)) t) cs q → IsPosition (ArrayOf n (ArrayOf k t)) cs (operand_position num (Join m) q)
    go [] w = absurd w
    go (i ∷ q) w = ((div-lt_iff_lt-mul {k = num m} {x = i} {y = n} a.0).1 w.0, (let e = a.1 in let b = mod-lt i a.0 in omega arith, w.1))
operand_in num Transpose (ArrayOf n (ArrayOf m t)) u cs q a w = go q (relaid_in u _ cs q a.1 w)
  where
    go : (q : List ℕ) → IsPosition (ArrayOf m (ArrayOf n t)) cs q → IsPosition (ArrayOf n (ArrayOf m t)) cs (operand_position num Transpose q)
    go [] w = absurd w
    go (i ∷ []) w = absurd w.1
    go (i ∷ j ∷ q) w = (w.1.0, (w.0, w.1.1))
operand_in num (Reverse k) (ArrayOf n t) u cs q a w = go q (relaid_in u _ cs q a.1 w)
  where
    go : (q : List ℕ) → IsPosition (ArrayOf n t) cs q → IsPosition (ArrayOf n t) cs (operand_position num (Reverse k) q)
    go [] w = absurd w
    go (i ∷ q) w = (let e = a.0 in let h = w.0 in omega arith, w.1)
operand_in num (Slide s k) (ArrayOf n t) u cs q a w = go q (relaid_in u _ cs q a.3 w)
  where
    go : (q : List ℕ) → IsPosition (ArrayOf ((n - s) / k + 1) (ArrayOf s t)) cs q → IsPosition (ArrayOf n t) cs (operand_position num (Slide s k) q)
    go [] w = absurd w
    go (i ∷ []) w = absurd w.1
    go (i ∷ j ∷ q) w = (slide_in i j s k n a.1 a.2 w.0 w.1.0, w.1.1)
operand_in num (Pad x y k) (ArrayOf n t) u cs q a w = go q (relaid_in u _ cs q a.2 w)
  where
    go : (q : List ℕ) → IsPosition (ArrayOf (x + n + y) t) cs q → IsPosition (ArrayOf n t) cs (operand_position num (Pad x y k) q)
    go [] w = absurd w
    go (i ∷ q) w = (let p = a.0 in let e = a.1 in let h = w.0 in omega arith, w.1)
operand_in num _ t u cs q a w = absurd (assumption)

row_in : (i m n : ℕ) → n / m * m ≡ n → 0 < m → i < n → i / m < n / m
row_in i m n e a h = (div-lt_iff_lt-mul {k = m} {x = i} {y = n / m} a).1 (omega arith)

pub join_in : (i j m n : ℕ) → i < n → j < m → i * m + j < n * m
join_in i j m n a b = let h = mul-le-mul_right {m = suc i} {n = n} m a in omega arith

small : (i j m : ℕ) → j < m → i + j / m ≡ i
small i j m h = let z = div-eq_of_lt h in omega arith

pub quotient : (i j m : ℕ) → j < m → (i * m + j) / m ≡ i
quotient i j m h = mul-add-div_right (omega arith) i j ∙ (let e : i + j / m ≡ i = small i j m h in e)

pub remainder : (i j m : ℕ) → j < m → (i * m + j) % m ≡ j
remainder i j m h = mul-add-mod_self_right i m j ∙ mod-eq_of_lt h

pub whole : (i m : ℕ) → 0 < m → i / m * m + i % m ≡ i
whole i m h = omega arith

-- both parts of a product that isn't 0
pub some_first : (m q n : ℕ) → n ≡ m * q → 0 < n → 0 < m
some_first zero q n e h = let z : 0 * q ≡ 0 = omega arith in absurd (omega arith)
some_first (suc m) q n e h = omega arith

pub some_second : (m q n : ℕ) → n ≡ m * q → 0 < n → 0 < q
some_second m zero n e h = let z : m * 0 ≡ 0 = omega arith in absurd (omega arith)
some_second m (suc q) n e h = omega arith

back_again : (i k n : ℕ) → k ≡ n → i < n → k - 1 - (k - 1 - i) ≡ i
back_again i k n e h = omega arith

-- the position of the whole, for one of the operand's, in writing
pub result_in : {A : Type 0} (num : A → ℕ) (l : Layout A) (t u : Ty) (cs : List Bool) (q : List ℕ) → IsInvertible l → Reshapes num l t u → IsPosition t cs q → IsPosition u cs (result_position num l q) × (operand_position num l (result_position num l q) ≡ q)
result_in num (Split m) (ArrayOf n t) u cs [] z a w = absurd w
result_in num (Split m) (ArrayOf n t) u cs (i ∷ q) z a w = (relaid_in _ u cs _ (sym a.2) (row_in i (num m) n a.1 a.0 w.0, (mod-lt i a.0, w.1)), ap (λ x. x ∷ q) (whole i (num m) a.0))
result_in num (Join m) (ArrayOf n (ArrayOf k t)) u cs [] z a w = absurd w
result_in num (Join m) (ArrayOf n (ArrayOf k t)) u cs (i ∷ []) z a w = absurd w.1
result_in num (Join m) (ArrayOf n (ArrayOf k t)) u cs (i ∷ j ∷ q) z a w =
    let e = a.1 in
    let lt : j < (num m) = let b = w.1.0 in omega arith in
    (relaid_in _ u cs _ (sym a.2) (join_in i j (num m) n w.0 lt, w.1.1), ap (λ x. x ∷ (i * (num m) + j) % (num m) ∷ q) (quotient i j (num m) lt) ∙ ap (λ x. i ∷ x ∷ q) (remainder i j (num m) lt))
result_in num Transpose (ArrayOf n (ArrayOf m t)) u cs [] z a w = absurd w
result_in num Transpose (ArrayOf n (ArrayOf m t)) u cs (i ∷ []) z a w = absurd w.1
result_in num Transpose (ArrayOf n (ArrayOf m t)) u cs (i ∷ j ∷ q) z a w = (relaid_in _ u cs _ (sym a.1) (w.1.0, (w.0, w.1.1)), refl)
result_in num (Reverse k) (ArrayOf n t) u cs [] z a w = absurd w
result_in num (Reverse k) (ArrayOf n t) u cs (i ∷ q) z a w = (relaid_in _ u cs _ (sym a.1) (let e = a.0 in let h = w.0 in omega arith, w.1), ap (λ x. x ∷ q) (back_again i (num k) n a.0 w.0))
result_in num (Slide s k) t u cs q z a w = absurd z
result_in num (Pad x y k) t u cs q z a w = absurd z
result_in num _ t u cs q z a w = absurd (assumption)

pub result_operand : {A : Type 0} (num : A → ℕ) (l : Layout A) (t u : Ty) (cs : List Bool) (q : List ℕ) → IsInvertible l → Reshapes num l t u → IsPosition u cs q → result_position num l (operand_position num l q) ≡ q
result_operand num (Split m) (ArrayOf n t) u cs q z a w = go q (relaid_in u _ cs q a.2 w)
  where
    go : (q : List ℕ) → IsPosition (ArrayOf (n / (num m)) (ArrayOf (num m) t)) cs q → result_position num (Split m) (operand_position num (Split m) q) ≡ q
    go [] w = absurd w
    go (i ∷ []) w = absurd w.1
    go (i ∷ j ∷ q) w = ap (λ x. x ∷ (i * (num m) + j) % (num m) ∷ q) (quotient i j (num m) w.1.0) ∙ ap (λ x. i ∷ x ∷ q) (remainder i j (num m) w.1.0)
result_operand num (Join m) (ArrayOf n (ArrayOf k t)) u cs q z a w = go q (relaid_in u _ cs q a.2 w)
  where
    go : (q : List ℕ) → IsPosition (ArrayOf (n * (num m)) t) cs q → result_position num (Join m) (operand_position num (Join m) q) ≡ q
    go [] w = absurd w
    go (i ∷ q) w = ap (λ x. x ∷ q) (whole i (num m) a.0)
result_operand num Transpose (ArrayOf n (ArrayOf m t)) u cs q z a w = go q (relaid_in u _ cs q a.1 w)
  where
    go : (q : List ℕ) → IsPosition (ArrayOf m (ArrayOf n t)) cs q → result_position num Transpose (operand_position num Transpose q) ≡ q
    go [] w = absurd w
    go (i ∷ []) w = absurd w.1
    go (i ∷ j ∷ q) w = refl
result_operand num (Reverse k) (ArrayOf n t) u cs q z a w = go q (relaid_in u _ cs q a.1 w)
  where
    go : (q : List ℕ) → IsPosition (ArrayOf n t) cs q → result_position num (Reverse k) (operand_position num (Reverse k) q) ≡ q
    go [] w = absurd w
    go (i ∷ q) w = ap (λ x. x ∷ q) (back_again i (num k) n a.0 w.0)
result_operand num (Slide s k) t u cs q z a w = absurd z
result_operand num (Pad x y k) t u cs q z a w = absurd z
result_operand num _ t u cs q z a w = absurd (assumption)

-- ---- values through layouts
split_room : (i m n : ℕ) → n / m * m ≡ n → i < n / m → i * m + m ≤ n
split_room i m n e a = let h = mul-le-mul_right {m = suc i} {n = n / m} m a in omega arith

pub split_is : {A : Type 0} (num : A → ℕ) (z : A) (n : ℕ) (t u : Ty) (v : Value) (s : Scalars) → Reshapes num (Split z) (ArrayOf n t) u → HasScalars (ArrayOf n t) v s → HasScalars u (array_of_rows (pieces (length (members v) / num z) (num z) (num z) (members v))) (λ cs q. s cs (operand_position num (Split z) q))
split_is num z n t u v s r h =
    let m = num z in
    let xs = h.0 in
    let e = members_of v xs h.1 in
    let f = pieces_is num t n (n / m) m m xs s h.2 (λ i a. split_room i m n r.1 a) h.3 in
    let g : array_of_rows (pieces (n / m) m m xs) ≡ array_of_rows (pieces (length (members v) / m) m m (members v)) =
    ap (λ k. array_of_rows (pieces (k / m) m m xs)) (sym h.2) ∙ ap (λ ys. array_of_rows (pieces (length ys / m) m m ys)) (sym e) in
    is_as (ArrayOf (n / m) (ArrayOf m t)) u _ _ r.2 (subst (λ y. HasScalars (ArrayOf (n / m) (ArrayOf m t)) y (λ cs q. s cs (operand_position num (Slide m m) q))) g f)

piece_in : (i k m n count : ℕ) → i < suc count → m ≤ n → count * k ≡ n - m → i * k + m ≤ n
piece_in i k m n count a le e = let h = mul-le-mul_right {m = i} {n = count} k (omega arith) in omega arith

fit_is : (m k n : ℕ) → 0 < k → m ≤ n → (n - m) / k * k ≡ n - m → (n + k - m) / k ≡ (n - m) / k + 1
fit_is m k n pos le e =
    let c = (n - m) / k in
    let z : n + k - m ≡ suc c * k = omega arith in
    ap (λ x. x / k) z ∙ mul-div_cancel (suc c) pos ∙ (let y : suc c ≡ c + 1 = omega arith in y)

pub slide_is : {A : Type 0} (num : A → ℕ) (m k n : ℕ) (t u : Ty) (v : Value) (s : Scalars) → Reshapes num (Slide m k) (ArrayOf n t) u → HasScalars (ArrayOf n t) v s → HasScalars u (array_of_rows (pieces (pieces_that_fit m k (length (members v))) m k (members v))) (λ cs q. s cs (operand_position num (Slide m k) q))
slide_is num m k n t u v s r h =
    let xs = h.0 in
    let e = members_of v xs h.1 in
    let count = (n - m) / k in
    let f = pieces_is num t n (count + 1) m k xs s h.2 (λ i a. piece_in i k m n count (omega arith) r.1 r.2) h.3 in
    let g : array_of_rows (pieces (count + 1) m k xs) ≡ array_of_rows (pieces (pieces_that_fit m k (length (members v))) m k (members v)) =
    ap (λ c. array_of_rows (pieces c m k xs)) (sym (fit_is m k n r.0 r.1 r.2)) ∙ ap (λ y. array_of_rows (pieces (pieces_that_fit m k y) m k xs)) (sym h.2) ∙ ap (λ ys. array_of_rows (pieces (pieces_that_fit m k (length ys)) m k ys)) (sym e) in
    is_as (ArrayOf (count + 1) (ArrayOf m t)) u _ _ r.3 (subst (λ y. HasScalars (ArrayOf (count + 1) (ArrayOf m t)) y (λ cs q. s cs (operand_position num (Slide m k) q))) g f)

pub join_is : {A : Type 0} (num : A → ℕ) (z : A) (n k : ℕ) (t u : Ty) (v : Value) (s : Scalars) → Reshapes num (Join z) (ArrayOf n (ArrayOf k t)) u → HasScalars (ArrayOf n (ArrayOf k t)) v s → HasScalars u (array (concat (rows v))) (λ cs q. s cs (operand_position num (Join z) q))
join_is num z n k t u v s r h =
    let m = num z in
    let xs = h.0 in
    let e = members_of v xs h.1 in
    let row = λ (i : ℕ) (lt : i < n). h.3 i lt in
    let row_items = λ (i : ℕ) (lt : i < n). members_of (get_or xs i (Word 0)) (row i lt).0 (row i lt).1 in
    let row_len = λ (i : ℕ) (lt : i < length xs). let lt2 : i < n = (let z = h.2 in omega arith) in ap length (row_items i lt2) ∙ (row i lt2).2 ∙ r.1 in
    let f : HasScalars (ArrayOf (n * m) t) (array (concat (map members xs))) (λ cs q. s cs (operand_position num (Join z) q)) = (
      concat (map members xs),
      refl,
      concat_long m xs row_len ∙ ap (λ y. y * m) h.2,
      λ i lt.
          let a = i / m in
          let b = i % m in
          let alt : a < n = (div-lt_iff_lt-mul {k = m} {x = i} {y = n} r.0).1 lt in
          let blt : b < m = mod-lt i r.0 in
          let al : a < length xs = (let z = h.2 in omega arith) in
          let get : get_or (concat (map members xs)) i (Word 0) ≡ get_or (row a alt).0 b (Word 0) =
          ap (λ z. get_or (concat (map members xs)) z (Word 0)) (sym (whole i m r.0)) ∙ concat_at m xs a b row_len al blt ∙ ap (λ ys. get_or ys b (Word 0)) (row_items a alt) in
          subst (λ y. HasScalars t y (λ cs q. s cs (a ∷ b ∷ q))) (sym get) ((row a alt).3 b (let z = r.1 in omega arith)),
    ) in
    is_as (ArrayOf (n * m) t) u _ _ r.2 (subst (λ ys. HasScalars (ArrayOf (n * m) t) (array (concat (map members ys))) (λ cs q. s cs (operand_position num (Join z) q))) (sym e) f)

pub transpose_is : {A : Type 0} (num : A → ℕ) (n m : ℕ) (t u : Ty) (v : Value) (s : Scalars) → Reshapes num Transpose (ArrayOf n (ArrayOf m t)) u → HasScalars (ArrayOf n (ArrayOf m t)) v s → HasScalars u (array_of_rows (columns (width (rows v)) (rows v))) (λ cs q. s cs (operand_position num Transpose q))
transpose_is num n m t u v s r h =
    let xs = h.0 in
    let e = members_of v xs h.1 in
    let row = λ (i : ℕ) (lt : i < n). h.3 i lt in
    let row_items = λ (i : ℕ) (lt : i < n). members_of (get_or xs i (Word 0)) (row i lt).0 (row i lt).1 in
    let rs = map members xs in
    let wide : width rs ≡ m = width_is xs (let z = h.2 in let p = r.0 in omega arith) ∙ ap length (row_items 0 r.0) ∙ (row 0 r.0).2 in
    let f : HasScalars (ArrayOf m (ArrayOf n t)) (array_of_rows (columns m rs)) (λ cs q. s cs (operand_position num Transpose q)) = (
      map array (columns m rs),
      refl,
      length-map array (columns m rs) ∙ length-columns m rs,
      λ j jlt.
          let c = column_at m j rs jlt in
          let long = length-map members xs in (
            c.0,
            c.1,
            c.2 ∙ long ∙ h.2,
            λ i lt.
                let get : get_or c.0 i (Word 0) ≡ get_or (row i lt).0 j (Word 0) = c.3 i (let z = h.2 in omega arith) ∙ ap (λ y. get_or y j (Word 0)) (row_at xs i (let z = h.2 in omega arith) ∙ row_items i lt) in
                subst (λ y. HasScalars t y (λ cs q. s cs (i ∷ j ∷ q))) (sym get) ((row i lt).3 j jlt),
          ),
    ) in
    let g : array_of_rows (columns m rs) ≡ array_of_rows (columns (width (rows v)) (rows v)) = ap (λ c. array_of_rows (columns c rs)) (sym wide) ∙ ap (λ ys. array_of_rows (columns (width (map members ys)) (map members ys))) (sym e) in
    is_as (ArrayOf m (ArrayOf n t)) u _ _ r.1 (subst (λ y. HasScalars (ArrayOf m (ArrayOf n t)) y (λ cs q. s cs (operand_position num Transpose q))) g f)

pub pad_is : {A : Type 0} (num : A → ℕ) (a b : ℕ) (k : A) (n : ℕ) (t u : Ty) (v : Value) (s : Scalars) → Reshapes num (Pad a b k) (ArrayOf n t) u → HasScalars (ArrayOf n t) v s → HasScalars u (array (padded a b (members v))) (λ cs q. s cs (operand_position num (Pad a b k) q))
pad_is num a b k n t u v s r h =
    let xs = h.0 in
    let e = members_of v xs h.1 in
    let f : HasScalars (ArrayOf (a + n + b) t) (array (padded a b xs)) (λ cs q. s cs (operand_position {A = ℕ} (λ z. z) (Pad a b n) q)) = (
      padded a b xs,
      refl,
      length-padded a b xs ∙ ap (λ y. a + y + b) h.2,
      λ i lt. subst (λ y. HasScalars t y (at_index (min (max i a - a) (n - 1)) s)) (sym (at_padded a b xs i n h.2 r.0 lt)) (h.3 (min (max i a - a) (n - 1)) (let z = r.0 in omega arith)),
    ) in
    let f2 = subst (λ y. HasScalars (ArrayOf (a + n + b) t) (array (padded a b xs)) (λ cs q. s cs (operand_position {A = ℕ} (λ z. z) (Pad a b y) q))) (sym r.1) f in
    is_as (ArrayOf (a + n + b) t) u _ _ r.2 (subst (λ ys. HasScalars (ArrayOf (a + n + b) t) (array (padded a b ys)) (λ cs q. s cs (operand_position num (Pad a b k) q))) (sym e) f2)

pub reverse_is : {A : Type 0} (num : A → ℕ) (k : A) (n : ℕ) (t u : Ty) (v : Value) (s : Scalars) → Reshapes num (Reverse k) (ArrayOf n t) u → HasScalars (ArrayOf n t) v s → HasScalars u (array (reverse (members v))) (λ cs q. s cs (operand_position num (Reverse k) q))
reverse_is num k n t u v s r h =
    let xs = h.0 in
    let e = members_of v xs h.1 in
    let f : HasScalars (ArrayOf n t) (array (reverse xs)) (λ cs q. s cs (operand_position num (Reverse k) q)) = (
      reverse xs,
      refl,
      length-reverse xs ∙ h.2,
      λ i lt.
          let z = h.2 in
          let y = r.0 in
          subst (λ x. HasScalars t x (at_index (num k - 1 - i) s)) (sym (get_or-reverse xs i (Word 0) (omega arith) ∙ ap (λ j. get_or xs j (Word 0)) (let p : length xs - 1 - i ≡ num k - 1 - i = omega arith in p))) (h.3 (num k - 1 - i) (omega arith)),
    ) in
    is_as (ArrayOf n t) u _ _ r.1 (subst (λ ys. HasScalars (ArrayOf n t) (array (reverse ys)) (λ cs q. s cs (operand_position num (Reverse k) q))) (sym e) f)

-- a stride is the join of its split's transposition
pub stride_is : (k : ℕ) (xs : List Value) → let split = array_of_rows (pieces (length xs / k) k k xs) in array (strided k xs) ≡ array (concat (rows (array_of_rows (columns (width (rows split)) (rows split)))))
stride_is k xs =
    let rs = pieces (length xs / k) k k xs in
    let split = rows (array_of_rows rs) in
    ap array (sym (strided_through k xs) ∙ sym (ap (λ ys. concat (columns (width ys) ys)) (rows_array rs)) ∙ sym (ap concat (rows_array (columns (width split) split))))

module _ {A : Type 0} (num : A → ℕ) (w : World) where
  joined : (vs : List Value) (x y : Tree) → IsJoin x y → meaning w vs x ≡ array (concat (rows (meaning w vs y)))
  joined vs x y i =
      ⊎_elim
      (λ e. ap (meaning w vs) e)
      (λ j. ⊎_elim (λ e. ap (meaning w vs) e) (λ s. ap (meaning w vs) s.2 ∙ stride_is (product_at w.sizes s.0) (members (meaning w vs s.1)) ∙ ap (λ z. array (concat (rows (meaning w vs z)))) (sym s.3)) j)
      i

  pub laid_is : (vs : List Value) (l : Layout A) (x y : Tree) (t u : Ty) (s : Scalars) → IsLayout num w x l y → Reshapes num l t u → HasScalars t (meaning w vs y) s → HasScalars u (meaning w vs x) (λ cs q. s cs (operand_position num l q))
  laid_is vs (Split m) x y (ArrayOf n t) u s i r h =
      let v = meaning w vs y in
      ⊎_elim
      (λ i. subst (λ z. HasScalars u (meaning w vs z) (λ cs q. s cs (operand_position num (Split m) q))) (sym i.1)
      (subst (λ k. HasScalars u (array_of_rows (pieces (length (members v) / k) k k (members v))) (λ cs q. s cs (operand_position num (Split m) q))) (sym i.2) (split_is num m n t u v s r h)))
      (λ i. subst (λ z. HasScalars u (meaning w vs z) (λ cs q. s cs (operand_position num (Split m) q))) (sym i.0)
      (subst (λ k. HasScalars u (array_of_rows (pieces (length (members v) / k) k k (members v))) (λ cs q. s cs (operand_position num (Split m) q))) i.1 (split_is num m n t u v s r h)))
      i
  laid_is vs (Join m) x y (ArrayOf n (ArrayOf k t)) u s i r h = subst (λ z. HasScalars u z (λ cs q. s cs (operand_position num (Join m) q))) (sym (joined vs x y i)) (join_is num m n k t u (meaning w vs y) s r h)
  laid_is vs Transpose x y (ArrayOf n (ArrayOf m t)) u s i r h = subst (λ z. HasScalars u (meaning w vs z) (λ cs q. s cs (operand_position num Transpose q))) (sym i) (transpose_is num n m t u (meaning w vs y) s r h)
  laid_is vs (Reverse k) x y (ArrayOf n t) u s i r h = subst (λ z. HasScalars u (meaning w vs z) (λ cs q. s cs (operand_position num (Reverse k) q))) (sym i) (reverse_is num k n t u (meaning w vs y) s r h)
  laid_is vs (Slide m k) x y (ArrayOf n t) u s i r h = subst (λ z. HasScalars u (meaning w vs z) (λ cs q. s cs (operand_position num (Slide m k) q))) (sym i) (slide_is num m k n t u (meaning w vs y) s r h)
  laid_is vs (Pad a b k) x y (ArrayOf n t) u s i r h = subst (λ z. HasScalars u (meaning w vs z) (λ cs q. s cs (operand_position num (Pad a b k) q))) (sym i) (pad_is num a b k n t u (meaning w vs y) s r h)
  laid_is vs _ x y t u s i r h = absurd (assumption)
