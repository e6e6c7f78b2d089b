-- What is reversed, and what is gone through by a stride, by position; and a stride by the layouts
-- that it is made of.
use Rattle.std.proofs.Common.{◌≡◌, ℕ, zero, suc, ◌+◌, ◌-◌, ◌*◌, ◌/◌, ◌%◌, ◌<◌, ◌≤◌, List, [], ◌∷◌, ◌++◌, length, take, drop, refl, sym, ap, ◌∙◌, subst, arith}
use Rattle.std.specs.Prelude.{map, reverse, get_or, ◌⊎◌}
use Rattle.std.proofs.Math.Logic.{inl, inr}
use Rattle.std.proofs.Math.Nat.{div-eq_of_lt}
use Rattle.std.proofs.lemmas.Nat.{mul-le}
use Rattle.std.proofs.lemmas.List.{length-take-le, get_or-reverse}
use Rattle.lift_tree.specs.Values.{Value, Word, members, array, nth}
use Rattle.lift_tree.specs.Lists.{Every, concat, pieces, first_of, rest_of, width, columns, strided}
use Rattle.lift_tree.specs.Meaning.{rows, array_of_rows}
use Rattle.lift_tree.specs.Positions.{ReversesByPosition, StridesByPosition}
use Rattle.lift_tree.proofs.Members.{members-array, length-pieces, length-columns, columns_long}

le_or : (a b : ℕ) → a ≤ b ⊎ b < a
le_or zero b = inl (omega arith)
le_or (suc a) zero = inr (omega arith)
le_or (suc a) (suc b) = more (le_or a b)
  where
    more : a ≤ b ⊎ b < a → suc a ≤ suc b ⊎ suc b < suc a
    more (inl h) = inl (omega arith)
    more (inr h) = inr (omega arith)

-- ---- a stride by the layouts that it is made of
pub rows_array : (rs : List (List Value)) → rows (array_of_rows rs) ≡ rs
rows_array rs = ap (map members) (members-array (map array rs)) ∙ each rs
  where
    each : (rs : List (List Value)) → map members (map array rs) ≡ rs
    each [] = refl
    each (r ∷ rs) = ap (λ z. z ∷ map members (map array rs)) (members-array r) ∙ ap (λ zs. r ∷ zs) (each rs)

pub none_wide : (k : ℕ) → concat (columns k []) ≡ []
none_wide zero = refl
none_wide (suc k) = none_wide k

fits : (n k c : ℕ) → n / k ≡ suc c → k ≤ n
fits n k c e = cases (le_or k n)
  where
    cases : k ≤ n ⊎ n < k → k ≤ n
    cases (inl h) = h
    cases (inr h) = let z = div-eq_of_lt h in absurd (omega arith)

-- the width of the rows is the stride, or there are none
pub strided_through : (k : ℕ) (xs : List Value) → concat (columns (width (pieces (length xs / k) k k xs)) (pieces (length xs / k) k k xs)) ≡ strided k xs
strided_through k xs = go (length xs / k) refl
  where
    go : (c : ℕ) → length xs / k ≡ c → concat (columns (width (pieces c k k xs)) (pieces c k k xs)) ≡ concat (columns k (pieces c k k xs))
    go zero e = sym (none_wide k)
    go (suc c) e = ap (λ w. concat (columns w (pieces (suc c) k k xs))) (length-take-le k xs (fits (length xs) k c e))

-- ---- reverse by position
nth-get_or : (xs : List Value) (n : ℕ) → nth xs n ≡ get_or xs n (Word 0)
nth-get_or [] zero = refl
nth-get_or [] (suc n) = refl
nth-get_or (x ∷ xs) zero = refl
nth-get_or (x ∷ xs) (suc n) = nth-get_or xs n

pub reverses_by_position : ReversesByPosition
reverses_by_position xs i h = nth-get_or (reverse xs) i ∙ get_or-reverse xs i (Word 0) h ∙ sym (nth-get_or xs (length xs - 1 - i))

-- ---- stride by position
row_at : List (List Value) → ℕ → List Value
row_at [] n = []
row_at (r ∷ rs) zero = r
row_at (r ∷ rs) (suc n) = row_at rs n

nth-before : (xs ys : List Value) (n : ℕ) → n < length xs → nth (xs ++ ys) n ≡ nth xs n
nth-before [] ys n h = absurd (omega arith)
nth-before (x ∷ xs) ys zero h = refl
nth-before (x ∷ xs) ys (suc n) h = nth-before xs ys n (omega arith)

nth-behind : (xs ys : List Value) (n : ℕ) → nth (xs ++ ys) (length xs + n) ≡ nth ys n
nth-behind [] ys n = let e : 0 + n ≡ n = omega arith in ap (nth ys) e
nth-behind (x ∷ xs) ys n = let e : suc (length xs) + n ≡ suc (length xs + n) = omega arith in ap (nth (x ∷ xs ++ ys)) e ∙ nth-behind xs ys n

concat_at : (q : ℕ) (rs : List (List Value)) (c r : ℕ) → Every (λ x. length x ≡ q) rs → c < length rs → r < q → nth (concat rs) (c * q + r) ≡ nth (row_at rs c) r
unfolding row_at
concat_at q [] c r a h l = absurd (omega arith)
concat_at q (x ∷ rs) zero r a h l =
    let e : 0 * q + r ≡ r = omega arith in
    let long = a.0 in
    ap (nth (x ++ concat rs)) e ∙ nth-before x (concat rs) r (omega arith)
concat_at q (x ∷ rs) (suc c) r a h l =
    let long = a.0 in
    let e : suc c * q + r ≡ length x + (c * q + r) = omega arith in
    ap (nth (x ++ concat rs)) e ∙ nth-behind x (concat rs) (c * q + r) ∙ concat_at q rs c r a.1 (omega arith) l

columns_at : (m : ℕ) (rs : List (List Value)) (c : ℕ) → c < m → row_at (columns m rs) c ≡ map (λ r. nth r c) rs
unfolding row_at
columns_at zero rs c h = absurd (omega arith)
columns_at (suc m) rs zero h = heads rs
  where
    head : (r : List Value) → first_of r ≡ nth r 0
    head [] = refl
    head (x ∷ r) = refl

    heads : (rs : List (List Value)) → map first_of rs ≡ map (λ r. nth r 0) rs
    heads [] = refl
    heads (r ∷ rs) = ap (λ y. y ∷ map first_of rs) (head r) ∙ ap (λ ys. nth r 0 ∷ ys) (heads rs)
columns_at (suc m) rs (suc c) h = columns_at m (map rest_of rs) c (omega arith) ∙ rests rs
  where
    next : (r : List Value) → nth (rest_of r) c ≡ nth r (suc c)
    next [] = refl
    next (x ∷ r) = refl

    rests : (rs : List (List Value)) → map (λ r. nth r c) (map rest_of rs) ≡ map (λ r. nth r (suc c)) rs
    rests [] = refl
    rests (r ∷ rs) = ap (λ y. y ∷ map (λ r. nth r c) (map rest_of rs)) (next r) ∙ ap (λ ys. nth r (suc c) ∷ ys) (rests rs)

column_at : (c : ℕ) (rs : List (List Value)) (r : ℕ) → r < length rs → nth (map (λ x. nth x c) rs) r ≡ nth (row_at rs r) c
unfolding row_at
column_at c [] r h = absurd (omega arith)
column_at c (x ∷ rs) zero h = refl
column_at c (x ∷ rs) (suc r) h = column_at c rs r (omega arith)

nth_take : (k : ℕ) (xs : List Value) (c : ℕ) → c < k → nth (take k xs) c ≡ nth xs c
nth_take zero xs c h = absurd (omega arith)
nth_take (suc k) [] c h = refl
nth_take (suc k) (x ∷ xs) zero h = refl
nth_take (suc k) (x ∷ xs) (suc c) h = nth_take k xs c (omega arith)

nth_drop : (k : ℕ) (xs : List Value) (n : ℕ) → nth (drop k xs) n ≡ nth xs (k + n)
nth_drop zero xs n = let e : n ≡ 0 + n = omega arith in ap (nth xs) e
nth_drop (suc k) [] n = refl
nth_drop (suc k) (x ∷ xs) n = let e : suc (k + n) ≡ suc k + n = omega arith in nth_drop k xs n ∙ ap (nth (x ∷ xs)) e

piece_at : (q k : ℕ) (xs : List Value) (r c : ℕ) → r < q → c < k → nth (row_at (pieces q k k xs) r) c ≡ nth xs (r * k + c)
unfolding row_at
piece_at zero k xs r c h l = absurd (omega arith)
piece_at (suc q) k xs zero c h l = let e : c ≡ 0 * k + c = omega arith in nth_take k xs c l ∙ ap (nth xs) e
piece_at (suc q) k xs (suc r) c h l =
    let e : k + (r * k + c) ≡ suc r * k + c = omega arith in
    piece_at q k (drop k xs) r c (omega arith) l ∙ nth_drop k xs (r * k + c) ∙ ap (nth xs) e

some : (q k n i : ℕ) → q * k ≡ n → i < n → 0 < q
some zero k n i e h = absurd (omega arith)
some (suc q) k n i e h = omega arith

within : (q k n i : ℕ) → 0 < q → q * k ≡ n → i < n → i / q < k
within q k n i p e h = cases (le_or k (i / q))
  where
    cases : k ≤ i / q ⊎ i / q < k → i / q < k
    cases (inl g) = let a = mul-le q k q (i / q) (omega arith) g in absurd (omega arith)
    cases (inr g) = g

strided_at : (q k : ℕ) (xs : List Value) (i : ℕ) → 0 < q → q * k ≡ length xs → i < length xs → nth (concat (columns k (pieces q k k xs))) i ≡ nth xs (i % q * k + i / q)
strided_at q k xs i p e h =
    let rs = pieces q k k xs in
    let c = i / q in
    let r = i % q in
    let deep = length-pieces q k k xs in
    let wide = length-columns k rs in
    let inside : c < k = within q k (length xs) i p e h in
    let below : r < q = omega arith in
    let split : i ≡ c * q + r = omega arith in
    ap (nth (concat (columns k rs))) split
    ∙ concat_at q (columns k rs) c r (every_long rs deep) (omega arith) below
    ∙ ap (λ z. nth z r) (columns_at k rs c inside)
    ∙ column_at c rs r (omega arith)
    ∙ piece_at q k xs r c below inside
  where
    every_long : (rs : List (List Value)) → length rs ≡ q → Every (λ x. length x ≡ q) (columns k rs)
    every_long rs d = subst (λ z. Every (λ x. length x ≡ z) (columns k rs)) d (columns_long k rs)

pub strides_by_position : StridesByPosition
strides_by_position m xs i p e h = strided_at (length xs / m) m xs i (some (length xs / m) m (length xs) i e h) e h
