-- What lists keep through the patterns.
use Rattle.std.proofs.Common.{◌≡◌, ℕ, zero, suc, ◌+◌, ◌*◌, ◌≤◌, ◌<◌, List, [], ◌∷◌, ◌++◌, length, take, drop, refl, sym, ap, ◌∙◌, subst, arith, length-append, length-drop}
use Rattle.std.proofs.lemmas.List.{length-replicate, length-take-le}
use Rattle.std.proofs.lemmas.Grind.{reverse_onto}
use Rattle.std.specs.Prelude.{map, replicate, reverse, ◌/◌}
use Rattle.lift_tree.specs.Values.{Value, members, array}
use Rattle.lift_tree.specs.Lists.{Every, concat, pieces, first_of, rest_of, last_of, padded, columns, strided}

pub members-array : (xs : List Value) → members (array xs) ≡ xs
members-array [] = refl
members-array (x ∷ xs) = ap (λ ys. x ∷ ys) (members-array xs)

pub length-map : {A B : Type 0} (f : A → B) (xs : List A) → length (map f xs) ≡ length xs
length-map f [] = refl
length-map f (x ∷ xs) = ap suc (length-map f xs)

pub every_to : {A : Type 0} {p q : A → Type 0} → ((x : A) → p x → q x) → (xs : List A) → Every p xs → Every q xs
every_to h [] a = tt
every_to h (x ∷ xs) a = (h x a.0, every_to h xs a.1)

pub every-append : {A : Type 0} (p : A → Type 0) (xs ys : List A) → Every p xs → Every p ys → Every p (xs ++ ys)
every-append p [] ys a b = b
every-append p (x ∷ xs) ys a b = (a.0, every-append p xs ys a.1 b)

pub every-replicate : {A : Type 0} (p : A → Type 0) (n : ℕ) (x : A) → p x → Every p (replicate n x)
every-replicate p zero x a = tt
every-replicate p (suc n) x a = (a, every-replicate p n x a)

pub every_take : {A : Type 0} (p : A → Type 0) (n : ℕ) (xs : List A) → Every p xs → Every p (take n xs)
every_take p zero xs a = tt
every_take p (suc n) [] a = tt
every_take p (suc n) (x ∷ xs) a = (a.0, every_take p n xs a.1)

pub every_drop : {A : Type 0} (p : A → Type 0) (n : ℕ) (xs : List A) → Every p xs → Every p (drop n xs)
every_drop p zero xs a = a
every_drop p (suc n) [] a = tt
every_drop p (suc n) (x ∷ xs) a = every_drop p n xs a.1

pub every_map : {A B : Type 0} (p : A → Type 0) (q : B → Type 0) (f : A → B) (xs : List A) → ((x : A) → p x → q (f x)) → Every p xs → Every q (map f xs)
every_map p q f [] h a = tt
every_map p q f (x ∷ xs) h a = (h x a.0, every_map p q f xs h a.1)

pub every_and : {A : Type 0} (p q : A → Type 0) (xs : List A) → Every p xs → Every q xs → Every (λ x. p x × q x) xs
every_and p q [] a b = tt
every_and p q (x ∷ xs) a b = ((a.0, b.0), every_and p q xs a.1 b.1)

pub every-concat : {A : Type 0} (p : A → Type 0) (xss : List (List A)) → Every (Every p) xss → Every p (concat xss)
every-concat p [] a = tt
every-concat p (r ∷ rs) a = every-append p r (concat rs) a.0 (every-concat p rs a.1)

-- ---- pieces
pub length-pieces : {A : Type 0} (c s t : ℕ) (xs : List A) → length (pieces c s t xs) ≡ c
length-pieces zero s t xs = refl
length-pieces (suc c) s t xs = ap suc (length-pieces c s t (drop t xs))

pub pieces_long : {A : Type 0} (c s t : ℕ) (xs : List A) → c * t + s ≤ length xs + t → Every (λ r. length r ≡ s) (pieces c s t xs)
pieces_long zero s t xs h = tt
pieces_long (suc zero) s t xs h = (length-take-le s xs (omega arith), tt)
pieces_long (suc (suc c)) s t xs h = (length-take-le s xs (omega arith), pieces_long (suc c) s t (drop t xs) (omega (arith, length-drop t xs)))

pub every-pieces : {A : Type 0} (p : A → Type 0) (c s t : ℕ) (xs : List A) → Every p xs → Every (Every p) (pieces c s t xs)
every-pieces p zero s t xs a = tt
every-pieces p (suc c) s t xs a = (every_take p s xs a, every-pieces p c s t (drop t xs) (every_drop p t xs a))

-- ---- the first and the last
pub first_has : (p : Value → Type 0) (xs : List Value) → 0 < length xs → Every p xs → p (first_of xs)
first_has p [] h a = absurd (omega arith)
first_has p (x ∷ xs) h a = a.0

pub last_has : (p : Value → Type 0) (xs : List Value) → 0 < length xs → Every p xs → p (last_of xs)
last_has p [] h a = absurd (omega arith)
last_has p (x ∷ []) h a = a.0
last_has p (x ∷ y ∷ xs) h a = last_has p (y ∷ xs) (omega arith) a.1

pub length-padded : (l r : ℕ) (xs : List Value) → length (padded l r xs) ≡ l + length xs + r
length-padded l r xs =
    let a = length-append (replicate l (first_of xs) ++ xs) (replicate r (last_of xs)) in
    let b = length-append (replicate l (first_of xs)) xs in
    let c = length-replicate l (first_of xs) in
    let d = length-replicate r (last_of xs) in
    omega arith

pub every-padded : (p : Value → Type 0) (l r : ℕ) (xs : List Value) → 0 < length xs → Every p xs → Every p (padded l r xs)
every-padded p l r xs h a =
    every-append p (replicate l (first_of xs) ++ xs) (replicate r (last_of xs))
    (every-append p (replicate l (first_of xs)) xs (every-replicate p l (first_of xs) (first_has p xs h a)) a)
    (every-replicate p r (last_of xs) (last_has p xs h a))

-- ---- columns
pub length-columns : (m : ℕ) (rs : List (List Value)) → length (columns m rs) ≡ m
length-columns zero rs = refl
length-columns (suc m) rs = ap suc (length-columns m (map rest_of rs))

pub columns_long : (m : ℕ) (rs : List (List Value)) → Every (λ c. length c ≡ length rs) (columns m rs)
columns_long zero rs = tt
columns_long (suc m) rs = (length-map first_of rs, subst (λ n. Every (λ c. length c ≡ n) (columns m (map rest_of rs))) (length-map rest_of rs) (columns_long m (map rest_of rs)))

pub every-columns : (p : Value → Type 0) (m : ℕ) (rs : List (List Value)) → Every (λ r. (length r ≡ m) × Every p r) rs → Every (Every p) (columns m rs)
every-columns p zero rs a = tt
every-columns p (suc m) rs a = (heads m rs a, every-columns p m (map rest_of rs) (tails m rs a))
  where
    first_of_row : (m : ℕ) (r : List Value) → length r ≡ suc m → Every p r → p (first_of r)
    first_of_row m [] e a = absurd (omega arith)
    first_of_row m (x ∷ r) e a = a.0

    rest_of_row : (m : ℕ) (r : List Value) → length r ≡ suc m → Every p r → (length (rest_of r) ≡ m) × Every p (rest_of r)
    rest_of_row m [] e a = absurd (omega arith)
    rest_of_row m (x ∷ r) e a = (omega arith, a.1)

    heads : (m : ℕ) (rs : List (List Value)) → Every (λ r. (length r ≡ suc m) × Every p r) rs → Every p (map first_of rs)
    heads m [] a = tt
    heads m (r ∷ rs) a = (first_of_row m r a.0.0 a.0.1, heads m rs a.1)

    tails : (m : ℕ) (rs : List (List Value)) → Every (λ r. (length r ≡ suc m) × Every p r) rs → Every (λ r. (length r ≡ m) × Every p r) (map rest_of rs)
    tails m [] a = tt
    tails m (r ∷ rs) a = (rest_of_row m r a.0.0 a.0.1, tails m rs a.1)

-- ---- reversed and strided
pub every-reverse : {A : Type 0} (p : A → Type 0) (xs : List A) → Every p xs → Every p (reverse xs)
every-reverse p [] a = tt
every-reverse p (x ∷ xs) a = subst (Every p) (sym (reverse_onto xs x [])) (every-append p (reverse xs) (x ∷ []) (every-reverse p xs a.1) (a.0, tt))

length-rows : {A : Type 0} (k : ℕ) (rs : List (List A)) → Every (λ r. length r ≡ k) rs → length (concat rs) ≡ length rs * k
length-rows k [] a = omega arith
length-rows k (r ∷ rs) a =
    let e = length-append r (concat rs) in
    let f = length-rows k rs a.1 in
    let h = a.0 in
    let g : suc (length rs) * k ≡ k + length rs * k = omega arith in
    omega arith

-- the rows that a stride goes through
pub rows_long : (k : ℕ) (xs : List Value) → 0 < k → length xs / k * k ≡ length xs → Every (λ r. length r ≡ k) (pieces (length xs / k) k k xs)
rows_long k xs h e = pieces_long (length xs / k) k k xs (omega arith)

pub length-strided : (k : ℕ) (xs : List Value) → 0 < k → length xs / k * k ≡ length xs → length (strided k xs) ≡ length xs
length-strided k xs h e =
    let rs = pieces (length xs / k) k k xs in
    let l = length-rows (length rs) (columns k rs) (columns_long k rs) in
    let m = length-columns k rs in
    let n = length-pieces (length xs / k) k k xs in
    l ∙ ap (λ z. z * length rs) m ∙ ap (λ z. k * z) n ∙ omega arith

pub every-strided : (p : Value → Type 0) (k : ℕ) (xs : List Value) → 0 < k → length xs / k * k ≡ length xs → Every p xs → Every p (strided k xs)
every-strided p k xs h e a =
    let rs = pieces (length xs / k) k k xs in
    every-concat p (columns k rs)
    (every-columns p k rs (every_and (λ r. length r ≡ k) (Every p) rs (rows_long k xs h e) (every-pieces p (length xs / k) k k xs a)))
