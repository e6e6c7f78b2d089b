-- Maps over joined, cut, padded and transposed lists.
use Rattle.std.proofs.Common.{◌≡◌, ℕ, zero, suc, ◌*◌, ◌<◌, List, [], ◌∷◌, ◌++◌, length, take, drop, refl, sym, ap, ◌∙◌, arith, length-append, length-drop}
use Rattle.std.proofs.lemmas.List.{take-append-drop}
use Rattle.std.specs.Prelude.{map, replicate}
use Rattle.lift_tree.specs.Values.{Value, array, members}
use Rattle.lift_tree.specs.Lists.{Every, fold_left, concat, pieces, first_of, rest_of, last_of, padded, width, columns}
use Rattle.lift_tree.specs.Meaning.{rows, array_of_rows}
use Rattle.lift_tree.proofs.Members.{members-array, length-map, every_map}

pub map-map : {A B C : Type 0} (g : B → C) (f : A → B) (xs : List A) → map g (map f xs) ≡ map (λ x. g (f x)) xs
map-map g f [] = refl
map-map g f (x ∷ xs) = ap (λ zs. g (f x) ∷ zs) (map-map g f xs)

pub map_same : {A B : Type 0} (f g : A → B) (xs : List A) → ((x : A) → f x ≡ g x) → map f xs ≡ map g xs
map_same {A} {B} f g xs h = ap (λ (k : A → B). map k xs) (λ i x. h x i)

pub map_itself : {A : Type 0} (xs : List A) → map (λ x. x) xs ≡ xs
map_itself [] = refl
map_itself (x ∷ xs) = ap (λ zs. x ∷ zs) (map_itself xs)

pub fold_left-map : {A B C : Type 0} (f : A → C → A) (g : B → C) (s : A) (xs : List B) → fold_left f s (map g xs) ≡ fold_left (λ a x. f a (g x)) s xs
fold_left-map f g s [] = refl
fold_left-map f g s (x ∷ xs) = fold_left-map f g (f s (g x)) xs

pub map-append : {A B : Type 0} (f : A → B) (xs ys : List A) → map f (xs ++ ys) ≡ map f xs ++ map f ys
map-append f [] ys = refl
map-append f (x ∷ xs) ys = ap (λ zs. f x ∷ zs) (map-append f xs ys)

pub map-concat : {A B : Type 0} (f : A → B) (xss : List (List A)) → map f (concat xss) ≡ concat (map (map f) xss)
map-concat f [] = refl
map-concat f (r ∷ rs) = map-append f r (concat rs) ∙ ap (λ zs. map f r ++ zs) (map-concat f rs)

-- ---- rows
pub rows-array : (rs : List (List Value)) → rows (array_of_rows rs) ≡ rs
rows-array rs = ap (map members) (members-array (map array rs)) ∙ each rs
  where
    each : (rs : List (List Value)) → map members (map array rs) ≡ rs
    each [] = refl
    each (r ∷ rs) = let a = members-array r in let b = each rs in cc

-- each row mapped
pub rows-map : (f : Value → Value) (vs : List Value) → rows (array (map (λ r. array (map f (members r))) vs)) ≡ map (map f) (map members vs)
rows-map f vs =
    ap (map members) (members-array (map (λ r. array (map f (members r))) vs))
    ∙ map-map members (λ r. array (map f (members r))) vs
    ∙ map_same _ _ vs (λ r. members-array (map f (members r)))
    ∙ sym (map-map (map f) members vs)

-- a map over each of these rows
pub map_rows : (f : Value → Value) (rs : List (List Value)) → array (map (λ r. array (map f (members r))) (members (array_of_rows rs))) ≡ array_of_rows (map (map f) rs)
map_rows f rs =
    ap (λ l. array (map (λ r. array (map f (members r))) l)) (members-array (map array rs))
    ∙ ap array (map-map (λ r. array (map f (members r))) array rs)
    ∙ ap array (map_same _ _ rs (λ r. ap (λ l. array (map f l)) (members-array r)))
    ∙ ap array (sym (map-map array (map f) rs))

-- ---- pieces
map-take : {A B : Type 0} (f : A → B) (n : ℕ) (xs : List A) → take n (map f xs) ≡ map f (take n xs)
map-take f zero xs = refl
map-take f (suc n) [] = refl
map-take f (suc n) (x ∷ xs) = ap (λ zs. f x ∷ zs) (map-take f n xs)

map-drop : {A B : Type 0} (f : A → B) (n : ℕ) (xs : List A) → drop n (map f xs) ≡ map f (drop n xs)
map-drop f zero xs = refl
map-drop f (suc n) [] = refl
map-drop f (suc n) (x ∷ xs) = map-drop f n xs

pub pieces-map : {A B : Type 0} (f : A → B) (c s t : ℕ) (xs : List A) → pieces c s t (map f xs) ≡ map (map f) (pieces c s t xs)
pieces-map f zero s t xs = refl
pieces-map f (suc c) s t xs =
    ap (λ p. p ∷ pieces c s t (drop t (map f xs))) (map-take f s xs)
    ∙ ap (λ ys. map f (take s xs) ∷ pieces c s t ys) (map-drop f t xs)
    ∙ ap (λ ps. map f (take s xs) ∷ ps) (pieces-map f c s t (drop t xs))

-- pieces put together again
pub concat-pieces : {A : Type 0} (c k : ℕ) (xs : List A) → length xs ≡ c * k → concat (pieces c k k xs) ≡ xs
concat-pieces zero k [] h = refl
concat-pieces zero k (x ∷ xs) h = absurd (omega arith)
concat-pieces (suc c) k xs h =
    ap (λ ys. take k xs ++ ys) (concat-pieces c k (drop k xs) (omega (arith, length-drop k xs)))
    ∙ take-append-drop k xs

take_front : {A : Type 0} (r ys : List A) (k : ℕ) → length r ≡ k → take k (r ++ ys) ≡ r
take_front [] ys zero h = refl
take_front [] ys (suc k) h = absurd (omega arith)
take_front (x ∷ r) ys zero h = absurd (omega arith)
take_front (x ∷ r) ys (suc k) h = ap (λ zs. x ∷ zs) (take_front r ys k (omega arith))

drop_front : {A : Type 0} (r ys : List A) (k : ℕ) → length r ≡ k → drop k (r ++ ys) ≡ ys
drop_front [] ys zero h = refl
drop_front [] ys (suc k) h = absurd (omega arith)
drop_front (x ∷ r) ys zero h = absurd (omega arith)
drop_front (x ∷ r) ys (suc k) h = drop_front r ys k (omega arith)

-- rows of one length cut again
pub pieces-concat : {A : Type 0} (k : ℕ) (rs : List (List A)) → Every (λ r. length r ≡ k) rs → pieces (length rs) k k (concat rs) ≡ rs
pieces-concat k [] a = refl
pieces-concat k (r ∷ rs) a =
    ap (λ p. p ∷ pieces (length rs) k k (drop k (r ++ concat rs))) (take_front r (concat rs) k a.0)
    ∙ ap (λ ys. r ∷ pieces (length rs) k k ys) (drop_front r (concat rs) k a.0)
    ∙ ap (λ ps. r ∷ ps) (pieces-concat k rs a.1)

pub length-concat : {A : Type 0} (k : ℕ) (rs : List (List A)) → Every (λ r. length r ≡ k) rs → length (concat rs) ≡ length rs * k
length-concat k [] a = omega arith
length-concat k (r ∷ rs) a = omega (arith, length-append r (concat rs), length-concat k rs a.1, a.0)

-- ---- padding
replicate-map : {A B : Type 0} (f : A → B) (n : ℕ) (x : A) → map f (replicate n x) ≡ replicate n (f x)
replicate-map f zero x = refl
replicate-map f (suc n) x = ap (λ zs. f x ∷ zs) (replicate-map f n x)

first_of-map : (f : Value → Value) (xs : List Value) → 0 < length xs → first_of (map f xs) ≡ f (first_of xs)
first_of-map f [] h = absurd (omega arith)
first_of-map f (x ∷ xs) h = refl

last_of-map : (f : Value → Value) (xs : List Value) → 0 < length xs → last_of (map f xs) ≡ f (last_of xs)
last_of-map f [] h = absurd (omega arith)
last_of-map f (x ∷ []) h = refl
last_of-map f (x ∷ y ∷ xs) h = last_of-map f (y ∷ xs) (omega arith)

pub padded-map : (f : Value → Value) (l r : ℕ) (xs : List Value) → 0 < length xs → padded l r (map f xs) ≡ map f (padded l r xs)
padded-map f l r xs h =
    let first = ap (replicate l) (first_of-map f xs h) ∙ sym (replicate-map f l (first_of xs)) in
    let last = ap (replicate r) (last_of-map f xs h) ∙ sym (replicate-map f r (last_of xs)) in
    ap (λ ys. ys ++ map f xs ++ replicate r (last_of (map f xs))) first
    ∙ ap (λ ys. map f (replicate l (first_of xs)) ++ map f xs ++ ys) last
    ∙ ap (λ ys. ys ++ map f (replicate r (last_of xs))) (sym (map-append f (replicate l (first_of xs)) xs))
    ∙ sym (map-append f (replicate l (first_of xs) ++ xs) (replicate r (last_of xs)))

-- ---- columns
first_columns : (m : ℕ) (r : List Value) (rs : List (List Value)) → length r ≡ m → map first_of (columns m (r ∷ rs)) ≡ r
first_columns zero [] rs h = refl
first_columns zero (x ∷ r) rs h = absurd (omega arith)
first_columns (suc m) [] rs h = absurd (omega arith)
first_columns (suc m) (x ∷ r) rs h = ap (λ ys. x ∷ ys) (first_columns m r (map rest_of rs) (omega arith))

rest_columns : (m : ℕ) (r : List Value) (rs : List (List Value)) → map rest_of (columns m (r ∷ rs)) ≡ columns m rs
rest_columns zero r rs = refl
rest_columns (suc m) r rs = ap (λ ys. map first_of rs ∷ ys) (rest_columns m (rest_of r) (map rest_of rs))

pub columns-columns : (m : ℕ) (rs : List (List Value)) → Every (λ r. length r ≡ m) rs → columns (length rs) (columns m rs) ≡ rs
columns-columns m [] a = refl
columns-columns m (r ∷ rs) a =
    ap (λ y. y ∷ columns (length rs) (map rest_of (columns m (r ∷ rs)))) (first_columns m r rs a.0)
    ∙ ap (λ y. r ∷ columns (length rs) y) (rest_columns m r rs)
    ∙ ap (λ y. r ∷ y) (columns-columns m rs a.1)

pub width-columns : (m : ℕ) (rs : List (List Value)) → 0 < m → width (columns m rs) ≡ length rs
width-columns zero rs h = absurd (omega arith)
width-columns (suc m) rs h = length-map _ rs

first_map : (f : Value → Value) (m : ℕ) (r : List Value) → length r ≡ suc m → first_of (map f r) ≡ f (first_of r)
first_map f m [] h = absurd (omega arith)
first_map f m (x ∷ r) h = refl

rest_map : (f : Value → Value) (r : List Value) → rest_of (map f r) ≡ map f (rest_of r)
rest_map f [] = refl
rest_map f (x ∷ r) = refl

length-rest : (m : ℕ) (r : List Value) → length r ≡ suc m → length (rest_of r) ≡ m
length-rest m [] h = absurd (omega arith)
length-rest m (x ∷ r) h = omega arith

firsts_map : (f : Value → Value) (m : ℕ) (rs : List (List Value)) → Every (λ r. length r ≡ suc m) rs → map first_of (map (map f) rs) ≡ map f (map first_of rs)
firsts_map f m [] a = refl
firsts_map f m (r ∷ rs) a = let p = first_map f m r a.0 in let q = firsts_map f m rs a.1 in cc

rests_map : (f : Value → Value) (rs : List (List Value)) → map rest_of (map (map f) rs) ≡ map (map f) (map rest_of rs)
rests_map f [] = refl
rests_map f (r ∷ rs) = let p = rest_map f r in let q = rests_map f rs in cc

pub columns-map : (f : Value → Value) (m : ℕ) (rs : List (List Value)) → Every (λ r. length r ≡ m) rs → columns m (map (map f) rs) ≡ map (map f) (columns m rs)
columns-map f zero rs a = refl
columns-map f (suc m) rs a =
    let p = firsts_map f m rs a in
    let q = ap (columns m) (rests_map f rs) ∙ columns-map f m (map rest_of rs) (every_map (λ r. length r ≡ suc m) (λ r. length r ≡ m) rest_of rs (λ r h. length-rest m r h) a) in
    cc

pub width-map : (f : Value → Value) (rs : List (List Value)) → width (map (map f) rs) ≡ width rs
width-map f [] = refl
width-map f (r ∷ rs) = length-map f r
