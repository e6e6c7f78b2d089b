-- The value that lists hold.
use Rattle.std.proofs.Common.{◌≡◌, ℕ, zero, suc, ◌+◌, ◌-◌, ◌*◌, ◌<◌, List, [], ◌∷◌, length, get_or, refl, sym, ap, ◌∙◌, subst, arith, length-append}
use Rattle.std.specs.Prelude.{map}
use Rattle.std.proofs.Math.ListN.{get_or-append}
use Rattle.std.proofs.Math.Seq.{get_or-append_right}
use Rattle.lift_tree.specs.Launches.{lists_of}
use Rattle.lift_tree.specs.Limits.{components}
use Rattle.lift_tree.specs.Lists.{Every}
use Rattle.lift_tree.specs.Types.{PlainTy, U32, U32x4, PairOf, ArrayOf, HoldsElements, IsNumber, HasType}
use Rattle.lift_tree.specs.Values.{Value, Word, Both, Side, Left, Right, array, list_of}
use Rattle.lift_tree.proofs.Members.{length-map}
use Rattle.value_lists.specs.Lists.{length_at, scalars_at, width, row, members_from, value_in}
use Rattle.value_lists.proofs.Lengths.{Leads, rows_at, every_at, as_long, one_long, list_long}

-- the scalars of a value, by component and by number in row-major order
abbrev pub Scalars : Type 0
Scalars = List Side → ℕ → ℕ

-- lists hold such scalars of a value of the type, whose number among such
-- values is i, from component c on
abbrev pub Holds : List ℕ → List (List ℕ) → PlainTy → (c i : ℕ) → Scalars → Type 0
Holds ys ls U32 c i g = get_or (row ls c) i 0 ≡ g [] 0
Holds ys ls U32x4 c i g = (j : ℕ) → j < 4 → get_or (row ls c) (i * 4 + j) 0 ≡ g [] j
Holds ys ls (PairOf a b) c i g = Holds ys ls a c i (λ p x. g (Left ∷ p) x) × Holds ys ls b (c + width a) i (λ p x. g (Right ∷ p) x)
Holds ys ls (ArrayOf a n) c i g = (j : ℕ) → j < length_at ys n → Holds ys ls a c (i * length_at ys n + j) (λ p x. g p (j * scalars_at ys a p + x))

inside : (j n s x : ℕ) → j < n → x < s → j * s + x < n * s
inside j zero s x lt below = absurd (omega arith)
inside zero (suc n) s x lt below = let z : 0 * s ≡ 0 = omega arith in let y : suc n * s ≡ s + n * s = omega arith in omega arith
inside (suc j) (suc n) s x lt below = let z : suc j * s ≡ s + j * s = omega arith in let y : suc n * s ≡ s + n * s = omega arith in let w = inside j n s x (omega arith) below in omega arith

same_scalars : (ys : List ℕ) (ls : List (List ℕ)) (a : PlainTy) (c i : ℕ) (g h : Scalars) → ((p : List Side) (x : ℕ) → Leads a p → x < scalars_at ys a p → g p x ≡ h p x) → Holds ys ls a c i g → Holds ys ls a c i h
same_scalars ys ls U32 c i g h e k = k ∙ e [] 0 tt (omega arith)
same_scalars ys ls U32x4 c i g h e k = λ j lt. k j lt ∙ e [] j tt lt
same_scalars ys ls (PairOf a b) c i g h e k = (
  same_scalars ys ls a c i (λ p x. g (Left ∷ p) x) (λ p x. h (Left ∷ p) x) (λ p x l lt. e (Left ∷ p) x l lt) k.0,
  same_scalars ys ls b (c + width a) i (λ p x. g (Right ∷ p) x) (λ p x. h (Right ∷ p) x) (λ p x l lt. e (Right ∷ p) x l lt) k.1,
)
same_scalars ys ls (ArrayOf a n) c i g h e k = λ j lt.
    same_scalars ys ls a c (i * length_at ys n + j) (λ p x. g p (j * scalars_at ys a p + x)) (λ p x. h p (j * scalars_at ys a p + x))
    (λ p x l below. e p (j * scalars_at ys a p + x) l (inside j (length_at ys n) (scalars_at ys a p) x lt below)) (k j lt)

members_are : (f : ℕ → Value) (xs : List Value) (i : ℕ) → ((j : ℕ) → j < length xs → f (i + j) ≡ get_or xs j (Word 0)) → members_from f i (length xs) ≡ xs
members_are f [] i h = refl
members_are f (x ∷ xs) i h =
    ap (λ y. y ∷ members_from f (suc i) (length xs)) (ap f (let z : i ≡ i + 0 = omega arith in z) ∙ h 0 (omega arith))
    ∙ ap (λ ys. x ∷ ys) (members_are f xs (suc i) (λ j lt. ap f (let z : suc i + j ≡ i + suc j = omega arith in z) ∙ h (suc j) (omega arith)))

-- a lane of a vector is its number
lane_is : (xs : List Value) (j : ℕ) → Every IsNumber xs → j < length xs → Word (get_or (list_of (array xs) []) j 0) ≡ get_or xs j (Word 0)
lane_is xs j all lt =
    let n = every_at IsNumber xs all j lt in
    ap (λ z. Word (get_or (list_of (array xs) []) z 0)) (let z : j ≡ j * 1 + 0 = omega arith in z)
    ∙ ap Word (rows_at xs [] 1 j 0 (one_long xs all) lt (omega arith))
    ∙ ap (λ x. Word (get_or (list_of x []) 0 0)) n.1
    ∙ sym n.1

pub told : (ys : List ℕ) (ls : List (List ℕ)) (a : PlainTy) (v : Value) (c i : ℕ) → HasType ys a v → Holds ys ls a c i (λ p x. get_or (list_of v p) x 0) → value_in ys a ls c i ≡ v
told ys ls U32 v c i h k = ap Word (k ∙ ap (λ u. get_or (list_of u []) 0 0) h.1) ∙ sym h.1
told ys ls U32x4 v c i h k =
    let m = subst (λ u. Holds ys ls U32x4 c i (λ p x. get_or (list_of u p) x 0)) h.1 k in
    let four = h.2 in
    ap (λ z. array (members_from (λ j. Word (get_or (row ls c) (i * 4 + j) 0)) 0 z)) (sym four)
    ∙ ap array (members_are (λ j. Word (get_or (row ls c) (i * 4 + j) 0)) h.0 0 (λ j lt.
    ap (λ z. Word (get_or (row ls c) (i * 4 + z) 0)) (let q : 0 + j ≡ j = omega arith in q)
    ∙ ap Word (m j (omega (arith, lt, four)))
    ∙ lane_is h.0 j h.3 lt))
    ∙ sym h.1
told ys ls (PairOf a b) v c i h k =
    let m = subst (λ u. Holds ys ls (PairOf a b) c i (λ p x. get_or (list_of u p) x 0)) h.2 k in
    ap (λ u. Both u (value_in ys b ls (c + width a) i)) (told ys ls a h.0 c i h.3 m.0)
    ∙ ap (λ u. Both h.0 u) (told ys ls b h.1 (c + width a) i h.4 m.1)
    ∙ sym h.2
told ys ls (ArrayOf a n) v c i h k =
    let m = subst (λ u. Holds ys ls (ArrayOf a n) c i (λ p x. get_or (list_of u p) x 0)) h.1 k in
    let long = as_long ys a n v h in
    ap (λ z. array (members_from (λ j. value_in ys a ls c (i * length_at ys n + j)) 0 z)) long
    ∙ ap array (members_are (λ j. value_in ys a ls c (i * length_at ys n + j)) h.0 0 (λ j lt.
    ap (λ z. value_in ys a ls c (i * length_at ys n + z)) (let q : 0 + j ≡ j = omega arith in q)
    ∙ told ys ls a (get_or h.0 j (Word 0)) c (i * length_at ys n + j) (every_at (HasType ys a) h.0 h.3 j lt)
    (same_scalars ys ls a c (i * length_at ys n + j) (λ p x. get_or (list_of (array h.0) p) (j * scalars_at ys a p + x) 0) (λ p x. get_or (list_of (get_or h.0 j (Word 0)) p) x 0)
    (λ p x l below. rows_at h.0 p (scalars_at ys a p) j x (λ t lt2. list_long ys a (get_or h.0 t (Word 0)) p l (every_at (HasType ys a) h.0 h.3 t lt2)) lt below)
    (m j (omega arith)))))
    ∙ sym h.1

-- ---- the lists of a value hold its scalars
at-map : {A B : Type 0} (f : A → B) (xs : List A) (i : ℕ) (d : A) (e : B) → i < length xs → get_or (map f xs) i e ≡ f (get_or xs i d)
at-map f [] i d e lt = absurd (omega arith)
at-map f (x ∷ xs) zero d e lt = refl
at-map f (x ∷ xs) (suc i) d e lt = at-map f xs i d e (omega arith)

pub width_is : (a : PlainTy) → length (components a) ≡ width a
width_is U32 = refl
width_is U32x4 = refl
width_is (PairOf a b) =
    let x = length-append (map (λ c. Left ∷ c) (components a)) (map (λ c. Right ∷ c) (components b)) in
    let y = length-map (λ c. Left ∷ c) (components a) in
    let z = length-map (λ c. Right ∷ c) (components b) in
    let p = width_is a in
    let q = width_is b in
    omega arith
width_is (ArrayOf a n) = width_is a

left_way : (a b : PlainTy) (k : ℕ) → k < width a → get_or (components (PairOf a b)) k [] ≡ Left ∷ get_or (components a) k []
left_way a b k lt =
    let w = width_is a in
    let y = length-map (λ c. Left ∷ c) (components a) in
    get_or-append (map (λ c. Left ∷ c) (components a)) (map (λ c. Right ∷ c) (components b)) [] k (omega arith)
    ∙ at-map (λ c. Left ∷ c) (components a) k [] [] (omega arith)

right_way : (a b : PlainTy) (k : ℕ) → k < width b → get_or (components (PairOf a b)) (width a + k) [] ≡ Right ∷ get_or (components b) k []
right_way a b k lt =
    let w = width_is a in
    let u = width_is b in
    let y = length-map (λ c. Left ∷ c) (components a) in
    get_or-append_right (map (λ c. Left ∷ c) (components a)) (map (λ c. Right ∷ c) (components b)) (width a + k) [] (omega arith)
    ∙ ap (λ n. get_or (map (λ c. Right ∷ c) (components b)) n []) (let z : width a + k - length (map (λ c. Left ∷ c) (components a)) ≡ k = omega arith in z)
    ∙ at-map (λ c. Right ∷ c) (components b) k [] [] (omega arith)

-- lists that hold the scalars component by component
abbrev pub Filled : List ℕ → List (List ℕ) → PlainTy → (c i : ℕ) → Scalars → Type 0
Filled ys ls a c i g =
    (k : ℕ) → k < width a → (x : ℕ) → x < scalars_at ys a (get_or (components a) k [])
    → get_or (row ls (c + k)) (i * scalars_at ys a (get_or (components a) k []) + x) 0 ≡ g (get_or (components a) k []) x

distributed : (i n j s x : ℕ) → (i * n + j) * s + x ≡ i * (n * s) + (j * s + x)
distributed zero n j s x = let z : (0 * n + j) * s ≡ j * s = ap (λ t. t * s) (let y : 0 * n + j ≡ j = omega arith in y) in let w : 0 * (n * s) ≡ 0 = omega arith in omega arith
distributed (suc i) n j s x =
    let a : suc i * n + j ≡ n + (i * n + j) = omega arith in
    let b : (suc i * n + j) * s ≡ (n + (i * n + j)) * s = ap (λ t. t * s) a in
    let c = spread n (i * n + j) s in
    let d = distributed i n j s x in
    let e : suc i * (n * s) ≡ n * s + i * (n * s) = omega arith in
    omega arith
  where
    spread : (p q s : ℕ) → (p + q) * s ≡ p * s + q * s
    spread zero q s = let z : 0 * s ≡ 0 = omega arith in omega arith
    spread (suc p) q s = let z : suc p * s ≡ s + p * s = omega arith in let y : (suc p + q) * s ≡ s + (p + q) * s = omega arith in let w = spread p q s in omega arith

pub filled_holds : (ys : List ℕ) (ls : List (List ℕ)) (a : PlainTy) (c i : ℕ) (g : Scalars) → Filled ys ls a c i g → Holds ys ls a c i g
filled_holds ys ls U32 c i g h =
    ap (λ z. get_or (row ls z) i 0) (let y : c ≡ c + 0 = omega arith in y)
    ∙ ap (λ z. get_or (row ls (c + 0)) z 0) (let y : i ≡ i * 1 + 0 = omega arith in y)
    ∙ h 0 (omega arith) 0 (omega arith)
filled_holds ys ls U32x4 c i g h = λ j lt.
    ap (λ z. get_or (row ls z) (i * 4 + j) 0) (let y : c ≡ c + 0 = omega arith in y) ∙ h 0 (omega arith) j lt
filled_holds ys ls (PairOf a b) c i g h = (
  filled_holds ys ls a c i (λ p x. g (Left ∷ p) x) (λ k lt x below.
      subst (At (c + k) x) (left_way a b k lt) (h k (omega arith) x) below),
  filled_holds ys ls b (c + width a) i (λ p x. g (Right ∷ p) x) (λ k lt x below.
      let way = get_or (components b) k [] in
      ap (λ z. get_or (row ls z) (i * scalars_at ys b way + x) 0) (let y : c + width a + k ≡ c + (width a + k) = omega arith in y)
      ∙ subst (At (c + (width a + k)) x) (right_way a b k lt) (h (width a + k) (omega arith) x) below),
)
  where
    -- the scalar of this number, where the component is here and this way leads to it
    At : (list x : ℕ) (p : List Side) → Type 0
    At list x p = x < scalars_at ys (PairOf a b) p → get_or (row ls list) (i * scalars_at ys (PairOf a b) p + x) 0 ≡ g p x
filled_holds ys ls (ArrayOf a n) c i g h = λ j lt.
    filled_holds ys ls a c (i * length_at ys n + j) (λ p x. g p (j * scalars_at ys a p + x)) (λ k l x below.
    let s = scalars_at ys a (get_or (components a) k []) in
    ap (λ z. get_or (row ls (c + k)) z 0) (distributed i (length_at ys n) j s x)
    ∙ h k l (j * s + x) (inside j (length_at ys n) s x lt below))

own_lists : (ys : List ℕ) (a : PlainTy) (v : Value) → Filled ys (lists_of a v) a 0 0 (λ p x. get_or (list_of v p) x 0)
own_lists ys a v k lt x below =
    let w = width_is a in
    let s = scalars_at ys a (get_or (components a) k []) in
    ap (λ z. get_or (row (lists_of a v) z) (0 * s + x) 0) (let q : 0 + k ≡ k = omega arith in q)
    ∙ ap (λ l. get_or l (0 * s + x) 0) (at-map (list_of v) (components a) k [] [] (omega arith))
    ∙ ap (λ z. get_or (list_of v (get_or (components a) k [])) z 0) (let y : 0 * s + x ≡ x = omega arith in y)

pub lists_hold_one_value : (ys : List ℕ) (a : PlainTy) (v : Value) → HoldsElements a → HasType ys a v → value_in ys a (lists_of a v) 0 0 ≡ v
lists_hold_one_value ys a v f h = told ys (lists_of a v) a v 0 0 h (filled_holds ys (lists_of a v) a 0 0 (λ p x. get_or (list_of v p) x 0) (own_lists ys a v))

pub lists_tell_values : (ys : List ℕ) (a : PlainTy) (v u : Value) → HoldsElements a → HasType ys a v → HasType ys a u → lists_of a v ≡ lists_of a u → v ≡ u
lists_tell_values ys a v u f h k e =
    sym (lists_hold_one_value ys a v f h) ∙ ap (λ ls. value_in ys a ls 0 0) e ∙ lists_hold_one_value ys a u f k
