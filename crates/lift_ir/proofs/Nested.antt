-- Lists of values by position: pieces, rows one after another, columns, padding.
use Rattle.std.proofs.Common.{◌≡◌, ℕ, zero, suc, ◌+◌, ◌-◌, ◌*◌, ◌<◌, ◌≤◌, List, [], ◌∷◌, ◌++◌, length, take, drop, get_or, refl, sym, ap, ◌∙◌, subst, ⊎_elim, arith, length-append}
use Rattle.std.specs.Prelude.{map, min, max, replicate}
use Rattle.std.proofs.lemmas.Bool.{cases_lt}
use Rattle.std.proofs.lemmas.List.{get_or-map, get_or-take, get_or-drop, length-replicate, get_or-replicate, length-take-le, length-drop}
use Rattle.std.proofs.Math.ListN.{get_or-append}
use Rattle.std.proofs.Math.Seq.{get_or-append_right}
use Rattle.lift_tree.specs.Values.{Value, Word, members, array, nth}
use Rattle.lift_tree.specs.Lists.{concat, pieces, first_of, rest_of, last_of, padded, width, columns}
use Rattle.lift_tree.specs.Meaning.{array_of_rows}
use Rattle.lift_tree.proofs.Members.{members-array, length-map, length-pieces}
use Rattle.lift_ir.specs.Types.{Ty, ArrayOf}
use Rattle.lift_ir.specs.Layouts.{Slide, operand_position}
use Rattle.lift_ir.specs.Scalars.{at_index, Scalars, HasScalars}

pub nth_get : (xs : List Value) (n : ℕ) → nth xs n ≡ get_or xs n (Word 0)
nth_get [] n = refl
nth_get (x ∷ xs) zero = refl
nth_get (x ∷ xs) (suc n) = nth_get xs n

pub members_of : (v : Value) (xs : List Value) → v ≡ array xs → members v ≡ xs
members_of v xs e = ap members e ∙ members-array xs

-- pieces

abbrev shifted : ℕ → ℕ → List Value → List Value
shifted zero t xs = xs
shifted (suc i) t xs = shifted i t (drop t xs)

at-shifted : (i t j : ℕ) (xs : List Value) → get_or (shifted i t xs) j (Word 0) ≡ get_or xs (i * t + j) (Word 0)
at-shifted zero t j xs = ap (λ n. get_or xs n (Word 0)) (let z : j ≡ 0 * t + j = omega arith in z)
at-shifted (suc i) t j xs = at-shifted i t j (drop t xs) ∙ get_or-drop t xs (i * t + j) (Word 0) ∙ ap (λ n. get_or xs n (Word 0)) (let z : t + (i * t + j) ≡ suc i * t + j = omega arith in z)

length-shifted : (i t : ℕ) (xs : List Value) → length (shifted i t xs) ≡ length xs - i * t
length-shifted zero t xs = let z : 0 * t ≡ 0 = omega arith in omega arith
length-shifted (suc i) t xs = let a = length-shifted i t (drop t xs) in let b = length-drop t xs in let z : suc i * t ≡ t + i * t = omega arith in omega arith

piece_at : (c s t i : ℕ) (xs : List Value) → i < c → get_or (map array (pieces c s t xs)) i (Word 0) ≡ array (take s (shifted i t xs))
piece_at zero s t i xs lt = absurd (omega arith)
piece_at (suc c) s t zero xs lt = refl
piece_at (suc c) s t (suc i) xs lt = piece_at c s t i (drop t xs) (omega arith)

pub pieces_is : {A : Type 0} (num : A → ℕ) (t : Ty) (n count m k : ℕ) (xs : List Value) (s : Scalars) → length xs ≡ n → ((i : ℕ) → i < count → i * k + m ≤ n) → ((i : ℕ) → i < n → HasScalars t (get_or xs i (Word 0)) (at_index i s))
    → HasScalars (ArrayOf count (ArrayOf m t)) (array_of_rows (pieces count m k xs)) (λ cs q. s cs (operand_position num (Slide m k) q))
pieces_is num t n count m k xs s len room h = (
  map array (pieces count m k xs),
  refl,
  length-map array (pieces count m k xs) ∙ length-pieces count m k xs,
  λ i lt. (
    take m (shifted i k xs),
    piece_at count m k i xs lt,
    length-take-le m (shifted i k xs) (let a = length-shifted i k xs in let b = room i lt in omega arith),
    λ j below. subst (λ v. HasScalars t v (at_index (i * k + j) s)) (sym (get_or-take m (shifted i k xs) j (Word 0) below ∙ at-shifted i k j xs)) (h (i * k + j) (let b = room i lt in omega arith)),
  ),
)

-- rows one after another

pub concat_at : (m : ℕ) (xs : List Value) (i j : ℕ) → ((k : ℕ) → k < length xs → length (members (get_or xs k (Word 0))) ≡ m) → i < length xs → j < m → get_or (concat (map members xs)) (i * m + j) (Word 0) ≡ get_or (members (get_or xs i (Word 0))) j (Word 0)
concat_at m [] i j h lt below = absurd (omega arith)
concat_at m (x ∷ xs) zero j h lt below =
    ap (λ n. get_or (members x ++ concat (map members xs)) n (Word 0)) (let z : 0 * m + j ≡ j = omega arith in z)
    ∙ get_or-append (members x) (concat (map members xs)) (Word 0) j (let e : length (members x) ≡ m = h 0 (omega arith) in omega arith)
concat_at m (x ∷ xs) (suc i) j h lt below =
    let e : length (members x) ≡ m = h 0 (omega arith) in
    let z : suc i * m + j ≡ m + (i * m + j) = omega arith in
    get_or-append_right (members x) (concat (map members xs)) (suc i * m + j) (Word 0) (omega arith)
    ∙ ap (λ n. get_or (concat (map members xs)) n (Word 0)) (let y : suc i * m + j - length (members x) ≡ i * m + j = omega arith in y)
    ∙ concat_at m xs i j (λ k l. h (suc k) (omega arith)) (omega arith) below

pub concat_long : (m : ℕ) (xs : List Value) → ((k : ℕ) → k < length xs → length (members (get_or xs k (Word 0))) ≡ m) → length (concat (map members xs)) ≡ length xs * m
concat_long m [] h = let z : 0 * m ≡ 0 = omega arith in omega arith
concat_long m (x ∷ xs) h =
    let e : length (members x) ≡ m = h 0 (omega arith) in
    let a = length-append (members x) (concat (map members xs)) in
    let b = concat_long m xs (λ k l. h (suc k) (omega arith)) in
    omega arith

-- columns

first_is : (r : List Value) → first_of r ≡ get_or r 0 (Word 0)
first_is [] = refl
first_is (x ∷ r) = refl

rest_at : (r : List Value) (j : ℕ) → get_or (rest_of r) j (Word 0) ≡ get_or r (suc j) (Word 0)
rest_at [] j = refl
rest_at (x ∷ r) j = refl

pub column_at : (m j : ℕ) (rs : List (List Value)) → j < m → (ys : List Value) × (get_or (map array (columns m rs)) j (Word 0) ≡ array ys) × (length ys ≡ length rs) × ((i : ℕ) → i < length rs → get_or ys i (Word 0) ≡ get_or (get_or rs i []) j (Word 0))
column_at zero j rs lt = absurd (omega arith)
column_at (suc m) zero rs lt = (map first_of rs, refl, length-map first_of rs, λ i below. get_or-map first_of rs i [] (Word 0) below ∙ first_is (get_or rs i []))
column_at (suc m) (suc j) rs lt =
    let r = column_at m j (map rest_of rs) (omega arith) in
    let e = length-map rest_of rs in
    (r.0, r.1, r.2 ∙ e, λ i below. r.3 i (omega arith) ∙ ap (λ x. get_or x j (Word 0)) (rests rs i below) ∙ rest_at (get_or rs i []) j)
  where
    rests : (rs : List (List Value)) (i : ℕ) → i < length rs → get_or (map rest_of rs) i [] ≡ rest_of (get_or rs i [])
    rests [] i lt = absurd (omega arith)
    rests (r ∷ rs) zero lt = refl
    rests (r ∷ rs) (suc i) lt = rests rs i (omega arith)

pub row_at : (xs : List Value) (i : ℕ) → i < length xs → get_or (map members xs) i [] ≡ members (get_or xs i (Word 0))
row_at [] i lt = absurd (omega arith)
row_at (x ∷ xs) zero lt = refl
row_at (x ∷ xs) (suc i) lt = row_at xs i (omega arith)

pub width_is : (xs : List Value) → 0 < length xs → width (map members xs) ≡ length (members (get_or xs 0 (Word 0)))
width_is [] h = absurd (omega arith)
width_is (x ∷ xs) h = refl

-- padding

last_is : (xs : List Value) → last_of xs ≡ get_or xs (length xs - 1) (Word 0)
last_is [] = refl
last_is (x ∷ []) = refl
last_is (x ∷ y ∷ xs) = last_is (y ∷ xs) ∙ ap (λ n. get_or (x ∷ y ∷ xs) n (Word 0)) (let z : suc (length (y ∷ xs) - 1) ≡ length (x ∷ y ∷ xs) - 1 = omega arith in z)

pub at_padded : (a b : ℕ) (xs : List Value) (i n : ℕ) → length xs ≡ n → 0 < n → i < a + n + b → get_or (padded a b xs) i (Word 0) ≡ get_or xs (min (max i a - a) (n - 1)) (Word 0)
at_padded a b xs i n len pos lt =
    let before = replicate a (first_of xs) in
    let last = replicate b (last_of xs) in
    let la = length-replicate a (first_of xs) in
    let both = length-append before xs in
    ⊎_elim
    (λ c. get_or-append (before ++ xs) last (Word 0) i (omega arith) ∙ get_or-append before xs (Word 0) i (omega arith) ∙ get_or-replicate a i (first_of xs) (Word 0) c ∙ first_is xs ∙ ap (λ k. get_or xs k (Word 0)) (let z : 0 ≡ min (max i a - a) (n - 1) = omega arith in z))
    (λ c. ⊎_elim
    (λ e. get_or-append (before ++ xs) last (Word 0) i (omega arith) ∙ get_or-append_right before xs i (Word 0) (omega arith) ∙ ap (λ k. get_or xs k (Word 0)) (let z : i - length before ≡ min (max i a - a) (n - 1) = omega arith in z))
    (λ e. get_or-append_right (before ++ xs) last i (Word 0) (omega arith) ∙ get_or-replicate b (i - length (before ++ xs)) (last_of xs) (Word 0) (omega arith) ∙ last_is xs ∙ ap (λ k. get_or xs k (Word 0)) (let z : length xs - 1 ≡ min (max i a - a) (n - 1) = omega arith in z))
    (cases_lt (i - a) n))
    (cases_lt i a)

-- values of equal types
pub is_as : (t u : Ty) (v : Value) (s : Scalars) → u ≡ t → HasScalars t v s → HasScalars u v s
is_as t u v s e h = subst (λ z. HasScalars z v s) (sym e) h
