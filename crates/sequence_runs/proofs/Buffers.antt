-- What buffers hold: the lists of values one behind another, and what a run passes on.
use Rattle.std.proofs.Common.{◌≡◌, ℕ, zero, suc, ◌+◌, ◌<◌, ◌≤◌, List, [], ◌∷◌, ◌++◌, length, take, map, Some, append-nil, append_assoc, refl, sym, ap, ap₂, ◌∙◌, subst, arith}
use Rattle.std.specs.Prelude.{slice_get, slice_index}
use Rattle.std.proofs.lemmas.List.{ext_get_or}
use Rattle.kernel_tree.specs.Device.{row}
use Rattle.lift_tree.specs.Launches.{buffers_of, lists_of}
use Rattle.lift_tree.specs.Lists.{Every}
use Rattle.lift_tree.specs.Types.{HasType, HaveTypes, IsInput, PlainTy, U32, U32x4, PairOf, ArrayOf}
use Rattle.lift_tree.specs.Values.{Value, Word, array, nth}

-- ---- rows
-- lists of the same lengths have rows as long
pub rows_long : (p q : List (List ℕ)) → map length p ≡ map length q → (a : ℕ) → length (row p a) ≡ length (row q a)
rows_long [] [] e a = refl
rows_long [] (y ∷ q) e a = absurd (cc)
rows_long (x ∷ p) [] e a = absurd (cc)
rows_long (x ∷ p) (y ∷ q) e zero = cc
rows_long (x ∷ p) (y ∷ q) e (suc a) = rows_long p q (cc) a

-- lists that are as long and hold the same are the same
same_row : (x y : List ℕ) → length x ≡ length y → ((i : ℕ) → i < length y → slice_index x i ≡ slice_index y i) → x ≡ y
same_row x y e h = ext_get_or 0 x y e (λ i lt. h i (subst (λ m. i < m) e lt))

same_rows : (p q : List (List ℕ)) → map length p ≡ map length q → ((a i : ℕ) → i < length (row q a) → slice_index (row p a) i ≡ slice_index (row q a) i) → p ≡ q
same_rows [] [] e h = refl
same_rows [] (y ∷ q) e h = absurd (cc)
same_rows (x ∷ p) [] e h = absurd (cc)
same_rows (x ∷ p) (y ∷ q) e h = ap₂ (λ a b. a ∷ b) (same_row x y (cc) (h 0)) (same_rows p q (cc) (λ a. h (suc a)))

-- what holds the inputs and then what is wanted of the outputs is these lists
pub passed : (ins outs wanted next : List (List ℕ)) → map length wanted ≡ map length outs → map length next ≡ map length (ins ++ outs)
    → ((a i : ℕ) → i < length (row ins a) → slice_index (row next a) i ≡ slice_index (row ins a) i)
    → ((b a i : ℕ) → b ≡ length ins + a → i < length (row wanted a) → slice_index (row next b) i ≡ slice_index (row wanted a) i)
    → next ≡ ins ++ wanted
passed [] outs wanted next w s held out = same_rows next wanted (s ∙ sym w) (λ a i. out a a i (omega arith))
passed (x ∷ ins) outs wanted [] w s held out = absurd (cc)
passed (x ∷ ins) outs wanted (y ∷ next) w s held out =
    ap₂ (λ a b. a ∷ b) (same_row y x (cc) (held 0))
    (passed ins outs wanted next w (cc) (λ a. held (suc a)) (λ b a i e. out (suc b) a i (omega (arith, e))))

-- ---- one value more
pub buffers_more : (xs : List PlainTy) (vs : List Value) (a : PlainTy) (v : Value) → length xs ≡ length vs → buffers_of (xs ++ a ∷ []) (vs ++ v ∷ []) ≡ buffers_of xs vs ++ lists_of a v
buffers_more [] [] a v e = append-nil (lists_of a v)
buffers_more [] (u ∷ vs) a v e = absurd (omega (arith, e))
buffers_more (x ∷ xs) [] a v e = absurd (omega (arith, e))
buffers_more (x ∷ xs) (u ∷ vs) a v e =
    ap (λ z. lists_of x u ++ z) (buffers_more xs vs a v (omega (arith, e))) ∙ sym (append_assoc (lists_of x u) (buffers_of xs vs) (lists_of a v))

pub types_more : (ys : List ℕ) (xs : List PlainTy) (vs : List Value) (a : PlainTy) (v : Value) → length xs ≡ length vs → HaveTypes ys xs vs → HasType ys a v
    → (n : ℕ) (b : PlainTy) → slice_get (xs ++ a ∷ []) n ≡ Some b → HasType ys b (nth (vs ++ v ∷ []) n)
types_more ys [] [] a v e h t zero b is = let same : a ≡ b = cc in subst (λ z. HasType ys z v) same t
types_more ys [] [] a v e h t (suc n) b is = absurd (cc)
types_more ys [] (u ∷ vs) a v e h t n b is = absurd (omega (arith, e))
types_more ys (x ∷ xs) [] a v e h t n b is = absurd (omega (arith, e))
types_more ys (x ∷ xs) (u ∷ vs) a v e h t zero b is = h zero b is
types_more ys (x ∷ xs) (u ∷ vs) a v e h t (suc n) b is = types_more ys xs vs a v (omega (arith, e)) (λ k c. h (suc k) c) t n b is

-- ---- values past the inputs
no_array : (xs : List Value) → Word 0 ≡ array xs → ⊥
no_array [] e = absurd (cc)
no_array (x ∷ xs) e = absurd (cc)

no_input : (ys : List ℕ) (a : PlainTy) → IsInput a → HasType ys a (Word 0) → ⊥
no_input ys U32 h t = absurd h
no_input ys U32x4 h t = absurd h
no_input ys (PairOf a b) h t = absurd h
no_input ys (ArrayOf a n) h t = no_array t.0 t.1

-- arrays that have their types are no fewer
pub enough : (ys : List ℕ) (xs : List PlainTy) (vs : List Value) → Every IsInput xs → HaveTypes ys xs vs → length xs ≤ length vs
enough ys [] vs all h = omega arith
enough ys (a ∷ xs) [] all h = absurd (no_input ys a all.0 (h zero a refl))
enough ys (a ∷ xs) (v ∷ vs) all h = let e = enough ys xs vs all.1 (λ n b s. h (suc n) b s) in omega (arith, e)

pub buffers_taken : (xs : List PlainTy) (vs : List Value) → buffers_of xs vs ≡ buffers_of xs (take (length xs) vs)
buffers_taken [] vs = refl
buffers_taken (a ∷ xs) [] = refl
buffers_taken (a ∷ xs) (v ∷ vs) = ap (λ z. lists_of a v ++ z) (buffers_taken xs vs)

pub types_taken : (ys : List ℕ) (xs : List PlainTy) (vs : List Value) → HaveTypes ys xs vs → (n : ℕ) (b : PlainTy) → slice_get xs n ≡ Some b → HasType ys b (nth (take (length xs) vs) n)
types_taken ys [] vs h n b is = absurd (cc)
types_taken ys (a ∷ xs) [] h n b is = h n b is
types_taken ys (a ∷ xs) (v ∷ vs) h zero b is = h zero b is
types_taken ys (a ∷ xs) (v ∷ vs) h (suc n) b is = types_taken ys xs vs (λ k c. h (suc k) c) n b is
