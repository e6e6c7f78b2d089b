-- What the loops over members build.
use Rattle.std.proofs.Common.{◌≡◌, ℕ, zero, suc, ◌+◌, ◌-◌, ◌<◌, ◌≤◌, List, [], ◌∷◌, ◌++◌, refl, ap, ◌∙◌, sym, take, drop, length, arith}
use Rattle.std.specs.Prelude.{map, replicate, reverse, min, ◌/◌}
use Rattle.std.proofs.lemmas.Grind.{reverse_onto}
use Rattle.std.proofs.lemmas.List.{append_assoc, append-nil, take-map, drop-map}
use Rattle.std.proofs.Math.Nat.{div-zero}
use Rattle.lift_tree.specs.declared.value.Val.{Val}
use Rattle.lift_tree.specs.Lists.{concat, zip_with, pieces, first_of, rest_of, last_of, width, columns, strided}
use Rattle.lift_tree.specs.Meaning.{rows, array_of_rows}
use Rattle.lift_tree.proofs.Strides.{rows_array, strided_through}
use Rattle.lift_tree.specs.Values.{Value, Both, value_of, array, members, nth}
use Rattle.pattern_value.specs.Shut.{column}
use Rattle.pattern_value.proofs.Held.{value_of-List, members-List, push_behind}

-- ---- join
pub concat_push : (rs : List (List Value)) (r : List Value) → concat (rs ++ r ∷ []) ≡ concat rs ++ r
concat_push [] r = append-nil r
concat_push (q ∷ rs) r = ap (λ zs. q ++ zs) (concat_push rs r) ∙ sym (append_assoc q (concat rs) r)

pub rows_push : (vs : List Value) (v : Value) → map members (vs ++ v ∷ []) ≡ map members vs ++ members v ∷ []
rows_push [] v = refl
rows_push (u ∷ vs) v = ap (λ rs. members u ∷ rs) (rows_push vs v)

pub concat_next : (rs : List Val) (r : Val) → concat (map members (map value_of (rs ++ r ∷ []))) ≡ concat (map members (map value_of rs)) ++ members (value_of r)
concat_next rs r = ap (λ vs. concat (map members vs)) (push_behind rs r) ∙ ap concat (rows_push (map value_of rs) (value_of r)) ∙ concat_push (map members (map value_of rs)) (members (value_of r))

pub ruleset joins = (value_of-List, members-List, push_behind, concat_next, append_assoc)

-- ---- transpose
columns_push : (m : ℕ) (rs : List (List Value)) → columns (suc m) rs ≡ columns m rs ++ map (λ r. nth r m) rs ∷ []
columns_push zero rs = ap (λ c. c ∷ []) (heads rs)
  where
    head : (r : List Value) → first_of r ≡ nth r 0
    head [] = refl
    head (x ∷ r) = refl

    heads : (rs : List (List Value)) → map first_of rs ≡ map (λ r. nth r 0) rs
    heads [] = refl
    heads (r ∷ rs) = ap (λ y. y ∷ map first_of rs) (head r) ∙ ap (λ ys. nth r 0 ∷ ys) (heads rs)
columns_push (suc m) rs = ap (λ cs. map first_of rs ∷ cs) (columns_push m (map rest_of rs) ∙ ap (λ c. columns m (map rest_of rs) ++ c ∷ []) (rests rs))
  where
    next : (r : List Value) → nth (rest_of r) m ≡ nth r (suc m)
    next [] = refl
    next (x ∷ r) = refl

    rests : (rs : List (List Value)) → map (λ r. nth r m) (map rest_of rs) ≡ map (λ r. nth r (suc m)) rs
    rests [] = refl
    rests (r ∷ rs) = ap (λ y. y ∷ map (λ r. nth r m) (map rest_of rs)) (next r) ∙ ap (λ ys. nth r (suc m) ∷ ys) (rests rs)

column_of_rows : (n : ℕ) (rs : List Val) → map (λ r. nth r n) (map members (map value_of rs)) ≡ column n rs
column_of_rows n [] = refl
column_of_rows n (r ∷ rs) = ap (λ ys. nth (members (value_of r)) n ∷ ys) (column_of_rows n rs)

pub arrays_push : (rs : List (List Value)) (r : List Value) → map array (rs ++ r ∷ []) ≡ map array rs ++ array r ∷ []
arrays_push [] r = refl
arrays_push (q ∷ rs) r = ap (λ vs. array q ∷ vs) (arrays_push rs r)

pub columns_next : (n : ℕ) (rs : List Val) → map array (columns (n + 1) (map members (map value_of rs))) ≡ map array (columns n (map members (map value_of rs))) ++ array (column n rs) ∷ []
columns_next n rs =
    let rows = map members (map value_of rs) in
    let e : n + 1 ≡ suc n = omega arith in
    ap (λ k. map array (columns k rows)) e ∙ ap (map array) (columns_push n rows) ∙ arrays_push (columns n rows) (map (λ r. nth r n) rows) ∙ ap (λ c. map array (columns n rows) ++ array c ∷ []) (column_of_rows n rs)

pub length-values : (xs : List Val) → length (map value_of xs) ≡ length xs
length-values [] = refl
length-values (x ∷ xs) = ap suc (length-values xs)

pub ruleset transposes = (value_of-List, members-List, push_behind, columns_next, length-values)

-- ---- reverse
pub reverse_values : (xs : List Val) → map value_of (reverse xs) ≡ reverse (map value_of xs)
reverse_values [] = refl
reverse_values (x ∷ xs) =
    ap (map value_of) (reverse_onto xs x [])
    ∙ push_behind (reverse xs) x
    ∙ ap (λ vs. vs ++ value_of x ∷ []) (reverse_values xs)
    ∙ sym (reverse_onto (map value_of xs) (value_of x) [])

pub ruleset reverses = (value_of-List, members-List, reverse_values)

-- ---- stride
-- the columns of pieces, one after another, as arrays of arrays have them
pub stride_is : (k : ℕ) (xs : List Value) (v u w : Value) → v ≡ array_of_rows (pieces (length xs / k) k k xs) → u ≡ array_of_rows (columns (width (rows v)) (rows v)) → w ≡ array (concat (rows u)) → w ≡ array (strided k xs)
stride_is k xs v u w e f g =
    let rs = pieces (length xs / k) k k xs in
    let a : rows v ≡ rs = ap rows e ∙ rows_array rs in
    let b : rows u ≡ columns (width rs) rs = ap rows f ∙ rows_array (columns (width (rows v)) (rows v)) ∙ ap (λ z. columns (width z) z) a in
    g ∙ ap (λ z. array (concat z)) b ∙ ap array (strided_through k xs)

pub ruleset strides = (stride_is)

-- ---- pieces
pub pieces_next : (c s t : ℕ) (xs : List Value) → 0 < c → map array (pieces c s t xs) ≡ array (take s xs) ∷ map array (pieces (c - 1) s t (drop t xs))
pieces_next zero s t xs h = absurd (omega arith)
pieces_next (suc c) s t xs h = let e : suc c - 1 ≡ c = omega arith in ap (λ k. array (take s xs) ∷ map array (pieces k s t (drop t xs))) (sym e)

pub take_values : (n : ℕ) (xs : List Val) → map value_of (take n xs) ≡ take n (map value_of xs)
take_values n xs = sym (take-map value_of n xs)

pub drop_values : (n : ℕ) (xs : List Val) → map value_of (drop n xs) ≡ drop n (map value_of xs)
drop_values n xs = sym (drop-map value_of n xs)

-- to take no more than there are
pub take_min : {A : Type 0} (n : ℕ) (xs : List A) → take (min n (length xs)) xs ≡ take n xs
take_min zero xs = let e : min 0 (length xs) ≡ 0 = omega arith in ap (λ k. take k xs) e
take_min (suc n) [] = let e : min (suc n) 0 ≡ 0 = omega arith in ap (λ k. take k []) e
take_min (suc n) (x ∷ xs) = let e : min (suc n) (suc (length xs)) ≡ suc (min n (length xs)) = omega arith in ap (λ k. take k (x ∷ xs)) e ∙ ap (λ ys. x ∷ ys) (take_min n xs)

pub drop_beyond : (n : ℕ) (xs : List Val) → length xs ≤ n → drop n xs ≡ []
drop_beyond zero [] h = refl
drop_beyond zero (x ∷ xs) h = absurd (omega arith)
drop_beyond (suc n) [] h = refl
drop_beyond (suc n) (x ∷ xs) h = drop_beyond n xs (omega arith)

pub ruleset cuts = (value_of-List, pieces_next, take_values, drop_values)

pub ruleset cut_pieces = (value_of-List, push_behind, append_assoc, append-nil)

pub ruleset counts = (length-values, div-zero)

-- ---- pad
pub replicate_push : (n : ℕ) (v : Value) → replicate (suc n) v ≡ replicate n v ++ v ∷ []
replicate_push zero v = refl
replicate_push (suc n) v = ap (λ vs. v ∷ vs) (replicate_push n v)

pub first_is : (vs : List Value) → nth vs 0 ≡ first_of vs
first_is [] = refl
first_is (v ∷ vs) = refl

pub last_is : (vs : List Value) → nth vs (length vs - 1) ≡ last_of vs
last_is [] = refl
last_is (v ∷ []) = refl
last_is (v ∷ u ∷ vs) = let e : suc (suc (length vs)) - 1 ≡ suc (suc (length vs) - 1) = omega arith in ap (λ k. nth (v ∷ u ∷ vs) k) e ∙ last_is (u ∷ vs)

pub ruleset pads = (value_of-List, push_behind, replicate_push, first_is, last_is, length-values, append_assoc)

-- ---- zip
pub zip_none : (vs us : List Value) → zip_with Both (take 0 vs) (take 0 us) ≡ []
zip_none vs us = refl

pub zip_next : (n : ℕ) (vs us : List Value) → n < length vs → n < length us → zip_with Both (take (suc n) vs) (take (suc n) us) ≡ zip_with Both (take n vs) (take n us) ++ Both (nth vs n) (nth us n) ∷ []
zip_next n [] us h k = absurd (omega arith)
zip_next n (v ∷ vs) [] h k = absurd (omega arith)
zip_next zero (v ∷ vs) (u ∷ us) h k = refl
zip_next (suc n) (v ∷ vs) (u ∷ us) h k = ap (λ ps. Both v u ∷ ps) (zip_next n vs us (omega arith) (omega arith))

take_none : (n : ℕ) → take {A = Value} n [] ≡ []
take_none zero = refl
take_none (suc n) = refl

zip_beyond : (n : ℕ) (vs us : List Value) → min (length vs) (length us) ≤ n → zip_with Both (take n vs) (take n us) ≡ zip_with Both vs us
zip_beyond n [] us h = ap (λ xs. zip_with Both xs (take n us)) (take_none n)
zip_beyond zero (v ∷ vs) [] h = refl
zip_beyond (suc n) (v ∷ vs) [] h = refl
zip_beyond zero (v ∷ vs) (u ∷ us) h = absurd (omega arith)
zip_beyond (suc n) (v ∷ vs) (u ∷ us) h = ap (λ ps. Both v u ∷ ps) (zip_beyond n vs us (omega arith))

-- where the loop ends
pub zip_done : (xs ys : List Val) (vs us : List Value) (n : ℕ) → map value_of xs ≡ vs → map value_of ys ≡ us → min (length xs) (length ys) ≤ n → zip_with Both (take n (map value_of xs)) (take n (map value_of ys)) ≡ zip_with Both vs us
zip_done xs ys vs us n e f h =
    let a = length-values xs in
    let b = length-values ys in
    zip_beyond n (map value_of xs) (map value_of ys) (omega arith) ∙ ap (λ zs. zip_with Both zs (map value_of ys)) e ∙ ap (λ zs. zip_with Both vs zs) f

pub ruleset zips = (value_of-List, push_behind, zip_none, zip_next, length-values)
