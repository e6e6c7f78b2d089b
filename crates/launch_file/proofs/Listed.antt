-- Texts of the values that lists hold, with commas between.
use Rattle.std.proofs.Common.{◌≡◌, ◌∙◌, ◌+◌, ◌*◌, ◌++◌, ◌<◌, ◌≤◌, ℕ, zero, suc, List, [], ◌∷◌, ap, sym, length, map, append_assoc, append-nil, refl, arith}
use Rattle.std.specs.List.{join_with_byte}
use Rattle.std.proofs.lemmas.List.{map-append, length-map}
use Rattle.lift_tree.specs.Values.{Value, array}
use Rattle.size_arith.specs.declared.poly.Monomial.{Monomial}
use Rattle.lift_tree.specs.Types.{PlainTy, ArrayOf}
use Rattle.value_lists.specs.Lists.{length_at, members_from, value_in}
use Rattle.launch_file.specs.ResultLine.{value_text}
use Rattle.launch_file.proofs.Texts.{join_with_byte-push, value_text-array}

-- the texts of so many values, with commas between
abbrev pub listed : (ℕ → Value) → ℕ → List ℕ
listed f n = join_with_byte 44 (map value_text (members_from f 0 n))

one_more_from : (f : ℕ → Value) (i n : ℕ) → members_from f i (n + 1) ≡ members_from f i n ++ f (i + n) ∷ []
one_more_from f i zero = ap (λ k. members_from f i k) (let z : 0 + 1 ≡ 1 = omega arith in z) ∙ ap (λ k. f k ∷ []) (let z : i ≡ i + 0 = omega arith in z)
one_more_from f i (suc n) =
    ap (λ k. members_from f i k) (let z : suc n + 1 ≡ suc (n + 1) = omega arith in z)
    ∙ ap (λ vs. f i ∷ vs) (one_more_from f (suc i) n)
    ∙ ap (λ k. f i ∷ (members_from f (suc i) n ++ f k ∷ [])) (let z : suc i + n ≡ i + suc n = omega arith in z)

one_more : (f : ℕ → Value) (n : ℕ) → map value_text (members_from f 0 (n + 1)) ≡ map value_text (members_from f 0 n) ++ value_text (f n) ∷ []
one_more f n =
    ap (map value_text) (one_more_from f 0 n ∙ ap (λ k. members_from f 0 n ++ f k ∷ []) (let z : 0 + n ≡ n = omega arith in z))
    ∙ map-append value_text (members_from f 0 n) (f n ∷ [])

how_many : (f : ℕ → Value) (i n : ℕ) → length (members_from f i n) ≡ n
how_many f i zero = refl
how_many f i (suc n) = ap suc (how_many f (suc i) n)

-- ---- steps of the loop over an array's elements
pub listed_first : (f : ℕ → Value) (base old mid new : List ℕ) (n : ℕ) → n ≤ 0 → old ≡ base ++ listed f n → mid ≡ old → new ≡ mid ++ value_text (f n) → new ≡ base ++ listed f (n + 1)
listed_first f base old mid new n first so_far m e =
    let none : n ≡ 0 = omega (arith, first) in
    let before : listed f n ≡ [] = ap (listed f) none in
    let after : listed f (n + 1) ≡ value_text (f n) = ap (join_with_byte 44) (one_more f n) ∙ ap (λ k. join_with_byte 44 (map value_text (members_from f 0 k) ++ value_text (f n) ∷ [])) none in
    e ∙ ap (λ (w : List ℕ). w ++ value_text (f n)) (m ∙ so_far ∙ ap (λ (w : List ℕ). base ++ w) before ∙ append-nil base) ∙ ap (λ (w : List ℕ). base ++ w) (sym after)

pub listed_more : (f : ℕ → Value) (base old mid new : List ℕ) (n : ℕ) → 0 < n → old ≡ base ++ listed f n → mid ≡ old ++ 44 ∷ [] → new ≡ mid ++ value_text (f n) → new ≡ base ++ listed f (n + 1)
listed_more f base old mid new n more so_far m e =
    let some : 0 < length (map value_text (members_from f 0 n)) = omega (arith, more, length-map (members_from f 0 n) value_text, how_many f 0 n) in
    let after : listed f (n + 1) ≡ listed f n ++ 44 ∷ value_text (f n) =
    ap (join_with_byte 44) (one_more f n) ∙ join_with_byte-push 44 (map value_text (members_from f 0 n)) (value_text (f n)) some in
    e ∙ ap (λ (w : List ℕ). w ++ value_text (f n)) m
    ∙ append_assoc old (44 ∷ []) (value_text (f n))
    ∙ ap (λ (w : List ℕ). w ++ (44 ∷ value_text (f n))) so_far
    ∙ append_assoc base (listed f n) (44 ∷ value_text (f n))
    ∙ ap (λ (w : List ℕ). base ++ w) (sym after)

pub listed_done : (f : ℕ → Value) (old one so_far new : List ℕ) (n : ℕ) → one ≡ old ++ 91 ∷ [] → so_far ≡ one ++ listed f n → new ≡ so_far ++ 93 ∷ [] → new ≡ old ++ value_text (array (members_from f 0 n))
listed_done f old one so_far new n o s e =
    let j = listed f n in
    e ∙ ap (λ (w : List ℕ). w ++ 93 ∷ []) (s ∙ ap (λ (w : List ℕ). w ++ j) o ∙ append_assoc old (91 ∷ []) j)
    ∙ append_assoc old ((91 ∷ []) ++ j) (93 ∷ [])
    ∙ ap (λ (w : List ℕ). old ++ w) (sym (value_text-array (members_from f 0 n)))

-- the elements that an array has, as many as its length says
pub listed_array : (ys : List ℕ) (a : PlainTy) (n : List Monomial) (rows : List (List ℕ)) (component number count index : ℕ) (old new : List ℕ) → count ≡ length_at ys n → index ≡ count
    → new ≡ old ++ value_text (array (members_from (λ j. value_in ys a rows component (number * count + j)) 0 index)) → new ≡ old ++ value_text (value_in ys (ArrayOf a n) rows component number)
listed_array ys a n rows component number count index old new c i e =
    e ∙ ap (λ k. old ++ value_text (array (members_from (λ j. value_in ys a rows component (number * count + j)) 0 k))) i
    ∙ ap (λ m. old ++ value_text (array (members_from (λ j. value_in ys a rows component (number * m + j)) 0 m))) c
