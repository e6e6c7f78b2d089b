-- Lists of 0.
use Rattle.std.proofs.Common.{◌≡◌, ℕ, zero, suc, ◌+◌, ◌*◌, List, [], ◌∷◌, ◌++◌, refl, sym, ap, ◌∙◌, arith, append_assoc}
use Rattle.std.specs.Prelude.{map, replicate}
use Rattle.std.proofs.lemmas.List.{map-append}
use Rattle.size_arith.specs.declared.poly.Monomial.{Monomial}
use Rattle.lift_tree.specs.Limits.{components}
use Rattle.lift_tree.specs.Types.{PlainTy, U32, U32x4, PairOf, ArrayOf}
use Rattle.lift_tree.specs.Values.{Side, Left, Right}
use Rattle.value_lists.specs.Lists.{length_at, list_lengths, scalars_at}
use Rattle.value_lists.proofs.Listing.{push_list}

-- lists of 0 of so many values with these many scalars each
abbrev pub blanks : (count : ℕ) → List ℕ → List (List ℕ)
blanks count ns = map (λ n. replicate (count * n) 0) ns

same_along : (ys : List ℕ) (a : PlainTy) (d : List Side → List Side) (b : PlainTy) → ((c : List Side) → scalars_at ys a (d c) ≡ scalars_at ys b c)
    → (cs : List (List Side)) → map (scalars_at ys a) (map d cs) ≡ map (scalars_at ys b) cs
same_along ys a d b h [] = refl
same_along ys a d b h (c ∷ cs) = ap (λ n. n ∷ map (scalars_at ys a) (map d cs)) (h c) ∙ ap (λ ns. scalars_at ys b c ∷ ns) (same_along ys a d b h cs)

pair_lengths : (ys : List ℕ) (a b : PlainTy) → list_lengths ys (PairOf a b) ≡ list_lengths ys a ++ list_lengths ys b
pair_lengths ys a b =
    map-append (scalars_at ys (PairOf a b)) (map (λ c. Left ∷ c) (components a)) (map (λ c. Right ∷ c) (components b))
    ∙ ap (λ ns. ns ++ map (scalars_at ys (PairOf a b)) (map (λ c. Right ∷ c) (components b))) (same_along ys (PairOf a b) (λ c. Left ∷ c) a (λ c. refl) (components a))
    ∙ ap (λ ns. list_lengths ys a ++ ns) (same_along ys (PairOf a b) (λ c. Right ∷ c) b (λ c. refl) (components b))

times_times : (c n s : ℕ) → c * (n * s) ≡ c * n * s
times_times c n s = omega arith

array_blanks : (ys : List ℕ) (count : ℕ) (a : PlainTy) (n : List Monomial) (cs : List (List Side))
    → blanks count (map (scalars_at ys (ArrayOf a n)) cs) ≡ blanks (count * length_at ys n) (map (scalars_at ys a) cs)
array_blanks ys count a n [] = refl
array_blanks ys count a n (c ∷ cs) =
    ap (λ m. replicate m 0 ∷ blanks count (map (scalars_at ys (ArrayOf a n)) cs)) (times_times count (length_at ys n) (scalars_at ys a c))
    ∙ ap (λ ls. replicate (count * length_at ys n * scalars_at ys a c) 0 ∷ ls) (array_blanks ys count a n cs)

one_of : (ns : List ℕ) → blanks 1 ns ≡ map (λ n. replicate n 0) ns
one_of [] = refl
one_of (n ∷ ns) = ap (λ m. replicate m 0 ∷ blanks 1 ns) (let z : 1 * n ≡ n = omega arith in z) ∙ ap (λ ls. replicate n 0 ∷ ls) (one_of ns)

-- ---- one type after another
pub numbers_added : (ys : List ℕ) (count : ℕ) → blanks count (list_lengths ys U32) ≡ replicate count 0 ∷ []
numbers_added ys count = ap (λ m. replicate m 0 ∷ []) (let z : count * 1 ≡ count = omega arith in z)

pub vectors_added : (ys : List ℕ) (count : ℕ) → blanks count (list_lengths ys U32x4) ≡ replicate (count * 4) 0 ∷ []
vectors_added ys count = refl

pub pairs_added : (ys : List ℕ) (count : ℕ) (a b : PlainTy) → blanks count (list_lengths ys (PairOf a b)) ≡ blanks count (list_lengths ys a) ++ blanks count (list_lengths ys b)
pairs_added ys count a b = ap (blanks count) (pair_lengths ys a b) ∙ map-append (λ n. replicate (count * n) 0) (list_lengths ys a) (list_lengths ys b)

pub arrays_added : (ys : List ℕ) (count : ℕ) (a : PlainTy) (n : List Monomial) → blanks count (list_lengths ys (ArrayOf a n)) ≡ blanks (count * length_at ys n) (list_lengths ys a)
arrays_added ys count a n = array_blanks ys count a n (components a)

pub one_added : (ys : List ℕ) (a : PlainTy) → blanks 1 (list_lengths ys a) ≡ map (λ n. replicate n 0) (list_lengths ys a)
one_added ys a = one_of (list_lengths ys a)

pub ruleset added = (numbers_added, vectors_added, pairs_added, arrays_added, one_added, append_assoc, push_list)
