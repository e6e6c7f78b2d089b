-- The parts of a word between dots.
use Rattle.std.proofs.Common.{◌≡◌, ◌∙◌, ◌+◌, ◌-◌, ◌≤◌, ◌≢◌, ◌==◌, ℕ, List, [], ◌∷◌, ◌++◌, true, false, not, cond, ap, ap₂, length, take, drop, refl, arith, sym, Option, Some, None, append_assoc}
use Rattle.std.specs.Prelude.{option_map, option_and_then}
use Rattle.std.specs.List.{slice_split, onto_first, position_or_len, before_first, after_first}
use Rattle.std.proofs.lemmas.List.Splits.{slice_split_first}
use Rattle.std.proofs.lemmas.List.{take_rest}
use Rattle.strategy_script.specs.Numbers.{is_dot, number_of, numbers_of}

-- a text without a dot is the one part
pub one_part : (text : List ℕ) → position_or_len is_dot text ≡ length text → slice_split is_dot text ≡ text ∷ []
one_part [] e = refl
one_part (b ∷ bs) e =
    elim (b == 46) as (λ v. cond (not v) (1 + position_or_len is_dot bs) 0 ≡ length (b ∷ bs) → cond v ([] ∷ slice_split is_dot bs) (onto_first b (slice_split is_dot bs)) ≡ (b ∷ bs) ∷ []) [
      | true ↦ λ h. absurd (omega (arith, h))
      | false ↦ λ h. ap (onto_first b) (one_part bs (omega (arith, h)))
    ] e

-- a part that a dot ends is followed by the parts behind it
pub first_part : (text : List ℕ) (n : ℕ) → n ≡ position_or_len is_dot text → n ≢ length text → n ≤ length text
    → slice_split is_dot text ≡ take n text ∷ slice_split is_dot (take (length text - (n + 1)) (drop (n + 1) text))
first_part text n is more within =
    let front : before_first is_dot text ≡ take n text = ap (λ (k : ℕ). take k text) (sym is) in
    let back : after_first is_dot text ≡ take (length text - (n + 1)) (drop (n + 1) text) = ap (λ (k : ℕ). drop (k + 1) text) (sym is) ∙ sym (take_rest text (n + 1)) in
    slice_split_first is_dot text 0 (omega (arith, is, more, within)) ∙ ap₂ (λ (v : List ℕ) (w : List ℕ). v ∷ slice_split is_dot w) front back

-- ---- the numbers so far, and those of the parts to come
after : List ℕ → List (List ℕ) → Option (List ℕ)
after xs parts = option_map (λ ns. xs ++ ns) (numbers_of parts)

-- a part that writes none
pub none_here : (xs : List ℕ) (parts words : List (List ℕ)) (word : List ℕ) (all : Option (List ℕ)) → parts ≡ word ∷ words → None ≡ number_of word
    → option_map (λ ns. xs ++ ns) (numbers_of parts) ≡ all → None ≡ all
none_here xs parts words word all p e h =
    ap (λ (o : Option ℕ). option_map (λ ns. xs ++ ns) (option_and_then (λ n. option_map (λ ns. n ∷ ns) (numbers_of words)) o)) e
    ∙ ap (λ (ps : List (List ℕ)). option_map (λ ns. xs ++ ns) (numbers_of ps)) (sym p)
    ∙ h

onto : (xs : List ℕ) (n : ℕ) (o : Option (List ℕ)) → option_map (λ ns. (xs ++ n ∷ []) ++ ns) o ≡ option_map (λ ns. xs ++ ns) (option_map (λ ns. n ∷ ns) o)
onto xs n None = refl
onto xs n (Some ns) = ap Some (append_assoc xs (n ∷ []) ns)

-- a part that writes a number
pub one_more : (xs ys : List ℕ) (n : ℕ) (parts words : List (List ℕ)) (word : List ℕ) (all : Option (List ℕ)) → parts ≡ word ∷ words → Some n ≡ number_of word → ys ≡ xs ++ n ∷ []
    → option_map (λ ns. xs ++ ns) (numbers_of parts) ≡ all → option_map (λ ns. ys ++ ns) (numbers_of words) ≡ all
one_more xs ys n parts words word all p e y h =
    ap (λ (zs : List ℕ). option_map (λ ns. zs ++ ns) (numbers_of words)) y
    ∙ onto xs n (numbers_of words)
    ∙ ap (λ (o : Option ℕ). option_map (λ ns. xs ++ ns) (option_and_then (λ n. option_map (λ ns. n ∷ ns) (numbers_of words)) o)) e
    ∙ ap (λ (ps : List (List ℕ)). option_map (λ ns. xs ++ ns) (numbers_of ps)) (sym p)
    ∙ h

append-nil : (xs : List ℕ) → xs ++ [] ≡ xs
append-nil [] = refl
append-nil (x ∷ xs) = ap (λ (ys : List ℕ). x ∷ ys) (append-nil xs)

-- the last part
pub last_one : (xs ys : List ℕ) (n : ℕ) (parts : List (List ℕ)) (word : List ℕ) (all : Option (List ℕ)) → parts ≡ word ∷ [] → Some n ≡ number_of word → ys ≡ xs ++ n ∷ []
    → option_map (λ ns. xs ++ ns) (numbers_of parts) ≡ all → Some ys ≡ all
last_one xs ys n parts word all p e y h = ap Some (sym (append-nil ys)) ∙ one_more xs ys n parts [] word all p e y h
