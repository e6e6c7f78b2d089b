-- Texts of values, with commas between.
use Rattle.std.proofs.Common.{◌≡◌, ◌∙◌, ◌+◌, ◌^◌, ◌++◌, ◌<◌, ◌≤◌, ℕ, decimal, List, [], ◌∷◌, ap, sym, length, take, get_or, map, append_assoc, append-nil, refl, arith}
use Rattle.std.specs.Prelude.{Vec}
use Rattle.std.specs.Global.{Global}
use Rattle.std.specs.List.{join_with_byte}
use Rattle.std.proofs.lemmas.Fmt.{decimal_digit, length-decimal-le}
use Rattle.std.proofs.lemmas.List.{take_all, take_more, map-append, length-map, length-take-le}
use Rattle.lift_tree.specs.declared.value.Val as held
use Rattle.lift_tree.specs.declared.value.Val.{Val}
use Rattle.lift_tree.specs.Values.{Value, value_of, array}
use Rattle.launch_file.specs.ResultLine.{list_text, value_text, member_texts}
use Rattle.launch_file.proofs.ReadValues.{value_of-List}

abbrev pub text_of : Val → List ℕ
text_of v = value_text (value_of v)

member_texts-array : (vs : List Value) → member_texts (array vs) ≡ map value_text vs
member_texts-array [] = refl
member_texts-array (v ∷ vs) = ap (λ ts. value_text v ∷ ts) (member_texts-array vs)

pub value_text-array : (vs : List Value) → value_text (array vs) ≡ list_text (map value_text vs)
value_text-array [] = refl
value_text-array (v ∷ vs) = ap (λ ts. list_text (value_text v ∷ ts)) (member_texts-array vs)

texts_of : (vs : List Val) → map value_text (map value_of vs) ≡ map text_of vs
texts_of [] = refl
texts_of (v ∷ vs) = ap (λ ts. text_of v ∷ ts) (texts_of vs)

pub value_text-List : (xs : Vec Val Global) → value_text (value_of (held.List xs)) ≡ list_text (map text_of xs.items)
value_text-List xs = ap value_text (value_of-List xs) ∙ value_text-array (map value_of xs.items) ∙ ap list_text (texts_of xs.items)

pub ruleset value_texts = (value_text-List)

pub ruleset one_digit = (decimal_digit)

-- a number of 64 bits has at most so many digits
pub most_digits : (n : ℕ) → n < 2 ^ 64 → length (decimal n) ≤ 20
most_digits n h = length-decimal-le 20 n (omega arith) (omega (arith, h)) h

-- a further piece stands behind the others and a byte
pub join_with_byte-push : (c : ℕ) (pieces : List (List ℕ)) (piece : List ℕ) → 0 < length pieces
    → join_with_byte c (pieces ++ piece ∷ []) ≡ join_with_byte c pieces ++ c ∷ piece
join_with_byte-push c [] piece h = absurd (omega (arith, h))
join_with_byte-push c (x ∷ []) piece h = refl
join_with_byte-push c (x ∷ y ∷ pieces) piece h =
    ap (λ (w : List ℕ). x ++ (c ∷ w)) (join_with_byte-push c (y ∷ pieces) piece (omega arith))
    ∙ sym (append_assoc x (c ∷ join_with_byte c (y ∷ pieces)) (c ∷ piece))

-- the first so many members, with commas between
abbrev pub joined : List Val → ℕ → List ℕ
joined xs i = join_with_byte 44 (map text_of (take i xs))

one_more : (xs : List Val) (i : ℕ) (d : Val) → i < length xs → map text_of (take (i + 1) xs) ≡ map text_of (take i xs) ++ text_of (get_or xs i d) ∷ []
one_more xs i d h = ap (λ (w : List Val). map text_of w) (take_more xs i d h) ∙ map-append text_of (take i xs) (get_or xs i d ∷ [])

-- the first member
pub joined_first : (base text : List ℕ) (xs : List Val) (i : ℕ) (d : Val) → i ≤ 0 → i < length xs → text ≡ base ++ joined xs i → text ++ text_of (get_or xs i d) ≡ base ++ joined xs (i + 1)
joined_first base text xs i d first h so_far =
    let none : i ≡ 0 = omega (arith, first) in
    let before : joined xs i ≡ [] = ap (joined xs) none in
    let after : joined xs (i + 1) ≡ text_of (get_or xs i d) =
    ap (join_with_byte 44) (one_more xs i d h) ∙ ap (λ (k : ℕ). join_with_byte 44 (map text_of (take k xs) ++ text_of (get_or xs i d) ∷ [])) none in
    ap (λ (w : List ℕ). w ++ text_of (get_or xs i d)) (so_far ∙ ap (λ (w : List ℕ). base ++ w) before ∙ append-nil base) ∙ ap (λ (w : List ℕ). base ++ w) (sym after)

-- a further member
pub joined_more : (base text : List ℕ) (xs : List Val) (i : ℕ) (d : Val) → 0 < i → i < length xs → text ≡ base ++ joined xs i → (text ++ 44 ∷ []) ++ text_of (get_or xs i d) ≡ base ++ joined xs (i + 1)
joined_more base text xs i d more h so_far =
    let some : 0 < length (map text_of (take i xs)) = omega (arith, more, length-map (take i xs) text_of, length-take-le i xs (omega (arith, h))) in
    let after : joined xs (i + 1) ≡ joined xs i ++ 44 ∷ text_of (get_or xs i d) =
    ap (join_with_byte 44) (one_more xs i d h) ∙ join_with_byte-push 44 (map text_of (take i xs)) (text_of (get_or xs i d)) some in
    append_assoc text (44 ∷ []) (text_of (get_or xs i d))
    ∙ ap (λ (w : List ℕ). w ++ (44 ∷ text_of (get_or xs i d))) so_far
    ∙ append_assoc base (joined xs i) (44 ∷ text_of (get_or xs i d))
    ∙ ap (λ (w : List ℕ). base ++ w) (sym after)

-- ---- steps of the loop over a list's members
pub text_first : (base old mid new : List ℕ) (xs : List Val) (i : ℕ) (x : Val) → x ≡ get_or xs i x → i ≤ 0 → i < length xs → old ≡ base ++ joined xs i → mid ≡ old → new ≡ mid ++ text_of x → new ≡ base ++ joined xs (i + 1)
text_first base old mid new xs i x e first h so_far m n =
    n ∙ ap (λ (w : List ℕ). w ++ text_of x) m ∙ ap (λ (y : Val). old ++ text_of y) e ∙ joined_first base old xs i x first h so_far

pub text_more : (base old mid new : List ℕ) (xs : List Val) (i : ℕ) (x : Val) → x ≡ get_or xs i x → 0 < i → i < length xs → old ≡ base ++ joined xs i → mid ≡ old ++ 44 ∷ [] → new ≡ mid ++ text_of x → new ≡ base ++ joined xs (i + 1)
text_more base old mid new xs i x e more h so_far m n =
    n ∙ ap (λ (w : List ℕ). w ++ text_of x) m ∙ ap (λ (y : Val). (old ++ 44 ∷ []) ++ text_of y) e ∙ joined_more base old xs i x more h so_far

pub text_done : (old one so_far new : List ℕ) (value : Val) (members : Vec Val Global) (xs : List Val) (i : ℕ) → value ≡ held.List members → xs ≡ members.items → length xs ≤ i
    → one ≡ old ++ 91 ∷ [] → so_far ≡ one ++ joined xs i → new ≡ so_far ++ 93 ∷ [] → new ≡ old ++ text_of value
text_done old one so_far new value members xs i v m all o s n =
    let whole : joined xs i ≡ join_with_byte 44 (map text_of members.items) = ap (λ (ys : List Val). join_with_byte 44 (map text_of ys)) (take_all i xs all ∙ m) in
    let j = join_with_byte 44 (map text_of members.items) in
    n ∙ ap (λ (w : List ℕ). w ++ 93 ∷ []) (s ∙ ap (λ (w : List ℕ). w ++ joined xs i) o ∙ ap (λ (w : List ℕ). (old ++ 91 ∷ []) ++ w) whole ∙ append_assoc old (91 ∷ []) j)
    ∙ append_assoc old ((91 ∷ []) ++ j) (93 ∷ [])
    ∙ ap (λ (w : List ℕ). old ++ w) (sym (ap text_of v ∙ value_text-List members))
