-- Values as the program holds them.
use Rattle.std.proofs.Common.{◌≡◌, ℕ, zero, suc, List, [], ◌∷◌, ◌++◌, ◌-◌, ◌<◌, ◌≤◌, length, refl, ap, rules, ◌∙◌, arith}
use Rattle.std.specs.Prelude.{Vec, map, get_or}
use Rattle.std.specs.Global.{Global}
use Rattle.lift_tree.specs.declared.value.Val as held
use Rattle.lift_tree.specs.declared.value.Val.{Val, the_lemmas, Row_of-Val, end_of-Val, more_of-Val, items-the_row-Val}
use Rattle.lift_tree.specs.Values.{Value, Word, More, value_of, row_value, array, members, word, first, second, nth}
use Rattle.lift_tree.proofs.Members.{members-array}

row_items : (n : _) (row : Row_of-Val n) → row_value row ≡ array (map value_of (items-the_row-Val n row))
row_items n end_of-Val = refl
row_items n (more_of-Val v rest) = ap (More (value_of v)) (row_items _ rest)

pub value_of-List : (xs : Vec Val Global) → value_of (held.List xs) ≡ array (map value_of xs.items)
value_of-List xs = search (rules, the_lemmas, row_items)

-- a list is no number and no pair
array_has_no : {B : Type 0} (f : Value → B) (b : B) → f (array []) ≡ b → ((v : Value) (vs : List Value) → f (array (v ∷ vs)) ≡ b) → (vs : List Value) → f (array vs) ≡ b
array_has_no f b p q [] = p
array_has_no f b p q (v ∷ vs) = q v vs

pub word-List : (xs : Vec Val Global) → word (value_of (held.List xs)) ≡ 0
word-List xs = ap word (value_of-List xs) ∙ array_has_no word 0 refl (λ v vs. refl) (map value_of xs.items)

pub first-List : (xs : Vec Val Global) → first (value_of (held.List xs)) ≡ Word 0
first-List xs = ap first (value_of-List xs) ∙ array_has_no first (Word 0) refl (λ v vs. refl) (map value_of xs.items)

pub second-List : (xs : Vec Val Global) → second (value_of (held.List xs)) ≡ Word 0
second-List xs = ap second (value_of-List xs) ∙ array_has_no second (Word 0) refl (λ v vs. refl) (map value_of xs.items)

pub members-List : (xs : Vec Val Global) → members (value_of (held.List xs)) ≡ map value_of xs.items
members-List xs = ap members (value_of-List xs) ∙ members-array (map value_of xs.items)

pub ruleset held_values = (value_of-List, word-List, first-List, second-List, members-List)

-- ---- by number
pub nth-get : (xs : List Val) (n : ℕ) (d : Val) → n < length xs → value_of (get_or xs n d) ≡ nth (map value_of xs) n
nth-get [] n d h = absurd (omega arith)
nth-get (x ∷ xs) zero d h = refl
nth-get (x ∷ xs) (suc n) d h = nth-get xs n d (omega arith)

pub nth-beyond : (xs : List Val) (n : ℕ) → length xs ≤ n → nth (map value_of xs) n ≡ Word 0
nth-beyond [] n h = refl
nth-beyond (x ∷ xs) zero h = absurd (omega arith)
nth-beyond (x ∷ xs) (suc n) h = nth-beyond xs n (omega arith)

pub ruleset at = (nth-get, nth-beyond)

-- ---- binders
pub past : (v : Value) (vs : List Value) (n : ℕ) → 0 < n → nth (v ∷ vs) n ≡ nth vs (n - 1)
past v vs zero h = absurd (omega arith)
past v vs (suc n) h = ap (nth vs) (let e : n ≡ suc n - 1 = omega arith in e)

-- ---- one value more
pub push_behind : (vs : List Val) (v : Val) → map value_of (vs ++ v ∷ []) ≡ map value_of vs ++ value_of v ∷ []
push_behind [] v = refl
push_behind (x ∷ vs) v = ap (λ us. value_of x ∷ us) (push_behind vs v)
