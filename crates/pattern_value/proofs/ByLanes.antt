-- What operators build lane by lane.
use Rattle.std.proofs.Common.{◌≡◌, ℕ, zero, suc, ◌<◌, ◌≤◌, true, false, List, [], ◌∷◌, ◌++◌, refl, ap, ◌∙◌, sym, take, length, arith}
use Rattle.std.specs.Prelude.{Vec, map, replicate, min, Result, Ok, Err, IfOk}
use Rattle.std.specs.Global.{Global}
use Rattle.lift_tree.specs.declared.value.Val as held
use Rattle.lift_tree.specs.declared.value.Val.{Val}
use Rattle.lift_tree.specs.Lists.{zip_with}
use Rattle.lift_tree.specs.Meaning.{on_lanes}
use Rattle.lift_tree.specs.Values.{Value, Word, Both, Nil, More, value_of, array, members, nth}
use Rattle.lift_tree.proofs.Members.{members-array}
use Rattle.pattern_value.specs.Shut.{is_more, lane}
use Rattle.pattern_value.proofs.Held.{value_of-List, push_behind}
use Rattle.pattern_value.proofs.Layouts.{length-values, replicate_push}

-- ---- lists with members
none_among : (xs : List Val) → length xs < 1 → false ≡ is_more (array (map value_of xs))
none_among [] h = refl
none_among (x ∷ xs) h = absurd (omega arith)

some_among : (xs : List Val) → 0 < length xs → true ≡ is_more (array (map value_of xs))
some_among [] h = absurd (omega arith)
some_among (x ∷ xs) h = refl

pub no_members : (v : Val) (xs : Vec Val Global) → v ≡ held.List xs → length xs.items < 1 → false ≡ is_more (value_of v)
no_members v xs e h = none_among xs.items h ∙ ap is_more (sym (ap value_of e ∙ value_of-List xs))

pub some_members : (v : Val) (xs : Vec Val Global) → v ≡ held.List xs → 0 < length xs.items → true ≡ is_more (value_of v)
some_members v xs e h = some_among xs.items h ∙ ap is_more (sym (ap value_of e ∙ value_of-List xs))

pub ruleset spreads = (push_behind, replicate_push)

-- ---- zip
take_none : (n : ℕ) → take {A = Value} n [] ≡ []
take_none zero = refl
take_none (suc n) = refl

module _ (f : Value → Value → Value) where
  pub zip_next : (n : ℕ) (vs us : List Value) → n < length vs → n < length us → zip_with f (take (suc n) vs) (take (suc n) us) ≡ zip_with f (take n vs) (take n us) ++ f (nth vs n) (nth us n) ∷ []
  zip_next n [] us h k = absurd (omega arith)
  zip_next n (v ∷ vs) [] h k = absurd (omega arith)
  zip_next zero (v ∷ vs) (u ∷ us) h k = refl
  zip_next (suc n) (v ∷ vs) (u ∷ us) h k = ap (λ ps. f v u ∷ ps) (zip_next n vs us (omega arith) (omega arith))

  zip_beyond : (n : ℕ) (vs us : List Value) → min (length vs) (length us) ≤ n → zip_with f (take n vs) (take n us) ≡ zip_with f vs us
  zip_beyond n [] us h = ap (λ xs. zip_with f xs (take n us)) (take_none n)
  zip_beyond zero (v ∷ vs) [] h = refl
  zip_beyond (suc n) (v ∷ vs) [] h = refl
  zip_beyond zero (v ∷ vs) (u ∷ us) h = absurd (omega arith)
  zip_beyond (suc n) (v ∷ vs) (u ∷ us) h = ap (λ ps. f v u ∷ ps) (zip_beyond n vs us (omega arith))

  -- where the loop ends
  pub zip_done : (xs ys : List Val) (vs us : List Value) (n : ℕ) → map value_of xs ≡ vs → map value_of ys ≡ us → min (length xs) (length ys) ≤ n → zip_with f (take n (map value_of xs)) (take n (map value_of ys)) ≡ zip_with f vs us
  zip_done xs ys vs us n e g h =
      let a = length-values xs in
      let b = length-values ys in
      zip_beyond n (map value_of xs) (map value_of ys) (omega arith) ∙ ap (λ zs. zip_with f zs (map value_of ys)) e ∙ ap (λ zs. zip_with f vs zs) g

  zip_right : (vs : List Value) (u : Value) → zip_with f vs (replicate (length vs) u) ≡ map (λ v. f v u) vs
  zip_right [] u = refl
  zip_right (v ∷ vs) u = ap (λ ps. f v u ∷ ps) (zip_right vs u)

  zip_left : (v : Value) (us : List Value) → zip_with f (replicate (length us) v) us ≡ map (λ u. f v u) us
  zip_left v [] = refl
  zip_left v (u ∷ us) = ap (λ ps. f v u ∷ ps) (zip_left v us)

pub zips_next : (f : ℕ → ℕ → ℕ) (n : ℕ) (vs us : List Value) → n < length vs → n < length us → zip_with (lane f) (take (suc n) vs) (take (suc n) us) ≡ zip_with (lane f) (take n vs) (take n us) ++ lane f (nth vs n) (nth us n) ∷ []
zips_next f n vs us h k = zip_next (lane f) n vs us h k

pub ruleset zips = (push_behind, zips_next, length-values)

-- ---- the cases
pub both_lists : (f : ℕ → ℕ → ℕ) (v u : Value) → is_more v ≡ true → is_more u ≡ true → array (zip_with (lane f) (members v) (members u)) ≡ on_lanes f v u
both_lists f (More x xs) (More y ys) h k = refl
both_lists f _ _ h k = absurd (cc)

pub left_list : (f : ℕ → ℕ → ℕ) (v u : Value) → is_more v ≡ true → is_more u ≡ false → array (zip_with (lane f) (members v) (replicate (length (members v)) u)) ≡ on_lanes f v u
left_list f (More x xs) (Word n) h k = ap array (zip_right (lane f) (members (More x xs)) (Word n))
left_list f (More x xs) (Both a b) h k = ap array (zip_right (lane f) (members (More x xs)) (Both a b))
left_list f (More x xs) Nil h k = ap array (zip_right (lane f) (members (More x xs)) Nil)
left_list f _ _ h k = absurd (cc)

pub right_list : (f : ℕ → ℕ → ℕ) (v u : Value) → is_more v ≡ false → is_more u ≡ true → array (zip_with (lane f) (replicate (length (members u)) v) (members u)) ≡ on_lanes f v u
right_list f (Word n) (More y ys) h k = ap array (zip_left (lane f) (Word n) (members (More y ys)))
right_list f (Both a b) (More y ys) h k = ap array (zip_left (lane f) (Both a b) (members (More y ys)))
right_list f Nil (More y ys) h k = ap array (zip_left (lane f) Nil (members (More y ys)))
right_list f _ _ h k = absurd (cc)

pub no_list : (f : ℕ → ℕ → ℕ) (v u : Value) → is_more v ≡ false → is_more u ≡ false → lane f v u ≡ on_lanes f v u
no_list f (Word n) (Word m) h k = refl
no_list f (Word n) (Both c d) h k = refl
no_list f (Word n) Nil h k = refl
no_list f (Both a b) (Word m) h k = refl
no_list f (Both a b) (Both c d) h k = refl
no_list f (Both a b) Nil h k = refl
no_list f Nil (Word m) h k = refl
no_list f Nil (Both c d) h k = refl
no_list f Nil Nil h k = refl
no_list f _ _ h k = absurd (cc)

pub right_result : {E : Type 0} (f : ℕ → ℕ → ℕ) (v u l : Val) (ys : List Val) (r : Result Val E) → is_more (value_of v) ≡ false → is_more (value_of u) ≡ true → map value_of ys ≡ members (value_of u) → value_of l ≡ array (replicate (length ys) (value_of v))
    → IfOk r (λ w. value_of w ≡ array (zip_with (lane f) (members (value_of l)) (members (value_of u)))) → IfOk r (λ w. value_of w ≡ on_lanes f (value_of v) (value_of u))
right_result f v u l ys (Ok w) h k m e p =
    p
    ∙ ap (λ z. array (zip_with (lane f) z (members (value_of u)))) (ap members e ∙ members-array (replicate (length ys) (value_of v)) ∙ ap (λ n. replicate n (value_of v)) (sym (length-values ys) ∙ ap length m))
    ∙ right_list f (value_of v) (value_of u) h k
right_result f v u l ys (Err x) h k m e p = p

pub ruleset lanes = (both_lists, left_list, right_list, no_list, members-array, length-values)
