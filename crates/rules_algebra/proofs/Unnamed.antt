-- A term that doesn't name a binder.
use Rattle.std.proofs.Common.{◌≡◌, ℕ, zero, suc, ◌+◌, ◌-◌, ◌<◌, Bool, true, false, Some, refl, ap, ◌∙◌, arith}
use Rattle.std.specs.Prelude.{◌||◌, nat_eq, nat_lt, option_map}
use Rattle.std.proofs.lemmas.Bool.Decides.{nat_tests}
use Rattle.lift_tree.specs.Tree.{Tree, Variable, Number, Input, Unary, Binary, Select, Let, Map, Fold}
use Rattle.lift_tree.specs.Renumbering.{up, down, raise, put_variable, put, mentions}
use Rattle.lift_tree.proofs.Numbers.{up-before, up-after, down-before, down-after, unnamed_left, unnamed_right}

-- ---- raised, and lowered again
down-up : (k n : ℕ) → down k (up 1 k n) ≡ Some n
down-up zero n = let e : n + 1 ≡ suc n = omega arith in ap (down zero) e
down-up (suc k) zero = refl
down-up (suc k) (suc n) = ap (option_map suc) (down-up k n)

pub put-raise : (k : ℕ) (s t : Tree) → put k s (raise k t) ≡ t
put-raise k s (Variable n) = ap (put_variable k s) (down-up k n)
put-raise k s (Number n) = refl
put-raise k s (Input n) = refl
put-raise k s (Unary f t) = ap (Unary f) (put-raise k s t)
put-raise k s (Binary f t u) = let p = put-raise k s t in let q = put-raise k s u in cc
put-raise k s (Select t u v) = let p = put-raise k s t in let q = put-raise k s u in let r = put-raise k s v in cc
put-raise k s (Let v b) = let p = put-raise k s v in let q = put-raise (suc k) s b in cc
put-raise k s (Map h xs b) = let p = put-raise k s xs in let q = put-raise (suc k) s b in cc
put-raise k s (Fold h xs t b) = let p = put-raise k s xs in let q = put-raise k s t in let r = put-raise (suc (suc k)) s b in cc

-- ---- lowered, and raised again
apart : (n k : ℕ) → nat_eq n k ≡ false → (n ≡ k → ⊥)
apart n k h = grind (arith, nat_tests)

number_back : (k n : ℕ) (s : Tree) → (n ≡ k → ⊥) → raise k (put_variable k s (down k n)) ≡ Variable n
number_back k n s h = at (nat_lt n k) refl
  where
    at : (b : Bool) → nat_lt n k ≡ b → raise k (put_variable k s (down k n)) ≡ Variable n
    at true e =
        let b : n < k = grind (arith, nat_tests) in
        ap (λ o. raise k (put_variable k s o)) (down-before k n b) ∙ ap Variable (up-before 1 k n b)
    at false e =
        let c : n < k → ⊥ = grind (arith, nat_tests) in
        let b : k < n = omega arith in
        let f : n - 1 + 1 ≡ n = omega arith in
        ap (λ o. raise k (put_variable k s o)) (down-after k n b) ∙ ap Variable (up-after 1 k (n - 1) (omega arith) ∙ f)

pub raise-put : (k : ℕ) (s t : Tree) → mentions k t ≡ false → raise k (put k s t) ≡ t
raise-put k s (Variable n) h = number_back k n s (apart n k h)
raise-put k s (Number n) h = refl
raise-put k s (Input n) h = refl
raise-put k s (Unary f t) h = ap (Unary f) (raise-put k s t h)
raise-put k s (Binary f t u) h =
    let p = raise-put k s t (unnamed_left (mentions k t) (mentions k u) h) in
    let q = raise-put k s u (unnamed_right (mentions k t) (mentions k u) h) in
    cc
raise-put k s (Select t u v) h =
    let more = unnamed_right (mentions k t) (mentions k u || mentions k v) h in
    let p = raise-put k s t (unnamed_left (mentions k t) (mentions k u || mentions k v) h) in
    let q = raise-put k s u (unnamed_left (mentions k u) (mentions k v) more) in
    let r = raise-put k s v (unnamed_right (mentions k u) (mentions k v) more) in
    cc
raise-put k s (Let v b) h =
    let p = raise-put k s v (unnamed_left (mentions k v) (mentions (suc k) b) h) in
    let q = raise-put (suc k) s b (unnamed_right (mentions k v) (mentions (suc k) b) h) in
    cc
raise-put k s (Map o xs b) h =
    let p = raise-put k s xs (unnamed_left (mentions k xs) (mentions (suc k) b) h) in
    let q = raise-put (suc k) s b (unnamed_right (mentions k xs) (mentions (suc k) b) h) in
    cc
raise-put k s (Fold o xs t b) h =
    let more = unnamed_right (mentions k xs) (mentions k t || mentions (suc (suc k)) b) h in
    let p = raise-put k s xs (unnamed_left (mentions k xs) (mentions k t || mentions (suc (suc k)) b) h) in
    let q = raise-put k s t (unnamed_left (mentions k t) (mentions (suc (suc k)) b) more) in
    let r = raise-put (suc (suc k)) s b (unnamed_right (mentions k t) (mentions (suc (suc k)) b) more) in
    cc
