-- How many kernels a cut makes.
use Rattle.std.proofs.Common.{◌≡◌, ℕ, ◌+◌, ◌<◌, None, Some, subst, List, [], ◌∷◌, length, length-append, refl, arith}
use Rattle.std.specs.Prelude.{if◌then◌else◌, nat_lt}
use Rattle.std.proofs.lemmas.Bool.{lt-ltb}
use Rattle.lift_tree.specs.declared.term.UnaryForm.TheVariants.{Then}
use Rattle.lift_tree.specs.Tree.{Tree, Unary, Binary, Select, Let, Map, Fold}
use Rattle.lift_tree.specs.Annotations.{Annotation, One, Two, Three}
use Rattle.kernel_sequence.specs.Cut.{Part, cut_off, cuts, kernel_parts}
use Rattle.kernel_sequence.specs.Refused.{kernel_count, passed_count}

-- one for each `then` that no binder is around
pub made_count : (i : ℕ) (made : List Part) (t : Tree) (n : Annotation) → length (cut_off i made t n).made ≡ length made + cuts t n
made_count i made (Unary Then t) (One a n) =
    let c = cut_off i made t n in
    let r = made_count i made t n in
    omega (arith, r, length-append c.made (c.left ∷ []))
made_count i made (Unary f t) (One a n) = made_count i made t n
made_count i made (Binary f t u) (Two a n m) =
    let c = cut_off i made t n in
    let r = made_count i made t n in
    let q = made_count i c.made u m in
    omega (arith, r, q)
made_count i made (Select t u v) (Three a n m k) =
    let c = cut_off i made t n in
    let d = cut_off i c.made u m in
    let r = made_count i made t n in
    let q = made_count i c.made u m in
    let o = made_count i d.made v k in
    omega (arith, r, q, o)
made_count i made (Let v b) (Two a n m) = made_count i made v n
made_count i made (Map h xs b) (Two a n m) = made_count i made xs n
made_count i made (Fold h xs s b) (Three a n m k) =
    let c = cut_off i made xs n in
    let r = made_count i made xs n in
    let q = made_count i c.made s m in
    omega (arith, r, q)
made_count i made t n = omega arith

-- and the last
pub parts_count : (i : ℕ) (t : Tree) (n : Annotation) → length (kernel_parts i t n) ≡ cuts t n + 1
parts_count i t n =
    let c = cut_off i [] t n in
    let r = made_count i [] t n in
    omega (arith, r, length-append c.made (c.left ∷ []))

above : (k x : ℕ) → k ≡ x → 16 < k → (if nat_lt 16 x then Some x else None) ≡ Some k
above k x e h = subst (λ z. (if nat_lt 16 z then Some z else None) ≡ Some k) e (rw (lt-ltb 16 k h) refl)

-- more kernels than sixteen
pub too_many : (count : ℕ) (t : Tree) (n : Annotation) → count ≡ kernel_count t n → 16 < count → passed_count t n ≡ Some count
too_many count t n e h = above count (kernel_count t n) e h
