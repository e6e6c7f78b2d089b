-- The first place with a flag.
use Rattle.std.proofs.Common.{◌≡◌, ◌<◌, ℕ, zero, suc, List, [], ◌∷◌, length, take, refl, ap, ⊎_elim, arith}
use Rattle.std.specs.Prelude.{slice_index}
use Rattle.std.specs.List.{sum}
use Rattle.std.proofs.Math.Seq.{take_all}
use Rattle.std.proofs.lemmas.Bool.{cases_lt}
use Rattle.std.proofs.lemmas.List.Sums.{sum_by-cons}
use Rattle.count_tree.specs.Nodes.{IsFirst}

-- flags of which none is set add up to nothing, and the other way round
pub none_add : (n : ℕ) (flags : List ℕ) → ((p : ℕ) → p < n → slice_index flags p ≡ 0) → sum (take n flags) ≡ 0
none_add zero flags none = refl
none_add (suc n) [] none = refl
none_add (suc n) (x ∷ xs) none =
    let first = none 0 (omega arith) in
    let rest = none_add n xs (λ p lt. none (suc p) (omega arith)) in
    let both = sum_by-cons (λ z. z) x (take n xs) in
    omega arith

-- where some flag is set, the first is one of the places
pub first_within : (flags : List ℕ) (first : ℕ) → IsFirst flags first → 0 < sum flags → first < length flags
first_within flags first f some =
    ⊎_elim (λ lt. lt)
    (λ le. absurd (let none = none_add (length flags) flags (λ p lt. f.none p (omega arith)) in let whole : sum (take (length flags) flags) ≡ sum flags = ap sum (take_all (length flags) flags (omega arith)) in omega arith))
    (cases_lt first (length flags))
