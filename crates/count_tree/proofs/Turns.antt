-- A flag that is turned.
use Rattle.std.proofs.Common.{◌≡◌, ◌≢◌, ◌+◌, ◌-◌, ◌<◌, ◌≤◌, ℕ, zero, suc, Bool, true, false, List, [], ◌∷◌, length, get_or, set, refl, ap, ◌∙◌, arith}
use Rattle.std.specs.Prelude.{slice_index, if◌then◌else◌}
use Rattle.std.specs.List.{sum}
use Rattle.std.proofs.lemmas.List.{get_or-set_same, set-set, set-get_or}
use Rattle.std.proofs.lemmas.List.Sums.{sum_by-set}
use Rattle.count_tree.specs.Nodes.{turned}
use Rattle.count_tree.proofs.Sums.{among_all, among_small}

pub same_there : (xs : List ℕ) (p a b : ℕ) → p < length xs → get_or xs p a ≡ get_or xs p b
same_there [] p a b lt = absurd (omega arith)
same_there (x ∷ xs) zero a b lt = refl
same_there (x ∷ xs) (suc p) a b lt = same_there xs p a b (omega arith)

pub is_bit : (on : Bool) (v : ℕ) → v ≡ (if on then 1 else 0) → v ≤ 1
is_bit true v e = omega arith
is_bit false v e = omega arith

pub turn_back : (flags : List ℕ) (p v : ℕ) → p < length flags → slice_index flags p ≤ 1 → v ≤ 1 → slice_index flags p ≢ v → turned (set flags p v) p ≡ flags
turn_back flags p v lt low small ne =
    set-set flags p v (1 - slice_index (set flags p v) p)
    ∙ ap (λ x. set flags p (1 - x)) (get_or-set_same flags p v 0 lt)
    ∙ ap (set flags p) (let e : 1 - v ≡ slice_index flags p = omega arith in e)
    ∙ set-get_or flags p 0

pub few_set : (flags : List ℕ) → ((p : ℕ) → slice_index flags p ≤ 1) → sum flags ≤ length flags
few_set flags bits = let a = among_all flags (length flags) refl in let b = among_small flags 0 (length flags) bits in omega arith

-- there is one more, or one fewer
pub total_set : (flags : List ℕ) (p v total new : ℕ) (on : Bool) → p < length flags → slice_index flags p ≤ 1 → v ≡ (if on then 1 else 0) → slice_index flags p ≢ v → total ≡ sum flags → (on ≡ true → new ≡ total + 1) → (on ≡ false → new + 1 ≡ total) → new ≡ sum (set flags p v)
total_set flags p v total new true lt low is ne e more fewer = let a = more refl in let b = sum_by-set (λ x. x) flags p v 0 lt in omega arith
total_set flags p v total new false lt low is ne e more fewer = let a = fewer refl in let b = sum_by-set (λ x. x) flags p v 0 lt in omega arith
