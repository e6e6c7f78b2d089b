-- Lengths at given sizes, modulo 2^64 on the way.
use Rattle.std.proofs.Common.{◌≡◌, ◌∙◌, ℕ, zero, suc, ◌+◌, ◌-◌, ◌*◌, ◌%◌, ◌^◌, ◌<◌, ◌≤◌, List, [], ◌∷◌, length, get_or, drop, refl, sym, ap, arith}
use Rattle.std.proofs.lemmas.List.{drop_more}
use Rattle.std.proofs.lemmas.Nat.{mul-mod_first}
use Rattle.std.proofs.Common.{mul_assoc}
use Rattle.lift_tree.specs.declared.length.Factor.{Factor}
use Rattle.lift_tree.specs.declared.length.Part.{Part}
use Rattle.lift_tree.specs.declared.length.Sign.TheVariants.{Plus, Minus}
use Rattle.lift_tree.specs.Meaning.{factor_at, nth_size, product_at}
use Rattle.launch_file.specs.Inputs.{added_at, taken_at}

pub get_or-nth_size : (xs : List ℕ) (n : ℕ) → get_or xs n 0 ≡ nth_size xs n
get_or-nth_size [] n = refl
get_or-nth_size (x ∷ xs) zero = refl
get_or-nth_size (x ∷ xs) (suc n) = get_or-nth_size xs n

pub ruleset sizes_by_number = (get_or-nth_size)

times_factor : (sizes : List ℕ) (a : ℕ) (f : Factor) (fs : List Factor) → (((a * factor_at sizes f) % 2 ^ 64) * product_at sizes fs) % 2 ^ 64 ≡ (a * product_at sizes (f ∷ fs)) % 2 ^ 64
times_factor sizes a f fs = mul-mod_first (a * factor_at sizes f) (product_at sizes fs) (2 ^ 64) ∙ ap (λ n. n % 2 ^ 64) (mul_assoc a (factor_at sizes f) (product_at sizes fs))

-- one more factor is multiplied
pub times_next : (sizes : List ℕ) (fs : List Factor) (i a : ℕ) (d : Factor) → i < length fs
    → (((a * factor_at sizes (get_or fs i d)) % 2 ^ 64) * product_at sizes (drop (i + 1) fs)) % 2 ^ 64 ≡ (a * product_at sizes (drop i fs)) % 2 ^ 64
times_next sizes fs i a d h = times_factor sizes a (get_or fs i d) (drop (i + 1) fs) ∙ ap (λ gs. (a * product_at sizes gs) % 2 ^ 64) (sym (drop_more fs i d h))

-- the sum so far, with the rest of the parts, makes up all of them
pub record Balances (sizes : List ℕ) (all rest : List Part) (sum : ℕ) : Type 0 where
  pub balance : (sum + added_at sizes rest + taken_at sizes all) % 2 ^ 64 ≡ (added_at sizes all + taken_at sizes rest) % 2 ^ 64

pub starts : (sizes : List ℕ) (all : List Part) → Balances sizes all all 0
starts sizes all = record { balance = omega arith }

add_part : (sizes : List ℕ) (all rest : List Part) (p : Part) (sum : ℕ) → p.sign ≡ Plus → Balances sizes all (p ∷ rest) sum → Balances sizes all rest ((sum + product_at sizes p.product % 2 ^ 64) % 2 ^ 64)
add_part sizes all rest p sum is_plus b =
    let e : added_at sizes (p ∷ rest) ≡ product_at sizes p.product + added_at sizes rest = rw is_plus refl in
    let f : taken_at sizes (p ∷ rest) ≡ taken_at sizes rest = rw is_plus (omega arith) in
    let h = b.balance in
    record { balance = omega (arith, h, e, f) }

take_part : (sizes : List ℕ) (all rest : List Part) (p : Part) (sum : ℕ) → p.sign ≡ Minus → Balances sizes all (p ∷ rest) sum
    → Balances sizes all rest ((sum + (2 ^ 64 - product_at sizes p.product % 2 ^ 64)) % 2 ^ 64)
take_part sizes all rest p sum is_minus b =
    let e : added_at sizes (p ∷ rest) ≡ added_at sizes rest = rw is_minus (omega arith) in
    let f : taken_at sizes (p ∷ rest) ≡ product_at sizes p.product + taken_at sizes rest = rw is_minus refl in
    let h = b.balance in
    record { balance = omega (arith, h, e, f) }

-- a sum that makes up all parts is the length
pub ends : (sizes : List ℕ) (all : List Part) (sum : ℕ) → Balances sizes all [] sum → sum < 2 ^ 64 → taken_at sizes all ≤ added_at sizes all → added_at sizes all - taken_at sizes all < 2 ^ 64
    → sum ≡ added_at sizes all - taken_at sizes all
ends sizes all sum b h most small = let e = b.balance in omega (arith, e)
