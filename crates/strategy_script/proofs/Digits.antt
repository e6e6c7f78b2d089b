-- What more digits make of a number.
use Rattle.std.proofs.Common.{◌≡◌, Bool, ℕ, ◌+◌, ◌*◌, ◌-◌, ◌<◌, ◌≤◌, suc, List, [], ◌∷◌, None, Some, cond, false, true, refl, ap, sym, ◌∙◌, subst, length, get_or, drop, drop-cons, arith, nat_le}
use Rattle.std.proofs.lemmas.List.{drop_all}
use Rattle.std.proofs.lemmas.Bool.{le-leb, leb-true}
use Rattle.strategy_script.specs.Numbers.{value_after, within}

grows : (n : ℕ) (ds : List ℕ) → n ≤ value_after n ds
grows n [] = omega arith
grows n (d ∷ ds) = omega (arith, grows (10 * n + (d - 48)) ds)

none : (n : ℕ) → 4294967295 < n → within n ≡ None
none n large = none_at (nat_le n 4294967295) refl where
  none_at : (b : Bool) → nat_le n 4294967295 ≡ b → within n ≡ None
  none_at true e = absurd (omega (arith, large, leb-true n 4294967295 e))
  none_at false e = ap (λ b. cond b (Some n) None) e

-- a number that a further digit makes too large
pub stops : (n i last : ℕ) (ds : List ℕ) → i < length ds → last ≡ get_or ds i 0 - 48 → 4294967295 < 10 * n + last → value_after n (drop i ds) ≡ value_after 0 ds → within (value_after 0 ds) ≡ None
stops n i last ds less e large so_far =
    let here : value_after n (drop i ds) ≡ value_after (10 * n + (get_or ds i 0 - 48)) (drop (suc i) ds) = ap (value_after n) (drop-cons ds i 0 less) in
    none (value_after 0 ds) (omega (arith, grows (10 * n + (get_or ds i 0 - 48)) (drop (suc i) ds), here, so_far, e, large))

pub stands : (n i : ℕ) (ds : List ℕ) → length ds ≤ i → n < 4294967296 → value_after n (drop i ds) ≡ value_after 0 ds → Some n ≡ within (value_after 0 ds)
stands n i ds past small so_far =
    let all : value_after 0 ds ≡ n = sym so_far ∙ ap (value_after n) (drop_all i ds past) in
    subst (λ m. Some n ≡ within m) (sym all) (sym (ap (λ b. cond b (Some n) None) (le-leb n 4294967295 (omega arith))))
