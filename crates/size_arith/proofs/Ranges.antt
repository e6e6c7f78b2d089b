-- Names, and the values of base names.
use Rattle.std.proofs.Common.{◌≡◌, ℕ, zero, suc, ◌/◌, ◌≤◌, ◌<◌, List, [], ◌∷◌, ◌++◌, length, take, get_or, set, refl, sym, ap, ◌∙◌, subst, arith}
use Rattle.std.proofs.Math.Nat.{div-le_self}
use Rattle.std.proofs.Math.Seq.{take-length}
use Rattle.size_arith.specs.declared.names.Name.{Name}
use Rattle.size_arith.specs.Ranges.{IsName, AreNames, AllUpTo, leasts, greatests}

pub AreNames-push : (ns : List Name) (n : Name) → AreNames ns → IsName n → AreNames (ns ++ n ∷ [])
AreNames-push [] n h k = (k, tt)
AreNames-push (m ∷ ns) n h k = (h.0, AreNames-push ns n h.1 k)

pub AllUpTo-push : (b : ℕ) (ys : List ℕ) (y : ℕ) → AllUpTo b ys → y ≤ b → AllUpTo b (ys ++ y ∷ [])
AllUpTo-push b [] y h k = (k, tt)
AllUpTo-push b (x ∷ ys) y h k = (h.0, AllUpTo-push b ys y h.1 k)

pub length-leasts : (ns : List Name) → length (leasts ns) ≡ length ns
length-leasts [] = refl
length-leasts (n ∷ ns) = ap suc (length-leasts ns)

pub length-greatests : (ns : List Name) → length (greatests ns) ≡ length ns
length-greatests [] = refl
length-greatests (n ∷ ns) = ap suc (length-greatests ns)

pub leasts-at : (ns : List Name) (i : ℕ) (d : Name) → i < length ns → get_or (leasts ns) i 0 ≡ (get_or ns i d).from / (get_or ns i d).multiple
leasts-at [] i d h = absurd (omega arith)
leasts-at (n ∷ ns) zero d h = refl
leasts-at (n ∷ ns) (suc i) d h = leasts-at ns i d (omega arith)

pub greatests-at : (ns : List Name) (i : ℕ) (d : Name) → i < length ns → get_or (greatests ns) i 0 ≡ (get_or ns i d).to / (get_or ns i d).multiple
greatests-at [] i d h = absurd (omega arith)
greatests-at (n ∷ ns) zero d h = refl
greatests-at (n ∷ ns) (suc i) d h = greatests-at ns i d (omega arith)

set_taken_next : (xs ys : List ℕ) (i v : ℕ) → i < length xs → i < length ys → get_or ys i 0 ≡ v → take i xs ≡ take i ys → take (suc i) (set xs i v) ≡ take (suc i) ys
set_taken_next [] ys i v h k e t = absurd (omega arith)
set_taken_next (x ∷ xs) [] i v h k e t = absurd (omega arith)
set_taken_next (x ∷ xs) (y ∷ ys) zero v h k e t = ap (λ z. z ∷ []) (sym e)
set_taken_next (x ∷ xs) (y ∷ ys) (suc i) v h k e t =
    let r = set_taken_next xs ys i v (omega arith) (omega arith) e (cc) in
    cc

pub set_taken : (xs ys : List ℕ) (i j v : ℕ) → i < length xs → i < length ys → j ≡ suc i → get_or ys i 0 ≡ v → take i xs ≡ take i ys → take j (set xs i v) ≡ take j ys
set_taken xs ys i j v h k f e t = subst (λ n. take n (set xs i v) ≡ take n ys) (sym f) (set_taken_next xs ys i v h k e t)

pub take_to_end : (ys xs : List ℕ) (i n : ℕ) → i ≡ n → length ys ≡ n → take i xs ≡ take i ys → take n xs ≡ ys
take_to_end ys xs i n e l t = ap (λ k. take k xs) (sym l) ∙ subst (λ k. take k xs ≡ take k ys) (e ∙ sym l) t ∙ take-length ys

pub small-leasts : (ns : List Name) → AreNames ns → AllUpTo 1048576 (leasts ns)
small-leasts [] a = tt
small-leasts (n ∷ ns) a =
    let o = a.0.ordered in
    let l = a.0.limit in
    (omega (arith, div-le_self n.from n.multiple), small-leasts ns a.1)

pub small-greatests : (ns : List Name) → AreNames ns → AllUpTo 1048576 (greatests ns)
small-greatests [] a = tt
small-greatests (n ∷ ns) a = let l = a.0.limit in (omega (arith, div-le_self n.to n.multiple), small-greatests ns a.1)
