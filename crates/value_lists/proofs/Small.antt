-- Values of a type, one after another, with few scalars.
use Rattle.std.proofs.Common.{◌≡◌, ℕ, zero, suc, ◌+◌, ◌*◌, ◌<◌, ◌≤◌, List, [], ◌∷◌, ◌++◌, length, refl, ap, ◌∙◌, arith}
use Rattle.lift_tree.specs.Types.{PlainTy, U32, U32x4, PairOf, ArrayOf}
use Rattle.value_lists.specs.Lists.{length_at, IsSmall}

pub fewer : (ys : List ℕ) (a : PlainTy) (m n : ℕ) → m ≤ n → IsSmall ys n a → IsSmall ys m a
fewer ys U32 m n le h = omega arith
fewer ys U32x4 m n le h = omega arith
fewer ys (PairOf a b) m n le h = (fewer ys a m n le h.0, fewer ys b m n le h.1)
fewer ys (ArrayOf a k) m n le h =
    let t = times_more m n (length_at ys k) le in
    (h.0, (let u = h.1 in omega arith), fewer ys a (m * length_at ys k) (n * length_at ys k) t h.2)
  where
    times_more : (m n k : ℕ) → m ≤ n → m * k ≤ n * k
    times_more zero n k le = let z : 0 * k ≡ 0 = omega arith in omega arith
    times_more (suc m) zero k le = absurd (omega arith)
    times_more (suc m) (suc n) k le = let a : suc m * k ≡ k + m * k = omega arith in let b : suc n * k ≡ k + n * k = omega arith in let c = times_more m n k (omega arith) in omega arith

-- the element of this index
pub next : (i n : ℕ) → (i + 1) * n ≡ i * n + n
next i n = let y : i + 1 ≡ suc i = omega arith in ap (λ t. t * n) y ∙ (let z : suc i * n ≡ n + i * n = omega arith in omega arith)

pub of_element : (ys : List ℕ) (a : PlainTy) (i j n : ℕ) → j < n → IsSmall ys ((i + 1) * n) a → IsSmall ys (i * n + j + 1) a
of_element ys a i j n lt h = fewer ys a (i * n + j + 1) ((i + 1) * n) (let z : (i + 1) * n ≡ i * n + n = next i n in omega arith) h

pub ruleset indexing = (next)
