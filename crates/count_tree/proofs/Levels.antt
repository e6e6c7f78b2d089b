-- The nodes of a tree, level by level.
use Rattle.std.proofs.Common.{◌≡◌, ◌+◌, ◌*◌, ◌/◌, ◌%◌, ◌^◌, ◌<◌, ◌≤◌, ℕ, zero, suc, refl, ap, ◌∙◌, ◌⊎◌, inl, inr, arith}
use Rattle.std.proofs.Math.Nat.{pow-suc, pow-le-pow_right}
use Rattle.std.proofs.lemmas.Nat.{pow_pos, mul-le}
use Rattle.count_tree.specs.Nodes.{IsNode}

-- where the leaves below the j-th node begin that stands h levels above them
abbrev pub from : ℕ → ℕ → ℕ
from h j = j * 2 ^ h

pub from-zero : (j : ℕ) → from zero j ≡ j
from-zero j = omega arith

regroup : (j p : ℕ) → j * (p * 2) ≡ (2 * j) * p
regroup j p = grind arith

pub from-suc : (h j : ℕ) → from (suc h) j ≡ from h (2 * j)
from-suc h j = ap (λ p. j * p) (pow-suc 2 h) ∙ regroup j (2 ^ h)

pub from-next : (h j : ℕ) → from h (j + 1) ≡ from h j + 2 ^ h
from-next h j = next j (2 ^ h)
  where
    next : (j p : ℕ) → (j + 1) * p ≡ j * p + p
    next j p = grind arith

pub from-le : (h i j : ℕ) → i ≤ j → from h i ≤ from h j
from-le h i j le = mul-le i (2 ^ h) j (2 ^ h) le (omega arith)

pub order : (a b : ℕ) → (b ≤ a) ⊎ (a < b)
order a b = grind arith

module _ (height : ℕ) where
  -- the root
  pub root : IsNode height 0 height 0 1
  root = record { levels = omega arith; among = omega arith; number = refl }

  -- the parts of a node
  pub left_part : (l h j i : ℕ) → IsNode height l (suc h) j i → IsNode height (suc l) h (2 * j) (2 * i + 1)
  left_part l h j i n =
      let p : 2 ^ suc l ≡ 2 ^ l * 2 = pow-suc 2 l in
      let a = n.levels in
      let b = n.among in
      let c = n.number in
      record { levels = omega arith; among = omega arith; number = omega arith }

  pub right_part : (l h j i : ℕ) → IsNode height l (suc h) j i → IsNode height (suc l) h (2 * j + 1) (2 * i)
  right_part l h j i n =
      let p : 2 ^ suc l ≡ 2 ^ l * 2 = pow-suc 2 l in
      let a = n.levels in
      let b = n.among in
      let c = n.number in
      record { levels = omega arith; among = omega arith; number = omega arith }

  pub low : (l h j i : ℕ) → IsNode height l h j i → 2 ^ l ≤ i
  low l h j i n = let b = n.among in let c = n.number in omega arith

  pub high : (l h j i : ℕ) → IsNode height l h j i → i < 2 * 2 ^ l
  high l h j i n = let c = n.number in omega arith

  pub positive : (l h j i : ℕ) → IsNode height l h j i → 0 < i
  positive l h j i n = let p : 0 < 2 ^ l = pow_pos l in let a = low l h j i n in omega arith

  pub in_tree : (l h j i : ℕ) → IsNode height l h j i → i < 2 * 2 ^ height
  in_tree l h j i n =
      let a = n.levels in
      let up : 2 ^ l ≤ 2 ^ height = pow-le-pow_right (omega arith) (omega arith) in
      let b = high l h j i n in
      omega arith

  pub inner : (l h j i : ℕ) → IsNode height l (suc h) j i → i < 2 ^ height
  inner l h j i n =
      let a = n.levels in
      let p : 2 ^ suc l ≡ 2 ^ l * 2 = pow-suc 2 l in
      let up : 2 ^ suc l ≤ 2 ^ height = pow-le-pow_right (omega arith) (omega arith) in
      let b = high l (suc h) j i n in
      omega arith

  -- a node past the others is a leaf, and no other is
  pub not_leaf : (l j i : ℕ) → IsNode height l 0 j i → i < 2 ^ height → 1 ≤ 0
  not_leaf l j i n lt =
      let a = n.levels in
      let e : l ≡ height = omega arith in
      let same : 2 ^ l ≡ 2 ^ height = ap (λ x. 2 ^ x) e in
      let b = low l 0 j i n in
      absurd (omega arith)

  pub is_leaf : (l h j i : ℕ) → IsNode height l h j i → 2 ^ height ≤ i → h ≡ 0
  is_leaf l zero j i n le = refl
  is_leaf l (suc h) j i n le = absurd (let lt = inner l h j i n in omega arith)

  -- a node has one level and one place on it
  below : (l h j i l' h' j' : ℕ) → IsNode height l h j i → IsNode height l' h' j' i → l < l' → 1 ≤ 0
  below l h j i l' h' j' n m lt =
      let p : 2 ^ suc l ≡ 2 ^ l * 2 = pow-suc 2 l in
      let up : 2 ^ suc l ≤ 2 ^ l' = pow-le-pow_right (omega arith) (omega arith) in
      let a = high l h j i n in
      let b = low l' h' j' i m in
      absurd (omega arith)

  pub same_level : (l h j i l' h' j' : ℕ) → IsNode height l h j i → IsNode height l' h' j' i → l ≡ l'
  same_level l h j i l' h' j' n m = by_order (order l l') (order l' l)
    where
      by_order : (l' ≤ l) ⊎ (l < l') → (l ≤ l') ⊎ (l' < l) → l ≡ l'
      by_order (inl a) (inl b) = omega arith
      by_order (inr a) b = absurd (let c = below l h j i l' h' j' n m a in omega arith)
      by_order (inl a) (inr b) = absurd (let c = below l' h' j' i l h j m n b in omega arith)

  pub same_height : (l h j i l' h' j' : ℕ) → IsNode height l h j i → IsNode height l' h' j' i → h ≡ h'
  same_height l h j i l' h' j' n m = let e = same_level l h j i l' h' j' n m in let a = n.levels in let b = m.levels in omega arith

  pub same_index : (l h j i l' h' j' : ℕ) → IsNode height l h j i → IsNode height l' h' j' i → j ≡ j'
  same_index l h j i l' h' j' n m =
      let e = same_level l h j i l' h' j' n m in
      let p : 2 ^ l ≡ 2 ^ l' = ap (λ x. 2 ^ x) e in
      let a = n.number in
      let b = m.number in
      omega arith

  -- what a node is a part of
  pub upper : (l h j i : ℕ) → IsNode height l h j i → 1 < i → (k : ℕ) × IsNode height k (suc h) (j / 2) (i / 2) × (i % 2 + j % 2 ≡ 1)
  upper zero h j i n more = absurd (let a = high zero h j i n in omega arith)
  upper (suc l) h j i n more =
      let p : 2 ^ suc l ≡ 2 ^ l * 2 = pow-suc 2 l in
      let a = n.levels in
      let b = n.among in
      let c = n.number in
      (l, record { levels = omega arith; among = omega arith; number = omega arith }, omega arith)
