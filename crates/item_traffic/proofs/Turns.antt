-- The strides of an item are not 0.
use Rattle.std.proofs.Common.{ℕ, ◌*◌, ◌/◌, ◌<◌, subst, arith}
use Rattle.kernel_tree.specs.Launch.{Launch, IsWhole, item_count}

product_positive : (n m : ℕ) → 0 < n * m → 0 < n
product_positive n m h = grind arith

other_positive : (n m : ℕ) → 0 < n * m → 0 < m
other_positive n m h = grind arith

-- of a launch with an item
pub strides : (l : Launch) (item : ℕ) → IsWhole l → item < item_count l
    → (0 < l.global.0) × (0 < l.global.1) × (0 < l.local.0) × (0 < l.local.1) × (0 < l.global.0 / l.local.0) × (0 < l.global.1 / l.local.1)
strides l item whole within =
    let some : 0 < l.global.0 = product_positive l.global.0 l.global.1 (omega arith) in
    let rows : 0 < l.global.1 = other_positive l.global.0 l.global.1 (omega arith) in
    (some, rows, whole.x.positive, whole.y.positive, product_positive (l.global.0 / l.local.0) l.local.0 (subst (λ n. 0 < n) whole.x.divides some), product_positive (l.global.1 / l.local.1) l.local.1 (subst (λ n. 0 < n) whole.y.divides rows))
