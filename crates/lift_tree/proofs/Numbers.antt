-- Variables' numbers where binders come or go.
use Rattle.std.proofs.Common.{◌≡◌, ℕ, zero, suc, ◌+◌, ◌-◌, ◌<◌, ◌≤◌, refl, ap, arith, ◌∙◌, Bool, true, false, Some, None}
use Rattle.std.specs.Prelude.{◌||◌, option_map}
use Rattle.lift_tree.specs.Renumbering.{up, down}

pub up-before : (more k n : ℕ) → n < k → up more k n ≡ n
up-before more zero n h = absurd (omega arith)
up-before more (suc k) zero h = refl
up-before more (suc k) (suc n) h = ap suc (up-before more k n (omega arith))

pub up-after : (more k n : ℕ) → k ≤ n → up more k n ≡ n + more
up-after more zero n h = refl
up-after more (suc k) zero h = absurd (omega arith)
up-after more (suc k) (suc n) h = ap suc (up-after more k n (omega arith)) ∙ omega arith

pub down-before : (k n : ℕ) → n < k → down k n ≡ Some n
down-before zero n h = absurd (omega arith)
down-before (suc k) zero h = refl
down-before (suc k) (suc n) h = ap (option_map suc) (down-before k n (omega arith))

pub down-at : (k n : ℕ) → n ≡ k → down k n ≡ None
down-at zero zero h = refl
down-at zero (suc n) h = absurd (omega arith)
down-at (suc k) zero h = absurd (omega arith)
down-at (suc k) (suc n) h = ap (option_map suc) (down-at k n (omega arith))

pub down-after : (k n : ℕ) → k < n → down k n ≡ Some (n - 1)
down-after zero zero h = absurd (omega arith)
down-after zero (suc n) h = ap Some (omega arith)
down-after (suc k) zero h = absurd (omega arith)
down-after (suc k) (suc n) h = ap (option_map suc) (down-after k n (omega arith)) ∙ ap Some (omega arith)

pub ruleset numbers = (up-before, up-after, down-before, down-at, down-after)

-- neither part names the binder
pub unnamed_left : (a b : Bool) → (a || b) ≡ false → a ≡ false
unnamed_left true b h = h
unnamed_left false b h = refl

pub unnamed_right : (a b : Bool) → (a || b) ≡ false → b ≡ false
unnamed_right true b h = absurd (cc)
unnamed_right false b h = h

pub ruleset unnamed = (unnamed_left, unnamed_right)
