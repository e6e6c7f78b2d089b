-- Element types, by the source's test and by the lowering's.
use Rattle.std.proofs.Common.{◌≡◌, Bool, true, false, refl, sym, subst}
use Rattle.std.proofs.lemmas.Bool.{and_from, and_left, and_right}
use Rattle.std.specs.Prelude.{◌&&◌, if◌then◌else◌}
use Rattle.lift_tree.specs.Types as types
use Rattle.lift_tree.specs.Types.{PlainTy, IsElement, is_element}
use Rattle.lift_ir.specs.Lowering as ir

pub told_element : (a : PlainTy) → IsElement a → is_element a ≡ true
told_element types.U32 h = refl
told_element types.U32x4 h = refl
told_element (types.PairOf a b) h = and_from (is_element a) (is_element b) (told_element a h.0) (told_element b h.1)
told_element (types.ArrayOf a n) h = absurd h

-- a pair with a part that is no element is no element
pub left_part : (a b : PlainTy) → is_element a ≡ false → is_element (types.PairOf a b) ≡ false
left_part a b e = and_left (is_element a) (is_element b) e

pub right_part : (a b : PlainTy) → is_element b ≡ false → is_element (types.PairOf a b) ≡ false
right_part a b e = and_right (is_element a) (is_element b) e

-- the two tests agree
pub same_test : (a : PlainTy) → ir.is_element a ≡ is_element a
same_test types.U32 = refl
same_test types.U32x4 = refl
same_test (types.PairOf a b) = go (ir.is_element a) (ir.is_element b) (is_element a) (is_element b) (same_test a) (same_test b)
  where
    go : (x y z w : Bool) → x ≡ z → y ≡ w → (if x then y else false) ≡ (z && w)
    go true y true w e h = h
    go false y false w e h = refl
    go true y false w e h = absurd (cc)
    go false y true w e h = absurd (cc)
same_test (types.ArrayOf a n) = refl

pub told_ir : (v : Bool) (a : PlainTy) → is_element a ≡ v → ir.is_element a ≡ v
told_ir v a e = subst (λ z. z ≡ v) (sym (same_test a)) e

pub from_ir : (v : Bool) (a : PlainTy) → ir.is_element a ≡ v → is_element a ≡ v
from_ir v a e = subst (λ z. z ≡ v) (same_test a) e
