-- Loops are short in one way.
use Rattle.std.specs.Coded.{×_prop, Unit-prop, le_prop}
use Rattle.std.proofs.Common.{ℕ}
use Rattle.lift_ir.specs.Terms.{Term, Literal, Bound, Source, Apply, ApplyNumber, ApplyLanes, DivideLanes, Select, Both, Project, Reshape, LetArray, LetElement, Map, Fold, Store, Copy}
use Rattle.term_traffic.specs.Short.{HasShortLoops}

three : {P Q R : Type 0} → IsProp P → IsProp Q → IsProp R → IsProp (P × Q × R)
three p q r = hlevel (p, q, r)

pub short_once : {A : Type 0} → (num : A → ℕ) (t : Term A) → IsProp (HasShortLoops num t)
short_once num (Both zips a b) = ×_prop (short_once num a) (short_once num b)
short_once num (Project s a) = short_once num a
short_once num (Reshape y a) = short_once num a
short_once num (LetArray v b) = ×_prop (short_once num v) (short_once num b)
short_once num (LetElement ty v b) = short_once num b
short_once num (Map kind n loads xs b) = three le_prop (short_once num xs) (short_once num b)
short_once num (Fold n loads ty xs s b) = ×_prop le_prop (short_once num xs)
short_once num (Copy space ty a) = short_once num a
short_once num (Literal c) = Unit-prop
short_once num (Bound v) = Unit-prop
short_once num (Source v) = Unit-prop
short_once num (Apply o a b) = Unit-prop
short_once num (ApplyNumber o m a) = Unit-prop
short_once num (ApplyLanes o l r a b) = Unit-prop
short_once num (DivideLanes o m a) = Unit-prop
short_once num (Select c a b) = Unit-prop
short_once num (Store ty a) = Unit-prop
