-- In which local array each component of an argument lies, and whether it is reached plainly.
use Rattle.std.specs.Prelude.{ℕ, ◌+◌, Bool, true, false, List, [], ◌∷◌}
use Rattle.lift_ir.specs.Types.{Ty, Scalar, PairOf, ArrayOf, width}
use Rattle.lift_ir.specs.Standing.{Standing, stands_for}
use Rattle.lift_ir.specs.Terms.{Term}
use Rattle.printed_form.specs.Counts.{local_count}

-- in no local array; in this one, reached by variables, zip, first and second alone or not; or by
-- side
pub data Origin : Type 0 where
  Elsewhere : Origin
  Within : (array : ℕ) → (plainly : Bool) → Origin
  BySide : (left right : Origin) → Origin

-- the origin of a side of a pair
abbrev pub on_side : Bool → Origin → Origin
on_side false (BySide a b) = a
on_side true (BySide a b) = b
on_side s _ = Elsewhere

-- at the end of a way
abbrev pub at_way : Origin → List Bool → Origin
at_way o [] = o
at_way o (s ∷ w) = at_way (on_side s o) w

-- through a layout or the body of a let
abbrev pub bent : Origin → Origin
bent Elsewhere = Elsewhere
bent (Within a p) = Within a false
bent (BySide a b) = BySide (bent a) (bent b)

-- a value of this type that lies in local arrays, the first of which is this
abbrev pub laid_from : ℕ → Ty → Origin
laid_from n Scalar = Within n true
laid_from n (PairOf a b) = BySide (laid_from n a) (laid_from (n + width a) b)
laid_from n (ArrayOf m t) = laid_from n t

-- an input is in no local array, and a copy in new ones
abbrev pub origin_standing : {A : Type 0} → Standing A Origin
origin_standing = record {
  source = λ input. Elsewhere;
  both = BySide;
  side = on_side;
  through = λ y o. bent o;
  in_let = bent;
  copy = λ number space ty. laid_from number ty;
  nothing = Elsewhere;
}

-- an argument's origin, where its first local array is this
abbrev pub origin_of : {A : Type 0} → (ℕ → Origin) → ℕ → Term A → Origin
origin_of env k t = stands_for origin_standing local_count env k t
