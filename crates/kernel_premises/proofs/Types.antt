-- Types within the limits are held: their lengths are within those of polynomials.
use Rattle.std.proofs.Common.{suc, ◌≤◌, List, [], ◌∷◌, arith}
use Rattle.size_arith.specs.declared.names.Name.{Name}
use Rattle.size_arith.specs.declared.poly.Monomial.{Monomial}
use Rattle.lift_tree.specs.Lists.{Every}
use Rattle.lift_tree.specs.Types as types
use Rattle.lift_tree.specs.Types.{PlainTy}
use Rattle.lift_tree.specs.Limits.{arrays, LengthsFit, TypeFits}
use Rattle.lift_tree.specs.Typing.{constant}
use Rattle.lift_tree.proofs.LengthsFit.{LengthFits, constant_fits, none_fits}
use Rattle.lift_ir.specs.AtLaunch.{inner_of, outer_of, shape_of}
use Rattle.printed_form.specs.Sound.{AllLengths, dimensions}
use Rattle.kernel_premises.specs.Sound.{IsHeld, IsHeldType}

pub held : (n : List Monomial) → LengthFits n → IsHeld n
held n h = record { terms = h.terms; degree = h.degree }

-- ---- the lengths of an array and of its rows
pub outer_fits : (a : PlainTy) → LengthsFit a → LengthFits (outer_of a)
outer_fits types.U32 h = none_fits
outer_fits types.U32x4 h = none_fits
outer_fits (types.PairOf a b) h = none_fits
outer_fits (types.ArrayOf a n) h = record { terms = h.0; degree = h.1 }

pub outer_held : (a : PlainTy) → LengthsFit a → IsHeld (outer_of a)
outer_held a h = held (outer_of a) (outer_fits a h)

pub inner_held : (a : PlainTy) → LengthsFit a → IsHeld (inner_of a)
inner_held types.U32 h = held [] none_fits
inner_held types.U32x4 h = held [] none_fits
inner_held (types.PairOf a b) h = held [] none_fits
inner_held (types.ArrayOf types.U32 n) h = held [] none_fits
inner_held (types.ArrayOf types.U32x4 n) h = held [] none_fits
inner_held (types.ArrayOf (types.PairOf a b) n) h = held [] none_fits
inner_held (types.ArrayOf (types.ArrayOf a m) n) h = outer_held (types.ArrayOf a m) h.2

-- ---- types
-- a vector is an array here
dimensions_are : (a : PlainTy) → dimensions (shape_of a) ≤ suc (arrays a)
dimensions_are types.U32 = omega arith
dimensions_are types.U32x4 = omega arith
dimensions_are (types.PairOf a b) = let x = dimensions_are a in let y = dimensions_are b in omega arith
dimensions_are (types.ArrayOf a n) = let x = dimensions_are a in omega arith

lengths_held : (a : PlainTy) → LengthsFit a → AllLengths IsHeld (shape_of a)
lengths_held types.U32 h = tt
lengths_held types.U32x4 h = (held (constant 4) (constant_fits 4), tt)
lengths_held (types.PairOf a b) h = (lengths_held a h.0, lengths_held b h.1)
lengths_held (types.ArrayOf a n) h = (outer_held (types.ArrayOf a n) h, lengths_held a h.2)

pub type_held : (a : PlainTy) → LengthsFit a → arrays a ≤ 4 → IsHeldType a
type_held a h few = let e = dimensions_are a in record { lengths = lengths_held a h; few = omega (arith, e, few) }

pub types_held : (names : List Name) (tys : List PlainTy) → Every (TypeFits names) tys → Every IsHeldType tys
types_held names [] h = tt
types_held names (a ∷ tys) h = (type_held a h.0.lengths h.0.arrays, types_held names tys h.1)
