-- The types of the binders around a node, the nearest first, and of the inputs.
use Rattle.std.specs.Prelude.{ℕ, zero, suc, List, [], ◌∷◌, map}
use Rattle.size_arith.specs.declared.names.Name.{Name}
use Rattle.lift_tree.specs.declared.ty.Ty.{Ty}
use Rattle.lift_tree.specs.Types.{PlainTy, U32, ty_of}
use Rattle.lift_tree.specs.Typing.{Declared}

-- the type of this number, where there is one
abbrev pub nth_type : List PlainTy → ℕ → PlainTy
nth_type [] n = U32
nth_type (a ∷ types) zero = a
nth_type (a ∷ types) (suc n) = nth_type types n

-- the sizes and the inputs' types that are declared, from the code's types
abbrev pub declared_as : List Name → List Ty → Declared
declared_as names inputs = record { names = names; inputs = map ty_of inputs }
