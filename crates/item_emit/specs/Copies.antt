-- The arrays that copies lie in, and terms whose copies are of numbers of cells that are words.
use Rattle.std.specs.Prelude.{◌<◌, ◌^◌, List}
use Rattle.size_arith.specs.declared.poly.Monomial.{Monomial}
use Rattle.lift_ir.specs.Types.{Ty, size, IsShort}
use Rattle.lift_ir.specs.Terms.{Term, Both, Project, Reshape, LetArray, LetElement, Map, Fold, Copy}
use Rattle.printed_form.specs.Arguments.{CopyArrays, arrays_of}
use Rattle.lowering.specs.Terms.{space_of}
use Rattle.lowering.specs.declared.term.Space.{Space}

-- the arrays of a space that the Rust code names
abbrev pub copy_arrays : Space → CopyArrays (List Monomial)
copy_arrays space = arrays_of (space_of space)

-- lengths below 2^31, and one component of less than 2^32 scalars
pub record IsShortCopy (ty : Ty) : Type 0 where
  pub lengths : IsShort ty
  pub cells : size ty < 2 ^ 32

-- each copy of the term is
abbrev pub HasShortCopies : {A : Type 0} → Term A → Type 0
HasShortCopies (Both zips a b) = HasShortCopies a × HasShortCopies b
HasShortCopies (Project second a) = HasShortCopies a
HasShortCopies (Reshape l a) = HasShortCopies a
HasShortCopies (LetArray v b) = HasShortCopies v × HasShortCopies b
HasShortCopies (LetElement ty v b) = HasShortCopies b
HasShortCopies (Map k n loads xs b) = HasShortCopies xs × HasShortCopies b
HasShortCopies (Fold n loads ty xs s b) = HasShortCopies xs
HasShortCopies (Copy space ty a) = IsShortCopy ty × HasShortCopies a
HasShortCopies _ = Unit {0}
