-- Terms of a legal nest in writing position, and the numbers of their scalars.
use Rattle.std.specs.Prelude.{◌≡◌, ℕ, ◌<◌, ◌^◌, true, List}
use Rattle.size_arith.specs.declared.names.Name.{Name}
use Rattle.size_arith.specs.Ranges.{Admissible, sizes_at}
use Rattle.lift_tree.specs.Annotations.{Annotation, Annotates, type_in}
use Rattle.lift_tree.specs.Lists.{Every}
use Rattle.lift_tree.specs.Tree.{Tree}
use Rattle.lift_tree.specs.Types.{PlainTy, IsFormed}
use Rattle.lift_tree.specs.Typing.{Declared, IsDeclared}
use Rattle.lift_ir.specs.AtLaunch.{ty_at}
use Rattle.lift_ir.specs.Types.{size}
use Rattle.lowered_tree.specs.Around.{Around}
use Rattle.nest_premises.specs.Unbroken.{AllUnbroken}
use Rattle.launch_lengths.specs.Bases.{bases_of}

-- a typed term under binders, written where this is around it, with a rule broken at no node
pub record IsWritten (names : List Name) (t : Tree) (n : Annotation) : Type 0 where
  pub declared : Declared
  pub same : declared.names ≡ names
  pub proper : IsDeclared declared
  pub binders : List PlainTy
  pub formed : Every (IsFormed declared.names) binders
  pub nodes : Annotates declared binders t n
  pub around : Around
  pub written : around.is_written ≡ true
  pub unbroken : AllUnbroken around t n

-- the number of a scalar of a component, in row-major order, where the base names have these
-- values; there are less than 2^31
pub record IsNumber (bases : List ℕ) (n : Annotation) (number : ℕ) : Type 0 where
  pub few : size (ty_at bases (type_in n)) < 2 ^ 31
  pub below : number < size (ty_at bases (type_in n))

-- the number of a scalar of such a term, at these sizes
pub record IsScalarOf (names : List Name) (sizes : List ℕ) (t : Tree) (n : Annotation)
    (number : ℕ) : Type 0 where
  pub admissible : Admissible names (bases_of names sizes)
  pub exact : sizes ≡ sizes_at names (bases_of names sizes)
  pub term : IsWritten names t n
  pub scalar : IsNumber (bases_of names sizes) n number
