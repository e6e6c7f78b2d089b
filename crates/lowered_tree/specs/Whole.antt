-- What is known of each lowered term.
use Rattle.std.specs.Prelude.{◌≡◌, ◌≤◌, true, [], length}
use Rattle.lift_tree.specs.Annotations.{Annotation, Annotates, type_in}
use Rattle.lift_tree.specs.Belonging.{IsProper}
use Rattle.lift_tree.specs.Limits.{IsWithinLimits, TypesFit}
use Rattle.lift_tree.specs.Programs.{PlainProgram}
use Rattle.lift_tree.specs.Tree.{Tree, height}
use Rattle.lift_tree.specs.Types.{IsOutput}
use Rattle.lift_tree.specs.Typing.{Declared, IsDeclared, declared_by}
use Rattle.lowered_tree.specs.Copies.{CopiesArrays}
use Rattle.lowered_tree.specs.Forms.{has_then}
use Rattle.lowered_tree.specs.Words.{FormsHaveWords}

-- a typed term of a proper program of few inputs, within the limits,
-- which copies nothing but arrays
pub record IsTypedWithin (p : PlainProgram) (t : Tree) (n : Annotation) : Type 0 where
  pub proper : IsProper p
  pub few : length p.inputs ≤ 8
  pub declared : IsDeclared (declared_by p)
  pub nodes : Annotates (declared_by p) [] t n
  pub output : IsOutput (type_in n)
  pub within : IsWithinLimits p t n
  pub low : height t ≤ 256
  pub copies : CopiesArrays t n

-- A typed term over what it may name, within the limits, which copies nothing but arrays; its forms
-- have words for numbers. Inputs are a program's eight at most, and an array of each of fifteen
-- kernels before; a term that is still to be cut into kernels has a program's alone.
pub record IsSoundTerm (d : Declared) (t : Tree) (n : Annotation) : Type 0 where
  pub few : length d.inputs ≤ 23
  pub first : has_then t ≡ true → length d.inputs ≤ 8
  pub declared : IsDeclared d
  pub nodes : Annotates d [] t n
  pub output : IsOutput (type_in n)
  pub within : TypesFit d t n
  pub low : height t ≤ 256
  pub copies : CopiesArrays t n
  pub words : FormsHaveWords t
