-- Typed terms whose nest is legal.
use Rattle.std.specs.Prelude.{[]}
use Rattle.lift_tree.specs.Tree.{Tree}
use Rattle.lift_tree.specs.Types.{IsOutput}
use Rattle.lift_tree.specs.Typing.{Declared, IsDeclared}
use Rattle.lift_tree.specs.Limits.{TypesFit}
use Rattle.lift_tree.specs.Annotations.{Annotation, type_in, Annotates}
use Rattle.lowered_tree.specs.Nest.{IsLegalNest}
use Rattle.lowered_tree.specs.Words.{FormsHaveWords}

-- a typed term over what it may name, within the limits on types, with a legal nest
pub record IsLegalTerm (d : Declared) (t : Tree) (n : Annotation) : Type 0 where
  pub declared : IsDeclared d
  pub nodes : Annotates d [] t n
  pub output : IsOutput (type_in n)
  pub within : TypesFit d t n
  pub words : FormsHaveWords t
  pub legal : IsLegalNest t n
