-- Outputs of legal terms.
use Rattle.std.specs.Prelude.{◌≡◌, ℕ, List}
use Rattle.lift_tree.specs.Annotations.{annotation_of, type_in}
use Rattle.lift_tree.specs.Tree.{tree_of}
use Rattle.lift_tree.specs.Typing.{Declared}
use Rattle.lift_ir.specs.AtLaunch.{ty_at}
use Rattle.lift_ir.specs.Types.{size}
use Rattle.lowered_tree.specs.Copies.{CopiesArrays}
use Rattle.lowered_tree.specs.declared.lowered.Lowered.{Lowered}
use Rattle.nest_premises.specs.Legal.{IsLegalTerm}

-- it is a legal term over what it may name, within the limits, which copies nothing but arrays, as
-- each term of a script does
pub record IsLegalFor (d : Declared) (l : Lowered) : Type 0 where
  pub names : d.names ≡ l.names
  pub legal : IsLegalTerm d (tree_of l.term) (annotation_of l.types)
  pub copies : CopiesArrays (tree_of l.term) (annotation_of l.types)

-- how many cells each of its output's buffers has, where the base names have these values
abbrev pub cell_count : (bases : List ℕ) → Lowered → ℕ
cell_count bases l = size (ty_at bases (type_in (annotation_of l.types)))
