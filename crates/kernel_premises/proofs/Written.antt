-- What a printer prints can be written.
use Rattle.std.proofs.Common.{true, false, inl, inr}
use Rattle.lift_tree.specs.declared.term.Level.TheVariants.{Launch, Groups, Items}
use Rattle.lift_tree.specs.declared.term.Dimension.TheVariants.{X, Y}
use Rattle.lift_ir.specs.Forms.{Stands, StandsAlongRow, StandsOverLaunch}
use Rattle.lift_ir.specs.Lowering.{Lowered}
use Rattle.lift_ir.specs.Terms.{Both, Bound, Copy, Fold, Over, LetArray, LetElement, LocalMemory, Map, PrivateMemory, Project, Reshape, Sequential, Source, Store}
use Rattle.printed_form.specs.Sound.{CanBeRead, CanBeWritten}
use Rattle.group_form.specs.Forms.{IsOfInputs, StandsInGroup, StandsOverGroups}
use Rattle.group_form.specs.GridTerms as grid
use Rattle.group_form.specs.GridTerms.{StandsAlongGroups, StandsInGrid, StandsOverGrid}
use Rattle.group_form.specs.Kernels.{OfGrids, OfGroups, OfItems}
use Rattle.kernel_premises.specs.Within.{TermsCanBeWritten}

-- ---- by one work-item
mutual
  item_written : (t : Lowered) → Stands true t → CanBeWritten t
  item_written (Reshape l x) s = (s.0, item_written x s.1)
  item_written (LetArray v b) s = (item_read v s.0, item_written b s.1)
  item_written (LetElement ty v b) s = item_written b s
  item_written (Map Sequential n ls xs b) s = (item_read xs s.0, item_written b s.1)
  item_written (Fold n ls ty xs i b) s = item_read xs s
  item_written (Store ty x) s = tt
  item_written _ s = absurd s

  item_read : (t : Lowered) → Stands false t → CanBeRead t
  item_read (Both z x y) s = (item_read x s.0, item_read y s.1)
  item_read (Project d x) s = item_read x s
  item_read (Reshape l x) s = item_read x s
  item_read (LetArray v b) s = (item_read v s.0, item_read b s.1)
  item_read (Copy LocalMemory ty x) s = absurd s
  item_read (Copy PrivateMemory ty x) s = item_written x s
  item_read _ s = tt

-- ---- over the launch
along_written : (t : Lowered) → StandsAlongRow t → CanBeWritten t
along_written (Reshape l x) s = (s.0, along_written x s.1)
along_written (Map (Over Launch X) n ls xs b) s = (item_read xs s.0, item_written b s.1)
along_written _ s = absurd s

launch_written : (t : Lowered) → StandsOverLaunch t → CanBeWritten t
launch_written (Reshape l x) s = (s.0, launch_written x s.1)
launch_written (LetArray v b) s = (item_read v s.0, launch_written b s.1)
launch_written (Map (Over Launch X) n ls xs b) s = (item_read xs s.0, item_written b s.1)
launch_written (Map (Over Launch Y) n ls xs b) s = (item_read xs s.0, along_written b s.1)
launch_written _ s = absurd s

-- ---- over work-groups
mutual
  written_in_group : (t : Lowered) → StandsInGroup true t → CanBeWritten t
  written_in_group (Reshape l x) s = (s.0, written_in_group x s.1)
  written_in_group (LetArray v b) s = (read_in_group v s.0, written_in_group b s.1)
  written_in_group (Map (Over Items X) n ls xs b) s = (read_in_group xs s.0, item_written b s.1)
  written_in_group _ s = absurd s

  read_in_group : (t : Lowered) → StandsInGroup false t → CanBeRead t
  read_in_group (Bound v) s = tt
  read_in_group (Source i) s = tt
  read_in_group (Both true x y) s = (read_in_group x s.0, read_in_group y s.1)
  read_in_group (Project d x) s = read_in_group x s
  read_in_group (Reshape l x) s = read_in_group x s
  read_in_group (LetArray v b) s = (read_in_group v s.0, read_in_group b s.1)
  read_in_group (Copy LocalMemory ty x) s = written_in_group x s
  read_in_group _ s = absurd s

inputs_read : (t : Lowered) → IsOfInputs t → CanBeRead t
inputs_read (Bound v) s = tt
inputs_read (Source i) s = tt
inputs_read (Both true x y) s = (inputs_read x s.0, inputs_read y s.1)
inputs_read (Project d x) s = inputs_read x s
inputs_read (Reshape l x) s = inputs_read x s
inputs_read (LetArray v b) s = (inputs_read v s.0, inputs_read b s.1)
inputs_read _ s = absurd s

groups_written : (t : Lowered) → StandsOverGroups t → CanBeWritten t
groups_written (Reshape l x) s = (s.0, groups_written x s.1)
groups_written (LetArray v b) s = (inputs_read v s.0, groups_written b s.1)
groups_written (Map (Over Groups X) n ls xs b) s = (inputs_read xs s.0, written_in_group b s.1)
groups_written _ s = absurd s

-- ---- over work-groups in two dimensions
row_written : (t : Lowered) → grid.StandsAlongRow t → CanBeWritten t
row_written (Reshape l x) s = (s.0, row_written x s.1)
row_written (Map (Over Items X) n ls xs b) s = (inputs_read xs s.0, item_written b s.1)
row_written _ s = absurd s

mutual
  written_in_grid : (t : Lowered) → StandsInGrid true t → CanBeWritten t
  written_in_grid (Reshape l x) s = (s.0, written_in_grid x s.1)
  written_in_grid (LetArray v b) s = (read_in_grid v s.0, written_in_grid b s.1)
  written_in_grid (Map (Over Items Y) n ls xs b) s = (read_in_grid xs s.0, row_written b s.1)
  written_in_grid _ s = absurd s

  read_in_grid : (t : Lowered) → StandsInGrid false t → CanBeRead t
  read_in_grid (Bound v) s = tt
  read_in_grid (Source i) s = tt
  read_in_grid (Both true x y) s = (read_in_grid x s.0, read_in_grid y s.1)
  read_in_grid (Project d x) s = read_in_grid x s
  read_in_grid (Reshape l x) s = read_in_grid x s
  read_in_grid (LetArray v b) s = (read_in_grid v s.0, read_in_grid b s.1)
  read_in_grid (Copy LocalMemory ty x) s = written_in_grid x s
  read_in_grid _ s = absurd s

along_groups_written : (t : Lowered) → StandsAlongGroups t → CanBeWritten t
along_groups_written (Reshape l x) s = (s.0, along_groups_written x s.1)
along_groups_written (Map (Over Groups X) n ls xs b) s = (inputs_read xs s.0, written_in_grid b s.1)
along_groups_written _ s = absurd s

grid_written : (t : Lowered) → StandsOverGrid t → CanBeWritten t
grid_written (Reshape l x) s = (s.0, grid_written x s.1)
grid_written (LetArray v b) s = (inputs_read v s.0, grid_written b s.1)
grid_written (Map (Over Groups Y) n ls xs b) s = (inputs_read xs s.0, along_groups_written b s.1)
grid_written _ s = absurd s

pub terms_can_be_written : TermsCanBeWritten
terms_can_be_written OfItems t (inl s) = item_written t s
terms_can_be_written OfItems t (inr s) = launch_written t s
terms_can_be_written OfGroups t s = groups_written t s
terms_can_be_written OfGrids t s = grid_written t s
