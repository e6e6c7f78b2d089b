-- A legal term that can be printed is printed within the kernel grammar, by each printer.
use Rattle.std.proofs.Common.{◌≡◌, ℕ, ◌≤◌, length, Option, refl, arith}
use Rattle.lift_tree.specs.Annotations.{Annotation}
use Rattle.lift_tree.specs.LocalSizes.{IsLocalSize}
use Rattle.lift_tree.specs.Tree.{Tree, height}
use Rattle.barrier_placement.specs.Fencing.{Fencing, Open}
use Rattle.lift_tree.specs.Typing.{Declared}
use Rattle.buffer_allocation.specs.Layouts.{layouts}
use Rattle.kernel_tree.specs.Code.{Kernel}
use Rattle.length_spelling.specs.Formulas.{length_formula}
use Rattle.length_spelling.specs.Laws.{length_height}
use Rattle.lift_ir.specs.Lowering.{Lowered}
use Rattle.printed_form.specs.KernelGrammar.{KernelsAreOfTheGrammar}
use Rattle.printed_form.specs.Programs.{lowered_root}
use Rattle.group_form.specs.ChosenForms.{forms_of}
use Rattle.group_form.specs.Form.{is_once}
use Rattle.group_form.specs.Kernels.{OfGrids, OfGroups, OfItems, Printer}
use Rattle.group_form.specs.GridChosen.{grid_forms_of}
use Rattle.group_form.specs.GridTerms.{grid_touches}
use Rattle.group_form.specs.GridTheorem.{grid_phase_count, is_once_over}
use Rattle.group_form.specs.Uses.{group_touches, phase_count}
use Rattle.nest_premises.specs.Legal.{IsLegalTerm}
use Rattle.nest_premises.specs.Printable.{IsPrintable}
use Rattle.kernel_premises.specs.GroupGrammar.{GridKernelsAreOfTheGrammar, GroupKernelsAreOfTheGrammar, IsFencedWithin, IsFlagged, NeededAreFlagged}
use Rattle.kernel_premises.specs.Soundness.{LoweredTermsHaveSoundParts}
use Rattle.kernel_premises.specs.Terms.{kernel_for, KernelsAreInTheGrammar, SoundPartsAreSpelled}
use Rattle.kernel_premises.specs.Within.{TermsCanBeWritten, TermsNestWithin}

module _ (sound : LoweredTermsHaveSoundParts) (spelled : SoundPartsAreSpelled) (writable : TermsCanBeWritten) (nests : TermsNestWithin) where
  -- what a legal term that can be printed gives any kernel that has the program's sizes, within the
  -- limits on layouts and height
  gives : (p : Printer) (k : Kernel) (phases : ℕ) (d : Declared) (local : Option (ℕ × ℕ)) (fence : ℕ → Fencing) (t : Tree) (n : Annotation)
      → k.sizes ≡ length d.names → IsLocalSize local → ((q : ℕ) → q ≤ phases → IsFlagged (fence q)) → IsLegalTerm d t n → IsPrintable p d t n → layouts t n ≤ 24 → height t ≤ 512
      → IsFencedWithin k phases (length_formula d.names) fence length_height 72 d local t n
  gives p k phases d local fence t n sizes size flagged legal printable few low =
      let root : Lowered = lowered_root d.names t n in
      let written = writable p root printable.stands in
      let within = nests d 24 t n legal.nodes legal.output printable.can.staged written (omega arith) few low in
      let parts = spelled k d t n sizes (sound d t n legal printable.can) in
      record {
        size = size;
        some = omega arith;
        fits = omega arith;
        flagged = flagged;
        written = written;
        sound = parts.parts;
        layouts = within.0;
        low = within.1;
        fours = printable.fours;
        loops = within.2;
        lengths = parts.output;
        few = parts.few;
      }

  pub kernels_are_in_the_grammar : KernelsAreOfTheGrammar → GroupKernelsAreOfTheGrammar → GridKernelsAreOfTheGrammar → NeededAreFlagged → KernelsAreInTheGrammar
  kernels_are_in_the_grammar items groups grids flags OfItems d local fence t n size legal printable needed few low =
      let g = gives OfItems (kernel_for OfItems d local fence t n) 0 d local (λ q. Open) t n refl size (λ q le. tt) legal printable few low in
      items (length_formula d.names) length_height 72 d local t n
      (record { size = g.size; some = g.some; fits = g.fits; written = g.written; sound = g.sound; layouts = g.layouts; low = g.low; fours = g.fours; loops = g.loops; lengths = g.lengths; few = g.few })
  kernels_are_in_the_grammar items groups grids flags OfGroups d local fence t n size legal printable needed few low =
      let root : Lowered = lowered_root d.names t n in
      let flagged = flags (group_touches root) (is_once (forms_of d.names local) root) (phase_count root) fence needed in
      groups (length_formula d.names) fence length_height 72 d local t n (printable.stands, gives OfGroups (kernel_for OfGroups d local fence t n) (phase_count root) d local fence t n refl size flagged legal printable few low)
  kernels_are_in_the_grammar items groups grids flags OfGrids d local fence t n size legal printable needed few low =
      let root : Lowered = lowered_root d.names t n in
      let flagged = flags (grid_touches root) (is_once_over (grid_forms_of d.names local) root) (grid_phase_count root) fence needed in
      grids (length_formula d.names) fence length_height 72 d local t n (printable.stands, gives OfGrids (kernel_for OfGrids d local fence t n) (grid_phase_count root) d local fence t n refl size flagged legal printable few low)
