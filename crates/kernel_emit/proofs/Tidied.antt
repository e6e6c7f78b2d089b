-- A kernel that is printed for a term is the term's with tidy indices and bounds.
use Rattle.std.proofs.Common.{◌≡◌, List, ℕ, Option, true, refl, subst, sym}
use Rattle.size_arith.specs.Ranges.{AreNames}
use Rattle.lift_tree.specs.Annotations.{Annotation, type_in}
use Rattle.lift_tree.specs.Launches.{Asks}
use Rattle.lift_tree.specs.Tree.{Tree}
use Rattle.lift_tree.specs.Typing.{Declared}
use Rattle.kernel_tree.specs.Code.{Kernel}
use Rattle.kernel_tree.specs.Grammar.{is_kernel}
use Rattle.kernel_tree.specs.Launch.{Launch}
use Rattle.lowered_tree.specs.Kinds.{asks_of}
use Rattle.barrier_placement.specs.Fencing.{Fencing}
use Rattle.nest_premises.specs.Printable.{IsPrintable, printer_for}
use Rattle.group_form.specs.Kernels.{AreNeededBy, KernelsKeep, KernelsServe, KernelsStart, Printer, OfItems, OfGroups, OfGrids}
use Rattle.printed_form.specs.Programs.{IsLaunchOf}
use Rattle.printed_form.proofs.Programs.{has_local, some_items, whole}
use Rattle.kernel_premises.specs.Terms.{TermsArePrinted, kernel_for}
use Rattle.tidy_indices.specs.Laws.{IsLaunchFor, KeepsValues, TidyFormulasKeepValues}
use Rattle.tidy_indices.specs.Tidy.{tidy_formula}
use Rattle.tidy_kernels.specs.Pass.{tidied_kernel}
use Rattle.tidy_printed.specs.Terms.{TidiedKernelsArePrinted}
use Rattle.tidy_printed.specs.TidyLaws.{TidiedTermsAreTidy, TidyFormulasMakeTidy}
use Rattle.kernel_emit.specs.Kernels.{HasParameters, IsKernelFor, IsWithinMemory, PrintsAtAll}
use Rattle.kernel_emit.specs.Plain.{IsPlainFor}

abbrev tidy_of : Declared → Option (ℕ × ℕ) → Kernel → Kernel
tidy_of d local k = tidied_kernel (tidy_formula d.names local) k

-- an admissible launch is one of a kernel that asks for groups of the size that is fixed
launch_for : (d : Declared) (asks : Asks) (bases : List ℕ) (t : Tree) (n : Annotation) (l : Launch) → IsLaunchOf d asks bases t n l → IsLaunchFor asks.local l
launch_for d asks bases t n l at = record {
  whole = whole l asks d.names bases at.admissible;
  size = has_local asks.local l at.admissible.fixed;
  some = some_items l.global.0 l.global.1 at.admissible.global_least.0 at.admissible.global_least.1;
  few = at.admissible.global_most;
}

keeps_at : TidyFormulasKeepValues → (d : Declared) (asks : Asks) (bases : List ℕ) (t : Tree) (n : Annotation) (l : Launch) → AreNames d.names → IsLaunchOf d asks bases t n l → KeepsValues (tidy_formula d.names asks.local) l
keeps_at values d asks bases t n l names at = values d.names bases asks.local l names at.admissible.sizes at.sizes (launch_for d asks bases t n l at)

-- each printer gives a kernel the term's parameters
has_parameters : (p : Printer) (d : Declared) (local : Option (ℕ × ℕ)) (fence : ℕ → Fencing) (t : Tree) (n : Annotation) → HasParameters d (type_in n) (tidy_of d local (kernel_for p d local fence t n))
has_parameters OfItems d local fence t n = record { inputs = refl; outputs = refl; sizes = refl }
has_parameters OfGroups d local fence t n = record { inputs = refl; outputs = refl; sizes = refl }
has_parameters OfGrids d local fence t n = record { inputs = refl; outputs = refl; sizes = refl }

-- what is known of printed kernels
pub record Laws : Type 0 where
  pub printed : TermsArePrinted
  pub tidied : TidiedKernelsArePrinted
  pub start : KernelsStart
  pub keep : KernelsKeep
  pub serve : KernelsServe
  pub tidy : TidiedTermsAreTidy
  pub values : TidyFormulasKeepValues
  pub makes : TidyFormulasMakeTidy

module _ (laws : Laws) (d : Declared) (local : Option (ℕ × ℕ)) (t : Tree) (n : Annotation) (names : AreNames d.names) (printable : IsPrintable (printer_for t) d t n) where
  module _ (fence : ℕ → Fencing) (needed : AreNeededBy (printer_for t) d local fence t n) where
    abbrev plain : Kernel
    plain = kernel_for (printer_for t) d local fence t n

    prints : PrintsAtAll d local t n (tidy_of d local plain)
    prints bases l at =
        laws.tidied (printer_for t) d local bases t n l (tidy_formula d.names local) plain (keeps_at laws.values d (asks_of local t) bases t n l names at)
        (laws.printed (printer_for t) d local bases fence t n l printable at needed)

    own : IsWithinMemory plain → is_kernel plain ≡ true → IsKernelFor d local t n (tidy_of d local plain)
    own small grammar = record {
      prints = prints;
      starts = λ w l c ok at cells. laws.start (printer_for t) d (asks_of local t) w t n l (tidy_of d local plain) c (printable.can.lowerable w.bases ok.bases) (printable.at_launch local w.bases l at) ok at cells (prints w.bases l at);
      keeps = λ w l c ok at cells. laws.keep (printer_for t) d (asks_of local t) w t n l (tidy_of d local plain) c (printable.can.lowerable w.bases ok.bases) (printable.at_launch local w.bases l at) ok at cells (prints w.bases l at);
      serve = λ w l c ok at cells. laws.serve (printer_for t) d (asks_of local t) w t n l (tidy_of d local plain) c (printable.can.lowerable w.bases ok.bases) (printable.at_launch local w.bases l at) ok at cells (prints w.bases l at);
      tidy = laws.tidy (printer_for t) d local fence t n (tidy_formula d.names local) names printable.stands grammar (laws.makes d.names local);
      parameters = has_parameters (printer_for t) d local fence t n;
      memory = record { local_bytes = small.local_bytes; private_cells = small.private_cells };
    }

  pub tidied_is : (k : Kernel) → IsPlainFor d local t n k → IsWithinMemory k → is_kernel k ≡ true → IsKernelFor d local t n (tidy_of d local k)
  tidied_is k plain = subst (λ (x : Kernel). IsWithinMemory x → is_kernel x ≡ true → IsKernelFor d local t n (tidy_of d local x)) (sym plain.2) (own plain.0 plain.1)
