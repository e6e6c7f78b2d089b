-- A text is of one kernel.
use Rattle.std.proofs.Common.{◌≡◌, ℕ, List, [], ◌∷◌, ap, ◌∙◌, subst}
use Rattle.readings.specs.Readings.{Reads}
use Rattle.readings.proofs.OneReading.{one_reading}
use Rattle.kernel_tree.specs.Code.{Code, End, Kernel}
use Rattle.kernel_tree.specs.KernelText.{Piece, Notes, all_of, kernels, start, nothing, IsKernelText}
use Rattle.kernel_spelling.specs.Rows.{table}
use Rattle.kernel_spelling.specs.Decided.{decided}
use Rattle.kernel_spelling.proofs.Cut.{one_cut}
use Rattle.kernel_spelling.proofs.Whole.{whole}

abbrev pub first_block : List Code → Code
first_block [] = End
first_block (c ∷ cs) = c

abbrev pub kernel_at : Notes → Kernel
kernel_at n = record { inputs = n.inputs; outputs = n.outputs; sizes = n.sizes; locals = n.locals; privates = n.privates; variables = n.variables; vectors = n.vectors; local = n.local; code = first_block n.blocks }

pub one_kernel : (name : Piece) (bytes : List ℕ) (k l : Kernel) → IsKernelText name bytes k → IsKernelText name bytes l → k ≡ l
one_kernel name bytes k l h g =
    let pieces : h.0 ≡ g.0 = one_cut bytes h.0 g.0 h.1 g.1 in
    let reads : Reads kernels (start name) nothing g.0 [] (all_of k) = subst (λ z. Reads kernels (start name) nothing z [] (all_of k)) pieces h.2 in
    ap kernel_at (one_reading kernels table decided (start name) nothing g.0 (all_of k) (all_of l) reads g.2)

pub whole_kernel : (name : Piece) (ps : List Piece) (n : Notes) → Reads kernels (start name) nothing ps [] n → (k : Kernel) × (n ≡ all_of k)
whole_kernel name ps n r =
    let h = whole name ps n r in
    let k : Kernel = record { inputs = n.inputs; outputs = n.outputs; sizes = n.sizes; locals = n.locals; privates = n.privates; variables = n.variables; vectors = n.vectors; local = n.local; code = h.code } in (
      k,
      ap (λ v. record n { values = v }) h.values ∙ ap (λ v. record n { values = []; lanes = v }) h.lanes ∙ ap (λ v. record n { values = []; lanes = []; blocks = v }) h.blocks,
    )
