-- The text that is printed is the kernel's, and no other.
use Rattle.std.proofs.Common.{◌≡◌, ℕ, suc, ◌-◌, ◌<◌, ◌^◌, List, Result, Ok, Err, ap, sym, ◌∙◌, subst}
use Rattle.std.specs.Prelude.{IfOk, Vec}
use Rattle.std.specs.Global.{Global}
use Rattle.kernel_tree.specs.declared.tree.Kernel as held
use Rattle.kernel_tree.specs.Code.{Kernel}
use Rattle.kernel_tree.specs.Kernels.{kernel_of}
use Rattle.kernel_tree.specs.Pieces.{joined}
use Rattle.kernel_tree.specs.KernelText.{IsKernelText}
use Rattle.kernel_spelling.specs.Spelling.{HasText, IsName, spelled_with, text_of}
use Rattle.kernel_printer.specs.Bytes.{write_kernel}
use Rattle.kernel_printer.proofs.Blocks.{one_output}
use Rattle.kernel_printer.proofs.Written.{kernel_written}

abbrev Small : held.Kernel → Type 0
Small k = (k.inputs < 2 ^ 32) × (k.outputs < 2 ^ 32) × (k.sizes < 2 ^ 32) × (k.variables < 2 ^ 32) × (k.vectors < 2 ^ 32)

has_text : (k : held.Kernel) → Small k → HasText (kernel_of k)
has_text k s = record {
  in_grammar = k.in_grammar;
  inputs = s.0;
  outputs = s.1;
  sizes = s.2;
  locals = k.few_arrays.0;
  privates = k.few_arrays.1;
  variables = s.3;
  vectors = s.4;
}

is_text : (name : List ℕ) (k : held.Kernel) (bytes : List ℕ) → bytes ≡ write_kernel name (kernel_of k) (k.outputs - 1) → bytes ≡ text_of name (kernel_of k)
is_text name k bytes e =
    let outputs : k.outputs ≡ suc (k.outputs - 1) = one_output (kernel_of k) k.in_grammar in
    e ∙ kernel_written name (kernel_of k) (k.outputs - 1) ∙ ap (λ o. joined (spelled_with name (kernel_of k) o)) (sym outputs)

pub related : {E : Type 0} (name : List ℕ) (k : held.Kernel) (r : Result (Vec ℕ Global) E) → IsName name → ((name : List ℕ) (k : Kernel) → IsName name → HasText k → IsKernelText name (text_of name k) k) → IfOk r (λ text. text.items ≡ write_kernel name (kernel_of k) (k.outputs - 1)) → IfOk r (λ _. Small k) → IfOk r (λ text. IsKernelText name text.items (kernel_of k))
related name k (Ok text) named taken e s = subst (λ z. IsKernelText name z (kernel_of k)) (sym (is_text name k text.items e)) (taken name (kernel_of k) named (has_text k s))
related name k (Err e) named taken h s = tt

pub alone : {E : Type 0} (name : List ℕ) (k : held.Kernel) (r : Result (Vec ℕ Global) E) → ((name : List ℕ) (bytes : List ℕ) (k : Kernel) → IsKernelText name bytes k → HasText k × (bytes ≡ text_of name k)) → IfOk r (λ text. text.items ≡ write_kernel name (kernel_of k) (k.outputs - 1)) → IfOk r (λ text. (bytes : List ℕ) → IsKernelText name bytes (kernel_of k) → bytes ≡ text.items)
alone name k (Ok text) only e = λ bytes h. (only name bytes (kernel_of k) h).1 ∙ sym (is_text name k text.items e)
alone name k (Err e) only h = tt
