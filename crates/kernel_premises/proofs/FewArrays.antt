-- A kernel's arrays are few and small, where no limit is passed.
use Rattle.std.proofs.Common.{◌≡◌, ℕ, ◌*◌, ◌<◌, ◌≤◌, Bool, true, false, length, Option, Some, None, nat_lt, refl, subst, arith}
use Rattle.std.specs.Prelude.{if◌then◌else◌}
use Rattle.std.specs.List.{sum}
use Rattle.std.proofs.lemmas.Bool.{ltb-false}
use Rattle.lift_tree.specs.Tree.{Tree}
use Rattle.lift_tree.specs.Annotations.{Annotation}
use Rattle.lift_ir.specs.Terms.{LocalMemory, PrivateMemory}
use Rattle.buffer_allocation.specs.Copies.{held, copies}
use Rattle.buffer_allocation.specs.Limits as limits
use Rattle.buffer_allocation.specs.Limits.{greatest, unless_above}
use Rattle.buffer_allocation.specs.declared.buffers.AllocLimit.{AllocLimit}
use Rattle.buffer_allocation.specs.declared.buffers.AllocLimit.TheVariants as limit
use Rattle.buffer_allocation.specs.declared.copies.Memory.TheVariants.{Local, Private}
use Rattle.printed_form.specs.Counts.{copy_lengths}
use Rattle.printed_form.specs.Programs.{lowered_root, printed_kernel}
use Rattle.printed_form.specs.GrammarPieces.{ArraysCanBeDeclared}
use Rattle.length_spelling.specs.Formulas.{length_formula}
use Rattle.length_spelling.specs.Laws.{length_height}
use Rattle.kernel_premises.specs.Sound.{IsHeld}
use Rattle.kernel_premises.specs.Terms.{SoundPartsAreSpelled}
use Rattle.kernel_premises.specs.Arrays.{AllocatedAreDeclared, DeclaredAreFew}
use Rattle.kernel_premises.proofs.ArrayLengths.{no_more}
use Rattle.kernel_premises.proofs.ArraysOfCopies.{written_arrays}

pub allocated_are_declared : AllocatedAreDeclared
allocated_are_declared d t n o sound m = written_arrays m d.names IsHeld (λ s. s < length d.inputs) t n o sound.parts

not_passed : (b : Bool) (x : AllocLimit × ℕ) (rest : Option (AllocLimit × ℕ)) → (if b then Some x else rest) ≡ None → (b ≡ false) × (rest ≡ None)
not_passed true x rest e = absurd (cc)
not_passed false x rest e = (refl, e)

within : (l : AllocLimit) (t : Tree) (n : Annotation) (rest : Option (AllocLimit × ℕ)) → unless_above l t n rest ≡ None → (limits.counted l t n ≤ greatest l) × (rest ≡ None)
within l t n rest e =
    let r = not_passed (nat_lt (greatest l) (limits.counted l t n)) (l, limits.counted l t n) rest e in
    (ltb-false (greatest l) (limits.counted l t n) r.0, r.1)

not_held : (n k : ℕ) → k < 18446744073709551615 → held n ≤ k → n ≤ k
not_held n k few le = omega arith

pub declared_are_few : ArraysCanBeDeclared → SoundPartsAreSpelled → DeclaredAreFew
declared_are_few declared spelled d t n o sound e =
    let k = printed_kernel (length_formula d.names) d None t n in
    let parts = (spelled k d t n refl sound).parts in
    let lay = within limit.Layouts t n _ e in
    let loc = within limit.Local t n _ lay.1 in
    let priv = within limit.Private t n _ loc.1 in
    let bytes = subst (λ z. 4 * sum z ≤ 32768) (allocated_are_declared d t n o sound Local) (not_held (4 * sum (copies Local t n)) 32768 (omega arith) loc.0) in
    let cells = subst (λ z. sum z ≤ 256) (allocated_are_declared d t n o sound Private) (not_held (sum (copies Private t n)) 256 (omega arith) priv.0) in
    let locals = no_more (copy_lengths LocalMemory (lowered_root d.names t n)) (declared k (length_formula d.names) length_height d LocalMemory (lowered_root d.names t n) parts) in
    let privates = no_more (copy_lengths PrivateMemory (lowered_root d.names t n)) (declared k (length_formula d.names) length_height d PrivateMemory (lowered_root d.names t n) parts) in
    record { bytes = bytes; cells = cells; locals = omega (arith, bytes, locals); privates = omega (arith, cells, privates) }
