-- The local arrays of a term in two dimensions are as long as their values.
use Rattle.std.proofs.Common.{◌≡◌, ℕ, ◌+◌, [], length, Bool, true, false, refl, ap, ◌∙◌, arith}
use Rattle.std.specs.Prelude.{replicate}
use Rattle.std.proofs.lemmas.List.{length-replicate, get_or-replicate}
use Rattle.lift_tree.specs.declared.term.Level.TheVariants.{Items}
use Rattle.lift_tree.specs.declared.term.Dimension.TheVariants.{X, Y}
use Rattle.kernel_tree.specs.Code.{Array, Local as LocalArray}
use Rattle.lift_ir.specs.Types.{width, size}
use Rattle.lift_ir.specs.Terms.{Over, LocalMemory, Term, Bound, Source, Both, Project, Reshape, LetArray, Map, Copy}
use Rattle.printed_form.specs.Counts.{copy_lengths, local_count}
use Rattle.printed_form.proofs.Lengths.{AreLong, joined, long_left, long_right}
use Rattle.group_form.specs.GridTerms.{StandsAlongRow, StandsInGrid}
use Rattle.group_form.specs.Whole.{DeclaresLocals}
use Rattle.group_form.proofs.Copies.{both_empty, no_copies, inputs_no_copies}

-- a map along a row has none
along_no_copies : {A : Type 0} (t : Term A) → StandsAlongRow t → copy_lengths LocalMemory t ≡ []
along_no_copies (Reshape y t) f = along_no_copies t f.1
along_no_copies (Map (Over Items X) n loads xs b) f = both_empty (copy_lengths LocalMemory xs) (copy_lengths LocalMemory b) (inputs_no_copies LocalMemory xs f.0) (no_copies true b f.1)
along_no_copies _ f = absurd (assumption)

-- as many local arrays are declared as are counted
pub counted : {A : Type 0} (written : Bool) (t : Term A) → StandsInGrid written t → length (copy_lengths LocalMemory t) ≡ local_count t
counted true (Reshape y t) f = counted true t f.1
counted true (LetArray v b) f = joined (local_count v) (local_count b) (copy_lengths LocalMemory v) (copy_lengths LocalMemory b) (counted false v f.0) (counted true b f.1)
counted true (Map (Over Items Y) n loads xs b) f = let e = joined (local_count xs) 0 (copy_lengths LocalMemory xs) (copy_lengths LocalMemory b) (counted false xs f.0) (ap length (along_no_copies b f.1)) in omega arith
counted false (Bound v) f = refl
counted false (Source v) f = refl
counted false (Both true a b) f = joined (local_count a) (local_count b) (copy_lengths LocalMemory a) (copy_lengths LocalMemory b) (counted false a f.0) (counted false b f.1)
counted false (Project s a) f = counted false a f
counted false (Reshape y a) f = counted false a f
counted false (LetArray v b) f = joined (local_count v) (local_count b) (copy_lengths LocalMemory v) (copy_lengths LocalMemory b) (counted false v f.0) (counted false b f.1)
counted false (Copy LocalMemory ty a) f = joined (local_count a) (width ty) (copy_lengths LocalMemory a) (replicate (width ty) (size ty)) (counted true a f) (length-replicate (width ty) (size ty))
counted _ _ f = absurd (assumption)

pub declares_locals : {A : Type 0} (long : Array → ℕ) (written : Bool) (k : ℕ) (t : Term A) → StandsInGrid written t → AreLong LocalArray long k (copy_lengths LocalMemory t) → DeclaresLocals long k t
declares_locals long true k (Reshape y t) f h = declares_locals long true k t f.1 h
declares_locals long true k (LetArray v b) f h =
    let xs = copy_lengths LocalMemory v in
    let ys = copy_lengths LocalMemory b in
    (declares_locals long false k v f.0 (long_left LocalArray long k xs ys h), declares_locals long true (k + local_count v) b f.1 (long_right LocalArray long k (local_count v) xs ys (counted false v f.0) h))
declares_locals long true k (Map (Over Items Y) n loads xs b) f h = declares_locals long false k xs f.0 (long_left LocalArray long k (copy_lengths LocalMemory xs) (copy_lengths LocalMemory b) h)
declares_locals long false k (Bound v) f h = tt
declares_locals long false k (Source v) f h = tt
declares_locals long false k (Both true a b) f h =
    let xs = copy_lengths LocalMemory a in
    let ys = copy_lengths LocalMemory b in
    (declares_locals long false k a f.0 (long_left LocalArray long k xs ys h), declares_locals long false (k + local_count a) b f.1 (long_right LocalArray long k (local_count a) xs ys (counted false a f.0) h))
declares_locals long false k (Project s a) f h = declares_locals long false k a f h
declares_locals long false k (Reshape y a) f h = declares_locals long false k a f h
declares_locals long false k (LetArray v b) f h =
    let xs = copy_lengths LocalMemory v in
    let ys = copy_lengths LocalMemory b in
    (declares_locals long false k v f.0 (long_left LocalArray long k xs ys h), declares_locals long false (k + local_count v) b f.1 (long_right LocalArray long k (local_count v) xs ys (counted false v f.0) h))
declares_locals long false k (Copy LocalMemory ty a) f h =
    let xs = copy_lengths LocalMemory a in
    let ys = replicate (width ty) (size ty) in
    let own = long_right LocalArray long k (local_count a) xs ys (counted true a f) h in
    let n = length-replicate (width ty) (size ty) in
    (declares_locals long true k a f (long_left LocalArray long k xs ys h), λ i lt. own i (omega arith) ∙ get_or-replicate (width ty) i (size ty) 0 lt)
declares_locals long _ k _ f h = absurd (assumption)
