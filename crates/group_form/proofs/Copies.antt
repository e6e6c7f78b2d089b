-- The local arrays of a term are as long as their values, where a kernel has them by their lengths.
use Rattle.std.proofs.Common.{◌≡◌, ℕ, ◌+◌, List, [], ◌++◌, length, Bool, true, false, refl, ap, ◌∙◌, arith}
use Rattle.std.specs.Prelude.{replicate}
use Rattle.std.proofs.lemmas.List.{length-replicate, get_or-replicate}
use Rattle.lift_tree.specs.declared.term.Level.TheVariants.{Launch, Items}
use Rattle.lift_tree.specs.declared.term.Dimension.TheVariants.{X, Y}
use Rattle.kernel_tree.specs.Code.{Array, Local as LocalArray}
use Rattle.lift_ir.specs.Types.{width, size}
use Rattle.lift_ir.specs.Forms.{Stands, StandsAlongRow, StandsOverLaunch}
use Rattle.lift_ir.specs.Terms.{Over, Sequential, Space, LocalMemory, PrivateMemory, Term, Bound, Source, Both, Project, Reshape, LetArray, LetElement, Map, Fold, Store, Copy}
use Rattle.printed_form.specs.Counts.{private_count, copy_lengths, local_count}
use Rattle.printed_form.proofs.Lengths.{AreLong, joined, long_left, long_right}
use Rattle.group_form.specs.Forms.{StandsInGroup, IsOfInputs}
use Rattle.group_form.specs.Whole.{DeclaresLocals}

pub both_empty : (xs ys : List ℕ) → xs ≡ [] → ys ≡ [] → xs ++ ys ≡ []
both_empty xs ys d e = ap (λ z. z ++ ys) d ∙ e

-- one item's term has none
pub no_copies : {A : Type 0} (written : Bool) (t : Term A) → Stands written t → copy_lengths LocalMemory t ≡ []
no_copies true (Store ty t) f = refl
no_copies true (Reshape y t) f = no_copies true t f.1
no_copies true (LetArray v b) f = both_empty (copy_lengths LocalMemory v) (copy_lengths LocalMemory b) (no_copies false v f.0) (no_copies true b f.1)
no_copies true (LetElement ty v b) f = no_copies true b f
no_copies true (Map Sequential n loads xs b) f = both_empty (copy_lengths LocalMemory xs) (copy_lengths LocalMemory b) (no_copies false xs f.0) (no_copies true b f.1)
no_copies true (Fold n loads ty xs s b) f = no_copies false xs f
no_copies false (Bound v) f = refl
no_copies false (Source v) f = refl
no_copies false (Both zips a b) f = both_empty (copy_lengths LocalMemory a) (copy_lengths LocalMemory b) (no_copies false a f.0) (no_copies false b f.1)
no_copies false (Project s a) f = no_copies false a f
no_copies false (Reshape y a) f = no_copies false a f
no_copies false (LetArray v b) f = both_empty (copy_lengths LocalMemory v) (copy_lengths LocalMemory b) (no_copies false v f.0) (no_copies false b f.1)
no_copies false (Copy PrivateMemory ty a) f = both_empty (copy_lengths LocalMemory a) [] (no_copies true a f) refl
no_copies _ _ f = absurd (assumption)

-- nor has a map along a row
along_no_copies : {A : Type 0} (t : Term A) → StandsAlongRow t → copy_lengths LocalMemory t ≡ []
along_no_copies (Reshape y t) f = along_no_copies t f.1
along_no_copies (Map (Over Launch X) n loads xs b) f = both_empty (copy_lengths LocalMemory xs) (copy_lengths LocalMemory b) (no_copies false xs f.0) (no_copies true b f.1)
along_no_copies _ f = absurd f

-- nor a term over the launch
pub launch_no_copies : {A : Type 0} (t : Term A) → StandsOverLaunch t → copy_lengths LocalMemory t ≡ []
launch_no_copies (Reshape y t) f = launch_no_copies t f.1
launch_no_copies (LetArray v b) f = both_empty (copy_lengths LocalMemory v) (copy_lengths LocalMemory b) (no_copies false v f.0) (launch_no_copies b f.1)
launch_no_copies (Map (Over Launch X) n loads xs b) f = both_empty (copy_lengths LocalMemory xs) (copy_lengths LocalMemory b) (no_copies false xs f.0) (no_copies true b f.1)
launch_no_copies (Map (Over Launch Y) n loads xs b) f = both_empty (copy_lengths LocalMemory xs) (copy_lengths LocalMemory b) (no_copies false xs f.0) (along_no_copies b f.1)
launch_no_copies _ f = absurd f

-- as many local arrays are declared as are counted
pub counted : {A : Type 0} (written : Bool) (t : Term A) → StandsInGroup written t → length (copy_lengths LocalMemory t) ≡ local_count t
counted true (Reshape y t) f = counted true t f.1
counted true (LetArray v b) f = joined (local_count v) (local_count b) (copy_lengths LocalMemory v) (copy_lengths LocalMemory b) (counted false v f.0) (counted true b f.1)
counted true (Map (Over Items X) n loads xs b) f = let e = joined (local_count xs) 0 (copy_lengths LocalMemory xs) (copy_lengths LocalMemory b) (counted false xs f.0) (ap length (no_copies true b f.1)) in omega arith
counted false (Bound v) f = refl
counted false (Source v) f = refl
counted false (Both true a b) f = joined (local_count a) (local_count b) (copy_lengths LocalMemory a) (copy_lengths LocalMemory b) (counted false a f.0) (counted false b f.1)
counted false (Project s a) f = counted false a f
counted false (Reshape y a) f = counted false a f
counted false (LetArray v b) f = joined (local_count v) (local_count b) (copy_lengths LocalMemory v) (copy_lengths LocalMemory b) (counted false v f.0) (counted false b f.1)
counted false (Copy LocalMemory ty a) f = joined (local_count a) (width ty) (copy_lengths LocalMemory a) (replicate (width ty) (size ty)) (counted true a f) (length-replicate (width ty) (size ty))
counted _ _ f = absurd (assumption)

pub declares_locals : {A : Type 0} (long : Array → ℕ) (written : Bool) (k : ℕ) (t : Term A) → StandsInGroup written t → AreLong LocalArray long k (copy_lengths LocalMemory t) → DeclaresLocals long k t
declares_locals long true k (Reshape y t) f h = declares_locals long true k t f.1 h
declares_locals long true k (LetArray v b) f h =
    let xs = copy_lengths LocalMemory v in
    let ys = copy_lengths LocalMemory b in
    (declares_locals long false k v f.0 (long_left LocalArray long k xs ys h), declares_locals long true (k + local_count v) b f.1 (long_right LocalArray long k (local_count v) xs ys (counted false v f.0) h))
declares_locals long true k (Map (Over Items X) n loads xs b) f h = declares_locals long false k xs f.0 (long_left LocalArray long k (copy_lengths LocalMemory xs) (copy_lengths LocalMemory b) h)
declares_locals long false k (Bound v) f h = tt
declares_locals long false k (Source v) f h = tt
declares_locals long false k (Both true a b) f h =
    let xs = copy_lengths LocalMemory a in
    let ys = copy_lengths LocalMemory b in
    (declares_locals long false k a f.0 (long_left LocalArray long k xs ys h), declares_locals long false (k + local_count a) b f.1 (long_right LocalArray long k (local_count a) xs ys (counted false a f.0) h))
declares_locals long false k (Project s a) f h = declares_locals long false k a f h
declares_locals long false k (Reshape y a) f h = declares_locals long false k a f h
declares_locals long false k (LetArray v b) f h =
    let xs = copy_lengths LocalMemory v in
    let ys = copy_lengths LocalMemory b in
    (declares_locals long false k v f.0 (long_left LocalArray long k xs ys h), declares_locals long false (k + local_count v) b f.1 (long_right LocalArray long k (local_count v) xs ys (counted false v f.0) h))
declares_locals long false k (Copy LocalMemory ty a) f h =
    let xs = copy_lengths LocalMemory a in
    let ys = replicate (width ty) (size ty) in
    let own = long_right LocalArray long k (local_count a) xs ys (counted true a f) h in
    let n = length-replicate (width ty) (size ty) in
    (declares_locals long true k a f (long_left LocalArray long k xs ys h), λ i lt. own i (omega arith) ∙ get_or-replicate (width ty) i (size ty) 0 lt)
declares_locals long _ k _ f h = absurd (assumption)

-- nor has an argument of inputs
pub inputs_no_copies : {A : Type 0} (s : Space) (t : Term A) → IsOfInputs t → copy_lengths s t ≡ []
inputs_no_copies s (Bound v) f = refl
inputs_no_copies s (Source v) f = refl
inputs_no_copies s (Both true a b) f = both_empty (copy_lengths s a) (copy_lengths s b) (inputs_no_copies s a f.0) (inputs_no_copies s b f.1)
inputs_no_copies s (Project z a) f = inputs_no_copies s a f
inputs_no_copies s (Reshape y a) f = inputs_no_copies s a f
inputs_no_copies s (LetArray v b) f = both_empty (copy_lengths s v) (copy_lengths s b) (inputs_no_copies s v f.0) (inputs_no_copies s b f.1)
inputs_no_copies s _ f = absurd (assumption)

pub inputs_no_privates : {A : Type 0} (t : Term A) → IsOfInputs t → private_count t ≡ 0
inputs_no_privates (Bound v) f = refl
inputs_no_privates (Source v) f = refl
inputs_no_privates (Both true a b) f = let x = inputs_no_privates a f.0 in let y = inputs_no_privates b f.1 in omega arith
inputs_no_privates (Project z a) f = inputs_no_privates a f
inputs_no_privates (Reshape y a) f = inputs_no_privates a f
inputs_no_privates (LetArray v b) f = let x = inputs_no_privates v f.0 in let y = inputs_no_privates b f.1 in omega arith
inputs_no_privates _ f = absurd (assumption)
