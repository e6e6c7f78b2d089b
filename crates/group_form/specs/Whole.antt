-- A whole term with a map over work-groups: its local arrays, where the value of its body goes, and
-- its rows.
use Rattle.std.specs.Prelude.{◌≡◌, ℕ, ◌+◌, ◌<◌, List}
use Rattle.kernel_tree.specs.Code.{Array, Local as LocalArray}
use Rattle.lift_ir.specs.Types.{Ty, width, size}
use Rattle.lift_ir.specs.Layouts.{operand_position}
use Rattle.lift_ir.specs.Terms.{Term, Both, Project, Reshape, LetArray, Map, Copy}
use Rattle.printed_form.specs.Counts.{local_count}
use Rattle.group_form.specs.Uses.{Destination, Locals, Outputs}
use Rattle.group_form.specs.Body.{first_index}

-- the local arrays of a term outside local maps, the first of which is this, are as long as their
-- values
abbrev pub DeclaresLocals : {A : Type 0} → (Array → ℕ) → ℕ → Term A → Type 0
DeclaresLocals long k (Both zips a b) =
    DeclaresLocals long k a × DeclaresLocals long (k + local_count a) b
DeclaresLocals long k (Project s a) = DeclaresLocals long k a
DeclaresLocals long k (Reshape l a) = DeclaresLocals long k a
DeclaresLocals long k (LetArray v b) =
    DeclaresLocals long k v × DeclaresLocals long (k + local_count v) b
DeclaresLocals long k (Map kind n loads xs b) = DeclaresLocals long k xs
DeclaresLocals long k (Copy space ty a) =
    DeclaresLocals long k a
    × ((c : ℕ) → c < width ty → long (LocalArray (k + local_count a + c)) ≡ size ty)
DeclaresLocals long k _ = Unit {0}

-- the type of what a destination holds
abbrev pub destination_type : Ty → Destination → Ty
destination_type result (Locals first ty) = ty
destination_type result Outputs = result

-- the row of its last local map that gives a position of a term
abbrev pub row_of : {A : Type 0} → (A → ℕ) → Term A → List ℕ → ℕ
row_of num (Reshape y t) p = row_of num t (operand_position num y p)
row_of num (LetArray v b) p = row_of num b p
row_of num _ p = first_index p
