-- A term whose loads suffice has short copies.
use Rattle.std.proofs.Common.{ℕ, ◌<◌, ◌^◌, Bool, List, arith}
use Rattle.lift_ir.specs.Types.{Ty, size, IsShort}
use Rattle.lift_ir.specs.Terms.{Term, Literal, Bound, Source, Apply, ApplyNumber, ApplyLanes, DivideLanes, Select, Both, Project, Reshape, LetArray, LetElement, Map, Fold, Store, Copy, push}
use Rattle.lift_ir.specs.Loads.{LoadsSuffice, all, covers, held_scalars}
use Rattle.item_emit.specs.Copies.{HasShortCopies, IsShortCopy}

a_copy : (ty : Ty) → size ty < 2 ^ 31 → IsShort ty → IsShortCopy ty
a_copy ty small short = record { lengths = short; cells = omega arith }

pub short_copies : {A : Type 0} → (h : ℕ → List Bool → Bool) (t : Term A) → LoadsSuffice h t → HasShortCopies t
short_copies h (Literal c) s = tt
short_copies h (Bound v) s = tt
short_copies h (Source v) s = tt
short_copies h (Apply o a b) s = tt
short_copies h (ApplyNumber o n a) s = tt
short_copies h (ApplyLanes o l r a b) s = tt
short_copies h (DivideLanes o n a) s = tt
short_copies h (Select c a b) s = tt
short_copies h (Both zips a b) s = (short_copies h a s.0, short_copies h b s.1)
short_copies h (Project second a) s = short_copies h a s
short_copies h (Reshape l a) s = short_copies h a s
short_copies h (LetArray v b) s = (short_copies h v s.0, short_copies (push (held_scalars h v) h) b s.1)
short_copies h (LetElement ty v b) s = short_copies (push all h) b s.2
short_copies h (Map k n loads xs b) s = (short_copies h xs s.0, short_copies (push (covers loads) h) b s.1)
short_copies h (Fold n loads ty xs z b) s = short_copies h xs s.0
short_copies h (Store ty a) s = tt
short_copies h (Copy space ty a) s = (a_copy ty s.0 s.1, short_copies h a s.2)
