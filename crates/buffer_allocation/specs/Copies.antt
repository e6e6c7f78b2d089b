-- The buffers of a term's copies.
use Rattle.std.specs.Prelude.{ℕ, ◌*◌, min, Bool, true, false, List, [], ◌++◌, replicate, if◌then◌else◌}
use Rattle.std.specs.List.{sum}
use Rattle.lift_tree.specs.declared.term.UnaryForm.{UnaryForm}
use Rattle.lift_tree.specs.declared.term.UnaryForm.TheVariants.{Div, Rem, First, Second, Layout, Slide, Pad, ToLocal, ToPrivate, Then}
use Rattle.lift_tree.specs.Tree.{Tree, Unary, Binary, Select, Let, Map, Fold}
use Rattle.lift_tree.specs.Types.{PlainTy}
use Rattle.lift_tree.specs.Annotations.{Annotation, One, Two, Three}
use Rattle.value_lists.specs.Lists.{scalars, width}
use Rattle.buffer_allocation.specs.declared.copies.Memory.{Memory}
use Rattle.buffer_allocation.specs.declared.copies.Memory.TheVariants.{Local, Private}

-- a count, which stands still at 2^64 - 1
abbrev pub held : ℕ → ℕ
held n = min n 18446744073709551615

-- one buffer for each component, as long as its scalars; such a type's lengths name no size
abbrev pub buffers_for : PlainTy → List ℕ
buffers_for a = replicate (width a) (held (scalars [] a))

-- a copy to that memory
abbrev pub is_kept : Memory → UnaryForm → Bool
is_kept m (Div n) = false
is_kept m (Rem n) = false
is_kept m First = false
is_kept m Second = false
is_kept m (Layout l) = false
is_kept m (Slide s t) = false
is_kept m (Pad l r) = false
is_kept Local ToLocal = true
is_kept Private ToLocal = false
is_kept Local ToPrivate = false
is_kept Private ToPrivate = true
is_kept m Then = false

-- what a form of this type keeps in that memory
abbrev pub kept : Memory → UnaryForm → PlainTy → List ℕ
kept m f a = if is_kept m f then buffers_for a else []

-- the lengths of all arrays in one memory, in the order of the copies, a copy after those in it
abbrev pub copies : Memory → Tree → Annotation → List ℕ
copies m (Unary f t) (One a n) = copies m t n ++ kept m f a
copies m (Binary f t u) (Two a n k) = copies m t n ++ copies m u k
copies m (Select t u v) (Three a n k l) = copies m t n ++ (copies m u k ++ copies m v l)
copies m (Let v b) (Two a n k) = copies m v n ++ copies m b k
copies m (Map h xs b) (Two a n k) = copies m xs n ++ copies m b k
copies m (Fold h xs s b) (Three a n k l) = copies m xs n ++ (copies m s k ++ copies m b l)
copies m t n = []

-- the bytes of all arrays in local memory, four a scalar
abbrev pub local_bytes : Tree → Annotation → ℕ
local_bytes t n = held (4 * sum (copies Local t n))

-- the cells of all arrays in private memory
abbrev pub private_cells : Tree → Annotation → ℕ
private_cells t n = held (sum (copies Private t n))
