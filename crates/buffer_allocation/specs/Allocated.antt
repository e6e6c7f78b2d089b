-- The buffers that a term is given.
use Rattle.std.specs.Prelude.{◌≡◌, ℕ, List, None}
use Rattle.lift_tree.specs.Annotations.{Annotation}
use Rattle.lift_tree.specs.Tree.{Tree}
use Rattle.buffer_allocation.specs.Copies.{copies}
use Rattle.buffer_allocation.specs.Limits.{passed_limit}
use Rattle.buffer_allocation.specs.declared.copies.Memory.TheVariants as memory

-- no limit is passed, and arrays of these lengths are all that the term's copies fill
pub record AreAllocated (locals privates : List ℕ) (t : Tree) (n : Annotation) : Type 0 where
  pub within : passed_limit t n ≡ None
  pub local : locals ≡ copies memory.Local t n
  pub private : privates ≡ copies memory.Private t n
