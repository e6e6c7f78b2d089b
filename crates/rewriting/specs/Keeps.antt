-- What a rewrite keeps.
use Rattle.std.specs.Prelude.{◌≡◌, List}
use Rattle.lift_tree.specs.Copies.{IsCopyingArrays}
use Rattle.lift_tree.specs.Tree.{Tree}
use Rattle.lift_tree.specs.Values.{Value}
use Rattle.lift_tree.specs.Meaning.{World, meaning}
use Rattle.lift_tree.specs.Types.{PlainTy, HaveTypes}
use Rattle.lift_tree.specs.Typing.{Declared, Types, IsAdmissible}
use Rattle.rewriting.specs.Around.{Around, IsAround}

-- what stands for t has its type, copies nothing but arrays where t does, and has its value at all
-- admissible sizes, inputs and values of the binders
pub record Keeps (d : Declared) (binders : List PlainTy) (t u : Tree) : Type 0 where
  pub typed : (a : PlainTy) → Types d binders t a → Types d binders u a
  pub copies : IsCopyingArrays d binders t → IsCopyingArrays d binders u
  pub value : (w : World) (vs : List Value) → IsAdmissible d w → HaveTypes w.bases binders vs
      → meaning w vs u ≡ meaning w vs t

-- it does in whatever program this stands around t
abbrev pub KeepsIn : Around → Tree → Tree → Type 0
KeepsIn a t u = (d : Declared) → IsAround d a t → Keeps d a.binders t u
