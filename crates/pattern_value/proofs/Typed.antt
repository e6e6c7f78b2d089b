-- The value of a typed term has its type.
use Rattle.std.proofs.Common.{◌≡◌, ℕ, List, [], sym, subst}
use Rattle.lift_tree.specs.declared.typed.Typed.{Typed}
use Rattle.lift_tree.specs.Annotations.{annotation_of, type_in}
use Rattle.lift_tree.specs.Meaning.{World, meaning}
use Rattle.lift_tree.specs.Programs.{program_of}
use Rattle.lift_tree.specs.Tree.{tree_of}
use Rattle.lift_tree.specs.Types.{HasType}
use Rattle.lift_tree.specs.Typing.{declared_by}
use Rattle.lift_tree.specs.Values.{Value}
use Rattle.lift_tree.proofs.Annotated.{annotated_is_typed}
use Rattle.lift_tree.proofs.Sound.{values_have_types}
use Rattle.lift_tree.specs.declared.program.Program.{Program}
use Rattle.lift_tree.specs.declared.value.Val.{Val}
use Rattle.pattern_value.specs.declared.evaluate.World as held
use Rattle.pattern_value.specs.World.{HasItsType, world_of, world_at}

pub typed_value : (t : Typed) (w : World) (v : Value) → v ≡ meaning w [] (tree_of t.term) → HasItsType t w v
typed_value t w v e typed ok =
    let d = declared_by (program_of t.program) in
    let a = type_in (annotation_of t.types) in
    subst (HasType w.bases a) (sym e) (values_have_types d w [] [] (tree_of t.term) a typed.declared ok tt (λ n b h. cc) (annotated_is_typed d [] (tree_of t.term) (annotation_of t.types) typed.nodes))

pub world_is : (w : held.World) (p : Program) (ys : List ℕ) (inputs : List Val) → w.sizes.now ≡ p.sizes.items → w.bases.now ≡ ys → w.inputs.now ≡ inputs → world_of w ≡ world_at p ys inputs
unfolding world_of
world_is w p ys inputs e f g = cc

pub ruleset typed = (typed_value, world_is)
