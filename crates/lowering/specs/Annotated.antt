-- A term of the source with the types of its nodes, as the Rust code holds them.
use Rattle.std.specs.Prelude.{List}
use Rattle.size_arith.specs.declared.names.Name.{Name}
use Rattle.lift_tree.specs.Annotations.{annotation_of, type_in}
use Rattle.lift_tree.specs.Tree.{Tree, tree_of}
use Rattle.lift_tree.specs.Types.{PlainTy}
use Rattle.lift_ir.specs.Lowering as lowering
use Rattle.lift_ir.specs.Lowering.{Lowered}
use Rattle.lowering.specs.declared.lower.Annotated.{Annotated}

-- the term
abbrev pub tree_at : Annotated → Tree
tree_at node = tree_of node.term.now

-- its type
abbrev pub type_at : Annotated → PlainTy
type_at node = type_in (annotation_of node.types.now)

-- what it is lowered to in this place, where sizes have these ranges
abbrev pub lowered_at : List Name → lowering.Place → Annotated → Lowered
lowered_at names place node =
    lowering.lower names place (tree_of node.term.now) (annotation_of node.types.now)
