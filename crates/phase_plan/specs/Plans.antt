-- A plan's term, and what the plan tells of it.
use Rattle.std.specs.Prelude.{ℕ, Option}
use Rattle.lift_tree.specs.Annotations.{Annotation, annotation_of}
use Rattle.lift_tree.specs.Tree.{Tree, tree_of}
use Rattle.lift_tree.specs.Typing.{Declared}
use Rattle.lowered_tree.specs.Named.{declared_of}
use Rattle.lowering.specs.Terms.{term_of}
use Rattle.phase_plan.specs.Planned.{IsPlannedFor}
use Rattle.phase_plan.specs.declared.planned.Plan.{Plan}

-- what the term may name
abbrev pub declared_in : Plan → Declared
declared_in plan = declared_of plan.spaced.now.mapped.lowered

-- the local size of all launches, where one is fixed
abbrev pub local_in : Plan → Option (ℕ × ℕ)
local_in plan = plan.spaced.now.mapped.local

-- the term
abbrev pub tree_in : Plan → Tree
tree_in plan = tree_of plan.spaced.now.mapped.lowered.term

-- the types of its nodes
abbrev pub types_in : Plan → Annotation
types_in plan = annotation_of plan.spaced.now.mapped.lowered.types

-- what the plan says holds of the term
abbrev pub IsTold : Plan → Type 0
IsTold plan =
    IsPlannedFor (declared_in plan).names (local_in plan) (tree_in plan)
    (types_in plan) plan.buffers.now.local.items
    plan.buffers.now.private.items (term_of plan.root) plan.kind
