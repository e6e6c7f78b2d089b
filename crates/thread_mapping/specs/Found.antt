-- What judging a nest finds.
use Rattle.std.specs.Prelude.{◌≡◌, ℕ, Bool, not, ◌&&◌, List, ◌∷◌, Option, Some, None}
use Rattle.lowered_tree.specs.Aligned.{under_fold}
use Rattle.lift_tree.specs.Tree.{Tree}
use Rattle.lift_tree.specs.Annotations.{Annotation, type_in}
use Rattle.lowered_tree.specs.Around.{Around}
use Rattle.lowered_tree.specs.declared.rule.NestRule.{NestRule}
use Rattle.lift_tree.specs.Types.{is_element}
use Rattle.lowered_tree.specs.Nest.{nest_fault}
use Rattle.thread_mapping.specs.declared.judging.Bounds.{Bounds}
use Rattle.thread_mapping.specs.declared.judging.Bounds.TheVariants.{Nothing, Array, Fold}
use Rattle.thread_mapping.specs.declared.judging.Broken.{Broken}
use Rattle.thread_mapping.specs.declared.judging.NestNo.{NestNo}
use Rattle.thread_mapping.specs.declared.judging.NestNo.TheVariants.{Nest, Memory}

-- an array is written here
abbrev pub writes_array : Around → Annotation → Bool
writes_array s n = s.is_written && not (is_element (type_in n))

-- the binders around a node's last child, where these are around the node
abbrev pub under_bounds : Bounds → List Bool → List Bool
under_bounds Nothing g = g
under_bounds (Array b) g = b ∷ g
under_bounds Fold g = under_fold g

-- a broken rule and its place, if there is one
abbrev pub found : Option Broken → Option (List ℕ × NestRule)
found None = None
found (Some b) = Some (b.place, b.rule)

-- a fault in the child of this number, with its place seen from the parent
abbrev pub from_child : ℕ → Option (List ℕ × NestRule) → Option (List ℕ × NestRule)
from_child i (Some (p, r)) = Some (i ∷ p, r)
from_child i None = None

-- why a term isn't printed
abbrev pub Refuses : NestNo → Option (ℕ × ℕ) → Tree → Annotation → Type 0
Refuses (Nest place rule) local t n = nest_fault local t n ≡ Some (place, rule)
Refuses Memory local t n = Unit {0}
