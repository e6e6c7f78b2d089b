-- The sizes and inputs at which a term of a program has its value.
use Rattle.std.specs.Prelude.{ℕ, List, map}
use Rattle.size_arith.specs.Ranges.{sizes_at}
use Rattle.lift_tree.specs.declared.program.Program.{Program}
use Rattle.lift_tree.specs.declared.typed.Typed.{Typed}
use Rattle.lift_tree.specs.declared.value.Val.{Val}
use Rattle.lift_tree.specs.Annotations.{IsTyped, annotation_of, type_in}
use Rattle.lift_tree.specs.Meaning.{World}
use Rattle.lift_tree.specs.Programs.{program_of}
use Rattle.lift_tree.specs.Types.{HasType}
use Rattle.lift_tree.specs.Typing.{declared_by, IsAdmissible}
use Rattle.lift_tree.specs.Values.{Value, value_of}
use Rattle.lift_tree.specs.WorkedOut.{range_of}
use Rattle.pattern_value.specs.declared.evaluate.World as held

-- a program's sizes where the base names have these values, and the inputs
abbrev pub world_at : Program → List ℕ → List Val → World
world_at p ys inputs =
    record {
      bases = ys;
      sizes = sizes_at
          (map range_of p.sizes.items) ys;
      inputs = map value_of inputs;
    }

-- where the sizes are admissible and the inputs have their types, the
-- value of a typed term has its type
abbrev pub HasItsType : Typed → World → Value → Type 0
HasItsType t w v =
    IsTyped t → IsAdmissible (declared_by (program_of t.program)) w
    → HasType w.bases (type_in (annotation_of t.types)) v

-- the same of what the evaluation holds
unfoldable pub world_of : held.World → World
world_of w =
    record {
      bases = w.bases.now;
      sizes = sizes_at
          (map range_of w.sizes.now) w.bases.now;
      inputs = map value_of w.inputs.now;
    }
