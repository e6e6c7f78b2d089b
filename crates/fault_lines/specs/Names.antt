-- The names of limits and rules, as they are written.
use Rattle.std.specs.Prelude.{ℕ, List, codes}
use Rattle.buffer_allocation.specs.declared.buffers.AllocLimit.{AllocLimit}
use Rattle.buffer_allocation.specs.declared.buffers.AllocLimit.TheVariants as allocated
use Rattle.lift_reader.specs.declared.refusal.Quantity.{Quantity}
use Rattle.lift_reader.specs.declared.refusal.Quantity.TheVariants as counted
use Rattle.lowered_tree.specs.declared.rule.NestRule.{NestRule}
use Rattle.lowered_tree.specs.declared.rule.NestRule.TheVariants as nest
use Rattle.pattern_types.specs.declared.refusal.TypeLimit.{TypeLimit}
use Rattle.pattern_types.specs.declared.refusal.TypeLimit.TheVariants as limits
use Rattle.strategy_script.specs.declared.faults.StepLimit.{StepLimit}
use Rattle.strategy_script.specs.declared.faults.StepLimit.TheVariants as after

-- the name of a limit on programs
abbrev pub quantity_name : Quantity → List ℕ
quantity_name counted.Sizes = codes "sizes"
quantity_name counted.Inputs = codes "inputs"
quantity_name counted.Nodes = codes "nodes"

-- the name of a limit on types
abbrev pub type_limit_name : TypeLimit → List ℕ
type_limit_name limits.Arrays = codes "arrays"
type_limit_name limits.Components = codes "components"
type_limit_name limits.Terms = codes "terms"
type_limit_name limits.Degree = codes "degree"
type_limit_name limits.Coefficient = codes "coefficient"
type_limit_name limits.Scalars = codes "scalars"

-- the name of a limit on the term after a step
abbrev pub step_limit_name : StepLimit → List ℕ
step_limit_name after.Nodes = codes "nodes"
step_limit_name after.Depth = codes "depth"
step_limit_name (after.Types which) = type_limit_name which

-- the name of a rule of the nest
abbrev pub nest_rule_name : NestRule → List ℕ
nest_rule_name nest.N1 = codes "N1"
nest_rule_name nest.N2 = codes "N2"
nest_rule_name nest.N3 = codes "N3"
nest_rule_name nest.N4 = codes "N4"
nest_rule_name nest.N5 = codes "N5"
nest_rule_name nest.N6 = codes "N6"
nest_rule_name nest.N7 = codes "N7"
nest_rule_name nest.N8 = codes "N8"
nest_rule_name nest.N9 = codes "N9"
nest_rule_name nest.N10 = codes "N10"
nest_rule_name nest.N11 = codes "N11"
nest_rule_name nest.N12 = codes "N12"
nest_rule_name nest.N13 = codes "N13"
nest_rule_name nest.N14 = codes "N14"
nest_rule_name nest.N15 = codes "N15"

-- the name of a limit on a term's arrays
abbrev pub alloc_limit_name : AllocLimit → List ℕ
alloc_limit_name allocated.Layouts = codes "layouts"
alloc_limit_name allocated.Local = codes "local"
alloc_limit_name allocated.Private = codes "private"
