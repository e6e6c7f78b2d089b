use Rattle.std.proofs.Common.{◌≡◌, map}
use Rattle.kernel_tree.specs.Schedule.{generated}
use Rattle.lift_tree.specs.Values.{value_of}
use Rattle.demo_program.specs.Data.{words_from}
use Rattle.demo_program.proofs.data.data.Given as goal

abbrev pub invariant-loop-done : goal.invariant-loop-done
invariant-loop-done l = record {
  state : l.state ≡ generated l.seed l._done;
  so_far : map value_of l.values.items ≡ words_from l.seed 0 l._done;
}
