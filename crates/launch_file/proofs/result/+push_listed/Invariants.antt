use Rattle.std.proofs.Common.{◌≡◌, ◌+◌, ◌*◌, ◌++◌}
use Rattle.std.specs.Prelude.{map}
use Rattle.lift_tree.specs.Types.{ty_of}
use Rattle.value_lists.specs.Lists.{value_in}
use Rattle.launch_file.proofs.Listed.{listed}
use Rattle.launch_file.proofs.result.+push_listed.Given as goal

abbrev pub invariant-loop-index : goal.invariant-loop-index
invariant-loop-index l =
    l.text.items ≡ l.initial.text.items ++ listed (λ j. value_in l.sizes (ty_of l.element.value) (map (λ x. x.items) l.lists) l.component (l.number * l.count + j)) l.index
