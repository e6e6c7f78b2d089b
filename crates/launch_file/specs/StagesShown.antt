-- What the code's values stand for, where kernels are in order.
use Rattle.std.specs.Prelude.{List, map}
use Rattle.serde_json.specs.Data.{Data}
use Rattle.serde_json.specs.View.{view}
use Rattle.serde_json.specs.declared.value.Value.{Value}
use Rattle.kernel_tree.specs.Schedule.{schedule_of}
use Rattle.lift_tree.specs.Values.{value_of}
use Rattle.launch_file.specs.declared.stages.Count as counts
use Rattle.launch_file.specs.declared.stages.Shared as shared
use Rattle.launch_file.specs.declared.stages.StageKeys as keys
use Rattle.launch_file.specs.declared.stages.StagesFile as files
use Rattle.launch_file.specs.Stages.{Count, GivenInOrder, Shared, StageKeys}

-- the JSON values that code holds
abbrev pub values_in : List Value → List Data
values_in = map view

-- how many work-items of a kernel code counts
abbrev pub count_of : counts.Count → Count
count_of c = record { global = c.global; local = c.local }

-- what all kernels share, as code holds it
abbrev pub shared_of : shared.Shared → Shared
shared_of s = record {
  sizes = s.sizes.items;
  bases = s.bases;
  inputs = map value_of s.inputs.items;
  schedule = schedule_of s.schedule;
}

-- what a launch file gives to kernels in order, as code holds it
abbrev pub given_in_order : files.StagesFile → GivenInOrder
given_in_order f = record {
  shared = shared_of f.shared;
  counts = map count_of f.counts.items;
}

-- what code found at the keys of a file of kernels in order
abbrev pub keys_of : keys.StageKeys → StageKeys
keys_of k = record {
  launches = values_in k.launches.now;
  sizes = view k.sizes.now;
  inputs = view k.inputs.now;
  schedule = schedule_of k.schedule;
}
