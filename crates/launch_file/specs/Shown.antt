-- What the code's values stand for.
use Rattle.serde_json.specs.View.{view}
use Rattle.kernel_tree.specs.Schedule.{schedule_of}
use Rattle.launch_file.specs.declared.keys.Keyed as held
use Rattle.launch_file.specs.Judged.{Keyed}

-- what code found at the keys
abbrev pub keyed_of : held.Keyed → Keyed
keyed_of k = record {
  global = k.global;
  local = k.local;
  sizes = view k.sizes.now;
  inputs = view k.inputs.now;
  schedule = schedule_of k.schedule;
}
