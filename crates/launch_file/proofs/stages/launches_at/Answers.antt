use Rattle.std.proofs.Common.{◌≡◌, ◌∙◌, sym, length, map, arith}
use Rattle.std.specs.Prelude.{IsTrue}
use Rattle.std.proofs.lemmas.List.{length-map}
use Rattle.serde_json.specs.View.{view}
use Rattle.launch_file.specs.Stages.{all_objects}
use Rattle.launch_file.proofs.InOrder.{launches_are, objects_found, objects_lost}
use Rattle.launch_file.proofs.stages.launches_at.Goals as goal
use Rattle.launch_file.proofs.stages.launches_at.Goals.{else-launches-count-via-then-launches-count+else-all_objects, else-launches-count-via-else-launches-count}

pub returns-then-all_objects : goal.returns-then-all_objects
returns-then-all_objects c =
    let xs = c.as_slice-launches.result.now in
    let many : length (map view xs) ≡ c.args.count = omega (arith, length-map xs view) in
    let objects : IsTrue (all_objects (map view xs)) = cc in
    let here = launches_are c.args.count (view c.args.value.now) (view c.in_ok-get.field-0.now) c.in_ok-as_array.field-0.now.items xs c.in_ok-get.ensures c.in_ok-as_array.ensures c.as_slice-launches.ensures.value in
    sym (here ∙ objects_found c.args.count (map view xs) many objects)

pub returns-else-launches-count : goal.returns-else-launches-count
returns-else-launches-count c =
    let xs = c.as_slice-launches.result.now in
    let here = launches_are c.args.count (view c.args.value.now) (view c.in_ok-get.field-0.now) c.in_ok-as_array.field-0.now.items xs c.in_ok-get.ensures c.in_ok-as_array.ensures c.as_slice-launches.ensures.value in
    sym (here ∙ objects_lost c.args.count (map view xs) (λ many objects. elim c.else-launches-count.branch [
      | else-launches-count-via-then-launches-count+else-all_objects w ↦ cc
      | else-launches-count-via-else-launches-count w ↦ omega (arith, length-map xs view)
    ]))
