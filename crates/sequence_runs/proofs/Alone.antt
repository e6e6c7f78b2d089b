-- A sequence of one kernel.
use Rattle.std.proofs.Common.{ℕ, List, [], ◌∷◌, Option, refl, ◌∙◌}
use Rattle.std.proofs.lemmas.List.{length-replicate}
use Rattle.kernel_tree.specs.declared.events.Event.{Event}
use Rattle.kernel_tree.specs.Code.{Kernel}
use Rattle.kernel_tree.specs.Device.{State, IsStart, IsRun, device_of, first_vars, start_state}
use Rattle.kernel_tree.specs.Launch.{Cells, Launch}
use Rattle.lift_tree.specs.Annotations.{AnnotatedIsTyped, Annotates, type_in}
use Rattle.lift_tree.specs.Meaning.{World, meaning}
use Rattle.lift_tree.specs.Types.{HasType, IsOutput}
use Rattle.lift_tree.specs.Typing.{IsAdmissible, IsDeclared, ValuesHaveTypes}
use Rattle.lowered_tree.specs.Kinds.{asks_of}
use Rattle.printed_form.specs.Programs.{AreBuffersOf, IsLaunchOf}
use Rattle.value_lists.specs.Laws.{ListsHaveLengths}
use Rattle.sequence_runs.specs.Laws.{OneKernelKeepsTheHeadline}
use Rattle.sequence_runs.specs.Runs.{Stage, StageKeeps, StageRun, IsStageRun, SequenceKeeps}
use Rattle.sequence_runs.proofs.Order.{elements, no_binders}

starts_so : (k : Kernel) (l : Launch) (c : Cells) → IsStart k l c (start_state k c)
starts_so k l c = record {
  vars = λ j. first_vars k c.rest;
  long = λ j lt. length-replicate _ _;
  wide = λ j lt. length-replicate _ _;
  items = λ j lt. refl;
  inputs = λ a i lt. refl;
  epochs = λ g f. refl;
}

module _ (lengths : ListsHaveLengths) (typing : AnnotatedIsTyped) (sound : ValuesHaveTypes) (local : Option (ℕ × ℕ)) (k : Stage) (declared : IsDeclared k.declared) (nodes : Annotates k.declared [] k.tree k.types) (output : IsOutput (type_in k.types)) (keeps : SequenceKeeps k.declared local k.tree (type_in k.types) (k ∷ [])) where
  run_keeps : (w : World) (l : Launch) (c : Cells) (s : State) (es : List Event) → IsAdmissible k.declared w → IsLaunchOf k.declared (asks_of local k.tree) w.bases k.tree k.types l → AreBuffersOf k.declared w k.tree k.types c
      → IsStart k.kernel l c s → IsRun (device_of k.kernel l c) s es
      → StageKeeps w.bases k (record { launch = l; cells = c; state = s; events = es }) (type_in k.types) (meaning w [] k.tree)
  run_keeps w l c s es ok launch buffers start run =
      let r : StageRun = record { launch = l; cells = c; state = s; events = es } in
      let typed : HasType w.bases (type_in k.types) (meaning w [] k.tree) =
      sound k.declared w [] [] k.tree (type_in k.types) declared ok tt (no_binders w.bases) (typing k.declared [] k.tree k.types nodes) in
      let its : IsStageRun local w.bases k r = record {
        launch = launch.admissible;
        sizes = launch.sizes;
        outputs = buffers.outputs ∙ lengths w.bases (type_in k.types) (meaning w [] k.tree) (elements (type_in k.types) output) typed;
        start = start;
        run = run;
      } in
      keeps w (r ∷ []) ok buffers.inputs (its, tt, tt)

pub one_kernel_keeps_the_headline : ListsHaveLengths → AnnotatedIsTyped → ValuesHaveTypes → OneKernelKeepsTheHeadline
one_kernel_keeps_the_headline lengths typing sound local k declared nodes output keeps = (
  λ w l c ok launch buffers. (run_keeps lengths typing sound local k declared nodes output keeps w l c (start_state k.kernel c) [] ok launch buffers (starts_so k.kernel l c) tt).starts,
  λ w l c ok launch buffers s es start run. (run_keeps lengths typing sound local k declared nodes output keeps w l c s es ok launch buffers start run).keeps,
)
