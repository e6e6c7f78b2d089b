-- Any two kernels printed for one map over work-groups go alike.
use Rattle.std.proofs.Common.{◌≡◌, ℕ, ◌<◌, ◌≤◌, Bool, true, List, [], sym, ◌∙◌}
use Rattle.lift_tree.specs.Tree.{Tree}
use Rattle.lift_tree.specs.Typing.{Declared, IsAdmissible}
use Rattle.lift_tree.specs.Annotations.{Annotation, type_in}
use Rattle.lift_tree.specs.Launches.{Asks, lists_of}
use Rattle.lift_tree.specs.Meaning.{World, meaning}
use Rattle.barrier_placement.specs.declared.touches.Touch.{Touch}
use Rattle.barrier_placement.specs.Fencing.{Fencing}
use Rattle.barrier_placement.specs.Needed.{Needed}
use Rattle.kernel_tree.specs.declared.events.Event.{Event}
use Rattle.kernel_tree.specs.Alike.{GoesAlike}
use Rattle.kernel_tree.specs.Bound.{bound}
use Rattle.kernel_tree.specs.Code.{Kernel}
use Rattle.kernel_tree.specs.Device.{State, device_of, IsStart, run, IsRun, IsStuck}
use Rattle.kernel_tree.specs.EveryRun.{Completes}
use Rattle.kernel_tree.specs.Launch.{Launch, Cells, IsWhole, item_count}
use Rattle.kernel_tree.specs.Meets.{MeetTogether}
use Rattle.lift_ir.specs.AtLaunch.{length_at, ty_at}
use Rattle.printed_form.specs.Alike.{Alike}
use Rattle.printed_form.specs.Headline.{EveryRunKeeps}
use Rattle.printed_form.specs.Printer.{input_marks}
use Rattle.printed_form.specs.Programs.{input_shape, first_buffer, lowered_root, cell_owner, IsLaunchOf, IsLowerableProgram, AreBuffersOf, SameContents}
use Rattle.printed_form.specs.Whole.{no_marks, output_marks}
use Rattle.printed_form.proofs.GoAlike.{go_alike}
use Rattle.group_form.specs.Forms.{StandsOverGroups}
use Rattle.group_form.specs.Kernels.{KernelsKeep, KernelsServe, KernelsStart, OfGroups}
use Rattle.group_form.specs.Programs.{PrintsGroups}
use Rattle.group_form.specs.Uses.{group_touches, phase_count}
use Rattle.group_form.specs.ChosenForms.{forms_of}
use Rattle.group_form.specs.Form.{is_once}
use Rattle.group_form.proofs.ChosenForms.{alone_is}
use Rattle.group_form.proofs.AlikeCodes.{over_groups}
use Rattle.group_form.proofs.AlikeEnds.{runs_out}

-- the uses tell the needed barriers
abbrev pub BarriersAreDetermined : Type 0
BarriersAreDetermined = (touches : List Touch) (once : Bool) (n : ℕ) (one other : ℕ → Fencing) → Needed touches once n one → Needed touches once n other → (q : ℕ) → q ≤ n → one q ≡ other q

module _ (determined : BarriersAreDetermined) (keep : KernelsKeep) (serve : KernelsServe) (begins : KernelsStart)
    (d : Declared) (asks : Asks) (w : World) (t : Tree) (a : Annotation) (l : Launch) (c : Cells) (program : IsLowerableProgram d w.bases t a) (stands : StandsOverGroups (lowered_root d.names t a)) (ok : IsAdmissible d w) (launch : IsLaunchOf d asks w.bases t a l) (buffers : AreBuffersOf d w t a c) where
  module _ (k : Kernel) (s : State) (printed : PrintsGroups d asks.local w.bases t a l k) (start : IsStart k l c s) where
    keeps : EveryRunKeeps k l c (cell_owner d.names w.bases l t a) (lists_of (type_in a) (meaning w [] t))
    keeps = keep OfGroups d asks w t a l k c program stands ok launch buffers printed

    meet : (es : List Event) → IsRun (device_of k l c) s es → MeetTogether (device_of k l c) (run (device_of k l c) s es)
    meet es r = ((serve OfGroups d asks w t a l k c program stands ok launch buffers printed).1 s es start r).meet

    whole : IsWhole l
    whole = (begins OfGroups d asks w t a l k c program stands ok launch buffers printed).whole

    -- some run goes on to the end
    full : (es : List Event) × IsRun (device_of k l c) s es × IsStuck (device_of k l c) (run (device_of k l c) s es)
    full = runs_out (device_of k l c) whole s (bound k l) (λ es r. (keeps s es start r).leaves.bounded) meet

    completes : Completes (device_of k l c) s full.0
    completes =
        let h = (keeps s full.0 start full.1).leaves in
        record { is_run = full.1; no_failure = h.faultless.no_failure; no_race = h.faultless.no_race; ended = h.ended full.2 }

  module _ (k m : Kernel) (s r : State) (one : PrintsGroups d asks.local w.bases t a l k) (two : PrintsGroups d asks.local w.bases t a l m) (start : IsStart k l c s) where
    codes : (j : ℕ) → j < item_count l → Alike true l j [] k.code m.code
    codes j lt =
        over_groups l j (input_marks (length_at w.bases) (first_buffer d.inputs) (input_shape d.inputs)) (length_at w.bases) (forms_of d.names asks.local) (alone_is d.names w.bases l asks.local launch.admissible.fixed) (whole k s one start) one.fence two.fence lt (lowered_root d.names t a) no_marks (output_marks (ty_at w.bases (type_in a))) k.code m.code
        (determined (group_touches (lowered_root d.names t a)) (is_once (forms_of d.names asks.local) (lowered_root d.names t a)) (phase_count (lowered_root d.names t a)) one.fence two.fence one.needed two.needed) one.code two.code

    pub groups_go_alike : IsStart m l c r → SameContents l s r → GoesAlike (device_of k l c) s (device_of m l c) r
    groups_go_alike begin same =
        go_alike true k m l c (whole k s one start) (one.declares.locals ∙ sym two.declares.locals) (one.declares.privates ∙ sym two.declares.privates) codes s r start begin same (full k s one start).0 (completes k s one start) (λ may. meet m r two begin)
