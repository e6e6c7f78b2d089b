-- In every run of a kernel for one work-item, or over the launch, barriers serve.
use Rattle.std.proofs.Common.{◌≡◌, ℕ, ◌<◌, true, false, List, [], refl, ap, ◌∙◌, ⊎_elim, arith}
use Rattle.std.specs.Prelude.{slice_index}
use Rattle.lift_tree.specs.Launches.{Asks}
use Rattle.lift_tree.specs.Tree.{Tree}
use Rattle.lift_tree.specs.Typing.{Declared, IsAdmissible}
use Rattle.lift_tree.specs.Annotations.{Annotation, type_in}
use Rattle.lift_tree.specs.Meaning.{World}
use Rattle.kernel_tree.specs.declared.events.Event.{Event}
use Rattle.kernel_tree.specs.Code.{Local, Kernel}
use Rattle.kernel_tree.specs.Launch.{Launch, Cells, IsWhole, item_count, group_of}
use Rattle.kernel_tree.specs.Device.{Cell, State, device_of, length_in, wants, IsStart, run, IsRun}
use Rattle.kernel_tree.specs.Faults.{Access}
use Rattle.kernel_tree.specs.Meets.{IsWaiting}
use Rattle.kernel_tree.proofs.Histories.{group_tells}
use Rattle.lift_ir.specs.AtLaunch.{length_at, ty_at}
use Rattle.printed_form.specs.Alike.{Alike, AlikeStates}
use Rattle.printed_form.specs.Printer.{input_marks}
use Rattle.printed_form.specs.Programs.{input_shape, first_buffer, lowered_root, IsLaunchOf, AreBuffersOf, IsLowerableProgram, Prints, PrintedProgramsKeep, PrintedProgramsStart, StandsAt}
use Rattle.printed_form.proofs.SameRuns.{codes_alike, next_alike, nothing_to_meet, same_runs, start_alike, waits_alike}
use Rattle.group_phases.specs.Outcome.{BarriersServe, BarriersServeAll}
use Rattle.group_form.proofs.InRange.{all_within}
use Rattle.group_form.proofs.Copies.{launch_no_copies, no_copies}

module _ (keep : PrintedProgramsKeep) (begins : PrintedProgramsStart) (d : Declared) (asks : Asks) (w : World) (t : Tree) (a : Annotation) (l : Launch) (k : Kernel) (c : Cells)
    (program : IsLowerableProgram d w.bases t a) (stands : StandsAt l (lowered_root d.names t a)) (ok : IsAdmissible d w) (launch : IsLaunchOf d asks w.bases t a l) (buffers : AreBuffersOf d w t a c) (printed : Prints d asks.local w.bases t a l k) where
  whole : IsWhole l
  whole = (begins d asks w t a l k c program ok launch buffers printed).whole

  -- no local array has a cell
  none_long : (n : ℕ) → length_in k c (Local n) ≡ 0
  none_long n = ap (λ ns. slice_index ns n) (printed.declares.locals ∙ ⊎_elim (λ one. no_copies true (lowered_root d.names t a) one.1) (λ all. launch_no_copies (lowered_root d.names t a) all) stands)

  no_local : (x : Access) (n : ℕ) → x.cell.index < length_in k c x.cell.array → x.cell.array ≡ Local n → ⊥
  no_local x n lt is = let none : length_in k c x.cell.array ≡ 0 = ap (length_in k c) is ∙ none_long n in omega (arith, lt, none)

  -- its code is alike itself without barriers, so there is none at which an item could wait
  itself : (j : ℕ) → j < item_count l → Alike false l j [] k.code k.code
  itself = codes_alike (length_at w.bases) l (input_marks (length_at w.bases) (first_buffer d.inputs) (input_shape d.inputs)) (lowered_root d.names t a) (ty_at w.bases (type_in a)) k.code k.code printed.code printed.code

  module _ (s : State) (es : List Event) (start : IsStart k l c s) (r : IsRun (device_of k l c) s es) where
    begin : AlikeStates false l s s
    begin = record {
      items = λ j lt. start_alike false l j k.code k.code (start.vars j) (s.items j) (s.items j) (itself j lt) (start.items j lt) (start.items j lt);
      memory = refl;
      epochs = λ g f. refl;
    }

    none_waits : (j : ℕ) → j < item_count l → IsWaiting (wants (device_of k l c) (run (device_of k l c) s es) j) → ⊥
    none_waits j lt h =
        let same : AlikeStates false l (run (device_of k l c) s es) (run (device_of k l c) s es) = (same_runs false (device_of k l c) (length_in k c) (λ b. refl) whole s s es begin (nothing_to_meet (device_of k l c) s) r).ends in
        let may : false ≡ true = (waits_alike false l j _ _ (next_alike false l j _ _ (same.items j lt)) h).0 in
        cc

    serves : BarriersServe (device_of k l c) (λ x. 0) s es
    serves = record {
      meet = record {
        together = λ i j il jl e w v. absurd (none_waits i il w);
        none_ended = λ i j il jl e w v. none_waits i il w;
      };
      same_barriers = λ j. group_tells (device_of k l c) whole s es (group_of l j) j refl r;
      apart = λ x y among_x among_y n is is_y e writes.
          absurd (no_local x n (all_within (device_of k l c) s es (keep d asks w t a l k c program ok launch buffers printed s es start r).leaves.faultless.no_failure x among_x) is);
    }

  pub serves_all : (filler : Cell → ℕ) × BarriersServeAll k l c filler
  serves_all = (λ x. 0, λ s es start r. serves s es start r)
