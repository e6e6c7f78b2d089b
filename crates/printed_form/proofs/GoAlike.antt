-- Kernels whose codes are alike go alike, where a run of one comes to its end.
use Rattle.std.proofs.Common.{◌≡◌, ℕ, ◌<◌, Bool, List, [], refl, sym, ap, ◌∙◌}
use Rattle.std.proofs.Math.Path.{fun_ext}
use Rattle.kernel_tree.specs.declared.events.Event.{Event}
use Rattle.kernel_tree.specs.Alike.{GoesAlike}
use Rattle.kernel_tree.specs.Code.{Kernel}
use Rattle.kernel_tree.specs.Device.{State, device_of, length_in, IsStart}
use Rattle.kernel_tree.specs.EveryRun.{Completes}
use Rattle.kernel_tree.specs.Histories.{history}
use Rattle.kernel_tree.specs.Item.{Item, item}
use Rattle.kernel_tree.specs.Launch.{Launch, Cells, IsWhole, item_count}
use Rattle.kernel_tree.proofs.Alike.{goes_alike}
use Rattle.printed_form.specs.Alike.{Alike, AlikeStates}
use Rattle.printed_form.specs.Programs.{SameContents}
use Rattle.printed_form.proofs.SameRuns.{MeetsAt, same_lengths, same_runs, completes_alike, start_alike}

module _ (grouped : Bool) (k m : Kernel) (l : Launch) (c : Cells) (whole : IsWhole l) (locals : k.locals ≡ m.locals) (privates : k.privates ≡ m.privates) (codes : (j : ℕ) → j < item_count l → Alike grouped l j [] k.code m.code)
    (s r : State) (start : IsStart k l c s) (begin : IsStart m l c r) (same : SameContents l s r) where
  states : AlikeStates grouped l s r
  states = record {
    items = λ j lt.
        let vars : begin.vars j ≡ start.vars j = sym (ap Item.vars (begin.items j lt)) ∙ sym (same.variables j lt) ∙ ap Item.vars (start.items j lt) in
        start_alike grouped l j k.code m.code (start.vars j) (s.items j) (r.items j) (codes j lt) (start.items j lt) (begin.items j lt ∙ ap (item m.code []) vars);
    memory = same.memory;
    epochs = λ g f. start.epochs g f ∙ sym (begin.epochs g f);
  }

  pub go_alike : (es : List Event) → Completes (device_of k l c) s es → MeetsAt grouped (device_of m l c) r → GoesAlike (device_of k l c) s (device_of m l c) r
  go_alike es completes meets =
      let lengths = same_lengths k m c locals privates in
      goes_alike l whole (length_in k c) (length_in m c) s r (history (device_of k l c) s es) (fun_ext (λ g. fun_ext (λ f. states.epochs g f)))
      (record { events = es; completes = completes; acts = λ j lt. refl })
      (record {
        events = es;
        completes = completes_alike grouped (device_of k l c) (length_in m c) lengths whole s r es states meets completes;
        acts = λ j lt. sym ((same_runs grouped (device_of k l c) (length_in m c) lengths whole s r es states meets completes.is_run).histories j lt);
      })
