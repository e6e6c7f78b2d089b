use Rattle.std.proofs.Common.{◌≡◌, ◌∙◌, sym, ap}
use Rattle.kernel_tree.specs.Device.{is_flagged}
use Rattle.ndrange_machine.specs.declared.want.Want.TheVariants.{Waits}
use Rattle.ndrange_machine.proofs.machine.Machine.release_marks.Goals as goal

pub returns-in-Waits-clause-marks : goal.returns-in-Waits-clause-marks
returns-in-Waits-clause-marks c = λ p q to is d s es t flags.
    let w = c.in-Waits in
    let same : Waits w.on_local w.on_global w.next ≡ Waits p q to = sym w.is ∙ is in
    let local : p ≡ w.on_local = cc in
    let global : q ≡ w.on_global = cc in
    c.release.ensures.tells d s es t (λ f. flags f ∙ ap (λ z. is_flagged z q f) local ∙ ap (λ z. is_flagged w.on_local z f) global)
