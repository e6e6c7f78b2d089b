use Rattle.std.proofs.Common.{◌∙◌, ap, min, ◌+◌, ◌-◌, ◌^◌}
use Rattle.ndrange_device.proofs.Counting.{come_on}
use Rattle.ndrange_device.proofs.progress.Progress.count.Goals as goal

pub returns : goal.returns
returns c = λ schedule es h.
    come_on schedule es c.args.event c.args.self.now _ h c.saturating_add-self.ensures
    (c.saturating_add-self-2.ensures ∙ ap (λ n. min (c.args.self.now.releases + n) (2 ^ 64 - 1)) c.releases_of.ensures)
    c.generate-self.ensures
