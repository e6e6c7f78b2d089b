use Rattle.std.proofs.Common.{◌∙◌, ◌+◌, ◌*◌, ◌/◌, ◌%◌, ◌^◌, ◌<◌, length, ap, sym, subst, arith}
use Rattle.std.specs.Prelude.{slice_index}
use Rattle.kernel_tree.specs.Schedule.{schedule_of, number_at}
use Rattle.ndrange_device.specs.Progress.{HasCome}
use Rattle.ndrange_device.proofs.Counting.{index_capped}
use Rattle.ndrange_device.proofs.progress.Progress.number.Goals as goal

pub returns-in-Numbers : goal.returns-in-Numbers
returns-in-Numbers c = λ es h.
    let ns = c.in-Numbers.numbers.items in
    let short : length ns < 2 ^ 64 = omega arith in
    c.word_at.ensures
    ∙ ap (λ z. slice_index z c.args.self.now.events) c.deref.ensures.value
    ∙ ap (slice_index ns) h.events
    ∙ index_capped ns (length es) short
    ∙ ap (λ s. number_at (schedule_of s) (length es)) (sym c.in-Numbers.is)

pub returns-in-Seed : goal.returns-in-Seed
returns-in-Seed c = λ es h.
    let seeded = subst (λ s. HasCome (schedule_of s) es c.args.self.now) c.in-Seed.is h in
    ap (λ m. m / 65536) (c.generate.ensures ∙ ap (λ s. (1664525 * s + 1013904223) % 2 ^ 32) seeded.generator)
    ∙ ap (λ s. number_at (schedule_of s) (length es)) (sym c.in-Seed.is)
