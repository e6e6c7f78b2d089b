use Rattle.std.proofs.Common.{ℕ, ap, ◌∙◌, refl, replicate}
use Rattle.std.specs.Prelude.{slice_index}
use Rattle.race_marks.specs.Marks.{Untouched}
use Rattle.race_marks.specs.Rows.{Shape, cell_count}
use Rattle.race_marks.specs.Tracked.{Kept}
use Rattle.race_marks.proofs.Telling.{begun, fresh}
use Rattle.race_marks.proofs.cells.CellMarks.new.Goals as goal

abbrev kept : (groups : ℕ) → Shape → Kept
kept groups shape = record { groups = groups; shape = shape; marks = replicate (cell_count shape) Untouched }

pub returns-clause-begins : goal.returns-clause-begins
returns-clause-begins c = λ d s groups outs locals.
    let b = c.in_ok-new.ensures in
    let e = c.in_ok-new-2.ensures in
    let rb = ap (λ (v : Kept). v.shape) b ∙ c.in_ok-rows_of.ensures in
    let re = ap (λ (v : Kept). v.shape) e ∙ c.in_ok-of_lengths.ensures in
    begun d s (record { groups = c.args.groups; outputs = c.in_ok-new.field-0; locals = c.in_ok-new-2.field-0 })
    groups (ap (λ (v : Shape). v.homes) rb) (ap (λ (v : Shape). v.homes) re ∙ groups)
    (λ r. ap (λ (v : Shape). slice_index v.lengths r) rb ∙ outs r) (λ r. ap (λ (v : Shape). slice_index v.lengths r) re ∙ locals r)
    (fresh c.in_ok-new.field-0 (kept c.args.groups c.in_ok-rows_of.field-0) b refl) (fresh c.in_ok-new-2.field-0 (kept c.args.groups c.in_ok-of_lengths.field-0) e refl)
