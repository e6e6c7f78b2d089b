-- The lines of a run, and the line of runs in order, are those of each text that is written for the
-- same files; and those of a cost tell what its runs do.
use Rattle.std.proofs.Common.{List, ℕ}
use Rattle.command_line.specs.Requests.{CommandLine, cost, run, run_stages}
use Rattle.program_runs.specs.Alike.{SequencesRunAlike, TextsRunAlike}
use Rattle.program_runs.specs.Costs.{TextsHaveCosts}
use Rattle.program_runs.specs.Table.{text_at}
use Rattle.lift_tool.specs.Outcome.{Answers, AreLinesOfWritten}

pub lines_of_written : TextsRunAlike → TextsHaveCosts → SequencesRunAlike → (request : CommandLine) (texts : List (List ℕ)) (lines : List ℕ)
    → Answers request texts lines → AreLinesOfWritten request texts lines
lines_of_written alike costs sequences (run p s l traced) texts lines ran = λ text other.
    alike (text_at texts 0) (text_at texts 1) (text_at texts 2) traced lines ran
    other.source other.output other.asks text other.compiled
lines_of_written alike costs sequences (cost p s l items) texts lines told = λ text other.
    costs (text_at texts 0) (text_at texts 1) (text_at texts 2) items lines told
    other.source other.output other.asks text other.compiled
lines_of_written alike costs sequences (run_stages p s l) texts line ran = λ text other.
    sequences (text_at texts 0) (text_at texts 1) (text_at texts 2) line ran
    other.source other.output other.outlines text other.compiled
lines_of_written alike costs sequences _ texts lines h = tt
