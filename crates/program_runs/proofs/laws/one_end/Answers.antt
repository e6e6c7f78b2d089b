use Rattle.program_runs.proofs.Once.{LaunchLaws, commands_end}
use Rattle.program_runs.proofs.laws.one_end.Goals as goal

pub returns : goal.returns
returns c =
    let sources = c.sources_end_once.ensures in
    let compiled = c.compilation_ends_once.ensures in
    let laws : LaunchLaws = record {
      proper = c.typed_programs_are_proper.ensures;
      refused = c.files_are_not_refused.ensures;
      one = c.files_give_one_thing.ensures;
      refused_in_order = c.stages_files_are_not_refused.ensures;
      one_in_order = c.stages_files_give_one_thing.ensures;
    } in
    commands_end sources compiled c.sequences_end_once.ensures laws
