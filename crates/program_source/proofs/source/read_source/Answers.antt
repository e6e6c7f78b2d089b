use Rattle.std.proofs.Common.{sym}
use Rattle.program_source.specs.Program.{OnProgram, StopsFor, TypesOf}
use Rattle.stages.proofs.HandedOn.{handed_on}
use Rattle.program_source.proofs.Stages.{program_stops}
use Rattle.program_source.proofs.source.read_source.Goals as goal

pub returns-in_err-read_program-clause-refused : goal.returns-in_err-read_program-clause-refused
returns-in_err-read_program-clause-refused c =
    handed_on (StopsFor (OnProgram c.args.text.now TypesOf)) _ _ c.from_residual.ensures.1
    (program_stops c.args.text.now TypesOf _ c.in_err-read_program.ensures.refused c.in_err-read_program.ensures.only)

pub returns-clause-found : goal.returns-clause-found
returns-clause-found c = record {
  is = c.in_ok-read_program.ensures.found.0;
  only = λ q is. sym (c.in_ok-read_program.ensures.only q is);
  within = c.in_ok-read_program.ensures.found.1;
}
