-- A program that is read and typed has proper inputs.
use Rattle.lift_reader.specs.ProgramText.{ProgramsMayBeTyped}
use Rattle.pattern_types.specs.Judgement.{JudgedInputsAreProper}
use Rattle.program_source.specs.Laws.{TypedProgramsAreProper}

pub proper : ProgramsMayBeTyped → JudgedInputsAreProper → TypedProgramsAreProper
proper typable judged text p types read typed =
    let is = (typable text p read.is read.within).0 in
    judged p p.body types is.few is.sizes is.types typed
