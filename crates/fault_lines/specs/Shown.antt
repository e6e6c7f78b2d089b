-- What the code's values stand for.
use Rattle.std.specs.Prelude.{string_bytes}
use Rattle.lift_tree.specs.Programs.{program_of}
use Rattle.command_line.specs.declared.request.WordsNo.{WordsNo}
use Rattle.command_line.specs.declared.request.WordsNo.TheVariants as words
use Rattle.fault_lines.specs.Failure as plain
use Rattle.fault_lines.specs.declared.failure.Failure.{Failure}
use Rattle.fault_lines.specs.declared.failure.Failure.TheVariants as failures

-- what ended a call, as code holds it
abbrev pub failure_of : Failure → plain.Failure
failure_of failures.Words = plain.Words
failure_of (failures.Read name) = plain.Read (string_bytes name)
failure_of (failures.TooLong count) = plain.TooLong count
failure_of failures.Write = plain.Write
failure_of (failures.Source why) = plain.Source why
failure_of (failures.Launch p why) = plain.Launch (program_of p) why
failure_of failures.Memory = plain.Memory

-- what the refusal of words becomes
abbrev pub words_failed : WordsNo → plain.Failure
words_failed words.Refused = plain.Words
words_failed words.Memory = plain.Memory
