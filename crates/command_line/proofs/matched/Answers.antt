use Rattle.std.proofs.Common.{◌∙◌, ap, map, string_bytes}
use Rattle.clap.specs.Words.{fault_of}
use Rattle.command_line.proofs.matched.Goals as goal

pub returns-clause-refused : goal.returns-clause-refused
returns-clause-refused c = λ refused taken. c.matched_by.ensures.refused refused
    (ap (λ a. fault_of a (map string_bytes c.args.words.now)) c.in_ok-lift_command.ensures ∙ taken)
