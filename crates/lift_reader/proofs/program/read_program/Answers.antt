use Rattle.std.proofs.Common.{◌∙◌, ap, sym}
use Rattle.lift_reader.specs.ProgramText.{first_limit}
use Rattle.lift_reader.proofs.Belonging.{texts_belong}
use Rattle.lift_reader.proofs.program.read_program.Goals as goal

pub returns-in-None-clause-proper : goal.returns-in-None-clause-proper
returns-in-None-clause-proper c = (texts_belong _ _ c.in_ok-program.ensures.found (sym c.first_limit.ensures ∙ c.in-None.is)).0

pub returns-in-None-clause-body : goal.returns-in-None-clause-body
returns-in-None-clause-body c = (texts_belong _ _ c.in_ok-program.ensures.found (sym c.first_limit.ensures ∙ c.in-None.is)).1

pub returns-in-Some-clause-only : goal.returns-in-Some-clause-only
returns-in-Some-clause-only c = λ p h.
    let same = c.in_ok-program.ensures.only p h in
    sym (ap first_limit same) ∙ sym c.first_limit.ensures ∙ c.in-Some.is
