use Rattle.std.proofs.Common.{refl, sym, ◌∙◌, subst}
use Rattle.ndrange_machine.specs.Takes.{TellsAccess}
use Rattle.ndrange_machine.proofs.Stepping.{access_told}
use Rattle.ndrange_machine.proofs.machine.Machine.access.Goals as goal

pub returns-in-Step : goal.returns-in-Step
returns-in-Step c =
    subst (λ e. TellsAccess c.args.self.now e c.access_in.result) (sym c.in-Step.is)
    (λ k l d es st clean en. c.access_in.ensures ∙ access_told k l d c.args.self.now es st clean c.in-Step.item en c.want.result c.want.ensures)

pub returns-in-Release : goal.returns-in-Release
returns-in-Release c = subst (λ e. TellsAccess c.args.self.now e _) (sym c.in-Release.is) (λ k l d es st clean en. refl)
