use Rattle.std.proofs.Common.{◌≡◌, sym, ◌∙◌, subst}
use Rattle.kernel_tree.specs.declared.events.Event.TheVariants.{Step, Release}
use Rattle.ndrange_machine.specs.Takes.{Advances, told_if}
use Rattle.ndrange_machine.proofs.machine.Machine.advance.Goals as goal

pub returns-then-step_item-clause-advances : goal.returns-then-step_item-clause-advances
returns-then-step_item-clause-advances c =
    let n = c.step_item.new.self in
    subst (λ e. Advances c.args.self.now e n n.fault) (sym c.in-Step.is) (subst (λ b. Advances c.args.self.now (Step c.in-Step.item) n (told_if b n)) c.if-step_item.true c.step_item.ensures)

pub returns-then-step_item-clause-release : goal.returns-then-step_item-clause-release
returns-then-step_item-clause-release c = λ g e. let both : Step c.in-Step.item ≡ Release g = sym c.in-Step.is ∙ e in cc

pub returns-else-step_item-clause-advances : goal.returns-else-step_item-clause-advances
returns-else-step_item-clause-advances c =
    let n = c.step_item.new.self in
    subst (λ e. Advances c.args.self.now e n _) (sym c.in-Step.is) (subst (λ b. Advances c.args.self.now (Step c.in-Step.item) n (told_if b n)) c.if-step_item.false c.step_item.ensures)

pub returns-else-step_item-clause-release : goal.returns-else-step_item-clause-release
returns-else-step_item-clause-release c = λ g e. let both : Step c.in-Step.item ≡ Release g = sym c.in-Step.is ∙ e in cc

pub returns-in-Release-clause-advances : goal.returns-in-Release-clause-advances
returns-in-Release-clause-advances c = subst (λ e. Advances c.args.self.now e c.release_group.new.self _) (sym c.in-Release.is) c.release_group.ensures
