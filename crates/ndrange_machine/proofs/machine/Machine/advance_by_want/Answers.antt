use Rattle.std.proofs.Common.{◌≡◌, sym, ◌∙◌, subst}
use Rattle.kernel_tree.specs.declared.events.Event.TheVariants.{Step, Release}
use Rattle.ndrange_machine.specs.Takes.{Advances, told_if}
use Rattle.ndrange_machine.proofs.machine.Machine.advance_by_want.Goals as goal

pub returns-then-take_item-clause-advances : goal.returns-then-take_item-clause-advances
returns-then-take_item-clause-advances c =
    let n = c.take_item.new.self in
    subst (λ e. Advances c.args.self.now e n n.fault) (sym c.in-Step.is) (subst (λ b. Advances c.args.self.now (Step c.in-Step.item) n (told_if b n)) c.if-take_item.true c.take_item.ensures)

pub returns-then-take_item-clause-release : goal.returns-then-take_item-clause-release
returns-then-take_item-clause-release c = λ g e. let both : Step c.in-Step.item ≡ Release g = sym c.in-Step.is ∙ e in cc

pub returns-else-take_item-clause-advances : goal.returns-else-take_item-clause-advances
returns-else-take_item-clause-advances c =
    let n = c.take_item.new.self in
    subst (λ e. Advances c.args.self.now e n _) (sym c.in-Step.is) (subst (λ b. Advances c.args.self.now (Step c.in-Step.item) n (told_if b n)) c.if-take_item.false c.take_item.ensures)

pub returns-else-take_item-clause-release : goal.returns-else-take_item-clause-release
returns-else-take_item-clause-release c = λ g e. let both : Step c.in-Step.item ≡ Release g = sym c.in-Step.is ∙ e in cc

pub returns-in-Release-clause-advances : goal.returns-in-Release-clause-advances
returns-in-Release-clause-advances c = subst (λ e. Advances c.args.self.now e c.release_group.new.self _) (sym c.in-Release.is) c.release_group.ensures
