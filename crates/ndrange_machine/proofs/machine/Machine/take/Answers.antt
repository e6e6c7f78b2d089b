use Rattle.std.proofs.Common.{subst, ⊎_elim}
use Rattle.kernel_tree.specs.declared.events.Event.TheVariants.{Step}
use Rattle.ndrange_machine.specs.Takes.{IsWanted}
use Rattle.ndrange_machine.proofs.Stepping.{took_fault, never_ends, never_waits}
use Rattle.ndrange_machine.proofs.Telling.{advanced_to}
use Rattle.ndrange_machine.proofs.machine.Machine.take.Goals as goal

pub returns-in-Ends : goal.returns-in-Ends
returns-in-Ends c = λ k l d es st clean en.
    absurd (⊎_elim
    (λ ends. never_ends k l d c.args.self.now es st clean c.args.item en (subst (IsWanted c.args.self.now c.args.item) ends c.want.ensures))
    (λ waits. never_waits k l d c.args.self.now es st clean c.args.item en waits.0 waits.1 waits.2 (subst (IsWanted c.args.self.now c.args.item) waits.3 c.want.ensures))
    c.in-Ends.is)

pub returns-in-Fails : goal.returns-in-Fails
returns-in-Fails c = λ k l d es st clean en.
    advanced_to k l d es (Step c.args.item) c.args.self.now c.fails.new.self c.fails.result _ c.fails.ensures
    (took_fault k l d c.args.self.now es st clean c.args.item en c.in-Fails.kind (subst (IsWanted c.args.self.now c.args.item) c.in-Fails.is c.want.ensures))

pub returns-in-Changes : goal.returns-in-Changes
returns-in-Changes c = c.keep.ensures (subst (IsWanted c.args.self.now c.args.item) c.in-Changes.is c.want.ensures)

pub returns-in-Reads : goal.returns-in-Reads
returns-in-Reads c = c.load.ensures (subst (IsWanted c.args.self.now c.args.item) c.in-Reads.is c.want.ensures)

pub returns-in-Writes : goal.returns-in-Writes
returns-in-Writes c = c.store.ensures (subst (IsWanted c.args.self.now c.args.item) c.in-Writes.is c.want.ensures)

pub returns-in-ReadsFour : goal.returns-in-ReadsFour
returns-in-ReadsFour c = c.load_four.ensures (subst (IsWanted c.args.self.now c.args.item) c.in-ReadsFour.is c.want.ensures)

pub returns-in-WritesFour : goal.returns-in-WritesFour
returns-in-WritesFour c = c.store_four.ensures (subst (IsWanted c.args.self.now c.args.item) c.in-WritesFour.is c.want.ensures)
