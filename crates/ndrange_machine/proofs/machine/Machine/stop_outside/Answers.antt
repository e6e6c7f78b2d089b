use Rattle.std.proofs.Common.{subst, sym}
use Rattle.kernel_tree.specs.declared.events.Event.TheVariants.{Step}
use Rattle.kernel_tree.specs.Device.{device_of, after}
use Rattle.ndrange_machine.specs.Groups.{Settled}
use Rattle.ndrange_machine.proofs.Settling.{core_on}
use Rattle.ndrange_machine.proofs.Telling.{stands_at}
use Rattle.ndrange_machine.proofs.machine.Machine.stop_outside.Goals as goal

pub settle-requires-clause-stands : goal.settle-requires-clause-stands
settle-requires-clause-stands c = stands_at _ _ _ _ _ c.change.ensures.item

pub returns-clause-stops : goal.returns-clause-stops
returns-clause-stops c = record {
  between = c.change.new.self;
  diverges = c.settle.result;
  changes = c.change.ensures.item;
  memory = c.change.ensures.memory;
  ready = c.change.ensures.ready;
  core = core_on _ _ _ c.settle.ensures.core c.fails.ensures.core;
  settles = λ k l d s h st. subst (λ v. Settled (device_of k l d) (after (device_of k l d) s (Step c.args.item)) v c.settle.result) (sym c.fails.ensures.ready) (c.settle.ensures.settles k l d s h st);
}
