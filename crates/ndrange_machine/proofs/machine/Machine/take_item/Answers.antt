use Rattle.std.proofs.Common.{ap, arith}
use Rattle.kernel_tree.specs.Launch.{item_count}
use Rattle.ndrange_machine.proofs.machine.Machine.take_item.Goals as goal

pub returns-else-item-len : goal.returns-else-item-len
returns-else-item-len c = λ k l d es st clean en.
    let count = ap item_count st.holds.launch in
    let all = c.args.self.now.grouped in
    let lt = en.0 in
    absurd (omega (arith, c.if-item-len.false, c.len.ensures, count, all, lt))
