use Rattle.ndrange_machine.proofs.Beginning.{given_out}
use Rattle.ndrange_machine.proofs.machine.Machine.outputs.Goals as goal

pub returns : goal.returns
returns c = λ k l d es st. given_out k l d c.args.self _ st.holds
