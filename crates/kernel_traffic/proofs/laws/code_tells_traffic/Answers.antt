use Rattle.kernel_traffic.proofs.Counted.{accesses_told, releases_told}
use Rattle.kernel_traffic.proofs.laws.code_tells_traffic.Goals as goal

pub returns-clause-accesses : goal.returns-clause-accesses
returns-clause-accesses c = accesses_told

pub returns-clause-releases : goal.returns-clause-releases
returns-clause-releases c = releases_told
