use Rattle.std.specs.Prelude.{true}
use Rattle.group_form.proofs.Copies.{counted}
use Rattle.group_form.proofs.laws.local_arrays_are_counted.Goals as goal

pub returns : goal.returns
returns c = counted true
