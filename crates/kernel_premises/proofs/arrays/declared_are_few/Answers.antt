use Rattle.kernel_premises.proofs.FewArrays.{declared_are_few}
use Rattle.kernel_premises.proofs.arrays.declared_are_few.Goals as goal

pub returns : goal.returns
returns c = declared_are_few c.arrays_can_be_declared.ensures c.sound_parts_are_spelled.ensures
