-- The laws of launch files.
use Rattle.launch_file.specs.Laws.{ChecksAreExact, FilesGiveOneThing, FilesAreNotRefused}
use Rattle.launch_file.proofs.Whole.{given_is, given_gives, not_refused, one_given}

pub checks_are_exact : ChecksAreExact
checks_are_exact p ask d g proper = (given_is p ask d g proper, given_gives p ask d g proper)

pub files_are_not_refused : FilesAreNotRefused
files_are_not_refused p ask bytes g e proper h r = not_refused p ask bytes g e proper h r

pub files_give_one_thing : FilesGiveOneThing
files_give_one_thing p ask bytes g h proper a b = one_given p ask bytes g h proper a b
