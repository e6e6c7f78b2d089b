use Rattle.kernel_tree.specs.Kernels.{kernel_of}
use Rattle.ndrange_device.proofs.launch.Given as goal

abbrev pub ghosts-run : goal.ghosts-run
ghosts-run a = record { name = a.blank.name; parts = a.blank.parts }

abbrev pub ghost-run : goal.ghost-run
ghost-run a = record { kernel = kernel_of a.kernel; launch = a.launch; cells = a.cells }

abbrev pub ghosts-run_traced : goal.ghosts-run_traced
ghosts-run_traced a = record { name = a.blank.name; parts = a.blank.parts }
