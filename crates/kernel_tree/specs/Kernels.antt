-- What a kernel of the program stands for.
use Rattle.kernel_tree.specs.declared.tree.Kernel as held
use Rattle.kernel_tree.specs.Code.{Kernel}
use Rattle.kernel_tree.specs.Tree.{kernel_with}

-- the kernel that the program holds
abbrev pub kernel_of : held.Kernel → Kernel
kernel_of k =
    kernel_with k.inputs k.outputs k.sizes k.locals.items k.privates.items k.variables k.vectors
    k.local k.body.items
