-- The code of statements that are held from the last to the first.
use Rattle.std.specs.Prelude.{List, [], ◌∷◌}
use Rattle.kernel_tree.specs.declared.tree.Stmt.{Stmt}
use Rattle.kernel_tree.specs.Code.{Code, End}
use Rattle.kernel_tree.specs.Tree.{before}
use Rattle.item_emit.specs.declared.block.Block.{Block}

-- each before those that stand in front of it
abbrev pub code_from : List Stmt → Code → Code
code_from [] rest = rest
code_from (s ∷ ss) rest = code_from ss (before s rest)

-- the code of all statements of the block
abbrev pub code_in : Block → Code
code_in b = code_from b.reversed.items End
