use Rattle.std.proofs.Common.{◌≡◌, List, ◌++◌, take, ◌+◌, ◌*◌, ◌-◌}
use Rattle.kernel_tree.specs.Code.{Code}
use Rattle.kernel_tree.specs.Tree.{code_then}
use Rattle.kernel_tree.specs.KernelText.{Piece}
use Rattle.kernel_tree.specs.Pieces.{joined}
use Rattle.kernel_spelling.specs.Spelling.{spell_code}
use Rattle.kernel_printer.proofs.text.+printing.Given as goal

abbrev pub invariant-print_block-loop-statement : goal.invariant-print_block-loop-statement
invariant-print_block-loop-statement l = (after : Code) (back : List Piece) → l.fn.text.items ++ joined (spell_code l.place.loops l.place.nest (code_then (take l.statement-index l.block) after) back) ≡ l.text.items ++ joined (spell_code l.place.loops l.place.nest after back)

-- how many levels are left
abbrev pub decreases-print_block : goal.decreases-print_block
decreases-print_block l = 2 * (1025 - l.place.nest) + 1

abbrev pub decreases-print_statement : goal.decreases-print_statement
decreases-print_statement l = 2 * (1025 - l.place.nest)
