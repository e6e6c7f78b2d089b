-- Parts of element terms, as functions from pair choices to expressions.
use Rattle.std.specs.Prelude.{Bool, true, false, List, ◌∷◌, Option}
use Rattle.kernel_tree.specs.Tree.{formula_of, lanes_of}
use Rattle.array_views.specs.Counts.{count_of}
use Rattle.printed_form.specs.Expressions.{Expr, OneWord, FourWords}
use Rattle.printed_form.specs.Printer.{sign_exprs}
use Rattle.lowering.specs.Terms.{term_of}
use Rattle.item_emit.specs.Scopes.{scope_of}
use Rattle.item_emit.specs.declared.expressions.Value.{Value}
use Rattle.item_emit.specs.declared.expressions.Value.TheVariants.{Word, Fours}
use Rattle.item_emit.specs.declared.expressions.Part.{Part}
use Rattle.item_emit.specs.declared.expressions.Part as part

-- the expression of a component
abbrev pub expr_of : Value → Expr
expr_of (Word e) = OneWord (formula_of e)
expr_of (Fours e) = FourWords (lanes_of e)

-- the expression at pair choices, where the part has a scalar there
abbrev pub parts_of : Part → List Bool → Option Expr
parts_of (part.Whole scope first term) =
    sign_exprs (scope_of scope.now) (count_of first) (term_of term.now)
parts_of (part.First' p whole) = λ cs. parts_of whole (false ∷ cs)
parts_of (part.Second' p whole) = λ cs. parts_of whole (true ∷ cs)
