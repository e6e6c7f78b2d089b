-- What a program's terms name, as the Rust code holds it.
use Rattle.std.specs.Prelude.{ℕ, List, map}
use Rattle.size_arith.specs.declared.poly.Monomial.{Monomial}
use Rattle.kernel_tree.specs.Formula.{Formula}
use Rattle.lift_tree.specs.Types.{ty_of}
use Rattle.lift_tree.specs.Typing as typing
use Rattle.printed_form.specs.Views.{View}
use Rattle.printed_form.specs.Printer.{input_views}
use Rattle.printed_form.specs.Programs.{first_buffer, input_shape}
use Rattle.length_spelling.specs.Formulas.{length_formula}
use Rattle.item_emit.specs.declared.arguments.Declared.{Declared}

-- a length over the sizes, as an expression of the kernel
abbrev pub spell_in : Declared → List Monomial → Formula
spell_in d = length_formula d.names.now

-- what stands for the input of each number: its buffers
abbrev pub inputs_in : Declared → ℕ → View
inputs_in d =
    input_views (length_formula d.names.now) (first_buffer (map ty_of d.inputs.now))
    (input_shape (map ty_of d.inputs.now))

-- the ranges of the sizes, and the inputs' types
abbrev pub declared_in : Declared → typing.Declared
declared_in d = record { names = d.names.now; inputs = map ty_of d.inputs.now }
