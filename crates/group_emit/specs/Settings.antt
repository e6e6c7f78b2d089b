-- What a kernel's code is printed with, as the Rust code holds it.
use Rattle.std.specs.Prelude.{ℕ, List, Option, Some, None}
use Rattle.size_arith.specs.declared.poly.Monomial.{Monomial}
use Rattle.kernel_tree.specs.declared.tree.Dimension.{Dimension}
use Rattle.kernel_tree.specs.declared.tree.Dimension.TheVariants.{X, Y}
use Rattle.kernel_tree.specs.Formula.{Formula}
use Rattle.printed_form.specs.Views.{View}
use Rattle.barrier_placement.specs.declared.placing.Barrier.{Barrier}
use Rattle.barrier_placement.specs.Fencing.{Fencing, Open, fence, fencing_of}
use Rattle.printed_form.specs.MapForms.{MapForms}
use Rattle.group_form.specs.ChosenForms.{forms_of, row_forms_of}
use Rattle.item_emit.specs.Inputs.{inputs_in, spell_in}
use Rattle.group_emit.specs.declared.setting.Setting.{Setting}

-- a length over the sizes, as an expression of the kernel
abbrev pub spell_of : Setting → List Monomial → Formula
spell_of s = spell_in s.declared

-- what stands for the input of each number
abbrev pub inputs_of : Setting → ℕ → View
inputs_of s = inputs_in s.declared

-- the forms of the maps along a row
abbrev pub forms_in : Setting → MapForms (List Monomial)
forms_in s = forms_of s.declared.names.now s.local

-- of those along a dimension
abbrev pub forms_along : Dimension → Setting → MapForms (List Monomial)
forms_along X s = forms_in s
forms_along Y s = row_forms_of s.declared.names.now s.local

-- what stands before each phase, and at the end
abbrev pub fence_in : Setting → ℕ → Fencing
fence_in s = fence s.phases s.barriers.now

-- what a barrier puts there, or none
abbrev pub fencing_in : Option Barrier → Fencing
fencing_in None = Open
fencing_in (Some b) = fencing_of b
