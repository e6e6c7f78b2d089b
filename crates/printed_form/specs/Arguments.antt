-- What stands for an argument, whose copies lie in the arrays of one space: by cells and by index
-- expressions.
use Rattle.std.specs.Prelude.{ℕ, if◌then◌else◌, Bool, true, false, ◌∷◌}
use Rattle.kernel_tree.specs.Code.{Array, Local as LocalArray, Private}
use Rattle.kernel_tree.specs.Formula.{Formula}
use Rattle.lift_ir.specs.Layouts.{operand_position}
use Rattle.lift_ir.specs.Scalars.{by_side}
use Rattle.lift_ir.specs.Standing.{Standing, stands_for}
use Rattle.lift_ir.specs.Terms.{Space, LocalMemory, PrivateMemory, Term}
use Rattle.printed_form.specs.Counts.{local_count, private_count}
use Rattle.printed_form.specs.Marks.{Nowhere, Marks, laid_in}
use Rattle.printed_form.specs.Views.{Blank, View, reshaped_view, laid_view}

-- the arrays that copies lie in: the one with a number, how many a term has, and whether copies to
-- a space lie there
pub record CopyArrays (A : Type 0) : Type 0 where
  pub array : ℕ → Array
  pub count : Term A → ℕ
  pub holds : Space → Bool

-- private memory is of one work-item
abbrev pub is_private_space : Space → Bool
is_private_space PrivateMemory = true
is_private_space LocalMemory = false

-- the private arrays
abbrev pub private_arrays : {A : Type 0} → CopyArrays A
private_arrays = record { array = Private; count = private_count; holds = is_private_space }

-- the local arrays, in which all copies outside the maps of a group's items lie
abbrev pub local_arrays : {A : Type 0} → CopyArrays A
local_arrays = record { array = LocalArray; count = local_count; holds = λ space. true }

-- the arrays of a space
abbrev pub arrays_of : {A : Type 0} → Space → CopyArrays A
arrays_of LocalMemory = local_arrays
arrays_of PrivateMemory = private_arrays

module _ {A : Type 0} (arrays : CopyArrays A) where
  -- by cells, where lengths are these numbers and inputs stand so
  abbrev pub marks_standing : (A → ℕ) → (ins : ℕ → Marks) → Standing A Marks
  marks_standing num ins = record {
    source = ins;
    both = by_side (λ q. Nowhere);
    side = λ second x cs q. x (second ∷ cs) q;
    through = λ y x cs q. x cs (operand_position num y q);
    in_let = λ x. x;
    copy = λ number space ty.
        if arrays.holds space then laid_in arrays.array number ty else λ cs q. Nowhere;
    nothing = λ cs q. Nowhere;
  }

  -- the cells of an argument whose first copy has this number
  abbrev pub marks_in : (A → ℕ) → (ins : ℕ → Marks) → (ℕ → Marks) → ℕ → Term A → Marks
  marks_in num ins env a t = stands_for (marks_standing num ins) arrays.count env a t

  -- by index expressions, where lengths are spelled so
  abbrev pub view_standing : (A → Formula) → (ins : ℕ → View) → Standing A View
  view_standing spell ins = record {
    source = ins;
    both = by_side (λ is. Blank);
    side = λ second x cs is. x (second ∷ cs) is;
    through = reshaped_view spell;
    in_let = λ x. x;
    copy = λ number space ty.
        if arrays.holds space then laid_view arrays.array number ty else λ cs is. Blank;
    nothing = λ cs is. Blank;
  }

  -- what stands for it
  abbrev pub argument_view : (A → Formula) → (ins : ℕ → View) → (ℕ → View) → ℕ → Term A → View
  argument_view spell ins env a t = stands_for (view_standing spell ins) arrays.count env a t
