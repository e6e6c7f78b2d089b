-- The indices of what stands for an argument, whichever arrays its copies lie in.
use Rattle.std.proofs.Common.{ℕ, ◌+◌, List, sym, subst}
use Rattle.std.specs.Prelude.{if◌then◌else◌}
use Rattle.size_arith.specs.declared.names.Name.{Name}
use Rattle.kernel_tree.specs.Formula.{Formula, Number}
use Rattle.lift_ir.specs.Types.{Shape}
use Rattle.lift_ir.specs.Terms.{Term, Bound, Source, Both, Project, Reshape, LetArray, Copy, push}
use Rattle.index_expr.specs.Expression.{Expression, Literal, short_nodes}
use Rattle.printed_form.specs.Arguments.{CopyArrays, argument_view}
use Rattle.printed_form.specs.Views.{Blank, View, laid_view}
use Rattle.printed_form.proofs.Arguments.{IsArgument}
use Rattle.group_form.specs.GridTerms.{GridForms}
use Rattle.tidy_printed.specs.Limits.{IndexNodes, array_nodes, argument_nodes}
use Rattle.tidy_printed.proofs.Formulas.{Spelled, spelled_number}
use Rattle.tidy_printed.proofs.Views.{IsIndexed, sides_indexed, part_indexed, read_indexed, placed_indexed}
use Rattle.tidy_printed.proofs.Codes.{AreIndexed, pushed}

module _ (names : List Name) {A : Type 0} (arrays : CopyArrays A) (spell : A → Expression) (text : A → Formula) (lengths : (n : A) → Spelled names (short_nodes (spell n)) (text n)) (forms : GridForms A) (src : ℕ → Shape A) (ins : ℕ → View) (inputs : (v : ℕ) → IsIndexed names (array_nodes spell (src v)) (ins v)) where
  abbrev viewed : (ℕ → View) → ℕ → Term A → View
  viewed env a t = argument_view arrays text ins env a t

  abbrev counted : (ℕ → IndexNodes) → Term A → IndexNodes
  counted counts t = argument_nodes spell forms src counts t

  pub argument_indexed : (counts : ℕ → IndexNodes) (env : ℕ → View) (a : ℕ) (t : Term A) → IsArgument arrays t → AreIndexed names counts env → IsIndexed names (counted counts t) (viewed env a t)
  argument_indexed counts env a (Bound v) stands all = all v
  argument_indexed counts env a (Source v) stands all = inputs v
  argument_indexed counts env a (Both zips x y) stands all =
      sides_indexed names (counted counts x) (counted counts y) (viewed env a x) (viewed env (a + arrays.count x) y) (argument_indexed counts env a x stands.0 all) (argument_indexed counts env (a + arrays.count x) y stands.1 all)
  argument_indexed counts env a (Project d x) stands all = part_indexed names (counted counts x) (viewed env a x) d (argument_indexed counts env a x stands all)
  argument_indexed counts env a (Reshape y x) stands all = read_indexed names spell text lengths y (counted counts x) (viewed env a x) (argument_indexed counts env a x stands all)
  argument_indexed counts env a (LetArray v b) stands all =
      argument_indexed (push (counted counts v) counts) (push (viewed env a v) env) (a + arrays.count v) b stands.1
      (pushed names counts env (counted counts v) (viewed env a v) (argument_indexed counts env a v stands.0 all) all)
  argument_indexed counts env a (Copy space ty x) stands all =
      subst (λ holds. IsIndexed names (array_nodes Literal ty) (if holds then laid_view arrays.array (a + arrays.count x) ty else λ cs is. Blank)) (sym stands)
      (placed_indexed names Literal Number (spelled_number names) arrays.array (a + arrays.count x) ty)
  argument_indexed counts env a _ stands all = absurd stands
