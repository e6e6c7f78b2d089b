-- The printed code of a term over rows of groups, of that of its parts.
use Rattle.std.proofs.Common.{◌≡◌, ℕ, Bool, refl}
use Rattle.kernel_tree.specs.declared.tree.Dimension.TheVariants.{X, Y}
use Rattle.kernel_tree.specs.Formula.{Formula}
use Rattle.kernel_tree.specs.Code.{Code, FromGroupId, ByGroupCount}
use Rattle.lift_ir.specs.Terms.{Kind, LoadSet, Term, LetArray, Map, push}
use Rattle.printed_form.specs.Arguments.{argument_view, private_arrays, local_arrays}
use Rattle.printed_form.specs.Counts.{Count, no_variables, load_count}
use Rattle.printed_form.specs.MapForms.{form_over_groups, statement_of}
use Rattle.printed_form.specs.Printer.{print_loaded}
use Rattle.printed_form.specs.Views.{View, loaded_view, view_at}
use Rattle.barrier_placement.specs.Fencing.{Fencing}
use Rattle.group_phases.specs.Epochs.{fenced}
use Rattle.group_form.specs.Form.{Used, used_after}
use Rattle.group_form.specs.GridTerms.{GridForms}
use Rattle.group_form.specs.GridPrinter.{print_along_groups, print_along_row, print_grid, print_grid_argument, print_grid_turn, print_grid_written, print_local_nest}
use Rattle.group_form.specs.Printer.{depth_in, print_local_map, turn_from}

module _ {A : Type 0} (spell : A → Formula) (forms : GridForms A) (ins : ℕ → View) (fence : ℕ → Fencing) (depth : ℕ) (env : ℕ → View) (u : Used) where
  pub row_map : (k : Kind) (n : A) (loads : LoadSet) (xs b t : Term A) (w : View) (rest code : Code) (array : View) (after : Used) → t ≡ Map k n loads xs b → array ≡ argument_view local_arrays spell ins env u.locals xs → after ≡ used_after u xs
      → code ≡ print_local_map spell forms.columns ins fence depth env after n loads array b w rest
      → code ≡ print_along_row spell forms ins fence depth env u.locals u.privates u.variables t w rest
  row_map k n loads xs b t w rest code array after et ev ea ec =
      let x = argument_view local_arrays spell ins env u.locals xs in
      let v = (used_after u xs).variables in
      rw (ec, ev, ea, et) refl

  pub argument_let : (v b : Term A) (rest code : Code) (bound : View) (after : Used) → bound ≡ argument_view local_arrays spell ins env u.locals v → after ≡ used_after u v
      → code ≡ print_grid_argument spell forms ins fence depth (push bound env) after b rest → print_grid_argument spell forms ins fence depth env u v code ≡ print_grid_argument spell forms ins fence depth env u (LetArray v b) rest
  argument_let v b rest code bound after eb ea ec = rw (ec, eb, ea) refl

  pub written_let : (v b : Term A) (w : View) (rest code : Code) (bound : View) (after : Used) → bound ≡ argument_view local_arrays spell ins env u.locals v → after ≡ used_after u v
      → code ≡ print_grid_written spell forms ins fence depth (push bound env) after b w rest → print_grid_argument spell forms ins fence depth env u v code ≡ print_grid_written spell forms ins fence depth env u (LetArray v b) w rest
  written_let v b w rest code bound after eb ea ec = rw (ec, eb, ea) refl

  pub written_map : (k : Kind) (n : A) (loads : LoadSet) (xs b : Term A) (w : View) (rest mapped code : Code) (array : View) (after : Used) → array ≡ argument_view local_arrays spell ins env u.locals xs → after ≡ used_after u xs
      → mapped ≡ print_local_nest spell forms ins fence depth env after n loads array b w rest → code ≡ fenced (fence after.phases) mapped
      → print_grid_argument spell forms ins fence depth env u xs code ≡ print_grid_written spell forms ins fence depth env u (Map k n loads xs b) w rest
  written_map k n loads xs b w rest mapped code array after ev ea em ec = rw (ec, em, ev, ea) refl

module _ {A : Type 0} (spell : A → Formula) (forms : GridForms A) (ins : ℕ → View) (fence : ℕ → Fencing) (env : ℕ → View) (k : Kind) (n : A) (loads : LoadSet) (xs b : Term A) (w : View) where
  -- a map over the groups of a row, by what stands for its turn
  pub over_row :
      (depth : ℕ) (variables : Count) (once : Bool) (turn : Formula) (array element to : View) (within : ℕ) (code : Code) (length : Formula)
      → once ≡ forms.columns.once n → turn ≡ turn_from (form_over_groups once) (FromGroupId X) depth → array ≡ argument_view private_arrays spell ins env 0 xs → element ≡ view_at turn array → to ≡ view_at turn w
      → within ≡ depth_in (form_over_groups once) depth → code ≡ print_grid_turn spell forms ins fence within env variables loads element b to → length ≡ spell n
      → statement_of (form_over_groups once) (FromGroupId X) (ByGroupCount X) length code ≡ print_along_groups spell forms ins fence depth env variables (Map k n loads xs b) w
  over_row depth variables once turn array element to within code length eo et ea ee ew ed ec el = rw (ec, el, ed, ee, ew, ea, et, eo) refl

  -- and one over rows of groups
  pub over_rows :
      (once : Bool) (turn : Formula) (array element to : View) (within : ℕ) (code : Code) (length : Formula)
      → once ≡ forms.rows.once n → turn ≡ turn_from (form_over_groups once) (FromGroupId Y) 0 → array ≡ argument_view private_arrays spell ins env 0 xs → element ≡ view_at turn array → to ≡ view_at turn w
      → within ≡ depth_in (form_over_groups once) 0
      → code ≡ print_loaded loads element no_variables (print_along_groups spell forms ins fence within (push (loaded_view loads element no_variables) env) (load_count loads) b to) → length ≡ spell n
      → statement_of (form_over_groups once) (FromGroupId Y) (ByGroupCount Y) length code ≡ print_grid spell forms ins fence env (Map k n loads xs b) w
  over_rows once turn array element to within code length eo et ea ee ew ed ec el = rw (ec, el, ed, ee, ew, ea, et, eo) refl

-- what is loaded of a row, and then its groups
pub row_turn :
    {A : Type 0} (spell : A → Formula) (forms : GridForms A) (ins : ℕ → View) (fence : ℕ → Fencing) (depth : ℕ) (env : ℕ → View) (loads : LoadSet) (x : View) (b : Term A) (w : View) (first second : Count) (bound : View) (count : Count) (turn code : Code)
    → first ≡ no_variables → second ≡ no_variables → bound ≡ loaded_view loads x first → count ≡ load_count loads → turn ≡ print_along_groups spell forms ins fence depth (push bound env) count b w → code ≡ print_loaded loads x second turn
    → code ≡ print_loaded loads x no_variables (print_along_groups spell forms ins fence depth (push (loaded_view loads x no_variables) env) (load_count loads) b w)
row_turn spell forms ins fence depth env loads x b w first second bound count turn code ef es eb en et ec = rw (ec, et, en, eb, ef, es) refl
