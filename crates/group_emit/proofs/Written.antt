-- The printed code of a term outside local maps, of that of its parts.
use Rattle.std.proofs.Common.{◌≡◌, ℕ, Bool, refl}
use Rattle.lift_tree.specs.declared.term.Level.TheVariants.{Groups}
use Rattle.lift_tree.specs.declared.term.Dimension.TheVariants.{X}
use Rattle.kernel_tree.specs.Formula.{Formula}
use Rattle.kernel_tree.specs.Code.{Code}
use Rattle.lift_ir.specs.Terms.{Kind, Over, LoadSet, Term, LetArray, Map, push}
use Rattle.printed_form.specs.Arguments.{argument_view, private_arrays, local_arrays}
use Rattle.printed_form.specs.MapForms.{MapForms, form_over_groups, statement_over_groups}
use Rattle.printed_form.specs.Views.{View, view_at}
use Rattle.barrier_placement.specs.Fencing.{Fencing}
use Rattle.group_form.specs.Form.{Used, used_after}
use Rattle.group_form.specs.Printer.{depth_in, fenced, print_group_argument, print_group_turn, print_group_written, print_groups, print_local_map, turn_formula}

module _ {A : Type 0} (spell : A → Formula) (forms : MapForms A) (ins : ℕ → View) (fence : ℕ → Fencing) (depth : ℕ) (env : ℕ → View) (u : Used) where
  pub argument_let : (v b : Term A) (rest code : Code) (bound : View) (after : Used) → bound ≡ argument_view local_arrays spell ins env u.locals v → after ≡ used_after u v
      → code ≡ print_group_argument spell forms ins fence depth (push bound env) after b rest → print_group_argument spell forms ins fence depth env u v code ≡ print_group_argument spell forms ins fence depth env u (LetArray v b) rest
  argument_let v b rest code bound after eb ea ec = rw (ec, eb, ea) refl

  pub written_let : (v b : Term A) (w : View) (rest code : Code) (bound : View) (after : Used) → bound ≡ argument_view local_arrays spell ins env u.locals v → after ≡ used_after u v
      → code ≡ print_group_written spell forms ins fence depth (push bound env) after b w rest → print_group_argument spell forms ins fence depth env u v code ≡ print_group_written spell forms ins fence depth env u (LetArray v b) w rest
  written_let v b w rest code bound after eb ea ec = rw (ec, eb, ea) refl

  pub written_map : (k : Kind) (n : A) (loads : LoadSet) (xs b : Term A) (w : View) (rest mapped code : Code) (array : View) (after : Used) → array ≡ argument_view local_arrays spell ins env u.locals xs → after ≡ used_after u xs
      → mapped ≡ print_local_map spell forms ins fence depth env after n loads array b w rest → code ≡ fenced (fence after.phases) mapped
      → print_group_argument spell forms ins fence depth env u xs code ≡ print_group_written spell forms ins fence depth env u (Map k n loads xs b) w rest
  written_map k n loads xs b w rest mapped code array after ev ea em ec = rw (ec, em, ev, ea) refl

  -- a map over groups, by what stands for its turn
  pub over_groups :
      (k : Kind) (n : A) (loads : LoadSet) (xs b : Term A) (w : View) (once : Bool) (turn : Formula) (array element to : View) (within : ℕ) (code : Code) (length : Formula)
      → once ≡ forms.once n → turn ≡ turn_formula (form_over_groups once) (Over Groups X) 0 → array ≡ argument_view private_arrays spell ins env 0 xs → element ≡ view_at turn array → to ≡ view_at turn w
      → within ≡ depth_in (form_over_groups once) 0 → code ≡ print_group_turn spell forms ins fence within env loads element b to → length ≡ spell n
      → statement_over_groups X once length code ≡ print_groups spell forms ins fence env (Map k n loads xs b) w
  over_groups k n loads xs b w once turn array element to within code length eo et ea ee ew ed ec el = rw (ec, el, ed, ee, ew, ea, et, eo) refl
