-- A printer of maps over work-groups in two dimensions, each map in its form.
use Rattle.std.specs.Prelude.{ℕ, ◌+◌, ◌<◌, ◌^◌, List, Option}
use Rattle.size_arith.specs.declared.poly.Monomial.{Monomial}
use Rattle.lift_tree.specs.Tree.{Tree}
use Rattle.lift_tree.specs.Typing.{Declared}
use Rattle.lift_tree.specs.Annotations.{Annotation, type_in}
use Rattle.lift_tree.specs.declared.term.Level.TheVariants.{Groups, Items}
use Rattle.lift_tree.specs.declared.term.Dimension.TheVariants.{X, Y}
use Rattle.kernel_tree.specs.Formula.{Formula}
use Rattle.kernel_tree.specs.Code.{Output, Local as LocalArray, Code, End, Kernel}
use Rattle.kernel_tree.specs.Launch.{Launch}
use Rattle.barrier_placement.specs.Fencing.{Fencing}
use Rattle.lift_ir.specs.Types.{Shape, measured, IsPlaced}
use Rattle.lift_ir.specs.Terms.{Over, LoadSet, Term, Both, Project, Reshape, LetArray, Map, Copy, push, HasType, no_type}
use Rattle.lift_ir.specs.AtLaunch.{shape_of}
use Rattle.lift_ir.specs.Fours.{KeepsFours}
use Rattle.lift_ir.specs.Loads.{none, LoadsSuffice}
use Rattle.printed_form.specs.Arguments.{local_arrays, private_arrays, argument_view}
use Rattle.printed_form.specs.Counts.{Count, more, no_variables, load_count, variable_count, private_count, local_count}
use Rattle.printed_form.specs.MapForms.{form_over_groups, statement_over_groups}
use Rattle.printed_form.specs.Means.{IsSpelled}
use Rattle.printed_form.specs.Programs.{input_shape, first_buffer, declared_kernel, lowered_root}
use Rattle.printed_form.specs.Printer.{print_loaded, print_written, no_view, input_views, input_marks}
use Rattle.printed_form.specs.Views.{View, loaded_view, view_at, rewritten_view, placed_view, laid_view}
use Rattle.printed_form.specs.Whole.{no_marks, output_marks}
use Rattle.group_phases.specs.Epochs.{fenced}
use Rattle.group_form.specs.Form.{Used, used_after}
use Rattle.group_form.specs.GridChosen.{grid_forms_of}
use Rattle.group_form.specs.GridForm.{IsOverGrid}
use Rattle.group_form.specs.GridTerms.{GridForms, StandsOverGrid}
use Rattle.group_form.specs.GridTheorem.{MakeGridTurns}
use Rattle.group_form.specs.Printer.{depth_in, turn_formula, print_turns}
use Rattle.group_form.specs.Uses.{phases_in}

-- the maps have these forms, and this stands before each phase
module _ {A : Type 0} (spell : A → Formula) (forms : GridForms A) (ins : ℕ → View)
    (fence : ℕ → Fencing) where
  -- a turn of a map along a row, up to what follows it
  abbrev pub print_place : (turn : Formula) → (inner_depth : ℕ) → (ℕ → View)
      → (privates : ℕ) → (variables : Count) → LoadSet → (array : View) → (body : Term A)
      → (to : View) → (rest : Code) → Code
  print_place turn inner env a n loads x b w rest =
      print_loaded loads (view_at turn x) n
      (print_written spell ins inner (push (loaded_view loads (view_at turn x) n) env) a
      (more n (load_count loads)) b (view_at turn w) rest)

  -- a map along a row of a group, in so many loops, and then the rest
  abbrev pub print_along_row : (depth : ℕ) → (ℕ → View) → (locals privates : ℕ)
      → (variables : Count) → Term A → (to : View) → (rest : Code) → Code
  print_along_row depth env k a n (Reshape y t) w rest =
      print_along_row depth env k a n t (rewritten_view spell y w) rest
  print_along_row depth env k a n (Map kind m loads xs b) w rest =
      print_turns (forms.columns.local m) (Over Items X) (spell m)
      (print_place (turn_formula (forms.columns.local m) (Over Items X) depth)
      (depth_in (forms.columns.local m) depth) env (a + private_count xs)
      (more n (variable_count xs)) loads (argument_view local_arrays spell ins env k xs) b w) rest
  print_along_row depth env k a n _ w rest = rest

  -- a row of a phase, up to what follows it
  abbrev pub print_row : (turn : Formula) → (inner_depth : ℕ) → (ℕ → View) → Used → LoadSet
      → (array : View) → (body : Term A) → (to : View) → (rest : Code) → Code
  print_row turn inner env u loads x b w rest =
      print_loaded loads (view_at turn x) u.variables
      (print_along_row inner (push (loaded_view loads (view_at turn x) u.variables) env) u.locals
      u.privates (more u.variables (load_count loads)) b (view_at turn w) rest)

  -- a local map over rows, and then the rest
  abbrev pub print_local_nest : (depth : ℕ) → (ℕ → View) → Used → A → LoadSet → (array : View)
      → (body : Term A) → (to : View) → (rest : Code) → Code
  print_local_nest depth env u n loads x b w rest =
      print_turns (forms.rows.local n) (Over Items Y) (spell n)
      (print_row (turn_formula (forms.rows.local n) (Over Items Y) depth)
      (depth_in (forms.rows.local n) depth) env u loads x b w) rest

  abbrev mutual
    -- the copies of an argument, where so much is in use, within so many loops
    pub print_grid_argument : (depth : ℕ) → (ℕ → View) → Used → Term A → (rest : Code) → Code
    print_grid_argument depth env u (Both zips a b) rest =
        print_grid_argument depth env u a (print_grid_argument depth env (used_after u a) b rest)
    print_grid_argument depth env u (Project s a) rest = print_grid_argument depth env u a rest
    print_grid_argument depth env u (Reshape l a) rest = print_grid_argument depth env u a rest
    print_grid_argument depth env u (LetArray v b) rest =
        print_grid_argument depth env u v
        (print_grid_argument depth (push (argument_view local_arrays spell ins env u.locals v) env)
        (used_after u v) b rest)
    print_grid_argument depth env u (Copy space ty a) rest =
        print_grid_written depth env u a (laid_view LocalArray (u.locals + local_count a) ty) rest
    print_grid_argument depth env u _ rest = rest

    -- a term in writing position, which goes to w
    pub print_grid_written : (depth : ℕ) → (ℕ → View) → Used → Term A → (to : View)
        → (rest : Code) → Code
    print_grid_written depth env u (Reshape l t) w rest =
        print_grid_written depth env u t (rewritten_view spell l w) rest
    print_grid_written depth env u (LetArray v b) w rest =
        print_grid_argument depth env u v
        (print_grid_written depth (push (argument_view local_arrays spell ins env u.locals v) env)
        (used_after u v) b w rest)
    print_grid_written depth env u (Map kind n loads xs b) w rest =
        print_grid_argument depth env u xs
        (fenced (fence (u.phases + phases_in xs))
        (print_local_nest depth env (used_after u xs) n loads
        (argument_view local_arrays spell ins env u.locals xs) b w rest))
    print_grid_written depth env u _ w rest = rest

  -- a turn of the map over the groups of a row, whose element stands so
  abbrev pub print_grid_turn : (depth : ℕ) → (ℕ → View) → (variables : Count) → LoadSet
      → (element : View) → (body : Term A) → (to : View) → Code
  print_grid_turn depth env n loads x b w =
      print_loaded loads x n
      (print_grid_written depth (push (loaded_view loads x n) env)
      (record { locals = 0; privates = 0; variables = more n (load_count loads); phases = 0 }) b w
      (fenced (fence (phases_in b)) End))

  -- a map over the groups of a row, within so many loops, where a row's loads are in so many
  -- variables
  abbrev pub print_along_groups : (depth : ℕ) → (ℕ → View) → (variables : Count) → Term A
      → (to : View) → Code
  print_along_groups depth env n (Reshape l t) w =
      print_along_groups depth env n t (rewritten_view spell l w)
  print_along_groups depth env n (Map kind m loads xs b) w =
      let form = form_over_groups (forms.columns.once m) in
      let turn = turn_formula form (Over Groups X) depth in
      statement_over_groups X (forms.columns.once m) (spell m)
      (print_grid_turn (depth_in form depth) env n loads
      (view_at turn (argument_view private_arrays spell ins env 0 xs)) b (view_at turn w))
  print_along_groups depth env n _ w = End

  -- a map over rows of groups, through layouts and lets of arrays, whose value goes there
  abbrev pub print_grid : (ℕ → View) → Term A → (to : View) → Code
  print_grid env (Reshape l t) w = print_grid env t (rewritten_view spell l w)
  print_grid env (LetArray v b) w =
      print_grid (push (argument_view private_arrays spell ins env 0 v) env) b w
  print_grid env (Map kind n loads xs b) w =
      let form = form_over_groups (forms.rows.once n) in
      let x = view_at (turn_formula form (Over Groups Y) 0)
      (argument_view private_arrays spell ins env 0 xs) in
      statement_over_groups Y (forms.rows.once n) (spell n)
      (print_loaded loads x no_variables
      (print_along_groups (depth_in form 0) (push (loaded_view loads x no_variables) env)
      (load_count loads) b
      (view_at (turn_formula form (Over Groups Y) 0) w)))
  print_grid env _ w = End

-- the code of a map over rows of work-groups, where input v's arrays
-- begin with the number `first v`
abbrev pub grid_kernel_code : {A : Type 0} → (A → Formula) → GridForms A → (first : ℕ → ℕ)
    → (ℕ → Shape A) → (fence : ℕ → Fencing) → Term A → Shape A → Code
grid_kernel_code spell forms first src fence t ty =
    print_grid spell forms (input_views spell first src) fence no_view t
    (placed_view spell Output 0 ty)

-- at each launch where the forms make the maps' turns and the lengths' spellings have their values,
-- the code is printed for the term
abbrev pub GridPrinterPrints : Type 0 → Type 0
GridPrinterPrints A =
    (l : Launch) (num : A → ℕ) (forms : GridForms A) → MakeGridTurns forms num l
    → (spell : A → Formula) → ((n : A) → num n < 2 ^ 31 → IsSpelled l (spell n) (num n))
    → (first : ℕ → ℕ) (src : ℕ → Shape A) (fence : ℕ → Fencing) (t : Term A) (ty : Shape A)
    → StandsOverGrid t → KeepsFours t
    → HasType num (λ v. measured num (src v)) no_type t (measured num ty)
    → LoadsSuffice (λ v. none) t → IsPlaced num ty → ((v : ℕ) → IsPlaced num (src v))
    → IsOverGrid num forms l (input_marks num first src) fence no_marks t
    (output_marks (measured num ty)) (grid_kernel_code spell forms first src fence t ty)

-- the kernel that the printer makes of a program's typed term
abbrev pub printed_grid_kernel : (List Monomial → Formula) → (fence : ℕ → Fencing) → Declared
    → (size : Option (ℕ × ℕ)) → Tree → Annotation → Kernel
printed_grid_kernel spell fence d size t a =
    declared_kernel d size t a
    (grid_kernel_code spell (grid_forms_of d.names size) (first_buffer d.inputs)
    (input_shape d.inputs)
    fence (lowered_root d.names t a) (shape_of (type_in a)))
