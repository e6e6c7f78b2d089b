-- A printer of maps over work-groups, each map in its form: its code is one for all launches.
use Rattle.std.specs.Prelude.{ℕ, suc, ◌+◌, ◌<◌, ◌^◌, List, Option}
use Rattle.size_arith.specs.declared.poly.Monomial.{Monomial}
use Rattle.lift_tree.specs.Tree.{Tree}
use Rattle.lift_tree.specs.Typing.{Declared}
use Rattle.lift_tree.specs.Annotations.{Annotation, type_in}
use Rattle.lift_tree.specs.declared.term.Level.TheVariants.{Groups, Items}
use Rattle.lift_tree.specs.declared.term.Dimension.TheVariants.{X}
use Rattle.kernel_tree.specs.Formula.{Formula, LoopVariable, Number, Id, GlobalId, GroupId, LocalId}
use Rattle.kernel_tree.specs.Code.{Output, Local as LocalArray, Start, FromZero, FromGlobalId, FromGroupId, FromLocalId, Stride, Code, End, Loops, Guards, Kernel}
use Rattle.kernel_tree.specs.Launch.{Launch}
use Rattle.barrier_placement.specs.Fencing.{Fencing}
use Rattle.lift_ir.specs.Types.{Shape, measured, IsPlaced}
use Rattle.lift_ir.specs.Terms.{Kind, Over, LoadSet, Term, Both, Project, Reshape, LetArray, Map, Copy, push, HasType, no_type}
use Rattle.lift_ir.specs.AtLaunch.{shape_of}
use Rattle.lift_ir.specs.Fours.{KeepsFours}
use Rattle.lift_ir.specs.Loads.{none, LoadsSuffice}
use Rattle.printed_form.specs.Arguments.{local_arrays, private_arrays, argument_view}
use Rattle.printed_form.specs.Counts.{more, no_variables, load_count, local_count}
use Rattle.printed_form.specs.Form.{start_of, stride_of}
use Rattle.printed_form.specs.MapForms.{MapForm, Looped, Guarded, Alone, MapForms, MakeTurns, form_over_groups, statement_over_groups}
use Rattle.printed_form.specs.Means.{IsSpelled}
use Rattle.printed_form.specs.Programs.{input_shape, first_buffer, declared_kernel, lowered_root}
use Rattle.printed_form.specs.Printer.{print_loaded, print_written, no_view, input_views, input_marks}
use Rattle.printed_form.specs.Views.{View, loaded_view, view_at, rewritten_view, placed_view, laid_view}
use Rattle.printed_form.specs.Whole.{no_marks, output_marks}
pub use Rattle.group_phases.specs.Epochs.{fenced}
use Rattle.group_form.specs.ChosenForms.{forms_of}
use Rattle.group_form.specs.Form.{Used, used_after, IsOverGroups}
use Rattle.group_form.specs.Forms.{StandsOverGroups}
use Rattle.group_form.specs.Uses.{phases_in}

-- what a turn is that takes no loop, by where it begins
abbrev pub start_formula : Start → Formula
start_formula FromZero = Number 0
start_formula (FromGlobalId d) = Id d GlobalId
start_formula (FromGroupId d) = Id d GroupId
start_formula (FromLocalId d) = Id d LocalId

-- what stands for the turn of a map within so many loops
abbrev pub turn_from : MapForm → Start → (depth : ℕ) → Formula
turn_from Looped s depth = LoopVariable depth
turn_from Guarded s depth = start_formula s
turn_from Alone s depth = start_formula s

-- and in how many loops its body stands
abbrev pub depth_in : MapForm → ℕ → ℕ
depth_in Looped depth = suc depth
depth_in Guarded depth = depth
depth_in Alone depth = depth

-- a map's statement in a form, where this prints a turn up to what follows it
abbrev pub print_turns_from : MapForm → Start → Stride → (bound : Formula) → (turn : Code → Code)
    → (rest : Code) → Code
print_turns_from Looped s c b turn rest = Loops s b c (turn End) rest
print_turns_from Guarded s c b turn rest = Guards s b (turn End) rest
print_turns_from Alone s c b turn rest = turn rest

-- the id that an item's turn of a map of a kind is, where it takes no loop
abbrev pub id_of : Kind → Formula
id_of k = start_formula (start_of k)

-- what stands for the turn of a map of a kind
abbrev pub turn_formula : MapForm → Kind → (depth : ℕ) → Formula
turn_formula form k depth = turn_from form (start_of k) depth

-- and its statement
abbrev pub print_turns : MapForm → Kind → (bound : Formula) → (turn : Code → Code) → (rest : Code)
    → Code
print_turns form k b turn rest = print_turns_from form (start_of k) (stride_of k) b turn rest

-- the maps have these forms, and this stands before each phase
module _ {A : Type 0} (spell : A → Formula) (forms : MapForms A) (ins : ℕ → View)
    (fence : ℕ → Fencing) where
  -- a turn of a local map over such an argument, within so many loops, up to what follows it
  abbrev pub print_local_turn : (depth : ℕ) → (ℕ → View) → Used → A → LoadSet → (array : View)
      → (body : Term A) → (to : View) → (rest : Code) → Code
  print_local_turn depth env u n loads x b w rest =
      let turn = turn_formula (forms.local n) (Over Items X) depth in
      print_loaded loads (view_at turn x) u.variables
      (print_written spell ins (depth_in (forms.local n) depth)
      (push (loaded_view loads (view_at turn x) u.variables) env) u.privates
      (more u.variables (load_count loads)) b (view_at turn w) rest)

  -- a local map in its form, in so many loops, and then the rest
  abbrev pub print_local_map : (depth : ℕ) → (ℕ → View) → Used → A → LoadSet → (array : View)
      → (body : Term A) → (to : View) → (rest : Code) → Code
  print_local_map depth env u n loads x b w rest =
      print_turns (forms.local n) (Over Items X) (spell n)
      (print_local_turn depth env u n loads x b w) rest

  abbrev mutual
    -- the copies of an argument, where so much is in use, within so many loops
    pub print_group_argument : (depth : ℕ) → (ℕ → View) → Used → Term A → (rest : Code) → Code
    print_group_argument depth env u (Both zips a b) rest =
        print_group_argument depth env u a
        (print_group_argument depth env (used_after u a) b rest)
    print_group_argument depth env u (Project s a) rest = print_group_argument depth env u a rest
    print_group_argument depth env u (Reshape l a) rest = print_group_argument depth env u a rest
    print_group_argument depth env u (LetArray v b) rest =
        print_group_argument depth env u v
        (print_group_argument depth (push (argument_view local_arrays spell ins env u.locals v) env)
        (used_after u v) b rest)
    print_group_argument depth env u (Copy space ty a) rest =
        print_group_written depth env u a (laid_view LocalArray (u.locals + local_count a) ty) rest
    print_group_argument depth env u _ rest = rest

    -- a term in writing position, which goes to w
    pub print_group_written : (depth : ℕ) → (ℕ → View) → Used → Term A → (to : View)
        → (rest : Code) → Code
    print_group_written depth env u (Reshape l t) w rest =
        print_group_written depth env u t (rewritten_view spell l w) rest
    print_group_written depth env u (LetArray v b) w rest =
        print_group_argument depth env u v
        (print_group_written depth (push (argument_view local_arrays spell ins env u.locals v) env)
        (used_after u v) b w rest)
    print_group_written depth env u (Map kind n loads xs b) w rest =
        print_group_argument depth env u xs
        (fenced (fence (u.phases + phases_in xs))
        (print_local_map depth env (used_after u xs) n loads
        (argument_view local_arrays spell ins env u.locals xs) b w rest))
    print_group_written depth env u _ w rest = rest

  -- a turn of the map over groups, whose element stands so
  abbrev pub print_group_turn : (depth : ℕ) → (ℕ → View) → LoadSet → (element : View)
      → (body : Term A) → (to : View) → Code
  print_group_turn depth env loads x b w =
      print_loaded loads x no_variables
      (print_group_written depth (push (loaded_view loads x no_variables) env)
      (record { locals = 0; privates = 0; variables = load_count loads; phases = 0 }) b w
      (fenced (fence (phases_in b)) End))

  -- a map over work-groups, through layouts and lets of arrays, whose value goes there
  abbrev pub print_groups : (ℕ → View) → Term A → (to : View) → Code
  print_groups env (Reshape l t) w = print_groups env t (rewritten_view spell l w)
  print_groups env (LetArray v b) w =
      print_groups (push (argument_view private_arrays spell ins env 0 v) env) b w
  print_groups env (Map kind n loads xs b) w =
      let form = form_over_groups (forms.once n) in
      let turn = turn_formula form (Over Groups X) 0 in
      statement_over_groups X (forms.once n) (spell n)
      (print_group_turn (depth_in form 0) env loads
      (view_at turn (argument_view private_arrays spell ins env 0 xs)) b (view_at turn w))
  print_groups env _ w = End

-- the code of a map over work-groups, where input v's arrays begin with the number `first v`
abbrev pub group_kernel_code : {A : Type 0} → (A → Formula) → MapForms A → (first : ℕ → ℕ)
    → (ℕ → Shape A) → (fence : ℕ → Fencing) → Term A → Shape A → Code
group_kernel_code spell forms first src fence t ty =
    print_groups spell forms (input_views spell first src) fence no_view t
    (placed_view spell Output 0 ty)

-- at each launch where the forms make the maps' turns and the lengths' spellings have their values,
-- the code is printed for the term
abbrev pub GroupPrinterPrints : Type 0 → Type 0
GroupPrinterPrints A =
    (l : Launch) (num : A → ℕ) (forms : MapForms A) → MakeTurns forms num l
    → (spell : A → Formula) → ((n : A) → num n < 2 ^ 31 → IsSpelled l (spell n) (num n))
    → (first : ℕ → ℕ) (src : ℕ → Shape A) (fence : ℕ → Fencing) (t : Term A) (ty : Shape A)
    → StandsOverGroups t → KeepsFours t
    → HasType num (λ v. measured num (src v)) no_type t (measured num ty)
    → LoadsSuffice (λ v. none) t → IsPlaced num ty → ((v : ℕ) → IsPlaced num (src v))
    → IsOverGroups num forms l (input_marks num first src) fence no_marks t
    (output_marks (measured num ty)) (group_kernel_code spell forms first src fence t ty)

-- the kernel that the printer makes of a program's typed term
abbrev pub printed_group_kernel : (List Monomial → Formula) → (fence : ℕ → Fencing) → Declared
    → (size : Option (ℕ × ℕ)) → Tree → Annotation → Kernel
printed_group_kernel spell fence d size t a =
    declared_kernel d size t a
    (group_kernel_code spell (forms_of d.names size) (first_buffer d.inputs) (input_shape d.inputs)
    fence (lowered_root d.names t a) (shape_of (type_in a)))
