-- The indices of loads and stores, and the bounds of loops, in the code of a map over
-- work-groups in two dimensions.
use Rattle.std.proofs.Common.{ℕ, ◌+◌, Bool, true, false, List, [], refl}
use Rattle.size_arith.specs.declared.names.Name.{Name}
use Rattle.lift_tree.specs.declared.term.Level.TheVariants.{Groups, Items}
use Rattle.lift_tree.specs.declared.term.Dimension.TheVariants as dimension
use Rattle.kernel_tree.specs.declared.tree.Dimension.TheVariants.{X, Y}
use Rattle.kernel_tree.specs.Formula.{Formula, Number}
use Rattle.kernel_tree.specs.Code.{Local as LocalArray, FromGroupId, FromLocalId, ByGroupCount, ByLocalSize, Start, Stride, Statement, Loads, Stores, LoadsFour, StoresFour, Code, End, Performs, Loops, Guards}
use Rattle.barrier_placement.specs.Fencing.{Fencing}
use Rattle.lift_ir.specs.Types.{Shape}
use Rattle.lift_ir.specs.Terms.{Over, LocalMemory, Term, Bound, Source, Both, Project, Reshape, LetArray, Map, Copy, push}
use Rattle.index_expr.specs.Expression.{Expression, Literal, short_nodes}
use Rattle.printed_form.specs.Arguments.{argument_view, local_arrays}
use Rattle.printed_form.specs.Counts.{Count, more, no_variables, load_count, variable_count, private_count, local_count}
use Rattle.printed_form.specs.MapForms.{form_over_groups, statement_of}
use Rattle.printed_form.specs.Views.{View, loaded_view, view_at, rewritten_view, laid_view}
use Rattle.printed_form.specs.Printer.{print_loaded, print_written}
use Rattle.printed_form.proofs.Arguments.{IsArgument}
use Rattle.group_phases.specs.Epochs.{fenced}
use Rattle.group_form.specs.Form.{Used, used_after}
use Rattle.group_form.specs.Forms.{IsOfInputs}
use Rattle.group_form.specs.GridPrinter.{print_along_row, print_local_nest, print_grid_argument, print_grid_written, print_along_groups, print_grid}
use Rattle.group_form.specs.GridTerms.{GridForms, StandsAlongRow, StandsInGrid, StandsAlongGroups, StandsOverGrid}
use Rattle.group_form.specs.Printer.{depth_in, turn_from, print_turns_from}
use Rattle.group_form.specs.Uses.{phases_in}
use Rattle.tidy_printed.specs.Indices.{EachWithin, index_then, indices_then}
use Rattle.tidy_printed.specs.Limits.{IndexNodes, at_one_node, after_loads, load_limits, bound_limit, array_nodes, written_through, argument_nodes, element_nodes, argument_limits, written_limits}
use Rattle.tidy_printed.proofs.Formulas.{Spelled, spelled_number, index_group, index_local}
use Rattle.tidy_printed.proofs.Views.{IsIndexed, written_indexed, placed_indexed}
use Rattle.tidy_printed.proofs.Codes.{Fits, AreIndexed, pushed, turn_is_index, turns_fine, map_fine}
use Rattle.tidy_printed.proofs.Arguments.{argument_indexed}
use Rattle.tidy_printed.proofs.TermIndices as terms
use Rattle.tidy_printed.proofs.GroupIndices as groups
use Rattle.tidy_printed.proofs.GroupIndices.{input_view}

-- arguments for the items of a group, and of inputs alone, are arguments
grid_argument : {A : Type 0} (t : Term A) → StandsInGrid false t → IsArgument local_arrays t
grid_argument (Bound v) sd = tt
grid_argument (Source s) sd = tt
grid_argument (Both true x y) sd = (grid_argument x sd.0, grid_argument y sd.1)
grid_argument (Project s x) sd = grid_argument x sd
grid_argument (Reshape y x) sd = grid_argument x sd
grid_argument (LetArray v b) sd = (grid_argument v sd.0, grid_argument b sd.1)
grid_argument (Copy LocalMemory ty x) sd = refl
grid_argument _ sd = absurd sd

input_argument : {A : Type 0} (t : Term A) → IsOfInputs t → IsArgument local_arrays t
input_argument (Bound v) sd = tt
input_argument (Source s) sd = tt
input_argument (Both true x y) sd = (input_argument x sd.0, input_argument y sd.1)
input_argument (Project s x) sd = input_argument x sd
input_argument (Reshape y x) sd = input_argument x sd
input_argument (LetArray v b) sd = (input_argument v sd.0, input_argument b sd.1)
input_argument _ sd = absurd sd

-- where nothing may be left, nothing comes behind code
none_behind : (P : ℕ → Formula → Type 0) (c : Code) (gs : List Formula) → EachWithin P [] (indices_then c gs) → EachWithin P [] gs
none_behind P End gs h = h
none_behind P (Performs s rest) gs h = none_behind P rest gs (behind s h)
  where
    behind : (s : Statement) → EachWithin P [] (index_then s (indices_then rest gs)) → EachWithin P [] (indices_then rest gs)
    behind (Loads v a i) h = absurd h
    behind (Stores a i e) h = absurd h
    behind (LoadsFour v a i) h = absurd h
    behind (StoresFour a i e) h = absurd h
    behind _ h = h
none_behind P (Loops s b c body rest) gs h = absurd h
none_behind P (Guards s b body rest) gs h = absurd h

module _ (names : List Name) {A : Type 0} (spell : A → Expression) (text : A → Formula) (lengths : (n : A) → Spelled names (short_nodes (spell n)) (text n)) (forms : GridForms A) (src : ℕ → Shape A) (ins : ℕ → View) (inputs : (v : ℕ) → IsIndexed names (array_nodes spell (src v)) (ins v)) (fence : ℕ → Fencing) where
  abbrev viewed : (ℕ → View) → ℕ → Term A → View
  viewed env a t = argument_view local_arrays text ins env a t

  abbrev counted : (ℕ → IndexNodes) → Term A → IndexNodes
  counted counts t = argument_nodes spell forms src counts t

  abbrev argued : (ℕ → IndexNodes) → Term A → List ℕ → List ℕ
  argued counts t limits = argument_limits spell forms src counts t limits

  abbrev written : (ℕ → IndexNodes) → Term A → IndexNodes → List ℕ → List ℕ
  written counts t to limits = written_limits spell forms src counts t to limits

  abbrev Views : (ℕ → IndexNodes) → (ℕ → View) → Type 0
  Views counts env = AreIndexed names counts env

  abbrev Right : List ℕ → Code → List Formula → Type 0
  Right limits c fs = Fits names limits c fs

  abbrev nothing_printed : (counts : ℕ → IndexNodes) (t : Term A) (limits : List ℕ) (fs : List Formula) → IsOfInputs t → EachWithin (Spelled names) limits fs → EachWithin (Spelled names) (argued counts t limits) fs
  nothing_printed = groups.nothing_printed names spell text lengths forms src ins inputs fence

  viewed_indexed : (counts : ℕ → IndexNodes) (env : ℕ → View) (a : ℕ) (t : Term A) → IsArgument local_arrays t → Views counts env → IsIndexed names (counted counts t) (viewed env a t)
  viewed_indexed counts env a t is all = argument_indexed names local_arrays spell text lengths forms src ins inputs counts env a t is all

  along_row_fine : (d : ℕ) (counts : ℕ → IndexNodes) (env : ℕ → View) (k a : ℕ) (n : Count) (t : Term A) (to : IndexNodes) (w : View) (rest : Code) (limits : List ℕ) (fs : List Formula) → StandsAlongRow t → Views counts env → IsIndexed names to w → Right limits rest fs → Right (written counts t to limits) (print_along_row text forms ins fence d env k a n t w rest) fs
  along_row_fine d counts env k a n (Reshape y x) to w rest limits fs stands all goes f =
      along_row_fine d counts env k a n x (written_through spell y to) (rewritten_view text y w) rest limits fs stands.1 all (written_indexed names spell text lengths y to w goes) f
  along_row_fine d counts env k a n (Map (Over Items dimension.X) m ls x b) to w rest limits fs stands all goes f =
      let form = forms.columns.local m in
      let privates = a + private_count x in
      let variables = more (more n (variable_count x)) (load_count ls) in
      let at = element_nodes spell forms src counts x in
      let inside = bound_limit form (short_nodes (spell m)) (load_limits ls at (written (push (after_loads ls at) counts) b (at_one_node to) limits)) in
      nothing_printed counts x inside (indices_then (print_along_row text forms ins fence d env k a n (Map (Over Items dimension.X) m ls x b) w rest) fs) stands.0
      (map_fine names form (turn_from form (FromLocalId X) d) (print_turns_from form (FromLocalId X) (ByLocalSize X) (text m)) (short_nodes (spell m)) (more n (variable_count x)) ls counts env (counted counts x) to (viewed env k x) w
      (λ counts to. written counts b to limits) (λ env w last. print_written text ins (depth_in form d) env privates variables b w last) rest limits fs
      (turn_is_index names form (FromLocalId X) d (index_local names X)) (turns_fine names form (FromLocalId X) (ByLocalSize X) (short_nodes (spell m)) (text m) (lengths m))
      (λ counts env to w last gs all goes f. terms.written_fine names spell text lengths forms src ins inputs (depth_in form d) counts env privates variables b to w last limits gs stands.1 all goes f)
      all (viewed_indexed counts env k x (input_argument x stands.0) all) goes f)
  along_row_fine d counts env k a n _ to w rest limits fs stands all goes f = absurd stands

  mutual
    argument_fine : (d : ℕ) (counts : ℕ → IndexNodes) (env : ℕ → View) (u : Used) (t : Term A) (rest : Code) (limits : List ℕ) (fs : List Formula) → StandsInGrid false t → Views counts env → Right limits rest fs → Right (argued counts t limits) (print_grid_argument text forms ins fence d env u t rest) fs
    argument_fine d counts env u (Bound v) rest limits fs stands all f = f
    argument_fine d counts env u (Source v) rest limits fs stands all f = f
    argument_fine d counts env u (Both true x y) rest limits fs stands all f =
        argument_fine d counts env u x (print_grid_argument text forms ins fence d env (used_after u x) y rest) (argued counts y limits) fs stands.0 all (argument_fine d counts env (used_after u x) y rest limits fs stands.1 all f)
    argument_fine d counts env u (Project s x) rest limits fs stands all f = argument_fine d counts env u x rest limits fs stands all f
    argument_fine d counts env u (Reshape y x) rest limits fs stands all f = argument_fine d counts env u x rest limits fs stands all f
    argument_fine d counts env u (LetArray v b) rest limits fs stands all f =
        let inner = push (viewed env u.locals v) env in
        let within = push (counted counts v) counts in
        argument_fine d counts env u v (print_grid_argument text forms ins fence d inner (used_after u v) b rest) (argued within b limits) fs stands.0 all
        (argument_fine d within inner (used_after u v) b rest limits fs stands.1 (pushed names counts env (counted counts v) (viewed env u.locals v) (viewed_indexed counts env u.locals v (grid_argument v stands.0) all) all) f)
    argument_fine d counts env u (Copy LocalMemory ty x) rest limits fs stands all f =
        written_fine d counts env u x (array_nodes Literal ty) (laid_view LocalArray (u.locals + local_count x) ty) rest limits fs stands all (placed_indexed names Literal Number (spelled_number names) LocalArray (u.locals + local_count x) ty) f
    argument_fine d counts env u _ rest limits fs stands all f = absurd stands

    written_fine : (d : ℕ) (counts : ℕ → IndexNodes) (env : ℕ → View) (u : Used) (t : Term A) (to : IndexNodes) (w : View) (rest : Code) (limits : List ℕ) (fs : List Formula) → StandsInGrid true t → Views counts env → IsIndexed names to w → Right limits rest fs → Right (written counts t to limits) (print_grid_written text forms ins fence d env u t w rest) fs
    written_fine d counts env u (Reshape y x) to w rest limits fs stands all goes f =
        written_fine d counts env u x (written_through spell y to) (rewritten_view text y w) rest limits fs stands.1 all (written_indexed names spell text lengths y to w goes) f
    written_fine d counts env u (LetArray v b) to w rest limits fs stands all goes f =
        let inner = push (viewed env u.locals v) env in
        let within = push (counted counts v) counts in
        argument_fine d counts env u v (print_grid_written text forms ins fence d inner (used_after u v) b w rest) (written within b to limits) fs stands.0 all
        (written_fine d within inner (used_after u v) b to w rest limits fs stands.1 (pushed names counts env (counted counts v) (viewed env u.locals v) (viewed_indexed counts env u.locals v (grid_argument v stands.0) all) all) goes f)
    written_fine d counts env u (Map (Over Items dimension.Y) m ls x b) to w rest limits fs stands all goes f =
        let form = forms.rows.local m in
        let after = used_after u x in
        let variables = more after.variables (load_count ls) in
        let place = fence (u.phases + phases_in x) in
        let nest = print_local_nest text forms ins fence d env after m ls (viewed env u.locals x) b w rest in
        let at = element_nodes spell forms src counts x in
        let inside = bound_limit form (short_nodes (spell m)) (load_limits ls at (written (push (after_loads ls at) counts) b (at_one_node to) limits)) in
        argument_fine d counts env u x (fenced place nest) inside fs stands.0 all
        (groups.fence_fine names spell text lengths forms src ins inputs fence place nest inside fs
        (map_fine names form (turn_from form (FromLocalId Y) d) (print_turns_from form (FromLocalId Y) (ByLocalSize Y) (text m)) (short_nodes (spell m)) after.variables ls counts env (counted counts x) to (viewed env u.locals x) w
        (λ counts to. written counts b to limits) (λ env w last. print_along_row text forms ins fence (depth_in form d) env after.locals after.privates variables b w last) rest limits fs
        (turn_is_index names form (FromLocalId Y) d (index_local names Y)) (turns_fine names form (FromLocalId Y) (ByLocalSize Y) (short_nodes (spell m)) (text m) (lengths m))
        (λ counts env to w last gs all goes f. along_row_fine (depth_in form d) counts env after.locals after.privates variables b to w last limits gs stands.1 all goes f)
        all (viewed_indexed counts env u.locals x (grid_argument x stands.0) all) goes f))
    written_fine d counts env u _ to w rest limits fs stands all goes f = absurd stands

  -- ---- the maps over work-groups
  statement_fine : (once : Bool) (s : Start) (c : Stride) (bound : Formula) (turn : Code → Code) (limits : List ℕ) (fs : List Formula) → Right limits (print_turns_from (form_over_groups once) s c bound turn End) fs → Right limits (statement_of (form_over_groups once) s c bound (turn End)) fs
  statement_fine false s c bound turn limits fs f = f
  statement_fine true s c bound turn limits fs f = f

  along_groups_fine : (d : ℕ) (counts : ℕ → IndexNodes) (env : ℕ → View) (n : Count) (t : Term A) (to : IndexNodes) (w : View) (fs : List Formula) → StandsAlongGroups t → Views counts env → IsIndexed names to w → EachWithin (Spelled names) [] fs → Right (written counts t to []) (print_along_groups text forms ins fence d env n t w) fs
  along_groups_fine d counts env n (Reshape y t) to w fs stands all goes f =
      along_groups_fine d counts env n t (written_through spell y to) (rewritten_view text y w) fs stands.1 all (written_indexed names spell text lengths y to w goes) f
  along_groups_fine d counts env n (Map (Over Groups dimension.X) m ls xs b) to w fs stands all goes f =
      let once = forms.columns.once m in
      let form = form_over_groups once in
      let turn = turn_from form (FromGroupId X) d in
      let element = view_at turn (input_view names spell text lengths forms src ins inputs fence env xs) in
      let u : Used = record { locals = 0; privates = 0; variables = more n (load_count ls); phases = 0 } in
      let closing = fence (phases_in b) in
      let code : (ℕ → View) → View → Code → Code = λ env w last. print_grid_written text forms ins fence (depth_in form d) env u b w (fenced closing last) in
      let body : Code → Code = λ last. print_loaded ls element n (code (push (loaded_view ls element n) env) (view_at turn w) last) in
      let at = element_nodes spell forms src counts xs in
      let limits = bound_limit form (short_nodes (spell m)) (load_limits ls at (written (push (after_loads ls at) counts) b (at_one_node to) [])) in
      nothing_printed counts xs limits (indices_then (statement_of form (FromGroupId X) (ByGroupCount X) (text m) (body End)) fs) stands.0
      (statement_fine once (FromGroupId X) (ByGroupCount X) (text m) body limits fs
      (map_fine names form turn (print_turns_from form (FromGroupId X) (ByGroupCount X) (text m)) (short_nodes (spell m)) n ls counts env (counted counts xs) to (input_view names spell text lengths forms src ins inputs fence env xs) w
      (λ counts to. written counts b to []) code End [] fs
      (turn_is_index names form (FromGroupId X) d (index_group names X)) (turns_fine names form (FromGroupId X) (ByGroupCount X) (short_nodes (spell m)) (text m) (lengths m))
      (λ counts env to w last gs all goes f. written_fine (depth_in form d) counts env u b to w (fenced closing last) [] gs stands.1 all goes (groups.fence_fine names spell text lengths forms src ins inputs fence closing last [] gs f))
      all (groups.input_indexed names spell text lengths forms src ins inputs fence counts env xs stands.0 all) goes f))
  along_groups_fine d counts env n _ to w fs stands all goes f = absurd stands

  pub grid_fine : (counts : ℕ → IndexNodes) (env : ℕ → View) (t : Term A) (to : IndexNodes) (w : View) → StandsOverGrid t → Views counts env → IsIndexed names to w → Right (written counts t to []) (print_grid text forms ins fence env t w) []
  grid_fine counts env (Reshape y t) to w stands all goes = grid_fine counts env t (written_through spell y to) (rewritten_view text y w) stands.1 all (written_indexed names spell text lengths y to w goes)
  grid_fine counts env (LetArray v b) to w stands all goes =
      let within = push (counted counts v) counts in
      let seen = input_view names spell text lengths forms src ins inputs fence env v in
      nothing_printed counts v (written within b to []) (indices_then (print_grid text forms ins fence (push seen env) b w) []) stands.0
      (grid_fine within (push seen env) b to w stands.1 (pushed names counts env (counted counts v) seen (groups.input_indexed names spell text lengths forms src ins inputs fence counts env v stands.0 all) all) goes)
  grid_fine counts env (Map (Over Groups dimension.Y) m ls xs b) to w stands all goes =
      let once = forms.rows.once m in
      let form = form_over_groups once in
      let turn = turn_from form (FromGroupId Y) 0 in
      let seen = input_view names spell text lengths forms src ins inputs fence env xs in
      let element = view_at turn seen in
      let code : (ℕ → View) → View → Code → Code = λ env w last. print_along_groups text forms ins fence (depth_in form 0) env (load_count ls) b w in
      let body : Code → Code = λ last. print_loaded ls element no_variables (code (push (loaded_view ls element no_variables) env) (view_at turn w) last) in
      let at = element_nodes spell forms src counts xs in
      let limits = bound_limit form (short_nodes (spell m)) (load_limits ls at (written (push (after_loads ls at) counts) b (at_one_node to) [])) in
      nothing_printed counts xs limits (indices_then (statement_of form (FromGroupId Y) (ByGroupCount Y) (text m) (body End)) []) stands.0
      (statement_fine once (FromGroupId Y) (ByGroupCount Y) (text m) body limits []
      (map_fine names form turn (print_turns_from form (FromGroupId Y) (ByGroupCount Y) (text m)) (short_nodes (spell m)) no_variables ls counts env (counted counts xs) to seen w
      (λ counts to. written counts b to []) code End [] []
      (turn_is_index names form (FromGroupId Y) 0 (index_group names Y)) (turns_fine names form (FromGroupId Y) (ByGroupCount Y) (short_nodes (spell m)) (text m) (lengths m))
      (λ counts env to w last gs all goes f. along_groups_fine (depth_in form 0) counts env (load_count ls) b to w gs stands.1 all goes (none_behind (Spelled names) last gs f))
      all (groups.input_indexed names spell text lengths forms src ins inputs fence counts env xs stands.0 all) goes tt))
  grid_fine counts env _ to w stands all goes = absurd stands
