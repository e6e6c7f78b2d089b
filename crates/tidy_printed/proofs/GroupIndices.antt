-- The indices of loads and stores, and the bounds of loops, in the code of a map over work-groups.
use Rattle.std.proofs.Common.{ℕ, ◌+◌, Bool, true, false, List, []}
use Rattle.size_arith.specs.declared.names.Name.{Name}
use Rattle.lift_tree.specs.declared.term.Level.TheVariants.{Groups, Items}
use Rattle.lift_tree.specs.declared.term.Dimension.TheVariants as dimension
use Rattle.kernel_tree.specs.declared.tree.Dimension.TheVariants.{X}
use Rattle.kernel_tree.specs.Formula.{Formula, Number}
use Rattle.kernel_tree.specs.Code.{Local as LocalArray, FromGroupId, FromLocalId, ByGroupCount, ByLocalSize, Code, End}
use Rattle.barrier_placement.specs.Fencing.{Fencing, Open, Fenced}
use Rattle.lift_ir.specs.Types.{Shape}
use Rattle.lift_ir.specs.Terms.{Over, LocalMemory, Term, Bound, Source, Both, Project, Reshape, LetArray, Map, Copy, push}
use Rattle.index_expr.specs.Expression.{Expression, Literal, short_nodes}
use Rattle.printed_form.specs.Arguments.{argument_view, private_arrays, local_arrays}
use Rattle.printed_form.specs.Counts.{more, no_variables, load_count, local_count}
use Rattle.printed_form.specs.MapForms.{form_over_groups, statement_over_groups}
use Rattle.printed_form.specs.Views.{View, loaded_view, view_at, rewritten_view, laid_view}
use Rattle.printed_form.specs.Printer.{print_loaded, print_written}
use Rattle.printed_form.proofs.Arguments.{stands_argument}
use Rattle.group_phases.specs.Epochs.{fenced}
use Rattle.group_form.specs.Form.{Used, used_after}
use Rattle.group_form.specs.Forms.{IsOfInputs, StandsInGroup, StandsOverGroups}
use Rattle.group_form.specs.GridTerms.{GridForms}
use Rattle.group_form.specs.Uses.{phases_in}
use Rattle.group_form.specs.Printer.{turn_formula, depth_in, print_turns, print_local_map, print_group_argument, print_group_written, print_groups}
use Rattle.group_form.proofs.Arguments.{group_argument, inputs_stand}
use Rattle.tidy_printed.specs.Indices.{EachWithin, indices_then}
use Rattle.tidy_printed.specs.Limits.{IndexNodes, at_one_node, after_loads, load_limits, bound_limit, array_nodes, written_through, argument_nodes, element_nodes, argument_limits, written_limits}
use Rattle.tidy_printed.proofs.Formulas.{Spelled, spelled_number, index_group, index_local}
use Rattle.tidy_printed.proofs.Views.{IsIndexed, written_indexed, placed_indexed}
use Rattle.tidy_printed.proofs.Codes.{Fits, AreIndexed, pushed, turn_is_index, turns_fine, map_fine}
use Rattle.tidy_printed.proofs.Arguments.{argument_indexed}
use Rattle.tidy_printed.proofs.TermIndices as terms

module _ (names : List Name) {A : Type 0} (spell : A → Expression) (text : A → Formula) (lengths : (n : A) → Spelled names (short_nodes (spell n)) (text n)) (forms : GridForms A) (src : ℕ → Shape A) (ins : ℕ → View) (inputs : (v : ℕ) → IsIndexed names (array_nodes spell (src v)) (ins v)) (fence : ℕ → Fencing) where
  abbrev viewed : (ℕ → View) → ℕ → Term A → View
  viewed env a t = argument_view local_arrays text ins env a t

  abbrev counted : (ℕ → IndexNodes) → Term A → IndexNodes
  counted counts t = argument_nodes spell forms src counts t

  abbrev argued : (ℕ → IndexNodes) → Term A → List ℕ → List ℕ
  argued counts t limits = argument_limits spell forms src counts t limits

  abbrev written : (ℕ → IndexNodes) → Term A → IndexNodes → List ℕ → List ℕ
  written counts t to limits = written_limits spell forms src counts t to limits

  abbrev Views : (ℕ → IndexNodes) → (ℕ → View) → Type 0
  Views counts env = AreIndexed names counts env

  abbrev Right : List ℕ → Code → List Formula → Type 0
  Right limits c fs = Fits names limits c fs

  viewed_indexed : (counts : ℕ → IndexNodes) (env : ℕ → View) (a : ℕ) (t : Term A) → StandsInGroup false t → Views counts env → IsIndexed names (counted counts t) (viewed env a t)
  viewed_indexed counts env a t stands all = argument_indexed names local_arrays spell text lengths forms src ins inputs counts env a t (group_argument t stands) all

  pub fence_fine : (x : Fencing) (rest : Code) (limits : List ℕ) (fs : List Formula) → Right limits rest fs → Right limits (fenced x rest) fs
  fence_fine Open rest limits fs f = f
  fence_fine (Fenced a b) rest limits fs f = f

  mutual
    argument_fine : (d : ℕ) (counts : ℕ → IndexNodes) (env : ℕ → View) (u : Used) (t : Term A) (rest : Code) (limits : List ℕ) (fs : List Formula) → StandsInGroup false t → Views counts env → Right limits rest fs → Right (argued counts t limits) (print_group_argument text forms.columns ins fence d env u t rest) fs
    argument_fine d counts env u (Bound v) rest limits fs stands all f = f
    argument_fine d counts env u (Source v) rest limits fs stands all f = f
    argument_fine d counts env u (Both true x y) rest limits fs stands all f =
        argument_fine d counts env u x (print_group_argument text forms.columns ins fence d env (used_after u x) y rest) (argued counts y limits) fs stands.0 all (argument_fine d counts env (used_after u x) y rest limits fs stands.1 all f)
    argument_fine d counts env u (Project s x) rest limits fs stands all f = argument_fine d counts env u x rest limits fs stands all f
    argument_fine d counts env u (Reshape y x) rest limits fs stands all f = argument_fine d counts env u x rest limits fs stands all f
    argument_fine d counts env u (LetArray v b) rest limits fs stands all f =
        let inner = push (viewed env u.locals v) env in
        let within = push (counted counts v) counts in
        argument_fine d counts env u v (print_group_argument text forms.columns ins fence d inner (used_after u v) b rest) (argued within b limits) fs stands.0 all
        (argument_fine d within inner (used_after u v) b rest limits fs stands.1 (pushed names counts env (counted counts v) (viewed env u.locals v) (viewed_indexed counts env u.locals v stands.0 all) all) f)
    argument_fine d counts env u (Copy LocalMemory ty x) rest limits fs stands all f =
        written_fine d counts env u x (array_nodes Literal ty) (laid_view LocalArray (u.locals + local_count x) ty) rest limits fs stands all (placed_indexed names Literal Number (spelled_number names) LocalArray (u.locals + local_count x) ty) f
    argument_fine d counts env u _ rest limits fs stands all f = absurd stands

    written_fine : (d : ℕ) (counts : ℕ → IndexNodes) (env : ℕ → View) (u : Used) (t : Term A) (to : IndexNodes) (w : View) (rest : Code) (limits : List ℕ) (fs : List Formula) → StandsInGroup true t → Views counts env → IsIndexed names to w → Right limits rest fs → Right (written counts t to limits) (print_group_written text forms.columns ins fence d env u t w rest) fs
    written_fine d counts env u (Reshape y x) to w rest limits fs stands all goes f =
        written_fine d counts env u x (written_through spell y to) (rewritten_view text y w) rest limits fs stands.1 all (written_indexed names spell text lengths y to w goes) f
    written_fine d counts env u (LetArray v b) to w rest limits fs stands all goes f =
        let inner = push (viewed env u.locals v) env in
        let within = push (counted counts v) counts in
        argument_fine d counts env u v (print_group_written text forms.columns ins fence d inner (used_after u v) b w rest) (written within b to limits) fs stands.0 all
        (written_fine d within inner (used_after u v) b to w rest limits fs stands.1 (pushed names counts env (counted counts v) (viewed env u.locals v) (viewed_indexed counts env u.locals v stands.0 all) all) goes f)
    written_fine d counts env u (Map (Over Items dimension.X) m ls x b) to w rest limits fs stands all goes f =
        let form = forms.columns.local m in
        let after = used_after u x in
        let variables = more after.variables (load_count ls) in
        let place = fence (u.phases + phases_in x) in
        let map = print_local_map text forms.columns ins fence d env after m ls (viewed env u.locals x) b w rest in
        let at = element_nodes spell forms src counts x in
        let inside = bound_limit form (short_nodes (spell m)) (load_limits ls at (written (push (after_loads ls at) counts) b (at_one_node to) limits)) in
        argument_fine d counts env u x (fenced place map) inside fs stands.0 all
        (fence_fine place map inside fs
        (map_fine names form (turn_formula form (Over Items dimension.X) d) (print_turns form (Over Items dimension.X) (text m)) (short_nodes (spell m)) after.variables ls counts env (counted counts x) to (viewed env u.locals x) w
        (λ counts to. written counts b to limits) (λ env w last. print_written text ins (depth_in form d) env after.privates variables b w last) rest limits fs
        (turn_is_index names form (FromLocalId X) d (index_local names X)) (turns_fine names form (FromLocalId X) (ByLocalSize X) (short_nodes (spell m)) (text m) (lengths m))
        (λ counts env to w last gs all goes f. terms.written_fine names spell text lengths forms src ins inputs (depth_in form d) counts env after.privates variables b to w last limits gs stands.1 all goes f)
        all (viewed_indexed counts env u.locals x stands.0 all) goes f))
    written_fine d counts env u _ to w rest limits fs stands all goes f = absurd stands

  -- ---- the map over work-groups
  statement_fine : (once : Bool) (bound : Formula) (turn : Code → Code) (limits : List ℕ) → Right limits (print_turns (form_over_groups once) (Over Groups dimension.X) bound turn End) [] → Right limits (statement_over_groups dimension.X once bound (turn End)) []
  statement_fine false bound turn limits f = f
  statement_fine true bound turn limits f = f

  -- nothing is printed for inputs
  pub nothing_printed : (counts : ℕ → IndexNodes) (t : Term A) (limits : List ℕ) (fs : List Formula) → IsOfInputs t → EachWithin (Spelled names) limits fs → EachWithin (Spelled names) (argued counts t limits) fs
  nothing_printed counts (Bound v) limits fs h f = f
  nothing_printed counts (Source v) limits fs h f = f
  nothing_printed counts (Both true x y) limits fs h f = nothing_printed counts x (argued counts y limits) fs h.0 (nothing_printed counts y limits fs h.1 f)
  nothing_printed counts (Project s x) limits fs h f = nothing_printed counts x limits fs h f
  nothing_printed counts (Reshape y x) limits fs h f = nothing_printed counts x limits fs h f
  nothing_printed counts (LetArray v b) limits fs h f =
      let within = push (counted counts v) counts in
      nothing_printed counts v (argued within b limits) fs h.0 (nothing_printed within b limits fs h.1 f)
  nothing_printed counts _ limits fs h f = absurd h

  abbrev pub input_view : (ℕ → View) → Term A → View
  input_view env t = argument_view private_arrays text ins env 0 t

  pub input_indexed : (counts : ℕ → IndexNodes) (env : ℕ → View) (t : Term A) → IsOfInputs t → Views counts env → IsIndexed names (counted counts t) (input_view env t)
  input_indexed counts env t h all = argument_indexed names private_arrays spell text lengths forms src ins inputs counts env 0 t (stands_argument t (inputs_stand t h)) all

  pub groups_fine : (counts : ℕ → IndexNodes) (env : ℕ → View) (t : Term A) (to : IndexNodes) (w : View) → StandsOverGroups t → Views counts env → IsIndexed names to w → Right (written counts t to []) (print_groups text forms.columns ins fence env t w) []
  groups_fine counts env (Reshape y t) to w stands all goes = groups_fine counts env t (written_through spell y to) (rewritten_view text y w) stands.1 all (written_indexed names spell text lengths y to w goes)
  groups_fine counts env (LetArray v b) to w stands all goes =
      let within = push (counted counts v) counts in
      let inner = push (input_view env v) env in
      nothing_printed counts v (written within b to []) (indices_then (print_groups text forms.columns ins fence inner b w) []) stands.0
      (groups_fine within inner b to w stands.1 (pushed names counts env (counted counts v) (input_view env v) (input_indexed counts env v stands.0 all) all) goes)
  groups_fine counts env (Map (Over Groups dimension.X) m ls xs b) to w stands all goes =
      let form = form_over_groups (forms.columns.once m) in
      let turn = turn_formula form (Over Groups dimension.X) 0 in
      let element = view_at turn (input_view env xs) in
      let u : Used = record { locals = 0; privates = 0; variables = load_count ls; phases = 0 } in
      let closing = fence (phases_in b) in
      let code : (ℕ → View) → View → Code → Code = λ env w last. print_group_written text forms.columns ins fence (depth_in form 0) env u b w (fenced closing last) in
      let body : Code → Code = λ last. print_loaded ls element no_variables (code (push (loaded_view ls element no_variables) env) (view_at turn w) last) in
      let at = element_nodes spell forms src counts xs in
      let limits = bound_limit form (short_nodes (spell m)) (load_limits ls at (written (push (after_loads ls at) counts) b (at_one_node to) [])) in
      nothing_printed counts xs limits (indices_then (statement_over_groups dimension.X (forms.columns.once m) (text m) (body End)) []) stands.0
      (statement_fine (forms.columns.once m) (text m) body limits
      (map_fine names form turn (print_turns form (Over Groups dimension.X) (text m)) (short_nodes (spell m)) no_variables ls counts env (counted counts xs) to (input_view env xs) w
      (λ counts to. written counts b to []) code End [] []
      (turn_is_index names form (FromGroupId X) 0 (index_group names X)) (turns_fine names form (FromGroupId X) (ByGroupCount X) (short_nodes (spell m)) (text m) (lengths m))
      (λ counts env to w last gs all goes f. written_fine (depth_in form 0) counts env u b to w (fenced closing last) [] gs stands.1 all goes (fence_fine closing last [] gs f))
      all (input_indexed counts env xs stands.0 all) goes tt))
  groups_fine counts env _ to w stands all goes = absurd stands
