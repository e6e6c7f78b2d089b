-- The indices of loads and stores, and the bounds of loops, in the printer's code of a whole term.
use Rattle.std.proofs.Common.{ℕ, suc, ◌+◌, Bool, true, false, List, [], ◌∷◌, Option}
use Rattle.size_arith.specs.declared.names.Name.{Name}
use Rattle.lift_tree.specs.declared.term.Level.TheVariants.{Launch}
use Rattle.lift_tree.specs.declared.term.Dimension.TheVariants.{X, Y}
use Rattle.kernel_tree.specs.Formula.{Formula, Number, LoopVariable}
use Rattle.kernel_tree.specs.Code.{Private, Code, End, Loops}
use Rattle.lift_ir.specs.Forms.{Stands, StandsAlongRow, StandsOverLaunch}
use Rattle.lift_ir.specs.Types.{Shape}
use Rattle.lift_ir.specs.Terms.{LoadSet, Kind, Over, Sequential, PrivateMemory, Term, Bound, Source, Both, Project, Reshape, LetArray, LetElement, Map, Fold, Store, Copy, push}
use Rattle.index_expr.specs.Expression.{Expression, Literal, short_nodes}
use Rattle.printed_form.specs.Arguments.{argument_view, private_arrays}
use Rattle.printed_form.specs.Counts.{Count, more, held_count, let_variables, load_count, variable_count, private_count}
use Rattle.printed_form.specs.Expressions.{Expr}
use Rattle.printed_form.specs.Form.{start_of, stride_of}
use Rattle.printed_form.specs.MapForms.{Looped}
use Rattle.printed_form.specs.Views.{View, held_sign, held_view, loaded_view, view_at, rewritten_view, laid_view}
use Rattle.printed_form.specs.Printer.{sign_exprs, print_assigned, print_element, print_stored, print_loaded, print_fold_turn, print_argument, print_written}
use Rattle.printed_form.proofs.Arguments.{stands_argument}
use Rattle.group_form.specs.Printer.{print_turns_from}
use Rattle.group_form.specs.GridTerms.{GridForms}
use Rattle.tidy_printed.specs.Indices.{indices_then}
use Rattle.tidy_printed.specs.Limits.{IndexNodes, no_index, at_one_node, after_loads, load_limits, store_limits, array_nodes, written_through, argument_nodes, element_nodes, argument_limits, written_limits}
use Rattle.tidy_printed.proofs.Formulas.{Spelled, spelled_number, index_number, index_loop}
use Rattle.tidy_printed.proofs.Views.{IsIndexed, turned_indexed, held_indexed, written_indexed, placed_indexed}
use Rattle.tidy_printed.proofs.Codes.{Fits, AreIndexed, pushed, assigned_fine, stored_fine, element_fine, turn_fine, turns_fine, map_fine}
use Rattle.tidy_printed.proofs.Arguments.{argument_indexed}

module _ (names : List Name) {A : Type 0} (spell : A → Expression) (text : A → Formula) (lengths : (n : A) → Spelled names (short_nodes (spell n)) (text n)) (forms : GridForms A) (src : ℕ → Shape A) (ins : ℕ → View) (inputs : (v : ℕ) → IsIndexed names (array_nodes spell (src v)) (ins v)) where
  abbrev viewed : (ℕ → View) → ℕ → Term A → View
  viewed env a t = argument_view private_arrays text ins env a t

  abbrev counted : (ℕ → IndexNodes) → Term A → IndexNodes
  counted counts t = argument_nodes spell forms src counts t

  abbrev argued : (ℕ → IndexNodes) → Term A → List ℕ → List ℕ
  argued counts t limits = argument_limits spell forms src counts t limits

  abbrev written : (ℕ → IndexNodes) → Term A → IndexNodes → List ℕ → List ℕ
  written counts t to limits = written_limits spell forms src counts t to limits

  abbrev Views : (ℕ → IndexNodes) → (ℕ → View) → Type 0
  Views counts env = AreIndexed names counts env

  abbrev Right : List ℕ → Code → List Formula → Type 0
  Right limits c fs = Fits names limits c fs

  viewed_indexed : (counts : ℕ → IndexNodes) (env : ℕ → View) (a : ℕ) (t : Term A) → Stands false t → Views counts env → IsIndexed names (counted counts t) (viewed env a t)
  viewed_indexed counts env a t stands all = argument_indexed names private_arrays spell text lengths forms src ins inputs counts env a t (stands_argument t stands) all

  -- a map by turns of one work-item, whose argument and body are so wherever they stand
  loop_fine : (kind : Kind) (d : ℕ) (counts : ℕ → IndexNodes) (env : ℕ → View) (a : ℕ) (n : Count) (m : A) (ls : LoadSet) (x b : Term A) (to : IndexNodes) (w : View) (rest : Code) (limits : List ℕ) (fs : List Formula)
      → ((code : Code) (inside : List ℕ) → Right inside code fs → Right (argued counts x inside) (print_argument text ins d env a n x code) fs)
      → ((counts : ℕ → IndexNodes) (env : ℕ → View) (a : ℕ) (n : Count) (to : IndexNodes) (w : View) (last : Code) (gs : List Formula) → Views counts env → IsIndexed names to w → Right limits last gs → Right (written counts b to limits) (print_written text ins (suc d) env a n b w last) gs)
      → Stands false x → Views counts env → IsIndexed names to w → Right limits rest fs
      → Right (argued counts x (short_nodes (spell m) ∷ load_limits ls (element_nodes spell forms src counts x) (written (push (after_loads ls (element_nodes spell forms src counts x)) counts) b (at_one_node to) limits))) (print_written text ins d env a n (Map kind m ls x b) w rest) fs
  loop_fine kind d counts env a n m ls x b to w rest limits fs argument body stands all goes f =
      let start = more n (variable_count x) in
      let inside : (ℕ → IndexNodes) → IndexNodes → List ℕ = λ counts to. written counts b to limits in
      let code : (ℕ → View) → View → Code → Code = λ env w last. print_written text ins (suc d) env (a + private_count x) (more start (load_count ls)) b w last in
      let at = element_nodes spell forms src counts x in
      let element = view_at (LoopVariable d) (viewed env a x) in
      argument (Loops (start_of kind) (text m) (stride_of kind) (print_loaded ls element start (code (push (loaded_view ls element start) env) (view_at (LoopVariable d) w) End)) rest) (short_nodes (spell m) ∷ load_limits ls at (inside (push (after_loads ls at) counts) (at_one_node to)))
      (map_fine names Looped (LoopVariable d) (print_turns_from Looped (start_of kind) (stride_of kind) (text m)) (short_nodes (spell m)) start ls counts env (counted counts x) to (viewed env a x) w inside code rest limits fs
      (index_loop names d) (turns_fine names Looped (start_of kind) (stride_of kind) (short_nodes (spell m)) (text m) (lengths m)) (λ counts env. body counts env (a + private_count x) (more start (load_count ls))) all (viewed_indexed counts env a x stands all) goes f)

  mutual
    pub argument_fine : (d : ℕ) (counts : ℕ → IndexNodes) (env : ℕ → View) (a : ℕ) (n : Count) (t : Term A) (rest : Code) (limits : List ℕ) (fs : List Formula) → Stands false t → Views counts env → Right limits rest fs → Right (argued counts t limits) (print_argument text ins d env a n t rest) fs
    argument_fine d counts env a n (Bound v) rest limits fs stands all f = f
    argument_fine d counts env a n (Source v) rest limits fs stands all f = f
    argument_fine d counts env a n (Both zips x y) rest limits fs stands all f =
        argument_fine d counts env a n x (print_argument text ins d env (a + private_count x) (more n (variable_count x)) y rest) (argued counts y limits) fs stands.0 all
        (argument_fine d counts env (a + private_count x) (more n (variable_count x)) y rest limits fs stands.1 all f)
    argument_fine d counts env a n (Project s x) rest limits fs stands all f = argument_fine d counts env a n x rest limits fs stands all f
    argument_fine d counts env a n (Reshape y x) rest limits fs stands all f = argument_fine d counts env a n x rest limits fs stands all f
    argument_fine d counts env a n (LetArray v b) rest limits fs stands all f =
        let inner = push (viewed env a v) env in
        let within = push (counted counts v) counts in
        argument_fine d counts env a n v (print_argument text ins d inner (a + private_count v) (more n (variable_count v)) b rest) (argued within b limits) fs stands.0 all
        (argument_fine d within inner (a + private_count v) (more n (variable_count v)) b rest limits fs stands.1 (pushed names counts env (counted counts v) (viewed env a v) (viewed_indexed counts env a v stands.0 all) all) f)
    argument_fine d counts env a n (Copy PrivateMemory ty x) rest limits fs stands all f =
        written_fine d counts env a n x (array_nodes Literal ty) (laid_view Private (a + private_count x) ty) rest limits fs stands all (placed_indexed names Literal Number (spelled_number names) Private (a + private_count x) ty) f
    argument_fine d counts env a n _ rest limits fs stands all f = absurd stands

    pub written_fine : (d : ℕ) (counts : ℕ → IndexNodes) (env : ℕ → View) (a : ℕ) (n : Count) (t : Term A) (to : IndexNodes) (w : View) (rest : Code) (limits : List ℕ) (fs : List Formula) → Stands true t → Views counts env → IsIndexed names to w → Right limits rest fs → Right (written counts t to limits) (print_written text ins d env a n t w rest) fs
    written_fine d counts env a n (Store ty x) to w rest limits fs stands all goes f =
        element_fine names (store_limits ty to limits) fs n env x (print_stored ty (sign_exprs env n x) w rest) (stored_fine names ty (sign_exprs env n x) to w rest limits fs goes f)
    written_fine d counts env a n (Reshape y x) to w rest limits fs stands all goes f =
        written_fine d counts env a n x (written_through spell y to) (rewritten_view text y w) rest limits fs stands.1 all (written_indexed names spell text lengths y to w goes) f
    written_fine d counts env a n (LetArray v b) to w rest limits fs stands all goes f =
        let inner = push (viewed env a v) env in
        let within = push (counted counts v) counts in
        argument_fine d counts env a n v (print_written text ins d inner (a + private_count v) (more n (variable_count v)) b w rest) (written within b to limits) fs stands.0 all
        (written_fine d within inner (a + private_count v) (more n (variable_count v)) b to w rest limits fs stands.1 (pushed names counts env (counted counts v) (viewed env a v) (viewed_indexed counts env a v stands.0 all) all) goes f)
    written_fine d counts env a n (LetElement ty v b) to w rest limits fs stands all goes f =
        let inner = push (held_view ty (more n (let_variables v))) env in
        let within = push no_index counts in
        let after = print_written text ins d inner a (more (more n (let_variables v)) (held_count ty)) b w rest in
        element_fine names (written within b to limits) fs n env v (print_assigned ty (sign_exprs env n v) (more n (let_variables v)) after)
        (assigned_fine names (written within b to limits) fs ty (sign_exprs env n v) (more n (let_variables v)) after
        (written_fine d within inner a (more (more n (let_variables v)) (held_count ty)) b to w rest limits fs stands (pushed names counts env no_index (held_view ty (more n (let_variables v))) (held_indexed names ty (more n (let_variables v))) all) goes f))
    written_fine d counts env a n (Map Sequential m ls x b) to w rest limits fs stands all goes f =
        loop_fine Sequential d counts env a n m ls x b to w rest limits fs (λ code inside r. argument_fine d counts env a n x code inside fs stands.0 all r)
        (λ counts env a n to w last gs all goes f. written_fine (suc d) counts env a n b to w last limits gs stands.1 all goes f) stands.0 all goes f
    written_fine d counts env a n (Fold m ls ty x s b) to w rest limits fs stands all goes f =
        let start = more n (variable_count x) in
        let acc = more start (let_variables s) in
        let element = view_at (LoopVariable d) (viewed env a x) in
        let held : List Bool → Option Expr = λ cs. held_sign (held_view ty acc cs []) in
        let after = print_stored ty held (view_at (Number 0) w) rest in
        let at = element_nodes spell forms src counts x in
        let stored = store_limits ty (at_one_node to) limits in
        let inside = short_nodes (spell m) ∷ load_limits ls at stored in
        let loop = Loops (start_of Sequential) (text m) (stride_of Sequential) (print_fold_turn env ls ty element acc b) after in
        argument_fine d counts env a n x (print_element env start s (print_assigned ty (sign_exprs env start s) acc loop)) inside fs stands all
        (element_fine names inside fs start env s (print_assigned ty (sign_exprs env start s) acc loop)
        (assigned_fine names inside fs ty (sign_exprs env start s) acc loop (
          lengths m,
          turn_fine names env ls ty at element acc b stored (indices_then after fs) (turned_indexed names (LoopVariable d) (counted counts x) (viewed env a x) (index_loop names d) (viewed_indexed counts env a x stands all))
              (stored_fine names ty held (at_one_node to) (view_at (Number 0) w) rest limits fs (turned_indexed names (Number 0) to w (index_number names 0) goes) f),
        )))
    written_fine d counts env a n _ to w rest limits fs stands all goes f = absurd stands

  -- ---- over the launch
  row_fine : (d : ℕ) (counts : ℕ → IndexNodes) (env : ℕ → View) (a : ℕ) (n : Count) (t : Term A) (to : IndexNodes) (w : View) (rest : Code) (limits : List ℕ) (fs : List Formula) → StandsAlongRow t → Views counts env → IsIndexed names to w → Right limits rest fs → Right (written counts t to limits) (print_written text ins d env a n t w rest) fs
  row_fine d counts env a n (Reshape y x) to w rest limits fs stands all goes f =
      row_fine d counts env a n x (written_through spell y to) (rewritten_view text y w) rest limits fs stands.1 all (written_indexed names spell text lengths y to w goes) f
  row_fine d counts env a n (Map (Over Launch X) m ls x b) to w rest limits fs stands all goes f =
      loop_fine (Over Launch X) d counts env a n m ls x b to w rest limits fs (λ code inside r. argument_fine d counts env a n x code inside fs stands.0 all r)
      (λ counts env a n to w last gs all goes f. written_fine (suc d) counts env a n b to w last limits gs stands.1 all goes f) stands.0 all goes f
  row_fine d counts env a n _ to w rest limits fs stands all goes f = absurd stands

  pub launch_fine : (d : ℕ) (counts : ℕ → IndexNodes) (env : ℕ → View) (a : ℕ) (n : Count) (t : Term A) (to : IndexNodes) (w : View) (rest : Code) (limits : List ℕ) (fs : List Formula) → StandsOverLaunch t → Views counts env → IsIndexed names to w → Right limits rest fs → Right (written counts t to limits) (print_written text ins d env a n t w rest) fs
  launch_fine d counts env a n (Reshape y x) to w rest limits fs stands all goes f =
      launch_fine d counts env a n x (written_through spell y to) (rewritten_view text y w) rest limits fs stands.1 all (written_indexed names spell text lengths y to w goes) f
  launch_fine d counts env a n (LetArray v b) to w rest limits fs stands all goes f =
      let inner = push (viewed env a v) env in
      let within = push (counted counts v) counts in
      argument_fine d counts env a n v (print_written text ins d inner (a + private_count v) (more n (variable_count v)) b w rest) (written within b to limits) fs stands.0 all
      (launch_fine d within inner (a + private_count v) (more n (variable_count v)) b to w rest limits fs stands.1 (pushed names counts env (counted counts v) (viewed env a v) (viewed_indexed counts env a v stands.0 all) all) goes f)
  launch_fine d counts env a n (Map (Over Launch X) m ls x b) to w rest limits fs stands all goes f = row_fine d counts env a n (Map (Over Launch X) m ls x b) to w rest limits fs stands all goes f
  launch_fine d counts env a n (Map (Over Launch Y) m ls x b) to w rest limits fs stands all goes f =
      loop_fine (Over Launch Y) d counts env a n m ls x b to w rest limits fs (λ code inside r. argument_fine d counts env a n x code inside fs stands.0 all r)
      (λ counts env a n to w last gs all goes f. row_fine (suc d) counts env a n b to w last limits gs stands.1 all goes f) stands.0 all goes f
  launch_fine d counts env a n _ to w rest limits fs stands all goes f = absurd stands
