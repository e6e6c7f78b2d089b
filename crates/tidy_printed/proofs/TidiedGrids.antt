-- Tidied, a map over work-groups in two dimensions is what it was printed for.
use Rattle.std.proofs.Common.{◌≡◌, ℕ, zero, suc, ◌+◌, ◌*◌, ◌/◌, ◌%◌, ◌<◌, Bool, true, List, [], ◌∷◌, Some, ap, ◌∙◌, arith}
use Rattle.std.proofs.Math.Nat.{mod-lt, div-lt_iff_lt-mul}
use Rattle.size_arith.specs.declared.poly.Monomial.{Monomial}
use Rattle.lift_tree.specs.declared.term.Level.TheVariants.{Groups, Items}
use Rattle.lift_tree.specs.declared.term.Dimension.TheVariants as dimension
use Rattle.kernel_tree.specs.declared.tree.Dimension.TheVariants.{X, Y}
use Rattle.kernel_tree.specs.Formula.{Formula, bound_value}
use Rattle.kernel_tree.specs.Code.{Local as LocalArray, FromGroupId, FromLocalId, ByGroupCount, ByLocalSize, Code, End}
use Rattle.kernel_tree.specs.Launch.{Launch, item_count, ids_of}
use Rattle.barrier_placement.specs.Fencing.{Fencing}
use Rattle.lift_ir.specs.Layouts.{result_position}
use Rattle.lift_ir.specs.Terms.{LoadSet, Over, LocalMemory, Term, Bound, Source, Both, Project, Reshape, LetArray, Map, Copy, push}
use Rattle.lift_ir.specs.Scalars.{at_index}
use Rattle.printed_form.specs.Arguments.{local_arrays, marks_in}
use Rattle.printed_form.specs.Counts.{Count, more, no_variables, load_count, variable_count, private_count, local_count}
use Rattle.printed_form.specs.MapForms.{MapForm, form_over_groups, variables_in}
use Rattle.printed_form.specs.Marks.{Marks, laid_in, loaded_marks}
use Rattle.printed_form.specs.Form.{IsLoaded, argument_marks}
use Rattle.group_phases.specs.GridPhases.{IsGroupRow, IsGroupColumn}
use Rattle.group_phases.specs.Grids.{Grid, places}
use Rattle.group_form.specs.Form.{Used, used_after}
use Rattle.group_form.specs.GridForm.{IsAlongRow, IsLocalNest, IsGridArgument, IsGridWritten, IsGridTurn, IsAlongGroups, IsOverGrid, around_row, around_turn}
use Rattle.group_form.specs.GridTerms.{GridForms}
use Rattle.group_form.specs.Stages.{marks_of}
use Rattle.group_form.specs.Uses.{phases_in}
use Rattle.tidy_indices.specs.Around.{Around, StandsIn}
use Rattle.tidy_indices.specs.Laws.{Change, KeepsValues}
use Rattle.tidy_kernels.specs.Pass.{tidied_code}
use Rattle.tidy_printed.specs.Terms.{TidiedGridCodesArePrinted}
use Rattle.tidy_printed.proofs.Statements.{statement_in, tidied_statement, entered, loaded, turns}
use Rattle.tidy_printed.proofs.TidiedGroups.{past}
use Rattle.tidy_printed.proofs.TidiedTerms.{body_stays, map_turns}

some_columns : (i rows columns : ℕ) → i < rows * columns → 0 < columns
some_columns i rows zero lt = absurd (omega arith)
some_columns i rows (suc columns) lt = omega arith

row_below : (i rows columns : ℕ) → i < rows * columns → i / columns < rows
row_below i rows columns lt = (div-lt_iff_lt-mul (some_columns i rows columns lt)).1 lt

column_below : (i rows columns : ℕ) → i < rows * columns → i % columns < columns
column_below i rows columns lt = mod-lt i (some_columns i rows columns lt)

module _ {A : Type 0} (num : A → ℕ) (forms : GridForms A) (l : Launch) (ins : ℕ → Marks) (tidy : Change) (keeps : KeepsValues tidy l) where
  along_row : (item : ℕ) → item < item_count l → (around : List Around) (ts : List ℕ) → StandsIn (ids_of l item) around ts → (k a : ℕ) (n : Count) (env : ℕ → Marks) (t : Term A) (w : Marks) (r : ℕ) (code rest : Code)
      → IsAlongRow num forms l ins item k a n env t w ts r code rest → IsAlongRow num forms l ins item k a n env t w ts r (tidied_code tidy around code) (tidied_code tidy around rest)
  along_row item here around ts stands k a n env (Reshape y t) w r code rest h = (h.0, along_row item here around ts stands k a n env t (λ cs p. w cs (result_position num y p)) r code rest h.1)
  along_row item here around ts stands k a n env (Map (Over Items dimension.X) m loads xs b) w r code rest h =
      map_turns l item ins num tidy keeps here around ts stands (forms.columns.local m) (FromLocalId X) (ByLocalSize X) (num m) env (a + private_count xs) (more n (variable_count xs)) loads (marks_in local_arrays num ins env k xs) w b code rest
      (body_stays l item ins num tidy keeps here b) h
  along_row item here around ts stands k a n env _ w r code rest h = absurd h

  -- within both maps over groups
  module _ (fence : ℕ → Fencing) (rows_once columns_once : Bool) (grid : Grid) (rows_bound columns_bound : Formula) (rows_is : bound_value l.sizes rows_bound ≡ Some grid.rows) (columns_is : bound_value l.sizes columns_bound ≡ Some grid.columns) where
    abbrev rows_form : MapForm
    rows_form = form_over_groups rows_once

    abbrev columns_form : MapForm
    columns_form = form_over_groups columns_once

    abbrev around : List Around
    around = statement_in rows_once (FromGroupId Y) rows_bound ∷ statement_in columns_once (FromGroupId X) columns_bound ∷ []

    abbrev tidied : Code → Code
    tidied = tidied_code tidy around

    abbrev turn_variables : ℕ → List ℕ
    turn_variables i = around_turn num forms l ins fence rows_form columns_form grid i

    stands : (item i : ℕ) → i < places grid → IsGroupRow l item (i / grid.columns) → IsGroupColumn l item (i % grid.columns) → StandsIn (ids_of l item) around (turn_variables i)
    stands item i lt row column =
        entered l item (statement_in rows_once (FromGroupId Y) rows_bound ∷ []) (around_row num forms l ins fence rows_form columns_form grid (i / grid.columns)) columns_once (FromGroupId X) (ByGroupCount X) columns_bound grid.columns (i % grid.columns)
        (entered l item [] [] rows_once (FromGroupId Y) (ByGroupCount Y) rows_bound grid.rows (i / grid.columns) tt rows_is (row_below i grid.rows grid.columns lt) row)
        columns_is (column_below i grid.rows grid.columns lt) column

    local_nest : (env : (turn var : ℕ) → Marks) (u : Used) (len : A) (loads : LoadSet) (marks : ℕ → Marks) (b : Term A) (w : ℕ → Marks) (code rest : Code)
        → IsLocalNest num forms l ins fence rows_form columns_form grid env u len loads marks b w code rest → IsLocalNest num forms l ins fence rows_form columns_form grid env u len loads marks b w (tidied code) (tidied rest)
    local_nest env u len loads marks b w code rest h = λ item i here lt row column.
        turns l item ins tidy keeps here around (turn_variables i) (stands item i lt row column) (forms.rows.local len) (FromLocalId Y) (ByLocalSize Y) (num len)
        (λ ts r before after. (mid : Code)
        × IsLoaded l item ins ts loads (at_index r (marks i)) u.variables before mid
        × IsAlongRow num forms l ins item u.locals u.privates (more u.variables (load_count loads))
        (push (loaded_marks loads (at_index r (marks i)) u.variables) (env i)) b (at_index r (w i))
        ts r mid after)
        code rest
        (λ inside ts at r before after turn. (
          tidied_code tidy inside turn.0,
          loaded l item ins tidy keeps here inside ts at loads (at_index r (marks i)) u.variables before turn.0 turn.1,
          along_row item here inside ts at u.locals u.privates (more u.variables (load_count loads)) (push (loaded_marks loads (at_index r (marks i)) u.variables) (env i)) b (at_index r (w i)) r turn.0 after turn.2,
        ))
        (h item i here lt row column)

    mutual
      grid_argument : (env : (turn var : ℕ) → Marks) (u : Used) (t : Term A) (code rest : Code)
          → IsGridArgument num forms l ins fence rows_form columns_form grid env u t code rest → IsGridArgument num forms l ins fence rows_form columns_form grid env u t (tidied code) (tidied rest)
      grid_argument env u (Bound v) code rest h = ap tidied h
      grid_argument env u (Source a) code rest h = ap tidied h
      grid_argument env u (Both true a b) code rest h = (tidied h.0, grid_argument env u a code h.0 h.1, grid_argument env (used_after u a) b h.0 rest h.2)
      grid_argument env u (Project s a) code rest h = grid_argument env u a code rest h
      grid_argument env u (Reshape y a) code rest h = grid_argument env u a code rest h
      grid_argument env u (LetArray v b) code rest h =
          (tidied h.0, grid_argument env u v code h.0 h.1, grid_argument (λ i. push (marks_of num ins env u.locals v i) (env i)) (used_after u v) b h.0 rest h.2)
      grid_argument env u (Copy LocalMemory ty a) code rest h = grid_written env u a (λ i. laid_in LocalArray (u.locals + local_count a) ty) code rest h
      grid_argument env u _ code rest h = absurd h

      grid_written : (env : (turn var : ℕ) → Marks) (u : Used) (t : Term A) (w : ℕ → Marks) (code rest : Code)
          → IsGridWritten num forms l ins fence rows_form columns_form grid env u t w code rest → IsGridWritten num forms l ins fence rows_form columns_form grid env u t w (tidied code) (tidied rest)
      grid_written env u (Reshape y t) w code rest h = (h.0, grid_written env u t (λ i cs p. w i cs (result_position num y p)) code rest h.1)
      grid_written env u (LetArray v b) w code rest h =
          (tidied h.0, grid_argument env u v code h.0 h.1, grid_written (λ i. push (marks_of num ins env u.locals v i) (env i)) (used_after u v) b w h.0 rest h.2)
      grid_written env u (Map (Over Items dimension.Y) n loads xs b) w code rest h = (
        tidied h.0,
        tidied h.1,
        grid_argument env u xs code h.0 h.2,
        past tidy around (fence (u.phases + phases_in xs)) h.0 h.1 h.3,
        local_nest env (used_after u xs) n loads (marks_of num ins env u.locals xs) b w h.1 rest h.4,
      )
      grid_written env u _ w code rest h = absurd h

    grid_turn : (n : Count) (env : (turn var : ℕ) → Marks) (loads : LoadSet) (marks : ℕ → Marks) (b : Term A) (w : ℕ → Marks) (code : Code)
        → IsGridTurn num forms l ins fence rows_form columns_form grid n env loads marks b w code → IsGridTurn num forms l ins fence rows_form columns_form grid n env loads marks b w (tidied code)
    grid_turn n env loads marks b w code h = (
      tidied h.0,
      tidied h.1,
      λ item i here lt row column. loaded l item ins tidy keeps here around (turn_variables i) (stands item i lt row column) loads (marks i) n code h.0 (h.2 item i here lt row column),
      grid_written (λ i. push (loaded_marks loads (marks i) n) (env i)) (record { locals = 0; privates = 0; variables = more n (load_count loads); phases = 0 }) b w h.0 h.1 h.3,
      past tidy around (fence (phases_in b)) h.1 End h.4,
    )

  -- within the map over rows of groups
  along_groups : (fence : ℕ → Fencing) (once : Bool) (rows : ℕ) (bound : Formula) → bound_value l.sizes bound ≡ Some rows → (n : Count) (env : (row var : ℕ) → Marks) (t : Term A) (w : ℕ → Marks) (code : Code)
      → IsAlongGroups num forms l ins fence (form_over_groups once) rows n env t w code
      → IsAlongGroups num forms l ins fence (form_over_groups once) rows n env t w (tidied_code tidy (statement_in once (FromGroupId Y) bound ∷ []) code)
  along_groups fence once rows bound is n env (Reshape y t) w code h = (h.0, along_groups fence once rows bound is n env t (λ r cs p. w r cs (result_position num y p)) code h.1)
  along_groups fence once rows bound is n env (Map (Over Groups dimension.X) m loads xs b) w code h =
      let above : List Around = statement_in once (FromGroupId Y) bound ∷ [] in (
        tidy [] h.0,
        tidied_code tidy (statement_in once (FromGroupId Y) bound ∷ statement_in (forms.columns.once m) (FromGroupId X) h.0 ∷ []) h.1,
        ap (tidied_code tidy above) h.2 ∙ tidied_statement tidy above (forms.columns.once m) (FromGroupId X) (ByGroupCount X) h.0 h.1,
        keeps.bound h.0 (num m) h.3,
        grid_turn fence once (forms.columns.once m) (record { rows = rows; columns = num m }) bound h.0 is h.3 n (λ i. env (i / num m)) loads
            (λ i. at_index (i % num m) (argument_marks l ins num (env (i / num m)) 0 xs)) b (λ i. at_index (i % num m) (w (i / num m))) h.1 h.4,
      )
  along_groups fence once rows bound is n env _ w code h = absurd h

  over_grid : (fence : ℕ → Fencing) (env : ℕ → Marks) (t : Term A) (w : Marks) (code : Code) → IsOverGrid num forms l ins fence env t w code → IsOverGrid num forms l ins fence env t w (tidied_code tidy [] code)
  over_grid fence env (Reshape y t) w code h = (h.0, over_grid fence env t (λ cs p. w cs (result_position num y p)) code h.1)
  over_grid fence env (LetArray v b) w code h = over_grid fence (push (argument_marks l ins num env 0 v) env) b w code h
  over_grid fence env (Map (Over Groups dimension.Y) n loads xs b) w code h =
      let once = forms.rows.once n in
      let x = argument_marks l ins num env 0 xs in
      let inside : List Around = statement_in once (FromGroupId Y) h.0 ∷ [] in (
        tidy [] h.0,
        tidied_code tidy inside h.1,
        tidied_code tidy inside h.2,
        ap (tidied_code tidy []) h.3 ∙ tidied_statement tidy [] once (FromGroupId Y) (ByGroupCount Y) h.0 h.1,
        keeps.bound h.0 (num n) h.4,
        λ item r here lt row.
            loaded l item ins tidy keeps here inside (variables_in (form_over_groups once) [] r) (entered l item [] [] once (FromGroupId Y) (ByGroupCount Y) h.0 (num n) r tt h.4 lt row) loads (at_index r x) no_variables h.1 h.2 (h.5 item r here lt row),
        along_groups fence once (num n) h.0 h.4 (load_count loads) (λ r. push (loaded_marks loads (at_index r x) no_variables) env) b (λ r. at_index r w) h.2 h.6,
      )
  over_grid fence env _ w code h = absurd h

pub code_is : TidiedGridCodesArePrinted (List Monomial)
code_is num forms l ins fence env tidy t to code keeps h = over_grid num forms l ins tidy keeps fence env t to code h
