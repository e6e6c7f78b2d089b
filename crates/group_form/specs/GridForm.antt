-- Which code is printed for a map over work-groups in two dimensions: two statements over groups,
-- the outer over rows, around phases that are nests of two local maps.
use Rattle.std.specs.Prelude.{◌≡◌, ℕ, ◌+◌, ◌/◌, ◌%◌, ◌<◌, true, List, []}
use Rattle.lift_tree.specs.declared.term.Level.TheVariants.{Groups, Items}
use Rattle.lift_tree.specs.declared.term.Dimension.TheVariants.{X, Y}
use Rattle.kernel_tree.specs.Formula.{Formula}
use Rattle.kernel_tree.specs.Code.{Local as LocalArray, Code, End}
use Rattle.kernel_tree.specs.Launch.{Launch, item_count}
use Rattle.barrier_placement.specs.Fencing.{Fencing}
use Rattle.lift_ir.specs.Layouts.{result_position, IsInvertible}
use Rattle.lift_ir.specs.Terms.{LoadSet, Over, LocalMemory, Term, Bound, Source, Both, Project, Reshape, LetArray, Map, Copy, push}
use Rattle.lift_ir.specs.Scalars.{at_index}
use Rattle.printed_form.specs.Arguments.{marks_in, local_arrays}
use Rattle.printed_form.specs.Counts.{Count, more, no_variables, load_count, variable_count, private_count, local_count}
use Rattle.printed_form.specs.Marks.{Marks, laid_in, loaded_marks}
use Rattle.printed_form.specs.Form.{IsLength, IsLoaded, argument_marks, IsWritten}
use Rattle.printed_form.specs.MapForms.{MapForm, form_over_groups, statement_over_groups, variables_in, TurnCode, AreTurns}
use Rattle.group_phases.specs.Epochs.{IsPast}
use Rattle.group_phases.specs.GridPhases.{IsGroupRow, IsGroupColumn}
use Rattle.group_phases.specs.Grids.{Grid, places}
use Rattle.group_form.specs.Form.{Used, used_after}
use Rattle.group_form.specs.GridTerms.{GridForms}
use Rattle.group_form.specs.Stages.{marks_of}
use Rattle.group_form.specs.Uses.{phases_in}

module _ {A : Type 0} (num : A → ℕ) (forms : GridForms A) (l : Launch) (ins : ℕ → Marks) where
  -- a map along a row of a group, through layouts, as this item runs it in loops with these
  -- variables: where its argument's first local array, its first
  -- private array and variable are these
  abbrev pub IsAlongRow : (item : ℕ) → (locals privates : ℕ) → (variables : Count)
      → (env : ℕ → Marks) → Term A → (to : Marks) → TurnCode
  IsAlongRow item k a n env (Reshape y t) w ts r code rest =
      IsInvertible y
      × IsAlongRow item k a n env t (λ cs p. w cs (result_position num y p)) ts r code rest
  IsAlongRow item k a n env (Map (Over Items X) m loads xs b) w ts r code rest =
      AreTurns l item ins (forms.columns.local m) (Over Items X) ts (num m)
      (λ us j before after. (inner : Code)
      × IsLoaded l item ins us loads (at_index j (marks_in local_arrays num ins env k xs))
      (more n (variable_count xs)) before inner
      × IsWritten l item ins num us
      (push
      (loaded_marks loads (at_index j (marks_in local_arrays num ins env k xs))
      (more n (variable_count xs))) env) (a + private_count xs)
      (more (more n (variable_count xs)) (load_count loads)) b
      (at_index j w) inner after)
      code rest
  IsAlongRow item k a n env _ w ts r code rest = ⊥

  -- what stands before each phase, the forms of the maps over groups, and their grid
  module _ (fence : ℕ → Fencing) (rows_form columns_form : MapForm) (grid : Grid) where
    -- the variables of the loops around a row, and around a turn
    abbrev pub around_row : (row : ℕ) → List ℕ
    around_row r = variables_in rows_form [] r

    abbrev pub around_turn : (turn : ℕ) → List ℕ
    around_turn i = variables_in columns_form (around_row (i / grid.columns)) (i % grid.columns)

    -- each item at its group's turns
    abbrev pub AtTurns : ((item i : ℕ) → Type 0) → Type 0
    AtTurns P =
        (item i : ℕ) → item < item_count l → i < places grid
        → IsGroupRow l item (i / grid.columns) → IsGroupColumn l item (i % grid.columns)
        → P item i

    -- a local map over rows around one along a row, over what stands for its argument at each turn,
    -- as each item runs it at its group's turns
    abbrev pub IsLocalNest : ((turn var : ℕ) → Marks) → Used → (len : A) → LoadSet
        → (marks : ℕ → Marks) → (body : Term A) → (to : ℕ → Marks) → (code rest : Code) → Type 0
    IsLocalNest env u len loads marks b w code rest =
        AtTurns
        (λ item i. AreTurns l item ins (forms.rows.local len) (Over Items Y) (around_turn i)
        (num len)
        (λ ts r before after. (mid : Code)
        × IsLoaded l item ins ts loads (at_index r (marks i)) u.variables before mid
        × IsAlongRow item u.locals u.privates (more u.variables (load_count loads))
        (push (loaded_marks loads (at_index r (marks i)) u.variables) (env i)) b (at_index r (w i))
        ts r mid after)
        code rest)

    abbrev mutual
      -- an argument's copies to local memory
      pub IsGridArgument : ((turn var : ℕ) → Marks) → Used → Term A → (code rest : Code) → Type 0
      IsGridArgument env u (Bound v) code rest = code ≡ rest
      IsGridArgument env u (Source a) code rest = code ≡ rest
      IsGridArgument env u (Both true a b) code rest =
          (mid : Code) × IsGridArgument env u a code mid
          × IsGridArgument env (used_after u a) b mid rest
      IsGridArgument env u (Project s a) code rest = IsGridArgument env u a code rest
      IsGridArgument env u (Reshape y a) code rest = IsGridArgument env u a code rest
      IsGridArgument env u (LetArray v b) code rest =
          (mid : Code) × IsGridArgument env u v code mid
          × IsGridArgument (λ i. push (marks_of num ins env u.locals v i) (env i))
          (used_after u v) b mid rest
      IsGridArgument env u (Copy LocalMemory ty a) code rest =
          IsGridWritten env u a (λ i. laid_in LocalArray (u.locals + local_count a) ty) code rest
      IsGridArgument env u _ code rest = ⊥

      -- a term in writing position, which goes to w
      pub IsGridWritten : ((turn var : ℕ) → Marks) → Used → Term A → (to : ℕ → Marks)
          → (code rest : Code) → Type 0
      IsGridWritten env u (Reshape y t) w code rest =
          IsInvertible y
          × IsGridWritten env u t (λ i cs p. w i cs (result_position num y p)) code rest
      IsGridWritten env u (LetArray v b) w code rest =
          (mid : Code) × IsGridArgument env u v code mid
          × IsGridWritten (λ i. push (marks_of num ins env u.locals v i) (env i))
          (used_after u v) b w mid rest
      IsGridWritten env u (Map (Over Items Y) n loads xs b) w code rest =
          (mid mid2 : Code) × IsGridArgument env u xs code mid
          × IsPast (fence (u.phases + phases_in xs)) mid mid2
          × IsLocalNest env (used_after u xs) n loads (marks_of num ins env u.locals xs) b w mid2
          rest
      IsGridWritten env u _ w code rest = ⊥

    -- a turn: the loads of its element into variables from this on, the body's phases, and what
    -- closes
    abbrev pub IsGridTurn : (first : Count) → (env : (turn var : ℕ) → Marks) → LoadSet
        → (marks : (turn : ℕ) → Marks) → (body : Term A) → (to : (turn : ℕ) → Marks) → Code
        → Type 0
    IsGridTurn n env loads marks b w code =
        (first last : Code)
        × AtTurns (λ item i. IsLoaded l item ins (around_turn i) loads (marks i) n code first)
        × IsGridWritten (λ i. push (loaded_marks loads (marks i) n) (env i))
        (record { locals = 0; privates = 0; variables = more n (load_count loads); phases = 0 }) b
        w first last
        × IsPast (fence (phases_in b)) last End

  -- a map over the groups of a row, through layouts, where a row's loads are in variables below n
  abbrev pub IsAlongGroups : (fence : ℕ → Fencing) → (rows_form : MapForm) → (rows : ℕ)
      → (n : Count) → (env : (row var : ℕ) → Marks) → Term A → (to : (row : ℕ) → Marks) → Code
      → Type 0
  IsAlongGroups fence rf rows n env (Reshape y t) w code =
      IsInvertible y
      × IsAlongGroups fence rf rows n env t (λ r cs p. w r cs (result_position num y p)) code
  IsAlongGroups fence rf rows n env (Map (Over Groups X) m loads xs b) w code =
      (bound : Formula) × (body : Code)
      × (code ≡ statement_over_groups X (forms.columns.once m) bound body)
      × IsLength l ins bound (num m)
      × IsGridTurn fence rf (form_over_groups (forms.columns.once m))
      (record { rows = rows; columns = num m }) n (λ i. env (i / num m)) loads
      (λ i. at_index (i % num m) (argument_marks l ins num (env (i / num m)) 0 xs)) b
      (λ i. at_index (i % num m) (w (i / num m))) body
  IsAlongGroups fence rf rows n env _ w code = ⊥

  -- a map over rows of groups, through layouts and lets of inputs
  abbrev pub IsOverGrid : (fence : ℕ → Fencing) → (ℕ → Marks) → Term A → (to : Marks) → Code
      → Type 0
  IsOverGrid fence env (Reshape y t) w code =
      IsInvertible y × IsOverGrid fence env t (λ cs p. w cs (result_position num y p)) code
  IsOverGrid fence env (LetArray v b) w code =
      IsOverGrid fence (push (argument_marks l ins num env 0 v) env) b w code
  IsOverGrid fence env (Map (Over Groups Y) n loads xs b) w code =
      (bound : Formula) × (body mid : Code)
      × (code ≡ statement_over_groups Y (forms.rows.once n) bound body)
      × IsLength l ins bound (num n)
      × ((item r : ℕ) → item < item_count l → r < num n → IsGroupRow l item r
      → IsLoaded l item ins (variables_in (form_over_groups (forms.rows.once n)) [] r) loads
      (at_index r (argument_marks l ins num env 0 xs)) no_variables body mid)
      × IsAlongGroups fence (form_over_groups (forms.rows.once n)) (num n) (load_count loads)
      (λ r. push
      (loaded_marks loads (at_index r (argument_marks l ins num env 0 xs)) no_variables) env) b
      (λ r. at_index r w) mid
  IsOverGrid fence env _ w code = ⊥
