-- Tidied, a map over work-groups is what it was printed for.
use Rattle.std.proofs.Common.{◌≡◌, ℕ, ◌+◌, ◌<◌, Bool, true, List, [], ◌∷◌, Some, ap, ◌∙◌}
use Rattle.size_arith.specs.declared.poly.Monomial.{Monomial}
use Rattle.lift_tree.specs.declared.term.Level.TheVariants.{Groups, Items}
use Rattle.lift_tree.specs.declared.term.Dimension.TheVariants.{X}
use Rattle.kernel_tree.specs.Formula.{Formula, bound_value}
use Rattle.kernel_tree.specs.Code.{Local as LocalArray, Code, End}
use Rattle.kernel_tree.specs.Launch.{Launch, ids_of}
use Rattle.barrier_placement.specs.Fencing.{Fencing, Open, Fenced}
use Rattle.lift_ir.specs.Layouts.{result_position}
use Rattle.lift_ir.specs.Terms.{LoadSet, Over, LocalMemory, Term, Bound, Source, Both, Project, Reshape, LetArray, Map, Copy, push}
use Rattle.lift_ir.specs.Scalars.{at_index}
use Rattle.printed_form.specs.Counts.{no_variables, load_count, local_count}
use Rattle.printed_form.specs.MapForms.{MapForm, MapForms, form_over_groups, statement_over_groups, variables_in}
use Rattle.printed_form.specs.Marks.{Marks, laid_in, loaded_marks}
use Rattle.printed_form.specs.Form.{start_of, stride_of, IsTurnOf, argument_marks}
use Rattle.group_phases.specs.Epochs.{IsPast}
use Rattle.group_form.specs.Stages.{marks_of}
use Rattle.group_form.specs.Uses.{phases_in}
use Rattle.group_form.specs.Form.{Used, used_after, IsLocalMap, IsGroupArgument, IsGroupWritten, IsGroupTurn, IsOverGroups}
use Rattle.tidy_indices.specs.Around.{Around, StandsIn}
use Rattle.tidy_indices.specs.Laws.{Change, KeepsValues}
use Rattle.tidy_kernels.specs.Pass.{tidied_code}
use Rattle.tidy_printed.specs.Terms.{TidiedGroupCodesArePrinted, TidiedLoadsArePrinted, TidiedMapsArePrinted}
use Rattle.tidy_printed.proofs.Statements.{statement_in, tidied_statement, entered}

pub past : (tidy : Change) (around : List Around) (f : Fencing) (before after : Code) → IsPast f before after → IsPast f (tidied_code tidy around before) (tidied_code tidy around after)
past tidy around Open before after h = ap (tidied_code tidy around) h
past tidy around (Fenced on_local on_global) before after h = ap (tidied_code tidy around) h

-- the statement over groups
tidied_over : (tidy : Change) (once : Bool) (b : Formula) (body : Code) → tidied_code tidy [] (statement_over_groups X once b body) ≡ statement_over_groups X once (tidy [] b) (tidied_code tidy (statement_in once (start_of (Over Groups X)) b ∷ []) body)
tidied_over tidy once b body = tidied_statement tidy [] once (start_of (Over Groups X)) (stride_of (Over Groups X)) b body

module _ {A : Type 0} (loaded : TidiedLoadsArePrinted) (mapped : TidiedMapsArePrinted A) (num : A → ℕ) (forms : MapForms A) (l : Launch) (ins : ℕ → Marks) (fence : ℕ → Fencing) (tidy : Change) (keeps : KeepsValues tidy l) where
  -- within the map over groups
  module _ (once : Bool) (bound : Formula) (turns : ℕ) (is : bound_value l.sizes bound ≡ Some turns) where
    abbrev outer : MapForm
    outer = form_over_groups once

    abbrev around : List Around
    around = statement_in once (start_of (Over Groups X)) bound ∷ []

    abbrev tidied : Code → Code
    tidied = tidied_code tidy around

    stands : (item i : ℕ) → i < turns → IsTurnOf l item (Over Groups X) i → StandsIn (ids_of l item) around (variables_in outer [] i)
    stands item i lt own = entered l item [] [] once (start_of (Over Groups X)) (stride_of (Over Groups X)) bound turns i tt is lt own

    local_map : (env : (turn var : ℕ) → Marks) (u : Used) (len : A) (loads : LoadSet) (marks : ℕ → Marks) (b : Term A) (w : ℕ → Marks) (code rest : Code)
        → IsLocalMap num forms l ins fence outer turns env u len loads marks b w code rest → IsLocalMap num forms l ins fence outer turns env u len loads marks b w (tidied code) (tidied rest)
    local_map env u len loads marks b w code rest h = λ item i here lt own.
        mapped l item ins num tidy around (variables_in outer [] i) (forms.local len) (Over Items X) (num len) (env i) u.privates u.variables loads (marks i) (w i) b code rest keeps here (stands item i lt own) (h item i here lt own)

    mutual
      group_argument : (env : (turn var : ℕ) → Marks) (u : Used) (t : Term A) (code rest : Code)
          → IsGroupArgument num forms l ins fence outer turns env u t code rest → IsGroupArgument num forms l ins fence outer turns env u t (tidied code) (tidied rest)
      group_argument env u (Bound v) code rest h = ap tidied h
      group_argument env u (Source a) code rest h = ap tidied h
      group_argument env u (Both true a b) code rest h = (tidied h.0, group_argument env u a code h.0 h.1, group_argument env (used_after u a) b h.0 rest h.2)
      group_argument env u (Project s a) code rest h = group_argument env u a code rest h
      group_argument env u (Reshape y a) code rest h = group_argument env u a code rest h
      group_argument env u (LetArray v b) code rest h =
          (tidied h.0, group_argument env u v code h.0 h.1, group_argument (λ i. push (marks_of num ins env u.locals v i) (env i)) (used_after u v) b h.0 rest h.2)
      group_argument env u (Copy LocalMemory ty a) code rest h = group_written env u a (λ i. laid_in LocalArray (u.locals + local_count a) ty) code rest h
      group_argument env u _ code rest h = absurd h

      group_written : (env : (turn var : ℕ) → Marks) (u : Used) (t : Term A) (w : ℕ → Marks) (code rest : Code)
          → IsGroupWritten num forms l ins fence outer turns env u t w code rest → IsGroupWritten num forms l ins fence outer turns env u t w (tidied code) (tidied rest)
      group_written env u (Reshape y t) w code rest h = (h.0, group_written env u t (λ i cs p. w i cs (result_position num y p)) code rest h.1)
      group_written env u (LetArray v b) w code rest h =
          (tidied h.0, group_argument env u v code h.0 h.1, group_written (λ i. push (marks_of num ins env u.locals v i) (env i)) (used_after u v) b w h.0 rest h.2)
      group_written env u (Map (Over Items X) n loads xs b) w code rest h = (
        tidied h.0,
        tidied h.1,
        group_argument env u xs code h.0 h.2,
        past tidy around (fence (u.phases + phases_in xs)) h.0 h.1 h.3,
        local_map env (used_after u xs) n loads (marks_of num ins env u.locals xs) b w h.1 rest h.4,
      )
      group_written env u _ w code rest h = absurd h

    group_turn : (env : ℕ → Marks) (loads : LoadSet) (marks : Marks) (b : Term A) (w : Marks) (code : Code)
        → IsGroupTurn num forms l ins fence outer turns env loads marks b w code → IsGroupTurn num forms l ins fence outer turns env loads marks b w (tidied code)
    group_turn env loads marks b w code h = (
      tidied h.0,
      tidied h.1,
      λ item i here lt own. loaded l item ins tidy around (variables_in outer [] i) loads (at_index i marks) no_variables code h.0 keeps here (stands item i lt own) (h.2 item i here lt own),
      group_written (λ i. push (loaded_marks loads (at_index i marks) no_variables) env) (record { locals = 0; privates = 0; variables = load_count loads; phases = 0 }) b (λ i. at_index i w) h.0 h.1 h.3,
      past tidy around (fence (phases_in b)) h.1 End h.4,
    )

  over_groups : (env : ℕ → Marks) (t : Term A) (w : Marks) (code : Code) → IsOverGroups num forms l ins fence env t w code → IsOverGroups num forms l ins fence env t w (tidied_code tidy [] code)
  over_groups env (Reshape y t) w code h = (h.0, over_groups env t (λ cs p. w cs (result_position num y p)) code h.1)
  over_groups env (LetArray v b) w code h = over_groups (push (argument_marks l ins num env 0 v) env) b w code h
  over_groups env (Map (Over Groups X) n loads xs b) w code h = (
    tidy [] h.0,
    tidied_code tidy (statement_in (forms.once n) (start_of (Over Groups X)) h.0 ∷ []) h.1,
    ap (tidied_code tidy []) h.2 ∙ tidied_over tidy (forms.once n) h.0 h.1,
    keeps.bound h.0 (num n) h.3,
    group_turn (forms.once n) h.0 (num n) h.3 env loads (argument_marks l ins num env 0 xs) b w h.1 h.4,
  )
  over_groups env _ w code h = absurd h

pub code_is : TidiedLoadsArePrinted → TidiedMapsArePrinted (List Monomial) → TidiedGroupCodesArePrinted (List Monomial)
code_is loaded mapped num forms l ins fence env tidy t to code keeps h = over_groups loaded mapped num forms l ins fence tidy keeps env t to code h
