-- Which code is printed for a map over work-groups, whose maps have given forms: local maps are
-- phases, with whatever stands between them, and the code is one for all turns.
use Rattle.std.specs.Prelude.{◌≡◌, ℕ, ◌+◌, ◌<◌, Bool, true, false, []}
use Rattle.lift_tree.specs.declared.term.Level.TheVariants.{Groups, Items}
use Rattle.lift_tree.specs.declared.term.Dimension.TheVariants.{X}
use Rattle.kernel_tree.specs.Formula.{Formula}
use Rattle.kernel_tree.specs.Code.{Local as LocalArray, Code, End}
use Rattle.kernel_tree.specs.Launch.{Launch, item_count}
use Rattle.barrier_placement.specs.Fencing.{Fencing}
use Rattle.lift_ir.specs.Layouts.{result_position, IsInvertible}
use Rattle.lift_ir.specs.Terms.{LoadSet, Over, LocalMemory, Term, Bound, Source, Both, Project, Reshape, LetArray, Map, Copy, push}
use Rattle.lift_ir.specs.Scalars.{at_index}
use Rattle.printed_form.specs.Counts.{Count, more, no_variables, load_count, variable_count, private_count, local_count}
use Rattle.printed_form.specs.Marks.{Marks, laid_in, loaded_marks}
use Rattle.printed_form.specs.Form.{IsTurnOf, IsLength, IsLoaded, argument_marks, IsWritten}
use Rattle.printed_form.specs.MapForms.{MapForm, MapForms, form_over_groups, statement_over_groups, variables_in, AreTurns}
use Rattle.group_phases.specs.Epochs.{IsPast}
use Rattle.group_form.specs.Stages.{marks_of}
use Rattle.group_form.specs.Uses.{phases_in}

-- what is in use before a part of the code: local arrays, private arrays, private variables and
-- phases
pub record Used : Type 0 where
  pub locals : ℕ
  pub privates : ℕ
  pub variables : Count
  pub phases : ℕ

-- and after a term's code
abbrev pub used_after : {A : Type 0} → Used → Term A → Used
used_after u t = record {
  locals = u.locals + local_count t;
  privates = u.privates + private_count t;
  variables = more u.variables (variable_count t);
  phases = u.phases + phases_in t;
}

-- whether the map over groups is an `if`
abbrev pub is_once : {A : Type 0} → MapForms A → Term A → Bool
is_once forms (Reshape y t) = is_once forms t
is_once forms (LetArray v b) = is_once forms b
is_once forms (Map kind n loads xs b) = forms.once n
is_once forms _ = false

module _ {A : Type 0} (num : A → ℕ) (forms : MapForms A) (l : Launch) (ins : ℕ → Marks) where
  -- what stands before each phase, how the map over groups is printed, and so many turns
  module _ (fence : ℕ → Fencing) (outer : MapForm) (turns : ℕ) where
    -- a local map over what stands for its argument at each turn, as each item runs it at its
    -- group's turns
    abbrev pub IsLocalMap : ((turn var : ℕ) → Marks) → Used → (len : A) → LoadSet
        → (marks : ℕ → Marks) → (body : Term A) → (to : ℕ → Marks) → (code rest : Code) → Type 0
    IsLocalMap env u len loads marks b w code rest =
        (item i : ℕ) → item < item_count l → i < turns → IsTurnOf l item (Over Groups X) i
        → AreTurns l item ins (forms.local len) (Over Items X) (variables_in outer [] i) (num len)
        (λ ts j body last. (inner : Code)
        × IsLoaded l item ins ts loads (at_index j (marks i)) u.variables body inner
        × IsWritten l item ins num ts
        (push (loaded_marks loads (at_index j (marks i)) u.variables) (env i)) u.privates
        (more u.variables (load_count loads)) b (at_index j (w i)) inner last)
        code rest

    abbrev mutual
      -- an argument's copies to local memory
      pub IsGroupArgument : ((turn var : ℕ) → Marks) → Used → Term A → (code rest : Code) → Type 0
      IsGroupArgument env u (Bound v) code rest = code ≡ rest
      IsGroupArgument env u (Source a) code rest = code ≡ rest
      IsGroupArgument env u (Both true a b) code rest =
          (mid : Code) × IsGroupArgument env u a code mid
          × IsGroupArgument env (used_after u a) b mid rest
      IsGroupArgument env u (Project s a) code rest = IsGroupArgument env u a code rest
      IsGroupArgument env u (Reshape y a) code rest = IsGroupArgument env u a code rest
      IsGroupArgument env u (LetArray v b) code rest =
          (mid : Code) × IsGroupArgument env u v code mid
          × IsGroupArgument (λ i. push (marks_of num ins env u.locals v i) (env i))
          (used_after u v) b mid rest
      IsGroupArgument env u (Copy LocalMemory ty a) code rest =
          IsGroupWritten env u a (λ i. laid_in LocalArray (u.locals + local_count a) ty) code rest
      IsGroupArgument env u _ code rest = ⊥

      -- a term in writing position, which goes to w
      pub IsGroupWritten : ((turn var : ℕ) → Marks) → Used → Term A → (to : ℕ → Marks)
          → (code rest : Code) → Type 0
      IsGroupWritten env u (Reshape y t) w code rest =
          IsInvertible y
          × IsGroupWritten env u t (λ i cs p. w i cs (result_position num y p)) code rest
      IsGroupWritten env u (LetArray v b) w code rest =
          (mid : Code) × IsGroupArgument env u v code mid
          × IsGroupWritten (λ i. push (marks_of num ins env u.locals v i) (env i))
          (used_after u v) b w mid rest
      IsGroupWritten env u (Map (Over Items X) n loads xs b) w code rest =
          (mid mid2 : Code) × IsGroupArgument env u xs code mid
          × IsPast (fence (u.phases + phases_in xs)) mid mid2
          × IsLocalMap env (used_after u xs) n loads
          (marks_of num ins env u.locals xs) b w mid2 rest
      IsGroupWritten env u _ w code rest = ⊥

    -- a turn: the loads of its element, the body's phases, and what closes
    abbrev pub IsGroupTurn : (ℕ → Marks) → LoadSet → (marks : Marks) → (body : Term A)
        → (to : Marks)
        → Code → Type 0
    IsGroupTurn env loads marks b w code =
        (first last : Code)
        × ((item i : ℕ) → item < item_count l → i < turns → IsTurnOf l item (Over Groups X) i
        → IsLoaded l item ins (variables_in outer [] i) loads (at_index i marks) no_variables code
        first)
        × IsGroupWritten (λ i. push (loaded_marks loads (at_index i marks) no_variables) env)
        (record { locals = 0; privates = 0; variables = load_count loads; phases = 0 }) b
        (λ i. at_index i w) first last × IsPast (fence (phases_in b)) last End

  -- a map over work-groups, through layouts and lets of inputs
  abbrev pub IsOverGroups : (fence : ℕ → Fencing) → (ℕ → Marks) → Term A → (to : Marks) → Code
      → Type 0
  IsOverGroups fence env (Reshape y t) w code =
      IsInvertible y × IsOverGroups fence env t (λ cs p. w cs (result_position num y p)) code
  IsOverGroups fence env (LetArray v b) w code =
      IsOverGroups fence (push (argument_marks l ins num env 0 v) env) b w code
  IsOverGroups fence env (Map (Over Groups X) n loads xs b) w code =
      (bound : Formula) × (body : Code)
      × (code ≡ statement_over_groups X (forms.once n) bound body)
      × IsLength l ins bound (num n)
      × IsGroupTurn fence (form_over_groups (forms.once n)) (num n) env loads
      (argument_marks l ins num env 0 xs) b w body
  IsOverGroups fence env _ w code = ⊥
