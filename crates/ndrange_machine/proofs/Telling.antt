-- A machine that tells the fault of its last event.
use Rattle.std.proofs.Common.{◌≡◌, ◌∙◌, ℕ, List, [], ◌∷◌, ◌++◌, Bool, Option, Some, None, refl, sym, ap, subst, eq-eqb}
use Rattle.std.specs.Prelude.{slice_get, option_map, if◌then◌else◌}
use Rattle.kernel_tree.specs.declared.events.Event.{Event}
use Rattle.kernel_tree.specs.declared.events.Fault.{Fault}
use Rattle.kernel_tree.specs.Code.{Kernel}
use Rattle.kernel_tree.specs.Launch.{Launch, Cells}
use Rattle.enabled_events.specs.Listed.{AreFlags}
use Rattle.race_marks.specs.Marked.{MarksTell}
use Rattle.ndrange_machine.specs.declared.change.Change.{Change}
use Rattle.ndrange_machine.specs.declared.machine.Machine.{Machine}
use Rattle.ndrange_machine.specs.Changes.{changed}
use Rattle.ndrange_machine.specs.ItemView.{ItemView}
use Rattle.ndrange_machine.specs.Stands.{StandsFor}
use Rattle.ndrange_machine.specs.Takes.{Advanced, Changes, IsGoing, SameCore, StandsAt, Tells, is_going, told_if}
use Rattle.ndrange_machine.proofs.Stepping.{same_holds}

-- it stands for the same run
pub same_stands : (k : Kernel) (l : Launch) (c : Cells) (es : List Event) (m n : Machine) → SameCore m n → n.ready ≡ m.ready → n.marks ≡ m.marks → StandsFor k l c m es → StandsFor k l c n es
same_stands k l c es m n core ready marks st = record {
  grammar = st.grammar;
  is_run = st.is_run;
  holds = same_holds k l c m n _ core st.holds;
  flags = subst (AreFlags _ _) (sym ready) st.flags;
  vars = λ no j it q. st.vars no j it (ap (λ z. slice_get z j) (sym core.items) ∙ q);
  marks = λ no. subst (MarksTell _ _ es) (sym marks) (st.marks no);
  steady = st.steady;
}

pub advanced_to : (k : Kernel) (l : Launch) (c : Cells) (es : List Event) (e : Event) (m n : Machine) (fails : Bool) (fault : Option Fault) → Tells m n fails fault → Advanced k l c es e m fault → Advanced k l c es e n (told_if fails n)
advanced_to k l c es e m n fails fault t a = record {
  stands = same_stands k l c (es ++ e ∷ []) m n t.core t.ready t.marks a.stands;
  tells = record { kind = a.tells.kind; is = a.tells.is; lane = a.tells.lane; in_lane = a.tells.in_lane; told = t.told ∙ a.tells.told };
}

-- the line of an item, or this one
abbrev line_or : (line : ℕ) → Option ItemView → ℕ
line_or line (Some x) = x.line
line_or line None = line

-- a work-item that has gone to a line stands there
pub stands_at : (m n : Machine) (j : ℕ) (ch : Change) (to : ℕ) → Changes m n j ch to → StandsAt n j to
stands_at m n j ch to cs it e =
    went (slice_get m.items j)
    (sym (cs.items j ∙ ap (λ t. if t then option_map (λ x. changed x ch to) (slice_get m.items j) else slice_get m.items j) (eq-eqb j j refl)) ∙ e)
  where
    went : (o : Option ItemView) → option_map (λ x. changed x ch to) o ≡ Some it → it.line ≡ to
    went (Some x) q = sym (ap (line_or to) q)
    went None q = sym (ap (line_or to) q)

-- so it goes on from there, where one does that stands there
pub going_at : (m : Machine) (j line : ℕ) (b : Bool) → StandsAt m j line → b ≡ is_going (slice_get m.lines.items line) → IsGoing m j b
going_at m j line b at is it e = is ∙ ap (λ n. is_going (slice_get m.lines.items n)) (sym (at it e))
