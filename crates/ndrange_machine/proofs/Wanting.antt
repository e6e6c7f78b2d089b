-- What a work-item wants, by its line.
use Rattle.std.proofs.Common.{◌≡◌, ◌∙◌, ℕ, ◌+◌, ◌<◌, Option, Some, sym, ap, arith}
use Rattle.std.specs.Prelude.{slice_get}
use Rattle.kernel_tree.specs.Formula.{value}
use Rattle.kernel_tree.specs.Launch.{ids_of, item_count}
use Rattle.kernel_tree.specs.Tree.{formula_of, start_of}
use Rattle.kernel_tree.specs.declared.tree.Start.{Start}
use Rattle.kernel_tree.specs.declared.tree.Stride.{Stride}
use Rattle.kernel_tree.specs.declared.tree.Array.{Array}
use Rattle.kernel_tree.specs.declared.tree.Expr.{Expr}
use Rattle.ndrange_machine.specs.declared.change.Change.TheVariants.{Sets}
use Rattle.ndrange_machine.specs.declared.line.Line.{Line}
use Rattle.ndrange_machine.specs.declared.line.Line.TheVariants.{Assign, Head, Load, Store, Tail}
use Rattle.ndrange_machine.specs.declared.machine.Machine.{Machine}
use Rattle.ndrange_machine.specs.declared.want.Want.{Want}
use Rattle.ndrange_machine.specs.declared.want.Want.TheVariants.{Changes, Reads, Writes}
use Rattle.ndrange_machine.specs.ItemView.{ItemView, OfItem}
use Rattle.ndrange_machine.specs.Known.{variables}
use Rattle.kernel_tree.specs.declared.events.Event.{Event}
use Rattle.kernel_tree.specs.declared.events.Fault.{Fault}
use Rattle.ndrange_machine.specs.Takes.{Advances, IsWanted, SameCore}
use Rattle.ndrange_machine.proofs.Rows.{get_there, some_is}
use Rattle.ndrange_machine.proofs.Telling.{same_stands}
use Rattle.ndrange_machine.specs.Wants.{want_head, want_if, want_in, want_tail, wanted}

-- the j-th work-item, which stands at this line
pub record IsAtLine (m : Machine) (j : ℕ) (it : ItemView) (at : ℕ) (l : Line) : Type 0 where
  pub item : slice_get m.items j ≡ Some it
  pub place : at ≡ it.line
  pub line : slice_get m.lines.items at ≡ Some l

-- the work-item whose line was told
pub line_told : (m : Machine) (j at : ℕ) → j < item_count m.launch → OfItem m.items j (λ it. at ≡ it.line) → (it : ItemView) × (slice_get m.items j ≡ Some it) × (at ≡ it.line)
line_told m j at lt is =
    let all = m.all_items in
    let it = get_there m.items j (omega (arith, all, lt)) in
    (it.0, it.1, is it.0 it.1)

wants : (m : Machine) (j : ℕ) (it : ItemView) (at : ℕ) (l : Line) (w : Want) → IsAtLine m j it at l → w ≡ want_in m.lines.items (ids_of m.launch j) at it.turns it.vars (Some l) → IsWanted m j w
wants m j it at l w h is = λ other e.
    is
    ∙ ap (want_in m.lines.items (ids_of m.launch j) at it.turns it.vars) (sym h.line)
    ∙ ap (λ n. want_in m.lines.items (ids_of m.launch j) n it.turns it.vars (slice_get m.lines.items n)) h.place
    ∙ ap (wanted m.lines.items (ids_of m.launch j)) (some_is it other (sym h.item ∙ e))

abbrev pub value_in : Machine → (j : ℕ) → ItemView → Expr → Option ℕ
value_in m j it e = value (ids_of m.launch j) (variables it.turns) it.vars (formula_of e)

pub wants_to_set : (m : Machine) (j : ℕ) (it : ItemView) (at v : ℕ) (e : Expr) (x : ℕ) → IsAtLine m j it at (Assign v e) → value_in m j it e ≡ Some x → IsWanted m j (Changes (Sets v x) (at + 1))
wants_to_set m j it at v e x h is = wants m j it at _ _ h (sym (ap (λ o. want_if o (λ z. Changes (Sets v z) (at + 1))) is))

pub wants_to_read : (m : Machine) (j : ℕ) (it : ItemView) (at v : ℕ) (a : Array) (i : Expr) (k : ℕ) → IsAtLine m j it at (Load v a i) → value_in m j it i ≡ Some k → IsWanted m j (Reads v a k (at + 1))
wants_to_read m j it at v a i k h is = wants m j it at _ _ h (sym (ap (λ o. want_if o (λ z. Reads v a z (at + 1))) is))

pub wants_to_write : (m : Machine) (j : ℕ) (it : ItemView) (at : ℕ) (a : Array) (i e : Expr) (k x : ℕ) → IsAtLine m j it at (Store a i e) → value_in m j it i ≡ Some k → value_in m j it e ≡ Some x → IsWanted m j (Writes a k x (at + 1))
wants_to_write m j it at a i e k x h index is =
    wants m j it at _ _ h
    (sym (ap (λ o. want_if o (λ z. want_if (value_in m j it e) (λ y. Writes a z y (at + 1)))) index
    ∙ ap (λ o. want_if o (λ y. Writes a k y (at + 1))) is))

pub wants_to_repeat : (m : Machine) (j : ℕ) (it : ItemView) (at head : ℕ) (w : Want) → IsAtLine m j it at (Tail head) → w ≡ want_tail m.lines.items (ids_of m.launch j) head it.turns → IsWanted m j w
wants_to_repeat m j it at head w h is = wants m j it at _ w h is

pub wants_to_begin : (m : Machine) (j : ℕ) (it : ItemView) (at : ℕ) (s : Start) (b : Expr) (c : Stride) (exit : ℕ) (w : Want) → IsAtLine m j it at (Head s b c exit) → w ≡ want_head (ids_of m.launch j) (start_of s) (formula_of b) at exit → IsWanted m j w
wants_to_begin m j it at s b c exit w h is = wants m j it at _ w h is

-- the same machine, whatever proves what is known of it
pub advances_same : {n : Machine} (m : Machine) (e : Event) (new : Machine) (fault : Option Fault) → Advances n e new fault → SameCore m n → n.ready ≡ m.ready → n.marks ≡ m.marks → Advances m e new fault
advances_same m e new fault h core ready marks = λ k l c es st clean en.
    h k l c es (same_stands k l c es m _ core ready marks st) clean en
