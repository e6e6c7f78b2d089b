-- Kernels run in turn: each sees the scratch arrays before its own alone.
use Rattle.std.proofs.Common.{◌≡◌, ℕ, zero, suc, ◌+◌, ◌≤◌, List, [], ◌∷◌, ◌++◌, length, take, drop, length-append, append_assoc, refl, sym, ap, ◌∙◌, arith}
use Rattle.lift_tree.specs.Tree.{Tree}
use Rattle.lift_tree.specs.Belonging.{Belongs}
use Rattle.lift_tree.specs.Values.{Value}
use Rattle.lift_tree.specs.Meaning.{World, meaning}
use Rattle.kernel_sequence.specs.Cut.{Part, cut_off}
use Rattle.kernel_sequence.specs.Values.{with_more, Hold, HoldInTurn}
use Rattle.kernel_sequence.specs.Laws.{SequencesLeaveTheValue}
use Rattle.kernel_sequence.proofs.More.{more_inputs_keep_the_value}
use Rattle.kernel_sequence.proofs.Kept.{cuts_keep_the_value}
use Rattle.kernel_sequence.proofs.Names.{NameEarlier, made_named}

take_drop : (k : ℕ) (us : List Value) → take k us ++ drop k us ≡ us
take_drop zero us = refl
take_drop (suc k) [] = refl
take_drop (suc k) (u ∷ us) = ap (λ z. u ∷ z) (take_drop k us)

taken : (k : ℕ) (us : List Value) → k ≤ length us → length (take k us) ≡ k
taken zero us l = refl
taken (suc k) [] l = absurd (omega (arith, l))
taken (suc k) (u ∷ us) l = let e = taken k us (omega (arith, l)) in omega (arith, e)

module _ (w : World) (us : List Value) (s i : ℕ) (inputs : length w.inputs ≡ i) where
  -- the arrays behind change nothing
  same_later : (k : ℕ) (t : Tree) → k ≤ length us → Belongs s (i + k) 0 t → meaning (with_more w us) [] t ≡ meaning (with_more w (take k us)) [] t
  same_later k t l b =
      ap (λ (z : List Value). meaning (record w { inputs = z }) [] t) (ap (λ z. w.inputs ++ z) (sym (take_drop k us)) ∙ sym (append_assoc w.inputs (take k us) (drop k us)))
      ∙ more_inputs_keep_the_value (with_more w (take k us)) (drop k us) [] s (i + k) 0 t (omega (arith, inputs, length-append w.inputs (take k us), taken k us l)) b

  held : (k : ℕ) (ps : List Part) → NameEarlier s i k ps → k + length ps ≤ length us → HoldInTurn w us k ps → Hold (with_more w us) us k ps
  held k [] b l h = tt
  held k (p ∷ ps) b l h = (h.0 ∙ sym (same_later k p.tree (omega (arith, l)) b.0), held (suc k) ps b.1 (omega (arith, l)) h.1)

pub sequences_leave_the_value : SequencesLeaveTheValue
sequences_leave_the_value w us s i t n e b l h =
    let c = cut_off i [] t n in
    cuts_keep_the_value w us s i t n e b (held w us s i e 0 c.made (made_named s i t n b) (omega (arith, l)) h)
