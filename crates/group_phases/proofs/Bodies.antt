-- Code that writes no cell that others may reach, as the loads of a turn's
-- own scalars, and then more code.
use Rattle.std.proofs.Common.{◌≡◌, ℕ, List, ◌++◌, ap, ◌∙◌, arith}
use Rattle.kernel_tree.specs.Formula.{Vars}
use Rattle.kernel_tree.specs.Code.{Code}
use Rattle.kernel_tree.specs.Item.{Frame}
use Rattle.kernel_tree.specs.Device.{Device, Cell}
use Rattle.kernel_tree.specs.Deeds.{written}
use Rattle.kernel_tree.specs.Independent.{IsAllowed, write_count}
use Rattle.kernel_tree.proofs.Deeds.{goes_on}
use Rattle.kernel_tree.proofs.Independent.{written-append}
use Rattle.kernel_tree.proofs.Turns.{every-append, write_count-append}
use Rattle.group_phases.specs.Bodies.{IsShared, Part, CanDo}
use Rattle.group_phases.proofs.Written.{untouched}

pub silent_then : (d : Device) (k : ℕ) (known target : Cell → Type 0) (value : Cell → ℕ) (fs : List Frame) (code mid rest : Code) (vars : Vars) (U V : Vars → Type 0)
    → ((c : Cell) → known c → IsShared c) → ((c : Cell) → target c → IsShared c)
    → CanDo d k known (λ c. ⊥) value fs code vars mid U → ((vs : Vars) → U vs → CanDo d k known target value fs mid vs rest V) → CanDo d k known target value fs code vars rest V
silent_then d k known target value fs code mid rest vars U V sk st first more o m ready = record {
  after = b.after;
  deeds = a.deeds ++ b.deeds;
  goes = goes_on d k _ _ _ m a.deeds b.deeds a.goes b.goes;
  so = b.so;
  allowed = every-append (IsAllowed o k) a.deeds b.deeds a.allowed b.allowed;
  once = λ c x. let n = write_count-append c a.deeds b.deeds in let p = quiet c (st c x) in let q = b.once c x in omega arith;
  holds = λ c x. ap (λ z. z c) (written-append a.deeds b.deeds m) ∙ b.holds c x;
  quiet = λ c s n. let e = write_count-append c a.deeds b.deeds in let p = quiet c s in let q = b.quiet c s n in omega arith;
}
  where
    a : Part d k o m (λ c. ⊥) value fs code vars mid U
    a = first o m (record { holds = ready.holds; may = ready.may; mine = λ c x. absurd x; own = ready.own })

    quiet : (c : Cell) → IsShared c → write_count c a.deeds ≡ 0
    quiet c s = a.quiet c s (λ x. x)

    same : (c : Cell) → IsShared c → written a.deeds m c ≡ m c
    same c s = untouched c a.deeds m (quiet c s)

    b : Part d k o (written a.deeds m) target value fs mid a.after rest V
    b = more a.after a.so o (written a.deeds m) (record { holds = λ c x. same c (sk c x) ∙ ready.holds c x; may = ready.may; mine = ready.mine; own = ready.own })
