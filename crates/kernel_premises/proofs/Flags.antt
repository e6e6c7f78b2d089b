-- Needed barriers have flags.
use Rattle.std.proofs.Common.{◌≡◌, Bool, true, false, refl}
use Rattle.std.specs.Prelude.{◌||◌}
use Rattle.barrier_placement.specs.Conflicts.{Space, Local, Global}
use Rattle.barrier_placement.specs.Fencing.{Fencing, Open, Fenced, stands, orders}
use Rattle.kernel_premises.specs.GroupGrammar.{IsFlagged, NeededAreFlagged}

one_of : (x y : Bool) (s : Space) → orders s (Fenced x y) ≡ true → (x || y) ≡ true
one_of true y s e = refl
one_of false y Local e = absurd (cc)
one_of false y Global e = e

flagged : (f : Fencing) → (stands f ≡ true → (s : Space) × (orders s f ≡ true)) → IsFlagged f
flagged Open h = tt
flagged (Fenced x y) h = let r = h refl in one_of x y r.0 r.1

pub needed_are_flagged : NeededAreFlagged
needed_are_flagged touches once n fence needed q le = flagged (fence q) (needed.flagged q le)
