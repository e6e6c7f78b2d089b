-- A run without a failure accesses cells of its arrays alone.
use Rattle.std.proofs.Common.{◌≡◌, ℕ, ◌+◌, ◌*◌, ◌<◌, Bool, true, false, List, [], ◌∷◌, Some, None, refl, ⊎_elim, arith}
use Rattle.std.specs.Prelude.{if◌then◌else◌, nat_lt}
use Rattle.std.proofs.lemmas.Bool.{ltb-true}
use Rattle.kernel_tree.specs.declared.events.Event.{Event}
use Rattle.kernel_tree.specs.declared.events.Event.TheVariants.{Step, Release}
use Rattle.kernel_tree.specs.declared.events.FaultKind.TheVariants.{OutOfRange}
use Rattle.kernel_tree.specs.Item.{Wants, Ends, Waits, Moves, Reads, Writes, ReadsFour, WritesFour, Fails}
use Rattle.kernel_tree.specs.Device.{Device, Fence, State, wants, after}
use Rattle.kernel_tree.specs.Faults.{Access, Among, accessed, accesses_of, accesses, failure, failure_of, NoFailure}
use Rattle.kernel_tree.proofs.Accessed.{among_every}
use Rattle.kernel_tree.proofs.Confluence.{among-append}

in_range : (n m : ℕ) → (if nat_lt n m then None else Some OutOfRange) ≡ None → n < m
in_range n m e = ltb-true n m (go (nat_lt n m) e)
  where
    go : (b : Bool) → (if b then None else Some OutOfRange) ≡ None → b ≡ true
    go true e = refl
    go false e = cc

module _ (d : Device) where
  abbrev IsWithin : Access → Type 0
  IsWithin x = x.cell.index < d.lengths x.cell.array

  -- of four cells each is within their array, as the last one is
  four_within : (n m : ℕ) → 4 * n + 3 < m → (4 * n < m) × (4 * n + 1 < m) × (4 * n + 2 < m) × (4 * n + 3 < m)
  four_within n m h = (omega arith, omega arith, omega arith, h)

  by_want : (k : ℕ) (w : Wants) (epochs : Fence → ℕ) → failure d w ≡ None → (x : Access) → Among x (accessed d.launch k w epochs) → IsWithin x
  by_want k (Reads a n f) epochs fine x among = among_every IsWithin (accessed d.launch k (Reads a n f) epochs) (in_range n (d.lengths a) fine, tt) x among
  by_want k (Writes a n v y) epochs fine x among = among_every IsWithin (accessed d.launch k (Writes a n v y) epochs) (in_range n (d.lengths a) fine, tt) x among
  by_want k (ReadsFour a n f) epochs fine x among =
      let w = four_within n (d.lengths a) (in_range (4 * n + 3) (d.lengths a) fine) in
      among_every IsWithin (accessed d.launch k (ReadsFour a n f) epochs) (w.0, (w.1, (w.2, (w.3, tt)))) x among
  by_want k (WritesFour a n u y) epochs fine x among =
      let w = four_within n (d.lengths a) (in_range (4 * n + 3) (d.lengths a) fine) in
      among_every IsWithin (accessed d.launch k (WritesFour a n u y) epochs) (w.0, (w.1, (w.2, (w.3, tt)))) x among
  by_want k Ends epochs fine x among = absurd among
  by_want k (Waits a b y) epochs fine x among = absurd among
  by_want k (Moves y) epochs fine x among = absurd among
  by_want k (Fails f) epochs fine x among = absurd among

  by_event : (s : State) (e : Event) → failure_of d s e ≡ None → (x : Access) → Among x (accesses_of d s e) → IsWithin x
  unfolding failure_of accesses_of
  by_event s (Step k) fine x among = by_want k (wants d s k) _ fine x among
  by_event s (Release g) fine x among = absurd among

  pub all_within : (s : State) (es : List Event) → NoFailure d s es → (x : Access) → Among x (accesses d s es) → x.cell.index < d.lengths x.cell.array
  all_within s [] fine x among = absurd among
  all_within s (e ∷ es) fine x among =
      ⊎_elim (λ now. by_event s e fine.0 x now) (λ later. all_within (after d s e) es fine.1 x later) (among-append x (accesses_of d s e) (accesses d (after d s e) es) among)
