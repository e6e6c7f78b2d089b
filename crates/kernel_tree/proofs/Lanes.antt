-- The accesses of one event, lane by lane.
use Rattle.std.proofs.Common.{◌≡◌, ℕ, zero, suc, ◌<◌, ◌≤◌, List, [], ◌∷◌, length, Some, ap, sym, ⊎_elim, inl, inr, arith, Bool}
use Rattle.std.specs.Prelude.{◌↔◌, slice_get}
use Rattle.kernel_tree.specs.declared.events.Event.{Event}
use Rattle.kernel_tree.specs.declared.events.Event.TheVariants.{Step, Release}
use Rattle.kernel_tree.specs.Launch.{Launch, group_of}
use Rattle.kernel_tree.specs.Item.{Wants, Ends, Waits, Moves, Reads, Writes, ReadsFour, WritesFour, Fails}
use Rattle.kernel_tree.specs.Device.{Cell, behind, Fence, Device, State, wants, four_at, run}
use Rattle.kernel_tree.specs.Faults.{Access, access_at, access_four, accessed, accesses_of, Among, RacesAfter}
use Rattle.kernel_tree.specs.Deeds.{Every}
use Rattle.kernel_tree.specs.Places.{AllDiffer}
use Rattle.kernel_tree.specs.Seen.{RacesIn}
use Rattle.kernel_tree.proofs.Accessed.{among_every}

-- accesses of cells further behind are others
behind_it : (x : Access) (ys : List Access) → Every (λ y. x.cell.index < y.cell.index) ys → Among x ys → ⊥
behind_it x ys all h =
    let lt : x.cell.index < x.cell.index = among_every (λ y. x.cell.index < y.cell.index) ys all x h in
    let n = x.cell.index in
    omega (arith, lt)

four_differ : (g k : ℕ) (c : Cell) (w : Bool) (epochs : Fence → ℕ) → AllDiffer (access_four g k c w epochs)
four_differ g k c w epochs =
    let a = λ (n : ℕ). access_at g k (behind n c) w epochs in
    let first = access_at g k c w epochs in (
      behind_it first (a 1 ∷ a 2 ∷ a 3 ∷ []) (omega arith, (omega arith, (omega arith, tt))),
      (behind_it (a 1) (a 2 ∷ a 3 ∷ []) (omega arith, (omega arith, tt)), (behind_it (a 2) (a 3 ∷ []) (omega arith, tt), ((λ h. absurd h), tt))),
    )

wanted_differ : (l : Launch) (k : ℕ) (w : Wants) (epochs : Fence → ℕ) → AllDiffer (accessed l k w epochs)
wanted_differ l k (Reads a n f) epochs = ((λ h. absurd h), tt)
wanted_differ l k (Writes a n v x) epochs = ((λ h. absurd h), tt)
wanted_differ l k (ReadsFour a n f) epochs = four_differ (group_of l k) k (four_at l k a n) _ epochs
wanted_differ l k (WritesFour a n u x) epochs = four_differ (group_of l k) k (four_at l k a n) _ epochs
wanted_differ l k Ends epochs = tt
wanted_differ l k (Waits a b x) epochs = tt
wanted_differ l k (Moves x) epochs = tt
wanted_differ l k (Fails f) epochs = tt

pub accesses_differ : (d : Device) (s : State) (e : Event) → AllDiffer (accesses_of d s e)
unfolding accesses_of
accesses_differ d s (Step k) = wanted_differ d.launch k (wants d s k) (s.epochs (group_of d.launch k))
accesses_differ d s (Release g) = tt

wanted_few : (l : Launch) (k : ℕ) (w : Wants) (epochs : Fence → ℕ) → length (accessed l k w epochs) ≤ 4
wanted_few l k (Reads a n f) epochs = omega arith
wanted_few l k (Writes a n v x) epochs = omega arith
wanted_few l k (ReadsFour a n f) epochs = omega arith
wanted_few l k (WritesFour a n u x) epochs = omega arith
wanted_few l k Ends epochs = omega arith
wanted_few l k (Waits a b x) epochs = omega arith
wanted_few l k (Moves x) epochs = omega arith
wanted_few l k (Fails f) epochs = omega arith

pub accesses_few : (d : Device) (s : State) (e : Event) → length (accesses_of d s e) ≤ 4
unfolding accesses_of
accesses_few d s (Step k) = wanted_few d.launch k (wants d s k) (s.epochs (group_of d.launch k))
accesses_few d s (Release g) = omega arith

-- a member stands somewhere

stands_at : {A : Type 0} (x : A) (xs : List A) → Among x xs → (n : ℕ) × (slice_get xs n ≡ Some x)
stands_at x [] h = absurd h
stands_at x (y ∷ ys) h = ⊎_elim (λ e. (0, ap Some (sym e))) (λ r. let n = stands_at x ys r in (suc n.0, n.1)) h

is_among : {A : Type 0} (x : A) (xs : List A) (n : ℕ) → slice_get xs n ≡ Some x → Among x xs
is_among x [] n e = cc
is_among x (y ∷ ys) zero e = inl (cc)
is_among x (y ∷ ys) (suc n) e = inr (is_among x ys n e)

pub races_in_a_lane : (d : Device) (s : State) (es : List Event) (e : Event) → RacesAfter d s es e ↔ ((lane : ℕ) × RacesIn d s es e lane)
races_in_a_lane d s es e = (
  λ r. let n = stands_at r.1 (accesses_of d (run d s es) e) r.3 in (n.0, (r.0, r.1, r.2, n.1, r.4)),
  λ q. let r = q.1 in (r.0, r.1, r.2, is_among r.1 (accesses_of d (run d s es) e) q.0 r.3, r.4),
)
