-- What acts count is what the run's accesses and releases are.
use Rattle.std.proofs.Common.{◌≡◌, ℕ, ◌+◌, ◌*◌, ◌<◌, List, [], ◌∷◌, ◌++◌, length, refl, sym, ap, ◌∙◌, zero-add, arith, Bool, true, false}
use Rattle.std.specs.Prelude.{◌==◌, ◌&&◌, cond, filter, count_by}
use Rattle.kernel_tree.specs.declared.events.Event.{Event}
use Rattle.kernel_tree.specs.declared.events.Event.TheVariants.{Step, Release}
use Rattle.kernel_tree.specs.Code.{Kernel}
use Rattle.kernel_tree.specs.Launch.{Launch, Cells, IsWhole, item_count, group_of, first_item, ids_of}
use Rattle.kernel_tree.specs.Item.{Ends}
use Rattle.kernel_tree.specs.Device.{Device, device_of, Cell, behind, State, IsStart, Fence, wants, after, run, IsRun}
use Rattle.kernel_tree.specs.Faults.{Access, access_at, accesses, NoFailure}
use Rattle.kernel_tree.specs.Deeds.{Moved, Got, Gave, GotFour, GaveFour}
use Rattle.kernel_tree.specs.Histories.{Act, Did, Past, act_of, history, group_history, is_past, is_release, raised, history_accesses}
use Rattle.kernel_tree.proofs.Histories.{count_first, own_accesses, group_tells}
use Rattle.kernel_traffic.specs.Traffic.{Accesses, once, accesses_in, barriers_in, total_in}
use Rattle.kernel_traffic.proofs.Left.{sum_of, Fits, left, all_done}

-- the accesses of a kind that an act makes
abbrev accesses_by : Accesses → Act → ℕ
accesses_by p (Did Moved) = 0
accesses_by p (Did (Got c)) = once (p c.array false)
accesses_by p (Did (Gave c v)) = once (p c.array true)
accesses_by p (Did (GotFour c)) = 4 * once (p c.array false)
accesses_by p (Did (GaveFour c u)) = 4 * once (p c.array true)
accesses_by p (Past a b) = 0

-- whether it passes a barrier
abbrev passes : Act → ℕ
passes (Past a b) = 1
passes (Did e) = 0

accesses_fit : (p : Accesses) → Fits (accesses_in p) (accesses_by p)
accesses_fit p = record {
  moved = refl;
  assigns = λ v e. refl;
  loads = λ v a i l k n. refl;
  stores = λ a i e l k n x. refl;
  assigns_four = λ v e. refl;
  loads_four = λ v a i l k n. refl;
  stores_four = λ a i e l k n u. refl;
  syncs = λ a b. refl;
}

barriers_fit : Fits barriers_in passes
barriers_fit = record {
  moved = refl;
  assigns = λ v e. refl;
  loads = λ v a i l k n. refl;
  stores = λ a i e l k n x. refl;
  assigns_four = λ v e. refl;
  loads_four = λ v a i l k n. refl;
  stores_four = λ a i e l k n u. refl;
  syncs = λ a b. refl;
}

count_own : (k : ℕ) (q : Access → Bool) (xs : List Access) → count_by (λ a. (a.item == k) && q a) xs ≡ count_by q (filter (λ a. a.item == k) xs)
count_own k q [] = refl
count_own k q (x ∷ xs) = count_first (λ a. (a.item == k) && q a) x xs ∙ go (x.item == k) (count_own k q xs)
  where
    go : (b : Bool) → count_by (λ a. (a.item == k) && q a) xs ≡ count_by q (filter (λ a. a.item == k) xs) → cond (b && q x) 1 0 + count_by (λ a. (a.item == k) && q a) xs ≡ count_by q (cond b (x ∷ filter (λ a. a.item == k) xs) (filter (λ a. a.item == k) xs))
    go true h = ap (λ n. cond (q x) 1 0 + n) h ∙ sym (count_first q x (filter (λ a. a.item == k) xs))
    go false h = zero-add _ ∙ h

once_is : (b : Bool) → cond b 1 0 ≡ once b
once_is true = refl
once_is false = refl

module _ (p : Accesses) (g k : ℕ) where
  abbrev counted : List Access → ℕ
  counted xs = count_by (λ a. p a.cell.array a.writes) xs

  one_more : (c : Cell) (w : Bool) (epochs : Fence → ℕ) (xs : List Access) → counted (access_at g k c w epochs ∷ xs) ≡ once (p c.array w) + counted xs
  one_more c w epochs xs = count_first (λ (a : Access). p a.cell.array a.writes) (access_at g k c w epochs) xs ∙ ap (λ n. n + counted xs) (once_is (p c.array w))

  four_more : (c : Cell) (w : Bool) (epochs : Fence → ℕ) (xs : List Access) → counted (access_at g k c w epochs ∷ access_at g k (behind 1 c) w epochs ∷ access_at g k (behind 2 c) w epochs ∷ access_at g k (behind 3 c) w epochs ∷ xs) ≡ 4 * once (p c.array w) + counted xs
  four_more c w epochs xs =
      let last = one_more (behind 3 c) w epochs xs in
      let third = one_more (behind 2 c) w epochs (access_at g k (behind 3 c) w epochs ∷ xs) in
      let second = one_more (behind 1 c) w epochs (access_at g k (behind 2 c) w epochs ∷ access_at g k (behind 3 c) w epochs ∷ xs) in
      let first = one_more c w epochs (access_at g k (behind 1 c) w epochs ∷ access_at g k (behind 2 c) w epochs ∷ access_at g k (behind 3 c) w epochs ∷ xs) in
      omega arith

  counted_acts : (h : List Act) (epochs : Fence → ℕ) → counted (history_accesses g k epochs h) ≡ sum_of (accesses_by p) h
  counted_acts [] epochs = refl
  counted_acts (Did Moved ∷ h) epochs = counted_acts h epochs ∙ sym (zero-add _)
  counted_acts (Did (Got c) ∷ h) epochs = one_more c false epochs (history_accesses g k epochs h) ∙ ap (λ n. once (p c.array false) + n) (counted_acts h epochs)
  counted_acts (Did (Gave c v) ∷ h) epochs = one_more c true epochs (history_accesses g k epochs h) ∙ ap (λ n. once (p c.array true) + n) (counted_acts h epochs)
  counted_acts (Did (GotFour c) ∷ h) epochs = four_more c false epochs (history_accesses g k epochs h) ∙ ap (λ n. 4 * once (p c.array false) + n) (counted_acts h epochs)
  counted_acts (Did (GaveFour c u) ∷ h) epochs = four_more c true epochs (history_accesses g k epochs h) ∙ ap (λ n. 4 * once (p c.array true) + n) (counted_acts h epochs)
  counted_acts (Past a b ∷ h) epochs = counted_acts h (raised a b epochs) ∙ sym (zero-add _)

-- passing barriers, counted
counted_passes : (h : List Act) → length (filter is_past h) ≡ sum_of passes h
counted_passes [] = refl
counted_passes (Did e ∷ h) = counted_passes h ∙ sym (zero-add _)
counted_passes (Past a b ∷ h) = let e = counted_passes h in omega arith

module _ (d : Device) where
  counted_releases : (s : State) (es : List Event) (g : ℕ) → count_by (is_release g) es ≡ length (group_history d s es g)
  counted_releases s [] g = refl
  counted_releases s (Step k ∷ es) g = count_first (is_release g) (Step k) es ∙ zero-add _ ∙ counted_releases (after d s (Step k)) es g
  counted_releases s (Release x ∷ es) g = count_first (is_release g) (Release x) es ∙ go (g == x) (counted_releases (after d s (Release x)) es g)
    where
      first : Act
      first = act_of d.launch (first_item d.launch g) (wants d s (first_item d.launch g))

      go : (b : Bool) → count_by (is_release g) es ≡ length (group_history d (after d s (Release x)) es g) → cond b 1 0 + count_by (is_release g) es ≡ length (cond b (first ∷ []) [] ++ group_history d (after d s (Release x)) es g)
      go true h = omega (arith, h)
      go false h = zero-add _ ∙ h

module _ (k : Kernel) (l : Launch) (c : Cells) (s : State) (es : List Event) (whole : IsWhole l) (start : IsStart k l c s) (r : IsRun (device_of k l c) s es) (ok : NoFailure (device_of k l c) s es) (j : ℕ) (within : j < item_count l) (ended : wants (device_of k l c) (run (device_of k l c) s es) j ≡ Ends) where
  d : Device
  d = device_of k l c

  pub accesses_told : (p : Accesses) → count_by (λ a. (a.item == j) && p a.cell.array a.writes) (accesses (device_of k l c) s es) ≡ total_in (accesses_in p) (ids_of l j) k.code
  accesses_told p =
      let q = λ (a : Access). p a.cell.array a.writes in
      count_own j q (accesses (device_of k l c) s es)
      ∙ ap (count_by q) (own_accesses (device_of k l c) whole s es j r)
      ∙ counted_acts p (group_of l j) j (history (device_of k l c) s es j) (s.epochs (group_of l j))
      ∙ all_done (accesses_in p) (accesses_by p) (accesses_fit p) (device_of k l c) whole j within s es r ok ended
      ∙ ap (left (accesses_in p) (accesses_by p) (accesses_fit p) l j) (start.items j within)
      ∙ (let n = total_in (accesses_in p) (ids_of l j) k.code in omega arith)

  pub releases_told : count_by (is_release (group_of l j)) es ≡ total_in barriers_in (ids_of l j) k.code
  releases_told =
      counted_releases (device_of k l c) s es (group_of l j)
      ∙ ap length (sym (group_tells (device_of k l c) whole s es (group_of l j) j refl r))
      ∙ counted_passes (history (device_of k l c) s es j)
      ∙ all_done barriers_in passes barriers_fit (device_of k l c) whole j within s es r ok ended
      ∙ ap (left barriers_in passes barriers_fit l j) (start.items j within)
      ∙ (let n = total_in barriers_in (ids_of l j) k.code in omega arith)
