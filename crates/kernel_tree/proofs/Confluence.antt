-- One run without a fault that cannot go on tells of every run from its state.
use Rattle.std.proofs.Common.{◌≡◌, ◌≢◌, ℕ, suc, ◌+◌, List, [], ◌∷◌, ◌++◌, length, None, refl, sym, ap, ◌∙◌, subst, ⊎_elim, inl, inr, ◌⊎◌, arith, Bool, true, false}
use Rattle.std.proofs.lemmas.List.Sums.{sum_by-append}
use Rattle.std.specs.List.{sum_by}
use Rattle.std.specs.Prelude.{cond, ◌==◌, ◌&&◌, if◌then◌else◌, count_by}
use Rattle.std.proofs.Math.Path.{fun_ext}
use Rattle.std.proofs.lemmas.Bool.{and_parts, both_ways, cases_eq, eq-eqb, eqb-true, ne_eqb, false_from_ne_true}
use Rattle.kernel_tree.specs.Item.{Item, Wants, Ends, Waits, Reads, ReadsFour, next}
use Rattle.kernel_tree.specs.declared.events.Event.{Event}
use Rattle.kernel_tree.specs.declared.events.Event.TheVariants.{Step, Release}
use Rattle.kernel_tree.specs.Code.{Array, Input, Output, Local, Private}
use Rattle.kernel_tree.specs.Launch.{Launch, IsWhole, group_of, first_item, ids_of}
use Rattle.kernel_tree.specs.Device.{Device, Cell, State, Memory, Fence, same_array, same_cell, fence_of, wants, CanStep, StandTogether, Enabled, moves, taken, stored, has_flag, releases, after, run, IsRun, IsStuck, write}
use Rattle.kernel_tree.specs.Faults.{Access, access_at, accessed, accesses_of, accesses, Among, IsRace, failure, failure_of, NoFailure, NoRace}
use Rattle.kernel_tree.specs.Histories.{Act, act_of, acts_of, history}
use Rattle.kernel_tree.proofs.Grouping.{first_of_group}
use Rattle.kernel_tree.proofs.Accessed.{Put, puts, gets, cells_of, put_all, stored_is, get_made, put_made, four_words-same}

-- two events touch no item together
abbrev pub Apart : Device → Event → Event → Type 0
Apart d e f = (j : ℕ) → moves d.launch e j ≡ true → moves d.launch f j ≡ false

pub stands_or_steps : (v w : Wants) → CanStep w → StandTogether v w → ⊥
stands_or_steps v Ends c h = absurd c
stands_or_steps v (Waits a b x) c h = absurd c
stands_or_steps (Waits a b x) _ c h = h
stands_or_steps _ _ c h = h

pub event_cases : (e f : Event) → (e ≡ f) ⊎ (e ≢ f)
event_cases (Step k) (Step m) = ⊎_elim (λ h. inl (ap Step h)) (λ n. inr (λ h. n (cc))) (cases_eq k m)
event_cases (Step k) (Release g) = inr (λ h. cc)
event_cases (Release g) (Step k) = inr (λ h. cc)
event_cases (Release g) (Release h) = ⊎_elim (λ h. inl (ap Release h)) (λ n. inr (λ h. n (cc))) (cases_eq g h)

module _ (d : Device) where
  pub enabled_apart : (s : State) (e f : Event) → e ≢ f → Enabled d s e → Enabled d s f → Apart d e f
  enabled_apart s (Step k) (Step m) n a b j h = ne_eqb j m (λ q. n (ap Step (sym (eqb-true j k h) ∙ q)))
  enabled_apart s (Step k) (Release g) n a b j h =
      let e : j ≡ k = eqb-true j k h in
      ne_eqb (group_of d.launch j) g (λ q. stands_or_steps _ _ a.1 (b.1 k (ap (group_of d.launch) (sym e) ∙ q)))
  enabled_apart s (Release g) (Step k) n a b j h =
      let e : group_of d.launch j ≡ g = eqb-true (group_of d.launch j) g h in
      ne_eqb j k (λ q. stands_or_steps _ _ b.1 (a.1 k (ap (group_of d.launch) (sym q) ∙ e)))
  enabled_apart s (Release g) (Release h) n a b j q =
      ne_eqb (group_of d.launch j) h (λ r. n (ap Release (sym (eqb-true (group_of d.launch j) g q) ∙ r)))

  -- what an event leaves alone
  pub items_kept : (s : State) (f : Event) (j : ℕ) → moves d.launch f j ≡ false → (after d s f).items j ≡ s.items j
  unfolding after
  items_kept s f j h = rw h

  pub wants_kept : (s : State) (f : Event) (j : ℕ) → moves d.launch f j ≡ false → wants d (after d s f) j ≡ wants d s j
  wants_kept s f j h = ap (next (ids_of d.launch j)) (items_kept s f j h)

module _ (d : Device) (whole : IsWhole d.launch) where
  pub moves-first : (g : ℕ) → moves d.launch (Release g) (first_item d.launch g) ≡ true
  moves-first g = eq-eqb _ _ (first_of_group d.launch whole g)

  pub enabled_kept : (s : State) (e f : Event) → Apart d e f → Enabled d s e → Enabled d (after d s f) e
  enabled_kept s (Step k) f ap_ h = (h.0, subst CanStep (sym (wants_kept d s f k (ap_ k (eq-eqb k k refl)))) h.1)
  enabled_kept s (Release g) f ap_ h =
      (h.0, λ j q. rw (wants_kept d s f (first_item d.launch g) (ap_ _ (moves-first g)), wants_kept d s f j (ap_ j (eq-eqb _ _ q))) (h.1 j q))

  pub enabled_back : (s : State) (e f : Event) → Apart d e f → Enabled d (after d s f) e → Enabled d s e
  enabled_back s (Step k) f apart h = (h.0, subst CanStep (wants_kept d s f k (apart k (eq-eqb k k refl))) h.1)
  enabled_back s (Release g) f apart h =
      (h.0, λ j q. subst (λ w. StandTogether w (wants d s j)) (wants_kept d s f (first_item d.launch g) (apart _ (moves-first g))) (subst (λ w. StandTogether (wants d (after d s f) (first_item d.launch g)) w) (wants_kept d s f j (apart j (eq-eqb _ _ q))) (h.1 j q)))

  failure_kept : (s : State) (e f : Event) → Apart d e f → failure_of d (after d s f) e ≡ failure_of d s e
  unfolding failure_of
  failure_kept s (Step k) f ap_ = ap (failure d) (wants_kept d s f k (ap_ k (eq-eqb k k refl)))
  failure_kept s (Release g) f ap_ = refl

  epochs_kept : (s : State) (f : Event) (k : ℕ) → moves d.launch f k ≡ false → (after d s f).epochs (group_of d.launch k) ≡ s.epochs (group_of d.launch k)
  unfolding after
  epochs_kept s (Step m) k h = refl
  epochs_kept s (Release g) k h = fun_ext (λ b. rw h refl)

  accesses_kept : (s : State) (e f : Event) → Apart d e f → accesses_of d (after d s f) e ≡ accesses_of d s e
  unfolding accesses_of
  accesses_kept s (Step k) f ap_ =
      let h = ap_ k (eq-eqb k k refl) in
      ap (λ w. accessed d.launch k w ((after d s f).epochs (group_of d.launch k))) (wants_kept d s f k h)
      ∙ ap (accessed d.launch k (wants d s k)) (epochs_kept s f k h)
  accesses_kept s (Release g) f ap_ = refl

-- memory

pub same_array-true : (a b : Array) → same_array a b ≡ true → a ≡ b
same_array-true (Input m) (Input n) h = ap Input (eqb-true m n h)
same_array-true (Output m) (Output n) h = ap Output (eqb-true m n h)
same_array-true (Local m) (Local n) h = ap Local (eqb-true m n h)
same_array-true (Private m) (Private n) h = ap Private (eqb-true m n h)
same_array-true (Input m) _ h = cc
same_array-true (Output m) _ h = cc
same_array-true (Local m) _ h = cc
same_array-true (Private m) _ h = cc

pub same_array-itself : (a : Array) → same_array a a ≡ true
same_array-itself (Input n) = eq-eqb n n refl
same_array-itself (Output n) = eq-eqb n n refl
same_array-itself (Local n) = eq-eqb n n refl
same_array-itself (Private n) = eq-eqb n n refl

cell_path : (c d : Cell) → c.array ≡ d.array → c.home ≡ d.home → c.index ≡ d.index → c ≡ d
cell_path c d p q r = λ i. record { array = p i; home = q i; index = r i }

pub same_cell-true : (c d : Cell) → same_cell c d ≡ true → c ≡ d
same_cell-true c d h =
    let a = and_parts (same_array c.array d.array) _ h in
    let b = and_parts (c.home == d.home) _ a.1 in
    cell_path c d (same_array-true _ _ a.0) (eqb-true _ _ b.0) (eqb-true _ _ b.1)

pub same_cell-itself : (c : Cell) → same_cell c c ≡ true
same_cell-itself c = rw (same_array-itself c.array, eq-eqb c.home _ refl, eq-eqb c.index _ refl) refl

pub write-other : (c d : Cell) (v : ℕ) (m : Memory) → d ≢ c → write c v m d ≡ m d
unfolding write
write-other c d v m n = rw (false_from_ne_true (same_cell d c) (λ h. n (same_cell-true d c h))) refl

write-commute : (c d : Cell) (v w : ℕ) (m : Memory) → c ≢ d → write c v (write d w m) ≡ write d w (write c v m)
unfolding write
write-commute c d v w m n = fun_ext (λ e. go e (same_cell e c) (same_cell e d) refl refl)
  where
    go : (e : Cell) (a b : Bool) → same_cell e c ≡ a → same_cell e d ≡ b → (if a then v else (if b then w else m e)) ≡ (if b then w else (if a then v else m e))
    go e true true p q = absurd (n (sym (same_cell-true e c p) ∙ same_cell-true e d q))
    go e true false p q = refl
    go e false b p q = refl

-- many words
pub put_all-other : (ps : List Put) (m : Memory) (d : Cell) → (Among d (cells_of ps) → ⊥) → put_all ps m d ≡ m d
put_all-other [] m d n = refl
put_all-other (p ∷ ps) m d n = put_all-other ps (write p.0 p.1 m) d (λ h. n (inr h)) ∙ write-other p.0 d p.1 m (λ e. n (inl e))

put_one-commute : (c : Cell) (v : ℕ) (ps : List Put) (m : Memory) → (Among c (cells_of ps) → ⊥) → write c v (put_all ps m) ≡ put_all ps (write c v m)
put_one-commute c v [] m n = refl
put_one-commute c v (p ∷ ps) m n =
    put_one-commute c v ps (write p.0 p.1 m) (λ h. n (inr h)) ∙ ap (put_all ps) (write-commute c p.0 v p.1 m (λ e. n (inl e)))

put_all-commute : (ps qs : List Put) (m : Memory) → ((c : Cell) → Among c (cells_of ps) → Among c (cells_of qs) → ⊥) → put_all ps (put_all qs m) ≡ put_all qs (put_all ps m)
put_all-commute [] qs m apart = refl
put_all-commute (p ∷ ps) qs m apart =
    ap (put_all ps) (put_one-commute p.0 p.1 qs m (λ h. apart p.0 (inl refl) h)) ∙ put_all-commute ps qs (write p.0 p.1 m) (λ c h. apart c (inr h))

stored-other : (l : Launch) (k : ℕ) (w : Wants) (m : Memory) (c : Cell) → (Among c (cells_of (puts l k w)) → ⊥) → stored l k w m c ≡ m c
stored-other l k w m c n = ap (λ (x : Memory). x c) (stored_is l k w m) ∙ put_all-other (puts l k w) m c n

module _ (d : Device) (s : State) where
  -- accesses of two items to one cell, one a write, race
  race_when : (k m g h : ℕ) (c b : Cell) (w v : Bool) → k ≢ m → c ≡ b → (w ≡ true) ⊎ (v ≡ true) → IsRace (access_at g k c w (s.epochs g)) (access_at h m b v (s.epochs h))
  race_when k m g h c b w v n e x = record {
    cell = e;
    items = n;
    write = x;
    together = ⊎_elim (λ q. inr (ap (λ z. s.epochs g (fence_of z)) e ∙ ap (λ z. s.epochs z (fence_of b)) q)) inl (cases_eq g h);
  }

  Clear : (k m : ℕ) → Wants → Wants → Type 0
  Clear k m w v = (a b : Access) → Among a (accessed d.launch k w (s.epochs (group_of d.launch k))) → Among b (accessed d.launch m v (s.epochs (group_of d.launch m))) → IsRace a b → ⊥

  -- neither writes what the other accesses
  get_apart : (k m : ℕ) (w v : Wants) → k ≢ m → Clear k m w v → (c : Cell) → Among c (gets d.launch k w) → Among c (cells_of (puts d.launch m v)) → ⊥
  unfolding Clear
  get_apart k m w v ne clear c i j =
      clear _ _ (get_made d.launch k w _ c i) (put_made d.launch m v _ c j) (race_when k m _ _ c c false true ne refl (inr refl))

  put_apart : (k m : ℕ) (w v : Wants) → k ≢ m → Clear k m w v → (c : Cell) → Among c (cells_of (puts d.launch k w)) → Among c (cells_of (puts d.launch m v)) → ⊥
  unfolding Clear
  put_apart k m w v ne clear c i j =
      clear _ _ (put_made d.launch k w _ c i) (put_made d.launch m v _ c j) (race_when k m _ _ c c true true ne refl (inl refl))

  taken_kept : (k m : ℕ) (w v : Wants) (y : Item) → k ≢ m → Clear k m w v → taken d.launch k w (stored d.launch m v s.memory) y ≡ taken d.launch k w s.memory y
  taken_kept k m (Reads a n f) v y ne clear = ap f (stored-other d.launch m v s.memory _ (λ h. get_apart k m (Reads a n f) v ne clear _ (inl refl) h))
  taken_kept k m (ReadsFour a n f) v y ne clear =
      ap f (four_words-same _ _ _ (λ b i. stored-other d.launch m v s.memory b (λ h. get_apart k m (ReadsFour a n f) v ne clear b i h)))
  taken_kept k m _ v y ne clear = refl

  stored_commute : (k m : ℕ) (w v : Wants) → k ≢ m → Clear k m w v → stored d.launch k w (stored d.launch m v s.memory) ≡ stored d.launch m v (stored d.launch k w s.memory)
  stored_commute k m w v ne clear =
      let here = puts d.launch k w in
      let there = puts d.launch m v in
      ap (stored d.launch k w) (stored_is d.launch m v s.memory)
      ∙ stored_is d.launch k w (put_all there s.memory)
      ∙ put_all-commute here there s.memory (λ c i j. put_apart k m w v ne clear c i j)
      ∙ sym (ap (stored d.launch m v) (stored_is d.launch k w s.memory) ∙ stored_is d.launch m v (put_all here s.memory))

-- two events that are enabled together, and whose accesses don't race, may be swapped

standing_taken : (d : Device) (k : ℕ) (v w : Wants) (m n : Memory) (y : Item) → StandTogether v w → taken d.launch k w m y ≡ taken d.launch k w n y
standing_taken d k (Waits a b x) (Waits e f z) m n y h = refl
standing_taken d k (Waits a b x) _ m n y h = absurd h
standing_taken d k _ _ m n y h = absurd h

NoClash : Device → State → Event → Event → Type 0
NoClash d s e f = (a b : Access) → Among a (accesses_of d s e) → Among b (accesses_of d s f) → IsRace a b → ⊥

pub turned : (a b : Access) → IsRace a b → IsRace b a
turned a b r = record {
  cell = sym r.cell;
  items = λ p. r.items (sym p);
  write = ⊎_elim (λ x. inr x) (λ x. inl x) r.write;
  together = ⊎_elim (λ x. inl (λ p. x (sym p))) (λ x. inr (sym x)) r.together;
}

clash_turned : (d : Device) (s : State) (e f : Event) → NoClash d s e f → NoClash d s f e
unfolding NoClash
clash_turned d s e f h a b x y r = h b a y x (turned a b r)

pub state_path : (s t : State) → ((j : ℕ) → s.items j ≡ t.items j) → s.memory ≡ t.memory → ((g : ℕ) (f : Fence) → s.epochs g f ≡ t.epochs g f) → s ≡ t
state_path s t p q r = λ i. record { items = λ j. p j i; memory = q i; epochs = λ g b. r g b i }

pub item_after : Device → State → ℕ → Item
item_after d s j = taken d.launch j (wants d s j) s.memory (s.items j)

pub items_after-touched : (d : Device) (s : State) (e : Event) (j : ℕ) → moves d.launch e j ≡ true → (after d s e).items j ≡ item_after d s j
unfolding after item_after
items_after-touched d s e j h = rw h

module _ (d : Device) (whole : IsWhole d.launch) (s : State) where
  item_after-kept : (e f : Event) (j : ℕ) → Enabled d s e → Apart d e f → NoClash d s e f → moves d.launch e j ≡ true → item_after d (after d s f) j ≡ item_after d s j
  unfolding item_after NoClash accesses_of after Clear
  item_after-kept (Step k) (Step m) j en ap_ clear h =
      let q : j ≡ k = eqb-true j k h in
      let n : k ≢ m = λ r. both_ways (j == m) (ap_ j h) (eq-eqb j m (q ∙ r)) in
      let w = wants_kept d s (Step m) j (ap_ j h) in
      let t = items_kept d s (Step m) j (ap_ j h) in
      ap (λ v. taken d.launch j v (after d s (Step m)).memory ((after d s (Step m)).items j)) w
      ∙ ap (λ y. taken d.launch j (wants d s j) (after d s (Step m)).memory y) t
      ∙ subst (λ z. taken d.launch z (wants d s z) (after d s (Step m)).memory (s.items j) ≡ taken d.launch z (wants d s z) s.memory (s.items j)) (sym q) (taken_kept d s k m (wants d s k) (wants d s m) (s.items j) n clear)
  item_after-kept (Step k) (Release g) j en ap_ clear h =
      ap (λ v. taken d.launch j v s.memory ((after d s (Release g)).items j)) (wants_kept d s (Release g) j (ap_ j h))
      ∙ ap (λ y. taken d.launch j (wants d s j) s.memory y) (items_kept d s (Release g) j (ap_ j h))
  item_after-kept (Release g) f j en ap_ clear h =
      ap (λ v. taken d.launch j v (after d s f).memory ((after d s f).items j)) (wants_kept d s f j (ap_ j h))
      ∙ ap (λ y. taken d.launch j (wants d s j) (after d s f).memory y) (items_kept d s f j (ap_ j h))
      ∙ standing_taken d j _ _ _ _ _ (en.1 j (eqb-true _ _ h))

  items_swap : (e f : Event) (j : ℕ) → Enabled d s e → Enabled d s f → Apart d e f → Apart d f e → NoClash d s e f → NoClash d s f e → (a b : Bool) → moves d.launch e j ≡ a → moves d.launch f j ≡ b → (after d (after d s f) e).items j ≡ (after d (after d s e) f).items j
  items_swap e f j ee ef a1 a2 c1 c2 true b p q =
      items_after-touched d (after d s f) e j p ∙ item_after-kept e f j ee a1 c1 p
      ∙ sym (items_kept d (after d s e) f j (a1 j p) ∙ items_after-touched d s e j p)
  items_swap e f j ee ef a1 a2 c1 c2 false true p q =
      items_kept d (after d s f) e j p ∙ items_after-touched d s f j q
      ∙ sym (items_after-touched d (after d s e) f j q ∙ item_after-kept f e j ef a2 c2 q)
  items_swap e f j ee ef a1 a2 c1 c2 false false p q =
      items_kept d (after d s f) e j p ∙ items_kept d s f j q
      ∙ sym (items_kept d (after d s e) f j q ∙ items_kept d s e j p)

  memory_swap : (e f : Event) → e ≢ f → Apart d e f → Apart d f e → NoClash d s e f → (after d (after d s f) e).memory ≡ (after d (after d s e) f).memory
  unfolding after NoClash accesses_of Clear
  memory_swap (Step k) (Step m) n a1 a2 c =
      let km : k ≢ m = λ r. n (ap Step r) in
      ap (λ w. stored d.launch k w (stored d.launch m (wants d s m) s.memory)) (wants_kept d s (Step m) k (a1 k (eq-eqb k k refl)))
      ∙ stored_commute d s k m (wants d s k) (wants d s m) km c
      ∙ ap (λ w. stored d.launch m w (stored d.launch k (wants d s k) s.memory)) (sym (wants_kept d s (Step k) m (a2 m (eq-eqb m m refl))))
  memory_swap (Step k) (Release g) n a1 a2 c = ap (λ w. stored d.launch k w s.memory) (wants_kept d s (Release g) k (a1 k (eq-eqb k k refl)))
  memory_swap (Release g) (Step m) n a1 a2 c = ap (λ w. stored d.launch m w s.memory) (sym (wants_kept d s (Release g) m (a2 m (eq-eqb m m refl))))
  memory_swap (Release g) (Release h) n a1 a2 c = refl

  releases_kept : (e f : Event) (h : ℕ) (b : Fence) → Apart d e f → releases d (after d s f) e h b ≡ releases d s e h b
  releases_kept (Step k) f h b a = refl
  releases_kept (Release g) f h b a = ap (λ w. (h == g) && has_flag w b) (wants_kept d s f (first_item d.launch g) (a _ (moves-first d whole g)))

  more_swap : (a b : Bool) (n : ℕ) → (if a then suc (if b then suc n else n) else (if b then suc n else n)) ≡ (if b then suc (if a then suc n else n) else (if a then suc n else n))
  more_swap true true n = refl
  more_swap true false n = refl
  more_swap false b n = refl

  epochs_swap : (e f : Event) (h : ℕ) (b : Fence) → Apart d e f → Apart d f e → (after d (after d s f) e).epochs h b ≡ (after d (after d s e) f).epochs h b
  unfolding after
  epochs_swap e f h b a1 a2 =
      let n = s.epochs h b in
      let x = releases d s e h b in
      let y = releases d s f h b in
      ap (λ z. if z then suc (if y then suc n else n) else (if y then suc n else n)) (releases_kept e f h b a1)
      ∙ more_swap x y n
      ∙ sym (ap (λ z. if z then suc (if x then suc n else n) else (if x then suc n else n)) (releases_kept f e h b a2))

  swap : (e f : Event) → e ≢ f → Enabled d s e → Enabled d s f → NoClash d s e f → NoClash d s f e → after d (after d s f) e ≡ after d (after d s e) f
  swap e f n ee ef c1 c2 =
      let a1 = enabled_apart d s e f n ee ef in
      let a2 = enabled_apart d s f e (λ p. n (sym p)) ef ee in
      state_path _ _ (λ j. items_swap e f j ee ef a1 a2 c1 c2 (moves d.launch e j) (moves d.launch f j) refl refl) (memory_swap e f n a1 a2 c1) (λ h b. epochs_swap e f h b a1 a2)

-- members of lists

pub among-append : {A : Type 0} (x : A) (xs ys : List A) → Among x (xs ++ ys) → Among x xs ⊎ Among x ys
among-append x [] ys h = inr h
among-append x (z ∷ xs) ys h = ⊎_elim (λ e. inl (inl e)) (λ r. ⊎_elim (λ a. inl (inr a)) (λ b. inr b) (among-append x xs ys r)) h

pub among-left : {A : Type 0} (x : A) (xs ys : List A) → Among x xs → Among x (xs ++ ys)
among-left x [] ys h = absurd h
among-left x (z ∷ xs) ys h = ⊎_elim (λ e. inl e) (λ r. inr (among-left x xs ys r)) h

pub among-right : {A : Type 0} (x : A) (xs ys : List A) → Among x ys → Among x (xs ++ ys)
among-right x [] ys h = h
among-right x (z ∷ xs) ys h = inr (among-right x xs ys h)

among-swap : {A : Type 0} (x : A) (xs ys zs : List A) → Among x (xs ++ (ys ++ zs)) → Among x (ys ++ (xs ++ zs))
among-swap x xs ys zs h =
    ⊎_elim
    (λ a. among-right x ys (xs ++ zs) (among-left x xs zs a))
    (λ r. ⊎_elim (λ b. among-left x ys (xs ++ zs) b) (λ c. among-right x ys (xs ++ zs) (among-right x xs zs c)) (among-append x ys zs r))
    (among-append x xs (ys ++ zs) h)

abbrev weight : (Access → Bool) → Access → ℕ
weight p x = cond (p x) 1 0

-- two events that move no item together tell the same of each item in either order
acts_swap : (d : Device) (s : State) (e f : Event) (k : ℕ) (rest : List Act) → Apart d e f → Apart d f e → acts_of d s e k ++ (acts_of d (after d s e) f k ++ rest) ≡ acts_of d s f k ++ (acts_of d (after d s f) e k ++ rest)
acts_swap d s e f k rest a1 a2 = go (moves d.launch e k) (moves d.launch f k) refl refl
  where
    act : State → Act
    act t = act_of d.launch k (wants d t k)

    go : (a b : Bool) → moves d.launch e k ≡ a → moves d.launch f k ≡ b → acts_of d s e k ++ (acts_of d (after d s e) f k ++ rest) ≡ acts_of d s f k ++ (acts_of d (after d s f) e k ++ rest)
    go true b p q = rw (p, a1 k p) (ap (λ w. act_of d.launch k w ∷ rest) (sym (wants_kept d s f k (a1 k p))))
    go false true p q = rw (p, q) (ap (λ w. act_of d.launch k w ∷ rest) (wants_kept d s e k p))
    go false false p q = rw (p, q) refl

-- another run that ends there too, by as many events and with the same accesses
pub record SameEnd (d : Device) (s : State) (es fs : List Event) : Type 0 where
  pub is_run : IsRun d s fs
  pub no_failure : NoFailure d s fs
  pub ends : run d s fs ≡ run d s es
  pub long : length fs ≡ length es
  pub events : (q : Event → Bool) → count_by q fs ≡ count_by q es
  pub among : (a : Access) → Among a (accesses d s fs) → Among a (accesses d s es)
  pub count : (p : Access → Bool) → count_by p (accesses d s fs) ≡ count_by p (accesses d s es)
  pub history : (k : ℕ) → history d s fs k ≡ history d s es k

module _ (d : Device) where
  pub same_end_itself : (s : State) (es : List Event) → IsRun d s es → NoFailure d s es → SameEnd d s es es
  same_end_itself s es r f = record { is_run = r; no_failure = f; ends = refl; long = refl; events = λ q. refl; among = λ a h. h; count = λ p. refl; history = λ k. refl }

  pub same_end_on : (s : State) (es fs gs : List Event) → SameEnd d s es fs → SameEnd d s fs gs → SameEnd d s es gs
  same_end_on s es fs gs a b = record {
    is_run = b.is_run;
    no_failure = b.no_failure;
    ends = b.ends ∙ a.ends;
    long = b.long ∙ a.long;
    events = λ q. b.events q ∙ a.events q;
    among = λ x h. a.among x (b.among x h);
    count = λ p. b.count p ∙ a.count p;
    history = λ k. b.history k ∙ a.history k;
  }

  among_ahead : (s : State) (e : Event) (es fs : List Event) → SameEnd d (after d s e) es fs → (a : Access) → Among a (accesses d s (e ∷ fs)) → Among a (accesses d s (e ∷ es))
  among_ahead s e es fs r a h =
      ⊎_elim
      (λ x. among-left a (accesses_of d s e) (accesses d (after d s e) es) x)
      (λ y. among-right a (accesses_of d s e) (accesses d (after d s e) es) (r.among a y))
      (among-append a (accesses_of d s e) (accesses d (after d s e) fs) h)

  count_ahead : (p : Access → Bool) (xs ys zs : List Access) → count_by p ys ≡ count_by p zs → count_by p (xs ++ ys) ≡ count_by p (xs ++ zs)
  count_ahead p xs ys zs h = sum_by-append (weight p) xs ys ∙ ap (λ n. sum_by (weight p) xs + n) h ∙ sym (sum_by-append (weight p) xs zs)

  count_swap : (p : Access → Bool) (xs ys zs : List Access) → count_by p (xs ++ (ys ++ zs)) ≡ count_by p (ys ++ (xs ++ zs))
  count_swap p xs ys zs =
      let f = weight p in
      let a = sum_by-append f xs (ys ++ zs) in
      let b = sum_by-append f ys zs in
      let c = sum_by-append f ys (xs ++ zs) in
      let d = sum_by-append f xs zs in
      omega arith

  event_ahead : (q : Event → Bool) (e : Event) (fs es : List Event) → count_by q fs ≡ count_by q es → count_by q (e ∷ fs) ≡ count_by q (e ∷ es)
  event_ahead q e fs es h =
      let f = λ (x : Event). cond (q x) 1 0 in
      sum_by-append f (e ∷ []) fs ∙ ap (λ n. sum_by f (e ∷ []) + n) h ∙ sym (sum_by-append f (e ∷ []) es)

  event_swap : (q : Event → Bool) (e f : Event) (es : List Event) → count_by q (e ∷ f ∷ es) ≡ count_by q (f ∷ e ∷ es)
  event_swap q e f es =
      let w : Event → ℕ = λ x. cond (q x) 1 0 in
      let a : count_by q (e ∷ f ∷ es) ≡ sum_by w (e ∷ []) + count_by q (f ∷ es) = sum_by-append w (e ∷ []) (f ∷ es) in
      let b : count_by q (f ∷ es) ≡ sum_by w (f ∷ []) + count_by q es = sum_by-append w (f ∷ []) es in
      let c : count_by q (f ∷ e ∷ es) ≡ sum_by w (f ∷ []) + count_by q (e ∷ es) = sum_by-append w (f ∷ []) (e ∷ es) in
      let g : count_by q (e ∷ es) ≡ sum_by w (e ∷ []) + count_by q es = sum_by-append w (e ∷ []) es in
      omega arith

  pub same_end_ahead : (s : State) (e : Event) (es fs : List Event) → Enabled d s e → failure_of d s e ≡ None → SameEnd d (after d s e) es fs → SameEnd d s (e ∷ es) (e ∷ fs)
  same_end_ahead s e es fs en ok r = record {
    is_run = (en, r.is_run);
    no_failure = (ok, r.no_failure);
    ends = r.ends;
    long = ap suc r.long;
    events = λ q. event_ahead q e fs es (r.events q);
    among = among_ahead s e es fs r;
    count = λ p. count_ahead p (accesses_of d s e) _ _ (r.count p);
    history = λ k. ap (λ xs. acts_of d s e k ++ xs) (r.history k);
  }

module _ (d : Device) (whole : IsWhole d.launch) where
  -- what two runs share, when their first two events are swapped
  same_end_swapped : (s : State) (e f : Event) (es : List Event) → e ≢ f → Enabled d s e → Enabled d s f → NoClash d s e f → NoFailure d s (f ∷ e ∷ es) → IsRun d (after d (after d s f) e) es → SameEnd d s (f ∷ e ∷ es) (e ∷ f ∷ es)
  same_end_swapped s e f es n ee ef clear ok r =
      let back : f ≢ e = λ p. n (sym p) in
      let a1 = enabled_apart d s e f n ee ef in
      let a2 = enabled_apart d s f e back ef ee in
      let clear2 : NoClash d s f e = clash_turned d s e f clear in
      let same : after d (after d s f) e ≡ after d (after d s e) f = swap d whole s e f n ee ef clear clear2 in
      let acc_e = accesses_kept d whole s e f a1 in
      let acc_f = accesses_kept d whole s f e a2 in
      let rest = accesses d (after d (after d s f) e) es in
      let acc : accesses d s (e ∷ f ∷ es) ≡ accesses_of d s e ++ (accesses_of d s f ++ rest) =
      ap (λ xs. accesses_of d s e ++ (xs ++ accesses d (after d (after d s e) f) es)) acc_f
      ∙ ap (λ t. accesses_of d s e ++ (accesses_of d s f ++ accesses d t es)) (sym same) in
      let acc' : accesses d s (f ∷ e ∷ es) ≡ accesses_of d s f ++ (accesses_of d s e ++ rest) =
      ap (λ xs. accesses_of d s f ++ (xs ++ rest)) acc_e in
      record {
        is_run = (ee, (enabled_kept d whole s f e a2 ef, subst (λ t. IsRun d t es) same r));
        no_failure = (sym (failure_kept d whole s e f a1) ∙ ok.1.0, (failure_kept d whole s f e a2 ∙ ok.0, subst (λ t. NoFailure d t es) same ok.1.1));
        ends = ap (λ t. run d t es) (sym same);
        long = refl;
        events = λ q. event_swap d q e f es;
        among = λ a h. subst (Among a) (sym acc') (among-swap a (accesses_of d s e) (accesses_of d s f) rest (subst (Among a) acc h));
        count = λ p. ap (count_by p) acc ∙ count_swap d p (accesses_of d s e) (accesses_of d s f) rest ∙ sym (ap (count_by p) acc');
        history = λ k.
            ap (λ t. acts_of d s e k ++ (acts_of d (after d s e) f k ++ history d t es k)) (sym same)
            ∙ acts_swap d s e f k (history d (after d (after d s f) e) es k) a1 a2;
      }

  pub no_race_later : (s : State) (f : Event) (es : List Event) → NoRace d s (f ∷ es) → NoRace d (after d s f) es
  no_race_later s f es clear a b x y = clear a b (among-right a (accesses_of d s f) _ x) (among-right b (accesses_of d s f) _ y)

  pub onward : (s : State) (e f : Event) (es fs : List Event) → e ≢ f → Enabled d s e → IsRun d s (f ∷ es) → NoFailure d s (f ∷ es) → NoRace d s (f ∷ es) → SameEnd d (after d s f) es (e ∷ fs) → SameEnd d s (f ∷ es) (e ∷ f ∷ fs)
  unfolding NoClash
  onward s e f es fs n en r ok clear a =
      let apart = enabled_apart d s e f n en r.0 in
      let early = λ (x : Access) (h : Among x (accesses_of d s e)).
      a.among x (among-left x (accesses_of d (after d s f) e) _ (subst (Among x) (sym (accesses_kept d whole s e f apart)) h)) in
      let clash : NoClash d s e f =
      λ x y hx hy. clear x y (among-right x (accesses_of d s f) _ (early x hx)) (among-left y (accesses_of d s f) _ hy) in
      same_end_on d s (f ∷ es) (f ∷ e ∷ fs) (e ∷ f ∷ fs) (same_end_ahead d s f es (e ∷ fs) r.0 ok.0 a) (same_end_swapped s e f fs n en r.0 clash (ok.0, a.no_failure) a.is_run.1)

  -- an event that is enabled comes somewhere in a run that goes on to the end, and may come first
  pub pulled : (s : State) (es : List Event) (e : Event) → IsRun d s es → NoFailure d s es → NoRace d s es → IsStuck d (run d s es) → Enabled d s e → (fs : List Event) × SameEnd d s es (e ∷ fs)
  pulled s [] e r ok clear stuck en = absurd (stuck e en)
  pulled s (f ∷ es) e r ok clear stuck en =
      ⊎_elim
      (λ p. (es, subst (λ x. SameEnd d s (f ∷ es) (x ∷ es)) (sym p) (same_end_itself d s (f ∷ es) r ok)))
      (λ n. let a = pulled (after d s f) es e r.1 ok.1 (no_race_later s f es clear) stuck (enabled_kept d whole s e f (enabled_apart d s e f n en r.0) en) in (f ∷ a.0, onward s e f es a.0 n en r ok clear a.1))
      (event_cases e f)

  -- every run goes on to the same end
  pub confluent : (es fs : List Event) (s : State) → IsRun d s es → NoFailure d s es → NoRace d s es → IsStuck d (run d s es) → IsRun d s fs → (rest : List Event) × SameEnd d s es (fs ++ rest)
  confluent es [] s r ok clear stuck q = (es, same_end_itself d s es r ok)
  confluent es (f ∷ fs) s r ok clear stuck q =
      let a = pulled s es f r ok clear stuck q.0 in
      let none : NoRace d (after d s f) a.0 =
      λ x y hx hy. clear x y (a.1.among x (among-right x (accesses_of d s f) _ hx)) (a.1.among y (among-right y (accesses_of d s f) _ hy)) in
      let b = confluent a.0 fs (after d s f) a.1.is_run.1 a.1.no_failure.1 none (subst (IsStuck d) (sym a.1.ends) stuck) q.1 in
      (b.0, same_end_on d s es (f ∷ a.0) (f ∷ (fs ++ b.0)) a.1 (same_end_ahead d s f a.0 (fs ++ b.0) q.0 a.1.no_failure.0 b.1))
