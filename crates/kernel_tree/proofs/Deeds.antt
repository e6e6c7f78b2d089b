-- Rules for one item, a statement at a time, and what they say of the device.
use Rattle.std.proofs.Common.{◌≡◌, ℕ, zero, suc, ◌+◌, ◌*◌, ◌<◌, ◌≤◌, ◌^◌, List, [], ◌∷◌, ◌++◌, Some, None, Bool, true, false, refl, sym, ap, ◌∙◌, subst, arith}
use Rattle.std.specs.Prelude.{◌==◌, if◌then◌else◌, nat_lt}
use Rattle.std.proofs.lemmas.Bool.{eq-eqb, eqb-true, lt-ltb, le-ltb}
use Rattle.kernel_tree.specs.declared.events.Event.TheVariants.{Step}
use Rattle.kernel_tree.specs.Formula.{Formula, Lanes, Four, Vars, set_word, set_vector, value, bound_value, lanes_value}
use Rattle.kernel_tree.specs.Code.{Array, Start, Stride, start_value, stride_value, Code, End, Performs, Assigns, Loads, Stores, AssignsFour, LoadsFour, StoresFour, Loops, Guards, then_rest}
use Rattle.kernel_tree.specs.Launch.{group_of, ids_of, item_count}
use Rattle.kernel_tree.specs.Item.{Item, item, Frame, loop_variables, Wants, Moves, Reads, Writes, ReadsFour, WritesFour, next, tested}
use Rattle.kernel_tree.specs.Device.{Device, Cell, cell_at, four_at, four_words, write_four, State, Memory, Fence, write, wants, CanStep, taken, stored, after}
use Rattle.kernel_tree.specs.Faults.{access_at, access_four, accessed, accesses_of, accesses, failure, failure_of}
use Rattle.kernel_tree.specs.Deeds.{alone_state, AloneRun, Deed, Moved, Got, Gave, GotFour, GaveFour, Does, Goes, deed_memory, written, deed_access, steps_of, all_turns}
use Rattle.kernel_tree.proofs.Confluence.{state_path}

module _ (d : Device) (k : ℕ) where
  pub goes_on : (x y z : Item) (m : Memory) (ds es : List Deed) → Goes d k x m ds y → Goes d k y (written ds m) es z → Goes d k x m (ds ++ es) z
  goes_on x y z m [] es a b = subst (λ t. Goes d k t m es z) (sym a) b
  goes_on x y z m (e ∷ ds) es a b = (a.0, a.1, goes_on a.0 y z (deed_memory e m) ds es a.2 b)

  pub goes_once : (x y : Item) (m : Memory) (e : Deed) → Does d k (next (ids_of d.launch k) x) m e y → Goes d k x m (e ∷ []) y
  goes_once x y m e h = (y, h, refl)

  pub goes_moved : (x y : Item) (m : Memory) → next (ids_of d.launch k) x ≡ Moves y → Goes d k x m (Moved ∷ []) y
  goes_moved x y m e = goes_once x y m Moved (rw e refl)

  module _ (fs : List Frame) (vars : Vars) (m : Memory) where
    pub goes_assign : (v : ℕ) (e : Formula) (rest : Code) (x : ℕ) → value (ids_of d.launch k) (loop_variables fs) vars e ≡ Some x → Goes d k (item (Performs (Assigns v e) rest) fs vars) m (Moved ∷ []) (item rest fs (set_word vars v x))
    unfolding next
    goes_assign v e rest x h = goes_once (item (Performs (Assigns v e) rest) fs vars) (item rest fs (set_word vars v x)) m Moved (rw h refl)

    pub goes_load : (v : ℕ) (a : Array) (i : Formula) (rest : Code) (c : Cell) (n x : ℕ) → value (ids_of d.launch k) (loop_variables fs) vars i ≡ Some n → cell_at d.launch k a n ≡ c → n < d.lengths a → m c ≡ x → Goes d k (item (Performs (Loads v a i) rest) fs vars) m (Got c ∷ []) (item rest fs (set_word vars v x))
    unfolding next
    goes_load v a i rest c n x h e within q = goes_once (item (Performs (Loads v a i) rest) fs vars) (item rest fs (set_word vars v x)) m (Got c) (rw h (e, within, ap (λ y. item rest fs (set_word vars v y)) q))

    pub goes_store : (a : Array) (i e : Formula) (rest : Code) (c : Cell) (n x : ℕ) → value (ids_of d.launch k) (loop_variables fs) vars i ≡ Some n → value (ids_of d.launch k) (loop_variables fs) vars e ≡ Some x → cell_at d.launch k a n ≡ c → n < d.lengths a → Goes d k (item (Performs (Stores a i e) rest) fs vars) m (Gave c x ∷ []) (item rest fs vars)
    unfolding next
    goes_store a i e rest c n x h j q within = goes_once (item (Performs (Stores a i e) rest) fs vars) (item rest fs vars) m (Gave c x) (rw (h, j) (q, within, refl, refl))

    -- the same of four words

    pub goes_assign_four : (v : ℕ) (e : Lanes) (rest : Code) (u : Four) → lanes_value (ids_of d.launch k) (loop_variables fs) vars e ≡ Some u → Goes d k (item (Performs (AssignsFour v e) rest) fs vars) m (Moved ∷ []) (item rest fs (set_vector vars v u))
    unfolding next
    goes_assign_four v e rest u h = goes_once (item (Performs (AssignsFour v e) rest) fs vars) (item rest fs (set_vector vars v u)) m Moved (rw h refl)

    pub goes_load_four : (v : ℕ) (a : Array) (i : Formula) (rest : Code) (c : Cell) (n : ℕ) (u : Four) → value (ids_of d.launch k) (loop_variables fs) vars i ≡ Some n → four_at d.launch k a n ≡ c → 4 * n + 3 < d.lengths a → four_words m c ≡ u → Goes d k (item (Performs (LoadsFour v a i) rest) fs vars) m (GotFour c ∷ []) (item rest fs (set_vector vars v u))
    unfolding next
    goes_load_four v a i rest c n u h e within q =
        goes_once (item (Performs (LoadsFour v a i) rest) fs vars) (item rest fs (set_vector vars v u)) m (GotFour c) (rw h (e, within, ap (λ y. item rest fs (set_vector vars v y)) q))

    pub goes_store_four : (a : Array) (i : Formula) (e : Lanes) (rest : Code) (c : Cell) (n : ℕ) (u : Four) → value (ids_of d.launch k) (loop_variables fs) vars i ≡ Some n → lanes_value (ids_of d.launch k) (loop_variables fs) vars e ≡ Some u → four_at d.launch k a n ≡ c → 4 * n + 3 < d.lengths a → Goes d k (item (Performs (StoresFour a i e) rest) fs vars) m (GaveFour c u ∷ []) (item rest fs vars)
    unfolding next
    goes_store_four a i e rest c n u h j q within =
        goes_once (item (Performs (StoresFour a i e) rest) fs vars) (item rest fs vars) m (GaveFour c u) (rw (h, j) (q, within, refl, refl))

    -- an if

    pub goes_in : (s : Start) (b : Formula) (body rest : Code) (n : ℕ) → bound_value d.launch.sizes b ≡ Some n → start_value (ids_of d.launch k) s < n → Goes d k (item (Guards s b body rest) fs vars) m (Moved ∷ []) (item (then_rest body rest) fs vars)
    unfolding next
    goes_in s b body rest n h low =
        goes_once (item (Guards s b body rest) fs vars) (item (then_rest body rest) fs vars) m Moved (rw (h, lt-ltb _ _ low) refl)

    pub goes_past : (s : Start) (b : Formula) (body rest : Code) (n : ℕ) → bound_value d.launch.sizes b ≡ Some n → n ≤ start_value (ids_of d.launch k) s → Goes d k (item (Guards s b body rest) fs vars) m (Moved ∷ []) (item rest fs vars)
    unfolding next
    goes_past s b body rest n h high =
        goes_once (item (Guards s b body rest) fs vars) (item rest fs vars) m Moved (rw (h, le-ltb _ _ high) refl)

  -- a loop: its variable is start, start + by, start + 2 * by ..
  module _ (fs : List Frame) (bound : ℕ) (s : Start) (b : Formula) (c : Stride) (body rest : Code) where
    abbrev pub start : ℕ
    start = start_value (ids_of d.launch k) s

    abbrev pub by : ℕ
    by = stride_value (ids_of d.launch k) c

    abbrev pub frame_at : ℕ → Frame
    frame_at t = record { turn = t; variable = start + t * by; bound = b; stride = c; body = body; after = rest }

    -- the item after the test of turn t
    pub tested_at : ℕ → Vars → Item
    tested_at t vars = if nat_lt (start + t * by) bound then item body (frame_at t ∷ fs) vars else item rest fs vars

    frame_is : (t n x : ℕ) (vars : Vars) → x ≡ start + t * by → tested n (record { turn = t; variable = x; bound = b; stride = c; body = body; after = rest }) fs vars ≡ tested n (frame_at t) fs vars
    frame_is t n x vars e = ap (λ y. tested n (record { turn = t; variable = y; bound = b; stride = c; body = body; after = rest }) fs vars) e

    pub next_enter : (vars : Vars) → bound_value d.launch.sizes b ≡ Some bound → next (ids_of d.launch k) (item (Loops s b c body rest) fs vars) ≡ Moves (tested_at 0 vars)
    unfolding next tested_at
    next_enter vars hb = rw hb (frame_is 0 bound start vars (let e : start ≡ start + 0 * by = omega arith in e))

    pub next_again : (t : ℕ) (vars : Vars) → bound_value d.launch.sizes b ≡ Some bound → start + suc t * by < 2 ^ 32 → next (ids_of d.launch k) (item End (frame_at t ∷ fs) vars) ≡ Moves (tested_at (suc t) vars)
    unfolding next tested_at
    next_again t vars hb fits =
        let e : start + t * by + by ≡ start + suc t * by = omega arith in
        rw (hb, e, lt-ltb _ _ fits) refl

    pub inside : (t : ℕ) (vars : Vars) → start + t * by < bound → tested_at t vars ≡ item body (frame_at t ∷ fs) vars
    unfolding tested_at
    inside t vars h = rw (lt-ltb _ _ h) refl

    pub outside : (t : ℕ) (vars : Vars) → bound ≤ start + t * by → tested_at t vars ≡ item rest fs vars
    unfolding tested_at
    outside t vars h = rw (le-ltb _ _ h) refl

    -- a loop of n turns, with the variables vs t and the deeds ds t at turn t
    pub record Turns (n : ℕ) (vs : ℕ → Vars) (m : Memory) (ds : ℕ → List Deed) : Type 0 where
      pub bound_is : bound_value d.launch.sizes b ≡ Some bound
      pub below : (t : ℕ) → t < n → start + t * by < bound
      pub past : bound ≤ start + n * by
      pub fits : (t : ℕ) → t < n → start + suc t * by < 2 ^ 32
      pub turn : (t : ℕ) → t < n → Goes d k (item body (frame_at t ∷ fs) (vs t)) (written (all_turns ds t) m) (ds t) (item End (frame_at t ∷ fs) (vs (suc t)))

    goes_turns : (n : ℕ) (vs : ℕ → Vars) (m : Memory) (ds : ℕ → List Deed) → Turns n vs m ds → (t : ℕ) → t ≤ n → Goes d k (item (Loops s b c body rest) fs (vs 0)) m (Moved ∷ all_turns ds t) (tested_at t (vs t))
    goes_turns n vs m ds h zero le = goes_moved _ _ m (next_enter (vs 0) h.bound_is)
    goes_turns n vs m ds h (suc t) le =
        let lt : t < n = omega arith in
        let before = goes_turns n vs m ds h t (omega arith) in
        let here = subst (λ z. Goes d k (item (Loops s b c body rest) fs (vs 0)) m (Moved ∷ all_turns ds t) z) (inside t (vs t) (h.below t lt)) before in
        goes_on _ _ _ m (Moved ∷ all_turns ds t) (ds t ++ Moved ∷ []) here
        (goes_on _ _ _ _ (ds t) (Moved ∷ []) (h.turn t lt) (goes_moved _ _ _ (next_again t (vs (suc t)) h.bound_is (h.fits t lt))))

    pub goes_loop : (n : ℕ) (vs : ℕ → Vars) (m : Memory) (ds : ℕ → List Deed) → Turns n vs m ds → Goes d k (item (Loops s b c body rest) fs (vs 0)) m (Moved ∷ all_turns ds n) (item rest fs (vs n))
    goes_loop n vs m ds h =
        subst (λ z. Goes d k (item (Loops s b c body rest) fs (vs 0)) m (Moved ∷ all_turns ds n) z) (outside n (vs n) h.past) (goes_turns n vs m ds h n (omega arith))

-- what an item alone says of the device

does_step : (d : Device) (k : ℕ) (w : Wants) (m : Memory) (e : Deed) (x y : Item) (ep : Fence → ℕ) → Does d k w m e y → CanStep w × (failure d w ≡ None) × (taken d.launch k w m x ≡ y) × (stored d.launch k w m ≡ deed_memory e m) × (accessed d.launch k w ep ≡ deed_access (group_of d.launch k) k ep e)
does_step d k (Moves z) m Moved x y ep h = (tt, refl, h, refl, refl)
does_step d k (Reads a n f) m (Got c) x y ep h =
    let e = h.0 in
    (tt, rw (lt-ltb _ _ h.1) refl, ap (λ b. f (m b)) e ∙ h.2, refl, ap (λ b. access_at (group_of d.launch k) k b false ep ∷ []) e)
does_step d k (Writes a n v z) m (Gave c w) x y ep h =
    let e = h.0 in
    (tt, rw (lt-ltb _ _ h.1) refl, h.3, ap (λ b. write b v m) e ∙ ap (λ u. write c u m) h.2, ap (λ b. access_at (group_of d.launch k) k b true ep ∷ []) e)
does_step d k (ReadsFour a n f) m (GotFour c) x y ep h =
    let e = h.0 in
    (tt, rw (lt-ltb _ _ h.1) refl, ap (λ b. f (four_words m b)) e ∙ h.2, refl, ap (λ b. access_four (group_of d.launch k) k b false ep) e)
does_step d k (WritesFour a n u z) m (GaveFour c v) x y ep h =
    let e = h.0 in
    (tt, rw (lt-ltb _ _ h.1) refl, h.3, ap (λ b. write_four b u m) e ∙ ap (λ t. write_four c t m) h.2, ap (λ b. access_four (group_of d.launch k) k b true ep) e)
does_step d k _ m _ x y ep h = absurd h

module _ (d : Device) (k : ℕ) (here : k < item_count d.launch) where
  step_state : (s : State) (y : Item) (m : Memory) → taken d.launch k (wants d s k) s.memory (s.items k) ≡ y → stored d.launch k (wants d s k) s.memory ≡ m → after d s (Step k) ≡ alone_state s k y m
  unfolding after
  step_state s y m p q = state_path _ _ (λ j. go j (j == k) refl) q (λ g b. refl)
    where
      go : (j : ℕ) (b : Bool) → (j == k) ≡ b → (if (j == k) then taken d.launch j (wants d s j) s.memory (s.items j) else s.items j) ≡ (if (j == k) then y else s.items j)
      go j true e = rw e (subst (λ i. taken d.launch i (wants d s i) s.memory (s.items i) ≡ y) (sym (eqb-true j k e)) p)
      go j false e = rw e refl

  put_twice : (s : State) (x y : Item) (m n : Memory) → alone_state (alone_state s k x m) k y n ≡ alone_state s k y n
  put_twice s x y m n = state_path _ _ (λ j. go j (j == k)) refl (λ g b. refl)
    where
      go : (j : ℕ) (b : Bool) → (if b then y else (if b then x else s.items j)) ≡ (if b then y else s.items j)
      go j true = refl
      go j false = refl

  alone_item : (s : State) (x : Item) (m : Memory) → (alone_state s k x m).items k ≡ x
  alone_item s x m = rw (eq-eqb k k refl) refl

  put_same : (s : State) → s ≡ alone_state s k (s.items k) s.memory
  put_same s = state_path _ _ (λ j. go j (j == k) refl) refl (λ g b. refl)
    where
      go : (j : ℕ) (b : Bool) → (j == k) ≡ b → s.items j ≡ (if (j == k) then s.items k else s.items j)
      go j true e = rw e (ap s.items (eqb-true j k e))
      go j false e = rw e refl

  pub alone_run : (s : State) (ds : List Deed) (y : Item) → Goes d k (s.items k) s.memory ds y → AloneRun d s k ds y
  unfolding after failure_of accesses_of
  alone_run s [] y h = record { is_run = tt; no_failure = tt; ends = put_same s ∙ ap (λ x. alone_state s k x s.memory) h; seen = refl }
  alone_run s (e ∷ ds) y h =
      let g = group_of d.launch k in
      let z = h.0 in
      let n = deed_memory e s.memory in
      let st = does_step d k (wants d s k) s.memory e (s.items k) z (s.epochs g) h.1 in
      let same : after d s (Step k) ≡ alone_state s k z n = step_state s z n st.2 st.3 in
      let a = alone_run (alone_state s k z n) ds y (subst (λ x. Goes d k x n ds y) (sym (alone_item s z n)) h.2) in
      let r : AloneRun d (after d s (Step k)) k ds y = subst (λ u. AloneRun d u k ds y) (sym same) a in
      record {
        is_run = ((here, st.0), r.is_run);
        no_failure = (st.1, r.no_failure);
        ends = r.ends ∙ ap (λ u. alone_state u k y (written ds u.memory)) same ∙ put_twice s z y n (written ds n);
        seen = ap (λ xs. xs ++ accesses d (after d s (Step k)) (steps_of k ds)) st.4 ∙ ap (λ xs. deed_access g k (s.epochs g) e ++ xs) r.seen;
      }
