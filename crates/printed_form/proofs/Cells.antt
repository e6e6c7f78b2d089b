-- Loads and stores of one item.
use Rattle.std.proofs.Common.{◌≡◌, ℕ, zero, suc, ◌+◌, ◌-◌, ◌*◌, ◌<◌, Bool, true, false, List, [], ◌∷◌, length, Option, Some, refl, sym, ap, ◌∙◌, subst, ◌⊎◌, ⊎_elim, inl, inr, arith}
use Rattle.std.proofs.lemmas.Bool.{false_from_ne_true}
use Rattle.std.specs.Prelude.{if◌then◌else◌}
use Rattle.std.proofs.lemmas.List.{get_or-set_same}
use Rattle.kernel_tree.specs.Formula.{Formula, Lanes, Four, Vars, word, set_word, set_vector, spread, value, lanes_value}
use Rattle.kernel_tree.specs.Code.{Array, Input, Output, Local, Private, Code, Loads, Stores, LoadsFour, StoresFour, Performs}
use Rattle.kernel_tree.specs.Launch.{ids_of}
use Rattle.kernel_tree.specs.Item.{Frame, item, loop_variables}
use Rattle.kernel_tree.specs.Device.{Cell, behind, four_cells, Memory, write, same_cell}
use Rattle.kernel_tree.specs.Faults.{Among}
use Rattle.kernel_tree.specs.Deeds.{Deed, Got, Gave, GotFour, GaveFour, Goes, written}
use Rattle.kernel_tree.specs.Independent.{one_if_same, write_count}
use Rattle.kernel_tree.proofs.Confluence.{same_cell-itself, same_cell-true}
use Rattle.kernel_tree.proofs.Deeds.{goes_load, goes_store, goes_load_four, goes_store_four}
use Rattle.kernel_tree.proofs.Independent.{write-same, write-cases, written-comes, written-kept}
use Rattle.lift_ir.specs.Types.{Ty, Scalar, PairOf, ArrayOf, four, IsPosition}
use Rattle.lift_ir.specs.Terms.{LoadSet, Skip, Take, TakeFour, Each, LoadsScalars}
use Rattle.lift_ir.specs.Scalars.{Scalars}
use Rattle.printed_form.specs.Marks.{Mark, Nowhere, Register, Lane, Spot, Marks, in_lanes, loaded_marks}
use Rattle.printed_form.specs.Counts.{more, one_word, one_four, load_count}
use Rattle.printed_form.specs.Expressions.{Expr}
use Rattle.printed_form.specs.Form.{IsIndex, IsSpot, IsFourSpot, IsStored, IsLoaded}
use Rattle.printed_form.specs.Runs.{Setting, Known, four_of, Fits, IsFilled, IsOpen, spot_cell, mark_cell, Readable, HoldsAt, Holds, HasValue, HasLanes, Values, DueAt, Due, Targets, nothing, no_target, known_after, Ran, Apart}
use Rattle.printed_form.proofs.Runs.{more_none, more_more, kept, kept_set, kept_set_four, one_here, holds_later, values_later, silent, ran_on, after_silence, ran_at_once, ran_so}
use Rattle.printed_form.proofs.Elements.{holds_two, held_four, by_lane, four_position, four_type, fits_less, fits_more, long_enough}

module _ (st : Setting) (ts : List ℕ) (fs : List Frame) (at : loop_variables fs ≡ ts) (ins : ℕ → Marks) where
  here : (x : Known) (i : Formula) (n : ℕ) → IsIndex st.device.launch st.item ins ts i n → value (ids_of st.device.launch st.item) (loop_variables fs) x.vars i ≡ Some n
  here x i n h = subst (λ t. value (ids_of st.device.launch st.item) t x.vars i ≡ Some n) (sym at) (h x.vars)

  load_one : (m : Mark) (s : Scalars) (x : Known) (code rest : Code) (a : Array) (i : Formula) → IsSpot st.device.launch st.item ins ts m a i → code ≡ Performs (Loads x.count.words a i) rest → x.count.words < length x.vars.words → HoldsAt st x m (s [] [])
      → Ran st x fs code rest (more x.count one_word) x.arrays nothing no_target (λ y. Holds st y Scalar (λ cs q. Register x.count.words) s)
  load_one Nowhere s x code rest a i h is room holds = absurd h
  load_one (Register r) s x code rest a i h is room holds = absurd h
  load_one (Lane r j) s x code rest a i h is room holds = absurd h
  load_one (Spot b n) s x code rest a i h is room holds =
      let v = s [] [] in
      let c = spot_cell st b n in
      let vars : Vars = set_word x.vars x.count.words v in
      record {
        after = vars;
        deeds = Got c ∷ [];
        goes = λ m ag. subst (λ z. Goes st.device st.item (item z fs x.vars) m (Got c ∷ []) (item rest fs vars)) (sym (is ∙ ap (λ y. Performs (Loads x.count.words y i) rest) h.0))
            (goes_load st.device st.item fs x.vars m x.count.words b i rest c n v (here x i n h.1) refl holds.within (ag c holds.may ∙ holds.holds));
        later = record { more = omega arith; more_arrays = omega arith; more_fours = omega arith; kept = kept_set x.count x.count.words v x.vars (omega arith); same = λ c f. refl };
        allowed = (holds.may, tt);
        wrote = silent x.memory (Got c ∷ []) (λ c. refl);
        good = held_one (known_after x (Got c ∷ []) vars (more x.count one_word) x.arrays) (get_or-set_same x.vars.words x.count.words v 0 room);
      }
    where
      held_one : (y : Known) → word (set_word x.vars x.count.words (s [] [])) x.count.words ≡ s [] [] → Holds st (known_after x (Got (spot_cell st b n) ∷ []) (set_word x.vars x.count.words (s [] [])) (more x.count one_word) x.arrays) Scalar (λ cs q. Register x.count.words) s
      held_one y h [] [] w = (omega arith, h)
      held_one y h [] (j ∷ q) w = absurd w
      held_one y h (c ∷ cs) q w = absurd w

  at_spot : (x : Known) (m : Mark) (b : Array) (i v : ℕ) → m ≡ Spot b i → HoldsAt st x m v → Readable st x b i v
  at_spot x m b i v e h = subst (λ z. HoldsAt st x z v) e h

  due_spot : (a : ℕ) (m : Mark) (b : Array) (i : ℕ) → m ≡ Spot b i → DueAt st a m → DueAt st a (Spot b i)
  due_spot a m b i e h = subst (DueAt st a) e h

  -- ---- a load
  read_four : (e : Marks) (s : Scalars) (x : Known) (code rest : Code) (b : Array) (i : Formula) → IsFourSpot st.device.launch st.item ins ts (e []) b i → code ≡ Performs (LoadsFour x.count.fours b i) rest → x.count.fours < length x.vars.vectors → Holds st x four e s
      → Ran st x fs code rest (more x.count one_four) x.arrays nothing no_target (λ y. Holds st y four (λ cs q. in_lanes x.count.fours q) s)
  read_four e s x code rest b i h is room holds =
      let n = h.0 in
      let v = x.count.fours in
      let u : Four = four_of (λ j. s [] (j ∷ [])) in
      let c : Cell = spot_cell st b (4 * n) in
      let vars : Vars = set_vector x.vars v u in
      let r : (j : ℕ) → j < 4 → Readable st x b (4 * n + j) (s [] (j ∷ [])) = λ j lt. at_spot x (e [] (j ∷ [])) b (4 * n + j) (s [] (j ∷ [])) (h.1.at j lt) (holds [] (j ∷ []) (lt, tt)) in
      let first : 4 * n + 0 ≡ 4 * n = omega arith in
      let r0 : Readable st x b (4 * n) (s [] (0 ∷ [])) = subst (λ k. Readable st x b k (s [] (0 ∷ []))) first (r 0 (omega arith)) in
      let r1 = r 1 (omega arith) in
      let r2 = r 2 (omega arith) in
      let r3 = r 3 (omega arith) in
      record {
        after = vars;
        deeds = GotFour c ∷ [];
        goes = λ m ag. subst (λ z. Goes st.device st.item (item z fs x.vars) m (GotFour c ∷ []) (item rest fs vars)) (sym is)
            (goes_load_four st.device st.item fs x.vars m v b i rest c n u (here x i n h.2) refl r3.within
            (let p0 = ag c r0.may ∙ r0.holds in
            let p1 = ag (behind 1 c) r1.may ∙ r1.holds in
            let p2 = ag (behind 2 c) r2.may ∙ r2.holds in
            let p3 = ag (behind 3 c) r3.may ∙ r3.holds in
            words_are (m c) (m (behind 1 c)) (m (behind 2 c)) (m (behind 3 c)) (λ j. s [] (j ∷ [])) p0 p1 p2 p3));
        later = record { more = omega arith; more_fours = omega arith; more_arrays = omega arith; kept = kept_set_four x.count v u x.vars (omega arith); same = λ d g. refl };
        allowed = ((r0.may, (r1.may, (r2.may, (r3.may, tt)))), tt);
        wrote = silent x.memory (GotFour c ∷ []) (λ d. refl);
        good = held_four st (known_after x (GotFour c ∷ []) vars (more x.count one_four) x.arrays) v s (omega arith) (get_or-set_same x.vars.vectors v u (spread 0) room);
      }
    where
      words_are : (p q r t : ℕ) (f : ℕ → ℕ) → p ≡ f 0 → q ≡ f 1 → r ≡ f 2 → t ≡ f 3 → record { x = p; y = q; z = r; w = t } ≡ four_of f
      words_are p q r t f a b c d =
          let F : ℕ → ℕ → ℕ → ℕ → Four = λ p q r t. record { x = p; y = q; z = r; w = t } in
          ap (λ y. F y q r t) a ∙ ap (λ y. F (f 0) y r t) b ∙ ap (λ y. F (f 0) (f 1) y t) c ∙ ap (λ y. F (f 0) (f 1) (f 2) y) d

  -- the loads of a turn's element
  pub loads_run : (loads : LoadSet) (ty : Ty) (e : Marks) (s : Scalars) (x : Known) (code rest : Code) → LoadsScalars loads ty → IsLoaded st.device.launch st.item ins ts loads e x.count code rest → Fits (more x.count (load_count loads)) x.vars → Holds st x ty e s
      → Ran st x fs code rest (more x.count (load_count loads)) x.arrays nothing no_target (λ y. Holds st y ty (loaded_marks loads e x.count) s)
  loads_run Skip ty e s x code rest ok h room holds =
      subst (λ n. Ran st x fs code rest n x.arrays nothing no_target (λ y. Holds st y ty e s)) (more_none x.count) (ran_at_once st x fs code rest (λ y. Holds st y ty e s) h holds)
  loads_run Take Scalar e s x code rest ok h room holds = load_one (e [] []) s x code rest h.0 h.1 h.2 h.3 (let p = room.words in omega arith) (holds [] [] tt)
  loads_run Take (PairOf a b) e s x code rest ok h room holds = absurd ok
  loads_run Take (ArrayOf n t) e s x code rest ok h room holds = absurd ok
  loads_run TakeFour Scalar e s x code rest ok h room holds = absurd ok
  loads_run TakeFour (PairOf a b) e s x code rest ok h room holds = absurd ok
  loads_run TakeFour (ArrayOf n t) e s x code rest ok h room holds =
      let k = four_type n t ok in
      subst (λ z. Ran st x fs code rest (more x.count one_four) x.arrays nothing no_target (λ y. Holds st y z (λ cs q. in_lanes x.count.fours q) s)) (sym k)
      (read_four e s x code rest h.0 h.1 h.2 h.3 (let p = room.fours in omega arith) (subst (λ z. Holds st x z e s) k holds))
  loads_run (Each p q) Scalar e s x code rest ok h room holds = absurd ok
  loads_run (Each p q) (ArrayOf n t) e s x code rest ok h room holds = absurd ok
  loads_run (Each p q) (PairOf a b) e s x code rest ok h room holds =
      let left = λ (cs : List Bool). s (false ∷ cs) in
      let other = λ (cs : List Bool). s (true ∷ cs) in
      let np = load_count p in
      let nq = load_count q in
      let r = loads_run p a (λ cs. e (false ∷ cs)) left x code h.0 ok.0 h.1 (fits_less st ts fs at x.count np nq x.vars room) (λ cs. holds (false ∷ cs)) in
      let y = known_after x r.deeds r.after (more x.count np) x.arrays in
      let r2 = loads_run q b (λ cs. e (true ∷ cs)) other y h.0 rest ok.1 h.2 (long_enough st ts fs at x (more (more x.count np) nq) r.after r.later.kept (fits_more st ts fs at x.count np nq x.vars room)) (holds_later st x y b (λ cs. e (true ∷ cs)) other r.later (λ cs. holds (true ∷ cs))) in
      let z = known_after y r2.deeds r2.after (more (more x.count np) nq) x.arrays in
      let r3 : Ran st y fs h.0 rest (more (more x.count np) nq) x.arrays nothing no_target (λ y. Holds st y (PairOf a b) (loaded_marks (Each p q) e x.count) s) = ran_so r2 (holds_two st z a b _ _ s (holds_later st y z a _ left r2.later r.good) r2.good) in
      subst (λ n. Ran st x fs code rest n x.arrays nothing no_target (λ y. Holds st y (PairOf a b) (loaded_marks (Each p q) e x.count) s)) (more_more x.count np nq)
      (ran_on st x fs code h.0 rest (more x.count np) x.arrays (more (more x.count np) nq) x.arrays after_silence r r3)

  -- targets

  tail_is : (b : Bool) (cs ds : List Bool) → b ∷ cs ≡ b ∷ ds → cs ≡ ds
  tail_is b cs ds e = cc

  head_differs : (cs ds : List Bool) → false ∷ cs ≡ true ∷ ds → ⊥
  head_differs cs ds e = cc

  pub due_side : (a : ℕ) (b : Bool) (t u : Ty) (w : Marks) → ((cs : List Bool) (q : List ℕ) → IsPosition t cs q → IsPosition u (b ∷ cs) q) → Due st a u w → Due st a t (λ cs. w (b ∷ cs))
  due_side a b t u w up h = record {
    at = λ cs q i. h.at (b ∷ cs) q (up cs q i);
    choices = λ cs ds q p i j e. tail_is b cs ds (h.choices (b ∷ cs) (b ∷ ds) q p (up cs q i) (up ds p j) e);
    places = λ cs ds q p i j e. h.places (b ∷ cs) (b ∷ ds) q p (up cs q i) (up ds p j) e;
  }

  same_count : (b c : Cell) (v : ℕ) → c ≡ b → write_count c (Gave b v ∷ []) ≡ 1
  same_count b c v e = ap (λ t. (if t then 1 else 0) + 0) (subst (λ z. same_cell b z ≡ true) (sym e) (same_cell-itself b))

  other_count : (b c : Cell) (v : ℕ) → (c ≡ b → ⊥) → write_count c (Gave b v ∷ []) ≡ 0
  other_count b c v n = ap (λ t. (if t then 1 else 0) + 0) (false_from_ne_true (same_cell b c) (λ e. n (sym (same_cell-true b c e))))

  only_position : (w : Marks) (s : Scalars) (c : Cell) (v : ℕ) (P : Type 0) → Targets st Scalar w s c v → (c ≡ mark_cell st (w [] []) → v ≡ s [] [] → P) → P
  only_position w s c v P t f = go t.0 t.1 t.2 t.3 t.4
    where
      go : (cs : List Bool) (q : List ℕ) → IsPosition Scalar cs q → c ≡ mark_cell st (w cs q) → v ≡ s cs q → P
      go [] [] i e z = f e z
      go [] (j ∷ q) i e z = absurd i
      go (b ∷ cs) q i e z = absurd i

  -- an open array isn't filled
  open_unfilled : (l a : ℕ) (b : Array) → IsOpen l a b → IsFilled l a b → ⊥
  open_unfilled l a (Input n) h f = h
  open_unfilled l a (Output n) h f = f
  open_unfilled l a (Local n) h f = let z : n < n = omega arith in omega arith
  open_unfilled l a (Private n) h f = let z : n < n = omega arith in omega arith

  store_one : (m : Mark) (w : Marks) (s : Scalars) (x : Known) (code rest : Code) (a : Array) (i e : Formula) → w [] [] ≡ m → IsSpot st.device.launch st.item ins ts m a i → code ≡ Performs (Stores a i e) rest → HasValue st ts x e (s [] []) → DueAt st x.arrays m
      → Ran st x fs code rest x.count x.arrays nothing (Targets st Scalar w s) (λ y. Unit {0})
  store_one Nowhere w s x code rest a i e is h q v d = absurd h
  store_one (Register r) w s x code rest a i e is h q v d = absurd h
  store_one (Lane r j) w s x code rest a i e is h q v d = absurd h
  store_one (Spot b n) w s x code rest a i e is h q v d =
      let u = s [] [] in
      let c = spot_cell st b n in
      let at_c : mark_cell st (w [] []) ≡ c = ap (mark_cell st) is in
      record {
        after = x.vars;
        deeds = Gave c u ∷ [];
        goes = λ m ag. subst (λ z. Goes st.device st.item (item z fs x.vars) m (Gave c u ∷ []) (item rest fs x.vars)) (sym (q ∙ ap (λ y. Performs (Stores y i e) rest) h.0))
            (goes_store st.device st.item fs x.vars m b i e rest c n u (here x i n h.1) (subst (λ t. value (ids_of st.device.launch st.item) t x.vars e ≡ Some u) (sym at) (v x.vars (kept x.count x.vars))) refl d.0);
        later = record { more = omega arith; more_fours = omega arith; more_arrays = omega arith; kept = kept x.count x.vars; same = λ z f. write-cases c z u x.memory (λ y. y ≡ x.memory z) (λ p. absurd (open_unfilled st.locals x.arrays b d.2 (subst (λ y. IsFilled st.locals x.arrays y.array) p f))) (λ p. refl) };
        allowed = (d.1, tt);
        wrote = record {
          once = λ z y t. only_position w s z y (write_count z (Gave c u ∷ []) ≡ 1) t (λ p r. same_count c z u (p ∙ at_c));
          holds = λ z y t. only_position w s z y (write c u x.memory z ≡ y) t (λ p r. ap (write c u x.memory) (p ∙ at_c) ∙ write-same c u x.memory ∙ sym r);
          quiet = λ z n2 f. other_count c z u (λ p. f u ([], [], tt, p ∙ sym at_c, refl));
        };
        good = tt;
      }

  pub pair_targets : (a b : Ty) (w : Marks) (s : Scalars) (n : ℕ) → Due st n (PairOf a b) w
      → Apart nothing (Targets st a (λ cs. w (false ∷ cs)) (λ cs. s (false ∷ cs))) nothing (Targets st b (λ cs. w (true ∷ cs)) (λ cs. s (true ∷ cs))) nothing (Targets st (PairOf a b) w s)
  pair_targets a b w s n due = record {
    targets = λ c v u l r. head_differs l.0 r.0 (due.choices (false ∷ l.0) (true ∷ r.0) l.1 r.1 l.2 r.2 (sym l.3 ∙ r.3));
    first_kept = λ c v l h. h;
    second_free = λ c v l h. h;
    scratch_first = λ c h. h;
    scratch_second = λ c h. h;
    target_first = λ c v l. (false ∷ l.0, l.1, l.2, l.3, l.4);
    target_second = λ c v l. (true ∷ l.0, l.1, l.2, l.3, l.4);
    parts = λ c v t. go c v t.0 t.1 t.2 t.3 t.4;
  }
    where
      go : (c : Cell) (v : ℕ) (cs : List Bool) (q : List ℕ) → IsPosition (PairOf a b) cs q → c ≡ mark_cell st (w cs q) → v ≡ s cs q → Targets st a (λ cs. w (false ∷ cs)) (λ cs. s (false ∷ cs)) c v ⊎ Targets st b (λ cs. w (true ∷ cs)) (λ cs. s (true ∷ cs)) c v
      go c v [] q i e z = absurd i
      go c v (false ∷ cs) q i e z = inl (cs, q, i, e, z)
      go c v (true ∷ cs) q i e z = inr (cs, q, i, e, z)

  -- the store of a vector
  other : (b c : Cell) → (c ≡ b → ⊥) → one_if_same b c ≡ 0
  other b c n = ap (λ t. if t then 1 else 0) (false_from_ne_true (same_cell b c) (λ e. n (sym (same_cell-true b c e))))

  apart : (b c : Cell) → (c.index ≡ b.index → ⊥) → one_if_same b c ≡ 0
  apart b c n = other b c (λ e. n (ap Cell.index e))

  -- a cell among four, by its lane
  four_lanes : (b : Array) (n : ℕ) (z : Cell) (P : Type 0) → Among z (four_cells (spot_cell st b (4 * n))) → ((j : ℕ) → j < 4 → z ≡ spot_cell st b (4 * n + j) → P) → P
  four_lanes b n z P i f =
      let first : 4 * n ≡ 4 * n + 0 = omega arith in
      ⊎_elim (λ e. f 0 (omega arith) (e ∙ ap (spot_cell st b) first)) (λ i. ⊎_elim (λ e. f 1 (omega arith) e) (λ i. ⊎_elim (λ e. f 2 (omega arith) e) (λ i. ⊎_elim (λ e. f 3 (omega arith) e) (λ i. absurd i) i) i) i) i

  -- written once
  sum_one : (a b c d : ℕ) (j : ℕ) → j < 4 → (j ≡ 0 → a ≡ 1) → (j ≡ 1 → b ≡ 1) → (j ≡ 2 → c ≡ 1) → (j ≡ 3 → d ≡ 1) → ((j ≡ 0 → ⊥) → a ≡ 0) → ((j ≡ 1 → ⊥) → b ≡ 0) → ((j ≡ 2 → ⊥) → c ≡ 0) → ((j ≡ 3 → ⊥) → d ≡ 0) → (a + (b + (c + d))) + 0 ≡ 1
  sum_one a b c d zero lt a1 b1 c1 d1 a0 b0 c0 d0 = let p = a1 refl in let q = b0 (λ e. omega arith) in let r = c0 (λ e. omega arith) in let t = d0 (λ e. omega arith) in omega arith
  sum_one a b c d (suc zero) lt a1 b1 c1 d1 a0 b0 c0 d0 = let p = a0 (λ e. omega arith) in let q = b1 refl in let r = c0 (λ e. omega arith) in let t = d0 (λ e. omega arith) in omega arith
  sum_one a b c d (suc (suc zero)) lt a1 b1 c1 d1 a0 b0 c0 d0 = let p = a0 (λ e. omega arith) in let q = b0 (λ e. omega arith) in let r = c1 refl in let t = d0 (λ e. omega arith) in omega arith
  sum_one a b c d (suc (suc (suc zero))) lt a1 b1 c1 d1 a0 b0 c0 d0 = let p = a0 (λ e. omega arith) in let q = b0 (λ e. omega arith) in let r = c0 (λ e. omega arith) in let t = d1 refl in omega arith
  sum_one a b c d (suc (suc (suc (suc n)))) lt a1 b1 c1 d1 a0 b0 c0 d0 = absurd (omega arith)

  once : (b : Array) (n : ℕ) (u : Four) (j : ℕ) → j < 4 → write_count (spot_cell st b (4 * n + j)) (GaveFour (spot_cell st b (4 * n)) u ∷ []) ≡ 1
  once b n u j lt =
      let c : Cell = spot_cell st b (4 * n) in
      let z : Cell = spot_cell st b (4 * n + j) in
      sum_one (one_if_same c z) (one_if_same (behind 1 c) z) (one_if_same (behind 2 c) z) (one_if_same (behind 3 c) z) j lt
      (λ e. one_here c z (ap (spot_cell st b) (let q : 4 * n + j ≡ 4 * n = omega arith in q)))
      (λ e. one_here (behind 1 c) z (ap (spot_cell st b) (let q : 4 * n + j ≡ 4 * n + 1 = omega arith in q)))
      (λ e. one_here (behind 2 c) z (ap (spot_cell st b) (let q : 4 * n + j ≡ 4 * n + 2 = omega arith in q)))
      (λ e. one_here (behind 3 c) z (ap (spot_cell st b) (let q : 4 * n + j ≡ 4 * n + 3 = omega arith in q)))
      (λ e. apart c z (λ q. e (omega arith)))
      (λ e. apart (behind 1 c) z (λ q. e (omega arith)))
      (λ e. apart (behind 2 c) z (λ q. e (omega arith)))
      (λ e. apart (behind 3 c) z (λ q. e (omega arith)))

  among_four : (b : Array) (n j : ℕ) → j < 4 → Among (spot_cell st b (4 * n + j)) (four_cells (spot_cell st b (4 * n)))
  among_four b n = by_lane (λ j. Among (spot_cell st b (4 * n + j)) (four_cells (spot_cell st b (4 * n)))) (inl (ap (spot_cell st b) (let q : 4 * n + 0 ≡ 4 * n = omega arith in q))) (inr (inl refl)) (inr (inr (inl refl))) (inr (inr (inr (inl refl))))

  -- with the lane's word
  comes : (b : Array) (n : ℕ) (f : ℕ → ℕ) (m : Memory) (j : ℕ) → j < 4 → written (GaveFour (spot_cell st b (4 * n)) (four_of f) ∷ []) m (spot_cell st b (4 * n + j)) ≡ f j
  comes b n f m j lt =
      let word : Cell → ℕ = λ d. f (d.index - 4 * n) in
      let z : (k : ℕ) → f k ≡ f (4 * n + k - 4 * n) = λ k. ap f (let q : k ≡ 4 * n + k - 4 * n = omega arith in q) in
      let z0 : f 0 ≡ f (4 * n - 4 * n) = ap f (let q : 0 ≡ 4 * n - 4 * n = omega arith in q) in
      written-comes word (GaveFour (spot_cell st b (4 * n)) (four_of f) ∷ []) m ((z0, z 1, z 2, z 3), tt) (spot_cell st b (4 * n + j)) (inl (among_four b n j lt))
      ∙ sym (z j)

  write_four : (w : Marks) (e : Lanes) (s : Scalars) (x : Known) (code rest : Code) (b : Array) (i : Formula) → IsFourSpot st.device.launch st.item ins ts (w []) b i → code ≡ Performs (StoresFour b i e) rest → HasLanes st ts x e (λ j. s [] (j ∷ [])) → Due st x.arrays four w
      → Ran st x fs code rest x.count x.arrays nothing (Targets st four w s) (λ y. Unit {0})
  write_four w e s x code rest b i h is right due =
      let n = h.0 in
      let u : Four = four_of (λ j. s [] (j ∷ [])) in
      let c : Cell = spot_cell st b (4 * n) in
      let ds : List Deed = GaveFour c u ∷ [] in
      let d : (j : ℕ) → j < 4 → DueAt st x.arrays (Spot b (4 * n + j)) = λ j lt. due_spot x.arrays (w [] (j ∷ [])) b (4 * n + j) (h.1.at j lt) (due.at [] (j ∷ []) (lt, tt)) in
      let d0 = d 0 (omega arith) in
      let d1 = d 1 (omega arith) in
      let d2 = d 2 (omega arith) in
      let d3 = d 3 (omega arith) in
      let first : 4 * n + 0 ≡ 4 * n = omega arith in
      let cell_of : (j : ℕ) → j < 4 → mark_cell st (w [] (j ∷ [])) ≡ spot_cell st b (4 * n + j) = λ j lt. ap (mark_cell st) (h.1.at j lt) in
      record {
        after = x.vars;
        deeds = ds;
        goes = λ m ag. subst (λ z. Goes st.device st.item (item z fs x.vars) m ds (item rest fs x.vars)) (sym is)
            (goes_store_four st.device st.item fs x.vars m b i e rest c n u (here x i n h.2) (subst (λ t. lanes_value (ids_of st.device.launch st.item) t x.vars e ≡ Some u) (sym at) (right x.vars (kept x.count x.vars))) refl d3.0);
        later = record {
          more = omega arith;
          more_fours = omega arith;
          more_arrays = omega arith;
          kept = kept x.count x.vars;
          same = λ z g. written-kept ds x.memory z (λ t. ⊎_elim (λ i. four_lanes b n z ⊥ i (λ j lt p. open_unfilled st.locals x.arrays b d0.2 (subst (λ y. IsFilled st.locals x.arrays y.array) p g))) (λ i. absurd i) t);
        };
        allowed = ((subst (λ k. st.owners (spot_cell st b k) ≡ Some st.item) first d0.1, (d1.1, (d2.1, (d3.1, tt)))), tt);
        wrote = record {
          once = λ z y t. of_target w s z y (write_count z ds ≡ 1) t (λ j lt p q. subst (λ k. write_count k ds ≡ 1) (sym (p ∙ cell_of j lt)) (once b n u j lt));
          holds = λ z y t. of_target w s z y (written ds x.memory z ≡ y) t (λ j lt p q. ap (written ds x.memory) (p ∙ cell_of j lt) ∙ comes b n (λ j. s [] (j ∷ [])) x.memory j lt ∙ sym q);
          quiet = λ z g t.
              let no : (j : ℕ) → j < 4 → z ≡ spot_cell st b (4 * n + j) → ⊥ = λ j lt p. t (s [] (j ∷ [])) ([], j ∷ [], (lt, tt), p ∙ sym (cell_of j lt), refl) in
              let o0 = other c z (λ p. no 0 (omega arith) (p ∙ ap (spot_cell st b) (sym first))) in
              let o1 = other (behind 1 c) z (λ p. no 1 (omega arith) p) in
              let o2 = other (behind 2 c) z (λ p. no 2 (omega arith) p) in
              let o3 = other (behind 3 c) z (λ p. no 3 (omega arith) p) in
              none_of (one_if_same c z) (one_if_same (behind 1 c) z) (one_if_same (behind 2 c) z) (one_if_same (behind 3 c) z) o0 o1 o2 o3;
        };
        good = tt;
      }
    where
      of_target : (w : Marks) (s : Scalars) (z : Cell) (y : ℕ) (P : Type 0) → Targets st four w s z y → ((j : ℕ) → j < 4 → z ≡ mark_cell st (w [] (j ∷ [])) → y ≡ s [] (j ∷ []) → P) → P
      of_target w s z y P t k = four_position (λ cs q. z ≡ mark_cell st (w cs q) → y ≡ s cs q → P) (λ j lt. k j lt) t.0 t.1 t.2 t.3 t.4

      none_of : (a b c d : ℕ) → a ≡ 0 → b ≡ 0 → c ≡ 0 → d ≡ 0 → (a + (b + (c + d))) + 0 ≡ 0
      none_of a b c d p q r t = omega arith

  -- the stores of an element
  pub stores_run : (ty : Ty) (f : List Bool → Option Expr) (s : Scalars) (w : Marks) (x : Known) (code rest : Code) → IsStored st.device.launch st.item ins ts ty f w code rest → Values st ts x ty f s → Due st x.arrays ty w
      → Ran st x fs code rest x.count x.arrays nothing (Targets st ty w s) (λ y. Unit {0})
  stores_run Scalar f s w x code rest h right due = store_one (w [] []) w s x code rest h.0 h.1 h.2 refl h.4 h.5 (right.0 [] h.2 tt h.3) (due.at [] [] tt)
  stores_run (PairOf a b) f s w x code rest h right due =
      let r = stores_run a (λ cs. f (false ∷ cs)) (λ cs. s (false ∷ cs)) (λ cs. w (false ∷ cs)) x code h.0 h.1 (λ cs e w q. right.0 (false ∷ cs) e w q, λ cs e w q. right.1 (false ∷ cs) e w q) (due_side x.arrays false a (PairOf a b) w (λ cs q i. i) due) in
      let y = known_after x r.deeds r.after x.count x.arrays in
      let r2 = stores_run b (λ cs. f (true ∷ cs)) (λ cs. s (true ∷ cs)) (λ cs. w (true ∷ cs)) y h.0 rest h.2 (values_later st ts x y b (λ cs. f (true ∷ cs)) (λ cs. s (true ∷ cs)) r.later (λ cs e w q. right.0 (true ∷ cs) e w q, λ cs e w q. right.1 (true ∷ cs) e w q)) (due_side x.arrays true b (PairOf a b) w (λ cs q i. i) due) in
      ran_on st x fs code h.0 rest x.count x.arrays x.count x.arrays (pair_targets a b w s x.arrays due) r r2
  stores_run (ArrayOf n t) f s w x code rest h right due =
      let k = four_type n t h.0 in
      subst (λ z. Ran st x fs code rest x.count x.arrays nothing (Targets st z w s) (λ y. Unit {0})) (sym k)
      (write_four w h.3 s x code rest h.1 h.2 h.5 h.6 (right.1 [] h.3 h.0 h.4) (subst (λ z. Due st x.arrays z w) k due))
