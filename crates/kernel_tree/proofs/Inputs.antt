-- A kernel of the grammar writes no input, so no run of it does.
use Rattle.std.proofs.Common.{◌≡◌, ℕ, suc, ◌+◌, ◌<◌, ◌^◌, List, [], ◌∷◌, ◌++◌, Option, Some, None, Bool, true, false, refl, ap, sym, ◌∙◌, subst, ⊎_elim}
use Rattle.std.specs.Prelude.{◌&&◌, if◌then◌else◌, nat_lt}
use Rattle.std.proofs.lemmas.Bool.{and_parts}
use Rattle.kernel_tree.specs.declared.events.Event.{Event}
use Rattle.kernel_tree.specs.declared.events.Event.TheVariants.{Step, Release}
use Rattle.kernel_tree.specs.declared.events.FaultKind.TheVariants.{LoopWrap}
use Rattle.kernel_tree.specs.Formula.{Ids, Vars, value, lanes_value, bound_value}
use Rattle.kernel_tree.specs.Code.{Array, Input, stride_value, Statement, Code, End, Performs, Assigns, Loads, Stores, AssignsFour, LoadsFour, StoresFour, Loops, Guards, then_rest, Kernel}
use Rattle.kernel_tree.specs.Grammar.{deepest, is_constant, is_expression, is_writable, is_shared, has_statement, is_statement, are_statements, are_lengths, is_group_size, is_kernel}
use Rattle.kernel_tree.specs.Launch.{Launch, Cells, item_count, group_of, ids_of}
use Rattle.kernel_tree.specs.Item.{Frame, Item, loop_variables, Wants, Ends, Waits, Moves, Reads, Writes, ReadsFour, WritesFour, Fails, with_value, tested, next_turn, perform, next_at, next}
use Rattle.kernel_tree.specs.Device.{Device, device_of, Cell, Fence, Memory, State, IsStart, stored, wants, after, run, IsRun}
use Rattle.kernel_tree.specs.Faults.{Access, accessed, accesses_of, accesses, Among}
use Rattle.kernel_tree.specs.Places.{Place, place, around, places, all_places}
use Rattle.kernel_tree.specs.Inputs.{LeavesInputs}
use Rattle.kernel_tree.proofs.Accessed.{among_every, puts, cells_of, stored_is}
use Rattle.kernel_tree.proofs.Confluence.{among-append, put_all-other}
use Rattle.kernel_tree.proofs.EveryRun.{is_run-front}
use Rattle.kernel_tree.proofs.Standing.{items_stand}

NoInput : Array → Type 0
NoInput a = (n : ℕ) → a ≡ Input n → ⊥

writable : (k : Kernel) (a : Array) → is_writable k a ≡ true → NoInput a
unfolding NoInput
writable k a h n e = let q : is_writable k (Input n) ≡ true = subst (λ b. is_writable k b ≡ true) e h in cc

-- the statement writes no input
SparesOf : Statement → Type 0
SparesOf (Stores a i e) = NoInput a
SparesOf (StoresFour a i e) = NoInput a
SparesOf _ = Unit {0}

-- nor does the one that comes first
Spares : Code → Type 0
Spares (Performs s after) = SparesOf s
Spares End = Unit {0}
Spares (Loops s b c body after) = Unit {0}
Spares (Guards s b body after) = Unit {0}

one_more : (c : Code) (fs : List Frame) (ps : List Place) → Spares c → ((p : Place) → Among p ps → Spares p.code) → (p : Place) → Among p (place c fs ∷ ps) → Spares p.code
one_more c fs ps here more p m = ⊎_elim (λ e. subst (λ x. Spares x.code) (sym e) here) (λ r. more p r) m

module _ (k : Kernel) where
  statement_spares : (loops : ℕ) (s : Statement) → is_statement k loops s ≡ true → SparesOf s
  unfolding SparesOf
  statement_spares l (Stores a i e) h = writable k a (and_parts (is_writable k a) _ h).0
  statement_spares l (StoresFour a i e) h = writable k a (and_parts (is_shared a) _ (and_parts (is_shared a && is_writable k a) _ h).0).1
  statement_spares l _ h = tt

  spares : (loops depth : ℕ) (c rest : Code) (fs : List Frame) → are_statements k loops depth c ≡ true → (p : Place) → Among p (places c rest fs) → Spares p.code
  unfolding Spares
  spares l d End rest fs h p m = absurd m
  spares l d (Performs s after) rest fs h p m =
      let h1 = and_parts (is_statement k l s) _ h in
      one_more (Performs s (then_rest after rest)) fs (places after rest fs) (statement_spares l s h1.0) (spares l d after rest fs h1.1) p m
  spares l d (Loops s b c body after) rest fs h p m =
      let h1 = and_parts (nat_lt d deepest) _ h in
      let h2 = and_parts (is_constant b) _ h1.1 in
      let h3 = and_parts (is_expression k l b) _ h2.1 in
      let h4 = and_parts (has_statement body) _ h3.1 in
      let h5 = and_parts (are_statements k (suc l) (suc d) body) _ h4.1 in
      let inner = around b c body (then_rest after rest) ∷ fs in
      let inside = places body End inner ++ place End inner ∷ [] in
      one_more (Loops s b c body (then_rest after rest)) fs (inside ++ places after rest fs) tt
      (λ q i. ⊎_elim
      (λ x. ⊎_elim (λ y. spares (suc l) (suc d) body End inner h5.0 q y) (λ y. ⊎_elim (λ e. subst (λ z. Spares z.code) (sym e) tt) (λ z. absurd z) y) (among-append q (places body End inner) (place End inner ∷ []) x))
      (λ x. spares l d after rest fs h5.1 q x)
      (among-append q inside (places after rest fs) i))
      p m
  spares l d (Guards s b body after) rest fs h p m =
      let h1 = and_parts (nat_lt d deepest) _ h in
      let h2 = and_parts (is_constant b) _ h1.1 in
      let h3 = and_parts (is_expression k l b) _ h2.1 in
      let h4 = and_parts (has_statement body) _ h3.1 in
      let h5 = and_parts (are_statements k l (suc d) body) _ h4.1 in
      let inside = places body (then_rest after rest) fs in
      one_more (Guards s b body (then_rest after rest)) fs (inside ++ places after rest fs) tt
      (λ q i. ⊎_elim (λ x. spares l (suc d) body (then_rest after rest) fs h5.0 q x) (λ x. spares l d after rest fs h5.1 q x) (among-append q inside (places after rest fs) i))
      p m

  spares_all : is_kernel k ≡ true → (p : Place) → Among p (all_places k.code) → Spares p.code
  unfolding Spares
  spares_all h p m =
      let h1 = and_parts (nat_lt 0 k.outputs) _ h in
      let h2 = and_parts (are_lengths k.locals) _ h1.1 in
      let h3 = and_parts (are_lengths k.privates) _ h2.1 in
      let h4 = and_parts (is_group_size k.local) _ h3.1 in
      let h5 = and_parts (has_statement k.code) _ h4.1 in
      ⊎_elim (λ x. spares 0 0 k.code End [] h5.1 p x) (λ x. ⊎_elim (λ e. subst (λ z. Spares z.code) (sym e) tt) (λ z. absurd z) x) (among-append p (places k.code End []) (place End [] ∷ []) m)

-- what an item wants, where it writes no input

Leaves : Wants → Type 0
Leaves (Writes a n v x) = NoInput a
Leaves (WritesFour a n u x) = NoInput a
Leaves Ends = Unit {0}
Leaves (Waits a b x) = Unit {0}
Leaves (Moves x) = Unit {0}
Leaves (Reads a n f) = Unit {0}
Leaves (ReadsFour a n f) = Unit {0}
Leaves (Fails f) = Unit {0}

leaves_if : {A : Type 0} (o : Option A) (go : A → Wants) → ((v : A) → Leaves (go v)) → Leaves (with_value o go)
unfolding Leaves
leaves_if None go h = tt
leaves_if (Some v) go h = h v

statement_leaves : (ids : Ids) (loops : List ℕ) (vars : Vars) (s : Statement) (on : Vars → Item) → SparesOf s → Leaves (perform ids loops vars s on)
unfolding SparesOf Leaves
statement_leaves ids ls vars (Assigns v e) on h = leaves_if (value ids ls vars e) _ (λ x. tt)
statement_leaves ids ls vars (Loads v a i) on h = leaves_if (value ids ls vars i) _ (λ n. tt)
statement_leaves ids ls vars (Stores a i e) on h = leaves_if (value ids ls vars i) _ (λ n. leaves_if (value ids ls vars e) _ (λ x. h))
statement_leaves ids ls vars (AssignsFour v e) on h = leaves_if (lanes_value ids ls vars e) _ (λ x. tt)
statement_leaves ids ls vars (LoadsFour v a i) on h = leaves_if (value ids ls vars i) _ (λ n. tt)
statement_leaves ids ls vars (StoresFour a i e) on h = leaves_if (value ids ls vars i) _ (λ n. leaves_if (lanes_value ids ls vars e) _ (λ u. h))
statement_leaves ids ls vars _ on h = tt

next_leaves : (ids : Ids) (c : Code) (fs : List Frame) (vars : Vars) → Spares c → Leaves (next_at ids c fs vars)
unfolding Spares Leaves
next_leaves ids End [] vars h = tt
next_leaves ids End (f ∷ fs) vars h = leaves_if (bound_value ids.sizes f.bound) _ (λ b. again b (nat_lt (f.variable + stride_value ids f.stride) (2 ^ 32)))
  where
    again : (b : ℕ) (t : Bool) → Leaves (if t then tested b (next_turn ids f) fs vars else Fails LoopWrap)
    again b true = tt
    again b false = tt
next_leaves ids (Performs s after) fs vars h = statement_leaves ids (loop_variables fs) vars s _ h
next_leaves ids (Loops s b c body after) fs vars h = leaves_if (bound_value ids.sizes b) _ (λ n. tt)
next_leaves ids (Guards s b body after) fs vars h = leaves_if (bound_value ids.sizes b) _ (λ n. tt)

module _ (l : Launch) (k : ℕ) where
  reads_inputs : (w : Wants) (epochs : Fence → ℕ) → Leaves w → (x : Access) (n : ℕ) → Among x (accessed l k w epochs) → x.cell.array ≡ Input n → x.writes ≡ false
  unfolding Leaves NoInput
  reads_inputs (Reads a i f) ep h x n m e = among_every (λ y. y.writes ≡ false) (accessed l k (Reads a i f) ep) (refl, tt) x m
  reads_inputs (ReadsFour a i f) ep h x n m e = among_every (λ y. y.writes ≡ false) (accessed l k (ReadsFour a i f) ep) (refl, (refl, (refl, (refl, tt)))) x m
  reads_inputs (Writes a i v y) ep h x n m e = absurd (h n (sym (among_every (λ z. z.cell.array ≡ a) (accessed l k (Writes a i v y) ep) (refl, tt) x m) ∙ e))
  reads_inputs (WritesFour a i u y) ep h x n m e =
      absurd (h n (sym (among_every (λ z. z.cell.array ≡ a) (accessed l k (WritesFour a i u y) ep) (refl, (refl, (refl, (refl, tt)))) x m) ∙ e))
  reads_inputs Ends ep h x n m e = absurd m
  reads_inputs (Waits a b y) ep h x n m e = absurd m
  reads_inputs (Moves y) ep h x n m e = absurd m
  reads_inputs (Fails f) ep h x n m e = absurd m

  no_put : (w : Wants) → Leaves w → (b : Cell) (n : ℕ) → b.array ≡ Input n → Among b (cells_of (puts l k w)) → ⊥
  unfolding Leaves NoInput
  no_put (Writes a i v y) h b n e m = h n (sym (among_every (λ c. c.array ≡ a) (cells_of (puts l k (Writes a i v y))) (refl, tt) b m) ∙ e)
  no_put (WritesFour a i u y) h b n e m = h n (sym (among_every (λ c. c.array ≡ a) (cells_of (puts l k (WritesFour a i u y))) (refl, (refl, (refl, (refl, tt)))) b m) ∙ e)
  no_put Ends h b n e m = m
  no_put (Waits a c y) h b n e m = m
  no_put (Moves y) h b n e m = m
  no_put (Reads a i f) h b n e m = m
  no_put (ReadsFour a i f) h b n e m = m
  no_put (Fails f) h b n e m = m

  keeps_inputs : (w : Wants) (m : Memory) → Leaves w → (b : Cell) (n : ℕ) → b.array ≡ Input n → stored l k w m b ≡ m b
  keeps_inputs w m h b n e = ap (λ (f : Memory). f b) (stored_is l k w m) ∙ put_all-other (puts l k w) m b (no_put w h b n e)

-- every item of a launch stands at a statement that spares inputs, and will
SparesOn : Device → State → List Event → Type 0
SparesOn d s es = (front rest : List Event) → es ≡ front ++ rest → (j : ℕ) → j < item_count d.launch → Spares ((run d s front).items j).code

module _ (d : Device) where
  event_reads : (s : State) (e : Event) (es : List Event) → SparesOn d s (e ∷ es) → IsRun d s (e ∷ es) → (a : Access) (n : ℕ) → Among a (accesses_of d s e) → a.cell.array ≡ Input n → a.writes ≡ false
  unfolding accesses_of next SparesOn
  event_reads s (Step k) es h r a n m e =
      reads_inputs d.launch k (wants d s k) (s.epochs (group_of d.launch k))
      (next_leaves (ids_of d.launch k) (s.items k).code (s.items k).frames (s.items k).vars (h [] (Step k ∷ es) refl k r.0.0))
      a n m e
  event_reads s (Release g) es h r a n m e = absurd m

  event_keeps : (s : State) (e : Event) (es : List Event) → SparesOn d s (e ∷ es) → IsRun d s (e ∷ es) → (b : Cell) (n : ℕ) → b.array ≡ Input n → (after d s e).memory b ≡ s.memory b
  unfolding after next SparesOn
  event_keeps s (Step k) es h r b n e =
      keeps_inputs d.launch k (wants d s k) s.memory
      (next_leaves (ids_of d.launch k) (s.items k).code (s.items k).frames (s.items k).vars (h [] (Step k ∷ es) refl k r.0.0))
      b n e
  event_keeps s (Release g) es h r b n e = refl

  later : (s : State) (e : Event) (es : List Event) → SparesOn d s (e ∷ es) → SparesOn d (after d s e) es
  unfolding SparesOn
  later s e es h front rest q = h (e ∷ front) rest (ap (λ x. e ∷ x) q)

  run_reads : (s : State) (es : List Event) → SparesOn d s es → IsRun d s es → (a : Access) (n : ℕ) → Among a (accesses d s es) → a.cell.array ≡ Input n → a.writes ≡ false
  run_reads s [] h r a n m e = absurd m
  run_reads s (f ∷ es) h r a n m e =
      ⊎_elim (λ x. event_reads s f es h r a n x e) (λ x. run_reads (after d s f) es (later s f es h) r.1 a n x e) (among-append a (accesses_of d s f) (accesses d (after d s f) es) m)

  run_keeps : (s : State) (es : List Event) → SparesOn d s es → IsRun d s es → (b : Cell) (n : ℕ) → b.array ≡ Input n → (run d s es).memory b ≡ s.memory b
  run_keeps s [] h r b n e = refl
  run_keeps s (f ∷ es) h r b n e = run_keeps (after d s f) es (later s f es h) r.1 b n e ∙ event_keeps s f es h r b n e

pub inputs_left : (k : Kernel) (l : Launch) (c : Cells) (s : State) (es : List Event) → is_kernel k ≡ true → IsStart k l c s → IsRun (device_of k l c) s es → LeavesInputs (device_of k l c) c s es
unfolding SparesOn
inputs_left k l c s es good start r = record {
  reads = run_reads d s es stand r;
  kept = run_keeps d s es stand r;
  held = λ n i lt. run_keeps d s es stand r (record { array = Input n; home = 0; index = i }) n refl ∙ start.inputs n i lt;
}
  where
    d : Device
    d = device_of k l c

    stand : SparesOn d s es
    stand front rest q j lt =
        spares_all k good _ (items_stand k l c s front start (is_run-front d s front rest (subst (IsRun d s) q r)) j lt)
