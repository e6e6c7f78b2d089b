-- What an item has left to do, of what its code counts: each event takes its part of it.
use Rattle.std.proofs.Common.{◌≡◌, ℕ, suc, ◌+◌, ◌*◌, ◌/◌, ◌<◌, ◌^◌, List, [], ◌∷◌, ◌++◌, Option, Some, None, refl, sym, ap, ◌∙◌, subst, ⊎_elim, arith, Bool, true, false}
use Rattle.std.specs.Prelude.{if◌then◌else◌, nat_lt}
use Rattle.std.proofs.lemmas.Bool.{eqb-true, ltb-true, ltb-false, cases_Bool}
use Rattle.kernel_tree.specs.declared.events.Event.{Event}
use Rattle.kernel_tree.specs.declared.events.Event.TheVariants.{Step, Release}
use Rattle.kernel_tree.specs.declared.events.FaultKind.TheVariants.{LoopWrap}
use Rattle.kernel_tree.specs.declared.tree.Dimension.TheVariants.{X, Y}
use Rattle.kernel_tree.specs.Formula.{Formula, Lanes, Ids, Vars, Four, set_word, set_vector, value, bound_value, lanes_value}
use Rattle.kernel_tree.specs.Code.{Array, Stride, ByOne, ByGlobalSize, ByGroupCount, ByLocalSize, Statement, Assigns, Loads, Stores, AssignsFour, LoadsFour, StoresFour, Syncs, Code, End, Performs, Loops, Guards, start_value, stride_value, then_rest}
use Rattle.kernel_tree.specs.Launch.{Launch, IsDivided, IsWhole, item_count, ids_of}
use Rattle.kernel_tree.specs.Item.{Frame, Item, item, loop_variables, Wants, Ends, Waits, Moves, Reads, Writes, ReadsFour, WritesFour, Fails, with_value, first_turn, tested, next_at, next, perform}
use Rattle.kernel_tree.specs.Item as items
use Rattle.kernel_tree.specs.Device.{Device, State, cell_at, four_at, wants, CanStep, StandTogether, Enabled, moves, after, run, IsRun}
use Rattle.kernel_tree.specs.Faults.{failure, failure_of, NoFailure}
use Rattle.kernel_tree.specs.Deeds.{Moved, Got, Gave, GotFour, GaveFour}
use Rattle.kernel_tree.specs.Histories.{Act, Did, Past, act_of, acts_of, history}
use Rattle.kernel_tree.specs.Bound.{or_zero, turns_in}
use Rattle.kernel_tree.proofs.Leads.{Leads, Rests, leads_taken}
use Rattle.kernel_tree.proofs.Confluence.{items_kept}
use Rattle.kernel_traffic.specs.Traffic.{turns_below, once, total_in}
use Rattle.kernel_traffic.proofs.Turns.{no_turn, next_turn}

-- no stride of an item of the launch is 0
abbrev pub HasStrides : Ids → Type 0
HasStrides ids = (c : Stride) → 0 < stride_value ids c

product_positive : (n m : ℕ) → 0 < n * m → 0 < n
product_positive n m h = grind arith

pub positive : (l : Launch) → IsWhole l → (k : ℕ) → k < item_count l → HasStrides (ids_of l k)
positive l whole k h c = go c
  where
    across : 0 < l.global.0
    across = product_positive l.global.0 l.global.1 (omega arith)

    down : 0 < l.global.1
    down = product_positive l.global.1 l.global.0 (grind arith)

    groups : (global local : ℕ) → IsDivided global local → 0 < global → 0 < global / local
    groups global local d some = product_positive (global / local) local (subst (λ n. 0 < n) d.divides some)

    go : (c : Stride) → 0 < stride_value (ids_of l k) c
    go ByOne = omega arith
    go (ByGlobalSize X) = across
    go (ByGlobalSize Y) = down
    go (ByGroupCount X) = groups l.global.0 l.local.0 whole.x across
    go (ByGroupCount Y) = groups l.global.1 l.local.1 whole.y down
    go (ByLocalSize X) = whole.x.positive
    go (ByLocalSize Y) = whole.y.positive

-- the sum of what acts count
abbrev pub sum_of : (Act → ℕ) → List Act → ℕ
sum_of count [] = 0
sum_of count (a ∷ h) = count a + sum_of count h

-- a statement counts as much as what an item does by it, whatever the cell
pub record Fits (weight : Statement → ℕ) (act : Act → ℕ) : Type 0 where
  pub moved : act (Did Moved) ≡ 0
  pub assigns : (v : ℕ) (e : Formula) → weight (Assigns v e) ≡ 0
  pub loads : (v : ℕ) (a : Array) (i : Formula) (l : Launch) (k n : ℕ) → weight (Loads v a i) ≡ act (Did (Got (cell_at l k a n)))
  pub stores : (a : Array) (i e : Formula) (l : Launch) (k n x : ℕ) → weight (Stores a i e) ≡ act (Did (Gave (cell_at l k a n) x))
  pub assigns_four : (v : ℕ) (e : Lanes) → weight (AssignsFour v e) ≡ 0
  pub loads_four : (v : ℕ) (a : Array) (i : Formula) (l : Launch) (k n : ℕ) → weight (LoadsFour v a i) ≡ act (Did (GotFour (four_at l k a n)))
  pub stores_four : (a : Array) (i : Formula) (e : Lanes) (l : Launch) (k n : ℕ) (u : Four) → weight (StoresFour a i e) ≡ act (Did (GaveFour (four_at l k a n) u))
  pub syncs : (a b : Bool) → weight (Syncs a b) ≡ act (Past a b)

module _ (weight : Statement → ℕ) (act : Act → ℕ) (fits : Fits weight act) (l : Launch) (k : ℕ) where
  ids : Ids
  ids = ids_of l k

  total : Code → ℕ
  total code = total_in weight (ids_of l k) code

  total-then_rest : (body rest : Code) → total_in weight (ids_of l k) (then_rest body rest) ≡ total_in weight (ids_of l k) body + total_in weight (ids_of l k) rest
  total-then_rest End rest = omega arith
  total-then_rest (Performs s more) rest = let a = total-then_rest more rest in omega arith
  total-then_rest (Loops s b c body more) rest = let a = total-then_rest more rest in let n = turns_below (start_value (ids_of l k) s) (turns_in (ids_of l k).sizes b) (stride_value (ids_of l k) c) * total_in weight (ids_of l k) body in omega arith
  total-then_rest (Guards s b body more) rest = let a = total-then_rest more rest in let n = once (nat_lt (start_value (ids_of l k) s) (turns_in (ids_of l k).sizes b)) * total_in weight (ids_of l k) body in omega arith

  -- what is left after the innermost block
  abbrev rest_left : List Frame → ℕ
  rest_left [] = 0
  rest_left (f ∷ fs) =
      turns_below (f.variable + stride_value (ids_of l k) f.stride) (turns_in (ids_of l k).sizes f.bound) (stride_value (ids_of l k) f.stride) * total_in weight (ids_of l k) f.body
      + total_in weight (ids_of l k) f.after + rest_left fs

  -- what an item has left
  abbrev pub left : Item → ℕ
  left x = total_in weight (ids_of l k) x.code + rest_left x.frames

  -- what comes next takes its part of n, and leaves the rest
  abbrev Spends : ℕ → Wants → Type 0
  Spends n w = Leads (λ y. act (act_of l k w) + left y ≡ n) w

  spends_if : {A : Type 0} (n : ℕ) (o : Option A) (go : A → Wants) → ((v : A) → o ≡ Some v → Spends n (go v)) → Spends n (with_value o go)
  spends_if n None go h = tt
  spends_if n (Some v) go h = h v refl

  spends_performed : (n : ℕ) (loops : List ℕ) (vars : Vars) (s : Statement) (on : Vars → Item) → ((u : Vars) → weight s + left (on u) ≡ n) → Spends n (perform (ids_of l k) loops vars s on)
  spends_performed n ls vars (Assigns v e) on h = spends_if n (value (ids_of l k) ls vars e) _ (λ x q. ap (λ m. m + left (on (set_word vars v x))) (fits.moved ∙ sym (fits.assigns v e)) ∙ h (set_word vars v x))
  spends_performed n ls vars (Loads v a i) on h = spends_if n (value (ids_of l k) ls vars i) _ (λ m q x. ap (λ z. z + left (on (set_word vars v x))) (sym (fits.loads v a i l k m)) ∙ h (set_word vars v x))
  spends_performed n ls vars (Stores a i e) on h =
      spends_if n (value (ids_of l k) ls vars i) _ (λ m q. spends_if n (value (ids_of l k) ls vars e) _ (λ x r. ap (λ z. z + left (on vars)) (sym (fits.stores a i e l k m x)) ∙ h vars))
  spends_performed n ls vars (AssignsFour v e) on h = spends_if n (lanes_value (ids_of l k) ls vars e) _ (λ x q. ap (λ m. m + left (on (set_vector vars v x))) (fits.moved ∙ sym (fits.assigns_four v e)) ∙ h (set_vector vars v x))
  spends_performed n ls vars (LoadsFour v a i) on h = spends_if n (value (ids_of l k) ls vars i) _ (λ m q u. ap (λ z. z + left (on (set_vector vars v u))) (sym (fits.loads_four v a i l k m)) ∙ h (set_vector vars v u))
  spends_performed n ls vars (StoresFour a i e) on h =
      spends_if n (value (ids_of l k) ls vars i) _ (λ m q. spends_if n (lanes_value (ids_of l k) ls vars e) _ (λ u r. ap (λ z. z + left (on vars)) (sym (fits.stores_four a i e l k m u)) ∙ h vars))
  spends_performed n ls vars (Syncs a b) on h = ap (λ z. z + left (on vars)) (sym (fits.syncs a b)) ∙ h vars

  module _ (strides : HasStrides (ids_of l k)) where
    another : (turns turn later more : ℕ) → turns ≡ suc later → turn + (later * turn + more) ≡ turns * turn + more
    another turns turn later more e = rw e (let p = later * turn in grind arith)

    spends_tested : (n b : ℕ) (f : Frame) (fs : List Frame) (vars : Vars) → turns_in (ids_of l k).sizes f.bound ≡ b
        → turns_below f.variable b (stride_value (ids_of l k) f.stride) * total_in weight (ids_of l k) f.body + (total_in weight (ids_of l k) f.after + rest_left fs) ≡ n → Spends n (tested b f fs vars)
    spends_tested n b f fs vars q e = go (nat_lt f.variable b) refl
      where
        go : (t : Bool) → nat_lt f.variable b ≡ t → act (Did Moved) + left (if nat_lt f.variable b then item f.body (f ∷ fs) vars else item f.after fs vars) ≡ n
        go true p =
            let moved = fits.moved in
            let lt = ltb-true f.variable b p in
            let step = stride_value (ids_of l k) f.stride in
            let one = next_turn f.variable b step (strides f.stride) lt in
            let later = turns_below (f.variable + step) b step in
            let turn = total_in weight (ids_of l k) f.body in
            let more = total_in weight (ids_of l k) f.after + rest_left fs in
            let sum = another (turns_below f.variable b step) turn later more one in
            let here : turns_below (f.variable + step) (turns_in (ids_of l k).sizes f.bound) step * turn ≡ later * turn = ap (λ m. turns_below (f.variable + step) m step * turn) q in
            rw p (let w = later * turn in let z = turns_below f.variable b step * turn in omega arith)
        go false p =
            let moved = fits.moved in
            let le = ltb-false f.variable b p in
            let step = stride_value (ids_of l k) f.stride in
            let none : turns_below f.variable b step * total_in weight (ids_of l k) f.body ≡ 0 = ap (λ m. m * total_in weight (ids_of l k) f.body) (no_turn f.variable b step le) ∙ (omega arith) in
            rw p (omega arith)

    spends : (c : Code) (fs : List Frame) (vars : Vars) → Spends (left (item c fs vars)) (next_at (ids_of l k) c fs vars)
    spends End [] vars = tt
    spends End (f ∷ fs) vars = spends_if (left (item End (f ∷ fs) vars)) (bound_value (ids_of l k).sizes f.bound) _ (λ b q. again b q (nat_lt (f.variable + stride_value (ids_of l k) f.stride) (2 ^ 32)))
      where
        again : (b : ℕ) → bound_value (ids_of l k).sizes f.bound ≡ Some b → (t : Bool) → Spends (left (item End (f ∷ fs) vars)) (if t then tested b (items.next_turn (ids_of l k) f) fs vars else Fails LoopWrap)
        again b q true =
            spends_tested (left (item End (f ∷ fs) vars)) b (items.next_turn (ids_of l k) f) fs vars (ap or_zero q)
            (let step = stride_value (ids_of l k) f.stride in
            let here : turns_below (f.variable + step) (turns_in (ids_of l k).sizes f.bound) step * total_in weight (ids_of l k) f.body ≡ turns_below (f.variable + step) b step * total_in weight (ids_of l k) f.body = ap (λ m. turns_below (f.variable + step) (or_zero m) step * total_in weight (ids_of l k) f.body) q in
            let w = turns_below (f.variable + step) b step * total_in weight (ids_of l k) f.body in omega arith)
        again b q false = tt
    spends (Performs s after) fs vars = spends_performed (left (item (Performs s after) fs vars)) (loop_variables fs) vars s _ (λ u. omega arith)
    spends (Loops s b c body after) fs vars = spends_if (left (item (Loops s b c body after) fs vars)) (bound_value (ids_of l k).sizes b) _ (λ n q.
        spends_tested (left (item (Loops s b c body after) fs vars)) n (first_turn (ids_of l k) s b c body after) fs vars (ap or_zero q)
        (let here : turns_below (start_value (ids_of l k) s) (turns_in (ids_of l k).sizes b) (stride_value (ids_of l k) c) * total_in weight (ids_of l k) body ≡ turns_below (start_value (ids_of l k) s) n (stride_value (ids_of l k) c) * total_in weight (ids_of l k) body = ap (λ m. turns_below (start_value (ids_of l k) s) (or_zero m) (stride_value (ids_of l k) c) * total_in weight (ids_of l k) body) q in
        let w = turns_below (start_value (ids_of l k) s) n (stride_value (ids_of l k) c) * total_in weight (ids_of l k) body in omega arith))
    spends (Guards s b body after) fs vars = spends_if (left (item (Guards s b body after) fs vars)) (bound_value (ids_of l k).sizes b) _ (λ n q. guarded n q (nat_lt (start_value (ids_of l k) s) n) refl)
      where
        guarded : (n : ℕ) → bound_value (ids_of l k).sizes b ≡ Some n → (t : Bool) → nat_lt (start_value (ids_of l k) s) n ≡ t → Spends (left (item (Guards s b body after) fs vars)) (Moves (if t then item (then_rest body after) fs vars else item after fs vars))
        guarded n q t p =
            let moved = fits.moved in
            let here : once (nat_lt (start_value (ids_of l k) s) (turns_in (ids_of l k).sizes b)) * total_in weight (ids_of l k) body ≡ once t * total_in weight (ids_of l k) body = ap (λ m. once (nat_lt (start_value (ids_of l k) s) (or_zero m)) * total_in weight (ids_of l k) body) q ∙ ap (λ m. once m * total_in weight (ids_of l k) body) p in
            inner t here
          where
            inner : (t : Bool) → once (nat_lt (start_value (ids_of l k) s) (turns_in (ids_of l k).sizes b)) * total_in weight (ids_of l k) body ≡ once t * total_in weight (ids_of l k) body → act (Did Moved) + left (if t then item (then_rest body after) fs vars else item after fs vars) ≡ left (item (Guards s b body after) fs vars)
            inner true here = let moved = fits.moved in let e = total-then_rest body after in let z : 1 * total_in weight (ids_of l k) body ≡ total_in weight (ids_of l k) body = omega arith in omega arith
            inner false here = let moved = fits.moved in omega arith

step_on : (d : Device) (w : Wants) → CanStep w → failure d w ≡ None → Rests w → ⊥
step_on d Ends c q r = c
step_on d (Fails f) c q r = cc
step_on d _ c q r = r

stand_on : (v w : Wants) → StandTogether v w → Rests w → ⊥
stand_on (Waits a b x) (Waits c d y) h r = r
stand_on (Waits a b x) _ h r = h
stand_on _ _ h r = h

module _ (weight : Statement → ℕ) (act : Act → ℕ) (fits : Fits weight act) (d : Device) (whole : IsWhole d.launch) (k : ℕ) (within : k < item_count d.launch) where
  left_at : State → ℕ
  left_at s = left weight act fits d.launch k (s.items k)

  goes_on : (s : State) (e : Event) → Enabled d s e → failure_of d s e ≡ None → moves d.launch e k ≡ true → Rests (wants d s k) → ⊥
  unfolding failure_of
  goes_on s (Step j) en ok h = let e = eqb-true k j h in subst (λ x. Rests (wants d s x) → ⊥) (sym e) (step_on d (wants d s j) en.1 ok)
  goes_on s (Release g) en ok h = stand_on _ _ (en.1 k (eqb-true _ _ h))

  abbrev Takes : State → Event → Type 0
  Takes s e = sum_of act (acts_of d s e k) + left weight act fits d.launch k ((after d s e).items k) ≡ left weight act fits d.launch k (s.items k)

  moving : (s : State) (e : Event) → Enabled d s e → failure_of d s e ≡ None → moves d.launch e k ≡ true → Takes s e
  unfolding next after
  moving s e en ok h =
      let n = left weight act fits d.launch k (s.items k) in
      let one = leads_taken (λ y. act (act_of d.launch k (wants d s k)) + left weight act fits d.launch k y ≡ n) d.launch k (wants d s k) s.memory (s.items k)
      (spends weight act fits d.launch k (positive d.launch whole k within) (s.items k).code (s.items k).frames (s.items k).vars) (λ r. absurd (goes_on s e en ok h r)) in
      rw h (omega (arith, one))

  staying : (s : State) (e : Event) → moves d.launch e k ≡ false → Takes s e
  staying s e h =
      let kept = ap (left weight act fits d.launch k) (items_kept d s e k h) in
      rw h (omega arith)

  takes : (s : State) (e : Event) → Enabled d s e → failure_of d s e ≡ None → Takes s e
  takes s e en ok = ⊎_elim (moving s e en ok) (staying s e) (cases_Bool (moves d.launch e k))

  sum-append : (x y : List Act) → sum_of act (x ++ y) ≡ sum_of act x + sum_of act y
  sum-append [] y = omega arith
  sum-append (a ∷ x) y = let e = sum-append x y in omega arith

  -- what an item did in a run without a failure, and what it has left, is what it had
  pub done : (s : State) (es : List Event) → IsRun d s es → NoFailure d s es
      → sum_of act (history d s es k) + left weight act fits d.launch k ((run d s es).items k) ≡ left weight act fits d.launch k (s.items k)
  done s [] r ok = omega arith
  done s (e ∷ es) r ok =
      let first = takes s e r.0 ok.0 in
      let more = done (after d s e) es r.1 ok.1 in
      let sum = sum-append (acts_of d s e k) (history d (after d s e) es k) in
      omega arith

  -- it has not ended
  abbrev IsMore : Wants → Type 0
  IsMore Ends = ⊥
  IsMore _ = Unit {0}

  more_if : {A : Type 0} (o : Option A) (go : A → Wants) → ((v : A) → IsMore (go v)) → IsMore (with_value o go)
  more_if None go h = tt
  more_if (Some v) go h = h v

  more_performed : (known : Ids) (ls : List ℕ) (vars : Vars) (s : Statement) (on : Vars → Item) → IsMore (perform known ls vars s on)
  more_performed known ls vars (Assigns v e) on = more_if (value known ls vars e) _ (λ x. tt)
  more_performed known ls vars (Loads v a i) on = more_if (value known ls vars i) _ (λ x. tt)
  more_performed known ls vars (Stores a i e) on = more_if (value known ls vars i) _ (λ x. more_if (value known ls vars e) _ (λ y. tt))
  more_performed known ls vars (AssignsFour v e) on = more_if (lanes_value known ls vars e) _ (λ x. tt)
  more_performed known ls vars (LoadsFour v a i) on = more_if (value known ls vars i) _ (λ x. tt)
  more_performed known ls vars (StoresFour a i e) on = more_if (value known ls vars i) _ (λ x. more_if (lanes_value known ls vars e) _ (λ y. tt))
  more_performed known ls vars (Syncs a b) on = tt

  ended : {P : Type 0} (w : Wants) → IsMore w → w ≡ Ends → P
  ended w m h = absurd (subst IsMore h m)

  -- an item that has ended has nothing left
  ended_left : (c : Code) (fs : List Frame) (vars : Vars) → next_at (ids_of d.launch k) c fs vars ≡ Ends → left weight act fits d.launch k (item c fs vars) ≡ 0
  ended_left End [] vars h = refl
  ended_left End (f ∷ fs) vars h = ended _ (more_if (bound_value (ids_of d.launch k).sizes f.bound) _ (λ b. again b (nat_lt (f.variable + stride_value (ids_of d.launch k) f.stride) (2 ^ 32)))) h
    where
      again : (b : ℕ) (t : Bool) → IsMore (if t then tested b (items.next_turn (ids_of d.launch k) f) fs vars else Fails LoopWrap)
      again b true = tt
      again b false = tt
  ended_left (Performs s after) fs vars h = ended _ (more_performed (ids_of d.launch k) (loop_variables fs) vars s _) h
  ended_left (Loops s b c body after) fs vars h = ended _ (more_if (bound_value (ids_of d.launch k).sizes b) _ (λ n. tt)) h
  ended_left (Guards s b body after) fs vars h = ended _ (more_if (bound_value (ids_of d.launch k).sizes b) _ (λ n. tt)) h

  -- so it did all that it had
  pub all_done : (s : State) (es : List Event) → IsRun d s es → NoFailure d s es → wants d (run d s es) k ≡ Ends → sum_of act (history d s es k) ≡ left weight act fits d.launch k (s.items k)
  unfolding next
  all_done s es r ok h =
      let sum = done s es r ok in
      let x = (run d s es).items k in
      let none = ended_left x.code x.frames x.vars h in
      omega arith
