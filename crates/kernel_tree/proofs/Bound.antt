-- Each event leaves some item fewer events, so no run without a failure
-- has more than the text allows.
use Rattle.std.proofs.Common.{◌≡◌, ℕ, zero, suc, ◌+◌, ◌-◌, ◌*◌, ◌/◌, ◌<◌, ◌≤◌, ◌^◌, List, [], ◌∷◌, ◌++◌, length, length-append, inl, inr, ◌⊎◌, Some, None, refl, sym, ap, ◌∙◌, subst, ⊎_elim, arith, Bool, true, false}
use Rattle.std.specs.Prelude.{if◌then◌else◌, nat_lt}
use Rattle.std.proofs.lemmas.Bool.{cases_lt, eqb-true, eq-eqb, ltb-true, cases_Bool}
use Rattle.kernel_tree.specs.declared.events.Event.{Event}
use Rattle.kernel_tree.specs.declared.events.Event.TheVariants.{Step, Release}
use Rattle.kernel_tree.specs.declared.events.FaultKind.TheVariants.{LoopWrap}
use Rattle.kernel_tree.specs.declared.tree.Dimension.{Dimension}
use Rattle.kernel_tree.specs.declared.tree.Dimension.TheVariants.{X, Y}
use Rattle.kernel_tree.specs.Formula.{IdsAlong, ids_along, Ids, along, Vars, bound_value}
use Rattle.kernel_tree.specs.Code.{Stride, ByOne, ByGlobalSize, ByGroupCount, ByLocalSize, start_value, stride_value, Code, End, Performs, Loops, Guards, then_rest, Kernel}
use Rattle.kernel_tree.specs.Launch.{Launch, Cells, IsDivided, IsWhole, ids_of, item_count, column_of, row_of, first_item}
use Rattle.kernel_tree.specs.Item.{Frame, Item, item, loop_variables, Wants, Ends, Waits, Moves, Fails, tested, next_turn, next_at, next}
use Rattle.kernel_tree.specs.Device.{Device, device_of, State, IsStart, wants, CanStep, StandTogether, Enabled, moves, after, run, IsRun}
use Rattle.kernel_tree.specs.Faults.{failure, failure_of, NoFailure, Run}
use Rattle.kernel_tree.specs.Bound.{or_zero, turns_in, cost, bound}
use Rattle.kernel_tree.proofs.EveryRun.{is_run-front, is_run-back}
use Rattle.kernel_tree.proofs.Leads.{Leads, Rests, leads_if, leads_performed, leads_taken}
use Rattle.kernel_tree.proofs.Grouping.{first_of_group, first_in_launch, some_items, row_below}
use Rattle.kernel_tree.proofs.Confluence.{moves-first, items_kept}

next_round : (b t body : ℕ) → t < b → (b - t) * (1 + body) ≡ (b - suc t) * (1 + body) + (1 + body)
next_round b t body h =
    let e : b - t ≡ suc (b - suc t) = omega arith in
    ap (λ n. n * (1 + body)) e ∙ (let m = b - suc t in omega arith)

-- no stride along a dimension is 0
pub record StridesAlong (ids : IdsAlong) : Type 0 where
  global_size : 0 < ids.global_size
  group_count : 0 < ids.group_count
  local_size : 0 < ids.local_size

-- no stride is 0
pub record Strides (ids : Ids) : Type 0 where
  x : StridesAlong ids.x
  y : StridesAlong ids.y

strides_along : (ids : Ids) → Strides ids → (d : Dimension) → StridesAlong (along ids d)
strides_along ids h X = h.x
strides_along ids h Y = h.y

stride_positive : (ids : Ids) → Strides ids → (c : Stride) → 0 < stride_value ids c
stride_positive ids h ByOne = omega arith
stride_positive ids h (ByGlobalSize d) = (strides_along ids h d).global_size
stride_positive ids h (ByGroupCount d) = (strides_along ids h d).group_count
stride_positive ids h (ByLocalSize d) = (strides_along ids h d).local_size

-- a block and the rest cost what both do
cost-then_rest : (sizes : List ℕ) (body rest : Code) → cost sizes (then_rest body rest) ≡ cost sizes body + cost sizes rest
cost-then_rest sizes End rest = omega arith
cost-then_rest sizes (Performs s more) rest = let a = cost-then_rest sizes more rest in omega arith
cost-then_rest sizes (Loops s b c body more) rest = let a = cost-then_rest sizes more rest in let n = turns_in sizes b * (1 + cost sizes body) in omega arith
cost-then_rest sizes (Guards s b body more) rest = let a = cost-then_rest sizes more rest in omega arith

module _ (sizes : List ℕ) where
  -- the events that are left after the innermost block
  abbrev pub rest_cost : List Frame → ℕ
  rest_cost [] = 0
  rest_cost (f ∷ fs) = 1 + (turns_in sizes f.bound - suc f.turn) * (1 + cost sizes f.body) + cost sizes f.after + rest_cost fs

  abbrev pub left : Item → ℕ
  left x = cost sizes x.code + rest_cost x.frames

  -- no loop has more turns than its variable shows, nor than its bound
  abbrev pub SoundFrames : List Frame → Type 0
  SoundFrames [] = Unit {0}
  SoundFrames (f ∷ fs) = (f.turn ≤ f.variable) × (f.turn < turns_in sizes f.bound) × SoundFrames fs

  abbrev pub IsSound : Item → Type 0
  IsSound x = SoundFrames x.frames

  -- an item that is sound and has fewer than n events left
  abbrev HasFewer : ℕ → Item → Type 0
  HasFewer n x = IsSound x × (left x < n)

  -- whatever comes next is such an item
  abbrev Falls : ℕ → Wants → Type 0
  Falls n w = Leads (HasFewer n) w

  tested_falls : (n b : ℕ) (f : Frame) (fs : List Frame) (vars : Vars) → bound_value sizes f.bound ≡ Some b → f.turn ≤ f.variable → SoundFrames fs → (f.turn < turns_in sizes f.bound → cost sizes f.body + rest_cost (f ∷ fs) < n) → cost sizes f.after + rest_cost fs < n → Falls n (tested b f fs vars)
  tested_falls n b f fs vars q low sfs inside outside = go (nat_lt f.variable b) refl
    where
      go : (t : Bool) → nat_lt f.variable b ≡ t → Falls n (Moves (if nat_lt f.variable b then item f.body (f ∷ fs) vars else item f.after fs vars))
      go true e =
          let lt = ltb-true f.variable b e in
          let is : turns_in sizes f.bound ≡ b = ap or_zero q in
          let below : f.turn < turns_in sizes f.bound = omega arith in
          rw e ((low, below, sfs), inside below)
      go false e = rw e (sfs, outside)

module _ (ids : Ids) (strides : Strides ids) where
  falls : (x : Item) → IsSound ids.sizes x → Falls ids.sizes (left ids.sizes x) (next_at ids x.code x.frames x.vars)
  falls x s = go x.code x.frames x.vars s
    where
      again : (f : Frame) (fs : List Frame) (vars : Vars) (b : ℕ) → bound_value ids.sizes f.bound ≡ Some b → f.turn ≤ f.variable → f.turn < turns_in ids.sizes f.bound → SoundFrames ids.sizes fs → (t : Bool) → nat_lt (f.variable + stride_value ids f.stride) (2 ^ 32) ≡ t → Falls ids.sizes (0 + rest_cost ids.sizes (f ∷ fs)) (if nat_lt (f.variable + stride_value ids f.stride) (2 ^ 32) then tested b (next_turn ids f) fs vars else Fails LoopWrap)
      again f fs vars b q low below sfs true e =
          let positive = stride_positive ids strides f.stride in
          rw e (tested_falls ids.sizes (0 + rest_cost ids.sizes (f ∷ fs)) b (next_turn ids f) fs vars q (omega arith) sfs
          (λ more. let n = next_round (turns_in ids.sizes f.bound) (suc f.turn) (cost ids.sizes f.body) more in omega arith)
          (omega arith))
      again f fs vars b q low below sfs false e = rw e tt

      go : (c : Code) (fs : List Frame) (vars : Vars) → SoundFrames ids.sizes fs → Falls ids.sizes (cost ids.sizes c + rest_cost ids.sizes fs) (next_at ids c fs vars)
      go End [] vars sf = tt
      go End (f ∷ fs) vars sf = leads_if (HasFewer ids.sizes _) (bound_value ids.sizes f.bound) _ (λ b q. again f fs vars b q sf.0 sf.1 sf.2 _ refl)
      go (Performs s after) fs vars sf = leads_performed (HasFewer ids.sizes _) ids (loop_variables fs) vars s _ (λ u. (sf, omega arith))
      go (Loops s b c body after) fs vars sf = leads_if (HasFewer ids.sizes _) (bound_value ids.sizes b) _ (λ n q.
          tested_falls ids.sizes _ n (record { turn = 0; variable = start_value ids s; bound = b; stride = c; body = body; after = after }) fs vars q (omega arith) sf
          (λ some. let r = next_round (turns_in ids.sizes b) 0 (cost ids.sizes body) some in let z : turns_in ids.sizes b - 0 ≡ turns_in ids.sizes b = omega arith in let w = ap (λ m. m * (1 + cost ids.sizes body)) z in omega arith)
          (omega arith))
      go (Guards s b body after) fs vars sf = leads_if (HasFewer ids.sizes _) (bound_value ids.sizes b) _ (λ n q. guarded (nat_lt (start_value ids s) n))
        where
          guarded : (t : Bool) → Falls ids.sizes (1 + cost ids.sizes body + cost ids.sizes after + rest_cost ids.sizes fs) (Moves (if t then item (then_rest body after) fs vars else item after fs vars))
          guarded true = (sf, (let e = cost-then_rest ids.sizes body after in omega arith))
          guarded false = (sf, omega arith)

-- over all items
abbrev pub total : (ℕ → ℕ) → ℕ → ℕ
total f zero = 0
total f (suc n) = total f n + f n

total_le : (f g : ℕ → ℕ) (n : ℕ) → ((k : ℕ) → k < n → g k ≤ f k) → total g n ≤ total f n
total_le f g zero h = omega arith
total_le f g (suc n) h = let a = total_le f g n (λ k b. h k (omega arith)) in let b = h n (omega arith) in omega arith

total_less : (f g : ℕ → ℕ) (n j : ℕ) → ((k : ℕ) → k < n → g k ≤ f k) → j < n → g j < f j → total g n < total f n
total_less f g zero j h lt less = absurd (omega arith)
total_less f g (suc n) j h lt less =
    ⊎_elim
    (λ a. let x = total_less f g n j (λ k b. h k (omega arith)) a less in let y = h n (omega arith) in omega arith)
    (λ b. let e : j ≡ n = omega arith in let x = total_le f g n (λ k c. h k (omega arith)) in let y : g n < f n = subst (λ i. g i < f i) e less in omega arith)
    (cases_lt j n)

total_same : (f : ℕ → ℕ) (n each : ℕ) → ((k : ℕ) → k < n → f k ≡ each) → total f n ≡ n * each
total_same f zero each h = omega arith
total_same f (suc n) each h = let a = total_same f n each (λ k b. h k (omega arith)) in let b = h n (omega arith) in omega arith

product_positive : (n m : ℕ) → 0 < n * m → 0 < n
product_positive n m h = grind arith

divided : (global local place : ℕ) → IsDivided global local → 0 < global → StridesAlong (ids_along global local place)
divided global local place whole some = record {
  global_size = some;
  group_count = product_positive (global / local) local (subst (λ n. 0 < n) whole.divides some);
  local_size = whole.positive;
}

strides_of : (l : Launch) → IsWhole l → (k : ℕ) → k < item_count l → Strides (ids_of l k)
strides_of l whole k h =
    let low = row_below l whole k h in
    record {
      x = divided l.global.0 l.local.0 (column_of l k) whole.x (some_items l whole k h);
      y = divided l.global.1 l.local.1 (row_of l k) whole.y (let rows : 0 < l.global.1 = omega arith in rows);
    }

step_on : (d : Device) (w : Wants) → CanStep w → failure d w ≡ None → Rests w → ⊥
step_on d Ends c q r = c
step_on d (Fails f) c q r = cc
step_on d _ c q r = r

stand_on : (v w : Wants) → StandTogether v w → Rests w → ⊥
stand_on (Waits a b x) (Waits c d y) h r = r
stand_on (Waits a b x) _ h r = h
stand_on _ _ h r = h

module _ (d : Device) (whole : IsWhole d.launch) where
  abbrev pub SoundState : State → Type 0
  SoundState s = (k : ℕ) → k < item_count d.launch → IsSound d.launch.sizes (s.items k)

  abbrev left_at : State → ℕ → ℕ
  left_at s k = left d.launch.sizes (s.items k)

  -- the events that are left to all items
  abbrev pub left_in : State → ℕ
  left_in s = total (left_at s) (item_count d.launch)

  goes_on : (s : State) (e : Event) → Enabled d s e → failure_of d s e ≡ None → (j : ℕ) → moves d.launch e j ≡ true → Rests (wants d s j) → ⊥
  unfolding failure_of
  goes_on s (Step k) en ok j h = let e = eqb-true j k h in subst (λ x. Rests (wants d s x) → ⊥) (sym e) (step_on d (wants d s k) en.1 ok)
  goes_on s (Release g) en ok j h = stand_on _ _ (en.1 j (eqb-true _ _ h))

  item_falls : (s : State) (e : Event) → SoundState s → Enabled d s e → failure_of d s e ≡ None → (k : ℕ) → k < item_count d.launch → moves d.launch e k ≡ true → IsSound d.launch.sizes ((after d s e).items k) × (left_at (after d s e) k < left_at s k)
  unfolding next after
  item_falls s e sound en ok k b h =
      rw h (leads_taken (HasFewer d.launch.sizes (left_at s k)) d.launch k (wants d s k) s.memory (s.items k)
      (falls (ids_of d.launch k) (strides_of d.launch whole k b) (s.items k) (sound k b)) (λ r. absurd (goes_on s e en ok k h r)))

  sound_on : (s : State) (e : Event) → SoundState s → Enabled d s e → failure_of d s e ≡ None → SoundState (after d s e)
  sound_on s e sound en ok k b =
      ⊎_elim (λ h. (item_falls s e sound en ok k b h).0) (λ h. subst (IsSound d.launch.sizes) (sym (items_kept d s e k h)) (sound k b)) (cases_Bool (moves d.launch e k))

  no_more_left : (s : State) (e : Event) → SoundState s → Enabled d s e → failure_of d s e ≡ None → (k : ℕ) → k < item_count d.launch → left_at (after d s e) k ≤ left_at s k
  no_more_left s e sound en ok k b =
      ⊎_elim
      (λ h. let a = (item_falls s e sound en ok k b h).1 in omega arith)
      (λ h. let a = ap (left d.launch.sizes) (items_kept d s e k h) in omega arith)
      (cases_Bool (moves d.launch e k))

  some_item : (s : State) (e : Event) → Enabled d s e → (j : ℕ) × (j < item_count d.launch) × (moves d.launch e j ≡ true)
  some_item s (Step k) en = (k, en.0, eq-eqb k k refl)
  some_item s (Release g) en = (first_item d.launch g, first_in_launch d.launch whole g en.0, moves-first d whole g)

  sound_through : (s : State) (es : List Event) → SoundState s → IsRun d s es → NoFailure d s es → SoundState (run d s es)
  sound_through s [] sound r ok = sound
  sound_through s (e ∷ es) sound r ok = sound_through (after d s e) es (sound_on s e sound r.0 ok.0) r.1 ok.1

  -- what a run takes and what it leaves
  pub bounded : (s : State) (es : List Event) → SoundState s → IsRun d s es → NoFailure d s es → length es + left_in (run d s es) ≤ left_in s
  bounded s [] sound r ok = omega arith
  bounded s (e ∷ es) sound r ok =
      let rest = bounded (after d s e) es (sound_on s e sound r.0 ok.0) r.1 ok.1 in
      let j = some_item s e r.0 in
      let less = total_less (left_at s) (left_at (after d s e)) (item_count d.launch) j.0 (no_more_left s e sound r.0 ok.0) j.1 (item_falls s e sound r.0 ok.0 j.0 j.1 j.2).1 in
      omega arith

  -- an item that has not ended has an event left
  left_to_do : (ids : Ids) (c : Code) (fs : List Frame) (vars : Vars) → (next_at ids c fs vars ≡ Ends → ⊥) → 0 < left d.launch.sizes (item c fs vars)
  left_to_do ids End [] vars h = absurd (h refl)
  left_to_do ids End (f ∷ fs) vars h = omega arith
  left_to_do ids (Performs s after) fs vars h = omega arith
  left_to_do ids (Loops s b c body after) fs vars h = omega arith
  left_to_do ids (Guards s b body after) fs vars h = omega arith

  moving_item : (s : State) (e : Event) → Enabled d s e → (j : ℕ) × (j < item_count d.launch) × (wants d s j ≡ Ends → ⊥)
  moving_item s (Step k) en = (k, en.0, λ q. subst CanStep q en.1)
  moving_item s (Release g) en =
      (first_item d.launch g, first_in_launch d.launch whole g en.0, λ q. none_ended (wants d s (first_item d.launch g)) (en.1 (first_item d.launch g) (first_of_group d.launch whole g)) q)
    where
      none_ended : (w : Wants) → StandTogether w w → w ≡ Ends → ⊥
      none_ended w t q = subst (λ x. StandTogether x x) q t

  -- where an event is enabled, one is left
  some_left : (s : State) (e : Event) → Enabled d s e → 0 < left_in s
  unfolding next
  some_left s e en =
      let j = moving_item s e en in
      let some = left_to_do (ids_of d.launch j.0) (s.items j.0).code (s.items j.0).frames (s.items j.0).vars j.2 in
      let less = total_less (left_at s) (λ k. left_at s k - 1) (item_count d.launch) j.0 (λ k lt. let n = left_at s k in omega arith) j.1 (let n = left_at s j.0 in omega arith) in
      omega arith

  -- one more event than in a run without a failure
  pub bounded_with_last : (s : State) (es : List Event) (e : Event) → SoundState s → IsRun d s es → NoFailure d s es → Enabled d (run d s es) e → length es + 1 ≤ left_in s
  bounded_with_last s es e sound r ok en = let a = bounded s es sound r ok in let b = some_left (run d s es) e en in omega arith

-- a list has a last member, or none
last_first : (es : List Event) → (es ≡ []) ⊎ ((front : List Event) × (last : Event) × (es ≡ front ++ last ∷ []))
last_first [] = inl refl
last_first (e ∷ es) = inr (go (last_first es))
  where
    go : ((es ≡ []) ⊎ ((front : List Event) × (last : Event) × (es ≡ front ++ last ∷ []))) → (front : List Event) × (last : Event) × (e ∷ es ≡ front ++ last ∷ [])
    go (inl q) = ([], e, ap (λ x. e ∷ x) q)
    go (inr (front, last, q)) = (e ∷ front, last, ap (λ x. e ∷ x) q)

-- a kernel's runs from its start

start_sound : (k : Kernel) (l : Launch) (c : Cells) (whole : IsWhole l) (s : State) → IsStart k l c s → SoundState (device_of k l c) whole s
start_sound k l c whole s start = λ j b. subst (IsSound l.sizes) (sym (start.items j b)) tt

left_at_start : (k : Kernel) (l : Launch) (c : Cells) (whole : IsWhole l) (s : State) → IsStart k l c s → left_in (device_of k l c) whole s ≡ bound k l
left_at_start k l c whole s start =
    total_same (λ j. left l.sizes (s.items j)) (item_count l) (cost l.sizes k.code) (λ j b. ap (left l.sizes) (start.items j b) ∙ (let z : cost l.sizes k.code + 0 ≡ cost l.sizes k.code = omega arith in z))

pub within_bound : (k : Kernel) (l : Launch) (c : Cells) (s : State) (es : List Event) → IsWhole l → IsStart k l c s → IsRun (device_of k l c) s es → NoFailure (device_of k l c) s es → length es ≤ bound k l
within_bound k l c s es whole start r ok =
    let low = bounded (device_of k l c) whole s es (start_sound k l c whole s start) r ok in
    let all = left_at_start k l c whole s start in
    omega arith

-- the last event may fail
pub run_within_bound : (k : Kernel) (l : Launch) (c : Cells) (s : State) (es : List Event) → IsWhole l → IsStart k l c s → Run (device_of k l c) s es → length es ≤ bound k l
run_within_bound k l c s es whole start r = by_last (last_first es) r
  where
    d : Device
    d = device_of k l c

    by_last : ((es ≡ []) ⊎ ((front : List Event) × (last : Event) × (es ≡ front ++ last ∷ []))) → Run d s es → length es ≤ bound k l
    by_last (inl e) r = subst (λ x. length x ≤ bound k l) (sym e) (omega arith)
    by_last (inr (front, last, e)) r =
        let ok = (r.none_after_fault front last e).no_failure in
        let whole_run : IsRun d s (front ++ last ∷ []) = subst (IsRun d s) e r.enabled in
        let low = bounded_with_last d whole s front last (start_sound k l c whole s start) (is_run-front d s front (last ∷ []) whole_run) ok (is_run-back d s front (last ∷ []) whole_run).0 in
        let all = left_at_start k l c whole s start in
        let n : length (front ++ last ∷ []) ≡ length front + 1 = length-append front (last ∷ []) in
        subst (λ x. length x ≤ bound k l) (sym e) (omega arith)
