-- What the machine tells of the state that it holds: which events are enabled,
-- and whether all items have ended.
use Rattle.std.proofs.Common.{◌≡◌, ℕ, ◌+◌, ◌*◌, ◌/◌, ◌^◌, ◌<◌, ◌≤◌, List, length, Option, Some, None, Bool, true, false, refl, sym, ap, ◌∙◌, subst, ⊎_elim, arith, ◌↔◌}
use Rattle.std.specs.Prelude.{map, not, slice_get, nat_lt, if◌then◌else◌, IsTrue}
use Rattle.std.proofs.lemmas.List.{length-map}
use Rattle.std.proofs.lemmas.Bool.{cases_lt}
use Rattle.kernel_tree.specs.Code.{Kernel, Stride, ByOne, ByGlobalSize, ByGroupCount, ByLocalSize, start_value, stride_value}
use Rattle.kernel_tree.specs.Formula.{Formula, Ids, value, bound_value, lanes_value}
use Rattle.kernel_tree.specs.Tree.{formula_of, lanes_of, start_of, stride_of}
use Rattle.kernel_tree.specs.declared.events.FaultKind.TheVariants.{LoopWrap}
use Rattle.kernel_tree.specs.declared.tree.Stride as held_stride
use Rattle.kernel_tree.specs.declared.tree.Dimension.TheVariants.{X, Y}
use Rattle.kernel_tree.specs.Launch.{Launch, Cells, IsDivided, IsWhole, ids_of, item_count}
use Rattle.kernel_tree.specs.Item.{Wants, Ends, Waits, Moves, Fails, next}
use Rattle.kernel_tree.specs.Device.{State, device_of, wants, CanStep, StandTogether, AllEnded}
use Rattle.kernel_tree.specs.Meets.{IsWaiting}
use Rattle.kernel_tree.proofs.Together.{together_at_one_place}
use Rattle.ndrange_machine.specs.declared.line.Line as held
use Rattle.ndrange_machine.specs.declared.line.Line.TheVariants as line
use Rattle.ndrange_machine.specs.declared.machine.Machine.{Machine}
use Rattle.ndrange_machine.specs.declared.change.Change.TheVariants as change
use Rattle.ndrange_machine.specs.declared.turn.Turn.{Turn}
use Rattle.ndrange_machine.specs.Known.{held_four, variables, numbers}
use Rattle.ndrange_machine.specs.declared.want.Want.{Want}
use Rattle.ndrange_machine.specs.declared.want.Want.TheVariants as want
use Rattle.ndrange_machine.specs.ItemView.{ItemView}
use Rattle.ndrange_machine.specs.Lines.{Line, lines_at, IsAt}
use Rattle.ndrange_machine.specs.Stands.{HoldsItem, Holds}
use Rattle.ndrange_machine.specs.Groups.{SamePlace}
use Rattle.ndrange_machine.specs.Takes.{is_barrier, is_going, IsGoing}
use Rattle.ndrange_machine.specs.Wants.{text_of, turn_after, want_if, want_in, want_last, want_back, last_of, wanted}
use Rattle.ndrange_machine.proofs.Next.{IsNext, next_is}
use Rattle.ndrange_machine.proofs.Waiting.{steps_or_not, not_both, stand_waits}
use Rattle.ndrange_machine.proofs.Parsing.{same_rest, same_place}
use Rattle.ndrange_machine.proofs.Rows.{get_there, get_within}

abbrev pub is_waiting : Want → Bool
is_waiting (want.Waits p q to) = true
is_waiting want.Ends = false
is_waiting (want.Fails kind) = false
is_waiting (want.Changes c to) = false
is_waiting (want.Reads v a i to) = false
is_waiting (want.Writes a i y to) = false
is_waiting (want.ReadsFour v a n to) = false
is_waiting (want.WritesFour a n u to) = false

-- only barriers are waited at
wait_if : {A : Type 0} (o : Option A) (go : A → Want) → ((x : A) → is_waiting (go x) ≡ false) → is_waiting (want_if o go) ≡ false
wait_if None go h = refl
wait_if (Some x) go h = h x

waits_at : (lines : List held.Line) (ids : Ids) (it : ItemView) → is_waiting (wanted lines ids it) ≡ is_barrier (slice_get lines it.line)
waits_at lines ids it = by_line (slice_get lines it.line)
  where
    either : (t : Bool) (v w : Want) → is_waiting v ≡ false → is_waiting w ≡ false → is_waiting (if t then v else w) ≡ false
    either true v w p q = p
    either false v w p q = q

    by_last : (b : Formula) (c : held_stride.Stride) (head exit : ℕ) (o : Option Turn) → is_waiting (want_last ids b c head exit o) ≡ false
    by_last b c head exit None = refl
    by_last b c head exit (Some t) =
        let x = t.variable + stride_value ids (stride_of c) in
        wait_if (bound_value ids.sizes b) (λ k. if nat_lt x (2 ^ 32) then (if nat_lt x k then want.Changes (change.Repeats (turn_after t x)) (head + 1) else want.Changes change.Leaves exit) else want.Fails LoopWrap)
        (λ k. either (nat_lt x (2 ^ 32)) (if nat_lt x k then want.Changes (change.Repeats (turn_after t x)) (head + 1) else want.Changes change.Leaves exit) (want.Fails LoopWrap)
        (either (nat_lt x k) (want.Changes (change.Repeats (turn_after t x)) (head + 1)) (want.Changes change.Leaves exit) refl refl) refl)

    by_head : (head : ℕ) (o : Option held.Line) → is_waiting (want_back ids it.turns head o) ≡ false
    by_head head (Some (line.Head s b c exit)) = by_last (formula_of b) c head exit (last_of it.turns)
    by_head head _ = refl

    by_line : (o : Option held.Line) → is_waiting (want_in lines ids it.line it.turns it.vars o) ≡ is_barrier o
    by_line None = refl
    by_line (Some (line.Assign v e)) = wait_if (value ids (variables it.turns) it.vars (formula_of e)) (λ x. want.Changes (change.Sets v x) (it.line + 1)) (λ x. refl)
    by_line (Some (line.Load v a i)) = wait_if (value ids (variables it.turns) it.vars (formula_of i)) (λ x. want.Reads v a x (it.line + 1)) (λ x. refl)
    by_line (Some (line.Store a i e)) =
        wait_if (value ids (variables it.turns) it.vars (formula_of i)) (λ x. want_if (value ids (variables it.turns) it.vars (formula_of e)) (λ y. want.Writes a x y (it.line + 1)))
        (λ x. wait_if (value ids (variables it.turns) it.vars (formula_of e)) (λ y. want.Writes a x y (it.line + 1)) (λ y. refl))
    by_line (Some (line.AssignFour v e)) = wait_if (lanes_value ids (variables it.turns) it.vars (lanes_of e)) (λ u. want.Changes (change.SetsFour v (held_four u)) (it.line + 1)) (λ u. refl)
    by_line (Some (line.LoadFour v a i)) = wait_if (value ids (variables it.turns) it.vars (formula_of i)) (λ x. want.ReadsFour v a x (it.line + 1)) (λ x. refl)
    by_line (Some (line.StoreFour a i e)) =
        wait_if (value ids (variables it.turns) it.vars (formula_of i)) (λ x. want_if (lanes_value ids (variables it.turns) it.vars (lanes_of e)) (λ u. want.WritesFour a x (held_four u) (it.line + 1)))
        (λ x. wait_if (lanes_value ids (variables it.turns) it.vars (lanes_of e)) (λ u. want.WritesFour a x (held_four u) (it.line + 1)) (λ u. refl))
    by_line (Some (line.Test s b exit)) =
        let x = start_value ids (start_of s) in
        wait_if (bound_value ids.sizes (formula_of b)) (λ k. if nat_lt x k then want.Changes change.Keeps (it.line + 1) else want.Changes change.Keeps exit)
        (λ k. either (nat_lt x k) (want.Changes change.Keeps (it.line + 1)) (want.Changes change.Keeps exit) refl refl)
    by_line (Some (line.Head s b c exit)) =
        let x = start_value ids (start_of s) in
        let begins : Want = want.Changes (change.Begins (record { number = 0; variable = x })) (it.line + 1) in
        wait_if (bound_value ids.sizes (formula_of b)) (λ k. if nat_lt x k then begins else want.Changes change.Keeps exit) (λ k. either (nat_lt x k) begins (want.Changes change.Keeps exit) refl refl)
    by_line (Some (line.Tail head)) = by_head head (slice_get lines head)
    by_line (Some (line.Barrier p q)) = refl

-- what is next, by where the item stands
has_ended : (lines : List Line) (it : ItemView) (v : Want) (w : Wants) → IsNext lines it v w → length lines ≤ it.line → w ≡ Ends
has_ended lines it want.Ends w h le = h.0
has_ended lines it (want.Waits p q to) w h le = let lt = h.3 in absurd (omega arith)
has_ended lines it (want.Fails kind) w h le = let lt = h.1 in absurd (omega arith)
has_ended lines it (want.Changes c to) w h le = let lt = h.3 in absurd (omega arith)
has_ended lines it (want.Reads v a i to) w h le = let lt = h.3 in absurd (omega arith)
has_ended lines it (want.Writes a i y to) w h le = let lt = h.3 in absurd (omega arith)
has_ended lines it (want.ReadsFour v a n to) w h le = let lt = h.3 in absurd (omega arith)
has_ended lines it (want.WritesFour a n u to) w h le = let lt = h.3 in absurd (omega arith)

not_ended : (lines : List Line) (it : ItemView) (v : Want) (w : Wants) → IsNext lines it v w → it.line < length lines → w ≡ Ends → ⊥
not_ended lines it want.Ends w h lt e = let le = h.1 in omega arith
not_ended lines it (want.Waits p q to) w h lt e = let d : Waits p q h.0 ≡ Ends = sym h.1 ∙ e in cc
not_ended lines it (want.Fails kind) w h lt e = let d : Fails kind ≡ Ends = sym h.0 ∙ e in cc
not_ended lines it (want.Changes c to) w h lt e = let d : Moves h.0 ≡ Ends = sym h.1 ∙ e in cc
not_ended lines it (want.Reads v a i to) w h lt e = subst CanStep (sym h.1 ∙ e) tt
not_ended lines it (want.Writes a i y to) w h lt e = subst CanStep (sym h.1 ∙ e) tt
not_ended lines it (want.ReadsFour v a n to) w h lt e = subst CanStep (sym h.1 ∙ e) tt
not_ended lines it (want.WritesFour a n u to) w h lt e = subst CanStep (sym h.1 ∙ e) tt

waits_if : (lines : List Line) (it : ItemView) (v : Want) (w : Wants) → IsNext lines it v w → is_waiting v ≡ true → IsWaiting w
waits_if lines it want.Ends w h e = cc
waits_if lines it (want.Waits p q to) w h e = subst IsWaiting (sym h.1) tt
waits_if lines it (want.Fails kind) w h e = cc
waits_if lines it (want.Changes c to) w h e = cc
waits_if lines it (want.Reads v a i to) w h e = cc
waits_if lines it (want.Writes a i y to) w h e = cc
waits_if lines it (want.ReadsFour v a n to) w h e = cc
waits_if lines it (want.WritesFour a n u to) w h e = cc

waits_not : (lines : List Line) (it : ItemView) (v : Want) (w : Wants) → IsNext lines it v w → is_waiting v ≡ false → IsWaiting w → ⊥
waits_not lines it want.Ends w h e x = subst IsWaiting h.0 x
waits_not lines it (want.Waits p q to) w h e x = cc
waits_not lines it (want.Fails kind) w h e x = subst IsWaiting h.0 x
waits_not lines it (want.Changes c to) w h e x = subst IsWaiting h.1 x
waits_not lines it (want.Reads v a i to) w h e x = subst IsWaiting h.1 x
waits_not lines it (want.Writes a i y to) w h e x = subst IsWaiting h.1 x
waits_not lines it (want.ReadsFour v a n to) w h e x = subst IsWaiting h.1 x
waits_not lines it (want.WritesFour a n u to) w h e x = subst IsWaiting h.1 x

-- strides of a launch are positive
product_positive : (n m : ℕ) → 0 < n * m → 0 < n
product_positive n m h = grind arith

second_positive : (n m : ℕ) → 0 < n * m → 0 < m
second_positive n m h = grind arith

some_along : (global local : ℕ) → IsDivided global local → 0 < global → 0 < global / local
some_along global local d some = product_positive (global / local) local (subst (λ n. 0 < n) d.divides some)

pub strides_of : (l : Launch) → IsWhole l → (j : ℕ) → j < item_count l → (c : Stride) → 0 < stride_value (ids_of l j) c
strides_of l whole j lt c = by_form c
  where
    some : 0 < l.global.0 * l.global.1
    some = omega arith

    wide : 0 < l.global.0
    wide = product_positive l.global.0 l.global.1 some

    high : 0 < l.global.1
    high = second_positive l.global.0 l.global.1 some

    by_form : (x : Stride) → 0 < stride_value (ids_of l j) x
    by_form ByOne = omega arith
    by_form (ByGlobalSize X) = wide
    by_form (ByGlobalSize Y) = high
    by_form (ByGroupCount X) = some_along l.global.0 l.local.0 whole.x wide
    by_form (ByGroupCount Y) = some_along l.global.1 l.local.1 whole.y high
    by_form (ByLocalSize X) = whole.x.positive
    by_form (ByLocalSize Y) = whole.y.positive

module _ (k : Kernel) (l : Launch) (c : Cells) (m : Machine) (s : State) (h : Holds k l c m s) where
  pub its_item : (j : ℕ) → j < item_count l → (it : ItemView) × (slice_get m.items j ≡ Some it)
  its_item j lt = let n = h.count in get_there m.items j (omega arith)

  pub in_launch : (j : ℕ) (it : ItemView) → slice_get m.items j ≡ Some it → j < item_count l
  in_launch j it e = let n = h.count in let lt = get_within m.items j it e in omega arith

  -- where the machine has the private variables too
  pub here : (j : ℕ) (it : ItemView) → slice_get m.items j ≡ Some it → it.vars ≡ (s.items j).vars → IsNext (map text_of m.lines.items) it (wanted m.lines.items (ids_of m.launch j) it) (wants (device_of k l c) s j)
  unfolding next
  here j it e vars =
      let lt = in_launch j it e in
      let holds = subst (λ ls. HoldsItem ls it (s.items j)) (sym h.text) (h.items j it e) in
      subst (λ z. IsNext (map text_of m.lines.items) it (wanted m.lines.items (ids_of z j) it) (wants (device_of k l c) s j)) (sym h.launch)
      (next_is m.lines.items (ids_of l j) (strides_of l h.whole j lt) it (s.items j) (record { holds = holds; vars = vars }))

  -- where it may have others
  module _ (j : ℕ) (it : ItemView) (e : slice_get m.items j ≡ Some it) where
    abbrev true_view : ItemView
    true_view = record { line = it.line; turns = it.turns; room = it.room; vars = (s.items j).vars }

    next_there : IsNext (map text_of m.lines.items) true_view (wanted m.lines.items (ids_of l j) true_view) (wants (device_of k l c) s j)
    unfolding next
    next_there =
        let lt = in_launch j it e in
        let held_it = subst (λ ls. HoldsItem ls it (s.items j)) (sym h.text) (h.items j it e) in
        next_is m.lines.items (ids_of l j) (strides_of l h.whole j lt) true_view (s.items j)
        (record { holds = record { place = held_it.place; turns = held_it.turns; numbered = held_it.numbered; room = held_it.room; rooms = held_it.rooms }; vars = refl })

    pub ended_there : length m.lines.items ≤ it.line → wants (device_of k l c) s j ≡ Ends
    ended_there le = let same = length-map m.lines.items text_of in has_ended (map text_of m.lines.items) true_view _ _ next_there (omega arith)

    pub goes_on : it.line < length m.lines.items → wants (device_of k l c) s j ≡ Ends → ⊥
    goes_on lt = let same = length-map m.lines.items text_of in not_ended (map text_of m.lines.items) true_view _ _ next_there (omega arith)

    pub waits_there : is_barrier (slice_get m.lines.items it.line) ≡ true → IsWaiting (wants (device_of k l c) s j)
    waits_there b = waits_if (map text_of m.lines.items) true_view _ _ next_there (waits_at m.lines.items (ids_of l j) true_view ∙ b)

    pub waits_nowhere : is_barrier (slice_get m.lines.items it.line) ≡ false → IsWaiting (wants (device_of k l c) s j) → ⊥
    waits_nowhere b = waits_not (map text_of m.lines.items) true_view _ _ next_there (waits_at m.lines.items (ids_of l j) true_view ∙ b)

-- items looked at one after another
pub ended_item : (m : Machine) (i : ℕ) → ((it : ItemView) → slice_get m.items i ≡ Some it → IsTrue true ↔ length m.lines.items ≤ it.line)
    → ((j : ℕ) (it : ItemView) → j < i → slice_get m.items j ≡ Some it → length m.lines.items ≤ it.line)
    → (j : ℕ) (it : ItemView) → j < i + 1 → slice_get m.items j ≡ Some it → length m.lines.items ≤ it.line
ended_item m i ends before j it low e =
    ⊎_elim
    (λ less. before j it less e)
    (λ le. let at : j ≡ i = omega arith in (ends it (ap (slice_get m.items) (sym at) ∙ e)).0 refl)
    (cases_lt j i)

module _ (k : Kernel) (l : Launch) (c : Cells) (m : Machine) (s : State) (h : Holds k l c m s) (i : ℕ) where
  pub one_before : i < item_count l → ((it : ItemView) → slice_get m.items i ≡ Some it → IsTrue false ↔ length m.lines.items ≤ it.line) → IsTrue false ↔ AllEnded (device_of k l c) s
  one_before lt told =
      let it = its_item k l c m s h i lt in (
        λ e. absurd (let n : false ≡ true = e in let b : ⊥ = cc in b),
        λ all. ⊎_elim
            (λ before. absurd (goes_on k l c m s h i it.0 it.1 before (all i lt)))
            (λ le. (told it.0 it.1).1 le)
            (cases_lt it.0.line (length m.lines.items)),
      )

  pub all_past : item_count l ≤ i → ((j : ℕ) (it : ItemView) → j < i → slice_get m.items j ≡ Some it → length m.lines.items ≤ it.line) → IsTrue true ↔ AllEnded (device_of k l c) s
  all_past le past = (
    λ e j lt.
        let it = its_item k l c m s h j lt in
        ended_there k l c m s h j it.0 it.1 (past j it.0 (omega arith) it.1),
    λ all. refl,
  )

-- where the state that it holds lets an item step
module _ (k : Kernel) (l : Launch) (c : Cells) (m : Machine) (s : State) (h : Holds k l c m s) (j : ℕ) where
  pub going_is : (b : Bool) → IsGoing m j b → (it : ItemView) → slice_get m.items j ≡ Some it → IsTrue b ↔ CanStep (wants (device_of k l c) s j)
  going_is b told it e = by_line (slice_get m.lines.items it.line) refl
    where
      w : Wants
      w = wants (device_of k l c) s j

      is : b ≡ is_going (slice_get m.lines.items it.line)
      is = told it e

      steps : is_barrier (slice_get m.lines.items it.line) ≡ false → it.line < length m.lines.items → CanStep (wants (device_of k l c) s j)
      steps off lt = ⊎_elim (λ can. can) (⊎_elim (λ x. absurd (waits_nowhere k l c m s h j it e off x)) (λ x. absurd (goes_on k l c m s h j it e lt x))) (steps_or_not (wants (device_of k l c) s j))

      by_line : (o : Option held.Line) → slice_get m.lines.items it.line ≡ o → IsTrue b ↔ CanStep (wants (device_of k l c) s j)
      by_line None q = (
        λ t. absurd (let both : true ≡ false = sym t ∙ is ∙ ap is_going q in let n : ⊥ = cc in n),
        λ can. absurd (subst CanStep (ended_there k l c m s h j it e (⊎_elim (λ lt. let there = get_there m.lines.items it.line lt in let both : None ≡ Some there.0 = sym q ∙ there.1 in absurd (cc)) (λ le. le) (cases_lt it.line (length m.lines.items)))) can),
      )
      by_line (Some line) q = (
        λ t. steps (by_not (is_barrier (Some line)) (sym (ap is_going q) ∙ sym is ∙ t) (ap is_barrier q)) (get_within m.lines.items it.line line q),
        λ can. is ∙ ap is_going q ∙ on_not (is_barrier (Some line)) (λ t. not_both (wants (device_of k l c) s j) can (waits_there k l c m s h j it e (ap is_barrier q ∙ t))),
      )
        where
          by_not : (x : Bool) → not x ≡ true → is_barrier (slice_get m.lines.items it.line) ≡ x → is_barrier (slice_get m.lines.items it.line) ≡ false
          by_not true n z = cc
          by_not false n z = z

          on_not : (x : Bool) → (x ≡ true → ⊥) → not x ≡ true
          on_not true n = absurd (n refl)
          on_not false n = refl

-- two items of one group
module _ (k : Kernel) (l : Launch) (c : Cells) (m : Machine) (s : State) (h : Holds k l c m s) (i j : ℕ) (a b : ItemView) (at : slice_get m.items i ≡ Some a) (bt : slice_get m.items j ≡ Some b) where
  pub stand_if : SamePlace a b → is_barrier (slice_get m.lines.items a.line) ≡ true → StandTogether (wants (device_of k l c) s i) (wants (device_of k l c) s j)
  stand_if same barrier =
      let x = h.items i a at in
      let y = h.items j b bt in
      let rest = same_rest (lines_at 0 k.code) a.line (s.items i) (s.items j) x.place (subst (λ n. IsAt (lines_at 0 k.code) n (s.items j)) (sym same.0) y.place) (ap numbers (sym x.turns) ∙ same.1 ∙ ap numbers y.turns) in
      (together_at_one_place (ids_of l i) (ids_of l j) (s.items i) (s.items j)).1 (waits_there k l c m s h i a at barrier, rest.0, rest.1)

  pub if_stand : StandTogether (wants (device_of k l c) s i) (wants (device_of k l c) s j) → SamePlace a b
  if_stand t =
      let x = h.items i a at in
      let y = h.items j b bt in
      let at_one = (together_at_one_place (ids_of l i) (ids_of l j) (s.items i) (s.items j)).0 t in
      let same = length-map m.lines.items text_of in
      let lines = ap length h.text in
      let low : a.line < length m.lines.items = ⊎_elim (λ lt. lt) (λ le. absurd (subst IsWaiting (ended_there k l c m s h i a at le) at_one.0)) (cases_lt a.line (length m.lines.items)) in
      let high : b.line < length m.lines.items = ⊎_elim (λ lt. lt) (λ le. absurd (subst IsWaiting (ended_there k l c m s h j b bt le) (stand_waits (wants (device_of k l c) s i) (wants (device_of k l c) s j) t))) (cases_lt b.line (length m.lines.items)) in
      let place = same_place (lines_at 0 k.code) a.line b.line (s.items i) (s.items j) x.place y.place (omega arith) (omega arith) at_one.1 at_one.2 in
      (place.0, ap numbers x.turns ∙ place.1 ∙ ap numbers (sym y.turns))
