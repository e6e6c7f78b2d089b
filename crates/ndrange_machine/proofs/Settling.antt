-- The machine's flags: of one group, at the start, and after a step.
use Rattle.std.proofs.Common.{◌≡◌, ◌≢◌, ◌↔◌, ℕ, ◌+◌, ◌<◌, ◌≤◌, length, set, Some, Bool, true, false, refl, sym, ap, ◌∙◌, subst, ⊎_elim, arith}
use Rattle.std.specs.Prelude.{not, slice_get, slice_index_or, IsTrue}
use Rattle.std.proofs.lemmas.Bool.{cases_eq, cases_lt}
use Rattle.std.proofs.lemmas.List.{get_or-replicate, get_or-set_same, get_or-set_other}
use Rattle.kernel_tree.specs.declared.events.Event.TheVariants.{Step}
use Rattle.kernel_tree.specs.Code.{Kernel}
use Rattle.kernel_tree.specs.Launch.{Launch, Cells, item_count, group_count, group_of, group_size, first_item}
use Rattle.kernel_tree.specs.Numbering.{member_at, number_in_group}
use Rattle.kernel_tree.specs.Device.{Device, State, device_of, wants, CanStep, AllTogether, after}
use Rattle.kernel_tree.proofs.Grouping.{first_of_group, first_in_launch, group_in_launch, in_launch}
use Rattle.enabled_events.specs.Grids.{grid_of}
use Rattle.enabled_events.specs.Laws.{FlagsFollow}
use Rattle.enabled_events.specs.Listed.{Flags, AreFlags}
use Rattle.enabled_events.specs.Flags.{NoneSteps}
use Rattle.ndrange_machine.specs.declared.machine.Machine.{Machine}
use Rattle.ndrange_machine.specs.ItemView.{ItemView}
use Rattle.ndrange_machine.specs.Stands.{Holds}
use Rattle.ndrange_machine.specs.Takes.{is_going, IsAtBarrier, IsGoing, SameCore}
use Rattle.ndrange_machine.specs.Groups.{SamePlace, AllOver, TellsTogether, TellsEnded, SetsFlag, Refreshed, Refreshes, AtStart, Begins, Met, Settled, Stepped, Settles}
use Rattle.ndrange_machine.proofs.Grids.{group_members, member_there}
use Rattle.ndrange_machine.proofs.Standing.{its_item, going_is, waits_nowhere, ended_there, goes_on, stand_if, if_stand}
use Rattle.ndrange_machine.proofs.Stepping.{same_holds}
use Rattle.ndrange_machine.proofs.Telling.{going_at}
use Rattle.ndrange_machine.proofs.Waiting.{not_both, first_waits}
use Rattle.ndrange_machine.proofs.Together.{goes, some_go, met}

no_true : {A : Type 0} → false ≡ true → A
no_true e = cc

-- Whether a group stands together, or has ended

module _ (m : Machine) (g : ℕ) (lt : g < group_count m.launch) where
  abbrev at : ℕ → ℕ
  at j = member_at m.launch g j

  abbrev pub AlikeUpTo : ℕ → Type 0
  AlikeUpTo i = (j : ℕ) (a b : ItemView) → j < i → slice_get m.items (first_item m.launch g) ≡ Some a → slice_get m.items (member_at m.launch g j) ≡ Some b → SamePlace a b

  abbrev pub OverUpTo : ℕ → Type 0
  OverUpTo i = (j : ℕ) (a : ItemView) → j < i → slice_get m.items (member_at m.launch g j) ≡ Some a → length m.lines.items ≤ a.line

  module _ (k : Kernel) (l : Launch) (c : Cells) (s : State) (h : Holds k l c m s) where
    there : g < group_count l
    there = subst (λ (z : Launch). g < group_count z) h.launch lt

    first_is : first_item m.launch g ≡ first_item l g
    first_is = ap (λ (z : Launch). first_item z g) h.launch

    first_there : (a : ItemView) × (slice_get m.items (first_item l g) ≡ Some a)
    first_there = its_item k l c m s h (first_item l g) (first_in_launch l h.whole g there)

    -- the items of the group, by their numbers in it
    mine : (j : ℕ) → j < group_size m.launch → group_of l (at j) ≡ g
    mine j low = subst (λ (z : Launch). group_of z (at j) ≡ g) h.launch ((group_members m g lt).inside j low)

    its_number : (j : ℕ) → group_of l j ≡ g → (n : ℕ) × (n < group_size m.launch) × (j ≡ member_at m.launch g n)
    its_number j q =
        let e = (group_members m g lt).every j (subst (λ (z : Launch). group_of z j ≡ g) (sym h.launch) q) in
        (number_in_group m.launch j, e.0, e.1)

    not_at_barrier : IsAtBarrier m (first_item m.launch g) false → IsTrue false ↔ AllTogether (device_of k l c) s g
    not_at_barrier told = (
      λ e. no_true e,
      λ all. absurd (waits_nowhere k l c m s h (first_item l g) first_there.0 first_there.1 (sym (told first_there.0 (ap (slice_get m.items) first_is ∙ first_there.1))) (first_waits _ _ (all (first_item l g) (first_of_group l h.whole g)))),
    )

    not_alike : (j : ℕ) → j < group_size m.launch → ((a b : ItemView) → slice_get m.items (first_item m.launch g) ≡ Some a → slice_get m.items (at j) ≡ Some b → IsTrue false ↔ SamePlace a b) → IsTrue false ↔ AllTogether (device_of k l c) s g
    not_alike j low told =
        let other = its_item k l c m s h (at j) (in_launch l h.whole g (at j) there (mine j low)) in (
          λ e. no_true e,
          λ all. (told first_there.0 other.0 (ap (slice_get m.items) first_is ∙ first_there.1) other.1).1 (if_stand k l c m s h (first_item l g) (at j) first_there.0 other.0 first_there.1 other.1 (all (at j) (mine j low))),
        )

    all_alike : IsAtBarrier m (first_item m.launch g) true → (i : ℕ) → group_size m.launch ≤ i → AlikeUpTo i → IsTrue true ↔ AllTogether (device_of k l c) s g
    all_alike told i end alike = (
      λ _ j own.
          let other = its_item k l c m s h j (in_launch l h.whole g j there own) in
          let n = its_number j own in
          let low = n.1 in
          let at_first = ap (slice_get m.items) first_is ∙ first_there.1 in
          stand_if k l c m s h (first_item l g) j first_there.0 other.0 first_there.1 other.1
          (alike n.0 first_there.0 other.0 (omega arith) at_first (ap (slice_get m.items) (sym n.2) ∙ other.1))
          (sym (told first_there.0 at_first)),
      λ all. refl,
    )

    one_going : (j : ℕ) → j < group_size m.launch → ((a : ItemView) → slice_get m.items (at j) ≡ Some a → IsTrue false ↔ length m.lines.items ≤ a.line) → IsTrue false ↔ AllOver (device_of k l c) s g
    one_going j low told =
        let it = its_item k l c m s h (at j) (in_launch l h.whole g (at j) there (mine j low)) in (
          λ e. no_true e,
          λ all. ⊎_elim (λ less. absurd (goes_on k l c m s h (at j) it.0 it.1 less (all (at j) (mine j low)))) (λ le. (told it.0 it.1).1 le) (cases_lt it.0.line (length m.lines.items)),
        )

    all_over : (i : ℕ) → group_size m.launch ≤ i → OverUpTo i → IsTrue true ↔ AllOver (device_of k l c) s g
    all_over i end over = (
      λ _ j own.
          let it = its_item k l c m s h j (in_launch l h.whole g j there own) in
          let n = its_number j own in
          let low = n.1 in
          ended_there k l c m s h j it.0 it.1 (over n.0 it.0 (omega arith) (ap (slice_get m.items) (sym n.2) ∙ it.1)),
      λ all. refl,
    )

  pub tells_no_barrier : IsAtBarrier m (first_item m.launch g) false → TellsTogether m g false
  tells_no_barrier told k l c s h = not_at_barrier k l c s h told

  pub tells_apart : (j : ℕ) → j < group_size m.launch → ((a b : ItemView) → slice_get m.items (first_item m.launch g) ≡ Some a → slice_get m.items (member_at m.launch g j) ≡ Some b → IsTrue false ↔ SamePlace a b) → TellsTogether m g false
  tells_apart j low told k l c s h = not_alike k l c s h j low told

  pub tells_together : IsAtBarrier m (first_item m.launch g) true → (i : ℕ) → group_size m.launch ≤ i → AlikeUpTo i → TellsTogether m g true
  tells_together told i end alike k l c s h = all_alike k l c s h told i end alike

  pub tells_going : (j : ℕ) → j < group_size m.launch → ((a : ItemView) → slice_get m.items (member_at m.launch g j) ≡ Some a → IsTrue false ↔ length m.lines.items ≤ a.line) → TellsEnded m g false
  tells_going j low told k l c s h = one_going k l c s h j low told

  pub tells_over : (i : ℕ) → group_size m.launch ≤ i → OverUpTo i → TellsEnded m g true
  tells_over i end over k l c s h = all_over k l c s h i end over

  pub alike_more : (i : ℕ) → AlikeUpTo i → ((a b : ItemView) → slice_get m.items (first_item m.launch g) ≡ Some a → slice_get m.items (member_at m.launch g i) ≡ Some b → IsTrue true ↔ SamePlace a b) → AlikeUpTo (i + 1)
  alike_more i alike told j a b low first other =
      ⊎_elim (λ less. alike j a b less first other) (λ le. let same : j ≡ i = omega arith in (told a b first (ap (λ z. slice_get m.items (at z)) (sym same) ∙ other)).0 refl) (cases_lt j i)

  pub over_more : (i : ℕ) → OverUpTo i → ((a : ItemView) → slice_get m.items (member_at m.launch g i) ≡ Some a → IsTrue true ↔ length m.lines.items ≤ a.line) → OverUpTo (i + 1)
  over_more i over told j a low other =
      ⊎_elim (λ less. over j a less other) (λ le. let same : j ≡ i = omega arith in (told a (ap (λ z. slice_get m.items (at z)) (sym same) ∙ other)).0 refl) (cases_lt j i)

-- The flags of one group

-- those of the first items of the group have been set
pub record SetUpTo (m n : Machine) (g i : ℕ) : Type 0 where
  pub core : SameCore m n
  pub marks : n.marks ≡ m.marks
  pub groups : n.ready.groups ≡ m.ready.groups
  pub others : (k : ℕ) → ((j : ℕ) → j < i → k ≡ member_at m.launch g j → ⊥) → slice_index_or n.ready.items k false ≡ slice_index_or m.ready.items k false
  pub own : (j : ℕ) → j < i → IsGoing m (member_at m.launch g j) (slice_index_or n.ready.items (member_at m.launch g j) false)

pub set_none : (m : Machine) (g : ℕ) → SetUpTo m m g 0
set_none m g = record {
  core = record { lines = refl; launch = refl; memory = refl; items = refl };
  marks = refl;
  groups = refl;
  others = λ k h. refl;
  own = λ j lt. absurd (omega arith);
}

pub core_on : (m a n : Machine) → SameCore m a → SameCore a n → SameCore m n
core_on m a n p q = record { lines = q.lines ∙ p.lines; launch = q.launch ∙ p.launch; memory = q.memory ∙ p.memory; items = q.items ∙ p.items }

pub going_from : (m a : Machine) (k : ℕ) (b : Bool) → SameCore m a → IsGoing a k b → IsGoing m k b
going_from m a k b core told it e = told it (ap (λ z. slice_get z k) core.items ∙ e) ∙ ap (λ z. is_going (slice_get z.items it.line)) core.lines

pub set_more : (m a n : Machine) (g i : ℕ) → g < group_count m.launch → i < group_size m.launch → SetUpTo m a g i → SameCore a n → n.marks ≡ a.marks → SetsFlag a n (member_at m.launch g i) → SetUpTo m n g (i + 1)
set_more m a n g i there low h core marks f = record {
  core = core_on m a n h.core core;
  marks = marks ∙ h.marks;
  groups = f.groups ∙ h.groups;
  others = λ k out. f.others k (λ e. out i (omega arith) e) ∙ h.others k (λ j lt e. out j (omega arith) e);
  own = λ j lt. ⊎_elim
      (λ same. subst (λ z. IsGoing m (at z) (slice_index_or n.ready.items (at z) false)) (sym same) this)
      (λ ne. let less : j < i = omega arith in subst (IsGoing m (at j)) (sym (f.others (at j) (λ e. ne ((group_members m g there).differ j i (omega arith) low e)))) (h.own j less))
      (cases_eq j i);
}
  where
    at : ℕ → ℕ
    at j = member_at m.launch g j

    this : IsGoing m (member_at m.launch g i) (slice_index_or n.ready.items (member_at m.launch g i) false)
    this =
        going_from m a (member_at m.launch g i) (slice_index_or n.ready.items (member_at m.launch g i) false) h.core
        (f.own (subst (λ (z : Launch). member_at m.launch g i < item_count z) (sym h.core.launch) (member_there m g there i low)))

pub refreshes : (m a : Machine) (g : ℕ) (t : Bool) (w : Flags) (i : ℕ) → g < group_count m.launch → group_size m.launch ≡ i → SetUpTo m a g i → TellsTogether a g t → w ≡ record { grid = a.ready.grid; items = a.ready.items; groups = set a.ready.groups g t } → (k : Kernel) (l : Launch) (c : Cells) (s : State) → Holds k l c m s → Refreshed (device_of k l c) s g m.ready w
refreshes m a g t w i lt end h tells is k l c s holds = subst (Refreshed (device_of k l c) s g m.ready) (sym is) (record {
  kept = λ j out. h.others j (λ n low e. out (ap (group_of l) e ∙ mine m g lt k l c s holds n (omega arith)));
  moved = λ j there own.
      let it = its_item k l c m s holds j there in
      let n = its_number m g lt k l c s holds j own in
      let low = n.1 in
      let told : IsGoing m j (slice_index_or a.ready.items j false) = subst (λ z. IsGoing m z (slice_index_or a.ready.items z false)) (sym n.2) (h.own n.0 (omega arith)) in
      going_is k l c m s holds j (slice_index_or a.ready.items j false) told it.0 it.1;
  others = λ q ne. get_or-set_other a.ready.groups g q t false ne ∙ ap (λ z. slice_index_or z q false) h.groups;
  group =
      let room : g < length a.ready.groups = (let n = ap length h.groups in let e = m.ready_groups in omega arith) in
      let own = get_or-set_same a.ready.groups g t false room in
      let said = tells k l c s (same_holds k l c m a s h.core holds) in
      (λ e. said.0 (sym own ∙ e), λ all. own ∙ said.1 all);
})

-- The flags at the start

-- those of the first groups have been set
pub record UpTo (d : Device) (s : State) (i : ℕ) (v : Flags) : Type 0 where
  pub steps : (k : ℕ) → k < item_count d.launch → group_of d.launch k < i → (slice_index_or v.items k false ≡ true) ↔ CanStep (wants d s k)
  pub releases : (g : ℕ) → g < i → (slice_index_or v.groups g false ≡ true) ↔ AllTogether d s g

pub record BegunUpTo (m n : Machine) (i : ℕ) : Type 0 where
  pub core : SameCore m n
  pub marks : n.marks ≡ m.marks
  pub up_to : (k : Kernel) (l : Launch) (c : Cells) (s : State) → Holds k l c m s → UpTo (device_of k l c) s i n.ready

pub begun_none : (m : Machine) → BegunUpTo m m 0
begun_none m = record {
  core = record { lines = refl; launch = refl; memory = refl; items = refl };
  marks = refl;
  up_to = λ k l c s h. record { steps = λ j lt low. absurd (omega arith); releases = λ g lt. absurd (omega arith) };
}

pub begun_more : (m a n : Machine) (i : ℕ) → BegunUpTo m a i → SameCore a n → n.marks ≡ a.marks → Refreshes a n i → BegunUpTo m n (i + 1)
begun_more m a n i h core marks r = record {
  core = core_on m a n h.core core;
  marks = marks ∙ h.marks;
  up_to = λ k l c s holds.
      let old = h.up_to k l c s holds in
      let new = r k l c s (same_holds k l c m a s h.core holds) in
      record {
        steps = λ j lt low. ⊎_elim
            (λ same. new.moved j lt same)
            (λ ne. subst (λ z. (z ≡ true) ↔ CanStep (wants (device_of k l c) s j)) (sym (new.kept j ne)) (old.steps j lt (below (group_of l j) i low ne)))
            (cases_eq (group_of l j) i);
        releases = λ g lt. ⊎_elim
            (λ same. subst (λ z. (slice_index_or n.ready.groups z false ≡ true) ↔ AllTogether (device_of k l c) s z) (sym same) new.group)
            (λ ne. subst (λ z. (z ≡ true) ↔ AllTogether (device_of k l c) s g) (sym (new.others g ne)) (old.releases g (below g i lt ne)))
            (cases_eq g i);
      };
}
  where
    below : (x y : ℕ) → x < y + 1 → x ≢ y → x < y
    below x y lt ne = ⊎_elim (λ less. less) (λ ge. absurd (ne (omega arith))) (cases_lt x y)

pub begins : (m n : Machine) (i : ℕ) → BegunUpTo m n i → group_count m.launch ≤ i → Begins m n
begins m n i h all k l c s holds =
    let told = h.up_to k l c s holds in
    let launch : n.launch ≡ l = h.core.launch ∙ holds.launch in
    let enough : group_count l ≤ i = subst (λ (z : Launch). group_count z ≤ i) holds.launch all in
    record {
      grid = n.ready_grid ∙ ap grid_of launch;
      count = n.ready_items ∙ ap item_count launch;
      steps = λ j lt. told.steps j lt (let in_group = group_in_launch l holds.whole j lt in omega arith);
      releases = λ g lt. told.releases g (omega arith);
    }

-- where all items can step from the first line
module _ (m : Machine) (start : AtStart m true) (k : Kernel) (l : Launch) (c : Cells) (s : State) (h : Holds k l c m s) where
  can_step : (j : ℕ) → j < item_count l → CanStep (wants (device_of k l c) s j)
  can_step j lt =
      let it = its_item k l c m s h j lt in
      (going_is k l c m s h j true (going_at m j 0 true (start.stands j) start.going) it.0 it.1).0 refl

  flags_set : (j : ℕ) → j < item_count m.launch → slice_index_or m.ready.items j false ≡ true
  flags_set j lt = ap (λ (v : Flags). slice_index_or v.items j false) start.ready ∙ get_or-replicate (item_count m.launch) j true false lt

  none_released : (g : ℕ) → g < group_count m.launch → slice_index_or m.ready.groups g false ≡ false
  none_released g lt = ap (λ (v : Flags). slice_index_or v.groups g false) start.ready ∙ get_or-replicate (group_count m.launch) g false false lt

  apart : (g : ℕ) → g < group_count l → AllTogether (device_of k l c) s g → ⊥
  apart g lt all =
      let first = first_item l g in
      not_both _ (can_step first (first_in_launch l h.whole g lt)) (first_waits _ _ (all first (first_of_group l h.whole g)))

  pub flags_at_start : AreFlags (device_of k l c) s m.ready
  flags_at_start = record {
    grid = m.ready_grid ∙ ap grid_of h.launch;
    count = m.ready_items ∙ ap item_count h.launch;
    steps = λ j lt. (λ _. can_step j lt, λ _. flags_set j (subst (λ (z : Launch). j < item_count z) (sym h.launch) lt));
    releases = λ g lt. (λ e. no_true (sym (none_released g (subst (λ (z : Launch). g < group_count z) (sym h.launch) lt)) ∙ e), λ all. absurd (apart g lt all));
  }

-- A group whose items have all stopped

pub meets_together : (m : Machine) (g : ℕ) (w : Flags) → TellsTogether m g true → w ≡ record { grid = m.ready.grid; items = m.ready.items; groups = set m.ready.groups g true } → (k : Kernel) (l : Launch) (c : Cells) (s : State) → Holds k l c m s → Met (device_of k l c) s g m.ready w false
meets_together m g w tells is k l c s h =
    let said = tells k l c s h in
    record { together = true; is = said; flags = is; apart = (λ e. no_true e, λ x. absurd (x.0 (said.0 refl))) }

pub meets_apart : (m a : Machine) (g : ℕ) (e : Bool) (w : Flags) → TellsTogether m g false → w ≡ record { grid = m.ready.grid; items = m.ready.items; groups = set m.ready.groups g false } → SameCore m a → TellsEnded a g e → (k : Kernel) (l : Launch) (c : Cells) (s : State) → Holds k l c m s → Met (device_of k l c) s g m.ready w (not e)
meets_apart m a g e w tells is core ended k l c s h =
    let said = tells k l c s h in
    let over = ended k l c s (same_holds k l c m a s core h) in
    record {
      together = false;
      is = said;
      flags = is;
      apart = (λ t. (λ all. no_true (said.1 all), λ all. opposite e (over.1 all) t), λ x. turned e (λ t. x.1 (over.0 t)));
    }
  where
    opposite : (b : Bool) → b ≡ true → not b ≡ true → ⊥
    opposite true p q = no_true q
    opposite false p q = no_true p

    turned : (b : Bool) → (b ≡ true → ⊥) → not b ≡ true
    turned true f = absurd (f refl)
    turned false f = refl

-- After a step

module _ (follow : FlagsFollow) (m : Machine) (j : ℕ) (b : Bool) (told : IsGoing m j b) where
  steps_is : (k : Kernel) (l : Launch) (c : Cells) (s : State) → Holds k l c m s → j < item_count l → IsTrue b ↔ CanStep (wants (device_of k l c) s j)
  steps_is k l c s h lt = let it = its_item k l c m s h j lt in going_is k l c m s h j b told it.0 it.1

  pub settles_going : b ≡ true → Settles m m j false
  settles_going on k l c s h st = goes follow (device_of k l c) h.whole s j m.ready st ((steps_is k l c (after (device_of k l c) s (Step j)) h st.there).0 on)

  module _ (off : b ≡ false) (w : Flags) (is : w ≡ record { grid = m.ready.grid; items = set m.ready.items j false; groups = m.ready.groups }) where
    stops : (k : Kernel) (l : Launch) (c : Cells) (s : State) → Holds k l c m (after (device_of k l c) s (Step j)) → j < item_count l → CanStep (wants (device_of k l c) (after (device_of k l c) s (Step j)) j) → ⊥
    stops k l c s h lt can = no_true (sym off ∙ (steps_is k l c (after (device_of k l c) s (Step j)) h lt).1 can)

    module _ (g : ℕ) (at : g ≡ group_of m.launch j) (t : Bool) (none : IsTrue t ↔ NoneSteps w g) where
      its_group : (l : Launch) → m.launch ≡ l → g ≡ group_of l j
      its_group l e = at ∙ ap (λ (z : Launch). group_of z j) e

      pub settles_some : t ≡ false → (k : Kernel) (l : Launch) (c : Cells) (s : State) → Holds k l c m (after (device_of k l c) s (Step j)) → Stepped (device_of k l c) s j m.ready → Settled (device_of k l c) (after (device_of k l c) s (Step j)) w false
      settles_some going k l c s h st =
          subst (λ z. Settled (device_of k l c) (after (device_of k l c) s (Step j)) z false) (sym is)
          (some_go follow (device_of k l c) h.whole s j m.ready st (stops k l c s h st.there)
          (λ x. no_true (sym going ∙ none.1 (subst (λ z. NoneSteps z g) (sym is) (subst (NoneSteps (record { grid = m.ready.grid; items = set m.ready.items j false; groups = m.ready.groups })) (sym (its_group l h.launch)) x)))))

      pub settles_met : t ≡ true → (a : Machine) (end : Flags) (r : Bool) → SameCore m a → a.ready ≡ w → ((k : Kernel) (l : Launch) (c : Cells) (s : State) → Holds k l c a s → Met (device_of k l c) s g a.ready end r)
          → (k : Kernel) (l : Launch) (c : Cells) (s : State) → Holds k l c m (after (device_of k l c) s (Step j)) → Stepped (device_of k l c) s j m.ready → Settled (device_of k l c) (after (device_of k l c) s (Step j)) end r
      settles_met all_stopped a end r core same meets k l c s h st =
          let all : NoneSteps (record { grid = m.ready.grid; items = set m.ready.items j false; groups = m.ready.groups }) (group_of l j) = subst (NoneSteps (record { grid = m.ready.grid; items = set m.ready.items j false; groups = m.ready.groups })) (its_group l h.launch) (subst (λ z. NoneSteps z g) is (none.0 all_stopped)) in
          let x = meets k l c (after (device_of k l c) s (Step j)) (same_holds k l c m a (after (device_of k l c) s (Step j)) core h) in
          let room : group_of l j < length m.ready.groups = (let lt = group_in_launch l h.whole j st.there in let e = m.ready_groups ∙ ap group_count h.launch in omega arith) in
          met follow (device_of k l c) h.whole s j m.ready st (stops k l c s h st.there) end r room all
          (subst (λ z. Met (device_of k l c) (after (device_of k l c) s (Step j)) (group_of l j) z end r) (same ∙ is) (subst (λ z. Met (device_of k l c) (after (device_of k l c) s (Step j)) z a.ready end r) (its_group l h.launch) x))
