-- The machine after the release of a group.
use Rattle.std.proofs.Common.{◌≡◌, ℕ, List, [], ◌∷◌, ◌++◌, length, Option, Some, None, Bool, true, false, refl, sym, ap, ◌∙◌, subst, ⊎_elim}
use Rattle.std.specs.Prelude.{map, is_some, slice_get, option_map, ◌==◌, if◌then◌else◌}
use Rattle.std.proofs.lemmas.Bool.Decides.{eqb_tells}
use Rattle.kernel_tree.specs.declared.events.Event.{Event}
use Rattle.kernel_tree.specs.declared.events.Event.TheVariants.{Release}
use Rattle.kernel_tree.specs.Code.{Kernel}
use Rattle.kernel_tree.specs.Launch.{Launch, Cells, item_count, group_of, first_item, ids_of}
use Rattle.kernel_tree.specs.Item.{Item, Wants, Waits}
use Rattle.kernel_tree.proofs.Grouping.{first_of_group, first_in_launch}
use Rattle.enabled_events.specs.Grids.{grid_of}
use Rattle.enabled_events.specs.Laws.{FlagsFollow}
use Rattle.enabled_events.specs.Listed.{AreFlags}
use Rattle.race_marks.specs.Marked.{MarksTell}
use Rattle.ndrange_machine.specs.Groups.{Refreshed, Refreshes, MarksRelease}
use Rattle.kernel_tree.specs.Device.{Memory, State, device_of, start_state, wants, Enabled, taken, has_flag, after}
use Rattle.kernel_tree.specs.Faults.{accesses_of, failure_of, RacesAfter, SomeDiverges, IsFaultless}
use Rattle.kernel_tree.specs.Meets.{IsWaiting}
use Rattle.ndrange_machine.specs.declared.machine.Machine.{Machine}
use Rattle.ndrange_machine.specs.declared.want.Want.{Want}
use Rattle.ndrange_machine.specs.declared.want.Want.TheVariants as want
use Rattle.ndrange_machine.specs.declared.change.Change.TheVariants.{Keeps}
use Rattle.ndrange_machine.specs.ItemView.{ItemView}
use Rattle.ndrange_machine.specs.Changes.{changed}
use Rattle.ndrange_machine.specs.Lines.{Line}
use Rattle.ndrange_machine.specs.Memory.{held}
use Rattle.ndrange_machine.specs.Wants.{text_of, wanted}
use Rattle.ndrange_machine.specs.Stands.{HoldsItem, Holds, StandsFor, state_after}
use Rattle.ndrange_machine.specs.Takes.{Advanced, IsWanted, SameCore, PassesGroup, past, past_want}
use Rattle.ndrange_machine.proofs.Next.{IsNext, Stands}
use Rattle.ndrange_machine.proofs.Standing.{here, its_item}
use Rattle.ndrange_machine.proofs.Waiting.{stand_waits}
use Rattle.ndrange_machine.proofs.Together.{AtOnePlace, alike_calm, taken_alike, calm_after, refreshed}
use Rattle.ndrange_machine.proofs.Stepping.{stands_on, same_holds}

-- past a barrier, if it stands there
passes_by : (lines : List Line) (l : Launch) (j : ℕ) (it : ItemView) (v : Want) (w : Wants) (m : Memory) (y : Item) → IsNext lines it v w → IsWaiting w → Stands lines (past_want it v) (taken l j w m y)
passes_by lines l j it want.Ends w m y h waits = absurd (subst IsWaiting h.0 waits)
passes_by lines l j it (want.Waits p q to) w m y h waits = subst (λ z. Stands lines (changed it Keeps to) (taken l j z m y)) (sym h.1) h.2
passes_by lines l j it (want.Fails kind) w m y h waits = absurd (subst IsWaiting h.0 waits)
passes_by lines l j it (want.Changes c to) w m y h waits = absurd (subst IsWaiting h.1 waits)
passes_by lines l j it (want.Reads v a i to) w m y h waits = absurd (subst IsWaiting h.1 waits)
passes_by lines l j it (want.Writes a i x to) w m y h waits = absurd (subst IsWaiting h.1 waits)
passes_by lines l j it (want.ReadsFour v a n to) w m y h waits = absurd (subst IsWaiting h.1 waits)
passes_by lines l j it (want.WritesFour a n u to) w m y h waits = absurd (subst IsWaiting h.1 waits)

-- what an item wants that waits
waiting_want : (lines : List Line) (it : ItemView) (v : Want) (w : Wants) → IsNext lines it v w → IsWaiting w → (p : Bool) × (q : Bool) × (to : ℕ) × (v ≡ want.Waits p q to) × (x : Item) × (w ≡ Waits p q x)
waiting_want lines it want.Ends w h waits = absurd (subst IsWaiting h.0 waits)
waiting_want lines it (want.Waits p q to) w h waits = (p, q, to, refl, h.0, h.1)
waiting_want lines it (want.Fails kind) w h waits = absurd (subst IsWaiting h.0 waits)
waiting_want lines it (want.Changes c to) w h waits = absurd (subst IsWaiting h.1 waits)
waiting_want lines it (want.Reads v a i to) w h waits = absurd (subst IsWaiting h.1 waits)
waiting_want lines it (want.Writes a i x to) w h waits = absurd (subst IsWaiting h.1 waits)
waiting_want lines it (want.ReadsFour v a n to) w h waits = absurd (subst IsWaiting h.1 waits)
waiting_want lines it (want.WritesFour a n u to) w h waits = absurd (subst IsWaiting h.1 waits)

module _ (k : Kernel) (l : Launch) (c : Cells) (m : Machine) (es : List Event) (st : StandsFor k l c m es) (clean : IsFaultless (device_of k l c) (start_state k c) es) (g : ℕ) (en : Enabled (device_of k l c) (state_after k l c es) (Release g)) (n : Machine) (ps : PassesGroup m n g) where
  abbrev now : State
  now = state_after k l c es

  abbrev later : State
  later = after (device_of k l c) (state_after k l c es) (Release g)

  moved_later : (i : ℕ) → group_of l i ≡ g → later.items i ≡ taken l i (wants (device_of k l c) now i) now.memory (now.items i)
  unfolding after
  moved_later i e = ⊎_elim (λ q. ap (λ t. if t then taken l i (wants (device_of k l c) now i) now.memory (now.items i) else now.items i) q.0) (λ q. absurd (q.1 e)) (eqb_tells (group_of l i) g)

  kept_later : (i : ℕ) → (group_of l i ≡ g → ⊥) → later.items i ≡ now.items i
  unfolding after
  kept_later i ne = ⊎_elim (λ q. absurd (ne q.1)) (λ q. ap (λ t. if t then taken l i (wants (device_of k l c) now i) now.memory (now.items i) else now.items i) q.0) (eqb_tells (group_of l i) g)

  memory_later : later.memory ≡ now.memory
  unfolding after
  memory_later = refl

  new_items : (i : ℕ) → slice_get n.items i ≡ (if group_of l i == g then option_map (past m i) (slice_get m.items i) else slice_get m.items i)
  new_items i = ps.items i ∙ ap (λ (z : Launch). if group_of z i == g then option_map (past m i) (slice_get m.items i) else slice_get m.items i) st.holds.launch

  stands_later : (i : ℕ) (x : ItemView) → slice_get n.items i ≡ Some x → Stands (map text_of m.lines.items) x (later.items i)
  stands_later i x e = ⊎_elim (λ q. by_moved q.1 q.0) (λ q. by_kept q.1 q.0) (eqb_tells (group_of l i) g)
    where
      by_moved : group_of l i ≡ g → (group_of l i == g) ≡ true → Stands (map text_of m.lines.items) x (later.items i)
      by_moved r t = of_old (slice_get m.items i) refl (sym (new_items i ∙ ap (λ z. if z then option_map (past m i) (slice_get m.items i) else slice_get m.items i) t) ∙ e)
        where
          of_old : (o : Option ItemView) → slice_get m.items i ≡ o → option_map (past m i) (slice_get m.items i) ≡ Some x → Stands (map text_of m.lines.items) x (later.items i)
          of_old None q h = let both : None ≡ Some x = sym (ap (option_map (past m i)) q) ∙ h in cc
          of_old (Some it) q h =
              let both : Some (past m i it) ≡ Some x = sym (ap (option_map (past m i)) q) ∙ h in
              let is : past m i it ≡ x = cc in
              let vars = st.vars clean.no_failure i it q in
              let waits = stand_waits (wants (device_of k l c) now (first_item l g)) (wants (device_of k l c) now i) (en.1 i r) in
              let s = passes_by (map text_of m.lines.items) l i it (wanted m.lines.items (ids_of m.launch i) it) (wants (device_of k l c) now i) now.memory (now.items i) (here k l c m now st.holds i it q vars) waits in
              subst (λ z. Stands (map text_of m.lines.items) z (later.items i)) is (subst (Stands (map text_of m.lines.items) (past m i it)) (sym (moved_later i r)) s)

      by_kept : (group_of l i ≡ g → ⊥) → (group_of l i == g) ≡ false → Stands (map text_of m.lines.items) x (later.items i)
      by_kept r t =
          let old : slice_get m.items i ≡ Some x = sym (new_items i ∙ ap (λ z. if z then option_map (past m i) (slice_get m.items i) else slice_get m.items i) t) ∙ e in
          let s : Stands (map text_of m.lines.items) x (now.items i) = record { holds = subst (λ z. HoldsItem z x (now.items i)) (sym st.holds.text) (st.holds.items i x old); vars = st.vars clean.no_failure i x old } in
          subst (Stands (map text_of m.lines.items) x) (sym (kept_later i r)) s

  holds_later : Holds k l c n later
  holds_later = record {
    text = ap (map text_of) ps.lines ∙ st.holds.text;
    launch = ps.launch ∙ st.holds.launch;
    whole = st.holds.whole;
    count = ps.count ∙ st.holds.count;
    items = λ i x e. subst (λ z. HoldsItem z x (later.items i)) st.holds.text (stands_later i x e).holds;
    there = λ a h i lt. ap (λ z. is_some (held z (record { array = a; home = h; index = i }))) ps.memory ∙ st.holds.there a h i lt;
    cells = λ d x q. ap (λ f. f d) memory_later ∙ st.holds.cells d x (ap (λ z. held z d) (sym ps.memory) ∙ q);
    outs = ap (λ z. length z.outs.items) ps.memory ∙ st.holds.outs;
  }

  no_failure : failure_of (device_of k l c) now (Release g) ≡ None
  unfolding failure_of
  no_failure = refl

  no_race : RacesAfter (device_of k l c) (start_state k c) es (Release g) → ⊥
  unfolding accesses_of
  no_race h = h.3

  waits_at_first : IsWaiting (wants (device_of k l c) now (first_item l g))
  waits_at_first = stand_waits _ _ (en.1 (first_item l g) (first_of_group l st.holds.whole g))

  -- all of the group stand at one place
  alike_later : (j : ℕ) → group_of l j ≡ g → AtOnePlace (later.items (first_item l g)) (later.items j)
  alike_later j q =
      let first = moved_later (first_item l g) (first_of_group l st.holds.whole g) in
      let other = moved_later j q in
      let same = taken_alike l (first_item l g) j (wants (device_of k l c) now (first_item l g)) (wants (device_of k l c) now j) now.memory (now.items (first_item l g)) (now.items j) (en.1 j q) in
      subst (λ x. AtOnePlace x (later.items j)) (sym first) (subst (AtOnePlace (taken l (first_item l g) (wants (device_of k l c) now (first_item l g)) now.memory (now.items (first_item l g)))) (sym other) same)

  calm : SomeDiverges (device_of k l c) later → ⊥
  calm = calm_after (device_of k l c) now (Release g) st.holds.whole (st.steady clean) (alike_calm (device_of k l c) later g st.holds.whole alike_later)

  -- the machine with its marks, and then its flags
  module _ (follow : FlagsFollow) (want_now : Want) (w : IsWanted m (first_item m.launch g) want_now) (a z : Machine) (core1 : SameCore n a) (ready1 : a.ready ≡ n.ready) (told : MarksRelease n a g want_now) (core2 : SameCore a z) (marks2 : z.marks ≡ a.marks) (told2 : Refreshes a z g) where
    abbrev first : ℕ
    first = first_item l g

    first_is : first_item m.launch g ≡ first_item l g
    first_is = ap (λ (x : Launch). first_item x g) st.holds.launch

    its : (it : ItemView) × (slice_get m.items (first_item l g) ≡ Some it)
    its = its_item k l c m now st.holds (first_item l g) (first_in_launch l st.holds.whole g en.0)

    next_first : IsNext (map text_of m.lines.items) its.0 want_now (wants (device_of k l c) now (first_item l g))
    next_first =
        subst (λ v. IsNext (map text_of m.lines.items) its.0 v (wants (device_of k l c) now (first_item l g))) (sym (w its.0 (ap (slice_get m.items) first_is ∙ its.1) ∙ ap (λ x. wanted m.lines.items (ids_of m.launch x) its.0) first_is))
        (here k l c m now st.holds (first_item l g) its.0 its.1 (st.vars clean.no_failure (first_item l g) its.0 its.1))

    marks_later : MarksTell (device_of k l c) (start_state k c) (es ++ Release g ∷ []) z.marks
    marks_later =
        let b = waiting_want (map text_of m.lines.items) its.0 want_now (wants (device_of k l c) now (first_item l g)) next_first waits_at_first in
        subst (MarksTell (device_of k l c) (start_state k c) (es ++ Release g ∷ [])) (sym marks2)
        (told b.0 b.1 b.2 b.3 (device_of k l c) (start_state k c) es (subst (MarksTell (device_of k l c) (start_state k c) es) (sym ps.marks) (st.marks clean)) (λ f. ap (λ x. has_flag x f) b.5))

    holds_marked : Holds k l c a later
    holds_marked = same_holds k l c n a later core1 holds_later

    holds_end : Holds k l c z later
    holds_end = same_holds k l c a z later core2 holds_marked

    flags_later : AreFlags (device_of k l c) later z.ready
    flags_later =
        refreshed follow (device_of k l c) st.holds.whole now g m.ready z.ready st.flags
        (z.ready_grid ∙ ap grid_of (holds_end.launch ∙ sym st.holds.launch) ∙ sym m.ready_grid)
        (z.ready_items ∙ ap item_count (holds_end.launch ∙ sym st.holds.launch) ∙ sym m.ready_items)
        (subst (λ v. Refreshed (device_of k l c) later g v z.ready) (ready1 ∙ ps.ready) (told2 k l c later holds_marked))

    pub took_release : Advanced k l c es (Release g) z None
    took_release = record {
      stands = stands_on k l c m es st clean (Release g) en z holds_end flags_later
          (λ _ i x e. (stands_later i x (ap (λ v. slice_get v i) (sym (core2.items ∙ core1.items)) ∙ e)).vars)
          (λ _ _. marks_later);
      tells = record { kind = None; is = (no_failure, no_race, calm); lane = 0; in_lane = refl; told = refl };
    }
