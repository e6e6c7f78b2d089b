-- The machine after a step of a work-item.
use Rattle.std.proofs.Common.{◌≡◌, ◌≢◌, ℕ, ◌+◌, ◌*◌, ◌<◌, List, [], ◌∷◌, ◌++◌, length, Option, Some, None, Bool, true, false, refl, sym, ap, ◌∙◌, subst, ⊎_elim, inl, inr, arith, ◌⊎◌, length-append, eq-eqb}
use Rattle.std.specs.Prelude.{map, is_some, nat_lt, slice_get, option_map, ◌==◌, if◌then◌else◌}
use Rattle.std.proofs.lemmas.Bool.{ne_eqb, ltb-true}
use Rattle.std.proofs.lemmas.Bool.Decides.{eqb_tells}
use Rattle.std.proofs.lemmas.List.{length-replicate}
use Rattle.kernel_tree.specs.declared.events.Event.{Event}
use Rattle.kernel_tree.specs.declared.events.Event.TheVariants.{Step}
use Rattle.kernel_tree.specs.declared.events.Cell as seen_cell
use Rattle.kernel_tree.specs.declared.events.FaultKind.{FaultKind}
use Rattle.kernel_tree.specs.declared.events.FaultKind.TheVariants.{ZeroDivisor, OutOfRange, LoopWrap, Race, Divergent}
use Rattle.kernel_tree.specs.declared.tree.Array as held_array
use Rattle.kernel_tree.specs.Formula.{Four}
use Rattle.kernel_tree.specs.Code.{Array, Input, Output, Local, Private, Kernel}
use Rattle.kernel_tree.specs.Tree.{array_of}
use Rattle.kernel_tree.specs.Launch.{Launch, Cells, group_of, first_item, ids_of}
use Rattle.kernel_tree.specs.Item.{Item, next, Wants, Moves, Reads, Writes, ReadsFour, WritesFour, Fails}
use Rattle.kernel_tree.specs.Device.{Cell, Device, State, IsStart, device_of, start_state, length_in, home, cell_at, behind, four_at, four_cells, four_words, write, write_four, wants, CanStep, StandTogether, Enabled, taken, stored, after, run}
use Rattle.kernel_tree.specs.Faults.{Access, access_at, access_four, accessed, accesses_of, accesses, Among, failure, failure_of, RacesAfter, SomeDiverges, FaultIs, NoFailure, NoRace, NoDivergence, IsFaultless}
use Rattle.kernel_tree.specs.Seen.{LaneIs, shared_cell, cell_wanted, access_wanted, fault_of}
use Rattle.kernel_tree.proofs.EveryRun.{run-append, accesses-append, is_run-append}
use Rattle.kernel_tree.proofs.Inputs.{inputs_left}
use Rattle.kernel_tree.proofs.Lanes.{races_in_a_lane}
use Rattle.race_marks.specs.declared.marks.Touch.{Touch}
use Rattle.race_marks.specs.Laws.{MarksStay}
use Rattle.race_marks.specs.Marked.{MarksTell, touched_cell, Touches, TracksStep, TracksAccess, TracksLanes, TracksFour}
use Rattle.enabled_events.specs.Listed.{Flags, AreFlags}
use Rattle.ndrange_machine.specs.Groups.{Settles, Stepped, Settled, Stops}
use Rattle.ndrange_machine.specs.Sights.{access_of_want, fault_in, kind_in, lane_of, raced_cell, touch_at}
use Rattle.ndrange_machine.specs.declared.four.Four as held_words
use Rattle.ndrange_machine.specs.declared.machine.Machine.{Machine}
use Rattle.ndrange_machine.specs.declared.change.Change.{Change}
use Rattle.ndrange_machine.specs.declared.change.Change.TheVariants.{Sets, SetsFour, Keeps}
use Rattle.ndrange_machine.specs.declared.want.Want.{Want}
use Rattle.ndrange_machine.specs.declared.want.Want.TheVariants as want
use Rattle.ndrange_machine.specs.ItemView.{ItemView}
use Rattle.ndrange_machine.specs.Changes.{changed, filled}
use Rattle.ndrange_machine.specs.Known.{four_of, held_four}
use Rattle.ndrange_machine.specs.Lines.{Line}
use Rattle.ndrange_machine.specs.Memory.{held, homes, read_held, put_held, put_four}
use Rattle.ndrange_machine.specs.Wants.{text_of}
use Rattle.ndrange_machine.specs.Stands.{HoldsItem, Holds, StandsFor, state_after}
use Rattle.ndrange_machine.specs.Takes.{HasFault, Advanced, IsWanted, SameCore, Changes}
use Rattle.kernel_tree.proofs.Confluence.{among-left, among-right}
use Rattle.kernel_tree.proofs.Grouping.{group_in_launch}
use Rattle.ndrange_machine.proofs.Cells.{put_there, put_cells, four_there, four_put_cells, four_read, four_held}
use Rattle.ndrange_machine.proofs.Next.{IsNext, IsOwnFault}
use Rattle.ndrange_machine.proofs.Standing.{here, its_item}

-- a kernel's start with memory that holds the cells alone is one of its starts
starts : (k : Kernel) (l : Launch) (c : Cells) → IsStart k l c (start_state k c)
starts k l c = record {
  vars = λ j. filled k.variables k.vectors c.rest;
  long = λ j lt. length-replicate k.variables c.rest;
  wide = λ j lt. length-replicate k.vectors _;
  items = λ j lt. refl;
  inputs = λ a i lt. refl;
  epochs = λ g f. refl;
}

-- the last event of a run, and the rest
pub front_is : (es fs : List Event) (e f : Event) → es ++ e ∷ [] ≡ fs ++ f ∷ [] → es ≡ fs
front_is [] [] e f h = refl
front_is [] (g ∷ fs) e f h = let n = ap length h in let a = length-append fs (f ∷ []) in absurd (omega arith)
front_is (d ∷ es) [] e f h = let n = ap length h in let a = length-append es (e ∷ []) in absurd (omega arith)
front_is (d ∷ es) (g ∷ fs) e f h =
    let tails : es ++ e ∷ [] ≡ fs ++ f ∷ [] = cc in
    let heads : d ≡ g = cc in
    ap (λ z. z ∷ es) heads ∙ ap (λ z. g ∷ z) (front_is es fs e f tails)

pub failure_last : (d : Device) (s : State) (es : List Event) (e : Event) → NoFailure d s (es ++ e ∷ []) → failure_of d (run d s es) e ≡ None
failure_last d s [] e h = h.0
failure_last d s (f ∷ es) e h = failure_last d (after d s f) es e h.1

pub divergence_last : (d : Device) (s : State) (es : List Event) (e : Event) → NoDivergence d s (es ++ e ∷ []) → SomeDiverges d (after d (run d s es) e) → ⊥
divergence_last d s [] e h = h.0
divergence_last d s (f ∷ es) e h = divergence_last d (after d s f) es e h.1

pub race_last : (d : Device) (s : State) (es : List Event) (e : Event) → NoRace d s (es ++ e ∷ []) → RacesAfter d s es e → ⊥
race_last d s es e h r =
    let all = accesses-append d s es (e ∷ []) in
    h r.0 r.1 (subst (Among r.0) (sym all) (among-left r.0 (accesses d s es) _ r.2)) (subst (Among r.1) (sym all) (among-right r.1 (accesses d s es) _ (among-left r.1 (accesses_of d (run d s es) e) [] r.3))) r.4

-- the fault of an event

-- an event of one access that races does so in its one lane
one_lane : (d : Device) (s : State) (es : List Event) (e : Event) (a : Access) → accesses_of d (run d s es) e ≡ a ∷ [] → RacesAfter d s es e → LaneIs d s es e (Some Race) 0
one_lane d s es e a one r = ((r.0, r.1, r.2, only _ r.1 one r.3, r.4), λ n lt. absurd (omega arith))
  where
    only : (xs : List Access) (b : Access) → xs ≡ a ∷ [] → Among b xs → slice_get xs 0 ≡ Some b
    only xs b q m = ap (λ ys. slice_get ys 0) q ∙ ⊎_elim (λ z. ap Some (sym z)) (λ z. absurd z) (subst (Among b) q m)

-- the access of shared memory, by what the lines want
pub access_is : (lines : List Line) (it : ItemView) (v : Want) (w : Wants) → IsNext lines it v w → access_of_want v ≡ access_wanted w
access_is lines it want.Ends w h = sym (ap access_wanted h.0)
access_is lines it (want.Waits p q to) w h = sym (ap access_wanted h.1)
access_is lines it (want.Fails kind) w h = sym (ap access_wanted h.0)
access_is lines it (want.Changes c to) w h = sym (ap access_wanted h.1)
access_is lines it (want.Reads v a i to) w h = sym (ap access_wanted h.1)
access_is lines it (want.Writes a i x to) w h = sym (ap access_wanted h.1)
access_is lines it (want.ReadsFour v a n to) w h = sym (ap access_wanted h.1)
access_is lines it (want.WritesFour a n u to) w h = sym (ap access_wanted h.1)

-- this lane of an event that fails by nothing else, or a group diverges after it
abbrev its_lane : Option ℕ → ℕ
its_lane None = 0
its_lane (Some lane) = lane

fault_told : (w : Wants) (raced : Option ℕ) (cell : Option seen_cell.Cell) (diverges : Bool) → ((lane : ℕ) → raced ≡ Some lane → cell ≡ cell_wanted w lane) → fault_in raced cell diverges ≡ option_map (fault_of w (its_lane raced)) (kind_in raced diverges)
fault_told w (Some lane) cell diverges h = ap (λ z. Some (record { kind = Race; cell = z })) (h lane refl)
fault_told w None cell true h = refl
fault_told w None cell false h = refl

-- the same machine but for flags and marks
pub same_holds : (k : Kernel) (l : Launch) (c : Cells) (m n : Machine) (s : State) → SameCore m n → Holds k l c m s → Holds k l c n s
same_holds k l c m n s core h = record {
  text = ap (λ z. map text_of z.items) core.lines ∙ h.text;
  launch = core.launch ∙ h.launch;
  whole = h.whole;
  count = ap length core.items ∙ h.count;
  items = λ j it e. h.items j it (ap (λ z. slice_get z j) (sym core.items) ∙ e);
  there = λ a o i lt. ap (λ z. is_some (held z (record { array = a; home = o; index = i }))) core.memory ∙ h.there a o i lt;
  cells = λ d x q. h.cells d x (ap (λ z. held z d) (sym core.memory) ∙ q);
  outs = ap (λ z. length z.outs.items) core.memory ∙ h.outs;
}

pub changes_from : (m a n : Machine) (j : ℕ) (ch : Change) (to : ℕ) → SameCore m a → Changes a n j ch to → Changes m n j ch to
changes_from m a n j ch to core cs = record {
  lines = cs.lines ∙ ap (λ z. z.items) core.lines;
  launch = cs.launch ∙ core.launch;
  count = cs.count ∙ ap length core.items;
  items = λ i. cs.items i ∙ ap (λ z. if i == j then option_map (λ it. changed it ch to) (slice_get z i) else slice_get z i) core.items;
}

-- flags where no item has changed
flags_same : (d : Device) (s t : State) (v : Flags) → ((i : ℕ) → t.items i ≡ s.items i) → AreFlags d s v → AreFlags d t v
flags_same d s t v same f = record {
  grid = f.grid;
  count = f.count;
  steps = λ k lt. (λ h. subst CanStep (sym (wants_same k)) ((f.steps k lt).0 h), λ can. (f.steps k lt).1 (subst CanStep (wants_same k) can));
  releases = λ g lt. (
    λ h j q. subst (λ z. StandTogether z (wants d t j)) (sym (wants_same (first_item d.launch g))) (subst (StandTogether (wants d s (first_item d.launch g))) (sym (wants_same j)) ((f.releases g lt).0 h j q)),
    λ all. (f.releases g lt).1 (λ j q. subst (λ z. StandTogether z (wants d s j)) (wants_same (first_item d.launch g)) (subst (StandTogether (wants d t (first_item d.launch g))) (wants_same j) (all j q))),
  );
}
  where
    wants_same : (i : ℕ) → wants d t i ≡ wants d s i
    wants_same i = ap (next (ids_of d.launch i)) (same i)

-- where a machine stood for a run without a fault, and the event is enabled
module _ (k : Kernel) (l : Launch) (c : Cells) (m : Machine) (es : List Event) (st : StandsFor k l c m es) (clean : IsFaultless (device_of k l c) (start_state k c) es) (e : Event) (en : Enabled (device_of k l c) (state_after k l c es) e) where
  -- it stands for the run with the event, where it holds the state after that
  pub stands_on : (n : Machine) → Holds k l c n (after (device_of k l c) (state_after k l c es) e) → AreFlags (device_of k l c) (after (device_of k l c) (state_after k l c es) e) n.ready
      → (failure_of (device_of k l c) (state_after k l c es) e ≡ None → (j : ℕ) (it : ItemView) → slice_get n.items j ≡ Some it → it.vars ≡ ((after (device_of k l c) (state_after k l c es) e).items j).vars)
      → (failure_of (device_of k l c) (state_after k l c es) e ≡ None → (RacesAfter (device_of k l c) (start_state k c) es e → ⊥) → MarksTell (device_of k l c) (start_state k c) (es ++ e ∷ []) n.marks) → StandsFor k l c n (es ++ e ∷ [])
  stands_on n h f v t = record {
    grammar = st.grammar;
    is_run = record {
      enabled = is_run-append (device_of k l c) (start_state k c) es (e ∷ []) st.is_run.enabled (en, tt);
      none_after_fault = λ front last q. subst (IsFaultless (device_of k l c) (start_state k c)) (front_is es front e last q) clean;
    };
    holds = subst (Holds k l c n) (sym on) h;
    flags = subst (λ s. AreFlags (device_of k l c) s n.ready) (sym on) f;
    vars = λ nf j it q. v (failure_last (device_of k l c) (start_state k c) es e nf) j it q ∙ ap (λ s. (s.items j).vars) (sym on);
    marks = λ more. t (failure_last (device_of k l c) (start_state k c) es e more.no_failure) (race_last (device_of k l c) (start_state k c) es e more.no_race);
    steady = λ more. subst (λ s. SomeDiverges (device_of k l c) s → ⊥) (sym on) (divergence_last (device_of k l c) (start_state k c) es e more.no_divergence);
  }
    where
      on : state_after k l c (es ++ e ∷ []) ≡ after (device_of k l c) (state_after k l c es) e
      on = run-append (device_of k l c) (start_state k c) es (e ∷ [])

module _ (k : Kernel) (l : Launch) (c : Cells) (m : Machine) (es : List Event) (st : StandsFor k l c m es) (clean : IsFaultless (device_of k l c) (start_state k c) es) (j : ℕ) (en : Enabled (device_of k l c) (state_after k l c es) (Step j)) where
  abbrev now : State
  now = state_after k l c es

  abbrev later : State
  later = after (device_of k l c) (state_after k l c es) (Step j)

  abbrev next_wants : Wants
  next_wants = wants (device_of k l c) (state_after k l c es) j

  pub its : (it : ItemView) × (slice_get m.items j ≡ Some it)
  its = its_item k l c m now st.holds j en.0

  abbrev it : ItemView
  it = its.0

  vars_now : it.vars ≡ (now.items j).vars
  vars_now = st.vars clean.no_failure j its.0 its.1

  at_want : (v : Want) → IsWanted m j v → IsNext (map text_of m.lines.items) its.0 v next_wants
  at_want v w = subst (λ z. IsNext (map text_of m.lines.items) its.0 z next_wants) (sym (w its.0 its.1)) (here k l c m now st.holds j its.0 its.1 vars_now)

  item_later : later.items j ≡ taken l j next_wants now.memory (now.items j)
  unfolding after
  item_later = ap (λ t. if t then taken l j next_wants now.memory (now.items j) else now.items j) (eq-eqb j j refl)

  others_later : (i : ℕ) → i ≢ j → later.items i ≡ now.items i
  unfolding after
  others_later i ne = ap (λ t. if t then taken l i (wants (device_of k l c) now i) now.memory (now.items i) else now.items i) (ne_eqb i j ne)

  memory_later : later.memory ≡ stored l j next_wants now.memory
  unfolding after
  memory_later = refl

  own_fault : failure_of (device_of k l c) now (Step j) ≡ failure (device_of k l c) next_wants
  unfolding failure_of
  own_fault = refl

  -- the memory of the new machine holds that of the state
  pub record Remembers (n : Machine) : Type 0 where
    there : (a : Array) (h i : ℕ) → is_some (held n.memory (record { array = a; home = h; index = i })) ≡ is_some (held m.memory (record { array = a; home = h; index = i }))
    cells : (d : Cell) (x : ℕ) → held n.memory d ≡ Some x → later.memory d ≡ x
    outs : length n.memory.outs.items ≡ length m.memory.outs.items

  same_memory : (n : Machine) → n.memory ≡ m.memory → later.memory ≡ now.memory → Remembers n
  same_memory n e q = record {
    there = λ a h i. ap (λ z. is_some (held z (record { array = a; home = h; index = i }))) e;
    cells = λ d x p. ap (λ f. f d) q ∙ st.holds.cells d x (ap (λ z. held z d) (sym e) ∙ p);
    outs = ap (λ z. length z.outs.items) e;
  }

  remembers_same : (a b : Machine) → b.memory ≡ a.memory → Remembers a → Remembers b
  remembers_same a b e r = record {
    there = λ x h i. ap (λ z. is_some (held z (record { array = x; home = h; index = i }))) e ∙ r.there x h i;
    cells = λ d x q. r.cells d x (ap (λ z. held z d) (sym e) ∙ q);
    outs = ap (λ z. length z.outs.items) e ∙ r.outs;
  }

  -- the item j of the new machine
  new_item : (n : Machine) (ch : Change) (to : ℕ) → Changes m n j ch to → (i : ℕ) (x : ItemView) → slice_get n.items i ≡ Some x → ((i ≡ j) × (x ≡ changed its.0 ch to)) ⊎ ((i ≢ j) × (slice_get m.items i ≡ Some x))
  new_item n ch to cs i x e =
      ⊎_elim
      (λ q. inl (q.1, (let a : Some (changed its.0 ch to) ≡ Some x = sym (cs.items i ∙ ap (λ t. if t then option_map (λ z. changed z ch to) (slice_get m.items i) else slice_get m.items i) q.0 ∙ ap (option_map (λ z. changed z ch to)) (ap (slice_get m.items) q.1 ∙ its.1)) ∙ e in let b : changed its.0 ch to ≡ x = cc in sym b)))
      (λ q. inr (q.1, sym (cs.items i ∙ ap (λ t. if t then option_map (λ z. changed z ch to) (slice_get m.items i) else slice_get m.items i) q.0) ∙ e))
      (eqb_tells i j)

  holds_on : (n : Machine) (ch : Change) (to : ℕ) → Changes m n j ch to → HoldsItem (map text_of m.lines.items) (changed its.0 ch to) (later.items j) → Remembers n → Holds k l c n later
  holds_on n ch to cs h r = record {
    text = ap (map text_of) cs.lines ∙ st.holds.text;
    launch = cs.launch ∙ st.holds.launch;
    whole = st.holds.whole;
    count = cs.count ∙ st.holds.count;
    items = λ i x e. ⊎_elim
        (λ q. subst (λ z. HoldsItem z x (later.items i)) st.holds.text (subst (λ z. HoldsItem (map text_of m.lines.items) z (later.items i)) (sym q.1) (subst (λ z. HoldsItem (map text_of m.lines.items) (changed its.0 ch to) (later.items z)) (sym q.0) h)))
        (λ q. subst (HoldsItem _ x) (sym (others_later i q.0)) (st.holds.items i x q.1))
        (new_item n ch to cs i x e);
    there = λ a h i lt. r.there a h i ∙ st.holds.there a h i lt;
    cells = r.cells;
    outs = r.outs ∙ st.holds.outs;
  }

  vars_on : (n : Machine) (ch : Change) (to : ℕ) → Changes m n j ch to → (changed its.0 ch to).vars ≡ (later.items j).vars → (i : ℕ) (x : ItemView) → slice_get n.items i ≡ Some x → x.vars ≡ (later.items i).vars
  vars_on n ch to cs v i x e =
      ⊎_elim
      (λ q. ap (λ z. z.vars) q.1 ∙ v ∙ ap (λ z. (later.items z).vars) (sym q.0))
      (λ q. st.vars clean.no_failure i x q.1 ∙ ap (λ z. z.vars) (sym (others_later i q.0)))
      (new_item n ch to cs i x e)

  -- the accesses of the event
  accesses_are : (w : Wants) → next_wants ≡ w → accesses_of (device_of k l c) now (Step j) ≡ accessed l j w (now.epochs (group_of l j))
  unfolding accesses_of
  accesses_are w e = ap (λ z. accessed l j z (now.epochs (group_of l j))) e

  -- a step from a state in which no group diverges
  stepped : (a : Machine) → a.ready ≡ m.ready → Stepped (device_of k l c) now j a.ready
  stepped a e = record { there = en.0; flags = subst (AreFlags (device_of k l c) now) (sym e) st.flags; steps = en.1; steady = st.steady clean }

  -- the changed machine with its flags set
  module _ (a n : Machine) (core : SameCore a n) (ready : a.ready ≡ m.ready) (diverges : Bool) (settles : Settles a n j diverges) (ch : Change) (to : ℕ) (cs : Changes m a j ch to) (r : Remembers a) (held_on : HoldsItem (map text_of m.lines.items) (changed its.0 ch to) (later.items j)) where
    settled : Settled (device_of k l c) later n.ready diverges
    settled = settles k l c now (holds_on a ch to cs held_on r) (stepped a ready)

    holds_now : Holds k l c n later
    holds_now = same_holds k l c a n later core (holds_on a ch to cs held_on r)

    vars_now_on : (changed its.0 ch to).vars ≡ (later.items j).vars → (i : ℕ) (x : ItemView) → slice_get n.items i ≡ Some x → x.vars ≡ (later.items i).vars
    vars_now_on v i x e = vars_on a ch to cs v i x (ap (λ z. slice_get z i) (sym core.items) ∙ e)

    -- an event that doesn't fail
    done : (changed its.0 ch to).vars ≡ (later.items j).vars → failure (device_of k l c) next_wants ≡ None → (raced : Option ℕ) → TracksLanes (device_of k l c) (start_state k c) es j raced n.marks → (cell : Option seen_cell.Cell) → ((lane : ℕ) → raced ≡ Some lane → cell ≡ cell_wanted next_wants lane) → Advanced k l c es (Step j) n (fault_in raced cell diverges)
    done v ok raced tracks cell seen = by_lane raced tracks seen
      where
        by_lane : (o : Option ℕ) → TracksLanes (device_of k l c) (start_state k c) es j o n.marks → ((lane : ℕ) → o ≡ Some lane → cell ≡ cell_wanted next_wants lane) → Advanced k l c es (Step j) n (fault_in o cell diverges)
        by_lane (Some lane) t h =
            let races : RacesAfter (device_of k l c) (start_state k c) es (Step j) = (races_in_a_lane (device_of k l c) (start_state k c) es (Step j)).1 (lane, t.0) in
            record {
              stands = stands_on k l c m es st clean (Step j) en n holds_now settled.flags (λ _. vars_now_on v) (λ _ none. absurd (none races));
              tells = record { kind = Some Race; is = (own_fault ∙ ok, races); lane = lane; in_lane = t; told = fault_told next_wants (Some lane) cell diverges h };
            }
        by_lane None t h = record {
          stands = stands_on k l c m es st clean (Step j) en n holds_now settled.flags (λ _. vars_now_on v) (λ _ none. t.goes_on refl);
          tells = by_calm diverges refl;
        }
          where
            no_race : RacesAfter (device_of k l c) (start_state k c) es (Step j) → ⊥
            no_race r = let both : false ≡ true = t.exact.1 r in let x : ⊥ = cc in x

            by_calm : (b : Bool) → diverges ≡ b → HasFault (device_of k l c) (start_state k c) es (Step j) (fault_in None cell diverges)
            by_calm true g = subst (λ z. HasFault (device_of k l c) (start_state k c) es (Step j) (fault_in None cell z)) (sym g) (record { kind = Some Divergent; is = (own_fault ∙ ok, no_race, settled.apart.0 g); lane = 0; in_lane = refl; told = refl })
            by_calm false g = subst (λ z. HasFault (device_of k l c) (start_state k c) es (Step j) (fault_in None cell z)) (sym g) (record { kind = None; is = (own_fault ∙ ok, no_race, λ d. let both : true ≡ false = sym (settled.apart.1 d) ∙ g in let x : ⊥ = cc in x); lane = 0; in_lane = refl; told = refl })

  -- an event outside an array
  outside : failure (device_of k l c) next_wants ≡ Some OutOfRange → (a n : Machine) (to : ℕ) → (s : Stops a n j to) → Changes m s.between j Keeps to → s.between.ready ≡ m.ready → Remembers s.between → HoldsItem (map text_of m.lines.items) (changed its.0 Keeps to) (later.items j) → Advanced k l c es (Step j) n (Some (record { kind = OutOfRange; cell = None }))
  outside f a n to s cs ready r held_on = record {
    stands = stands_on k l c m es st clean (Step j) en n (holds_now s.between n s.core ready s.diverges s.settles Keeps to cs r held_on) (settled s.between n s.core ready s.diverges s.settles Keeps to cs r held_on).flags (λ ok. absurd (failed ok)) (λ ok. absurd (failed ok));
    tells = record { kind = Some OutOfRange; is = own_fault ∙ f; lane = 0; in_lane = refl; told = refl };
  }
    where
      failed : failure_of (device_of k l c) now (Step j) ≡ None → ⊥
      failed ok = let none : None ≡ Some OutOfRange = sym ok ∙ own_fault ∙ f in cc

  pub took_change : MarksStay → (a n : Machine) (ch : Change) (to : ℕ) (diverges : Bool) → IsWanted m j (want.Changes ch to) → Changes m a j ch to → a.memory ≡ m.memory → a.marks ≡ m.marks → a.ready ≡ m.ready → SameCore a n → n.marks ≡ a.marks → Settles a n j diverges → Advanced k l c es (Step j) n (fault_in None None diverges)
  took_change stay a n ch to diverges w cs mem marks ready core same settles =
      let r = at_want (want.Changes ch to) w in
      let moved = item_later ∙ ap (λ z. taken l j z now.memory (now.items j)) r.1 in
      let none = accesses_are (Moves r.0) r.1 in
      done a n core ready diverges settles ch to cs (same_memory a mem (memory_later ∙ ap (λ z. stored l j z now.memory) r.1))
      (subst (HoldsItem (map text_of m.lines.items) (changed its.0 ch to)) (sym moved) r.2.holds)
      (r.2.vars ∙ ap (λ z. z.vars) (sym moved)) (ap (failure (device_of k l c)) r.1) None
      (record {
        exact = (λ q. absurd (let both : false ≡ true = q in let x : ⊥ = cc in x), λ q. absurd (subst (Among q.1) none q.3));
        goes_on = λ _. subst (MarksTell (device_of k l c) (start_state k c) (es ++ Step j ∷ [])) (sym marks ∙ sym same) (stay (device_of k l c) (start_state k c) es j m.marks none (st.marks clean));
      })
      None (λ lane e. cc)

  -- the cell that the item names in an array
  home_there : (a : Array) → home (group_of l j) j a < homes l a
  home_there (Input n) = omega arith
  home_there (Output n) = omega arith
  home_there (Local n) = group_in_launch l st.holds.whole j en.0
  home_there (Private n) = en.0

  abbrev pub named : (group : ℕ) → held_array.Array → ℕ → Cell
  named g a i = record { array = array_of a; home = home g j (array_of a); index = i }

  -- the run with the event writes no input
  reads_inputs : (x : Access) (n : ℕ) → Among x (accesses (device_of k l c) (start_state k c) (es ++ Step j ∷ [])) → x.cell.array ≡ Input n → x.writes ≡ false
  reads_inputs =
      (inputs_left k l c (start_state k c) (es ++ Step j ∷ []) st.grammar (starts k l c)
      (is_run-append (device_of k l c) (start_state k c) es (Step j ∷ []) st.is_run.enabled (en, tt))).reads

  abbrev its_touch : Bool → Touch
  its_touch writes = touch_at m.launch j writes

  its_group : group_of m.launch j ≡ group_of l j
  its_group = ap (λ (z : Launch). group_of z j) st.holds.launch

  module _ (g : ℕ) (g_is : g ≡ group_of m.launch j) (a : held_array.Array) where
    named_is : (i : ℕ) → named g a i ≡ cell_at l j (array_of a) i
    named_is i = ap (λ n. named n a i) (g_is ∙ its_group)

    there_at : (i : ℕ) → is_some (held m.memory (named g a i)) ≡ nat_lt i (length_in k c (array_of a))
    there_at i = ap (λ d. is_some (held m.memory d)) (named_is i) ∙ st.holds.there (array_of a) (home (group_of l j) j (array_of a)) i (home_there (array_of a))

    -- what the marks take into account is what the event accesses
    touches : (writes : Bool) (cells : List Cell) → accesses_of (device_of k l c) now (Step j) ≡ map (λ d. access_at (group_of l j) j d writes (now.epochs (group_of l j))) cells → Touches (device_of k l c) (start_state k c) es (its_touch writes) cells
    touches writes cells made = record {
      are = made ∙ ap (λ (n : ℕ). map (λ d. access_at n j d writes (now.epochs n)) cells) (sym its_group);
      reads = reads_inputs;
    }

    -- one cell
    one_tracked : (writes : Bool) (i : ℕ) → accesses_of (device_of k l c) now (Step j) ≡ access_at (group_of l j) j (cell_at l j (array_of a) i) writes (now.epochs (group_of l j)) ∷ [] → is_some (held m.memory (named g a i)) ≡ true → (old : Machine) → old.marks ≡ m.marks → (races : Bool) (new : Machine) → TracksAccess old.marks (array_of a) i (its_touch writes) races new.marks → TracksLanes (device_of k l c) (start_state k c) es j (lane_of races) new.marks
    one_tracked writes i made here old same races new t =
        let marks = subst (MarksTell (device_of k l c) (start_state k c) es) (sym same) (st.marks clean) in
        let cell : cell_at l j (array_of a) i ≡ touched_cell (array_of a) i (its_touch writes) = ap (λ n. record { array = array_of a; home = home n j (array_of a); index = i }) (sym its_group) in
        let step = t (device_of k l c) (start_state k c) es marks
        (touches writes (touched_cell (array_of a) i (its_touch writes) ∷ []) (made ∙ ap (λ d. access_at (group_of l j) j d writes (now.epochs (group_of l j)) ∷ []) cell))
        (ltb-true i (length_in k c (array_of a)) (sym (there_at i) ∙ here)) in
        by_race races step
      where
        by_race : (b : Bool) → TracksStep (device_of k l c) (start_state k c) es j b new.marks → TracksLanes (device_of k l c) (start_state k c) es j (lane_of b) new.marks
        by_race true step = one_lane (device_of k l c) (start_state k c) es (Step j) _ made (step.exact.0 refl)
        by_race false step = step

    -- four cells
    four_tracked : (writes : Bool) (n : ℕ) → accesses_of (device_of k l c) now (Step j) ≡ access_four (group_of l j) j (four_at l j (array_of a) n) writes (now.epochs (group_of l j)) → nat_lt (4 * n + 3) (length_in k c (array_of a)) ≡ true → (old : Machine) → old.marks ≡ m.marks → (lane : Option ℕ) (new : Machine) → TracksFour old.marks (array_of a) n (its_touch writes) lane new.marks → TracksLanes (device_of k l c) (start_state k c) es j lane new.marks
    four_tracked writes n made here old same lane new t =
        let marks = subst (MarksTell (device_of k l c) (start_state k c) es) (sym same) (st.marks clean) in
        let cell : four_at l j (array_of a) n ≡ touched_cell (array_of a) (4 * n) (its_touch writes) = ap (λ x. record { array = array_of a; home = home x j (array_of a); index = 4 * n }) (sym its_group) in
        t (device_of k l c) (start_state k c) es marks
        (touches writes (four_cells (touched_cell (array_of a) (4 * n) (its_touch writes))) (made ∙ ap (λ d. map (λ z. access_at (group_of l j) j z writes (now.epochs (group_of l j))) (four_cells d)) cell))
        (ltb-true (4 * n + 3) (length_in k c (array_of a)) here)

  abbrev range_fault : Bool → Option FaultKind
  range_fault t = if t then None else Some OutOfRange

  -- a read of one cell
  module _ (g : ℕ) (g_is : g ≡ group_of m.launch j) (v : ℕ) (a : held_array.Array) (i to : ℕ) (w : IsWanted m j (want.Reads v a i to)) where
    next_reads : IsNext (map text_of m.lines.items) its.0 (want.Reads v a i to) next_wants
    next_reads = at_want (want.Reads v a i to) w

    after_read : (y : ℕ) → now.memory (cell_at l j (array_of a) i) ≡ y → later.items j ≡ next_reads.0 y
    after_read y e = item_later ∙ ap (λ z. taken l j z now.memory (now.items j)) next_reads.1 ∙ ap next_reads.0 e

    read_memory : (n : Machine) → n.memory ≡ m.memory → Remembers n
    read_memory n mem = same_memory n mem (memory_later ∙ ap (λ z. stored l j z now.memory) next_reads.1)

    read_fault : (t : Bool) → is_some (held m.memory (named g a i)) ≡ t → failure (device_of k l c) next_wants ≡ range_fault t
    read_fault t e = ap (failure (device_of k l c)) next_reads.1 ∙ ap range_fault (sym (there_at g g_is a i) ∙ e)

    pub took_read : (y : ℕ) → held m.memory (named g a i) ≡ Some y → (touched changed_to n : Machine) (races diverges : Bool) → SameCore m touched → touched.ready ≡ m.ready → TracksAccess m.marks (array_of a) i (touch_at m.launch j false) races touched.marks
        → Changes touched changed_to j (Sets v y) to → changed_to.memory ≡ touched.memory → changed_to.marks ≡ touched.marks → changed_to.ready ≡ touched.ready
        → SameCore changed_to n → n.marks ≡ changed_to.marks → Settles changed_to n j diverges → Advanced k l c es (Step j) n (fault_in (lane_of races) (shared_cell (array_of a) i) diverges)
    took_read y q touched b n races diverges core1 ready1 tracks cs mem marks ready core2 same settles =
        let moved = after_read y (st.holds.cells (cell_at l j (array_of a) i) y (ap (held m.memory) (sym (named_is g g_is a i)) ∙ q)) in
        let s = next_reads.2 y in
        done b n core2 (ready ∙ ready1) diverges settles (Sets v y) to (changes_from m touched b j (Sets v y) to core1 cs) (read_memory b (mem ∙ core1.memory))
        (subst (HoldsItem (map text_of m.lines.items) (changed its.0 (Sets v y) to)) (sym moved) s.holds)
        (s.vars ∙ ap (λ z. z.vars) (sym moved)) (read_fault true (ap is_some q)) (lane_of races)
        (subst (TracksLanes (device_of k l c) (start_state k c) es j (lane_of races)) (sym marks ∙ sym same) (one_tracked g g_is a false i (accesses_are (Reads (array_of a) i next_reads.0) next_reads.1) (ap is_some q) m refl races touched tracks))
        (shared_cell (array_of a) i) (λ lane e. sym (ap (λ z. cell_wanted z lane) next_reads.1))

    pub took_read_outside : held m.memory (named g a i) ≡ None → (n : Machine) → Stops m n j to → Advanced k l c es (Step j) n (Some (record { kind = OutOfRange; cell = None }))
    took_read_outside q n s =
        let y = now.memory (cell_at l j (array_of a) i) in
        let h = (next_reads.2 y).holds in
        outside (read_fault false (ap is_some q)) m n to s s.changes s.ready (read_memory s.between s.memory)
        (subst (HoldsItem (map text_of m.lines.items) (changed its.0 Keeps to)) (sym (after_read y refl)) (record { place = h.place; turns = h.turns; numbered = h.numbered; room = h.room; rooms = h.rooms }))

  -- a read of four
  module _ (g : ℕ) (g_is : g ≡ group_of m.launch j) (v : ℕ) (a : held_array.Array) (i to : ℕ) (w : IsWanted m j (want.ReadsFour v a i to)) where
    next_four : IsNext (map text_of m.lines.items) its.0 (want.ReadsFour v a i to) next_wants
    next_four = at_want (want.ReadsFour v a i to) w

    after_four : (u : Four) → four_words now.memory (four_at l j (array_of a) i) ≡ u → later.items j ≡ next_four.0 u
    after_four u e = item_later ∙ ap (λ z. taken l j z now.memory (now.items j)) next_four.1 ∙ ap next_four.0 e

    four_memory : (n : Machine) → n.memory ≡ m.memory → Remembers n
    four_memory n mem = same_memory n mem (memory_later ∙ ap (λ z. stored l j z now.memory) next_four.1)

    there_four : (o : Option Four) → read_held (held m.memory) (named g a (4 * i)) ≡ o → nat_lt (4 * i + 3) (length_in k c (array_of a)) ≡ is_some o
    there_four o e = sym (four_held (held m.memory) (named g a (4 * i)) (length_in k c (array_of a)) (λ x. there_at g g_is a x) o e)

    four_fault : (o : Option Four) → read_held (held m.memory) (named g a (4 * i)) ≡ o → failure (device_of k l c) next_wants ≡ range_fault (is_some o)
    four_fault o e = ap (failure (device_of k l c)) next_four.1 ∙ ap range_fault (there_four o e)

    pub took_four : (u : held_words.Four) → read_held (held m.memory) (named g a (4 * i)) ≡ Some (four_of u) → (touched changed_to n : Machine) (lane : Option ℕ) (diverges : Bool) → SameCore m touched → touched.ready ≡ m.ready → TracksFour m.marks (array_of a) i (touch_at m.launch j false) lane touched.marks
        → Changes touched changed_to j (SetsFour v u) to → changed_to.memory ≡ touched.memory → changed_to.marks ≡ touched.marks → changed_to.ready ≡ touched.ready
        → SameCore changed_to n → n.marks ≡ changed_to.marks → Settles changed_to n j diverges → Advanced k l c es (Step j) n (fault_in lane (raced_cell (array_of a) i lane) diverges)
    took_four u q touched b n lane diverges core1 ready1 tracks cs mem marks ready core2 same settles =
        let words = four_read (held m.memory) now.memory st.holds.cells (four_at l j (array_of a) i) (four_of u) (ap (read_held (held m.memory)) (sym (named_is g g_is a (4 * i))) ∙ q) in
        let moved = after_four (four_of u) words in
        let s = next_four.2 u in
        done b n core2 (ready ∙ ready1) diverges settles (SetsFour v u) to (changes_from m touched b j (SetsFour v u) to core1 cs) (four_memory b (mem ∙ core1.memory))
        (subst (HoldsItem (map text_of m.lines.items) (changed its.0 (SetsFour v u) to)) (sym moved) s.holds)
        (s.vars ∙ ap (λ z. z.vars) (sym moved)) (four_fault (Some (four_of u)) q) lane
        (subst (TracksLanes (device_of k l c) (start_state k c) es j lane) (sym marks ∙ sym same) (four_tracked g g_is a false i (accesses_are (ReadsFour (array_of a) i next_four.0) next_four.1) (there_four (Some (four_of u)) q) m refl lane touched tracks))
        (raced_cell (array_of a) i lane) (λ x e. ap (raced_cell (array_of a) i) e ∙ sym (ap (λ z. cell_wanted z x) next_four.1))

    pub took_four_outside : read_held (held m.memory) (named g a (4 * i)) ≡ None → (n : Machine) → Stops m n j to → Advanced k l c es (Step j) n (Some (record { kind = OutOfRange; cell = None }))
    took_four_outside q n s =
        let u = held_four (four_words now.memory (four_at l j (array_of a) i)) in
        let h = (next_four.2 u).holds in
        outside (four_fault None q) m n to s s.changes s.ready (four_memory s.between s.memory)
        (subst (HoldsItem (map text_of m.lines.items) (changed its.0 Keeps to)) (sym (after_four (four_of u) refl)) (record { place = h.place; turns = h.turns; numbered = h.numbered; room = h.room; rooms = h.rooms }))

  -- a write, of one cell or of four: what the machine wants, the item and the memory after it
  module _ (x : Item) (v : Want) (kept_to : ℕ) (of_next : HoldsItem (map text_of m.lines.items) (changed its.0 Keeps kept_to) x) (vars_next : its.0.vars ≡ x.vars) (item_is : later.items j ≡ x) (new : Machine) (remembers : Remembers new) where
    pub took_write : (raced : Option ℕ) → failure (device_of k l c) next_wants ≡ None → (old touched b end : Machine) (diverges : Bool) → SameCore old touched → old.lines ≡ m.lines → old.launch ≡ m.launch → old.items ≡ m.items → old.memory ≡ new.memory → old.marks ≡ m.marks → old.ready ≡ m.ready → touched.ready ≡ old.ready
        → TracksLanes (device_of k l c) (start_state k c) es j raced touched.marks
        → Changes touched b j Keeps kept_to → b.memory ≡ touched.memory → b.marks ≡ touched.marks → b.ready ≡ touched.ready → SameCore b end → end.marks ≡ b.marks → Settles b end j diverges
        → (cell : Option seen_cell.Cell) → ((lane : ℕ) → raced ≡ Some lane → cell ≡ cell_wanted next_wants lane) → Advanced k l c es (Step j) end (fault_in raced cell diverges)
    took_write raced ok old touched b end diverges core1 lines launch items mem0 marks0 ready0 ready1 tracks cs mem marks ready core2 same settles cell seen =
        let all : Changes m b j Keeps kept_to = record {
          lines = cs.lines ∙ ap (λ z. z.items) core1.lines ∙ ap (λ z. z.items) lines;
          launch = cs.launch ∙ core1.launch ∙ launch;
          count = cs.count ∙ ap length (core1.items ∙ items);
          items = λ y. cs.items y ∙ ap (λ z. if y == j then option_map (λ it. changed it Keeps kept_to) (slice_get z y) else slice_get z y) (core1.items ∙ items);
        } in
        done b end core2 (ready ∙ ready1 ∙ ready0) diverges settles Keeps kept_to all (remembers_same new b (mem ∙ core1.memory ∙ mem0) remembers)
        (subst (HoldsItem (map text_of m.lines.items) (changed its.0 Keeps kept_to)) (sym item_is) of_next)
        (vars_next ∙ ap (λ z. z.vars) (sym item_is)) ok raced
        (subst (TracksLanes (device_of k l c) (start_state k c) es j raced) (sym marks ∙ sym same) tracks) cell seen

    pub took_write_outside : failure (device_of k l c) next_wants ≡ Some OutOfRange → (old end : Machine) → old.lines ≡ m.lines → old.launch ≡ m.launch → old.items ≡ m.items → old.memory ≡ new.memory → old.ready ≡ m.ready → Stops old end j kept_to → Advanced k l c es (Step j) end (Some (record { kind = OutOfRange; cell = None }))
    took_write_outside f old end lines launch items mem0 ready0 s =
        let cs = s.changes in
        let all : Changes m s.between j Keeps kept_to = record {
          lines = cs.lines ∙ ap (λ z. z.items) lines;
          launch = cs.launch ∙ launch;
          count = cs.count ∙ ap length items;
          items = λ y. cs.items y ∙ ap (λ z. if y == j then option_map (λ it. changed it Keeps kept_to) (slice_get z y) else slice_get z y) items;
        } in
        outside f old end kept_to s all (s.ready ∙ ready0) (remembers_same new s.between (s.memory ∙ mem0) remembers)
        (subst (HoldsItem (map text_of m.lines.items) (changed its.0 Keeps kept_to)) (sym item_is) of_next)

  module _ (g : ℕ) (g_is : g ≡ group_of m.launch j) (a : held_array.Array) (i y to : ℕ) (w : IsWanted m j (want.Writes a i y to)) (n : Machine) (puts : (d : Cell) → held n.memory d ≡ put_held (held m.memory) (named g a i) y d) (outs : length n.memory.outs.items ≡ length m.memory.outs.items) where
    next_writes : IsNext (map text_of m.lines.items) its.0 (want.Writes a i y to) next_wants
    next_writes = at_want (want.Writes a i y to) w

    after_write : later.items j ≡ next_writes.0
    after_write = item_later ∙ ap (λ z. taken l j z now.memory (now.items j)) next_writes.1

    memory_is : later.memory ≡ write (named g a i) y now.memory
    memory_is = memory_later ∙ ap (λ z. stored l j z now.memory) next_writes.1 ∙ ap (λ d. write d y now.memory) (sym (named_is g g_is a i))

    write_memory : Remembers n
    write_memory = record {
      there = λ b h z. let d : Cell = record { array = b; home = h; index = z } in ap is_some (puts d) ∙ put_there (held m.memory) (named g a i) y d;
      cells = λ d x q. ap (λ f. f d) memory_is ∙ put_cells (held m.memory) now.memory st.holds.cells (named g a i) y d x (sym (puts d) ∙ q);
      outs = outs;
    }

    pub write_fault : (t : Bool) → is_some (held m.memory (named g a i)) ≡ t → failure (device_of k l c) next_wants ≡ range_fault t
    write_fault t e = ap (failure (device_of k l c)) next_writes.1 ∙ ap range_fault (sym (there_at g g_is a i) ∙ e)

    pub took_one : is_some (held m.memory (named g a i)) ≡ true → (old touched b end : Machine) (races diverges : Bool) → SameCore old touched → old.lines ≡ m.lines → old.launch ≡ m.launch → old.items ≡ m.items → old.memory ≡ n.memory → old.marks ≡ m.marks → old.ready ≡ m.ready → touched.ready ≡ old.ready
        → TracksAccess old.marks (array_of a) i (touch_at m.launch j true) races touched.marks
        → Changes touched b j Keeps to → b.memory ≡ touched.memory → b.marks ≡ touched.marks → b.ready ≡ touched.ready → SameCore b end → end.marks ≡ b.marks → Settles b end j diverges → Advanced k l c es (Step j) end (fault_in (lane_of races) (shared_cell (array_of a) i) diverges)
    took_one q old touched b end races diverges core1 lines launch items mem0 marks0 ready0 ready1 tracks cs mem marks ready core2 same settles =
        took_write next_writes.0 (want.Writes a i y to) to next_writes.2.holds next_writes.2.vars after_write n write_memory (lane_of races) (write_fault true q) old touched b end diverges core1 lines launch items mem0 marks0 ready0 ready1
        (one_tracked g g_is a true i (accesses_are (Writes (array_of a) i y next_writes.0) next_writes.1) q old marks0 races touched tracks)
        cs mem marks ready core2 same settles (shared_cell (array_of a) i) (λ lane e. sym (ap (λ z. cell_wanted z lane) next_writes.1))

    pub took_one_outside : is_some (held m.memory (named g a i)) ≡ false → (old end : Machine) → old.lines ≡ m.lines → old.launch ≡ m.launch → old.items ≡ m.items → old.memory ≡ n.memory → old.ready ≡ m.ready → Stops old end j to → Advanced k l c es (Step j) end (Some (record { kind = OutOfRange; cell = None }))
    took_one_outside q old end lines launch items mem0 ready0 s =
        took_write_outside next_writes.0 (want.Writes a i y to) to next_writes.2.holds next_writes.2.vars after_write n write_memory (write_fault false q) old end lines launch items mem0 ready0 s

  module _ (g : ℕ) (g_is : g ≡ group_of m.launch j) (a : held_array.Array) (i : ℕ) (u : held_words.Four) (to : ℕ) (w : IsWanted m j (want.WritesFour a i u to)) (n : Machine)
      (puts : (d : Cell) → held n.memory d ≡ put_four (held m.memory) (named g a (4 * i)) (four_of u) d) (outs : length n.memory.outs.items ≡ length m.memory.outs.items) where
    abbrev first_named : Cell
    first_named = named g a (4 * i)

    next_stores : IsNext (map text_of m.lines.items) its.0 (want.WritesFour a i u to) next_wants
    next_stores = at_want (want.WritesFour a i u to) w

    after_stores : later.items j ≡ next_stores.0
    after_stores = item_later ∙ ap (λ z. taken l j z now.memory (now.items j)) next_stores.1

    four_memory_is : later.memory ≡ write_four first_named (four_of u) now.memory
    four_memory_is = memory_later ∙ ap (λ z. stored l j z now.memory) next_stores.1 ∙ ap (λ d. write_four d (four_of u) now.memory) (sym (named_is g g_is a (4 * i)))

    store_memory : Remembers n
    store_memory = record {
      there = λ b h z. let d : Cell = record { array = b; home = h; index = z } in ap is_some (puts d) ∙ four_there (held m.memory) first_named (four_of u) d;
      cells = λ d x q. ap (λ f. f d) four_memory_is ∙ four_put_cells (held m.memory) now.memory st.holds.cells first_named (four_of u) d x (sym (puts d) ∙ q);
      outs = outs;
    }

    pub took_stores : is_some (held m.memory (behind 3 first_named)) ≡ true → (old touched b end : Machine) (lane : Option ℕ) (diverges : Bool) → SameCore old touched → old.lines ≡ m.lines → old.launch ≡ m.launch → old.items ≡ m.items → old.memory ≡ n.memory → old.marks ≡ m.marks → old.ready ≡ m.ready → touched.ready ≡ old.ready
        → TracksFour old.marks (array_of a) i (touch_at m.launch j true) lane touched.marks
        → Changes touched b j Keeps to → b.memory ≡ touched.memory → b.marks ≡ touched.marks → b.ready ≡ touched.ready → SameCore b end → end.marks ≡ b.marks → Settles b end j diverges → Advanced k l c es (Step j) end (fault_in lane (raced_cell (array_of a) i lane) diverges)
    took_stores q old touched b end lane diverges core1 lines launch items mem0 marks0 ready0 ready1 tracks cs mem marks ready core2 same settles =
        let here : nat_lt (4 * i + 3) (length_in k c (array_of a)) ≡ true = sym (there_at g g_is a (4 * i + 3)) ∙ q in
        took_write next_stores.0 (want.WritesFour a i u to) to next_stores.2.holds next_stores.2.vars after_stores n store_memory lane (ap (failure (device_of k l c)) next_stores.1 ∙ ap range_fault here) old touched b end diverges core1 lines launch items mem0 marks0 ready0 ready1
        (four_tracked g g_is a true i (accesses_are (WritesFour (array_of a) i (four_of u) next_stores.0) next_stores.1) here old marks0 lane touched tracks)
        cs mem marks ready core2 same settles (raced_cell (array_of a) i lane) (λ x e. ap (raced_cell (array_of a) i) e ∙ sym (ap (λ z. cell_wanted z x) next_stores.1))

    pub took_stores_outside : is_some (held m.memory (behind 3 first_named)) ≡ false → (old end : Machine) → old.lines ≡ m.lines → old.launch ≡ m.launch → old.items ≡ m.items → old.memory ≡ n.memory → old.ready ≡ m.ready → Stops old end j to → Advanced k l c es (Step j) end (Some (record { kind = OutOfRange; cell = None }))
    took_stores_outside q old end lines launch items mem0 ready0 s =
        took_write_outside next_stores.0 (want.WritesFour a i u to) to next_stores.2.holds next_stores.2.vars after_stores n store_memory
        (ap (failure (device_of k l c)) next_stores.1 ∙ ap range_fault (sym (there_at g g_is a (4 * i + 3)) ∙ q)) old end lines launch items mem0 ready0 s

  failed_by : (kind : FaultKind) → IsOwnFault kind → next_wants ≡ Fails kind → FaultIs (device_of k l c) (start_state k c) es (Step j) (Some kind)
  failed_by ZeroDivisor own e = own_fault ∙ ap (failure (device_of k l c)) e
  failed_by LoopWrap own e = own_fault ∙ ap (failure (device_of k l c)) e
  failed_by OutOfRange own e = absurd own
  failed_by Race own e = absurd own
  failed_by Divergent own e = absurd own

  pub took_fault : (kind : FaultKind) → IsWanted m j (want.Fails kind) → Advanced k l c es (Step j) m (Some (record { kind = kind; cell = None }))
  took_fault kind w =
      let r = at_want (want.Fails kind) w in
      let item_is : later.items j ≡ now.items j = item_later ∙ ap (λ z. taken l j z now.memory (now.items j)) r.0 in
      let mem_is : later.memory ≡ now.memory = memory_later ∙ ap (λ z. stored l j z now.memory) r.0 in
      let same : (i : ℕ) → later.items i ≡ now.items i = λ i. ⊎_elim (λ q. ap later.items q.1 ∙ item_is ∙ ap now.items (sym q.1)) (λ q. others_later i q.1) (eqb_tells i j) in
      let failed : failure_of (device_of k l c) now (Step j) ≡ None → ⊥ = λ ok. let none : None ≡ Some kind = sym ok ∙ own_fault ∙ ap (failure (device_of k l c)) r.0 in cc in
      let h = st.holds in
      record {
        stands =
            stands_on k l c m es st clean (Step j) en m
            (record {
              text = h.text;
              launch = h.launch;
              whole = h.whole;
              count = h.count;
              items = λ i x e. subst (HoldsItem _ x) (sym (same i)) (h.items i x e);
              there = h.there;
              cells = λ d x q. ap (λ f. f d) mem_is ∙ h.cells d x q;
              outs = h.outs;
            })
            (flags_same (device_of k l c) now later m.ready same st.flags)
            (λ ok. absurd (failed ok))
            (λ ok. absurd (failed ok));
        tells = record { kind = Some kind; is = failed_by kind r.2 r.0; lane = 0; in_lane = own_lane kind r.2; told = own_told kind r.2 };
      }
    where
      own_lane : (f : FaultKind) → IsOwnFault f → LaneIs (device_of k l c) (start_state k c) es (Step j) (Some f) 0
      own_lane ZeroDivisor own = refl
      own_lane LoopWrap own = refl
      own_lane OutOfRange own = absurd own
      own_lane Race own = absurd own
      own_lane Divergent own = absurd own

      own_told : (f : FaultKind) → IsOwnFault f → Some (record { kind = f; cell = None }) ≡ option_map (fault_of next_wants 0) (Some f)
      own_told ZeroDivisor own = refl
      own_told LoopWrap own = refl
      own_told OutOfRange own = absurd own
      own_told Race own = absurd own
      own_told Divergent own = absurd own

  pub access_told : (v : Want) → IsWanted m j v → access_of_want v ≡ access_wanted next_wants
  access_told v w = access_is (map text_of m.lines.items) its.0 v next_wants (at_want v w)

  pub never_ends : IsWanted m j want.Ends → ⊥
  never_ends w = subst CanStep (at_want want.Ends w).0 en.1

  pub never_waits : (p q : Bool) (to : ℕ) → IsWanted m j (want.Waits p q to) → ⊥
  never_waits p q to w = subst CanStep (at_want (want.Waits p q to) w).1 en.1
