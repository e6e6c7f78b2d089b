-- The worked kernels, computed.
use Rattle.std.proofs.Common.{rules, ◌≡◌, ◌⊎◌, ℕ, List, ◌++◌, zero, suc, ◌<◌, Bool, true, false, [], ◌∷◌, Some, None, refl, sym, ap, ◌∙◌, subst, inl, inr, ⊎_elim, arith}
use Rattle.std.specs.Prelude.{replicate}
use Rattle.kernel_tree.specs.declared.events.Event.{Event}
use Rattle.kernel_tree.specs.declared.events.Event.TheVariants.{Step, Release}
use Rattle.kernel_tree.specs.declared.events.FaultKind.TheVariants as fault
use Rattle.kernel_tree.specs.Formula.{sizes_alone, no_vars}
use Rattle.kernel_tree.specs.Code.{Output, End, then_rest}
use Rattle.kernel_tree.specs.Launch.{in_a_row, ids_of, group_of, item_count, IsWhole}
use Rattle.kernel_tree.specs.Schedule.{AreEnabled}
use Rattle.worked_kernels.specs.DeviceRuns.{cells_after}
use Rattle.kernel_tree.proofs.Accessed.{among_every}
use Rattle.kernel_tree.proofs.Grouping.{in_launch}
use Rattle.kernel_tree.specs.declared.events.Access.TheVariants.{Write, WriteFour}
use Rattle.kernel_tree.specs.declared.tree.Array.TheVariants as held
use Rattle.kernel_tree.specs.Seen.{seen_of, RacesIn, IsSeen}
use Rattle.kernel_tree.specs.Item.{next, Ends, Frame, item, loop_variables, Moves, Fails}
use Rattle.kernel_tree.specs.Device.{Device, device_of, start_state, State, wants, CanStep, AllTogether, after, run, IsRun, AllEnded, write, Cell, Enabled}
use Rattle.kernel_tree.specs.Faults.{Access, access_at, Among, IsRace, failure_of, accesses_of, RacesAfter, SomeDiverges}
use Rattle.worked_kernels.specs.DeviceKernels.{one_output, one_cell, Faults, writes_first, writes_second, writes_local, writes_private, divides_by_zero, some_meet_a_barrier, swaps, to_the_barrier, increments, of_three, three_words, left_at, two_items, first_state, ends_a_turn, meets_in_loops, first_turns, meeting, met, meets_in_an_if, meets_again, guarded_without_a_bound, assigns_one, stores_it, assigns_in_an_if, one_group, guarded, guarded_start, guarded_events, waiting, waiting_start, stores_four, loads_the_third, divides_by, one_zero, loads_second_four, stores_far, of_fours, first_of_fours}

pub race : Faults writes_first 2 1 (Step 0 ∷ []) (Step 1) (Some fault.Race)
unfolding next after failure_of accesses_of
race = (((omega arith, tt), tt), (refl, (_, _, inl refl, inl refl, record { cell = refl; items = λ q. omega arith; write = inl refl; together = inl (λ q. omega arith) })))

pub out_of_range : Faults writes_second 1 1 [] (Step 0) (Some fault.OutOfRange)
unfolding next failure_of
out_of_range = (tt, refl)

pub zero_divisor : Faults divides_by_zero 1 1 [] (Step 0) (Some fault.ZeroDivisor)
unfolding next failure_of
zero_divisor = (tt, refl)

pub divergent : Faults some_meet_a_barrier 2 2 (Step 0 ∷ []) (Step 1) (Some fault.Divergent)
unfolding next after failure_of accesses_of
divergent = (
  ((omega arith, tt), tt),
  (
    refl,
    (λ r. r.2),
    (
      0,
      record {
        within = omega arith;
        stopped = stops;
        not_ended = λ h. let e = h 0 refl in cc;
        not_together = λ h. h 1 refl;
      },
    ),
  ),
)
  where
    d : Device
    d = device_of (one_output some_meet_a_barrier) (in_a_row 2 2 []) one_cell

    s : State
    s = after d (after d (start_state (one_output some_meet_a_barrier) one_cell) (Step 0)) (Step 1)

    stops : (j : ℕ) → group_of d.launch j ≡ 0 → CanStep (wants d s j) → ⊥
    stops zero q c = c
    stops (suc zero) q c = c
    stops (suc (suc j)) q c = omega arith

-- a barrier between two items

module _ (on_local on_global : Bool) where
  abbrev device : Device
  device = device_of (one_output (swaps on_local on_global)) (in_a_row 2 2 []) one_cell

  abbrev start : State
  start = start_state (one_output (swaps on_local on_global)) one_cell

  both_stand : AllTogether device (run device start (Step 0 ∷ Step 1 ∷ [])) 0
  unfolding next after
  both_stand zero q = (refl, refl, refl, refl)
  both_stand (suc zero) q = (refl, refl, refl, refl)
  both_stand (suc (suc j)) q = absurd (omega arith)

  comes_to_barrier : IsRun device start to_the_barrier
  unfolding next after
  comes_to_barrier = ((omega arith, tt), ((omega arith, tt), ((omega arith, both_stand), tt)))

only_group : (g : ℕ) → g < 1 → g ≡ 0
only_group g h = omega arith

pub ordered : Faults (swaps true false) 2 2 to_the_barrier (Step 0) None
unfolding next after failure_of accesses_of
ordered = (comes_to_barrier true false, (refl, races, diverges))
  where
    end : State
    end = run (device true false) (start true false) to_the_barrier

    races : RacesAfter (device true false) (start true false) to_the_barrier (Step 0) → ⊥
    races (a, b, in_run, in_step, r) =
        ⊎_elim
        (λ e. ⊎_elim
        (λ f. let i : 0 ≡ 1 = sym (ap (λ (x : Access). x.cell.index) f) ∙ ap (λ (c : Cell). c.index) r.cell ∙ ap (λ (x : Access). x.cell.index) e in absurd (omega arith))
        (λ f. ⊎_elim
        (λ g. ⊎_elim
        (λ n. n (ap (λ (x : Access). x.group) g ∙ sym (ap (λ (x : Access). x.group) e)))
        (λ q. let i : 0 ≡ 1 = sym (ap (λ (x : Access). x.epoch) g) ∙ q ∙ ap (λ (x : Access). x.epoch) e in absurd (omega arith))
        r.together)
        (λ g. absurd g)
        f)
        in_run)
        (λ e. absurd e)
        in_step

    diverges : SomeDiverges (device true false) (after (device true false) end (Step 0)) → ⊥
    diverges (g, v) = subst (λ h. ((j : ℕ) → group_of (device true false).launch j ≡ h → CanStep (wants (device true false) (after (device true false) end (Step 0)) j) → ⊥) → ⊥) (sym (only_group g v.within)) (λ stopped. stopped 1 refl tt) v.stopped

pub unordered : Faults (swaps false true) 2 2 to_the_barrier (Step 0) (Some fault.Race)
unfolding next after failure_of accesses_of
unordered = (comes_to_barrier false true, (refl, (_, _, inr (inl refl), inl refl, record { cell = refl; items = λ q. omega arith; write = inl refl; together = inr refl })))

-- three turns of one item

pub runs : IsRun (device_of increments of_three three_words) (start_state increments three_words) (replicate 10 (Step 0))
unfolding next after
runs = ((omega arith, tt), ((omega arith, tt), ((omega arith, tt), ((omega arith, tt), ((omega arith, tt), ((omega arith, tt), ((omega arith, tt), ((omega arith, tt), ((omega arith, tt), ((omega arith, tt), tt))))))))))

pub all_ended : AllEnded (device_of increments of_three three_words) (run (device_of increments of_three three_words) (start_state increments three_words) (replicate 10 (Step 0)))
unfolding next after write
all_ended zero h = refl
all_ended (suc k) h = absurd (omega arith)

pub first : left_at 0 ≡ 2
unfolding next after write
first = refl

pub second : left_at 1 ≡ 3
unfolding next after write
second = refl

pub third : left_at 2 ≡ 0
unfolding next after write
third = refl

-- whose an array is

pub one_group_races : Faults writes_local 2 2 (Step 0 ∷ []) (Step 1) (Some fault.Race)
unfolding next after failure_of accesses_of
one_group_races = (((omega arith, tt), tt), (refl, (_, _, inl refl, inl refl, record { cell = refl; items = λ q. omega arith; write = inl refl; together = inr refl })))

-- where both items have ended, no group diverges
two_ended : (d : Device) (s : State) → item_count d.launch ≡ 2 → IsWhole d.launch → wants d s 0 ≡ Ends → wants d s 1 ≡ Ends → SomeDiverges d s → ⊥
two_ended d s two whole p q (g, v) = v.not_ended (λ j h. ended j (subst (λ n. j < n) two (in_launch d.launch whole g j v.within h)))
  where
    ended : (j : ℕ) → j < 2 → wants d s j ≡ Ends
    ended zero h = p
    ended (suc zero) h = q
    ended (suc (suc j)) h = absurd (omega arith)

pub two_groups_apart : Faults writes_local 2 1 (Step 0 ∷ []) (Step 1) None
unfolding next after failure_of accesses_of
two_groups_apart = (((omega arith, tt), tt), (refl, races, two_ended d (after d s (Step 1)) refl (record { x = record { positive = omega arith; divides = refl }; y = record { positive = omega arith; divides = refl } }) refl refl))
  where
    d : Device
    d = device_of (one_output writes_local) (in_a_row 2 1 []) one_cell

    s : State
    s = after d (start_state (one_output writes_local) one_cell) (Step 0)

    races : RacesAfter d (start_state (one_output writes_local) one_cell) (Step 0 ∷ []) (Step 1) → ⊥
    races (a, b, in_run, in_step, r) =
        ⊎_elim
        (λ e. ⊎_elim (λ f. let i : 0 ≡ 1 = sym (ap (λ (x : Access). x.cell.home) f) ∙ ap (λ (c : Cell). c.home) r.cell ∙ ap (λ (x : Access). x.cell.home) e in absurd (omega arith)) (λ f. absurd f) in_run)
        (λ e. absurd e)
        in_step

pub private_apart : Faults writes_private 2 2 (Step 0 ∷ []) (Step 1) None
unfolding next after failure_of accesses_of
private_apart = (((omega arith, tt), tt), (refl, races, two_ended d (after d s (Step 1)) refl (record { x = record { positive = omega arith; divides = refl }; y = record { positive = omega arith; divides = refl } }) refl refl))
  where
    d : Device
    d = device_of (one_output writes_private) (in_a_row 2 2 []) one_cell

    s : State
    s = after d (start_state (one_output writes_private) one_cell) (Step 0)

    races : RacesAfter d (start_state (one_output writes_private) one_cell) (Step 0 ∷ []) (Step 1) → ⊥
    races (a, b, in_run, in_step, r) =
        ⊎_elim
        (λ e. ⊎_elim (λ f. let i : 0 ≡ 1 = sym (ap (λ (x : Access). x.cell.home) f) ∙ ap (λ (c : Cell). c.home) r.cell ∙ ap (λ (x : Access). x.cell.home) e in absurd (omega arith)) (λ f. absurd f) in_run)
        (λ e. absurd e)
        in_step

-- what is seen

pub race_seen : seen_of two_items first_state (Step 1) 0 (Some fault.Race) ≡ record { event = Step 1; access = Some (Write (record { array = held.Output 0; index = 0 })); fault = Some (record { kind = fault.Race; cell = Some (record { array = held.Output 0; index = 0 }) }) }
unfolding next
race_seen = refl

-- turns

pub goes_on : next (sizes_alone []) (ends_a_turn 4294967294) ≡ Moves (item End [] no_vars)
unfolding next
goes_on = refl

pub wraps : next (sizes_alone []) (ends_a_turn 4294967295) ≡ Fails fault.LoopWrap
unfolding next
wraps = refl

pub first_variable : loop_variables (met.items 0).frames ≡ 0 ∷ 0 ∷ []
unfolding next after
first_variable = refl

pub second_variable : loop_variables (met.items 1).frames ≡ 0 ∷ 1 ∷ []
unfolding next after
second_variable = refl

met_together : AllTogether meeting met 0
unfolding next after
met_together zero q = (refl, refl, refl, refl)
met_together (suc zero) q = (refl, refl, refl, refl)
met_together (suc (suc j)) q = absurd (omega arith)

pub same_turns : Enabled meeting met (Release 0)
same_turns = (omega arith, met_together)

pub other_turns : Faults meets_in_loops 2 2 (first_turns ++ Release 0 ∷ Step 0 ∷ Step 1 ∷ Step 1 ∷ []) (Step 1) (Some fault.Divergent)
unfolding next after failure_of accesses_of
other_turns = (
  ((omega arith, tt), ((omega arith, tt), ((omega arith, tt), ((omega arith, tt), ((omega arith, met_together), ((omega arith, tt), ((omega arith, tt), ((omega arith, tt), tt)))))))),
  (
    refl,
    (λ r. r.2),
    (
      0,
      record {
        within = omega arith;
        stopped = stops;
        not_ended = λ h. let e = h 0 refl in cc;
        not_together = λ h. let e = ap outer_turn (h 1 refl).3 in absurd (omega arith);
      },
    ),
  ),
)
  where
    s : State
    s = run meeting met (Release 0 ∷ Step 0 ∷ Step 1 ∷ Step 1 ∷ Step 1 ∷ [])

    outer_turn : List Frame → ℕ
    outer_turn (f ∷ g ∷ fs) = g.turn
    outer_turn _ = 0

    stops : (j : ℕ) → group_of meeting.launch j ≡ 0 → CanStep (wants meeting s j) → ⊥
    stops zero q c = c
    stops (suc zero) q c = c
    stops (suc (suc j)) q c = omega arith

-- ifs

pub enters : next (ids_of one_group 0) (item assigns_in_an_if [] no_vars) ≡ Moves (item (then_rest assigns_one stores_it) [] no_vars)
unfolding next
enters = refl

pub passes : next (ids_of one_group 1) (item assigns_in_an_if [] no_vars) ≡ Moves (item stores_it [] no_vars)
unfolding next
passes = refl

pub guarded_runs : IsRun guarded guarded_start guarded_events
unfolding next after
guarded_runs = ((omega arith, tt), ((omega arith, tt), ((omega arith, tt), ((omega arith, tt), ((omega arith, tt), tt)))))

pub guarded_ends : AllEnded guarded (run guarded guarded_start guarded_events)
unfolding next after write
guarded_ends zero h = refl
guarded_ends (suc zero) h = refl
guarded_ends (suc (suc k)) h = absurd (omega arith)

pub guarded_left : cells_after guarded guarded_start guarded_events (0 ∷ 1 ∷ []) ≡ 1 ∷ 0 ∷ []
unfolding next after write
guarded_left = refl

pub passed_by : Faults meets_in_an_if 2 2 (Step 0 ∷ []) (Step 1) (Some fault.Divergent)
unfolding next after failure_of accesses_of
passed_by = (
  ((omega arith, tt), tt),
  (
    refl,
    (λ r. r.2),
    (
      0,
      record {
        within = omega arith;
        stopped = stops;
        not_ended = λ h. let e = h 0 refl in cc;
        not_together = λ h. h 1 refl;
      },
    ),
  ),
)
  where
    d : Device
    d = device_of (one_output meets_in_an_if) (in_a_row 2 2 []) one_cell

    s : State
    s = after d (after d (start_state (one_output meets_in_an_if) one_cell) (Step 0)) (Step 1)

    stops : (j : ℕ) → group_of d.launch j ≡ 0 → CanStep (wants d s j) → ⊥
    stops zero q c = c
    stops (suc zero) q c = c
    stops (suc (suc j)) q c = omega arith

pub apart_in_an_if : Faults meets_again 2 2 (Step 0 ∷ []) (Step 1) (Some fault.Divergent)
unfolding next after failure_of accesses_of
apart_in_an_if = (
  ((omega arith, tt), tt),
  (
    refl,
    (λ r. r.2),
    (
      0,
      record {
        within = omega arith;
        stopped = stops;
        not_ended = λ h. let e = h 0 refl in cc;
        not_together = λ h. let e = (h 1 refl).2 in cc;
      },
    ),
  ),
)
  where
    d : Device
    d = device_of (one_output meets_again) (in_a_row 2 2 []) one_cell

    s : State
    s = after d (after d (start_state (one_output meets_again) one_cell) (Step 0)) (Step 1)

    stops : (j : ℕ) → group_of d.launch j ≡ 0 → CanStep (wants d s j) → ⊥
    stops zero q c = c
    stops (suc zero) q c = c
    stops (suc (suc j)) q c = omega arith

pub guarded_zero_divisor : Faults guarded_without_a_bound 1 1 [] (Step 0) (Some fault.ZeroDivisor)
unfolding next failure_of
guarded_zero_divisor = (tt, refl)

-- two rows of two groups at a barrier

pub in_order_of_groups : AreEnabled waiting waiting_start (Release 0 ∷ Release 1 ∷ Release 2 ∷ Release 3 ∷ [])
unfolding next
in_order_of_groups = record { enabled = enabled; all = all; ordered = search (rules, arith) }
  where
    group : (g : ℕ) → g < 4 → Enabled waiting waiting_start (Release g)
    group g lt = (lt, λ j q. (refl, refl, refl, refl))

    enabled : (e : Event) → Among e (Release 0 ∷ Release 1 ∷ Release 2 ∷ Release 3 ∷ []) → Enabled waiting waiting_start e
    enabled e m = among_every (Enabled waiting waiting_start) (Release 0 ∷ Release 1 ∷ Release 2 ∷ Release 3 ∷ []) (group 0 (omega arith), (group 1 (omega arith), (group 2 (omega arith), (group 3 (omega arith), tt)))) e m

    all : (e : Event) → Enabled waiting waiting_start e → Among e (Release 0 ∷ Release 1 ∷ Release 2 ∷ Release 3 ∷ [])
    all (Step k) en = absurd en.1
    all (Release zero) en = inl refl
    all (Release (suc zero)) en = inr (inl refl)
    all (Release (suc (suc zero))) en = inr (inr (inl refl))
    all (Release (suc (suc (suc zero)))) en = inr (inr (inr (inl refl)))
    all (Release (suc (suc (suc (suc g))))) en = let lt = en.0 in absurd (omega arith)

-- fours

abbrev fourth : Cell
fourth = record { array = Output 0; home = 0; index = 4 }

abbrev sixth : Cell
sixth = record { array = Output 0; home = 0; index = 6 }

abbrev read : Access
read = access_at 0 0 sixth false (λ f. 0)

abbrev third_of_four : Access
third_of_four = access_at 1 1 sixth true (λ f. 0)

by_two_items : (c : Cell) (v w : Bool) → (v ≡ true) ⊎ (w ≡ true) → IsRace (access_at 0 0 c v (λ f. 0)) (access_at 1 1 c w (λ f. 0))
by_two_items c v w h = record { cell = refl; items = λ q. omega arith; write = h; together = inl (λ q. omega arith) }

pub least_race : IsSeen (of_fours stores_four 8) (first_of_fours stores_four 8) (Step 0 ∷ []) (Step 1) (record { event = Step 1; access = Some (WriteFour (record { array = held.Output 0; index = 4 })); fault = Some (record { kind = fault.Race; cell = Some (record { array = held.Output 0; index = 4 }) }) })
unfolding next after failure_of accesses_of
least_race = record {
  kind = Some fault.Race;
  fault = (refl, (access_at 0 0 fourth true (λ f. 0), access_at 1 1 fourth true (λ f. 0), inl refl, inl refl, by_two_items fourth true true (inl refl)));
  lane = 0;
  in_lane = ((access_at 0 0 fourth true (λ f. 0), access_at 1 1 fourth true (λ f. 0), inl refl, refl, by_two_items fourth true true (inl refl)), λ n lt. absurd (omega arith));
  is = refl;
}

pub third_race : IsSeen (of_fours loads_the_third 8) (first_of_fours loads_the_third 8) (Step 0 ∷ Step 0 ∷ Step 1 ∷ []) (Step 1) (record { event = Step 1; access = Some (WriteFour (record { array = held.Output 0; index = 4 })); fault = Some (record { kind = fault.Race; cell = Some (record { array = held.Output 0; index = 6 }) }) })
unfolding next after failure_of accesses_of
third_race = record {
  kind = Some fault.Race;
  fault = (refl, (read, third_of_four, inl refl, inr (inr (inl refl)), by_two_items sixth false true (inr refl)));
  lane = 2;
  in_lane = ((read, third_of_four, inl refl, refl, by_two_items sixth false true (inr refl)), earlier);
  is = refl;
}
  where
    some_same : (x y : Access) → Some x ≡ Some y → x ≡ y
    some_same x y e = cc

    -- the other lanes' cells were not accessed before
    at_six : (a : Access) → Among a (read ∷ []) → a.cell.index ≡ 6
    at_six a h = ⊎_elim (λ e. ap (λ (x : Access). x.cell.index) e) (λ z. absurd z) h

    earlier : (n : ℕ) → n < 2 → RacesIn (of_fours loads_the_third 8) (first_of_fours loads_the_third 8) (Step 0 ∷ Step 0 ∷ Step 1 ∷ []) (Step 1) n → ⊥
    earlier zero lt (a, b, m, e, r) =
        let at : 6 ≡ 4 = sym (at_six a m) ∙ ap (λ (c : Cell). c.index) r.cell ∙ ap (λ (x : Access). x.cell.index) (some_same _ _ (sym e)) in
        absurd (omega (arith, at))
    earlier (suc zero) lt (a, b, m, e, r) =
        let at : 6 ≡ 5 = sym (at_six a m) ∙ ap (λ (c : Cell). c.index) r.cell ∙ ap (λ (x : Access). x.cell.index) (some_same _ _ (sym e)) in
        absurd (omega (arith, at))
    earlier (suc (suc n)) lt r = absurd (omega arith)

pub last_outside : failure_of (of_fours loads_second_four 7) (first_of_fours loads_second_four 7) (Step 0) ≡ Some fault.OutOfRange
unfolding next failure_of
last_outside = refl

pub inside_fours : failure_of (of_fours loads_second_four 8) (first_of_fours loads_second_four 8) (Step 0) ≡ None
unfolding next failure_of
inside_fours = refl

pub far : failure_of (of_fours stores_far 4) (first_of_fours stores_far 4) (Step 0) ≡ Some fault.OutOfRange
unfolding next failure_of
far = refl

pub zero_lane : next (sizes_alone []) (divides_by one_zero) ≡ Fails fault.ZeroDivisor
unfolding next
zero_lane = refl
