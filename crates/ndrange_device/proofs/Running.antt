-- A run along a schedule, event by event.
use Rattle.std.proofs.Common.{◌≡◌, ℕ, zero, suc, ◌+◌, ◌%◌, ◌≤◌, List, [], ◌∷◌, ◌++◌, length, Option, Some, None, refl, sym, ap, ◌∙◌, subst, ⊎_elim, inl, inr, arith, ◌⊎◌, length-append, append_assoc, append-nil}
use Rattle.std.specs.Prelude.{replicate, slice_get, option_map, Ok, Err}
use Rattle.std.proofs.lemmas.List.{length-replicate}
use Rattle.kernel_tree.specs.declared.events.Event.{Event}
use Rattle.kernel_tree.specs.declared.events.Event.TheVariants.{Step, Release}
use Rattle.kernel_tree.specs.declared.events.FaultKind.{FaultKind}
use Rattle.kernel_tree.specs.declared.events.FaultKind.TheVariants.{Race, OutOfRange, ZeroDivisor, Divergent, LoopWrap}
use Rattle.kernel_tree.specs.declared.events.Fault.{Fault}
use Rattle.kernel_tree.specs.declared.events.Seen.{Seen}
use Rattle.kernel_tree.specs.Formula.{spread}
use Rattle.kernel_tree.specs.Code.{Kernel}
use Rattle.kernel_tree.specs.Launch.{Launch, Cells}
use Rattle.kernel_tree.specs.Item.{Wants}
use Rattle.kernel_tree.specs.Device.{Device, State, device_of, start_state, wants, Enabled, after, run, IsStart, IsStuck}
use Rattle.kernel_tree.specs.Bound.{bound}
use Rattle.kernel_tree.specs.Faults.{Access, Among, accesses_of, accesses, IsRace, SomeDiverges, FaultIs, NoDivergence, IsFaultless, Run}
use Rattle.kernel_tree.specs.Schedule.{Schedule, number_at, AreEnabled, Chooses, Follows, ScheduledRun}
use Rattle.kernel_tree.specs.Seen.{IsSeen, LaneIs, seen_of, fault_of}
use Rattle.kernel_tree.proofs.Accessed.{of_one_event}
use Rattle.kernel_tree.proofs.Bound.{within_bound}
use Rattle.kernel_tree.proofs.EveryRun.{no_failure-append, accesses-append}
use Rattle.ndrange_machine.specs.declared.machine.Machine.{Machine}
use Rattle.ndrange_machine.specs.Stands.{StandsFor, CountsEnabled, enabled_count, AreOutputs, state_after}
use Rattle.ndrange_machine.specs.Takes.{Advanced, HasFault, Took}
use Rattle.ndrange_device.specs.declared.outcome.DeviceNo.TheVariants as no
use Rattle.ndrange_device.specs.declared.outcome.FaultFound.{FaultFound}
use Rattle.ndrange_device.specs.declared.progress.Progress.{Progress}
use Rattle.ndrange_device.specs.declared.outcome.Outcome.{Outcome}
use Rattle.ndrange_device.specs.Outcomes.{capped, sights, EndsUnder, FaultsAfter, FaultsUnder, Gets, Sees, SeesFront}
use Rattle.ndrange_device.specs.Progress.{HasCome, found_of}
use Rattle.ndrange_device.proofs.Counting.{length_push}

-- after some events of the run under the schedule, none of them a fault
pub record RunsAlong (schedule : Schedule) (k : Kernel) (l : Launch) (c : Cells) (m : Machine) (p : Progress) (steps many : ℕ) : Type 0 where
  pub events : List Event
  pub stands : StandsFor k l c m events
  pub faultless : IsFaultless (device_of k l c) (start_state k c) events
  pub follows : Follows schedule 0 (device_of k l c) (start_state k c) events
  pub come : HasCome schedule events p
  pub counted : steps ≡ length events
  pub enabled : CountsEnabled (device_of k l c) (state_after k l c events) many
  pub told : many ≡ enabled_count m

-- and what is seen of each of them is noted behind the old list
pub record NotesAlong (schedule : Schedule) (k : Kernel) (l : Launch) (c : Cells) (m : Machine) (p : Progress) (steps many : ℕ) (old new : List Seen) : Type 0 where
  pub along : RunsAlong schedule k l c m p steps many
  pub noted : new ≡ old ++ sights (device_of k l c) (start_state k c) along.events

-- the event after these is the fault that is found, in this lane
pub record FaultsHere (schedule : Schedule) (k : Kernel) (l : Launch) (c : Cells) (front : List Event) (e : Event) (kind : Option FaultKind) (lane : ℕ) (f : FaultFound) : Type 0 where
  pub at : e ≡ Step f.item
  pub kind_is : kind ≡ Some f.kind
  pub faults : FaultsAfter schedule k l c front f.item f.kind lane
  pub number : f.event ≡ capped (suc (length front))
  pub cell : f.cell ≡ (fault_of (wants (device_of k l c) (state_after k l c front) f.item) lane f.kind).cell

-- what is found of a step with this fault
abbrev found_with : (event item : ℕ) → Fault → FaultFound
found_with event item f = record { kind = f.kind; event = event; item = item; cell = f.cell }

among_place : (all : List Event) (i : ℕ) (e : Event) → slice_get all i ≡ Some e → Among e all
among_place [] zero e h = cc
among_place [] (suc i) e h = cc
among_place (x ∷ xs) zero e h = inl (let q : Some x ≡ Some e = h in cc)
among_place (x ∷ xs) (suc i) e h = inr (among_place xs i e h)

follows_on : (schedule : Schedule) (n : ℕ) (d : Device) (s : State) (es : List Event) (e : Event) → Follows schedule n d s es → Chooses schedule (n + length es) d (run d s es) e → Follows schedule n d s (es ++ e ∷ [])
follows_on schedule n d s [] e f c = let q : n + 0 ≡ n = omega arith in (subst (λ m. Chooses schedule m d s e) q c, tt)
follows_on schedule n d s (x ∷ es) e f c =
    let q : n + suc (length es) ≡ suc n + length es = omega arith in
    (f.0, follows_on schedule (suc n) d (after d s x) es e f.1 (subst (λ m. Chooses schedule m d (run d (after d s x) es) e) q c))

-- one more event that is no fault
among-append : {A : Type 0} (x : A) (xs ys : List A) → Among x (xs ++ ys) → Among x xs ⊎ Among x ys
among-append x [] ys h = inr h
among-append x (y ∷ xs) ys h = ⊎_elim (λ e. inl (inl e)) (λ r. ⊎_elim (λ a. inl (inr a)) (λ b. inr b) (among-append x xs ys r)) h

other_way : (a b : Access) → IsRace a b → IsRace b a
other_way a b r = record {
  cell = sym r.cell;
  items = λ e. r.items (sym e);
  write = ⊎_elim (λ w. inr w) (λ w. inl w) r.write;
  together = ⊎_elim (λ n. inl (λ e. n (sym e))) (λ e. inr (sym e)) r.together;
}

-- one more event is seen
sights_push : (d : Device) (s : State) (es : List Event) (e : Event) → sights d s (es ++ e ∷ []) ≡ sights d s es ++ seen_of d (run d s es) e 0 None ∷ []
sights_push d s [] e = refl
sights_push d s (x ∷ es) e = ap (λ xs. seen_of d s x 0 None ∷ xs) (sights_push d (after d s x) es e)

-- it is noted behind the others
noted_on : (old before new front : List Seen) (seen : Seen) → before ≡ old ++ front → new ≡ before ++ seen ∷ [] → new ≡ old ++ (front ++ seen ∷ [])
noted_on old before new front seen b n = n ∙ ap (λ (xs : List Seen). xs ++ seen ∷ []) b ∙ append_assoc old front (seen ∷ [])

shows_fault : (d : Device) (s : State) (kind : FaultKind) (lane : ℕ) (x : Event) → (seen_of d s x lane (Some kind)).fault ≡ None → ⊥
shows_fault d s kind lane (Step j) r = cc
shows_fault d s kind lane (Release g) r = cc

module _ (d : Device) where
  no_divergence-append : (s : State) (es : List Event) (e : Event) → NoDivergence d s es → (SomeDiverges d (after d (run d s es) e) → ⊥) → NoDivergence d s (es ++ e ∷ [])
  no_divergence-append s [] e h q = (q, tt)
  no_divergence-append s (x ∷ es) e h q = (h.0, no_divergence-append (after d s x) es e h.1 q)

  faultless_on : (s : State) (es : List Event) (e : Event) → IsFaultless d s es → FaultIs d s es e None → IsFaultless d s (es ++ e ∷ [])
  faultless_on s es e h f = record {
    no_failure = no_failure-append d s es (e ∷ []) h.no_failure (f.0, tt);
    no_race = λ a b x y r. ⊎_elim
        (λ p. ⊎_elim (λ q. h.no_race a b p q r) (λ q. f.1 (a, b, p, q, r)) (split b y))
        (λ p. ⊎_elim (λ q. f.1 (b, a, q, p, other_way a b r)) (λ q. r.items (of_one_event d (run d s es) e a b p q).item) (split b y))
        (split a x);
    no_divergence = no_divergence-append s es e h.no_divergence f.2;
  }
    where
      split : (a : Access) → Among a (accesses d s (es ++ e ∷ [])) → Among a (accesses d s es) ⊎ Among a (accesses_of d (run d s es) e)
      split a x =
          ⊎_elim (λ p. inl p) (λ p. ⊎_elim (λ q. inr q) (λ q. absurd q) (among-append a (accesses_of d (run d s es) e) [] p))
          (among-append a (accesses d s es) (accesses d (run d s es) (e ∷ [])) (subst (Among a) (accesses-append d s es (e ∷ [])) x))

  -- an event without a fault is seen as such
  seen_clean : (s : State) (es : List Event) (e : Event) (seen : Seen) → IsSeen d s es e seen → seen.fault ≡ None → seen ≡ seen_of d (run d s es) e 0 None
  seen_clean s es e seen t none = by_kind t.kind t.lane t.in_lane t.is
    where
      by_kind : (kind : Option FaultKind) (lane : ℕ) → LaneIs d s es e kind lane → seen ≡ seen_of d (run d s es) e lane kind → seen ≡ seen_of d (run d s es) e 0 None
      by_kind None lane at is = is ∙ ap (λ n. seen_of d (run d s es) e n None) at
      by_kind (Some kind) lane at is = absurd (shows_fault d (run d s es) kind lane e (ap (λ z. z.fault) (sym is) ∙ none))

  -- and what is seen of an event tells its fault
  pub fault_seen : (s : State) (es : List Event) (e : Event) (seen : Seen) → IsSeen d s es e seen → HasFault d s es e seen.fault
  fault_seen s es e seen t = record { kind = t.kind; is = t.fault; lane = t.lane; in_lane = t.in_lane; told = ap (λ z. z.fault) t.is }

starts : (k : Kernel) (l : Launch) (c : Cells) → IsStart k l c (start_state k c)
starts k l c = record {
  vars = λ j. record { words = replicate k.variables c.rest; vectors = replicate k.vectors (spread c.rest) };
  long = λ j lt. length-replicate k.variables c.rest;
  wide = λ j lt. length-replicate k.vectors (spread c.rest);
  items = λ j lt. refl;
  inputs = λ a i lt. refl;
  epochs = λ g f. refl;
}

none_is_faultless : (d : Device) (s : State) → IsFaultless d s []
none_is_faultless d s = record { no_failure = tt; no_race = λ a b x y r. x; no_divergence = tt }

none_is_run : (d : Device) (s : State) → Run d s []
none_is_run d s = record { enabled = tt; none_after_fault = λ front last e. absurd (no_last front last e) }
  where
    no_last : (front : List Event) (last : Event) → [] ≡ front ++ last ∷ [] → ⊥
    no_last [] last e = cc
    no_last (x ∷ front) last e = cc

module _ (schedule : Schedule) (k : Kernel) (l : Launch) (c : Cells) where
  -- no event is seen before the start
  pub sees_none : (old new : List Seen) → new ≡ old → Gets (SeesFront schedule k l c) old new
  sees_none old new same =
      ([], same ∙ sym (append-nil old), record { front = []; is_run = none_is_run (device_of k l c) (start_state k c); faultless = none_is_faultless (device_of k l c) (start_state k c); follows = tt; sights = refl })

  -- the start
  pub runs_none : (m : Machine) (p : Progress) (steps enabled : ℕ) → StandsFor k l c m [] → HasCome schedule [] p → steps ≡ 0 → CountsEnabled (device_of k l c) (state_after k l c []) enabled → enabled ≡ enabled_count m → RunsAlong schedule k l c m p steps enabled
  runs_none m p steps enabled st come counted counts told = record {
    events = [];
    stands = st;
    faultless = none_is_faultless (device_of k l c) (start_state k c);
    follows = tt;
    come = come;
    counted = counted;
    enabled = counts;
    told = told;
  }

  pub notes_none : (m : Machine) (p : Progress) (steps enabled : ℕ) (old new : List Seen) → StandsFor k l c m [] → HasCome schedule [] p → steps ≡ 0 → CountsEnabled (device_of k l c) (state_after k l c []) enabled → enabled ≡ enabled_count m → new ≡ old → NotesAlong schedule k l c m p steps enabled old new
  unfolding runs_none
  notes_none m p steps enabled old new st come counted counts told same = record { along = runs_none m p steps enabled st come counted counts told; noted = same ∙ sym (append-nil old) }

  -- what is noted so far
  pub sees_front : (m : Machine) (p : Progress) (steps enabled : ℕ) (old before new : List Seen) → NotesAlong schedule k l c m p steps enabled old before → new ≡ before → Gets (SeesFront schedule k l c) old new
  sees_front m p steps enabled old before new h same =
      (sights (device_of k l c) (start_state k c) h.along.events, same ∙ h.noted, record { front = h.along.events; is_run = h.along.stands.is_run; faultless = h.along.faultless; follows = h.along.follows; sights = refl })

  -- no more events than the text allows
  pub few_events : (m : Machine) (p : Progress) (steps enabled : ℕ) → RunsAlong schedule k l c m p steps enabled → steps ≤ bound k l
  few_events m p steps enabled h =
      let low = within_bound k l c (start_state k c) h.events h.stands.holds.whole (starts k l c) h.stands.is_run.enabled h.faultless.no_failure in
      let n = h.counted in
      omega arith

  -- the enabled event that is taken, by the schedule's number
  pub nth_within : (m : Machine) (number enabled i : ℕ) (e : Event) → i ≡ number % enabled → ((es all : List Event) → StandsFor k l c m es → AreEnabled (device_of k l c) (state_after k l c es) all → slice_get all i ≡ Some e)
      → (es all : List Event) → StandsFor k l c m es → AreEnabled (device_of k l c) (state_after k l c es) all → slice_get all (number % enabled) ≡ Some e
  nth_within m number enabled i e is nth es all stands are = ap (slice_get all) (sym is) ∙ nth es all stands are

  module _ (m : Machine) (p : Progress) (steps enabled number : ℕ) (h : RunsAlong schedule k l c m p steps enabled) (number_is : number ≡ number_at schedule (length h.events)) (e : Event)
      (nth : (es all : List Event) → StandsFor k l c m es → AreEnabled (device_of k l c) (state_after k l c es) all → slice_get all (number % enabled) ≡ Some e) where
    chosen : slice_get h.enabled.0 (number % enabled) ≡ Some e
    chosen = nth h.events h.enabled.0 h.stands h.enabled.1

    chooses : Chooses schedule (length h.events) (device_of k l c) (state_after k l c h.events) e
    chooses = (h.enabled.0, h.enabled.1, ap (slice_get h.enabled.0) (ap (λ n. n % length h.enabled.0) (sym number_is) ∙ ap (λ n. number % n) (sym h.enabled.2)) ∙ chosen)

    pub is_enabled : Enabled (device_of k l c) (state_after k l c h.events) e
    is_enabled = h.enabled.1.enabled e (among_place h.enabled.0 (number % enabled) e chosen)

    follows_e : Follows schedule 0 (device_of k l c) (start_state k c) (h.events ++ e ∷ [])
    follows_e = follows_on schedule 0 (device_of k l c) (start_state k c) h.events e h.follows (let q : length h.events ≡ 0 + length h.events = omega arith in subst (λ i. Chooses schedule i (device_of k l c) (state_after k l c h.events) e) q chooses)

    module _ (n : Machine) (fault : Option Fault) (took : Advanced k l c h.events e n fault) (release : (g : ℕ) → e ≡ Release g → fault ≡ None) (q : Progress) (came : (schedule : Schedule) (es : List Event) → HasCome schedule es p → HasCome schedule (es ++ e ∷ []) q) where
      none_mapped : (j : ℕ) (o : Option Fault) → option_map (found_with q.events j) o ≡ None → o ≡ None
      none_mapped j None r = refl
      none_mapped j (Some f) r = cc

      -- where none is found there is none
      pub clean : found_of e fault q.events ≡ None → fault ≡ None
      clean ok = by_event e refl
        where
          by_event : (x : Event) → e ≡ x → fault ≡ None
          by_event (Step j) is = none_mapped j fault (ap (λ z. found_of z fault q.events) (sym is) ∙ ok)
          by_event (Release g) is = release g is

      passed : found_of e fault q.events ≡ None → FaultIs (device_of k l c) (start_state k c) h.events e None
      passed ok = by_kind took.tells.kind took.tells.is took.tells.told
        where
          by_kind : (kind : Option FaultKind) → FaultIs (device_of k l c) (start_state k c) h.events e kind → fault ≡ (seen_of (device_of k l c) (state_after k l c h.events) e took.tells.lane kind).fault → FaultIs (device_of k l c) (start_state k c) h.events e None
          by_kind None f is = f
          by_kind (Some kind) f is = absurd (shows_fault (device_of k l c) (state_after k l c h.events) kind took.tells.lane e (sym is ∙ clean ok))

      -- one event more
      pub runs_on : (more : ℕ) → found_of e fault q.events ≡ None → ((es : List Event) → StandsFor k l c n es → CountsEnabled (device_of k l c) (state_after k l c es) more) → more ≡ enabled_count n → RunsAlong schedule k l c n q (steps + 1) more
      runs_on more ok counts told = record {
        events = h.events ++ e ∷ [];
        stands = took.stands;
        faultless = faultless_on (device_of k l c) (start_state k c) h.events e h.faultless (passed ok);
        follows = follows_e;
        come = came schedule h.events h.come;
        counted = (let a = h.counted in let b = length-append h.events (e ∷ []) in omega arith);
        enabled = counts (h.events ++ e ∷ []) took.stands;
        told = told;
      }

      -- a fault
      same_kind : (w : Wants) (lane : ℕ) (kind : FaultKind) → (fault_of w lane kind).kind ≡ kind
      same_kind w lane Race = refl
      same_kind w lane OutOfRange = refl
      same_kind w lane ZeroDivisor = refl
      same_kind w lane Divergent = refl
      same_kind w lane LoopWrap = refl

      faults_at : (j lane : ℕ) → e ≡ Step j → (kind : FaultKind) → FaultIs (device_of k l c) (start_state k c) h.events e (Some kind) → LaneIs (device_of k l c) (start_state k c) h.events e (Some kind) lane → FaultsAfter schedule k l c h.events j kind lane
      faults_at j lane at kind f in_lane = record {
        scheduled = subst (λ x. ScheduledRun schedule (device_of k l c) (start_state k c) (h.events ++ x ∷ [])) at (record { is_run = took.stands.is_run; follows = follows_e; over = inr (h.events, e, kind, refl, f) });
        fault = subst (λ x. FaultIs (device_of k l c) (start_state k c) h.events x (Some kind)) at f;
        in_lane = subst (λ x. LaneIs (device_of k l c) (start_state k c) h.events x (Some kind) lane) at in_lane;
      }

      pub faults_here : (f : FaultFound) → found_of e fault q.events ≡ Some f → FaultsHere schedule k l c h.events e took.tells.kind took.tells.lane f
      faults_here f is = by_event e refl
        where
          lane : ℕ
          lane = took.tells.lane

          at_item : (j : ℕ) → e ≡ Step j → option_map (found_with q.events j) fault ≡ Some f
          at_item j at = sym (ap (λ z. found_of z fault q.events) at) ∙ is

          by_kind : (j : ℕ) → e ≡ Step j → (kind : Option FaultKind) → FaultIs (device_of k l c) (start_state k c) h.events e kind → LaneIs (device_of k l c) (start_state k c) h.events e kind took.tells.lane → fault ≡ (seen_of (device_of k l c) (state_after k l c h.events) e took.tells.lane kind).fault → FaultsHere schedule k l c h.events e kind took.tells.lane f
          by_kind j at None fi la told =
              let fault_is : fault ≡ None = told ∙ ap (λ x. (seen_of (device_of k l c) (state_after k l c h.events) x took.tells.lane None).fault) at in
              let both : None ≡ Some f = ap (option_map (found_with q.events j)) (sym fault_is) ∙ at_item j at in
              cc
          by_kind j at (Some kind) fi la told =
              let w = wants (device_of k l c) (state_after k l c h.events) j in
              let fault_is : fault ≡ Some (fault_of w took.tells.lane kind) = told ∙ ap (λ x. (seen_of (device_of k l c) (state_after k l c h.events) x took.tells.lane (Some kind)).fault) at in
              let both : Some (found_with q.events j (fault_of w took.tells.lane kind)) ≡ Some f = ap (option_map (found_with q.events j)) (sym fault_is) ∙ at_item j at in
              let one : found_with q.events j (fault_of w took.tells.lane kind) ≡ f = cc in
              let of_kind : FaultKind → FaultFound = λ z. record { kind = z; event = q.events; item = j; cell = (fault_of w took.tells.lane kind).cell } in
              subst (FaultsHere schedule k l c h.events e (Some kind) took.tells.lane) (ap of_kind (sym (same_kind w took.tells.lane kind)) ∙ one)
              (record { at = at; kind_is = refl; faults = faults_at j took.tells.lane at kind fi la; number = (came schedule h.events h.come).events ∙ ap capped (length_push h.events e); cell = refl })

          by_event : (x : Event) → e ≡ x → FaultsHere schedule k l c h.events e took.tells.kind took.tells.lane f
          by_event (Release g) at = let both : None ≡ Some f = sym (ap (λ z. found_of z fault q.events) at) ∙ is in cc
          by_event (Step j) at = by_kind j at took.tells.kind took.tells.is took.tells.in_lane took.tells.told

      pub faults_under : (f : FaultFound) → found_of e fault q.events ≡ Some f → FaultsUnder schedule k l c f.kind f.event f.item f.cell
      faults_under f is =
          let here = faults_here f is in
          record { front = h.events; lane = took.tells.lane; faults = here.faults; number = here.number; seen = here.cell }

    -- the same of a run that notes what is seen
    module _ (n : Machine) (seen : Seen) (took : Took k l c h.events e n seen) (release : (g : ℕ) → e ≡ Release g → seen.fault ≡ None) (q : Progress) (came : (schedule : Schedule) (es : List Event) → HasCome schedule es p → HasCome schedule (es ++ e ∷ []) q)
        (old before new : List Seen) (noted : before ≡ old ++ sights (device_of k l c) (start_state k c) h.events) (pushed : new ≡ before ++ seen ∷ []) where
      pub advanced : Advanced k l c h.events e n seen.fault
      advanced = record { stands = took.stands; tells = fault_seen (device_of k l c) (start_state k c) h.events e seen took.tells }

      pub notes_on : (more : ℕ) → found_of e seen.fault q.events ≡ None → ((es : List Event) → StandsFor k l c n es → CountsEnabled (device_of k l c) (state_after k l c es) more) → more ≡ enabled_count n → NotesAlong schedule k l c n q (steps + 1) more old new
      unfolding runs_on
      notes_on more ok counts told = record {
        along = runs_on n seen.fault advanced release q came more ok counts told;
        noted = noted_on old before new _ seen noted pushed
            ∙ ap (λ (xs : List Seen). old ++ xs) (ap (λ (x : Seen). sights (device_of k l c) (start_state k c) h.events ++ x ∷ []) (seen_clean (device_of k l c) (start_state k c) h.events e seen took.tells (clean n seen.fault advanced release q came ok))
            ∙ sym (sights_push (device_of k l c) (start_state k c) h.events e));
      }

      pub sees_fault : (f : FaultFound) → found_of e seen.fault q.events ≡ Some f → Gets (Sees schedule k l c (Err (no.Fault f.kind f.event f.item f.cell))) old new
      unfolding advanced fault_seen
      sees_fault f is =
          let here = faults_here n seen.fault advanced release q came f is in
          let shown : seen ≡ seen_of (device_of k l c) (state_after k l c h.events) (Step f.item) took.tells.lane (Some f.kind) = took.tells.is ∙ ap (λ x. seen_of (device_of k l c) (state_after k l c h.events) x took.tells.lane took.tells.kind) here.at ∙ ap (seen_of (device_of k l c) (state_after k l c h.events) (Step f.item) took.tells.lane) here.kind_is in (
            sights (device_of k l c) (start_state k c) h.events ++ seen ∷ [],
            noted_on old before new _ seen noted pushed,
            record {
              front = h.events;
              lane = took.tells.lane;
              faults = here.faults;
              sights = ap (λ (x : Seen). sights (device_of k l c) (start_state k c) h.events ++ x ∷ []) shown;
            },
          )

  -- the end
  over_so : (m : Machine) (p : Progress) (steps enabled : ℕ) (h : RunsAlong schedule k l c m p steps enabled) → enabled ≤ 0 → IsStuck (device_of k l c) (state_after k l c h.events)
  over_so m p steps enabled h none e en = empty h.enabled.0 (let n = h.enabled.2 in omega arith) e (h.enabled.1.all e en)
    where
      empty : (all : List Event) → 0 ≡ length all → (e : Event) → Among e all → ⊥
      empty [] q e a = a
      empty (x ∷ all) q e a = omega arith

  scheduled_so : (m : Machine) (p : Progress) (steps enabled : ℕ) (h : RunsAlong schedule k l c m p steps enabled) → enabled ≤ 0 → ScheduledRun schedule (device_of k l c) (start_state k c) h.events
  scheduled_so m p steps enabled h none = record { is_run = h.stands.is_run; follows = h.follows; over = inl (over_so m p steps enabled h none) }

  pub ends_under : (m : Machine) (p : Progress) (steps enabled : ℕ) (outputs : List (List ℕ)) → RunsAlong schedule k l c m p steps enabled → enabled ≤ 0 → ((es : List Event) → StandsFor k l c m es → AreOutputs k l c (state_after k l c es) outputs) → EndsUnder schedule k l c outputs p.events p.releases
  ends_under m p steps enabled outputs h none outs = record {
    run = h.events;
    scheduled = scheduled_so m p steps enabled h none;
    faultless = h.faultless;
    over = over_so m p steps enabled h none;
    counted = h.come.events;
    released = h.come.releases;
    left = outs h.events h.stands;
  }

  pub sees_run : (m : Machine) (p : Progress) (steps enabled : ℕ) (outcome : Outcome) (old new : List Seen) → NotesAlong schedule k l c m p steps enabled old new → enabled ≤ 0 → Gets (Sees schedule k l c (Ok outcome)) old new
  sees_run m p steps enabled outcome old new h none = (
    sights (device_of k l c) (start_state k c) h.along.events,
    h.noted,
    record {
      run = h.along.events;
      scheduled = scheduled_so m p steps enabled h.along none;
      sights = refl;
    },
  )
