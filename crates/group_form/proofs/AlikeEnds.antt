-- Where runs are bounded, and the items of a group meet in each, some run comes to where no event
-- is enabled.
use Rattle.std.proofs.Common.{◌≡◌, ℕ, zero, suc, ◌+◌, ◌<◌, ◌≤◌, ◌⊎◌, List, [], ◌∷◌, ◌++◌, length, sym, ◌∙◌, subst, ⊎_elim, inl, inr, arith}
use Rattle.std.proofs.lemmas.Bool.{cases_eq, cases_lt}
use Rattle.std.proofs.lemmas.List.{length-append}
use Rattle.kernel_tree.specs.declared.events.Event.{Event}
use Rattle.kernel_tree.specs.declared.events.Event.TheVariants.{Step, Release}
use Rattle.kernel_tree.specs.Launch.{IsWhole, item_count, group_count, group_of, first_item}
use Rattle.kernel_tree.specs.Item.{Wants, Ends, Waits, Moves, Reads, Writes, ReadsFour, WritesFour, Fails}
use Rattle.kernel_tree.specs.Device.{Device, State, wants, CanStep, AllTogether, Enabled, run, IsRun, IsStuck}
use Rattle.kernel_tree.specs.Meets.{IsWaiting, MeetTogether}
use Rattle.kernel_tree.proofs.EveryRun.{is_run-append}
use Rattle.kernel_tree.proofs.Grouping.{first_of_group, first_in_launch, in_launch}
use Rattle.printed_form.proofs.SameRuns.{waits_too}

abbrev Decided : Type 0 → Type 0
Decided P = P ⊎ (P → ⊥)

can_step : (w : Wants) → Decided (CanStep w)
can_step Ends = inr (λ h. h)
can_step (Waits a b x) = inr (λ h. h)
can_step (Moves x) = inl tt
can_step (Reads a n f) = inl tt
can_step (Writes a n v x) = inl tt
can_step (ReadsFour a n f) = inl tt
can_step (WritesFour a n u x) = inl tt
can_step (Fails f) = inl tt

is_waiting : (w : Wants) → Decided (IsWaiting w)
is_waiting (Waits a b x) = inl tt
is_waiting Ends = inr (λ h. h)
is_waiting (Moves x) = inr (λ h. h)
is_waiting (Reads a n f) = inr (λ h. h)
is_waiting (Writes a n v x) = inr (λ h. h)
is_waiting (ReadsFour a n f) = inr (λ h. h)
is_waiting (WritesFour a n u x) = inr (λ h. h)
is_waiting (Fails f) = inr (λ h. h)

-- one of the first n has the property, or none has
some_below : (P : ℕ → Type 0) → ((i : ℕ) → Decided (P i)) → (n : ℕ) → ((i : ℕ) × (i < n) × P i) ⊎ ((i : ℕ) → i < n → P i → ⊥)
some_below P decided zero = inr (λ i lt h. absurd (omega (arith, lt)))
some_below P decided (suc n) =
    ⊎_elim
    (λ one. let lt = one.1 in inl (one.0, omega (arith, lt), one.2))
    (λ none.
    ⊎_elim
    (λ last. inl (n, omega arith, last))
    (λ not. inr (λ i lt h.
    ⊎_elim
    (λ below. none i below h)
    (λ above. let e : i ≡ n = omega (arith, lt, above) in not (subst P e h))
    (cases_lt i n)))
    (decided n))
    (some_below P decided n)

module _ (d : Device) (whole : IsWhole d.launch) where
  -- an item of the group that doesn't wait
  abbrev Hinders : State → ℕ → ℕ → Type 0
  Hinders s g j = (group_of d.launch j ≡ g) × (IsWaiting (wants d s j) → ⊥)

  hinders : (s : State) (g j : ℕ) → Decided (Hinders s g j)
  hinders s g j =
      ⊎_elim
      (λ of. ⊎_elim (λ w. inr (λ h. h.1 w)) (λ not. inl (of, not)) (is_waiting (wants d s j)))
      (λ not. inr (λ h. not h.0))
      (cases_eq (group_of d.launch j) g)

  all_together : (s : State) (g : ℕ) → g < group_count d.launch → MeetTogether d s → Decided (AllTogether d s g)
  all_together s g lt meet = ⊎_elim (λ one. inr (λ all. one.2.1 (waits_too (wants d s (first_item d.launch g)) (wants d s one.0) (all one.0 one.2.0)))) (λ none. inl (together none)) (some_below (Hinders s g) (hinders s g) (item_count d.launch))
    where
      first : first_item d.launch g < item_count d.launch
      first = first_in_launch d.launch whole g lt

      waiting : ((j : ℕ) → j < item_count d.launch → Hinders s g j → ⊥) → (j : ℕ) → group_of d.launch j ≡ g → IsWaiting (wants d s j)
      waiting none j of = ⊎_elim (λ w. w) (λ not. absurd (none j (in_launch d.launch whole g j lt of) (of, not))) (is_waiting (wants d s j))

      together : ((j : ℕ) → j < item_count d.launch → Hinders s g j → ⊥) → AllTogether d s g
      together none j of =
          meet.together (first_item d.launch g) j first (in_launch d.launch whole g j lt of) (first_of_group d.launch whole g ∙ sym of) (waiting none (first_item d.launch g) (first_of_group d.launch whole g)) (waiting none j of)

  released : (s : State) → MeetTogether d s → (g : ℕ) → Decided ((g < group_count d.launch) × AllTogether d s g)
  released s meet g =
      ⊎_elim
      (λ lt. ⊎_elim (λ h. inl (lt, h)) (λ not. inr (λ h. not h.1)) (all_together s g lt meet))
      (λ above. inr (λ h. let lt = h.0 in absurd (omega (arith, lt, above))))
      (cases_lt g (group_count d.launch))

  -- some event is enabled, or none
  some_event : (s : State) → MeetTogether d s → ((e : Event) × Enabled d s e) ⊎ IsStuck d s
  some_event s meet =
      ⊎_elim
      (λ one. inl (Step one.0, (one.1, one.2)))
      (λ no_step.
      ⊎_elim
      (λ one. inl (Release one.0, one.2))
      (λ no_release. inr (stuck no_step no_release))
      (some_below (λ g. (g < group_count d.launch) × AllTogether d s g) (released s meet) (group_count d.launch)))
      (some_below (λ k. CanStep (wants d s k)) (λ k. can_step (wants d s k)) (item_count d.launch))
    where
      stuck : ((k : ℕ) → k < item_count d.launch → CanStep (wants d s k) → ⊥) → ((g : ℕ) → g < group_count d.launch → (g < group_count d.launch) × AllTogether d s g → ⊥) → IsStuck d s
      stuck no_step no_release (Step k) en = no_step k en.0 en.1
      stuck no_step no_release (Release g) en = no_release g en.0 en

  pub runs_out : (s : State) (most : ℕ) → ((es : List Event) → IsRun d s es → length es ≤ most) → ((es : List Event) → IsRun d s es → MeetTogether d (run d s es)) → (es : List Event) × IsRun d s es × IsStuck d (run d s es)
  runs_out s most bounded meet = go (suc most) [] tt (omega arith)
    where
      go : (n : ℕ) (es : List Event) → IsRun d s es → most < n + length es → (fs : List Event) × IsRun d s fs × IsStuck d (run d s fs)
      go zero es r long = let short = bounded es r in absurd (omega (arith, short, long))
      go (suc n) es r long =
          ⊎_elim
          (λ one.
          let longer : length (es ++ one.0 ∷ []) ≡ length es + 1 = length-append es (one.0 ∷ []) in
          go n (es ++ one.0 ∷ []) (is_run-append d s es (one.0 ∷ []) r (one.1, tt)) (omega (arith, longer, long)))
          (λ stuck. (es, r, stuck))
          (some_event (run d s es) (meet es r))
