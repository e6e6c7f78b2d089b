-- From one complete run to every run.
use Rattle.std.proofs.Common.{◌≡◌, ℕ, ◌≤◌, List, [], ◌∷◌, ◌++◌, Bool, false, refl, sym, ap, ◌∙◌, subst, arith, append_assoc, length-append}
use Rattle.std.proofs.lemmas.Bool.{ne_eqb}
use Rattle.std.proofs.lemmas.List.{append-nil}
use Rattle.std.proofs.lemmas.List.Sums.{sum_by-append}
use Rattle.std.specs.Prelude.{count_by, cond}
use Rattle.kernel_tree.specs.declared.events.Event.{Event}
use Rattle.kernel_tree.specs.declared.events.Event.TheVariants.{Step, Release}
use Rattle.kernel_tree.specs.Launch.{IsWhole, group_of, first_item}
use Rattle.kernel_tree.specs.Device.{Device, State, wants, CanStep, StandTogether, AllTogether, Enabled, moves, after, run, IsRun, AllEnded, IsStuck}
use Rattle.kernel_tree.specs.Faults.{Access, accesses_of, accesses, Among, Diverges, SomeDiverges, NoFailure, NoDivergence}
use Rattle.kernel_tree.specs.EveryRun.{Completes, EveryRun}
use Rattle.kernel_tree.proofs.Grouping.{first_of_group, in_launch, first_in_launch}
use Rattle.kernel_tree.proofs.Confluence.{SameEnd, confluent, among-left, wants_kept}

module _ (d : Device) where
  pub run-append : (s : State) (es fs : List Event) → run d s (es ++ fs) ≡ run d (run d s es) fs
  run-append s [] fs = refl
  run-append s (e ∷ es) fs = run-append (after d s e) es fs

  pub is_run-append : (s : State) (es fs : List Event) → IsRun d s es → IsRun d (run d s es) fs → IsRun d s (es ++ fs)
  is_run-append s [] fs a b = b
  is_run-append s (e ∷ es) fs a b = (a.0, is_run-append (after d s e) es fs a.1 b)

  pub is_run-front : (s : State) (es fs : List Event) → IsRun d s (es ++ fs) → IsRun d s es
  is_run-front s [] fs h = tt
  is_run-front s (e ∷ es) fs h = (h.0, is_run-front (after d s e) es fs h.1)

  pub is_run-back : (s : State) (es fs : List Event) → IsRun d s (es ++ fs) → IsRun d (run d s es) fs
  is_run-back s [] fs h = h
  is_run-back s (e ∷ es) fs h = is_run-back (after d s e) es fs h.1

  pub no_failure-append : (s : State) (es fs : List Event) → NoFailure d s es → NoFailure d (run d s es) fs → NoFailure d s (es ++ fs)
  no_failure-append s [] fs a b = b
  no_failure-append s (e ∷ es) fs a b = (a.0, no_failure-append (after d s e) es fs a.1 b)

  pub no_failure-front : (s : State) (es fs : List Event) → NoFailure d s (es ++ fs) → NoFailure d s es
  no_failure-front s [] fs h = tt
  no_failure-front s (e ∷ es) fs h = (h.0, no_failure-front (after d s e) es fs h.1)

  pub accesses-append : (s : State) (es fs : List Event) → accesses d s (es ++ fs) ≡ accesses d s es ++ accesses d (run d s es) fs
  accesses-append s [] fs = refl
  accesses-append s (e ∷ es) fs =
      ap (λ xs. accesses_of d s e ++ xs) (accesses-append (after d s e) es fs)
      ∙ sym (append_assoc (accesses_of d s e) (accesses d (after d s e) es) (accesses d (run d (after d s e) es) fs))

  pub among-front : (s : State) (es fs : List Event) (a : Access) → Among a (accesses d s es) → Among a (accesses d s (es ++ fs))
  among-front s es fs a h = subst (Among a) (sym (accesses-append s es fs)) (among-left a (accesses d s es) _ h)

  -- where no run diverges at its end, none diverges on its way
  pub never_diverges : (s : State) (es : List Event) → ((fs : List Event) → IsRun d s fs → SomeDiverges d (run d s fs) → ⊥) → IsRun d s es → NoDivergence d s es
  never_diverges s [] h r = tt
  never_diverges s (e ∷ es) h r = (h (e ∷ []) (r.0, tt), never_diverges (after d s e) es (λ fs q. h (e ∷ fs) (r.0, q)) r.1)

module _ (d : Device) (whole : IsWhole d.launch) where
  pub ended_stuck : (s : State) → AllEnded d s → IsStuck d s
  ended_stuck s h (Step k) en = subst CanStep (h k en.0) en.1
  ended_stuck s h (Release g) en =
      let first = first_item d.launch g in
      let e = h first (first_in_launch d.launch whole g en.0) in
      subst (λ w. StandTogether w (wants d s first)) e (en.1 first (first_of_group d.launch whole g))

  -- a group that diverges stays as it is
  diverged_apart : (s : State) (g : ℕ) (e : Event) → Diverges d s g → Enabled d s e → (j : ℕ) → group_of d.launch j ≡ g → moves d.launch e j ≡ false
  diverged_apart s g (Step k) v en j q = ne_eqb j k (λ p. v.stopped k (ap (group_of d.launch) (sym p) ∙ q) en.1)
  diverged_apart s g (Release h) v en j q =
      ne_eqb (group_of d.launch j) h (λ p. let e : h ≡ g = sym p ∙ q in v.not_together (subst (AllTogether d s) e en.1))

  diverged_on : (s : State) (g : ℕ) (e : Event) → Diverges d s g → Enabled d s e → Diverges d (after d s e) g
  diverged_on s g e v en =
      let kept = λ (j : ℕ) (q : group_of d.launch j ≡ g). wants_kept d s e j (diverged_apart s g e v en j q) in
      let first = kept (first_item d.launch g) (first_of_group d.launch whole g) in
      record {
        within = v.within;
        stopped = λ j q c. v.stopped j q (subst CanStep (kept j q) c);
        not_ended = λ h. v.not_ended (λ j q. sym (kept j q) ∙ h j q);
        not_together = λ h. v.not_together (λ j q. subst (λ w. StandTogether w (wants d s j)) first (subst (λ w. StandTogether (wants d (after d s e) (first_item d.launch g)) w) (kept j q) (h j q)));
      }

  pub diverged_stays : (s : State) (g : ℕ) (es : List Event) → Diverges d s g → IsRun d s es → Diverges d (run d s es) g
  diverged_stays s g [] v r = v
  diverged_stays s g (e ∷ es) v r = diverged_stays (after d s e) g es (diverged_on s g e v r.0) r.1

  pub ended_undiverged : (s : State) → AllEnded d s → SomeDiverges d s → ⊥
  ended_undiverged s h v = v.1.not_ended (λ j q. h j (in_launch d.launch whole v.0 j v.1.within q))

  no_more : (s : State) (es : List Event) → IsStuck d s → IsRun d s es → es ≡ []
  no_more s [] stuck r = refl
  no_more s (e ∷ es) stuck r = absurd (stuck e r.0)

  module _ (s : State) (es : List Event) (all : Completes d s es) where
    -- every run goes on to the same end
    pub goes : (fs : List Event) → IsRun d s fs → (rest : List Event) × SameEnd d s es (fs ++ rest)
    goes fs q = confluent d whole es fs s all.is_run all.no_failure all.no_race (ended_stuck (run d s es) all.ended) q

    undiverged : (fs : List Event) → IsRun d s fs → SomeDiverges d (run d s fs) → ⊥
    undiverged fs q v =
        let a = goes fs q in
        let on = diverged_stays (run d s fs) v.0 a.0 v.1 (is_run-back d s fs a.0 a.1.is_run) in
        let same : run d (run d s fs) a.0 ≡ run d s es = sym (run-append d s fs a.0) ∙ a.1.ends in
        ended_undiverged (run d s es) all.ended (v.0, subst (λ t. Diverges d t v.0) same on)

    -- a run that cannot go on is alike
    pub whole_run : (fs : List Event) → IsRun d s fs → IsStuck d (run d s fs) → SameEnd d s es fs
    whole_run fs q stuck =
        let a = goes fs q in
        let none = no_more (run d s fs) a.0 stuck (is_run-back d s fs a.0 a.1.is_run) in
        subst (SameEnd d s es) (ap (λ xs. fs ++ xs) none ∙ append-nil fs) a.1

    few : (fs : List Event) → IsRun d s fs → (p : Access → Bool) → count_by p (accesses d s fs) ≤ count_by p (accesses d s es)
    few fs q p =
        let a = goes fs q in
        let c = a.1.count p in
        let e = ap (count_by p) (accesses-append d s fs a.0) in
        let b = sum_by-append (λ x. cond (p x) 1 0) (accesses d s fs) (accesses d (run d s fs) a.0) in
        omega arith

    pub every_run : EveryRun d s es
    every_run = record {
      faultless = λ fs q. let a = goes fs q in record {
        no_failure = no_failure-front d s fs a.0 a.1.no_failure;
        no_race = λ x y hx hy. all.no_race x y (a.1.among x (among-front d s fs a.0 x hx)) (a.1.among y (among-front d s fs a.0 y hy));
        no_divergence = never_diverges d s fs undiverged q;
      };
      bounded = λ fs q. let a = goes fs q in let n = a.1.long in let m = length-append fs a.0 in omega arith;
      among = λ fs q x h. let a = goes fs q in a.1.among x (among-front d s fs a.0 x h);
      count = few;
      events = λ fs q c. let a = goes fs q in let n = a.1.events c in let m = sum_by-append (λ x. cond (c x) 1 0) fs a.0 in omega arith;
      goes_on = λ fs q. let a = goes fs q in (a.0, a.1.is_run, a.1.ends);
      ended = all.ended;
      ends = λ fs q stuck. (whole_run fs q stuck).ends;
      end_length = λ fs q stuck. (whole_run fs q stuck).long;
      end_count = λ fs q stuck. (whole_run fs q stuck).count;
      end_events = λ fs q stuck. (whole_run fs q stuck).events;
    }
