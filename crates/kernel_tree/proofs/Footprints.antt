-- Every reordering that keeps each actor's own order is a run to the same state.
use Rattle.std.proofs.Common.{◌≡◌, ◌≢◌, ℕ, List, [], ◌∷◌, length, refl, sym, ap, ◌∙◌, subst, ⊎_elim, inl, inr, Bool, true, false, arith}
use Rattle.std.specs.Prelude.{◌==◌, if◌then◌else◌, cond, filter}
use Rattle.std.proofs.lemmas.Bool.{cases_eq, eq-eqb, ne_eqb, eqb-true, cases_Bool, eqb-false}
use Rattle.kernel_tree.specs.declared.events.Event.{Event}
use Rattle.kernel_tree.specs.declared.events.Event.TheVariants.{Step, Release}
use Rattle.kernel_tree.specs.Launch.{IsWhole, group_of}
use Rattle.kernel_tree.specs.Item.{Wants}
use Rattle.kernel_tree.specs.Device.{Device, State, Fence, fence_of, wants, after, run, IsRun}
use Rattle.kernel_tree.specs.Faults.{Access, accessed, accesses_of, accesses, Among, SomeDiverges, NoFailure, NoRace, NoDivergence, IsFaultless}
use Rattle.kernel_tree.specs.Deeds.{Every}
use Rattle.kernel_tree.specs.Footprints.{group_acting, KeepsGroups, KeepsItems, steps, LeavesOthers, LeadsAlike}
use Rattle.kernel_tree.proofs.Accessed.{each_made}
use Rattle.kernel_tree.proofs.Confluence.{Apart, SameEnd, same_end_itself, same_end_on, same_end_ahead, no_race_later, onward, enabled_back, among-right, among-append}
use Rattle.kernel_tree.proofs.EveryRun.{diverged_stays}

module _ (d : Device) (whole : IsWhole d.launch) (actor : Event → ℕ) (Acts : Event → Type 0) (parts : (e f : Event) → Acts e → Acts f → actor e ≢ actor f → Apart d e f) where
  -- an actor's events, in their order
  abbrev events_by : ℕ → List Event → List Event
  events_by a es = filter (λ e. actor e == a) es

  record Pulled (s : State) (es : List Event) (e : Event) : Type 0 where
    rest : List Event
    alike : SameEnd d s es (e ∷ rest)
    order : (a : ℕ) → events_by a (e ∷ rest) ≡ events_by a es
    acts : Every Acts rest

  swapped_order : (a : ℕ) (e f : Event) (rest : List Event) → actor e ≢ actor f → events_by a (e ∷ f ∷ rest) ≡ events_by a (f ∷ e ∷ rest)
  swapped_order a e f rest n = go (actor e == a) (actor f == a) refl refl
    where
      go : (x y : Bool) → (actor e == a) ≡ x → (actor f == a) ≡ y → events_by a (e ∷ f ∷ rest) ≡ events_by a (f ∷ e ∷ rest)
      go true true p q = absurd (n (eqb-true _ _ p ∙ sym (eqb-true _ _ q)))
      go true false p q = rw (p, q) refl
      go false y p q = rw (p, q) refl

  -- an actor's first event may come first of all
  pulled : (s : State) (es : List Event) (e : Event) (more : List Event) → Every Acts es → Acts e → IsRun d s es → NoFailure d s es → NoRace d s es → events_by (actor e) es ≡ e ∷ more → Pulled s es e
  pulled s [] e more acts act r ok clear h = cc
  pulled s (f ∷ es) e more acts act r ok clear h =
      ⊎_elim
      (λ q. here (eqb-true _ _ q))
      (λ q. later q (pulled (after d s f) es e more acts.1 act r.1 ok.1 (no_race_later d whole s f es clear) (rw q at h)))
      (cases_Bool (actor f == actor e))
    where
      here : actor f ≡ actor e → Pulled s (f ∷ es) e
      here q =
          let same : f ≡ e = let x : f ∷ events_by (actor e) es ≡ e ∷ more = rw (eq-eqb _ _ q) at h in cc in
          record { rest = es; alike = subst (λ x. SameEnd d s (f ∷ es) (x ∷ es)) same (same_end_itself d s (f ∷ es) r ok); order = λ a. ap (λ x. events_by a (x ∷ es)) (sym same); acts = acts.1 }

      later : (actor f == actor e) ≡ false → Pulled (after d s f) es e → Pulled s (f ∷ es) e
      later q p =
          let n : actor e ≢ actor f = λ x. eqb-false _ _ q (sym x) in
          let en = enabled_back d whole s e f (parts e f act acts.0 n) p.alike.is_run.0 in
          let differ : e ≢ f = λ x. n (ap actor x) in
          record {
            rest = f ∷ p.rest;
            alike = onward d whole s e f es p.rest differ en r ok clear p.alike;
            order = λ a. swapped_order a e f p.rest n ∙ ap (λ xs. if actor f == a then f ∷ xs else xs) (p.order a);
            acts = (acts.0, p.acts);
          }

  tail_same : (a : ℕ) (f : Event) (xs ys : List Event) → events_by a (f ∷ xs) ≡ events_by a (f ∷ ys) → events_by a xs ≡ events_by a ys
  tail_same a f xs ys h = go (actor f == a) h
    where
      go : (b : Bool) → (if b then f ∷ events_by a xs else events_by a xs) ≡ (if b then f ∷ events_by a ys else events_by a ys) → events_by a xs ≡ events_by a ys
      go true q = cc
      go false q = q

  nothing : (fs : List Event) → ((a : ℕ) → events_by a fs ≡ []) → fs ≡ []
  nothing [] h = refl
  nothing (f ∷ fs) h = let x : f ∷ events_by (actor f) fs ≡ [] = rw (eq-eqb (actor f) _ refl) at (h (actor f)) in cc

  pub reordered : (fs es : List Event) (s : State) → Every Acts es → Every Acts fs → IsRun d s es → NoFailure d s es → NoRace d s es → ((a : ℕ) → events_by a fs ≡ events_by a es) → SameEnd d s es fs
  reordered [] es s acts these r ok clear same = subst (SameEnd d s es) (nothing es (λ a. sym (same a))) (same_end_itself d s es r ok)
  reordered (f ∷ fs) es s acts these r ok clear same =
      let h : events_by (actor f) es ≡ f ∷ events_by (actor f) fs = sym (same (actor f)) ∙ (rw (eq-eqb (actor f) _ refl) refl) in
      let p = pulled s es f (events_by (actor f) fs) acts these.0 r ok clear h in
      let none : NoRace d (after d s f) p.rest = λ x y hx hy. clear x y (p.alike.among x (among-right x (accesses_of d s f) _ hx)) (p.alike.among y (among-right y (accesses_of d s f) _ hy)) in
      let rest_same = λ (a : ℕ). tail_same a f fs p.rest (same a ∙ sym (p.order a)) in
      same_end_on d s es (f ∷ p.rest) (f ∷ fs) p.alike (same_end_ahead d s f p.rest fs p.alike.is_run.0 p.alike.no_failure.0 (reordered fs p.rest (after d s f) p.acts these.1 p.alike.is_run.1 p.alike.no_failure.1 none rest_same))

module _ (d : Device) (whole : IsWhole d.launch) where
  -- a run that doesn't diverge at its end doesn't on its way
  undiverged_on_way : (s : State) (fs : List Event) → IsRun d s fs → (SomeDiverges d (run d s fs) → ⊥) → NoDivergence d s fs
  undiverged_on_way s [] r h = tt
  undiverged_on_way s (f ∷ fs) r h =
      (λ v. h (v.0, diverged_stays d whole (after d s f) v.0 fs v.1 r.1), undiverged_on_way (after d s f) fs r.1 h)

  undiverged_end : (s : State) (e : Event) (es : List Event) → NoDivergence d s (e ∷ es) → SomeDiverges d (run d s (e ∷ es)) → ⊥
  undiverged_end s e [] h v = h.0 v
  undiverged_end s e (f ∷ es) h v = undiverged_end (after d s e) f es h.1 v

  leads_alike : (s : State) (es fs : List Event) → IsFaultless d s es → SameEnd d s es fs → LeadsAlike d s es fs
  leads_alike s es fs ok a = record {
    is_run = a.is_run;
    faultless = record {
      no_failure = a.no_failure;
      no_race = λ x y hx hy. ok.no_race x y (a.among x hx) (a.among y hy);
      no_divergence = go es fs ok.no_divergence a.is_run a.ends a.long;
    };
    ends = a.ends;
  }
    where
      go : (es fs : List Event) → NoDivergence d s es → IsRun d s fs → run d s fs ≡ run d s es → length fs ≡ length es → NoDivergence d s fs
      go es [] h r e n = tt
      go [] (f ∷ fs) h r e n = absurd (omega arith)
      go (x ∷ es) (f ∷ fs) h r e n = undiverged_on_way s (f ∷ fs) r (λ v. undiverged_end s x es h (subst (SomeDiverges d) e v))

  -- actors that are the groups

  Anything : Event → Type 0
  Anything e = Unit {0}

  anything : (es : List Event) → Every Anything es
  unfolding Anything
  anything [] = tt
  anything (e ∷ es) = (tt, anything es)

  group_parts : (e f : Event) → group_acting d.launch e ≢ group_acting d.launch f → Apart d e f
  group_parts (Step k) (Step m) n j h = ne_eqb j m (λ q. n (ap (group_of d.launch) (sym (eqb-true j k h) ∙ q)))
  group_parts (Step k) (Release g) n j h = ne_eqb (group_of d.launch j) g (λ q. n (ap (group_of d.launch) (sym (eqb-true j k h)) ∙ q))
  group_parts (Release g) (Step k) n j h = ne_eqb j k (λ q. n (sym (eqb-true (group_of d.launch j) g h) ∙ ap (group_of d.launch) q))
  group_parts (Release g) (Release x) n j h = ne_eqb (group_of d.launch j) x (λ q. n (sym (eqb-true (group_of d.launch j) g h) ∙ q))

  pub by_groups : (s : State) (es fs : List Event) → IsRun d s es → IsFaultless d s es → KeepsGroups d.launch es fs → LeadsAlike d s es fs
  by_groups s es fs r ok keeps =
      leads_alike s es fs ok (reordered d whole (group_acting d.launch) Anything (λ e f x y. group_parts e f) fs es s (anything es) (anything fs) r ok.no_failure ok.no_race keeps)

  -- actors that are items

  IsStep : Event → Type 0
  IsStep (Step k) = Unit {0}
  IsStep (Release g) = ⊥

  item_acting : Event → ℕ
  item_acting (Step k) = k
  item_acting (Release g) = 0

  all_steps : (ks : List ℕ) → Every IsStep (steps ks)
  unfolding IsStep
  all_steps [] = tt
  all_steps (k ∷ ks) = (tt, all_steps ks)

  item_parts : (e f : Event) → IsStep e → IsStep f → item_acting e ≢ item_acting f → Apart d e f
  unfolding IsStep item_acting
  item_parts (Step k) (Step m) x y n j h = ne_eqb j m (λ q. n (sym (eqb-true j k h) ∙ q))
  item_parts (Step k) (Release g) x y n j h = absurd y
  item_parts (Release g) f x y n j h = absurd x

  filter_steps : (k : ℕ) (ks : List ℕ) → filter (λ e. item_acting e == k) (steps ks) ≡ steps (filter (λ j. j == k) ks)
  unfolding item_acting
  filter_steps k [] = refl
  filter_steps k (j ∷ ks) = go (j == k) (filter_steps k ks)
    where
      go : (b : Bool) → filter (λ e. item_acting e == k) (steps ks) ≡ steps (filter (λ i. i == k) ks) → cond b (Step j ∷ filter (λ e. item_acting e == k) (steps ks)) (filter (λ e. item_acting e == k) (steps ks)) ≡ steps (cond b (j ∷ filter (λ i. i == k) ks) (filter (λ i. i == k) ks))
      go true h = ap (λ xs. Step j ∷ xs) h
      go false h = h

  pub by_items : (s : State) (ks js : List ℕ) → IsRun d s (steps ks) → IsFaultless d s (steps ks) → KeepsItems ks js → LeadsAlike d s (steps ks) (steps js)
  by_items s ks js r ok keeps =
      leads_alike s (steps ks) (steps js) ok (reordered d whole item_acting IsStep item_parts (steps js) (steps ks) s (all_steps ks) (all_steps js) r ok.no_failure ok.no_race
      (λ k. filter_steps k js ∙ ap steps (keeps k) ∙ sym (filter_steps k ks)))

  -- a run without a race has its footprints apart

  accessed_group : (k : ℕ) (w : Wants) (ep : Fence → ℕ) (a : Access) → Among a (accessed d.launch k w ep) → a.group ≡ group_of d.launch a.item
  accessed_group k w ep a h = each_made d.launch k ep (λ x. x.group ≡ group_of d.launch x.item) (λ b n v. refl) w a h

  access_group : (s : State) (es : List Event) (a : Access) → Among a (accesses d s es) → a.group ≡ group_of d.launch a.item
  unfolding accesses_of
  access_group s [] a h = absurd h
  access_group s (Step k ∷ es) a h = ⊎_elim (λ x. accessed_group k (wants d s k) _ a x) (λ y. access_group (after d s (Step k)) es a y) (among-append a (accesses_of d s (Step k)) _ h)
  access_group s (Release g ∷ es) a h = access_group (after d s (Release g)) es a h

  pub groups_apart : (s : State) (es : List Event) → NoRace d s es → LeavesOthers (λ a. a.group) (accesses d s es)
  groups_apart s es clear a b ha hb n e w =
      clear a b ha hb (record {
        cell = e;
        items = λ q. n (access_group s es a ha ∙ ap (group_of d.launch) q ∙ sym (access_group s es b hb));
        write = inl w;
        together = inl n;
      })

  accessed_epoch : (k : ℕ) (w : Wants) (ep : ℕ → Fence → ℕ) (a : Access) → Among a (accessed d.launch k w (ep (group_of d.launch k))) → a.epoch ≡ ep a.group (fence_of a.cell)
  accessed_epoch k w ep a h = each_made d.launch k (ep (group_of d.launch k)) (λ x. x.epoch ≡ ep x.group (fence_of x.cell)) (λ b n v. refl) w a h

  -- steps alone release nothing
  access_epoch : (s : State) (ks : List ℕ) (a : Access) → Among a (accesses d s (steps ks)) → a.epoch ≡ s.epochs a.group (fence_of a.cell)
  unfolding accesses_of after
  access_epoch s [] a h = absurd h
  access_epoch s (k ∷ ks) a h =
      ⊎_elim (λ x. accessed_epoch k (wants d s k) s.epochs a x) (λ y. access_epoch (after d s (Step k)) ks a y) (among-append a (accesses_of d s (Step k)) _ h)

  pub items_apart : (s : State) (ks : List ℕ) → NoRace d s (steps ks) → LeavesOthers (λ a. a.item) (accesses d s (steps ks))
  items_apart s ks clear a b ha hb n e w =
      clear a b ha hb (record {
        cell = e;
        items = n;
        write = inl w;
        together = ⊎_elim
            (λ q. inr (access_epoch s ks a ha ∙ ap (λ g. s.epochs g (fence_of a.cell)) q ∙ ap (λ c. s.epochs b.group (fence_of c)) e ∙ sym (access_epoch s ks b hb)))
            (λ q. inl q)
            (cases_eq a.group b.group);
      })
