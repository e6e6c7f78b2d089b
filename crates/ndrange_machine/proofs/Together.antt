-- Which groups stand together, and which diverge.
use Rattle.std.proofs.Common.{◌≡◌, ◌≢◌, ◌↔◌, ℕ, ◌<◌, List, [], ◌∷◌, length, set, Bool, true, false, refl, sym, ap, ◌∙◌, subst, ⊎_elim, arith}
use Rattle.std.specs.Prelude.{map, slice_index_or, ◌==◌}
use Rattle.std.proofs.Math.ListN.{length-set}
use Rattle.std.proofs.lemmas.Bool.{cases_eq, ne_eqb, eqb-true, false_from_ne_true}
use Rattle.std.proofs.lemmas.Bool.Decides.{eqb_tells}
use Rattle.std.proofs.lemmas.List.{get_or-set_same, get_or-set_other}
use Rattle.kernel_tree.specs.declared.events.Event.{Event}
use Rattle.kernel_tree.specs.declared.events.Event.TheVariants.{Step, Release}
use Rattle.kernel_tree.specs.Item.{Frame, Item, Wants, Waits}
use Rattle.kernel_tree.specs.Launch.{Launch, IsWhole, group_count, group_of, first_item, ids_of}
use Rattle.kernel_tree.specs.Device.{Device, Memory, State, still, wants, CanStep, StandTogether, AllTogether, moves, taken, after}
use Rattle.kernel_tree.specs.Faults.{Diverges, SomeDiverges}
use Rattle.kernel_tree.specs.Meets.{IsWaiting}
use Rattle.kernel_tree.specs.Places.{place, untimed, place_of_item, turns_of}
use Rattle.kernel_tree.proofs.Confluence.{stands_or_steps, wants_kept}
use Rattle.kernel_tree.proofs.Grouping.{first_of_group, group_in_launch, in_launch}
use Rattle.kernel_tree.proofs.Together.{together_at_one_place}
use Rattle.enabled_events.specs.Listed.{Flags, AreFlags, group_moved}
use Rattle.enabled_events.specs.Grids.{laid}
use Rattle.enabled_events.specs.Flags.{NoneSteps}
use Rattle.enabled_events.specs.Laws.{FlagsFollow}
use Rattle.ndrange_machine.specs.Groups.{Refreshed, Met, Settled, Stepped}
use Rattle.ndrange_machine.proofs.Waiting.{steps_or_not, stand_waits}

-- at one place, and at the same turns of the loops around it
abbrev pub AtOnePlace : Item → Item → Type 0
AtOnePlace x y = (place_of_item x ≡ place_of_item y) × (turns_of x ≡ turns_of y)

-- a group of which all stand at one place at the same turns doesn't diverge
pub alike_calm : (d : Device) (s : State) (g : ℕ) → IsWhole d.launch → ((j : ℕ) → group_of d.launch j ≡ g → AtOnePlace (s.items (first_item d.launch g)) (s.items j)) → Diverges d s g → ⊥
alike_calm d s g whole alike v =
    let f = first_item d.launch g in
    let together : ((j : ℕ) → group_of d.launch j ≡ g → IsWaiting (wants d s f) → StandTogether (wants d s f) (wants d s j)) =
    (λ j q w. (together_at_one_place (ids_of d.launch f) (ids_of d.launch j) (s.items f) (s.items j)).1 (w, (alike j q).0, (alike j q).1)) in
    let back : ((j : ℕ) → group_of d.launch j ≡ g → IsWaiting (wants d s j) → IsWaiting (wants d s f)) =
    (λ j q w. stand_waits (wants d s j) (wants d s f) ((together_at_one_place (ids_of d.launch j) (ids_of d.launch f) (s.items j) (s.items f)).1 (w, sym (alike j q).0, sym (alike j q).1))) in
    ⊎_elim (λ can. v.stopped f (first_of_group d.launch whole g) can)
    (⊎_elim
    (λ w. v.not_together (λ j q. together j q w))
    (λ e. v.not_ended (λ j q. ⊎_elim (λ can. absurd (v.stopped j q can)) (⊎_elim (λ w. absurd (subst IsWaiting e (back j q w))) (λ z. z)) (steps_or_not (wants d s j)))))
    (steps_or_not (wants d s f))

untimed-still : (fs : List Frame) → map untimed (map still fs) ≡ map untimed fs
untimed-still [] = refl
untimed-still (f ∷ fs) = ap (λ z. untimed f ∷ z) (untimed-still fs)

turns-still : (fs : List Frame) → map (λ f. f.turn) (map still fs) ≡ map (λ f. f.turn) fs
turns-still [] = refl
turns-still (f ∷ fs) = ap (λ z. f.turn ∷ z) (turns-still fs)

-- past the barrier at which they stand together
pub taken_alike : (l : Launch) (i j : ℕ) (v w : Wants) (m : Memory) (x y : Item) → StandTogether v w → AtOnePlace (taken l i v m x) (taken l j w m y)
taken_alike l i j (Waits p q a) (Waits r t b) m x y h =
    let loops : map untimed a.frames ≡ map untimed b.frames = sym (untimed-still a.frames) ∙ ap (map untimed) h.3 ∙ untimed-still b.frames in
    let turns : turns_of a ≡ turns_of b = sym (turns-still a.frames) ∙ ap (map (λ f. f.turn)) h.3 ∙ turns-still b.frames in
    (λ k. place (h.2 k) (loops k), turns)
taken_alike l i j (Waits p q a) _ m x y h = absurd h
taken_alike l i j _ w m x y h = absurd h

-- other groups than the event's
module _ (d : Device) (s : State) (e : Event) where
  unmoved : (h j : ℕ) → h ≢ group_moved d.launch e → group_of d.launch j ≡ h → moves d.launch e j ≡ false
  unmoved h j ne q = by_event e ne
    where
      by_event : (x : Event) → h ≢ group_moved d.launch x → moves d.launch x j ≡ false
      by_event (Step k) n = ne_eqb j k (λ p. n (sym q ∙ ap (group_of d.launch) p))
      by_event (Release g) n = ne_eqb (group_of d.launch j) g (λ p. n (sym q ∙ p))

  same_wants : (h j : ℕ) → h ≢ group_moved d.launch e → group_of d.launch j ≡ h → wants d (after d s e) j ≡ wants d s j
  same_wants h j ne q = wants_kept d s e j (unmoved h j ne q)

  pub diverges_before : (h : ℕ) → IsWhole d.launch → h ≢ group_moved d.launch e → Diverges d (after d s e) h → Diverges d s h
  diverges_before h whole ne v = record {
    within = v.within;
    stopped = λ j q can. v.stopped j q (subst CanStep (sym (same_wants h j ne q)) can);
    not_ended = λ all. v.not_ended (λ j q. same_wants h j ne q ∙ all j q);
    not_together = λ all. v.not_together (λ j q. subst (λ z. StandTogether z (wants d (after d s e) j)) (sym (same_wants h (first_item d.launch h) ne (first_of_group d.launch whole h))) (subst (StandTogether (wants d s (first_item d.launch h))) (sym (same_wants h j ne q)) (all j q)));
  }

  pub calm_after : IsWhole d.launch → (SomeDiverges d s → ⊥) → (Diverges d (after d s e) (group_moved d.launch e) → ⊥) → SomeDiverges d (after d s e) → ⊥
  calm_after whole calm own v = ⊎_elim (λ same. own (subst (Diverges d (after d s e)) same v.1)) (λ ne. calm (v.0, diverges_before v.0 whole ne v.1)) (cases_eq v.0 (group_moved d.launch e))

-- after an item's step
module _ (follow : FlagsFollow) (d : Device) (whole : IsWhole d.launch) (s : State) (j : ℕ) (v : Flags) (h : Stepped d s j v) where
  abbrev later : State
  later = after d s (Step j)

  abbrev group : ℕ
  group = group_of d.launch j

  within : group_of d.launch j < group_count d.launch
  within = group_in_launch d.launch whole j h.there

  never_together : AllTogether d s (group_of d.launch j) → ⊥
  never_together all = stands_or_steps _ _ h.steps (all j refl)

  kept_wants : (k : ℕ) → k ≢ j → wants d (after d s (Step j)) k ≡ wants d s k
  kept_wants k ne = wants_kept d s (Step j) k (ne_eqb k j ne)

  pub goes : CanStep (wants d (after d s (Step j)) j) → Settled d (after d s (Step j)) v false
  goes can = record {
    flags = follow d s (Step j) v v whole h.flags (record {
      grid = refl;
      count = refl;
      kept = λ k m. refl;
      moved = λ k lt m. let at = eqb-true k j m in (λ t. subst (λ z. CanStep (wants d (after d s (Step j)) z)) (sym at) can, λ c. (h.flags.steps k lt).1 (subst (λ z. CanStep (wants d s z)) (sym at) h.steps));
      others = λ g ne. refl;
      group = (λ t. absurd (never_together ((h.flags.releases (group_of d.launch j) within).0 t)), λ all. absurd (stands_or_steps _ _ can (all j refl)));
    });
    apart = (λ q. absurd (let both : false ≡ true = q in let n : ⊥ = cc in n), λ x. absurd (calm_after d s (Step j) whole h.steady (λ y. y.stopped j refl can) x));
  }

  module _ (stops : CanStep (wants d (after d s (Step j)) j) → ⊥) where
    abbrev unset : List Bool → Flags
    unset groups = record { grid = v.grid; items = set v.items j false; groups = groups }

    in_items : j < length v.items
    in_items = let n = h.flags.count in let lt = h.there in omega arith

    flags_with : (groups : List Bool) → ((g : ℕ) → g ≢ group_of d.launch j → slice_index_or groups g false ≡ slice_index_or v.groups g false) → (slice_index_or groups (group_of d.launch j) false ≡ true) ↔ AllTogether d (after d s (Step j)) (group_of d.launch j) → AreFlags d (after d s (Step j)) (unset groups)
    flags_with groups others own = follow d s (Step j) v (unset groups) whole h.flags (record {
      grid = refl;
      count = length-set v.items j false;
      kept = λ k m. get_or-set_other v.items j k false false (λ same. let e : true ≡ false = sym (ap (λ z. z == j) same ∙ ⊎_elim (λ q. q.0) (λ q. absurd (q.1 refl)) (eqb_tells j j)) ∙ m in let n : ⊥ = cc in n);
      moved = λ k lt m.
          let at = eqb-true k j m in
          let off : slice_index_or (set v.items j false) k false ≡ false = ap (λ z. slice_index_or (set v.items j false) z false) at ∙ get_or-set_same v.items j false false in_items in
          (λ t. absurd (let e : true ≡ false = sym t ∙ off in let n : ⊥ = cc in n), λ c. absurd (stops (subst (λ z. CanStep (wants d (after d s (Step j)) z)) at c)));
      others = others;
      group = own;
    })

    -- all of the group have stopped where no flag of theirs is set
    none_steps : (groups : List Bool) → ((k : ℕ) → group_of d.launch k ≡ group_of d.launch j → CanStep (wants d (after d s (Step j)) k) → ⊥) → NoneSteps (unset groups) (group_of d.launch j)
    none_steps groups all k q =
        let mine : group_of d.launch k ≡ group_of d.launch j = ap (λ z. group_of (laid z) k) (sym h.flags.grid) ∙ q in
        ⊎_elim
        (λ same. ap (λ z. slice_index_or (set v.items j false) z false) same ∙ get_or-set_same v.items j false false in_items)
        (λ ne. get_or-set_other v.items j k false false ne ∙ false_from_ne_true (slice_index_or v.items k false) (λ t. all k mine (subst CanStep (sym (kept_wants k ne)) ((h.flags.steps k (in_launch d.launch whole (group_of d.launch j) k within mine)).0 t))))
        (cases_eq k j)

    all_stopped : (groups : List Bool) → NoneSteps (unset groups) (group_of d.launch j) → (k : ℕ) → group_of d.launch k ≡ group_of d.launch j → CanStep (wants d (after d s (Step j)) k) → ⊥
    all_stopped groups none k q can =
        ⊎_elim
        (λ same. stops (subst (λ z. CanStep (wants d (after d s (Step j)) z)) same can))
        (λ ne.
        let on = (h.flags.steps k (in_launch d.launch whole (group_of d.launch j) k within q)).1 (subst CanStep (kept_wants k ne) can) in
        let e : true ≡ false = sym on ∙ sym (get_or-set_other v.items j k false false ne) ∙ none k (ap (λ z. group_of (laid z) k) h.flags.grid ∙ q) in
        let n : ⊥ = cc in n)
        (cases_eq k j)

    pub some_go : (NoneSteps (unset v.groups) (group_of d.launch j) → ⊥) → Settled d (after d s (Step j)) (unset v.groups) false
    some_go more = record {
      flags = flags_with v.groups (λ g ne. refl) (
        λ t. absurd (never_together ((h.flags.releases (group_of d.launch j) within).0 t)),
        λ all. absurd (more (none_steps v.groups (λ k q can. stands_or_steps _ _ can (all k q)))),
      );
      apart = (λ q. absurd (let both : false ≡ true = q in let n : ⊥ = cc in n), λ x. absurd (calm_after d s (Step j) whole h.steady (λ y. more (none_steps v.groups y.stopped)) x));
    }

    pub met : (w : Flags) (b : Bool) → group_of d.launch j < length v.groups → NoneSteps (unset v.groups) (group_of d.launch j) → Met d (after d s (Step j)) (group_of d.launch j) (unset v.groups) w b → Settled d (after d s (Step j)) w b
    met w b room none m = record {
      flags = subst (AreFlags d (after d s (Step j))) (sym m.flags)
          (flags_with (set v.groups (group_of d.launch j) m.together) (λ g ne. get_or-set_other v.groups (group_of d.launch j) g m.together false ne)
          (let own = get_or-set_same v.groups (group_of d.launch j) m.together false room in (λ t. m.is.0 (sym own ∙ t), λ all. own ∙ m.is.1 all)));
      apart = (
        λ q. (group_of d.launch j, record { within = within; stopped = all_stopped v.groups none; not_ended = (m.apart.0 q).1; not_together = (m.apart.0 q).0 }),
        λ x. ⊎_elim (λ same. let y = subst (Diverges d (after d s (Step j))) same x.1 in m.apart.1 (y.not_together, y.not_ended)) (λ ne. absurd (h.steady (x.0, diverges_before d s (Step j) x.0 whole ne x.1))) (cases_eq x.0 (group_of d.launch j)),
      );
    }

-- after a release
pub refreshed : FlagsFollow → (d : Device) → IsWhole d.launch → (s : State) (g : ℕ) (v w : Flags) → AreFlags d s v → w.grid ≡ v.grid → length w.items ≡ length v.items → Refreshed d (after d s (Release g)) g v w → AreFlags d (after d s (Release g)) w
refreshed follow d whole s g v w flags grid count r = follow d s (Release g) v w whole flags (record {
  grid = grid;
  count = count;
  kept = λ k m. r.kept k (λ q. let e : true ≡ false = sym (ap (λ z. z == g) q ∙ ⊎_elim (λ z. z.0) (λ z. absurd (z.1 refl)) (eqb_tells g g)) ∙ m in let n : ⊥ = cc in n);
  moved = λ k lt m. r.moved k lt (eqb-true (group_of d.launch k) g m);
  others = r.others;
  group = r.group;
})
