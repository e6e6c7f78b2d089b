-- Work-items past their barrier, one after another.
use Rattle.std.proofs.Common.{◌≡◌, ◌≢◌, ℕ, ◌+◌, ◌<◌, List, length, Option, Some, None, Bool, true, false, refl, sym, ap, ◌∙◌, subst, ⊎_elim, arith}
use Rattle.std.specs.Prelude.{slice_get, option_map, ◌==◌, if◌then◌else◌}
use Rattle.std.proofs.lemmas.Bool.{cases_eq, eq-eqb, ne_eqb}
use Rattle.std.proofs.lemmas.Bool.Decides.{eqb_tells}
use Rattle.kernel_tree.specs.Launch.{Launch, group_count, group_of, group_size, ids_of}
use Rattle.kernel_tree.specs.Numbering.{member_at, number_in_group}
use Rattle.ndrange_machine.specs.declared.line.Line as held
use Rattle.ndrange_machine.specs.declared.machine.Machine.{Machine}
use Rattle.ndrange_machine.specs.declared.change.Change.TheVariants.{Keeps}
use Rattle.ndrange_machine.specs.declared.want.Want.{Want}
use Rattle.ndrange_machine.specs.declared.want.Want.TheVariants.{Ends, Waits, Fails, Changes, Reads, Writes, ReadsFour, WritesFour}
use Rattle.ndrange_machine.specs.ItemView.{ItemView}
use Rattle.ndrange_machine.specs.Changes.{changed}
use Rattle.ndrange_machine.specs.Wants.{wanted}
use Rattle.ndrange_machine.specs.Takes as takes
use Rattle.ndrange_machine.specs.Takes.{IsWanted, PassesOne, PassesGroup, past, past_want}
use Rattle.ndrange_machine.proofs.Grids.{group_members}

-- an item that waits
pub passes_one : (m n : Machine) (j to : ℕ) (p q : Bool) → IsWanted m j (Waits p q to) → takes.Changes m n j Keeps to → n.memory ≡ m.memory → n.marks ≡ m.marks → n.ready ≡ m.ready → PassesOne m n j
passes_one m n j to p q w cs mem marks ready = record {
  lines = cs.lines;
  launch = cs.launch;
  count = cs.count;
  memory = mem;
  marks = marks;
  ready = ready;
  items = λ i. cs.items i ∙ by_test i (i == j) refl;
}
  where
    by_test : (i : ℕ) (b : Bool) → (i == j) ≡ b → (if b then option_map (λ it. changed it Keeps to) (slice_get m.items i) else slice_get m.items i) ≡ (if b then option_map (past m i) (slice_get m.items i) else slice_get m.items i)
    by_test i true e = by_item (slice_get m.items i) refl
      where
        at : i ≡ j
        at = ⊎_elim (λ z. z.1) (λ z. let both : true ≡ false = sym e ∙ z.0 in cc) (eqb_tells i j)

        by_item : (o : Option ItemView) → slice_get m.items i ≡ o → option_map (λ it. changed it Keeps to) o ≡ option_map (past m i) o
        by_item None h = refl
        by_item (Some it) h =
            let is : Waits p q to ≡ wanted m.lines.items (ids_of m.launch i) it = w it (ap (slice_get m.items) (sym at) ∙ h) ∙ ap (λ z. wanted m.lines.items (ids_of m.launch z) it) (sym at) in
            ap (λ z. Some (past_want it z)) is
    by_test i false e = refl

-- an item that doesn't
pub passes_not : (m : Machine) (j : ℕ) (v : Want) → IsWanted m j v → ((it : ItemView) → past_want it v ≡ it) → PassesOne m m j
passes_not m j v w stays = record {
  lines = refl;
  launch = refl;
  count = refl;
  memory = refl;
  marks = refl;
  ready = refl;
  items = λ i. by_test i (i == j) refl;
}
  where
    by_test : (i : ℕ) (b : Bool) → (i == j) ≡ b → slice_get m.items i ≡ (if b then option_map (past m i) (slice_get m.items i) else slice_get m.items i)
    by_test i true e = by_item (slice_get m.items i) refl
      where
        at : i ≡ j
        at = ⊎_elim (λ z. z.1) (λ z. let both : true ≡ false = sym e ∙ z.0 in cc) (eqb_tells i j)

        by_item : (o : Option ItemView) → slice_get m.items i ≡ o → o ≡ option_map (past m i) o
        by_item None h = refl
        by_item (Some it) h =
            let is : v ≡ wanted m.lines.items (ids_of m.launch i) it = w it (ap (slice_get m.items) (sym at) ∙ h) ∙ ap (λ z. wanted m.lines.items (ids_of m.launch z) it) (sym at) in
            ap Some (sym (stays it) ∙ ap (past_want it) is)
    by_test i false e = refl

-- the first items of a group are past their barrier, and no other has changed
pub record PassesUpTo (m n : Machine) (g i : ℕ) : Type 0 where
  pub lines : n.lines.items ≡ m.lines.items
  pub launch : n.launch ≡ m.launch
  pub count : length n.items ≡ length m.items
  pub memory : n.memory ≡ m.memory
  pub marks : n.marks ≡ m.marks
  pub ready : n.ready ≡ m.ready
  pub kept : (k : ℕ) → ((j : ℕ) → j < i → k ≡ member_at m.launch g j → ⊥) → slice_get n.items k ≡ slice_get m.items k
  pub moved : (j : ℕ) → j < i → slice_get n.items (member_at m.launch g j) ≡ option_map (past m (member_at m.launch g j)) (slice_get m.items (member_at m.launch g j))

pub passes_none : (m : Machine) (g : ℕ) → PassesUpTo m m g 0
passes_none m g = record {
  lines = refl;
  launch = refl;
  count = refl;
  memory = refl;
  marks = refl;
  ready = refl;
  kept = λ k out. refl;
  moved = λ j lt. absurd (omega arith);
}

module _ (m : Machine) (g : ℕ) (there : g < group_count m.launch) where
  -- one more
  pub passes_more : (a b : Machine) (i : ℕ) → i < group_size m.launch → PassesUpTo m a g i → PassesOne a b (member_at m.launch g i) → PassesUpTo m b g (i + 1)
  passes_more a b i low h o = record {
    lines = o.lines ∙ h.lines;
    launch = o.launch ∙ h.launch;
    count = o.count ∙ h.count;
    memory = o.memory ∙ h.memory;
    marks = o.marks ∙ h.marks;
    ready = o.ready ∙ h.ready;
    kept = λ k out. other k (λ e. out i (omega arith) e) ∙ h.kept k (λ j lt e. out j (omega arith) e);
    moved = λ j lt. ⊎_elim
        (λ same. subst (λ z. slice_get b.items (at z) ≡ option_map (past m (at z)) (slice_get m.items (at z))) (sym same) this)
        (λ ne. let less : j < i = omega arith in other (at j) (λ e. ne ((group_members m g there).differ j i (omega arith) low e)) ∙ h.moved j less)
        (cases_eq j i);
  }
    where
      at : ℕ → ℕ
      at j = member_at m.launch g j

      same_past : (x : ℕ) (it : Option ItemView) → option_map (past a x) it ≡ option_map (past m x) it
      same_past x it = ap (λ (ls : List held.Line). option_map (λ z. past_want z (wanted ls (ids_of a.launch x) z)) it) h.lines ∙ ap (λ (l : Launch). option_map (λ z. past_want z (wanted m.lines.items (ids_of l x) z)) it) h.launch

      other : (k : ℕ) → k ≢ member_at m.launch g i → slice_get b.items k ≡ slice_get a.items k
      other k ne = o.items k ∙ ap (λ t. if t then option_map (past a k) (slice_get a.items k) else slice_get a.items k) (ne_eqb k (member_at m.launch g i) ne)

      this : slice_get b.items (member_at m.launch g i) ≡ option_map (past m (member_at m.launch g i)) (slice_get m.items (member_at m.launch g i))
      this =
          let x = member_at m.launch g i in
          o.items x ∙ ap (λ t. if t then option_map (past a x) (slice_get a.items x) else slice_get a.items x) (eq-eqb x x refl)
          ∙ same_past x (slice_get a.items x)
          ∙ ap (option_map (past m x)) (h.kept x (λ j lt e. let same : i ≡ j = (group_members m g there).differ i j low (omega arith) e in omega arith))

  -- all of the group
  pub passes_group : (n : Machine) (i : ℕ) → group_size m.launch ≡ i → PassesUpTo m n g i → PassesGroup m n g
  passes_group n i all h = record {
    lines = h.lines;
    launch = h.launch;
    count = h.count;
    memory = h.memory;
    marks = h.marks;
    ready = h.ready;
    items = λ k. ⊎_elim
        (λ e. in_group k e.1 ∙ sym (ap (λ t. if t then option_map (past m k) (slice_get m.items k) else slice_get m.items k) e.0))
        (λ e. h.kept k (λ j lt q. e.1 (ap (group_of m.launch) q ∙ (group_members m g there).inside j (omega arith))) ∙ sym (ap (λ t. if t then option_map (past m k) (slice_get m.items k) else slice_get m.items k) e.0))
        (eqb_tells (group_of m.launch k) g);
  }
    where
      in_group : (k : ℕ) → group_of m.launch k ≡ g → slice_get n.items k ≡ option_map (past m k) (slice_get m.items k)
      in_group k e =
          let its = (group_members m g there).every k e in
          subst (λ z. slice_get n.items z ≡ option_map (past m z) (slice_get m.items z)) (sym its.1) (h.moved (number_in_group m.launch k) (let low = its.0 in omega arith))

pub stays : (v : Want) → ((p q : Bool) (to : ℕ) → v ≡ Waits p q to → ⊥) → (it : ItemView) → past_want it v ≡ it
stays Ends h it = refl
stays (Waits p q to) h it = absurd (h p q to refl)
stays (Fails kind) h it = refl
stays (Changes c to) h it = refl
stays (Reads v a i to) h it = refl
stays (Writes a i x to) h it = refl
stays (ReadsFour v a n to) h it = refl
stays (WritesFour a n u to) h it = refl
