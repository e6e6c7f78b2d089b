use Rattle.std.proofs.Common.{◌≡◌, ◌∙◌, ◌+◌, ◌-◌, ◌<◌, ◌≤◌, Some, refl, sym, ap, subst, set, set-set, arith, length}
use Rattle.std.specs.Prelude.{option_map, slice_get, slice_index_or, ◌==◌, if◌then◌else◌}
use Rattle.std.specs.Vec.{vec_len, with_item}
use Rattle.std.proofs.lemmas.List.{length-set}
use Rattle.ndrange_machine.specs.declared.items.Items.TheInside.{Inside}
use Rattle.ndrange_machine.specs.declared.items.Place.{Place}
use Rattle.ndrange_machine.specs.declared.change.Change.TheVariants.{Sets, SetsFour, Begins, Repeats, Leaves}
use Rattle.ndrange_machine.specs.Changes.{changed}
use Rattle.ndrange_machine.specs.ItemView.{ItemView}
use Rattle.ndrange_machine.proofs.Flat.{Moves, Moved, cell_put, counted, count_on, has_part, inside_set, inside_still, items_changed, laid_on, moved_as, moves_word, moves_four, moves_begin, moves_full, moves_again, moves_nowhere, moves_out, moves_not}
use Rattle.ndrange_machine.proofs.Rows.{get_or_is, get_there, some_is}
use Rattle.ndrange_machine.proofs.items.Items.change.Goals.{in-Sets, in-SetsFour, in-Begins+then-inside-self, in-Begins+else-inside-self, in-Repeats+then-inside-gt0, in-Repeats+else-inside-gt0, in-Leaves, in-Keeps}
use Rattle.ndrange_machine.proofs.items.Items.change.Goals as goal

pub put-requires : goal.put-requires
put-requires c =
    let x = c.self.inside in
    let le = has_part x c.args.self.now c.self.view_is x.words.items x.variables c.args.item c.self.invariant.words c.requires in
    omega (arith, le, ap length c.deref_mut.ensures.value)

pub put-requires-in-SetsFour : goal.put-requires-in-SetsFour
put-requires-in-SetsFour c =
    let x = c.self.inside in
    let le = has_part x c.args.self.now c.self.view_is x.vectors.items x.fours c.args.item c.self.invariant.vectors c.requires in
    omega (arith, le, ap length c.deref_mut-in-SetsFour.ensures.value)

pub index-requires : goal.index-requires
index-requires c = let n = counted c.self.inside c.args.self.now c.self.view_is in omega (arith, n, c.requires, c.self.inside.places.ok.0)

pub put-requires-then-inside-self : goal.put-requires-then-inside-self
put-requires-then-inside-self c =
    let x = c.self.inside in
    let le = has_part x c.args.self.now c.self.view_is x.turns.items x.depth c.args.item c.self.invariant.turns c.requires in
    omega (arith, le, ap length c.deref_mut-then-inside-self.ensures.value)

pub index_mut-requires : goal.index_mut-requires
index_mut-requires c = let n = counted c.self.inside c.args.self.now c.self.view_is in omega (arith, n, c.requires, c.self.inside.places.ok.0)

pub index-requires-in-Repeats : goal.index-requires-in-Repeats
index-requires-in-Repeats c = let n = counted c.self.inside c.args.self.now c.self.view_is in omega (arith, n, c.requires, c.self.inside.places.ok.0)

pub put-requires-then-inside-gt0 : goal.put-requires-then-inside-gt0
put-requires-then-inside-gt0 c =
    let x = c.self.inside in
    let le = has_part x c.args.self.now c.self.view_is x.turns.items x.depth c.args.item c.self.invariant.turns c.requires in
    omega (arith, le, ap length c.deref_mut-then-inside-gt0.ensures.value)

pub index-requires-in-Leaves : goal.index-requires-in-Leaves
index-requires-in-Leaves c = let n = counted c.self.inside c.args.self.now c.self.view_is in omega (arith, n, c.requires, c.self.inside.places.ok.0)

pub index_mut-requires-in-Leaves : goal.index_mut-requires-in-Leaves
index_mut-requires-in-Leaves c = let n = counted c.self.inside c.args.self.now c.self.view_is in omega (arith, n, c.requires, c.self.inside.places.ok.0)

-- no change makes the places more or fewer
pub index_mut-requires-2 : goal.index_mut-requires-2
index_mut-requires-2 c =
    let z = c.match-change.self-inside in
    let n = counted c.self.inside c.args.self.now c.self.view_is in
    let same : vec_len z.places ≡ vec_len c.self.inside.places =
    elim c.match-change.branch as (λ v. vec_len z.places ≡ vec_len c.self.inside.places) [
      | in-Sets w ↦ ap (λ (y : Inside). vec_len y.places) w.self-inside-is
      | in-SetsFour w ↦ ap (λ (y : Inside). vec_len y.places) w.self-inside-is
      | in-Begins+then-inside-self w ↦ ap (λ (y : Inside). vec_len y.places) w.self-inside-is
      | in-Begins+else-inside-self w ↦ ap (λ (y : Inside). vec_len y.places) w.self-inside-is
      | in-Repeats+then-inside-gt0 w ↦ ap (λ (y : Inside). vec_len y.places) w.self-inside-is
      | in-Repeats+else-inside-gt0 w ↦ ap (λ (y : Inside). vec_len y.places) w.self-inside-is
      | in-Leaves w ↦ ap (λ (y : Inside). vec_len y.places) w.self-inside-is
      | in-Keeps w ↦ ap (λ (y : Inside). vec_len y.places) w.self-inside-is
    ]
    in
    omega (arith, n, same, c.requires, c.self.inside.places.ok.0)

-- the place that the item has then
after : goal.After-self-2-1 → Place
after c = record { line = c.args.line; inside = c.index_mut-2.result.now.inside }

there : (c : goal.After-self-2-1) → c.args.item < length c.self.inside.places.items
there c = let n = counted c.self.inside c.args.self.now c.self.view_is in omega (arith, n, c.requires)

-- the place that it had
stood : (c : goal.After-self-2-1) → (p : Place) × (slice_get c.self.inside.places.items c.args.item ≡ Some p)
stood c = get_there c.self.inside.places.items c.args.item (there c)

moved : (c : goal.After-self-2-1) → Moved c.self.inside c.match-change.self-inside c.args.item c.args.line (stood c).0 c.args.change
moved c =
    let x = c.self.inside in
    let z = c.match-change.self-inside in
    let j = c.args.item in
    let p = (stood c).0 in
    let at : slice_get x.places.items j ≡ Some p = (stood c).1 in
    let line = c.args.line in
    let change = c.args.change in
    let laid = c.self.invariant in
    let low : p.inside ≤ x.depth = laid.inside j p at in
    let read : (r : Place) → r ≡ slice_index_or x.places.items j r → slice_get x.places.items j ≡ Some r = λ r. get_or_is x.places.items j r (there c) in
    let n = counted x c.args.self.now c.self.view_is in
    let in_now : j < length c.args.self.now = let lt = there c in omega (arith, lt, n) in
    let words = has_part x c.args.self.now c.self.view_is x.words.items x.variables j laid.words in_now in
    let vectors = has_part x c.args.self.now c.self.view_is x.vectors.items x.fours j laid.vectors in_now in
    let turns = has_part x c.args.self.now c.self.view_is x.turns.items x.depth j laid.turns in_now in
    elim c.match-change.branch as (λ v. Moved x z j line p change) [
      | in-Sets w ↦
          let v = w.in-Sets.variable in
          let word = w.in-Sets.word in
          moved_as x z j line p change w.self-inside-is refl w.in-Sets.is (record {
            depth = refl;
            variables = refl;
            fours = refl;
            inside = p.inside;
            here = λ q. inside_still x.places.items j p q at;
            places = λ q. refl;
            moves = subst (λ ws. Moves x j p (record { line = line; inside = p.inside }) (Sets v word) x.turns.items ws x.vectors.items)
                (cell_put x.words w.deref_mut.result.now w.put.new.cells x.variables j v word w.deref_mut.ensures.value w.put.ensures)
                (moves_word x j line p low v word words);
          })
      | in-SetsFour w ↦
          let v = w.in-SetsFour.variable in
          let four = w.in-SetsFour.four in
          moved_as x z j line p change w.self-inside-is refl w.in-SetsFour.is (record {
            depth = refl;
            variables = refl;
            fours = refl;
            inside = p.inside;
            here = λ q. inside_still x.places.items j p q at;
            places = λ q. refl;
            moves = subst (λ us. Moves x j p (record { line = line; inside = p.inside }) (SetsFour v four) x.turns.items x.words.items us)
                (cell_put x.vectors w.deref_mut-in-SetsFour.result.now w.put-in-SetsFour.new.cells x.fours j v four w.deref_mut-in-SetsFour.ensures.value w.put-in-SetsFour.ensures)
                (moves_four x j line p low v four vectors);
          })
      | in-Begins+then-inside-self w ↦
          let turn = w.in-Begins.turn in
          let r = w.index.result.now in
          let here = read r w.index.ensures in
          let within : r.inside ≤ x.depth = laid.inside j r here in
          moved_as x z j line p change w.self-inside-is (some_is p r (sym at ∙ here)) w.in-Begins.is (record {
            depth = refl;
            variables = refl;
            fours = refl;
            inside = r.inside + 1;
            here = λ q. inside_set x.places.items j r (record { line = w.index_mut.result.now.line; inside = r.inside + 1 }) q here;
            places = λ q. set-set x.places.items j (record { line = w.index_mut.result.now.line; inside = r.inside + 1 }) q;
            moves = subst (λ ts. Moves x j r (record { line = line; inside = r.inside + 1 }) (Begins turn) ts x.words.items x.vectors.items)
                (cell_put x.turns w.deref_mut-then-inside-self.result.now w.put-then-inside-self.new.cells x.depth j r.inside turn w.deref_mut-then-inside-self.ensures.value w.put-then-inside-self.ensures)
                (moves_begin x j line r within turns turn w.if-inside-self.true);
          })
      | in-Begins+else-inside-self w ↦
          let r = w.index.result.now in
          let here = read r w.index.ensures in
          let within : r.inside ≤ x.depth = laid.inside j r here in
          moved_as x z j line p change w.self-inside-is (some_is p r (sym at ∙ here)) w.in-Begins.is (record {
            depth = refl;
            variables = refl;
            fours = refl;
            inside = r.inside;
            here = λ q. inside_still x.places.items j r q here;
            places = λ q. refl;
            moves = moves_full x j line r within turns w.in-Begins.turn w.if-inside-self.false;
          })
      | in-Repeats+then-inside-gt0 w ↦
          let turn = w.in-Repeats.turn in
          let r = w.index-in-Repeats.result.now in
          let here = read r w.index-in-Repeats.ensures in
          let within : r.inside ≤ x.depth = laid.inside j r here in
          moved_as x z j line p change w.self-inside-is (some_is p r (sym at ∙ here)) w.in-Repeats.is (record {
            depth = refl;
            variables = refl;
            fours = refl;
            inside = r.inside;
            here = λ q. inside_still x.places.items j r q here;
            places = λ q. refl;
            moves = subst (λ ts. Moves x j r (record { line = line; inside = r.inside }) (Repeats turn) ts x.words.items x.vectors.items)
                (cell_put x.turns w.deref_mut-then-inside-gt0.result.now w.put-then-inside-gt0.new.cells x.depth j (r.inside - 1) turn w.deref_mut-then-inside-gt0.ensures.value w.put-then-inside-gt0.ensures)
                (moves_again x j line r within turns turn w.if-inside-gt0.true);
          })
      | in-Repeats+else-inside-gt0 w ↦
          let r = w.index-in-Repeats.result.now in
          let here = read r w.index-in-Repeats.ensures in
          let within : r.inside ≤ x.depth = laid.inside j r here in
          moved_as x z j line p change w.self-inside-is (some_is p r (sym at ∙ here)) w.in-Repeats.is (record {
            depth = refl;
            variables = refl;
            fours = refl;
            inside = r.inside;
            here = λ q. inside_still x.places.items j r q here;
            places = λ q. refl;
            moves = moves_nowhere x j line r within turns w.in-Repeats.turn w.if-inside-gt0.false;
          })
      | in-Leaves w ↦
          let r = w.index-in-Leaves.result.now in
          let here = read r w.index-in-Leaves.ensures in
          let within : r.inside ≤ x.depth = laid.inside j r here in
          moved_as x z j line p change w.self-inside-is (some_is p r (sym at ∙ here)) w.in-Leaves.is (record {
            depth = refl;
            variables = refl;
            fours = refl;
            inside = w.saturating_sub.result;
            here = λ q. inside_set x.places.items j r (record { line = w.index_mut-in-Leaves.result.now.line; inside = w.saturating_sub.result }) q here;
            places = λ q. set-set x.places.items j (record { line = w.index_mut-in-Leaves.result.now.line; inside = w.saturating_sub.result }) q;
            moves = subst (λ m. Moves x j r (record { line = line; inside = m }) Leaves x.turns.items x.words.items x.vectors.items) (sym w.saturating_sub.ensures) (moves_out x j line r within turns);
          })
      | in-Keeps w ↦
          moved_as x z j line p change w.self-inside-is refl w.in-Keeps.is (record {
            depth = refl;
            variables = refl;
            fours = refl;
            inside = p.inside;
            here = λ q. inside_still x.places.items j p q at;
            places = λ q. refl;
            moves = moves_not x j line p low turns;
          })
    ]

-- what the items are then
made : goal.After-self-2-1 → Inside
made c =
    let z = c.match-change.self-inside in
    record { depth = z.depth; variables = z.variables; fours = z.fours; places = with_item z.places c.args.item (after c); turns = z.turns; words = z.words; vectors = z.vectors }

places_are : (c : goal.After-self-2-1) → (made c).places.items ≡ set c.self.inside.places.items c.args.item (after c)
unfolding after made
places_are c = (moved c).places (after c)

-- the last write leaves it in as many loops as the change did
moves : (c : goal.After-self-2-1) → Moves c.self.inside c.args.item (stood c).0 (after c) c.args.change (made c).turns.items (made c).words.items (made c).vectors.items
unfolding after made
moves c =
    let x = c.self.inside in
    let z = c.match-change.self-inside in
    let j = c.args.item in
    let m = moved c in
    let old = (stood c).0 in
    let r = c.index_mut-2.result.now in
    let long = sym (length-set z.places.items j old) ∙ ap length (m.places old) ∙ length-set x.places.items j old in
    let lt = there c in
    let is : r.inside ≡ m.inside = m.here r (get_or_is z.places.items j r (omega (arith, lt, long)) c.index_mut-2.ensures.value) in
    subst (λ n. Moves x j old (record { line = c.args.line; inside = n }) c.args.change z.turns.items z.words.items z.vectors.items) (sym is) m.moves

pub invariant_of-self : goal.invariant_of-self
unfolding after made
invariant_of-self c =
    let m = moved c in
    laid_on c.self.inside (made c) c.args.item (stood c).0 (after c) c.args.change (stood c).1 (places_are c) m.depth m.variables m.fours (moves c) c.self.invariant

pub returns-clause-count : goal.returns-clause-count
unfolding after made
returns-clause-count c =
    let m = moved c in
    count_on c.self.inside (made c) c.args.item (stood c).0 (after c) c.args.change (stood c).1 (places_are c) m.depth m.variables m.fours (moves c) ∙ ap length c.self.view_is

pub returns-clause-items : goal.returns-clause-items
unfolding after made
returns-clause-items c = λ i.
    let m = moved c in
    let change : ItemView → ItemView = λ it. changed it c.args.change c.args.line in
    items_changed c.self.inside (made c) c.args.item (stood c).0 (after c) c.args.change (stood c).1 (places_are c) m.depth m.variables m.fours (moves c) i
    ∙ ap (λ z. if i == c.args.item then option_map change (slice_get z i) else slice_get z i) c.self.view_is
