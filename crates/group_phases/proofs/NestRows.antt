-- An item takes the places of a nest of two maps, each in its form: row by row, and of each row
-- place by place.
use Rattle.std.proofs.Common.{◌≡◌, ℕ, zero, suc, ◌+◌, ◌*◌, ◌/◌, ◌%◌, ◌<◌, ◌≤◌, ◌^◌, Bool, List, [], ◌∷◌, Some, refl, sym, ap, ◌∙◌, subst, inl, arith}
use Rattle.std.proofs.lemmas.Nat.{div-mul-add, mod-mul-add}
use Rattle.kernel_tree.specs.Formula.{Vars}
use Rattle.kernel_tree.specs.Code.{Private, Start, Stride, start_value, stride_value, Code, End, then_rest}
use Rattle.kernel_tree.specs.Launch.{ids_of}
use Rattle.kernel_tree.specs.Item.{Frame, loop_variables}
use Rattle.kernel_tree.specs.Device.{Cell, Memory}
use Rattle.kernel_tree.proofs.Stride.{turn_below}
use Rattle.lift_ir.specs.Types.{Ty, ArrayOf, IsPosition}
use Rattle.lift_ir.specs.Terms.{push, HasType, LoadsScalars}
use Rattle.lift_ir.specs.Scalars.{Scalars, at_index, mapped, scalars_of}
use Rattle.printed_form.specs.Counts.{Count, more, AtMost, load_count, variable_count, private_count}
use Rattle.printed_form.specs.Form.{Declares}
use Rattle.printed_form.specs.Marks.{Marks, loaded_marks}
use Rattle.printed_form.specs.Runs.{Fits, Setting, Known, Scratch, spot_cell, mark_cell, Later, Holds, AllHold, Due, Targets, known_after, Ran}
use Rattle.printed_form.proofs.Cells.{loads_run}
use Rattle.printed_form.proofs.Loops.{at, ran_from, Rows, due_unscratched, rest_is}
use Rattle.printed_form.proofs.Rest.{loaded_on, written_on}
use Rattle.printed_form.proofs.Runs.{at_most, fewer, fits_later, later_same, later_on, holds_later, all_hold_later, ran_on, after_silence}
use Rattle.printed_form.proofs.Writes.{ran_as}
use Rattle.group_phases.specs.Grids.{Walk, IsWalk, places, rows_taken, columns_taken, place_taken}
use Rattle.group_phases.specs.NestRows.{Nest, NestPlace, nest_scalars, one_map, IsPlaceCode, IsRowCode, IsNestCode, PlacesOf, MapsAreNests}
use Rattle.group_phases.specs.Strides.{MakesTurnsBy}
use Rattle.group_phases.specs.Written.{DoneBy}
use Rattle.group_phases.proofs.Grids.{pair_below, row_turn, column_turn, stride_same}
use Rattle.group_phases.proofs.LocalLoop.{rows_run}
use Rattle.group_phases.proofs.Strides.{Taken, taken, turns_on}
use Rattle.group_phases.proofs.TurnRuns.{EachTurnRuns, no_turns, turns_apart, turned_by}

-- lists that are the same begin the same way
first_is : (i j : ℕ) (q r : List ℕ) → i ∷ q ≡ j ∷ r → i ≡ j
first_is i j q r e = ap first e
  where
    first : List ℕ → ℕ
    first [] = i
    first (n ∷ q) = n

-- where the values of a row's places go
abbrev in_row : (columns row : ℕ) → Marks → Marks
in_row n r m cs [] = m cs []
in_row n r m cs (i ∷ q) = m cs ((r * n + i) ∷ q)

module _ (st : Setting) {A : Type 0} (num : A → ℕ) (ins : ℕ → Marks) (src : ℕ → Ty) (sources : ℕ → Scalars) (own : (p i : ℕ) → st.owners (spot_cell st (Private p) i) ≡ Some st.item) (n : Nest A) (p : NestPlace)
    (rs s : Start) (rc c : Stride) (w : Walk) (is : IsWalk w) (row_begins : start_value (ids_of st.device.launch st.item) rs ≡ w.row) (row_steps : stride_value (ids_of st.device.launch st.item) rc ≡ w.down) (begins : start_value (ids_of st.device.launch st.item) s ≡ w.column) (steps : stride_value (ids_of st.device.launch st.item) c ≡ w.across)
    (rows_fit : n.grid.rows + w.down ≤ 2 ^ 32) (columns_fit : n.grid.columns + w.across ≤ 2 ^ 32) (rows_made : MakesTurnsBy n.rows_form n.grid.rows w.down) (columns_made : MakesTurnsBy n.columns_form n.grid.columns w.across) where
  abbrev cols : ℕ
  cols = n.grid.columns

  abbrev row : ℕ → ℕ
  row u = w.row + u * w.down

  abbrev column : ℕ → ℕ
  column v = w.column + v * w.across

  abbrev pub values : Scalars
  values = nest_scalars num sources n p

  abbrev pub last_count : Count
  last_count = more (more n.inner (load_count n.loads)) (variable_count n.body)

  abbrev pub last_arrays : ℕ
  last_arrays = n.privates + private_count n.body

  row_below : (u : ℕ) → u < rows_taken n.grid w → row u < n.grid.rows
  row_below u lt = turn_below n.grid.rows w.down w.row u is.row lt

  column_below : (v : ℕ) → v < columns_taken n.grid w → column v < cols
  column_below v lt = turn_below cols w.across w.column v is.column lt

  -- what an item knows before the nest
  abbrev pub before_nest : Memory → Vars → Known
  before_nest m vars = record { memory = m; vars = vars; count = n.variables; arrays = n.privates }

  abbrev PlaceRows : (u : ℕ) → Cell → ℕ → Type 0
  PlaceRows u = Rows st column n.result (in_row cols (row u) p.to) (mapped (λ z. scalars_of num sources (push z (p.sems (row u))) n.body) (p.scalars (row u))) (columns_taken n.grid w)

  module _ (row_suits : LoadsScalars n.row_loads n.row_element) (suits : LoadsScalars n.loads n.element) (typed : HasType num src (push n.element n.types) n.body n.result) (long : Declares st.device.lengths n.privates n.body)
      (after_row : AtMost (more n.variables (load_count n.row_loads)) n.inner)
      (apart : (cs ds : List Bool) (q r : List ℕ) → IsPosition (ArrayOf (places n.grid) n.result) cs q → IsPosition (ArrayOf (places n.grid) n.result) ds r → mark_cell st (p.to cs q) ≡ mark_cell st (p.to ds r) → q ≡ r)
      (dues : (u v : ℕ) → u < rows_taken n.grid w → v < columns_taken n.grid w → Due st last_arrays n.result (at_index (row u * cols + column v) p.to))
      (m : Memory) (vars : Vars) (room : Fits last_count vars)
      (row_holds : (u : ℕ) → u < rows_taken n.grid w → Holds st (before_nest m vars) n.row_element (at_index (row u) p.row_marks) (at_index (row u) p.row_scalars))
      (holds : (u : ℕ) → u < rows_taken n.grid w → (z : Known) → Later st (before_nest m vars) z → Holds st z n.row_element (loaded_marks n.row_loads (at_index (row u) p.row_marks) n.variables) (at_index (row u) p.row_scalars)
      → AllHold st z n.types (p.env (row u)) (p.sems (row u)) × ((v : ℕ) → v < columns_taken n.grid w → Holds st z n.element (at_index (column v) (p.marks (row u))) (at_index (column v) (p.scalars (row u)))))
      (gs : AllHold st (before_nest m vars) src ins sources) where
    abbrev x : Known
    x = before_nest m vars

    place_below : (u v : ℕ) → u < rows_taken n.grid w → v < columns_taken n.grid w → row u * cols + column v < places n.grid
    place_below u v ul vl = pair_below (row u) (column v) n.grid.rows cols (row_below u ul) (column_below v vl)

    -- no cell is of two rows
    rows_own : (i j : ℕ) (b : Cell) (a v : ℕ) → i < j → j < rows_taken n.grid w → PlaceRows i b a → PlaceRows j b v → ⊥
    rows_own i j b a v lt jl e f =
        let il : i < rows_taken n.grid w = omega arith in
        let g = e.2 in
        let h = f.2 in
        let same = apart g.0 h.0 ((row i * cols + column e.0) ∷ g.1) ((row j * cols + column f.0) ∷ h.1) (place_below i e.0 il e.1, g.2) (place_below j f.0 jl f.1, h.2) (sym g.3 ∙ h.3) in
        let number : row i * cols + column e.0 ≡ row j * cols + column f.0 = first_is (row i * cols + column e.0) (row j * cols + column f.0) g.1 h.1 same in
        let rows_same : row i ≡ row j = sym (div-mul-add (row i) cols (column e.0) (column_below e.0 e.1)) ∙ ap (λ z. z / cols) number ∙ div-mul-add (row j) cols (column f.0) (column_below f.0 f.1) in
        let down : 0 < w.down = (let z = is.row in omega arith) in
        never i j lt (stride_same w.row w.down i j down rows_same)
      where
        never : (i j : ℕ) → i < j → i ≡ j → ⊥
        never i j lt e = omega arith

    rows_kept : (i : ℕ) (b : Cell) (v : ℕ) → i < rows_taken n.grid w → PlaceRows i b v → Scratch n.privates last_arrays b → ⊥
    rows_kept i b v il e h =
        let g = e.2 in
        due_unscratched st row n.result p.to values n.privates last_arrays (p.to g.0 ((row i * cols + column e.0) ∷ g.1)) ((dues i e.0 il e.1).at g.0 g.1 g.2) (subst (Scratch n.privates last_arrays) g.3 h)

    row_places : (u : ℕ) → u < rows_taken n.grid w → (cs ds : List Bool) (q r : List ℕ) → IsPosition (ArrayOf cols n.result) cs q → IsPosition (ArrayOf cols n.result) ds r → mark_cell st (in_row cols (row u) p.to cs q) ≡ mark_cell st (in_row cols (row u) p.to ds r) → q ≡ r
    row_places u ul cs ds [] r a b e = absurd a
    row_places u ul cs ds (i ∷ q) [] a b e = absurd b
    row_places u ul cs ds (i ∷ q) (j ∷ r) a b e =
        let same = apart cs ds ((row u * cols + i) ∷ q) ((row u * cols + j) ∷ r) (pair_below (row u) i n.grid.rows cols (row_below u ul) a.0, a.1) (pair_below (row u) j n.grid.rows cols (row_below u ul) b.0, b.1) e in
        let number : row u * cols + i ≡ row u * cols + j = first_is (row u * cols + i) (row u * cols + j) q r same in
        let first : i ≡ j = omega arith in
        ap (λ z. z ∷ q) first ∙ ap (λ z. j ∷ z) (rest_is (row u * cols + i) (row u * cols + j) q r same)

    -- a row, in the loops that stand around it
    one_row : (u : ℕ) → u < rows_taken n.grid w → (m2 : Memory) (vars2 : Vars) → Later st x (at x m2 vars2) → (gs2 : List Frame) (before after : Code) → IsRowCode num st.device.launch st.item ins n p s c (loop_variables gs2) (row u) before after
        → Ran st (at x m2 vars2) gs2 before after last_count last_arrays (Scratch n.privates last_arrays) (PlaceRows u) (λ y. Unit {0})
    one_row u ul m2 vars2 later gs2 before after k =
        let y = at x m2 vars2 in
        let us = loop_variables gs2 in
        let low = more n.variables (load_count n.row_loads) in
        let long1 = fits_later room later.kept in
        let more_words = after_row.words in
        let more_fours = after_row.fours in
        let here = holds_later st x y n.row_element (at_index (row u) p.row_marks) (at_index (row u) p.row_scalars) later (row_holds u ul) in
        let r = loads_run st us gs2 refl ins n.row_loads n.row_element (at_index (row u) p.row_marks) (at_index (row u) p.row_scalars) y before k.0 row_suits k.1 (fewer long1 (omega arith) (omega arith)) here in
        let z = known_after y r.deeds r.after low n.privates in
        let z2 : Known = record { memory = z.memory; vars = z.vars; count = n.inner; arrays = n.privates } in
        let still = later_same st z in
        let raise : Later st z z2 = record { more = more_words; more_fours = more_fours; more_arrays = omega arith; kept = still.kept; same = still.same } in
        let up2 = later_on st x z z2 (later_on st x y z later r.later) raise in
        let good = holds_later st z z2 n.row_element (loaded_marks n.row_loads (at_index (row u) p.row_marks) n.variables) (at_index (row u) p.row_scalars) raise r.good in
        let at_z = holds u ul z2 up2 good in
        let long2 = fits_later long1 r.later.kept in
        let t = taken st.device st.item s c cols w.column w.across begins steps is.column gs2 us refl (IsPlaceCode num st.device.launch st.item ins n p (row u)) columns_fit n.columns_form columns_made k.0 after
        (λ vs i b h. (then_rest h.0 after, loaded_on after st.device.launch st.item ins vs n.loads (at_index i (p.marks (row u))) n.inner b h.0 h.1, written_on after st.device.launch st.item ins num vs (push (loaded_marks n.loads (at_index i (p.marks (row u))) n.inner) (p.env (row u))) n.privates (more n.inner (load_count n.loads)) n.body (at_index (row u * cols + i) p.to) h.0 End h.2))
        k.2 in
        let w1 = in_row cols (row u) p.to in
        let T = mapped (λ q. scalars_of num sources (push q (p.sems (row u))) n.body) (p.scalars (row u)) in
        let r2 = rows_run st num ins src sources own gs2 k.0 after t.form t.takes cols column (λ v vl. column_below v (subst (λ q. v < q) t.count_is vl)) (λ a b e. stride_same w.column w.across a b (let q = is.column in omega arith) e)
        n.loads n.body n.types (p.env (row u)) (p.sems (row u)) n.element n.result (p.marks (row u)) w1 (p.scalars (row u)) z2 suits typed long (row_places u ul) (λ v vl. dues u v ul (subst (λ q. v < q) t.count_is vl))
        (λ v vl. t.each v (subst (λ q. v < q) t.count_is vl)) long2 (λ v vl. at_z.1 v (subst (λ q. v < q) t.count_is vl)) at_z.0 (all_hold_later st x z2 src ins sources up2 gs) in
        let r3 : Ran st z2 gs2 k.0 after last_count last_arrays (Scratch n.privates last_arrays) (PlaceRows u) (λ y. Unit {0}) = subst (λ q. Ran st z2 gs2 k.0 after last_count last_arrays (Scratch n.privates last_arrays) (Rows st column n.result w1 T q) (λ y. Unit {0})) t.count_is r2 in
        let r4 : Ran st z gs2 k.0 after last_count last_arrays (Scratch n.privates last_arrays) (PlaceRows u) (λ y. Unit {0}) = ran_from st z2 gs2 k.0 after low n.privates last_count last_arrays last_count last_arrays (λ y. Unit {0}) after_row (omega arith) (at_most (omega arith) (omega arith)) (omega arith) (λ m vars g. g) r3 in
        ran_on st y gs2 before k.0 after low n.privates last_count last_arrays after_silence r r4

    -- the value at a place of a row
    value_at : (a b : ℕ) → b < cols → at_index (a * cols + b) values ≡ (λ cs r. scalars_of num sources (push (at_index b (p.scalars a)) (p.sems a)) n.body cs r)
    value_at a b bl =
        ap (λ z. (λ (cs : List Bool) (r : List ℕ). scalars_of num sources (push (at_index ((a * cols + b) % cols) (p.scalars z)) (p.sems z)) n.body cs r)) (div-mul-add a cols b bl)
        ∙ ap (λ z. (λ (cs : List Bool) (r : List ℕ). scalars_of num sources (push (at_index z (p.scalars a)) (p.sems a)) n.body cs r)) (mod-mul-add a cols b bl)

    rows_places : (b : Cell) (v : ℕ) → DoneBy PlaceRows (rows_taken n.grid w) b v → PlacesOf st num sources n p w b v
    rows_places b v h =
        let u = h.0 in
        let e = h.2 in
        let C = columns_taken n.grid w in
        let t = u * C + e.0 in
        let g = e.2 in
        let is_row : row (t / C) ≡ row u = ap row (div-mul-add u C e.0 e.1) in
        let is_column : column (t % C) ≡ column e.0 = ap column (mod-mul-add u C e.0 e.1) in
        let number : row u * cols + column e.0 ≡ place_taken n.grid w t = sym (ap (λ z. z * cols + column (t % C)) is_row ∙ ap (λ z. row u * cols + z) is_column) in
        (t, pair_below u e.0 (rows_taken n.grid w) C h.1 e.1, subst (λ z. Targets st n.result (at_index z p.to) (at_index z values) b v) number (g.0, g.1, g.2, g.3, g.4 ∙ ap (λ f. f g.0 g.1) (sym (value_at (row u) (column e.0) (column_below e.0 e.1)))))

    places_rows : (b : Cell) (v : ℕ) → PlacesOf st num sources n p w b v → DoneBy PlaceRows (rows_taken n.grid w) b v
    places_rows b v h =
        let t = h.0 in
        let C = columns_taken n.grid w in
        let g = h.2 in
        let vl = column_turn n.grid w is t h.1 in
        (t / C, row_turn n.grid w is t h.1, (t % C, vl, (g.0, g.1, g.2, g.3, g.4 ∙ ap (λ f. f g.0 g.1) (value_at (row (t / C)) (column (t % C)) (column_below (t % C) vl)))))

    -- the whole nest
    module _ (fs : List Frame) (ts : List ℕ) (at_ts : loop_variables fs ≡ ts) (code rest : Code) (printed : IsNestCode num st.device.launch st.item ins n p rs rc s c ts code rest) where
      outer : Taken st.device st.item rs rc n.grid.rows w.row w.down row_begins row_steps is.row fs ts at_ts (IsRowCode num st.device.launch st.item ins n p s c) code rest
      outer = taken st.device st.item rs rc n.grid.rows w.row w.down row_begins row_steps is.row fs ts at_ts (IsRowCode num st.device.launch st.item ins n p s c) rows_fit n.rows_form rows_made code rest
          (λ us r b h. (
            then_rest h.0 rest,
            loaded_on rest st.device.launch st.item ins us n.row_loads (at_index r p.row_marks) n.variables b h.0 h.1,
            turns_on st.device st.item n.columns_form s c us cols (IsPlaceCode num st.device.launch st.item ins n p r) rest
                (λ vs i b2 h2. (then_rest h2.0 rest, loaded_on rest st.device.launch st.item ins vs n.loads (at_index i (p.marks r)) n.inner b2 h2.0 h2.1, written_on rest st.device.launch st.item ins num vs (push (loaded_marks n.loads (at_index i (p.marks r)) n.inner) (p.env r)) n.privates (more n.inner (load_count n.loads)) n.body (at_index (r * cols + i) p.to) h2.0 End h2.2))
                h.0 h.2,
          ))
          printed

      own_below : (i j : ℕ) (b : Cell) (a v : ℕ) → i < j → j < outer.form.count → PlaceRows i b a → PlaceRows j b v → ⊥
      own_below i j b a v lt jl e f = rows_own i j b a v lt (subst (λ q. j < q) outer.count_is jl) e f

      kept_below : (i : ℕ) (b : Cell) (v : ℕ) → i < outer.form.count → PlaceRows i b v → Scratch n.privates last_arrays b → ⊥
      kept_below i b v il e h = rows_kept i b v (subst (λ q. i < q) outer.count_is il) e h

      rows : EachTurnRuns st fs code rest outer.form outer.takes x (Scratch n.privates last_arrays) (DoneBy PlaceRows) PlaceRows (λ t m vars. Unit {0})
          (no_turns st fs code rest outer.form outer.takes x (Scratch n.privates last_arrays) PlaceRows (λ t m vars. Unit {0}) own_below kept_below)
          (turns_apart st fs code rest outer.form outer.takes x (Scratch n.privates last_arrays) PlaceRows (λ t m vars. Unit {0}) own_below kept_below) last_count last_arrays
      rows u ul m2 vars2 later inv =
          let ul2 = subst (λ q. u < q) outer.count_is ul in
          one_row u ul2 m2 vars2 later (outer.form.frames u) outer.form.first outer.form.last (outer.each u ul2)

      reach : AtMost x.count last_count
      reach = let words = after_row.words in let fours = after_row.fours in at_most (omega arith) (omega arith)

      pub nest_run : Ran st x fs code rest last_count last_arrays (Scratch n.privates last_arrays) (PlacesOf st num sources n p w) (λ y. Unit {0})
      nest_run =
          let r = turned_by st fs code rest outer.form outer.takes x (Scratch n.privates last_arrays) PlaceRows (λ t m vars. Unit {0}) own_below kept_below last_count last_arrays reach (omega arith) tt rows in
          let r2 = subst (λ q. Ran st x fs code rest last_count last_arrays (Scratch n.privates last_arrays) (DoneBy PlaceRows q) (λ y. Unit {0})) outer.count_is r in
          ran_as st x fs code rest last_count last_arrays last_count last_arrays (λ y. Unit {0}) reach (omega arith) (λ m vars z. z) (λ b z. z) (λ b v z. inl (rows_places b v z)) (λ b v z. places_rows b v z) r2

-- one map is a nest
pub maps_are_nests : (A : Type 0) → MapsAreNests A
maps_are_nests A num l item ins n p m rs rc s c around code rest h = λ i lt own. at_row i lt
  where
    at_row : (i : ℕ) → i < 1 → IsRowCode num l item ins (one_map n m) p s c around i code rest
    at_row zero lt = (code, refl, h)
    at_row (suc i) lt = absurd (omega arith)
