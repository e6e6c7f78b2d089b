-- A kernel that is a statement over rows of groups around a statement over the groups of a row
-- takes each group through its turns, row by row; a row's scalars are loaded where the row begins.
use Rattle.std.proofs.Common.{◌≡◌, ℕ, ◌+◌, ◌*◌, ◌/◌, ◌%◌, ◌<◌, List, [], refl, sym, ap, ◌∙◌, subst, inl, arith}
use Rattle.std.specs.Prelude.{map}
use Rattle.std.proofs.lemmas.Nat.{div-add-mod'}
use Rattle.std.proofs.Math.Nat.{mod-lt}
use Rattle.kernel_tree.specs.declared.tree.Dimension.TheVariants.{X, Y}
use Rattle.kernel_tree.specs.Formula.{Vars}
use Rattle.kernel_tree.specs.Code.{Input, Output, Local, Private, FromGroupId, ByGroupCount, End, Kernel}
use Rattle.kernel_tree.specs.Launch.{Launch, Cells, IsWhole, group_of, groups_across, groups_down, item_count, ids_of}
use Rattle.kernel_tree.specs.Item.{Frame, item, loop_variables}
use Rattle.kernel_tree.specs.Device.{Device, device_of, still}
use Rattle.kernel_tree.specs.Rounds.{Loop}
use Rattle.kernel_tree.proofs.Grouping.{group_in_launch, group_column, group_row_is}
use Rattle.kernel_tree.proofs.Stride.{turn_below}
use Rattle.barrier_placement.specs.Fencing.{Fencing}
use Rattle.printed_form.specs.Counts.{more, no_variables, load_count}
use Rattle.printed_form.specs.MapForms.{variables_in}
use Rattle.printed_form.specs.Marks.{Mark, Nowhere, Register, Lane, Spot}
use Rattle.printed_form.specs.Runs.{Fits, Setting, Known, HoldsAt, known_after}
use Rattle.printed_form.specs.Whole.{IsGiven}
use Rattle.printed_form.proofs.Cells.{loads_run}
use Rattle.printed_form.proofs.Runs.{at_most, fewer, fits_later}
use Rattle.group_phases.specs.Bodies.{HasInputs, CanHop}
use Rattle.group_phases.specs.GridPhases.{GridList, group_turns, turn_at, IsGroupRow, HoldsRow, HoldsTurn, knows, work_of, row_variables, variables_at, IsPhase}
use Rattle.group_phases.specs.GridPrinted.{IsGridKernel, IsGridPhased}
use Rattle.group_phases.specs.Grids.{Walk, IsWalk, rows_taken, columns_taken, group_walk}
use Rattle.group_phases.specs.Groups.{Body, GroupTurns}
use Rattle.group_phases.specs.Hops.{Hops}
use Rattle.group_phases.specs.Strides.{frames_in, statement_form}
use Rattle.group_phases.specs.TurnForms.{Form, TakesTurns, nest_form}
use Rattle.group_phases.proofs.Grids.{some_factor, place_row, place_column}
use Rattle.group_phases.proofs.Held.{held_here}
use Rattle.group_phases.proofs.Hops.{hops_of_form, hops_after, nest_hops, hops_turns}
use Rattle.group_phases.proofs.Phased.{before_in, code_in, first_in, last_in}
use Rattle.group_phases.proofs.Strides.{statement_takes, frames_variables, frames_still}
use Rattle.group_phases.proofs.TurnForms.{below}

-- how the groups of a launch lie in its grid
module _ (l : Launch) (whole : IsWhole l) (j : ℕ) (jl : j < item_count l) where
  group_low : group_of l j < groups_down l * groups_across l
  group_low = let z = group_in_launch l whole j jl in omega arith

  pub group_walks : IsWalk (group_walk l (group_of l j))
  group_walks = record {
    row = below (group_of l j) (group_of l j / groups_across l) (group_of l j % groups_across l) (groups_down l) (groups_across l) (div-add-mod' (group_of l j) (groups_across l)) group_low;
    column = mod-lt (group_of l j) (some_factor (group_of l j) (groups_down l) (groups_across l) group_low);
  }

module _ {A : Type 0} (num : A → ℕ) (k : Kernel) (l : Launch) (c : Cells) (owner : (array index : ℕ) → ℕ) (wanted : List (List ℕ)) (p : GridList A) (h : IsGridPhased p num k l c owner wanted) (fence : ℕ → Fencing) (printed : IsGridKernel num k l p fence) where
  abbrev d : Device
  d = device_of k l c

  abbrev walk : ℕ → Walk
  walk j = group_walk l (group_of l j)

  abbrev row_loop : Loop
  row_loop = record { start = FromGroupId Y; bound = printed.rows_bound; stride = ByGroupCount Y; body = printed.row_body; after = End }

  abbrev column_loop : Loop
  column_loop = record { start = FromGroupId X; bound = printed.columns_bound; stride = ByGroupCount X; body = printed.body; after = End }

  abbrev width : ℕ → ℕ
  width j = columns_taken p.grid (walk j)

  abbrev rows : ℕ → Form
  rows j = statement_form p.rows_form d j [] row_loop (rows_taken p.grid (walk j))

  abbrev pub frames : (j u v : ℕ) → List Frame
  frames j u v = frames_in p.columns_form d j (frames_in p.rows_form d j [] row_loop u) column_loop v

  abbrev pub the_body : Body
  the_body = record {
    count = p.count;
    before = before_in fence (IsPhase num l p) 0 p.count printed.body printed.phases;
    fence = fence;
    code = code_in fence (IsPhase num l p) 0 p.count printed.body printed.phases;
    frames = λ t j. frames j (t / width j) (t % width j);
    turns = group_turns l p;
  }

  first : printed.body ≡ the_body.before 0
  first = first_in fence (IsPhase num l p) 0 p.count printed.body printed.phases

  row_begins : (j : ℕ) → j < item_count l → (ids_of l j).y.group_id ≡ (walk j).row
  row_begins j jl = group_row_is l h.room.whole j jl

  column_begins : (j : ℕ) → j < item_count l → (ids_of l j).x.group_id ≡ (walk j).column
  column_begins j jl = group_column l h.room.whole j jl

  rows_take : (j : ℕ) → j < item_count l → TakesTurns d j [] k.code End (rows j)
  rows_take j jl =
      subst (λ q. TakesTurns d j [] q End (rows j)) (sym printed.code)
      (statement_takes d j (FromGroupId Y) (ByGroupCount Y) p.grid.rows (walk j).row (groups_down l) (row_begins j jl) refl (group_walks l h.room.whole j jl).row [] printed.rows_bound printed.row_body h.room.rows printed.rows_bound_is p.rows_form h.room.rows_made)

  columns_take : (j u : ℕ) → j < item_count l → TakesTurns d j ((rows j).frames u) printed.row_rest End (statement_form p.columns_form d j ((rows j).frames u) column_loop (width j))
  columns_take j u jl =
      subst (λ q. TakesTurns d j ((rows j).frames u) q End (statement_form p.columns_form d j ((rows j).frames u) column_loop (width j))) (sym printed.inner)
      (statement_takes d j (FromGroupId X) (ByGroupCount X) p.grid.columns (walk j).column (groups_across l) (column_begins j jl) refl (group_walks l h.room.whole j jl).column ((rows j).frames u) printed.columns_bound printed.body h.room.columns printed.columns_bound_is p.columns_form h.room.columns_made)

  -- the loops around the rows and around the phases
  row_around : (j u : ℕ) → j < item_count l → loop_variables ((rows j).frames u) ≡ row_variables num l p ((walk j).row + u * groups_down l)
  row_around j u jl = frames_variables d j (FromGroupId Y) (ByGroupCount Y) p.grid.rows (walk j).row (groups_down l) (row_begins j jl) refl (group_walks l h.room.whole j jl).row p.rows_form [] [] row_loop refl refl refl u

  pub around : (t j : ℕ) → j < item_count l → t < group_turns l p (group_of l j) → loop_variables (the_body.frames t j) ≡ variables_at num l p (turn_at l p t j)
  around t j jl tl =
      let is = group_walks l h.room.whole j jl in
      let at_row = row_around j (t / width j) jl ∙ ap (row_variables num l p) (sym (place_row p.grid (walk j) is t tl)) in
      frames_variables d j (FromGroupId X) (ByGroupCount X) p.grid.columns (walk j).column (groups_across l) (column_begins j jl) refl is.column p.columns_form ((rows j).frames (t / width j)) (row_variables num l p (turn_at l p t j / p.grid.columns)) column_loop refl refl at_row (t % width j)
      ∙ ap (λ z. variables_of (row_variables num l p (turn_at l p t j / p.grid.columns)) z) (sym (place_column p.grid (walk j) is t tl))
    where
      variables_of : List ℕ → ℕ → List ℕ
      variables_of ts i = variables_in p.columns_form ts i

  pub same_frames : (t i j : ℕ) → group_of l i ≡ group_of l j → map still (the_body.frames t i) ≡ map still (the_body.frames t j)
  same_frames t i j e =
      let C = λ (g : ℕ). columns_taken p.grid (group_walk l g) in
      ap (λ g. map still (frames i (t / C g) (t % C g))) e
      ∙ frames_still p.columns_form d i j ((rows i).frames (t / width j)) ((rows j).frames (t / width j)) column_loop (t % width j) (frames_still p.rows_form d i j [] [] row_loop (t / width j) refl)

  -- what is known of the variables: there are enough; and they hold a row's scalars, and from phase
  -- 1 on a turn's
  abbrev Long : Vars → Type 0
  Long vars = Fits p.variables vars

  abbrev At : (j q u v : ℕ) → Vars → Type 0
  At j q u v vars =
      Long vars × HoldsRow num l p ((walk j).row + u * groups_down l) vars
      × (0 < q → HoldsTurn num l p (((walk j).row + u * groups_down l) * p.grid.columns + ((walk j).column + v * groups_across l)) vars)

  abbrev AtRow : (j u : ℕ) → Vars → Type 0
  AtRow j u vars = Long vars × HoldsRow num l p ((walk j).row + u * groups_down l) vars

  -- the loads of a row
  given_at : (j : ℕ) (st : Setting) (x : Known) (m : Mark) (v : ℕ) → st.device ≡ d → st.item ≡ j → HasInputs j st.owners x.memory c → IsGiven c m v → HoldsAt (record { device = d; item = j; owners = st.owners; locals = 0 }) x m v
  given_at j st x (Spot (Input a) i) v e f ready g = record { within = g.0; may = inl (ready.free a i); filled = tt; holds = ready.inputs a i g.0 ∙ g.1 }
  given_at j st x (Spot (Output a) i) v e f ready g = absurd g
  given_at j st x (Spot (Local a) i) v e f ready g = absurd g
  given_at j st x (Spot (Private a) i) v e f ready g = absurd g
  given_at j st x (Register r) v e f ready g = absurd g
  given_at j st x (Lane r i) v e f ready g = absurd g
  given_at j st x Nowhere v e f ready g = absurd g

  loads : (j u : ℕ) → j < item_count l → u < rows_taken p.grid (walk j) → (vars : Vars) → Long vars → CanHop d j c (item printed.row_body ((rows j).frames u) vars) (λ y. (y ≡ item printed.row_rest ((rows j).frames u) y.vars) × AtRow j u y.vars)
  loads j u jl ul vars long o m ready =
      let st : Setting = record { device = d; item = j; owners = o; locals = 0 } in
      let x : Known = record { memory = m; vars = vars; count = no_variables; arrays = 0 } in
      let r = (walk j).row + u * groups_down l in
      let low = turn_below p.grid.rows (groups_down l) (walk j).row u (group_walks l h.room.whole j jl).row ul in
      let own : IsGroupRow l j r = (u, ap (λ z. z + u * groups_down l) (sym (row_begins j jl))) in
      let base = h.room.after_top 0 h.room.some in
      let some = h.room.fits 0 h.room.some in
      let after = h.room.after_row 0 h.room.some in
      let run = loads_run st (row_variables num l p r) ((rows j).frames u) (row_around j u jl) p.ins p.row_top.loads p.row_top.type (p.row_top.marks r) (p.row_top.scalars r) x printed.row_body printed.row_rest h.types.row_top_loads (printed.row_loads j r jl low own) (fewer long (let a = base.words in let b = some.words in let e = after.words in omega arith) (let a = base.fours in let b = some.fours in let e = after.fours in omega arith))
      (λ cs q a. given_at j st x (p.row_top.marks r cs q) (p.row_top.scalars r cs q) refl refl ready (h.reads.row_top r low cs q a)) in
      record {
        after = item printed.row_rest ((rows j).frames u) run.after;
        deeds = run.deeds;
        goes = run.goes m (λ b may. refl);
        so = (
          refl,
          (
            fits_later long run.later.kept,
            λ v w b.
                let y = known_after x run.deeds run.after (more no_variables (load_count p.row_top.loads)) 0 in
                held_here st y (load_count p.row_top.loads) v w (at_most (omega arith) (omega arith)) (subst (λ z. HoldsAt st y v z) b.4 (subst (λ a. HoldsAt st y a (p.row_top.scalars r b.0 b.1)) b.3 (run.good b.0 b.1 b.2))),
          ),
        );
        allowed = run.allowed;
        quiet = λ b s. run.wrote.quiet b (λ z. z) (λ v z. z);
      }

  -- the turns of a row
  in_row : (j u : ℕ) → j < item_count l → u < rows_taken p.grid (walk j) → Hops d j c ((rows j).frames u) printed.row_body End (statement_form p.columns_form d j ((rows j).frames u) column_loop (width j)) Long (λ v. At j 0 u v) (λ v. At j p.count u v) Long
  in_row j u jl ul =
      hops_after d j c ((rows j).frames u) printed.row_body printed.row_rest End (statement_form p.columns_form d j ((rows j).frames u) column_loop (width j)) Long (AtRow j u) Long (λ v. At j 0 u v) (λ v. At j p.count u v) (loads j u jl ul)
      (hops_of_form d j c ((rows j).frames u) printed.row_rest End (statement_form p.columns_form d j ((rows j).frames u) column_loop (width j)) (AtRow j u) Long (λ v. At j 0 u v) (λ v. At j p.count u v) (columns_take j u jl)
      (λ vars a. ((a.0, a.1, λ lt. absurd (omega arith)), a.0))
      (λ t vars a. ((a.0, a.1, λ lt. absurd (omega arith)), a.0)))

  abbrev form : ℕ → Form
  form j = nest_form (rows j) (width j) printed.body End (λ u v. frames j u v)

  all_rows : (j : ℕ) → j < item_count l → Hops d j c [] k.code End (form j) Long (λ t. knows num l p t 0 j) (λ t. knows num l p t p.count j) Long
  all_rows j jl =
      nest_hops d j c [] k.code End (rows j) Long Long (λ u. Long) (λ u. Long)
      (hops_of_form d j c [] k.code End (rows j) Long Long (λ u. Long) (λ u. Long) (rows_take j jl) (λ vars a. (a, a)) (λ t vars a. (a, a)))
      (width j) printed.body End (λ u v. frames j u v) (λ u v. At j 0 u v) (λ u v. At j p.count u v) (λ u ul. in_row j u jl ul)

  pub grid_turns : GroupTurns k l c the_body (work_of num l p)
  grid_turns =
      hops_turns k l c the_body (work_of num l p) form (λ j. Long) (λ j. Long) all_rows (λ j. refl) (λ j. first) (λ j. sym (last_in fence (IsPhase num l p) 0 p.count printed.body printed.phases)) (λ t j. refl)
      (λ j vars jl e. let r = h.room.variables in fewer e r.words r.fours)
