-- Phases of two dimensions that are printed terms do the work of their turns, and so every kernel
-- that is printed for them keeps the headline.
use Rattle.std.proofs.Common.{◌≡◌, ℕ, zero, suc, ◌+◌, ◌*◌, ◌/◌, ◌%◌, ◌<◌, Bool, List, ◌∷◌, All, refl, sym, ap, ◌∙◌, subst, inl, ⊎_elim, arith}
use Rattle.std.proofs.Math.Nat.{mod-lt}
use Rattle.kernel_tree.specs.declared.tree.Dimension.TheVariants.{X, Y}
use Rattle.kernel_tree.specs.Formula.{Vars}
use Rattle.kernel_tree.specs.Code.{Input, Output, Local, Private, FromLocalId, ByLocalSize, Code, Kernel}
use Rattle.kernel_tree.specs.Launch.{Launch, Cells, group_of, groups_across, groups_down, item_count, ids_of}
use Rattle.kernel_tree.specs.Item.{Frame, loop_variables}
use Rattle.kernel_tree.specs.Device.{Device, Cell, cell_at, Memory, device_of}
use Rattle.kernel_tree.specs.Independent.{Owners}
use Rattle.kernel_tree.proofs.Grouping.{group_column, group_row_is}
use Rattle.barrier_placement.specs.Conflicts as placed
use Rattle.barrier_placement.specs.Conflicts.{space_of}
use Rattle.barrier_placement.specs.Fencing.{Fencing}
use Rattle.barrier_placement.specs.Laws.{NeededBarriersSeparate}
use Rattle.barrier_placement.specs.Needed.{Needed}
use Rattle.barrier_placement.specs.Separates.{Separates}
use Rattle.printed_form.specs.Headline.{EveryRunKeeps}
use Rattle.printed_form.specs.Marks.{Mark, Nowhere, Register, Lane, Spot, loaded_marks}
use Rattle.printed_form.specs.Counts.{more, no_variables, load_count, variable_count, private_count}
use Rattle.printed_form.specs.Form.{IsLoaded}
use Rattle.printed_form.specs.Runs.{Setting, Known, Kept, Scratch, spot_cell, Later, HoldsAt, Holds, DueAt, nothing, no_target, known_after}
use Rattle.printed_form.specs.Whole.{IsGiven}
use Rattle.printed_form.proofs.Cells.{loads_run}
use Rattle.printed_form.proofs.Loops.{rest_is}
use Rattle.printed_form.proofs.Runs.{at_most, as_many, fewer, fits_later, later_same, holds_at_later}
use Rattle.group_phases.specs.Bodies.{is_private, IsShared, IsReady, CanDo}
use Rattle.group_phases.specs.Epochs.{IsPast, KeepsApart}
use Rattle.group_phases.specs.GridPhases.{GridList, group_turns, turn_row, turn_at, place_at, IsGroupRow, IsGroupColumn, targets, IsRowScalar, top_count, HoldsRow, knows, work_of, variables_at, AtItsTurns, IsPhaseNest, IsPhase, IsHeldScalar, IsRead, NothingHeld, IsHeldInRow, IsFillable}
use Rattle.group_phases.specs.GridPrinted.{IsGridKernel, IsGridPhased}
use Rattle.group_phases.specs.Grids.{Walk, IsWalk, places, rows_taken, columns_taken, group_walk, local_walk}
use Rattle.group_phases.specs.Groups.{GroupPhases}
use Rattle.group_phases.specs.NestRows.{PlacesOf}
use Rattle.group_phases.specs.Outcome.{SomeRunLeaves, BarriersServeAll}
use Rattle.group_phases.specs.Phases.{cell_of}
use Rattle.group_phases.specs.Work.{IsKnown}
use Rattle.group_phases.proofs.Bodies.{silent_then}
use Rattle.group_phases.proofs.Epochs.{some_apart}
use Rattle.group_phases.proofs.GridKernel.{the_body, around, same_frames, grid_turns, group_walks}
use Rattle.group_phases.proofs.Grids.{pair_below, row_below, place_row, place_column, place_below, pair_taken}
use Rattle.group_phases.proofs.Groups.{group_map_leaves, group_map_serves}
use Rattle.group_phases.proofs.Held.{IsVariable, loaded_or, held_here, held_kept, knows_held}
use Rattle.group_phases.proofs.Keeps.{keeps_from_chunks}
use Rattle.group_phases.proofs.NestRows.{nest_run}
use Rattle.group_phases.proofs.Parts.{part_of_run, scratch_private}
use Rattle.group_phases.proofs.Phased.{past_in, is_in}

module _ {A : Type 0} (num : A → ℕ) (k : Kernel) (l : Launch) (c : Cells) (owner : (array index : ℕ) → ℕ) (wanted : List (List ℕ)) (p : GridList A) (h : IsGridPhased p num k l c owner wanted) where
  abbrev d : Device
  d = device_of k l c

  abbrev setting : (q j : ℕ) → Owners → Setting
  setting q j o = record { device = d; item = j; owners = o; locals = p.locals q }

  -- what an item knows before its places of a phase
  abbrev before_places : (q : ℕ) → Memory → Vars → Known
  before_places q m vars = record { memory = m; vars = vars; count = (p.phase q).variables; arrays = (p.phase q).privates }

  -- and before the loads of the turn's scalars
  abbrev before_loads : Memory → Vars → Known
  before_loads m vars = record { memory = m; vars = vars; count = load_count p.row_top.loads; arrays = (p.phase 0).privates }

  abbrev known : (t q j : ℕ) → Cell → Type 0
  known = IsKnown l c (work_of num l p)

  abbrev mine : (t q j : ℕ) → Cell → Type 0
  mine = targets num l p

  abbrev Ready : (t q j : ℕ) → Owners → Memory → (target : Cell → Type 0) → Type 0
  Ready t q j o m target = IsReady j o m (known t q j) target (p.value (group_of l j) t)

  abbrev Does : (t q j : ℕ) → (target : Cell → Type 0) → List Frame → Code → Vars → Code → Type 0
  Does t q j target fs code vars rest = CanDo d j (known t q j) target (p.value (group_of l j) t) fs code vars rest (knows num l p t (suc q) j)

  abbrev walk : ℕ → Walk
  walk j = local_walk l j

  walks : (j : ℕ) → IsWalk (walk j)
  walks j = record { row = mod-lt (ids_of l j).y.global_id h.room.whole.y.positive; column = mod-lt (ids_of l j).x.global_id h.room.whole.x.positive }

  abbrev turns : ℕ → ℕ
  turns j = group_turns l p (group_of l j)

  turn_in : (t j : ℕ) → j < item_count l → t < turns j → turn_at l p t j < places p.grid
  turn_in t j jl tl = place_below p.grid (group_walk l (group_of l j)) (group_walks l h.room.whole j jl) t tl

  -- the turn is one that the item takes of the map over groups
  own_row : (t j : ℕ) → j < item_count l → t < turns j → IsGroupRow l j (turn_at l p t j / p.grid.columns)
  own_row t j jl tl =
      let w = group_walk l (group_of l j) in
      let u = t / columns_taken p.grid w in
      (u, place_row p.grid w (group_walks l h.room.whole j jl) t tl ∙ ap (λ z. z + u * groups_down l) (sym (group_row_is l h.room.whole j jl)))

  own_column : (t j : ℕ) → j < item_count l → t < turns j → IsGroupColumn l j (turn_at l p t j % p.grid.columns)
  own_column t j jl tl =
      let w = group_walk l (group_of l j) in
      let v = t % columns_taken p.grid w in
      (v, place_column p.grid w (group_walks l h.room.whole j jl) t tl ∙ ap (λ z. z + v * groups_across l) (sym (group_column l h.room.whole j jl)))

  at_turn : (P : (item i : ℕ) → Type 0) → AtItsTurns num l p P → (t j : ℕ) → j < item_count l → t < turns j → P j (turn_at l p t j)
  at_turn P is t j jl tl = is j (turn_at l p t j) jl (turn_in t j jl tl) (own_row t j jl tl) (own_column t j jl tl)

  -- a variable that holds a scalar of the row or of the turn, or else what is held
  variable_holds : (t q j : ℕ) (o : Owners) (m : Memory) (vars : Vars) (Held : Mark → ℕ → Type 0) (z : Known) (x : Mark) (v : ℕ) → IsVariable x → q < p.count → knows num l p t (suc q) j vars → Later (setting q j o) (before_places q m vars) z
      → ((r : Mark) (a : ℕ) → Held r a → HoldsAt (setting q j o) z r a) → IsHeldScalar num l p t j Held x v → HoldsAt (setting q j o) z x v
  variable_holds t q j o m vars Held z x v is ql u later held r =
      let st = setting q j o in
      let y = before_places q m vars in
      let enough = h.room.after_top q ql in
      let words = enough.words in
      let fours = enough.fours in
      ⊎_elim
      (λ a. holds_at_later st y z x v later (knows_held st y (load_count p.row_top.loads) x v (at_most (omega arith) (omega arith)) is (u.1 x v a)))
      (λ a. ⊎_elim
      (λ a. holds_at_later st y z x v later (knows_held st y (top_count num l p) x v (at_most words fours) is (u.2 (omega arith) x v a)))
      (λ a. held x v a)
      a)
      r

  -- what may be read holds its scalar, where what else is held does
  holds_at : (t q j : ℕ) (o : Owners) (m : Memory) (vars : Vars) (Held : Mark → ℕ → Type 0) (z : Known) (x : Mark) (v : ℕ) → q < p.count → knows num l p t (suc q) j vars → Ready t q j o m (mine t q j) → Later (setting q j o) (before_places q m vars) z
      → ((r : Mark) (a : ℕ) → Held r a → HoldsAt (setting q j o) z r a) → IsRead num k l c p t q j Held x v → HoldsAt (setting q j o) z x v
  holds_at t q j o m vars Held z (Spot b i) v ql u ready later held r =
      holds_at_later (setting q j o) (before_places q m vars) z (Spot b i) v later
      (record { within = r.0; may = ready.may (cell_at l j b i) r.2; filled = r.1; holds = ready.holds (cell_at l j b i) r.2 ∙ r.3 })
  holds_at t q j o m vars Held z (Register x) v ql u ready later held r = variable_holds t q j o m vars Held z (Register x) v tt ql u later held r
  holds_at t q j o m vars Held z (Lane x i) v ql u ready later held r = variable_holds t q j o m vars Held z (Lane x i) v tt ql u later held r
  holds_at t q j o m vars Held z Nowhere v ql u ready later held r = absurd r

  due_at : (t q j : ℕ) (o : Owners) (m : Memory) (x : Mark) → Ready t q j o m (mine t q j) → IsFillable k c p q x → mine t q j (cell_of l j x) → DueAt (setting q j o) ((p.phase q).privates + private_count (p.phase q).body) x
  due_at t q j o m (Spot b i) ready f x = (f.0, ready.mine (cell_at l j b i) x, f.1)
  due_at t q j o m (Register r) ready f x = absurd f
  due_at t q j o m (Lane r i) ready f x = absurd f
  due_at t q j o m Nowhere ready f x = absurd f

  kept_on : (t q j : ℕ) (vars later : Vars) → q < p.count → Kept (p.phase q).variables vars later → knows num l p t (suc q) j vars → knows num l p t (suc q) j later
  kept_on t q j vars later ql kept u =
      let enough = h.room.after_top q ql in
      let words = enough.words in
      let fours = enough.fours in (
        fits_later u.0 kept,
        λ r v b. held_kept (load_count p.row_top.loads) (p.phase q).variables vars later r v (at_most (omega arith) (omega arith)) kept (u.1 r v b),
        λ some r v b. held_kept (top_count num l p) (p.phase q).variables vars later r v (at_most words fours) kept (u.2 some r v b),
      )

  -- an item's places of a phase
  places_do : (t q j : ℕ) → t < turns j → q < p.count → j < item_count l → (fs : List Frame) → loop_variables fs ≡ variables_at num l p (turn_at l p t j) → (code rest : Code) → IsPhaseNest num l p q code rest → (vars : Vars) → knows num l p t (suc q) j vars → Does t q j (mine t q j) fs code vars rest
  places_do t q j tl ql jl fs ts code rest is vars u o m ready =
      let i = turn_at l p t j in
      let il = turn_in t j jl tl in
      let f = p.phase q in
      let at = p.place i q in
      let st = setting q j o in
      let x = before_places q m vars in
      let w = walk j in
      let ok = walks j in
      let fits = h.room.fits q ql in
      let after_row = h.room.after_row q ql in
      let enough = u.0 in
      let row = λ (a : ℕ). w.row + a * l.local.1 in
      let column = λ (a : ℕ). w.column + a * l.local.0 in
      let low = λ (a b : ℕ) (al : a < rows_taken f.grid w) (bl : b < columns_taken f.grid w). pair_below a b (rows_taken f.grid w) (columns_taken f.grid w) al bl in
      let inside = λ (a b : ℕ) (al : a < rows_taken f.grid w) (bl : b < columns_taken f.grid w).
      subst (λ z. z < places f.grid) (pair_taken f.grid w ok a b bl) (place_below f.grid w ok (a * columns_taken f.grid w + b) (low a b al bl)) in
      let none = λ (r : Mark) (a : ℕ) (e : NothingHeld r a). absurd e in
      let r = nest_run st num p.ins p.src p.sources (λ a n. ready.own (spot_cell st (Private a) n) (refl, refl)) f at (FromLocalId Y) (FromLocalId X) (ByLocalSize Y) (ByLocalSize X) w ok refl refl refl refl
      (h.room.phase_rows q ql) (h.room.phase_columns q ql) (h.room.phase_rows_made q ql) (h.room.phase_columns_made q ql)
      (h.types.row_loads q ql) (h.types.loads q ql) (h.types.typed q ql) (h.types.declares q ql) after_row (h.fills.places_differ i q j il ql)
      (λ a b al bl.
      let number = row a * f.grid.columns + column b in
      let here = inside a b al bl in
      record {
        at = λ cs s pos. due_at t q j o m (at.to cs (number ∷ s)) ready (h.fills.fillable i q il ql cs (number ∷ s) (here, pos))
            (tl, a * columns_taken f.grid w + b, low a b al bl, cs, s, pos, ap (λ z. cell_of l j (at.to cs (z ∷ s))) (sym (pair_taken f.grid w ok a b bl)));
        choices = λ cs ds s r2 y z e. h.fills.choices i q j il ql cs ds (number ∷ s) (number ∷ r2) (here, y) (here, z) e;
        places = λ cs ds s r2 y z e. rest_is number number s r2 (h.fills.places_differ i q j il ql cs ds (number ∷ s) (number ∷ r2) (here, y) (here, z) e);
      })
      m vars (fewer enough fits.words fits.fours)
      (λ a al cs s y. holds_at t q j o m vars NothingHeld x (at.row_marks cs (row a ∷ s)) (at.row_scalars cs (row a ∷ s)) ql u ready (later_same st x) none (h.reads.rows t q j a tl ql jl al cs s y))
      (λ a al z later good.
      let Held = IsHeldInRow f at (row a) in
      let held = λ (r3 : Mark) (v3 : ℕ) (e : Held r3 v3). subst (λ y. HoldsAt st z r3 y) e.4 (subst (λ y. HoldsAt st z y (at.row_scalars e.0 (row a ∷ e.1))) e.3 (good e.0 e.1 e.2)) in (
        λ v cs s y. holds_at t q j o m vars Held z (at.env (row a) v cs s) (at.sems (row a) v cs s) ql u ready later held (h.reads.envs t q j a v tl ql jl al cs s y),
        λ b bl cs s y. holds_at t q j o m vars Held z (at.marks (row a) cs (column b ∷ s)) (at.scalars (row a) cs (column b ∷ s)) ql u ready later held (h.reads.elements t q j a b tl ql jl al bl cs s y),
      ))
      (λ v cs s y. holds_at t q j o m vars NothingHeld x (p.ins v cs s) (p.sources v cs s) ql u ready (later_same st x) none (h.reads.inputs t q j v tl ql jl cs s y))
      fs (variables_at num l p i) ts code rest (at_turn _ is t j jl tl)
      in
      part_of_run d j (p.locals q) o m vars f.variables f.privates fs code rest (more (more f.inner (load_count f.loads)) (variable_count f.body)) (f.privates + private_count f.body) (Scratch f.privates (f.privates + private_count f.body))
      (PlacesOf st num p.sources f at w) (λ z. Unit {0}) (mine t q j) (p.value (group_of l j) t) (knows num l p t (suc q) j)
      (λ b y. (y.1, y.2, (y.3, y.4, y.5, y.6, ap (p.value (group_of l j) t) y.6 ∙ h.fills.valued t q j tl ql jl y.3 (place_at l p q j y.1 ∷ y.4) (place_below f.grid w ok y.1 y.2, y.5))))
      (λ b v y. let z = y.2 in (tl, y.0, y.1, z.0, z.1, z.2, z.3))
      (λ b s y. scratch_private f.privates (f.privates + private_count f.body) b s y)
      r (kept_on t q j vars r.after ql r.later.kept u)

  given_at : (t j : ℕ) (o : Owners) (m : Memory) (vars : Vars) (x : Mark) (v : ℕ) (target : Cell → Type 0) → Ready t 0 j o m target → IsGiven c x v → HoldsAt (setting 0 j o) (before_loads m vars) x v
  given_at t j o m vars (Spot (Input b) i) v target ready g =
      let has = h.reads.given (group_of l j) t b i in
      let know : known t 0 j (cell_at l j (Input b) i) = inl (record { array = b; index = i; is = refl; within = g.0; has = has }) in
      record { within = g.0; may = ready.may (cell_at l j (Input b) i) know; filled = tt; holds = ready.holds (cell_at l j (Input b) i) know ∙ has ∙ g.1 }
  given_at t j o m vars (Spot (Output b) i) v target ready g = absurd g
  given_at t j o m vars (Spot (Local b) i) v target ready g = absurd g
  given_at t j o m vars (Spot (Private b) i) v target ready g = absurd g
  given_at t j o m vars (Register x) v target ready g = absurd g
  given_at t j o m vars (Lane x i) v target ready g = absurd g
  given_at t j o m vars Nowhere v target ready g = absurd g

  -- so it is of a scalar that the row holds
  row_at : (t j : ℕ) (o : Owners) (m : Memory) (vars : Vars) (x : Mark) (v : ℕ) (target : Cell → Type 0) → t < turns j → j < item_count l → Ready t 0 j o m target → HoldsRow num l p (turn_row l p t j) vars → IsRowScalar num l p (turn_row l p t j) x v → HoldsAt (setting 0 j o) (before_loads m vars) x v
  row_at t j o m vars x v target tl jl ready held r =
      let st = setting 0 j o in
      let y = before_loads m vars in
      let n = turn_row l p t j in
      let w = group_walk l (group_of l j) in
      let low : n < p.grid.rows = row_below p.grid w (group_walks l h.room.whole j jl) t tl in
      let loaded = loaded_marks p.row_top.loads (p.row_top.marks n) no_variables r.0 r.1 in
      subst (λ z. HoldsAt st y x z) r.4
      (subst (λ z. HoldsAt st y z (p.row_top.scalars n r.0 r.1)) r.3
      (⊎_elim
      (λ is. knows_held st y (load_count p.row_top.loads) loaded (p.row_top.scalars n r.0 r.1) (as_many (load_count p.row_top.loads)) is (held loaded (p.row_top.scalars n r.0 r.1) (r.0, r.1, r.2, refl, refl)))
      (λ same. subst (λ z. HoldsAt st y z (p.row_top.scalars n r.0 r.1)) (sym same) (given_at t j o m vars (p.row_top.marks n r.0 r.1) (p.row_top.scalars n r.0 r.1) target ready (h.reads.row_top n low r.0 r.1 r.2)))
      (loaded_or p.row_top.loads p.row_top.type (p.row_top.marks n) no_variables r.0 r.1 h.types.row_top_loads r.2)))

  -- the loads of the turn's scalars
  loads_do : (t j : ℕ) → t < turns j → j < item_count l → (fs : List Frame) → loop_variables fs ≡ variables_at num l p (turn_at l p t j) → (code mid : Code) → AtItsTurns num l p (λ item i. IsLoaded l item p.ins (variables_at num l p i) p.top.loads (p.top.marks i) (load_count p.row_top.loads) code mid)
      → (vars : Vars) → knows num l p t 0 j vars → Does t 0 j (λ b. ⊥) fs code vars mid
  loads_do t j tl jl fs ts code mid is vars u o m ready =
      let i = turn_at l p t j in
      let il = turn_in t j jl tl in
      let st = setting 0 j o in
      let x = before_loads m vars in
      let room = h.room.fits 0 h.room.some in
      let base = h.room.after_top 0 h.room.some in
      let after = h.room.after_row 0 h.room.some in
      let long = u.0 in
      let low = load_count p.row_top.loads in
      let r = loads_run st (variables_at num l p i) fs ts p.ins p.top.loads p.top.type (p.top.marks i) (p.top.scalars i) x code mid h.types.top_loads (at_turn _ is t j jl tl)
      (fewer long (let a = room.words in let b = base.words in let e = after.words in omega arith) (let a = room.fours in let b = base.fours in let e = after.fours in omega arith))
      (λ cs s z.
      let e = p.top.marks i cs s in
      let v = p.top.scalars i cs s in
      ⊎_elim
      (λ g. given_at t j o m vars e v (λ b. ⊥) ready g)
      (λ g. row_at t j o m vars e v (λ b. ⊥) tl jl ready u.1 (subst (λ r. IsRowScalar num l p r e v) (place_row p.grid (group_walk l (group_of l j)) (group_walks l h.room.whole j jl) t tl) g))
      (h.reads.top i il cs s z)) in
      part_of_run d j (p.locals 0) o m vars low (p.phase 0).privates fs code mid (more low (load_count p.top.loads)) (p.phase 0).privates nothing no_target (λ y. Holds st y p.top.type (loaded_marks p.top.loads (p.top.marks i) low) (p.top.scalars i)) (λ b. ⊥) (p.value (group_of l j) t) (knows num l p t 1 j)
      (λ b z. absurd z) (λ b v z. z) (λ b z s. z) r (
        fits_later long r.later.kept,
        λ v w b. held_kept low low vars r.after v w (as_many low) r.later.kept (u.1 v w b),
        λ some v w b.
            (let y = known_after x r.deeds r.after (more low (load_count p.top.loads)) (p.phase 0).privates in
            held_here st y (top_count num l p) v w (as_many (top_count num l p)) (subst (λ z. HoldsAt st y v z) b.4 (subst (λ a. HoldsAt st y a (p.top.scalars i b.0 b.1)) b.3 (r.good b.0 b.1 b.2)))),
      )

  known_shared : (t q j : ℕ) (b : Cell) → known t q j b → IsShared b
  known_shared t q j b x = ⊎_elim (λ y. ap (λ z. is_private z.array) y.is) (λ y. ap (λ z. is_private z.array) y.is) x

  target_shared : (t q j : ℕ) (b : Cell) → q < p.count → j < item_count l → mine t q j b → IsShared b
  target_shared t q j b ql jl x = ⊎_elim (λ y. ap (λ z. is_private z.array) y.is) (λ y. ap (λ z. is_private z.array) y.is) (h.writes.due t q j b ql jl x)

  does : (t q j : ℕ) → t < turns j → q < p.count → j < item_count l → (fs : List Frame) → loop_variables fs ≡ variables_at num l p (turn_at l p t j) → (code rest : Code) → IsPhase num l p q code rest → (vars : Vars) → knows num l p t q j vars → Does t q j (mine t q j) fs code vars rest
  does t zero j tl ql jl fs ts code rest is vars v =
      silent_then d j (known t 0 j) (mine t 0 j) (p.value (group_of l j) t) fs code is.0 rest vars (knows num l p t 1 j) (knows num l p t 1 j) (known_shared t 0 j) (λ b x. target_shared t 0 j b ql jl x)
      (loads_do t j tl jl fs ts code is.0 is.1 vars v) (λ vs u. places_do t 0 j tl ql jl fs ts is.0 rest is.2 vs u)
  does t (suc q) j tl ql jl fs ts code rest is vars v = places_do t (suc q) j tl ql jl fs ts code rest is vars (v.0, v.1, λ some. v.2 (omega arith))

  module _ (fence : ℕ → Fencing) (printed : IsGridKernel num k l p fence) where
    as_phases : (runs_in : (epoch phase : ℕ) → Bool) → KeepsApart p.touches p.count fence (group_turns l p) runs_in → GroupPhases k l c owner (the_body num k l c owner wanted p h fence printed) (work_of num l p)
    as_phases runs_in apart = record {
      whole = h.room.whole;
      same_turns = same_frames num k l c owner wanted p h fence printed;
      past = λ q le. let e : 0 + q ≡ q = omega arith in subst (λ z. IsPast (fence z) ((the_body num k l c owner wanted p h fence printed).before q) ((the_body num k l c owner wanted p h fence printed).code q)) e (past_in fence (IsPhase num l p) 0 p.count printed.body printed.phases q le);
      does = λ t q j tl ql jl vars v.
          let e : 0 + q ≡ q = omega arith in
          let b = the_body num k l c owner wanted p h fence printed in
          does t q j tl ql jl (b.frames t j) (around num k l c owner wanted p h fence printed t j jl tl) (b.code q) (b.before (suc q)) (subst (λ z. IsPhase num l p z (b.code q) (b.before (suc q))) e (is_in fence (IsPhase num l p) 0 p.count printed.body printed.phases q ql)) vars v;
      runs_in = runs_in;
      apart = apart;
      due = h.writes.due;
      differ = h.writes.differ;
    }

    module _ (sep : Separates p.touches placed.Local p.once p.count fence) where
      leaves : SomeRunLeaves k l c owner wanted
      leaves =
          let a = some_apart p.touches p.once p.count fence (group_turns l p) h.room.once sep in
          group_map_leaves k l c owner wanted (the_body num k l c owner wanted p h fence printed) (work_of num l p) (as_phases a.0 a.1) (grid_turns num k l c owner wanted p h fence printed) h.outputs

      -- with any barriers that separate the conflicting phases
      pub grid_keeps : EveryRunKeeps k l c owner wanted
      grid_keeps = keeps_from_chunks k l c owner wanted h.room.whole h.shape leaves

      pub grid_serves : BarriersServeAll k l c p.filler
      grid_serves =
          let a = some_apart p.touches p.once p.count fence (group_turns l p) h.room.once sep in
          group_map_serves k l c owner wanted (the_body num k l c owner wanted p h fence printed) (work_of num l p) (as_phases a.0 a.1) (grid_turns num k l c owner wanted p h fence printed) h.outputs

    -- with the needed barriers, where all uses are of local arrays
    pub grid_needed : NeededBarriersSeparate → All (λ x. space_of x.local ≡ placed.Local) p.touches → Needed p.touches p.once p.count fence → EveryRunKeeps k l c owner wanted
    grid_needed separate local needed = grid_keeps (separate p.touches placed.Local p.once p.count fence local needed)
