-- Phases that are printed terms do the work of their turns, and so every kernel that is printed for
-- them keeps the headline.
use Rattle.std.proofs.Common.{◌≡◌, ℕ, zero, suc, ◌+◌, ◌*◌, ◌%◌, ◌<◌, ◌≤◌, true, List, ◌∷◌, All, refl, sym, ap, ◌∙◌, subst, inl, ⊎_elim, arith}
use Rattle.std.proofs.lemmas.Bool.{cases_lt}
use Rattle.std.proofs.Math.Nat.{mod-lt, mul-le-mul_right}
use Rattle.lift_tree.specs.declared.term.Level.TheVariants.{Groups}
use Rattle.lift_tree.specs.declared.term.Dimension.TheVariants.{X}
use Rattle.kernel_tree.specs.Formula.{Vars}
use Rattle.kernel_tree.specs.Code.{Input, Output, Local, Private, Code, Kernel}
use Rattle.kernel_tree.specs.Launch.{Launch, Cells, group_of, groups_across, item_count}
use Rattle.kernel_tree.specs.Item.{Frame, loop_variables}
use Rattle.kernel_tree.specs.Device.{Device, Cell, cell_at, Memory, device_of}
use Rattle.kernel_tree.specs.Independent.{Owners}
use Rattle.kernel_tree.proofs.Grouping.{group_in_launch, flat_items, flat_groups, flat_group, flat_group_id, flat_local}
use Rattle.kernel_tree.specs.Strides.{turns_of}
use Rattle.kernel_tree.proofs.Stride.{turn_below}
use Rattle.barrier_placement.specs.Conflicts as placed
use Rattle.barrier_placement.specs.Conflicts.{space_of}
use Rattle.barrier_placement.specs.Fencing.{Fencing}
use Rattle.barrier_placement.specs.Laws.{NeededBarriersSeparate}
use Rattle.barrier_placement.specs.Needed.{Needed}
use Rattle.barrier_placement.specs.Separates.{Separates}
use Rattle.lift_ir.specs.Terms.{Over}
use Rattle.printed_form.specs.Headline.{EveryRunKeeps}
use Rattle.printed_form.specs.Marks.{Mark, Nowhere, Register, Lane, Spot, loaded_marks}
use Rattle.printed_form.specs.Counts.{more, no_variables, load_count, variable_count, private_count}
use Rattle.printed_form.specs.Form.{IsTurnOf, IsLoaded}
use Rattle.printed_form.specs.Runs.{Fits, Setting, Known, Kept, Scratch, spot_cell, HoldsAt, Holds, DueAt, nothing, no_target, known_after}
use Rattle.printed_form.specs.Whole.{IsGiven}
use Rattle.printed_form.proofs.Cells.{loads_run}
use Rattle.printed_form.proofs.Loops.{Rows, rest_is}
use Rattle.printed_form.proofs.Runs.{at_most, fewer, fits_later}
use Rattle.group_phases.specs.Bodies.{is_private, IsShared, IsReady, CanDo}
use Rattle.group_phases.specs.Work.{IsKnown}
use Rattle.group_phases.specs.Groups.{loop_turns}
use Rattle.group_phases.specs.Phased.{IsGroupKernel, IsFormKernel, PhasedMap}
use Rattle.group_phases.specs.Outcome.{BarriersServeAll}
use Rattle.group_phases.proofs.Bodies.{silent_then}
use Rattle.group_phases.proofs.Phased.{group_kernel, phased_leaves, phased_serves}
use Rattle.group_phases.specs.Phases.{PhaseList, turn_of, row_of, cell_of, phase_scalars, targets, HoldsTurn, knows, work_of, variables_at, IsPhaseMap, IsPhase, IsRead, IsFillable}
use Rattle.group_phases.specs.Printed.{IsPhased}
use Rattle.group_phases.proofs.Held.{held_here, held_kept, knows_held}
use Rattle.group_phases.proofs.Keeps.{keeps_from_chunks}
use Rattle.group_phases.proofs.LocalLoop.{form_run}
use Rattle.group_phases.proofs.Parts.{part_of_run, scratch_private}

-- of a map of one turn at most a group has one at most
turns_few : (n g i : ℕ) → n ≤ 1 → turns_of n g i ≤ 1
turns_few n zero i le = omega arith
turns_few n (suc g) i le = ⊎_elim (λ more. absurd (let two = mul-le-mul_right {m = 2} {n = turns_of n (suc g) i} (suc g) more in omega arith)) (λ few. few) (cases_lt 1 (turns_of n (suc g) i))

module _ {A : Type 0} (num : A → ℕ) (k : Kernel) (l : Launch) (c : Cells) (owner : (array index : ℕ) → ℕ) (wanted : List (List ℕ)) (p : PhaseList A) (h : IsPhased p num k l c owner wanted) where
  abbrev d : Device
  d = device_of k l c

  abbrev setting : (q j : ℕ) → Owners → Setting
  setting q j o = record { device = d; item = j; owners = o; locals = (p.phase q).locals }

  -- what an item knows before its rows of a phase
  abbrev before_rows : (q : ℕ) → Memory → Vars → Known
  before_rows q m vars = record { memory = m; vars = vars; count = (p.phase q).variables; arrays = (p.phase q).privates }

  -- and before the loads of the turn's scalars
  abbrev before_loads : Memory → Vars → Known
  before_loads m vars = record { memory = m; vars = vars; count = no_variables; arrays = (p.phase 0).privates }

  abbrev known : (t q j : ℕ) → Cell → Type 0
  known = IsKnown l c (work_of num l p)

  abbrev mine : (t q j : ℕ) → Cell → Type 0
  mine = targets num l p

  abbrev Ready : (t q j : ℕ) → Owners → Memory → (target : Cell → Type 0) → Type 0
  Ready t q j o m target = IsReady j o m (known t q j) target (p.value (group_of l j) t)

  abbrev Does : (t q j : ℕ) → (target : Cell → Type 0) → List Frame → Code → Vars → Code → Type 0
  Does t q j target fs code vars rest = CanDo d j (known t q j) target (p.value (group_of l j) t) fs code vars rest (knows num l p t (suc q) j)

  in_turns : (t j : ℕ) → j < item_count l → t < loop_turns l p.turns (group_of l j) → turn_of l t j < p.turns
  in_turns t j jl tl = turn_below p.turns (groups_across l) (group_of l j) t (subst (λ z. group_of l j < z) (flat_groups l h.room.flat) (group_in_launch l h.room.whole j jl)) tl

  -- the turn is one that the item takes of the map over groups
  own_turn : (t j : ℕ) → j < item_count l → IsTurnOf l j (Over Groups X) (turn_of l t j)
  own_turn t j jl =
      (t, ap (λ g. g + t * groups_across l) (flat_group l h.room.flat h.room.whole j ∙ sym (flat_group_id l h.room.flat j (subst (λ z. j < z) (flat_items l h.room.flat) jl))))

  holds_at : (t q j : ℕ) (o : Owners) (m : Memory) (vars : Vars) (x : Mark) (v : ℕ) → q < p.count → HoldsTurn num l p (turn_of l t j) vars → Ready t q j o m (mine t q j) → IsRead num k l c p t q j x v → HoldsAt (setting q j o) (before_rows q m vars) x v
  holds_at t q j o m vars (Spot b i) v ql held ready r = record { within = r.0; may = ready.may (cell_at l j b i) r.2; filled = r.1; holds = ready.holds (cell_at l j b i) r.2 ∙ r.3 }
  holds_at t q j o m vars (Register x) v ql held ready r = let y = h.room.after_top q ql in knows_held (setting q j o) (before_rows q m vars) (load_count p.top.loads) (Register x) v (at_most y.words y.fours) tt (held (Register x) v r)
  holds_at t q j o m vars (Lane x i) v ql held ready r = let y = h.room.after_top q ql in knows_held (setting q j o) (before_rows q m vars) (load_count p.top.loads) (Lane x i) v (at_most y.words y.fours) tt (held (Lane x i) v r)
  holds_at t q j o m vars Nowhere v ql held ready r = absurd r

  due_at : (t q j : ℕ) (o : Owners) (m : Memory) (x : Mark) → Ready t q j o m (mine t q j) → IsFillable k c p q x → mine t q j (cell_of l j x) → DueAt (setting q j o) ((p.phase q).privates + private_count (p.phase q).body) x
  due_at t q j o m (Spot b i) ready f x = (f.0, ready.mine (cell_at l j b i) x, f.1)
  due_at t q j o m (Register r) ready f x = absurd f
  due_at t q j o m (Lane r i) ready f x = absurd f
  due_at t q j o m Nowhere ready f x = absurd f

  kept_on : (t q j : ℕ) (vars later : Vars) → q < p.count → Kept (p.phase q).variables vars later → knows num l p t (suc q) j vars → knows num l p t (suc q) j later
  kept_on t q j vars later ql kept u =
      (fits_later u.0 kept, λ r v b. let y = h.room.after_top q ql in held_kept (load_count p.top.loads) (p.phase q).variables vars later r v (at_most y.words y.fours) kept (u.1 r v b))

  -- an item's rows of a phase
  rows_do : (t q j : ℕ) → t < loop_turns l p.turns (group_of l j) → q < p.count → j < item_count l → (fs : List Frame) → loop_variables fs ≡ variables_at num l p (turn_of l t j) → (code rest : Code) → IsPhaseMap num l p q code rest → (vars : Vars) → knows num l p t (suc q) j vars → Does t q j (mine t q j) fs code vars rest
  rows_do t q j tl ql jl fs ts code rest is vars u o m ready =
      let i = turn_of l t j in
      let il = in_turns t j jl tl in
      let f = p.phase q in
      let at = p.place i q in
      let st = setting q j o in
      let x = before_rows q m vars in
      let fits = h.room.fits q ql in
      let enough = u.0 in
      let below = λ (z : ℕ) (lt : z < turns_of f.len l.local.0 (j % l.local.0)). turn_below f.len l.local.0 (j % l.local.0) z (mod-lt j h.room.whole.x.positive) lt in
      let r = form_run st num p.ins p.src p.sources (λ a n. ready.own (spot_cell st (Private a) n) (refl, refl)) h.room.whole.x.positive f.len f.loads f.body (variables_at num l p i) fs ts f.types at.env at.sems f.element f.result at.marks at.to at.scalars x code rest
      (h.types.loads q ql) (h.types.typed q ql) (h.types.declares q ql) (h.fills.places i q j il ql)
      (λ z lt. record {
        at = λ cs s inside. due_at t q j o m (at.to cs (row_of l j z ∷ s)) ready (h.fills.fillable i q il ql cs (row_of l j z ∷ s) (below z lt, inside)) (il, z, lt, cs, s, inside, refl);
        choices = λ cs ds s r2 a b e. h.fills.choices i q j il ql cs ds (row_of l j z ∷ s) (row_of l j z ∷ r2) (below z lt, a) (below z lt, b) e;
        places = λ cs ds s r2 a b e. rest_is (row_of l j z) (row_of l j z) s r2 (h.fills.places i q j il ql cs ds (row_of l j z ∷ s) (row_of l j z ∷ r2) (below z lt, a) (below z lt, b) e);
      })
      (fewer enough fits.words fits.fours)
      (λ z lt cs s a. holds_at t q j o m vars (at.marks cs (row_of l j z ∷ s)) (at.scalars cs (row_of l j z ∷ s)) ql u.1 ready (h.reads.elements t q j z il ql jl lt cs s a))
      (λ v cs s a. holds_at t q j o m vars (at.env v cs s) (at.sems v cs s) ql u.1 ready (h.reads.envs t q j v il ql jl cs s a))
      (λ v cs s a. holds_at t q j o m vars (p.ins v cs s) (p.sources v cs s) ql u.1 ready (h.reads.inputs t q j v il ql jl cs s a))
      (flat_local l h.room.flat h.room.whole j) (h.room.rows q ql) f.form (h.room.forms q ql) (is j i jl il (own_turn t j jl))
      in
      part_of_run d j f.locals o m vars f.variables f.privates fs code rest (more (more f.variables (load_count f.loads)) (variable_count f.body)) (f.privates + private_count f.body) (Scratch f.privates (f.privates + private_count f.body))
      (Rows st (row_of l j) f.result at.to (phase_scalars num l p i q) (turns_of f.len l.local.0 (j % l.local.0))) (λ z. Unit {0}) (mine t q j) (p.value (group_of l j) t) (knows num l p t (suc q) j)
      (λ b y. (y.1, y.2, (y.3, y.4, y.5, y.6, ap (p.value (group_of l j) t) y.6 ∙ h.fills.valued t q j il ql jl y.3 (row_of l j y.1 ∷ y.4) (below y.1 y.2, y.5))))
      (λ b v y. let z = y.2 in (il, y.0, y.1, z.0, z.1, z.2, z.3))
      (λ b s y. scratch_private f.privates (f.privates + private_count f.body) b s y)
      r (kept_on t q j vars r.after ql r.later.kept u)

  given_at : (t j : ℕ) (o : Owners) (m : Memory) (vars : Vars) (x : Mark) (v : ℕ) (target : Cell → Type 0) → Ready t 0 j o m target → IsGiven c x v → HoldsAt (setting 0 j o) (before_loads m vars) x v
  given_at t j o m vars (Spot (Input b) i) v target ready g =
      let has = h.reads.given (group_of l j) t b i in
      let know : known t 0 j (cell_at l j (Input b) i) = inl (record { array = b; index = i; is = refl; within = g.0; has = has }) in
      record { within = g.0; may = ready.may (cell_at l j (Input b) i) know; filled = tt; holds = ready.holds (cell_at l j (Input b) i) know ∙ has ∙ g.1 }
  given_at t j o m vars (Spot (Output b) i) v target ready g = absurd g
  given_at t j o m vars (Spot (Local b) i) v target ready g = absurd g
  given_at t j o m vars (Spot (Private b) i) v target ready g = absurd g
  given_at t j o m vars (Register x) v target ready g = absurd g
  given_at t j o m vars (Lane x i) v target ready g = absurd g
  given_at t j o m vars Nowhere v target ready g = absurd g

  -- the loads of the turn's scalars
  loads_do : (t j : ℕ) → t < loop_turns l p.turns (group_of l j) → j < item_count l → (fs : List Frame) → loop_variables fs ≡ variables_at num l p (turn_of l t j) → (code mid : Code) → ((item i : ℕ) → item < item_count l → i < p.turns → IsTurnOf l item (Over Groups X) i → IsLoaded l item p.ins (variables_at num l p i) p.top.loads (p.top.marks i) no_variables code mid) → (vars : Vars) → Fits p.variables vars
      → Does t 0 j (λ b. ⊥) fs code vars mid
  loads_do t j tl jl fs ts code mid is vars long o m ready =
      let i = turn_of l t j in
      let il = in_turns t j jl tl in
      let st = setting 0 j o in
      let x = before_loads m vars in
      let room = h.room.fits 0 h.room.some in
      let base = h.room.after_top 0 h.room.some in
      let r = loads_run st (variables_at num l p i) fs ts p.ins p.top.loads p.top.type (p.top.marks i) (p.top.scalars i) x code mid h.types.top_loads (is j i jl il (own_turn t j jl)) (fewer long (let a = room.words in let b = base.words in omega arith) (let a = room.fours in let b = base.fours in omega arith))
      (λ cs s z. given_at t j o m vars (p.top.marks i cs s) (p.top.scalars i cs s) (λ b. ⊥) ready (h.reads.top i il cs s z)) in
      part_of_run d j (p.phase 0).locals o m vars no_variables (p.phase 0).privates fs code mid (more no_variables (load_count p.top.loads)) (p.phase 0).privates nothing no_target (λ y. Holds st y p.top.type (loaded_marks p.top.loads (p.top.marks i) no_variables) (p.top.scalars i)) (λ b. ⊥) (p.value (group_of l j) t) (knows num l p t 1 j)
      (λ b z. absurd z) (λ b v z. z) (λ b z s. z) r (
        fits_later long r.later.kept,
        λ v w b.
            let y = known_after x r.deeds r.after (more no_variables (load_count p.top.loads)) (p.phase 0).privates in
            held_here st y (load_count p.top.loads) v w (at_most (omega arith) (omega arith)) (subst (λ z. HoldsAt st y v z) b.4 (subst (λ a. HoldsAt st y a (p.top.scalars i b.0 b.1)) b.3 (r.good b.0 b.1 b.2))),
      )

  known_shared : (t q j : ℕ) (b : Cell) → known t q j b → IsShared b
  known_shared t q j b x = ⊎_elim (λ y. ap (λ z. is_private z.array) y.is) (λ y. ap (λ z. is_private z.array) y.is) x

  target_shared : (t q j : ℕ) (b : Cell) → q < p.count → j < item_count l → mine t q j b → IsShared b
  target_shared t q j b ql jl x = ⊎_elim (λ y. ap (λ z. is_private z.array) y.is) (λ y. ap (λ z. is_private z.array) y.is) (h.writes.due t q j b ql jl x)

  does : (t q j : ℕ) → t < loop_turns l p.turns (group_of l j) → q < p.count → j < item_count l → (fs : List Frame) → loop_variables fs ≡ variables_at num l p (turn_of l t j) → (code rest : Code) → IsPhase num l p q code rest → (vars : Vars) → knows num l p t q j vars → Does t q j (mine t q j) fs code vars rest
  does t zero j tl ql jl fs ts code rest is vars v =
      silent_then d j (known t 0 j) (mine t 0 j) (p.value (group_of l j) t) fs code is.0 rest vars (knows num l p t 1 j) (knows num l p t 1 j) (known_shared t 0 j) (λ b x. target_shared t 0 j b ql jl x)
      (loads_do t j tl jl fs ts code is.0 is.1 vars v) (λ vs u. rows_do t 0 j tl ql jl fs ts is.0 rest is.2 vs u)
  does t (suc q) j tl ql jl fs ts code rest is vars v = rows_do t (suc q) j tl ql jl fs ts code rest is vars v

  long_of : (t q j : ℕ) (vars : Vars) → knows num l p t q j vars → Fits p.variables vars
  long_of t zero j vars v = v
  long_of t (suc q) j vars v = v.0

  pub phased : PhasedMap k l c owner wanted (loop_turns l p.turns) (λ t j. variables_at num l p (turn_of l t j)) p.count (IsPhase num l p) (work_of num l p)
  phased = record {
    whole = h.room.whole;
    begins = λ j vars jl e. let r = h.room.variables in fewer e r.words r.fours;
    again = λ t j vars jl v. long_of t p.count j vars v;
    does = does;
    due = h.writes.due;
    differ = h.writes.differ;
    outputs = h.outputs;
  }

  as_form : (fence : ℕ → Fencing) → IsGroupKernel k l p.once p.turns p.count fence (IsPhase num l p) → IsFormKernel k l c (loop_turns l p.turns) (λ t j. variables_at num l p (turn_of l t j)) p.count fence (IsPhase num l p)
  as_form fence printed = group_kernel k l c p.turns p.count fence (IsPhase num l p) h.room.whole h.room.flat p.once h.room.once h.room.turns printed

  few : p.once ≡ true → (g : ℕ) → loop_turns l p.turns g ≤ 1
  few once g = turns_few p.turns (groups_across l) g (h.room.once once)

  -- with any barriers that separate the conflicting phases
  pub phased_keeps : (fence : ℕ → Fencing) → Separates p.touches placed.Local p.once p.count fence → IsGroupKernel k l p.once p.turns p.count fence (IsPhase num l p) → EveryRunKeeps k l c owner wanted
  phased_keeps fence sep printed = keeps_from_chunks k l c owner wanted h.room.whole h.shape (phased_leaves k l c owner wanted (loop_turns l p.turns) (λ t j. variables_at num l p (turn_of l t j)) p.count (IsPhase num l p) (work_of num l p) phased fence (as_form fence printed) p.once few sep)

  pub phases_serve : (fence : ℕ → Fencing) → Separates p.touches placed.Local p.once p.count fence → IsGroupKernel k l p.once p.turns p.count fence (IsPhase num l p) → BarriersServeAll k l c p.filler
  phases_serve fence sep printed = phased_serves k l c owner wanted (loop_turns l p.turns) (λ t j. variables_at num l p (turn_of l t j)) p.count (IsPhase num l p) (work_of num l p) phased fence (as_form fence printed) p.once few sep

  -- with the needed barriers, where all uses are of local arrays
  pub needed_keep : NeededBarriersSeparate → (fence : ℕ → Fencing) → All (λ x. space_of x.local ≡ placed.Local) p.touches → Needed p.touches p.once p.count fence → IsGroupKernel k l p.once p.turns p.count fence (IsPhase num l p) → EveryRunKeeps k l c owner wanted
  needed_keep separate fence local needed printed = phased_keeps fence (separate p.touches placed.Local p.once p.count fence local needed) printed
