-- The phases of a term in two dimensions see what they read, by induction on it.
use Rattle.std.proofs.Common.{◌≡◌, ℕ, zero, suc, ◌+◌, ◌*◌, ◌/◌, ◌%◌, ◌<◌, ◌≤◌, ◌^◌, ◌⊎◌, List, [], ◌∷◌, ◌++◌, length, Bool, true, false, refl, sym, ap, ◌∙◌, subst, ⊎_elim, inl, inr, arith}
use Rattle.std.specs.Prelude.{slice_index}
use Rattle.std.proofs.lemmas.Nat.{div-mul-add, mod-mul-add, div-add-mod'}
use Rattle.std.proofs.Math.Nat.{mod-lt}
use Rattle.lift_tree.specs.declared.term.Level.TheVariants.{Items}
use Rattle.lift_tree.specs.declared.term.Dimension.TheVariants.{X, Y}
use Rattle.kernel_tree.specs.Code.{Array, Input, Output, Local as LocalArray, Private}
use Rattle.kernel_tree.specs.Device.{row}
use Rattle.kernel_tree.specs.Faults.{Among}
use Rattle.kernel_tree.specs.Launch.{Launch, Cells}
use Rattle.lift_ir.specs.Types.{Ty, PairOf, ArrayOf, IsPosition, IsFlat, width, size}
use Rattle.lift_ir.specs.Layouts.{Layout, operand_position, result_position, Reshapes, IsInvertible}
use Rattle.lift_ir.specs.Terms.{LoadSet, Over, LocalMemory, Term, Bound, Source, Both, Project, Reshape, LetArray, Map, Copy, LoadsScalars, push, HasType}
use Rattle.lift_ir.specs.Owner.{local_along}
use Rattle.lift_ir.specs.Scalars.{Scalars, by_side, at_index, scalars_of}
use Rattle.lift_ir.proofs.Positions.{operand_in, result_in, result_operand}
use Rattle.printed_form.specs.Arguments.{marks_in, local_arrays}
use Rattle.printed_form.specs.Counts.{Count, more, AtMost, load_count, variable_count, private_count, local_count}
use Rattle.printed_form.specs.Marks.{Mark, Nowhere, Register, Lane, Spot, Marks, laid_in, loaded_marks}
use Rattle.printed_form.specs.Form.{Declares}
use Rattle.printed_form.specs.Whole.{IsGiven}
use Rattle.group_phases.specs.Grids.{places}
use Rattle.group_phases.specs.Strides.{MakesTurnsBy}
use Rattle.printed_form.proofs.Runs.{many_more}
use Rattle.group_phases.proofs.Grids.{pair_below, some_factor}
use Rattle.group_phases.proofs.Held.{IsVariable, loaded_or}
use Rattle.group_phases.proofs.TurnForms.{below}
use Rattle.group_form.specs.Body.{destination_marks, first_index}
use Rattle.group_form.specs.Forms.{IsOfInputs}
use Rattle.group_form.specs.GridTerms.{StandsAlongRow, StandsInGrid}
use Rattle.group_form.specs.GridTheorem.{MakeGridTurns}
use Rattle.group_form.specs.Named as named
use Rattle.group_form.specs.Named.{element_ways, named_outside, ways, cut}
use Rattle.group_form.specs.Origins.{Origin, Elsewhere, Within, at_way, bent, laid_from, origin_of}
use Rattle.group_form.specs.Stages.{Scope, later, bind, marks_of}
use Rattle.group_form.specs.Uses.{Use, Destination, Locals, Outputs, element_reads, variable_reads, writes_to, loop_uses}
use Rattle.group_form.specs.Whole.{DeclaresLocals, destination_type}
use Rattle.group_form.proofs.GridStages as stages
use Rattle.group_form.proofs.GridStages.{Stage, GridBody, stage_at, place_of, result_type, value_in, under, split_up, joined_up, Each, each_append, each_left, each_right}
use Rattle.group_form.proofs.Lists.{long_append, among_left, among_right}
use Rattle.group_form.proofs.Most.{most_first, most_rest, most_later}
use Rattle.group_form.proofs.Named.{body_typed, cut_position, element_loads}
use Rattle.group_form.proofs.Seen.{way_bent, laid_at, IsTurnScalar}
use Rattle.group_form.proofs.Uses.{reading, element_told, variable_told, write_told}

module _ {A : Type 0} (num : A → ℕ) (long : Array → ℕ) (l : Launch) (few_rows : l.local.1 ≤ 2 ^ 31) (few : l.local.0 ≤ 2 ^ 31) (c : Cells) (b : GridBody A) (makes : MakeGridTurns b.forms num l) (given : (v : ℕ) (cs : List Bool) (p : List ℕ) → IsPosition (b.src v) cs p → IsGiven c (b.ins v cs p) (b.sources v cs p)) where
  -- this stands for one of a row's scalars, or of a turn's, which is v
  abbrev pub IsTopScalar : (i : ℕ) → Mark → (v : ℕ) → Type 0
  IsTopScalar i m v =
      IsTurnScalar b.row_top (i / b.grid.columns) m v
      ⊎ ((cs : List Bool) × (q : List ℕ) × IsPosition b.top.type cs q × (loaded_marks b.top.loads (b.top.marks i) (load_count b.row_top.loads) cs q ≡ m) × (b.top.scalars i cs q ≡ v))

  -- a cell of a local array that an earlier phase fills
  pub record IsFilledCell (q i a n v : ℕ) : Type 0 where
    pub phase : ℕ
    pub earlier : phase < q
    pub first : ℕ
    pub ty : Ty
    pub destination : (stage_at b.stages phase).destination ≡ Locals first ty
    pub choices : List Bool
    pub position : List ℕ
    pub inside : IsPosition (result_type (stage_at b.stages phase)) choices position
    pub is : Spot (LocalArray a) n ≡ (place_of b.out i (stage_at b.stages phase)).to choices position
    pub has : v ≡ value_in num b.sources b.out i (stage_at b.stages phase) choices position

  -- at turn i before phase q, from this origin: an input's cell, such a
  -- cell, or a scalar in a variable
  abbrev pub SeenAt : Origin → (q i : ℕ) → Mark → ℕ → Type 0
  SeenAt o q i (Spot (Input a) n) v = (n < length (row c.ins a)) × (slice_index (row c.ins a) n ≡ v)
  SeenAt o q i (Spot (LocalArray a) n) v = IsFilledCell q i a n v × (plainly : Bool) × (o ≡ Within a plainly)
  SeenAt o q i (Register r) v = IsTopScalar i (Register r) v
  SeenAt o q i (Lane r j) v = IsTopScalar i (Lane r j) v
  SeenAt o q i _ v = ⊥

  -- and in phase q, which has these uses, where more may be held in variables
  abbrev pub ReadAt : (Held : Mark → ℕ → Type 0) → List Use → (q i : ℕ) → Mark → ℕ → Type 0
  ReadAt Held us q i (Spot (Input a) n) v = (n < length (row c.ins a)) × (slice_index (row c.ins a) n ≡ v)
  ReadAt Held us q i (Spot (LocalArray a) n) v = IsFilledCell q i a n v × (plainly : Bool) × Among (reading a plainly) us
  ReadAt Held us q i (Register r) v = IsTopScalar i (Register r) v ⊎ Held (Register r) v
  ReadAt Held us q i (Lane r j) v = IsTopScalar i (Lane r j) v ⊎ Held (Lane r j) v
  ReadAt Held us q i _ v = ⊥

  abbrev pub Sees : Origin → (q : ℕ) → Ty → (marks : (turn : ℕ) → Marks) → (scalars : (turn : ℕ) → Scalars) → Type 0
  Sees o q ty e s = (i : ℕ) → i < places b.grid → (cs : List Bool) (p : List ℕ) → IsPosition ty cs p → SeenAt (at_way o cs) q i (e i cs p) (s i cs p)

  abbrev pub Reads : (Held : Mark → ℕ → Type 0) → List Use → (q i : ℕ) → Ty → Marks → Scalars → Type 0
  Reads Held us q i ty e s = (cs : List Bool) (p : List ℕ) → IsPosition ty cs p → ReadAt Held us q i (e cs p) (s cs p)

  seen_later : (o : Origin) (q r i : ℕ) (m : Mark) (v : ℕ) → q ≤ r → SeenAt o q i m v → SeenAt o r i m v
  seen_later o q r i (Spot (Input a) n) v le x = x
  seen_later o q r i (Spot (LocalArray a) n) v le x = (
    record { phase = x.0.phase; earlier = (let e = x.0.earlier in omega arith); first = x.0.first; ty = x.0.ty; destination = x.0.destination; choices = x.0.choices; position = x.0.position; inside = x.0.inside; is = x.0.is; has = x.0.has },
    x.1,
    x.2,
  )
  seen_later o q r i (Spot (Output a) n) v le x = absurd x
  seen_later o q r i (Spot (Private a) n) v le x = absurd x
  seen_later o q r i (Register a) v le x = x
  seen_later o q r i (Lane a j) v le x = x
  seen_later o q r i Nowhere v le x = absurd x

  seen_bent : (o : Origin) (q i : ℕ) (m : Mark) (v : ℕ) → SeenAt o q i m v → SeenAt (bent o) q i m v
  seen_bent o q i (Spot (Input a) n) v x = x
  seen_bent o q i (Spot (LocalArray a) n) v x = (x.0, false, ap bent x.2)
  seen_bent o q i (Spot (Output a) n) v x = absurd x
  seen_bent o q i (Spot (Private a) n) v x = absurd x
  seen_bent o q i (Register a) v x = x
  seen_bent o q i (Lane a j) v x = x
  seen_bent o q i Nowhere v x = absurd x

  pub seen_input : (o : Origin) (q i : ℕ) (m : Mark) (v : ℕ) → IsGiven c m v → SeenAt o q i m v
  seen_input o q i (Spot (Input a) n) v x = x
  seen_input o q i (Spot (LocalArray a) n) v x = absurd x
  seen_input o q i (Spot (Output a) n) v x = absurd x
  seen_input o q i (Spot (Private a) n) v x = absurd x
  seen_input o q i (Register a) v x = absurd x
  seen_input o q i (Lane a j) v x = absurd x
  seen_input o q i Nowhere v x = absurd x

  read_input : (Held : Mark → ℕ → Type 0) (us : List Use) (q i : ℕ) (m : Mark) (v : ℕ) → IsGiven c m v → ReadAt Held us q i m v
  read_input Held us q i (Spot (Input a) n) v x = x
  read_input Held us q i (Spot (LocalArray a) n) v x = absurd x
  read_input Held us q i (Spot (Output a) n) v x = absurd x
  read_input Held us q i (Spot (Private a) n) v x = absurd x
  read_input Held us q i (Register a) v x = absurd x
  read_input Held us q i (Lane a j) v x = absurd x
  read_input Held us q i Nowhere v x = absurd x

  -- what is seen may be read, where reads of its array are told
  read_seen : (Held : Mark → ℕ → Type 0) (us : List Use) (o : Origin) (q i : ℕ) (m : Mark) (v : ℕ) → ((a : ℕ) (p : Bool) → o ≡ Within a p → Among (reading a p) us) → SeenAt o q i m v → ReadAt Held us q i m v
  read_seen Held us o q i (Spot (Input a) n) v told x = x
  read_seen Held us o q i (Spot (LocalArray a) n) v told x = (x.0, x.1, told a x.1 x.2)
  read_seen Held us o q i (Spot (Output a) n) v told x = absurd x
  read_seen Held us o q i (Spot (Private a) n) v told x = absurd x
  read_seen Held us o q i (Register a) v told x = inl x
  read_seen Held us o q i (Lane a j) v told x = inl x
  read_seen Held us o q i Nowhere v told x = absurd x

  -- a variable of the row or of the turn
  pub seen_top : (o : Origin) (q i : ℕ) (m : Mark) (v : ℕ) → IsVariable m → IsTopScalar i m v → SeenAt o q i m v
  seen_top o q i (Register a) v is x = x
  seen_top o q i (Lane a j) v is x = x
  seen_top o q i (Spot a n) v is x = absurd is
  seen_top o q i Nowhere v is x = absurd is

  -- or one that is held
  read_held : (Held : Mark → ℕ → Type 0) (us : List Use) (q i : ℕ) (m : Mark) (v : ℕ) → IsVariable m → Held m v → ReadAt Held us q i m v
  read_held Held us q i (Register a) v is x = inr x
  read_held Held us q i (Lane a j) v is x = inr x
  read_held Held us q i (Spot a n) v is x = absurd is
  read_held Held us q i Nowhere v is x = absurd is

  -- more may be held
  read_more : (Held More : Mark → ℕ → Type 0) (us : List Use) (q i : ℕ) (m : Mark) (v : ℕ) → ((r : Mark) (a : ℕ) → Held r a → More r a) → ReadAt Held us q i m v → ReadAt More us q i m v
  read_more Held More us q i (Spot (Input a) n) v f x = x
  read_more Held More us q i (Spot (LocalArray a) n) v f x = x
  read_more Held More us q i (Spot (Output a) n) v f x = absurd x
  read_more Held More us q i (Spot (Private a) n) v f x = absurd x
  read_more Held More us q i (Register a) v f x = ⊎_elim (λ y. inl y) (λ y. inr (f (Register a) v y)) x
  read_more Held More us q i (Lane a j) v f x = ⊎_elim (λ y. inl y) (λ y. inr (f (Lane a j) v y)) x
  read_more Held More us q i Nowhere v f x = absurd x

  -- an argument that copies nothing, of what may be read
  reads_zipped : (Held : Mark → ℕ → Type 0) (us : List Use) (q i n : ℕ) (x y : Ty) (e f : Marks) (s r : Scalars) → Reads Held us q i (ArrayOf n x) e s → Reads Held us q i (ArrayOf n y) f r → Reads Held us q i (ArrayOf n (PairOf x y)) (by_side (λ q. Nowhere) e f) (by_side (λ p. 0) s r)
  reads_zipped Held us q i n x y e f s r a d cs [] z = absurd z
  reads_zipped Held us q i n x y e f s r a d [] (j ∷ p) z = absurd z.1
  reads_zipped Held us q i n x y e f s r a d (false ∷ cs) (j ∷ p) z = a cs (j ∷ p) z
  reads_zipped Held us q i n x y e f s r a d (true ∷ cs) (j ∷ p) z = d cs (j ∷ p) z

  reads_push : (Held : Mark → ℕ → Type 0) (us : List Use) (q i : ℕ) (g : ℕ → Ty) (env : ℕ → Marks) (sems : ℕ → Scalars) (u : Ty) (e : Marks) (s : Scalars) → Reads Held us q i u e s → ((v : ℕ) → Reads Held us q i (g v) (env v) (sems v)) → (v : ℕ) → Reads Held us q i (push u g v) (push e env v) (push s sems v)
  reads_push Held us q i g env sems u e s a d zero = a
  reads_push Held us q i g env sems u e s a d (suc v) = d v

  pub looks : (Held : Mark → ℕ → Type 0) (us : List Use) (q i : ℕ) (t : Term A) (g : ℕ → Ty) (env : ℕ → Marks) (sems : ℕ → Scalars) (ty : Ty) (k : ℕ) → IsOfInputs t → HasType num b.src g t ty → ((v : ℕ) → Reads Held us q i (g v) (env v) (sems v)) → Reads Held us q i ty (marks_in local_arrays num b.ins env k t) (scalars_of num b.sources sems t)
  looks Held us q i (Bound v) g env sems ty k f x e = subst (λ z. Reads Held us q i z (env v) (sems v)) (sym x) (e v)
  looks Held us q i (Source v) g env sems ty k f x e = subst (λ z. Reads Held us q i z (b.ins v) (b.sources v)) (sym x) (λ cs p z. read_input Held us q i (b.ins v cs p) (b.sources v cs p) (given v cs p z))
  looks Held us q i (Both true m n) g env sems ty k f x e =
      subst (λ z. Reads Held us q i z (marks_in local_arrays num b.ins env k (Both true m n)) (scalars_of num b.sources sems (Both true m n))) (sym x.3)
      (reads_zipped Held us q i x.0 x.1 x.2 (marks_in local_arrays num b.ins env k m) (marks_in local_arrays num b.ins env (k + local_count m) n) (scalars_of num b.sources sems m) (scalars_of num b.sources sems n) (looks Held us q i m g env sems (ArrayOf x.0 x.1) k f.0 x.4 e) (looks Held us q i n g env sems (ArrayOf x.0 x.2) (k + local_count m) f.1 x.5 e))
  looks Held us q i (Project false m) g env sems ty k f x e = λ cs p z. looks Held us q i m g env sems (PairOf ty x.0) k f x.1 e (false ∷ cs) p z
  looks Held us q i (Project true m) g env sems ty k f x e = λ cs p z. looks Held us q i m g env sems (PairOf x.0 ty) k f x.1 e (true ∷ cs) p z
  looks Held us q i (Reshape y m) g env sems ty k f x e = λ cs p z. looks Held us q i m g env sems x.0 k f x.1 e cs (operand_position num y p) (operand_in num y x.0 ty cs p x.2 z)
  looks Held us q i (LetArray v d) g env sems ty k f x e =
      looks Held us q i d (push x.0 g) (push (marks_in local_arrays num b.ins env k v) env) (push (scalars_of num b.sources sems v) sems) ty (k + local_count v) f.1 x.2
      (reads_push Held us q i g env sems x.0 (marks_in local_arrays num b.ins env k v) (scalars_of num b.sources sems v) (looks Held us q i v g env sems x.0 k f.0 x.1 e) e)
  looks Held us q i _ g env sems ty k f x e = absurd (assumption)

  -- what is held in a row of a phase
  abbrev pub HeldIn : Stage A → (i r : ℕ) → Mark → ℕ → Type 0
  HeldIn s i r m v =
      (cs : List Bool) × (q : List ℕ) × IsPosition s.nest.row_element cs q
      × (loaded_marks s.nest.row_loads (λ cs q. s.row_marks i cs (r ∷ q)) s.nest.variables cs q ≡ m)
      × (s.row_scalars i cs (r ∷ q) ≡ v)

  abbrev pub NoneHeld : Mark → ℕ → Type 0
  NoneHeld r v = ⊥

  -- a destination's type holds what a term of a type gives
  pub record IsAimed (target ty : Ty) (outer path : List ℕ → List ℕ) : Type 0 where
    pub inside : (cs : List Bool) (p : List ℕ) → IsPosition ty cs p → IsPosition target cs (outer p)
    pub returns : (cs : List Bool) (p : List ℕ) → IsPosition ty cs p → path (outer p) ≡ p
    pub covers : (cs : List Bool) (p : List ℕ) → IsPosition target cs p → IsPosition ty cs (path p) × (outer (path p) ≡ p)

  -- what a phase with this number has
  pub record IsStage (q : ℕ) (s : Stage A) : Type 0 where
    pub rows_made : MakesTurnsBy s.nest.rows_form s.nest.grid.rows l.local.1
    pub columns_made : MakesTurnsBy s.nest.columns_form s.nest.grid.columns l.local.0
    pub rows_short : s.nest.grid.rows + l.local.1 ≤ 2 ^ 32
    pub columns_short : s.nest.grid.columns + l.local.0 ≤ 2 ^ 32
    pub row_loads : LoadsScalars s.nest.row_loads s.nest.row_element
    pub loads : LoadsScalars s.nest.loads s.nest.element
    pub typed : HasType num b.src (push s.nest.element s.nest.types) s.nest.body s.nest.result
    pub declares : Declares long s.nest.privates s.nest.body
    pub after_top : AtMost (more (load_count b.row_top.loads) (load_count b.top.loads)) s.nest.variables
    pub after_row : AtMost (more s.nest.variables (load_count s.nest.row_loads)) s.nest.inner
    pub fits : AtMost (more (more s.nest.inner (load_count s.nest.loads)) (variable_count s.nest.body)) b.variables
    pub aimed : IsAimed (destination_type b.result s.destination) (result_type s) s.outer s.path
    pub holds : (f : ℕ) (ty : Ty) → s.destination ≡ Locals f ty → IsFlat ty × ((a : ℕ) → a < width ty → long (LocalArray (f + a)) ≡ size ty)
    pub gives : s.destination ≡ Outputs → suc q ≡ length b.stages
    pub tells : (f a : ℕ) (ty : Ty) → s.destination ≡ Locals f ty → a < width ty → Among (record { array = f + a; writes = true; aligned = false }) s.uses
    pub rows : (i r : ℕ) → i < places b.grid → r < s.nest.grid.rows → Reads NoneHeld s.uses q i s.nest.row_element (at_index r (s.row_marks i)) (at_index r (s.row_scalars i))
    pub envs : (v i r : ℕ) → i < places b.grid → r < s.nest.grid.rows → Reads (HeldIn s i r) s.uses q i (s.nest.types v) (s.env i r v) (s.sems i r v)
    pub elements : (i r j : ℕ) → i < places b.grid → r < s.nest.grid.rows → j < s.nest.grid.columns → Reads (HeldIn s i r) s.uses q i s.nest.element (at_index j (s.marks i r)) (at_index j (s.scalars i r))

  abbrev pub Stand : ℕ → List (Stage A) → Type 0
  Stand = Each (λ q s. stage_at b.stages q ≡ s)

  abbrev pub Scoped : ℕ → Scope → Type 0
  Scoped q s = (v : ℕ) → Sees (s.origins v) q (s.types v) (λ i. s.env i v) (λ i. s.sems i v)

  abbrev argument_stages : (s : Scope) (t : Term A) (ty : Ty) → HasType num b.src s.types t ty → List (Stage A)
  argument_stages = stages.argument_stages num b.forms b.ins b.src b.sources

  abbrev written_stages : (s : Scope) (t : Term A) (ty : Ty) → HasType num b.src s.types t ty → Destination → (outer path : List ℕ → List ℕ) → List (Stage A)
  written_stages = stages.written_stages num b.forms b.ins b.src b.sources

  abbrev marks_at : ((turn var : ℕ) → Marks) → ℕ → Term A → (turn : ℕ) → Marks
  marks_at = marks_of num b.ins

  abbrev bound_to : Scope → Term A → Ty → Scope
  bound_to = bind num b.ins b.src b.sources

  abbrev value_of : Scope → Term A → (turn : ℕ) → Scalars
  value_of s t i = scalars_of num b.sources (s.sems i) t

  abbrev pub SeenArgument : (q : ℕ) → Scope → Term A → Ty → Type 0
  SeenArgument q s t ty = Sees (origin_of s.origins s.locals t) q ty (marks_at s.env s.locals t) (value_of s t)

  -- the place of a phase that gives a position lies in this row and column of
  -- the group, but for whole steps
  abbrev pub IsOwnedAt : Stage A → List ℕ → (row column : ℕ) → Type 0
  IsOwnedAt s p r c =
      (r ≡ (first_index (s.path p) / s.nest.grid.columns) % l.local.1) × (c ≡ (first_index (s.path p) % s.nest.grid.columns) % l.local.0)

  -- the last of a term's phases, whose value is the term's
  pub record IsLast (after : ℕ) (s : Scope) (t : Term A) (ty : Ty) (d : Destination) (path : List ℕ → List ℕ) : Type 0 where
    pub at : ℕ
    pub ends : suc at ≡ after
    pub goes : (stage_at b.stages at).destination ≡ d
    pub stage : IsStage at (stage_at b.stages at)
    pub value : (i : ℕ) (cs : List Bool) (p : List ℕ) → IsPosition ty cs (path p) → value_in num b.sources b.out i (stage_at b.stages at) cs ((stage_at b.stages at).path p) ≡ value_of s t i cs (path p)
    pub place : (cs : List Bool) (p : List ℕ) → IsPosition ty cs (path p) → IsOwnedAt (stage_at b.stages at) p (local_along Y num l t (path p)) (local_along X num l t (path p))

  later_seen : (o : Origin) (q r : ℕ) (ty : Ty) (e : ℕ → Marks) (s : ℕ → Scalars) → q ≤ r → Sees o q ty e s → Sees o r ty e s
  later_seen o q r ty e s le h i il cs p x = seen_later (at_way o cs) q r i (e i cs p) (s i cs p) le (h i il cs p x)

  scoped_later : (q r : ℕ) (s : Scope) → q ≤ r → Scoped q s → Scoped r s
  scoped_later q r s le h v = later_seen (s.origins v) q r (s.types v) (λ i. s.env i v) (λ i. s.sems i v) le (h v)

  bound_in : (q : ℕ) (s : Scope) (v : Term A) (u : Ty) → Scoped q s → SeenArgument q s v u → Scoped q (bound_to s v u)
  bound_in q s v u h x zero = x
  bound_in q s v u h x (suc n) = h n

  zipped : (q n : ℕ) (x y : Term A) (s : Scope) (t u : Ty) → Sees (origin_of s.origins s.locals x) q (ArrayOf n t) (marks_at s.env s.locals x) (value_of s x)
      → Sees (origin_of s.origins (s.locals + local_count x) y) q (ArrayOf n u) (marks_at s.env (s.locals + local_count x) y) (value_of s y) → SeenArgument q s (Both true x y) (ArrayOf n (PairOf t u))
  zipped q n x y s t u f g i il cs [] z = absurd z
  zipped q n x y s t u f g i il [] (j ∷ p) z = absurd z.1
  zipped q n x y s t u f g i il (false ∷ cs) (j ∷ p) z = f i il cs (j ∷ p) z
  zipped q n x y s t u f g i il (true ∷ cs) (j ∷ p) z = g i il cs (j ∷ p) z

  -- a copy that the last phase fills
  copied : (q f : ℕ) (x : Term A) (s : Scope) (u : Ty) → IsLast q s x u (Locals f u) (λ p. p) → Sees (laid_from f u) q u (λ i. laid_in LocalArray f u) (value_of s x)
  copied q f x s u w i il cs p z =
      let ends = w.ends in
      let t = stage_at b.stages w.at in
      let covered = w.stage.aimed.covers cs p (subst (λ a. IsPosition (destination_type b.result a) cs p) (sym w.goes) z) in (
        record {
          phase = w.at;
          earlier = omega arith;
          first = f;
          ty = u;
          destination = w.goes;
          choices = cs;
          position = t.path p;
          inside = covered.0;
          is = sym (ap (λ a. destination_marks b.out i a cs (t.outer (t.path p))) w.goes ∙ ap (laid_in LocalArray f u cs) covered.1);
          has = sym (w.value i cs p z);
        },
        true,
        laid_at f u cs p z,
      )

  aimed_under : (y : Layout A) (u ty target : Ty) (outer path : List ℕ → List ℕ) → IsInvertible y → Reshapes num y u ty → IsAimed target ty outer path → IsAimed target u (λ p. outer (result_position num y p)) (λ p. operand_position num y (path p))
  aimed_under y u ty target outer path t r a = record {
    inside = λ cs p x. a.inside cs (result_position num y p) (result_in num y u ty cs p t r x).0;
    returns = λ cs p x. let e = result_in num y u ty cs p t r x in ap (operand_position num y) (a.returns cs (result_position num y p) e.0) ∙ e.1;
    covers = λ cs p x. let e = a.covers cs p x in (operand_in num y u ty cs (path p) r e.0, ap outer (result_operand num y u ty cs (path p) t r e.0) ∙ e.1);
  }

  -- behind a row
  aimed_in_row : (y : Layout A) (n : ℕ) (u ty target : Ty) (outer path : List ℕ → List ℕ) → IsInvertible y → Reshapes num y u ty → IsAimed target (ArrayOf n ty) outer path → IsAimed target (ArrayOf n u) (λ p. outer (under (result_position num y) p)) (λ p. under (operand_position num y) (path p))
  aimed_in_row y n u ty target outer path t r a = record { inside = inside; returns = returns; covers = covers }
    where
      inside : (cs : List Bool) (p : List ℕ) → IsPosition (ArrayOf n u) cs p → IsPosition target cs (outer (under (result_position num y) p))
      inside cs [] x = absurd x
      inside cs (i ∷ p) x = a.inside cs (i ∷ result_position num y p) (x.0, (result_in num y u ty cs p t r x.1).0)

      returns : (cs : List Bool) (p : List ℕ) → IsPosition (ArrayOf n u) cs p → under (operand_position num y) (path (outer (under (result_position num y) p))) ≡ p
      returns cs [] x = absurd x
      returns cs (i ∷ p) x = let e = result_in num y u ty cs p t r x.1 in ap (under (operand_position num y)) (a.returns cs (i ∷ result_position num y p) (x.0, e.0)) ∙ ap (λ z. i ∷ z) e.1

      back : (cs : List Bool) (q : List ℕ) → IsPosition (ArrayOf n ty) cs q → IsPosition (ArrayOf n u) cs (under (operand_position num y) q) × (under (result_position num y) (under (operand_position num y) q) ≡ q)
      back cs [] x = absurd x
      back cs (i ∷ q) x = ((x.0, operand_in num y u ty cs q r x.1), ap (λ z. i ∷ z) (result_operand num y u ty cs q t r x.1))

      covers : (cs : List Bool) (p : List ℕ) → IsPosition target cs p → IsPosition (ArrayOf n u) cs (under (operand_position num y) (path p)) × (outer (under (result_position num y) (under (operand_position num y) (path p))) ≡ p)
      covers cs p x = let e = a.covers cs p x in let z = back cs (path p) e.0 in (z.0, ap outer z.1 ∙ e.1)

  -- rows one after another
  aimed_flat : (n m : ℕ) (u target : Ty) (outer path : List ℕ → List ℕ) → IsAimed target (ArrayOf n (ArrayOf m u)) outer path → IsAimed target (ArrayOf (n * m) u) (λ p. outer (split_up m p)) (λ p. joined_up m (path p))
  aimed_flat n m u target outer path a = record { inside = λ cs p x. a.inside cs (split_up m p) (apart cs p x).0; returns = λ cs p x. ap (joined_up m) (a.returns cs (split_up m p) (apart cs p x).0) ∙ (apart cs p x).1; covers = λ cs p x. (let e = a.covers cs p x in let z = together cs (path p) e.0 in (z.0, ap outer z.1 ∙ e.1)) }
    where
      apart : (cs : List Bool) (p : List ℕ) → IsPosition (ArrayOf (n * m) u) cs p → IsPosition (ArrayOf n (ArrayOf m u)) cs (split_up m p) × (joined_up m (split_up m p) ≡ p)
      apart cs [] x = absurd x
      apart cs (i ∷ p) x =
          ((below i (i / m) (i % m) n m (div-add-mod' i m) x.0, (mod-lt i (some_factor i n m x.0), x.1)), ap (λ z. z ∷ p) (div-add-mod' i m))

      together : (cs : List Bool) (q : List ℕ) → IsPosition (ArrayOf n (ArrayOf m u)) cs q → IsPosition (ArrayOf (n * m) u) cs (joined_up m q) × (split_up m (joined_up m q) ≡ q)
      together cs [] x = absurd x
      together cs (r ∷ []) x = absurd x.1
      together cs (r ∷ i ∷ p) x = ((pair_below r i n m x.0 x.1.0, x.1.1), ap (λ z. z ∷ (r * m + i) % m ∷ p) (div-mul-add r m i x.1.0) ∙ ap (λ z. r ∷ z ∷ p) (mod-mul-add r m i x.1.0))

  abbrev pub Result : (t : Term A) (s : Scope) (ty : Ty) (h : HasType num b.src s.types t ty) (q : ℕ) → Type 0
  Result t s ty h q = Each IsStage q (argument_stages s t ty h) × SeenArgument (q + length (argument_stages s t ty h)) s t ty

  abbrev pub Fits : Destination → Type 0
  Fits d = (f : ℕ) (ty : Ty) → d ≡ Locals f ty → IsFlat ty × ((a : ℕ) → a < width ty → long (LocalArray (f + a)) ≡ size ty)

  abbrev FitsAt : Destination → Type 0
  FitsAt (Locals f ty) = IsFlat ty × ((a : ℕ) → a < width ty → long (LocalArray (f + a)) ≡ size ty)
  FitsAt Outputs = Unit {0}

  locals_fit : (f : ℕ) (u : Ty) → IsFlat u → ((a : ℕ) → a < width u → long (LocalArray (f + a)) ≡ size u) → Fits (Locals f u)
  locals_fit f u flat room g ty e = let x : FitsAt (Locals f u) = (flat, room) in subst FitsAt e x

  not_outputs : {P : Type 0} → (f : ℕ) (u : Ty) → Locals f u ≡ Outputs → P
  not_outputs f u e = absurd (cc)

  -- a map along a row, in a scope of rows
  module _ (n : A) (loads : LoadSet) (x : Ty) (types : ℕ → Ty) (rm : ℕ → Marks) (rs : ℕ → Scalars) (env : (turn row var : ℕ) → Marks) (sems : (turn row var : ℕ) → Scalars) (k a : ℕ) (m : Count) (us : List Use) (d : Destination) where
    abbrev HeldRow : (i r : ℕ) → Mark → ℕ → Type 0
    HeldRow i r mk v = (cs : List Bool) × (q : List ℕ) × IsPosition x cs q × (loaded_marks loads (λ cs q. rm i cs (r ∷ q)) m cs q ≡ mk) × (rs i cs (r ∷ q) ≡ v)

    abbrev stage : (t : Term A) (ty : Ty) → HasType num b.src types t ty → (outer path : List ℕ → List ℕ) → Stage A
    stage t ty h outer path = stages.along_stage num b.forms b.ins b.src b.sources n loads x types rm rs env sems k a m us d t ty h outer path

    -- the scalars of such a map, behind a row
    abbrev row_value : Term A → (i : ℕ) → List Bool → List ℕ → ℕ
    row_value t i cs [] = 0
    row_value t i cs (r ∷ q) = scalars_of num b.sources (sems i r) t cs q

    module _ (q : ℕ) (small : num n < 2 ^ 31) (scalars : LoadsScalars loads x) (top : AtMost (more (load_count b.row_top.loads) (load_count b.top.loads)) m) (fit : Fits d) (ends : d ≡ Outputs → suc q ≡ length b.stages)
        (tells : (f e : ℕ) (ty : Ty) → d ≡ Locals f ty → e < width ty → Among (record { array = f + e; writes = true; aligned = false }) us)
        (rows : (i r : ℕ) → i < places b.grid → r < num n → Reads NoneHeld us q i x (at_index r (rm i)) (at_index r (rs i)))
        (envs : (v i r : ℕ) → i < places b.grid → r < num n → Reads (HeldRow i r) us q i (types v) (env i r v) (sems i r v)) where
      along : (t : Term A) (ty : Ty) (h : HasType num b.src types t ty) (outer path : List ℕ → List ℕ) → StandsAlongRow t → IsAimed (destination_type b.result d) (ArrayOf (num n) ty) outer path → Declares long a t → AtMost (more m (more (load_count loads) (variable_count t))) b.variables → IsStage q (stage t ty h outer path)
      along (Reshape y t) ty h outer path f aimed declared room = along t h.0 h.1 (λ p. outer (under (result_position num y) p)) (λ p. under (operand_position num y) (path p)) f.1 (aimed_in_row y (num n) h.0 ty (destination_type b.result d) outer path f.0 h.2 aimed) declared room
      along (Map (Over Items X) n2 loads2 ys body) ty h outer path f aimed declared room = record {
        rows_made = makes.rows n small;
        columns_made = makes.columns n2 h.2;
        rows_short = omega arith;
        columns_short = let s = h.2 in omega arith;
        row_loads = scalars;
        loads = h.3;
        typed = h.5;
        declares = declared.1;
        after_top = top;
        after_row = many_more (more m (load_count loads)) (variable_count ys);
        fits = most_rest (more (more m (load_count loads)) (variable_count ys)) (load_count loads2) (variable_count body) b.variables
            (most_rest (more m (load_count loads)) (variable_count ys) (more (load_count loads2) (variable_count body)) b.variables (most_rest m (load_count loads) (more (variable_count ys) (more (load_count loads2) (variable_count body))) b.variables room));
        aimed = aimed_flat (num n) (num n2) h.1 (destination_type b.result d) outer path (subst (λ z. IsAimed (destination_type b.result d) (ArrayOf (num n) z) outer path) h.6 aimed);
        holds = fit;
        gives = ends;
        tells = tells;
        rows = rows;
        envs = envs;
        elements = λ i r j il rl jl cs p z. looks (HeldRow i r) us q i ys types (env i r) (sems i r) (ArrayOf (num n2) h.0) k f.0 h.4 (λ v. envs v i r il rl) cs (j ∷ p) (jl, z);
      }
      along _ ty h outer path f aimed declared room = absurd (assumption)

    along_value : (out : Marks) (t : Term A) (ty : Ty) (h : HasType num b.src types t ty) (outer path : List ℕ → List ℕ) → StandsAlongRow t → (i : ℕ) (cs : List Bool) (p w : List ℕ) → path p ≡ w → IsPosition (ArrayOf (num n) ty) cs w → value_in num b.sources out i (stage t ty h outer path) cs ((stage t ty h outer path).path p) ≡ row_value t i cs w
    along_value out (Reshape y t) ty h outer path f i cs p [] e z = absurd z
    along_value out (Reshape y t) ty h outer path f i cs p (r ∷ w) e z =
        along_value out t h.0 h.1 (λ p. outer (under (result_position num y) p)) (λ p. under (operand_position num y) (path p)) f.1 i cs p (r ∷ operand_position num y w) (ap (under (operand_position num y)) e) (z.0, operand_in num y h.0 ty cs w h.2 z.1)
    along_value out (Map (Over Items X) n2 loads2 ys body) ty h outer path f i cs p [] e z = absurd z
    along_value out (Map (Over Items X) n2 loads2 ys body) ty h outer path f i cs p (r ∷ w) e z = go w e (subst (λ u. IsPosition u cs w) h.6 z.1)
      where
        at : ℕ → ℕ → List ℕ → ℕ
        at u j p2 = scalars_of num b.sources (push (at_index j (scalars_of num b.sources (sems i u) ys)) (sems i u)) body cs p2

        go : (w : List ℕ) → path p ≡ r ∷ w → IsPosition (ArrayOf (num n2) h.1) cs w → value_in num b.sources out i (stage (Map (Over Items X) n2 loads2 ys body) ty h outer path) cs ((stage (Map (Over Items X) n2 loads2 ys body) ty h outer path).path p) ≡ row_value (Map (Over Items X) n2 loads2 ys body) i cs (r ∷ w)
        go [] e z = absurd z
        go (j ∷ w) e z =
            let m2 = num n2 in
            let num_is = ap (joined_up m2) e in
            ap (value_in num b.sources out i (stage (Map (Over Items X) n2 loads2 ys body) ty h outer path) cs) num_is
            ∙ ap (λ u. at u ((r * m2 + j) % m2) w) (div-mul-add r m2 j z.0) ∙ ap (λ u. at r u w) (mod-mul-add r m2 j z.0)
    along_value out _ ty h outer path f i cs p w e z = absurd (assumption)

    along_place : (t : Term A) (ty : Ty) (h : HasType num b.src types t ty) (outer path : List ℕ → List ℕ) → StandsAlongRow t → (cs : List Bool) (p : List ℕ) (r : ℕ) (w : List ℕ) → path p ≡ r ∷ w → IsPosition ty cs w → IsOwnedAt (stage t ty h outer path) p (r % l.local.1) (local_along X num l t w)
    along_place (Reshape y t) ty h outer path f cs p r w e z =
        along_place t h.0 h.1 (λ p. outer (under (result_position num y) p)) (λ p. under (operand_position num y) (path p)) f.1 cs p r (operand_position num y w) (ap (under (operand_position num y)) e) (operand_in num y h.0 ty cs w h.2 z)
    along_place (Map (Over Items X) n2 loads2 ys body) ty h outer path f cs p r w e z = go w e (subst (λ u. IsPosition u cs w) h.6 z)
      where
        go : (w : List ℕ) → path p ≡ r ∷ w → IsPosition (ArrayOf (num n2) h.1) cs w → IsOwnedAt (stage (Map (Over Items X) n2 loads2 ys body) ty h outer path) p (r % l.local.1) (local_along X num l (Map (Over Items X) n2 loads2 ys body) w)
        go [] e z = absurd z
        go (j ∷ w) e z =
            let m2 = num n2 in
            let is : joined_up m2 (path p) ≡ (r * m2 + j) ∷ w = ap (joined_up m2) e in
            (ap (λ u. u % l.local.1) (sym (div-mul-add r m2 j z.0)) ∙ ap (λ u. (first_index u / m2) % l.local.1) (sym is), ap (λ u. u % l.local.0) (sym (mod-mul-add r m2 j z.0)) ∙ ap (λ u. (first_index u % m2) % l.local.0) (sym is))
    along_place _ ty h outer path f cs p r w e z = absurd (assumption)

  -- a local map over rows
  module _ (q r : ℕ) (n : A) (s : Scope) (loads : LoadSet) (xs body : Term A) (x y : Ty) (d : Destination) (outer path : List ℕ → List ℕ) (small : num n < 2 ^ 31) (scalars : LoadsScalars loads x) (typed : HasType num b.src (push x s.types) body y) (le : q ≤ r) (scoped : Scoped q s) (seen : SeenArgument r s xs (ArrayOf (num n) x)) (stands : StandsAlongRow body)
      (aimed : IsAimed (destination_type b.result d) (ArrayOf (num n) y) outer path) (fit : Fits d) (ends : d ≡ Outputs → suc r ≡ length b.stages) (declared : Declares long (s.privates + private_count xs) body) (room : AtMost (more s.variables (more (variable_count xs) (more (load_count loads) (variable_count body)))) b.variables) (low : AtMost (more (load_count b.row_top.loads) (load_count b.top.loads)) s.variables) where
    abbrev from : Origin
    from = bent (origin_of s.origins s.locals xs)

    abbrev its_uses : List Use
    its_uses = loop_uses s.origins from loads body d false

    abbrev element : Ty
    element = cut x (element_ways loads body)

    abbrev kept : ℕ → Ty
    kept v = cut (s.types v) (ways v (named_outside body))

    abbrev rm : ℕ → Marks
    rm = marks_at s.env s.locals xs

    abbrev rs : ℕ → Scalars
    rs = value_of s xs

    abbrev first : Count
    first = more s.variables (variable_count xs)

    loads_kept : LoadsScalars loads element
    loads_kept = element_loads loads x (ways 0 (named.named body named.whole)) scalars

    row_reads : (i j : ℕ) → i < places b.grid → j < num n → Reads NoneHeld its_uses r i element (at_index j (rm i)) (at_index j (rs i))
    row_reads i j il jl cs p z =
        let w = cut_position x (element_ways loads body) cs p z in
        let o = origin_of s.origins s.locals xs in
        read_seen NoneHeld its_uses (bent (at_way o cs)) r i (rm i cs (j ∷ p)) (rs i cs (j ∷ p))
        (λ a pl e. among_right (reading a pl) (writes_to d false) (element_reads from (element_ways loads body) ++ variable_reads s.origins (named_outside body))
        (among_left (reading a pl) (element_reads from (element_ways loads body)) (variable_reads s.origins (named_outside body)) (element_told from (element_ways loads body) cs a pl w.1 (way_bent o cs ∙ e))))
        (seen_bent (at_way o cs) r i (rm i cs (j ∷ p)) (rs i cs (j ∷ p)) (seen i il cs (j ∷ p) (jl, w.0)))

    abbrev held_row : (i j : ℕ) → Mark → ℕ → Type 0
    held_row i j mk v = (cs : List Bool) × (q : List ℕ) × IsPosition element cs q × (loaded_marks loads (λ cs q. rm i cs (j ∷ q)) first cs q ≡ mk) × (rs i cs (j ∷ q) ≡ v)

    env_reads : (v i j : ℕ) → i < places b.grid → j < num n → Reads (held_row i j) its_uses r i (push element kept v) (push (loaded_marks loads (at_index j (rm i)) first) (s.env i) v) (push (at_index j (rs i)) (s.sems i) v)
    env_reads zero i j il jl cs p z =
        ⊎_elim
        (λ is. read_held (held_row i j) its_uses r i (loaded_marks loads (at_index j (rm i)) first cs p) (rs i cs (j ∷ p)) is (cs, p, z, refl, refl))
        (λ e. subst (λ mk. ReadAt (held_row i j) its_uses r i mk (rs i cs (j ∷ p))) (sym e) (read_more NoneHeld (held_row i j) its_uses r i (rm i cs (j ∷ p)) (rs i cs (j ∷ p)) (λ u v2 w. absurd w) (row_reads i j il jl cs p z)))
        (loaded_or loads element (at_index j (rm i)) first cs p loads_kept z)
    env_reads (suc v) i j il jl cs p z =
        let w = cut_position (s.types v) (ways v (named_outside body)) cs p z in
        read_seen (held_row i j) its_uses (bent (at_way (s.origins v) cs)) r i (s.env i v cs p) (s.sems i v cs p)
        (λ a pl e. among_right (reading a pl) (writes_to d false) (element_reads from (element_ways loads body) ++ variable_reads s.origins (named_outside body))
        (among_right (reading a pl) (element_reads from (element_ways loads body)) (variable_reads s.origins (named_outside body)) (variable_told s.origins (named_outside body) v cs a pl w.1 (way_bent (s.origins v) cs ∙ e))))
        (seen_bent (at_way (s.origins v) cs) r i (s.env i v cs p) (s.sems i v cs p) (scoped_later q r s le scoped v i il cs p w.0))

    writes_told : (f e : ℕ) (ty : Ty) → d ≡ Locals f ty → e < width ty → Among (record { array = f + e; writes = true; aligned = false }) its_uses
    writes_told f e ty is lt = among_left (record { array = f + e; writes = true; aligned = false }) (writes_to d false) (element_reads from (element_ways loads body) ++ variable_reads s.origins (named_outside body)) (write_told d false f ty e is lt)

    abbrev the_stage : Stage A
    the_stage =
        stages.along_stage num b.forms b.ins b.src b.sources n loads element (push element kept) rm rs (λ i j. push (loaded_marks loads (at_index j (rm i)) first) (s.env i)) (λ i j. push (at_index j (rs i)) (s.sems i)) (s.locals + local_count xs) (s.privates + private_count xs) first its_uses d body y (body_typed num b.src s.types loads body x y typed) outer path

    this_stage : IsStage r the_stage
    this_stage =
        along n loads element (push element kept) rm rs (λ i j. push (loaded_marks loads (at_index j (rm i)) first) (s.env i)) (λ i j. push (at_index j (rs i)) (s.sems i)) (s.locals + local_count xs) (s.privates + private_count xs) first its_uses d r small loads_kept (most_later (more (load_count b.row_top.loads) (load_count b.top.loads)) s.variables (variable_count xs) low) fit ends writes_told row_reads env_reads
        body y (body_typed num b.src s.types loads body x y typed) outer path stands aimed declared (most_rest s.variables (variable_count xs) (more (load_count loads) (variable_count body)) b.variables room)

    this_value : (i : ℕ) (cs : List Bool) (p : List ℕ) → IsPosition (ArrayOf (num n) y) cs (path p) → value_in num b.sources b.out i the_stage cs (the_stage.path p) ≡ value_of s (Map (Over Items Y) n loads xs body) i cs (path p)
    this_value i cs p z = of_row (path p) refl z
      where
        of_row : (w : List ℕ) → path p ≡ w → IsPosition (ArrayOf (num n) y) cs w → value_in num b.sources b.out i the_stage cs (the_stage.path p) ≡ value_of s (Map (Over Items Y) n loads xs body) i cs w
        of_row [] e z = absurd z
        of_row (j ∷ w) e z =
            along_value n loads element (push element kept) rm rs (λ i j. push (loaded_marks loads (at_index j (rm i)) first) (s.env i)) (λ i j. push (at_index j (rs i)) (s.sems i)) (s.locals + local_count xs) (s.privates + private_count xs) first its_uses d b.out body y (body_typed num b.src s.types loads body x y typed) outer path stands i cs p (j ∷ w) e z

    this_place : (cs : List Bool) (p : List ℕ) → IsPosition (ArrayOf (num n) y) cs (path p) → IsOwnedAt the_stage p (local_along Y num l (Map (Over Items Y) n loads xs body) (path p)) (local_along X num l (Map (Over Items Y) n loads xs body) (path p))
    this_place cs p z = of_row (path p) refl z
      where
        of_row : (w : List ℕ) → path p ≡ w → IsPosition (ArrayOf (num n) y) cs w → IsOwnedAt the_stage p (local_along Y num l (Map (Over Items Y) n loads xs body) w) (local_along X num l (Map (Over Items Y) n loads xs body) w)
        of_row [] e z = absurd z
        of_row (j ∷ w) e z =
            along_place n loads element (push element kept) rm rs (λ i j. push (loaded_marks loads (at_index j (rm i)) first) (s.env i)) (λ i j. push (at_index j (rs i)) (s.sems i)) (s.locals + local_count xs) (s.privates + private_count xs) first its_uses d body y (body_typed num b.src s.types loads body x y typed) outer path stands cs p j w e z.1

  abbrev last_stage : (n : A) (s : Scope) (loads : LoadSet) (xs body : Term A) (x y : Ty) (d : Destination) (outer path : List ℕ → List ℕ) → HasType num b.src (push x s.types) body y → Stage A
  last_stage n s loads xs body x y d outer path typed =
      stages.along_stage num b.forms b.ins b.src b.sources n loads (cut x (element_ways loads body)) (push (cut x (element_ways loads body)) (λ v. cut (s.types v) (ways v (named_outside body)))) (marks_at s.env s.locals xs) (value_of s xs)
      (λ i j. push (loaded_marks loads (at_index j (marks_at s.env s.locals xs i)) (more s.variables (variable_count xs))) (s.env i)) (λ i j. push (at_index j (value_of s xs i)) (s.sems i)) (s.locals + local_count xs) (s.privates + private_count xs) (more s.variables (variable_count xs))
      (loop_uses s.origins (bent (origin_of s.origins s.locals xs)) loads body d false) d body y (body_typed num b.src s.types loads body x y typed) outer path

  along_goes : (n : A) (loads : LoadSet) (x : Ty) (types : ℕ → Ty) (rm : ℕ → Marks) (rs : ℕ → Scalars) (env : (turn row var : ℕ) → Marks) (sems : (turn row var : ℕ) → Scalars) (k a : ℕ) (m : Count) (us : List Use) (d : Destination) (t : Term A) (ty : Ty) (h : HasType num b.src types t ty) (outer path : List ℕ → List ℕ) → StandsAlongRow t
      → (stages.along_stage num b.forms b.ins b.src b.sources n loads x types rm rs env sems k a m us d t ty h outer path).destination ≡ d
  along_goes n loads x types rm rs env sems k a m us d (Reshape y t) ty h outer path f = along_goes n loads x types rm rs env sems k a m us d t h.0 h.1 (λ p. outer (under (result_position num y) p)) (λ p. under (operand_position num y) (path p)) f.1
  along_goes n loads x types rm rs env sems k a m us d (Map (Over Items X) n2 loads2 ys body) ty h outer path f = refl
  along_goes n loads x types rm rs env sems k a m us d _ ty h outer path f = absurd (assumption)

  last_goes : (n : A) (s : Scope) (loads : LoadSet) (xs body : Term A) (x y : Ty) (d : Destination) (outer path : List ℕ → List ℕ) (typed : HasType num b.src (push x s.types) body y) → StandsAlongRow body → (last_stage n s loads xs body x y d outer path typed).destination ≡ d
  last_goes n s loads xs body x y d outer path typed f = along_goes n loads (cut x (element_ways loads body)) (push (cut x (element_ways loads body)) (λ v. cut (s.types v) (ways v (named_outside body)))) (marks_at s.env s.locals xs) (value_of s xs)
      (λ i j. push (loaded_marks loads (at_index j (marks_at s.env s.locals xs i)) (more s.variables (variable_count xs))) (s.env i)) (λ i j. push (at_index j (value_of s xs i)) (s.sems i)) (s.locals + local_count xs) (s.privates + private_count xs) (more s.variables (variable_count xs))
      (loop_uses s.origins (bent (origin_of s.origins s.locals xs)) loads body d false) d body y (body_typed num b.src s.types loads body x y typed) outer path f

  mutual
    pub sees : (t : Term A) (s : Scope) (ty : Ty) (h : HasType num b.src s.types t ty) (q : ℕ) → StandsInGrid false t → Scoped q s → Stand q (argument_stages s t ty h) → Declares long s.privates t → DeclaresLocals long s.locals t → AtMost (more s.variables (variable_count t)) b.variables
        → AtMost (more (load_count b.row_top.loads) (load_count b.top.loads)) s.variables → Result t s ty h q
    sees (Bound v) s ty h q f scoped is private local room low =
        (tt, later_seen (s.origins v) q (q + 0) ty (λ i. s.env i v) (λ i. s.sems i v) (omega arith) (subst (λ z. Sees (s.origins v) q z (λ i. s.env i v) (λ i. s.sems i v)) (sym h) (scoped v)))
    sees (Source a) s ty h q f scoped is private local room low = (tt, λ i il cs p z. seen_input (at_way Elsewhere cs) (q + 0) i (b.ins a cs p) (b.sources a cs p) (given a cs p (subst (λ w. IsPosition w cs p) h z)))
    sees (Both true x y) s ty h q f scoped is private local room low =
        let xs = argument_stages s x (ArrayOf h.0 h.1) h.4 in
        let ys = argument_stages (later s x) y (ArrayOf h.0 h.2) h.5 in
        let one = sees x s (ArrayOf h.0 h.1) h.4 q f.0 scoped (each_left (λ r t. stage_at b.stages r ≡ t) q xs ys is) private.0 local.0 (most_first s.variables (variable_count x) (variable_count y) b.variables room) low in
        let two = sees y (later s x) (ArrayOf h.0 h.2) h.5 (q + length xs) f.1 (scoped_later q (q + length xs) s (omega arith) scoped) (each_right (λ r t. stage_at b.stages r ≡ t) q xs ys is) private.1 local.1 (most_rest s.variables (variable_count x) (variable_count y) b.variables room) (most_later (more (load_count b.row_top.loads) (load_count b.top.loads)) s.variables (variable_count x) low) in
        let sum = long_append xs ys in
        let end = q + length xs + length ys in (
          each_append IsStage q xs ys one.0 two.0,
          subst (λ z. SeenArgument (q + length (xs ++ ys)) s (Both true x y) z) (sym h.3)
              (later_seen (origin_of s.origins s.locals (Both true x y)) end (q + length (xs ++ ys)) (ArrayOf h.0 (PairOf h.1 h.2)) (marks_at s.env s.locals (Both true x y)) (value_of s (Both true x y)) (omega arith)
              (zipped end h.0 x y s h.1 h.2 (later_seen (origin_of s.origins s.locals x) (q + length xs) end (ArrayOf h.0 h.1) (marks_at s.env s.locals x) (value_of s x) (omega arith) one.1) two.1)),
        )
    sees (Project false a) s ty h q f scoped is private local room low =
        let r = sees a s (PairOf ty h.0) h.1 q f scoped is private local room low in
        (r.0, λ i il cs p z. r.1 i il (false ∷ cs) p z)
    sees (Project true a) s ty h q f scoped is private local room low =
        let r = sees a s (PairOf h.0 ty) h.1 q f scoped is private local room low in
        (r.0, λ i il cs p z. r.1 i il (true ∷ cs) p z)
    sees (Reshape y a) s ty h q f scoped is private local room low =
        let r = sees a s h.0 h.1 q f scoped is private local room low in
        let e = q + length (argument_stages s a h.0 h.1) in
        let o = origin_of s.origins s.locals a in (
          r.0,
          λ i il cs p z. subst (λ w. SeenAt w e i (marks_at s.env s.locals a i cs (operand_position num y p)) (value_of s a i cs (operand_position num y p))) (sym (way_bent o cs))
              (seen_bent (at_way o cs) e i (marks_at s.env s.locals a i cs (operand_position num y p)) (value_of s a i cs (operand_position num y p)) (r.1 i il cs (operand_position num y p) (operand_in num y h.0 ty cs p h.2 z))),
        )
    sees (LetArray v x) s ty h q f scoped is private local room low =
        let t = bound_to s v h.0 in
        let xs = argument_stages s v h.0 h.1 in
        let ys = argument_stages t x ty h.2 in
        let one = sees v s h.0 h.1 q f.0 scoped (each_left (λ r t. stage_at b.stages r ≡ t) q xs ys is) private.0 local.0 (most_first s.variables (variable_count v) (variable_count x) b.variables room) low in
        let two = sees x t ty h.2 (q + length xs) f.1 (bound_in (q + length xs) s v h.0 (scoped_later q (q + length xs) s (omega arith) scoped) one.1) (each_right (λ r t. stage_at b.stages r ≡ t) q xs ys is) private.1 local.1 (most_rest s.variables (variable_count v) (variable_count x) b.variables room) (most_later (more (load_count b.row_top.loads) (load_count b.top.loads)) s.variables (variable_count v) low) in
        let sum = long_append xs ys in
        let end = q + length xs + length ys in
        let o = origin_of t.origins t.locals x in (
          each_append IsStage q xs ys one.0 two.0,
          λ i il cs p z.
              subst (λ w. SeenAt w (q + length (xs ++ ys)) i (marks_at t.env t.locals x i cs p) (value_of t x i cs p)) (sym (way_bent o cs))
              (seen_bent (at_way o cs) (q + length (xs ++ ys)) i (marks_at t.env t.locals x i cs p) (value_of t x i cs p)
              (seen_later (at_way o cs) end (q + length (xs ++ ys)) i (marks_at t.env t.locals x i cs p) (value_of t x i cs p) (omega arith) (two.1 i il cs p z))),
        )
    sees (Copy LocalMemory u x) s ty h q f scoped is private local room low =
        let k = s.locals + local_count x in
        let w = works x s ty h.2 q (Locals k u) (λ p. p) (λ p. p) f scoped is
        (subst (λ z. IsAimed u z (λ p. p) (λ p. p)) (sym h.0) (record { inside = λ cs p z. z; returns = λ cs p z. refl; covers = λ cs p z. (z, refl) })) (locals_fit k u h.1 local.1) (λ e. not_outputs k u e) private local.0 room low in
        let end = q + length (argument_stages s (Copy LocalMemory u x) ty h) in
        (w.0, subst (λ z. Sees (laid_from k u) end z (λ i. laid_in LocalArray k u) (value_of s x)) (sym h.0) (copied end k x s u (subst (λ z. IsLast end s x z (Locals k u) (λ p. p)) h.0 w.1)))
    sees _ s ty h q f scoped is private local room low = absurd (assumption)

    pub works : (t : Term A) (s : Scope) (ty : Ty) (h : HasType num b.src s.types t ty) (q : ℕ) (d : Destination) (outer path : List ℕ → List ℕ) → StandsInGrid true t → Scoped q s → Stand q (written_stages s t ty h d outer path)
        → IsAimed (destination_type b.result d) ty outer path → Fits d → (d ≡ Outputs → q + length (written_stages s t ty h d outer path) ≡ length b.stages) → Declares long s.privates t → DeclaresLocals long s.locals t → AtMost (more s.variables (variable_count t)) b.variables → AtMost (more (load_count b.row_top.loads) (load_count b.top.loads)) s.variables
        → Each IsStage q (written_stages s t ty h d outer path) × IsLast (q + length (written_stages s t ty h d outer path)) s t ty d path
    works (Reshape y a) s ty h q d outer path f scoped is aimed fit ends private local room low =
        let r = works a s h.0 h.1 q d (λ p. outer (result_position num y p)) (λ p. operand_position num y (path p)) f.1 scoped is (aimed_under y h.0 ty (destination_type b.result d) outer path f.0 h.2 aimed) fit ends private local room low in
        (r.0, record { at = r.1.at; ends = r.1.ends; goes = r.1.goes; stage = r.1.stage; value = λ i cs p z. r.1.value i cs p (operand_in num y h.0 ty cs (path p) h.2 z); place = λ cs p z. r.1.place cs p (operand_in num y h.0 ty cs (path p) h.2 z) })
    works (LetArray v x) s ty h q d outer path f scoped is aimed fit ends private local room low =
        let t = bound_to s v h.0 in
        let xs = argument_stages s v h.0 h.1 in
        let ys = written_stages t x ty h.2 d outer path in
        let one = sees v s h.0 h.1 q f.0 scoped (each_left (λ r t. stage_at b.stages r ≡ t) q xs ys is) private.0 local.0 (most_first s.variables (variable_count v) (variable_count x) b.variables room) low in
        let sum = long_append xs ys in
        let two = works x t ty h.2 (q + length xs) d outer path f.1 (bound_in (q + length xs) s v h.0 (scoped_later q (q + length xs) s (omega arith) scoped) one.1) (each_right (λ r t. stage_at b.stages r ≡ t) q xs ys is) aimed fit (λ e. let z = ends e in omega arith) private.1 local.1 (most_rest s.variables (variable_count v) (variable_count x) b.variables room) (most_later (more (load_count b.row_top.loads) (load_count b.top.loads)) s.variables (variable_count v) low) in
        let final = two.1.ends in
        (each_append IsStage q xs ys one.0 two.0, record { at = two.1.at; ends = omega arith; goes = two.1.goes; stage = two.1.stage; value = λ i cs p z. two.1.value i cs p z; place = λ cs p z. two.1.place cs p z })
    works (Map (Over Items Y) n loads xs body) s ty h q d outer path f scoped is aimed fit ends private local room low =
        let ss = argument_stages s xs (ArrayOf (num n) h.0) h.4 in
        let r = q + length ss in
        let aimed2 = subst (λ z. IsAimed (destination_type b.result d) z outer path) h.6 aimed in
        let one = sees xs s (ArrayOf (num n) h.0) h.4 q f.0 scoped (each_left (λ r t. stage_at b.stages r ≡ t) q ss (last_stage n s loads xs body h.0 h.1 d outer path h.5 ∷ []) is) private.0 local (most_first s.variables (variable_count xs) (more (load_count loads) (variable_count body)) b.variables room) low in
        let sum = long_append ss (last_stage n s loads xs body h.0 h.1 d outer path h.5 ∷ []) in
        let here : stage_at b.stages r ≡ last_stage n s loads xs body h.0 h.1 d outer path h.5 = (each_right (λ r t. stage_at b.stages r ≡ t) q ss (last_stage n s loads xs body h.0 h.1 d outer path h.5 ∷ []) is).0 in
        let this = this_stage q r n s loads xs body h.0 h.1 d outer path h.2 h.3 h.5 (omega arith) scoped one.1 f.1 aimed2 fit (λ e. let z = ends e in omega arith) private.1 room low in (
          each_append IsStage q ss (last_stage n s loads xs body h.0 h.1 d outer path h.5 ∷ []) one.0 (this, tt),
          record {
            at = r;
            ends = omega arith;
            goes = ap Stage.destination here ∙ last_goes n s loads xs body h.0 h.1 d outer path h.5 f.1;
            stage = subst (IsStage r) (sym here) this;
            value = λ i cs p z. ap (λ u. value_in num b.sources b.out i u cs (u.path p)) here ∙ this_value q r n s loads xs body h.0 h.1 d outer path h.2 h.3 h.5 (omega arith) scoped one.1 f.1 aimed2 fit (λ e. let z2 = ends e in omega arith) private.1 room low i cs p (subst (λ w. IsPosition w cs (path p)) h.6 z);
            place = λ cs p z. subst (λ u. IsOwnedAt u p (local_along Y num l (Map (Over Items Y) n loads xs body) (path p)) (local_along X num l (Map (Over Items Y) n loads xs body) (path p))) (sym here) (this_place q r n s loads xs body h.0 h.1 d outer path h.2 h.3 h.5 (omega arith) scoped one.1 f.1 aimed2 fit (λ e. let z2 = ends e in omega arith) private.1 room low cs p (subst (λ w. IsPosition w cs (path p)) h.6 z));
          },
        )
    works _ s ty h q d outer path f scoped is aimed fit ends private local room low = absurd (assumption)
