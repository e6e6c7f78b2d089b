-- A printed map over a grid of work-groups keeps the headline.
use Rattle.std.proofs.Common.{◌≡◌, ℕ, zero, suc, ◌+◌, ◌*◌, ◌/◌, ◌%◌, ◌<◌, ◌≤◌, ◌⊎◌, ⊎_elim, inl, inr, ◌^◌, List, [], ◌∷◌, ◌++◌, length, Bool, true, false, Some, refl, sym, ap, ◌∙◌, subst, arith}
use Rattle.std.specs.Prelude.{map, replicate, slice_index, ◌&&◌}
use Rattle.std.proofs.lemmas.Bool.{and_parts}
use Rattle.std.proofs.lemmas.Nat.{div-add-mod'}
use Rattle.std.proofs.Math.Nat.{mod-lt, mul-le-mul_right}
use Rattle.lift_tree.specs.declared.term.Level.TheVariants.{Groups}
use Rattle.lift_tree.specs.declared.term.Dimension.TheVariants as dimension
use Rattle.kernel_tree.specs.declared.tree.Dimension.TheVariants.{Y}
use Rattle.kernel_tree.specs.Formula.{Formula, bound_value}
use Rattle.kernel_tree.specs.Code.{Array, Local as LocalArray, Output, FromGroupId, ByGroupCount, Code, Kernel, End}
use Rattle.kernel_tree.specs.Launch.{Launch, Cells, IsWhole, item_at, item_count, groups_across, groups_down}
use Rattle.kernel_tree.specs.Device.{Cell, length_in}
use Rattle.kernel_tree.proofs.Grouping.{some_items}
use Rattle.barrier_placement.specs.Conflicts as placed
use Rattle.barrier_placement.specs.Fencing.{Fencing, Open}
use Rattle.barrier_placement.specs.Separates.{Separates}
use Rattle.lift_ir.specs.Types.{Ty, Scalar, PairOf, ArrayOf, IsPosition, IsFlat, width, size, unflat}
use Rattle.lift_ir.specs.Layouts.{operand_position, result_position}
use Rattle.lift_ir.specs.Terms.{LoadSet, Over, LocalMemory, Term, Bound, Source, Both, Project, Reshape, LetArray, Map, LoadsScalars, push, HasType, no_type}
use Rattle.lift_ir.specs.Scalars.{Scalars, by_side, at_index, scalars_of, no_scalars, AreLists}
use Rattle.lift_ir.specs.Owner.{local_along, owner_along, owner}
use Rattle.lift_ir.proofs.Owner.{owner_below}
use Rattle.lift_ir.proofs.Positions.{operand_in, result_in}
use Rattle.printed_form.specs.Counts.{more, no_variables, AtMost, load_count, variable_count, private_count, copy_lengths}
use Rattle.printed_form.specs.Headline.{EveryRunKeeps}
use Rattle.printed_form.specs.MapForms.{form_over_groups, variables_in, statement_of}
use Rattle.printed_form.specs.Marks.{Mark, Nowhere, Marks, laid_in, loaded_marks}
use Rattle.printed_form.specs.Form.{Declares, IsLoaded, argument_marks}
use Rattle.printed_form.specs.Whole.{no_marks, IsGiven}
use Rattle.printed_form.proofs.Lengths.{AreLong, declares}
use Rattle.printed_form.proofs.Runs.{at_most, as_many}
use Rattle.group_phases.specs.Epochs.{IsPast}
use Rattle.group_phases.specs.GridPhases.{IsGroupRow}
use Rattle.group_phases.specs.GridPrinted.{IsGridKernel, IsGridPhased, GridPhasesKeep, GridPhasesServe}
use Rattle.group_phases.specs.Grids.{Grid, places}
use Rattle.group_phases.specs.Groups.{declared}
use Rattle.group_phases.specs.Outcome.{BarriersServeAll}
use Rattle.group_phases.specs.Phases.{TurnElement}
use Rattle.group_phases.specs.Strides.{MakesTurnsBy}
use Rattle.group_phases.proofs.Grids.{some_factor}
use Rattle.group_phases.proofs.Held.{loaded_or}
use Rattle.group_phases.proofs.TurnForms.{below}
use Rattle.group_form.specs.Body.{first_index}
use Rattle.group_form.specs.Forms.{IsOfInputs}
use Rattle.group_form.specs.GridForm.{IsAlongGroups, IsOverGrid}
use Rattle.group_form.specs.GridTerms.{GridForms, StandsInGrid, StandsAlongGroups, StandsOverGrid, row_uses, grid_uses}
use Rattle.group_form.specs.GridTheorem.{MakeGridTurns, is_once_along, is_once_over, phases_along, grid_phase_count, IsPrintedOverGrid, AreApartOverGrid}
use Rattle.group_form.specs.Origins.{Origin, Elsewhere, at_way}
use Rattle.group_form.specs.Stages.{Scope}
use Rattle.group_form.specs.Uses.{Use, Locals, Outputs, numbered}
use Rattle.group_form.specs.Whole.{DeclaresLocals}
use Rattle.group_form.proofs.Copies.{inputs_no_copies, inputs_no_privates}
use Rattle.group_form.proofs.GridCode as code
use Rattle.group_form.proofs.GridCopies.{declares_locals}
use Rattle.group_form.proofs.GridCounters.{written_chain, written_uses_are}
use Rattle.group_form.proofs.GridOutputs.{goes_out, item_is, laid_flat, laid_in_row}
use Rattle.group_form.proofs.GridPhased as phased
use Rattle.group_form.proofs.GridSight as sight
use Rattle.group_form.proofs.GridStages as stages
use Rattle.group_form.proofs.GridStages.{Stage, GridBody, stage_at, value_in, uses_of, grid_list, under, split_up, joined_up, each_at, each_from}
use Rattle.group_form.proofs.Most.{most_rest, most_second, most_without}
use Rattle.group_form.proofs.Outputs.{IsLaid, laid_under, laid_itself}
use Rattle.group_form.proofs.Seen.{IsTurnScalar}

factor_low : (g n m : ℕ) → g ≡ m * n → 0 < g → n ≤ g
factor_low g n zero e h = let z : 0 * n ≡ 0 = omega arith in absurd (omega arith)
factor_low g n (suc m) e h = omega arith

factor_high : (g n m : ℕ) → g ≡ m * n → 0 < n → m ≤ g
factor_high g zero m e h = absurd (omega arith)
factor_high g (suc n) m e h = omega arith

made : (once : Bool) (len size : ℕ) → (once ≡ true → len ≡ 1) → 0 < size → MakesTurnsBy (form_over_groups once) len size
made false len size one some = tt
made true len size one some = let e = one refl in omega arith

module _ {A : Type 0} (num : A → ℕ) (forms : GridForms A) (k : Kernel) (l : Launch) (c : Cells) (lists : List (List ℕ)) (fence : ℕ → Fencing) where
  -- the kernel is printed for phases of a map over a grid of groups
  pub record AreItsPhases (owned : (array index : ℕ) → ℕ) (once : Bool) (uses : List (List Use)) (count : ℕ) : Type 0 where
    pub body : GridBody A
    pub once_is : body.once ≡ once
    pub is : IsGridPhased (grid_list num l c lists body) num k l c owned lists
    pub uses_are : uses_of body.stages ≡ uses
    pub count_is : length body.stages ≡ count
    pub printed : fence 0 ≡ Open → IsGridKernel num k l (grid_list num l c lists body) fence

module _ {A : Type 0} (num : A → ℕ) (forms : GridForms A) (k : Kernel) (l : Launch) (c : Cells) (lists : List (List ℕ)) (ins : ℕ → Marks) (src : ℕ → Ty) (sources : ℕ → Scalars) (whole : Ty) (value : Scalars) (fence : ℕ → Fencing) where
  -- all scalars of what stands for a value are so
  abbrev Has : (P : Mark → ℕ → Type 0) → Ty → Marks → Scalars → Type 0
  Has P ty e s = (cs : List Bool) (p : List ℕ) → IsPosition ty cs p → P (e cs p) (s cs p)

  abbrev Given : Ty → Marks → Scalars → Type 0
  Given = Has (IsGiven c)

  -- what is the same for all parts of the term
  pub record Common : Type 0 where
    pub launch : IsWhole l
    pub some : 0 < item_count l
    pub few : item_count l < 2 ^ 31
    pub makes : MakeGridTurns forms num l
    pub inputs : (v : ℕ) → Given (src v) (ins v) (sources v)
    pub flat_type : IsFlat whole
    pub outputs : map length c.outs ≡ replicate (width whole) (size whole)
    pub shape : map length lists ≡ map length c.outs
    pub listed : AreLists whole value lists

  module _ (h : Common) where
    some_across : 0 < l.global.0
    some_across = some_items l h.launch 0 h.some

    some_down : 0 < l.global.1
    some_down = some_factor 0 l.global.0 l.global.1 h.some

    few_across : l.global.0 < 2 ^ 31
    few_across = let some = some_down in let more : 1 * l.global.0 ≤ l.global.1 * l.global.0 = mul-le-mul_right l.global.0 (let le : 1 ≤ l.global.1 = omega arith in le) in let f = h.few in omega arith

    few_down : l.global.1 < 2 ^ 31
    few_down = let some = some_across in let more : 1 * l.global.1 ≤ l.global.0 * l.global.1 = mul-le-mul_right l.global.1 (let le : 1 ≤ l.global.0 = omega arith in le) in let f = h.few in omega arith

    few_items : l.local.0 ≤ 2 ^ 31
    few_items = let a = factor_low l.global.0 l.local.0 (groups_across l) h.launch.x.divides some_across in let f = few_across in omega arith

    few_rows : l.local.1 ≤ 2 ^ 31
    few_rows = let a = factor_low l.global.1 l.local.1 (groups_down l) h.launch.y.divides some_down in let f = few_down in omega arith

    few_groups : groups_across l ≤ 2 ^ 31
    few_groups = let a = factor_high l.global.0 l.local.0 (groups_across l) h.launch.x.divides h.launch.x.positive in let f = few_across in omega arith

    few_group_rows : groups_down l ≤ 2 ^ 31
    few_group_rows = let a = factor_high l.global.1 l.local.1 (groups_down l) h.launch.y.divides h.launch.y.positive in let f = few_down in omega arith

    some_groups : 0 < groups_across l
    some_groups = positive (groups_across l) l.local.0 l.global.0 h.launch.x.divides some_across
      where
        positive : (m n g : ℕ) → g ≡ m * n → 0 < g → 0 < m
        positive zero n g e s = let z : 0 * n ≡ 0 = omega arith in absurd (omega arith)
        positive (suc m) n g e s = omega arith

    some_group_rows : 0 < groups_down l
    some_group_rows = positive (groups_down l) l.local.1 l.global.1 h.launch.y.divides some_down
      where
        positive : (m n g : ℕ) → g ≡ m * n → 0 < g → 0 < m
        positive zero n g e s = let z : 0 * n ≡ 0 = omega arith in absurd (omega arith)
        positive (suc m) n g e s = omega arith

    abbrev AllGiven : (ℕ → Ty) → (ℕ → Marks) → (ℕ → Scalars) → Type 0
    AllGiven g env sems = (v : ℕ) → Given (g v) (env v) (sems v)

    -- an argument of inputs has what inputs and binders have
    module _ (P : Mark → ℕ → Type 0) (inputs : (v : ℕ) → Has P (src v) (ins v) (sources v)) where
      has_push : (g : ℕ → Ty) (env : ℕ → Marks) (sems : ℕ → Scalars) (u : Ty) (e : Marks) (s : Scalars) → Has P u e s → ((v : ℕ) → Has P (g v) (env v) (sems v)) → (v : ℕ) → Has P (push u g v) (push e env v) (push s sems v)
      has_push g env sems u e s a b zero = a
      has_push g env sems u e s a b (suc v) = b v

      zipped : (n : ℕ) (x y : Ty) (e f : Marks) (s r : Scalars) → Has P (ArrayOf n x) e s → Has P (ArrayOf n y) f r → Has P (ArrayOf n (PairOf x y)) (by_side (λ q. Nowhere) e f) (by_side (λ p. 0) s r)
      zipped n x y e f s r a b cs [] z = absurd z
      zipped n x y e f s r a b [] (j ∷ p) z = absurd z.1
      zipped n x y e f s r a b (false ∷ cs) (j ∷ p) z = a cs (j ∷ p) z
      zipped n x y e f s r a b (true ∷ cs) (j ∷ p) z = b cs (j ∷ p) z

      input_has : (t : Term A) (g : ℕ → Ty) (env : ℕ → Marks) (sems : ℕ → Scalars) (ty : Ty) (a : ℕ) → IsOfInputs t → HasType num src g t ty → ((v : ℕ) → Has P (g v) (env v) (sems v)) → Has P ty (argument_marks l ins num env a t) (scalars_of num sources sems t)
      input_has (Bound v) g env sems ty a f x e = subst (λ z. Has P z (env v) (sems v)) (sym x) (e v)
      input_has (Source v) g env sems ty a f x e = subst (λ z. Has P z (ins v) (sources v)) (sym x) (inputs v)
      input_has (Both true m n) g env sems ty a f x e =
          subst (λ z. Has P z (argument_marks l ins num env a (Both true m n)) (scalars_of num sources sems (Both true m n))) (sym x.3)
          (zipped x.0 x.1 x.2 (argument_marks l ins num env a m) (argument_marks l ins num env (a + private_count m) n) (scalars_of num sources sems m) (scalars_of num sources sems n) (input_has m g env sems (ArrayOf x.0 x.1) a f.0 x.4 e) (input_has n g env sems (ArrayOf x.0 x.2) (a + private_count m) f.1 x.5 e))
      input_has (Project false m) g env sems ty a f x e = λ cs p z. input_has m g env sems (PairOf ty x.0) a f x.1 e (false ∷ cs) p z
      input_has (Project true m) g env sems ty a f x e = λ cs p z. input_has m g env sems (PairOf x.0 ty) a f x.1 e (true ∷ cs) p z
      input_has (Reshape y m) g env sems ty a f x e = λ cs p z. input_has m g env sems x.0 a f x.1 e cs (operand_position num y p) (operand_in num y x.0 ty cs p x.2 z)
      input_has (LetArray v b) g env sems ty a f x e =
          input_has b (push x.0 g) (push (argument_marks l ins num env a v) env) (push (scalars_of num sources sems v) sems) ty (a + private_count v) f.1 x.2
          (has_push g env sems x.0 (argument_marks l ins num env a v) (scalars_of num sources sems v) (input_has v g env sems x.0 a f.0 x.1 e) e)
      input_has _ g env sems ty a f x e = absurd (assumption)

    given_push : (g : ℕ → Ty) (env : ℕ → Marks) (sems : ℕ → Scalars) (u : Ty) (e : Marks) (s : Scalars) → Given u e s → AllGiven g env sems → AllGiven (push u g) (push e env) (push s sems)
    given_push = has_push (IsGiven c) h.inputs

    input_given : (t : Term A) (g : ℕ → Ty) (env : ℕ → Marks) (sems : ℕ → Scalars) (ty : Ty) (a : ℕ) → IsOfInputs t → HasType num src g t ty → AllGiven g env sems → Given ty (argument_marks l ins num env a t) (scalars_of num sources sems t)
    input_given = input_has (IsGiven c) h.inputs

    abbrev long : Array → ℕ
    long = length_in k c

    -- a map over rows of groups
    module _ (g : ℕ → Ty) (env : ℕ → Marks) (sems : ℕ → Scalars) (n : A) (loads : LoadSet) (xs : Term A) (x : Ty) (owner_at : List ℕ → ℕ) (within : (p : List ℕ) → owner_at p < item_count l) (small : num n < 2 ^ 31) (ok : LoadsScalars loads x) (given : AllGiven g env sems)
        (given_rows : Given (ArrayOf (num n) x) (argument_marks l ins num env 0 xs) (scalars_of num sources sems xs)) (bound : Formula) (row_body row_rest : Code) (row_code : k.code ≡ statement_of (form_over_groups (forms.rows.once n)) (FromGroupId Y) (ByGroupCount Y) bound row_body) (bound_is : bound_value l.sizes bound ≡ Some (num n))
        (row_loads : (item r : ℕ) → item < item_count l → r < num n → IsGroupRow l item r → IsLoaded l item ins (variables_in (form_over_groups (forms.rows.once n)) [] r) loads (at_index r (argument_marks l ins num env 0 xs)) no_variables row_body row_rest) where
      abbrev marks : Marks
      marks = argument_marks l ins num env 0 xs

      abbrev scalars : Scalars
      scalars = scalars_of num sources sems xs

      abbrev row_env : (row var : ℕ) → Marks
      row_env r = push (loaded_marks loads (at_index r marks) no_variables) env

      abbrev row_sems : (row var : ℕ) → Scalars
      row_sems r = push (at_index r scalars) sems

      abbrev row_types : ℕ → Ty
      row_types = push x g

      abbrev owned : (array index : ℕ) → ℕ
      owned a m = owner_at (unflat whole m)

      abbrev row_top : TurnElement
      row_top = record { loads = loads; type = x; marks = λ r. at_index r marks; scalars = λ r. at_index r scalars }

      -- an input's cell, or a scalar that the row holds
      abbrev InRow : (row : ℕ) → Mark → ℕ → Type 0
      InRow r m v = IsGiven c m v ⊎ IsTurnScalar row_top r m v

      rows_in : (r v : ℕ) → Has (InRow r) (row_types v) (row_env r v) (row_sems r v)
      rows_in r zero cs p z = inr (cs, p, z, refl, refl)
      rows_in r (suc v) cs p z = inl (given v cs p z)

      -- along a row of groups
      module _ (m : A) (loads2 : LoadSet) (ys b : Term A) (x2 y : Ty) (outer path : List ℕ → List ℕ) (typed : HasType num src (push x2 row_types) b y) where
        abbrev M : ℕ
        M = num m

        abbrev grid : Grid
        grid = record { rows = num n; columns = M }

        abbrev turn_marks : (turn : ℕ) → Marks
        turn_marks i = at_index (i % M) (argument_marks l ins num (row_env (i / M)) 0 ys)

        abbrev turn_scalars : (turn : ℕ) → Scalars
        turn_scalars i = at_index (i % M) (scalars_of num sources (row_sems (i / M)) ys)

        abbrev scope : Scope
        scope = record {
          env = λ i. push (loaded_marks loads2 (turn_marks i) (load_count loads)) (row_env (i / M));
          sems = λ i. push (turn_scalars i) (row_sems (i / M));
          types = push x2 row_types;
          origins = λ v. Elsewhere;
          variables = more (load_count loads) (load_count loads2);
          privates = 0;
          locals = 0;
        }

        abbrev its_stages : List (Stage A)
        its_stages = stages.written_stages num forms ins src sources scope b y typed Outputs (λ p. p) (λ p. p)

        abbrev outer_flat : List ℕ → List ℕ
        outer_flat p = outer (split_up M p)

        abbrev body : GridBody A
        body = record {
          once = forms.rows.once n && forms.columns.once m;
          grid = grid;
          rows_form = form_over_groups (forms.rows.once n);
          columns_form = form_over_groups (forms.columns.once m);
          variables = more (more (load_count loads) (load_count loads2)) (variable_count b);
          forms = forms;
          ins = ins;
          src = src;
          sources = sources;
          row_top = row_top;
          top = record { loads = loads2; type = x2; marks = turn_marks; scalars = turn_scalars };
          out = λ cs p. laid_in Output 0 whole cs (outer_flat p);
          result = y;
          stages = its_stages;
        }

        abbrev IsIts : ℕ → Stage A → Type 0
        IsIts = sight.IsStage num long l few_rows few_items c body h.makes h.inputs

        abbrev AllSeen : Type 0
        AllSeen = stages.Each IsIts 0 its_stages × sight.IsLast num long l few_rows few_items c body h.makes h.inputs (0 + length its_stages) scope b y Outputs (λ p. p)

        not_locals : {P : Type 0} → (f : ℕ) (u : Ty) → Outputs ≡ Locals f u → P
        not_locals f u e = absurd (cc)

        row_of_turn : (i : ℕ) → i < places grid → i / M < num n
        row_of_turn i il = below i (i / M) (i % M) (num n) M (div-add-mod' i M) il

        column_of_turn : (i : ℕ) → i < places grid → i % M < M
        column_of_turn i il = mod-lt i (some_factor i (num n) M il)

        module _ (ok2 : LoadsScalars loads2 x2) (inputs2 : IsOfInputs ys) (typed_ys : HasType num src row_types ys (ArrayOf M x2)) (stands : StandsInGrid true b) where
          turns_given : (i : ℕ) → i < places grid → Has (InRow (i / M)) x2 (turn_marks i) (turn_scalars i)
          turns_given i il cs p z = input_has (InRow (i / M)) (λ v ds q y. inl (h.inputs v ds q y)) ys row_types (row_env (i / M)) (row_sems (i / M)) (ArrayOf M x2) 0 inputs2 typed_ys (rows_in (i / M)) cs (i % M ∷ p) (column_of_turn i il, z)

          -- what a row holds is seen in its turns
          row_seen : (o : Origin) (i : ℕ) → i < places grid → (m : Mark) (v : ℕ) → IsTurnScalar row_top (i / M) m v → sight.SeenAt num long l few_rows few_items c body h.makes h.inputs o 0 i m v
          row_seen o i il m v y =
              let r = i / M in
              let loaded = loaded_marks loads (at_index r marks) no_variables y.0 y.1 in
              let word = scalars y.0 (r ∷ y.1) in
              subst (λ w. sight.SeenAt num long l few_rows few_items c body h.makes h.inputs o 0 i m w) y.4
              (subst (λ mk. sight.SeenAt num long l few_rows few_items c body h.makes h.inputs o 0 i mk word) y.3
              (⊎_elim
              (λ is. sight.seen_top num long l few_rows few_items c body h.makes h.inputs o 0 i loaded word is (inl (y.0, y.1, y.2, refl, refl)))
              (λ e. subst (λ mk. sight.SeenAt num long l few_rows few_items c body h.makes h.inputs o 0 i mk word) (sym e) (sight.seen_input num long l few_rows few_items c body h.makes h.inputs o 0 i (marks y.0 (r ∷ y.1)) word (given_rows y.0 (r ∷ y.1) (row_of_turn i il, y.2))))
              (loaded_or loads x (at_index r marks) no_variables y.0 y.1 ok y.2)))

          scoped : sight.Scoped num long l few_rows few_items c body h.makes h.inputs 0 scope
          scoped zero i il cs p z =
              ⊎_elim
              (λ is. sight.seen_top num long l few_rows few_items c body h.makes h.inputs (at_way Elsewhere cs) 0 i (loaded_marks loads2 (turn_marks i) (load_count loads) cs p) (turn_scalars i cs p) is (inr (cs, p, z, refl, refl)))
              (λ e. subst (λ mk. sight.SeenAt num long l few_rows few_items c body h.makes h.inputs (at_way Elsewhere cs) 0 i mk (turn_scalars i cs p)) (sym e)
              (⊎_elim
              (λ y. sight.seen_input num long l few_rows few_items c body h.makes h.inputs (at_way Elsewhere cs) 0 i (turn_marks i cs p) (turn_scalars i cs p) y)
              (λ y. row_seen (at_way Elsewhere cs) i il (turn_marks i cs p) (turn_scalars i cs p) y)
              (turns_given i il cs p z)))
              (loaded_or loads2 x2 (turn_marks i) (load_count loads) cs p ok2 z)
          scoped (suc zero) i il cs p z = row_seen (at_way Elsewhere cs) i il (row_env (i / M) 0 cs p) (row_sems (i / M) 0 cs p) (cs, p, z, refl, refl)
          scoped (suc (suc v)) i il cs p z = sight.seen_input num long l few_rows few_items c body h.makes h.inputs (at_way Elsewhere cs) 0 i (env v cs p) (sems v cs p) (given v cs p z)

          stand : stages.Each (λ q s. stage_at its_stages q ≡ s) 0 its_stages
          stand = each_from (λ q s. stage_at its_stages q ≡ s) 0 its_stages (λ i lt. let e : 0 + i ≡ i = omega arith in ap (stage_at its_stages) e)

          all_seen : Declares long 0 b → DeclaresLocals long 0 b → AllSeen
          all_seen private local =
              sight.works num long l few_rows few_items c body h.makes h.inputs b scope y typed 0 Outputs (λ p. p) (λ p. p) stands scoped stand
              (record { inside = λ cs p z. z; returns = λ cs p z. refl; covers = λ cs p z. (z, refl) })
              (λ f u e. not_locals f u e) (λ e. omega arith) private local (as_many (more (more (load_count loads) (load_count loads2)) (variable_count b))) (as_many (more (load_count loads) (load_count loads2)))

          map_phases : M < 2 ^ 31 → IsLaid whole (ArrayOf (num n) (ArrayOf M y)) outer path
              → ((cs : List Bool) (r : ℕ) (q : List ℕ) → IsPosition (ArrayOf (num n) (ArrayOf M y)) cs (r ∷ q) → value cs (outer (r ∷ q)) ≡ scalars_of num sources (row_sems r) (Map (Over Groups dimension.X) m loads2 ys b) cs q)
              → ((cs : List Bool) (r : ℕ) (q : List ℕ) → IsPosition (ArrayOf (num n) (ArrayOf M y)) cs (r ∷ q) → owner_at (outer (r ∷ q)) ≡ item_at l (owner_along dimension.X num l (Map (Over Groups dimension.X) m loads2 ys b) q) ((r % groups_down l) * l.local.1 + local_along dimension.Y num l (Map (Over Groups dimension.X) m loads2 ys b) q))
              → AtMost (more (more (load_count loads) (load_count loads2)) (variable_count b)) (declared k) → Declares long 0 b → DeclaresLocals long 0 b
              → IsAlongGroups num forms l ins fence (form_over_groups (forms.rows.once n)) (num n) (load_count loads) row_env (Map (Over Groups dimension.X) m loads2 ys b) (λ r cs q. laid_in Output 0 whole cs (outer (r ∷ q))) row_rest
              → AreItsPhases num forms k l c lists fence owned (forms.rows.once n && forms.columns.once m) (row_uses (Map (Over Groups dimension.X) m loads2 ys b)) (phases_along (Map (Over Groups dimension.X) m loads2 ys b))
          map_phases small2 laid values owners room private local printed =
              let all = all_seen private local in
              let last = all.1 in
              let groups = few_groups in
              let group_rows = few_group_rows in
              let counted = code.written_count num l c lists body fence b scope y typed Outputs (λ p. p) (λ p. p) stands in
              let turn = printed.4 in
              let last_stage = stage_at its_stages last.at in
              record {
                body = body;
                once_is = refl;
                is = phased.phased num k l c owned lists body few_rows few_items h.makes h.inputs (record {
                  whole = h.launch;
                  rows = omega arith;
                  columns = omega arith;
                  rows_made = made (forms.rows.once n) (num n) (groups_down l) (h.makes.one_row n) some_group_rows;
                  columns_made = made (forms.columns.once m) M (groups_across l) (h.makes.one_column m) some_groups;
                  once = λ e. let z = and_parts (forms.rows.once n) (forms.columns.once m) e in (let u = h.makes.one_row n z.0 in omega arith, let u = h.makes.one_column m z.1 in omega arith);
                  room = room;
                  row_top_loads = ok;
                  top_loads = ok2;
                  row_top_given = λ r rl cs p z. given_rows cs (r ∷ p) (rl, z);
                  top_given = turns_given;
                  stages = λ q ql. let e : 0 + q ≡ q = omega arith in subst (λ z. IsIts z (stage_at its_stages q)) e (each_at IsIts 0 q its_stages all.0 ql);
                  chained = (written_chain num forms ins src sources b scope y typed Outputs (λ p. p) (λ p. p) stands tt).0;
                  last = last.at;
                  last_is = let e = last.ends in omega arith;
                  gives = last.goes;
                  out = goes_out k l c lists grid y whole outer_flat (λ p. joined_up M (path p)) value owner_at last_stage.nest.grid.columns (λ p. first_index (last_stage.path p)) (λ i cs p. value_in num sources body.out i last_stage cs (last_stage.path p))
                      (record {
                        flat_type = h.flat_type;
                        laid = laid_flat (num n) M y whole outer path laid;
                        outputs = h.outputs;
                        shape = h.shape;
                        listed = h.listed;
                        values = λ cs i p z. values cs (i / M) (i % M ∷ p) (row_of_turn i z.0, (column_of_turn i z.0, z.1)) ∙ sym (last.value i cs p z.1);
                        owned = λ cs i p z.
                            let own = last.place cs p z.1 in
                            let u = (i % M) % groups_across l in
                            let w = (i / M) % groups_down l in
                            owners cs (i / M) (i % M ∷ p) (row_of_turn i z.0, (column_of_turn i z.0, z.1))
                            ∙ ap (λ q. item_at l (u * l.local.0 + q) (w * l.local.1 + local_along dimension.Y num l b p)) own.1 ∙ ap (λ q. item_at l (u * l.local.0 + (first_index (last_stage.path p) % last_stage.nest.grid.columns) % l.local.0) (w * l.local.1 + q)) own.0
                            ∙ sym (item_is l h.launch u w last_stage.nest.grid.columns (first_index (last_stage.path p)) (mod-lt (i % M) some_groups));
                        within = within;
                      });
                });
                uses_are = written_uses_are num forms ins src sources b scope y typed Outputs (λ p. p) (λ p. p) stands;
                count_is = counted;
                printed = λ none. record {
                  rows_bound = bound;
                  columns_bound = printed.0;
                  row_body = row_body;
                  row_rest = row_rest;
                  body = printed.1;
                  code = row_code;
                  rows_bound_is = bound_is;
                  row_loads = row_loads;
                  inner = printed.2;
                  columns_bound_is = printed.3;
                  phases = code.are_phases num l c lists body fence (length its_stages) printed.1 turn.0 turn.1 none (let e = last.ends in omega arith) turn.2
                      (code.written_phases num l c lists body fence b scope y typed Outputs (λ p. p) (λ p. p) 0 0 turn.0 turn.1 refl stands stand turn.3) (subst (λ z. IsPast (fence z) turn.1 End) (sym counted) turn.4);
                };
              }

      -- through layouts along a row
      along_phases : (t : Term A) (ty : Ty) (outer path : List ℕ → List ℕ) → StandsAlongGroups t → HasType num src row_types t ty → IsLaid whole (ArrayOf (num n) ty) outer path
          → ((cs : List Bool) (r : ℕ) (q : List ℕ) → IsPosition (ArrayOf (num n) ty) cs (r ∷ q) → value cs (outer (r ∷ q)) ≡ scalars_of num sources (row_sems r) t cs q)
          → ((cs : List Bool) (r : ℕ) (q : List ℕ) → IsPosition (ArrayOf (num n) ty) cs (r ∷ q) → owner_at (outer (r ∷ q)) ≡ item_at l (owner_along dimension.X num l t q) ((r % groups_down l) * l.local.1 + local_along dimension.Y num l t q))
          → AtMost (more (load_count loads) (variable_count t)) (declared k) → Declares long 0 t → AreLong LocalArray long 0 (copy_lengths LocalMemory t)
          → IsAlongGroups num forms l ins fence (form_over_groups (forms.rows.once n)) (num n) (load_count loads) row_env t (λ r cs q. laid_in Output 0 whole cs (outer (r ∷ q))) row_rest
          → AreItsPhases num forms k l c lists fence owned (forms.rows.once n && is_once_along forms t) (row_uses t) (phases_along t)
      along_phases (Reshape z t) ty outer path f hx laid values owners room private local printed =
          let r = along_phases t hx.0 (λ p. outer (under (result_position num z) p)) (λ p. under (operand_position num z) (path p)) f.1 hx.1 (laid_in_row num z (num n) hx.0 ty whole outer path f.0 hx.2 laid)
          (λ cs r q w. let e = result_in num z hx.0 ty cs q f.0 hx.2 w.1 in values cs r (result_position num z q) (w.0, e.0) ∙ ap (scalars_of num sources (row_sems r) t cs) e.1)
          (λ cs r q w. let e = result_in num z hx.0 ty cs q f.0 hx.2 w.1 in owners cs r (result_position num z q) (w.0, e.0) ∙ ap (λ u. item_at l (owner_along dimension.X num l t u) ((r % groups_down l) * l.local.1 + local_along dimension.Y num l t u)) e.1)
          room private local printed.1 in
          record { body = r.body; once_is = r.once_is; is = r.is; uses_are = r.uses_are; count_is = r.count_is; printed = r.printed }
      along_phases (Map (Over Groups dimension.X) m loads2 ys b) ty outer path f hx laid values owners room private local printed =
          let none = inputs_no_privates ys f.0 in
          let e : 0 + private_count ys ≡ 0 = omega arith in
          map_phases m loads2 ys b hx.0 hx.1 outer path hx.5 hx.3 f.0 hx.4 f.1 hx.2 (subst (λ z. IsLaid whole (ArrayOf (num n) z) outer path) hx.6 laid)
          (λ cs r q z. values cs r q (subst (λ w. IsPosition (ArrayOf (num n) w) cs (r ∷ q)) (sym hx.6) z)) (λ cs r q z. owners cs r q (subst (λ w. IsPosition (ArrayOf (num n) w) cs (r ∷ q)) (sym hx.6) z))
          (most_rest (load_count loads) (load_count loads2) (variable_count b) (declared k) (most_without (load_count loads) (variable_count ys) (more (load_count loads2) (variable_count b)) (declared k) room))
          (subst (λ z. Declares long z b) e private.1) (declares_locals long true 0 b f.1 (subst (λ z. AreLong LocalArray long 0 (z ++ copy_lengths LocalMemory b)) (inputs_no_copies LocalMemory ys f.0) local)) printed
      along_phases _ ty outer path f hx laid values owners room private local printed = absurd (assumption)

    -- and through layouts and lets of inputs
    pub term_phases : (t : Term A) (g : ℕ → Ty) (env : ℕ → Marks) (sems : ℕ → Scalars) (outer path : List ℕ → List ℕ) (ty : Ty) → StandsOverGrid t → HasType num src g t ty → AllGiven g env sems → IsLaid whole ty outer path
        → ((cs : List Bool) (p : List ℕ) → IsPosition ty cs p → value cs (outer p) ≡ scalars_of num sources sems t cs p) → AtMost (variable_count t) (declared k) → Declares long 0 t → AreLong LocalArray long 0 (copy_lengths LocalMemory t)
        → IsOverGrid num forms l ins fence env t (λ cs p. laid_in Output 0 whole cs (outer p)) k.code → AreItsPhases num forms k l c lists fence (λ a m. owner num l t (path (unflat whole m))) (is_once_over forms t) (grid_uses t) (grid_phase_count t)
    term_phases (Reshape y a) g env sems outer path ty f x given laid values room private local printed =
        let r = term_phases a g env sems (λ p. outer (result_position num y p)) (λ p. operand_position num y (path p)) x.0 f.1 x.1 given (laid_under num y x.0 ty whole outer path f.0 x.2 laid)
        (λ cs p z. let e = result_in num y x.0 ty cs p f.0 x.2 z in values cs (result_position num y p) e.0 ∙ ap (scalars_of num sources sems a cs) e.1) room private local printed.1 in
        record { body = r.body; once_is = r.once_is; is = r.is; uses_are = r.uses_are; count_is = r.count_is; printed = r.printed }
    term_phases (LetArray v b) g env sems outer path ty f x given laid values room private local printed =
        let none = inputs_no_privates v f.0 in
        let e : 0 + private_count v ≡ 0 = omega arith in
        let r = term_phases b (push x.0 g) (push (argument_marks l ins num env 0 v) env) (push (scalars_of num sources sems v) sems) outer path ty f.1 x.2
        (given_push g env sems x.0 (argument_marks l ins num env 0 v) (scalars_of num sources sems v) (input_given v g env sems x.0 0 f.0 x.1 given) given) laid values (most_second (variable_count v) (variable_count b) (declared k) room)
        (subst (λ z. Declares long z b) e private.1) (subst (λ z. AreLong LocalArray long 0 (z ++ copy_lengths LocalMemory b)) (inputs_no_copies LocalMemory v f.0) local) printed in
        record { body = r.body; once_is = r.once_is; is = r.is; uses_are = r.uses_are; count_is = r.count_is; printed = r.printed }
    term_phases (Map (Over Groups dimension.Y) n loads xs b) g env sems outer path ty f x given laid values room private local printed =
        let none = inputs_no_privates xs f.0 in
        let e : 0 + private_count xs ≡ 0 = omega arith in
        let T = Map (Over Groups dimension.Y) n loads xs b in
        let laid2 = subst (λ z. IsLaid whole z outer path) x.6 laid in
        let given_array = input_given xs g env sems (ArrayOf (num n) x.0) 0 f.0 x.4 given in
        along_phases g env sems n loads xs x.0 (λ w. owner num l T (path w)) (λ p. owner_below num l T (path p) h.launch h.some) x.2 x.3 given given_array printed.0 printed.1 printed.2 printed.3 printed.4 printed.5
        b x.1 outer path f.1 x.5 laid2 (λ cs r q z. values cs (r ∷ q) (subst (λ w. IsPosition w cs (r ∷ q)) (sym x.6) z)) (λ cs r q z. ap (owner num l T) (laid2.returns cs (r ∷ q) z)) (most_second (variable_count xs) (more (load_count loads) (variable_count b)) (declared k) room)
        (subst (λ z. Declares long z b) e private.1) (subst (λ z. AreLong LocalArray long 0 (z ++ copy_lengths LocalMemory b)) (inputs_no_copies LocalMemory xs f.0) local) printed.6
    term_phases _ g env sems outer path ty f x given laid values room private local printed = absurd (assumption)

-- a kernel that is printed for a term
module _ {A : Type 0} (num : A → ℕ) (forms : GridForms A) (l : Launch) (src : ℕ → Ty) (ins : ℕ → Marks) (sources : ℕ → Scalars) (fence : ℕ → Fencing) (t : Term A) (ty : Ty) (k : Kernel) (c : Cells) (lists : List (List ℕ)) (h : IsPrintedOverGrid l num forms src ins sources fence t ty k c)
    (shape : map length lists ≡ map length c.outs) (listed : AreLists ty (scalars_of num sources no_scalars t) lists) where
  abbrev of_owner : (array index : ℕ) → ℕ
  of_owner a m = owner num l t (unflat ty m)

  its_phases : AreItsPhases num forms k l c lists fence of_owner (is_once_over forms t) (grid_uses t) (grid_phase_count t)
  its_phases =
      term_phases num forms k l c lists ins src sources ty (scalars_of num sources no_scalars t) fence (record { launch = h.made.whole; some = h.made.some; few = h.made.few; makes = h.makes; inputs = h.made.inputs; flat_type = h.made.flat_type; outputs = h.made.outputs; shape = shape; listed = listed })
      t no_type no_marks no_scalars (λ p. p) (λ p. p) ty h.stands h.made.typed (λ v cs p x. nothing cs p x) (laid_itself ty) (λ cs p x. refl) (at_most (let e = h.made.variables in omega arith) (let e = h.made.vectors in omega arith))
      (declares (length_in k c) 0 t (λ i lt. let z : 0 + i ≡ i = omega arith in ap (λ j. slice_index k.privates j) z ∙ ap (λ ns. slice_index ns i) h.made.privates))
      (λ i lt. let z : 0 + i ≡ i = omega arith in ap (λ j. slice_index k.locals j) z ∙ ap (λ ns. slice_index ns i) h.locals) h.code
    where
      nothing : {P : Type 0} → (cs : List Bool) (p : List ℕ) → IsPosition (ArrayOf 0 Scalar) cs p → P
      nothing cs [] x = absurd x
      nothing cs (i ∷ p) x = absurd (let lt = x.0 in omega arith)

  apart : (r : AreItsPhases num forms k l c lists fence of_owner (is_once_over forms t) (grid_uses t) (grid_phase_count t)) → AreApartOverGrid forms t fence → Separates (numbered 0 (uses_of r.body.stages)) placed.Local r.body.once (length r.body.stages) fence
  apart r s =
      subst (λ z. Separates (numbered 0 (uses_of r.body.stages)) placed.Local z (length r.body.stages) fence) (sym r.once_is)
      (subst (λ z. Separates (numbered 0 (uses_of r.body.stages)) placed.Local (is_once_over forms t) z fence) (sym r.count_is)
      (subst (λ z. Separates (numbered 0 z) placed.Local (is_once_over forms t) (grid_phase_count t) fence) (sym r.uses_are) s.separates))

  pub separated_keep : GridPhasesKeep A → AreApartOverGrid forms t fence → EveryRunKeeps k l c of_owner lists
  separated_keep keep s = let r = its_phases in keep num k l c of_owner lists (grid_list num l c lists r.body) fence r.is (apart r s) (r.printed s.opens)

  pub separated_serve : GridPhasesServe A → AreApartOverGrid forms t fence → (filler : Cell → ℕ) × BarriersServeAll k l c filler
  separated_serve serve s = let r = its_phases in ((grid_list num l c lists r.body).filler, serve num k l c of_owner lists (grid_list num l c lists r.body) fence r.is (apart r s) (r.printed s.opens))
