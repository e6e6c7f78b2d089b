-- A printed map over work-groups keeps the headline.
use Rattle.std.proofs.Common.{◌≡◌, ℕ, zero, suc, ◌+◌, ◌*◌, ◌%◌, ◌<◌, ◌≤◌, ⊎_elim, ◌^◌, List, [], ◌∷◌, ◌++◌, length, Bool, true, false, true≢false, refl, sym, ap, ◌∙◌, subst, arith}
use Rattle.std.specs.Prelude.{map, replicate, slice_index}
use Rattle.std.proofs.Math.Nat.{mod-eq_of_lt}
use Rattle.lift_tree.specs.declared.term.Level.TheVariants.{Groups, Items}
use Rattle.lift_tree.specs.declared.term.Dimension.TheVariants.{X}
use Rattle.kernel_tree.specs.Code.{Array, Local as LocalArray, Output, Kernel, End}
use Rattle.kernel_tree.specs.Launch as launches
use Rattle.kernel_tree.specs.Launch.{Launch, Cells, IsWhole, item_count, groups_across}
use Rattle.kernel_tree.specs.Device.{Cell, length_in}
use Rattle.kernel_tree.proofs.Grouping.{flat_items}
use Rattle.barrier_placement.specs.Conflicts as placed
use Rattle.barrier_placement.specs.Fencing.{Fencing, Open}
use Rattle.barrier_placement.specs.Separates.{Separates}
use Rattle.lift_ir.specs.Types.{Ty, Scalar, PairOf, ArrayOf, IsPosition, IsFlat, width, size, unflat}
use Rattle.lift_ir.specs.Layouts.{operand_position, result_position}
use Rattle.lift_ir.specs.Terms.{LoadSet, Over, LocalMemory, Term, Bound, Source, Both, Project, Reshape, LetArray, Map, LoadsScalars, push, HasType, no_type}
use Rattle.lift_ir.specs.Scalars.{Scalars, by_side, at_index, scalars_of, no_scalars, AreLists}
use Rattle.lift_ir.specs.Owner.{local_along, owner, is_in_rows}
use Rattle.lift_ir.proofs.Owner.{owner_below}
use Rattle.lift_ir.proofs.Positions.{operand_in, result_in}
use Rattle.printed_form.specs.Counts.{more, no_variables, AtMost, load_count, variable_count, private_count, copy_lengths}
use Rattle.printed_form.specs.Headline.{EveryRunKeeps}
use Rattle.printed_form.specs.MapForms.{MapForms, MakeTurns}
use Rattle.printed_form.specs.Marks.{Nowhere, Marks, laid_in, loaded_marks}
use Rattle.printed_form.specs.Form.{Declares, argument_marks}
use Rattle.printed_form.specs.Whole.{no_marks, IsGiven}
use Rattle.printed_form.proofs.Lengths.{AreLong, declares}
use Rattle.printed_form.proofs.Runs.{at_most, as_many}
use Rattle.group_phases.specs.Epochs.{IsPast}
use Rattle.group_phases.specs.Outcome.{BarriersServeAll}
use Rattle.group_phases.specs.Phased.{IsGroupKernel}
use Rattle.group_phases.specs.Phases.{IsPhase}
use Rattle.group_phases.specs.Printed.{IsPhased, PhasesKeep, PhasesServe}
use Rattle.group_form.specs.Origins.{Elsewhere, at_way}
use Rattle.group_phases.specs.Groups.{declared}
use Rattle.group_phases.proofs.Held.{loaded_or}
use Rattle.group_form.specs.Forms.{StandsInGroup, IsOfInputs, StandsOverGroups}
use Rattle.group_form.specs.Uses.{Locals, Outputs, numbered, phase_count, group_touches}
use Rattle.group_form.specs.Stages as stages
use Rattle.group_form.specs.Stages.{Stage, Scope, stage_at, uses_of, value_in}
use Rattle.group_form.specs.Body.{GroupBody, first_index, phase_list}
use Rattle.group_form.specs.Form.{is_once, IsOverGroups}
use Rattle.group_form.specs.Whole.{DeclaresLocals, row_of}
use Rattle.group_form.specs.Theorem.{IsPrintedOverGroups, IsKeptApart}
use Rattle.group_form.proofs.Lists.{Each as EachStage, each_at, each_from}
use Rattle.group_form.proofs.Most.{most_second}
use Rattle.group_form.proofs.Seen.{SeenAt, seen_input, seen_top}
use Rattle.group_form.proofs.Sight as sight
use Rattle.group_form.proofs.Counters.{written_chain}
use Rattle.group_form.proofs.Uses.{written_uses_are}
use Rattle.group_form.proofs.Phased as phased
use Rattle.group_form.proofs.Form as form
use Rattle.group_form.proofs.Copies.{declares_locals, inputs_no_copies, inputs_no_privates}
use Rattle.group_form.proofs.Outputs as outputs
use Rattle.group_form.proofs.Outputs.{IsLaid, laid_under, laid_itself}

-- the owner of a scalar of a group's turn
owner_of_row : {A : Type 0} (num : A → ℕ) (l : Launch) (t : Term A) (p : List ℕ) → 0 < l.local.0 → StandsInGroup true t → local_along X num l t p ≡ row_of num t p % l.local.0
owner_of_row num l (Reshape y t) p some f = owner_of_row num l t (operand_position num y p) some f.1
owner_of_row num l (LetArray v b) p some f = owner_of_row num l b p some f.1
owner_of_row num l (Map (Over Items X) n loads xs b) [] some f = sym (mod-eq_of_lt some)
owner_of_row num l (Map (Over Items X) n loads xs b) (j ∷ p) some f = refl
owner_of_row num l _ p some f = absurd (assumption)

-- in the first row
first_line : (x g : ℕ) → x + 0 * g ≡ x
first_line x g = omega arith

-- a map over groups of one row has no map over rows on top
not_in_rows : {A : Type 0} (t : Term A) → StandsOverGroups t → is_in_rows t ≡ false
not_in_rows (Reshape y t) f = not_in_rows t f.1
not_in_rows (LetArray v b) f = not_in_rows b f.1
not_in_rows (Map (Over Groups X) n loads xs b) f = refl
not_in_rows _ f = absurd (assumption)

local_below : (g n m : ℕ) → g ≡ m * n → 0 < g → n ≤ g
local_below g n zero e h = let z : 0 * n ≡ 0 = omega arith in absurd (omega arith)
local_below g n (suc m) e h = omega arith

groups_below : (g n m : ℕ) → g ≡ m * n → 0 < n → m ≤ g
groups_below g zero m e h = absurd (omega arith)
groups_below g (suc n) m e h = omega arith

module _ {A : Type 0} (num : A → ℕ) (forms : MapForms A) (k : Kernel) (l : Launch) (c : Cells) (lists : List (List ℕ)) (fence : ℕ → Fencing) where
  -- the kernel is printed for phases of a map over groups, with the term's uses
  pub record AreItsPhases (owned : (array index : ℕ) → ℕ) (t : Term A) : Type 0 where
    pub body : GroupBody A
    pub once : body.once ≡ is_once forms t
    pub is : IsPhased (phase_list num l c lists body) num k l c owned lists
    pub touches : numbered 0 (uses_of body.stages) ≡ group_touches t
    pub count : length body.stages ≡ phase_count t
    pub some_phase : 0 < length body.stages
    pub printed : fence 0 ≡ Open → IsGroupKernel k l body.once body.turns (length body.stages) fence (IsPhase num l (phase_list num l c lists body))

module _ {A : Type 0} (num : A → ℕ) (forms : MapForms A) (k : Kernel) (l : Launch) (c : Cells) (lists : List (List ℕ)) (ins : ℕ → Marks) (src : ℕ → Ty) (sources : ℕ → Scalars) (whole : Ty) (value : Scalars) (fence : ℕ → Fencing) where
  abbrev Given : Ty → Marks → Scalars → Type 0
  Given ty e s = (cs : List Bool) (p : List ℕ) → IsPosition ty cs p → IsGiven c (e cs p) (s cs p)

  -- what is the same for all parts of the term
  pub record Common : Type 0 where
    pub launch : IsWhole l
    pub flat : launches.IsFlat l
    pub some : 0 < item_count l
    pub few : item_count l < 2 ^ 31
    pub makes : MakeTurns forms num l
    pub inputs : (v : ℕ) → Given (src v) (ins v) (sources v)
    pub flat_type : IsFlat whole
    pub outputs : map length c.outs ≡ replicate (width whole) (size whole)
    pub shape : map length lists ≡ map length c.outs
    pub listed : AreLists whole value lists

  module _ (h : Common) where
    abbrev AllGiven : (ℕ → Ty) → (ℕ → Marks) → (ℕ → Scalars) → Type 0
    AllGiven g env sems = (v : ℕ) → Given (g v) (env v) (sems v)

    few_across : l.global.0 < 2 ^ 31
    few_across = subst (λ z. z < 2 ^ 31) (flat_items l h.flat) h.few

    few_items : l.local.0 ≤ 2 ^ 31
    few_items = let a = local_below l.global.0 l.local.0 (groups_across l) h.launch.x.divides (subst (λ z. 0 < z) (flat_items l h.flat) h.some) in let f = few_across in omega arith

    few_groups : groups_across l ≤ 2 ^ 31
    few_groups = let a = groups_below l.global.0 l.local.0 (groups_across l) h.launch.x.divides h.launch.x.positive in let f = few_across in omega arith

    given_push : (g : ℕ → Ty) (env : ℕ → Marks) (sems : ℕ → Scalars) (u : Ty) (e : Marks) (s : Scalars) → Given u e s → AllGiven g env sems → AllGiven (push u g) (push e env) (push s sems)
    given_push g env sems u e s a b zero = a
    given_push g env sems u e s a b (suc v) = b v

    zipped : (n : ℕ) (x y : Ty) (e f : Marks) (s r : Scalars) → Given (ArrayOf n x) e s → Given (ArrayOf n y) f r → Given (ArrayOf n (PairOf x y)) (by_side (λ q. Nowhere) e f) (by_side (λ p. 0) s r)
    zipped n x y e f s r a b cs [] z = absurd z
    zipped n x y e f s r a b [] (j ∷ p) z = absurd z.1
    zipped n x y e f s r a b (false ∷ cs) (j ∷ p) z = a cs (j ∷ p) z
    zipped n x y e f s r a b (true ∷ cs) (j ∷ p) z = b cs (j ∷ p) z

    -- an argument of inputs is given
    input_given : (t : Term A) (g : ℕ → Ty) (env : ℕ → Marks) (sems : ℕ → Scalars) (ty : Ty) (a : ℕ) → IsOfInputs t → HasType num src g t ty → AllGiven g env sems → Given ty (argument_marks l ins num env a t) (scalars_of num sources sems t)
    input_given (Bound v) g env sems ty a f x e = subst (λ z. Given z (env v) (sems v)) (sym x) (e v)
    input_given (Source v) g env sems ty a f x e = subst (λ z. Given z (ins v) (sources v)) (sym x) (h.inputs v)
    input_given (Both true m n) g env sems ty a f x e =
        subst (λ z. Given z (argument_marks l ins num env a (Both true m n)) (scalars_of num sources sems (Both true m n))) (sym x.3)
        (zipped x.0 x.1 x.2 (argument_marks l ins num env a m) (argument_marks l ins num env (a + private_count m) n) (scalars_of num sources sems m) (scalars_of num sources sems n) (input_given m g env sems (ArrayOf x.0 x.1) a f.0 x.4 e) (input_given n g env sems (ArrayOf x.0 x.2) (a + private_count m) f.1 x.5 e))
    input_given (Project false m) g env sems ty a f x e = λ cs p z. input_given m g env sems (PairOf ty x.0) a f x.1 e (false ∷ cs) p z
    input_given (Project true m) g env sems ty a f x e = λ cs p z. input_given m g env sems (PairOf x.0 ty) a f x.1 e (true ∷ cs) p z
    input_given (Reshape y m) g env sems ty a f x e = λ cs p z. input_given m g env sems x.0 a f x.1 e cs (operand_position num y p) (operand_in num y x.0 ty cs p x.2 z)
    input_given (LetArray v b) g env sems ty a f x e =
        input_given b (push x.0 g) (push (argument_marks l ins num env a v) env) (push (scalars_of num sources sems v) sems) ty (a + private_count v) f.1 x.2
        (given_push g env sems x.0 (argument_marks l ins num env a v) (scalars_of num sources sems v) (input_given v g env sems x.0 a f.0 x.1 e) e)
    input_given _ g env sems ty a f x e = absurd (assumption)

    abbrev long : Array → ℕ
    long = length_in k c

    -- a map over groups
    module _ (g : ℕ → Ty) (env : ℕ → Marks) (sems : ℕ → Scalars) (n : A) (loads : LoadSet) (xs b : Term A) (x y : Ty) (outer path : List ℕ → List ℕ) (typed : HasType num src (push x g) b y) where
      abbrev term : Term A
      term = Map (Over Groups X) n loads xs b

      abbrev marks : Marks
      marks = argument_marks l ins num env 0 xs

      abbrev scalars : Scalars
      scalars = scalars_of num sources sems xs

      abbrev scope : Scope
      scope = record {
        env = λ i. push (loaded_marks loads (at_index i marks) no_variables) env;
        sems = λ i. push (at_index i scalars) sems;
        types = push x g;
        origins = λ v. Elsewhere;
        variables = load_count loads;
        privates = 0;
        locals = 0;
      }

      abbrev its_stages : List (Stage A)
      its_stages = stages.written_stages num forms ins src sources scope b y typed Outputs (λ p. p) (λ p. p) false

      abbrev body : GroupBody A
      body = record {
        once = forms.once n;
        turns = num n;
        variables = more (load_count loads) (variable_count b);
        forms = forms;
        ins = ins;
        src = src;
        sources = sources;
        top = record { loads = loads; type = x; marks = λ i. at_index i marks; scalars = λ i. at_index i scalars };
        out = λ cs p. laid_in Output 0 whole cs (outer p);
        result = y;
        stages = its_stages;
      }

      abbrev owned : (array index : ℕ) → ℕ
      owned a m = owner num l term (path (unflat whole m))

      abbrev IsIts : ℕ → Stage A → Type 0
      IsIts = sight.IsStage num long l few_items c body h.makes h.inputs

      abbrev AllSeen : Type 0
      AllSeen = EachStage IsIts 0 its_stages × sight.IsLast num long l few_items c body h.makes h.inputs (0 + length its_stages) scope b Outputs (λ p. p)

      not_locals : {P : Type 0} → (f : ℕ) (u : Ty) → Outputs ≡ Locals f u → P
      not_locals f u e = absurd (cc)

      scoped : LoadsScalars loads x → AllGiven g env sems → ((i : ℕ) → i < num n → Given x (at_index i marks) (at_index i scalars)) → sight.Scoped num long l few_items c body h.makes h.inputs 0 scope
      scoped ok given at zero i il cs p z =
          ⊎_elim
          (λ is. seen_top num c body (at_way Elsewhere cs) 0 i p (loaded_marks loads (at_index i marks) no_variables cs p) (at_index i scalars cs p) is (cs, p, z, refl, refl))
          (λ e. subst (λ m. SeenAt num c body (at_way Elsewhere cs) 0 i p m (at_index i scalars cs p)) (sym e) (seen_input num c body (at_way Elsewhere cs) 0 i p (at_index i marks cs p) (at_index i scalars cs p) (at i il cs p z)))
          (loaded_or loads x (at_index i marks) no_variables cs p ok z)
      scoped ok given at (suc v) i il cs p z = seen_input num c body (at_way Elsewhere cs) 0 i p (env v cs p) (sems v cs p) (given v cs p z)

      stand : EachStage (λ q s. stage_at its_stages q ≡ s) 0 its_stages
      stand = each_from (λ q s. stage_at its_stages q ≡ s) 0 its_stages (λ i lt. let e : 0 + i ≡ i = omega arith in ap (stage_at its_stages) e)

      all_seen : StandsInGroup true b → LoadsScalars loads x → AllGiven g env sems → ((i : ℕ) → i < num n → Given x (at_index i marks) (at_index i scalars)) → Declares long 0 b → DeclaresLocals long 0 b → AllSeen
      all_seen stands ok given at private local =
          sight.works num long l few_items c body h.makes h.inputs b scope y typed 0 Outputs (λ p. p) (λ p. p) false stands (scoped ok given at) stand
          (record { inside = λ cs p z. z; returns = λ cs p z. refl; covers = λ cs p z. (z, refl); straight = λ a. absurd (true≢false (sym a)) })
          (λ f u e. not_locals f u e) (λ e. omega arith) private local (as_many (more (load_count loads) (variable_count b))) (as_many (load_count loads))

      map_phases : IsOfInputs xs → StandsInGroup true b → num n < 2 ^ 31 → LoadsScalars loads x → HasType num src g xs (ArrayOf (num n) x) → AllGiven g env sems → IsLaid whole (ArrayOf (num n) y) outer path
          → ((cs : List Bool) (i : ℕ) (p : List ℕ) → IsPosition (ArrayOf (num n) y) cs (i ∷ p) → value cs (outer (i ∷ p)) ≡ scalars_of num sources (push (at_index i scalars) sems) b cs p)
          → AtMost (more (load_count loads) (variable_count b)) (declared k) → Declares long 0 b → DeclaresLocals long 0 b → IsOverGroups num forms l ins fence env term (λ cs p. laid_in Output 0 whole cs (outer p)) k.code → AreItsPhases num forms k l c lists fence owned term
      map_phases inputs stands small ok typed_array given laid values room private local code =
          let given_array = input_given xs g env sems (ArrayOf (num n) x) 0 inputs typed_array given in
          let at = λ (i : ℕ) (il : i < num n) (cs : List Bool) (p : List ℕ) (z : IsPosition x cs p). given_array cs (i ∷ p) (il, z) in
          let all = all_seen stands ok given at private local in
          let last = all.1 in
          let groups = few_groups in
          let counted = form.written_count num l c lists body fence b scope y typed Outputs (λ p. p) (λ p. p) false stands in
          let turn = code.4 in
          record {
            body = body;
            once = refl;
            is = phased.phased num k l c owned lists body few_items h.makes h.inputs (record {
              whole = h.launch;
              flat = h.flat;
              turns = omega arith;
              once = λ e. let one = h.makes.once n e in omega arith;
              room = room;
              top_loads = ok;
              top_given = at;
              stages = λ q ql. let e : 0 + q ≡ q = omega arith in subst (λ z. IsIts z (stage_at its_stages q)) e (each_at IsIts 0 q its_stages all.0 ql);
              chained = (written_chain num forms ins src sources b scope y typed Outputs (λ p. p) (λ p. p) false stands tt).0;
              last = last.at;
              last_is = let e = last.ends in omega arith;
              gives = last.goes;
              out = outputs.goes_out k l c lists (num n) y whole outer path value (owner num l term) (λ p. first_index ((stage_at its_stages last.at).path p)) (λ i cs p. value_in num sources i (stage_at its_stages last.at) cs ((stage_at its_stages last.at).path p))
                  (record {
                    flat_type = h.flat_type;
                    laid = laid;
                    outputs = h.outputs;
                    shape = h.shape;
                    listed = h.listed;
                    values = λ cs i p z. values cs i p z ∙ sym (last.value i cs p);
                    owned = λ i p. first_line ((i % groups_across l) * l.local.0 + local_along X num l b p) l.global.0 ∙ ap (λ z. (i % groups_across l) * l.local.0 + z) (owner_of_row num l b p h.launch.x.positive stands ∙ ap (λ z. z % l.local.0) (sym (last.rows p)));
                    within = λ p. owner_below num l term p h.launch h.some;
                  });
            });
            touches = ap (numbered 0) (written_uses_are num forms ins src sources b scope y typed Outputs (λ p. p) (λ p. p) false stands);
            count = counted;
            some_phase = let e = last.ends in omega arith;
            printed = λ none. record {
              bound = code.0;
              body = code.1;
              code = code.2;
              bound_is = code.3;
              phases = form.are_phases num l c lists body fence (length its_stages) code.1 turn.0 turn.1 none (let e = last.ends in omega arith) turn.2
                  (form.written_phases num l c lists body fence b scope y typed Outputs (λ p. p) (λ p. p) false 0 0 turn.0 turn.1 refl stands stand turn.3) (subst (λ z. IsPast (fence z) turn.1 End) (sym counted) turn.4);
            };
          }

    -- and through layouts and lets of inputs
    pub term_phases : (t : Term A) (g : ℕ → Ty) (env : ℕ → Marks) (sems : ℕ → Scalars) (outer path : List ℕ → List ℕ) (ty : Ty) → StandsOverGroups t → HasType num src g t ty → AllGiven g env sems → IsLaid whole ty outer path
        → ((cs : List Bool) (p : List ℕ) → IsPosition ty cs p → value cs (outer p) ≡ scalars_of num sources sems t cs p) → AtMost (variable_count t) (declared k) → Declares long 0 t → AreLong LocalArray long 0 (copy_lengths LocalMemory t)
        → IsOverGroups num forms l ins fence env t (λ cs p. laid_in Output 0 whole cs (outer p)) k.code → AreItsPhases num forms k l c lists fence (λ a m. owner num l t (path (unflat whole m))) t
    term_phases (Reshape y a) g env sems outer path ty f x given laid values room private local code =
        let r = term_phases a g env sems (λ p. outer (result_position num y p)) (λ p. operand_position num y (path p)) x.0 f.1 x.1 given (laid_under num y x.0 ty whole outer path f.0 x.2 laid)
        (λ cs p z. let e = result_in num y x.0 ty cs p f.0 x.2 z in values cs (result_position num y p) e.0 ∙ ap (scalars_of num sources sems a cs) e.1) room private local code.1 in
        record { body = r.body; once = r.once; is = r.is; touches = r.touches; count = r.count; some_phase = r.some_phase; printed = r.printed }
    term_phases (LetArray v b) g env sems outer path ty f x given laid values room private local code =
        let none = inputs_no_privates v f.0 in
        let e : 0 + private_count v ≡ 0 = omega arith in
        let r = term_phases b (push x.0 g) (push (argument_marks l ins num env 0 v) env) (push (scalars_of num sources sems v) sems) outer path ty f.1 x.2
        (given_push g env sems x.0 (argument_marks l ins num env 0 v) (scalars_of num sources sems v) (input_given v g env sems x.0 0 f.0 x.1 given) given) laid values (most_second (variable_count v) (variable_count b) (declared k) room)
        (subst (λ z. Declares long z b) e private.1) (subst (λ z. AreLong LocalArray long 0 (z ++ copy_lengths LocalMemory b)) (inputs_no_copies LocalMemory v f.0) local) code in
        record { body = r.body; once = r.once; is = r.is; touches = r.touches; count = r.count; some_phase = r.some_phase; printed = r.printed }
    term_phases (Map (Over Groups X) n loads xs b) g env sems outer path ty f x given laid values room private local code =
        let none = inputs_no_privates xs f.0 in
        let e : 0 + private_count xs ≡ 0 = omega arith in
        map_phases g env sems n loads xs b x.0 x.1 outer path x.5 f.0 f.1 x.2 x.3 x.4 given (subst (λ z. IsLaid whole z outer path) x.6 laid) (λ cs i p z. values cs (i ∷ p) (subst (λ w. IsPosition w cs (i ∷ p)) (sym x.6) z)) (most_second (variable_count xs) (more (load_count loads) (variable_count b)) (declared k) room)
        (subst (λ z. Declares long z b) e private.1) (declares_locals long true 0 b f.1 (subst (λ z. AreLong LocalArray long 0 (z ++ copy_lengths LocalMemory b)) (inputs_no_copies LocalMemory xs f.0) local)) code
    term_phases _ g env sems outer path ty f x given laid values room private local code = absurd (assumption)

-- a kernel that is printed for a term
module _ {A : Type 0} (num : A → ℕ) (forms : MapForms A) (l : Launch) (src : ℕ → Ty) (ins : ℕ → Marks) (sources : ℕ → Scalars) (fence : ℕ → Fencing) (t : Term A) (ty : Ty) (k : Kernel) (c : Cells) (lists : List (List ℕ)) (h : IsPrintedOverGroups l num forms src ins sources fence t ty k c)
    (shape : map length lists ≡ map length c.outs) (listed : AreLists ty (scalars_of num sources no_scalars t) lists) where
  abbrev of_owner : (array index : ℕ) → ℕ
  of_owner a m = owner num l t (unflat ty m)

  its_phases : AreItsPhases num forms k l c lists fence of_owner t
  its_phases =
      term_phases num forms k l c lists ins src sources ty (scalars_of num sources no_scalars t) fence (record { launch = h.made.whole; flat = h.made.flat (not_in_rows t h.stands); some = h.made.some; few = h.made.few; makes = h.makes; inputs = h.made.inputs; flat_type = h.made.flat_type; outputs = h.made.outputs; shape = shape; listed = listed })
      t no_type no_marks no_scalars (λ p. p) (λ p. p) ty h.stands h.made.typed (λ v cs p x. nothing cs p x) (laid_itself ty) (λ cs p x. refl) (at_most (let e = h.made.variables in omega arith) (let e = h.made.vectors in omega arith))
      (declares (length_in k c) 0 t (λ i lt. let z : 0 + i ≡ i = omega arith in ap (λ j. slice_index k.privates j) z ∙ ap (λ ns. slice_index ns i) h.made.privates))
      (λ i lt. let z : 0 + i ≡ i = omega arith in ap (λ j. slice_index k.locals j) z ∙ ap (λ ns. slice_index ns i) h.locals) h.code
    where
      nothing : {P : Type 0} → (cs : List Bool) (p : List ℕ) → IsPosition (ArrayOf 0 Scalar) cs p → P
      nothing cs [] x = absurd x
      nothing cs (i ∷ p) x = absurd (let lt = x.0 in omega arith)

  apart : (r : AreItsPhases num forms k l c lists fence of_owner t) → IsKeptApart forms t fence → Separates (numbered 0 (uses_of r.body.stages)) placed.Local r.body.once (length r.body.stages) fence
  apart r s =
      subst (λ z. Separates (numbered 0 (uses_of r.body.stages)) placed.Local z (length r.body.stages) fence) (sym r.once)
      (subst (λ z. Separates (numbered 0 (uses_of r.body.stages)) placed.Local (is_once forms t) z fence) (sym r.count)
      (subst (λ z. Separates z placed.Local (is_once forms t) (phase_count t) fence) (sym r.touches) s.separates))

  pub separated_keep : PhasesKeep A → IsKeptApart forms t fence → EveryRunKeeps k l c of_owner lists
  separated_keep keep s = let r = its_phases in keep num k l c of_owner lists (phase_list num l c lists r.body) fence r.is (apart r s) (r.printed s.opens)

  pub separated_serve : PhasesServe A → IsKeptApart forms t fence → (filler : Cell → ℕ) × BarriersServeAll k l c filler
  separated_serve serve s = let r = its_phases in ((phase_list num l c lists r.body).filler, serve num k l c of_owner lists (phase_list num l c lists r.body) fence r.is (apart r s) (r.printed s.opens))
