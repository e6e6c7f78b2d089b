-- Code that is printed for a map over work-groups in two dimensions is printed for its phases.
use Rattle.std.proofs.Common.{◌≡◌, ℕ, zero, suc, ◌+◌, ◌*◌, ◌/◌, ◌%◌, ◌<◌, List, [], ◌∷◌, length, Bool, true, false, refl, sym, ap, ◌∙◌, subst, arith}
use Rattle.std.proofs.lemmas.Nat.{div-mul-add, mod-mul-add}
use Rattle.lift_tree.specs.declared.term.Level.TheVariants.{Items}
use Rattle.lift_tree.specs.declared.term.Dimension.TheVariants as dimension
use Rattle.kernel_tree.specs.declared.tree.Dimension.TheVariants.{X, Y}
use Rattle.kernel_tree.specs.Code.{FromLocalId, ByLocalSize, Start, Stride, Code, End}
use Rattle.kernel_tree.specs.Launch.{Launch, Cells}
use Rattle.barrier_placement.specs.Fencing.{Fencing, Open}
use Rattle.lift_ir.specs.Types.{Ty, PairOf, ArrayOf}
use Rattle.lift_ir.specs.Layouts.{operand_position, result_position}
use Rattle.lift_ir.specs.Terms.{LoadSet, Over, LocalMemory, Term, Bound, Source, Both, Project, Reshape, LetArray, Map, Copy, push, HasType}
use Rattle.lift_ir.specs.Scalars.{Scalars, at_index, scalars_of}
use Rattle.printed_form.specs.Arguments.{marks_in, local_arrays}
use Rattle.printed_form.specs.Counts.{Count, more, load_count, variable_count, private_count, local_count}
use Rattle.printed_form.specs.Marks.{Marks, loaded_marks}
use Rattle.printed_form.specs.Form.{IsLoaded, IsWritten}
use Rattle.printed_form.specs.MapForms.{MapForm, Looped, Guarded, Alone, TurnCode, AreTurnsFrom}
use Rattle.group_phases.specs.Epochs.{IsPast}
use Rattle.group_phases.specs.GridPhases.{GridList, AtItsTurns, variables_at, IsPhaseNest, IsPhase}
use Rattle.group_phases.specs.NestRows.{IsPlaceCode, IsRowCode, IsNestCode}
use Rattle.group_phases.specs.Phased.{ArePhases}
use Rattle.group_form.specs.Body.{destination_marks}
use Rattle.group_form.specs.Form.{Used}
use Rattle.group_form.specs.GridForm as form
use Rattle.group_form.specs.GridTerms.{StandsAlongRow, StandsInGrid}
use Rattle.group_form.specs.Named.{cut, ways, element_ways, named_outside}
use Rattle.group_form.specs.Origins.{bent, origin_of}
use Rattle.group_form.specs.Stages.{Scope, later, bind, marks_of}
use Rattle.group_form.specs.Uses.{Use, Destination, Locals, loop_uses, phases_in}
use Rattle.group_form.proofs.GridCounters.{last_stage}
use Rattle.group_form.proofs.GridStages as stages
use Rattle.group_form.proofs.GridStages.{Stage, GridBody, stage_at, place_of, grid_list, under, Each, each_left, each_right}
use Rattle.group_form.proofs.Lists.{long_append}
use Rattle.group_form.proofs.Named.{body_typed}

-- turns that are printed otherwise
turns_as : (l : Launch) (item : ℕ) (f : MapForm) (s : Start) (c : Stride) (ts : List ℕ) (n : ℕ) (B C : TurnCode) → ((us : List ℕ) (i : ℕ) (code rest : Code) → i < n → B us i code rest → C us i code rest) → (code rest : Code) → AreTurnsFrom l item f s c ts n B code rest → AreTurnsFrom l item f s c ts n C code rest
turns_as l item Looped s c ts n B C f code rest h = (h.0, h.1, h.2, h.3, λ i lt own. f _ i _ _ lt (h.4 i lt own))
turns_as l item Guarded s c ts n B C f code rest h = (h.0, h.1, h.2, h.3, λ i lt own. f _ i _ _ lt (h.4 i lt own))
turns_as l item Alone s c ts n B C f code rest h = λ i lt own. f _ i _ _ lt (h i lt own)

module _ {A : Type 0} (num : A → ℕ) (l : Launch) (c : Cells) (wanted : List (List ℕ)) (b : GridBody A) (fence : ℕ → Fencing) where
  abbrev p : GridList A
  p = grid_list num l c wanted b

  -- m phases from phase q on, each after what stands before it
  abbrev pub Between : (q m : ℕ) → (code rest : Code) → Type 0
  Between q zero code rest = code ≡ rest
  Between q (suc m) code rest = (mid mid2 : Code) × IsPast (fence q) code mid × IsPhaseNest num l p q mid mid2 × Between (suc q) m mid2 rest

  between_append : (q m n : ℕ) (code mid rest : Code) → Between q m code mid → Between (q + m) n mid rest → Between q (m + n) code rest
  between_append q zero n code mid rest x y =
      let e : q + 0 ≡ q = omega arith in
      let z : n ≡ 0 + n = omega arith in
      subst (λ w. Between q w code rest) z (subst (λ w. Between q n w rest) (sym x) (subst (λ w. Between w n mid rest) e y))
  between_append q (suc m) n code mid rest x y =
      let e : q + suc m ≡ suc q + m = omega arith in
      let z : suc (m + n) ≡ suc m + n = omega arith in
      let all : Between q (suc (m + n)) code rest = (x.0, x.1, x.2, x.3, between_append (suc q) m n x.1 mid rest x.4 (subst (λ w. Between w n mid rest) e y)) in
      subst (λ w. Between q w code rest) z all

  abbrev Stand : ℕ → List (Stage A) → Type 0
  Stand = Each (λ q s. stage_at b.stages q ≡ s)

  abbrev argument_stages : (s : Scope) (t : Term A) (ty : Ty) → HasType num b.src s.types t ty → List (Stage A)
  argument_stages = stages.argument_stages num b.forms b.ins b.src b.sources

  abbrev written_stages : (s : Scope) (t : Term A) (ty : Ty) → HasType num b.src s.types t ty → Destination → (outer path : List ℕ → List ℕ) → List (Stage A)
  written_stages = stages.written_stages num b.forms b.ins b.src b.sources

  abbrev bound_to : Scope → Term A → Ty → Scope
  bound_to = bind num b.ins b.src b.sources

  abbrev used : Scope → ℕ → Used
  used s n = record { locals = s.locals; privates = s.privates; variables = s.variables; phases = n }

  abbrev IsArgument : Scope → (n : ℕ) → Term A → (code rest : Code) → Type 0
  IsArgument s n t code rest = form.IsGridArgument num b.forms l b.ins fence b.rows_form b.columns_form b.grid s.env (used s n) t code rest

  abbrev goes : Destination → (outer : List ℕ → List ℕ) → (turn : ℕ) → Marks
  goes d outer i = λ cs r. destination_marks b.out i d cs (outer r)

  abbrev IsWrittenAt : Scope → (n : ℕ) → Term A → Destination → (outer : List ℕ → List ℕ) → (code rest : Code) → Type 0
  IsWrittenAt s n t d outer code rest = form.IsGridWritten num b.forms l b.ins fence b.rows_form b.columns_form b.grid s.env (used s n) t (goes d outer) code rest

  -- the nest of a stage, at every turn
  abbrev MapOf : Stage A → Code → Code → Type 0
  MapOf s code rest = AtItsTurns num l p (λ item i. IsNestCode num l item b.ins s.nest (place_of b.out i s) (FromLocalId Y) (ByLocalSize Y) (FromLocalId X) (ByLocalSize X) (variables_at num l p i) code rest)

  -- a map along a row is printed for the places of its stage
  module _ (n : A) (loads : LoadSet) (x : Ty) (types : ℕ → Ty) (rm : ℕ → Marks) (rs : ℕ → Scalars) (env : (turn row var : ℕ) → Marks) (sems : (turn row var : ℕ) → Scalars) (k a : ℕ) (m : Count) (us : List Use) (d : Destination) where
    abbrev stage : (t : Term A) (ty : Ty) → HasType num b.src types t ty → (outer path : List ℕ → List ℕ) → Stage A
    stage t ty h outer path = stages.along_stage num b.forms b.ins b.src b.sources n loads x types rm rs env sems k a m us d t ty h outer path

    along_code : (t : Term A) (ty : Ty) (h : HasType num b.src types t ty) (outer path : List ℕ → List ℕ) → StandsAlongRow t → (item i : ℕ) (ts : List ℕ) (code rest : Code)
        → AreTurnsFrom l item (b.forms.rows.local n) (FromLocalId Y) (ByLocalSize Y) ts (num n)
        (λ us r before after. (mid : Code) × IsLoaded l item b.ins us loads (at_index r (rm i)) m before mid
        × form.IsAlongRow num b.forms l b.ins item k a (more m (load_count loads)) (env i r) t (λ cs q. destination_marks b.out i d cs (outer (r ∷ q))) us r mid after)
        code rest
        → IsNestCode num l item b.ins (stage t ty h outer path).nest (place_of b.out i (stage t ty h outer path)) (FromLocalId Y) (ByLocalSize Y) (FromLocalId X) (ByLocalSize X) ts code rest
    along_code (Reshape y t) ty h outer path f item i ts code rest z =
        along_code t h.0 h.1 (λ q. outer (under (result_position num y) q)) (λ q. under (operand_position num y) (path q)) f.1 item i ts code rest
        (turns_as l item (b.forms.rows.local n) (FromLocalId Y) (ByLocalSize Y) ts (num n) _
        (λ us r before after. (mid : Code) × IsLoaded l item b.ins us loads (at_index r (rm i)) m before mid
        × form.IsAlongRow num b.forms l b.ins item k a (more m (load_count loads)) (env i r) t (λ cs q. destination_marks b.out i d cs (outer (under (result_position num y) (r ∷ q)))) us r mid after)
        (λ us r before after lt e. (e.0, e.1, e.2.1)) code rest z)
    along_code (Map (Over Items dimension.X) n2 loads2 ys body) ty h outer path f item i ts code rest z =
        let s = stage (Map (Over Items dimension.X) n2 loads2 ys body) ty h outer path in
        turns_as l item (b.forms.rows.local n) (FromLocalId Y) (ByLocalSize Y) ts (num n) _ (IsRowCode num l item b.ins s.nest (place_of b.out i s) (FromLocalId X) (ByLocalSize X))
        (λ us r before after lt e. (
          e.0,
          e.1,
          turns_as l item (b.forms.columns.local n2) (FromLocalId X) (ByLocalSize X) us (num n2) _ (IsPlaceCode num l item b.ins s.nest (place_of b.out i s) r)
              (λ vs j before2 after2 lt2 w.
              let to = λ (u v : ℕ) (cs : List Bool) (q : List ℕ). destination_marks b.out i d cs (outer (u ∷ v ∷ q)) in
              let same : to r j ≡ to ((r * num n2 + j) / num n2) ((r * num n2 + j) % num n2) = sym (ap (λ u. to u ((r * num n2 + j) % num n2)) (div-mul-add r (num n2) j lt2) ∙ ap (to r) (mod-mul-add r (num n2) j lt2)) in
              (w.0, w.1, subst (λ g. IsWritten l item b.ins num vs (push (loaded_marks loads2 (at_index j (marks_in local_arrays num b.ins (env i r) k ys)) (more (more m (load_count loads)) (variable_count ys))) (env i r)) (a + private_count ys) (more (more (more m (load_count loads)) (variable_count ys)) (load_count loads2)) body g w.0 after2) same w.2))
              e.0 after e.2,
        )) code rest z
    along_code _ ty h outer path f item i ts code rest z = absurd (assumption)

  mutual
    argument_count : (t : Term A) (s : Scope) (ty : Ty) (h : HasType num b.src s.types t ty) → StandsInGrid false t → length (argument_stages s t ty h) ≡ phases_in t
    argument_count (Bound v) s ty h f = refl
    argument_count (Source a) s ty h f = refl
    argument_count (Both true x y) s ty h f =
        let one = argument_count x s (ArrayOf h.0 h.1) h.4 f.0 in
        let two = argument_count y (later s x) (ArrayOf h.0 h.2) h.5 f.1 in
        let sum = long_append (argument_stages s x (ArrayOf h.0 h.1) h.4) (argument_stages (later s x) y (ArrayOf h.0 h.2) h.5) in
        omega arith
    argument_count (Project false a) s ty h f = argument_count a s (PairOf ty h.0) h.1 f
    argument_count (Project true a) s ty h f = argument_count a s (PairOf h.0 ty) h.1 f
    argument_count (Reshape y a) s ty h f = argument_count a s h.0 h.1 f
    argument_count (LetArray v x) s ty h f =
        let one = argument_count v s h.0 h.1 f.0 in
        let two = argument_count x (bound_to s v h.0) ty h.2 f.1 in
        let sum = long_append (argument_stages s v h.0 h.1) (argument_stages (bound_to s v h.0) x ty h.2) in
        omega arith
    argument_count (Copy LocalMemory u x) s ty h f = written_count x s ty h.2 (Locals (s.locals + local_count x) u) (λ r. r) (λ r. r) f
    argument_count _ s ty h f = absurd (assumption)

    pub written_count : (t : Term A) (s : Scope) (ty : Ty) (h : HasType num b.src s.types t ty) (d : Destination) (outer path : List ℕ → List ℕ) → StandsInGrid true t → length (written_stages s t ty h d outer path) ≡ phases_in t
    written_count (Reshape y a) s ty h d outer path f = written_count a s h.0 h.1 d (λ r. outer (result_position num y r)) (λ r. operand_position num y (path r)) f.1
    written_count (LetArray v x) s ty h d outer path f =
        let one = argument_count v s h.0 h.1 f.0 in
        let two = written_count x (bound_to s v h.0) ty h.2 d outer path f.1 in
        let sum = long_append (argument_stages s v h.0 h.1) (written_stages (bound_to s v h.0) x ty h.2 d outer path) in
        omega arith
    written_count (Map (Over Items dimension.Y) n loads xs body) s ty h d outer path f =
        let one = argument_count xs s (ArrayOf (num n) h.0) h.4 f.0 in
        let sum = long_append (argument_stages s xs (ArrayOf (num n) h.0) h.4) (last_stage num b.forms b.ins b.src b.sources n s loads xs body h.0 h.1 d outer path h.5 ∷ []) in
        omega arith
    written_count _ s ty h d outer path f = absurd (assumption)

  nest_printed : (n : A) (s : Scope) (loads : LoadSet) (xs body : Term A) (x y : Ty) (d : Destination) (outer path : List ℕ → List ℕ) (typed : HasType num b.src (push x s.types) body y) → StandsAlongRow body → (code rest : Code)
      → form.IsLocalNest num b.forms l b.ins fence b.rows_form b.columns_form b.grid s.env (record { locals = s.locals + local_count xs; privates = s.privates + private_count xs; variables = more s.variables (variable_count xs); phases = 0 }) n loads (marks_of num b.ins s.env s.locals xs) body (goes d outer) code rest
      → MapOf (last_stage num b.forms b.ins b.src b.sources n s loads xs body x y d outer path typed) code rest
  nest_printed n s loads xs body x y d outer path typed f code rest z item i jl il own_row own_column =
      along_code n loads (cut x (element_ways loads body)) (push (cut x (element_ways loads body)) (λ v. cut (s.types v) (ways v (named_outside body)))) (marks_of num b.ins s.env s.locals xs) (λ i. scalars_of num b.sources (s.sems i) xs)
      (λ i j. push (loaded_marks loads (at_index j (marks_of num b.ins s.env s.locals xs i)) (more s.variables (variable_count xs))) (s.env i)) (λ i j. push (at_index j (scalars_of num b.sources (s.sems i) xs)) (s.sems i)) (s.locals + local_count xs) (s.privates + private_count xs) (more s.variables (variable_count xs))
      (loop_uses s.origins (bent (origin_of s.origins s.locals xs)) loads body d false) d body y (body_typed num b.src s.types loads body x y typed) outer path f item i (variables_at num l p i) code rest (z item i jl il own_row own_column)

  mutual
    argument_phases : (t : Term A) (s : Scope) (ty : Ty) (h : HasType num b.src s.types t ty) (q n : ℕ) (code rest : Code) → n ≡ q → StandsInGrid false t → Stand q (argument_stages s t ty h) → IsArgument s n t code rest → Between q (length (argument_stages s t ty h)) code rest
    argument_phases (Bound v) s ty h q n code rest e f is x = x
    argument_phases (Source a) s ty h q n code rest e f is x = x
    argument_phases (Both true a y) s ty h q n code rest e f is x =
        let xs = argument_stages s a (ArrayOf h.0 h.1) h.4 in
        let ys = argument_stages (later s a) y (ArrayOf h.0 h.2) h.5 in
        let count = argument_count a s (ArrayOf h.0 h.1) h.4 f.0 in
        let one = argument_phases a s (ArrayOf h.0 h.1) h.4 q n code x.0 e f.0 (each_left (λ r t. stage_at b.stages r ≡ t) q xs ys is) x.1 in
        let two = argument_phases y (later s a) (ArrayOf h.0 h.2) h.5 (q + length xs) (n + phases_in a) x.0 rest (omega arith) f.1 (each_right (λ r t. stage_at b.stages r ≡ t) q xs ys is) x.2 in
        subst (λ z. Between q z code rest) (sym (long_append xs ys)) (between_append q (length xs) (length ys) code x.0 rest one two)
    argument_phases (Project false a) s ty h q n code rest e f is x = argument_phases a s (PairOf ty h.0) h.1 q n code rest e f is x
    argument_phases (Project true a) s ty h q n code rest e f is x = argument_phases a s (PairOf h.0 ty) h.1 q n code rest e f is x
    argument_phases (Reshape y a) s ty h q n code rest e f is x = argument_phases a s h.0 h.1 q n code rest e f is x
    argument_phases (LetArray v y) s ty h q n code rest e f is x =
        let t = bound_to s v h.0 in
        let xs = argument_stages s v h.0 h.1 in
        let ys = argument_stages t y ty h.2 in
        let count = argument_count v s h.0 h.1 f.0 in
        let one = argument_phases v s h.0 h.1 q n code x.0 e f.0 (each_left (λ r t. stage_at b.stages r ≡ t) q xs ys is) x.1 in
        let two = argument_phases y t ty h.2 (q + length xs) (n + phases_in v) x.0 rest (omega arith) f.1 (each_right (λ r t. stage_at b.stages r ≡ t) q xs ys is) x.2 in
        subst (λ z. Between q z code rest) (sym (long_append xs ys)) (between_append q (length xs) (length ys) code x.0 rest one two)
    argument_phases (Copy LocalMemory u a) s ty h q n code rest e f is x = written_phases a s ty h.2 (Locals (s.locals + local_count a) u) (λ r. r) (λ r. r) q n code rest e f is x
    argument_phases _ s ty h q n code rest e f is x = absurd (assumption)

    pub written_phases : (t : Term A) (s : Scope) (ty : Ty) (h : HasType num b.src s.types t ty) (d : Destination) (outer path : List ℕ → List ℕ) (q n : ℕ) (code rest : Code) → n ≡ q → StandsInGrid true t → Stand q (written_stages s t ty h d outer path) → IsWrittenAt s n t d outer code rest
        → Between q (length (written_stages s t ty h d outer path)) code rest
    written_phases (Reshape y a) s ty h d outer path q n code rest e f is x = written_phases a s h.0 h.1 d (λ r. outer (result_position num y r)) (λ r. operand_position num y (path r)) q n code rest e f.1 is x.1
    written_phases (LetArray v y) s ty h d outer path q n code rest e f is x =
        let t = bound_to s v h.0 in
        let xs = argument_stages s v h.0 h.1 in
        let ys = written_stages t y ty h.2 d outer path in
        let count = argument_count v s h.0 h.1 f.0 in
        let one = argument_phases v s h.0 h.1 q n code x.0 e f.0 (each_left (λ r t. stage_at b.stages r ≡ t) q xs ys is) x.1 in
        let two = written_phases y t ty h.2 d outer path (q + length xs) (n + phases_in v) x.0 rest (omega arith) f.1 (each_right (λ r t. stage_at b.stages r ≡ t) q xs ys is) x.2 in
        subst (λ z. Between q z code rest) (sym (long_append xs ys)) (between_append q (length xs) (length ys) code x.0 rest one two)
    written_phases (Map (Over Items dimension.Y) m loads xs body) s ty h d outer path q n code rest e f is x =
        let ss = argument_stages s xs (ArrayOf (num m) h.0) h.4 in
        let t = last_stage num b.forms b.ins b.src b.sources m s loads xs body h.0 h.1 d outer path h.5 in
        let r = q + length ss in
        let count = argument_count xs s (ArrayOf (num m) h.0) h.4 f.0 in
        let at : n + phases_in xs ≡ r = omega arith in
        let here : stage_at b.stages r ≡ t = (each_right (λ r t. stage_at b.stages r ≡ t) q ss (t ∷ []) is).0 in
        let one = argument_phases xs s (ArrayOf (num m) h.0) h.4 q n code x.0 e f.0 (each_left (λ r t. stage_at b.stages r ≡ t) q ss (t ∷ []) is) x.2 in
        let mapped = nest_printed m s loads xs body h.0 h.1 d outer path h.5 f.1 x.1 rest x.4 in
        let this : Between r 1 x.0 rest = (x.1, rest, subst (λ z. IsPast (fence z) x.0 x.1) at x.3, subst (λ z. MapOf z x.1 rest) (sym here) mapped, refl) in
        subst (λ z. Between q z code rest) (sym (long_append ss (t ∷ []))) (between_append q (length ss) 1 code x.0 rest one this)
    written_phases _ s ty h d outer path q n code rest e f is x = absurd (assumption)

  from_between : (q m : ℕ) (code last : Code) → Between (suc q) m code last → IsPast (fence (suc q + m)) last End → ArePhases fence (IsPhase num l p) (suc q) m code
  from_between q zero code last x y = let e : suc q + 0 ≡ suc q = omega arith in subst (λ z. IsPast (fence (suc q)) z End) (sym x) (subst (λ z. IsPast (fence z) last End) e y)
  from_between q (suc m) code last x y = let e : suc q + suc m ≡ suc (suc q) + m = omega arith in (x.0, x.1, x.2, x.3, from_between (suc q) m x.1 last x.4 (subst (λ z. IsPast (fence z) last End) e y))

  -- with the loads of the turn's scalars
  pub are_phases : (m : ℕ) (body first last : Code) → fence 0 ≡ Open → 0 < m → AtItsTurns num l p (λ item i. IsLoaded l item b.ins (variables_at num l p i) b.top.loads (b.top.marks i) (load_count b.row_top.loads) body first) → Between 0 m first last → IsPast (fence m) last End → ArePhases fence (IsPhase num l p) 0 m body
  are_phases zero body first last none some loads x y = absurd (omega arith)
  are_phases (suc m) body first last none some loads x y =
      let same : first ≡ x.0 = subst (λ z. IsPast z first x.0) none x.2 in
      (body, x.1, subst (λ z. IsPast z body body) (sym none) refl, (x.0, (λ item i jl il r s. subst (λ z. IsLoaded l item b.ins (variables_at num l p i) b.top.loads (b.top.marks i) (load_count b.row_top.loads) body z) same (loads item i jl il r s)), x.3), from_between 0 m x.1 last x.4 (let e : suc m ≡ 1 + m = omega arith in subst (λ z. IsPast (fence z) last End) e y))
