-- What the code of a map over work-groups counts, with its barriers.
use Rattle.std.proofs.Common.{◌≡◌, ℕ, suc, ◌+◌, ◌*◌, ◌/◌, ◌<◌, ◌^◌, true, false, List, [], ◌∷◌, refl, ap, subst, arith}
use Rattle.std.proofs.Math.Nat.{mod-lt}
use Rattle.lift_tree.specs.declared.term.Level.TheVariants as level
use Rattle.lift_tree.specs.declared.term.Dimension.TheVariants as dimension
use Rattle.kernel_tree.specs.declared.tree.Dimension.TheVariants.{X}
use Rattle.kernel_tree.specs.Code.{Local as LocalArray, FromGroupId, FromLocalId, ByGroupCount, ByLocalSize, Statement, Code, End}
use Rattle.kernel_tree.specs.Launch.{Launch, IsWhole, item_count, ids_of, column_of}
use Rattle.kernel_tree.proofs.Grouping.{some_items}
use Rattle.barrier_placement.specs.Fencing.{Fencing, stands}
use Rattle.barrier_placement.specs.Separates.{bit}
use Rattle.lift_ir.specs.Types.{Ty}
use Rattle.lift_ir.specs.Layouts.{result_position}
use Rattle.lift_ir.specs.Terms.{LoadSet, Over, Sequential, Space, LocalMemory, PrivateMemory, Term, Bound, Source, Both, Project, Reshape, LetArray, Map, Copy, push}
use Rattle.lift_ir.specs.Scalars.{at_index}
use Rattle.printed_form.specs.Counts.{more, no_variables, load_count, local_count}
use Rattle.printed_form.specs.Form.{argument_marks, IsTurnOf}
use Rattle.printed_form.specs.MapForms.{MapForm, Looped, Guarded, Alone, MapForms, form_over_groups, variables_in, MakesTurns, MakeTurns, TurnCode, AreTurns}
use Rattle.printed_form.specs.Marks.{Marks, laid_in, loaded_marks}
use Rattle.group_form.specs.Form.{Used, used_after, IsLocalMap, IsGroupArgument, IsGroupWritten, IsGroupTurn, IsOverGroups}
use Rattle.group_form.specs.Forms.{StandsOverGroups, IsOfInputs}
use Rattle.group_form.specs.Stages.{marks_of}
use Rattle.group_form.specs.Uses.{phases_in}
use Rattle.kernel_traffic.specs.Laws.{TurnsGoOneByOne}
use Rattle.term_traffic.specs.Regions.{Region, InGlobal, InLocal, Regions, all_in, regions_of, regions_left}
use Rattle.term_traffic.specs.Short.{HasShortLoops}
use Rattle.term_traffic.specs.Traffic.{turns_of, loads_in, argument_traffic, written_traffic, barriers_to, releases_of}
use Rattle.term_traffic.proofs.Codes.{Counts, LieIn, AllLieIn, pushed, loaded_lies, total, loaded}
use Rattle.term_traffic.proofs.Items.{CopiesTo, argument_lies, written_counts}
use Rattle.term_traffic.proofs.Turned.{past, turned, over_form}

pub laid_local : (first : ℕ) (ty : Ty) → LieIn (laid_in LocalArray first ty) (all_in InLocal)
laid_local first ty cs q = refl

-- an argument of inputs has no copies, and no work
pub of_inputs : {A : Type 0} (s : Space) (t : Term A) → IsOfInputs t → CopiesTo s t
of_inputs s (Bound v) h = tt
of_inputs s (Source v) h = tt
of_inputs s (Both true a b) h = (of_inputs s a h.0, of_inputs s b h.1)
of_inputs s (Both false a b) h = absurd h
of_inputs s (Project second a) h = of_inputs s a h
of_inputs s (Reshape y a) h = of_inputs s a h
of_inputs s (LetArray v b) h = (of_inputs s v h.0, of_inputs s b h.1)
of_inputs s _ h = absurd h

module _ {A : Type 0} (load store : Region → ℕ) (num : A → ℕ) (l : Launch) (item : ℕ) where
  pub idle : (regions : ℕ → Regions) (t : Term A) → IsOfInputs t → argument_traffic load store num (ids_of l item) regions t ≡ 0
  idle regions (Bound v) h = refl
  idle regions (Source v) h = refl
  idle regions (Both true a b) h = let x = idle regions a h.0 in let y = idle regions b h.1 in omega arith
  idle regions (Both false a b) h = absurd h
  idle regions (Project second a) h = idle regions a h
  idle regions (Reshape y a) h = idle regions a h
  idle regions (LetArray v b) h = let x = idle regions v h.0 in let y = idle (push (regions_of regions v) regions) b h.1 in omega arith
  idle regions _ h = absurd h

pub factor_positive : (n m : ℕ) → 0 < n * m → 0 < n
factor_positive n m h = grind arith

module _ (weight : Statement → ℕ) (load store : Region → ℕ) (sync : ℕ) (counts : Counts weight load store sync) (l : Launch) (whole : IsWhole l) (item : ℕ) (within : item < item_count l) (ins : ℕ → Marks) (inputs : AllLieIn ins (λ v. all_in InGlobal)) (turning : TurnsGoOneByOne) where
  local_below : (ids_of l item).x.local_id < l.local.0
  local_below = mod-lt (column_of l item) whole.x.positive

  some_groups : 0 < (ids_of l item).x.group_count
  some_groups = factor_positive (l.global.0 / l.local.0) l.local.0 (subst (λ n. 0 < n) whole.x.divides (some_items l whole item within))

  -- a local map's turns, in whatever form
  local_turned : (n : ℕ) (B : TurnCode) (m : ℕ) (ts : List ℕ) → ((vs : List ℕ) (i : ℕ) → i < n → (code rest : Code) → B vs i code rest → total weight load store sync counts l item code ≡ m + total weight load store sync counts l item rest)
      → (f : MapForm) → MakesTurns f n l → (code rest : Code) → AreTurns l item ins f (Over level.Items dimension.X) ts n B code rest → total weight load store sync counts l item code ≡ turns_of (ids_of l item) (Over level.Items dimension.X) n * m + total weight load store sync counts l item rest
  local_turned n B m ts each Looped makes code rest h = turned weight load store sync counts l item turning (FromLocalId X) (ByLocalSize X) local_below n B m ts each Looped makes code rest h
  local_turned n B m ts each Guarded makes code rest h = turned weight load store sync counts l item turning (FromLocalId X) (ByLocalSize X) local_below n B m ts each Guarded makes code rest h
  local_turned n B m ts each Alone makes code rest h = turned weight load store sync counts l item turning (FromLocalId X) (ByLocalSize X) local_below n B m ts each Alone makes code rest h

  module _ {A : Type 0} (num : A → ℕ) (forms : MapForms A) (make : MakeTurns forms num l) (fence : ℕ → Fencing) (outer : MapForm) (turns i : ℕ) (below : i < turns) (turn : IsTurnOf l item (Over level.Groups dimension.X) i) where
    local_copies : (env : (turn var : ℕ) → Marks) (u : Used) (t : Term A) (code rest : Code) → IsGroupArgument num forms l ins fence outer turns env u t code rest → CopiesTo LocalMemory t
    local_copies env u (Bound v) code rest h = tt
    local_copies env u (Source v) code rest h = tt
    local_copies env u (Both true a b) code rest h = (local_copies env u a code h.0 h.1, local_copies env (used_after u a) b h.0 rest h.2)
    local_copies env u (Both false a b) code rest h = absurd h
    local_copies env u (Project s a) code rest h = local_copies env u a code rest h
    local_copies env u (Reshape y a) code rest h = local_copies env u a code rest h
    local_copies env u (LetArray v b) code rest h = (local_copies env u v code h.0 h.1, local_copies (λ j. push (marks_of num ins env u.locals v j) (env j)) (used_after u v) b h.0 rest h.2)
    local_copies env u (Copy LocalMemory ty a) code rest h = refl
    local_copies env u (Copy PrivateMemory ty a) code rest h = absurd h
    local_copies env u _ code rest h = absurd h

    lies : (env : (turn var : ℕ) → Marks) (regions : ℕ → Regions) (u : Used) (t : Term A) (code rest : Code) → AllLieIn (env i) regions → IsGroupArgument num forms l ins fence outer turns env u t code rest → LieIn (marks_of num ins env u.locals t i) (regions_of regions t)
    lies env regions u t code rest all h = argument_lies num ins inputs LocalMemory (env i) regions u.locals t all (local_copies env u t code rest h)

    -- the barriers before a phase
    abbrev before : ℕ → ℕ
    before q = sync * barriers_to fence q

    later : (p q r : ℕ) → sync * barriers_to fence (p + q + r) ≡ sync * barriers_to fence (p + (q + r))
    later p q r = ap (λ z. sync * barriers_to fence z) (let e : p + q + r ≡ p + (q + r) = omega arith in e)

    abbrev Argued : ((turn var : ℕ) → Marks) → (ℕ → Regions) → Used → Term A → (code rest : Code) → Type 0
    Argued env regions u t code rest =
        total weight load store sync counts l item code + sync * barriers_to fence u.phases
        ≡ argument_traffic load store num (ids_of l item) regions t + sync * barriers_to fence (u.phases + phases_in t) + total weight load store sync counts l item rest

    same : (u : Used) (code rest : Code) → code ≡ rest → total weight load store sync counts l item code + sync * barriers_to fence u.phases ≡ 0 + sync * barriers_to fence (u.phases + 0) + total weight load store sync counts l item rest
    same u code rest h = let e = ap (total weight load store sync counts l item) h in let f = later u.phases 0 0 in let g : sync * barriers_to fence (u.phases + 0) ≡ sync * barriers_to fence u.phases = ap (λ z. sync * barriers_to fence z) (let p : u.phases + 0 ≡ u.phases = omega arith in p) in omega arith

    distributed : (a b : ℕ) → sync * (a + b) ≡ sync * a + sync * b
    distributed a b = grind arith

    -- a local map, at the group's turn
    local_map : (env : (turn var : ℕ) → Marks) (regions : ℕ → Regions) (u : Used) (n : A) (loads : LoadSet) (marks : ℕ → Marks) (from : Regions) (b : Term A) (w : (turn : ℕ) → Marks) (r : Regions) (code rest : Code) → num n < 2 ^ 31 → AllLieIn (env i) regions → LieIn (marks i) from → LieIn (w i) r → IsLocalMap num forms l ins fence outer turns env u n loads marks b w code rest
        → total weight load store sync counts l item code
        ≡ turns_of (ids_of l item) (Over level.Items dimension.X) (num n) * (loads_in load loads from + written_traffic load store num (ids_of l item) (push (regions_left loads from) regions) b r) + total weight load store sync counts l item rest
    local_map env regions u n loads marks from b w r code rest short all lie goes h =
        local_turned (num n) _ (loads_in load loads from + written_traffic load store num (ids_of l item) (push (regions_left loads from) regions) b r) (variables_in outer [] i)
        (λ ts j lt body last t.
        let one = loaded weight load store sync counts l item ins ts loads (at_index j (marks i)) from u.variables body t.0 (λ cs q. lie cs (j ∷ q)) t.1 in
        let two = written_counts weight load store sync counts l item ins inputs turning num ts (push (loaded_marks loads (at_index j (marks i)) u.variables) (env i)) (push (regions_left loads from) regions) u.privates (more u.variables (load_count loads)) b (at_index j (w i)) r t.0 last
        (pushed (loaded_marks loads (at_index j (marks i)) u.variables) (regions_left loads from) (env i) regions (loaded_lies loads (at_index j (marks i)) from u.variables (λ cs q. lie cs (j ∷ q))) all)
        (λ cs q. goes cs (j ∷ q)) t.2 in
        omega arith) (forms.local n) (make.local n short) code rest (h item i within below turn)

    mutual
      group_argument : (env : (turn var : ℕ) → Marks) (regions : ℕ → Regions) (u : Used) (t : Term A) (code rest : Code) → HasShortLoops num t → AllLieIn (env i) regions → IsGroupArgument num forms l ins fence outer turns env u t code rest → Argued env regions u t code rest
      group_argument env regions u (Bound v) code rest few all h = same u code rest h
      group_argument env regions u (Source v) code rest few all h = same u code rest h
      group_argument env regions u (Both true a b) code rest few all h =
          let first = group_argument env regions u a code h.0 few.0 all h.1 in
          let second = group_argument env regions (used_after u a) b h.0 rest few.1 all h.2 in
          let e = later u.phases (phases_in a) (phases_in b) in
          omega arith
      group_argument env regions u (Both false a b) code rest few all h = absurd h
      group_argument env regions u (Project s a) code rest few all h = group_argument env regions u a code rest few all h
      group_argument env regions u (Reshape y a) code rest few all h = group_argument env regions u a code rest few all h
      group_argument env regions u (LetArray v b) code rest few all h =
          let first = group_argument env regions u v code h.0 few.0 all h.1 in
          let second = group_argument (λ j. push (marks_of num ins env u.locals v j) (env j)) (push (regions_of regions v) regions) (used_after u v) b h.0 rest few.1
          (pushed (marks_of num ins env u.locals v i) (regions_of regions v) (env i) regions (lies env regions u v code h.0 all h.1) all) h.2 in
          let e = later u.phases (phases_in v) (phases_in b) in
          omega arith
      group_argument env regions u (Copy LocalMemory ty a) code rest few all h =
          group_written env regions u a (λ j. laid_in LocalArray (u.locals + local_count a) ty) (all_in InLocal) code rest few all (laid_local (u.locals + local_count a) ty) h
      group_argument env regions u (Copy PrivateMemory ty a) code rest few all h = absurd h
      group_argument env regions u _ code rest few all h = absurd h

      group_written : (env : (turn var : ℕ) → Marks) (regions : ℕ → Regions) (u : Used) (t : Term A) (w : (turn : ℕ) → Marks) (r : Regions) (code rest : Code) → HasShortLoops num t → AllLieIn (env i) regions → LieIn (w i) r → IsGroupWritten num forms l ins fence outer turns env u t w code rest
          → total weight load store sync counts l item code + sync * barriers_to fence u.phases
          ≡ written_traffic load store num (ids_of l item) regions t r + sync * barriers_to fence (u.phases + phases_in t) + total weight load store sync counts l item rest
      group_written env regions u (Reshape y t) w r code rest few all goes h =
          group_written env regions u t (λ j cs p. w j cs (result_position num y p)) r code rest few all (λ cs p. goes cs (result_position num y p)) h.1
      group_written env regions u (LetArray v b) w r code rest few all goes h =
          let first = group_argument env regions u v code h.0 few.0 all h.1 in
          let second = group_written (λ j. push (marks_of num ins env u.locals v j) (env j)) (push (regions_of regions v) regions) (used_after u v) b w r h.0 rest few.1
          (pushed (marks_of num ins env u.locals v i) (regions_of regions v) (env i) regions (lies env regions u v code h.0 all h.1) all) goes h.2 in
          let e = later u.phases (phases_in v) (phases_in b) in
          omega arith
      group_written env regions u (Map (Over level.Items dimension.X) n loads xs b) w r code rest few all goes h =
          let first = group_argument env regions u xs code h.0 few.1 all h.2 in
          let fences = past weight load store sync counts l item (fence (u.phases + phases_in xs)) h.0 h.1 h.3 in
          let e : sync * barriers_to fence (u.phases + (phases_in xs + 1)) ≡ sync * (barriers_to fence (u.phases + phases_in xs) + bit (stands (fence (u.phases + phases_in xs)))) = ap (λ z. sync * barriers_to fence z) (let p : u.phases + (phases_in xs + 1) ≡ suc (u.phases + phases_in xs) = omega arith in p) in
          let f : sync * (barriers_to fence (u.phases + phases_in xs) + bit (stands (fence (u.phases + phases_in xs)))) ≡ sync * barriers_to fence (u.phases + phases_in xs) + sync * bit (stands (fence (u.phases + phases_in xs))) = distributed (barriers_to fence (u.phases + phases_in xs)) (bit (stands (fence (u.phases + phases_in xs)))) in
          let body = local_map env regions (used_after u xs) n loads (marks_of num ins env u.locals xs) (regions_of regions xs) b w r h.1 rest few.0 all (lies env regions u xs code h.0 all h.2) goes h.4 in
          omega arith
      group_written env regions u (Map (Over _ _) n loads xs b) w r code rest few all goes h = absurd h
      group_written env regions u (Map Sequential n loads xs b) w r code rest few all goes h = absurd h
      group_written env regions u _ w r code rest few all goes h = absurd h

  module _ {A : Type 0} (num : A → ℕ) (forms : MapForms A) (make : MakeTurns forms num l) (fence : ℕ → Fencing) where
    -- what a turn of the map over groups counts
    abbrev each_turn : (regions : ℕ → Regions) → LoadSet → (from : Regions) → Term A → Regions → ℕ
    each_turn regions loads from b r =
        loads_in load loads from + written_traffic load store num (ids_of l item) (push (regions_left loads from) regions) b r + sync * barriers_to fence (suc (phases_in b))

    turn_counts : (outer : MapForm) (turns i : ℕ) → i < turns → IsTurnOf l item (Over level.Groups dimension.X) i → (env : ℕ → Marks) (regions : ℕ → Regions) (loads : LoadSet) (marks : Marks) (from : Regions) (b : Term A) (w : Marks) (r : Regions) (body : Code)
        → HasShortLoops num b → AllLieIn env regions → LieIn marks from → LieIn w r → IsGroupTurn num forms l ins fence outer turns env loads marks b w body → total weight load store sync counts l item body ≡ each_turn regions loads from b r
    turn_counts outer turns i below turn env regions loads marks from b w r body few all lie goes h =
        let one = loaded weight load store sync counts l item ins (variables_in outer [] i) loads (at_index i marks) from no_variables body h.0 (λ cs q. lie cs (i ∷ q)) (h.2 item i within below turn) in
        let inner = λ (j : ℕ). push (loaded_marks loads (at_index j marks) no_variables) env in
        let two = group_written num forms make fence outer turns i below turn (λ j. push (loaded_marks loads (at_index j marks) no_variables) env) (push (regions_left loads from) regions)
        (record { locals = 0; privates = 0; variables = load_count loads; phases = 0 }) b (λ j. at_index j w) r h.0 h.1 few
        (pushed (loaded_marks loads (at_index i marks) no_variables) (regions_left loads from) env regions (loaded_lies loads (at_index i marks) from no_variables (λ cs q. lie cs (i ∷ q))) all) (λ cs q. goes cs (i ∷ q)) h.3 in
        let last = past weight load store sync counts l item (fence (phases_in b)) h.1 End h.4 in
        let none : sync * barriers_to fence 0 ≡ 0 = omega arith in
        let here : sync * barriers_to fence (0 + phases_in b) ≡ sync * barriers_to fence (phases_in b) = ap (λ z. sync * barriers_to fence z) (let e : 0 + phases_in b ≡ phases_in b = omega arith in e) in
        let added = distributed num forms make fence outer turns i below turn (barriers_to fence (phases_in b)) (bit (stands (fence (phases_in b)))) in
        omega arith

    pub over_groups : (env : ℕ → Marks) (regions : ℕ → Regions) (t : Term A) (w : Marks) (r : Regions) (code : Code) → StandsOverGroups t → HasShortLoops num t → AllLieIn env regions → LieIn w r → IsOverGroups num forms l ins fence env t w code
        → total weight load store sync counts l item code ≡ written_traffic load store num (ids_of l item) regions t r + sync * releases_of num (ids_of l item) fence t
    over_groups env regions (Reshape y t) w r code stand few all goes h =
        over_groups env regions t (λ cs p. w cs (result_position num y p)) r code stand.1 few all (λ cs p. goes cs (result_position num y p)) h.1
    over_groups env regions (LetArray v b) w r code stand few all goes h =
        let rest = over_groups (push (argument_marks l ins num env 0 v) env) (push (regions_of regions v) regions) b w r code stand.1 few.1
        (pushed (argument_marks l ins num env 0 v) (regions_of regions v) env regions (argument_lies num ins inputs PrivateMemory env regions 0 v all (of_inputs PrivateMemory v stand.0)) all) goes h in
        let none = idle load store num l item regions v stand.0 in
        omega arith
    over_groups env regions (Map (Over level.Groups dimension.X) n loads xs b) w r code stand few all goes h =
        let lie = argument_lies num ins inputs PrivateMemory env regions 0 xs all (of_inputs PrivateMemory xs stand.0) in
        let none = idle load store num l item regions xs stand.0 in
        let made = over_form weight load store sync counts l item turning (FromGroupId X) (ByGroupCount X) some_groups (forms.once n) (num n) (make.once n) h.0 h.1 (each_turn regions loads (regions_of regions xs) b r) h.3
        (λ i below turn. turn_counts (form_over_groups (forms.once n)) (num n) i below turn env regions loads (argument_marks l ins num env 0 xs) (regions_of regions xs) b w r h.1 few.2 all lie goes h.4) in
        let is = ap (total weight load store sync counts l item) h.2 in
        let t = turns_of (ids_of l item) (Over level.Groups dimension.X) (num n) in
        let m = loads_in load loads (regions_of regions xs) + written_traffic load store num (ids_of l item) (push (regions_left loads (regions_of regions xs)) regions) b r in
        let s = barriers_to fence (suc (phases_in b)) in
        let e : t * (m + sync * s) ≡ t * m + sync * (t * s) = parted t m s in
        omega arith
      where
        parted : (t m s : ℕ) → t * (m + sync * s) ≡ t * m + sync * (t * s)
        parted t m s = grind arith
    over_groups env regions _ w r code stand few all goes h = absurd stand
