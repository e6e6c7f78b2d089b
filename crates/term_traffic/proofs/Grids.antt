-- What the code of a map over rows of work-groups counts, with its barriers.
use Rattle.std.proofs.Common.{◌≡◌, ℕ, suc, ◌+◌, ◌*◌, ◌/◌, ◌%◌, ◌<◌, ◌^◌, true, false, List, [], ◌∷◌, refl, sym, ap, subst, arith}
use Rattle.std.proofs.Math.Nat.{mod-lt}
use Rattle.std.proofs.lemmas.Nat.{div-mul-add, mod-mul-add}
use Rattle.lift_tree.specs.declared.term.Level.TheVariants.{Groups, Items}
use Rattle.lift_tree.specs.declared.term.Dimension.TheVariants as dimension
use Rattle.kernel_tree.specs.declared.tree.Dimension.TheVariants.{X, Y}
use Rattle.kernel_tree.specs.Code.{Local as LocalArray, FromGroupId, FromLocalId, ByGroupCount, ByLocalSize, Statement, Code, End}
use Rattle.kernel_tree.specs.Launch.{Launch, IsWhole, item_count, ids_of, column_of, row_of}
use Rattle.kernel_tree.proofs.Grouping.{some_items}
use Rattle.barrier_placement.specs.Fencing.{Fencing, stands}
use Rattle.barrier_placement.specs.Separates.{bit}
use Rattle.lift_ir.specs.Layouts.{result_position}
use Rattle.lift_ir.specs.Terms.{LoadSet, Over, LocalMemory, PrivateMemory, Term, Bound, Source, Both, Project, Reshape, LetArray, Map, Copy, push}
use Rattle.lift_ir.specs.Scalars.{at_index}
use Rattle.printed_form.specs.Arguments.{marks_in, local_arrays}
use Rattle.printed_form.specs.Counts.{Count, more, no_variables, load_count, variable_count, private_count, local_count}
use Rattle.printed_form.specs.Form.{argument_marks}
use Rattle.printed_form.specs.MapForms.{MapForm, form_over_groups, variables_in}
use Rattle.printed_form.specs.Marks.{Marks, laid_in, loaded_marks}
use Rattle.group_phases.specs.GridPhases.{IsGroupRow, IsGroupColumn}
use Rattle.group_phases.specs.Grids.{Grid, places}
use Rattle.group_phases.proofs.Grids.{pair_below}
use Rattle.group_form.specs.Form.{Used, used_after}
use Rattle.group_form.specs.GridForm.{around_turn, IsAlongRow, IsLocalNest, IsGridArgument, IsGridWritten, IsGridTurn, IsAlongGroups, IsOverGrid}
use Rattle.group_form.specs.GridTerms.{GridForms, StandsAlongRow, StandsInGrid, StandsAlongGroups, StandsOverGrid}
use Rattle.group_form.specs.GridTheorem.{MakeGridTurns, phases_along}
use Rattle.group_form.specs.Stages.{marks_of}
use Rattle.group_form.specs.Uses.{phases_in}
use Rattle.kernel_traffic.specs.Laws.{TurnsGoOneByOne}
use Rattle.term_traffic.specs.Regions.{Region, InGlobal, InLocal, Regions, all_in, regions_of, regions_left}
use Rattle.term_traffic.specs.Short.{HasShortLoops}
use Rattle.term_traffic.specs.Traffic.{turns_of, loads_in, argument_traffic, written_traffic, barriers_to, row_turns, releases_of}
use Rattle.term_traffic.proofs.Codes.{Counts, LieIn, AllLieIn, pushed, loaded_lies, total, loaded}
use Rattle.term_traffic.proofs.Items.{CopiesTo, argument_lies, written_counts}
use Rattle.term_traffic.proofs.Groups.{factor_positive, idle, laid_local, of_inputs}
use Rattle.term_traffic.proofs.Turned.{past, turned, over_form}

-- the copies of an argument are to local memory
grid_copies : {A : Type 0} (t : Term A) → StandsInGrid false t → CopiesTo LocalMemory t
grid_copies (Bound v) h = tt
grid_copies (Source v) h = tt
grid_copies (Both true a b) h = (grid_copies a h.0, grid_copies b h.1)
grid_copies (Both false a b) h = absurd h
grid_copies (Project s a) h = grid_copies a h
grid_copies (Reshape y a) h = grid_copies a h
grid_copies (LetArray v b) h = (grid_copies v h.0, grid_copies b h.1)
grid_copies (Copy LocalMemory ty a) h = refl
grid_copies (Copy PrivateMemory ty a) h = absurd h
grid_copies _ h = absurd h

other_positive : (n m : ℕ) → 0 < n * m → 0 < m
other_positive n m h = grind arith

module _ (weight : Statement → ℕ) (load store : Region → ℕ) (sync : ℕ) (counts : Counts weight load store sync) (l : Launch) (whole : IsWhole l) (item : ℕ) (within : item < item_count l) (ins : ℕ → Marks) (inputs : AllLieIn ins (λ v. all_in InGlobal)) (turning : TurnsGoOneByOne) where
  column_below : (ids_of l item).x.local_id < l.local.0
  column_below = mod-lt (column_of l item) whole.x.positive

  row_below : (ids_of l item).y.local_id < l.local.1
  row_below = mod-lt (row_of l item) whole.y.positive

  some_columns : 0 < (ids_of l item).x.group_count
  some_columns = factor_positive (l.global.0 / l.local.0) l.local.0 (subst (λ n. 0 < n) whole.x.divides (some_items l whole item within))

  some_rows : 0 < (ids_of l item).y.group_count
  some_rows =
      let rows : 0 < l.global.1 = other_positive l.global.0 l.global.1 (omega arith) in
      factor_positive (l.global.1 / l.local.1) l.local.1 (subst (λ n. 0 < n) whole.y.divides rows)

  distributed : (a b : ℕ) → sync * (a + b) ≡ sync * a + sync * b
  distributed a b = grind arith

  module _ {A : Type 0} (num : A → ℕ) (forms : GridForms A) (make : MakeGridTurns forms num l) where
    -- a map along a row of a group
    along_row : (k a : ℕ) (n : Count) (env : ℕ → Marks) (regions : ℕ → Regions) (t : Term A) (w : Marks) (r : Regions) (ts : List ℕ) (row : ℕ) (code rest : Code) → StandsAlongRow t → HasShortLoops num t → AllLieIn env regions → LieIn w r → IsAlongRow num forms l ins item k a n env t w ts row code rest
        → total weight load store sync counts l item code ≡ written_traffic load store num (ids_of l item) regions t r + total weight load store sync counts l item rest
    along_row k a n env regions (Reshape y t) w r ts row code rest stand few all goes h =
        along_row k a n env regions t (λ cs p. w cs (result_position num y p)) r ts row code rest stand.1 few all (λ cs p. goes cs (result_position num y p)) h.1
    along_row k a n env regions (Map (Over Items dimension.X) m loads xs b) w r ts row code rest stand few all goes h =
        let none = idle load store num l item regions xs stand.0 in
        let lie = argument_lies num ins inputs LocalMemory env regions k xs all (of_inputs LocalMemory xs stand.0) in
        let made = turned weight load store sync counts l item turning (FromLocalId X) (ByLocalSize X) column_below (num m) _ (loads_in load loads (regions_of regions xs) + written_traffic load store num (ids_of l item) (push (regions_left loads (regions_of regions xs)) regions) b r) ts
        (λ us j lt before after t.
        let one = loaded weight load store sync counts l item ins us loads (at_index j (marks_in local_arrays num ins env k xs)) (regions_of regions xs) (more n (variable_count xs)) before t.0 (λ cs q. lie cs (j ∷ q)) t.1 in
        let two = written_counts weight load store sync counts l item ins inputs turning num us (push (loaded_marks loads (at_index j (marks_in local_arrays num ins env k xs)) (more n (variable_count xs))) env) (push (regions_left loads (regions_of regions xs)) regions) (a + private_count xs) (more (more n (variable_count xs)) (load_count loads)) b (at_index j w) r t.0 after
        (pushed (loaded_marks loads (at_index j (marks_in local_arrays num ins env k xs)) (more n (variable_count xs))) (regions_left loads (regions_of regions xs)) env regions (loaded_lies loads (at_index j (marks_in local_arrays num ins env k xs)) (regions_of regions xs) (more n (variable_count xs)) (λ cs q. lie cs (j ∷ q))) all)
        (λ cs q. goes cs (j ∷ q)) t.2 in
        omega arith) (forms.columns.local m) (make.columns m few.0) code rest h in
        omega arith
    along_row k a n env regions _ w r ts row code rest stand few all goes h = absurd stand

    module _ (fence : ℕ → Fencing) (rows_form columns_form : MapForm) (grid : Grid) (i : ℕ) (below : i < places grid) (in_row : IsGroupRow l item (i / grid.columns)) (in_column : IsGroupColumn l item (i % grid.columns)) where
      -- a local map over rows, at the group's turn
      local_nest : (env : (turn var : ℕ) → Marks) (regions : ℕ → Regions) (u : Used) (n : A) (loads : LoadSet) (marks : ℕ → Marks) (from : Regions) (b : Term A) (w : (turn : ℕ) → Marks) (r : Regions) (code rest : Code) → num n < 2 ^ 31 → StandsAlongRow b → HasShortLoops num b → AllLieIn (env i) regions → LieIn (marks i) from → LieIn (w i) r
          → IsLocalNest num forms l ins fence rows_form columns_form grid env u n loads marks b w code rest
          → total weight load store sync counts l item code
          ≡ turns_of (ids_of l item) (Over Items dimension.Y) (num n) * (loads_in load loads from + written_traffic load store num (ids_of l item) (push (regions_left loads from) regions) b r) + total weight load store sync counts l item rest
      local_nest env regions u n loads marks from b w r code rest short stand few all lie goes h =
          turned weight load store sync counts l item turning (FromLocalId Y) (ByLocalSize Y) row_below (num n) _ (loads_in load loads from + written_traffic load store num (ids_of l item) (push (regions_left loads from) regions) b r) (around_turn num forms l ins fence rows_form columns_form grid i)
          (λ ts j lt before after t.
          let one = loaded weight load store sync counts l item ins ts loads (at_index j (marks i)) from u.variables before t.0 (λ cs q. lie cs (j ∷ q)) t.1 in
          let two = along_row u.locals u.privates (more u.variables (load_count loads)) (push (loaded_marks loads (at_index j (marks i)) u.variables) (env i)) (push (regions_left loads from) regions) b (at_index j (w i)) r ts j t.0 after stand few
          (pushed (loaded_marks loads (at_index j (marks i)) u.variables) (regions_left loads from) (env i) regions (loaded_lies loads (at_index j (marks i)) from u.variables (λ cs q. lie cs (j ∷ q))) all)
          (λ cs q. goes cs (j ∷ q)) t.2 in
          omega arith) (forms.rows.local n) (make.rows n short) code rest (h item i within below in_row in_column)

      lies : (env : (turn var : ℕ) → Marks) (regions : ℕ → Regions) (u : Used) (t : Term A) → AllLieIn (env i) regions → StandsInGrid false t → LieIn (marks_of num ins env u.locals t i) (regions_of regions t)
      lies env regions u t all stand = argument_lies num ins inputs LocalMemory (env i) regions u.locals t all (grid_copies t stand)

      later : (p q r : ℕ) → sync * barriers_to fence (p + q + r) ≡ sync * barriers_to fence (p + (q + r))
      later p q r = ap (λ z. sync * barriers_to fence z) (let e : p + q + r ≡ p + (q + r) = omega arith in e)

      abbrev Argued : ((turn var : ℕ) → Marks) → (ℕ → Regions) → Used → Term A → (code rest : Code) → Type 0
      Argued env regions u t code rest =
          total weight load store sync counts l item code + sync * barriers_to fence u.phases
          ≡ argument_traffic load store num (ids_of l item) regions t + sync * barriers_to fence (u.phases + phases_in t) + total weight load store sync counts l item rest

      same : (u : Used) (code rest : Code) → code ≡ rest → total weight load store sync counts l item code + sync * barriers_to fence u.phases ≡ 0 + sync * barriers_to fence (u.phases + 0) + total weight load store sync counts l item rest
      same u code rest h = let e = ap (total weight load store sync counts l item) h in let g : sync * barriers_to fence (u.phases + 0) ≡ sync * barriers_to fence u.phases = ap (λ z. sync * barriers_to fence z) (let p : u.phases + 0 ≡ u.phases = omega arith in p) in omega arith

      mutual
        grid_argument : (env : (turn var : ℕ) → Marks) (regions : ℕ → Regions) (u : Used) (t : Term A) (code rest : Code) → StandsInGrid false t → HasShortLoops num t → AllLieIn (env i) regions → IsGridArgument num forms l ins fence rows_form columns_form grid env u t code rest → Argued env regions u t code rest
        grid_argument env regions u (Bound v) code rest stand few all h = same u code rest h
        grid_argument env regions u (Source v) code rest stand few all h = same u code rest h
        grid_argument env regions u (Both true a b) code rest stand few all h =
            let first = grid_argument env regions u a code h.0 stand.0 few.0 all h.1 in
            let second = grid_argument env regions (used_after u a) b h.0 rest stand.1 few.1 all h.2 in
            let e = later u.phases (phases_in a) (phases_in b) in
            omega arith
        grid_argument env regions u (Both false a b) code rest stand few all h = absurd h
        grid_argument env regions u (Project s a) code rest stand few all h = grid_argument env regions u a code rest stand few all h
        grid_argument env regions u (Reshape y a) code rest stand few all h = grid_argument env regions u a code rest stand few all h
        grid_argument env regions u (LetArray v b) code rest stand few all h =
            let first = grid_argument env regions u v code h.0 stand.0 few.0 all h.1 in
            let second = grid_argument (λ j. push (marks_of num ins env u.locals v j) (env j)) (push (regions_of regions v) regions) (used_after u v) b h.0 rest stand.1 few.1
            (pushed (marks_of num ins env u.locals v i) (regions_of regions v) (env i) regions (lies env regions u v all stand.0) all) h.2 in
            let e = later u.phases (phases_in v) (phases_in b) in
            omega arith
        grid_argument env regions u (Copy LocalMemory ty a) code rest stand few all h =
            grid_written env regions u a (λ j. laid_in LocalArray (u.locals + local_count a) ty) (all_in InLocal) code rest stand few all (laid_local (u.locals + local_count a) ty) h
        grid_argument env regions u (Copy PrivateMemory ty a) code rest stand few all h = absurd h
        grid_argument env regions u _ code rest stand few all h = absurd h

        grid_written : (env : (turn var : ℕ) → Marks) (regions : ℕ → Regions) (u : Used) (t : Term A) (w : (turn : ℕ) → Marks) (r : Regions) (code rest : Code) → StandsInGrid true t → HasShortLoops num t → AllLieIn (env i) regions → LieIn (w i) r → IsGridWritten num forms l ins fence rows_form columns_form grid env u t w code rest
            → total weight load store sync counts l item code + sync * barriers_to fence u.phases
            ≡ written_traffic load store num (ids_of l item) regions t r + sync * barriers_to fence (u.phases + phases_in t) + total weight load store sync counts l item rest
        grid_written env regions u (Reshape y t) w r code rest stand few all goes h =
            grid_written env regions u t (λ j cs p. w j cs (result_position num y p)) r code rest stand.1 few all (λ cs p. goes cs (result_position num y p)) h.1
        grid_written env regions u (LetArray v b) w r code rest stand few all goes h =
            let first = grid_argument env regions u v code h.0 stand.0 few.0 all h.1 in
            let second = grid_written (λ j. push (marks_of num ins env u.locals v j) (env j)) (push (regions_of regions v) regions) (used_after u v) b w r h.0 rest stand.1 few.1
            (pushed (marks_of num ins env u.locals v i) (regions_of regions v) (env i) regions (lies env regions u v all stand.0) all) goes h.2 in
            let e = later u.phases (phases_in v) (phases_in b) in
            omega arith
        grid_written env regions u (Map (Over Items dimension.Y) n loads xs b) w r code rest stand few all goes h =
            let first = grid_argument env regions u xs code h.0 stand.0 few.1 all h.2 in
            let fences = past weight load store sync counts l item (fence (u.phases + phases_in xs)) h.0 h.1 h.3 in
            let e : sync * barriers_to fence (u.phases + (phases_in xs + 1)) ≡ sync * (barriers_to fence (u.phases + phases_in xs) + bit (stands (fence (u.phases + phases_in xs)))) = ap (λ z. sync * barriers_to fence z) (let p : u.phases + (phases_in xs + 1) ≡ suc (u.phases + phases_in xs) = omega arith in p) in
            let f : sync * (barriers_to fence (u.phases + phases_in xs) + bit (stands (fence (u.phases + phases_in xs)))) ≡ sync * barriers_to fence (u.phases + phases_in xs) + sync * bit (stands (fence (u.phases + phases_in xs))) = distributed (barriers_to fence (u.phases + phases_in xs)) (bit (stands (fence (u.phases + phases_in xs)))) in
            let body = local_nest env regions (used_after u xs) n loads (marks_of num ins env u.locals xs) (regions_of regions xs) b w r h.1 rest few.0 stand.1 few.2 all (lies env regions u xs all stand.0) goes h.4 in
            omega arith
        grid_written env regions u _ w r code rest stand few all goes h = absurd stand

      -- what a turn of the maps over groups counts
      turn_counts : (n : Count) (env : (turn var : ℕ) → Marks) (regions : ℕ → Regions) (loads : LoadSet) (marks : ℕ → Marks) (from : Regions) (b : Term A) (w : (turn : ℕ) → Marks) (r : Regions) (body : Code)
          → StandsInGrid true b → HasShortLoops num b → AllLieIn (env i) regions → LieIn (marks i) from → LieIn (w i) r → IsGridTurn num forms l ins fence rows_form columns_form grid n env loads marks b w body
          → total weight load store sync counts l item body ≡ loads_in load loads from + written_traffic load store num (ids_of l item) (push (regions_left loads from) regions) b r + sync * barriers_to fence (suc (phases_in b))
      turn_counts n env regions loads marks from b w r body stand few all lie goes h =
          let one = loaded weight load store sync counts l item ins (around_turn num forms l ins fence rows_form columns_form grid i) loads (marks i) from n body h.0 lie (h.2 item i within below in_row in_column) in
          let two = grid_written (λ j. push (loaded_marks loads (marks j) n) (env j)) (push (regions_left loads from) regions)
          (record { locals = 0; privates = 0; variables = more n (load_count loads); phases = 0 }) b w r h.0 h.1 stand few
          (pushed (loaded_marks loads (marks i) n) (regions_left loads from) (env i) regions (loaded_lies loads (marks i) from n lie) all) goes h.3 in
          let last = past weight load store sync counts l item (fence (phases_in b)) h.1 End h.4 in
          let none : sync * barriers_to fence 0 ≡ 0 = omega arith in
          let here : sync * barriers_to fence (0 + phases_in b) ≡ sync * barriers_to fence (phases_in b) = ap (λ z. sync * barriers_to fence z) (let e : 0 + phases_in b ≡ phases_in b = omega arith in e) in
          let added = distributed (barriers_to fence (phases_in b)) (bit (stands (fence (phases_in b)))) in
          omega arith

    parted : (t m s : ℕ) → t * (m + sync * s) ≡ t * m + sync * (t * s)
    parted t m s = grind arith

    module _ (fence : ℕ → Fencing) where
      -- a map over the groups of a row, at one of its group's rows
      along_groups : (rows_form : MapForm) (rows : ℕ) (n : Count) (env : (row var : ℕ) → Marks) (regions : ℕ → Regions) (t : Term A) (w : (row : ℕ) → Marks) (r : Regions) (code : Code) (row : ℕ) → row < rows → IsGroupRow l item row → StandsAlongGroups t → HasShortLoops num t → ((q : ℕ) → AllLieIn (env q) regions) → ((q : ℕ) → LieIn (w q) r)
          → IsAlongGroups num forms l ins fence rows_form rows n env t w code
          → total weight load store sync counts l item code ≡ written_traffic load store num (ids_of l item) regions t r + sync * (row_turns num (ids_of l item) t * barriers_to fence (suc (phases_along t)))
      along_groups rows_form rows n env regions (Reshape y t) w r code row inside in_row stand few all goes h =
          along_groups rows_form rows n env regions t (λ q cs p. w q cs (result_position num y p)) r code row inside in_row stand.1 few all (λ q cs p. goes q cs (result_position num y p)) h.1
      along_groups rows_form rows n env regions (Map (Over Groups dimension.X) m loads xs b) w r code row inside in_row stand few all goes h =
          let lie = λ (q : ℕ). argument_lies num ins inputs PrivateMemory (env q) regions 0 xs (all q) (of_inputs PrivateMemory xs stand.0) in
          let none = idle load store num l item regions xs stand.0 in
          let made = over_form weight load store sync counts l item turning (FromGroupId X) (ByGroupCount X) some_columns (forms.columns.once m) (num m) (make.one_column m) h.0 h.1
          (loads_in load loads (regions_of regions xs) + written_traffic load store num (ids_of l item) (push (regions_left loads (regions_of regions xs)) regions) b r + sync * barriers_to fence (suc (phases_in b))) h.3
          (λ j lt turn. turn_counts fence rows_form (form_over_groups (forms.columns.once m)) (record { rows = rows; columns = num m }) (row * num m + j) (pair_below row j rows (num m) inside lt)
          (subst (IsGroupRow l item) (sym (div-mul-add row (num m) j lt)) in_row) (subst (IsGroupColumn l item) (sym (mod-mul-add row (num m) j lt)) turn)
          n (λ i. env (i / num m)) regions loads (λ i. at_index (i % num m) (argument_marks l ins num (env (i / num m)) 0 xs)) (regions_of regions xs) b (λ i. at_index (i % num m) (w (i / num m))) r h.1
          stand.1 few.2 (all ((row * num m + j) / num m)) (λ cs q. lie ((row * num m + j) / num m) cs ((row * num m + j) % num m ∷ q)) (λ cs q. goes ((row * num m + j) / num m) cs ((row * num m + j) % num m ∷ q)) h.4) in
          let is = ap (total weight load store sync counts l item) h.2 in
          let t = turns_of (ids_of l item) (Over Groups dimension.X) (num m) in
          let each = loads_in load loads (regions_of regions xs) + written_traffic load store num (ids_of l item) (push (regions_left loads (regions_of regions xs)) regions) b r in
          let s = barriers_to fence (suc (phases_in b)) in
          let e : t * (each + sync * s) ≡ t * each + sync * (t * s) = parted t each s in
          omega arith
      along_groups rows_form rows n env regions _ w r code row inside in_row stand few all goes h = absurd stand

      pub over_grid : (env : ℕ → Marks) (regions : ℕ → Regions) (t : Term A) (w : Marks) (r : Regions) (code : Code) → StandsOverGrid t → HasShortLoops num t → AllLieIn env regions → LieIn w r → IsOverGrid num forms l ins fence env t w code
          → total weight load store sync counts l item code ≡ written_traffic load store num (ids_of l item) regions t r + sync * releases_of num (ids_of l item) fence t
      over_grid env regions (Reshape y t) w r code stand few all goes h =
          over_grid env regions t (λ cs p. w cs (result_position num y p)) r code stand.1 few all (λ cs p. goes cs (result_position num y p)) h.1
      over_grid env regions (LetArray v b) w r code stand few all goes h =
          let rest = over_grid (push (argument_marks l ins num env 0 v) env) (push (regions_of regions v) regions) b w r code stand.1 few.1
          (pushed (argument_marks l ins num env 0 v) (regions_of regions v) env regions (argument_lies num ins inputs PrivateMemory env regions 0 v all (of_inputs PrivateMemory v stand.0)) all) goes h in
          let none = idle load store num l item regions v stand.0 in
          omega arith
      over_grid env regions (Map (Over Groups dimension.Y) n loads xs b) w r code stand few all goes h =
          let lie = argument_lies num ins inputs PrivateMemory env regions 0 xs all (of_inputs PrivateMemory xs stand.0) in
          let none = idle load store num l item regions xs stand.0 in
          let m = loads_in load loads (regions_of regions xs) + written_traffic load store num (ids_of l item) (push (regions_left loads (regions_of regions xs)) regions) b r in
          let s = row_turns num (ids_of l item) b * barriers_to fence (suc (phases_along b)) in
          let made = over_form weight load store sync counts l item turning (FromGroupId Y) (ByGroupCount Y) some_rows (forms.rows.once n) (num n) (make.one_row n) h.0 h.1
          (loads_in load loads (regions_of regions xs) + written_traffic load store num (ids_of l item) (push (regions_left loads (regions_of regions xs)) regions) b r + sync * (row_turns num (ids_of l item) b * barriers_to fence (suc (phases_along b)))) h.4
          (λ j lt turn.
          let one = loaded weight load store sync counts l item ins (variables_in (form_over_groups (forms.rows.once n)) [] j) loads (at_index j (argument_marks l ins num env 0 xs)) (regions_of regions xs) no_variables h.1 h.2 (λ cs q. lie cs (j ∷ q)) (h.5 item j within lt turn) in
          let two = along_groups (form_over_groups (forms.rows.once n)) (num n) (load_count loads) (λ q. push (loaded_marks loads (at_index q (argument_marks l ins num env 0 xs)) no_variables) env) (push (regions_left loads (regions_of regions xs)) regions) b (λ q. at_index q w) r h.2 j lt turn stand.1 few.2
          (λ q. pushed (loaded_marks loads (at_index q (argument_marks l ins num env 0 xs)) no_variables) (regions_left loads (regions_of regions xs)) env regions (loaded_lies loads (at_index q (argument_marks l ins num env 0 xs)) (regions_of regions xs) no_variables (λ cs p. lie cs (q ∷ p))) all)
          (λ q cs p. goes cs (q ∷ p)) h.6 in
          omega arith) in
          let is = ap (total weight load store sync counts l item) h.3 in
          let t = turns_of (ids_of l item) (Over Groups dimension.Y) (num n) in
          let e : t * (m + sync * s) ≡ t * m + sync * (t * s) = parted t m s in
          let f : sync * (t * s) ≡ sync * releases_of num (ids_of l item) fence (Map (Over Groups dimension.Y) n loads xs b) = ap (λ z. sync * z) (together t (row_turns num (ids_of l item) b) (barriers_to fence (suc (phases_along b)))) in
          omega arith
        where
          together : (a b c : ℕ) → a * (b * c) ≡ a * b * c
          together a b c = grind arith
      over_grid env regions _ w r code stand few all goes h = absurd stand
