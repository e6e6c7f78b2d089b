-- What the code of a term counts that work-items run each by itself.
use Rattle.std.proofs.Common.{◌≡◌, ℕ, ◌+◌, ◌*◌, true, false, List, [], ◌∷◌, ◌++◌, refl, ap, ◌∙◌, arith}
use Rattle.lift_tree.specs.declared.term.Level.TheVariants as level
use Rattle.lift_tree.specs.declared.term.Dimension.TheVariants.{X, Y}
use Rattle.kernel_tree.specs.Code.{Private, Statement, Code, End}
use Rattle.kernel_tree.specs.Launch.{Launch, ids_of}
use Rattle.lift_ir.specs.Types.{Ty, Scalar, PairOf, ArrayOf}
use Rattle.lift_ir.specs.Layouts.{operand_position, result_position}
use Rattle.lift_ir.specs.Terms.{LoadSet, Skip, Take, TakeFour, Each, Over, Sequential, Space, LocalMemory, PrivateMemory, Term, Bound, Source, Both, Project, Reshape, LetArray, LetElement, Map, Fold, Store, Copy, push}
use Rattle.lift_ir.specs.Scalars.{at_index}
use Rattle.printed_form.specs.Arguments.{private_arrays, local_arrays, arrays_of, marks_in}
use Rattle.printed_form.specs.Counts.{Count, more, held_count, let_variables, load_count, variable_count, private_count}
use Rattle.printed_form.specs.Expressions.{held, exprs}
use Rattle.printed_form.specs.Form.{argument_marks, IsArgumentWork, IsWritten, IsFoldTurn}
use Rattle.printed_form.specs.Marks.{Marks, laid_in, held_marks, loaded_marks}
use Rattle.printed_form.specs.Whole.{IsAlongRow, IsOverLaunch}
use Rattle.kernel_traffic.specs.Laws.{TurnsGoOneByOne}
use Rattle.term_traffic.specs.Regions.{Region, NoMemory, InGlobal, InPrivate, region_in, Regions, all_in, regions_of, regions_left}
use Rattle.term_traffic.specs.Traffic.{turns_of, loads_in, stores_in, argument_traffic, written_traffic, uncounted}
use Rattle.term_traffic.proofs.Codes.{Counts, LieIn, AllLieIn, pushed, side_lies, held_lies, loaded_lies, total, assigned, reassigned, element_work, stored, loaded, looped}

-- all copies that an argument makes are to one space
abbrev pub CopiesTo : {A : Type 0} → Space → Term A → Type 0
CopiesTo s (Both zips a b) = CopiesTo s a × CopiesTo s b
CopiesTo s (Project second a) = CopiesTo s a
CopiesTo s (Reshape y a) = CopiesTo s a
CopiesTo s (LetArray v b) = CopiesTo s v × CopiesTo s b
CopiesTo s (Copy space ty a) = space ≡ s
CopiesTo s _ = Unit {0}

laid_private : (first : ℕ) (ty : Ty) → LieIn (laid_in Private first ty) (all_in InPrivate)
laid_private first ty cs q = refl

-- what stands for an argument lies where its regions say
module _ {A : Type 0} (num : A → ℕ) (ins : ℕ → Marks) (inputs : AllLieIn ins (λ v. all_in InGlobal)) where
  pub argument_lies : (s : Space) (env : ℕ → Marks) (regions : ℕ → Regions) (a : ℕ) (t : Term A) → AllLieIn env regions → CopiesTo s t → LieIn (marks_in (arrays_of s) num ins env a t) (regions_of regions t)
  argument_lies s env regions a (Bound v) all c = all v
  argument_lies s env regions a (Source v) all c = inputs v
  argument_lies LocalMemory env regions a (Both zips x y) all c =
      side_lies (marks_in local_arrays num ins env a x) (marks_in local_arrays num ins env (a + local_arrays.count x) y) (regions_of regions x) (regions_of regions y) (argument_lies LocalMemory env regions a x all c.0) (argument_lies LocalMemory env regions (a + local_arrays.count x) y all c.1)
  argument_lies PrivateMemory env regions a (Both zips x y) all c =
      side_lies (marks_in private_arrays num ins env a x) (marks_in private_arrays num ins env (a + private_count x) y) (regions_of regions x) (regions_of regions y) (argument_lies PrivateMemory env regions a x all c.0) (argument_lies PrivateMemory env regions (a + private_count x) y all c.1)
  argument_lies s env regions a (Project second x) all c = λ cs q. argument_lies s env regions a x all c (second ∷ cs) q
  argument_lies s env regions a (Reshape y x) all c = λ cs q. argument_lies s env regions a x all c cs (operand_position num y q)
  argument_lies s env regions a (LetArray v b) all c =
      argument_lies s (push (marks_in (arrays_of s) num ins env a v) env) (push (regions_of regions v) regions) (a + (arrays_of s).count v) b
      (pushed (marks_in (arrays_of s) num ins env a v) (regions_of regions v) env regions (argument_lies s env regions a v all c.0) all) c.1
  argument_lies LocalMemory env regions a (Copy LocalMemory ty x) all c = λ cs q. refl
  argument_lies LocalMemory env regions a (Copy PrivateMemory ty x) all c = absurd (cc)
  argument_lies PrivateMemory env regions a (Copy LocalMemory ty x) all c = absurd (cc)
  argument_lies PrivateMemory env regions a (Copy PrivateMemory ty x) all c = λ cs q. refl
  argument_lies s env regions a _ all c = λ cs q. refl

module _ (weight : Statement → ℕ) (load store : Region → ℕ) (sync : ℕ) (counts : Counts weight load store sync) (l : Launch) (item : ℕ) (ins : ℕ → Marks) (inputs : AllLieIn ins (λ v. all_in InGlobal)) (turning : TurnsGoOneByOne) where
  count : Code → ℕ
  count code = total weight load store sync counts l item code

  module _ {A : Type 0} (num : A → ℕ) where
    pub private_copies : (ts : List ℕ) (env : ℕ → Marks) (a : ℕ) (n : Count) (t : Term A) (code rest : Code) → IsArgumentWork l item ins num ts env a n t code rest → CopiesTo PrivateMemory t
    private_copies ts env a n (Bound v) code rest h = tt
    private_copies ts env a n (Source v) code rest h = tt
    private_copies ts env a n (Both zips x y) code rest h = (private_copies ts env a n x code h.0 h.1, private_copies ts env (a + private_count x) (more n (variable_count x)) y h.0 rest h.2)
    private_copies ts env a n (Project s x) code rest h = private_copies ts env a n x code rest h
    private_copies ts env a n (Reshape y x) code rest h = private_copies ts env a n x code rest h
    private_copies ts env a n (LetArray v b) code rest h = (private_copies ts env a n v code h.0 h.1, private_copies ts (push (argument_marks l ins num env a v) env) (a + private_count v) (more n (variable_count v)) b h.0 rest h.2)
    private_copies ts env a n (Copy PrivateMemory ty x) code rest h = refl
    private_copies ts env a n (Copy LocalMemory ty x) code rest h = absurd h
    private_copies ts env a n _ code rest h = absurd h

    -- what stands for an argument whose work is printed
    pub lies : (ts : List ℕ) (env : ℕ → Marks) (regions : ℕ → Regions) (a : ℕ) (n : Count) (t : Term A) (code rest : Code) → AllLieIn env regions → IsArgumentWork l item ins num ts env a n t code rest → LieIn (argument_marks l ins num env a t) (regions_of regions t)
    lies ts env regions a n t code rest all h = argument_lies num ins inputs PrivateMemory env regions a t all (private_copies ts env a n t code rest h)

    pub element_lies : (x : Marks) (r : Regions) (i : ℕ) → LieIn x r → LieIn (at_index i x) r
    element_lies x r i h cs q = h cs (i ∷ q)

    fold_turn : (ts : List ℕ) (env : ℕ → Marks) (loads : LoadSet) (ty : Ty) (x : Marks) (r : Regions) (acc : Count) (b : Term A) (body : Code) → LieIn x r → IsFoldTurn l item ins ts env loads ty x acc b body → total weight load store sync counts l item body ≡ loads_in load loads r
    fold_turn ts env loads ty x r acc b body lie t =
        let inner = push (loaded_marks loads x (more acc (held_count ty))) (push (held_marks ty acc) env) in
        let first = more (more acc (held_count ty)) (load_count loads) in
        loaded weight load store sync counts l item ins ts loads x r (more acc (held_count ty)) body t.0 lie t.2
        ∙ ap (λ m. loads_in load loads r + m) (element_work weight load store sync counts l item inner first b t.0 t.1 t.3 ∙ reassigned weight load store sync counts l item ty (exprs inner first b) acc (more first (let_variables b)) t.1 End t.4)
        ∙ (let m = loads_in load loads r in omega arith)

    mutual
      pub argument_counts : (ts : List ℕ) (env : ℕ → Marks) (regions : ℕ → Regions) (a : ℕ) (n : Count) (t : Term A) (code rest : Code) → AllLieIn env regions → IsArgumentWork l item ins num ts env a n t code rest
          → total weight load store sync counts l item code ≡ argument_traffic load store num (ids_of l item) regions t + total weight load store sync counts l item rest
      argument_counts ts env regions a n (Bound v) code rest all h = ap (total weight load store sync counts l item) h ∙ (let m = total weight load store sync counts l item rest in omega arith)
      argument_counts ts env regions a n (Source v) code rest all h = ap (total weight load store sync counts l item) h ∙ (let m = total weight load store sync counts l item rest in omega arith)
      argument_counts ts env regions a n (Both zips x y) code rest all h =
          let first = argument_counts ts env regions a n x code h.0 all h.1 in
          let second = argument_counts ts env regions (a + private_count x) (more n (variable_count x)) y h.0 rest all h.2 in
          omega arith
      argument_counts ts env regions a n (Project s x) code rest all h = argument_counts ts env regions a n x code rest all h
      argument_counts ts env regions a n (Reshape y x) code rest all h = argument_counts ts env regions a n x code rest all h
      argument_counts ts env regions a n (LetArray v b) code rest all h =
          let first = argument_counts ts env regions a n v code h.0 all h.1 in
          let x = argument_marks l ins num env a v in
          let second = argument_counts ts (push (argument_marks l ins num env a v) env) (push (regions_of regions v) regions) (a + private_count v) (more n (variable_count v)) b h.0 rest
          (pushed (argument_marks l ins num env a v) (regions_of regions v) env regions (lies ts env regions a n v code h.0 all h.1) all) h.2 in
          omega arith
      argument_counts ts env regions a n (Copy PrivateMemory ty x) code rest all h =
          written_counts ts env regions a n x (laid_in Private (a + private_count x) ty) (all_in InPrivate) code rest all (laid_private (a + private_count x) ty) h
      argument_counts ts env regions a n (Copy LocalMemory ty x) code rest all h = absurd h
      argument_counts ts env regions a n _ code rest all h = absurd h

      pub written_counts : (ts : List ℕ) (env : ℕ → Marks) (regions : ℕ → Regions) (a : ℕ) (n : Count) (t : Term A) (w : Marks) (r : Regions) (code rest : Code) → AllLieIn env regions → LieIn w r → IsWritten l item ins num ts env a n t w code rest
          → total weight load store sync counts l item code ≡ written_traffic load store num (ids_of l item) regions t r + total weight load store sync counts l item rest
      written_counts ts env regions a n (Store ty t) w r code rest all goes h =
          element_work weight load store sync counts l item env n t code h.0 h.1 ∙ stored weight load store sync counts l item ins ts ty (exprs env n t) w r h.0 rest goes h.2
      written_counts ts env regions a n (Reshape y t) w r code rest all goes h =
          written_counts ts env regions a n t (λ cs q. w cs (result_position num y q)) r code rest all (λ cs q. goes cs (result_position num y q)) h.1
      written_counts ts env regions a n (LetArray v b) w r code rest all goes h =
          let first = argument_counts ts env regions a n v code h.0 all h.1 in
          let second = written_counts ts (push (argument_marks l ins num env a v) env) (push (regions_of regions v) regions) (a + private_count v) (more n (variable_count v)) b w r h.0 rest
          (pushed (argument_marks l ins num env a v) (regions_of regions v) env regions (lies ts env regions a n v code h.0 all h.1) all) goes h.2 in
          omega arith
      written_counts ts env regions a n (LetElement ty v b) w r code rest all goes h =
          element_work weight load store sync counts l item env n v code h.0 h.2 ∙ assigned weight load store sync counts l item ty (exprs env n v) (more n (let_variables v)) h.0 h.1 h.3
          ∙ written_counts ts (push (held_marks ty (more n (let_variables v))) env) (push (all_in NoMemory) regions) a (more (more n (let_variables v)) (held_count ty)) b w r h.1 rest
          (pushed (held_marks ty (more n (let_variables v))) (all_in NoMemory) env regions (held_lies ty (more n (let_variables v))) all) goes h.4
      written_counts ts env regions a n (Map Sequential len loads xs b) w r code rest all goes h =
          let first = argument_counts ts env regions a n xs code h.0 all h.1 in
          let x = argument_marks l ins num env a xs in
          let lie = lies ts env regions a n xs code h.0 all h.1 in
          let m = loads_in load loads (regions_of regions xs) + written_traffic load store num (ids_of l item) (push (regions_left loads (regions_of regions xs)) regions) b r in
          let second = looped weight load store sync counts l item ins turning Sequential (num len) _ m h.0 rest
          (λ i lt turn body t.
          let one = loaded weight load store sync counts l item ins (ts ++ i ∷ []) loads (at_index i (argument_marks l ins num env a xs)) (regions_of regions xs) (more n (variable_count xs)) body t.0 (element_lies (argument_marks l ins num env a xs) (regions_of regions xs) i lie) t.1 in
          let two = written_counts (ts ++ i ∷ []) (push (loaded_marks loads (at_index i (argument_marks l ins num env a xs)) (more n (variable_count xs))) env) (push (regions_left loads (regions_of regions xs)) regions) (a + private_count xs) (more (more n (variable_count xs)) (load_count loads)) b (at_index i w) r t.0 End
          (pushed (loaded_marks loads (at_index i (argument_marks l ins num env a xs)) (more n (variable_count xs))) (regions_left loads (regions_of regions xs)) env regions (loaded_lies loads (at_index i (argument_marks l ins num env a xs)) (regions_of regions xs) (more n (variable_count xs)) (element_lies (argument_marks l ins num env a xs) (regions_of regions xs) i lie)) all)
          (element_lies w r i goes) t.2 in
          omega arith) h.2 in
          omega arith
      written_counts ts env regions a n (Map (Over _ _) len loads xs b) w r code rest all goes h = absurd h
      written_counts ts env regions a n (Fold len loads ty xs s b) w r code rest all goes h =
          let first = argument_counts ts env regions a n xs code h.0 all h.4 in
          let lie = lies ts env regions a n xs code h.0 all h.4 in
          let start = element_work weight load store sync counts l item env (more n (variable_count xs)) s h.0 h.1 h.5 in
          let set = assigned weight load store sync counts l item ty (exprs env (more n (variable_count xs)) s) (more (more n (variable_count xs)) (let_variables s)) h.1 h.2 h.6 in
          let acc = more (more n (variable_count xs)) (let_variables s) in
          let turns = looped weight load store sync counts l item ins turning Sequential (num len) _ (loads_in load loads (regions_of regions xs)) h.2 h.3
          (λ i lt turn body t. fold_turn (ts ++ i ∷ []) env loads ty (at_index i (argument_marks l ins num env a xs)) (regions_of regions xs) (more (more n (variable_count xs)) (let_variables s)) b body (element_lies (argument_marks l ins num env a xs) (regions_of regions xs) i lie) t) h.7 in
          let last = stored weight load store sync counts l item ins ts ty (λ cs. held (held_marks ty (more (more n (variable_count xs)) (let_variables s)) cs)) (at_index 0 w) r h.3 rest (element_lies w r 0 goes) h.8 in
          omega arith
      written_counts ts env regions a n _ w r code rest all goes h = absurd h

    -- a map along a row
    row_counts : (ts : List ℕ) (env : ℕ → Marks) (regions : ℕ → Regions) (a : ℕ) (n : Count) (t : Term A) (w : Marks) (r : Regions) (code rest : Code) → AllLieIn env regions → LieIn w r → IsAlongRow l item ins num ts env a n t w code rest
        → total weight load store sync counts l item code ≡ written_traffic load store num (ids_of l item) regions t r + total weight load store sync counts l item rest
    row_counts ts env regions a n (Reshape y t) w r code rest all goes h =
        row_counts ts env regions a n t (λ cs q. w cs (result_position num y q)) r code rest all (λ cs q. goes cs (result_position num y q)) h.1
    row_counts ts env regions a n (Map (Over level.Launch X) len loads xs b) w r code rest all goes h =
        let first = argument_counts ts env regions a n xs code h.0 all h.1 in
        let lie = lies ts env regions a n xs code h.0 all h.1 in
        let m = loads_in load loads (regions_of regions xs) + written_traffic load store num (ids_of l item) (push (regions_left loads (regions_of regions xs)) regions) b r in
        let second = looped weight load store sync counts l item ins turning (Over level.Launch X) (num len) _ m h.0 rest
        (λ i lt turn body t.
        let one = loaded weight load store sync counts l item ins (ts ++ i ∷ []) loads (at_index i (argument_marks l ins num env a xs)) (regions_of regions xs) (more n (variable_count xs)) body t.0 (element_lies (argument_marks l ins num env a xs) (regions_of regions xs) i lie) t.1 in
        let two = written_counts (ts ++ i ∷ []) (push (loaded_marks loads (at_index i (argument_marks l ins num env a xs)) (more n (variable_count xs))) env) (push (regions_left loads (regions_of regions xs)) regions) (a + private_count xs) (more (more n (variable_count xs)) (load_count loads)) b (at_index i w) r t.0 End
        (pushed (loaded_marks loads (at_index i (argument_marks l ins num env a xs)) (more n (variable_count xs))) (regions_left loads (regions_of regions xs)) env regions (loaded_lies loads (at_index i (argument_marks l ins num env a xs)) (regions_of regions xs) (more n (variable_count xs)) (element_lies (argument_marks l ins num env a xs) (regions_of regions xs) i lie)) all)
        (element_lies w r i goes) t.2 in
        omega arith) h.2 in
        omega arith
    row_counts ts env regions a n (Map Sequential len loads xs b) w r code rest all goes h = absurd h
    row_counts ts env regions a n (Map (Over _ _) len loads xs b) w r code rest all goes h = absurd h
    row_counts ts env regions a n _ w r code rest all goes h = absurd h

    pub launch_counts : (env : ℕ → Marks) (regions : ℕ → Regions) (a : ℕ) (n : Count) (t : Term A) (w : Marks) (r : Regions) (code rest : Code) → AllLieIn env regions → LieIn w r → IsOverLaunch l item ins num env a n t w code rest
        → total weight load store sync counts l item code ≡ written_traffic load store num (ids_of l item) regions t r + total weight load store sync counts l item rest
    launch_counts env regions a n (Reshape y t) w r code rest all goes h =
        launch_counts env regions a n t (λ cs q. w cs (result_position num y q)) r code rest all (λ cs q. goes cs (result_position num y q)) h.1
    launch_counts env regions a n (LetArray v b) w r code rest all goes h =
        let first = argument_counts [] env regions a n v code h.0 all h.1 in
        let second = launch_counts (push (argument_marks l ins num env a v) env) (push (regions_of regions v) regions) (a + private_count v) (more n (variable_count v)) b w r h.0 rest
        (pushed (argument_marks l ins num env a v) (regions_of regions v) env regions (lies [] env regions a n v code h.0 all h.1) all) goes h.2 in
        omega arith
    launch_counts env regions a n (Map (Over level.Launch X) len loads xs b) w r code rest all goes h = row_counts [] env regions a n (Map (Over level.Launch X) len loads xs b) w r code rest all goes h
    launch_counts env regions a n (Map (Over level.Launch Y) len loads xs b) w r code rest all goes h =
        let first = argument_counts [] env regions a n xs code h.0 all h.1 in
        let lie = lies [] env regions a n xs code h.0 all h.1 in
        let m = loads_in load loads (regions_of regions xs) + written_traffic load store num (ids_of l item) (push (regions_left loads (regions_of regions xs)) regions) b r in
        let second = looped weight load store sync counts l item ins turning (Over level.Launch Y) (num len) _ m h.0 rest
        (λ i lt turn body t.
        let one = loaded weight load store sync counts l item ins ([] ++ i ∷ []) loads (at_index i (argument_marks l ins num env a xs)) (regions_of regions xs) (more n (variable_count xs)) body t.0 (element_lies (argument_marks l ins num env a xs) (regions_of regions xs) i lie) t.1 in
        let two = row_counts ([] ++ i ∷ []) (push (loaded_marks loads (at_index i (argument_marks l ins num env a xs)) (more n (variable_count xs))) env) (push (regions_left loads (regions_of regions xs)) regions) (a + private_count xs) (more (more n (variable_count xs)) (load_count loads)) b (at_index i w) r t.0 End
        (pushed (loaded_marks loads (at_index i (argument_marks l ins num env a xs)) (more n (variable_count xs))) (regions_left loads (regions_of regions xs)) env regions (loaded_lies loads (at_index i (argument_marks l ins num env a xs)) (regions_of regions xs) (more n (variable_count xs)) (element_lies (argument_marks l ins num env a xs) (regions_of regions xs) i lie)) all)
        (element_lies w r i goes) t.2 in
        omega arith) h.2 in
        omega arith
    launch_counts env regions a n (Map Sequential len loads xs b) w r code rest all goes h = absurd h
    launch_counts env regions a n (Map (Over _ _) len loads xs b) w r code rest all goes h = absurd h
    launch_counts env regions a n _ w r code rest all goes h = absurd h

times : (n m : ℕ) → m ≡ 0 → n * m ≡ 0
times n m h = ap (λ z. n * z) h ∙ (omega arith)

-- nothing is counted of what counts nothing
module _ {A : Type 0} (num : A → ℕ) (l : Launch) (item : ℕ) where
  no_loads : (loads : LoadSet) (x : Regions) → loads_in uncounted loads x ≡ 0
  no_loads Skip x = refl
  no_loads Take x = refl
  no_loads TakeFour x = refl
  no_loads (Each a b) x = let p = no_loads a (λ cs. x (false ∷ cs)) in let q = no_loads b (λ cs. x (true ∷ cs)) in omega arith

  no_stores : (ty : Ty) (w : Regions) → stores_in uncounted ty w ≡ 0
  no_stores Scalar w = refl
  no_stores (PairOf a b) w = let p = no_stores a (λ cs. w (false ∷ cs)) in let q = no_stores b (λ cs. w (true ∷ cs)) in omega arith
  no_stores (ArrayOf n t) w = refl

  mutual
    no_argument : (regions : ℕ → Regions) (t : Term A) → argument_traffic uncounted uncounted num (ids_of l item) regions t ≡ 0
    no_argument regions (Both zips a b) = let p = no_argument regions a in let q = no_argument regions b in omega arith
    no_argument regions (Project s a) = no_argument regions a
    no_argument regions (Reshape y a) = no_argument regions a
    no_argument regions (LetArray v b) = let p = no_argument regions v in let q = no_argument (push (regions_of regions v) regions) b in omega arith
    no_argument regions (Copy space ty a) = no_written regions a (all_in (region_in space))
    no_argument regions _ = refl

    pub no_written : (regions : ℕ → Regions) (t : Term A) (w : Regions) → written_traffic uncounted uncounted num (ids_of l item) regions t w ≡ 0
    no_written regions (Store ty a) w = no_stores ty w
    no_written regions (Reshape y a) w = no_written regions a w
    no_written regions (LetArray v b) w = let p = no_argument regions v in let q = no_written (push (regions_of regions v) regions) b w in omega arith
    no_written regions (LetElement ty v b) w = no_written (push (all_in NoMemory) regions) b w
    no_written regions (Map kind n loads xs b) w =
        let p = no_argument regions xs in
        let q = no_loads loads (regions_of regions xs) in
        let r = no_written (push (regions_left loads (regions_of regions xs)) regions) b w in
        let e = times (turns_of (ids_of l item) kind (num n)) (loads_in uncounted loads (regions_of regions xs) + written_traffic uncounted uncounted num (ids_of l item) (push (regions_left loads (regions_of regions xs)) regions) b w) (omega arith) in
        omega arith
    no_written regions (Fold n loads ty xs s b) w =
        let p = no_argument regions xs in
        let e = times (turns_of (ids_of l item) Sequential (num n)) (loads_in uncounted loads (regions_of regions xs)) (no_loads loads (regions_of regions xs)) in
        let q = no_stores ty w in
        omega arith
    no_written regions _ w = refl
