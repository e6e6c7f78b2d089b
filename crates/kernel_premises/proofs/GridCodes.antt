-- The code of a map over rows of work-groups is of the kernel grammar.
use Rattle.std.proofs.Common.{◌≡◌, ℕ, suc, ◌+◌, ◌*◌, ◌≤◌, Bool, true, false, List, length, refl, arith}
use Rattle.size_arith.specs.declared.poly.Monomial.{Monomial}
use Rattle.lift_tree.specs.Typing.{Declared}
use Rattle.lift_tree.specs.declared.term.Level.TheVariants.{Groups, Items}
use Rattle.lift_tree.specs.declared.term.Dimension.TheVariants as dimension
use Rattle.kernel_tree.specs.declared.tree.Dimension.TheVariants.{X, Y}
use Rattle.kernel_tree.specs.Formula.{Formula}
use Rattle.kernel_tree.specs.Code.{Local as LocalArray, FromGroupId, ByGroupCount, Start, Stride, Code, End, Kernel}
use Rattle.barrier_placement.specs.Fencing.{Fencing}
use Rattle.lift_ir.specs.Fours.{Lie, Loose, Whole, element_lie, bound_lie, written_lie, ReadsFours, WritesFours}
use Rattle.lift_ir.specs.Terms.{LoadSet, Over, LocalMemory, PrivateMemory, Term, Bound, Source, Both, Project, Reshape, LetArray, Map, Copy, push}
use Rattle.printed_form.specs.Arguments.{argument_view, private_arrays, local_arrays}
use Rattle.printed_form.specs.Counts.{Count, AtMost, more, no_variables, load_count, variable_count, private_count, local_count}
use Rattle.printed_form.specs.MapForms.{form_over_groups, statement_of}
use Rattle.printed_form.specs.Views.{View, rewritten_view, laid_view}
use Rattle.printed_form.specs.Sound.{variables_of, stacked, IsReadWithin, IsWrittenWithin, loop_depth, AreLow, CanBeWritten, CanBeRead}
use Rattle.printed_form.specs.GrammarViews.{FillsWithin}
use Rattle.printed_form.specs.KernelGrammar.{IsSoundIn}
use Rattle.printed_form.specs.GrammarPieces.{views_of_inputs, CanBePrinted}
use Rattle.printed_form.proofs.Runs.{at_most}
use Rattle.group_form.specs.Form.{Used, used_after}
use Rattle.group_form.specs.Forms.{IsOfInputs}
use Rattle.group_form.specs.GridPrinter.{print_along_row, print_local_nest, print_grid_argument, print_grid_written, print_along_groups, print_grid}
use Rattle.group_form.specs.GridTerms.{GridForms, StandsAlongRow, StandsInGrid, StandsAlongGroups, StandsOverGrid}
use Rattle.group_form.specs.GridTheorem.{phases_along, grid_phase_count}
use Rattle.group_form.specs.Printer.{fenced}
use Rattle.group_form.specs.Uses.{phases_in}
use Rattle.kernel_premises.specs.GroupGrammar.{IsFlagged}
use Rattle.kernel_premises.proofs.MapCodes as maps
use Rattle.kernel_premises.proofs.MapCodes.{Pieces, Right, Comes, Fills, Views, fence_fine, fence_kept, filled, laid_target, viewed_too, with_view}

-- how many local arrays a turn of the map over the groups of a row has, and one of the whole map
abbrev pub locals_along : {A : Type 0} → Term A → ℕ
locals_along (Reshape l t) = locals_along t
locals_along (Map kind n loads xs b) = local_count b
locals_along _ = 0

abbrev pub locals_over : {A : Type 0} → Term A → ℕ
locals_over (Reshape l t) = locals_over t
locals_over (LetArray v b) = locals_over b
locals_over (Map kind n loads xs b) = locals_along b
locals_over _ = 0

-- inputs have none
no_locals : {A : Type 0} (t : Term A) → IsOfInputs t → local_count t ≡ 0
no_locals (Bound v) st = refl
no_locals (Source v) st = refl
no_locals (Both true x y) st = let p = no_locals x st.0 in let q = no_locals y st.1 in omega arith
no_locals (Project s x) st = no_locals x st
no_locals (Reshape y x) st = no_locals x st
no_locals (LetArray v b) st = let p = no_locals v st.0 in let q = no_locals b st.1 in omega arith
no_locals _ st = absurd st

-- a map over groups has a statement
statement_comes : (once : Bool) (s : Start) (c : Stride) (bound : Formula) (body : Code) → Comes (statement_of (form_over_groups once) s c bound body)
statement_comes false s c bound body = refl
statement_comes true s c bound body = refl

-- so many phases, and what stands before each has a flag
module _ (k : Kernel) (spell : List Monomial → Formula) (forms : GridForms (List Monomial)) (S M : ℕ) (d : Declared) (known : Pieces k spell S M d) (fence : ℕ → Fencing) (N : ℕ) (flagged : (q : ℕ) → q ≤ N → IsFlagged (fence q)) where
  abbrev A : Type 0
  A = List Monomial

  abbrev ins : ℕ → View
  ins = views_of_inputs spell d

  abbrev Sound : Term A → Type 0
  Sound t = IsSoundIn k spell S d t

  abbrev viewed : (ℕ → View) → ℕ → Term A → View
  viewed env K t = argument_view local_arrays spell ins env K t

  -- a term in writing position, so deep in loops and ifs
  abbrev Can : (depth W : ℕ) → Count → (a : ℕ) → (ℕ → ℕ) → (ℕ → Lie) → Lie → Term A → Type 0
  Can depth W n a g lies to_lie t = CanBePrinted k spell S M d g lies to_lie depth W n a t

  -- ---- a map along a row, in so many loops and ifs
  abbrev print_along : (L K a : ℕ) (n : Count) (env : ℕ → View) → Term A → View → Code → Code
  print_along L K a n env t w rest = print_along_row spell forms ins fence L env K a n t w rest

  along_kept : (L K a : ℕ) (n : Count) (env : ℕ → View) (t : Term A) (w : View) (rest : Code) → Comes rest → Comes (print_along L K a n env t w rest)
  along_kept L K a n env (Reshape y t) w rest r = along_kept L K a n env t (rewritten_view spell y w) rest r
  along_kept L K a n env (Map kind m ls xs b) w rest r =
      let v = more n (variable_count xs) in
      let p = a + private_count xs in
      let x = viewed env K xs in
      maps.map_kept k spell S M d known (Over Items dimension.X) L 0 (spell m) ls x 0 v (λ i. 0) env w 0 (λ i. Loose) Loose Loose (maps.print_element k spell S M d known (Over Items dimension.X) L 0 (spell m) ls x 0 v p (λ i. 0) env w 0 (λ i. Loose) Loose Loose b)
      (maps.element_kept k spell S M d known (Over Items dimension.X) L 0 (spell m) ls x 0 v p (λ i. 0) env w 0 (λ i. Loose) Loose Loose b) (forms.columns.local m) rest r
  along_kept L K a n env _ w rest r = r

  along_comes : (L D K a : ℕ) (n : Count) (g : ℕ → ℕ) (lies : ℕ → Lie) (to_lie : Lie) (env : ℕ → View) (t : Term A) (w : View) (W : ℕ) (rest : Code) → FillsWithin k S L W w → StandsAlongRow t → Can D W n a g lies to_lie t → Comes (print_along L K a n env t w rest)
  along_comes L D K a n g lies to_lie env (Reshape y t) w W rest tg st can =
      along_comes L D K a n g lies (written_lie y can.fours.0) env t (rewritten_view spell y w) (suc W) rest (known.views.result spell y L W w can.sound.0 tg) st.1
      (record { written = can.written.1; sound = can.sound.1; layouts = can.layouts; low = can.low; fours = can.fours.2; deep = can.deep; variables = can.variables; privates = can.privates })
  along_comes L D K a n g lies to_lie env (Map (Over Items dimension.X) m ls xs b) w W rest tg st can =
      let v = more n (variable_count xs) in
      let p = a + private_count xs in
      let x = viewed env K xs in
      let h = stacked g xs in
      let deep = can.deep in
      let vars = can.variables in
      let priv = can.privates in
      maps.map_comes k spell S M d known (Over Items dimension.X) L 0 (spell m) ls x h v g env w W lies can.fours.0 to_lie (maps.print_element k spell S M d known (Over Items dimension.X) L 0 (spell m) ls x h v p g env w W lies can.fours.0 to_lie b) tg
      (maps.element_comes k spell S M d known (Over Items dimension.X) L 0 (spell m) ls x h v p g env w W lies can.fours.0 to_lie b D (record { written = can.written.1; sound = can.sound.2; layouts = can.layouts.2; low = can.low.1; fours = can.fours.4; deep = omega arith; variables = at_most (omega arith) (omega arith); privates = omega arith }))
      (forms.columns.local m) rest
  along_comes L D K a n g lies to_lie env _ w W rest tg st can = absurd st

  along_fine : (L I K a : ℕ) (n : Count) (g : ℕ → ℕ) (lies : ℕ → Lie) (to_lie : Lie) (env : ℕ → View) (t : Term A) (w : View) (W : ℕ) (rest : Code) → Views k S L g lies env → Fills k S L W to_lie w → StandsAlongRow t → Can (I + L) W n a g lies to_lie t → K ≤ length k.locals → Right k L I rest → Right k L I (print_along L K a n env t w rest)
  along_fine L I K a n g lies to_lie env (Reshape y t) w W rest all tg st can locs f =
      along_fine L I K a n g lies (written_lie y can.fours.0) env t (rewritten_view spell y w) (suc W) rest all (filled k spell S M d known L W y to_lie can.fours.0 w can.sound.0 can.fours.1 tg) st.1
      (record { written = can.written.1; sound = can.sound.1; layouts = can.layouts; low = can.low; fours = can.fours.2; deep = can.deep; variables = can.variables; privates = can.privates }) locs f
  along_fine L I K a n g lies to_lie env (Map (Over Items dimension.X) m ls xs b) w W rest all tg st can locs f =
      let v = more n (variable_count xs) in
      let p = a + private_count xs in
      let x = viewed env K xs in
      let h = stacked g xs in
      let deep = can.deep in
      let vars = can.variables in
      let priv = can.privates in
      let none = no_locals xs st.0 in
      let most = can.layouts.0 in
      let room = known.room.fits in
      let inner : Can (suc (I + L)) W (more v (load_count ls)) p (push h g) (push (bound_lie ls (element_lie can.fours.0)) lies) (element_lie to_lie) b = record { written = can.written.1; sound = can.sound.2; layouts = can.layouts.2; low = can.low.1; fours = can.fours.4; deep = omega arith; variables = at_most (omega arith) (omega arith); privates = omega arith } in
      maps.map_fine k spell S M d known (Over Items dimension.X) L I (spell m) ls x h v g env w W lies can.fours.0 to_lie (maps.print_element k spell S M d known (Over Items dimension.X) L I (spell m) ls x h v p g env w W lies can.fours.0 to_lie b) tg.0
      (maps.element_comes k spell S M d known (Over Items dimension.X) L I (spell m) ls x h v p g env w W lies can.fours.0 to_lie b (suc (I + L)) inner)
      (record {
        deep = omega arith;
        spelled = can.sound.0;
        fits = omega arith;
        variables = at_most (omega arith) (omega arith);
        array = known.terms.arguments LocalMemory L K g env xs all.0 can.sound.1 (omega arith);
        binders = all.0;
        array_lies = known.terms.lying LocalMemory K lies env xs can.fours.0 all.1 can.fours.1;
        fours = can.fours.3;
        binders_lie = all.1;
        place_lies = tg.1;
      })
      (maps.element_fine k spell S M d known (Over Items dimension.X) L I (spell m) ls x h v p g env w W lies can.fours.0 to_lie b inner) (forms.columns.local m) rest f
  along_fine L I K a n g lies to_lie env _ w W rest all tg st can locs f = absurd st

  -- ---- a map over rows, around a map along a row, in so many loops and ifs
  module _ (L I : ℕ) (m : A) (ls : LoadSet) (x : View) (h : ℕ) (u : Used) (g : ℕ → ℕ) (env : ℕ → View) (w : View) (W : ℕ) (lies : ℕ → Lie) (from to_lie : Lie) (b : Term A) where
    abbrev inside : ℕ → Lie
    inside = push (bound_lie ls (element_lie from)) lies

    abbrev print_in_row : (depth : ℕ) (env : ℕ → View) (w : View) (last : Code) → Code
    print_in_row l e to last = print_along l u.locals u.privates (more u.variables (load_count ls)) e b to last

    abbrev InRow : ℕ → Type 0
    InRow D = Can D W (more u.variables (load_count ls)) u.privates (push h g) inside (element_lie to_lie) b

    abbrev print_nest : Code → Code
    print_nest rest = print_local_nest spell forms ins fence L env u m ls x b w rest

    nest_kept : (rest : Code) → Comes rest → Comes (print_nest rest)
    nest_kept rest r =
        maps.map_kept k spell S M d known (Over Items dimension.Y) L I (spell m) ls x h u.variables g env w W lies from to_lie print_in_row
        (λ l e to last. along_kept l u.locals u.privates (more u.variables (load_count ls)) e b to last) (forms.rows.local m) rest r

    nest_comes : (D : ℕ) (rest : Code) → FillsWithin k S L W w → StandsAlongRow b → InRow D → Comes (print_nest rest)
    nest_comes D rest tg st can =
        maps.map_comes k spell S M d known (Over Items dimension.Y) L I (spell m) ls x h u.variables g env w W lies from to_lie print_in_row tg
        (λ l e to last at. along_comes l D u.locals u.privates (more u.variables (load_count ls)) (push h g) inside (element_lie to_lie) e b to W last at st can) (forms.rows.local m) rest

    nest_fine : (rest : Code) → Fills k S L W to_lie w → StandsAlongRow b → InRow (suc (I + L)) → u.locals ≤ length k.locals → maps.HasRoom k spell S M d known (Over Items dimension.Y) L I (spell m) ls x h u.variables g env w W lies from to_lie print_in_row → Right k L I rest → Right k L I (print_nest rest)
    nest_fine rest tg st can locs has f =
        let deep = can.deep in
        maps.map_fine k spell S M d known (Over Items dimension.Y) L I (spell m) ls x h u.variables g env w W lies from to_lie print_in_row tg.0
        (λ l e to last at. along_comes l (suc (I + L)) u.locals u.privates (more u.variables (load_count ls)) (push h g) inside (element_lie to_lie) e b to W last at st can) has
        (λ l i e to last le all all_lie at to_lies ok. along_fine l i u.locals u.privates (more u.variables (load_count ls)) (push h g) inside (element_lie to_lie) e b to W last (all, all_lie) (at, to_lies) st
        (record { written = can.written; sound = can.sound; layouts = can.layouts; low = can.low; fours = can.fours; deep = omega arith; variables = can.variables; privates = can.privates }) locs ok) (forms.rows.local m) rest f

  -- ---- a turn of the map over the groups of a row, in so many loops and ifs
  module _ (L I : ℕ) where
    abbrev print_argument : (env : ℕ → View) → Used → Term A → (rest : Code) → Code
    print_argument = print_grid_argument spell forms ins fence L

    abbrev print_to : (env : ℕ → View) → Used → Term A → (w : View) → (rest : Code) → Code
    print_to = print_grid_written spell forms ins fence L

    -- statements come
    mutual
      argument_kept : (env : ℕ → View) (u : Used) (t : Term A) (rest : Code) → Comes rest → Comes (print_argument env u t rest)
      argument_kept env u (Both zips x y) rest r = argument_kept env u x (print_argument env (used_after u x) y rest) (argument_kept env (used_after u x) y rest r)
      argument_kept env u (Project s x) rest r = argument_kept env u x rest r
      argument_kept env u (Reshape y x) rest r = argument_kept env u x rest r
      argument_kept env u (LetArray v b) rest r =
          argument_kept env u v (print_argument (push (viewed env u.locals v) env) (used_after u v) b rest) (argument_kept (push (viewed env u.locals v) env) (used_after u v) b rest r)
      argument_kept env u (Copy space ty x) rest r = written_kept env u x (laid_view LocalArray (u.locals + local_count x) ty) rest r
      argument_kept env u _ rest r = r

      written_kept : (env : ℕ → View) (u : Used) (t : Term A) (w : View) (rest : Code) → Comes rest → Comes (print_to env u t w rest)
      written_kept env u (Reshape y x) w rest r = written_kept env u x (rewritten_view spell y w) rest r
      written_kept env u (LetArray v b) w rest r =
          argument_kept env u v (print_to (push (viewed env u.locals v) env) (used_after u v) b w rest) (written_kept (push (viewed env u.locals v) env) (used_after u v) b w rest r)
      written_kept env u (Map kind n loads xs b) w rest r =
          let x = viewed env u.locals xs in
          let v = used_after u xs in
          let nest = print_nest L I n loads x 0 v (λ i. 0) env w 0 (λ i. Loose) Loose Loose b rest in
          argument_kept env u xs (fenced (fence (u.phases + phases_in xs)) nest)
          (fence_kept (fence (u.phases + phases_in xs)) nest (nest_kept L I n loads x 0 v (λ i. 0) env w 0 (λ i. Loose) Loose Loose b rest r))
      written_kept env u _ w rest r = r

    written_comes : (D : ℕ) (g : ℕ → ℕ) (lies : ℕ → Lie) (to_lie : Lie) (env : ℕ → View) (u : Used) (t : Term A) (w : View) (W : ℕ) (rest : Code) → FillsWithin k S L W w → StandsInGrid true t → CanBeWritten t → Sound t → IsWrittenWithin M g W t → AreLow 1023 t → WritesFours lies to_lie t → D + loop_depth t ≤ 1024
        → AtMost (more u.variables (variable_count t)) (variables_of k) → u.privates + private_count t ≤ length k.privates → Comes (print_to env u t w rest)
    written_comes D g lies to_lie env u (Reshape y x) w W rest tg st can s most high fours deep vars priv =
        written_comes D g lies (written_lie y fours.0) env u x (rewritten_view spell y w) (suc W) rest (known.views.result spell y L W w s.0 tg) st.1 can.1 s.1 most high fours.2 deep vars priv
    written_comes D g lies to_lie env u (LetArray v b) w W rest tg st can s most high fours deep vars priv =
        argument_kept env u v (print_to (push (viewed env u.locals v) env) (used_after u v) b w rest)
        (written_comes D (push (stacked g v) g) (push fours.0 lies) to_lie (push (viewed env u.locals v) env) (used_after u v) b w W rest tg st.1 can.1 s.1 most.1 high.1 fours.3 (omega arith) (at_most (omega arith) (omega arith)) (omega arith))
    written_comes D g lies to_lie env u (Map (Over Items dimension.Y) m ls xs b) w W rest tg st can s most high fours deep vars priv =
        let x = viewed env u.locals xs in
        let v = used_after u xs in
        let nest = print_nest L I m ls x (stacked g xs) v g env w W lies fours.0 to_lie b rest in
        argument_kept env u xs (fenced (fence (u.phases + phases_in xs)) nest)
        (fence_kept (fence (u.phases + phases_in xs)) nest
        (nest_comes L I m ls x (stacked g xs) v g env w W lies fours.0 to_lie b D rest tg st.1 (record { written = can.1; sound = s.2; layouts = most.2; low = high.1; fours = fours.4; deep = omega arith; variables = at_most (omega arith) (omega arith); privates = omega arith })))
    written_comes D g lies to_lie env u _ w W rest tg st can s most high fours deep vars priv = absurd st

    -- all of it is of the grammar
    mutual
      argument_fine : (g : ℕ → ℕ) (lies : ℕ → Lie) (env : ℕ → View) (u : Used) (t : Term A) (rest : Code) → Views k S L g lies env → StandsInGrid false t → CanBeRead t → Sound t → IsReadWithin M g t → AreLow 1023 t → ReadsFours lies t → I + L + loop_depth t ≤ 1024
          → AtMost (more u.variables (variable_count t)) (variables_of k) → u.privates + private_count t ≤ length k.privates → u.locals + local_count t ≤ length k.locals → u.phases + phases_in t ≤ N → Right k L I rest → Right k L I (print_argument env u t rest)
      argument_fine g lies env u (Bound v) rest all st can s most high fours deep vars priv locs phs f = f
      argument_fine g lies env u (Source v) rest all st can s most high fours deep vars priv locs phs f = f
      argument_fine g lies env u (Both true x y) rest all st can s most high fours deep vars priv locs phs f =
          argument_fine g lies env u x (print_argument env (used_after u x) y rest) all st.0 can.0 s.0 most.0 high.0 fours.0 (omega arith) (at_most (omega arith) (omega arith)) (omega arith) (omega arith) (omega arith)
          (argument_fine g lies env (used_after u x) y rest all st.1 can.1 s.1 most.1 high.1 fours.1 (omega arith) (at_most (omega arith) (omega arith)) (omega arith) (omega arith) (omega arith) f)
      argument_fine g lies env u (Project c x) rest all st can s most high fours deep vars priv locs phs f = argument_fine g lies env u x rest all st can s most high fours deep vars priv locs phs f
      argument_fine g lies env u (Reshape y x) rest all st can s most high fours deep vars priv locs phs f = argument_fine g lies env u x rest all st can s.1 most.1 high fours deep vars priv locs phs f
      argument_fine g lies env u (LetArray v b) rest all st can s most high fours deep vars priv locs phs f =
          argument_fine g lies env u v (print_argument (push (viewed env u.locals v) env) (used_after u v) b rest) all st.0 can.0 s.0 most.0 high.0 fours.2 (omega arith) (at_most (omega arith) (omega arith)) (omega arith) (omega arith) (omega arith)
          (argument_fine (push (stacked g v) g) (push fours.0 lies) (push (viewed env u.locals v) env) (used_after u v) b rest
          (viewed_too k spell S M d known L u.locals g lies env v fours.0 all s.0 (omega arith) fours.1) st.1 can.1 s.1 most.1 high.1 fours.3 (omega arith) (at_most (omega arith) (omega arith)) (omega arith) (omega arith) (omega arith) f)
      argument_fine g lies env u (Copy LocalMemory ty x) rest all st can s most high fours deep vars priv locs phs f =
          written_fine g lies Whole env u x (laid_view LocalArray (u.locals + local_count x) ty) 0 rest all (laid_target k spell S M d known (u.locals + local_count x) ty L (omega arith) s.0 s.1) st can s.2 most high fours deep vars priv (omega arith) phs f
      argument_fine g lies env u _ rest all st can s most high fours deep vars priv locs phs f = absurd st

      written_fine : (g : ℕ → ℕ) (lies : ℕ → Lie) (to_lie : Lie) (env : ℕ → View) (u : Used) (t : Term A) (w : View) (W : ℕ) (rest : Code) → Views k S L g lies env → Fills k S L W to_lie w → StandsInGrid true t → CanBeWritten t → Sound t → IsWrittenWithin M g W t → AreLow 1023 t → WritesFours lies to_lie t → I + L + loop_depth t ≤ 1024
          → AtMost (more u.variables (variable_count t)) (variables_of k) → u.privates + private_count t ≤ length k.privates → u.locals + local_count t ≤ length k.locals → u.phases + phases_in t ≤ N → Right k L I rest → Right k L I (print_to env u t w rest)
      written_fine g lies to_lie env u (Reshape y x) w W rest all tg st can s most high fours deep vars priv locs phs f =
          written_fine g lies (written_lie y fours.0) env u x (rewritten_view spell y w) (suc W) rest all
          (filled k spell S M d known L W y to_lie fours.0 w s.0 fours.1 tg) st.1 can.1 s.1 most high fours.2 deep vars priv locs phs f
      written_fine g lies to_lie env u (LetArray v b) w W rest all tg st can s most high fours deep vars priv locs phs f =
          argument_fine g lies env u v (print_to (push (viewed env u.locals v) env) (used_after u v) b w rest) all st.0 can.0 s.0 most.0 high.0 fours.2 (omega arith) (at_most (omega arith) (omega arith)) (omega arith) (omega arith) (omega arith)
          (written_fine (push (stacked g v) g) (push fours.0 lies) to_lie (push (viewed env u.locals v) env) (used_after u v) b w W rest
          (viewed_too k spell S M d known L u.locals g lies env v fours.0 all s.0 (omega arith) fours.1) tg st.1 can.1 s.1 most.1 high.1 fours.3 (omega arith) (at_most (omega arith) (omega arith)) (omega arith) (omega arith) (omega arith) f)
      written_fine g lies to_lie env u (Map (Over Items dimension.Y) m ls xs b) w W rest all tg st can s most high fours deep vars priv locs phs f =
          let x = viewed env u.locals xs in
          let v = used_after u xs in
          let nest = print_nest L I m ls x (stacked g xs) v g env w W lies fours.0 to_lie b rest in
          let fits : S + (10 + 3 * stacked g xs) ≤ 1024 = (let e = most.0 in let f = known.room.fits in omega arith) in
          argument_fine g lies env u xs (fenced (fence (u.phases + phases_in xs)) nest) all st.0 can.0 s.1 most.1 high.0 fours.2 (omega arith) (at_most (omega arith) (omega arith)) (omega arith) (omega arith) (omega arith)
          (fence_fine k fence N flagged L I (u.phases + phases_in xs) nest (omega arith)
          (nest_fine L I m ls x (stacked g xs) v g env w W lies fours.0 to_lie b rest tg st.1 (record { written = can.1; sound = s.2; layouts = most.2; low = high.1; fours = fours.4; deep = omega arith; variables = at_most (omega arith) (omega arith); privates = omega arith }) (omega arith)
          (record {
            deep = omega arith;
            spelled = s.0;
            fits = fits;
            variables = at_most (omega arith) (omega arith);
            array = known.terms.arguments LocalMemory L u.locals g env xs all.0 s.1 (omega arith);
            binders = all.0;
            array_lies = known.terms.lying LocalMemory u.locals lies env xs fours.0 all.1 fours.1;
            fours = fours.3;
            binders_lie = all.1;
            place_lies = tg.1;
          }) f))
      written_fine g lies to_lie env u _ w W rest all tg st can s most high fours deep vars priv locs phs f = absurd st

  -- ---- a map over the groups of a row
  along_groups_come : (L : ℕ) (n : Count) (env : ℕ → View) (t : Term A) (w : View) → StandsAlongGroups t → Comes (print_along_groups spell forms ins fence L env n t w)
  along_groups_come L n env (Reshape y t) w st = along_groups_come L n env t (rewritten_view spell y w) st.1
  along_groups_come L n env (Map (Over Groups dimension.X) m ls xs b) w st = statement_comes (forms.columns.once m) (FromGroupId X) (ByGroupCount X) (spell m) _
  along_groups_come L n env _ w st = absurd st

  along_groups_fine : (L I : ℕ) (n : Count) (g : ℕ → ℕ) (lies : ℕ → Lie) (to_lie : Lie) (env : ℕ → View) (t : Term A) (w : View) (W : ℕ) → Views k S L g lies env → Fills k S L W to_lie w → StandsAlongGroups t → Can (I + L) W n 0 g lies to_lie t → locals_along t ≤ length k.locals → phases_along t ≤ N → Right k L I (print_along_groups spell forms ins fence L env n t w)
  along_groups_fine L I n g lies to_lie env (Reshape y t) w W all tg st can locs phs =
      along_groups_fine L I n g lies (written_lie y can.fours.0) env t (rewritten_view spell y w) (suc W) all (filled k spell S M d known L W y to_lie can.fours.0 w can.sound.0 can.fours.1 tg) st.1
      (record { written = can.written.1; sound = can.sound.1; layouts = can.layouts; low = can.low; fours = can.fours.2; deep = can.deep; variables = can.variables; privates = can.privates }) locs phs
  along_groups_fine L I n g lies to_lie env (Map (Over Groups dimension.X) m ls xs b) w W all tg st can locs phs =
      let x = argument_view private_arrays spell ins env 0 xs in
      let h = stacked g xs in
      let deep = can.deep in
      let vars = can.variables in
      let priv = can.privates in
      let most = can.layouts.0 in
      let room = known.room.fits in
      let used : Used = record { locals = 0; privates = 0; variables = more n (load_count ls); phases = 0 } in
      let inside = push (bound_lie ls (element_lie can.fours.0)) lies in
      let closing = fenced (fence (phases_in b)) End in
      let body : ℕ → (ℕ → View) → View → Code → Code = λ l e to last. print_to l 0 e used b to closing in
      maps.statement_fine k spell S M d known (Over Groups dimension.X) L I (spell m) ls x h n g env w W lies can.fours.0 to_lie body tg.0
      (λ l e to last at. written_comes l 0 (suc (I + L)) (push h g) inside (element_lie to_lie) e used b to W closing at st.1 can.written.1 can.sound.2 can.layouts.2 can.low.1 can.fours.4 (omega arith) (at_most (omega arith) (omega arith)) (omega arith))
      (record {
        deep = omega arith;
        spelled = can.sound.0;
        fits = omega arith;
        variables = at_most (omega arith) (omega arith);
        array = known.terms.arguments PrivateMemory L 0 g env xs all.0 can.sound.1 (omega arith);
        binders = all.0;
        array_lies = known.terms.lying PrivateMemory 0 lies env xs can.fours.0 all.1 can.fours.1;
        fours = can.fours.3;
        binders_lie = all.1;
        place_lies = tg.1;
      })
      (λ l i e to last le all all_lie at to_lies ok.
      written_fine l i (push h g) inside (element_lie to_lie) e used b to W closing (all, all_lie) (at, to_lies) st.1 can.written.1 can.sound.2 can.layouts.2 can.low.1 can.fours.4 (omega arith) (at_most (omega arith) (omega arith)) (omega arith) (omega arith) (omega arith) (fence_fine k fence N flagged l i (phases_in b) End (omega arith) refl))
      (forms.columns.once m)
  along_groups_fine L I n g lies to_lie env _ w W all tg st can locs phs = absurd st

  -- ---- a map over rows of groups
  pub grid_comes : (env : ℕ → View) (t : Term A) (w : View) → StandsOverGrid t → Comes (print_grid spell forms ins fence env t w)
  grid_comes env (Reshape y t) w st = grid_comes env t (rewritten_view spell y w) st.1
  grid_comes env (LetArray v b) w st = grid_comes (push (argument_view private_arrays spell ins env 0 v) env) b w st.1
  grid_comes env (Map (Over Groups dimension.Y) m ls xs b) w st = statement_comes (forms.rows.once m) (FromGroupId Y) (ByGroupCount Y) (spell m) _
  grid_comes env _ w st = absurd st

  pub grid_fine : (g : ℕ → ℕ) (lies : ℕ → Lie) (to_lie : Lie) (env : ℕ → View) (t : Term A) (w : View) (W : ℕ) → Views k S 0 g lies env → Fills k S 0 W to_lie w → StandsOverGrid t → Can 0 W no_variables 0 g lies to_lie t → locals_over t ≤ length k.locals → grid_phase_count t ≤ N → Right k 0 0 (print_grid spell forms ins fence env t w)
  grid_fine g lies to_lie env (Reshape y t) w W all tg st can locs phs =
      grid_fine g lies (written_lie y can.fours.0) env t (rewritten_view spell y w) (suc W) all (filled k spell S M d known 0 W y to_lie can.fours.0 w can.sound.0 can.fours.1 tg) st.1
      (record { written = can.written.1; sound = can.sound.1; layouts = can.layouts; low = can.low; fours = can.fours.2; deep = can.deep; variables = can.variables; privates = can.privates }) locs phs
  grid_fine g lies to_lie env (LetArray v b) w W all tg st can locs phs =
      let x = argument_view private_arrays spell ins env 0 v in
      let deep = can.deep in
      let vars = can.variables in
      let priv = can.privates in
      grid_fine (push (stacked g v) g) (push can.fours.0 lies) to_lie (push x env) b w W
      (with_view k spell S M d known 0 g lies env (stacked g v) can.fours.0 x (known.terms.arguments PrivateMemory 0 0 g env v all.0 can.sound.0 (omega arith)) (known.terms.lying PrivateMemory 0 lies env v can.fours.0 all.1 can.fours.1) all) tg st.1
      (record { written = can.written.1; sound = can.sound.1; layouts = can.layouts.1; low = can.low.1; fours = can.fours.3; deep = omega arith; variables = at_most (omega arith) (omega arith); privates = omega arith }) locs phs
  grid_fine g lies to_lie env (Map (Over Groups dimension.Y) m ls xs b) w W all tg st can locs phs =
      let x = argument_view private_arrays spell ins env 0 xs in
      let h = stacked g xs in
      let deep = can.deep in
      let vars = can.variables in
      let priv = can.privates in
      let most = can.layouts.0 in
      let room = known.room.fits in
      let body : ℕ → (ℕ → View) → View → Code → Code = λ l e to last. print_along_groups spell forms ins fence l e (load_count ls) b to in
      maps.statement_fine k spell S M d known (Over Groups dimension.Y) 0 0 (spell m) ls x h no_variables g env w W lies can.fours.0 to_lie body tg.0 (λ l e to last at. along_groups_come l (load_count ls) e b to st.1)
      (record {
        deep = omega arith;
        spelled = can.sound.0;
        fits = omega arith;
        variables = at_most (omega arith) (omega arith);
        array = known.terms.arguments PrivateMemory 0 0 g env xs all.0 can.sound.1 (omega arith);
        binders = all.0;
        array_lies = known.terms.lying PrivateMemory 0 lies env xs can.fours.0 all.1 can.fours.1;
        fours = can.fours.3;
        binders_lie = all.1;
        place_lies = tg.1;
      })
      (λ l i e to last le all all_lie at to_lies ok.
      along_groups_fine l i (load_count ls) (push h g) (push (bound_lie ls (element_lie can.fours.0)) lies) (element_lie to_lie) e b to W (all, all_lie) (at, to_lies) st.1
      (record { written = can.written.1; sound = can.sound.2; layouts = can.layouts.2; low = can.low.1; fours = can.fours.4; deep = omega arith; variables = at_most (omega arith) (omega arith); privates = omega arith }) locs phs)
      (forms.rows.once m)
  grid_fine g lies to_lie env _ w W all tg st can locs phs = absurd st
