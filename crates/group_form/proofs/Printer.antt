-- What the printer prints for a map over work-groups is printed for it.
use Rattle.std.proofs.Common.{◌≡◌, ℕ, suc, ◌+◌, ◌<◌, ◌^◌, Bool, true, false, List, [], ◌∷◌, ◌++◌, ◌*◌, length, length-append, refl, subst, arith}
use Rattle.lift_tree.specs.declared.term.Level.TheVariants.{Groups, Items}
use Rattle.lift_tree.specs.declared.term.Dimension.TheVariants.{X}
use Rattle.kernel_tree.specs.Formula.{Formula, LoopVariable}
use Rattle.kernel_tree.specs.Code.{Input, Output, Local as LocalArray, Code, End, start_value, stride_value}
use Rattle.kernel_tree.specs.Launch.{Launch, ids_of}
use Rattle.barrier_placement.specs.Fencing.{Fencing}
use Rattle.lift_ir.specs.Types.{Ty, PairOf, ArrayOf, measured}
use Rattle.lift_ir.specs.Fours.{Lie, Whole, element_lie, written_lie, bound_lie, LoadsFours, Lies, ReadsFours, WritesFours, no_lie}
use Rattle.lift_ir.specs.Layouts.{result_position}
use Rattle.lift_ir.specs.Terms.{LoadSet, LoadsScalars, Over, LocalMemory, Term, Bound, Source, Both, Project, Reshape, LetArray, Map, Copy, push, HasType, no_type}
use Rattle.lift_ir.specs.Scalars.{at_index}
use Rattle.lift_ir.specs.Loads.{covers, none, held_scalars, LoadsSuffice}
use Rattle.printed_form.specs.Arguments.{private_arrays, argument_view, local_arrays}
use Rattle.printed_form.specs.Counts.{Count, more, no_variables, load_count, local_count}
use Rattle.printed_form.specs.Form.{start_of, stride_of, IsTurnOf, IsLoaded, IsWritten, argument_marks}
use Rattle.printed_form.specs.MapForms.{MapForm, Looped, Guarded, Alone, MapForms, MakeTurns, form_over_groups, variables_in, AreTurns}
use Rattle.printed_form.specs.Marks.{Marks, laid_in, loaded_marks}
use Rattle.printed_form.specs.Means.{IsSpelled, Shows, LiesAs, AllShow}
use Rattle.printed_form.specs.Printer.{print_loaded, print_written, no_view, input_views, input_marks}
use Rattle.printed_form.specs.Views.{View, loaded_view, view_at, rewritten_view, placed_view, laid_view}
use Rattle.printed_form.specs.Whole.{no_marks, output_marks}
use Rattle.printed_form.proofs.Indices.{laid_cells}
use Rattle.printed_form.proofs.Held.{HeldIn, held_push, all_push, loaded_exprs, loaded_is, loaded_shows}
use Rattle.printed_form.proofs.Lies.{all_within, showing, laid_whole}
use Rattle.printed_form.proofs.Arguments.{kept_is, argument_shows, stands_argument}
use Rattle.printed_form.proofs.Printer.{written_is}
use Rattle.printed_form.proofs.Printed.{nothing_held, nothing_shown}
use Rattle.lift_ir.specs.Forms.{Stands}
use Rattle.group_phases.specs.Epochs.{fenced}
use Rattle.group_form.specs.Forms.{StandsInGroup, IsOfInputs, StandsOverGroups}
use Rattle.group_form.specs.Form.{Used, used_after, IsGroupArgument, IsGroupWritten, IsOverGroups}
use Rattle.group_form.specs.Stages.{marks_of}
use Rattle.group_form.specs.Uses.{phases_in}
use Rattle.group_form.specs.Printer.{print_local_map, turn_formula, depth_in, id_of, print_turns, print_group_argument, print_group_written, print_groups, GroupPrinterPrints}
use Rattle.group_form.proofs.Arguments.{group_argument, inputs_stand}
use Rattle.group_form.proofs.Shown.{CellsAs, own_as, turned_as, back_as, all_around, placed_as, placed_shows}

module _ (l : Launch) {A : Type 0} (num : A → ℕ) (forms : MapForms A) (spell : A → Formula) (spelled : (n : A) → num n < 2 ^ 31 → IsSpelled l (spell n) (num n)) (src : ℕ → Ty) (ins : ℕ → Marks) (sins : ℕ → View) (fence : ℕ → Fencing) (makes : MakeTurns forms num l) where
  -- the code of a local map's turn, up to what follows it
  inner_is : (item : ℕ) (t : Term A) (ts : List ℕ) (depth : ℕ) (turn : Formula) (j : ℕ) (loads : LoadSet) (p z : Lie) (x y : Ty) (e v : View) (f w : Marks) (lies : ℕ → Lie) (g : ℕ → Ty) (views : ℕ → View) (env : ℕ → Marks) (h : ℕ → List Bool → Bool) (a : ℕ) (n : Count) (last : Code)
      → length ts ≡ depth → LoadsScalars loads x → HasType num src (push x g) t y → LoadsSuffice (push (covers loads) h) t → Stands true t → LoadsFours p loads → WritesFours (push (bound_lie loads p) lies) z t
      → CellsAs l item p ts x (view_at turn e) (at_index j f) → CellsAs l item z ts y (view_at turn v) (at_index j w) → AllShow l item ts lies g views env → AllShow l item ts (λ v. Whole) src sins ins → HeldIn g views env h
      → (inner : Code)
      × IsLoaded l item ins ts loads (at_index j f) n (print_loaded loads (view_at turn e) n (print_written spell sins depth (push (loaded_view loads (view_at turn e) n) views) a (more n (load_count loads)) t (view_at turn v) last)) inner
      × IsWritten l item ins num ts (push (loaded_marks loads (at_index j f) n) env) a (more n (load_count loads)) t (at_index j w) inner last
  inner_is item t ts depth turn j loads p z x y e v f w lies g views env h a n last d ok typed nm sd fours writes c cells es gs r =
      let shown = loaded_view loads (view_at turn e) n in
      let marks = loaded_marks loads (at_index j f) n in
      let inner = print_written spell sins depth (push shown views) a (more n (load_count loads)) t (view_at turn v) last in (
        inner,
        loaded_is l item ins ts p loads x (view_at turn e) (at_index j f) n inner ok fours c.0 c.1,
        written_is l item num spell spelled src ins sins t ts depth (push (bound_lie loads p) lies) (push x g) (push shown views) (push marks env) (push (covers loads) h) a (more n (load_count loads)) y z (view_at turn v) (at_index j w) last d typed nm sd writes
            (all_push l item ts (bound_lie loads p) x shown marks lies g views env (loaded_shows l item ts p loads x (view_at turn e) (at_index j f) n ok fours c.0 c.1) es) gs
            (held_push x shown marks (covers loads) g views env h (λ cs u q. loaded_exprs loads x (view_at turn e) (at_index j f) n cs ok u q) r) cells.0 cells.1,
      )

  -- a local map in a form, where its argument and its value stand so around it
  local_map_is : (item : ℕ) (form : MapForm) (len : A) (t : Term A) (ts : List ℕ) (depth : ℕ) (loads : LoadSet) (p z : Lie) (x y : Ty) (e v : View) (f w : Marks) (lies : ℕ → Lie) (g : ℕ → Ty) (views : ℕ → View) (env : ℕ → Marks) (h : ℕ → List Bool → Bool) (a : ℕ) (n : Count) (rest : Code)
      → length ts ≡ depth → num len < 2 ^ 31 → LoadsScalars loads x → HasType num src (push x g) t y → LoadsSuffice (push (covers loads) h) t → Stands true t → LoadsFours (element_lie p) loads → WritesFours (push (bound_lie loads (element_lie p)) lies) (element_lie z) t
      → CellsAs l item p ts (ArrayOf (num len) x) e f → CellsAs l item z ts (ArrayOf (num len) y) v w → AllShow l item ts lies g views env → AllShow l item ts (λ v. Whole) src sins ins → HeldIn g views env h
      → AreTurns l item ins form (Over Items X) ts (num len)
      (λ us j body last. (inner : Code) × IsLoaded l item ins us loads (at_index j f) n body inner × IsWritten l item ins num us (push (loaded_marks loads (at_index j f) n) env) a (more n (load_count loads)) t (at_index j w) inner last)
      (print_turns form (Over Items X) (spell len)
      (λ last. print_loaded loads (view_at (turn_formula form (Over Items X) depth) e) n (print_written spell sins (depth_in form depth) (push (loaded_view loads (view_at (turn_formula form (Over Items X) depth) e) n) views) a (more n (load_count loads)) t (view_at (turn_formula form (Over Items X) depth) v) last)) rest) rest
  local_map_is item Looped len t ts depth loads p z x y e v f w lies g views env h a n rest d short ok typed nm sd fours writes c cells es gs r = (
    spell len,
    print_loaded loads (view_at (LoopVariable depth) e) n (print_written spell sins (suc depth) (push (loaded_view loads (view_at (LoopVariable depth) e) n) views) a (more n (load_count loads)) t (view_at (LoopVariable depth) v) End),
    refl,
    (spelled len short).0,
    λ j jl mine.
        let more = length-append ts (j ∷ []) in
        inner_is item t (ts ++ j ∷ []) (suc depth) (LoopVariable depth) j loads (element_lie p) (element_lie z) x y e v f w lies g views env h a n End (omega arith) ok typed nm sd fours writes
        (turned_as l item p ts depth j (num len) x e f d jl short c) (turned_as l item z ts depth j (num len) y v w d jl short cells) (all_within l item ts j lies g views env es) (all_within l item ts j (λ v. Whole) src sins ins gs) r,
  )
  local_map_is item Guarded len t ts depth loads p z x y e v f w lies g views env h a n rest d short ok typed nm sd fours writes c cells es gs r = (
    spell len,
    print_loaded loads (view_at (id_of (Over Items X)) e) n (print_written spell sins depth (push (loaded_view loads (view_at (id_of (Over Items X)) e) n) views) a (more n (load_count loads)) t (view_at (id_of (Over Items X)) v) End),
    refl,
    (spelled len short).0,
    λ j jl mine. inner_is item t ts depth (id_of (Over Items X)) j loads (element_lie p) (element_lie z) x y e v f w lies g views env h a n End d ok typed nm sd fours writes (own_as l item p ts (Over Items X) j (num len) x e f mine jl short c) (own_as l item z ts (Over Items X) j (num len) y v w mine jl short cells) es gs r,
  )
  local_map_is item Alone len t ts depth loads p z x y e v f w lies g views env h a n rest d short ok typed nm sd fours writes c cells es gs r =
      λ j jl mine. inner_is item t ts depth (id_of (Over Items X)) j loads (element_lie p) (element_lie z) x y e v f w lies g views env h a n rest d ok typed nm sd fours writes (own_as l item p ts (Over Items X) j (num len) x e f mine jl short c) (own_as l item z ts (Over Items X) j (num len) y v w mine jl short cells) es gs r

  -- within a map over groups in a form
  module _ (outer : MapForm) (turns : ℕ) where
    abbrev around : ℕ → List ℕ
    around i = variables_in outer [] i

    abbrev depth : ℕ
    depth = depth_in outer 0

    abbrev Own : (item i : ℕ) → Type 0
    Own item i = IsTurnOf l item (Over Groups X) i

    around_long : (i : ℕ) → length (around i) ≡ depth
    around_long i = by_form outer
      where
        by_form : (form : MapForm) → length (variables_in form [] i) ≡ depth_in form 0
        by_form Looped = refl
        by_form Guarded = refl
        by_form Alone = refl

    abbrev AtOwn : ((item i : ℕ) → Type 0) → Type 0
    AtOwn P = (item i : ℕ) → i < turns → Own item i → P item i

    abbrev AllShowing : (ℕ → Lie) → (ℕ → Ty) → (ℕ → View) → ((turn var : ℕ) → Marks) → Type 0
    AllShowing lies g views env = AtOwn (λ item i. AllShow l item (around i) lies g views (env i))

    abbrev AllHolding : (ℕ → Ty) → (ℕ → View) → ((turn var : ℕ) → Marks) → (ℕ → List Bool → Bool) → Type 0
    AllHolding g views env h = (i : ℕ) → i < turns → HeldIn g views (env i) h

    abbrev Inputs : Type 0
    Inputs = (item i : ℕ) → AllShow l item (around i) (λ v. Whole) src sins ins

    abbrev Printed : ((turn var : ℕ) → Marks) → (ℕ → View) → Used → Term A → (rest : Code) → Type 0
    Printed env views u t rest = IsGroupArgument num forms l ins fence outer turns env u t (print_group_argument spell forms sins fence depth views u t rest) rest

    -- what stands for an argument shows it, and lies so
    shown : (t : Term A) (lies : ℕ → Lie) (g : ℕ → Ty) (views : ℕ → View) (env : (turn var : ℕ) → Marks) (h : ℕ → List Bool → Bool) (k : ℕ) (ty : Ty) (z : Lie) → HasType num src g t ty → LoadsSuffice h t → StandsInGroup false t → AllShowing lies g views env → Inputs → Lies lies t z
        → AtOwn (λ item i. Shows l item (around i) ty (argument_view local_arrays spell sins views k t) (marks_of num ins env k t i) × LiesAs l item z (around i) ty (argument_view local_arrays spell sins views k t) (marks_of num ins env k t i))
    shown t lies g views env h k ty z ok nm sd es gs s item i il own =
        argument_shows local_arrays l item num spell spelled src ins sins (around i) (gs item i) t lies g views (env i) h k ty z (group_argument t sd) ok nm (es item i il own) s

    -- in the body of a let
    let_shows : (v : Term A) (lies : ℕ → Lie) (g : ℕ → Ty) (views : ℕ → View) (env : (turn var : ℕ) → Marks) (h : ℕ → List Bool → Bool) (k : ℕ) (ty : Ty) (z : Lie) → HasType num src g v ty → LoadsSuffice h v → StandsInGroup false v → AllShowing lies g views env → Inputs → Lies lies v z
        → AllShowing (push z lies) (push ty g) (push (argument_view local_arrays spell sins views k v) views) (λ i. push (marks_of num ins env k v i) (env i))
    let_shows v lies g views env h k ty z ok nm sd es gs s item i il own =
        let x = argument_view local_arrays spell sins views k v in
        let y = marks_of num ins env k v i in
        let p = shown v lies g views env h k ty z ok nm sd es gs s item i il own in
        all_push l item (around i) z ty x y lies g views (env i) (showing l item z (around i) ty x y p.0 p.1) (es item i il own)

    let_holds : (v : Term A) (g : ℕ → Ty) (views : ℕ → View) (env : (turn var : ℕ) → Marks) (h : ℕ → List Bool → Bool) (k : ℕ) (ty : Ty) → HasType num src g v ty → AllHolding g views env h → AllHolding (push ty g) (push (argument_view local_arrays spell sins views k v) views) (λ i. push (marks_of num ins env k v i) (env i)) (push (held_scalars h v) h)
    let_holds v g views env h k ty ok r i il =
        held_push ty (argument_view local_arrays spell sins views k v) (marks_of num ins env k v i) (held_scalars h v) g views (env i) h (λ cs w z. kept_is local_arrays num spell src ins sins v g views (env i) h k ty cs ok w z (r i il)) (r i il)

    mutual
      argument_is : (t : Term A) (lies : ℕ → Lie) (g : ℕ → Ty) (views : ℕ → View) (env : (turn var : ℕ) → Marks) (h : ℕ → List Bool → Bool) (u : Used) (ty : Ty) (rest : Code) → HasType num src g t ty → LoadsSuffice h t → StandsInGroup false t → ReadsFours lies t → AllShowing lies g views env → Inputs → AllHolding g views env h → Printed env views u t rest
      argument_is (Bound v) lies g views env h u ty rest ok nm sd fs es gs r = refl
      argument_is (Source v) lies g views env h u ty rest ok nm sd fs es gs r = refl
      argument_is (Both true x y) lies g views env h u ty rest ok nm sd fs es gs r =
          let next = print_group_argument spell forms sins fence depth views (used_after u x) y rest in
          (next, argument_is x lies g views env h u (ArrayOf ok.0 ok.1) next ok.4 nm.0 sd.0 fs.0 es gs r, argument_is y lies g views env h (used_after u x) (ArrayOf ok.0 ok.2) rest ok.5 nm.1 sd.1 fs.1 es gs r)
      argument_is (Project false x) lies g views env h u ty rest ok nm sd fs es gs r = argument_is x lies g views env h u (PairOf ty ok.0) rest ok.1 nm sd fs es gs r
      argument_is (Project true x) lies g views env h u ty rest ok nm sd fs es gs r = argument_is x lies g views env h u (PairOf ok.0 ty) rest ok.1 nm sd fs es gs r
      argument_is (Reshape y x) lies g views env h u ty rest ok nm sd fs es gs r = argument_is x lies g views env h u ok.0 rest ok.1 nm sd fs es gs r
      argument_is (LetArray v b) lies g views env h u ty rest ok nm sd fs es gs r =
          let x = argument_view local_arrays spell sins views u.locals v in
          let y = marks_of num ins env u.locals v in
          let next = print_group_argument spell forms sins fence depth (push x views) (used_after u v) b rest in (
            next,
            argument_is v lies g views env h u ok.0 next ok.1 nm.0 sd.0 fs.2 es gs r,
            argument_is b (push fs.0 lies) (push ok.0 g) (push x views) (λ i. push (y i) (env i)) (push (held_scalars h v) h) (used_after u v) ty rest ok.2 nm.1 sd.1 fs.3 (let_shows v lies g views env h u.locals ok.0 fs.0 ok.1 nm.0 sd.0 es gs fs.1) gs (let_holds v g views env h u.locals ok.0 ok.1 r),
          )
      argument_is (Copy LocalMemory t2 x) lies g views env h u ty rest ok nm sd fs es gs r =
          let first = u.locals + local_count x in
          group_written_is x lies g views env h u t2 Whole (laid_view LocalArray first t2) (λ i. laid_in LocalArray first t2) rest (subst (HasType num src g x) ok.0 ok.2) nm.2 sd fs es gs r
          (λ item i il own. (laid_cells l item num spell spelled (around i) LocalArray first t2 ok.1 nm.1 nm.0, laid_whole l item (around i) LocalArray first t2 nm.1 nm.0))
      argument_is _ lies g views env h u ty rest ok nm sd fs es gs r = absurd (assumption)

      group_written_is : (t : Term A) (lies : ℕ → Lie) (g : ℕ → Ty) (views : ℕ → View) (env : (turn var : ℕ) → Marks) (h : ℕ → List Bool → Bool) (u : Used) (ty : Ty) (z : Lie) (v : View) (w : ℕ → Marks) (rest : Code) → HasType num src g t ty → LoadsSuffice h t → StandsInGroup true t → WritesFours lies z t → AllShowing lies g views env → Inputs → AllHolding g views env h
          → AtOwn (λ item i. CellsAs l item z (around i) ty v (w i))
          → IsGroupWritten num forms l ins fence outer turns env u t w (print_group_written spell forms sins fence depth views u t v rest) rest
      group_written_is (Reshape y t) lies g views env h u ty z v w rest ok nm sd fs es gs r cells =
          (sd.0, group_written_is t lies g views env h u ok.0 (written_lie y fs.0) (rewritten_view spell y v) (λ i cs q. w i cs (result_position num y q)) rest ok.1 nm sd.1 fs.2 es gs r (λ item i il own. back_as l item num spell spelled z fs.0 (around i) y ok.0 ty v (w i) fs.1 sd.0 ok.2 ok.3 ok.4 (cells item i il own)))
      group_written_is (LetArray s b) lies g views env h u ty z v w rest ok nm sd fs es gs r cells =
          let x = argument_view local_arrays spell sins views u.locals s in
          let y = marks_of num ins env u.locals s in
          let next = print_group_written spell forms sins fence depth (push x views) (used_after u s) b v rest in (
            next,
            argument_is s lies g views env h u ok.0 next ok.1 nm.0 sd.0 fs.2 es gs r,
            group_written_is b (push fs.0 lies) (push ok.0 g) (push x views) (λ i. push (y i) (env i)) (push (held_scalars h s) h) (used_after u s) ty z v w rest ok.2 nm.1 sd.1 fs.3 (let_shows s lies g views env h u.locals ok.0 fs.0 ok.1 nm.0 sd.0 es gs fs.1) gs (let_holds s g views env h u.locals ok.0 ok.1 r) cells,
          )
      group_written_is (Map (Over Items X) z0 loads xs b) lies g views env h u ty z v w rest ok nm sd fs es gs r cells =
          let len = num z0 in
          let e = argument_view local_arrays spell sins views u.locals xs in
          let f = marks_of num ins env u.locals xs in
          let u2 = used_after u xs in
          let map = print_local_map spell forms sins fence depth views u2 z0 loads e b v rest in
          let mid = fenced (fence (u.phases + phases_in xs)) map in
          let around_map = shown xs lies g views env h u.locals (ArrayOf len ok.0) fs.0 ok.4 nm.0 sd.0 es gs fs.1 in (
            mid,
            map,
            argument_is xs lies g views env h u (ArrayOf len ok.0) mid ok.4 nm.0 sd.0 fs.2 es gs r,
            refl,
            λ item i here il own. local_map_is item (forms.local z0) z0 b (around i) depth loads fs.0 z ok.0 ok.1 e v (f i) (w i) lies g views (env i) h u2.privates u2.variables rest (around_long i) ok.2 ok.3 ok.5 nm.1 sd.1 fs.3 fs.4
                (around_map item i il own) (subst (λ t. CellsAs l item z (around i) t v (w i)) ok.6 (cells item i il own)) (es item i il own) (gs item i) (r i il),
          )
      group_written_is _ lies g views env h u ty z v w rest ok nm sd fs es gs r cells = absurd (assumption)

  -- what stands for an argument of inputs shows it, and lies so
  input_shows : (item : ℕ) (t : Term A) (lies : ℕ → Lie) (g : ℕ → Ty) (views : ℕ → View) (env : ℕ → Marks) (h : ℕ → List Bool → Bool) (a : ℕ) (ty : Ty) (z : Lie) → HasType num src g t ty → LoadsSuffice h t → IsOfInputs t → AllShow l item [] lies g views env → AllShow l item [] (λ v. Whole) src sins ins → Lies lies t z
      → Shows l item [] ty (argument_view private_arrays spell sins views a t) (argument_marks l ins num env a t) × LiesAs l item z [] ty (argument_view private_arrays spell sins views a t) (argument_marks l ins num env a t)
  input_shows item t lies g views env h a ty z ok nm sd es gs s =
      argument_shows private_arrays l item num spell spelled src ins sins [] gs t lies g views env h a ty z (stands_argument t (inputs_stand t sd)) ok nm es s

  -- what lies at a group's turn
  group_as : (once : Bool) (len : ℕ) → (once ≡ true → len ≡ 1) → (item i : ℕ) (z : Lie) (t : Ty) (x : View) (y : Marks) → i < len → IsTurnOf l item (Over Groups X) i → len < 2 ^ 31 → CellsAs l item z [] (ArrayOf len t) x y
      → CellsAs l item (element_lie z) (variables_in (form_over_groups once) [] i) t (view_at (turn_formula (form_over_groups once) (Over Groups X) 0) x) (at_index i y)
  group_as false len one item i z t x y il own short h = turned_as l item z [] 0 i len t x y refl il short h
  group_as true len one item i z t x y il own short h =
      let e = one refl in
      own_as l item z [] (Over Groups X) i len t x y (first_start i (start_value (ids_of l item) (start_of (Over Groups X))) (own.0 * stride_value (ids_of l item) (stride_of (Over Groups X))) (omega arith) own.1) il short h
    where
      first_start : (i s m : ℕ) → i < 1 → i ≡ s + m → i ≡ s
      first_start i s m lt e = omega arith

  -- the whole term
  pub over_groups_is : (t : Term A) (lies : ℕ → Lie) (g : ℕ → Ty) (views : ℕ → View) (env : ℕ → Marks) (h : ℕ → List Bool → Bool) (ty : Ty) (z : Lie) (v : View) (w : Marks) → HasType num src g t ty → LoadsSuffice h t → StandsOverGroups t → WritesFours lies z t → ((item : ℕ) → AllShow l item [] lies g views env) → ((item : ℕ) → AllShow l item [] (λ v. Whole) src sins ins) → HeldIn g views env h
      → ((item : ℕ) → CellsAs l item z [] ty v w) → IsOverGroups num forms l ins fence env t w (print_groups spell forms sins fence views t v)
  over_groups_is (Reshape y t) lies g views env h ty z v w ok nm sd fs es gs r cells =
      (sd.0, over_groups_is t lies g views env h ok.0 (written_lie y fs.0) (rewritten_view spell y v) (λ cs q. w cs (result_position num y q)) ok.1 nm sd.1 fs.2 es gs r (λ item. back_as l item num spell spelled z fs.0 [] y ok.0 ty v w fs.1 sd.0 ok.2 ok.3 ok.4 (cells item)))
  over_groups_is (LetArray s b) lies g views env h ty z v w ok nm sd fs es gs r cells =
      let x = argument_view private_arrays spell sins views 0 s in
      let y = argument_marks l ins num env 0 s in
      over_groups_is b (push fs.0 lies) (push ok.0 g) (push x views) (push y env) (push (held_scalars h s) h) ty z v w ok.2 nm.1 sd.1 fs.3
      (λ item. let p = input_shows item s lies g views env h 0 ok.0 fs.0 ok.1 nm.0 sd.0 (es item) (gs item) fs.1 in all_push l item [] fs.0 ok.0 x y lies g views env (showing l item fs.0 [] ok.0 x y p.0 p.1) (es item)) gs
      (held_push ok.0 x y (held_scalars h s) g views env h (λ cs q k. kept_is private_arrays num spell src ins sins s g views env h 0 ok.0 cs ok.1 q k r) r) cells
  over_groups_is (Map (Over Groups X) z0 loads xs b) lies g views env h ty z v w ok nm sd fs es gs r cells =
      let len = num z0 in
      let outer = form_over_groups (forms.once z0) in
      let turn = turn_formula outer (Over Groups X) 0 in
      let e = argument_view private_arrays spell sins views 0 xs in
      let f = argument_marks l ins num env 0 xs in
      let el = view_at turn e in
      let x = loaded_view loads el no_variables in
      let marks = λ (i : ℕ). loaded_marks loads (at_index i f) no_variables in
      let lie = element_lie fs.0 in
      let u : Used = record { locals = 0; privates = 0; variables = load_count loads; phases = 0 } in
      let last = fenced (fence (phases_in b)) End in
      let first = print_group_written spell forms sins fence (depth_in outer 0) (push x views) u b (view_at turn v) last in
      let shows = λ (item : ℕ). input_shows item xs lies g views env h 0 (ArrayOf len ok.0) fs.0 ok.4 nm.0 sd.0 (es item) (gs item) fs.1 in
      let cells2 = λ (item : ℕ). subst (λ t. CellsAs l item z [] t v w) ok.6 (cells item) in
      let c = λ (item i : ℕ) (il : i < len) (own : IsTurnOf l item (Over Groups X) i). group_as (forms.once z0) len (makes.once z0) item i fs.0 ok.0 e f il own ok.2 (shows item) in (
        spell z0,
        print_loaded loads el no_variables first,
        refl,
        (spelled z0 ok.2).0,
        (
          first,
          last,
          λ item i here il own. let at = c item i il own in loaded_is l item ins (variables_in outer [] i) lie loads ok.0 el (at_index i f) no_variables first ok.3 fs.3 at.0 at.1,
          group_written_is outer len b (push (bound_lie loads lie) lies) (push ok.0 g) (push x views) (λ i. push (marks i) env) (push (covers loads) h) u ok.1 (element_lie z) (view_at turn v) (λ i. at_index i w) last ok.5 nm.1 sd.1 fs.4
              (λ item i il own.
              let at = c item i il own in
              all_push l item (variables_in outer [] i) (bound_lie loads lie) ok.0 x (marks i) lies g views env (loaded_shows l item (variables_in outer [] i) lie loads ok.0 el (at_index i f) no_variables ok.3 fs.3 at.0 at.1) (all_around l item outer [] i lies g views env (es item)))
              (λ item i. all_around l item outer [] i (λ v. Whole) src sins ins (gs item))
              (λ i il. held_push ok.0 x (marks i) (covers loads) g views env h (λ cs k q. loaded_exprs loads ok.0 el (at_index i f) no_variables cs ok.3 k q) r)
              (λ item i il own. group_as (forms.once z0) len (makes.once z0) item i z ok.1 v w il own ok.2 (cells2 item)),
          refl,
        ),
      )
  over_groups_is _ lies g views env h ty z v w ok nm sd fs es gs r cells = absurd (assumption)

pub group_code_is : (A : Type 0) → GroupPrinterPrints A
group_code_is A l num forms makes spell spelled first src fence t ty stands fours ok nm out inputs =
    over_groups_is l num forms spell spelled (λ v. measured num (src v)) (input_marks num first src) (input_views spell first src) fence makes t no_lie no_type no_view no_marks (λ v. none) (measured num ty) Whole (placed_view spell Output 0 ty) (output_marks (measured num ty)) ok nm stands fours
    (λ item. nothing_shown l item) (λ item v. placed_shows l item num spell spelled Input (first v) (src v) (inputs v)) (nothing_held) (λ item. placed_as l item num spell spelled Output 0 ty out)
