-- What the printer prints for a map over rows of work-groups is printed for it.
use Rattle.std.proofs.Common.{◌≡◌, ℕ, ◌+◌, ◌*◌, ◌/◌, ◌%◌, ◌<◌, ◌^◌, Bool, true, false, List, [], ◌∷◌, ◌++◌, length, length-append, refl, subst, arith}
use Rattle.std.proofs.Math.Nat.{mod-lt}
use Rattle.std.proofs.lemmas.Nat.{div-add-mod'}
use Rattle.lift_tree.specs.declared.term.Level.TheVariants.{Groups, Items}
use Rattle.lift_tree.specs.declared.term.Dimension.TheVariants as dimension
use Rattle.kernel_tree.specs.declared.tree.Dimension.TheVariants.{X, Y}
use Rattle.kernel_tree.specs.Formula.{Formula}
use Rattle.kernel_tree.specs.Code.{FromGroupId, FromLocalId, ByGroupCount, ByLocalSize, Start, Stride, Input, Output, Local as LocalArray, Code, End, start_value, stride_value}
use Rattle.kernel_tree.specs.Launch.{Launch, ids_of, item_count}
use Rattle.barrier_placement.specs.Fencing.{Fencing}
use Rattle.lift_ir.specs.Types.{Ty, PairOf, ArrayOf, measured}
use Rattle.lift_ir.specs.Forms.{Stands}
use Rattle.lift_ir.specs.Fours.{Lie, Whole, element_lie, written_lie, bound_lie, LoadsFours, Lies, ReadsFours, WritesFours, no_lie}
use Rattle.lift_ir.specs.Layouts.{result_position}
use Rattle.lift_ir.specs.Terms.{LoadSet, LoadsScalars, Over, LocalMemory, Term, Bound, Source, Both, Project, Reshape, LetArray, Map, Copy, push, HasType, no_type}
use Rattle.lift_ir.specs.Scalars.{at_index}
use Rattle.lift_ir.specs.Loads.{covers, none, held_scalars, LoadsSuffice}
use Rattle.printed_form.specs.Arguments.{private_arrays, argument_view, local_arrays, marks_in}
use Rattle.printed_form.specs.Counts.{Count, more, no_variables, load_count, variable_count, private_count, local_count}
use Rattle.printed_form.specs.Form.{IsTurn, IsLoaded, IsWritten, argument_marks}
use Rattle.printed_form.specs.MapForms.{MapForm, Looped, Guarded, Alone, form_over_groups, variables_in, TurnCode, AreTurnsFrom}
use Rattle.printed_form.specs.Marks.{Marks, laid_in, loaded_marks}
use Rattle.printed_form.specs.Means.{IsSpelled, Shows, LiesAs, AllShow}
use Rattle.printed_form.specs.Printer.{print_loaded, print_written, no_view, input_views, input_marks}
use Rattle.printed_form.specs.Views.{View, loaded_view, view_at, rewritten_view, placed_view, laid_view}
use Rattle.printed_form.specs.Whole.{no_marks, output_marks}
use Rattle.printed_form.proofs.Indices.{laid_cells}
use Rattle.printed_form.proofs.Held.{HeldIn, held_push, all_push, loaded_exprs, loaded_is, loaded_shows}
use Rattle.printed_form.proofs.Lies.{showing, laid_whole}
use Rattle.printed_form.proofs.Arguments.{IsArgument, kept_is, argument_shows}
use Rattle.printed_form.proofs.Printer.{written_is}
use Rattle.printed_form.proofs.Printed.{nothing_held, nothing_shown}
use Rattle.group_phases.specs.Epochs.{fenced}
use Rattle.group_phases.specs.GridPhases.{IsGroupRow, IsGroupColumn}
use Rattle.group_phases.specs.Grids.{Grid, places}
use Rattle.group_phases.proofs.Grids.{some_factor}
use Rattle.group_phases.proofs.TurnForms.{below}
use Rattle.group_form.specs.Forms.{IsOfInputs}
use Rattle.group_form.specs.Form.{Used, used_after}
use Rattle.group_form.specs.GridForm.{IsAlongRow, IsGridArgument, IsGridWritten, IsAlongGroups, IsOverGrid}
use Rattle.group_form.specs.GridTerms.{GridForms, StandsAlongRow, StandsInGrid, StandsAlongGroups, StandsOverGrid}
use Rattle.group_form.specs.GridTheorem.{MakeGridTurns}
use Rattle.group_form.specs.GridPrinter.{print_place, print_along_row, print_row, print_local_nest, print_grid_argument, print_grid_written, print_along_groups, print_grid, GridPrinterPrints}
use Rattle.group_form.specs.Printer.{depth_in, start_formula, turn_from, print_turns_from}
use Rattle.group_form.specs.Stages.{marks_of}
use Rattle.group_form.specs.Uses.{phases_in}
use Rattle.group_form.proofs.Shown.{CellsAs, element_as, start_means, turned_as, back_as, all_around, placed_as, placed_shows}

-- arguments for the items of a group, and of inputs alone, are arguments
grid_argument : {A : Type 0} (t : Term A) → StandsInGrid false t → IsArgument local_arrays t
grid_argument (Bound v) sd = tt
grid_argument (Source s) sd = tt
grid_argument (Both true x y) sd = (grid_argument x sd.0, grid_argument y sd.1)
grid_argument (Project s x) sd = grid_argument x sd
grid_argument (Reshape y x) sd = grid_argument x sd
grid_argument (LetArray v b) sd = (grid_argument v sd.0, grid_argument b sd.1)
grid_argument (Copy LocalMemory ty x) sd = refl
grid_argument _ sd = absurd sd

local_inputs : {A : Type 0} (t : Term A) → IsOfInputs t → IsArgument local_arrays t
local_inputs (Bound v) sd = tt
local_inputs (Source s) sd = tt
local_inputs (Both true x y) sd = (local_inputs x sd.0, local_inputs y sd.1)
local_inputs (Project s x) sd = local_inputs x sd
local_inputs (Reshape y x) sd = local_inputs x sd
local_inputs (LetArray v b) sd = (local_inputs v sd.0, local_inputs b sd.1)
local_inputs _ sd = absurd sd

private_inputs : {A : Type 0} (t : Term A) → IsOfInputs t → IsArgument private_arrays t
private_inputs (Bound v) sd = tt
private_inputs (Source s) sd = tt
private_inputs (Both true x y) sd = (private_inputs x sd.0, private_inputs y sd.1)
private_inputs (Project s x) sd = private_inputs x sd
private_inputs (Reshape y x) sd = private_inputs x sd
private_inputs (LetArray v b) sd = (private_inputs v sd.0, private_inputs b sd.1)
private_inputs _ sd = absurd sd

-- a turn that is taken in a form
abbrev TakenIn : MapForm → Launch → (item : ℕ) → Start → Stride → ℕ → Type 0
TakenIn Looped l item s c j = IsTurn l item s c j
TakenIn Guarded l item s c j = j ≡ start_value (ids_of l item) s
TakenIn Alone l item s c j = j ≡ start_value (ids_of l item) s

-- how many loops are around it
long_in : (form : MapForm) (ts : List ℕ) (depth j : ℕ) → length ts ≡ depth → length (variables_in form ts j) ≡ depth_in form depth
long_in Looped ts depth j d = let more = length-append ts (j ∷ []) in omega arith
long_in Guarded ts depth j d = d
long_in Alone ts depth j d = d

-- what lies at a turn
turn_as : (l : Launch) (item : ℕ) (form : MapForm) (s : Start) (c : Stride) (z : Lie) (ts : List ℕ) (depth j n : ℕ) (t : Ty) (x : View) (y : Marks) → length ts ≡ depth → j < n → n < 2 ^ 31 → TakenIn form l item s c j → CellsAs l item z ts (ArrayOf n t) x y
    → CellsAs l item (element_lie z) (variables_in form ts j) t (view_at (turn_from form s depth) x) (at_index j y)
turn_as l item Looped s c z ts depth j n t x y d lt small own h = turned_as l item z ts depth j n t x y d lt small h
turn_as l item Guarded s c z ts depth j n t x y d lt small own h = element_as l item z ts (start_formula s) j n t x y (λ us. start_means l item s j (ts ++ us) own (omega arith)) lt h
turn_as l item Alone s c z ts depth j n t x y d lt small own h = element_as l item z ts (start_formula s) j n t x y (λ us. start_means l item s j (ts ++ us) own (omega arith)) lt h

-- a turn of a map over groups, which has one turn where it is an `if`
taken_of_groups : (once : Bool) (len : ℕ) → (once ≡ true → len ≡ 1) → (l : Launch) (item : ℕ) (s : Start) (c : Stride) (j : ℕ) → j < len → IsTurn l item s c j → TakenIn (form_over_groups once) l item s c j
taken_of_groups false len one l item s c j lt own = own
taken_of_groups true len one l item s c j lt own =
    let e = one refl in
    first_start j (start_value (ids_of l item) s) (own.0 * stride_value (ids_of l item) c) (omega arith) own.1
  where
    first_start : (i s m : ℕ) → i < 1 → i ≡ s + m → i ≡ s
    first_start i s m lt e = omega arith

module _ (l : Launch) {A : Type 0} (num : A → ℕ) (forms : GridForms A) (spell : A → Formula) (spelled : (n : A) → num n < 2 ^ 31 → IsSpelled l (spell n) (num n)) (src : ℕ → Ty) (ins : ℕ → Marks) (sins : ℕ → View) (fence : ℕ → Fencing) (makes : MakeGridTurns forms num l) where
  -- a map's statement, where each turn is printed as it should
  turns_are : (item : ℕ) (form : MapForm) (s : Start) (c : Stride) (ts : List ℕ) (len : A) (B : TurnCode) (turn : Code → Code) (rest : Code) → num len < 2 ^ 31
      → ((j : ℕ) (last : Code) → j < num len → TakenIn form l item s c j → B (variables_in form ts j) j (turn last) last)
      → AreTurnsFrom l item form s c ts (num len) B (print_turns_from form s c (spell len) turn rest) rest
  turns_are item Looped s c ts len B turn rest short f = (spell len, turn End, refl, (spelled len short).0, λ j jl own. f j End jl own)
  turns_are item Guarded s c ts len B turn rest short f = (spell len, turn End, refl, (spelled len short).0, λ j jl own. f j End jl own)
  turns_are item Alone s c ts len B turn rest short f = λ j jl own. f j rest jl own

  -- as this item comes there, in loops with these variables
  module _ (item : ℕ) where
    -- a place of a row
    place_is : (t : Term A) (ts : List ℕ) (depth : ℕ) (turn : Formula) (j : ℕ) (loads : LoadSet) (p z : Lie) (x y : Ty) (e v : View) (f w : Marks) (lies : ℕ → Lie) (g : ℕ → Ty) (views : ℕ → View) (env : ℕ → Marks) (h : ℕ → List Bool → Bool) (a : ℕ) (n : Count) (last : Code)
        → length ts ≡ depth → LoadsScalars loads x → HasType num src (push x g) t y → LoadsSuffice (push (covers loads) h) t → Stands true t → LoadsFours p loads → WritesFours (push (bound_lie loads p) lies) z t
        → CellsAs l item p ts x (view_at turn e) (at_index j f) → CellsAs l item z ts y (view_at turn v) (at_index j w) → AllShow l item ts lies g views env → AllShow l item ts (λ v. Whole) src sins ins → HeldIn g views env h
        → (inner : Code)
        × IsLoaded l item ins ts loads (at_index j f) n (print_place spell forms sins fence turn depth views a n loads e t v last) inner
        × IsWritten l item ins num ts (push (loaded_marks loads (at_index j f) n) env) a (more n (load_count loads)) t (at_index j w) inner last
    place_is t ts depth turn j loads p z x y e v f w lies g views env h a n last d ok typed nm sd fours writes c cells es gs r =
        let shown = loaded_view loads (view_at turn e) n in
        let marks = loaded_marks loads (at_index j f) n in
        let inner = print_written spell sins depth (push shown views) a (more n (load_count loads)) t (view_at turn v) last in (
          inner,
          loaded_is l item ins ts p loads x (view_at turn e) (at_index j f) n inner ok fours c.0 c.1,
          written_is l item num spell spelled src ins sins t ts depth (push (bound_lie loads p) lies) (push x g) (push shown views) (push marks env) (push (covers loads) h) a (more n (load_count loads)) y z (view_at turn v) (at_index j w) last d typed nm sd writes
              (all_push l item ts (bound_lie loads p) x shown marks lies g views env (loaded_shows l item ts p loads x (view_at turn e) (at_index j f) n ok fours c.0 c.1) es) gs
              (held_push x shown marks (covers loads) g views env h (λ cs u q. loaded_exprs loads x (view_at turn e) (at_index j f) n cs ok u q) r) cells.0 cells.1,
        )

    -- a map along a row
    along_is : (t : Term A) (ts : List ℕ) (depth row : ℕ) (lies : ℕ → Lie) (g : ℕ → Ty) (views : ℕ → View) (env : ℕ → Marks) (h : ℕ → List Bool → Bool) (k a : ℕ) (n : Count) (ty : Ty) (z : Lie) (v : View) (w : Marks) (rest : Code)
        → length ts ≡ depth → HasType num src g t ty → LoadsSuffice h t → StandsAlongRow t → WritesFours lies z t → CellsAs l item z ts ty v w → AllShow l item ts lies g views env → AllShow l item ts (λ v. Whole) src sins ins → HeldIn g views env h
        → IsAlongRow num forms l ins item k a n env t w ts row (print_along_row spell forms sins fence depth views k a n t v rest) rest
    along_is (Reshape y t) ts depth row lies g views env h k a n ty z v w rest d ok nm sd fs cells es gs r =
        (sd.0, along_is t ts depth row lies g views env h k a n ok.0 (written_lie y fs.0) (rewritten_view spell y v) (λ cs q. w cs (result_position num y q)) rest d ok.1 nm sd.1 fs.2 (back_as l item num spell spelled z fs.0 ts y ok.0 ty v w fs.1 sd.0 ok.2 ok.3 ok.4 cells) es gs r)
    along_is (Map (Over Items dimension.X) m loads xs b) ts depth row lies g views env h k a n ty z v w rest d ok nm sd fs cells es gs r =
        let form = forms.columns.local m in
        let e = argument_view local_arrays spell sins views k xs in
        let f = marks_in local_arrays num ins env k xs in
        let c = argument_shows local_arrays l item num spell spelled src ins sins ts gs xs lies g views env h k (ArrayOf (num m) ok.0) fs.0 (local_inputs xs sd.0) ok.4 nm.0 es fs.1 in
        let to = subst (λ t. CellsAs l item z ts t v w) ok.6 cells in
        let a2 = a + private_count xs in
        let n2 = more n (variable_count xs) in
        turns_are item form (FromLocalId X) (ByLocalSize X) ts m _ (print_place spell forms sins fence (turn_from form (FromLocalId X) depth) (depth_in form depth) views a2 n2 loads e b v) rest ok.2
        (λ j last jl own.
        place_is b (variables_in form ts j) (depth_in form depth) (turn_from form (FromLocalId X) depth) j loads (element_lie fs.0) (element_lie z) ok.0 ok.1 e v f w lies g views env h a2 n2 last (long_in form ts depth j d) ok.3 ok.5 nm.1 sd.1 fs.3 fs.4
        (turn_as l item form (FromLocalId X) (ByLocalSize X) fs.0 ts depth j (num m) ok.0 e f d jl ok.2 own c)
        (turn_as l item form (FromLocalId X) (ByLocalSize X) z ts depth j (num m) ok.1 v w d jl ok.2 own to)
        (all_around l item form ts j lies g views env es) (all_around l item form ts j (λ v. Whole) src sins ins gs) r)
    along_is _ ts depth row lies g views env h k a n ty z v w rest d ok nm sd fs cells es gs r = absurd (assumption)

    -- a local map over rows
    nest_is : (len : A) (t : Term A) (ts : List ℕ) (depth : ℕ) (loads : LoadSet) (p z : Lie) (x y : Ty) (e v : View) (f w : Marks) (lies : ℕ → Lie) (g : ℕ → Ty) (views : ℕ → View) (env : ℕ → Marks) (h : ℕ → List Bool → Bool) (u : Used) (rest : Code)
        → length ts ≡ depth → num len < 2 ^ 31 → LoadsScalars loads x → HasType num src (push x g) t y → LoadsSuffice (push (covers loads) h) t → StandsAlongRow t → LoadsFours (element_lie p) loads → WritesFours (push (bound_lie loads (element_lie p)) lies) (element_lie z) t
        → CellsAs l item p ts (ArrayOf (num len) x) e f → CellsAs l item z ts (ArrayOf (num len) y) v w → AllShow l item ts lies g views env → AllShow l item ts (λ v. Whole) src sins ins → HeldIn g views env h
        → AreTurnsFrom l item (forms.rows.local len) (FromLocalId Y) (ByLocalSize Y) ts (num len)
        (λ us r before after. (mid : Code) × IsLoaded l item ins us loads (at_index r f) u.variables before mid
        × IsAlongRow num forms l ins item u.locals u.privates (more u.variables (load_count loads)) (push (loaded_marks loads (at_index r f) u.variables) env) t (at_index r w) us r mid after)
        (print_local_nest spell forms sins fence depth views u len loads e t v rest) rest
    nest_is len t ts depth loads p z x y e v f w lies g views env h u rest d short ok typed nm sd fours writes c cells es gs r =
        let form = forms.rows.local len in
        let turn = turn_from form (FromLocalId Y) depth in
        let el = view_at turn e in
        let lie = element_lie p in
        let shown = loaded_view loads el u.variables in
        turns_are item form (FromLocalId Y) (ByLocalSize Y) ts len _ (print_row spell forms sins fence turn (depth_in form depth) views u loads e t v) rest short
        (λ j last jl own.
        let us = variables_in form ts j in
        let marks = loaded_marks loads (at_index j f) u.variables in
        let cj = turn_as l item form (FromLocalId Y) (ByLocalSize Y) p ts depth j (num len) x e f d jl short own c in
        let inner = print_along_row spell forms sins fence (depth_in form depth) (push shown views) u.locals u.privates (more u.variables (load_count loads)) t (view_at turn v) last in (
          inner,
          loaded_is l item ins us lie loads x el (at_index j f) u.variables inner ok fours cj.0 cj.1,
          along_is t us (depth_in form depth) j (push (bound_lie loads lie) lies) (push x g) (push shown views) (push marks env) (push (covers loads) h) u.locals u.privates (more u.variables (load_count loads)) y (element_lie z) (view_at turn v) (at_index j w) last (long_in form ts depth j d) typed nm sd writes
              (turn_as l item form (FromLocalId Y) (ByLocalSize Y) z ts depth j (num len) y v w d jl short own cells)
              (all_push l item us (bound_lie loads lie) x shown marks lies g views env (loaded_shows l item us lie loads x el (at_index j f) u.variables ok fours cj.0 cj.1) (all_around l item form ts j lies g views env es))
              (all_around l item form ts j (λ v. Whole) src sins ins gs)
              (held_push x shown marks (covers loads) g views env h (λ cs k q. loaded_exprs loads x el (at_index j f) u.variables cs ok k q) r),
        ))

  -- within maps over groups in these forms
  module _ (rf cf : MapForm) (grid : Grid) where
    abbrev around : ℕ → List ℕ
    around i = variables_in cf (variables_in rf [] (i / grid.columns)) (i % grid.columns)

    abbrev depth : ℕ
    depth = depth_in cf (depth_in rf 0)

    abbrev AtEach : ((item i : ℕ) → Type 0) → Type 0
    AtEach P = (item i : ℕ) → item < item_count l → i < places grid → IsGroupRow l item (i / grid.columns) → IsGroupColumn l item (i % grid.columns) → P item i

    around_long : (i : ℕ) → length (around i) ≡ depth
    around_long i = long_in cf (variables_in rf [] (i / grid.columns)) (depth_in rf 0) (i % grid.columns) (long_in rf [] 0 (i / grid.columns) refl)

    abbrev AllShowing : (ℕ → Lie) → (ℕ → Ty) → (ℕ → View) → ((turn var : ℕ) → Marks) → Type 0
    AllShowing lies g views env = AtEach (λ item i. AllShow l item (around i) lies g views (env i))

    abbrev AllHolding : (ℕ → Ty) → (ℕ → View) → ((turn var : ℕ) → Marks) → (ℕ → List Bool → Bool) → Type 0
    AllHolding g views env h = (i : ℕ) → HeldIn g views (env i) h

    abbrev Inputs : Type 0
    Inputs = (item i : ℕ) → AllShow l item (around i) (λ v. Whole) src sins ins

    abbrev Printed : ((turn var : ℕ) → Marks) → (ℕ → View) → Used → Term A → (rest : Code) → Type 0
    Printed env views u t rest = IsGridArgument num forms l ins fence rf cf grid env u t (print_grid_argument spell forms sins fence depth views u t rest) rest

    -- what stands for an argument shows it, and lies so
    shown : (t : Term A) (lies : ℕ → Lie) (g : ℕ → Ty) (views : ℕ → View) (env : (turn var : ℕ) → Marks) (h : ℕ → List Bool → Bool) (k : ℕ) (ty : Ty) (z : Lie) → HasType num src g t ty → LoadsSuffice h t → StandsInGrid false t → AllShowing lies g views env → Inputs → Lies lies t z
        → AtEach (λ item i. Shows l item (around i) ty (argument_view local_arrays spell sins views k t) (marks_of num ins env k t i) × LiesAs l item z (around i) ty (argument_view local_arrays spell sins views k t) (marks_of num ins env k t i))
    shown t lies g views env h k ty z ok nm sd es gs s item i here il row column =
        argument_shows local_arrays l item num spell spelled src ins sins (around i) (gs item i) t lies g views (env i) h k ty z (grid_argument t sd) ok nm (es item i here il row column) s

    -- in the body of a let
    let_shows : (v : Term A) (lies : ℕ → Lie) (g : ℕ → Ty) (views : ℕ → View) (env : (turn var : ℕ) → Marks) (h : ℕ → List Bool → Bool) (k : ℕ) (ty : Ty) (z : Lie) → HasType num src g v ty → LoadsSuffice h v → StandsInGrid false v → AllShowing lies g views env → Inputs → Lies lies v z
        → AllShowing (push z lies) (push ty g) (push (argument_view local_arrays spell sins views k v) views) (λ i. push (marks_of num ins env k v i) (env i))
    let_shows v lies g views env h k ty z ok nm sd es gs s item i here il row column =
        let x = argument_view local_arrays spell sins views k v in
        let y = marks_of num ins env k v i in
        let p = shown v lies g views env h k ty z ok nm sd es gs s item i here il row column in
        all_push l item (around i) z ty x y lies g views (env i) (showing l item z (around i) ty x y p.0 p.1) (es item i here il row column)

    let_holds : (v : Term A) (g : ℕ → Ty) (views : ℕ → View) (env : (turn var : ℕ) → Marks) (h : ℕ → List Bool → Bool) (k : ℕ) (ty : Ty) → HasType num src g v ty → AllHolding g views env h → AllHolding (push ty g) (push (argument_view local_arrays spell sins views k v) views) (λ i. push (marks_of num ins env k v i) (env i)) (push (held_scalars h v) h)
    let_holds v g views env h k ty ok r i =
        held_push ty (argument_view local_arrays spell sins views k v) (marks_of num ins env k v i) (held_scalars h v) g views (env i) h (λ cs w z. kept_is local_arrays num spell src ins sins v g views (env i) h k ty cs ok w z (r i)) (r i)

    mutual
      argument_is : (t : Term A) (lies : ℕ → Lie) (g : ℕ → Ty) (views : ℕ → View) (env : (turn var : ℕ) → Marks) (h : ℕ → List Bool → Bool) (u : Used) (ty : Ty) (rest : Code) → HasType num src g t ty → LoadsSuffice h t → StandsInGrid false t → ReadsFours lies t → AllShowing lies g views env → Inputs → AllHolding g views env h → Printed env views u t rest
      argument_is (Bound v) lies g views env h u ty rest ok nm sd fs es gs r = refl
      argument_is (Source v) lies g views env h u ty rest ok nm sd fs es gs r = refl
      argument_is (Both true x y) lies g views env h u ty rest ok nm sd fs es gs r =
          let next = print_grid_argument spell forms sins fence depth views (used_after u x) y rest in
          (next, argument_is x lies g views env h u (ArrayOf ok.0 ok.1) next ok.4 nm.0 sd.0 fs.0 es gs r, argument_is y lies g views env h (used_after u x) (ArrayOf ok.0 ok.2) rest ok.5 nm.1 sd.1 fs.1 es gs r)
      argument_is (Project false x) lies g views env h u ty rest ok nm sd fs es gs r = argument_is x lies g views env h u (PairOf ty ok.0) rest ok.1 nm sd fs es gs r
      argument_is (Project true x) lies g views env h u ty rest ok nm sd fs es gs r = argument_is x lies g views env h u (PairOf ok.0 ty) rest ok.1 nm sd fs es gs r
      argument_is (Reshape y x) lies g views env h u ty rest ok nm sd fs es gs r = argument_is x lies g views env h u ok.0 rest ok.1 nm sd fs es gs r
      argument_is (LetArray v b) lies g views env h u ty rest ok nm sd fs es gs r =
          let x = argument_view local_arrays spell sins views u.locals v in
          let y = marks_of num ins env u.locals v in
          let next = print_grid_argument spell forms sins fence depth (push x views) (used_after u v) b rest in (
            next,
            argument_is v lies g views env h u ok.0 next ok.1 nm.0 sd.0 fs.2 es gs r,
            argument_is b (push fs.0 lies) (push ok.0 g) (push x views) (λ i. push (y i) (env i)) (push (held_scalars h v) h) (used_after u v) ty rest ok.2 nm.1 sd.1 fs.3 (let_shows v lies g views env h u.locals ok.0 fs.0 ok.1 nm.0 sd.0 es gs fs.1) gs (let_holds v g views env h u.locals ok.0 ok.1 r),
          )
      argument_is (Copy LocalMemory t2 x) lies g views env h u ty rest ok nm sd fs es gs r =
          let first = u.locals + local_count x in
          grid_written_is x lies g views env h u t2 Whole (laid_view LocalArray first t2) (λ i. laid_in LocalArray first t2) rest (subst (HasType num src g x) ok.0 ok.2) nm.2 sd fs es gs r
          (λ item i here il row column. (laid_cells l item num spell spelled (around i) LocalArray first t2 ok.1 nm.1 nm.0, laid_whole l item (around i) LocalArray first t2 nm.1 nm.0))
      argument_is _ lies g views env h u ty rest ok nm sd fs es gs r = absurd (assumption)

      grid_written_is : (t : Term A) (lies : ℕ → Lie) (g : ℕ → Ty) (views : ℕ → View) (env : (turn var : ℕ) → Marks) (h : ℕ → List Bool → Bool) (u : Used) (ty : Ty) (z : Lie) (v : View) (w : ℕ → Marks) (rest : Code) → HasType num src g t ty → LoadsSuffice h t → StandsInGrid true t → WritesFours lies z t → AllShowing lies g views env → Inputs → AllHolding g views env h
          → AtEach (λ item i. CellsAs l item z (around i) ty v (w i))
          → IsGridWritten num forms l ins fence rf cf grid env u t w (print_grid_written spell forms sins fence depth views u t v rest) rest
      grid_written_is (Reshape y t) lies g views env h u ty z v w rest ok nm sd fs es gs r cells =
          (sd.0, grid_written_is t lies g views env h u ok.0 (written_lie y fs.0) (rewritten_view spell y v) (λ i cs q. w i cs (result_position num y q)) rest ok.1 nm sd.1 fs.2 es gs r (λ item i here il row column. back_as l item num spell spelled z fs.0 (around i) y ok.0 ty v (w i) fs.1 sd.0 ok.2 ok.3 ok.4 (cells item i here il row column)))
      grid_written_is (LetArray s b) lies g views env h u ty z v w rest ok nm sd fs es gs r cells =
          let x = argument_view local_arrays spell sins views u.locals s in
          let y = marks_of num ins env u.locals s in
          let next = print_grid_written spell forms sins fence depth (push x views) (used_after u s) b v rest in (
            next,
            argument_is s lies g views env h u ok.0 next ok.1 nm.0 sd.0 fs.2 es gs r,
            grid_written_is b (push fs.0 lies) (push ok.0 g) (push x views) (λ i. push (y i) (env i)) (push (held_scalars h s) h) (used_after u s) ty z v w rest ok.2 nm.1 sd.1 fs.3 (let_shows s lies g views env h u.locals ok.0 fs.0 ok.1 nm.0 sd.0 es gs fs.1) gs (let_holds s g views env h u.locals ok.0 ok.1 r) cells,
          )
      grid_written_is (Map (Over Items dimension.Y) z0 loads xs b) lies g views env h u ty z v w rest ok nm sd fs es gs r cells =
          let len = num z0 in
          let e = argument_view local_arrays spell sins views u.locals xs in
          let f = marks_of num ins env u.locals xs in
          let u2 = used_after u xs in
          let map = print_local_nest spell forms sins fence depth views u2 z0 loads e b v rest in
          let mid = fenced (fence (u.phases + phases_in xs)) map in
          let around_map = shown xs lies g views env h u.locals (ArrayOf len ok.0) fs.0 ok.4 nm.0 sd.0 es gs fs.1 in (
            mid,
            map,
            argument_is xs lies g views env h u (ArrayOf len ok.0) mid ok.4 nm.0 sd.0 fs.2 es gs r,
            refl,
            λ item i here il row column. nest_is item z0 b (around i) depth loads fs.0 z ok.0 ok.1 e v (f i) (w i) lies g views (env i) h u2 rest (around_long i) ok.2 ok.3 ok.5 nm.1 sd.1 fs.3 fs.4
                (around_map item i here il row column) (subst (λ t. CellsAs l item z (around i) t v (w i)) ok.6 (cells item i here il row column)) (es item i here il row column) (gs item i) (r i),
          )
      grid_written_is _ lies g views env h u ty z v w rest ok nm sd fs es gs r cells = absurd (assumption)

  -- what stands for an argument of inputs shows it, and lies so
  input_shows : (item : ℕ) (ts : List ℕ) (t : Term A) (lies : ℕ → Lie) (g : ℕ → Ty) (views : ℕ → View) (env : ℕ → Marks) (h : ℕ → List Bool → Bool) (a : ℕ) (ty : Ty) (z : Lie) → HasType num src g t ty → LoadsSuffice h t → IsOfInputs t → AllShow l item ts lies g views env → AllShow l item ts (λ v. Whole) src sins ins → Lies lies t z
      → Shows l item ts ty (argument_view private_arrays spell sins views a t) (argument_marks l ins num env a t) × LiesAs l item z ts ty (argument_view private_arrays spell sins views a t) (argument_marks l ins num env a t)
  input_shows item ts t lies g views env h a ty z ok nm sd es gs s =
      argument_shows private_arrays l item num spell spelled src ins sins ts gs t lies g views env h a ty z (private_inputs t sd) ok nm es s

  -- a map over the groups of a row
  module _ (rf : MapForm) (rows : ℕ) where
    abbrev AtRows : ((item r : ℕ) → Type 0) → Type 0
    AtRows P = (item r : ℕ) → item < item_count l → r < rows → IsGroupRow l item r → P item r

    along_groups_are : (t : Term A) (n : Count) (lies : ℕ → Lie) (g : ℕ → Ty) (views : ℕ → View) (env : (row var : ℕ) → Marks) (h : ℕ → List Bool → Bool) (ty : Ty) (z : Lie) (v : View) (w : (row : ℕ) → Marks) → HasType num src g t ty → LoadsSuffice h t → StandsAlongGroups t → WritesFours lies z t
        → AtRows (λ item r. AllShow l item (variables_in rf [] r) lies g views (env r)) → ((item r : ℕ) → AllShow l item (variables_in rf [] r) (λ v. Whole) src sins ins) → ((r : ℕ) → HeldIn g views (env r) h) → AtRows (λ item r. CellsAs l item z (variables_in rf [] r) ty v (w r))
        → IsAlongGroups num forms l ins fence rf rows n env t w (print_along_groups spell forms sins fence (depth_in rf 0) views n t v)
    along_groups_are (Reshape y t) n lies g views env h ty z v w ok nm sd fs es gs r cells =
        (sd.0, along_groups_are t n lies g views env h ok.0 (written_lie y fs.0) (rewritten_view spell y v) (λ u cs q. w u cs (result_position num y q)) ok.1 nm sd.1 fs.2 es gs r (λ item u here ul row. back_as l item num spell spelled z fs.0 (variables_in rf [] u) y ok.0 ty v (w u) fs.1 sd.0 ok.2 ok.3 ok.4 (cells item u here ul row)))
    along_groups_are (Map (Over Groups dimension.X) m loads xs b) n lies g views env h ty z v w ok nm sd fs es gs r cells =
        let len = num m in
        let grid : Grid = record { rows = rows; columns = len } in
        let cf = form_over_groups (forms.columns.once m) in
        let turn = turn_from cf (FromGroupId X) (depth_in rf 0) in
        let e = argument_view private_arrays spell sins views 0 xs in
        let f = λ (i : ℕ). argument_marks l ins num (env (i / len)) 0 xs in
        let el = view_at turn e in
        let marks = λ (i : ℕ). at_index (i % len) (f i) in
        let x = loaded_view loads el n in
        let lie = element_lie fs.0 in
        let u : Used = record { locals = 0; privates = 0; variables = more n (load_count loads); phases = 0 } in
        let last = fenced (fence (phases_in b)) End in
        let first = print_grid_written spell forms sins fence (depth_in cf (depth_in rf 0)) (push x views) u b (view_at turn v) last in
        let c = λ (item i : ℕ) (here : item < item_count l) (il : i < places grid) (row : IsGroupRow l item (i / len)) (column : IsGroupColumn l item (i % len)).
        turn_as l item cf (FromGroupId X) (ByGroupCount X) fs.0 (variables_in rf [] (i / len)) (depth_in rf 0) (i % len) len ok.0 e (f i) (long_in rf [] 0 (i / len) refl) (mod-lt i (some_factor i rows len il)) ok.2
        (taken_of_groups (forms.columns.once m) len (makes.one_column m) l item (FromGroupId X) (ByGroupCount X) (i % len) (mod-lt i (some_factor i rows len il)) column)
        (input_shows item (variables_in rf [] (i / len)) xs lies g views (env (i / len)) h 0 (ArrayOf len ok.0) fs.0 ok.4 nm.0 sd.0 (es item (i / len) here (row_of_place i len il) row) (gs item (i / len)) fs.1) in
        let to = λ (item i : ℕ) (here : item < item_count l) (il : i < places grid) (row : IsGroupRow l item (i / len)) (column : IsGroupColumn l item (i % len)).
        turn_as l item cf (FromGroupId X) (ByGroupCount X) z (variables_in rf [] (i / len)) (depth_in rf 0) (i % len) len ok.1 v (w (i / len)) (long_in rf [] 0 (i / len) refl) (mod-lt i (some_factor i rows len il)) ok.2
        (taken_of_groups (forms.columns.once m) len (makes.one_column m) l item (FromGroupId X) (ByGroupCount X) (i % len) (mod-lt i (some_factor i rows len il)) column)
        (subst (λ t. CellsAs l item z (variables_in rf [] (i / len)) t v (w (i / len))) ok.6 (cells item (i / len) here (row_of_place i len il) row)) in (
          spell m,
          print_loaded loads el n first,
          refl,
          (spelled m ok.2).0,
          (
            first,
            last,
            λ item i here il row column. let at = c item i here il row column in loaded_is l item ins (variables_in cf (variables_in rf [] (i / len)) (i % len)) lie loads ok.0 el (marks i) n first ok.3 fs.3 at.0 at.1,
            grid_written_is rf cf grid b (push (bound_lie loads lie) lies) (push ok.0 g) (push x views) (λ i. push (loaded_marks loads (marks i) n) (env (i / len))) (push (covers loads) h) u ok.1 (element_lie z) (view_at turn v) (λ i. at_index (i % len) (w (i / len))) last ok.5 nm.1 sd.1 fs.4
                (λ item i here il row column.
                let at = c item i here il row column in
                all_push l item (variables_in cf (variables_in rf [] (i / len)) (i % len)) (bound_lie loads lie) ok.0 x (loaded_marks loads (marks i) n) lies g views (env (i / len))
                (loaded_shows l item (variables_in cf (variables_in rf [] (i / len)) (i % len)) lie loads ok.0 el (marks i) n ok.3 fs.3 at.0 at.1)
                (all_around l item cf (variables_in rf [] (i / len)) (i % len) lies g views (env (i / len)) (es item (i / len) here (row_of_place i len il) row)))
                (λ item i. all_around l item cf (variables_in rf [] (i / len)) (i % len) (λ v. Whole) src sins ins (gs item (i / len)))
                (λ i. held_push ok.0 x (loaded_marks loads (marks i) n) (covers loads) g views (env (i / len)) h (λ cs k q. loaded_exprs loads ok.0 el (marks i) n cs ok.3 k q) (r (i / len)))
                to,
            refl,
          ),
        )
      where
        row_of_place : (i len : ℕ) → i < rows * len → i / len < rows
        row_of_place i len il = below i (i / len) (i % len) rows len (div-add-mod' i len) il
    along_groups_are _ n lies g views env h ty z v w ok nm sd fs es gs r cells = absurd (assumption)

  -- the whole term
  pub over_grid_is : (t : Term A) (lies : ℕ → Lie) (g : ℕ → Ty) (views : ℕ → View) (env : ℕ → Marks) (h : ℕ → List Bool → Bool) (ty : Ty) (z : Lie) (v : View) (w : Marks) → HasType num src g t ty → LoadsSuffice h t → StandsOverGrid t → WritesFours lies z t → ((item : ℕ) → AllShow l item [] lies g views env) → ((item : ℕ) → AllShow l item [] (λ v. Whole) src sins ins) → HeldIn g views env h
      → ((item : ℕ) → CellsAs l item z [] ty v w) → IsOverGrid num forms l ins fence env t w (print_grid spell forms sins fence views t v)
  over_grid_is (Reshape y t) lies g views env h ty z v w ok nm sd fs es gs r cells =
      (sd.0, over_grid_is t lies g views env h ok.0 (written_lie y fs.0) (rewritten_view spell y v) (λ cs q. w cs (result_position num y q)) ok.1 nm sd.1 fs.2 es gs r (λ item. back_as l item num spell spelled z fs.0 [] y ok.0 ty v w fs.1 sd.0 ok.2 ok.3 ok.4 (cells item)))
  over_grid_is (LetArray s b) lies g views env h ty z v w ok nm sd fs es gs r cells =
      let x = argument_view private_arrays spell sins views 0 s in
      let y = argument_marks l ins num env 0 s in
      over_grid_is b (push fs.0 lies) (push ok.0 g) (push x views) (push y env) (push (held_scalars h s) h) ty z v w ok.2 nm.1 sd.1 fs.3
      (λ item. let p = input_shows item [] s lies g views env h 0 ok.0 fs.0 ok.1 nm.0 sd.0 (es item) (gs item) fs.1 in all_push l item [] fs.0 ok.0 x y lies g views env (showing l item fs.0 [] ok.0 x y p.0 p.1) (es item)) gs
      (held_push ok.0 x y (held_scalars h s) g views env h (λ cs q k. kept_is private_arrays num spell src ins sins s g views env h 0 ok.0 cs ok.1 q k r) r) cells
  over_grid_is (Map (Over Groups dimension.Y) z0 loads xs b) lies g views env h ty z v w ok nm sd fs es gs r cells =
      let len = num z0 in
      let rf = form_over_groups (forms.rows.once z0) in
      let turn = turn_from rf (FromGroupId Y) 0 in
      let e = argument_view private_arrays spell sins views 0 xs in
      let f = argument_marks l ins num env 0 xs in
      let el = view_at turn e in
      let x = loaded_view loads el no_variables in
      let marks = λ (i : ℕ). loaded_marks loads (at_index i f) no_variables in
      let lie = element_lie fs.0 in
      let mid = print_along_groups spell forms sins fence (depth_in rf 0) (push x views) (load_count loads) b (view_at turn v) in
      let taken = λ (item i : ℕ) (il : i < len) (row : IsGroupRow l item i). taken_of_groups (forms.rows.once z0) len (makes.one_row z0) l item (FromGroupId Y) (ByGroupCount Y) i il row in
      let c = λ (item i : ℕ) (il : i < len) (row : IsGroupRow l item i). turn_as l item rf (FromGroupId Y) (ByGroupCount Y) fs.0 [] 0 i len ok.0 e f refl il ok.2 (taken item i il row) (input_shows item [] xs lies g views env h 0 (ArrayOf len ok.0) fs.0 ok.4 nm.0 sd.0 (es item) (gs item) fs.1) in
      let to = λ (item i : ℕ) (il : i < len) (row : IsGroupRow l item i). turn_as l item rf (FromGroupId Y) (ByGroupCount Y) z [] 0 i len ok.1 v w refl il ok.2 (taken item i il row) (subst (λ t. CellsAs l item z [] t v w) ok.6 (cells item)) in (
        spell z0,
        print_loaded loads el no_variables mid,
        mid,
        refl,
        (spelled z0 ok.2).0,
        λ item i here il row. let at = c item i il row in loaded_is l item ins (variables_in rf [] i) lie loads ok.0 el (at_index i f) no_variables mid ok.3 fs.3 at.0 at.1,
        along_groups_are rf len b (load_count loads) (push (bound_lie loads lie) lies) (push ok.0 g) (push x views) (λ i. push (marks i) env) (push (covers loads) h) ok.1 (element_lie z) (view_at turn v) (λ i. at_index i w) ok.5 nm.1 sd.1 fs.4
            (λ item i here il row.
            let at = c item i il row in
            all_push l item (variables_in rf [] i) (bound_lie loads lie) ok.0 x (marks i) lies g views env (loaded_shows l item (variables_in rf [] i) lie loads ok.0 el (at_index i f) no_variables ok.3 fs.3 at.0 at.1) (all_around l item rf [] i lies g views env (es item)))
            (λ item i. all_around l item rf [] i (λ v. Whole) src sins ins (gs item))
            (λ i. held_push ok.0 x (marks i) (covers loads) g views env h (λ cs k q. loaded_exprs loads ok.0 el (at_index i f) no_variables cs ok.3 k q) r)
            (λ item i here il row. to item i il row),
      )
  over_grid_is _ lies g views env h ty z v w ok nm sd fs es gs r cells = absurd (assumption)

pub grid_code_is : (A : Type 0) → GridPrinterPrints A
grid_code_is A l num forms makes spell spelled first src fence t ty stands fours ok nm out inputs =
    over_grid_is l num forms spell spelled (λ v. measured num (src v)) (input_marks num first src) (input_views spell first src) fence makes t no_lie no_type no_view no_marks (λ v. none) (measured num ty) Whole (placed_view spell Output 0 ty) (output_marks (measured num ty)) ok nm stands fours
    (λ item. nothing_shown l item) (λ item v. placed_shows l item num spell spelled Input (first v) (src v) (inputs v)) (nothing_held) (λ item. placed_as l item num spell spelled Output 0 ty out)
