-- What is shown at a turn that an id is, and in the loops that a map's form adds.
use Rattle.std.proofs.Common.{◌≡◌, ℕ, ◌<◌, ◌^◌, List, [], ◌∷◌, ◌++◌, length, Some, sym, ap, arith}
use Rattle.kernel_tree.specs.Code.{Array, Start, FromZero, FromGlobalId, FromGroupId, FromLocalId, start_value}
use Rattle.kernel_tree.specs.Formula.{Formula, LoopVariable}
use Rattle.kernel_tree.specs.Launch.{Launch, ids_of}
use Rattle.lift_ir.specs.Fours.{Lie, Whole, Serves, element_lie, written_lie}
use Rattle.lift_ir.specs.Layouts.{Layout, Reshapes, result_position, IsInvertible}
use Rattle.lift_ir.specs.Terms.{Kind}
use Rattle.lift_ir.specs.Scalars.{at_index}
use Rattle.lift_ir.specs.Types.{Shape, Ty, ArrayOf, IsShort, IsPlaced, measured}
use Rattle.printed_form.specs.Form.{start_of}
use Rattle.printed_form.specs.MapForms.{MapForm, Looped, Guarded, Alone, variables_in}
use Rattle.printed_form.specs.Marks.{Marks, laid_in}
use Rattle.printed_form.specs.Means.{IsSpelled, Means, HasCells, LiesAs, ShowsAs, AllShow}
use Rattle.printed_form.specs.Views.{View, view_at, rewritten_view, placed_view}
use Rattle.printed_form.proofs.Indices.{placed_cells, placed_whole}
use Rattle.printed_form.proofs.Lies.{all_within, element_lies, turned_lies, written_lies, lie_serves}
use Rattle.printed_form.proofs.Shown.{cells_show, turned_cells, back_cells}
use Rattle.group_form.specs.Printer.{id_of, start_formula}

module _ (l : Launch) (item : ℕ) where
  -- it has these cells, and lies so
  abbrev pub CellsAs : Lie → List ℕ → Ty → View → Marks → Type 0
  CellsAs z ts t x y = HasCells l item ts t x y × LiesAs l item z ts t x y

  -- what a map begins with means its first turn
  pub start_means : (s : Start) (i : ℕ) (ts : List ℕ) → i ≡ start_value (ids_of l item) s → i < 2 ^ 31 → Means l item ts (start_formula s) i
  start_means FromZero i ts own lt = record { fits = omega arith; always = λ vs. ap Some (sym own) }
  start_means (FromGlobalId d) i ts own lt = record { fits = omega arith; always = λ vs. ap Some (sym own) }
  start_means (FromGroupId d) i ts own lt = record { fits = omega arith; always = λ vs. ap Some (sym own) }
  start_means (FromLocalId d) i ts own lt = record { fits = omega arith; always = λ vs. ap Some (sym own) }

  -- a formula that is the turn, in any further loops
  pub element_as : (z : Lie) (ts : List ℕ) (f : Formula) (i n : ℕ) (t : Ty) (x : View) (y : Marks) → ((us : List ℕ) → Means l item (ts ++ us) f i) → i < n → CellsAs z ts (ArrayOf n t) x y → CellsAs (element_lie z) ts t (view_at f x) (at_index i y)
  element_as z ts f i n t x y means lt h = (one t y h.0, element_lies l item z ts ts f i n t x y lt one h.1)
    where
      one : (o : Ty) (m : Marks) → HasCells l item ts (ArrayOf n o) x m → HasCells l item ts o (view_at f x) (at_index i m)
      one o m c us cs is q w g = c us cs (f ∷ is) (i ∷ q) (lt, w) (means us, g)

  pub own_as : (z : Lie) (ts : List ℕ) (k : Kind) (i n : ℕ) (t : Ty) (x : View) (y : Marks) → i ≡ start_value (ids_of l item) (start_of k) → i < n → n < 2 ^ 31 → CellsAs z ts (ArrayOf n t) x y → CellsAs (element_lie z) ts t (view_at (id_of k) x) (at_index i y)
  own_as z ts k i n t x y own lt small h = element_as z ts (id_of k) i n t x y (λ us. start_means (start_of k) i (ts ++ us) own (omega arith)) lt h

  pub turned_as : (z : Lie) (ts : List ℕ) (d i n : ℕ) (t : Ty) (x : View) (y : Marks) → length ts ≡ d → i < n → n < 2 ^ 31 → CellsAs z ts (ArrayOf n t) x y → CellsAs (element_lie z) (ts ++ i ∷ []) t (view_at (LoopVariable d) x) (at_index i y)
  turned_as z ts d i n t x y e lt small h = (turned_cells l item ts d i n t x y e lt small h.0, turned_lies l item z ts d i n t x y e lt small h.1)

  -- through a layout
  pub back_as : {A : Type 0} (num : A → ℕ) (spell : A → Formula) (spelled : (n : A) → num n < 2 ^ 31 → IsSpelled l (spell n) (num n)) (z p : Lie) (ts : List ℕ) (y : Layout A) (t u : Ty) (v : View) (w : Marks) → Serves z p → IsInvertible y → Reshapes num y t u → IsShort t → IsShort u → CellsAs z ts u v w
      → CellsAs (written_lie y p) ts t (rewritten_view spell y v) (λ cs q. w cs (result_position num y q))
  back_as num spell spelled z p ts y t u v w s turn rel st su h = (back_cells l item num spell spelled ts y t u v w turn rel st su h.0, written_lies l item num spell spelled y p ts t u v w turn rel st su (lie_serves l item z p ts u v w s h.1))

  -- within the loops that a map's form adds
  pub all_around : (form : MapForm) (ts : List ℕ) (i : ℕ) (lies : ℕ → Lie) (g : ℕ → Ty) (views : ℕ → View) (env : ℕ → Marks) → AllShow l item ts lies g views env → AllShow l item (variables_in form ts i) lies g views env
  all_around Looped ts i lies g views env h = all_within l item ts i lies g views env h
  all_around Guarded ts i lies g views env h = h
  all_around Alone ts i lies g views env h = h

  -- what is placed in arrays
  pub placed_as : {A : Type 0} (num : A → ℕ) (spell : A → Formula) (spelled : (n : A) → num n < 2 ^ 31 → IsSpelled l (spell n) (num n)) (form : ℕ → Array) (first : ℕ) (t : Shape A) → IsPlaced num t → CellsAs Whole [] (measured num t) (placed_view spell form first t) (laid_in form first (measured num t))
  placed_as num spell spelled form first t p = (placed_cells l item num spell spelled [] form first t p.flat p.short p.small, placed_whole l item num spell spelled [] form first t p.short p.small)

  pub placed_shows : {A : Type 0} (num : A → ℕ) (spell : A → Formula) (spelled : (n : A) → num n < 2 ^ 31 → IsSpelled l (spell n) (num n)) (form : ℕ → Array) (first : ℕ) (t : Shape A) → IsPlaced num t → ShowsAs l item Whole [] (measured num t) (placed_view spell form first t) (laid_in form first (measured num t))
  placed_shows num spell spelled form first t p =
      let c = placed_as num spell spelled form first t p in
      (cells_show l item [] (measured num t) (placed_view spell form first t) (laid_in form first (measured num t)) c.0, c.1)
