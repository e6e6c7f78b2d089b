-- The code of a map is of the kernel grammar in each form, where the code of its body is.
use Rattle.std.proofs.Common.{◌≡◌, ℕ, zero, suc, ◌+◌, ◌*◌, ◌<◌, ◌≤◌, ◌^◌, Bool, true, false, List, length, refl, arith}
use Rattle.std.specs.Prelude.{◌||◌}
use Rattle.std.proofs.lemmas.Bool.{lt-ltb, and_from}
use Rattle.size_arith.specs.declared.poly.Monomial.{Monomial}
use Rattle.lift_tree.specs.Typing.{Declared}
use Rattle.lift_tree.specs.declared.term.Level.TheVariants.{Launch, Groups, Items}
use Rattle.kernel_tree.specs.Formula.{Formula, LoopVariable}
use Rattle.kernel_tree.specs.Code.{Local as LocalArray, Code, End, Kernel}
use Rattle.kernel_tree.specs.Grammar.{has_statement, are_statements}
use Rattle.barrier_placement.specs.Fencing.{Fencing, Open, Fenced}
use Rattle.lift_ir.specs.Fours.{Lie, Whole, Serves, element_lie, bound_lie, written_lie, Lies, LoadsFours}
use Rattle.lift_ir.specs.Layouts.{Layout}
use Rattle.lift_ir.specs.Types.{Ty, width}
use Rattle.lift_ir.specs.Terms.{LoadSet, Kind, Over, Sequential, LocalMemory, Term, push}
use Rattle.printed_form.specs.Arguments.{argument_view, local_arrays}
use Rattle.printed_form.specs.Counts.{Count, AtMost, more, load_count, local_count}
use Rattle.printed_form.specs.Form.{start_of, stride_of}
use Rattle.printed_form.specs.MapForms.{MapForm, Looped, Guarded, Alone, form_over_groups, statement_of}
use Rattle.printed_form.specs.Views.{View, loaded_view, view_at, rewritten_view, laid_view}
use Rattle.printed_form.specs.Printer.{print_loaded, print_written}
use Rattle.printed_form.specs.Sound.{variables_of, IsSpelledIn, AllLengths, IsSoundLayout, dimensions, stacked}
use Rattle.printed_form.specs.GrammarViews.{IsTurnFormula, ReadsWithin, FillsWithin, AllReadWithin, LiesShared, AllLieShared}
use Rattle.printed_form.specs.KernelGrammar.{IsSoundIn}
use Rattle.printed_form.specs.GrammarPieces.{ViewsStay, MapsStay, HasRoomFor, views_of_inputs, CanBePrinted, TermsAreOfTheGrammar}
use Rattle.group_form.specs.Printer.{depth_in, fenced, start_formula, turn_from, print_turns_from}
use Rattle.kernel_premises.specs.GroupGrammar.{IsFlagged}

-- what is known of the pieces of printed kernels
pub record Pieces (k : Kernel) (spell : List Monomial → Formula) (high most : ℕ) (d : Declared) : Type 0 where
  pub room : HasRoomFor k high most d
  pub views : ViewsStay k high
  pub maps : MapsStay k high
  pub terms : TermsAreOfTheGrammar k spell high most d

-- the code is of the grammar, in so many loops and ifs
abbrev pub Right : Kernel → (loops ifs : ℕ) → Code → Type 0
Right k l i c = are_statements k l (i + l) c ≡ true

-- it has a statement
abbrev pub Comes : Code → Type 0
Comes c = has_statement c ≡ true

-- so does what stands for binders, and lies where vectors may
abbrev pub Views : (k : Kernel) (high loops : ℕ) → (ℕ → ℕ) → (ℕ → Lie) → (ℕ → View) → Type 0
Views k S l g lies env = AllReadWithin k S l g env × AllLieShared lies env

-- and the place of a value
abbrev pub Fills : (k : Kernel) (high loops layouts : ℕ) → Lie → View → Type 0
Fills k S l h y w = FillsWithin k S l h w × LiesShared y w

-- ---- barriers
module _ (k : Kernel) (fence : ℕ → Fencing) (N : ℕ) (flagged : (q : ℕ) → q ≤ N → IsFlagged (fence q)) where
  pub fence_fine : (l e q : ℕ) (rest : Code) → q ≤ N → Right k l e rest → Right k l e (fenced (fence q) rest)
  fence_fine l e q rest le f = go (fence q) (flagged q le)
    where
      go : (x : Fencing) → IsFlagged x → Right k l e (fenced x rest)
      go Open h = f
      go (Fenced a b) h = and_from (a || b) _ h f

pub fence_kept : (x : Fencing) (rest : Code) → Comes rest → Comes (fenced x rest)
fence_kept Open rest d = d
fence_kept (Fenced a b) rest d = refl

-- ---- turns
loop_turn : (k : Kernel) (l : ℕ) → IsTurnFormula k (suc l) (LoopVariable l)
loop_turn k l m le = (lt-ltb l m (omega arith), omega arith)

own_turn : (k : Kernel) (kind : Kind) (l : ℕ) → IsTurnFormula k l (start_formula (start_of kind))
own_turn k (Over Launch _) l m le = (refl, omega arith)
own_turn k (Over Groups _) l m le = (refl, omega arith)
own_turn k (Over Items _) l m le = (refl, omega arith)
own_turn k Sequential l m le = (refl, omega arith)

module _ (k : Kernel) (spell : List Monomial → Formula) (S M : ℕ) (d : Declared) (known : Pieces k spell S M d) where
  abbrev Reads : ℕ → (ℕ → ℕ) → (ℕ → View) → Type 0
  Reads l g env = AllReadWithin k S l g env

  pub laid_target : (p : ℕ) (ty : Ty) (l : ℕ) → p + width ty ≤ length k.locals → AllLengths (λ n. n < 2 ^ 32) ty → dimensions ty ≤ 5 → Fills k S l 0 Whole (laid_view LocalArray p ty)
  laid_target p ty l le h few = (known.views.laid_places LocalArray p ty l (λ c lt. lt-ltb (p + c) (length k.locals) (omega arith)) h few, known.views.laid_so LocalArray p ty Whole (λ n. refl))

  deeper : (l m : ℕ) (g : ℕ → ℕ) (env : ℕ → View) → l ≤ m → Reads l g env → Reads m g env
  deeper l m g env le all v = known.views.more l m (g v) (g v) (env v) le (omega arith) (all v)

  pushed : (l : ℕ) (g : ℕ → ℕ) (env : ℕ → View) (j : ℕ) (x : View) → ReadsWithin k S l j x → Reads l g env → Reads l (push j g) (push x env)
  pushed l g env j x h all zero = h
  pushed l g env j x h all (suc v) = all v

  lie_pushed : (lies : ℕ → Lie) (env : ℕ → View) (y : Lie) (x : View) → LiesShared y x → AllLieShared lies env → AllLieShared (push y lies) (push x env)
  lie_pushed lies env y x h all zero = h
  lie_pushed lies env y x h all (suc v) = all v

  -- one more binder
  pub with_view : (l : ℕ) (g : ℕ → ℕ) (lies : ℕ → Lie) (env : ℕ → View) (j : ℕ) (y : Lie) (x : View) → ReadsWithin k S l j x → LiesShared y x → Views k S l g lies env → Views k S l (push j g) (push y lies) (push x env)
  with_view l g lies env j y x reads shared all = (pushed l g env j x reads all.0, lie_pushed lies env y x shared all.1)

  -- an argument, whose copies lie in local arrays
  pub viewed_too : (l K : ℕ) (g : ℕ → ℕ) (lies : ℕ → Lie) (env : ℕ → View) (t : Term (List Monomial)) (y : Lie) → Views k S l g lies env → IsSoundIn k spell S d t → K + local_count t ≤ length k.locals → Lies lies t y
      → Views k S l (push (stacked g t) g) (push y lies) (push (argument_view local_arrays spell (views_of_inputs spell d) env K t) env)
  viewed_too l K g lies env t y all sound le lie =
      with_view l g lies env (stacked g t) y (argument_view local_arrays spell (views_of_inputs spell d) env K t) (known.terms.arguments LocalMemory l K g env t all.0 sound le) (known.terms.lying LocalMemory K lies env t y all.1 lie) all

  -- the place of a layout's operand
  pub filled : (l W : ℕ) (y : Layout (List Monomial)) (has wanted : Lie) (w : View) → IsSoundLayout (λ n. IsSpelledIn k S (spell n)) y → Serves has wanted → Fills k S l W has w → Fills k S l (suc W) (written_lie y wanted) (rewritten_view spell y w)
  filled l W y has wanted w sound serves to =
      (known.views.result spell y l W w sound to.0, known.views.written_so spell y wanted w (known.views.served has wanted w serves to.1))

  -- ---- a map of a kind, in so many loops and ifs, with what is printed of its body; its array lies
  -- so, its result is to, and binders do
  module _ (kind : Kind) (L I : ℕ) (bound : Formula) (ls : LoadSet) (x : View) (h : ℕ) (n : Count) (g : ℕ → ℕ) (env : ℕ → View) (w : View) (W : ℕ) (lies : ℕ → Lie) (from to_lie : Lie) (body : (depth : ℕ) (env : ℕ → View) (w : View) (last : Code) → Code) where
    abbrev pub print_turn : (turn : Formula) (depth : ℕ) (last : Code) → Code
    print_turn turn l last = print_loaded ls (view_at turn x) n (body l (push (loaded_view ls (view_at turn x) n) env) (view_at turn w) last)

    -- in its form
    abbrev pub print_map : MapForm → (rest : Code) → Code
    print_map form rest = print_turns_from form (start_of kind) (stride_of kind) bound (print_turn (turn_from form (start_of kind) L) (depth_in form L)) rest

    -- the body comes where what follows it does
    abbrev pub IsKept : Type 0
    IsKept = (l : ℕ) (e : ℕ → View) (to : View) (last : Code) → Comes last → Comes (body l e to last)

    -- the body comes
    abbrev pub IsComing : Type 0
    IsComing = (l : ℕ) (e : ℕ → View) (to : View) (last : Code) → FillsWithin k S l W to → Comes (body l e to last)

    -- it is of the grammar within the map's loop or `if`
    abbrev pub IsFine : Type 0
    IsFine =
        (l i : ℕ) (e : ℕ → View) (to : View) (last : Code) → i + l ≤ suc (I + L) → Reads l (push h g) e → AllLieShared (push (bound_lie ls (element_lie from)) lies) e → FillsWithin k S l W to → LiesShared (element_lie to_lie) to → Right k l i last
        → Right k l i (body l e to last)

    -- what the map needs
    pub record HasRoom : Type 0 where
      pub deep : I + L < 1024
      pub spelled : IsSpelledIn k S bound
      pub fits : S + (10 + 3 * h) ≤ 1024
      pub variables : AtMost (more n (load_count ls)) (variables_of k)
      pub array : ReadsWithin k S L h x
      pub binders : Reads L g env
      pub array_lies : LiesShared from x
      pub fours : LoadsFours (element_lie from) ls
      pub binders_lie : AllLieShared lies env
      pub place_lies : LiesShared to_lie w

    pub map_kept : IsKept → (form : MapForm) (rest : Code) → Comes rest → Comes (print_map form rest)
    map_kept kept Looped rest r = refl
    map_kept kept Guarded rest r = refl
    map_kept kept Alone rest r =
        let turn = start_formula (start_of kind) in
        let inner = push (loaded_view ls (view_at turn x) n) env in
        known.maps.loaded ls (view_at turn x) n (body L inner (view_at turn w) rest) (kept L inner (view_at turn w) rest r)

    module _ (tg : FillsWithin k S L W w) (coming : IsComing) where
      turn_comes : (turn : Formula) (l : ℕ) (last : Code) → L ≤ l → IsTurnFormula k l turn → Comes (print_turn turn l last)
      turn_comes turn l last le ok =
          let inner = push (loaded_view ls (view_at turn x) n) env in
          known.maps.loaded ls (view_at turn x) n (body l inner (view_at turn w) last) (coming l inner (view_at turn w) last (known.views.place turn l W w ok (known.views.deeper L l W W w le (omega arith) tg)))

      pub map_comes : (form : MapForm) (rest : Code) → Comes (print_map form rest)
      map_comes Looped rest = refl
      map_comes Guarded rest = refl
      map_comes Alone rest = turn_comes (start_formula (start_of kind)) L rest (omega arith) (own_turn k kind L)

      module _ (has : HasRoom) (fine : IsFine) where
        turn_fine : (turn : Formula) (l i : ℕ) (last : Code) → L ≤ l → i + l ≤ suc (I + L) → IsTurnFormula k l turn → Right k l i last → Right k l i (print_turn turn l last)
        turn_fine turn l i last le in_map ok f =
            let inner = push (loaded_view ls (view_at turn x) n) env in
            let good = known.views.more L l h h x le (omega arith) has.array in
            let all = pushed l g env h (loaded_view ls (view_at turn x) n) (known.views.element turn ls l h n x ok has.variables good) (deeper L l g env le has.binders) in
            let element_lies = known.views.at_turn turn from x has.array_lies in
            let all_lie = lie_pushed lies env (bound_lie ls (element_lie from)) (loaded_view ls (view_at turn x) n) (known.views.bound_so ls (element_lie from) n (view_at turn x) element_lies) has.binders_lie in
            known.maps.loads l i h n ls (view_at turn x) (element_lie from) (body l inner (view_at turn w) last) has.fits has.variables (known.views.read turn l h x ok good) element_lies has.fours
            (fine l i inner (view_at turn w) last in_map all all_lie (known.views.place turn l W w ok (known.views.deeper L l W W w le (omega arith) tg)) (known.views.at_turn turn to_lie w has.place_lies) f)

        pub map_fine : (form : MapForm) (rest : Code) → Right k L I rest → Right k L I (print_map form rest)
        map_fine Looped rest f =
            let turn = LoopVariable L in
            known.maps.loop L I kind bound (print_turn turn (suc L) End) rest has.deep has.spelled (turn_comes turn (suc L) End (omega arith) (loop_turn k L)) (turn_fine turn (suc L) I End (omega arith) (omega arith) (loop_turn k L) refl) f
        map_fine Guarded rest f =
            let turn = start_formula (start_of kind) in
            known.maps.guard L I kind bound (print_turn turn L End) rest has.deep has.spelled (turn_comes turn L End (omega arith) (own_turn k kind L)) (turn_fine turn L (suc I) End (omega arith) (omega arith) (own_turn k kind L) refl) f
        map_fine Alone rest f = turn_fine (start_formula (start_of kind)) L I rest (omega arith) (omega arith) (own_turn k kind L) f

        -- over groups, with nothing behind it
        pub statement_fine : (once : Bool) → Right k L I (statement_of (form_over_groups once) (start_of kind) (stride_of kind) bound (print_turn (turn_from (form_over_groups once) (start_of kind) L) (depth_in (form_over_groups once) L) End))
        statement_fine false = map_fine Looped End refl
        statement_fine true = map_fine Guarded End refl

  -- ---- over an element's body
  module _ (kind : Kind) (L I : ℕ) (bound : Formula) (ls : LoadSet) (x : View) (h : ℕ) (n : Count) (a : ℕ) (g : ℕ → ℕ) (env : ℕ → View) (w : View) (W : ℕ) (lies : ℕ → Lie) (from to_lie : Lie) (b : Term (List Monomial)) where
    abbrev inner_lies : ℕ → Lie
    inner_lies = push (bound_lie ls (element_lie from)) lies

    abbrev pub print_element : (depth : ℕ) (env : ℕ → View) (w : View) (last : Code) → Code
    print_element l e to last = print_written spell (views_of_inputs spell d) l e a (more n (load_count ls)) b to last

    pub element_kept : IsKept kind L I bound ls x h n g env w W lies from to_lie print_element
    element_kept l e to last r = known.terms.kept l (more n (load_count ls)) a e b to last r

    pub element_comes : (depth : ℕ) → CanBePrinted k spell S M d (push h g) inner_lies (element_lie to_lie) depth W (more n (load_count ls)) a b → IsComing kind L I bound ls x h n g env w W lies from to_lie print_element
    element_comes depth can l e to last tg = known.terms.statements l depth W (more n (load_count ls)) a (push h g) inner_lies (element_lie to_lie) e b to last tg can

    pub element_fine : CanBePrinted k spell S M d (push h g) inner_lies (element_lie to_lie) (suc (I + L)) W (more n (load_count ls)) a b → IsFine kind L I bound ls x h n g env w W lies from to_lie print_element
    element_fine can l i e to last le all all_lie tg to_lies f =
        let deep = can.deep in
        known.terms.codes l i W (more n (load_count ls)) a (push h g) inner_lies (element_lie to_lie) e b to last all tg all_lie to_lies
        (record { written = can.written; sound = can.sound; layouts = can.layouts; low = can.low; fours = can.fours; deep = omega arith; variables = can.variables; privates = can.privates }) f
