-- The indices of loads and stores, and the bounds of loops, in the printers' code of an element, a
-- turn of a fold and a map.
use Rattle.std.proofs.Common.{ℕ, zero, suc, Bool, true, false, List, [], ◌∷◌, Some, None}
use Rattle.std.specs.Prelude.{Option}
use Rattle.size_arith.specs.declared.names.Name.{Name}
use Rattle.kernel_tree.specs.Formula.{Formula, Lanes}
use Rattle.kernel_tree.specs.Code.{Start, Stride, Code, End}
use Rattle.lift_ir.specs.Types.{Ty, Scalar, PairOf, ArrayOf}
use Rattle.lift_ir.specs.Terms.{LoadSet, Skip, Take, TakeFour, Each, Term, Apply, ApplyNumber, ApplyLanes, DivideLanes, Select, Both, Project, LetElement, push}
use Rattle.printed_form.specs.Counts.{Count, more, held_count, let_variables, load_count}
use Rattle.printed_form.specs.Expressions.{Expr}
use Rattle.printed_form.specs.MapForms.{MapForm, Looped, Guarded, Alone}
use Rattle.printed_form.specs.Views.{Sign, Blank, Held, HeldFour, Read, View, held_sign, held_view, loaded_view, view_at}
use Rattle.printed_form.specs.Printer.{or_number, or_lanes, sign_exprs, print_assigned, print_reassigned, print_element, print_store, print_store_four, print_load, print_load_four, print_stored, print_loaded, print_fold_turn}
use Rattle.group_form.specs.Printer.{start_formula, turn_from, print_turns_from}
use Rattle.tidy_printed.specs.Indices.{EachWithin, indices_then}
use Rattle.tidy_printed.specs.Limits.{IndexNodes, at_one_node, after_loads, index_limit, load_limits, store_limits, bound_limit}
use Rattle.tidy_printed.proofs.Formulas.{Spelled, Index, index_loop}
use Rattle.tidy_printed.proofs.Views.{NamesIndex, IsIndexed, part_indexed, turned_indexed, loaded_indexed}

module _ (names : List Name) where
  -- the code's indices and bounds, and then these, are within the limits
  abbrev pub Fits : List ℕ → Code → (after : List Formula) → Type 0
  Fits limits c fs = EachWithin (Spelled names) limits (indices_then c fs)

  load_fine : (m : Option ℕ) (s : Sign) (v : ℕ) (rest : Code) (limits : List ℕ) (fs : List Formula) → NamesIndex names m s → Fits limits rest fs → Fits (index_limit m limits) (print_load s v rest) fs
  load_fine None Blank v rest limits fs g f = f
  load_fine None (Held u) v rest limits fs g f = f
  load_fine None (HeldFour u) v rest limits fs g f = f
  load_fine (Some n) (Read a i) v rest limits fs g f = (g.0, f)
  load_fine _ _ v rest limits fs g f = absurd g

  load_four_fine : (m : Option ℕ) (s : Sign) (v : ℕ) (rest : Code) (limits : List ℕ) (fs : List Formula) → NamesIndex names m s → Fits limits rest fs → Fits (index_limit m limits) (print_load_four s v rest) fs
  load_four_fine None Blank v rest limits fs g f = f
  load_four_fine None (Held u) v rest limits fs g f = f
  load_four_fine None (HeldFour u) v rest limits fs g f = f
  load_four_fine (Some n) (Read a i) v rest limits fs g f = (g.0, f)
  load_four_fine _ _ v rest limits fs g f = absurd g

  store_fine : (m : Option ℕ) (s : Sign) (e : Formula) (rest : Code) (limits : List ℕ) (fs : List Formula) → NamesIndex names m s → Fits limits rest fs → Fits (index_limit m limits) (print_store s e rest) fs
  store_fine None Blank e rest limits fs g f = f
  store_fine None (Held u) e rest limits fs g f = f
  store_fine None (HeldFour u) e rest limits fs g f = f
  store_fine (Some n) (Read a i) e rest limits fs g f = (g.0, f)
  store_fine _ _ e rest limits fs g f = absurd g

  store_four_fine : (m : Option ℕ) (s : Sign) (e : Lanes) (rest : Code) (limits : List ℕ) (fs : List Formula) → NamesIndex names m s → Fits limits rest fs → Fits (index_limit m limits) (print_store_four s e rest) fs
  store_four_fine None Blank e rest limits fs g f = f
  store_four_fine None (Held u) e rest limits fs g f = f
  store_four_fine None (HeldFour u) e rest limits fs g f = f
  store_four_fine (Some n) (Read a i) e rest limits fs g f = (g.0, f)
  store_four_fine _ _ e rest limits fs g f = absurd g

  pub stored_fine : (ty : Ty) (f : List Bool → Option Expr) (m : IndexNodes) (w : View) (rest : Code) (limits : List ℕ) (fs : List Formula) → IsIndexed names m w → Fits limits rest fs → Fits (store_limits ty m limits) (print_stored ty f w rest) fs
  stored_fine Scalar f m w rest limits fs g r = store_fine (m [] []) (w [] []) (or_number (f [])) rest limits fs (g [] [] [] tt) r
  stored_fine (PairOf a b) f m w rest limits fs g r =
      stored_fine a (λ cs. f (false ∷ cs)) (λ cs. m (false ∷ cs)) (λ cs. w (false ∷ cs)) (print_stored b (λ cs. f (true ∷ cs)) (λ cs. w (true ∷ cs)) rest) (store_limits b (λ cs. m (true ∷ cs)) limits) fs (part_indexed names m w false g)
      (stored_fine b (λ cs. f (true ∷ cs)) (λ cs. m (true ∷ cs)) (λ cs. w (true ∷ cs)) rest limits fs (part_indexed names m w true g) r)
  stored_fine (ArrayOf k t) f m w rest limits fs g r = store_four_fine (m [] []) (w [] []) (or_lanes (f [])) rest limits fs (g [] [] [] tt) r

  pub loads_fine : (ls : LoadSet) (m : IndexNodes) (x : View) (n : Count) (rest : Code) (limits : List ℕ) (fs : List Formula) → IsIndexed names m x → Fits limits rest fs → Fits (load_limits ls m limits) (print_loaded ls x n rest) fs
  loads_fine Skip m x n rest limits fs g f = f
  loads_fine Take m x n rest limits fs g f = load_fine (m [] []) (x [] []) n.words rest limits fs (g [] [] [] tt) f
  loads_fine TakeFour m x n rest limits fs g f = load_four_fine (m [] []) (x [] []) n.fours rest limits fs (g [] [] [] tt) f
  loads_fine (Each a b) m x n rest limits fs g f =
      loads_fine a (λ cs. m (false ∷ cs)) (λ cs. x (false ∷ cs)) n (print_loaded b (λ cs. x (true ∷ cs)) (more n (load_count a)) rest) (load_limits b (λ cs. m (true ∷ cs)) limits) fs (part_indexed names m x false g)
      (loads_fine b (λ cs. m (true ∷ cs)) (λ cs. x (true ∷ cs)) (more n (load_count a)) rest limits fs (part_indexed names m x true g) f)

  -- what stands for binders
  abbrev pub AreIndexed : (ℕ → IndexNodes) → (ℕ → View) → Type 0
  AreIndexed counts env = (v : ℕ) → IsIndexed names (counts v) (env v)

  pub pushed : (counts : ℕ → IndexNodes) (env : ℕ → View) (m : IndexNodes) (x : View) → IsIndexed names m x → AreIndexed counts env → AreIndexed (push m counts) (push x env)
  pushed counts env m x h all zero = h
  pushed counts env m x h all (suc v) = all v

  -- assignments have no index
  module _ (limits : List ℕ) (fs : List Formula) where
    abbrev Fine : Code → Type 0
    Fine c = Fits limits c fs

    pub assigned_fine : (ty : Ty) (f : List Bool → Option Expr) (n : Count) (rest : Code) → Fine rest → Fine (print_assigned ty f n rest)
    assigned_fine Scalar f n rest r = r
    assigned_fine (PairOf a b) f n rest r = assigned_fine a (λ cs. f (false ∷ cs)) n (print_assigned b (λ cs. f (true ∷ cs)) (more n (held_count a)) rest) (assigned_fine b (λ cs. f (true ∷ cs)) (more n (held_count a)) rest r)
    assigned_fine (ArrayOf m t) f n rest r = r

    pub reassigned_fine : (ty : Ty) (f : List Bool → Option Expr) (acc n : Count) (rest : Code) → Fine rest → Fine (print_reassigned ty f acc n rest)
    reassigned_fine Scalar f acc n rest r = r
    reassigned_fine (PairOf a b) f acc n rest r =
        let again = print_assigned (PairOf a b) (λ cs. held_sign (held_view (PairOf a b) n cs [])) acc rest in
        assigned_fine (PairOf a b) f n again (assigned_fine (PairOf a b) (λ cs. held_sign (held_view (PairOf a b) n cs [])) acc rest r)
    reassigned_fine (ArrayOf m t) f acc n rest r = assigned_fine (ArrayOf m t) f acc rest r

    pub element_fine : {A : Type 0} → (n : Count) (env : ℕ → View) (t : Term A) (rest : Code) → Fine rest → Fine (print_element env n t rest)
    element_fine n env (Apply o a b) rest f = element_fine n env a (print_element env (more n (let_variables a)) b rest) (element_fine (more n (let_variables a)) env b rest f)
    element_fine n env (ApplyNumber o m a) rest f = element_fine n env a rest f
    element_fine n env (ApplyLanes o l r a b) rest f = element_fine n env a (print_element env (more n (let_variables a)) b rest) (element_fine (more n (let_variables a)) env b rest f)
    element_fine n env (DivideLanes o m a) rest f = element_fine n env a rest f
    element_fine n env (Select c a b) rest f =
        element_fine n env c (print_element env (more n (let_variables c)) a (print_element env (more (more n (let_variables c)) (let_variables a)) b rest))
        (element_fine (more n (let_variables c)) env a (print_element env (more (more n (let_variables c)) (let_variables a)) b rest) (element_fine (more (more n (let_variables c)) (let_variables a)) env b rest f))
    element_fine n env (Both zips a b) rest f = element_fine n env a (print_element env (more n (let_variables a)) b rest) (element_fine (more n (let_variables a)) env b rest f)
    element_fine n env (Project s a) rest f = element_fine n env a rest f
    element_fine n env (LetElement ty v b) rest f =
        let inner = push (held_view ty (more n (let_variables v))) env in
        let after = print_element inner (more (more n (let_variables v)) (held_count ty)) b rest in
        element_fine n env v (print_assigned ty (sign_exprs env n v) (more n (let_variables v)) after)
        (assigned_fine ty (sign_exprs env n v) (more n (let_variables v)) after (element_fine (more (more n (let_variables v)) (held_count ty)) inner b rest f))
    element_fine n env _ rest f = f

  pub turn_fine : {A : Type 0} → (env : ℕ → View) (ls : LoadSet) (ty : Ty) (m : IndexNodes) (x : View) (acc : Count) (b : Term A) (limits : List ℕ) (fs : List Formula) → IsIndexed names m x → EachWithin (Spelled names) limits fs → Fits (load_limits ls m limits) (print_fold_turn env ls ty x acc b) fs
  turn_fine env ls ty m x acc b limits fs g f =
      let n = more (more acc (held_count ty)) (load_count ls) in
      let inner = push (loaded_view ls x (more acc (held_count ty))) (push (held_view ty acc) env) in
      let again = print_reassigned ty (sign_exprs inner n b) acc (more n (let_variables b)) End in
      loads_fine ls m x (more acc (held_count ty)) (print_element inner n b again) limits fs g (element_fine limits fs n inner b again (reassigned_fine limits fs ty (sign_exprs inner n b) acc (more n (let_variables b)) End f))

  -- this prints the turns of a map in a form, with a bound of at most so many nodes, so that they
  -- fit where a turn's code fits whatever follows it
  abbrev pub PrintsTurns : MapForm → ℕ → (print : (turn : Code → Code) → (rest : Code) → Code) → Type 0
  PrintsTurns form m print =
      (turn : Code → Code) (rest : Code) (inside limits : List ℕ) (fs : List Formula) → ((last : Code) (gs : List Formula) → Fits limits last gs → Fits inside (turn last) gs) → Fits limits rest fs → Fits (bound_limit form m inside) (print turn rest) fs

  pub turns_fine : (form : MapForm) (s : Start) (c : Stride) (m : ℕ) (bound : Formula) → Spelled names m bound → PrintsTurns form m (print_turns_from form s c bound)
  turns_fine Looped s c m bound is turn rest inside limits fs r f = (is, r End (indices_then rest fs) f)
  turns_fine Guarded s c m bound is turn rest inside limits fs r f = (is, r End (indices_then rest fs) f)
  turns_fine Alone s c m bound is turn rest inside limits fs r f = r rest fs f

  -- what stands for a turn of a map, whose id is an index
  pub turn_is_index : (form : MapForm) (s : Start) (d : ℕ) → Index names 1 (start_formula s) → Index names 1 (turn_from form s d)
  turn_is_index Looped s d id = index_loop names d
  turn_is_index Guarded s d id = id
  turn_is_index Alone s d id = id

  -- a map in a form, whose body's code fits wherever it stands
  pub map_fine : (form : MapForm) (turn : Formula) (print : (Code → Code) → Code → Code) (m : ℕ) (n : Count) (ls : LoadSet) (counts : ℕ → IndexNodes) (env : ℕ → View) (from to : IndexNodes) (x w : View) (inside : (ℕ → IndexNodes) → IndexNodes → List ℕ) (body : (ℕ → View) → View → Code → Code) (rest : Code) (limits : List ℕ) (fs : List Formula)
      → Index names 1 turn → PrintsTurns form m print
      → ((counts : ℕ → IndexNodes) (env : ℕ → View) (to : IndexNodes) (w : View) (last : Code) (gs : List Formula) → AreIndexed counts env → IsIndexed names to w → Fits limits last gs → Fits (inside counts to) (body env w last) gs)
      → AreIndexed counts env → IsIndexed names from x → IsIndexed names to w → Fits limits rest fs
      → Fits (bound_limit form m (load_limits ls (at_one_node from) (inside (push (after_loads ls (at_one_node from)) counts) (at_one_node to)))) (print (λ last. print_loaded ls (view_at turn x) n (body (push (loaded_view ls (view_at turn x) n) env) (view_at turn w) last)) rest) fs
  map_fine form turn print m n ls counts env from to x w inside body rest limits fs is prints fits all comes goes f =
      let element = view_at turn x in
      let at = at_one_node from in
      let inner = push (loaded_view ls element n) env in
      let within = push (after_loads ls at) counts in
      let turned = turned_indexed names turn from x is comes in
      prints (λ last. print_loaded ls element n (body inner (view_at turn w) last)) rest (load_limits ls at (inside within (at_one_node to))) limits fs
      (λ last gs r. loads_fine ls at element n (body inner (view_at turn w) last) (inside within (at_one_node to)) gs turned
      (fits within inner (at_one_node to) (view_at turn w) last gs (pushed counts env (after_loads ls at) (loaded_view ls element n) (loaded_indexed names ls at element n turned) all) (turned_indexed names turn to w is goes) r))
      f
