-- What the printers make has declared indices alone for indices and bounds; and tidied it is tidy.
use Rattle.std.proofs.Common.{◌≡◌, ℕ, suc, ◌≤◌, arith, Bool, true, List, [], ◌∷◌, ◌++◌, Option, Some, inl, inr}
use Rattle.std.specs.Prelude.{◌&&◌, nat_lt, nat_le}
use Rattle.std.proofs.lemmas.Bool.{ltb-true, and_parts}
use Rattle.size_arith.specs.declared.names.Name.{Name}
use Rattle.size_arith.specs.declared.poly.Monomial.{Monomial}
use Rattle.size_arith.specs.Ranges.{AreNames}
use Rattle.index_expr.specs.Expression.{Expression, short_nodes}
use Rattle.kernel_tree.specs.Formula.{Formula}
use Rattle.kernel_tree.specs.Code.{Input, Output, Start, Statement, Loads, Stores, LoadsFour, StoresFour, Code, End, Performs, Loops, Guards, Kernel}
use Rattle.kernel_tree.specs.Grammar.{deepest, height, is_constant, names_declared, is_expression, is_readable, is_writable, is_shared, are_lanes, has_statement, is_statement, are_statements, are_lengths, is_group_size, is_kernel}
use Rattle.lift_tree.specs.Annotations.{Annotation, type_in}
use Rattle.lift_tree.specs.Tree.{Tree}
use Rattle.lift_tree.specs.Typing.{Declared}
use Rattle.barrier_placement.specs.Fencing.{Fencing}
use Rattle.lift_ir.specs.AtLaunch.{shape_of}
use Rattle.lift_ir.specs.Lowering.{Lowered}
use Rattle.lift_ir.specs.Types.{Shape}
use Rattle.length_spelling.specs.Formulas.{length_formula, spelled_length}
use Rattle.printed_form.specs.Views.{View, placed_view}
use Rattle.printed_form.specs.Counts.{no_variables}
use Rattle.printed_form.specs.Printer.{input_views, no_view}
use Rattle.printed_form.specs.Programs.{first_buffer, input_shape, lowered_root}
use Rattle.group_form.specs.GridChosen.{grid_forms_of}
use Rattle.group_form.specs.GridTerms.{GridForms}
use Rattle.group_form.specs.Kernels.{Printer, OfItems, OfGroups, OfGrids, StandsFor, kernel_by}
use Rattle.tidy_indices.specs.Around.{Around, InLoop, InIf}
use Rattle.tidy_indices.specs.Laws.{Change, HaveIndexBounds}
use Rattle.tidy_indices.specs.Reading.{reading}
use Rattle.tidy_kernels.specs.Pass.{with_index, tidied_code}
use Rattle.tidy_printed.specs.Indices.{EachWithin, IsDeclaredIndex, index_then, indices_then}
use Rattle.tidy_printed.specs.Limits.{IndexNodes, no_index, array_nodes, limits_of}
use Rattle.tidy_printed.specs.Tidy.{IsTidyIndex, MakesTidy}
use Rattle.tidy_printed.specs.TidyLaws.{TermsHaveIndexFormulas, TidiedCodesAreTidy, TidiedTermsAreTidy}
use Rattle.tidy_printed.proofs.Formulas.{Spelled}
use Rattle.tidy_printed.proofs.Lengths.{lengths_are_spelled}
use Rattle.tidy_printed.proofs.Readings.{spelled_read, read_index}
use Rattle.tidy_printed.proofs.Views.{IsIndexed, blank_indexed, placed_indexed}
use Rattle.tidy_printed.proofs.TermIndices as terms
use Rattle.tidy_printed.proofs.GroupIndices as groups
use Rattle.tidy_printed.proofs.GridIndices as grids

-- whatever the limits are
abbrev Goes : (P Q : ℕ → Formula → Type 0) → (from to : List Formula) → Type 0
Goes P Q fs gs = (limits : List ℕ) → EachWithin P limits fs → EachWithin Q limits gs

-- the first, and with what is known of it the others
next : (P Q : ℕ → Formula → Type 0) (f g : Formula) (fs gs : List Formula) → ((n : ℕ) → P n f → Q n g × Goes P Q fs gs) → Goes P Q (f ∷ fs) (g ∷ gs)
next P Q f g fs gs go [] h = absurd h
next P Q f g fs gs go (n ∷ limits) h = let first = go n h.0 in (first.0, first.1 limits h.1)

after_two : (a b c : Bool) → (a && (b && c)) ≡ true → c ≡ true
after_two a b c h = (and_parts b c (and_parts a (b && c) h).1).1

module _ (names : List Name) (k : Kernel) where
  abbrev Read : (from to : List Formula) → Type 0
  Read fs gs = Goes (Spelled names) (IsDeclaredIndex names) fs gs

  read : (loops : ℕ) (f : Formula) → loops ≤ 1024 → is_expression k loops f ≡ true → (most : ℕ) → Spelled names most f → IsDeclaredIndex names most f
  read loops f few h most s = spelled_read names k loops most f few (and_parts (names_declared k loops f) (nat_le (height f) deepest) h).0 s

  -- an index or a bound, and what follows it
  read_next : (loops : ℕ) (f : Formula) (fs : List Formula) → loops ≤ 1024 → is_expression k loops f ≡ true → Read fs fs → Read (f ∷ fs) (f ∷ fs)
  read_next loops f fs few h go = next (Spelled names) (IsDeclaredIndex names) f f fs fs (λ n s. (read loops f few h n s, go))

  statement_read : (loops : ℕ) (s : Statement) (fs : List Formula) → loops ≤ 1024 → is_statement k loops s ≡ true → Read fs fs → Read (index_then s fs) (index_then s fs)
  statement_read loops (Loads v a i) fs few h go = read_next loops i fs few (after_two (nat_lt v k.variables) (is_readable k a) (is_expression k loops i) h) go
  statement_read loops (Stores a i e) fs few h go =
      read_next loops i fs few (and_parts (is_expression k loops i) (is_expression k loops e) (and_parts (is_writable k a) (is_expression k loops i && is_expression k loops e) h).1).0 go
  statement_read loops (LoadsFour v a i) fs few h go = read_next loops i fs few (after_two (nat_lt v k.vectors) (is_shared a && is_readable k a) (is_expression k loops i) h) go
  statement_read loops (StoresFour a i e) fs few h go =
      read_next loops i fs few (and_parts (is_expression k loops i) (are_lanes k loops e) (and_parts (is_shared a && is_writable k a) (is_expression k loops i && are_lanes k loops e) h).1).0 go
  statement_read loops _ fs few h go = go

  -- what is spelled in the grammar is read
  all_read : (loops depth : ℕ) (c : Code) (fs : List Formula) → loops ≤ depth → depth ≤ 1024 → are_statements k loops depth c ≡ true → Read fs fs → Read (indices_then c fs) (indices_then c fs)
  all_read loops depth End fs le few h s = s
  all_read loops depth (Performs st after) fs le few h s =
      let parts = and_parts (is_statement k loops st) (are_statements k loops depth after) h in
      statement_read loops st (indices_then after fs) (omega arith) parts.0 (all_read loops depth after fs le few parts.1 s)
  all_read loops depth (Loops st b c body after) fs le few h s =
      let inner = are_statements k (suc loops) (suc depth) body in
      let outer = are_statements k loops depth after in
      let here = after_two (nat_lt depth deepest) (is_constant b) (is_expression k loops b && (has_statement body && (inner && outer))) h in
      let codes = and_parts inner outer (after_two (is_expression k loops b) (has_statement body) (inner && outer) here) in
      let lt = ltb-true depth deepest (and_parts (nat_lt depth deepest) _ h).0 in
      read_next loops b (indices_then body (indices_then after fs)) (omega arith) (and_parts (is_expression k loops b) (has_statement body && (inner && outer)) here).0
      (all_read (suc loops) (suc depth) body (indices_then after fs) (omega arith) (omega arith) codes.0 (all_read loops depth after fs le few codes.1 s))
  all_read loops depth (Guards st b body after) fs le few h s =
      let inner = are_statements k loops (suc depth) body in
      let outer = are_statements k loops depth after in
      let here = after_two (nat_lt depth deepest) (is_constant b) (is_expression k loops b && (has_statement body && (inner && outer))) h in
      let codes = and_parts inner outer (after_two (is_expression k loops b) (has_statement body) (inner && outer) here) in
      let lt = ltb-true depth deepest (and_parts (nat_lt depth deepest) _ h).0 in
      read_next loops b (indices_then body (indices_then after fs)) (omega arith) (and_parts (is_expression k loops b) (has_statement body && (inner && outer)) here).0
      (all_read loops (suc depth) body (indices_then after fs) (omega arith) (omega arith) codes.0 (all_read loops depth after fs le few codes.1 s))

  nothing_left : Read [] []
  nothing_left [] h = tt
  nothing_left (n ∷ limits) h = absurd h

  kernel_read : is_kernel k ≡ true → Read (indices_then k.code []) (indices_then k.code [])
  kernel_read h =
      let code = has_statement k.code && are_statements k 0 0 k.code in
      let sized = is_group_size k.local && code in
      all_read 0 0 k.code [] (omega arith) (omega arith) (after_two (is_group_size k.local) (has_statement k.code) (are_statements k 0 0 k.code) (and_parts (are_lengths k.privates) sized (after_two (nat_lt 0 k.outputs) (are_lengths k.locals) (are_lengths k.privates && sized) h)).1) nothing_left

module _ (d : Declared) (size : Option (ℕ × ℕ)) (fence : ℕ → Fencing) (t : Tree) (a : Annotation) (are : AreNames d.names) where
  abbrev spell : List Monomial → Expression
  spell = spelled_length d.names

  abbrev text : List Monomial → Formula
  text = length_formula d.names

  abbrev forms : GridForms (List Monomial)
  forms = grid_forms_of d.names size

  abbrev src : ℕ → Shape (List Monomial)
  src = input_shape d.inputs

  abbrev ins : ℕ → View
  ins = input_views text (first_buffer d.inputs) src

  abbrev root : Lowered
  root = lowered_root d.names t a

  abbrev output_nodes : IndexNodes
  output_nodes = array_nodes spell (shape_of (type_in a))

  abbrev output_view : View
  output_view = placed_view text Output 0 (shape_of (type_in a))

  lengths : (p : List Monomial) → Spelled d.names (short_nodes (spell p)) (text p)
  lengths = lengths_are_spelled d.names are

  inputs_indexed : (v : ℕ) → IsIndexed d.names (array_nodes spell (src v)) (ins v)
  inputs_indexed v = placed_indexed d.names spell text lengths Input (first_buffer d.inputs v) (src v)

  output_indexed : IsIndexed d.names output_nodes output_view
  output_indexed = placed_indexed d.names spell text lengths Output 0 (shape_of (type_in a))

  -- in what a printer makes
  printed_fits : (p : Printer) → StandsFor p root → EachWithin (Spelled d.names) (limits_of d size t a) (indices_then (kernel_by p text fence d size t a).code [])
  printed_fits OfItems (inl h) = terms.written_fine d.names spell text lengths forms src ins inputs_indexed 0 (λ v. no_index) no_view 0 no_variables root output_nodes output_view End [] [] h (λ v. blank_indexed d.names) output_indexed tt
  printed_fits OfItems (inr h) = terms.launch_fine d.names spell text lengths forms src ins inputs_indexed 0 (λ v. no_index) no_view 0 no_variables root output_nodes output_view End [] [] h (λ v. blank_indexed d.names) output_indexed tt
  printed_fits OfGroups h = groups.groups_fine d.names spell text lengths forms src ins inputs_indexed fence (λ v. no_index) no_view root output_nodes output_view h (λ v. blank_indexed d.names) output_indexed
  printed_fits OfGrids h = grids.grid_fine d.names spell text lengths forms src ins inputs_indexed fence (λ v. no_index) no_view root output_nodes output_view h (λ v. blank_indexed d.names) output_indexed

pub terms_have : TermsHaveIndexFormulas
terms_have p d size fence t a are stands kernel =
    kernel_read d.names (kernel_by p (length_formula d.names) fence d size t a) kernel (limits_of d size t a) (printed_fits d size fence t a are p stands)

in_loop : (around : List Around) (b : Formula) (e : Expression) → HaveIndexBounds around → reading b ≡ Some e → HaveIndexBounds (around ++ InLoop b ∷ [])
in_loop [] b e all h = (read_index b e h, tt)
in_loop (InLoop c ∷ around) b e all h = (all.0, in_loop around b e all.1 h)
in_loop (InIf s c ∷ around) b e all h = in_loop around b e all h

in_if : (around : List Around) (s : Start) (b : Formula) → HaveIndexBounds around → HaveIndexBounds (around ++ InIf s b ∷ [])
in_if [] s b all = tt
in_if (InLoop c ∷ around) s b all = (all.0, in_if around s b all.1)
in_if (InIf r c ∷ around) s b all = in_if around s b all

module _ (names : List Name) (tidy : Change) (makes : MakesTidy names tidy) where
  abbrev Tidied : (from to : List Formula) → Type 0
  Tidied fs gs = Goes (IsDeclaredIndex names) IsTidyIndex fs gs

  tidied_index : (around : List Around) (f : Formula) (n : ℕ) → HaveIndexBounds around → IsDeclaredIndex names n f → IsTidyIndex n (tidy around f)
  tidied_index around f n all h =
      let made = makes.short around f h.expression all h.spelled h.declared in
      let counted = h.short in
      record { irredundant = makes.irredundant around f all (read_index f h.expression h.spelled); short = omega arith }

  tidied_next : (around : List Around) (f : Formula) (fs gs : List Formula) → HaveIndexBounds around → ((n : ℕ) → IsDeclaredIndex names n f → Tidied fs gs) → Tidied (f ∷ fs) (tidy around f ∷ gs)
  tidied_next around f fs gs all go = next (IsDeclaredIndex names) IsTidyIndex f (tidy around f) fs gs (λ n h. (tidied_index around f n all h, go n h))

  tidied_statement : (around : List Around) (s : Statement) (fs gs : List Formula) → HaveIndexBounds around → Tidied fs gs → Tidied (index_then s fs) (index_then (with_index (tidy around) s) gs)
  tidied_statement around (Loads v a i) fs gs all go = tidied_next around i fs gs all (λ n h. go)
  tidied_statement around (Stores a i e) fs gs all go = tidied_next around i fs gs all (λ n h. go)
  tidied_statement around (LoadsFour v a i) fs gs all go = tidied_next around i fs gs all (λ n h. go)
  tidied_statement around (StoresFour a i e) fs gs all go = tidied_next around i fs gs all (λ n h. go)
  tidied_statement around _ fs gs all go = go

  tidied_fine : (around : List Around) (c : Code) (fs gs : List Formula) → HaveIndexBounds around → Tidied fs gs → Tidied (indices_then c fs) (indices_then (tidied_code tidy around c) gs)
  tidied_fine around End fs gs all go = go
  tidied_fine around (Performs s after) fs gs all go = tidied_statement around s _ _ all (tidied_fine around after fs gs all go)
  tidied_fine around (Loops s b c body after) fs gs all go =
      tidied_next [] b _ _ tt (λ n h. tidied_fine (around ++ InLoop b ∷ []) body _ _ (in_loop around b h.expression all h.spelled) (tidied_fine around after fs gs all go))
  tidied_fine around (Guards s b body after) fs gs all go =
      tidied_next [] b _ _ tt (λ n h. tidied_fine (around ++ InIf s b ∷ []) body _ _ (in_if around s b all) (tidied_fine around after fs gs all go))

  none_tidied : Tidied [] []
  none_tidied [] h = tt
  none_tidied (n ∷ limits) h = absurd h

pub codes_are_tidy : TidiedCodesAreTidy
codes_are_tidy names tidy limits code makes h = tidied_fine names tidy makes [] code [] [] tt (none_tidied names tidy makes) limits h

pub terms_are_tidy : TidiedTermsAreTidy
terms_are_tidy p d size fence t a tidy are stands kernel makes =
    codes_are_tidy d.names tidy (limits_of d size t a) (kernel_by p (length_formula d.names) fence d size t a).code makes (terms_have p d size fence t a are stands kernel)
