-- Every run of a printed kernel that can't go on has its term's traffic.
use Rattle.std.proofs.Common.{◌≡◌, ℕ, zero, suc, ◌+◌, ◌*◌, ◌<◌, true, List, [], inl, inr, refl, sym, ap, ◌∙◌, subst, arith}
use Rattle.std.specs.Prelude.{◌&&◌}
use Rattle.size_arith.specs.declared.poly.Monomial.{Monomial}
use Rattle.kernel_tree.specs.Code as code
use Rattle.kernel_tree.specs.Formula.{Formula, Lanes}
use Rattle.kernel_tree.specs.Code.{Array, Input, Output, Local as LocalArray, Private, Statement, Code, End, Kernel}
use Rattle.kernel_tree.specs.Faults.{accesses}
use Rattle.kernel_tree.specs.Launch.{Launch, IsWhole, item_count, ids_of}
use Rattle.barrier_placement.specs.Fencing.{Fencing, stands}
use Rattle.barrier_placement.specs.Laws.{NeededBarriersAreDetermined}
use Rattle.barrier_placement.specs.Separates.{bit}
use Rattle.lift_tree.specs.Annotations.{Annotation, type_in}
use Rattle.lift_tree.specs.Launches.{Asks}
use Rattle.lift_tree.specs.Tree.{Tree}
use Rattle.lift_tree.specs.Typing.{Declared}
use Rattle.lift_tree.specs.declared.term.Level.TheVariants as level
use Rattle.lift_tree.specs.declared.term.Dimension.TheVariants.{X, Y}
use Rattle.lift_ir.specs.AtLaunch.{length_at, ty_at}
use Rattle.lift_ir.specs.Forms.{Stands, StandsOverLaunch}
use Rattle.lift_ir.specs.Lowering.{Lowered}
use Rattle.lift_ir.specs.Terms.{Over, Term, Reshape, LetArray, Map, no_type}
use Rattle.lift_ir.specs.Types.{Ty, measured}
use Rattle.printed_form.specs.Counts.{no_variables}
use Rattle.printed_form.specs.Marks.{Marks}
use Rattle.printed_form.specs.Printer.{input_marks}
use Rattle.printed_form.specs.Programs.{lowered_root, first_buffer, input_shape, IsLaunchOf, IsLowerableProgram, StandsAt}
use Rattle.printed_form.specs.Whole.{no_marks, output_marks, IsCode}
use Rattle.printed_form.proofs.Programs.{lowered_has}
use Rattle.printed_form.proofs.Programs as programs
use Rattle.group_form.specs.ChosenForms.{forms_of}
use Rattle.group_form.specs.Form.{is_once}
use Rattle.group_form.specs.Forms.{StandsOverGroups}
use Rattle.group_form.specs.GridChosen.{grid_forms_of}
use Rattle.group_form.specs.GridTerms.{StandsOverGrid, grid_touches}
use Rattle.group_form.specs.GridTheorem.{is_once_over, grid_phase_count}
use Rattle.group_form.specs.Kernels.{Printer, OfItems, OfGroups, OfGrids, StandsForLaunch, AreNeededBy, PrintsBy, KernelsKeep}
use Rattle.group_form.specs.Programs.{PrintsGroups, PrintsGrids}
use Rattle.group_form.specs.Uses.{phase_count, group_touches}
use Rattle.group_form.proofs.ChosenForms.{forms_make_turns}
use Rattle.group_form.proofs.GridChosen.{grid_forms_make_turns}
use Rattle.kernel_traffic.specs.Laws.{CodeTellsAccesses, CodeTellsReleases, TurnsGoOneByOne}
use Rattle.kernel_traffic.specs.Traffic.{Accesses, accesses_in, barriers_in}
use Rattle.term_traffic.specs.Laws.{is_global, is_local, is_read, RunsHaveTraffic}
use Rattle.term_traffic.specs.Regions.{Region, NoMemory, InGlobal, all_in}
use Rattle.term_traffic.specs.Traffic.{ItemTraffic, written_traffic, in_global, in_local, uncounted, group_turns, barriers_to, turn_phases, releases_of}
use Rattle.term_traffic.proofs.Codes.{Counts, AllLieIn, LieIn, region_of, total}
use Rattle.term_traffic.proofs.Items.{written_counts, launch_counts, no_written}
use Rattle.term_traffic.proofs.Grids.{over_grid}
use Rattle.term_traffic.proofs.Groups.{over_groups}
use Rattle.term_traffic.proofs.Short.{short_loops}

-- what the statements of a kind count

abbrev global_reads : Accesses
global_reads a w = is_global a && is_read w

abbrev global_writes : Accesses
global_writes a w = is_global a && w

abbrev local_reads : Accesses
local_reads a w = is_local a && is_read w

abbrev local_writes : Accesses
local_writes a w = is_local a && w

global_reads_count : Counts (accesses_in global_reads) in_global uncounted 0
global_reads_count = record {
  assigns = λ v e. refl;
  assigns_four = λ v e. refl;
  loads = λ v a i. load v a i;
  loads_four = λ v a i. load_four v a i;
  stores = λ a i e. store a i e;
  stores_four = λ a i e. store_four a i e;
  syncs = λ a b. refl;
}
  where
    load : (v : ℕ) (a : Array) (i : Formula) → accesses_in global_reads (code.Loads v a i) ≡ in_global (region_of a)
    load v (Input n) i = refl
    load v (Output n) i = refl
    load v (LocalArray n) i = refl
    load v (Private n) i = refl

    load_four : (v : ℕ) (a : Array) (i : Formula) → accesses_in global_reads (code.LoadsFour v a i) ≡ 4 * in_global (region_of a)
    load_four v (Input n) i = refl
    load_four v (Output n) i = refl
    load_four v (LocalArray n) i = refl
    load_four v (Private n) i = refl

    store_four : (a : Array) (i : Formula) (e : Lanes) → accesses_in global_reads (code.StoresFour a i e) ≡ 4 * 0
    store_four (Input n) i e = refl
    store_four (Output n) i e = refl
    store_four (LocalArray n) i e = refl
    store_four (Private n) i e = refl

    store : (a : Array) (i e : Formula) → accesses_in global_reads (code.Stores a i e) ≡ 0
    store (Input n) i e = refl
    store (Output n) i e = refl
    store (LocalArray n) i e = refl
    store (Private n) i e = refl

global_writes_count : Counts (accesses_in global_writes) uncounted in_global 0
global_writes_count = record {
  assigns = λ v e. refl;
  assigns_four = λ v e. refl;
  loads = λ v a i. load v a i;
  loads_four = λ v a i. load_four v a i;
  stores = λ a i e. store a i e;
  stores_four = λ a i e. store_four a i e;
  syncs = λ a b. refl;
}
  where
    load : (v : ℕ) (a : Array) (i : Formula) → accesses_in global_writes (code.Loads v a i) ≡ 0
    load v (Input n) i = refl
    load v (Output n) i = refl
    load v (LocalArray n) i = refl
    load v (Private n) i = refl

    load_four : (v : ℕ) (a : Array) (i : Formula) → accesses_in global_writes (code.LoadsFour v a i) ≡ 4 * 0
    load_four v (Input n) i = refl
    load_four v (Output n) i = refl
    load_four v (LocalArray n) i = refl
    load_four v (Private n) i = refl

    store_four : (a : Array) (i : Formula) (e : Lanes) → accesses_in global_writes (code.StoresFour a i e) ≡ 4 * in_global (region_of a)
    store_four (Input n) i e = refl
    store_four (Output n) i e = refl
    store_four (LocalArray n) i e = refl
    store_four (Private n) i e = refl

    store : (a : Array) (i e : Formula) → accesses_in global_writes (code.Stores a i e) ≡ in_global (region_of a)
    store (Input n) i e = refl
    store (Output n) i e = refl
    store (LocalArray n) i e = refl
    store (Private n) i e = refl

local_reads_count : Counts (accesses_in local_reads) in_local uncounted 0
local_reads_count = record {
  assigns = λ v e. refl;
  assigns_four = λ v e. refl;
  loads = λ v a i. load v a i;
  loads_four = λ v a i. load_four v a i;
  stores = λ a i e. store a i e;
  stores_four = λ a i e. store_four a i e;
  syncs = λ a b. refl;
}
  where
    load : (v : ℕ) (a : Array) (i : Formula) → accesses_in local_reads (code.Loads v a i) ≡ in_local (region_of a)
    load v (Input n) i = refl
    load v (Output n) i = refl
    load v (LocalArray n) i = refl
    load v (Private n) i = refl

    load_four : (v : ℕ) (a : Array) (i : Formula) → accesses_in local_reads (code.LoadsFour v a i) ≡ 4 * in_local (region_of a)
    load_four v (Input n) i = refl
    load_four v (Output n) i = refl
    load_four v (LocalArray n) i = refl
    load_four v (Private n) i = refl

    store_four : (a : Array) (i : Formula) (e : Lanes) → accesses_in local_reads (code.StoresFour a i e) ≡ 4 * 0
    store_four (Input n) i e = refl
    store_four (Output n) i e = refl
    store_four (LocalArray n) i e = refl
    store_four (Private n) i e = refl

    store : (a : Array) (i e : Formula) → accesses_in local_reads (code.Stores a i e) ≡ 0
    store (Input n) i e = refl
    store (Output n) i e = refl
    store (LocalArray n) i e = refl
    store (Private n) i e = refl

local_writes_count : Counts (accesses_in local_writes) uncounted in_local 0
local_writes_count = record {
  assigns = λ v e. refl;
  assigns_four = λ v e. refl;
  loads = λ v a i. load v a i;
  loads_four = λ v a i. load_four v a i;
  stores = λ a i e. store a i e;
  stores_four = λ a i e. store_four a i e;
  syncs = λ a b. refl;
}
  where
    load : (v : ℕ) (a : Array) (i : Formula) → accesses_in local_writes (code.Loads v a i) ≡ 0
    load v (Input n) i = refl
    load v (Output n) i = refl
    load v (LocalArray n) i = refl
    load v (Private n) i = refl

    load_four : (v : ℕ) (a : Array) (i : Formula) → accesses_in local_writes (code.LoadsFour v a i) ≡ 4 * 0
    load_four v (Input n) i = refl
    load_four v (Output n) i = refl
    load_four v (LocalArray n) i = refl
    load_four v (Private n) i = refl

    store_four : (a : Array) (i : Formula) (e : Lanes) → accesses_in local_writes (code.StoresFour a i e) ≡ 4 * in_local (region_of a)
    store_four (Input n) i e = refl
    store_four (Output n) i e = refl
    store_four (LocalArray n) i e = refl
    store_four (Private n) i e = refl

    store : (a : Array) (i e : Formula) → accesses_in local_writes (code.Stores a i e) ≡ in_local (region_of a)
    store (Input n) i e = refl
    store (Output n) i e = refl
    store (LocalArray n) i e = refl
    store (Private n) i e = refl

barriers_count : Counts barriers_in uncounted uncounted 1
barriers_count = record {
  assigns = λ v e. refl;
  assigns_four = λ v e. refl;
  loads = λ v a i. refl;
  loads_four = λ v a i. refl;
  stores = λ a i e. refl;
  stores_four = λ a i e. refl;
  syncs = λ a b. refl;
}

-- where no map is over work-groups no group is released

module _ {A : Type 0} (num : A → ℕ) (l : Launch) (item : ℕ) where
  no_groups : (t : Term A) → Stands true t → group_turns num (ids_of l item) t ≡ 0
  no_groups (Reshape y t) h = no_groups t h.1
  no_groups (LetArray v b) h = no_groups b h.1
  no_groups (Map (Over level.Groups _) n loads xs b) h = absurd h
  no_groups _ h = refl

  no_groups_over : (t : Term A) → StandsOverLaunch t → group_turns num (ids_of l item) t ≡ 0
  no_groups_over (Reshape y t) h = no_groups_over t h.1
  no_groups_over (LetArray v b) h = no_groups_over b h.1
  no_groups_over (Map (Over level.Groups _) n loads xs b) h = absurd h
  no_groups_over _ h = refl

-- which phases a turn has
pub in_one_row : {A : Type 0} (t : Term A) → StandsOverGroups t → turn_phases t ≡ phase_count t
in_one_row (Reshape y t) h = in_one_row t h.1
in_one_row (LetArray v b) h = in_one_row b h.1
in_one_row (Map (Over level.Groups X) n loads xs b) h = refl
in_one_row _ h = absurd h

pub in_rows : {A : Type 0} (t : Term A) → StandsOverGrid t → turn_phases t ≡ grid_phase_count t
in_rows (Reshape y t) h = in_rows t h.1
in_rows (LetArray v b) h = in_rows b h.1
in_rows (Map (Over level.Groups Y) n loads xs b) h = refl
in_rows _ h = absurd h

same_barriers : (n : ℕ) (f g : ℕ → Fencing) → ((q : ℕ) → q < n → f q ≡ g q) → barriers_to f n ≡ barriers_to g n
same_barriers zero f g h = refl
same_barriers (suc n) f g h =
    let first = same_barriers n f g (λ q lt. h q (omega arith)) in
    let last = ap (λ x. bit (stands x)) (h n (omega arith)) in
    omega arith

module _ (d : Declared) (asks : Asks) (bases : List ℕ) (t : Tree) (a : Annotation) (l : Launch) (k : Kernel) (program : IsLowerableProgram d bases t a) (launch : IsLaunchOf d asks bases t a l) (j : ℕ) (within : j < item_count l) (turning : TurnsGoOneByOne) where
  abbrev num : List Monomial → ℕ
  num = length_at bases

  abbrev low : Lowered
  low = lowered_root d.names t a

  abbrev ins : ℕ → Marks
  ins = input_marks (length_at bases) (first_buffer d.inputs) (input_shape d.inputs)

  abbrev result : Ty
  result = ty_at bases (type_in a)

  whole : IsWhole l
  whole = programs.whole l asks d.names bases launch.admissible

  inputs_lie : AllLieIn ins (λ v. all_in InGlobal)
  inputs_lie v cs q = refl

  nowhere : AllLieIn no_marks (λ v. all_in NoMemory)
  nowhere v cs q = refl

  outputs_lie : LieIn (output_marks result) (all_in InGlobal)
  outputs_lie cs q = refl

  module _ (weight : Statement → ℕ) (load store : Region → ℕ) (sync : ℕ) (counts : Counts weight load store sync) where
    -- the code counts the term's traffic and the barriers
    abbrev Counted : (ℕ → Fencing) → (item : ℕ) → Code → Type 0
    Counted fence item code =
        total weight load store sync counts l item code
        ≡ written_traffic load store num (ids_of l item) (λ v. all_in NoMemory) low (all_in InGlobal) + sync * releases_of num (ids_of l item) fence low

    nothing_more : (fence : ℕ → Fencing) (item : ℕ) → group_turns num (ids_of l item) low ≡ 0 → (code : Code) → total weight load store sync counts l item code ≡ written_traffic load store num (ids_of l item) (λ v. all_in NoMemory) low (all_in InGlobal) + 0 → Counted fence item code
    nothing_more fence item none code h =
        let m = barriers_to fence (suc (turn_phases low)) in
        let e : sync * (group_turns num (ids_of l item) low * m) ≡ 0 = ap (λ z. sync * (z * m)) none ∙ (let z : 0 * m ≡ 0 = omega arith in ap (λ y. sync * y) z) ∙ (omega arith) in
        omega arith

    none : (item : ℕ) → StandsAt l low → group_turns num (ids_of l item) low ≡ 0
    none item (inl h) = no_groups num l item low h.1
    none item (inr h) = no_groups_over num l item low h

    by_items : (fence : ℕ → Fencing) → StandsAt l low → IsCode l ins num low result k.code → Counted fence j k.code
    by_items fence stand (inl (one, h)) =
        let zeroth : 0 ≡ j = omega arith in
        subst (λ i. Counted fence i k.code) zeroth
        (nothing_more fence 0 (none 0 stand) k.code (written_counts weight load store sync counts l 0 ins inputs_lie turning num [] no_marks (λ v. all_in NoMemory) 0 no_variables low (output_marks result) (all_in InGlobal) k.code End nowhere outputs_lie h))
    by_items fence stand (inr h) =
        nothing_more fence j (none j stand) k.code (launch_counts weight load store sync counts l j ins inputs_lie turning num no_marks (λ v. all_in NoMemory) 0 no_variables low (output_marks result) (all_in InGlobal) k.code End nowhere outputs_lie (h j within))

    -- barriers that are the same to the end of a turn are as many
    same_releases : (one other : ℕ → Fencing) (m : ℕ) → turn_phases low ≡ m → ((q : ℕ) → q < suc m → one q ≡ other q)
        → written_traffic load store num (ids_of l j) (λ v. all_in NoMemory) low (all_in InGlobal) + sync * releases_of num (ids_of l j) one low
        ≡ written_traffic load store num (ids_of l j) (λ v. all_in NoMemory) low (all_in InGlobal) + sync * releases_of num (ids_of l j) other low
    same_releases one other m is same =
        ap (λ z. written_traffic load store num (ids_of l j) (λ v. all_in NoMemory) low (all_in InGlobal) + sync * (group_turns num (ids_of l j) low * z))
        (subst (λ z. barriers_to one (suc z) ≡ barriers_to other (suc z)) (sym is) (same_barriers (suc m) one other same))

    by_groups : (fence : ℕ → Fencing) → NeededBarriersAreDetermined → StandsOverGroups low → AreNeededBy OfGroups d asks.local fence t a → PrintsGroups d asks.local bases t a l k → Counted fence j k.code
    by_groups fence determined stand needed printed =
        over_groups weight load store sync counts l whole j within ins inputs_lie turning num (forms_of d.names asks.local) (forms_make_turns d.names bases program.declared.names launch.admissible.sizes l asks.local launch.admissible.fixed) printed.fence no_marks (λ v. all_in NoMemory) low (output_marks result) (all_in InGlobal) k.code
        stand (short_loops num (λ v. measured (length_at bases) (input_shape d.inputs v)) no_type low result (lowered_has d asks bases t a l program launch)) nowhere outputs_lie printed.code
        ∙ same_releases printed.fence fence (phase_count low) (in_one_row low stand)
        (λ q lt. determined (group_touches low) (is_once (forms_of d.names asks.local) low) (phase_count low) printed.fence fence printed.needed needed q (omega arith))

    by_grids : (fence : ℕ → Fencing) → NeededBarriersAreDetermined → StandsOverGrid low → AreNeededBy OfGrids d asks.local fence t a → PrintsGrids d asks.local bases t a l k → Counted fence j k.code
    by_grids fence determined stand needed printed =
        over_grid weight load store sync counts l whole j within ins inputs_lie turning num (grid_forms_of d.names asks.local) (grid_forms_make_turns d.names bases l asks.local program.declared.names launch.admissible.sizes launch.admissible.fixed).0 printed.fence no_marks (λ v. all_in NoMemory) low (output_marks result) (all_in InGlobal) k.code
        stand (short_loops num (λ v. measured (length_at bases) (input_shape d.inputs v)) no_type low result (lowered_has d asks bases t a l program launch)) nowhere outputs_lie printed.code
        ∙ same_releases printed.fence fence (grid_phase_count low) (in_rows low stand)
        (λ q lt. determined (grid_touches low) (is_once_over (grid_forms_of d.names asks.local) low) (grid_phase_count low) printed.fence fence printed.needed needed q (omega arith))

    pub by_printer : (p : Printer) (fence : ℕ → Fencing) → NeededBarriersAreDetermined → StandsForLaunch p l low → AreNeededBy p d asks.local fence t a → PrintsBy p d asks.local bases t a l k → Counted fence j k.code
    by_printer OfItems fence determined stand needed printed = by_items fence stand printed.code
    by_printer OfGroups fence determined stand needed printed = by_groups fence determined stand needed printed
    by_printer OfGrids fence determined stand needed printed = by_grids fence determined stand needed printed

abbrev traffic : (a b c d : ℕ) → ItemTraffic
traffic a b c d = record { global_loads = a; global_stores = b; local_loads = c; local_stores = d }

without : (m n : ℕ) → m + 0 * n ≡ m
without m n = omega arith

alone : (m n : ℕ) → m ≡ 0 → m + 1 * n ≡ n
alone m n h = omega arith

same_traffic : (a b c d e f g h : ℕ) → a ≡ e → b ≡ f → c ≡ g → d ≡ h → traffic a b c d ≡ traffic e f g h
same_traffic a b c d e f g h p q r s = λ j. traffic (p j) (q j) (r j) (s j)

pub runs_have_traffic : KernelsKeep → NeededBarriersAreDetermined → CodeTellsAccesses → CodeTellsReleases → TurnsGoOneByOne → RunsHaveTraffic
runs_have_traffic keep determined accesses releases turning p d asks w t a l k c fence s es j program stand ok launch buffers printed needed start r stuck within =
    let kept = keep p d asks w t a l k c program stand ok launch buffers printed s es start r in
    let no_failure = kept.leaves.faultless.no_failure in
    let ended = kept.leaves.ended stuck j within in
    let whole = programs.whole l asks d.names w.bases launch.admissible in
    let num = length_at w.bases in
    let low = lowered_root d.names t a in
    let counted = λ (q : Accesses) (load store : Region → ℕ) (counts : Counts (accesses_in q) load store 0).
    accesses k l c s es whole start r no_failure j within ended q
    ∙ by_printer d asks w.bases t a l k program launch j within turning (accesses_in q) load store 0 counts p fence determined stand needed printed
    ∙ without (written_traffic load store (length_at w.bases) (ids_of l j) (λ v. all_in NoMemory) (lowered_root d.names t a) (all_in InGlobal)) (releases_of (length_at w.bases) (ids_of l j) fence (lowered_root d.names t a)) in
    record {
      accesses = same_traffic _ _ _ _ _ _ _ _ (counted global_reads in_global uncounted global_reads_count) (counted global_writes uncounted in_global global_writes_count) (counted local_reads in_local uncounted local_reads_count) (counted local_writes uncounted in_local local_writes_count);
      releases =
          releases k l c s es whole start r no_failure j within ended
          ∙ by_printer d asks w.bases t a l k program launch j within turning barriers_in uncounted uncounted 1 barriers_count p fence determined stand needed printed
          ∙ alone (written_traffic uncounted uncounted (length_at w.bases) (ids_of l j) (λ v. all_in NoMemory) (lowered_root d.names t a) (all_in InGlobal)) (releases_of (length_at w.bases) (ids_of l j) fence (lowered_root d.names t a))
          (no_written (length_at w.bases) l j (λ v. all_in NoMemory) (lowered_root d.names t a) (all_in InGlobal));
    }
