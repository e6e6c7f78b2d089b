-- Kernels with such phases, in any form of turns, with any barriers that separate what conflicts.
use Rattle.std.proofs.Common.{◌≡◌, ℕ, zero, suc, ◌+◌, ◌*◌, ◌<◌, ◌≤◌, ◌^◌, Bool, true, false, List, [], ◌∷◌, refl, sym, ap, ◌∙◌, subst, ⊎_elim, arith}
use Rattle.std.proofs.lemmas.Bool.{cases_lt}
use Rattle.kernel_tree.specs.declared.tree.Dimension.TheVariants.{X}
use Rattle.kernel_tree.specs.Code.{FromGroupId, ByGroupCount, Code, End, Guards, Kernel}
use Rattle.kernel_tree.specs.Launch.{Launch, Cells, IsWhole, IsFlat, item_count, groups_across, group_of, ids_of}
use Rattle.kernel_tree.specs.Device.{Device, device_of}
use Rattle.kernel_tree.specs.Rounds.{Loop, Counts}
use Rattle.kernel_tree.proofs.Grouping.{group_in_launch, flat_items, flat_groups, flat_group, flat_group_id}
use Rattle.kernel_tree.proofs.Rows.{then-end}
use Rattle.kernel_tree.proofs.Stride.{turn_below, turn_past}
use Rattle.barrier_placement.specs.Conflicts.{Local}
use Rattle.barrier_placement.specs.Fencing.{Fencing}
use Rattle.barrier_placement.specs.Separates.{Separates}
use Rattle.printed_form.specs.MapForms.{form_over_groups, variables_in}
use Rattle.group_phases.specs.Epochs.{IsPast, KeepsApart}
use Rattle.group_phases.specs.Work.{Work}
use Rattle.group_phases.specs.Groups.{Body, GroupPhases, GroupTurns, GroupForm, loop_turns}
use Rattle.group_phases.specs.Phased.{ArePhases, IsGroupKernel, IsFormKernel, IsTestKernel, PhasedMap}
use Rattle.group_phases.specs.Outcome.{SomeRunLeaves, BarriersServeAll}
use Rattle.group_phases.specs.TurnForms.{TakesTurns, Tests, loop_form, test_form}
use Rattle.group_phases.proofs.Epochs.{some_apart}
use Rattle.group_phases.proofs.GroupForms.{form_turns}
use Rattle.group_phases.proofs.Groups.{group_map_leaves, group_map_serves}
use Rattle.group_phases.proofs.TurnForms.{leads_here, loop_takes, test_takes, guard_tests}

module _ (fence : ℕ → Fencing) (IsPhase : ℕ → Code → Code → Type 0) where
  -- the code before what stands before the i-th phase from q on, and after it
  pub before_in : (q m : ℕ) (code : Code) → ArePhases fence IsPhase q m code → ℕ → Code
  before_in q m code h zero = code
  before_in q zero code h (suc i) = End
  before_in q (suc m) code h (suc i) = before_in (suc q) m h.1 h.4 i

  pub code_in : (q m : ℕ) (code : Code) → ArePhases fence IsPhase q m code → ℕ → Code
  code_in q zero code h i = End
  code_in q (suc m) code h zero = h.0
  code_in q (suc m) code h (suc i) = code_in (suc q) m h.1 h.4 i

  pub past_in : (q m : ℕ) (code : Code) (h : ArePhases fence IsPhase q m code) (i : ℕ) → i ≤ m → IsPast (fence (q + i)) (before_in q m code h i) (code_in q m code h i)
  unfolding before_in code_in
  past_in q zero code h zero le = let e : q ≡ q + 0 = omega arith in subst (λ z. IsPast (fence z) code End) e h
  past_in q zero code h (suc i) le = absurd (omega arith)
  past_in q (suc m) code h zero le = let e : q ≡ q + 0 = omega arith in subst (λ z. IsPast (fence z) code h.0) e h.2
  past_in q (suc m) code h (suc i) le = let e : suc q + i ≡ q + suc i = omega arith in subst (λ z. IsPast (fence z) (before_in (suc q) m h.1 h.4 i) (code_in (suc q) m h.1 h.4 i)) e (past_in (suc q) m h.1 h.4 i (omega arith))

  pub is_in : (q m : ℕ) (code : Code) (h : ArePhases fence IsPhase q m code) (i : ℕ) → i < m → IsPhase (q + i) (code_in q m code h i) (before_in q m code h (suc i))
  unfolding before_in code_in
  is_in q zero code h i lt = absurd (omega arith)
  is_in q (suc m) code h zero lt = let e : q ≡ q + 0 = omega arith in subst (λ z. IsPhase z h.0 h.1) e h.3
  is_in q (suc m) code h (suc i) lt = let e : suc q + i ≡ q + suc i = omega arith in subst (λ z. IsPhase z (code_in (suc q) m h.1 h.4 i) (before_in (suc q) m h.1 h.4 (suc i))) e (is_in (suc q) m h.1 h.4 i (omega arith))

  pub first_in : (q m : ℕ) (code : Code) (h : ArePhases fence IsPhase q m code) → code ≡ before_in q m code h 0
  unfolding before_in
  first_in q m code h = refl

  pub last_in : (q m : ℕ) (code : Code) (h : ArePhases fence IsPhase q m code) → code_in q m code h m ≡ End
  unfolding code_in
  last_in q zero code h = refl
  last_in q (suc m) code h = last_in (suc q) m h.1 h.4

module _ (k : Kernel) (l : Launch) (c : Cells) (owner : (array index : ℕ) → ℕ) (wanted : List (List ℕ)) (turns : ℕ → ℕ) (variables : (turn item : ℕ) → List ℕ) (n : ℕ) (IsPhase : ℕ → Code → Code → Type 0) (work : Work) (h : PhasedMap k l c owner wanted turns variables n IsPhase work) where
  module _ (fence : ℕ → Fencing) (runs_in : (epoch phase : ℕ) → Bool) (apart : KeepsApart work.touches n fence turns runs_in) (printed : IsFormKernel k l c turns variables n fence IsPhase) where
    abbrev the_body : Body
    the_body = record {
      count = n;
      before = before_in fence IsPhase 0 n printed.body printed.phases;
      fence = fence;
      code = code_in fence IsPhase 0 n printed.body printed.phases;
      frames = λ t j. (printed.form j).frames t;
      turns = turns;
    }

    first : printed.body ≡ the_body.before 0
    unfolding before_in
    first = refl

    as_phases : GroupPhases k l c owner the_body work
    as_phases = record {
      whole = h.whole;
      same_turns = printed.same_turns;
      past = λ q le. let e : 0 + q ≡ q = omega arith in subst (λ z. IsPast (fence z) (the_body.before q) (the_body.code q)) e (past_in fence IsPhase 0 n printed.body printed.phases q le);
      does = λ t q j tl ql jl vars v.
          let e : 0 + q ≡ q = omega arith in
          h.does t q j tl ql jl ((printed.form j).frames t) (printed.around t j jl) (the_body.code q) (the_body.before (suc q)) (subst (λ z. IsPhase z (the_body.code q) (the_body.before (suc q))) e (is_in fence IsPhase 0 n printed.body printed.phases q ql)) vars v;
      runs_in = runs_in;
      apart = apart;
      due = h.due;
      differ = h.differ;
    }

    as_form : GroupForm k l c printed.form the_body work
    as_form = record {
      takes = printed.takes;
      count = printed.count;
      first = λ j. printed.first j ∙ first;
      last = λ j. printed.last j ∙ sym (last_in fence IsPhase 0 n printed.body printed.phases);
      frames = λ t j. refl;
      begins = h.begins;
      again = h.again;
    }

    as_turns : GroupTurns k l c the_body work
    as_turns = form_turns k l c the_body work printed.form as_form

    -- from every start some run leaves what is wanted
    pub form_leaves : SomeRunLeaves k l c owner wanted
    form_leaves = group_map_leaves k l c owner wanted the_body work as_phases as_turns h.outputs

    -- and in every run barriers serve
    pub form_serves : BarriersServeAll k l c work.filler
    form_serves = group_map_serves k l c owner wanted the_body work as_phases as_turns h.outputs

-- a statement that tests, or none at all: at most one turn
module _ (k : Kernel) (l : Launch) (c : Cells) (turns : ℕ → ℕ) (n : ℕ) (fence : ℕ → Fencing) (IsPhase : ℕ → Code → Code → Type 0) where
  pub test_kernel : IsTestKernel k l c turns n fence IsPhase → IsFormKernel k l c turns (λ t j. []) n fence IsPhase
  test_kernel h = record {
    form = λ j. test_form [] h.body End (turns (group_of l j));
    body = h.body;
    takes = λ j lt. test_takes (device_of k l c) j [] k.code h.body End (turns (group_of l j)) (h.tests j lt);
    count = λ j. refl;
    first = λ j. refl;
    last = λ j. refl;
    same_turns = λ t i j e. refl;
    around = λ t j lt. refl;
    phases = h.phases;
  }

  -- the turn alone, of one group
  pub alone_kernel : ((j : ℕ) → j < item_count l → turns (group_of l j) ≡ 1) → ArePhases fence IsPhase 0 n k.code → IsFormKernel k l c turns (λ t j. []) n fence IsPhase
  alone_kernel one phases = test_kernel (record {
    body = k.code;
    tests = λ j lt. let e = one j lt in record { at_most_one = omega arith; enters = λ vars some. leads_here (device_of k l c) j _ _ refl; passes = λ vars none. absurd (omega arith) };
    phases = phases;
  })

-- a statement over groups, of `len` turns in all
module _ (k : Kernel) (l : Launch) (c : Cells) (len n : ℕ) (fence : ℕ → Fencing) (IsPhase : ℕ → Code → Code → Type 0) (whole : IsWhole l) (flat : IsFlat l) where
  abbrev d : Device
  d = device_of k l c

  -- in one row an item's group is its group's column
  begins : (j : ℕ) → j < item_count l → (ids_of l j).x.group_id ≡ group_of l j
  begins j lt = flat_group_id l flat j (subst (λ z. j < z) (flat_items l flat) lt) ∙ sym (flat_group l flat whole j)

  across : (j : ℕ) → j < item_count l → group_of l j < groups_across l
  across j lt = subst (λ z. group_of l j < z) (flat_groups l flat) (group_in_launch l whole j lt)

  -- the turns of an item's group are turns of the whole map
  low : (t j : ℕ) → j < item_count l → t < loop_turns l len (group_of l j) → (ids_of l j).x.group_id + t * groups_across l < len
  low t j lt tl = subst (λ z. z + t * groups_across l < len) (sym (begins j lt)) (turn_below len (groups_across l) (group_of l j) t (across j lt) tl)

  high : (j : ℕ) → j < item_count l → len ≤ (ids_of l j).x.group_id + loop_turns l len (group_of l j) * groups_across l
  high j lt = subst (λ z. len ≤ z + loop_turns l len (group_of l j) * groups_across l) (sym (begins j lt)) (turn_past len (groups_across l) (group_of l j) (across j lt))

  -- a loop
  module _ (small : len + groups_across l ≤ 2 ^ 32) (printed : IsGroupKernel k l false len n fence IsPhase) where
    abbrev the_loop : Loop
    the_loop = record { start = FromGroupId X; bound = printed.bound; stride = ByGroupCount X; body = printed.body; after = End }

    counts : (j : ℕ) → j < item_count l → Counts d j the_loop (loop_turns l len (group_of l j))
    counts j lt = record {
      bound = len;
      bound_is = printed.bound_is;
      below = λ t tl. low t j lt tl;
      past = high j lt;
      fits = λ t tl. let z = low t j lt tl in let e : suc t * groups_across l ≡ t * groups_across l + groups_across l = omega arith in omega arith;
    }

    loop_kernel : IsFormKernel k l c (loop_turns l len) (λ t j. (group_of l j + t * groups_across l) ∷ []) n fence IsPhase
    loop_kernel = record {
      form = λ j. loop_form d j [] the_loop (loop_turns l len (group_of l j));
      body = printed.body;
      takes = λ j lt. subst (λ z. TakesTurns d j [] z End (loop_form d j [] the_loop (loop_turns l len (group_of l j)))) (sym printed.code) (loop_takes d j [] the_loop (loop_turns l len (group_of l j)) (counts j lt));
      count = λ j. refl;
      first = λ j. refl;
      last = λ j. refl;
      same_turns = λ t i j e. refl;
      around = λ t j lt. ap (λ z. (z + t * groups_across l) ∷ []) (begins j lt);
      phases = printed.phases;
    }

  -- an `if`, of one turn at most
  module _ (few : len ≤ 1) (printed : IsGroupKernel k l true len n fence IsPhase) where
    one_turn : (j : ℕ) → j < item_count l → loop_turns l len (group_of l j) < 2
    one_turn j lt = ⊎_elim (λ more. absurd (let z = low 1 j lt more in let y = across j lt in omega arith)) (λ few. omega arith) (cases_lt 1 (loop_turns l len (group_of l j)))

    tests : (j : ℕ) → j < item_count l → Tests d j [] k.code printed.body End (loop_turns l len (group_of l j))
    tests j lt =
        let count = loop_turns l len (group_of l j) in
        subst (λ z. Tests d j [] z printed.body End count) (sym printed.code)
        (subst (λ z. Tests d j [] (Guards (FromGroupId X) printed.bound printed.body End) z End count) (then-end printed.body)
        (guard_tests d j [] (FromGroupId X) printed.bound printed.body End len count printed.bound_is (one_turn j lt)
        (λ some. let z = low 0 j lt some in omega arith)
        (λ none. let z = subst (λ m. len ≤ (ids_of l j).x.group_id + m * groups_across l) none (high j lt) in omega arith)))

    guard_kernel : IsFormKernel k l c (loop_turns l len) (λ t j. []) n fence IsPhase
    guard_kernel = test_kernel k l c (loop_turns l len) n fence IsPhase (record { body = printed.body; tests = tests; phases = printed.phases })

  pub group_kernel : (once : Bool) → (once ≡ true → len ≤ 1) → len + groups_across l ≤ 2 ^ 32 → IsGroupKernel k l once len n fence IsPhase
      → IsFormKernel k l c (loop_turns l len) (λ t j. variables_in (form_over_groups once) [] (group_of l j + t * groups_across l)) n fence IsPhase
  group_kernel false few small printed = loop_kernel small printed
  group_kernel true few small printed = guard_kernel (few refl) printed

-- of any form, where barriers separate
module _ (k : Kernel) (l : Launch) (c : Cells) (owner : (array index : ℕ) → ℕ) (wanted : List (List ℕ)) (turns : ℕ → ℕ) (variables : (turn item : ℕ) → List ℕ) (n : ℕ) (IsPhase : ℕ → Code → Code → Type 0) (work : Work) (h : PhasedMap k l c owner wanted turns variables n IsPhase work) (fence : ℕ → Fencing) (printed : IsFormKernel k l c turns variables n fence IsPhase)
    (once : Bool) (few : once ≡ true → (g : ℕ) → turns g ≤ 1) (sep : Separates work.touches Local once n fence) where
  pub phased_leaves : SomeRunLeaves k l c owner wanted
  phased_leaves = let a = some_apart work.touches once n fence turns few sep in form_leaves k l c owner wanted turns variables n IsPhase work h fence a.0 a.1 printed

  pub phased_serves : BarriersServeAll k l c work.filler
  phased_serves = let a = some_apart work.touches once n fence turns few sep in form_serves k l c owner wanted turns variables n IsPhase work h fence a.0 a.1 printed
