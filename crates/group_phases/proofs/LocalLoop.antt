-- A map over the items of a group, as one item takes its rows: by a loop, by a test, or as the turn
-- alone. Of its argument it reads its own rows alone.
use Rattle.std.proofs.Common.{◌≡◌, ℕ, ◌+◌, ◌*◌, ◌/◌, ◌%◌, ◌-◌, ◌<◌, ◌≤◌, ◌^◌, suc, List, [], ◌∷◌, ◌++◌, Some, refl, sym, ap, ◌∙◌, subst, ⊎_elim, arith}
use Rattle.std.proofs.lemmas.Bool.{cases_lt}
use Rattle.std.proofs.lemmas.Nat.{div-mul-add}
use Rattle.std.proofs.Math.Nat.{mod-lt, mul-div_cancel}
use Rattle.lift_tree.specs.declared.term.Level.TheVariants.{Items}
use Rattle.lift_tree.specs.declared.term.Dimension.TheVariants as dimension
use Rattle.kernel_tree.specs.declared.tree.Dimension.TheVariants.{X}
use Rattle.kernel_tree.specs.Code.{Private, FromLocalId, ByLocalSize, Code, End, then_rest}
use Rattle.kernel_tree.specs.Launch.{ids_of}
use Rattle.kernel_tree.specs.Item.{Frame, loop_variables}
use Rattle.kernel_tree.specs.Rounds.{Loop, Counts}
use Rattle.kernel_tree.specs.Strides.{turns_of}
use Rattle.kernel_tree.proofs.Stride.{turn_below, turn_past}
use Rattle.lift_ir.specs.Types.{Ty, ArrayOf}
use Rattle.lift_ir.specs.Terms.{LoadSet, Over, Term, push, HasType, LoadsScalars}
use Rattle.lift_ir.specs.Scalars.{Scalars, at_index, mapped, scalars_of}
use Rattle.printed_form.specs.Marks.{Marks, loaded_marks}
use Rattle.printed_form.specs.Counts.{Count, more, load_count, variable_count, private_count}
use Rattle.printed_form.specs.Form.{IsLoop, IsLoaded, IsWritten, Declares}
use Rattle.printed_form.specs.MapForms.{MapForm, Looped, Guarded, Alone, MakesTurns, AreTurns}
use Rattle.printed_form.specs.Runs.{Fits, Setting, Known, Scratch, spot_cell, Holds, AllHold, Due, known_after, Ran}
use Rattle.printed_form.proofs.Runs.{at_most, fewer, fits_later, later_on, holds_later, all_hold_later, ran_on, after_silence}
use Rattle.printed_form.proofs.Elements.{all_hold_push}
use Rattle.printed_form.proofs.Cells.{loads_run}
use Rattle.printed_form.proofs.Loops.{at, Rows, Row, PlacesDiffer, rows_apart, no_rows}
use Rattle.printed_form.proofs.Rest.{loaded_on, written_on}
use Rattle.printed_form.proofs.Writes.{writes}
use Rattle.group_phases.specs.TurnForms.{Form, TakesTurns, Tests, loop_form, test_form}
use Rattle.group_phases.proofs.TurnForms.{leads_here, loop_takes, test_takes, guard_tests}
use Rattle.group_phases.proofs.TurnRuns.{EachTurnRuns, turned}

-- any form of turns, whose turn u fills the row `row u` of len
module _ (st : Setting) {A : Type 0} (num : A → ℕ) (ins : ℕ → Marks) (src : ℕ → Ty) (sources : ℕ → Scalars) (own : (p i : ℕ) → st.owners (spot_cell st (Private p) i) ≡ Some st.item) where
  module _ (fs : List Frame) (code rest : Code) (f : Form) (takes : TakesTurns st.device st.item fs code rest f) (len : ℕ) (row : ℕ → ℕ) (below : (u : ℕ) → u < f.count → row u < len) (differ : (t u : ℕ) → row t ≡ row u → t ≡ u)
      (loads : LoadSet) (b : Term A) (g : ℕ → Ty) (env : ℕ → Marks) (sems : ℕ → Scalars) (xt y : Ty) (e w : Marks) (D : Scalars) (x : Known) where
    abbrev rows_result : Scalars
    rows_result = mapped (λ z. scalars_of num sources (push z sems) b) D

    abbrev n : Count
    n = more (more x.count (load_count loads)) (variable_count b)

    abbrev a : ℕ
    a = x.arrays + private_count b

    -- the code of a turn, in the loops that stand around it then
    abbrev pub IsTurnCode : ℕ → Type 0
    IsTurnCode u =
        (inner : Code) × IsLoaded st.device.launch st.item ins (loop_variables (f.frames u)) loads (at_index (row u) e) x.count f.first inner
        × IsWritten st.device.launch st.item ins num (loop_variables (f.frames u)) (push (loaded_marks loads (at_index (row u) e) x.count) env) x.arrays (more x.count (load_count loads)) b (at_index (row u) w) inner f.last

    module _ (suits : LoadsScalars loads xt) (typed : HasType num src (push xt g) b y) (long : Declares st.device.lengths x.arrays b) (places : PlacesDiffer st row y w D (ArrayOf len y)) (dues : (u : ℕ) → u < f.count → Due st a y (at_index (row u) w))
        (printed : (u : ℕ) → u < f.count → IsTurnCode u)
        (room : Fits n x.vars) (holds : (u : ℕ) → u < f.count → Holds st x xt (at_index (row u) e) (at_index (row u) D)) (es : AllHold st x g env sems) (gs : AllHold st x src ins sources) where
      turn : EachTurnRuns st fs code rest f takes x (Scratch x.arrays a) (Rows st row y w rows_result) (Row st row y w rows_result) (λ t m vars. Unit {0}) (no_rows st row y w rows_result) (rows_apart st row y w rows_result x.arrays a len f.count places dues below differ) n a
      turn t lt m vars later inv =
          let i = row t in
          let z = at x m vars in
          let fs2 = f.frames t in
          let ts = loop_variables fs2 in
          let k = printed t lt in
          let here : Holds st z xt (at_index i e) (at_index i D) = holds_later st x z xt (at_index i e) (at_index i D) later (holds t lt) in
          let long1 = fits_later room later.kept in
          let r = loads_run st ts fs2 refl ins loads xt (at_index i e) (at_index i D) z f.first k.0 suits k.1 (fewer long1 (omega arith) (omega arith)) here in
          let z2 = known_after z r.deeds r.after (more x.count (load_count loads)) x.arrays in
          let later2 = later_on st x z z2 later r.later in
          let long2 = fits_later long1 r.later.kept in
          let es2 = all_hold_push st z2 xt (loaded_marks loads (at_index i e) x.count) (at_index i D) g env sems r.good (all_hold_later st x z2 g env sems later2 es) in
          let r2 = writes st num ins src sources own b ts fs2 refl (push xt g) (push (loaded_marks loads (at_index i e) x.count) env) (push (at_index i D) sems) y (at_index i w) z2 k.0 f.last typed k.2 long2 long (dues t lt) es2 (all_hold_later st x z2 src ins sources later2 gs) in
          ran_on st z fs2 f.first k.0 f.last (more x.count (load_count loads)) x.arrays n a after_silence r r2

      pub rows_run : Ran st x fs code rest n a (Scratch x.arrays a) (Rows st row y w rows_result f.count) (λ z. Unit {0})
      rows_run = turned st fs code rest f takes x (Scratch x.arrays a) (Rows st row y w rows_result) (Row st row y w rows_result) (λ t m vars. Unit {0}) (no_rows st row y w rows_result) (rows_apart st row y w rows_result x.arrays a len f.count places dues below differ) n a tt turn n a (at_most (omega arith) (omega arith)) (omega arith)

module _ (st : Setting) {A : Type 0} (num : A → ℕ) (ins : ℕ → Marks) (src : ℕ → Ty) (sources : ℕ → Scalars) (own : (p i : ℕ) → st.owners (spot_cell st (Private p) i) ≡ Some st.item) (positive : 0 < st.device.launch.local.0) where
  abbrev id : ℕ
  id = st.item % st.device.launch.local.0

  abbrev pub row : ℕ → ℕ
  row u = id + u * st.device.launch.local.0

  same_turn : (t u : ℕ) → row t ≡ row u → t ≡ u
  same_turn t u q =
      let z : t * st.device.launch.local.0 ≡ u * st.device.launch.local.0 = omega arith in
      sym (mul-div_cancel t positive) ∙ ap (λ v. v / st.device.launch.local.0) z ∙ mul-div_cancel u positive

  module _ (len : ℕ) (loads : LoadSet) (b : Term A) (ts : List ℕ) (fs : List Frame) (at_ts : loop_variables fs ≡ ts) (g : ℕ → Ty) (env : ℕ → Marks) (sems : ℕ → Scalars) (xt y : Ty) (e w : Marks) (D : Scalars) (x : Known) (code rest : Code) where
    abbrev pub count : ℕ
    count = turns_of len st.device.launch.local.0 id

    abbrev pub result : Scalars
    result = mapped (λ z. scalars_of num sources (push z sems) b) D

    below : (u : ℕ) → u < count → row u < len
    below u lt = turn_below len st.device.launch.local.0 id u (mod-lt st.item positive) lt

    module _ (suits : LoadsScalars loads xt) (typed : HasType num src (push xt g) b y) (long : Declares st.device.lengths x.arrays b) (places : PlacesDiffer st row y w D (ArrayOf len y)) (dues : (u : ℕ) → u < count → Due st (x.arrays + private_count b) y (at_index (row u) w))
        (room : Fits (more (more x.count (load_count loads)) (variable_count b)) x.vars) (holds : (u : ℕ) → u < count → Holds st x xt (at_index (row u) e) (at_index (row u) D)) (es : AllHold st x g env sems) (gs : AllHold st x src ins sources) where
      -- what the item comes to, whichever form it takes
      abbrev pub RunsRows : Type 0
      RunsRows = Ran st x fs code rest (more (more x.count (load_count loads)) (variable_count b)) (x.arrays + private_count b) (Scratch x.arrays (x.arrays + private_count b)) (Rows st row y w result count) (λ z. Unit {0})

      -- by a loop from the local id by the local size
      module _ (begins : (ids_of st.device.launch st.item).x.local_id ≡ id) (small : len + st.device.launch.local.0 ≤ 2 ^ 32)
          (h : IsLoop st.device.launch st.item ins (Over Items dimension.X) len
          (λ i body. (inner : Code) × IsLoaded st.device.launch st.item ins (ts ++ i ∷ []) loads (at_index i e) x.count body inner
          × IsWritten st.device.launch st.item ins num (ts ++ i ∷ []) (push (loaded_marks loads (at_index i e) x.count) env) x.arrays (more x.count (load_count loads)) b (at_index i w) inner End)
          code rest) where
        abbrev loop : Loop
        loop = record { start = FromLocalId X; bound = h.0; stride = ByLocalSize X; body = h.1; after = rest }

        counts : Counts st.device st.item loop count
        counts = record {
          bound = len;
          bound_is = h.3;
          below = λ u lt. subst (λ z. z + u * st.device.launch.local.0 < len) (sym begins) (below u lt);
          past = subst (λ z. len ≤ z + count * st.device.launch.local.0) (sym begins) (turn_past len st.device.launch.local.0 id (mod-lt st.item positive));
          fits = λ u lt. subst (λ z. z + suc u * st.device.launch.local.0 < 2 ^ 32) (sym begins) (let z = below u lt in omega arith);
        }

        takes : TakesTurns st.device st.item fs code rest (loop_form st.device st.item fs loop count)
        takes = subst (λ q. TakesTurns st.device st.item fs q rest (loop_form st.device st.item fs loop count)) (sym h.2) (loop_takes st.device st.item fs loop count counts)

        pub local_run : RunsRows
        local_run =
            rows_run st num ins src sources own fs code rest (loop_form st.device st.item fs loop count) takes len row below same_turn loads b g env sems xt y e w D x suits typed long places dues
            (λ u lt.
            let k = h.4 (row u) (below u lt) (u, ap (λ z. z + u * st.device.launch.local.0) (sym begins)) in
            let is = ap (λ q. q ++ row u ∷ []) (sym at_ts) ∙ ap (λ z. loop_variables fs ++ (z + u * st.device.launch.local.0) ∷ []) (sym begins) in
            (k.0, subst (λ q. IsLoaded st.device.launch st.item ins q loads (at_index (row u) e) x.count h.1 k.0) is k.1, subst (λ q. IsWritten st.device.launch st.item ins num q (push (loaded_marks loads (at_index (row u) e) x.count) env) x.arrays (more x.count (load_count loads)) b (at_index (row u) w) k.0 End) is k.2))
            room holds es gs

      -- of a length that is at most the local size each item has one turn at most
      pub few_turns : len ≤ st.device.launch.local.0 → count ≤ 1
      few_turns short = ⊎_elim (λ more. absurd (let z = turn_below len st.device.launch.local.0 id 1 (mod-lt st.item positive) more in omega arith)) (λ few. few) (cases_lt 1 count)

      -- by a statement that tests, as an `if` from the local id: the
      -- index of a turn is the local id
      module _ (into : Code) (tests : Tests st.device st.item fs code into rest count)
          (h : 0 < count → (inner : Code) × IsLoaded st.device.launch st.item ins ts loads (at_index id e) x.count into inner
          × IsWritten st.device.launch st.item ins num ts (push (loaded_marks loads (at_index id e) x.count) env) x.arrays (more x.count (load_count loads)) b (at_index id w) inner rest) where
        pub test_run : RunsRows
        test_run =
            rows_run st num ins src sources own fs code rest (test_form fs into rest count) (test_takes st.device st.item fs code into rest count tests) len row below same_turn loads b g env sems xt y e w D x suits typed long places dues
            (λ u lt.
            let few = tests.at_most_one in
            let is : id ≡ row u = (let z : 0 ≡ u = omega arith in let q : id ≡ id + 0 * st.device.launch.local.0 = omega arith in q ∙ ap row z) in
            let at = h (omega arith) in
            let k = subst
            (λ (i : ℕ). (inner : Code) × IsLoaded st.device.launch st.item ins (loop_variables fs) loads (at_index i e) x.count into inner × IsWritten st.device.launch st.item ins num (loop_variables fs) (push (loaded_marks loads (at_index i e) x.count) env) x.arrays (more x.count (load_count loads)) b (at_index i w) inner rest)
            is
            (at.0, subst (λ q. IsLoaded st.device.launch st.item ins q loads (at_index id e) x.count into at.0) (sym at_ts) at.1, subst (λ q. IsWritten st.device.launch st.item ins num q (push (loaded_marks loads (at_index id e) x.count) env) x.arrays (more x.count (load_count loads)) b (at_index id w) at.0 rest) (sym at_ts) at.2)
            in
            (k.0, k.1, k.2))
            room holds es gs

      -- as the turn alone, where the length is the local size
      module _ (full : len ≡ st.device.launch.local.0)
          (h : (inner : Code) × IsLoaded st.device.launch st.item ins ts loads (at_index id e) x.count code inner
          × IsWritten st.device.launch st.item ins num ts (push (loaded_marks loads (at_index id e) x.count) env) x.arrays (more x.count (load_count loads)) b (at_index id w) inner rest) where
        one_turn : count ≡ 1
        one_turn =
            let lt = mod-lt st.item positive in
            let z : len + st.device.launch.local.0 - 1 - id ≡ 1 * st.device.launch.local.0 + (st.device.launch.local.0 - 1 - id) = omega arith in
            ap (λ q. q / st.device.launch.local.0) z ∙ div-mul-add 1 st.device.launch.local.0 (st.device.launch.local.0 - 1 - id) (omega arith)

        pub alone_run : RunsRows
        alone_run = test_run code (record { at_most_one = let z = one_turn in omega arith; enters = λ vars some. leads_here st.device st.item _ _ refl; passes = λ vars none. absurd (let z = one_turn in omega arith) }) (λ some. h)

      -- in a form that makes its turns
      abbrev pub IsRowCode : (variables : List ℕ) → (turn : ℕ) → (code rest : Code) → Type 0
      IsRowCode us i before after =
          (inner : Code) × IsLoaded st.device.launch st.item ins us loads (at_index i e) x.count before inner
          × IsWritten st.device.launch st.item ins num us (push (loaded_marks loads (at_index i e) x.count) env) x.arrays (more x.count (load_count loads)) b (at_index i w) inner after

      module _ (begins : (ids_of st.device.launch st.item).x.local_id ≡ id) (small : len + st.device.launch.local.0 ≤ 2 ^ 32) where
        guard_run : len ≤ st.device.launch.local.0 → AreTurns st.device.launch st.item ins Guarded (Over Items dimension.X) ts len IsRowCode code rest → RunsRows
        guard_run short h =
            let few = few_turns short in
            let at_most_one : count < 2 = omega arith in
            let past = turn_past len st.device.launch.local.0 id (mod-lt st.item positive) in
            let tests = guard_tests st.device st.item fs (FromLocalId X) h.0 h.1 rest len count h.3 at_most_one
            (λ some. let z = below 0 some in omega arith)
            (λ none. let z = subst (λ m. len ≤ id + m * st.device.launch.local.0) none past in omega arith)
            in
            test_run (then_rest h.1 rest) (subst (λ z. Tests st.device st.item fs z (then_rest h.1 rest) rest count) (sym h.2) tests)
            (λ some.
            let k = h.4 id (let z = below 0 some in omega arith) (sym begins) in (
              then_rest k.0 rest,
              loaded_on rest st.device.launch st.item ins ts loads (at_index id e) x.count h.1 k.0 k.1,
              written_on rest st.device.launch st.item ins num ts (push (loaded_marks loads (at_index id e) x.count) env) x.arrays (more x.count (load_count loads)) b (at_index id w) k.0 End k.2,
            ))

        pub form_run : (form : MapForm) → MakesTurns form len st.device.launch → AreTurns st.device.launch st.item ins form (Over Items dimension.X) ts len IsRowCode code rest → RunsRows
        form_run Looped fits h = local_run begins small h
        form_run Guarded fits h = guard_run fits h
        form_run Alone fits h = alone_run fits (h id (let lt = mod-lt st.item positive in omega arith) (sym begins))
