-- The turns of a map from any start by any stride are a form of turns.
use Rattle.std.proofs.Common.{◌≡◌, ℕ, suc, ◌+◌, ◌*◌, ◌/◌, ◌-◌, ◌<◌, ◌≤◌, ◌^◌, List, [], ◌∷◌, ◌++◌, Some, refl, sym, ap, ◌∙◌, subst, ⊎_elim, arith}
use Rattle.std.specs.Prelude.{map}
use Rattle.std.proofs.lemmas.Bool.{cases_lt}
use Rattle.std.proofs.lemmas.Nat.{div-mul-add}
use Rattle.kernel_tree.specs.Formula.{Formula, bound_value}
use Rattle.kernel_tree.specs.Code.{Start, Stride, start_value, stride_value, Code, End, Guards, then_rest}
use Rattle.kernel_tree.specs.Launch.{ids_of}
use Rattle.kernel_tree.specs.Item.{Frame, loop_variables}
use Rattle.kernel_tree.specs.Device.{Device, still}
use Rattle.kernel_tree.specs.Rounds.{Loop, frame_of, Counts}
use Rattle.kernel_tree.proofs.Rows.{then-end}
use Rattle.kernel_tree.specs.Strides.{turns_of}
use Rattle.kernel_tree.proofs.Stride.{turn_below, turn_past}
use Rattle.lift_ir.specs.Terms.{Kind}
use Rattle.printed_form.specs.Form.{start_of, stride_of}
use Rattle.printed_form.specs.MapForms.{MapForm, Looped, Guarded, Alone, TurnCode, AreTurns, variables_in, AreTurnsFrom, statement_of}
use Rattle.printed_form.specs.Marks.{Marks}
use Rattle.group_phases.specs.Strides.{MakesTurnsBy, frames_in, statement_form}
use Rattle.group_phases.specs.TurnForms.{Form, TakesTurns, Tests, loop_form, test_form}
use Rattle.group_phases.proofs.TurnForms.{leads_here, loop_takes, test_takes, guard_tests}

-- a kind of map has its own start and stride
pub turns_of_kind : (d : Device) (k : ℕ) (ins : ℕ → Marks) (f : MapForm) (kind : Kind) (ts : List ℕ) (n : ℕ) (B : TurnCode) (code rest : Code) → AreTurns d.launch k ins f kind ts n B code rest → AreTurnsFrom d.launch k f (start_of kind) (stride_of kind) ts n B code rest
turns_of_kind d k ins Looped kind ts n B code rest h = h
turns_of_kind d k ins Guarded kind ts n B code rest h = h
turns_of_kind d k ins Alone kind ts n B code rest h = h

-- what stands behind
pub turns_on : (d : Device) (k : ℕ) (f : MapForm) (s : Start) (c : Stride) (ts : List ℕ) (n : ℕ) (B : TurnCode) (more : Code) → ((us : List ℕ) (i : ℕ) (code : Code) → B us i code End → B us i (then_rest code more) more)
    → (code : Code) → AreTurnsFrom d.launch k f s c ts n B code End → AreTurnsFrom d.launch k f s c ts n B (then_rest code more) more
turns_on d k Looped s c ts n B more on code h = (h.0, h.1, ap (λ z. then_rest z more) h.2, h.3, h.4)
turns_on d k Guarded s c ts n B more on code h = (h.0, h.1, ap (λ z. then_rest z more) h.2, h.3, h.4)
turns_on d k Alone s c ts n B more on code h = λ i lt is. on ts i code (h i lt is)

-- how many turns there are
module _ (len id size : ℕ) (inside : id < size) where
  pub few_turns : len ≤ size → turns_of len size id < 2
  few_turns short = ⊎_elim (λ more. absurd (let z = turn_below len size id 1 inside more in omega arith)) (λ few. omega arith) (cases_lt 1 (turns_of len size id))

  pub one_turn : len ≡ size → turns_of len size id ≡ 1
  one_turn full =
      let z : len + size - 1 - id ≡ 1 * size + (size - 1 - id) = omega arith in
      ap (λ q. q / size) z ∙ div-mul-add 1 size (size - 1 - id) (omega arith)

module _ (d : Device) (k : ℕ) (s : Start) (c : Stride) (len id size : ℕ) (begins : start_value (ids_of d.launch k) s ≡ id) (steps : stride_value (ids_of d.launch k) c ≡ size) (inside : id < size) where
  abbrev pub count : ℕ
  count = turns_of len size id

  abbrev row : ℕ → ℕ
  row u = id + u * size

  row_is : (u : ℕ) → start_value (ids_of d.launch k) s + u * stride_value (ids_of d.launch k) c ≡ row u
  row_is u = ap (λ z. z + u * stride_value (ids_of d.launch k) c) begins ∙ ap (λ z. id + u * z) steps

  below : (u : ℕ) → u < count → row u < len
  below u lt = turn_below len size id u inside lt

  counts : (b : Formula) (body rest : Code) → len + size ≤ 2 ^ 32 → bound_value d.launch.sizes b ≡ Some len → Counts d k (record { start = s; bound = b; stride = c; body = body; after = rest }) count
  counts b body rest small is = record {
    bound = len;
    bound_is = is;
    below = λ u lt. subst (λ z. z < len) (sym (row_is u)) (below u lt);
    past = subst (λ z. len ≤ z) (sym (row_is count)) (turn_past len size id inside);
    fits = λ u lt. subst (λ z. z < 2 ^ 32) (sym (row_is (suc u))) (let z = below u lt in omega arith);
  }

  tests : (fs : List Frame) (b : Formula) (body rest : Code) → len ≤ size → bound_value d.launch.sizes b ≡ Some len → Tests d k fs (Guards s b body rest) (then_rest body rest) rest count
  tests fs b body rest short is =
      guard_tests d k fs s b body rest len count is (few_turns len id size inside short)
      (λ some. let z = below 0 some in omega arith)
      (λ none. let past = turn_past len size id inside in let z = subst (λ m. len ≤ id + m * size) none past in omega arith)

  alone : (fs : List Frame) (code rest : Code) → len ≡ size → Tests d k fs code code rest count
  alone fs code rest full = let one = one_turn len id size inside full in record { at_most_one = omega arith; enters = λ vars some. leads_here d k _ _ refl; passes = λ vars none. absurd (omega arith) }

  -- as one item comes to its code
  module _ (fs : List Frame) (ts : List ℕ) (at_ts : loop_variables fs ≡ ts) (B : TurnCode) where
    pub record Taken (code rest : Code) : Type 0 where
      pub form : Form
      pub count_is : form.count ≡ count
      pub takes : TakesTurns d k fs code rest form
      pub each : (u : ℕ) → u < count → B (loop_variables (form.frames u)) (id + u * size) form.first form.last

    module _ (small : len + size ≤ 2 ^ 32) where
      pub taken : (f : MapForm) → MakesTurnsBy f len size → (code rest : Code) → ((us : List ℕ) (i : ℕ) (before : Code) → B us i before End → B us i (then_rest before rest) rest) → AreTurnsFrom d.launch k f s c ts len B code rest → Taken code rest
      taken Looped makes code rest on h =
          let p : Loop = record { start = s; bound = h.0; stride = c; body = h.1; after = rest } in
          record {
            form = loop_form d k fs p count;
            count_is = refl;
            takes = subst (λ q. TakesTurns d k fs q rest (loop_form d k fs p count)) (sym h.2) (loop_takes d k fs p count (counts h.0 h.1 rest small h.3));
            each = λ u lt.
                let us = ap (λ q. q ++ row u ∷ []) (sym at_ts) ∙ ap (λ z. loop_variables fs ++ z ∷ []) (sym (row_is u)) in
                subst (λ q. B q (row u) h.1 End) us (h.4 (row u) (below u lt) (u, sym (row_is u)));
          }
      taken Guarded makes code rest on h =
          let few = few_turns len id size inside makes in
          record {
            form = test_form fs (then_rest h.1 rest) rest count;
            count_is = refl;
            takes = subst (λ q. TakesTurns d k fs q rest (test_form fs (then_rest h.1 rest) rest count)) (sym h.2) (test_takes d k fs (Guards s h.0 h.1 rest) (then_rest h.1 rest) rest count (tests fs h.0 h.1 rest makes h.3));
            each = λ u lt.
                let z : u ≡ 0 = omega arith in
                let e : start_value (ids_of d.launch k) s ≡ row u = begins ∙ (let q : id ≡ id + 0 * size = omega arith in q) ∙ ap row (sym z) in
                subst (λ q. B q (row u) (then_rest h.1 rest) rest) (sym at_ts) (on ts (row u) h.1 (h.4 (row u) (below u lt) (sym e)));
          }
      taken Alone makes code rest on h =
          let one = one_turn len id size inside makes in
          record {
            form = test_form fs code rest count;
            count_is = refl;
            takes = test_takes d k fs code code rest count (alone fs code rest makes);
            each = λ u lt.
                let z : u ≡ 0 = omega arith in
                let e : start_value (ids_of d.launch k) s ≡ row u = begins ∙ (let q : id ≡ id + 0 * size = omega arith in q) ∙ ap row (sym z) in
                subst (λ q. B q (row u) code rest) (sym at_ts) (h (row u) (below u lt) (sym e));
          }

  -- as all items come to one code, with nothing behind it
  module _ (fs : List Frame) (b : Formula) (body : Code) (small : len + size ≤ 2 ^ 32) (is : bound_value d.launch.sizes b ≡ Some len) where
    abbrev the_loop : Loop
    the_loop = record { start = s; bound = b; stride = c; body = body; after = End }

    pub statement_takes : (f : MapForm) → MakesTurnsBy f len size → TakesTurns d k fs (statement_of f s c b body) End (statement_form f d k fs the_loop count)
    statement_takes Looped makes = loop_takes d k fs the_loop count (counts b body End small is)
    statement_takes Guarded makes =
        test_takes d k fs (Guards s b body End) body End count (subst (λ z. Tests d k fs (Guards s b body End) z End count) (then-end body) (tests fs b body End makes is))
    statement_takes Alone makes = test_takes d k fs body body End count (alone fs body End makes)

  -- the loops around its turns
  pub frames_variables : (f : MapForm) (fs : List Frame) (ts : List ℕ) (p : Loop) → p.start ≡ s → p.stride ≡ c → loop_variables fs ≡ ts → (u : ℕ) → loop_variables (frames_in f d k fs p u) ≡ variables_in f ts (id + u * size)
  frames_variables Looped fs ts p e q at_ts u =
      ap (λ z. z ++ (start_value (ids_of d.launch k) p.start + u * stride_value (ids_of d.launch k) p.stride) ∷ []) at_ts
      ∙ ap (λ z. ts ++ z ∷ []) (ap (λ z. start_value (ids_of d.launch k) z + u * stride_value (ids_of d.launch k) p.stride) e ∙ ap (λ z. start_value (ids_of d.launch k) s + u * stride_value (ids_of d.launch k) z) q ∙ row_is u)
  frames_variables Guarded fs ts p e q at_ts u = at_ts
  frames_variables Alone fs ts p e q at_ts u = at_ts

-- and they are the same for all items, but for their variables
pub frames_still : (f : MapForm) (d : Device) (i j : ℕ) (fs gs : List Frame) (p : Loop) (u : ℕ) → map still fs ≡ map still gs → map still (frames_in f d i fs p u) ≡ map still (frames_in f d j gs p u)
frames_still Looped d i j fs gs p u e = ap (λ z. still (frame_of d i p u) ∷ z) e
frames_still Guarded d i j fs gs p u e = e
frames_still Alone d i j fs gs p u e = e
