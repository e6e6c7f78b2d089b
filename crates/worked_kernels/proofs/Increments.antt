-- One kernel at every launch: a map over the launch that adds 1 to each of N elements.
use Rattle.std.proofs.Common.{◌≡◌, ℕ, zero, suc, ◌+◌, ◌*◌, ◌/◌, ◌%◌, ◌<◌, ◌^◌, Bool, List, [], ◌∷◌, length, Some, refl, sym, ap, ◌∙◌, inr, arith}
use Rattle.std.specs.Prelude.{slice_index, map}
use Rattle.std.proofs.lemmas.List.{length-map, get_or-map}
use Rattle.scalar_ops.specs.declared.op.Op.TheVariants.{Add}
use Rattle.kernel_tree.specs.Formula.{Number, Variable, LoopVariable, Size, Binary}
use Rattle.kernel_tree.specs.Code.{Input, Output, End}
use Rattle.kernel_tree.specs.Launch.{Launch}
use Rattle.lift_ir.specs.Types.{Ty, Scalar, ArrayOf, IsPosition}
use Rattle.lift_ir.specs.Terms.{HasType, no_type}
use Rattle.lift_ir.specs.Scalars.{Scalars, scalars_of, no_scalars, AreLists}
use Rattle.printed_form.specs.Counts.{no_variables}
use Rattle.printed_form.specs.Marks.{Marks, laid_in}
use Rattle.printed_form.specs.Whole.{no_marks, output_marks, IsOverLaunch, IsGiven}
use Rattle.printed_form.proofs.Whole.{every_run_keeps}
use Rattle.worked_kernels.specs.Kernels.{turn_store, turn_body, increments_kernel, increments, increments_cells, incremented, IncrementsKeep}
use Rattle.worked_kernels.proofs.KernelRuns.{itself}

abbrev pub inputs_at : ℕ → ℕ → Marks
inputs_at n v = laid_in Input v (ArrayOf n Scalar)

abbrev pub types_at : ℕ → ℕ → Ty
types_at n zero = ArrayOf n Scalar
types_at n (suc v) = ArrayOf 0 Scalar

abbrev pub values_of : List ℕ → ℕ → Scalars
values_of xs v cs [] = 0
values_of xs v cs (i ∷ q) = slice_index xs i

one_index : (i : ℕ) → i ≡ i * 1 + 0
one_index i = omega arith

written : (l : Launch) (item n : ℕ) → l.sizes ≡ n ∷ [] → IsOverLaunch l item (inputs_at n) itself no_marks 0 no_variables (increments n) (output_marks (ArrayOf n Scalar)) increments_kernel.code End
written l item n e = (
  increments_kernel.code,
  refl,
  (
    Size 0,
    turn_body,
    refl,
    ap (λ ns. Some (slice_index ns 0)) e,
    λ i lt own. (turn_store, (Input 0, LoopVariable 0, (refl, λ vs. ap Some (one_index i)), refl), (turn_store, (turn_store, refl, refl), (Output 0, LoopVariable 0, Binary Add (Variable 0) (Number 1), refl, (refl, λ vs. ap Some (one_index i)), refl))),
  ),
)

pub given : (xs out : List ℕ) (rest v : ℕ) (cs : List Bool) (q : List ℕ) → IsPosition (types_at (length xs) v) cs q → IsGiven (increments_cells xs out rest) (inputs_at (length xs) v cs q) (values_of xs v cs q)
given xs out rest zero cs [] w = absurd w
given xs out rest zero cs (i ∷ q) w = let e : i * 1 + 0 ≡ i = omega arith in (let lt = w.0 in omega arith, ap (slice_index xs) e)
given xs out rest (suc v) cs [] w = absurd w
given xs out rest (suc v) cs (i ∷ q) w = let z = w.0 in absurd (omega arith)

typed : (n : ℕ) → n < 2 ^ 31 → HasType itself (types_at n) no_type (increments n) (ArrayOf n Scalar)
typed n small = (Scalar, Scalar, small, tt, refl, (refl, tt, (refl, refl, refl, refl)), refl)

all_listed : (xs : List ℕ) → AreLists (ArrayOf (length xs) Scalar) (scalars_of itself (values_of xs) no_scalars (increments (length xs))) (incremented xs ∷ [])
all_listed xs zero i lt =
    let low : i < length xs = (let z = length-map xs (λ x. (x + 1) % 2 ^ 32) in omega arith) in
    ([], i ∷ [], (low, tt), refl, omega arith, get_or-map (λ x. (x + 1) % 2 ^ 32) xs i 0 0 low)
all_listed xs (suc a) i lt = absurd (omega arith)

pub one_row : (n : ℕ) (out : List ℕ) → length out ≡ n → map length (out ∷ []) ≡ n * 1 ∷ []
one_row n out e = ap (λ k. k ∷ []) (let z : length out ≡ n * 1 = omega arith in z)

pub first_row : (x g : ℕ) → x + 0 * g ≡ x
first_row x g = omega arith

-- at every launch over fewer than 2^31 elements
pub increments_keep : IncrementsKeep
increments_keep l xs out rest whole flat some few sizes small room s es start r =
    let h = every_run_keeps itself l (types_at (length xs)) (inputs_at (length xs)) (values_of xs) (increments (length xs)) (ArrayOf (length xs) Scalar) increments_kernel (increments_cells xs out rest) (incremented xs ∷ [])
    (record {
      made = record {
        whole = whole;
        flat = λ e. flat;
        some = some;
        few = few;
        typed = typed (length xs) small;
        flat_type = tt;
        variables = refl;
        vectors = refl;
        privates = refl;
        outputs = one_row (length xs) out room;
        inputs = given xs out rest;
      };
      code = inr (λ item lt. written l item (length xs) sizes);
    })
    (ap (λ n. n ∷ []) (length-map xs (λ x. (x + 1) % 2 ^ 32) ∙ sym room)) (all_listed xs) s es start r in
    record { leaves = h.leaves; by_owner = λ x among a i w. h.by_owner x among a i w ∙ ap (λ j. j % l.global.0 + 0 * l.global.0) (let z : i / 1 ≡ i = omega arith in z) ∙ first_row (i % l.global.0) l.global.0 }
