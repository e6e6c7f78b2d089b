-- One kernel at every launch: a map over the launch that adds 1 to each of N vectors of four.
use Rattle.std.proofs.Common.{◌≡◌, ℕ, zero, suc, ◌+◌, ◌*◌, ◌/◌, ◌%◌, ◌<◌, ◌^◌, Bool, List, [], ◌∷◌, length, Some, refl, sym, ap, ◌∙◌, subst, inr, arith}
use Rattle.std.specs.Prelude.{slice_index}
use Rattle.std.proofs.lemmas.List.{length-map, get_or-map}
use Rattle.std.proofs.Math.Nat.{mul-div_cancel}
use Rattle.scalar_ops.specs.declared.op.Op.TheVariants.{Add, Div}
use Rattle.kernel_tree.specs.Formula.{Number, LoopVariable, Size, Binary, Vector, Spread}
use Rattle.kernel_tree.specs.Formula as lanes
use Rattle.kernel_tree.specs.Code.{Array, Input, Output, End}
use Rattle.kernel_tree.specs.Launch.{Launch}
use Rattle.lift_ir.specs.Types.{Scalar, ArrayOf, four, IsPosition}
use Rattle.lift_ir.specs.Terms.{HasType, no_type}
use Rattle.lift_ir.specs.Scalars.{scalars_of, no_scalars, AreLists}
use Rattle.printed_form.specs.Counts.{no_variables}
use Rattle.printed_form.specs.Marks.{Spot}
use Rattle.printed_form.specs.Whole.{no_marks, output_marks, IsOverLaunch, IsGiven}
use Rattle.printed_form.proofs.Whole.{every_run_keeps}
use Rattle.worked_kernels.specs.Kernels.{four_store, four_body, four_increments_kernel, four_increments, increments_cells, incremented, FourIncrementsKeep}
use Rattle.worked_kernels.proofs.KernelRuns.{itself}
use Rattle.worked_kernels.proofs.Increments.{inputs_at, types_at, values_of, given, one_row, first_row}

-- lane j of vector i is the cell that stands there
cell : (a : Array) (i j : ℕ) → Spot a ((i * 4 + j) * 1 + 0) ≡ Spot a (4 * i + j)
cell a i j = ap (Spot a) (let e : (i * 4 + j) * 1 + 0 ≡ 4 * i + j = omega arith in e)

count : (n : ℕ) → n * 4 / 4 ≡ n
count n = mul-div_cancel n (omega arith)

written : (l : Launch) (item n : ℕ) → l.sizes ≡ (n * 4) ∷ [] → IsOverLaunch l item (inputs_at (n * 4)) itself no_marks 0 no_variables (four_increments n) (output_marks (ArrayOf (n * 4) Scalar)) four_increments_kernel.code End
written l item n e = (
  tt,
  (
    four_increments_kernel.code,
    refl,
    (
      Binary Div (Size 0) (Number 4),
      four_body,
      refl,
      ap (λ ns. Some (slice_index ns 0 / 4)) e ∙ ap Some (count n),
      λ i lt own. (
        four_store,
        (Input 0, LoopVariable 0, (i, record { at = λ j k. cell (Input 0) i j }, λ vs. refl), refl),
        (
          four_store,
          (four_store, refl, refl),
          ((refl, refl), Output 0, LoopVariable 0, lanes.Each Add (Vector 0) (Spread (Number 1)), refl, (i, record { at = λ j k. cell (Output 0) i j }, λ vs. refl), refl),
        ),
      ),
    ),
  ),
)

typed : (n : ℕ) → n * 4 < 2 ^ 31 → HasType itself (types_at (n * 4)) no_type (four_increments n) (ArrayOf (n * 4) Scalar)
typed n small =
    let low : n < 2 ^ 31 = omega arith in
    let same : ArrayOf n four ≡ ArrayOf (n * 4 / 4) four = ap (λ z. ArrayOf z four) (sym (count n)) in
    let by_four : 4 < 2 ^ 31 = omega arith in (
      ArrayOf n four,
      (
        four,
        four,
        low,
        (refl, refl),
        (ArrayOf (n * 4) Scalar, refl, (omega arith, ap (λ z. z * 4) (count n), same), (small, tt), (low, (by_four, tt)), tt),
        (refl, (refl, refl), (refl, refl, refl, tt, refl, refl)),
        refl,
      ),
      (omega arith, refl, refl),
      (low, (by_four, tt)),
      (small, tt),
      tt,
    )

all_listed : (n : ℕ) (xs : List ℕ) → length xs ≡ n * 4 → AreLists (ArrayOf (n * 4) Scalar) (scalars_of itself (values_of xs) no_scalars (four_increments n)) (incremented xs ∷ [])
all_listed n xs long zero k lt =
    let low : k < length xs = (let z = length-map xs (λ x. (x + 1) % 2 ^ 32) in omega arith) in
    let place : k / 4 * 4 + k % 4 ≡ k = omega arith in (
      [],
      k ∷ [],
      (subst (λ z. k < z) long low, tt),
      refl,
      (let z : k * 1 + 0 ≡ k = omega arith in z),
      get_or-map (λ x. (x + 1) % 2 ^ 32) xs k 0 0 low ∙ ap (λ z. (slice_index xs z + 1) % 2 ^ 32) (sym place),
    )
all_listed n xs long (suc a) k lt = absurd (omega arith)

-- the vector of a place
vector_of : (i g : ℕ) → i / 1 / 4 % g + 0 * g ≡ i / 4 % g
vector_of i g = ap (λ j. j / 4 % g + 0 * g) (let z : i / 1 ≡ i = omega arith in z) ∙ first_row (i / 4 % g) g

pub four_increments_keep : FourIncrementsKeep
four_increments_keep l n xs out rest whole flat some few sizes small long room s es start r =
    let stands = subst (λ m. (v : ℕ) (cs : List Bool) (q : List ℕ) → IsPosition (types_at m v) cs q → IsGiven (increments_cells xs out rest) (inputs_at m v cs q) (values_of xs v cs q)) long (given xs out rest) in
    let h = every_run_keeps itself l (types_at (n * 4)) (inputs_at (n * 4)) (values_of xs) (four_increments n) (ArrayOf (n * 4) Scalar) four_increments_kernel (increments_cells xs out rest) (incremented xs ∷ [])
    (record {
      made = record {
        whole = whole;
        flat = λ e. flat;
        some = some;
        few = few;
        typed = typed n small;
        flat_type = tt;
        variables = refl;
        vectors = refl;
        privates = refl;
        outputs = one_row (n * 4) out room;
        inputs = stands;
      };
      code = inr (λ item lt. written l item n sizes);
    })
    (ap (λ k. k ∷ []) (length-map xs (λ x. (x + 1) % 2 ^ 32) ∙ long ∙ sym room)) (all_listed n xs long) s es start r in
    record { leaves = h.leaves; by_owner = λ x among a i w. h.by_owner x among a i w ∙ vector_of i l.global.0 }
