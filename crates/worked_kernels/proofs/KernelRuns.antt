-- Worked kernels are printed, so the premises can be met.
use Rattle.std.proofs.Common.{◌≡◌, ℕ, zero, suc, ◌+◌, ◌*◌, ◌%◌, ◌<◌, ◌^◌, Bool, true, false, List, [], ◌∷◌, Some, refl, sym, ap, ◌∙◌, subst, inl, arith}
use Rattle.std.specs.Prelude.{slice_index}
use Rattle.std.proofs.Math.Nat.{mod-eq_of_lt}
use Rattle.scalar_ops.specs.declared.op.Op.TheVariants.{Add, Mul}
use Rattle.kernel_tree.specs.Formula.{Number, Variable, LoopVariable, Binary}
use Rattle.kernel_tree.specs.Code.{Input, Output, Private, End, Performs, Assigns, Stores}
use Rattle.kernel_tree.specs.Launch.{IsWhole}
use Rattle.kernel_tree.proofs.Grouping.{whole_in_a_row, flat_in_a_row}
use Rattle.lift_ir.specs.Types.{Ty, Scalar, PairOf, ArrayOf, IsPosition}
use Rattle.lift_ir.specs.Terms.{HasType, no_type}
use Rattle.lift_ir.specs.Scalars.{Scalars, scalars_of, no_scalars, AreLists}
use Rattle.printed_form.specs.Counts.{no_variables}
use Rattle.printed_form.specs.Marks.{Marks, laid_in}
use Rattle.printed_form.specs.Form.{IsWritten}
use Rattle.printed_form.specs.Whole.{no_marks, output_marks, IsGiven, IsPrinted}
use Rattle.printed_form.specs.Printer.{kernel_code}
use Rattle.worked_kernels.specs.Kernels.{one_item, sums, add_inner, inner_body, inner_store, inner_loop, row_body, add_outer, outer_body, outer_store, outer_loop, outer, sums_kernel, sums_cells, SumsKeep, swaps, swap_back, swap_new, swap_body, swap_store, swap_loop, swaps_kernel, swaps_cells, SwapsKeep}
use Rattle.printed_form.proofs.Whole.{every_run_keeps}

abbrev pub itself : ℕ → ℕ
itself n = n

one_is_whole : IsWhole one_item
one_is_whole = whole_in_a_row 1 1 [] (record { positive = omega arith; divides = refl })

-- the input's cells as a value
abbrev listed : List ℕ → Scalars
listed xs cs [] = 0
listed xs cs (i ∷ q) = slice_index xs i

abbrev sums_inputs : ℕ → Marks
sums_inputs v = laid_in Input v (ArrayOf 4 Scalar)

abbrev sums_types : ℕ → Ty
sums_types zero = ArrayOf 4 Scalar
sums_types (suc v) = ArrayOf 0 Scalar

split_index : (i j : ℕ) → i < 2 → j < 2 → ((i * 2) % 2 ^ 32 + j) % 2 ^ 32 ≡ (i * 2 + j) * 1 + 0
split_index i j a b = ap (λ x. (x + j) % 2 ^ 32) (mod-eq_of_lt (omega arith)) ∙ mod-eq_of_lt (omega arith) ∙ omega arith

four_below : (cs : List Bool) (q : List ℕ) → IsPosition (ArrayOf 4 Scalar) cs q → (i : ℕ) × (q ≡ i ∷ []) × (i < 4)
four_below cs [] w = absurd w
four_below [] (i ∷ []) w = (i, refl, w.0)
four_below [] (i ∷ j ∷ q) w = absurd w.1
four_below (c ∷ cs) (i ∷ q) w = absurd w.1

sums_given : (rest out v : ℕ) (cs : List Bool) (q : List ℕ) → IsPosition (sums_types v) cs q → IsGiven (sums_cells rest out) (sums_inputs v cs q) (listed (1 ∷ 2 ∷ 3 ∷ 4 ∷ []) cs q)
sums_given rest out zero cs q w =
    let r = four_below cs q w in
    let at : r.0 * 1 + 0 ≡ r.0 = omega arith in
    subst (λ p. IsGiven (sums_cells rest out) (sums_inputs 0 cs p) (listed (1 ∷ 2 ∷ 3 ∷ 4 ∷ []) cs p)) (sym r.1) (let lt = r.2 in omega arith, ap (slice_index (1 ∷ 2 ∷ 3 ∷ 4 ∷ [])) at)
sums_given rest out (suc v) cs [] w = absurd w
sums_given rest out (suc v) cs (i ∷ q) w = let z = w.0 in absurd (omega arith)

sums_typed : HasType itself sums_types no_type sums (ArrayOf 1 Scalar)
sums_typed = (
  Scalar,
  omega arith,
  tt,
  tt,
  (refl, tt, (ArrayOf 2 (ArrayOf 1 Scalar), (ArrayOf 2 Scalar, ArrayOf 1 Scalar, omega arith, tt, (ArrayOf 4 Scalar, refl, (omega arith, refl, refl), (omega arith, tt), (omega arith, (omega arith, tt)), tt), (Scalar, omega arith, tt, tt, refl, refl, (refl, refl, refl, refl), refl), refl), (omega arith, refl, refl), (omega arith, (omega arith, tt)), (omega arith, tt), tt)),
  refl,
  (refl, refl, refl, refl),
  refl,
)

row_index : (i : ℕ) → i ≡ (i * 1 + 0) * 1 + 0
row_index i = omega arith

one_index : (i : ℕ) → i ≡ i * 1 + 0
one_index i = omega arith

sums_written : IsWritten one_item 0 sums_inputs itself [] no_marks 0 no_variables sums (output_marks (ArrayOf 1 Scalar)) sums_kernel.code End
sums_written = (
  outer,
  outer,
  outer_loop,
  outer_store,
  (
    tt,
    (
      sums_kernel.code,
      refl,
      (
        Number 2,
        row_body,
        refl,
        refl,
        λ i lt own. (
          row_body,
          refl,
          (
            row_body,
            row_body,
            inner_loop,
            inner_store,
            refl,
            refl,
            (Number 0, refl, refl),
            (
              Number 2,
              inner_body,
              refl,
              refl,
              λ j below mine. (add_inner, add_inner, (Input 0, Binary Add (Binary Mul (LoopVariable 0) (Number 2)) (LoopVariable 1), (refl, λ vs. ap Some (split_index i j lt below)), refl), (add_inner, refl, refl), (Binary Add (Variable 0) (Variable 1), refl, refl)),
            ),
            (Private 0, LoopVariable 0, Variable 0, refl, (refl, λ vs. ap Some (row_index i)), refl),
          ),
        ),
      ),
    ),
  ),
  refl,
  (Number 5, refl, refl),
  (
    Number 2,
    outer_body,
    refl,
    refl,
    λ i lt own. (add_outer, add_outer, (Private 0, LoopVariable 0, (refl, λ vs. ap Some (one_index i)), refl), (add_outer, refl, refl), (Binary Add (Variable 2) (Variable 3), refl, refl)),
  ),
  (Output 0, Number 0, Variable 2, refl, (refl, λ vs. refl), refl),
)

sums_printed : (rest out : ℕ) → IsPrinted one_item itself sums_types sums_inputs (λ v. listed (1 ∷ 2 ∷ 3 ∷ 4 ∷ [])) sums (ArrayOf 1 Scalar) sums_kernel (sums_cells rest out)
sums_printed rest out = record {
  made = record {
    whole = one_is_whole;
    flat = λ e. flat_in_a_row 1 1 [];
    some = omega arith;
    few = omega arith;
    typed = sums_typed;
    flat_type = tt;
    variables = refl;
    vectors = refl;
    privates = refl;
    outputs = refl;
    inputs = sums_given rest out;
  };
  code = inl (refl, sums_written);
}

sums_listed : AreLists (ArrayOf 1 Scalar) (scalars_of itself (λ v. listed (1 ∷ 2 ∷ 3 ∷ 4 ∷ [])) no_scalars sums) ((15 ∷ []) ∷ [])
sums_listed zero zero lt = ([], 0 ∷ [], (omega arith, tt), refl, refl, refl)
sums_listed zero (suc i) lt = absurd (omega arith)
sums_listed (suc a) i lt = absurd (omega arith)

-- every run of the kernel leaves 15
pub sums_keep : SumsKeep
sums_keep rest out = every_run_keeps itself one_item sums_types sums_inputs (λ v. listed (1 ∷ 2 ∷ 3 ∷ 4 ∷ [])) sums (ArrayOf 1 Scalar) sums_kernel (sums_cells rest out) ((15 ∷ []) ∷ []) (sums_printed rest out) refl sums_listed

-- an accumulator of two components: pair(second(a), add(first(a), x)), from pair(0, 1)

abbrev swaps_inputs : ℕ → Marks
swaps_inputs v = laid_in Input v (ArrayOf 3 Scalar)

abbrev pub swaps_types : ℕ → Ty
swaps_types zero = ArrayOf 3 Scalar
swaps_types (suc v) = ArrayOf 0 Scalar

three_below : (cs : List Bool) (q : List ℕ) → IsPosition (ArrayOf 3 Scalar) cs q → (i : ℕ) × (q ≡ i ∷ []) × (i < 3)
three_below cs [] w = absurd w
three_below [] (i ∷ []) w = (i, refl, w.0)
three_below [] (i ∷ j ∷ q) w = absurd w.1
three_below (c ∷ cs) (i ∷ q) w = absurd w.1

swaps_given : (rest o p v : ℕ) (cs : List Bool) (q : List ℕ) → IsPosition (swaps_types v) cs q → IsGiven (swaps_cells rest o p) (swaps_inputs v cs q) (listed (5 ∷ 6 ∷ 7 ∷ []) cs q)
swaps_given rest o p zero cs q w =
    let r = three_below cs q w in
    let at : r.0 * 1 + 0 ≡ r.0 = omega arith in
    subst (λ z. IsGiven (swaps_cells rest o p) (swaps_inputs 0 cs z) (listed (5 ∷ 6 ∷ 7 ∷ []) cs z)) (sym r.1) (let lt = r.2 in omega arith, ap (slice_index (5 ∷ 6 ∷ 7 ∷ [])) at)
swaps_given rest o p (suc v) cs [] w = absurd w
swaps_given rest o p (suc v) cs (i ∷ q) w = let z = w.0 in absurd (omega arith)

swaps_typed : HasType itself swaps_types no_type swaps (ArrayOf 1 (PairOf Scalar Scalar))
swaps_typed = (
  Scalar,
  omega arith,
  tt,
  (tt, tt),
  refl,
  (Scalar, Scalar, refl, tt, tt, refl, refl),
  (Scalar, Scalar, refl, tt, tt, (Scalar, refl), (refl, refl, (Scalar, refl), refl)),
  refl,
)

swaps_written : IsWritten one_item 0 swaps_inputs itself [] no_marks 0 no_variables swaps (output_marks (ArrayOf 1 (PairOf Scalar Scalar))) swaps_kernel.code End
swaps_written = (
  swaps_kernel.code,
  swaps_kernel.code,
  swap_loop,
  swap_store,
  refl,
  (swaps_kernel.code, refl, refl),
  (Performs (Assigns 1 (Number 1)) swap_loop, (Number 0, refl, refl), (Number 1, refl, refl)),
  (
    Number 3,
    swap_body,
    refl,
    refl,
    λ i lt own. (
      swap_new,
      swap_new,
      (Input 0, LoopVariable 0, (refl, λ vs. ap Some (one_index i)), refl),
      (swap_new, refl, (swap_new, refl, refl)),
      (swap_back, (Performs (Assigns 4 (Binary Add (Variable 0) (Variable 2))) swap_back, (Variable 1, refl, refl), (Binary Add (Variable 0) (Variable 2), refl, refl)), (Performs (Assigns 1 (Variable 4)) End, (Variable 3, refl, refl), (Variable 4, refl, refl))),
    ),
  ),
  (Performs (Stores (Output 1) (Number 0) (Variable 1)) End, (Output 0, Number 0, Variable 0, refl, (refl, λ vs. refl), refl), (Output 1, Number 0, Variable 1, refl, (refl, λ vs. refl), refl)),
)

swaps_printed : (rest o p : ℕ) → IsPrinted one_item itself swaps_types swaps_inputs (λ v. listed (5 ∷ 6 ∷ 7 ∷ [])) swaps (ArrayOf 1 (PairOf Scalar Scalar)) swaps_kernel (swaps_cells rest o p)
swaps_printed rest o p = record {
  made = record {
    whole = one_is_whole;
    flat = λ e. flat_in_a_row 1 1 [];
    some = omega arith;
    few = omega arith;
    typed = swaps_typed;
    flat_type = (tt, tt);
    variables = refl;
    vectors = refl;
    privates = refl;
    outputs = refl;
    inputs = swaps_given rest o p;
  };
  code = inl (refl, swaps_written);
}

swaps_listed : AreLists (ArrayOf 1 (PairOf Scalar Scalar)) (scalars_of itself (λ v. listed (5 ∷ 6 ∷ 7 ∷ [])) no_scalars swaps) ((7 ∷ []) ∷ (12 ∷ []) ∷ [])
swaps_listed zero zero lt = (false ∷ [], 0 ∷ [], (omega arith, tt), refl, refl, refl)
swaps_listed zero (suc i) lt = absurd (omega arith)
swaps_listed (suc zero) zero lt = (true ∷ [], 0 ∷ [], (omega arith, tt), refl, refl, refl)
swaps_listed (suc zero) (suc i) lt = absurd (omega arith)
swaps_listed (suc (suc a)) i lt = absurd (omega arith)

-- every run of the kernel leaves 7 and 12
pub swaps_keep : SwapsKeep
swaps_keep rest o p = every_run_keeps itself one_item swaps_types swaps_inputs (λ v. listed (5 ∷ 6 ∷ 7 ∷ [])) swaps (ArrayOf 1 (PairOf Scalar Scalar)) swaps_kernel (swaps_cells rest o p) ((7 ∷ []) ∷ (12 ∷ []) ∷ []) (swaps_printed rest o p) refl swaps_listed

-- the printer writes the worked kernel of an accumulator of two components
swap_shapes : ℕ → Ty
swap_shapes zero = ArrayOf 3 Scalar
swap_shapes (suc v) = ArrayOf 0 Scalar

swaps_are_printed : kernel_code Number (λ v. v) swap_shapes swaps (ArrayOf 1 (PairOf Scalar Scalar)) ≡ swaps_kernel.code
unfolding swap_shapes
swaps_are_printed = refl
