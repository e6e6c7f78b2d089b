-- One kernel at every launch in two dimensions: a pair of maps over it that adds 1
-- to each of N rows of M elements.
use Rattle.std.proofs.Common.{◌≡◌, ℕ, zero, suc, ◌+◌, ◌*◌, ◌/◌, ◌%◌, ◌<◌, ◌≤◌, ◌^◌, Bool, List, [], ◌∷◌, length, Some, refl, sym, ap, ◌∙◌, subst, inr, arith}
use Rattle.std.specs.Prelude.{slice_index, map}
use Rattle.std.proofs.lemmas.List.{length-map, get_or-map}
use Rattle.std.proofs.Math.Nat.{mod-eq_of_lt, mul-le-mul_right, div-lt_iff_lt-mul, mod-lt}
use Rattle.scalar_ops.specs.declared.op.Op.TheVariants.{Add}
use Rattle.kernel_tree.specs.Formula.{Number, Variable, Size, Binary}
use Rattle.kernel_tree.specs.Code.{Input, Output, End}
use Rattle.kernel_tree.specs.Launch.{Launch, item_at}
use Rattle.lift_ir.specs.Types.{Ty, Scalar, ArrayOf, IsPosition}
use Rattle.lift_ir.specs.Terms.{HasType, no_type}
use Rattle.lift_ir.specs.Scalars.{Scalars, scalars_of, no_scalars, AreLists}
use Rattle.printed_form.specs.Counts.{no_variables}
use Rattle.printed_form.specs.Form.{IsIndex}
use Rattle.printed_form.specs.Marks.{Marks, laid_in}
use Rattle.printed_form.specs.Whole.{no_marks, output_marks, IsOverLaunch, IsGiven}
use Rattle.printed_form.proofs.Whole.{every_run_keeps}
use Rattle.worked_kernels.specs.Kernels.{place_in_rows, place_store, place_body, along_row, row_increments_kernel, row_increments, increments_cells, incremented, RowIncrementsKeep}
use Rattle.worked_kernels.proofs.KernelRuns.{itself}

abbrev rows_of : (n m : ℕ) → Ty
rows_of n m = ArrayOf n (ArrayOf m Scalar)

abbrev inputs_at : (n m : ℕ) → ℕ → Marks
inputs_at n m v = laid_in Input v (rows_of n m)

abbrev types_at : (n m : ℕ) → ℕ → Ty
types_at n m zero = rows_of n m
types_at n m (suc v) = ArrayOf 0 Scalar

abbrev values_of : (m : ℕ) → List ℕ → ℕ → Scalars
values_of m xs v cs [] = 0
values_of m xs v cs (i ∷ []) = 0
values_of m xs v cs (i ∷ j ∷ q) = slice_index xs (i * m + j)

-- a place in rows is below their size
within : (i j n m : ℕ) → i < n → j < m → i * m + j < n * m
within i j n m h lt = let e : suc i * m ≤ n * m = mul-le-mul_right m (let p : suc i ≤ n = omega arith in p) in omega arith

flat_place : (i j m : ℕ) → i * m + j ≡ i * (m * 1) + (j * 1 + 0)
flat_place i j m = let e : m * 1 ≡ m = omega arith in sym (ap (λ z. i * z + (j * 1 + 0)) e ∙ (let f : i * m + (j * 1 + 0) ≡ i * m + j = omega arith in f))

-- no sum or product of it wraps
no_wrap : (i j m : ℕ) → i * m + j < 2 ^ 32 → ((i * m) % 2 ^ 32 + j) % 2 ^ 32 ≡ i * m + j
no_wrap i j m lt = ap (λ z. (z + j) % 2 ^ 32) (mod-eq_of_lt (let q : i * m < 2 ^ 32 = omega arith in q)) ∙ mod-eq_of_lt lt

-- what is spelled for it has its number
is_place : (l : Launch) (item n m i j : ℕ) → l.sizes ≡ n ∷ m ∷ [] → n * m < 2 ^ 31 → i < n → j < m → IsIndex l item (inputs_at n m) (i ∷ j ∷ []) place_in_rows (i * (m * 1) + (j * 1 + 0))
is_place l item n m i j e small h lt vs =
    let low : i * m + j < 2 ^ 32 = (let in_all = within i j n m h lt in omega arith) in
    ap (λ ns. Some ((i * slice_index ns 1 % 2 ^ 32 + j) % 2 ^ 32)) e ∙ ap Some (no_wrap i j m low ∙ flat_place i j m)

written : (l : Launch) (item n m : ℕ) → l.sizes ≡ n ∷ m ∷ [] → n * m < 2 ^ 31 → IsOverLaunch l item (inputs_at n m) itself no_marks 0 no_variables (row_increments n m) (output_marks (rows_of n m)) row_increments_kernel.code End
written l item n m e small = (
  row_increments_kernel.code,
  refl,
  (
    Size 0,
    along_row,
    refl,
    ap (λ ns. Some (slice_index ns 0)) e,
    λ i h own. (
      along_row,
      refl,
      (
        along_row,
        refl,
        (
          Size 1,
          place_body,
          refl,
          ap (λ ns. Some (slice_index ns 1)) e,
          λ j lt mine. (place_store, (Input 0, place_in_rows, (refl, is_place l item n m i j e small h lt), refl), (place_store, (place_store, refl, refl), (Output 0, place_in_rows, Binary Add (Variable 0) (Number 1), refl, (refl, is_place l item n m i j e small h lt), refl))),
        ),
      ),
    ),
  ),
)

given : (n m : ℕ) (xs out : List ℕ) → length xs ≡ n * m → (rest v : ℕ) (cs : List Bool) (q : List ℕ) → IsPosition (types_at n m v) cs q → IsGiven (increments_cells xs out rest) (inputs_at n m v cs q) (values_of m xs v cs q)
given n m xs out long rest zero cs [] w = absurd w
given n m xs out long rest zero cs (i ∷ []) w = absurd w.1
given n m xs out long rest zero cs (i ∷ j ∷ q) w =
    let e = flat_place i j m in
    let lt = within i j n m w.0 w.1.0 in
    (subst (λ z. z < length xs) e (subst (λ z. i * m + j < z) (sym long) lt), ap (slice_index xs) (sym e))
given n m xs out long rest (suc v) cs [] w = absurd w
given n m xs out long rest (suc v) cs (i ∷ q) w = let z = w.0 in absurd (omega arith)

typed : (n m : ℕ) → n < 2 ^ 31 → m < 2 ^ 31 → HasType itself (types_at n m) no_type (row_increments n m) (rows_of n m)
typed n m a b = (ArrayOf m Scalar, ArrayOf m Scalar, a, tt, refl, (Scalar, Scalar, b, tt, refl, (refl, tt, (refl, refl, refl, refl)), refl), refl)

once : (m : ℕ) → m * 1 ≡ m
once m = omega arith

alone : (x : ℕ) → x / 1 ≡ x
alone x = omega arith

all_rows : (n m : ℕ) (out : List ℕ) → length out ≡ n * m → map length (out ∷ []) ≡ n * (m * 1) ∷ []
all_rows n m out e = ap (λ k. k ∷ []) (e ∙ ap (λ z. n * z) (sym (once m)))

some_columns : (n m k : ℕ) → k < n * m → 0 < m
some_columns n zero k h = let z : n * 0 ≡ 0 = omega arith in absurd (omega arith)
some_columns n (suc m) k h = omega arith

-- the row and the column of a place
all_listed : (n m : ℕ) (xs : List ℕ) → length xs ≡ n * m → AreLists (rows_of n m) (scalars_of itself (values_of m xs) no_scalars (row_increments n m)) (incremented xs ∷ [])
all_listed n m xs long zero k lt =
    let low : k < length xs = (let z = length-map xs (λ x. (x + 1) % 2 ^ 32) in omega arith) in
    let some = some_columns n m k (subst (λ z. k < z) long low) in
    let row : k / m < n = (div-lt_iff_lt-mul some).1 (subst (λ z. k < z) long low) in
    let place : k / m * m + k % m ≡ k = omega arith in (
      [],
      k / m ∷ k % m ∷ [],
      (row, (mod-lt k some, tt)),
      refl,
      sym (flat_place (k / m) (k % m) m) ∙ place,
      get_or-map (λ x. (x + 1) % 2 ^ 32) xs k 0 0 low ∙ ap (λ z. (slice_index xs z + 1) % 2 ^ 32) (sym place),
    )
all_listed n m xs long (suc a) k lt = absurd (omega arith)

pub row_increments_keep : RowIncrementsKeep
row_increments_keep l n m xs out rest whole some few sizes a b small long room s es start r =
    let h = every_run_keeps itself l (types_at n m) (inputs_at n m) (values_of m xs) (row_increments n m) (rows_of n m) row_increments_kernel (increments_cells xs out rest) (incremented xs ∷ [])
    (record {
      made = record {
        whole = whole;
        flat = λ e. absurd (cc e);
        some = some;
        few = few;
        typed = typed n m a b;
        flat_type = tt;
        variables = refl;
        vectors = refl;
        privates = refl;
        outputs = all_rows n m out room;
        inputs = given n m xs out long rest;
      };
      code = inr (λ item lt. written l item n m sizes small);
    })
    (ap (λ z. z ∷ []) (length-map xs (λ x. (x + 1) % 2 ^ 32) ∙ long ∙ sym room)) (all_listed n m xs long) s es start r in
    record { leaves = h.leaves; by_owner = λ x among k i w. h.by_owner x among k i w ∙ ap (λ z. item_at l (i % z / 1 % l.global.0) (i / z % l.global.1)) (once m) ∙ ap (λ z. item_at l (z % l.global.0) (i / m % l.global.1)) (alone (i % m)) }
