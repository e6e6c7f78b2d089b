-- At which offsets vectors of an array are loaded and stored that no other layout rearranges.
use Rattle.std.proofs.Common.{◌≡◌, ℕ, ◌+◌, true, false, [], refl, ap, ◌∙◌, arith}
use Rattle.std.specs.Prelude.{◌&&◌, if◌then◌else◌}
use Rattle.std.proofs.lemmas.Bool.{and_from}
use Rattle.scalar_ops.specs.declared.op.Op.TheVariants as op
use Rattle.kernel_tree.specs.Formula.{Formula, Number, Variable, LoopVariable, Size, Id, Binary, Choose}
use Rattle.kernel_tree.specs.Code.{Array, Performs, LoadsFour}
use Rattle.printed_form.specs.Views.{Read, same_formula, are_parts, dividend, cell_in_rows, row_number, row_sign}
use Rattle.printed_form.specs.Printer.{or_lanes, print_store_four, print_load_four}
use Rattle.printed_form.specs.VectorIndices.{VectorsAreAtTheirIndices}

-- a row and its first column are no parts of one index
no_parts : (i m : Formula) → are_parts i m (Number 0) ≡ false
no_parts (Number n) m = refl
no_parts (Variable v) m = refl
no_parts (LoopVariable l) m = refl
no_parts (Size s) m = refl
no_parts (Id d f) m = refl
no_parts (Choose c a b x y) m = refl
no_parts (Binary op.Add a b) m = refl
no_parts (Binary op.Mul a b) m = refl
no_parts (Binary op.Min a b) m = refl
no_parts (Binary op.Max a b) m = refl
no_parts (Binary op.And a b) m = refl
no_parts (Binary op.Or a b) m = refl
no_parts (Binary op.Xor a b) m = refl
no_parts (Binary op.Sub a b) m = refl
no_parts (Binary op.Shl a b) m = refl
no_parts (Binary op.Shr a b) m = refl
no_parts (Binary op.Div a b) m = refl
no_parts (Binary op.Rem a b) m = refl
no_parts (Binary op.Lt a b) m = refl
no_parts (Binary op.Eq a b) m = refl

-- the number of a row by its first cell is its index
row_is : (i m : Formula) → same_formula i i ≡ true → same_formula m m ≡ true → row_number i m (cell_in_rows i m (Number 0)) ≡ i
row_is i m p q =
    let cell : cell_in_rows i m (Number 0) ≡ Binary op.Add (Binary op.Mul i m) (Number 0) = ap (λ b. if b then dividend i else Binary op.Add (Binary op.Mul i m) (Number 0)) (no_parts i m) in
    let same : (same_formula i i && same_formula m m) && true ≡ true = and_from (same_formula i i && same_formula m m) true (and_from (same_formula i i) (same_formula m m) p q) refl in
    ap (row_number i m) cell ∙ ap (λ b. if b then i else Binary op.Div (Binary op.Add (Binary op.Mul i m) (Number 0)) m) same

sign_is : (form : ℕ → Array) (first : ℕ) (i m : Formula) → same_formula i i ≡ true → same_formula m m ≡ true → row_sign i m (Read (form (first + 0)) (cell_in_rows i m (Number 0))) ≡ Read (form first) i
sign_is form first i m p q = ap (Read (form (first + 0))) (row_is i m p q) ∙ ap (λ n. Read (form n) i) (let e : first + 0 ≡ first = omega arith in e)

pub at_their_indices : (A : Type 0) → VectorsAreAtTheirIndices A
at_their_indices A spell form first i p = record {
  loads = λ n m v rest q. ap (λ s. print_load_four s v.fours rest) (sign_is form first i (spell m) p q);
  stores = λ n m f rest q. ap (λ s. print_store_four s (or_lanes (f [])) rest) (sign_is form first i (spell m) p q);
  vectors = λ n m v rest. ap (λ k. Performs (LoadsFour v.fours (form k) i) rest) (let e : first + 0 ≡ first = omega arith in e);
}
