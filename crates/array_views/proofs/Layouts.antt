-- What layouts make of outer indices: alike on all that stands for indices, as the printed form
-- says, and with the values of positions.
use Rattle.std.proofs.Common.{◌≡◌, ℕ, ◌+◌, ◌*◌, ◌/◌, ◌-◌, ◌<◌, ◌^◌, Bool, List, [], ◌∷◌, refl, sym, ap, ◌∙◌, subst, arith}
use Rattle.kernel_tree.specs.Formula as formula
use Rattle.kernel_tree.specs.Formula.{Formula}
use Rattle.lift_ir.specs.Types.{Ty, ArrayOf, IsPosition, IsShort}
use Rattle.lift_ir.specs.Layouts.{Layout, Split, Join, Transpose, Reverse, Slide, Pad, operand_position, result_position, IsInvertible}
use Rattle.lift_ir.proofs.Positions.{operand_in, join_in}
use Rattle.printed_form.specs.Views as printed
use Rattle.printed_form.specs.Views.{operand_indices, result_indices}
use Rattle.length_spelling.specs.Formulas.{operator_of}
use Rattle.index_expr.specs.declared.operation.Operation.{Operation}
use Rattle.index_expr.specs.declared.operation.Operation.TheVariants.{Quotient, Remainder, Difference, Least, Greatest}
use Rattle.index_expr.specs.Expression.{Expression, Literal}
use Rattle.index_simplify.specs.Promises.{SameExpressionsHaveOneValue}
use Rattle.array_views.specs.Layouts.{Arithmetic, operand_of, result_of, to_operand, to_result}
use Rattle.array_views.specs.Cells.{number_at, AreIndices, IsLength, Leads}
use Rattle.array_views.proofs.Exact.{cell, clamp, literal, parts, turn}

-- ---- two ways to calculate that keep a relation

-- as many, each related to the other
abbrev pub AllBy : {X Y : Type 0} → (X → Y → Type 0) → List X → List Y → Type 0
AllBy R [] [] = Unit {0}
AllBy R (x ∷ xs) (y ∷ ys) = R x y × AllBy R xs ys
AllBy R _ _ = ⊥

pub record AreAlike {X Y : Type 0} (r : Arithmetic X) (s : Arithmetic Y) (R : X → Y → Type 0) : Type 0 where
  pub number : (n : ℕ) → R (r.number n) (s.number n)
  pub operation : (o : Operation) (a b : X) (c d : Y) → R a c → R b d → R (r.operation o a b) (s.operation o c d)
  pub cell : (i m j : X) (a l b : Y) → R i a → R m l → R j b → R (r.cell i m j) (s.cell a l b)

module _ {X Y : Type 0} (r : Arithmetic X) (s : Arithmetic Y) (R : X → Y → Type 0) (alike : AreAlike r s R) where
  last_alike : (n : X) (k : Y) → R n k → R (r.operation Difference n (r.number 1)) (s.operation Difference k (s.number 1))
  last_alike n k e = alike.operation Difference n (r.number 1) k (s.number 1) e (alike.number 1)

  module _ {A : Type 0} (f : A → X) (g : A → Y) (lengths : (m : A) → R (f m) (g m)) where
    pub operand_alike : (y : Layout A) (is : List X) (ns : List Y) → AllBy R is ns → AllBy R (operand_of r f y is) (operand_of s g y ns)
    operand_alike (Split m) [] [] h = tt
    operand_alike (Split m) (i ∷ []) (a ∷ []) h = h
    operand_alike (Split m) (i ∷ j ∷ is) (a ∷ b ∷ ns) h = (alike.cell i (f m) j a (g m) b h.0 (lengths m) h.1.0, h.1.1)
    operand_alike (Join m) [] [] h = tt
    operand_alike (Join m) (i ∷ is) (a ∷ ns) h = (alike.operation Quotient i (f m) a (g m) h.0 (lengths m), (alike.operation Remainder i (f m) a (g m) h.0 (lengths m), h.1))
    operand_alike Transpose [] [] h = tt
    operand_alike Transpose (i ∷ []) (a ∷ []) h = h
    operand_alike Transpose (i ∷ j ∷ is) (a ∷ b ∷ ns) h = (h.1.0, (h.0, h.1.1))
    operand_alike (Reverse n) [] [] h = tt
    operand_alike (Reverse n) (i ∷ is) (a ∷ ns) h = (alike.operation Difference _ i _ a (last_alike (f n) (g n) (lengths n)) h.0, h.1)
    operand_alike (Slide z t) [] [] h = tt
    operand_alike (Slide z t) (i ∷ []) (a ∷ []) h = h
    operand_alike (Slide z t) (i ∷ j ∷ is) (a ∷ b ∷ ns) h = (alike.cell i (r.number t) j a (s.number t) b h.0 (alike.number t) h.1.0, h.1.1)
    operand_alike (Pad l z n) [] [] h = tt
    operand_alike (Pad l z n) (i ∷ is) (a ∷ ns) h =
        let left = alike.number l in
        let past = alike.operation Greatest i (r.number l) a (s.number l) h.0 left in
        (alike.operation Least _ _ _ _ (alike.operation Difference _ (r.number l) _ (s.number l) past left) (last_alike (f n) (g n) (lengths n)), h.1)
    operand_alike y _ _ h = absurd (assumption)

    pub result_alike : (y : Layout A) (is : List X) (ns : List Y) → AllBy R is ns → AllBy R (result_of r f y is) (result_of s g y ns)
    result_alike (Split m) is ns h = operand_alike (Join m) is ns h
    result_alike (Join m) is ns h = operand_alike (Split m) is ns h
    result_alike Transpose is ns h = operand_alike Transpose is ns h
    result_alike (Reverse n) is ns h = operand_alike (Reverse n) is ns h
    result_alike (Slide z t) is ns h = h
    result_alike (Pad l z n) is ns h = h

-- ---- as the printed form has it

-- formulas of a kernel are calculated with by its operators
abbrev pub formulas : Arithmetic Formula
formulas = record { number = formula.Number; operation = λ o. formula.Binary (operator_of o); cell = printed.cell_in_rows }

module _ {A : Type 0} (spell : A → Formula) where
  pub operand_printed : (y : Layout A) (is : List Formula) → operand_of formulas spell y is ≡ operand_indices spell y is
  operand_printed (Split m) [] = refl
  operand_printed (Split m) (i ∷ []) = refl
  operand_printed (Split m) (i ∷ j ∷ is) = refl
  operand_printed (Join m) [] = refl
  operand_printed (Join m) (i ∷ is) = refl
  operand_printed Transpose [] = refl
  operand_printed Transpose (i ∷ []) = refl
  operand_printed Transpose (i ∷ j ∷ is) = refl
  operand_printed (Reverse n) [] = refl
  operand_printed (Reverse n) (i ∷ is) = refl
  operand_printed (Slide s t) [] = refl
  operand_printed (Slide s t) (i ∷ []) = refl
  operand_printed (Slide s t) (i ∷ j ∷ is) = refl
  operand_printed (Pad l r n) [] = refl
  operand_printed (Pad l r n) (i ∷ is) = refl

  pub result_printed : (y : Layout A) (is : List Formula) → result_of formulas spell y is ≡ result_indices spell y is
  result_printed (Split m) is = operand_printed (Join m) is
  result_printed (Join m) is = operand_printed (Split m) is
  result_printed Transpose is = operand_printed Transpose is
  result_printed (Reverse n) is = operand_printed (Reverse n) is
  result_printed (Slide s t) is = refl
  result_printed (Pad l r n) is = refl

-- ---- the values of positions
module _ (sizes variables : List ℕ) (one_value : SameExpressionsHaveOneValue) where
  abbrev num : Expression → ℕ
  num = number_at sizes variables

  -- rows of so many one after another
  in_one_row : (m : Expression) (n k : ℕ) (t : Ty) (cs : List Bool) (is : List Expression) (q : List ℕ) → IsLength sizes variables m → k ≡ num m → n * num m < 2 ^ 31 → IsPosition (ArrayOf n (ArrayOf k t)) cs q → AreIndices sizes variables is q → AreIndices sizes variables (to_operand (Split m) is) (operand_position num (Split m) q)
  in_one_row m n k t cs is [] l e small w g = absurd w
  in_one_row m n k t cs is (i ∷ []) l e small w g = absurd w.1
  in_one_row m n k t cs [] (i ∷ j ∷ q) l e small w g = absurd g
  in_one_row m n k t cs (f ∷ []) (i ∷ j ∷ q) l e small w g = absurd g.1
  in_one_row m n k t cs (f ∷ h ∷ fs) (i ∷ j ∷ q) l e small w g =
      let lt = join_in i j (num m) n w.0 (let b = w.1.0 in omega arith) in
      (cell sizes variables one_value f m h i (num m) j g.0 l g.1.0 (omega arith), g.1.1)

  -- the row and the index in it
  in_rows : (m : Expression) (n : ℕ) (t : Ty) (cs : List Bool) (is : List Expression) (q : List ℕ) → IsLength sizes variables m → 0 < num m → IsPosition (ArrayOf n t) cs q → AreIndices sizes variables is q → AreIndices sizes variables (to_operand (Join m) is) (operand_position num (Join m) q)
  in_rows m n t cs is [] l some w g = absurd w
  in_rows m n t cs [] (i ∷ q) l some w g = absurd g
  in_rows m n t cs (f ∷ fs) (i ∷ q) l some w g = let p = parts sizes variables f m i (num m) some g.0 l in (p.0, (p.1, g.1))

  in_columns : (n m : ℕ) (t : Ty) (cs : List Bool) (is : List Expression) (q : List ℕ) → IsPosition (ArrayOf n (ArrayOf m t)) cs q → AreIndices sizes variables is q → AreIndices sizes variables (to_operand Transpose is) (operand_position num Transpose q)
  in_columns n m t cs is [] w g = absurd w
  in_columns n m t cs is (i ∷ []) w g = absurd w.1
  in_columns n m t cs [] (i ∷ j ∷ q) w g = absurd g
  in_columns n m t cs (f ∷ []) (i ∷ j ∷ q) w g = absurd g.1
  in_columns n m t cs (f ∷ h ∷ fs) (i ∷ j ∷ q) w g = (g.1.0, (g.0, g.1.1))

  from_last : (k : Expression) (t : Ty) (cs : List Bool) (is : List Expression) (q : List ℕ) → IsLength sizes variables k → IsPosition (ArrayOf (num k) t) cs q → AreIndices sizes variables is q → AreIndices sizes variables (to_operand (Reverse k) is) (operand_position num (Reverse k) q)
  from_last k t cs is [] l w g = absurd w
  from_last k t cs [] (i ∷ q) l w g = absurd g
  from_last k t cs (f ∷ fs) (i ∷ q) l w g = (turn sizes variables f k i (num k) g.0 l w.0, g.1)

  -- indices of a position in the result are, in the operand, those of the position there
  pub operand_exact : (y : Layout Expression) (t u : Ty) (cs : List Bool) (is : List Expression) (q : List ℕ) → Leads sizes variables y t u → IsPosition u cs q → AreIndices sizes variables is q → AreIndices sizes variables (to_operand y is) (operand_position num y q)
  operand_exact (Split m) (ArrayOf n t) u cs is q a w g =
      in_one_row m (n / num m) (num m) t cs is q a.lengths refl (let z = a.operand.0 in let e = a.shapes.1 in omega arith) (subst (λ z. IsPosition z cs q) a.shapes.2 w) g
  operand_exact (Join m) (ArrayOf n (ArrayOf k t)) u cs is q a w g = in_rows m (n * num m) t cs is q a.lengths a.shapes.0 (subst (λ z. IsPosition z cs q) a.shapes.2 w) g
  operand_exact Transpose (ArrayOf n (ArrayOf m t)) u cs is q a w g = in_columns m n t cs is q (subst (λ z. IsPosition z cs q) a.shapes.1 w) g
  operand_exact (Reverse k) (ArrayOf n t) u cs is q a w g = from_last k t cs is q a.lengths (subst (λ z. IsPosition z cs q) (a.shapes.1 ∙ ap (λ z. ArrayOf z t) (sym a.shapes.0)) w) g
  operand_exact (Slide s k) (ArrayOf n t) u cs is q a w g = go is q (subst (λ z. IsPosition z cs q) a.shapes.3 w) g
    where
      go : (is : List Expression) (q : List ℕ) → IsPosition (ArrayOf ((n - s) / k + 1) (ArrayOf s t)) cs q → AreIndices sizes variables is q → AreIndices sizes variables (to_operand (Slide s k) is) (operand_position num (Slide s k) q)
      go is [] w g = absurd w
      go is (i ∷ []) w g = absurd w.1
      go [] (i ∷ j ∷ q) w g = absurd g
      go (f ∷ []) (i ∷ j ∷ q) w g = absurd g.1
      go (f ∷ h ∷ fs) (i ∷ j ∷ q) w g =
          let b = operand_in num (Slide s k) (ArrayOf n t) (ArrayOf ((n - s) / k + 1) (ArrayOf s t)) cs (i ∷ j ∷ q) (a.shapes.0, a.shapes.1, a.shapes.2, refl) w in
          (cell sizes variables one_value f (Literal k) h i k j g.0 (literal sizes variables k a.step) g.1.0 (let x = b.0 in let z = a.operand.0 in omega arith), g.1.1)
  operand_exact (Pad x y k) (ArrayOf n t) u cs is q a w g = go is q w g
    where
      go : (is : List Expression) (q : List ℕ) → IsPosition u cs q → AreIndices sizes variables is q → AreIndices sizes variables (to_operand (Pad x y k) is) (operand_position num (Pad x y k) q)
      go is [] w g = absurd (subst (λ z. IsPosition z cs []) a.shapes.2 w)
      go [] (i ∷ q) w g = absurd g
      go (f ∷ fs) (i ∷ q) w g =
          let short = subst IsShort a.shapes.2 a.result in
          (clamp sizes variables f k i x (num k) g.0 a.lengths (let z = short.0 in omega arith) (let p = a.shapes.0 in let e = a.shapes.1 in omega arith), g.1)
  operand_exact _ t u cs is q a w g = absurd a.shapes

  -- and back, in writing
  pub result_exact : (y : Layout Expression) (t u : Ty) (cs : List Bool) (is : List Expression) (q : List ℕ) → IsInvertible y → Leads sizes variables y t u → IsPosition t cs q → AreIndices sizes variables is q → AreIndices sizes variables (to_result y is) (result_position num y q)
  result_exact (Split m) (ArrayOf n t) u cs is q z a w g = in_rows m n t cs is q a.lengths a.shapes.0 w g
  result_exact (Join m) (ArrayOf n (ArrayOf k t)) u cs is q z a w g =
      in_one_row m n k t cs is q a.lengths a.shapes.1 (let s = subst IsShort a.shapes.2 a.result in s.0) w g
  result_exact Transpose (ArrayOf n (ArrayOf m t)) u cs is q z a w g = in_columns n m t cs is q w g
  result_exact (Reverse k) (ArrayOf n t) u cs is q z a w g = from_last k t cs is q a.lengths (subst (λ z. IsPosition (ArrayOf z t) cs q) (sym a.shapes.0) w) g
  result_exact (Slide s k) t u cs is q z a w g = absurd z
  result_exact (Pad x y k) t u cs is q z a w g = absurd z
  result_exact _ t u cs is q z a w g = absurd a.shapes
