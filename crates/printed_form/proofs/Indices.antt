-- Index expressions have the values of the positions: no sum or product in them wraps.
use Rattle.std.proofs.Common.{◌≡◌, ℕ, suc, ◌+◌, ◌*◌, ◌-◌, ◌/◌, ◌%◌, ◌<◌, ◌≤◌, ◌^◌, Bool, true, false, List, [], ◌∷◌, ◌++◌, Some, None, refl, sym, ap, ◌∙◌, subst, arith}
use Rattle.std.specs.Prelude.{min, max, if◌then◌else◌, ◌==◌, ◌&&◌, Option}
use Rattle.std.proofs.lemmas.Bool.{ne_eqb, eqb-true}
use Rattle.std.proofs.Math.Nat.{mod-eq_of_lt, mul-le-mul_right, mul-le-mul_left, mul-div_cancel, mul-div_cancel_left, mod-lt, mod-add-div'}
use Rattle.scalar_ops.specs.declared.op.Op.{Op}
use Rattle.scalar_ops.specs.declared.op.Op.TheVariants.{Add, Sub, Mul, Min, Max, Div, Rem}
use Rattle.scalar_ops.specs.Operators.{apply_op}
use Rattle.kernel_tree.specs.declared.tree.Dimension.{Dimension}
use Rattle.kernel_tree.specs.declared.tree.Dimension.TheVariants.{X, Y}
use Rattle.kernel_tree.specs.Formula.{IdForm, GlobalId, GroupId, LocalId, GlobalSize, GroupCount, LocalSize, Formula, Number, LoopVariable, Size, Id, Binary, divides, operate, with_both, value, no_vars}
use Rattle.kernel_tree.specs.Code.{Array}
use Rattle.kernel_tree.specs.Launch.{Launch, ids_of}
use Rattle.lift_ir.specs.Types.{Ty, Scalar, PairOf, ArrayOf, IsPosition, IsFlat, IsShort, width, component, size, flat, Shape, measured}
use Rattle.lift_ir.specs.Layouts.{HasWordStep, Layout, Split, Join, Transpose, Reverse, Slide, Pad, operand_position, Reshapes, result_position, IsInvertible}
use Rattle.printed_form.specs.Marks.{Spot, laid_in}
use Rattle.printed_form.specs.Views.{same_operator, same_dimension, same_id_form, same_formula, are_parts, dividend, cell_in_rows, row_number, operand_indices, result_indices, laid_view, index_from, index_in, placed_view}
use Rattle.printed_form.specs.Means.{IsSpelled, IsOuter, Means, AllMean, HasCells, IsWhole}
use Rattle.lift_ir.proofs.Positions.{operand_in}
use Rattle.lift_ir.proofs.Numbers.{flat_below}

-- an operator has its value where it isn't by zero
pub operate_by : (o : Op) (u n : ℕ) → 0 < n → operate o u n ≡ Some (apply_op o u n)
operate_by o u n h = let e : (n == 0) ≡ false = ne_eqb n 0 (λ q. absurd (omega arith)) in rw e (go (divides o))
  where
    go : (b : Bool) → (if b && false then None else Some (apply_op o u n)) ≡ Some (apply_op o u n)
    go true = refl
    go false = refl

module _ (l : Launch) (item : ℕ) {A : Type 0} (num : A → ℕ) (spell : A → Formula) (spelled : (n : A) → num n < 2 ^ 31 → IsSpelled l (spell n) (num n)) where
  pub means_number : (ts : List ℕ) (n : ℕ) → n < 2 ^ 32 → Means l item ts (Number n) n
  means_number ts n lt = record { fits = lt; always = λ vs. refl }

  pub means_spell : (ts : List ℕ) (n : A) → num n < 2 ^ 31 → Means l item ts (spell n) (num n)
  means_spell ts n lt = record { fits = omega arith; always = λ vs. (spelled n lt).1 item ts vs }

  means_op : (ts : List ℕ) (o : Op) (f h : Formula) (x y z : ℕ) → divides o ≡ false → Means l item ts f x → Means l item ts h y → apply_op o x y ≡ z → z < 2 ^ 32 → Means l item ts (Binary o f h) z
  means_op ts o f h x y z d a b e lt = record { fits = lt; always = λ vs. rw (a.always vs, b.always vs, d) (ap Some e) }

  means_by : (ts : List ℕ) (o : Op) (f h : Formula) (x y z : ℕ) → 0 < y → Means l item ts f x → Means l item ts h y → apply_op o x y ≡ z → z < 2 ^ 32 → Means l item ts (Binary o f h) z
  means_by ts o f h x y z pos a b e lt = record { fits = lt; always = λ vs. rw (a.always vs, b.always vs) (operate_by o x y pos ∙ ap Some e) }

  -- a step of an index: i * m + j
  means_step : (ts : List ℕ) (f g h : Formula) (i j m n : ℕ) → Means l item ts f i → Means l item ts g m → Means l item ts h j → i * m + j < n → n ≤ 2 ^ 32 → Means l item ts (Binary Add (Binary Mul f g) h) (i * m + j)
  means_step ts f g h i j m n a c b lt fn =
      means_op ts Add (Binary Mul f g) h (i * m) j (i * m + j) refl (means_op ts Mul f g i m (i * m) refl a c (mod-eq_of_lt (omega arith)) (omega arith)) b (mod-eq_of_lt (omega arith)) (omega arith)

  -- ---- the row and the column of one index
  both_true : (a b : Bool) → (a && b) ≡ true → (a ≡ true) × (b ≡ true)
  both_true true b h = (refl, h)
  both_true false b h = absurd (cc h)

  operator_is : (o p : Op) → same_operator o p ≡ true → o ≡ p
  operator_is Add Add h = refl
  operator_is Sub Sub h = refl
  operator_is Mul Mul h = refl
  operator_is Min Min h = refl
  operator_is Max Max h = refl
  operator_is Div Div h = refl
  operator_is Rem Rem h = refl
  operator_is _ _ h = absurd (cc h)

  dimension_is : (d e : Dimension) → same_dimension d e ≡ true → d ≡ e
  dimension_is X X h = refl
  dimension_is Y Y h = refl
  dimension_is _ _ h = absurd (cc h)

  id_form_is : (f g : IdForm) → same_id_form f g ≡ true → f ≡ g
  id_form_is GlobalId GlobalId h = refl
  id_form_is GroupId GroupId h = refl
  id_form_is LocalId LocalId h = refl
  id_form_is GlobalSize GlobalSize h = refl
  id_form_is GroupCount GroupCount h = refl
  id_form_is LocalSize LocalSize h = refl
  id_form_is _ _ h = absurd (cc h)

  formula_is : (f g : Formula) → same_formula f g ≡ true → f ≡ g
  formula_is (Number m) (Number n) h = ap Number (eqb-true m n h)
  formula_is (LoopVariable i) (LoopVariable j) h = ap LoopVariable (eqb-true i j h)
  formula_is (Id d f) (Id e g) h =
      let x = both_true (same_dimension d e) (same_id_form f g) h in
      ap (λ z. Id z f) (dimension_is d e x.0) ∙ ap (Id e) (id_form_is f g x.1)
  formula_is (Size s) (Size t) h = ap Size (eqb-true s t h)
  formula_is (Binary o a b) (Binary p c d) h =
      let front = both_true (same_operator o p && same_formula a c) (same_formula b d) h in
      let x = both_true (same_operator o p) (same_formula a c) front.0 in
      ap (λ z. Binary z a b) (operator_is o p x.0) ∙ ap (λ z. Binary p z b) (formula_is a c x.1) ∙ ap (Binary p c) (formula_is b d front.1)
  formula_is _ _ h = absurd (cc h)

  parts_are : (f g h : Formula) → are_parts f g h ≡ true → (f ≡ Binary Div (dividend f) g) × (h ≡ Binary Rem (dividend f) g)
  parts_are (Binary Div e n) m (Binary Rem f k) h =
      let front = both_true (same_formula e f && same_formula n m) (same_formula k m) h in
      let x = both_true (same_formula e f) (same_formula n m) front.0 in
      (ap (Binary Div e) (formula_is n m x.1), ap (λ z. Binary Rem z k) (sym (formula_is e f x.0)) ∙ ap (Binary Rem e) (formula_is k m front.1))
  parts_are _ _ _ h = absurd (cc h)

  some_is : (m n : ℕ) → Some m ≡ Some n → m ≡ n
  some_is m n e = cc e

  -- what is divided, of its quotient and its remainder
  divided : (v : Option ℕ) (m i j : ℕ) → 0 < m → with_both (operate Div) v (Some m) ≡ Some i → with_both (operate Rem) v (Some m) ≡ Some j → v ≡ Some (i * m + j)
  divided None m i j pos a b = absurd (cc a)
  divided (Some x) m i j pos a b =
      let p = some_is (x / m) i (sym (operate_by Div x m pos) ∙ a) in
      let q = some_is (x % m) j (sym (operate_by Rem x m pos) ∙ b) in
      ap Some (sym (mod-add-div' x m) ∙ ap (λ z. z + x / m * m) q ∙ ap (λ z. j + z * m) p ∙ turned)
    where
      turned : j + i * m ≡ i * m + j
      turned = omega arith

  -- the index of a column in a row
  pub means_cell : (ts : List ℕ) (f g h : Formula) (i j m n : ℕ) → 0 < m → Means l item ts f i → Means l item ts g m → Means l item ts h j → i * m + j < n → n ≤ 2 ^ 32 → Means l item ts (cell_in_rows f g h) (i * m + j)
  means_cell ts f g h i j m n pos a c b lt fn = go (are_parts f g h) refl
    where
      go : (z : Bool) → are_parts f g h ≡ z → Means l item ts (if z then dividend f else Binary Add (Binary Mul f g) h) (i * m + j)
      go false e = means_step ts f g h i j m n a c b lt fn
      go true e =
          let p = parts_are f g h e in
          record {
            fits = omega arith;
            always = λ vs. divided (value (ids_of l item) ts vs (dividend f)) m i j pos
                (ap (with_both (operate Div) (value (ids_of l item) ts vs (dividend f))) (sym (c.always vs)) ∙ ap (value (ids_of l item) ts vs) (sym p.0) ∙ a.always vs)
                (ap (with_both (operate Rem) (value (ids_of l item) ts vs (dividend f))) (sym (c.always vs)) ∙ ap (value (ids_of l item) ts vs) (sym p.1) ∙ b.always vs);
          }

  -- the number of a row, by its first cell's
  pub means_row : (ts : List ℕ) (f g h : Formula) (i m k : ℕ) → 0 < m → i * m < 2 ^ 32 → Means l item ts f i → Means l item ts g m → Means l item ts h (m * k) → Means l item ts (row_number f g h) k
  means_row ts f g h i m k pos small a c b = go (same_formula h (Binary Add (Binary Mul f g) (Number 0))) refl
    where
      over : m * k / m ≡ k
      over = mul-div_cancel_left k pos

      below : k ≤ m * k
      below = let z = mul-le-mul_right {m = 1} {n = m} k pos in omega arith

      same : m * k ≡ i * m + 0 → i ≡ k
      same e = sym (mul-div_cancel i pos) ∙ ap (λ z. z / m) (let z : i * m ≡ m * k = omega arith in z) ∙ over

      go : (z : Bool) → same_formula h (Binary Add (Binary Mul f g) (Number 0)) ≡ z → Means l item ts (if z then f else Binary Div h g) k
      go false e = means_by ts Div h g (m * k) m k pos b c over (let z = b.fits in let y = below in omega arith)
      go true e =
          let d = means_step ts f g (Number 0) i 0 m (2 ^ 32) a c (means_number ts 0 (omega arith)) (omega arith) (omega arith) in
          let is = formula_is h (Binary Add (Binary Mul f g) (Number 0)) e in
          let q : m * k ≡ i * m + 0 = some_is (m * k) (i * m + 0) (sym (b.always no_vars) ∙ ap (value (ids_of l item) ts no_vars) is ∙ d.always no_vars) in
          subst (λ z. Means l item ts f z) (same q) a

  less : (x y : ℕ) → y ≤ x → x < 2 ^ 32 → (x + (2 ^ 32 - y)) % 2 ^ 32 ≡ x - y
  less x y le fx = omega arith

  means_pad : (ts : List ℕ) (f : Formula) (i a b : ℕ) (k : A) → Means l item ts f i → 0 < num k → i < a + num k + b → a + num k + b < 2 ^ 31 → Means l item ts (Binary Min (Binary Sub (Binary Max f (Number a)) (Number a)) (Binary Sub (spell k) (Number 1))) (min (max i a - a) (num k - 1))
  means_pad ts f i a b k h pos lt small =
      let n = num k in
      let s = means_number ts a (omega arith) in
      let x = means_op ts Max f (Number a) i a (max i a) refl h s refl (omega arith) in
      let y = means_op ts Sub (Binary Max f (Number a)) (Number a) (max i a) a (max i a - a) refl x s (less (max i a) a (omega arith) (omega arith)) (omega arith) in
      let z = means_op ts Sub (spell k) (Number 1) n 1 (n - 1) refl (means_spell ts k (omega arith)) (means_number ts 1 (omega arith)) (less n 1 (omega arith) (omega arith)) (omega arith) in
      means_op ts Min (Binary Sub (Binary Max f (Number a)) (Number a)) (Binary Sub (spell k) (Number 1)) (max i a - a) (n - 1) (min (max i a - a) (n - 1)) refl y z refl (omega arith)

  means_reverse : (ts : List ℕ) (f : Formula) (i : ℕ) (k : A) → Means l item ts f i → i < num k → num k < 2 ^ 31 → Means l item ts (Binary Sub (Binary Sub (spell k) (Number 1)) f) (num k - 1 - i)
  means_reverse ts f i k h lt small =
      let n = num k in
      let z = means_op ts Sub (spell k) (Number 1) n 1 (n - 1) refl (means_spell ts k small) (means_number ts 1 (omega arith)) (less n 1 (omega arith) (omega arith)) (omega arith) in
      means_op ts Sub (Binary Sub (spell k) (Number 1)) f (n - 1) i (n - 1 - i) refl z h (less (n - 1) i (omega arith) (omega arith)) (omega arith)

  pub means_parts : (ts : List ℕ) (f : Formula) (i : ℕ) (z : A) → Means l item ts f i → 0 < num z → num z < 2 ^ 31 → Means l item ts (Binary Div f (spell z)) (i / num z) × Means l item ts (Binary Rem f (spell z)) (i % num z)
  means_parts ts f i z a pos lt =
      let m = num z in
      let s = means_spell ts z lt in
      let b = a.fits in
      let c = mod-lt i pos in
      (means_by ts Div f (spell z) i m (i / m) pos a s refl (omega arith), means_by ts Rem f (spell z) i m (i % m) pos a s refl (omega arith))

  -- a position through a layout
  pub operand_means : (ts : List ℕ) (y : Layout A) (t u : Ty) (cs : List Bool) (is : List Formula) (q : List ℕ) → HasWordStep y → Reshapes num y t u → IsShort t → IsShort u → IsPosition u cs q → AllMean l item ts is q → AllMean l item ts (operand_indices spell y is) (operand_position num y q)
  operand_means ts (Split m) (ArrayOf n t) u cs is q sp a sh su w g = go is q (subst (λ z. IsPosition z cs q) a.2 w) (subst IsShort a.2 su) g
    where
      go : (is : List Formula) (q : List ℕ) → IsPosition (ArrayOf (n / num m) (ArrayOf (num m) t)) cs q → IsShort (ArrayOf (n / num m) (ArrayOf (num m) t)) → AllMean l item ts is q → AllMean l item ts (operand_indices spell (Split m) is) (operand_position num (Split m) q)
      go is [] w s g = absurd w
      go is (i ∷ []) w s g = absurd w.1
      go [] (i ∷ j ∷ q) w s g = absurd g
      go (f ∷ []) (i ∷ j ∷ q) w s g = absurd g.1
      go (f ∷ h ∷ fs) (i ∷ j ∷ q) w s g =
          let b = operand_in num (Split m) (ArrayOf n t) (ArrayOf (n / num m) (ArrayOf (num m) t)) cs (i ∷ j ∷ q) (a.0, a.1, refl) w in
          (means_cell ts f (spell m) h i j (num m) n a.0 g.0 (means_spell ts m s.1.0) g.1.0 b.0 (let z = sh.0 in omega arith), g.1.1)
  operand_means ts (Join m) (ArrayOf n (ArrayOf k t)) u cs is q sp a sh su w g = go is q (subst (λ z. IsPosition z cs q) a.2 w) g
    where
      go : (is : List Formula) (q : List ℕ) → IsPosition (ArrayOf (n * num m) t) cs q → AllMean l item ts is q → AllMean l item ts (operand_indices spell (Join m) is) (operand_position num (Join m) q)
      go is [] w g = absurd w
      go [] (i ∷ q) w g = absurd g
      go (f ∷ fs) (i ∷ q) w g = let p = means_parts ts f i m g.0 a.0 (let e = a.1 in let z = sh.1.0 in omega arith) in (p.0, (p.1, g.1))
  operand_means ts Transpose (ArrayOf n (ArrayOf m t)) u cs is q sp a sh su w g = go is q (subst (λ z. IsPosition z cs q) a.1 w) g
    where
      go : (is : List Formula) (q : List ℕ) → IsPosition (ArrayOf m (ArrayOf n t)) cs q → AllMean l item ts is q → AllMean l item ts (operand_indices spell Transpose is) (operand_position num Transpose q)
      go is [] w g = absurd w
      go is (i ∷ []) w g = absurd w.1
      go [] (i ∷ j ∷ q) w g = absurd g
      go (f ∷ []) (i ∷ j ∷ q) w g = absurd g.1
      go (f ∷ h ∷ fs) (i ∷ j ∷ q) w g = (g.1.0, (g.0, g.1.1))
  operand_means ts (Reverse k) (ArrayOf n t) u cs is q sp a sh su w g = go is q (subst (λ z. IsPosition z cs q) (a.1 ∙ ap (λ z. ArrayOf z t) (sym a.0)) w) g
    where
      go : (is : List Formula) (q : List ℕ) → IsPosition (ArrayOf (num k) t) cs q → AllMean l item ts is q → AllMean l item ts (operand_indices spell (Reverse k) is) (operand_position num (Reverse k) q)
      go is [] w g = absurd w
      go [] (i ∷ q) w g = absurd g
      go (f ∷ fs) (i ∷ q) w g = (means_reverse ts f i k g.0 w.0 (let e = a.0 in let z = sh.0 in omega arith), g.1)
  operand_means ts (Slide s k) (ArrayOf n t) u cs is q sp a sh su w g = go is q (subst (λ z. IsPosition z cs q) a.3 w) g
    where
      go : (is : List Formula) (q : List ℕ) → IsPosition (ArrayOf ((n - s) / k + 1) (ArrayOf s t)) cs q → AllMean l item ts is q → AllMean l item ts (operand_indices spell (Slide s k) is) (operand_position num (Slide s k) q)
      go is [] w g = absurd w
      go is (i ∷ []) w g = absurd w.1
      go [] (i ∷ j ∷ q) w g = absurd g
      go (f ∷ []) (i ∷ j ∷ q) w g = absurd g.1
      go (f ∷ h ∷ fs) (i ∷ j ∷ q) w g =
          let b = operand_in num (Slide s k) (ArrayOf n t) (ArrayOf ((n - s) / k + 1) (ArrayOf s t)) cs (i ∷ j ∷ q) (a.0, a.1, a.2, refl) w in
          (means_cell ts f (Number k) h i j k n a.0 g.0 (means_number ts k (omega (arith, sp))) g.1.0 b.0 (let z = sh.0 in omega arith), g.1.1)
  operand_means ts (Pad x y k) (ArrayOf n t) u cs is q sp a sh su w g = go is q (subst (λ z. IsPosition z cs q) (a.2 ∙ ap (λ z. ArrayOf (x + z + y) t) (sym a.1)) w) (subst IsShort (a.2 ∙ ap (λ z. ArrayOf (x + z + y) t) (sym a.1)) su) g
    where
      go : (is : List Formula) (q : List ℕ) → IsPosition (ArrayOf (x + num k + y) t) cs q → IsShort (ArrayOf (x + num k + y) t) → AllMean l item ts is q → AllMean l item ts (operand_indices spell (Pad x y k) is) (operand_position num (Pad x y k) q)
      go is [] w s g = absurd w
      go [] (i ∷ q) w s g = absurd g
      go (f ∷ fs) (i ∷ q) w s g = (means_pad ts f i x y k g.0 (let p = a.0 in let e = a.1 in omega arith) w.0 s.0, g.1)
  operand_means ts _ t u cs is q sp a sh su w g = absurd (assumption)

  -- and back, in writing
  pub result_means : (ts : List ℕ) (y : Layout A) (t u : Ty) (cs : List Bool) (is : List Formula) (q : List ℕ) → IsInvertible y → Reshapes num y t u → IsShort t → IsShort u → IsPosition t cs q → AllMean l item ts is q → AllMean l item ts (result_indices spell y is) (result_position num y q)
  result_means ts (Split m) (ArrayOf n t) u cs is [] z a sh su w g = absurd w
  result_means ts (Split m) (ArrayOf n t) u cs [] (i ∷ q) z a sh su w g = absurd g
  result_means ts (Split m) (ArrayOf n t) u cs (f ∷ fs) (i ∷ q) z a sh su w g =
      let s = subst IsShort a.2 su in
      let p = means_parts ts f i m g.0 a.0 s.1.0 in
      (p.0, (p.1, g.1))
  result_means ts (Join m) (ArrayOf n (ArrayOf k t)) u cs is [] z a sh su w g = absurd w
  result_means ts (Join m) (ArrayOf n (ArrayOf k t)) u cs is (i ∷ []) z a sh su w g = absurd w.1
  result_means ts (Join m) (ArrayOf n (ArrayOf k t)) u cs [] (i ∷ j ∷ q) z a sh su w g = absurd g
  result_means ts (Join m) (ArrayOf n (ArrayOf k t)) u cs (f ∷ []) (i ∷ j ∷ q) z a sh su w g = absurd g.1
  result_means ts (Join m) (ArrayOf n (ArrayOf k t)) u cs (f ∷ h ∷ fs) (i ∷ j ∷ q) z a sh su w g =
      let s = subst IsShort a.2 su in
      let e = a.1 in
      let more = mul-le-mul_right {m = suc i} {n = n} (num m) w.0 in
      let lt : i * num m + j < n * num m = (let b = w.1.0 in omega arith) in
      (means_cell ts f (spell m) h i j (num m) (n * num m) a.0 g.0 (means_spell ts m (let c = sh.1.0 in omega arith)) g.1.0 lt (let c = s.0 in omega arith), g.1.1)
  result_means ts Transpose (ArrayOf n (ArrayOf m t)) u cs is [] z a sh su w g = absurd w
  result_means ts Transpose (ArrayOf n (ArrayOf m t)) u cs is (i ∷ []) z a sh su w g = absurd w.1
  result_means ts Transpose (ArrayOf n (ArrayOf m t)) u cs [] (i ∷ j ∷ q) z a sh su w g = absurd g
  result_means ts Transpose (ArrayOf n (ArrayOf m t)) u cs (f ∷ []) (i ∷ j ∷ q) z a sh su w g = absurd g.1
  result_means ts Transpose (ArrayOf n (ArrayOf m t)) u cs (f ∷ h ∷ fs) (i ∷ j ∷ q) z a sh su w g = (g.1.0, (g.0, g.1.1))
  result_means ts (Reverse k) (ArrayOf n t) u cs is q z a sh su w g = operand_means ts (Reverse k) (ArrayOf n t) u cs is q tt a sh su (subst (λ z. IsPosition z cs q) (sym a.1) w) g
  result_means ts (Slide s k) t u cs is q z a sh su w g = absurd z
  result_means ts (Pad x y k) t u cs is q z a sh su w g = absurd z
  result_means ts _ t u cs is q z a sh su w g = absurd (assumption)

  -- the number of a scalar

  abbrev flat_from : ℕ → Ty → List ℕ → ℕ
  flat_from i (ArrayOf m t) (j ∷ q) = flat_from (i * m + j) t q
  flat_from i _ _ = i

  regroup : (i m j s f : ℕ) → (i * m + j) * s + f ≡ i * (m * s) + (j * s + f)
  regroup i m j s f = let e : (i * m + j) * s ≡ i * (m * s) + j * s = grind arith in omega arith

  flat_long : (i : ℕ) (t : Ty) (cs : List Bool) (q : List ℕ) → IsFlat t → IsPosition t cs q → flat_from i t q ≡ i * size t + flat t q
  flat_long i Scalar cs q f w = omega arith
  flat_long i (PairOf a b) cs q f w = omega arith
  flat_long i (ArrayOf m t) cs [] f w = absurd w
  flat_long i (ArrayOf m t) cs (j ∷ q) f w = flat_long (i * m + j) t cs q f w.1 ∙ regroup i m j (size t) (flat t q)

  size_pos : (t : Ty) (cs : List Bool) (q : List ℕ) → IsFlat t → IsPosition t cs q → 1 ≤ size t
  size_pos t cs q f w = let a = flat_below t cs q f w in omega arith

  from_means : (ts : List ℕ) (f : Formula) (i n : ℕ) (t : Ty) (cs : List Bool) (is : List Formula) (q : List ℕ) → IsFlat t → IsShort t → IsPosition t cs q → Means l item ts f i → flat_from i t q < n → n ≤ 2 ^ 32 → AllMean l item ts is q → Means l item ts (index_from Number f t is) (flat_from i t q)
  from_means ts f i n Scalar cs is q e sh w a lt fn g = a
  from_means ts f i n (PairOf x y) cs is q e sh w a lt fn g = a
  from_means ts f i n (ArrayOf m t) cs is [] e sh w a lt fn g = absurd w
  from_means ts f i n (ArrayOf m t) cs [] (j ∷ q) e sh w a lt fn g = absurd g
  from_means ts f i n (ArrayOf m t) cs (h ∷ fs) (j ∷ q) e sh w a lt fn g =
      let k = i * m + j in
      let long = flat_long k t cs q e w.1 in
      let more = mul-le-mul_left {m = 1} {n = size t} k (size_pos t cs q e w.1) in
      from_means ts (Binary Add (Binary Mul f (Number m)) h) k n t cs fs q e sh.1 w.1 (means_step ts f (Number m) h i j m n a (means_number ts m (omega (arith, sh.0))) g.0 (omega arith) fn) lt fn g.1

  flat_means : (ts : List ℕ) (t : Ty) (cs : List Bool) (is : List Formula) (q : List ℕ) → IsFlat t → IsShort t → size t < 2 ^ 31 → IsPosition t cs q → AllMean l item ts is q → Means l item ts (index_in Number t is) (flat t q)
  flat_means ts Scalar cs is q e sh small w g = record { fits = omega arith; always = λ vs. refl }
  flat_means ts (PairOf a b) cs is q e sh small w g = record { fits = omega arith; always = λ vs. refl }
  flat_means ts (ArrayOf n t) cs is [] e sh small w g = absurd w
  flat_means ts (ArrayOf n t) cs [] (i ∷ q) e sh small w g = absurd g
  flat_means ts (ArrayOf n t) cs (f ∷ fs) (i ∷ q) e sh small w g =
      let long = flat_long i t cs q e w.1 in
      let below = flat_below (ArrayOf n t) cs (i ∷ q) e w in
      subst (Means l item ts (index_in Number (ArrayOf n t) (f ∷ fs))) long (from_means ts f i (2 ^ 32) t cs fs q e sh.1 w.1 g.0 (omega arith) (omega arith) g.1)

  -- a value laid in arrays has its cells
  pub laid_cells : (ts : List ℕ) (form : ℕ → Array) (first : ℕ) (t : Ty) → IsFlat t → IsShort t → size t < 2 ^ 31 → HasCells l item ts t (laid_view form first t) (laid_in form first t)
  laid_cells ts form first t e sh small us cs is q w g = (refl, flat_means (ts ++ us) t cs is q e sh small w g)

  -- the same over shapes

  width_same : (t : Shape A) → width (measured num t) ≡ width t
  width_same Scalar = refl
  width_same (PairOf a b) = let x = width_same a in let y = width_same b in omega arith
  width_same (ArrayOf n t) = width_same t

  component_same : (t : Shape A) (cs : List Bool) → component (measured num t) cs ≡ component t cs
  component_same Scalar cs = refl
  component_same (PairOf a b) [] = refl
  component_same (PairOf a b) (false ∷ cs) = component_same a cs
  component_same (PairOf a b) (true ∷ cs) = let x = width_same a in let y = component_same b cs in omega arith
  component_same (ArrayOf n t) cs = component_same t cs

  shape_from_means : (ts : List ℕ) (f : Formula) (i n : ℕ) (t : Shape A) (cs : List Bool) (is : List Formula) (q : List ℕ) → IsFlat (measured num t) → IsShort (measured num t) → IsPosition (measured num t) cs q → Means l item ts f i → flat_from i (measured num t) q < n → n ≤ 2 ^ 32 → AllMean l item ts is q → Means l item ts (index_from spell f t is) (flat_from i (measured num t) q)
  shape_from_means ts f i n Scalar cs is q e sh w a lt fn g = a
  shape_from_means ts f i n (PairOf x y) cs is q e sh w a lt fn g = a
  shape_from_means ts f i n (ArrayOf m t) cs is [] e sh w a lt fn g = absurd w
  shape_from_means ts f i n (ArrayOf m t) cs [] (j ∷ q) e sh w a lt fn g = absurd g
  shape_from_means ts f i n (ArrayOf m t) cs (h ∷ fs) (j ∷ q) e sh w a lt fn g =
      let k = i * num m + j in
      let long = flat_long k (measured num t) cs q e w.1 in
      let more = mul-le-mul_left {m = 1} {n = size (measured num t)} k (size_pos (measured num t) cs q e w.1) in
      shape_from_means ts (Binary Add (Binary Mul f (spell m)) h) k n t cs fs q e sh.1 w.1 (means_step ts f (spell m) h i j (num m) n a (means_spell ts m sh.0) g.0 (omega arith) fn) lt fn g.1

  shape_flat_means : (ts : List ℕ) (t : Shape A) (cs : List Bool) (is : List Formula) (q : List ℕ) → IsFlat (measured num t) → IsShort (measured num t) → size (measured num t) < 2 ^ 31 → IsPosition (measured num t) cs q → AllMean l item ts is q → Means l item ts (index_in spell t is) (flat (measured num t) q)
  shape_flat_means ts Scalar cs is q e sh small w g = record { fits = omega arith; always = λ vs. refl }
  shape_flat_means ts (PairOf a b) cs is q e sh small w g = record { fits = omega arith; always = λ vs. refl }
  shape_flat_means ts (ArrayOf n t) cs is [] e sh small w g = absurd w
  shape_flat_means ts (ArrayOf n t) cs [] (i ∷ q) e sh small w g = absurd g
  shape_flat_means ts (ArrayOf n t) cs (f ∷ fs) (i ∷ q) e sh small w g =
      let long = flat_long i (measured num t) cs q e w.1 in
      let below = flat_below (measured num (ArrayOf n t)) cs (i ∷ q) e w in
      subst (Means l item ts (index_in spell (ArrayOf n t) (f ∷ fs))) long (shape_from_means ts f i (2 ^ 32) t cs fs q e sh.1 w.1 g.0 (omega arith) (omega arith) g.1)

  pub placed_cells : (ts : List ℕ) (form : ℕ → Array) (first : ℕ) (t : Shape A) → IsFlat (measured num t) → IsShort (measured num t) → size (measured num t) < 2 ^ 31 → HasCells l item ts (measured num t) (placed_view spell form first t) (laid_in form first (measured num t))
  placed_cells ts form first t e sh small us cs is q w g = (ap (λ c. form (first + c)) (sym (component_same t cs)), shape_flat_means (ts ++ us) t cs is q e sh small w g)

  -- some of the outermost arrays

  pub outer_flat : (o t : Ty) → IsOuter o t → IsFlat o
  outer_flat Scalar t u = tt
  outer_flat (ArrayOf n o) (ArrayOf m t) u = outer_flat o t u.1
  outer_flat _ _ u = absurd (assumption)

  outer_size : (o t : Ty) → IsOuter o t → size o ≤ size t
  outer_size Scalar t u = u
  outer_size (ArrayOf n o) (ArrayOf m t) u = let h = mul-le-mul_left {m = size o} {n = size t} n (outer_size o t u.1) in let e = ap (λ z. z * size t) u.0 in omega arith
  outer_size _ _ u = absurd (assumption)

  no_index : (f : Formula) (t : Shape A) → index_from spell f t [] ≡ f
  no_index f Scalar = refl
  no_index f (PairOf a b) = refl
  no_index f (ArrayOf n t) = refl

  no_place : (t : Shape A) → index_in spell t [] ≡ Number 0
  no_place Scalar = refl
  no_place (PairOf a b) = refl
  no_place (ArrayOf n t) = refl

  outer_from : (ts : List ℕ) (f : Formula) (i n : ℕ) (o : Ty) (t : Shape A) (cs : List Bool) (is : List Formula) (q : List ℕ) → IsOuter o (measured num t) → IsShort (measured num t) → IsPosition o cs q → Means l item ts f i → flat_from i o q < n → n ≤ 2 ^ 32 → AllMean l item ts is q → Means l item ts (index_from spell f t is) (flat_from i o q)
  outer_from ts f i n Scalar t [] [] [] u sh w a lt fn g = subst (λ z. Means l item ts z i) (sym (no_index f t)) a
  outer_from ts f i n Scalar t [] (h ∷ fs) [] u sh w a lt fn g = absurd g
  outer_from ts f i n Scalar t [] is (j ∷ q) u sh w a lt fn g = absurd w
  outer_from ts f i n Scalar t (c ∷ cs) is q u sh w a lt fn g = absurd w
  outer_from ts f i n (ArrayOf k o) (ArrayOf m t) cs is [] u sh w a lt fn g = absurd w
  outer_from ts f i n (ArrayOf k o) (ArrayOf m t) cs [] (j ∷ q) u sh w a lt fn g = absurd g
  outer_from ts f i n (ArrayOf k o) (ArrayOf m t) cs (h ∷ fs) (j ∷ q) u sh w a lt fn g =
      let x = i * k + j in
      let flat_o = outer_flat o (measured num t) u.1 in
      let long = flat_long x o cs q flat_o w.1 in
      let more = mul-le-mul_left {m = 1} {n = size o} x (size_pos o cs q flat_o w.1) in
      outer_from ts (Binary Add (Binary Mul f (spell m)) h) x n o t cs fs q u.1 sh.1 w.1
      (subst (λ z. Means l item ts (Binary Add (Binary Mul f (spell m)) h) (i * z + j)) (sym u.0) (means_step ts f (spell m) h i j (num m) n a (means_spell ts m sh.0) g.0 (subst (λ z. i * z + j < n) u.0 (omega arith)) fn)) lt fn g.1
  outer_from ts f i n (PairOf a b) t cs is q u sh w p lt fn g = absurd u
  outer_from ts f i n (ArrayOf k o) Scalar cs is q u sh w p lt fn g = absurd u
  outer_from ts f i n (ArrayOf k o) (PairOf a b) cs is q u sh w p lt fn g = absurd u

  pub outer_means : (ts : List ℕ) (o : Ty) (t : Shape A) (cs : List Bool) (is : List Formula) (q : List ℕ) → IsOuter o (measured num t) → IsShort (measured num t) → size (measured num t) < 2 ^ 31 → IsPosition o cs q → AllMean l item ts is q → Means l item ts (index_in spell t is) (flat o q)
  outer_means ts Scalar t [] [] [] u sh small w g = subst (λ z. Means l item ts z 0) (sym (no_place t)) (means_number ts 0 (omega arith))
  outer_means ts Scalar t [] (h ∷ fs) [] u sh small w g = absurd g
  outer_means ts Scalar t [] is (j ∷ q) u sh small w g = absurd w
  outer_means ts Scalar t (c ∷ cs) is q u sh small w g = absurd w
  outer_means ts (ArrayOf n o) (ArrayOf m t) cs is [] u sh small w g = absurd w
  outer_means ts (ArrayOf n o) (ArrayOf m t) cs [] (i ∷ q) u sh small w g = absurd g
  outer_means ts (ArrayOf n o) (ArrayOf m t) cs (f ∷ fs) (i ∷ q) u sh small w g =
      let flat_o = outer_flat o (measured num t) u.1 in
      let long = flat_long i o cs q flat_o w.1 in
      let below = flat_below (ArrayOf n o) cs (i ∷ q) flat_o w in
      let less = outer_size (ArrayOf n o) (measured num (ArrayOf m t)) u in
      subst (Means l item ts (index_in spell (ArrayOf m t) (f ∷ fs))) long (outer_from ts f i (2 ^ 32) o t cs fs q u.1 sh.1 w.1 g.0 (omega arith) (omega arith) g.1)
  outer_means ts (PairOf a b) t cs is q u sh small w g = absurd u
  outer_means ts (ArrayOf k o) Scalar cs is q u sh small w g = absurd u
  outer_means ts (ArrayOf k o) (PairOf a b) cs is q u sh small w g = absurd u

  no_choice : (t : Shape A) → component t [] ≡ 0
  no_choice Scalar = refl
  no_choice (PairOf a b) = refl
  no_choice (ArrayOf n t) = no_choice t

  outer_choice : (o : Ty) (t : Ty) (cs : List Bool) (q : List ℕ) → IsOuter o t → IsPosition o cs q → cs ≡ []
  outer_choice Scalar t [] q u w = refl
  outer_choice Scalar t (c ∷ cs) q u w = absurd w
  outer_choice (ArrayOf n o) (ArrayOf m t) cs [] u w = absurd w
  outer_choice (ArrayOf n o) (ArrayOf m t) cs (i ∷ q) u w = outer_choice o t cs q u.1 w.1
  outer_choice (PairOf a b) t cs q u w = absurd u
  outer_choice (ArrayOf k o) Scalar cs q u w = absurd u
  outer_choice (ArrayOf k o) (PairOf a b) cs q u w = absurd u

  -- a value laid in arrays lies whole
  pub placed_whole : (ts : List ℕ) (form : ℕ → Array) (first : ℕ) (t : Shape A) → IsShort (measured num t) → size (measured num t) < 2 ^ 31 → IsWhole l item ts (measured num t) (placed_view spell form first t) (laid_in form first (measured num t))
  placed_whole ts form first t sh small = record {
    array = form (first + component (measured num t) []);
    before = 0;
    lies = λ q w. ap (λ n. Spot (form (first + component (measured num t) [])) n) (zero_before (size (measured num t)) (flat (measured num t) q));
    shows = λ o u us cs is q w g. (
      ap (λ c. form (first + c)) (ap (component t) (outer_choice o (measured num t) cs q u w) ∙ sym (component_same t [])),
      subst (Means l item (ts ++ us) (index_in spell t is)) (zero_before (size o) (flat o q)) (outer_means (ts ++ us) o t cs is q u sh small w g),
    );
  }
    where
      zero_before : (s f : ℕ) → f ≡ 0 * s + f
      zero_before s f = omega arith
