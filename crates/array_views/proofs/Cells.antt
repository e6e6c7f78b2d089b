-- Views name the cells of positions, within their arrays.
use Rattle.std.proofs.Common.{◌≡◌, ℕ, ◌+◌, ◌/◌, ◌<◌, Bool, true, false, List, [], ◌∷◌, None, refl, sym, ap, ap₂, ◌∙◌, subst, ⊎_elim, arith}
use Rattle.kernel_tree.specs.Code as code
use Rattle.kernel_tree.specs.Code.{Array}
use Rattle.lift_ir.specs.Types.{Shape, Ty, Scalar, PairOf, ArrayOf, four, measured, width, component, flat, unflat, IsPosition}
use Rattle.lift_ir.specs.Layouts.{Layout, Split, Join, Transpose, Reverse, Slide, Pad, operand_position, result_position}
use Rattle.lift_ir.proofs.Positions.{operand_in, result_in, result_operand}
use Rattle.lift_ir.proofs.Numbers.{component_below, flat_below, component_same, flat_same, position_at}
use Rattle.printed_form.specs.Marks.{Mark, Spot, in_lanes}
use Rattle.index_expr.specs.Expression.{Expression}
use Rattle.index_simplify.specs.Promises.{SameExpressionsHaveOneValue}
use Rattle.array_views.specs.declared.array.ArrayKind.{ArrayKind}
use Rattle.array_views.specs.declared.array.ArrayKind.TheVariants as kind
use Rattle.array_views.specs.Arrays.{array_with}
use Rattle.array_views.specs.Layouts.{asked_row, expressions, flattened, gathered, operand_asked, operand_row, result_asked, result_row, to_operand, to_result}
use Rattle.array_views.specs.Views as view
use Rattle.array_views.specs.Views.{PlainView}
use Rattle.array_views.specs.Accesses as access
use Rattle.array_views.specs.Accesses.{access_at, in_rows}
use Rattle.array_views.specs.Cells.{IsWithin, number_at, AreIndices, Leads, IsViewOf, marks_at, IsAccessTo, HasArrays, IsGoal, IsWholeGoal, IsCellOf}
use Rattle.array_views.specs.Promises.{ViewsNameCells}
use Rattle.array_views.proofs.Exact.{row_major_exact}
use Rattle.array_views.proofs.Layouts.{operand_exact, result_exact}

module _ {A : Type 0} (num : A → ℕ) where
  width_at : (t : Shape A) → width (measured num t) ≡ width t
  width_at Scalar = refl
  width_at (PairOf a b) = let x = width_at a in let y = width_at b in omega arith
  width_at (ArrayOf n t) = width_at t

  component_at : (t : Shape A) (cs : List Bool) → component (measured num t) cs ≡ component t cs
  component_at Scalar cs = refl
  component_at (PairOf a b) [] = refl
  component_at (PairOf a b) (false ∷ cs) = component_at a cs
  component_at (PairOf a b) (true ∷ cs) = let x = width_at a in let y = component_at b cs in omega arith
  component_at (ArrayOf n t) cs = component_at t cs

module _ (sizes variables : List ℕ) where
  abbrev num : Expression → ℕ
  num = number_at sizes variables

  at_position : (t u : Ty) (cs : List Bool) (q : List ℕ) → t ≡ u → IsPosition t cs q → IsPosition u cs q
  at_position t u cs q e w = subst (λ z. IsPosition z cs q) e w

  -- an array of pairs has its sides' positions
  no_pair : (n : ℕ) (a b : Ty) (q : List ℕ) → IsPosition (ArrayOf n (PairOf a b)) [] q → ⊥
  no_pair n a b [] w = w
  no_pair n a b (i ∷ q) w = w.1

  left_of : (n : ℕ) (a b : Ty) (cs : List Bool) (q : List ℕ) → IsPosition (ArrayOf n (PairOf a b)) (false ∷ cs) q → IsPosition (ArrayOf n a) cs q
  left_of n a b cs [] w = absurd w
  left_of n a b cs (i ∷ q) w = w

  right_of : (n : ℕ) (a b : Ty) (cs : List Bool) (q : List ℕ) → IsPosition (ArrayOf n (PairOf a b)) (true ∷ cs) q → IsPosition (ArrayOf n b) cs q
  right_of n a b cs [] w = absurd w
  right_of n a b cs (i ∷ q) w = w

  -- a vector's scalars are the lanes of its variable
  in_vector : (n : ℕ) (cs : List Bool) (is : List Expression) (q : List ℕ) → IsPosition four cs q → IsAccessTo sizes variables (access.Vector n) (in_lanes n q)
  in_vector n cs is [] w = absurd w
  in_vector n cs is (j ∷ []) w = refl
  in_vector n [] is (j ∷ k ∷ q) w = absurd w.1
  in_vector n (c ∷ cs) is (j ∷ k ∷ q) w = absurd w.1

  -- at a position of an array of arrays no row is asked for alone
  two_asked : (m : Expression) (n k : ℕ) (u : Ty) (cs : List Bool) (is : List Expression) (q : List ℕ) → IsPosition (ArrayOf n (ArrayOf k u)) cs q → AreIndices sizes variables is q → (asked_row m is ≡ None) × (gathered m is ≡ flattened expressions m is)
  two_asked m n k u cs is [] w g = absurd w
  two_asked m n k u cs is (i ∷ []) w g = absurd w.1
  two_asked m n k u cs [] (i ∷ j ∷ q) w g = absurd g
  two_asked m n k u cs (f ∷ []) (i ∷ j ∷ q) w g = absurd g.1
  two_asked m n k u cs (f ∷ h ∷ fs) (i ∷ j ∷ q) w g = (refl, refl)

  operand_asks : (y : Layout Expression) (t u : Ty) (cs : List Bool) (is : List Expression) (q : List ℕ) → Leads sizes variables y t u → IsPosition u cs q → AreIndices sizes variables is q → (operand_row y is ≡ None) × (operand_asked y is ≡ to_operand y is)
  operand_asks (Split m) (ArrayOf n t) u cs is q a w g = two_asked m (n / num m) (num m) t cs is q (at_position u (ArrayOf (n / num m) (ArrayOf (num m) t)) cs q a.shapes.2 w) g
  operand_asks (Split m) Scalar u cs is q a w g = absurd a.shapes
  operand_asks (Split m) (PairOf b c) u cs is q a w g = absurd a.shapes
  operand_asks (Join m) t u cs is q a w g = (refl, refl)
  operand_asks Transpose t u cs is q a w g = (refl, refl)
  operand_asks (Reverse k) t u cs is q a w g = (refl, refl)
  operand_asks (Slide s k) t u cs is q a w g = (refl, refl)
  operand_asks (Pad l r k) t u cs is q a w g = (refl, refl)

  result_asks : (y : Layout Expression) (t u : Ty) (cs : List Bool) (is : List Expression) (q : List ℕ) → Leads sizes variables y t u → IsPosition t cs q → AreIndices sizes variables is q → (result_row y is ≡ None) × (result_asked y is ≡ to_result y is)
  result_asks (Join m) (ArrayOf n (ArrayOf k t)) u cs is q a w g = two_asked m n k t cs is q w g
  result_asks (Join m) (ArrayOf n Scalar) u cs is q a w g = absurd a.shapes
  result_asks (Join m) (ArrayOf n (PairOf b c)) u cs is q a w g = absurd a.shapes
  result_asks (Join m) Scalar u cs is q a w g = absurd a.shapes
  result_asks (Join m) (PairOf b c) u cs is q a w g = absurd a.shapes
  result_asks (Split m) t u cs is q a w g = (refl, refl)
  result_asks Transpose t u cs is q a w g = (refl, refl)
  result_asks (Reverse k) t u cs is q a w g = (refl, refl)
  result_asks (Slide s k) t u cs is q a w g = (refl, refl)
  result_asks (Pad l r k) t u cs is q a w g = (refl, refl)

  names_cell : SameExpressionsHaveOneValue → (v : PlainView) (t : Ty) (cs : List Bool) (is : List Expression) (q : List ℕ) → IsViewOf sizes variables v t → IsPosition t cs q → AreIndices sizes variables is q → IsAccessTo sizes variables (access_at v cs is) (marks_at sizes variables v cs q)
  names_cell one_value view.Nothing t cs is q h w g = absurd h
  names_cell one_value (view.Variable n) t cs is q h w g = refl
  names_cell one_value (view.Vector n) t cs is q h w g = in_vector n cs is q (at_position t four cs q h w)
  names_cell one_value (view.Placed k n s) t cs is q h w g =
      (ap (λ c. array_with k (n + c)) (sym (component_at num s cs)), row_major_exact sizes variables s cs is q h.1.flat h.1.small h.2 (at_position t (measured num s) cs q h.0 w) g)
  names_cell one_value (view.Both x y) t [] is q h w g = absurd (⊎_elim (λ p. at_position t (PairOf p.0 p.1) [] q p.2 w) (λ p. no_pair p.0 p.1 p.2 q (at_position t (ArrayOf p.0 (PairOf p.1 p.2)) [] q p.3 w)) h)
  names_cell one_value (view.Both x y) t (false ∷ cs) is q h w g =
      ⊎_elim
      (λ p. names_cell one_value x p.0 cs is q p.3 (at_position t (PairOf p.0 p.1) (false ∷ cs) q p.2 w) g)
      (λ p. names_cell one_value x (ArrayOf p.0 p.1) cs is q p.4 (left_of p.0 p.1 p.2 cs q (at_position t (ArrayOf p.0 (PairOf p.1 p.2)) (false ∷ cs) q p.3 w)) g)
      h
  names_cell one_value (view.Both x y) t (true ∷ cs) is q h w g =
      ⊎_elim
      (λ p. names_cell one_value y p.1 cs is q p.4 (at_position t (PairOf p.0 p.1) (true ∷ cs) q p.2 w) g)
      (λ p. names_cell one_value y (ArrayOf p.0 p.2) cs is q p.5 (right_of p.0 p.1 p.2 cs q (at_position t (ArrayOf p.0 (PairOf p.1 p.2)) (true ∷ cs) q p.3 w)) g)
      h
  names_cell one_value (view.Component false x) t cs is q h w g = names_cell one_value x (PairOf t h.0) (false ∷ cs) is q h.1 w g
  names_cell one_value (view.Component true x) t cs is q h w g = names_cell one_value x (PairOf h.0 t) (true ∷ cs) is q h.1 w g
  names_cell one_value (view.At i x) t cs is q h w g = names_cell one_value x (ArrayOf h.0 t) cs (i ∷ is) (num i ∷ q) h.1 (h.3, w) (h.2, g)
  names_cell one_value (view.Reading y x) t cs is q h w g =
      let asked = operand_asks y h.0 t cs is q h.2 w g in
      subst (λ a. IsAccessTo sizes variables a (marks_at sizes variables x cs (operand_position num y q))) (sym (ap₂ (λ r fs. in_rows r (access_at x cs fs)) asked.0 asked.1))
      (names_cell one_value x h.0 cs (to_operand y is) (operand_position num y q) h.1 (operand_in num y h.0 t cs q h.2.shapes w) (operand_exact sizes variables one_value y h.0 t cs is q h.2 w g))
  names_cell one_value (view.Writing y x) t cs is q h w g =
      let asked = result_asks y t h.0 cs is q h.2 w g in
      subst (λ a. IsAccessTo sizes variables a (marks_at sizes variables x cs (result_position num y q))) (sym (ap₂ (λ r fs. in_rows r (access_at x cs fs)) asked.0 asked.1))
      (names_cell one_value x h.0 cs (to_result y is) (result_position num y q) h.1 ((result_in num y t h.0 cs q h.3 h.2.shapes w).0) (result_exact sizes variables one_value y t h.0 cs is q h.3 h.2 w g))

  lane_within : (long : Array → ℕ) (n : ℕ) (q : List ℕ) → IsWithin long (in_lanes n q)
  lane_within long n [] = tt
  lane_within long n (j ∷ []) = tt
  lane_within long n (j ∷ k ∷ q) = tt

  pub within : (long : Array → ℕ) (v : PlainView) (t : Ty) (cs : List Bool) (q : List ℕ) → IsViewOf sizes variables v t → HasArrays sizes variables long v → IsPosition t cs q → IsWithin long (marks_at sizes variables v cs q)
  within long view.Nothing t cs q h f w = tt
  within long (view.Variable n) t cs q h f w = tt
  within long (view.Vector n) t cs q h f w = lane_within long n q
  within long (view.Placed k n s) t cs q h f w =
      let p = at_position t (measured num s) cs q h.0 w in
      let c = component_below (measured num s) cs q p in
      let e = width_at num s in
      subst (λ z. flat (measured num s) q < z) (sym (f (component (measured num s) cs) (omega arith))) (flat_below (measured num s) cs q h.1.flat p)
  within long (view.Both x y) t [] q h f w = absurd (⊎_elim (λ p. at_position t (PairOf p.0 p.1) [] q p.2 w) (λ p. no_pair p.0 p.1 p.2 q (at_position t (ArrayOf p.0 (PairOf p.1 p.2)) [] q p.3 w)) h)
  within long (view.Both x y) t (false ∷ cs) q h f w =
      ⊎_elim
      (λ p. within long x p.0 cs q p.3 f.0 (at_position t (PairOf p.0 p.1) (false ∷ cs) q p.2 w))
      (λ p. within long x (ArrayOf p.0 p.1) cs q p.4 f.0 (left_of p.0 p.1 p.2 cs q (at_position t (ArrayOf p.0 (PairOf p.1 p.2)) (false ∷ cs) q p.3 w)))
      h
  within long (view.Both x y) t (true ∷ cs) q h f w =
      ⊎_elim
      (λ p. within long y p.1 cs q p.4 f.1 (at_position t (PairOf p.0 p.1) (true ∷ cs) q p.2 w))
      (λ p. within long y (ArrayOf p.0 p.2) cs q p.5 f.1 (right_of p.0 p.1 p.2 cs q (at_position t (ArrayOf p.0 (PairOf p.1 p.2)) (true ∷ cs) q p.3 w)))
      h
  within long (view.Component false x) t cs q h f w = within long x (PairOf t h.0) (false ∷ cs) q h.1 f w
  within long (view.Component true x) t cs q h f w = within long x (PairOf h.0 t) (true ∷ cs) q h.1 f w
  within long (view.At i x) t cs q h f w = within long x (ArrayOf h.0 t) cs (num i ∷ q) h.1 f (h.3, w)
  within long (view.Reading y x) t cs q h f w = within long x h.0 cs (operand_position num y q) h.1 f (operand_in num y h.0 t cs q h.2.shapes w)
  within long (view.Writing y x) t cs q h f w = within long x h.0 cs (result_position num y q) h.1 f ((result_in num y t h.0 cs q h.3 h.2.shapes w).0)

  -- ---- where a value goes
  abbrev array_number : Array → ℕ
  array_number (code.Input n) = n
  array_number (code.Output n) = n
  array_number (code.Local n) = n
  array_number (code.Private n) = n

  abbrev array_in : Mark → ℕ
  array_in (Spot a i) = array_number a
  array_in _ = 0

  abbrev index_in : Mark → ℕ
  index_in (Spot a i) = i
  index_in _ = 0

  number_of : (k : ArrayKind) (n : ℕ) → array_number (array_with k n) ≡ n
  number_of kind.Input n = refl
  number_of kind.Output n = refl
  number_of kind.Local n = refl
  number_of kind.Private n = refl

  abbrev rest_of : List ℕ → List ℕ
  rest_of [] = []
  rest_of (i ∷ q) = q

  pub differ : (v : PlainView) (t : Ty) (cs ds : List Bool) (q p : List ℕ) → IsViewOf sizes variables v t → IsGoal v → IsPosition t cs q → IsPosition t ds p → marks_at sizes variables v cs q ≡ marks_at sizes variables v ds p → (cs ≡ ds) × (q ≡ p)
  differ view.Nothing t cs ds q p h g w z e = absurd g
  differ (view.Variable n) t cs ds q p h g w z e = absurd g
  differ (view.Vector n) t cs ds q p h g w z e = absurd g
  differ (view.Placed k n s) t cs ds q p h g w z e =
      let a = at_position t (measured num s) cs q h.0 w in
      let b = at_position t (measured num s) ds p h.0 z in
      let c : n + component (measured num s) cs ≡ n + component (measured num s) ds = sym (number_of k (n + component (measured num s) cs)) ∙ ap array_in e ∙ number_of k (n + component (measured num s) ds) in
      (component_same (measured num s) cs ds q p a b (omega arith), flat_same (measured num s) cs ds q p h.1.flat a b (ap index_in e))
  differ (view.Both x y) t cs ds q p h g w z e = absurd g
  differ (view.Component s x) t cs ds q p h g w z e = absurd g
  differ (view.At i x) t cs ds q p h g w z e =
      let r = differ x (ArrayOf h.0 t) cs ds (num i ∷ q) (num i ∷ p) h.1 g (h.3, w) (h.3, z) e in
      (r.0, ap rest_of r.1)
  differ (view.Reading y x) t cs ds q p h g w z e = absurd g
  differ (view.Writing y x) t cs ds q p h g w z e =
      let a = result_in num y t h.0 cs q h.3 h.2.shapes w in
      let b = result_in num y t h.0 ds p h.3 h.2.shapes z in
      let r = differ x h.0 cs ds (result_position num y q) (result_position num y p) h.1 g a.0 b.0 e in
      (r.0, sym a.1 ∙ ap (operand_position num y) r.1 ∙ b.1)

  pub full : (v : PlainView) (t : Ty) → IsViewOf sizes variables v t → IsWholeGoal v → (m : Mark) → IsCellOf sizes variables v m → (cs : List Bool) × (q : List ℕ) × IsPosition t cs q × (marks_at sizes variables v cs q ≡ m)
  full view.Nothing t h g m c = absurd g
  full (view.Variable n) t h g m c = absurd g
  full (view.Vector n) t h g m c = absurd g
  full (view.Placed k n s) t h g m c =
      let e = width_at num s in
      let r = position_at (measured num s) c.0 c.1 h.1.flat (let lt = c.2 in omega arith) c.3 in (
        r.0,
        unflat (measured num s) c.1,
        at_position (measured num s) t r.0 (unflat (measured num s) c.1) (sym h.0) r.1,
        ap (λ x. Spot (array_with k (n + x)) (flat (measured num s) (unflat (measured num s) c.1))) r.2 ∙ ap (Spot (array_with k (n + c.0))) r.3 ∙ sym c.4,
      )
  full (view.Both x y) t h g m c = absurd g
  full (view.Component s x) t h g m c = absurd g
  full (view.At i x) t h g m c = absurd g
  full (view.Reading y x) t h g m c = absurd g
  full (view.Writing y x) t h g m c =
      let r = full x h.0 h.1 g m c in (
        r.0,
        operand_position num y r.1,
        operand_in num y t h.0 r.0 r.1 h.2.shapes r.2,
        ap (marks_at sizes variables x r.0) (result_operand num y t h.0 r.0 r.1 h.3 h.2.shapes r.2) ∙ r.3,
      )

pub views_name_cells : SameExpressionsHaveOneValue → ViewsNameCells
views_name_cells one_value sizes variables v t cs is q h w g = names_cell sizes variables one_value v t cs is q h w g
