-- What views show, within loops and through layouts.
use Rattle.std.proofs.Common.{◌≡◌, ℕ, ◌-◌, ◌/◌, ◌<◌, ◌^◌, Bool, true, false, List, [], ◌∷◌, ◌++◌, length, Some, refl, sym, ap, ◌∙◌, subst, arith, append_assoc, length-append}
use Rattle.std.specs.Prelude.{slice_index}
use Rattle.std.proofs.Math.ListN.{get_or-append}
use Rattle.std.proofs.Math.Seq.{get_or-append_right}
use Rattle.kernel_tree.specs.Formula.{Formula, Number, LoopVariable}
use Rattle.kernel_tree.specs.Launch.{Launch}
use Rattle.lift_ir.specs.Types.{Ty, Scalar, PairOf, ArrayOf, IsPosition, IsShort}
use Rattle.lift_ir.specs.Layouts.{HasWordStep, Layout, Split, Join, Transpose, Reverse, Slide, Pad, operand_position, Reshapes, result_position, IsInvertible}
use Rattle.lift_ir.specs.Scalars.{by_side, at_index}
use Rattle.lift_ir.proofs.Positions.{operand_in, result_in}
use Rattle.printed_form.specs.Marks.{Nowhere, Marks}
use Rattle.printed_form.specs.Means.{IsSpelled, Means, AllMean, IsCell, HasCells, Shows}
use Rattle.printed_form.specs.Views.{Blank, View, view_at, operand_indices, result_indices, reshaped_view, rewritten_view}
use Rattle.printed_form.proofs.Indices.{operand_means, result_means}

module _ (l : Launch) (item : ℕ) where
  pub cells_side : (ts : List ℕ) (b : Bool) (t u : Ty) (x : View) (y : Marks) → ((cs : List Bool) (q : List ℕ) → IsPosition t cs q → IsPosition u (b ∷ cs) q) → HasCells l item ts u x y → HasCells l item ts t (λ cs. x (b ∷ cs)) (λ cs. y (b ∷ cs))
  cells_side ts b t u x y up h us cs is q w g = h us (b ∷ cs) is q (up cs q w) g

  -- what has cells shows
  pub cells_show : (ts : List ℕ) (t : Ty) (x : View) (y : Marks) → HasCells l item ts t x y → Shows l item ts t x y
  cells_show ts Scalar x y h = tt
  cells_show ts (PairOf a b) x y h = (
    cells_show ts a (λ cs. x (false ∷ cs)) (λ cs. y (false ∷ cs)) (cells_side ts false a (PairOf a b) x y (λ cs q w. w) h),
    cells_show ts b (λ cs. x (true ∷ cs)) (λ cs. y (true ∷ cs)) (cells_side ts true b (PairOf a b) x y (λ cs q w. w) h),
  )
  cells_show ts (ArrayOf n t) x y h = h

  -- within one more loop

  pub cells_within : (ts : List ℕ) (i : ℕ) (t : Ty) (x : View) (y : Marks) → HasCells l item ts t x y → HasCells l item (ts ++ i ∷ []) t x y
  cells_within ts i t x y h us cs is q w g =
      let e = append_assoc ts (i ∷ []) us in
      subst (λ z. IsCell l item z (x cs is) (y cs q)) (sym e) (h (i ∷ us) cs is q w (subst (λ z. AllMean l item z is q) e g))

  pub shows_within : (ts : List ℕ) (i : ℕ) (t : Ty) (x : View) (y : Marks) → Shows l item ts t x y → Shows l item (ts ++ i ∷ []) t x y
  shows_within ts i Scalar x y h = tt
  shows_within ts i (PairOf a b) x y h = (shows_within ts i a _ _ h.0, shows_within ts i b _ _ h.1)
  shows_within ts i (ArrayOf n t) x y h = cells_within ts i (ArrayOf n t) x y h

  -- the loop variable of the innermost loop
  loop_means : (ts us : List ℕ) (d i : ℕ) → length ts ≡ d → i < 2 ^ 31 → Means l item ((ts ++ i ∷ []) ++ us) (LoopVariable d) i
  loop_means ts us d i e lt =
      let more = length-append ts (i ∷ []) in
      record {
        fits = omega arith;
        always = λ vs. ap Some (
            get_or-append (ts ++ i ∷ []) us 0 d (omega arith) ∙ get_or-append_right ts (i ∷ []) d 0 (omega arith) ∙ ap (λ z. slice_index (i ∷ []) z) (let z : d - length ts ≡ 0 = omega arith in z));
      }

  pub turned_cells : (ts : List ℕ) (d i n : ℕ) (t : Ty) (x : View) (y : Marks) → length ts ≡ d → i < n → n < 2 ^ 31 → HasCells l item ts (ArrayOf n t) x y → HasCells l item (ts ++ i ∷ []) t (view_at (LoopVariable d) x) (at_index i y)
  turned_cells ts d i n t x y e lt small h us cs is q w g = cells_within ts i (ArrayOf n t) x y h us cs (LoopVariable d ∷ is) (i ∷ q) (lt, w) (loop_means ts us d i e (omega arith), g)

  -- the first element
  pub first_cells : (ts : List ℕ) (t : Ty) (x : View) (y : Marks) → HasCells l item ts (ArrayOf 1 t) x y → HasCells l item ts t (view_at (Number 0) x) (at_index 0 y)
  first_cells ts t x y h us cs is q w g = h us cs (Number 0 ∷ is) (0 ∷ q) (omega arith, w) (record { fits = omega arith; always = λ vs. refl }, g)

  -- the same cells
  pub cells_as : (ts : List ℕ) (t : Ty) (x : View) (y z : Marks) → ((cs : List Bool) (q : List ℕ) → IsPosition t cs q → y cs q ≡ z cs q) → HasCells l item ts t x y → HasCells l item ts t x z
  cells_as ts t x y z e h us cs is q w g = subst (IsCell l item (ts ++ us) (x cs is)) (e cs q w) (h us cs is q w g)

module _ (l : Launch) (item : ℕ) {A : Type 0} (num : A → ℕ) (spell : A → Formula) (spelled : (n : A) → num n < 2 ^ 31 → IsSpelled l (spell n) (num n)) where
  -- an array alone has a layout
  abbrev IsNoArray : Ty → Type 0
  IsNoArray Scalar = Unit {0}
  IsNoArray (PairOf a b) = Unit {0}
  IsNoArray (ArrayOf n t) = ⊥

  of_array : (y : Layout A) (t u : Ty) → IsNoArray t → Reshapes num y t u → ⊥
  of_array y (ArrayOf n t) u k rel = absurd k
  of_array (Split m) Scalar u k rel = absurd rel
  of_array (Join m) Scalar u k rel = absurd rel
  of_array Transpose Scalar u k rel = absurd rel
  of_array (Reverse n) Scalar u k rel = absurd rel
  of_array (Slide s n) Scalar u k rel = absurd rel
  of_array (Pad a b n) Scalar u k rel = absurd rel
  of_array (Split m) (PairOf a b) u k rel = absurd rel
  of_array (Join m) (PairOf a b) u k rel = absurd rel
  of_array Transpose (PairOf a b) u k rel = absurd rel
  of_array (Reverse n) (PairOf a b) u k rel = absurd rel
  of_array (Slide s n) (PairOf a b) u k rel = absurd rel
  of_array (Pad c d n) (PairOf a b) u k rel = absurd rel

  -- a scalar, through a layout

  scalar_read : (y : Layout A) (t u : Ty) (x : View) (ts : List ℕ) (cs : List Bool) (is : List Formula) (q : List ℕ) → Reshapes num y t u → IsPosition u cs q → AllMean l item ts is q → reshaped_view spell y x cs is ≡ x cs (operand_indices spell y is)
  scalar_read (Split m) (ArrayOf n t) u x ts cs is q rel w g = go is q (subst (λ z. IsPosition z cs q) rel.2 w) g
    where
      go : (is : List Formula) (q : List ℕ) → IsPosition (ArrayOf (n / num m) (ArrayOf (num m) t)) cs q → AllMean l item ts is q → reshaped_view spell (Split m) x cs is ≡ x cs (operand_indices spell (Split m) is)
      go is [] w g = absurd w
      go is (i ∷ []) w g = absurd w.1
      go [] (i ∷ j ∷ q) w g = absurd g
      go (f ∷ []) (i ∷ j ∷ q) w g = absurd g.1
      go (f ∷ h ∷ fs) (i ∷ j ∷ q) w g = refl
  scalar_read (Split m) Scalar u x ts cs is q rel w g = absurd rel
  scalar_read (Split m) (PairOf a b) u x ts cs is q rel w g = absurd rel
  scalar_read (Join m) t u x ts cs is q rel w g = refl
  scalar_read Transpose t u x ts cs is q rel w g = refl
  scalar_read (Reverse n) t u x ts cs is q rel w g = refl
  scalar_read (Slide s k) t u x ts cs is q rel w g = refl
  scalar_read (Pad a b n) t u x ts cs is q rel w g = refl

  scalar_written : (y : Layout A) (t u : Ty) (v : View) (ts : List ℕ) (cs : List Bool) (is : List Formula) (q : List ℕ) → Reshapes num y t u → IsPosition t cs q → AllMean l item ts is q → rewritten_view spell y v cs is ≡ v cs (result_indices spell y is)
  scalar_written (Join m) (ArrayOf n (ArrayOf k t)) u v ts cs is [] rel w g = absurd w
  scalar_written (Join m) (ArrayOf n (ArrayOf k t)) u v ts cs is (i ∷ []) rel w g = absurd w.1
  scalar_written (Join m) (ArrayOf n (ArrayOf k t)) u v ts cs [] (i ∷ j ∷ q) rel w g = absurd g
  scalar_written (Join m) (ArrayOf n (ArrayOf k t)) u v ts cs (f ∷ []) (i ∷ j ∷ q) rel w g = absurd g.1
  scalar_written (Join m) (ArrayOf n (ArrayOf k t)) u v ts cs (f ∷ h ∷ fs) (i ∷ j ∷ q) rel w g = refl
  scalar_written (Join m) Scalar u v ts cs is q rel w g = absurd rel
  scalar_written (Join m) (PairOf a b) u v ts cs is q rel w g = absurd rel
  scalar_written (Join m) (ArrayOf n Scalar) u v ts cs is q rel w g = absurd rel
  scalar_written (Join m) (ArrayOf n (PairOf a b)) u v ts cs is q rel w g = absurd rel
  scalar_written (Split m) t u v ts cs is q rel w g = refl
  scalar_written Transpose t u v ts cs is q rel w g = refl
  scalar_written (Reverse n) t u v ts cs is q rel w g = refl
  scalar_written (Slide s k) t u v ts cs is q rel w g = refl
  scalar_written (Pad a b n) t u v ts cs is q rel w g = refl

  pub back_cells : (ts : List ℕ) (y : Layout A) (t u : Ty) (v : View) (w : Marks) → IsInvertible y → Reshapes num y t u → IsShort t → IsShort u → HasCells l item ts u v w → HasCells l item ts t (rewritten_view spell y v) (λ cs q. w cs (result_position num y q))
  back_cells ts y t u v w turn rel st su h us cs is q i g =
      subst (λ z. IsCell l item (ts ++ us) z (w cs (result_position num y q))) (sym (scalar_written y t u v (ts ++ us) cs is q rel i g))
      (h us cs (result_indices spell y is) (result_position num y q) (result_in num y t u cs q turn rel i).0 (result_means l item num spell spelled (ts ++ us) y t u cs is q turn rel st su i g))

  pub moved_cells : (ts : List ℕ) (y : Layout A) (t u : Ty) (x : View) (e : Marks) → HasWordStep y → Reshapes num y t u → IsShort t → IsShort u → HasCells l item ts t x e → HasCells l item ts u (reshaped_view spell y x) (λ cs q. e cs (operand_position num y q))
  moved_cells ts y t u x e sp rel st su h us cs is q i g =
      subst (λ z. IsCell l item (ts ++ us) z (e cs (operand_position num y q))) (sym (scalar_read y t u x (ts ++ us) cs is q rel i g))
      (h us cs (operand_indices spell y is) (operand_position num y q) (operand_in num y t u cs q rel i) (operand_means l item num spell spelled (ts ++ us) y t u cs is q sp rel st su i g))

  pub moved_shows : (ts : List ℕ) (y : Layout A) (t u : Ty) (x : View) (e : Marks) → HasWordStep y → Reshapes num y t u → IsShort t → IsShort u → Shows l item ts t x e → Shows l item ts u (reshaped_view spell y x) (λ cs q. e cs (operand_position num y q))
  moved_shows ts y (ArrayOf n t) u x e sp rel st su h = cells_show l item ts u _ _ (moved_cells ts y (ArrayOf n t) u x e sp rel st su h)
  moved_shows ts y Scalar u x e sp rel st su h = absurd (of_array y Scalar u tt rel)
  moved_shows ts y (PairOf a b) u x e sp rel st su h = absurd (of_array y (PairOf a b) u tt rel)

  pub zip_cells : (ts : List ℕ) (n : ℕ) (a b : Ty) (x y : View) (e f : Marks) → HasCells l item ts (ArrayOf n a) x e → HasCells l item ts (ArrayOf n b) y f → HasCells l item ts (ArrayOf n (PairOf a b)) (by_side (λ is. Blank) x y) (by_side (λ q. Nowhere) e f)
  zip_cells ts n a b x y e f h k us cs is [] w g = absurd w
  zip_cells ts n a b x y e f h k us [] is (i ∷ q) w g = absurd w.1
  zip_cells ts n a b x y e f h k us (false ∷ cs) is (i ∷ q) w g = h us cs is (i ∷ q) w g
  zip_cells ts n a b x y e f h k us (true ∷ cs) is (i ∷ q) w g = k us cs is (i ∷ q) w g
