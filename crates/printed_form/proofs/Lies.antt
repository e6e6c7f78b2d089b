-- Where values lie, within loops, through layouts and at an element, and how views give the offsets
-- of their vectors.
use Rattle.std.proofs.Common.{◌≡◌, ℕ, zero, suc, ◌+◌, ◌-◌, ◌*◌, ◌/◌, ◌%◌, ◌<◌, ◌^◌, Bool, List, [], ◌∷◌, ◌++◌, length, refl, sym, ap, ◌∙◌, subst, arith}
use Rattle.std.proofs.Math.Nat.{mul_assoc, add-mul, mul-div_cancel}
use Rattle.kernel_tree.specs.Formula.{Formula, Number, LoopVariable}
use Rattle.kernel_tree.specs.Code.{Array, Input}
use Rattle.kernel_tree.specs.Launch.{Launch}
use Rattle.lift_ir.specs.Types.{Ty, Scalar, PairOf, ArrayOf, four, IsPosition, IsShort, size, flat, measured}
use Rattle.lift_ir.specs.Fours.{Lie, Held, Loose, Whole, InFours, Serves, element_lie, read_lie, written_lie}
use Rattle.lift_ir.specs.Layouts.{HasWordStep, Layout, Split, Join, Transpose, Reverse, Slide, Pad, operand_position, Reshapes, result_position, IsInvertible}
use Rattle.lift_ir.specs.Scalars.{at_index}
use Rattle.lift_ir.proofs.Positions.{operand_in, join_in, whole}
use Rattle.printed_form.specs.Marks.{Spot, Marks, laid_in}
use Rattle.printed_form.specs.Means.{IsSpelled, Means, IsCell, HasCells, Shows, IsOuter, in_arrays, IsWhole, AreFours, LiesAs, ShowsAs, AllShow}
use Rattle.printed_form.specs.Views.{Sign, Blank, Held as HeldIn, HeldFour, Read, View, view_at, cell_in_rows, row_sign, view_of_rows, operand_indices, reshaped_view, rewritten_view, laid_view}
use Rattle.printed_form.proofs.Indices.{means_number, means_cell, means_parts, means_row, means_spell, placed_whole}
use Rattle.printed_form.proofs.Shown.{cells_within, shows_within, turned_cells, first_cells, cells_as, moved_cells}

-- ---- numbers
-- rows of rows
parts : (i m j s f : ℕ) → i * (m * s) + (j * s + f) ≡ (i * m + j) * s + f
parts i m j s f =
    let a = mul_assoc i m s in
    let b = add-mul (i * m) j s in
    omega arith

sizes : (q m n s : ℕ) → q * m ≡ n → q * (m * s) ≡ n * s
sizes q m n s e = sym (mul_assoc q m s) ∙ ap (λ z. z * s) e

-- ---- arrays of vectors
array_length : (n m : ℕ) (t u : Ty) → ArrayOf n t ≡ ArrayOf m u → n ≡ m
array_length n m t u e = cc

array_element : (n m : ℕ) (t u : Ty) → ArrayOf n t ≡ ArrayOf m u → t ≡ u
array_element n m t u e = cc

arrays_size : (ns : List ℕ) → size (in_arrays ns four) ≡ 4 * size (in_arrays ns Scalar)
arrays_size [] = refl
arrays_size (n ∷ ns) = ap (λ z. n * z) (arrays_size ns) ∙ turned n (size (in_arrays ns Scalar))
  where
    turned : (n s : ℕ) → n * (4 * s) ≡ 4 * (n * s)
    turned n s = grind arith

arrays_flat : (ns q : List ℕ) (j : ℕ) → IsPosition (in_arrays ns Scalar) [] q → flat (in_arrays ns four) (q ++ j ∷ []) ≡ 4 * flat (in_arrays ns Scalar) q + j
arrays_flat [] [] j w = (let e : j * 1 + 0 ≡ 4 * 0 + j = omega arith in e)
arrays_flat [] (i ∷ q) j w = absurd w
arrays_flat (n ∷ ns) [] j w = absurd w
arrays_flat (n ∷ ns) (i ∷ q) j w =
    let s = size (in_arrays ns Scalar) in
    let a = arrays_size ns in
    let b = arrays_flat ns q j w.1 in
    ap (λ z. i * z + flat (in_arrays ns four) (q ++ j ∷ [])) a ∙ ap (λ z. i * (4 * s) + z) b ∙ turned i s (flat (in_arrays ns Scalar) q) j
  where
    turned : (i s f j : ℕ) → i * (4 * s) + (4 * f + j) ≡ 4 * (i * s + f) + j
    turned i s f j = let e : i * (4 * s) ≡ 4 * (i * s) = grind arith in omega arith

arrays_in : (ns q : List ℕ) (j : ℕ) → IsPosition (in_arrays ns Scalar) [] q → j < 4 → IsPosition (in_arrays ns four) [] (q ++ j ∷ [])
arrays_in [] [] j w lt = (lt, tt)
arrays_in [] (i ∷ q) j w lt = absurd w
arrays_in (n ∷ ns) [] j w lt = absurd w
arrays_in (n ∷ ns) (i ∷ q) j w lt = (w.0, arrays_in ns q j w.1 lt)

arrays_outer : (ns : List ℕ) → IsOuter (in_arrays ns Scalar) (in_arrays ns four)
arrays_outer [] = (let e : 0 < 4 = omega arith in e)
arrays_outer (n ∷ ns) = (refl, arrays_outer ns)

arrays_short : (ns : List ℕ) → IsShort (in_arrays ns four) → IsShort (in_arrays ns Scalar)
arrays_short [] sh = tt
arrays_short (n ∷ ns) sh = (sh.0, arrays_short ns sh.1)

measured_same : (t : Ty) → measured (λ n. n) t ≡ t
measured_same Scalar = refl
measured_same (PairOf a b) = ap (λ z. PairOf z (measured (λ n. n) b)) (measured_same a) ∙ ap (PairOf a) (measured_same b)
measured_same (ArrayOf n t) = ap (ArrayOf n) (measured_same t)

module _ (l : Launch) (item : ℕ) where
  -- ---- within loops
  whole_within : (ts : List ℕ) (i : ℕ) (t : Ty) (x : View) (y : Marks) → IsWhole l item ts t x y → IsWhole l item (ts ++ i ∷ []) t x y
  whole_within ts i t x y h = record {
    array = h.array;
    before = h.before;
    lies = h.lies;
    shows = λ o u. cells_within l item ts i o x (λ cs q. Spot h.array (h.before * size o + flat o q)) (h.shows o u);
  }

  fours_within : (ts : List ℕ) (i : ℕ) (ns : List ℕ) (x : View) (y : Marks) → AreFours l item ts ns x y → AreFours l item (ts ++ i ∷ []) ns x y
  fours_within ts i ns x y h = record {
    array = h.array;
    offset = h.offset;
    lies = h.lies;
    shows = cells_within l item ts i (in_arrays ns Scalar) x (λ cs q. Spot h.array (h.offset q)) h.shows;
  }

  pub lies_within : (z : Lie) (ts : List ℕ) (i : ℕ) (t : Ty) (x : View) (y : Marks) → LiesAs l item z ts t x y → LiesAs l item z (ts ++ i ∷ []) t x y
  lies_within Held ts i t x y h = tt
  lies_within Loose ts i t x y h = tt
  lies_within Whole ts i t x y h = whole_within ts i t x y h
  lies_within (InFours k) ts i t x y h = λ ns d e. fours_within ts i ns x y (h ns d e)

  -- what shows, and lies so
  pub showing : (z : Lie) (ts : List ℕ) (t : Ty) (x : View) (y : Marks) → Shows l item ts t x y → LiesAs l item z ts t x y → ShowsAs l item z ts t x y
  showing Held ts t x y s h = tt
  showing Loose ts t x y s h = s
  showing Whole ts t x y s h = (s, h)
  showing (InFours k) ts t x y s h = (s, h)

  pub lying : (z : Lie) (ts : List ℕ) (t : Ty) (x : View) (y : Marks) → ShowsAs l item z ts t x y → LiesAs l item z ts t x y
  lying Held ts t x y h = tt
  lying Loose ts t x y h = tt
  lying Whole ts t x y h = h.1
  lying (InFours k) ts t x y h = h.1

  shows_as_within : (z : Lie) (ts : List ℕ) (i : ℕ) (t : Ty) (x : View) (y : Marks) → ShowsAs l item z ts t x y → ShowsAs l item z (ts ++ i ∷ []) t x y
  shows_as_within Held ts i t x y h = tt
  shows_as_within Loose ts i t x y h = shows_within l item ts i t x y h
  shows_as_within Whole ts i t x y h = (shows_within l item ts i t x y h.0, whole_within ts i t x y h.1)
  shows_as_within (InFours k) ts i t x y h = (shows_within l item ts i t x y h.0, lies_within (InFours k) ts i t x y h.1)

  pub all_within : (ts : List ℕ) (i : ℕ) (lies : ℕ → Lie) (g : ℕ → Ty) (views : ℕ → View) (env : ℕ → Marks) → AllShow l item ts lies g views env → AllShow l item (ts ++ i ∷ []) lies g views env
  all_within ts i lies g views env h v = shows_as_within (lies v) ts i (g v) (views v) (env v) (h v)

  -- ---- what lies whole has its vectors in fours
  whole_fours : (ts : List ℕ) (ns : List ℕ) (x : View) (y : Marks) → IsWhole l item ts (in_arrays ns four) x y → AreFours l item ts ns x y
  whole_fours ts ns x y h = record {
    array = h.array;
    offset = λ q. h.before * size (in_arrays ns Scalar) + flat (in_arrays ns Scalar) q;
    lies = λ q w. record { at = λ j lt. h.lies (q ++ j ∷ []) (arrays_in ns q j w lt) ∙ ap (λ c. Spot h.array c) (cell q j w) };
    shows = h.shows (in_arrays ns Scalar) (arrays_outer ns);
  }
    where
      turned : (b s f j : ℕ) → b * (4 * s) + (4 * f + j) ≡ 4 * (b * s + f) + j
      turned b s f j = let e : b * (4 * s) ≡ 4 * (b * s) = grind arith in omega arith

      cell : (q : List ℕ) (j : ℕ) → IsPosition (in_arrays ns Scalar) [] q → h.before * size (in_arrays ns four) + flat (in_arrays ns four) (q ++ j ∷ []) ≡ 4 * (h.before * size (in_arrays ns Scalar) + flat (in_arrays ns Scalar) q) + j
      cell q j w =
          ap (λ z. h.before * z + flat (in_arrays ns four) (q ++ j ∷ [])) (arrays_size ns)
          ∙ ap (λ z. h.before * (4 * size (in_arrays ns Scalar)) + z) (arrays_flat ns q j w) ∙ turned h.before (size (in_arrays ns Scalar)) (flat (in_arrays ns Scalar) q) j

  pub lie_serves : (y z : Lie) (ts : List ℕ) (t : Ty) (x : View) (e : Marks) → Serves y z → LiesAs l item y ts t x e → LiesAs l item z ts t x e
  lie_serves Held z ts t x e s h = absurd s
  lie_serves Loose Loose ts t x e s h = tt
  lie_serves Whole Loose ts t x e s h = tt
  lie_serves (InFours k) Loose ts t x e s h = tt
  lie_serves Whole Whole ts t x e s h = h
  lie_serves Whole (InFours k) ts t x e s h = λ ns d q. whole_fours ts ns x e (subst (λ z. IsWhole l item ts z x e) q h)
  lie_serves (InFours j) (InFours k) ts t x e s h = λ ns d q. h ns (d ∙ sym s) q
  lie_serves _ _ ts t x e s h = absurd (assumption)

  pub serves : (y z : Lie) (ts : List ℕ) (t : Ty) (x : View) (e : Marks) → Serves y z → ShowsAs l item y ts t x e → Shows l item ts t x e × LiesAs l item z ts t x e
  serves Held z ts t x e s h = absurd s
  serves Loose z ts t x e s h = (h, lie_serves Loose z ts t x e s tt)
  serves Whole z ts t x e s h = (h.0, lie_serves Whole z ts t x e s h.1)
  serves (InFours k) z ts t x e s h = (h.0, lie_serves (InFours k) z ts t x e s h.1)

  -- ---- an element
  element_of_whole : (ts us : List ℕ) (f : Formula) (i n : ℕ) (t : Ty) (x : View) (y : Marks) → i < n → ((o : Ty) (z : Marks) → HasCells l item ts (ArrayOf n o) x z → HasCells l item us o (view_at f x) (at_index i z)) → IsWhole l item ts (ArrayOf n t) x y
      → IsWhole l item us t (view_at f x) (at_index i y)
  element_of_whole ts us f i n t x y lt turn h = record {
    array = h.array;
    before = h.before * n + i;
    lies = λ q w. h.lies (i ∷ q) (lt, w) ∙ ap (λ c. Spot h.array c) (parts h.before n i (size t) (flat t q));
    shows = λ o u. cells_as l item us o (view_at f x) (λ cs q. Spot h.array (h.before * (n * size o) + (i * size o + flat o q))) (λ cs q. Spot h.array ((h.before * n + i) * size o + flat o q)) (λ cs q w. ap (λ c. Spot h.array c) (parts h.before n i (size o) (flat o q)))
        (turn o (λ cs q. Spot h.array (h.before * size (ArrayOf n o) + flat (ArrayOf n o) q)) (h.shows (ArrayOf n o) (refl, u)));
  }

  element_of_fours : (ts us : List ℕ) (f : Formula) (i n : ℕ) (ns : List ℕ) (x : View) (y : Marks) → i < n → ((o : Ty) (z : Marks) → HasCells l item ts (ArrayOf n o) x z → HasCells l item us o (view_at f x) (at_index i z)) → AreFours l item ts (n ∷ ns) x y
      → AreFours l item us ns (view_at f x) (at_index i y)
  element_of_fours ts us f i n ns x y lt turn h = record {
    array = h.array;
    offset = λ q. h.offset (i ∷ q);
    lies = λ q w. h.lies (i ∷ q) (lt, w);
    shows = turn (in_arrays ns Scalar) (λ cs q. Spot h.array (h.offset q)) h.shows;
  }

  pub element_lies : (z : Lie) (ts us : List ℕ) (f : Formula) (i n : ℕ) (t : Ty) (x : View) (y : Marks) → i < n → ((o : Ty) (z : Marks) → HasCells l item ts (ArrayOf n o) x z → HasCells l item us o (view_at f x) (at_index i z)) → LiesAs l item z ts (ArrayOf n t) x y
      → LiesAs l item (element_lie z) us t (view_at f x) (at_index i y)
  element_lies Held ts us f i n t x y lt turn h = tt
  element_lies Loose ts us f i n t x y lt turn h = tt
  element_lies Whole ts us f i n t x y lt turn h = element_of_whole ts us f i n t x y lt turn h
  element_lies (InFours zero) ts us f i n t x y lt turn h = tt
  element_lies (InFours (suc k)) ts us f i n t x y lt turn h = λ ns d e. element_of_fours ts us f i n ns x y lt turn (h (n ∷ ns) (ap suc d) (ap (ArrayOf n) e))

  -- at a turn, and the first
  pub turned_lies : (z : Lie) (ts : List ℕ) (d i n : ℕ) (t : Ty) (x : View) (y : Marks) → length ts ≡ d → i < n → n < 2 ^ 31 → LiesAs l item z ts (ArrayOf n t) x y → LiesAs l item (element_lie z) (ts ++ i ∷ []) t (view_at (LoopVariable d) x) (at_index i y)
  turned_lies z ts d i n t x y e lt small h = element_lies z ts (ts ++ i ∷ []) (LoopVariable d) i n t x y lt (λ o m c. turned_cells l item ts d i n o x m e lt small c) h

  pub first_lies : (z : Lie) (ts : List ℕ) (t : Ty) (x : View) (y : Marks) → LiesAs l item z ts (ArrayOf 1 t) x y → LiesAs l item (element_lie z) ts t (view_at (Number 0) x) (at_index 0 y)
  first_lies z ts t x y h = element_lies z ts ts (Number 0) 0 1 t x y (omega arith) (λ o m c. first_cells l item ts o x m c) h

module _ (l : Launch) (item : ℕ) {A : Type 0} (num : A → ℕ) (spell : A → Formula) (spelled : (n : A) → num n < 2 ^ 31 → IsSpelled l (spell n) (num n)) where
  -- ---- rows of an array that lies whole, and the array of such rows

  row_cell : (ts : List ℕ) (f g : Formula) (i m k : ℕ) (s : Sign) (b : Array) (c : ℕ) → 0 < m → i * m < 2 ^ 32 → Means l item ts f i → Means l item ts g m → c ≡ m * k → IsCell l item ts s (Spot b c) → IsCell l item ts (row_sign f g s) (Spot b k)
  row_cell ts f g i m k (Read a h) b c pos small p q e w = (w.0, means_row l item num spell spelled ts f g h i m k pos small p q (subst (λ z. Means l item ts h z) e w.1))
  row_cell ts f g i m k Blank b c pos small p q e w = absurd w
  row_cell ts f g i m k (HeldIn v) b c pos small p q e w = absurd w
  row_cell ts f g i m k (HeldFour v) b c pos small p q e w = absurd w

  product_pos : (k m s : ℕ) → 0 < k * (m * s) → 0 < s
  product_pos k m zero h = let z : k * (m * 0) ≡ 0 = grind arith in absurd (omega arith)
  product_pos k m (suc s) h = omega arith

  in_rows : (i j m n : ℕ) → n / m * m ≡ n → i < n / m → j < m → i * m + j < n
  in_rows i j m n e a b = subst (λ z. i * m + j < z) e (join_in i j m (n / m) a b)

  rows_whole : (ts : List ℕ) (m : A) (n : ℕ) (t : Ty) (x : View) (y : Marks) → 0 < num m → n / num m * num m ≡ n → n < 2 ^ 31 → num m < 2 ^ 31 → IsWhole l item ts (ArrayOf n t) x y
      → IsWhole l item ts (ArrayOf (n / num m) (ArrayOf (num m) t)) (view_of_rows (spell m) x) (λ cs q. y cs (operand_position num (Split m) q))
  rows_whole ts m n t x y pos e small short h = record { array = h.array; before = h.before; lies = lies; shows = shows }
    where
      cell : (i j s f : ℕ) → h.before * (n * s) + ((i * num m + j) * s + f) ≡ h.before * (n / num m * (num m * s)) + (i * (num m * s) + (j * s + f))
      cell i j s f = ap (λ z. h.before * z + ((i * num m + j) * s + f)) (sym (sizes (n / num m) (num m) n s e)) ∙ ap (λ z. h.before * (n / num m * (num m * s)) + z) (sym (parts i (num m) j s f))

      lies : (q : List ℕ) → IsPosition (ArrayOf (n / num m) (ArrayOf (num m) t)) [] q → y [] (operand_position num (Split m) q) ≡ Spot h.array (h.before * size (ArrayOf (n / num m) (ArrayOf (num m) t)) + flat (ArrayOf (n / num m) (ArrayOf (num m) t)) q)
      lies [] w = absurd w
      lies (i ∷ []) w = absurd w.1
      lies (i ∷ j ∷ q) w = h.lies ((i * num m + j) ∷ q) (in_rows i j (num m) n e w.0 w.1.0, w.1.1) ∙ ap (λ c. Spot h.array c) (cell i j (size t) (flat t q))

      number : (b k i : ℕ) → k ≡ n / num m → b * (n * 1) + ((i * num m + 0) * 1 + 0) ≡ num m * (b * (k * 1) + (i * 1 + 0))
      number b k i d =
          let p : n / num m * num m ≡ n = e in
          ap (λ z. b * (z * 1) + ((i * num m + 0) * 1 + 0)) (sym e) ∙ ap (λ z. b * (z * num m * 1) + ((i * num m + 0) * 1 + 0)) (sym d) ∙ turned b k i (num m)
        where
          turned : (b k i m : ℕ) → b * (k * m * 1) + ((i * m + 0) * 1 + 0) ≡ m * (b * (k * 1) + (i * 1 + 0))
          turned b k i m = grind arith

      cell_of : (k1 k2 b i j s f : ℕ) → k1 ≡ n / num m → k2 ≡ num m → b * (n * s) + ((i * num m + j) * s + f) ≡ b * (k1 * (k2 * s)) + (i * (k2 * s) + (j * s + f))
      cell_of k1 k2 b i j s f d c =
          ap (λ z. b * z + ((i * num m + j) * s + f)) (sym (sizes (n / num m) (num m) n s e)) ∙ ap (λ z. b * (n / num m * (num m * s)) + z) (sym (parts i (num m) j s f))
          ∙ ap (λ z. b * (z * (num m * s)) + (i * (num m * s) + (j * s + f))) (sym d) ∙ ap (λ z. b * (k1 * (z * s)) + (i * (z * s) + (j * s + f))) (sym c)

      shows : (o : Ty) → IsOuter o (ArrayOf (n / num m) (ArrayOf (num m) t)) → HasCells l item ts o (view_of_rows (spell m) x) (λ cs q. Spot h.array (h.before * size o + flat o q))
      shows Scalar u us [] [] [] w g = h.shows Scalar (subst (λ z. 0 < z) (sizes (n / num m) (num m) n (size t) e) u) us [] [] [] tt tt
      shows Scalar u us [] (f ∷ fs) [] w g = absurd g
      shows Scalar u us [] is (j ∷ q) w g = absurd w
      shows Scalar u us (c ∷ cs) is q w g = absurd w
      shows (ArrayOf k Scalar) u us cs is [] w g = absurd w
      shows (ArrayOf k Scalar) u us [] [] (i ∷ []) w g = absurd g
      shows (ArrayOf k Scalar) u us [] (f ∷ f2 ∷ fs) (i ∷ []) w g = absurd g.1
      shows (ArrayOf k Scalar) u us [] (f ∷ []) (i ∷ []) w g =
          let ts2 = ts ++ us in
          let lt : i < n / num m = subst (λ z. i < z) u.0 w.0 in
          let in_n = in_rows i 0 (num m) n e lt pos in
          let a = means_cell l item num spell spelled ts2 f (spell m) (Number 0) i 0 (num m) n pos g.0 (means_spell l item num spell spelled ts2 m short) (means_number l item num spell spelled ts2 0 (omega arith)) in_n (omega arith) in
          let c = h.shows (ArrayOf n Scalar) (refl, product_pos 1 (num m) (size t) (let z = u.1 in omega arith)) us [] (cell_in_rows f (spell m) (Number 0) ∷ []) ((i * num m + 0) ∷ []) (in_n, tt) (a, tt) in
          row_cell ts2 f (spell m) i (num m) (h.before * (k * 1) + (i * 1 + 0)) (x [] (cell_in_rows f (spell m) (Number 0) ∷ [])) h.array (h.before * (n * 1) + ((i * num m + 0) * 1 + 0)) pos (omega arith) g.0 (means_spell l item num spell spelled ts2 m short) (number h.before k i u.0) c
      shows (ArrayOf k Scalar) u us [] is (i ∷ j ∷ q) w g = absurd w.1
      shows (ArrayOf k Scalar) u us (c ∷ cs) is (i ∷ q) w g = absurd w.1
      shows (ArrayOf k (ArrayOf k2 o)) u us cs is [] w g = absurd w
      shows (ArrayOf k (ArrayOf k2 o)) u us cs is (i ∷ []) w g = absurd w.1
      shows (ArrayOf k (ArrayOf k2 o)) u us cs [] (i ∷ j ∷ q) w g = absurd g
      shows (ArrayOf k (ArrayOf k2 o)) u us cs (f ∷ []) (i ∷ j ∷ q) w g = absurd g.1
      shows (ArrayOf k (ArrayOf k2 o)) u us cs (f ∷ f2 ∷ fs) (i ∷ j ∷ q) w g =
          let ts2 = ts ++ us in
          let in_n = in_rows i j (num m) n e (subst (λ z. i < z) u.0 w.0) (subst (λ z. j < z) u.1.0 w.1.0) in
          let a = means_cell l item num spell spelled ts2 f (spell m) f2 i j (num m) n pos g.0 (means_spell l item num spell spelled ts2 m short) g.1.0 in_n (omega arith) in
          subst (λ z. IsCell l item ts2 (x cs (cell_in_rows f (spell m) f2 ∷ fs)) (Spot h.array z)) (cell_of k k2 h.before i j (size o) (flat o q) u.0 u.1.0)
          (h.shows (ArrayOf n o) (refl, u.1.1) us cs (cell_in_rows f (spell m) f2 ∷ fs) ((i * num m + j) ∷ q) (in_n, w.1.1) (a, g.1.1))
      shows (ArrayOf k (PairOf a b)) u us cs is q w g = absurd u.1
      shows (PairOf a b) u us cs is q w g = absurd u

  joined_whole : (ts : List ℕ) (m : A) (n k : ℕ) (t : Ty) (x : View) (y : Marks) → 0 < num m → k ≡ num m → num m < 2 ^ 31 → IsWhole l item ts (ArrayOf n (ArrayOf k t)) x y
      → IsWhole l item ts (ArrayOf (n * num m) t) (reshaped_view spell (Join m) x) (λ cs q. y cs (operand_position num (Join m) q))
  joined_whole ts m n k t x y pos d short h = record { array = h.array; before = h.before; lies = lies; shows = shows }
    where
      cell : (i s f : ℕ) → h.before * (n * (k * s)) + (i / num m * (k * s) + (i % num m * s + f)) ≡ h.before * (n * num m * s) + (i * s + f)
      cell i s f =
          ap (λ z. h.before * (n * (z * s)) + (i / num m * (z * s) + (i % num m * s + f))) d
          ∙ ap (λ z. h.before * z + (i / num m * (num m * s) + (i % num m * s + f))) (sym (mul_assoc n (num m) s))
          ∙ ap (λ z. h.before * (n * num m * s) + z) (parts (i / num m) (num m) (i % num m) s f ∙ ap (λ z. z * s + f) (whole i (num m) pos))

      in_two : (i : ℕ) → i < n * num m → (i / num m < n) × (i % num m < k)
      in_two i lt =
          let w = operand_in num (Join m) (ArrayOf n (ArrayOf k Scalar)) (ArrayOf (n * num m) Scalar) [] (i ∷ []) (pos, d, refl) (lt, tt) in
          (w.0, w.1.0)

      lies : (q : List ℕ) → IsPosition (ArrayOf (n * num m) t) [] q → y [] (operand_position num (Join m) q) ≡ Spot h.array (h.before * size (ArrayOf (n * num m) t) + flat (ArrayOf (n * num m) t) q)
      lies [] w = absurd w
      lies (i ∷ q) w = let p = in_two i w.0 in h.lies (i / num m ∷ i % num m ∷ q) (p.0, (p.1, w.1)) ∙ ap (λ c. Spot h.array c) (cell i (size t) (flat t q))

      shows : (o : Ty) → IsOuter o (ArrayOf (n * num m) t) → HasCells l item ts o (reshaped_view spell (Join m) x) (λ cs q. Spot h.array (h.before * size o + flat o q))
      shows Scalar u us [] [] [] w g = h.shows Scalar (subst (λ z. 0 < z) (mul_assoc n (num m) (size t) ∙ ap (λ z. n * (z * size t)) (sym d)) u) us [] [] [] tt tt
      shows Scalar u us [] (f ∷ fs) [] w g = absurd g
      shows Scalar u us [] is (j ∷ q) w g = absurd w
      shows Scalar u us (c ∷ cs) is q w g = absurd w
      shows (ArrayOf a o) u us cs is [] w g = absurd w
      shows (ArrayOf a o) u us cs [] (i ∷ q) w g = absurd g
      shows (ArrayOf a o) u us cs (f ∷ fs) (i ∷ q) w g =
          let ts2 = ts ++ us in
          let p = in_two i (subst (λ z. i < z) u.0 w.0) in
          let c = means_parts l item num spell spelled ts2 f i m g.0 pos short in
          subst (λ z. IsCell l item ts2 (reshaped_view spell (Join m) x cs (f ∷ fs)) (Spot h.array z)) (cell i (size o) (flat o q) ∙ ap (λ z. h.before * (z * size o) + (i * size o + flat o q)) (sym u.0))
          (h.shows (ArrayOf n (ArrayOf k o)) (refl, (refl, u.1)) us cs (operand_indices spell (Join m) (f ∷ fs)) (i / num m ∷ i % num m ∷ q) (p.0, (p.1, w.1)) (c.0, (c.1, g.1)))
      shows (PairOf a b) u us cs is q w g = absurd u

  -- ---- vectors in fours, through any layout around them

  -- a layout leads positions and what is behind them
  behind : (y : Layout A) (t u : Ty) (q : List ℕ) (j : ℕ) → Reshapes num y t u → IsPosition u [] q → operand_position num y (q ++ j ∷ []) ≡ operand_position num y q ++ j ∷ []
  behind (Split m) (ArrayOf n t) u q j rel w = go q (subst (λ z. IsPosition z [] q) rel.2 w)
    where
      go : (q : List ℕ) → IsPosition (ArrayOf (n / num m) (ArrayOf (num m) t)) [] q → operand_position num (Split m) (q ++ j ∷ []) ≡ operand_position num (Split m) q ++ j ∷ []
      go [] w = absurd w
      go (i ∷ []) w = absurd w.1
      go (i ∷ i2 ∷ q) w = refl
  behind (Join m) (ArrayOf n (ArrayOf k t)) u q j rel w = go q (subst (λ z. IsPosition z [] q) rel.2 w)
    where
      go : (q : List ℕ) → IsPosition (ArrayOf (n * num m) t) [] q → operand_position num (Join m) (q ++ j ∷ []) ≡ operand_position num (Join m) q ++ j ∷ []
      go [] w = absurd w
      go (i ∷ q) w = refl
  behind Transpose (ArrayOf n (ArrayOf m t)) u q j rel w = go q (subst (λ z. IsPosition z [] q) rel.1 w)
    where
      go : (q : List ℕ) → IsPosition (ArrayOf m (ArrayOf n t)) [] q → operand_position num Transpose (q ++ j ∷ []) ≡ operand_position num Transpose q ++ j ∷ []
      go [] w = absurd w
      go (i ∷ []) w = absurd w.1
      go (i ∷ i2 ∷ q) w = refl
  behind (Reverse k) (ArrayOf n t) u q j rel w = go q (subst (λ z. IsPosition z [] q) rel.1 w)
    where
      go : (q : List ℕ) → IsPosition (ArrayOf n t) [] q → operand_position num (Reverse k) (q ++ j ∷ []) ≡ operand_position num (Reverse k) q ++ j ∷ []
      go [] w = absurd w
      go (i ∷ q) w = refl
  behind (Slide s k) (ArrayOf n t) u q j rel w = go q (subst (λ z. IsPosition z [] q) rel.3 w)
    where
      go : (q : List ℕ) → IsPosition (ArrayOf ((n - s) / k + 1) (ArrayOf s t)) [] q → operand_position num (Slide s k) (q ++ j ∷ []) ≡ operand_position num (Slide s k) q ++ j ∷ []
      go [] w = absurd w
      go (i ∷ []) w = absurd w.1
      go (i ∷ i2 ∷ q) w = refl
  behind (Pad a b k) (ArrayOf n t) u q j rel w = go q (subst (λ z. IsPosition z [] q) rel.2 w)
    where
      go : (q : List ℕ) → IsPosition (ArrayOf (a + n + b) t) [] q → operand_position num (Pad a b k) (q ++ j ∷ []) ≡ operand_position num (Pad a b k) q ++ j ∷ []
      go [] w = absurd w
      go (i ∷ q) w = refl
  behind _ t u q j rel w = absurd (assumption)

  read_fours : (y : Layout A) (ts ns ms : List ℕ) (x : View) (e : Marks) → HasWordStep y → Reshapes num y (in_arrays ns Scalar) (in_arrays ms Scalar) → IsShort (in_arrays ns four) → IsShort (in_arrays ms four) → AreFours l item ts ns x e
      → AreFours l item ts ms (reshaped_view spell y x) (λ cs q. e cs (operand_position num y q))
  read_fours y ts ns ms x e step rel sn sm h = record {
    array = h.array;
    offset = λ q. h.offset (operand_position num y q);
    lies = λ q w. record {
      at = λ j lt. ap (e []) (behind y (in_arrays ns Scalar) (in_arrays ms Scalar) q j rel w) ∙ (h.lies (operand_position num y q) (operand_in num y (in_arrays ns Scalar) (in_arrays ms Scalar) [] q rel w)).at j lt;
    };
    shows = moved_cells l item num spell spelled ts y (in_arrays ns Scalar) (in_arrays ms Scalar) x (λ cs q. Spot h.array (h.offset q)) step rel (arrays_short ns sn) (arrays_short ms sm) h.shows;
  }

  -- the arrays around, before a layout

  around_split : (m : A) (t u v : Ty) (a b : ℕ) (ms : List ℕ) → Reshapes num (Split m) t u → u ≡ ArrayOf a (ArrayOf b (in_arrays ms v)) → (n : ℕ) × (t ≡ ArrayOf n (in_arrays ms v)) × ((w : Ty) → Reshapes num (Split m) (ArrayOf n (in_arrays ms w)) (ArrayOf a (ArrayOf b (in_arrays ms w))))
  around_split m (ArrayOf n t) u v a b ms rel e =
      let p = sym rel.2 ∙ e in
      let q = array_element (n / num m) a (ArrayOf (num m) t) (ArrayOf b (in_arrays ms v)) p in
      (n, ap (ArrayOf n) (array_element (num m) b t (in_arrays ms v) q), λ w. (rel.0, rel.1, ap (λ z. ArrayOf z (ArrayOf b (in_arrays ms w))) (sym (array_length (n / num m) a (ArrayOf (num m) t) (ArrayOf b (in_arrays ms v)) p)) ∙ ap (λ z. ArrayOf (n / num m) (ArrayOf z (in_arrays ms w))) (sym (array_length (num m) b t (in_arrays ms v) q))))
  around_split m Scalar u v a b ms rel e = absurd rel
  around_split m (PairOf x y) u v a b ms rel e = absurd rel

  around_join : (m : A) (t u v : Ty) (a : ℕ) (ms : List ℕ) → Reshapes num (Join m) t u → u ≡ ArrayOf a (in_arrays ms v) → (n k : ℕ) × (t ≡ ArrayOf n (ArrayOf k (in_arrays ms v))) × ((w : Ty) → Reshapes num (Join m) (ArrayOf n (ArrayOf k (in_arrays ms w))) (ArrayOf a (in_arrays ms w)))
  around_join m (ArrayOf n (ArrayOf k t)) u v a ms rel e =
      let p = sym rel.2 ∙ e in
      (n, k, ap (λ z. ArrayOf n (ArrayOf k z)) (array_element (n * num m) a t (in_arrays ms v) p), λ w. (rel.0, rel.1, ap (λ z. ArrayOf z (in_arrays ms w)) (sym (array_length (n * num m) a t (in_arrays ms v) p))))
  around_join m Scalar u v a ms rel e = absurd rel
  around_join m (PairOf x y) u v a ms rel e = absurd rel
  around_join m (ArrayOf n Scalar) u v a ms rel e = absurd rel
  around_join m (ArrayOf n (PairOf x y)) u v a ms rel e = absurd rel

  around_transpose : (t u v : Ty) (a b : ℕ) (ms : List ℕ) → Reshapes num Transpose t u → u ≡ ArrayOf a (ArrayOf b (in_arrays ms v)) → (t ≡ ArrayOf b (ArrayOf a (in_arrays ms v))) × ((w : Ty) → Reshapes num Transpose (ArrayOf b (ArrayOf a (in_arrays ms w))) (ArrayOf a (ArrayOf b (in_arrays ms w))))
  around_transpose (ArrayOf n (ArrayOf m t)) u v a b ms rel e =
      let p = sym rel.1 ∙ e in
      let x = array_length m a (ArrayOf n t) (ArrayOf b (in_arrays ms v)) p in
      let q = array_element m a (ArrayOf n t) (ArrayOf b (in_arrays ms v)) p in
      let y = array_length n b t (in_arrays ms v) q in
      (ap (λ z. ArrayOf z (ArrayOf m t)) y ∙ ap (λ z. ArrayOf b (ArrayOf z t)) x ∙ ap (λ z. ArrayOf b (ArrayOf a z)) (array_element n b t (in_arrays ms v) q), λ w. (subst (λ z. 0 < z) y rel.0, refl))
  around_transpose Scalar u v a b ms rel e = absurd rel
  around_transpose (PairOf x y) u v a b ms rel e = absurd rel
  around_transpose (ArrayOf n Scalar) u v a b ms rel e = absurd rel
  around_transpose (ArrayOf n (PairOf x y)) u v a b ms rel e = absurd rel

  around_reverse : (k : A) (t u v : Ty) (a : ℕ) (ms : List ℕ) → Reshapes num (Reverse k) t u → u ≡ ArrayOf a (in_arrays ms v) → (t ≡ ArrayOf a (in_arrays ms v)) × ((w : Ty) → Reshapes num (Reverse k) (ArrayOf a (in_arrays ms w)) (ArrayOf a (in_arrays ms w)))
  around_reverse k (ArrayOf n t) u v a ms rel e = let p = sym rel.1 ∙ e in (p, λ w. (rel.0 ∙ array_length n a t (in_arrays ms v) p, refl))
  around_reverse k Scalar u v a ms rel e = absurd rel
  around_reverse k (PairOf x y) u v a ms rel e = absurd rel

  around_slide : (s k : ℕ) (t u v : Ty) (a b : ℕ) (ms : List ℕ) → Reshapes num (Slide s k) t u → u ≡ ArrayOf a (ArrayOf b (in_arrays ms v)) → (n : ℕ) × (t ≡ ArrayOf n (in_arrays ms v)) × ((w : Ty) → Reshapes num (Slide s k) (ArrayOf n (in_arrays ms w)) (ArrayOf a (ArrayOf b (in_arrays ms w))))
  around_slide s k (ArrayOf n t) u v a b ms rel e =
      let p = sym rel.3 ∙ e in
      let q = array_element ((n - s) / k + 1) a (ArrayOf s t) (ArrayOf b (in_arrays ms v)) p in
      (n, ap (ArrayOf n) (array_element s b t (in_arrays ms v) q), λ w. (rel.0, rel.1, rel.2, ap (λ z. ArrayOf z (ArrayOf b (in_arrays ms w))) (sym (array_length ((n - s) / k + 1) a (ArrayOf s t) (ArrayOf b (in_arrays ms v)) p)) ∙ ap (λ z. ArrayOf ((n - s) / k + 1) (ArrayOf z (in_arrays ms w))) (sym (array_length s b t (in_arrays ms v) q))))
  around_slide s k Scalar u v a b ms rel e = absurd rel
  around_slide s k (PairOf x y) u v a b ms rel e = absurd rel

  around_pad : (c d : ℕ) (k : A) (t u v : Ty) (a : ℕ) (ms : List ℕ) → Reshapes num (Pad c d k) t u → u ≡ ArrayOf a (in_arrays ms v) → (n : ℕ) × (t ≡ ArrayOf n (in_arrays ms v)) × ((w : Ty) → Reshapes num (Pad c d k) (ArrayOf n (in_arrays ms w)) (ArrayOf a (in_arrays ms w)))
  around_pad c d k (ArrayOf n t) u v a ms rel e =
      let p = sym rel.2 ∙ e in
      (n, ap (ArrayOf n) (array_element (c + n + d) a t (in_arrays ms v) p), λ w. (rel.0, rel.1, ap (λ z. ArrayOf z (in_arrays ms w)) (sym (array_length (c + n + d) a t (in_arrays ms v) p))))
  around_pad c d k Scalar u v a ms rel e = absurd rel
  around_pad c d k (PairOf x y) u v a ms rel e = absurd rel

  pub read_lies : (y : Layout A) (z : Lie) (ts : List ℕ) (t u : Ty) (x : View) (e : Marks) → HasWordStep y → Reshapes num y t u → IsShort t → IsShort u → LiesAs l item z ts t x e → LiesAs l item (read_lie y z) ts u (reshaped_view spell y x) (λ cs q. e cs (operand_position num y q))
  read_lies (Split m) Whole ts (ArrayOf n t) u x e step rel st su h = subst (λ z. IsWhole l item ts z (reshaped_view spell (Split m) x) (λ cs q. e cs (operand_position num (Split m) q))) (sym rel.2) (rows_whole ts m n t x e rel.0 rel.1 st.0 (subst IsShort rel.2 su).1.0 h)
  read_lies (Join m) Whole ts (ArrayOf n (ArrayOf k t)) u x e step rel st su h =
      subst (λ z. IsWhole l item ts z (reshaped_view spell (Join m) x) (λ cs q. e cs (operand_position num (Join m) q))) (sym rel.2) (joined_whole ts m n k t x e rel.0 rel.1 (subst (λ z. z < 2 ^ 31) rel.1 st.1.0) h)
  read_lies (Split m) (InFours (suc k)) ts t u x e step rel st su h = go
    where
      go : LiesAs l item (InFours (suc (suc k))) ts u (reshaped_view spell (Split m) x) (λ cs q. e cs (operand_position num (Split m) q))
      go [] d is = absurd (cc)
      go (a ∷ []) d is = absurd (cc)
      go (a ∷ b ∷ ms) d is = let p = around_split m t u four a b ms rel is in read_fours (Split m) ts (p.0 ∷ ms) (a ∷ b ∷ ms) x e tt (p.2 Scalar) (subst IsShort p.1 st) (subst IsShort is su) (h (p.0 ∷ ms) (let c = d in omega arith) p.1)
  read_lies (Join m) (InFours (suc (suc k))) ts t u x e step rel st su h = go
    where
      go : LiesAs l item (InFours (suc k)) ts u (reshaped_view spell (Join m) x) (λ cs q. e cs (operand_position num (Join m) q))
      go [] d is = absurd (cc)
      go (a ∷ ms) d is = let p = around_join m t u four a ms rel is in read_fours (Join m) ts (p.0 ∷ p.1 ∷ ms) (a ∷ ms) x e tt (p.3 Scalar) (subst IsShort p.2 st) (subst IsShort is su) (h (p.0 ∷ p.1 ∷ ms) (let c = d in omega arith) p.2)
  read_lies Transpose (InFours (suc (suc k))) ts t u x e step rel st su h = go
    where
      go : LiesAs l item (InFours (suc (suc k))) ts u (reshaped_view spell Transpose x) (λ cs q. e cs (operand_position num Transpose q))
      go [] d is = absurd (cc)
      go (a ∷ []) d is = absurd (cc)
      go (a ∷ b ∷ ms) d is = let p = around_transpose t u four a b ms rel is in read_fours Transpose ts (b ∷ a ∷ ms) (a ∷ b ∷ ms) x e tt (p.1 Scalar) (subst IsShort p.0 st) (subst IsShort is su) (h (b ∷ a ∷ ms) d p.0)
  read_lies (Reverse c) (InFours (suc k)) ts t u x e step rel st su h = go
    where
      go : LiesAs l item (InFours (suc k)) ts u (reshaped_view spell (Reverse c) x) (λ cs q. e cs (operand_position num (Reverse c) q))
      go [] d is = absurd (cc)
      go (a ∷ ms) d is = let p = around_reverse c t u four a ms rel is in read_fours (Reverse c) ts (a ∷ ms) (a ∷ ms) x e tt (p.1 Scalar) (subst IsShort p.0 st) (subst IsShort is su) (h (a ∷ ms) d p.0)
  read_lies (Slide s c) (InFours (suc k)) ts t u x e step rel st su h = go
    where
      go : LiesAs l item (InFours (suc (suc k))) ts u (reshaped_view spell (Slide s c) x) (λ cs q. e cs (operand_position num (Slide s c) q))
      go [] d is = absurd (cc)
      go (a ∷ []) d is = absurd (cc)
      go (a ∷ b ∷ ms) d is = let p = around_slide s c t u four a b ms rel is in read_fours (Slide s c) ts (p.0 ∷ ms) (a ∷ b ∷ ms) x e step (p.2 Scalar) (subst IsShort p.1 st) (subst IsShort is su) (h (p.0 ∷ ms) (let c = d in omega arith) p.1)
  read_lies (Pad b r c) (InFours (suc k)) ts t u x e step rel st su h = go
    where
      go : LiesAs l item (InFours (suc k)) ts u (reshaped_view spell (Pad b r c) x) (λ cs q. e cs (operand_position num (Pad b r c) q))
      go [] d is = absurd (cc)
      go (a ∷ ms) d is = let p = around_pad b r c t u four a ms rel is in read_fours (Pad b r c) ts (p.0 ∷ ms) (a ∷ ms) x e tt (p.2 Scalar) (subst IsShort p.1 st) (subst IsShort is su) (h (p.0 ∷ ms) d p.1)
  read_lies (Split m) Whole ts Scalar u x e step rel st su h = absurd rel
  read_lies (Split m) Whole ts (PairOf a b) u x e step rel st su h = absurd rel
  read_lies (Join m) Whole ts Scalar u x e step rel st su h = absurd rel
  read_lies (Join m) Whole ts (PairOf a b) u x e step rel st su h = absurd rel
  read_lies (Join m) Whole ts (ArrayOf n Scalar) u x e step rel st su h = absurd rel
  read_lies (Join m) Whole ts (ArrayOf n (PairOf a b)) u x e step rel st su h = absurd rel
  read_lies _ _ ts t u x e step rel st su h = tt

  split_back : (m : A) (t u : Ty) → Reshapes num (Split m) t u → Reshapes num (Join m) u t
  split_back m (ArrayOf n t) u rel = subst (λ z. Reshapes num (Join m) z (ArrayOf n t)) (sym rel.2) (rel.0, refl, ap (λ z. ArrayOf z t) (sym rel.1))
  split_back m Scalar u rel = absurd rel
  split_back m (PairOf a b) u rel = absurd rel

  join_back : (m : A) (t u : Ty) → Reshapes num (Join m) t u → Reshapes num (Split m) u t
  join_back m (ArrayOf n (ArrayOf k t)) u rel =
      let e : n * num m / num m ≡ n = mul-div_cancel n rel.0 in
      subst (λ z. Reshapes num (Split m) z (ArrayOf n (ArrayOf k t))) (sym rel.2)
      (rel.0, ap (λ z. z * num m) e, ap (λ z. ArrayOf z (ArrayOf k t)) (sym e) ∙ ap (λ z. ArrayOf (n * num m / num m) (ArrayOf z t)) rel.1)
  join_back m Scalar u rel = absurd rel
  join_back m (PairOf a b) u rel = absurd rel
  join_back m (ArrayOf n Scalar) u rel = absurd rel
  join_back m (ArrayOf n (PairOf a b)) u rel = absurd rel

  reverse_back : (k : A) (t u : Ty) → Reshapes num (Reverse k) t u → Reshapes num (Reverse k) u t
  reverse_back k (ArrayOf n t) u rel = subst (λ z. Reshapes num (Reverse k) z (ArrayOf n t)) (sym rel.1) (rel.0, refl)
  reverse_back k Scalar u rel = absurd rel
  reverse_back k (PairOf a b) u rel = absurd rel

  -- where there are no columns there is nothing
  transposed_fours : (ts : List ℕ) (a b : ℕ) (ms : List ℕ) (v : View) (w : Marks) → 0 < b → IsShort (in_arrays (a ∷ b ∷ ms) four) → IsShort (in_arrays (b ∷ a ∷ ms) four) → AreFours l item ts (b ∷ a ∷ ms) v w → AreFours l item ts (a ∷ b ∷ ms) (reshaped_view spell Transpose v) (λ cs q. w cs (operand_position num Transpose q))
  transposed_fours ts a b ms v w pos sa sb h = read_fours Transpose ts (b ∷ a ∷ ms) (a ∷ b ∷ ms) v w tt (pos, refl) sb sa h

  no_fours : (ts : List ℕ) (a b : ℕ) (ms : List ℕ) (v : View) (w : Marks) → b ≡ 0 → AreFours l item ts (a ∷ b ∷ ms) v w
  no_fours ts a b ms v w none = record { array = Input 0; offset = λ q. 0; lies = λ q i. absurd (nowhere q [] i); shows = λ us cs is q i g. absurd (nowhere q cs i) }
    where
      nowhere : (q : List ℕ) (cs : List Bool) → IsPosition (in_arrays (a ∷ b ∷ ms) Scalar) cs q → ⊥
      nowhere [] cs i = absurd i
      nowhere (x ∷ []) cs i = absurd i.1
      nowhere (x ∷ y ∷ q) cs i = let z = i.1.0 in absurd (omega arith)

  pub written_lies : (y : Layout A) (z : Lie) (ts : List ℕ) (t u : Ty) (v : View) (w : Marks) → IsInvertible y → Reshapes num y t u → IsShort t → IsShort u → LiesAs l item z ts u v w → LiesAs l item (written_lie y z) ts t (rewritten_view spell y v) (λ cs q. w cs (result_position num y q))
  written_lies (Split m) z ts t u v w turn rel st su h = read_lies (Join m) z ts u t v w tt (split_back m t u rel) su st h
  written_lies (Join m) z ts t u v w turn rel st su h = read_lies (Split m) z ts u t v w tt (join_back m t u rel) su st h
  written_lies (Reverse k) z ts t u v w turn rel st su h = read_lies (Reverse k) z ts u t v w tt (reverse_back k t u rel) su st h
  written_lies Transpose (InFours (suc (suc k))) ts (ArrayOf n (ArrayOf m t)) u v w turn rel st su h = go
    where
      go : LiesAs l item (InFours (suc (suc k))) ts (ArrayOf n (ArrayOf m t)) (rewritten_view spell Transpose v) (λ cs q. w cs (result_position num Transpose q))
      go [] d is = absurd (cc)
      go (a ∷ []) d is = absurd (cc)
      go (a ∷ b ∷ ms) d is =
          let x = array_length n a (ArrayOf m t) (ArrayOf b (in_arrays ms four)) is in
          let q = array_element n a (ArrayOf m t) (ArrayOf b (in_arrays ms four)) is in
          let y = array_length m b t (in_arrays ms four) q in
          let e : u ≡ in_arrays (b ∷ a ∷ ms) four = rel.1 ∙ ap (λ z. ArrayOf z (ArrayOf n t)) y ∙ ap (λ z. ArrayOf b (ArrayOf z t)) x ∙ ap (λ z. ArrayOf b (ArrayOf a z)) (array_element m b t (in_arrays ms four) q) in
          some b refl e
        where
          some : (c : ℕ) → b ≡ c → u ≡ in_arrays (b ∷ a ∷ ms) four → AreFours l item ts (a ∷ b ∷ ms) (rewritten_view spell Transpose v) (λ cs q. w cs (result_position num Transpose q))
          some zero z e = no_fours ts a b ms (rewritten_view spell Transpose v) (λ cs q. w cs (result_position num Transpose q)) z
          some (suc c) z e = transposed_fours ts a b ms v w (omega arith) (subst IsShort is st) (subst IsShort e su) (h (b ∷ a ∷ ms) d e)
  written_lies Transpose (InFours (suc (suc k))) ts Scalar u v w turn rel st su h = absurd rel
  written_lies Transpose (InFours (suc (suc k))) ts (PairOf a b) u v w turn rel st su h = absurd rel
  written_lies Transpose (InFours (suc (suc k))) ts (ArrayOf n Scalar) u v w turn rel st su h = absurd rel
  written_lies Transpose (InFours (suc (suc k))) ts (ArrayOf n (PairOf a b)) u v w turn rel st su h = absurd rel
  written_lies Transpose (InFours (suc zero)) ts t u v w turn rel st su h = tt
  written_lies Transpose (InFours zero) ts t u v w turn rel st su h = tt
  written_lies Transpose Held ts t u v w turn rel st su h = tt
  written_lies Transpose Loose ts t u v w turn rel st su h = tt
  written_lies Transpose Whole ts t u v w turn rel st su h = tt
  written_lies (Slide s k) z ts t u v w turn rel st su h = absurd turn
  written_lies (Pad a b k) z ts t u v w turn rel st su h = absurd turn

-- ---- what is laid in arrays of literal lengths
pub laid_whole : (l : Launch) (item : ℕ) (ts : List ℕ) (form : ℕ → Array) (first : ℕ) (t : Ty) → IsShort t → size t < 2 ^ 31 → IsWhole l item ts t (laid_view form first t) (laid_in form first t)
laid_whole l item ts form first t sh small =
    let e = measured_same t in
    subst (λ z. IsWhole l item ts z (laid_view form first t) (laid_in form first z)) e
    (placed_whole l item (λ n. n) Number (λ n lt. (refl, λ k ts vs. refl)) ts form first t (subst IsShort (sym e) sh) (subst (λ z. size z < 2 ^ 31) (sym e) small))
