-- The indices that views name, where they are given indices of so many nodes, are spelled index
-- expressions of no more nodes than the formulas put into one another.
use Rattle.std.proofs.Common.{◌≡◌, ℕ, ◌+◌, Bool, true, false, List, [], ◌∷◌, Option, Some, None, refl, arith}
use Rattle.std.specs.Prelude.{if◌then◌else◌, max, option_map}
use Rattle.size_arith.specs.declared.names.Name.{Name}
use Rattle.scalar_ops.specs.declared.op.Op.TheVariants.{Add, Sub, Mul, Div, Max}
use Rattle.kernel_tree.specs.Formula.{Formula, Number, Binary}
use Rattle.kernel_tree.specs.Code.{Array}
use Rattle.lift_ir.specs.Types.{Shape, Ty, Scalar, PairOf, ArrayOf}
use Rattle.lift_ir.specs.Layouts.{Layout, Split, Join, Transpose, Reverse, Slide, Pad}
use Rattle.lift_ir.specs.Terms.{LoadSet, Skip, Take, TakeFour, Each}
use Rattle.lift_ir.specs.Scalars.{by_side}
use Rattle.index_expr.specs.Expression.{Expression, short_nodes}
use Rattle.printed_form.specs.Counts.{Count, more, held_count, load_count}
use Rattle.printed_form.specs.Views.{Sign, Blank, Held, HeldFour, Read, View, held_view, loaded_view, view_at, same_formula, are_parts, dividend, cell_in_rows, row_number, row_sign, view_of_rows, operand_indices, result_indices, reshaped_view, rewritten_view, index_from, index_in, placed_view}
use Rattle.array_views.specs.Arrays.{spelled_shape}
use Rattle.array_views.specs.Layouts.{spelled_layout}
use Rattle.array_views.specs.NodeCounts.{operand_nodes, result_nodes, row_major_nodes, placed_nodes}
use Rattle.tidy_printed.specs.Limits.{IndexNodes, no_index, at_one_node, after_loads, array_nodes, read_through, written_through}
use Rattle.tidy_printed.proofs.Formulas.{Spelled, Index, wider, divided, spelled_number, index_number, sum, difference, product, least, greatest, quotient, remainder}

module _ (names : List Name) where
  abbrev pub AllIndices : List ℕ → List Formula → Type 0
  AllIndices [] [] = Unit {0}
  AllIndices (n ∷ ns) (i ∷ is) = Index names n i × AllIndices ns is
  AllIndices _ _ = ⊥

  -- a cell's index has so many nodes; what no cell holds has none
  abbrev pub NamesIndex : Option ℕ → Sign → Type 0
  NamesIndex None Blank = Unit {0}
  NamesIndex None (Held v) = Unit {0}
  NamesIndex None (HeldFour v) = Unit {0}
  NamesIndex (Some n) (Read a i) = Index names n i
  NamesIndex _ _ = ⊥

  abbrev pub IsIndexed : IndexNodes → View → Type 0
  IsIndexed w v = (cs : List Bool) (ns : List ℕ) (is : List Formula) → AllIndices ns is → NamesIndex (w cs ns) (v cs is)

  pub blank_indexed : IsIndexed no_index (λ cs is. Blank)
  blank_indexed cs ns is h = tt

  pub sides_indexed : (m n : IndexNodes) (x y : View) → IsIndexed m x → IsIndexed n y → IsIndexed (by_side (λ ns. None) m n) (by_side (λ is. Blank) x y)
  sides_indexed m n x y g w = go where
    go : IsIndexed (by_side (λ ns. None) m n) (by_side (λ is. Blank) x y)
    go [] ns is h = tt
    go (false ∷ cs) ns is h = g cs ns is h
    go (true ∷ cs) ns is h = w cs ns is h

  pub part_indexed : (m : IndexNodes) (x : View) (s : Bool) → IsIndexed m x → IsIndexed (λ cs ns. m (s ∷ cs) ns) (λ cs is. x (s ∷ cs) is)
  part_indexed m x s g = λ cs ns is h. g (s ∷ cs) ns is h

  pub turned_indexed : (i : Formula) (m : IndexNodes) (x : View) → Index names 1 i → IsIndexed m x → IsIndexed (at_one_node m) (view_at i x)
  turned_indexed i m x p g = λ cs ns is h. g cs (1 ∷ ns) (i ∷ is) (p, h)

  no_sides : (x y : View) → IsIndexed no_index x → IsIndexed no_index y → IsIndexed no_index (by_side (λ is. Blank) x y)
  no_sides x y g w [] ns is h = tt
  no_sides x y g w (false ∷ cs) ns is h = g cs ns is h
  no_sides x y g w (true ∷ cs) ns is h = w cs ns is h

  pub held_indexed : (ty : Ty) (n : Count) → IsIndexed no_index (held_view ty n)
  held_indexed Scalar n = λ cs ns is h. tt
  held_indexed (PairOf x y) n = no_sides (held_view x n) (held_view y (more n (held_count x))) (held_indexed x n) (held_indexed y (more n (held_count x)))
  held_indexed (ArrayOf j t) n = λ cs ns is h. tt

  pub loaded_indexed : (ls : LoadSet) (m : IndexNodes) (x : View) (n : Count) → IsIndexed m x → IsIndexed (after_loads ls m) (loaded_view ls x n)
  loaded_indexed Skip m x n g = g
  loaded_indexed Take m x n g = λ cs ns is h. tt
  loaded_indexed TakeFour m x n g = λ cs ns is h. tt
  loaded_indexed (Each y z) m x n g =
      sides_indexed (after_loads y (λ cs. m (false ∷ cs))) (after_loads z (λ cs. m (true ∷ cs))) (loaded_view y (λ cs. x (false ∷ cs)) n) (loaded_view z (λ cs. x (true ∷ cs)) (more n (load_count y)))
      (loaded_indexed y (λ cs. m (false ∷ cs)) (λ cs. x (false ∷ cs)) n (part_indexed m x false g)) (loaded_indexed z (λ cs. m (true ∷ cs)) (λ cs. x (true ∷ cs)) (more n (load_count y)) (part_indexed m x true g))

  -- ---- layouts and arrays, whose lengths are spelled so
  cell : (a l b : ℕ) (i m j : Formula) → Index names a i → Spelled names l m → Index names b j → Index names (a + l + 1 + b + 1) (Binary Add (Binary Mul i m) j)
  cell a l b i m j x s y = (sum names (a + l + 1) b (Binary Mul i m) j (product names a l i m x.0 s) y.0, tt)

  -- the row and the column of one index
  whole : (a n : ℕ) (i m j : Formula) → are_parts i m j ≡ true → Index names a i → Index names (a + n) (dividend i)
  whole a n (Binary Div e d) m j h x = (wider names a (a + n) e (omega arith) (divided names a e d x.0), x.1)
  whole a n _ m j h x = absurd (cc h)

  cell_or_whole : (a l b : ℕ) (i m j : Formula) → Index names a i → Spelled names l m → Index names b j → Index names (a + l + 1 + b + 1) (cell_in_rows i m j)
  cell_or_whole a l b i m j x s y = go (are_parts i m j) refl
    where
      whole_within : Index names (a + (l + 1 + b + 1)) (dividend i) → Index names (a + l + 1 + b + 1) (dividend i)
      whole_within w = (wider names (a + (l + 1 + b + 1)) (a + l + 1 + b + 1) (dividend i) (omega arith) w.0, w.1)

      go : (p : Bool) → are_parts i m j ≡ p → Index names (a + l + 1 + b + 1) (if p then dividend i else Binary Add (Binary Mul i m) j)
      go true e = whole_within (whole a (l + 1 + b + 1) i m j e x)
      go false e = cell a l b i m j x s y

  -- the number of a row
  numbered : (a l n : ℕ) (i m f : Formula) → Index names a i → Spelled names l m → Index names n f → Index names (max a (n + l + 1)) (row_number i m f)
  numbered a l n i m f x s y = go (same_formula f (Binary Add (Binary Mul i m) (Number 0))) where
    go : (b : Bool) → Index names (max a (n + l + 1)) (if b then i else Binary Div f m)
    go true = (wider names a (max a (n + l + 1)) i (omega arith) x.0, x.1)
    go false = (wider names (n + l + 1) (max a (n + l + 1)) (Binary Div f m) (omega arith) (quotient names n l f m y s), y.1)

  row_indexed : (a l : ℕ) (i m : Formula) (first : Option ℕ) (s : Sign) → Index names a i → Spelled names l m → NamesIndex first s → NamesIndex (option_map (λ f. max a (f + l + 1)) first) (row_sign i m s)
  row_indexed a l i m None Blank x s g = tt
  row_indexed a l i m None (Held v) x s g = tt
  row_indexed a l i m None (HeldFour v) x s g = tt
  row_indexed a l i m (Some n) (Read b f) x s g = numbered a l n i m f x s g
  row_indexed a l i m _ _ x s g = absurd g

  clamped : (a l : ℕ) (i n : Formula) (c : ℕ) → Index names a i → Spelled names l n → Spelled names (a + 1 + 1 + 1 + 1) (Binary Sub (Binary Max i (Number c)) (Number c)) × Spelled names (l + 1 + 1) (Binary Sub n (Number 1))
  clamped a l i n c x s =
      let number = spelled_number names c in
      (difference names (a + 1 + 1) 1 (Binary Max i (Number c)) (Number c) (greatest names a 1 i (Number c) x.0 number) number, difference names l 1 n (Number 1) s (spelled_number names 1))

  module _ {A : Type 0} (spell : A → Expression) (text : A → Formula) (lengths : (n : A) → Spelled names (short_nodes (spell n)) (text n)) where
    abbrev length_nodes : A → ℕ
    length_nodes n = short_nodes (spell n)

    operand_all : (y : Layout A) (ns : List ℕ) (is : List Formula) → AllIndices ns is → AllIndices (operand_nodes short_nodes (spelled_layout spell y) ns) (operand_indices text y is)
    operand_all (Split m) [] [] g = g
    operand_all (Split m) (a ∷ []) (i ∷ []) g = g
    operand_all (Split m) (a ∷ b ∷ ns) (i ∷ j ∷ p) g = (cell_or_whole a (length_nodes m) b i (text m) j g.0 (lengths m) g.1.0, g.1.1)
    operand_all (Join m) [] [] g = g
    operand_all (Join m) (a ∷ ns) (i ∷ p) g = ((quotient names a (length_nodes m) i (text m) g.0 (lengths m), g.0.1), ((remainder names a (length_nodes m) i (text m) g.0.0 (lengths m), tt), g.1))
    operand_all Transpose [] [] g = g
    operand_all Transpose (a ∷ []) (i ∷ []) g = g
    operand_all Transpose (a ∷ b ∷ ns) (i ∷ j ∷ p) g = (g.1.0, (g.0, g.1.1))
    operand_all (Reverse n) [] [] g = g
    operand_all (Reverse n) (a ∷ ns) (i ∷ p) g =
        let last = difference names (length_nodes n) 1 (text n) (Number 1) (lengths n) (spelled_number names 1) in
        ((difference names (length_nodes n + 1 + 1) a (Binary Sub (text n) (Number 1)) i last g.0.0, tt), g.1)
    operand_all (Slide s t) [] [] g = g
    operand_all (Slide s t) (a ∷ []) (i ∷ []) g = g
    operand_all (Slide s t) (a ∷ b ∷ ns) (i ∷ j ∷ p) g = (cell_or_whole a 1 b i (Number t) j g.0 (spelled_number names t) g.1.0, g.1.1)
    operand_all (Pad l r n) [] [] g = g
    operand_all (Pad l r n) (a ∷ ns) (i ∷ p) g =
        let parts = clamped a (length_nodes n) i (text n) l g.0 (lengths n) in
        ((least names (a + 1 + 1 + 1 + 1) (length_nodes n + 1 + 1) (Binary Sub (Binary Max i (Number l)) (Number l)) (Binary Sub (text n) (Number 1)) parts.0 parts.1, tt), g.1)
    operand_all y _ _ g = absurd (assumption)

    result_all : (y : Layout A) (ns : List ℕ) (is : List Formula) → AllIndices ns is → AllIndices (result_nodes short_nodes (spelled_layout spell y) ns) (result_indices text y is)
    result_all (Split m) ns is g = operand_all (Join m) ns is g
    result_all (Join m) ns is g = operand_all (Split m) ns is g
    result_all Transpose ns is g = operand_all Transpose ns is g
    result_all (Reverse n) ns is g = operand_all (Reverse n) ns is g
    result_all (Slide s t) ns is g = g
    result_all (Pad l r n) ns is g = g

    -- what rows of this length name, a row asked for whole by its number
    rows_indexed : (l : A) (m : IndexNodes) (x : View) → IsIndexed m x → IsIndexed (read_through spell (Split l) m) (view_of_rows (text l) x)
    rows_indexed l m x g cs [] [] h = g cs [] [] h
    rows_indexed l m x g cs (a ∷ []) (i ∷ []) h =
        row_indexed a (length_nodes l) i (text l) (m cs ((a + length_nodes l + 1 + 1 + 1) ∷ [])) (x cs (cell_in_rows i (text l) (Number 0) ∷ [])) h.0 (lengths l)
        (g cs ((a + length_nodes l + 1 + 1 + 1) ∷ []) (cell_in_rows i (text l) (Number 0) ∷ []) (cell_or_whole a (length_nodes l) 1 i (text l) (Number 0) h.0 (lengths l) (index_number names 0), tt))
    rows_indexed l m x g cs (a ∷ b ∷ ns) (i ∷ j ∷ p) h = g cs ((a + length_nodes l + 1 + b + 1) ∷ ns) (cell_in_rows i (text l) j ∷ p) (operand_all (Split l) (a ∷ b ∷ ns) (i ∷ j ∷ p) h)
    rows_indexed l m x g cs _ _ h = absurd (assumption)

    -- where the layout isn't of rows
    through_indexed : (y : Layout A) (m : IndexNodes) (x : View) → IsIndexed m x → IsIndexed (λ cs ns. m cs (operand_nodes short_nodes (spelled_layout spell y) ns)) (λ cs is. x cs (operand_indices text y is))
    through_indexed y m x g = λ cs ns is h. g cs (operand_nodes short_nodes (spelled_layout spell y) ns) (operand_indices text y is) (operand_all y ns is h)

    back_indexed : (y : Layout A) (m : IndexNodes) (x : View) → IsIndexed m x → IsIndexed (λ cs ns. m cs (result_nodes short_nodes (spelled_layout spell y) ns)) (λ cs is. x cs (result_indices text y is))
    back_indexed y m x g = λ cs ns is h. g cs (result_nodes short_nodes (spelled_layout spell y) ns) (result_indices text y is) (result_all y ns is h)

    pub read_indexed : (y : Layout A) (m : IndexNodes) (x : View) → IsIndexed m x → IsIndexed (read_through spell y m) (reshaped_view text y x)
    read_indexed (Split l) m x g = rows_indexed l m x g
    read_indexed (Join l) m x g = through_indexed (Join l) m x g
    read_indexed Transpose m x g = through_indexed Transpose m x g
    read_indexed (Reverse n) m x g = through_indexed (Reverse n) m x g
    read_indexed (Slide s t) m x g = through_indexed (Slide s t) m x g
    read_indexed (Pad l r n) m x g = through_indexed (Pad l r n) m x g

    -- the rows of a join's result
    joined_indexed : (l : A) (m : IndexNodes) (x : View) → IsIndexed m x → IsIndexed (written_through spell (Join l) m) (view_of_rows (text l) x)
    joined_indexed l m x g cs [] [] h = rows_indexed l m x g cs [] [] h
    joined_indexed l m x g cs (a ∷ []) (i ∷ []) h = rows_indexed l m x g cs (a ∷ []) (i ∷ []) h
    joined_indexed l m x g cs (a ∷ b ∷ ns) (i ∷ j ∷ p) h = rows_indexed l m x g cs (a ∷ b ∷ ns) (i ∷ j ∷ p) h
    joined_indexed l m x g cs _ _ h = absurd (assumption)

    pub written_indexed : (y : Layout A) (m : IndexNodes) (x : View) → IsIndexed m x → IsIndexed (written_through spell y m) (rewritten_view text y x)
    written_indexed (Split l) m x g = back_indexed (Split l) m x g
    written_indexed (Join l) m x g = joined_indexed l m x g
    written_indexed Transpose m x g = back_indexed Transpose m x g
    written_indexed (Reverse n) m x g = back_indexed (Reverse n) m x g
    written_indexed (Slide s t) m x g = back_indexed (Slide s t) m x g
    written_indexed (Pad l r n) m x g = back_indexed (Pad l r n) m x g

    row_major_from : (t : Shape A) (a : ℕ) (i : Formula) (ns : List ℕ) (q : List Formula) → Index names a i → AllIndices ns q → Index names (row_major_nodes short_nodes a (spelled_shape spell t) ns) (index_from text i t q)
    row_major_from Scalar a i ns q g w = g
    row_major_from (PairOf s t) a i ns q g w = g
    row_major_from (ArrayOf m t) a i [] [] g w = g
    row_major_from (ArrayOf m t) a i (b ∷ ns) (j ∷ q) g w = row_major_from t (a + length_nodes m + 1 + b + 1) (Binary Add (Binary Mul i (text m)) j) ns q (cell a (length_nodes m) b i (text m) j g (lengths m) w.0) w.1
    row_major_from t a i _ _ g w = absurd (assumption)

    row_major : (t : Shape A) (ns : List ℕ) (q : List Formula) → AllIndices ns q → Index names (placed_nodes short_nodes (spelled_shape spell t) ns) (index_in text t q)
    row_major Scalar ns q w = index_number names 0
    row_major (PairOf s t) ns q w = index_number names 0
    row_major (ArrayOf m t) [] [] w = index_number names 0
    row_major (ArrayOf m t) (a ∷ ns) (i ∷ q) w = row_major_from t a i ns q w.0 w.1
    row_major t _ _ w = absurd (assumption)

    pub placed_indexed : (form : ℕ → Array) (first : ℕ) (t : Shape A) → IsIndexed (array_nodes spell t) (placed_view text form first t)
    placed_indexed form first t = λ cs ns is h. row_major t ns is h
