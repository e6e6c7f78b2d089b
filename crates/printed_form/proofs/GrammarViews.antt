-- What views stand for is of the kernel grammar.
use Rattle.std.proofs.Common.{◌≡◌, ℕ, suc, ◌+◌, ◌*◌, ◌<◌, ◌≤◌, ◌^◌, Bool, true, false, List, [], ◌∷◌, refl, arith}
use Rattle.std.specs.Prelude.{max, ◌&&◌, if◌then◌else◌}
use Rattle.scalar_ops.specs.declared.op.Op.TheVariants.{Add, Sub, Mul, Min, Max, Div, Rem}
use Rattle.kernel_tree.specs.Formula.{Formula, Number, Variable, LoopVariable, Size, Id, Binary, Choose}
use Rattle.kernel_tree.specs.Code.{Array, Kernel}
use Rattle.kernel_tree.specs.Grammar.{is_operator, is_readable, is_writable, names_declared}
use Rattle.std.proofs.lemmas.Bool.{lt-ltb}
use Rattle.lift_ir.specs.Types.{Shape, Ty, Scalar, PairOf, ArrayOf, width, component}
use Rattle.lift_ir.specs.Layouts.{Layout, Split, Join, Transpose, Reverse, Slide, Pad}
use Rattle.lift_ir.specs.Terms.{LoadSet, Skip, Take, TakeFour, Each}
use Rattle.lift_ir.specs.Scalars.{by_side}
use Rattle.printed_form.specs.Counts.{Count, AtMost, more, held_count, load_count}
use Rattle.printed_form.specs.Views.{Sign, Blank, Held, HeldFour, Read, View, held_view, loaded_view, view_at, same_formula, are_parts, dividend, cell_in_rows, row_number, row_sign, view_of_rows, reshaped_view, rewritten_view, operand_indices, result_indices, index_from, index_in, placed_view, laid_view}
use Rattle.printed_form.specs.Sound.{variables_of, IsGood, IsSpelledIn, AllLengths, IsSoundLayout, dimensions}
use Rattle.printed_form.specs.GrammarViews.{IsTurnFormula, AllGood, IsGoodSign, IsTargetSign, IsGoodView, IsTarget, ReadsWithin, FillsWithin}
use Rattle.printed_form.proofs.GrammarExpressions.{first_of, second_of, good_higher, good_number, good_binary}
use Rattle.printed_form.proofs.Runs.{at_most, as_many}

module _ (k : Kernel) (S : ℕ) (one : 1 ≤ S) where
  pub all_higher : (l h i : ℕ) (is : List Formula) → h ≤ i → AllGood k l h is → AllGood k l i is
  all_higher l h i [] le g = tt
  all_higher l h i (e ∷ es) le g = (good_higher k l h i e le g.0, all_higher l h i es le g.1)

  sign_more : (n m : Count) (l h i : ℕ) (s : Sign) → AtMost n m → h ≤ i → IsGoodSign k n l h s → IsGoodSign k m l i s
  sign_more n m l h i Blank le lh g = tt
  sign_more n m l h i (Held v) le lh g = let p = le.words in omega arith
  sign_more n m l h i (HeldFour v) le lh g = let p = le.fours in omega arith
  sign_more n m l h i (Read a e) le lh g = (g.0, good_higher k l h i e lh g.1)

  target_more : (l h i : ℕ) (s : Sign) → h ≤ i → IsTargetSign k l h s → IsTargetSign k l i s
  target_more l h i Blank lh g = absurd g
  target_more l h i (Held v) lh g = absurd g
  target_more l h i (HeldFour v) lh g = absurd g
  target_more l h i (Read a e) lh g = (g.0, good_higher k l h i e lh g.1)

  pub view_more : (n m : Count) (L M H I : ℕ) (v : View) → AtMost n m → L ≤ M → H ≤ I → IsGoodView k S n L H v → IsGoodView k S m M I v
  view_more n m L M H I v le lm lh g = λ l h cs is a b c. sign_more n m l (h + H) (h + I) (v cs is) le (omega arith) (g l h cs is (omega arith) b c)

  pub target_within : (L M H I : ℕ) (v : View) → L ≤ M → H ≤ I → IsTarget k S L H v → IsTarget k S M I v
  target_within L M H I v lm lh g = λ l h cs is a b c. target_more l (h + H) (h + I) (v cs is) (omega arith) (g l h cs is (omega arith) b c)

  pub blank_good : (n : Count) (L H : ℕ) → IsGoodView k S n L H (λ cs is. Blank)
  blank_good n L H = λ l h cs is a b c. tt

  pub sides_good : (n : Count) (L H : ℕ) (x y : View) → IsGoodView k S n L H x → IsGoodView k S n L H y → IsGoodView k S n L H (by_side (λ is. Blank) x y)
  sides_good n L H x y g w = go where
    go : IsGoodView k S n L H (by_side (λ is. Blank) x y)
    go l h [] is a b c = tt
    go l h (false ∷ cs) is a b c = g l h cs is a b c
    go l h (true ∷ cs) is a b c = w l h cs is a b c

  pub part_good : (n : Count) (L H : ℕ) (x : View) (s : Bool) → IsGoodView k S n L H x → IsGoodView k S n L H (λ cs is. x (s ∷ cs) is)
  part_good n L H x s g = λ l h cs is a b c. g l h (s ∷ cs) is a b c

  pub part_target : (L H : ℕ) (x : View) (s : Bool) → IsTarget k S L H x → IsTarget k S L H (λ cs is. x (s ∷ cs) is)
  part_target L H x s g = λ l h cs is a b c. g l h (s ∷ cs) is a b c

  loop_good : (l L h : ℕ) → L < l → 1 ≤ h → IsGood k l h (LoopVariable L)
  loop_good l L h lt p = (lt-ltb L l lt, p)

  -- at a formula that may stand for a turn
  pub at_turn_good : (turn : Formula) (n : Count) (L H : ℕ) (x : View) → IsTurnFormula k L turn → IsGoodView k S n L H x → IsGoodView k S n L H (view_at turn x)
  at_turn_good turn n L H x t g = λ l h cs is a b c. g l h cs (turn ∷ is) a b (let low = (t l a).1 in ((t l a).0, omega arith), c)

  pub at_turn_target : (turn : Formula) (L H : ℕ) (x : View) → IsTurnFormula k L turn → IsTarget k S L H x → IsTarget k S L H (view_at turn x)
  at_turn_target turn L H x t g = λ l h cs is a b c. g l h cs (turn ∷ is) a b (let low = (t l a).1 in ((t l a).0, omega arith), c)

  pub turned_good : (n : Count) (L H : ℕ) (x : View) → IsGoodView k S n L H x → IsGoodView k S n (suc L) H (view_at (LoopVariable L) x)
  turned_good n L H x g = λ l h cs is a b c. g l h cs (LoopVariable L ∷ is) (omega arith) b (loop_good l L h (omega arith) (omega arith), c)

  pub turned_target : (L H : ℕ) (x : View) → IsTarget k S L H x → IsTarget k S (suc L) H (view_at (LoopVariable L) x)
  turned_target L H x g = λ l h cs is a b c. g l h cs (LoopVariable L ∷ is) (omega arith) b (loop_good l L h (omega arith) (omega arith), c)

  pub first_target : (L H : ℕ) (x : View) → IsTarget k S L H x → IsTarget k S L H (view_at (Number 0) x)
  first_target L H x g = λ l h cs is a b c. g l h cs (Number 0 ∷ is) a b (good_number k l h 0 (omega arith) (omega arith), c)

  -- ---- variables
  pub held_good : (ty : Ty) (n m : Count) (L H : ℕ) → AtMost (more n (held_count ty)) m → IsGoodView k S m L H (held_view ty n)
  held_good Scalar n m L H le = λ l h cs is a b c. (let w = le.words in omega arith)
  held_good (PairOf x y) n m L H le =
      let w = le.words in let f = le.fours in
      sides_good m L H (held_view x n) (held_view y (more n (held_count x))) (held_good x n m L H (at_most (omega arith) (omega arith))) (held_good y (more n (held_count x)) m L H (at_most (omega arith) (omega arith)))
  held_good (ArrayOf j t) n m L H le = λ l h cs is a b c. (let f = le.fours in omega arith)

  pub loaded_good : (ls : LoadSet) (x : View) (n m p : Count) (L H : ℕ) → AtMost p m → AtMost (more n (load_count ls)) m → IsGoodView k S p L H x → IsGoodView k S m L H (loaded_view ls x n)
  loaded_good Skip x n m p L H pm le g = view_more p m L L H H x pm (omega arith) (omega arith) g
  loaded_good Take x n m p L H pm le g = λ l h cs is a b c. (let w = le.words in omega arith)
  loaded_good TakeFour x n m p L H pm le g = λ l h cs is a b c. (let f = le.fours in omega arith)
  loaded_good (Each y z) x n m p L H pm le g =
      let w = le.words in let f = le.fours in
      sides_good m L H (loaded_view y (λ cs. x (false ∷ cs)) n) (loaded_view z (λ cs. x (true ∷ cs)) (more n (load_count y)))
      (loaded_good y (λ cs. x (false ∷ cs)) n m p L H pm (at_most (omega arith) (omega arith)) (part_good p L H x false g))
      (loaded_good z (λ cs. x (true ∷ cs)) (more n (load_count y)) m p L H pm (at_most (omega arith) (omega arith)) (part_good p L H x true g))

  -- ---- an index of a row and a column
  dividend_good : (l h : ℕ) (i : Formula) → IsGood k l h i → IsGood k l h (dividend i)
  dividend_good l h (Number n) g = g
  dividend_good l h (Variable v) g = g
  dividend_good l h (LoopVariable i) g = g
  dividend_good l h (Size s) g = g
  dividend_good l h (Id d form) g = g
  dividend_good l h (Binary o a b) g =
      let named = second_of (is_operator o) (names_declared k l a && names_declared k l b) g.0 in
      (first_of (names_declared k l a) (names_declared k l b) named, (let low = g.1 in omega arith))
  dividend_good l h (Choose c a b x y) g = g

  cell_good : (l h : ℕ) (i m j : Formula) → IsGood k l h i → IsGood k l h m → IsGood k l h j → IsGood k l (suc (suc h)) (cell_in_rows i m j)
  cell_good l h i m j x y z = go (are_parts i m j)
    where
      go : (b : Bool) → IsGood k l (suc (suc h)) (if b then dividend i else Binary Add (Binary Mul i m) j)
      go true = good_higher k l h (suc (suc h)) (dividend i) (omega arith) (dividend_good l h i x)
      go false = good_binary k l (suc h) Add (Binary Mul i m) j refl (good_binary k l h Mul i m refl x y) (good_higher k l h (suc h) j (omega arith) z)

  -- ---- rows, by their number
  row_good : (l h : ℕ) (i m f : Formula) → IsGood k l h i → IsGood k l h m → IsGood k l h f → IsGood k l (suc h) (row_number i m f)
  row_good l h i m f x y z = go (same_formula f (Binary Add (Binary Mul i m) (Number 0)))
    where
      go : (b : Bool) → IsGood k l (suc h) (if b then i else Binary Div f m)
      go true = good_higher k l h (suc h) i (omega arith) x
      go false = good_binary k l h Div f m refl z y

  row_sign_good : (n : Count) (l h : ℕ) (i m : Formula) (s : Sign) → IsGood k l h i → IsGood k l h m → IsGoodSign k n l h s → IsGoodSign k n l (suc h) (row_sign i m s)
  row_sign_good n l h i m Blank x y g = tt
  row_sign_good n l h i m (Held v) x y g = g
  row_sign_good n l h i m (HeldFour v) x y g = g
  row_sign_good n l h i m (Read a f) x y g = (g.0, row_good l h i m f x y g.1)

  row_sign_target : (l h : ℕ) (i m : Formula) (s : Sign) → IsGood k l h i → IsGood k l h m → IsTargetSign k l h s → IsTargetSign k l (suc h) (row_sign i m s)
  row_sign_target l h i m Blank x y g = absurd g
  row_sign_target l h i m (Held v) x y g = absurd g
  row_sign_target l h i m (HeldFour v) x y g = absurd g
  row_sign_target l h i m (Read a f) x y g = (g.0, row_good l h i m f x y g.1)

  -- ---- layouts and arrays, whose lengths are spelled so
  module _ {A : Type 0} (spell : A → Formula) where
    abbrev Spelled : A → Type 0
    Spelled n = IsSpelledIn k S (spell n)

    spelled_good : (n : A) (l h : ℕ) → S ≤ h → Spelled n → IsGood k l h (spell n)
    spelled_good n l h le s = (s.declared l, (let x = s.low in omega arith))

    operand_good : (y : Layout A) (l h : ℕ) (is : List Formula) → S ≤ h → IsSoundLayout Spelled y → AllGood k l h is → AllGood k l (h + 3) (operand_indices spell y is)
    operand_good (Split m) l h [] le s g = tt
    operand_good (Split m) l h (i ∷ []) le s g = all_higher l h (h + 3) (i ∷ []) (omega arith) g
    operand_good (Split m) l h (i ∷ j ∷ p) le s g =
        let cell = cell_good l h i (spell m) j g.0 (spelled_good m l h le s) g.1.0 in
        (good_higher k l (suc (suc h)) (h + 3) (cell_in_rows i (spell m) j) (omega arith) cell, all_higher l h (h + 3) p (omega arith) g.1.1)
    operand_good (Join m) l h [] le s g = tt
    operand_good (Join m) l h (i ∷ p) le s g =
        let d = good_binary k l h Div i (spell m) refl g.0 (spelled_good m l h le s) in
        let r = good_binary k l h Rem i (spell m) refl g.0 (spelled_good m l h le s) in
        (good_higher k l (suc h) (h + 3) (Binary Div i (spell m)) (omega arith) d, (good_higher k l (suc h) (h + 3) (Binary Rem i (spell m)) (omega arith) r, all_higher l h (h + 3) p (omega arith) g.1))
    operand_good Transpose l h [] le s g = tt
    operand_good Transpose l h (i ∷ []) le s g = all_higher l h (h + 3) (i ∷ []) (omega arith) g
    operand_good Transpose l h (i ∷ j ∷ p) le s g =
        (good_higher k l h (h + 3) j (omega arith) g.1.0, (good_higher k l h (h + 3) i (omega arith) g.0, all_higher l h (h + 3) p (omega arith) g.1.1))
    operand_good (Reverse n) l h [] le s g = tt
    operand_good (Reverse n) l h (i ∷ p) le s g =
        let z = good_binary k l h Sub (spell n) (Number 1) refl (spelled_good n l h le s) (good_number k l h 1 (omega arith) (omega arith)) in
        let w = good_binary k l (suc h) Sub (Binary Sub (spell n) (Number 1)) i refl z (good_higher k l h (suc h) i (omega arith) g.0) in
        (good_higher k l (suc (suc h)) (h + 3) (Binary Sub (Binary Sub (spell n) (Number 1)) i) (omega arith) w, all_higher l h (h + 3) p (omega arith) g.1)
    operand_good (Slide a t) l h [] le s g = tt
    operand_good (Slide a t) l h (i ∷ []) le s g = all_higher l h (h + 3) (i ∷ []) (omega arith) g
    operand_good (Slide a t) l h (i ∷ j ∷ p) le s g =
        let cell = cell_good l h i (Number t) j g.0 (good_number k l h t s (omega arith)) g.1.0 in
        (good_higher k l (suc (suc h)) (h + 3) (cell_in_rows i (Number t) j) (omega arith) cell, all_higher l h (h + 3) p (omega arith) g.1.1)
    operand_good (Pad a b n) l h [] le s g = tt
    operand_good (Pad a b n) l h (i ∷ p) le s g =
        let na = good_number k l h a s.0 (omega arith) in
        let x = good_binary k l h Max i (Number a) refl g.0 na in
        let y = good_binary k l (suc h) Sub (Binary Max i (Number a)) (Number a) refl x (good_higher k l h (suc h) (Number a) (omega arith) na) in
        let z = good_binary k l h Sub (spell n) (Number 1) refl (spelled_good n l h le s.1) (good_number k l h 1 (omega arith) (omega arith)) in
        let w = good_binary k l (suc (suc h)) Min (Binary Sub (Binary Max i (Number a)) (Number a)) (Binary Sub (spell n) (Number 1)) refl y (good_higher k l (suc h) (suc (suc h)) (Binary Sub (spell n) (Number 1)) (omega arith) z) in
        (good_higher k l (suc (suc (suc h))) (h + 3) (Binary Min (Binary Sub (Binary Max i (Number a)) (Number a)) (Binary Sub (spell n) (Number 1))) (omega arith) w, all_higher l h (h + 3) p (omega arith) g.1)

    result_good : (y : Layout A) (l h : ℕ) (is : List Formula) → S ≤ h → IsSoundLayout Spelled y → AllGood k l h is → AllGood k l (h + 3) (result_indices spell y is)
    result_good (Split m) l h is le s g = operand_good (Join m) l h is le s g
    result_good (Join m) l h is le s g = operand_good (Split m) l h is le s g
    result_good Transpose l h is le s g = operand_good Transpose l h is le s g
    result_good (Reverse n) l h is le s g = operand_good (Reverse n) l h is le s g
    result_good (Slide a t) l h is le s g = all_higher l h (h + 3) is (omega arith) g
    result_good (Pad a b n) l h is le s g = all_higher l h (h + 3) is (omega arith) g

    -- the cell of an index and of a row, or of a row's first column
    row_of : (m : A) (l h : ℕ) (i j : Formula) (p : List Formula) → S ≤ h → Spelled m → IsGood k l h i → IsGood k l h j → AllGood k l h p → AllGood k l (suc (suc h)) (cell_in_rows i (spell m) j ∷ p)
    row_of m l h i j p le s x y w = (cell_good l h i (spell m) j x (spelled_good m l h le s) y, all_higher l h (suc (suc h)) p (omega arith) w)

    rows_good : (m : A) (n : Count) (L H : ℕ) (x : View) → Spelled m → IsGoodView k S n L H x → IsGoodView k S n L (H + 3) (view_of_rows (spell m) x)
    rows_good m n L H x s g = go where
      go : IsGoodView k S n L (H + 3) (view_of_rows (spell m) x)
      go l h cs [] a b c = sign_more n n l (h + H) (h + (H + 3)) (x cs []) (as_many n) (omega arith) (g l h cs [] a b tt)
      go l h cs (i ∷ []) a b c =
          let h2 = suc (suc h) + H in
          let cell = row_of m l h i (Number 0) [] b s c.0 (good_number k l h 0 (omega arith) (omega arith)) tt in
          let z = x cs (cell_in_rows i (spell m) (Number 0) ∷ []) in
          sign_more n n l (suc h2) (h + (H + 3)) (row_sign i (spell m) z) (as_many n) (omega arith)
          (row_sign_good n l h2 i (spell m) z (good_higher k l h h2 i (omega arith) c.0) (good_higher k l h h2 (spell m) (omega arith) (spelled_good m l h b s)) (g l (suc (suc h)) cs (cell_in_rows i (spell m) (Number 0) ∷ []) a (omega arith) cell))
      go l h cs (i ∷ j ∷ p) a b c =
          sign_more n n l (suc (suc h) + H) (h + (H + 3)) (x cs (cell_in_rows i (spell m) j ∷ p)) (as_many n) (omega arith)
          (g l (suc (suc h)) cs (cell_in_rows i (spell m) j ∷ p) a (omega arith) (row_of m l h i j p b s c.0 c.1.0 c.1.1))

    rows_target : (m : A) (L H : ℕ) (x : View) → Spelled m → IsTarget k S L H x → IsTarget k S L (H + 3) (view_of_rows (spell m) x)
    rows_target m L H x s g = go where
      go : IsTarget k S L (H + 3) (view_of_rows (spell m) x)
      go l h cs [] a b c = target_more l (h + H) (h + (H + 3)) (x cs []) (omega arith) (g l h cs [] a b tt)
      go l h cs (i ∷ []) a b c =
          let h2 = suc (suc h) + H in
          let cell = row_of m l h i (Number 0) [] b s c.0 (good_number k l h 0 (omega arith) (omega arith)) tt in
          let z = x cs (cell_in_rows i (spell m) (Number 0) ∷ []) in
          target_more l (suc h2) (h + (H + 3)) (row_sign i (spell m) z) (omega arith)
          (row_sign_target l h2 i (spell m) z (good_higher k l h h2 i (omega arith) c.0) (good_higher k l h h2 (spell m) (omega arith) (spelled_good m l h b s)) (g l (suc (suc h)) cs (cell_in_rows i (spell m) (Number 0) ∷ []) a (omega arith) cell))
      go l h cs (i ∷ j ∷ p) a b c =
          target_more l (suc (suc h) + H) (h + (H + 3)) (x cs (cell_in_rows i (spell m) j ∷ p)) (omega arith)
          (g l (suc (suc h)) cs (cell_in_rows i (spell m) j ∷ p) a (omega arith) (row_of m l h i j p b s c.0 c.1.0 c.1.1))

    sum_is : (n : Count) (l h H : ℕ) (s : Sign) → IsGoodSign k n l (h + 3 + H) s → IsGoodSign k n l (h + (H + 3)) s
    sum_is n l h H s g = sign_more n n l (h + 3 + H) (h + (H + 3)) s (as_many n) (omega arith) g

    indices_good : (y : Layout A) (n : Count) (L H : ℕ) (x : View) → IsSoundLayout Spelled y → IsGoodView k S n L H x → IsGoodView k S n L (H + 3) (λ cs is. x cs (operand_indices spell y is))
    indices_good y n L H x s g = λ l h cs is a b c. sum_is n l h H (x cs (operand_indices spell y is)) (g l (h + 3) cs (operand_indices spell y is) a (omega arith) (operand_good y l h is b s c))

    indices_target : (y : Layout A) (L H : ℕ) (x : View) → IsSoundLayout Spelled y → IsTarget k S L H x → IsTarget k S L (H + 3) (λ cs is. x cs (result_indices spell y is))
    indices_target y L H x s g = λ l h cs is a b c. target_more l (h + 3 + H) (h + (H + 3)) (x cs (result_indices spell y is)) (omega arith) (g l (h + 3) cs (result_indices spell y is) a (omega arith) (result_good y l h is b s c))

    pub reshaped_good : (y : Layout A) (n : Count) (L H : ℕ) (x : View) → IsSoundLayout Spelled y → IsGoodView k S n L H x → IsGoodView k S n L (H + 3) (reshaped_view spell y x)
    reshaped_good (Split m) n L H x s g = rows_good m n L H x s g
    reshaped_good (Join m) n L H x s g = indices_good (Join m) n L H x s g
    reshaped_good Transpose n L H x s g = indices_good Transpose n L H x s g
    reshaped_good (Reverse m) n L H x s g = indices_good (Reverse m) n L H x s g
    reshaped_good (Slide a t) n L H x s g = indices_good (Slide a t) n L H x s g
    reshaped_good (Pad a b m) n L H x s g = indices_good (Pad a b m) n L H x s g

    pub reshaped_target : (y : Layout A) (L H : ℕ) (x : View) → IsSoundLayout Spelled y → IsTarget k S L H x → IsTarget k S L (H + 3) (rewritten_view spell y x)
    reshaped_target (Join m) L H x s g = rows_target m L H x s g
    reshaped_target (Split m) L H x s g = indices_target (Split m) L H x s g
    reshaped_target Transpose L H x s g = indices_target Transpose L H x s g
    reshaped_target (Reverse m) L H x s g = indices_target (Reverse m) L H x s g
    reshaped_target (Slide a t) L H x s g = indices_target (Slide a t) L H x s g
    reshaped_target (Pad a b m) L H x s g = indices_target (Pad a b m) L H x s g

    -- two for each further dimension
    index_good : (t : Shape A) (l h : ℕ) (i : Formula) (q : List Formula) → S ≤ h → AllLengths Spelled t → IsGood k l h i → AllGood k l h q → IsGood k l (h + 2 * dimensions t) (index_from spell i t q)
    index_good Scalar l h i q le s g w = good_higher k l h (h + 2 * 0) i (omega arith) g
    index_good (PairOf a b) l h i q le s g w = good_higher k l h (h + 2 * max (dimensions a) (dimensions b)) i (omega arith) g
    index_good (ArrayOf m t) l h i [] le s g w = good_higher k l h (h + 2 * suc (dimensions t)) i (omega arith) g
    index_good (ArrayOf m t) l h i (j ∷ q) le s g w =
        let x = good_binary k l h Mul i (spell m) refl g (spelled_good m l h le s.0) in
        let y = good_binary k l (suc h) Add (Binary Mul i (spell m)) j refl x (good_higher k l h (suc h) j (omega arith) w.0) in
        let z = index_good t l (suc (suc h)) (Binary Add (Binary Mul i (spell m)) j) q (omega arith) s.1 y (all_higher l h (suc (suc h)) q (omega arith) w.1) in
        good_higher k l (suc (suc h) + 2 * dimensions t) (h + 2 * suc (dimensions t)) (index_from spell (Binary Add (Binary Mul i (spell m)) j) t q) (omega arith) z

    placed_index : (t : Shape A) (l h : ℕ) (q : List Formula) → S ≤ h → AllLengths Spelled t → AllGood k l h q → IsGood k l (h + 2 * dimensions t) (index_in spell t q)
    placed_index Scalar l h q le s w = good_number k l (h + 2 * 0) 0 (omega arith) (omega arith)
    placed_index (PairOf a b) l h q le s w = good_number k l (h + 2 * max (dimensions a) (dimensions b)) 0 (omega arith) (omega arith)
    placed_index (ArrayOf m t) l h [] le s w = good_number k l (h + 2 * suc (dimensions t)) 0 (omega arith) (omega arith)
    placed_index (ArrayOf m t) l h (i ∷ q) le s w =
        good_higher k l (h + 2 * dimensions t) (h + 2 * suc (dimensions t)) (index_from spell i t q) (omega arith) (index_good t l h i q le s.1 w.0 w.1)

    pub some_width : (t : Shape A) → 1 ≤ width t
    some_width Scalar = omega arith
    some_width (PairOf a b) = let x = some_width a in omega arith
    some_width (ArrayOf n t) = some_width t

    component_below : (t : Shape A) (cs : List Bool) → component t cs < width t
    component_below Scalar cs = omega arith
    component_below (PairOf a b) [] = some_width (PairOf a b)
    component_below (PairOf a b) (false ∷ cs) = let x = component_below a cs in omega arith
    component_below (PairOf a b) (true ∷ cs) = let x = component_below b cs in omega arith
    component_below (ArrayOf n t) cs = component_below t cs

    pub placed_good : (form : ℕ → Array) (first : ℕ) (t : Shape A) (n : Count) (L : ℕ) → ((c : ℕ) → c < width t → is_readable k (form (first + c)) ≡ true) → AllLengths Spelled t → IsGoodView k S n L (2 * dimensions t) (placed_view spell form first t)
    placed_good form first t n L r s = λ l h cs is a b c. (r (component t cs) (component_below t cs), placed_index t l h is b s c)

    pub placed_target : (form : ℕ → Array) (first : ℕ) (t : Shape A) (L : ℕ) → ((c : ℕ) → c < width t → is_writable k (form (first + c)) ≡ true) → AllLengths Spelled t → IsTarget k S L (2 * dimensions t) (placed_view spell form first t)
    placed_target form first t L r s = λ l h cs is a b c. (r (component t cs) (component_below t cs), placed_index t l h is b s c)

  -- ---- arrays of literal lengths
  number_spelled : (n : ℕ) → n < 2 ^ 32 → IsSpelledIn k S (Number n)
  number_spelled n lt = record { constant = refl; declared = λ l. lt-ltb n (2 ^ 32) lt; low = one }

  all_spelled : (t : Ty) → AllLengths (λ n. n < 2 ^ 32) t → AllLengths (Spelled Number) t
  all_spelled Scalar h = tt
  all_spelled (PairOf a b) h = (all_spelled a h.0, all_spelled b h.1)
  all_spelled (ArrayOf n t) h = (number_spelled n h.0, all_spelled t h.1)

  pub laid_reads : (form : ℕ → Array) (first : ℕ) (t : Ty) (l : ℕ) → ((c : ℕ) → c < width t → is_readable k (form (first + c)) ≡ true) → AllLengths (λ n. n < 2 ^ 32) t → dimensions t ≤ 5 → ReadsWithin k S l 0 (laid_view form first t)
  laid_reads form first t l r h d =
      view_more (variables_of k) (variables_of k) l l (2 * dimensions t) (10 + 3 * 0) (laid_view form first t) (as_many (variables_of k)) (omega arith) (omega arith) (placed_good Number form first t (variables_of k) l r (all_spelled t h))

  pub laid_fills : (form : ℕ → Array) (first : ℕ) (t : Ty) (l : ℕ) → ((c : ℕ) → c < width t → is_writable k (form (first + c)) ≡ true) → AllLengths (λ n. n < 2 ^ 32) t → dimensions t ≤ 5 → FillsWithin k S l 0 (laid_view form first t)
  laid_fills form first t l r h d =
      target_within l l (2 * dimensions t) (10 + 3 * 0) (laid_view form first t) (omega arith) (omega arith) (placed_target Number form first t l r (all_spelled t h))
