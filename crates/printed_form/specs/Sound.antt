-- What makes the printer's kernel one of the kernel grammar: numbers are words, lengths are spelled
-- within it, and nothing nests too deep.
use Rattle.std.specs.Prelude.{◌≡◌, ℕ, suc, ◌<◌, ◌≤◌, ◌^◌, max, true}
use Rattle.kernel_tree.specs.Formula.{Formula}
use Rattle.kernel_tree.specs.Code.{Kernel}
use Rattle.kernel_tree.specs.Grammar.{height, is_constant, is_operator, names_declared}
use Rattle.printed_form.specs.Counts.{Count}
use Rattle.lift_ir.specs.Types.{Shape, Scalar, PairOf, ArrayOf, IsElement, size}
use Rattle.lift_ir.specs.Layouts.{IsInvertible, Layout, Split, Join, Transpose, Reverse, Slide, Pad}
use Rattle.lift_ir.specs.Standing.{Standing, stands_for}
use Rattle.lift_ir.specs.Terms.{Term, Literal, Bound, Source, Apply, ApplyNumber, ApplyLanes, DivideLanes, Select, Both, Project, Reshape, LetArray, LetElement, Map, Fold, Store, Copy, push}

-- how many private variables the kernel declares
abbrev pub variables_of : Kernel → Count
variables_of k = record { words = k.variables; fours = k.vectors }

-- an expression names what is declared within so many loops, and is at most so high
abbrev pub IsGood : Kernel → (loops high : ℕ) → Formula → Type 0
IsGood k loops high e = (names_declared k loops e ≡ true) × (height e ≤ high)

-- a length's spelling may stand in a loop's bound, and is at most so high
pub record IsSpelledIn (k : Kernel) (high : ℕ) (e : Formula) : Type 0 where
  pub constant : is_constant e ≡ true
  pub declared : (loops : ℕ) → names_declared k loops e ≡ true
  pub low : height e ≤ high

-- arrays around a scalar
abbrev pub dimensions : {A : Type 0} → Shape A → ℕ
dimensions Scalar = 0
dimensions (PairOf a b) = max (dimensions a) (dimensions b)
dimensions (ArrayOf n t) = suc (dimensions t)

-- all lengths of a shape are such
abbrev pub AllLengths : {A : Type 0} → (A → Type 0) → Shape A → Type 0
AllLengths P Scalar = Unit {0}
AllLengths P (PairOf a b) = AllLengths P a × AllLengths P b
AllLengths P (ArrayOf n t) = P n × AllLengths P t

-- a layout's lengths are such, and the numbers in its indices are words
abbrev pub IsSoundLayout : {A : Type 0} → (A → Type 0) → Layout A → Type 0
IsSoundLayout P (Split m) = P m
IsSoundLayout P (Join m) = P m
IsSoundLayout P Transpose = Unit {0}
IsSoundLayout P (Reverse n) = P n
IsSoundLayout P (Slide s t) = t < 2 ^ 32
IsSoundLayout P (Pad l r n) = (l < 2 ^ 32) × P n

-- a term's numbers are words, its lengths and its inputs are such, what is stored or assigned is an
-- element, and copies have arrays that can be declared
abbrev pub IsSound : {A : Type 0} → (A → Type 0) → (ℕ → Type 0) → Term A → Type 0
IsSound P Q (Literal c) = c < 2 ^ 32
IsSound P Q (Bound v) = Unit {0}
IsSound P Q (Source s) = Q s
IsSound P Q (Apply o a b) = IsSound P Q a × IsSound P Q b
IsSound P Q (ApplyNumber o m a) = (is_operator o ≡ true) × (m < 2 ^ 32) × IsSound P Q a
IsSound P Q (ApplyLanes o l r a b) = (is_operator o ≡ true) × IsSound P Q a × IsSound P Q b
IsSound P Q (DivideLanes o m a) = (is_operator o ≡ true) × (m < 2 ^ 32) × IsSound P Q a
IsSound P Q (Select c a b) = IsSound P Q c × IsSound P Q a × IsSound P Q b
IsSound P Q (Both zips a b) = IsSound P Q a × IsSound P Q b
IsSound P Q (Project s a) = IsSound P Q a
IsSound P Q (Reshape l a) = IsSoundLayout P l × IsSound P Q a
IsSound P Q (LetArray v b) = IsSound P Q v × IsSound P Q b
IsSound P Q (LetElement ty v b) = IsSound P Q v × IsSound P Q b
IsSound P Q (Map kind n loads xs b) = P n × IsSound P Q xs × IsSound P Q b
IsSound P Q (Fold n loads ty xs s b) =
    P n × IsElement ty × IsSound P Q xs × IsSound P Q s × IsSound P Q b
IsSound P Q (Store ty t) = IsElement ty × IsSound P Q t
IsSound P Q (Copy space ty a) =
    AllLengths (λ n. n < 2 ^ 32) ty × (dimensions ty ≤ 5) × IsSound P Q a × (0 < size ty)
    × (size ty < 2 ^ 32)

-- how high an element term's expressions are at most; those of four words are at most one higher
abbrev pub expression_height : {A : Type 0} → Term A → ℕ
expression_height (Apply o a b) = suc (max (expression_height a) (expression_height b))
expression_height (ApplyNumber o m a) = suc (expression_height a)
expression_height (ApplyLanes o l r a b) = suc (max (expression_height a) (expression_height b))
expression_height (DivideLanes o m a) = suc (expression_height a)
expression_height (Select c a b) =
    suc (max (expression_height c) (max (expression_height a) (expression_height b)))
expression_height (Both zips a b) = max (expression_height a) (expression_height b)
expression_height (Project s a) = expression_height a
expression_height (LetElement ty v b) = max (expression_height v) (expression_height b)
expression_height _ = 1

-- a layout stands on those of its operand; no buffer but a copy's stands in a copy, on which none
-- stands
abbrev pub stacked_standing : {A : Type 0} → Standing A ℕ
stacked_standing = record {
  source = λ input. 0;
  both = max;
  side = λ second h. h;
  through = λ y h. suc h;
  in_let = λ h. h;
  copy = λ number space ty. 0;
  nothing = 0;
}

-- how many layouts stand one on another over a buffer in an argument, where binders stand at these
-- heights
abbrev pub stacked : {A : Type 0} → (ℕ → ℕ) → Term A → ℕ
stacked g t = stands_for stacked_standing (λ x. 0) g 0 t

abbrev mutual
  -- no more layouts than this stand one on another in an argument, nor in the copies in it
  pub IsReadWithin : {A : Type 0} → (most : ℕ) → (ℕ → ℕ) → Term A → Type 0
  IsReadWithin most g (Both zips a b) = IsReadWithin most g a × IsReadWithin most g b
  IsReadWithin most g (Project s a) = IsReadWithin most g a
  IsReadWithin most g (Reshape l a) = (stacked g (Reshape l a) ≤ most) × IsReadWithin most g a
  IsReadWithin most g (LetArray v b) =
      IsReadWithin most g v × IsReadWithin most (push (stacked g v) g) b
  IsReadWithin most g (Copy space ty a) = IsWrittenWithin most g 0 a
  IsReadWithin most g _ = Unit {0}

  -- nor in a term in writing position, which so many layouts stand above
  pub IsWrittenWithin : {A : Type 0} → (most : ℕ) → (ℕ → ℕ) → (above : ℕ) → Term A → Type 0
  IsWrittenWithin most g w (Reshape l a) = IsWrittenWithin most g (suc w) a
  IsWrittenWithin most g w (LetArray v b) =
      IsReadWithin most g v × IsWrittenWithin most (push (stacked g v) g) w b
  IsWrittenWithin most g w (LetElement ty v b) = IsWrittenWithin most (push 0 g) w b
  IsWrittenWithin most g w (Map kind n loads xs b) =
      (stacked g xs ≤ most) × IsReadWithin most g xs
      × IsWrittenWithin most (push (stacked g xs) g) w b
  IsWrittenWithin most g w (Fold n loads ty xs s b) =
      (w ≤ most) × (stacked g xs ≤ most) × IsReadWithin most g xs
  IsWrittenWithin most g w _ = w ≤ most

-- how deep loops nest
abbrev pub loop_depth : {A : Type 0} → Term A → ℕ
loop_depth (Both zips a b) = max (loop_depth a) (loop_depth b)
loop_depth (Project s a) = loop_depth a
loop_depth (Reshape l a) = loop_depth a
loop_depth (LetArray v b) = max (loop_depth v) (loop_depth b)
loop_depth (LetElement ty v b) = loop_depth b
loop_depth (Map kind n loads xs b) = max (loop_depth xs) (suc (loop_depth b))
loop_depth (Fold n loads ty xs s b) = max (loop_depth xs) 1
loop_depth (Copy space ty a) = loop_depth a
loop_depth _ = 0

-- the element terms in a term are at most so high
abbrev pub AreLow : {A : Type 0} → (high : ℕ) → Term A → Type 0
AreLow h (Both zips a b) = AreLow h a × AreLow h b
AreLow h (Project s a) = AreLow h a
AreLow h (Reshape l a) = AreLow h a
AreLow h (LetArray v b) = AreLow h v × AreLow h b
AreLow h (LetElement ty v b) = (expression_height v ≤ h) × AreLow h b
AreLow h (Map kind n loads xs b) = AreLow h xs × AreLow h b
AreLow h (Fold n loads ty xs s b) =
    AreLow h xs × (expression_height s ≤ h) × (expression_height b ≤ h)
AreLow h (Store ty t) = expression_height t ≤ h
AreLow h (Copy space ty a) = AreLow h a
AreLow h _ = Unit {0}

abbrev mutual
  -- each term in writing position stores something, and is written through join, split and
  -- transpose alone
  pub CanBeWritten : {A : Type 0} → Term A → Type 0
  CanBeWritten (Store ty t) = Unit {0}
  CanBeWritten (Reshape l t) = IsInvertible l × CanBeWritten t
  CanBeWritten (LetArray v b) = CanBeRead v × CanBeWritten b
  CanBeWritten (LetElement ty v b) = CanBeWritten b
  CanBeWritten (Map kind n loads xs b) = CanBeRead xs × CanBeWritten b
  CanBeWritten (Fold n loads ty xs s b) = CanBeRead xs
  CanBeWritten _ = ⊥

  pub CanBeRead : {A : Type 0} → Term A → Type 0
  CanBeRead (Both zips a b) = CanBeRead a × CanBeRead b
  CanBeRead (Project s a) = CanBeRead a
  CanBeRead (Reshape l a) = CanBeRead a
  CanBeRead (LetArray v b) = CanBeRead v × CanBeRead b
  CanBeRead (Copy space ty a) = CanBeWritten a
  CanBeRead _ = Unit {0}
