-- Index expressions that have values as one work-item comes there, and views that stand for marks.
use Rattle.std.specs.Prelude.{◌≡◌, ℕ, ◌+◌, ◌*◌, ◌<◌, ◌^◌, Bool, true, false, List, [], ◌∷◌, ◌++◌, length, Some}
use Rattle.kernel_tree.specs.Code.{Array}
use Rattle.kernel_tree.specs.Formula.{Formula, Vars, value, bound_value}
use Rattle.kernel_tree.specs.Launch.{Launch, ids_of}
use Rattle.lift_ir.specs.Types.{Ty, Scalar, PairOf, ArrayOf, four, IsPosition, size, flat}
use Rattle.lift_ir.specs.Fours.{Lie, Held, Loose, Whole, InFours}
use Rattle.printed_form.specs.Marks.{Mark, Spot, Marks, AreFourCells}
use Rattle.printed_form.specs.Views.{Sign, Read, View}

-- an expression that has this value, whatever the loops and the variables
abbrev pub IsSpelled : Launch → Formula → ℕ → Type 0
IsSpelled l f n =
    (bound_value l.sizes f ≡ Some n)
    × ((k : ℕ) (ts : List ℕ) (vs : Vars) → value (ids_of l k) ts vs f ≡ Some n)

-- some of the outermost arrays around something of which there is some
abbrev pub IsOuter : (outer whole : Ty) → Type 0
IsOuter Scalar t = 0 < size t
IsOuter (ArrayOf n o) (ArrayOf m t) = (n ≡ m) × IsOuter o t
IsOuter _ _ = ⊥

-- something in arrays of these lengths, the outermost first
abbrev pub in_arrays : List ℕ → Ty → Ty
in_arrays [] t = t
in_arrays (n ∷ ns) t = ArrayOf n (in_arrays ns t)

module _ (l : Launch) (item : ℕ) where
  -- an index expression's value at these turns, a word
  pub record Means (ts : List ℕ) (f : Formula) (n : ℕ) : Type 0 where
    pub fits : n < 2 ^ 32
    pub always : (vs : Vars) → value (ids_of l item) ts vs f ≡ Some n

  -- the expressions have these values, one for one
  abbrev pub AllMean : List ℕ → List Formula → List ℕ → Type 0
  AllMean ts [] [] = Unit {0}
  AllMean ts [] (n ∷ q) = ⊥
  AllMean ts (f ∷ fs) [] = ⊥
  AllMean ts (f ∷ fs) (n ∷ q) = Means ts f n × AllMean ts fs q

  -- the scalar is read from the cell of the mark
  abbrev pub IsCell : List ℕ → Sign → Mark → Type 0
  IsCell ts (Read a f) (Spot b i) = (a ≡ b) × Means ts f i
  IsCell ts _ _ = ⊥

  -- the view has these cells, at these turns and within further loops
  abbrev pub HasCells : List ℕ → Ty → View → Marks → Type 0
  HasCells ts t x y =
      (us : List ℕ) (cs : List Bool) (is : List Formula) (q : List ℕ) → IsPosition t cs q
      → AllMean (ts ++ us) is q → IsCell (ts ++ us) (x cs is) (y cs q)

  -- a view shows the cells of an array, or of each array in a pair
  abbrev pub Shows : List ℕ → Ty → View → Marks → Type 0
  Shows ts Scalar x y = Unit {0}
  Shows ts (PairOf a b) x y =
      Shows ts a (λ cs. x (false ∷ cs)) (λ cs. y (false ∷ cs))
      × Shows ts b (λ cs. x (true ∷ cs)) (λ cs. y (true ∷ cs))
  Shows ts (ArrayOf n t) x y = HasCells ts (ArrayOf n t) x y

  -- ---- where vectors lie
  -- a value lies in one array in row-major order, so many values of its size before it; at fewer
  -- indices than a scalar has the view gives the number of the whole value that is there
  pub record IsWhole (ts : List ℕ) (ty : Ty) (x : View) (y : Marks) : Type 0 where
    pub array : Array
    pub before : ℕ
    pub lies : (q : List ℕ) → IsPosition ty [] q
        → y [] q ≡ Spot array (before * size ty + flat ty q)
    pub shows : (o : Ty) → IsOuter o ty
        → HasCells ts o x (λ cs q. Spot array (before * size o + flat o q))

  -- each vector of these arrays is the four cells at an offset, which the view gives at its indices
  pub record AreFours (ts ns : List ℕ) (x : View) (y : Marks) : Type 0 where
    pub array : Array
    pub offset : List ℕ → ℕ
    pub lies : (q : List ℕ) → IsPosition (in_arrays ns Scalar) [] q
        → AreFourCells (λ p. y [] (q ++ p)) array (offset q)
    pub shows : HasCells ts (in_arrays ns Scalar) x (λ cs q. Spot array (offset q))

  -- a value that lies so
  abbrev pub LiesAs : Lie → List ℕ → Ty → View → Marks → Type 0
  LiesAs Held ts ty x y = Unit {0}
  LiesAs Loose ts ty x y = Unit {0}
  LiesAs Whole ts ty x y = IsWhole ts ty x y
  LiesAs (InFours k) ts ty x y =
      (ns : List ℕ) → length ns ≡ k → ty ≡ in_arrays ns four → AreFours ts ns x y

  -- what isn't in variables has cells, and lies so
  abbrev pub ShowsAs : Lie → List ℕ → Ty → View → Marks → Type 0
  ShowsAs Held ts ty x y = Unit {0}
  ShowsAs Loose ts ty x y = Shows ts ty x y
  ShowsAs Whole ts ty x y = Shows ts ty x y × IsWhole ts ty x y
  ShowsAs (InFours k) ts ty x y = Shows ts ty x y × LiesAs (InFours k) ts ty x y

  -- so does what stands for each binder
  abbrev pub AllShow : List ℕ → (ℕ → Lie) → (ℕ → Ty) → (ℕ → View) → (ℕ → Marks) → Type 0
  AllShow ts lies g views env = (v : ℕ) → ShowsAs (lies v) ts (g v) (views v) (env v)
