-- What stands for scalars: private variables, lanes of these, or cells of arrays.
use Rattle.std.specs.Prelude.{◌≡◌, ℕ, ◌+◌, ◌*◌, ◌<◌, ◌==◌, ◌&&◌, Bool, true, false, List, [], ◌∷◌, Option, Some, None, if◌then◌else◌}
use Rattle.kernel_tree.specs.Code.{Array}
use Rattle.lift_ir.specs.Types.{Ty, Scalar, PairOf, ArrayOf, component, flat}
use Rattle.lift_ir.specs.Terms.{LoadSet, Skip, Take, TakeFour, Each}
use Rattle.lift_ir.specs.Scalars.{by_side}
use Rattle.printed_form.specs.Counts.{Count, more, held_count, load_count}

-- what stands for a scalar: a private variable, a lane of one of four words, or a cell of an array
pub data Mark : Type 0 where
  Nowhere : Mark
  Register : (var : ℕ) → Mark
  Lane : (var lane : ℕ) → Mark
  Spot : (array : Array) → (index : ℕ) → Mark

-- what stands for a value, and where a value goes, by pair choices and indices
abbrev pub Marks : Type 0
Marks = List Bool → List ℕ → Mark

-- a value laid in arrays, one a component, the first of which is this
abbrev pub laid_in : (ℕ → Array) → ℕ → Ty → Marks
laid_in form first ty = λ cs q. Spot (form (first + component ty cs)) (flat ty q)

-- a vector in a variable of four words
abbrev pub in_lanes : ℕ → List ℕ → Mark
in_lanes v (j ∷ []) = Lane v j
in_lanes v _ = Nowhere

-- an element in private variables, the first of which are these
abbrev pub held_marks : Ty → Count → Marks
held_marks Scalar n = λ cs q. Register n.words
held_marks (PairOf a b) n =
    by_side (λ q. Nowhere) (held_marks a n) (held_marks b (more n (held_count a)))
held_marks (ArrayOf m t) n = λ cs q. in_lanes n.fours q

-- what stands for an element, once these of its scalars are loaded
abbrev pub loaded_marks : LoadSet → Marks → Count → Marks
loaded_marks Skip x n = x
loaded_marks Take x n = λ cs q. Register n.words
loaded_marks TakeFour x n = λ cs q. in_lanes n.fours q
loaded_marks (Each a b) x n =
    by_side (λ q. Nowhere) (loaded_marks a (λ cs. x (false ∷ cs)) n)
    (loaded_marks b (λ cs. x (true ∷ cs)) (more n (load_count a)))

-- the four scalars of a vector are the four cells at an offset, which counts in fours
pub record AreFourCells (x : List ℕ → Mark) (array : Array) (offset : ℕ) : Type 0 where
  pub at : (j : ℕ) → j < 4 → x (j ∷ []) ≡ Spot array (4 * offset + j)

-- the variable whose lanes in order these are, if they are of one
abbrev pub lanes_of_one : (a b c d : Mark) → Option ℕ
lanes_of_one (Lane a i) (Lane b j) (Lane c k) (Lane d l) =
    if (a == b) && (a == c) && (a == d) && (i == 0) && (j == 1) && (k == 2) && (l == 3)
    then Some a else None
lanes_of_one _ _ _ _ = None
