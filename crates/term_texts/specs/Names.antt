-- Names in a term's text.
use Rattle.std.specs.Prelude.{ℕ, ◌+◌, ◌-◌, ◌*◌, ◌++◌, List, [], ◌∷◌, Bool, true, false, ◌==◌, if◌then◌else◌, min, codes, decimal}
use Rattle.scalar_ops.specs.declared.op.Reducer.{Reducer}
use Rattle.scalar_ops.specs.declared.op.Reducer.TheVariants.{Add, Mul, Min, Max, And, Or, Xor}
use Rattle.lift_tree.specs.declared.length.Factor.{Factor}
use Rattle.lift_tree.specs.declared.length.Factor.TheVariants.{Number, Size}
use Rattle.lift_tree.specs.declared.program.Size as declared
use Rattle.lift_tree.specs.declared.term.Operator.{Operator}
use Rattle.lift_tree.specs.declared.term.Operator.TheVariants.{Regrouping, Sub, Shl, Shr, Lt, Eq}
use Rattle.lift_tree.specs.declared.term.BinaryForm.{BinaryForm}
use Rattle.lift_tree.specs.declared.term.BinaryForm.TheVariants as binary
use Rattle.lift_tree.specs.declared.term.MapKind.{MapKind}
use Rattle.lift_tree.specs.declared.term.MapKind.TheVariants as map
use Rattle.lift_tree.specs.declared.term.Level.TheVariants as level
use Rattle.lift_tree.specs.declared.term.Dimension.TheVariants as dimension
use Rattle.lift_tree.specs.declared.term.FoldKind.{FoldKind}
use Rattle.lift_tree.specs.declared.term.FoldKind.TheVariants as fold
use Rattle.lift_tree.specs.Programs.{PlainInput}

-- the word of an operator that may reduce
abbrev pub reducer_name : Reducer → List ℕ
reducer_name Add = codes "add"
reducer_name Mul = codes "mul"
reducer_name Min = codes "min"
reducer_name Max = codes "max"
reducer_name And = codes "and"
reducer_name Or = codes "or"
reducer_name Xor = codes "xor"

-- the word of an operator
abbrev pub operator_name : Operator → List ℕ
operator_name (Regrouping r) = reducer_name r
operator_name Sub = codes "sub"
operator_name Shl = codes "shl"
operator_name Shr = codes "shr"
operator_name Lt = codes "lt"
operator_name Eq = codes "eq"

-- the form is a reduction
abbrev pub is_reduce : BinaryForm → Bool
is_reduce (binary.Operator o) = false
is_reduce binary.Pair = false
is_reduce binary.Zip = false
is_reduce (binary.Reduce r) = true

-- what stands before the first child that is written
abbrev pub binary_start : BinaryForm → List ℕ
binary_start (binary.Operator o) = operator_name o ++ codes "("
binary_start binary.Pair = codes "pair("
binary_start binary.Zip = codes "zip("
binary_start (binary.Reduce r) = codes "reduce(" ++ reducer_name r ++ codes ", "

-- the word of a map, by who runs its turns
abbrev pub map_name : MapKind → List ℕ
map_name map.Plain = codes "map"
map_name (map.Over level.Launch dimension.X) = codes "mapGlb"
map_name (map.Over level.Groups dimension.X) = codes "mapWrg"
map_name (map.Over level.Items dimension.X) = codes "mapLcl"
map_name (map.Over level.Launch dimension.Y) = codes "mapGlb1"
map_name (map.Over level.Groups dimension.Y) = codes "mapWrg1"
map_name (map.Over level.Items dimension.Y) = codes "mapLcl1"
map_name map.Sequential = codes "mapSeq"

-- the word of a fold, by who runs it
abbrev pub fold_name : FoldKind → List ℕ
fold_name fold.Plain = codes "fold"
fold_name fold.Sequential = codes "foldSeq"

-- the input of this number; empty where there is none
abbrev pub input_name : List PlainInput → ℕ → List ℕ
input_name [] n = []
input_name (i ∷ is) n = if n == 0 then i.name else input_name is (n - 1)

-- ---- products
-- the product of the numbers; it stands still at 2^64 - 1
abbrev pub coefficient : List Factor → ℕ
coefficient [] = 1
coefficient (Number n ∷ fs) = min (n * coefficient fs) 18446744073709551615
coefficient (Size i ∷ fs) = coefficient fs

-- the word once for each factor that names the size
abbrev pub copies : List ℕ → ℕ → List Factor → List ℕ
copies word i [] = []
copies word i (Number n ∷ fs) = copies word i fs
copies word i (Size j ∷ fs) = if j == i then word ++ copies word i fs else copies word i fs

-- the names in the order of the declarations, each behind a star
abbrev pub starred : List declared.Size → ℕ → List Factor → List ℕ
starred [] i fs = []
starred (s ∷ ss) i fs = copies (42 ∷ s.name) i fs ++ starred ss (i + 1) fs

-- a coefficient 1 is left out where there is a name, with the star behind it
abbrev pub product_text : ℕ → List ℕ → List ℕ
product_text c [] = decimal c
product_text c (star ∷ names) = if c == 1 then names else decimal c ++ star ∷ names
