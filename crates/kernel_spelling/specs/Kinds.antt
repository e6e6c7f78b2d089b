-- What a piece is.
use Rattle.std.specs.Prelude.{ℕ, ◌-◌, List, [], ◌∷◌, Option, Some, None, cond, bytes_eq, nat_lt, ◌&&◌, decimal, codes, length, take, drop}
use Rattle.std.specs.Str.Parse.{digits_value}
use Rattle.scalar_ops.specs.declared.op.Op.{Op}
use Rattle.scalar_ops.specs.declared.op.Op.TheVariants.{Add, Mul, Min, Max, And, Or, Xor, Sub, Div, Rem}
use Rattle.kernel_tree.specs.declared.tree.Array.TheVariants as array
use Rattle.kernel_tree.specs.declared.tree.Dimension.{Dimension}
use Rattle.kernel_tree.specs.declared.tree.Dimension.TheVariants.{X, Y}
use Rattle.kernel_tree.specs.Formula.{IdForm, GlobalId, GroupId, LocalId, GlobalSize, GroupCount, LocalSize}
use Rattle.kernel_tree.specs.KernelText.{Piece, number_limit, id_name, plus, minus, star, slash, percent, ampersand, bar, caret, least, greatest, nought, one}
use Rattle.kernel_spelling.specs.declared.kinds.Kind.{Kind}
use Rattle.kernel_spelling.specs.declared.kinds.Kind.TheVariants.{Array, Size, Variable, Vector, LoopVariable, Literal, Decimal, Other}

-- the number whose decimal this is
abbrev pub number_in : List ℕ → Option ℕ
number_in ds =
    let n = digits_value 10 ds in cond (nat_lt n number_limit && bytes_eq (decimal n) ds)
    (Some n) None

-- the number behind a letter
abbrev pub named_in : ℕ → List ℕ → Option ℕ
named_in letter p = cond (bytes_eq (take 1 p) (letter ∷ [])) (number_in (drop 1 p)) None

-- the number before u
abbrev pub literal_in : List ℕ → Option ℕ
literal_in p =
    cond (bytes_eq (drop (length p - 1) p) (codes "u")) (number_in (take (length p - 1) p)) None

-- the kind of this number, or else the rest
abbrev pub kind_or : (ℕ → Kind) → Option ℕ → Kind → Kind
kind_or f (Some k) rest = f k
kind_or f None rest = rest

-- the kind of what is no name
abbrev pub number_kind : List ℕ → Kind
number_kind p = kind_or Literal (literal_in p) (kind_or Decimal (number_in p) Other)

-- the kind of what is no other name than an array's
abbrev pub array_kind : List ℕ → Kind
array_kind p =
    kind_or (λ k. Array (array.Input k)) (named_in 97 p) (
    kind_or (λ k. Array (array.Output k)) (named_in 111 p) (
    kind_or (λ k. Array (array.Local k)) (named_in 108 p) (
    kind_or (λ k. Array (array.Private k)) (named_in 112 p) (
    number_kind p))))

-- what a piece is
abbrev pub kind_of : List ℕ → Kind
kind_of p =
    kind_or Variable (named_in 118 p) (
    kind_or Vector (named_in 119 p) (
    kind_or LoopVariable (named_in 105 p) (
    kind_or Size (named_in 115 p) (
    array_kind p))))

-- ---- words and signs

-- what stands beside the piece in a list
abbrev pub beside : {A : Type 0} → List (Piece × A) → Piece → Option A
beside [] p = None
beside (x ∷ xs) p = cond (bytes_eq p x.0) (Some x.1) (beside xs p)

-- the names of the ids
abbrev pub ids : List (Piece × IdForm)
ids =
    (id_name GlobalId, GlobalId) ∷ (id_name GroupId, GroupId) ∷ (id_name LocalId, LocalId)
    ∷ (id_name GlobalSize, GlobalSize) ∷ (id_name GroupCount, GroupCount)
    ∷ (id_name LocalSize, LocalSize) ∷ []

-- the signs of one piece
abbrev pub signs : List (Piece × Op)
signs =
    (plus, Add) ∷ (minus, Sub) ∷ (star, Mul) ∷ (slash, Div) ∷ (percent, Rem) ∷ (ampersand, And)
    ∷ (bar, Or) ∷ (caret, Xor) ∷ []

-- the operators that are called
abbrev pub calls : List (Piece × Op)
calls = (least, Min) ∷ (greatest, Max) ∷ []

-- the dimensions, as an id names them
abbrev pub dimensions : List (Piece × Dimension)
dimensions = (nought, X) ∷ (one, Y) ∷ []

-- the id that a piece names
abbrev pub id_in : Piece → Option IdForm
id_in p = beside ids p

-- the operator whose sign this is
abbrev pub sign_in : Piece → Option Op
sign_in p = beside signs p

-- the operator that is called so
abbrev pub call_in : Piece → Option Op
call_in p = beside calls p

-- the dimension that a piece names
abbrev pub dimension_in : Piece → Option Dimension
dimension_in p = beside dimensions p
