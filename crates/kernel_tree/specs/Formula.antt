-- The expressions of a kernel, and their values.
use Rattle.std.specs.Prelude.{ℕ, ◌/◌, ◌%◌, Bool, true, false, List, [], Option, Some, None, option_map, slice_index, slice_index_or, slice_set, nat_lt, nat_eq, ◌==◌, ◌&&◌, if◌then◌else◌}
use Rattle.scalar_ops.specs.declared.op.Op.{Op}
use Rattle.scalar_ops.specs.declared.op.Op.TheVariants.{Add, Mul, Min, Max, And, Or, Xor, Sub, Shl, Shr, Lt, Eq, Div, Rem}
use Rattle.scalar_ops.specs.Operators.{apply_op}
use Rattle.kernel_tree.specs.declared.tree.Dimension.{Dimension}
use Rattle.kernel_tree.specs.declared.tree.Dimension.TheVariants.{X, Y}

-- what a work-item can ask about itself and the launch, in one dimension
pub data IdForm : Type 0 where
  GlobalId GroupId LocalId GlobalSize GroupCount LocalSize : IdForm

-- how a conditional compares
pub data Comparison : Type 0 where
  Less Equal : Comparison

-- an expression, whatever holds it. `Choose` is C's conditional: where the comparison holds of the
-- first two, the third, else the fourth
pub data Formula : Type 0 where
  Number : ℕ → Formula
  Variable : ℕ → Formula
  LoopVariable : ℕ → Formula
  Size : ℕ → Formula
  Id : Dimension → IdForm → Formula
  Binary : Op → Formula → Formula → Formula
  Choose : Comparison → Formula → Formula → Formula → Formula → Formula

-- what a work-item knows of itself and the launch along one dimension
pub record IdsAlong : Type 0 where
  pub global_id : ℕ
  pub group_id : ℕ
  pub local_id : ℕ
  pub global_size : ℕ
  pub group_count : ℕ
  pub local_size : ℕ

-- the ids at this place of a dimension, where there are so many items, and so many in a group
abbrev pub ids_along : (global local place : ℕ) → IdsAlong
ids_along global local place = record {
  global_id = place;
  group_id = place / local;
  local_id = place % local;
  global_size = global;
  group_count = global / local;
  local_size = local;
}

-- what a work-item knows of itself and the launch
pub record Ids : Type 0 where
  pub x : IdsAlong
  pub y : IdsAlong
  pub sizes : List ℕ

-- the ids of one dimension
abbrev pub along : Ids → Dimension → IdsAlong
along ids X = ids.x
along ids Y = ids.y

-- the answer to what an item asks
abbrev pub id_value : IdsAlong → IdForm → ℕ
id_value ids GlobalId = ids.global_id
id_value ids GroupId = ids.group_id
id_value ids LocalId = ids.local_id
id_value ids GlobalSize = ids.global_size
id_value ids GroupCount = ids.group_count
id_value ids LocalSize = ids.local_size

-- the operators whose second operand is a divisor
abbrev pub divides : Op → Bool
divides Div = true
divides Rem = true
divides Add = false
divides Mul = false
divides Min = false
divides Max = false
divides And = false
divides Or = false
divides Xor = false
divides Sub = false
divides Shl = false
divides Shr = false
divides Lt = false
divides Eq = false

-- none at a divisor of 0
abbrev pub operate : Op → ℕ → ℕ → Option ℕ
operate o x y = if divides o && (y == 0) then None else Some (apply_op o x y)

-- whether the comparison holds
abbrev pub compare : Comparison → ℕ → ℕ → Bool
compare Less x y = nat_lt x y
compare Equal x y = nat_eq x y

-- what comes of two values; none where one of them has none
abbrev pub with_both : {A B : Type 0} → (A → A → Option B) → Option A → Option A → Option B
with_both f None y = None
with_both f (Some x) None = None
with_both f (Some x) (Some y) = f x y

-- Four words

-- four words, one in each lane
pub record Four : Type 0 where
  pub x : ℕ
  pub y : ℕ
  pub z : ℕ
  pub w : ℕ

-- a word in each lane
abbrev pub spread : ℕ → Four
spread n = record { x = n; y = n; z = n; w = n }

-- an expression of four words, lane by lane
pub data Lanes : Type 0 where
  Vector : ℕ → Lanes
  Spread : Formula → Lanes
  Each : Op → Lanes → Lanes → Lanes

-- four words, where there are all
abbrev pub four_if : Option ℕ → Option ℕ → Option ℕ → Option ℕ → Option Four
four_if (Some a) (Some b) (Some c) (Some d) = Some (record { x = a; y = b; z = c; w = d })
four_if _ _ _ _ = None

-- none where a lane has none
abbrev pub operate_each : Op → Four → Four → Option Four
operate_each o u v =
    four_if (operate o u.x v.x) (operate o u.y v.y) (operate o u.z v.z) (operate o u.w v.w)

-- Values

-- the private variables of a work-item: words, and fours of words
pub record Vars : Type 0 where
  pub words : List ℕ
  pub vectors : List Four

-- no variables
abbrev pub no_vars : Vars
no_vars = record { words = []; vectors = [] }

-- the word of a variable
abbrev pub word : Vars → ℕ → ℕ
word vars v = slice_index vars.words v

-- the words of a variable of four
abbrev pub vector : Vars → ℕ → Four
vector vars v = slice_index_or vars.vectors v (spread 0)

-- variables with this word in one
abbrev pub set_word : Vars → ℕ → ℕ → Vars
set_word vars v n = record { words = slice_set vars.words v n; vectors = vars.vectors }

-- variables with these words in one
abbrev pub set_vector : Vars → ℕ → Four → Vars
set_vector vars v u = record { words = vars.words; vectors = slice_set vars.vectors v u }

-- the value of an expression on words of 32 bits; none where it meets a divisor of 0. The loop
-- variables are those of the enclosing loops, outermost first
abbrev pub value : Ids → (loops : List ℕ) → Vars → Formula → Option ℕ
value ids loops vars (Number n) = Some n
value ids loops vars (Variable v) = Some (word vars v)
value ids loops vars (LoopVariable i) = Some (slice_index loops i)
value ids loops vars (Size s) = Some (slice_index ids.sizes s)
value ids loops vars (Id d form) = Some (id_value (along ids d) form)
value ids loops vars (Binary o a b) =
    with_both (operate o) (value ids loops vars a) (value ids loops vars b)
value ids loops vars (Choose c a b x y) =
    with_both (λ m n. if compare c m n then value ids loops vars x else value ids loops vars y)
    (value ids loops vars a) (value ids loops vars b)

-- the ids are not looked at by literals, sizes and operators
abbrev pub sizes_alone : List ℕ → Ids
sizes_alone sizes = record { x = ids_along 0 0 0; y = ids_along 0 0 0; sizes = sizes }

-- the value of a loop's bound, which is of literals, sizes and operators alone
abbrev pub bound_value : (sizes : List ℕ) → Formula → Option ℕ
bound_value sizes b = value (sizes_alone sizes) [] no_vars b

-- the value of an expression of four words; none where a lane meets a divisor of 0
abbrev pub lanes_value : Ids → (loops : List ℕ) → Vars → Lanes → Option Four
lanes_value ids loops vars (Vector v) = Some (vector vars v)
lanes_value ids loops vars (Spread e) = option_map spread (value ids loops vars e)
lanes_value ids loops vars (Each o a b) =
    with_both (operate_each o) (lanes_value ids loops vars a) (lanes_value ids loops vars b)
