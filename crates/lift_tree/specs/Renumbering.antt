-- Variables' numbers where a binder is put in or taken out.
use Rattle.std.specs.Prelude.{ℕ, zero, suc, ◌+◌, ◌<◌, ◌^◌, Bool, false, ◌||◌, nat_eq, Option, Some, None, option_map}
use Rattle.lift_tree.specs.Tree.{Tree, Variable, Number, Input, Unary, Binary, Select, Let, Map, Fold, height}

-- a variable's number after so many more binders at k
abbrev pub up : ℕ → ℕ → ℕ → ℕ
up more zero n = n + more
up more (suc k) zero = zero
up more (suc k) (suc n) = suc (up more k n)

-- the term after so many more binders at k
abbrev pub shift : ℕ → ℕ → Tree → Tree
shift more k (Variable n) = Variable (up more k n)
shift more k (Number n) = Number n
shift more k (Input n) = Input n
shift more k (Unary f t) = Unary f (shift more k t)
shift more k (Binary f t u) = Binary f (shift more k t) (shift more k u)
shift more k (Select t u v) = Select (shift more k t) (shift more k u) (shift more k v)
shift more k (Let v b) = Let (shift more k v) (shift more (suc k) b)
shift more k (Map h xs b) = Map h (shift more k xs) (shift more (suc k) b)
shift more k (Fold h xs s b) =
    Fold h (shift more k xs) (shift more k s) (shift more (suc (suc k)) b)

-- the term after one more binder at k
abbrev pub raise : ℕ → Tree → Tree
raise k t = shift 1 k t

-- a variable's number after the binder k is taken out; none where it names that binder
abbrev pub down : ℕ → ℕ → Option ℕ
down zero zero = None
down zero (suc n) = Some n
down (suc k) zero = Some zero
down (suc k) (suc n) = option_map suc (down k n)

-- the variable, or where it names the binder k, the value behind the k binders between
abbrev pub put_variable : ℕ → Tree → Option ℕ → Tree
put_variable k value None = shift k 0 value
put_variable k value (Some n) = Variable n

-- the term with a value for the binder k
abbrev pub put : ℕ → Tree → Tree → Tree
put k value (Variable n) = put_variable k value (down k n)
put k value (Number n) = Number n
put k value (Input n) = Input n
put k value (Unary f t) = Unary f (put k value t)
put k value (Binary f t u) = Binary f (put k value t) (put k value u)
put k value (Select t u v) = Select (put k value t) (put k value u) (put k value v)
put k value (Let v b) = Let (put k value v) (put (suc k) value b)
put k value (Map h xs b) = Map h (put k value xs) (put (suc k) value b)
put k value (Fold h xs s b) = Fold h (put k value xs) (put k value s) (put (suc (suc k)) value b)

-- the body with a value for its nearest binder
abbrev pub substitute : (body value : Tree) → Tree
substitute body value = put 0 value body

-- whether the term names the binder k
abbrev pub mentions : ℕ → Tree → Bool
mentions k (Variable n) = nat_eq n k
mentions k (Number n) = false
mentions k (Input n) = false
mentions k (Unary f t) = mentions k t
mentions k (Binary f t u) = mentions k t || mentions k u
mentions k (Select t u v) = mentions k t || (mentions k u || mentions k v)
mentions k (Let v b) = mentions k v || mentions (suc k) b
mentions k (Map h xs b) = mentions k xs || mentions (suc k) b
mentions k (Fold h xs s b) = mentions k xs || (mentions k s || mentions (suc (suc k)) b)

-- every variable's number is below the bound
abbrev pub AllBelow : ℕ → Tree → Type 0
AllBelow bound (Variable n) = n < bound
AllBelow bound (Number n) = Unit {0}
AllBelow bound (Input n) = Unit {0}
AllBelow bound (Unary f t) = AllBelow bound t
AllBelow bound (Binary f t u) = AllBelow bound t × AllBelow bound u
AllBelow bound (Select t u v) = AllBelow bound t × AllBelow bound u × AllBelow bound v
AllBelow bound (Let v b) = AllBelow bound v × AllBelow bound b
AllBelow bound (Map h xs b) = AllBelow bound xs × AllBelow bound b
AllBelow bound (Fold h xs s b) = AllBelow bound xs × AllBelow bound s × AllBelow bound b

-- numbers and height are so small that all may be renumbered
pub record IsRenumberable (t : Tree) : Type 0 where
  pub numbers : AllBelow (2 ^ 31) t
  pub height : height t < 2 ^ 31
