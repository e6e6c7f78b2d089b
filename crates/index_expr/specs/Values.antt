-- Values of index expressions, over the whole numbers and on words of 32 bits.
use Rattle.std.specs.Prelude.{ℕ, ℤ, pos, ◌≢◌, ◌+◌, ◌-◌, ◌*◌, ◌/◌, ◌%◌, ◌^◌, ◌<◌, ◌+ℤ◌, ◌-ℤ◌, ◌*ℤ◌, ◌≤ℤ◌, int_div, int_rem, unsigned_abs, min, max, List, slice_index}
use Rattle.std.specs.Int.{int_min, int_max}
use Rattle.index_expr.specs.declared.operation.Operation.{Operation}
use Rattle.index_expr.specs.declared.operation.Operation.TheVariants.{Sum, Difference, Product, Quotient, Remainder, Least, Greatest}
use Rattle.index_expr.specs.declared.point.Point.{Point}
use Rattle.index_expr.specs.Expression.{Expression, Variable, Literal, Size, Binary}

-- what an operation gives over the whole numbers; a quotient is rounded toward 0
abbrev pub operate : Operation → ℤ → ℤ → ℤ
operate Sum a b = a +ℤ b
operate Difference a b = a -ℤ b
operate Product a b = a *ℤ b
operate Quotient a b = int_div a b
operate Remainder a b = int_rem a b
operate Least a b = int_min a b
operate Greatest a b = int_max a b

-- on words of 32 bits sums, differences and products wrap
abbrev pub operate_words : Operation → ℕ → ℕ → ℕ
operate_words Sum a b = (a + b) % 2 ^ 32
operate_words Difference a b = (a + (2 ^ 32 - b)) % 2 ^ 32
operate_words Product a b = (a * b) % 2 ^ 32
operate_words Quotient a b = a / b
operate_words Remainder a b = a % b
operate_words Least a b = min a b
operate_words Greatest a b = max a b

-- the value over the whole numbers, where the sizes and the variables have these values
abbrev pub exact : (sizes variables : List ℕ) → Expression → ℤ
exact sizes variables (Variable k l g) = pos (slice_index variables k)
exact sizes variables (Literal n) = pos n
exact sizes variables (Size k) = pos (slice_index sizes k)
exact sizes variables (Binary o a b) = operate o (exact sizes variables a) (exact sizes variables b)

-- the value on words of 32 bits
abbrev pub wrapped : (sizes variables : List ℕ) → Expression → ℕ
wrapped sizes variables (Variable k l g) = slice_index variables k % 2 ^ 32
wrapped sizes variables (Literal n) = n % 2 ^ 32
wrapped sizes variables (Size k) = slice_index sizes k % 2 ^ 32
wrapped sizes variables (Binary o a b) =
    operate_words o (wrapped sizes variables a) (wrapped sizes variables b)

-- it holds of each operation of the expression and its arguments
abbrev pub EachOperation : (Operation → (first second : Expression) → Type 0) → Expression → Type 0
EachOperation P (Variable k l g) = Unit {0}
EachOperation P (Literal n) = Unit {0}
EachOperation P (Size k) = Unit {0}
EachOperation P (Binary o a b) = P o a b × EachOperation P a × EachOperation P b

-- a quotient or a remainder
abbrev pub Divides : Operation → Type 0
Divides Quotient = Unit {0}
Divides Remainder = Unit {0}
Divides _ = ⊥

-- what it gives on words that wrapped tells nothing of the exact result
abbrev pub WantsWords : Operation → Type 0
WantsWords Sum = ⊥
WantsWords Difference = ⊥
WantsWords Product = ⊥
WantsWords _ = Unit {0}

-- a number from 0 to 4,294,967,295
abbrev pub IsWord : ℤ → Type 0
IsWord z = (pos 0 ≤ℤ z) × (z ≤ℤ pos 4294967295)

-- the arguments of each quotient, remainder, least and greatest number are words
abbrev pub HasWordArgumentsAt : (sizes variables : List ℕ) → Expression → Type 0
HasWordArgumentsAt sizes variables e =
    EachOperation
    (λ o a b. WantsWords o
    → IsWord (exact sizes variables a) × IsWord (exact sizes variables b)) e

-- and so is the whole
abbrev pub IsRangedAt : (sizes variables : List ℕ) → Expression → Type 0
IsRangedAt sizes variables e =
    HasWordArgumentsAt sizes variables e × IsWord (exact sizes variables e)

-- no divisor's exact value is 0
abbrev pub HasNoZeroDivisorAt : (sizes variables : List ℕ) → Expression → Type 0
HasNoZeroDivisorAt sizes variables e =
    EachOperation (λ o a b. Divides o → exact sizes variables b ≢ pos 0) e

-- no divisor's value on words is 0
abbrev pub HasNoZeroDivisorInWordsAt : (sizes variables : List ℕ) → Expression → Type 0
HasNoZeroDivisorInWordsAt sizes variables e =
    EachOperation (λ o a b. Divides o → wrapped sizes variables b ≢ 0) e

-- the exact value of each part lies above -2^120 and below 2^120. Those of variables,
-- literals and sizes do so anyway
abbrev pub HasBoundedPartsAt : (sizes variables : List ℕ) → Expression → Type 0
HasBoundedPartsAt sizes variables e =
    EachOperation (λ o a b. unsigned_abs (exact sizes variables (Binary o a b)) < 2 ^ 120) e

-- ---- at a point
-- the exact value, where variables and sizes have the point's values
abbrev pub exact_at : Point → Expression → ℤ
exact_at p e = exact p.sizes.items p.variables.items e

-- the value on words of 32 bits there
abbrev pub wrapped_at : Point → Expression → ℕ
wrapped_at p e = wrapped p.sizes.items p.variables.items e

-- the arguments of each quotient, remainder, least and greatest number are words there
abbrev pub HasWordArguments : Point → Expression → Type 0
HasWordArguments p e = HasWordArgumentsAt p.sizes.items p.variables.items e

-- these arguments and the whole are words there
abbrev pub IsRanged : Point → Expression → Type 0
IsRanged p e = IsRangedAt p.sizes.items p.variables.items e

-- no divisor's exact value is 0 there
abbrev pub HasNoZeroDivisor : Point → Expression → Type 0
HasNoZeroDivisor p e = HasNoZeroDivisorAt p.sizes.items p.variables.items e

-- no divisor's value on words is 0 there
abbrev pub HasNoZeroDivisorInWords : Point → Expression → Type 0
HasNoZeroDivisorInWords p e = HasNoZeroDivisorInWordsAt p.sizes.items p.variables.items e

-- the exact value of each part lies above -2^120 and below 2^120 there
abbrev pub HasBoundedParts : Point → Expression → Type 0
HasBoundedParts p e = HasBoundedPartsAt p.sizes.items p.variables.items e
