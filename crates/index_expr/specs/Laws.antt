-- What an index expression is worth on words.
use Rattle.std.specs.Prelude.{ℕ, ◌≡◌, pos, List}
use Rattle.index_expr.specs.Expression.{Expression}
use Rattle.index_expr.specs.Values.{exact, wrapped, IsRangedAt, HasNoZeroDivisorAt, HasNoZeroDivisorInWordsAt}

-- where it is ranged, its value on words is the exact value
abbrev pub RangedValuesAreExact : Type 0
RangedValuesAreExact =
    (sizes variables : List ℕ) (e : Expression)
    → IsRangedAt sizes variables e → pos (wrapped sizes variables e) ≡ exact sizes variables e

-- and there no divisor's value on words is 0, where none is over the whole numbers
abbrev pub RangedDivisorsStay : Type 0
RangedDivisorsStay =
    (sizes variables : List ℕ) (e : Expression)
    → IsRangedAt sizes variables e → HasNoZeroDivisorAt sizes variables e
    → HasNoZeroDivisorInWordsAt sizes variables e
