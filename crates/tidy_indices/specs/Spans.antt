-- Between which words the value of an index expression lies, where intervals show that nothing in
-- it wraps.
use Rattle.std.specs.Prelude.{ℕ, zero, suc, ◌+◌, ◌-◌, ◌*◌, ◌/◌, nat_lt, min, max, if◌then◌else◌, List, Option, Some, None, unwrap_or, slice_get}
use Rattle.size_arith.specs.declared.names.Name.{Name}
use Rattle.index_expr.specs.declared.operation.Operation.{Operation}
use Rattle.index_expr.specs.declared.operation.Operation.TheVariants.{Sum, Difference, Product, Quotient, Remainder, Least, Greatest}
use Rattle.index_expr.specs.Expression.{Expression, Variable, Literal, Size, Binary}
use Rattle.index_simplify.specs.Literals.{word, difference}
use Rattle.tidy_indices.specs.declared.spans.Span.{Span}

-- from the one number to the other
abbrev pub from_to : ℕ → ℕ → Span
from_to l g = record { least = l; greatest = g }

-- from the one to the other, where both are known
abbrev pub between : Option ℕ → Option ℕ → Option Span
between (Some l) (Some g) = Some (from_to l g)
between _ _ = None

-- the quotient, where the divisor isn't 0
abbrev pub quotient : ℕ → ℕ → Option ℕ
quotient m zero = None
quotient m (suc n) = Some (m / suc n)

-- on words of these spans nothing wraps, and no divisor is 0
abbrev pub operated : Operation → Span → Span → Option Span
operated Sum a b = between (word (a.least + b.least)) (word (a.greatest + b.greatest))
operated Difference a b = between (difference a.least b.greatest) (difference a.greatest b.least)
operated Product a b = between (word (a.least * b.least)) (word (a.greatest * b.greatest))
operated Quotient a b = between (quotient a.least b.greatest) (quotient a.greatest b.least)
operated Remainder a b =
    if nat_lt 0 b.least then Some (from_to 0 (min a.greatest (b.greatest - 1))) else None
operated Least a b = Some (from_to (min a.least b.least) (min a.greatest b.greatest))
operated Greatest a b = Some (from_to (max a.least b.least) (max a.greatest b.greatest))

-- the same on spans that are known
abbrev pub operated_on : Operation → Option Span → Option Span → Option Span
operated_on o (Some a) (Some b) = operated o a b
operated_on o _ _ = None

-- from 0 to the greatest turn, where this is known
abbrev pub turns_up_to : Option ℕ → Option Span
turns_up_to (Some g) = Some (from_to 0 g)
turns_up_to None = None

-- the range of a size, where it is declared
abbrev pub declared_from_to : Option Name → Option Span
declared_from_to (Some n) = Some (from_to n.from n.to)
declared_from_to None = None

-- with these sizes, at turns that are at most so great
abbrev pub span_of : List Name → (lasts : List ℕ) → Expression → Option Span
span_of names lasts (Variable k l g) = turns_up_to (slice_get lasts k)
span_of names lasts (Literal n) = Some (from_to n n)
span_of names lasts (Size k) = declared_from_to (slice_get names k)
span_of names lasts (Binary o a b) = operated_on o (span_of names lasts a) (span_of names lasts b)

-- where the range of a turn's variable ends: an id's where its turn does, as far as that is known
abbrev pub narrowed_end : (lasts : List ℕ) → (turn end : ℕ) → ℕ
narrowed_end lasts k g = if nat_lt k 4 then unwrap_or (slice_get lasts k) g else g

-- the range of each id ends where its turn does; that of a loop's variable stays
abbrev pub narrowed : (lasts : List ℕ) → Expression → Expression
narrowed lasts (Variable k l g) = Variable k l (narrowed_end lasts k g)
narrowed lasts (Literal n) = Literal n
narrowed lasts (Size k) = Size k
narrowed lasts (Binary o a b) = Binary o (narrowed lasts a) (narrowed lasts b)
