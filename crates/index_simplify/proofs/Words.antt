-- A simplified expression has literals that are words where the expression has.
use Rattle.std.proofs.Common.{◌≡◌, ℕ, ◌+◌, ◌-◌, ◌*◌, ◌^◌, ◌<◌, Bool, true, false, Option, Some, None, refl, arith}
use Rattle.std.specs.Prelude.{nat_lt, nat_le, unwrap_or, if◌then◌else◌}
use Rattle.std.proofs.Math.Nat.{div-le_self, mod-le}
use Rattle.std.proofs.lemmas.Bool.{ltb-true}
use Rattle.index_expr.specs.declared.operation.Operation.{Operation}
use Rattle.index_expr.specs.declared.operation.Operation.TheVariants.{Sum, Difference, Product, Quotient, Remainder, Least, Greatest}
use Rattle.index_expr.specs.Expression.{Expression, Variable, Literal, Size, Binary}
use Rattle.index_simplify.specs.PlainRanges.{PlainRanges}
use Rattle.index_simplify.specs.declared.law.Law.{Law}
use Rattle.index_simplify.specs.declared.law.Law.TheVariants as law
use Rattle.index_simplify.specs.declared.law.TheConstants.{LAWS}
use Rattle.index_simplify.specs.Literals.{word, difference, computed_from, computed_with, computed}
use Rattle.index_simplify.specs.Laws.{first_part, second_part, scaled, applied}
use Rattle.index_simplify.specs.Operations.{first_law, by_law, tabled}
use Rattle.index_simplify.specs.Simplified.{HasWordLiterals}

-- ---- operations on two words
word_word : (n : ℕ) → unwrap_or (word n) 0 < 2 ^ 32
word_word n = go (nat_lt n (2 ^ 32)) refl
  where
    go : (b : Bool) → nat_lt n (2 ^ 32) ≡ b → unwrap_or (if b then Some n else None) 0 < 2 ^ 32
    go true e = ltb-true n (2 ^ 32) e
    go false e = omega arith

difference_word : (m n : ℕ) → m < 2 ^ 32 → unwrap_or (difference m n) 0 < 2 ^ 32
difference_word m n lt = go (nat_le n m)
  where
    go : (b : Bool) → unwrap_or (if b then Some (m - n) else None) 0 < 2 ^ 32
    go true = omega arith
    go false = omega arith

from_word : (o : Operation) (m n : ℕ) → m < 2 ^ 32 → n < 2 ^ 32 → unwrap_or (computed_from o m n) 0 < 2 ^ 32
from_word Sum m n x y = word_word (m + n)
from_word Difference m n x y = difference_word m n x
from_word Product m n x y = word_word (m * n)
from_word Quotient m n x y = let le = div-le_self m n in omega arith
from_word Remainder m n x y = let le = mod-le m n in omega arith
from_word Least m n x y = omega arith
from_word Greatest m n x y = omega arith

with_word : (o : Operation) (m : ℕ) (b : Expression) → m < 2 ^ 32 → HasWordLiterals b → unwrap_or (computed_with o m b) 0 < 2 ^ 32
with_word o m (Literal n) x y = from_word o m n x y
with_word o m _ x y = omega arith

computed_word : (o : Operation) (a b : Expression) → HasWordLiterals a → HasWordLiterals b → unwrap_or (computed o a b) 0 < 2 ^ 32
computed_word o (Literal m) b x y = with_word o m b x y
computed_word o _ b x y = omega arith

-- ---- parts
first_words : (e : Expression) → HasWordLiterals e → HasWordLiterals (first_part e)
first_words (Variable k l g) h = h
first_words (Literal n) h = h
first_words (Size k) h = h
first_words (Binary o a b) h = h.0

second_words : (e : Expression) → HasWordLiterals e → HasWordLiterals (second_part e)
second_words (Variable k l g) h = h
second_words (Literal n) h = h
second_words (Size k) h = h
second_words (Binary o a b) h = h.1

scaled_words : (a b : Expression) → HasWordLiterals a → HasWordLiterals b → HasWordLiterals (scaled a b)
scaled_words a (Variable k l g) x y = y
scaled_words a (Literal n) x y = y
scaled_words a (Size k) x y = y
scaled_words a (Binary o size d) x y = (computed_word Quotient a d x y.1, y.0)

applied_words : (l : Law) (o : Operation) (a b : Expression) → HasWordLiterals a → HasWordLiterals b → HasWordLiterals (applied l o a b)
applied_words law.Computed o a b x y = computed_word o a b x y
applied_words law.PlusZero o a b x y = x
applied_words law.ZeroPlus o a b x y = y
applied_words law.MinusZero o a b x y = x
applied_words law.MinusItself o a b x y = omega arith
applied_words law.TimesOne o a b x y = x
applied_words law.OneTimes o a b x y = y
applied_words law.TimesZero o a b x y = omega arith
applied_words law.ZeroTimes o a b x y = omega arith
applied_words law.OverOne o a b x y = x
applied_words law.ModuloOne o a b x y = omega arith
applied_words law.WholeSize o a b x y = first_words b y
applied_words law.ScaledSize o a b x y = scaled_words a b x y
applied_words law.RowOfCell o a b x y = first_words (first_part a) (first_words a x)
applied_words law.ColumnOfCell o a b x y = second_words a x
applied_words law.CellOfParts o a b x y = first_words (first_part a) (first_words a x)
applied_words law.GreatestZero o a b x y = x
applied_words law.ZeroGreatest o a b x y = y
applied_words law.LeastZero o a b x y = omega arith
applied_words law.ZeroLeast o a b x y = omega arith

by_words : (found : Option Law) (o : Operation) (a b : Expression) → HasWordLiterals a → HasWordLiterals b → HasWordLiterals (by_law found o a b)
by_words None o a b x y = (x, y)
by_words (Some l) o a b x y = applied_words l o a b x y

pub tabled_words : (r : PlainRanges) (e : Expression) → HasWordLiterals e → HasWordLiterals (tabled r e)
tabled_words r (Variable k l g) h = h
tabled_words r (Literal n) h = h
tabled_words r (Size k) h = h
tabled_words r (Binary o a b) h = by_words (first_law r o (tabled r a) (tabled r b) LAWS) o (tabled r a) (tabled r b) (tabled_words r a h.0) (tabled_words r b h.1)
