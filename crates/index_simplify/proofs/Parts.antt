-- What stands first and second in an expression has no more than the whole.
use Rattle.std.proofs.Common.{◌≡◌, ℕ, zero, suc, ◌*◌, ◌/◌, ◌%◌, ◌<◌, ◌≤◌, true, List, refl, arith}
use Rattle.std.specs.Prelude.{◌&&◌, ◌==◌, nat_lt}
use Rattle.std.proofs.lemmas.Bool.{and_from, and_parts, eqb-true, ltb-true}
use Rattle.std.proofs.Math.Nat.{div-add-mod}
use Rattle.index_expr.specs.declared.operation.Operation.{Operation}
use Rattle.index_expr.specs.declared.operation.Operation.TheVariants.{Product, Quotient}
use Rattle.index_expr.specs.Expression.{Expression, Variable, Literal, Size, Binary, nodes}
use Rattle.index_expr.specs.Values.{EachOperation}
use Rattle.index_simplify.specs.declared.law.Law.{Law}
use Rattle.index_simplify.specs.declared.law.Law.TheVariants.{Computed, PlusZero, ZeroPlus, MinusZero, MinusItself, TimesOne, OneTimes, TimesZero, ZeroTimes, OverOne, ModuloOne, WholeSize, ScaledSize, RowOfCell, ColumnOfCell, CellOfParts, GreatestZero, ZeroGreatest, LeastZero, ZeroLeast}
use Rattle.index_simplify.specs.Laws.{first_part, second_part, scaled, applies, applied}
use Rattle.index_simplify.specs.Ranges.{AreWithin}
use Rattle.index_simplify.specs.PlainRanges.{PlainRanges}
use Rattle.index_simplify.specs.Tests.{same_operation, is_multiple, is_part_of, is_part_base, is_scaled_size}
use Rattle.index_simplify.specs.Shapes as shape
use Rattle.index_simplify.specs.Shapes.{IsRedundant, UndoesCell, EachNode, IsPlain, IsSimple}
use Rattle.index_simplify.specs.Simplified.{height, names_are, IsNoLarger}

pub some_node : (e : Expression) → 1 ≤ nodes e
some_node (Variable k l g) = omega arith
some_node (Literal n) = omega arith
some_node (Size k) = omega arith
some_node (Binary o a b) = omega arith

pub some_height : (e : Expression) → 1 ≤ height e
some_height (Variable k l g) = omega arith
some_height (Literal n) = omega arith
some_height (Size k) = omega arith
some_height (Binary o a b) = omega arith

-- ---- what holds of each operation or each node holds in a part
pub first_operations : (P : Operation → Expression → Expression → Type 0) (e : Expression) → EachOperation P e → EachOperation P (first_part e)
first_operations P (Variable k l g) h = h
first_operations P (Literal n) h = h
first_operations P (Size k) h = h
first_operations P (Binary o a b) h = h.1

pub second_operations : (P : Operation → Expression → Expression → Type 0) (e : Expression) → EachOperation P e → EachOperation P (second_part e)
second_operations P (Variable k l g) h = h
second_operations P (Literal n) h = h
second_operations P (Size k) h = h
second_operations P (Binary o a b) h = h.2

first_nodes : (P : Expression → Type 0) (e : Expression) → EachNode P e → EachNode P (first_part e)
first_nodes P (Variable k l g) h = h
first_nodes P (Literal n) h = h
first_nodes P (Size k) h = h
first_nodes P (Binary o a b) h = h.1

second_nodes : (P : Expression → Type 0) (e : Expression) → EachNode P e → EachNode P (second_part e)
second_nodes P (Variable k l g) h = h
second_nodes P (Literal n) h = h
second_nodes P (Size k) h = h
second_nodes P (Binary o a b) h = h.2

pub first_within : (variables : List ℕ) (e : Expression) → AreWithin variables e → AreWithin variables (first_part e)
first_within variables (Variable k l g) h = h
first_within variables (Literal n) h = h
first_within variables (Size k) h = h
first_within variables (Binary o a b) h = h.0

pub second_within : (variables : List ℕ) (e : Expression) → AreWithin variables e → AreWithin variables (second_part e)
second_within variables (Variable k l g) h = h
second_within variables (Literal n) h = h
second_within variables (Size k) h = h
second_within variables (Binary o a b) h = h.1

-- ---- sizes
pub same_small : (e : Expression) → IsNoLarger e e
same_small e = record { nodes = omega arith; height = omega arith; names = λ v s h. h }

pub then_small : (e f g : Expression) → IsNoLarger e f → IsNoLarger f g → IsNoLarger e g
then_small e f g x y = record {
  nodes = omega arith;
  height = omega arith;
  names = λ v s h. y.names v s (x.names v s h);
}

pub left_small : (o : Operation) (a b : Expression) → IsNoLarger (Binary o a b) a
left_small o a b = record {
  nodes = omega arith;
  height = omega arith;
  names = λ v s h. (and_parts (names_are v s a) (names_are v s b) h).0;
}

pub right_small : (o : Operation) (a b : Expression) → IsNoLarger (Binary o a b) b
right_small o a b = record {
  nodes = omega arith;
  height = omega arith;
  names = λ v s h. (and_parts (names_are v s a) (names_are v s b) h).1;
}

pub literal_small : (e : Expression) (n : ℕ) → IsNoLarger e (Literal n)
literal_small e n = record { nodes = some_node e; height = some_height e; names = λ v s h. refl }

first_small : (e : Expression) → IsNoLarger e (first_part e)
first_small (Variable k l g) = same_small (Variable k l g)
first_small (Literal n) = same_small (Literal n)
first_small (Size k) = same_small (Size k)
first_small (Binary o a b) = left_small o a b

second_small : (e : Expression) → IsNoLarger e (second_part e)
second_small (Variable k l g) = same_small (Variable k l g)
second_small (Literal n) = same_small (Literal n)
second_small (Size k) = same_small (Size k)
second_small (Binary o a b) = right_small o a b

within_small : (o : Operation) (a b : Expression) → IsNoLarger (Binary o a b) (first_part (first_part a))
within_small o a b = then_small (Binary o a b) a (first_part (first_part a)) (left_small o a b) (then_small a (first_part a) (first_part (first_part a)) (first_small a) (first_small (first_part a)))

scaled_small : (o : Operation) (a b : Expression) → IsNoLarger (Binary o a b) (scaled a b)
scaled_small o a (Variable k l g) = right_small o a (Variable k l g)
scaled_small o a (Literal n) = right_small o a (Literal n)
scaled_small o a (Size k) = right_small o a (Size k)
scaled_small o a (Binary p size d) = record {
  nodes = (let some = some_node a in let more = some_node d in omega arith);
  height = (let some = some_height a in omega arith);
  names = λ v s h. (and_parts (names_are v s size) (names_are v s d) (and_parts (names_are v s a) (names_are v s size && names_are v s d) h).1).0;
}

pub applied_small : (law : Law) (o : Operation) (a b : Expression) → IsNoLarger (Binary o a b) (applied law o a b)
applied_small Computed o a b = literal_small (Binary o a b) _
applied_small PlusZero o a b = left_small o a b
applied_small ZeroPlus o a b = right_small o a b
applied_small MinusZero o a b = left_small o a b
applied_small MinusItself o a b = literal_small (Binary o a b) 0
applied_small TimesOne o a b = left_small o a b
applied_small OneTimes o a b = right_small o a b
applied_small TimesZero o a b = literal_small (Binary o a b) 0
applied_small ZeroTimes o a b = literal_small (Binary o a b) 0
applied_small OverOne o a b = left_small o a b
applied_small ModuloOne o a b = literal_small (Binary o a b) 0
applied_small WholeSize o a b = then_small (Binary o a b) b (first_part b) (right_small o a b) (first_small b)
applied_small ScaledSize o a b = scaled_small o a b
applied_small RowOfCell o a b = within_small o a b
applied_small ColumnOfCell o a b = then_small (Binary o a b) a (second_part a) (left_small o a b) (second_small a)
applied_small CellOfParts o a b = within_small o a b
applied_small GreatestZero o a b = left_small o a b
applied_small ZeroGreatest o a b = right_small o a b
applied_small LeastZero o a b = literal_small (Binary o a b) 0
applied_small ZeroLeast o a b = literal_small (Binary o a b) 0

pub joined_small : (o : Operation) (a b c d : Expression) → IsNoLarger a c → IsNoLarger b d → IsNoLarger (Binary o a b) (Binary o c d)
joined_small o a b c d x y = record {
  nodes = omega arith;
  height = omega arith;
  names = λ v s h. let parts = and_parts (names_are v s a) (names_are v s b) h in and_from (names_are v s c) (names_are v s d) (x.names v s parts.0) (y.names v s parts.1);
}

-- ---- what a law leaves is a part of what is simple, a literal, or a number of at least 2 times a
--   size the shapes of a product of a literal and a size: 1 or 0 times it
abbrev IsSmall : Expression → Type 0
IsSmall (Binary Product (Literal q) (Size k)) = q ≤ 1
IsSmall _ = Unit {0}

times_literal : (e : Expression) (n : ℕ) → IsSmall (Binary Product e (Literal n))
times_literal (Variable k l g) n = tt
times_literal (Literal m) n = tt
times_literal (Size k) n = tt
times_literal (Binary o a b) n = tt

literal_times : (n : ℕ) (e : Expression) → n ≤ 1 → IsSmall (Binary Product (Literal n) e)
literal_times n (Variable k l g) le = tt
literal_times n (Literal m) le = tt
literal_times n (Size k) le = le
literal_times n (Binary o a b) le = tt

-- no product undoes a cell
abbrev IsCellShape : Expression → Type 0
IsCellShape (Binary Product a b) = ⊥
IsCellShape _ = Unit {0}

redundant_small : (e : Expression) → IsRedundant e → IsSmall e
redundant_small _ (shape.SumOfLiterals m n lt) = tt
redundant_small _ (shape.ProductOfLiterals m n lt) = tt
redundant_small _ (shape.LeastOfLiterals m n lt) = tt
redundant_small _ (shape.GreatestOfLiterals m n lt) = tt
redundant_small _ (shape.QuotientOfLiterals m n) = tt
redundant_small _ (shape.RemainderOfLiterals m n) = tt
redundant_small _ (shape.PlusZero e) = tt
redundant_small _ (shape.ZeroPlus e) = tt
redundant_small _ (shape.MinusZero e) = tt
redundant_small _ (shape.TimesOne e) = times_literal e 1
redundant_small _ (shape.OneTimes e) = literal_times 1 e (omega arith)
redundant_small _ (shape.TimesZero e) = times_literal e 0
redundant_small _ (shape.ZeroTimes e) = literal_times 0 e (omega arith)
redundant_small _ (shape.OverOne e) = tt
redundant_small _ (shape.ModuloOne e) = tt
redundant_small _ (shape.CellOfParts k l g m h n) = tt

cell_small : (e : Expression) → UndoesCell e → IsCellShape e
cell_small _ (shape.RowOfCell k l g j m h n lt) = tt
cell_small _ (shape.ColumnOfCell k l g j m h n lt) = tt

more_than_one : (c d : ℕ) → d < c → c % d ≡ 0 → 1 < c / d
more_than_one c d lt e = let same = div-add-mod c d in let fits : d * (c / d) ≡ c = omega arith in above (c / d) fits
  where
    above : (q : ℕ) → d * q ≡ c → 1 < q
    above zero f = absurd (omega arith)
    above (suc zero) f = absurd (omega arith)
    above (suc (suc q)) f = omega arith

scaled_plain : (q k : ℕ) → 1 < q → IsPlain (Binary Product (Literal q) (Size k))
scaled_plain q k more = record { irredundant = λ h. let small = redundant_small (Binary Product (Literal q) (Size k)) h in absurd (omega arith); no_cell = λ h. cell_small (Binary Product (Literal q) (Size k)) h }

base_simple : (r : PlainRanges) (c k : ℕ) (d : Expression) → is_part_of c d ≡ true → IsSimple (scaled (Literal c) (Binary Quotient (Size k) d))
base_simple r c k (Literal d) h =
    let parts = and_parts (nat_lt 0 d && nat_lt d c) (c % d == 0) h in
    let front = and_parts (nat_lt 0 d) (nat_lt d c) parts.0 in
    (scaled_plain (c / d) k (more_than_one c d (ltb-true d c front.1) (eqb-true (c % d) 0 parts.1)), tt, tt)
base_simple r c k _ h = absurd (cc h)

size_simple : (r : PlainRanges) (c : ℕ) (size d : Expression) → is_part_of c d ≡ true → is_multiple r size d ≡ true → IsSimple (scaled (Literal c) (Binary Quotient size d))
size_simple r c (Size k) d h m = base_simple r c k d h
size_simple r c _ d h m = absurd (cc m)

part_simple : (r : PlainRanges) (c : ℕ) (b : Expression) → is_part_base r c b ≡ true → IsSimple (scaled (Literal c) b)
part_simple r c (Binary Quotient size d) h = let parts = and_parts (is_part_of c d) (is_multiple r size d) h in size_simple r c size d parts.0 parts.1
part_simple r c _ h = absurd (cc h)

scaled_simple : (r : PlainRanges) (a b : Expression) → is_scaled_size r a b ≡ true → IsSimple (scaled a b)
scaled_simple r (Literal c) b h = part_simple r c b h
scaled_simple r _ b h = absurd (cc h)

pub applied_simple : (r : PlainRanges) (law : Law) (o : Operation) (a b : Expression) → applies r law o a b ≡ true → IsSimple a → IsSimple b → IsSimple (applied law o a b)
applied_simple r Computed o a b h x y = tt
applied_simple r PlusZero o a b h x y = x
applied_simple r ZeroPlus o a b h x y = y
applied_simple r MinusZero o a b h x y = x
applied_simple r MinusItself o a b h x y = tt
applied_simple r TimesOne o a b h x y = x
applied_simple r OneTimes o a b h x y = y
applied_simple r TimesZero o a b h x y = tt
applied_simple r ZeroTimes o a b h x y = tt
applied_simple r OverOne o a b h x y = x
applied_simple r ModuloOne o a b h x y = tt
applied_simple r WholeSize o a b h x y = first_nodes IsPlain b y
applied_simple r ScaledSize o a b h x y = scaled_simple r a b (and_parts (same_operation o Product) (is_scaled_size r a b) h).1
applied_simple r RowOfCell o a b h x y = first_nodes IsPlain (first_part a) (first_nodes IsPlain a x)
applied_simple r ColumnOfCell o a b h x y = second_nodes IsPlain a x
applied_simple r CellOfParts o a b h x y = first_nodes IsPlain (first_part a) (first_nodes IsPlain a x)
applied_simple r GreatestZero o a b h x y = x
applied_simple r ZeroGreatest o a b h x y = y
applied_simple r LeastZero o a b h x y = tt
applied_simple r ZeroLeast o a b h x y = tt
