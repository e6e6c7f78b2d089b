-- An operation on two simplified expressions, by a law or as it is, is simplified.
use Rattle.std.proofs.Common.{◌≡◌, ◌≢◌, ℕ, pos, true, Option, Some, None, List, refl, sym, subst, arith}
use Rattle.index_expr.specs.declared.operation.Operation.{Operation}
use Rattle.index_expr.specs.declared.operation.Operation.TheVariants.{Product}
use Rattle.index_expr.specs.Expression.{Expression, Variable, Literal, Size, Binary, expression_of}
use Rattle.index_expr.specs.Values.{exact, EachOperation, Divides, WantsWords, IsWord}
use Rattle.index_simplify.specs.PlainRanges.{PlainRanges}
use Rattle.index_simplify.specs.declared.law.Law.{Law}
use Rattle.index_simplify.specs.declared.law.Law.TheVariants.{Computed, PlusZero, ZeroPlus, MinusZero, MinusItself, TimesOne, OneTimes, TimesZero, ZeroTimes, OverOne, ModuloOne, WholeSize, ScaledSize, RowOfCell, ColumnOfCell, CellOfParts, GreatestZero, ZeroGreatest, LeastZero, ZeroLeast}
use Rattle.index_simplify.specs.declared.law.TheConstants.{LAWS}
use Rattle.index_simplify.specs.Laws.{first_part, scaled, applies, applied}
use Rattle.index_simplify.specs.Operations.{first_law, by_law, operation_on, tabled, recut, simple}
use Rattle.index_simplify.specs.Ranges.{AreBelowLengths, AreMultiples, AreWithin, IsPoint}
use Rattle.index_simplify.specs.Shapes.{IsSimple}
use Rattle.index_simplify.specs.Simplified.{StandsFor, IsNoLarger, IsSimplified}
use Rattle.std.specs.Prelude.{Result, Ok, Err, IfOk}
use Rattle.std.specs.declared.alloc.AllocError.{AllocError}
use Rattle.index_expr.specs.declared.index.Index.{Index}
use Rattle.index_simplify.proofs.Parts.{first_operations, second_operations, first_within, second_within, same_small, then_small, joined_small, applied_small, applied_simple}
use Rattle.index_simplify.proofs.Values.{law_value}
use Rattle.index_simplify.proofs.Short.{tabled_is_short}
use Rattle.index_simplify.proofs.Words.{tabled_words}
use Rattle.index_simplify.specs.Cells.{parted}
use Rattle.index_simplify.proofs.Parted.{parted_moved}
use Rattle.index_simplify.proofs.Standing.{stands_by, stands_itself, stands_then, stands_joined}
use Rattle.index_simplify.proofs.Shapes.{found_applies, no_law_is_plain}

-- ---- what holds of each operation, and of each variable, holds in what a law leaves
scaled_operations : (P : Operation → Expression → Expression → Type 0) → ((a b : Expression) → P Product a b) → (a b : Expression) → EachOperation P b → EachOperation P (scaled a b)
scaled_operations P products a (Variable k l g) y = y
scaled_operations P products a (Literal n) y = y
scaled_operations P products a (Size k) y = y
scaled_operations P products a (Binary o size d) y = (products _ _, tt, y.1)

scaled_within : (variables : List ℕ) (a b : Expression) → AreWithin variables b → AreWithin variables (scaled a b)
scaled_within variables a (Variable k l g) y = y
scaled_within variables a (Literal n) y = y
scaled_within variables a (Size k) y = y
scaled_within variables a (Binary o size d) y = (tt, y.0)

applied_operations : (P : Operation → Expression → Expression → Type 0) → ((a b : Expression) → P Product a b) → (law : Law) (o : Operation) (a b : Expression) → EachOperation P a → EachOperation P b → EachOperation P (applied law o a b)
applied_operations P products Computed o a b x y = tt
applied_operations P products PlusZero o a b x y = x
applied_operations P products ZeroPlus o a b x y = y
applied_operations P products MinusZero o a b x y = x
applied_operations P products MinusItself o a b x y = tt
applied_operations P products TimesOne o a b x y = x
applied_operations P products OneTimes o a b x y = y
applied_operations P products TimesZero o a b x y = tt
applied_operations P products ZeroTimes o a b x y = tt
applied_operations P products OverOne o a b x y = x
applied_operations P products ModuloOne o a b x y = tt
applied_operations P products WholeSize o a b x y = first_operations P b y
applied_operations P products ScaledSize o a b x y = scaled_operations P products a b y
applied_operations P products RowOfCell o a b x y = first_operations P (first_part a) (first_operations P a x)
applied_operations P products ColumnOfCell o a b x y = second_operations P a x
applied_operations P products CellOfParts o a b x y = first_operations P (first_part a) (first_operations P a x)
applied_operations P products GreatestZero o a b x y = x
applied_operations P products ZeroGreatest o a b x y = y
applied_operations P products LeastZero o a b x y = tt
applied_operations P products ZeroLeast o a b x y = tt

applied_within : (variables : List ℕ) (law : Law) (o : Operation) (a b : Expression) → AreWithin variables a → AreWithin variables b → AreWithin variables (applied law o a b)
applied_within variables Computed o a b x y = tt
applied_within variables PlusZero o a b x y = x
applied_within variables ZeroPlus o a b x y = y
applied_within variables MinusZero o a b x y = x
applied_within variables MinusItself o a b x y = tt
applied_within variables TimesOne o a b x y = x
applied_within variables OneTimes o a b x y = y
applied_within variables TimesZero o a b x y = tt
applied_within variables ZeroTimes o a b x y = tt
applied_within variables OverOne o a b x y = x
applied_within variables ModuloOne o a b x y = tt
applied_within variables WholeSize o a b x y = first_within variables b y
applied_within variables ScaledSize o a b x y = scaled_within variables a b y
applied_within variables RowOfCell o a b x y = first_within variables (first_part a) (first_within variables a x)
applied_within variables ColumnOfCell o a b x y = second_within variables a x
applied_within variables CellOfParts o a b x y = first_within variables (first_part a) (first_within variables a x)
applied_within variables GreatestZero o a b x y = x
applied_within variables ZeroGreatest o a b x y = y
applied_within variables LeastZero o a b x y = tt
applied_within variables ZeroLeast o a b x y = tt

module _ (sizes variables : List ℕ) where
  law_stands : (r : PlainRanges) → AreBelowLengths r sizes variables → AreMultiples r sizes → (law : Law) (o : Operation) (a b : Expression) → AreWithin variables a → AreWithin variables b → applies r law o a b ≡ true → StandsFor sizes variables (Binary o a b) (applied law o a b)
  law_stands r loops all law o a b x y h =
      stands_by sizes variables (Binary o a b) (applied law o a b)
      (law_value sizes variables r loops all law o a b x h)
      (λ w. applied_operations (λ q c d. WantsWords q → IsWord (exact sizes variables c) × IsWord (exact sizes variables d)) (λ c d w. absurd w) law o a b w.1 w.2)
      (λ w. applied_operations (λ q c d. Divides q → exact sizes variables d ≢ pos 0) (λ c d w. absurd w) law o a b w.1 w.2)
      (applied_within variables law o a b x y)

-- all that a simplified expression is, but for its nodes counted in short
record IsKept (r : PlainRanges) (e s : Expression) : Type 0 where
  stands : (sizes variables : List ℕ) → IsPoint r sizes variables e → StandsFor sizes variables e s
  small : IsNoLarger e s
  simple : IsSimple s

module _ (r : PlainRanges) (o : Operation) (a b c d : Expression) (x : IsKept r a c) (y : IsKept r b d) where
  first_stands : (sizes variables : List ℕ) → IsPoint r sizes variables (Binary o a b) → StandsFor sizes variables a c
  first_stands sizes variables p = x.stands sizes variables (record { loops = p.loops; multiples = p.multiples; positive = p.positive; own = p.own.0 })

  second_stands : (sizes variables : List ℕ) → IsPoint r sizes variables (Binary o a b) → StandsFor sizes variables b d
  second_stands sizes variables p = y.stands sizes variables (record { loops = p.loops; multiples = p.multiples; positive = p.positive; own = p.own.1 })

  by_stands : (found : Option Law) → first_law r o c d LAWS ≡ found → (sizes variables : List ℕ) → IsPoint r sizes variables (Binary o a b) → StandsFor sizes variables (Binary o a b) (by_law found o c d)
  by_stands None e sizes variables p = stands_joined sizes variables o a b c d (first_stands sizes variables p) (second_stands sizes variables p)
  by_stands (Some law) e sizes variables p =
      let first = first_stands sizes variables p in
      let second = second_stands sizes variables p in
      stands_then sizes variables (Binary o a b) (Binary o c d) (applied law o c d)
      (stands_joined sizes variables o a b c d first second)
      (law_stands sizes variables r p.loops p.multiples law o c d first.own second.own (found_applies r o c d LAWS law e))

  by_small : (found : Option Law) → IsNoLarger (Binary o a b) (by_law found o c d)
  by_small None = joined_small o a b c d x.small y.small
  by_small (Some law) = then_small (Binary o a b) (Binary o c d) (applied law o c d) (joined_small o a b c d x.small y.small) (applied_small law o c d)

  by_simple : (found : Option Law) → first_law r o c d LAWS ≡ found → IsSimple (by_law found o c d)
  by_simple None e = (no_law_is_plain r o c d e, x.simple, y.simple)
  by_simple (Some law) e = applied_simple r law o c d (found_applies r o c d LAWS law e) x.simple y.simple

  operation_kept : IsKept r (Binary o a b) (operation_on r o c d)
  operation_kept = record {
    stands = by_stands (first_law r o c d LAWS) refl;
    small = by_small (first_law r o c d LAWS);
    simple = by_simple (first_law r o c d LAWS) refl;
  }

itself : (r : PlainRanges) (e : Expression) → IsSimple e → IsKept r e e
itself r e h = record { stands = λ sizes variables p. stands_itself sizes variables e p.own; small = same_small e; simple = h }

tabled_is_kept : (r : PlainRanges) (e : Expression) → IsKept r e (tabled r e)
tabled_is_kept r (Variable k l g) = itself r (Variable k l g) tt
tabled_is_kept r (Literal n) = itself r (Literal n) tt
tabled_is_kept r (Size k) = itself r (Size k) tt
tabled_is_kept r (Binary o a b) = operation_kept r o a b (tabled r a) (tabled r b) (tabled_is_kept r a) (tabled_is_kept r b)

pub tabled_is_simplified : (r : PlainRanges) (e : Expression) → IsSimplified r e (tabled r e)
tabled_is_simplified r e =
    let kept = tabled_is_kept r e in
    record { stands = kept.stands; small = kept.small; literals = tabled_words r e; short = tabled_is_short r e; simple = kept.simple }

-- ---- cut into parts
recut_is_simplified : (r : PlainRanges) (e s : Expression) → IsSimplified r e s → IsSimplified r e (recut r s)
recut_is_simplified r e s x =
    let moved = parted_moved r s in
    let t = tabled_is_simplified r (parted r s) in
    let small = then_small s (parted r s) (tabled r (parted r s)) moved.small t.small in
    let few = small.nodes in
    record {
      stands = λ sizes variables p.
          let at_s = x.stands sizes variables p in
          let at_parted = moved.stands sizes variables (record { loops = p.loops; multiples = p.multiples; positive = p.positive; own = at_s.own }) in
          stands_then sizes variables e s (tabled r (parted r s)) at_s
          (stands_then sizes variables s (parted r s) (tabled r (parted r s)) at_parted
          (t.stands sizes variables (record { loops = p.loops; multiples = p.multiples; positive = p.positive; own = at_parted.own })));
      small = then_small e s (tabled r (parted r s)) x.small small;
      literals = λ h. t.literals (moved.literals (x.literals h));
      short = λ h. let le = x.short h in omega arith;
      simple = t.simple;
    }

pub simple_is_simplified : (r : PlainRanges) (e : Expression) → IsSimplified r e (simple r e)
simple_is_simplified r e =
    let once = recut_is_simplified r e (tabled r e) (tabled_is_simplified r e) in
    let twice = recut_is_simplified r e (recut r (tabled r e)) once in
    recut_is_simplified r e (recut r (recut r (tabled r e))) twice

pub all_simplified : (r : PlainRanges) (e : Expression) (result : Result Index AllocError) → IfOk result (λ s. expression_of s ≡ simple r e) → IfOk result (λ s. IsSimplified r e (expression_of s))
all_simplified r e (Err x) h = h
all_simplified r e (Ok s) same = subst (IsSimplified r e) (sym same) (simple_is_simplified r e)
