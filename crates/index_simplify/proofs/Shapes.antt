-- Where no law of the table is of an operation, it has none of the shapes: some law is of each.
use Rattle.std.proofs.Common.{◌≡◌, ℕ, ◌+◌, ◌*◌, ◌^◌, ◌<◌, Bool, true, false, Option, Some, None, List, [], ◌∷◌, refl, ap, subst}
use Rattle.std.specs.Prelude.{is_some, if◌then◌else◌}
use Rattle.std.proofs.lemmas.Bool.{eq-eqb, lt-ltb}
use Rattle.index_expr.specs.declared.operation.Operation.{Operation}
use Rattle.index_expr.specs.Expression.{Expression, Binary}
use Rattle.index_simplify.specs.PlainRanges.{PlainRanges}
use Rattle.index_simplify.specs.declared.law.Law.{Law}
use Rattle.index_simplify.specs.declared.law.Law.TheVariants as law
use Rattle.index_simplify.specs.declared.law.TheConstants.{LAWS}
use Rattle.index_simplify.specs.Literals.{word}
use Rattle.index_simplify.specs.Laws.{applies}
use Rattle.index_simplify.specs.Operations.{first_law}
use Rattle.index_simplify.specs.Shapes as shape
use Rattle.index_simplify.specs.Shapes.{IsRedundant, UndoesCell, IsPlain}

word_fits : (n : ℕ) → n < 2 ^ 32 → is_some (word n) ≡ true
word_fits n lt = ap (λ (b : Bool). is_some (if b then Some n else None)) (lt-ltb n (2 ^ 32) lt)

abbrev HasLaw : PlainRanges → Expression → Type 0
HasLaw r (Binary o a b) = (law : Law) × (applies r law o a b ≡ true)
HasLaw r _ = Unit {0}

redundant_law : (r : PlainRanges) (e : Expression) → IsRedundant e → HasLaw r e
redundant_law r _ (shape.SumOfLiterals m n lt) = (law.Computed, word_fits (m + n) lt)
redundant_law r _ (shape.ProductOfLiterals m n lt) = (law.Computed, word_fits (m * n) lt)
redundant_law r _ (shape.LeastOfLiterals m n lt) = (law.Computed, refl)
redundant_law r _ (shape.GreatestOfLiterals m n lt) = (law.Computed, refl)
redundant_law r _ (shape.QuotientOfLiterals m n) = (law.Computed, refl)
redundant_law r _ (shape.RemainderOfLiterals m n) = (law.Computed, refl)
redundant_law r _ (shape.PlusZero e) = (law.PlusZero, refl)
redundant_law r _ (shape.ZeroPlus e) = (law.ZeroPlus, refl)
redundant_law r _ (shape.MinusZero e) = (law.MinusZero, refl)
redundant_law r _ (shape.TimesOne e) = (law.TimesOne, refl)
redundant_law r _ (shape.OneTimes e) = (law.OneTimes, refl)
redundant_law r _ (shape.TimesZero e) = (law.TimesZero, refl)
redundant_law r _ (shape.ZeroTimes e) = (law.ZeroTimes, refl)
redundant_law r _ (shape.OverOne e) = (law.OverOne, refl)
redundant_law r _ (shape.ModuloOne e) = (law.ModuloOne, refl)
redundant_law r _ (shape.CellOfParts k l g m h n) = (law.CellOfParts, rw (eq-eqb n n refl, eq-eqb k k refl) refl)

cell_law : (r : PlainRanges) (e : Expression) → UndoesCell e → HasLaw r e
cell_law r _ (shape.RowOfCell k l g j m h n lt) = (law.RowOfCell, rw (eq-eqb n n refl, lt-ltb h n lt) refl)
cell_law r _ (shape.ColumnOfCell k l g j m h n lt) = (law.ColumnOfCell, rw (eq-eqb n n refl, lt-ltb h n lt) refl)

-- ---- the first law of a list that is of an operation
module _ (r : PlainRanges) (o : Operation) (a b : Expression) where
  is_found : (x law : Law) (rest : Option Law) (t : Bool) → applies r x o a b ≡ t → (rest ≡ Some law → applies r law o a b ≡ true) → (if t then Some x else rest) ≡ Some law → applies r law o a b ≡ true
  is_found x law rest true passes later e = let same : x ≡ law = cc e in subst (λ y. applies r y o a b ≡ true) same passes
  is_found x law rest false fails later e = later e

  pub found_applies : (laws : List Law) (law : Law) → first_law r o a b laws ≡ Some law → applies r law o a b ≡ true
  found_applies [] law e = absurd (cc e)
  found_applies (x ∷ laws) law e = is_found x law (first_law r o a b laws) (applies r x o a b) refl (found_applies laws law) e

  abbrev pub NoneApplies : List Law → Type 0
  NoneApplies [] = Unit {0}
  NoneApplies (x ∷ laws) = (applies r x o a b ≡ false) × NoneApplies laws

  is_none : (x : Law) (laws : List Law) (t : Bool) → applies r x o a b ≡ t → (first_law r o a b laws ≡ None → NoneApplies laws) → (if t then Some x else first_law r o a b laws) ≡ None → (applies r x o a b ≡ false) × NoneApplies laws
  is_none x laws true passes later e = absurd (cc e)
  is_none x laws false fails later e = (fails, later e)

  pub none_applies : (laws : List Law) → first_law r o a b laws ≡ None → NoneApplies laws
  none_applies [] e = tt
  none_applies (x ∷ laws) e = is_none x laws (applies r x o a b) refl (none_applies laws) e

  -- the table has each law
  pub fails_each : NoneApplies LAWS → (law : Law) → applies r law o a b ≡ false
  fails_each h law.Computed = h.0
  fails_each h law.PlusZero = h.1.0
  fails_each h law.ZeroPlus = h.1.1.0
  fails_each h law.MinusZero = h.1.1.1.0
  fails_each h law.MinusItself = h.1.1.1.1.0
  fails_each h law.TimesOne = h.1.1.1.1.1.0
  fails_each h law.OneTimes = h.1.1.1.1.1.1.0
  fails_each h law.TimesZero = h.1.1.1.1.1.1.1.0
  fails_each h law.ZeroTimes = h.1.1.1.1.1.1.1.1.0
  fails_each h law.OverOne = h.1.1.1.1.1.1.1.1.1.0
  fails_each h law.ModuloOne = h.1.1.1.1.1.1.1.1.1.1.0
  fails_each h law.WholeSize = h.1.1.1.1.1.1.1.1.1.1.1.0
  fails_each h law.ScaledSize = h.1.1.1.1.1.1.1.1.1.1.1.1.0
  fails_each h law.RowOfCell = h.1.1.1.1.1.1.1.1.1.1.1.1.1.0
  fails_each h law.ColumnOfCell = h.1.1.1.1.1.1.1.1.1.1.1.1.1.1.0
  fails_each h law.CellOfParts = h.1.1.1.1.1.1.1.1.1.1.1.1.1.1.1.0
  fails_each h law.GreatestZero = h.1.1.1.1.1.1.1.1.1.1.1.1.1.1.1.1.0
  fails_each h law.ZeroGreatest = h.1.1.1.1.1.1.1.1.1.1.1.1.1.1.1.1.1.0
  fails_each h law.LeastZero = h.1.1.1.1.1.1.1.1.1.1.1.1.1.1.1.1.1.1.0
  fails_each h law.ZeroLeast = h.1.1.1.1.1.1.1.1.1.1.1.1.1.1.1.1.1.1.1.0

  pub clash : (t : Bool) → t ≡ true → t ≡ false → ⊥
  clash t x y = absurd (cc (x, y))

  pub no_law_is_plain : first_law r o a b LAWS ≡ None → IsPlain (Binary o a b)
  no_law_is_plain e =
      let fails = fails_each (none_applies LAWS e) in
      record {
        irredundant = λ h. let found = redundant_law r (Binary o a b) h in clash (applies r found.0 o a b) found.1 (fails found.0);
        no_cell = λ h. let found = cell_law r (Binary o a b) h in clash (applies r found.0 o a b) found.1 (fails found.0);
      }
