-- What the conditions' tests decide.
use Rattle.std.proofs.Common.{◌≡◌, ℕ, zero, suc, ◌<◌, List, [], ◌∷◌, refl, arith, Bool, true, false, pos}
use Rattle.std.specs.Prelude.{IsTrue, int_rem, nat_le, Option, Some, None, if◌then◌else◌}
use Rattle.std.proofs.lemmas.Bool.{and_parts}
use Rattle.std.proofs.lemmas.Bool.Decides.{nat_tests}
use Rattle.size_arith.specs.declared.poly.Monomial.{Monomial}
use Rattle.size_arith.specs.Polynomial.{number, is_zero, AllWide, IsPoly, AllDivide}
use Rattle.size_arith.proofs.Decisions.{decides_zero}
use Rattle.rewriting.specs.declared.refused.Condition.{Condition}
use Rattle.rules_split.specs.Tests.{divides}
use Rattle.lift_tree.specs.Tree.{Tree}
use Rattle.rewriting.specs.Answers.{Becomes}
use Rattle.rules_split.specs.Rules.{first_false, unless, piece_sides}
use Rattle.lift_tree.proofs.Linear.{no_powers_at_most}

-- ---- what divides
pub divided_by : (k : ℕ) (p : List Monomial) → 0 < k → AllWide 8 p → IsTrue (divides k p) → AllDivide (number (pos k)) p
divided_by k [] h w d = tt
divided_by k (m ∷ p) h w d =
    let q = and_parts (is_zero (int_rem m.coefficient (pos k))) (divides k p) d in (
      record { divisor = some k h; coefficient = (decides_zero _).0 q.0; powers = no_powers_at_most m.powers w.0 },
      divided_by k p h w.1 q.1,
    )
  where
    some : (k : ℕ) → 0 < k → is_zero (pos k) ≡ false
    some zero h = absurd (omega arith)
    some (suc k) h = refl

-- ---- no condition is false
pub none_false : (a : Bool) (c : Condition) (o : Option Condition) → (if a then o else Some c) ≡ None → IsTrue a × (o ≡ None)
none_false true c o h = (refl, h)
none_false false c o h = absurd (cc)

pub at_least_one : (k : ℕ) → IsTrue (nat_le 1 k) → 0 < k
at_least_one k h = grind (arith, nat_tests)

-- the pieces' number is at least 1, and divides the length
pub record ArePieces (k : ℕ) (n : List Monomial) : Type 0 where
  pub some : 0 < k
  pub divide : AllDivide (number (pos k)) n

pub pieces_hold : (k : ℕ) (n : List Monomial) → IsPoly n → first_false (piece_sides k n) ≡ None → ArePieces k n
pieces_hold k n p h =
    let a = none_false (nat_le 1 k) _ _ h in
    let b = none_false (divides k n) _ _ a.1 in
    let some = at_least_one k a.0 in
    record { some = some; divide = divided_by k n some p.wide b.0 }

-- what the row gives, where no condition is false
pub unless_none : (o : Option Condition) (t u : Tree) → unless o t ≡ Becomes u → (o ≡ None) × (t ≡ u)
unless_none None t u e = (refl, cc)
unless_none (Some c) t u e = absurd (cc)
