-- How spelled index expressions are put together.
use Rattle.std.proofs.Common.{◌≡◌, ◌≤◌, ℕ, zero, suc, ◌+◌, refl, ap, ◌∙◌, subst, List, true, arith}
use Rattle.size_arith.specs.declared.names.Name.{Name}
use Rattle.index_expr.specs.declared.operation.Operation.{Operation}
use Rattle.index_expr.specs.declared.operation.Operation.TheVariants.{Sum, Difference, Product, Quotient, Remainder, Least, Greatest}
use Rattle.index_expr.specs.Expression as index
use Rattle.index_expr.specs.Expression.{Expression, short_nodes}
use Rattle.scalar_ops.specs.declared.op.Op.TheVariants.{Div}
use Rattle.kernel_tree.specs.declared.tree.Dimension.{Dimension}
use Rattle.kernel_tree.specs.declared.tree.Dimension.TheVariants.{X, Y}
use Rattle.kernel_tree.specs.Formula.{Formula, Number, LoopVariable, Size, Id, GroupId, LocalId, Binary}
use Rattle.length_spelling.specs.Formulas.{index_formula, operator_of}
use Rattle.length_spelling.specs.Turns.{group_turn, local_turn, loop_turn}
use Rattle.index_simplify.specs.Simplified.{is_declared, AreDeclared}
use Rattle.tidy_indices.specs.Places.{ranges_outside}
use Rattle.tidy_printed.proofs.Nodes.{of_parts, of_dividend}

-- no size, divided or not
abbrev pub IsNoSize : Formula → Type 0
IsNoSize (Size k) = ⊥
IsNoSize (Binary Div e n) = IsNoSize e
IsNoSize _ = Unit {0}

module _ (names : List Name) where
  -- it spells an index expression of at most so many nodes, counted in short, in which sizes are
  -- divided as they are declared, whether or not its numbers are words
  pub record Spelled (most : ℕ) (f : Formula) : Type 0 where
    pub expression : Expression
    pub spelled : f ≡ index_formula expression
    pub declared : AreDeclared (ranges_outside names) expression
    pub short : short_nodes expression ≤ most

  -- an index is no size, nor what is divided in it: so what it is divided by is no declared divisor
  abbrev pub Index : ℕ → Formula → Type 0
  Index most f = Spelled most f × IsNoSize f

  pub wider : (m n : ℕ) (f : Formula) → m ≤ n → Spelled m f → Spelled n f
  wider m n f le x = let short = x.short in record { expression = x.expression; spelled = x.spelled; declared = x.declared; short = omega arith }

  pub spelled_number : (n : ℕ) → Spelled 1 (Number n)
  spelled_number n = record { expression = index.Literal n; spelled = refl; declared = tt; short = omega arith }

  pub index_number : (n : ℕ) → Index 1 (Number n)
  index_number n = (spelled_number n, tt)

  pub index_loop : (d : ℕ) → Index 1 (LoopVariable d)
  index_loop d = (record { expression = index.Variable (loop_turn d) 0 0; spelled = refl; declared = tt; short = omega arith }, tt)

  pub index_group : (d : Dimension) → Index 1 (Id d GroupId)
  index_group X = (record { expression = index.Variable (group_turn X) 0 0; spelled = refl; declared = tt; short = omega arith }, tt)
  index_group Y = (record { expression = index.Variable (group_turn Y) 0 0; spelled = refl; declared = tt; short = omega arith }, tt)

  pub index_local : (d : Dimension) → Index 1 (Id d LocalId)
  index_local X = (record { expression = index.Variable (local_turn X) 0 0; spelled = refl; declared = tt; short = omega arith }, tt)
  index_local Y = (record { expression = index.Variable (local_turn Y) 0 0; spelled = refl; declared = tt; short = omega arith }, tt)

  joined : (o : Operation) (i j : Formula) (a b : Expression) → i ≡ index_formula a → j ≡ index_formula b → Binary (operator_of o) i j ≡ index_formula (index.Binary o a b)
  joined o i j a b p q = ap (λ x. Binary (operator_of o) x j) p ∙ ap (λ x. Binary (operator_of o) (index_formula a) x) q

  -- two expressions of so many nodes
  module _ (m n : ℕ) (i j : Formula) where
    spelled_both : (o : Operation) → ((a b : Expression) → is_declared (ranges_outside names) o a b ≡ true) → Spelled m i → Spelled n j → Spelled (m + n + 1) (Binary (operator_of o) i j)
    spelled_both o free x y = record {
      expression = index.Binary o x.expression y.expression;
      spelled = joined o i j x.expression y.expression x.spelled y.spelled;
      declared = (free x.expression y.expression, x.declared, y.declared);
      short = of_parts o x.expression y.expression m n x.short y.short;
    }

    pub sum : Spelled m i → Spelled n j → Spelled (m + n + 1) (Binary (operator_of Sum) i j)
    sum x y = spelled_both Sum (λ a b. refl) x y

    pub difference : Spelled m i → Spelled n j → Spelled (m + n + 1) (Binary (operator_of Difference) i j)
    difference x y = spelled_both Difference (λ a b. refl) x y

    pub product : Spelled m i → Spelled n j → Spelled (m + n + 1) (Binary (operator_of Product) i j)
    product x y = spelled_both Product (λ a b. refl) x y

    pub least : Spelled m i → Spelled n j → Spelled (m + n + 1) (Binary (operator_of Least) i j)
    least x y = spelled_both Least (λ a b. refl) x y

    pub greatest : Spelled m i → Spelled n j → Spelled (m + n + 1) (Binary (operator_of Greatest) i j)
    greatest x y = spelled_both Greatest (λ a b. refl) x y

    pub remainder : Spelled m i → Spelled n j → Spelled (m + n + 1) (Binary (operator_of Remainder) i j)
    remainder x y = spelled_both Remainder (λ a b. refl) x y

    -- what is divided is no size
    quotient_declared : (a b : Expression) → IsNoSize (index_formula a) → is_declared (ranges_outside names) Quotient a b ≡ true
    quotient_declared (index.Size k) b none = absurd none
    quotient_declared (index.Variable k l g) b none = refl
    quotient_declared (index.Literal n) b none = refl
    quotient_declared (index.Binary o c d) b none = refl

    pub quotient : Index m i → Spelled n j → Spelled (m + n + 1) (Binary (operator_of Quotient) i j)
    quotient x y =
        let a = x.0.expression in
        let b = y.expression in
        record {
          expression = index.Binary Quotient a b;
          spelled = joined Quotient i j a b x.0.spelled y.spelled;
          declared = (quotient_declared a b (subst IsNoSize x.0.spelled x.1), x.0.declared, y.declared);
          short = of_parts Quotient a b m n x.0.short y.short;
        }

  -- what is divided in a quotient
  pub divided : (most : ℕ) (e n : Formula) → Spelled most (Binary Div e n) → Spelled most e
  divided most e n x = of x.expression x.spelled x.declared x.short
    where
      of : (a : Expression) → Binary Div e n ≡ index_formula a → AreDeclared (ranges_outside names) a → short_nodes a ≤ most → Spelled most e
      of (index.Binary Quotient a b) h d le = let part = of_dividend a b in record { expression = a; spelled = cc h; declared = d.1; short = omega arith }
      of (index.Binary o a b) h d le = absurd (cc h)
      of (index.Variable zero l g) h d le = absurd (cc h)
      of (index.Variable (suc zero) l g) h d le = absurd (cc h)
      of (index.Variable (suc (suc zero)) l g) h d le = absurd (cc h)
      of (index.Variable (suc (suc (suc zero))) l g) h d le = absurd (cc h)
      of (index.Variable (suc (suc (suc (suc k)))) l g) h d le = absurd (cc h)
      of (index.Literal k) h d le = absurd (cc h)
      of (index.Size k) h d le = absurd (cc h)
