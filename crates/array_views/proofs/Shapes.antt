-- Types whose lengths are spelled.
use Rattle.std.proofs.Common.{◌≡◌, ℕ, zero, suc, ◌+◌, ◌≤◌, Bool, true, false, List, [], ◌∷◌, None, refl, sym, ap, ◌∙◌, arith}
use Rattle.std.proofs.Math.Path.{fun_ext}
use Rattle.kernel_tree.specs.Formula as formula
use Rattle.kernel_tree.specs.Formula.{Formula}
use Rattle.kernel_tree.specs.Code.{Array}
use Rattle.scalar_ops.specs.declared.op.Op.TheVariants.{Add, Mul}
use Rattle.lift_ir.specs.Types.{Shape, Scalar, PairOf, ArrayOf, width, component}
use Rattle.printed_form.specs.Views.{Read, placed_view, index_from, index_in}
use Rattle.size_arith.specs.declared.names.Name.{Name}
use Rattle.lift_tree.specs.Typing.{constant}
use Rattle.index_expr.specs.Expression.{Expression, Literal}
use Rattle.index_expr.specs.Lengths.{product_expression, with_coefficient}
use Rattle.length_spelling.specs.Formulas.{in_words, index_formula, spelled_length}
use Rattle.array_views.specs.Arrays.{spelled_shape}

-- a number is spelled so, whatever the sizes
abbrev zeros : ℕ → List ℕ
zeros zero = []
zeros (suc n) = 0 ∷ zeros n

no_sizes : (k n : ℕ) (names : List Name) → product_expression k names (zeros n) ≡ None
no_sizes k n [] = refl
no_sizes k zero (x ∷ names) = refl
no_sizes k (suc n) (x ∷ names) = no_sizes (suc k) n names

pub spelled_four : (names : List Name) → Literal 4 ≡ spelled_length names (constant 4)
spelled_four names = ap (λ e. in_words (with_coefficient 4 e)) (sym (no_sizes 0 8 names))

pub some_width : {A : Type 0} (t : Shape A) → 1 ≤ width t
some_width Scalar = omega arith
some_width (PairOf a b) = let x = some_width a in omega arith
some_width (ArrayOf n t) = some_width t

module _ {A : Type 0} (spell : A → Expression) where
  abbrev spelled_so : A → Formula
  spelled_so n = index_formula (spell n)

  pub width_spelled : (t : Shape A) → width (spelled_shape spell t) ≡ width t
  width_spelled Scalar = refl
  width_spelled (PairOf a b) = let x = width_spelled a in let y = width_spelled b in omega arith
  width_spelled (ArrayOf n t) = width_spelled t

  component_spelled : (t : Shape A) (cs : List Bool) → component (spelled_shape spell t) cs ≡ component t cs
  component_spelled Scalar cs = refl
  component_spelled (PairOf a b) [] = refl
  component_spelled (PairOf a b) (false ∷ cs) = component_spelled a cs
  component_spelled (PairOf a b) (true ∷ cs) = let x = width_spelled a in let y = component_spelled b cs in omega arith
  component_spelled (ArrayOf n t) cs = component_spelled t cs

  from_spelled : (i : Formula) (t : Shape A) (is : List Formula) → index_from index_formula i (spelled_shape spell t) is ≡ index_from spelled_so i t is
  from_spelled i Scalar is = refl
  from_spelled i (PairOf a b) is = refl
  from_spelled i (ArrayOf n t) [] = refl
  from_spelled i (ArrayOf n t) (j ∷ is) = from_spelled (formula.Binary Add (formula.Binary Mul i (spelled_so n)) j) t is

  in_spelled : (t : Shape A) (is : List Formula) → index_in index_formula (spelled_shape spell t) is ≡ index_in spelled_so t is
  in_spelled Scalar is = refl
  in_spelled (PairOf a b) is = refl
  in_spelled (ArrayOf n t) [] = refl
  in_spelled (ArrayOf n t) (i ∷ is) = from_spelled i t is

  pub placed_spelled : (form : ℕ → Array) (first : ℕ) (t : Shape A) → placed_view index_formula form first (spelled_shape spell t) ≡ placed_view spelled_so form first t
  placed_spelled form first t = fun_ext (λ cs. fun_ext (λ is. ap (λ c. Read (form (first + c)) (index_in index_formula (spelled_shape spell t) is)) (component_spelled t cs) ∙ ap (Read (form (first + component t cs))) (in_spelled t is)))
