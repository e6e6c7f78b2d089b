-- What reshapes that can be written through keep, a layout keeps.
use Rattle.std.proofs.Common.{List}
use Rattle.size_arith.specs.declared.names.Name.{Name}
use Rattle.size_arith.specs.declared.poly.Monomial.{Monomial}
use Rattle.lift_tree.specs.declared.layout.Layout as layout
use Rattle.lift_tree.specs.declared.term.UnaryForm.TheVariants as unary
use Rattle.lift_tree.specs.Types.{PlainTy}
use Rattle.lift_ir.specs.Layouts.{Layout, IsInvertible}
use Rattle.lift_ir.specs.Lowering.{Lowered, Place, lower_unary}
use Rattle.lift_ir.specs.Terms.{Reshape}
use Rattle.lift_ir.proofs.AtLaunch.{by_reshapes}

module _ (P : Lowered → Type 0) where
  -- from the operand to the layout of it
  pub through_layout : ((y : Layout (List Monomial)) (t : Lowered) → IsInvertible y → P t → P (Reshape y t))
      → (names : List Name) (p : Place) (l : layout.Layout) (a b : PlainTy) (t : Lowered) → P t → P (lower_unary names p (unary.Layout l) a b t)
  through_layout h names p l a b t k = (by_reshapes (λ n u. P u) (λ n y u lt i r. h y u i r) names p l a b t k).holds

  -- from the layout to its operand
  pub below_layout : ((y : Layout (List Monomial)) (t : Lowered) → P (Reshape y t) → P t)
      → (names : List Name) (p : Place) (l : layout.Layout) (a b : PlainTy) (t : Lowered) → P (lower_unary names p (unary.Layout l) a b t) → P t
  below_layout h names p l a b t = (by_reshapes (λ n u. P u → P t) (λ n y u lt i r q. r (h y u q)) names p l a b t (λ q. q)).holds
