-- What a let that is an element, or that binds one, is lowered to in writing position.
use Rattle.std.proofs.Common.{◌≡◌, ◌∙◌, List, Bool, true, false, ap}
use Rattle.std.specs.Prelude.{if◌then◌else◌}
use Rattle.size_arith.specs.declared.names.Name.{Name}
use Rattle.lift_tree.specs.Tree.{Let, Tree}
use Rattle.lift_tree.specs.Types.{PlainTy}
use Rattle.lift_tree.specs.Annotations.{Annotation, Two, type_in}
use Rattle.lift_ir.specs.Terms.{LetArray, LetElement, Store}
use Rattle.lift_ir.specs.Lowering.{Written, Argument, Element, Lowered, is_element, element_ty, lower, lower_let, value_place}

module _ (names : List Name) (v b : Tree) (a : PlainTy) (n m : Annotation) where
  -- by what the tests of the let and of its value answer
  abbrev let_tested : (whole value : Bool) → Lowered
  let_tested x y =
      let either =
      if y then LetElement (element_ty (type_in n)) (lower names (if y then Element else Argument) v n) (lower names (if x then Element else Written) b m)
      else LetArray (lower names (if y then Element else Argument) v n) (lower names (if x then Element else Written) b m) in
      if x then Store (element_ty a) either else either

  -- an element is stored
  pub stored_let : is_element a ≡ true → lower names Written (Let v b) (Two a n m) ≡ Store (element_ty a) (lower_let (type_in n) (lower names (value_place n) v n) (lower names Element b m))
  stored_let e = ap (λ x. let_tested x (is_element (type_in n))) e

  -- around an element that is bound
  pub element_let : is_element a ≡ false → is_element (type_in n) ≡ true → lower names Written (Let v b) (Two a n m) ≡ LetElement (element_ty (type_in n)) (lower names Element v n) (lower names Written b m)
  element_let e f = ap (λ x. let_tested x (is_element (type_in n))) e ∙ ap (λ y. let_tested false y) f
