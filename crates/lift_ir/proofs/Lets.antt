-- What a let of an array is lowered to.
use Rattle.std.proofs.Common.{◌≡◌, List, Bool, true, false, refl, inl, inr}
use Rattle.std.proofs.lemmas.Bool.{both_ways}
use Rattle.std.specs.Prelude.{if◌then◌else◌}
use Rattle.size_arith.specs.declared.names.Name.{Name}
use Rattle.lift_tree.specs.Tree as tree
use Rattle.lift_tree.specs.Tree.{Tree}
use Rattle.lift_tree.specs.Types.{PlainTy}
use Rattle.lift_tree.specs.Annotations.{Annotation, Two, type_in}
use Rattle.lift_ir.specs.Terms.{LetArray, LetElement, Store}
use Rattle.lift_ir.specs.Lowerable.{IsStaged}
use Rattle.lift_ir.specs.Lowering.{Written, Argument, Element, is_element, element_ty, lower}

-- in writing position, where it is no element itself
pub written_let : (names : List Name) (v b : Tree) (a : PlainTy) (n m : Annotation) → is_element a ≡ false → is_element (type_in n) ≡ false → lower names Written (tree.Let v b) (Two a n m) ≡ LetArray (lower names Argument v n) (lower names Written b m)
written_let names v b a n m e i = go (is_element a) (is_element (type_in n)) e i
  where
    go : (x y : Bool) → x ≡ false → y ≡ false
        → (let whole = if y then LetElement (element_ty (type_in n)) (lower names (if y then Element else Argument) v n) (lower names (if x then Element else Written) b m) else LetArray (lower names (if y then Element else Argument) v n) (lower names (if x then Element else Written) b m) in if x then Store (element_ty a) whole else whole)
        ≡ LetArray (lower names Argument v n) (lower names Written b m)
    go true y e i = absurd (cc)
    go false true e i = absurd (cc)
    go false false e i = refl

-- as an argument
pub argument_let : (names : List Name) (v b : Tree) (a : PlainTy) (n m : Annotation) → is_element (type_in n) ≡ false → lower names Argument (tree.Let v b) (Two a n m) ≡ LetArray (lower names Argument v n) (lower names Argument b m)
argument_let names v b a n m e = go (is_element a) (is_element (type_in n)) e
  where
    go : (x y : Bool) → y ≡ false
        → (let whole = if y then LetElement (element_ty (type_in n)) (lower names (if y then Element else Argument) v n) (lower names Argument b m) else LetArray (lower names (if y then Element else Argument) v n) (lower names Argument b m) in if x then whole else whole) ≡ LetArray (lower names Argument v n) (lower names Argument b m)
    go x true e = absurd (cc)
    go true false e = refl
    go false false e = refl

-- in writing position it is no element, its value is an argument, and its body is written
pub let_parts : (v b : Tree) (a : PlainTy) (n m : Annotation) → IsStaged Written (tree.Let v b) (Two a n m) → is_element (type_in n) ≡ false → (is_element a ≡ false) × IsStaged Argument v n × IsStaged Written b m
let_parts v b a n m (inl o) i = absurd (both_ways (is_element (type_in n)) i o.1)
let_parts v b a n m (inr (inl o)) i = absurd (both_ways (is_element (type_in n)) i o.1)
let_parts v b a n m (inr (inr o)) i = (o.0, o.2, o.3)
