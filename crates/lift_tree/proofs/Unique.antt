-- A term has one type.
use Rattle.std.proofs.Common.{◌≡◌, List, ◌∷◌, sym, ◌∙◌, subst}
use Rattle.size_arith.specs.declared.names.Name.{Name}
use Rattle.lift_tree.specs.declared.term.UnaryForm.{UnaryForm}
use Rattle.lift_tree.specs.declared.term.UnaryForm.TheVariants.{Div, Rem, First, Second, Layout, Slide, Pad, ToLocal, ToPrivate, Then}
use Rattle.lift_tree.specs.declared.term.BinaryForm.{BinaryForm}
use Rattle.lift_tree.specs.declared.term.BinaryForm.TheVariants as binary
use Rattle.lift_tree.specs.Tree.{Tree, Variable, Number, Input, Unary, Binary, Select, Let, Map, Fold}
use Rattle.lift_tree.specs.declared.term.Operator.{Operator}
use Rattle.lift_tree.specs.Types.{PlainTy, U32, U32x4, ArrayOf}
use Rattle.lift_tree.specs.Typing.{Declared, UnaryRow, BinaryRow, OperatorRow, Types, OneType}
use Rattle.lift_tree.proofs.Layouts.{layout_unique, same_array}

unary_unique : (names : List Name) (f : UnaryForm) (b a c : PlainTy) → UnaryRow names f b a → UnaryRow names f b c → a ≡ c
unary_unique names (Div n) b a c h k = h.2 ∙ sym k.2
unary_unique names (Rem n) b a c h k = h.2 ∙ sym k.2
unary_unique names First b a c h k = let p = h.1 in let q = k.1 in cc
unary_unique names Second b a c h k = let p = h.1 in let q = k.1 in cc
unary_unique names (Layout l) b a c h k = layout_unique names l b a c h k
unary_unique names (Slide s t) b a c h k =
    let i = same_array h.0 k.0 h.1 k.1 (sym h.2 ∙ k.2) in
    let p = h.6 in let q = k.6 in let r = i.0 in let u = i.1 in cc
unary_unique names (Pad l m) b a c h k =
    let i = same_array h.0 k.0 h.1 k.1 (sym h.2 ∙ k.2) in
    let p = h.3 in let q = k.3 in let r = i.0 in let u = i.1 in cc
unary_unique names ToLocal b a c h k = sym h ∙ k
unary_unique names ToPrivate b a c h k = sym h ∙ k
unary_unique names Then b a c h k = sym h ∙ k

operator_unique : (o : Operator) (b d a c : PlainTy) → OperatorRow o b d a → OperatorRow o b d c → a ≡ c
operator_unique o U32 U32 a c h k = h ∙ sym k
operator_unique o U32 U32x4 a c h k = h.1 ∙ sym k.1
operator_unique o U32x4 U32 a c h k = h.1 ∙ sym k.1
operator_unique o U32x4 U32x4 a c h k = h.1 ∙ sym k.1
operator_unique o _ _ a c h k = absurd (assumption)

binary_unique : (f : BinaryForm) (b d a c : PlainTy) → BinaryRow f b d a → BinaryRow f b d c → a ≡ c
binary_unique (binary.Operator o) b d a c h k = operator_unique o b d a c h k
binary_unique binary.Pair b d a c h k = h.2 ∙ sym k.2
binary_unique binary.Zip b d a c h k = let p = h.3 in let q = h.4 in let r = h.5 in let s = k.3 in let t = k.4 in let u = k.5 in cc
binary_unique (binary.Reduce o) b d a c h k = h.3 ∙ sym k.3

unique : (d : Declared) (g : List PlainTy) (t : Tree) (a c : PlainTy) → Types d g t a → Types d g t c → a ≡ c
unique d g (Variable n) a c h k = cc
unique d g (Number n) a c h k = h.1 ∙ sym k.1
unique d g (Input n) a c h k = cc
unique d g (Unary o t) a c h k = unary_unique d.names o h.0 a c h.2 (subst (λ z. UnaryRow d.names o z c) (unique d g t k.0 h.0 k.1 h.1) k.2)
unique d g (Binary o t u) a c h k = binary_unique o h.0 h.1 a c h.4 (subst (λ z. BinaryRow o h.0 z c) (unique d g u k.1 h.1 k.3 h.3) (subst (λ z. BinaryRow o z k.1 c) (unique d g t k.0 h.0 k.2 h.2) k.4))
unique d g (Select t u v) a c h k = h.3 ∙ sym k.3
unique d g (Let v b) a c h k = unique d (h.0 ∷ g) b a c h.2 (subst (λ z. Types d (z ∷ g) b c) (unique d g v k.0 h.0 k.1 h.1) k.2)
unique d g (Map o xs b) a c h k =
    let i = same_array h.0 k.0 h.2 k.2 (unique d g xs (ArrayOf h.0 h.2) (ArrayOf k.0 k.2) h.3 k.3) in
    let m = unique d (h.0 ∷ g) b h.1 k.1 h.4 (subst (λ z. Types d (z ∷ g) b k.1) (sym i.0) k.4) in
    let p = h.5 in let q = k.5 in let r = i.1 in cc
unique d g (Fold o xs s b) a c h k =
    let m = unique d g s h.1 k.1 h.4 k.4 in
    let p = h.7 in let q = k.7 in cc

pub one_type : OneType
one_type d g t a b h k = unique d g t a b h k
