-- A term whose nodes have their types has the root's.
use Rattle.std.proofs.Common.{List, ◌∷◌, sym, subst}
use Rattle.lift_tree.specs.Tree.{Tree, Variable, Number, Input, Unary, Binary, Select, Let, Map, Fold}
use Rattle.lift_tree.specs.Types.{PlainTy}
use Rattle.lift_tree.specs.Typing.{Declared, Types}
use Rattle.lift_tree.specs.Annotations.{Annotation, Leaf, One, Two, Three, Annotates, type_in, AnnotatedIsTyped}

annotated : (d : Declared) (g : List PlainTy) (t : Tree) (n : Annotation) → Annotates d g t n → Types d g t (type_in n)
annotated d g (Variable i) (Leaf a) h = h
annotated d g (Number i) (Leaf a) h = h
annotated d g (Input i) (Leaf a) h = h
annotated d g (Unary f t) (One a n) h = (type_in n, annotated d g t n h.0, h.1)
annotated d g (Binary f t u) (Two a n m) h = (type_in n, type_in m, annotated d g t n h.0, annotated d g u m h.1, h.2)
annotated d g (Select t u v) (Three a n m k) h =
    (subst (Types d g t) h.3 (annotated d g t n h.0), subst (Types d g u) h.4 (annotated d g u m h.1), subst (Types d g v) h.5 (annotated d g v k h.2), h.6)
annotated d g (Let v b) (Two a n m) h = (type_in n, annotated d g v n h.0, subst (Types d (type_in n ∷ g) b) (sym h.2) (annotated d (type_in n ∷ g) b m h.1))
annotated d g (Map o xs b) (Two a n m) h = (h.0, type_in m, h.1, subst (Types d g xs) h.3 (annotated d g xs n h.2), annotated d (h.0 ∷ g) b m h.4, h.5)
annotated d g (Fold o xs s b) (Three a n m k) h =
    (h.0, type_in m, h.1, subst (Types d g xs) h.3 (annotated d g xs n h.2), annotated d g s m h.4, h.5, subst (Types d (h.0 ∷ type_in m ∷ g) b) h.7 (annotated d (h.0 ∷ type_in m ∷ g) b k h.6), h.8)
annotated d g _ _ h = absurd h

pub annotated_is_typed : AnnotatedIsTyped
annotated_is_typed d g t n h = annotated d g t n h
