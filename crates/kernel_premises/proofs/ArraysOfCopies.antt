-- A lowered term's arrays are those of the term's copies.
use Rattle.std.proofs.Common.{◌≡◌, ◌∙◌, ℕ, List, [], ◌++◌, refl, sym, ap, subst, inl, inr}
use Rattle.std.proofs.lemmas.List.{append-nil}
use Rattle.size_arith.specs.declared.names.Name.{Name}
use Rattle.size_arith.specs.declared.poly.Monomial.{Monomial}
use Rattle.lift_tree.specs.declared.term.UnaryForm.TheVariants as unary
use Rattle.lift_tree.specs.declared.term.BinaryForm.TheVariants as binary
use Rattle.lift_tree.specs.Tree as tree
use Rattle.lift_tree.specs.Tree.{Tree}
use Rattle.lift_tree.specs.Annotations.{Annotation, Leaf, One, Two, Three, type_in}
use Rattle.lift_ir.specs.Lowering.{Written, Argument, Lowered, lower}
use Rattle.lift_ir.specs.Lowerable.{IsElementTerm, IsStaged}
use Rattle.buffer_allocation.specs.Copies.{copies}
use Rattle.buffer_allocation.specs.declared.copies.Memory.{Memory}
use Rattle.printed_form.specs.Counts.{copy_lengths}
use Rattle.printed_form.specs.Sound.{IsSound}
use Rattle.lift_ir.proofs.Reshaped.{below_layout, through_layout}
use Rattle.lift_ir.proofs.Lets.{written_let, argument_let}
use Rattle.kernel_premises.proofs.Lets.{element_let, stored_let}
use Rattle.kernel_premises.specs.Arrays.{space_of}
use Rattle.kernel_premises.proofs.ArrayLengths.{local_kept, private_kept}

joined : {A : Type 0} (xs us ys vs : List A) → xs ≡ us → ys ≡ vs → xs ++ ys ≡ us ++ vs
joined xs us ys vs e f = ap (λ z. z ++ ys) e ∙ ap (λ z. us ++ z) f

module _ (m : Memory) where
  -- an element term has none
  none : (t : Tree) (n : Annotation) → IsElementTerm t n → copies m t n ≡ []
  none (tree.Variable v) (Leaf a) o = refl
  none (tree.Number v) (Leaf a) o = refl
  none (tree.Unary (unary.Div j) t) (One a n) o = ap (λ z. z ++ []) (none t n o)
  none (tree.Unary (unary.Rem j) t) (One a n) o = ap (λ z. z ++ []) (none t n o)
  none (tree.Unary unary.First t) (One a n) o = ap (λ z. z ++ []) (none t n o)
  none (tree.Unary unary.Second t) (One a n) o = ap (λ z. z ++ []) (none t n o)
  none (tree.Binary (binary.Operator q) t u) (Two a n k) o = joined (copies m t n) [] (copies m u k) [] (none t n o.0) (none u k o.1)
  none (tree.Binary binary.Pair t u) (Two a n k) o = joined (copies m t n) [] (copies m u k) [] (none t n o.0) (none u k o.1)
  none (tree.Select t u x) (Three a n k l) o = joined (copies m t n) [] (copies m u k ++ copies m x l) [] (none t n o.0) (joined (copies m u k) [] (copies m x l) [] (none u k o.1) (none x l o.2))
  none (tree.Let v b) (Two a n k) o = joined (copies m v n) [] (copies m b k) [] (none v n o.1) (none b k o.2)
  none _ _ o = absurd o

  module _ (names : List Name) (P : List Monomial → Type 0) (Q : ℕ → Type 0) where
    abbrev Sound : Lowered → Type 0
    Sound t = IsSound P Q t

    abbrev arrays : Lowered → List ℕ
    arrays t = copy_lengths (space_of m) t

    mutual
      pub written_arrays : (t : Tree) (n : Annotation) → IsStaged Written t n → Sound (lower names Written t n) → copies m t n ≡ arrays (lower names Written t n)
      written_arrays (tree.Variable v) (Leaf a) o s = refl
      written_arrays (tree.Number v) (Leaf a) o s = refl
      written_arrays (tree.Unary (unary.Div j) t) (One a n) o s = ap (λ z. z ++ []) (none t n o)
      written_arrays (tree.Unary (unary.Rem j) t) (One a n) o s = ap (λ z. z ++ []) (none t n o)
      written_arrays (tree.Unary unary.First t) (One a n) o s = ap (λ z. z ++ []) (none t n o)
      written_arrays (tree.Unary unary.Second t) (One a n) o s = ap (λ z. z ++ []) (none t n o)
      written_arrays (tree.Unary (unary.Layout l) t) (One a n) o s =
          through_layout (λ u. copies m (tree.Unary (unary.Layout l) t) (One a n) ≡ arrays u) (λ y u i k. k) names Written l a (type_in n) _
          (append-nil (copies m t n) ∙ written_arrays t n o (below_layout Sound (λ y u k. k.1) names Written l a (type_in n) _ s))
      written_arrays (tree.Unary (unary.Slide j l) t) (One a n) o s = append-nil (copies m t n) ∙ written_arrays t n o s.1
      written_arrays (tree.Unary (unary.Pad j l) t) (One a n) o s = append-nil (copies m t n) ∙ written_arrays t n o s.1
      written_arrays (tree.Binary (binary.Operator q) t u) (Two a n k) o s = joined (copies m t n) [] (copies m u k) [] (none t n o.0) (none u k o.1)
      written_arrays (tree.Binary binary.Pair t u) (Two a n k) o s = joined (copies m t n) [] (copies m u k) [] (none t n o.0) (none u k o.1)
      written_arrays (tree.Select t u x) (Three a n k l) o s =
          joined (copies m t n) [] (copies m u k ++ copies m x l) [] (none t n o.0) (joined (copies m u k) [] (copies m x l) [] (none u k o.1) (none x l o.2))
      written_arrays (tree.Let v b) (Two a n k) (inl o) s =
          joined (copies m v n) [] (copies m b k) [] (none v n o.2) (none b k o.3) ∙ sym (ap arrays (stored_let names v b a n k o.0))
      written_arrays (tree.Let v b) (Two a n k) (inr (inl o)) s =
          let shape = element_let names v b a n k o.0 o.1 in
          let h = subst Sound shape s in
          joined (copies m v n) [] (copies m b k) (arrays (lower names Written b k)) (none v n o.2) (written_arrays b k o.3 h.1) ∙ sym (ap arrays shape)
      written_arrays (tree.Let v b) (Two a n k) (inr (inr o)) s =
          let shape = written_let names v b a n k o.0 o.1 in
          let h = subst Sound shape s in
          joined (copies m v n) (arrays (lower names Argument v n)) (copies m b k) (arrays (lower names Written b k)) (argument_arrays v n o.2 h.0) (written_arrays b k o.3 h.1) ∙ sym (ap arrays shape)
      written_arrays (tree.Map j xs b) (Two a n k) o s = joined (copies m xs n) (arrays (lower names Argument xs n)) (copies m b k) (arrays (lower names Written b k)) (argument_arrays xs n o.0 s.1) (written_arrays b k o.1 s.2)
      written_arrays (tree.Fold j xs x b) (Three a n k l) o s =
          joined (copies m xs n) (arrays (lower names Argument xs n)) (copies m x k ++ copies m b l) [] (argument_arrays xs n o.0 s.2) (joined (copies m x k) [] (copies m b l) [] (none x k o.1) (none b l o.2)) ∙ append-nil (arrays (lower names Argument xs n))
      written_arrays _ _ o s = absurd o

      pub argument_arrays : (t : Tree) (n : Annotation) → IsStaged Argument t n → Sound (lower names Argument t n) → copies m t n ≡ arrays (lower names Argument t n)
      argument_arrays (tree.Variable v) (Leaf a) o s = refl
      argument_arrays (tree.Input i) (Leaf a) o s = refl
      argument_arrays (tree.Unary unary.First t) (One a n) o s = append-nil (copies m t n) ∙ argument_arrays t n o s
      argument_arrays (tree.Unary unary.Second t) (One a n) o s = append-nil (copies m t n) ∙ argument_arrays t n o s
      argument_arrays (tree.Unary (unary.Layout l) t) (One a n) o s =
          through_layout (λ u. copies m (tree.Unary (unary.Layout l) t) (One a n) ≡ arrays u) (λ y u i k. k) names Argument l a (type_in n) _
          (append-nil (copies m t n) ∙ argument_arrays t n o (below_layout Sound (λ y u k. k.1) names Argument l a (type_in n) _ s))
      argument_arrays (tree.Unary (unary.Slide j l) t) (One a n) o s = append-nil (copies m t n) ∙ argument_arrays t n o s.1
      argument_arrays (tree.Unary (unary.Pad j l) t) (One a n) o s = append-nil (copies m t n) ∙ argument_arrays t n o s.1
      argument_arrays (tree.Unary unary.ToLocal t) (One a n) o s = joined (copies m t n) (arrays (lower names Written t n)) _ _ (written_arrays t n o.3 s.2) (local_kept a s.0 s.4 m)
      argument_arrays (tree.Unary unary.ToPrivate t) (One a n) o s = joined (copies m t n) (arrays (lower names Written t n)) _ _ (written_arrays t n o.3 s.2) (private_kept a s.0 s.4 m)
      argument_arrays (tree.Binary binary.Zip t u) (Two a n k) o s = joined (copies m t n) (arrays (lower names Argument t n)) (copies m u k) (arrays (lower names Argument u k)) (argument_arrays t n o.0 s.0) (argument_arrays u k o.1 s.1)
      argument_arrays (tree.Let v b) (Two a n k) o s =
          let shape = argument_let names v b a n k o.0 in
          let h = subst Sound shape s in
          joined (copies m v n) (arrays (lower names Argument v n)) (copies m b k) (arrays (lower names Argument b k)) (argument_arrays v n o.1 h.0) (argument_arrays b k o.2 h.1) ∙ sym (ap arrays shape)
      argument_arrays _ _ o s = absurd o
