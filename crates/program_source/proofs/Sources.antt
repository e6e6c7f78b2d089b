-- A program's text has no copies and no vectors, so what it is of copies nothing but arrays, and
-- its pairs hold no vectors.
use Rattle.std.proofs.Common.{ℕ, suc, ◌+◌, List, ◌∷◌}
use Rattle.lift_tree.specs.Copies.{HasNoVector, FormCopiesArrays}
use Rattle.lift_tree.specs.Lists.{Every}
use Rattle.lift_tree.specs.Types.{PlainTy, U32, ArrayOf}
use Rattle.lift_tree.specs.Typing.{Declared, Types}
use Rattle.lift_tree.specs.declared.term.UnaryForm.{UnaryForm}
use Rattle.lift_tree.specs.declared.term.UnaryForm.TheVariants as unaries
use Rattle.lift_tree.specs.Tree as trees
use Rattle.lift_tree.specs.Tree.{Tree}
use Rattle.lift_tree.proofs.Copies.{ArrayCopies, TypesUnder}
use Rattle.lift_reader.specs.TextTerms.{IsPlain, IsTextTerm}
use Rattle.program_source.proofs.NoVectors.{pairs_numbers, text_has_none}

no_copy : (f : UnaryForm) (a : PlainTy) → IsPlain f → FormCopiesArrays f a
no_copy (unaries.Div n) a h = tt
no_copy (unaries.Rem n) a h = tt
no_copy unaries.First a h = tt
no_copy unaries.Second a h = tt
no_copy (unaries.Layout l) a h = tt
no_copy (unaries.Slide s t) a h = tt
no_copy (unaries.Pad l r) a h = tt
no_copy unaries.ToLocal a h = absurd h
no_copy unaries.ToPrivate a h = absurd h
no_copy unaries.Then a h = absurd h

-- a typed term that a text may have copies nothing but arrays, where no binder or input holds a
-- vector
module _ (d : Declared) (inputs : Every HasNoVector d.inputs) (s i : ℕ) where
  has_none : (b l : ℕ) (g : List PlainTy) → Every HasNoVector g → (t : Tree) (a : PlainTy) → IsTextTerm s i b l t → Types d g t a → HasNoVector a
  has_none = text_has_none d inputs s i

  pub text_copies : (b l : ℕ) (g : List PlainTy) → Every HasNoVector g → (t : Tree) (a : PlainTy) → IsTextTerm s i b l t → Types d g t a → TypesUnder ArrayCopies d g t a
  text_copies b l g all (trees.Variable k) a p h = h
  text_copies b l g all (trees.Number k) a p h = h
  text_copies b l g all (trees.Input k) a p h = h
  text_copies b l g all (trees.Unary f t) a p h = (h.0, text_copies b (l + 1) g all t h.0 p.2 h.1, h.2, no_copy f a p.1.1)
  text_copies b l g all (trees.Binary f t u) a p h = (
    h.0,
    h.1,
    text_copies b (l + 1) g all t h.0 p.1 h.2,
    text_copies b (l + 1) g all u h.1 p.2 h.3,
    h.4,
    pairs_numbers f a (has_none b l g all (trees.Binary f t u) a p h),
  )
  text_copies b l g all (trees.Select t u v) a p h =
      (text_copies b (l + 1) g all t U32 p.1 h.0, text_copies b (l + 1) g all u U32 p.2 h.1, text_copies b (l + 1) g all v U32 p.3 h.2, h.3)
  text_copies b l g all (trees.Let v e) a p h =
      (h.0, text_copies b (l + 1) g all v h.0 p.1 h.1, text_copies (suc b) (l + 1) (h.0 ∷ g) (has_none b (l + 1) g all v h.0 p.1 h.1, all) e a p.2 h.2)
  text_copies b l g all (trees.Map k xs e) a p h = (
    h.0,
    h.1,
    h.2,
    text_copies b (l + 1) g all xs (ArrayOf h.0 h.2) p.1 h.3,
    text_copies (suc b) (l + 1) (h.0 ∷ g) (has_none b (l + 1) g all xs (ArrayOf h.0 h.2) p.1 h.3, all) e h.1 p.2 h.4,
    h.5,
  )
  text_copies b l g all (trees.Fold k xs u e) a p h = (
    h.0,
    h.1,
    h.2,
    text_copies b (l + 1) g all xs (ArrayOf h.0 h.2) p.1 h.3,
    text_copies b (l + 1) g all u h.1 p.2 h.4,
    h.5,
    text_copies (suc (suc b)) (l + 1) (h.0 ∷ h.1 ∷ g) (has_none b (l + 1) g all xs (ArrayOf h.0 h.2) p.1 h.3, (has_none b (l + 1) g all u h.1 p.2 h.4, all)) e h.1 p.3 h.6,
    h.7,
  )
