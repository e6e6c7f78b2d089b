-- Terms whose copies are of arrays, and whose pairs hold no vectors.
use Rattle.std.specs.Prelude.{◌≡◌, true, List}
use Rattle.lift_tree.specs.declared.term.UnaryForm.{UnaryForm}
use Rattle.lift_tree.specs.declared.term.BinaryForm.{BinaryForm}
use Rattle.lift_tree.specs.declared.term.BinaryForm.TheVariants.{Operator, Pair, Zip, Reduce}
use Rattle.lift_tree.specs.declared.term.UnaryForm.TheVariants.{Div, Rem, First, Second, Layout, Slide, Pad, ToLocal, ToPrivate, Then}
use Rattle.lift_tree.specs.Tree.{Tree, Unary, Binary, Select, Let, Map, Fold}
use Rattle.lift_tree.specs.Types.{PlainTy, U32, U32x4, PairOf, ArrayOf, IsOutput, is_array}
use Rattle.lift_tree.specs.Typing.{Declared}
use Rattle.lift_tree.specs.Annotations.{Annotation, Annotates, One, Two, Three}

-- where a form copies, what it copies is an array; what a kernel of its own
-- makes may be a program's output
abbrev pub FormCopiesArrays : UnaryForm → PlainTy → Type 0
FormCopiesArrays (Div n) a = Unit {0}
FormCopiesArrays (Rem n) a = Unit {0}
FormCopiesArrays First a = Unit {0}
FormCopiesArrays Second a = Unit {0}
FormCopiesArrays (Layout l) a = Unit {0}
FormCopiesArrays (Slide s t) a = Unit {0}
FormCopiesArrays (Pad l r) a = Unit {0}
FormCopiesArrays ToLocal a = is_array a ≡ true
FormCopiesArrays ToPrivate a = is_array a ≡ true
FormCopiesArrays Then a = IsOutput a

-- no vector is in a value of this type
abbrev pub HasNoVector : PlainTy → Type 0
HasNoVector U32 = Unit {0}
HasNoVector U32x4 = ⊥
HasNoVector (PairOf a b) = HasNoVector a × HasNoVector b
HasNoVector (ArrayOf a n) = HasNoVector a

-- where a form makes pairs, no vector is in them
abbrev pub FormPairsNumbers : BinaryForm → PlainTy → Type 0
FormPairsNumbers (Operator o) a = Unit {0}
FormPairsNumbers Pair a = HasNoVector a
FormPairsNumbers Zip a = HasNoVector a
FormPairsNumbers (Reduce r) a = Unit {0}

-- local and private copies are of arrays, and so are those that kernels of their own
-- make; pairs hold no vectors
abbrev pub CopiesArrays : Tree → Annotation → Type 0
CopiesArrays (Unary f t) (One a n) = FormCopiesArrays f a × CopiesArrays t n
CopiesArrays (Binary f t u) (Two a n m) =
    CopiesArrays t n × CopiesArrays u m × FormPairsNumbers f a
CopiesArrays (Select t u v) (Three a n m k) = CopiesArrays t n × CopiesArrays u m × CopiesArrays v k
CopiesArrays (Let v b) (Two a n m) = CopiesArrays v n × CopiesArrays b m
CopiesArrays (Map h xs b) (Two a n m) = CopiesArrays xs n × CopiesArrays b m
CopiesArrays (Fold h xs s b) (Three a n m k) =
    CopiesArrays xs n × CopiesArrays s m × CopiesArrays b k
CopiesArrays t n = Unit {0}

-- the term has types by which it copies nothing but arrays, and pairs no vectors
pub record IsCopyingArrays (d : Declared) (binders : List PlainTy) (t : Tree) : Type 0 where
  pub types : Annotation
  pub nodes : Annotates d binders t types
  pub arrays : CopiesArrays t types
