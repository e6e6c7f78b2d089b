-- The terms that a program's text may have.
use Rattle.std.specs.Prelude.{ℕ, suc, ◌+◌, ◌<◌, List, length}
use Rattle.lift_tree.specs.declared.layout.Layout as layout
use Rattle.lift_tree.specs.declared.layout.Layout.TheVariants.{Join, Transpose, Split, Reverse, Stride, AsVector, AsScalar}
use Rattle.lift_tree.specs.declared.term.UnaryForm.{UnaryForm}
use Rattle.lift_tree.specs.declared.term.UnaryForm.TheVariants.{Div, Rem, First, Second, Layout, Slide, Pad, ToLocal, ToPrivate, Then}
use Rattle.lift_tree.specs.Belonging.{FormIsNamed}
use Rattle.lift_tree.specs.Programs.{PlainProgram}
use Rattle.lift_tree.specs.Tree.{Tree, Variable, Number, Input, Unary, Binary, Select, Let, Map, Fold}
use Rattle.lift_reader.specs.ProgramText.{IsProgramText}

-- a layout to or from vectors is none of a text's
abbrev pub IsOfNumbers : layout.Layout → Type 0
IsOfNumbers Join = Unit {0}
IsOfNumbers Transpose = Unit {0}
IsOfNumbers (Split fs) = Unit {0}
IsOfNumbers Reverse = Unit {0}
IsOfNumbers (Stride fs) = Unit {0}
IsOfNumbers AsVector = ⊥
IsOfNumbers AsScalar = ⊥

-- a form that copies nothing, and has to do with no vectors
abbrev pub IsPlain : UnaryForm → Type 0
IsPlain (Div n) = Unit {0}
IsPlain (Rem n) = Unit {0}
IsPlain First = Unit {0}
IsPlain Second = Unit {0}
IsPlain (Layout l) = IsOfNumbers l
IsPlain (Slide s t) = Unit {0}
IsPlain (Pad l r) = Unit {0}
IsPlain ToLocal = ⊥
IsPlain ToPrivate = ⊥
IsPlain Then = ⊥

-- a form that a text may have, where so many sizes are declared
abbrev pub IsTextForm : (sizes : ℕ) → UnaryForm → Type 0
IsTextForm s f = FormIsNamed s f × IsPlain f

-- a term that a text may have, with so many terms open, itself one of them: it names its binders
-- and what is declared alone, copies nothing, holds no vectors, and at most 256 terms stand in one
-- another
abbrev pub IsTextTerm : (sizes inputs binders depth : ℕ) → Tree → Type 0
IsTextTerm s i b d (Variable n) = n < b
IsTextTerm s i b d (Number n) = Unit {0}
IsTextTerm s i b d (Input n) = n < i
IsTextTerm s i b d (Unary f t) = (d < 256) × IsTextForm s f × IsTextTerm s i b (d + 1) t
IsTextTerm s i b d (Binary f t u) =
    (d < 256) × IsTextTerm s i b (d + 1) t × IsTextTerm s i b (d + 1) u
IsTextTerm s i b d (Select t u v) =
    (d < 256) × IsTextTerm s i b (d + 1) t × IsTextTerm s i b (d + 1) u
    × IsTextTerm s i b (d + 1) v
IsTextTerm s i b d (Let t u) =
    (d < 256) × IsTextTerm s i b (d + 1) t × IsTextTerm s i (suc b) (d + 1) u
IsTextTerm s i b d (Map k t u) =
    (d < 256) × IsTextTerm s i b (d + 1) t × IsTextTerm s i (suc b) (d + 1) u
IsTextTerm s i b d (Fold k t u v) =
    (d < 256) × IsTextTerm s i b (d + 1) t × IsTextTerm s i b (d + 1) u
    × IsTextTerm s i (suc (suc b)) (d + 1) v

-- the term of a text's program is such a one
abbrev pub BodiesAreTextTerms : Type 0
BodiesAreTextTerms =
    (text : List ℕ) (p : PlainProgram) → IsProgramText text p
    → IsTextTerm (length p.sizes) (length p.inputs) 0 1 p.body
