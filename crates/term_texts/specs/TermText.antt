-- A term's text.
use Rattle.std.specs.Prelude.{ℕ, ◌+◌, ◌-◌, ◌++◌, List, if◌then◌else◌, codes, decimal}
use Rattle.lift_tree.specs.declared.program.Size.{Size}
use Rattle.lift_tree.specs.declared.layout.Layout as layout
use Rattle.lift_tree.specs.declared.layout.Layout.TheVariants.{Join, Transpose, Split, Reverse, Stride, AsVector, AsScalar}
use Rattle.lift_tree.specs.declared.term.UnaryForm.{UnaryForm}
use Rattle.lift_tree.specs.declared.term.UnaryForm.TheVariants.{Div, Rem, First, Second, Layout, Slide, Pad, ToLocal, ToPrivate, Then}
use Rattle.lift_tree.specs.declared.term.MapKind.{MapKind}
use Rattle.lift_tree.specs.declared.term.FoldKind.{FoldKind}
use Rattle.lift_tree.specs.Tree.{Tree, Variable, Number, Input, Unary, Binary, Select, Let, Map, Fold}
use Rattle.lift_tree.specs.Programs.{PlainProgram}
use Rattle.term_texts.specs.Names.{is_reduce, binary_start, map_name, fold_name, input_name, coefficient, starred, product_text}

-- the name of a binder with so many binders around it
abbrev pub binder_text : ℕ → List ℕ
binder_text k = codes "_" ++ decimal k

-- the two numbers of a slide or a pad, each with a comma behind it
abbrev pub two_numbers : ℕ → ℕ → List ℕ
two_numbers m n = decimal m ++ codes ", " ++ decimal n ++ codes ", "

-- what stands before the one child of a layout
abbrev pub layout_start : List Size → layout.Layout → List ℕ
layout_start sizes Join = codes "join("
layout_start sizes Transpose = codes "transpose("
layout_start sizes (Split fs) =
    codes "split(" ++ product_text (coefficient fs) (starred sizes 0 fs) ++ codes ", "
layout_start sizes Reverse = codes "reverse("
layout_start sizes AsVector = codes "asVector(4, "
layout_start sizes AsScalar = codes "asScalar("
layout_start sizes (Stride fs) =
    codes "stride(" ++ product_text (coefficient fs) (starred sizes 0 fs) ++ codes ", "

-- what stands before the one child
abbrev pub unary_start : List Size → UnaryForm → List ℕ
unary_start sizes (Div n) = codes "div("
unary_start sizes (Rem n) = codes "rem("
unary_start sizes First = codes "first("
unary_start sizes Second = codes "second("
unary_start sizes (Layout l) = layout_start sizes l
unary_start sizes (Slide s t) = codes "slide(" ++ two_numbers s t
unary_start sizes (Pad l r) = codes "pad(" ++ two_numbers l r
unary_start sizes ToLocal = codes "toLocal("
unary_start sizes ToPrivate = codes "toPrivate("
unary_start sizes Then = codes "then("

-- what stands behind it
abbrev pub unary_end : UnaryForm → List ℕ
unary_end (Div n) = codes ", " ++ decimal n ++ codes ")"
unary_end (Rem n) = codes ", " ++ decimal n ++ codes ")"
unary_end f = codes ")"

-- what stands before a let's value, where there are k binders around it
abbrev pub let_start : ℕ → List ℕ
let_start k = codes "let " ++ binder_text k ++ codes " = "

-- what stands before a map's body, where there are k binders around it
abbrev pub map_start : MapKind → ℕ → List ℕ
map_start h k = map_name h ++ codes "(\\" ++ binder_text k ++ codes ". "

-- a fold's two binders, by their numbers
abbrev pub fold_binders : ℕ → ℕ → List ℕ
fold_binders k l = codes "(\\" ++ binder_text k ++ codes " " ++ binder_text l

-- what stands before a fold's body, where there are k binders around it
abbrev pub fold_start : FoldKind → ℕ → List ℕ
fold_start h k = fold_name h ++ fold_binders k (k + 1) ++ codes ". "

-- a term's text, where k binders stand around it; a reduction's start stands before its array
abbrev pub text_at : PlainProgram → ℕ → Tree → List ℕ
text_at p k (Variable n) = binder_text (k - (n + 1))
text_at p k (Number n) = decimal n
text_at p k (Input n) = input_name p.inputs n
text_at p k (Unary f t) = unary_start p.sizes f ++ text_at p k t ++ unary_end f
text_at p k (Binary f t u) =
    if is_reduce f
    then binary_start f ++ text_at p k u ++ codes ", " ++ text_at p k t ++ codes ")"
    else binary_start f ++ text_at p k t ++ codes ", " ++ text_at p k u ++ codes ")"
text_at p k (Select t u v) =
    codes "select(" ++ text_at p k t ++ codes ", " ++ text_at p k u ++ codes ", " ++ text_at p k v
    ++ codes ")"
text_at p k (Let v b) = let_start k ++ text_at p k v ++ codes " in " ++ text_at p (k + 1) b
text_at p k (Map h xs b) =
    map_start h k ++ text_at p (k + 1) b ++ codes ", " ++ text_at p k xs ++ codes ")"
text_at p k (Fold h xs s b) =
    fold_start h k ++ text_at p (k + 1 + 1) b ++ codes ", " ++ text_at p k s ++ codes ", "
    ++ text_at p k xs ++ codes ")"

-- a term's text
abbrev pub text_of : PlainProgram → Tree → List ℕ
text_of p t = text_at p 0 t
