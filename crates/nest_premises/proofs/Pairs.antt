-- Maps along dimension 1 where no rule is broken: each begins a pair, whose
-- inner map is seen through layouts.
use Rattle.std.proofs.Common.{◌≡◌, Bool, true, false, List, ◌∷◌, refl, subst}
use Rattle.std.specs.Prelude.{◌&&◌, Some, None, is_none, if◌then◌else◌}
use Rattle.size_arith.specs.declared.poly.Monomial.{Monomial}
use Rattle.lift_tree.specs.declared.layout.Layout as layout
use Rattle.lift_tree.specs.declared.layout.Layout.TheVariants as laid
use Rattle.lift_tree.specs.declared.term.UnaryForm.TheVariants as unary
use Rattle.lift_tree.specs.declared.term.Dimension.TheVariants.{X, Y}
use Rattle.lift_tree.specs.declared.term.Level.{Level}
use Rattle.lift_tree.specs.declared.term.MapKind.TheVariants.{Plain, Over, Sequential}
use Rattle.lift_tree.specs.Tree as tree
use Rattle.lift_tree.specs.Tree.{Tree}
use Rattle.lift_tree.specs.Types.{PlainTy}
use Rattle.lift_tree.specs.Typing.{Declared}
use Rattle.lift_tree.specs.Annotations.{Annotation, Leaf, One, Two, Three, type_in, Annotates}
use Rattle.lift_ir.specs.Layouts.{Layout, IsInvertible}
use Rattle.lift_ir.specs.Lowerable.{IsStaged}
use Rattle.lift_ir.specs.Lowering.{Lowered, Written, lower}
use Rattle.lift_ir.specs.Terms.{Reshape}
use Rattle.lift_ir.proofs.Reshaped.{through_layout}
use Rattle.lowered_tree.specs.declared.rule.NestRule.TheVariants.{N14}
use Rattle.lowered_tree.specs.Around.{Around, body_of, outer_body, passed}
use Rattle.lowered_tree.specs.Kinds.{same_level}
use Rattle.lowered_tree.specs.Pairs.{shows_row}
use Rattle.nest_premises.specs.Unbroken.{IsUnbrokenAt, AllUnbroken}
use Rattle.nest_premises.proofs.Rules.{spared}

-- N14: the inner map shows in its body
pub begins : (s : Around) (l : Level) (xs b : Tree) (a : PlainTy) (n m : Annotation) → IsUnbrokenAt s (tree.Map (Over l Y) xs b) (Two a n m) → s.is_paired ≡ true → shows_row l b ≡ true
begins s l xs b a n m h p = go (shows_row l b) (spared s.is_paired _ (h N14) p)
  where
    go : (x : Bool) → is_none (if x then Some l else None) ≡ false → x ≡ true
    go true e = refl
    go false e = absurd (cc)

-- so its body is that of a pair's outer map
pub outer : (s : Around) (l : Level) (xs b : Tree) (a : PlainTy) (m : Annotation) → shows_row l b ≡ true → AllUnbroken (body_of (if shows_row l b then Some l else None) s (Over l Y) xs a) b m → AllUnbroken (outer_body s l xs a) b m
outer s l xs b a m e h = subst (λ x. AllUnbroken (body_of (if x then Some l else None) s (Over l Y) xs a) b m) e h

-- What the inner map is lowered to stands somewhere; then so do layouts of it, where layouts keep
-- what is asked of what is around it.
module _ (d : Declared) (l : Level) (Asked : Around → Type 0) (kept : (s : Around) (v : layout.Layout) (a : PlainTy) → Asked s → Asked (passed s v a))
    (P : Lowered → Type 0) (reshaped : (y : Layout (List Monomial)) (t : Lowered) → IsInvertible y → P t → P (Reshape y t))
    (row : (k : Level) (s : Around) (g : List PlainTy) (xs b : Tree) (a : PlainTy) (n m : Annotation) → same_level k l ≡ true
    → Annotates d g (tree.Map (Over k X) xs b) (Two a n m) → AllUnbroken s (tree.Map (Over k X) xs b) (Two a n m) → IsStaged Written (tree.Map (Over k X) xs b) (Two a n m)
    → Asked s → P (lower d.names Written (tree.Map (Over k X) xs b) (Two a n m))) where
  pub through_row : (s : Around) (g : List PlainTy) (t : Tree) (n : Annotation) → Annotates d g t n → AllUnbroken s t n → IsStaged Written t n → Asked s → shows_row l t ≡ true → P (lower d.names Written t n)
  through_row s g (tree.Unary (unary.Layout (laid.Split fs)) t) (One a n) y h o q e = through_layout P reshaped d.names Written (laid.Split fs) a (type_in n) _ (through_row _ g t n y.0 h.1 o (kept s (laid.Split fs) a q) e)
  through_row s g (tree.Unary (unary.Layout laid.Join) t) (One a n) y h o q e = through_layout P reshaped d.names Written laid.Join a (type_in n) _ (through_row _ g t n y.0 h.1 o (kept s laid.Join a q) e)
  through_row s g (tree.Unary (unary.Layout laid.Transpose) t) (One a n) y h o q e = through_layout P reshaped d.names Written laid.Transpose a (type_in n) _ (through_row _ g t n y.0 h.1 o (kept s laid.Transpose a q) e)
  through_row s g (tree.Map (Over k X) xs b) (Two a n m) y h o q e = row k s g xs b a n m e y h o q
  through_row s g (tree.Map (Over k Y) xs b) (Two a n m) y h o q e = absurd (cc)
  through_row s g (tree.Map Plain xs b) (Two a n m) y h o q e = absurd (cc)
  through_row s g (tree.Map Sequential xs b) (Two a n m) y h o q e = absurd (cc)
  through_row s g (tree.Unary (unary.Layout laid.Reverse) t) (One a n) y h o q e = absurd (cc)
  through_row s g (tree.Unary (unary.Layout (laid.Stride fs)) t) (One a n) y h o q e = absurd (cc)
  through_row s g (tree.Unary (unary.Layout laid.AsVector) t) (One a n) y h o q e = absurd (cc)
  through_row s g (tree.Unary (unary.Layout laid.AsScalar) t) (One a n) y h o q e = absurd (cc)
  through_row s g (tree.Unary f t) (One a n) y h o q e = absurd (cc)
  through_row s g (tree.Variable v) (Leaf a) y h o q e = absurd (cc)
  through_row s g (tree.Number v) (Leaf a) y h o q e = absurd (cc)
  through_row s g (tree.Input v) (Leaf a) y h o q e = absurd (cc)
  through_row s g (tree.Binary f t u) (Two a n m) y h o q e = absurd (cc)
  through_row s g (tree.Select t u x) (Three a n m k) y h o q e = absurd (cc)
  through_row s g (tree.Let v b) (Two a n m) y h o q e = absurd (cc)
  through_row s g (tree.Fold j xs x b) (Three a n m k) y h o q e = absurd (cc)
  through_row s g _ _ y h o q e = absurd y
