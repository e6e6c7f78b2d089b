-- Tidy statements one after another, tidy loops and tidy ifs.
use Rattle.std.proofs.Common.{◌≡◌, List, [], ◌∷◌, ◌++◌, sym, ap, ◌∙◌}
use Rattle.std.specs.Prelude.{Vec}
use Rattle.std.specs.Global.{Global}
use Rattle.kernel_tree.specs.declared.tree.Expr.{Expr}
use Rattle.kernel_tree.specs.declared.tree.Start.{Start}
use Rattle.kernel_tree.specs.declared.tree.Stride.{Stride}
use Rattle.kernel_tree.specs.declared.tree.Stmt.{Stmt, Loop, If}
use Rattle.kernel_tree.specs.Code.{Code, End, Loops, Guards}
use Rattle.kernel_tree.specs.Tree.{before, code_then, formula_of, start_of, stride_of}
use Rattle.kernel_tree.proofs.Rows.{before-Loop, before-If, code_then-append}
use Rattle.tidy_indices.specs.Places.{PlainPlace, inside, guarded as guarded_place}
use Rattle.tidy_indices.specs.Tidy.{tidied_at}
use Rattle.tidy_kernels.specs.Places.{tidied_in}

module _ (outermost here : PlainPlace) where
  -- what stands for statements, before whatever comes after them
  abbrev pub StandsFor : (made given : Code → Code) → Type 0
  StandsFor made given = (after : Code) → made (tidied_in outermost here after) ≡ tidied_in outermost here (given after)

  -- one more statement
  pub one_more : (made given : List Stmt) (m s : Stmt) → StandsFor (code_then made) (code_then given) → StandsFor (before m) (before s) → StandsFor (code_then (made ++ m ∷ [])) (code_then (given ++ s ∷ []))
  one_more made given m s all one after =
      code_then-append made (m ∷ []) (tidied_in outermost here after)
      ∙ ap (code_then made) (one after)
      ∙ all (before s after)
      ∙ ap (tidied_in outermost here) (sym (code_then-append given (s ∷ []) after))

  pub looped : (place : PlainPlace) (s : Start) (b bound : Expr) (c : Stride) (body made : Vec Stmt Global)
      → place ≡ inside here (formula_of b) → formula_of bound ≡ tidied_at outermost (formula_of b) → code_then made.items End ≡ tidied_in outermost place (code_then body.items End)
      → StandsFor (before (Loop s bound c made)) (before (Loop s b c body))
  looped place s b bound c body made at is are after =
      before-Loop s bound c made (tidied_in outermost here after)
      ∙ ap (λ f. Loops (start_of s) f (stride_of c) (code_then made.items End) (tidied_in outermost here after)) is
      ∙ ap (λ k. Loops (start_of s) (tidied_at outermost (formula_of b)) (stride_of c) k (tidied_in outermost here after)) (are ∙ ap (λ p. tidied_in outermost p (code_then body.items End)) at)
      ∙ ap (tidied_in outermost here) (sym (before-Loop s b c body after))

  pub guarded : (place : PlainPlace) (s : Start) (b bound : Expr) (body made : Vec Stmt Global)
      → place ≡ guarded_place here (start_of s) (formula_of b) → formula_of bound ≡ tidied_at outermost (formula_of b) → code_then made.items End ≡ tidied_in outermost place (code_then body.items End)
      → StandsFor (before (If s bound made)) (before (If s b body))
  guarded place s b bound body made at is are after =
      before-If s bound made (tidied_in outermost here after)
      ∙ ap (λ f. Guards (start_of s) f (code_then made.items End) (tidied_in outermost here after)) is
      ∙ ap (λ k. Guards (start_of s) (tidied_at outermost (formula_of b)) k (tidied_in outermost here after)) (are ∙ ap (λ p. tidied_in outermost p (code_then body.items End)) at)
      ∙ ap (tidied_in outermost here) (sym (before-If s b body after))
