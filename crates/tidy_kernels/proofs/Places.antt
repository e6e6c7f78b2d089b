-- The pass with what is known at each place is the pass with the loops and ifs around.
use Rattle.std.proofs.Common.{◌≡◌, ℕ, Option, List, [], ◌∷◌, ◌++◌, refl, sym, ap, ◌∙◌}
use Rattle.size_arith.specs.declared.names.Name.{Name}
use Rattle.kernel_tree.specs.declared.tree.Kernel as held
use Rattle.kernel_tree.specs.declared.tree.Stmt.{Stmt}
use Rattle.kernel_tree.specs.Kernels.{kernel_of}
use Rattle.kernel_tree.specs.Tree.{code_then, kernel_with}
use Rattle.kernel_tree.specs.Code.{Code, End, Performs, Loops, Guards}
use Rattle.tidy_indices.specs.Around.{Around, InLoop, InIf}
use Rattle.tidy_indices.specs.Places.{PlainPlace, outside, within, within_all, place_of}
use Rattle.tidy_indices.specs.Tidy.{tidy_formula}
use Rattle.tidy_kernels.specs.Pass.{with_index, tidied_code, tidied_kernel}
use Rattle.tidy_kernels.specs.Places.{tidied_in}

within_last : (p : PlainPlace) (around : List Around) (x : Around) → within_all p (around ++ x ∷ []) ≡ within (within_all p around) x
within_last p [] x = refl
within_last p (y ∷ around) x = within_last (within p y) around x

pub by_statements : (names : List Name) (local : Option (ℕ × ℕ)) (around : List Around) (code : Code) → tidied_in (outside names local) (place_of names local around) code ≡ tidied_code (tidy_formula names local) around code
by_statements names local around End = refl
by_statements names local around (Performs s after) = ap (Performs (with_index (tidy_formula names local around) s)) (by_statements names local around after)
by_statements names local around (Loops s b c body after) =
    ap (λ k. Loops s (tidy_formula names local [] b) c k (tidied_in (outside names local) (place_of names local around) after))
    (ap (λ p. tidied_in (outside names local) p body) (sym (within_last _ around (InLoop b))) ∙ by_statements names local (around ++ InLoop b ∷ []) body)
    ∙ ap (Loops s (tidy_formula names local [] b) c (tidied_code (tidy_formula names local) (around ++ InLoop b ∷ []) body)) (by_statements names local around after)
by_statements names local around (Guards s b body after) =
    ap (λ k. Guards s (tidy_formula names local [] b) k (tidied_in (outside names local) (place_of names local around) after))
    (ap (λ p. tidied_in (outside names local) p body) (sym (within_last _ around (InIf s b))) ∙ by_statements names local (around ++ InIf s b ∷ []) body)
    ∙ ap (Guards s (tidy_formula names local [] b) (tidied_code (tidy_formula names local) (around ++ InIf s b ∷ []) body)) (by_statements names local around after)

-- a kernel whose statements are tidy so
pub whole : (names : List Name) (local : Option (ℕ × ℕ)) (k : held.Kernel) (outermost : PlainPlace) (body : List Stmt) → outermost ≡ outside names local → code_then body End ≡ tidied_in outermost outermost (kernel_of k).code
    → kernel_with k.inputs k.outputs k.sizes k.locals.items k.privates.items k.variables k.vectors k.local body ≡ tidied_kernel (tidy_formula names local) (kernel_of k)
whole names local k outermost body at is =
    let code = (kernel_of k).code in
    ap (λ c. record (kernel_of k) { code = c }) (is ∙ ap (λ p. tidied_in p p code) at ∙ by_statements names local [] code)
