-- What the code's steps give.
use Rattle.std.proofs.Common.{◌≡◌, ℕ, true, false, Option, Some, None, refl, sym, ap, ◌∙◌}
use Rattle.std.proofs.lemmas.Bool.{false_from_ne_true}
use Rattle.std.specs.Prelude.{MatchOption, Result, Ok, Err, IfOk, IfSome, IsNone, IsTrue, ◌↔◌}
use Rattle.std.specs.declared.alloc.AllocError.{AllocError}
use Rattle.lift_tree.specs.declared.term.Term.{Term}
use Rattle.lift_tree.specs.Tree.{Tree, Number, tree_of}
use Rattle.lift_tree.specs.Renumbering.{raise, mentions}
use Rattle.rules_algebra.specs.Layouts.{without}
use Rattle.rules_algebra.proofs.Unnamed.{put-raise}

-- what `dropped` gives is the term without the binder
lowered : (k : ℕ) (f : Tree) (o : Option Term) → (IsNone o ↔ IsTrue (mentions k f)) → IfSome o (λ t. raise k (tree_of t) ≡ f)
    → MatchOption o (mentions k f ≡ true) (λ t. (mentions k f ≡ false) × (without k f ≡ tree_of t))
lowered k f None h e = h.0 refl
lowered k f (Some t) h e = (false_from_ne_true (mentions k f) (λ m. let n = h.1 m in cc), ap (without k) (sym e) ∙ put-raise k (Number 0) (tree_of t))

pub lowered_result : (k : ℕ) (f : Tree) (r : Result (Option Term) AllocError) → IfOk r (λ o. IsNone o ↔ IsTrue (mentions k f)) → IfOk r (λ o. IfSome o (λ t. raise k (tree_of t) ≡ f))
    → IfOk r (λ o. MatchOption o (mentions k f ≡ true) (λ t. (mentions k f ≡ false) × (without k f ≡ tree_of t)))
lowered_result k f (Ok o) h e = lowered k f o h e
lowered_result k f (Err a) h e = tt
