-- The rules that say how a term is run, one row each.
use Rattle.std.specs.Prelude.{if◌then◌else◌, List, [], ◌∷◌}
use Rattle.lift_tree.specs.declared.term.MapKind.{MapKind}
use Rattle.lift_tree.specs.declared.term.MapKind.TheVariants as map
use Rattle.lift_tree.specs.declared.term.Level.TheVariants.{Items}
use Rattle.lift_tree.specs.declared.term.Dimension.TheVariants.{X}
use Rattle.lift_tree.specs.declared.term.FoldKind.TheVariants as fold
use Rattle.lift_tree.specs.declared.term.UnaryForm.{UnaryForm}
use Rattle.lift_tree.specs.declared.term.UnaryForm.TheVariants as unary
use Rattle.lift_tree.specs.Tree.{Tree, Variable, Unary, Map, Fold}
use Rattle.lift_tree.specs.Types.{PlainTy, holds_elements, is_array}
use Rattle.lift_tree.specs.Annotations.{type_in}
use Rattle.rewriting.specs.declared.refused.Condition.TheVariants.{Array, Whole, Closed}
use Rattle.rewriting.specs.Around.{Around}
use Rattle.rewriting.specs.Answers.{Answer, Becomes, NoShape, NoSide}
use Rattle.rules_lower.specs.declared.rule.Rule.{Rule}
use Rattle.rules_lower.specs.declared.rule.Rule.TheVariants.{ToParallel, ToSequential, FoldSequential, Local, Private, LocalCopy, PrivateCopy, Then, Vector, VectorScalar}
use Rattle.rules_lower.specs.Vectors.{by_fours, vectors_again}

-- a plain map, run so
abbrev pub mapped : MapKind → Tree → Answer
mapped k (Map map.Plain xs f) = Becomes (Map k xs f)
mapped k _ = NoShape

-- a plain fold, run by one work-item
abbrev pub folded : Tree → Answer
folded (Fold fold.Plain xs s f) = Becomes (Fold fold.Sequential xs s f)
folded _ = NoShape

-- what an array becomes; the condition is that the term is one
abbrev pub on_array : Around → Tree → Answer
on_array a u = if is_array (type_in a.types) then Becomes u else NoSide Array

-- the array copied element by element by a map that is run so, and kept so
abbrev pub copied : UnaryForm → MapKind → Tree → Tree
copied f k t = Unary f (Map k t (Variable 0))

-- the answer, if no binder is around
abbrev pub if_closed : List PlainTy → Answer → Answer
if_closed [] u = u
if_closed (b ∷ bs) u = NoSide Closed

-- the answer, if pairs in the type hold elements alone
abbrev pub if_whole : PlainTy → Answer → Answer
if_whole ty u = if holds_elements ty then u else NoSide Whole

-- a kernel of its own makes the term: it is an array, then its pairs hold elements alone, then no
-- binder is around it
abbrev pub cut_off : Around → Tree → Answer
cut_off a t =
    if is_array (type_in a.types)
    then if_whole (type_in a.types) (if_closed a.binders (Becomes (Unary unary.Then t)))
    else NoSide Array

-- what the rule says of a term with this around it
abbrev pub answer : Rule → Around → Tree → Answer
answer (ToParallel level dimension) a t = mapped (map.Over level dimension) t
answer ToSequential a t = mapped map.Sequential t
answer FoldSequential a t = folded t
answer Local a t = on_array a (Unary unary.ToLocal t)
answer Private a t = on_array a (Unary unary.ToPrivate t)
answer LocalCopy a t = on_array a (copied unary.ToLocal (map.Over Items X) t)
answer PrivateCopy a t = on_array a (copied unary.ToPrivate map.Sequential t)
answer Then a t = cut_off a t
answer Vector a t = by_fours a t
answer VectorScalar a t = vectors_again t
