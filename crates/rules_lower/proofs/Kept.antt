-- The rules keep types, copies and values.
use Rattle.std.proofs.Common.{◌≡◌, Bool, true, false, List, [], ◌∷◌, refl, sym, ap, ◌∙◌, subst}
use Rattle.std.proofs.lemmas.Bool.{and_parts}
use Rattle.std.specs.Prelude.{map, if◌then◌else◌, Result, Ok, Err, IfOk}
use Rattle.size_arith.specs.declared.poly.Monomial.{Monomial}
use Rattle.lift_tree.specs.declared.term.MapKind.{MapKind}
use Rattle.lift_tree.specs.declared.term.MapKind.TheVariants as kind
use Rattle.lift_tree.specs.declared.term.Level.TheVariants.{Items}
use Rattle.lift_tree.specs.declared.term.Dimension.TheVariants.{X}
use Rattle.lift_tree.specs.declared.term.FoldKind.TheVariants as fold
use Rattle.lift_tree.specs.declared.term.UnaryForm.{UnaryForm}
use Rattle.lift_tree.specs.declared.term.UnaryForm.TheVariants as unary
use Rattle.lift_tree.specs.declared.term.Term.{Term}
use Rattle.lift_tree.specs.Tree.{Tree, tree_of, Unary, Map, Fold}
use Rattle.lift_tree.specs.Values.{Value, array, members}
use Rattle.lift_tree.specs.Meaning.{World, meaning, unary_value}
use Rattle.lift_tree.specs.Copies.{FormCopiesArrays}
use Rattle.lift_tree.specs.Types.{PlainTy, U32, U32x4, PairOf, ArrayOf, AreNumbers, HoldsElements, IsOutput, is_array, are_numbers, holds_elements}
use Rattle.lift_tree.specs.Typing.{Declared, UnaryRow, Types}
use Rattle.lift_tree.specs.Annotations.{type_in}
use Rattle.lift_tree.proofs.Annotated.{annotated_is_typed}
use Rattle.lift_tree.proofs.Copies.{TypesUnder, met, types_alone}
use Rattle.lift_tree.proofs.Members.{members-array}
use Rattle.lift_tree.proofs.Sound.{values_have_types}
use Rattle.lift_tree.proofs.Unique.{one_type}
use Rattle.rewriting.specs.declared.refused.Condition.TheVariants.{Array, Whole}
use Rattle.rewriting.specs.Around.{Around, IsAround}
use Rattle.rewriting.specs.declared.refused.Refused.{Refused}
use Rattle.rewriting.specs.Answers.{Becomes, NoSide, IsAnswer}
use Rattle.rewriting.specs.Keeps.{KeepsIn}
use Rattle.rules_lower.specs.declared.rule.Rule.{Rule}
use Rattle.rules_lower.specs.declared.rule.Rule.TheVariants.{ToParallel, ToSequential, FoldSequential, Local, Private, LocalCopy, PrivateCopy, Then, Vector, VectorScalar}
use Rattle.rules_lower.specs.Rules.{answer, mapped, folded, copied, if_closed}
use Rattle.rules_lower.specs.Laws.{LoweringKeeps}
use Rattle.rules_lower.specs.Vectors.{HasPolynomials}
use Rattle.rewriting.proofs.Keeping.{keeping}
use Rattle.rules_lower.proofs.Fours.{fours_keep, vectors_again_keep}

becomes_of : (t u : Tree) → Becomes t ≡ Becomes u → t ≡ u
becomes_of t u e = cc

-- how a map or a fold is run changes neither type nor value
run_so : (a : Around) (h k : MapKind) (xs b : Tree) → KeepsIn a (Map h xs b) (Map k xs b)
run_so a h k xs b d around = keeping d a.binders _ _ (λ asked ty p. p) (λ w vs ok all. refl)

mapped_keeps : (k : MapKind) (a : Around) (t u : Tree) → mapped k t ≡ Becomes u → KeepsIn a t u
mapped_keeps k a (Map kind.Plain xs b) u e = subst (KeepsIn a (Map kind.Plain xs b)) (becomes_of (Map k xs b) u e) (run_so a kind.Plain k xs b)
mapped_keeps k a _ u e = absurd (cc)

folded_keeps : (a : Around) (t u : Tree) → folded t ≡ Becomes u → KeepsIn a t u
folded_keeps a (Fold fold.Plain xs s b) u e =
    subst (KeepsIn a (Fold fold.Plain xs s b)) (becomes_of (Fold fold.Sequential xs s b) u e) (λ d around. keeping d a.binders _ _ (λ asked ty p. p) (λ w vs ok all. refl))
folded_keeps a _ u e = absurd (cc)

-- a form that keeps what it is over where it says, and may be over these
record IsKeeping (f : UnaryForm) (over : PlainTy → Type 0) : Type 0 where
  row : (d : Declared) (b a : PlainTy) → b ≡ a → UnaryRow d.names f b a
  copies : (a : PlainTy) → over a → FormCopiesArrays f a
  value : (w : World) (v : Value) → unary_value w f v ≡ v

abbrev IsArray : PlainTy → Type 0
IsArray a = is_array a ≡ true

keeping_local : IsKeeping unary.ToLocal IsArray
keeping_local = record { row = λ d b a e. e; copies = λ a h. h; value = λ w v. refl }

keeping_private : IsKeeping unary.ToPrivate IsArray
keeping_private = record { row = λ d b a e. e; copies = λ a h. h; value = λ w v. refl }

keeping_then : IsKeeping unary.Then IsOutput
keeping_then = record { row = λ d b a e. e; copies = λ a h. h; value = λ w v. refl }

-- the type of a term with this around it
type_is : (d : Declared) (a : Around) (t : Tree) (ty : PlainTy) → IsAround d a t → Types d a.binders t ty → type_in a.types ≡ ty
type_is d a t ty around h = one_type d a.binders t (type_in a.types) ty (annotated_is_typed d a.binders t a.types around.nodes) h

kept_keeps : (f : UnaryForm) (over : PlainTy → Type 0) → IsKeeping f over → (a : Around) (t : Tree) → over (type_in a.types) → KeepsIn a t (Unary f t)
kept_keeps f over k a t h d around =
    keeping d a.binders _ _
    (λ asked ty p. (ty, p, k.row d ty ty refl, met asked f ty (k.copies ty (subst over (type_is d a t ty around (types_alone asked d a.binders t ty p)) h))))
    (λ w vs ok all. k.value w (meaning w vs t))

map_same : (xs : List Value) → map (λ (x : Value). x) xs ≡ xs
map_same [] = refl
map_same (x ∷ xs) = ap (λ ys. x ∷ ys) (map_same xs)

-- an array, element by element
each : (v : Value) (xs : List Value) → v ≡ array xs → array (map (λ (u : Value). u) (members v)) ≡ v
each v xs e = ap array (map_same (members v)) ∙ ap (λ z. array (members z)) e ∙ ap array (members-array xs) ∙ sym e

copy_keeps : (f : UnaryForm) → IsKeeping f IsArray → (a : Around) (k : MapKind) (t : Tree) (x : PlainTy) (n : List Monomial) → type_in a.types ≡ ArrayOf x n → KeepsIn a t (copied f k t)
copy_keeps f is a k t x n e d around =
    let array_typed = subst (Types d a.binders t) e (annotated_is_typed d a.binders t a.types around.nodes) in
    keeping d a.binders _ _
    (λ asked ty p.
    let own = one_type d a.binders t ty (ArrayOf x n) (types_alone asked d a.binders t ty p) array_typed in
    (ty, (x, x, n, subst (TypesUnder asked d a.binders t) own p, refl, own), is.row d ty ty refl, met asked f ty (is.copies ty (ap is_array own))))
    (λ w vs ok all.
    let has = values_have_types d w a.binders vs t (ArrayOf x n) around.declared ok around.binders all array_typed in
    is.value w _ ∙ each (meaning w vs t) has.0 has.1)

-- what stands for an array, where the term is one
on_array_keeps : (a : Around) (t s u : Tree) (ty : PlainTy) → type_in a.types ≡ ty → ((x : PlainTy) (n : List Monomial) → type_in a.types ≡ ArrayOf x n → KeepsIn a t s)
    → (if is_array ty then Becomes s else NoSide Array) ≡ Becomes u → KeepsIn a t u
on_array_keeps a t s u U32 e k b = absurd (cc)
on_array_keeps a t s u U32x4 e k b = absurd (cc)
on_array_keeps a t s u (PairOf x y) e k b = absurd (cc)
on_array_keeps a t s u (ArrayOf x n) e k b = subst (KeepsIn a t) (becomes_of s u b) (k x n e)

-- ---- what stands for an array that a kernel of its own makes
numbers_so : (a : PlainTy) → are_numbers a ≡ true → AreNumbers a
numbers_so U32 h = tt
numbers_so U32x4 h = absurd (cc)
numbers_so (PairOf a b) h = let p = and_parts (are_numbers a) (are_numbers b) h in (numbers_so a p.0, numbers_so b p.1)
numbers_so (ArrayOf a n) h = absurd (cc)

holds_so : (a : PlainTy) → holds_elements a ≡ true → HoldsElements a
holds_so U32 h = tt
holds_so U32x4 h = tt
holds_so (PairOf a b) h = let p = and_parts (are_numbers a) (are_numbers b) h in (numbers_so a p.0, numbers_so b p.1)
holds_so (ArrayOf a n) h = holds_so a h

closed_becomes : (bs : List PlainTy) (s u : Tree) → if_closed bs (Becomes s) ≡ Becomes u → s ≡ u
closed_becomes [] s u e = becomes_of s u e
closed_becomes (b ∷ bs) s u e = absurd (cc)

whole_becomes : (whole : Bool) (bs : List PlainTy) (s u : Tree) → (if whole then if_closed bs (Becomes s) else NoSide Whole) ≡ Becomes u → (whole ≡ true) × (s ≡ u)
whole_becomes true bs s u e = (refl, closed_becomes bs s u e)
whole_becomes false bs s u e = absurd (cc)

cut_becomes : (ty : PlainTy) (bs : List PlainTy) (s u : Tree) → (if is_array ty then (if holds_elements ty then if_closed bs (Becomes s) else NoSide Whole) else NoSide Array) ≡ Becomes u → IsOutput ty × (s ≡ u)
cut_becomes U32 bs s u e = absurd (cc)
cut_becomes U32x4 bs s u e = absurd (cc)
cut_becomes (PairOf a b) bs s u e = absurd (cc)
cut_becomes (ArrayOf a n) bs s u e = let o = whole_becomes (holds_elements a) bs s u e in (holds_so a o.0, o.1)

pub lowering_keeps : LoweringKeeps
lowering_keeps (ToParallel level dimension) a t u poly e = mapped_keeps (kind.Over level dimension) a t u e
lowering_keeps ToSequential a t u poly e = mapped_keeps kind.Sequential a t u e
lowering_keeps FoldSequential a t u poly e = folded_keeps a t u e
lowering_keeps Local a t u poly e = on_array_keeps a t (Unary unary.ToLocal t) u (type_in a.types) refl (λ x n h. kept_keeps unary.ToLocal IsArray keeping_local a t (ap is_array h)) e
lowering_keeps Private a t u poly e = on_array_keeps a t (Unary unary.ToPrivate t) u (type_in a.types) refl (λ x n h. kept_keeps unary.ToPrivate IsArray keeping_private a t (ap is_array h)) e
lowering_keeps LocalCopy a t u poly e = on_array_keeps a t (copied unary.ToLocal (kind.Over Items X) t) u (type_in a.types) refl (copy_keeps unary.ToLocal keeping_local a (kind.Over Items X) t) e
lowering_keeps PrivateCopy a t u poly e = on_array_keeps a t (copied unary.ToPrivate kind.Sequential t) u (type_in a.types) refl (copy_keeps unary.ToPrivate keeping_private a kind.Sequential t) e
lowering_keeps Then a t u poly e =
    let o = cut_becomes (type_in a.types) a.binders (Unary unary.Then t) u e in
    subst (KeepsIn a t) o.1 (kept_keeps unary.Then IsOutput keeping_then a t o.0)
lowering_keeps Vector a t u poly e = fours_keep a t u poly.0 e
lowering_keeps VectorScalar a t u poly e = vectors_again_keep a t u poly.1 e

-- so does what a call answers
pub answered_keeps : (rule : Rule) (a : Around) (t : Term) (r : Result Term Refused) → HasPolynomials a → IsAnswer (answer rule a (tree_of t)) t r → IfOk r (λ u. KeepsIn a (tree_of t) (tree_of u))
answered_keeps rule a t (Ok u) poly h = lowering_keeps rule a (tree_of t) (tree_of u) poly h
answered_keeps rule a t (Err e) poly h = tt
