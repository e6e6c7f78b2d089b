-- The values of bodies under binders.
use Rattle.std.proofs.Common.{◌≡◌, ℕ, zero, suc, ◌≢◌, List, [], ◌∷◌, ◌++◌, ◌+◌, ◌<◌, length, take, map, refl, sym, ap, ◌∙◌}
use Rattle.std.specs.Prelude.{get_or}
use Rattle.std.proofs.lemmas.List.{append_assoc, append-nil, map_more}
use Rattle.scalar_ops.specs.declared.op.Reducer.{Reducer}
use Rattle.scalar_ops.specs.Operators.{combine, choose}
use Rattle.lift_tree.specs.declared.term.MapKind.{MapKind}
use Rattle.lift_tree.specs.declared.term.FoldKind.{FoldKind}
use Rattle.lift_tree.specs.declared.term.BinaryForm.TheVariants as binary
use Rattle.lift_tree.specs.declared.value.Val.{Val}
use Rattle.lift_tree.specs.Meaning.{World, meaning, binary_value}
use Rattle.lift_tree.specs.Tree.{Tree, Map, Fold}
use Rattle.lift_tree.specs.Values.{Value, Word, array, members, word, value_of}
use Rattle.lift_tree.proofs.Members.{members-array}
use Rattle.pattern_value.specs.declared.evaluate.World as held
use Rattle.pattern_value.specs.World.{world_of}
use Rattle.pattern_value.specs.Shut.{map_under, fold_under, fold_by}
use Rattle.pattern_value.proofs.Held.{value_of-List, word-List, members-List, nth-get, nth-beyond, push_behind}

pub world-inputs : (w : held.World) → (world_of w).inputs ≡ map value_of w.inputs.now
unfolding world_of
world-inputs w = refl

pub ruleset inputs = (world-inputs, nth-get, nth-beyond)

pub Map_is : (w : World) (vs : List Value) (k : MapKind) (xs b ys c t : Tree) → t ≡ Map k xs b → ys ≡ xs → c ≡ b → array (map_under w vs c (members (meaning w vs ys))) ≡ meaning w vs t
unfolding map_under
Map_is w vs k xs b ys c t e f g =
    ap (λ z. array (map_under w vs z (members (meaning w vs ys)))) g ∙ ap (λ z. array (map_under w vs b (members (meaning w vs z)))) f ∙ ap (meaning w vs) (sym e)

pub Fold_is : (w : World) (vs : List Value) (k : FoldKind) (xs s b ys r c t : Tree) → t ≡ Fold k xs s b → ys ≡ xs → r ≡ s → c ≡ b → array (fold_under w vs c (meaning w vs r) (members (meaning w vs ys)) ∷ []) ≡ meaning w vs t
unfolding fold_under
Fold_is w vs k xs s b ys r c t e f g h =
    ap (λ z. array (fold_under w vs z (meaning w vs r) (members (meaning w vs ys)) ∷ [])) h
    ∙ ap (λ z. array (fold_under w vs b (meaning w vs z) (members (meaning w vs ys)) ∷ [])) g
    ∙ ap (λ z. array (fold_under w vs b (meaning w vs s) (members (meaning w vs z)) ∷ [])) f
    ∙ ap (meaning w vs) (sym e)

pub map_under-none : (w : World) (vs : List Value) (b : Tree) → map_under w vs b [] ≡ []
unfolding map_under
map_under-none w vs b = refl

map_under_push : (w : World) (vs : List Value) (b : Tree) (xs : List Value) (x : Value) → map_under w vs b (xs ++ x ∷ []) ≡ map_under w vs b xs ++ meaning w (x ∷ vs) b ∷ []
unfolding map_under
map_under_push w vs b [] x = refl
map_under_push w vs b (y ∷ xs) x = ap (λ zs. meaning w (y ∷ vs) b ∷ zs) (map_under_push w vs b xs x)

pub map_under_next : (w : World) (vs : List Value) (b : Tree) (x : Value) (xs : List Value) → map_under w vs b (x ∷ xs) ≡ meaning w (x ∷ vs) b ∷ map_under w vs b xs
unfolding map_under
map_under_next w vs b x xs = refl

-- one member more
pub map_under_more : (w : World) (vs : List Value) (b : Tree) (xs : List Val) (i : ℕ) (d : Val) → i < length xs → map_under w vs b (map value_of (take (i + 1) xs)) ≡ map_under w vs b (map value_of (take i xs)) ++ meaning w (value_of (get_or xs i d) ∷ vs) b ∷ []
map_under_more w vs b xs i d h = ap (map_under w vs b) (map_more value_of xs i d h) ∙ map_under_push w vs b (map value_of (take i xs)) (value_of (get_or xs i d))

pub fold_under-none : (w : World) (vs : List Value) (b : Tree) (a : Value) → fold_under w vs b a [] ≡ a
unfolding fold_under
fold_under-none w vs b a = refl

fold_under_push : (w : World) (vs : List Value) (b : Tree) (a : Value) (xs : List Value) (x : Value) → fold_under w vs b a (xs ++ x ∷ []) ≡ meaning w (x ∷ fold_under w vs b a xs ∷ vs) b
unfolding fold_under
fold_under_push w vs b a [] x = refl
fold_under_push w vs b a (y ∷ xs) x = fold_under_push w vs b (meaning w (y ∷ a ∷ vs) b) xs x

pub fold_under_more : (w : World) (vs : List Value) (b : Tree) (a : Value) (xs : List Val) (i : ℕ) (d : Val) → i < length xs → fold_under w vs b a (map value_of (take (i + 1) xs)) ≡ meaning w (value_of (get_or xs i d) ∷ fold_under w vs b a (map value_of (take i xs)) ∷ vs) b
fold_under_more w vs b a xs i d h = ap (fold_under w vs b a) (map_more value_of xs i d h) ∙ fold_under_push w vs b a (map value_of (take i xs)) (value_of (get_or xs i d))

pub choose-zero : (a b : Value) → choose 0 a b ≡ b
choose-zero a b = refl

pub choose-nonzero : (n : ℕ) (a b : Value) → n ≢ 0 → choose n a b ≡ a
choose-nonzero zero a b h = absurd (h refl)
choose-nonzero (suc n) a b h = refl

pub ruleset under =
    (push_behind, map_under-none, map_under_more, fold_under-none, fold_under_more, choose-zero, choose-nonzero)

pub ruleset members_of_pieces = (members-array)

pub ruleset under_pieces = (push_behind, map_under-none, map_under_next, append_assoc, append-nil)

-- ---- folds by an operator
pub reduce_value : (r : Reducer) (v u : Value) → binary_value (binary.Reduce r) v u ≡ array (fold_by r u (members v) ∷ [])
unfolding fold_by
reduce_value r v u = refl

pub fold_by-none : (r : Reducer) (a : Value) → fold_by r a [] ≡ a
unfolding fold_by
fold_by-none r a = refl

fold_by_push : (r : Reducer) (a : Value) (xs : List Value) (x : Value) → fold_by r a (xs ++ x ∷ []) ≡ Word (combine r (word (fold_by r a xs)) (word x))
unfolding fold_by
fold_by_push r a [] x = refl
fold_by_push r a (y ∷ xs) x = fold_by_push r (Word (combine r (word a) (word y))) xs x

pub fold_by_more : (r : Reducer) (a : Value) (xs : List Val) (i : ℕ) (d : Val) → i < length xs → fold_by r a (map value_of (take (i + 1) xs)) ≡ Word (combine r (word (fold_by r a (map value_of (take i xs)))) (word (value_of (get_or xs i d))))
fold_by_more r a xs i d h = ap (fold_by r a) (map_more value_of xs i d h) ∙ fold_by_push r a (map value_of (take i xs)) (value_of (get_or xs i d))

pub ruleset reductions = (value_of-List, word-List, members-List, push_behind, reduce_value, fold_by-none, fold_by_more)
