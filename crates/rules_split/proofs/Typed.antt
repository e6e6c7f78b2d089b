-- The types of what stands in a typed term, and of what is made of it.
use Rattle.std.proofs.Common.{◌≡◌, ℕ, zero, suc, ◌+◌, ◌<◌, List, [], ◌∷◌, sym, ap, ◌∙◌, subst, arith, Some}
use Rattle.std.specs.Prelude.{slice_get}
use Rattle.size_arith.specs.declared.poly.Monomial.{Monomial}
use Rattle.lift_tree.specs.declared.term.UnaryForm.TheVariants.{Slide}
use Rattle.lift_tree.specs.declared.term.BinaryForm.TheVariants.{Reduce}
use Rattle.lift_tree.specs.declared.term.MapKind.{MapKind}
use Rattle.scalar_ops.specs.declared.op.Reducer.{Reducer}
use Rattle.lift_tree.specs.Tree.{Tree, Variable, Number, Input, Unary, Binary, Select, Let, Map, Fold}
use Rattle.lift_tree.specs.Renumbering.{up, raise}
use Rattle.lift_tree.specs.Types.{PlainTy, U32, ArrayOf}
use Rattle.lift_tree.specs.Typing.{Declared, Types}
use Rattle.lift_tree.specs.Annotations.{Annotation, Leaf, One, Two, Three, Annotates, type_in}
use Rattle.lift_tree.proofs.Annotated.{annotated_is_typed}
use Rattle.lift_tree.proofs.Copies.{Demand, TypesUnder}
use Rattle.rules_split.specs.Rules.{length_in, array_length}

pub same_array : (x y : PlainTy) (n m : List Monomial) → ArrayOf x n ≡ ArrayOf y m → (x ≡ y) × (n ≡ m)
same_array x y n m e = (cc, cc)

-- ---- one more binder
-- a type put in among others at k
abbrev pub insert_type : ℕ → PlainTy → List PlainTy → List PlainTy
insert_type zero b g = b ∷ g
insert_type (suc k) b [] = []
insert_type (suc k) b (a ∷ g) = a ∷ insert_type k b g

get-insert : (k : ℕ) (b : PlainTy) (g : List PlainTy) (n : ℕ) (a : PlainTy) → slice_get g n ≡ Some a → slice_get (insert_type k b g) (up 1 k n) ≡ Some a
get-insert zero b g n a h = let e : n + 1 ≡ suc n = omega arith in ap (slice_get (b ∷ g)) e ∙ h
get-insert (suc k) b [] n a h = absurd (cc)
get-insert (suc k) b (c ∷ g) zero a h = h
get-insert (suc k) b (c ∷ g) (suc n) a h = get-insert k b g n a h

pub types-raise : (m : Demand) (d : Declared) (k : ℕ) (b : PlainTy) (g : List PlainTy) (t : Tree) (a : PlainTy) → TypesUnder m d g t a → TypesUnder m d (insert_type k b g) (raise k t) a
types-raise m d k b g (Variable n) a h = get-insert k b g n a h
types-raise m d k b g (Number n) a h = h
types-raise m d k b g (Input n) a h = h
types-raise m d k b g (Unary o t) a h = (h.0, types-raise m d k b g t h.0 h.1, h.2, h.3)
types-raise m d k b g (Binary o t u) a h = (h.0, h.1, types-raise m d k b g t h.0 h.2, types-raise m d k b g u h.1 h.3, h.4, h.5)
types-raise m d k b g (Select t u v) a h = (types-raise m d k b g t U32 h.0, types-raise m d k b g u U32 h.1, types-raise m d k b g v U32 h.2, h.3)
types-raise m d k b g (Let v body) a h = (h.0, types-raise m d k b g v h.0 h.1, types-raise m d (suc k) b (h.0 ∷ g) body a h.2)
types-raise m d k b g (Map o xs body) a h = (h.0, h.1, h.2, types-raise m d k b g xs (ArrayOf h.0 h.2) h.3, types-raise m d (suc k) b (h.0 ∷ g) body h.1 h.4, h.5)
types-raise m d k b g (Fold o xs s body) a h = (
  h.0,
  h.1,
  h.2,
  types-raise m d k b g xs (ArrayOf h.0 h.2) h.3,
  types-raise m d k b g s h.1 h.4,
  h.5,
  types-raise m d (suc (suc k)) b (h.0 ∷ h.1 ∷ g) body h.1 h.6,
  h.7,
)

-- ---- the array of a node
-- an array of this length
pub record IsOfLength (d : Declared) (g : List PlainTy) (xs : Tree) (n : List Monomial) : Type 0 where
  pub element : PlainTy
  pub typed : Types d g xs (ArrayOf element n)

length_is : (d : Declared) (g : List PlainTy) (xs : Tree) (n : Annotation) (x : PlainTy) (l : List Monomial) → Annotates d g xs n → type_in n ≡ ArrayOf x l → IsOfLength d g xs (length_in (type_in n))
length_is d g xs n x l h e = record {
  element = x;
  typed = subst (Types d g xs) (e ∙ ap (ArrayOf x) (sym (ap length_in e))) (annotated_is_typed d g xs n h);
}

pub map_array : (d : Declared) (g : List PlainTy) (o : MapKind) (xs f : Tree) (n : Annotation) → Annotates d g (Map o xs f) n → IsOfLength d g xs (array_length n)
map_array d g o xs f (Two a n m) h = length_is d g xs n h.0 h.1 h.2 h.3
map_array d g o xs f (Leaf a) h = absurd h
map_array d g o xs f (One a n) h = absurd h
map_array d g o xs f (Three a n m k) h = absurd h

pub reduced_array : (d : Declared) (g : List PlainTy) (r : Reducer) (xs s : Tree) (n : Annotation) → Annotates d g (Binary (Reduce r) xs s) n → Types d g xs (ArrayOf U32 (array_length n)) × Types d g s U32
reduced_array d g r xs s (Two a n m) h =
    let e = h.2.1 in
    (subst (Types d g xs) (e ∙ ap (ArrayOf U32) (sym (ap length_in e))) (annotated_is_typed d g xs n h.0), subst (Types d g s) h.2.2 (annotated_is_typed d g s m h.1))
reduced_array d g r xs s (Leaf a) h = absurd h
reduced_array d g r xs s (One a n) h = absurd h
reduced_array d g r xs s (Three a n m k) h = absurd h

pub slide_array : (d : Declared) (g : List PlainTy) (s t : ℕ) (xs : Tree) (n : Annotation) → Annotates d g (Unary (Slide s t) xs) n → IsOfLength d g xs (array_length n) × (0 < t)
slide_array d g s t xs (One a n) h = (length_is d g xs n h.1.0 h.1.1 h.0 h.1.2, h.1.3)
slide_array d g s t xs (Leaf a) h = absurd h
slide_array d g s t xs (Two a n m) h = absurd h
slide_array d g s t xs (Three a n m k) h = absurd h
