-- Values of types have their scalars, and their lists are those of their components.
use Rattle.std.proofs.Common.{◌≡◌, ℕ, zero, suc, ◌<◌, Bool, true, false, List, [], ◌∷◌, ◌++◌, length, get_or, refl, sym, ap, ◌∙◌, subst, arith}
use Rattle.std.specs.Prelude.{map}
use Rattle.std.proofs.lemmas.List.{map-append}
use Rattle.std.proofs.lemmas.Simd.{map-map}
use Rattle.lift_tree.specs.Types as types
use Rattle.lift_tree.specs.Types.{PlainTy}
use Rattle.lift_tree.specs.Lists.{Every}
use Rattle.lift_tree.specs.Values.{Value, Word, list_of, Side, Left, Right}
use Rattle.lift_tree.specs.Values as value
use Rattle.lift_tree.specs.Limits.{components}
use Rattle.lift_tree.specs.Launches as launches
use Rattle.lift_tree.proofs.Members.{members-array}
use Rattle.lift_tree.proofs.Sizes.{value-constant}
use Rattle.lift_ir.specs.Types.{Scalar, PairOf, ArrayOf, choices_of, measured}
use Rattle.lift_ir.specs.Scalars.{HasScalars, scalars_in, side_of, lists_of}
use Rattle.lift_ir.specs.AtLaunch.{natural, length_at, ty_at, shape_of}

-- a type of the source, and its shape at a launch
pub shape_is : (ys : List ℕ) (a : PlainTy) → measured (length_at ys) (shape_of a) ≡ ty_at ys a
shape_is ys types.U32 = refl
shape_is ys types.U32x4 = ap (λ n. ArrayOf (natural n) Scalar) (value-constant ys 4)
shape_is ys (types.PairOf a b) = ap (λ z. PairOf z (measured (length_at ys) (shape_of b))) (shape_is ys a) ∙ ap (λ z. PairOf (ty_at ys a) z) (shape_is ys b)
shape_is ys (types.ArrayOf a n) = ap (λ z. ArrayOf (length_at ys n) z) (shape_is ys a)

every_at : {A : Type 0} (P : A → Type 0) (xs : List A) (i : ℕ) (d : A) → Every P xs → i < length xs → P (get_or xs i d)
every_at P [] i d h lt = absurd (omega arith)
every_at P (x ∷ xs) zero d h lt = h.0
every_at P (x ∷ xs) (suc i) d h lt = every_at P xs i d h.1 (omega arith)

-- a value of a type has its scalars
pub has_scalars : (ys : List ℕ) (a : PlainTy) (v : Value) → types.HasType ys a v → HasScalars (ty_at ys a) v (scalars_in (ty_at ys a) v)
has_scalars ys types.U32 v h = h.1 ∙ ap (λ z. Word (value.word z)) (sym h.1)
has_scalars ys types.U32x4 v h = (
  h.0,
  h.1,
  h.2,
  λ i lt.
      let n = every_at types.IsNumber h.0 i (Word 0) h.3 (subst (λ n. i < n) (sym h.2) lt) in
      n.1 ∙ ap (λ z. Word (value.word z)) (sym n.1) ∙ ap (λ xs. Word (value.word (get_or xs i (Word 0)))) (sym (ap value.members h.1 ∙ members-array h.0)),
)
has_scalars ys (types.PairOf a b) v h = (
  h.0,
  h.1,
  h.2,
  subst (λ z. HasScalars (ty_at ys a) h.0 (scalars_in (ty_at ys a) (value.first z))) (sym h.2) (has_scalars ys a h.0 h.3),
  subst (λ z. HasScalars (ty_at ys b) h.1 (scalars_in (ty_at ys b) (value.second z))) (sym h.2) (has_scalars ys b h.1 h.4),
)
has_scalars ys (types.ArrayOf a n) v h = (
  h.0,
  h.1,
  ap natural h.2,
  λ i lt.
      subst (λ xs. HasScalars (ty_at ys a) (get_or h.0 i (Word 0)) (scalars_in (ty_at ys a) (get_or xs i (Word 0)))) (sym (ap value.members h.1 ∙ members-array h.0))
      (has_scalars ys a (get_or h.0 i (Word 0)) (every_at (types.HasType ys a) h.0 i (Word 0) h.3 (subst (λ n. i < n) (sym (ap natural h.2)) lt))),
)

-- the ways to the components are the pair choices
components_are : (ys : List ℕ) (a : PlainTy) → components a ≡ map (map side_of) (choices_of (ty_at ys a))
components_are ys types.U32 = refl
components_are ys types.U32x4 = refl
components_are ys (types.PairOf a b) =
    ap (λ z. map (λ c. Left ∷ c) z ++ map (λ c. Right ∷ c) (components b)) (components_are ys a)
    ∙ ap (λ z. map (λ c. Left ∷ c) (map (map side_of) (choices_of (ty_at ys a))) ++ map (λ c. Right ∷ c) z) (components_are ys b)
    ∙ ap (λ z. z ++ map (λ c. Right ∷ c) (map (map side_of) (choices_of (ty_at ys b)))) (sides false Left refl (choices_of (ty_at ys a)))
    ∙ ap (λ z. map (map side_of) (map (λ cs. false ∷ cs) (choices_of (ty_at ys a))) ++ z) (sides true Right refl (choices_of (ty_at ys b)))
    ∙ sym (map-append (map side_of) (map (λ cs. false ∷ cs) (choices_of (ty_at ys a))) (map (λ cs. true ∷ cs) (choices_of (ty_at ys b))))
  where
    sides : (c : Bool) (s : Side) → side_of c ≡ s → (xs : List (List Bool)) → map (λ c. s ∷ c) (map (map side_of) xs) ≡ map (map side_of) (map (λ cs. c ∷ cs) xs)
    sides c s e [] = refl
    sides c s e (x ∷ xs) = ap (λ z. (z ∷ map side_of x) ∷ map (λ c. s ∷ c) (map (map side_of) xs)) (sym e) ∙ ap (λ z. map side_of (c ∷ x) ∷ z) (sides c s e xs)
components_are ys (types.ArrayOf a n) = components_are ys a

-- a value's lists at a launch are its lists
pub same_lists : (ys : List ℕ) (a : PlainTy) (v : Value) → launches.lists_of a v ≡ lists_of (ty_at ys a) v
same_lists ys a v = ap (map (list_of v)) (components_are ys a) ∙ map-map (list_of v) (map side_of) (choices_of (ty_at ys a))
