-- A typed term's lowered term has its value, and its type at each admissible launch.
use Rattle.std.proofs.Common.{◌≡◌, ℕ, zero, suc, ◌+◌, ◌<◌, ◌≤◌, Bool, true, false, List, [], ◌∷◌, length, Some, refl, inl, inr, arith}
use Rattle.std.specs.Prelude.{◌⊎◌, slice_get, if◌then◌else◌, nat_eq}
use Rattle.size_arith.specs.declared.poly.Monomial.{Monomial}
use Rattle.scalar_ops.specs.declared.op.Op.{Op}
use Rattle.scalar_ops.specs.declared.op.Op.TheVariants as op
use Rattle.lift_tree.specs.declared.term.Operator.{Operator}
use Rattle.lift_tree.specs.declared.term.UnaryForm.TheVariants as unary
use Rattle.lift_tree.specs.declared.term.BinaryForm.TheVariants as binary
use Rattle.lift_tree.specs.Tree as tree
use Rattle.lift_tree.specs.Tree.{Tree}
use Rattle.lift_tree.specs.Types as types
use Rattle.lift_tree.specs.Types.{PlainTy}
use Rattle.lift_tree.specs.Meaning.{World, scalar_op}
use Rattle.lift_tree.specs.Typing.{Declared, IsAdmissible}
use Rattle.lift_tree.specs.Annotations.{Annotation, Leaf, One, Two, Three, type_in, Annotates}
use Rattle.lift_ir.specs.Types.{Ty, Scalar, PairOf, ArrayOf}
use Rattle.lift_ir.specs.Terms.{LoadSet, Skip, Take, TakeFour, Each, LoadsScalars, Term}
use Rattle.lift_ir.specs.Sources.{Lowers}
use Rattle.lift_ir.specs.AtLaunch.{length_at, ty_at}
use Rattle.lift_ir.specs.Lowering.{Place, Written, Argument, Element, element_ty, is_element, Lowered, is_vector, divided, applied, placed, all_scalars, reached, merged, named, operand_place, value_place, body_place, lower_let, placed_element, lower}
use Rattle.lift_ir.specs.Lowerable.{IsLowerable}
use Rattle.lift_ir.proofs.AtLaunch.{layout_lowers}

there_is : (g : List PlainTy) (v : ℕ) (a : PlainTy) → slice_get g v ≡ Some a → v < length g
there_is [] v a e = absurd (cc)
there_is (b ∷ g) zero a e = omega arith
there_is (b ∷ g) (suc v) a e = let h = there_is g v a e in omega arith

module _ (d : Declared) (w : World) (ok : IsAdmissible d w) (few : length d.names ≤ 8) where
  abbrev num : List Monomial → ℕ
  num = length_at w.bases

  abbrev Is : ℕ → Tree → Lowered → Type 0
  Is n t x = Lowers num w n (length d.inputs) t x

  lowers_put : (p : Place) (a : PlainTy) (n : ℕ) (t : Tree) (x : Lowered) → Is n t x → Is n t (placed p a x)
  lowers_put Written a n t x h = h
  lowers_put Argument a n t x h = h
  lowers_put Element a n t x h = h

  lowers_let : (c : PlainTy) (n : ℕ) (x y : Tree) (v b : Lowered) → Is n x v → Is (n + 1) y b → Is n (tree.Let x y) (lower_let c v b)
  lowers_let c n x y v b h k = go (is_element c)
    where
      go : (t : Bool) → Is n (tree.Let x y) (if t then Term.LetElement (element_ty c) v b else Term.LetArray v b)
      go true = (x, y, refl, h, k)
      go false = (x, y, refl, h, k)

  lowers_put_element : (p : Place) (a : PlainTy) (n : ℕ) (t : Tree) (x : Lowered) → Is n t x → Is n t (placed_element p a x)
  lowers_put_element p a n t x h = go (is_element a)
    where
      go : (b : Bool) → Is n t (if b then placed p a x else x)
      go true = lowers_put p a n t x h
      go false = h

  divided_is : (v : Bool) (o : Op) (m n : ℕ) (t u : Tree) (x : Lowered) → ((o ≡ op.Div) × (t ≡ tree.Unary (unary.Div m) u)) ⊎ ((o ≡ op.Rem) × (t ≡ tree.Unary (unary.Rem m) u)) → Is n u x → Is n t (divided v o m x)
  divided_is false o m n t u x e h = (u, e, h)
  divided_is true o m n t u x e h = (u, e, h)

  applied_is : (v l r : Bool) (o : Operator) (n : ℕ) (t u : Tree) (x y : Lowered) → Is n t x → Is n u y → Is n (tree.Binary (binary.Operator o) t u) (applied v l r (scalar_op o) x y)
  applied_is false l r o n t u x y h k = (o, t, u, refl, refl, h, k)
  applied_is true l r o n t u x y h k = (o, t, u, refl, refl, h, k)

  -- the lowered term is the source's
  pub lowers_is : (t : Tree) (p : Place) (g : List PlainTy) (a : Annotation) (n : ℕ) → length g ≡ n → Annotates d g t a → IsLowerable w.bases p t a → Is n t (lower d.names p t a)
  lowers_is (tree.Variable v) p g (Leaf a) n e h l = lowers_put p a n _ _ (refl, let z = there_is g v a h in omega arith)
  lowers_is (tree.Number c) p g (Leaf a) n e h l = lowers_put p a n _ _ refl
  lowers_is (tree.Input i) p g (Leaf a) n e h l = (refl, there_is d.inputs i a h)
  lowers_is (tree.Unary (unary.Div m) t) p g (One a x) n e h l = lowers_put p a n _ _ (divided_is (is_vector a) op.Div m n _ t _ (inl (refl, refl)) (lowers_is t Element g x n e h.0 l.3))
  lowers_is (tree.Unary (unary.Rem m) t) p g (One a x) n e h l = lowers_put p a n _ _ (divided_is (is_vector a) op.Rem m n _ t _ (inr (refl, refl)) (lowers_is t Element g x n e h.0 l.3))
  lowers_is (tree.Unary unary.First t) p g (One a x) n e h l = lowers_put p a n _ _ (t, refl, lowers_is t (operand_place unary.First p) g x n e h.0 l.3)
  lowers_is (tree.Unary unary.Second t) p g (One a x) n e h l = lowers_put p a n _ _ (t, refl, lowers_is t (operand_place unary.Second p) g x n e h.0 l.3)
  lowers_is (tree.Unary (unary.Layout y) t) p g (One a x) n e h l = layout_lowers d w ok few p y (type_in x) a n (length d.inputs) t (lower d.names p t x) h.1 (lowers_is t p g x n e h.0 l.3)
  lowers_is (tree.Unary (unary.Slide s k) t) p g (One a x) n e h l = (t, refl, lowers_is t p g x n e h.0 l.3)
  lowers_is (tree.Unary (unary.Pad s k) t) p g (One a x) n e h l = (t, refl, lowers_is t p g x n e h.0 l.3)
  lowers_is (tree.Unary unary.ToLocal t) p g (One a x) n e h l = (t, refl, lowers_is t Written g x n e h.0 l.3)
  lowers_is (tree.Unary unary.ToPrivate t) p g (One a x) n e h l = (t, refl, lowers_is t Written g x n e h.0 l.3)
  lowers_is (tree.Unary unary.Then t) p g (One a x) n e h l = absurd l.2
  lowers_is (tree.Binary (binary.Operator o) t u) p g (Two a x y) n e h l = lowers_put p a n _ _ (applied_is (is_vector a) (is_vector (type_in x)) (is_vector (type_in y)) o n t u _ _ (lowers_is t Element g x n e h.0 l.1) (lowers_is u Element g y n e h.1 l.2))
  lowers_is (tree.Binary binary.Pair t u) p g (Two a x y) n e h l = lowers_put p a n _ _ (t, u, refl, lowers_is t Element g x n e h.0 l.1, lowers_is u Element g y n e h.1 l.2)
  lowers_is (tree.Binary binary.Zip t u) p g (Two a x y) n e h l = (t, u, refl, lowers_is t Argument g x n e h.0 l.1, lowers_is u Argument g y n e h.1 l.2)
  lowers_is (tree.Binary (binary.Reduce r) t u) p g (Two a x y) n e h l = absurd l.0
  lowers_is (tree.Select t u v) p g (Three a x y z) n e h l = lowers_put p a n _ _ (t, u, v, refl, lowers_is t Element g x n e h.0 l.0, lowers_is u Element g y n e h.1 l.1, lowers_is v Element g z n e h.2 l.2)
  lowers_is (tree.Let v b) p g (Two a x y) n e h l =
      lowers_put_element p a n _ _ (lowers_let (type_in x) n v b _ _ (lowers_is v (value_place x) g x n e h.0 l.0) (lowers_is b (body_place p a) (type_in x ∷ g) y (n + 1) (omega arith) h.1 l.1))
  lowers_is (tree.Map k xs b) p g (Two a x y) n e h l = (k, xs, b, refl, lowers_is xs Argument g x n e h.2 l.1, lowers_is b Written (h.0 ∷ g) y (n + 1) (omega arith) h.4 l.2)
  lowers_is (tree.Fold k xs s b) p g (Three a x y z) n e h l =
      (k, xs, s, b, refl, lowers_is xs Argument g x n e h.2 l.1, lowers_is s Element g y n e h.4 l.2, lowers_is b Element (h.0 ∷ type_in y ∷ g) z (n + 2) (omega arith) h.6 l.3)
  lowers_is _ p g _ n e h l = absurd h

-- Names suit their types

suits_whole : (ys : List ℕ) (a : PlainTy) → LoadsScalars (all_scalars a) (ty_at ys a)
suits_whole ys types.U32 = tt
suits_whole ys types.U32x4 = (refl, refl)
suits_whole ys (types.PairOf a b) = (suits_whole ys a, suits_whole ys b)
suits_whole ys (types.ArrayOf a n) = tt

suits_reach : (ys : List ℕ) (a : PlainTy) (p : List Bool) → LoadsScalars (reached a p) (ty_at ys a)
suits_reach ys a [] = suits_whole ys a
suits_reach ys types.U32 (c ∷ p) = tt
suits_reach ys types.U32x4 (c ∷ p) = tt
suits_reach ys (types.PairOf a b) (false ∷ p) = (suits_reach ys a p, tt)
suits_reach ys (types.PairOf a b) (true ∷ p) = (tt, suits_reach ys b p)
suits_reach ys (types.ArrayOf a n) (c ∷ p) = tt

suits_merge : (x y : LoadSet) (t : Ty) → LoadsScalars x t → LoadsScalars y t → LoadsScalars (merged x y) t
suits_merge Skip y t h k = k
suits_merge Take y t h k = h
suits_merge TakeFour y t h k = h
suits_merge (Each a b) TakeFour Scalar h k = absurd h
suits_merge (Each a b) TakeFour (PairOf t u) h k = absurd k
suits_merge (Each a b) TakeFour (ArrayOf n t) h k = absurd h
suits_merge (Each a b) Skip t h k = h
suits_merge (Each a b) Take Scalar h k = absurd h
suits_merge (Each a b) Take (PairOf t u) h k = absurd k
suits_merge (Each a b) Take (ArrayOf n t) h k = absurd h
suits_merge (Each a b) (Each c e) Scalar h k = absurd h
suits_merge (Each a b) (Each c e) (PairOf t u) h k = (suits_merge a c t h.0 k.0, suits_merge b e u h.1 k.1)
suits_merge (Each a b) (Each c e) (ArrayOf n t) h k = absurd h

pub suits_named : (ys : List ℕ) (v : ℕ) (a : PlainTy) (p : List Bool) (t : Tree) → LoadsScalars (named v a p t) (ty_at ys a)
suits_named ys v a p (tree.Variable u) = go (nat_eq u v)
  where
    go : (b : Bool) → LoadsScalars (if b then reached a p else Skip) (ty_at ys a)
    go true = suits_reach ys a p
    go false = tt
suits_named ys v a p (tree.Number n) = tt
suits_named ys v a p (tree.Input n) = tt
suits_named ys v a p (tree.Unary unary.First t) = suits_named ys v a (false ∷ p) t
suits_named ys v a p (tree.Unary unary.Second t) = suits_named ys v a (true ∷ p) t
suits_named ys v a p (tree.Unary f t) = suits_named ys v a [] t
suits_named ys v a p (tree.Binary f t u) = suits_merge _ _ _ (suits_named ys v a [] t) (suits_named ys v a [] u)
suits_named ys v a p (tree.Select t u w) = suits_merge _ _ _ (suits_named ys v a [] t) (suits_merge _ _ _ (suits_named ys v a [] u) (suits_named ys v a [] w))
suits_named ys v a p (tree.Let x b) = suits_merge _ _ _ (suits_named ys v a [] x) (suits_named ys (suc v) a [] b)
suits_named ys v a p (tree.Map k xs b) = suits_merge _ _ _ (suits_named ys v a [] xs) (suits_named ys (suc v) a [] b)
suits_named ys v a p (tree.Fold k xs s b) = suits_merge _ _ _ (suits_named ys v a [] xs) (suits_merge _ _ _ (suits_named ys v a [] s) (suits_named ys (suc (suc v)) a [] b))
