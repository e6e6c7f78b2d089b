-- A typed term's value has its type.
use Rattle.std.proofs.Common.{◌≡◌, ℕ, zero, suc, ◌≤◌, List, [], ◌∷◌, length, refl, sym, ap, ◌∙◌, subst, pos, ◌≤ℤ◌}
use Rattle.std.specs.Prelude.{map}
use Rattle.scalar_ops.specs.Operators.{choose}
use Rattle.size_arith.specs.declared.poly.Monomial.{Monomial}
use Rattle.size_arith.specs.Polynomial.{value_at}
use Rattle.size_arith.specs.Shown.{ShownAtLeast}
use Rattle.size_arith.proofs.Soundness.{shown_at_least}
use Rattle.lift_tree.specs.Tree.{Tree, Variable, Number, Input, Unary, Binary, Select, Let, Map, Fold}
use Rattle.lift_tree.specs.Values.{Value, Word, array, members, word}
use Rattle.lift_tree.specs.Lists.{Every, fold_left}
use Rattle.lift_tree.specs.Meaning.{World, meaning}
use Rattle.lift_tree.specs.Types.{PlainTy, U32, ArrayOf, HasType, HaveTypes, IsFormed}
use Rattle.lift_tree.specs.Typing.{Declared, Types, constant, IsAdmissible, ValuesHaveTypes}
use Rattle.lift_tree.proofs.Members.{length-map, every_map}
use Rattle.lift_tree.proofs.Sizes.{value-constant}
use Rattle.lift_tree.proofs.Forms.{binary_has, unary_has}
use Rattle.lift_tree.proofs.Rows.{list_has, list_have}
use Rattle.lift_tree.proofs.Formed.{formed}

choose_has : (ys : List ℕ) (n : ℕ) (v u : Value) → HasType ys U32 v → HasType ys U32 u → HasType ys U32 (choose n v u)
choose_has ys zero v u s t = t
choose_has ys (suc n) v u s t = s

pub have_more : (ys : List ℕ) (a : PlainTy) (v : Value) (g : List PlainTy) (vs : List Value) → HasType ys a v → HaveTypes ys g vs → HaveTypes ys (a ∷ g) (v ∷ vs)
have_more ys a v g vs h all zero b e = let d : a ≡ b = cc in subst (λ z. HasType ys z v) d h
have_more ys a v g vs h all (suc n) b e = all n b e

map_has : (ys : List ℕ) (x y : PlainTy) (n : List Monomial) (f : Value → Value) (v : Value) → ((u : Value) → HasType ys x u → HasType ys y (f u)) → HasType ys (ArrayOf x n) v → HasType ys (ArrayOf y n) (array (map f (members v)))
map_has ys x y n f v h t =
    let a = list_have ys x n v t in
    list_has ys y n (map f (members v)) (ap pos (length-map f (members v)) ∙ a.0) (every_map (HasType ys x) (HasType ys y) f (members v) h a.1)

fold_has : (ys : List ℕ) (x y : PlainTy) (n : List Monomial) (f : Value → Value → Value) (s v : Value) → ((b u : Value) → HasType ys y b → HasType ys x u → HasType ys y (f b u)) → HasType ys y s → HasType ys (ArrayOf x n) v → HasType ys (ArrayOf y (constant 1)) (array (fold_left f s (members v) ∷ []))
fold_has ys x y n f s v h a t = list_has ys y (constant 1) (fold_left f s (members v) ∷ []) (sym (value-constant ys 1)) (go (members v) s a (list_have ys x n v t).1, tt)
  where
    go : (xs : List Value) (b : Value) → HasType ys y b → Every (HasType ys x) xs → HasType ys y (fold_left f b xs)
    go [] b p q = p
    go (u ∷ xs) b p q = go xs (f b u) (h b u p q.0) q.1

module _ (d : Declared) (inputs : Every (IsFormed d.names) d.inputs) (w : World) (ok : IsAdmissible d w) (few : length d.names ≤ 8) (shown : (k : ℕ) (p : List Monomial) → ShownAtLeast k d.names p → pos k ≤ℤ value_at w.bases p) where
  pub sound : (g : List PlainTy) (vs : List Value) (t : Tree) (a : PlainTy) → Every (IsFormed d.names) g → HaveTypes w.bases g vs → Types d g t a → HasType w.bases a (meaning w vs t)
  sound g vs (Variable n) a fg all h = all n a h
  sound g vs (Number n) a fg all h = subst (λ z. HasType w.bases z (Word n)) (sym h.1) (n, refl, h.0)
  sound g vs (Input n) a fg all h = ok.inputs n a h
  sound g vs (Unary f t) a fg all h = unary_has d w ok few shown f h.0 a _ (formed d inputs g t h.0 fg h.1) h.2 (sound g vs t h.0 fg all h.1)
  sound g vs (Binary f t u) a fg all h = binary_has d w ok few shown f h.0 h.1 a _ _ h.4 (sound g vs t h.0 fg all h.2) (sound g vs u h.1 fg all h.3)
  sound g vs (Select t u v) a fg all h = subst (λ z. HasType w.bases z (meaning w vs (Select t u v))) (sym h.3) (choose_has w.bases (word (meaning w vs t)) _ _ (sound g vs u U32 fg all h.1) (sound g vs v U32 fg all h.2))
  sound g vs (Let v b) a fg all h = sound (h.0 ∷ g) (meaning w vs v ∷ vs) b a (formed d inputs g v h.0 fg h.1, fg) (have_more w.bases h.0 _ g vs (sound g vs v h.0 fg all h.1) all) h.2
  sound g vs (Map k xs b) a fg all h =
      let x = formed d inputs g xs (ArrayOf h.0 h.2) fg h.3 in
      subst (λ z. HasType w.bases z (meaning w vs (Map k xs b))) (sym h.5)
      (map_has w.bases h.0 h.1 h.2 _ _ (λ u q. sound (h.0 ∷ g) (u ∷ vs) b h.1 (x.1, fg) (have_more w.bases h.0 u g vs q all) h.4) (sound g vs xs (ArrayOf h.0 h.2) fg all h.3))
  sound g vs (Fold k xs s b) a fg all h =
      let x = formed d inputs g xs (ArrayOf h.0 h.2) fg h.3 in
      let y = formed d inputs g s h.1 fg h.4 in
      subst (λ z. HasType w.bases z (meaning w vs (Fold k xs s b))) (sym h.7)
      (fold_has w.bases h.0 h.1 h.2 _ _ _ (λ c u q r. sound (h.0 ∷ h.1 ∷ g) (u ∷ c ∷ vs) b h.1 (x.1, (y, fg)) (have_more w.bases h.0 u (h.1 ∷ g) (c ∷ vs) r (have_more w.bases h.1 c g vs q all)) h.6) (sound g vs s h.1 fg all h.4) (sound g vs xs (ArrayOf h.0 h.2) fg all h.3))

pub values_have_types : ValuesHaveTypes
values_have_types d w g vs t a declared ok formed all h = sound d declared.inputs w ok declared.few (λ k p s. shown_at_least d.names w.bases declared.names ok.bases k p s) g vs t a formed all h
