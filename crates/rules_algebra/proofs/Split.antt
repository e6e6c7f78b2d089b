-- Split and join undo each other.
use Rattle.std.proofs.Common.{◌≡◌, ℕ, ◌*◌, ◌/◌, ◌<◌, List, length, sym, ap, ◌∙◌, subst, arith, pos, ◌*ℤ◌}
use Rattle.std.proofs.lemmas.Int.{ints}
use Rattle.std.proofs.Math.Nat.{mul-div_cancel_left}
use Rattle.size_arith.specs.declared.poly.Monomial.{Monomial}
use Rattle.size_arith.specs.Polynomial.{IsPoly, AllDivide, monomial_at, value_at, times, quotient, of_monomial}
use Rattle.size_arith.proofs.Soundness.{shown_at_least}
use Rattle.lift_tree.specs.declared.length.Factor.{Factor}
use Rattle.lift_tree.specs.declared.layout.Layout.TheVariants.{Join, Split}
use Rattle.lift_tree.specs.declared.term.UnaryForm.TheVariants.{Layout}
use Rattle.lift_tree.specs.Tree.{Tree, Unary}
use Rattle.lift_tree.specs.Values.{Value, array, members}
use Rattle.lift_tree.specs.Lists.{Every, concat, pieces}
use Rattle.lift_tree.specs.Meaning.{World, meaning, rows, array_of_rows, product_at}
use Rattle.lift_tree.specs.WorkedOut.{product_of}
use Rattle.lift_tree.specs.Types.{PlainTy, ArrayOf, HasType, IsFormed}
use Rattle.lift_tree.specs.Typing.{Declared, Types, IsDeclared, IsAdmissible}
use Rattle.lift_tree.proofs.Copies.{TypesUnder, types_alone}
use Rattle.lift_tree.proofs.Members.{members-array, every_to}
use Rattle.lift_tree.proofs.Sizes.{value-of_monomial, value-quotient, product_value}
use Rattle.lift_tree.proofs.Rows.{list_have, rows_have}
use Rattle.lift_tree.proofs.Sound.{values_have_types}
use Rattle.lift_tree.proofs.Unique.{one_type}
use Rattle.rewriting.specs.Keeps.{Keeps}
use Rattle.rules_algebra.specs.Shapes.{HasPolynomial}
use Rattle.rewriting.proofs.Keeping.{keeping}
use Rattle.rules_algebra.proofs.Kept.{same_array}
use Rattle.rules_algebra.proofs.Lists.{concat-pieces, pieces-concat, length-concat, rows-array}
use Rattle.lift_tree.proofs.Quotients.{not_zero, quotient_joined, joined_quotient}
use Rattle.rules_algebra.proofs.Values.{array_back, rows_back, pieces_fit}

module _ (d : Declared) (g : List PlainTy) (declared : IsDeclared d) (fg : Every (IsFormed d.names) g) where
  -- the number of elements in a piece
  size_is : (w : World) (fs : List Factor) → IsAdmissible d w → monomial_at w.bases (product_of d.names fs) ≡ pos (product_at w.sizes fs)
  size_is w fs ok = product_value d.names w.bases ok.bases declared.few fs ∙ ap (λ ss. pos (product_at ss fs)) (sym ok.sizes)

  pub join_split_keeps : (xs : Tree) (fs : List Factor) (a b : PlainTy) → Types d g (Unary (Layout Join) (Unary (Layout (Split fs)) xs)) a → Types d g xs b → HasPolynomial b
      → Keeps d g (Unary (Layout Join) (Unary (Layout (Split fs)) xs)) xs
  join_split_keeps xs fs c b whole typed poly =
      keeping d g _ _
      (λ asked a h.
      let i = h.1 in
      let r = i.2 in
      let s = h.2 in
      let m = product_of d.names fs in
      let outer = same_array (ArrayOf r.0 (of_monomial m)) (ArrayOf s.0 s.1) (quotient m r.1) s.2 (sym r.4 ∙ s.3) in
      let inner = same_array r.0 s.0 (of_monomial m) s.1 outer.0 in
      let formed : IsFormed d.names (ArrayOf (ArrayOf r.0 (of_monomial m)) (quotient m r.1)) = subst (IsFormed d.names) r.4 r.5 in
      let z = not_zero d.names m formed.1.0 in
      let same : b ≡ ArrayOf r.0 r.1 = one_type d g xs b i.0 typed (types_alone asked d g xs i.0 i.1) ∙ r.2 in
      let p : IsPoly r.1 = subst HasPolynomial same poly in
      let n = quotient_joined m r.1 z p.canonical r.3 in
      let back : a ≡ ArrayOf s.0 (times s.2 s.1) = s.4 in
      let e : a ≡ i.0 = back ∙ ap (λ t. ArrayOf t (times s.2 s.1)) (sym inner.0) ∙ ap (λ k. ArrayOf r.0 (times s.2 k)) (sym inner.1) ∙ ap (λ k. ArrayOf r.0 (times k (of_monomial m))) (sym outer.1) ∙ ap (ArrayOf r.0) n ∙ sym r.2 in
      subst (TypesUnder asked d g xs) (sym e) i.1)
      (λ w vs ok all.
      let i = whole.1 in
      let r = i.2 in
      let m = product_of d.names fs in
      let v = meaning w vs xs in
      let x = members v in
      let k = product_at w.sizes fs in
      let formed : IsFormed d.names (ArrayOf (ArrayOf r.0 (of_monomial m)) (quotient m r.1)) = subst (IsFormed d.names) r.4 r.5 in
      let t = subst (λ z. HasType w.bases z v) r.2 (values_have_types d w g vs xs i.0 declared ok fg all i.1) in
      let long = (list_have w.bases r.0 r.1 v t).0 in
      let size = size_is w fs ok in
      let least = shown_at_least d.names w.bases declared.names ok.bases 1 (of_monomial m) formed.1.0 in
      let is = value-of_monomial w.bases m in
      let some : 0 < k = omega (arith, ints) in
      let q = value-quotient w.bases m r.1 r.3 in
      let fit = pieces_fit k (length x) (value_at w.bases (quotient m r.1)) some (long ∙ q ∙ ap (λ z. z *ℤ value_at w.bases (quotient m r.1)) size) in
      sym
      (ap (λ l. array (concat l)) (rows-array (pieces (length x / k) k k x))
      ∙ ap array (concat-pieces (length x / k) k x fit)
      ∙ array_back w.bases r.0 r.1 v t))

  pub split_join_keeps : (xs : Tree) (fs : List Factor) (a x : PlainTy) (m n : List Monomial) → Types d g (Unary (Layout (Split fs)) (Unary (Layout Join) xs)) a → Types d g xs (ArrayOf (ArrayOf x m) n) → IsPoly n → m ≡ of_monomial (product_of d.names fs)
      → Keeps d g (Unary (Layout (Split fs)) (Unary (Layout Join) xs)) xs
  split_join_keeps xs fs c x m n whole typed poly same =
      keeping d g _ _
      (λ asked a h.
      let i = h.1 in
      let r = i.2 in
      let s = h.2 in
      let M = product_of d.names fs in
      let outer = same_array s.0 r.0 s.1 (times r.2 r.1) (sym s.2 ∙ r.4) in
      let own = one_type d g xs (ArrayOf (ArrayOf x m) n) i.0 typed (types_alone asked d g xs i.0 i.1) in
      let whole = same_array (ArrayOf x m) (ArrayOf r.0 r.1) n r.2 (own ∙ r.3) in
      let inner = same_array x r.0 m r.1 whole.0 in
      let length : s.1 ≡ times n (of_monomial M) = outer.1 ∙ ap (λ k. times k r.1) (sym whole.1) ∙ ap (times n) (sym inner.1 ∙ same) in
      let formed : IsFormed d.names (ArrayOf (ArrayOf s.0 (of_monomial M)) (quotient M s.1)) = subst (IsFormed d.names) s.4 s.5 in
      let z = not_zero d.names M formed.1.0 in
      let q = ap (quotient M) length ∙ joined_quotient d.names fs n z poly (subst (AllDivide M) length s.3) in
      let e : a ≡ ArrayOf (ArrayOf x m) n = s.4 ∙ ap (λ t. ArrayOf (ArrayOf t (of_monomial M)) (quotient M s.1)) (outer.0 ∙ sym inner.0) ∙ ap (λ k. ArrayOf (ArrayOf x k) (quotient M s.1)) (sym same) ∙ ap (ArrayOf (ArrayOf x m)) q in
      subst (TypesUnder asked d g xs) (sym own ∙ sym e) i.1)
      (λ w vs ok all.
      let s = whole.2 in
      let M = product_of d.names fs in
      let v = meaning w vs xs in
      let rs = rows v in
      let k = product_at w.sizes fs in
      let formed : IsFormed d.names (ArrayOf (ArrayOf s.0 (of_monomial M)) (quotient M s.1)) = subst (IsFormed d.names) s.4 s.5 in
      let t = values_have_types d w g vs xs (ArrayOf (ArrayOf x m) n) declared ok fg all typed in
      let size = size_is w fs ok in
      let least = shown_at_least d.names w.bases declared.names ok.bases 1 (of_monomial M) formed.1.0 in
      let is = value-of_monomial w.bases M in
      let some : 0 < k = omega (arith, ints) in
      let row : value_at w.bases m ≡ pos k = ap (value_at w.bases) same ∙ is ∙ size in
      let long = every_to (λ q h. as_long q k (h.0 ∙ row)) rs (rows_have w.bases x m n v t).1 in
      let count : length (concat rs) / k ≡ length rs = ap (λ z. z / k) (length-concat k rs long ∙ turned (length rs) k) ∙ mul-div_cancel_left (length rs) some in
      sym
      (ap (λ l. array_of_rows (pieces (length l / k) k k l)) (members-array (concat rs))
      ∙ ap (λ c. array_of_rows (pieces c k k (concat rs))) count
      ∙ ap array_of_rows (pieces-concat k rs long)
      ∙ rows_back w.bases x m n v t))
    where
      as_long : (q : List Value) (k : ℕ) → pos (length q) ≡ pos k → length q ≡ k
      as_long q k e = cc

      turned : (a b : ℕ) → a * b ≡ b * a
      turned a b = omega arith
