-- Rules keep type, copies and value.
use Rattle.std.proofs.Common.{◌≡◌, ℕ, ◌/◌, ◌<◌, false, List, [], ◌∷◌, length, refl, sym, ap, ◌∙◌, subst, arith}
use Rattle.std.specs.Prelude.{map}
use Rattle.std.proofs.lemmas.Int.{ints}
use Rattle.size_arith.specs.declared.poly.Monomial.{Monomial}
use Rattle.size_arith.specs.Polynomial.{times, plus, quotient, of_monomial}
use Rattle.size_arith.proofs.Soundness.{shown_at_least}
use Rattle.lift_tree.specs.declared.length.Factor.{Factor}
use Rattle.lift_tree.specs.declared.term.MapKind.TheVariants.{Plain}
use Rattle.lift_tree.specs.declared.term.FoldKind.TheVariants as fold
use Rattle.lift_tree.specs.declared.layout.Layout.TheVariants.{Join, Split, Transpose}
use Rattle.lift_tree.specs.declared.term.UnaryForm.TheVariants.{Layout, Pad}
use Rattle.lift_tree.specs.Tree.{Tree, Variable, Unary, Let, Map, Fold}
use Rattle.lift_tree.specs.Renumbering.{raise, substitute, mentions}
use Rattle.lift_tree.specs.Values.{Value, array, members}
use Rattle.lift_tree.specs.Lists.{Every, fold_left, concat, pieces, padded, columns, width}
use Rattle.lift_tree.specs.Meaning.{World, meaning, rows, array_of_rows, product_at}
use Rattle.lift_tree.specs.WorkedOut.{product_of}
use Rattle.lift_tree.specs.Types.{PlainTy, ArrayOf, HasType, IsFormed}
use Rattle.lift_tree.specs.Typing.{Declared, Types, IsDeclared, constant}
use Rattle.lift_tree.proofs.Copies.{Demand, TypesUnder, met, types_alone}
use Rattle.lift_tree.proofs.Members.{members-array, length-map}
use Rattle.lift_tree.proofs.Renumbered.{same_map, same_fold, meaning-raise, meaning-substitute}
use Rattle.lift_tree.proofs.Formed.{formed}
use Rattle.lift_tree.proofs.Sound.{values_have_types}
use Rattle.lift_tree.proofs.Unique.{one_type}
use Rattle.rewriting.specs.Keeps.{Keeps}
use Rattle.rules_algebra.specs.Layouts.{without}
use Rattle.rewriting.proofs.Keeping.{keeping}
use Rattle.rules_algebra.proofs.Lists.{map-map, map_same, map_itself, map-concat, fold_left-map, rows-map, map_rows, pieces-map, padded-map, columns-map, width-map, columns-columns, width-columns, rows-array}
use Rattle.rules_algebra.proofs.Typed.{types-raise, types-unraise, types-substitute}
use Rattle.rules_algebra.proofs.Unnamed.{raise-put}
use Rattle.rules_algebra.proofs.Values.{array_back, rows_back, rows_long, some_members}

pub same_array : (x y : PlainTy) (m n : List Monomial) → ArrayOf x m ≡ ArrayOf y n → (x ≡ y) × (m ≡ n)
same_array x y m n e = (cc, cc)

module _ (d : Declared) (g : List PlainTy) where
  pub fuse_map_keeps : (xs b f : Tree) → Keeps d g (Map Plain (Map Plain xs b) f) (Map Plain xs (Let b (raise 1 f)))
  fuse_map_keeps xs b f = keeping d g _ _
      (λ asked a h.
      let m = h.3 in
      let s = same_array h.0 m.1 h.2 m.2 m.5 in
      let k = subst (λ z. TypesUnder asked d (z ∷ g) f h.1) s.0 h.4 in
      (m.0, h.1, m.2, m.3, (m.1, m.4, types-raise asked d m.1 m.0 g f h.1 k), h.5 ∙ ap (ArrayOf h.1) s.1))
      (λ w vs ok all.
      let x = members (meaning w vs xs) in
      same_map _ _ _ _ (λ y. meaning-raise 1 f w y (meaning w (y ∷ vs) b ∷ vs)) refl
      ∙ ap array (sym (map-map (λ y. meaning w (y ∷ vs) f) (λ y. meaning w (y ∷ vs) b) x))
      ∙ sym (ap (λ l. array (map (λ y. meaning w (y ∷ vs) f) l)) (members-array (map (λ y. meaning w (y ∷ vs) b) x))))

  pub fuse_fold_keeps : (xs b s f : Tree) → Keeps d g (Fold fold.Plain (Map Plain xs b) s f) (Fold fold.Plain xs s (Let (raise 1 b) (raise 1 f)))
  fuse_fold_keeps xs b s f = keeping d g _ _
      (λ asked a h.
      let m = h.3 in
      let e = same_array h.0 m.1 h.2 m.2 m.5 in
      let k = subst (λ z. TypesUnder asked d (z ∷ h.1 ∷ g) f h.1) e.0 h.6 in
      (m.0, h.1, m.2, m.3, h.4, h.5, (m.1, types-raise asked d m.0 h.1 g b m.1 m.4, types-raise asked d m.1 m.0 (h.1 ∷ g) f h.1 k), h.7))
      (λ w vs ok all.
      let x = members (meaning w vs xs) in
      let before : Value → Value → Value = λ a y. meaning w (y ∷ a ∷ vs) f in
      same_fold _ _ (meaning w vs s) (meaning w vs s) (meaning w vs xs) (meaning w vs xs)
      (λ a y. ap (λ z. meaning w (z ∷ y ∷ a ∷ vs) (raise 1 f)) (meaning-raise 1 b w a (y ∷ vs)) ∙ meaning-raise 1 f w y (meaning w (y ∷ vs) b ∷ a ∷ vs))
      refl
      refl
      ∙ ap (λ z. array (z ∷ [])) (sym (fold_left-map before (λ y. meaning w (y ∷ vs) b) (meaning w vs s) x))
      ∙ sym (ap (λ l. array (fold_left before (meaning w vs s) l ∷ [])) (members-array (map (λ y. meaning w (y ∷ vs) b) x))))

  pub let_inline_keeps : (v b : Tree) → Keeps d g (Let v b) (substitute b v)
  let_inline_keeps v b = keeping d g _ _ (λ asked a h. types-substitute asked d g b v h.0 a h.1 h.2) (λ w vs ok all. meaning-substitute b v w vs)

module _ (d : Declared) (g : List PlainTy) (declared : IsDeclared d) (fg : Every (IsFormed d.names) g) where
  whole_formed : (t : Tree) (a : PlainTy) → Types d g t a → IsFormed d.names a
  whole_formed t a h = formed d declared.inputs g t a fg h

  formed_under : (asked : Demand) (t : Tree) (a : PlainTy) → TypesUnder asked d g t a → IsFormed d.names a
  formed_under asked t a h = whole_formed t a (types_alone asked d g t a h)

  pub map_join_keeps : (xs f : Tree) → Keeps d g (Map Plain (Unary (Layout Join) xs) f) (Unary (Layout Join) (Map Plain xs (Map Plain (Variable 0) (raise 1 f))))
  map_join_keeps xs f = keeping d g _ _
      (λ asked a h.
      let o = h.3 in
      let r = o.2 in
      let s = same_array h.0 r.0 h.2 (times r.2 r.1) r.4 in
      let k = subst (λ z. TypesUnder asked d (z ∷ g) f h.1) s.0 h.4 in
      let t = subst (λ z. TypesUnder asked d g xs z) r.3 o.1 in
      let row = ArrayOf r.0 r.1 in (
        ArrayOf (ArrayOf h.1 r.1) r.2,
        (row, ArrayOf h.1 r.1, r.2, t, (r.0, h.1, r.1, refl, types-raise asked d r.0 row g f h.1 k, refl), refl),
        (h.1, r.1, r.2, refl, h.5 ∙ ap (ArrayOf h.1) s.1, formed_under asked (Map Plain (Unary (Layout Join) xs) f) a h),
        met asked (Layout Join) a tt,
      ))
      (λ w vs ok all.
      let x = members (meaning w vs xs) in
      let F : Value → Value = λ y. meaning w (y ∷ vs) f in
      ap (λ l. array (concat (rows (array l)))) (map_same _ _ x (λ y. same_map _ _ y y (λ z. meaning-raise 1 f w y (z ∷ vs)) refl))
      ∙ ap (λ l. array (concat l)) (rows-map F x)
      ∙ ap array (sym (map-concat F (map members x)))
      ∙ sym (ap (λ l. array (map F l)) (members-array (concat (map members x)))))

  -- the body of a map over each row, where the body doesn't name the row
  record RowMap (asked : Demand) (f : Tree) (row y : PlainTy) : Type 0 where
    x : PlainTy
    z : PlainTy
    n : List Monomial
    is : row ≡ ArrayOf x n
    typed : TypesUnder asked d (x ∷ g) (without 1 f) z
    whole : y ≡ ArrayOf z n

  row_map : (asked : Demand) (f : Tree) (row y : PlainTy) → mentions 1 f ≡ false → TypesUnder asked d (row ∷ g) (Map Plain (Variable 0) f) y → RowMap asked f row y
  row_map asked f row y unnamed h = record {
    x = h.0;
    z = h.1;
    n = h.2;
    is = cc;
    typed = types-unraise asked d h.0 row g (without 1 f) h.1 (subst (λ t. TypesUnder asked d (h.0 ∷ row ∷ g) t h.1) (sym (raise-put 1 _ f unnamed)) h.4);
    whole = h.5;
  }

  -- its value, where these are the rows
  row_values : (w : World) (vs : List Value) (f : Tree) (v : Value) → mentions 1 f ≡ false
      → array (map (λ r. array (map (λ y. meaning w (y ∷ r ∷ vs) f) (members r))) (members v)) ≡ array (map (λ r. array (map (λ y. meaning w (y ∷ vs) (without 1 f)) (members r))) (members v))
  row_values w vs f v unnamed =
      same_map _ _ v v
      (λ r. same_map _ _ r r (λ y. ap (meaning w (y ∷ r ∷ vs)) (sym (raise-put 1 _ f unnamed)) ∙ meaning-raise 1 (without 1 f) w r (y ∷ vs)) refl)
      refl

  pub map_split_keeps : (xs f : Tree) (fs : List Factor) → mentions 1 f ≡ false
      → Keeps d g (Map Plain (Unary (Layout (Split fs)) xs) (Map Plain (Variable 0) f)) (Unary (Layout (Split fs)) (Map Plain xs (without 1 f)))
  map_split_keeps xs f fs unnamed =
      keeping d g _ _
      (λ asked a h.
      let o = h.3 in
      let r = o.2 in
      let m = product_of d.names fs in
      let s = same_array h.0 (ArrayOf r.0 (of_monomial m)) h.2 (quotient m r.1) r.4 in
      let k = row_map asked f h.0 h.1 unnamed h.4 in
      let e = same_array k.x r.0 k.n (of_monomial m) (sym k.is ∙ s.0) in
      let t = subst (λ z. TypesUnder asked d g xs z) r.2 o.1 in
      let whole : a ≡ ArrayOf (ArrayOf k.z (of_monomial m)) (quotient m r.1) = let p = h.5 in let q = k.whole in let u = e.1 in let v = s.1 in cc in (
        ArrayOf k.z r.1,
        (r.0, k.z, r.1, t, subst (λ z. TypesUnder asked d (z ∷ g) (without 1 f) k.z) e.0 k.typed, refl),
        (k.z, r.1, refl, r.3, whole, formed_under asked (Map Plain (Unary (Layout (Split fs)) xs) (Map Plain (Variable 0) f)) a h),
        met asked (Layout (Split fs)) a tt,
      ))
      (λ w vs ok all.
      let x = members (meaning w vs xs) in
      let F : Value → Value = λ y. meaning w (y ∷ vs) (without 1 f) in
      let k = product_at w.sizes fs in
      let P = pieces (length x / k) k k x in
      ap (λ l. array_of_rows (pieces (length l / k) k k l)) (members-array (map F x))
      ∙ ap (λ n. array_of_rows (pieces (n / k) k k (map F x))) (length-map F x)
      ∙ ap array_of_rows (pieces-map F (length x / k) k k x)
      ∙ sym (map_rows F P)
      ∙ sym (row_values w vs f (array_of_rows P) unnamed))

  pub map_transpose_keeps : (xs f : Tree) (a : PlainTy) → mentions 1 f ≡ false
      → Types d g (Map Plain (Unary (Layout Transpose) xs) (Map Plain (Variable 0) f)) a
      → Keeps d g (Map Plain (Unary (Layout Transpose) xs) (Map Plain (Variable 0) f)) (Unary (Layout Transpose) (Map Plain xs (Map Plain (Variable 0) f)))
  map_transpose_keeps xs f b unnamed whole =
      keeping d g _ _
      (λ asked a h.
      let o = h.3 in
      let r = o.2 in
      let s = same_array h.0 (ArrayOf r.0 r.2) h.2 r.1 r.4 in
      let k = row_map asked f h.0 h.1 unnamed h.4 in
      let e = same_array k.x r.0 k.n r.2 (sym k.is ∙ s.0) in
      let t = subst (λ z. TypesUnder asked d g xs z) r.3 o.1 in
      let row = ArrayOf r.0 r.1 in
      let body = subst (λ z. TypesUnder asked d (z ∷ g) (without 1 f) k.z) e.0 k.typed in
      let under = subst (λ t. TypesUnder asked d (r.0 ∷ row ∷ g) t k.z) (raise-put 1 _ f unnamed) (types-raise asked d r.0 row g (without 1 f) k.z body) in
      let same : a ≡ ArrayOf (ArrayOf k.z r.2) r.1 = let p = h.5 in let q = k.whole in let u = e.1 in let v = s.1 in cc in (
        ArrayOf (ArrayOf k.z r.1) r.2,
        (row, ArrayOf k.z r.1, r.2, t, (r.0, k.z, r.1, refl, under, refl), refl),
        (k.z, r.1, r.2, refl, same, formed_under asked (Map Plain (Unary (Layout Transpose) xs) (Map Plain (Variable 0) f)) a h),
        met asked (Layout Transpose) a tt,
      ))
      (λ w vs ok all.
      let r = whole.3.2 in
      let v = meaning w vs xs in
      let rs = rows v in
      let F : Value → Value = λ y. meaning w (y ∷ vs) (without 1 f) in
      let shape = whole_formed (Unary (Layout Transpose) xs) (ArrayOf whole.0 whole.2) whole.3 in
      let shown : IsFormed d.names (ArrayOf (ArrayOf r.0 r.2) r.1) = subst (IsFormed d.names) r.4 shape in
      let t = values_have_types d w g vs xs (ArrayOf (ArrayOf r.0 r.1) r.2) declared ok fg all (subst (λ z. Types d g xs z) r.3 whole.3.1) in
      let wide = rows_long w.bases r.0 r.1 r.2 v t (shown_at_least d.names w.bases declared.names ok.bases 1 r.2 shown.1.0) in
      let M = ap (λ z. rows z) (row_values w vs f v unnamed) ∙ rows-map F (members v) in
      ap (λ z. array_of_rows (columns (width z) z)) M
      ∙ ap (λ k. array_of_rows (columns k (map (map F) rs))) (width-map F rs)
      ∙ ap array_of_rows (columns-map F (width rs) rs wide.long)
      ∙ sym (map_rows F (columns (width rs) rs))
      ∙ sym (row_values w vs f (array_of_rows (columns (width rs) rs)) unnamed))

  pub pad_map_keeps : (l k : ℕ) (xs f : Tree) (a : PlainTy) → Types d g (Unary (Pad l k) (Map Plain xs f)) a → Keeps d g (Unary (Pad l k) (Map Plain xs f)) (Map Plain (Unary (Pad l k) xs) f)
  pad_map_keeps l k xs f b whole =
      keeping d g _ _
      (λ asked a h.
      let m = h.1 in
      let r = h.2 in
      let e = same_array r.0 m.1 r.1 m.2 (sym r.2 ∙ m.5) in
      let N = plus (plus (constant l) m.2) (constant k) in
      let same : a ≡ ArrayOf m.1 N = r.3 ∙ ap (λ z. ArrayOf z (plus (plus (constant l) r.1) (constant k))) e.0 ∙ ap (λ z. ArrayOf m.1 (plus (plus (constant l) z) (constant k))) e.1 in
      let outer : IsFormed d.names (ArrayOf m.1 N) = subst (IsFormed d.names) same r.4 in
      let inner : IsFormed d.names (ArrayOf m.0 m.2) = formed_under asked xs (ArrayOf m.0 m.2) m.3 in
      (m.0, m.1, N, (ArrayOf m.0 m.2, m.3, (m.0, m.2, refl, refl, (outer.0, inner.1)), met asked (Pad l k) (ArrayOf m.0 N) tt), m.4, same))
      (λ w vs ok all.
      let m = whole.1 in
      let x = members (meaning w vs xs) in
      let F : Value → Value = λ y. meaning w (y ∷ vs) f in
      let inner : IsFormed d.names (ArrayOf m.0 m.2) = whole_formed xs (ArrayOf m.0 m.2) m.3 in
      let some = some_members w.bases m.0 m.2 (meaning w vs xs) (values_have_types d w g vs xs (ArrayOf m.0 m.2) declared ok fg all m.3) (shown_at_least d.names w.bases declared.names ok.bases 1 m.2 inner.0) in
      ap (λ z. array (map F z)) (members-array (padded l k x))
      ∙ ap array (sym (padded-map F l k x some))
      ∙ sym (ap (λ z. array (padded l k z)) (members-array (map F x))))

  pub map_pad_keeps : (l k : ℕ) (xs f : Tree) (a : PlainTy) → Types d g (Map Plain (Unary (Pad l k) xs) f) a → Keeps d g (Map Plain (Unary (Pad l k) xs) f) (Unary (Pad l k) (Map Plain xs f))
  map_pad_keeps l k xs f b whole =
      keeping d g _ _
      (λ asked a h.
      let o = h.3 in
      let r = o.2 in
      let N = plus (plus (constant l) r.1) (constant k) in
      let e = same_array h.0 r.0 h.2 N r.3 in
      let t = subst (λ z. TypesUnder asked d g xs z) r.2 o.1 in
      let body = subst (λ z. TypesUnder asked d (z ∷ g) f h.1) e.0 h.4 in
      (ArrayOf h.1 r.1, (r.0, h.1, r.1, t, body, refl), (h.1, r.1, refl, h.5 ∙ ap (ArrayOf h.1) e.1, formed_under asked (Map Plain (Unary (Pad l k) xs) f) a h), met asked (Pad l k) a tt))
      (λ w vs ok all.
      let o = whole.3 in
      let r = o.2 in
      let t = subst (λ z. Types d g xs z) r.2 o.1 in
      let x = members (meaning w vs xs) in
      let F : Value → Value = λ y. meaning w (y ∷ vs) f in
      let inner : IsFormed d.names (ArrayOf r.0 r.1) = whole_formed xs (ArrayOf r.0 r.1) t in
      let some = some_members w.bases r.0 r.1 (meaning w vs xs) (values_have_types d w g vs xs (ArrayOf r.0 r.1) declared ok fg all t) (shown_at_least d.names w.bases declared.names ok.bases 1 r.1 inner.0) in
      ap (λ z. array (padded l k z)) (members-array (map F x))
      ∙ ap array (padded-map F l k x some)
      ∙ sym (ap (λ z. array (map F z)) (members-array (padded l k x))))

  pub transpose_transpose_keeps : (xs : Tree) (a : PlainTy) → Types d g (Unary (Layout Transpose) (Unary (Layout Transpose) xs)) a → Keeps d g (Unary (Layout Transpose) (Unary (Layout Transpose) xs)) xs
  transpose_transpose_keeps xs b whole =
      keeping d g _ _
      (λ asked a h.
      let i = h.1 in
      let r = i.2 in
      let s = h.2 in
      let outer = same_array (ArrayOf r.0 r.2) (ArrayOf s.0 s.1) r.1 s.2 (sym r.4 ∙ s.3) in
      let inner = same_array r.0 s.0 r.2 s.1 outer.0 in
      let same : i.0 ≡ a = let p = r.3 in let q = s.4 in let u = outer.1 in let v = inner.0 in let x = inner.1 in cc in
      subst (TypesUnder asked d g xs) same i.1)
      (λ w vs ok all.
      let i = whole.1 in
      let r = i.2 in
      let v = meaning w vs xs in
      let rs = rows v in
      let shown : IsFormed d.names (ArrayOf (ArrayOf r.0 r.2) r.1) = subst (IsFormed d.names) r.4 r.5 in
      let t = subst (λ z. HasType w.bases z v) r.3 (values_have_types d w g vs xs i.0 declared ok fg all i.1) in
      let wide = rows_long w.bases r.0 r.1 r.2 v t (shown_at_least d.names w.bases declared.names ok.bases 1 r.2 shown.1.0) in
      let least = shown_at_least d.names w.bases declared.names ok.bases 1 r.1 shown.0 in
      let width_is = wide.wide in
      let some : 0 < width rs = omega (arith, ints) in
      sym (rows_back w.bases r.0 r.1 r.2 v t)
      ∙ ap array_of_rows (sym (columns-columns (width rs) rs wide.long))
      ∙ ap (λ z. array_of_rows (columns z (columns (width rs) rs))) (sym (width-columns (width rs) rs some))
      ∙ ap (λ z. array_of_rows (columns (width z) z)) (sym (rows-array (columns (width rs) rs))))

  pub copy_keeps : (t : Tree) (x : PlainTy) (n : List Monomial) → Types d g t (ArrayOf x n) → Keeps d g t (Map Plain t (Variable 0))
  copy_keeps t x n whole =
      keeping d g _ _
      (λ asked a h.
      let e = one_type d g t a (ArrayOf x n) (types_alone asked d g t a h) whole in
      (x, x, n, subst (TypesUnder asked d g t) e h, refl, e))
      (λ w vs ok all.
      let v = meaning w vs t in
      ap array (map_itself (members v)) ∙ array_back w.bases x n v (values_have_types d w g vs t (ArrayOf x n) declared ok fg all whole))
