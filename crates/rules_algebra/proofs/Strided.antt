-- The rules on reverse and stride keep type, copies and value.
use Rattle.std.proofs.Common.{◌≡◌, ℕ, zero, suc, ◌*◌, ◌/◌, ◌<◌, ◌≤◌, true, false, List, [], ◌∷◌, ◌++◌, length, refl, sym, ap, ◌∙◌, subst, arith, ℤ, pos, negsuc, ◌+ℤ◌, ◌*ℤ◌, ◌≤ℤ◌}
use Rattle.std.specs.Prelude.{map, reverse}
use Rattle.std.proofs.lemmas.Int.{ints}
use Rattle.std.proofs.lemmas.Nat.{mul-le}
use Rattle.std.proofs.lemmas.Grind.{reverse_onto}
use Rattle.std.proofs.lemmas.List.{reverse-reverse}
use Rattle.std.proofs.Math.Nat.{mul-div_cancel_left}
use Rattle.size_arith.specs.declared.names.Name.{Name}
use Rattle.size_arith.specs.declared.poly.Monomial.{Monomial}
use Rattle.size_arith.specs.Polynomial.{no_powers, is_zero, of_monomial, monomial_at, value_at, times, AllDivide, quotient, IsPoly}
use Rattle.size_arith.specs.Ranges.{AreNames, leasts}
use Rattle.size_arith.specs.Shown.{share, part, ShownAtLeast}
use Rattle.size_arith.proofs.Finding.{on_some}
use Rattle.size_arith.proofs.Quotients.{quotient_times}
use Rattle.size_arith.proofs.Signs.{neg_times}
use Rattle.size_arith.proofs.Soundness.{shown_at_least}
use Rattle.size_arith.proofs.Values.{AllZero}
use Rattle.lift_tree.specs.declared.layout.Layout.TheVariants.{Join, Transpose, Split, Reverse, Stride}
use Rattle.lift_tree.specs.declared.length.Factor.{Factor}
use Rattle.lift_tree.specs.declared.term.MapKind.TheVariants.{Plain}
use Rattle.lift_tree.specs.declared.term.UnaryForm.TheVariants.{Layout}
use Rattle.lift_tree.specs.Tree.{Tree, Unary, Map}
use Rattle.lift_tree.specs.Values.{Value, array, members}
use Rattle.lift_tree.specs.Lists.{Every, concat, pieces, columns, width, strided}
use Rattle.lift_tree.specs.Meaning.{World, meaning, rows, array_of_rows, factor_at, product_at}
use Rattle.lift_tree.specs.WorkedOut.{product_of}
use Rattle.lift_tree.specs.Types.{PlainTy, ArrayOf, HasType, HaveTypes, IsFormed}
use Rattle.lift_tree.specs.Typing.{Declared, Types, IsDeclared, IsAdmissible}
use Rattle.lift_tree.proofs.Copies.{TypesUnder, met, types_alone}
use Rattle.lift_tree.proofs.Members.{members-array, length-map, length-pieces, length-columns, columns_long, rows_long}
use Rattle.lift_tree.proofs.Rows.{list_have, divided_by}
use Rattle.lift_tree.proofs.Sizes.{value-of_monomial, value-quotient, product_value}
use Rattle.lift_tree.proofs.Strides.{rows_array, strided_through}
use Rattle.lift_tree.proofs.Formed.{formed}
use Rattle.lift_tree.proofs.Sound.{values_have_types}
use Rattle.lift_tree.proofs.Unique.{one_type}
use Rattle.rewriting.specs.Keeps.{Keeps}
use Rattle.rewriting.proofs.Keeping.{keeping}
use Rattle.rules_algebra.proofs.Kept.{same_array}
use Rattle.rules_algebra.proofs.Lists.{map-concat, pieces-map, columns-map, columns-columns, concat-pieces, pieces-concat, length-concat}
use Rattle.lift_tree.proofs.Quotients.{a_product, none_shown}
use Rattle.rules_algebra.proofs.Values.{array_back, some_members}

-- ---- lists
map-append : {A B : Type 0} (f : A → B) (xs ys : List A) → map f (xs ++ ys) ≡ map f xs ++ map f ys
map-append f [] ys = refl
map-append f (x ∷ xs) ys = ap (λ zs. f x ∷ zs) (map-append f xs ys)

pub reverse-map : {A B : Type 0} (f : A → B) (xs : List A) → reverse (map f xs) ≡ map f (reverse xs)
reverse-map f [] = refl
reverse-map f (x ∷ xs) =
    reverse_onto (map f xs) (f x) []
    ∙ ap (λ zs. zs ++ f x ∷ []) (reverse-map f xs)
    ∙ sym (map-append f (reverse xs) (x ∷ []))
    ∙ ap (map f) (sym (reverse_onto xs x []))

pub strided-map : (f : Value → Value) (k : ℕ) (xs : List Value) → 0 < k → length xs / k * k ≡ length xs → strided k (map f xs) ≡ map f (strided k xs)
strided-map f k xs p q =
    let P = pieces (length xs / k) k k xs in
    ap (λ c. concat (columns k (pieces (c / k) k k (map f xs)))) (length-map f xs)
    ∙ ap (λ z. concat (columns k z)) (pieces-map f (length xs / k) k k xs)
    ∙ ap concat (columns-map f k P (rows_long k xs p q))
    ∙ sym (map-concat f (columns k P))

turned : (a b : ℕ) → a * b ≡ b * a
turned a b = omega arith

-- the first stride's columns are the second's rows
pub strided_twice : (k m : ℕ) (xs : List Value) → 0 < k → 0 < m → length xs ≡ k * m → strided k (strided m xs) ≡ xs
strided_twice k m xs p q e =
    let P = pieces k m m xs in
    let Q = columns m P in
    let deep = length-pieces k m m xs in
    let wide = length-columns m P in
    let count : length xs / m ≡ k = ap (λ n. n / m) (e ∙ turned k m) ∙ mul-div_cancel_left k q in
    let whole : length xs / m * m ≡ length xs = ap (λ n. n * m) count ∙ sym e in
    let long : Every (λ r. length r ≡ m) P = subst (λ c. Every (λ r. length r ≡ m) (pieces c m m xs)) count (rows_long m xs q whole) in
    let tall : Every (λ r. length r ≡ k) Q = subst (λ c. Every (λ r. length r ≡ c) Q) deep (columns_long m P) in
    let all : length (concat Q) ≡ m * k = length-concat k Q tall ∙ ap (λ n. n * k) wide in
    let back : length (concat Q) / k ≡ m = ap (λ n. n / k) (all ∙ turned m k) ∙ mul-div_cancel_left m p in
    ap (λ c. strided k (concat (columns m (pieces c m m xs)))) count
    ∙ ap (λ c. concat (columns k (pieces c k k (concat Q)))) (back ∙ sym wide)
    ∙ ap (λ z. concat (columns k z)) (pieces-concat k Q tall)
    ∙ ap (λ c. concat (columns c Q)) (sym deep)
    ∙ ap concat (columns-columns m P long)
    ∙ concat-pieces k m xs e

product-append : (sizes : List ℕ) (ks ms : List Factor) → product_at sizes (ks ++ ms) ≡ product_at sizes ks * product_at sizes ms
product-append sizes [] ms = omega arith
product-append sizes (f ∷ ks) ms =
    ap (λ n. factor_at sizes f * n) (product-append sizes ks ms) ∙ assoc (factor_at sizes f) (product_at sizes ks) (product_at sizes ms)
  where
    assoc : (a b c : ℕ) → a * (b * c) ≡ (a * b) * c
    assoc zero b c = omega arith
    assoc (suc a) b c = let e = assoc a b c in omega arith

-- ---- a monomial that isn't negative is shown at least 1
abbrev ArePositive : List ℕ → Type 0
ArePositive [] = Unit {0}
ArePositive (l ∷ ls) = (1 ≤ l) × ArePositive ls

least_positive : (names : List Name) → AreNames names → ArePositive (leasts names)
least_positive [] h = tt
least_positive (n ∷ ns) h =
    let from = h.0.from_positive in
    let multiple = h.0.positive in
    let divides = h.0.from_divides in
    (some n.multiple n.from (n.from / n.multiple) (omega arith) from, least_positive ns h.1)
  where
    some : (m f q : ℕ) → f ≡ m * q → 1 ≤ f → 1 ≤ q
    some m f zero e h = absurd (omega arith)
    some m f (suc q) e h = omega arith

share_some : (l m : ℕ) → 1 ≤ l → 1 ≤ share l m zero
share_some l zero h = omega arith
share_some l (suc m) h = let e = share_some l m h in omega (arith, mul-le 1 1 l (share l m zero) h e)

share_least : (l m j : ℕ) → 1 ≤ l → share l 0 j ≤ share l m j
share_least l m zero h = share_some l m h
share_least l m (suc j) h = omega arith

part_least : (ls zs ms js : List ℕ) → ArePositive ls → AllZero zs → part ls zs js ≤ part ls ms js
part_least [] zs ms js p z = omega arith
part_least (l ∷ ls) zs ms [] p z = omega arith
part_least (l ∷ ls) [] [] (j ∷ js) p z = mul-le (share l 0 j) (part ls [] js) (share l 0 j) (part ls [] js) (omega arith) (omega arith)
part_least (l ∷ ls) [] (m ∷ ms) (j ∷ js) p z = mul-le (share l 0 j) (part ls [] js) (share l m j) (part ls ms js) (share_least l m j p.0) (part_least ls [] ms js p.1 tt)
part_least (l ∷ ls) (y ∷ zs) [] (j ∷ js) p z =
    let e : share l y j ≡ share l 0 j = ap (λ k. share l k j) z.0 in
    mul-le (share l y j) (part ls zs js) (share l 0 j) (part ls [] js) (omega arith) (part_least ls zs [] js p.1 z.1)
part_least (l ∷ ls) (y ∷ zs) (m ∷ ms) (j ∷ js) p z =
    let e : share l y j ≡ share l 0 j = ap (λ k. share l k j) z.0 in
    let f = share_least l m j p.0 in
    mul-le (share l y j) (part ls zs js) (share l m j) (part ls ms js) (omega arith) (part_least ls zs ms js p.1 z.1)

pub monomial_shown : (names : List Name) (m : Monomial) (c : ℕ) → AreNames names → m.coefficient ≡ pos c → is_zero m.coefficient ≡ false → ShownAtLeast 1 names (of_monomial m)
monomial_shown names m c h e z = subst (ShownAtLeast 1 names) (sym (on_some m.coefficient m.powers [] z)) (λ js long.
    let ls = leasts names in
    let a = part_least ls no_powers m.powers js (least_positive names h) (refl, (refl, (refl, (refl, (refl, (refl, (refl, (refl, tt)))))))) in
    least c (part ls no_powers js) (part ls m.powers js) m.coefficient e z a)
  where
    least : (c n k : ℕ) (y : ℤ) → y ≡ pos c → is_zero y ≡ false → n ≤ k → pos 0 ≤ℤ ((negsuc 0 *ℤ pos n) +ℤ ((y *ℤ pos k) +ℤ pos 0))
    least zero n k y e z h = absurd (let f : is_zero y ≡ true = ap is_zero e in cc)
    least (suc c) n k y e z h =
        let a = mul-le 1 n (suc c) k (omega arith) h in
        let b : y *ℤ pos k ≡ pos (suc c * k) = ap (λ x. x *ℤ pos k) e ∙ omega (arith, ints) in
        let d = neg_times 1 n in
        omega (arith, ints)

divisor_some : (names : List Name) (m : Monomial) (n : List Monomial) → ShownAtLeast 1 names n → AllDivide m n → is_zero m.coefficient ≡ false
divisor_some names m [] h d = absurd (none_shown names h)
divisor_some names m (x ∷ n) h d = d.0.divisor

module _ (d : Declared) (g : List PlainTy) where
  pub map_reverse_keeps : (xs f : Tree) → Keeps d g (Map Plain (Unary (Layout Reverse) xs) f) (Unary (Layout Reverse) (Map Plain xs f))
  map_reverse_keeps xs f = keeping d g _ _
      (λ asked a h.
      let o = h.3 in
      let r = o.2 in
      let e = same_array h.0 r.0 h.2 r.1 r.3 in
      let t = subst (λ z. TypesUnder asked d g xs z) r.2 o.1 in
      let body = subst (λ z. TypesUnder asked d (z ∷ g) f h.1) e.0 h.4 in
      (ArrayOf h.1 r.1, (r.0, h.1, r.1, t, body, refl), (h.1, r.1, refl, h.5 ∙ ap (ArrayOf h.1) e.1), met asked (Layout Reverse) a tt))
      (λ w vs ok all.
      let x = members (meaning w vs xs) in
      let F : Value → Value = λ y. meaning w (y ∷ vs) f in
      ap (λ l. array (reverse l)) (members-array (map F x))
      ∙ ap array (reverse-map F x)
      ∙ sym (ap (λ l. array (map F l)) (members-array (reverse x))))

module _ (d : Declared) (g : List PlainTy) (declared : IsDeclared d) (fg : Every (IsFormed d.names) g) where
  whole_formed : (t : Tree) (a : PlainTy) → Types d g t a → IsFormed d.names a
  whole_formed t a h = formed d declared.inputs g t a fg h

  -- the number of elements between two
  size_is : (w : World) (fs : List Factor) → IsAdmissible d w → monomial_at w.bases (product_of d.names fs) ≡ pos (product_at w.sizes fs)
  size_is w fs ok = product_value d.names w.bases ok.bases declared.few fs ∙ ap (λ ss. pos (product_at ss fs)) (sym ok.sizes)

  has_type : (w : World) (vs : List Value) (xs : Tree) (b x : PlainTy) (n : List Monomial) → Types d g xs b → b ≡ ArrayOf x n → IsAdmissible d w → HaveTypes w.bases g vs → HasType w.bases (ArrayOf x n) (meaning w vs xs)
  has_type w vs xs b x n h e ok all = subst (λ z. HasType w.bases z (meaning w vs xs)) e (values_have_types d w g vs xs b declared ok fg all h)

  some_in : (w : World) (xs : Tree) (b x : PlainTy) (n : List Monomial) (v : Value) → Types d g xs b → b ≡ ArrayOf x n → IsAdmissible d w → HasType w.bases (ArrayOf x n) v → 0 < length (members v)
  some_in w xs b x n v h e ok t =
      let f : IsFormed d.names (ArrayOf x n) = subst (IsFormed d.names) e (whole_formed xs b h) in
      some_members w.bases x n v t (shown_at_least d.names w.bases declared.names ok.bases 1 n f.0)

  pub reverse_reverse_keeps : (xs : Tree) (a : PlainTy) → Types d g (Unary (Layout Reverse) (Unary (Layout Reverse) xs)) a → Keeps d g (Unary (Layout Reverse) (Unary (Layout Reverse) xs)) xs
  reverse_reverse_keeps xs b whole = keeping d g _ _
      (λ asked a h.
      let i = h.1 in
      let r = i.2 in
      let s = h.2 in
      subst (TypesUnder asked d g xs) (r.2 ∙ sym r.3 ∙ s.2 ∙ sym s.3) i.1)
      (λ w vs ok all.
      let i = whole.1 in
      let r = i.2 in
      let v = meaning w vs xs in
      let x = members v in
      let t = has_type w vs xs i.0 r.0 r.1 i.1 r.2 ok all in
      sym
      (ap (λ l. array (reverse l)) (members-array (reverse x))
      ∙ ap array (reverse-reverse x)
      ∙ array_back w.bases r.0 r.1 v t))

  pub map_stride_keeps : (xs f : Tree) (fs : List Factor) (a : PlainTy) → Types d g (Map Plain (Unary (Layout (Stride fs)) xs) f) a
      → Keeps d g (Map Plain (Unary (Layout (Stride fs)) xs) f) (Unary (Layout (Stride fs)) (Map Plain xs f))
  map_stride_keeps xs f fs b whole = keeping d g _ _
      (λ asked a h.
      let o = h.3 in
      let r = o.2 in
      let e = same_array h.0 r.0 h.2 r.1 r.4 in
      let t = subst (λ z. TypesUnder asked d g xs z) r.2 o.1 in
      let body = subst (λ z. TypesUnder asked d (z ∷ g) f h.1) e.0 h.4 in
      (ArrayOf h.1 r.1, (r.0, h.1, r.1, t, body, refl), (h.1, r.1, refl, r.3, h.5 ∙ ap (ArrayOf h.1) e.1), met asked (Layout (Stride fs)) a tt))
      (λ w vs ok all.
      let o = whole.3 in
      let r = o.2 in
      let m = product_of d.names fs in
      let v = meaning w vs xs in
      let x = members v in
      let k = product_at w.sizes fs in
      let F : Value → Value = λ y. meaning w (y ∷ vs) f in
      let t = has_type w vs xs o.0 r.0 r.1 o.1 r.2 ok all in
      let long = (list_have w.bases r.0 r.1 v t).0 in
      let q = value-quotient w.bases m r.1 r.3 in
      let z = value_at w.bases (quotient m r.1) in
      let fit = divided_by k (length x) z (some_in w xs o.0 r.0 r.1 v o.1 r.2 ok t) (long ∙ q ∙ ap (λ y. y *ℤ z) (size_is w fs ok)) in
      ap (λ l. array (strided k l)) (members-array (map F x))
      ∙ ap array (strided-map F k x fit.0 fit.1)
      ∙ sym (ap (λ l. array (map F l)) (members-array (strided k x))))

  pub stride_stride_keeps : (xs : Tree) (ks ms : List Factor) (a y : PlainTy) (n : List Monomial) → Types d g (Unary (Layout (Stride ks)) (Unary (Layout (Stride ms)) xs)) a → a ≡ ArrayOf y n
      → of_monomial (product_of d.names (ks ++ ms)) ≡ n → Keeps d g (Unary (Layout (Stride ks)) (Unary (Layout (Stride ms)) xs)) xs
  stride_stride_keeps xs ks ms b y n whole is same = keeping d g _ _
      (λ asked a h.
      let i = h.1 in
      let r = i.2 in
      let s = h.2 in
      subst (TypesUnder asked d g xs) (r.2 ∙ sym r.4 ∙ s.2 ∙ sym s.4) i.1)
      (λ w vs ok all.
      let i = whole.1 in
      let r = i.2 in
      let s = whole.2 in
      let v = meaning w vs xs in
      let x = members v in
      let k = product_at w.sizes ks in
      let m = product_at w.sizes ms in
      let e = same_array r.0 y r.1 n (sym r.4 ∙ s.2 ∙ sym s.4 ∙ is) in
      let t = has_type w vs xs i.0 r.0 r.1 i.1 r.2 ok all in
      let some = some_in w xs i.0 r.0 r.1 v i.1 r.2 ok t in
      let long : pos (length x) ≡ pos (product_at w.sizes (ks ++ ms)) =
      (list_have w.bases r.0 r.1 v t).0 ∙ ap (value_at w.bases) (e.1 ∙ sym same) ∙ value-of_monomial w.bases (product_of d.names (ks ++ ms)) ∙ size_is w (ks ++ ms) ok in
      let count : length x ≡ k * m = as_long (length x) (product_at w.sizes (ks ++ ms)) long ∙ product-append w.sizes ks ms in
      sym
      (ap (λ l. array (strided k l)) (members-array (strided m x))
      ∙ ap array (strided_twice k m x (left k m (length x) count some) (right k m (length x) count some) count)
      ∙ array_back w.bases r.0 r.1 v t))
    where
      as_long : (a b : ℕ) → pos a ≡ pos b → a ≡ b
      as_long a b e = cc

      left : (a b c : ℕ) → c ≡ a * b → 0 < c → 0 < a
      left zero b c e h = absurd (omega arith)
      left (suc a) b c e h = omega arith

      right : (a b c : ℕ) → c ≡ a * b → 0 < c → 0 < b
      right a zero c e h = absurd (omega arith)
      right a (suc b) c e h = omega arith

  pub stride_layout_keeps : (xs : Tree) (fs : List Factor) (a y : PlainTy) (n : List Monomial) → Types d g (Unary (Layout (Stride fs)) xs) a → a ≡ ArrayOf y n → IsPoly n
      → ShownAtLeast 1 d.names (quotient (product_of d.names fs) n) → Keeps d g (Unary (Layout (Stride fs)) xs) (Unary (Layout Join) (Unary (Layout Transpose) (Unary (Layout (Split fs)) xs)))
  stride_layout_keeps xs fs b y n whole is poly shown = keeping d g _ _
      (λ asked a h.
      let r = h.2 in
      let own = types_alone asked d g (Unary (Layout (Stride fs)) xs) a h in
      let m = product_of d.names fs in
      let mm = of_monomial m in
      let q = quotient m r.1 in
      let e = same_array r.0 y r.1 n (sym r.4 ∙ one_type d g (Unary (Layout (Stride fs)) xs) a b own whole ∙ is) in
      let child : IsFormed d.names (ArrayOf r.0 r.1) = subst (IsFormed d.names) r.2 (whole_formed xs h.0 (types_alone asked d g xs h.0 h.1)) in
      let z = divisor_some d.names m r.1 child.0 r.3 in
      let p = a_product d.names fs in
      let one_or_more = monomial_shown d.names m p.count declared.names p.is z in
      let columns_shown : ShownAtLeast 1 d.names q = subst (λ k. ShownAtLeast 1 d.names (quotient m k)) (sym e.1) shown in
      let canonical = subst (λ k. IsPoly k) (sym e.1) poly in
      let back : times mm q ≡ r.1 = ap (λ k. times k q) (on_some m.coefficient m.powers [] z) ∙ quotient_times m r.1 canonical.canonical r.3 in (
        ArrayOf (ArrayOf r.0 q) mm,
        (
          ArrayOf (ArrayOf r.0 mm) q,
          (h.0, h.1, (r.0, r.1, r.2, r.3, refl, (columns_shown, (one_or_more, child.1))), met asked (Layout (Split fs)) (ArrayOf (ArrayOf r.0 mm) q) tt),
          (r.0, mm, q, refl, refl, (one_or_more, (columns_shown, child.1))),
          met asked (Layout Transpose) (ArrayOf (ArrayOf r.0 q) mm) tt,
        ),
        (r.0, q, mm, refl, r.4 ∙ ap (ArrayOf r.0) (sym back), whole_formed (Unary (Layout (Stride fs)) xs) a own),
        met asked (Layout Join) a tt,
      ))
      (λ w vs ok all.
      let x = members (meaning w vs xs) in
      let k = product_at w.sizes fs in
      let P = pieces (length x / k) k k x in
      ap (λ z. array (concat z)) (rows_array (columns (width (rows (array_of_rows P))) (rows (array_of_rows P))))
      ∙ ap (λ z. array (concat (columns (width z) z))) (rows_array P)
      ∙ ap array (strided_through k x))
