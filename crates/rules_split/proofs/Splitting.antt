-- A map by rows keeps its type, copies and value.
use Rattle.std.proofs.Common.{◌≡◌, ℕ, ◌*◌, ◌/◌, ◌<◌, List, [], ◌∷◌, length, refl, sym, ap, ◌∙◌, subst, arith, ℤ, pos, negsuc, ◌*ℤ◌}
use Rattle.std.specs.Prelude.{map}
use Rattle.std.proofs.lemmas.Int.{ints}
use Rattle.std.proofs.Math.Nat.{mul-div_cancel_left}
use Rattle.size_arith.specs.declared.names.Name.{Name}
use Rattle.size_arith.specs.declared.poly.Monomial.{Monomial}
use Rattle.size_arith.specs.Polynomial.{number, of_monomial, value_at, times, IsPoly, AllDivide, quotient}
use Rattle.size_arith.specs.Shown.{ShownAtLeast}
use Rattle.lift_tree.specs.declared.length.Factor.TheVariants as factor
use Rattle.lift_tree.specs.declared.layout.Layout.TheVariants.{Join, Split}
use Rattle.lift_tree.specs.declared.term.UnaryForm.TheVariants.{Layout}
use Rattle.lift_tree.specs.declared.term.MapKind.TheVariants.{Plain}
use Rattle.lift_tree.specs.Tree.{Tree, Map}
use Rattle.lift_tree.specs.Lists.{concat, pieces}
use Rattle.lift_tree.specs.Values.{Value, array, members}
use Rattle.lift_tree.specs.Meaning.{World, meaning, rows, unary_value}
use Rattle.lift_tree.specs.Types.{PlainTy, ArrayOf, IsFormed}
use Rattle.lift_tree.specs.WorkedOut.{product_of}
use Rattle.lift_tree.specs.Typing.{UnaryRow, constant}
use Rattle.lift_tree.proofs.Copies.{TypesUnder, met, types_alone}
use Rattle.lift_tree.proofs.Renumbered.{meaning-raise, same_map}
use Rattle.lift_tree.proofs.Rows.{list_have}
use Rattle.lift_tree.proofs.Sizes.{number_at, value-quotient}
use Rattle.lift_tree.proofs.Formed.{formed}
use Rattle.lift_tree.proofs.Sound.{values_have_types}
use Rattle.lift_tree.proofs.Unique.{one_type}
use Rattle.rewriting.specs.Answers.{Becomes}
use Rattle.rewriting.specs.Around.{Around}
use Rattle.rewriting.specs.Keeps.{KeepsIn}
use Rattle.rules_split.specs.Rules.{in_pieces, mapped_by_rows, array_length, split_map}
use Rattle.rewriting.proofs.Keeping.{keeping}
use Rattle.rules_split.proofs.Lists.{map_same, rows-array, rows_mapped, concat-pieces}
use Rattle.lift_tree.proofs.PieceLengths.{pieces_length, shown-quotient, shown-constant}
use Rattle.rules_split.proofs.Tried.{ArePieces, pieces_hold, unless_none}
use Rattle.rules_split.proofs.Typed.{same_array, types-raise, map_array}

-- ---- pieces
pub split_row : (names : List Name) (k : ℕ) (x : PlainTy) (n : List Monomial) → 0 < k → AllDivide (number (pos k)) n → ShownAtLeast 1 names n → IsFormed names x
    → UnaryRow names (Layout (Split (factor.Number k ∷ []))) (ArrayOf x n) (ArrayOf (ArrayOf x (constant k)) (quotient (number (pos k)) n))
split_row names k x n some d shown f = let one : k * 1 ≡ k = omega arith in go (product_of names (factor.Number k ∷ [])) (ap (λ z. number (pos z)) one)
  where
    go : (m : Monomial) → m ≡ number (pos k)
        → (y : PlainTy) × (l : List Monomial) × (ArrayOf x n ≡ ArrayOf y l) × AllDivide m l × (ArrayOf (ArrayOf x (constant k)) (quotient (number (pos k)) n) ≡ ArrayOf (ArrayOf y (of_monomial m)) (quotient m l)) × IsFormed names (ArrayOf (ArrayOf x (constant k)) (quotient (number (pos k)) n))
    go m e = (
      x,
      n,
      refl,
      subst (λ m. AllDivide m n) (sym e) d,
      ap (λ m. ArrayOf (ArrayOf x (of_monomial m)) (quotient m n)) (sym e),
      (shown-quotient k names n some d shown, (shown-constant names k some, f)),
    )

-- a list cut into so many pieces of k
pub record IsCut (w : World) (k : ℕ) (v : Value) : Type 0 where
  pub count : ℕ
  pub rows : rows (unary_value w (Layout (Split (factor.Number k ∷ []))) v) ≡ pieces count k k (members v)
  pub total : length (members v) ≡ count * k

count_is : (k n : ℕ) (z : ℤ) → 0 < k → pos n ≡ pos k *ℤ z → n ≡ (n / k) * k
count_is k n (pos c) h e =
    let p : n ≡ k * c = cc in
    let q : n / k ≡ c = ap (λ y. y / k) p ∙ mul-div_cancel_left c h in
    p ∙ omega (arith, ap (λ y. y * k) q)
count_is k n (negsuc c) h e = absurd (negative k n c h e)
  where
    negative : (k n c : ℕ) → 0 < k → pos n ≡ pos k *ℤ negsuc c → ⊥
    negative k n c h e = omega (arith, ints)

pub cut : (w : World) (k : ℕ) (n : List Monomial) (v : Value) → 0 < k → AllDivide (number (pos k)) n → pos (length (members v)) ≡ value_at w.bases n → IsCut w k v
cut w k n v some d e =
    let len = length (members v) in
    let q = quotient (number (pos k)) n in
    let long : pos len ≡ pos k *ℤ value_at w.bases q = e ∙ value-quotient w.bases (number (pos k)) n d ∙ ap (λ z. z *ℤ value_at w.bases q) (number_at w.bases (pos k)) in
    let one : k * 1 ≡ k = omega arith in
    record {
      count = len / k;
      rows = rows-array (pieces (len / (k * 1)) (k * 1) (k * 1) (members v)) ∙ ap (λ z. pieces (len / z) z z (members v)) one;
      total = count_is k len (value_at w.bases q) some long;
    }

-- the value of a map by rows
pub joined_value : (w : World) (vs : List Value) (rs f : Tree) → meaning w vs (mapped_by_rows rs f) ≡ array (map (λ y. meaning w (y ∷ vs) f) (concat (rows (meaning w vs rs))))
joined_value w vs rs f =
    let x = members (meaning w vs rs) in
    ap (λ l. array (concat (rows (array l)))) (map_same _ _ x (λ y. same_map _ _ y y (λ z. meaning-raise 1 f w y (z ∷ vs)) refl))
    ∙ ap array (rows_mapped (λ y. meaning w (y ∷ vs) f) x)

pub split_map_keeps : (a : Around) (k : ℕ) (xs f : Tree) → IsPoly (array_length a.types) → ArePieces k (array_length a.types) → KeepsIn a (Map Plain xs f) (mapped_by_rows (in_pieces k xs) f)
split_map_keeps a k xs f poly pieces d around =
    let g = a.binders in
    let n = array_length a.types in
    let q = quotient (number (pos k)) n in
    let m = constant k in
    let u = map_array d g Plain xs f a.types around.nodes in
    let x = u.element in
    let form = formed d around.declared.inputs g xs (ArrayOf x n) around.binders u.typed in
    keeping d g _ _
    (λ asked b h.
    let own = one_type d g xs (ArrayOf h.0 h.2) (ArrayOf x n) (types_alone asked d g xs (ArrayOf h.0 h.2) h.3) u.typed in
    let same = same_array h.0 x h.2 n own in
    let y = h.1 in
    let whole : b ≡ ArrayOf y (times q m) = h.5 ∙ ap (ArrayOf y) (same.1 ∙ sym (pieces_length k n pieces.some poly.canonical pieces.divide)) in
    let body = subst (λ z. TypesUnder asked d (z ∷ g) f y) same.0 h.4 in (
      ArrayOf (ArrayOf y m) q,
      (
        ArrayOf x m,
        ArrayOf y m,
        q,
        (
          ArrayOf x n,
          subst (TypesUnder asked d g xs) own h.3,
          split_row d.names k x n pieces.some pieces.divide form.0 form.1,
          met asked (Layout (Split (factor.Number k ∷ []))) (ArrayOf (ArrayOf x m) q) tt,
        ),
        (x, y, m, refl, types-raise asked d 1 (ArrayOf x m) (x ∷ g) f y body, refl),
        refl,
      ),
      (y, m, q, refl, whole, formed d around.declared.inputs g (Map Plain xs f) b around.binders (types_alone asked d g (Map Plain xs f) b h)),
      met asked (Layout Join) b tt,
    ))
    (λ w vs ok all.
    let v = meaning w vs xs in
    let t = list_have w.bases x n v (values_have_types d w g vs xs (ArrayOf x n) around.declared ok around.binders all u.typed) in
    let c = cut w k n v pieces.some pieces.divide t.0 in
    joined_value w vs (in_pieces k xs) f
    ∙ ap (λ l. array (map (λ y. meaning w (y ∷ vs) f) l)) (ap concat c.rows ∙ concat-pieces c.count k (members v) c.total))

pub split_map_gives : (a : Around) (k : ℕ) (t u : Tree) → IsPoly (array_length a.types) → split_map k a t ≡ Becomes u → KeepsIn a t u
split_map_gives a k (Map Plain xs f) u poly e =
    let h = unless_none _ _ u e in
    subst (KeepsIn a (Map Plain xs f)) h.1 (split_map_keeps a k xs f poly (pieces_hold k (array_length a.types) poly h.0))
split_map_gives a k _ u poly e = absurd (cc)
