-- The rules of vectors keep types, copies and values.
use Rattle.std.proofs.Common.{◌≡◌, ℕ, zero, suc, ◌*◌, ◌<◌, Bool, true, false, List, [], ◌∷◌, length, refl, sym, ap, ◌∙◌, subst, arith, ℤ, pos, ◌*ℤ◌, Some}
use Rattle.std.specs.Prelude.{map, ◌||◌, ◌/◌, int_rem, slice_get, Option}
use Rattle.std.proofs.lemmas.Bool.{and_parts}
use Rattle.std.proofs.lemmas.Int.{ints}
use Rattle.size_arith.specs.declared.poly.Monomial.{Monomial}
use Rattle.size_arith.specs.Polynomial.{number, is_zero, times, value_at, AllWide, IsPoly, AllDivide, quotient}
use Rattle.size_arith.proofs.Decisions.{decides_zero}
use Rattle.lift_tree.specs.declared.layout.Layout.TheVariants.{AsVector, AsScalar}
use Rattle.lift_tree.specs.declared.term.MapKind.TheVariants.{Plain}
use Rattle.lift_tree.specs.declared.term.Operator.{Operator}
use Rattle.lift_tree.specs.declared.term.UnaryForm.TheVariants as unary
use Rattle.lift_tree.specs.declared.term.UnaryForm.TheVariants.{Layout}
use Rattle.lift_tree.specs.declared.term.BinaryForm.TheVariants as binary
use Rattle.lift_tree.specs.Tree.{Tree, Variable, Number, Unary, Binary, Map}
use Rattle.lift_tree.specs.Values.{Value, array, members}
use Rattle.lift_tree.specs.Lists.{Every}
use Rattle.lift_tree.specs.Meaning.{meaning}
use Rattle.lift_tree.specs.Types.{PlainTy, U32, U32x4, ArrayOf, IsVector}
use Rattle.lift_tree.specs.Typing.{Declared, Types, IsNumeric, OperatorRow, is_lane_operator, constant}
use Rattle.lift_tree.specs.Annotations.{Annotation, Leaf, One, Two, Three, Annotates}
use Rattle.lift_tree.proofs.Annotated.{annotated_is_typed}
use Rattle.lift_tree.proofs.Copies.{Demand, TypesUnder, met, met_pairs, types_alone}
use Rattle.lift_tree.proofs.Members.{members-array, every_to}
use Rattle.lift_tree.proofs.Rows.{list_have}
use Rattle.lift_tree.proofs.Sizes.{number_at, value-quotient}
use Rattle.lift_tree.proofs.Formed.{formed}
use Rattle.lift_tree.proofs.Sound.{values_have_types}
use Rattle.lift_tree.proofs.Unique.{one_type}
use Rattle.rewriting.specs.Answers.{Becomes}
use Rattle.rewriting.specs.Around.{Around}
use Rattle.rewriting.specs.Keeps.{KeepsIn}
use Rattle.rules_lower.specs.Vectors.{is_u32, made_of_lanes, names_binder, array_type, holds_numbers, length_in, divides, as_vector, as_scalar, false_of, unless, by_fours, vectors_again, inner_type, HasPolynomial}
use Rattle.rewriting.proofs.Keeping.{keeping}
use Rattle.lift_tree.proofs.PieceLengths.{pieces_length, shown-quotient}
use Rattle.lift_tree.proofs.Linear.{no_powers_at_most}
use Rattle.lift_tree.proofs.Quotients.{number_quotient}
use Rattle.rules_lower.proofs.Lanes.{maps_by_fours, vectors_of_scalars}

same_array : (x y : PlainTy) (n m : List Monomial) → ArrayOf x n ≡ ArrayOf y m → (x ≡ y) × (n ≡ m)
same_array x y n m e = (cc, cc)

becomes_of : (t u : Tree) → Becomes t ≡ Becomes u → t ≡ u
becomes_of t u e = cc

-- ---- conditions
divided_by : (p : List Monomial) → AllWide 8 p → divides 4 p ≡ true → AllDivide (number (pos 4)) p
divided_by [] w d = tt
divided_by (m ∷ p) w d =
    let q = and_parts (is_zero (int_rem m.coefficient (pos 4))) (divides 4 p) d in
    (record { divisor = refl; coefficient = (decides_zero _).0 q.0; powers = no_powers_at_most m.powers w.0 }, divided_by p w.1 q.1)

both_true : (a b : Bool) (t u : Tree) → unless (false_of a b) t ≡ Becomes u → (a ≡ true) × (b ≡ true) × (t ≡ u)
both_true true true t u e = (refl, refl, becomes_of t u e)
both_true true false t u e = absurd (cc)
both_true false b t u e = absurd (cc)

numbers_array : (a : PlainTy) → holds_numbers a ≡ true → a ≡ ArrayOf U32 (length_in a)
numbers_array (ArrayOf U32 n) h = refl
numbers_array _ h = absurd (cc)

-- ---- the body's types
-- a vector where the binder is named
abbrev in_fours : Bool → PlainTy
in_fours true = U32x4
in_fours false = U32

operator_in_fours : (o : Operator) (p q : Bool) → is_lane_operator o ≡ true → OperatorRow o (in_fours p) (in_fours q) (in_fours (p || q))
operator_in_fours o true true h = (h, refl)
operator_in_fours o true false h = (h, refl)
operator_in_fours o false true h = (h, refl)
operator_in_fours o false false h = refl

divided_in_fours : (p : Bool) → IsNumeric (in_fours p)
divided_in_fours true = tt
divided_in_fours false = tt

named_u32 : (g : List PlainTy) (n : ℕ) (t : Option PlainTy) (a : PlainTy) → slice_get g n ≡ t → is_u32 t ≡ true → slice_get g n ≡ Some a → (a ≡ U32) × (slice_get g n ≡ Some U32)
named_u32 g n (Some U32) a e h s = (cc, e)
named_u32 g n _ a e h s = absurd (cc)

module _ (asked : Demand) (d : Declared) (g : List PlainTy) where
  -- over a binder of u32 the body is u32; over one of four it is four where it names it
  record BodyTypes (f : Tree) (a : PlainTy) : Type 0 where
    is : a ≡ U32
    fours : TypesUnder asked d (U32x4 ∷ g) f (in_fours (names_binder f))

  both_numbers : (o : Operator) (b c a : PlainTy) → b ≡ U32 → c ≡ U32 → OperatorRow o b c a → a ≡ U32
  both_numbers o b c a p q r = subst (λ z. OperatorRow o U32 z a) q (subst (λ z. OperatorRow o z c a) p r)

  body_types : (f : Tree) (a : PlainTy) → made_of_lanes g f ≡ true → TypesUnder asked d (U32 ∷ g) f a → BodyTypes f a
  body_types (Variable zero) a m h = record { is = cc; fours = refl }
  body_types (Variable (suc n)) a m h = let e = named_u32 g n (slice_get g n) a refl m h in record { is = e.0; fours = e.1 }
  body_types (Number n) a m h = record { is = h.1; fours = (h.0, refl) }
  body_types (Unary (unary.Div n) t) a m h =
      let r = body_types t h.0 m h.1 in
      record { is = h.2.2 ∙ r.is; fours = (in_fours (names_binder t), r.fours, (h.2.0, divided_in_fours (names_binder t), refl), met asked (unary.Div n) (in_fours (names_binder t)) tt) }
  body_types (Unary (unary.Rem n) t) a m h =
      let r = body_types t h.0 m h.1 in
      record { is = h.2.2 ∙ r.is; fours = (in_fours (names_binder t), r.fours, (h.2.0, divided_in_fours (names_binder t), refl), met asked (unary.Rem n) (in_fours (names_binder t)) tt) }
  body_types (Binary (binary.Operator o) t u) a m h =
      let p = and_parts (is_lane_operator o) _ m in
      let q = and_parts (made_of_lanes g t) (made_of_lanes g u) p.1 in
      let r = body_types t h.0 q.0 h.2 in
      let s = body_types u h.1 q.1 h.3 in
      record {
        is = both_numbers o h.0 h.1 a r.is s.is h.4;
        fours = (in_fours (names_binder t), in_fours (names_binder u), r.fours, s.fours, operator_in_fours o (names_binder t) (names_binder u) p.0, met_pairs asked (binary.Operator o) (in_fours (names_binder t || names_binder u)) tt);
      }
  body_types _ a m h = absurd (cc)

-- ---- the array's type
array_typed : (d : Declared) (g : List PlainTy) (xs f : Tree) (n : Annotation) → Annotates d g (Map Plain xs f) n → Types d g xs (array_type n)
array_typed d g xs f (Two a n m) h = annotated_is_typed d g xs n h.2
array_typed d g xs f (Leaf a) h = absurd h
array_typed d g xs f (One a n) h = absurd h
array_typed d g xs f (Three a n m k) h = absurd h

whole_fours : (k : ℕ) (z : ℤ) → pos k ≡ pos 4 *ℤ z → k / 4 * 4 ≡ k
whole_fours k z e = omega (arith, ints)

fours_keep_map : (a : Around) (xs f : Tree) → IsPoly (length_in (array_type a.types)) → array_type a.types ≡ ArrayOf U32 (length_in (array_type a.types)) → names_binder f ≡ true → made_of_lanes a.binders f ≡ true → divides 4 (length_in (array_type a.types)) ≡ true
    → KeepsIn a (Map Plain xs f) (as_scalar (Map Plain (as_vector xs) f))
fours_keep_map a xs f poly numbers named made divided d around =
    let g = a.binders in
    let n : List Monomial = length_in (array_type a.types) in
    let q : List Monomial = quotient (number (pos 4)) n in
    let some : 0 < 4 = omega arith in
    let all = divided_by n poly.wide divided in
    let typed : Types d g xs (ArrayOf U32 n) = subst (Types d g xs) numbers (array_typed d g xs f a.types around.nodes) in
    let form = formed d around.declared.inputs g xs (ArrayOf U32 n) around.binders typed in
    keeping d g _ _
    (λ asked b h.
    let own = one_type d g xs (ArrayOf h.0 h.2) (ArrayOf U32 n) (types_alone asked d g xs (ArrayOf h.0 h.2) h.3) typed in
    let same = same_array h.0 U32 h.2 n own in
    let body = body_types asked d g f h.1 made (subst (λ z. TypesUnder asked d (z ∷ g) f h.1) same.0 h.4) in
    let fours : TypesUnder asked d (U32x4 ∷ g) f U32x4 = subst (λ z. TypesUnder asked d (U32x4 ∷ g) f (in_fours z)) named body.fours in
    let whole : b ≡ ArrayOf U32 (times q (constant 4)) = h.5 ∙ ap (λ z. ArrayOf z h.2) body.is ∙ ap (ArrayOf U32) (same.1 ∙ sym (pieces_length 4 n some poly.canonical all)) in (
      ArrayOf U32x4 q,
      (
        U32x4,
        U32x4,
        q,
        (
          ArrayOf U32 n,
          subst (TypesUnder asked d g xs) own h.3,
          (n, refl, all, refl, (shown-quotient 4 d.names n some all form.0, tt)),
          met asked (Layout AsVector) (ArrayOf U32x4 q) tt,
        ),
        fours,
        refl,
      ),
      (q, refl, whole, formed d around.declared.inputs g (Map Plain xs f) b around.binders (types_alone asked d g (Map Plain xs f) b h)),
      met asked (Layout AsScalar) b tt,
    ))
    (λ w vs ok have.
    let v = meaning w vs xs in
    let t = list_have w.bases U32 n v (values_have_types d w g vs xs (ArrayOf U32 n) around.declared ok around.binders have typed) in
    let long : pos (length (members v)) ≡ pos 4 *ℤ value_at w.bases q = t.0 ∙ value-quotient w.bases (number (pos 4)) n all ∙ ap (λ z. z *ℤ value_at w.bases q) (number_at w.bases (pos 4)) in
    maps_by_fours w g vs Plain xs f have made named (every_to (λ u p. (p.0, p.1)) (members v) t.1) (whole_fours (length (members v)) (value_at w.bases q) long))

-- the polynomial of an array
polynomial_of : (a x : PlainTy) (n : List Monomial) → a ≡ ArrayOf x n → HasPolynomial a → IsPoly (length_in a)
polynomial_of a x n e h = subst (λ z. IsPoly (length_in z)) (sym e) (subst HasPolynomial e h)

pub fours_keep : (a : Around) (t u : Tree) → HasPolynomial (array_type a.types) → by_fours a t ≡ Becomes u → KeepsIn a t u
fours_keep a (Map Plain xs f) u poly e =
    let r = both_true _ _ _ u e in
    let p = and_parts (holds_numbers (array_type a.types)) _ r.0 in
    let q = and_parts (names_binder f) (made_of_lanes a.binders f) p.1 in
    subst (KeepsIn a (Map Plain xs f)) r.2 (fours_keep_map a xs f (polynomial_of (array_type a.types) U32 _ (numbers_array (array_type a.types) p.0) poly) (numbers_array (array_type a.types) p.0) q.0 q.1 r.1)
fours_keep a _ u poly e = absurd (cc)

-- ---- vectors of vectors' scalars
inner_typed : (d : Declared) (g : List PlainTy) (xs : Tree) (n : Annotation) → Annotates d g (as_vector (as_scalar xs)) n → Types d g xs (inner_type n)
inner_typed d g xs (One a (One b n)) h = annotated_is_typed d g xs n h.0.0
inner_typed d g xs _ h = absurd (assumption)

-- the members of an array of vectors
vector_rows : (vs : List Value) → Every IsVector vs → (rs : List (List Value)) × (vs ≡ map array rs) × Every (λ r. length r ≡ 4) rs
vector_rows [] h = ([], refl, tt)
vector_rows (v ∷ vs) h =
    let r = vector_rows vs h.1 in
    let x = h.0 in
    (x.0 ∷ r.0, ap (λ z. z ∷ vs) x.1 ∙ ap (λ z. array x.0 ∷ z) r.1, (x.2, r.2))

again_keep_term : (a : Around) (xs : Tree) → HasPolynomial (inner_type a.types) → KeepsIn a (as_vector (as_scalar xs)) xs
again_keep_term a xs poly d around =
    let g = a.binders in
    let typed = inner_typed d g xs a.types around.nodes in
    keeping d g _ _
    (λ asked b h.
    let i = h.1 in
    let r = i.2 in
    let s = h.2 in
    let n : List Monomial = r.0 in
    let own = one_type d g xs (inner_type a.types) (ArrayOf U32x4 n) typed (types_alone asked d g xs (ArrayOf U32x4 n) (subst (TypesUnder asked d g xs) r.1 i.1)) in
    let p : IsPoly n = subst HasPolynomial own poly in
    let outer = same_array U32 U32 s.0 (times n (constant 4)) (sym s.1 ∙ r.2) in
    let all = subst (AllDivide (number (pos 4))) outer.1 s.2 in
    let e : b ≡ ArrayOf U32x4 n = s.3 ∙ ap (λ z. ArrayOf U32x4 (quotient (number (pos 4)) z)) outer.1 ∙ ap (ArrayOf U32x4) (number_quotient 4 n (omega arith) p all) in
    subst (TypesUnder asked d g xs) (r.1 ∙ sym e) i.1)
    (λ w vs ok have.
    let v = meaning w vs xs in
    let whole = annotated_is_typed d g (as_vector (as_scalar xs)) a.types around.nodes in
    let i = whole.1 in
    let n : List Monomial = i.2.0 in
    let t = list_have w.bases U32x4 n v (values_have_types d w g vs xs (ArrayOf U32x4 n) around.declared ok around.binders have (subst (Types d g xs) i.2.1 i.1)) in
    let hx = values_have_types d w g vs xs (ArrayOf U32x4 n) around.declared ok around.binders have (subst (Types d g xs) i.2.1 i.1) in
    let rs = vector_rows (members v) t.1 in
    let back : array (members v) ≡ v = ap (λ z. array (members z)) hx.1 ∙ ap array (members-array hx.0) ∙ sym hx.1 in
    sym (vectors_of_scalars w vs xs rs.0 (sym back ∙ ap array rs.1) rs.2))

pub vectors_again_keep : (a : Around) (t u : Tree) → HasPolynomial (inner_type a.types) → vectors_again t ≡ Becomes u → KeepsIn a t u
vectors_again_keep a (Unary (Layout AsVector) (Unary (Layout AsScalar) xs)) u poly e = subst (KeepsIn a (as_vector (as_scalar xs))) (becomes_of xs u e) (again_keep_term a xs poly)
vectors_again_keep a _ u poly e = absurd (cc)
