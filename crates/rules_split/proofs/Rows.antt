-- A reduction by rows keeps its type, copies and value; so does one that becomes a fold.
use Rattle.std.proofs.Common.{◌≡◌, ℕ, zero, suc, ◌*◌, ◌<◌, ◌^◌, List, [], ◌∷◌, length, refl, sym, ap, ◌∙◌, subst, arith, ℤ, pos, ◌≤ℤ◌, Some}
use Rattle.std.specs.Prelude.{map}
use Rattle.std.proofs.lemmas.Int.{ints}
use Rattle.scalar_ops.specs.declared.op.Reducer.{Reducer}
use Rattle.scalar_ops.specs.Operators.{combine, neutral, apply_op}
use Rattle.scalar_ops.specs.Regroup.{IsRegroup}
use Rattle.size_arith.specs.declared.poly.Monomial.{Monomial}
use Rattle.size_arith.specs.Polynomial.{number, value_at, times, AllWide, IsPoly, quotient}
use Rattle.size_arith.specs.Shown.{ShownAtLeast}
use Rattle.size_arith.proofs.Soundness.{shown_at_least}
use Rattle.lift_tree.specs.declared.length.Factor.TheVariants as factor
use Rattle.lift_tree.specs.declared.layout.Layout.TheVariants.{Join, Split, Transpose}
use Rattle.lift_tree.specs.declared.term.UnaryForm.TheVariants.{Layout}
use Rattle.lift_tree.specs.declared.term.BinaryForm.TheVariants.{Reduce, Operator}
use Rattle.lift_tree.specs.declared.term.Operator.TheVariants.{Regrouping}
use Rattle.lift_tree.specs.Tree.{Tree, Variable, Number, Unary, Binary}
use Rattle.lift_tree.specs.Lists.{Every, fold_left, concat, pieces, columns, width, first_of, rest_of}
use Rattle.lift_tree.specs.Values.{Value, Word, array, members, word}
use Rattle.lift_tree.specs.Meaning.{World, meaning, rows, on_lanes, scalar_op}
use Rattle.lift_tree.specs.Types.{PlainTy, U32, ArrayOf, HasType, HaveTypes}
use Rattle.lift_tree.specs.Typing.{Declared, Types, UnaryRow, IsAdmissible, constant}
use Rattle.lift_tree.proofs.Copies.{Demand, TypesUnder, met, met_pairs, types_alone}
use Rattle.lift_tree.proofs.Members.{members-array, length-map, every_to, every_and, every-pieces, pieces_long, length-pieces}
use Rattle.lift_tree.proofs.Rows.{list_have}
use Rattle.lift_tree.proofs.Formed.{formed}
use Rattle.lift_tree.proofs.Sound.{values_have_types}
use Rattle.lift_tree.proofs.Unique.{one_type}
use Rattle.rewriting.specs.Answers.{Becomes}
use Rattle.rewriting.specs.Around.{Around, IsAround}
use Rattle.rewriting.specs.Keeps.{KeepsIn}
use Rattle.rules_split.specs.Rules.{in_pieces, joined, reduced_by_rows, folded, array_length, reducer_of, split_reduce, stride_reduce, reduce_fold}
use Rattle.rewriting.proofs.Keeping.{keeping}
use Rattle.rules_split.proofs.Lists.{map_same, map-map, rows-array, pieces-map, concat-pieces}
use Rattle.lift_tree.proofs.PieceLengths.{wide-constant, wide-quotient, shown-constant, shown-quotient, shown-one}
use Rattle.rules_split.proofs.Reducing.{regrouped, strided, columns_of, columns_fit, head_or, rest, IsRow}
use Rattle.rules_split.proofs.Splitting.{split_row, cut}
use Rattle.rules_split.proofs.Tried.{ArePieces, pieces_hold, unless_none}
use Rattle.rules_split.proofs.Typed.{reduced_array}

-- ---- types
-- rows of numbers, reduced one by one
rows_typed : (asked : Demand) (d : Declared) (g : List PlainTy) (r : Reducer) (rs s : Tree) (m q : List Monomial) (a : PlainTy) → neutral r < 2 ^ 32 → AllWide 8 q → ShownAtLeast 1 d.names q
    → TypesUnder asked d g rs (ArrayOf (ArrayOf U32 m) q) → TypesUnder asked d g s U32 → a ≡ ArrayOf U32 (constant 1) → TypesUnder asked d g (reduced_by_rows r rs s) a
rows_typed asked d g r rs s m q a fits wide shown hrs hs ha =
    let one = constant 1 in (
      ArrayOf U32 (times q one),
      U32,
      (
        ArrayOf (ArrayOf U32 one) q,
        (ArrayOf U32 m, ArrayOf U32 one, q, hrs, (ArrayOf U32 m, U32, refl, (fits, refl), (m, refl, refl, refl), met_pairs asked (Reduce r) (ArrayOf U32 one) tt), refl),
        (U32, one, q, refl, refl, (shown-one d.names q wide shown, tt)),
        met asked (Layout Join) (ArrayOf U32 (times q one)) tt,
      ),
      hs,
      (times q one, refl, refl, ha),
      met_pairs asked (Reduce r) a tt,
    )

-- an array of numbers in pieces
cut_typed : (asked : Demand) (d : Declared) (g : List PlainTy) (k : ℕ) (xs : Tree) (b : PlainTy) (n : List Monomial) → TypesUnder asked d g xs b → Types d g xs (ArrayOf U32 n)
    → UnaryRow d.names (Layout (Split (factor.Number k ∷ []))) (ArrayOf U32 n) (ArrayOf (ArrayOf U32 (constant k)) (quotient (number (pos k)) n))
    → TypesUnder asked d g (in_pieces k xs) (ArrayOf (ArrayOf U32 (constant k)) (quotient (number (pos k)) n))
cut_typed asked d g k xs b n h typed row =
    let is = one_type d g xs b (ArrayOf U32 n) (types_alone asked d g xs b h) typed in
    (ArrayOf U32 n, subst (TypesUnder asked d g xs) is h, row, met asked (Layout (Split (factor.Number k ∷ []))) (ArrayOf (ArrayOf U32 (constant k)) (quotient (number (pos k)) n)) tt)

-- ---- values
-- a list of words by its numbers
pub record IsWords (vs : List Value) : Type 0 where
  pub numbers : List ℕ
  pub words : vs ≡ map Word numbers
  pub fit : Every (λ n. n < 2 ^ 32) numbers

words : (ys : List ℕ) (vs : List Value) → Every (HasType ys U32) vs → IsWords vs
words ys [] a = record { numbers = []; words = refl; fit = tt }
words ys (v ∷ vs) a =
    let r = words ys vs a.1 in
    let e = a.0.1 in
    let d = r.words in
    record { numbers = a.0.0 ∷ r.numbers; words = cc; fit = (a.0.2, r.fit) }

abbrev step : Reducer → Value → Value → Value
step o b x = Word (combine o (word b) (word x))

fold_words : (o : Reducer) (s : ℕ) (ns : List ℕ) → fold_left (step o) (Word s) (map Word ns) ≡ Word (fold_left (combine o) s ns)
fold_words o s [] = refl
fold_words o s (n ∷ ns) = fold_words o (combine o s n) ns

-- the operator of a fold's body
abbrev lanes : Reducer → Value → Value → Value
lanes o b x = on_lanes (apply_op (scalar_op (Regrouping o))) b x

fold_lanes : (o : Reducer) (s : ℕ) (ns : List ℕ) → fold_left (lanes o) (Word s) (map Word ns) ≡ fold_left (step o) (Word s) (map Word ns)
fold_lanes o s [] = refl
fold_lanes o s (n ∷ ns) = fold_lanes o (combine o s n) ns

fold_alike : (o : Reducer) (u : Value) (vs : List Value) (s : ℕ) (ns : List ℕ) → u ≡ Word s → vs ≡ map Word ns → fold_left (lanes o) u vs ≡ fold_left (step o) u vs
fold_alike o u vs s ns e f =
    ap (fold_left (lanes o) u) f ∙ ap (λ z. fold_left (lanes o) z (map Word ns)) e ∙ fold_lanes o s ns
    ∙ sym (ap (fold_left (step o) u) f ∙ ap (λ z. fold_left (step o) z (map Word ns)) e)

-- rows reduced one by one
rows_reduced : (o : Reducer) (e : ℕ) (rs : List Value) → concat (map members (map (λ r. array (fold_left (step o) (Word e) (members r) ∷ [])) rs)) ≡ map (λ r. fold_left (step o) (Word e) r) (map members rs)
rows_reduced o e [] = refl
rows_reduced o e (r ∷ rs) = ap (λ l. fold_left (step o) (Word e) (members r) ∷ l) (rows_reduced o e rs)

-- the value of a reduction by rows of numbers
rows_value : (o : Reducer) (w : World) (vs : List Value) (rs s : Tree) (s0 : ℕ) (nss : List (List ℕ)) → IsRegroup (combine o) (neutral o) → s0 < 2 ^ 32 → Every (Every (λ n. n < 2 ^ 32)) nss
    → meaning w vs s ≡ Word s0 → rows (meaning w vs rs) ≡ map (map Word) nss
    → meaning w vs (reduced_by_rows o rs s) ≡ array (Word (fold_left (combine o) s0 (concat nss)) ∷ [])
rows_value o w vs rs s s0 nss laws fits fit es ers =
    let f = combine o in
    let e = neutral o in
    let v = meaning w vs rs in
    let inner : members (meaning w vs (joined rs (Binary (Reduce o) (Variable 0) (Number e)))) ≡ map Word (map (fold_left f e) nss) =
    members-array _
    ∙ ap (λ l. concat (map members l)) (members-array (map (λ r. array (fold_left (step o) (Word e) (members r) ∷ [])) (members v)))
    ∙ rows_reduced o e (members v)
    ∙ ap (map (λ r. fold_left (step o) (Word e) r)) ers
    ∙ map-map _ _ nss
    ∙ map_same _ _ nss (λ r. fold_words o e r)
    ∙ sym (map-map Word (fold_left f e) nss) in
    ap (λ z. array (z ∷ []))
    (ap (fold_left (step o) (meaning w vs s)) inner
    ∙ ap (λ z. fold_left (step o) z (map Word (map (fold_left f e) nss))) es
    ∙ fold_words o s0 (map (fold_left f e) nss)
    ∙ ap Word (regrouped f e laws s0 nss fits fit))

plain_value : (o : Reducer) (w : World) (vs : List Value) (xs s : Tree) (s0 : ℕ) (ns : List ℕ) → meaning w vs s ≡ Word s0 → members (meaning w vs xs) ≡ map Word ns
    → meaning w vs (Binary (Reduce o) xs s) ≡ array (Word (fold_left (combine o) s0 ns) ∷ [])
plain_value o w vs xs s s0 ns es exs =
    ap (λ z. array (z ∷ []))
    (ap (fold_left (step o) (meaning w vs s)) exs ∙ ap (λ z. fold_left (step o) z (map Word ns)) es ∙ fold_words o s0 ns)

-- ---- columns of words
first_words : (r : List ℕ) → first_of (map Word r) ≡ Word (head_or r)
first_words [] = refl
first_words (x ∷ r) = refl

rest_words : (r : List ℕ) → rest_of (map Word r) ≡ map Word (rest r)
rest_words [] = refl
rest_words (x ∷ r) = refl

columns_words : (m : ℕ) (rs : List (List ℕ)) → columns m (map (map Word) rs) ≡ map (map Word) (columns_of m rs)
columns_words zero rs = refl
columns_words (suc m) rs =
    ap (λ l. l ∷ columns m (map rest_of (map (map Word) rs))) (map-map first_of (map Word) rs ∙ map_same _ _ rs first_words ∙ sym (map-map Word head_or rs))
    ∙ ap (λ l. map Word (map head_or rs) ∷ columns m l) (map-map rest_of (map Word) rs ∙ map_same _ _ rs rest_words ∙ sym (map-map (map Word) rest rs))
    ∙ ap (λ l. map Word (map head_or rs) ∷ l) (columns_words m (map rest rs))

width_words : (m : ℕ) (rs : List (List ℕ)) → 0 < length rs → Every (λ r. length r ≡ m) rs → width (map (map Word) rs) ≡ m
width_words m [] h a = absurd (omega arith)
width_words m (r ∷ rs) h a = length-map Word r ∙ a.0

some_members : (n : ℕ) (z : ℤ) → pos n ≡ z → pos 1 ≤ℤ z → 0 < n
some_members n z e h = omega (arith, ints)

some_rows : (n c k l : ℕ) → 0 < n → n ≡ c * k → l ≡ c → 0 < l
some_rows n zero k l h e f = absurd (omega arith)
some_rows n (suc c) k l h e f = omega arith

-- ---- the rules
-- an array of numbers in pieces
record AreCut (w : World) (vs : List Value) (k : ℕ) (xs s : Tree) : Type 0 where
  count : ℕ
  numbers : List ℕ
  start : ℕ
  words : members (meaning w vs xs) ≡ map Word numbers
  start_is : meaning w vs s ≡ Word start
  start_fits : start < 2 ^ 32
  cut_rows : rows (meaning w vs (in_pieces k xs)) ≡ map (map Word) (pieces count k k numbers)
  total : length numbers ≡ count * k
  row : Every (IsRow k) (pieces count k k numbers)

are_cut : (d : Declared) (a : Around) (o : Reducer) (k : ℕ) (xs s : Tree) → IsAround d a (Binary (Reduce o) xs s) → ArePieces k (array_length a.types) → (w : World) (vs : List Value) → IsAdmissible d w → HaveTypes w.bases a.binders vs → AreCut w vs k xs s
are_cut d a o k xs s around pieces_of w vs ok all =
    let g = a.binders in
    let n = array_length a.types in
    let typed = reduced_array d g o xs s a.types around.nodes in
    let v = meaning w vs xs in
    let t = list_have w.bases U32 n v (values_have_types d w g vs xs (ArrayOf U32 n) around.declared ok around.binders all typed.0) in
    let c = cut w k n v pieces_of.some pieces_of.divide t.0 in
    let ms = words w.bases (members v) t.1 in
    let st = values_have_types d w g vs s U32 around.declared ok around.binders all typed.1 in
    let total : length ms.numbers ≡ c.count * k = sym (length-map Word ms.numbers) ∙ ap length (sym ms.words) ∙ c.total in
    record {
      count = c.count;
      numbers = ms.numbers;
      start = st.0;
      words = ms.words;
      start_is = st.1;
      start_fits = st.2;
      cut_rows = c.rows ∙ ap (pieces c.count k k) ms.words ∙ pieces-map Word c.count k k ms.numbers;
      total = total;
      row = every_and (λ r. length r ≡ k) (Every (λ n. n < 2 ^ 32)) (pieces c.count k k ms.numbers)
          (pieces_long c.count k k ms.numbers (omega arith))
          (every-pieces (λ n. n < 2 ^ 32) c.count k k ms.numbers ms.fit);
    }

module _ (o : Reducer) (laws : IsRegroup (combine o) (neutral o)) (a : Around) (k : ℕ) (xs s : Tree) (poly : IsPoly (array_length a.types)) (pieces_of : ArePieces k (array_length a.types)) where
  pub split_reduce_keeps : KeepsIn a (Binary (Reduce o) xs s) (reduced_by_rows o (in_pieces k xs) s)
  split_reduce_keeps d around =
      let g = a.binders in
      let n = array_length a.types in
      let q = quotient (number (pos k)) n in
      let t = reduced_array d g o xs s a.types around.nodes in
      let form = formed d around.declared.inputs g xs (ArrayOf U32 n) around.binders t.0 in
      keeping d g _ _
      (λ asked b h.
      rows_typed asked d g o (in_pieces k xs) s (constant k) q b laws.fits
      (wide-quotient (number (pos k)) k n refl poly.wide)
      (shown-quotient k d.names n pieces_of.some pieces_of.divide form.0)
      (cut_typed asked d g k xs h.0 n h.2 t.0 (split_row d.names k U32 n pieces_of.some pieces_of.divide form.0 tt))
      (subst (TypesUnder asked d g s) h.4.2 h.3) h.4.3)
      (λ w vs ok all.
      let c = are_cut d a o k xs s around pieces_of w vs ok all in
      rows_value o w vs (in_pieces k xs) s c.start (pieces c.count k k c.numbers) laws c.start_fits (every_to (λ r h. h.1) (pieces c.count k k c.numbers) c.row) c.start_is c.cut_rows
      ∙ ap (λ ns. array (Word (fold_left (combine o) c.start ns) ∷ [])) (concat-pieces c.count k c.numbers c.total)
      ∙ sym (plain_value o w vs xs s c.start c.numbers c.start_is c.words))

  pub stride_reduce_keeps : KeepsIn a (Binary (Reduce o) xs s) (reduced_by_rows o (Unary (Layout Transpose) (in_pieces k xs)) s)
  stride_reduce_keeps d around =
      let g = a.binders in
      let n = array_length a.types in
      let q = quotient (number (pos k)) n in
      let t = reduced_array d g o xs s a.types around.nodes in
      let form = formed d around.declared.inputs g xs (ArrayOf U32 n) around.binders t.0 in
      let shown_q = shown-quotient k d.names n pieces_of.some pieces_of.divide form.0 in
      let shown_k = shown-constant d.names k pieces_of.some in
      keeping d g _ _
      (λ asked b h.
      rows_typed asked d g o (Unary (Layout Transpose) (in_pieces k xs)) s q (constant k) b laws.fits (wide-constant k) shown_k (
        ArrayOf (ArrayOf U32 (constant k)) q,
        cut_typed asked d g k xs h.0 n h.2 t.0 (split_row d.names k U32 n pieces_of.some pieces_of.divide form.0 tt),
        (U32, constant k, q, refl, refl, (shown_k, (shown_q, tt))),
        met asked (Layout Transpose) (ArrayOf (ArrayOf U32 q) (constant k)) tt,
      )
      (subst (TypesUnder asked d g s) h.4.2 h.3) h.4.3)
      (λ w vs ok all.
      let c = are_cut d a o k xs s around pieces_of w vs ok all in
      let ps = pieces c.count k k c.numbers in
      let v = meaning w vs xs in
      let l = list_have w.bases U32 n v (values_have_types d w g vs xs (ArrayOf U32 n) around.declared ok around.binders all t.0) in
      let least = shown_at_least d.names w.bases around.declared.names ok.bases 1 n form.0 in
      let some : 0 < length (members v) = some_members (length (members v)) (value_at w.bases n) l.0 least in
      let long : length (members v) ≡ c.count * k = ap length c.words ∙ length-map Word c.numbers ∙ c.total in
      let rs = rows (meaning w vs (in_pieces k xs)) in
      let wide : width rs ≡ k = ap width c.cut_rows ∙ width_words k ps (some_rows (length (members v)) c.count k (length ps) some long (length-pieces c.count k k c.numbers)) (every_to (λ r h. h.0) ps c.row) in
      let cols : rows (meaning w vs (Unary (Layout Transpose) (in_pieces k xs))) ≡ map (map Word) (columns_of k ps) =
      rows-array (columns (width rs) rs) ∙ ap (λ z. columns z rs) wide ∙ ap (columns k) c.cut_rows ∙ columns_words k ps in
      rows_value o w vs (Unary (Layout Transpose) (in_pieces k xs)) s c.start (columns_of k ps) laws c.start_fits (columns_fit k ps c.row) c.start_is cols
      ∙ ap (λ n. array (Word n ∷ [])) (strided (combine o) (neutral o) laws c.start k ps c.start_fits c.row)
      ∙ ap (λ ns. array (Word (fold_left (combine o) c.start ns) ∷ [])) (concat-pieces c.count k c.numbers c.total)
      ∙ sym (plain_value o w vs xs s c.start c.numbers c.start_is c.words))

pub split_reduce_gives : (o : Reducer) → IsRegroup (combine o) (neutral o) → (a : Around) (k : ℕ) (t u : Tree) → reducer_of t ≡ Some o → IsPoly (array_length a.types) → split_reduce k a t ≡ Becomes u → KeepsIn a t u
split_reduce_gives o laws a k (Binary (Reduce r) xs s) u same poly e =
    let q : o ≡ r = cc in
    let h = unless_none _ _ u e in
    subst (KeepsIn a (Binary (Reduce r) xs s)) h.1 (split_reduce_keeps r (subst (λ o. IsRegroup (combine o) (neutral o)) q laws) a k xs s poly (pieces_hold k (array_length a.types) poly h.0))
split_reduce_gives o laws a k _ u same poly e = absurd (cc)

pub stride_reduce_gives : (o : Reducer) → IsRegroup (combine o) (neutral o) → (a : Around) (k : ℕ) (t u : Tree) → reducer_of t ≡ Some o → IsPoly (array_length a.types) → stride_reduce k a t ≡ Becomes u → KeepsIn a t u
stride_reduce_gives o laws a k (Binary (Reduce r) xs s) u same poly e =
    let q : o ≡ r = cc in
    let h = unless_none _ _ u e in
    subst (KeepsIn a (Binary (Reduce r) xs s)) h.1 (stride_reduce_keeps r (subst (λ o. IsRegroup (combine o) (neutral o)) q laws) a k xs s poly (pieces_hold k (array_length a.types) poly h.0))
stride_reduce_gives o laws a k _ u same poly e = absurd (cc)

-- ---- a fold in place of a reduction
folds_alike : (d : Declared) (a : Around) (r : Reducer) (xs s : Tree) (w : World) (vs : List Value) → IsAround d a (Binary (Reduce r) xs s) → IsAdmissible d w → HaveTypes w.bases a.binders vs
    → fold_left (lanes r) (meaning w vs s) (members (meaning w vs xs)) ≡ fold_left (step r) (meaning w vs s) (members (meaning w vs xs))
folds_alike d a r xs s w vs around ok all =
    let g = a.binders in
    let n = array_length a.types in
    let typed = reduced_array d g r xs s a.types around.nodes in
    let v = meaning w vs xs in
    let t = list_have w.bases U32 n v (values_have_types d w g vs xs (ArrayOf U32 n) around.declared ok around.binders all typed.0) in
    let ms = words w.bases (members v) t.1 in
    let st = values_have_types d w g vs s U32 around.declared ok around.binders all typed.1 in
    fold_alike r (meaning w vs s) (members v) st.0 ms.numbers st.1 ms.words

pub reduce_fold_gives : (a : Around) (t u : Tree) → reduce_fold t ≡ Becomes u → KeepsIn a t u
reduce_fold_gives a (Binary (Reduce r) xs s) u e =
    let same : folded r xs s ≡ u = cc in
    subst (KeepsIn a (Binary (Reduce r) xs s)) same (λ d around. keeping d a.binders _ _
    (λ asked ty h.
    let typed_xs = subst (TypesUnder asked d a.binders xs) h.4.1 h.2 in
    let typed_s = subst (TypesUnder asked d a.binders s) h.4.2 h.3 in
    (U32, U32, h.4.0, typed_xs, typed_s, tt, (U32, U32, refl, refl, refl, met_pairs asked (Operator (Regrouping r)) U32 tt), h.4.3))
    (λ w vs ok all. ap (λ z. array (z ∷ [])) (folds_alike d a r xs s w vs around ok all)))
reduce_fold_gives a _ u e = absurd (cc)
