-- N15: what a legal term is lowered to loads and stores each vector as one.
use Rattle.std.proofs.Common.{◌≡◌, ℕ, Bool, true, false, List, [], ◌∷◌, refl, sym, ap, subst}
use Rattle.std.specs.Prelude.{not, ◌&&◌, ◌||◌, Option, Some, None, if◌then◌else◌}
use Rattle.size_arith.specs.declared.names.Name.{Name}
use Rattle.size_arith.specs.declared.poly.Monomial.{Monomial}
use Rattle.lift_tree.specs.declared.layout.Layout as layout
use Rattle.lift_tree.specs.declared.length.Product.{Product}
use Rattle.lift_tree.specs.declared.layout.Layout.TheVariants as laid
use Rattle.lift_tree.specs.declared.term.UnaryForm.TheVariants as unary
use Rattle.lift_tree.specs.declared.term.BinaryForm.TheVariants as binary
use Rattle.lift_tree.specs.declared.term.Level.{Level}
use Rattle.lift_tree.specs.declared.term.MapKind.{MapKind}
use Rattle.lift_tree.specs.Tree as tree
use Rattle.lift_tree.specs.Tree.{Tree}
use Rattle.lift_tree.specs.Types as types
use Rattle.lift_tree.specs.Types.{PlainTy, is_element}
use Rattle.lift_tree.specs.Lists.{Every}
use Rattle.lift_tree.specs.Typing.{Declared, LayoutRow}
use Rattle.lift_tree.specs.Annotations.{Annotation, Leaf, One, Two, Three, type_in, Annotates}
use Rattle.lift_tree.specs.Copies.{CopiesArrays}
use Rattle.lift_ir.specs.AtLaunch.{inner_of, outer_of, layout_of}
use Rattle.lift_ir.specs.Layouts.{Split, Join, Transpose, Reverse}
use Rattle.lift_ir.specs.Terms as low
use Rattle.lift_ir.specs.Terms.{push}
use Rattle.lift_ir.specs.Fours.{Lie, Loose, Whole, Serves, element_lie, written_lie, bound_lie, held_lie, LoadsFours, StoresFours, Lies, ReadsFours, WritesFours, KeepsFours, no_lie}
use Rattle.lift_ir.specs.Lowering as ir
use Rattle.lift_ir.specs.Lowering.{Written, Argument, Element, Lowered, Place, element_of, element_ty, named, lower, lower_unary}
use Rattle.lift_ir.specs.Lowerable.{IsStaged}
use Rattle.lift_ir.proofs.Elements.{from_ir}
use Rattle.lift_ir.proofs.Lets.{argument_let, let_parts}
use Rattle.lift_ir.proofs.Reshaped.{through_layout}
use Rattle.lowered_tree.specs.Aligned.{is_aligned, under_bound}
use Rattle.lowered_tree.specs.Around.{Around, body_of, laid_out, map_body, copied, passed, at_root}
use Rattle.lowered_tree.specs.Elements.{holds_vectors}
use Rattle.lowered_tree.specs.Nest.{is_in_order, is_private}
use Rattle.lowered_tree.specs.Pairs.{pair_begun}
use Rattle.lowered_tree.specs.declared.around.AddressSpace.TheVariants.{Local, Private}
use Rattle.lowered_tree.specs.declared.rule.NestRule.TheVariants.{N10, N15}
use Rattle.nest_premises.specs.Unbroken.{AllUnbroken}
use Rattle.nest_premises.proofs.Rules.{moved, of_layout, under_layout, body_written}
use Rattle.nest_premises.proofs.Staged.{passes, refused}
use Rattle.nest_premises.proofs.Stands.{body_staged}
use Rattle.nest_premises.proofs.Paired.{PairsNumbers, pairs_hold_numbers}
use Rattle.nest_premises.proofs.Lies.{lies_too, deeper, wanted, lie_of, InParts, deeper_parts, in_parts, whole_for, whole_serves, serves_itself, whole_lie, any_lie, in_cells, nowhere, loose, no_vectors, IsArgument, no_element, element_serves, element_lies, split_read, join_read, transposed_read, reversed_read, slid_read, padded_read, stores, loads_named, LiesAs, as_argument, lies_as, held_as, bound_lies, Lying, lies_at}

-- ---- layouts that are read through

module _ (g : ℕ → Lie) (x : Bool) (t : Lowered) (names : List Name) (p : Place) (b a : PlainTy) (h : Lies g t (lie_of x b)) where
  in_fours : Lies g t (lie_of false b)
  in_fours = lies_too g t (lie_of x b) (lie_of false b) (any_lie x b) h

  -- of arrays of these elements
  by_type : (l : layout.Layout) (c e : PlainTy) (m n : List Monomial) → b ≡ types.ArrayOf c n → a ≡ types.ArrayOf e m
      → (Lies g t (deeper (wanted c)) → Lies g (lower_unary names p (unary.Layout l) a b t) (deeper (wanted e))) → Lies g (lower_unary names p (unary.Layout l) a b t) (lie_of false a)
  by_type l c e m n i j f = subst (λ z. Lies g (lower_unary names p (unary.Layout l) a b t) (lie_of false z)) (sym j) (f (subst (λ z. Lies g t (lie_of false z)) i in_fours))

  -- also whole
  as_lying : (l : layout.Layout) (c e : PlainTy) (m n : List Monomial) → b ≡ types.ArrayOf c n → a ≡ types.ArrayOf e m
      → (Lies g t Whole → Lies g (lower_unary names p (unary.Layout l) a b t) Whole)
      → (Lies g t (deeper (wanted c)) → Lies g (lower_unary names p (unary.Layout l) a b t) (deeper (wanted e))) → Lies g (lower_unary names p (unary.Layout l) a b t) (lie_of x a)
  as_lying l c e m n i j whole f = subst (λ z. Lies g (lower_unary names p (unary.Layout l) a b t) (lie_of x z)) (sym j) (go x (subst (λ z. Lies g t (lie_of x z)) i h))
    where
      go : (x : Bool) → Lies g t (lie_of x (types.ArrayOf c n)) → Lies g (lower_unary names p (unary.Layout l) a b t) (lie_of x (types.ArrayOf e m))
      go true h = whole h
      go false h = f h

  join_lies : LayoutRow names laid.Join b a → Lies g (lower_unary names p (unary.Layout laid.Join) a b t) (lie_of x a)
  join_lies r = as_lying laid.Join (types.ArrayOf r.0 r.1) r.0 _ _ r.3 r.4 (λ k. (Whole, k, tt)) (λ k. (deeper (deeper (wanted r.0)), k, join_read (wanted r.0) (in_parts r.0) (inner_of b)))

  split_lies : (fs : Product) → LayoutRow names (laid.Split fs) b a → Lies g (lower_unary names p (unary.Layout (laid.Split fs)) a b t) (lie_of x a)
  split_lies fs r = as_lying (laid.Split fs) r.0 (types.ArrayOf r.0 _) _ _ r.2 r.4 (λ k. (Whole, k, tt)) (λ k. (deeper (wanted r.0), k, split_read (wanted r.0) (in_parts r.0) (inner_of a)))

  transpose_lies : LayoutRow names laid.Transpose b a → Lies g (lower_unary names p (unary.Layout laid.Transpose) a b t) (lie_of false a)
  transpose_lies r = by_type laid.Transpose (types.ArrayOf r.0 r.1) (types.ArrayOf r.0 r.2) _ _ r.3 r.4 (λ k. (deeper (deeper (wanted r.0)), k, transposed_read (wanted r.0) (in_parts r.0)))

  reverse_lies : LayoutRow names laid.Reverse b a → Lies g (lower_unary names p (unary.Layout laid.Reverse) a b t) (lie_of false a)
  reverse_lies r = by_type laid.Reverse r.0 r.0 _ _ r.2 r.3 (λ k. (deeper (wanted r.0), k, reversed_read (wanted r.0) (in_parts r.0) (outer_of b)))

  stride_lies : (fs : Product) → LayoutRow names (laid.Stride fs) b a → Lies g (lower_unary names p (unary.Layout (laid.Stride fs)) a b t) (lie_of false a)
  stride_lies fs r =
      let z = wanted r.0 in let q = in_parts r.0 in
      by_type (laid.Stride fs) r.0 r.0 _ _ r.2 r.4
      (λ k. (deeper (deeper z), (deeper (deeper z), (deeper z, k, split_read z q []), transposed_read z q), join_read z q []))

  vectors_lie : x ≡ true → LayoutRow names laid.AsVector b a → Lies g (lower_unary names p (unary.Layout laid.AsVector) a b t) (lie_of false a)
  vectors_lie e r =
      subst (λ z. Lies g (lower_unary names p (unary.Layout laid.AsVector) a b t) (lie_of false z)) (sym r.3)
      (Whole, subst (λ z. Lies g t (lie_of true z)) r.1 (subst (λ z. Lies g t (lie_of z b)) e h), tt)

  numbers_lie : LayoutRow names laid.AsScalar b a → Lies g (lower_unary names p (unary.Layout laid.AsScalar) a b t) (lie_of false a)
  numbers_lie r = subst (λ z. Lies g (lower_unary names p (unary.Layout laid.AsScalar) a b t) (lie_of false z)) (sym r.2) (Loose, lies_too g t (lie_of x b) Loose (in_cells x b) h, tt)

-- ---- layouts that are written through

-- whole, where that is so
abbrev best : Bool → Lie → Lie
best true z = Whole
best false z = z

best_serves : (x : Bool) (w z : Lie) → (x ≡ true → w ≡ Whole) → Serves w z → Serves w (best x z)
best_serves true w z e h = subst (λ q. Serves q Whole) (sym (e refl)) tt
best_serves false w z e h = h

best_whole : (x : Bool) (z : Lie) → x ≡ true → best x z ≡ Whole
best_whole true z e = refl
best_whole false z e = absurd (cc)

join_goes : (x : Bool) (z : Lie) → InParts z → (m : List Monomial) → Serves (written_lie (Join m) (best x (deeper z))) (deeper (deeper z))
join_goes true z p m = whole_for (deeper (deeper z)) (deeper_parts (deeper z) (deeper_parts z p))
join_goes false z p m = split_read z p m

split_goes : (x : Bool) (z : Lie) → InParts z → (m : List Monomial) → Serves (written_lie (Split m) (best x (deeper (deeper z)))) (deeper z)
split_goes true z p m = whole_for (deeper z) (deeper_parts z p)
split_goes false z p m = join_read z p m

-- ---- what is around a node

-- still in order below a layout that leaves the order, a let or a map
order_kept : (w e r p : Bool) → ((w && not e) && not r && not p) ≡ true → (w && not r && not p) ≡ true
order_kept true true r p h = absurd (cc)
order_kept true false r p h = h
order_kept false e r p h = absurd (cc)

order_passed : (w e r p : Bool) → ((w && not e) && not (r || false) && not p) ≡ true → (w && not r && not p) ≡ true
order_passed w e true p h = order_kept w e true p h
order_passed w e false p h = order_kept w e false p h

order_lost : {A : Type 0} (w r p : Bool) → (w && not (r || true) && p) ≡ true → A
order_lost true true p h = absurd (cc)
order_lost true false p h = absurd (cc)
order_lost false r p h = absurd (cc)

-- N15: in order, where vectors are put in place of numbers
told_order : (x : Bool) → not x ≡ false → x ≡ true
told_order true e = refl
told_order false e = absurd (cc)

order_on : (w r p : Bool) → w ≡ true → (true && not r && not p) ≡ true → (w && not r && not p) ≡ true
order_on true r p e h = h
order_on false r p e h = absurd (cc)

body_order : (s : Around) (k : MapKind) (xs b : Tree) (a : PlainTy) → s.is_written ≡ true → is_in_order (map_body s k xs b a) ≡ true → is_in_order s ≡ true
body_order s k xs b a w e = go (pair_begun k b) e
  where
    go : (due : Option Level) → is_in_order (body_of due s k xs a) ≡ true → is_in_order s ≡ true
    go None h = order_on s.is_written s.is_reordered (is_private s.space) w h
    go (Some l) h = order_on s.is_written s.is_reordered (is_private s.space) w h

body_aligned : (s : Around) (k : MapKind) (xs b : Tree) (a : PlainTy) → (map_body s k xs b a).aligned ≡ under_bound s.aligned xs
body_aligned s k xs b a = go (pair_begun k b)
  where
    go : (due : Option Level) → (body_of due s k xs a).aligned ≡ under_bound s.aligned xs
    go None = refl
    go (Some l) = refl

laid_aligned : (s : Around) (l : layout.Layout) (a : PlainTy) → (laid_out s l a).aligned ≡ s.aligned
laid_aligned s laid.Join a = refl
laid_aligned s laid.Transpose a = refl
laid_aligned s (laid.Split m) a = refl
laid_aligned s laid.Reverse a = refl
laid_aligned s (laid.Stride m) a = refl
laid_aligned s laid.AsVector a = refl
laid_aligned s laid.AsScalar a = refl

-- ---- arrays of maps and folds

module _ (c a : PlainTy) (n : List Monomial) (e : c ≡ types.ArrayOf a n) (x : Bool) (t : Tree) where
  loads_turn : PairsNumbers a → LoadsFours (element_lie (lie_of x c)) (named 0 (element_of c) [] t)
  loads_turn p = subst (λ z. LoadsFours (element_lie (lie_of x z)) (named 0 (element_of z) [] t)) (sym e) (loads_named _ a p (element_lies x a n) 0 [] t)

  bound_turn : LiesAs (bound_lie (named 0 (element_of c) [] t) (element_lie (lie_of x c))) x a
  bound_turn = subst (λ z. LiesAs (bound_lie (named 0 (element_of z) [] t) (element_lie (lie_of x z))) x a) (sym e) (bound_lies x a n t)

-- ---- a let in writing position

module _ (d : Declared) (g : ℕ → Lie) (w : Lie) (v b : Tree) (a : PlainTy) (n m : Annotation) where
  let_writes : StoresFours w (element_ty a)
      → (ir.is_element a ≡ false → ir.is_element (type_in n) ≡ true → WritesFours (push (held_lie (element_ty (type_in n))) g) w (lower d.names Written b m))
      → (ir.is_element a ≡ false → ir.is_element (type_in n) ≡ false → WritesFours g w (low.LetArray (lower d.names Argument v n) (lower d.names Written b m)))
      → WritesFours g w (lower d.names Written (tree.Let v b) (Two a n m))
  let_writes s f k = go (ir.is_element a) (ir.is_element (type_in n)) f k
    where
      go : (x y : Bool) → (x ≡ false → y ≡ true → WritesFours (push (held_lie (element_ty (type_in n))) g) w (lower d.names Written b m)) → (x ≡ false → y ≡ false → WritesFours g w (low.LetArray (lower d.names Argument v n) (lower d.names Written b m)))
          → WritesFours g w (let whole = if y then low.LetElement (element_ty (type_in n)) (lower d.names (if y then Element else Argument) v n) (lower d.names (if x then Element else Written) b m) else low.LetArray (lower d.names (if y then Element else Argument) v n) (lower d.names (if x then Element else Written) b m) in if x then low.Store (element_ty a) whole else whole)
      go true y f k = s
      go false true f k = f refl refl
      go false false f k = k refl refl

-- ---- terms

module _ (d : Declared) (inputs : Every PairsNumbers d.inputs) where
  paired : (g : List PlainTy) (t : Tree) (n : Annotation) → Every PairsNumbers g → Annotates d g t n → CopiesArrays t n → PairsNumbers (type_in n)
  paired g t n all y k = pairs_hold_numbers d g t n inputs all y k

  -- an argument lies as its type wants, and whole where it is aligned
  lies : (s : Around) (g : List PlainTy) (f : ℕ → Lie) (t : Tree) (n : Annotation) → Annotates d g t n → AllUnbroken s t n → CopiesArrays t n → IsStaged Argument t n → Every PairsNumbers g → Lying s.aligned g f → IsArgument (type_in n) → Lies f (lower d.names Argument t n) (lie_of (is_aligned s.aligned t) (type_in n))
  lies s g f (tree.Variable v) (Leaf a) y h k o all c i = as_argument (f v) _ a i (lies_at s.aligned g f v a c y)
  lies s g f (tree.Input v) (Leaf a) y h k o all c i = whole_lie true a
  lies s g f (tree.Unary unary.First t) (One a n) y h k o all c i =
      (lies_too f _ _ _ (in_cells _ (type_in n)) (lies _ g f t n y.0 h.1 k.1 o all c (subst IsArgument (sym y.1.1) tt)), loose a (subst PairsNumbers y.1.1 (paired g t n all y.0 k.1)).0)
  lies s g f (tree.Unary unary.Second t) (One a n) y h k o all c i =
      (lies_too f _ _ _ (in_cells _ (type_in n)) (lies _ g f t n y.0 h.1 k.1 o all c (subst IsArgument (sym y.1.1) tt)), loose a (subst PairsNumbers y.1.1 (paired g t n all y.0 k.1)).1)
  lies s g f (tree.Unary (unary.Layout laid.Join) t) (One a n) y h k o all c i =
      join_lies f _ _ d.names Argument (type_in n) a (lies _ g f t n y.0 h.1 k.1 o all c (no_element (type_in n) (under_layout d.names laid.Join (type_in n) a y.1))) y.1
  lies s g f (tree.Unary (unary.Layout (laid.Split fs)) t) (One a n) y h k o all c i =
      split_lies f _ _ d.names Argument (type_in n) a (lies _ g f t n y.0 h.1 k.1 o all c (no_element (type_in n) (under_layout d.names (laid.Split fs) (type_in n) a y.1))) fs y.1
  lies s g f (tree.Unary (unary.Layout laid.Transpose) t) (One a n) y h k o all c i =
      transpose_lies f _ _ d.names Argument (type_in n) a (lies _ g f t n y.0 h.1 k.1 o all c (no_element (type_in n) (under_layout d.names laid.Transpose (type_in n) a y.1))) y.1
  lies s g f (tree.Unary (unary.Layout laid.Reverse) t) (One a n) y h k o all c i =
      reverse_lies f _ _ d.names Argument (type_in n) a (lies _ g f t n y.0 h.1 k.1 o all c (no_element (type_in n) (under_layout d.names laid.Reverse (type_in n) a y.1))) y.1
  lies s g f (tree.Unary (unary.Layout (laid.Stride fs)) t) (One a n) y h k o all c i =
      stride_lies f _ _ d.names Argument (type_in n) a (lies _ g f t n y.0 h.1 k.1 o all c (no_element (type_in n) (under_layout d.names (laid.Stride fs) (type_in n) a y.1))) fs y.1
  lies s g f (tree.Unary (unary.Layout laid.AsVector) t) (One a n) y h k o all c i =
      vectors_lie f _ _ d.names Argument (type_in n) a (lies _ g f t n y.0 h.1 k.1 o all c (no_element (type_in n) (under_layout d.names laid.AsVector (type_in n) a y.1))) (told_order (is_aligned s.aligned t) (h.0 N15)) y.1
  lies s g f (tree.Unary (unary.Layout laid.AsScalar) t) (One a n) y h k o all c i =
      numbers_lie f _ _ d.names Argument (type_in n) a (lies _ g f t n y.0 h.1 k.1 o all c (no_element (type_in n) (under_layout d.names laid.AsScalar (type_in n) a y.1))) y.1
  lies s g f (tree.Unary (unary.Slide j l) t) (One a n) y h k o all c i =
      let x = y.1.0 in
      let own = lies_too f _ _ _ (any_lie (is_aligned s.aligned t) (type_in n)) (lies _ g f t n y.0 h.1 k.1 o all c (subst IsArgument (sym y.1.2) tt)) in
      subst (λ z. Lies f (low.Reshape (layout_of (unary.Slide j l) a (type_in n)) (lower d.names Argument t n)) (lie_of false z)) (sym y.1.6)
      (deeper (wanted x), subst (λ z. Lies f (lower d.names Argument t n) (lie_of false z)) y.1.2 own, slid_read (wanted x) (in_parts x) j l)
  lies s g f (tree.Unary (unary.Pad j l) t) (One a n) y h k o all c i =
      let x = y.1.0 in
      let own = lies_too f _ _ _ (any_lie (is_aligned s.aligned t) (type_in n)) (lies _ g f t n y.0 h.1 k.1 o all c (subst IsArgument (sym y.1.2) tt)) in
      subst (λ z. Lies f (low.Reshape (layout_of (unary.Pad j l) a (type_in n)) (lower d.names Argument t n)) (lie_of false z)) (sym y.1.3)
      (deeper (wanted x), subst (λ z. Lies f (lower d.names Argument t n) (lie_of false z)) y.1.2 own, padded_read (wanted x) (in_parts x) j l (outer_of (type_in n)))
  lies s g f (tree.Unary unary.ToLocal t) (One a n) y h k o all c i = whole_lie true a
  lies s g f (tree.Unary unary.ToPrivate t) (One a n) y h k o all c i = loose a (no_vectors a (h.0 N15))
  lies s g f (tree.Binary binary.Zip t u) (Two a n m) y h k o all c i = (
    lies_too f _ _ _ (in_cells _ (type_in n)) (lies _ g f t n y.0 h.1 k.0 o.0 all c (subst IsArgument (sym y.2.3) tt)),
    lies_too f _ _ _ (in_cells _ (type_in m)) (lies _ g f u m y.1 h.2 k.1 o.1 all c (subst IsArgument (sym y.2.4) tt)),
    loose a k.2,
  )
  lies s g f (tree.Let v b) (Two a n m) y h k o all c i =
      let al = is_aligned s.aligned v in
      let x = lie_of al (type_in n) in
      subst (λ u. Lies f u (lie_of false a)) (sym (argument_let d.names v b a n m o.0)) (
        x,
        lies _ g f v n y.0 h.1 k.0 o.1 all c (no_element (type_in n) (from_ir false (type_in n) o.0)),
        subst (λ z. Lies (push x f) (lower d.names Argument b m) (lie_of false z)) (sym y.2)
            (lies_too (push x f) _ _ _ (any_lie _ (type_in m)) (lies _ (type_in n ∷ g) (push x f) b m y.1 h.2 k.1 o.2 (paired g v n all y.0 k.0, all) (lies_as x al (type_in n) (serves_itself al (type_in n)), c) (subst IsArgument y.2 i))),
      )
  lies s g f _ _ y h k o all c i = absurd o

  mutual
    -- what an argument's copies load and store
    reads : (s : Around) (g : List PlainTy) (f : ℕ → Lie) (t : Tree) (n : Annotation) → Annotates d g t n → AllUnbroken s t n → CopiesArrays t n → IsStaged Argument t n → Every PairsNumbers g → Lying s.aligned g f → ReadsFours f (lower d.names Argument t n)
    reads s g f (tree.Variable v) (Leaf a) y h k o all c = tt
    reads s g f (tree.Input i) (Leaf a) y h k o all c = tt
    reads s g f (tree.Unary unary.First t) (One a n) y h k o all c = reads _ g f t n y.0 h.1 k.1 o all c
    reads s g f (tree.Unary unary.Second t) (One a n) y h k o all c = reads _ g f t n y.0 h.1 k.1 o all c
    reads s g f (tree.Unary (unary.Layout l) t) (One a n) y h k o all c =
        through_layout (ReadsFours f) (λ y u i k. k) d.names Argument l a (type_in n) _ (reads _ g f t n y.0 h.1 k.1 o all (subst (λ z. Lying z g f) (sym (laid_aligned s l a)) c))
    reads s g f (tree.Unary (unary.Slide j l) t) (One a n) y h k o all c = reads _ g f t n y.0 h.1 k.1 o all c
    reads s g f (tree.Unary (unary.Pad j l) t) (One a n) y h k o all c = reads _ g f t n y.0 h.1 k.1 o all c
    reads s g f (tree.Unary unary.ToLocal t) (One a n) y h k o all c = written (copied s Local a) g f Whole t n y.0 h.1 k.1 o.3 all c refl (λ e. refl) (whole_serves (type_in n))
    reads s g f (tree.Unary unary.ToPrivate t) (One a n) y h k o all c =
        written (copied s Private a) g f Loose t n y.0 h.1 k.1 o.3 all c refl (λ e. absurd (cc))
        (subst (λ z. Serves Loose z) (sym (nowhere (type_in n) (no_vectors (type_in n) (subst (λ z. holds_vectors z ≡ false) (sym y.1) (h.0 N15))))) tt)
    reads s g f (tree.Binary binary.Zip t u) (Two a n m) y h k o all c = (reads _ g f t n y.0 h.1 k.0 o.0 all c, reads _ g f u m y.1 h.2 k.1 o.1 all c)
    reads s g f (tree.Let v b) (Two a n m) y h k o all c =
        let al = is_aligned s.aligned v in
        let x = lie_of al (type_in n) in
        subst (ReadsFours f) (sym (argument_let d.names v b a n m o.0)) (
          x,
          lies _ g f v n y.0 h.1 k.0 o.1 all c (no_element (type_in n) (from_ir false (type_in n) o.0)),
          reads _ g f v n y.0 h.1 k.0 o.1 all c,
          reads _ (type_in n ∷ g) (push x f) b m y.1 h.2 k.1 o.2 (paired g v n all y.0 k.0, all) (lies_as x al (type_in n) (serves_itself al (type_in n)), c),
        )
    reads s g f _ _ y h k o all c = absurd o

    -- and a term in writing position, which goes where its vectors have
    -- to, whole where it is in order
    written : (s : Around) (g : List PlainTy) (f : ℕ → Lie) (w : Lie) (t : Tree) (n : Annotation) → Annotates d g t n → AllUnbroken s t n → CopiesArrays t n → IsStaged Written t n → Every PairsNumbers g → Lying s.aligned g f
        → s.is_written ≡ true → (is_in_order s ≡ true → w ≡ Whole) → Serves w (wanted (type_in n)) → WritesFours f w (lower d.names Written t n)
    written s g f w (tree.Variable v) (Leaf a) y h k o all c i e q = stores w a (paired g (tree.Variable v) (Leaf a) all y k) q
    written s g f w (tree.Number v) (Leaf a) y h k o all c i e q = stores w a (paired g (tree.Number v) (Leaf a) all y k) q
    written s g f w (tree.Unary (unary.Div j) t) (One a n) y h k o all c i e q = stores w a (paired g (tree.Unary (unary.Div j) t) (One a n) all y k) q
    written s g f w (tree.Unary (unary.Rem j) t) (One a n) y h k o all c i e q = stores w a (paired g (tree.Unary (unary.Rem j) t) (One a n) all y k) q
    written s g f w (tree.Unary unary.First t) (One a n) y h k o all c i e q = stores w a (paired g (tree.Unary unary.First t) (One a n) all y k) q
    written s g f w (tree.Unary unary.Second t) (One a n) y h k o all c i e q = stores w a (paired g (tree.Unary unary.Second t) (One a n) all y k) q
    written s g f w (tree.Unary (unary.Layout laid.Join) t) (One a n) y h k o all c i e q =
        let r = y.1 in
        let z = wanted r.0 in
        let x = is_in_order s in
        let v = best x (deeper z) in
        let own = subst (λ b. Serves w (wanted b)) r.4 q in (
          v,
          best_serves x w (deeper z) e own,
          written (passed s laid.Join a) g f (written_lie {A = List Monomial} (Join []) v) t n y.0 h.1 k.1 o all c (passes s.is_written (is_element a) i (of_layout d.names laid.Join (type_in n) a r))
              (λ p. ap (written_lie {A = List Monomial} (Join [])) (best_whole x (deeper z) (order_passed s.is_written (is_element a) s.is_reordered (is_private s.space) p)))
              (subst (λ b. Serves (written_lie {A = List Monomial} (Join []) v) (wanted b)) (sym r.3) (join_goes x z (in_parts r.0) [])),
        )
    written s g f w (tree.Unary (unary.Layout (laid.Split fs)) t) (One a n) y h k o all c i e q =
        let r = y.1 in
        let z = wanted r.0 in
        let x = is_in_order s in
        let v = best x (deeper (deeper z)) in
        let own = subst (λ b. Serves w (wanted b)) r.4 q in (
          v,
          best_serves x w (deeper (deeper z)) e own,
          written (passed s (laid.Split fs) a) g f (written_lie {A = List Monomial} (Split []) v) t n y.0 h.1 k.1 o all c (passes s.is_written (is_element a) i (of_layout d.names (laid.Split fs) (type_in n) a r))
              (λ p. ap (written_lie {A = List Monomial} (Split [])) (best_whole x (deeper (deeper z)) (order_passed s.is_written (is_element a) s.is_reordered (is_private s.space) p)))
              (subst (λ b. Serves (written_lie {A = List Monomial} (Split []) v) (wanted b)) (sym r.2) (split_goes x z (in_parts r.0) [])),
        )
    written s g f w (tree.Unary (unary.Layout laid.Transpose) t) (One a n) y h k o all c i e q =
        let r = y.1 in
        let z = wanted r.0 in (
          deeper (deeper z),
          subst (λ b. Serves w (wanted b)) r.4 q,
          written (passed s laid.Transpose a) g f (written_lie {A = List Monomial} Transpose (deeper (deeper z))) t n y.0 h.1 k.1 o all c (passes s.is_written (is_element a) i (of_layout d.names laid.Transpose (type_in n) a r))
              (λ p. order_lost (s.is_written && not (is_element a)) s.is_reordered _ p)
              (subst (λ b. Serves (written_lie {A = List Monomial} Transpose (deeper (deeper z))) (wanted b)) (sym r.3) (transposed_read z (in_parts r.0))),
        )
    written s g f w (tree.Unary (unary.Layout laid.Reverse) t) (One a n) y h k o all c i e q =
        let r = y.1 in
        let z = wanted r.0 in (
          deeper z,
          subst (λ b. Serves w (wanted b)) r.3 q,
          written (passed s laid.Reverse a) g f (written_lie {A = List Monomial} (Reverse []) (deeper z)) t n y.0 h.1 k.1 o all c (passes s.is_written (is_element a) i (of_layout d.names laid.Reverse (type_in n) a r))
              (λ p. order_lost (s.is_written && not (is_element a)) s.is_reordered _ p)
              (subst (λ b. Serves (written_lie {A = List Monomial} (Reverse []) (deeper z)) (wanted b)) (sym r.2) (reversed_read z (in_parts r.0) [])),
        )
    written s g f w (tree.Unary (unary.Layout (laid.Stride fs)) t) (One a n) y h k o all c i e q =
        let r = y.1 in
        let z = wanted r.0 in
        let p = in_parts r.0 in (
          deeper z,
          subst (λ b. Serves w (wanted b)) r.4 q,
          (
            deeper (deeper z),
            split_read z p [],
            (
              deeper (deeper z),
              transposed_read z p,
              written (passed s (laid.Stride fs) a) g f (written_lie {A = List Monomial} (Split []) (deeper (deeper z))) t n y.0 h.1 k.1 o all c (passes s.is_written (is_element a) i (of_layout d.names (laid.Stride fs) (type_in n) a r))
                  (λ p. order_lost (s.is_written && not (is_element a)) s.is_reordered _ p)
                  (subst (λ b. Serves (written_lie {A = List Monomial} (Split []) (deeper (deeper z))) (wanted b)) (sym r.2) (join_read z p [])),
            ),
          ),
        )
    written s g f w (tree.Unary (unary.Layout laid.AsVector) t) (One a n) y h k o all c i e q = refused s.is_written (is_element a) (h.0 N10) i (of_layout d.names laid.AsVector (type_in n) a y.1)
    written s g f w (tree.Unary (unary.Layout laid.AsScalar) t) (One a n) y h k o all c i e q =
        let whole = e (told_order (is_in_order s) (h.0 N15)) in (
          Whole,
          subst (λ z. Serves z Whole) (sym whole) tt,
          written (passed s laid.AsScalar a) g f Whole t n y.0 h.1 k.1 o all c (passes s.is_written (is_element a) i (of_layout d.names laid.AsScalar (type_in n) a y.1)) (λ p. refl) (whole_serves (type_in n)),
        )
    written s g f w (tree.Unary (unary.Slide j l) t) (One a n) y h k o all c i e q = refused s.is_written (is_element a) (h.0 N10) i (moved is_element false a (types.ArrayOf _ _) y.1.6 refl)
    written s g f w (tree.Unary (unary.Pad j l) t) (One a n) y h k o all c i e q = refused s.is_written (is_element a) (h.0 N10) i (moved is_element false a (types.ArrayOf _ _) y.1.3 refl)
    written s g f w (tree.Binary (binary.Operator r) t u) (Two a n m) y h k o all c i e q = stores w a (paired g (tree.Binary (binary.Operator r) t u) (Two a n m) all y k) q
    written s g f w (tree.Binary binary.Pair t u) (Two a n m) y h k o all c i e q = stores w a (paired g (tree.Binary binary.Pair t u) (Two a n m) all y k) q
    written s g f w (tree.Select t u x) (Three a n m l) y h k o all c i e q = stores w a (paired g (tree.Select t u x) (Three a n m l) all y k) q
    written s g f w (tree.Let v b) (Two a n m) y h k o all c i e q =
        let al = is_aligned s.aligned v in
        let x = lie_of al (type_in n) in
        let own : PairsNumbers (type_in n) × Every PairsNumbers g = (paired g v n all y.0 k.0, all) in
        let_writes d f w v b a n m (stores w a (paired g (tree.Let v b) (Two a n m) all y k) q)
        (λ p r. written _ (type_in n ∷ g) (push (held_lie (element_ty (type_in n))) f) w b m y.1 h.2 k.1 (body_staged v b a n m o p) own (held_as al (type_in n) own.0 (from_ir true (type_in n) r), c) (passes s.is_written (is_element a) i (from_ir false a p)) (λ z. e (order_kept s.is_written (is_element a) s.is_reordered (is_private s.space) z)) (subst (λ z. Serves w (wanted z)) y.2 q))
        (λ p r.
        let parts = let_parts v b a n m o r in (
          x,
          lies _ g f v n y.0 h.1 k.0 parts.1 all c (no_element (type_in n) (from_ir false (type_in n) r)),
          reads _ g f v n y.0 h.1 k.0 parts.1 all c,
          written _ (type_in n ∷ g) (push x f) w b m y.1 h.2 k.1 parts.2 own (lies_as x al (type_in n) (serves_itself al (type_in n)), c) (passes s.is_written (is_element a) i (from_ir false a p)) (λ z. e (order_kept s.is_written (is_element a) s.is_reordered (is_private s.space) z)) (subst (λ z. Serves w (wanted z)) y.2 q),
        ))
    written s g f w (tree.Map j xs b) (Two a n m) y h k o all c i e q =
        let al = is_aligned s.aligned xs in
        let x = lie_of al (type_in n) in
        let p = subst PairsNumbers y.3 (paired g xs n all y.2 k.0) in
        let bound = bound_lie (named 0 (element_of (type_in n)) [] b) (element_lie x) in (
          x,
          lies _ g f xs n y.2 h.1 k.0 o.0 all c (subst IsArgument (sym y.3) tt),
          reads _ g f xs n y.2 h.1 k.0 o.0 all c,
          loads_turn (type_in n) y.0 y.1 y.3 al b p,
          written (map_body s j xs b a) (y.0 ∷ g) (push bound f) (element_lie w) b m y.4 h.2 k.1 o.1 (p, all)
              (subst (λ z. Lying z (y.0 ∷ g) (push bound f)) (sym (body_aligned s j xs b a)) (bound_turn (type_in n) y.0 y.1 y.3 al b, c))
              (body_written s j xs b a) (λ z. ap element_lie (e (body_order s j xs b a i z))) (element_serves w (type_in m) (subst (λ z. Serves w (wanted z)) y.5 q)),
        )
    written s g f w (tree.Fold j xs z b) (Three a n m l) y h k o all c i e q =
        let al = is_aligned s.aligned xs in (
          lie_of al (type_in n),
          lies _ g f xs n y.2 h.1 k.0 o.0 all c (subst IsArgument (sym y.3) tt),
          reads _ g f xs n y.2 h.1 k.0 o.0 all c,
          loads_turn (type_in n) y.0 y.1 y.3 al b (subst PairsNumbers y.3 (paired g xs n all y.2 k.0)),
          stores (element_lie w) (type_in m) (paired g z m all y.4 k.1) (element_serves w (type_in m) (subst (λ z. Serves w (wanted z)) y.8 q)),
        )
    written s g f w _ _ y h k o all c i e q = absurd o

-- the whole goes to the outputs, whole
pub keeps_fours : (d : Declared) → Every PairsNumbers d.inputs → (t : Tree) (n : Annotation) → Annotates d [] t n → AllUnbroken (at_root t) t n → CopiesArrays t n → IsStaged Written t n → KeepsFours (lower d.names Written t n)
keeps_fours d inputs t n y h k o = written d inputs (at_root t) [] no_lie Whole t n y h k o tt tt refl (λ e. refl) (whole_serves (type_in n))
