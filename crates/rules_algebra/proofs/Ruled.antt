-- Each rule keeps type, copies and value.
use Rattle.std.proofs.Common.{◌≡◌, ◌≤◌, arith, zero, [], ◌∷◌, ◌++◌, Bool, true, false, Some, List, refl, sym, ap, ◌∙◌, subst}
use Rattle.std.specs.Prelude.{Result, Ok, Err, IfOk, if◌then◌else◌}
use Rattle.size_arith.specs.declared.poly.Monomial.{Monomial}
use Rattle.size_arith.specs.Polynomial.{of_monomial, times, quotient, degree, AllLow, IsPoly}
use Rattle.size_arith.specs.Decisions.{all_divide, is_same, is_shown}
use Rattle.size_arith.specs.Shown.{ShownAtLeast}
use Rattle.size_arith.proofs.Decisions.{decides_same, decides_shown, decides_all_divide}
use Rattle.size_arith.proofs.Quotients.{poly-quotient}
use Rattle.std.proofs.lemmas.Bool.{and_parts}
use Rattle.lift_tree.specs.declared.length.Factor.{Factor}
use Rattle.lift_tree.specs.declared.term.Term.{Term}
use Rattle.lift_tree.specs.declared.term.UnaryForm.{UnaryForm}
use Rattle.lift_tree.specs.declared.term.MapKind.TheVariants.{Plain}
use Rattle.lift_tree.specs.declared.term.FoldKind.TheVariants as fold
use Rattle.lift_tree.specs.declared.layout.Layout.TheVariants.{Join, Split, Transpose, Reverse, Stride}
use Rattle.lift_tree.specs.declared.term.UnaryForm.TheVariants.{Layout, Pad}
use Rattle.lift_tree.specs.Tree.{Tree, Variable, Unary, Let, Map, Fold, tree_of}
use Rattle.lift_tree.specs.Renumbering.{substitute, mentions}
use Rattle.lift_tree.specs.WorkedOut.{product_of}
use Rattle.lift_tree.specs.Types.{PlainTy, U32, U32x4, PairOf, ArrayOf, is_array}
use Rattle.lift_tree.specs.Typing.{Declared, Types, UnaryRow}
use Rattle.lift_tree.specs.Annotations.{Annotation, Leaf, One, Two, Three, Annotates, type_in}
use Rattle.lift_tree.proofs.Annotated.{annotated_is_typed}
use Rattle.rewriting.specs.declared.refused.Condition.TheVariants.{Same, Length, Mentions, Array}
use Rattle.rewriting.specs.declared.refused.Refused.{Refused}
use Rattle.rewriting.specs.Answers.{Answer, Becomes, NoSide, IsAnswer}
use Rattle.rewriting.specs.Around.{Around, IsAround}
use Rattle.rewriting.specs.Keeps.{Keeps, KeepsIn}
use Rattle.rules_algebra.specs.Fusing.{fuse_map, fuse_fold}
use Rattle.rules_algebra.specs.Inlining.{let_inline, copy}
use Rattle.rules_algebra.specs.Layouts.{join_split, split_join, transpose_transpose, map_join, map_split, map_transpose, without, row_length, same_lengths, child, PiecesHaveTheirLength}
use Rattle.rules_algebra.specs.Padding.{pad_map, map_pad}
use Rattle.rules_algebra.specs.Strides.{reverse_reverse, map_reverse, map_stride, is_length, stride_stride, has_quotient, stride_layout}
use Rattle.rules_algebra.specs.Shapes.{HasPolynomial}
use Rattle.rules_algebra.proofs.Kept.{fuse_map_keeps, fuse_fold_keeps, let_inline_keeps, map_join_keeps, map_split_keeps, map_transpose_keeps, pad_map_keeps, map_pad_keeps, transpose_transpose_keeps, copy_keeps}
use Rattle.rules_algebra.proofs.Split.{join_split_keeps, split_join_keeps}
use Rattle.rules_algebra.proofs.Strided.{reverse_reverse_keeps, map_reverse_keeps, map_stride_keeps, stride_stride_keeps, stride_layout_keeps}

low_of_poly : (p : List Monomial) → IsPoly p → AllLow 4 p
low_of_poly p h = go p h.degree
  where
    go : (p : List Monomial) → degree p ≤ 4 → AllLow 4 p
    go [] e = tt
    go (m ∷ p) e = (omega arith, go p (omega arith))

became : (t u : Tree) → Becomes t ≡ Becomes u → t ≡ u
became t u e = cc

-- what keeps the term's type, copies and value, where it is what the rule gives
kept : (d : Declared) (g : List PlainTy) (t u v : Tree) → Becomes u ≡ Becomes v → Keeps d g t u → Keeps d g t v
kept d g t u v e k = subst (Keeps d g t) (became u v e) k

whole : (d : Declared) (a : Around) (t : Tree) → IsAround d a t → Types d a.binders t (type_in a.types)
whole d a t h = annotated_is_typed d a.binders t a.types h.nodes

fuse_map_rule : (a : Around) (t u : Tree) → fuse_map t ≡ Becomes u → KeepsIn a t u
fuse_map_rule a (Map Plain (Map Plain xs b) f) u e d h = kept d a.binders _ _ u e (fuse_map_keeps d a.binders xs b f)
fuse_map_rule a _ u e d h = cc

fuse_fold_rule : (a : Around) (t u : Tree) → fuse_fold t ≡ Becomes u → KeepsIn a t u
fuse_fold_rule a (Fold fold.Plain (Map Plain xs b) s f) u e d h = kept d a.binders _ _ u e (fuse_fold_keeps d a.binders xs b s f)
fuse_fold_rule a _ u e d h = cc

let_inline_rule : (a : Around) (t u : Tree) → let_inline t ≡ Becomes u → KeepsIn a t u
let_inline_rule a (Let v b) u e d h = kept d a.binders (Let v b) (substitute b v) u e (let_inline_keeps d a.binders v b)
let_inline_rule a _ u e d h = cc

copy_rule : (a : Around) (t u : Tree) → copy a t ≡ Becomes u → KeepsIn a t u
copy_rule a t u e d h = go (type_in a.types) (whole d a t h) e
  where
    go : (b : PlainTy) → Types d a.binders t b → (if is_array b then Becomes (Map Plain t (Variable 0)) else NoSide Array) ≡ Becomes u → Keeps d a.binders t u
    go U32 ty e = cc
    go U32x4 ty e = cc
    go (PairOf x y) ty e = cc
    go (ArrayOf x n) ty e = kept d a.binders t (Map Plain t (Variable 0)) u e (copy_keeps d a.binders h.declared h.binders t x n ty)

transpose_transpose_rule : (a : Around) (t u : Tree) → transpose_transpose t ≡ Becomes u → KeepsIn a t u
transpose_transpose_rule a (Unary (Layout Transpose) (Unary (Layout Transpose) xs)) u e d h = kept d a.binders (Unary (Layout Transpose) (Unary (Layout Transpose) xs)) xs u e (transpose_transpose_keeps d a.binders h.declared h.binders xs (type_in a.types) (whole d a _ h))
transpose_transpose_rule a _ u e d h = cc

map_join_rule : (a : Around) (t u : Tree) → map_join t ≡ Becomes u → KeepsIn a t u
map_join_rule a (Map Plain (Unary (Layout Join) xs) f) u e d h = kept d a.binders _ _ u e (map_join_keeps d a.binders h.declared h.binders xs f)
map_join_rule a _ u e d h = cc

map_split_rule : (a : Around) (t u : Tree) → map_split t ≡ Becomes u → KeepsIn a t u
map_split_rule a (Map Plain (Unary (Layout (Split fs)) xs) (Map Plain (Variable zero) f)) u e d h = go (mentions 1 f) refl e
  where
    go : (b : Bool) → mentions 1 f ≡ b → (if b then NoSide Mentions else Becomes (Unary (Layout (Split fs)) (Map Plain xs (without 1 f)))) ≡ Becomes u → Keeps d a.binders (Map Plain (Unary (Layout (Split fs)) xs) (Map Plain (Variable zero) f)) u
    go true m e = cc
    go false m e = kept d a.binders _ _ u e (map_split_keeps d a.binders h.declared h.binders xs f fs m)
map_split_rule a _ u e d h = cc

map_transpose_rule : (a : Around) (t u : Tree) → map_transpose t ≡ Becomes u → KeepsIn a t u
map_transpose_rule a (Map Plain (Unary (Layout Transpose) xs) (Map Plain (Variable zero) f)) u e d h = go (mentions 1 f) refl e
  where
    go : (b : Bool) → mentions 1 f ≡ b → (if b then NoSide Mentions else Becomes (Unary (Layout Transpose) (Map Plain xs (Map Plain (Variable 0) f)))) ≡ Becomes u → Keeps d a.binders (Map Plain (Unary (Layout Transpose) xs) (Map Plain (Variable zero) f)) u
    go true m e = cc
    go false m e = kept d a.binders _ _ u e (map_transpose_keeps d a.binders h.declared h.binders xs f (type_in a.types) m (whole d a _ h))
map_transpose_rule a _ u e d h = cc

pad_map_rule : (a : Around) (t u : Tree) → pad_map t ≡ Becomes u → KeepsIn a t u
pad_map_rule a (Unary (Pad l k) (Map Plain xs f)) u e d h = kept d a.binders _ _ u e (pad_map_keeps d a.binders h.declared h.binders l k xs f (type_in a.types) (whole d a _ h))
pad_map_rule a _ u e d h = cc

map_pad_rule : (a : Around) (t u : Tree) → map_pad t ≡ Becomes u → KeepsIn a t u
map_pad_rule a (Map Plain (Unary (Pad l k) xs) f) u e d h = kept d a.binders _ _ u e (map_pad_keeps d a.binders h.declared h.binders l k xs f (type_in a.types) (whole d a _ h))
map_pad_rule a _ u e d h = cc

reverse_reverse_rule : (a : Around) (t u : Tree) → reverse_reverse t ≡ Becomes u → KeepsIn a t u
reverse_reverse_rule a (Unary (Layout Reverse) (Unary (Layout Reverse) xs)) u e d h = kept d a.binders (Unary (Layout Reverse) (Unary (Layout Reverse) xs)) xs u e (reverse_reverse_keeps d a.binders h.declared h.binders xs (type_in a.types) (whole d a _ h))
reverse_reverse_rule a _ u e d h = cc

map_reverse_rule : (a : Around) (t u : Tree) → map_reverse t ≡ Becomes u → KeepsIn a t u
map_reverse_rule a (Map Plain (Unary (Layout Reverse) xs) f) u e d h = kept d a.binders _ _ u e (map_reverse_keeps d a.binders xs f)
map_reverse_rule a _ u e d h = cc

map_stride_rule : (a : Around) (t u : Tree) → map_stride t ≡ Becomes u → KeepsIn a t u
map_stride_rule a (Map Plain (Unary (Layout (Stride fs)) xs) f) u e d h = kept d a.binders _ _ u e (map_stride_keeps d a.binders h.declared h.binders xs f fs (type_in a.types) (whole d a _ h))
map_stride_rule a _ u e d h = cc

-- ---- the types of nodes below
below : (d : Declared) (g : List PlainTy) (f : UnaryForm) (t : Tree) (n : Annotation) → Annotates d g (Unary f t) n → Annotates d g t (child n) × UnaryRow d.names f (type_in (child n)) (type_in n)
below d g f t (Leaf a) h = absurd h
below d g f t (One a n) h = h
below d g f t (Two a n m) h = absurd h
below d g f t (Three a n m k) h = absurd h

-- ---- join over split
pub join_split_rule : (a : Around) (t u : Tree) → join_split t ≡ Becomes u → HasPolynomial (type_in (child (child a.types))) → KeepsIn a t u
join_split_rule a (Unary (Layout Join) (Unary (Layout (Split fs)) xs)) u e p d h =
    let first = below d a.binders (Layout Join) (Unary (Layout (Split fs)) xs) a.types h.nodes in
    let second = below d a.binders (Layout (Split fs)) xs (child a.types) first.0 in
    kept d a.binders (Unary (Layout Join) (Unary (Layout (Split fs)) xs)) xs u e
    (join_split_keeps d a.binders h.declared h.binders xs fs (type_in a.types) (type_in (child (child a.types))) (whole d a _ h) (annotated_is_typed d a.binders xs (child (child a.types)) second.0) p)
join_split_rule a _ u e p d h = cc

-- ---- split over join
record SplitOfJoin (d : Declared) (a : Around) (fs : List Factor) (xs : Tree) : Type 0 where
  x : PlainTy
  m : List Monomial
  n : List Monomial
  q : List Monomial
  rows : type_in (child (child a.types)) ≡ ArrayOf (ArrayOf x m) n
  pieces : type_in a.types ≡ ArrayOf (ArrayOf x (of_monomial (product_of a.names fs))) q
  typed : Types d a.binders xs (type_in (child (child a.types)))

array_same : (x y : PlainTy) (m n : List Monomial) → ArrayOf x m ≡ ArrayOf y n → x ≡ y
array_same x y m n e = cc

split_of_join : (d : Declared) (a : Around) (fs : List Factor) (xs : Tree) → IsAround d a (Unary (Layout (Split fs)) (Unary (Layout Join) xs)) → SplitOfJoin d a fs xs
split_of_join d a fs xs h =
    let first = below d a.binders (Layout (Split fs)) (Unary (Layout Join) xs) a.types h.nodes in
    let second = below d a.binders (Layout Join) xs (child a.types) first.0 in
    let s = first.1 in
    let r = second.1 in
    let e = array_same s.0 r.0 s.1 (times r.2 r.1) (sym s.2 ∙ r.4) in
    record {
      x = r.0;
      m = r.1;
      n = r.2;
      q = quotient (product_of d.names fs) s.1;
      rows = r.3;
      pieces = s.4
          ∙ ap (λ z. ArrayOf (ArrayOf z (of_monomial (product_of d.names fs))) (quotient (product_of d.names fs) s.1)) e
          ∙ ap (λ z. ArrayOf (ArrayOf r.0 (of_monomial (product_of z fs))) (quotient (product_of d.names fs) s.1)) (sym h.names);
      typed = annotated_is_typed d a.binders xs (child (child a.types)) second.0;
    }

pub pieces_have_their_length : PiecesHaveTheirLength
pieces_have_their_length d a fs xs h =
    let s = (below d a.binders (Layout (Split fs)) xs a.types h.nodes).1 in
    ap row_length s.4 ∙ ap (λ z. Some (of_monomial (product_of z fs))) (sym h.names)

pub split_join_rule : (a : Around) (t u : Tree) → split_join a t ≡ Becomes u → HasPolynomial (type_in (child (child a.types))) → KeepsIn a t u
split_join_rule a (Unary (Layout (Split fs)) (Unary (Layout Join) xs)) u e p d h =
    go (split_of_join d a fs xs h) (same_lengths (row_length (type_in (child (child a.types)))) (row_length (type_in a.types))) refl e
  where
    go : (s : SplitOfJoin d a fs xs) (b : Bool) → same_lengths (row_length (type_in (child (child a.types)))) (row_length (type_in a.types)) ≡ b → (if b then Becomes xs else NoSide Same) ≡ Becomes u → Keeps d a.binders (Unary (Layout (Split fs)) (Unary (Layout Join) xs)) u
    go s true m e =
        let equal : is_same s.m (of_monomial (product_of a.names fs)) ≡ true =
        sym (ap (λ z. same_lengths (row_length z) (row_length (type_in a.types))) s.rows ∙ ap (λ z. same_lengths (Some s.m) (row_length z)) s.pieces) ∙ m in
        let i = (decides_same s.m (of_monomial (product_of a.names fs))).0 equal ∙ ap (λ z. of_monomial (product_of z fs)) h.names in
        kept d a.binders (Unary (Layout (Split fs)) (Unary (Layout Join) xs)) xs u e
        (split_join_keeps d a.binders h.declared h.binders xs fs (type_in a.types) s.x s.m s.n (whole d a _ h) (subst (Types d a.binders xs) s.rows s.typed) (subst HasPolynomial s.rows p) i)
    go s false m e = cc
split_join_rule a _ u e p d h = cc

-- ---- stride over stride
stride_stride_rule : (a : Around) (t u : Tree) → stride_stride a t ≡ Becomes u → KeepsIn a t u
stride_stride_rule a (Unary (Layout (Stride ks)) (Unary (Layout (Stride ms)) xs)) u e d h = go (type_in a.types) (whole d a _ h) (is_length a.names (ks ++ ms) (type_in a.types)) refl e
  where
    go : (c : PlainTy) → Types d a.binders (Unary (Layout (Stride ks)) (Unary (Layout (Stride ms)) xs)) c → (b : Bool) → is_length a.names (ks ++ ms) c ≡ b → (if b then Becomes xs else NoSide Same) ≡ Becomes u
        → Keeps d a.binders (Unary (Layout (Stride ks)) (Unary (Layout (Stride ms)) xs)) u
    go c ty false m e = cc
    go U32 ty true m e = cc
    go U32x4 ty true m e = cc
    go (PairOf y z) ty true m e = cc
    go (ArrayOf y n) ty true m e =
        let same = ap (λ z. of_monomial (product_of z (ks ++ ms))) (sym h.names) ∙ (decides_same (of_monomial (product_of a.names (ks ++ ms))) n).0 m in
        kept d a.binders (Unary (Layout (Stride ks)) (Unary (Layout (Stride ms)) xs)) xs u e
        (stride_stride_keeps d a.binders h.declared h.binders xs ks ms (ArrayOf y n) y n ty refl same)
stride_stride_rule a _ u e d h = cc

-- ---- a stride's layouts
stride_layout_rule : (a : Around) (t u : Tree) → stride_layout a t ≡ Becomes u → HasPolynomial (type_in a.types) → KeepsIn a t u
stride_layout_rule a (Unary (Layout (Stride fs)) xs) u e p d h = go (type_in a.types) (whole d a _ h) p (has_quotient a.names (product_of a.names fs) (type_in a.types)) refl e
  where
    go : (c : PlainTy) → Types d a.binders (Unary (Layout (Stride fs)) xs) c → HasPolynomial c → (b : Bool) → has_quotient a.names (product_of a.names fs) c ≡ b
        → (if b then Becomes (Unary (Layout Join) (Unary (Layout Transpose) (Unary (Layout (Split fs)) xs))) else NoSide Length) ≡ Becomes u → Keeps d a.binders (Unary (Layout (Stride fs)) xs) u
    go c ty p false m e = cc
    go U32 ty p true m e = cc
    go U32x4 ty p true m e = cc
    go (PairOf y z) ty p true m e = cc
    go (ArrayOf y n) ty p true m e =
        let k = product_of a.names fs in
        let both = and_parts (all_divide k n) (is_shown 1 a.names (quotient k n)) m in
        let d_all = (decides_all_divide k n).0 both.0 in
        let low = low_of_poly (quotient k n) (poly-quotient k n d_all p) in
        let shown : ShownAtLeast 1 a.names (quotient k n) = (decides_shown 1 a.names (quotient k n) low).0 both.1 in
        let there : ShownAtLeast 1 d.names (quotient (product_of d.names fs) n) = subst (λ z. ShownAtLeast 1 z (quotient (product_of z fs) n)) h.names shown in
        kept d a.binders (Unary (Layout (Stride fs)) xs) (Unary (Layout Join) (Unary (Layout Transpose) (Unary (Layout (Split fs)) xs))) u e
        (stride_layout_keeps d a.binders h.declared h.binders xs fs (ArrayOf y n) y n ty refl p there)
stride_layout_rule a _ u e p d h = cc

-- ---- the calls' answers
pub result_keeps : (a : Around) (said : Answer) (t : Term) (r : Result Term Refused) → ((u : Tree) → said ≡ Becomes u → KeepsIn a (tree_of t) u) → IsAnswer said t r → IfOk r (λ u. KeepsIn a (tree_of t) (tree_of u))
result_keeps a said t (Ok u) k h = k (tree_of u) h
result_keeps a said t (Err e) k h = tt

module _ (a : Around) (t : Term) (r : Result Term Refused) where
  pub fuse_map_result : IsAnswer (fuse_map (tree_of t)) t r → IfOk r (λ u. KeepsIn a (tree_of t) (tree_of u))
  fuse_map_result h = result_keeps a _ t r (fuse_map_rule a (tree_of t)) h

  pub fuse_fold_result : IsAnswer (fuse_fold (tree_of t)) t r → IfOk r (λ u. KeepsIn a (tree_of t) (tree_of u))
  fuse_fold_result h = result_keeps a _ t r (fuse_fold_rule a (tree_of t)) h

  pub transpose_transpose_result : IsAnswer (transpose_transpose (tree_of t)) t r → IfOk r (λ u. KeepsIn a (tree_of t) (tree_of u))
  transpose_transpose_result h = result_keeps a _ t r (transpose_transpose_rule a (tree_of t)) h

  pub map_join_result : IsAnswer (map_join (tree_of t)) t r → IfOk r (λ u. KeepsIn a (tree_of t) (tree_of u))
  map_join_result h = result_keeps a _ t r (map_join_rule a (tree_of t)) h

  pub map_split_result : IsAnswer (map_split (tree_of t)) t r → IfOk r (λ u. KeepsIn a (tree_of t) (tree_of u))
  map_split_result h = result_keeps a _ t r (map_split_rule a (tree_of t)) h

  pub map_transpose_result : IsAnswer (map_transpose (tree_of t)) t r → IfOk r (λ u. KeepsIn a (tree_of t) (tree_of u))
  map_transpose_result h = result_keeps a _ t r (map_transpose_rule a (tree_of t)) h

  pub pad_map_result : IsAnswer (pad_map (tree_of t)) t r → IfOk r (λ u. KeepsIn a (tree_of t) (tree_of u))
  pad_map_result h = result_keeps a _ t r (pad_map_rule a (tree_of t)) h

  pub map_pad_result : IsAnswer (map_pad (tree_of t)) t r → IfOk r (λ u. KeepsIn a (tree_of t) (tree_of u))
  map_pad_result h = result_keeps a _ t r (map_pad_rule a (tree_of t)) h

  pub let_inline_result : IsAnswer (let_inline (tree_of t)) t r → IfOk r (λ u. KeepsIn a (tree_of t) (tree_of u))
  let_inline_result h = result_keeps a _ t r (let_inline_rule a (tree_of t)) h

  pub copy_result : IsAnswer (copy a (tree_of t)) t r → IfOk r (λ u. KeepsIn a (tree_of t) (tree_of u))
  copy_result h = result_keeps a _ t r (copy_rule a (tree_of t)) h

  pub reverse_reverse_result : IsAnswer (reverse_reverse (tree_of t)) t r → IfOk r (λ u. KeepsIn a (tree_of t) (tree_of u))
  reverse_reverse_result h = result_keeps a _ t r (reverse_reverse_rule a (tree_of t)) h

  pub map_reverse_result : IsAnswer (map_reverse (tree_of t)) t r → IfOk r (λ u. KeepsIn a (tree_of t) (tree_of u))
  map_reverse_result h = result_keeps a _ t r (map_reverse_rule a (tree_of t)) h

  pub map_stride_result : IsAnswer (map_stride (tree_of t)) t r → IfOk r (λ u. KeepsIn a (tree_of t) (tree_of u))
  map_stride_result h = result_keeps a _ t r (map_stride_rule a (tree_of t)) h

  pub stride_stride_result : IsAnswer (stride_stride a (tree_of t)) t r → IfOk r (λ u. KeepsIn a (tree_of t) (tree_of u))
  stride_stride_result h = result_keeps a _ t r (stride_stride_rule a (tree_of t)) h

  pub stride_layout_result : IsAnswer (stride_layout a (tree_of t)) t r → HasPolynomial (type_in a.types) → IfOk r (λ u. KeepsIn a (tree_of t) (tree_of u))
  stride_layout_result h p = result_keeps a _ t r (λ u e. stride_layout_rule a (tree_of t) u e p) h
