-- Rules of the nest, at each node of a term.
use Rattle.std.proofs.Common.{◌≡◌, ℕ, Bool, true, false, List, [], ◌∷◌, ◌++◌, refl, sym, subst}
use Rattle.std.specs.Prelude.{◌&&◌, ◌||◌, not, Option, Some, None, if◌then◌else◌}
use Rattle.size_arith.specs.declared.names.Name.{Name}
use Rattle.lift_tree.specs.declared.layout.Layout as layout
use Rattle.lift_tree.specs.declared.layout.Layout.TheVariants as laid
use Rattle.lift_tree.specs.declared.term.UnaryForm.TheVariants as unary
use Rattle.lift_tree.specs.declared.term.Operator.{Operator}
use Rattle.lift_tree.specs.declared.term.Level.{Level}
use Rattle.lift_tree.specs.declared.term.MapKind.{MapKind}
use Rattle.lift_tree.specs.Tree as tree
use Rattle.lift_tree.specs.Tree.{Tree}
use Rattle.lift_tree.specs.Types as types
use Rattle.lift_tree.specs.Types.{PlainTy, is_array, is_element}
use Rattle.lift_tree.specs.Lists.{Every}
use Rattle.lift_tree.specs.Typing.{LayoutRow, IsNumeric, OperatorRow}
use Rattle.lift_tree.specs.Annotations.{Annotation, Leaf, One, Two, Three}
use Rattle.lift_tree.proofs.Layouts.{layout_operand, layout_result}
use Rattle.lift_ir.specs.Lowerable.{HoldsNoScalar}
use Rattle.lowered_tree.specs.declared.kind.NestKind.{NestKind}
use Rattle.lowered_tree.specs.declared.kind.NestKind.TheVariants.{Task}
use Rattle.lowered_tree.specs.declared.rule.NestRule.TheVariants.{N10}
use Rattle.lowered_tree.specs.Forms.{is_written_through}
use Rattle.lowered_tree.specs.Around.{Around, awaited_through, body_of, map_body, operand, passed, laid_out}
use Rattle.lowered_tree.specs.Pairs.{pair_begun, is_awaited}
use Rattle.lowered_tree.specs.Nest.{Site, sites, under, in_child, IsUnbroken}
use Rattle.nest_premises.specs.Unbroken.{IsUnbrokenAt, AllUnbroken}

-- ---- Booleans

-- what a rule asks besides isn't so
pub spared : (x y : Bool) → (x && y) ≡ false → x ≡ true → y ≡ false
spared true y e h = e
spared false y e h = absurd (cc)

pub true_is_not_false : {A : Type 0} (x : Bool) → x ≡ true → x ≡ false → A
true_is_not_false true e h = absurd (cc)
true_is_not_false false e h = absurd (cc)

-- what a rule asks for isn't so where the rest is
pub spares : (x y : Bool) → (x && y) ≡ false → y ≡ true → x ≡ false
spares true true e h = absurd (cc)
spares true false e h = absurd (cc)
spares false y e h = refl

-- both that a rule asks for are so
pub clash : {A : Type 0} (x y : Bool) → (x && y) ≡ false → x ≡ true → y ≡ true → A
clash true true e h k = absurd (cc)
clash true false e h k = absurd (cc)
clash false y e h k = absurd (cc)

-- one that a rule forbids is so
pub forbidden : {A : Type 0} (x y : Bool) → (x || y) ≡ false → x ≡ true → A
forbidden true y e h = absurd (cc)
forbidden false y e h = absurd (cc)

-- outside every group's body
pub outside : (in_group in_local in_rows : Bool) → in_group ≡ false → (not in_group || in_local || in_rows) ≡ true
outside true l r e = absurd (cc)
outside false l r e = refl

-- ---- what is around a node

-- a map's body is in writing position
pub body_written : (s : Around) (k : MapKind) (xs b : Tree) (a : PlainTy) → (map_body s k xs b a).is_written ≡ true
body_written s k xs b a = go (pair_begun k b)
  where
    go : (due : Option Level) → (body_of due s k xs a).is_written ≡ true
    go None = refl
    go (Some l) = refl

-- where no inner map is due, none is due below a layout
pub still_none : (l : layout.Layout) (due : Option Level) → due ≡ None → awaited_through l due ≡ None
still_none laid.Join due e = e
still_none laid.Transpose due e = e
still_none (laid.Split m) due e = e
still_none laid.Reverse due e = refl
still_none (laid.Stride m) due e = refl
still_none laid.AsVector due e = refl
still_none laid.AsScalar due e = refl

-- and no node is it
pub not_awaited : (due : Option Level) (t : Tree) → due ≡ None → not (is_awaited due t) ≡ true
not_awaited (Some l) t e = absurd (cc)
not_awaited None t e = refl

-- below a layout is what is below one that is written through, or below any other form
pub below : (Q : Around → Type 0) (s : Around) (l : layout.Layout) (a : PlainTy) → Q (passed s l a) → Q (operand s a) → Q (laid_out s l a)
below Q s l a h k = go (is_written_through l)
  where
    go : (x : Bool) → Q (if x then passed s l a else operand s a)
    go true = h
    go false = k

-- N10: in writing position a layout is one that is written through
pub is_through : (s : Around) (l : layout.Layout) (t : Tree) (a : PlainTy) (n : Annotation) → IsUnbrokenAt s (tree.Unary (unary.Layout l) t) (One a n) → s.is_written ≡ true → is_element a ≡ false → is_written_through l ≡ true
is_through s l t a n h w e = go s.is_written (is_element a) (is_written_through l) (h N10) w e
  where
    go : (x y z : Bool) → (x && not y && not z) ≡ false → x ≡ true → y ≡ false → z ≡ true
    go true true z h w e = absurd (cc)
    go true false true h w e = refl
    go true false false h w e = absurd (cc)
    go false y z h w e = absurd (cc)

pub through : (s : Around) (l : layout.Layout) (t : Tree) (a : PlainTy) (n : Annotation) → is_written_through l ≡ true → AllUnbroken (laid_out s l a) t n → AllUnbroken (passed s l a) t n
through s l t a n e h = subst (λ x. AllUnbroken (if x then passed s l a else operand s a) t n) e h

-- where a parallel map shows through a layout
pub is_seen : (l : layout.Layout) (k r : NestKind) → (r ≡ Task → ⊥) → (if is_written_through l then k else Task) ≡ r → is_written_through l ≡ true
is_seen l k r other e = go (is_written_through l) e
  where
    go : (x : Bool) → (if x then k else Task) ≡ r → x ≡ true
    go true e = refl
    go false e = absurd (other (sym e))

pub seen : (l : layout.Layout) (k r : NestKind) → (if is_written_through l then k else Task) ≡ r → is_written_through l ≡ true → k ≡ r
seen l k r e i = subst (λ x. (if x then k else Task) ≡ r) i e

-- ---- types

pub no_array : (a : PlainTy) → is_element a ≡ true → is_array a ≡ false
no_array types.U32 e = refl
no_array types.U32x4 e = refl
no_array (types.PairOf a b) e = refl
no_array (types.ArrayOf a n) e = absurd (cc)

pub holds_none : (a : PlainTy) → is_array a ≡ true → HoldsNoScalar a
holds_none types.U32 e = absurd (cc)
holds_none types.U32x4 e = absurd (cc)
holds_none (types.PairOf a b) e = absurd (cc)
holds_none (types.ArrayOf a n) e = tt

-- numbers and vectors are elements, and so is what an operator is of
pub numeric_is : (a : PlainTy) → IsNumeric a → is_element a ≡ true
numeric_is types.U32 h = refl
numeric_is types.U32x4 h = refl
numeric_is _ h = absurd (assumption)

pub operator_is : (o : Operator) (b c a : PlainTy) → OperatorRow o b c a → (is_element b ≡ true) × (is_element c ≡ true) × (is_element a ≡ true)
operator_is o types.U32 types.U32 a r = (refl, refl, subst (λ z. is_element z ≡ true) (sym r) refl)
operator_is o types.U32 types.U32x4 a r = (refl, refl, subst (λ z. is_element z ≡ true) (sym r.1) refl)
operator_is o types.U32x4 types.U32 a r = (refl, refl, subst (λ z. is_element z ≡ true) (sym r.1) refl)
operator_is o types.U32x4 types.U32x4 a r = (refl, refl, subst (λ z. is_element z ≡ true) (sym r.1) refl)
operator_is o _ _ a r = absurd (assumption)

-- of a node's type, told by an equation
module _ {A : Type 0} (a b : PlainTy) (e : a ≡ b) where
  pub clash_array : is_array b ≡ true → is_array a ≡ false → A
  clash_array h k = true_is_not_false (is_array a) (subst (λ z. is_array z ≡ true) (sym e) h) k

  pub clash_element : is_element b ≡ true → is_element a ≡ false → A
  clash_element h k = true_is_not_false (is_element a) (subst (λ z. is_element z ≡ true) (sym e) h) k

pub moved : (p : PlainTy → Bool) (v : Bool) (a b : PlainTy) → a ≡ b → p b ≡ v → p a ≡ v
moved p v a b e h = subst (λ z. p z ≡ v) (sym e) h

-- a layout is an array, of an array
pub of_layout : (names : List Name) (l : layout.Layout) (b a : PlainTy) → LayoutRow names l b a → is_element a ≡ false
of_layout names l b a r = moved is_element false a _ (layout_result names l b a r).is refl

pub under_layout : (names : List Name) (l : layout.Layout) (b a : PlainTy) → LayoutRow names l b a → is_element b ≡ false
under_layout names l b a r = moved is_element false b _ (layout_operand names l b a r).is refl

-- ---- nodes

module _ {A : Type 0} (P : A → Type 0) where
  pub front : (xs ys : List A) → Every P (xs ++ ys) → Every P xs
  front [] ys h = tt
  front (x ∷ xs) ys h = (h.0, front xs ys h.1)

  pub behind : (xs ys : List A) → Every P (xs ++ ys) → Every P ys
  behind [] ys h = h
  behind (x ∷ xs) ys h = behind xs ys h.1

-- of what doesn't look at places
pub above : (P : Site → Type 0) → ((i : ℕ) (x : Site) → P (in_child i x) → P x) → (i : ℕ) (xs : List Site) → Every P (under i xs) → Every P xs
above P f i [] h = tt
above P f i (x ∷ xs) h = (f i x h.0, above P f i xs h.1)

unmoved : (i : ℕ) (x : Site) → IsUnbroken (in_child i x) → IsUnbroken x
unmoved i x h r = h r

ones : (xs : List Site) → Every IsUnbroken (under 0 xs) → Every IsUnbroken xs
ones xs h = above IsUnbroken unmoved 0 xs h

twos : (xs ys : List Site) → Every IsUnbroken (under 0 xs ++ under 1 ys) → Every IsUnbroken xs × Every IsUnbroken ys
twos xs ys h = (ones xs (front IsUnbroken (under 0 xs) (under 1 ys) h), above IsUnbroken unmoved 1 ys (behind IsUnbroken (under 0 xs) (under 1 ys) h))

threes : (xs ys zs : List Site) → Every IsUnbroken (under 0 xs ++ (under 1 ys ++ under 2 zs)) → Every IsUnbroken xs × Every IsUnbroken ys × Every IsUnbroken zs
threes xs ys zs h =
    let r = behind IsUnbroken (under 0 xs) (under 1 ys ++ under 2 zs) h in
    (ones xs (front IsUnbroken (under 0 xs) (under 1 ys ++ under 2 zs) h), above IsUnbroken unmoved 1 ys (front IsUnbroken (under 1 ys) (under 2 zs) r), above IsUnbroken unmoved 2 zs (behind IsUnbroken (under 1 ys) (under 2 zs) r))

pub all_unbroken : (s : Around) (t : Tree) (n : Annotation) → Every IsUnbroken (sites s t n) → AllUnbroken s t n
all_unbroken s (tree.Unary f t) (One a n) h = (h.0, all_unbroken _ t n (ones (sites _ t n) h.1))
all_unbroken s (tree.Binary f t u) (Two a n m) h = let r = twos (sites _ t n) (sites _ u m) h.1 in (h.0, all_unbroken _ t n r.0, all_unbroken _ u m r.1)
all_unbroken s (tree.Select t u w) (Three a n m l) h =
    let r = threes (sites _ t n) (sites _ u m) (sites _ w l) h.1 in (h.0, all_unbroken _ t n r.0, all_unbroken _ u m r.1, all_unbroken _ w l r.2)
all_unbroken s (tree.Let v b) (Two a n m) h = let r = twos (sites _ v n) (sites _ b m) h.1 in (h.0, all_unbroken _ v n r.0, all_unbroken _ b m r.1)
all_unbroken s (tree.Map k xs b) (Two a n m) h = let r = twos (sites _ xs n) (sites _ b m) h.1 in (h.0, all_unbroken _ xs n r.0, all_unbroken _ b m r.1)
all_unbroken s (tree.Fold k xs z b) (Three a n m l) h =
    let r = threes (sites _ xs n) (sites _ z m) (sites _ b l) h.1 in (h.0, all_unbroken _ xs n r.0, all_unbroken _ z m r.1, all_unbroken _ b l r.2)
all_unbroken s (tree.Variable v) n h = h.0
all_unbroken s (tree.Number c) n h = h.0
all_unbroken s (tree.Input i) n h = h.0
all_unbroken s (tree.Unary f t) (Leaf a) h = h.0
all_unbroken s (tree.Unary f t) (Two a n m) h = h.0
all_unbroken s (tree.Unary f t) (Three a n m l) h = h.0
all_unbroken s (tree.Binary f t u) (Leaf a) h = h.0
all_unbroken s (tree.Binary f t u) (One a n) h = h.0
all_unbroken s (tree.Binary f t u) (Three a n m l) h = h.0
all_unbroken s (tree.Select t u w) (Leaf a) h = h.0
all_unbroken s (tree.Select t u w) (One a n) h = h.0
all_unbroken s (tree.Select t u w) (Two a n m) h = h.0
all_unbroken s (tree.Let v b) (Leaf a) h = h.0
all_unbroken s (tree.Let v b) (One a n) h = h.0
all_unbroken s (tree.Let v b) (Three a n m l) h = h.0
all_unbroken s (tree.Map k xs b) (Leaf a) h = h.0
all_unbroken s (tree.Map k xs b) (One a n) h = h.0
all_unbroken s (tree.Map k xs b) (Three a n m l) h = h.0
all_unbroken s (tree.Fold k xs z b) (Leaf a) h = h.0
all_unbroken s (tree.Fold k xs z b) (One a n) h = h.0
all_unbroken s (tree.Fold k xs z b) (Two a n m) h = h.0
