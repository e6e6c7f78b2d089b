-- In the body of a map over work-groups, outside its local maps: what the group's items do
-- together.
use Rattle.std.proofs.Common.{◌≡◌, ◌∙◌, ℕ, Bool, true, false, List, ◌∷◌, None, refl, sym, ap, subst}
use Rattle.std.proofs.lemmas.Bool.{true≢false, both_ways, and_from, or_left, or_right, or_parts, not_from_false}
use Rattle.std.specs.Prelude.{not, ◌&&◌, ◌||◌}
use Rattle.lift_tree.specs.declared.term.UnaryForm.TheVariants as unary
use Rattle.lift_tree.specs.declared.term.BinaryForm.TheVariants as binary
use Rattle.size_arith.specs.declared.poly.Monomial.{Monomial}
use Rattle.lift_tree.specs.declared.term.Dimension.{Dimension}
use Rattle.lift_tree.specs.declared.term.Level.TheVariants.{Launch, Groups, Items}
use Rattle.lift_tree.specs.declared.term.MapKind.TheVariants as map_kind
use Rattle.lift_tree.specs.declared.term.FoldKind.TheVariants as fold_kind
use Rattle.lift_tree.specs.Tree as tree
use Rattle.lift_tree.specs.Tree.{Tree}
use Rattle.lift_tree.specs.Types as types
use Rattle.lift_tree.specs.Types.{PlainTy, is_element}
use Rattle.lift_tree.specs.Typing.{Declared}
use Rattle.lift_tree.specs.Annotations.{Annotation, Leaf, One, Two, Three, type_in, Annotates}
use Rattle.lift_ir.specs.Lowering.{Lowered, Written, Argument, lower}
use Rattle.lift_ir.specs.Types.{Ty}
use Rattle.lift_ir.specs.Layouts.{Layout, IsInvertible}
use Rattle.lift_ir.specs.Terms as low
use Rattle.lift_ir.specs.Lowerable.{IsStaged}
use Rattle.lift_ir.proofs.Lets.{written_let, argument_let, let_parts}
use Rattle.lift_ir.proofs.Reshaped.{through_layout}
use Rattle.lowered_tree.specs.Around.{Around, laid_out, passed}
use Rattle.lowered_tree.specs.declared.rule.NestRule.TheVariants.{N1, N3, N4, N8, N10, N11}
use Rattle.lowered_tree.specs.Elements.{hangs_on_sizes}
use Rattle.lowered_tree.specs.Forms.{is_map_of, is_lowered_fold, is_let_of_element}
use Rattle.lowered_tree.specs.Kinds.{is_sequential, is_over_rows, has_rows}
use Rattle.nest_premises.specs.Unbroken.{IsUnbrokenAt, AllUnbroken}
use Rattle.nest_premises.proofs.Known.{Known}
use Rattle.nest_premises.proofs.Rules.{of_layout, spared, clash, still_none, not_awaited, below, is_through, through, numeric_is, operator_is}
use Rattle.nest_premises.proofs.Staged.{passes, refused}
use Rattle.nest_premises.proofs.Inputs.{no_private_copy}

-- of a map's three the second
within : (x y z : Bool) → y ≡ true → (x || y || z) ≡ true
within x y z e = or_left (x || y) z (or_right x y e)

-- in a mapWrg's body, in no work-item's, and not between the two maps of a pair, in a term whose
-- parallel maps are pairs or aren't
abbrev pub IsInGroup : (paired : Bool) → Around → Type 0
IsInGroup paired s = (s.in_group ≡ true) × (s.in_local ≡ false) × (s.in_item ≡ false) × (s.in_parallel ≡ true) × (s.is_between ≡ false) × (s.is_paired ≡ paired)

-- what stands there, written (true) or as an argument (false)
pub record Forms (P : Bool → Lowered → Type 0) : Type 0 where
  pub bound : (v : ℕ) → P false (low.Bound v)
  pub source : (i : ℕ) → P false (low.Source i)
  pub both : (t u : Lowered) → P false t → P false u → P false (low.Both true t u)
  pub project : (second : Bool) (t : Lowered) → P false t → P false (low.Project second t)
  pub viewed : (y : Layout (List Monomial)) (t : Lowered) → P false t → P false (low.Reshape y t)
  pub reshaped : (y : Layout (List Monomial)) (t : Lowered) → IsInvertible y → P true t → P true (low.Reshape y t)
  pub bound_to : (w : Bool) (v b : Lowered) → P false v → P w b → P w (low.LetArray v b)
  pub copy : (ty : Ty) (t : Lowered) → P true t → P false (low.Copy low.LocalMemory ty t)

-- N4: what isn't there
spared_here : (paired : Bool) (s : Around) (t : Tree) (n : Annotation) → IsInGroup paired s → IsUnbrokenAt s t n → (is_map_of is_sequential t || is_lowered_fold t || (s.is_written && is_element (type_in n)) || is_let_of_element t n) ≡ false
spared_here paired s t n c h = spared (s.in_group && not s.in_local && not s.is_between) _ (h N4) (and_from (s.in_group && not s.in_local) (not s.is_between) (and_from s.in_group (not s.in_local) c.0 (not_from_false s.in_local c.1)) (not_from_false s.is_between c.4))

-- no element is written
no_element : (paired : Bool) (s : Around) (t : Tree) (n : Annotation) → IsInGroup paired s → IsUnbrokenAt s t n → s.is_written ≡ true → is_element (type_in n) ≡ false
no_element paired s t n c h w = spared s.is_written (is_element (type_in n)) (or_parts (is_map_of is_sequential t || is_lowered_fold t) _ (or_parts _ (is_let_of_element t n) (spared_here paired s t n c h)).0).1 w

-- nor is one bound by a let
no_let : (paired : Bool) (s : Around) (v b : Tree) (a : PlainTy) (n m : Annotation) → IsInGroup paired s → IsUnbrokenAt s (tree.Let v b) (Two a n m) → is_element (type_in n) ≡ false
no_let paired s v b a n m c h = (or_parts _ (is_element (type_in n)) (spared_here paired s (tree.Let v b) (Two a n m) c h)).1

-- so nothing that is an element is in writing position
barred : {A : Type 0} (paired : Bool) (s : Around) (t : Tree) (n : Annotation) → IsInGroup paired s → IsUnbrokenAt s t n → s.is_written ≡ true → is_element (type_in n) ≡ true → A
barred paired s t n c h w e = absurd (both_ways (is_element (type_in n)) (no_element paired s t n c h w) e)

-- a local map of this kind stands there, if its array does
abbrev pub LocalMaps : Declared → (paired : Bool) → (P : Bool → Lowered → Type 0) → Dimension → Type 0
LocalMaps d paired P k = (s : Around) (g : List PlainTy) (xs b : Tree) (a : PlainTy) (n m : Annotation)
    → Annotates d g (tree.Map (map_kind.Over Items k) xs b) (Two a n m) → AllUnbroken s (tree.Map (map_kind.Over Items k) xs b) (Two a n m)
    → IsStaged Written (tree.Map (map_kind.Over Items k) xs b) (Two a n m) → IsInGroup paired s → s.awaited ≡ None
    → (has_rows (tree.Map (map_kind.Over Items k) xs b) ≡ true → paired ≡ true)
    → P false (lower d.names Argument xs n) → P true (lower d.names Written (tree.Map (map_kind.Over Items k) xs b) (Two a n m))

module _ (known : Known) (d : Declared) (paired : Bool) (P : Bool → Lowered → Type 0) (forms : Forms P) (maps : (k : Dimension) → LocalMaps d paired P k) where
  mutual
    -- N8: an argument
    pub argument_in_group : (s : Around) (g : List PlainTy) (t : Tree) (n : Annotation) → Annotates d g t n → AllUnbroken s t n → IsStaged Argument t n → IsInGroup paired s → (has_rows t ≡ true → paired ≡ true) → P false (lower d.names Argument t n)
    argument_in_group s g (tree.Variable v) (Leaf a) y h o c p = forms.bound v
    argument_in_group s g (tree.Input v) (Leaf a) y h o c p = forms.source v
    argument_in_group s g (tree.Unary unary.First t) (One a n) y h o c p = forms.project false _ (argument_in_group _ g t n y.0 h.1 o c p)
    argument_in_group s g (tree.Unary unary.Second t) (One a n) y h o c p = forms.project true _ (argument_in_group _ g t n y.0 h.1 o c p)
    argument_in_group s g (tree.Unary (unary.Layout l) t) (One a n) y h o c p = through_layout (P false) (λ y u i k. forms.viewed y u k) d.names Argument l a (type_in n) _ (argument_in_group (laid_out s l a) g t n y.0 h.1 o (below (IsInGroup paired) s l a c c) p)
    argument_in_group s g (tree.Unary (unary.Slide j l) t) (One a n) y h o c p = forms.viewed _ _ (argument_in_group _ g t n y.0 h.1 o c p)
    argument_in_group s g (tree.Unary (unary.Pad j l) t) (One a n) y h o c p = forms.viewed _ _ (argument_in_group _ g t n y.0 h.1 o c p)
    argument_in_group s g (tree.Unary unary.ToLocal t) (One a n) y h o c p = forms.copy _ _ (written_in_group _ g t n y.0 h.1 o.3 c p refl refl)
    argument_in_group s g (tree.Unary unary.ToPrivate t) (One a n) y h o c p = no_private_copy s.in_item (hangs_on_sizes a) (h.0 N8) c.2
    argument_in_group s g (tree.Binary binary.Zip t u) (Two a n m) y h o c p = forms.both _ _ (argument_in_group _ g t n y.0 h.1 o.0 c (λ e. p (or_left (has_rows t) (has_rows u) e))) (argument_in_group _ g u m y.1 h.2 o.1 c (λ e. p (or_right (has_rows t) (has_rows u) e)))
    argument_in_group s g (tree.Let v b) (Two a n m) y h o c p =
        subst (P false) (sym (argument_let d.names v b a n m o.0)) (forms.bound_to false _ _ (argument_in_group _ g v n y.0 h.1 o.1 c (λ e. p (or_left (has_rows v) (has_rows b) e))) (argument_in_group _ (type_in n ∷ g) b m y.1 h.2 o.2 c (λ e. p (or_right (has_rows v) (has_rows b) e))))
    argument_in_group s g _ _ y h o c p = absurd o

    -- N1, N3, N4, N10, N11: what is written
    pub written_in_group : (s : Around) (g : List PlainTy) (t : Tree) (n : Annotation) → Annotates d g t n → AllUnbroken s t n → IsStaged Written t n → IsInGroup paired s → (has_rows t ≡ true → paired ≡ true) → s.is_written ≡ true → s.awaited ≡ None → P true (lower d.names Written t n)
    written_in_group s g (tree.Variable v) (Leaf a) y h o c p w i = refused s.is_written (is_element a) (h N11) w (no_element paired s (tree.Variable v) (Leaf a) c h w)
    written_in_group s g (tree.Number v) (Leaf a) y h o c p w i = barred paired s (tree.Number v) (Leaf a) c h w (ap is_element y.1)
    written_in_group s g (tree.Unary (unary.Div j) t) (One a n) y h o c p w i = barred paired s (tree.Unary (unary.Div j) t) (One a n) c h.0 w (ap is_element y.1.2 ∙ numeric_is (type_in n) y.1.1)
    written_in_group s g (tree.Unary (unary.Rem j) t) (One a n) y h o c p w i = barred paired s (tree.Unary (unary.Rem j) t) (One a n) c h.0 w (ap is_element y.1.2 ∙ numeric_is (type_in n) y.1.1)
    written_in_group s g (tree.Unary unary.First t) (One a n) y h o c p w i = refused s.is_written (is_element a) (h.0 N10) w (no_element paired s (tree.Unary unary.First t) (One a n) c h.0 w)
    written_in_group s g (tree.Unary unary.Second t) (One a n) y h o c p w i = refused s.is_written (is_element a) (h.0 N10) w (no_element paired s (tree.Unary unary.Second t) (One a n) c h.0 w)
    written_in_group s g (tree.Unary (unary.Layout l) t) (One a n) y h o c p w i =
        let e = of_layout d.names l (type_in n) a y.1 in
        let k = through s l t a n (is_through s l t a n h.0 w e) h.1 in
        through_layout (P true) (λ y u i k. forms.reshaped y u i k) d.names Written l a (type_in n) _ (written_in_group (passed s l a) g t n y.0 k o c p (passes s.is_written (is_element a) w e) (still_none l s.awaited i))
    written_in_group s g (tree.Unary (unary.Slide j l) t) (One a n) y h o c p w i = refused s.is_written (is_element a) (h.0 N10) w (ap is_element y.1.6)
    written_in_group s g (tree.Unary (unary.Pad j l) t) (One a n) y h o c p w i = refused s.is_written (is_element a) (h.0 N10) w (ap is_element y.1.3)
    written_in_group s g (tree.Binary (binary.Operator r) t u) (Two a n m) y h o c p w i = barred paired s (tree.Binary (binary.Operator r) t u) (Two a n m) c h.0 w (operator_is r (type_in n) (type_in m) a y.2).2
    written_in_group s g (tree.Binary binary.Pair t u) (Two a n m) y h o c p w i =
        barred paired s (tree.Binary binary.Pair t u) (Two a n m) c h.0 w (ap is_element y.2.2 ∙ known.elements (types.PairOf (type_in n) (type_in m)) (y.2.0, y.2.1))
    written_in_group s g (tree.Select t u x) (Three a n m l) y h o c p w i = barred paired s (tree.Select t u x) (Three a n m l) c h.0 w (ap is_element y.6)
    written_in_group s g (tree.Let v b) (Two a n m) y h o c p w i =
        let e = no_element paired s (tree.Let v b) (Two a n m) c h.0 w in
        let j = known.tests (type_in n) ∙ no_let paired s v b a n m c h.0 in
        let r = let_parts v b a n m o j in
        subst (P true) (sym (written_let d.names v b a n m r.0 j))
        (forms.bound_to true _ _ (argument_in_group _ g v n y.0 h.1 r.1 c (λ z. p (or_left (has_rows v) (has_rows b) z))) (written_in_group _ (type_in n ∷ g) b m y.1 h.2 r.2 c (λ z. p (or_right (has_rows v) (has_rows b) z)) (passes s.is_written (is_element a) w e) refl))
    written_in_group s g (tree.Map map_kind.Plain xs b) (Two a n m) y h o c p w i = absurd (true≢false (h.0 N1))
    written_in_group s g (tree.Map map_kind.Sequential xs b) (Two a n m) y h o c p w i = absurd (true≢false (spared_here paired s (tree.Map map_kind.Sequential xs b) (Two a n m) c h.0))
    written_in_group s g (tree.Map (map_kind.Over Launch k) xs b) (Two a n m) y h o c p w i = clash s.in_parallel _ (h.0 N3) c.3 (not_awaited s.awaited (tree.Map (map_kind.Over Launch k) xs b) i)
    written_in_group s g (tree.Map (map_kind.Over Groups k) xs b) (Two a n m) y h o c p w i = clash s.in_parallel _ (h.0 N3) c.3 (not_awaited s.awaited (tree.Map (map_kind.Over Groups k) xs b) i)
    written_in_group s g (tree.Map (map_kind.Over Items k) xs b) (Two a n m) y h o c p w i =
        maps k s g xs b a n m y h o c i p (argument_in_group _ g xs n y.2 h.1 o.0 c (λ e. p (within (is_over_rows (map_kind.Over Items k)) (has_rows xs) (has_rows b) e)))
    written_in_group s g (tree.Fold fold_kind.Plain xs x b) (Three a n m l) y h o c p w i = absurd (true≢false (h.0 N1))
    written_in_group s g (tree.Fold fold_kind.Sequential xs x b) (Three a n m l) y h o c p w i = absurd (true≢false (spared_here paired s (tree.Fold fold_kind.Sequential xs x b) (Three a n m l) c h.0))
    written_in_group s g _ _ y h o c p w i = absurd o
