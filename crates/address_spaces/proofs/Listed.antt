-- The spaces of a node's parts, one after another.
use Rattle.std.proofs.Common.{◌≡◌, ℕ, Bool, true, false, List, [], ◌∷◌, ◌++◌, refl, sym, ap, ◌∙◌, append_assoc}
use Rattle.std.specs.Prelude.{Option, Some, None, if◌then◌else◌}
use Rattle.lift_tree.specs.declared.layout.Layout.{Layout}
use Rattle.lift_tree.specs.declared.term.Level.{Level}
use Rattle.lift_tree.specs.declared.term.MapKind.{MapKind}
use Rattle.lift_tree.specs.declared.term.UnaryForm.{UnaryForm}
use Rattle.lift_tree.specs.declared.term.UnaryForm.TheVariants as unary
use Rattle.lift_tree.specs.Annotations.{Annotation, One, Two, Three, type_in, annotation_of}
use Rattle.lift_tree.specs.Tree.{Tree, Unary, Binary, Select, Let, Map, Fold, tree_of}
use Rattle.lift_tree.specs.Types.{PlainTy, is_element}
use Rattle.lowered_tree.specs.declared.around.AddressSpace.{AddressSpace}
use Rattle.lowered_tree.specs.declared.node.Node.{Node}
use Rattle.lowered_tree.specs.declared.node.Children.{Children}
use Rattle.lowered_tree.specs.declared.node.Children.TheVariants as children
use Rattle.lowered_tree.specs.Aligned.{under_bound, under_fold}
use Rattle.lowered_tree.specs.Around.{Around, around_of, operand, passed, under_form, argument, let_body, body_of, map_body, fold_body}
use Rattle.lowered_tree.specs.Forms.{is_written_through}
use Rattle.lowered_tree.specs.Nest.{Site, sites, under}
use Rattle.lowered_tree.specs.Nodes.{sites_of, sites_among}
use Rattle.lowered_tree.specs.Pairs.{pair_begun}
use Rattle.lowered_tree.specs.Spaces.{computes, computes_at, spaces_in}

chosen : (b : Bool) (x : AddressSpace) (xs ys : List AddressSpace) → (if b then x ∷ (xs ++ ys) else (xs ++ ys)) ≡ (if b then x ∷ xs else xs) ++ ys
chosen true x xs ys = refl
chosen false x xs ys = refl

of_both : (xs ys : List Site) → spaces_in (xs ++ ys) ≡ spaces_in xs ++ spaces_in ys
of_both [] ys = refl
of_both (x ∷ xs) ys = ap (λ s. if computes_at x then x.around.space ∷ s else s) (of_both xs ys) ∙ chosen (computes_at x) x.around.space (spaces_in xs) (spaces_in ys)

-- a node's space hangs on no place
pub under_child : (i : ℕ) (xs : List Site) → spaces_in (under i xs) ≡ spaces_in xs
under_child i [] = refl
under_child i (x ∷ xs) = ap (λ s. if computes_at x then x.around.space ∷ s else s) (under_child i xs)

pub of_two : (before : List AddressSpace) (xs ys : List Site) → before ++ spaces_in (under 0 xs ++ under 1 ys) ≡ (before ++ spaces_in xs) ++ spaces_in ys
of_two before xs ys =
    ap (λ s. before ++ s) (of_both (under 0 xs) (under 1 ys) ∙ ap (λ s. s ++ spaces_in (under 1 ys)) (under_child 0 xs) ∙ ap (λ s. spaces_in xs ++ s) (under_child 1 ys))
    ∙ sym (append_assoc before (spaces_in xs) (spaces_in ys))

pub of_three : (before : List AddressSpace) (xs ys zs : List Site)
    → before ++ spaces_in (under 0 xs ++ (under 1 ys ++ under 2 zs)) ≡ ((before ++ spaces_in xs) ++ spaces_in ys) ++ spaces_in zs
of_three before xs ys zs =
    ap (λ s. before ++ s) (of_both (under 0 xs) (under 1 ys ++ under 2 zs) ∙ ap (λ s. s ++ spaces_in (under 1 ys ++ under 2 zs)) (under_child 0 xs)
    ∙ ap (λ s. spaces_in xs ++ s) (of_both (under 1 ys) (under 2 zs) ∙ ap (λ s. s ++ spaces_in (under 2 zs)) (under_child 1 ys) ∙ ap (λ s. spaces_in ys ++ s) (under_child 2 zs)))
    ∙ sym (append_assoc before (spaces_in xs) (spaces_in ys ++ spaces_in zs)) ∙ sym (append_assoc (before ++ spaces_in xs) (spaces_in ys) (spaces_in zs))

-- the node's own space, if it computes, stands before the others
pub here : (b : Bool) (before : List AddressSpace) (x : AddressSpace) (xs : List AddressSpace) → before ++ (if b then x ∷ xs else xs) ≡ (if b then before ++ (x ∷ []) else before) ++ xs
here true before x xs = sym (append_assoc before (x ∷ []) xs)
here false before x xs = refl

-- ---- what is aligned has no part in spaces

-- what is around a node, where other binders are aligned
abbrev with : Around → List Bool → Around
with s g = record s { aligned = g }

laid_with : (through : Bool) (s : Around) (g : List Bool) (l : Layout) (a : PlainTy) → (if through then passed (with s g) l a else operand (with s g) a) ≡ with (if through then passed s l a else operand s a) g
laid_with true s g l a = refl
laid_with false s g l a = refl

form_with : (s : Around) (g : List Bool) (f : UnaryForm) (a : PlainTy) → under_form (with s g) f a ≡ with (under_form s f a) g
form_with s g (unary.Div n) a = refl
form_with s g (unary.Rem n) a = refl
form_with s g unary.First a = refl
form_with s g unary.Second a = refl
form_with s g (unary.Layout l) a = laid_with (is_written_through l) s g l a
form_with s g (unary.Slide n m) a = refl
form_with s g (unary.Pad n m) a = refl
form_with s g unary.ToLocal a = refl
form_with s g unary.ToPrivate a = refl
form_with s g unary.Then a = refl

body_with : (due : Option Level) (s : Around) (g : List Bool) (k : MapKind) (xs : Tree) (a : PlainTy) → body_of due (with s g) k xs a ≡ with (body_of due s k xs a) (under_bound g xs)
body_with (Some l) s g k xs a = refl
body_with None s g k xs a = refl

-- the spaces of a node and of what is below it
abbrev with_these : Around → Tree → Annotation → List AddressSpace → List AddressSpace
with_these s t n ys = if computes s t n then s.space ∷ ys else ys

one_child : (i : ℕ) (xs ys : List Site) → spaces_in xs ≡ spaces_in ys → spaces_in (under i xs) ≡ spaces_in (under i ys)
one_child i xs ys e = under_child i xs ∙ e ∙ sym (under_child i ys)

both_parts : (xs ys xs' ys' : List Site) → spaces_in xs ≡ spaces_in xs' → spaces_in ys ≡ spaces_in ys' → spaces_in (xs ++ ys) ≡ spaces_in (xs' ++ ys')
both_parts xs ys xs' ys' e f = of_both xs ys ∙ ap (λ s. s ++ spaces_in ys) e ∙ ap (λ s. spaces_in xs' ++ s) f ∙ sym (of_both xs' ys')

two_children : (xs ys xs' ys' : List Site) → spaces_in xs ≡ spaces_in xs' → spaces_in ys ≡ spaces_in ys' → spaces_in (under 0 xs ++ under 1 ys) ≡ spaces_in (under 0 xs' ++ under 1 ys')
two_children xs ys xs' ys' e f = both_parts (under 0 xs) (under 1 ys) (under 0 xs') (under 1 ys') (one_child 0 xs xs' e) (one_child 1 ys ys' f)

three_children : (xs ys zs xs' ys' zs' : List Site) → spaces_in xs ≡ spaces_in xs' → spaces_in ys ≡ spaces_in ys' → spaces_in zs ≡ spaces_in zs'
    → spaces_in (under 0 xs ++ (under 1 ys ++ under 2 zs)) ≡ spaces_in (under 0 xs' ++ (under 1 ys' ++ under 2 zs'))
three_children xs ys zs xs' ys' zs' e f h =
    both_parts (under 0 xs) (under 1 ys ++ under 2 zs) (under 0 xs') (under 1 ys' ++ under 2 zs') (one_child 0 xs xs' e) (both_parts (under 1 ys) (under 2 zs) (under 1 ys') (under 2 zs') (one_child 1 ys ys' f) (one_child 2 zs zs' h))

-- what is around is told otherwise
told : (s r : Around) (g : List Bool) (t : Tree) (n : Annotation) → r ≡ with s g → spaces_in (sites (with s g) t n) ≡ spaces_in (sites s t n) → spaces_in (sites r t n) ≡ spaces_in (sites s t n)
told s r g t n e h = ap (λ x. spaces_in (sites x t n)) e ∙ h

-- the same spaces, where other binders are aligned
same_spaces : (s : Around) (g : List Bool) (t : Tree) (n : Annotation) → spaces_in (sites (with s g) t n) ≡ spaces_in (sites s t n)
same_spaces s g (Unary f t) (One a n) =
    ap (with_these s (Unary f t) (One a n))
    (one_child 0 (sites (under_form (with s g) f a) t n) (sites (under_form s f a) t n) (told (under_form s f a) (under_form (with s g) f a) g t n (form_with s g f a) (same_spaces (under_form s f a) g t n)))
same_spaces s g (Binary f t u) (Two a n m) =
    ap (with_these s (Binary f t u) (Two a n m))
    (two_children (sites (operand (with s g) a) t n) (sites (operand (with s g) a) u m) (sites (operand s a) t n) (sites (operand s a) u m) (same_spaces (operand s a) g t n) (same_spaces (operand s a) g u m))
same_spaces s g (Select t u v) (Three a n m k) =
    ap (with_these s (Select t u v) (Three a n m k))
    (three_children (sites (operand (with s g) a) t n) (sites (operand (with s g) a) u m) (sites (operand (with s g) a) v k) (sites (operand s a) t n) (sites (operand s a) u m) (sites (operand s a) v k)
    (same_spaces (operand s a) g t n) (same_spaces (operand s a) g u m) (same_spaces (operand s a) g v k))
same_spaces s g (Let v b) (Two a n m) =
    let e = is_element (type_in n) in
    ap (with_these s (Let v b) (Two a n m))
    (two_children (sites (argument (with s g) e a) v n) (sites (let_body (with s g) e v a) b m) (sites (argument s e a) v n) (sites (let_body s e v a) b m) (same_spaces (argument s e a) g v n)
    (same_spaces (let_body s e v a) (under_bound g v) b m))
same_spaces s g (Map k xs b) (Two a n m) =
    ap (with_these s (Map k xs b) (Two a n m))
    (two_children (sites (argument (with s g) false a) xs n) (sites (map_body (with s g) k xs b a) b m) (sites (argument s false a) xs n) (sites (map_body s k xs b a) b m) (same_spaces (argument s false a) g xs n)
    (told (map_body s k xs b a) (map_body (with s g) k xs b a) (under_bound g xs) b m (body_with (pair_begun k b) s g k xs a) (same_spaces (map_body s k xs b a) (under_bound g xs) b m)))
same_spaces s g (Fold k xs z b) (Three a n m l) =
    ap (with_these s (Fold k xs z b) (Three a n m l))
    (three_children (sites (argument (with s g) false a) xs n) (sites (operand (with s g) a) z m) (sites (fold_body (with s g) a) b l) (sites (argument s false a) xs n) (sites (operand s a) z m) (sites (fold_body s a) b l)
    (same_spaces (argument s false a) g xs n) (same_spaces (operand s a) g z m) (same_spaces (fold_body s a) (under_fold g) b l))
same_spaces s g t n = refl

of_node : (g : List Bool) (n : Node) → spaces_in (sites_of g n) ≡ spaces_in (sites_of [] n)
of_node g n = same_spaces (around_of n.around []) g (tree_of n.term.now) (annotation_of n.types.now)

pub of_children : (g h : List Bool) (c : Children) → spaces_in (sites_among g h c) ≡ spaces_in (sites_among [] [] c)
of_children g h children.Leaf = refl
of_children g h (children.One a) = one_child 0 (sites_of h a) (sites_of [] a) (of_node h a)
of_children g h (children.Two a b) = two_children (sites_of g a) (sites_of h b) (sites_of [] a) (sites_of [] b) (of_node g a) (of_node h b)
of_children g h (children.Three a b c) = three_children (sites_of g a) (sites_of g b) (sites_of h c) (sites_of [] a) (sites_of [] b) (sites_of [] c) (of_node g a) (of_node g b) (of_node h c)
