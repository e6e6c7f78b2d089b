-- Which nests of maps, folds and copies can be printed: thirteen rules, and one before them, each
-- broken at single nodes, and one of the whole.
use Rattle.std.specs.Prelude.{◌≡◌, ◌↔◌, ℕ, ◌*◌, Bool, true, false, not, ◌&&◌, ◌||◌, List, [], ◌∷◌, ◌++◌, map, nat_lt, Option, Some, None, if◌then◌else◌}
use Rattle.lift_tree.specs.Tree.{Tree, Unary, Binary, Select, Let, Map, Fold}
use Rattle.lift_tree.specs.Annotations.{Annotation, One, Two, Three, type_in}
use Rattle.lift_tree.specs.Lists.{Every}
use Rattle.lift_tree.specs.declared.layout.Layout.TheVariants as layout
use Rattle.lift_tree.specs.declared.term.UnaryForm.TheVariants as unary
use Rattle.lowered_tree.specs.declared.around.AddressSpace.{AddressSpace}
use Rattle.lowered_tree.specs.declared.around.AddressSpace.TheVariants.{Global, Local, Private}
use Rattle.lowered_tree.specs.declared.rule.NestRule.{NestRule}
use Rattle.lowered_tree.specs.declared.rule.NestRule.TheVariants.{N1, N2, N3, N4, N5, N6, N7, N8, N9, N10, N11, N12, N13, N14, N15}
use Rattle.lift_tree.specs.Types.{PlainTy, is_element}
use Rattle.lowered_tree.specs.Aligned.{is_aligned}
use Rattle.lowered_tree.specs.Elements.{hangs_on_sizes, holds_vectors}
use Rattle.lowered_tree.specs.Kinds.{is_global, is_over_groups, is_local, is_sequential, is_parallel, is_task, has_rows}
use Rattle.lowered_tree.specs.Pairs.{is_awaited, is_unpaired}
use Rattle.lowered_tree.specs.Forms.{is_map_of, is_undecided, is_lowered_map, is_lowered_fold, is_local_copy, is_private_copy, is_copy, copies_local_map, is_let_of_element, is_let_of_array, is_read_alone, is_placed, is_then}
use Rattle.lowered_tree.specs.Around.{Around, at_root, operand, under_form, argument, let_body, map_body, fold_body}

-- ---- nodes

-- a node of a term: its place, what is around it, the term there, and the types of its nodes
pub record Site : Type 0 where
  pub place : List ℕ
  pub around : Around
  pub tree : Tree
  pub types : Annotation

-- a site of the child of this number, with its place seen from the parent
abbrev pub in_child : ℕ → Site → Site
in_child i x = record x { place = i ∷ x.place }

-- sites of that child, with their places seen from the parent
abbrev pub under : ℕ → List Site → List Site
under i = map (in_child i)

-- a term's nodes in preorder
abbrev pub sites : Around → Tree → Annotation → List Site
sites s (Unary f t) (One a n) =
    record { place = []; around = s; tree = Unary f t; types = One a n }
    ∷ under 0 (sites (under_form s f a) t n)
sites s (Binary f t u) (Two a n m) =
    record { place = []; around = s; tree = Binary f t u; types = Two a n m }
    ∷ (under 0 (sites (operand s a) t n) ++ under 1 (sites (operand s a) u m))
sites s (Select t u v) (Three a n m k) =
    record { place = []; around = s; tree = Select t u v; types = Three a n m k }
    ∷
    (under 0 (sites (operand s a) t n)
    ++ (under 1 (sites (operand s a) u m) ++ under 2 (sites (operand s a) v k)))
sites s (Let v b) (Two a n m) =
    record { place = []; around = s; tree = Let v b; types = Two a n m }
    ∷
    (under 0 (sites (argument s (is_element (type_in n)) a) v n)
    ++ under 1 (sites (let_body s (is_element (type_in n)) v a) b m))
sites s (Map h xs b) (Two a n m) =
    record { place = []; around = s; tree = Map h xs b; types = Two a n m }
    ∷ (under 0 (sites (argument s false a) xs n) ++ under 1 (sites (map_body s h xs b a) b m))
sites s (Fold h xs z b) (Three a n m k) =
    record { place = []; around = s; tree = Fold h xs z b; types = Three a n m k }
    ∷
    (under 0 (sites (argument s false a) xs n)
    ++ (under 1 (sites (operand s a) z m) ++ under 2 (sites (fold_body s a) b k)))
sites s t n = record { place = []; around = s; tree = t; types = n } ∷ []

-- the node itself, without those below it
abbrev pub site_at : Around → Tree → Annotation → Site
site_at s t n = record { place = []; around = s; tree = t; types = n }

-- the root of a term
abbrev pub root_site : Tree → Annotation → Site
root_site t n = site_at (at_root t) t n

-- ---- vectors

-- the work-item's own
abbrev pub is_private : AddressSpace → Bool
is_private Global = false
is_private Local = false
is_private Private = true

-- in writing position, with no layout but join and split up to the
-- root or to a copy to local memory
abbrev pub is_in_order : Around → Bool
is_in_order s = s.is_written && not s.is_reordered && not (is_private s.space)

-- a node whose vectors don't lie in fours of one array: one that makes vectors of an array that
-- isn't aligned, one whose vectors are stored elsewhere than in order, or a copy that holds vectors
abbrev pub scatters_vectors : Around → Tree → PlainTy → Bool
scatters_vectors s (Unary (unary.Layout layout.AsVector) t) a = not (is_aligned s.aligned t)
scatters_vectors s (Unary (unary.Layout layout.AsScalar) t) a = not (is_in_order s)
scatters_vectors s t a = is_copy t && holds_vectors a

-- ---- rules

-- the rule is broken at a node t whose types are n, with this around it; N12 is of
-- the whole, and no node breaks it
abbrev pub breaks : NestRule → Around → Tree → Annotation → Bool
breaks N1 s t n = is_undecided t
breaks N2 s t n =
    is_map_of is_local t && not s.is_next_to_group && not (is_awaited s.awaited t)
breaks N3 s t n =
    (is_map_of is_global t || is_map_of is_over_groups t) && s.in_parallel
    && not (is_awaited s.awaited t)
breaks N4 s t n =
    (s.in_group && not s.in_local && not s.is_between)
    &&
    (is_map_of is_sequential t || is_lowered_fold t || (s.is_written && is_element (type_in n))
    || is_let_of_element t n)
breaks N5 s t n =
    is_local_copy t
    && (not s.in_group || s.in_local || s.in_rows || not (copies_local_map t))
breaks N6 s t n = is_local_copy t && hangs_on_sizes (type_in n)
breaks N7 s t n =
    (s.in_argument && (is_lowered_map t || is_lowered_fold t || is_let_of_element t n))
    || ((s.in_element || is_element (type_in n)) && is_let_of_array t n)
breaks N8 s t n = is_private_copy t && (not s.in_item || hangs_on_sizes (type_in n))
breaks N9 s t n = is_map_of is_parallel t && s.in_serial
breaks N10 s t n = (s.is_written && not (is_element (type_in n))) && is_read_alone t
breaks N11 s t n = (s.is_written && not (is_element (type_in n))) && is_placed t
breaks N12 s t n = false
breaks N13 s t n = is_then t
breaks N14 s t n = s.is_paired && is_unpaired s.awaited t
breaks N15 s t n = scatters_vectors s t (type_in n)

-- the rule is broken at the site
abbrev pub broken_at : NestRule → Site → Bool
broken_at r x = breaks r x.around x.tree x.types

-- ---- the legal nest

-- no rule is broken at the node
abbrev pub IsUnbroken : Site → Type 0
IsUnbroken x = (r : NestRule) → broken_at r x ≡ false

-- no rule is broken at any node
abbrev pub IsLegalNest : Tree → Annotation → Type 0
IsLegalNest t n = Every IsUnbroken (sites (at_root t) t n)

-- ---- the first broken rule

-- what is judged at all nodes before any other rule
abbrev pub earliest_rules : List NestRule
earliest_rules = N13 ∷ []

-- all other rules that a node breaks
abbrev pub later_rules : List NestRule
later_rules = N1 ∷ N2 ∷ N3 ∷ N4 ∷ N5 ∷ N6 ∷ N7 ∷ N8 ∷ N9 ∷ N10 ∷ N11 ∷ N14 ∷ N15 ∷ []

-- the first of these rules that is broken at the node
abbrev pub lowest : List NestRule → Site → Option NestRule
lowest [] x = None
lowest (r ∷ rs) x = if broken_at r x then Some r else lowest rs x

-- the first of two faults, where there is one
abbrev pub first_of : Option (List ℕ × NestRule) → Option (List ℕ × NestRule)
    → Option (List ℕ × NestRule)
first_of (Some x) y = Some x
first_of None y = y

-- a broken rule and its place, where a rule is broken
abbrev pub at_place : List ℕ → Option NestRule → Option (List ℕ × NestRule)
at_place p (Some r) = Some (p, r)
at_place p None = None

-- of these nodes the first at which one of these rules is broken, and the lowest such rule
abbrev pub first_broken : List NestRule → List Site → Option (List ℕ × NestRule)
first_broken rs [] = None
first_broken rs (x ∷ xs) = first_of (at_place x.place (lowest rs x)) (first_broken rs xs)

-- ---- a fixed local size

-- a group would have more than one item, and all but one would do
-- nothing, since no map is parallel;
-- or more than one row of items, and all but one would, since none is along dimension 1
abbrev pub leaves_items_idle : Option (ℕ × ℕ) → Tree → Bool
leaves_items_idle (Some size) t =
    (nat_lt 1 (size.0 * size.1) && is_task t) || (nat_lt 1 size.1 && not (has_rows t))
leaves_items_idle None t = false

-- the rule that a fixed local size breaks
abbrev pub size_rule : Option (ℕ × ℕ) → Tree → Option NestRule
size_rule local t = if leaves_items_idle local t then Some N12 else None

-- of the whole's nodes the first at which one of the later rules is broken, where this one is tried
-- behind those of the root
abbrev pub first_broken_with : Option NestRule → List Site → Option (List ℕ × NestRule)
first_broken_with whole [] = at_place [] whole
first_broken_with whole (root ∷ xs) =
    first_of (at_place root.place (lowest later_rules root))
    (first_of (at_place [] whole) (first_broken later_rules xs))

-- with this local size, where one is fixed, the first cut in preorder, or else the first node at
-- which a rule is broken, and the lowest such rule
abbrev pub nest_fault : Option (ℕ × ℕ) → Tree → Annotation → Option (List ℕ × NestRule)
nest_fault local t n =
    first_of (first_broken earliest_rules (sites (at_root t) t n))
    (first_broken_with (size_rule local t) (sites (at_root t) t n))

-- the nest is legal, and no item of a fixed local size is idle
pub record IsLegalWith (local : Option (ℕ × ℕ)) (t : Tree) (n : Annotation) : Type 0 where
  pub nest : IsLegalNest t n
  pub size : leaves_items_idle local t ≡ false

-- where there is none the nest is legal with the local size, and else it isn't
abbrev pub LegalWithoutFault : Type 0
LegalWithoutFault =
    (local : Option (ℕ × ℕ)) (t : Tree) (n : Annotation)
    → (nest_fault local t n ≡ None) ↔ IsLegalWith local t n
