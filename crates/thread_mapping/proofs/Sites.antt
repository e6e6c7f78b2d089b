-- The first broken rule of a node from those of its children.
use Rattle.std.proofs.Common.{◌≡◌, ℕ, List, [], ◌∷◌, ◌++◌, Option, Some, None, refl, ap, ◌∙◌}
use Rattle.std.specs.Prelude.{if◌then◌else◌}
use Rattle.lowered_tree.specs.declared.rule.NestRule.{NestRule}
use Rattle.lowered_tree.specs.Nest.{Site, under, in_child, broken_at, lowest, first_of, at_place, first_broken}
use Rattle.thread_mapping.specs.Found.{from_child}

first_of_three : (a b c : Option (List ℕ × NestRule)) → first_of a (first_of b c) ≡ first_of (first_of a b) c
first_of_three (Some x) b c = refl
first_of_three None b c = refl

pub first_of_both : (rs : List NestRule) (xs ys : List Site) → first_broken rs (xs ++ ys) ≡ first_of (first_broken rs xs) (first_broken rs ys)
first_of_both rs [] ys = refl
first_of_both rs (x ∷ xs) ys =
    ap (first_of (at_place x.place (lowest rs x))) (first_of_both rs xs ys) ∙ first_of_three (at_place x.place (lowest rs x)) (first_broken rs xs) (first_broken rs ys)

child_first : (i : ℕ) (p : List ℕ) (r : Option NestRule) (o : Option (List ℕ × NestRule)) → first_of (at_place (i ∷ p) r) (from_child i o) ≡ from_child i (first_of (at_place p r) o)
child_first i p (Some r) o = refl
child_first i p None o = refl

-- a rule looks at no place
lowest_child : (i : ℕ) (rs : List NestRule) (x : Site) → lowest rs (in_child i x) ≡ lowest rs x
lowest_child i [] x = refl
lowest_child i (r ∷ rs) x = ap (λ o. if broken_at r x then Some r else o) (lowest_child i rs x)

pub first_under : (rs : List NestRule) (i : ℕ) (xs : List Site) → first_broken rs (under i xs) ≡ from_child i (first_broken rs xs)
first_under rs i [] = refl
first_under rs i (x ∷ xs) =
    ap (λ o. first_of (at_place (i ∷ x.place) o) (first_broken rs (under i xs))) (lowest_child i rs x) ∙ ap (first_of (at_place (i ∷ x.place) (lowest rs x))) (first_under rs i xs)
    ∙ child_first i x.place (lowest rs x) (first_broken rs xs)

pub first_of_two_children : (rs : List NestRule) (xs ys : List Site) → first_broken rs (under 0 xs ++ under 1 ys) ≡ first_of (from_child 0 (first_broken rs xs)) (from_child 1 (first_broken rs ys))
first_of_two_children rs xs ys =
    first_of_both rs (under 0 xs) (under 1 ys) ∙ ap (λ o. first_of o (first_broken rs (under 1 ys))) (first_under rs 0 xs) ∙ ap (first_of (from_child 0 (first_broken rs xs))) (first_under rs 1 ys)

pub first_of_three_children : (rs : List NestRule) (xs ys zs : List Site)
    → first_broken rs (under 0 xs ++ (under 1 ys ++ under 2 zs)) ≡ first_of (from_child 0 (first_broken rs xs)) (first_of (from_child 1 (first_broken rs ys)) (from_child 2 (first_broken rs zs)))
first_of_three_children rs xs ys zs =
    first_of_both rs (under 0 xs) (under 1 ys ++ under 2 zs) ∙ ap (λ o. first_of o (first_broken rs (under 1 ys ++ under 2 zs))) (first_under rs 0 xs)
    ∙ ap (first_of (from_child 0 (first_broken rs xs))) (first_of_both rs (under 1 ys) (under 2 zs) ∙ ap (λ o. first_of o (first_broken rs (under 2 zs))) (first_under rs 1 ys) ∙ ap (first_of (from_child 1 (first_broken rs ys))) (first_under rs 2 zs))
