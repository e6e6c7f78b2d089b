-- Legal nests are those without a first broken rule.
use Rattle.std.proofs.Common.{◌≡◌, ℕ, Bool, true, false, List, [], ◌∷◌, Option, Some, None, refl, ap}
use Rattle.std.specs.Prelude.{if◌then◌else◌}
use Rattle.lift_tree.specs.Lists.{Every}
use Rattle.lowered_tree.specs.declared.rule.NestRule.{NestRule}
use Rattle.lowered_tree.specs.declared.rule.NestRule.TheVariants.{N1, N2, N3, N4, N5, N6, N7, N8, N9, N10, N11, N12, N13, N14, N15}
use Rattle.lowered_tree.specs.Around.{at_root}
use Rattle.lowered_tree.specs.Nest.{Site, sites, broken_at, IsUnbroken, IsLegalWith, earliest_rules, later_rules, lowest, first_of, at_place, first_broken, first_broken_with, leaves_items_idle, size_rule, LegalWithoutFault}

-- ---- one node

not_chosen : (b : Bool) (r : NestRule) (o : Option NestRule) → (if b then Some r else o) ≡ None → (b ≡ false) × (o ≡ None)
not_chosen true r o e = absurd (cc)
not_chosen false r o e = (refl, e)

none_chosen : (b : Bool) (r : NestRule) (o : Option NestRule) → b ≡ false → o ≡ None → (if b then Some r else o) ≡ None
none_chosen true r o e h = absurd (cc)
none_chosen false r o e h = h

each_unbroken : (rs : List NestRule) (x : Site) → lowest rs x ≡ None → Every (λ r. broken_at r x ≡ false) rs
each_unbroken [] x e = tt
each_unbroken (r ∷ rs) x e = let p = not_chosen (broken_at r x) r (lowest rs x) e in (p.0, each_unbroken rs x p.1)

none_lowest : (rs : List NestRule) (x : Site) → IsUnbroken x → lowest rs x ≡ None
none_lowest [] x h = refl
none_lowest (r ∷ rs) x h = none_chosen (broken_at r x) r (lowest rs x) (h r) (none_lowest rs x h)

unbroken : (x : Site) → lowest earliest_rules x ≡ None → lowest later_rules x ≡ None → IsUnbroken x
unbroken x h e N1 = (each_unbroken later_rules x e).0
unbroken x h e N2 = (each_unbroken later_rules x e).1.0
unbroken x h e N3 = (each_unbroken later_rules x e).1.1.0
unbroken x h e N4 = (each_unbroken later_rules x e).1.1.1.0
unbroken x h e N5 = (each_unbroken later_rules x e).1.1.1.1.0
unbroken x h e N6 = (each_unbroken later_rules x e).1.1.1.1.1.0
unbroken x h e N7 = (each_unbroken later_rules x e).1.1.1.1.1.1.0
unbroken x h e N8 = (each_unbroken later_rules x e).1.1.1.1.1.1.1.0
unbroken x h e N9 = (each_unbroken later_rules x e).1.1.1.1.1.1.1.1.0
unbroken x h e N10 = (each_unbroken later_rules x e).1.1.1.1.1.1.1.1.1.0
unbroken x h e N11 = (each_unbroken later_rules x e).1.1.1.1.1.1.1.1.1.1.0
unbroken x h e N12 = refl
unbroken x h e N13 = (each_unbroken earliest_rules x h).0
unbroken x h e N14 = (each_unbroken later_rules x e).1.1.1.1.1.1.1.1.1.1.1.0
unbroken x h e N15 = (each_unbroken later_rules x e).1.1.1.1.1.1.1.1.1.1.1.1.0

-- ---- all nodes

both_none : (a b : Option (List ℕ × NestRule)) → first_of a b ≡ None → (a ≡ None) × (b ≡ None)
both_none (Some x) b e = absurd (cc)
both_none None b e = (refl, e)

neither : (a b : Option (List ℕ × NestRule)) → a ≡ None → b ≡ None → first_of a b ≡ None
neither (Some x) b e h = absurd (cc)
neither None b e h = h

unplaced : (p : List ℕ) (o : Option NestRule) → at_place p o ≡ None → o ≡ None
unplaced p (Some r) e = absurd (cc)
unplaced p None e = refl

all_unbroken : (xs : List Site) → first_broken earliest_rules xs ≡ None → first_broken later_rules xs ≡ None → Every IsUnbroken xs
all_unbroken [] h e = tt
all_unbroken (x ∷ xs) h e =
    let q = both_none (at_place x.place (lowest earliest_rules x)) (first_broken earliest_rules xs) h in
    let p = both_none (at_place x.place (lowest later_rules x)) (first_broken later_rules xs) e in
    (unbroken x (unplaced x.place (lowest earliest_rules x) q.0) (unplaced x.place (lowest later_rules x) p.0), all_unbroken xs q.1 p.1)

none_broken : (rs : List NestRule) (xs : List Site) → Every IsUnbroken xs → first_broken rs xs ≡ None
none_broken rs [] h = refl
none_broken rs (x ∷ xs) h = neither (at_place x.place (lowest rs x)) (first_broken rs xs) (ap (at_place x.place) (none_lowest rs x h.0)) (none_broken rs xs h.1)

-- ---- with the rule of the whole

whole_unbroken :
    (r : Option NestRule) (xs : List Site) → first_broken earliest_rules xs ≡ None → first_broken_with r xs ≡ None
    → Every IsUnbroken xs × (r ≡ None)
whole_unbroken r [] h e = (tt, unplaced [] r e)
whole_unbroken r (x ∷ xs) h e =
    let o = both_none (at_place x.place (lowest earliest_rules x)) (first_broken earliest_rules xs) h in
    let p = both_none (at_place x.place (lowest later_rules x)) (first_of (at_place [] r) (first_broken later_rules xs)) e in
    let q = both_none (at_place [] r) (first_broken later_rules xs) p.1 in
    ((unbroken x (unplaced x.place (lowest earliest_rules x) o.0) (unplaced x.place (lowest later_rules x) p.0), all_unbroken xs o.1 q.1), unplaced [] r q.0)

none_with : (r : Option NestRule) (xs : List Site) → Every IsUnbroken xs → r ≡ None → first_broken_with r xs ≡ None
none_with r [] h e = ap (at_place []) e
none_with r (x ∷ xs) h e =
    neither (at_place x.place (lowest later_rules x)) (first_of (at_place [] r) (first_broken later_rules xs)) (ap (at_place x.place) (none_lowest later_rules x h.0))
    (neither (at_place [] r) (first_broken later_rules xs) (ap (at_place []) e) (none_broken later_rules xs h.1))

pub legal_without_fault : LegalWithoutFault
legal_without_fault local t n =
    let idle = leaves_items_idle local t in
    let xs = sites (at_root t) t n in (
      λ e.
          let p = both_none (first_broken earliest_rules xs) (first_broken_with (size_rule local t) xs) e in
          let q = whole_unbroken (size_rule local t) xs p.0 p.1 in
          let k : IsLegalWith local t n = record { nest = q.0; size = (not_chosen idle N12 None q.1).0 } in k,
      λ h.
          neither (first_broken earliest_rules xs) (first_broken_with (size_rule local t) xs) (none_broken earliest_rules xs h.nest)
          (none_with (size_rule local t) xs h.nest (none_chosen idle N12 None h.size refl)),
    )
