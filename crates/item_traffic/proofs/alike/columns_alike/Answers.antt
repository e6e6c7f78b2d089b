use Rattle.std.proofs.Common.{rules, ◌≡◌, ◌-◌, ◌*◌, ◌%◌, subst, sym}
use Rattle.lift_tree.specs.declared.term.Level.TheVariants.{Launch, Groups, Items}
use Rattle.lift_tree.specs.declared.term.Dimension.TheVariants.{X}
use Rattle.lift_ir.specs.Terms.{Over}
use Rattle.lowering.specs.Terms.{kind_of}
use Rattle.item_traffic.proofs.Places.{Alike, groups_alike, groups_within, items_within, members_alike, whole_alike}
use Rattle.item_traffic.proofs.alike.columns_alike.Goals as goal

pub returns-in-Over-Launch-X-clause-alike : goal.returns-in-Over-Launch-X-clause-alike
returns-in-Over-Launch-X-clause-alike c = let e : kind_of c.args.kind ≡ Over Launch X = search rules in
    subst (Alike c.args.column c.args.global c.args.local c.args.length (c.places_alike.result)) (sym e)
    (λ row sizes k lt. c.places_alike.ensures.alike k lt)

pub returns-in-Over-Groups-X-clause-row : goal.returns-in-Over-Groups-X-clause-row
returns-in-Over-Groups-X-clause-row c = groups_within c.args.global c.args.local c.requires.divided c.args.column c.requires.within c.places_alike-groups.result c.places_alike-groups.ensures.within

pub returns-in-Over-Groups-X-clause-alike : goal.returns-in-Over-Groups-X-clause-alike
returns-in-Over-Groups-X-clause-alike c = let e : kind_of c.args.kind ≡ Over Groups X = search rules in
    subst (Alike c.args.column c.args.global c.args.local c.args.length (c.places_alike-groups.result * c.args.local - c.args.column % c.args.local)) (sym e)
    (λ row sizes k lt. groups_alike c.args.global c.args.local c.requires.divided c.args.column c.requires.within c.args.length c.places_alike-groups.result c.places_alike-groups.ensures.alike k lt)

pub returns-then-length-local-eq0-clause-alike : goal.returns-then-length-local-eq0-clause-alike
returns-then-length-local-eq0-clause-alike c = let e : kind_of c.args.kind ≡ Over Items X = search rules in
    subst (Alike c.args.column c.args.global c.args.local c.args.length (c.args.global - c.args.column)) (sym e)
    (λ row sizes k lt. whole_alike c.args.global c.args.local c.requires.divided c.args.column c.requires.within c.args.length k c.if-length-local-eq0.true)

pub returns-else-length-local-eq0-clause-row : goal.returns-else-length-local-eq0-clause-row
returns-else-length-local-eq0-clause-row c = items_within c.args.global c.args.local c.requires.divided c.args.column c.requires.within c.places_alike-else-length-local-eq0.result c.places_alike-else-length-local-eq0.ensures.within

pub returns-else-length-local-eq0-clause-alike : goal.returns-else-length-local-eq0-clause-alike
returns-else-length-local-eq0-clause-alike c = let e : kind_of c.args.kind ≡ Over Items X = search rules in
    subst (Alike c.args.column c.args.global c.args.local c.args.length (c.places_alike-else-length-local-eq0.result)) (sym e)
    (λ row sizes k lt. members_alike c.args.global c.args.local c.requires.divided c.args.column c.requires.within c.args.length c.places_alike-else-length-local-eq0.result c.places_alike-else-length-local-eq0.ensures.within c.places_alike-else-length-local-eq0.ensures.alike k lt)
