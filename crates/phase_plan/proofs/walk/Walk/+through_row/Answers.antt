use Rattle.std.proofs.Common.{◌≡◌, true, ap, sym, subst, ◌∙◌}
use Rattle.std.specs.Prelude.{map}
use Rattle.lowering.specs.Terms.{kind_of, load_set_of, map_of, term_of}
use Rattle.lowering.specs.declared.term.Map.{Map}
use Rattle.lowering.specs.declared.term.Term.{Term}
use Rattle.group_form.specs.GridTerms.{StandsAlongGroups, row_uses}
use Rattle.group_form.specs.Uses.{body_uses, numbered}
use Rattle.phase_plan.specs.Bodies.{IsOfPhases, unaligned}
use Rattle.phase_plan.proofs.Bodies.{of_row}
use Rattle.phase_plan.proofs.Unaligned.{body_unaligned}
use Rattle.phase_plan.proofs.walk.Walk.+through_row.Goals as goal

pub through_body-requires : goal.through_body-requires
through_body-requires t c =
    let m = c.in-Map.map.value in
    subst (λ (x : Map). IsOfPhases true (term_of x.body)) (sym c.deref-in-Map.ensures)
    (of_row (kind_of m.kind) m.length (load_set_of m.loads) (term_of m.array) (term_of m.body) (subst (λ (x : Term). StandsAlongGroups (term_of x)) c.in-Map.is c.requires))

pub returns-in_ok-unaligned-in-Map-clause-touches : goal.returns-in_ok-unaligned-in-Map-clause-touches
returns-in_ok-unaligned-in-Map-clause-touches t c =
    let m = c.in-Map.map.value in
    c.in_ok-unaligned-in-Map.ensures ∙ ap (map unaligned) (c.deref-in-Map-2.ensures.value ∙ c.in_ok-phases-in-Map.ensures.touches)
    ∙ ap (λ (x : Map). map unaligned (numbered 0 (body_uses (term_of x.body)))) c.deref-in-Map.ensures
    ∙ body_unaligned (term_of m.body) ∙ ap (λ (x : Term). numbered 0 (row_uses (term_of x))) (sym c.in-Map.is)
