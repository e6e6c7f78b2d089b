use Rattle.nest_premises.proofs.Known.{Known}
use Rattle.nest_premises.proofs.LegalNests.{legal_nests_stand}
use Rattle.nest_premises.proofs.groups.legal_nests_stand.Goals as goal

pub returns : goal.returns
returns c =
    let known : Known = record {
      lowerable = c.legal_terms_can_be_lowered.ensures;
      kinds = c.kinds_tell_tasks.ensures;
      tasks = c.tasks_stand.ensures;
      launches = c.launches_stand.ensures;
      unbroken = c.legal_nests_are_unbroken.ensures;
      bodies = c.item_bodies_stand.ensures;
      lets = c.lets_around_maps_bind_no_element.ensures;
      tests = c.element_tests_agree.ensures.alike;
      elements = c.element_tests_agree.ensures.passed;
    } in
    legal_nests_stand known
