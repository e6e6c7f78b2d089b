use Rattle.std.proofs.Common.{◌≡◌, ◌+◌, ◌++◌, ap, ◌∙◌}
use Rattle.lowering.specs.Terms.{load_set_of, term_of}
use Rattle.group_form.specs.Named.{element_ways, named_outside}
use Rattle.group_form.specs.Uses.{element_reads, variable_reads, writes_to, touches_in}
use Rattle.phase_plan.specs.Origins.{origin_in, origins_in}
use Rattle.phase_plan.specs.Walks.{destination_from}
use Rattle.phase_plan.proofs.Touching.{phase_added}
use Rattle.phase_plan.proofs.walk.Walk.add_phase.Goals as goal

pub returns-clause-goes_on : goal.returns-clause-goes_on
returns-clause-goes_on c =
    let q = c.args.self.now.phases in
    let same : c.write.new.self.phases ≡ q = c.in_ok-origin.ensures.phases in
    let argument = origin_in c.args.argument.now in
    let env = origins_in c.args.scope.now in
    let writes = writes_to (destination_from c.args.self.now.arrays c.args.to) c.args.direct in
    let ways = element_ways (load_set_of c.args.map.now.loads) (term_of c.args.map.now.body) in
    let components = named_outside (term_of c.args.map.now.body) in
    let written = c.write.new.self.touches.items in
    let read = c.add_element_reads.new.touches.items in
    record {
      touches =
          phase_added q writes (element_reads argument ways) (variable_reads env components) c.args.self.now.touches.items written read c.add_variable_reads.new.touches.items c.in_ok-origin.ensures.touches
          (c.in_ok-add_element_reads.ensures ∙ ap (λ z. written ++ touches_in z (element_reads argument c.deref.result.now)) same ∙ ap (λ ws. written ++ touches_in q (element_reads argument ws)) (c.deref.ensures.value ∙ c.in_ok-names.ensures.element))
          (c.in_ok-add_variable_reads.ensures ∙ ap (λ z. read ++ touches_in z (variable_reads env c.deref-2.result.now)) same ∙ ap (λ cs. read ++ touches_in q (variable_reads env cs)) (c.deref-2.ensures.value ∙ c.in_ok-names.ensures.variables));
      phases = c.in_ok-self.ensures ∙ ap (λ z. z + 1) same;
      arrays = c.in_ok-origin.ensures.arrays;
    }
