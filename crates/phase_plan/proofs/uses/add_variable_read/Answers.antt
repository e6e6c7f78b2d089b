use Rattle.std.proofs.Common.{◌≡◌, [], ◌++◌, sym, ap, ◌∙◌}
use Rattle.std.proofs.lemmas.List.{append-nil}
use Rattle.group_form.specs.Origins.{at_way, bent}
use Rattle.group_form.specs.Uses.{reads_of, touches_in}
use Rattle.phase_plan.specs.Origins.{origins_in}
use Rattle.phase_plan.proofs.Touching.{nowhere}
use Rattle.phase_plan.proofs.uses.add_variable_read.Goals as goal

pub returns-in-None : goal.returns-in-None
returns-in-None c =
    let way = c.args.component.now.way in
    let so_far = c.args.touches.now.items in
    let env = origins_in c.args.scope.now in
    let none : reads_of (at_way (bent (env c.args.component.now.var)) way) ≡ [] = ap (λ v. reads_of (at_way (bent (env v)) way)) (sym c.variable.ensures) ∙ ap (λ o. reads_of (at_way (bent o) way)) c.in-None.ensures ∙ ap reads_of (nowhere way) in
    sym (append-nil so_far) ∙ ap (λ us. so_far ++ touches_in c.args.phase us) (sym none)
