use Rattle.std.proofs.Common.{ℕ, sym, subst}
use Rattle.std.proofs.lemmas.Result.{IfOk-weaker}
use Rattle.std.specs.Global.{Global}
use Rattle.std.specs.Prelude.{Vec}
use Rattle.launch_lengths.specs.Bases.{bases_of}
use Rattle.lift_tree.specs.Annotations.{annotation_of}
use Rattle.lift_tree.specs.Tree.{tree_of}
use Rattle.lowered_tree.specs.Kinds.{asks_of}
use Rattle.lowered_tree.specs.Named.{declared_of}
use Rattle.lowered_tree.specs.declared.lowered.Spaced.{Spaced}
use Rattle.printed_form.specs.Programs.{IsLaunchOf}
use Rattle.program_runs.proofs.Costs.{plan_tells}
use Rattle.program_runs.proofs.cost.cost_at.Goals as goal

pub plan_cost-requires : goal.plan_cost-requires
plan_cost-requires c =
    let l = c.args.launch.now in
    subst (λ (s : Spaced). IsLaunchOf (declared_of s.mapped.lowered) (asks_of s.mapped.local (tree_of s.mapped.lowered.term)) (bases_of s.mapped.lowered.names l.sizes) (tree_of s.mapped.lowered.term) (annotation_of s.mapped.lowered.types) l) (sym c.in_ok-plan.ensures.spaced) c.requires.launch

pub returns : goal.returns
returns c =
    let l = c.args.launch.now in
    let plan = c.in_ok-plan.plan in
    IfOk-weaker c.plan_cost.result _ _
    (λ (lines : Vec ℕ Global) is. plan_tells c.plans_place_needed_barriers.ensures c.args.placed.now.spaced plan l c.args.items lines.items c.in_ok-plan.ensures.spaced c.in_ok-plan.ensures.told is) c.plan_cost.ensures
