use Rattle.std.proofs.Common.{ℕ, ◌+◌, ◌-◌, ◌∙◌, Err, sym, ap, arith}
use Rattle.lift_tree.specs.Tree.{Let, tree_of}
use Rattle.pattern_types.specs.Judged.{counted}
use Rattle.strategy_script.specs.Inlined.{nodes_filled}
use Rattle.strategy_script.specs.declared.faults.Fault.TheVariants.{Passes}
use Rattle.strategy_script.specs.declared.faults.StepLimit.TheVariants.{Nodes}
use Rattle.strategy_script.proofs.Inlined.{passes_nodes}
use Rattle.strategy_script.proofs.Small.{node_renumberable}
use Rattle.strategy_script.proofs.steps.check_inlined.Goals as goal

pub nodes_filled-inlined-requires : goal.nodes_filled-inlined-requires
nodes_filled-inlined-requires c =
    let whole = tree_of c.args.typed.now.term in
    let own = Let (tree_of c.in-Some.value.now) (tree_of c.in-Some.body.now) in
    let low = (node_renumberable whole own c.args.step.now.place c.in-Some.ensures.1 c.requires.small).height in
    omega (arith, low)

pub returns : goal.returns
returns c = λ _.
    let v = tree_of c.in-Some.value.now in
    let b = tree_of c.in-Some.body.now in
    let w = tree_of c.in_ok-copy_with.field-0 in
    let n = c.nodes_filled-inlined.result in
    let own = c.from.ensures in
    let above = c.if-from-le-NODE_LIMIT.false in
    passes_nodes c.places_have_contexts.ensures c.args.typed.now c.args.step.now v b w n c.requires.typed c.in-Some.ensures c.in_ok-copy_with.ensures
    (c.nodes_filled-inlined.ensures ∙ ap (λ (m : ℕ). counted (nodes_filled 0 m b)) c.node_count.ensures) (omega (arith, own, above))
    ∙ sym (ap (λ (m : ℕ). Err (Passes Nodes m)) (c.from-nodes.ensures ∙ c.saturating_add.ensures ∙ ap (λ (r : ℕ). counted ((r - 1) + n)) c.node_count-rest.ensures))
