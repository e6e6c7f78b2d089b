use Rattle.std.proofs.Common.{◌≡◌, Some, arith}
use Rattle.lift_tree.specs.Tree.{tree_of}
use Rattle.lift_tree.specs.Places.{node_at}
use Rattle.lift_tree.specs.Programs.{program_of}
use Rattle.strategy_script.proofs.Rewritten.{rewrite_keeps}
use Rattle.strategy_script.proofs.Small.{node_renumberable}
use Rattle.strategy_script.proofs.Stepping.{rewritten_has_output}
use Rattle.strategy_script.proofs.steps.rewritten.Goals as goal

pub applied-requires : goal.applied-requires
applied-requires c =
    let here : node_at (tree_of c.args.typed.now.term) c.args.step.now.place ≡ Some (tree_of c.in-Some.node.now) = grind arith in
    node_renumberable _ _ _ here c.requires.small

pub returns-clause-keeps : goal.returns-clause-keeps
returns-clause-keeps c =
    let here : node_at (tree_of c.args.typed.now.term) c.args.step.now.place ≡ Some (tree_of c.in-Some.node.now) = grind arith in
    rewrite_keeps c.places_have_contexts.ensures c.rewrites_keep_the_whole.ensures _ _ _ _ _ _ _ here c.in_ok-around.ensures.found c.in_ok-term.ensures c.in_ok-new.ensures.keeps

pub returns-clause-output : goal.returns-clause-output
returns-clause-output c =
    let here : node_at (tree_of c.args.typed.now.term) c.args.step.now.place ≡ Some (tree_of c.in-Some.node.now) = grind arith in
    let keeps = rewrite_keeps c.places_have_contexts.ensures c.rewrites_keep_the_whole.ensures _ _ _ _ _ _ _ here c.in_ok-around.ensures.found c.in_ok-term.ensures c.in_ok-new.ensures.keeps in
    rewritten_has_output c.typed_nodes_type_the_term.ensures c.args.typed.now (tree_of c.in_ok-term.term) c.requires.typed keeps

pub returns-clause-belongs : goal.returns-clause-belongs
returns-clause-belongs c =
    let here : node_at (tree_of c.args.typed.now.term) c.args.step.now.place ≡ Some (tree_of c.in-Some.node.now) = grind arith in
    let keeps = rewrite_keeps c.places_have_contexts.ensures c.rewrites_keep_the_whole.ensures _ _ _ _ _ _ _ here c.in_ok-around.ensures.found c.in_ok-term.ensures c.in_ok-new.ensures.keeps in
    let output = rewritten_has_output c.typed_nodes_type_the_term.ensures c.args.typed.now (tree_of c.in_ok-term.term) c.requires.typed keeps in
    (c.outputs_belong.ensures (program_of c.args.typed.now.program) (tree_of c.in_ok-term.term) _ output).0
