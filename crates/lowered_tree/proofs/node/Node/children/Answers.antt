use Rattle.std.proofs.Common.{rules}
use Rattle.lift_tree.specs.Tree.{tree_of}
use Rattle.lowered_tree.specs.Nodes.{under_last_of}
use Rattle.lowered_tree.proofs.node.Node.children.Goals as goal

pub returns-in-Binary-Two-clause-sites : goal.returns-in-Binary-Two-clause-sites
returns-in-Binary-Two-clause-sites c = λ g.
    let e = c.operand-around.ensures g in
    let a = c.node_at-in-Binary-Two.ensures.sites g in
    let b = c.node_at-in-Binary-Two-2.ensures.sites g in
    search rules

pub returns-in-Select-Three-clause-sites : goal.returns-in-Select-Three-clause-sites
returns-in-Select-Three-clause-sites c = λ g.
    let e = c.operand-around-in-Select-Three.ensures g in
    let x = c.node_at-in-Select-Three.ensures.sites g in
    let y = c.node_at-in-Select-Three-2.ensures.sites g in
    let z = c.node_at-in-Select-Three-3.ensures.sites g in
    search rules

pub returns-in-Let-Two-clause-sites : goal.returns-in-Let-Two-clause-sites
returns-in-Let-Two-clause-sites c = λ g.
    let v = tree_of c.in-Let-Two.value.value in
    let e = c.argument.ensures g in
    let f = c.let_body.ensures g v in
    let a = c.node_at-value.ensures.sites g in
    let b = c.node_at-in-Let-Two.ensures.sites (under_last_of g c.args.self) in
    search rules

pub returns-in-Map-Two-clause-sites : goal.returns-in-Map-Two-clause-sites
returns-in-Map-Two-clause-sites c = λ g.
    let xs = tree_of c.in-Map-Two.array.value in
    let e = c.argument-in-Map-Two.ensures g in
    let f = c.map_body.ensures g xs in
    let a = c.node_at-array.ensures.sites g in
    let b = c.node_at-in-Map-Two.ensures.sites (under_last_of g c.args.self) in
    search rules

pub returns-in-Fold-Three-clause-sites : goal.returns-in-Fold-Three-clause-sites
returns-in-Fold-Three-clause-sites c = λ g.
    let e = c.argument-in-Fold-Three.ensures g in
    let o = c.operand.ensures g in
    let f = c.fold_body.ensures g in
    let a = c.node_at-array-in-Fold-Three.ensures.sites g in
    let s = c.node_at-start.ensures.sites g in
    let b = c.node_at-in-Fold-Three.ensures.sites (under_last_of g c.args.self) in
    search rules
