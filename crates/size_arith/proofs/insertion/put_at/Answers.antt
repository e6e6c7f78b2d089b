use Rattle.std.proofs.Common.{◌^◌, rules, sym, ◌∙◌, arith}
use Rattle.std.proofs.lemmas.Int.{to_z-of_z}
use mir.Syntax.{w128}
use mir.Val.{SFits}
use Rattle.size_arith.proofs.Finding.{small_at, set_put}
use Rattle.size_arith.proofs.insertion.put_at.Goals as goal

pub sum_of-sum-requires-clause-second : goal.sum_of-sum-requires-clause-second
sum_of-sum-requires-clause-second c =
    let s = small_at (2 ^ 100) c.deref.result.now c.args.monomials.now.items c.find-found.result.index c.index.result.now c.deref.ensures.value (c.find-found.ensures.there c.if-found.true) c.index.ensures c.requires.small in
    let g : SFits w128 c.index.result.now.coefficient = search rules in
    simp to_z-of_z (omega arith)

pub returns-else-is_zero : goal.returns-else-is_zero
returns-else-is_zero c =
    let f : SFits w128 c.args.coefficient = c.ranges.coefficient in
    let g : SFits w128 c.index.result.now.coefficient = search rules in
    let k : SFits w128 c.sum_of-sum.result = search rules in
    let e = simp to_z-of_z at c.sum_of-sum.ensures in
    let n = simp to_z-of_z at c.is_zero.ensures in
    simp to_z-of_z
    (set_put _ _ _ c.deref.result.now c.args.monomials.now.items c.find-found.result.index c.find-found.result.here c.index.result.now c.deref.ensures.value (c.find-found.ensures.puts c.args.coefficient) c.if-found.true (c.find-found.ensures.there c.if-found.true) c.index.ensures e (sym c.if-is_zero.false ∙ n))
