use Rattle.std.proofs.Common.{◌^◌, ◌*ℤ◌, arith}
use Rattle.std.proofs.lemmas.Int.{to_z-of_z, fits_signed_mul}
use mir.Syntax.{w128}
use mir.Val.{SFits}
use Rattle.size_arith.proofs.numbers.product_of.Goals as goal

pub returns : goal.returns
returns c =
    let f : SFits w128 c.args.a = c.ranges.a in
    let g : SFits w128 c.args.b = c.ranges.b in
    let h : SFits w128 (c.args.a *ℤ c.args.b) = fits_signed_mul w128 c.args.a c.args.b (2 ^ 33) (2 ^ 33) c.requires.first c.requires.second (omega arith) in
    simp to_z-of_z
