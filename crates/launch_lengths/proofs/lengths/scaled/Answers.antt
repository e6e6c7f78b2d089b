use Rattle.std.proofs.Common.{◌*ℤ◌, pos, refl, arith}
use Rattle.std.proofs.lemmas.Int.{to_z-of_z, to_z_pos, fits_signed_from_abs}
use mir.Syntax.{w128}
use mir.Val.{SFits}
use Rattle.size_arith.proofs.Caps.{term_cap}
use Rattle.launch_lengths.proofs.lengths.scaled.Goals as goal

pub returns : goal.returns
returns c =
    let f : SFits w128 c.args.coefficient = c.ranges.coefficient in
    let t = term_cap c.args.coefficient c.args.product c.requires.coefficient c.requires.product in
    let h : SFits w128 (c.args.coefficient *ℤ pos c.args.product) = fits_signed_from_abs w128 (c.args.coefficient *ℤ pos c.args.product) (omega arith) in
    let p = to_z_pos w128 c.args.product (let r = c.requires.product in omega arith) in
    simp (to_z-of_z, p) (record { value = refl; cap = t })
