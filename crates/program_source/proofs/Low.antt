-- The term of a program's text is at most 256 high.
use Rattle.std.proofs.Common.{ℕ, suc, ◌+◌, ◌≤◌, arith}
use Rattle.lift_tree.specs.Tree as trees
use Rattle.lift_tree.specs.Tree.{Tree, height}
use Rattle.lift_reader.specs.TextTerms.{IsTextTerm, BodiesAreTextTerms}
use Rattle.program_source.specs.Program.{ProgramsAreLow}

low : (s i b d : ℕ) (t : Tree) → d ≤ 256 → IsTextTerm s i b d t → height t + d ≤ 257
low s i b d (trees.Variable n) most h = omega (arith, most)
low s i b d (trees.Number n) most h = omega (arith, most)
low s i b d (trees.Input n) most h = omega (arith, most)
low s i b d (trees.Unary f t) most h =
    let deep = h.0 in
    let x = low s i b (d + 1) t (omega (arith, deep)) h.2 in omega (arith, x)
low s i b d (trees.Binary f t u) most h =
    let deep = h.0 in
    let next : d + 1 ≤ 256 = omega (arith, deep) in
    let x = low s i b (d + 1) t next h.1 in
    let y = low s i b (d + 1) u next h.2 in omega (arith, x, y)
low s i b d (trees.Select t u v) most h =
    let deep = h.0 in
    let next : d + 1 ≤ 256 = omega (arith, deep) in
    let x = low s i b (d + 1) t next h.1 in
    let y = low s i b (d + 1) u next h.2 in
    let z = low s i b (d + 1) v next h.3 in omega (arith, x, y, z)
low s i b d (trees.Let v e) most h =
    let deep = h.0 in
    let next : d + 1 ≤ 256 = omega (arith, deep) in
    let x = low s i b (d + 1) v next h.1 in
    let y = low s i (suc b) (d + 1) e next h.2 in omega (arith, x, y)
low s i b d (trees.Map k xs e) most h =
    let deep = h.0 in
    let next : d + 1 ≤ 256 = omega (arith, deep) in
    let x = low s i b (d + 1) xs next h.1 in
    let y = low s i (suc b) (d + 1) e next h.2 in omega (arith, x, y)
low s i b d (trees.Fold k xs u e) most h =
    let deep = h.0 in
    let next : d + 1 ≤ 256 = omega (arith, deep) in
    let x = low s i b (d + 1) xs next h.1 in
    let y = low s i b (d + 1) u next h.2 in
    let z = low s i (suc (suc b)) (d + 1) e next h.3 in omega (arith, x, y, z)

pub programs_are_low : BodiesAreTextTerms → ProgramsAreLow
programs_are_low law text p is = let x = low _ _ _ 1 p.body (omega arith) (law text p is) in omega (arith, x)
