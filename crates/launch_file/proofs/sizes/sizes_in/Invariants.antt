use Rattle.std.proofs.Common.{◌≡◌, ◌++◌, drop, Ok}
use Rattle.serde_json.specs.View.{view}
use Rattle.launch_file.specs.Judged.{and_then, sizes_judged}
use Rattle.launch_file.proofs.sizes.sizes_in.Given as goal

abbrev pub invariant-loop-index : goal.invariant-loop-index
invariant-loop-index l = sizes_judged 0 l.sizes (view l.value) ≡ and_then (sizes_judged l.index (drop l.index l.sizes) (view l.value)) (λ ns. Ok (l.given.items ++ ns))
