use Rattle.std.proofs.Common.{◌≡◌, ◌≤◌, map, drop}
use Rattle.ndrange_machine.specs.Wants.{text_of}
use Rattle.ndrange_machine.proofs.Depth.{deepest}
use Rattle.ndrange_machine.proofs.line.depth_of.Given as goal

abbrev pub invariant-loop-line : goal.invariant-loop-line
invariant-loop-line l = record {
  steps : deepest l.inside l.most (map text_of (drop l.line-index l.lines)) ≡ deepest 0 0 (map text_of l.lines);
  few : l.inside ≤ l.line-index;
}
