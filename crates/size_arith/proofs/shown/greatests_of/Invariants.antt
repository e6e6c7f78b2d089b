use Rattle.std.proofs.Common.{◌≡◌, take, length}
use Rattle.size_arith.specs.Ranges.{greatests}
use Rattle.size_arith.proofs.shown.greatests_of.Given as goal

abbrev pub invariant-loop-i : goal.invariant-loop-i
invariant-loop-i l = record {
  wide : length l.values ≡ 8;
  taken : take l.i l.values ≡ take l.i (greatests l.names);
}
