use Rattle.std.proofs.Common.{length, ◌-◌, ◌≤◌, take}
use Rattle.std.specs.Io.KnownBytes.{Appends}
use Rattle.lift_io.proofs.sinks.write_whole.Given as goal

pub record Written (length_done : Type 0) (bytes : Type 0) (faults : Type 0) : Type 0 where
  pub within : length_done
  pub so_far : bytes
  pub later : faults

abbrev pub invariant-loop-done : goal.invariant-loop-done
invariant-loop-done g l = Written (l.done ≤ length l.bytes)
    (Appends (g.S.Sink.taken l.initial.sink) (g.S.Sink.taken l.sink) (take l.done l.bytes))
    (g.S.Sink.faults l.initial.sink ≤ g.S.Sink.faults l.sink)

abbrev pub decreases-loop-done : goal.decreases-loop-done
decreases-loop-done g l = length l.bytes - l.done
