use Rattle.std.proofs.Common.{ℕ, ◌*◌, ◌≤◌, List, subst, arith}
use Rattle.std.specs.List.{sum}
use Rattle.buffer_allocation.proofs.Held.{within}
use Rattle.buffer_allocation.proofs.allocation.buffers.Goals as goal

pub invariant_of-result : goal.invariant_of-result
invariant_of-result c = record {
  local_bytes = subst (λ (ns : List ℕ). 4 * sum ns ≤ 32768) c.deref.ensures.value (within (4 * sum c.deref.result.now) 32768 c.bytes-count.result (omega arith) c.bytes-count.ensures c.if-count-gt-LOCAL_BYTES.false);
  private_cells = subst (λ (ns : List ℕ). sum ns ≤ 256) c.deref-2.ensures.value (within (sum c.deref-2.result.now) 256 c.total-count.result (omega arith) c.total-count.ensures c.if-count-gt-PRIVATE_CELLS.false);
}
