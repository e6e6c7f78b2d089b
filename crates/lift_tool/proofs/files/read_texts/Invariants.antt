use Rattle.std.proofs.Common.{◌≡◌, ◌++◌, length, map}
use Rattle.std.specs.Vec.Iter.{into_iter_items, into_iter_len}
use Rattle.lift_tool.specs.Request.{file_of}
use Rattle.lift_tool.proofs.Reading.{AreRead}
use Rattle.lift_tool.proofs.files.read_texts.Given as goal

abbrev pub invariant-loop-file : goal.invariant-loop-file
invariant-loop-file g l = record {
  read : AreRead (g.F.Files.told l.fn.files) (g.F.Files.told l.files) (g.F.Files.faults l.fn.files) (g.F.Files.faults l.files) (g.F.Files.asked l.fn.files) (g.F.Files.asked l.files) (map file_of l.yielded) (map (λ text. text.items) l.texts.items);
  split : l.fn.wanted.items ≡ l.yielded ++ into_iter_items l.file-iterator;
  left : into_iter_len l.file-iterator ≡ length (into_iter_items l.file-iterator);
}
