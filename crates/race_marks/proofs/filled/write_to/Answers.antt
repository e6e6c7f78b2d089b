use Rattle.std.proofs.Common.{◌+◌, arith}
use Rattle.std.specs.Prelude.{is_ok}
use Rattle.race_marks.proofs.Filling.{resized}
use Rattle.race_marks.proofs.filled.write_to.Goals as goal

pub returns-clause-same : goal.returns-clause-same
returns-clause-same g c =
    let v = c.args.written.now in
    let m = c.min.ensures in
    resized v.items c.resize.new.self.items c.args.count c.args.item (c.args.place + c.min.result) v.len (is_ok c.resize.result) v.ok.0 (omega arith) (omega arith) c.resize.ensures.items
