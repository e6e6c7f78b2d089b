use Rattle.std.proofs.Common.{◌∙◌, sym}
use Rattle.indexmap.proofs.CallerLemmas.{insert_entry-new}
use Rattle.lift_reader.proofs.reader.marks.declare.Goals as goal

pub returns : goal.returns
returns o c = c.in_ok-insert.ensures.entries ∙ insert_entry-new _ c.args.declared.now c.args.name c.args.value (sym c.in_ok-insert.ensures.old ∙ c.in-None.is)
