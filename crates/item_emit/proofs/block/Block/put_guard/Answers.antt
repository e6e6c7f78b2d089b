use Rattle.std.proofs.Common.{sym}
use Rattle.item_emit.specs.Blocks.{code_in}
use Rattle.item_emit.proofs.Blocks.{guarded}
use Rattle.item_emit.proofs.block.Block.put_guard.Goals as goal

pub returns : goal.returns
returns c = rw (sym (guarded c.args.start c.args.bound c.into_statements.result (code_in c.args.self.now) (code_in c.args.body) c.into_statements.ensures)) c.put.ensures
