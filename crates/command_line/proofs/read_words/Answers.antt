use Rattle.std.proofs.Common.{map, string_bytes}
use Rattle.command_line.proofs.Forms.{plain-asks}
use Rattle.command_line.proofs.read_words.Goals as goal

pub returns-clause-plain : goal.returns-clause-plain
returns-clause-plain c = λ line e w. plain-asks (map string_bytes c.args.words.now) line e w
