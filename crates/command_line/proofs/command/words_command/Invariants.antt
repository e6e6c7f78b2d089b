use Rattle.std.proofs.Common.{◌≡◌, false, map, take}
use Rattle.clap.specs.Words.{app_of}
use Rattle.clap.specs.declared.Command.TheViews.{out-Command}
use Rattle.command_line.specs.App as spec
use Rattle.command_line.proofs.command.words_command.Given as goal

abbrev pub invariant-loop-id : goal.invariant-loop-id
invariant-loop-id l = record {
  app : app_of l.command ≡ spec.words_command l.name (map (λ id. id.now) (take l.id-index l.ids));
  local : (out-Command l.command).has_globals ≡ false;
}
