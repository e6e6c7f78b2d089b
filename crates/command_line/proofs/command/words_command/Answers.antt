use Rattle.std.proofs.Common.{◌≡◌, ◌∙◌, ◌<◌, ◌+◌, ap, sym, ℕ, List, [], length, map, take, slice_index_or, Bor}
use Rattle.std.proofs.lemmas.List.{map_more}
use Rattle.std.proofs.lemmas.List.Sums.{fold_push}
use Rattle.clap.specs.Words.{App, Text, new_app, with_rule}
use Rattle.command_line.specs.App.{words_command, word_rule}
use Rattle.command_line.proofs.command.words_command.Goals as goal

abbrev now : Bor Text → Text
now id = id.now

one_more : (name : Text) (ids : List (Bor Text)) (i : ℕ) (id : Bor Text) (old new : App) → i < length ids
    → old ≡ words_command name (map now (take i ids)) → new ≡ with_rule old (word_rule (slice_index_or ids i id).now)
    → new ≡ words_command name (map now (take (i + 1) ids))
one_more name ids i id old new lt e f =
    f ∙ ap (λ (a : App). with_rule a (word_rule (slice_index_or ids i id).now)) e
    ∙ sym (fold_push (λ (command : App) id. with_rule command (word_rule id)) (new_app name) (map now (take i ids)) (slice_index_or ids i id).now)
    ∙ ap (words_command name) (sym (map_more now ids i id lt))

pub loop-id-preserved : goal.loop-id-preserved
loop-id-preserved c = record {
  app = one_more c.args.name.now c.args.ids.now c.loop-id.id-index (record { ref_ptr = (0, 0); now = [] }) _ _ c.loop-id-test.true
      c.loop-id.invariant.app c.in_ok-command.ensures.app;
  local = c.in_ok-command.ensures.local;
}
