use Rattle.std.proofs.Common.{ap₂, ◌≡◌, ◌∙◌, Bor, List, [], ◌∷◌, map, rules}
use Rattle.std.proofs.lemmas.Result.{IfOk-weaker}
use Rattle.clap.specs.Words.{App, Text, with_subcommand}
use Rattle.command_line.specs.App.{kernel_commands, launch, program, script, seed, words_command}
use Rattle.command_line.proofs.command.lift_command.Goals as goal

one_more : (a outer : App) (name : Text) (ids words : List Text) → a ≡ outer → ids ≡ words → with_subcommand a (words_command name ids).top ≡ with_subcommand outer (words_command name words).top
one_more a outer name ids words p q = ap₂ (λ (x : App) (ws : List Text). with_subcommand x (words_command name ws).top) p q

abbrev texts_of : List (Bor Text) → List Text
texts_of ids = map (λ (id : Bor Text). id.now) ids

pub returns : goal.returns
returns c =
    let sources : texts_of c.as_slice-sources.result.now ≡ program ∷ script ∷ [] = search rules in
    let files : texts_of c.as_slice-files.result.now ≡ program ∷ script ∷ launch ∷ [] = search rules in
    let number : texts_of c.as_slice.result.now ≡ seed ∷ [] = search rules in
    let steps = c.in_ok-command.ensures.app ∙ one_more _ kernel_commands _ _ _ c.in_ok-kernel_commands.ensures.app sources in
    let stages = c.in_ok-command-2.ensures.app ∙ one_more _ _ _ _ _ steps sources in
    let run = c.in_ok-command-3.ensures.app ∙ one_more _ _ _ _ _ stages files in
    IfOk-weaker c.with_words-4.result _ _ (λ m h. h ∙ one_more _ _ _ _ _ run number) c.with_words-4.ensures.app
