-- An alternative before what is owed.
use Rattle.std.proofs.Common.{◌≡◌, List, ◌++◌, ap, ◌∙◌}
use Rattle.std.proofs.lemmas.List.{map-append}
use Rattle.readings.specs.declared.owed.Owed.{Owed}
use Rattle.readings.specs.Views.{item_of}
use Rattle.lift_reader.specs.declared.grammar.Nonterminal.{Nonterminal}
use Rattle.lift_reader.specs.declared.grammar.Action.{Action}
use Rattle.lift_reader.specs.declared.token.Kind.{Kind}
use Rattle.lift_reader.specs.Forms.{items, nonterminal_of, action_of}
use Rattle.lift_reader.specs.Shown.{lexeme}

pub given : (alternative old new : List (Owed Kind Nonterminal Action)) → new ≡ alternative ++ old → items new ≡ items alternative ++ items old
given alternative old new e = ap items e ∙ map-append (item_of lexeme nonterminal_of action_of) alternative old
