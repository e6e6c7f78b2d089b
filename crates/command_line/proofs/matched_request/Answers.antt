use Rattle.std.proofs.Common.{◌∙◌, ap, inr, sym, map, string_bytes}
use Rattle.std.specs.Prelude.{option_map}
use Rattle.command_line.specs.Requests.{line_entered, line_of}
use Rattle.command_line.proofs.Entered.{taken-unseeded}
use Rattle.command_line.proofs.matched_request.Goals as goal

pub returns-clause-refused : goal.returns-clause-refused
returns-clause-refused c = λ _. inr (taken-unseeded (map string_bytes c.args.words.now) c.in_ok-matches.ensures.taken
    (ap (option_map line_of) (sym c.in-None.is) ∙ c.in_ok-request.ensures ∙ ap line_entered c.in_ok-matches.ensures.rows))
