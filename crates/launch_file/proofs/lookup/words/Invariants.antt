use Rattle.std.proofs.Common.{◌≡◌, ◌≤◌, ◌++◌, drop}
use Rattle.std.specs.Prelude.{length, option_map, vec_capacity, vec_len}
use Rattle.serde_json.specs.View.{items_view}
use Rattle.launch_file.specs.Json.{words_in}
use Rattle.launch_file.proofs.lookup.words.Given as goal

abbrev pub invariant-loop-value : goal.invariant-loop-value
invariant-loop-value l =
    (words_in (items_view l.values) ≡ option_map (λ ns. l.numbers.items ++ ns) (words_in (items_view (drop l.value-index l.values))))
    × (vec_len l.numbers ≡ l.value-index)
    × (length l.values ≤ vec_capacity l.numbers)
