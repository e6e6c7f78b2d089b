use Rattle.length_spelling.proofs.Values.{Exact, lengths_are_spelled}
use Rattle.length_spelling.proofs.laws.lengths_are_spelled.Goals as goal

pub returns : goal.returns
returns c =
    let known : Exact = record {
      value = c.lengths_are_exact.ensures.value;
      ranged = c.lengths_are_exact.ensures.ranged;
      divisors = c.lengths_are_exact.ensures.divisors;
      words = c.ranged_values_are_exact.ensures.value;
      divisors_in_words = c.ranged_values_are_exact.ensures.divisors;
    } in
    lengths_are_spelled known
