use Rattle.length_spelling.proofs.Words.{lengths_are_of_words}
use Rattle.length_spelling.proofs.laws.lengths_are_of_words.Goals as goal

pub returns : goal.returns
returns c = lengths_are_of_words
