-- A word is told by its spelling. The proof that the rows are the grammar's (Decided) rests on it.
use Rattle.std.proofs.Common.{◌≡◌, ℕ, List, [], ◌∷◌, Some, true, refl, ap, sym, ◌∙◌}
use Rattle.std.specs.Prelude.{bytes_eq, nat_eq}
use Rattle.std.specs.Cmp.Lexicographic.{same_text}
use Rattle.std.proofs.lemmas.Bool.{eq-eqb, and_from}
use Rattle.std.proofs.lemmas.Option.{same_Some}
use Rattle.lift_reader.specs.declared.word.Word.{Word}
use Rattle.lift_reader.specs.declared.word.Word.TheVariants.{Size}
use Rattle.lift_reader.specs.Words.{spelling, word_of}

-- bytes are equal to themselves
pub itself : (x : List ℕ) → bytes_eq x x ≡ true
itself [] = refl
itself (b ∷ x) = and_from (nat_eq b b) (bytes_eq x x) (eq-eqb b b refl) (itself x)

-- each word again, one case for each: a clause that names one splits the words
again : (w : Word) → word_of (spelling w) ≡ Some w
unfolding word_of
again Size = refl
again _ = refl

-- words of one spelling are one
pub same_word : (a b : Word) → bytes_eq (spelling a) (spelling b) ≡ true → a ≡ b
same_word a b e =
    same_Some a b
    (sym (again a) ∙ ap word_of (same_text (spelling a) (spelling b) (sym e)) ∙ again b)
