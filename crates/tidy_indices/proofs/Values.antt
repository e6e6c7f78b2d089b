-- A ranged expression, and a simplified one, are spelled with their exact values.
use Rattle.std.proofs.Common.{◌≡◌, pos, Some, refl, sym, ap, ◌∙◌}
use Rattle.std.specs.Prelude.{unsigned_abs}
use Rattle.std.proofs.Math.Nat.{mod-eq_of_lt}
use Rattle.index_expr.specs.Expression.{Expression, Variable, Literal, Size, Binary}
use Rattle.index_expr.specs.Values.{wrapped}
use Rattle.index_expr.specs.Laws.{RangedValuesAreExact, RangedDivisorsStay}
use Rattle.kernel_tree.specs.Formula.{value}
use Rattle.length_spelling.specs.Turns.{turns_of}
use Rattle.length_spelling.specs.Formulas.{in_words, index_formula}
use Rattle.length_spelling.specs.Laws.{IndicesAreSpelled}
use Rattle.index_simplify.specs.Operations.{simple}
use Rattle.index_simplify.specs.Simplified.{HasWordLiterals}
use Rattle.index_simplify.specs.Promises.{ExpressionsAreSimplified}
use Rattle.tidy_indices.specs.Spelling.{RangedFormulasHaveTheValues, SimpleFormulasHaveTheValues}

of_words : (e : Expression) → HasWordLiterals e → in_words e ≡ e
of_words (Variable k l g) h = refl
of_words (Literal n) h = ap Literal (mod-eq_of_lt h)
of_words (Size k) h = refl
of_words (Binary o a b) h = ap (λ x. Binary o x (in_words b)) (of_words a h.0) ∙ ap (Binary o a) (of_words b h.1)

pub ranged_have_the_values : RangedValuesAreExact → RangedDivisorsStay → IndicesAreSpelled → RangedFormulasHaveTheValues
ranged_have_the_values exactly divide spelled ids loops variables e n sizes_fit turns_fit literals ranged divisors is =
    let turns = turns_of ids loops in
    let some = spelled ids loops variables e sizes_fit turns_fit (divide ids.sizes turns e ranged divisors) in
    let same : pos (wrapped ids.sizes turns e) ≡ pos n = exactly ids.sizes turns e ranged ∙ is in
    ap (λ f. value ids loops variables (index_formula f)) (sym (of_words e literals)) ∙ some ∙ ap (λ z. Some (unsigned_abs z)) same

pub have_the_values : ExpressionsAreSimplified → RangedFormulasHaveTheValues → SimpleFormulasHaveTheValues
have_the_values simplified spelled r ids loops variables e n sizes_fit turns_fit literals point ranged divisors is =
    let made = simplified r e in
    let stands = made.stands ids.sizes (turns_of ids loops) point in
    spelled ids loops variables (simple r e) n sizes_fit turns_fit (made.literals literals) (stands.ranged ranged) (stands.divisors divisors) (stands.value ∙ is)
