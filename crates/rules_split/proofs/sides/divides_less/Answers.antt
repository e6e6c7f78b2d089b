use Rattle.std.proofs.Common.{◌≡◌, ◌∷◌, ◌∙◌, ap, sym, subst, rules, pos, ◌+ℤ◌}
use Rattle.std.specs.Prelude.{◌&&◌, neg_ℤ, int_rem, FitsSigned}
use Rattle.std.specs.Int.{w128}
use Rattle.std.proofs.lemmas.Int.{to_z-of_z}
use Rattle.size_arith.specs.Polynomial.{AllWide, is_zero, minus}
use Rattle.lift_tree.specs.Typing.{constant}
use Rattle.rules_split.specs.Tests.{divides}
use Rattle.rules_split.proofs.Less.{less_other, other_powers}
use Rattle.rules_split.proofs.sides.divides_less.Goals as goal

pub returns-else-eq : goal.returns-else-eq
returns-else-eq c =
    let k = c.args.k in
    let o = c.args.other in
    let e : c.args.length.now ≡ c.in-Some.first.now ∷ c.in-Some.rest.now = search rules in
    let w : AllWide 8 (c.in-Some.first.now ∷ c.in-Some.rest.now) = subst (AllWide 8) e c.requires.poly.wide in
    let fits : FitsSigned w128 c.less-else-eq.result = search rules in
    let f = simp to_z-of_z at c.divides_with-else-eq.ensures in
    f
    ∙ ap (λ z. is_zero (int_rem z (pos k)) && divides k c.args.length.now) c.less-else-eq.ensures
    ∙ ap (λ l. is_zero (int_rem (neg_ℤ (pos o) +ℤ pos 0) (pos k)) && divides k l) e
    ∙ less_other k o c.in-Some.first.now c.in-Some.rest.now c.requires.positive w (other_powers c.eq.result c.in-Some.first.now.powers c.if-eq.false c.eq.ensures)
    ∙ ap (λ l. divides k (minus l (constant o))) (sym e)
