use Rattle.std.proofs.Common.{List, ℕ, ◌≡◌, ◌+◌, ◌-◌, ◌++◌, ◌∷◌, [], length, take, set, pos, neg_ℤ, ◌≤ℤ◌, refl, sym, ap, ◌∙◌, subst, arith}
use Rattle.std.proofs.lemmas.List.{take_more_set, length-take-le}
use Rattle.size_arith.specs.Polynomial.{number}
use Rattle.size_arith.specs.Shown.{shifted}
use Rattle.size_arith.specs.Code.{AllAbove}
use Rattle.size_arith.proofs.Above.{all_from_above}
use Rattle.size_arith.proofs.Signs.{all_from_first}
use Rattle.size_arith.proofs.shown.+never_negative.Goals as goal

pub returns : goal.returns
returns t c =
    let r = c.requires.index in
    let i = c.if-index-leasts.false in
    let p = c.loop-power-test.false in (
      λ _. all_from_first
          (λ (js : List ℕ). pos 0 ≤ℤ shifted c.args.leasts.now (number (neg_ℤ (pos c.args.k)) ∷ c.args.monomials.now) js)
          (take c.args.index c.args.powers)
          (length c.args.leasts.now - c.args.index)
          (length c.args.leasts.now - (c.args.index + 1))
          c.args.left
          c.loop-power.power
          (omega arith)
          (omega arith)
          c.loop-power.invariant.shown,
      λ _. refl,
    )

pub returns-then-all_above_less : goal.returns-then-all_above_less
returns-then-all_above_less t c =
    let r = c.requires.index in
    let u = c.requires.names in
    let i = c.if-index-leasts.false in
    let w = c.loop-power.invariant.wide in
    let p = number (neg_ℤ (pos c.args.k)) ∷ c.args.monomials.now in
    let f : length (take c.args.index c.args.powers) ≡ c.args.index = ap length (sym c.loop-power.invariant.chosen) ∙ length-take-le c.args.index c.loop-power.next (omega arith) in
    let e : take (c.args.index + 1) (set c.loop-power.next c.args.index c.loop-power.power) ≡ take c.args.index c.args.powers ++ c.loop-power.power ∷ [] = take_more_set c.loop-power.next c.args.index c.loop-power.power (omega arith) ∙ ap (λ xs. xs ++ c.loop-power.power ∷ []) c.loop-power.invariant.chosen in
    let a : AllAbove (take (c.args.index + 1) (set c.loop-power.next c.args.index c.loop-power.power)) p = c.all_above_less.ensures.0 c.if-all_above_less.true in (
      λ _. all_from_above
          c.args.leasts.now
          c.args.k
          c.args.monomials.now
          (take c.args.index c.args.powers)
          (length c.args.leasts.now - c.args.index)
          (length c.args.leasts.now - (c.args.index + 1))
          c.args.left
          c.loop-power.power
          (omega arith)
          (omega arith)
          (omega arith)
          c.requires.wide
          (subst (λ js. AllAbove js p) e a)
          c.loop-power.invariant.shown,
      λ _. refl,
    )
