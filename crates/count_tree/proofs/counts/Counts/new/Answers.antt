use Rattle.std.proofs.Common.{◌≡◌, ◌∙◌, ◌+◌, ◌-◌, ℕ, List, length, ap, sym, subst, arith}
use Rattle.std.specs.List.{sum}
use Rattle.std.specs.Vec.{with_items}
use Rattle.std.proofs.lemmas.List.{with_items_is}
use Rattle.count_tree.specs.Nodes.{AreCounts}
use Rattle.count_tree.proofs.Sums.{ones, ones_length, ones_sum}
use Rattle.count_tree.proofs.counts.Counts.new.Goals as goal

pub returns-clause-flags : goal.returns-clause-flags
returns-clause-flags c =
    let len : length c.deref_mut.result.now ≡ c.args.leaves = c.deref_mut.ensures.len ∙ c.in_ok-flags.ensures.len in
    with_items_is c.in_ok-flags.flags c.set_first.new.flags (c.set_first.auto.flags ∙ c.deref_mut.ensures.len)
    ∙ c.set_first.ensures
    ∙ ap (λ n. ones c.args.flagged (n - c.args.flagged)) len

pub returns-clause-tree : goal.returns-clause-tree
returns-clause-tree c =
    let len : length c.deref_mut-2.result.now ≡ c.args.leaves = c.deref_mut-2.ensures.len ∙ c.in_ok-lefts.ensures.len in
    let flags : List ℕ = (with_items c.in_ok-flags.flags c.set_first.new.flags).items in
    let lefts : List ℕ = (with_items c.in_ok-lefts.lefts c.count_up.new.lefts).items in
    let flags_are : flags ≡ ones c.args.flagged (c.args.leaves - c.args.flagged) = returns-clause-flags c in
    let lefts_are : lefts ≡ c.count_up.new.lefts = with_items_is c.in_ok-lefts.lefts c.count_up.new.lefts (c.count_up.auto.lefts ∙ c.deref_mut-2.ensures.len) in
    let counted : AreCounts (ones c.args.flagged (c.args.leaves - c.args.flagged)) c.count_up.new.lefts = subst (λ n. AreCounts (ones c.args.flagged (n - c.args.flagged)) c.count_up.new.lefts) len c.count_up.ensures in
    let count : length flags ≡ c.args.flagged + (c.args.leaves - c.args.flagged) = ap length flags_are ∙ ones_length c.args.flagged (c.args.leaves - c.args.flagged) in
    record {
      few = let a = c.requires.few in let b = c.requires.within in omega arith;
      counts = subst (λ xs. AreCounts xs lefts) (sym flags_are) (subst (AreCounts (ones c.args.flagged (c.args.leaves - c.args.flagged))) (sym lefts_are) counted);
      total = sym (ap sum flags_are ∙ ones_sum c.args.flagged (c.args.leaves - c.args.flagged));
    }
