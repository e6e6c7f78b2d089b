use Rattle.std.proofs.Common.{◌≢◌, ◌∙◌, ◌<◌, length, set, sym, subst, arith}
use Rattle.std.specs.Prelude.{slice_index}
use Rattle.std.proofs.Math.ListN.{length-set}
use Rattle.std.proofs.lemmas.List.{with_items_is}
use Rattle.count_tree.specs.Nodes.{Nodes, AreCounts, IsTree, turned}
use Rattle.count_tree.proofs.Turns.{same_there, is_bit, turn_back, few_set, total_set}
use Rattle.count_tree.proofs.counts.Counts.put.Goals as goal

pub changed-self-inside-requires-clause-more : goal.changed-self-inside-requires-clause-more
changed-self-inside-requires-clause-more c = λ on.
    let t = subst (λ (n : Nodes). IsTree n) (sym c.self.view_is) c.requires.tree in
    let a = t.total in
    let b = few_set c.self.inside.flags.items t.counts.bits in
    let d = t.few in
    omega arith

pub mend-requires-clause-counts : goal.mend-requires-clause-counts
mend-requires-clause-counts c =
    let flags = c.self.inside.flags.items in
    let lefts = c.self.inside.lefts.items in
    let t = subst (λ (n : Nodes). IsTree n) (sym c.self.view_is) c.requires.tree in
    let within : c.args.place < length flags = subst (λ (n : Nodes). c.args.place < length n.flags) (sym c.self.view_is) c.requires.place in
    let differs : slice_index flags c.args.place ≢ c.flag_of-flag.result = λ e. c.if-index-flag.true (c.index.ensures ∙ same_there flags c.args.place c.index.result.now 0 within ∙ e) in
    subst (λ xs. AreCounts (turned xs c.args.place) c.deref_mut.result.now) (sym c.deref.ensures.value)
    (subst (AreCounts (turned (set flags c.args.place c.flag_of-flag.result) c.args.place)) (sym c.deref_mut.ensures.value)
    (subst (λ xs. AreCounts xs lefts) (sym (turn_back flags c.args.place c.flag_of-flag.result within (t.counts.bits c.args.place) (is_bit c.args.on c.flag_of-flag.result c.flag_of-flag.ensures) differs)) t.counts))

pub returns-then-index-flag-clause-tree : goal.returns-then-index-flag-clause-tree
returns-then-index-flag-clause-tree c =
    let flags = c.self.inside.flags.items in
    let t = subst (λ (n : Nodes). IsTree n) (sym c.self.view_is) c.requires.tree in
    let within : c.args.place < length flags = subst (λ (n : Nodes). c.args.place < length n.flags) (sym c.self.view_is) c.requires.place in
    let differs : slice_index flags c.args.place ≢ c.flag_of-flag.result = λ e. c.if-index-flag.true (c.index.ensures ∙ same_there flags c.args.place c.index.result.now 0 within ∙ e) in
    let lefts_are = with_items_is c.self.inside.lefts c.mend.new.lefts (c.mend.auto.lefts ∙ c.deref_mut.ensures.len) in
    record {
      few = let e = length-set flags c.args.place c.flag_of-flag.result in let a = t.few in omega arith;
      counts = subst (AreCounts (set flags c.args.place c.flag_of-flag.result)) (sym lefts_are) (subst (λ xs. AreCounts xs c.mend.new.lefts) c.deref.ensures.value c.mend.ensures);
      total = total_set flags c.args.place c.flag_of-flag.result c.self.inside.total c.changed-self-inside.result c.args.on within (t.counts.bits c.args.place) c.flag_of-flag.ensures differs t.total c.changed-self-inside.ensures.more c.changed-self-inside.ensures.fewer;
    }
