use Rattle.std.proofs.Common.{◌≡◌, ◌≤◌, ◌<◌, ◌+◌, ◌-◌, ◌^◌, length, set, false, ap, ◌∙◌, sym, subst, arith}
use Rattle.std.specs.Prelude.{slice_index, if◌then◌else◌}
use Rattle.std.proofs.lemmas.List.{get_or_read}
use Rattle.kernel_tree.specs.Launch.{item_count, group_of, group_count}
use Rattle.kernel_tree.proofs.Grouping.{group_in_launch}
use Rattle.enabled_events.specs.Grids.{laid}
use Rattle.enabled_events.specs.Flags.{CountSteps}
use Rattle.enabled_events.specs.Listed.{Flags}
use Rattle.enabled_events.proofs.Counts.{item_set}
use Rattle.enabled_events.proofs.Steps.{recount}
use Rattle.enabled_events.proofs.ready.Ready.set_item.Goals as goal

pub invariant_of-self : goal.invariant_of-self
invariant_of-self c =
    let r = c.self.inside in
    let k = c.args.item in
    let held = c.self.invariant.0 in
    let lt : k < length r.items.items = let e = ap (λ (v : Flags). length v.items) c.self.view_is in let h = c.requires in omega arith in
    let own : c.group_of-group.result ≡ group_of (laid r.grid) k = c.group_of-group.ensures in
    let inside : group_of (laid r.grid) k < group_count (laid r.grid) = group_in_launch (laid r.grid) held.small.whole k (let n = held.items_are in omega arith) in
    let within : group_of (laid r.grid) k < length r.groups.items = let n = held.groups_are in omega arith in
    let long = c.self.invariant.1.long in
    let count : c.index.result.now ≡ slice_index r.steps.items (group_of (laid r.grid) k) = get_or_read r.steps.items _ _ (omega arith) c.index.ensures 0 ∙ ap (slice_index r.steps.items) own in
    let flag = get_or_read r.items.items _ _ lt c.index-2.ensures false in
    let few = held.small.few in (
      item_set r.grid r.items.items r.groups.items r.places held k c.args.steps c.deref.result.now c.deref-2.result.now c.stands-flag.result c.set.new.self c.deref.ensures.value c.deref-2.ensures.value c.stands-flag.ensures c.set.ensures (let e = held.long in omega arith),
      subst (λ n. CountSteps r.grid (set r.items.items k c.args.steps) r.groups.items (set r.steps.items n c.recounted.result)) (sym own)
          (recount r.grid r.items.items r.groups.items r.steps.items c.self.invariant.1 k c.args.steps c.recounted.result lt within (let n = held.items_are in omega arith)
          (subst (λ b. (if b then 1 else 0) ≤ slice_index r.steps.items (group_of (laid r.grid) k) → slice_index r.steps.items (group_of (laid r.grid) k) < 2 ^ 32 - 1 → c.recounted.result + (if b then 1 else 0) ≡ slice_index r.steps.items (group_of (laid r.grid) k) + (if c.args.steps then 1 else 0)) flag
          (subst (λ m. (if c.index-2.result.now then 1 else 0) ≤ m → m < 2 ^ 32 - 1 → c.recounted.result + (if c.index-2.result.now then 1 else 0) ≡ m + (if c.args.steps then 1 else 0)) count c.recounted.ensures))),
    )

pub index-requires : goal.index-requires
index-requires c =
    let r = c.self.inside in
    let held = c.self.invariant.0 in
    let lt : c.args.item < item_count (laid r.grid) = let e = ap (λ (v : Flags). length v.items) c.self.view_is in let h = c.requires in let n = held.items_are in omega arith in
    let inside : group_of (laid r.grid) c.args.item < group_count (laid r.grid) = group_in_launch (laid r.grid) held.small.whole c.args.item lt in
    let own = c.group_of-group.ensures in
    let long = c.self.invariant.1.long in
    let count = held.groups_are in
    omega arith

pub index_mut-requires : goal.index_mut-requires
index_mut-requires c =
    let r = c.self.inside in
    let held = c.self.invariant.0 in
    let lt : c.args.item < item_count (laid r.grid) = let e = ap (λ (v : Flags). length v.items) c.self.view_is in let h = c.requires in let n = held.items_are in omega arith in
    let inside : group_of (laid r.grid) c.args.item < group_count (laid r.grid) = group_in_launch (laid r.grid) held.small.whole c.args.item lt in
    let own = c.group_of-group.ensures in
    let long = c.self.invariant.1.long in
    let count = held.groups_are in
    omega arith
