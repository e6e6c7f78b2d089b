use Rattle.std.proofs.Common.{◌≡◌, ◌↔◌, ◌<◌, length, subst, ap, arith}
use Rattle.std.specs.Prelude.{IsTrue, slice_index, nat_eq}
use Rattle.std.proofs.lemmas.List.{get_or_read}
use Rattle.enabled_events.specs.Flags.{NoneSteps}
use Rattle.enabled_events.specs.Listed.{Flags}
use Rattle.enabled_events.proofs.Steps.{stopped}
use Rattle.enabled_events.proofs.ready.Ready.has_stopped.Goals as goal

pub returns : goal.returns
returns c =
    let r = c.self.inside in
    let lt : c.args.group < length r.groups.items = let e = ap (λ (v : Flags). length v.groups) c.self.view_is in let h = c.requires in omega arith in
    let long = c.self.invariant.1.long in
    let read : c.index.result.now ≡ slice_index r.steps.items c.args.group = get_or_read r.steps.items _ _ (omega arith) c.index.ensures 0 in
    subst (λ v. IsTrue (nat_eq c.index.result.now 0) ↔ NoneSteps v c.args.group) c.self.view_is
    (stopped r.grid r.items.items r.groups.items r.steps.items c.self.invariant.1 c.args.group lt (nat_eq c.index.result.now 0) (ap (λ n. nat_eq n 0) read))
