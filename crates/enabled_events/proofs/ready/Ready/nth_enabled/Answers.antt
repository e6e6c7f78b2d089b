use Rattle.std.proofs.Common.{◌∙◌, ap, sym, length, subst, arith}
use Rattle.enabled_events.specs.Flags.{IsPlaceOf}
use Rattle.enabled_events.specs.Listed.{Flags, flagged_events}
use Rattle.enabled_events.proofs.Counts.{all_counted, place_of_nth}
use Rattle.enabled_events.proofs.ready.Ready.nth_enabled.Goals as goal

pub first-requires : goal.first-requires
first-requires c =
    let r = c.self.inside in
    let e = all_counted r.grid r.items.items r.groups.items r.places c.self.invariant.0 ∙ ap (λ (v : Flags). length (flagged_events v)) c.self.view_is in
    let lt = c.requires in
    omega arith

pub event_of-requires : goal.event_of-requires
event_of-requires c =
    let r = c.self.inside in
    let said = c.first.ensures in
    subst (λ v. IsPlaceOf v c.first.result c.args.k) c.self.view_is
    (place_of_nth r.grid r.items.items r.groups.items r.places c.self.invariant.0 c.first.result c.args.k said.place (said.others ∙ sym c.if-k-eq0.true) said.there)
