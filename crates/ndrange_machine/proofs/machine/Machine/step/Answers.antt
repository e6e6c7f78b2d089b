use Rattle.std.proofs.Common.{◌≡◌, Option, None, ap, ◌∙◌}
use Rattle.kernel_tree.specs.declared.events.Access.{Access}
use Rattle.kernel_tree.specs.declared.events.Event.{Event}
use Rattle.kernel_tree.specs.declared.events.Event.TheVariants.{Step, Release}
use Rattle.kernel_tree.specs.declared.events.Fault.{Fault}
use Rattle.kernel_tree.specs.declared.events.FaultKind.{FaultKind}
use Rattle.std.proofs.Common.{ℕ}
use Rattle.kernel_tree.specs.Device.{Device, State, device_of, start_state, run}
use Rattle.kernel_tree.specs.Seen.{seen_of}
use Rattle.ndrange_machine.proofs.machine.Machine.step.Goals as goal

-- what is seen of an event, by its access and its fault
seen_is : (d : Device) (s : State) (e : Event) (lane : ℕ) (kind : Option FaultKind) (access : Option Access) (fault : Option Fault) → access ≡ (seen_of d s e 0 None).access → fault ≡ (seen_of d s e lane kind).fault → record { event = e; access = access; fault = fault } ≡ seen_of d s e lane kind
seen_is d s (Step k) lane kind access fault p q = ap (λ z. record { event = Step k; access = z; fault = fault }) p ∙ ap (λ z. record { event = Step k; access = (seen_of d s (Step k) 0 None).access; fault = z }) q
seen_is d s (Release g) lane kind access fault p q = ap (λ z. record { event = Release g; access = z; fault = fault }) p ∙ ap (λ z. record { event = Release g; access = None; fault = z }) q

pub returns-clause-takes : goal.returns-clause-takes
returns-clause-takes c = λ k l d es st clean en.
    let a = c.advance_by_want-fault.ensures.advances k l d es st clean en in
    let h = a.tells in
    record {
      stands = a.stands;
      tells = record { kind = h.kind; fault = h.is; lane = h.lane; in_lane = h.in_lane; is = seen_is (device_of k l d) (run (device_of k l d) (start_state k d) es) c.args.event h.lane h.kind c.access-access.result c.advance_by_want-fault.result (c.access-access.ensures k l d es st clean en) h.told };
    }
