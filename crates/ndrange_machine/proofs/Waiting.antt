-- What a work-item does next: it steps, waits or has ended.
use Rattle.std.proofs.Common.{◌≡◌, inl, inr, ◌⊎◌, refl}
use Rattle.kernel_tree.specs.Item.{Wants, Ends, Waits}
use Rattle.kernel_tree.specs.Device.{CanStep, StandTogether}
use Rattle.kernel_tree.specs.Meets.{IsWaiting}

-- an item steps, waits or has ended
pub steps_or_not : (w : Wants) → CanStep w ⊎ (IsWaiting w ⊎ (w ≡ Ends))
steps_or_not Ends = inr (inr refl)
steps_or_not (Waits p q x) = inr (inl tt)
steps_or_not _ = inl tt

pub not_both : (w : Wants) → CanStep w → IsWaiting w → ⊥
not_both (Waits p q x) a b = a
not_both _ a b = b

-- items that stand together both wait
pub first_waits : (v w : Wants) → StandTogether v w → IsWaiting v
first_waits (Waits p q x) w h = tt
first_waits _ w h = absurd h

pub stand_waits : (v w : Wants) → StandTogether v w → IsWaiting w
stand_waits (Waits p q x) (Waits a b y) h = tt
stand_waits (Waits p q x) _ h = absurd h
stand_waits _ w h = absurd h
