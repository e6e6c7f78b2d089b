-- That every run of a kernel keeps the headline has one proof at most, so that a type can keep it.
use Rattle.std.proofs.Common.{◌≡◌, ◌∙◌, ℕ, List, [], ◌∷◌, Bool, true, false, true≢false, refl, sym, ap}
use Rattle.std.proofs.Props.{props}
use Rattle.std.proofs.Math.Path.{path_j}
use Rattle.kernel_tree.specs.declared.events.Event.{Event}
use Rattle.kernel_tree.specs.Code.{Kernel}
use Rattle.kernel_tree.specs.Launch.{Launch, Cells}
use Rattle.kernel_tree.specs.Item.{Wants, Ends, Waits, Moves, Reads, Writes, ReadsFour, WritesFour, Fails}
use Rattle.kernel_tree.specs.Device.{Device, State, after}
use Rattle.kernel_tree.specs.Faults.{NoFailure, NoDivergence}
use Rattle.printed_form.specs.Headline.{EveryRunLeaves, EveryRunKeeps}

abbrev ends : Wants → Bool
ends Ends = true
ends _ = false

abbrev is_end : (w : Wants) → ends w ≡ true → w ≡ Ends
is_end Ends e = refl
is_end (Waits a b x) e = absurd (true≢false (sym e))
is_end (Moves x) e = absurd (true≢false (sym e))
is_end (Reads a n f) e = absurd (true≢false (sym e))
is_end (Writes a n v x) e = absurd (true≢false (sym e))
is_end (ReadsFour a n f) e = absurd (true≢false (sym e))
is_end (WritesFour a n u x) e = absurd (true≢false (sym e))
is_end (Fails f) e = absurd (true≢false (sym e))

-- an equation with the end is the one that the test gives
end_is : (w : Wants) (p : Ends ≡ w) → p ≡ sym (is_end w (ap ends (sym p)))
end_is w p = path_j (λ (v : Wants) (q : Ends ≡ v). q ≡ sym (is_end v (ap ends (sym q)))) refl p

pub ends_once : (w : Wants) → IsProp (w ≡ Ends)
ends_once Ends p q = end_is Ends p ∙ sym (end_is Ends q)
ends_once (Waits a b x) p q = absurd (true≢false (sym (ap ends p)))
ends_once (Moves x) p q = absurd (true≢false (sym (ap ends p)))
ends_once (Reads a n f) p q = absurd (true≢false (sym (ap ends p)))
ends_once (Writes a n v x) p q = absurd (true≢false (sym (ap ends p)))
ends_once (ReadsFour a n f) p q = absurd (true≢false (sym (ap ends p)))
ends_once (WritesFour a n u x) p q = absurd (true≢false (sym (ap ends p)))
ends_once (Fails f) p q = absurd (true≢false (sym (ap ends p)))

pub no_failure_once : (d : Device) (s : State) (es : List Event) → IsProp (NoFailure d s es)
no_failure_once d s [] = Prim.hlevel props
no_failure_once d s (e ∷ es) = let rest = no_failure_once d (after d s e) es in Prim.hlevel (rest, props)

pub no_divergence_once : (d : Device) (s : State) (es : List Event) → IsProp (NoDivergence d s es)
no_divergence_once d s [] = Prim.hlevel props
no_divergence_once d s (e ∷ es) = let rest = no_divergence_once d (after d s e) es in Prim.hlevel (rest, props)

pub keeps_once : (k : Kernel) (l : Launch) (c : Cells) (owner : ℕ → ℕ → ℕ) (wanted : List (List ℕ)) → IsProp (EveryRunKeeps k l c owner wanted)
keeps_once k l c owner wanted = Prim.hlevel (ends_once, no_failure_once, no_divergence_once, props)

pub leaves_once : (k : Kernel) (l : Launch) (c : Cells) (wanted : List (List ℕ)) → IsProp (EveryRunLeaves k l c wanted)
leaves_once k l c wanted = Prim.hlevel (ends_once, no_failure_once, no_divergence_once, props)
